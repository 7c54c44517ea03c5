-- The tokens of texts: what the tables say of any text, in the rules' words. Assumes nothing.
use mathlib.Core.Bool.{Bool, true, false, not, cond, ◌&&◌, ◌||◌}
use mathlib.Core.Path.{◌≡◌, refl, sym, ap, ap₂, ◌∙◌}
use mathlib.Core.List.{List, [], ◌∷◌, ◌++◌}
use Prim.Native.Nat.{ℕ, zero, suc, ◌<◌}
use native.Mathlib.Nat.{le_of_suc-le-suc, not-suc-le-zero}
use native.Mathlib.Omega.{arith}
use lib.Dec.{leb, eqb}
use Rattle.std.specs.Prelude.{None, ℤ, pos, nat_abs}
use Rattle.numbers.proofs.Laws.{same_eq_ℤ, same_refl_ℤ}
use lib.ListN.{length, get_or, take}
use borrow.Author.Tests.{eq-eqb, eqb-true, leb-true, lt-leb, not-true}
use Rattle.std.proofs.lemmas.Slice.Eq.{HasBytesAt, text_from_reads}
use Rattle.rules.specs.Lists.{bytes, same, any, all}
use Rattle.rules.specs.Words.{letter, digit, sign, starts_by, is_literal, is_ident}
use Rattle.rules.specs.Words as W
use Rattle.rules.proofs.Exactness.Promise.{and_left, and_right}
use Rattle.rules.proofs.Wellformed.Tests.{all_map}
use Rattle.lexer.specs.Lexed.{rank, content, same_token, Fixed, fixed, kept_words, signs, token_in, kept_token, other_token, token_of, sign_in, Small}
use Rattle.lexer.specs.declared.Token.{Token}
use Rattle.lexer.specs.declared.Token.TheVariants as T
use Rattle.lexer.proofs.Names.{by_test}

pub same_eq : (x y : List ℕ) → same x y ≡ true → x ≡ y
same_eq [] [] e = refl
same_eq [] (b ∷ y) e = cc
same_eq (a ∷ x) [] e = cc
same_eq (a ∷ x) (b ∷ y) e =
    ap₂ {C = List ℕ} (λ c z. c ∷ z) (eqb-true a b (and_left (eqb a b) (same x y) e)) (same_eq x y (and_right (eqb a b) (same x y) e))

-- ---- the test of tokens

token_from : ℕ → ℤ → Token
token_from r c =
    cond (eqb r 0) T.EndOfText
    (cond (eqb r 1) T.Name
    (cond (eqb r 2) (T.Number c)
    (cond (eqb r 3) T.Def
    (cond (eqb r 4) T.Class
    (cond (eqb r 5) T.End
    (cond (eqb r 6) T.Return (cond (eqb r 7) T.If (cond (eqb r 8) T.Else (cond (eqb r 9) T.AttrAccessor (T.Sign (nat_abs c)))))))))))

token_back : (a : Token) → token_from (rank a) (content a) ≡ a
unfolding token_from
token_back T.EndOfText = refl
token_back T.Name = refl
token_back (T.Number n) = refl
token_back T.Def = refl
token_back T.Class = refl
token_back T.End = refl
token_back T.Return = refl
token_back T.If = refl
token_back T.Else = refl
token_back T.AttrAccessor = refl
token_back (T.Sign b) = refl

pub token-true : (a b : Token) → same_token a b ≡ true → a ≡ b
token-true a b e =
    let r = eqb-true (rank a) (rank b) (and_left _ _ e) in
    let c = same_eq_ℤ (content a) (content b) (and_right (eqb (rank a) (rank b)) _ e) in
    sym (token_back a) ∙ ap₂ {C = Token} token_from r c ∙ token_back b

pub token-yes : (a b : Token) → a ≡ b → same_token a b ≡ true
token-yes a b e = rw (e, eq-eqb (rank b) (rank b) refl, same_refl_ℤ (content b))

pub token-no : (a b : Token) → (a ≡ b → ⊥) → same_token a b ≡ false
token-no a b e = by_test (λ t. t ≡ false) (same_token a b) (λ h. absurd (e (token-true a b h))) (λ _. refl)

-- ---- tables

-- every text that the table does not have gets d; so does one that begins as no text of the table does
pub token_default : (f : ℕ → Bool) (l : List Fixed) (t : List ℕ) (d : Token) → all (λ (x : Fixed). not (starts_by f x.text)) l ≡ true → starts_by f t ≡ true
    → token_in l t d ≡ d
token_default f [] t d a h = refl
token_default f (x ∷ l) t d a h =
    by_test (λ b. cond b x.token (token_in l t d) ≡ d) (same t x.text)
    (λ e.
    let n = not-true (starts_by f x.text) (and_left (not (starts_by f x.text)) (all (λ (y : Fixed). not (starts_by f y.text)) l) a) in
    let z = rw (same_eq t x.text e) at h in
    cc)
    (λ e. token_default f l t d (and_right (not (starts_by f x.text)) (all (λ (y : Fixed). not (starts_by f y.text)) l) a) h)

-- what holds of the table's tokens and of d holds of every text's token
pub token-all : (f : Token → Bool) (l : List Fixed) (t : List ℕ) (d : Token) → all (λ (x : Fixed). f x.token) l ≡ true → f d ≡ true → f (token_in l t d) ≡ true
token-all f [] t d a h = h
token-all f (x ∷ l) t d a h =
    by_test (λ b. f (cond b x.token (token_in l t d)) ≡ true) (same t x.text) (λ e. and_left (f x.token) (all (λ (y : Fixed). f y.token) l) a)
    (λ e. token-all f l t d (and_right (f x.token) (all (λ (y : Fixed). f y.token) l) a) h)

-- no text gets a token that neither the table has nor d is
pub token-not : (l : List Fixed) (t : List ℕ) (d k : Token) → all (λ (x : Fixed). not (same_token x.token k)) l ≡ true → same_token d k ≡ false → same_token (token_in l t d) k ≡ false
token-not l t d k a h = not-true (same_token (token_in l t d) k) (token-all (λ j. not (same_token j k)) l t d a (rw h))

-- neither a text nor a token stands in the table twice
abbrev pub apart : Fixed → Fixed → Bool
apart x y = not (same x.text y.text) && (not (same_token x.token y.token) && not (same_token y.token x.token))

abbrev pub plain : List Fixed → Bool
plain [] = true
plain (x ∷ l) = all (apart x) l && plain l

all-at : {A : Type 0} (f : A → Bool) (l : List A) (i : ℕ) (d : A) → all f l ≡ true → i < length l → f (get_or l i d) ≡ true
all-at f [] i d a h = absurd (not-suc-le-zero h)
all-at f (x ∷ l) zero d a h = and_left (f x) (all f l) a
all-at f (x ∷ l) (suc i) d a h = all-at f l i d (and_right (f x) (all f l) a) (le_of_suc-le-suc h)

-- a text is that of a table's entry just where its token is that entry's
entry-token : (l : List Fixed) (t : List ℕ) (d : Token) (i : ℕ) (e : Fixed) → plain l ≡ true → all (λ (x : Fixed). not (same_token d x.token)) l ≡ true → i < length l
    → same t (get_or l i e).text ≡ same_token (token_in l t d) (get_or l i e).token
entry-token [] t d i e p a h = absurd (not-suc-le-zero h)
entry-token (x ∷ l) t d zero e p a h =
    by_test (λ b. b ≡ same_token (cond b x.token (token_in l t d)) x.token) (same t x.text) (λ f. sym (token-yes x.token x.token refl))
    (λ f.
    sym
    (token-not l t d x.token
    (all_map (apart x) (λ (y : Fixed). not (same_token y.token x.token)) l
    (λ y g. and_right (not (same_token x.token y.token)) _ (and_right (not (same x.text y.text)) _ g))
    (and_left (all (apart x) l) (plain l) p))
    (not-true (same_token d x.token) (and_left (not (same_token d x.token)) _ a))))
entry-token (x ∷ l) t d (suc i) e p a h =
    let y = get_or l i e in
    by_test (λ b. same t y.text ≡ same_token (cond b x.token (token_in l t d)) y.token) (same t x.text)
    (λ f.
    let g = all-at (apart x) l i e (and_left (all (apart x) l) (plain l) p) (le_of_suc-le-suc h) in
    rw (
      same_eq t x.text f,
      not-true (same x.text y.text) (and_left _ _ g),
      not-true (same_token x.token y.token) (and_left _ _ (and_right (not (same x.text y.text)) _ g)),
    ))
    (λ f. entry-token l t d i e (and_right (all (apart x) l) (plain l) p) (and_right (not (same_token d x.token)) _ a) (le_of_suc-le-suc h))

-- ---- kept words, by their bytes

-- a text of another length than p, or that begins otherwise
abbrev Apart : List ℕ → List ℕ → Type 0
Apart t p = length t ≡ length p → get_or t 0 0 ≡ get_or p 0 0 → get_or t 1 0 ≡ get_or p 1 0 → get_or t 2 0 ≡ get_or p 2 0 → ⊥

apart_no : (t p : List ℕ) → Apart t p → same t p ≡ false
apart_no t p h =
    by_test (λ q. q ≡ false) (same t p)
    (λ f. let g = same_eq t p f in absurd (h (ap length g) (ap (λ l. get_or l 0 0) g) (ap (λ l. get_or l 1 0) g) (ap (λ l. get_or l 2 0) g))) (λ f. refl)

pub kept_none : (t : List ℕ) → Apart t (bytes "def") → Apart t (bytes "class") → Apart t (bytes "end") → Apart t (bytes "return") → Apart t (bytes "if")
    → Apart t (bytes "else") → Apart t (bytes "attr_accessor") → T.Name ≡ kept_token t
kept_none t a b c d e f g =
    rw (
      apart_no t (bytes "def") a,
      apart_no t (bytes "class") b,
      apart_no t (bytes "end") c,
      apart_no t (bytes "return") d,
      apart_no t (bytes "if") e,
      apart_no t (bytes "else") f,
      apart_no t (bytes "attr_accessor") g,
    )
    refl

pub kept_return : (t : List ℕ) → length t ≡ 6 → HasBytesAt t 0 (bytes "return") → T.Return ≡ kept_token t
kept_return t e h = rw (text_from_reads t (bytes "return") e h) refl

pub kept_attr : (t : List ℕ) → length t ≡ 13 → HasBytesAt t 0 (bytes "attr_accessor") → T.AttrAccessor ≡ kept_token t
kept_attr t e h = rw (text_from_reads t (bytes "attr_accessor") e h) refl

-- ---- all texts

abbrev pub table : List Fixed
table = kept_words ++ signs

-- the token of a text of neither table
other_cases : (P : Token → Type 0) → P T.Name → ((n : ℤ) → P (T.Number n)) → P (T.Sign 255) → (t : List ℕ) → P (other_token t)
other_cases P a b c t =
    by_test (λ l. P (cond l T.Name (cond (starts_by digit t) (T.Number (pos (W.decimal 0 t))) (T.Sign 255)))) (starts_by letter t) (λ _. a)
    (λ _. by_test (λ d. P (cond d (T.Number (pos (W.decimal 0 t))) (T.Sign 255))) (starts_by digit t) (λ _. b (pos (W.decimal 0 t))) (λ _. c))

-- the i-th fixed word, by its token: at 0 this is `same t (bytes "def") ≡ same_token (token_of t) T.Def`
pub fixed-token : (t : List ℕ) (i : ℕ) → i < length table
    → same t (get_or table i (fixed [] T.EndOfText)).text ≡ same_token (token_of t) (get_or table i (fixed [] T.EndOfText)).token
unfolding token_of
fixed-token t i h =
    entry-token table t (other_token t) i (fixed [] T.EndOfText) refl
    (other_cases (λ d. all (λ (x : Fixed). not (same_token d x.token)) table ≡ true) refl (λ n. refl) refl t) h

-- no byte is both a letter and a digit
letter-digit : (b : ℕ) → letter b ≡ true → digit b ≡ false
letter-digit b e =
    by_test (λ t. t && leb b 57 ≡ false) (leb 48 b)
    (λ f.
    by_test (λ t. t ≡ false) (leb b 57)
    (λ g.
    let h = leb-true b 57 g in
    let z : letter b ≡ false = rw (lt-leb 65 b (omega arith), lt-leb 97 b (omega arith)) in
    cc)
    (λ g. refl))
    (λ f. refl)

pub starts-letter : (t : List ℕ) → starts_by letter t ≡ true → starts_by digit t ≡ false
starts-letter [] e = refl
starts-letter (b ∷ l) e = letter-digit b e

kept-is : (t : List ℕ) → starts_by letter t ≡ true → token_of t ≡ kept_token t
unfolding token_of
kept-is t e = rw (token_default letter signs t (other_token t) refl e, e)

-- of a word that begins with a letter, with a digit, of a sign and of the end of text
pub token-letter : (t : List ℕ) {k : Token} → starts_by letter t ≡ true → k ≡ kept_token t → k ≡ token_of t
token-letter t e f = f ∙ sym (kept-is t e)

pub token-digit : (t : List ℕ) {v : ℕ} → starts_by letter t ≡ false → starts_by digit t ≡ true → v ≡ W.decimal 0 t → T.Number (pos v) ≡ token_of t
unfolding token_of
token-digit t e f g = rw (token_default digit table t (other_token t) refl f, e, f, g)

any-all : (f : ℕ → Bool) (l : List ℕ) (b : ℕ) → all f l ≡ true → any (eqb b) l ≡ true → f b ≡ true
any-all f [] b a e = cc
any-all f (x ∷ l) b a e =
    by_test (λ t. (t || any (eqb b) l) ≡ true → f b ≡ true) (eqb b x) (λ g h. rw (eqb-true b x g) (and_left (f x) (all f l) a))
    (λ g h. any-all f l b (and_right (f x) (all f l) a) h) e

pub token-sign : (b : ℕ) → sign b ≡ true → T.Sign b ≡ token_of (b ∷ [])
unfolding token_of
token-sign b e =
    token-true (T.Sign b) (token_of (b ∷ [])) (any-all (λ c. same_token (T.Sign c) (token_of (c ∷ []))) (Rattle.rules.specs.Lists.bytes "(),+-*=<.:@") b refl e)

pub token-end : T.EndOfText ≡ token_of []
unfolding token_of
token-end = refl

-- a word that begins with a letter is no sign
pub kept_unsigned : (t : List ℕ) (n : ℕ) → sign_in (kept_token t) n ≡ None
kept_unsigned t n =
    by_token (kept_token t) (token-all (λ k. not (eqb (rank k) 10)) kept_words t T.Name refl refl)
  where
    by_token : (k : Token) → not (eqb (rank k) 10) ≡ true → sign_in k n ≡ None
    by_token T.EndOfText h = refl
    by_token T.Name h = refl
    by_token (T.Number v) h = refl
    by_token T.Def h = refl
    by_token T.Class h = refl
    by_token T.End h = refl
    by_token T.Return h = refl
    by_token T.If h = refl
    by_token T.Else h = refl
    by_token T.AttrAccessor h = refl
    by_token (T.Sign b) h = cc

pub kept_small : (t : List ℕ) {k : Token} → k ≡ kept_token t → Small k
kept_small t {k} e n p =
    let h : eqb (rank (T.Number (pos n))) 2 ≡ true = refl in
    let g = token-all (λ j. not (eqb (rank j) 2)) kept_words t T.Name refl refl in
    let q : kept_token t ≡ T.Number (pos n) = cc in
    let z = rw q at g in
    cc

seven : (a b c d e f g : Bool)
    → cond (a || b || c || d || e || f || g) false true
    ≡ same_token (cond a T.Def (cond b T.Class (cond c T.End (cond d T.Return (cond e T.If (cond f T.Else (cond g T.AttrAccessor T.Name))))))) T.Name
seven true b c d e f g = refl
seven false true c d e f g = refl
seven false false true d e f g = refl
seven false false false true e f g = refl
seven false false false false true f g = refl
seven false false false false false true g = refl
seven false false false false false false true = refl
seven false false false false false false false = refl

-- which words are names, and which are literals
pub ident_token : (w : W.Word) → is_ident w ≡ same_token (token_of w.text) T.Name
unfolding token_of
ident_token w =
    by_test (λ l. starts_by letter w.text ≡ l → (l && cond (W.kept w) false true) ≡ same_token (token_of w.text) T.Name) (starts_by letter w.text)
    (λ _ e. rw (kept-is w.text e) (seven (W.is w "def") (W.is w "class") (W.is w "end") (W.is w "return") (W.is w "if") (W.is w "else") (W.is w "attr_accessor")))
    (λ _ e.
    sym
    (token-not table w.text (other_token w.text) T.Name refl
    (rw e (by_test (λ d. same_token (cond d (T.Number (pos (W.decimal 0 w.text))) (T.Sign 255)) T.Name ≡ false) (starts_by digit w.text) (λ _. refl) (λ _. refl)))))
    refl

pub literal_token : (w : W.Word) → is_literal w ≡ eqb (rank (token_of w.text)) 2
unfolding token_of
literal_token w =
    by_test (λ d. starts_by digit w.text ≡ d → d ≡ eqb (rank (token_of w.text)) 2) (starts_by digit w.text)
    (λ _ e.
    by_test (λ l. starts_by letter w.text ≡ l → true ≡ eqb (rank (token_of w.text)) 2) (starts_by letter w.text)
    (λ _ f. let z = starts-letter w.text f in cc)
    (λ _ f. rw (← token-digit w.text f e refl))
    refl)
    (λ _ e.
    sym
    (not-true (eqb (rank (token_in table w.text (other_token w.text))) 2)
    (token-all (λ k. not (eqb (rank k) 2)) table w.text (other_token w.text) refl
    (rw e (by_test (λ l. not (eqb (rank (cond l T.Name (T.Sign 255))) 2) ≡ true) (starts_by letter w.text) (λ _. refl) (λ _. refl))))))
    refl

-- a literal's value is the number that it writes
pub number_value : (t : List ℕ) {n : ℤ} → T.Number n ≡ token_of t → n ≡ pos (W.decimal 0 t)
number_value t {n} e =
    by_test (λ d. starts_by digit t ≡ d → n ≡ pos (W.decimal 0 t)) (starts_by digit t)
    (λ _ f.
    by_test (λ l. starts_by letter t ≡ l → n ≡ pos (W.decimal 0 t)) (starts_by letter t)
    (λ _ g. let z = starts-letter t g in cc)
    (λ _ g. let h : T.Number n ≡ T.Number (pos (W.decimal 0 t)) = e ∙ sym (token-digit t g f refl) in cc)
    refl)
    (λ _ f. let h = literal_token (record { text = t; next = 0 }) in let k : eqb (rank (token_of t)) 2 ≡ true = rw (← e) refl in cc)
    refl

-- the byte of a sign; no sign has 0
abbrev pub byte_of : Token → ℕ
byte_of (T.Sign b) = b
byte_of _ = 0

pub same_sign : (k : Token) (b : ℕ) → eqb 0 b ≡ false → same_token k (T.Sign b) ≡ eqb (byte_of k) b
same_sign T.EndOfText b e = sym e
same_sign T.Name b e = sym e
same_sign (T.Number n) b e = sym e
same_sign T.Def b e = sym e
same_sign T.Class b e = sym e
same_sign T.End b e = sym e
same_sign T.Return b e = sym e
same_sign T.If b e = sym e
same_sign T.Else b e = sym e
same_sign T.AttrAccessor b e = sym e
same_sign (T.Sign a) b e = refl

pub byte_none : (k : Token) → ((b : ℕ) → k ≡ T.Sign b → ⊥) → byte_of k ≡ 0
byte_none T.EndOfText f = refl
byte_none T.Name f = refl
byte_none (T.Number n) f = refl
byte_none T.Def f = refl
byte_none T.Class f = refl
byte_none T.End f = refl
byte_none T.Return f = refl
byte_none T.If f = refl
byte_none T.Else f = refl
byte_none T.AttrAccessor f = refl
byte_none (T.Sign a) f = absurd (f a refl)

-- a part of a text begins as the text does
pub starts-take : (f : ℕ → Bool) (n : ℕ) (l : List ℕ) → 0 < n → starts_by f (take n l) ≡ starts_by f l
starts-take f zero l h = absurd (not-suc-le-zero h)
starts-take f (suc n) [] h = refl
starts-take f (suc n) (b ∷ l) h = refl
