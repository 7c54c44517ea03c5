-- The word reader: what each way through it shows, on plain values. Assumes nothing.
use mathlib.Core.Bool.{Bool, true, false, not, cond}
use mathlib.Core.Path.{◌≡◌, refl, sym, ap, ◌∙◌}
use mathlib.Core.List.{List, [], ◌∷◌}
use Prim.Native.Nat.{ℕ, suc, ◌+◌, ◌-◌, ◌≤◌, ◌<◌, ◌^◌}
use native.Mathlib.Omega.{arith}
use lib.Dec.{ltb}
use lib.ListN.{length, get_or, take, drop, length-drop, drop_of_length-le}
use lib.Seq.{drop-cons}
use mir.Syntax.{w64}
use mir.Val.{SFits}
use borrow.Author.Tests.{lt-ltb, le-ltb, ltb-true, ltb-false}
use Rattle.std.specs.Prelude.{Option, Some, None, is_some, Result, Ok, Err, ℤ, pos}
use Rattle.refusals.specs.declared.Refusal.{Refusal}
use Rattle.refusals.specs.declared.Refusal.TheVariants as R
use Rattle.rules.specs.Actions.{answered, refused}
use Rattle.rules.specs.Words.{blank, letter, in_word, digit, sign, run, decimal, word, word_of, word_at, starts_by}
use Rattle.rules.specs.Words as W
use Rattle.lexer.specs.Names.{name}
use Rattle.lexer.specs.Lexed.{kept_token, fitting, Lexes, glimpse_of, sign_in, Glances}
use Rattle.lexer.specs.declared.Token.{Token}
use Rattle.lexer.specs.declared.Token.TheVariants as T
use Rattle.lexer.specs.declared.Word.{Word}
use Rattle.lexer.proofs.Names.{by_test, name-none}
use Rattle.lexer.proofs.Runs.{run-yes}
use Rattle.lexer.proofs.Texts.{starts-take, token-letter, token-digit, token-sign, token-end, kept_unsigned, kept_small}

run_le : (f : ℕ → Bool) (l : List ℕ) → run f l ≤ length l
run_le f [] = omega arith
run_le f (b ∷ l) =
    by_test (λ t. elim t as (λ _. ℕ) [ true ↦ suc (run f l) | false ↦ 0 ] ≤ suc (length l)) (f b) (λ _. omega (arith, run_le f l)) (λ _. omega arith)

run-pos : (f : ℕ → Bool) (l : List ℕ) → starts_by f l ≡ true → 0 < run f l
run-pos f [] e = let z : ◌≡◌ {A = ℕ} 0 1 = cc in omega arith
run-pos f (b ∷ l) e = rw (run-yes f b l e) (omega arith)

letter_in_word : (l : List ℕ) → starts_by letter l ≡ true → starts_by in_word l ≡ true
letter_in_word [] e = e
letter_in_word (b ∷ l) e = rw e

-- the rules' reader, by the byte that stands in front
of_letter : (l : List ℕ) (at : ℕ) → starts_by letter l ≡ true → word_of l at ≡ answered (word l at (run in_word l))
of_letter [] at e = cc
of_letter (b ∷ l) at e = rw e

of_digit : (l : List ℕ) (at : ℕ) → starts_by letter l ≡ false → starts_by digit l ≡ true → word_of l at ≡ W.fitting (word l at (run digit l))
of_digit [] at e f = cc
of_digit (b ∷ l) at e f = rw (e, f)

of_sign : (l : List ℕ) (at : ℕ) → starts_by letter l ≡ false → starts_by digit l ≡ false → starts_by sign l ≡ true → word_of l at ≡ answered (word l at 1)
of_sign [] at e f g = cc
of_sign (b ∷ l) at e f g = rw (e, f, g)

of_none : (b : ℕ) (l : List ℕ) (at : ℕ) → letter b ≡ false → digit b ≡ false → sign b ≡ false → word_of (b ∷ l) at ≡ refused 3
of_none b l at e f g = rw (e, f, g)

-- a number that i64 holds, and one that it doesn't
module _ (x : ℕ) where
  fits : {v : ℤ} → Some v ≡ fitting x → (v ≡ pos x) × (x < 2 ^ 63)
  unfolding fitting
  fits {v} p =
      by_test (λ t. Some v ≡ cond t (Some (pos x)) None → (v ≡ pos x) × (x < 2 ^ 63)) (ltb x (2 ^ 63)) (λ h e. (cc, ltb-true x (2 ^ 63) h)) (λ h e. cc) p

  pub in_i64 : {v : ℤ} {o : Option ℤ} → o ≡ fitting x → o ≡ Some v → SFits w64 v
  in_i64 known of = let fit = fits (sym of ∙ known) in record { sfits = rw fit.0 fit.1 }

  over : None ≡ fitting x → 2 ^ 63 ≤ x
  unfolding fitting
  over p = by_test (λ t. ◌≡◌ {A = Option ℤ} None (cond t (Some (pos x)) None) → 2 ^ 63 ≤ x) (ltb x (2 ^ 63)) (λ h e. cc) (λ h e. ltb-false x (2 ^ 63) h) p

-- ---- a word that starts at `start`, behind the blanks from `at` on

module _ (s : List ℕ) (at start : ℕ) (e : start ≡ at + run blank (drop at s)) where
  at-start : word_at s at ≡ word_of (drop start s) start
  unfolding word_at
  at-start = rw (← e)

  start_in_lem : at ≤ length s → start ≤ length s
  start_in_lem h = omega (arith, e, run_le blank (drop at s), length-drop at s)

  pub word_end : length s ≤ start → Lexes s at (Ok (record { token = T.EndOfText; start = start; len = 0; next = start }))
  word_end h =
      record {
        is = rw (at-start, drop_of_length-le s {i = start} h, name-none s start);
        word =
            record {
              token = rw (name-none s start) token-end;
              small = λ n p. cc;
              behind = omega (arith, e);
              next = omega arith;
              inside = start_in_lem;
              on = λ n. absurd (n refl);
            };
      }

  pub glance_end : length s ≤ start → Glances s at (Ok None)
  glance_end h = record { word = _; lexes = word_end h; is = refl }

  module _ (inside : start < length s) {b : ℕ} (at_b : b ≡ get_or s start 0) where
    begins : drop start s ≡ b ∷ drop (suc start) s
    begins = rw (at_b, drop-cons s start 0 inside)

    begins_by : (f : ℕ → Bool) {t : Bool} → f b ≡ t → starts_by f (drop start s) ≡ t
    begins_by f p = rw begins p

    part-begins : (f : ℕ → Bool) (n : ℕ) → 0 < n → starts_by f (name s start n) ≡ starts_by f (drop start s)
    unfolding name
    part-begins f n h = starts-take f n (drop start s) h

    -- the text and the next place of a word of n bytes
    text-is : (n next : ℕ) → next ≡ start + n → name s start (next - start) ≡ take n (drop start s)
    unfolding name
    text-is n next p = let q : next - start ≡ n = omega arith in rw q

    pub word-letter : {next : ℕ} {t : List ℕ} {k : Token} → letter b ≡ true → next ≡ start + run in_word (drop start s)
        → t ≡ name s start (next - start) → k ≡ kept_token t
        → Lexes s at (Ok (record { token = k; start = start; len = next - start; next = next }))
    word-letter {next = next} {t = t} {k = k} p ends text known =
        let l = begins_by letter p in
        let n = run in_word (drop start s) in
        let n_pos = run-pos in_word (drop start s) (letter_in_word (drop start s) l) in
        let low : 0 < next - start = omega arith in
        let tl : starts_by letter (name s start (next - start)) ≡ true = part-begins letter (next - start) low ∙ l in
        let known' : k ≡ kept_token (name s start (next - start)) = known ∙ ap kept_token text in
        record {
          is = rw (at-start, of_letter (drop start s) start l, text-is n next ends, ends);
          word =
              record {
                token = token-letter (name s start (next - start)) tl known';
                small = kept_small (name s start (next - start)) known';
                behind = omega (arith, e);
                next = omega arith;
                inside = λ h. omega (arith, run_le in_word (drop start s), length-drop start s);
                on = λ h. omega (arith, e);
              };
        }

    module _ (p : letter b ≡ false) where
      module _ (q : digit b ≡ true) {next : ℕ} (ends : next ≡ start + run digit (drop start s)) {t : List ℕ} (text : t ≡ name s start (next - start)) where
        pub word-digit : {v : ℤ} {o : Option ℤ} → o ≡ fitting (decimal 0 t) → o ≡ Some v
            → Lexes s at (Ok (record { token = T.Number v; start = start; len = next - start; next = next }))
        word-digit {v = v} known of =
            let l = begins_by letter p in
            let d = begins_by digit q in
            let n = run digit (drop start s) in
            let n_pos = run-pos digit (drop start s) d in
            let low : 0 < next - start = omega arith in
            let fit = fits (decimal 0 t) (sym of ∙ known) in
            let same = text-is n next ends in
            let small : decimal 0 (take n (drop start s)) < 2 ^ 63 = rw (text, same) at fit.1 in
            let value : v ≡ pos (decimal 0 (name s start (next - start))) = fit.0 ∙ ap (λ l. pos (decimal 0 l)) text in
            record {
              is = rw (at-start, of_digit (drop start s) start l d, same, ends, lt-ltb (decimal 0 (take n (drop start s))) (2 ^ 63) small);
              word =
                  record {
                    token =
                        rw value (token-digit (name s start (next - start)) (part-begins letter (next - start) low ∙ l) (part-begins digit (next - start) low ∙ d) refl);
                    small = λ m g. let z : m ≡ decimal 0 t = cc in omega (arith, z, fit.1);
                    behind = omega (arith, e);
                    next = omega arith;
                    inside = λ h. omega (arith, run_le digit (drop start s), length-drop start s);
                    on = λ h. omega (arith, e);
                  };
            }

        pub word_over : {o : Option ℤ} → o ≡ fitting (decimal 0 t) → o ≡ None → Lexes s at (Err R.NumberTooLarge)
        word_over known of =
            let n = run digit (drop start s) in
            let same = text-is n next ends in
            let large = rw (text, same) at (over (decimal 0 t) (sym of ∙ known)) in
            record {
              is =
                  rw (
                    at-start,
                    of_digit (drop start s) start (begins_by letter p) (begins_by digit q),
                    le-ltb (decimal 0 (take n (drop start s))) (2 ^ 63) large,
                  );
              word = tt;
            }

        pub glance_digit : {o : Option ℤ} {r : Bool} → o ≡ fitting (decimal 0 t) → is_some o ≡ not r → r ≡ false → Glances s at (Ok None)
        glance_digit {o = o} known f g = go o refl (f ∙ ap not g)
          where
            go : (x : Option ℤ) → o ≡ x → is_some x ≡ true → Glances s at (Ok None)
            go (Some v) of h = record { word = _; lexes = word-digit known of; is = refl }
            go None of h = cc

        pub glance_over : {o : Option ℤ} {r : Bool} → o ≡ fitting (decimal 0 t) → is_some o ≡ not r → r ≡ true → Glances s at (Err R.NumberTooLarge)
        glance_over {o = o} known f g = go o refl (f ∙ ap not g)
          where
            go : (x : Option ℤ) → o ≡ x → is_some x ≡ false → Glances s at (Err R.NumberTooLarge)
            go (Some v) of h = cc
            go None of h = record { word = _; lexes = word_over known of; is = refl }

      module _ (q : digit b ≡ false) where
        pub word-sign : sign b ≡ true → Lexes s at (Ok (record { token = T.Sign b; start = start; len = 1; next = start + 1 }))
        unfolding name
        word-sign r =
            record {
              is = rw (at-start, of_sign (drop start s) start (begins_by letter p) (begins_by digit q) (begins_by sign r));
              word =
                  record {
                    token = rw begins (token-sign b r);
                    small = λ n h. cc;
                    behind = omega (arith, e);
                    next = refl;
                    inside = λ h. omega arith;
                    on = λ h. omega (arith, e);
                  };
            }

        pub word_none : sign b ≡ false → Lexes s at (Err R.UnknownByte)
        word_none r = record { is = rw (at-start, begins, of_none b (drop (suc start) s) start p q r); word = tt }

        pub glance_sign : sign b ≡ true → Glances s at (Ok (Some (b, start + 1)))
        glance_sign r = record { word = _; lexes = word-sign r; is = refl }

        pub glance_none : sign b ≡ false → Glances s at (Err R.UnknownByte)
        glance_none r = record { word = _; lexes = word_none r; is = refl }

    -- the same of a glance
    pub glance_letter : letter b ≡ true → Glances s at (Ok None)
    glance_letter p =
        let next = start + run in_word (drop start s) in
        record { word = _; lexes = word-letter p refl refl refl; is = rw (kept_unsigned (name s start (next - start)) next) }

-- ---- what a glance told, of the word

pub record Signed (r : Result Word Refusal) (b n : ℕ) : Type 0 where
  pub word : Word
  pub found : r ≡ Ok word
  pub token : word.token ≡ T.Sign b
  pub next : word.next ≡ n

pub record Unsigned (r : Result Word Refusal) : Type 0 where
  pub word : Word
  pub found : r ≡ Ok word
  pub other : (b : ℕ) → word.token ≡ T.Sign b → ⊥

sign-there : (k : Token) {m b n : ℕ} → Some (b, n) ≡ sign_in k m → (k ≡ T.Sign b) × (m ≡ n)
sign-there T.EndOfText e = cc
sign-there T.Name e = cc
sign-there (T.Number v) e = cc
sign-there T.Def e = cc
sign-there T.Class e = cc
sign-there T.End e = cc
sign-there T.Return e = cc
sign-there T.If e = cc
sign-there T.Else e = cc
sign-there T.AttrAccessor e = cc
sign-there (T.Sign a) {m} {b} {n} e =
    let q : ◌≡◌ {A = ℕ × ℕ} (a, m) (b, n) = cc in
    (ap (λ (x : ℕ × ℕ). T.Sign x.0) q, ap (λ (x : ℕ × ℕ). x.1) q)

pub signed : (r : Result Word Refusal) {b n : ℕ} → Ok (Some (b, n)) ≡ glimpse_of r → Signed r b n
signed (Ok w) {b} {n} e = let h = sign-there w.token {m = w.next} {b = b} {n = n} cc in record { word = w; found = refl; token = h.0; next = h.1 }
signed (Err m) e = cc

pub unsigned : (r : Result Word Refusal) → Ok None ≡ glimpse_of r → Unsigned r
unsigned (Ok w) e =
    record {
      word = w;
      found = refl;
      other = λ b h. let f : sign_in w.token w.next ≡ Some (b, w.next) = rw h in let z : ◌≡◌ {A = Option (ℕ × ℕ)} None (Some (b, w.next)) = cc in cc;
    }
unsigned (Err m) e = cc

pub unseen : (r : Result Word Refusal) {x : Refusal} → Err x ≡ glimpse_of r → r ≡ Err x
unseen (Ok w) {x} e = cc
unseen (Err m) e = cc
