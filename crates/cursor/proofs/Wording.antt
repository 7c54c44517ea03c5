-- Words: what the tests of kinds say in the rules' words, and the steps over a word. Assumes nothing.
use mathlib.Core.Bool.{Bool, true, false}
use mathlib.Core.Path.{◌≡◌, refl, sym, ap, ◌∙◌}
use mathlib.Core.List.{List}
use Prim.Native.Nat.{ℕ, ◌+◌, ◌≤◌, ◌<◌}
use Prim.Native.String.{String}
use native.Mathlib.Omega.{arith}
use lib.ListN.{length}
use borrow.Author.Tests.{eq-eqb, ne_eqb}
use Rattle.rules.specs.Actions.{Answer, answered, refused, ◌>>=◌, ◌>>◌, give, ask, when◌then◌else◌}
use Rattle.rules.specs.Words.{is, is_ident, is_literal, word_at}
use Rattle.rules.specs.Words as W
use Rattle.rules.specs.Reading.{Parser, Reads, peek, pass, next, expect, expect_ident, match_token}
use Rattle.std.specs.Prelude.{Option, Some, None, Result, Ok, Err, ℤ}
use Rattle.refusals.specs.declared.Refusal.{Refusal}
use Rattle.refusals.specs.declared.Refusal.TheVariants as R
use Rattle.refusals.specs.Refusals.{number_of}
use Rattle.std.specs.Option.{ok_or}
use Rattle.lexer.specs.Lexed.{rank, token_of, same_token, text_of, word_in, LexerReads, Lexes, Glances}
use Rattle.lexer.specs.declared.Token.{Token}
use Rattle.lexer.specs.declared.Token.TheVariants as T
use Rattle.lexer.specs.declared.Word.{Word}
use Rattle.lexer.proofs.Names.{by_test}
use Rattle.lexer.proofs.Lexes.{signed, unsigned, unseen}
use Rattle.lexer.proofs.Texts.{token-yes, token-no, ident_token, literal_token, fixed-token}
use Rattle.cursor.specs.Cursor.{parser_of, move_cur}
use Rattle.cursor.specs.Promises.{
  outcome,
  matched_of,
  matched_to,
  moved_of,
  moved_at,
  Moves,
  Spelt,
  match_kind,
  match_literal,
  expect_kind,
  expect_literal,
  Sees,
  Idents,
  Expects,
  CursorMatches,
  LiteralMatches,
  LiteralExpects,
  MatchAt,
}
use Rattle.cursor.specs.Cursor.{Cursor}
use Rattle.cursor.specs.outcomes.Moved.{Moved}
use Rattle.cursor.specs.outcomes.Ident.{Ident}
use Rattle.cursor.specs.outcomes.Matched.{Matched}
use Rattle.program.specs.declared.Name.{Name}

-- ---- tokens

number_token : (k : Token) → ((n : ℤ) → k ≡ T.Number n → ⊥) → rank k ≡ 2 → ⊥
number_token T.EndOfText f e = cc
number_token T.Name f e = cc
number_token (T.Number n) f e = f n refl
number_token T.Def f e = cc
number_token T.Class f e = cc
number_token T.End f e = cc
number_token T.Return f e = cc
number_token T.If f e = cc
number_token T.Else f e = cc
number_token T.AttrAccessor f e = cc
number_token (T.Sign b) f e = cc

module _ (x : Word) {s : List ℕ} {at : ℕ} (h : LexerReads s at x) where
  by_token : (k : Token) (t : String) → Spelt k t → is (word_in s x) t ≡ same_token x.token k
  by_token k t sp = rw h.token (sp (text_of s x))

  pub is-yes : {k : Token} (t : String) → Spelt k t → x.token ≡ k → is (word_in s x) t ≡ true
  is-yes {k} t sp e = by_token k t sp ∙ token-yes _ _ e

  pub is_no : {k : Token} (t : String) → Spelt k t → (x.token ≡ k → ⊥) → is (word_in s x) t ≡ false
  is_no {k} t sp e = by_token k t sp ∙ token-no _ _ e

  kind-yes : {k : Token} → x.token ≡ k → same_token (token_of (text_of s x)) k ≡ true
  kind-yes e = token-yes _ _ (sym h.token ∙ e)

  kind_no : {k : Token} → (x.token ≡ k → ⊥) → same_token (token_of (text_of s x)) k ≡ false
  kind_no e = token-no _ _ (λ z. e (h.token ∙ z))

  pub ident_yes : x.token ≡ T.Name → is_ident (word_in s x) ≡ true
  ident_yes e = ident_token (word_in s x) ∙ token-yes _ _ (sym h.token ∙ e)

  pub ident_no : (x.token ≡ T.Name → ⊥) → is_ident (word_in s x) ≡ false
  ident_no e = ident_token (word_in s x) ∙ token-no _ _ (λ z. e (h.token ∙ z))

  pub literal_yes : {n : ℤ} → x.token ≡ T.Number n → is_literal (word_in s x) ≡ true
  literal_yes e = literal_token (word_in s x) ∙ eq-eqb _ _ (ap rank (sym h.token ∙ e))

  pub literal_no : ((n : ℤ) → x.token ≡ T.Number n → ⊥) → is_literal (word_in s x) ≡ false
  literal_no e = literal_token (word_in s x) ∙ ne_eqb _ _ (λ z. number_token x.token e (ap rank h.token ∙ z))

-- the tokens of fixed texts
pub spelt_end : Spelt T.End "end"
spelt_end x = fixed-token x 2 (omega arith)

pub spelt_else : Spelt T.Else "else"
spelt_else x = fixed-token x 5 (omega arith)

pub spelt_open : Spelt (T.Sign 40) "("
spelt_open x = fixed-token x 8 (omega arith)

pub spelt_close : Spelt (T.Sign 41) ")"
spelt_close x = fixed-token x 9 (omega arith)

pub spelt_comma : Spelt (T.Sign 44) ","
spelt_comma x = fixed-token x 10 (omega arith)

pub spelt_plus : Spelt (T.Sign 43) "+"
spelt_plus x = fixed-token x 11 (omega arith)

pub spelt_minus : Spelt (T.Sign 45) "-"
spelt_minus x = fixed-token x 12 (omega arith)

pub spelt_times : Spelt (T.Sign 42) "*"
spelt_times x = fixed-token x 13 (omega arith)

pub spelt_equals : Spelt (T.Sign 61) "="
spelt_equals x = fixed-token x 14 (omega arith)

pub spelt_less : Spelt (T.Sign 60) "<"
spelt_less x = fixed-token x 15 (omega arith)

pub spelt_dot : Spelt (T.Sign 46) "."
spelt_dot x = fixed-token x 16 (omega arith)

pub spelt_at : Spelt (T.Sign 64) "@"
spelt_at x = fixed-token x 18 (omega arith)

-- ---- a word that was looked at

module _ {s : List ℕ} {c : Cursor} {r : Result Word Refusal} (l : Sees s c r) where
  pub word_read : {x : Word} → r ≡ Ok x → LexerReads s c.at x
  word_read e = let h = rw e at l.lexes in h.word

  module _ (m w : List ℕ) where
    pub peek-found : {x : Word} → r ≡ Ok x → answered (word_in s x, parser_of s m w c) ≡ peek s (parser_of s m w c)
    unfolding peek parser_of
    peek-found e = let h = rw e at l.lexes in rw (← h.is)

    pub peek-none : {e : Refusal} → r ≡ Err e → refused (number_of e) ≡ peek s (parser_of s m w c)
    unfolding peek parser_of
    peek-none e = let h = rw e at l.lexes in rw (← h.is)

    pub pass-found : {x : Word} → r ≡ Ok x → answered (tt, parser_of s m w (move_cur x.next c)) ≡ pass s (parser_of s m w c)
    unfolding pass peek parser_of
    pass-found e = let h = rw e at l.lexes in rw (← h.is)

    pub next-found : {x : Word} → r ≡ Ok x → answered (word_in s x, parser_of s m w (move_cur x.next c)) ≡ next s (parser_of s m w c)
    unfolding next
    next-found e = rw (← peek-found e, ← pass-found e)

    pub next-none : {e : Refusal} → r ≡ Err e → refused (number_of e) ≡ next s (parser_of s m w c)
    unfolding next
    next-none e = rw (← peek-none e)

-- ---- the readers of one word

-- the rules' `match_token` and `expect`, by any test of a word
abbrev match_by : (W.Word → Bool) → List ℕ → Reads Bool
match_by f s = do
  w ← peek s
  when f w then (do
    pass s
    give true) else give false

abbrev expect_by : (W.Word → Bool) → List ℕ → Reads (Unit {0})
expect_by f s = do
  w ← next s
  ask 5 (f w)

-- whether a word's token is k
abbrev has_token : Token → W.Word → Bool
has_token k w = same_token (token_of w.text) k

name_on : T.Name ≡ T.EndOfText → ⊥
name_on e = cc

number_on : {n : ℤ} → T.Number n ≡ T.EndOfText → ⊥
number_on e = cc

sign_on : {b : ℕ} → T.Sign b ≡ T.EndOfText → ⊥
sign_on e = cc

-- the next word from a cursor's place
pub seen : {s : List ℕ} {at : ℕ} {r : Result Word Refusal} → Lexes s at r → {c : Cursor} → c.at ≡ at → Sees s c r
seen l e = record { lexes = rw e l }

module _ {s : List ℕ} {c : Cursor} {r : Result Word Refusal} (l : Sees s c r) where
  onward : {x : Word} → r ≡ Ok x → (x.token ≡ T.EndOfText → ⊥) → (c.at + 1 ≤ x.next) × (c.at ≤ length s → x.next ≤ length s)
  onward f z = let h = word_read l f in (omega (arith, h.on z), h.inside)

  pub ident_found : {x : Word} → r ≡ Ok x → x.token ≡ T.Name → Idents s c (Ident.Found (move_cur x.next c) (record { start = x.start; len = x.len }))
  unfolding expect_ident
  ident_found {x} f q =
      record {
        moves = record { is = λ m w. rw (← next-found l m w f, ident_yes x (word_read l f) q); ok = (refl, onward f (λ z. name_on (sym q ∙ z))) };
        inside = λ d k h i.
            let z : ◌≡◌ {A = Name} k (record { start = x.start; len = x.len }) = cc in let h = word_read l f in rw z (omega (arith, h.next, h.inside i));
      }

  pub ident_other : {x : Word} → r ≡ Ok x → (x.token ≡ T.Name → ⊥) → Idents s c (Ident.Refused 5)
  unfolding expect_ident
  ident_other {x} f q =
      record {
        moves = record { is = λ m w. rw (← next-found l m w f, ident_no x (word_read l f) q); ok = tt };
        inside = λ d k h i. let z : ◌≡◌ {A = ℕ} 0 1 = cc in absurd (omega arith);
      }

  pub ident_none : {e : Refusal} → r ≡ Err e → Idents s c (Ident.Refused (number_of e))
  unfolding expect_ident
  ident_none f =
      record {
        moves = record { is = λ m w. rw (← next-none l m w f); ok = tt };
        inside = λ d k h i. let z : ◌≡◌ {A = ℕ} 0 1 = cc in absurd (omega arith);
      }

  -- by any test of the word
  module _ (f : W.Word → Bool) where
    by_yes : {x : Word} → r ≡ Ok x → (x.token ≡ T.EndOfText → ⊥) → f (word_in s x) ≡ true → Moves (match_by f s) 0 s c (matched_of c (Matched.Yes (move_cur x.next c)))
    by_yes e z q = let o = onward e z in record { is = λ m w. rw (← peek-found l m w e, q, ← pass-found l m w e); ok = (refl, (omega (arith, o.0), o.1)) }

    by_not : {x : Word} → r ≡ Ok x → f (word_in s x) ≡ false → Moves (match_by f s) 0 s c (matched_of c Matched.Not)
    by_not e q = record { is = λ m w. rw (← peek-found l m w e, q); ok = (refl, (omega arith, λ i. i)) }

    by_none : {e : Refusal} → r ≡ Err e → Moves (match_by f s) 0 s c (matched_of c (Matched.Refused (number_of e)))
    by_none e = record { is = λ m w. rw (← peek-none l m w e); ok = tt }

  pub match_yes : {x : Word} {k : Token} → (k ≡ T.EndOfText → ⊥) → r ≡ Ok x → x.token ≡ k → CursorMatches s k c (Matched.Yes (move_cur x.next c))
  unfolding match_token match_kind
  match_yes {x} {k} p e q =
      let z = λ (y : x.token ≡ T.EndOfText). p (sym q ∙ y) in
      record {
        takes = by_yes (has_token k) e z (kind-yes x (word_read l e) q);
        moves = λ t sp. by_yes (λ w. is w t) e z (is-yes x (word_read l e) t sp q);
        further = λ d g. let y : ◌≡◌ {A = Cursor} d (move_cur x.next c) = cc in let o = onward e z in rw y (omega (arith, o.0));
      }

  pub match_not : {x : Word} {k : Token} → r ≡ Ok x → (x.token ≡ k → ⊥) → CursorMatches s k c Matched.Not
  unfolding match_token match_kind
  match_not {x} {k} e q =
      record {
        takes = by_not (has_token k) e (kind_no x (word_read l e) q);
        moves = λ t sp. by_not (λ w. is w t) e (is_no x (word_read l e) t sp q);
        further = λ d g. let z : ◌≡◌ {A = ℕ} 0 1 = cc in absurd (omega arith);
      }

  pub match_none : {k : Token} {e : Refusal} → r ≡ Err e → CursorMatches s k c (Matched.Refused (number_of e))
  unfolding match_token match_kind
  match_none {k} e =
      record {
        takes = by_none (has_token k) e;
        moves = λ t sp. by_none (λ w. is w t) e;
        further = λ d g. let z : ◌≡◌ {A = ℕ} 0 1 = cc in absurd (omega arith);
      }

  pub number_yes : {x : Word} {n : ℤ} → r ≡ Ok x → x.token ≡ T.Number n → LiteralMatches s c (Matched.Yes (move_cur x.next c))
  unfolding match_literal
  number_yes {x} e q =
      let z = λ (y : x.token ≡ T.EndOfText). number_on (sym q ∙ y) in
      record {
        takes = by_yes is_literal e z (literal_yes x (word_read l e) q);
        further = λ d g. let y : ◌≡◌ {A = Cursor} d (move_cur x.next c) = cc in let o = onward e z in rw y (omega (arith, o.0));
      }

  pub number_not : {x : Word} → r ≡ Ok x → ((n : ℤ) → x.token ≡ T.Number n → ⊥) → LiteralMatches s c Matched.Not
  unfolding match_literal
  number_not {x} e q =
      record { takes = by_not is_literal e (literal_no x (word_read l e) q); further = λ d g. let z : ◌≡◌ {A = ℕ} 0 1 = cc in absurd (omega arith) }

  pub number_none : {e : Refusal} → r ≡ Err e → LiteralMatches s c (Matched.Refused (number_of e))
  unfolding match_literal
  number_none e = record { takes = by_none is_literal e; further = λ d g. let z : ◌≡◌ {A = ℕ} 0 1 = cc in absurd (omega arith) }

-- the same after a glance
pub glanced : {s : List ℕ} (c : Cursor) {g : Result (Option (ℕ × ℕ)) Refusal} (l : Glances s c.at g) → Sees s c l.word
glanced c l = record { lexes = l.lexes }

module _ {s : List ℕ} {at : ℕ} {g : Result (Option (ℕ × ℕ)) Refusal} (l : Glances s at g) where
  pub sign-yes : {b n k : ℕ} → g ≡ Ok (Some (b, n)) → b ≡ k → MatchAt s (T.Sign k) at (Ok (Some n))
  sign-yes f q c e =
      let y = signed l.word (sym f ∙ l.is) in
      rw y.next at (match_yes (seen l.lexes {c = c} e) (λ z. sign_on z) y.found (y.token ∙ ap (λ i. T.Sign i) q))

  pub sign-not : {b n k : ℕ} → g ≡ Ok (Some (b, n)) → (b ≡ k → ⊥) → MatchAt s (T.Sign k) at (Ok None)
  sign-not {b} {n} {k} f q c e =
      let y = signed l.word (sym f ∙ l.is) in match_not (seen l.lexes e) y.found (λ z. let w : T.Sign b ≡ T.Sign k = sym y.token ∙ z in q cc)

  pub sign-other : {k : ℕ} → g ≡ Ok None → MatchAt s (T.Sign k) at (Ok None)
  sign-other {k} f c e = let y = unsigned l.word (sym f ∙ l.is) in match_not (seen l.lexes e) y.found (y.other k)

  pub sign-none : {k : ℕ} {d : Refusal} → g ≡ Err d → MatchAt s (T.Sign k) at (Err d)
  sign-none f c e = match_none (seen l.lexes e) (unseen l.word (sym f ∙ l.is))

-- ---- a word that is taken where it passes a test, and else refused

abbrev insisted : Answer (Bool × Parser) → Answer (Unit {0} × Parser)
insisted (answered (true, p)) = answered (tt, p)
insisted (answered (false, p)) = refused 5
insisted (refused n) = refused n

module _ (f : W.Word → Bool) (s : List ℕ) where
  insist : (p : Parser) (a : Answer W.Word) → word_at s p.at ≡ a → insisted (match_by f s p) ≡ expect_by f s p
  unfolding next pass peek
  insist p (answered w) e = by_test (λ _. insisted (match_by f s p) ≡ expect_by f s p) (f w) (λ q. rw (e, q, e, q)) (λ q. rw (e, q, e, q))
  insist p (refused n) e = rw e

  module _ {c : Cursor} where
    insists : (q : Matched) → Moves (match_by f s) 0 s c (matched_of c q) → (m w : List ℕ) → insisted (outcome s m w (matched_of c q)) ≡ expect_by f s (parser_of s m w c)
    insists q v m w = ap insisted (v.is m w) ∙ insist (parser_of s m w c) (word_at s (parser_of s m w c).at) refl

    insists_yes : {d : Cursor} → Moves (match_by f s) 0 s c (matched_of c (Matched.Yes d)) → c.at < d.at → Moves (expect_by f s) 1 s c (moved_of (Moved.On d))
    insists_yes v h = record { is = insists (Matched.Yes _) v; ok = (v.ok.0, (omega (arith, h), v.ok.1.1)) }

module _ {s : List ℕ} {k : Token} {c : Cursor} where
  pub expect_none : {e : ℕ} → CursorMatches s k c (Matched.Refused e) → Expects s k c (Moved.Refused e)
  unfolding match_token match_kind expect expect_kind
  expect_none h = record {
    takes = record { is = insists (has_token k) s (Matched.Refused _) h.takes; ok = tt };
    moves = λ t sp. record { is = insists (λ w. is w t) s (Matched.Refused _) (h.moves t sp); ok = tt };
  }

  pub expect_or : (o : Option ℕ) (d : Cursor) → CursorMatches s k c (matched_to d o) → Expects s k c (moved_at d (ok_or o R.UnexpectedWord))
  unfolding match_token match_kind expect expect_kind
  expect_or (Some n) d h =
      record {
        takes = insists_yes (has_token k) s h.takes (h.further _ refl);
        moves = λ t sp. insists_yes (λ w. is w t) s (h.moves t sp) (h.further _ refl);
      }
  expect_or None d h = record {
    takes = record { is = insists (has_token k) s Matched.Not h.takes; ok = tt };
    moves = λ t sp. record { is = insists (λ w. is w t) s Matched.Not (h.moves t sp); ok = tt };
  }

-- the same of a literal
module _ {s : List ℕ} {c : Cursor} where
  pub literal-none : {e : ℕ} → LiteralMatches s c (Matched.Refused e) → LiteralExpects s c (Moved.Refused e)
  unfolding match_literal expect_literal
  literal-none h = record { takes = record { is = insists is_literal s (Matched.Refused _) h.takes; ok = tt } }

  pub literal-or : (o : Option ℕ) (d : Cursor) → LiteralMatches s c (matched_to d o) → LiteralExpects s c (moved_at d (ok_or o R.UnexpectedWord))
  unfolding match_literal expect_literal
  literal-or (Some n) d h = record { takes = insists_yes is_literal s h.takes (h.further _ refl) }
  literal-or None d h = record { takes = record { is = insists is_literal s Matched.Not h.takes; ok = tt } }
