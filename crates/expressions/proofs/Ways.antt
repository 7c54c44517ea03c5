-- The ways through each reader: what the calls on the way gave, and what the rules then say. No code is named here. Assumes nothing.
use mathlib.Core.Bool.{Bool, true, false}
use mathlib.Core.Path.{◌≡◌, refl, sym, ap, ◌∙◌}
use mathlib.Core.List.{List}
use Prim.Native.Nat.{ℕ, ◌+◌, ◌*◌, ◌≤◌, ◌<◌}
use Prim.Native.String.{String}
use native.Mathlib.Omega.{arith}
use lib.IntN.{ℤ, pos}
use mir.Syntax.{w64}
use mir.Val.{SFits}
use borrow.Author.Tests.{ne_eqb}
use Rattle.kinds.specs.declared.Arith.{Arith}
use Rattle.kinds.specs.declared.Arith.TheVariants.{Add, Sub, Mul, Less}
use Rattle.kinds.specs.declared.Kind.TheVariants.{Num}
use Rattle.rules.specs.Actions.{answered, refused}
use Rattle.rules.specs.Program as P
use Rattle.rules.specs.Words.{decimal}
use Rattle.rules.specs.Reading.{Reads, pass, expect, expect_ident, match_token, parse_group, parse_ivar, parse_name, parse_primary, parse_expr}
use Rattle.lexer.specs.Lexed.{text_of, Glances}
use Rattle.lexer.specs.Lexed as Lexed
use Rattle.std.specs.Prelude.{Option as Maybe, Some, None, Result, Ok, Err, cond, eqb, ltb}
use Rattle.refusals.specs.declared.Refusal.{Refusal}
use Rattle.refusals.specs.Refusals.{number_of}
use Rattle.lexer.specs.declared.Token.{Token}
use Rattle.lexer.specs.declared.Token.TheVariants as T
use Rattle.lexer.specs.declared.Word.{Word}
use Rattle.lexer.proofs.Lexes.{signed}
use Rattle.lexer.proofs.Texts.{number_value}
use Rattle.program.specs.Rows.{name_in}
use Rattle.program.specs.declared.Name.{Name}
use Rattle.program.specs.declared.Opnd.{Opnd}
use Rattle.cursor.specs.Cursor.{parser_of, move_cur, In, CursorStep}
use Rattle.cursor.specs.Steps.{assigns, weigh, operator_of}
use Rattle.cursor.specs.Promises.{Out, done, CursorAfter, CursorDid, BindsIf, Assigns, Sees, Idents, Expects, CursorMatches, Spelt, parsed_of, moved_of, ident_of, matched_of}
use Rattle.cursor.specs.Cursor.{Cursor}
use Rattle.cursor.specs.outcomes.Parsed.{Parsed, Done, Refused}
use Rattle.cursor.specs.outcomes.Moved.{Moved}
use Rattle.cursor.specs.outcomes.Ident.{Ident}
use Rattle.cursor.specs.outcomes.Matched.{Matched}
use Rattle.cursor.proofs.Laws.{step-none, step_trans, Acted, got, gave, refuses, arrives, ends_as, in_moved, step-moved, moved-did}
use Rattle.cursor.proofs.Wording.{is-yes, is_no, literal_yes, literal_no, spelt_open, spelt_equals, spelt_at, word_read, peek-found, peek-none, pass-found, glanced}

-- ---- steps over words

module _ {s m w : List ℕ} {c : Cursor} (h : In s m w c) where
  pub passed : {c' : Cursor} {r : Result Word Refusal} {x : Word} → Sees s c r → r ≡ Ok x → c' ≡ move_cur x.next c → (x.token ≡ T.EndOfText → ⊥) → Acted (pass s) 1 s m w c m w tt c'
  passed {x = x} see e f z =
      let q = word_read see e in
      rw f
      (record {
        is = pass-found see m w e;
        here = in_moved h x.next (omega (arith, q.on z)) (q.inside h.ready.inside);
        step = step-moved c w 1 x.next (omega (arith, q.on z));
      })

  pub ident_went : {i : Ident} {c1 : Cursor} {n : Name} → Idents s c i → i ≡ Ident.Found c1 n → Acted (expect_ident s) 1 s m w c m w (name_in s n) c1
  ident_went d e = got (moved-did d.moves h) (ap (ident_of s) e)

  pub match_went : {k : Token} (t : String) {q : Matched} {c1 : Cursor} → CursorMatches s k c q → Spelt k t → q ≡ Matched.Yes c1 → Acted (match_token s t) 1 s m w c m w true c1
  match_went t {c1 = c1} d sp e =
      let v = rw (ap (matched_of c) e) at (d.moves t sp) in
      let g = d.further c1 e in
      record {
        is = v.is m w;
        here = rw v.ok.0 (in_moved h c1.at (omega arith) (v.ok.1.1 h.ready.inside));
        step = rw v.ok.0 (step-moved c w 1 c1.at (omega arith));
      }

  pub match_not : {k : Token} (t : String) {q : Matched} → CursorMatches s k c q → Spelt k t → q ≡ Matched.Not → answered (false, parser_of s m w c) ≡ match_token s t (parser_of s m w c)
  match_not t d sp e = let v = rw (ap (matched_of c) e) at (d.moves t sp) in v.is m w

  pub match_gave : {k : Token} (t : String) {q : Matched} {n : ℕ} → CursorMatches s k c q → Spelt k t → q ≡ Matched.Refused n → refused n ≡ match_token s t (parser_of s m w c)
  match_gave t d sp e = let v = rw (ap (matched_of c) e) at (d.moves t sp) in v.is m w

  pub expect-went : {k : Token} (t : String) {q : Moved} {c1 : Cursor} → Expects s k c q → Spelt k t → q ≡ Moved.On c1 → Acted (expect s t) 1 s m w c m w tt c1
  expect-went t d sp e = got (moved-did (d.moves t sp) h) (ap moved_of e)

  pub expect_gave : {k : Token} (t : String) {q : Moved} {n : ℕ} → Expects s k c q → Spelt k t → q ≡ Moved.Refused n → refused n ≡ expect s t (parser_of s m w c)
  expect_gave t d sp e = gave (moved-did (d.moves t sp) h) (ap moved_of e)

  pub ident_gave : {i : Ident} {n : ℕ} → Idents s c i → i ≡ Ident.Refused n → refused n ≡ expect_ident s (parser_of s m w c)
  ident_gave d e = gave (moved-did d.moves h) (ap (ident_of s) e)

-- what a sign behind an operand leads to; an operator that binds less tightly than prec ends the expression
pub data Suffix : Type 0 where
  Operator : Arith → ℕ → Suffix
  Call : Suffix
  Member : Suffix
  Ends : Suffix

abbrev pub weighed : Arith → ℕ → ℕ → ℕ → Suffix
weighed o n right prec = cond (ltb n prec) Suffix.Ends (Suffix.Operator o right)

unfoldable pub suffix_of : ℕ → ℕ → Suffix
suffix_of k prec =
    cond (eqb k 60) (weighed Less 0 1 prec)
    (cond (eqb k 43) (weighed Add 1 1 prec)
    (cond (eqb k 45) (weighed Sub 1 2 prec)
    (cond (eqb k 42) (weighed Mul 3 3 prec)
    (cond (eqb k 40) Suffix.Call
    (cond (eqb k 46) Suffix.Member
    Suffix.Ends)))))

pub suffix_open : (k prec : ℕ) → k ≡ 40 → Suffix.Call ≡ suffix_of k prec
unfolding suffix_of
suffix_open k prec e = rw e

pub suffix_dot : (k prec : ℕ) → k ≡ 46 → Suffix.Member ≡ suffix_of k prec
unfolding suffix_of
suffix_dot k prec e = rw e

abbrev pub operating : Maybe (Arith × ℕ) → Suffix
operating (Some (o, right)) = Suffix.Operator o right
operating None = Suffix.Ends

operating-weighed : (t : Bool) (o : Arith) (right : ℕ) → operating (cond t None (Some (o, right))) ≡ cond t Suffix.Ends (Suffix.Operator o right)
operating-weighed true o right = refl
operating-weighed false o right = refl

operating-one : (a b d e : Bool) (prec : ℕ)
    → operating (cond a (weigh Less 0 1 prec) (cond b (weigh Add 1 1 prec) (cond d (weigh Sub 1 2 prec) (cond e (weigh Mul 3 3 prec) None))))
    ≡ cond a (weighed Less 0 1 prec) (cond b (weighed Add 1 1 prec) (cond d (weighed Sub 1 2 prec) (cond e (weighed Mul 3 3 prec) Suffix.Ends)))
operating-one true b d e prec = operating-weighed (ltb 0 prec) Less 1
operating-one false true d e prec = operating-weighed (ltb 1 prec) Add 1
operating-one false false true e prec = operating-weighed (ltb 1 prec) Sub 2
operating-one false false false true prec = operating-weighed (ltb 3 prec) Mul 3
operating-one false false false false prec = refl

pub suffix_other : (k prec : ℕ) → (k ≡ 40 → ⊥) → (k ≡ 46 → ⊥) → operating (operator_of k prec) ≡ suffix_of k prec
unfolding operator_of suffix_of
suffix_other k prec a b = rw (ne_eqb k 40 a, ne_eqb k 46 b) (operating-one (eqb k 60) (eqb k 43) (eqb k 45) (eqb k 42) prec)

-- what stands behind an operand begins with a sign
pub suffix_low : (k prec : ℕ) → k < 10 → suffix_of k prec ≡ Suffix.Ends
unfolding suffix_of
suffix_low k prec h =
    rw (
      ne_eqb k 60 (λ z. omega arith),
      ne_eqb k 43 (λ z. omega arith),
      ne_eqb k 45 (λ z. omega arith),
      ne_eqb k 42 (λ z. omega arith),
      ne_eqb k 40 (λ z. omega arith),
      ne_eqb k 46 (λ z. omega arith),
    )

sign_end : {k : Token} {b : ℕ} → k ≡ T.Sign b → k ≡ T.EndOfText → ⊥
sign_end e z = cc

number_end : {k : Token} {n : ℤ} → k ≡ T.Number n → k ≡ T.EndOfText → ⊥
number_end e z = cc

module _ {s m w : List ℕ} {c c' : Cursor} {g : Result (Maybe (ℕ × ℕ)) Refusal} {i n : ℕ} (h : In s m w c) (l : Glances s c.at g) (e : g ≡ Ok (Some (i, n))) where
  pub sign_passed : c' ≡ move_cur n c → Acted (pass s) 1 s m w c m w tt c'
  sign_passed j =
      let y = signed l.word (sym e ∙ l.is) in
      passed h (glanced c l) y.found (j ∙ ap (λ a. move_cur a c) (sym y.next)) (sign_end y.token)

-- a word moves the place alone
ident_vars : {s : List ℕ} {c c1 : Cursor} {i : Ident} {n : Name} → Idents s c i → i ≡ Ident.Found c1 n → c1.vars ≡ c.vars
ident_vars {s = s} d e = let v = rw (ap (ident_of s) e) at d.moves in ap (λ (z : Cursor). z.vars) v.ok.0

match_vars : {s : List ℕ} {k : Token} (t : String) {c c1 : Cursor} {q : Matched} → CursorMatches s k c q → Spelt k t → q ≡ Matched.Yes c1 → c1.vars ≡ c.vars
match_vars t {c = c} d sp e = let v = rw (ap (matched_of c) e) at (d.moves t sp) in ap (λ (z : Cursor). z.vars) v.ok.0

-- ---- the depth

module _ (L : P.Limits) (s : List ℕ) (d prec : ℕ) where
  pub expr_deep : {m w m' w' : List ℕ} {c : Cursor} → d ≡ 0 → CursorDid (parse_expr L s d prec) 1 s m w c m' w' (parsed_of (Refused 11))
  unfolding parse_expr
  expr_deep e = refuses (rw e)

-- ---- the readers, over the reader E of expressions one level down

literal_value : {s : List ℕ} {at : ℕ} (x : Word) → Lexed.LexerReads s at x → {n : ℤ} → x.token ≡ T.Number n → n ≡ pos (decimal 0 (text_of s x))
literal_value {s} x h e = number_value (text_of s x) (sym e ∙ h.token)

pub literal_held : {s : List ℕ} {c : Cursor} {x : Word} {n : ℤ} → Sees s c (Ok x) → x.token ≡ T.Number n → SFits w64 n
literal_held {x = x} see k =
    let q = word_read see refl in
    let v = literal_value x q k in
    record { sfits = rw v (q.small _ (k ∙ ap T.Number v)) }

module _ (L : P.Limits) (s : List ℕ) (E : ℕ → Reads P.Opnd) where
  -- ---- an assignment to a variable

  module _ {m w : List ℕ} {c : Cursor} {i : Ident} (h : In s m w c) (x : Idents s c i) {c1 : Cursor} {n : Name} (e : i ≡ Ident.Found c1 n) {q : Matched}
      (y : CursorMatches s (T.Sign 61) c1 q) {c2 : Cursor} (f : q ≡ Matched.Yes c2) {m1 w1 : List ℕ} {p : Parsed} (d : CursorDid (E 0) 1 s m w c2 m1 w1 (parsed_of p))
      {c3 : Cursor} {v : Opnd} (g : p ≡ Done c3 v) where
    at_name : Acted (expect_ident s) 1 s m w c m w (name_in s n) c1
    at_name = ident_went h x e

    at_equals : Acted (match_token s "=") 1 s m w c1 m w true c2
    at_equals = match_went at_name.here "=" y spelt_equals f

    pub right_here : In s m1 w1 c3
    right_here = (got d (ap parsed_of g)).here

    to_right : CursorStep 3 c w c3 w1
    to_right = step_trans (step_trans at_name.step at_equals.step) (got d (ap parsed_of g)).step

    -- the two bytes of a name and its `=` pay for the binding
    pub pays : 2 * (c3.vars + 1) + c.at ≤ 2 * c.vars + c3.at
    pays = omega (arith, ident_vars x e, match_vars "=" y spelt_equals f, at_name.step.on, at_equals.step.on, (got d (ap parsed_of g)).step.paid, (got d (ap parsed_of g)).step.on)

    name-ok : (w2 : List ℕ) (r : Parsed) → BindsIf c3 w1 w2 r → CursorAfter 1 s c w m1 w2 (parsed_of r)
    name-ok w2 (Done c4 v4) b = (
      rw b.cur
          (record {
            ready = record {
              script = right_here.ready.script;
              inside = right_here.ready.inside;
              tables = right_here.ready.tables;
              scratch = omega (arith, right_here.ready.scratch, b.long);
              room = record {
                script = right_here.ready.room.script;
                aside = right_here.ready.room.aside;
                law = omega (arith, pays, h.ready.room.law, to_right.aside);
              };
              args = right_here.ready.args;
            };
            block = right_here.block;
          }),
      rw b.cur
          (record {
            on = omega (arith, to_right.on);
            paid = omega (arith, pays);
            more = omega (arith, to_right.more);
            aside = to_right.aside;
            args = to_right.args;
            class = to_right.class;
            receiver = to_right.receiver;
            functions = to_right.functions;
            classes = to_right.classes;
            blocks = to_right.blocks;
            old = λ j l. b.old j (omega (arith, to_right.more)) ∙ to_right.old j l;
            rows = λ j l u. b.rows j l (omega (arith, h.ready.room.law, h.ready.room.script)) ∙ to_right.rows j l u;
            stack = λ j l u. b.stack j l ∙ to_right.stack j l u;
          }),
    )
    name-ok w2 (Refused k) b = tt

    pub name_set : {w2 : List ℕ} {r : Parsed} → Assigns s n v c3 w1 w2 r → CursorDid (parse_name L s E) 1 s m w c m1 w2 (parsed_of r)
    unfolding parse_name assigns
    name_set {w2 = w2} {r = r} a = record { is = a.is m1 ∙ rw (← at_name.is, ← at_equals.is, ← (got d (ap parsed_of g)).is); ok = name-ok w2 r a.ok }

  -- ---- what an expression begins with

  module _ {m w : List ℕ} {c : Cursor} {r : Result Word Refusal} (see : Sees s c r) where
    pub primary_none : {m' w' : List ℕ} {n : Refusal} → r ≡ Err n → CursorDid (parse_primary L s E) 1 s m w c m' w' (parsed_of (Refused (number_of n)))
    unfolding parse_primary
    primary_none e = refuses (rw (← peek-none see m w e))

    module _ {x : Word} (e : r ≡ Ok x) (h : In s m w c) where
      pub primary_number : {c' : Cursor} {u : P.Opnd} {n : ℤ} → x.token ≡ T.Number n → c' ≡ move_cur x.next c → u ≡ P.Const (Num n)
          → CursorDid (parse_primary L s E) 1 s m w c m w (done u c')
      unfolding parse_primary
      primary_number k f g =
          let p = passed h see e f (number_end k) in
          let q = word_read see e in
          arrives p.step (omega arith) p.here (rw (g, literal_value x q k, ← peek-found see m w e, literal_yes x q k, ← p.is))

      module _ (no : (n : ℤ) → x.token ≡ T.Number n → ⊥) where
        pub primary_group : {c' : Cursor} {m1 w1 : List ℕ} {o : Out P.Opnd} → x.token ≡ T.Sign 40 → c' ≡ move_cur x.next c → CursorDid (parse_group L s E) 1 s m w c' m1 w1 o
            → CursorDid (parse_primary L s E) 1 s m w c m1 w1 o
        unfolding parse_primary
        primary_group k f d =
            let p = passed h see e f (sign_end k) in
            let q = word_read see e in
            ends_as p.step (omega arith) d (rw (← peek-found see m w e, literal_no x q no, is-yes x q "(" spelt_open k, ← p.is))

        module _ (no2 : x.token ≡ T.Sign 40 → ⊥) where
          pub primary_ivar : {c' : Cursor} {m1 w1 : List ℕ} {o : Out P.Opnd} → x.token ≡ T.Sign 64 → c' ≡ move_cur x.next c → CursorDid (parse_ivar L s E) 1 s m w c' m1 w1 o
              → CursorDid (parse_primary L s E) 1 s m w c m1 w1 o
          unfolding parse_primary
          primary_ivar k f d =
              let p = passed h see e f (sign_end k) in
              let q = word_read see e in
              ends_as p.step (omega arith) d
              (rw (← peek-found see m w e, literal_no x q no, is_no x q "(" spelt_open no2, is-yes x q "@" spelt_at k, ← p.is))

          pub primary_name : {m1 w1 : List ℕ} {o : Out P.Opnd} → (x.token ≡ T.Sign 64 → ⊥) → CursorDid (parse_name L s E) 1 s m w c m1 w1 o → CursorDid (parse_primary L s E) 1 s m w c m1 w1 o
          unfolding parse_primary
          primary_name k d =
              let q = word_read see e in
              ends_as (step-none c w) (omega arith) d
              (rw (← peek-found see m w e, literal_no x q no, is_no x q "(" spelt_open no2, is_no x q "@" spelt_at k))
