-- The ways through the readers of the top level and of the whole script. Assumes nothing.
use mathlib.Core.Bool.{true, false}
use mathlib.Core.Path.{◌≡◌, ap}
use mathlib.Core.List.{List}
use Prim.Native.Nat.{ℕ, ◌≤◌, ◌<◌}
use native.Mathlib.Omega.{arith}
use lib.Dec.{leb}
use lib.ListN.{length}
use borrow.Author.Tests.{le-leb, lt-leb}
use Rattle.ids.specs.declared.FunId.{FunId}
use Rattle.rules.specs.Actions.{answered, if_answered, Turn, again, loop}
use Rattle.rules.specs.Program as P
use Rattle.rules.specs.Reading as R
use Rattle.rules.specs.Reading.{Parser, turns, parse_fun, parse_class, parse_top, parse_program}
use Rattle.variables.specs.Scopes.{over}
use Rattle.variables.specs.Memory.{made}
use Rattle.program.specs.View as View
use Rattle.program.specs.declared.Counts.{Counts}
use Rattle.program.specs.declared.bounds.Limits.{Limits}
use Rattle.std.specs.Prelude.{Result, Ok, Err}
use Rattle.refusals.specs.declared.Refusal.{Refusal}
use Rattle.refusals.specs.declared.Refusal.TheVariants as Q
use Rattle.refusals.specs.Refusals.{number_of}
use Rattle.lexer.specs.declared.Token.TheVariants as K
use Rattle.lexer.specs.declared.Word.{Word}
use Rattle.lexer.proofs.Texts.{fixed-token}
use Rattle.cursor.specs.Cursor.{Cursor, parser_of, move_cur}
use Rattle.cursor.specs.Promises.{Sees, Spelt, moved_of}
use Rattle.cursor.specs.outcomes.Moved.{Moved, On, Refused}
use Rattle.cursor.proofs.Wording.{is-yes, is_no, word_read, next-none}
use Rattle.functions.specs.params.Promises.{funned_of}
use Rattle.functions.specs.outcomes.OpenedFun.{OpenedFun}
use Rattle.functions.specs.Bodies.{Rests, Takes, Taken}
use Rattle.memory.specs.Layout.{script_most}
use Rattle.parser.specs.classes.Turned.{Turned}
use Rattle.parser.specs.classes.Turned as T
use Rattle.parser.specs.classes.Turning.{Turns}
use Rattle.parser.proofs.classes.Loops.{word_on, word_rests, thing_no, thing_on, next-is}
use Rattle.parser.proofs.classes.Members.{spelt_nothing, spelt_def}
use Rattle.parser.specs.Outcomes.{start_cur, ReadsWithin}

-- ---- parse_top

spelt_class : Spelt K.Class "class"
spelt_class x = fixed-token x 1 (omega arith)

module _ (l : Limits) {s m w : List ℕ} {c : Cursor} (g : Rests s m w c) {r : Result Word Refusal} (v : Sees s c r) where
  abbrev Top : List ℕ → List ℕ → Turned → Type 0
  Top m' w' t = Turns (parse_top (View.limits_of l) s tt) s m w c m' w' t

  pub top_none : {e : Refusal} → r ≡ Err e → Top m w (T.Refused (number_of e))
  unfolding parse_top
  top_none f = record { takes = record { is = rw (← next-none v m w f); ok = tt }; further = tt }

  module _ {x : Word} (f : r ≡ Ok x) {c1 : Cursor} (e : c1 ≡ move_cur x.next c) where
    pub top_ends : x.token ≡ K.EndOfText → Top m w (T.Ends c1)
    unfolding parse_top
    top_ends z = record { takes = record { is = rw (← next-is v f e m w, is-yes x (word_read v f) "" spelt_nothing z); ok = (word_rests g v f e, word_on g v f e) }; further = tt }

    module _ (n0 : x.token ≡ K.EndOfText → ⊥) where
      def_is : x.token ≡ K.Def → if_answered {B = Turn (Unit {0}) (Unit {0}) × Parser} (parse_fun (View.limits_of l) s (parser_of s m w c1)) (λ r. answered (again tt, r.1))
          ≡ parse_top (View.limits_of l) s tt (parser_of s m w c)
      unfolding parse_top
      def_is z = rw (← next-is v f e m w, is_no x (word_read v f) "" spelt_nothing n0, is-yes x (word_read v f) "def" spelt_def z)

      module _ (z : x.token ≡ K.Def) {m1 w1 : List ℕ} {y : OpenedFun} (b : Taken l s m w c1 m1 w1 y) where
        pub top_def_no : {n : ℕ} → y ≡ OpenedFun.Refused n → Top m1 w1 (T.Refused n)
        top_def_no i = thing_no (parse_top (View.limits_of l) s tt) (word_on g v f e) (def_is z) b.takes (ap funned_of i)

        pub top_def : {c2 : Cursor} {k : FunId} → y ≡ OpenedFun.Done c2 k → Top m1 w1 (T.Again c2)
        top_def i = thing_on (parse_top (View.limits_of l) s tt) (word_on g v f e) (def_is z) b.takes (ap funned_of i)

      module _ (n3 : x.token ≡ K.Def → ⊥) where
        class-is : x.token ≡ K.Class → if_answered {B = Turn (Unit {0}) (Unit {0}) × Parser} (parse_class (View.limits_of l) s (parser_of s m w c1)) (λ r. answered (again tt, r.1))
            ≡ parse_top (View.limits_of l) s tt (parser_of s m w c)
        unfolding parse_top
        class-is z = rw (← next-is v f e m w, is_no x (word_read v f) "" spelt_nothing n0, is_no x (word_read v f) "def" spelt_def n3, is-yes x (word_read v f) "class" spelt_class z)

        module _ (z : x.token ≡ K.Class) {m1 w1 : List ℕ} {y : Moved} (b : Takes (parse_class (View.limits_of l) s) 1 s m w c1 m1 w1 (moved_of y)) where
          pub top_class_no : {n : ℕ} → y ≡ Refused n → Top m1 w1 (T.Refused n)
          top_class_no i = thing_no (parse_top (View.limits_of l) s tt) (word_on g v f e) (class-is z) b (ap moved_of i)

          pub top_class : {c2 : Cursor} → y ≡ On c2 → Top m1 w1 (T.Again c2)
          top_class i = thing_on (parse_top (View.limits_of l) s tt) (word_on g v f e) (class-is z) b (ap moved_of i)

        pub top_other : (x.token ≡ K.Class → ⊥) → Top m w (T.Refused 5)
        unfolding parse_top
        top_other n4 =
            record {
              takes = record {
                is = rw (
                  ← next-is v f e m w,
                  is_no x (word_read v f) "" spelt_nothing n0,
                  is_no x (word_read v f) "def" spelt_def n3,
                  is_no x (word_read v f) "class" spelt_class n4,
                );
                ok = tt;
              };
              further = tt;
            }

-- ---- read

module _ (l : Limits) (s : List ℕ) where
  pub read-long : (m : List ℕ) → l.script < length s → ReadsWithin l s m (Err Q.ScriptTooLong)
  unfolding parse_program
  read-long m h = record { is = let z : leb (length s) l.script ≡ false = lt-leb (length s) l.script h in rw z; ok = tt }

  module _ (h : length s ≤ l.script) (k : l.script ≤ script_most) {m : List ℕ} (w : List ℕ) {d : Counts} (a : View.Starts m d) {c : Cursor} (e : c ≡ start_cur d) where
    start_is : parser_of s m w c ≡ R.parser (View.limits_of l) s
    unfolding parser_of made over
    start_is = rw (e, a.is s)

    whole : if_answered {B = P.Program} (loop (parse_top (View.limits_of l) s) (turns s) tt (parser_of s m w c)) (λ r. answered r.1.program) ≡ parse_program (View.limits_of l) s
    unfolding parse_program
    whole = let z : leb (length s) l.script ≡ true = le-leb (length s) l.script h in rw (z, start_is)

    module _ {m1 w1 : List ℕ} {y : Moved} (b : Takes (loop (parse_top (View.limits_of l) s) (turns s) tt) 0 s m w c m1 w1 (moved_of y)) where
      pub read_no : {n : Refusal} → y ≡ Refused (number_of n) → ReadsWithin l s m1 (Err n)
      read_no i = record { is = let h = rw i at b.is in rw (← h) at whole; ok = tt }

      pub read-yes : {c1 : Cursor} → y ≡ On c1 → ReadsWithin l s m1 (Ok c1.counts)
      unfolding parser_of
      read-yes i = let h = rw i at b in record { is = rw (← h.is) at whole; ok = h.ok.0.ready.tables }
