-- The ways through the reader of a class. Assumes nothing.
use mathlib.Core.Path.{◌≡◌, refl, sym, ap, ◌∙◌}
use mathlib.Core.List.{List}
use mathlib.Core.Option.{none, some}
use Prim.Native.Nat.{ℕ}
use native.Mathlib.Omega.{arith}
use Rattle.ids.specs.declared.ClassId.{ClassId}
use Rattle.rules.specs.Actions.{answered, refused, loop}
use Rattle.rules.specs.Reading.{with_class, new_class, class_named, turns, parse_class_member, parse_class}
use Rattle.lookups.specs.Look.{LookKnown}
use mathlib.Core.Bool.{true, false}
use Rattle.std.specs.Prelude.{Option as Maybe, Some, None, Result, Ok, Err, is_some}
use Rattle.refusals.specs.declared.Refusal.{Refusal}
use Rattle.refusals.specs.Refusals.{number_of}
use Rattle.program.specs.Rows.{name_in}
use Rattle.program.specs.View as View
use Rattle.program.specs.declared.Counts.{Counts}
use Rattle.program.specs.declared.bounds.Limits.{Limits}
use Rattle.program.specs.declared.Name.{Name}
use Rattle.cursor.specs.Cursor.{Cursor, parser_of, count_cur}
use Rattle.cursor.specs.Promises.{Idents, moved_of}
use Rattle.cursor.specs.outcomes.Ident.{Ident}
use Rattle.cursor.specs.outcomes.Moved.{Moved, On, Refused}
use Rattle.cursor.proofs.Laws.{ident_on, ident_is}
use Rattle.functions.specs.Bodies.{Rests, Onto, Takes}
use Rattle.parser.specs.classes.Turning.{class_cur}

module _ (l : Limits) {s m w : List ℕ} {c : Cursor} (g : Rests s m w c) {u : Ident} (a : Idents s c u) where
  abbrev Class : List ℕ → List ℕ → Moved → Type 0
  Class m' w' r = Takes (parse_class (View.limits_of l) s) 1 s m w c m' w' (moved_of r)

  pub class_no : {e : ℕ} → u ≡ Ident.Refused e → Class m w (Refused e)
  unfolding parse_class
  class_no f = record { is = let h = rw f at (a.moves.is m w) in rw (← h); ok = tt }

  module _ {c1 : Cursor} {n : Name} (f : u ≡ Ident.Found c1 n) where
    module _ {m1 : List ℕ} (d : Counts) (x : Result ClassId Refusal)
        (b : View.ProgramDid (View.class_for (View.limits_of l) n) View.unchanged c1.counts.classes (View.more_classes c1.counts) m c1.counts m1 (View.class_of d x)) where
      full_is : {e : Refusal} → x ≡ Err e → refused (number_of e) ≡ new_class (View.limits_of l) (name_in s n) (parser_of s m w c1)
      unfolding parser_of
      full_is i = rw i at (b.is s (parser_of s m w c1))

      pub class_no2 : {e : Refusal} → x ≡ Err e → Class m1 w (Refused (number_of e))
      unfolding parse_class
      class_no2 i = record { is = rw (← ident_is a f m w, ← full_is i); ok = tt }

      module _ {k : ClassId} (i : x ≡ Ok k) {c2 c3 : Cursor} (p : c2 ≡ count_cur d c1) (q : c3 ≡ class_cur (Some k) c2) where
        added : View.ProgramAfter m1 c1.counts.classes (View.more_classes c1.counts) k.0 d
        added = rw i at b.ok

        opened : c3 ≡ class_cur (Some k) (count_cur d c1)
        opened = q ∙ ap (λ (z : Cursor). class_cur (Some k) z) p

        added_is : answered (k.0, parser_of s m1 w c2) ≡ new_class (View.limits_of l) (name_in s n) (parser_of s m w c1)
        unfolding parser_of
        added_is = rw p (rw i at (b.is s (parser_of s m w c1)))

        opened-is : parser_of s m1 w c3 ≡ with_class (some k.0) (parser_of s m1 w c2)
        unfolding parser_of
        opened-is = rw (q, p)

        opened-at : c3.at ≡ c1.at
        opened-at = ap (λ (z : Cursor). z.at) opened

        module _ {m2 w2 : List ℕ} {y : Moved} (t : Takes (loop (parse_class_member (View.limits_of l) s k.0) (turns s) tt) 0 s m1 w c3 m2 w2 (moved_of y)) where
          pub class_no3 : {e : ℕ} → y ≡ Refused e → Class m2 w2 (Refused e)
          unfolding parse_class
          class_no3 z = record { is = let h = rw z at t.is in let i = rw opened-is at h in rw (← ident_is a f m w, ← added_is, ← i); ok = tt }

          module _ {c4 : Cursor} (z : y ≡ On c4) where
            things_ok : Rests s m2 w2 c4 × Onto 0 c3 c4
            things_ok = rw z at t.ok

            things_is : answered (tt, parser_of s m2 w2 c4) ≡ loop (parse_class_member (View.limits_of l) s k.0) (turns s) tt (with_class (some k.0) (parser_of s m1 w c2))
            things_is = let h = rw z at t.is in rw opened-is at h

            shut : parser_of s m2 w2 (class_cur None c4) ≡ with_class none (parser_of s m2 w2 c4)
            unfolding parser_of
            shut = refl

            module _ (o : Maybe ClassId) (v : LookKnown s m2 c4.counts c4.class n o) where
              found : {j : ClassId} → o ≡ Some j → some j.0 ≡ class_named (parser_of s m2 w2 c4) (name_in s n)
              unfolding parser_of
              found r = rw r at (v.is (parser_of s m2 w2 c4))

              unknown : o ≡ None → none ≡ class_named (parser_of s m2 w2 c4) (name_in s n)
              unfolding parser_of
              unknown r = rw r at (v.is (parser_of s m2 w2 c4))

              twice : {j : ClassId} → o ≡ Some j → Class m2 w2 (Refused 7)
              unfolding parse_class
              twice r = record { is = rw (← ident_is a f m w, ← added_is, ← things_is, ← found r); ok = tt }

              pub class-yes : {c5 : Cursor} → o ≡ None → c5 ≡ class_cur None c4 → c.class ≡ None → Class m2 w2 (On c5)
              unfolding parse_class
              class-yes r e nobody =
                  let q = things_ok.0.ready in
                  let st = things_ok.1 in
                  rw e (record {
                    is = rw (shut, ← ident_is a f m w, ← added_is, ← things_is, ← unknown r);
                    ok = (
                      record {
                        ready = record { script = q.script; inside = q.inside; tables = q.tables; scratch = q.scratch; room = q.room; args = q.args };
                        args = things_ok.0.args;
                      },
                      record {
                        on = omega (arith, st.on, opened-at, (ident_on a f).1.0);
                        class = sym nobody;
                        functions =
                            omega (
                              arith,
                              st.functions,
                              ap (λ (z : Cursor). z.counts.functions) opened,
                              ap (λ (z : Counts). z.functions) added.counts,
                              ap (λ (z : Cursor). z.counts.functions) (ident_on a f).0,
                            );
                        classes =
                            omega (
                              arith,
                              st.classes,
                              ap (λ (z : Cursor). z.counts.classes) opened,
                              ap (λ (z : Counts). z.classes) added.counts,
                              ap (λ (z : Cursor). z.counts.classes) (ident_on a f).0,
                            );
                      },
                    );
                  })

            pub class_twice : (o : Maybe ClassId) → LookKnown s m2 c4.counts c4.class n o → is_some o ≡ true → Class m2 w2 (Refused 7)
            class_twice (Some j) v h = twice (Some j) v refl
            class_twice None v h = absurd (let z : ◌≡◌ {A = ℕ} 0 1 = cc in omega arith)

            pub class_single : (o : Maybe ClassId) → LookKnown s m2 c4.counts c4.class n o → is_some o ≡ false → {c5 : Cursor} → c5 ≡ class_cur None c4 → c.class ≡ None → Class m2 w2 (On c5)
            class_single None v h e nobody = class-yes None v refl e nobody
            class_single (Some j) v h e nobody = absurd (let z : ◌≡◌ {A = ℕ} 0 1 = cc in omega arith)
