-- The ways through the readers of methods, attributes and the things in a class. Assumes nothing.
use mathlib.Core.Path.{◌≡◌, refl, sym, ap, ◌∙◌}
use mathlib.Core.List.{List}
use Prim.Native.Nat.{ℕ, ◌+◌, ◌≤◌}
use native.Mathlib.Omega.{arith}
use lib.ListN.{length}
use borrow.Author.Tests.{eq-eqb, ne_eqb}
use Rattle.ids.specs.declared.ClassId.{ClassId}
use Rattle.ids.specs.declared.FunId.{FunId}
use Rattle.rules.specs.Actions.{answered, if_answered, Turn, again}
use Rattle.rules.specs.Program as P
use Rattle.rules.specs.Program.{method_named}
use Rattle.rules.specs.Reading as R
use Rattle.rules.specs.Reading.{Parser, parse_fun, parse_method, parse_attr, parse_class_member}
use Rattle.lookups.specs.Look.{fun_found, Declares}
use Rattle.std.specs.Prelude.{Option as Maybe, Some, None, Result, Ok, Err}
use Rattle.refusals.specs.declared.Refusal.{Refusal}
use Rattle.refusals.specs.Refusals.{number_of}
use Rattle.program.specs.Rows.{name_in}
use Rattle.program.specs.View as View
use Rattle.program.specs.declared.Function.{Function}
use Rattle.program.specs.declared.bounds.Limits.{Limits}
use Rattle.program.specs.declared.Name.{Name}
use Rattle.lexer.specs.declared.Token.TheVariants as K
use Rattle.lexer.specs.declared.Word.{Word}
use Rattle.lexer.proofs.Texts.{fixed-token}
use Rattle.cursor.specs.Cursor.{Cursor, parser_of, move_cur}
use Rattle.cursor.specs.Promises.{Idents, Expects, Sees, Spelt, moved_of}
use Rattle.cursor.specs.outcomes.Ident.{Ident}
use Rattle.cursor.specs.outcomes.Moved.{Moved, On, Refused}
use Rattle.cursor.proofs.Wording.{spelt_end, is-yes, is_no, word_read, next-none}
use Rattle.cursor.proofs.Laws.{ident_on, ident_is}
use Rattle.functions.specs.outcomes.OpenedFun.{OpenedFun}
use Rattle.functions.specs.Bodies.{Rests, Onto, Takes, Taken}
use Rattle.parser.specs.classes.Turned.{Turned}
use Rattle.parser.specs.classes.Turned as T
use Rattle.parser.specs.classes.Turning.{Turns}
use Rattle.parser.proofs.classes.Loops.{rests_moved, onto_moved, word_on, word_rests, thing_no, thing_on, next-is}

-- ---- parse_method

module _ (l : Limits) {s m w : List ℕ} {c : Cursor} (k : ClassId) {x : OpenedFun} {m1 w1 : List ℕ} (a : Taken l s m w c m1 w1 x) where
  pub method_no : {e : ℕ} → x ≡ OpenedFun.Refused e → Takes (parse_method (View.limits_of l) s k.0) 1 s m w c m1 w1 (moved_of (Refused e))
  unfolding parse_method
  method_no o = record { is = let h = rw o at a.takes.is in rw (← h); ok = tt }

  module _ {c1 : Cursor} {f : FunId} (o : x ≡ OpenedFun.Done c1 f) where
    read_is : answered (f.0, parser_of s m1 w1 c1) ≡ parse_fun (View.limits_of l) s (parser_of s m w c)
    read_is = rw o at a.takes.is

    module _ {r : Function} (b : View.ReadsFun m1 c1.counts f.0 r) where
      named-is : method_named (View.program_view s m1 c1.counts) k.0 (name_in s r.name)
          ≡ method_named (View.program_view s m1 c1.counts) k.0 (P.function (View.program_view s m1 c1.counts) f.0).name
      named-is = ap (λ (z : P.Function). method_named (View.program_view s m1 c1.counts) k.0 z.name) (sym (b.is s))

      module _ (y : Maybe FunId) (d : fun_found y ≡ method_named (View.program_view s m1 c1.counts) k.0 (name_in s r.name)) where
        none : y ≡ None → Takes (parse_method (View.limits_of l) s k.0) 1 s m w c m1 w1 (moved_of (Refused 7))
        unfolding parse_method parser_of
        none i = record { is = let h = rw i at d in rw (← read_is, ← (h ∙ named-is)); ok = tt }

        other : {g : FunId} → y ≡ Some g → (g.0 ≡ f.0 → ⊥) → Takes (parse_method (View.limits_of l) s k.0) 1 s m w c m1 w1 (moved_of (Refused 7))
        unfolding parse_method parser_of
        other i n = record { is = let h = rw i at d in rw (← read_is, ← (h ∙ named-is), ne_eqb _ _ n); ok = tt }

        pub method_yes : y ≡ Some f → Takes (parse_method (View.limits_of l) s k.0) 1 s m w c m1 w1 (moved_of (On c1))
        unfolding parse_method parser_of
        method_yes i = record { is = let h = rw i at d in rw (← read_is, ← (h ∙ named-is), eq-eqb f.0 f.0 refl); ok = let h = rw o at a.takes.ok in h }

      pub method_other : (y : Maybe FunId) → fun_found y ≡ method_named (View.program_view s m1 c1.counts) k.0 (name_in s r.name) → (y ≡ Some f → ⊥)
          → Takes (parse_method (View.limits_of l) s k.0) 1 s m w c m1 w1 (moved_of (Refused 7))
      method_other None d n = none None d refl
      method_other (Some g) d n = other (Some g) d refl (λ z. n (ap (λ i. Some (record { 0 = i })) z))

-- ---- parse_attr

spelt_colon : Spelt (K.Sign 58) ":"
spelt_colon x = fixed-token x 17 (omega arith)

module _ (l : Limits) {s m w : List ℕ} {c : Cursor} (k : ClassId) (g : Rests s m w c) {x : Moved} (a : Expects s (K.Sign 58) c x) where
  abbrev Attr : List ℕ → Moved → Type 0
  Attr m' r = Takes (parse_attr (View.limits_of l) s k.0) 1 s m w c m' w (moved_of r)

  pub attr_no : {e : ℕ} → x ≡ Refused e → Attr m (Refused e)
  unfolding parse_attr
  attr_no o = record { is = let h = rw o at ((a.moves ":" spelt_colon).is m w) in rw (← h); ok = tt }

  module _ {c1 : Cursor} (o : x ≡ On c1) {u : Ident} (b : Idents s c1 u) where
    colon_is : answered (tt, parser_of s m w c1) ≡ R.expect s ":" (parser_of s m w c)
    colon_is = rw o at ((a.moves ":" spelt_colon).is m w)

    colon_on : (c1 ≡ move_cur c1.at c) × ((c.at + 1 ≤ c1.at) × (c.at ≤ length s → c1.at ≤ length s))
    colon_on = let h = rw o at (a.moves ":" spelt_colon).ok in h

    pub attr_no2 : {e : ℕ} → u ≡ Ident.Refused e → Attr m (Refused e)
    unfolding parse_attr
    attr_no2 i = record { is = let h = rw i at (b.moves.is m w) in rw (← colon_is, ← h); ok = tt }

    module _ {c2 : Cursor} {n : Name} (i : u ≡ Ident.Found c2 n) where
      whole : c2 ≡ move_cur c2.at c
      whole = (ident_on b i).0 ∙ ap (λ (z : Cursor). move_cur c2.at z) colon_on.0

      attr_rests : Rests s m w c2
      attr_rests = rests_moved g whole (omega (arith, colon_on.1.0, (ident_on b i).1.0)) ((ident_on b i).1.1 (colon_on.1.1 g.ready.inside))

      module _ {m' : List ℕ} {y : Result (Unit {0}) Refusal} (d : Declares l k.0 n s m c2.counts m' y) where
        pub attr_no3 : {e : Refusal} → y ≡ Err e → Attr m' (Refused (number_of e))
        unfolding parse_attr parser_of
        attr_no3 j = record { is = let h = rw j at (d.is (parser_of s m w c2)) in rw (← colon_is, ← ident_is b i m w) h; ok = tt }

        pub attr_yes : y ≡ Ok tt → Attr m' (On c2)
        unfolding parse_attr parser_of
        attr_yes j =
            let q = attr_rests.ready in
            record {
              is = let h = rw j at (d.is (parser_of s m w c2)) in rw (← colon_is, ← ident_is b i m w) h;
              ok = (
                record {
                  ready = record { script = q.script; inside = q.inside; tables = rw j at d.ok; scratch = q.scratch; room = q.room; args = q.args };
                  args = attr_rests.args;
                },
                onto_moved 1 whole (omega (arith, colon_on.1.0, (ident_on b i).1.0)),
              );
            }

-- ---- parse_member

pub spelt_nothing : Spelt K.EndOfText ""
spelt_nothing x = fixed-token x 7 (omega arith)

pub spelt_def : Spelt K.Def "def"
spelt_def x = fixed-token x 0 (omega arith)

spelt_attr : Spelt K.AttrAccessor "attr_accessor"
spelt_attr x = fixed-token x 6 (omega arith)

module _ (l : Limits) {s m w : List ℕ} {c : Cursor} (k : ClassId) (g : Rests s m w c) {r : Result Word Refusal} (v : Sees s c r) where
  abbrev Member : List ℕ → List ℕ → Turned → Type 0
  Member m' w' t = Turns (parse_class_member (View.limits_of l) s k.0 tt) s m w c m' w' t

  pub member_none : {e : Refusal} → r ≡ Err e → Member m w (T.Refused (number_of e))
  unfolding parse_class_member
  member_none f = record { takes = record { is = rw (← next-none v m w f); ok = tt }; further = tt }

  module _ {x : Word} (f : r ≡ Ok x) {c1 : Cursor} (e : c1 ≡ move_cur x.next c) where
    abbrev went : Rests s m w c1 × Onto 0 c c1
    went = (word_rests g v f e, word_on g v f e)

    pub member_over : x.token ≡ K.EndOfText → Member m w (T.Ends c1)
    unfolding parse_class_member
    member_over z = record { takes = record { is = rw (← next-is v f e m w, is-yes x (word_read v f) "" spelt_nothing z); ok = went }; further = tt }

    module _ (n0 : x.token ≡ K.EndOfText → ⊥) where
      pub member_ends : x.token ≡ K.End → Member m w (T.Ends c1)
      unfolding parse_class_member
      member_ends z = record { takes = record { is = rw (← next-is v f e m w, is_no x (word_read v f) "" spelt_nothing n0, is-yes x (word_read v f) "end" spelt_end z); ok = went }; further = tt }

      module _ (n5 : x.token ≡ K.End → ⊥) where
        def_is : x.token ≡ K.Def → if_answered {B = Turn (Unit {0}) (Unit {0}) × Parser} (parse_method (View.limits_of l) s k.0 (parser_of s m w c1)) (λ r. answered (again tt, r.1))
            ≡ parse_class_member (View.limits_of l) s k.0 tt (parser_of s m w c)
        unfolding parse_class_member
        def_is z = rw (← next-is v f e m w, is_no x (word_read v f) "" spelt_nothing n0, is_no x (word_read v f) "end" spelt_end n5, is-yes x (word_read v f) "def" spelt_def z)

        module _ (z : x.token ≡ K.Def) {m1 w1 : List ℕ} {y : Moved} (b : Takes (parse_method (View.limits_of l) s k.0) 1 s m w c1 m1 w1 (moved_of y)) where
          pub member_def_no : {n : ℕ} → y ≡ Refused n → Member m1 w1 (T.Refused n)
          member_def_no i = thing_no (parse_class_member (View.limits_of l) s k.0 tt) went.1 (def_is z) b (ap moved_of i)

          pub member_def : {c2 : Cursor} → y ≡ On c2 → Member m1 w1 (T.Again c2)
          member_def i = thing_on (parse_class_member (View.limits_of l) s k.0 tt) went.1 (def_is z) b (ap moved_of i)

        module _ (n3 : x.token ≡ K.Def → ⊥) where
          attr_is : x.token ≡ K.AttrAccessor → if_answered {B = Turn (Unit {0}) (Unit {0}) × Parser} (parse_attr (View.limits_of l) s k.0 (parser_of s m w c1)) (λ r. answered (again tt, r.1))
              ≡ parse_class_member (View.limits_of l) s k.0 tt (parser_of s m w c)
          unfolding parse_class_member
          attr_is z =
              rw (
                ← next-is v f e m w,
                is_no x (word_read v f) "" spelt_nothing n0,
                is_no x (word_read v f) "end" spelt_end n5,
                is_no x (word_read v f) "def" spelt_def n3,
                is-yes x (word_read v f) "attr_accessor" spelt_attr z,
              )

          module _ (z : x.token ≡ K.AttrAccessor) {m1 w1 : List ℕ} {y : Moved} (b : Takes (parse_attr (View.limits_of l) s k.0) 1 s m w c1 m1 w1 (moved_of y)) where
            pub member_attr_no : {n : ℕ} → y ≡ Refused n → Member m1 w1 (T.Refused n)
            member_attr_no i = thing_no (parse_class_member (View.limits_of l) s k.0 tt) went.1 (attr_is z) b (ap moved_of i)

            pub member_attr : {c2 : Cursor} → y ≡ On c2 → Member m1 w1 (T.Again c2)
            member_attr i = thing_on (parse_class_member (View.limits_of l) s k.0 tt) went.1 (attr_is z) b (ap moved_of i)

          pub member_other : (x.token ≡ K.AttrAccessor → ⊥) → Member m w (T.Refused 5)
          unfolding parse_class_member
          member_other n9 =
              record {
                takes = record {
                  is =
                      rw (
                        ← next-is v f e m w,
                        is_no x (word_read v f) "" spelt_nothing n0,
                        is_no x (word_read v f) "end" spelt_end n5,
                        is_no x (word_read v f) "def" spelt_def n3,
                        is_no x (word_read v f) "attr_accessor" spelt_attr n9,
                      );
                  ok = tt;
                };
                further = tt;
              }
