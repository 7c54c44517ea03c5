-- The rules of reading and setting an attribute, in the parts that the code does one after the other. Assumes nothing.
use mathlib.Core.Option.{Option, none, some}
use mathlib.Core.Path.{◌≡◌, refl, ap, ◌∙◌}
use mathlib.Core.List.{List, [], ◌∷◌}
use Prim.Native.Nat.{ℕ}
use native.Mathlib.Omega.{arith}
use Rattle.ids.specs.Sets.{members_of}
use Rattle.kinds.specs.declared.Kind.{Kind}
use Rattle.kinds.specs.declared.Kind.TheVariants.{Empty}
use Rattle.rules.specs.Actions.{Answer, answered, refused, ◌>>◌, give, change, each}
use Rattle.rules.specs.Values.{classes_in}
use Rattle.program.specs.declared.Opnd.{Opnd}
use Rattle.program.specs.Rows.{opnd_of}
use Rattle.rules.specs.Program as P
use Rattle.rules.specs.Program.{Limits, limits, Program, no_program, Name, GetIvar, SetIvar}
use Rattle.rules.specs.Machine.{State, classes_of, add_read, rule}
use Rattle.state.specs.declared.Sizes.{Sizes}
use Rattle.state.specs.declared.Regs.{Regs}
use Rattle.state.specs.Acted.{On}
use Rattle.state.specs.View.{kinds_of, state_view}
use Rattle.state.specs.Changes.{StateDid, Every}
use Rattle.state.proofs.Pushes.{no_attrs}
use Rattle.machine.specs.opnds.Reads.{kind_in}
use Rattle.machine.proofs.receivers.Asked.{asked-yes, asked_no}
use Rattle.attributes.specs.Attributes.{mark_reads, read_ivars, set_ivars}

-- what the marks of a read leave
record Marked (i : ℕ) (l : List ℕ) (s : State) : Type 0 where
  to : State
  is : each l (λ c. change (add_read c i)) s ≡ answered (tt, to)
  kinds : to.kinds ≡ s.kinds

marked : (i : ℕ) (l : List ℕ) (s : State) → Marked i l s
marked i [] s = record { to = s; is = refl; kinds = refl }
marked i (c ∷ l) s = let g = marked i l (add_read c i s) in record { to = g.to; is = g.is; kinds = g.kinds }

pub get_rule : (L : Limits) (p : Program) (i : ℕ) (n : Name) (r : P.Opnd) (s : State) → rule L p i (GetIvar n r) s ≡ (mark_reads i r >> read_ivars L p n r) s
unfolding rule
get_rule L p i n r s = go (classes_in (kind_in s.kinds r)) refl
  where
    go : (x : Option ℕ) → classes_in (kind_in s.kinds r) ≡ x → rule L p i (GetIvar n r) s ≡ (mark_reads i r >> read_ivars L p n r) s
    go none e = rw (asked_no r s e)
    go (some c) e =
        let g = marked i (members_of c) s in
        let h = asked-yes r g.to c (ap (λ (ks : List Kind). classes_in (kind_in ks r)) g.kinds ∙ e) in
        rw (asked-yes r s c e, g.is, h)

pub set-rule : (L : Limits) (p : Program) (i : ℕ) (n : Name) (r v : P.Opnd) (s : State) → rule L p i (SetIvar n r v) s ≡ (set_ivars L p n r v >> give Empty) s
unfolding rule
set-rule L p i n r v s = go (classes_of r s) refl
  where
    go : (x : Answer (List ℕ × State)) → classes_of r s ≡ x → rule L p i (SetIvar n r v) s ≡ (set_ivars L p n r v >> give Empty) s
    go (answered a) e = rw e
    go (refused k) e = rw e

-- the marks leave the kinds
abbrev state_in : State → Answer (Unit {0} × State) → State
state_in s (answered a) = a.1
state_in s (refused n) = s

pub marked-kinds : {z : Sizes} (i : ℕ) (o : Opnd) {m : List ℕ} {q : Regs} {w : List ℕ} {a : Regs} → StateDid z Every (λ L p. mark_reads i (opnd_of o)) m q w (On a) → kinds_of z w ≡ kinds_of z m
marked-kinds {z} i o {m} {q} {w} {a} d = go (classes_in (kind_in (kinds_of z m) (opnd_of o))) refl (d.is limits refl no_program no_attrs tt)
  where
    go : (x : Option ℕ) → classes_in (kind_in (kinds_of z m) (opnd_of o)) ≡ x
        → ◌≡◌ {A = Answer (Unit {0} × State)} (answered (tt, state_view z no_attrs w a)) (mark_reads i (opnd_of o) (state_view z no_attrs m q))
        → kinds_of z w ≡ kinds_of z m
    go none e h =
        let b : ◌≡◌ {A = Answer (Unit {0} × State)} (answered (tt, state_view z no_attrs w a)) (refused 14) = rw (asked_no (opnd_of o) (state_view z no_attrs m q) e) at h in
        absurd (let y : ◌≡◌ {A = ℕ} 0 1 = cc in omega arith)
    go (some c) e h =
        let g = marked i (members_of c) (state_view z no_attrs m q) in
        let b : ◌≡◌ {A = Answer (Unit {0} × State)} (answered (tt, state_view z no_attrs w a)) (answered (tt, g.to)) = rw (asked-yes (opnd_of o) (state_view z no_attrs m q) c e, g.is) at h in
        ap (λ (y : Answer (Unit {0} × State)). (state_in (state_view z no_attrs m q) y).kinds) b ∙ g.kinds
