-- What the rules' theory gives of the states that the analysis comes to. Assumes nothing.
use mathlib.Core.Path.{◌≡◌, refl, subst}
use mathlib.Core.List.{List}
use Prim.Native.Nat.{ℕ, ◌^◌, ◌<◌}
use lib.ListN.{length, get_or}
use Rattle.kinds.specs.declared.Kind.TheVariants.{Empty}
use Rattle.kinds.specs.Heights.{Good}
use Rattle.rules.specs.Program.{Limits, Op}
use Rattle.rules.specs.Bound.{bound}
use Rattle.rules.specs.Machine.{State}
use Rattle.rules.proofs.Exactness.Grow.{Calls}
use Rattle.rules.proofs.Exactness.Limited.{bound-small}
use Rattle.rules.proofs.Exactness.Loop.{At}
use Rattle.rules.proofs.Exactness.Theorem.{going, room}
use Rattle.program.specs.Rows.{class_at}
use Rattle.program.specs.View.{program_view, classes_of}
use Rattle.program.specs.declared.Counts.{Counts}
use Rattle.program.proofs.Tables.{tab-length}
use Rattle.state.specs.declared.Sizes.{Sizes}
use Rattle.state.specs.declared.Regs.{Regs}
use Rattle.state.specs.View as Held
use Rattle.state.specs.View.{Attrs, kinds_of}
use Rattle.state.proofs.Sized as Memory
use Rattle.state.proofs.Sized.{attrs_of}
use Rattle.machine.specs.Analysed.{MachineRoom, Suited, MachineFits, MachineReached, Steady}

pub room_of : {L : Limits} → MachineRoom L → Memory.Room L
room_of r = record { functions = r.functions; classes = r.classes; blocks = r.blocks; instructions = r.instructions; ivars = r.ivars }

module _ (s p : List ℕ) (c : Counts) (L : Limits) (S : Suited s p c L) where
  -- the numbers of the classes' attributes
  abbrev pub attrs : Attrs
  attrs = attrs_of L (program_view s p c) (room_of S.room) S.finished.limits

  pub attrs-fit : MachineFits s p c (program_view s p c) attrs
  attrs-fit = record { is = refl; attrs = λ k. refl }

  pub at_of : (t : State) (r : MachineReached L (program_view s p c) t) → At L S.room.classes (program_view s p c) S.finished r.from t
  at_of t r =
      record {
        there = r.there;
        going = going L S.room.classes (program_view s p c) S.finished t.count r.from t r.starts r.there;
        room = room L S.room.classes (program_view s p c) S.finished t.count r.from t r.starts r.there;
      }

  classes_are : length (program_view s p c).classes ≡ c.classes
  unfolding classes_of
  classes_are = tab-length (class_at s p) c.classes

  pub steady-at : (z : Sizes) (v : Attrs) (m : List ℕ) (q : Regs) → MachineReached L (program_view s p c) (Held.state_view z v m q) → Steady s p c z m
  steady-at z v m q r =
      let inv = (at_of (Held.state_view z v m q) r).going.inv in
      record {
        calls = λ f i e. (inv.callers f i e).call;
        alone = λ f i g l h e. subst (λ (o : Op). Calls (program_view s p c) (kinds_of z m) o f) e (inv.callers f i h).by;
        kinds = λ i. subst (λ (n : ℕ). Good n (get_or (kinds_of z m) i Empty)) classes_are (inv.fine.kind i).good;
      }

  pub bound-fits : bound (program_view s p c) < 2 ^ 63
  bound-fits = let r = S.room in bound-small (program_view s p c) L S.finished r.functions r.classes r.instructions r.ivars
