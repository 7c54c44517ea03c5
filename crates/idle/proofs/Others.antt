-- What a visit leaves of the other instructions. Assumes nothing.
use Prim.Native.Nat.{ℕ}
use mathlib.Core.Path.{◌≡◌, refl, sym, ap, ◌∙◌, subst}
use lib.ListN.{get_or}
use lib.Seq.{get_or-set_other}
use Rattle.kinds.specs.declared.Kind.TheVariants.{Empty}
use Rattle.rules.specs.Actions.{answered}
use Rattle.rules.specs.Program.{Limits, Program, op_of}
use Rattle.rules.specs.Machine.{State, visit}
use Rattle.idle.proofs.Keeps.{Kept, Widens, Stores, keeps_visit}

-- a visit leaves the kinds of the other instructions
pub other-kind : (L : Limits) (p : Program) (i j : ℕ) (s e : State) → visit L p i s ≡ answered (tt, e) → (j ≡ i → ⊥) → get_or e.kinds j Empty ≡ get_or s.kinds j Empty
other-kind L p i j s e q ne = keeps_visit As L p kept i s e widens stores q refl
  where
    As : State → Type 0
    As t = get_or t.kinds j Empty ≡ get_or s.kinds j Empty

    kept : Kept As
    kept = record { insns = λ l t h. h; block = λ x t h. h; call = λ f x b t h. h; read = λ c x t h. h }

    widens : Widens As L p (op_of p i) s
    widens n r v o c t u w h = subst As (sym w.state) h

    stores : Stores As L p i
    stores k t u d h = ap (λ (x : State). get_or x.kinds j Empty) d.state ∙ get_or-set_other t.kinds i j k Empty ne ∙ h
