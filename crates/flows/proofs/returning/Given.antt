-- What call_kind relies on follows from a finished program and its index. Assumes nothing.
use mathlib.Core.Bool.{Bool as 𝔹}
use mathlib.Core.Path.{◌≡◌, refl, subst, sym, ◌∙◌}
use mathlib.Core.List.{List}
use Prim.Native.Nat.{ℕ}
use Rattle.rules.specs.Program.{Limits}
use Rattle.rules.specs.Finished.{Finished}
use Rattle.program.specs.declared.Counts.{Counts}
use Rattle.program.specs.View.{program_view, ProgramReady}
use Rattle.program.proofs.Viewing.{instructions-length}
use Rattle.state.specs.declared.Sizes.{Sizes}
use Rattle.state.specs.View.{Attrs}
use Rattle.chains.specs.Chains.{Index}
use Rattle.flows.specs.returning.Returning.{ReturnSound, Backs, ReturnAmong, BackIn}
use Rattle.flows.proofs.returning.Opnds.{sound_of}

module _ (L : Limits) (s m : List ℕ) (c : Counts) (z : Sizes) (h : Finished L (program_view s m c)) (e : z.insns ≡ c.insns) where
  sound : ReturnSound (program_view s m c) z.insns
  sound = subst (ReturnSound (program_view s m c)) (instructions-length s m c.insns ∙ sym e) (sound_of L (program_view s m c) h)

  pub backs_of : (x : List ℕ) → ProgramReady m c → Index m c x → Backs m c z x
  backs_of x r g = record { script = s; ready = r; sizes = e; index = g; sound = sound }

  pub back_in : (t : List (List 𝔹)) (i f n : ℕ) (v : Attrs) → ReturnAmong t i f n → BackIn m c z t i f n (program_view s m c) v
  back_in t i f n v a = record { script = s; program = refl; sound = sound; among = a }
