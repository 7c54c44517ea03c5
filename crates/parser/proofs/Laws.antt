-- Reading under the built-in limits; a finished program is well formed, as the analysis needs it. Assumes nothing.
use mathlib.Core.Path.{◌≡◌, sym}
use mathlib.Core.List.{List}
use Prim.Native.Nat.{ℕ}
use Rattle.rules.specs.Program as P
use Rattle.rules.specs.Finished as F
use Rattle.rules.proofs.Wellformed.Whole.{finished}
use Rattle.rules.proofs.Demand.{limits_usable, usable_sane}
use Rattle.program.specs.View as View
use Rattle.program.specs.declared.Counts.{Counts}
use Rattle.std.specs.Prelude.{Result, Ok}
use Rattle.refusals.specs.declared.Refusal.{Refusal}
use Rattle.parser.specs.Outcomes.{ReadsScript}

pub read-ready : {s m : List ℕ} {r : Result Counts Refusal} {c : Counts} → ReadsScript s m r → r ≡ Ok c → View.ProgramReady m c
read-ready a e = let b = rw e at a in b.ok

pub read-finished : {s m : List ℕ} {r : Result Counts Refusal} {c : Counts} → ReadsScript s m r → r ≡ Ok c → F.Finished P.limits (View.program_view s m c)
read-finished {s} {m} {r} {c} a e = let b = rw e at a in finished P.limits (usable_sane P.limits limits_usable) s (View.program_view s m c) (sym b.is)
