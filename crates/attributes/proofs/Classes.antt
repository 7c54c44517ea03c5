-- A walk through a receiver's classes, as its loops ask for it. Assumes nothing.
use mathlib.Core.Path.{◌≡◌}
use Prim.Native.Nat.{ℕ, ◌<◌}
use native.Mathlib.Omega.{arith}
use mathlib.Core.List.{List}
use Rattle.std.specs.Prelude.{Result, Ok}
use Rattle.refusals.specs.declared.Refusal.{Refusal}
use Rattle.program.specs.declared.Counts.{Counts}
use Rattle.program.specs.declared.Opnd.{Opnd}
use Rattle.state.specs.declared.Sizes.{Sizes}
use Rattle.machine.specs.receivers.Receivers.{StateMatches, ClassesBelow, ReceiverWithin, Receives}
use Rattle.machine.proofs.receivers.Walk.{met-below}

pub receiver_below : {z : Sizes} {m : List ℕ} {o : Opnd} {r : Result ℕ Refusal} {s : ℕ} → Receives z m o r → r ≡ Ok s → ReceiverWithin z m o → ClassesBelow z.classes s
receiver_below {z} {m} {o} d e w = met-below z m o d e w

pub class_counted : {z : Sizes} {m : List ℕ} {c : Counts} {x : ℕ} → StateMatches z m c → x < z.classes → x < c.classes
class_counted y lt = let k = y.classes in omega arith
