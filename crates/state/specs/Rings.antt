-- What a worklist's ring promises of its words. Assumes nothing.
use Rattle.std.specs.Prelude.{◌≡◌, List, ℕ, ◌+◌, ◌-◌, ◌%◌, ◌≤◌, ◌<◌, set, Result, Ok, Err}
use Rattle.refusals.specs.declared.Refusal.{Refusal}
use Rattle.refusals.specs.declared.Refusal.TheVariants.{WaitingListFull}
use Rattle.memory.specs.Layout.{worklist_most}
use Rattle.state.specs.declared.Ring.{Ring}

-- the ring with one entry more, and without the one in front
abbrev pub longer : Ring → Ring
longer q = record { head = q.head; len = q.len + 1 }

abbrev pub behind : Ring → Ring
behind q = record { head = (q.head + 1) % worklist_most; len = q.len - 1 }

-- x is put behind the entries of the ring whose first word is at start; where there is no room, nothing changes
abbrev pub Pushed : ℕ → ℕ → List ℕ → Ring → List ℕ → Ring → Result (Unit {0}) Refusal → Type 0
Pushed start x m q w r (Ok a) = (q.len < worklist_most) × (w ≡ set m (start + (q.head + q.len) % worklist_most) x) × (r ≡ longer q)
Pushed start x m q w r (Err e) = (worklist_most ≤ q.len) × (w ≡ m) × (r ≡ q) × (e ≡ WaitingListFull)
