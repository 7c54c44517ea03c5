-- Demand 3 over the definitions of the rules: every answer is exact and within the bound. Assumes nothing.
use Prim.Native.Nat.{ℕ, ◌≤◌, ◌<◌}
use mathlib.Core.Path.{◌≡◌, subst}
use mathlib.Core.Logic.{◌⊎◌}
use mathlib.Core.List.{List}
use mathlib.Core.Bool.{true, false}
use native.Mathlib.Nat.{le_trans}
use lib.ListN.{length}
use Rattle.rules.specs.Actions.{answered, refused}
use Rattle.rules.specs.Program.{Limits, Program}
use Rattle.rules.specs.Machine.{State, at_rest, start, run}
use Rattle.rules.specs.Bound.{bound}
use Rattle.rules.specs.Finished.{Finished}
use Rattle.rules.specs.Reading.{parse_program}
use Rattle.rules.specs.Frames.{Analysis, analyze}
use Rattle.rules.specs.Steps.{Exact}
use Rattle.rules.proofs.Exactness.Answers.{answer, after}
use Rattle.rules.proofs.Exactness.Laws.{Laws}
use Rattle.rules.proofs.Exactness.Lawful.{lawful}
use Rattle.rules.proofs.Exactness.Limited.{classes-few}
use Rattle.rules.proofs.Exactness.Promise.{le_of}
use Rattle.rules.proofs.Exactness.Run.{Settled}
use Rattle.rules.proofs.Exactness.Room.{Roomy, room-run, room-start}
use Rattle.rules.proofs.Exactness.Theory as Theory

module _ (L : Limits) (few : L.classes ≤ 64) (p : Program) (R : Finished L p) where
  pub laws : Laws (length p.classes) (length p.functions)
  laws = lawful (length p.classes) (length p.functions) (le_of 4 (length p.classes) R.built_ins) (le_trans (classes-few L p R.limits) few)

  -- demand 3: an answer is at rest, its count is at most the bound, and a block is live exactly when it is the main entry or a chain of 01's steps
  -- under the final kinds leads to it
  pub exact : (s e : State) → start L p ≡ answered s → run L p (bound p) s ≡ answered e → Exact p e
  exact = Theory.exactly L p laws R

  -- the run is not stopped for want of steps
  pub enough : (s : State) → start L p ≡ answered s
      → ((k : ℕ) × (run L p (bound p) s ≡ refused k)) ⊎ ((e : State) × (run L p (bound p) s ≡ answered e) × (at_rest e ≡ true))
  enough = Theory.fuel L p laws R

  -- what the code's loop keeps: after any number of steps the tables have their sizes, the entries are in range, the kinds are fine (`Inv`), and count and
  -- potential together are at most the bound; as long as something waits, the count is below it
  pub going : (n : ℕ) (s t : State) → start L p ≡ answered s → run L p n s ≡ answered t → Theory.Going L p laws R t
  going n s t h e = Theory.going_run L p laws R n s t (Theory.going_start L p laws R s h) e

  pub below : (n : ℕ) (s t : State) → start L p ≡ answered s → run L p n s ≡ answered t → at_rest t ≡ false → t.count < bound p
  below n s t h e r = Theory.count-below L p laws R t (going n s t h e) r

  -- and neither list outgrows its limit
  pub room : (n : ℕ) (s t : State) → start L p ≡ answered s → run L p n s ≡ answered t → Roomy L t
  room n s t h e = room-run L p n s t (room-start L p s h) e

  -- at rest the kinds have settled: each live instruction is at or above what its rule reads, a join as it was last looked at, each Param has what its
  -- callers give, and each call what live returns give
  pub settled : (s e : State) → start L p ≡ answered s → run L p (bound p) s ≡ answered e → Settled L p e
  settled s e h q = Theory.settled L p laws R s e h q

-- demand 3 of one script, where its reading is well formed
pub exact_of : (L : Limits) (few : L.classes ≤ 64) (script : List ℕ) (a : Analysis) → ((p : Program) → parse_program L script ≡ answered p → Finished L p) → analyze L script ≡ answered a → Exact a.program a.state
unfolding analyze
exact_of L few script a R e =
    let x = after (parse_program L script) _ e in
    let y = after (start L x.0) _ x.2 in
    let z = after (run L x.0 (bound x.0) y.0) _ y.2 in
    subst (λ (b : Analysis). Exact b.program b.state) (answer z.2) (exact L few x.0 (R x.0 x.1) y.0 z.0 y.1 z.1)
