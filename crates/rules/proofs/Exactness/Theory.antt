-- Demand 3 from the laws of kinds: what a run does from the start on, and its end. Assumes nothing.
use Prim.Native.Nat.{ℕ, suc, ◌+◌, ◌≤◌, ◌<◌}
use native.Mathlib.Omega.{arith}
use mathlib.Core.Path.{◌≡◌, refl, ap}
use mathlib.Core.Logic.{◌⊎◌, inl, inr}
use mathlib.Core.Bool.{true, false}
use mathlib.Core.List.{[]}
use lib.ListN.{length}
use Rattle.rules.specs.Actions.{Answer, answered, refused}
use Rattle.rules.specs.Program.{Limits, Program, entry, main_function}
use Rattle.rules.specs.Machine.{State, at_rest, step, run, start}
use Rattle.rules.specs.Bound.{bound}
use Rattle.rules.specs.Finished.{Finished}
use Rattle.rules.specs.Steps.{Exact}
use Rattle.rules.proofs.Exactness.Laws.{Laws}
use Rattle.rules.proofs.Exactness.Invariant.{Inv}
use Rattle.rules.proofs.Exactness.Potential.{pot}
use Rattle.rules.proofs.Exactness.Run.{stepped, kept, pot_pos, ends, exact, Settled, settles}
use Rattle.rules.proofs.Exactness.Promise.{main_in, entry_in, formed}
use Rattle.rules.proofs.Exactness.Start.{first, first_inv, first_cost}

module _ (L : Limits) (p : Program) (K : Laws (length p.classes) (length p.functions)) (R : Finished L p) where
  -- what holds at the start and after each step: the invariant, and that count and potential together are at most the bound
  pub record Going (s : State) : Type 0 where
    pub inv : Inv L p [] s
    pub spent : s.count + pot p s ≤ bound p

  pub going_start : (s : State) → start L p ≡ answered s → Going s
  going_start s e =
      let f = first L p K s e in
      let c = first_cost p L s f.rows (entry p (main_function p)) (entry_in R (main_function p) (main_in p f.function)) f.state in
      let z : s.count ≡ 0 = ap (λ (t : State). t.count) f.state in
      record { inv = first_inv L p K R s f; spent = omega arith }

  -- after any number of steps
  pub going_run : (n : ℕ) (s t : State) → Going s → run L p n s ≡ answered t → Going t
  going_run n s t g e = let k = kept L p K (formed R K) n s t g.inv e in record { inv = k.inv; spent = omega (arith, k.spent, g.spent) }

  pub going_step : (s t : State) → Going s → at_rest s ≡ false → step L p s ≡ answered t → Going t × (t.count ≡ suc s.count)
  going_step s t g r e = let a = stepped L p K (formed R K) s t g.inv r e in (record { inv = a.inv; spent = omega (arith, a.cost, a.count, g.spent) }, a.count)

  -- the measure of a loop: as long as something waits, the count is below the bound
  pub count-below : (s : State) → Going s → at_rest s ≡ false → s.count < bound p
  count-below s g r = omega (arith, g.spent, pot_pos L p K (formed R K) s r)

  -- the fuel suffices: a run of as many steps as the bound is refused, or ends with nothing waiting
  pub fuel : (s : State) → start L p ≡ answered s → ((k : ℕ) × (run L p (bound p) s ≡ refused k)) ⊎ ((e : State) × (run L p (bound p) s ≡ answered e) × (at_rest e ≡ true))
  fuel s h = go (run L p (bound p) s) refl
    where
      g : Going s
      g = going_start s h

      go : (a : Answer State) → run L p (bound p) s ≡ a → ((k : ℕ) × (run L p (bound p) s ≡ refused k)) ⊎ ((e : State) × (run L p (bound p) s ≡ answered e) × (at_rest e ≡ true))
      go (answered e) q = inr (e, q, ends L p K (formed R K) (bound p) s e g.inv (omega (arith, g.spent)) q)
      go (refused k) q = inl (k, q)

  pub exactly : (s e : State) → start L p ≡ answered s → run L p (bound p) s ≡ answered e → Exact p e
  exactly s e h q =
      let g = going_start s h in
      let r = ends L p K (formed R K) (bound p) s e g.inv (omega (arith, g.spent)) q in
      let k = going_run (bound p) s e g q in
      record { rest = r; count = omega (arith, k.spent); live = exact L p e k.inv r }

  pub settled : (s e : State) → start L p ≡ answered s → run L p (bound p) s ≡ answered e → Settled L p e
  settled s e h q =
      let g = going_start s h in
      let r = ends L p K (formed R K) (bound p) s e g.inv (omega (arith, g.spent)) q in
      settles L p e (going_run (bound p) s e g q).inv r
