-- The count of an answer is the number of steps that led to it. Assumes nothing.
use Prim.Native.Nat.{ℕ, zero, suc, ◌+◌, ◌≤◌}
use native.Mathlib.Omega.{arith}
use mathlib.Core.Path.{◌≡◌, refl, sym, ap, ◌∙◌, subst}
use mathlib.Core.Bool.{Bool as 𝔹, true, false}
use mathlib.Core.List.{List}
use Rattle.rules.specs.Actions.{answered}
use Rattle.rules.specs.Program.{Limits, Program}
use Rattle.rules.specs.Reading.{parse_program}
use Rattle.rules.specs.Machine.{State, at_rest, step, run, start}
use Rattle.rules.specs.Bound.{bound}
use Rattle.rules.specs.Finished.{Finished}
use Rattle.rules.specs.Frames.{Analysis, analyze}
use Rattle.rules.specs.Steps.{Stepped, none-taken, one_taken, Counted}
use Rattle.rules.proofs.Exactness.Answers.{answer, after}
use Rattle.rules.proofs.Exactness.Run.{run_none, run-rest, run_step}
use Rattle.rules.proofs.Exactness.Start.{first}
use Rattle.rules.proofs.Exactness.Theory.{Going, going_start, going_step}
use Rattle.rules.proofs.Exactness.Theorem.{laws}

module _ (L : Limits) (few : L.classes ≤ 64) (p : Program) (R : Finished L p) where
  -- k steps were taken on the way from s to e, and the count has risen by k
  abbrev Took : State → State → Type 0
  Took s e = (k : ℕ) × (e.count ≡ k + s.count) × Stepped L p k s e

  took_none : (s e : State) → s ≡ e → Took s e
  took_none s e q = let z : s.count ≡ e.count = ap (λ (t : State). t.count) q in (0, omega arith, subst (Stepped L p 0 s) q none-taken)

  took : (n : ℕ) (s e : State) → Going L p (laws L few p R) R s → run L p n s ≡ answered e → Took s e
  took zero s e g h = took_none s e (answer (sym (run_none L p s) ∙ h))
  took (suc n) s e g h = go (at_rest s) refl (λ t i q. took n t e i q)
    where
      go : (b : 𝔹) → at_rest s ≡ b → ((t : State) → Going L p (laws L few p R) R t → run L p n t ≡ answered e → Took t e) → Took s e
      go true r ih = took_none s e (answer (sym (run-rest L p (suc n) s r) ∙ h))
      go false r ih =
          let a = after (step L p s) (run L p n) (sym (run_step L p n s r) ∙ h) in
          let b = going_step L p (laws L few p R) R s a.0 g r a.1 in
          let c = ih a.0 b.0 a.2 in
          (suc c.0, omega (arith, c.1, b.1), one_taken r a.1 c.2)

  pub counted : (s e : State) → start L p ≡ answered s → run L p (bound p) s ≡ answered e → Counted L p e
  counted s e h q =
      let z : s.count ≡ 0 = ap (λ (t : State). t.count) (first L p (laws L few p R) s h).state in
      let w = took (bound p) s e (going_start L p (laws L few p R) R s h) q in
      let n : w.0 ≡ e.count = omega (arith, w.1) in
      record { first = s; starts = h; steps = subst (λ (k : ℕ). Stepped L p k s e) n w.2 }

-- of one script, where its reading is well formed
pub counted_of : (L : Limits) (few : L.classes ≤ 64) (script : List ℕ) (a : Analysis) → ((p : Program) → parse_program L script ≡ answered p → Finished L p) → analyze L script ≡ answered a → Counted L a.program a.state
unfolding analyze
counted_of L few script a R e =
    let x = after (parse_program L script) _ e in
    let y = after (start L x.0) _ x.2 in
    let z = after (run L x.0 (bound x.0) y.0) _ y.2 in
    subst (λ (b : Analysis). Counted L b.program b.state) (answer z.2) (counted L few x.0 (R x.0 x.1) y.0 z.0 y.1 z.1)
