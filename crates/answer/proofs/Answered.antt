-- Every answer of the built-in limits has a legal record. Assumes nothing.
use mathlib.Core.Path.{◌≡◌, sym, ◌∙◌, subst}
use mathlib.Core.List.{List}
use Prim.Native.Nat.{ℕ}
use native.Mathlib.Omega.{arith}
use Rattle.rules.specs.Actions.{answered}
use Rattle.rules.specs.Program.{limits, Program}
use Rattle.rules.specs.Machine.{State, start, run}
use Rattle.rules.specs.Bound.{bound}
use Rattle.rules.specs.Finished.{Finished}
use Rattle.rules.specs.Reading.{parse_program}
use Rattle.rules.specs.Frames.{Analysis, analyze}
use Rattle.rules.proofs.Exactness.Answers.{answer, after}
use Rattle.rules.proofs.Wellformed.Whole.{finished}
use Rattle.rules.proofs.Exactness.Theorem.{going}
use Rattle.rules.proofs.Demand.{limits_usable, usable_sane}
use Rattle.answer.specs.Record.{Legal, Shaped, answer_record}
use Rattle.answer.proofs.Uses.{legal}

-- a state that goes with its program, and a legal record
pub record Published (p : Program) (s : State) : Type 0 where
  pub shaped : Shaped p s
  pub legal : Legal (answer_record p s)

pub run-published : (p : Program) → Finished limits p → (s e : State) → start limits p ≡ answered s → run limits p (bound p) s ≡ answered e → Published p e
run-published p R s e h q =
    let v = (going limits (omega arith) p R (bound p) s e h q).inv in
    let z = v.sizes in
    let sh : Shaped p e = record { blocks = z.live; instructions = z.kinds; functions = z.called } in
    record {
      shaped = sh;
      legal = legal p e R.limits sh (λ f lt. z.called_row f (omega (arith, z.called)) ∙ sym z.kinds) (λ i lt. (v.fine.kind i).fits);
    }

-- so has the answer of every script
pub answer-published : (script : List ℕ) (a : Analysis) → analyze limits script ≡ answered a → Published a.program a.state
unfolding analyze
answer-published script a e =
    let x = after (parse_program limits script) _ e in
    let y = after (start limits x.0) _ x.2 in
    let z = after (run limits x.0 (bound x.0) y.0) _ y.2 in
    let R = finished limits (usable_sane limits limits_usable) script x.0 x.1 in
    subst (λ (b : Analysis). Published b.program b.state) (answer z.2) (run-published x.0 R y.0 z.0 y.1 z.1)
