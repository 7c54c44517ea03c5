-- Demand 3 for every script: an answer is exact and within the bound, and there is an answer unless a question refuses. Assumes nothing.
use Prim.Native.Nat.{ℕ, ◌≤◌}
use native.Mathlib.Omega.{arith}
use native.Mathlib.Nat.{le_trans}
use mathlib.Core.Bool.{Bool as 𝔹, true, false}
use mathlib.Core.Path.{◌≡◌, refl, sym, ◌∙◌}
use mathlib.Core.List.{List}
use lib.Dec.{lit≤, leb}
use lib.ListN.{length}
use Rattle.rules.specs.Actions.{Answer, answered, refused}
use Rattle.rules.specs.Program.{Limits, limits, Program}
use Rattle.rules.specs.Bound.{bound}
use Rattle.rules.specs.Finished.{Usable}
use Rattle.rules.specs.Frames.{Analysis, analyze}
use Rattle.rules.specs.Steps.{Demand, Counts, Told, Answers, NeverEighteen}
use Rattle.rules.proofs.Wellformed.Laws.{Comes, done, and_then}
use Rattle.rules.proofs.Wellformed.Operands.{Sane}
use Rattle.rules.proofs.Wellformed.Wording.{Question}
use Rattle.rules.proofs.Wellformed.Forward.{program_comes, too_long}
use Rattle.rules.proofs.Wellformed.Whole.{finished}
use Rattle.rules.proofs.Exactness.Theorem.{exact_of}
use Rattle.rules.proofs.Exactness.Counted.{counted_of}
use Rattle.rules.proofs.Questions.{Asked, Anything, start_fine, run_fine}

-- the built-in limits are such
pub limits_usable : Usable limits
limits_usable = record { built_ins = lit≤ tt; classes = lit≤ tt; functions = lit≤ tt }

pub usable_sane : (L : Limits) → Usable L → Sane L
usable_sane L u = record { built_ins = u.built_ins; functions = u.functions; classes = le_trans u.classes (lit≤ tt) }

pub demand : Demand
demand L u script a e = exact_of L u.classes script a (finished L (usable_sane L u) script) e

pub counts : Counts
counts L u script a e = counted_of L u.classes script a (finished L (usable_sane L u) script) e

-- a question's number, of the reading after question 1 or of the analysis, and never 18
abbrev pub Number : ℕ → Type 0
Number n = (3 ≤ n) × (n ≤ 20) × (n ≡ 18 → ⊥)

pub numbers : (L : Limits) (script : List ℕ) → leb (length script) L.script ≡ true → Comes Number Anything (analyze L script)
unfolding analyze
numbers L script h =
    and_then (reading (program_comes L script h)) (λ p q.
    and_then (other (start_fine L p)) (λ s q.
    and_then (other (run_fine L p (bound p) s)) (λ e q. done tt)))
  where
    other : {A : Type 0} {a : Answer A} → Comes Asked Anything a → Comes Number Anything a
    other c = record { answers = λ x e. tt; refuses = λ n e. let h = c.refuses n e in (omega (arith, h.0), h.1, h.2) }

    reading : {a : Answer Program} → Comes Question Anything a → Comes Number Anything a
    reading c = record { answers = λ x e. tt; refuses = λ n e. let q = c.refuses n e in (q.least, omega (arith, q.most), λ z. omega (arith, q.most)) }

-- question 1
pub long-refused : (L : Limits) (script : List ℕ) → leb (length script) L.script ≡ false → analyze L script ≡ refused 1
unfolding analyze
long-refused L script e = rw (too_long L script e)

-- a refusal is by a question, whatever the limits
refusal_told : (L : Limits) (script : List ℕ) (n : ℕ) → analyze L script ≡ refused n → Told (refused n)
refusal_told L script n e = go (leb (length script) L.script) refl
  where
    go : (b : 𝔹) → leb (length script) L.script ≡ b → Told (refused n)
    go true f = let q = (numbers L script f).refuses n e in (omega (arith, q.0), q.1, λ z. omega (arith, q.0), q.2)
    go false f =
        let q : ◌≡◌ {A = Answer Analysis} (refused 1) (refused n) = sym (long-refused L script f) ∙ e in
        let z : 1 ≡ n = cc in
        (omega arith, omega arith, λ y. omega arith, λ y. omega arith)

-- every script is answered, or refused by a question
pub answers : Answers
answers L u script = go (analyze L script) refl
  where
    go : (r : Answer Analysis) → analyze L script ≡ r → Told r
    go (answered a) e = demand L u script a e
    go (refused n) e = refusal_told L script n e

pub never_eighteen : NeverEighteen
never_eighteen L script e = (refusal_told L script 18 e).3 refl
