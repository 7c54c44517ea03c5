-- The loop of push_code. Assumes nothing.
use mathlib.Core.Path.{◌≡◌}
use mathlib.Core.List.{List}
use Prim.Native.Nat.{ℕ, ◌<◌}
use Rattle.std.specs.Prelude.{Result}
use Rattle.refusals.specs.declared.Refusal.{Refusal}
use Rattle.rules.specs.Actions.{each}
use Rattle.rules.specs.Program.{code}
use Rattle.rules.specs.Machine.{push_insn}
use Rattle.state.specs.declared.State.{State}
use Rattle.state.specs.Changes.{Every, push_all}
use Rattle.state.specs.Methods.{Did}
use Rattle.chains.specs.Chains.{ChainIs}
use Rattle.machine.specs.blocks.Blocks.{CodeIs}
use Rattle.machine.proofs.blocks.Walk.{walk_of}

-- what a walk along the chain of block b did, said of the programs whose chains these are
pub coded : {x : List ℕ} {b : ℕ} {l₀ : List ℕ} {s t : State} {r : Result (Unit {0}) Refusal} → b < s.sizes.blocks → ((l : List ℕ) → ChainIs x s.sizes.insns 0 b l → l₀ ≡ l)
    → Did Every (λ L p. each l₀ (push_insn L p)) s t r → Did (CodeIs s.sizes x) (λ L p. push_all L p (code p b)) s t r
unfolding push_all
coded {b = b} lt is d = walk_of push_insn (λ p. code p b) (λ p v u. (tt, is (code p b) (u.held b lt))) d
