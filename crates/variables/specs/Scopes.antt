-- Scopes: environments in rising order of names, the bindings that they come from, and the join of two of them. Assumes nothing.
use Rattle.std.specs.Prelude.{ℕ, ◌≡◌, true, List, [], ◌∷◌}
use Rattle.rules.specs.Actions.{◌>>=◌, change}
use Rattle.rules.specs.Lists.{precedes}
use Rattle.rules.specs.Program.{Limits, Name, Opnd}
use Rattle.rules.specs.Reading.{Env, Reads, with_env, the_env, bind, all_keys, phi, join_vars}

-- every name of e is above k
abbrev pub Above : Name → Env → Type 0
Above k [] = Unit {0}
Above k (x ∷ e) = (precedes k x.0 ≡ true) × Above k e

abbrev pub Sorted : Env → Type 0
Sorted [] = Unit {0}
Sorted (x ∷ e) = Above x.0 e × Sorted e

-- bindings, the latest first
abbrev pub Bindings : Type 0
Bindings = List (Name × Opnd)

-- made over an environment, and made from nothing
unfoldable pub over : Bindings → Env → Env
over [] e = e
over (x ∷ p) e = bind x.0 x.1 (over p e)

abbrev pub env_of : Bindings → Env
env_of p = over p []

-- The name k, which is v in one arm and w in the other, is joined, and bound in the environment in force.
unfoldable pub join_one : Limits → ℕ → ℕ → Name → Opnd → Opnd → Reads (Unit {0})
join_one L b c k v w = do
  u ← phi L b v c w
  e ← the_env
  change (with_env (bind k u e))

-- The rows l and r are what the arms set, over the environment `base`; their names are joined, rising.
unfoldable pub join_rows : Limits → ℕ → ℕ → Env → Env → Env → Reads (Unit {0})
join_rows L b c base l r = join_vars L b (over l base) c (over r base) (all_keys l r)
