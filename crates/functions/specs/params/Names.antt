-- The names of parameters, which wait where call arguments do. Assumes nothing.
use Rattle.std.specs.Prelude.{List, [], ◌∷◌, ℕ, zero, suc, ◌+◌, ◌*◌, ◌≤◌, ◌<◌, length, get_or}
use Rattle.rules.specs.Actions.{◌>>=◌, change}
use Rattle.rules.specs.Program as P
use Rattle.rules.specs.Reading.{Reads, with_env, the_env, bind, push}
use Rattle.lexer.specs.Names.{name}
use Rattle.cursor.specs.Layout.{stack_at}

unfoldable pub name_at : List ℕ → List ℕ → ℕ → P.Name
name_at s w k = name s (get_or w (stack_at + 2 * k) 0) (get_or w (stack_at + 2 * k + 1) 0)

-- n names, from the k-th on
unfoldable pub names_from : List ℕ → List ℕ → ℕ → ℕ → List P.Name
names_from s w k zero = []
names_from s w k (suc n) = name_at s w k ∷ names_from s w (suc k) n

abbrev pub names_in : List ℕ → List ℕ → ℕ → List P.Name
names_in s w n = names_from s w 0 n

-- each lies in the script
abbrev pub Lie : List ℕ → List ℕ → ℕ → Type 0
Lie s w n = (k : ℕ) → k < n → get_or w (stack_at + 2 * k) 0 + get_or w (stack_at + 2 * k + 1) 0 ≤ length s

-- one parameter of the rules' push_params
unfoldable pub param_of : P.Limits → ℕ → P.Name → Reads (Unit {0})
param_of L k n = do
  o ← push L (P.Param k)
  e ← the_env
  change (with_env (bind n o e))
