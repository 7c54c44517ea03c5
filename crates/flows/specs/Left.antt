-- What is left of a function's callers. Assumes nothing.
use Rattle.std.specs.Prelude.{Bool as 𝔹, List, ◌++◌, ℕ, ◌+◌, ◌*◌}
use Rattle.ids.specs.Sets.{members_from}
use Rattle.state.specs.View.{called_of}
use Rattle.state.specs.Changes.{marks_from}
use Rattle.flows.specs.declared.calls.Callers.{Callers}

-- those in the bits v of word k of row f, and those behind it
abbrev pub callers_in : List (List 𝔹) → ℕ → ℕ → ℕ → List ℕ
callers_in t f k v = members_from 64 (k * 64) v ++ marks_from t f (k * 64 + 64)

abbrev pub callers_left : Callers → List ℕ
callers_left c = callers_in (called_of c.state.now.sizes c.state.now.words.now) c.f.0 c.word c.left
