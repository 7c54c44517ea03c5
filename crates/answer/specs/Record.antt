-- An answer as a record: what the frames of 01 tell. Assumes nothing.
use Rattle.std.specs.Prelude.{Bool as 𝔹, true, ◌≡◌, List, [], ◌∷◌, ℕ, zero, suc, ◌≤◌, ◌<◌, length, get_or}
use Rattle.kinds.specs.declared.Kind.{Kind}
use Rattle.kinds.specs.declared.Kind.TheVariants.{Empty}
use Rattle.kinds.specs.Kinds.{fits_of}
use Rattle.rules.specs.Lists.{concat}
use Rattle.rules.specs.Program.{Program}
use Rattle.rules.specs.Machine.{State}
use Rattle.rules.specs.Uses.{uses}
use Rattle.memory.specs.Layout.{functions_most, blocks_most, instructions_most, uses_most}

-- live: by block; kinds: by instruction; users: by instruction, the users' numbers; callers: by function, whether an instruction calls it.
-- How many functions, blocks and instructions there are is how long these lists are
pub record Record : Type 0 where
  pub count : ℕ
  pub live : List 𝔹
  pub kinds : List Kind
  pub users : List (List ℕ)
  pub callers : List (List 𝔹)

-- the users of n instructions from i on
abbrev pub users_from : Program → ℕ → ℕ → List (List ℕ)
users_from p i zero = []
users_from p i (suc n) = uses p i ∷ users_from p (suc i) n

-- the record of an analysis that ended in state s
abbrev pub answer_record : Program → State → Record
answer_record p s = record { count = s.count; live = s.live; kinds = s.kinds; users = users_from p 0 (length s.kinds); callers = s.called_by }

-- 01's limits, and lists that go together
pub record Legal (r : Record) : Type 0 where
  pub functions : length r.callers ≤ functions_most
  pub blocks : length r.live ≤ blocks_most
  pub instructions : length r.kinds ≤ instructions_most
  pub lists : length r.users ≡ length r.kinds
  pub uses : length (concat r.users) ≤ uses_most
  pub numbers : (j : ℕ) → j < length (concat r.users) → get_or (concat r.users) j 0 < length r.kinds
  pub rows : (f : ℕ) → f < length r.callers → length (get_or r.callers f []) ≡ length r.kinds
  pub fits : (i : ℕ) → i < length r.kinds → fits_of (get_or r.kinds i Empty) ≡ true

-- the state has an entry for each block, instruction and function of the program
pub record Shaped (p : Program) (s : State) : Type 0 where
  pub blocks : length s.live ≡ length p.blocks
  pub instructions : length s.kinds ≡ length p.instructions
  pub functions : length s.called_by ≡ length p.functions
