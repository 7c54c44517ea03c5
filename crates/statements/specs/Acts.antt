-- The parts of the rules' `if` that the readers here do one by one. Assumes nothing.
use Rattle.std.specs.Prelude.{Bool as 𝔹, true, false, ◌||◌, List, ℕ}
use Rattle.rules.specs.Actions.{when◌then◌else◌, ◌>>=◌, ◌>>◌, give, skip, change}
use Rattle.rules.specs.Words.{Word, is}
use Rattle.rules.specs.Program.{Limits, Opnd, Op, Ends, Jump, IfTrue}
use Rattle.rules.specs.Reading.{Env, Reads, with_env, with_block, the_block, the_env, nil, all_keys, push_insn, new_block, phi, join_vars, expect, match_token, parse_statements, end_block}

-- an instruction whose number nobody needs
unfoldable pub add_end : Limits → ℕ → Op → Reads (Unit {0})
add_end L b op = do
  i ← push_insn L b op
  skip

-- the words that end an arm, and those that end a function
abbrev pub stops_at : 𝔹 → Word → 𝔹
stops_at true w = is w "end" || is w "else"
stops_at false w = is w "end"

module _ (L : Limits) (s : List ℕ) where
  -- an arm, its first block taking instructions
  unfoldable pub parse_arm : Reads Opnd → ℕ → Reads Opnd
  parse_arm S join = do
    v ← parse_statements L s (stops_at true) S
    end_block L s (Jump join)
    give v

  -- the else arm's first block, and the choice
  unfoldable pub open_else : ℕ → Env → Opnd → ℕ → Reads ℕ
  open_else before old v then₀ = do
    else₀ ← new_block L
    add_end L before (Ends (IfTrue v then₀ else₀))
    change (with_env old)
    change (with_block else₀)
    give else₀

  -- behind the arms the join takes instructions: first a join for each variable
  unfoldable pub join_arms : ℕ → Env → ℕ → Env → ℕ → Env → Reads (Unit {0})
  join_arms join old b l c r = do
    change (with_block join)
    change (with_env old)
    join_vars L b l c r (all_keys l r)

  unfoldable pub join_value : ℕ → Opnd → ℕ → Opnd → Reads Opnd
  join_value b v c x = do
    expect s "end"
    phi L b v c x

  unfoldable pub finish_if : ℕ → Env → Opnd → ℕ → ℕ → ℕ → Opnd → Env → Reads Opnd
  finish_if before old v then₀ join last x l = do
    add_end L before (Ends (IfTrue v then₀ join))
    join_arms join old before old then₀ l
    join_value before nil last x

  unfoldable pub finish_else : Env → ℕ → ℕ → Env → ℕ → Opnd → ℕ → Opnd → Reads Opnd
  finish_else old join then₀ l last x else₀ y = do
    b ← the_block
    r ← the_env
    join_arms join old then₀ l else₀ r
    join_value last x b y

  -- behind the then arm
  unfoldable pub parse_else : Reads Opnd → ℕ → Env → Opnd → ℕ → ℕ → ℕ → Opnd → Reads Opnd
  parse_else S before old v then₀ join last x = do
    l ← the_env
    else? ← match_token s "else"
    when else? then (do
      else₀ ← open_else before old v then₀
      y ← parse_arm S join
      finish_else old join then₀ l last x else₀ y) else finish_if before old v then₀ join last x l

  unfoldable pub if_of : (ℕ → Reads Opnd) → Reads Opnd → Reads Opnd
  if_of E S = do
    v ← E 0
    before ← the_block
    old ← the_env
    then₀ ← new_block L
    join ← new_block L
    change (with_block then₀)
    x ← parse_arm S join
    last ← the_block
    parse_else S before old v then₀ join last x
