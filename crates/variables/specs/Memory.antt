-- Variables as memory holds them. An entry is two words: one for the name's place in the script and the operand's tag, one for the operand's payload.
-- The words stand in two columns (Layout). The entries below bindings_most are the bindings in the order in which they were made, the others the rows set aside.
-- Assumes nothing.
use Rattle.std.specs.Prelude.{cond, ◌≡◌, List, [], ◌∷◌, ℕ, zero, suc, ◌+◌, ◌/◌, ◌%◌, ◌^◌, ◌≤◌, ◌<◌, ◌*◌, eqb, get_or, set}
use Rattle.kinds.specs.Kinds.{kind_from}
use Rattle.rules.specs.Program.{Name, Opnd, Const, Insn}
use Rattle.rules.specs.Reading.{Env}
use Rattle.lexer.specs.Names.{name}
use Rattle.variables.specs.Layout.{entries_most, variables_size, tag_room, length_room}
use Rattle.variables.specs.Scopes.{Bindings, env_of}

-- ---- an entry

-- the name's start and length, and the operand's tag
abbrev pub start_in : ℕ → ℕ
start_in w = w / (tag_room * length_room)

abbrev pub length_in : ℕ → ℕ
length_in w = w / tag_room % length_room

abbrev pub tag_in : ℕ → ℕ
tag_in w = w % tag_room

unfoldable pub name_in : List ℕ → ℕ → Name
name_in s w = name s (start_in w) (length_in w)

-- the operand of a tag and a payload: tag 10 is an instruction's result, the others are the kinds' bytes
unfoldable pub opnd_from : ℕ → ℕ → Opnd
opnd_from t x = cond (eqb t 10) (Insn (x % 2 ^ 32)) (Const (kind_from t x))

pub record Entry : Type 0 where
  pub word : ℕ
  pub payload : ℕ

abbrev pub entry_of : ℕ → ℕ → Entry
entry_of w x = record { word = w; payload = x }

abbrev pub binding_in : List ℕ → Entry → Name × Opnd
binding_in s x = (name_in s x.word, opnd_from (tag_in x.word) x.payload)

-- ---- entries of a memory

unfoldable pub entry : List ℕ → ℕ → Entry
entry m i = entry_of (get_or m i 0) (get_or m (entries_most + i) 0)

unfoldable pub put : List ℕ → ℕ → ℕ → ℕ → List ℕ
put m i w x = set (set m i w) (entries_most + i) x

-- n bindings from lo on, the latest first
unfoldable pub made : List ℕ → List ℕ → ℕ → ℕ → Bindings
made s m lo zero = []
made s m lo (suc n) = binding_in s (entry m (lo + n)) ∷ made s m lo n

-- the environment in force: what the n first bindings come to
abbrev pub vars : List ℕ → List ℕ → ℕ → Env
vars s m n = env_of (made s m 0 n)

-- a row: n entries from lo on, as they stand
unfoldable pub row : List ℕ → List ℕ → ℕ → ℕ → Env
row s m lo zero = []
row s m lo (suc n) = binding_in s (entry m lo) ∷ row s m (lo + 1) n

-- the entries from lo up to hi stay, and all that stands behind the two columns
pub record Kept (lo hi : ℕ) (m m' : List ℕ) : Type 0 where
  pub same : (i : ℕ) → lo ≤ i → i < hi → entry m' i ≡ entry m i
  pub beyond : (k : ℕ) → variables_size ≤ k → get_or m' k 0 ≡ get_or m k 0
