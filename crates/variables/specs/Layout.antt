-- Where variables stand in scratch memory: two columns of entries; the bindings come first, the rows set aside behind them. Assumes nothing.
use Rattle.std.specs.Prelude.{ℕ, ◌*◌, ◌/◌}
use Rattle.memory.specs.Layout.{script_most}

-- a binding takes at least two bytes of the script; as many rows can be set aside
abbrev pub bindings_most : ℕ
bindings_most = script_most / 2

abbrev pub entries_most : ℕ
entries_most = 2 * bindings_most

-- the words of both columns
abbrev pub variables_size : ℕ
variables_size = 2 * entries_most

-- a word holds a name's start, its length and an operand's tag, which are below
abbrev pub length_room : ℕ
length_room = 2 * script_most

abbrev pub tag_room : ℕ
tag_room = 16
