-- Where the answer memory has its tables: places of 8 bytes (01, "The call", and the limits of its last paragraph). Assumes nothing.
use Rattle.std.specs.Prelude.{ℕ, ◌+◌, ◌*◌}
use Rattle.memory.specs.Layout.{functions_most, blocks_most, instructions_most, uses_most, row_words}

-- functions, blocks, instructions, count; then the tables, one behind the other
abbrev pub totals : ℕ
totals = 4

abbrev pub live_at : ℕ
live_at = totals

abbrev pub tags_at : ℕ
tags_at = live_at + blocks_most

abbrev pub payloads_at : ℕ
payloads_at = tags_at + instructions_most

abbrev pub starts_at : ℕ
starts_at = payloads_at + instructions_most

abbrev pub users_at : ℕ
users_at = starts_at + (instructions_most + 1)

abbrev pub callers_at : ℕ
callers_at = users_at + uses_most

abbrev pub answer_length : ℕ
answer_length = callers_at + functions_most * row_words
