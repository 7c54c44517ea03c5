-- The table of frames (01, "Frames"): each sort, the byte that begins its frames, and how many bytes wide the numbers behind it are. Assumes nothing.
use Rattle.std.specs.Prelude.{List, [], ◌∷◌, ℕ}

-- the totals; a block; an instruction's kind; a use; a caller; a refusal
pub data Sort : Type 0 where
  of_totals of_block of_kind of_use of_caller of_refusal : Sort

abbrev pub sort_byte : Sort → ℕ
sort_byte of_totals = 0x01
sort_byte of_block = 0x02
sort_byte of_kind = 0x03
sort_byte of_use = 0x04
sort_byte of_caller = 0x05
sort_byte of_refusal = 0x7f

-- functions, blocks, instructions, count; block, live; instruction, kind byte, payload; used, user; function, caller; refusal
abbrev pub widths : Sort → List ℕ
widths of_totals = 1 ∷ 1 ∷ 2 ∷ 8 ∷ []
widths of_block = 1 ∷ 1 ∷ []
widths of_kind = 2 ∷ 1 ∷ 8 ∷ []
widths of_use = 2 ∷ 2 ∷ []
widths of_caller = 1 ∷ 2 ∷ []
widths of_refusal = 1 ∷ []
