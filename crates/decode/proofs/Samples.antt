-- Texts that are read, and texts that are refused. Assumes nothing.
use mathlib.Core.Bool.{Bool as 𝔹, not}
use mathlib.Core.Path.{◌≡◌, refl}
use mathlib.Core.List.{List, [], ◌∷◌, ◌++◌}
use Prim.Native.Nat.{ℕ}
use Rattle.kinds.specs.Kinds.{kind_from}
use Rattle.rules.specs.Lists.{bytes, same, places}
use Rattle.rules.specs.Actions.{Answer, answered, refused}
use Rattle.rules.specs.Frames.{frame_line, refusal_frame}
use Rattle.frames.specs.Text.{record_text}
use Rattle.decode.specs.Lines.{legal_numbers, legal_from, behind_byte, frame_in, frames_in}
use Rattle.decode.specs.Stored.{Stored, write, with_frame, told_record, read_from, read_text}

-- a text, and the lines of what is read of it; where it is refused, the line of the refusal's number
abbrev rewritten : Answer Stored → List ℕ
rewritten (answered s) = write s
rewritten (refused n) = refusal_frame n

abbrev gives : List ℕ × List ℕ → 𝔹
gives s = same (rewritten (read_text s.0)) s.1

abbrev alike : List ℕ → List ℕ × List ℕ
alike t = (t, t)

abbrev is_21 : List ℕ → List ℕ × List ℕ
is_21 t = (t, bytes "7f15\n")

abbrev is_22 : List ℕ → List ℕ × List ℕ
is_22 t = (t, bytes "7f16\n")

-- the totals and the block, then the kinds, then the use, of 01's listing
abbrev head : List ℕ
head = bytes "01010100020000000000000003\n020001\n"

abbrev kinds : List ℕ
kinds = bytes "030000020000000000000003\n030001000000000000000000\n"

abbrev listing : List ℕ
listing = head ++ kinds ++ bytes "0400000001\n"

-- a kind of each byte, the payloads as large as they may be
abbrev every_kind : List ℕ
every_kind =
    bytes "030000000000000000000000\n030001010000000000000000\n03000202ffffffffffffffff\n030003030000000000000001\n03000404000000000000007f\n"
    ++ bytes "03000505000000000000003f\n030006060000000000000000\n030007070000000000000000\n03000808ffffffffffffffff\n030009090000000000000000\n"

abbrev samples : List (List ℕ × List ℕ)
samples =
    alike listing
    ∷ alike (bytes "01000000000000000000000000\n")
    ∷ alike (bytes "7f01\n")
    ∷ alike (bytes "7f02\n")
    ∷ alike (bytes "7f14\n")
    ∷ alike (head ++ kinds ++ bytes "0400000001\n0400010000\n0400010001\n05000000\n05000001\n")
    ∷ alike (bytes "0102000000ffffffffffffffff\n")
    ∷ alike (bytes "018000000a0000000000000000\n" ++ every_kind)
    -- no frame, or none that is whole
    ∷ is_21 (bytes "\n")
    ∷ is_21 (bytes " ")
    ∷ is_21 (bytes "7f02")
    ∷ is_21 (bytes "7F02\n")
    ∷ is_21 (bytes "7f0202\n")
    ∷ is_21 (bytes "7f02\n\n")
    ∷ is_21 (bytes "0600\n")
    ∷ is_21 (head ++ kinds ++ bytes "04000000\n")
    -- a number that is too large; the empty set; a payload where none is used
    ∷ is_21 (bytes "7f00\n")
    ∷ is_21 (bytes "7f15\n")
    ∷ is_21 (bytes "01810000000000000000000000\n")
    ∷ is_21 (bytes "01000008010000000000000000\n")
    ∷ is_21 (head ++ kinds ++ bytes "02ff01\n")
    ∷ is_21 (head ++ kinds ++ bytes "020002\n")
    ∷ is_21 (head ++ kinds ++ bytes "0400000800\n")
    ∷ is_21 (head ++ kinds ++ bytes "0408000000\n")
    ∷ is_21 (head ++ kinds ++ bytes "0580000000\n")
    ∷ is_21 (head ++ bytes "030000030000000000000002\n030001000000000000000000\n")
    ∷ is_21 (head ++ bytes "030000080000000000000000\n030001000000000000000000\n")
    ∷ is_21 (head ++ bytes "030000000000000000000001\n030001000000000000000000\n")
    ∷ is_21 (head ++ bytes "030000010000000000000001\n030001000000000000000000\n")
    ∷ is_21 (head ++ bytes "030000060000000000000001\n030001000000000000000000\n")
    ∷ is_21 (head ++ bytes "030000070000000000000001\n030001000000000000000000\n")
    ∷ is_21 (head ++ bytes "030000090000000000000001\n030001000000000000000000\n")
    ∷ is_21 (head ++ bytes "030000040000000000000080\n030001000000000000000000\n")
    ∷ is_21 (head ++ bytes "030000050000000000000040\n030001000000000000000000\n")
    ∷ is_21 (head ++ bytes "0300000a0000000000000000\n030001000000000000000000\n")
    -- before 22, however late
    ∷ is_21 (bytes "020001\n020001\n\n")
    ∷ is_21 (bytes "7f02\n7f02\n7f")
    -- missing
    ∷ is_22 []
    ∷ is_22 (bytes "020001\n")
    ∷ is_22 head
    ∷ is_22 (head ++ bytes "030000020000000000000003\n")
    ∷ is_22 (bytes "01010200020000000000000003\n020001\n" ++ kinds)
    -- repeated
    ∷ is_22 (head ++ bytes "020001\n" ++ kinds)
    ∷ is_22 (listing ++ bytes "0400000001\n")
    ∷ is_22 (head ++ kinds ++ bytes "05000000\n05000000\n")
    ∷ is_22 (head ++ listing)
    ∷ is_22 (bytes "7f02\n7f02\n")
    -- misplaced
    ∷ is_22 (listing ++ bytes "7f02\n")
    ∷ is_22 (bytes "7f02\n" ++ listing)
    ∷ is_22 (kinds ++ head)
    ∷ is_22 (head ++ bytes "030001000000000000000000\n030000020000000000000003\n")
    ∷ is_22 (head ++ kinds ++ bytes "0400010000\n0400000001\n")
    ∷ is_22 (head ++ kinds ++ bytes "0400000001\n0400000000\n")
    ∷ is_22 (head ++ kinds ++ bytes "05000000\n0400000001\n")
    -- a total is reached
    ∷ is_22 (bytes "01010100020000000000000003\n020101\n" ++ kinds)
    ∷ is_22 (head ++ kinds ++ bytes "0400000002\n")
    ∷ is_22 (head ++ kinds ++ bytes "0400020000\n")
    ∷ is_22 (head ++ kinds ++ bytes "05010000\n")
    ∷ is_22 (head ++ kinds ++ bytes "05000002\n")
    ∷ is_22 (head ++ bytes "030000040000000000000001\n030001000000000000000000\n")
    ∷ []

-- those that give something else, by their places: none
pub samples-read : places (λ s. not (gives s)) samples ≡ []
unfolding kind_from frame_line refusal_frame record_text legal_numbers legal_from behind_byte frame_in frames_in with_frame told_record read_from
samples-read = refl
