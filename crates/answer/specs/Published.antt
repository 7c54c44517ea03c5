-- The published numbers of the answer part, written out: where its tables start, its length, and what two answers leave in it. Assumes nothing.
use Rattle.std.specs.Prelude.{true, false, List, [], ◌∷◌, ℕ, suc, eqb, length}
use Prim.Native.String.{String}
use Rattle.rules.specs.Actions.{Answer, answered, refused}
use Rattle.rules.specs.Frames.{Analysis}
use Rattle.answer.specs.Record.{answer_record}
use Rattle.answer.specs.Image.{image_of}

-- by the names that the bindings have for them; the totals stand before LIVE: functions, blocks, instructions, count
abbrev pub published : List (String × ℕ)
published =
    ("LIVE", 4)
    ∷ ("TAGS", 259)
    ∷ ("PAYLOADS", 2307)
    ∷ ("STARTS", 4355)
    ∷ ("USERS", 6404)
    ∷ ("CALLERS", 18692)
    ∷ ("ROW_WORDS", 32)
    ∷ ("ANSWER_WORDS", 22788)
    ∷ []

-- the words that are not 0, each behind its place, counted from k
abbrev pub words_from : ℕ → List ℕ → List (ℕ × ℕ)
words_from k [] = []
words_from k (x ∷ l) = elim (eqb x 0) [ true ↦ words_from (suc k) l | false ↦ (k, x) ∷ words_from (suc k) l ]

-- how long the answer part of an analysis is, and its words that are not 0; a refusal has none
abbrev pub answer_words : Answer Analysis → ℕ × List (ℕ × ℕ)
answer_words (answered a) = (length (image_of (answer_record a.program a.state)), words_from 0 (image_of (answer_record a.program a.state)))
answer_words (refused n) = (0, [])

-- the listing of 01's "Frames": 1 function, 1 block, 2 instructions, count 3; block 0 is live; instruction 0 is the number 3, and instruction 1 uses it
abbrev pub listing : List (ℕ × ℕ)
listing =
    (0, 1) ∷ (1, 1) ∷ (2, 2) ∷ (3, 3)
    ∷ (4, 1)
    ∷ (259, 2)
    ∷ (2307, 3)
    ∷ (4356, 1) ∷ (4357, 1)
    ∷ (6404, 1)
    ∷ []

-- README's example: 3 functions, 6 blocks, 14 instructions, count 25; live blocks; kinds and payloads; starts; users; who calls functions 0 and 1
abbrev pub ration : List (ℕ × ℕ)
ration =
    (0, 3) ∷ (1, 6) ∷ (2, 14) ∷ (3, 25)
    ∷ (4, 1) ∷ (5, 1) ∷ (6, 1) ∷ (9, 1)
    ∷ (259, 8) ∷ (260, 3) ∷ (263, 8) ∷ (264, 3) ∷ (269, 8) ∷ (271, 8)
    ∷ (2307, 16) ∷ (2308, 1) ∷ (2311, 16) ∷ (2312, 1) ∷ (2317, 16) ∷ (2319, 3)
    ∷ (4356, 1) ∷ (4357, 2) ∷ (4358, 3) ∷ (4359, 3) ∷ (4360, 4) ∷ (4361, 5) ∷ (4362, 5) ∷ (4363, 5) ∷ (4364, 5) ∷ (4365, 5) ∷ (4366, 7) ∷ (4367, 7)
    ∷ (4368, 8) ∷ (4369, 8)
    ∷ (6404, 2) ∷ (6405, 2) ∷ (6406, 3) ∷ (6407, 5) ∷ (6408, 7) ∷ (6409, 11) ∷ (6410, 12) ∷ (6411, 13)
    ∷ (18692, 2048) ∷ (18724, 4096)
    ∷ []
