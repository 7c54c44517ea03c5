-- The published numbers of the call, written out: the longest script, the lengths of the parts, and where the tables of the program part start. Assumes
-- nothing.
use Rattle.std.specs.Prelude.{List, [], ◌∷◌, ℕ}
use Prim.Native.String.{String}

-- by the names that the bindings have for them, in bytes and in words
abbrev pub published : List (String × ℕ)
published =
    ("SCRIPT_MOST", 16384)
    ∷ ("ANSWER_WORDS", 22788)
    ∷ ("PROGRAM_WORDS", 57088)
    ∷ ("STATE_WORDS", 54272)
    ∷ []

-- the program part: its tables by the names that the code has for them, the words that they take together, and the words of the index behind them
abbrev pub program : List (String × ℕ)
program =
    ("INSNS", 0)
    ∷ ("OPNDS", 12288)
    ∷ ("BLOCKS", 36864)
    ∷ ("FUNCTIONS", 38912)
    ∷ ("CLASSES", 39424)
    ∷ ("IVARS", 39680)
    ∷ ("TABLES", 47872)
    ∷ ("INDEX", 9216)
    ∷ []

-- the state part while the analysis runs: where its stamps start, behind the tables
abbrev pub state : List (String × ℕ)
state = ("STAMPS", 52224) ∷ []

-- the state part while a script is read: the words of the reader's scratch, and where its stack starts
abbrev pub scratch : List (String × ℕ)
scratch = ("STACK", 32768) ∷ ("SCRATCH", 49152) ∷ []
