-- The line that `live` writes to standard error on a refusal. Assumes nothing.
use Rattle.std.specs.Prelude.{List, [], ◌∷◌, ◌++◌, ℕ, get_or}
use Prim.Native.String.{String}
use Rattle.rules.specs.Lists.{bytes}

-- 01's questions in short, each at its number; 0 is none
unfoldable pub questions : List String
questions =
    ""
    ∷ "1: is the script at most 16384 bytes long?"
    ∷ "2: is each lent part of memory long enough?"
    ∷ "3: does this byte start a word, a number or a sign?"
    ∷ "4: does the number fit 64 bits with a sign?"
    ∷ "5: may this word, or the end of the text, stand here?"
    ∷ "6: is the name bound?"
    ∷ "7: is the name free?"
    ∷ "8: can this be called?"
    ∷ "9: does the @ stand in a method?"
    ∷ "10: is the block still without a return?"
    ∷ "11: is the script within the limits?"
    ∷ "12: is there a function?"
    ∷ "13: is each attribute declared that a constructor sets?"
    ∷ "14: is the receiver an object?"
    ∷ "15: has each class of the receiver this attribute or method?"
    ∷ "16: has every parameter an argument?"
    ∷ "17: can the function be called without a receiver?"
    ∷ "18: is this another operation than subtraction?"
    ∷ "19: can the two kinds be joined?"
    ∷ "20: have the waiting lists room?"
    ∷ []

-- the number and the words of question n, and the line's end
unfoldable pub words_of : ℕ → List ℕ
words_of n = bytes (get_or questions n "") ++ 10 ∷ []

unfoldable pub line_of : ℕ → List ℕ
line_of n = bytes "live: question " ++ words_of n
