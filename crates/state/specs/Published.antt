-- Where the state part has its tables, written out. Assumes nothing.
use Rattle.std.specs.Prelude.{true, false, List, [], ◌∷◌, ℕ, pos, replicate, set}
use Prim.Native.String.{String}
use Rattle.std.proofs.Common.{lit≤}
use Rattle.kinds.specs.declared.Kind.TheVariants.{Empty, Num}
use Rattle.rules.specs.Machine.{State}
use Rattle.state.specs.declared.Sizes.{Sizes}
use Rattle.state.specs.declared.Regs.{Regs}
use Rattle.state.specs.View.{Attrs}

-- how many words the tables take
abbrev pub words : ℕ
words = 52224

-- each table's first word, by the name that the code has for it, and a word for that place
abbrev pub tables : List (String × ℕ × ℕ)
tables =
    ("KINDS", 0, 2)
    ∷ ("BITS", 2048, 7)
    ∷ ("LIVE", 4096, 1)
    ∷ ("IVARS", 5120, 2)
    ∷ ("IVAR_BITS", 9216, 9)
    ∷ ("CALLERS", 13312, 1)
    ∷ ("READS", 17408, 2)
    ∷ ("INSNS", 19456, 1)
    ∷ ("BLOCKS", 35840, 1)
    ∷ []

-- memory that is 0 but for the words of such a table
abbrev pub laid : List (String × ℕ × ℕ) → List ℕ
laid [] = replicate words 0
laid (x ∷ l) = set (laid l) x.1 x.2

-- a program of one function, one class with one attribute, two blocks and two instructions; one instruction and one block wait
abbrev pub sizes : Sizes
sizes = record { functions = 1; classes = 1; blocks = 2; insns = 2 }

abbrev pub attrs : Attrs
attrs = record { count = λ _. 1; most = λ _. lit≤ tt }

abbrev pub regs : Regs
regs = record { insns = record { head = 0; len = 1 }; blocks = record { head = 0; len = 1 }; draining = false; count = 5 }

-- the state that these words stand for: instruction 0 is the number 7, block 0 is live, the attribute is the number 9, instruction 0 has called the function,
-- instruction 1 is a read that met the class, instruction 1 and block 1 wait
abbrev pub told : State
told = record {
  kinds = Num (pos 7) ∷ Empty ∷ [];
  live = true ∷ false ∷ [];
  called_by = (true ∷ false ∷ []) ∷ [];
  ivar_kinds = (Num (pos 9) ∷ []) ∷ [];
  ivar_reads = (false ∷ true ∷ []) ∷ [];
  insn_worklist = 1 ∷ [];
  block_worklist = 1 ∷ [];
  draining = false;
  count = 5;
}
