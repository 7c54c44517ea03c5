-- The program's tables in one memory of words, and what a row of each stands for. Assumes nothing.
use Rattle.std.specs.Prelude.{Bool as 𝔹, cond, List, [], ◌∷◌, map, ℕ, ◌+◌, ◌-◌, ◌*◌, ◌%◌, ◌^◌, eqb, get_or, drop, Option, Some, None}
use Rattle.std.proofs.Math.Option as M
use Rattle.ids.specs.declared.ClassId.{ClassId}
use Rattle.kinds.specs.Kinds.{kind_from}
use Rattle.kinds.specs.declared.Kind.TheVariants.{Nil}
use Rattle.kinds.specs.declared.Arith.TheVariants.{Add, Sub, Mul, Less}
use Rattle.lexer.specs.Names.{name}
use Rattle.rules.specs.Program as P
use Rattle.program.specs.Layout.{insns_at, opnds_at, blocks_at, functions_at, classes_at, ivars_at, insn_words, function_words, class_words, ivar_row_words}
use Rattle.program.specs.Tab.{tab}
use Rattle.program.specs.declared.Name.{Name}
use Rattle.program.specs.declared.Opnd.{Opnd}
use Rattle.program.specs.declared.Opnd.TheVariants.{Const, Insn}
use Rattle.program.specs.declared.Op.{Op}
use Rattle.program.specs.declared.Op.TheVariants.{Jump, IfTrue, Return, SendStatic, SendDynamic, Compute, Phi, Param, SelfParam, New, GetIvar, SetIvar}
use Rattle.program.specs.declared.Row.{Row}
use Rattle.program.specs.declared.Function.{Function}
use Rattle.program.specs.declared.Given.{Given}
use Rattle.program.specs.declared.Given.TheVariants.{Zero, One, Two}

-- ---- numbers and operands

-- the stored form of an operand: a constant is its kind's byte and payload, an instruction's result 10 and the instruction's number
unfoldable pub opnd_from : ℕ → ℕ → Opnd
opnd_from t x = cond (eqb t 10) (Insn (record { 0 = x % 2 ^ 32 })) (Const (kind_from t x))

-- the operand at a word
abbrev pub opnd_at : List ℕ → ℕ → Opnd
opnd_at m at = opnd_from (get_or m at 0) (get_or m (at + 1) 0)

-- n operands from a word on
unfoldable pub opnds_in : List ℕ → ℕ → ℕ → List Opnd
opnds_in m at n = tab (λ j. opnd_at m (at + 2 * j)) n

-- an operand as the rules have it
abbrev pub opnd_of : Opnd → P.Opnd
opnd_of (Const k) = P.Const k
opnd_of (Insn i) = P.Insn i.0

abbrev pub given : Given → List Opnd
given Zero = []
given (One v) = v ∷ []
given (Two v w) = v ∷ w ∷ []

-- ---- instructions

-- the stored form of an instruction's sort: a tag and two words
unfoldable pub op_from : ℕ → ℕ → ℕ → Op
op_from t x y =
    get_or
    (Jump (record { 0 = x % 2 ^ 32 })
    ∷ IfTrue (record { 0 = x % 2 ^ 32 }) (record { 0 = y % 2 ^ 32 })
    ∷ Return
    ∷ SendStatic (record { 0 = x % 2 ^ 32 })
    ∷ SendDynamic (record { start = x; len = y })
    ∷ Compute Add
    ∷ Compute Sub
    ∷ Compute Mul
    ∷ Compute Less
    ∷ Phi (record { 0 = x % 2 ^ 32 }) (record { 0 = y % 2 ^ 32 })
    ∷ Param x
    ∷ SelfParam (record { 0 = x % 2 ^ 32 })
    ∷ New (record { 0 = x % 2 ^ 32 })
    ∷ GetIvar (record { start = x; len = y })
    ∷ [])
    t (SetIvar (record { start = x; len = y }))

-- a row: tag, block, two words, first operand, number of operands
unfoldable pub insn_at : List ℕ → ℕ → Row
insn_at m i =
    record {
      block = record { 0 = get_or m (insns_at + insn_words * i + 1) 0 % 2 ^ 32 };
      op = op_from (get_or m (insns_at + insn_words * i) 0) (get_or m (insns_at + insn_words * i + 2) 0) (get_or m (insns_at + insn_words * i + 3) 0);
      first = get_or m (insns_at + insn_words * i + 4) 0;
      count = get_or m (insns_at + insn_words * i + 5) 0;
    }

-- the first, or the second, of an instruction's operands
abbrev pub nth : List P.Opnd → ℕ → P.Opnd
nth l i = get_or l i (P.Const Nil)

-- a sort with its operands as the rules have it
abbrev pub op_in : List ℕ → Op → List P.Opnd → P.Op
op_in s (Jump b) l = P.Ends (P.Jump b.0)
op_in s (IfTrue b e) l = P.Ends (P.IfTrue (nth l 0) b.0 e.0)
op_in s Return l = P.Ends (P.Return (nth l 0))
op_in s (SendStatic f) l = P.Send (P.Static f.0) l
op_in s (SendDynamic n) l = P.Send (P.Dynamic (nth l 0) (name s n.start n.len)) (drop 1 l)
op_in s (Compute o) l = P.Compute o (nth l 0) (nth l 1)
op_in s (Phi b e) l = P.Phi b.0 (nth l 0) e.0 (nth l 1)
op_in s (Param n) l = P.Param n
op_in s (SelfParam c) l = P.SelfParam c.0
op_in s (New c) l = P.New c.0
op_in s (GetIvar n) l = P.GetIvar (name s n.start n.len) (nth l 0)
op_in s (SetIvar n) l = P.SetIvar (name s n.start n.len) (nth l 0) (nth l 1)

-- how many of n operands are call arguments or join operands
abbrev pub listed_in : Op → ℕ → ℕ
listed_in (Jump b) n = 0
listed_in (IfTrue b e) n = 0
listed_in Return n = 0
listed_in (SendStatic f) n = n
listed_in (SendDynamic m) n = n - 1
listed_in (Compute o) n = 0
listed_in (Phi b e) n = 2
listed_in (Param k) n = 0
listed_in (SelfParam c) n = 0
listed_in (New c) n = 0
listed_in (GetIvar m) n = 0
listed_in (SetIvar m) n = 0

-- whether a sort ends a block
abbrev pub ends_block : Op → 𝔹
ends_block (Jump b) = 𝔹.true
ends_block (IfTrue b e) = 𝔹.true
ends_block Return = 𝔹.true
ends_block (SendStatic f) = 𝔹.false
ends_block (SendDynamic m) = 𝔹.false
ends_block (Compute o) = 𝔹.false
ends_block (Phi b e) = 𝔹.false
ends_block (Param k) = 𝔹.false
ends_block (SelfParam c) = 𝔹.false
ends_block (New c) = 𝔹.false
ends_block (GetIvar m) = 𝔹.false
ends_block (SetIvar m) = 𝔹.false

unfoldable pub instruction_at : List ℕ → List ℕ → ℕ → P.Instruction
instruction_at s m i =
    record {
      block = (insn_at m i).block.0;
      op = op_in s (insn_at m i).op (map opnd_of (opnds_in m (opnds_at + 2 * (insn_at m i).first) (insn_at m i).count));
    }

-- ---- functions, classes and blocks

-- the stored form of a function's class: 0 none, else the class's number and one
unfoldable pub owner_from : ℕ → Option ClassId
owner_from x = cond (eqb x 0) None (Some (record { 0 = (x - 1) % 2 ^ 32 }))

abbrev pub owner_in : Option ClassId → M.Option ℕ
owner_in (Some c) = M.some c.0
owner_in None = M.none

-- a row: the name's start and length, the class, the entry block
unfoldable pub fun_at : List ℕ → ℕ → Function
fun_at m f =
    record {
      name = record { start = get_or m (functions_at + function_words * f) 0; len = get_or m (functions_at + function_words * f + 1) 0 };
      class = owner_from (get_or m (functions_at + function_words * f + 2) 0);
      entry = record { 0 = get_or m (functions_at + function_words * f + 3) 0 % 2 ^ 32 };
    }

abbrev pub name_in : List ℕ → Name → List ℕ
name_in s n = name s n.start n.len

abbrev pub function_in : List ℕ → Function → P.Function
function_in s f = record { name = name_in s f.name; class = owner_in f.class; entry = f.entry.0 }

-- a class's row: the name's start and length, the number of attributes, a function below which none is the class's
abbrev pub class_name_at : List ℕ → ℕ → Name
class_name_at m c = record { start = get_or m (classes_at + class_words * c) 0; len = get_or m (classes_at + class_words * c + 1) 0 }

abbrev pub ivars_of : List ℕ → ℕ → ℕ
ivars_of m c = get_or m (classes_at + class_words * c + 2) 0

abbrev pub first_of : List ℕ → ℕ → ℕ
first_of m c = get_or m (classes_at + class_words * c + 3) 0

-- an attribute's name: 64 places for each class
abbrev pub ivar_at : List ℕ → ℕ → ℕ → Name
ivar_at m c j = record { start = get_or m (ivars_at + ivar_row_words * c + 2 * j) 0; len = get_or m (ivars_at + ivar_row_words * c + 2 * j + 1) 0 }

unfoldable pub class_at : List ℕ → List ℕ → ℕ → P.Class
class_at s m c = record { name = name_in s (class_name_at m c); ivars = tab (λ j. name_in s (ivar_at m c j)) (ivars_of m c) }

-- a block's row: its function; whether it has a terminator
unfoldable pub block_at : List ℕ → ℕ → ℕ
block_at m b = get_or m (blocks_at + 2 * b) 0 % 2 ^ 32

abbrev pub flag_at : List ℕ → ℕ → ℕ
flag_at m b = get_or m (blocks_at + 2 * b + 1) 0
