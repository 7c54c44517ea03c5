-- The program that a reading leaves (01, "Shapes that can't cross, then pieces"): four tables, whose places are the numbers of functions, classes,
-- blocks and instructions. All else is computed from them. Assumes nothing.
use Rattle.std.specs.Prelude.{Bool as 𝔹, true, false, not, ◌&&◌, List, [], ◌∷◌, ◌++◌, map, ℕ, eqb, ltb, length, get_or}
use Rattle.std.proofs.Math.Option.{Option, none, some}
use Rattle.kinds.specs.declared.Kind.{Kind}
use Rattle.kinds.specs.declared.Arith.{Arith}
use Rattle.kinds.specs.Kinds.{same_kind}
use Rattle.rules.specs.Lists.{bytes, same, any, keep, sum, places, first, final, to_list, has, or_else, is_just, concat}
use Rattle.rules.specs.Values.{kind_before}

-- the limits of 01's last paragraph, and those of questions 1 and 20
pub record Limits : Type 0 where
  pub script : ℕ
  pub functions : ℕ
  pub classes : ℕ
  pub blocks : ℕ
  pub instructions : ℕ
  pub operands : ℕ
  pub ivars : ℕ
  pub depth : ℕ
  pub worklist : ℕ

-- the built-in ones
abbrev pub limits : Limits
limits = record { script = 16384; functions = 128; classes = 64; blocks = 255; instructions = 2048; operands = 8192; ivars = 64; depth = 128; worklist = 16384 }

abbrev pub Name : Type 0
Name = List ℕ

-- a constant, or the result of an instruction
pub data Opnd : Type 0 where
  Const : Kind → Opnd
  Insn : ℕ → Opnd

-- what ends a block: a jump and its target; a choice's condition, then block and else block; a returned operand
pub data Terminator : Type 0 where
  Jump : ℕ → Terminator
  IfTrue : Opnd → ℕ → ℕ → Terminator
  Return : Opnd → Terminator

-- whom a call calls: a function (01: a bare call), or the method of a name on a receiver
pub data Callee : Type 0 where
  Static : ℕ → Callee
  Dynamic : Opnd → Name → Callee

-- a Phi (01: a join) has a block and an operand for each of its two sides; a Param its place among the parameters; GetIvar and SetIvar (01: reading and
-- setting an attribute) the attribute's name and the receiver, SetIvar the value last
pub data Op : Type 0 where
  Ends : Terminator → Op
  Send : Callee → List Opnd → Op
  Compute : Arith → Opnd → Opnd → Op
  Phi : ℕ → Opnd → ℕ → Opnd → Op
  Param : ℕ → Op
  SelfParam : ℕ → Op
  New : ℕ → Op
  GetIvar : Name → Opnd → Op
  SetIvar : Name → Opnd → Opnd → Op

pub record Instruction : Type 0 where
  pub block : ℕ
  pub op : Op

-- a method has a class
pub record Function : Type 0 where
  pub name : Name
  pub class : Option ℕ
  pub entry : ℕ

-- ivars: the declared attributes
pub record Class : Type 0 where
  pub name : Name
  pub ivars : List Name

-- of a block the table holds its function
pub record Program : Type 0 where
  pub functions : List Function
  pub classes : List Class
  pub blocks : List ℕ
  pub instructions : List Instruction

-- a built-in class: no script can name it, and it has neither attributes nor methods
abbrev pub built_in : Class
built_in = record { name = []; ivars = [] }

-- the program before any reading: the four built-in classes
abbrev pub no_program : Program
no_program = record { functions = []; classes = built_in ∷ built_in ∷ built_in ∷ built_in ∷ []; blocks = []; instructions = [] }

abbrev pub same_opnd : Opnd → Opnd → 𝔹
same_opnd (Const a) (Const b) = same_kind a b
same_opnd (Const a) (Insn j) = false
same_opnd (Insn i) (Const b) = false
same_opnd (Insn i) (Insn j) = eqb i j

-- the reference's order of operands: constants in front, instructions by number
abbrev pub opnd_before : Opnd → Opnd → 𝔹
opnd_before (Const a) (Const b) = kind_before a b
opnd_before (Const a) (Insn j) = true
opnd_before (Insn i) (Const b) = false
opnd_before (Insn i) (Insn j) = ltb i j

-- ---- what the other files ask of an instruction

abbrev pub end_opnds : Terminator → List Opnd
end_opnds (Jump b) = []
end_opnds (IfTrue v t e) = v ∷ []
end_opnds (Return v) = v ∷ []

abbrev pub receiver : Callee → List Opnd
receiver (Static f) = []
receiver (Dynamic r n) = r ∷ []

-- operands: all that it uses; listed: the call arguments or join operands, which count towards their limit; place: a Param's; self: a SelfParam's class
pub record About : Type 0 where
  pub terminator : Option Terminator
  pub operands : List Opnd
  pub listed : List Opnd
  pub callee : Option Callee
  pub place : Option ℕ
  pub self : Option ℕ
  pub gets : Option Name
  pub sets : Option Name

abbrev pub row : Option Terminator → List Opnd → List Opnd → Option Callee → Option ℕ → Option ℕ → Option Name → Option Name → About
row t us l c n m g s = record { terminator = t; operands = us; listed = l; callee = c; place = n; self = m; gets = g; sets = s }

-- one line for each sort of instruction
abbrev pub about : Op → About
about (Ends t) = row (some t) (end_opnds t) [] none none none none none
about (Send c l) = row none (receiver c ++ l) l (some c) none none none none
about (Compute o v w) = row none (v ∷ w ∷ []) [] none none none none none
about (Phi b v c w) = row none (v ∷ w ∷ []) (v ∷ w ∷ []) none none none none none
about (Param n) = row none [] [] none (some n) none none none
about (SelfParam c) = row none [] [] none none (some c) none none
about (New c) = row none [] [] none none none none none
about (GetIvar n r) = row none (r ∷ []) [] none none none (some n) none
about (SetIvar n r v) = row none (r ∷ v ∷ []) [] none none none none (some n)

abbrev pub is_terminator : Op → 𝔹
is_terminator o = has (about o).terminator

abbrev pub returned_by : Option Terminator → Option Opnd
returned_by none = none
returned_by (some (Jump b)) = none
returned_by (some (IfTrue v t e)) = none
returned_by (some (Return v)) = some v

-- a Return's operand
abbrev pub returned : Op → Option Opnd
returned o = returned_by (about o).terminator

-- the blocks that a terminator jumps to
abbrev pub successors : Option Terminator → List ℕ
successors none = []
successors (some (Jump b)) = b ∷ []
successors (some (IfTrue v t e)) = t ∷ e ∷ []
successors (some (Return v)) = []

-- ---- additions

abbrev pub with_instruction : Instruction → Program → Program
with_instruction x p = record { functions = p.functions; classes = p.classes; blocks = p.blocks; instructions = p.instructions ++ x ∷ [] }

abbrev pub with_block : ℕ → Program → Program
with_block f p = record { functions = p.functions; classes = p.classes; blocks = p.blocks ++ f ∷ []; instructions = p.instructions }

abbrev pub with_function : Function → Program → Program
with_function f p = record { functions = p.functions ++ f ∷ []; classes = p.classes; blocks = p.blocks; instructions = p.instructions }

abbrev pub with_classes : List Class → Program → Program
with_classes cs p = record { functions = p.functions; classes = cs; blocks = p.blocks; instructions = p.instructions }

-- ---- look-ups; a number beyond its table finds a stand-in

module _ (p : Program) where
  abbrev pub instruction : ℕ → Instruction
  instruction i = get_or p.instructions i (record { block = 0; op = New 0 })

  abbrev pub function : ℕ → Function
  function f = get_or p.functions f (record { name = []; class = none; entry = 0 })

  abbrev pub class : ℕ → Class
  class c = get_or p.classes c built_in

  abbrev pub op_of : ℕ → Op
  op_of i = (instruction i).op

  abbrev pub block_of : ℕ → ℕ
  block_of i = (instruction i).block

  -- the function of a block, and of an instruction
  abbrev pub function_at : ℕ → ℕ
  function_at b = get_or p.blocks b 0

  abbrev pub function_of : ℕ → ℕ
  function_of i = function_at (block_of i)

  abbrev pub entry : ℕ → ℕ
  entry f = (function f).entry

  -- a block's instructions, rising
  unfoldable pub code : ℕ → List ℕ
  code b = places (λ (x : Instruction). eqb x.block b) p.instructions

  -- how many call arguments and join operands there are; receivers are not among them
  unfoldable pub listed_count : ℕ
  listed_count = sum (λ (x : Instruction). length (about x.op).listed) p.instructions

  -- what question 10 asks of a block
  unfoldable pub terminated : ℕ → 𝔹
  terminated b = any (λ (x : Instruction). eqb x.block b && is_terminator x.op) p.instructions

  -- the latest function of a name, methods too
  unfoldable pub function_named : Name → Option ℕ
  function_named n = final (places (λ (f : Function). same f.name n) p.functions)

  -- a class's method, its constructor, and the place of its attribute
  unfoldable pub method_named : ℕ → Name → Option ℕ
  method_named c n = first (places (λ (f : Function). is_just f.class c && same f.name n) p.functions)

  abbrev pub constructor_of : ℕ → Option ℕ
  constructor_of c = method_named c (bytes "initialize")

  unfoldable pub ivar_named : ℕ → Name → Option ℕ
  ivar_named c n = first (places (λ m. same m n) (class c).ivars)

  -- the last `main` outside of classes, else function 0
  unfoldable pub main_function : ℕ
  main_function = or_else (final (places (λ (f : Function). same f.name (bytes "main") && not (has f.class)) p.functions)) 0

  -- a function's Params
  unfoldable pub parameters : ℕ → List ℕ
  parameters f = keep (λ i. has (about (op_of i)).place) (code (entry f))

  -- the operands of a function's Returns, those of dead blocks too
  unfoldable pub returns : ℕ → List Opnd
  returns f = concat (map (λ (x : Instruction). elim (eqb (function_at x.block) f) [ true ↦ to_list (returned x.op) | false ↦ [] ]) p.instructions)
