-- The program that memory and counts stand for, what every function may rely on, and what each does. Assumes nothing.
use Rattle.std.specs.Prelude.{true, cond, ◌≡◌, List, map, ℕ, ◌+◌, ◌*◌, ◌≤◌, ◌<◌, ltb, leb, length, get_or, Option, Result, Ok, Err}
use Rattle.ids.specs.declared.BlockId.{BlockId}
use Rattle.ids.specs.declared.ClassId.{ClassId}
use Rattle.ids.specs.declared.FunId.{FunId}
use Rattle.ids.specs.declared.InsnId.{InsnId}
use Rattle.refusals.specs.Refusals.{number_of}
use Rattle.refusals.specs.declared.Refusal.{Refusal}
use Rattle.kinds.specs.Kinds.{bit_of}
use Rattle.rules.specs.Actions.{Answer, answered, refused}
use Rattle.rules.specs.Lists.{is_just}
use Rattle.rules.specs.Program as P
use Rattle.rules.specs.Program.{terminated, listed_count}
use Rattle.rules.specs.Reading.{Parser, with_program, with_block, with_class, push_insn, new_block_of, new_block, new_fun, new_class}
use Rattle.memory.specs.Layout.{functions_most, classes_most, ivars_most, instructions_most, operands_most, blocks_room}
use Rattle.program.specs.Layout.{insns_at, opnds_at, blocks_at, functions_at, classes_at, program_size, insn_words, function_words, class_words}
use Rattle.program.specs.Tab.{tab}
use Rattle.program.specs.Rows.{opnds_in, opnd_of, op_in, listed_in, insn_at, instruction_at, fun_at, function_in, name_in, owner_in, class_name_at}
use Rattle.program.specs.Rows.{class_at, ivars_of, first_of, block_at, flag_at}
use Rattle.program.specs.declared.Counts.{Counts}
use Rattle.program.specs.declared.bounds.Limits.{Limits}
use Rattle.program.specs.declared.Name.{Name}
use Rattle.program.specs.declared.Function.{Function}
use Rattle.program.specs.declared.Opnd.{Opnd}
use Rattle.program.specs.declared.Op.{Op}
use Rattle.program.specs.declared.Row.{Row}
use Rattle.program.specs.declared.Op.TheVariants.{SendStatic, SendDynamic}
use Rattle.program.specs.declared.Callee.{Callee}
use Rattle.program.specs.declared.Callee.TheVariants as K

-- ---- the program

unfoldable pub instructions_of : List ℕ → List ℕ → ℕ → List P.Instruction
instructions_of s m n = tab (instruction_at s m) n

unfoldable pub functions_of : List ℕ → List ℕ → ℕ → List P.Function
functions_of s m n = tab (λ f. function_in s (fun_at m f)) n

unfoldable pub classes_of : List ℕ → List ℕ → ℕ → List P.Class
classes_of s m n = tab (class_at s m) n

unfoldable pub blocks_of : List ℕ → ℕ → List ℕ
blocks_of m n = tab (block_at m) n

abbrev pub program_view : List ℕ → List ℕ → Counts → P.Program
program_view s m c =
    record {
      functions = functions_of s m c.functions;
      classes = classes_of s m c.classes;
      blocks = blocks_of m c.blocks;
      instructions = instructions_of s m c.insns;
    }

-- ---- what every function may rely on, for any script

-- of the first n functions, none below x is a method of class k
pub record OwnsFrom (m : List ℕ) (n k x : ℕ) : Type 0 where
  pub high : x ≤ n
  pub owned : (f : ℕ) → f < n → is_just (owner_in (fun_at m f).class) k ≡ true → x ≤ f

-- the counts stay within the tables; each instruction's block and operands are there; the flags of blocks and the number of listed operands are the
-- program's; a class's methods stand from its first function on
pub record ProgramReady (m : List ℕ) (c : Counts) : Type 0 where
  pub len_mem : program_size ≤ length m
  pub functions : c.functions ≤ functions_most
  pub classes : c.classes ≤ classes_most
  pub blocks : c.blocks ≤ blocks_room
  pub insns : c.insns ≤ instructions_most
  pub listed : c.listed ≤ operands_most
  pub opnds : c.opnds ≤ c.listed + 2 * c.insns
  pub ivars : (k : ℕ) → k < c.classes → ivars_of m k ≤ ivars_most
  pub ranges : (i : ℕ) → i < c.insns → (insn_at m i).first + (insn_at m i).count ≤ c.opnds
  pub inside : (i : ℕ) → i < c.insns → (insn_at m i).block.0 < c.blocks
  pub flags : (s : List ℕ) (b : ℕ) → b < c.blocks → flag_at m b ≡ bit_of (terminated (program_view s m c) b)
  pub listing : (s : List ℕ) → c.listed ≡ listed_count (program_view s m c)
  pub firsts : (k : ℕ) → k < c.classes → OwnsFrom m c.functions k (first_of m k)

-- the limits that a call is given are at most the tables' room
pub record Small (l : Limits) : Type 0 where
  pub functions : l.functions ≤ functions_most
  pub classes : l.classes ≤ classes_most
  pub blocks : l.blocks ≤ blocks_room
  pub instructions : l.instructions ≤ instructions_most
  pub operands : l.operands ≤ operands_most
  pub ivars : l.ivars ≤ ivars_most

abbrev pub limits_of : Limits → P.Limits
limits_of l =
    record {
      script = l.script;
      functions = l.functions;
      classes = l.classes;
      blocks = l.blocks;
      instructions = l.instructions;
      operands = l.operands;
      ivars = l.ivars;
      depth = l.depth;
      worklist = l.worklist;
    }

-- ---- rows read

-- an instruction's row as the rules have it
abbrev pub row_in : List ℕ → List ℕ → Row → P.Instruction
row_in s m x = record { block = x.block.0; op = op_in s x.op (map opnd_of (opnds_in m (opnds_at + 2 * x.first) x.count)) }

pub record ReadsInsn (m : List ℕ) (c : Counts) (i : ℕ) (r : Row) : Type 0 where
  pub row : r ≡ insn_at m i
  pub is : (s : List ℕ) → P.instruction (program_view s m c) i ≡ row_in s m r
  pub range : r.first + r.count ≤ c.opnds
  pub inside : r.block.0 < c.blocks

pub record ReadsFun (m : List ℕ) (c : Counts) (f : ℕ) (r : Function) : Type 0 where
  pub row : r ≡ fun_at m f
  pub is : (s : List ℕ) → P.function (program_view s m c) f ≡ function_in s r

pub record ReadsBlock (m : List ℕ) (c : Counts) (b f : ℕ) : Type 0 where
  pub is : (s : List ℕ) → P.function_at (program_view s m c) b ≡ f

-- ---- stores

-- only the words from lo up to hi may have changed
pub record ProgramOnly (lo hi : ℕ) (m m' : List ℕ) : Type 0 where
  pub len_same : length m' ≡ length m
  pub below : (k : ℕ) → k < lo → get_or m' k 0 ≡ get_or m k 0
  pub above : (k : ℕ) → hi ≤ k → get_or m' k 0 ≡ get_or m k 0

-- operands stand from a word on
pub record Puts (at : ℕ) (os : List Opnd) (m m' : List ℕ) : Type 0 where
  pub only : ProgramOnly at (at + 2 * length os) m m'
  pub here : opnds_in m' at (length os) ≡ os

-- instruction n stands in its row
pub record PutsRow (n : ℕ) (x : Row) (m m' : List ℕ) : Type 0 where
  pub only : ProgramOnly (insns_at + insn_words * n) (insns_at + insn_words * n + 6) m m'
  pub here : insn_at m' n ≡ x

-- the rows of a block, of a function and of a class
pub record PutsBlock (n f : ℕ) (m m' : List ℕ) : Type 0 where
  pub only : ProgramOnly (blocks_at + 2 * n) (blocks_at + 2 * n + 2) m m'
  pub here : block_at m' n ≡ f
  pub flag : flag_at m' n ≡ 0

pub record PutsFun (n : ℕ) (x : Function) (m m' : List ℕ) : Type 0 where
  pub only : ProgramOnly (functions_at + function_words * n) (functions_at + function_words * n + 4) m m'
  pub here : fun_at m' n ≡ x

pub record PutsClass (n : ℕ) (x : Name) (f : ℕ) (m m' : List ℕ) : Type 0 where
  pub only : ProgramOnly (classes_at + class_words * n) (classes_at + class_words * n + 4) m m'
  pub here : class_name_at m' n ≡ x
  pub none : ivars_of m' n ≡ 0
  pub first : first_of m' n ≡ f

-- ---- additions

-- a number that was added and the counts after it, or the number of a refusal
pub data Grew : Type 0 where
  grew : ℕ → Counts → Grew
  stopped : ℕ → Grew

abbrev pub outcome : List ℕ → List ℕ → Grew → Parser → Answer (ℕ × Parser)
outcome s m (grew n c) r = answered (n, with_program (program_view s m c) r)
outcome s m (stopped e) r = refused e

-- what holds after an addition: its number is `at`, the counts are `next`
pub record ProgramAfter (m : List ℕ) (at : ℕ) (next : Counts) (n : ℕ) (c : Counts) : Type 0 where
  pub number : n ≡ at
  pub counts : c ≡ next
  pub ready : ProgramReady m c

abbrev pub AfterIf : List ℕ → ℕ → Counts → Grew → Type 0
AfterIf m at next (grew n c) = ProgramAfter m at next n c
AfterIf m at next (stopped e) = Unit {0}

-- what every function that adds does, for any script and any state of the parser: f, which leaves the parser as `after` does beside the program
pub record ProgramDid (f : List ℕ → Parser → Answer (ℕ × Parser)) (after : Parser → Parser) (at : ℕ) (next : Counts) (m : List ℕ) (c : Counts) (m' : List ℕ) (g : Grew) : Type 0 where
  pub is : (s : List ℕ) (r : Parser) → outcome s m' g (after r) ≡ f s (with_program (program_view s m c) r)
  pub ok : AfterIf m' at next g

-- what an addition answers, with the counts after it
abbrev pub insn_of : Counts → Result InsnId Refusal → Grew
insn_of c (Ok i) = grew i.0 c
insn_of c (Err e) = stopped (number_of e)

abbrev pub block_of : Counts → Result BlockId Refusal → Grew
block_of c (Ok b) = grew b.0 c
block_of c (Err e) = stopped (number_of e)

abbrev pub fun_of : Counts → Result (FunId × BlockId) Refusal → Grew
fun_of c (Ok (f, b)) = grew f.0 c
fun_of c (Err e) = stopped (number_of e)

abbrev pub class_of : Counts → Result ClassId Refusal → Grew
class_of c (Ok k) = grew k.0 c
class_of c (Err e) = stopped (number_of e)

-- the counts after an instruction with n operands, a block, a function with its block, a class
abbrev pub more_insns : Op → ℕ → Counts → Counts
more_insns o n c =
    record {
      functions = c.functions;
      classes = c.classes;
      blocks = c.blocks;
      insns = c.insns + 1;
      opnds = c.opnds + n;
      listed = c.listed + listed_in o n;
    }

abbrev pub more_blocks : Counts → Counts
more_blocks c =
    record {
      functions = c.functions;
      classes = c.classes;
      blocks = c.blocks + 1;
      insns = c.insns;
      opnds = c.opnds;
      listed = c.listed;
    }

abbrev pub more_functions : Counts → Counts
more_functions c =
    record {
      functions = c.functions + 1;
      classes = c.classes;
      blocks = c.blocks;
      insns = c.insns;
      opnds = c.opnds;
      listed = c.listed;
    }

abbrev pub more_classes : Counts → Counts
more_classes c =
    record {
      functions = c.functions;
      classes = c.classes + 1;
      blocks = c.blocks;
      insns = c.insns;
      opnds = c.opnds;
      listed = c.listed;
    }

-- the rules' actions, over the code's operands; whom a call calls
abbrev pub pushing_of : P.Limits → ℕ → Op → List Opnd → List ℕ → Parser → Answer (ℕ × Parser)
pushing_of L b o os s = push_insn L b (op_in s o (map opnd_of os))

abbrev pub callee_in : List ℕ → Callee → P.Callee
callee_in s (K.Static f) = P.Static f.0
callee_in s (K.Dynamic v n) = P.Dynamic (opnd_of v) (name_in s n)

abbrev pub call_of : P.Limits → ℕ → Callee → List Opnd → List ℕ → Parser → Answer (ℕ × Parser)
call_of L b k os s = push_insn L b (P.Send (callee_in s k) (map opnd_of os))

-- the counts after a call with n arguments
abbrev pub more_calls : Callee → ℕ → Counts → Counts
more_calls (K.Static f) n c = more_insns (SendStatic f) n c
more_calls (K.Dynamic v m) n c = more_insns (SendDynamic m) (1 + n) c

abbrev pub block_for : P.Limits → ℕ → List ℕ → Parser → Answer (ℕ × Parser)
block_for L f s = new_block_of L f

abbrev pub next_block : P.Limits → List ℕ → Parser → Answer (ℕ × Parser)
next_block L s = new_block L

abbrev pub fun_for : P.Limits → Name → Option ClassId → List ℕ → Parser → Answer (ℕ × Parser)
fun_for L n k s r = new_fun L (name_in s n) (with_class (owner_in k) r)

abbrev pub class_for : P.Limits → Name → List ℕ → Parser → Answer (ℕ × Parser)
class_for L n s = new_class L (name_in s n)

-- a new function's entry block takes instructions
abbrev pub entered : Option ClassId → ℕ → Parser → Parser
entered k b r = with_block b (with_class (owner_in k) r)

abbrev pub EntryIs : ℕ → Result (FunId × BlockId) Refusal → Type 0
EntryIs n (Ok (f, b)) = b.0 ≡ n
EntryIs n (Err e) = Unit {0}

pub record DidFun (l : Limits) (n : Name) (k : Option ClassId) (m : List ℕ) (c : Counts) (m' : List ℕ) (c' : Counts) (r : Result (FunId × BlockId) Refusal) : Type 0 where
  pub did : ProgramDid (fun_for (limits_of l) n k) (entered k c.blocks) c.functions (more_functions (more_blocks c)) m c m' (fun_of c' r)
  pub entry : EntryIs c.blocks r

-- the program before any reading
pub record Starts (m : List ℕ) (c : Counts) : Type 0 where
  pub is : (s : List ℕ) → program_view s m c ≡ P.no_program
  pub ok : ProgramReady m c

-- nothing but the program changes
abbrev pub unchanged : Parser → Parser
unchanged r = r

-- the number of a refusal, else 0
abbrev pub asked : Result (Unit {0}) Refusal → ℕ
asked (Ok u) = 0
asked (Err e) = number_of e

-- questions 10 and 11 of an instruction with k listed operands: 0, or the number of the first that is answered no
unfoldable pub push_asks : P.Limits → P.Program → ℕ → ℕ → ℕ
push_asks L p b k =
    cond (terminated p b) 10
    (cond (ltb (length p.instructions) L.instructions) (cond (leb (listed_count p + k) L.operands) 0 11) 11)

-- an instruction of block b that is added, its n operands right behind those in use
pub record Commits (b : ℕ) (o : Op) (n : ℕ) (m : List ℕ) (c : Counts) (m' : List ℕ) (c' : Counts) : Type 0 where
  pub is : (s : List ℕ) → program_view s m' c' ≡ P.with_instruction (record { block = b; op = op_in s o (map opnd_of (opnds_in m (opnds_at + 2 * c.opnds) n)) }) (program_view s m c)
  pub ok : ProgramReady m' c'
  pub counts : c' ≡ more_insns o n c

-- the same of an instruction with these operands, wherever they came from
pub record ProgramAdds (b : ℕ) (o : Op) (os : List Opnd) (m : List ℕ) (c : Counts) (m' : List ℕ) (c' : Counts) : Type 0 where
  pub is : (s : List ℕ) → program_view s m' c' ≡ P.with_instruction (record { block = b; op = op_in s o (map opnd_of os) }) (program_view s m c)
  pub ok : ProgramReady m' c'
  pub counts : c' ≡ more_insns o (length os) c

-- what the two questions of an addition come to, for any script
pub record Asks (l : Limits) (m : List ℕ) (c : Counts) (b k e : ℕ) : Type 0 where
  pub is : (s : List ℕ) → e ≡ push_asks (limits_of l) (program_view s m c) b k

-- room for it
pub record ProgramRoom (b : ℕ) (o : Op) (n : ℕ) (c : Counts) : Type 0 where
  pub block : b < c.blocks
  pub insns : c.insns < instructions_most
  pub listed : c.listed + listed_in o n ≤ operands_most
  pub opnds : n ≤ listed_in o n + 2
