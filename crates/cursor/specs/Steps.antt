-- Parts of the rules' actions that the parser has functions for. Assumes nothing.
use Rattle.std.specs.Prelude.{not, cond, List, ℕ, eqb, ltb, Option, None, Some}
use Rattle.kinds.specs.declared.Arith.{Arith}
use Rattle.kinds.specs.declared.Arith.TheVariants.{Add, Sub, Mul, Less}
use Rattle.rules.specs.Actions.{◌>>=◌, ◌>>◌, give, ask, the, change, needed}
use Rattle.rules.specs.Values.{function_in}
use Rattle.rules.specs.Program.{Limits, Name, Opnd, Insn, Static, Send, GetIvar, SetIvar}
use Rattle.rules.specs.Reading.{Parser, Reads, with_env, the_env, bind, push, named, is_fixed, meaning, constant_of}

-- question 9
abbrev pub myself : Reads Opnd
myself = do
  o ← the (λ (r : Parser). r.self)
  i ← needed 9 o
  give (Insn i)

-- behind `@` and a name
unfoldable pub sets_ivar : Limits → Name → Opnd → Reads Opnd
sets_ivar L n v = do
  o ← myself
  push L (SetIvar n o v)

unfoldable pub gets_ivar : Limits → Name → Reads Opnd
gets_ivar L n = do
  o ← myself
  push L (GetIvar n o)

-- behind the right side of an assignment
unfoldable pub assigns : Name → Opnd → Reads Opnd
assigns n v = do
  ask 7 (not (is_fixed n))
  e ← the_env
  change (with_env (bind n v e))
  give v

-- a name for its value
unfoldable pub means : Name → Reads Opnd
means n = do
  o ← the (meaning n)
  needed 6 o

-- behind the arguments of a bare call
unfoldable pub calls : Limits → Opnd → List Opnd → Reads Opnd
calls L v l = do
  f ← needed 8 (constant_of function_in v)
  push L (Send (Static f) l)

-- behind `.` and a name without parentheses
unfoldable pub reads_attr : Limits → Opnd → Name → Reads Opnd
reads_attr L v n = do
  ask 8 (not (named n "new"))
  push L (GetIvar n v)

-- the operator that a sign is, and how tightly one on its right side has to bind; none where it binds less tightly than prec itself
abbrev pub weigh : Arith → ℕ → ℕ → ℕ → Option (Arith × ℕ)
weigh o n right prec = cond (ltb n prec) None (Some (o, right))

unfoldable pub operator_of : ℕ → ℕ → Option (Arith × ℕ)
operator_of k prec =
    cond (eqb k 60) (weigh Less 0 1 prec)
    (cond (eqb k 43) (weigh Add 1 1 prec)
    (cond (eqb k 45) (weigh Sub 1 2 prec)
    (cond (eqb k 42) (weigh Mul 3 3 prec)
    None)))
