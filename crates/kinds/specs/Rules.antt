-- Add, Sub, Mul and LessThan on kinds, and the arms of a choice (01, "The analysis"; Sub: 02, order 1). Assumes nothing.
use Rattle.std.specs.Prelude.{Bool as 𝔹, true, false, cond, ◌||◌, ℤ, ◌+ℤ◌, ◌-ℤ◌, ◌*ℤ◌, Option, Some, None, Ok, Err}
use Rattle.std.specs.Bool.{beq}
use Rattle.std.specs.Int.Signed.{lt_z}
use Rattle.numbers.specs.Numbers.{fit_within}
use Rattle.kinds.specs.declared.Kind.{Kind}
use Rattle.kinds.specs.declared.Kind.TheVariants.{Empty, Nil, Num, Truth, Fun, Class, Int, Bool, Objects, Any}
use Rattle.kinds.specs.declared.Arith.{Arith}
use Rattle.kinds.specs.declared.Arith.TheVariants.{Add, Sub, Mul, Less}
use Rattle.kinds.specs.Kinds.{is_empty, same_kind}
use Rattle.kinds.specs.Union.{Joined, union_of, lub}

-- the number that a kind knows
abbrev pub known_in : Kind → Option ℤ
known_in Empty = None
known_in Nil = None
known_in (Num n) = Some n
known_in (Truth t) = None
known_in (Fun f) = None
known_in (Class c) = None
known_in Int = None
known_in Bool = None
known_in (Objects s) = None
known_in Any = None

-- a result as a kind: Int where it leaves i64
abbrev pub kind_of : Option ℤ → Kind
kind_of (Some z) = Num z
kind_of None = Int

-- of two known numbers, as integers
unfoldable pub result_of : Arith → ℤ → ℤ → Kind
result_of Add m n = kind_of (fit_within 63 (m +ℤ n))
result_of Sub m n = kind_of (fit_within 63 (m -ℤ n))
result_of Mul m n = kind_of (fit_within 63 (m *ℤ n))
result_of Less m n = Truth (lt_z m n)

-- of two numbers that are not both known
abbrev pub wide_of : Arith → Kind
wide_of Add = Int
wide_of Sub = Int
wide_of Mul = Int
wide_of Less = Bool

-- where not both are known, by their union: of Int the wide result, else Any
unfoldable pub by_union : Arith → Kind → Kind
by_union o u = cond (same_kind u Int) (wide_of o) Any

-- the same with the union's refusal
abbrev pub by_unions : Arith → Joined → Joined
by_unions o (Ok u) = Ok (by_union o u)
by_unions o (Err e) = Err e

-- by two known numbers, or else a given answer
abbrev pub both : {A : Type 0} → (ℤ → ℤ → A) → A → Option ℤ → Option ℤ → A
both f d (Some m) (Some n) = f m n
both f d (Some m) None = d
both f d None y = d

-- the rule of an operation, with its refusals: an operand that is Empty gives Empty, then two known numbers count, then the union
unfoldable pub arith_of : Arith → Kind → Kind → Joined
arith_of o a b =
    cond (is_empty a || is_empty b) (Ok Empty)
    (both (λ m n. Ok (result_of o m n)) (by_unions o (union_of a b)) (known_in a) (known_in b))

-- the rule without refusals: names count as kinds below Any alone
unfoldable pub arith_total : Arith → Kind → Kind → Kind
arith_total o a b =
    cond (is_empty a || is_empty b) Empty (both (result_of o) (by_union o (lub a b)) (known_in a) (known_in b))

-- the arms of a choice: Empty opens neither, a known truth its own, every other kind both. `arm` is true for the then arm
abbrev pub admits : 𝔹 → Kind → 𝔹
admits arm Empty = false
admits arm Nil = true
admits arm (Num n) = true
admits arm (Truth t) = beq t arm
admits arm (Fun f) = true
admits arm (Class c) = true
admits arm Int = true
admits arm Bool = true
admits arm (Objects s) = true
admits arm Any = true
