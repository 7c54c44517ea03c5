-- Worked examples of the definitions. Assumes nothing.
use mathlib.Core.Path.{◌≡◌, refl}
use mathlib.Core.Bool.{true, false}
use mathlib.Core.List.{[], ◌∷◌}
use lib.IntN.{pos, negsuc}
use Rattle.std.specs.Prelude.{Ok, Err}
use Rattle.refusals.specs.declared.Refusal.TheVariants.{KindsClash}
use Rattle.numbers.specs.Numbers.{fit_within}
use Rattle.kinds.specs.declared.Kind.TheVariants.{Empty, Nil, Num, Truth, Fun, Int, Bool, Objects, Any}
use Rattle.kinds.specs.declared.Arith.TheVariants.{Add, Sub, Mul, Less}
use Rattle.kinds.specs.Kinds.{same_kind}
use Rattle.kinds.specs.Union.{mix_of, lub, union_of, union_all}
use Rattle.kinds.specs.Rules.{result_of, by_union, arith_of}

nil-and_int : union_of Nil Int ≡ Ok (Objects 3)
unfolding union_of lub mix_of same_kind
nil-and_int = refl

nil-and-true : union_of Nil (Truth true) ≡ Ok (Objects 5)
unfolding union_of lub mix_of same_kind
nil-and-true = refl

true-and-false : union_of (Truth true) (Truth false) ≡ Ok Bool
unfolding union_of lub mix_of same_kind
true-and-false = refl

set-and_bool : union_of (Objects 16) Bool ≡ Ok (Objects 28)
unfolding union_of lub mix_of same_kind
set-and_bool = refl

two_numbers : union_of (Num (pos 5)) (Num (negsuc 5)) ≡ Ok Int
unfolding union_of lub mix_of same_kind
two_numbers = refl

one_number : union_of (Num (negsuc 5)) (Num (negsuc 5)) ≡ Ok (Num (negsuc 5))
unfolding union_of lub mix_of same_kind
one_number = refl

name-again : union_of (Fun (record { 0 = 3 })) (Fun (record { 0 = 3 })) ≡ Err KindsClash
unfolding union_of lub mix_of same_kind
name-again = refl

-- the order counts: a name first meets a number, or Any
number-before-any : union_all Empty (Fun (record { 0 = 3 }) ∷ Int ∷ Any ∷ []) ≡ Err KindsClash
unfolding union_all union_of lub mix_of same_kind
number-before-any = refl

any-before-number : union_all Empty (Fun (record { 0 = 3 }) ∷ Any ∷ Int ∷ []) ≡ Ok Any
unfolding union_all union_of lub mix_of same_kind
any-before-number = refl

past_the_end : arith_of Add (Num (pos 9223372036854775807)) (Num (pos 1)) ≡ Ok Int
unfolding arith_of result_of fit_within
past_the_end = refl

least : arith_of Mul (Num (negsuc 4294967295)) (Num (pos 2147483648)) ≡ Ok (Num (negsuc 9223372036854775807))
unfolding arith_of result_of fit_within
least = refl

one_and-nil : arith_of Add (Num (pos 1)) Nil ≡ Ok Any
unfolding arith_of union_of lub mix_of same_kind by_union
one_and-nil = refl

less : arith_of Less (Num (negsuc 0)) (Num (pos 2)) ≡ Ok (Truth true)
unfolding arith_of result_of
less = refl

taking_away : arith_of Sub (Num (pos 1)) (Num (pos 3)) ≡ Ok (Num (negsuc 1))
unfolding arith_of result_of fit_within
taking_away = refl

-- the least number of 64 bits is known; what is below it, its opposite and its product with -1 are Int
least_away : arith_of Sub (Num (negsuc 9223372036854775806)) (Num (pos 1)) ≡ Ok (Num (negsuc 9223372036854775807))
unfolding arith_of result_of fit_within
least_away = refl

below_the_least : arith_of Sub (Num (negsuc 9223372036854775807)) (Num (pos 1)) ≡ Ok Int
unfolding arith_of result_of fit_within
below_the_least = refl

least_turned : arith_of Sub (Num (pos 0)) (Num (negsuc 9223372036854775807)) ≡ Ok Int
unfolding arith_of result_of fit_within
least_turned = refl

least_times_less_one : arith_of Mul (Num (negsuc 9223372036854775807)) (Num (negsuc 0)) ≡ Ok Int
unfolding arith_of result_of fit_within
least_times_less_one = refl

less_one : arith_of Less (Num (negsuc 0)) (Num (pos 0)) ≡ Ok (Truth true)
unfolding arith_of result_of
less_one = refl

nothing_away : arith_of Sub Empty (Fun (record { 0 = 3 })) ≡ Ok Empty
unfolding arith_of
nothing_away = refl

name_away : arith_of Sub (Num (pos 1)) (Fun (record { 0 = 3 })) ≡ Err KindsClash
unfolding arith_of union_of lub mix_of same_kind
name_away = refl

int_from_int : arith_of Sub Int Int ≡ Ok Int
unfolding arith_of union_of lub mix_of same_kind by_union
int_from_int = refl
