-- A number by its sign, and natural numbers that a width holds. Assumes nothing.
use Rattle.std.specs.Prelude.{cond, ℕ, ◌^◌, ltb, ℤ, pos, negsuc}

-- k, or -(k + 1)
pub data Sign : Type 0 where
  Up : ℕ → Sign
  Down : ℕ → Sign

-- a natural number, or that it is over the width
pub data Natural : Type 0 where
  Whole : ℕ → Natural
  Over : Natural

-- a number by its sign
abbrev pub sign_of : ℤ → Sign
sign_of (pos k) = Up k
sign_of (negsuc k) = Down k

abbrev pub value_of : Sign → ℤ
value_of (Up k) = pos k
value_of (Down k) = negsuc k

abbrev pub size_of : Sign → ℕ
size_of (Up k) = k
size_of (Down k) = k

-- -1 - s: the other sign with the same size
abbrev pub turned : Sign → Sign
turned (Up k) = Down k
turned (Down k) = Up k

-- a natural number, where w bits hold it
unfoldable pub whole_of : ℕ → ℕ → Natural
whole_of w x = cond (ltb x (2 ^ w)) (Whole x) Over
