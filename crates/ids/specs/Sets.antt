-- A set of classes is a number with bit n for class n (document 01, "Kinds"). Class numbers are below 64, and a walk through a set
-- takes its members from the smallest up. Assumes nothing.
use Rattle.std.specs.Prelude.{cond, List, [], ◌∷◌, ℕ, zero, suc, ◌-◌, ◌/◌, ◌%◌, ◌^◌, eqb, Option, None, Some}
use Rattle.std.specs.Int.Bits.{bit_or}
use Rattle.std.specs.Int.Count.{count_trailing_zeros}
use Rattle.ids.specs.declared.ClassId.{ClassId}

-- the set of one class, and that of two
abbrev pub one_of : ℕ → ℕ
one_of c = 2 ^ c

abbrev pub two_of : ℕ → ℕ → ℕ
two_of c d = bit_or (one_of c) (one_of d)

-- i stands before the list where its bit is 1
abbrev pub keep : ℕ → ℕ → List ℕ → List ℕ
keep zero i l = l
keep (suc b) i l = i ∷ l

-- the members of s among the d numbers from i on, rising; bit 0 of s stands for i
unfoldable pub members_from : ℕ → ℕ → ℕ → List ℕ
members_from zero i s = []
members_from (suc d) i s = keep (s % 2) i (members_from d (suc i) (s / 2))

-- all members of a set, rising
unfoldable pub members_of : ℕ → List ℕ
members_of s = members_from 64 0 s

-- a step of the walk through a set of d bits: the smallest member, found by counting trailing zeros, and the set without it
abbrev pub next_in : ℕ → ℕ → Option (ClassId × ℕ)
next_in d s = cond (eqb s 0) None (Some (record { 0 = count_trailing_zeros d s }, s - 2 ^ count_trailing_zeros d s))

abbrev pub next_of : ℕ → Option (ClassId × ℕ)
next_of s = next_in 64 s
