-- Names and their order, on plain values. Assumes nothing.
use Rattle.std.proofs.Common.{◌≡◌, ℕ, Bool, true, false, List, [], length, take, drop, min, refl, arith}
use Rattle.std.proofs.lemmas.Bool.Decides.{nat_tests}
use Rattle.std.proofs.lemmas.Cmp.{same_from_slice_cmp}
use Rattle.std.proofs.lemmas.List.{take_min}
use Rattle.std.specs.Ordering.{nat_cmp, is_lt, is_eq}
use Rattle.std.specs.declared.cmp.Ordering.{Ordering}
use Rattle.std.specs.Cmp.Lexicographic.{slice_cmp}
use Rattle.rules.specs.Lists.{same, precedes}
use Rattle.lexer.specs.Names.{name}

-- a test goes one way or the other
pub by_test : (P : Bool → Type 0) (t : Bool) → (t ≡ true → P true) → (t ≡ false → P false) → P t
by_test P true f g = f refl
by_test P false f g = g refl

pub name-is : (s : List ℕ) (a n : ℕ) {rest : List ℕ} {k : ℕ} → rest ≡ drop a s → k ≡ min n (length rest) → take k rest ≡ name s a n
unfolding name
name-is s a n e f = rw (f, take_min, e)

pub precedes-is : (x y : List ℕ) (o : Ordering) → o ≡ slice_cmp nat_cmp x y → is_lt o ≡ precedes x y
precedes-is = same_from_slice_cmp nat_cmp is_lt precedes refl (λ _ _. refl) (λ _ _. refl) (λ x y xs ys o h. grind (arith, nat_tests))

pub same-is : (x y : List ℕ) (o : Ordering) → o ≡ slice_cmp nat_cmp x y → is_eq o ≡ same x y
same-is = same_from_slice_cmp nat_cmp is_eq same refl (λ _ _. refl) (λ _ _. refl) (λ x y xs ys o h. grind (arith, nat_tests))

pub name-none : (s : List ℕ) (a : ℕ) → name s a 0 ≡ []
unfolding name
name-none s a = refl
