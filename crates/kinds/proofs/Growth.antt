-- What only grows with a kind: the arms that it admits, the classes of a set, and the results of arithmetic. Assumes nothing.
use mathlib.Core.Path.{◌≡◌, refl, sym, ap, ◌∙◌, subst}
use mathlib.Core.Logic.{◌⊎◌, inl, inr}
use mathlib.Core.Bool.{Bool as 𝔹, true, false, cond, ◌&&◌, ◌||◌, true≢false, false≢true}
use mathlib.Core.List.{Memᴰ}
use Prim.Native.Nat.{ℕ}
use native.Mathlib.Omega.{arith}
use Rattle.std.specs.Prelude.{Option, Some, None, Ok, Err}
use lib.IntN.{ℤ, ◌+ℤ◌, ◌-ℤ◌, ◌*ℤ◌}
use lib.Signed.{lt_z}
use lib.Bits.{bit_or, or_self}
use Rattle.ids.specs.Sets.{members_of}
use Rattle.ids.proofs.Bits.{Either, yes, no, either}
use Rattle.ids.proofs.Members.{members_or}
use Rattle.refusals.specs.declared.Refusal.{Refusal}
use Rattle.refusals.specs.declared.Refusal.TheVariants.{KindsClash}
use Rattle.numbers.specs.Numbers.{fit_within}
use Rattle.kinds.specs.declared.Kind.{Kind}
use Rattle.kinds.specs.declared.Kind.TheVariants.{Empty, Nil, Num, Truth, Fun, Class, Int, Bool, Objects, Any}
use Rattle.kinds.specs.declared.Arith.{Arith}
use Rattle.kinds.specs.declared.Arith.TheVariants.{Add, Sub, Mul, Less}
use Rattle.kinds.specs.Kinds.{same_kind, is_empty, is_number, is_truth}
use Rattle.kinds.specs.Union.{Joined, set_of, wide, is_alone, mix_of, lub, Below, clash, union_of}
use Rattle.kinds.specs.Rules.{known_in, kind_of, result_of, wide_of, by_union, by_unions, both, arith_of, arith_total, admits}
use Rattle.kinds.specs.Heights.{Good}
use Rattle.kinds.proofs.Same.{same_eq}
use Rattle.kinds.proofs.Steps.{mix_number}
use Rattle.kinds.proofs.Lub.{lub_mix, lub_empty_r, below-refl, below_empty, below-any}
use Rattle.kinds.proofs.Laws.{union-is, union-refused}

-- ---- what lies below a kind

below-nothing : (a : Kind) → Below a Empty → a ≡ Empty
below-nothing a e = sym (lub_empty_r a) ∙ e

below_truth : (a : Kind) (u : 𝔹) → Below a (Truth u) → (a ≡ Empty) ⊎ (a ≡ Truth u)
unfolding lub mix_of same_kind
below_truth Empty u e = inl refl
below_truth Nil u e = absurd (let z : ◌≡◌ {A = ℕ} 0 1 = cc e in omega arith)
below_truth (Num i) u e = absurd (let z : ◌≡◌ {A = ℕ} 0 1 = cc e in omega arith)
below_truth (Truth true) true e = inr refl
below_truth (Truth true) false e = absurd (let z : ◌≡◌ {A = ℕ} 0 1 = cc e in omega arith)
below_truth (Truth false) true e = absurd (let z : ◌≡◌ {A = ℕ} 0 1 = cc e in omega arith)
below_truth (Truth false) false e = inr refl
below_truth (Fun f) u e = absurd (let z : ◌≡◌ {A = ℕ} 0 1 = cc e in omega arith)
below_truth (Class c) u e = absurd (let z : ◌≡◌ {A = ℕ} 0 1 = cc e in omega arith)
below_truth Int u e = absurd (let z : ◌≡◌ {A = ℕ} 0 1 = cc e in omega arith)
below_truth Bool u e = absurd (let z : ◌≡◌ {A = ℕ} 0 1 = cc e in omega arith)
below_truth (Objects s) u e = absurd (let z : ◌≡◌ {A = ℕ} 0 1 = cc e in omega arith)
below_truth Any u e = absurd (let z : ◌≡◌ {A = ℕ} 0 1 = cc e in omega arith)

below_num : (a : Kind) (n : ℤ) → Below a (Num n) → (a ≡ Empty) ⊎ (a ≡ Num n)
unfolding lub mix_of same_kind
below_num Empty n e = inl refl
below_num Nil n e = absurd (let z : ◌≡◌ {A = ℕ} 0 1 = cc e in omega arith)
below_num (Num i) n e = go (either (same_kind (Num i) (Num n)))
  where
    go : Either (same_kind (Num i) (Num n)) → (Num i ≡ Empty) ⊎ (Num i ≡ Num n)
    go (yes p) = inr (same_eq (Num i) (Num n) p)
    go (no p) = inr (let h = mix_number (Num i) (Num n) refl p refl in let k = lub_mix (Num i) (Num n) refl refl in cc)
below_num (Truth t) n e = absurd (let z : ◌≡◌ {A = ℕ} 0 1 = cc e in omega arith)
below_num (Fun f) n e = absurd (let z : ◌≡◌ {A = ℕ} 0 1 = cc e in omega arith)
below_num (Class c) n e = absurd (let z : ◌≡◌ {A = ℕ} 0 1 = cc e in omega arith)
below_num Int n e = absurd (let z : ◌≡◌ {A = ℕ} 0 1 = cc e in omega arith)
below_num Bool n e = absurd (let z : ◌≡◌ {A = ℕ} 0 1 = cc e in omega arith)
below_num (Objects s) n e = absurd (let z : ◌≡◌ {A = ℕ} 0 1 = cc e in omega arith)
below_num Any n e = absurd (let z : ◌≡◌ {A = ℕ} 0 1 = cc e in omega arith)

-- ---- arms

-- the arms that a kind admits only grow with it
pub admits_mono : (arm : 𝔹) (a b : Kind) → Below a b → admits arm a ≡ true → admits arm b ≡ true
admits_mono arm a Empty e h = rw (below-nothing a e) at h
admits_mono arm a Nil e h = refl
admits_mono arm a (Num i) e h = refl
admits_mono arm a (Truth t) e h = go (below_truth a t e)
  where
    go : (a ≡ Empty) ⊎ (a ≡ Truth t) → admits arm (Truth t) ≡ true
    go (inl q) = absurd (false≢true (rw q at h))
    go (inr q) = rw q at h
admits_mono arm a (Fun f) e h = refl
admits_mono arm a (Class c) e h = refl
admits_mono arm a Int e h = refl
admits_mono arm a Bool e h = refl
admits_mono arm a (Objects s) e h = refl
admits_mono arm a Any e h = refl

-- ---- classes

-- above a set lie Any and the sets that have its members
pub objects_below : (s : ℕ) (b : Kind) → Below (Objects s) b → (b ≡ Any) ⊎ ((t : ℕ) × (b ≡ Objects t) × (bit_or s t ≡ t))
unfolding lub mix_of same_kind
objects_below s Empty e = absurd (let z : ◌≡◌ {A = ℕ} 0 1 = cc e in omega arith)
objects_below s Nil e = absurd (let z : ◌≡◌ {A = ℕ} 0 1 = cc e in omega arith)
objects_below s (Num i) e = absurd (let z : ◌≡◌ {A = ℕ} 0 1 = cc e in omega arith)
objects_below s (Truth true) e = absurd (let z : ◌≡◌ {A = ℕ} 0 1 = cc e in omega arith)
objects_below s (Truth false) e = absurd (let z : ◌≡◌ {A = ℕ} 0 1 = cc e in omega arith)
objects_below s (Fun f) e = absurd (let z : ◌≡◌ {A = ℕ} 0 1 = cc e in omega arith)
objects_below s (Class c) e = absurd (let z : ◌≡◌ {A = ℕ} 0 1 = cc e in omega arith)
objects_below s Int e = absurd (let z : ◌≡◌ {A = ℕ} 0 1 = cc e in omega arith)
objects_below s Bool e = absurd (let z : ◌≡◌ {A = ℕ} 0 1 = cc e in omega arith)
objects_below s (Objects t) e = inr (t, refl, go (either (same_kind (Objects s) (Objects t))))
  where
    go : Either (same_kind (Objects s) (Objects t)) → bit_or s t ≡ t
    go (yes p) = let q = same_eq (Objects s) (Objects t) p in let h : s ≡ t = cc q in ap (λ (x : ℕ). bit_or x t) h ∙ or_self t
    go (no p) = let h : Objects (bit_or s t) ≡ Objects t = sym (rw p) ∙ e in cc h
objects_below s Any e = inl refl

pub objects_members : (s t c : ℕ) → Below (Objects s) (Objects t) → Memᴰ c (members_of s) → Memᴰ c (members_of t)
objects_members s t c e m = go (objects_below s (Objects t) e)
  where
    go : (Objects t ≡ Any) ⊎ ((u : ℕ) × (Objects t ≡ Objects u) × (bit_or s u ≡ u)) → Memᴰ c (members_of t)
    go (inl q) = absurd (let z : ◌≡◌ {A = ℕ} 0 1 = cc q in omega arith)
    go (inr (u, q, h)) = let k : bit_or s u ≡ t = cc in subst (λ (x : ℕ). Memᴰ c (members_of x)) k (members_or s u c m)

-- ---- arithmetic

-- what a kind says of a number: nothing at all, which number, that it is one, or not even that
data Grade : Type 0 where
  nothing : Grade
  exact : ℤ → Grade
  some other : Grade

abbrev grade : Kind → Grade
grade Empty = nothing
grade Nil = other
grade (Num i) = exact i
grade (Truth t) = other
grade (Fun f) = other
grade (Class c) = other
grade Int = some
grade Bool = other
grade (Objects s) = other
grade Any = other

abbrev graded : Arith → Grade → Grade → Kind
graded o nothing h = Empty
graded o (exact m) nothing = Empty
graded o (exact m) (exact n) = result_of o m n
graded o (exact m) some = wide_of o
graded o (exact m) other = Any
graded o some nothing = Empty
graded o some (exact n) = wide_of o
graded o some some = wide_of o
graded o some other = Any
graded o other nothing = Empty
graded o other (exact n) = Any
graded o other some = Any
graded o other other = Any

data View : Kind → Type 0 where
  is_none : View Empty
  is_num : (n : ℤ) → View (Num n)
  is_int : View Int
  is-other : {k : Kind} → is_empty k ≡ false → is_number k ≡ false → known_in k ≡ None → grade k ≡ other → View k

view : (k : Kind) → View k
view Empty = is_none
view Nil = is-other refl refl refl refl
view (Num i) = is_num i
view (Truth t) = is-other refl refl refl refl
view (Fun f) = is-other refl refl refl refl
view (Class c) = is-other refl refl refl refl
view Int = is_int
view Bool = is-other refl refl refl refl
view (Objects s) = is-other refl refl refl refl
view Any = is-other refl refl refl refl

wide-not_int : (l t : 𝔹) (s : ℕ) → same_kind (wide l false t s) Int ≡ false
unfolding same_kind
wide-not_int true t s = refl
wide-not_int false true s = refl
wide-not_int false false s = refl

-- where one is no number the union is not Int
by_other : (o : Arith) (a b : Kind) → is_empty a ≡ false → is_empty b ≡ false → (is_number a && is_number b) ≡ false → by_union o (lub a b) ≡ Any
unfolding by_union mix_of
by_other o a b e f n = rw not_int
  where
    int_not : same_kind a b ≡ true → Either (same_kind a Int) → same_kind a Int ≡ false
    int_not p (no q) = q
    int_not p (yes q) =
        let k = same_eq a Int q in
        let h : b ≡ Int = sym (same_eq a b p) ∙ k in
        absurd (true≢false (rw (k, h) at n))

    go : Either (same_kind a b) → same_kind (mix_of a b) Int ≡ false
    go (yes p) = rw p (int_not p (either (same_kind a Int)))
    go (no p) = rw (p, n) (wide-not_int (is_alone a || is_alone b) (is_truth a && is_truth b) (bit_or (set_of a) (set_of b)))

    not_int : same_kind (lub a b) Int ≡ false
    not_int = ap (λ (k : Kind). same_kind k Int) (lub_mix a b e f) ∙ go (either (same_kind a b))

-- the rule by grades
num_int : (o : Arith) (m : ℤ) → by_union o (lub (Num m) Int) ≡ wide_of o
unfolding by_union lub mix_of same_kind
num_int o m = refl

int_num : (o : Arith) (n : ℤ) → by_union o (lub Int (Num n)) ≡ wide_of o
unfolding by_union lub mix_of same_kind
int_num o n = refl

int_int : (o : Arith) → by_union o (lub Int Int) ≡ wide_of o
unfolding by_union lub mix_of same_kind
int_int o = refl

total_grade : (o : Arith) (a b : Kind) → arith_total o a b ≡ graded o (grade a) (grade b)
unfolding arith_total
total_grade o a b = go (view a) (view b)
  where
    go : {a b : Kind} → View a → View b → arith_total o a b ≡ graded o (grade a) (grade b)
    go is_none w = refl
    go (is_num m) is_none = refl
    go (is_num m) (is_num n) = refl
    go (is_num m) is_int = num_int o m
    go {b = b} (is_num m) (is-other f n k g) = rw (f, k, g) (by_other o (Num m) b refl f n)
    go is_int is_none = refl
    go is_int (is_num n) = int_num o n
    go is_int is_int = int_int o
    go {b = b} is_int (is-other f n k g) = rw (f, g) (by_other o Int b refl f n)
    go (is-other e n k g) is_none = rw (e, g)
    go {a} (is-other e n k g) (is_num m) = rw (e, k, g) (by_other o a (Num m) e refl (rw n))
    go {a} (is-other e n k g) is_int = rw (e, k, g) (by_other o a Int e refl (rw n))
    go {a} {b} (is-other e n k g) (is-other f m l h) = rw (e, f, k, g, h) (by_other o a b e f (rw n))

-- the order of grades
data Under : Grade → Grade → Type 0 where
  low : {h : Grade} → Under nothing h
  high : {g : Grade} → Under g other
  same : {n : ℤ} → Under (exact n) (exact n)
  wider : {n : ℤ} → Under (exact n) some
  both_some : Under some some

below_int : (a : Kind) → Below a Int → Under (grade a) some
unfolding lub mix_of same_kind
below_int Empty e = low
below_int (Num n) e = wider
below_int Int e = both_some
below_int Nil e = absurd (let z : ◌≡◌ {A = ℕ} 0 1 = cc e in omega arith)
below_int (Truth true) e = absurd (let z : ◌≡◌ {A = ℕ} 0 1 = cc e in omega arith)
below_int (Truth false) e = absurd (let z : ◌≡◌ {A = ℕ} 0 1 = cc e in omega arith)
below_int (Fun f) e = absurd (let z : ◌≡◌ {A = ℕ} 0 1 = cc e in omega arith)
below_int (Class c) e = absurd (let z : ◌≡◌ {A = ℕ} 0 1 = cc e in omega arith)
below_int Bool e = absurd (let z : ◌≡◌ {A = ℕ} 0 1 = cc e in omega arith)
below_int (Objects s) e = absurd (let z : ◌≡◌ {A = ℕ} 0 1 = cc e in omega arith)
below_int Any e = absurd (let z : ◌≡◌ {A = ℕ} 0 1 = cc e in omega arith)

grade_mono : (a b : Kind) → Below a b → Under (grade a) (grade b)
grade_mono a Empty e = rw (below-nothing a e) low
grade_mono a (Num n) e = go (below_num a n e)
  where
    go : (a ≡ Empty) ⊎ (a ≡ Num n) → Under (grade a) (exact n)
    go (inl q) = rw q low
    go (inr q) = rw q same
grade_mono a Int e = below_int a e
grade_mono a Nil e = high
grade_mono a (Truth t) e = high
grade_mono a (Fun f) e = high
grade_mono a (Class c) e = high
grade_mono a Bool e = high
grade_mono a (Objects s) e = high
grade_mono a Any e = high

fit_int : (f : Option ℤ) → Below (kind_of f) Int
unfolding lub mix_of same_kind
fit_int (Some z) = refl
fit_int None = refl

truth_bool : (t : 𝔹) → Below (Truth t) Bool
unfolding lub mix_of same_kind
truth_bool true = refl
truth_bool false = refl

result_wide : (o : Arith) (m n : ℤ) → Below (result_of o m n) (wide_of o)
unfolding result_of
result_wide Add m n = fit_int (fit_within 63 (m +ℤ n))
result_wide Sub m n = fit_int (fit_within 63 (m -ℤ n))
result_wide Mul m n = fit_int (fit_within 63 (m *ℤ n))
result_wide Less m n = truth_bool (lt_z m n)

graded_none : (o : Arith) (g : Grade) → graded o g nothing ≡ Empty
graded_none o nothing = refl
graded_none o (exact n) = refl
graded_none o some = refl
graded_none o other = refl

graded_mono : (o : Arith) {g g' h h' : Grade} → Under g g' → Under h h' → Below (graded o g h) (graded o g' h')
graded_mono o {h' = h'} low q = below_empty _
graded_mono o {g} high low = rw (graded_none o g) (below_empty _)
graded_mono o high high = below-any _
graded_mono o high same = below-any _
graded_mono o high wider = below-any _
graded_mono o high both_some = below-any _
graded_mono o same low = below_empty _
graded_mono o same high = below-any _
graded_mono o same same = below-refl _
graded_mono o (same {n = m}) (wider {n = n}) = result_wide o m n
graded_mono o same both_some = below-refl _
graded_mono o wider low = below_empty _
graded_mono o wider high = below-any _
graded_mono o (wider {n = m}) (same {n = n}) = result_wide o m n
graded_mono o (wider {n = m}) (wider {n = n}) = result_wide o m n
graded_mono o wider both_some = below-refl _
graded_mono o both_some low = below_empty _
graded_mono o both_some high = below-any _
graded_mono o both_some same = below-refl _
graded_mono o both_some wider = below-refl _
graded_mono o both_some both_some = below-refl _

-- the result grows with the operands
pub total_mono : (o : Arith) (a b c d : Kind) → Below a b → Below c d → Below (arith_total o a c) (arith_total o b d)
total_mono o a b c d p q = rw (total_grade o a c, total_grade o b d) (graded_mono o (grade_mono a b p) (grade_mono c d q))

-- a result that is not refused is that of the rule without refusals
pub arith_is : (o : Arith) (a b u : Kind) → arith_of o a b ≡ Ok u → u ≡ arith_total o a b
unfolding arith_of arith_total
arith_is o a b u e = go (is_empty a || is_empty b) (known_in a) (known_in b) (union_of a b) refl e
  where
    go : (p : 𝔹) (x y : Option ℤ) (j : Joined) → union_of a b ≡ j → cond p (Ok Empty) (both (λ m n. Ok (result_of o m n)) (by_unions o j) x y) ≡ Ok u → u ≡ cond p Empty (both (result_of o) (by_union o (lub a b)) x y)
    go true x y j q e = cc
    go false (Some m) (Some n) j q e = cc
    go false (Some m) None (Ok v) q e = let h : u ≡ by_union o v = cc e in h ∙ ap (by_union o) (union-is a b v q)
    go false (Some m) None (Err n) q e = cc
    go false None y (Ok v) q e = let h : u ≡ by_union o v = cc e in h ∙ ap (by_union o) (union-is a b v q)
    go false None y (Err n) q e = cc

-- a refusal is of a name that clashes
pub arith-refused : (o : Arith) (a b : Kind) (r : Refusal) → arith_of o a b ≡ Err r → (r ≡ KindsClash) × (clash a b ≡ true)
unfolding arith_of
arith-refused o a b r e = go (is_empty a || is_empty b) (known_in a) (known_in b) (union_of a b) refl e
  where
    name : (m : Refusal) → union_of a b ≡ Err m → m ≡ r → (r ≡ KindsClash) × (clash a b ≡ true)
    name m q h = let c = union-refused a b m q in (sym h ∙ c.0, c.1)

    go : (p : 𝔹) (x y : Option ℤ) (j : Joined) → union_of a b ≡ j → cond p (Ok Empty) (both (λ m n. Ok (result_of o m n)) (by_unions o j) x y) ≡ Err r → (r ≡ KindsClash) × (clash a b ≡ true)
    go true x y j q e = absurd (let z : ◌≡◌ {A = ℕ} 0 1 = cc e in omega arith)
    go false (Some l) (Some m) j q e = absurd (let z : ◌≡◌ {A = ℕ} 0 1 = cc e in omega arith)
    go false (Some l) None (Ok v) q e = absurd (let z : ◌≡◌ {A = ℕ} 0 1 = cc e in omega arith)
    go false (Some l) None (Err m) q e = name m q (cc e)
    go false None y (Ok v) q e = absurd (let z : ◌≡◌ {A = ℕ} 0 1 = cc e in omega arith)
    go false None y (Err m) q e = name m q (cc e)

-- results of arithmetic can arise
pub total-good : (C : ℕ) (o : Arith) (a b : Kind) → Good C (arith_total o a b)
unfolding result_of
total-good C o a b = rw (total_grade o a b) (go (grade a) (grade b))
  where
    fits : (f : Option ℤ) → Good C (kind_of f)
    fits (Some z) = tt
    fits None = tt

    known : (o : Arith) (m n : ℤ) → Good C (result_of o m n)
    known Add m n = fits (fit_within 63 (m +ℤ n))
    known Sub m n = fits (fit_within 63 (m -ℤ n))
    known Mul m n = fits (fit_within 63 (m *ℤ n))
    known Less m n = tt

    wider : (o : Arith) → Good C (wide_of o)
    wider Add = tt
    wider Sub = tt
    wider Mul = tt
    wider Less = tt

    go : (g h : Grade) → Good C (graded o g h)
    go nothing h = tt
    go (exact m) nothing = tt
    go (exact m) (exact n) = known o m n
    go (exact m) some = wider o
    go (exact m) other = tt
    go some nothing = tt
    go some (exact n) = wider o
    go some some = wider o
    go some other = tt
    go other nothing = tt
    go other (exact n) = tt
    go other some = tt
    go other other = tt
