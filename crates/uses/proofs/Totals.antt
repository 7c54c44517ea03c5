-- The users by the rules, and how many there are. Assumes nothing.
use mathlib.Core.Bool.{Bool as 𝔹, true, false, cond, ◌||◌}
use mathlib.Core.Path.{◌≡◌, refl, sym, ap, ap₂, ◌∙◌}
use mathlib.Core.List.{List, [], ◌∷◌, map}
use mathlib.Core.Logic.{◌⊎◌, inl, inr}
use Prim.Native.Nat.{ℕ, zero, suc, ◌+◌, ◌*◌, ◌≤◌, ◌<◌, min}
use native.Mathlib.Decide.{ℕ_discrete}
use native.Mathlib.Numerals.{add-one}
use native.Mathlib.Omega.{arith}
use borrow.Author.Tests.{eq-eqb, ne_eqb}
use lib.Dec.{eqb}
use lib.ListN.{length, get_or, take, drop, length-drop, length-map}
use lib.Seq.{take_all}
use Rattle.kinds.specs.declared.Kind.TheVariants.{Nil}
use Rattle.rules.specs.Lists.{any, cons_if, sum}
use Rattle.rules.specs.Program as P
use Rattle.rules.specs.Program.{listed_count}
use Rattle.rules.specs.Uses.{uses}
use Rattle.rules.proofs.Wellformed.Tables.{sum_snoc}
use Rattle.program.specs.Tab.{tab}
use Rattle.program.specs.Rows.{opnds_in, opnd_at, opnd_of, op_in, insn_at, instruction_at}
use Rattle.program.specs.View.{program_view, ProgramReady, instructions_of}
use Rattle.program.specs.declared.Counts.{Counts}
use Rattle.program.specs.declared.Op.{Op}
use Rattle.program.specs.declared.Op.TheVariants.{Jump, IfTrue, Return, SendStatic, SendDynamic, Compute, Phi, Param, SelfParam, New, GetIvar, SetIvar}
use Rattle.program.specs.declared.Opnd.{Opnd}
use Rattle.program.specs.declared.Opnd.TheVariants.{Const, Insn}
use Rattle.program.proofs.Tables.{tab-length, tab-take}
use Rattle.program.proofs.Areas.{opnds-length}
use Rattle.chains.specs.Chains.{pick}
use Rattle.chains.proofs.Lists.{pick_ext, places-tab}
use Rattle.memory.specs.Layout.{uses_most}
use Rattle.program.specs.Layout.{opnds_at}
use Rattle.uses.specs.Users.{most_of, used_at, sum_to, used_to, names, names_to, uses_at, users_of, users_to}

-- ---- the operands of an instruction

pub same_names : (j : ℕ) (o : Opnd) → P.same_opnd (P.Insn j) (opnd_of o) ≡ names j o
same_names j (Const k) = refl
same_names j (Insn i) = refl

any-names : (j : ℕ) (l : List Opnd) → any (P.same_opnd (P.Insn j)) (map opnd_of l) ≡ any (names j) l
any-names j [] = refl
any-names j (o ∷ l) = ap₂ {C = 𝔹} (λ a b. a || b) (same_names j o) (any-names j l)

one_name : (j : ℕ) (l : List Opnd) → (P.same_opnd (P.Insn j) (get_or (map opnd_of l) 0 (P.Const Nil)) || false) ≡ any (names j) (take 1 l)
one_name j [] = refl
one_name j (o ∷ l) = rw (same_names j o)

two_names : (j : ℕ) (l : List Opnd) → (P.same_opnd (P.Insn j) (get_or (map opnd_of l) 0 (P.Const Nil))
    || (P.same_opnd (P.Insn j) (get_or (map opnd_of l) 1 (P.Const Nil)) || false))
    ≡ any (names j) (take 2 l)
two_names j [] = refl
two_names j (o ∷ []) = rw (same_names j o)
two_names j (o ∷ p ∷ l) = rw (same_names j o, same_names j p)

all-names : (j : ℕ) (l : List Opnd) → length l ≤ uses_most → any (P.same_opnd (P.Insn j)) (map opnd_of l) ≡ any (names j) (take uses_most l)
all-names j l h = any-names j l ∙ ap (any (names j)) (sym (take_all uses_most l h))

call-names : (j : ℕ) (l : List Opnd) → length l ≤ uses_most
    → (P.same_opnd (P.Insn j) (get_or (map opnd_of l) 0 (P.Const Nil)) || any (P.same_opnd (P.Insn j)) (drop 1 (map opnd_of l))) ≡ any (names j) (take uses_most l)
call-names j [] h = refl
call-names j (o ∷ l) h = all-names j (o ∷ l) h

used_names : (s : List ℕ) (j : ℕ) (o : Op) (l : List Opnd) → length l ≤ uses_most → any (P.same_opnd (P.Insn j)) (P.about (op_in s o (map opnd_of l))).operands ≡ any (names j) (take (most_of o) l)
used_names s j (Jump b) l h = refl
used_names s j (IfTrue b e) l h = one_name j l
used_names s j Return l h = one_name j l
used_names s j (SendStatic f) l h = all-names j l h
used_names s j (SendDynamic n) l h = call-names j l h
used_names s j (Compute o) l h = two_names j l
used_names s j (Phi b e) l h = two_names j l
used_names s j (Param n) l h = refl
used_names s j (SelfParam c) l h = refl
used_names s j (New c) l h = refl
used_names s j (GetIvar n) l h = one_name j l
used_names s j (SetIvar n) l h = two_names j l

opnds-take : (m : List ℕ) (a n k : ℕ) → take k (opnds_in m a n) ≡ opnds_in m a (min n k)
unfolding opnds_in
opnds-take m a n k = go (less k n)
  where
    less : (a b : ℕ) → (a ≤ b) ⊎ (b ≤ a)
    less a b = elim (native.Mathlib.Decide.dec_le a b) [ yes h ↦ inl h | no h ↦ inr (omega arith) ]

    go : (k ≤ n) ⊎ (n ≤ k) → take k (tab (λ j. opnd_at m (a + 2 * j)) n) ≡ tab (λ j. opnd_at m (a + 2 * j)) (min n k)
    go (inl h) = let e : min n k ≡ k = omega arith in rw e (tab-take (λ j. opnd_at m (a + 2 * j)) n k h)
    go (inr h) = let e : min n k ≡ n = omega arith in rw e (take_all k _ (omega (arith, tab-length (λ j. opnd_at m (a + 2 * j)) n)))

module _ {m : List ℕ} {c : Counts} (ok : ProgramReady m c) where
  few-opnds : (i : ℕ) → i < c.insns → (insn_at m i).count ≤ uses_most
  few-opnds i h = omega (arith, ok.ranges i h, ok.opnds, ok.listed, ok.insns)

  test_is : (s : List ℕ) (i j : ℕ) → i < c.insns → any (P.same_opnd (P.Insn j)) (P.about (instruction_at s m i).op).operands ≡ uses_at m j i
  unfolding instruction_at uses_at names_to used_at
  test_is s i j h =
      used_names s j (insn_at m i).op (opnds_in m (opnds_at + 2 * (insn_at m i).first) (insn_at m i).count)
      (omega (arith, opnds-length m (opnds_at + 2 * (insn_at m i).first) (insn_at m i).count, few-opnds i h))
      ∙ ap (any (names j)) (opnds-take m (opnds_at + 2 * (insn_at m i).first) (insn_at m i).count (most_of (insn_at m i).op))

  pub uses-is : (s : List ℕ) (j : ℕ) → uses (program_view s m c) j ≡ users_of m c.insns j
  unfolding uses instructions_of
  uses-is s j =
      places-tab (λ (x : P.Instruction). any (P.same_opnd (P.Insn j)) (P.about x.op).operands) (instruction_at s m) c.insns
      ∙ pick_ext _ _ 0 c.insns (λ i h. test_is s i j (omega arith))

-- ---- how many operands are used

listed-all : (s : List ℕ) (o : Op) (l : List Opnd) → min (length l) (most_of o) ≤ length (P.about (op_in s o (map opnd_of l))).listed + 2
listed-all s (Jump b) l = omega arith
listed-all s (IfTrue b e) l = omega arith
listed-all s Return l = omega arith
listed-all s (SendStatic f) l = omega (arith, length-map l opnd_of)
listed-all s (SendDynamic n) l = omega (arith, length-map l opnd_of, length-drop 1 (map opnd_of l))
listed-all s (Compute o) l = omega arith
listed-all s (Phi b e) l = omega arith
listed-all s (Param n) l = omega arith
listed-all s (SelfParam c) l = omega arith
listed-all s (New c) l = omega arith
listed-all s (GetIvar n) l = omega arith
listed-all s (SetIvar n) l = omega arith

abbrev listed : P.Instruction → ℕ
listed x = length (P.about x.op).listed

used_listed : (s m : List ℕ) (i : ℕ) → used_at m i ≤ listed (instruction_at s m i) + 2
unfolding instruction_at used_at
used_listed s m i =
    let a = listed-all s (insn_at m i).op (opnds_in m (opnds_at + 2 * (insn_at m i).first) (insn_at m i).count) in
    let e = opnds-length m (opnds_at + 2 * (insn_at m i).first) (insn_at m i).count in
    rw e at a

used_few : (s m : List ℕ) (n : ℕ) → used_to m n ≤ sum listed (instructions_of s m n) + 2 * n
unfolding sum_to instructions_of tab
used_few s m zero = omega arith
used_few s m (suc n) = omega (arith, used_few s m n, used_listed s m n, sum_snoc listed (tab (instruction_at s m) n) (instruction_at s m n))

pub used_room : {m : List ℕ} {c : Counts} → ProgramReady m c → used_to m c.insns ≤ uses_most
unfolding listed_count
used_room {m} {c} ok = omega (arith, used_few [] m c.insns, ok.listing [], ok.listed, ok.insns)

pub sum_more : (g : ℕ → ℕ) (k : ℕ) → sum_to g (k + 1) ≡ sum_to g k + g k
unfolding sum_to
sum_more g k = rw add-one

sum-suc : (g : ℕ → ℕ) (k : ℕ) → sum_to g (suc k) ≡ sum_to g k + g k
unfolding sum_to
sum-suc g k = refl

-- ---- how many users there are

sum_both : (f g h : ℕ → ℕ) (k : ℕ) → ((j : ℕ) → f j ≤ g j + h j) → sum_to f k ≤ sum_to g k + sum_to h k
unfolding sum_to
sum_both f g h zero e = omega arith
sum_both f g h (suc k) e = omega (arith, sum_both f g h k e, e k)

sum-zero : (k : ℕ) → sum_to (λ j. 0) k ≡ 0
unfolding sum_to
sum-zero zero = refl
sum-zero (suc k) = omega (arith, sum-zero k)

count-cons_if : (a : 𝔹) (k : ℕ) (l : List ℕ) → length (cons_if a k l) ≡ cond a 1 0 + length l
count-cons_if true k l = omega arith
count-cons_if false k l = omega arith

count-more : (t : ℕ → 𝔹) (k f : ℕ) → length (pick t k (suc f)) ≡ length (pick t k f) + cond (t (k + f)) 1 0
unfolding pick
count-more t k zero = let e : k + 0 ≡ k = omega arith in rw e (omega (arith, count-cons_if (t k) k []))
count-more t k (suc f) =
    let e : suc k + f ≡ k + suc f = omega arith in
    let a = ap {B = ℕ} (λ x. cond (t x) 1 0) e in
    omega (arith, count-cons_if (t k) k (pick t (suc k) (suc f)), count-cons_if (t k) k (pick t (suc k) f), count-more t (suc k) f, a)

either : (a b : 𝔹) → cond (a || b) 1 0 ≤ cond a 1 0 + cond b 1 0
either true true = omega arith
either true false = omega arith
either false b = omega arith

once : (t k : ℕ) → (sum_to (λ j. cond (eqb j t) 1 0) k ≤ 1) × (k ≤ t → sum_to (λ j. cond (eqb j t) 1 0) k ≡ 0)
unfolding sum_to
once t zero = (omega arith, λ h. refl)
once t (suc k) =
    let ih = once t k in
    elim (ℕ_discrete k t) [
      | yes q ↦ (rw (eq-eqb k t q) (omega (arith, ih.1 (omega arith))), λ h. absurd (omega arith))
      | no q ↦ (rw (ne_eqb k t q) (omega (arith, ih.0)), λ h. rw (ne_eqb k t q) (omega (arith, ih.1 (omega arith))))
    ]

name_once : (o : Opnd) (k : ℕ) → sum_to (λ j. cond (names j o) 1 0) k ≤ 1
name_once (Const x) k = omega (arith, sum-zero k)
name_once (Insn i) k = (once i.0 k).0

names-few : (l : List Opnd) (k : ℕ) → sum_to (λ j. cond (any (names j) l) 1 0) k ≤ length l
names-few [] k = omega (arith, sum-zero k)
names-few (o ∷ l) k =
    omega (
      arith,
      sum_both (λ j. cond (names j o || any (names j) l) 1 0) (λ j. cond (names j o) 1 0) (λ j. cond (any (names j) l) 1 0) k
          (λ j. either (names j o) (any (names j) l)),
      name_once o k,
      names-few l k,
    )

uses-few : (m : List ℕ) (i k : ℕ) → sum_to (λ j. cond (uses_at m j i) 1 0) k ≤ used_at m i
unfolding uses_at names_to
uses-few m i k = omega (arith, names-few (opnds_in m (opnds_at + 2 * (insn_at m i).first) (used_at m i)) k, opnds-length m (opnds_at + 2 * (insn_at m i).first) (used_at m i))

users-none : (m : List ℕ) (k : ℕ) → users_to m 0 k ≡ 0
unfolding pick
users-none m k = sum-zero k

users-few : (m : List ℕ) (n k : ℕ) → users_to m n k ≤ used_to m n
users-few m zero k = omega (arith, users-none m k)
users-few m (suc n) k =
    let z : 0 + n ≡ n = omega arith in
    let a = sum_both (λ j. length (users_of m (suc n) j)) (λ j. length (users_of m n j)) (λ j. cond (uses_at m j n) 1 0) k
    (λ j. omega (arith, count-more (uses_at m j) 0 n, ap {B = ℕ} (λ x. cond (uses_at m j x) 1 0) z)) in
    omega (arith, a, users-few m n k, uses-few m n k, sum-suc (used_at m) n)

pub users-room : {m : List ℕ} {c : Counts} → ProgramReady m c → (k : ℕ) → users_to m c.insns k ≤ uses_most
users-room {m} {c} ok k = omega (arith, users-few m c.insns k, used_room ok)

pub sum_mono : (g : ℕ → ℕ) (j k : ℕ) → j < k → sum_to g j + g j ≤ sum_to g k
unfolding sum_to
sum_mono g j zero h = absurd (omega arith)
sum_mono g j (suc k) h = elim (ℕ_discrete j k) [
  | yes q ↦ rw q (omega arith)
  | no q ↦ omega (arith, sum_mono g j k (omega arith))
]
