-- The users' table holds the uses of every program within 01's limits, and the record of an analysis is legal. Assumes nothing.
use mathlib.Core.Bool.{Bool as 𝔹, true, false, ◌&&◌, ◌||◌}
use mathlib.Core.Path.{◌≡◌, refl, ap, ap₂, ◌∙◌}
use mathlib.Core.List.{List, [], ◌∷◌, ◌++◌}
use Prim.Native.Nat.{ℕ, zero, suc, ◌+◌, ◌-◌, ◌*◌, ◌≤◌, ◌<◌}
use native.Mathlib.Decide.{ℕ_discrete, dec_lt}
use native.Mathlib.Nat.{not-suc-le-zero, le_of_suc-le-suc}
use native.Mathlib.Omega.{arith}
use lib.Dec.{eqb, leb}
use lib.ListN.{length, get_or, length-append, get_or-append}
use lib.Seq.{get_or-append-add}
use borrow.Author.Tests.{leb-true, ne_eqb}
use Rattle.kinds.specs.declared.Kind.TheVariants.{Empty}
use Rattle.kinds.specs.Kinds.{bit_of, fits_of}
use Rattle.rules.specs.Lists.{cons_if, any, all, sum, places_from, concat}
use Rattle.rules.specs.Program.{limits, Opnd, Const, Insn, Jump, IfTrue, Return, Static, Dynamic, Op, Ends, Send, Compute, Phi, Param, SelfParam, New, GetIvar, SetIvar, Instruction, Class, Program}
use Rattle.rules.specs.Program.{same_opnd, about, listed_count}
use Rattle.rules.specs.Finished.{within_limits}
use Rattle.rules.specs.Machine.{State}
use Rattle.rules.specs.Uses.{uses}
use Rattle.rules.proofs.Exactness.Sums.{sum_le}
use Rattle.answer.specs.Record.{Legal, Shaped, users_from, answer_record}

-- ---- sums

-- g of n numbers from i on, added up
sum_from : (ℕ → ℕ) → ℕ → ℕ → ℕ
sum_from g i zero = 0
sum_from g i (suc n) = g i + sum_from g (suc i) n

sum-none : (i n : ℕ) → sum_from (λ j. 0) i n ≡ 0
unfolding sum_from
sum-none i zero = refl
sum-none i (suc n) = omega (arith, sum-none (suc i) n)

sum_both : (g h : ℕ → ℕ) (i n : ℕ) → sum_from (λ j. g j + h j) i n ≡ sum_from g i n + sum_from h i n
unfolding sum_from
sum_both g h i zero = omega arith
sum_both g h i (suc n) = omega (arith, sum_both g h (suc i) n)

sum_less : (g h : ℕ → ℕ) (i n : ℕ) → ((j : ℕ) → g j ≤ h j) → sum_from g i n ≤ sum_from h i n
unfolding sum_from
sum_less g h i zero le = omega arith
sum_less g h i (suc n) le = omega (arith, le i, sum_less g h (suc i) n le)

module _ {A : Type 0} where
  -- rows and columns
  sum_swap : (h : ℕ → A → ℕ) (l : List A) (i n : ℕ) → sum_from (λ j. sum (h j) l) i n ≡ sum (λ x. sum_from (λ j. h j x) i n) l
  sum_swap h [] i n = sum-none i n
  sum_swap h (x ∷ l) i n = sum_both (λ j. h j x) (λ j. sum (h j) l) i n ∙ ap (λ (z : ℕ). sum_from (λ j. h j x) i n + z) (sum_swap h l i n)

  sum-under : (g h : A → ℕ) (l : List A) → ((x : A) → g x ≤ h x + 2) → sum g l ≤ sum h l + 2 * length l
  sum-under g h [] le = omega arith
  sum-under g h (x ∷ l) le = omega (arith, le x, sum-under g h l le)

  places_count : (k : ℕ) (f : A → 𝔹) (l : List A) → length (places_from k f l) ≡ sum (λ x. bit_of (f x)) l
  places_count k f [] = refl
  places_count k f (x ∷ l) = go (f x) (places_count (suc k) f l)
    where
      go : (b : 𝔹) → length (places_from (suc k) f l) ≡ sum (λ x. bit_of (f x)) l
          → length (cons_if b k (places_from (suc k) f l)) ≡ bit_of b + sum (λ x. bit_of (f x)) l
      go true e = omega arith
      go false e = omega arith

  places-below : (k : ℕ) (f : A → 𝔹) (l : List A) (j : ℕ) → j < length (places_from k f l) → get_or (places_from k f l) j 0 < k + length l
  places-below k f [] j h = absurd (not-suc-le-zero h)
  places-below k f (x ∷ l) j h = go (f x) j h (places-below (suc k) f l)
    where
      go : (b : 𝔹) (j : ℕ) → j < length (cons_if b k (places_from (suc k) f l)) → ((j : ℕ) → j < length (places_from (suc k) f l) → get_or (places_from (suc k) f l) j 0 < suc k + length l)
          → get_or (cons_if b k (places_from (suc k) f l)) j 0 < k + suc (length l)
      go true zero h rest = omega arith
      go true (suc j) h rest = omega (arith, rest j (le_of_suc-le-suc h))
      go false j h rest = omega (arith, rest j h)

-- ---- an instruction is one operand's at most

bit_most : (b : 𝔹) → bit_of b ≤ 1
bit_most true = omega arith
bit_most false = omega arith

hit_past : (m i n : ℕ) → m < i → sum_from (λ j. bit_of (eqb j m)) i n ≡ 0
unfolding sum_from
hit_past m i zero h = refl
hit_past m i (suc n) h = rw (ne_eqb i m (λ e. omega arith)) (omega (arith, hit_past m (suc i) n (omega arith)))

hit_one : (m i n : ℕ) → sum_from (λ j. bit_of (eqb j m)) i n ≤ 1
unfolding sum_from
hit_one m i zero = omega arith
hit_one m i (suc n) = go (ℕ_discrete i m) (hit_one m (suc i) n)
  where
    go : Dec (i ≡ m) → sum_from (λ j. bit_of (eqb j m)) (suc i) n ≤ 1 → sum_from (λ j. bit_of (eqb j m)) i (suc n) ≤ 1
    go (yes e) rest = omega (arith, hit_past m (suc i) n (omega arith), bit_most (eqb i m))
    go (no e) rest = rw (ne_eqb i m e) (omega arith)

hits : (o : Opnd) (i n : ℕ) → sum_from (λ j. bit_of (same_opnd (Insn j) o)) i n ≤ 1
hits (Const k) i n = omega (arith, sum-none i n)
hits (Insn m) i n = hit_one m i n

either_bit : (a b : 𝔹) → bit_of (a || b) ≤ bit_of a + bit_of b
either_bit true b = omega arith
either_bit false b = omega arith

-- the instructions that an instruction uses are no more than its operands
used_most : (l : List Opnd) (i n : ℕ) → sum_from (λ j. bit_of (any (same_opnd (Insn j)) l)) i n ≤ length l
used_most [] i n = omega (arith, sum-none i n)
used_most (o ∷ l) i n =
    omega (
      arith,
      sum_less (λ j. bit_of (same_opnd (Insn j) o || any (same_opnd (Insn j)) l)) (λ j. bit_of (same_opnd (Insn j) o) + bit_of (any (same_opnd (Insn j)) l)) i n
          (λ j. either_bit (same_opnd (Insn j) o) (any (same_opnd (Insn j)) l)),
      sum_both (λ j. bit_of (same_opnd (Insn j) o)) (λ j. bit_of (any (same_opnd (Insn j)) l)) i n,
      hits o i n,
      used_most l i n,
    )

-- at most two operands are neither call arguments nor join operands
two_more : (o : Op) → length (about o).operands ≤ length (about o).listed + 2
two_more (Ends (Jump b)) = omega arith
two_more (Ends (IfTrue v t e)) = omega arith
two_more (Ends (Return v)) = omega arith
two_more (Send (Static f) l) = omega arith
two_more (Send (Dynamic r n) l) = omega arith
two_more (Compute a v w) = omega arith
two_more (Phi b v c w) = omega arith
two_more (Param n) = omega arith
two_more (SelfParam c) = omega arith
two_more (New c) = omega arith
two_more (GetIvar n r) = omega arith
two_more (SetIvar n r v) = omega arith

-- ---- all uses

module _ (p : Program) where
  pub users-length : (i n : ℕ) → length (users_from p i n) ≡ n
  users-length i zero = refl
  users-length i (suc n) = ap suc (users-length (suc i) n)

  users-total : (i n : ℕ) → length (concat (users_from p i n)) ≡ sum_from (λ j. sum (λ (x : Instruction). bit_of (any (same_opnd (Insn j)) (about x.op).operands)) p.instructions) i n
  unfolding sum_from uses
  users-total i zero = refl
  users-total i (suc n) =
      length-append (uses p i) (concat (users_from p (suc i) n))
      ∙ ap₂ ◌+◌ (places_count 0 (λ (x : Instruction). any (same_opnd (Insn i)) (about x.op).operands) p.instructions) (users-total (suc i) n)

  users-small : (i n j : ℕ) → j < length (concat (users_from p i n)) → get_or (concat (users_from p i n)) j 0 < length p.instructions
  unfolding uses
  users-small i zero j h = absurd (not-suc-le-zero h)
  users-small i (suc n) j h = go (dec_lt j (length us)) (users-small (suc i) n)
    where
      us : List ℕ
      us = uses p i

      rest : List ℕ
      rest = concat (users_from p (suc i) n)

      go : Dec (j < length us) → ((m : ℕ) → m < length rest → get_or rest m 0 < length p.instructions) → get_or (us ++ rest) j 0 < length p.instructions
      go (yes lt) k = rw (get_or-append us rest 0 j lt) (omega (arith, places-below 0 _ p.instructions j lt))
      go (no ge) k =
          let m = j - length us in
          let e : j ≡ length us + m = omega arith in
          let l : m < length rest = omega (arith, simp length-append at h) in
          rw (ap (λ (x : ℕ). get_or (us ++ rest) x 0) e, get_or-append-add us rest m 0) (k m l)

  -- the users' table has room
  pub uses-fit : (n : ℕ) → length (concat (users_from p 0 n)) ≤ listed_count p + 2 * length p.instructions
  unfolding listed_count
  uses-fit n =
      let h : ℕ → Instruction → ℕ = λ j x. bit_of (any (same_opnd (Insn j)) (about x.op).operands) in
      omega (
        arith,
        users-total 0 n,
        sum_swap h p.instructions 0 n,
        sum_le (λ (x : Instruction). sum_from (λ j. h j x) 0 n) (λ (x : Instruction). length (about x.op).operands) p.instructions (λ x. used_most (about x.op).operands 0 n),
        sum-under (λ (x : Instruction). length (about x.op).operands) (λ (x : Instruction). length (about x.op).listed) p.instructions (λ x. two_more x.op),
      )

  -- ---- the limits

  never : {A : Type 0} → false ≡ true → A
  never h = let z : ◌≡◌ {A = ℕ} 0 1 = cc in absurd (omega arith)

  all_hold : (f c b i o v : 𝔹) → (f && c && b && i && o && v) ≡ true → (f ≡ true) × (b ≡ true) × (i ≡ true) × (o ≡ true)
  all_hold false c b i o v h = never h
  all_hold true false b i o v h = never h
  all_hold true true false i o v h = never h
  all_hold true true true false o v h = never h
  all_hold true true true true false v h = never h
  all_hold true true true true true v h = (refl, refl, refl, refl)

  -- a program within the limits, and a state that goes with it, have a legal record
  pub legal : (s : State) → within_limits p limits ≡ true → Shaped p s
      → ((f : ℕ) → f < length s.called_by → length (get_or s.called_by f []) ≡ length s.kinds)
      → ((i : ℕ) → i < length s.kinds → fits_of (get_or s.kinds i Empty) ≡ true)
      → Legal (answer_record p s)
  unfolding within_limits
  legal s lim sh rows fits =
      let x = all_hold (leb (length p.functions) limits.functions) (leb (length p.classes) limits.classes) (leb (length p.blocks) limits.blocks)
      (leb (length p.instructions) limits.instructions) (leb (listed_count p) limits.operands)
      (all (λ (c : Class). leb (length c.ivars) limits.ivars) p.classes) lim in
      let fs = leb-true (length p.functions) limits.functions x.0 in
      let bs = leb-true (length p.blocks) limits.blocks x.1 in
      let is = leb-true (length p.instructions) limits.instructions x.2 in
      let os = leb-true (listed_count p) limits.operands x.3 in
      record {
        functions = omega (arith, sh.functions, fs);
        blocks = omega (arith, sh.blocks, bs);
        instructions = omega (arith, sh.instructions, is);
        lists = users-length 0 (length s.kinds);
        uses = omega (arith, uses-fit (length s.kinds), is, os);
        numbers = λ j h. omega (arith, users-small 0 (length s.kinds) j h, sh.instructions);
        rows = rows;
        fits = fits;
      }
