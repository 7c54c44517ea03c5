-- The potential: what the entries that wait, and all that can still be put in, will cost at most. Assumes nothing.
use Prim.Native.Nat.{ℕ, suc, ◌+◌, ◌*◌, ◌-◌, ◌≤◌, ◌<◌}
use native.Mathlib.Omega.{arith}
use native.Mathlib.Nat.{mul-le-mul_right}
use mathlib.Core.Path.{◌≡◌, refl, subst}
use mathlib.Core.Logic.{◌⊎◌, inl, inr}
use mathlib.Core.Bool.{Bool as 𝔹, true, false, cond, false≢true}
use mathlib.Core.Option.{some}
use mathlib.Core.List.{List, [], ◌∷◌}
use lib.ListN.{length, get_or, set}
use lib.Seq.{get_or-set_same}
use Rattle.kinds.specs.declared.Kind.{Kind}
use Rattle.kinds.specs.declared.Kind.TheVariants.{Empty}
use Rattle.kinds.specs.Heights.{height_of}
use Rattle.rules.specs.Lists.{keep, has, sum, places, is_just_name}
use Rattle.rules.specs.Program.{Name, Jump, IfTrue, Return, Op, Ends, Send, Compute, Phi, Param, SelfParam, New, GetIvar, SetIvar, Instruction, Program, about, returned, op_of, code, class}
use Rattle.rules.specs.Uses.{uses}
use Rattle.rules.specs.Bound.{number}
use Rattle.rules.specs.Machine.{State, marked, mark}
use Rattle.rules.proofs.Exactness.Sums.{sum_le, sum_drop, sum-places, sum-keep-cond, from, below_in, ∈-places, set_cases, rows_cases}
use Rattle.rules.proofs.Exactness.Grow.{is_live, ivar_at, set-true, mark-true}

-- what taking an instruction off may cost: itself, and all that it puts in and that nothing else pays for
abbrev pub weight : ℕ → ℕ → Op → ℕ
weight S P (Ends (Jump b)) = 2
weight S P (Ends (IfTrue v t e)) = 3
weight S P (Ends (Return v)) = 1 + S * (1 + P)
weight S P (Send c l) = 1 + P
weight S P (Compute o v w) = 1
weight S P (Phi b v c w) = 1
weight S P (Param n) = 1
weight S P (SelfParam c) = 1
weight S P (New c) = 1
weight S P (GetIvar n r) = 1
weight S P (SetIvar n r v) = 1

pub weight_pos : (S P : ℕ) (o : Op) → 1 ≤ weight S P o
weight_pos S P (Ends (Jump b)) = omega arith
weight_pos S P (Ends (IfTrue v t e)) = omega arith
weight_pos S P (Ends (Return v)) = omega arith
weight_pos S P (Send c l) = omega arith
weight_pos S P (Compute o v w) = omega arith
weight_pos S P (Phi b v c w) = omega arith
weight_pos S P (Param n) = omega arith
weight_pos S P (SelfParam c) = omega arith
weight_pos S P (New c) = omega arith
weight_pos S P (GetIvar n r) = omega arith
weight_pos S P (SetIvar n r v) = omega arith

-- a Return is the only one whose weight is not at most 3 · (1 + P)
pub weight_le : (S P : ℕ) (o : Op) → weight S P o ≤ 3 * (1 + P) + cond (has (returned o)) 1 0 * (S * (1 + P))
weight_le S P (Ends (Jump b)) = omega arith
weight_le S P (Ends (IfTrue v t e)) = omega arith
weight_le S P (Ends (Return v)) = omega arith
weight_le S P (Send c l) = omega arith
weight_le S P (Compute o v w) = omega arith
weight_le S P (Phi b v c w) = omega arith
weight_le S P (Param n) = omega arith
weight_le S P (SelfParam c) = omega arith
weight_le S P (New c) = omega arith
weight_le S P (GetIvar n r) = omega arith
weight_le S P (SetIvar n r v) = omega arith

-- by sorts: a call, a Param, a read
pub weight_call : (S P : ℕ) (o : Op) → cond (has (about o).callee) (weight S P o) 0 ≤ cond (has (about o).callee) (1 + P) 0
weight_call S P (Ends t) = omega arith
weight_call S P (Send c l) = omega arith
weight_call S P (Compute o v w) = omega arith
weight_call S P (Phi b v c w) = omega arith
weight_call S P (Param n) = omega arith
weight_call S P (SelfParam c) = omega arith
weight_call S P (New c) = omega arith
weight_call S P (GetIvar n r) = omega arith
weight_call S P (SetIvar n r v) = omega arith

pub weight_param : (S P : ℕ) (o : Op) → has (about o).place ≡ true → weight S P o ≤ 1
weight_param S P (Ends t) e = absurd (false≢true e)
weight_param S P (Send c l) e = absurd (false≢true e)
weight_param S P (Compute o v w) e = omega arith
weight_param S P (Phi b v c w) e = omega arith
weight_param S P (Param n) e = omega arith
weight_param S P (SelfParam c) e = omega arith
weight_param S P (New c) e = omega arith
weight_param S P (GetIvar n r) e = omega arith
weight_param S P (SetIvar n r v) e = omega arith

weight_read : (S P : ℕ) (o : Op) (n : Name) → cond (is_just_name (about o).gets n) (weight S P o) 0 ≤ cond (has (about o).gets) 1 0
weight_read S P (Ends t) n = omega arith
weight_read S P (Send c l) n = omega arith
weight_read S P (Compute o v w) n = omega arith
weight_read S P (Phi b v c w) n = omega arith
weight_read S P (Param k) n = omega arith
weight_read S P (SelfParam c) n = omega arith
weight_read S P (New c) n = omega arith
weight_read S P (GetIvar m r) n = go (is_just_name (some m) n)
  where
    go : (b : 𝔹) → cond b 1 0 ≤ 1
    go true = omega arith
    go false = omega arith
weight_read S P (SetIvar m r v) n = omega arith

module _ (p : Program) where
  abbrev pub calls# : ℕ
  calls# = number p (λ o. has (about o).callee)

  abbrev pub params# : ℕ
  params# = number p (λ o. has (about o).place)

  abbrev pub gets# : ℕ
  gets# = number p (λ o. has (about o).gets)

  abbrev pub W : ℕ → ℕ
  W i = weight calls# params# (op_of p i)

  abbrev pub height : Kind → ℕ
  height k = height_of (length p.classes) k

  abbrev pub top : ℕ
  top = length p.classes + 2

  -- dead blocks; kinds that can rise; calls not yet made; attributes that can rise
  unfoldable pub part_l : List 𝔹 → ℕ
  part_l live = sum (λ b. cond (is_live live b) 0 (sum W (code p b))) (from 0 (length p.blocks))

  unfoldable pub part_k : List Kind → ℕ
  part_k ks = sum (λ j. (top - height (get_or ks j Empty)) * sum W (uses p j)) (from 0 (length p.instructions))

  unfoldable pub part_c : List (List 𝔹) → ℕ
  part_c cb = sum (λ f. sum (λ c. cond (marked cb f c) 0 1) (places (λ (x : Instruction). has (about x.op).callee) p.instructions)) (from 0 (length p.functions))

  unfoldable pub part_a : List (List Kind) → ℕ
  part_a iv = sum (λ c. sum (λ a. (top - height (ivar_at iv c a)) * gets#) (from 0 (length (class p c).ivars))) (from 0 (length p.classes))

  abbrev pub pot : State → ℕ
  pot s = sum W s.insn_worklist + length s.block_worklist + part_l s.live + part_k s.kinds + part_c s.called_by + part_a s.ivar_kinds

  abbrev no_instruction : Instruction
  no_instruction = record { block = 0; op = New 0 }

  -- an instruction test, as a sum over all instructions
  pub number-sum : (t : Op → 𝔹) (w : ℕ) → number p t * w ≡ sum (λ i. cond (t (op_of p i)) w 0) (from 0 (length p.instructions))
  number-sum t w = omega (arith, many (places (λ (x : Instruction). t x.op) p.instructions), sum-places no_instruction (λ (x : Instruction). t x.op) (λ i. w) p.instructions)
    where
      many : (l : List ℕ) → sum (λ (i : ℕ). w) l ≡ length l * w
      many [] = omega arith
      many (x ∷ l) = omega (arith, many l)

module _ (p : Program) where
  cond_le : (b b' : 𝔹) (n : ℕ) → (b ≡ true → b' ≡ true) → cond b' 0 n ≤ cond b 0 n
  cond_le true true n h = omega arith
  cond_le true false n h = absurd (false≢true (h refl))
  cond_le false true n h = omega arith
  cond_le false false n h = omega arith

  -- a call newly made
  pub pot_call : (cb : List (List 𝔹)) (f i : ℕ) → f < length p.functions → i < length p.instructions → f < length cb → i < length (get_or cb f []) → has (about (op_of p i)).callee ≡ true → marked cb f i ≡ false → part_c p (mark cb f i) + 1 ≤ part_c p cb
  unfolding part_c
  pot_call cb f i hf hi hf' hi' c e =
      sum_drop _ _ (from 0 (length p.functions)) 1
      (λ f'. sum_le _ _ (places (λ (x : Instruction). has (about x.op).callee) p.instructions) (λ c. cond_le (marked cb f' c) (marked (mark cb f i) f' c) 1 (mark-true cb f i f' c)))
      (below_in (length p.functions) f hf)
      (sum_drop _ _ (places (λ (x : Instruction). has (about x.op).callee) p.instructions) 1
      (λ c. cond_le (marked cb f c) (marked (mark cb f i) f c) 1 (mark-true cb f i f c))
      (∈-places (no_instruction p) (λ (x : Instruction). has (about x.op).callee) p.instructions i hi c)
      (rw (now, e) (omega arith)))
    where
      now : marked (mark cb f i) f i ≡ true
      now = rw (get_or-set_same cb f (set (get_or cb f []) i true) [] hf') (get_or-set_same (get_or cb f []) i true false hi')

  -- a block newly live
  pub pot_live : (live : List 𝔹) (b : ℕ) → b < length live → b < length p.blocks → is_live live b ≡ false → part_l p (set live b true) + sum (W p) (code p b) ≤ part_l p live
  unfolding part_l
  pot_live live b hb hm e =
      sum_drop _ _ (from 0 (length p.blocks)) (sum (W p) (code p b))
      (λ x. cond_le (is_live live x) (is_live (set live b true) x) (sum (W p) (code p x)) (set-true live b x))
      (below_in (length p.blocks) b hm)
      (rw (get_or-set_same live b true false hb, e) (omega arith))

  product : (t a b w : ℕ) → a < b → b ≤ t → (t - b) * w + w ≤ (t - a) * w
  product t a b w h h' = let q : suc (t - b) ≤ t - a = omega arith in omega (arith, mul-le-mul_right w q)

  -- a kind that rises
  pub pot_kind : (ks : List Kind) (i : ℕ) (k : Kind) → i < length ks → i < length p.instructions → height p k ≤ top p → height p (get_or ks i Empty) < height p k → part_k p (set ks i k) + sum (W p) (uses p i) ≤ part_k p ks
  unfolding part_k
  pot_kind ks i k hi hm hk lt =
      sum_drop _ _ (from 0 (length p.instructions)) (sum (W p) (uses p i))
      (λ j. mul-le-mul_right (sum (W p) (uses p j)) (fall j (set_cases Empty ks i k j)))
      (below_in (length p.instructions) i hm)
      (rw (get_or-set_same ks i k Empty hi) (product (top p) (height p (get_or ks i Empty)) (height p k) (sum (W p) (uses p i)) lt hk))
    where
      fall : (j : ℕ) → (get_or (set ks i k) j Empty ≡ get_or ks j Empty) ⊎ ((j ≡ i) × (get_or (set ks i k) j Empty ≡ k)) → top p - height p (get_or (set ks i k) j Empty) ≤ top p - height p (get_or ks j Empty)
      fall j (inl e) = rw e (omega arith)
      fall j (inr e) = rw (e.1, e.0) (omega (arith, lt))

  -- an attribute that rises
  pub pot_ivar : (iv : List (List Kind)) (c a : ℕ) (k : Kind) → c < length iv → a < length (get_or iv c []) → c < length p.classes → a < length (class p c).ivars → height p k ≤ top p → height p (ivar_at iv c a) < height p k → part_a p (set iv c (set (get_or iv c []) a k)) + gets# p ≤ part_a p iv
  unfolding part_a
  pot_ivar iv c a k hc ha hc' ha' hk lt =
      sum_drop _ _ (from 0 (length p.classes)) (gets# p)
      (λ d. sum_le _ _ (from 0 (length (class p d).ivars)) (λ x. mul-le-mul_right (gets# p) (fall d x (rows_cases Empty iv c a k d x))))
      (below_in (length p.classes) c hc')
      (sum_drop _ _ (from 0 (length (class p c).ivars)) (gets# p)
      (λ x. mul-le-mul_right (gets# p) (fall c x (rows_cases Empty iv c a k c x)))
      (below_in (length (class p c).ivars) a ha')
      (rw now (product (top p) (height p (ivar_at iv c a)) (height p k) (gets# p) lt hk)))
    where
      new : List (List Kind)
      new = set iv c (set (get_or iv c []) a k)

      now : ivar_at new c a ≡ k
      now = rw (get_or-set_same iv c (set (get_or iv c []) a k) [] hc) (get_or-set_same (get_or iv c []) a k Empty ha)

      fall : (d x : ℕ) → (ivar_at new d x ≡ ivar_at iv d x) ⊎ ((d ≡ c) × (x ≡ a) × (ivar_at new d x ≡ k)) → top p - height p (ivar_at new d x) ≤ top p - height p (ivar_at iv d x)
      fall d x (inl e) = rw e (omega arith)
      fall d x (inr e) = rw (e.2, e.0, e.1) (omega (arith, lt))

  -- a function's callers weigh at most S · (1 + P)
  pub callers_cost : (row : List 𝔹) → (length row ≡ length p.instructions) ⊎ (row ≡ []) → ((c : ℕ) → get_or row c false ≡ true → has (about (op_of p c)).callee ≡ true) → sum (W p) (places (λ b. b) row) ≤ calls# p * (1 + params# p)
  callers_cost row (inr e) h = rw e (omega arith)
  callers_cost row (inl e) h =
      let a = sum-places false (λ (b : 𝔹). b) (W p) row in
      let b = sum_le (λ i. cond (get_or row i false) (W p i) 0) (λ i. cond (has (about (op_of p i)).callee) (1 + params# p) 0) (from 0 (length row)) (λ i. each i (get_or row i false) refl) in
      rw (number-sum p (λ o. has (about o).callee) (1 + params# p), ← e, a) b
    where
      each : (i : ℕ) (b : 𝔹) → get_or row i false ≡ b → cond b (W p i) 0 ≤ cond (has (about (op_of p i)).callee) (1 + params# p) 0
      each i false q = omega arith
      each i true q = subst (λ (z : 𝔹). cond z (W p i) 0 ≤ cond (has (about (op_of p i)).callee) (1 + params# p) 0) (h i q) (weight_call (calls# p) (params# p) (op_of p i))

  -- the reads that a setting wakes weigh at most G
  pub reads_cost : (row : List 𝔹) (n : Name) → length row ≡ length p.instructions → sum (W p) (keep (λ i. is_just_name (about (op_of p i)).gets n) (places (λ b. b) row)) ≤ gets# p
  reads_cost row n e =
      let a = sum-keep-cond (λ i. is_just_name (about (op_of p i)).gets n) (W p) (places (λ b. b) row) in
      let b = sum-places false (λ (b : 𝔹). b) (λ i. cond (is_just_name (about (op_of p i)).gets n) (W p i) 0) row in
      let c = sum_le (λ i. cond (get_or row i false) (cond (is_just_name (about (op_of p i)).gets n) (W p i) 0) 0) (λ i. cond (has (about (op_of p i)).gets) 1 0) (from 0 (length row)) (λ i. each i (get_or row i false)) in
      let d = number-sum p (λ o. has (about o).gets) 1 in
      let c' = subst (λ (z : ℕ). sum (λ i. cond (get_or row i false) (cond (is_just_name (about (op_of p i)).gets n) (W p i) 0) 0) (from 0 (length row)) ≤ sum (λ i. cond (has (about (op_of p i)).gets) 1 0) (from 0 z)) e c in
      omega (arith, a, b, c', d)
    where
      each : (i : ℕ) (b : 𝔹) → cond b (cond (is_just_name (about (op_of p i)).gets n) (W p i) 0) 0 ≤ cond (has (about (op_of p i)).gets) 1 0
      each i false = omega arith
      each i true = weight_read (calls# p) (params# p) (op_of p i) n
