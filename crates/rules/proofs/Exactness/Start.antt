-- The first state: it meets the invariant, and its potential is at most the bound. Assumes nothing.
use Prim.Native.Nat.{ℕ, zero, suc, ◌+◌, ◌*◌, ◌-◌, ◌≤◌, ◌<◌}
use native.Mathlib.Omega.{arith}
use native.Mathlib.Nat.{mul-le-mul_right, mul-le-mul_left}
use mathlib.Core.Path.{◌≡◌, refl, sym, ap, ◌∙◌, subst}
use mathlib.Core.Logic.{◌⊎◌, inl, inr}
use mathlib.Core.Bool.{Bool as 𝔹, true, false, cond, ◌||◌, true≢false, false≢true}
use mathlib.Core.Option.{Option, none, some}
use mathlib.Core.List.{List, [], ◌∷◌, ◌++◌, map}
use lib.ListN.{length, get_or, set, replicate, length-set, length-replicate, get_or-replicate, length-map}
use lib.Seq.{get_or-set_same}
use lib.Dec.{eqb, eqb-zero-suc, eqb-suc-zero, eqb-suc-suc}
use Rattle.kinds.specs.declared.Kind.{Kind}
use Rattle.kinds.specs.declared.Kind.TheVariants.{Empty, Nil}
use Rattle.rules.specs.Actions.{Answer, answered, refused, if_answered, choose}
use Rattle.rules.specs.Lists.{any, has, sum, places}
use Rattle.rules.specs.Program.{Limits, Name, Opnd, Const, Insn, Jump, IfTrue, Return, Op, Ends, Send, Compute, Phi, Param, SelfParam, New, GetIvar, SetIvar, Instruction, Class, Program, about, built_in, same_opnd, returned, class, op_of, block_of, entry, code, main_function, constructor_of, function_of}
use Rattle.rules.specs.Uses.{uses}
use Rattle.rules.specs.Constructors.{reverse_post_order, declared, initialized, first_kind, first_kinds}
use Rattle.rules.specs.Bound.{number, use_count, bound_by, bound}
use Rattle.rules.specs.Finished.{Finished}
use Rattle.rules.specs.Machine.{State, marked, set_live, with_insns, table, blank, go_live, state_of, first_kinds_from, start}
use Rattle.rules.proofs.Exactness.Sums.{◌∈◌, not_in_none, sum_le, sum_drop, sum_bound, sum_affine, sum_two, sum_scale, sum-places, sum_swap, sum-all, sum-none, from, below_in, from-length, eqb_once, eqb-self, set_cases, replicate-same}
use Rattle.rules.proofs.Exactness.Laws.{Fine, Laws, le_empty}
use Rattle.rules.proofs.Exactness.Answers.{answer, never, after, go_live-is}
use Rattle.rules.proofs.Exactness.Grow.{is_live, ivar_at, Reach}
use Rattle.rules.proofs.Exactness.Invariant.{Soon, Inv}
use Rattle.rules.proofs.Exactness.Potential.{weight_le, calls#, params#, gets#, W, height, top, part_l, part_k, part_c, part_a, pot, number-sum}
use Rattle.rules.proofs.Exactness.Promise.{tables, main_in, entry_in}

-- ---- the attributes' first kinds

module _ (L : Limits) (p : Program) (K : Laws (length p.classes) (length p.functions)) where
  -- the kinds of a row are fine
  abbrev FineRow : List Kind → Type 0
  FineRow row = (a : ℕ) → Fine (length p.classes) (length p.functions) (get_or row a Empty)

  row_fine : (g : Name → Kind) → ((n : Name) → Fine (length p.classes) (length p.functions) (g n)) → (l : List Name) → FineRow (map g l)
  row_fine g h [] a = K.fine_empty
  row_fine g h (n ∷ l) zero = h n
  row_fine g h (n ∷ l) (suc a) = row_fine g h l a

  record Rows (c : ℕ) (n : ℕ) (l : List (List Kind)) : Type 0 where
    many : length l ≡ n
    long : (d : ℕ) → d < n → length (get_or l d []) ≡ length (class p (c + d)).ivars
    fine : (d : ℕ) → FineRow (get_or l d [])

  first-row : (c : ℕ) (ks : List Kind) → first_kinds p c ≡ answered ks → (length ks ≡ length (class p c).ivars) × FineRow ks
  unfolding first_kinds
  first-row c ks e = go (constructor_of p c) e
    where
      kinds : ℕ → Name → Kind
      kinds f n = first_kind p (initialized p (reverse_post_order p (entry p f)) n)

      kind_fine : (b : 𝔹) → Fine (length p.classes) (length p.functions) (first_kind p b)
      kind_fine true = K.fine_empty
      kind_fine false = K.fine_nil

      row : (g : Name → Kind) → ((n : Name) → Fine (length p.classes) (length p.functions) (g n)) → map g (class p c).ivars ≡ ks → (length ks ≡ length (class p c).ivars) × FineRow ks
      row g h q = rw (← q) (length-map (class p c).ivars g, row_fine g h (class p c).ivars)

      on : (f : ℕ) (b : 𝔹) → cond b (answered (map (kinds f) (class p c).ivars)) (refused 13) ≡ answered ks → (length ks ≡ length (class p c).ivars) × FineRow ks
      on f true q = row (kinds f) (λ n. kind_fine (initialized p (reverse_post_order p (entry p f)) n)) (answer q)
      on f false q = never q

      go : (o : Option ℕ) → elim o [ none ↦ answered (map (λ n. Nil) (class p c).ivars) | some f ↦ cond (declared p c (reverse_post_order p (entry p f))) (answered (map (kinds f) (class p c).ivars)) (refused 13) ] ≡ answered ks → (length ks ≡ length (class p c).ivars) × FineRow ks
      go none q = row (λ n. Nil) (λ n. K.fine_nil) (answer q)
      go (some f) q = on f (declared p c (reverse_post_order p (entry p f))) q

  rows : (c n : ℕ) (l : List (List Kind)) → first_kinds_from L p c n ≡ answered l → Rows c n l
  rows c zero l e = rw (← answer e) (record { many = refl; long = λ d h. absurd (omega arith); fine = λ d a. K.fine_empty })
  rows c (suc n) l e =
      let a = after (first_kinds p c) _ e in
      let b = after (first_kinds_from L p (suc c) n) _ a.2 in
      rw (← answer b.2) (more a.0 b.0 (first-row c a.0 a.1) (rows (suc c) n b.0 b.1))
    where
      more : (ks : List Kind) (m : List (List Kind)) → (length ks ≡ length (class p c).ivars) × FineRow ks → Rows (suc c) n m → Rows c (suc n) (ks ∷ m)
      more ks m f r = record { many = ap suc r.many; long = long; fine = fine }
        where
          long : (d : ℕ) → d < suc n → length (get_or (ks ∷ m) d []) ≡ length (class p (c + d)).ivars
          long zero h = let q : c + 0 ≡ c = omega arith in rw q f.0
          long (suc d) h = let q : c + suc d ≡ suc c + d = omega arith in rw q (r.long d (omega arith))

          fine : (d : ℕ) → FineRow (get_or (ks ∷ m) d [])
          fine zero = f.1
          fine (suc d) = r.fine d

  -- ---- the first state

  pub record First (s : State) : Type 0 where
    pub rows : List (List Kind)
    pub state : s ≡ with_insns (code p (entry p (main_function p))) (set_live (entry p (main_function p)) (blank L p rows))
    pub many : length rows ≡ length p.classes
    pub long : (c : ℕ) → c < length p.classes → length (get_or rows c []) ≡ length (class p c).ivars
    pub fine : (c a : ℕ) → Fine (length p.classes) (length p.functions) (ivar_at rows c a)
    pub function : 0 < length p.functions

  pub first : (s : State) → start L p ≡ answered s → First s
  unfolding start
  first s e = go (eqb (length p.functions) 0) refl e
    where
      main : ℕ
      main = entry p (main_function p)

      made : (m : Answer (Unit {0} × State)) → state_of L p m ≡ answered s → (r : Unit {0} × State) × (m ≡ answered r) × (r.1 ≡ s)
      made (answered r) q = (r, refl, answer q)
      made (refused k) q = never q

      go : (b : 𝔹) → eqb (length p.functions) 0 ≡ b → choose b (λ _. refused 12) (λ _. if_answered (first_kinds_from L p 0 (length p.classes)) (λ l. state_of L p (go_live L p main (blank L p l)))) ≡ answered s → First s
      go true q h = never h
      go false q h =
          let a = after (first_kinds_from L p 0 (length p.classes)) _ h in
          let b = made (go_live L p main (blank L p a.0)) a.2 in
          let r = rows 0 (length p.classes) a.0 a.1 in
          record {
            rows = a.0;
            state = sym b.2 ∙ live a.0 b.0 (go_live-is L p main (blank L p a.0) b.1);
            many = r.many;
            long = λ c h. let z : 0 + c ≡ c = omega arith in subst (λ (d : ℕ). length (get_or a.0 c []) ≡ length (class p d).ivars) z (r.long c h);
            fine = r.fine;
            function = some-function (length p.functions) q;
          }
        where
          some-function : (n : ℕ) → eqb n 0 ≡ false → 0 < n
          some-function zero q = absurd (true≢false (sym (eqb-self 0) ∙ q))
          some-function (suc n) q = omega arith

          live : (l : List (List Kind)) (r : Unit {0} × State)
              → ((is_live (blank L p l).live main ≡ true) × (r.1 ≡ blank L p l)) ⊎ ((is_live (blank L p l).live main ≡ false) × (r.1 ≡ with_insns ([] ++ code p main) (set_live main (blank L p l))))
              → r.1 ≡ with_insns (code p main) (set_live main (blank L p l))
          live l r (inl z) = absurd (false≢true (sym (replicate-same false (length p.blocks) main false) ∙ z.0))
          live l r (inr z) = z.1

  -- ---- its invariant

  rows-false : (m n f c : ℕ) → marked (replicate m (replicate n false)) f c ≡ false
  rows-false zero n f c = refl
  rows-false (suc m) n zero c = replicate-same false n c false
  rows-false (suc m) n (suc f) c = rows-false m n f c

  module _ (R : Finished L p) where
    pub first_inv : (s : State) → First s → Inv L p [] s
    first_inv s f = rw f.state (record {
      sound = λ i u h. rw (replicate-same Empty (length p.instructions) i Empty) (le_empty K u);
      fits = λ i m. let a = (tables p).code_in main i m in inl (record { alive = rw a.1 lit; within = a.0 });
      queued = λ i m. ((tables p).code_in main i m).0;
      callers = λ g c e. absurd (false≢true (sym (rows-false (length p.functions) (length p.instructions) g c) ∙ e));
      readers = λ c i e. absurd (false≢true (sym (rows-false (length p.classes) (length p.instructions) c i) ∙ e));
      reach = λ b h. reach b h;
      closed = λ b i e m. inr (inl (rw (only b e) at m));
      inside = λ b m. not_in_none m;
      rooted = lit;
      sizes = record {
        kinds = length-replicate (length p.instructions) Empty;
        live = length-set (replicate (length p.blocks) false) main true ∙ length-replicate (length p.blocks) false;
        called = length-replicate (length p.functions) _;
        called_row = λ g h. ap length (get_or-replicate (length p.functions) g (replicate (length p.instructions) false) [] h) ∙ length-replicate (length p.instructions) false;
        ivars = f.many;
        ivars_row = f.long;
        reads = length-replicate (length p.classes) _;
        reads_row = λ c h. ap length (get_or-replicate (length p.classes) c (replicate (length p.instructions) false) [] h) ∙ length-replicate (length p.instructions) false;
      };
      fine = record { kind = λ i. rw (replicate-same Empty (length p.instructions) i Empty) K.fine_empty; ivar = f.fine };
      flows = record {
        held = λ i h. inl (inr (subst (λ (b : ℕ). i ∈ code p b) (only (block_of p i) h.alive) ((tables p).in_code i h.within)));
        argued = λ g c y e m. absurd (false≢true (sym (rows-false (length p.functions) (length p.instructions) g c) ∙ e));
        returned = λ c y v e o h. absurd (false≢true (sym (rows-false (length p.functions) (length p.instructions) (function_of p y) c) ∙ e));
      };
    })
      where
        main : ℕ
        main = entry p (main_function p)

        live : List 𝔹
        live = set (replicate (length p.blocks) false) main true

        lit : is_live live main ≡ true
        lit = get_or-set_same (replicate (length p.blocks) false) main true false (rw (length-replicate (length p.blocks) false) (entry_in R (main_function p) (main_in p f.function)))

        only : (b : ℕ) → is_live live b ≡ true → b ≡ main
        only b e = go (set_cases false (replicate (length p.blocks) false) main true b)
          where
            go : (is_live live b ≡ is_live (replicate (length p.blocks) false) b) ⊎ ((b ≡ main) × (is_live live b ≡ true)) → b ≡ main
            go (inl q) = absurd (false≢true (sym (replicate-same false (length p.blocks) b false) ∙ sym q ∙ e))
            go (inr q) = q.0

        reach : (b : ℕ) → Soon live [] b → Reach p (replicate (length p.instructions) Empty) b
        reach b (inl e) = rw (only b e) Reach.begin
        reach b (inr m) = not_in_none m

-- ---- its potential

eqb-sym : (a b : ℕ) → eqb a b ≡ eqb b a
eqb-sym zero zero = refl
eqb-sym zero (suc b) = eqb-zero-suc b ∙ sym (eqb-suc-zero b)
eqb-sym (suc a) zero = eqb-suc-zero a ∙ sym (eqb-zero-suc a)
eqb-sym (suc a) (suc b) = eqb-suc-suc a b ∙ eqb-sym a b ∙ sym (eqb-suc-suc b a)

abbrev ret# : Op → ℕ
ret# o = cond (has (returned o)) 1 0

-- a Return is in at most one list of uses
return_once : (o : Op) (n : ℕ) → sum (λ j. cond (any (same_opnd (Insn j)) (about o).operands) (ret# o) 0) (from 0 n) ≤ ret# o
return_once o n = go o
  where
    zeros : (t : ℕ → 𝔹) (l : List ℕ) → sum (λ j. cond (t j) 0 0) l ≤ 0
    zeros t [] = omega arith
    zeros t (x ∷ l) = one (t x) (zeros t l)
      where
        one : (b : 𝔹) → sum (λ j. cond (t j) 0 0) l ≤ 0 → cond b 0 0 + sum (λ j. cond (t j) 0 0) l ≤ 0
        one true h = omega arith
        one false h = omega arith

    nothing : (o : Op) → sum (λ j. cond (any (same_opnd (Insn j)) (about o).operands) 0 0) (from 0 n) ≤ 0
    nothing o = zeros (λ j. any (same_opnd (Insn j)) (about o).operands) (from 0 n)

    back : (v : Opnd) → sum (λ j. cond (same_opnd (Insn j) v || false) 1 0) (from 0 n) ≤ 1
    back (Const k) = omega (arith, sum-none (from 0 n))
    back (Insn i) = omega (arith, sum_le (λ j. cond (eqb j i || false) 1 0) (λ j. cond (eqb i j) 1 0) (from 0 n) (λ j. same j), eqb_once i 0 n 1)
      where
        or_false_lem : (b : 𝔹) → cond (b || false) 1 0 ≤ cond b 1 0
        or_false_lem true = omega arith
        or_false_lem false = omega arith

        same : (j : ℕ) → cond (eqb j i || false) 1 0 ≤ cond (eqb i j) 1 0
        same j = rw (eqb-sym i j) (or_false_lem (eqb j i))

    go : (o : Op) → sum (λ j. cond (any (same_opnd (Insn j)) (about o).operands) (ret# o) 0) (from 0 n) ≤ ret# o
    go (Ends (Jump b)) = nothing (Ends (Jump b))
    go (Ends (IfTrue v t e)) = nothing (Ends (IfTrue v t e))
    go (Ends (Return v)) = back v
    go (Send c l) = nothing (Send c l)
    go (Compute o v w) = nothing (Compute o v w)
    go (Phi b v c w) = nothing (Phi b v c w)
    go (Param k) = nothing (Param k)
    go (SelfParam c) = nothing (SelfParam c)
    go (New c) = nothing (New c)
    go (GetIvar k r) = nothing (GetIvar k r)
    go (SetIvar k r v) = nothing (SetIvar k r v)

module _ (p : Program) where
  abbrev insns : List ℕ
  insns = from 0 (length p.instructions)

  abbrev returns# : ℕ
  returns# = number p (λ o. has (returned o))

  abbrev ivars# : ℕ
  ivars# = sum (λ (c : Class). length c.ivars) p.classes

  abbrev none-there : Instruction
  none-there = record { block = 0; op = New 0 }

  -- the heaviest weight of an instruction that is no Return, and what a Return may weigh more
  abbrev light : ℕ
  light = 3 * (1 + params# p)

  abbrev heavy : ℕ
  heavy = calls# p * (1 + params# p)

  insns_cost : sum (W p) insns ≤ length p.instructions * light + returns# * heavy
  insns_cost =
      let a = sum_affine (W p) (λ i. ret# (op_of p i)) light heavy insns (λ i. weight_le (calls# p) (params# p) (op_of p i)) in
      let r : sum (λ i. ret# (op_of p i)) insns ≡ returns# = omega (arith, number-sum p (λ o. has (returned o)) 1) in
      subst (λ (n : ℕ). sum (W p) insns ≤ n * light + returns# * heavy) (from-length 0 (length p.instructions)) (subst (λ (n : ℕ). sum (W p) insns ≤ length insns * light + n * heavy) r a)

  uses_are : sum (λ j. length (uses p j)) insns ≡ use_count p
  uses_are = sym (sum-places none-there (λ (x : Instruction). true) (λ j. length (uses p j)) p.instructions)

  returns_once : sum (λ j. sum (λ i. ret# (op_of p i)) (uses p j)) insns ≤ returns#
  unfolding uses
  returns_once =
      let a = sum_le (λ j. sum (λ i. ret# (op_of p i)) (uses p j)) (λ j. sum (λ i. cond (any (same_opnd (Insn j)) (about (op_of p i)).operands) (ret# (op_of p i)) 0) insns) insns
      (λ j. omega (arith, sum-places none-there (λ (x : Instruction). any (same_opnd (Insn j)) (about x.op).operands) (λ i. ret# (op_of p i)) p.instructions)) in
      let b = sum_swap (λ j i. cond (any (same_opnd (Insn j)) (about (op_of p i)).operands) (ret# (op_of p i)) 0) insns insns in
      let c = sum_le (λ i. sum (λ j. cond (any (same_opnd (Insn j)) (about (op_of p i)).operands) (ret# (op_of p i)) 0) insns) (λ i. ret# (op_of p i)) insns (λ i. return_once (op_of p i) (length p.instructions)) in
      omega (arith, a, b, c, number-sum p (λ o. has (returned o)) 1)

  uses_cost : sum (λ j. sum (W p) (uses p j)) insns ≤ use_count p * light + returns# * heavy
  uses_cost =
      let a = sum_le (λ j. sum (W p) (uses p j)) (λ j. length (uses p j) * light + sum (λ i. ret# (op_of p i)) (uses p j) * heavy) insns
      (λ j. sum_affine (W p) (λ i. ret# (op_of p i)) light heavy (uses p j) (λ i. weight_le (calls# p) (params# p) (op_of p i))) in
      let b = sum_two (λ j. length (uses p j)) (λ j. sum (λ i. ret# (op_of p i)) (uses p j)) light heavy insns in
      let c = mul-le-mul_right heavy returns_once in
      let d : sum (λ j. length (uses p j)) insns * light ≡ use_count p * light = ap (λ (n : ℕ). n * light) uses_are in
      omega (arith, a, b, c, d)

  kinds_cost : (ks : List Kind) → part_k p ks ≤ top p * (use_count p * light + returns# * heavy)
  unfolding part_k
  kinds_cost ks =
      let a = sum_le (λ j. (top p - height p (get_or ks j Empty)) * sum (W p) (uses p j)) (λ j. top p * sum (W p) (uses p j)) insns (λ j. mul-le-mul_right (sum (W p) (uses p j)) (omega arith)) in
      omega (arith, a, sum_scale (λ j. sum (W p) (uses p j)) (top p) insns, mul-le-mul_left (top p) uses_cost)

  cond_one : (b : 𝔹) → cond b 0 1 ≤ 1
  cond_one true = omega arith
  cond_one false = omega arith

  calls_cost : (cb : List (List 𝔹)) → part_c p cb ≤ calls# p * length p.functions
  unfolding part_c
  calls_cost cb =
      let a = sum_bound (λ f. sum (λ c. cond (marked cb f c) 0 1) calls) (from 0 (length p.functions)) (calls# p)
      (λ f m. omega (arith, sum_bound (λ c. cond (marked cb f c) 0 1) calls 1 (λ c n. cond_one (marked cb f c)))) in
      subst (λ (n : ℕ). sum (λ f. sum (λ c. cond (marked cb f c) 0 1) calls) (from 0 (length p.functions)) ≤ n) (ap (λ (n : ℕ). n * calls# p) (from-length 0 (length p.functions)) ∙ flip) a
    where
      calls : List ℕ
      calls = places (λ (x : Instruction). has (about x.op).callee) p.instructions

      flip : length p.functions * calls# p ≡ calls# p * length p.functions
      flip = omega arith

  ivars_cost : (iv : List (List Kind)) → part_a p iv ≤ ivars# * (top p * gets# p)
  unfolding part_a
  ivars_cost iv =
      let a = sum_le (λ c. sum (λ a. (top p - height p (ivar_at iv c a)) * gets# p) (from 0 (length (class p c).ivars))) (λ c. (top p * gets# p) * length (class p c).ivars) (from 0 (length p.classes)) (λ c. row c) in
      let b = sum_scale (λ c. length (class p c).ivars) (top p * gets# p) (from 0 (length p.classes)) in
      let d = sum-all built_in (λ (c : Class). length c.ivars) p.classes in
      let e : (top p * gets# p) * sum (λ c. length (class p c).ivars) (from 0 (length p.classes)) ≡ ivars# * (top p * gets# p) = ap (λ (n : ℕ). (top p * gets# p) * n) d ∙ flip (top p * gets# p) ivars# in
      omega (arith, a, b, e)
    where
      flip : (a b : ℕ) → a * b ≡ b * a
      flip a b = omega arith

      row : (c : ℕ) → sum (λ a. (top p - height p (ivar_at iv c a)) * gets# p) (from 0 (length (class p c).ivars)) ≤ (top p * gets# p) * length (class p c).ivars
      row c =
          let a = sum_bound (λ a. (top p - height p (ivar_at iv c a)) * gets# p) (from 0 (length (class p c).ivars)) (top p * gets# p) (λ a m. mul-le-mul_right (gets# p) (omega arith)) in
          subst (λ (n : ℕ). sum (λ a. (top p - height p (ivar_at iv c a)) * gets# p) (from 0 (length (class p c).ivars)) ≤ n) (ap (λ (n : ℕ). n * (top p * gets# p)) (from-length 0 (length (class p c).ivars)) ∙ flip (length (class p c).ivars) (top p * gets# p)) a

  cond-under : (b : 𝔹) (n : ℕ) → cond b 0 n ≤ n
  cond-under true n = omega arith
  cond-under false n = omega arith

  -- the blocks share out the instructions
  shared : sum (λ b. sum (W p) (code p b)) (from 0 (length p.blocks)) ≤ sum (W p) insns
  unfolding code
  shared =
      let a = sum_le (λ b. sum (W p) (code p b)) (λ b. sum (λ i. cond (eqb (block_of p i) b) (W p i) 0) insns) (from 0 (length p.blocks))
      (λ b. omega (arith, sum-places none-there (λ (x : Instruction). eqb x.block b) (W p) p.instructions)) in
      let b = sum_swap (λ b i. cond (eqb (block_of p i) b) (W p i) 0) (from 0 (length p.blocks)) insns in
      let c = sum_le (λ i. sum (λ b. cond (eqb (block_of p i) b) (W p i) 0) (from 0 (length p.blocks))) (W p) insns (λ i. eqb_once (block_of p i) 0 (length p.blocks) (W p i)) in
      omega (arith, a, b, c)

  lives_cost : (live : List 𝔹) (b : ℕ) → b < length p.blocks → is_live live b ≡ true → part_l p live + sum (W p) (code p b) ≤ length p.instructions * light + returns# * heavy
  unfolding part_l
  lives_cost live b h e =
      let a = sum_drop (λ b. cond (is_live live b) 0 (sum (W p) (code p b))) (λ b. sum (W p) (code p b)) (from 0 (length p.blocks)) (sum (W p) (code p b))
      (λ b. cond-under (is_live live b) (sum (W p) (code p b))) (below_in (length p.blocks) b h) (rw e (omega arith)) in
      omega (arith, a, shared, insns_cost)

  -- the formula holds all parts
  formula : (N E S R G D P F h a b c d : ℕ) → a ≤ N * (3 * (1 + P)) + R * (S * (1 + P)) → b ≤ h * (E * (3 * (1 + P)) + R * (S * (1 + P))) → c ≤ S * F → d ≤ D * (h * G) → a + b + c + d ≤ bound_by p N E S R G D P F h
  formula N E S R G D P F h a b c d ha hb hc hd = omega arith

  pub first_cost : (L : Limits) (s : State) (rows : List (List Kind)) (b : ℕ) → b < length p.blocks → s ≡ with_insns (code p b) (set_live b (blank L p rows)) → pot p s ≤ bound p
  unfolding bound
  first_cost L s rows b h e =
      let live = set (replicate (length p.blocks) false) b true in
      let on : is_live live b ≡ true = get_or-set_same (replicate (length p.blocks) false) b true false (rw (length-replicate (length p.blocks) false) h) in
      let ks = replicate (length p.instructions) Empty in
      let cb = table L p (length p.functions) (length p.instructions) in
      let f = formula (length p.instructions) (use_count p) (calls# p) returns# (gets# p) ivars# (params# p) (length p.functions) (top p)
      (part_l p live + sum (W p) (code p b)) (part_k p ks) (part_c p cb) (part_a p rows) (lives_cost live b h on) (kinds_cost ks) (calls_cost cb) (ivars_cost rows) in
      rw e (omega (arith, f))
