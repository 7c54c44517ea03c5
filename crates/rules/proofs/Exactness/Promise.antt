-- A finished reading's promise gives what the theory asks of a program. Assumes nothing.
use Prim.Native.Nat.{ℕ, zero, suc, ◌+◌, ◌/◌, ◌%◌, ◌≤◌, ◌<◌}
use native.Mathlib.Omega.{arith}
use mathlib.Core.Path.{◌≡◌, refl, sym, ap, ◌∙◌, subst}
use mathlib.Core.Logic.{◌⊎◌, inl, inr}
use mathlib.Core.Bool.{Bool as 𝔹, true, false, not, cond, ◌&&◌, ◌||◌, false≢true}
use mathlib.Core.Option.{Option, none, some}
use mathlib.Core.List.Memᴰ
use mathlib.Core.List.{List, [], ◌∷◌, map}
use lib.ListN.{length, get_or, get_or-eq_default}
use lib.Dec.{eqb, ltb, leb, ltb→lt, leb→le}
use Rattle.ids.specs.Sets.{members_from, members_of}
use Rattle.kinds.specs.declared.Kind.{Kind}
use Rattle.kinds.specs.declared.Kind.TheVariants.{Empty, Nil, Num, Truth, Fun, Class, Int, Bool, Objects, Any}
use Rattle.kinds.specs.Kinds.{tag_of, fits_of}
use Rattle.kinds.specs.Rules.{admits}
use Rattle.kinds.specs.Heights.{Good}
use Rattle.rules.specs.Lists.{bytes, same, any, all, keep, sum, places, first, final, to_list, has, or_else, is_just, cons_if}
use Rattle.rules.specs.Values.{function_in, class_in}
use Rattle.rules.specs.Program.{Limits, Name, Opnd, Const, Insn, Terminator, Jump, IfTrue, Return, Static, Dynamic, Op, Ends, Send, Compute, Phi, Param, SelfParam, New, GetIvar, SetIvar, Instruction, Function, Program, about, built_in, same_opnd, returned, function, class, op_of, block_of, function_at, function_of, entry, code, method_named, ivar_named, main_function, parameters, returns}
use Rattle.rules.specs.Uses.{uses}
use Rattle.rules.specs.Finished.{is_block_of, is_function, is_class, good_constant, good_opnd, good_terminator, good_op, good_method, good_function, good_instruction, Finished}
use Rattle.rules.proofs.Exactness.Sums.{◌∈◌, not_in_none, ∈-cons, ∈-one, keep-∈, map-∈, concat-∈, ∈-places, places-∈, sum_le, sum_ones, sum-none, sum-keep-cond, sum-places, sum_swap, from, eqb_once, eqb-self, eqb-true, less_or, ∈-map, ∈-concat}
use Rattle.rules.proofs.Exactness.Laws.{Fine, Laws}
use Rattle.rules.proofs.Exactness.Grow.{kind_in, arms_in}
use Rattle.rules.proofs.Exactness.Flows.{FineOpnd}
use Rattle.rules.proofs.Exactness.Data.{Tables, listed_used}
use Rattle.rules.proofs.Exactness.Invariant.{is_param}
use Rattle.rules.proofs.Exactness.Potential.{params#, number-sum}
use Rattle.rules.proofs.Exactness.Visit.{Formed}

-- ---- tests

pub and_left : (a b : 𝔹) → (a && b) ≡ true → a ≡ true
and_left true b e = refl
and_left false b e = e

pub and_right : (a b : 𝔹) → (a && b) ≡ true → b ≡ true
and_right true b e = e
and_right false b e = absurd (false≢true e)

pub lt_of : (m n : ℕ) → ltb m n ≡ true → m < n
lt_of m n e = ltb→lt m n (rw e tt)

pub le_of : (m n : ℕ) → leb m n ≡ true → m ≤ n
le_of m n e = leb→le m n (rw e tt)

or_right : (a b : 𝔹) → b ≡ true → (a || b) ≡ true
or_right true b e = refl
or_right false b e = e

module _ {A : Type 0} where
  pub all_in : (f : A → 𝔹) (l : List A) {x : A} → all f l ≡ true → x ∈ l → f x ≡ true
  all_in f [] e m = not_in_none m
  all_in f (y ∷ l) {x} e m = ∈-cons (λ z. f z ≡ true) (and_left (f y) _ e) (λ n. all_in f l (and_right (f y) _ e) n) m

  pub first_in : (l : List A) {x : A} → first l ≡ some x → x ∈ l
  first_in [] e = absurd (let z : ◌≡◌ {A = ℕ} 0 1 = cc in omega arith)
  first_in (y ∷ l) {x} e = Memᴰ.head (inj e)
    where
      inj : some y ≡ some x → x ≡ y
      inj e = cc

  pub final_in : (l : List A) {x : A} → final l ≡ some x → x ∈ l
  final_in [] e = absurd (let z : ◌≡◌ {A = ℕ} 0 1 = cc in omega arith)
  final_in (y ∷ []) {x} e = Memᴰ.head (inj e)
    where
      inj : some y ≡ some x → x ≡ y
      inj e = cc
  final_in (y ∷ z ∷ l) e = Memᴰ.tail (final_in (z ∷ l) e)

  in_index : (d : A) (l : List A) {x : A} → x ∈ l → (i : ℕ) × (i < length l) × (get_or l i d ≡ x)
  in_index d [] m = not_in_none m
  in_index d (y ∷ l) {x} m = go (Memᴰ.cases_cons m) (λ n. in_index d l n)
    where
      go : (x ≡ y) ⊎ (x ∈ l) → (x ∈ l → (i : ℕ) × (i < length l) × (get_or l i d ≡ x)) → (i : ℕ) × (i < suc (length l)) × (get_or (y ∷ l) i d ≡ x)
      go (inl e) ih = (0, omega arith, sym e)
      go (inr n) ih = let w = ih n in (suc w.0, omega (arith, w.1), w.2)

index_in : {A : Type 0} (d : A) (l : List A) (i : ℕ) → i < length l → get_or l i d ∈ l
index_in d [] i h = absurd (omega arith)
index_in d (x ∷ l) zero h = Memᴰ.head refl
index_in d (x ∷ l) (suc i) h = Memᴰ.tail (index_in d l i (omega arith))

-- ---- operands

returned_used : (o : Op) (v : Opnd) → v ∈ to_list (returned o) → v ∈ (about o).operands
returned_used (Ends (Jump b)) v m = not_in_none m
returned_used (Ends (IfTrue x t e)) v m = not_in_none m
returned_used (Ends (Return x)) v m = m
returned_used (Send c l) v m = not_in_none m
returned_used (Compute o x y) v m = not_in_none m
returned_used (Phi b x c y) v m = not_in_none m
returned_used (Param n) v m = not_in_none m
returned_used (SelfParam c) v m = not_in_none m
returned_used (New c) v m = not_in_none m
returned_used (GetIvar n r) v m = not_in_none m
returned_used (SetIvar n r x) v m = not_in_none m

any_insn : (j : ℕ) (l : List Opnd) → Insn j ∈ l → any (same_opnd (Insn j)) l ≡ true
any_insn j [] m = not_in_none m
any_insn j (v ∷ l) m = go (Memᴰ.cases_cons m) (λ n. any_insn j l n)
  where
    go : (Insn j ≡ v) ⊎ (Insn j ∈ l) → (Insn j ∈ l → any (same_opnd (Insn j)) l ≡ true) → (same_opnd (Insn j) v || any (same_opnd (Insn j)) l) ≡ true
    go (inl e) ih = subst (λ (w : Opnd). (same_opnd (Insn j) w || any (same_opnd (Insn j)) l) ≡ true) e (rw (eqb-self j) refl)
    go (inr n) ih = or_right (same_opnd (Insn j) v) _ (ih n)

-- ---- the members of a set are met once

members_from_lem : (a w d i s : ℕ) → sum (λ c. cond (eqb a c) w 0) (members_from d i s) ≤ sum (λ c. cond (eqb a c) w 0) (from i d)
unfolding members_from
members_from_lem a w zero i s = omega arith
members_from_lem a w (suc d) i s = go (s % 2) (members_from_lem a w d (suc i) (s / 2))
  where
    go : (b : ℕ) → sum (λ c. cond (eqb a c) w 0) (members_from d (suc i) (s / 2)) ≤ sum (λ c. cond (eqb a c) w 0) (from (suc i) d)
        → sum (λ c. cond (eqb a c) w 0) (Rattle.ids.specs.Sets.keep b i (members_from d (suc i) (s / 2))) ≤ cond (eqb a i) w 0 + sum (λ c. cond (eqb a c) w 0) (from (suc i) d)
    go zero h = omega arith
    go (suc b) h = omega arith

members_few : (a w d i s : ℕ) → sum (λ c. cond (eqb a c) w 0) (members_from d i s) ≤ w
members_few a w d i s = omega (arith, members_from_lem a w d i s, eqb_once a i d w)

members_once : (a w s : ℕ) → sum (λ c. cond (eqb a c) w 0) (members_of s) ≤ w
unfolding members_of
members_once a w s = members_few a w 64 0 s

module _ (p : Program) where
  abbrev none-there : Instruction
  none-there = record { block = 0; op = New 0 }

  pub tables : Tables p
  unfolding code uses
  tables = record {
    code_in = λ b i m. let a = places-∈ none-there (λ (x : Instruction). eqb x.block b) p.instructions i m in (a.0, eqb-true (block_of p i) b a.1);
    in_code = λ i h. ∈-places none-there (λ (x : Instruction). eqb x.block (block_of p i)) p.instructions i h (eqb-self (block_of p i));
    uses_in = λ j i m. (places-∈ none-there (λ (x : Instruction). any (same_opnd (Insn j)) (about x.op).operands) p.instructions i m).0;
    in_uses = λ j i h m. ∈-places none-there (λ (x : Instruction). any (same_opnd (Insn j)) (about x.op).operands) p.instructions i h (any_insn j (about (op_of p i)).operands m);
  }

  method_is : (c : ℕ) (n : Name) (f : ℕ) → method_named p c n ≡ some f → (f < length p.functions) × (is_just (function p f).class c ≡ true)
  unfolding method_named
  method_is c n f e =
      let a = places-∈ (record { name = []; class = none; entry = 0 }) (λ (f : Function). is_just f.class c && same f.name n) p.functions f (first_in _ e) in
      (a.0, and_left _ _ a.1)

  ivar_is : (c : ℕ) (n : Name) (a : ℕ) → ivar_named p c n ≡ some a → (c < length p.classes) × (a < length (class p c).ivars)
  unfolding ivar_named
  ivar_is c n a e =
      let m = places-∈ [] (λ (x : Name). same x n) (class p c).ivars a (first_in _ e) in
      (go (less_or c (length p.classes)) m.0, m.0)
    where
      go : (c < length p.classes) ⊎ (length p.classes ≤ c) → a < length (class p c).ivars → c < length p.classes
      go (inl h) l = h
      go (inr h) l = absurd (let z = subst (λ (x : Rattle.rules.specs.Program.Class). a < length x.ivars) (get_or-eq_default p.classes built_in h) l in omega arith)

  pub main_in : 0 < length p.functions → main_function p < length p.functions
  unfolding main_function
  main_in h = go (final mains) refl
    where
      mains : List ℕ
      mains = places (λ (f : Function). same f.name (bytes "main") && not (has f.class)) p.functions

      go : (o : Option ℕ) → final mains ≡ o → or_else o 0 < length p.functions
      go none e = h
      go (some f) e = (places-∈ (record { name = []; class = none; entry = 0 }) (λ (f : Function). same f.name (bytes "main") && not (has f.class)) p.functions f (final_in mains e)).0

  -- ---- constants

  constant_fine : (k : Kind) → good_constant p k ≡ true → Fine (length p.classes) (length p.functions) k
  constant_fine k e = record { good = good k e; fits = and_right (leb 1 (tag_of k) && leb (tag_of k) 5) (fits_of k) (and_left _ (all (is_function p) (to_list (function_in k))) (and_left _ (all (is_class p) (to_list (class_in k))) e)); names = names (function_in k) (class_in k) (leb 1 (tag_of k) && leb (tag_of k) 5 && fits_of k) e }
    where
      below : (o : Option ℕ) → all (is_class p) (to_list o) ≡ true → all (λ c. ltb c (length p.classes)) (to_list o) ≡ true
      below none h = refl
      below (some c) h = rw (and_right (leb 4 c) (ltb c (length p.classes)) (and_left (is_class p c) true h)) refl

      names : (o q : Option ℕ) (b : 𝔹) → (b && all (is_function p) (to_list o) && all (is_class p) (to_list q)) ≡ true
          → (all (λ f. ltb f (length p.functions)) (to_list o) && all (λ c. ltb c (length p.classes)) (to_list q)) ≡ true
      names o q b h = rw (and_right b (all (is_function p) (to_list o)) (and_left _ (all (is_class p) (to_list q)) h)) (below q (and_right _ (all (is_class p) (to_list q)) h))

      good : (k : Kind) → good_constant p k ≡ true → Good (length p.classes) k
      good Empty e = tt
      good Nil e = tt
      good (Num n) e = tt
      good (Truth t) e = tt
      good (Fun f) e = tt
      good (Class c) e = tt
      good Int e = tt
      good Bool e = tt
      good (Objects s) e = absurd (false≢true e)
      good Any e = tt

  opnd_fine : (i : ℕ) (v : Opnd) → good_opnd p i v ≡ true → FineOpnd (length p.classes) (length p.functions) v
  opnd_fine i (Const k) e = constant_fine k e
  opnd_fine i (Insn j) e = tt

module _ {L : Limits} {p : Program} (R : Finished L p) where
  block_in : (f b : ℕ) → is_block_of p f b ≡ true → b < length p.blocks
  block_in f b e = lt_of b (length p.blocks) (and_left (ltb b (length p.blocks)) (eqb (function_at p b) f) e)

  entry_of : (f : ℕ) → f < length p.functions → is_block_of p f (entry p f) ≡ true
  unfolding good_function
  entry_of f h = and_left (is_block_of p f (entry p f)) (all (good_method p f) (to_list (function p f).class)) (R.functions f h)

  pub entry_in : (f : ℕ) → f < length p.functions → entry p f < length p.blocks
  entry_in f h = block_in f (entry p f) (entry_of f h)

  -- a function's own entry: it is of no other function
  entry-own : (f : ℕ) → f < length p.functions → function_at p (entry p f) ≡ f
  entry-own f h = eqb-true (function_at p (entry p f)) f (and_right (ltb (entry p f) (length p.blocks)) (eqb (function_at p (entry p f)) f) (entry_of f h))

  op-good : (i : ℕ) → i < length p.instructions → good_op p i (function_of p i) (op_of p i) ≡ true
  unfolding good_instruction
  op-good i h = and_right (ltb (block_of p i) (length p.blocks) && all (good_opnd p i) (about (op_of p i)).operands) (good_op p i (function_of p i) (op_of p i)) (R.instructions i h)

  operands-good : (i : ℕ) → i < length p.instructions → all (good_opnd p i) (about (op_of p i)).operands ≡ true
  unfolding good_instruction
  operands-good i h = and_right (ltb (block_of p i) (length p.blocks)) (all (good_opnd p i) (about (op_of p i)).operands) (and_left _ (good_op p i (function_of p i) (op_of p i)) (R.instructions i h))

  pub block_of_in : (i : ℕ) → i < length p.instructions → block_of p i < length p.blocks
  unfolding good_instruction
  block_of_in i h = lt_of (block_of p i) (length p.blocks) (and_left (ltb (block_of p i) (length p.blocks)) (all (good_opnd p i) (about (op_of p i)).operands) (and_left _ (good_op p i (function_of p i) (op_of p i)) (R.instructions i h)))

  arms_in_lem : (f : ℕ) (x : Terminator) → good_terminator p f x ≡ true → (ks : List Kind) (t : ℕ) → t ∈ arms_in ks x → t < length p.blocks
  arms_in_lem f (Jump b) e ks t m = rw (∈-one m) (block_in f b e)
  arms_in_lem f (IfTrue v x y) e ks t m =
      pick (admits true (kind_in ks v)) x _ (block_in f x (and_left (is_block_of p f x) (is_block_of p f y) e))
      (λ n. pick (admits false (kind_in ks v)) y [] (block_in f y (and_right (is_block_of p f x) (is_block_of p f y) e)) (λ n. not_in_none n) n) m
    where
      pick : (b : 𝔹) (x : ℕ) (l : List ℕ) → x < length p.blocks → (t ∈ l → t < length p.blocks) → t ∈ cons_if b x l → t < length p.blocks
      pick true x l h g m = ∈-cons (λ z. z < length p.blocks) h g m
      pick false x l h g m = g m
  arms_in_lem f (Return v) e ks t m = not_in_none m

  class_in_lem : (c : ℕ) → is_class p c ≡ true → (4 ≤ c) × (c < length p.classes)
  class_in_lem c e = (le_of 4 c (and_left (leb 4 c) (ltb c (length p.classes)) e), lt_of c (length p.classes) (and_right (leb 4 c) (ltb c (length p.classes)) e))

  operand_fine : (i : ℕ) (v : Opnd) → i < length p.instructions → v ∈ (about (op_of p i)).operands → FineOpnd (length p.classes) (length p.functions) v
  operand_fine i v h m = opnd_fine p i v (all_in (good_opnd p i) (about (op_of p i)).operands (operands-good i h) m)

  returned_fine : (f : ℕ) (v : Opnd) → v ∈ returns p f → FineOpnd (length p.classes) (length p.functions) v
  unfolding returns
  returned_fine f v m =
      let a = concat-∈ (map mine p.instructions) m in
      let b = map-∈ mine p.instructions a.1 in
      let c = in_index (none-there p) p.instructions b.1 in
      operand_fine c.0 v c.1 (returned_used (op_of p c.0) v (pick (eqb (function_at p b.0.block) f) c.0 b.0 c.2 (subst (λ (l : List Opnd). v ∈ l) b.2 a.2)))
    where
      mine : Instruction → List Opnd
      mine x = elim (eqb (function_at p x.block) f) [ true ↦ to_list (returned x.op) | false ↦ [] ]

      pick : (b : 𝔹) (i : ℕ) (x : Instruction) → get_or p.instructions i (none-there p) ≡ x → v ∈ elim b [ true ↦ to_list (returned x.op) | false ↦ [] ] → v ∈ to_list (returned (op_of p i))
      pick true i x e m = subst (λ (z : Instruction). v ∈ to_list (returned z.op)) (sym e) m
      pick false i x e m = not_in_none m

  params_in : (f x : ℕ) → x ∈ parameters p f → (x < length p.instructions) × (is_param (op_of p x) ≡ true)
  unfolding parameters
  params_in f x m = let a = keep-∈ (λ i. has (about (op_of p i)).place) (code p (entry p f)) m in (((tables p).code_in (entry p f) x a.0).0, a.1)

  params_of : (f x : ℕ) → f < length p.functions → x ∈ parameters p f → function_of p x ≡ f
  unfolding parameters
  params_of f x h m = let a = keep-∈ (λ i. has (about (op_of p i)).place) (code p (entry p f)) m in ap (function_at p) ((tables p).code_in (entry p f) x a.0).1 ∙ entry-own f h

  in_returns : (x : ℕ) (v : Opnd) → x < length p.instructions → op_of p x ≡ Ends (Return v) → v ∈ returns p (function_of p x)
  unfolding returns
  in_returns x v h e =
      ∈-concat (map mine p.instructions) (∈-map mine p.instructions (index_in (none-there p) p.instructions x h))
      (subst (λ (o : Op). v ∈ elim (eqb (function_of p x) (function_of p x)) [ true ↦ to_list (returned o) | false ↦ [] ]) (sym e) (rw (eqb-self (function_of p x)) (Memᴰ.head refl)))
    where
      mine : Instruction → List Opnd
      mine y = elim (eqb (function_at p y.block) (function_of p x)) [ true ↦ to_list (returned y.op) | false ↦ [] ]

  -- ---- how many parameters

  -- a function's Params, as a sum over all instructions
  params-sum : (f : ℕ) → f < length p.functions → length (parameters p f) ≤ sum (λ i. cond (is_param (op_of p i)) (cond (eqb (function_of p i) f) 1 0) 0) (from 0 (length p.instructions))
  unfolding parameters code
  params-sum f h =
      let a = sum_ones (keep (λ i. is_param (op_of p i)) (code p (entry p f))) in
      let b = sum-keep-cond (λ i. is_param (op_of p i)) (λ i. 1) (code p (entry p f)) in
      let c = sum-places (none-there p) (λ (x : Instruction). eqb x.block (entry p f)) (λ i. cond (is_param (op_of p i)) 1 0) p.instructions in
      let d = sum_le (λ i. cond (eqb (block_of p i) (entry p f)) (cond (is_param (op_of p i)) 1 0) 0) (λ i. cond (is_param (op_of p i)) (cond (eqb (function_of p i) f) 1 0) 0) (from 0 (length p.instructions)) (λ i. each i (eqb (block_of p i) (entry p f)) refl (is_param (op_of p i))) in
      omega (arith, a, b, c, d)
    where
      each : (i : ℕ) (b : 𝔹) → eqb (block_of p i) (entry p f) ≡ b → (c : 𝔹) → cond b (cond c 1 0) 0 ≤ cond c (cond (eqb (function_of p i) f) 1 0) 0
      each i false e c = omega arith
      each i true e false = omega arith
      each i true e true =
          let q : function_of p i ≡ f = ap (function_at p) (eqb-true (block_of p i) (entry p f) e) ∙ entry-own f h in
          rw (q, eqb-self f) (omega arith)

  cond-under : (a b : 𝔹) → cond a (cond b 1 0) 0 ≤ cond a 1 0
  cond-under true true = omega arith
  cond-under true false = omega arith
  cond-under false b = omega arith

  params_few : (f : ℕ) → f < length p.functions → length (parameters p f) ≤ params# p
  params_few f h =
      omega (arith, params-sum f h, sum_le (λ i. cond (is_param (op_of p i)) (cond (eqb (function_of p i) f) 1 0) 0) (λ i. cond (is_param (op_of p i)) 1 0) (from 0 (length p.instructions)) (λ i. cond-under (is_param (op_of p i)) (eqb (function_of p i) f)), number-sum p (λ o. has (about o).place) 1)

  -- a method belongs to one class: so all methods of a name in different classes have no more Params than there are
  abbrev of_class : ℕ → ℕ → ℕ
  of_class c i = cond (is_param (op_of p i)) (cond (is_just (function p (function_of p i)).class c) 1 0) 0

  class-params : (c : ℕ) (n : Name) → sum (λ f. length (parameters p f)) (to_list (method_named p c n)) ≤ sum (of_class c) (from 0 (length p.instructions))
  class-params c n = go (method_named p c n) refl
    where
      go : (o : Option ℕ) → method_named p c n ≡ o → sum (λ f. length (parameters p f)) (to_list o) ≤ sum (of_class c) (from 0 (length p.instructions))
      go none e = omega arith
      go (some f) e =
          let m = method_is p c n f e in
          omega (arith, params-sum f m.0, sum_le (λ i. cond (is_param (op_of p i)) (cond (eqb (function_of p i) f) 1 0) 0) (of_class c) (from 0 (length p.instructions)) (λ i. each i m.1 (is_param (op_of p i)) (eqb (function_of p i) f) refl))
        where
          each : (i : ℕ) → is_just (function p f).class c ≡ true → (a b : 𝔹) → eqb (function_of p i) f ≡ b → cond a (cond b 1 0) 0 ≤ cond a (cond (is_just (function p (function_of p i)).class c) 1 0) 0
          each i h false b q = omega arith
          each i h true false q = omega arith
          each i h true true q = rw (eqb-true (function_of p i) f q, h) (omega arith)

  methods_few : (s : ℕ) (n : Name) → sum (λ c. sum (λ f. length (parameters p f)) (to_list (method_named p c n))) (members_of s) ≤ params# p
  methods_few s n =
      let a = sum_le (λ c. sum (λ f. length (parameters p f)) (to_list (method_named p c n))) (λ c. sum (of_class c) (from 0 (length p.instructions))) (members_of s) (λ c. class-params c n) in
      let b = sum_swap (λ c i. of_class c i) (members_of s) (from 0 (length p.instructions)) in
      let c = sum_le (λ i. sum (λ c. of_class c i) (members_of s)) (λ i. cond (is_param (op_of p i)) 1 0) (from 0 (length p.instructions)) (λ i. each (is_param (op_of p i)) (function p (function_of p i)).class) in
      omega (arith, a, b, c, number-sum p (λ o. has (about o).place) 1)
    where
      zeros : (l : List ℕ) → sum (λ (c : ℕ). cond false 1 0) l ≤ 0
      zeros [] = omega arith
      zeros (x ∷ l) = omega (arith, zeros l)

      each : (a : 𝔹) (o : Option ℕ) → sum (λ c. cond a (cond (is_just o c) 1 0) 0) (members_of s) ≤ cond a 1 0
      each false o = omega (arith, sum-none (members_of s))
      each true none = omega (arith, zeros (members_of s))
      each true (some d) = members_once d 1 s

  pub formed : Laws (length p.classes) (length p.functions) → Formed p
  formed K = record {
    tables = tables p;
    entry_in = entry_in;
    arms_in_lem = λ i x h q. arms_in_lem (function_of p i) x (subst (λ (o : Op). good_op p i (function_of p i) o ≡ true) q (op-good i h));
    static_in = λ i f l h q. lt_of f (length p.functions) (subst (λ (o : Op). good_op p i (function_of p i) o ≡ true) q (op-good i h));
    method_in = λ c n f e. (method_is p c n f e).0;
    ivar_in_lem = λ c n a e. ivar_is p c n a e;
    operand_fine = operand_fine;
    listed_fine = λ i v h m. operand_fine i v h (listed_used (op_of p i) v m);
    returned_fine = returned_fine;
    new_fine = λ i c h q. let a = class_in_lem c (subst (λ (o : Op). good_op p i (function_of p i) o ≡ true) q (op-good i h)) in K.fine_object c a.0 a.1;
    self_fine = λ i c h q. let a = class_in_lem c (and_left (is_class p c) _ (and_left _ (is_just (first (code p (entry p (function_of p i)))) i) (subst (λ (o : Op). good_op p i (function_of p i) o ≡ true) q (op-good i h)))) in K.fine_object c a.0 a.1;
    params_in = params_in;
    params_of = params_of;
    in_returns = in_returns;
    params_few = params_few;
    methods_few = methods_few;
  }
