-- Which numbers the analysis refuses with: those of its own questions, 12 to 20, but never 18. Assumes nothing.
use Prim.Native.Nat.{ℕ, zero, suc, ◌≤◌}
use native.Mathlib.Omega.{arith}
use mathlib.Core.Path.{◌≡◌, refl}
use mathlib.Core.Bool.{Bool as 𝔹, true, false, not, cond}
use mathlib.Core.Option.{Option, none, some}
use mathlib.Core.List.{List, [], ◌∷◌, map}
use lib.Dec.{eqb, ltb, leb}
use lib.ListN.{length, get_or}
use Rattle.kinds.specs.declared.Kind.{Kind}
use Rattle.kinds.specs.declared.Kind.TheVariants.{Empty}
use Rattle.std.specs.Prelude.{Ok, Err}
use Rattle.refusals.specs.declared.Refusal.{Refusal}
use Rattle.refusals.specs.declared.Refusal.TheVariants.{KindsClash}
use Rattle.refusals.specs.Refusals.{number_of as question_of}
use Rattle.kinds.specs.Kinds.{same_kind, is_empty}
use Rattle.kinds.specs.Union.{Joined, union_of, union_all}
use Rattle.kinds.specs.Rules.{arith_of, admits}
use Rattle.kinds.proofs.Laws.{union-refused, all-refused}
use Rattle.kinds.proofs.Growth.{arith-refused}
use Rattle.rules.specs.Actions.{Answer, answered, refused, lift, needed, each, fold}
use Rattle.rules.specs.Lists.{has, keep, places, is_just_name}
use Rattle.rules.specs.Uses.{uses}
use Rattle.rules.specs.Values.{to_answer, classes_in}
use Rattle.rules.specs.Program.{Limits, Name, Opnd, Terminator, Jump, IfTrue, Return, Static, Dynamic, Op, Ends, Send, Compute, Phi, Param, SelfParam, New, GetIvar, SetIvar, Program, about, function, op_of, block_of, function_of, code, method_named, ivar_named, parameters, class, constructor_of, entry}
use Rattle.rules.specs.Constructors.{first_kinds, declared, reverse_post_order}
use Rattle.rules.specs.Machine.{State, Acts, set_kind, set_live, set_ivar_kind, callers_of, marked, kind_of, join_all, classes_of, push_insn, push_block, wake_if_wider, store, add_call, pass_arguments, leave, get_ivar, set_ivar, rule, visit, go_live, state_of, take_block, take_insn, drain_block, step, run, start, at_rest, first_kinds_from}
use Rattle.rules.proofs.Wellformed.Laws.{Comes, done, refusing, and_then, asks, asked, chosen}

abbrev pub Asked : ℕ → Type 0
Asked n = (12 ≤ n) × (n ≤ 20) × (n ≡ 18 → ⊥)

abbrev pub Anything : {A : Type 0} → A → Type 0
Anything x = Unit {0}

-- refuses, if at all, with such a number
abbrev pub Fine : {A : Type 0} → Answer A → Type 0
Fine a = Comes Asked Anything a

each_fine : {A : Type 0} (l : List A) (f : A → Acts (Unit {0})) → ((x : A) (s : State) → Fine (f x s)) → (s : State) → Fine (each l f s)
each_fine [] f h s = done tt
each_fine (x ∷ l) f h s = and_then (h x s) (λ r q. each_fine l f h r.1)

fold_fine : {A B : Type 0} (f : B → A → Acts B) → ((b : B) (x : A) (s : State) → Fine (f b x s)) → (b : B) (l : List A) (s : State) → Fine (fold f b l s)
fold_fine f h b [] s = done tt
fold_fine f h b (x ∷ l) s = and_then (h b x s) (λ r q. fold_fine f h r.0 l r.1)

joined_fine : (j : Joined) → ((e : Refusal) → j ≡ Err e → Asked (question_of e)) → (s : State) → Fine (lift (to_answer j) s)
joined_fine (Ok k) h s = done tt
joined_fine (Err e) h s = refusing (h e refl)

nineteen : (e : Refusal) → e ≡ KindsClash → Asked (question_of e)
nineteen e h = rw h (omega arith, omega arith, λ z. omega arith)

union_fine : (a b : Kind) (s : State) → Fine (lift (to_answer (union_of a b)) s)
union_fine a b s = joined_fine (union_of a b) (λ r e. nineteen r (union-refused a b r e).0) s

join_all_fine : (l : List Opnd) (s : State) → Fine (join_all l s)
unfolding join_all
join_all_fine l s = joined_fine (union_all Empty (map (kind_of s) l)) (λ r e. nineteen r (all-refused Empty (map (kind_of s) l) r e)) s

needed_fine : {A : Type 0} (n : ℕ) (o : Option A) (s : State) → Asked n → Fine (needed n o s)
needed_fine n none s h = refusing h
needed_fine n (some x) s h = done tt

classes_fine : (v : Opnd) (s : State) → Fine (classes_of v s)
unfolding classes_of
classes_fine v s = and_then (needed_fine 14 (classes_in (kind_of s v)) s (omega arith, omega arith, λ z. omega arith)) (λ r q. done tt)

module _ (L : Limits) (p : Program) where
  push_insn_fine : (i : ℕ) (s : State) → Fine (push_insn L p i s)
  unfolding push_insn
  push_insn_fine i s = asks 20 (ltb (length s.insn_worklist) L.worklist) s _ (omega arith, omega arith, λ z. omega arith) (λ _. done tt)

  push_block_fine : (b : ℕ) (s : State) → Fine (push_block L p b s)
  unfolding push_block
  push_block_fine b s = asks 20 (ltb (length s.block_worklist) L.worklist) s _ (omega arith, omega arith, λ z. omega arith) (λ _. done tt)

  wake_fine : (k : Kind) (i : ℕ) (s : State) → Fine (wake_if_wider L p k i s)
  unfolding wake_if_wider
  wake_fine k i s = and_then (union_fine (get_or s.kinds i Empty) k s) (λ r q. chosen (same_kind r.0 (get_or s.kinds i Empty)) _ _ (λ _. done tt) (λ _. push_insn_fine i r.1))

  store_fine : (i : ℕ) (k : Kind) (s : State) → Fine (store L p i k s)
  unfolding store
  store_fine i k s =
      and_then (union_fine (get_or s.kinds i Empty) k s)
      (λ r q. chosen (same_kind r.0 (get_or s.kinds i Empty)) _ _ (λ _. done tt)
      (λ _. each_fine (keep (λ j. get_or r.1.live (block_of p j) false) (uses p i)) (push_insn L p) push_insn_fine (set_kind i k r.1)))

  add_call_fine : (i f : ℕ) (s : State) → Fine (add_call L p i f s)
  unfolding add_call
  add_call_fine i f s =
      chosen (marked s.called_by f i) _ _ (λ _. done tt)
      (λ _. and_then (push_block_fine _ _) (λ r q. asked 16 (leb (length (parameters p f)) (length (about (op_of p i)).listed)) r.1 (omega arith, omega arith, λ z. omega arith) (λ _. tt)))

  pass_fine : (i f : ℕ) (s : State) → Fine (pass_arguments L p i f s)
  unfolding pass_arguments
  pass_fine i f s = each_fine (parameters p f) _ (λ x t. wake_fine _ x t) s

  leave_fine : (i : ℕ) (t : Terminator) (s : State) → Fine (leave L p i t s)
  unfolding leave
  leave_fine i (Jump b) s = push_block_fine b s
  leave_fine i (IfTrue v t e) s =
      and_then (chosen (not (admits true (kind_of s v))) _ _ (λ _. done tt) (λ _. push_block_fine t s))
      (λ r q. chosen (not (admits false (kind_of s v))) _ _ (λ _. done tt) (λ _. push_block_fine e r.1))
  leave_fine i (Return v) s = chosen (is_empty (kind_of s v)) _ _ (λ _. done tt) (λ _. each_fine (callers_of L p s (function_of p i)) (wake_if_wider L p (kind_of s v)) (wake_fine (kind_of s v)) s)

  get_ivar_fine : (n : Name) (k : Kind) (c : ℕ) (s : State) → Fine (get_ivar L p n k c s)
  unfolding get_ivar
  get_ivar_fine n k c s = and_then (needed_fine 15 (ivar_named p c n) s (omega arith, omega arith, λ z. omega arith)) (λ r q. union_fine k _ r.1)

  set_ivar_fine : (n : Name) (k : Kind) (c : ℕ) (s : State) → Fine (set_ivar L p n k c s)
  unfolding set_ivar
  set_ivar_fine n k c s =
      and_then (needed_fine 15 (ivar_named p c n) s (omega arith, omega arith, λ z. omega arith))
      (λ r q. and_then (union_fine (get_or (get_or r.1.ivar_kinds c []) r.0 Empty) k r.1)
      (λ t q. chosen (same_kind t.0 (get_or (get_or r.1.ivar_kinds c []) r.0 Empty)) _ _ (λ _. done tt)
      (λ _. each_fine (keep (λ i. is_just_name (about (op_of p i)).gets n) (places (λ b. b) (get_or t.1.ivar_reads c []))) (push_insn L p) push_insn_fine (set_ivar_kind c r.0 t.0 t.1))))

  rule_fine : (i : ℕ) (o : Op) (s : State) → Fine (rule L p i o s)
  unfolding rule
  rule_fine i (Ends t) s = and_then (leave_fine i t s) (λ r q. done tt)
  rule_fine i (Send (Static f) l) s =
      and_then (add_call_fine i f s) (λ r q. asks 17 (not (has (function p f).class)) r.1 _ (omega arith, omega arith, λ z. omega arith)
      (λ _. and_then (pass_fine i f r.1) (λ t q. join_all_fine _ t.1)))
  rule_fine i (Send (Dynamic v n) l) s =
      and_then (classes_fine v s) (λ r q. and_then (each_fine r.0 _ (λ c t. and_then (needed_fine 15 (method_named p c n) t (omega arith, omega arith, λ z. omega arith))
      (λ f q. and_then (add_call_fine i f.0 f.1) (λ u q. pass_fine i f.0 u.1))) r.1) (λ t q. join_all_fine _ t.1))
  rule_fine i (Compute o v w) s = joined_fine (arith_of o (kind_of s v) (kind_of s w)) (λ r e. nineteen r (arith-refused o (kind_of s v) (kind_of s w) r e).0) s
  rule_fine i (Phi b v c w) s = join_all_fine _ s
  rule_fine i (Param n) s = join_all_fine _ s
  rule_fine i (SelfParam c) s = done tt
  rule_fine i (New c) s = done tt
  rule_fine i (GetIvar n v) s = and_then (classes_fine v s) (λ r q. and_then (each_fine r.0 _ (λ c t. done tt) r.1) (λ t q. fold_fine (get_ivar L p n) (get_ivar_fine n) Empty r.0 t.1))
  rule_fine i (SetIvar n v w) s = and_then (classes_fine v s) (λ r q. and_then (each_fine r.0 _ (λ c t. set_ivar_fine n _ c t) r.1) (λ t q. done tt))

  visit_fine : (i : ℕ) (s : State) → Fine (visit L p i s)
  unfolding visit
  visit_fine i s = and_then (rule_fine i (op_of p i) s) (λ r q. store_fine i r.0 r.1)

  live_fine : (b : ℕ) (s : State) → Fine (go_live L p b s)
  unfolding go_live
  live_fine b s = chosen (get_or s.live b false) _ _ (λ _. done tt) (λ _. each_fine (code p b) (push_insn L p) push_insn_fine (set_live b s))

  state_fine : (a : Answer (Unit {0} × State)) → Fine a → Fine (state_of L p a)
  state_fine (answered r) h = done tt
  state_fine (refused n) h = refusing (h.refuses n refl)

  block_fine : (l : List ℕ) (s : State) → Fine (take_block L p l s)
  block_fine [] s = done tt
  block_fine (b ∷ w) s = state_fine _ (live_fine b _)

  insn_fine : (l : List ℕ) (s : State) → Fine (take_insn L p l s)
  insn_fine [] s = block_fine s.block_worklist s
  insn_fine (i ∷ q) s = state_fine _ (visit_fine i _)

  drain_fine : (l : List ℕ) (s : State) → Fine (drain_block L p l s)
  drain_fine [] s = insn_fine s.insn_worklist s
  drain_fine (b ∷ w) s = block_fine (b ∷ w) s

  step_fine : (s : State) → Fine (step L p s)
  unfolding step
  step_fine s = go s.draining
    where
      go : (d : 𝔹) → Fine (cond d (drain_block L p s.block_worklist) (take_insn L p s.insn_worklist) s)
      go true = drain_fine s.block_worklist s
      go false = insn_fine s.insn_worklist s

  pub run_fine : (n : ℕ) (s : State) → Fine (run L p n s)
  unfolding run
  run_fine zero s = done tt
  run_fine (suc n) s = chosen (at_rest s) _ _ (λ _. done tt) (λ _. and_then (step_fine s) (λ t q. run_fine n t))

  first_fine : (c : ℕ) → Fine (first_kinds p c)
  unfolding first_kinds
  first_fine c = go (constructor_of p c)
    where
      pick : (b : 𝔹) (l : List Kind) → Fine (cond b (answered l) (refused 13))
      pick true l = done tt
      pick false l = refusing (omega arith, omega arith, λ z. omega arith)

      go : (o : Option ℕ) → Fine {A = List Kind} (elim o [
        | none ↦ answered (map (λ n. Rattle.kinds.specs.declared.Kind.TheVariants.Nil) (class p c).ivars)
        | some f ↦ let blocks = reverse_post_order p (entry p f) in
            cond (declared p c blocks) (answered (map (λ n. Rattle.rules.specs.Constructors.first_kind p (Rattle.rules.specs.Constructors.initialized p blocks n)) (class p c).ivars)) (refused 13)
      ])
      go none = done tt
      go (some f) = pick (declared p c (reverse_post_order p (entry p f))) _

  firsts_fine : (n c : ℕ) → Fine (first_kinds_from L p c n)
  firsts_fine zero c = done tt
  firsts_fine (suc n) c = and_then (first_fine c) (λ k q. and_then (firsts_fine n (suc c)) (λ l q. done tt))

  pub start_fine : Fine (start L p)
  unfolding start
  start_fine =
      chosen (eqb (length p.functions) 0) _ _ (λ _. refusing (omega arith, omega arith, λ z. omega arith))
      (λ _. and_then (firsts_fine (length p.classes) 0) (λ l q. state_fine _ (live_fine _ _)))
