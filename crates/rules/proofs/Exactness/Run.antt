-- Steps and runs: each entry taken off lowers the potential, and at rest a block is live exactly when it is reached. Assumes nothing.
use Prim.Native.Nat.{ℕ, zero, suc, ◌+◌, ◌≤◌, ◌<◌}
use native.Mathlib.Omega.{arith}
use mathlib.Core.Path.{◌≡◌, refl, sym, ap, ◌∙◌, subst}
use mathlib.Core.Logic.{◌⊎◌, inl, inr, ◌↔◌}
use mathlib.Core.Bool.{Bool as 𝔹, true, false, cond, true≢false, false≢true}
use mathlib.Core.Option.{Option, none, some}
use mathlib.Core.List.Memᴰ
use mathlib.Core.List.{List, [], ◌∷◌, ◌++◌, map}
use lib.ListN.{length, get_or}
use Rattle.ids.specs.Sets.{members_of}
use Rattle.kinds.specs.declared.Kind.{Kind}
use Rattle.kinds.specs.declared.Kind.TheVariants.{Empty}
use Rattle.kinds.specs.Rules.{admits}
use Rattle.rules.specs.Actions.{Answer, answered, refused, if_answered}
use Rattle.rules.specs.Lists.{has, sum, to_list, cons_if}
use Rattle.rules.specs.Values.{classes_in}
use Rattle.rules.specs.Program.{Limits, Opnd, Terminator, Jump, IfTrue, Return, Static, Dynamic, Op, Ends, Send, Compute, Phi, Param, SelfParam, New, GetIvar, SetIvar, Program, op_of, entry, code, method_named, function_of, parameters}
use Rattle.rules.specs.Machine.{State, with_insns, set_live, taken, at_rest, kind_of, visit, go_live, state_of, take_block, take_insn, drain_block, step, run, marked, place_of, argument}
use Rattle.rules.specs.Steps.{arms, classes, targets, Reached}
use Rattle.rules.proofs.Exactness.Sums.{◌∈◌, not_in_none, ∈-append, ∈-one, ∈-map, map-∈, ∈-concat, concat-∈, any-∈, ∈-any, sum-++, eqb-true}
use Rattle.rules.proofs.Exactness.Laws.{Laws, wide_classes, Le}
use Rattle.rules.proofs.Exactness.Answers.{answer, never, after, go_live-is}
use Rattle.rules.proofs.Exactness.Grow.{kind_in, kind-is, is_live, arms_in, Leads, Reach}
use Rattle.rules.proofs.Exactness.Flows.{wide_is}
use Rattle.rules.proofs.Exactness.Data.{Placed, Held, Busy}
use Rattle.rules.proofs.Exactness.Invariant.{Passed, Soon, Done, Inv, inv_take_insn, inv_again, inv_open}
use Rattle.rules.proofs.Exactness.Potential.{weight_pos, calls#, params#, W, pot, pot_live}
use Rattle.rules.proofs.Exactness.Visit.{Formed, visited}

-- ---- runs in portions

rest_cases : (b : 𝔹) → (b ≡ true) ⊎ (b ≡ false)
rest_cases true = inl refl
rest_cases false = inr refl

module _ (L : Limits) (p : Program) where
  pub run_none : (s : State) → run L p 0 s ≡ answered s
  unfolding run
  run_none s = refl

  pub run-rest : (n : ℕ) (s : State) → at_rest s ≡ true → run L p n s ≡ answered s
  unfolding run
  run-rest zero s e = refl
  run-rest (suc n) s e = rw e refl

  pub run_step : (n : ℕ) (s : State) → at_rest s ≡ false → run L p (suc n) s ≡ if_answered (step L p s) (run L p n)
  unfolding run
  run_step n s e = rw e refl

  -- m steps, then n
  pub run-add : (m n : ℕ) (s : State) → run L p (m + n) s ≡ if_answered (run L p m s) (run L p n)
  run-add zero n s = let z : 0 + n ≡ n = omega arith in rw (z, run_none s) refl
  run-add (suc m) n s = go (rest_cases (at_rest s)) (λ t. run-add m n t)
    where
      assoc : (a : Answer State) → ((t : State) → run L p (m + n) t ≡ if_answered (run L p m t) (run L p n)) → if_answered a (run L p (m + n)) ≡ if_answered (if_answered a (run L p m)) (run L p n)
      assoc (answered t) h = h t
      assoc (refused k) h = refl

      go : (at_rest s ≡ true) ⊎ (at_rest s ≡ false) → ((t : State) → run L p (m + n) t ≡ if_answered (run L p m t) (run L p n)) → run L p (suc m + n) s ≡ if_answered (run L p (suc m) s) (run L p n)
      go (inl e) h = run-rest (suc m + n) s e ∙ sym (ap (λ (a : Answer State). if_answered a (run L p n)) (run-rest (suc m) s e) ∙ run-rest n s e)
      go (inr e) h =
          let z : suc m + n ≡ suc (m + n) = omega arith in
          ap (λ (k : ℕ). run L p k s) z ∙ run_step (m + n) s e ∙ assoc (step L p s) h ∙ sym (ap (λ (a : Answer State). if_answered a (run L p n)) (run_step m s e))

  once_is : (t : State) → at_rest t ≡ false → run L p 1 t ≡ step L p t
  once_is t e = run_step 0 t e ∙ go (step L p t)
    where
      go : (a : Answer State) → if_answered a (run L p 0) ≡ a
      go (answered u) = run_none u
      go (refused k) = refl

  -- an iteration of a loop: one more step where the run is not at rest
  pub run_more : (n : ℕ) (s t : State) → run L p n s ≡ answered t → at_rest t ≡ false → run L p (suc n) s ≡ step L p t
  run_more n s t e r =
      let z : suc n ≡ n + 1 = omega arith in
      ap (λ (k : ℕ). run L p k s) z ∙ run-add n 1 s ∙ ap (λ (a : Answer State). if_answered a (run L p 1)) e ∙ once_is t r

  -- the end of a loop: what is at rest stays, whatever fuel is left
  pub run-stop : (n m : ℕ) (s t : State) → run L p n s ≡ answered t → at_rest t ≡ true → run L p (n + m) s ≡ answered t
  run-stop n m s t e r = run-add n m s ∙ ap (λ (a : Answer State). if_answered a (run L p m)) e ∙ run-rest m t r

  -- and so does a refusal
  pub run-refused : (n m : ℕ) (s : State) (k : ℕ) → run L p n s ≡ refused k → run L p (n + m) s ≡ refused k
  run-refused n m s k e = run-add n m s ∙ ap (λ (a : Answer State). if_answered a (run L p m)) e

-- ---- one step

pub rested : (s : State) → at_rest s ≡ true → (s.insn_worklist ≡ []) × (s.block_worklist ≡ [])
rested s e = (none s.insn_worklist (omega (arith, q)), none s.block_worklist (omega (arith, q)))
  where
    q : length s.insn_worklist + length s.block_worklist ≡ 0
    q = eqb-true _ 0 e

    none : (l : List ℕ) → length l ≡ 0 → l ≡ []
    none [] h = refl
    none (x ∷ l) h = absurd (omega arith)

module _ (L : Limits) (p : Program) (K : Laws (length p.classes) (length p.functions)) (F : Formed p) where
  pub record Stepped (s t : State) : Type 0 where
    pub inv : Inv L p [] t
    pub count : t.count ≡ suc s.count
    pub cost : pot p t + 1 ≤ pot p s

  opened : (b : ℕ) (w : List ℕ) (s : State) (r : Unit {0} × State) → s.block_worklist ≡ b ∷ w → Inv L p [] s → go_live L p b (taken true s.insn_worklist w s) ≡ answered r → Stepped s r.1
  opened b w s r e v h = go (go_live-is L p b (taken true s.insn_worklist w s) h)
    where
      here : b < length p.blocks
      here = v.inside b (rw e (Memᴰ.head refl))

      long : length s.block_worklist ≡ suc (length w)
      long = ap length e

      new : State
      new = with_insns (s.insn_worklist ++ code p b) (set_live b (taken true s.insn_worklist w s))

      go : ((is_live s.live b ≡ true) × (r.1 ≡ taken true s.insn_worklist w s)) ⊎ ((is_live s.live b ≡ false) × (r.1 ≡ new)) → Stepped s r.1
      go (inl q) = rw q.1 (record { inv = inv_again K F.tables b w s e v q.0; count = refl; cost = omega (arith, long) })
      go (inr q) = rw q.1 (record {
        inv = inv_open K F.tables b w s e v;
        count = refl;
        cost = rw (sum-++ (W p) s.insn_worklist (code p b)) (omega (arith, long, pot_live p s.live b (rw v.sizes.live here) here q.0));
      })

  took : (i : ℕ) (q : List ℕ) (s : State) (r : Unit {0} × State) → s.insn_worklist ≡ i ∷ q → Inv L p [] s → visit L p i (taken false q s.block_worklist s) ≡ answered r → Stepped s r.1
  took i q s r e v h =
      let m : i ∈ s.insn_worklist = rw e (Memᴰ.head refl) in
      let a = visited L p K F i (taken false q s.block_worklist s) r (v.queued i m) (inv_take_insn K F.tables i q s e v) (v.fits i m) h in
      record { inv = a.inv; count = a.count; cost = omega (arith, a.cost, ap (sum (W p)) e) }

  ended : (m : Answer (Unit {0} × State)) {t : State} → state_of L p m ≡ answered t → (r : Unit {0} × State) × (m ≡ answered r) × (r.1 ≡ t)
  ended (answered r) e = (r, refl, answer e)
  ended (refused k) e = never e

  abbrev Turn : State → State → Type 0
  Turn s t = (at_rest s ≡ true) ⊎ Stepped s t

  turn_block : (s t : State) (w : List ℕ) → s.block_worklist ≡ w → s.insn_worklist ≡ [] → Inv L p [] s → take_block L p w s ≡ answered t → Turn s t
  turn_block s t [] e q v h = inl (rw (e, q) refl)
  turn_block s t (b ∷ w) e q v h = let a = ended (go_live L p b (taken true s.insn_worklist w s)) h in inr (rw (← a.2) (opened b w s a.0 e v a.1))

  turn_insn : (s t : State) (q : List ℕ) → s.insn_worklist ≡ q → Inv L p [] s → take_insn L p q s ≡ answered t → Turn s t
  turn_insn s t [] e v h = turn_block s t s.block_worklist refl e v h
  turn_insn s t (i ∷ q) e v h = let a = ended (visit L p i (taken false q s.block_worklist s)) h in inr (rw (← a.2) (took i q s a.0 e v a.1))

  turn_drain : (s t : State) (w : List ℕ) → s.block_worklist ≡ w → Inv L p [] s → drain_block L p w s ≡ answered t → Turn s t
  turn_drain s t [] e v h = turn_insn s t s.insn_worklist refl v h
  turn_drain s t (b ∷ w) e v h = let a = ended (go_live L p b (taken true s.insn_worklist w s)) h in inr (rw (← a.2) (opened b w s a.0 e v a.1))

  -- a step keeps the invariant, counts one and lowers the potential
  pub stepped : (s t : State) → Inv L p [] s → at_rest s ≡ false → step L p s ≡ answered t → Stepped s t
  unfolding step
  stepped s t v r h = no_rest (go s.draining h)
    where
      go : (b : 𝔹) → cond b (drain_block L p s.block_worklist) (take_insn L p s.insn_worklist) s ≡ answered t → Turn s t
      go true h = turn_drain s t s.block_worklist refl v h
      go false h = turn_insn s t s.insn_worklist refl v h

      no_rest : Turn s t → Stepped s t
      no_rest (inl e) = absurd (true≢false (sym e ∙ r))
      no_rest (inr z) = z

  -- ---- runs

  -- after any number of steps: the invariant, and count and potential together no more than at the start
  pub record Kept (s t : State) : Type 0 where
    pub inv : Inv L p [] t
    pub spent : t.count + pot p t ≤ s.count + pot p s
    pub more : s.count ≤ t.count

  pub kept : (n : ℕ) (s t : State) → Inv L p [] s → run L p n s ≡ answered t → Kept s t
  kept zero s t v e = let q : s ≡ t = answer (sym (run_none L p s) ∙ e) in rw (← q) (record { inv = v; spent = omega arith; more = omega arith })
  kept (suc n) s t v e = go (rest_cases (at_rest s)) (λ u w h. kept n u t w h)
    where
      go : (at_rest s ≡ true) ⊎ (at_rest s ≡ false) → ((u : State) → Inv L p [] u → run L p n u ≡ answered t → Kept u t) → Kept s t
      go (inl r) ih = let q : s ≡ t = answer (sym (run-rest L p (suc n) s r) ∙ e) in rw (← q) (record { inv = v; spent = omega arith; more = omega arith })
      go (inr r) ih =
          let a = after (step L p s) (run L p n) (sym (run_step L p n s r) ∙ e) in
          let b = stepped s a.0 v r a.1 in
          let c = ih a.0 b.inv a.2 in
          record { inv = c.inv; spent = omega (arith, c.spent, b.count, b.cost); more = omega (arith, c.more, b.count) }

  sum_empty : (q : List ℕ) → sum (W p) q ≤ 0 → length q ≡ 0
  sum_empty [] h = refl
  sum_empty (i ∷ q) h = absurd (let k = weight_pos (calls# p) (params# p) (op_of p i) in omega arith)

  -- what is not at rest has something to spend
  pub pot_pos : (s : State) → at_rest s ≡ false → 1 ≤ pot p s
  pot_pos s r = go (pot p s) refl
    where
      go : (n : ℕ) → pot p s ≡ n → 1 ≤ n
      go zero e =
          let a = sum_empty s.insn_worklist (omega arith) in
          let b : length s.block_worklist ≡ 0 = omega arith in
          absurd (true≢false (sym (rw (a, b) refl) ∙ r))
      go (suc n) e = omega arith

  -- with fuel for the potential, a run ends at rest or is refused
  pub ends : (n : ℕ) (s t : State) → Inv L p [] s → pot p s ≤ n → run L p n s ≡ answered t → at_rest t ≡ true
  ends zero s t v h e = go (rest_cases (at_rest t))
    where
      k : Kept s t
      k = kept zero s t v e

      go : (at_rest t ≡ true) ⊎ (at_rest t ≡ false) → at_rest t ≡ true
      go (inl r) = r
      go (inr r) = absurd (let z = pot_pos t r in omega (arith, k.spent, k.more))
  ends (suc n) s t v h e = go (rest_cases (at_rest s)) (λ u w g q. ends n u t w g q)
    where
      go : (at_rest s ≡ true) ⊎ (at_rest s ≡ false) → ((u : State) → Inv L p [] u → pot p u ≤ n → run L p n u ≡ answered t → at_rest t ≡ true) → at_rest t ≡ true
      go (inl r) ih = let q : s ≡ t = answer (sym (run-rest L p (suc n) s r) ∙ e) in rw (← q) r
      go (inr r) ih =
          let a = after (step L p s) (run L p n) (sym (run_step L p n s r) ∙ e) in
          let b = stepped s a.0 v r a.1 in
          ih a.0 b.inv (omega (arith, b.cost)) a.2

-- ---- at rest

module _ (p : Program) where
  arms_are : (s : State) (x : Terminator) → arms p s x ≡ arms_in s.kinds x
  unfolding arms
  arms_are s (Jump b) = refl
  arms_are s (IfTrue v t e) = ap (λ (k : Kind). cons_if (admits true k) t (cons_if (admits false k) e [])) (kind-is s v)
  arms_are s (Return v) = refl

  in_none : {t : ℕ} (l : List ℕ) → t ∈ l ++ [] → t ∈ l
  in_none l m = ∈-append l [] (λ n. n) (λ n. not_in_none n) m

  -- 01's classes of a receiver are among the wide ones, and all of them where 14 was passed
  class-wide : (s : State) (r : Opnd) (c : ℕ) → c ∈ classes p s r → c ∈ wide_classes (kind_in s.kinds r)
  class-wide s r c m = go (classes_in (kind_of s r)) refl m
    where
      go : (o : Option ℕ) → classes_in (kind_of s r) ≡ o → c ∈ elim o [ none ↦ [] | some d ↦ members_of d ] → c ∈ wide_classes (kind_in s.kinds r)
      go none e n = not_in_none n
      go (some d) e n = rw (wide_is (kind_in s.kinds r) d (rw (← kind-is s r) e)) n

  wide-class : (s : State) (r : Opnd) (c : ℕ) → has (classes_in (kind_in s.kinds r)) ≡ true → c ∈ wide_classes (kind_in s.kinds r) → c ∈ classes p s r
  wide-class s r c h m = go (classes_in (kind_of s r)) refl (rw (kind-is s r) h)
    where
      go : (o : Option ℕ) → classes_in (kind_of s r) ≡ o → has o ≡ true → c ∈ elim o [ none ↦ [] | some d ↦ members_of d ]
      go none e h = absurd (false≢true h)
      go (some d) e h = subst (λ (l : List ℕ). c ∈ l) (wide_is (kind_in s.kinds r) d (rw (← kind-is s r) e)) m

  target_leads : (s : State) (o : Op) (t : ℕ) → t ∈ targets p s o → Leads p s.kinds o t
  unfolding targets
  target_leads s (Ends x) t m = rw (← arms_are s x) (in_none _ (in_none _ m))
  target_leads s (Send (Static f) l) t m = ∈-one m
  target_leads s (Send (Dynamic r n) l) t m =
      let a = map-∈ (entry p) _ m in
      let b = concat-∈ (map (λ c. to_list (method_named p c n)) (classes p s r)) (in_none _ a.1) in
      let c = map-∈ (λ c. to_list (method_named p c n)) (classes p s r) b.1 in
      record { class = c.0; method = a.0; member = class-wide s r c.0 c.1; named = one (method_named p c.0 n) (subst (λ (l : List ℕ). a.0 ∈ l) c.2 b.2); at = a.2 }
    where
      one : (o : Option ℕ) {x : ℕ} → x ∈ to_list o → o ≡ some x
      one none m = not_in_none m
      one (some y) m = ap some (sym (∈-one m))
  target_leads s (Compute o v w) t m = not_in_none m
  target_leads s (Phi b v c w) t m = not_in_none m
  target_leads s (Param n) t m = not_in_none m
  target_leads s (SelfParam c) t m = not_in_none m
  target_leads s (New c) t m = not_in_none m
  target_leads s (GetIvar n r) t m = not_in_none m
  target_leads s (SetIvar n r v) t m = not_in_none m

  leads_target : (s : State) (o : Op) (t : ℕ) → Passed s.kinds o → Leads p s.kinds o t → t ∈ targets p s o
  unfolding targets
  leads_target s (Ends x) t h m = let a : t ∈ arms p s x = rw (arms_are s x) m in Memᴰ.append_left [] (Memᴰ.append_left [] a)
  leads_target s (Send (Static f) l) t h m = Memᴰ.head m
  leads_target s (Send (Dynamic r n) l) t h m =
      rw m.at (∈-map (entry p) _ (Memᴰ.append_left [] (∈-concat (map (λ c. to_list (method_named p c n)) (classes p s r)) (∈-map (λ c. to_list (method_named p c n)) (classes p s r) (wide-class s r m.class h m.member)) (rw m.named (Memᴰ.head refl)))))
  leads_target s (Compute o v w) t h m = absurd m
  leads_target s (Phi b v c w) t h m = absurd m
  leads_target s (Param n) t h m = absurd m
  leads_target s (SelfParam c) t h m = absurd m
  leads_target s (New c) t h m = absurd m
  leads_target s (GetIvar n r) t h m = absurd m
  leads_target s (SetIvar n r v) t h m = absurd m

module _ (L : Limits) (p : Program) (s : State) where
  -- at rest every live instruction has taken in what it reads, every Param what its callers give, and every call what live returns give back
  pub record Settled : Type 0 where
    pub held : (i : ℕ) → Placed p s.live i → Held p s.kinds s.live s.ivar_kinds s.ivar_reads (get_or s.kinds i Empty) i (op_of p i)
    pub argued : (f c x : ℕ) → marked s.called_by f c ≡ true → x ∈ parameters p f → Le (kind_in s.kinds (argument L p (place_of L p x) c)) (get_or s.kinds x Empty)
    pub returned : (c x : ℕ) (y : Opnd) → marked s.called_by (function_of p x) c ≡ true → op_of p x ≡ Ends (Return y) → Placed p s.live x → Le (kind_in s.kinds y) (get_or s.kinds c Empty)

module _ (L : Limits) (p : Program) (s : State) (v : Inv L p [] s) (r : at_rest s ≡ true) where
  -- at rest an instruction of a live block is done
  done : (b i : ℕ) → is_live s.live b ≡ true → i ∈ code p b → Done p s.kinds s.live s.block_worklist i
  done b i e m = go (v.closed b i e m)
    where
      go : (i ∈ []) ⊎ ((i ∈ s.insn_worklist) ⊎ Done p s.kinds s.live s.block_worklist i) → Done p s.kinds s.live s.block_worklist i
      go (inl n) = not_in_none n
      go (inr (inl n)) = not_in_none (rw (rested s r).0 at n)
      go (inr (inr d)) = d

  now : {t : ℕ} → Soon s.live s.block_worklist t → is_live s.live t ≡ true
  now (inl e) = e
  now (inr n) = not_in_none (rw (rested s r).1 at n)

  reached_live : {b : ℕ} → Reached p s b → is_live s.live b ≡ true
  reached_live Reached.main = v.rooted
  reached_live (Reached.along {b = b} {c = c} i h m a) =
      let e = reached_live h in
      now ((done b i e (any-∈ i (code p b) m)).leads c (target_leads p s (op_of p i) c (any-∈ c (targets p s (op_of p i)) a)))

  widely_live : {b : ℕ} → Reach p s.kinds b → is_live s.live b ≡ true
  widely_live Reach.begin = v.rooted
  widely_live (Reach.along {b = b} {c = c} i h m a) = now ((done b i (widely_live h) m).leads c a)

  narrow : {b : ℕ} → Reach p s.kinds b → Reached p s b
  narrow Reach.begin = Reached.main
  narrow (Reach.along {b = b} {c = c} i h m a) =
      Reached.along i (narrow h) (∈-any i (code p b) m) (∈-any c (targets p s (op_of p i)) (leads_target p s (op_of p i) c (done b i (widely_live h) m).passed a))

  pub exact : (b : ℕ) → (is_live s.live b ≡ true) ↔ Reached p s b
  exact b = (λ e. narrow (v.reach b (inl e)), λ h. reached_live h)

  not_busy : {A : Type 0} {i : ℕ} → Busy [] s.insn_worklist i → A
  not_busy (inl n) = not_in_none n
  not_busy (inr n) = not_in_none (rw (rested s r).0 at n)

  left : {A : Type 0} {i : ℕ} → Busy [] s.insn_worklist i ⊎ A → A
  left (inl b) = not_busy b
  left (inr a) = a

  pub settles : Settled L p s
  settles = record {
    held = λ i h. left (v.flows.held i h);
    argued = λ f c x m n. left (left (v.flows.argued f c x m n));
    returned = λ c x y m e h. left (left (v.flows.returned c x y m e h));
  }
