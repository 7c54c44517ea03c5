-- Taking an instruction off: each action of its rule keeps the invariant and is paid for. Assumes nothing.
use Prim.Native.Nat.{ℕ, zero, suc, ◌+◌, ◌*◌, ◌-◌, ◌≤◌, ◌<◌}
use native.Mathlib.Omega.{arith}
use mathlib.Core.Path.{◌≡◌, refl, sym, ap, ◌∙◌, subst}
use mathlib.Core.Logic.{◌⊎◌, inl, inr}
use mathlib.Core.Bool.{Bool as 𝔹, true, false, not, cond, false≢true, true≢false}
use mathlib.Core.Option.{some}
use mathlib.Core.List.Memᴰ
use mathlib.Core.List.{List, [], ◌∷◌, ◌++◌, map}
use lib.Seq.{get_or-set_same}
use lib.ListN.{length, get_or, length-append, get_or-eq_default, set}
use Rattle.ids.specs.Sets.{members_of}
use Rattle.kinds.specs.declared.Kind.{Kind}
use Rattle.kinds.specs.declared.Kind.TheVariants.{Empty, Nil, Num, Truth, Fun, Class, Int, Bool, Objects, Any}
use Rattle.std.specs.Prelude as Std
use Rattle.kinds.specs.Kinds.{same_kind, is_empty}
use Rattle.kinds.specs.Union.{union_of, union_all, lub}
use Rattle.kinds.specs.Rules.{arith_of, arith_total, admits}
use Rattle.rules.specs.Actions.{Answer, answered, if_answered, unless, each, needed, fold}
use Rattle.rules.specs.Lists.{has, sum, to_list, cons_if}
use Rattle.rules.specs.Values.{object, classes_in}
use Rattle.rules.specs.Program.{Limits, Name, Opnd, Const, Terminator, Jump, IfTrue, Return, Callee, Static, Dynamic, Op, Ends, Send, Compute, Phi, Param, SelfParam, New, GetIvar, SetIvar, Instruction, Program, about, op_of, block_of, function_of, function, entry, class, method_named, ivar_named, parameters, returns, returned_by}
use Rattle.rules.specs.Uses.{uses}
use Rattle.rules.specs.Machine.{State, Acts, marked, add_caller, add_read, set_ivar_kind, with_insns, with_blocks, kind_of, join_all, classes_of, push_block, wake_if_wider, add_call, pass_arguments, callers_of, place_of, argument, flows_back, flows_in, leave, get_ivar, set_ivar, rule, visit, mark}
use Rattle.rules.proofs.Exactness.Sums.{◌∈◌, not_in_none, ∈-cons, ∈-append, ∈-one, places-∈, sum-++, sum_bound, sum-keep, less_or}
use Rattle.rules.proofs.Exactness.Laws.{Le, Fine, Laws, wide_classes, le_refl, le_empty, join-left, le_trans, join-right}
use Rattle.rules.proofs.Exactness.Answers.{Same, answer, after, asked, found, joined, join_all-is, classes_of-is, push_block-is, wake_if_wider-is, live_uses, Stored, store_is, woken_reads, Widened, set_ivar-is, add_call-is}
use Rattle.rules.proofs.Exactness.Grow.{Calls, mark-true, up_set_ivar_kind, kind_in, kind-is, is_live, ivar_at, arms_in, Leads, Reach, IsRule, AboveAt}
use Rattle.rules.proofs.Exactness.Data.{Placed, Tables, Held, Own}
use Rattle.rules.proofs.Exactness.Invariant.{Passed, is_param, Soon, FineKinds, Fit, Inv, inv_wake, inv_await, inv_add_caller, inv_add_read, inv_widen, inv_store, inv_finish}
use Rattle.rules.proofs.Exactness.Flows.{FineOpnd, place-marked, wide_is, joined-opnds, kind_fine, joined_fine, back_in, in_back, given_in, in_given, read, marked_row, marked-place}
use Rattle.rules.proofs.Exactness.Potential.{weight, weight_param, calls#, params#, W, height, pot, pot_call, pot_kind, pot_ivar, callers_cost, reads_cost}

-- what the theory asks of a program
pub record Formed (p : Program) : Type 0 where
  pub tables : Tables p
  pub entry_in : (f : ℕ) → f < length p.functions → entry p f < length p.blocks
  pub arms_in_lem : (i : ℕ) (x : Terminator) → i < length p.instructions → op_of p i ≡ Ends x → (ks : List Kind) (t : ℕ) → t ∈ arms_in ks x → t < length p.blocks
  pub static_in : (i f : ℕ) (l : List Opnd) → i < length p.instructions → op_of p i ≡ Send (Static f) l → f < length p.functions
  pub method_in : (c : ℕ) (n : Name) (f : ℕ) → method_named p c n ≡ some f → f < length p.functions
  pub ivar_in_lem : (c : ℕ) (n : Name) (a : ℕ) → ivar_named p c n ≡ some a → (c < length p.classes) × (a < length (class p c).ivars)
  pub operand_fine : (i : ℕ) (v : Opnd) → i < length p.instructions → v ∈ (about (op_of p i)).operands → FineOpnd (length p.classes) (length p.functions) v
  pub listed_fine : (i : ℕ) (v : Opnd) → i < length p.instructions → v ∈ (about (op_of p i)).listed → FineOpnd (length p.classes) (length p.functions) v
  pub returned_fine : (f : ℕ) (v : Opnd) → v ∈ returns p f → FineOpnd (length p.classes) (length p.functions) v
  pub new_fine : (i c : ℕ) → i < length p.instructions → op_of p i ≡ New c → Fine (length p.classes) (length p.functions) (object c)
  pub self_fine : (i c : ℕ) → i < length p.instructions → op_of p i ≡ SelfParam c → Fine (length p.classes) (length p.functions) (object c)
  pub params_in : (f x : ℕ) → x ∈ parameters p f → (x < length p.instructions) × (is_param (op_of p x) ≡ true)
  pub params_of : (f x : ℕ) → f < length p.functions → x ∈ parameters p f → function_of p x ≡ f
  pub in_returns : (x : ℕ) (v : Opnd) → x < length p.instructions → op_of p x ≡ Ends (Return v) → v ∈ returns p (function_of p x)
  pub params_few : (f : ℕ) → f < length p.functions → length (parameters p f) ≤ params# p
  pub methods_few : (s : ℕ) (n : Name) → sum (λ c. sum (λ f. length (parameters p f)) (to_list (method_named p c n))) (members_of s) ≤ params# p

module _ (L : Limits) (p : Program) (K : Laws (length p.classes) (length p.functions)) (F : Formed p) where
  -- an action of an instruction's rule changes no kind and no live block, and puts entries in at the end only
  pub record Calm (s t : State) : Type 0 where
    pub kinds : t.kinds ≡ s.kinds
    pub live : t.live ≡ s.live
    pub count : t.count ≡ s.count
    pub soon : (b : ℕ) → Soon s.live s.block_worklist b → Soon t.live t.block_worklist b
    pub queue : (i : ℕ) → i ∈ s.insn_worklist → i ∈ t.insn_worklist
    pub ivars : (c a : ℕ) → Le (ivar_at s.ivar_kinds c a) (ivar_at t.ivar_kinds c a)
    pub reads : (c i : ℕ) → marked s.ivar_reads c i ≡ true → marked t.ivar_reads c i ≡ true

  pub record Ok (i : ℕ) (s : State) : Type 0 where
    pub inv : Inv L p (i ∷ []) s
    pub placed : Placed p s.live i

  pub record Moved (i c : ℕ) (s t : State) : Type 0 where
    pub ok : Ok i t
    pub calm : Calm s t
    pub cost : pot p t ≤ pot p s + c

  calm_refl : (s : State) → Calm s s
  calm_refl s = record { kinds = refl; live = refl; count = refl; soon = λ b h. h; queue = λ i m. m; ivars = λ c a. le_refl K _; reads = λ c i m. m }

  calm_trans : {s t u : State} → Calm s t → Calm t u → Calm s u
  calm_trans a b = record { kinds = b.kinds ∙ a.kinds; live = b.live ∙ a.live; count = b.count ∙ a.count; soon = λ x h. b.soon x (a.soon x h); queue = λ i m. b.queue i (a.queue i m); ivars = λ c x. le_trans K (a.ivars c x) (b.ivars c x); reads = λ c i m. b.reads c i (a.reads c i m) }

  moved-refl : (i : ℕ) (s : State) → Ok i s → Moved i 0 s s
  moved-refl i s v = record { ok = v; calm = calm_refl s; cost = omega arith }

  moved_trans : {i c d : ℕ} {s t u : State} → Moved i c s t → Moved i d t u → Moved i (c + d) s u
  moved_trans a b = record { ok = b.ok; calm = calm_trans a.calm b.calm; cost = omega (arith, a.cost, b.cost) }

  moved-within : {i c : ℕ} (d : ℕ) {s t : State} → c ≤ d → Moved i c s t → Moved i d s t
  moved-within d h a = record { ok = a.ok; calm = a.calm; cost = omega (arith, a.cost) }

  -- ---- the small actions

  pub pushed : (i x : ℕ) (s : State) → Ok i s → Fit p s.live x → x < length p.instructions → Moved i (W p x) s (with_insns (s.insn_worklist ++ x ∷ []) s)
  pushed i x s v f h = record {
    ok = record { inv = inv_wake K F.tables (i ∷ []) (x ∷ []) s v.inv (λ j m. rw (∈-one m) (f, h)); placed = v.placed };
    calm = record { kinds = refl; live = refl; count = refl; soon = λ b z. z; queue = λ j m. Memᴰ.append_left (x ∷ []) m; ivars = λ c a. le_refl K _; reads = λ c j m. m };
    cost = rw (sum-++ (W p) s.insn_worklist (x ∷ [])) (omega arith);
  }

  pub awaited : (i x : ℕ) (s : State) → Ok i s → Leads p s.kinds (op_of p i) x → x < length p.blocks → Moved i 1 s (with_blocks (s.block_worklist ++ x ∷ []) s) × (x ∈ s.block_worklist ++ x ∷ [])
  awaited i x s v r h = (
    record {
      ok = record { inv = inv_await K F.tables (i ∷ []) x s v.inv (led i x s v r) h; placed = v.placed };
      calm = record { kinds = refl; live = refl; count = refl; soon = soon; queue = λ j m. m; ivars = λ c a. le_refl K _; reads = λ c j m. m };
      cost = rw (length-append s.block_worklist (x ∷ [])) (omega arith);
    },
    Memᴰ.append_right s.block_worklist (Memᴰ.head refl),
  )
    where
      led : (i x : ℕ) (s : State) → Ok i s → Leads p s.kinds (op_of p i) x → Reach p s.kinds x
      led i x s v r = Reach.along i (v.inv.reach (block_of p i) (inl v.placed.alive)) (F.tables.in_code i v.placed.within) r

      soon : (b : ℕ) → Soon s.live s.block_worklist b → Soon s.live (s.block_worklist ++ x ∷ []) b
      soon b (inl e) = inl e
      soon b (inr m) = inr (Memᴰ.append_left (x ∷ []) m)

  calls-call : (ks : List Kind) (o : Op) (f : ℕ) → Calls p ks o f → has (about o).callee ≡ true
  calls-call ks (Ends x) f m = absurd m
  calls-call ks (Send c l) f m = refl
  calls-call ks (Compute o x y) f m = absurd m
  calls-call ks (Phi b x c y) f m = absurd m
  calls-call ks (Param n) f m = absurd m
  calls-call ks (SelfParam c) f m = absurd m
  calls-call ks (New c) f m = absurd m
  calls-call ks (GetIvar n r) f m = absurd m
  calls-call ks (SetIvar n r x) f m = absurd m

  calls_lead : (ks : List Kind) (o : Op) (f : ℕ) → Calls p ks o f → Leads p ks o (entry p f)
  calls_lead ks (Ends x) f m = absurd m
  calls_lead ks (Send (Static g) l) f m = ap (entry p) m
  calls_lead ks (Send (Dynamic r n) l) f m = record { class = m.0; method = f; member = m.1; named = m.2; at = refl }
  calls_lead ks (Compute o x y) f m = absurd m
  calls_lead ks (Phi b x c y) f m = absurd m
  calls_lead ks (Param n) f m = absurd m
  calls_lead ks (SelfParam c) f m = absurd m
  calls_lead ks (New c) f m = absurd m
  calls_lead ks (GetIvar n r) f m = absurd m
  calls_lead ks (SetIvar n r x) f m = absurd m

  pub called : (i f : ℕ) (s : State) → Ok i s → f < length p.functions → Calls p s.kinds (op_of p i) f → marked s.called_by f i ≡ false
      → Moved i 0 s (add_caller f i (with_blocks (s.block_worklist ++ entry p f ∷ []) s)) × (entry p f ∈ s.block_worklist ++ entry p f ∷ [])
  called i f s v hf r e =
      let c = calls-call s.kinds (op_of p i) f r in
      let a = awaited i (entry p f) s v (calls_lead s.kinds (op_of p i) f r) (F.entry_in f hf) in
      let z = v.inv.sizes in (
        record {
          ok = record { inv = inv_add_caller K F.tables (i ∷ []) f i (with_blocks (s.block_worklist ++ entry p f ∷ []) s) (Memᴰ.head refl) a.0.ok.inv (record { soon = inr a.1; placed = v.placed; call = c; by = r }); placed = v.placed };
          calm = let m = a.0.calm in record { kinds = refl; live = refl; count = refl; soon = m.soon; queue = λ j m. m; ivars = λ c a. le_refl K _; reads = λ c j m. m };
          cost = omega (arith, a.0.cost, pot_call p s.called_by f i hf v.placed.within (rw z.called hf) (rw (z.called_row f hf) v.placed.within) c e);
        },
        a.1,
      )

  pub noted : (i c : ℕ) (s : State) → Ok i s → Moved i 0 s (add_read c i s)
  noted i c s v = record { ok = record { inv = inv_add_read K F.tables (i ∷ []) c i s v.inv v.placed; placed = v.placed }; calm = record { kinds = refl; live = refl; count = refl; soon = λ b z. z; queue = λ j m. m; ivars = λ c a. le_refl K _; reads = λ d j m. mark-true s.ivar_reads c i d j m }; cost = omega arith }

  -- a union that is not the old kind is higher
  rises : (a k u : Kind) → Fine (length p.classes) (length p.functions) a → Fine (length p.classes) (length p.functions) k → union_of a k ≡ Std.Ok u → same_kind u a ≡ false → Le a u × Fine (length p.classes) (length p.functions) u × (height p a < height p u)
  rises a k u ga gk e d =
      let q = K.union a k u e in
      let le : Le a u = rw q (join-left K a k) in
      let gu : Fine (length p.classes) (length p.functions) u = rw q (K.fine_lub a k ga gk) in
      (le, gu, K.height_lt a u ga gu le (λ (z : a ≡ u). false≢true (sym d ∙ ap (λ (y : Kind). same_kind u y) z ∙ K.same_self u)))

  pub widened : (i : ℕ) (n : Name) (k : Kind) (c : ℕ) (s t : State) → Ok i s → Fine (length p.classes) (length p.functions) k → Widened L p n k c s t → Moved i 0 s t
  widened i n k c s t v gk w =
      let r = rises (ivar_at s.ivar_kinds c w.place) k w.kind (v.inv.fine.ivar c w.place) gk w.union w.changed in
      let h = F.ivar_in_lem c n w.place w.named in
      let z = v.inv.sizes in
      let m = set_ivar_kind c w.place w.kind s in
      let row : length (get_or s.ivar_reads c []) ≡ length p.instructions = z.reads_row c h.0 in
      let now : Moved i 0 s (with_insns (s.insn_worklist ++ woken_reads L p s n c) m) = record {
        ok = record {
          inv = inv_widen K F.tables (i ∷ []) n c w.place w.kind s w.named v.inv r.0 r.1;
          placed = v.placed;
        };
        calm = record { kinds = refl; live = refl; count = refl; soon = λ b x. x; queue = λ j q. Memᴰ.append_left (woken_reads L p s n c) q; ivars = (up_set_ivar_kind K c w.place w.kind s r.0).ivars; reads = λ d j q. q };
        cost = rw (sum-++ (W p) s.insn_worklist (woken_reads L p s n c))
            (omega (arith, reads_cost p (get_or s.ivar_reads c []) n row, pot_ivar p s.ivar_kinds c w.place w.kind (rw z.ivars h.0) (rw (z.ivars_row c h.0) h.1) h.0 h.1 (K.height_le w.kind r.1) r.2));
      } in
      rw w.state now

  -- ---- walks

  module _ {A : Type 0} (i : ℕ) (f : A → Acts (Unit {0})) (cost : A → ℕ) (Pre Post : A → State → Type 0)
      (pre-stays : (x : A) (s t : State) → Calm s t → Pre x s → Pre x t)
      (post_stays : (x : A) (s t : State) → Calm s t → Post x s → Post x t)
      (turn : (x : A) (s : State) (r : Unit {0} × State) → Ok i s → Pre x s → f x s ≡ answered r → Moved i (cost x) s r.1 × Post x r.1) where
    pub walked : (l : List A) (s : State) {r : Unit {0} × State} → Ok i s → ((x : A) → x ∈ l → Pre x s) → each l f s ≡ answered r → Moved i (sum cost l) s r.1 × ((x : A) → x ∈ l → Post x r.1)
    walked [] s {r} v h e = (subst (λ (t : State). Moved i 0 s t) (ap (λ (z : Unit {0} × State). z.1) (answer e)) (moved-refl i s v), λ x m. not_in_none m)
    walked (x ∷ l) s {r} v h e =
        let a = after (f x s) _ e in
        let b = turn x s a.0 v (h x (Memᴰ.head refl)) a.1 in
        let c = walked l a.0.1 b.0.ok (λ y m. pre-stays y s a.0.1 b.0.calm (h y (Memᴰ.tail m))) a.2 in
        (moved_trans b.0 c.0, λ y m. ∈-cons (λ y. Post y r.1) (post_stays x a.0.1 r.1 c.0.calm b.1) (λ n. c.1 y n) m)

  nothing : {A : Type 0} → A → State → Type 0
  nothing x s = Unit {0}

  -- a kind that a union left as it was lies above
  same_le : (old k : Kind) → Same old k → Le k old
  same_le old k (u, e, d) = let q : lub old k ≡ old = sym (K.union old k u e) ∙ K.same u old d in record { is = K.comm k old ∙ q }

  -- an instruction is woken, or its kind lies above
  pub woken : (i : ℕ) (k : Kind) (x : ℕ) (s : State) {r : Unit {0} × State} → Ok i s → Fit p s.live x × (x < length p.instructions) → wake_if_wider L p k x s ≡ answered r
      → Moved i (W p x) s r.1 × ((x ∈ r.1.insn_worklist) ⊎ Le k (get_or r.1.kinds x Empty))
  woken i k x s {r} v h e = go (wake_if_wider-is L p k x s e)
    where
      go : ((r.1 ≡ s) × Same (get_or s.kinds x Empty) k) ⊎ (r.1 ≡ with_insns (s.insn_worklist ++ x ∷ []) s) → Moved i (W p x) s r.1 × ((x ∈ r.1.insn_worklist) ⊎ Le k (get_or r.1.kinds x Empty))
      go (inl q) = rw q.0 (moved-within (W p x) (omega arith) (moved-refl i s v), inr (same_le (get_or s.kinds x Empty) k q.1))
      go (inr q) = rw q (pushed i x s v h.0 h.1, inl (Memᴰ.append_right s.insn_worklist (Memᴰ.head refl)))

  -- what has come to x stays so
  come_stays : (x : ℕ) (v : Opnd) (s t : State) → Calm s t → (x ∈ s.insn_worklist) ⊎ Le (kind_in s.kinds v) (get_or s.kinds x Empty) → (x ∈ t.insn_worklist) ⊎ Le (kind_in t.kinds v) (get_or t.kinds x Empty)
  come_stays x v s t c (inl m) = inl (c.queue x m)
  come_stays x v s t c (inr h) = inr (subst (λ (ks : List Kind). Le (kind_in ks v) (get_or ks x Empty)) (sym c.kinds) h)

  -- ---- calls

  -- a Param of f waits, or has what the call gives it
  abbrev Passed-on : ℕ → ℕ → State → Type 0
  Passed-on i x s = (x ∈ s.insn_worklist) ⊎ Le (kind_in s.kinds (argument L p (place_of L p x) i)) (get_or s.kinds x Empty)

  pub arguments_moved : (i f : ℕ) (s : State) {r : Unit {0} × State} → Ok i s → pass_arguments L p i f s ≡ answered r → Moved i (length (parameters p f)) s r.1 × ((x : ℕ) → x ∈ parameters p f → Passed-on i x r.1)
  unfolding pass_arguments
  arguments_moved i f s {r} v e =
      let w = walked i (λ x s. wake_if_wider L p (kind_of s (argument L p (place_of L p x) i)) x s) (W p)
      (λ x s. (x < length p.instructions) × (is_param (op_of p x) ≡ true)) (λ x s. Passed-on i x s) (λ x s t c h. h) (λ x s t c h. come_stays x (argument L p (place_of L p x) i) s t c h)
      (λ x s r v h e. let a = woken i (kind_of s (argument L p (place_of L p x) i)) x s v (inr h.1, h.0) e in (a.0, shown x s r.1 a.0.calm a.1))
      (parameters p f) s v (λ x m. F.params_in f x m) e in
      (moved-within (length (parameters p f)) light w.0, w.1)
    where
      shown : (x : ℕ) (s t : State) → Calm s t → (x ∈ t.insn_worklist) ⊎ Le (kind_of s (argument L p (place_of L p x) i)) (get_or t.kinds x Empty) → Passed-on i x t
      shown x s t c (inl m) = inl m
      shown x s t c (inr h) = inr (subst (λ (k : Kind). Le k (get_or t.kinds x Empty)) (kind-is s (argument L p (place_of L p x) i) ∙ ap (λ (ks : List Kind). kind_in ks (argument L p (place_of L p x) i)) (sym c.kinds)) h)

      light : sum (W p) (parameters p f) ≤ length (parameters p f)
      light = omega (arith, sum_bound (W p) (parameters p f) 1 (λ x m. weight_param (calls# p) (params# p) (op_of p x) (F.params_in f x m).1))

  pub entered : (i f : ℕ) (s : State) {r : Unit {0} × State} → Ok i s → f < length p.functions → Calls p s.kinds (op_of p i) f → add_call L p i f s ≡ answered r
      → Moved i 0 s r.1 × Soon r.1.live r.1.block_worklist (entry p f)
  entered i f s {r} v hf l e = go (add_call-is L p i f s e)
    where
      new : State
      new = add_caller f i (with_blocks (s.block_worklist ++ entry p f ∷ []) s)

      go : ((marked s.called_by f i ≡ true) × (r.1 ≡ s)) ⊎ ((marked s.called_by f i ≡ false) × (r.1 ≡ new)) → Moved i 0 s r.1 × Soon r.1.live r.1.block_worklist (entry p f)
      go (inl q) = rw q.1 (moved-refl i s v, (v.inv.callers f i q.0).soon)
      go (inr q) = let a = called i f s v hf l q.0 in rw q.1 (a.0, inr a.1)

  -- ---- the rules

  pub record Ruled (i : ℕ) (o : Op) (s : State) (k : Kind) (t : State) : Type 0 where
    pub inv : Inv L p (i ∷ []) t
    pub count : t.count ≡ s.count
    pub cost : pot p t + 1 ≤ pot p s + weight (calls# p) (params# p) o
    pub leads : (b : ℕ) → Leads p t.kinds o b → Soon t.live t.block_worklist b
    pub passed : Passed t.kinds o
    pub rule : IsRule L p t i o k
    pub fine : Fine (length p.classes) (length p.functions) k
    pub held : Held p t.kinds t.live t.ivar_kinds t.ivar_reads k i o
    pub args : (f x : ℕ) → marked t.called_by f i ≡ true → x ∈ parameters p f → Passed-on i x t
    pub ret : (x : Opnd) (c : ℕ) → o ≡ Ends (Return x) → marked t.called_by (function_of p i) c ≡ true → (c ∈ t.insn_worklist) ⊎ Le (kind_in t.kinds x) (get_or t.kinds c Empty)

  -- what is no call has no callee; what is no terminator gives nothing back
  no_call : {A : Type 0} (i f : ℕ) (o : Op) (t : State) → op_of p i ≡ o → has (about o).callee ≡ false → Inv L p (i ∷ []) t → marked t.called_by f i ≡ true → A
  no_call i f o t q e v m = absurd (true≢false (sym (v.callers f i m).call ∙ ap (λ (x : Op). has (about x).callee) q ∙ e))

  no_end : {A : Type 0} (o : Op) (x : Terminator) → has (about o).terminator ≡ false → o ≡ Ends x → A
  no_end o x e q = absurd (true≢false (sym (ap (λ (y : Op). has (about y).terminator) q) ∙ e))

  sent_rule : (i : ℕ) (c : Callee) (l : List Opnd) (t : State) (k : Kind) → union_all Empty (map (kind_of t) (flows_back L p t i)) ≡ Std.Ok k → IsRule L p t i (Send c l) k
  sent_rule i c l t k e =
      let z = joined-opnds K t (flows_back L p t i) k e in
      record { above = λ f v m n. z.above v (back_in K L p t i v (f, m, n)); least = λ u h. z.least u (λ v m. let b = in_back K L p t i v m in h b.0 v b.1 b.2) }

  sent_fine : (i : ℕ) (t : State) (k : Kind) → FineKinds p t.kinds t.ivar_kinds → union_all Empty (map (kind_of t) (flows_back L p t i)) ≡ Std.Ok k → Fine (length p.classes) (length p.functions) k
  sent_fine i t k g e = joined_fine K t (flows_back L p t i) k e g.kind (λ v m. let b = in_back K L p t i v m in F.returned_fine b.0 v b.2)

  ruled_static : (i f : ℕ) (l : List Opnd) (s : State) (r : Kind × State) → Ok i s → op_of p i ≡ Send (Static f) l → rule L p i (Send (Static f) l) s ≡ answered r → Ruled i (Send (Static f) l) s r.0 r.1
  unfolding rule
  ruled_static i f l s r v q e =
      let hf = F.static_in i f l v.placed.within q in
      let a = after (add_call L p i f s) _ e in
      let b = asked 17 (not (has (function p f).class)) (tt, a.0.1) _ a.2 in
      let c = after (pass_arguments L p i f a.0.1) _ b.1 in
      let d = join_all-is (flows_back L p c.0.1 i) c.0.1 c.2 in
      let m = entered i f s v hf (subst (λ (o : Op). Calls p s.kinds o f) (sym q) refl) a.1 in
      let n = arguments_moved i f a.0.1 m.0.ok c.1 in
      let z = moved_trans m.0 n.0 in
      rw d.1 (record {
        inv = z.ok.inv;
        count = z.calm.count;
        cost = omega (arith, z.cost, F.params_few f hf);
        leads = λ b x. rw x (n.0.calm.soon (entry p f) m.1);
        passed = tt;
        rule = sent_rule i (Static f) l c.0.1 r.0 d.0;
        fine = sent_fine i c.0.1 r.0 z.ok.inv.fine d.0;
        held = tt;
        args = λ g x e k. let by : g ≡ f = subst (λ (o : Op). Calls p c.0.1.kinds o g) q (z.ok.inv.callers g i e).by in n.1 x (subst (λ (y : ℕ). x ∈ parameters p y) by k);
        ret = λ x y e. no_end (Send (Static f) l) (Return x) refl e;
      })

  -- a class of the receiver: its method is called
  module _ (i : ℕ) (x : Opnd) (n : Name) (l : List Opnd) (q : op_of p i ≡ Send (Dynamic x n) l) where
    call_in : ℕ → Acts (Unit {0})
    call_in c s = if_answered (needed 15 (method_named p c n) s) (λ r. if_answered (add_call L p i r.0 r.1) (λ z. pass_arguments L p i r.0 z.1))

    class_cost : ℕ → ℕ
    class_cost c = sum (λ f. length (parameters p f)) (to_list (method_named p c n))

    called_in : (c : ℕ) (s : State) (r : Unit {0} × State) → Ok i s → c ∈ wide_classes (kind_in s.kinds x) → call_in c s ≡ answered r
        → Moved i (class_cost c) s r.1 × ((f : ℕ) → method_named p c n ≡ some f → Soon r.1.live r.1.block_worklist (entry p f) × ((x : ℕ) → x ∈ parameters p f → Passed-on i x r.1))
    unfolding call_in class_cost
    called_in c s r v h e =
        let a = after (needed 15 (method_named p c n) s) _ e in
        let g = found 15 (method_named p c n) s a.1 in
        go a.0.0 g.0 (subst (λ (t : State). if_answered (add_call L p i a.0.0 t) (λ z. pass_arguments L p i a.0.0 z.1) ≡ answered r) g.1 a.2)
      where
        some_inj : (a b : ℕ) → some a ≡ some b → a ≡ b
        some_inj a b e = cc

        go : (f : ℕ) → method_named p c n ≡ some f → if_answered (add_call L p i f s) (λ z. pass_arguments L p i f z.1) ≡ answered r
            → Moved i (sum (λ f. length (parameters p f)) (to_list (method_named p c n))) s r.1 × ((f : ℕ) → method_named p c n ≡ some f → Soon r.1.live r.1.block_worklist (entry p f) × ((x : ℕ) → x ∈ parameters p f → Passed-on i x r.1))
        go f named e =
            let a = after (add_call L p i f s) _ e in
            let m = entered i f s v (F.method_in c n f named) (subst (λ (o : Op). Calls p s.kinds o f) (sym q) (c, h, named)) a.1 in
            let k = arguments_moved i f a.0.1 m.0.ok a.2 in
            (rw named (moved-within (length (parameters p f) + 0) (omega arith) (moved_trans m.0 k.0)), λ g w. rw (some_inj g f (sym w ∙ named)) (k.0.calm.soon (entry p f) m.1, k.1))

    ruled_dynamic : (s : State) (r : Kind × State) → Ok i s → rule L p i (Send (Dynamic x n) l) s ≡ answered r → Ruled i (Send (Dynamic x n) l) s r.0 r.1
    unfolding rule call_in class_cost
    ruled_dynamic s r v e =
        let a = after (classes_of x s) _ e in
        let z = classes_of-is x s a.1 in
        go z.0 z.1 (subst (λ (t : State). rest (members_of z.0) t ≡ answered r) z.3 (subst (λ (cs : List ℕ). rest cs a.0.1 ≡ answered r) z.2 a.2))
      where
        rest : List ℕ → State → Answer (Kind × State)
        rest cs t = if_answered (each cs call_in t) (λ z. join_all (flows_back L p z.1 i) z.1)

        go : (c : ℕ) → classes_in (kind_of s x) ≡ some c → rest (members_of c) s ≡ answered r → Ruled i (Send (Dynamic x n) l) s r.0 r.1
        go c h e =
            let hk : classes_in (kind_in s.kinds x) ≡ some c = rw (← kind-is s x) h in
            let wide = wide_is (kind_in s.kinds x) c hk in
            let b = after (each (members_of c) call_in s) _ e in
            let w =
            walked i call_in class_cost (λ c s. c ∈ wide_classes (kind_in s.kinds x))
            (λ c s. (f : ℕ) → method_named p c n ≡ some f → Soon s.live s.block_worklist (entry p f) × ((x : ℕ) → x ∈ parameters p f → Passed-on i x s)) (λ c s t k m. rw k.kinds m)
            (λ c s t k m f e. (k.soon (entry p f) (m f e).0, λ x h. come_stays x (argument L p (place_of L p x) i) s t k ((m f e).1 x h))) called_in (members_of c) s v (λ d m. rw wide m) b.1 in
            let back : (d : ℕ) → d ∈ wide_classes (kind_in b.0.1.kinds x) → d ∈ members_of c = λ d m. subst (λ (l : List ℕ). d ∈ l) wide (subst (λ (ks : List Kind). d ∈ wide_classes (kind_in ks x)) w.0.calm.kinds m) in
            let d = join_all-is (flows_back L p b.0.1 i) b.0.1 b.2 in
            rw d.1 (record {
              inv = w.0.ok.inv;
              count = w.0.calm.count;
              cost = omega (arith, w.0.cost, F.methods_few c n);
              leads = λ y m. rw m.at (w.1 m.class (back m.class m.member) m.method m.named).0;
              passed = rw (w.0.calm.kinds, hk) refl;
              rule = sent_rule i (Dynamic x n) l b.0.1 r.0 d.0;
              fine = sent_fine i b.0.1 r.0 w.0.ok.inv.fine d.0;
              held = tt;
              args = λ g y e k. let by : Calls p b.0.1.kinds (Send (Dynamic x n) l) g = subst (λ (o : Op). Calls p b.0.1.kinds o g) q (w.0.ok.inv.callers g i e).by in (w.1 by.0 (back by.0 by.1) g by.2).1 y k;
              ret = λ y z e. no_end (Send (Dynamic x n) l) (Return y) refl e;
            })

  -- ---- terminators

  same-state : {A : Type 0} {a b : A × State} → answered a ≡ answered b → (a.0 ≡ b.0) × (a.1 ≡ b.1)
  same-state {A} e = let q = answer e in (ap (λ (z : A × State). z.0) q, ap (λ (z : A × State). z.1) q)

  -- where a rule gives nothing
  none-rule : (i : ℕ) (x : Terminator) (t : State) → IsRule L p t i (Ends x) Empty
  none-rule i x t = record { above = tt; least = λ u h. le_empty K u }

  arm_moved : (i x : ℕ) (b : 𝔹) (s : State) {r : Unit {0} × State} → Ok i s → (b ≡ true → Leads p s.kinds (op_of p i) x × (x < length p.blocks)) → unless (not b) (push_block L p x) s ≡ answered r
      → Moved i 1 s r.1 × (b ≡ true → Soon r.1.live r.1.block_worklist x)
  arm_moved i x true s v h e = let g = h refl in let a = awaited i x s v g.0 g.1 in rw (push_block-is L p x s e) (a.0, λ z. inr a.1)
  arm_moved i x false s {r} v h e = (subst (λ (t : State). Moved i 1 s t) (same-state e).1 (moved-within 1 (omega arith) (moved-refl i s v)), λ z. absurd (false≢true z))

  cons_if_cases : (b : 𝔹) (x : ℕ) (l : List ℕ) {t : ℕ} → t ∈ cons_if b x l → ((b ≡ true) × (t ≡ x)) ⊎ (t ∈ l)
  cons_if_cases false x l m = inr m
  cons_if_cases true x l {t} m = go (Memᴰ.cases_cons m)
    where
      go : (t ≡ x) ⊎ (t ∈ l) → ((true ≡ true) × (t ≡ x)) ⊎ (t ∈ l)
      go (inl e) = inl (refl, e)
      go (inr k) = inr k

  cons_if-first : (b : 𝔹) (x : ℕ) (l : List ℕ) → b ≡ true → x ∈ cons_if b x l
  cons_if-first b x l e = rw e (Memᴰ.head refl)

  cons_if-rest : (b : 𝔹) (x : ℕ) (l : List ℕ) {t : ℕ} → t ∈ l → t ∈ cons_if b x l
  cons_if-rest true x l m = Memᴰ.tail m
  cons_if-rest false x l m = m

  record Left (i : ℕ) (x : Terminator) (s t : State) : Type 0 where
    moved : Moved i (weight (calls# p) (params# p) (Ends x) - 1) s t
    leads : (b : ℕ) → b ∈ arms_in s.kinds x → Soon t.live t.block_worklist b
    ret : (z : Opnd) (c : ℕ) → x ≡ Return z → marked t.called_by (function_of p i) c ≡ true → (c ∈ t.insn_worklist) ⊎ Le (kind_in t.kinds z) (get_or t.kinds c Empty)

  not_return : {A : Type 0} (x : Terminator) (z : Opnd) → has (returned_by (some x)) ≡ false → x ≡ Return z → A
  not_return x z e q = absurd (true≢false (sym (ap (λ (y : Terminator). has (returned_by (some y))) q) ∙ e))

  empty_is : (k : Kind) → is_empty k ≡ true → k ≡ Empty
  empty_is Empty e = refl
  empty_is Nil e = absurd (false≢true e)
  empty_is (Num n) e = absurd (false≢true e)
  empty_is (Truth t) e = absurd (false≢true e)
  empty_is (Fun f) e = absurd (false≢true e)
  empty_is (Class c) e = absurd (false≢true e)
  empty_is Int e = absurd (false≢true e)
  empty_is Bool e = absurd (false≢true e)
  empty_is (Objects s) e = absurd (false≢true e)
  empty_is Any e = absurd (false≢true e)

  -- waking makes no caller
  wakes_call : (k : Kind) (l : List ℕ) (s : State) {r : Unit {0} × State} → each l (wake_if_wider L p k) s ≡ answered r → r.1.called_by ≡ s.called_by
  wakes_call k [] s e = ap (λ (t : State). t.called_by) (sym (same-state e).1)
  wakes_call k (x ∷ l) s {r} e =
      let a = after (wake_if_wider L p k x s) _ e in
      wakes_call k l a.0.1 a.2 ∙ go a.0.1 (wake_if_wider-is L p k x s a.1)
    where
      go : (t : State) → ((t ≡ s) × Same (get_or s.kinds x Empty) k) ⊎ (t ≡ with_insns (s.insn_worklist ++ x ∷ []) s) → t.called_by ≡ s.called_by
      go t (inl q) = ap (λ (t : State). t.called_by) q.0
      go t (inr q) = ap (λ (t : State). t.called_by) q

  left : (i : ℕ) (x : Terminator) (s : State) (r : Unit {0} × State) → Ok i s → op_of p i ≡ Ends x → leave L p i x s ≡ answered r → Left i x s r.1
  unfolding leave
  left i (Jump b) s r v q e =
      let m : b ∈ b ∷ [] = Memᴰ.head refl in
      let a = awaited i b s v (rw q m) (F.arms_in_lem i (Jump b) v.placed.within q s.kinds b m) in
      rw (push_block-is L p b s e) (record { moved = a.0; leads = λ t n. rw (∈-one n) (inr a.1); ret = λ z c e. not_return (Jump b) z refl e })
  left i (IfTrue x y z) s r v q e =
      let k = kind_in s.kinds x in
      let tail = cons_if (admits false k) z [] in
      let in-arm : (t : ℕ) → t ∈ cons_if (admits true k) y tail → Leads p s.kinds (op_of p i) t × (t < length p.blocks) = λ t m. (rw q m, F.arms_in_lem i (IfTrue x y z) v.placed.within q s.kinds t m) in
      let e' = subst (λ (k : Kind). if_answered (unless (not (admits true k)) (push_block L p y) s) (λ r. unless (not (admits false k)) (push_block L p z) r.1) ≡ answered r) (kind-is s x) e in
      let a = after (unless (not (admits true k)) (push_block L p y) s) _ e' in
      let m = arm_moved i y (admits true k) s v (λ h. in-arm y (cons_if-first (admits true k) y tail h)) a.1 in
      let n = arm_moved i z (admits false k) a.0.1 m.0.ok (λ h. let g = in-arm z (cons_if-rest (admits true k) y tail (cons_if-first (admits false k) z [] h)) in (rw m.0.calm.kinds g.0, g.1)) a.2 in
      record { moved = moved_trans m.0 n.0; leads = λ t h. go t m.1 n.0.calm n.1 (cons_if_cases (admits true k) y tail h); ret = λ w c e. not_return (IfTrue x y z) w refl e }
    where
      go : (t : ℕ) {u : State} → (admits true (kind_in s.kinds x) ≡ true → Soon u.live u.block_worklist y) → Calm u r.1 → (admits false (kind_in s.kinds x) ≡ true → Soon r.1.live r.1.block_worklist z)
          → ((admits true (kind_in s.kinds x) ≡ true) × (t ≡ y)) ⊎ (t ∈ cons_if (admits false (kind_in s.kinds x)) z []) → Soon r.1.live r.1.block_worklist t
      go t f c g (inl h) = rw h.1 (c.soon y (f h.0))
      go t f c g (inr h) = at (cons_if_cases (admits false (kind_in s.kinds x)) z [] h)
        where
          at : ((admits false (kind_in s.kinds x) ≡ true) × (t ≡ z)) ⊎ (t ∈ []) → Soon r.1.live r.1.block_worklist t
          at (inl h) = rw h.1 (g h.0)
          at (inr h) = not_in_none h
  left i (Return x) s r v q e = go (is_empty (kind_of s x)) refl e
    where
      f : ℕ
      f = function_of p i

      cs : List ℕ
      cs = callers_of L p s f

      row : (length (get_or s.called_by f []) ≡ length p.instructions) ⊎ (get_or s.called_by f [] ≡ [])
      row = at (less_or f (length p.functions))
        where
          at : (f < length p.functions) ⊎ (length p.functions ≤ f) → (length (get_or s.called_by f []) ≡ length p.instructions) ⊎ (get_or s.called_by f [] ≡ [])
          at (inl h) = inl (v.inv.sizes.called_row f h)
          at (inr h) = inr (get_or-eq_default s.called_by [] (rw v.inv.sizes.called h))

      cheap : sum (W p) cs ≤ calls# p * (1 + params# p)
      cheap = callers_cost p (get_or s.called_by f []) row (λ c h. (v.inv.callers f c h).call)

      return_inj : (y z : Opnd) → Return y ≡ Return z → y ≡ z
      return_inj y z e = cc

      go : (b : 𝔹) → is_empty (kind_of s x) ≡ b → unless b (each cs (wake_if_wider L p (kind_of s x))) s ≡ answered r → Left i (Return x) s r.1
      go true d e =
          let k : kind_in s.kinds x ≡ Empty = sym (kind-is s x) ∙ empty_is (kind_of s x) d in
          subst (λ (t : State). Left i (Return x) s t) (same-state e).1 (record {
            moved = moved-within _ (omega arith) (moved-refl i s v);
            leads = λ t m. not_in_none m;
            ret = λ z c w m. inr (subst (λ (y : Opnd). Le (kind_in s.kinds y) (get_or s.kinds c Empty)) (return_inj x z w) (subst (λ (y : Kind). Le y (get_or s.kinds c Empty)) (sym k) (le_empty K _)));
          })
      go false d e =
          let w =
          walked i (wake_if_wider L p (kind_of s x)) (W p) (λ c t. Placed p t.live c × (t.kinds ≡ s.kinds)) (λ c t. (c ∈ t.insn_worklist) ⊎ Le (kind_in t.kinds x) (get_or t.kinds c Empty))
          (λ c s t k h. (rw k.live h.0, k.kinds ∙ h.1)) (λ c s t k h. come_stays c x s t k h)
          (λ c t r v h e. let a = woken i (kind_of s x) c t v (inl h.0, h.0.within) e in (a.0, shown c r.1 (a.0.calm.kinds ∙ h.1) a.1)) cs s v
          (λ c m. ((v.inv.callers f c (place-marked s.called_by f c m)).placed, refl)) e in
          record {
            moved = moved-within (1 + calls# p * (1 + params# p) - 1) (omega (arith, cheap)) w.0;
            leads = λ t m. not_in_none m;
            ret = λ z c u m. subst (λ (y : Opnd). (c ∈ r.1.insn_worklist) ⊎ Le (kind_in r.1.kinds y) (get_or r.1.kinds c Empty)) (return_inj x z u) (w.1 c (marked-place s.called_by f c (subst (λ (t : List (List 𝔹)). marked t f c ≡ true) (wakes_call (kind_of s x) cs s e) m)));
          }
        where
          shown : (c : ℕ) (t : State) → t.kinds ≡ s.kinds → (c ∈ t.insn_worklist) ⊎ Le (kind_of s x) (get_or t.kinds c Empty) → (c ∈ t.insn_worklist) ⊎ Le (kind_in t.kinds x) (get_or t.kinds c Empty)
          shown c t e (inl m) = inl m
          shown c t e (inr h) = inr (subst (λ (k : Kind). Le k (get_or t.kinds c Empty)) (kind-is s x ∙ ap (λ (ks : List Kind). kind_in ks x) (sym e)) h)

  weight_end : (x : Terminator) → 1 ≤ weight (calls# p) (params# p) (Ends x)
  weight_end x = Rattle.rules.proofs.Exactness.Potential.weight_pos (calls# p) (params# p) (Ends x)

  ends_inj : (x y : Terminator) → Ends x ≡ Ends y → x ≡ y
  ends_inj x y e = cc

  ruled-ends : (i : ℕ) (x : Terminator) (s : State) (r : Kind × State) → Ok i s → op_of p i ≡ Ends x → rule L p i (Ends x) s ≡ answered r → Ruled i (Ends x) s r.0 r.1
  unfolding rule
  ruled-ends i x s r v q e =
      let a = after (leave L p i x s) _ e in
      let m = left i x s a.0 v q a.1 in
      let z = same-state a.2 in
      rw (← z.0, ← z.1) (record {
        inv = m.moved.ok.inv;
        count = m.moved.calm.count;
        cost = omega (arith, m.moved.cost, weight_end x);
        leads = λ b h. m.leads b (rw m.moved.calm.kinds at h);
        passed = tt;
        rule = none-rule i x a.0.1;
        fine = K.fine_empty;
        held = tt;
        args = λ f y c. no_call i f (Ends x) a.0.1 q refl m.moved.ok.inv c;
        ret = λ y c w. m.ret y c (ends_inj x (Return y) w);
      })

  -- ---- the rules that put nothing in

  -- a rule that leaves the state as it is and leads nowhere
  quiet : (i : ℕ) (o : Op) (s : State) (k : Kind) → op_of p i ≡ o → (has (about o).callee ≡ false) × (has (about o).terminator ≡ false) → Inv L p (i ∷ []) s → weight (calls# p) (params# p) o ≡ 1 → ((b : ℕ) → Leads p s.kinds o b → ⊥) → Passed s.kinds o
      → IsRule L p s i o k → Fine (length p.classes) (length p.functions) k → Held p s.kinds s.live s.ivar_kinds s.ivar_reads k i o → Ruled i o s k s
  quiet i o s k q plain v w h ok ru g he = record {
    inv = v;
    count = refl;
    cost = omega (arith, w);
    leads = λ b m. absurd (h b m);
    passed = ok;
    rule = ru;
    fine = g;
    held = he;
    args = λ f x m. no_call i f o s q plain.0 v m;
    ret = λ x c e. no_end o (Return x) plain.1 e;
  }

  ruled-object : (i c : ℕ) (s : State) (r : Kind × State) → Inv L p (i ∷ []) s → i < length p.instructions → op_of p i ≡ New c → rule L p i (New c) s ≡ answered r → Ruled i (New c) s r.0 r.1
  unfolding rule
  ruled-object i c s r v h q e = let z = same-state e in rw (← z.0, ← z.1) (quiet i (New c) s (object c) q (refl, refl) v refl (λ b m. m) tt (record { above = le_refl K (object c); least = λ u h. h }) (F.new_fine i c h q) (le_refl K (object c)))

  ruled-self : (i c : ℕ) (s : State) (r : Kind × State) → Inv L p (i ∷ []) s → i < length p.instructions → op_of p i ≡ SelfParam c → rule L p i (SelfParam c) s ≡ answered r → Ruled i (SelfParam c) s r.0 r.1
  unfolding rule
  ruled-self i c s r v h q e = let z = same-state e in rw (← z.0, ← z.1) (quiet i (SelfParam c) s (object c) q (refl, refl) v refl (λ b m. m) tt (record { above = le_refl K (object c); least = λ u h. h }) (F.self_fine i c h q) (le_refl K (object c)))

  ruled_compute : (i : ℕ) (o : Rattle.kinds.specs.declared.Arith.Arith) (x y : Opnd) (s : State) (r : Kind × State) → op_of p i ≡ Compute o x y → Inv L p (i ∷ []) s → rule L p i (Compute o x y) s ≡ answered r → Ruled i (Compute o x y) s r.0 r.1
  unfolding rule
  ruled_compute i o x y s r c v e =
      let j = joined (arith_of o (kind_of s x) (kind_of s y)) s e in
      let q : r.0 ≡ arith_total o (kind_in s.kinds x) (kind_in s.kinds y) = K.arith o _ _ r.0 (rw (← kind-is s x, ← kind-is s y) j.0) in
      rw (q, j.1) (quiet i (Compute o x y) s _ c (refl, refl) v refl (λ b m. m) tt (record { above = le_refl K _; least = λ u h. h }) (K.arith_fine o _ _) (le_refl K _))

  argument_fine : (n c : ℕ) → FineOpnd (length p.classes) (length p.functions) (argument L p n c)
  argument_fine n c = go (less_or c (length p.instructions))
    where
      at : (l : List Opnd) (n : ℕ) → ((v : Opnd) → v ∈ l → FineOpnd (length p.classes) (length p.functions) v) → FineOpnd (length p.classes) (length p.functions) (get_or l n (Const Empty))
      at [] n h = K.fine_empty
      at (x ∷ l) zero h = h x (Memᴰ.head refl)
      at (x ∷ l) (suc n) h = at l n (λ v m. h v (Memᴰ.tail m))

      go : (c < length p.instructions) ⊎ (length p.instructions ≤ c) → FineOpnd (length p.classes) (length p.functions) (argument L p n c)
      go (inl h) = at (about (op_of p c)).listed n (λ v m. F.listed_fine c v h m)
      go (inr h) = subst (λ (x : Instruction). FineOpnd (length p.classes) (length p.functions) (get_or (about x.op).listed n (Const Empty))) (sym (get_or-eq_default p.instructions (record { block = 0; op = New 0 }) h)) (at [] n (λ v m. not_in_none m))

  ruled_param : (i n : ℕ) (s : State) (r : Kind × State) → op_of p i ≡ Param n → Inv L p (i ∷ []) s → rule L p i (Param n) s ≡ answered r → Ruled i (Param n) s r.0 r.1
  unfolding rule
  ruled_param i n s r q v e =
      let d = join_all-is (flows_in L p s i) s e in
      let z = joined-opnds K s (flows_in L p s i) r.0 d.0 in
      rw d.1 (quiet i (Param n) s r.0 q (refl, refl) v refl (λ b m. m) tt
      (record {
        above = λ c m. z.above (argument L p (place_of L p i) c) (given_in K L p s i _ (c, m, refl));
        least = λ u h. z.least u (λ x m. let g = in_given K L p s i x m in rw g.2 (h g.0 g.1));
      })
      (joined_fine K s (flows_in L p s i) r.0 d.0 v.fine.kind (λ x m. let g = in_given K L p s i x m in rw g.2 (argument_fine (place_of L p i) g.0))) tt)

  ruled-phi : (i b : ℕ) (x : Opnd) (c : ℕ) (y : Opnd) (s : State) (r : Kind × State) → Inv L p (i ∷ []) s → i < length p.instructions → op_of p i ≡ Phi b x c y → rule L p i (Phi b x c y) s ≡ answered r → Ruled i (Phi b x c y) s r.0 r.1
  unfolding rule
  ruled-phi i b x c y s r v h q e =
      let d = join_all-is l s e in
      let z = joined-opnds K s l r.0 d.0 in
      let ru : IsRule L p s i (Phi b x c y) r.0 = record {
        above = (λ m. z.above x (Memᴰ.append_left (side c y) (there b x m)), λ m. z.above y (Memᴰ.append_right (side b x) (there c y m)));
        least = λ u g. z.least u (λ w m. ∈-append (side b x) (side c y) (λ n. at b x u w g.0 n) (λ n. at c y u w g.1 n) m);
      } in
      rw d.1 (quiet i (Phi b x c y) s r.0 q (refl, refl) v refl (λ b m. m) tt ru
      (joined_fine K s l r.0 d.0 v.fine.kind (λ w m. ∈-append (side b x) (side c y) (λ n. fi b x w (F.operand_fine i x h (rw q (Memᴰ.head refl))) n) (λ n. fi c y w (F.operand_fine i y h (rw q (Memᴰ.tail (Memᴰ.head refl)))) n) m))
      (record { one = is_live s.live b; two = is_live s.live c; one_live = λ e. e; two_live = λ e. e; one_in = ru.above.0; two_in = ru.above.1; least = λ u f g. ru.least u (f, g) }))
    where
      side : ℕ → Opnd → List Opnd
      side b x = cond (get_or s.live b false) (x ∷ []) []

      l : List Opnd
      l = side b x ++ side c y

      there : (b : ℕ) (x : Opnd) → is_live s.live b ≡ true → x ∈ side b x
      there b x m = rw m (Memᴰ.head refl)

      at : (b : ℕ) (x : Opnd) (u : Kind) (w : Opnd) → (is_live s.live b ≡ true → Le (kind_in s.kinds x) u) → w ∈ side b x → Le (kind_in s.kinds w) u
      at b x u w g m = go (get_or s.live b false) refl m
        where
          go : (t : 𝔹) → is_live s.live b ≡ t → w ∈ cond t (x ∷ []) [] → Le (kind_in s.kinds w) u
          go true e n = rw (∈-one n) (g e)
          go false e n = not_in_none n

      fi : (b : ℕ) (x w : Opnd) → FineOpnd (length p.classes) (length p.functions) x → w ∈ side b x → FineOpnd (length p.classes) (length p.functions) w
      fi b x w g m = go (get_or s.live b false) m
        where
          go : (t : 𝔹) → w ∈ cond t (x ∷ []) [] → FineOpnd (length p.classes) (length p.functions) w
          go true n = rw (∈-one n) g
          go false n = not_in_none n

  -- ---- attributes

  ruled_get : (i : ℕ) (n : Name) (x : Opnd) (s : State) (r : Kind × State) → Ok i s → op_of p i ≡ GetIvar n x → rule L p i (GetIvar n x) s ≡ answered r → Ruled i (GetIvar n x) s r.0 r.1
  unfolding rule
  ruled_get i n x s r v q e =
      let a = after (classes_of x s) _ e in
      let z = classes_of-is x s a.1 in
      go z.0 z.1 (subst (λ (t : State). rest (members_of z.0) t ≡ answered r) z.3 (subst (λ (cs : List ℕ). rest cs a.0.1 ≡ answered r) z.2 a.2))
    where
      note : ℕ → Acts (Unit {0})
      note c t = answered (tt, add_read c i t)

      once : (c : ℕ) (s : State) (r : Unit {0} × State) → Ok i s → note c s ≡ answered r → Moved i 0 s r.1 × (c < length p.classes → marked r.1.ivar_reads c i ≡ true)
      once c s r v e = subst (λ (t : State). Moved i 0 s t × (c < length p.classes → marked t.ivar_reads c i ≡ true)) (same-state e).1 (noted i c s v, λ h. now h)
        where
          now : c < length p.classes → marked (mark s.ivar_reads c i) c i ≡ true
          now h =
              let z = v.inv.sizes in
              rw (get_or-set_same s.ivar_reads c (set (get_or s.ivar_reads c []) i true) [] (rw z.reads h)) (get_or-set_same (get_or s.ivar_reads c []) i true false (rw (z.reads_row c h) v.placed.within))

      rest : List ℕ → State → Answer (Kind × State)
      rest cs t = if_answered (each cs note t) (λ z. fold (get_ivar L p n) Empty cs z.1)

      go : (c : ℕ) → classes_in (kind_of s x) ≡ some c → rest (members_of c) s ≡ answered r → Ruled i (GetIvar n x) s r.0 r.1
      go c h e =
          let hk : classes_in (kind_in s.kinds x) ≡ some c = rw (← kind-is s x) h in
          let wide = wide_is (kind_in s.kinds x) c hk in
          let b = after (each (members_of c) note s) _ e in
          let w = walked i note (λ c. 0) (λ c s. Unit {0}) (λ c s. c < length p.classes → marked s.ivar_reads c i ≡ true) (λ c s t k h. h) (λ c s t k h l. k.reads c i (h l)) (λ c s r v h e. once c s r v e) (members_of c) s v (λ c m. tt) b.1 in
          let d = read K L p n Empty (members_of c) b.0.1 r b.2 in
          let wide' : wide_classes (kind_in b.0.1.kinds x) ≡ members_of c = rw w.0.calm.kinds wide in
          rw d.state (record {
            inv = w.0.ok.inv;
            count = w.0.calm.count;
            cost = omega (arith, w.0.cost, Rattle.rules.proofs.Exactness.Sums.sum-none (members_of c));
            leads = λ y m. absurd m;
            passed = tt;
            rule = record {
              above = λ c a m f. d.above c a (rw wide' at m) f;
              least = λ u g. d.least u (le_empty K u) (λ c a m f. g c a (rw wide' m) f);
            };
            fine = d.fine K.fine_empty w.0.ok.inv.fine.ivar;
            held = λ c a m f. (d.above c a (rw wide' at m) f, w.1 c (rw wide' at m) (F.ivar_in_lem c n a f).0);
            args = λ f y m. no_call i f (GetIvar n x) b.0.1 q refl w.0.ok.inv m;
            ret = λ y c e. no_end (GetIvar n x) (Return y) refl e;
          })

  ruled-set : (i : ℕ) (n : Name) (x y : Opnd) (s : State) (r : Kind × State) → Ok i s → op_of p i ≡ SetIvar n x y → rule L p i (SetIvar n x y) s ≡ answered r → Ruled i (SetIvar n x y) s r.0 r.1
  unfolding rule
  ruled-set i n x y s r v q e =
      let a = after (classes_of x s) _ e in
      let z = classes_of-is x s a.1 in
      go z.0 z.1 (subst (λ (t : State). rest (members_of z.0) t ≡ answered r) z.3 (subst (λ (cs : List ℕ). rest cs a.0.1 ≡ answered r) z.2 a.2))
    where
      rest : List ℕ → State → Answer (Kind × State)
      rest cs t = if_answered (each cs (set_ivar L p n (kind_of t y)) t) (λ z. answered (Empty, z.1))

      fine_y : Fine (length p.classes) (length p.functions) (kind_of s y)
      fine_y = rw (kind-is s y) (kind_fine K s.kinds v.inv.fine.kind y (F.operand_fine i y v.placed.within (rw q (Memᴰ.tail (Memᴰ.head refl)))))

      some_inj : (a b : ℕ) → some a ≡ some b → a ≡ b
      some_inj a b e = cc

      -- the attribute of the class lies above the value
      Set : ℕ → State → Type 0
      Set c t = (a : ℕ) → ivar_named p c n ≡ some a → Le (kind_of s y) (ivar_at t.ivar_kinds c a)

      once : (c : ℕ) (t : State) (r : Unit {0} × State) → Ok i t → Unit {0} → set_ivar L p n (kind_of s y) c t ≡ answered r → Moved i 0 t r.1 × Set c r.1
      once c t r v h e = at (set_ivar-is L p n (kind_of s y) c t e)
        where
          at : ((a : ℕ) × (r.1 ≡ t) × (ivar_named p c n ≡ some a) × Same (ivar_at t.ivar_kinds c a) (kind_of s y)) ⊎ Widened L p n (kind_of s y) c t r.1 → Moved i 0 t r.1 × Set c r.1
          at (inl q) = rw q.1 (moved-refl i t v, λ a e. subst (λ (b : ℕ). Le (kind_of s y) (ivar_at t.ivar_kinds c b)) (some_inj q.0 a (sym q.2 ∙ e)) (same_le (ivar_at t.ivar_kinds c q.0) (kind_of s y) q.3))
          at (inr w) = (widened i n (kind_of s y) c t r.1 v fine_y w, λ a e. subst (λ (b : ℕ). Le (kind_of s y) (ivar_at r.1.ivar_kinds c b)) (some_inj w.place a (sym w.named ∙ e)) (rw w.state (subst (λ (k : Kind). Le (kind_of s y) k) (sym now) above)))
            where
              h' : (c < length p.classes) × (w.place < length (class p c).ivars)
              h' = F.ivar_in_lem c n w.place w.named

              now : ivar_at (set t.ivar_kinds c (set (get_or t.ivar_kinds c []) w.place w.kind)) c w.place ≡ w.kind
              now =
                  let z = v.inv.sizes in
                  rw (get_or-set_same t.ivar_kinds c (set (get_or t.ivar_kinds c []) w.place w.kind) [] (rw z.ivars h'.0)) (get_or-set_same (get_or t.ivar_kinds c []) w.place w.kind Empty (rw (z.ivars_row c h'.0) h'.1))

              above : Le (kind_of s y) w.kind
              above = rw (K.union (ivar_at t.ivar_kinds c w.place) (kind_of s y) w.kind w.union) (join-right K (ivar_at t.ivar_kinds c w.place) (kind_of s y))

      go : (c : ℕ) → classes_in (kind_of s x) ≡ some c → rest (members_of c) s ≡ answered r → Ruled i (SetIvar n x y) s r.0 r.1
      go c h e =
          let wide = wide_is (kind_in s.kinds x) c (rw (← kind-is s x) h) in
          let b = after (each (members_of c) (set_ivar L p n (kind_of s y)) s) _ e in
          let w = walked i (set_ivar L p n (kind_of s y)) (λ c. 0) (λ c s. Unit {0}) Set (λ c s t k h. h) (λ c s t k h a e. le_trans K (h a e) (k.ivars c a)) once (members_of c) s v (λ c m. tt) b.1 in
          let wide' : wide_classes (kind_in b.0.1.kinds x) ≡ members_of c = rw w.0.calm.kinds wide in
          let z = same-state b.2 in
          rw (← z.0, ← z.1) (record {
            inv = w.0.ok.inv;
            count = w.0.calm.count;
            cost = omega (arith, w.0.cost, Rattle.rules.proofs.Exactness.Sums.sum-none (members_of c));
            leads = λ y m. absurd m;
            passed = tt;
            rule = record { above = tt; least = λ u h. le_empty K u };
            fine = K.fine_empty;
            held = λ c a m f. subst (λ (k : Kind). Le k (ivar_at b.0.1.ivar_kinds c a)) (kind-is s y ∙ ap (λ (ks : List Kind). kind_in ks y) (sym w.0.calm.kinds)) (w.1 c (rw wide' at m) a f);
            args = λ f k m. no_call i f (SetIvar n x y) b.0.1 q refl w.0.ok.inv m;
            ret = λ k c e. no_end (SetIvar n x y) (Return k) refl e;
          })

  pub ruled : (i : ℕ) (o : Op) (s : State) (r : Kind × State) → op_of p i ≡ o → i < length p.instructions → Inv L p (i ∷ []) s → Fit p s.live i → rule L p i o s ≡ answered r → Ruled i o s r.0 r.1
  ruled i (Ends x) s r q h v (inl pl) e = ruled-ends i x s r (record { inv = v; placed = pl }) q e
  ruled i (Ends x) s r q h v (inr pa) e = absurd (false≢true (rw q at pa))
  ruled i (Send (Static f) l) s r q h v (inl pl) e = ruled_static i f l s r (record { inv = v; placed = pl }) q e
  ruled i (Send (Static f) l) s r q h v (inr pa) e = absurd (false≢true (rw q at pa))
  ruled i (Send (Dynamic x n) l) s r q h v (inl pl) e = ruled_dynamic i x n l q s r (record { inv = v; placed = pl }) e
  ruled i (Send (Dynamic x n) l) s r q h v (inr pa) e = absurd (false≢true (rw q at pa))
  ruled i (Compute o x y) s r q h v f e = ruled_compute i o x y s r q v e
  ruled i (Phi b x c y) s r q h v f e = ruled-phi i b x c y s r v h q e
  ruled i (Param n) s r q h v f e = ruled_param i n s r q v e
  ruled i (SelfParam c) s r q h v f e = ruled-self i c s r v h q e
  ruled i (New c) s r q h v f e = ruled-object i c s r v h q e
  ruled i (GetIvar n x) s r q h v (inl pl) e = ruled_get i n x s r (record { inv = v; placed = pl }) q e
  ruled i (GetIvar n x) s r q h v (inr pa) e = absurd (false≢true (rw q at pa))
  ruled i (SetIvar n x y) s r q h v (inl pl) e = ruled-set i n x y s r (record { inv = v; placed = pl }) q e
  ruled i (SetIvar n x y) s r q h v (inr pa) e = absurd (false≢true (rw q at pa))

  -- ---- the kind is stored

  pub record Visited (i : ℕ) (s t : State) : Type 0 where
    pub inv : Inv L p [] t
    pub count : t.count ≡ s.count
    pub cost : pot p t + 1 ≤ pot p s + W p i

  own_param : (i : ℕ) (o : Op) (t : State) (k : Kind) → is_param o ≡ true → AboveAt L p t i o k → (c : ℕ) → marked t.called_by (function_of p i) c ≡ true → Le (kind_in t.kinds (argument L p (place_of L p i) c)) k
  own_param i (Ends x) t k e a = absurd (false≢true e)
  own_param i (Send c l) t k e a = absurd (false≢true e)
  own_param i (Compute o x y) t k e a = absurd (false≢true e)
  own_param i (Phi b x c y) t k e a = absurd (false≢true e)
  own_param i (Param n) t k e a = a
  own_param i (SelfParam c) t k e a = absurd (false≢true e)
  own_param i (New c) t k e a = absurd (false≢true e)
  own_param i (GetIvar n x) t k e a = absurd (false≢true e)
  own_param i (SetIvar n x y) t k e a = absurd (false≢true e)

  own-call : (i : ℕ) (o : Op) (t : State) (k : Kind) → has (about o).callee ≡ true → AboveAt L p t i o k → (f : ℕ) (x : Opnd) → marked t.called_by f i ≡ true → x ∈ returns p f → Le (kind_in t.kinds x) k
  own-call i (Ends x) t k e a = absurd (false≢true e)
  own-call i (Send c l) t k e a = a
  own-call i (Compute o x y) t k e a = absurd (false≢true e)
  own-call i (Phi b x c y) t k e a = absurd (false≢true e)
  own-call i (Param n) t k e a = absurd (false≢true e)
  own-call i (SelfParam c) t k e a = absurd (false≢true e)
  own-call i (New c) t k e a = absurd (false≢true e)
  own-call i (GetIvar n x) t k e a = absurd (false≢true e)
  own-call i (SetIvar n x y) t k e a = absurd (false≢true e)

  own : (i : ℕ) (s : State) (k : Kind) (t : State) → Ruled i (op_of p i) s k t → Own L p K F.tables i k t.insn_worklist t.kinds t.live t.called_by t.ivar_kinds t.ivar_reads
  own i s k t m = record {
    held = m.held;
    args = m.args;
    param = λ f c e n. own_param i (op_of p i) t k (F.params_in f i n).1 m.rule.above c (subst (λ (g : ℕ). marked t.called_by g c ≡ true) (sym (F.params_of f i (known f c e) n)) e);
    call = λ x v e o h. own-call i (op_of p i) t k (m.inv.callers (function_of p x) i e).call m.rule.above (function_of p x) v e (F.in_returns x v h o);
    ret = m.ret;
  }
    where
      known : (f c : ℕ) → marked t.called_by f c ≡ true → f < length p.functions
      known f c e = subst (λ (n : ℕ). f < n) m.inv.sizes.called (places-∈ [] (λ (row : List 𝔹). get_or row c false) t.called_by f (marked_row t.called_by f c e)).0

  pub visited : (i : ℕ) (s : State) (r : Unit {0} × State) → i < length p.instructions → Inv L p (i ∷ []) s → Fit p s.live i → visit L p i s ≡ answered r → Visited i s r.1
  unfolding visit
  visited i s r h v f e =
      let a = after (rule L p i (op_of p i) s) _ e in
      let m = ruled i (op_of p i) s a.0 refl h v f a.1 in
      go a.0.0 a.0.1 m (own i s a.0.0 a.0.1 m) (store_is L p i a.0.0 a.0.1 a.2)
    where
      go : (k : Kind) (t : State) → Ruled i (op_of p i) s k t → Own L p K F.tables i k t.insn_worklist t.kinds t.live t.called_by t.ivar_kinds t.ivar_reads
          → ((r.1 ≡ t) × Same (get_or t.kinds i Empty) k) ⊎ Stored L p i k t r.1 → Visited i s r.1
      go k t m o (inl q) = rw q.0 (record { inv = inv_finish K F.tables i k t m.inv (record { leads = m.leads; passed = m.passed }) o (same_le (get_or t.kinds i Empty) k q.1) (m.inv.sound i k m.rule.above); count = m.count; cost = m.cost })
      go k t m o (inr z) =
          let w = m.inv in
          let old = get_or t.kinds i Empty in
          let le : Le old k = w.sound i k m.rule.above in
          let d = z.changed in
          let u : d.0 ≡ k = K.union old k d.0 d.1 ∙ le.is in
          let lt : height p old < height p k = K.height_lt old k (w.fine.kind i) m.fine le (λ (q : old ≡ k). false≢true (sym d.2 ∙ ap (λ (x : Kind). same_kind x old) (u ∙ sym q) ∙ K.same_self old)) in
          rw z.state (record {
            inv = inv_store K F.tables i k t h w (record { leads = m.leads; passed = m.passed }) o m.rule m.fine;
            count = m.count;
            cost = rw (sum-++ (W p) t.insn_worklist (live_uses L p t i))
                (omega (arith, m.cost, sum-keep (λ j. get_or t.live (block_of p j) false) (W p) (uses p i), pot_kind p t.kinds i k (rw w.sizes.kinds h) h (K.height_le k m.fine) lt));
          })
