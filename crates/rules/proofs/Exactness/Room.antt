-- Question 20 keeps the worklists within their limit: so it is at the start and after any number of steps. Assumes nothing.
use Prim.Native.Nat.{ℕ, zero, suc, ◌≤◌}
use native.Mathlib.Omega.{arith}
use mathlib.Core.Path.{◌≡◌, refl, sym, ap, ◌∙◌, subst}
use mathlib.Core.Bool.{Bool as 𝔹, true, false, not, cond}
use mathlib.Core.Option.{Option, none, some}
use mathlib.Core.List.{List, [], ◌∷◌, ◌++◌, map}
use lib.Dec.{ltb, leb, eqb}
use lib.ListN.{length, get_or, length-append}
use Rattle.ids.specs.Sets.{members_of}
use Rattle.kinds.specs.declared.Kind.{Kind}
use Rattle.kinds.specs.declared.Kind.TheVariants.{Empty}
use Rattle.kinds.specs.Kinds.{same_kind, is_empty}
use Rattle.kinds.specs.Union.{union_of, union_all}
use Rattle.kinds.specs.Rules.{arith_of, admits}
use Rattle.rules.specs.Actions.{choose, Answer, answered, refused, if_answered, ask, needed, lift, unless, each, fold}
use Rattle.rules.specs.Lists.{has}
use Rattle.rules.specs.Values.{to_answer, object, classes_in}
use Rattle.rules.specs.Program.{Limits, Name, Opnd, Terminator, Jump, IfTrue, Return, Static, Dynamic, Op, Ends, Send, Compute, Phi, Param, SelfParam, New, GetIvar, SetIvar, Program, about, op_of, function, function_of, entry, code, method_named, ivar_named, main_function, parameters}
use Rattle.rules.specs.Machine.{State, Acts, set_kind, set_live, marked, add_caller, add_read, set_ivar_kind, with_insns, with_blocks, taken, kind_of, join, join_all, classes_of, push_insn, push_block, wake_if_wider, store, add_call, pass_arguments, place_of, argument, callers_of, flows_back, flows_in, leave, get_ivar, set_ivar, rule, visit, go_live, state_of, take_block, take_insn, drain_block, at_rest, step, run, blank, first_kinds_from, start}
use Rattle.rules.proofs.Exactness.Answers.{answer, never, after, asked, live_uses, woken_reads, get_ivar-is}
use Rattle.rules.proofs.Exactness.Promise.{lt_of}
use Rattle.rules.proofs.Exactness.Run.{run_none, run-rest, run_step}

module _ (L : Limits) where
  pub record Roomy (s : State) : Type 0 where
    pub insns : length s.insn_worklist ≤ L.worklist
    pub blocks : length s.block_worklist ≤ L.worklist

  -- an action that keeps the lists within the limit
  abbrev pub Keeps : {A : Type 0} → Acts A → Type 0
  Keeps {A} m = (s : State) (r : A × State) → Roomy s → m s ≡ answered r → Roomy r.1

  -- ---- how actions are put together

  module _ {A : Type 0} where
    still : (s : State) (a : A) (r : A × State) → Roomy s → answered (a, s) ≡ answered r → Roomy r.1
    still s a r h e = subst (λ (z : A × State). Roomy z.1) (answer e) h

    keeps_needed : (n : ℕ) (o : Option A) → Keeps (needed n o)
    keeps_needed n none s r h e = never e
    keeps_needed n (some x) s r h e = still s x r h e

    keeps_lift : (a : Answer A) → Keeps (lift a)
    keeps_lift (answered x) s r h e = still s x r h e
    keeps_lift (refused n) s r h e = never e

  keeps_ask : (n : ℕ) (b : 𝔹) → Keeps (ask n b)
  keeps_ask n true s r h e = still s tt r h e
  keeps_ask n false s r h e = never e

  keeps_unless : (b : 𝔹) (m : Acts (Unit {0})) → Keeps m → Keeps (unless b m)
  keeps_unless true m hm s r h e = still s tt r h e
  keeps_unless false m hm s r h e = hm s r h e

  keeps_each : {A : Type 0} (l : List A) (f : A → Acts (Unit {0})) → ((x : A) → Keeps (f x)) → Keeps (each l f)
  keeps_each [] f hf s r h e = still s tt r h e
  keeps_each (x ∷ l) f hf s r h e = let a = after (f x s) _ e in keeps_each l f hf a.0.1 r (hf x s a.0 h a.1) a.2

  keeps_fold : {A B : Type 0} (f : B → A → Acts B) (b : B) (l : List A) → ((b : B) (x : A) → Keeps (f b x)) → Keeps (fold f b l)
  keeps_fold f b [] hf s r h e = still s b r h e
  keeps_fold f b (x ∷ l) hf s r h e = let a = after (f b x s) _ e in keeps_fold f a.0.0 l hf a.0.1 r (hf b x s a.0 h a.1) a.2

  keeps_join : (a b : Kind) → Keeps (join a b)
  keeps_join a b = keeps_lift (to_answer (union_of a b))

  keeps_join_all : (l : List Opnd) → Keeps (join_all l)
  unfolding join_all
  keeps_join_all l s r h e = keeps_lift (to_answer (union_all Empty (map (kind_of s) l))) s r h e

  keeps_classes_of : (v : Opnd) → Keeps (classes_of v)
  unfolding classes_of
  keeps_classes_of v s r h e =
      let a = after (needed 14 (classes_in (kind_of s v)) s) _ e in
      still a.0.1 (members_of a.0.0) r (keeps_needed 14 (classes_in (kind_of s v)) s a.0 h a.1) a.2

  -- another part of the state
  same : (s : State) (t : State) → Roomy s → t.insn_worklist ≡ s.insn_worklist → t.block_worklist ≡ s.block_worklist → Roomy t
  same s t h e f = record { insns = rw e h.insns; blocks = rw f h.blocks }

  module _ (p : Program) where
    -- ---- the machine's actions

    keeps_push_insn : (x : ℕ) → Keeps (push_insn L p x)
    unfolding push_insn
    keeps_push_insn x s r h e =
        let a = asked 20 (ltb (length s.insn_worklist) L.worklist) (tt, s) _ e in
        let q = lt_of (length s.insn_worklist) L.worklist a.0 in
        still (with_insns (s.insn_worklist ++ x ∷ []) s) tt r (record { insns = rw (length-append s.insn_worklist (x ∷ [])) (omega arith); blocks = h.blocks }) a.1

    keeps_push_block : (x : ℕ) → Keeps (push_block L p x)
    unfolding push_block
    keeps_push_block x s r h e =
        let a = asked 20 (ltb (length s.block_worklist) L.worklist) (tt, s) _ e in
        let q = lt_of (length s.block_worklist) L.worklist a.0 in
        still (with_blocks (s.block_worklist ++ x ∷ []) s) tt r (record { insns = h.insns; blocks = rw (length-append s.block_worklist (x ∷ [])) (omega arith) }) a.1

    keeps_pushes : (l : List ℕ) → Keeps (each l (push_insn L p))
    keeps_pushes l = keeps_each l (push_insn L p) keeps_push_insn

    keeps_wake : (k : Kind) (x : ℕ) → Keeps (wake_if_wider L p k x)
    unfolding wake_if_wider
    keeps_wake k x s r h e =
        let old = get_or s.kinds x Empty in
        let a = after (join old k s) _ e in
        keeps_unless (same_kind a.0.0 old) (push_insn L p x) (keeps_push_insn x) a.0.1 r (keeps_join old k s a.0 h a.1) a.2

    keeps_store : (i : ℕ) (k : Kind) → Keeps (store L p i k)
    unfolding store
    keeps_store i k s r h e =
        let old = get_or s.kinds i Empty in
        let a = after (join old k s) _ e in
        keeps_unless (same_kind a.0.0 old) (λ t. each (live_uses L p (set_kind i k t) i) (push_insn L p) (set_kind i k t))
        (λ t r h e. keeps_pushes (live_uses L p (set_kind i k t) i) (set_kind i k t) r (same t (set_kind i k t) h refl refl) e) a.0.1 r (keeps_join old k s a.0 h a.1) a.2

    keeps_add_call : (i f : ℕ) → Keeps (add_call L p i f)
    unfolding add_call
    keeps_add_call i f s r h e = keeps_unless (marked s.called_by f i) rest call s r h e
      where
        enough : 𝔹
        enough = leb (length (parameters p f)) (length (about (op_of p i)).listed)

        rest : Acts (Unit {0})
        rest t = if_answered (push_block L p (entry p f) (add_caller f i t)) (λ z. ask 16 enough z.1)

        call : Keeps rest
        call t r h e = let a = after (push_block L p (entry p f) (add_caller f i t)) _ e in keeps_ask 16 enough a.0.1 r (keeps_push_block (entry p f) (add_caller f i t) a.0 (same t (add_caller f i t) h refl refl) a.1) a.2

    keeps_arguments : (i f : ℕ) → Keeps (pass_arguments L p i f)
    unfolding pass_arguments
    keeps_arguments i f = keeps_each (parameters p f) (λ x s. wake_if_wider L p (kind_of s (argument L p (place_of L p x) i)) x s) (λ x s r h e. keeps_wake (kind_of s (argument L p (place_of L p x) i)) x s r h e)

    keeps_leave : (i : ℕ) (x : Terminator) → Keeps (leave L p i x)
    unfolding leave
    keeps_leave i (Jump b) s r h e = keeps_push_block b s r h e
    keeps_leave i (IfTrue v x y) s r h e =
        let k = kind_of s v in
        let a = after (unless (not (admits true k)) (push_block L p x) s) _ e in
        keeps_unless (not (admits false k)) (push_block L p y) (keeps_push_block y) a.0.1 r (keeps_unless (not (admits true k)) (push_block L p x) (keeps_push_block x) s a.0 h a.1) a.2
    keeps_leave i (Return v) s r h e =
        keeps_unless (is_empty (kind_of s v)) (each (callers_of L p s (function_of p i)) (wake_if_wider L p (kind_of s v))) (keeps_each (callers_of L p s (function_of p i)) (wake_if_wider L p (kind_of s v)) (keeps_wake (kind_of s v))) s r h e

    keeps_get_ivar : (n : Name) (k : Kind) (c : ℕ) → Keeps (get_ivar L p n k c)
    keeps_get_ivar n k c s r h e = same s r.1 h (ap (λ (t : State). t.insn_worklist) (get_ivar-is L p n k c s e).3) (ap (λ (t : State). t.block_worklist) (get_ivar-is L p n k c s e).3)

    keeps_set_ivar : (n : Name) (k : Kind) (c : ℕ) → Keeps (set_ivar L p n k c)
    unfolding set_ivar
    keeps_set_ivar n k c s r h e =
        let a = after (needed 15 (ivar_named p c n) s) _ e in
        let t = a.0.1 in
        let x = a.0.0 in
        let old = get_or (get_or t.ivar_kinds c []) x Empty in
        let b = after (join old k t) _ a.2 in
        keeps_unless (same_kind b.0.0 old) (λ t. each (woken_reads L p (set_ivar_kind c x b.0.0 t) n c) (push_insn L p) (set_ivar_kind c x b.0.0 t))
        (λ t r h e. keeps_pushes (woken_reads L p (set_ivar_kind c x b.0.0 t) n c) (set_ivar_kind c x b.0.0 t) r (same t (set_ivar_kind c x b.0.0 t) h refl refl) e)
        b.0.1 r (keeps_join old k t b.0 (keeps_needed 15 (ivar_named p c n) s a.0 h a.1) b.1) b.2

    keeps_rule : (i : ℕ) (o : Op) → Keeps (rule L p i o)
    unfolding rule
    keeps_rule i (Ends x) s r h e = let a = after (leave L p i x s) _ e in still a.0.1 Empty r (keeps_leave i x s a.0 h a.1) a.2
    keeps_rule i (Send (Static f) l) s r h e =
        let a = after (add_call L p i f s) _ e in
        let b = asked 17 (not (has (function p f).class)) (tt, a.0.1) _ a.2 in
        let c = after (pass_arguments L p i f a.0.1) _ b.1 in
        keeps_join_all (flows_back L p c.0.1 i) c.0.1 r (keeps_arguments i f a.0.1 c.0 (keeps_add_call i f s a.0 h a.1) c.1) c.2
    keeps_rule i (Send (Dynamic x n) l) s r h e =
        let a = after (classes_of x s) _ e in
        let b = after (each a.0.0 call_in a.0.1) _ a.2 in
        keeps_join_all (flows_back L p b.0.1 i) b.0.1 r (keeps_each a.0.0 call_in keeps_call_in a.0.1 b.0 (keeps_classes_of x s a.0 h a.1) b.1) b.2
      where
        call_in : ℕ → Acts (Unit {0})
        call_in c s = if_answered (needed 15 (method_named p c n) s) (λ r. if_answered (add_call L p i r.0 r.1) (λ z. pass_arguments L p i r.0 z.1))

        keeps_call_in : (c : ℕ) → Keeps (call_in c)
        keeps_call_in c s r h e =
            let a = after (needed 15 (method_named p c n) s) _ e in
            let b = after (add_call L p i a.0.0 a.0.1) _ a.2 in
            keeps_arguments i a.0.0 b.0.1 r (keeps_add_call i a.0.0 a.0.1 b.0 (keeps_needed 15 (method_named p c n) s a.0 h a.1) b.1) b.2
    keeps_rule i (Compute o x y) s r h e = keeps_lift (to_answer (arith_of o (kind_of s x) (kind_of s y))) s r h e
    keeps_rule i (Phi b x c y) s r h e = keeps_join_all (cond (get_or s.live b false) (x ∷ []) [] ++ cond (get_or s.live c false) (y ∷ []) []) s r h e
    keeps_rule i (Param n) s r h e = keeps_join_all (flows_in L p s i) s r h e
    keeps_rule i (SelfParam c) s r h e = still s (object c) r h e
    keeps_rule i (New c) s r h e = still s (object c) r h e
    keeps_rule i (GetIvar n x) s r h e =
        let a = after (classes_of x s) _ e in
        let b = after (each a.0.0 note a.0.1) _ a.2 in
        keeps_fold (get_ivar L p n) Empty a.0.0 (keeps_get_ivar n) b.0.1 r (keeps_each a.0.0 note keeps_note a.0.1 b.0 (keeps_classes_of x s a.0 h a.1) b.1) b.2
      where
        note : ℕ → Acts (Unit {0})
        note c t = answered (tt, add_read c i t)

        keeps_note : (c : ℕ) → Keeps (note c)
        keeps_note c s r h e = still (add_read c i s) tt r (same s (add_read c i s) h refl refl) e
    keeps_rule i (SetIvar n x y) s r h e =
        let a = after (classes_of x s) _ e in
        let b = after (each a.0.0 (set_ivar L p n (kind_of a.0.1 y)) a.0.1) _ a.2 in
        still b.0.1 Empty r (keeps_each a.0.0 (set_ivar L p n (kind_of a.0.1 y)) (keeps_set_ivar n (kind_of a.0.1 y)) a.0.1 b.0 (keeps_classes_of x s a.0 h a.1) b.1) b.2

    pub keeps_visit : (i : ℕ) → Keeps (visit L p i)
    unfolding visit
    keeps_visit i s r h e = let a = after (rule L p i (op_of p i) s) _ e in keeps_store i a.0.0 a.0.1 r (keeps_rule i (op_of p i) s a.0 h a.1) a.2

    pub keeps_go_live : (b : ℕ) → Keeps (go_live L p b)
    unfolding go_live
    keeps_go_live b s r h e = keeps_unless (get_or s.live b false) (λ t. each (code p b) (push_insn L p) (set_live b t)) (λ t r h e. keeps_pushes (code p b) (set_live b t) r (same t (set_live b t) h refl refl) e) s r h e

    -- ---- steps and runs

    ended : (m : Answer (Unit {0} × State)) (t : State) → state_of L p m ≡ answered t → ((r : Unit {0} × State) → m ≡ answered r → Roomy r.1) → Roomy t
    ended (answered r) t e h = subst Roomy (answer e) (h r refl)
    ended (refused k) t e h = never e

    room-block : (s t : State) (w : List ℕ) → s.block_worklist ≡ w → Roomy s → take_block L p w s ≡ answered t → Roomy t
    room-block s t [] q h e = subst Roomy (answer e) h
    room-block s t (b ∷ w) q h e =
        let n : length s.block_worklist ≡ suc (length w) = ap length q in
        ended (go_live L p b (taken true s.insn_worklist w s)) t e (λ r z. keeps_go_live b (taken true s.insn_worklist w s) r (record { insns = h.insns; blocks = omega (arith, n, h.blocks) }) z)

    room_insn : (s t : State) (q : List ℕ) → s.insn_worklist ≡ q → Roomy s → take_insn L p q s ≡ answered t → Roomy t
    room_insn s t [] q h e = room-block s t s.block_worklist refl h e
    room_insn s t (i ∷ l) q h e =
        let n : length s.insn_worklist ≡ suc (length l) = ap length q in
        ended (visit L p i (taken false l s.block_worklist s)) t e (λ r z. keeps_visit i (taken false l s.block_worklist s) r (record { insns = omega (arith, n, h.insns); blocks = h.blocks }) z)

    room_drain : (s t : State) (w : List ℕ) → s.block_worklist ≡ w → Roomy s → drain_block L p w s ≡ answered t → Roomy t
    room_drain s t [] q h e = room_insn s t s.insn_worklist refl h e
    room_drain s t (b ∷ w) q h e = room-block s t (b ∷ w) q h e

    pub room-step : (s t : State) → Roomy s → step L p s ≡ answered t → Roomy t
    unfolding step
    room-step s t h e = go s.draining e
      where
        go : (b : 𝔹) → cond b (drain_block L p s.block_worklist) (take_insn L p s.insn_worklist) s ≡ answered t → Roomy t
        go true e = room_drain s t s.block_worklist refl h e
        go false e = room_insn s t s.insn_worklist refl h e

    pub room-run : (n : ℕ) (s t : State) → Roomy s → run L p n s ≡ answered t → Roomy t
    room-run zero s t h e = subst Roomy (answer (sym (run_none L p s) ∙ e)) h
    room-run (suc n) s t h e = go (at_rest s) refl (λ u k z. room-run n u t k z)
      where
        go : (b : 𝔹) → at_rest s ≡ b → ((u : State) → Roomy u → run L p n u ≡ answered t → Roomy t) → Roomy t
        go true r ih = subst Roomy (answer (sym (run-rest L p (suc n) s r) ∙ e)) h
        go false r ih = let a = after (step L p s) (run L p n) (sym (run_step L p n s r) ∙ e) in ih a.0 (room-step s a.0 h a.1) a.2

    pub room-start : (s : State) → start L p ≡ answered s → Roomy s
    unfolding start
    room-start s e = go (eqb (length p.functions) 0) e
      where
        main : ℕ
        main = entry p (main_function p)

        go : (b : 𝔹) → choose b (λ _. refused 12) (λ _. if_answered (first_kinds_from L p 0 (length p.classes)) (λ l. state_of L p (go_live L p main (blank L p l)))) ≡ answered s → Roomy s
        go true e = never e
        go false e =
            let a = after (first_kinds_from L p 0 (length p.classes)) _ e in
            ended (go_live L p main (blank L p a.0)) s a.2 (λ r z. keeps_go_live main (blank L p a.0) r (record { insns = omega arith; blocks = omega arith }) z)
