-- A visit that put nothing in and stored nothing does nothing again while kinds, live blocks and callers stay as they are. Assumes nothing.
use Prim.Native.Nat.{ℕ, suc, ◌+◌, ◌≤◌, ◌<◌}
use native.Mathlib.Omega.{arith}
use mathlib.Core.Path.{◌≡◌, refl, sym, ap, ◌∙◌, subst}
use mathlib.Core.Logic.{◌⊎◌, inl, inr}
use mathlib.Core.Bool.{Bool as 𝔹, true, false, true≢false}
use mathlib.Core.List.{List, [], ◌∷◌, ◌++◌}
use lib.ListN.{length, get_or, length-append}
use lib.Seq.{get_or-set_same}
use Rattle.std.specs.Prelude.{Ok, Err}
use Rattle.kinds.specs.declared.Kind.{Kind}
use Rattle.refusals.specs.declared.Refusal.TheVariants.{KindsClash}
use Rattle.kinds.specs.declared.Kind.TheVariants.{Empty}
use Rattle.kinds.specs.Kinds.{same_kind, is_name}
use Rattle.kinds.specs.Union.{Joined, union_of}
use Rattle.kinds.proofs.Laws.{union_idem, union-name}
use Rattle.kinds.proofs.Same.{same_refl}
use Rattle.rules.specs.Actions.{Answer, answered, refused, if_answered, ◌>>=◌, lift, the}
use Rattle.rules.specs.Program.{Limits, Name, Program, op_of, entry}
use Rattle.rules.specs.Machine.{State, Acts, marked, add_caller, add_read, with_insns, with_blocks, kind_of, push_insn, push_block, store, add_call, rule, visit}
use Rattle.rules.proofs.Exactness.Answers.{answer, never, after, push_insn-is, push_block-is, store_is, Stored, Same, add_call-is, Widened}
use Rattle.idle.proofs.Walk.{alike, alike_trans, Seen, Composes, walk-rule}
pub use Rattle.idle.proofs.Walk.{Alike, aside}
use Rattle.idle.proofs.Keeps.{Kept, keeps_rule}

-- how many entries wait
abbrev pub waiting : State → ℕ
waiting s = length s.insn_worklist + length s.block_worklist

-- where the action answers it takes no entry off; where it puts none in, it leaves the state, and so it does from a state that is alike
record Plain (A : Type 0) (m : Acts A) : Type 0 where
  more : (s : State) (r : A × State) → m s ≡ answered r → waiting s ≤ waiting r.1
  idle : (s t : State) (r : A × State) → Alike s t → m s ≡ answered r → waiting r.1 ≡ waiting s → (r.1 ≡ s) × (m t ≡ answered (r.0, t))

plain_two : {A B : Type 0} (m : Acts A) (k : A → Acts B) → Plain A m → ((a : A) → Plain B (k a)) → Plain B (m >>= k)
plain_two {A} {B} m k M K = record { more = grows; idle = rests }
  where
    grows : (s : State) (r : B × State) → (m >>= k) s ≡ answered r → waiting s ≤ waiting r.1
    grows s r e =
        let a = after (m s) (λ (q : A × State). k q.0 q.1) e in
        let x = M.more s a.0 a.1 in
        let y = (K a.0.0).more a.0.1 r a.2 in
        omega (arith, x, y)

    rests : (s t : State) (r : B × State) → Alike s t → (m >>= k) s ≡ answered r → waiting r.1 ≡ waiting s → (r.1 ≡ s) × ((m >>= k) t ≡ answered (r.0, t))
    rests s t r h e w =
        let a = after (m s) (λ (q : A × State). k q.0 q.1) e in
        let x = M.more s a.0 a.1 in
        let y = (K a.0.0).more a.0.1 r a.2 in
        let z : waiting a.0.1 ≡ waiting s = omega (arith, x, y, w) in
        let b = M.idle s t a.0 h a.1 z in
        let c = (K a.0.0).idle s t r h (subst (λ (q : State). k a.0.0 q ≡ answered r) b.0 a.2) w in
        (c.0, ap (λ (q : Answer (A × State)). if_answered q (λ (x : A × State). k x.0 x.1)) b.1 ∙ c.1)

plain_looked : {A : Type 0} (f : State → A) → Seen f → Plain A (the f)
plain_looked {A} f h = record {
  more = λ s r e. let z : s ≡ r.1 = ap (λ (q : A × State). q.1) (answer e) in subst (λ (t : State). waiting s ≤ waiting t) z (omega arith);
  idle = λ s t r a e w. (ap (λ (q : A × State). q.1) (sym (answer e)), ap (λ (x : A). answered (x, t)) (sym (h s t a) ∙ ap (λ (q : A × State). q.0) (answer e)));
}

-- what an answer alone decides
plain-told : {A : Type 0} (a : Answer A) → Plain A (lift a)
plain-told {A} (answered x) = record {
  more = λ s r e. let z : s ≡ r.1 = ap (λ (q : A × State). q.1) (answer e) in subst (λ (t : State). waiting s ≤ waiting t) z (omega arith);
  idle = λ s t r a e w. (ap (λ (q : A × State). q.1) (sym (answer e)), ap (λ (y : A). answered (y, t)) (ap (λ (q : A × State). q.0) (answer e)));
}
plain-told (refused n) = record { more = λ s r e. never e; idle = λ s t r a e w. never e }

one_more : (q : List ℕ) (x : ℕ) → length (q ++ x ∷ []) ≡ suc (length q)
one_more [] x = refl
one_more (y ∷ q) x = let z = one_more q x in omega (arith, z)

module _ (L : Limits) (p : Program) where
  insn_waits : (i : ℕ) (s : State) (r : Unit {0} × State) → push_insn L p i s ≡ answered r → waiting r.1 ≡ suc (waiting s)
  insn_waits i s r e = let z = one_more s.insn_worklist i in rw (push_insn-is L p i s e) (omega (arith, z))

  plain_insn : (i : ℕ) → Plain (Unit {0}) (push_insn L p i)
  plain_insn i = record {
    more = λ s r e. let z = insn_waits i s r e in omega (arith, z);
    idle = λ s t r a e w. absurd (let z = insn_waits i s r e in omega (arith, z, w));
  }

  block_waits : (b : ℕ) (s : State) (r : Unit {0} × State) → push_block L p b s ≡ answered r → waiting r.1 ≡ suc (waiting s)
  block_waits b s r e = let z = one_more s.block_worklist b in rw (push_block-is L p b s e) (omega (arith, z))

  plain-block : (b : ℕ) → Plain (Unit {0}) (push_block L p b)
  plain-block b = record {
    more = λ s r e. let z = block_waits b s r e in omega (arith, z);
    idle = λ s t r a e w. absurd (let z = block_waits b s r e in omega (arith, z, w));
  }

  called-before : (i f : ℕ) (t : State) → marked t.called_by f i ≡ true → add_call L p i f t ≡ answered (tt, t)
  unfolding add_call
  called-before i f t e = rw e refl

  plain-call : (i f : ℕ) → Plain (Unit {0}) (add_call L p i f)
  plain-call i f = record { more = λ s r e. grows s r (add_call-is L p i f s e); idle = λ s t r a e w. rests s t r a w (add_call-is L p i f s e) }
    where
      Did : State → Unit {0} × State → Type 0
      Did s r = ((marked s.called_by f i ≡ true) × (r.1 ≡ s)) ⊎ ((marked s.called_by f i ≡ false) × (r.1 ≡ add_caller f i (with_blocks (s.block_worklist ++ entry p f ∷ []) s)))

      grown : (s : State) (r : Unit {0} × State) → r.1 ≡ add_caller f i (with_blocks (s.block_worklist ++ entry p f ∷ []) s) → waiting r.1 ≡ suc (waiting s)
      grown s r e = let z = one_more s.block_worklist (entry p f) in rw e (omega (arith, z))

      grows : (s : State) (r : Unit {0} × State) → Did s r → waiting s ≤ waiting r.1
      grows s r (inl d) = rw d.1 (omega arith)
      grows s r (inr d) = let z = grown s r d.1 in omega (arith, z)

      rests : (s t : State) (r : Unit {0} × State) → Alike s t → waiting r.1 ≡ waiting s → Did s r → (r.1 ≡ s) × (add_call L p i f t ≡ answered (r.0, t))
      rests s t r a w (inl d) = (d.1, called-before i f t (ap (λ (c : List (List 𝔹)). marked c f i) a.called_by ∙ d.0))
      rests s t r a w (inr d) = absurd (let z = grown s r d.1 in omega (arith, z, w))

  composes : Composes L p Plain
  composes = record { two = plain_two; told = plain-told; looked = plain_looked; insn = plain_insn; block = plain-block; call = plain-call }

  -- ---- a kind stored is another kind

  pub store_same : (i : ℕ) (k : Kind) (t : State) → Same (get_or t.kinds i Empty) k → store L p i k t ≡ answered (tt, t)
  unfolding store
  store_same i k t h = rw (h.1, h.2) refl

  union_self : (a u : Kind) → union_of a a ≡ Ok u → same_kind u a ≡ true
  union_self a u e = go (is_name a) refl
    where
      clashes : ◌≡◌ {A = Joined} (Err KindsClash) (Ok u) → ⊥
      clashes q = absurd (let z : ◌≡◌ {A = ℕ} 0 1 = cc in omega arith)

      is : ◌≡◌ {A = Joined} (Ok a) (Ok u) → u ≡ a
      is q = cc

      go : (b : 𝔹) → is_name a ≡ b → same_kind u a ≡ true
      go true n = absurd (clashes (sym (union-name a n) ∙ e))
      go false n = rw (is (sym (union_idem a n) ∙ e)) (same_refl a)

  not_stored : (i : ℕ) (k : Kind) (s e : State) → i < length s.kinds → get_or e.kinds i Empty ≡ get_or s.kinds i Empty → Stored L p i k s e → ⊥
  not_stored i k s e h g d =
      let now : get_or e.kinds i Empty ≡ k = ap (λ (t : State). get_or t.kinds i Empty) d.state ∙ get_or-set_same s.kinds i k Empty h in
      let is : k ≡ get_or s.kinds i Empty = sym now ∙ g in
      let old = get_or s.kinds i Empty in
      true≢false (sym (union_self old d.changed.0 (subst (λ (j : Kind). union_of old j ≡ Ok d.changed.0) is d.changed.1)) ∙ d.changed.2)

  -- what a store leaves where it leaves the kind
  store_kept : (i : ℕ) (k : Kind) (s e : State) → i < length s.kinds → get_or e.kinds i Empty ≡ get_or s.kinds i Empty → store L p i k s ≡ answered (tt, e)
      → (e ≡ s) × Same (get_or s.kinds i Empty) k
  store_kept i k s e h g q = go (store_is L p i k s q)
    where
      go : ((e ≡ s) × Same (get_or s.kinds i Empty) k) ⊎ Stored L p i k s e → (e ≡ s) × Same (get_or s.kinds i Empty) k
      go (inl d) = d
      go (inr d) = absurd (not_stored i k s e h g d)

  store-more : (i : ℕ) (k : Kind) (s e : State) → store L p i k s ≡ answered (tt, e) → waiting s ≤ waiting e
  store-more i k s e q = go (store_is L p i k s q)
    where
      go : ((e ≡ s) × Same (get_or s.kinds i Empty) k) ⊎ Stored L p i k s e → waiting s ≤ waiting e
      go (inl d) = rw d.0 (omega arith)
      go (inr d) = rw d.state (rw (length-append s.insn_worklist _) (omega arith))

  -- ---- visits

  -- a visit of i does nothing, in this state and in all that are alike
  abbrev pub Idle : ℕ → State → Type 0
  Idle i s = (t : State) → Alike s t → visit L p i t ≡ answered (tt, t)

  -- a visit that put nothing in and left the kind was idle
  pub visit-idle : (i : ℕ) (s e : State) → aside L p (op_of p i) ≡ true → i < length s.kinds → visit L p i s ≡ answered (tt, e) → waiting e ≡ waiting s
      → get_or e.kinds i Empty ≡ get_or s.kinds i Empty → Idle i s
  unfolding visit
  visit-idle i s e o h q w g t a =
      let R = walk-rule L p composes i (op_of p i) o in
      let d = after (rule L p i (op_of p i) s) (λ (r : Kind × State). store L p i r.0 r.1) q in
      let x = R.more s d.0 d.1 in
      let y = store-more i d.0.0 d.0.1 e d.2 in
      let z : waiting d.0.1 ≡ waiting s = omega (arith, x, y, w) in
      let b = R.idle s t d.0 a d.1 z in
      let c = store_kept i d.0.0 s e h g (subst (λ (u : State). store L p i d.0.0 u ≡ answered (tt, e)) b.0 d.2) in
      ap (λ (r : Answer (Kind × State)). if_answered r (λ (v : Kind × State). store L p i v.0 v.1)) b.1
      ∙ store_same i d.0.0 t (subst (λ (ks : List Kind). Same (get_or ks i Empty) d.0.0) (sym a.kinds) c.1)

  -- ---- what a visit leaves alone

  -- no block was taken off since s, and where none was put in, kinds, live blocks and callers are those of s
  record Still (s t : State) : Type 0 where
    more : length s.block_worklist ≤ length t.block_worklist
    stays : length t.block_worklist ≡ length s.block_worklist → Alike s t

  still : (s : State) → Still s s
  still s = record { more = omega arith; stays = λ w. alike s }

  -- a block was put in
  still_longer : (s t : State) → length s.block_worklist < length t.block_worklist → Still s t
  still_longer s t l = record { more = omega (arith, l); stays = λ w. absurd (omega (arith, l, w)) }

  -- neither blocks nor what makes states alike was changed
  still_past : (s t u : State) → Still s t → Alike t u → u.block_worklist ≡ t.block_worklist → Still s u
  still_past s t u h a b = record { more = rw b h.more; stays = λ w. alike_trans (h.stays (ap length (sym b) ∙ w)) a }

  still_kept : (s : State) → Kept (Still s)
  still_kept s = record {
    insns = λ l t h. still_past s t (with_insns (t.insn_worklist ++ l) t) h (record { kinds = refl; live = refl; called_by = refl }) refl;
    block = λ b t h. still_longer s (with_blocks (t.block_worklist ++ b ∷ []) t) (grown b t h);
    call = λ f i b t h. still_longer s (add_caller f i (with_blocks (t.block_worklist ++ b ∷ []) t)) (grown b t h);
    read = λ c i t h. still_past s t (add_read c i t) h (record { kinds = refl; live = refl; called_by = refl }) refl;
  }
    where
      grown : (b : ℕ) (t : State) → Still s t → length s.block_worklist < length (t.block_worklist ++ b ∷ [])
      grown b t h = let z = one_more t.block_worklist b in let m = h.more in omega (arith, z, m)

  still_widened : (s : State) (n : Name) (k : Kind) (c : ℕ) (t u : State) → Widened L p n k c t u → Still s t → Still s u
  still_widened s n k c t u d h = still_past s t u h (rw d.state (record { kinds = refl; live = refl; called_by = refl })) (rw d.state refl)

  -- a visit that put no block in and left the kind leaves kinds, live blocks and callers
  pub visit_still : (i : ℕ) (s e : State) → i < length s.kinds → visit L p i s ≡ answered (tt, e) → length e.block_worklist ≡ length s.block_worklist
      → get_or e.kinds i Empty ≡ get_or s.kinds i Empty → Alike s e
  unfolding visit
  visit_still i s e h q w g =
      let d = after (rule L p i (op_of p i) s) (λ (r : Kind × State). store L p i r.0 r.1) q in
      let b = still_store i d.0.0 d.0.1 e d.2 in
      let R = keeps_rule (Still s) L p (still_kept s) i (op_of p i) s d.0 (λ n r v o. still_widened s n (kind_of s v)) d.1 (still s) in
      let a = R.stays (sym b ∙ w) in
      let g' : get_or e.kinds i Empty ≡ get_or d.0.1.kinds i Empty = g ∙ ap (λ (ks : List Kind). get_or ks i Empty) (sym a.kinds) in
      let h' : i < length d.0.1.kinds = subst (λ (ks : List Kind). i < length ks) (sym a.kinds) h in
      subst (Alike s) (sym (store_kept i d.0.0 d.0.1 e h' g' d.2).0) a
    where
      still_store : (i : ℕ) (k : Kind) (s e : State) → store L p i k s ≡ answered (tt, e) → length e.block_worklist ≡ length s.block_worklist
      still_store i k s e q = go (store_is L p i k s q)
        where
          go : ((e ≡ s) × Same (get_or s.kinds i Empty) k) ⊎ Stored L p i k s e → length e.block_worklist ≡ length s.block_worklist
          go (inl d) = rw d.0 refl
          go (inr d) = rw d.state refl
