-- What an action did, given that it answered: the state that each of the machine's small actions leaves. Assumes nothing.
use Prim.Native.Nat.{ℕ}
use native.Mathlib.Omega.{arith}
use mathlib.Core.Path.{◌≡◌, refl, sym, ap, ◌∙◌, subst}
use mathlib.Core.Logic.{◌⊎◌, inl, inr}
use mathlib.Core.Bool.{Bool as 𝔹, true, false, cond}
use mathlib.Core.Option.{Option, none, some}
use mathlib.Core.List.{List, [], ◌∷◌, ◌++◌, map}
use lib.Dec.{ltb, leb}
use lib.ListN.{length, get_or}
use Rattle.kinds.specs.declared.Kind.{Kind}
use Rattle.kinds.specs.declared.Kind.TheVariants.{Empty}
use Rattle.std.specs.Prelude.{Ok, Err}
use Rattle.kinds.specs.Kinds.{same_kind}
use Rattle.kinds.specs.Union.{Joined, union_of, union_all}
use Rattle.ids.specs.Sets.{members_of}
use Rattle.rules.specs.Actions.{Answer, answered, refused, if_answered, needed, lift, unless, each, ask}
use Rattle.rules.specs.Lists.{keep, places, is_just_name}
use Rattle.rules.specs.Values.{to_answer, classes_in}
use Rattle.rules.specs.Program.{Limits, Name, Opnd, Program, about, op_of, block_of, entry, code, ivar_named, parameters}
use Rattle.rules.specs.Uses.{uses}
use Rattle.rules.specs.Machine.{State, Acts, set_kind, set_live, marked, add_caller, set_ivar_kind, with_insns, with_blocks, kind_of, join, join_all, classes_of, push_insn, push_block, wake_if_wider, store, add_call, get_ivar, set_ivar, go_live}

module _ {A : Type 0} where
  pub answer : {a b : A} → answered a ≡ answered b → a ≡ b
  answer e = cc

  pub never : {B : Type 0} {n : ℕ} {a : A} → ◌≡◌ {A = Answer A} (refused n) (answered a) → B
  never e = absurd (let z : ◌≡◌ {A = ℕ} 0 1 = cc in omega arith)

-- the first of two actions answered
pub after : {A B : Type 0} (m : Answer A) (k : A → Answer B) {r : B} → if_answered m k ≡ answered r → (a : A) × (m ≡ answered a) × (k a ≡ answered r)
after (answered a) k e = (a, refl, e)
after (refused n) k e = never e

-- a question was answered yes
pub asked : {A B : Type 0} (n : ℕ) (b : 𝔹) (a : A) (k : A → Answer B) {r : B} → if_answered (cond b (answered a) (refused n)) k ≡ answered r → (b ≡ true) × (k a ≡ answered r)
asked n true a k e = (refl, e)
asked n false a k e = never e

asked-ends : {S : Type 0} (n : ℕ) (b : 𝔹) (s : S) {r : Unit {0} × S} → ask n b s ≡ answered r → r.1 ≡ s
asked-ends {S} n true s e = ap (λ (z : Unit {0} × S). z.1) (sym (answer e))
asked-ends n false s e = never e

pub found : {S A : Type 0} (n : ℕ) (o : Option A) (s : S) {r : A × S} → needed n o s ≡ answered r → (o ≡ some r.0) × (r.1 ≡ s)
found n none s e = never e
found {S} {A} n (some x) s e = let q : ◌≡◌ {A = A × S} (x, s) _ = answer e in (ap (λ (z : A × S). some z.0) q, ap (λ (z : A × S). z.1) (sym q))

pub joined : (j : Joined) (s : State) {r : Kind × State} → lift (to_answer j) s ≡ answered r → (j ≡ Ok r.0) × (r.1 ≡ s)
joined (Ok k) s e = let q : ◌≡◌ {A = Kind × State} (k, s) _ = answer e in (ap (λ (z : Kind × State). Ok z.0) q, ap (λ (z : Kind × State). z.1) (sym q))
joined (Err n) s e = never e

pub join_is : (a b : Kind) (s : State) {r : Kind × State} → join a b s ≡ answered r → (union_of a b ≡ Ok r.0) × (r.1 ≡ s)
join_is a b s e = joined (union_of a b) s e

pub join_all-is : (l : List Opnd) (s : State) {r : Kind × State} → join_all l s ≡ answered r → (union_all Empty (map (kind_of s) l) ≡ Ok r.0) × (r.1 ≡ s)
unfolding join_all
join_all-is l s e = joined (union_all Empty (map (kind_of s) l)) s e

pub classes_of-is : (v : Opnd) (s : State) {r : List ℕ × State} → classes_of v s ≡ answered r → (c : ℕ) × (classes_in (kind_of s v) ≡ some c) × (r.0 ≡ members_of c) × (r.1 ≡ s)
unfolding classes_of
classes_of-is v s {r} e =
    let a = after (needed 14 (classes_in (kind_of s v)) s) _ e in
    let b = found 14 (classes_in (kind_of s v)) s a.1 in
    let q : ◌≡◌ {A = List ℕ × State} (members_of a.0.0, a.0.1) r = answer a.2 in
    (a.0.0, b.0, ap (λ (z : List ℕ × State). z.0) (sym q), ap (λ (z : List ℕ × State). z.1) (sym q) ∙ b.1)

append_one : (q : List ℕ) (x : ℕ) (l : List ℕ) → (q ++ x ∷ []) ++ l ≡ q ++ x ∷ l
append_one [] x l = refl
append_one (y ∷ q) x l = ap (λ (z : List ℕ). y ∷ z) (append_one q x l)

append_none : (q : List ℕ) → q ++ [] ≡ q
append_none [] = refl
append_none (y ∷ q) = ap (λ (z : List ℕ). y ∷ z) (append_none q)

-- the union with the old kind is the old kind
abbrev pub Same : Kind → Kind → Type 0
Same old k = (u : Kind) × (union_of old k ≡ Ok u) × (same_kind u old ≡ true)

module _ (L : Limits) (p : Program) where
  pub push_insn-is : (x : ℕ) (s : State) {r : Unit {0} × State} → push_insn L p x s ≡ answered r → r.1 ≡ with_insns (s.insn_worklist ++ x ∷ []) s
  unfolding push_insn
  push_insn-is x s e = ap (λ (z : Unit {0} × State). z.1) (sym (answer (asked 20 (ltb (length s.insn_worklist) L.worklist) (tt, s) _ e).1))

  pub push_block-is : (x : ℕ) (s : State) {r : Unit {0} × State} → push_block L p x s ≡ answered r → r.1 ≡ with_blocks (s.block_worklist ++ x ∷ []) s
  unfolding push_block
  push_block-is x s e = ap (λ (z : Unit {0} × State). z.1) (sym (answer (asked 20 (ltb (length s.block_worklist) L.worklist) (tt, s) _ e).1))

  pub pushes_are : (l : List ℕ) (s : State) {r : Unit {0} × State} → each l (push_insn L p) s ≡ answered r → r.1 ≡ with_insns (s.insn_worklist ++ l) s
  pushes_are [] s {r} e = ap (λ (z : Unit {0} × State). z.1) (sym (answer e)) ∙ ap (λ (q : List ℕ). with_insns q s) (sym (append_none s.insn_worklist))
  pushes_are (x ∷ l) s {r} e =
      let a = after (push_insn L p x s) _ e in
      let b = push_insn-is x s a.1 in
      pushes_are l a.0.1 a.2
      ∙ ap (λ (t : State). with_insns (t.insn_worklist ++ l) t) b
      ∙ ap (λ (q : List ℕ). with_insns q s) (append_one s.insn_worklist x l)

  pub wake_if_wider-is : (k : Kind) (x : ℕ) (s : State) {r : Unit {0} × State} → wake_if_wider L p k x s ≡ answered r → ((r.1 ≡ s) × Same (get_or s.kinds x Empty) k) ⊎ (r.1 ≡ with_insns (s.insn_worklist ++ x ∷ []) s)
  unfolding wake_if_wider
  wake_if_wider-is k x s {r} e =
      let old = get_or s.kinds x Empty in
      let a = after (join old k s) _ e in
      let b = join_is old k s a.1 in
      go a.0.0 b.0 (same_kind a.0.0 old) refl (subst (λ (t : State). unless (same_kind a.0.0 old) (push_insn L p x) t ≡ answered r) b.1 a.2)
    where
      go : (u : Kind) → union_of (get_or s.kinds x Empty) k ≡ Ok u → (b : 𝔹) → same_kind u (get_or s.kinds x Empty) ≡ b → unless b (push_insn L p x) s ≡ answered r → ((r.1 ≡ s) × Same (get_or s.kinds x Empty) k) ⊎ (r.1 ≡ with_insns (s.insn_worklist ++ x ∷ []) s)
      go u j true d q = inl (ap (λ (z : Unit {0} × State). z.1) (sym (answer q)), (u, j, d))
      go u j false d q = inr (push_insn-is x s q)

  -- the users of i that a store wakes
  abbrev pub live_uses : State → ℕ → List ℕ
  live_uses s i = keep (λ j. get_or s.live (block_of p j) false) (uses p i)

  pub record Stored (i : ℕ) (k : Kind) (s t : State) : Type 0 where
    pub changed : (u : Kind) × (union_of (get_or s.kinds i Empty) k ≡ Ok u) × (same_kind u (get_or s.kinds i Empty) ≡ false)
    pub state : t ≡ with_insns (s.insn_worklist ++ live_uses s i) (set_kind i k s)

  pub store_is : (i : ℕ) (k : Kind) (s : State) {r : Unit {0} × State} → store L p i k s ≡ answered r → ((r.1 ≡ s) × Same (get_or s.kinds i Empty) k) ⊎ Stored i k s r.1
  unfolding store
  store_is i k s {r} e =
      let old = get_or s.kinds i Empty in
      let a = after (join old k s) _ e in
      let b = join_is old k s a.1 in
      go a.0.0 b.0 (same_kind a.0.0 old) refl (subst (λ (t : State). unless (same_kind a.0.0 old) change t ≡ answered r) b.1 a.2)
    where
      change : Acts (Unit {0})
      change t = each (live_uses (set_kind i k t) i) (push_insn L p) (set_kind i k t)

      go : (u : Kind) → union_of (get_or s.kinds i Empty) k ≡ Ok u → (b : 𝔹) → same_kind u (get_or s.kinds i Empty) ≡ b → unless b change s ≡ answered r → ((r.1 ≡ s) × Same (get_or s.kinds i Empty) k) ⊎ Stored i k s r.1
      go u j true d q = inl (ap (λ (z : Unit {0} × State). z.1) (sym (answer q)), (u, j, d))
      go u j false d q = inr (record { changed = (u, j, d); state = pushes_are (live_uses (set_kind i k s) i) (set_kind i k s) q })

  -- the reads of an attribute that a setting wakes
  abbrev pub woken_reads : State → Name → ℕ → List ℕ
  woken_reads s n c = keep (λ i. is_just_name (about (op_of p i)).gets n) (places (λ b. b) (get_or s.ivar_reads c []))

  pub record Widened (n : Name) (k : Kind) (c : ℕ) (s t : State) : Type 0 where
    pub place : ℕ
    pub named : ivar_named p c n ≡ some place
    pub kind : Kind
    pub union : union_of (get_or (get_or s.ivar_kinds c []) place Empty) k ≡ Ok kind
    pub changed : same_kind kind (get_or (get_or s.ivar_kinds c []) place Empty) ≡ false
    pub state : t ≡ with_insns (s.insn_worklist ++ woken_reads s n c) (set_ivar_kind c place kind s)

  pub set_ivar-is : (n : Name) (k : Kind) (c : ℕ) (s : State) {r : Unit {0} × State} → set_ivar L p n k c s ≡ answered r
      → ((x : ℕ) × (r.1 ≡ s) × (ivar_named p c n ≡ some x) × Same (get_or (get_or s.ivar_kinds c []) x Empty) k) ⊎ Widened n k c s r.1
  unfolding set_ivar
  set_ivar-is n k c s {r} e =
      let a = after (needed 15 (ivar_named p c n) s) _ e in
      let f = found 15 (ivar_named p c n) s a.1 in
      let x = a.0.0 in
      let b = after (join (old x) k s) _ (subst (λ (t : State). if_answered (join (get_or (get_or t.ivar_kinds c []) x Empty) k t) (λ z. unless (same_kind z.0 (get_or (get_or t.ivar_kinds c []) x Empty)) (change x z.0) z.1) ≡ answered r) f.1 a.2) in
      let j = join_is (old x) k s b.1 in
      go x f.0 b.0.0 j.0 (same_kind b.0.0 (old x)) refl (subst (λ (t : State). unless (same_kind b.0.0 (old x)) (change x b.0.0) t ≡ answered r) j.1 b.2)
    where
      old : ℕ → Kind
      old x = get_or (get_or s.ivar_kinds c []) x Empty

      change : ℕ → Kind → Acts (Unit {0})
      change x u t = each (woken_reads (set_ivar_kind c x u t) n c) (push_insn L p) (set_ivar_kind c x u t)

      go : (x : ℕ) → ivar_named p c n ≡ some x → (u : Kind) → union_of (old x) k ≡ Ok u → (b : 𝔹) → same_kind u (old x) ≡ b → unless b (change x u) s ≡ answered r
          → ((x : ℕ) × (r.1 ≡ s) × (ivar_named p c n ≡ some x) × Same (get_or (get_or s.ivar_kinds c []) x Empty) k) ⊎ Widened n k c s r.1
      go x f u j true d q = inl (x, ap (λ (z : Unit {0} × State). z.1) (sym (answer q)), f, (u, j, d))
      go x f u j false d q = inr (record { place = x; named = f; kind = u; union = j; changed = d; state = pushes_are (woken_reads (set_ivar_kind c x u s) n c) (set_ivar_kind c x u s) q })

  pub get_ivar-is : (n : Name) (k : Kind) (c : ℕ) (s : State) {r : Kind × State} → get_ivar L p n k c s ≡ answered r → (a : ℕ) × (ivar_named p c n ≡ some a) × (union_of k (get_or (get_or s.ivar_kinds c []) a Empty) ≡ Ok r.0) × (r.1 ≡ s)
  unfolding get_ivar
  get_ivar-is n k c s {r} e =
      let a = after (needed 15 (ivar_named p c n) s) _ e in
      let f = found 15 (ivar_named p c n) s a.1 in
      let j = join_is k (get_or (get_or s.ivar_kinds c []) a.0.0 Empty) s (subst (λ (t : State). join k (get_or (get_or t.ivar_kinds c []) a.0.0 Empty) t ≡ answered r) f.1 a.2) in
      (a.0.0, f.0, j.0, j.1)

  pub add_call-is : (i f : ℕ) (s : State) {r : Unit {0} × State} → add_call L p i f s ≡ answered r
      → ((marked s.called_by f i ≡ true) × (r.1 ≡ s)) ⊎ ((marked s.called_by f i ≡ false) × (r.1 ≡ add_caller f i (with_blocks (s.block_worklist ++ entry p f ∷ []) s)))
  unfolding add_call
  add_call-is i f s {r} e = go (marked s.called_by f i) refl e
    where
      enough : 𝔹
      enough = leb (length (parameters p f)) (length (about (op_of p i)).listed)

      rest : Acts (Unit {0})
      rest t = if_answered (push_block L p (entry p f) (add_caller f i t)) (λ z. ask 16 enough z.1)

      go : (b : 𝔹) → marked s.called_by f i ≡ b → unless b rest s ≡ answered r
          → ((marked s.called_by f i ≡ true) × (r.1 ≡ s)) ⊎ ((marked s.called_by f i ≡ false) × (r.1 ≡ add_caller f i (with_blocks (s.block_worklist ++ entry p f ∷ []) s)))
      go true m q = inl (m, ap (λ (z : Unit {0} × State). z.1) (sym (answer q)))
      go false m q =
          let a = after (push_block L p (entry p f) (add_caller f i s)) _ q in
          let b = push_block-is (entry p f) (add_caller f i s) a.1 in
          inr (m, asked-ends 16 enough a.0.1 a.2 ∙ b)

  pub go_live-is : (b : ℕ) (s : State) {r : Unit {0} × State} → go_live L p b s ≡ answered r
      → ((get_or s.live b false ≡ true) × (r.1 ≡ s)) ⊎ ((get_or s.live b false ≡ false) × (r.1 ≡ with_insns (s.insn_worklist ++ code p b) (set_live b s)))
  unfolding go_live
  go_live-is b s {r} e = go (get_or s.live b false) refl e
    where
      change : Acts (Unit {0})
      change t = each (code p b) (push_insn L p) (set_live b t)

      go : (c : 𝔹) → get_or s.live b false ≡ c → unless c change s ≡ answered r
          → ((get_or s.live b false ≡ true) × (r.1 ≡ s)) ⊎ ((get_or s.live b false ≡ false) × (r.1 ≡ with_insns (s.insn_worklist ++ code p b) (set_live b s)))
      go true m q = inl (m, ap (λ (z : Unit {0} × State). z.1) (sym (answer q)))
      go false m q = inr (m, pushes_are (code p b) (set_live b s) q)
