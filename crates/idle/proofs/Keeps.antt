-- What the rules keep: a property of states that the changes which they make keep. Assumes nothing.
use Prim.Native.Nat.{ℕ}
use mathlib.Core.Path.{◌≡◌, refl, sym, ap, subst}
use mathlib.Core.Logic.{◌⊎◌, inl, inr}
use mathlib.Core.Bool.{true, false}
use mathlib.Core.Option.{some}
use mathlib.Core.List.{List, [], ◌∷◌, ◌++◌}
use lib.ListN.{get_or}
use Rattle.kinds.specs.declared.Kind.{Kind}
use Rattle.kinds.specs.declared.Kind.TheVariants.{Empty}
use Rattle.rules.specs.Actions.{Answer, answered, refused, ◌>>=◌, ◌>>◌, give, lift, the, change, each, fold}
use Rattle.rules.specs.Program.{Limits, Name, Opnd, Op, Ends, Send, Compute, Phi, Param, SelfParam, New, GetIvar, SetIvar, Program, op_of, ivar_named, entry}
use Rattle.rules.specs.Machine.{State, Acts, marked, add_caller, add_read, with_insns, with_blocks, kind_of, classes_of, add_call, store, get_ivar, set_ivar, rule, visit}
use Rattle.rules.proofs.Exactness.Answers.{answer, never, after, classes_of-is, push_insn-is, push_block-is, store_is, Stored, Same, add_call-is, get_ivar-is, set_ivar-is, Widened}
use Rattle.idle.proofs.Walk.{Seen, Composes, walk_seq, walk-each, walk-fold, walk-classes, walk-rule}

module _ (P : State → Type 0) where
  -- where the action answers, it leaves a state with P if it began in one
  abbrev pub Keeps : (A : Type 0) → Acts A → Type 0
  Keeps A m = (s : State) (r : A × State) → m s ≡ answered r → P s → P r.1

  -- P stays across each change that the rules make, settings aside
  pub record Kept : Type 0 where
    pub insns : (l : List ℕ) (s : State) → P s → P (with_insns (s.insn_worklist ++ l) s)
    pub block : (b : ℕ) (s : State) → P s → P (with_blocks (s.block_worklist ++ b ∷ []) s)
    pub call : (f i b : ℕ) (s : State) → P s → P (add_caller f i (with_blocks (s.block_worklist ++ b ∷ []) s))
    pub read : (c i : ℕ) (s : State) → P s → P (add_read c i s)

  keeps_two : {A B : Type 0} (m : Acts A) (k : A → Acts B) → Keeps A m → ((a : A) → Keeps B (k a)) → Keeps B (m >>= k)
  keeps_two {A} m k M N s r e h = let a = after (m s) (λ (q : A × State). k q.0 q.1) e in N a.0.0 a.0.1 r a.2 (M s a.0 a.1 h)

  keeps_told : {A : Type 0} (a : Answer A) → Keeps A (lift a)
  keeps_told {A} (answered x) s r e h = subst P (ap (λ (q : A × State). q.1) (answer e)) h
  keeps_told (refused n) s r e h = never e

  keeps_looked : {A : Type 0} (f : State → A) → Seen f → Keeps A (the f)
  keeps_looked {A} f _ s r e h = subst P (ap (λ (q : A × State). q.1) (answer e)) h

  keeps_change : (f : State → State) → ((s : State) → P s → P (f s)) → Keeps (Unit {0}) (change f)
  keeps_change f F s r e h = subst P (ap (λ (q : Unit {0} × State). q.1) (answer e)) (F s h)

  module _ (L : Limits) (p : Program) where
    -- P stays where a setting widens an attribute; s is the state in which its visit begins
    abbrev pub Widens : Op → State → Type 0
    Widens o s = (n : Name) (r v : Opnd) → o ≡ SetIvar n r v → (c : ℕ) (t u : State) → Widened L p n (kind_of s v) c t u → P t → P u

    -- P stays where a kind of instruction i is stored
    abbrev pub Stores : ℕ → Type 0
    Stores i = (k : Kind) (t u : State) → Stored L p i k t u → P t → P u

    keeps_set_ivar : (n : Name) (k : Kind) → ((c : ℕ) (t u : State) → Widened L p n k c t u → P t → P u) → (c : ℕ) → Keeps (Unit {0}) (set_ivar L p n k c)
    keeps_set_ivar n k W c s r e h = go (set_ivar-is L p n k c s e)
      where
        go : ((x : ℕ) × (r.1 ≡ s) × (ivar_named p c n ≡ some x) × Same (get_or (get_or s.ivar_kinds c []) x Empty) k) ⊎ Widened L p n k c s r.1 → P r.1
        go (inl d) = subst P (sym d.1) h
        go (inr d) = W c s r.1 d h

    keeps_store : (i : ℕ) → Stores i → (k : Kind) → Keeps (Unit {0}) (store L p i k)
    keeps_store i S k s r e h = go (store_is L p i k s e)
      where
        go : ((r.1 ≡ s) × Same (get_or s.kinds i Empty) k) ⊎ Stored L p i k s r.1 → P r.1
        go (inl d) = subst P (sym d.0) h
        go (inr d) = S k s r.1 d h

    module _ (K : Kept) where
      keeps_call : (i f : ℕ) → Keeps (Unit {0}) (add_call L p i f)
      keeps_call i f s r e h = go (add_call-is L p i f s e)
        where
          go : ((marked s.called_by f i ≡ true) × (r.1 ≡ s)) ⊎ ((marked s.called_by f i ≡ false) × (r.1 ≡ add_caller f i (with_blocks (s.block_worklist ++ entry p f ∷ []) s))) → P r.1
          go (inl d) = subst P (sym d.1) h
          go (inr d) = subst P (sym d.1) (K.call f i (entry p f) s h)

      composes : Composes L p Keeps
      composes = record {
        two = keeps_two;
        told = keeps_told;
        looked = keeps_looked;
        insn = λ i s r e h. subst P (sym (push_insn-is L p i s e)) (K.insns (i ∷ []) s h);
        block = λ b s r e h. subst P (sym (push_block-is L p b s e)) (K.block b s h);
        call = keeps_call;
      }

      keeps_get_ivar : (n : Name) (k : Kind) (c : ℕ) → Keeps Kind (get_ivar L p n k c)
      keeps_get_ivar n k c s r e h = subst P (sym (get_ivar-is L p n k c s e).3) h

      keeps_read : (i : ℕ) (n : Name) (v : Opnd) → Keeps Kind (rule L p i (GetIvar n v))
      unfolding rule
      keeps_read i n v =
          keeps_two (classes_of v) _ (walk-classes L p composes v)
          (λ cs. walk_seq L p composes (each cs (λ c. change (add_read c i))) (fold (get_ivar L p n) Empty cs)
          (walk-each L p composes cs (λ c. change (add_read c i)) (λ c. keeps_change (add_read c i) (K.read c i))) (walk-fold L p composes (get_ivar L p n) Empty cs (keeps_get_ivar n)))

      keeps_set : (i : ℕ) (n : Name) (v w : Opnd) (s : State) (r : Kind × State) → Widens (SetIvar n v w) s → rule L p i (SetIvar n v w) s ≡ answered r → P s → P r.1
      unfolding rule
      keeps_set i n v w s r W e =
          let a = after (classes_of v s) _ e in
          let k = kind_of s w in
          walk_seq L p composes (each a.0.0 (set_ivar L p n k)) (give Empty) (walk-each L p composes a.0.0 (set_ivar L p n k) (keeps_set_ivar n k (W n v w refl))) (keeps_told (answered Empty))
          s r (subst (λ (t : State). (each a.0.0 (set_ivar L p n (kind_of t w)) >> give Empty) t ≡ answered r) (classes_of-is v s a.1).3 a.2)

      pub keeps_rule : (i : ℕ) (o : Op) (s : State) (r : Kind × State) → Widens o s → rule L p i o s ≡ answered r → P s → P r.1
      keeps_rule i (Ends t) s r W = walk-rule L p composes i (Ends t) refl s r
      keeps_rule i (Send c l) s r W = walk-rule L p composes i (Send c l) refl s r
      keeps_rule i (Compute o v w) s r W = walk-rule L p composes i (Compute o v w) refl s r
      keeps_rule i (Phi b v c w) s r W = walk-rule L p composes i (Phi b v c w) refl s r
      keeps_rule i (Param n) s r W = walk-rule L p composes i (Param n) refl s r
      keeps_rule i (SelfParam c) s r W = walk-rule L p composes i (SelfParam c) refl s r
      keeps_rule i (New c) s r W = walk-rule L p composes i (New c) refl s r
      keeps_rule i (GetIvar n v) s r W = keeps_read i n v s r
      keeps_rule i (SetIvar n v w) s r W = keeps_set i n v w s r W

      pub keeps_visit : (i : ℕ) (s e : State) → Widens (op_of p i) s → Stores i → visit L p i s ≡ answered (tt, e) → P s → P e
      unfolding visit
      keeps_visit i s e W S q h =
          let a = after (rule L p i (op_of p i) s) (λ (r : Kind × State). store L p i r.0 r.1) q in
          keeps_store i S a.0.0 a.0.1 (tt, e) a.2 (keeps_rule i (op_of p i) s a.0 W a.1 h)
