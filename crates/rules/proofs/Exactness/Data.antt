-- What an instruction that does not wait has taken in: its kind is at or above what its rule reads. Assumes nothing.
-- A join is as it was last looked at; what a dead return gives a call is left out: the rules do not look at these again.
use Prim.Native.Nat.{ℕ, zero, suc, ◌≤◌, ◌<◌}
use native.Mathlib.Omega.{arith}
use mathlib.Core.Path.{◌≡◌, refl, sym, ap, ◌∙◌, subst}
use mathlib.Core.Logic.{◌⊎◌, inl, inr}
use mathlib.Core.Bool.{Bool as 𝔹, true, false, ◌&&◌, true≢false, false≢true}
use mathlib.Core.Option.{some}
use mathlib.Core.List.Memᴰ
use mathlib.Core.List.{List, [], ◌∷◌, ◌++◌}
use lib.ListN.{length, get_or, set}
use lib.Dec.{eqb}
use lib.Seq.{get_or-set_same}
use Rattle.kinds.specs.declared.Kind.{Kind}
use Rattle.kinds.specs.declared.Kind.TheVariants.{Empty}
use Rattle.kinds.specs.Rules.{arith_total}
use Rattle.rules.specs.Lists.{keep, places, same, first, is_just_name}
use Rattle.rules.specs.Values.{object}
use Rattle.rules.specs.Program.{Limits, Name, Opnd, Const, Insn, Return, Static, Dynamic, Op, Ends, Send, Compute, Phi, Param, SelfParam, New, GetIvar, SetIvar, Program, about, class, op_of, block_of, function_of, code, ivar_named, parameters}
use Rattle.rules.specs.Uses.{uses}
use Rattle.rules.specs.Machine.{mark, marked, place_of, argument}
use Rattle.rules.proofs.Exactness.Sums.{◌∈◌, not_in_none, ∈-one, ∈-keep, ∈-places, places-∈, set_cases, rows_cases, less_or, eqb-true}
use Rattle.rules.proofs.Exactness.Laws.{Le, Laws, wide_classes, le_trans, le_refl}
use Rattle.rules.proofs.Exactness.Grow.{kind_in, is_live, ivar_at, mark-true, mark_cases, set-true}

module _ (p : Program) where
  -- a block's instruction, where the block is live
  pub record Placed (live : List 𝔹) (i : ℕ) : Type 0 where
    pub alive : is_live live (block_of p i) ≡ true
    pub within : i < length p.instructions

  -- what the program's tables give by their definition
  pub record Tables : Type 0 where
    pub code_in : (b i : ℕ) → i ∈ code p b → (i < length p.instructions) × (block_of p i ≡ b)
    pub in_code : (i : ℕ) → i < length p.instructions → i ∈ code p (block_of p i)
    pub uses_in : (j i : ℕ) → i ∈ uses p j → i < length p.instructions
    pub in_uses : (j i : ℕ) → i < length p.instructions → Insn j ∈ (about (op_of p i)).operands → i ∈ uses p j

-- waits, or is taken off and not finished
abbrev pub Busy : List ℕ → List ℕ → ℕ → Type 0
Busy pend q i = (i ∈ pend) ⊎ (i ∈ q)

-- a join as it was last looked at: its kind is the least above the operands whose blocks were live then; these blocks are live still
pub record Looked (ks : List Kind) (live : List 𝔹) (b : ℕ) (v : Opnd) (c : ℕ) (w : Opnd) (k : Kind) : Type 0 where
  pub one : 𝔹
  pub two : 𝔹
  pub one_live : one ≡ true → is_live live b ≡ true
  pub two_live : two ≡ true → is_live live c ≡ true
  pub one_in : one ≡ true → Le (kind_in ks v) k
  pub two_in : two ≡ true → Le (kind_in ks w) k
  pub least : (u : Kind) → (one ≡ true → Le (kind_in ks v) u) → (two ≡ true → Le (kind_in ks w) u) → Le k u

module _ (p : Program) where
  -- instruction i, of kind k, is at or above what its rule reads; an attribute read is noted; a setting has widened its attributes
  abbrev pub Held : List Kind → List 𝔹 → List (List Kind) → List (List 𝔹) → Kind → ℕ → Op → Type 0
  Held ks live iv rd k i (Ends t) = Unit {0}
  Held ks live iv rd k i (Send c l) = Unit {0}
  Held ks live iv rd k i (Compute o v w) = Le (arith_total o (kind_in ks v) (kind_in ks w)) k
  Held ks live iv rd k i (Phi b v c w) = Looked ks live b v c w k
  Held ks live iv rd k i (Param n) = Unit {0}
  Held ks live iv rd k i (SelfParam c) = Le (object c) k
  Held ks live iv rd k i (New c) = Le (object c) k
  Held ks live iv rd k i (GetIvar n r) = (c a : ℕ) → c ∈ wide_classes (kind_in ks r) → ivar_named p c n ≡ some a → Le (ivar_at iv c a) k × (marked rd c i ≡ true)
  Held ks live iv rd k i (SetIvar n r v) = (c a : ℕ) → c ∈ wide_classes (kind_in ks r) → ivar_named p c n ≡ some a → Le (kind_in ks v) (ivar_at iv c a)

module _ (L : Limits) (p : Program) where
  pub record Data (pend q : List ℕ) (ks : List Kind) (live : List 𝔹) (cb : List (List 𝔹)) (iv : List (List Kind)) (rd : List (List 𝔹)) : Type 0 where
    pub held : (i : ℕ) → Placed p live i → Busy pend q i ⊎ Held p ks live iv rd (get_or ks i Empty) i (op_of p i)
    -- a caller's arguments have come to the Params
    pub argued : (f c x : ℕ) → marked cb f c ≡ true → x ∈ parameters p f → Busy pend q c ⊎ (Busy pend q x ⊎ Le (kind_in ks (argument L p (place_of L p x) c)) (get_or ks x Empty))
    -- what a live return gives has come to the callers
    pub returned : (c x : ℕ) (v : Opnd) → marked cb (function_of p x) c ≡ true → op_of p x ≡ Ends (Return v) → Placed p live x → Busy pend q c ⊎ (Busy pend q x ⊎ Le (kind_in ks v) (get_or ks c Empty))

busy_more : (pend q l : List ℕ) {i : ℕ} → Busy pend q i → Busy pend (q ++ l) i
busy_more pend q l (inl m) = inl m
busy_more pend q l (inr m) = inr (Memᴰ.append_left l m)

-- names with the same bytes are one
same_name : (a b : Name) → same a b ≡ true → a ≡ b
same_name [] [] e = refl
same_name [] (y ∷ b) e = absurd (false≢true e)
same_name (x ∷ a) [] e = absurd (false≢true e)
same_name (x ∷ a) (y ∷ b) e = go (eqb x y) refl e (λ h. same_name a b h)
  where
    go : (t : 𝔹) → eqb x y ≡ t → (t && same a b) ≡ true → (same a b ≡ true → a ≡ b) → x ∷ a ≡ y ∷ b
    go true q h ih = let z = eqb-true x y q in let w = ih h in cc
    go false q h ih = absurd (false≢true h)

name-self : (a : Name) → same a a ≡ true
name-self [] = refl
name-self (x ∷ a) = rw (Rattle.rules.proofs.Exactness.Sums.eqb-self x) (name-self a)

pub listed_used : (o : Op) (v : Opnd) → v ∈ (about o).listed → v ∈ (about o).operands
listed_used (Ends t) v m = not_in_none m
listed_used (Send (Static f) l) v m = m
listed_used (Send (Dynamic r n) l) v m = Memᴰ.tail m
listed_used (Compute o x y) v m = not_in_none m
listed_used (Phi b x c y) v m = m
listed_used (Param n) v m = not_in_none m
listed_used (SelfParam c) v m = not_in_none m
listed_used (New c) v m = not_in_none m
listed_used (GetIvar n r) v m = not_in_none m
listed_used (SetIvar n r x) v m = not_in_none m

-- a store leaves an operand's kind as it was, or the operand is that instruction
pub opnd_steady : (ks : List Kind) (i : ℕ) (k : Kind) (v : Opnd) → (kind_in (set ks i k) v ≡ kind_in ks v) ⊎ (Insn i ≡ v)
opnd_steady ks i k (Const c) = inl refl
opnd_steady ks i k (Insn j) = go (set_cases Empty ks i k j)
  where
    go : (get_or (set ks i k) j Empty ≡ get_or ks j Empty) ⊎ ((j ≡ i) × (get_or (set ks i k) j Empty ≡ k)) → (get_or (set ks i k) j Empty ≡ get_or ks j Empty) ⊎ (Insn i ≡ Insn j)
    go (inl e) = inl e
    go (inr e) = inr (ap Insn (sym e.0))

at_place : (l : List Opnd) (n i : ℕ) → get_or l n (Const Empty) ≡ Insn i → Insn i ∈ l
at_place [] n i e = absurd (let z : ◌≡◌ {A = ℕ} 0 1 = cc in omega arith)
at_place (x ∷ l) zero i e = Memᴰ.head (sym e)
at_place (x ∷ l) (suc n) i e = Memᴰ.tail (at_place l n i e)

module _ (L : Limits) (p : Program) (K : Laws (length p.classes) (length p.functions)) (T : Tables p) where
  -- ---- entries

  pub data_wake : {pend q : List ℕ} (l : List ℕ) {ks : List Kind} {live : List 𝔹} {cb : List (List 𝔹)} {iv : List (List Kind)} {rd : List (List 𝔹)} → Data L p pend q ks live cb iv rd → Data L p pend (q ++ l) ks live cb iv rd
  data_wake {pend} {q} l {ks} {live} {cb} {iv} {rd} d = record {
    held = λ i h. on (d.held i h);
    argued = λ f c x m n. two (d.argued f c x m n);
    returned = λ c x v m e h. two (d.returned c x v m e h);
  }
    where
      on : {i : ℕ} {A : Type 0} → Busy pend q i ⊎ A → Busy pend (q ++ l) i ⊎ A
      on (inl b) = inl (busy_more pend q l b)
      on (inr a) = inr a

      two : {i j : ℕ} {A : Type 0} → Busy pend q i ⊎ (Busy pend q j ⊎ A) → Busy pend (q ++ l) i ⊎ (Busy pend (q ++ l) j ⊎ A)
      two (inl b) = inl (busy_more pend q l b)
      two (inr (inl b)) = inr (inl (busy_more pend q l b))
      two (inr (inr a)) = inr (inr a)

  pub data_take : (i : ℕ) (q : List ℕ) {r : List ℕ} {ks : List Kind} {live : List 𝔹} {cb : List (List 𝔹)} {iv : List (List Kind)} {rd : List (List 𝔹)} → r ≡ i ∷ q → Data L p [] r ks live cb iv rd → Data L p (i ∷ []) q ks live cb iv rd
  data_take i q {r} e d = record {
    held = λ j h. on (d.held j h);
    argued = λ f c x m n. two (d.argued f c x m n);
    returned = λ c x v m e h. two (d.returned c x v m e h);
  }
    where
      busy : {j : ℕ} → Busy [] r j → Busy (i ∷ []) q j
      busy (inl m) = not_in_none m
      busy {j} (inr m) = at (Memᴰ.cases_cons (rw e at m))
        where
          at : (j ≡ i) ⊎ (j ∈ q) → Busy (i ∷ []) q j
          at (inl z) = inl (Memᴰ.head z)
          at (inr z) = inr z

      on : {j : ℕ} {A : Type 0} → Busy [] r j ⊎ A → Busy (i ∷ []) q j ⊎ A
      on (inl b) = inl (busy b)
      on (inr a) = inr a

      two : {j k : ℕ} {A : Type 0} → Busy [] r j ⊎ (Busy [] r k ⊎ A) → Busy (i ∷ []) q j ⊎ (Busy (i ∷ []) q k ⊎ A)
      two (inl b) = inl (busy b)
      two (inr (inl b)) = inr (inl (busy b))
      two (inr (inr a)) = inr (inr a)

  held-live : (b : ℕ) (ks : List Kind) (live : List 𝔹) (iv : List (List Kind)) (rd : List (List 𝔹)) (k : Kind) (i : ℕ) (o : Op) → Held p ks live iv rd k i o → Held p ks (set live b true) iv rd k i o
  held-live b ks live iv rd k i (Ends t) h = h
  held-live b ks live iv rd k i (Send x l) h = h
  held-live b ks live iv rd k i (Compute o v w) h = h
  held-live b ks live iv rd k i (Phi c v d w) h = record { one = h.one; two = h.two; one_live = λ e. set-true live b c (h.one_live e); two_live = λ e. set-true live b d (h.two_live e); one_in = h.one_in; two_in = h.two_in; least = h.least }
  held-live b ks live iv rd k i (Param n) h = h
  held-live b ks live iv rd k i (SelfParam d) h = h
  held-live b ks live iv rd k i (New d) h = h
  held-live b ks live iv rd k i (GetIvar n r) h = h
  held-live b ks live iv rd k i (SetIvar n r v) h = h

  -- a block newly live: its instructions wait
  pub data_open : (b : ℕ) {pend q : List ℕ} {ks : List Kind} {live : List 𝔹} {cb : List (List 𝔹)} {iv : List (List Kind)} {rd : List (List 𝔹)} → Data L p pend q ks live cb iv rd → Data L p pend (q ++ code p b) ks (set live b true) cb iv rd
  data_open b {pend} {q} {ks} {live} {cb} {iv} {rd} d = record {
    held = λ i h. on i (placed i h);
    argued = w.argued;
    returned = λ c x v m e h. back c x v m e (placed x h);
  }
    where
      w : Data L p pend (q ++ code p b) ks live cb iv rd
      w = data_wake (code p b) d

      placed : (i : ℕ) → Placed p (set live b true) i → Placed p live i ⊎ (i ∈ code p b)
      placed i h = go (set_cases false live b true (block_of p i))
        where
          go : (is_live (set live b true) (block_of p i) ≡ is_live live (block_of p i)) ⊎ ((block_of p i ≡ b) × (is_live (set live b true) (block_of p i) ≡ true)) → Placed p live i ⊎ (i ∈ code p b)
          go (inl e) = inl (record { alive = sym e ∙ h.alive; within = h.within })
          go (inr e) = inr (subst (λ (x : ℕ). i ∈ code p x) e.0 (T.in_code i h.within))

      on : (i : ℕ) → Placed p live i ⊎ (i ∈ code p b) → Busy pend (q ++ code p b) i ⊎ Held p ks (set live b true) iv rd (get_or ks i Empty) i (op_of p i)
      on i (inl h) = at (w.held i h)
        where
          at : Busy pend (q ++ code p b) i ⊎ Held p ks live iv rd (get_or ks i Empty) i (op_of p i) → Busy pend (q ++ code p b) i ⊎ Held p ks (set live b true) iv rd (get_or ks i Empty) i (op_of p i)
          at (inl z) = inl z
          at (inr z) = inr (held-live b ks live iv rd (get_or ks i Empty) i (op_of p i) z)
      on i (inr m) = inl (inr (Memᴰ.append_right q m))

      back : (c x : ℕ) (v : Opnd) → marked cb (function_of p x) c ≡ true → op_of p x ≡ Ends (Return v) → Placed p live x ⊎ (x ∈ code p b) → Busy pend (q ++ code p b) c ⊎ (Busy pend (q ++ code p b) x ⊎ Le (kind_in ks v) (get_or ks c Empty))
      back c x v m e (inl h) = w.returned c x v m e h
      back c x v m e (inr n) = inr (inl (inr (Memᴰ.append_right q n)))

  -- ---- a caller and a read are noted

  pub data_call : (f i : ℕ) {pend q : List ℕ} {ks : List Kind} {live : List 𝔹} {cb : List (List 𝔹)} {iv : List (List Kind)} {rd : List (List 𝔹)} → i ∈ pend → Data L p pend q ks live cb iv rd → Data L p pend q ks live (mark cb f i) iv rd
  data_call f i {pend} {q} {ks} {live} {cb} {iv} {rd} m d = record {
    held = d.held;
    argued = λ g c x e n. at g c x n (mark_cases cb f i g c e);
    returned = λ c x v e o h. back c x v o h (mark_cases cb f i (function_of p x) c e);
  }
    where
      at : (g c x : ℕ) → x ∈ parameters p g → (marked cb g c ≡ true) ⊎ ((g ≡ f) × (c ≡ i)) → Busy pend q c ⊎ (Busy pend q x ⊎ Le (kind_in ks (argument L p (place_of L p x) c)) (get_or ks x Empty))
      at g c x n (inl e) = d.argued g c x e n
      at g c x n (inr e) = inl (inl (rw e.1 m))

      back : (c x : ℕ) (v : Opnd) → op_of p x ≡ Ends (Return v) → Placed p live x → (marked cb (function_of p x) c ≡ true) ⊎ ((function_of p x ≡ f) × (c ≡ i)) → Busy pend q c ⊎ (Busy pend q x ⊎ Le (kind_in ks v) (get_or ks c Empty))
      back c x v o h (inl e) = d.returned c x v e o h
      back c x v o h (inr e) = inl (inl (rw e.1 m))

  held-read : (c j : ℕ) (ks : List Kind) (live : List 𝔹) (iv : List (List Kind)) (rd : List (List 𝔹)) (k : Kind) (i : ℕ) (o : Op) → Held p ks live iv rd k i o → Held p ks live iv (mark rd c j) k i o
  held-read c j ks live iv rd k i (Ends t) h = h
  held-read c j ks live iv rd k i (Send x l) h = h
  held-read c j ks live iv rd k i (Compute o v w) h = h
  held-read c j ks live iv rd k i (Phi b v d w) h = h
  held-read c j ks live iv rd k i (Param n) h = h
  held-read c j ks live iv rd k i (SelfParam d) h = h
  held-read c j ks live iv rd k i (New d) h = h
  held-read c j ks live iv rd k i (GetIvar n r) h = λ d a m e. ((h d a m e).0, mark-true rd c j d i (h d a m e).1)
  held-read c j ks live iv rd k i (SetIvar n r v) h = h

  pub data_read : (c j : ℕ) {pend q : List ℕ} {ks : List Kind} {live : List 𝔹} {cb : List (List 𝔹)} {iv : List (List Kind)} {rd : List (List 𝔹)} → Data L p pend q ks live cb iv rd → Data L p pend q ks live cb iv (mark rd c j)
  data_read c j {pend} {q} {ks} {live} {cb} {iv} {rd} d = record { held = λ i h. on i (d.held i h); argued = d.argued; returned = d.returned }
    where
      on : (i : ℕ) → Busy pend q i ⊎ Held p ks live iv rd (get_or ks i Empty) i (op_of p i) → Busy pend q i ⊎ Held p ks live iv (mark rd c j) (get_or ks i Empty) i (op_of p i)
      on i (inl b) = inl b
      on i (inr h) = inr (held-read c j ks live iv rd (get_or ks i Empty) i (op_of p i) h)

  -- ---- an attribute is widened: the reads of it that met the class wait

  one_name : (c a : ℕ) (m n : Name) → ivar_named p c m ≡ some a → ivar_named p c n ≡ some a → same m n ≡ true
  unfolding ivar_named
  one_name c a m n e f = let x = named m e in let y = named n f in let k = get_or (class p c).ivars a [] in let z : m ≡ n = sym (same_name k m x) ∙ same_name k n y in rw z (name-self n)
    where
      in_first : (l : List ℕ) {x : ℕ} → first l ≡ some x → x ∈ l
      in_first [] e = absurd (let z : ◌≡◌ {A = ℕ} 0 1 = cc in omega arith)
      in_first (y ∷ l) {x} e = Memᴰ.head (inj e)
        where
          inj : some y ≡ some x → x ≡ y
          inj e = cc

      named : (n : Name) → first (places (λ k. same k n) (class p c).ivars) ≡ some a → same (get_or (class p c).ivars a []) n ≡ true
      named n e = (places-∈ [] (λ (k : Name). same k n) (class p c).ivars a (in_first _ e)).1

  module _ (c a : ℕ) (n : Name) (u : Kind) (named : ivar_named p c n ≡ some a) (iv : List (List Kind)) (rd : List (List 𝔹)) (le : Le (ivar_at iv c a) u) where
    abbrev wide : List (List Kind)
    wide = set iv c (set (get_or iv c []) a u)

    abbrev woken : List ℕ
    woken = keep (λ i. is_just_name (about (op_of p i)).gets n) (places (λ b. b) (get_or rd c []))

    wide_le : (d x : ℕ) → Le (ivar_at iv d x) (ivar_at wide d x)
    wide_le d x = go (rows_cases Empty iv c a u d x)
      where
        go : (ivar_at (set iv c (set (get_or iv c []) a u)) d x ≡ ivar_at iv d x) ⊎ ((d ≡ c) × (x ≡ a) × (ivar_at (set iv c (set (get_or iv c []) a u)) d x ≡ u)) → Le (ivar_at iv d x) (ivar_at (set iv c (set (get_or iv c []) a u)) d x)
        go (inl e) = rw e (le_refl K _)
        go (inr e) = rw (e.2, e.0, e.1) le

    held-wide : (ks : List Kind) (live : List 𝔹) (k : Kind) (i : ℕ) (o : Op) → op_of p i ≡ o → Held p ks live iv rd k i o → Held p ks live wide rd k i o ⊎ (i ∈ woken)
    held-wide ks live k i (Ends t) q h = inl h
    held-wide ks live k i (Send x l) q h = inl h
    held-wide ks live k i (Compute o v w) q h = inl h
    held-wide ks live k i (Phi b v d w) q h = inl h
    held-wide ks live k i (Param m) q h = inl h
    held-wide ks live k i (SelfParam d) q h = inl h
    held-wide ks live k i (New d) q h = inl h
    held-wide ks live k i (GetIvar m r) q h = go (same m n) refl (marked rd c i) refl
      where
        now : (d x : ℕ) → d ∈ wide_classes (kind_in ks r) → ivar_named p d m ≡ some x → ((d ≡ c) → (x ≡ a) → ⊥) → (ivar_at (set iv c (set (get_or iv c []) a u)) d x ≡ ivar_at iv d x) ⊎ ((d ≡ c) × (x ≡ a) × (ivar_at (set iv c (set (get_or iv c []) a u)) d x ≡ u)) → Le (ivar_at (set iv c (set (get_or iv c []) a u)) d x) k × (marked rd d i ≡ true)
        now d x mem e apart (inl z) = rw z (h d x mem e)
        now d x mem e apart (inr z) = absurd (apart z.0 z.1)

        row-long : (i < length (get_or rd c [])) ⊎ (length (get_or rd c []) ≤ i) → marked rd c i ≡ true → i < length (get_or rd c [])
        row-long (inl h) t = h
        row-long (inr h) t = absurd (true≢false (sym t ∙ lib.ListN.get_or-eq_default (get_or rd c []) false h))

        go : (s : 𝔹) → same m n ≡ s → (t : 𝔹) → marked rd c i ≡ t → Held p ks live (set iv c (set (get_or iv c []) a u)) rd k i (GetIvar m r) ⊎ (i ∈ keep (λ i. is_just_name (about (op_of p i)).gets n) (places (λ b. b) (get_or rd c [])))
        go true e true f = inr (∈-keep (λ i. is_just_name (about (op_of p i)).gets n) (places (λ b. b) (get_or rd c [])) (∈-places false (λ (b : 𝔹). b) (get_or rd c []) i (row-long (less_or i (length (get_or rd c []))) f) f) (subst (λ (o : Op). is_just_name (about o).gets n ≡ true) (sym q) e))
        go false e t f = inl (λ d x mem z. now d x mem z (λ y w. false≢true (sym e ∙ one_name c a m n (subst (λ (v : ℕ). ivar_named p v m ≡ some a) y (subst (λ (v : ℕ). ivar_named p d m ≡ some v) w z)) named)) (rows_cases Empty iv c a u d x))
        go true e false f = inl (λ d x mem z. now d x mem z (λ y w. false≢true (sym f ∙ subst (λ (v : ℕ). marked rd v i ≡ true) y (h d x mem z).1)) (rows_cases Empty iv c a u d x))
    held-wide ks live k i (SetIvar m r v) q h = inl (λ d x mem z. le_trans K (h d x mem z) (wide_le d x))

    pub data_widen : {pend q : List ℕ} {ks : List Kind} {live : List 𝔹} {cb : List (List 𝔹)} → Data L p pend q ks live cb iv rd
        → Data L p pend (q ++ keep (λ i. is_just_name (about (op_of p i)).gets n) (places (λ b. b) (get_or rd c []))) ks live cb (set iv c (set (get_or iv c []) a u)) rd
    data_widen {pend} {q} {ks} {live} {cb} d = let w = data_wake woken d in record { held = λ i h. on i (w.held i h); argued = w.argued; returned = w.returned }
      where
        on : (i : ℕ) → Busy pend (q ++ woken) i ⊎ Held p ks live iv rd (get_or ks i Empty) i (op_of p i) → Busy pend (q ++ woken) i ⊎ Held p ks live wide rd (get_or ks i Empty) i (op_of p i)
        on i (inl b) = inl b
        on i (inr h) = at (held-wide ks live (get_or ks i Empty) i (op_of p i) refl h)
          where
            at : Held p ks live wide rd (get_or ks i Empty) i (op_of p i) ⊎ (i ∈ woken) → Busy pend (q ++ woken) i ⊎ Held p ks live wide rd (get_or ks i Empty) i (op_of p i)
            at (inl z) = inr z
            at (inr m) = inl (inr (Memᴰ.append_right q m))

  -- ---- an instruction is finished

  -- what finishing instruction i, with kind k, has seen to
  pub record Own (i : ℕ) (k : Kind) (q : List ℕ) (ks : List Kind) (live : List 𝔹) (cb : List (List 𝔹)) (iv : List (List Kind)) (rd : List (List 𝔹)) : Type 0 where
    pub held : Held p ks live iv rd k i (op_of p i)
    pub args : (f x : ℕ) → marked cb f i ≡ true → x ∈ parameters p f → (x ∈ q) ⊎ Le (kind_in ks (argument L p (place_of L p x) i)) (get_or ks x Empty)
    pub param : (f c : ℕ) → marked cb f c ≡ true → i ∈ parameters p f → Le (kind_in ks (argument L p (place_of L p i) c)) k
    pub call : (x : ℕ) (v : Opnd) → marked cb (function_of p x) i ≡ true → op_of p x ≡ Ends (Return v) → x < length p.instructions → Le (kind_in ks v) k
    pub ret : (v : Opnd) (c : ℕ) → op_of p i ≡ Ends (Return v) → marked cb (function_of p i) c ≡ true → (c ∈ q) ⊎ Le (kind_in ks v) (get_or ks c Empty)

  held_up : (ks : List Kind) (live : List 𝔹) (iv : List (List Kind)) (rd : List (List 𝔹)) (k k' : Kind) (i : ℕ) (o : Op) → Le k k' → Le k' k → Held p ks live iv rd k i o → Held p ks live iv rd k' i o
  held_up ks live iv rd k k' i o le ge h = let e : k ≡ k' = sym ge.is ∙ K.comm k' k ∙ le.is in subst (λ (x : Kind). Held p ks live iv rd x i o) e h

  module _ (i : ℕ) (k : Kind) (q : List ℕ) (ks : List Kind) (live : List 𝔹) (cb : List (List 𝔹)) (iv : List (List Kind)) (rd : List (List 𝔹)) (own : Own i k q ks live cb iv rd) (d : Data L p (i ∷ []) q ks live cb iv rd) where
    -- its kind is above k already
    pub data_finish : Le k (get_or ks i Empty) → Le (get_or ks i Empty) k → Data L p [] q ks live cb iv rd
    data_finish le ge = record {
      held = λ j h. held j (d.held j h);
      argued = λ f c x m n. argued f c x m n (d.argued f c x m n);
      returned = λ c x v m e h. returned c x v m e h (d.returned c x v m e h);
    }
      where
        held : (j : ℕ) → Busy (i ∷ []) q j ⊎ Held p ks live iv rd (get_or ks j Empty) j (op_of p j) → Busy [] q j ⊎ Held p ks live iv rd (get_or ks j Empty) j (op_of p j)
        held j (inl (inl m)) = inr (subst (λ (x : ℕ). Held p ks live iv rd (get_or ks x Empty) x (op_of p x)) (sym (∈-one m)) (held_up ks live iv rd k (get_or ks i Empty) i (op_of p i) le ge own.held))
        held j (inl (inr m)) = inl (inr m)
        held j (inr h) = inr h

        argued : (f c x : ℕ) → marked cb f c ≡ true → x ∈ parameters p f → Busy (i ∷ []) q c ⊎ (Busy (i ∷ []) q x ⊎ Le (kind_in ks (argument L p (place_of L p x) c)) (get_or ks x Empty))
            → Busy [] q c ⊎ (Busy [] q x ⊎ Le (kind_in ks (argument L p (place_of L p x) c)) (get_or ks x Empty))
        argued f c x m n (inl (inl z)) = at (own.args f x (subst (λ (y : ℕ). marked cb f y ≡ true) (∈-one z) m) n)
          where
            at : (x ∈ q) ⊎ Le (kind_in ks (argument L p (place_of L p x) i)) (get_or ks x Empty) → Busy [] q c ⊎ (Busy [] q x ⊎ Le (kind_in ks (argument L p (place_of L p x) c)) (get_or ks x Empty))
            at (inl w) = inr (inl (inr w))
            at (inr w) = inr (inr (subst (λ (y : ℕ). Le (kind_in ks (argument L p (place_of L p x) y)) (get_or ks x Empty)) (sym (∈-one z)) w))
        argued f c x m n (inl (inr z)) = inl (inr z)
        argued f c x m n (inr (inl (inl z))) =
            inr (inr (subst (λ (y : ℕ). Le (kind_in ks (argument L p (place_of L p y) c)) (get_or ks y Empty)) (sym (∈-one z)) (le_trans K (own.param f c m (subst (λ (y : ℕ). y ∈ parameters p f) (∈-one z) n)) le)))
        argued f c x m n (inr (inl (inr z))) = inr (inl (inr z))
        argued f c x m n (inr (inr h)) = inr (inr h)

        returned : (c x : ℕ) (v : Opnd) → marked cb (function_of p x) c ≡ true → op_of p x ≡ Ends (Return v) → Placed p live x → Busy (i ∷ []) q c ⊎ (Busy (i ∷ []) q x ⊎ Le (kind_in ks v) (get_or ks c Empty))
            → Busy [] q c ⊎ (Busy [] q x ⊎ Le (kind_in ks v) (get_or ks c Empty))
        returned c x v m e h (inl (inl z)) = inr (inr (subst (λ (y : ℕ). Le (kind_in ks v) (get_or ks y Empty)) (sym (∈-one z)) (le_trans K (own.call x v (subst (λ (y : ℕ). marked cb (function_of p x) y ≡ true) (∈-one z) m) e h.within) le)))
        returned c x v m e h (inl (inr z)) = inl (inr z)
        returned c x v m e h (inr (inl (inl z))) = at (own.ret v c (subst (λ (y : ℕ). op_of p y ≡ Ends (Return v)) (∈-one z) e) (subst (λ (y : ℕ). marked cb (function_of p y) c ≡ true) (∈-one z) m))
          where
            at : (c ∈ q) ⊎ Le (kind_in ks v) (get_or ks c Empty) → Busy [] q c ⊎ (Busy [] q x ⊎ Le (kind_in ks v) (get_or ks c Empty))
            at (inl w) = inl (inr w)
            at (inr w) = inr (inr w)
        returned c x v m e h (inr (inl (inr z))) = inr (inl (inr z))
        returned c x v m e h (inr (inr w)) = inr (inr w)

    -- its kind is stored, and the live users wait
    module _ (hi : i < length ks) (le : Le (get_or ks i Empty) k) (placed : (f c : ℕ) → marked cb f c ≡ true → Placed p live c) where
      abbrev users : List ℕ
      users = keep (λ j. get_or live (block_of p j) false) (uses p i)

      abbrev new : List Kind
      new = set ks i k

      user : (j : ℕ) → Placed p live j → Insn i ∈ (about (op_of p j)).operands → Busy [] (q ++ users) j
      user j h m = inr (Memᴰ.append_right q (∈-keep (λ j. get_or live (block_of p j) false) (uses p i) (T.in_uses i j h.within m) h.alive))

      there : (j : ℕ) → j ∈ q → Busy [] (q ++ users) j
      there j m = inr (Memᴰ.append_left users m)

      now : get_or new i Empty ≡ k
      now = get_or-set_same ks i k Empty hi

      up : (j : ℕ) → Le (get_or ks j Empty) (get_or new j Empty)
      up j = go (set_cases Empty ks i k j)
        where
          go : (get_or new j Empty ≡ get_or ks j Empty) ⊎ ((j ≡ i) × (get_or new j Empty ≡ k)) → Le (get_or ks j Empty) (get_or new j Empty)
          go (inl e) = rw e (le_refl K _)
          go (inr e) = rw (e.1, e.0) le

      held-store : (j : ℕ) (o : Op) (k₀ : Kind) → Held p ks live iv rd k₀ j o → Held p new live iv rd k₀ j o ⊎ (Insn i ∈ (about o).operands)
      held-store j (Ends t) k₀ h = inl h
      held-store j (Send x y) k₀ h = inl h
      held-store j (Compute o v w) k₀ h = go (opnd_steady ks i k v) (opnd_steady ks i k w)
        where
          go : (kind_in new v ≡ kind_in ks v) ⊎ (Insn i ≡ v) → (kind_in new w ≡ kind_in ks w) ⊎ (Insn i ≡ w) → Le (arith_total o (kind_in new v) (kind_in new w)) k₀ ⊎ (Insn i ∈ v ∷ w ∷ [])
          go (inl e) (inl f) = inl (rw (e, f) h)
          go (inl e) (inr f) = inr (Memᴰ.tail (Memᴰ.head f))
          go (inr e) f = inr (Memᴰ.head e)
      held-store j (Phi b v c w) k₀ h = go (opnd_steady ks i k v) (opnd_steady ks i k w)
        where
          go : (kind_in new v ≡ kind_in ks v) ⊎ (Insn i ≡ v) → (kind_in new w ≡ kind_in ks w) ⊎ (Insn i ≡ w) → Looked new live b v c w k₀ ⊎ (Insn i ∈ v ∷ w ∷ [])
          go (inl e) (inl f) = inl (record {
            one = h.one;
            two = h.two;
            one_live = h.one_live;
            two_live = h.two_live;
            one_in = λ y. subst (λ (x : Kind). Le x k₀) (sym e) (h.one_in y);
            two_in = λ y. subst (λ (x : Kind). Le x k₀) (sym f) (h.two_in y);
            least = λ u y z. h.least u (λ a. subst (λ (x : Kind). Le x u) e (y a)) (λ a. subst (λ (x : Kind). Le x u) f (z a));
          })
          go (inl e) (inr f) = inr (Memᴰ.tail (Memᴰ.head f))
          go (inr e) f = inr (Memᴰ.head e)
      held-store j (Param n) k₀ h = inl h
      held-store j (SelfParam c) k₀ h = inl h
      held-store j (New c) k₀ h = inl h
      held-store j (GetIvar n r) k₀ h = go (opnd_steady ks i k r)
        where
          go : (kind_in new r ≡ kind_in ks r) ⊎ (Insn i ≡ r) → Held p new live iv rd k₀ j (GetIvar n r) ⊎ (Insn i ∈ r ∷ [])
          go (inl e) = inl (λ c a m z. h c a (subst (λ (x : Kind). c ∈ wide_classes x) e m) z)
          go (inr e) = inr (Memᴰ.head e)
      held-store j (SetIvar n r v) k₀ h = go (opnd_steady ks i k r) (opnd_steady ks i k v)
        where
          go : (kind_in new r ≡ kind_in ks r) ⊎ (Insn i ≡ r) → (kind_in new v ≡ kind_in ks v) ⊎ (Insn i ≡ v) → Held p new live iv rd k₀ j (SetIvar n r v) ⊎ (Insn i ∈ r ∷ v ∷ [])
          go (inl e) (inl f) = inl (λ c a m z. rw f (h c a (subst (λ (x : Kind). c ∈ wide_classes x) e m) z))
          go (inl e) (inr f) = inr (Memᴰ.tail (Memᴰ.head f))
          go (inr e) f = inr (Memᴰ.head e)

      pub data_store : Data L p [] (q ++ users) new live cb iv rd
      data_store = record {
        held = λ j h. held j h (d.held j h);
        argued = λ f c x m n. argued f c x m n (d.argued f c x m n);
        returned = λ c x v m e h. returned c x v m e h (d.returned c x v m e h);
      }
        where
          held : (j : ℕ) → Placed p live j → Busy (i ∷ []) q j ⊎ Held p ks live iv rd (get_or ks j Empty) j (op_of p j) → Busy [] (q ++ users) j ⊎ Held p new live iv rd (get_or new j Empty) j (op_of p j)
          held j h w = go w
            where
              at : (k₀ : Kind) → get_or new j Empty ≡ k₀ → Held p new live iv rd k₀ j (op_of p j) ⊎ (Insn i ∈ (about (op_of p j)).operands) → Busy [] (q ++ users) j ⊎ Held p new live iv rd (get_or new j Empty) j (op_of p j)
              at k₀ e (inl z) = inr (rw e z)
              at k₀ e (inr z) = inl (user j h z)

              itself : j ≡ i → Busy [] (q ++ users) j ⊎ Held p new live iv rd (get_or new j Empty) j (op_of p j)
              itself m = at k (ap (λ (x : ℕ). get_or new x Empty) m ∙ now) (held-store j (op_of p j) k (subst (λ (x : ℕ). Held p ks live iv rd k x (op_of p x)) (sym m) own.held))

              go : Busy (i ∷ []) q j ⊎ Held p ks live iv rd (get_or ks j Empty) j (op_of p j) → Busy [] (q ++ users) j ⊎ Held p new live iv rd (get_or new j Empty) j (op_of p j)
              go (inl (inl m)) = itself (∈-one m)
              go (inl (inr m)) = inl (there j m)
              go (inr z) = split (set_cases Empty ks i k j)
                where
                  split : (get_or new j Empty ≡ get_or ks j Empty) ⊎ ((j ≡ i) × (get_or new j Empty ≡ k)) → Busy [] (q ++ users) j ⊎ Held p new live iv rd (get_or new j Empty) j (op_of p j)
                  split (inl e) = at (get_or ks j Empty) e (held-store j (op_of p j) (get_or ks j Empty) z)
                  split (inr e) = itself e.0

          -- an argument's kind is as it was, or its call waits
          passed : (f c n : ℕ) (u u' : Kind) → marked cb f c ≡ true → Le (kind_in ks (argument L p n c)) u → Le u u' → Busy [] (q ++ users) c ⊎ Le (kind_in new (argument L p n c)) u'
          passed f c n u u' m h l = go (opnd_steady ks i k (argument L p n c))
            where
              go : (kind_in new (argument L p n c) ≡ kind_in ks (argument L p n c)) ⊎ (Insn i ≡ argument L p n c) → Busy [] (q ++ users) c ⊎ Le (kind_in new (argument L p n c)) u'
              go (inl e) = inr (subst (λ (x : Kind). Le x u') (sym e) (le_trans K h l))
              go (inr e) = inl (user c (placed f c m) (listed_used (op_of p c) (Insn i) (at_place (about (op_of p c)).listed n i (sym e))))

          three : {c x : ℕ} {A : Type 0} → Busy [] (q ++ users) c ⊎ A → Busy [] (q ++ users) c ⊎ (Busy [] (q ++ users) x ⊎ A)
          three (inl b) = inl b
          three (inr a) = inr (inr a)

          argued : (f c x : ℕ) → marked cb f c ≡ true → x ∈ parameters p f → Busy (i ∷ []) q c ⊎ (Busy (i ∷ []) q x ⊎ Le (kind_in ks (argument L p (place_of L p x) c)) (get_or ks x Empty))
              → Busy [] (q ++ users) c ⊎ (Busy [] (q ++ users) x ⊎ Le (kind_in new (argument L p (place_of L p x) c)) (get_or new x Empty))
          argued f c x m n (inl (inl z)) = at (own.args f x (subst (λ (y : ℕ). marked cb f y ≡ true) (∈-one z) m) n)
            where
              at : (x ∈ q) ⊎ Le (kind_in ks (argument L p (place_of L p x) i)) (get_or ks x Empty) → Busy [] (q ++ users) c ⊎ (Busy [] (q ++ users) x ⊎ Le (kind_in new (argument L p (place_of L p x) c)) (get_or new x Empty))
              at (inl w) = inr (inl (there x w))
              at (inr w) = three (passed f c (place_of L p x) (get_or ks x Empty) (get_or new x Empty) m (subst (λ (y : ℕ). Le (kind_in ks (argument L p (place_of L p x) y)) (get_or ks x Empty)) (sym (∈-one z)) w) (up x))
          argued f c x m n (inl (inr z)) = inl (there c z)
          argued f c x m n (inr (inl (inl z))) =
              three (passed f c (place_of L p x) k (get_or new x Empty) m
              (subst (λ (y : ℕ). Le (kind_in ks (argument L p (place_of L p y) c)) k) (sym (∈-one z)) (own.param f c m (subst (λ (y : ℕ). y ∈ parameters p f) (∈-one z) n)))
              (subst (λ (y : ℕ). Le k (get_or new y Empty)) (sym (∈-one z)) (rw now (le_refl K k))))
          argued f c x m n (inr (inl (inr z))) = inr (inl (there x z))
          argued f c x m n (inr (inr h)) = three (passed f c (place_of L p x) (get_or ks x Empty) (get_or new x Empty) m h (up x))

          -- a returned kind is as it was, or the return waits
          given : (c x : ℕ) (v : Opnd) (u u' : Kind) → op_of p x ≡ Ends (Return v) → Placed p live x → Le (kind_in ks v) u → Le u u' → Busy [] (q ++ users) c ⊎ (Busy [] (q ++ users) x ⊎ Le (kind_in new v) u')
          given c x v u u' e h w l = go (opnd_steady ks i k v)
            where
              go : (kind_in new v ≡ kind_in ks v) ⊎ (Insn i ≡ v) → Busy [] (q ++ users) c ⊎ (Busy [] (q ++ users) x ⊎ Le (kind_in new v) u')
              go (inl z) = inr (inr (subst (λ (y : Kind). Le y u') (sym z) (le_trans K w l)))
              go (inr z) = inr (inl (user x h (subst (λ (o : Op). Insn i ∈ (about o).operands) (sym e) (Memᴰ.head z))))

          returned : (c x : ℕ) (v : Opnd) → marked cb (function_of p x) c ≡ true → op_of p x ≡ Ends (Return v) → Placed p live x → Busy (i ∷ []) q c ⊎ (Busy (i ∷ []) q x ⊎ Le (kind_in ks v) (get_or ks c Empty))
              → Busy [] (q ++ users) c ⊎ (Busy [] (q ++ users) x ⊎ Le (kind_in new v) (get_or new c Empty))
          returned c x v m e h (inl (inl z)) =
              given c x v k (get_or new c Empty) e h (own.call x v (subst (λ (y : ℕ). marked cb (function_of p x) y ≡ true) (∈-one z) m) e h.within) (subst (λ (y : ℕ). Le k (get_or new y Empty)) (sym (∈-one z)) (rw now (le_refl K k)))
          returned c x v m e h (inl (inr z)) = inl (there c z)
          returned c x v m e h (inr (inl (inl z))) = at (own.ret v c (subst (λ (y : ℕ). op_of p y ≡ Ends (Return v)) (∈-one z) e) (subst (λ (y : ℕ). marked cb (function_of p y) c ≡ true) (∈-one z) m))
            where
              at : (c ∈ q) ⊎ Le (kind_in ks v) (get_or ks c Empty) → Busy [] (q ++ users) c ⊎ (Busy [] (q ++ users) x ⊎ Le (kind_in new v) (get_or new c Empty))
              at (inl w) = inl (there c w)
              at (inr w) = given c x v (get_or ks c Empty) (get_or new c Empty) e h w (up c)
          returned c x v m e h (inr (inl (inr z))) = inr (inl (there x z))
          returned c x v m e h (inr (inr w)) = given c x v (get_or ks c Empty) (get_or new c Empty) e h w (up c)
