-- What is read off the machine's tables grows with them: the kind that a rule gives, and the blocks that an instruction leads to. Assumes nothing.
use Prim.Native.Nat.{ℕ}
use mathlib.Core.Path.{◌≡◌, refl, sym, ◌∙◌}
use mathlib.Core.Logic.{◌⊎◌, inl, inr}
use mathlib.Core.Bool.{Bool as 𝔹, true, false, false≢true}
use mathlib.Core.Option.{some}
use mathlib.Core.List.Memᴰ
use mathlib.Core.List.{List, [], ◌∷◌}
use lib.ListN.{get_or, set}
use Rattle.kinds.specs.declared.Kind.{Kind}
use Rattle.kinds.specs.declared.Kind.TheVariants.{Empty}
use Rattle.kinds.specs.Rules.{arith_total, admits}
use Rattle.rules.specs.Lists.{cons_if}
use Rattle.rules.specs.Values.{object}
use Rattle.rules.specs.Program.{Limits, Name, Opnd, Const, Insn, Terminator, Jump, IfTrue, Return, Static, Dynamic, Op, Ends, Send, Compute, Phi, Param, SelfParam, New, GetIvar, SetIvar, Program, op_of, function_of, entry, code, method_named, ivar_named, main_function, returns}
use Rattle.rules.specs.Machine.{State, set_kind, set_live, mark, marked, add_caller, set_ivar_kind, kind_of, place_of, argument}
use Rattle.rules.proofs.Exactness.Sums.{◌∈◌, ∈-cons, set_cases, rows_cases}
use Rattle.rules.proofs.Exactness.Laws.{Le, Laws, wide_classes, le_trans, le_refl}

-- ---- the tables

abbrev pub kind_in : List Kind → Opnd → Kind
kind_in ks (Const k) = k
kind_in ks (Insn i) = get_or ks i Empty

pub kind-is : (s : State) (v : Opnd) → kind_of s v ≡ kind_in s.kinds v
unfolding kind_of
kind-is s (Const k) = refl
kind-is s (Insn i) = refl

abbrev pub is_live : List 𝔹 → ℕ → 𝔹
is_live live b = get_or live b false

abbrev pub ivar_at : List (List Kind) → ℕ → ℕ → Kind
ivar_at iv c a = get_or (get_or iv c []) a Empty

pub record Up (s t : State) : Type 0 where
  pub kinds : (i : ℕ) → Le (get_or s.kinds i Empty) (get_or t.kinds i Empty)
  pub live : (b : ℕ) → is_live s.live b ≡ true → is_live t.live b ≡ true
  pub called : (f c : ℕ) → marked s.called_by f c ≡ true → marked t.called_by f c ≡ true
  pub ivars : (c a : ℕ) → Le (ivar_at s.ivar_kinds c a) (ivar_at t.ivar_kinds c a)

-- a table of tests after one is set
pub set-true : (l : List 𝔹) (i j : ℕ) → get_or l j false ≡ true → get_or (set l i true) j false ≡ true
set-true l i j h = go (set_cases false l i true j)
  where
    go : (get_or (set l i true) j false ≡ get_or l j false) ⊎ ((j ≡ i) × (get_or (set l i true) j false ≡ true)) → get_or (set l i true) j false ≡ true
    go (inl e) = e ∙ h
    go (inr e) = e.1

pub mark-true : (t : List (List 𝔹)) (a b a' b' : ℕ) → marked t a' b' ≡ true → marked (mark t a b) a' b' ≡ true
mark-true t a b a' b' h = go (rows_cases false t a b true a' b')
  where
    go : (marked (mark t a b) a' b' ≡ marked t a' b') ⊎ ((a' ≡ a) × (b' ≡ b) × (marked (mark t a b) a' b' ≡ true)) → marked (mark t a b) a' b' ≡ true
    go (inl e) = e ∙ h
    go (inr e) = e.2

pub mark_cases : (t : List (List 𝔹)) (a b a' b' : ℕ) → marked (mark t a b) a' b' ≡ true → (marked t a' b' ≡ true) ⊎ ((a' ≡ a) × (b' ≡ b))
mark_cases t a b a' b' h = go (rows_cases false t a b true a' b')
  where
    go : (marked (mark t a b) a' b' ≡ marked t a' b') ⊎ ((a' ≡ a) × (b' ≡ b) × (marked (mark t a b) a' b' ≡ true)) → (marked t a' b' ≡ true) ⊎ ((a' ≡ a) × (b' ≡ b))
    go (inl e) = inl (sym e ∙ h)
    go (inr e) = inr (e.0, e.1)

-- ---- where an instruction leads

abbrev pub arms_in : List Kind → Terminator → List ℕ
arms_in ks (Jump b) = b ∷ []
arms_in ks (IfTrue v t e) = cons_if (admits true (kind_in ks v)) t (cons_if (admits false (kind_in ks v)) e [])
arms_in ks (Return v) = []

module _ (p : Program) where
  -- t is the entry of the method n in a class of the receiver
  pub record Names (ks : List Kind) (r : Opnd) (n : Name) (t : ℕ) : Type 0 where
    pub class : ℕ
    pub method : ℕ
    pub member : class ∈ wide_classes (kind_in ks r)
    pub named : method_named p class n ≡ some method
    pub at : t ≡ entry p method

  -- the steps, with the classes of Any
  abbrev pub Leads : List Kind → Op → ℕ → Type 0
  Leads ks (Ends x) t = t ∈ arms_in ks x
  Leads ks (Send (Static f) l) t = t ≡ entry p f
  Leads ks (Send (Dynamic r n) l) t = Names ks r n t
  Leads ks (Compute o v w) t = ⊥
  Leads ks (Phi b v c w) t = ⊥
  Leads ks (Param n) t = ⊥
  Leads ks (SelfParam c) t = ⊥
  Leads ks (New c) t = ⊥
  Leads ks (GetIvar n r) t = ⊥
  Leads ks (SetIvar n r v) t = ⊥

  -- an instruction calls f at these kinds, with the classes of Any
  abbrev pub Calls : List Kind → Op → ℕ → Type 0
  Calls ks (Ends x) f = ⊥
  Calls ks (Send (Static g) l) f = f ≡ g
  Calls ks (Send (Dynamic r n) l) f = (c : ℕ) × (c ∈ wide_classes (kind_in ks r)) × (method_named p c n ≡ some f)
  Calls ks (Compute o v w) f = ⊥
  Calls ks (Phi b v c w) f = ⊥
  Calls ks (Param n) f = ⊥
  Calls ks (SelfParam c) f = ⊥
  Calls ks (New c) f = ⊥
  Calls ks (GetIvar n r) f = ⊥
  Calls ks (SetIvar n r v) f = ⊥

  pub data Reach (ks : List Kind) : ℕ → Type 0 where
    begin : Reach ks (entry p (main_function p))
    along : {b c : ℕ} (i : ℕ) → Reach ks b → i ∈ code p b → Leads ks (op_of p i) c → Reach ks c

-- ---- what a rule gives

module _ (L : Limits) (p : Program) where
  -- u is above all that flows to instruction i
  abbrev pub Above : List Kind → List 𝔹 → List (List 𝔹) → List (List Kind) → ℕ → Op → Kind → Type 0
  Above ks live cb iv i (Ends t) u = Unit {0}
  Above ks live cb iv i (Send c l) u = (f : ℕ) (v : Opnd) → marked cb f i ≡ true → v ∈ returns p f → Le (kind_in ks v) u
  Above ks live cb iv i (Compute o v w) u = Le (arith_total o (kind_in ks v) (kind_in ks w)) u
  Above ks live cb iv i (Phi b v c w) u = (is_live live b ≡ true → Le (kind_in ks v) u) × (is_live live c ≡ true → Le (kind_in ks w) u)
  Above ks live cb iv i (Param n) u = (c : ℕ) → marked cb (function_of p i) c ≡ true → Le (kind_in ks (argument L p (place_of L p i) c)) u
  Above ks live cb iv i (SelfParam c) u = Le (object c) u
  Above ks live cb iv i (New c) u = Le (object c) u
  Above ks live cb iv i (GetIvar n r) u = (c a : ℕ) → c ∈ wide_classes (kind_in ks r) → ivar_named p c n ≡ some a → Le (ivar_at iv c a) u
  Above ks live cb iv i (SetIvar n r v) u = Unit {0}

  abbrev pub AboveAt : State → ℕ → Op → Kind → Type 0
  AboveAt s i o u = Above s.kinds s.live s.called_by s.ivar_kinds i o u

  -- k is the kind that the rule gives
  pub record IsRule (s : State) (i : ℕ) (o : Op) (k : Kind) : Type 0 where
    pub above : AboveAt s i o k
    pub least : (u : Kind) → AboveAt s i o u → Le k u

module _ {C F : ℕ} (K : Laws C F) where
  abbrev pub KindsUp : List Kind → List Kind → Type 0
  KindsUp ks ks' = (i : ℕ) → Le (get_or ks i Empty) (get_or ks' i Empty)

  pub kind_mono : (ks ks' : List Kind) → KindsUp ks ks' → (v : Opnd) → Le (kind_in ks v) (kind_in ks' v)
  kind_mono ks ks' h (Const k) = le_refl K k
  kind_mono ks ks' h (Insn i) = h i

  pub up_refl : (s : State) → Up s s
  up_refl s = record { kinds = λ i. le_refl K _; live = λ b h. h; called = λ f c h. h; ivars = λ c a. le_refl K _ }

  pub up_trans : {s t u : State} → Up s t → Up t u → Up s u
  up_trans p q = record { kinds = λ i. le_trans K (p.kinds i) (q.kinds i); live = λ b h. q.live b (p.live b h); called = λ f c h. q.called f c (p.called f c h); ivars = λ c a. le_trans K (p.ivars c a) (q.ivars c a) }

  pub up_add_caller : (f c : ℕ) (s : State) → Up s (add_caller f c s)
  up_add_caller f c s = record { kinds = λ i. le_refl K _; live = λ b h. h; called = λ f' c' h. mark-true s.called_by f c f' c' h; ivars = λ c a. le_refl K _ }

  pub up_set_live : (b : ℕ) (s : State) → Up s (set_live b s)
  up_set_live b s = record { kinds = λ i. le_refl K _; live = λ b' h. set-true s.live b b' h; called = λ f c h. h; ivars = λ c a. le_refl K _ }

  pub up_set_kind : (i : ℕ) (k : Kind) (s : State) → Le (get_or s.kinds i Empty) k → Up s (set_kind i k s)
  up_set_kind i k s le = record { kinds = λ j. go j (set_cases Empty s.kinds i k j); live = λ b h. h; called = λ f c h. h; ivars = λ c a. le_refl K _ }
    where
      go : (j : ℕ) → (get_or (set s.kinds i k) j Empty ≡ get_or s.kinds j Empty) ⊎ ((j ≡ i) × (get_or (set s.kinds i k) j Empty ≡ k)) → Le (get_or s.kinds j Empty) (get_or (set s.kinds i k) j Empty)
      go j (inl e) = rw e (le_refl K _)
      go j (inr e) = rw (e.1, e.0) le

  pub up_set_ivar_kind : (c a : ℕ) (k : Kind) (s : State) → Le (ivar_at s.ivar_kinds c a) k → Up s (set_ivar_kind c a k s)
  up_set_ivar_kind c a k s le = record { kinds = λ j. le_refl K _; live = λ b h. h; called = λ f c h. h; ivars = λ c' a'. go c' a' (rows_cases Empty s.ivar_kinds c a k c' a') }
    where
      iv : List (List Kind)
      iv = set s.ivar_kinds c (set (get_or s.ivar_kinds c []) a k)

      go : (c' a' : ℕ) → (ivar_at iv c' a' ≡ ivar_at s.ivar_kinds c' a') ⊎ ((c' ≡ c) × (a' ≡ a) × (ivar_at iv c' a' ≡ k)) → Le (ivar_at s.ivar_kinds c' a') (ivar_at iv c' a')
      go c' a' (inl e) = rw e (le_refl K _)
      go c' a' (inr e) = rw (e.2, e.0, e.1) le

  module _ (L : Limits) (p : Program) where
    pub above_mono : (s t : State) → Up s t → (i : ℕ) (o : Op) (u : Kind) → AboveAt L p t i o u → AboveAt L p s i o u
    above_mono s t up i (Ends x) u h = tt
    above_mono s t up i (Send c l) u h = λ f v m n. le_trans K (kind_mono s.kinds t.kinds up.kinds v) (h f v (up.called f i m) n)
    above_mono s t up i (Compute o v w) u h = le_trans K (K.arith_mono o _ _ _ _ (kind_mono s.kinds t.kinds up.kinds v) (kind_mono s.kinds t.kinds up.kinds w)) h
    above_mono s t up i (Phi b v c w) u h = (λ m. le_trans K (kind_mono s.kinds t.kinds up.kinds v) (h.0 (up.live b m)), λ m. le_trans K (kind_mono s.kinds t.kinds up.kinds w) (h.1 (up.live c m)))
    above_mono s t up i (Param n) u h = λ c m. le_trans K (kind_mono s.kinds t.kinds up.kinds (argument L p (place_of L p i) c)) (h c (up.called _ c m))
    above_mono s t up i (SelfParam c) u h = h
    above_mono s t up i (New c) u h = h
    above_mono s t up i (GetIvar n r) u h = λ c a m e. le_trans K (up.ivars c a) (h c a (K.classes_mono _ _ c (kind_mono s.kinds t.kinds up.kinds r) m) e)
    above_mono s t up i (SetIvar n r v) u h = tt

    cons_if_mono : (a a' : 𝔹) (x : ℕ) (l l' : List ℕ) {t : ℕ} → (a ≡ true → a' ≡ true) → (t ∈ l → t ∈ l') → t ∈ cons_if a x l → t ∈ cons_if a' x l'
    cons_if_mono true true x l l' {t} h k m = ∈-cons (λ z. z ∈ x ∷ l') (Memᴰ.head refl) (λ e. Memᴰ.tail (k e)) m
    cons_if_mono true false x l l' h k m = absurd (false≢true (h refl))
    cons_if_mono false true x l l' h k m = Memᴰ.tail (k m)
    cons_if_mono false false x l l' h k m = k m

    arms_mono : (ks ks' : List Kind) → KindsUp ks ks' → (x : Terminator) {t : ℕ} → t ∈ arms_in ks x → t ∈ arms_in ks' x
    arms_mono ks ks' u (Jump b) m = m
    arms_mono ks ks' u (IfTrue v x y) m =
        let le = kind_mono ks ks' u v in
        cons_if_mono (admits true (kind_in ks v)) (admits true (kind_in ks' v)) x _ _ (K.admits_mono true _ _ le)
        (cons_if_mono (admits false (kind_in ks v)) (admits false (kind_in ks' v)) y [] [] (K.admits_mono false _ _ le) (λ z. z)) m
    arms_mono ks ks' u (Return v) m = m

    pub leads_mono : (ks ks' : List Kind) → KindsUp ks ks' → (o : Op) (t : ℕ) → Leads p ks o t → Leads p ks' o t
    leads_mono ks ks' u (Ends x) t m = arms_mono ks ks' u x m
    leads_mono ks ks' u (Send (Static f) l) t m = m
    leads_mono ks ks' u (Send (Dynamic r n) l) t m = record { class = m.class; method = m.method; member = K.classes_mono _ _ _ (kind_mono ks ks' u r) m.member; named = m.named; at = m.at }
    leads_mono ks ks' u (Compute o v w) t m = m
    leads_mono ks ks' u (Phi b v c w) t m = m
    leads_mono ks ks' u (Param n) t m = m
    leads_mono ks ks' u (SelfParam c) t m = m
    leads_mono ks ks' u (New c) t m = m
    leads_mono ks ks' u (GetIvar n r) t m = m
    leads_mono ks ks' u (SetIvar n r v) t m = m

    pub calls_mono : (ks ks' : List Kind) → KindsUp ks ks' → (o : Op) (f : ℕ) → Calls p ks o f → Calls p ks' o f
    calls_mono ks ks' u (Ends x) f m = m
    calls_mono ks ks' u (Send (Static g) l) f m = m
    calls_mono ks ks' u (Send (Dynamic r n) l) f m = (m.0, K.classes_mono _ _ _ (kind_mono ks ks' u r) m.1, m.2)
    calls_mono ks ks' u (Compute o v w) f m = m
    calls_mono ks ks' u (Phi b v c w) f m = m
    calls_mono ks ks' u (Param n) f m = m
    calls_mono ks ks' u (SelfParam c) f m = m
    calls_mono ks ks' u (New c) f m = m
    calls_mono ks ks' u (GetIvar n r) f m = m
    calls_mono ks ks' u (SetIvar n r v) f m = m

    pub reach_mono : {ks ks' : List Kind} → KindsUp ks ks' → {b : ℕ} → Reach p ks b → Reach p ks' b
    reach_mono u Reach.begin = Reach.begin
    reach_mono {ks} {ks'} u (Reach.along {c = c} i r m a) = Reach.along i (reach_mono u r) m (leads_mono ks ks' u (op_of p i) c a)
