-- The kind that a rule gives is the least above all that flows to its instruction. Assumes nothing.
use Prim.Native.Nat.{ℕ, ◌≤◌, ◌<◌}
use native.Mathlib.Omega.{arith}
use mathlib.Core.Path.{◌≡◌, refl, sym, ap, ◌∙◌, subst}
use mathlib.Core.Logic.{◌⊎◌, inl, inr}
use mathlib.Core.Bool.{Bool as 𝔹, true, false, true≢false, false≢true}
use mathlib.Core.Option.{some}
use mathlib.Core.List.Memᴰ
use mathlib.Core.List.{List, [], ◌∷◌, map}
use lib.ListN.{length, get_or, get_or-eq_default}
use Rattle.ids.specs.Sets.{members_of}
use Rattle.kinds.specs.declared.Kind.{Kind}
use Rattle.kinds.specs.declared.Kind.TheVariants.{Empty, Nil, Num, Truth, Fun, Class, Int, Bool, Objects, Any}
use Rattle.std.specs.Prelude.{Ok}
use Rattle.kinds.specs.Union.{lub, union_all}
use Rattle.rules.specs.Actions.{answered, fold}
use Rattle.rules.specs.Lists.{places}
use Rattle.rules.specs.Values.{classes_in}
use Rattle.rules.specs.Program.{Limits, Name, Opnd, Const, Insn, Program, same_opnd, opnd_before, function_of, ivar_named, returns}
use Rattle.rules.specs.Machine.{State, marked, kind_of, insert_opnd, opnd_set, callers_of, place_of, argument, flows_back, flows_in, get_ivar}
use Rattle.rules.proofs.Exactness.Sums.{◌∈◌, not_in_none, ∈-cons, ∈-map, map-∈, ∈-concat, concat-∈, ∈-places, places-∈, less_or, eqb-true}
use Rattle.rules.proofs.Exactness.Laws.{Le, Fine, Laws, wide_classes, le_trans, le_refl, le_empty, join-left, join-right, join_le, is_join}
use Rattle.rules.proofs.Exactness.Answers.{answer, after, get_ivar-is}
use Rattle.rules.proofs.Exactness.Grow.{kind_in, kind-is, ivar_at}

abbrev pub FineOpnd : ℕ → ℕ → Opnd → Type 0
FineOpnd C F (Const k) = Fine C F k
FineOpnd C F (Insn i) = Unit {0}

-- an entry of a row is within it
pub row_in : (row : List 𝔹) (i : ℕ) → get_or row i false ≡ true → i < length row
row_in row i e = go (less_or i (length row))
  where
    go : (i < length row) ⊎ (length row ≤ i) → i < length row
    go (inl h) = h
    go (inr h) = absurd (true≢false (sym e ∙ get_or-eq_default row false h))

-- what a marked row and column say
pub marked_row : (t : List (List 𝔹)) (f i : ℕ) → marked t f i ≡ true → f ∈ places (λ row. get_or row i false) t
marked_row t f i e = ∈-places [] (λ (row : List 𝔹). get_or row i false) t f (go (less_or f (length t))) e
  where
    go : (f < length t) ⊎ (length t ≤ f) → f < length t
    go (inl h) = h
    go (inr h) = absurd (true≢false (sym e ∙ ap (λ (row : List 𝔹). get_or row i false) (get_or-eq_default t [] h)))

pub row-marked : (t : List (List 𝔹)) (f i : ℕ) → f ∈ places (λ row. get_or row i false) t → marked t f i ≡ true
row-marked t f i m = (places-∈ [] (λ (row : List 𝔹). get_or row i false) t f m).1

pub marked-place : (t : List (List 𝔹)) (f c : ℕ) → marked t f c ≡ true → c ∈ places (λ b. b) (get_or t f [])
marked-place t f c e = ∈-places false (λ (b : 𝔹). b) (get_or t f []) c (row_in (get_or t f []) c e) e

pub place-marked : (t : List (List 𝔹)) (f c : ℕ) → c ∈ places (λ b. b) (get_or t f []) → marked t f c ≡ true
place-marked t f c m = (places-∈ false (λ (b : 𝔹). b) (get_or t f []) c m).1

-- the classes of an object kind
pub wide_is : (k : Kind) (c : ℕ) → classes_in k ≡ some c → wide_classes k ≡ members_of c
wide_is Empty c e = absurd (let z : ◌≡◌ {A = ℕ} 0 1 = cc in omega arith)
wide_is Nil c e = absurd (let z : ◌≡◌ {A = ℕ} 0 1 = cc in omega arith)
wide_is (Num n) c e = absurd (let z : ◌≡◌ {A = ℕ} 0 1 = cc in omega arith)
wide_is (Truth t) c e = absurd (let z : ◌≡◌ {A = ℕ} 0 1 = cc in omega arith)
wide_is (Fun f) c e = absurd (let z : ◌≡◌ {A = ℕ} 0 1 = cc in omega arith)
wide_is (Class d) c e = absurd (let z : ◌≡◌ {A = ℕ} 0 1 = cc in omega arith)
wide_is Int c e = absurd (let z : ◌≡◌ {A = ℕ} 0 1 = cc in omega arith)
wide_is Bool c e = absurd (let z : ◌≡◌ {A = ℕ} 0 1 = cc in omega arith)
wide_is (Objects s) c e = let q : s ≡ c = cc in ap members_of q
wide_is Any c e = absurd (let z : ◌≡◌ {A = ℕ} 0 1 = cc in omega arith)

module _ {C F : ℕ} (K : Laws C F) where
  -- ---- a set of operands has the members of the list

  same_opnd_lem : (v w : Opnd) → same_opnd v w ≡ true → v ≡ w
  same_opnd_lem (Const a) (Const b) e = ap Const (K.same a b e)
  same_opnd_lem (Const a) (Insn j) e = absurd (false≢true e)
  same_opnd_lem (Insn i) (Const b) e = absurd (false≢true e)
  same_opnd_lem (Insn i) (Insn j) e = ap Insn (eqb-true i j e)

  insert_in : (v : Opnd) (l : List Opnd) → v ∈ insert_opnd v l
  insert_in v [] = Memᴰ.head refl
  insert_in v (w ∷ l) = go (same_opnd v w) refl (opnd_before v w) (insert_in v l)
    where
      go : (a : 𝔹) → same_opnd v w ≡ a → (b : 𝔹) → v ∈ insert_opnd v l → v ∈ elim a [ true ↦ w ∷ l | false ↦ elim b [ true ↦ v ∷ w ∷ l | false ↦ w ∷ insert_opnd v l ] ]
      go true e b ih = Memᴰ.head (same_opnd_lem v w e)
      go false e true ih = Memᴰ.head refl
      go false e false ih = Memᴰ.tail ih

  insert_keeps : (v x : Opnd) (l : List Opnd) → x ∈ l → x ∈ insert_opnd v l
  insert_keeps v x [] m = not_in_none m
  insert_keeps v x (w ∷ l) m = go (same_opnd v w) (opnd_before v w) (λ n. insert_keeps v x l n)
    where
      go : (a b : 𝔹) → (x ∈ l → x ∈ insert_opnd v l) → x ∈ elim a [ true ↦ w ∷ l | false ↦ elim b [ true ↦ v ∷ w ∷ l | false ↦ w ∷ insert_opnd v l ] ]
      go true b ih = m
      go false true ih = Memᴰ.tail m
      go false false ih = ∈-cons (λ z. z ∈ w ∷ insert_opnd v l) (Memᴰ.head refl) (λ n. Memᴰ.tail (ih n)) m

  insert_only : (v x : Opnd) (l : List Opnd) → x ∈ insert_opnd v l → x ∈ v ∷ l
  insert_only v x [] m = m
  insert_only v x (w ∷ l) m = go (same_opnd v w) (opnd_before v w) m (λ n. insert_only v x l n)
    where
      swap : x ∈ v ∷ l → x ∈ v ∷ w ∷ l
      swap n = ∈-cons (λ z. z ∈ v ∷ w ∷ l) (Memᴰ.head refl) (λ k. Memᴰ.tail (Memᴰ.tail k)) n

      go : (a b : 𝔹) → x ∈ elim a [ true ↦ w ∷ l | false ↦ elim b [ true ↦ v ∷ w ∷ l | false ↦ w ∷ insert_opnd v l ] ] → (x ∈ insert_opnd v l → x ∈ v ∷ l) → x ∈ v ∷ w ∷ l
      go true b n ih = Memᴰ.tail n
      go false true n ih = n
      go false false n ih = ∈-cons (λ z. z ∈ v ∷ w ∷ l) (Memᴰ.tail (Memᴰ.head refl)) (λ k. swap (ih k)) n

  ∈-opndSet : (x : Opnd) (l : List Opnd) → x ∈ l → x ∈ opnd_set l
  ∈-opndSet x [] m = not_in_none m
  ∈-opndSet x (v ∷ l) m = go (Memᴰ.cases_cons m) (λ n. ∈-opndSet x l n)
    where
      go : (x ≡ v) ⊎ (x ∈ l) → (x ∈ l → x ∈ opnd_set l) → x ∈ insert_opnd v (opnd_set l)
      go (inl e) ih = rw e (insert_in v (opnd_set l))
      go (inr n) ih = insert_keeps v x (opnd_set l) (ih n)

  opnd_set-∈ : (x : Opnd) (l : List Opnd) → x ∈ opnd_set l → x ∈ l
  opnd_set-∈ x [] m = m
  opnd_set-∈ x (v ∷ l) m = ∈-cons (λ z. z ∈ v ∷ l) (Memᴰ.head refl) (λ n. Memᴰ.tail (opnd_set-∈ x l n)) (insert_only v x (opnd_set l) m)

  -- ---- the union of operands' kinds

  pub record Least (ks : List Kind) (In : Opnd → Type 0) (k : Kind) : Type 0 where
    pub above : (v : Opnd) → In v → Le (kind_in ks v) k
    pub least : (u : Kind) → ((v : Opnd) → In v → Le (kind_in ks v) u) → Le k u

  pub joined-opnds : (s : State) (l : List Opnd) (k : Kind) → union_all Empty (map (kind_of s) l) ≡ Ok k → Least s.kinds (λ v. v ∈ l) k
  joined-opnds s l k e =
      let j = is_join K Empty (map (kind_of s) l) k e in
      record {
        above = λ v m. rw (← kind-is s v) (j.above (kind_of s v) (∈-map (kind_of s) l m));
        least = λ u h. j.least u (le_empty K u) (λ x m. let a = map-∈ (kind_of s) l m in rw (a.2, kind-is s a.0) (h a.0 a.1));
      }

  pub kind_fine : (ks : List Kind) → ((i : ℕ) → Fine C F (get_or ks i Empty)) → (v : Opnd) → FineOpnd C F v → Fine C F (kind_in ks v)
  kind_fine ks h (Const k) f = f
  kind_fine ks h (Insn i) f = h i

  pub joined_fine : (s : State) (l : List Opnd) (k : Kind) → union_all Empty (map (kind_of s) l) ≡ Ok k → ((i : ℕ) → Fine C F (get_or s.kinds i Empty)) → ((v : Opnd) → v ∈ l → FineOpnd C F v) → Fine C F k
  joined_fine s l k e h f =
      (is_join K Empty (map (kind_of s) l) k e).fine K.fine_empty (λ x m. let a = map-∈ (kind_of s) l m in rw (a.2, kind-is s a.0) (kind_fine s.kinds h a.0 (f a.0 a.1)))

  module _ (L : Limits) (p : Program) where
    -- what has flowed back to a call
    abbrev pub Back : State → ℕ → Opnd → Type 0
    Back s i v = (f : ℕ) × (marked s.called_by f i ≡ true) × (v ∈ returns p f)

    pub back_in : (s : State) (i : ℕ) (v : Opnd) → Back s i v → v ∈ flows_back L p s i
    unfolding flows_back
    back_in s i v (f, m, n) = ∈-opndSet v _ (∈-concat (map (returns p) (places (λ row. get_or row i false) s.called_by)) (∈-map (returns p) (places (λ row. get_or row i false) s.called_by) (marked_row s.called_by f i m)) n)

    pub in_back : (s : State) (i : ℕ) (v : Opnd) → v ∈ flows_back L p s i → Back s i v
    unfolding flows_back
    in_back s i v m =
        let a = concat-∈ (map (returns p) (places (λ row. get_or row i false) s.called_by)) (opnd_set-∈ v _ m) in
        let b = map-∈ (returns p) (places (λ row. get_or row i false) s.called_by) a.1 in
        (b.0, row-marked s.called_by b.0 i b.1, subst (λ (l : List Opnd). v ∈ l) b.2 a.2)

    -- what has flowed to a Param
    abbrev pub Given : State → ℕ → Opnd → Type 0
    Given s x v = (c : ℕ) × (marked s.called_by (function_of p x) c ≡ true) × (v ≡ argument L p (place_of L p x) c)

    pub given_in : (s : State) (x : ℕ) (v : Opnd) → Given s x v → v ∈ flows_in L p s x
    unfolding flows_in
    given_in s x v (c, m, e) = rw e (∈-opndSet (argument L p (place_of L p x) c) _ (∈-map (argument L p (place_of L p x)) (callers_of L p s (function_of p x)) (marked-place s.called_by (function_of p x) c m)))

    pub in_given : (s : State) (x : ℕ) (v : Opnd) → v ∈ flows_in L p s x → Given s x v
    unfolding flows_in
    in_given s x v m =
        let a = map-∈ (argument L p (place_of L p x)) (callers_of L p s (function_of p x)) (opnd_set-∈ v _ m) in
        (a.0, place-marked s.called_by (function_of p x) a.0 a.1, a.2)

    -- what a read has met
    pub record Read (n : Name) (k : Kind) (cs : List ℕ) (s : State) (r : Kind × State) : Type 0 where
      pub state : r.1 ≡ s
      pub start : Le k r.0
      pub above : (c a : ℕ) → c ∈ cs → ivar_named p c n ≡ some a → Le (ivar_at s.ivar_kinds c a) r.0
      pub least : (u : Kind) → Le k u → ((c a : ℕ) → c ∈ cs → ivar_named p c n ≡ some a → Le (ivar_at s.ivar_kinds c a) u) → Le r.0 u
      pub fine : Fine C F k → ((c a : ℕ) → Fine C F (ivar_at s.ivar_kinds c a)) → Fine C F r.0

    some_inj : {a b : ℕ} → some a ≡ some b → a ≡ b
    some_inj e = cc

    pub read : (n : Name) (k : Kind) (cs : List ℕ) (s : State) (r : Kind × State) → fold (get_ivar L p n) k cs s ≡ answered r → Read n k cs s r
    read n k [] s r e =
        let q : ◌≡◌ {A = Kind × State} (k, s) r = answer e in
        rw (← q) (record { state = refl; start = le_refl K k; above = λ c a m. not_in_none m; least = λ u h g. h; fine = λ h g. h })
    read n k (c ∷ cs) s r e =
        let a = after (get_ivar L p n k c s) _ e in
        let g = get_ivar-is L p n k c s a.1 in
        step a.0.0 g.0 g.1 (K.union k (ivar_at s.ivar_kinds c g.0) a.0.0 g.2) (read n a.0.0 cs s r (subst (λ (t : State). fold (get_ivar L p n) a.0.0 cs t ≡ answered r) g.3 a.2))
      where
        step : (w : Kind) (x : ℕ) → ivar_named p c n ≡ some x → w ≡ lub k (ivar_at s.ivar_kinds c x) → Read n w cs s r → Read n k (c ∷ cs) s r
        step w x h q z = record {
          state = z.state;
          start = le_trans K (rw q (join-left K k (ivar_at s.ivar_kinds c x))) z.start;
          above = λ d y m f. ∈-cons (λ d. ivar_named p d n ≡ some y → Le (ivar_at s.ivar_kinds d y) r.0) (λ f. rw (some_inj (sym f ∙ h)) (le_trans K (rw q (join-right K k (ivar_at s.ivar_kinds c x))) z.start)) (λ m f. z.above d y m f) m f;
          least = λ u i g. z.least u (rw q (join_le K i (g c x (Memᴰ.head refl) h))) (λ d y m f. g d y (Memᴰ.tail m) f);
          fine = λ i g. z.fine (rw q (K.fine_lub k _ i (g c x))) g;
        }
