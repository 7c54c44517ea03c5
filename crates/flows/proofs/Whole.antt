-- The two passes come to the union of the set of the operands in the reference's order. Assumes nothing.
use Rattle.std.specs.Prelude.{Ok as Of, Err as Refused}
use mathlib.Core.Bool.{Bool as 𝔹, true, false, cond, ◌&&◌}
use mathlib.Core.Path.{◌≡◌, refl, sym, ap, ◌∙◌}
use mathlib.Core.List.{List, [], ◌∷◌, map}
use Prim.Native.Nat.{ℕ, ◌<◌}
use native.Mathlib.Omega.{arith}
use borrow.Author.Tests.{lt-ltb, le-ltb, ltb-true}
use lib.Dec.{ltb}
use Rattle.ids.proofs.Bits.{Either, yes, no, either}
use Rattle.kinds.specs.declared.Kind.{Kind}
use Rattle.kinds.specs.declared.Kind.TheVariants.{Empty, Any}
use Rattle.kinds.specs.Kinds.{is_empty, is_any}
use Rattle.kinds.specs.Union.{Joined, and_then, join_of, union_all}
use Rattle.kinds.proofs.Laws.{union-any_r, union_empty_l, union_empty_r, all_cons, all_any}
use Rattle.kinds.proofs.Steps.{any-is, empty_is}
use Rattle.rules.specs.Program.{Opnd, Const, Insn, same_opnd, opnd_before}
use Rattle.rules.specs.Machine.{insert_opnd, opnd_set}
use Rattle.machine.specs.opnds.Reads.{kind_in}
use Rattle.flows.specs.Tally.{Tally, Nothing, One, Many, lower, least, before, solid, add, take, taken_all, close, finish, union_over, TallyFits}
use Rattle.flows.proofs.Order.{After, Rises, before-other, set-rises}
use Rattle.flows.proofs.Passes.{least-set, take-set}

-- ---- operands in range

module _ (n : ℕ) where
  insert_fits : (v : Opnd) (l : List Opnd) → TallyFits n (v ∷ l) → TallyFits n (insert_opnd v l)
  insert_fits v [] f = f
  insert_fits v (w ∷ l) f = go (same_opnd v w) (opnd_before v w) (insert_fits v l (f.0, f.1.1))
    where
      go : (x y : 𝔹) → TallyFits n (insert_opnd v l) → TallyFits n (elim x [ true ↦ w ∷ l | false ↦ elim y [ true ↦ v ∷ w ∷ l | false ↦ w ∷ insert_opnd v l ] ])
      go true y ih = f.1
      go false true ih = f
      go false false ih = (f.1.0, ih)

  set-fits : (l : List Opnd) → TallyFits n l → TallyFits n (opnd_set l)
  set-fits [] f = tt
  set-fits (v ∷ l) f = insert_fits v (opnd_set l) (f.0, set-fits l f.1)

module _ (ks : List Kind) where
  abbrev kind : Opnd → Kind
  kind o = kind_in ks o

  -- ---- behind an instruction

  lower_high : (i a : ℕ) (o : Opnd) → opnd_before (Insn i) o ≡ true → i < a → i < lower ks a o
  lower_high i a (Const k) h g = g
  lower_high i a (Insn j) h g = go (is_any (kind (Insn j)) && ltb j a)
    where
      go : (x : 𝔹) → i < cond x j a
      go true = ltb-true i j h
      go false = g

  least-high : (i a : ℕ) (l : List Opnd) → After (Insn i) l → i < a → i < least ks a l
  unfolding least
  least-high i a [] f g = g
  least-high i a (o ∷ l) f g = least-high i (lower ks a o) l f.1 (lower_high i a o f.0 g)

  lower-same : (i : ℕ) (o : Opnd) → opnd_before (Insn i) o ≡ true → lower ks i o ≡ i
  lower-same i (Const k) h = refl
  lower-same i (Insn j) h = go (is_any (kind (Insn j)))
    where
      go : (x : 𝔹) → cond (x && ltb j i) j i ≡ i
      go true = rw (le-ltb j i (let g = ltb-true i j h in omega arith))
      go false = refl

  least-same : (i : ℕ) (l : List Opnd) → After (Insn i) l → least ks i l ≡ i
  unfolding least
  least-same i [] f = refl
  least-same i (o ∷ l) f = ap (λ (a : ℕ). least ks a l) (lower-same i o f.0) ∙ least-same i l f.1

  take_past : (i : ℕ) (t : Tally) (o : Opnd) → before ks i o ≡ false → take ks i t o ≡ t
  unfolding take
  take_past i t o h = rw h

  after-past : (i : ℕ) (o : Opnd) → opnd_before (Insn i) o ≡ true → before ks i o ≡ false
  after-past i (Const k) h = cc
  after-past i (Insn j) h = le-ltb j i (let g = ltb-true i j h in omega arith)

  take_all-past : (i : ℕ) (t : Tally) (l : List Opnd) → After (Insn i) l → taken_all ks i t l ≡ t
  unfolding taken_all
  take_all-past i t [] f = refl
  take_all-past i t (o ∷ l) f = ap (λ (x : Tally). taken_all ks i x l) (take_past i t o (after-past i o f.0)) ∙ take_all-past i t l f.1

  -- ---- in order

  abbrev Past : Tally → List Opnd → Type 0
  Past Nothing l = Unit {0}
  Past (One w j) l = After w l
  Past (Many j) l = Unit {0}

  past_tail : (t : Tally) (o : Opnd) (l : List Opnd) → Past t (o ∷ l) → Past t l
  past_tail Nothing o l f = tt
  past_tail (One w j) o l f = f.1
  past_tail (Many j) o l f = tt

  abbrev rest : Tally → List Opnd → Joined
  rest t l = and_then (close ks t) (λ u. union_all u (map kind l))

  rest-any : (t : Tally) (o : Opnd) (l : List Opnd) → kind o ≡ Any → rest t (o ∷ l) ≡ join_of (close ks t) Any
  rest-any t o l e = go (close ks t)
    where
      go : (j : Joined) → and_then j (λ u. union_all u (kind o ∷ map kind l)) ≡ join_of j Any
      go (Of u) = all_cons u (kind o) (map kind l) ∙ rw (e, union-any_r u) (all_any (map kind l))
      go (Refused n) = refl

  rest_empty : (t : Tally) (o : Opnd) (l : List Opnd) → kind o ≡ Empty → rest t (o ∷ l) ≡ rest t l
  rest_empty t o l e = go (close ks t)
    where
      go : (j : Joined) → and_then j (λ u. union_all u (kind o ∷ map kind l)) ≡ and_then j (λ u. union_all u (map kind l))
      go (Of u) = all_cons u (kind o) (map kind l) ∙ rw (e, union_empty_r u)
      go (Refused n) = refl

  -- an operand that is taken joins the rest
  rest-add : (t : Tally) (o : Opnd) (l : List Opnd) → Past t (o ∷ l) → rest t (o ∷ l) ≡ rest (add ks t o) l
  rest-add Nothing o l f = all_cons Empty (kind o) (map kind l) ∙ rw (union_empty_l (kind o))
  rest-add (One w j) o l f = rw (before-other w o f.0) (all_cons j (kind o) (map kind l))
  rest-add (Many j) o l f = go j
    where
      go : (j : Joined) → and_then j (λ u. union_all u (kind o ∷ map kind l)) ≡ and_then (join_of j (kind o)) (λ u. union_all u (map kind l))
      go (Of u) = all_cons u (kind o) (map kind l)
      go (Refused n) = refl

  past-add : (t : Tally) (o : Opnd) (l : List Opnd) → Past t (o ∷ l) → After o l → Past (add ks t o) l
  past-add Nothing o l f g = g
  past-add (One w j) o l f g = rw (before-other w o f.0) tt
  past-add (Many j) o l f g = tt

  pub take_empty : (a : ℕ) (t : Tally) (o : Opnd) → kind o ≡ Empty → take ks a t o ≡ t
  unfolding take
  take_empty a t o e = go (before ks a o)
    where
      go : (b : 𝔹) → cond (b && solid ks (kind o)) (add ks t o) t ≡ t
      go true = rw e
      go false = refl

  module _ (n : ℕ) where
    abbrev both : Tally → List Opnd → Joined
    both t l = finish ks n (least ks n l) (taken_all ks (least ks n l) t l)

    take-here : (a : ℕ) (t : Tally) (o : Opnd) → before ks a o ≡ true → is_empty (kind o) ≡ false → is_any (kind o) ≡ false → take ks a t o ≡ add ks t o
    unfolding take
    take-here a t o h e f = rw (h, e, f)

    both-more : (t : Tally) (o : Opnd) (l : List Opnd) (s : Tally) → lower ks n o ≡ n → take ks (least ks n l) t o ≡ s → both t (o ∷ l) ≡ both s l
    unfolding least taken_all
    both-more t o l s e h =
        ap (λ (a : ℕ). finish ks n (least ks a l) (taken_all ks (least ks a l) (take ks (least ks a l) t o) l)) e
        ∙ ap (λ (x : Tally). finish ks n (least ks n l) (taken_all ks (least ks n l) x l)) h

    lower-none : (o : Opnd) → is_any (kind o) ≡ false → lower ks n o ≡ n
    lower-none (Const k) h = refl
    lower-none (Insn j) h = rw h

    before-least : (o : Opnd) (l : List Opnd) → TallyFits n (o ∷ l) → After o l → before ks (least ks n l) o ≡ true
    before-least (Const k) l f g = refl
    before-least (Insn i) l f g = lt-ltb i (least ks n l) (least-high i n l g f.0)

    both-any : (t : Tally) (o : Opnd) (l : List Opnd) → TallyFits n (o ∷ l) → After o l → is_any (kind o) ≡ true → both t (o ∷ l) ≡ join_of (close ks t) Any
    unfolding least taken_all
    both-any t (Const k) l f g h = let z = f.0 in cc
    both-any t (Insn i) l f g h =
        let e : lower ks n (Insn i) ≡ i = rw (h, lt-ltb i n f.0) in
        ap (λ (a : ℕ). finish ks n (least ks a l) (taken_all ks (least ks a l) (take ks (least ks a l) t (Insn i)) l)) e
        ∙ ap (λ (a : ℕ). finish ks n a (taken_all ks a (take ks a t (Insn i)) l)) (least-same i l g)
        ∙ ap (λ (x : Tally). finish ks n i (taken_all ks i x l)) (take_past i t (Insn i) (le-ltb i i (omega arith)))
        ∙ ap (λ (x : Tally). finish ks n i x) (take_all-past i t l g)
        ∙ rw (lt-ltb i n f.0)

    both_is : (l : List Opnd) (t : Tally) → Rises l → TallyFits n l → Past t l → both t l ≡ rest t l
    unfolding least taken_all union_all
    both_is [] t r f p = rw (le-ltb n n (omega arith)) (sym (go (close ks t)))
      where
        go : (j : Joined) → and_then j (λ u. Of u) ≡ j
        go (Of u) = refl
        go (Refused m) = refl
    both_is (o ∷ l) t r f p = go (either (is_any (kind o))) (either (is_empty (kind o))) (λ s y. both_is l s r.1 f.1 y)
      where
        go : Either (is_any (kind o)) → Either (is_empty (kind o)) → ((s : Tally) → Past s l → both s l ≡ rest s l) → both t (o ∷ l) ≡ rest t (o ∷ l)
        go (yes h) g ih = both-any t o l f r.0 h ∙ sym (rest-any t o l (any-is (kind o) h))
        go (no h) (yes g) ih =
            both-more t o l t (lower-none o h) (take_empty (least ks n l) t o (empty_is (kind o) g)) ∙ ih t (past_tail t o l p)
            ∙ sym (rest_empty t o l (empty_is (kind o) g))
        go (no h) (no g) ih =
            both-more t o l (add ks t o) (lower-none o h) (take-here (least ks n l) t o (before-least o l f r.0) g h)
            ∙ ih (add ks t o) (past-add t o l p r.0) ∙ sym (rest-add t o l p)

    -- the passes over operands as they come
    pub union-over : (l : List Opnd) → TallyFits n l → union_over ks n l ≡ union_all Empty (map kind (opnd_set l))
    unfolding union_over
    union-over l f =
        ap (λ (a : ℕ). finish ks n a (taken_all ks a Nothing l)) (sym (least-set ks n l))
        ∙ ap (finish ks n (least ks n (opnd_set l))) (sym (take-set ks (least ks n (opnd_set l)) l)) ∙ both_is (opnd_set l) Nothing (set-rises l) (set-fits n l f) tt
