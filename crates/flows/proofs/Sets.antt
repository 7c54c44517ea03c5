-- Where no kind is a name or Any, and one is a set, their union is the union of their classes, in any order. Assumes nothing.
use Rattle.std.specs.Prelude.{Ok as Of, Some as Set, None as Other}
use mathlib.Core.Bool.{Bool as 𝔹, true, false, cond, ◌||◌, or_self as or-self𝔹, or-false}
use mathlib.Core.Path.{◌≡◌, refl, sym, ap, ◌∙◌}
use mathlib.Core.List.{List, [], ◌∷◌, map}
use Prim.Native.Nat.{ℕ, ◌<◌}
use native.Mathlib.Omega.{arith}
use borrow.Author.Tests.{lt-ltb, le-ltb}
use lib.Bits.{bit_or, or_zero_l, or_zero_r, or_comm, or_self}
use Rattle.ids.proofs.Bits.{or_assoc, Either, yes, no, either}
use Rattle.kinds.specs.declared.Kind.{Kind}
use Rattle.kinds.specs.declared.Kind.TheVariants.{Empty, Nil, Num, Truth, Fun, Class, Int, Bool, Objects, Any}
use Rattle.kinds.specs.Kinds.{same_kind, is_empty, is_name, is_set, is_any}
use Rattle.kinds.specs.Union.{Joined, set_of, is_alone, mix_of, lub, union_of, join_of, union_all}
use Rattle.kinds.proofs.Lub.{lub_comm, lub_assoc}
use Rattle.kinds.proofs.Laws.{union-plain, union-sets, lub-plain}
use Rattle.kinds.proofs.Steps.{empty_is}
use Rattle.rules.specs.Program.{Opnd, Const, Insn, same_opnd}
use Rattle.rules.specs.Machine.{opnd_set}
use Rattle.rules.proofs.Wellformed.Tests.{or_false_lem as or_parts}
use Rattle.machine.specs.opnds.Reads.{kind_in}
use Rattle.flows.specs.Tally.{Tally, Nothing, One, Many, lower, least, before, add, take, taken_all, close, union_over, FitsAt, TallyFits}
use Rattle.kinds.specs.InWords.{AsSet, as_set}
use Rattle.flows.specs.Flows.{join_sets}
use Rattle.flows.proofs.Order.{same-is}
use Rattle.flows.proofs.Whole.{union-over, take_empty}

never : {A : Type 0} {u : ℕ} → Other ≡ Set u → A
never e = let z : ◌≡◌ {A = ℕ} 0 1 = cc in absurd (omega arith)

-- ---- one kind

-- neither a name nor Any
classes_are : (k : Kind) (u : ℕ) → as_set k ≡ Set u → (is_alone k ≡ false) × (u ≡ set_of k)
classes_are k u e = go (either (is_alone k))
  where
    go : Either (is_alone k) → (is_alone k ≡ false) × (u ≡ set_of k)
    go (yes p) = never (rw p at e)
    go (no p) = let z : Set (set_of k) ≡ Set u = rw p at e in (p, cc)

not-any : (k : Kind) (u : ℕ) → as_set k ≡ Set u → is_any k ≡ false
not-any k u e = (or_parts (is_name k) (is_any k) (classes_are k u e).0).1

set_is : (k : Kind) → is_set k ≡ true → k ≡ Objects (set_of k)
set_is Empty h = cc
set_is Nil h = cc
set_is (Num n) h = cc
set_is (Truth t) h = cc
set_is (Fun f) h = cc
set_is (Class c) h = cc
set_is Int h = cc
set_is Bool h = cc
set_is (Objects s) h = refl
set_is Any h = cc

sets-lub : (s x : ℕ) → lub (Objects s) (Objects x) ≡ Objects (bit_or s x)
sets-lub s x = let e : Of (lub (Objects s) (Objects x)) ≡ Of (Objects (bit_or s x)) = sym (union-plain (Objects s) (Objects x) refl refl) ∙ union-sets s x in cc

with_set : (k : Kind) (x : ℕ) → is_alone k ≡ false → is_empty k ≡ false → lub k (Objects x) ≡ Objects (bit_or (set_of k) x)
unfolding lub mix_of same_kind
with_set Empty x a e = cc
with_set Nil x a e = refl
with_set (Num n) x a e = refl
with_set (Truth t) x a e = refl
with_set (Fun f) x a e = cc
with_set (Class c) x a e = cc
with_set Int x a e = refl
with_set Bool x a e = refl
with_set (Objects s) x a e = sets-lub s x
with_set Any x a e = cc

-- ---- joined kinds: with a set among them (b) they are one, and if not, a set that joins them has their classes too

abbrev Absorbs : 𝔹 → Kind → ℕ → Type 0
Absorbs true j s = j ≡ Objects s
Absorbs false j s = (x : ℕ) → lub j (Objects x) ≡ Objects (bit_or s x)

one_absorbs : (k : Kind) → is_alone k ≡ false → is_empty k ≡ false → Absorbs (is_set k) k (set_of k)
one_absorbs k a e = go (either (is_set k))
  where
    go : Either (is_set k) → Absorbs (is_set k) k (set_of k)
    go (yes p) = rw p (set_is k p)
    go (no p) = rw p (λ x. with_set k x a e)

two_absorb : (b : 𝔹) (j k : Kind) (s : ℕ) → Absorbs b j s → is_alone k ≡ false → is_empty k ≡ false → Absorbs (b || is_set k) (lub j k) (bit_or s (set_of k))
two_absorb true j k s h a e = rw h (lub_comm (Objects s) k ∙ with_set k s a e ∙ ap Objects (or_comm (set_of k) s))
two_absorb false j k s h a e = go (either (is_set k))
  where
    go : Either (is_set k) → Absorbs (is_set k) (lub j k) (bit_or s (set_of k))
    go (yes p) = rw p (ap (lub j) (set_is k p) ∙ h (set_of k))
    go (no p) = rw p (λ x. lub_assoc j k (Objects x) ∙ ap (lub j) (with_set k x a e) ∙ h (bit_or (set_of k) x) ∙ ap Objects (sym (or_assoc s (set_of k) x)))

module _ (ks : List Kind) where
  abbrev kind : Opnd → Kind
  kind o = kind_in ks o

  lower-set : (a : ℕ) (o : Opnd) (u : ℕ) → as_set (kind o) ≡ Set u → lower ks a o ≡ a
  lower-set a (Const k) u e = refl
  lower-set a (Insn j) u e = rw (not-any (kind (Insn j)) u e)

  sets-least : (a : ℕ) (b : 𝔹) (s r : ℕ) (l : List Opnd) → join_sets ks b s l ≡ Set r → least ks a l ≡ a
  unfolding least join_sets
  sets-least a b s r [] h = refl
  sets-least a b s r (o ∷ l) h = go (as_set (kind o)) refl h (λ c d t. sets-least c d t r l)
    where
      go : (x : AsSet) → as_set (kind o) ≡ x → elim x [ Set t ↦ join_sets ks (b || is_set (kind o)) (bit_or s t) l | Other ↦ Other ] ≡ Set r
          → ((c : ℕ) (d : 𝔹) (t : ℕ) → join_sets ks d t l ≡ Set r → least ks c l ≡ c) → least ks (lower ks a o) l ≡ a
      go (Set u) e g ih = ap (λ (c : ℕ). least ks c l) (lower-set a o u e) ∙ ih a (b || is_set (kind o)) (bit_or s u) g
      go Other e g ih = never g

  -- a tally comes to the classes s, and has met a set (b)
  abbrev Holds : Tally → 𝔹 → ℕ → Type 0
  Holds Nothing b s = (b ≡ false) × (s ≡ 0)
  Holds (One w j) b s = (j ≡ kind w) × (is_alone j ≡ false) × (is_empty j ≡ false) × (b ≡ is_set j) × (s ≡ set_of j)
  Holds (Many m) b s = (j : Kind) × (m ≡ Of j) × (is_name j ≡ false) × Absorbs b j s

  fits-before : (n : ℕ) (o : Opnd) → FitsAt n o → before ks n o ≡ true
  fits-before n (Const k) f = refl
  fits-before n (Insn j) f = lt-ltb j n f

  take_one : (n : ℕ) (t : Tally) (o : Opnd) → FitsAt n o → is_empty (kind o) ≡ false → is_any (kind o) ≡ false → take ks n t o ≡ add ks t o
  unfolding take
  take_one n t o f e a = rw (fits-before n o f, e, a)

  add_holds : (b : 𝔹) (s : ℕ) (t : Tally) (o : Opnd) → is_alone (kind o) ≡ false → is_empty (kind o) ≡ false → Holds t b s → Holds (add ks t o) (b || is_set (kind o)) (bit_or s (set_of (kind o)))
  add_holds b s Nothing o a e h = rw (h.0, h.1, or_zero_l (set_of (kind o))) (refl, a, e, refl, refl)
  add_holds b s (One w j) o a e h = go (either (same_opnd o w))
    where
      go : Either (same_opnd o w) → Holds (cond (same_opnd o w) (One w j) (Many (union_of j (kind o)))) (b || is_set (kind o)) (bit_or s (set_of (kind o)))
      go (yes p) =
          let k : kind o ≡ j = ap kind (same-is o w p) ∙ sym h.0 in
          rw (p, k, h.3, h.4, or-self𝔹 (is_set j), or_self (set_of j)) (h.0, h.1, h.2, refl, refl)
      go (no p) =
          let m = (or_parts (is_name j) (is_any j) h.1).0 in
          let n = (or_parts (is_name (kind o)) (is_any (kind o)) a).0 in
          rw p (lub j (kind o), union-plain j (kind o) m n, lub-plain j (kind o) m n, rw (h.3, h.4) (two_absorb (is_set j) j (kind o) (set_of j) (one_absorbs j h.1 h.2) a e))
  add_holds b s (Many m) o a e h =
      let n = (or_parts (is_name (kind o)) (is_any (kind o)) a).0 in
      (lub h.0 (kind o), ap (λ (x : Joined). join_of x (kind o)) h.1 ∙ union-plain h.0 (kind o) h.2 n, lub-plain h.0 (kind o) h.2 n, two_absorb b h.0 (kind o) s h.3 a e)

  take-holds : (n : ℕ) (b : 𝔹) (s u : ℕ) (t : Tally) (o : Opnd) → FitsAt n o → as_set (kind o) ≡ Set u → Holds t b s → Holds (take ks n t o) (b || is_set (kind o)) (bit_or s u)
  take-holds n b s u t o f e h = go (either (is_empty (kind o)))
    where
      c : (is_alone (kind o) ≡ false) × (u ≡ set_of (kind o))
      c = classes_are (kind o) u e

      go : Either (is_empty (kind o)) → Holds (take ks n t o) (b || is_set (kind o)) (bit_or s u)
      go (yes p) = let k = empty_is (kind o) p in rw (take_empty ks n t o k, c.1, k, or_zero_r s, or-false b) h
      go (no p) = rw (take_one n t o f p (not-any (kind o) u e), c.1) (add_holds b s t o c.0 p h)

  holds-close : (t : Tally) (b : 𝔹) (s r : ℕ) → cond b s 0 ≡ r → 0 < r → Holds t b s → Of (Objects r) ≡ close ks t
  holds-close t false s r e lt h = absurd (omega arith)
  holds-close Nothing true s r e lt h = let z : ◌≡◌ {A = ℕ} 0 1 = cc in absurd (omega arith)
  holds-close (One w j) true s r e lt h = rw (sym e, h.4) (ap Of (sym (set_is j (sym h.3))))
  holds-close (Many m) true s r e lt h = rw (sym e) (sym (h.1 ∙ ap Of h.3))

  sets-take : (n : ℕ) (b : 𝔹) (s r : ℕ) (t : Tally) (l : List Opnd) → TallyFits n l → join_sets ks b s l ≡ Set r → Holds t b s → 0 < r → Of (Objects r) ≡ close ks (taken_all ks n t l)
  unfolding taken_all join_sets
  sets-take n b s r t [] f e h lt = holds-close t b s r (cc) lt h
  sets-take n b s r t (o ∷ l) f e h lt = go (as_set (kind o)) refl e (λ d a x i j. sets-take n d a r x l f.1 i j lt)
    where
      go : (x : AsSet) → as_set (kind o) ≡ x → elim x [ Set t ↦ join_sets ks (b || is_set (kind o)) (bit_or s t) l | Other ↦ Other ] ≡ Set r
          → ((d : 𝔹) (a : ℕ) (x : Tally) → join_sets ks d a l ≡ Set r → Holds x d a → Of (Objects r) ≡ close ks (taken_all ks n x l)) → Of (Objects r) ≡ close ks (taken_all ks n (take ks n t o) l)
      go (Set u) p g ih = ih (b || is_set (kind o)) (bit_or s u) (take ks n t o) g (take-holds n b s u t o f.0 p h)
      go Other p g ih = never g

  pub sets-union : (n s : ℕ) (l : List Opnd) → TallyFits n l → join_sets ks false 0 l ≡ Set s → 0 < s → Of (Objects s) ≡ union_all Empty (map kind (opnd_set l))
  unfolding union_over
  sets-union n s l f e lt =
      let a : least ks n l ≡ n = sets-least n false 0 s l e in
      let b : Of (Objects s) ≡ close ks (taken_all ks n Nothing l) = sets-take n false 0 s Nothing l f e (refl, refl) lt in
      let d : Of (Objects s) ≡ union_over ks n l = rw (a, le-ltb n n (omega arith)) b in
      d ∙ union-over ks n l f
