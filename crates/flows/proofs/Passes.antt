-- The two passes come to the same over operands as they come and over their set. Assumes nothing.
use Rattle.std.specs.Prelude.{Ok as Of, Err as Refused}
use mathlib.Core.Bool.{Bool as 𝔹, true, false, not, cond, ◌&&◌, ◌||◌}
use mathlib.Core.Path.{◌≡◌, refl, sym, ap, ◌∙◌}
use mathlib.Core.List.{List, [], ◌∷◌}
use Prim.Native.Nat.{ℕ, min}
use native.Mathlib.Omega.{arith}
use borrow.Author.Tests.{ltb-true, ltb-false}
use lib.Dec.{ltb}
use lib.Bits.{bit_or}
use Rattle.ids.proofs.Bits.{Either, yes, no, either}
use Rattle.kinds.specs.declared.Kind.{Kind}
use Rattle.kinds.specs.Kinds.{same_kind, is_empty, is_any, is_name, is_number, is_truth}
use Rattle.refusals.specs.declared.Refusal.TheVariants.{KindsClash}
use Rattle.kinds.specs.Union.{Joined, set_of, wide, is_alone, mix_of, lub, union_of, join_of}
use Rattle.kinds.proofs.Lub.{lub_comm, lub_assoc, lub_idem, lub_mix, lub-full}
use Rattle.kinds.proofs.Laws.{union_no, union_comm, union-plain, lub-plain}
use Rattle.rules.specs.Program.{Opnd, Const, Insn, same_opnd, opnd_before}
use Rattle.rules.specs.Machine.{insert_opnd, opnd_set}
use Rattle.machine.specs.opnds.Reads.{kind_in}
use Rattle.flows.specs.Tally.{Tally, Nothing, One, Many, lower, least, before, solid, add, take, taken_all}
use Rattle.flows.proofs.Order.{same-is, same_self, same_turn}

-- ---- the first pass

abbrev low : 𝔹 → ℕ → ℕ → ℕ
low t j a = cond (t && ltb j a) j a

low-min : (j a : ℕ) → cond (ltb j a) j a ≡ min j a
low-min j a = go (either (ltb j a))
  where
    go : Either (ltb j a) → cond (ltb j a) j a ≡ min j a
    go (yes h) = rw h (let g = ltb-true j a h in omega arith)
    go (no h) = rw h (let g = ltb-false j a h in omega arith)

low_swap : (s t : 𝔹) (i j a : ℕ) → low t j (low s i a) ≡ low s i (low t j a)
low_swap true true i j a = rw (low-min i a, low-min j a) (low-min j (min i a) ∙ (omega arith) ∙ sym (low-min i (min j a)))
low_swap true false i j a = refl
low_swap false t i j a = refl

low_twice : (t : 𝔹) (j a : ℕ) → low t j (low t j a) ≡ low t j a
low_twice true j a = rw (low-min j a) (low-min j (min j a) ∙ omega arith)
low_twice false j a = refl

module _ (ks : List Kind) where
  lower_swap : (a : ℕ) (v w : Opnd) → lower ks (lower ks a v) w ≡ lower ks (lower ks a w) v
  lower_swap a (Const k) w = refl
  lower_swap a (Insn i) (Const k) = refl
  lower_swap a (Insn i) (Insn j) = low_swap (is_any (kind_in ks (Insn i))) (is_any (kind_in ks (Insn j))) i j a

  lower_twice : (a : ℕ) (v : Opnd) → lower ks (lower ks a v) v ≡ lower ks a v
  lower_twice a (Const k) = refl
  lower_twice a (Insn i) = low_twice (is_any (kind_in ks (Insn i))) i a

  least_insert : (a : ℕ) (v : Opnd) (l : List Opnd) → least ks a (insert_opnd v l) ≡ least ks (lower ks a v) l
  unfolding least
  least_insert a v [] = refl
  least_insert a v (w ∷ l) = go (same_opnd v w) refl (opnd_before v w) (least_insert (lower ks a w) v l)
    where
      go : (x : 𝔹) → same_opnd v w ≡ x → (y : 𝔹) → least ks (lower ks a w) (insert_opnd v l) ≡ least ks (lower ks (lower ks a w) v) l
          → least ks a (elim x [ true ↦ w ∷ l | false ↦ elim y [ true ↦ v ∷ w ∷ l | false ↦ w ∷ insert_opnd v l ] ]) ≡ least ks (lower ks (lower ks a v) w) l
      go true e y ih = rw (same-is v w e) (ap (λ (b : ℕ). least ks b l) (sym (lower_twice a w)))
      go false e true ih = refl
      go false e false ih = ih ∙ ap (λ (b : ℕ). least ks b l) (lower_swap a w v)

  pub least-set : (a : ℕ) (l : List Opnd) → least ks a (opnd_set l) ≡ least ks a l
  unfolding least
  least-set a [] = refl
  least-set a (v ∷ l) = least_insert a v (opnd_set l) ∙ least-set (lower ks a v) l

-- ---- unions of kinds that are neither Empty nor Any

pub record Solid (k : Kind) : Type 0 where
  pub full : is_empty k ≡ false
  pub some : is_any k ≡ false

solid-is : (ks : List Kind) (k : Kind) → solid ks k ≡ true → Solid k
solid-is ks k h = go (is_empty k) (is_any k) refl refl h
  where
    go : (a b : 𝔹) → is_empty k ≡ a → is_any k ≡ b → (not a && not b) ≡ true → Solid k
    go true b e f g = record { full = cc; some = cc }
    go false true e f g = record { full = cc; some = cc }
    go false false e f g = record { full = e; some = f }

wide-some : (n t : 𝔹) (s : ℕ) → is_any (wide false n t s) ≡ false
wide-some true t s = refl
wide-some false true s = refl
wide-some false false s = refl

module _ (u a : Kind) (p : Solid u) (r : Solid a) where
  solid_no : is_name u ≡ true → union_of u a ≡ Refused KindsClash
  solid_no h = union_no u a (rw (p.some, r.some, p.full, r.full, h))

  solid_never : is_name a ≡ true → union_of u a ≡ Refused KindsClash
  solid_never h = union_comm u a ∙ union_no a u (rw (r.some, p.some, r.full, p.full, h))

  solid-lub : is_name u ≡ false → is_name a ≡ false → Solid (lub u a)
  unfolding mix_of
  solid-lub h g = record { full = lub-full u a p.full; some = ap is_any (lub_mix u a p.full r.full) ∙ go (same_kind u a) }
    where
      go : (x : 𝔹) → is_any (cond x u (wide (is_alone u || is_alone a) (is_number u && is_number a) (is_truth u && is_truth a) (bit_or (set_of u) (set_of a)))) ≡ false
      go true = p.some
      go false = rw (h, p.some, g, r.some) (wide-some (is_number u && is_number a) (is_truth u && is_truth a) (bit_or (set_of u) (set_of a)))

abbrev pub SolidIn : Joined → Type 0
SolidIn (Of k) = Solid k
SolidIn (Refused n) = Unit {0}

union-solid : (u a : Kind) → Solid u → Solid a → SolidIn (union_of u a)
union-solid u a p r = go (either (is_name u)) (either (is_name a))
  where
    go : Either (is_name u) → Either (is_name a) → SolidIn (union_of u a)
    go (yes h) g = rw (solid_no u a p r h) tt
    go (no h) (yes g) = rw (solid_never u a p r g) tt
    go (no h) (no g) = rw (union-plain u a h g) (solid-lub u a p r h g)

union_swap : (u a b : Kind) → Solid u → Solid a → Solid b → join_of (union_of u a) b ≡ join_of (union_of u b) a
union_swap u a b p q r = go (either (is_name u)) (either (is_name a)) (either (is_name b))
  where
    go : Either (is_name u) → Either (is_name a) → Either (is_name b) → join_of (union_of u a) b ≡ join_of (union_of u b) a
    go (yes h) x y = rw (solid_no u a p q h, solid_no u b p r h)
    go (no h) (yes x) (yes y) = rw (solid_never u a p q x, solid_never u b p r y)
    go (no h) (yes x) (no y) = rw (solid_never u a p q x, union-plain u b h y) (sym (solid_never (lub u b) a (solid-lub u b p r h y) q x))
    go (no h) (no x) (yes y) = rw (union-plain u a h x, solid_never u b p r y) (solid_never (lub u a) b (solid-lub u a p q h x) r y)
    go (no h) (no x) (no y) =
        rw (union-plain u a h x, union-plain u b h y)
        (union-plain (lub u a) b (lub-plain u a h x) y
        ∙ ap Of (lub_assoc u a b ∙ ap (lub u) (lub_comm a b) ∙ sym (lub_assoc u b a))
        ∙ sym (union-plain (lub u b) a (lub-plain u b h y) x))

union_twice : (u a : Kind) → Solid u → Solid a → join_of (union_of u a) a ≡ union_of u a
union_twice u a p r = go (either (is_name u)) (either (is_name a))
  where
    go : Either (is_name u) → Either (is_name a) → join_of (union_of u a) a ≡ union_of u a
    go (yes h) g = rw (solid_no u a p r h)
    go (no h) (yes g) = rw (solid_never u a p r g)
    go (no h) (no g) =
        rw (union-plain u a h g)
        (union-plain (lub u a) a (lub-plain u a h g) g ∙ ap Of (lub_assoc u a a ∙ ap (lub u) (lub_idem a)))

-- ---- the second pass

module _ (ks : List Kind) where
  abbrev kind : Opnd → Kind
  kind o = kind_in ks o

  abbrev Fine : Tally → Type 0
  Fine Nothing = Unit {0}
  Fine (One w j) = Solid j × (j ≡ kind w)
  Fine (Many j) = SolidIn j

  join-solid : (j : Joined) (k : Kind) → SolidIn j → Solid k → SolidIn (join_of j k)
  join-solid (Of u) k p r = union-solid u k p r
  join-solid (Refused n) k p r = tt

  add_fine : (t : Tally) (o : Opnd) → Fine t → Solid (kind o) → Fine (add ks t o)
  add_fine Nothing o f s = (s, refl)
  add_fine (One w j) o f s = go (same_opnd o w)
    where
      go : (x : 𝔹) → Fine (cond x (One w j) (Many (union_of j (kind o))))
      go true = f
      go false = union-solid j (kind o) f.0 s
  add_fine (Many j) o f s = join-solid j (kind o) f s

  add_swap : (t : Tally) (v w : Opnd) → Fine t → Solid (kind v) → Solid (kind w) → add ks (add ks t v) w ≡ add ks (add ks t w) v
  add_swap Nothing v w f p r = go (either (same_opnd w v))
    where
      go : Either (same_opnd w v) → add ks (One v (kind v)) w ≡ add ks (One w (kind w)) v
      go (yes e) = rw (same-is w v e)
      go (no e) = rw (e, same_turn v w ∙ e) (ap Many (union_comm (kind v) (kind w)))
  add_swap (One x j) v w f p r = go (either (same_opnd v x)) (either (same_opnd w x))
    where
      go : Either (same_opnd v x) → Either (same_opnd w x) → add ks (add ks (One x j) v) w ≡ add ks (add ks (One x j) w) v
      go (yes e) (yes g) = rw (e, g) (rw e)
      go (yes e) (no g) =
          rw (e, g) (ap Many (sym (ap (join_of (union_of j (kind w))) (ap kind (same-is v x e) ∙ sym f.1)
          ∙ ap (λ (y : Joined). join_of y j) (union_comm j (kind w)) ∙ union_twice (kind w) j r f.0 ∙ union_comm (kind w) j)))
      go (no e) (yes g) =
          rw (e, g) (rw e (ap Many (ap (join_of (union_of j (kind v))) (ap kind (same-is w x g) ∙ sym f.1)
          ∙ ap (λ (y : Joined). join_of y j) (union_comm j (kind v)) ∙ union_twice (kind v) j p f.0 ∙ union_comm (kind v) j)))
      go (no e) (no g) = rw (e, g) (ap Many (union_swap j (kind v) (kind w) f.0 p r))
  add_swap (Many (Of u)) v w f p r = ap Many (union_swap u (kind v) (kind w) f p r)
  add_swap (Many (Refused n)) v w f p r = refl

  add_twice : (t : Tally) (v : Opnd) → Fine t → Solid (kind v) → add ks (add ks t v) v ≡ add ks t v
  add_twice Nothing v f p = rw (same_self v)
  add_twice (One x j) v f p = go (either (same_opnd v x))
    where
      go : Either (same_opnd v x) → add ks (add ks (One x j) v) v ≡ add ks (One x j) v
      go (yes e) = rw e (rw e)
      go (no e) = rw e (ap Many (union_twice j (kind v) f.0 p))
  add_twice (Many (Of u)) v f p = ap Many (union_twice u (kind v) f p)
  add_twice (Many (Refused n)) v f p = refl

  module _ (a : ℕ) where
    abbrev counts : Opnd → 𝔹
    counts o = before ks a o && solid ks (kind o)

    counts-solid : (o : Opnd) → counts o ≡ true → Solid (kind o)
    counts-solid o h = solid-is ks (kind o) (go (before ks a o) h)
      where
        go : (b : 𝔹) → (b && solid ks (kind o)) ≡ true → solid ks (kind o) ≡ true
        go true e = e
        go false e = cc

    take-yes : (t : Tally) (o : Opnd) → counts o ≡ true → take ks a t o ≡ add ks t o
    unfolding take
    take-yes t o h = rw h

    take_no : (t : Tally) (o : Opnd) → counts o ≡ false → take ks a t o ≡ t
    unfolding take
    take_no t o h = rw h

    take_fine : (t : Tally) (o : Opnd) → Fine t → Fine (take ks a t o)
    take_fine t o f = go (either (counts o))
      where
        go : Either (counts o) → Fine (take ks a t o)
        go (yes h) = rw (take-yes t o h) (add_fine t o f (counts-solid o h))
        go (no h) = rw (take_no t o h) f

    take_swap : (t : Tally) (v w : Opnd) → Fine t → take ks a (take ks a t v) w ≡ take ks a (take ks a t w) v
    take_swap t v w f = go (either (counts v)) (either (counts w))
      where
        go : Either (counts v) → Either (counts w) → take ks a (take ks a t v) w ≡ take ks a (take ks a t w) v
        go (no h) g = ap (λ (x : Tally). take ks a x w) (take_no t v h) ∙ sym (take_no (take ks a t w) v h)
        go (yes h) (no g) = take_no (take ks a t v) w g ∙ ap (λ (x : Tally). take ks a x v) (sym (take_no t w g))
        go (yes h) (yes g) =
            take-yes (take ks a t v) w g ∙ ap (λ (x : Tally). add ks x w) (take-yes t v h) ∙ add_swap t v w f (counts-solid v h) (counts-solid w g)
            ∙ ap (λ (x : Tally). add ks x v) (sym (take-yes t w g)) ∙ sym (take-yes (take ks a t w) v h)

    take_twice : (t : Tally) (v : Opnd) → Fine t → take ks a (take ks a t v) v ≡ take ks a t v
    take_twice t v f = go (either (counts v))
      where
        go : Either (counts v) → take ks a (take ks a t v) v ≡ take ks a t v
        go (no h) = take_no (take ks a t v) v h
        go (yes h) =
            take-yes (take ks a t v) v h ∙ ap (λ (x : Tally). add ks x v) (take-yes t v h) ∙ add_twice t v f (counts-solid v h) ∙ sym (take-yes t v h)

    take_insert : (t : Tally) (v : Opnd) (l : List Opnd) → Fine t → taken_all ks a t (insert_opnd v l) ≡ taken_all ks a (take ks a t v) l
    unfolding taken_all
    take_insert t v [] f = refl
    take_insert t v (w ∷ l) f = go (same_opnd v w) refl (opnd_before v w) (take_insert (take ks a t w) v l (take_fine t w f))
      where
        go : (x : 𝔹) → same_opnd v w ≡ x → (y : 𝔹) → taken_all ks a (take ks a t w) (insert_opnd v l) ≡ taken_all ks a (take ks a (take ks a t w) v) l
            → taken_all ks a t (elim x [ true ↦ w ∷ l | false ↦ elim y [ true ↦ v ∷ w ∷ l | false ↦ w ∷ insert_opnd v l ] ]) ≡ taken_all ks a (take ks a (take ks a t v) w) l
        go true e y ih = rw (same-is v w e) (ap (λ (b : Tally). taken_all ks a b l) (sym (take_twice t w f)))
        go false e true ih = refl
        go false e false ih = ih ∙ ap (λ (b : Tally). taken_all ks a b l) (take_swap t w v f)

    take-set-from : (t : Tally) (l : List Opnd) → Fine t → taken_all ks a t (opnd_set l) ≡ taken_all ks a t l
    unfolding taken_all
    take-set-from t [] f = refl
    take-set-from t (v ∷ l) f = take_insert t v (opnd_set l) f ∙ take-set-from (take ks a t v) l (take_fine t v f)

    pub take-set : (l : List Opnd) → taken_all ks a Nothing (opnd_set l) ≡ taken_all ks a Nothing l
    take-set l = take-set-from Nothing l tt
