-- The steps of a pass, over the code's tallies. Assumes nothing.
use Rattle.std.specs.Prelude.{Ok as Of}
use mathlib.Core.Bool.{Bool as 𝔹, true, false, cond, ◌&&◌}
use mathlib.Core.Path.{◌≡◌, refl, sym, ap, ◌∙◌}
use mathlib.Core.List.{List, [], ◌∷◌, ◌++◌}
use Prim.Native.Nat.{ℕ, ◌≤◌, ◌<◌}
use borrow.Author.Tests.{lt-ltb, le-ltb}
use lib.Dec.{ltb}
use Rattle.ids.specs.declared.InsnId.{InsnId}
use Rattle.kinds.specs.declared.Kind.{Kind}
use Rattle.kinds.specs.declared.Kind.TheVariants.{Empty, Any}
use Rattle.kinds.specs.Kinds.{is_empty, is_any}
use Rattle.kinds.specs.Union.{Joined, union_of, join_of}
use Rattle.rules.specs.Program as P
use Rattle.program.specs.declared.Opnd.{Opnd}
use Rattle.program.specs.declared.Opnd.TheVariants.{Insn}
use Rattle.program.specs.Rows.{opnd_of}
use Rattle.program.proofs.Operands.{one_opnd, two_opnds}
use Rattle.machine.specs.opnds.Reads.{kind_in}
use Rattle.flows.specs.declared.Tally.{Tally as Told}
use Rattle.flows.specs.declared.Tally.TheVariants.{Nothing as None, One as Single, Many as Several}
use Rattle.flows.specs.declared.Pass.{Pass}
use Rattle.flows.specs.Tally.{Tally, One, Many, lower, least, before, solid, add, take, taken_all, close, finish}
use Rattle.flows.specs.Flows.{tally_of, TallyAdds, Passed}

pub before_insn : (a : ℕ) {o : Opnd} (i : InsnId) → o ≡ Insn i → ltb i.0 a ≡ before [] a (opnd_of o)
before_insn a i e = rw e

module _ {t : Told} (k : Kind) (o : Opnd) where
  pub add_first : t ≡ None → TallyAdds t k o (Single o k)
  add_first e = record { is = λ ks h. rw e (ap (One (opnd_of o)) h) }

  pub add_same : {w : Opnd} {j : Kind} → t ≡ Single w j → o ≡ w → TallyAdds t k o (Single w j)
  add_same {w} e h = record { is = λ ks x. rw (e, one_opnd o w h) }

  pub add_other : {w : Opnd} {j : Kind} {r : Joined} → t ≡ Single w j → (o ≡ w → ⊥) → r ≡ union_of j k → TallyAdds t k o (Several r)
  add_other {w} {j} e h u = record { is = λ ks x. rw (e, two_opnds o w h) (ap Many (u ∙ ap (union_of j) x)) }

  pub add_more : {j r : Joined} → t ≡ Several j → r ≡ join_of j k → TallyAdds t k o (Several r)
  add_more {j} e u = record { is = λ ks x. rw e (ap Many (u ∙ ap (join_of j) x)) }

-- ---- take

before-any : (ks : List Kind) (a : ℕ) (o : P.Opnd) → before ks a o ≡ before [] a o
before-any ks a (P.Const k) = refl
before-any ks a (P.Insn i) = refl

module _ (ks : List Kind) (a : ℕ) (t : Told) (o : Opnd) {b : 𝔹} (eb : b ≡ before [] a (opnd_of o)) where
  pub take_none : b ≡ false → tally_of t ≡ take ks a (tally_of t) (opnd_of o)
  unfolding take
  take_none h = rw (before-any ks a (opnd_of o) ∙ sym eb ∙ h)

  module _ {k : Kind} (ek : k ≡ kind_in ks (opnd_of o)) {x : 𝔹} (ex : x ≡ is_empty k) where
    pub take_void : x ≡ true → tally_of t ≡ take ks a (tally_of t) (opnd_of o)
    unfolding take
    take_void h = go (before ks a (opnd_of o))
      where
        go : (y : 𝔹) → tally_of t ≡ cond (y && solid ks (kind_in ks (opnd_of o))) (add ks (tally_of t) (opnd_of o)) (tally_of t)
        go true = rw (ap is_empty (sym ek) ∙ sym ex ∙ h)
        go false = refl

    pub take_any : {y : 𝔹} → y ≡ is_any k → x ≡ false → y ≡ true → tally_of t ≡ take ks a (tally_of t) (opnd_of o)
    unfolding take
    take_any ey h g = go (before ks a (opnd_of o))
      where
        go : (y : 𝔹) → tally_of t ≡ cond (y && solid ks (kind_in ks (opnd_of o))) (add ks (tally_of t) (opnd_of o)) (tally_of t)
        go true = rw (ap is_empty (sym ek) ∙ sym ex ∙ h, ap is_any (sym ek) ∙ sym ey ∙ g)
        go false = refl

    pub take_it : {r : Told} {y : 𝔹} → y ≡ is_any k → b ≡ true → x ≡ false → y ≡ false → TallyAdds t k o r
        → tally_of r ≡ take ks a (tally_of t) (opnd_of o)
    unfolding take
    take_it ey hb h g f = rw (before-any ks a (opnd_of o) ∙ sym eb ∙ hb, ap is_empty (sym ek) ∙ sym ex ∙ h, ap is_any (sym ek) ∙ sym ey ∙ g) (f.is ks ek)

-- ---- a pass

pub pass_both : (ks : List Kind) (x : Pass) (o : Opnd) {a : ℕ} {r : Told} → a ≡ lower ks x.least (opnd_of o) → tally_of r ≡ take ks x.bound (tally_of x.tally) (opnd_of o)
    → Passed ks (opnd_of o ∷ []) x (record { bound = x.bound; least = a; tally = r })
unfolding least taken_all
pass_both ks x o e h = record { same = refl; lowest = e; told = h }

pub passed_none : (ks : List Kind) (x : Pass) → Passed ks [] x x
unfolding least taken_all
passed_none ks x = record { same = refl; lowest = refl; told = refl }

least_append : (ks : List Kind) (a : ℕ) (l k : List P.Opnd) → least ks a (l ++ k) ≡ least ks (least ks a l) k
unfolding least
least_append ks a [] k = refl
least_append ks a (o ∷ l) k = least_append ks (lower ks a o) l k

take_append : (ks : List Kind) (a : ℕ) (t : Tally) (l k : List P.Opnd) → taken_all ks a t (l ++ k) ≡ taken_all ks a (taken_all ks a t l) k
unfolding taken_all
take_append ks a t [] k = refl
take_append ks a t (o ∷ l) k = take_append ks a (take ks a t o) l k

pub passed_append : (ks : List Kind) (l k : List P.Opnd) (x y w : Pass) → Passed ks l x y → Passed ks k y w → Passed ks (l ++ k) x w
passed_append ks l k x y w p r = record {
  same = r.same ∙ p.same;
  lowest = r.lowest ∙ ap (λ (a : ℕ). least ks a k) p.lowest ∙ sym (least_append ks x.least l k);
  told =
      r.told ∙ ap (λ (b : ℕ). taken_all ks b (tally_of y.tally) k) p.same ∙ ap (λ (t : Tally). taken_all ks x.bound t k) p.told
      ∙ sym (take_append ks x.bound (tally_of x.tally) l k);
}

-- ---- the end

pub close_none : {t : Told} → t ≡ None → Of Empty ≡ close [] (tally_of t)
close_none e = rw e

pub close_one : {t : Told} {o : Opnd} {k : Kind} → t ≡ Single o k → Of k ≡ close [] (tally_of t)
close_one e = rw e

pub finish_any : (n a : ℕ) (t : Told) {j r : Joined} → j ≡ close [] (tally_of t) → a < n → r ≡ join_of j Any → r ≡ finish [] n a (tally_of t)
finish_any n a t e lt h = rw (lt-ltb a n lt, h, e)

pub finish_all : (n a : ℕ) (t : Told) {j : Joined} → j ≡ close [] (tally_of t) → n ≤ a → j ≡ finish [] n a (tally_of t)
finish_all n a t e le = rw (le-ltb a n le) e
