-- The operands of Returns: those of a function, and that they fit. Assumes nothing.
use mathlib.Core.Bool.{Bool as 𝔹, true, false, ◌&&◌}
use mathlib.Core.Option.{Option, none, some}
use mathlib.Core.Path.{◌≡◌, refl, sym, ap, subst, ◌∙◌}
use mathlib.Core.List.{List, [], ◌∷◌, ◌++◌, map}
use Prim.Native.Nat.{ℕ, zero, suc, ◌+◌, ◌*◌, ◌≤◌}
use native.Mathlib.Omega.{arith}
use borrow.Author.Tests.{ltb-true, ltb-false}
use lib.Dec.{eqb, ltb}
use lib.ListN.{length, get_or, drop, drop_of_length-le, get_or-eq_default}
use lib.Seq.{drop-cons}
use Rattle.ids.proofs.Bits.{Either, yes, no, either}
use Rattle.kinds.specs.declared.Kind.TheVariants.{Empty, Nil}
use Rattle.rules.specs.Lists.{has, cons_if, places_from, to_list, concat}
use Rattle.rules.specs.Program as P
use Rattle.rules.specs.Program.{Limits, Program, Instruction, Op, Ends, Send, Compute, Phi, Param, SelfParam, New, GetIvar, SetIvar, Return, IfTrue, Jump, about, op_of, function_at, returned, returns}
use Rattle.rules.specs.Finished.{Finished}
use Rattle.program.specs.declared.Op.{Op as Sort}
use Rattle.program.specs.declared.Op.TheVariants as S
use Rattle.program.specs.declared.Row.{Row}
use Rattle.program.specs.declared.Opnd.{Opnd}
use Rattle.program.specs.declared.Opnd.TheVariants.{Const}
use Rattle.program.specs.declared.Counts.{Counts}
use Rattle.program.specs.Rows.{opnd_of, opnds_in, op_in, nth}
use Rattle.program.specs.View.{program_view, ReadsInsn}
use Rattle.program.proofs.Areas.{given-length}
use Rattle.chains.specs.Chains.{returns_of}
use Rattle.program.specs.Layout.{opnds_at}
use Rattle.flows.specs.Tally.{FitsAt, TallyFits}
use Rattle.flows.proofs.Sounds.{good-at, operands-good}
use Rattle.flows.specs.returning.Returning.{Returns, ReturnGives, ReturnSound}

-- ---- returned

returned_in : (s : List ℕ) (o : Sort) (l : List P.Opnd) (v : P.Opnd) → returned (op_in s o l) ≡ some v → nth l 0 ≡ v
returned_in s (S.Jump b) l v h = cc
returned_in s (S.IfTrue b e) l v h = cc
returned_in s S.Return l v h = cc
returned_in s (S.SendStatic f) l v h = cc
returned_in s (S.SendDynamic m) l v h = cc
returned_in s (S.Compute o) l v h = cc
returned_in s (S.Phi b e) l v h = cc
returned_in s (S.Param k) l v h = cc
returned_in s (S.SelfParam c) l v h = cc
returned_in s (S.New c) l v h = cc
returned_in s (S.GetIvar m) l v h = cc
returned_in s (S.SetIvar m) l v h = cc

module _ (m : List ℕ) (c : Counts) (j : ℕ) {x : Row} (d : ReadsInsn m c j x) where
  abbrev given : List P.Opnd
  given = map opnd_of (opnds_in m (opnds_at + 2 * x.first) x.count)

  first-is : (s : List ℕ) (o : P.Opnd) → returned (op_of (program_view s m c) j) ≡ some o → nth given 0 ≡ o
  first-is s o h = returned_in s x.op given o (ap (λ (y : Instruction). returned y.op) (sym (d.is s)) ∙ h)

  pub returned-some : {r : Opnd} → opnd_of r ≡ nth given 0 → Returns m c j r
  returned-some e = record { is = λ s o h. e ∙ first-is s o h }

  pub returned_none : x.count ≤ 0 → Returns m c j (Const Nil)
  returned_none h = record { is = λ s o g. sym (get_or-eq_default given (P.Const Nil) {n = 0} (let k = given-length m (opnds_at + 2 * x.first) x.count in omega arith)) ∙ first-is s o g }

-- ---- the Returns of a function

module _ (p : Program) where
  gives_nothing : ReturnGives p [] []
  unfolding ReturnGives
  gives_nothing = tt

  pub gives_none : (l : List P.Opnd) → ReturnGives p [] l → l ≡ []
  unfolding ReturnGives
  gives_none [] g = refl
  gives_none (o ∷ l) g = absurd g

  pub record First (j : ℕ) (l : List ℕ) (os : List P.Opnd) : Type 0 where
    pub opnd : P.Opnd
    pub rest : List P.Opnd
    pub is : os ≡ opnd ∷ rest
    pub told : returned (op_of p j) ≡ some opnd
    pub gives : ReturnGives p l rest

  pub gives_first : (j : ℕ) (l : List ℕ) (os : List P.Opnd) → ReturnGives p (j ∷ l) os → First j l os
  unfolding ReturnGives
  gives_first j l [] g = absurd g
  gives_first j l (o ∷ os) g = record { opnd = o; rest = os; is = refl; told = g.0; gives = g.1 }

  module _ (f : ℕ) where
    abbrev Of : Instruction → 𝔹
    Of x = eqb (function_at p x.block) f && has (returned x.op)

    abbrev its : Instruction → List P.Opnd
    its x = elim (eqb (function_at p x.block) f) [ true ↦ to_list (returned x.op) | false ↦ [] ]

    gives_one : (k : ℕ) (b : 𝔹) (r : Option P.Opnd) (l : List ℕ) (os : List P.Opnd) → returned (op_of p k) ≡ r → ReturnGives p l os
        → ReturnGives p (cons_if (b && has r) k l) ((elim b [ true ↦ to_list r | false ↦ [] ]) ++ os)
    unfolding ReturnGives
    gives_one k true none l os e g = g
    gives_one k true (some o) l os e g = (e, g)
    gives_one k false r l os e g = g

    gives_from : (n k : ℕ) → length p.instructions ≤ k + n → ReturnGives p (places_from k Of (drop k p.instructions)) (concat (map its (drop k p.instructions)))
    gives_from zero k h = rw (drop_of_length-le p.instructions {i = k} (omega arith)) gives_nothing
    gives_from (suc n) k h = go (either (ltb k (length p.instructions))) (gives_from n (suc k) (omega arith))
      where
        go : Either (ltb k (length p.instructions)) → ReturnGives p (places_from (suc k) Of (drop (suc k) p.instructions)) (concat (map its (drop (suc k) p.instructions)))
            → ReturnGives p (places_from k Of (drop k p.instructions)) (concat (map its (drop k p.instructions)))
        go (yes g) ih =
            rw (drop-cons p.instructions k (record { block = 0; op = New 0 }) (ltb-true k (length p.instructions) g))
            (gives_one k (eqb (function_at p (P.block_of p k)) f) (returned (op_of p k)) _ _ refl ih)
        go (no g) ih = rw (drop_of_length-le p.instructions {i = k} (ltb-false k (length p.instructions) g)) gives_nothing

    pub gives_all : ReturnGives p (returns_of p f) (returns p f)
    unfolding returns_of returns
    gives_all = gives_from (length p.instructions) 0 (omega arith)

-- ---- operands in range

pub append_fits : (n : ℕ) (l k : List P.Opnd) → TallyFits n l → TallyFits n k → TallyFits n (l ++ k)
append_fits n [] k f g = g
append_fits n (o ∷ l) k f g = (f.0, append_fits n l k f.1 g)

gives_fits : (p : Program) (n : ℕ) → ReturnSound p n → (l : List ℕ) (os : List P.Opnd) → ReturnGives p l os → TallyFits n os
unfolding ReturnGives
gives_fits p n h [] [] g = tt
gives_fits p n h [] (o ∷ os) g = absurd g
gives_fits p n h (j ∷ l) [] g = absurd g
gives_fits p n h (j ∷ l) (o ∷ os) g = (h.fits j o g.0, gives_fits p n h l os g.1)

pub returns-fit : (p : Program) (n : ℕ) → ReturnSound p n → (l : List ℕ) → TallyFits n (concat (map (returns p) l))
returns-fit p n h [] = tt
returns-fit p n h (f ∷ l) = append_fits n (returns p f) (concat (map (returns p) l)) (gives_fits p n h (returns_of p f) (returns p f) (gives_all p f)) (returns-fit p n h l)

returned-first : (o : Op) (v : P.Opnd) → returned o ≡ some v → get_or (about o).operands 0 (P.Const Empty) ≡ v
returned-first (Ends (Jump b)) v h = cc
returned-first (Ends (IfTrue w t e)) v h = cc
returned-first (Ends (Return w)) v h = cc
returned-first (Send c l) v h = cc
returned-first (Compute o w y) v h = cc
returned-first (Phi b w c y) v h = cc
returned-first (Param k) v h = cc
returned-first (SelfParam c) v h = cc
returned-first (New c) v h = cc
returned-first (GetIvar m r) v h = cc
returned-first (SetIvar m r w) v h = cc

-- of a finished program
pub sound_of : (L : Limits) (p : Program) → Finished L p → ReturnSound p (length p.instructions)
sound_of L p r = record { fits = λ j o h. go j o h (either (ltb j (length p.instructions))) }
  where
    go : (j : ℕ) (o : P.Opnd) → returned (op_of p j) ≡ some o → Either (ltb j (length p.instructions)) → FitsAt (length p.instructions) o
    go j o h (yes g) =
        let lt = ltb-true j (length p.instructions) g in
        subst (FitsAt (length p.instructions)) (returned-first (op_of p j) o h)
        (good-at p (length p.instructions) j (about (op_of p j)).operands 0 lt (operands-good p j (r.instructions j lt)))
    go j o h (no g) =
        let e = ap (λ (x : Instruction). returned x.op) (get_or-eq_default p.instructions (record { block = 0; op = New 0 }) {n = j} (ltb-false j (length p.instructions) g)) in
        let z : none ≡ some o = sym e ∙ h in
        let y : P.Const Nil ≡ o = cc in
        subst (FitsAt (length p.instructions)) y refl
