-- A block's end is its last instruction's. Assumes nothing.
use mathlib.Core.Bool.{Bool as 𝔹, true, false}
use mathlib.Core.Option.{Option, none, some}
use mathlib.Core.Path.{◌≡◌, refl, sym, ap, ◌∙◌, subst}
use mathlib.Core.List.{List, [], ◌∷◌, map}
use Prim.Native.Nat.{ℕ, zero, suc, ◌+◌, ◌<◌}
use native.Mathlib.Omega.{arith}
use lib.Dec.{eqb}
use Rattle.std.specs.Prelude as R
use Rattle.std.specs.List.{last_or}
use Rattle.std.specs.Iterator.{Drains, YieldsFirstBy}
use Rattle.rules.specs.Lists.{final, has, cons_if}
use Rattle.rules.specs.Program as P
use Rattle.rules.specs.Program.{code, about, op_of, successors, returned_by}
use Rattle.rules.specs.Constructors.{end_of}
use Rattle.program.specs.Rows.{insn_at, op_in}
use Rattle.program.specs.View.{program_view}
use Rattle.program.specs.declared.Counts.{Counts}
use Rattle.program.specs.declared.Row.{Row}
use Rattle.program.specs.declared.Op.{Op}
use Rattle.program.specs.declared.Op.TheVariants as O
use Rattle.ids.specs.declared.InsnId.{InsnId}
use Rattle.program.proofs.Reading.{op-is}
use Rattle.chains.specs.Chains.{pick}
use Rattle.chains.specs.Left.{left}
use Rattle.chains.specs.declared.cells.Chain.{Chain}
use Rattle.chains.proofs.Remaining.{drained}
use Rattle.chains.proofs.Whole.{code_is}
use Rattle.constructors.specs.declared.Ends.{Ends}
use Rattle.constructors.specs.declared.Ends.TheVariants.{Open}
use Rattle.constructors.specs.Walks.{ends_from, targets, returning, Ended}

abbrev pub codes_of : List ℕ → ℕ → ℕ → List ℕ
codes_of m n b = pick (λ j. eqb (insn_at m j).block.0 b) 0 n

-- the last of a list, or a stand-in
abbrev pub final_or : ℕ → List ℕ → ℕ
final_or d [] = d
final_or d (x ∷ l) = final_or x l

pub final_cons : (x : ℕ) (l : List ℕ) → final (x ∷ l) ≡ some (final_or x l)
final_cons x [] = refl
final_cons x (y ∷ l) = final_cons y l

-- ---- a block's last instruction

pub last-below : (t : ℕ → 𝔹) (k f y : ℕ) (l : List ℕ) → pick t k f ≡ y ∷ l → final_or y l < k + f
unfolding pick
last-below t k zero y l e = absurd (let z : ◌≡◌ {A = ℕ} 0 1 = cc in omega arith)
last-below t k (suc f) y l e = go (t k) e (last-below t (suc k) f)
  where
    end : (r : List ℕ) → ((y : ℕ) (l : List ℕ) → r ≡ y ∷ l → final_or y l < suc k + f) → final_or k r < k + suc f
    end [] ih = omega arith
    end (x ∷ r) ih = omega (arith, ih x r refl)

    go : (a : 𝔹) → cons_if a k (pick t (suc k) f) ≡ y ∷ l → ((y : ℕ) (l : List ℕ) → pick t (suc k) f ≡ y ∷ l → final_or y l < suc k + f) → final_or y l < k + suc f
    go true e ih =
        let a : k ≡ y = cc in
        let b : pick t (suc k) f ≡ l = cc in
        subst (λ (r : List ℕ). final_or y r < k + suc f) b (subst (λ (x : ℕ). final_or x (pick t (suc k) f) < k + suc f) a (end (pick t (suc k) f) ih))
    go false e ih = omega (arith, ih y l e)

-- ---- what it is

pub term_onward : (s : List ℕ) (o : Op) (l : List P.Opnd) → successors (about (op_in s o l)).terminator ≡ targets (ends_from o)
term_onward s (O.Jump b) l = refl
term_onward s (O.IfTrue b e) l = refl
term_onward s O.Return l = refl
term_onward s (O.SendStatic f) l = refl
term_onward s (O.SendDynamic n) l = refl
term_onward s (O.Compute o) l = refl
term_onward s (O.Phi b e) l = refl
term_onward s (O.Param n) l = refl
term_onward s (O.SelfParam c) l = refl
term_onward s (O.New c) l = refl
term_onward s (O.GetIvar n) l = refl
term_onward s (O.SetIvar n) l = refl

term_leaves : (s : List ℕ) (o : Op) (l : List P.Opnd) → has (returned_by (about (op_in s o l)).terminator) ≡ returning (ends_from o)
term_leaves s (O.Jump b) l = refl
term_leaves s (O.IfTrue b e) l = refl
term_leaves s O.Return l = refl
term_leaves s (O.SendStatic f) l = refl
term_leaves s (O.SendDynamic n) l = refl
term_leaves s (O.Compute o) l = refl
term_leaves s (O.Phi b e) l = refl
term_leaves s (O.Param n) l = refl
term_leaves s (O.SelfParam c) l = refl
term_leaves s (O.New c) l = refl
term_leaves s (O.GetIvar n) l = refl
term_leaves s (O.SetIvar n) l = refl

-- what `last` gives is the last of the block's instructions
abbrev last_as : R.Option InsnId → Option ℕ
last_as R.None = none
last_as (R.Some i) = some i.0

last-final : (o : R.Option InsnId) (x : InsnId) (xs : List InsnId) → last_as (last_or o (x ∷ xs)) ≡ final (map (λ (i : InsnId). i.0) (x ∷ xs))
last-final o x [] = refl
last-final o x (y ∷ xs) = last-final (R.Some x) y xs

last-is : (xs : List InsnId) → last_as (last_or R.None xs) ≡ final (map (λ (i : InsnId). i.0) xs)
last-is [] = refl
last-is (x ∷ xs) = last-final R.None x xs

module _ (m : List ℕ) (c : Counts) (b : ℕ) where
  abbrev Drained : Chain → R.Option InsnId → Type 0
  Drained it r = (xs : List InsnId) × Drains (YieldsFirstBy (λ (i : InsnId). i.0) left) it xs × (r ≡ last_or R.None xs)

  last_code : (it : Chain) → ((s : List ℕ) → left it ≡ code (program_view s m c) b) → (r : R.Option InsnId) → Drained it r → final (codes_of m c.insns b) ≡ last_as r
  last_code it e r d =
      ap final (sym (code_is [] m c b) ∙ (sym (e []) ∙ sym (drained it d.0 d.1)))
      ∙ (sym (last-is d.0) ∙ sym (ap last_as d.2))

  below_by : (l : List ℕ) → codes_of m c.insns b ≡ l → (i : ℕ) → final l ≡ some i → i < c.insns
  below_by [] e i q = absurd (let z : ◌≡◌ {A = ℕ} 0 1 = cc in omega arith)
  below_by (y ∷ l) e i q =
      let z : final_or y l ≡ i = ap (λ (o : Option ℕ). elim o [ none ↦ 0 | some x ↦ x ]) (sym (final_cons y l) ∙ q) in
      omega (arith, last-below (λ j. eqb (insn_at m j).block.0 b) 0 c.insns y l e)

  ends_by : (s : List ℕ) (o : Option ℕ) → final (codes_of m c.insns b) ≡ o → end_of (program_view s m c) b ≡ elim o [ none ↦ none | some i ↦ (about (op_of (program_view s m c) i)).terminator ]
  unfolding end_of
  ends_by s o e = ap (λ (o : Option ℕ). elim o [ none ↦ none | some i ↦ (about (op_of (program_view s m c) i)).terminator ]) (ap final (code_is s m c b) ∙ e)

  module _ (it : Chain) (e : (s : List ℕ) → left it ≡ code (program_view s m c) b) (r : R.Option InsnId) (d : Drained it r) where
    pub last_below : {i : InsnId} → r ≡ R.Some i → i.0 < c.insns
    last_below {i} q = below_by (codes_of m c.insns b) refl i.0 (last_code it e r d ∙ ap last_as q)

    pub end_some : {i : InsnId} {row : Row} {t : Ends} → r ≡ R.Some i → row ≡ insn_at m i.0 → t ≡ ends_from row.op → Ended m c b t
    end_some {i} {row} {t} q f g =
        let is : t ≡ ends_from (insn_at m i.0).op = g ∙ ap (λ (z : Row). ends_from z.op) f in
        let ends : (s : List ℕ) → end_of (program_view s m c) b ≡ (about (op_of (program_view s m c) i.0)).terminator = λ s. ends_by s (some i.0) (last_code it e r d ∙ ap last_as q) in
        record {
          onward = λ s.
              ap successors (ends s ∙ ap (λ (o : P.Op). (about o).terminator) (op-is s m c i.0 (last_below q)))
              ∙ (term_onward s (insn_at m i.0).op _ ∙ sym (ap targets is));
          leaves = λ s.
              ap (λ z. has (returned_by z)) (ends s ∙ ap (λ (o : P.Op). (about o).terminator) (op-is s m c i.0 (last_below q)))
              ∙ (term_leaves s (insn_at m i.0).op _ ∙ sym (ap returning is));
        }

    pub end_none : r ≡ R.None → Ended m c b Open
    end_none q =
        let ends : (s : List ℕ) → end_of (program_view s m c) b ≡ none = λ s. ends_by s none (last_code it e r d ∙ ap last_as q) in
        record { onward = λ s. ap successors (ends s); leaves = λ s. ap (λ z. has (returned_by z)) (ends s) }
