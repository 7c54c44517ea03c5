-- The loops over the Returns of a function and over the functions that a call has called, and the call's kind. Assumes nothing.
use mathlib.Core.Bool.{Bool as 𝔹, true, false, cond}
use mathlib.Core.Option.{some}
use mathlib.Core.Path.{◌≡◌, refl, sym, ap, subst, ◌∙◌}
use mathlib.Core.List.{List, [], ◌∷◌, ◌++◌, map}
use Prim.Native.Nat.{ℕ, zero, suc, ◌+◌, ◌≤◌, ◌<◌}
use native.Mathlib.Omega.{arith}
use borrow.Author.Tests.{ltb-true, ltb-false}
use lib.Dec.{ltb}
use lib.ListN.{length, get_or, drop, drop_of_length-le, get_or-eq_default}
use lib.Seq.{drop-cons}
use Rattle.ids.proofs.Bits.{Either, yes, no, either}
use Rattle.kinds.specs.declared.Kind.{Kind}
use Rattle.kinds.specs.declared.Kind.TheVariants.{Empty}
use Rattle.kinds.specs.Union.{Joined, union_all}
use Rattle.rules.specs.Actions.{lift}
use Rattle.rules.specs.Values.{to_answer}
use Rattle.rules.specs.Lists.{places_from, cons_if, concat}
use Rattle.rules.specs.Program as P
use Rattle.rules.specs.Program.{Limits, Program, op_of, returned, returns}
use Rattle.rules.specs.Machine.{State, marked, kind_of, join_all, opnd_set, flows_back}
use Rattle.program.specs.declared.Opnd.{Opnd}
use Rattle.program.specs.declared.Counts.{Counts}
use Rattle.program.specs.Rows.{opnd_of}
use Rattle.program.specs.View.{program_view}
use Rattle.state.specs.declared.Sizes.{Sizes}
use Rattle.state.specs.View.{kinds_of, called_of}
use Rattle.state.specs.View.{state_view}
use Rattle.chains.specs.Chains.{Index, returns_of}
use Rattle.chains.proofs.Remaining.{Within, chain_within}
use Rattle.state.proofs.Tables.{called-length}
use Rattle.machine.specs.opnds.Reads.{OperandInside, kind_in, StateReads}
use Rattle.memory.specs.Layout.{blocks_room}
use Rattle.flows.specs.declared.Pass.{Pass}
use Rattle.flows.specs.Tally.{TallyFits}
use Rattle.flows.specs.Flows.{Passed, ByPasses}
use Rattle.flows.proofs.Tallied.{passed_none, passed_append}
use Rattle.flows.proofs.Callers.{fits-inside, kinds_of_lem, two_passes}
use Rattle.flows.specs.returning.Returning.{call_kind, Returns, ReturnGives, back_from, ReturnSound, Backs, ReturnAmong, BackIn, PassedBack, PassedAll}
use Rattle.flows.proofs.returning.Opnds.{gives_none, First, gives_first, gives_all, returns-fit}

-- ---- a loop over the Returns of function f at its head: l is left of its chain, with the operands; Q tells what these are to all operands

module _ (m : List ℕ) (c : Counts) (f : ℕ) (Q : List P.Opnd → List P.Opnd → Type 0) (l : List ℕ) where
  pub record Rest (s : List ℕ) : Type 0 where
    pub opnds : List P.Opnd
    pub gives : ReturnGives (program_view s m c) l opnds
    pub same : Q (returns (program_view s m c) f) opnds

  pub record Walking : Type 0 where
    pub within : Within c.insns l
    pub left : (s : List ℕ) → Rest s

pub walk_start : {m : List ℕ} {c : Counts} {x : List ℕ} (g : Index m c x) (f : ℕ) {l : List ℕ} (Q : List P.Opnd → List P.Opnd → Type 0) → ((os : List P.Opnd) → Q os os)
    → f < blocks_room → ((s : List ℕ) → l ≡ returns_of (program_view s m c) f) → Walking m c f Q l
walk_start {m} {c} {x} g f Q q lt h = record {
  within = rw (h []) (chain_within x c.insns 2 f _ (g.returning [] f lt));
  left = λ s. record { opnds = returns (program_view s m c) f; gives = rw (h s) (gives_all (program_view s m c) f); same = q (returns (program_view s m c) f) };
}

module _ {m : List ℕ} {c : Counts} {f : ℕ} {Q : List P.Opnd → List P.Opnd → Type 0} {l : List ℕ} (g : Walking m c f Q l) where
  module _ {j : ℕ} {k : List ℕ} (is : l ≡ j ∷ k) where
    pub walk_here : j < c.insns
    walk_here = (rw is at g.within).0

    firsts : (s : List ℕ) → First (program_view s m c) j k (g.left s).opnds
    firsts s = gives_first (program_view s m c) j k (g.left s).opnds (rw is at (g.left s).gives)

    pub walk_more : {R : List P.Opnd → List P.Opnd → Type 0}
        → ((s : List ℕ) (os : List P.Opnd) (o : P.Opnd) (rest : List P.Opnd) → returned (op_of (program_view s m c) j) ≡ some o → Q os (o ∷ rest) → R os rest) → Walking m c f R k
    walk_more step = record {
      within = (rw is at g.within).1;
      left = λ s.
          let b = firsts s in
          record { opnds = b.rest; gives = b.gives; same = step s _ b.opnd b.rest b.told (subst (Q (returns (program_view s m c) f)) b.is (g.left s).same) };
    }

    pub back_inside : {z : Sizes} {x : List ℕ} → Backs m c z x → {o : Opnd} → Returns m c j o → OperandInside z o
    back_inside {z} u {o} r =
        let b = firsts u.script in
        fits-inside z o (rw (r.is u.script b.opnd b.told) (u.sound.fits j b.opnd b.told))

  pub walk_done : l ≡ [] → (s : List ℕ) → Q (returns (program_view s m c) f) []
  walk_done e s = subst (Q (returns (program_view s m c) f)) (gives_none (program_view s m c) (g.left s).opnds (rw e at (g.left s).gives)) (g.left s).same

-- ---- pass_returns

abbrev pub Backing : List ℕ → Counts → ℕ → List Kind → Pass → Pass → List ℕ → Type 0
Backing m c f ks y₀ y l = Walking m c f (λ os rest. (v : Pass) → Passed ks rest y v → Passed ks os y₀ v) l

module _ {m : List ℕ} {c : Counts} {f : ℕ} (z : Sizes) (w : List ℕ) {y₀ y : Pass} {l : List ℕ} (g : Backing m c f (kinds_of z w) y₀ y l) where
  pub back_more : {j : ℕ} {k : List ℕ} {o : Opnd} {y' : Pass} → l ≡ j ∷ k → Returns m c j o → Passed (kinds_of z w) (opnd_of o ∷ []) y y' → Backing m c f (kinds_of z w) y₀ y' k
  back_more {y' = y'} is r p = walk_more g is (λ s os a rest told q v d. q v (passed_append (kinds_of z w) (a ∷ []) rest y y' v (rw (r.is s a told) at p) d))

  pub back_done : l ≡ [] → PassedBack m c z w f y₀ y
  back_done e = record { passed = λ s. walk_done g e s y (passed_none (kinds_of z w) y) }

-- ---- the functions that a call has called

back_end : (p : Program) (t : List (List 𝔹)) (i k : ℕ) → length t ≤ k → back_from p t i k ≡ []
unfolding back_from
back_end p t i k le = ap (λ (l : List (List 𝔹)). concat (map (returns p) (places_from k (λ row. get_or row i false) l))) (drop_of_length-le t {i = k} le)

back_step : (p : Program) (t : List (List 𝔹)) (i k : ℕ) → k < length t → back_from p t i k ≡ cond (marked t k i) (returns p k) [] ++ back_from p t i (suc k)
unfolding back_from
back_step p t i k lt = ap (λ (l : List (List 𝔹)). concat (map (returns p) (places_from k (λ row. get_or row i false) l))) (drop-cons t k [] lt) ∙ go (marked t k i)
  where
    go : (b : 𝔹) → concat (map (returns p) (cons_if b k (places_from (suc k) (λ row. get_or row i false) (drop (suc k) t))))
        ≡ cond b (returns p k) [] ++ concat (map (returns p) (places_from (suc k) (λ row. get_or row i false) (drop (suc k) t)))
    go true = refl
    go false = refl

pub back_past : (p : Program) (t : List (List 𝔹)) (i k : ℕ) → k < length t → marked t k i ≡ false → back_from p t i k ≡ back_from p t i (suc k)
back_past p t i k lt e = back_step p t i k lt ∙ rw e

pub back_on : (p : Program) (t : List (List 𝔹)) (i k : ℕ) → k < length t → marked t k i ≡ true → back_from p t i k ≡ returns p k ++ back_from p t i (suc k)
back_on p t i k lt e = back_step p t i k lt ∙ rw e

-- none below k
pub back_skip : (p : Program) (t : List (List 𝔹)) (i k : ℕ) → k ≤ length t → ((g : ℕ) → marked t g i ≡ true → k ≤ g) → back_from p t i 0 ≡ back_from p t i k
back_skip p t i zero le h = refl
back_skip p t i (suc k) le h = back_skip p t i k (omega arith) (λ g e. let a = h g e in omega arith) ∙ back_past p t i k (omega arith) (go (either (marked t k i)))
  where
    go : Either (marked t k i) → marked t k i ≡ false
    go (yes e) = let a = h k e in absurd (omega arith)
    go (no e) = e

-- none from k on
pub back_none : (p : Program) (t : List (List 𝔹)) (i n k : ℕ) → length t ≤ k + n → ((g : ℕ) → marked t g i ≡ true → g < k) → back_from p t i k ≡ []
back_none p t i zero k le h = back_end p t i k (omega arith)
back_none p t i (suc n) k le h = go (either (ltb k (length t))) (either (marked t k i)) (back_none p t i n (suc k) (omega arith) (λ g d. let b = h g d in omega arith))
  where
    go : Either (ltb k (length t)) → Either (marked t k i) → back_from p t i (suc k) ≡ [] → back_from p t i k ≡ []
    go (yes a) (yes e) ih = let b = h k e in absurd (omega arith)
    go (yes a) (no e) ih = back_past p t i k (ltb-true k (length t) a) e ∙ ih
    go (no a) e ih = back_end p t i k (ltb-false k (length t) a)

-- all functions
pub among-all : (z : Sizes) (w : List ℕ) (i : ℕ) → ReturnAmong (called_of z w) i 0 z.functions
among-all z w i = record { only = λ g e. let a = below g e (either (ltb g (length (called_of z w)))) in let b = called-length z w in (omega arith, omega arith) }
  where
    below : (g : ℕ) → marked (called_of z w) g i ≡ true → Either (ltb g (length (called_of z w))) → g < length (called_of z w)
    below g e (yes a) = ltb-true g (length (called_of z w)) a
    below g e (no a) =
        let b : marked (called_of z w) g i ≡ false = ap (λ (row : List 𝔹). get_or row i false) (get_or-eq_default (called_of z w) [] {n = g} (ltb-false g (length (called_of z w)) a)) in
        ltb-true g (length (called_of z w)) (let d : true ≡ false = sym e ∙ b in cc)

-- ---- pass_called at its loop's head; k₀ is the first function

pub record Calling (m : List ℕ) (c : Counts) (z : Sizes) (w : List ℕ) (i k₀ : ℕ) (y₀ y : Pass) (k : ℕ) : Type 0 where
  pub on : (s : List ℕ) (v : Pass) → Passed (kinds_of z w) (back_from (program_view s m c) (called_of z w) i k) y v
      → Passed (kinds_of z w) (back_from (program_view s m c) (called_of z w) i k₀) y₀ v

module _ {m : List ℕ} {c : Counts} {z : Sizes} {w : List ℕ} {i : ℕ} {k₀ : ℕ} {y₀ y : Pass} {k : ℕ} (g : Calling m c z w i k₀ y₀ y k) where
  module _ (lt : k < z.functions) {b : 𝔹} (eb : b ≡ marked (called_of z w) k i) where
    pub calling_more : {y' : Pass} → b ≡ true → PassedBack m c z w k y y' → Calling m c z w i k₀ y₀ y' (k + 1)
    calling_more {y'} h p = record {
      on = λ s v d.
          let q = program_view s m c in
          let t = called_of z w in
          let e : back_from q t i k ≡ returns q k ++ back_from q t i (k + 1) =
          back_on q t i k (let n = called-length z w in omega arith) (sym eb ∙ h) ∙ ap (λ (j : ℕ). returns q k ++ back_from q t i j) (omega arith) in
          g.on s v (rw e (passed_append (kinds_of z w) (returns q k) (back_from q t i (k + 1)) y y' v (p.passed s) d));
    }

    pub calling_past : b ≡ false → Calling m c z w i k₀ y₀ y (k + 1)
    calling_past h = record {
      on = λ s v d.
          let q = program_view s m c in
          let t = called_of z w in
          let e : back_from q t i k ≡ back_from q t i (k + 1) = back_past q t i k (let n = called-length z w in omega arith) (sym eb ∙ h) ∙ ap (back_from q t i) (omega arith) in
          g.on s v (rw e d);
    }

  pub calling_done : {n : ℕ} → k₀ + n ≤ z.functions → k₀ + n ≤ k → PassedAll m c z w i k₀ n y₀ y
  calling_done le more = record {
    passed = λ a s.
        let t = called_of z w in
        let d : back_from (program_view s m c) t i k ≡ [] = back_none (program_view s m c) t i (length t) k (omega arith) (λ f x. let b = (a.only f x).1 in omega arith) in
        rw (back_skip (program_view s m c) t i k₀ (let x = called-length z w in omega arith) (λ f x. (a.only f x).0)) (g.on s y (rw d (passed_none (kinds_of z w) y)));
  }

-- ---- the kind

call-is : (L : Limits) (p : Program) (i : ℕ) (s : State) → call_kind L p i s ≡ lift (to_answer (union_all Empty (map (kind_of s) (opnd_set (back_from p s.called_by i 0))))) s
unfolding call_kind join_all flows_back back_from
call-is L p i s = refl

back_fit : (p : Program) (n : ℕ) (t : List (List 𝔹)) (i : ℕ) → ReturnSound p n → TallyFits n (back_from p t i 0)
unfolding back_from
back_fit p n t i h = returns-fit p n h (places_from 0 (λ row. get_or row i false) (drop 0 t))

pub call-union : {m : List ℕ} {c : Counts} {z : Sizes} {w : List ℕ} {i f n : ℕ} {r : Joined}
    → ((u : List ℕ) → ReturnAmong (called_of z w) i f n → TallyFits z.insns (back_from (program_view u m c) (called_of z w) i 0)
    → r ≡ union_all Empty (map (kind_in (kinds_of z w)) (opnd_set (back_from (program_view u m c) (called_of z w) i 0))))
    → StateReads z (BackIn m c z (called_of z w) i f n) (λ L p. call_kind L p i) w r
call-union {m} {c} {z} {w} {i} {f} {n} {r} h = record {
  is = λ L p v g q.
      let u = program_view g.script m c in
      let s = state_view z v w q in
      let l = back_from u (called_of z w) i 0 in
      let k : r ≡ union_all Empty (map (kind_of s) (opnd_set l)) =
      h g.script g.among (back_fit u z.insns (called_of z w) i g.sound) ∙ ap (union_all Empty) (kinds_of_lem s (opnd_set l)) in
      rw g.program (ap (λ (j : Joined). lift (to_answer j) s) k ∙ sym (call-is L u i s));
}

pub call-kind-is : {m : List ℕ} {c : Counts} {z : Sizes} {w : List ℕ} {i f n : ℕ} {walks : Pass → Pass → Type 0} {r : Joined}
    → ((x y : Pass) → walks x y → PassedAll m c z w i f n x y) → ByPasses z.insns walks r → StateReads z (BackIn m c z (called_of z w) i f n) (λ L p. call_kind L p i) w r
call-kind-is {m} {c} {z} {w} {i} h g =
    call-union (λ u a fits.
    two_passes (kinds_of z w) z.insns (back_from (program_view u m c) (called_of z w) i 0) ((h _ _ g.first).passed a u) ((h _ _ g.again).passed a u) g.is fits)
