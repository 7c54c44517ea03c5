-- The turns of the run. Assumes nothing.
use mathlib.Core.Bool.{Bool as 𝔹, true, false}
use mathlib.Core.Path.{◌≡◌, sym, ap, ◌∙◌, subst}
use mathlib.Core.List.{List}
use Prim.Native.Nat.{ℕ, ◌+◌, ◌-◌, ◌^◌, ◌<◌}
use native.Mathlib.Omega.{arith}
use borrow.Author.Tests.{eqb-true}
use lib.Dec.{eqb}
use Rattle.rules.specs.Actions.{answered, refused}
use Rattle.rules.specs.Program.{Limits}
use Rattle.rules.specs.Bound.{bound}
use Rattle.rules.specs.Machine.{State, at_rest, state_of, start, step, run}
use Rattle.rules.specs.Steps.{Exact}
use Rattle.rules.proofs.Exactness.Loop.{at-below, at-step, at_rest_lem, at-refused}
use Rattle.rules.proofs.Exactness.Theorem.{exact}
use Rattle.program.specs.View as P
use Rattle.program.specs.declared.Counts.{Counts}
use Rattle.std.specs.Prelude.{Result, Ok, Err}
use Rattle.refusals.specs.declared.Refusal.{Refusal}
use Rattle.refusals.specs.Refusals.{number_of}
use Rattle.state.specs.declared.State as S
use Rattle.state.specs.declared.Sizes.{Sizes}
use Rattle.state.specs.declared.Regs.{Regs}
use Rattle.state.specs.Acted.{Acted, On, Refused}
use Rattle.state.specs.View.{Attrs, state_view, StateReady}
use Rattle.state.specs.Changes.{went}
use Rattle.state.specs.Methods.{view, Lent}
use Rattle.state.proofs.Methods.{lent_same, lent_on}
use Rattle.state.proofs.Pushes.{rest-told}
use Rattle.machine.specs.blocks.Blocks.{BlockStepped}
use Rattle.machine.specs.Analysed.{Suited, Analysed, MachineFits, MachineReached, Steady}
use Rattle.machine.proofs.States.{attrs, attrs-fit, at_of, steady-at, bound-fits}
use Rattle.run.specs.Runs.{RunRan, Reaching, StampsFresh}
use Rattle.steps.specs.Stamps.{tables_of, Stamped, StampedIf, went_to}
use Rattle.steps.specs.Methods.{StampedIn, TimelyIn}
use Rattle.machine.specs.declared.tables.Tables.{Tables}
use Rattle.settled.specs.Reads.{whole}
use Rattle.settled.proofs.Stamps.{whole_tables}
use Rattle.steps.proofs.Stepping.{positive}
use Rattle.steps.proofs.Stamps.{fresh_stamped}

same : {x y : State} → answered x ≡ answered y → x ≡ y
same e = cc

-- t says whether nothing waits
abbrev Rests : Sizes → List ℕ → Regs → 𝔹 → Type 0
Rests z m q t = (v : Attrs) → t ≡ at_rest (state_view z v m q)

-- what a step relies on, of a run that has come to q
pub record Going (s p : List ℕ) (c : Counts) (z : Sizes) (m : List ℕ) (q : Regs) : Type 0 where
  pub ready : StateReady z m q
  pub reaching : Reaching s p c z m q

module _ {s p : List ℕ} {c : Counts} {z : Sizes} {m : List ℕ} {q : Regs} (g : Going s p c z m q) where
  at_once : (L : Limits) (S : Suited s p c L) → MachineReached L (P.program_view s p c) (state_view z (attrs s p c L S) m q)
  at_once L S = g.reaching.at L S (attrs s p c L S) (attrs-fit s p c L S)

  module _ {x u : List ℕ} (a : Analysed s p c x u z) where
    pub going_steady : Steady s p c z m
    going_steady = steady-at s p c a.indexed.limits a.indexed.suited z (attrs s p c a.indexed.limits a.indexed.suited) m q (at_once a.indexed.limits a.indexed.suited)

    pub going_count : q.count < 2 ^ 63
    going_count =
        let S = a.indexed.suited in
        let y = (at_of s p c a.indexed.limits S (state_view z (attrs s p c a.indexed.limits S) m q) (at_once a.indexed.limits S)).going.spent in
        omega (arith, y, bound-fits s p c a.indexed.limits S)

    module _ {t : 𝔹} (w : Rests z m q t) (f : t ≡ false) where
      pub going_below : q.count < bound (P.program_view s p c)
      going_below =
          let S = a.indexed.suited in
          let v = attrs s p c a.indexed.limits S in
          at-below a.indexed.limits S.room.classes (P.program_view s p c) S.finished (at_once a.indexed.limits S).from (state_view z v m q)
          (at_of s p c a.indexed.limits S (state_view z v m q) (at_once a.indexed.limits S)) (sym (w v) ∙ f)

      pub going_small : (0 < q.insns.len + q.blocks.len) × (q.count < 2 ^ 63)
      going_small =
          let S = a.indexed.suited in
          let v = attrs s p c a.indexed.limits S in
          let e : eqb (q.insns.len + q.blocks.len) 0 ≡ false = rest-told z v m q ∙ sym (w v) ∙ f in
          (positive (q.insns.len + q.blocks.len) e, going_count)

  -- ---- a turn

  module _ {t : 𝔹} (w : Rests z m q t) (f : t ≡ false) {m' : List ℕ} {r : Acted} (d : BlockStepped z (MachineFits s p c) step m q m' r) where
    next-at : {q' : Regs} → r ≡ On q' → (L : Limits) (S : Suited s p c L) (v : Attrs) → MachineFits s p c (P.program_view s p c) v → MachineReached L (P.program_view s p c) (state_view z v m' q')
    next-at {q'} e L S v a =
        let h = g.reaching.at L S v a in
        let i : step L (P.program_view s p c) (state_view z v m q) ≡ answered (state_view z v m' q') =
        sym (d.is L S.room.worklist (P.program_view s p c) v a) ∙ ap (λ (x : Acted). state_of L (P.program_view s p c) (went z v m' x)) e in
        let n = at-step L S.room.classes (P.program_view s p c) S.finished h.from (state_view z v m q) (state_view z v m' q') (at_of s p c L S (state_view z v m q) h) (sym (w v) ∙ f) i in
        record { from = h.from; starts = h.starts; there = n.0.there }

    pub going_on : {q' : Regs} → r ≡ On q' → Going s p c z m' q'
    going_on e = record { ready = (rw e at d).ok.ready; reaching = record { at = next-at e } }

    pub going_falls : {x u : List ℕ} {q' : Regs} → Analysed s p c x u z → r ≡ On q' → bound (P.program_view s p c) - q'.count < bound (P.program_view s p c) - q.count
    going_falls a e = omega (arith, going_below a w f, (rw e at d).ok.count)

    pub going_refused : {n : ℕ} → r ≡ Refused n → RunRan s p c z m' (Refused n)
    going_refused {n} e = record {
      is = λ L S v a t₀ b.
          let h = g.reaching.at L S v a in
          let i : step L (P.program_view s p c) (state_view z v m q) ≡ refused n = sym (d.is L S.room.worklist (P.program_view s p c) v a)
          ∙ ap (λ (x : Acted). state_of L (P.program_view s p c) (went z v m' x)) e in
          let k : h.from ≡ t₀ = same (sym h.starts ∙ b) in
          sym
          (ap (run L (P.program_view s p c) (bound (P.program_view s p c))) (sym k)
          ∙ at-refused L S.room.classes (P.program_view s p c) S.finished h.from (state_view z v m q) n
          (at_of s p c L S (state_view z v m q) h) (sym (w v) ∙ f) i);
      ok = tt;
    }

  pub going_done : {x u : List ℕ} {t : 𝔹} → Analysed s p c x u z → Rests z m q t → t ≡ true → RunRan s p c z m (On q)
  going_done {x} {u} {t} A w f = record {
    is = λ L S v a t₀ b.
        let h = g.reaching.at L S v a in
        let k : h.from ≡ t₀ = same (sym h.starts ∙ b) in
        sym
        (ap (run L (P.program_view s p c) (bound (P.program_view s p c))) (sym k)
        ∙ at_rest_lem L S.room.classes (P.program_view s p c) S.finished h.from (state_view z v m q) (at_of s p c L S (state_view z v m q) h)
        (sym (w v) ∙ f));
    ok = record {
      ready = g.ready;
      rest =
          eqb-true (q.insns.len + q.blocks.len) 0
          (rest-told z (attrs s p c A.indexed.limits A.indexed.suited) m q ∙ sym (w (attrs s p c A.indexed.limits A.indexed.suited)) ∙ f);
      count = let S = A.indexed.suited in
          let y = (at_of s p c A.indexed.limits S (state_view z (attrs s p c A.indexed.limits S) m q)
          (at_once A.indexed.limits S)).going.spent in
          omega (arith, y);
    };
  }

-- ---- where the run stands

abbrev AnalysedIn : Tables → S.State → Type 0
AnalysedIn T s = Analysed T.code.program.script.now T.code.program.words.now T.code.program.counts T.code.chains.now T.users.now s.sizes

abbrev GoingIn : Tables → S.State → Type 0
GoingIn T s = Going T.code.program.script.now T.code.program.words.now T.code.program.counts s.sizes s.words.now s.regs

abbrev Ran : Tables → S.State → S.State → Acted → Type 0
Ran T s₀ s r = Lent s₀ s × RunRan T.code.program.script.now T.code.program.words.now T.code.program.counts s₀.sizes s.words.now r

-- the run has come from the state s₀ to s, with the stamps a, in an epoch
pub record Turning (T : Tables) (s₀ s : S.State) (a : List ℕ) (e : ℕ) : Type 0 where
  pub lent : Lent s₀ s
  pub analysed : AnalysedIn T s
  pub going : GoingIn T s
  pub stamped : StampedIn T s a e

-- the steps that are left of the bound
abbrev pub left : Tables → S.State → ℕ
left T s = bound (P.program_view T.code.program.script.now T.code.program.words.now T.code.program.counts) - s.regs.count

pub turning_start : {T : Tables} {s : S.State} {a : List ℕ} → AnalysedIn T s → StampsFresh s.sizes (whole s a) s.regs
    → Reaching T.code.program.script.now T.code.program.words.now T.code.program.counts s.sizes s.words.now s.regs → Turning T s s a 1
turning_start {T} {s} A F h = record { lent = lent_same s; analysed = A; going = record { ready = s.ready; reaching = h }; stamped = fresh_stamped F }

module _ {T : Tables} {s₀ s : S.State} {a : List ℕ} {e : ℕ} (g : Turning T s₀ s a e) where
  pub turning_steady : Steady T.code.program.script.now T.code.program.words.now T.code.program.counts s.sizes s.words.now
  turning_steady = going_steady g.going g.analysed

  module _ {b : 𝔹} (w : (v : Attrs) → b ≡ at_rest (view v s)) where
    pub turning_over : b ≡ true → Ran T s₀ s (On s.regs)
    turning_over f =
        (g.lent, subst (λ (z : Sizes). RunRan T.code.program.script.now T.code.program.words.now T.code.program.counts z s.words.now (On s.regs)) g.lent.sizes (going_done g.going g.analysed w f))

    module _ (f : b ≡ false) where
      pub turning_small : (0 < s.regs.insns.len + s.regs.blocks.len) × (s.regs.count < 2 ^ 63)
      turning_small = going_small g.going g.analysed w f

      module _ {t : S.State} {y : List ℕ} {r : Result ℕ Refusal} (d : TimelyIn step T s a t y r) where
        abbrev SteppedTo : List ℕ → List ℕ → Type 0
        SteppedTo m n = BlockStepped s.sizes (MachineFits T.code.program.script.now T.code.program.words.now T.code.program.counts) step m s.regs n (went_to t.regs r)

        stepped : SteppedTo s.words.now t.words.now
        stepped = subst (λ (m : List ℕ). SteppedTo m t.words.now) (whole_tables s a) (subst (SteppedTo (tables_of (whole s a))) (whole_tables t y) d.timely.step)

        pub turning_on : {n : ℕ} → r ≡ Ok n → Turning T s₀ t y n
        turning_on {n} h = record {
          lent = lent_on g.lent d.lent;
          analysed = subst (λ (z : Sizes). Analysed T.code.program.script.now T.code.program.words.now T.code.program.counts T.code.chains.now T.users.now z) (sym d.lent.sizes) g.analysed;
          going = record {
            ready = t.ready;
            reaching = subst (λ (z : Sizes). Reaching T.code.program.script.now T.code.program.words.now T.code.program.counts z t.words.now t.regs) (sym d.lent.sizes)
                (going_on g.going w f stepped (ap (went_to t.regs) h)).reaching;
          };
          stamped = subst (λ (z : Sizes). Stamped T.code.program.script.now T.code.program.words.now T.code.program.counts z (whole t y) t.regs n) (sym d.lent.sizes)
              (subst (StampedIf T.code.program.script.now T.code.program.words.now T.code.program.counts s.sizes (whole t y) t.regs) h d.timely.stamps);
        }

        pub turning_less : {n : ℕ} → r ≡ Ok n → left T t < left T s
        turning_less h = going_falls g.going w f stepped g.analysed (ap (went_to t.regs) h)

        pub turning_no : {x : Refusal} → r ≡ Err x → Ran T s₀ t (Refused (number_of x))
        turning_no {x} h = (
          lent_on g.lent d.lent,
          subst (λ (z : Sizes). RunRan T.code.program.script.now T.code.program.words.now T.code.program.counts z t.words.now (Refused (number_of x))) g.lent.sizes
              (going_refused g.going w f stepped (ap (went_to t.regs) h)),
        )

-- ---- what a run answers is exact, and its count is within the bound

pub ran_exact : {s p : List ℕ} {c : Counts} {z : Sizes} {w : List ℕ} {r : Regs} → RunRan s p c z w (On r) → (L : Limits) → Suited s p c L → (v : Attrs) → MachineFits s p c (P.program_view s p c) v
    → (t : State) → start L (P.program_view s p c) ≡ answered t → Exact (P.program_view s p c) (state_view z v w r)
ran_exact {s} {p} {c} {z} {w} {r} d L S v a t e = exact L S.room.classes (P.program_view s p c) S.finished t (state_view z v w r) e (sym (d.is L S v a t e))
