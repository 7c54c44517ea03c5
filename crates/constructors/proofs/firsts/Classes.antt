-- The classes one after the other. Assumes nothing.
use mathlib.Core.Path.{◌≡◌, refl, sym, ap, ap₂, ◌∙◌}
use mathlib.Core.List.{List, [], ◌∷◌, ◌++◌}
use Prim.Native.Nat.{ℕ, zero, suc, ◌+◌, ◌*◌, ◌≤◌, ◌<◌}
use native.Mathlib.Decide.{ℕ_discrete}
use native.Mathlib.Omega.{arith}
use lib.ListN.{get_or}
use Rattle.kinds.specs.Kinds.{kind_from, kinds_at}
use Rattle.kinds.specs.declared.Kind.{Kind}
use Rattle.std.specs.Prelude.{Result, Ok, Err, ⊤}
use Rattle.refusals.specs.Refusals.{number_of}
use Rattle.refusals.specs.declared.Refusal.{Refusal}
use Rattle.rules.specs.Actions.{answered, refused}
use Rattle.rules.specs.Program.{Limits, Program}
use Rattle.rules.specs.Constructors.{first_kinds}
use Rattle.rules.specs.Machine.{first_kinds_from}
use Rattle.memory.specs.tables.Tables.{listed}
use Rattle.program.specs.Rows.{ivars_of}
use Rattle.program.specs.View.{program_view, ProgramReady}
use Rattle.program.specs.declared.Counts.{Counts}
use Rattle.memory.specs.Layout.{classes_most, ivars_most}
use Rattle.constructors.specs.firsts.Firsts.{FirstsOnly, outcome, FirstIs, FirstsAre}

-- ---- the rules' loop

module _ (L : Limits) (p : Program) where
  all-answered : (g : ℕ → List Kind) (c n : ℕ) → ((i : ℕ) → i < n → first_kinds p (c + i) ≡ answered (g i)) → first_kinds_from L p c n ≡ answered (listed n g)
  unfolding listed
  all-answered g c zero h = refl
  all-answered g c (suc n) h =
      let e : c + 0 ≡ c = omega arith in
      let a : first_kinds p c ≡ answered (g 0) = ap (first_kinds p) (sym e) ∙ h 0 (omega arith) in
      let b : first_kinds_from L p (suc c) n ≡ answered (listed n (λ i. g (suc i))) =
      all-answered (λ i. g (suc i)) (suc c) n (λ i l. let f : suc c + i ≡ c + suc i = omega arith in ap (first_kinds p) f ∙ h (suc i) (omega arith)) in
      rw (a, b)

  one_refused : (g : ℕ → List Kind) (e k c n : ℕ) → k < n → ((i : ℕ) → i < k → first_kinds p (c + i) ≡ answered (g i)) → first_kinds p (c + k) ≡ refused e
      → first_kinds_from L p c n ≡ refused e
  one_refused g e k c zero lt h r = absurd (omega arith)
  one_refused g e zero c (suc n) lt h r =
      let f : c + 0 ≡ c = omega arith in
      let a : first_kinds p c ≡ refused e = ap (first_kinds p) (sym f) ∙ r in
      rw a
  one_refused g e (suc k) c (suc n) lt h r =
      let f : c + 0 ≡ c = omega arith in
      let a : first_kinds p c ≡ answered (g 0) = ap (first_kinds p) (sym f) ∙ h 0 (omega arith) in
      let b : first_kinds_from L p (suc c) n ≡ refused e =
      one_refused (λ i. g (suc i)) e k (suc c) n (omega arith) (λ i l. let d : suc c + i ≡ c + suc i = omega arith in ap (first_kinds p) d ∙ h (suc i) (omega arith))
      (let d : suc c + k ≡ c + suc k = omega arith in ap (first_kinds p) d ∙ r) in
      rw (a, b)

-- ---- the tables

kinds-same : (u u' : List ℕ) (t p n : ℕ) → ((a : ℕ) → a < n → (get_or u' (t + a) 0 ≡ get_or u (t + a) 0) × (get_or u' (p + a) 0 ≡ get_or u (p + a) 0)) → kinds_at u' t p n ≡ kinds_at u t p n
unfolding kinds_at
kinds-same u u' t p zero h = refl
kinds-same u u' t p (suc n) h =
    ap₂ {C = List Kind} (λ l x. l ++ x ∷ []) (kinds-same u u' t p n (λ a l. h a (omega arith))) (let e = h n (omega arith) in ap₂ {C = Kind} kind_from e.0 e.1)

abbrev row : List ℕ → ℕ → ℕ → List ℕ → ℕ → List Kind
row m tags payloads u k = kinds_at u (tags + ivars_most * k) (payloads + ivars_most * k) (ivars_of m k)

-- the loop's head: the classes before k have their kinds
pub record Classes (s m : List ℕ) (c : Counts) (tags payloads : ℕ) (u₀ u : List ℕ) (k : ℕ) : Type 0 where
  pub high : k ≤ c.classes
  pub only : FirstsOnly tags payloads (classes_most * ivars_most) u₀ u
  pub done : (i : ℕ) → i < k → first_kinds (program_view s m c) (0 + i) ≡ answered (row m tags payloads u i)

module _ {s m : List ℕ} {c : Counts} {tags payloads : ℕ} {u₀ u : List ℕ} {k : ℕ} (g : Classes s m c tags payloads u₀ u k) (r : ProgramReady m c) where
  pub class-below : k < c.classes → k < 64
  class-below h = omega (arith, r.classes)

  module _ (h : k < c.classes) (apart : tags + (classes_most * ivars_most) ≤ payloads) {u' : List ℕ} {e : Result ⊤ Refusal} (f : FirstIs s m c k tags payloads u u' e) where
    wide : FirstsOnly tags payloads (classes_most * ivars_most) u₀ u'
    wide = record {
      len_same = f.only.len_same ∙ g.only.len_same;
      others = λ i a b. f.only.others i (λ x y. a (omega arith) (omega (arith, class-below h))) (λ x y. b (omega arith) (omega (arith, class-below h))) ∙ g.only.others i a b;
    }

    old_row : (i : ℕ) → i < k → row m tags payloads u' i ≡ row m tags payloads u i
    old_row i l = kinds-same u u' (tags + 64 * i) (payloads + 64 * i) (ivars_of m i) (λ a la.
        let few : a < 64 = omega (arith, r.ivars i (omega arith)) in
        let k64 = class-below h in
        (f.only.others (tags + 64 * i + a) (λ x y. omega arith) (λ x y. omega arith), f.only.others (payloads + 64 * i + a) (λ x y. omega arith) (λ x y. omega arith)))

    before : (i : ℕ) → i < k → first_kinds (program_view s m c) (0 + i) ≡ answered (row m tags payloads u' i)
    before i l = g.done i l ∙ ap answered (sym (old_row i l))

    pub class-more : {v : ⊤} → e ≡ Ok v → Classes s m c tags payloads u₀ u' (k + 1)
    class-more z = record {
      high = omega arith;
      only = wide;
      done = λ i l.
          elim (ℕ_discrete i k) [
            | yes q ↦ rw q (let o : 0 + k ≡ k = omega arith in ap (first_kinds (program_view s m c)) o ∙ sym f.is ∙ ap (λ (x : Result ⊤ Refusal). outcome x (row m tags payloads u' k)) z)
            | no q ↦ before i (omega arith)
          ];
    }

    pub class-stop : {r : Refusal} → e ≡ Err r → FirstsAre s m c tags payloads u₀ u' (Err r)
    class-stop {r} z =
        let o : 0 + k ≡ k = omega arith in
        record {
          is = λ L.
              sym (one_refused L (program_view s m c) (row m tags payloads u') (number_of r) k 0 c.classes h before
              (ap (first_kinds (program_view s m c)) o ∙ sym f.is ∙ ap (λ (x : Result ⊤ Refusal). outcome x (row m tags payloads u' k)) z));
          only = wide;
        }

  pub class-done : c.classes ≤ k → FirstsAre s m c tags payloads u₀ u (Ok tt)
  class-done h = record {
    is = λ L. sym (all-answered L (program_view s m c) (row m tags payloads u) 0 c.classes (λ i l. g.done i (omega (arith, g.high))));
    only = g.only;
  }
