-- A walk along a chain of instructions that does one action for each. Assumes nothing.
use mathlib.Core.Path.{◌≡◌, ap, ◌∙◌}
use mathlib.Core.List.{List, [], ◌∷◌}
use Prim.Native.Nat.{ℕ, ◌<◌}
use Rattle.std.specs.Prelude.{Result, Ok, Err}
use Rattle.refusals.specs.declared.Refusal.{Refusal}
use Rattle.rules.specs.Actions.{each}
use Rattle.rules.specs.Program.{Limits, Program}
use Rattle.rules.specs.Machine.{Acts}
use Rattle.state.specs.declared.State.{State}
use Rattle.state.specs.View.{Attrs}
use Rattle.state.specs.Methods.{Did, view}
use Rattle.state.proofs.Methods.{Along, along_start, along_step, along_stop, along_end}
use Rattle.chains.proofs.Remaining.{Within}

-- the loop's head: the actions for what is left of a chain come from here to what those for the whole chain l₀ come to from the start
module _ (act : Limits → Program → ℕ → Acts (Unit {0})) (fits : Program → Attrs → Type 0) (l₀ : List ℕ) where
  pub record Walking (s₀ s : State) (l : List ℕ) : Type 0 where
    pub within : Within s₀.sizes.insns l
    pub along : Along fits (λ L p. each l (act L p)) (λ L p. each l₀ (act L p)) s₀ s

  pub walk_start : (s : State) → Within s.sizes.insns l₀ → Walking s s l₀
  walk_start s w = record { within = w; along = along_start s }

module _ {act : Limits → Program → ℕ → Acts (Unit {0})} {fits : Program → Attrs → Type 0} {l₀ : List ℕ} {s₀ s : State} {l : List ℕ} (g : Walking act fits l₀ s₀ s l) where
  module _ {i : ℕ} {rest : List ℕ} (steps : l ≡ i ∷ rest) where
    pub walk_here : i < s.sizes.insns
    walk_here = rw g.along.lent.sizes (rw steps at g.within).0

    pub walk_more : {t : State} {r : Result (Unit {0}) Refusal} {y : Unit {0}} → Did fits (λ L p. act L p i) s t r → r ≡ Ok y → Walking act fits l₀ s₀ t rest
    walk_more d e = record {
      within = (rw steps at g.within).1;
      along = along_step g.along d e (λ p v u. u) (λ L room p v u. ap (λ (y : List ℕ). each y (act L p) (view v s)) steps);
    }

    pub walk_stop : {t : State} {r : Result (Unit {0}) Refusal} {e : Refusal} → Did fits (λ L p. act L p i) s t r → r ≡ Err e → Did fits (λ L p. each l₀ (act L p)) s₀ t (Err e)
    walk_stop d k = along_stop g.along (λ L p. each rest (act L p)) d k (λ p v u. u) (λ L room p v u. ap (λ (y : List ℕ). each y (act L p) (view v s)) steps)

  pub walk_done : l ≡ [] → Did fits (λ L p. each l₀ (act L p)) s₀ s (Ok tt)
  walk_done e = along_end g.along (λ L room p v u. ap (λ (y : List ℕ). each y (act L p) (view v s)) e)

-- for a program that says what the chain holds
pub walk_of : (act : Limits → Program → ℕ → Acts (Unit {0})) {fits more : Program → Attrs → Type 0} {l₀ : List ℕ} {s t : State} {r : Result (Unit {0}) Refusal}
    (list : Program → List ℕ) → ((p : Program) (v : Attrs) → more p v → fits p v × (l₀ ≡ list p))
    → Did fits (λ L p. each l₀ (act L p)) s t r → Did more (λ L p. each (list p) (act L p)) s t r
walk_of act {s = s} list held d = record {
  lent = d.lent;
  did = record {
    is = λ L room p v u. let w = held p v u in d.did.is L room p v w.0 ∙ ap (λ (y : List ℕ). each y (act L p) (view v s)) w.1;
    ok = d.did.ok;
  };
}
