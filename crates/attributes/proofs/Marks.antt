-- A read meets classes: the loop of mark_each. Assumes nothing.
use mathlib.Core.Path.{◌≡◌, refl}
use mathlib.Core.List.{[]}
use Prim.Native.Nat.{ℕ}
use Rattle.ids.specs.Sets.{members_of}
use Rattle.ids.proofs.Walk.{Step}
use Rattle.rules.specs.Actions.{change, each}
use Rattle.rules.specs.Program.{Limits, Program}
use Rattle.rules.specs.Machine.{Acts, add_read}
use Rattle.program.specs.declared.Opnd.{Opnd}
use Rattle.program.specs.Rows.{opnd_of}
use Rattle.state.specs.declared.State.{State}
use Rattle.state.specs.Changes.{Every}
use Rattle.state.specs.Methods.{Put, Did}
use Rattle.std.specs.Prelude.{Result, Ok}
use Rattle.refusals.specs.declared.Refusal.{Refusal}
use Rattle.machine.specs.receivers.Receivers.{Receives}
use Rattle.machine.proofs.receivers.Walk.{Walking, Going, going_put, going_done, walk-on, did-met}
use Rattle.attributes.specs.Attributes.{mark_reads}

abbrev pub marks : ℕ → Limits → Program → ℕ → Acts (Unit {0})
marks i L p c = change (add_read c i)

pub record Marking (i c₀ : ℕ) (s₀ s : State) (c : ℕ) : Type 0 where
  pub walking : Walking s₀.sizes.classes c
  pub going : Going Every (marks i) c₀ c s₀ s

module _ {i c₀ : ℕ} {s₀ s : State} {c : ℕ} (g : Marking i c₀ s₀ s c) where
  pub marking_more : {x d : ℕ} {t : State} → Step c x d → Put (add_read x i) s t → Marking i c₀ s₀ t d
  marking_more {x} u w = record { walking = walk-on u g.walking; going = going_put Every (marks i) g.going (add_read x i) u w (λ L p v. refl) }

  pub marking_done : members_of c ≡ [] → Did Every (λ L p. each (members_of c₀) (λ x. change (add_read x i))) s₀ s (Ok tt)
  marking_done e = going_done Every (marks i) g.going e

-- ---- question 14

module _ (s : State) (i : ℕ) (o : Opnd) {r : Result ℕ Refusal} (d : Receives s.sizes s.words.now o r) where
  pub marks_met : {c : ℕ} {t : State} → r ≡ Ok c → Did Every (λ L p. each (members_of c) (λ x. change (add_read x i))) s t (Ok tt) → Did Every (λ L p. mark_reads i (opnd_of o)) s t (Ok tt)
  marks_met e f = did-met s o d Every (λ L p cs. each cs (λ x. change (add_read x i))) (Ok tt) e f
