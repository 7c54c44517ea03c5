-- A walk through a receiver's classes, upward, with an action for each. Assumes nothing.
use mathlib.Core.Option.{Option, none, some}
use mathlib.Core.Path.{◌≡◌, refl, sym, ap, ◌∙◌, subst}
use mathlib.Core.List.{List, [], ◌∷◌, Memᴰ}
use Prim.Native.Nat.{ℕ, ◌^◌, ◌<◌}
use native.Mathlib.Omega.{arith}
use Rattle.ids.specs.declared.ClassId.{ClassId}
use Rattle.refusals.specs.declared.Refusal.{Refusal}
use Rattle.refusals.specs.Refusals.{number_of}
use Rattle.ids.specs.Sets.{members_of, next_of}
use Rattle.ids.proofs.Walk.{Step, members_step}
use Rattle.kinds.specs.declared.Kind.{Kind}
use Rattle.kinds.specs.declared.Kind.TheVariants.{Empty}
use Rattle.kinds.specs.Union.{Joined}
use Rattle.std.specs.Prelude.{Result, Ok, Err}
use Rattle.std.specs.Prelude as L
use Rattle.rules.specs.Actions.{Answer, answered, refused, if_answered, lift, ◌>>=◌, each, fold}
use Rattle.rules.specs.Values.{to_answer, classes_in}
use Rattle.rules.specs.Program.{Limits, Program}
use Rattle.rules.specs.Machine as R
use Rattle.rules.specs.Machine.{Acts, classes_of}
use Rattle.program.specs.declared.Opnd.{Opnd}
use Rattle.program.specs.Rows.{opnd_of}
use Rattle.state.specs.declared.Sizes.{Sizes}
use Rattle.state.specs.declared.Regs.{Regs}
use Rattle.state.specs.declared.State.{State}
use Rattle.state.specs.View.{Attrs, kinds_of, state_view, no_entries}
use Rattle.state.specs.Methods.{view, Put, Did}
use Rattle.state.proofs.Methods.{Along, along_start, along_put, along_step, along_stop, along_last, along_end}
use Rattle.state.proofs.Pushes.{no_attrs}
use Rattle.machine.specs.opnds.Reads.{kind_in, StateReads}
use Rattle.machine.specs.receivers.Receivers.{Receives, ClassesBelow, ReceiverWithin}
use Rattle.machine.proofs.receivers.Asked.{asked-yes, asked_no}

-- ---- the smallest class of what is left

-- a set that a u64 holds, its classes below n
pub record Walking (n s : ℕ) : Type 0 where
  pub fits : s < 2 ^ 64
  pub below : ClassesBelow n s

pub step : {n s : ℕ} → Walking n s → {r : L.Option (ClassId × ℕ)} → r ≡ next_of s → {c : ClassId} {t : ℕ} → r ≡ L.Some (c, t) → Step s c.0 t
step {n} {s} w e {c} {t} h = members_step s c t w.fits (sym e ∙ h)

module _ {s c t : ℕ} (u : Step s c t) {n : ℕ} (w : Walking n s) where
  pub class-below : c < n
  class-below = w.below.below c (subst (Memᴰ c) (sym u.walk) (Memᴰ.head refl))

  pub walk-on : Walking n t
  walk-on = record {
    fits = omega (arith, u.falls, w.fits);
    below = record { below = λ x m. w.below.below x (subst (Memᴰ x) (sym u.walk) (Memᴰ.tail m)) };
  }

-- ---- changes: what is left from here comes to what the whole comes to

module _ (fits : Program → Attrs → Type 0) (act : Limits → Program → ℕ → Acts (Unit {0})) where
  pub record Going (c₀ c : ℕ) (s₀ s : State) : Type 0 where
    pub along : Along fits (λ L p. each (members_of c) (act L p)) (λ L p. each (members_of c₀) (act L p)) s₀ s

  pub going_start : (c : ℕ) (s : State) → Going c c s s
  going_start c s = record { along = along_start s }

  module _ {c₀ c : ℕ} {s₀ s : State} (g : Going c₀ c s₀ s) where
    turn : {x d : ℕ} → Step c x d → (L : Limits) (p : Program) (v : Attrs) → each (members_of c) (act L p) (view v s) ≡ each (x ∷ members_of d) (act L p) (view v s)
    turn u L p v = ap (λ (l : List ℕ). each l (act L p) (view v s)) u.walk

    pub going_more : {x d : ℕ} {t : State} {r : Result (Unit {0}) Refusal} {y : Unit {0}} → Step c x d → Did fits (λ L p. act L p x) s t r → r ≡ Ok y → Going c₀ d s₀ t
    going_more u w e = record { along = along_step g.along w e (λ p v h. h) (λ L room p v h. turn u L p v) }

    -- one that can't fail
    pub going_put : {x d : ℕ} {t : State} (f : R.State → R.State) → Step c x d → Put f s t
        → ((L : Limits) (p : Program) (v : Attrs) → act L p x (view v s) ≡ answered (tt, f (view v s))) → Going c₀ d s₀ t
    going_put {d = d} f u w e =
        record {
          along = along_put g.along (λ L p. each (members_of d) (act L p)) w
              (λ L room p v h. turn u L p v
              ∙ ap (λ (a : Answer (Unit {0} × R.State)). if_answered a (λ b. each (members_of d) (act L p) b.1)) (e L p v));
        }

    pub going_stop : {x d : ℕ} {t : State} {r : Result (Unit {0}) Refusal} {e : Refusal} → Step c x d → Did fits (λ L p. act L p x) s t r → r ≡ Err e
        → Did fits (λ L p. each (members_of c₀) (act L p)) s₀ t (Err e)
    going_stop {d = d} u w e = along_stop g.along (λ L p. each (members_of d) (act L p)) w e (λ p v h. h) (λ L room p v h. turn u L p v)

    pub going_done : members_of c ≡ [] → Did fits (λ L p. each (members_of c₀) (act L p)) s₀ s (Ok tt)
    going_done e = along_end g.along (λ L room p v h. ap (λ (l : List ℕ). each l (act L p) (view v s)) e)

-- ---- a kind handed on, and no change

module _ (z : Sizes) (fits : Program → Attrs → Type 0) (act : Limits → Program → Kind → ℕ → Acts Kind) (m : List ℕ) where
  pub record Folding (s₀ s : ℕ) (k : Kind) : Type 0 where
    pub same : (L : Limits) (p : Program) (v : Attrs) → fits p v → (q : Regs)
        → fold (act L p) k (members_of s) (state_view z v m q) ≡ fold (act L p) Empty (members_of s₀) (state_view z v m q)

  module _ {s₀ s : ℕ} {k : Kind} (g : Folding s₀ s k) where
    pick : {c t : ℕ} {j : Joined} → Step s c t → StateReads z fits (λ L p. act L p k c) m j → (L : Limits) (p : Program) (v : Attrs) → fits p v → (q : Regs)
        → if_answered (lift (to_answer j) (state_view z v m q)) (λ a. fold (act L p) a.0 (members_of t) a.1) ≡ fold (act L p) Empty (members_of s₀) (state_view z v m q)
    pick {c} {t} u d L p v h q =
        ap (λ (a : Answer (Kind × R.State)). if_answered a (λ b. fold (act L p) b.0 (members_of t) b.1)) (d.is L p v h q)
        ∙ ap (λ (l : List ℕ). fold (act L p) k l (state_view z v m q)) (sym u.walk) ∙ g.same L p v h q

    pub folding_more : {c t : ℕ} {j : Joined} {a : Kind} → Step s c t → StateReads z fits (λ L p. act L p k c) m j → j ≡ Ok a → Folding s₀ t a
    folding_more u d e = let d1 = rw e at d in record { same = pick u d1 }

    pub folding_stop : {c t : ℕ} {j : Joined} {n : Refusal} → Step s c t → StateReads z fits (λ L p. act L p k c) m j → j ≡ Err n
        → StateReads z fits (λ L p. fold (act L p) Empty (members_of s₀)) m (Err n)
    folding_stop u d e = let d1 = rw e at d in record { is = pick u d1 }

    pub folding_done : members_of s ≡ [] → StateReads z fits (λ L p. fold (act L p) Empty (members_of s₀)) m (Ok k)
    folding_done e = record { is = λ L p v h q. ap (λ (l : List ℕ). fold (act L p) k l (state_view z v m q)) (sym e) ∙ g.same L p v h q }

-- ---- the receiver's classes, then an action on them

module _ (z : Sizes) (m : List ℕ) (o : Opnd) {r : Result ℕ Refusal} (d : Receives z m o r) where
  pub met : {A : Type 0} (f : List ℕ → Acts A) {s : ℕ} → r ≡ Ok s → (v : Attrs) (q : Regs) → f (members_of s) (state_view z v m q) ≡ (classes_of (opnd_of o) >>= f) (state_view z v m q)
  met {A} f e v q = let d1 = rw e at d in ap (λ (a : Answer (List ℕ × R.State)). if_answered a (λ b. f b.0 b.1)) (d1.is v q)

  pub unmet : {A : Type 0} (f : List ℕ → Acts A) {n : Refusal} → r ≡ Err n → (v : Attrs) (q : Regs) → refused (number_of n) ≡ (classes_of (opnd_of o) >>= f) (state_view z v m q)
  unmet {A} f e v q = let d1 = rw e at d in ap (λ (a : Answer (List ℕ × R.State)). if_answered a (λ b. f b.0 b.1)) (d1.is v q)

  pub met-below : {s : ℕ} → r ≡ Ok s → ReceiverWithin z m o → ClassesBelow z.classes s
  met-below {s} e w = let d1 = rw e at d in go (classes_in (kind_in (kinds_of z m) (opnd_of o))) refl (d1.is no_attrs no_entries)
    where
      listed : Answer (List ℕ × R.State) → List ℕ
      listed (answered a) = a.0
      listed (refused n) = []

      go : (x : Option ℕ) → classes_in (kind_in (kinds_of z m) (opnd_of o)) ≡ x
          → ◌≡◌ {A = Answer (List ℕ × R.State)} (answered (members_of s, state_view z no_attrs m no_entries))
          (classes_of (opnd_of o) (state_view z no_attrs m no_entries))
          → ClassesBelow z.classes s
      go none h a = let b : ◌≡◌ {A = Answer (List ℕ × R.State)} (answered (members_of s, state_view z no_attrs m no_entries)) (refused 14) = a
          ∙ asked_no (opnd_of o) (state_view z no_attrs m no_entries) h in
          absurd (let y : ◌≡◌ {A = ℕ} 0 1 = cc in omega arith)
      go (some c) h a =
          let l : members_of s ≡ members_of c = ap listed (a ∙ asked-yes (opnd_of o) (state_view z no_attrs m no_entries) c h) in
          record { below = λ x y. (w.classes c h).below x (subst (Memᴰ x) l y) }

  module _ (fits : Program → Attrs → Type 0) where
    pub reads-met : (f : Limits → Program → List ℕ → Acts Kind) {s : ℕ} {j : Joined} → r ≡ Ok s → StateReads z fits (λ L p. f L p (members_of s)) m j
        → StateReads z fits (λ L p. classes_of (opnd_of o) >>= f L p) m j
    reads-met f e g = record { is = λ L p v h q. g.is L p v h q ∙ met (f L p) e v q }

    pub reads_unmet : (f : Limits → Program → List ℕ → Acts Kind) {n : Refusal} → r ≡ Err n → StateReads z fits (λ L p. classes_of (opnd_of o) >>= f L p) m (Err n)
    reads_unmet f e = record { is = λ L p v h q. unmet (f L p) e v q }

module _ (s : State) (o : Opnd) {r : Result ℕ Refusal} (d : Receives s.sizes s.words.now o r) (fits : Program → Attrs → Type 0) (f : Limits → Program → List ℕ → Acts (Unit {0})) where
  pub did-met : {c : ℕ} {t : State} (a : Result (Unit {0}) Refusal) → r ≡ Ok c → Did fits (λ L p. f L p (members_of c)) s t a → Did fits (λ L p. classes_of (opnd_of o) >>= f L p) s t a
  did-met a e g = along_last (along_start s) a g (λ p v h. h) (λ L room p v h. sym (met s.sizes s.words.now o d (f L p) e v s.regs))
