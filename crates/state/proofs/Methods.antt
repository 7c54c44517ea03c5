-- Changes of a state, one behind the other. Assumes nothing.
use mathlib.Core.Path.{◌≡◌, refl, sym, ap, ◌∙◌, subst}
use Rattle.std.specs.Prelude.{Result, Ok, Err}
use Rattle.refusals.specs.declared.Refusal.{Refusal}
use Rattle.refusals.specs.Refusals.{number_of}
use Rattle.rules.specs.Actions.{Answer, answered, refused, if_answered}
use Rattle.rules.specs.Program.{Limits, Program}
use Rattle.rules.specs.Machine as R
use Rattle.memory.specs.Layout.{worklist_most}
use Rattle.state.specs.declared.State.{State}
use Rattle.state.specs.declared.Sizes.{Sizes}
use Rattle.state.specs.View.{Attrs, StateReady}
use Rattle.state.specs.Acted.{acted_of}
use Rattle.state.specs.Changes.{StateDid}
use Rattle.state.specs.Methods.{view, Lent, Put, Did}

abbrev pub Fits : Type 1
Fits = Program → Attrs → Type 0

abbrev pub Acting : Type 0
Acting = Limits → Program → R.Acts (Unit {0})

pub lent_same : (s : State) → Lent s s
lent_same s = record { words = refl; sizes = refl }

pub lent_on : {s t u : State} → Lent s t → Lent t u → Lent s u
lent_on a b = record { words = b.words ∙ a.words; sizes = b.sizes ∙ a.sizes }

pub ready_at : {z : Sizes} (s : State) → s.sizes ≡ z → StateReady z s.words.now s.regs
ready_at s e = rw (← e) s.ready

-- by the sizes that a first state had, and for fewer programs
pub did_at : {z : Sizes} {fits : Fits} {f : Acting} {s t : State} {r : Result (Unit {0}) Refusal} → s.sizes ≡ z → Did fits f s t r
    → StateDid z fits f s.words.now s.regs t.words.now (acted_of t.regs r)
did_at {z} {fits} {f} {s} {t} {r} e d = subst (λ (y : Sizes). StateDid y fits f s.words.now s.regs t.words.now (acted_of t.regs r)) e d.did

pub did_fits : {fits less : Fits} {f : Acting} {s t : State} {r : Result (Unit {0}) Refusal} → Did fits f s t r → ((p : Program) (v : Attrs) → less p v → fits p v) → Did less f s t r
did_fits d h = record { lent = d.lent; did = record { is = λ L room p v a. d.did.is L room p v (h p v a); ok = d.did.ok } }

-- the answer of a call
pub came : {fits : Fits} {f : Acting} {s t : State} {r : Result (Unit {0}) Refusal} {a : Unit {0}} → Did fits f s t r → r ≡ Ok a
    → (L : Limits) → L.worklist ≡ worklist_most → (p : Program) (v : Attrs) → fits p v → answered (tt, view v t) ≡ f L p (view v s)
came d e L room p v h = let d' = rw e at d in rw d.lent.sizes (d'.did.is L room p v h)

pub failed : {fits : Fits} {f : Acting} {s t : State} {r : Result (Unit {0}) Refusal} {e : Refusal} → Did fits f s t r → r ≡ Err e
    → (L : Limits) → L.worklist ≡ worklist_most → (p : Program) (v : Attrs) → fits p v → refused (number_of e) ≡ f L p (view v s)
failed d e L room p v h = let d' = rw e at d in d'.did.is L room p v h

-- in the middle of what a function does: what is left of it from here comes to what the whole comes to from the start
pub record Along (fits : Fits) (left whole : Acting) (s₀ s : State) : Type 0 where
  pub lent : Lent s₀ s
  pub count : s.regs.count ≡ s₀.regs.count
  pub same : (L : Limits) → L.worklist ≡ worklist_most → (p : Program) (v : Attrs) → fits p v → left L p (view v s) ≡ whole L p (view v s₀)

pub along_start : {fits : Fits} {whole : Acting} (s : State) → Along fits whole whole s s
along_start s = record { lent = lent_same s; count = refl; same = λ L room p v h. refl }

module _ {fits : Fits} {left whole : Acting} {s₀ s : State} (a : Along fits left whole s₀ s) where
  -- a change that can't fail
  pub along_put : (left' : Acting) {f : R.State → R.State} {t : State} → Put f s t
      → ((L : Limits) → L.worklist ≡ worklist_most → (p : Program) (v : Attrs) → fits p v → left L p (view v s) ≡ left' L p (f (view v s))) → Along fits left' whole s₀ t
  along_put left' {f} {t} d e = record {
    lent = lent_on a.lent d.lent;
    count = ap (λ (q : _). q.count) d.regs ∙ a.count;
    same = λ L room p v h. rw (d.lent.sizes, d.regs) (ap (left' L p) (d.put.is v s.regs)) ∙ sym (e L room p v h) ∙ a.same L room p v h;
  }

  -- a call, after which left' is left
  pub along_step : {fits' : Fits} {g left' : Acting} {t : State} {r : Result (Unit {0}) Refusal} {x : Unit {0}} → Did fits' g s t r → r ≡ Ok x → ((p : Program) (v : Attrs) → fits p v → fits' p v)
      → ((L : Limits) → L.worklist ≡ worklist_most → (p : Program) (v : Attrs) → fits p v → left L p (view v s) ≡ if_answered (g L p (view v s)) (λ b. left' L p b.1))
      → Along fits left' whole s₀ t
  along_step {left' = left'} d k w e = record {
    lent = lent_on a.lent d.lent;
    count = (rw k at d).did.ok.count ∙ a.count;
    same = λ L room p v h.
        ap (λ (b : Answer (Unit {0} × R.State)). if_answered b (λ c. left' L p c.1)) (came d k L room p v (w p v h)) ∙ sym (e L room p v h) ∙ a.same L room p v h;
  }

  -- a call that was refused
  pub along_stop : (left' : Acting) {fits' : Fits} {g : Acting} {t : State} {r : Result (Unit {0}) Refusal} {x : Refusal} → Did fits' g s t r
      → r ≡ Err x → ((p : Program) (v : Attrs) → fits p v → fits' p v)
      → ((L : Limits) → L.worklist ≡ worklist_most → (p : Program) (v : Attrs) → fits p v → left L p (view v s) ≡ if_answered (g L p (view v s)) (λ b. left' L p b.1))
      → Did fits whole s₀ t (Err x)
  along_stop left' d k w e = record {
    lent = lent_on a.lent d.lent;
    did = record {
      is = λ L room p v h.
          ap (λ (b : Answer (Unit {0} × R.State)). if_answered b (λ c. left' L p c.1)) (failed d k L room p v (w p v h)) ∙ sym (e L room p v h) ∙ a.same L room p v h;
      ok = tt;
    };
  }

  -- a last call
  pub along_last : {fits' : Fits} {g : Acting} {t : State} (r : Result (Unit {0}) Refusal) → Did fits' g s t r → ((p : Program) (v : Attrs) → fits p v → fits' p v)
      → ((L : Limits) → L.worklist ≡ worklist_most → (p : Program) (v : Attrs) → fits p v → left L p (view v s) ≡ g L p (view v s)) → Did fits whole s₀ t r
  along_last {t = t} (Ok x) d w e = record {
    lent = lent_on a.lent d.lent;
    did = record {
      is = λ L room p v h. rw (← a.lent.sizes) (d.did.is L room p v (w p v h) ∙ sym (e L room p v h)) ∙ a.same L room p v h;
      ok = record { ready = ready_at t (d.lent.sizes ∙ a.lent.sizes); count = d.did.ok.count ∙ a.count };
    };
  }
  along_last (Err x) d w e = record {
    lent = lent_on a.lent d.lent;
    did = record { is = λ L room p v h. d.did.is L room p v (w p v h) ∙ sym (e L room p v h) ∙ a.same L room p v h; ok = tt };
  }

  -- nothing is left
  pub along_end : ((L : Limits) → L.worklist ≡ worklist_most → (p : Program) (v : Attrs) → fits p v → left L p (view v s) ≡ answered (tt, view v s)) → Did fits whole s₀ s (Ok tt)
  along_end e = record {
    lent = a.lent;
    did = record {
      is = λ L room p v h. rw (← a.lent.sizes) (sym (e L room p v h)) ∙ a.same L room p v h;
      ok = record { ready = ready_at s a.lent.sizes; count = a.count };
    };
  }

  -- or a refusal
  pub along_refused : (x : Refusal) → ((L : Limits) → L.worklist ≡ worklist_most → (p : Program) (v : Attrs) → fits p v → left L p (view v s) ≡ refused (number_of x)) → Did fits whole s₀ s (Err x)
  along_refused x e = record { lent = a.lent; did = record { is = λ L room p v h. sym (e L room p v h) ∙ a.same L room p v h; ok = tt } }
