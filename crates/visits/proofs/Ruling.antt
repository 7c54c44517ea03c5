-- How the promise of a rule is put together from those of its parts. Assumes nothing.
use mathlib.Core.Path.{◌≡◌, refl, sym, ap, ◌∙◌}
use mathlib.Core.List.{List}
use Prim.Native.Nat.{ℕ}
use Rattle.std.specs.Prelude.{Result, Ok, Err}
use Rattle.refusals.specs.declared.Refusal.{Refusal}
use Rattle.kinds.specs.declared.Kind.{Kind}
use Rattle.kinds.specs.declared.Kind.TheVariants.{Empty}
use Rattle.kinds.specs.Union.{Joined}
use Rattle.rules.specs.Actions.{Answer, answered, if_answered, lift}
use Rattle.rules.specs.Values.{to_answer}
use Rattle.rules.specs.Program.{Limits, Program}
use Rattle.rules.specs.Machine.{State, Acts, store, visit}
use Rattle.state.specs.declared.Sizes.{Sizes}
use Rattle.state.specs.declared.Regs.{Regs}
use Rattle.state.specs.Acted as W
use Rattle.state.specs.Acted.{Acted, acted_of}
use Rattle.state.specs.declared.State as S
use Rattle.state.specs.Methods.{Did}
use Rattle.state.proofs.Methods.{lent_on, did_at}
use Rattle.state.specs.View.{Attrs, state_view, StateReady}
use Rattle.state.specs.Changes.{went, StateAfter, ReadyAfter, StateDid}
use Rattle.machine.specs.opnds.Reads.{StateReads}
use Rattle.visits.specs.Methods.{nothing_in, Gave}
use Rattle.visits.specs.Visits.{Ruled, On, Refused, nothing_of, kind_of, ruled, ReadyRuled, Rules, rule_of}

-- a promise for some programs holds for fewer
pub did-fits : {z : Sizes} {fits less : Program → Attrs → Type 0} {f : Limits → Program → Acts (Unit {0})} {m : List ℕ} {q : Regs} {w : List ℕ} {r : Acted}
    → ((P : Program) (v : Attrs) → less P v → fits P v) → StateDid z fits f m q w r → StateDid z less f m q w r
did-fits h d = record { is = λ L room P v a. d.is L room P v (h P v a); ok = d.ok }

pub after_both : (z : Sizes) (q : Regs) (w : List ℕ) (a : Regs) (u : List ℕ) (r : Acted) → StateAfter z q w a → ReadyAfter z a u r → ReadyAfter z q u r
after_both z q w a u (W.On b) x y = record { ready = y.ready; count = y.count ∙ x.count }
after_both z q w a u (W.Refused n) x y = tt

-- as a call answers
pub none_given : (q : Regs) (r : Result (Unit {0}) Refusal) → kind_of q (nothing_in r) ≡ nothing_of (acted_of q r)
none_given q (Ok a) = refl
none_given q (Err e) = refl

pub reads-fits : {z : Sizes} {fits less : Program → Attrs → Type 0} {f : Limits → Program → Acts Kind} {m : List ℕ} {j : Joined}
    → ((P : Program) (v : Attrs) → less P v → fits P v) → StateReads z fits f m j → StateReads z less f m j
reads-fits h d = record { is = λ L P v a q. d.is L P v (h P v a) q }

module _ (z : Sizes) (fits : Program → Attrs → Type 0) (h : Limits → Program → Acts Kind) (m : List ℕ) (q : Regs) where
  -- ---- an action, and no kind

  nothing_is : (v : Attrs) (w : List ℕ) (a : Acted) → ruled z v w (nothing_of a) ≡ if_answered (went z v w a) (λ r. answered (Empty, r.1))
  nothing_is v w (W.On b) = refl
  nothing_is v w (W.Refused n) = refl

  nothing-ready : (w : List ℕ) (a : Acted) → ReadyAfter z q w a → ReadyRuled z q w (nothing_of a)
  nothing-ready w (W.On b) k = k
  nothing-ready w (W.Refused n) k = k

  pub acted : {g : Limits → Program → Acts (Unit {0})} {w : List ℕ} {a : Acted} {r : Ruled} → StateDid z fits g m q w a → r ≡ nothing_of a
      → ((L : Limits) (P : Program) (v : Attrs) → fits P v → (s : State) → h L P s ≡ if_answered (g L P s) (λ r. answered (Empty, r.1))) → Rules z fits h m q w r
  acted {g} {w} {a} {r} d e k = rw e (record {
    is = λ L room P v f. nothing_is v w a ∙ ap (λ (x : Answer (Unit {0} × State)). if_answered x (λ r. answered (Empty, r.1))) (d.is L room P v f) ∙ sym (k L P v f (state_view z v m q));
    ok = nothing-ready w a d.ok;
  })

  -- ---- a kind

  kind-is : (v : Attrs) (w : List ℕ) (a : Regs) (j : Joined) → ruled z v w (kind_of a j) ≡ lift (to_answer j) (state_view z v w a)
  kind-is v w a (Ok k) = refl
  kind-is v w a (Err n) = refl

  kind-ready : (w : List ℕ) (a : Regs) (j : Joined) → StateAfter z q w a → ReadyRuled z q w (kind_of a j)
  kind-ready w a (Ok k) l = l
  kind-ready w a (Err n) l = tt

  pub valued : {j : Joined} {r : Ruled} → StateReady z m q → StateReads z fits h m j → r ≡ kind_of q j → Rules z fits h m q m r
  valued {j} {r} l d e = rw e (record { is = λ L room P v f. kind-is v m q j ∙ d.is L P v f q; ok = kind-ready m q j (record { ready = l; count = refl }) })

  -- ---- an action, then a kind

  module _ {g : Limits → Program → Acts (Unit {0})} (o : Limits → Program → Acts Kind)
      (k : (L : Limits) (P : Program) (v : Attrs) → fits P v → (s : State) → h L P s ≡ if_answered (g L P s) (λ r. o L P r.1)) where
    pub both : {w : List ℕ} {a : Acted} {b : Regs} {j : Joined} {r : Ruled} → StateDid z fits g m q w a → a ≡ W.On b → StateReads z fits o w j → r ≡ kind_of b j → Rules z fits h m q w r
    both {w} {a} {b} {j} {r} d e i f =
        let d1 = rw e at d in
        rw f (record {
          is = λ L room P v t.
              kind-is v w b j ∙ i.is L P v t b ∙ ap (λ (x : Answer (Unit {0} × State)). if_answered x (λ r. o L P r.1)) (d1.is L room P v t) ∙ sym (k L P v t (state_view z v m q));
          ok = kind-ready w b j d1.ok;
        })

    pub stopped : {w : List ℕ} {a : Acted} {n : ℕ} → StateDid z fits g m q w a → a ≡ W.Refused n → Rules z fits h m q w (Refused n)
    stopped {w} {a} {n} d e =
        let d1 = rw e at d in
        record {
          is = λ L room P v t. ap (λ (x : Answer (Unit {0} × State)). if_answered x (λ r. o L P r.1)) (d1.is L room P v t) ∙ sym (k L P v t (state_view z v m q));
          ok = tt;
        }

-- ---- a visit

visit-is : (L : Limits) (P : Program) (i : ℕ) (s : State) → visit L P i s ≡ if_answered (rule_of i L P s) (λ r. store L P i r.0 r.1)
unfolding visit
visit-is L P i s = refl

module _ (z : Sizes) (fits : Program → Attrs → Type 0) (m : List ℕ) (q : Regs) (i : ℕ) where
  pub visited : {w u : List ℕ} {r : Ruled} {a : Regs} {k : Kind} {e : Acted} → Rules z fits (rule_of i) m q w r → r ≡ On a k → StateDid z fits (λ L P. store L P i k) w a u e
      → StateDid z fits (λ L P. visit L P i) m q u e
  visited {w} {u} {r} {a} {k} {e} d f g =
      let d1 = rw f at d in
      record {
        is = λ L room P v t. g.is L room P v t ∙ ap (λ (x : Answer (Kind × State)). if_answered x (λ r. store L P i r.0 r.1)) (d1.is L room P v t) ∙ sym (visit-is L P i (state_view z v m q));
        ok = after_both z q w a u e d1.ok g.ok;
      }

  pub visit-stopped : {w : List ℕ} {r : Ruled} {n : ℕ} → Rules z fits (rule_of i) m q w r → r ≡ Refused n → StateDid z fits (λ L P. visit L P i) m q w (W.Refused n)
  visit-stopped d f =
      let d1 = rw f at d in
      record {
        is = λ L room P v t. ap (λ (x : Answer (Kind × State)). if_answered x (λ r. store L P i r.0 r.1)) (d1.is L room P v t) ∙ sym (visit-is L P i (state_view z v m q));
        ok = tt;
      }

-- ---- the visit of the state that is lent

module _ {fits : Program → Attrs → Type 0} (i : ℕ) {s t : S.State} {r : Joined} (d : Gave fits (rule_of i) s t r) where
  pub visit_stored : {k : Kind} {u : S.State} {e : Result (Unit {0}) Refusal} → r ≡ Ok k → Did fits (λ L P. store L P i k) t u e → Did fits (λ L P. visit L P i) s u e
  visit_stored f g = record { lent = lent_on d.lent g.lent; did = visited s.sizes fits s.words.now s.regs i d.rules (ap (kind_of t.regs) f) (did_at d.lent.sizes g) }

  pub visit_refused : {n : Refusal} → r ≡ Err n → Did fits (λ L P. visit L P i) s t (Err n)
  visit_refused f = record { lent = d.lent; did = visit-stopped s.sizes fits s.words.now s.regs i d.rules (ap (kind_of t.regs) f) }
