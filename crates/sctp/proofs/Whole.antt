-- The analysis from its parts, and demand 3 of what it answers. Assumes nothing.
use mathlib.Core.Path.{◌≡◌, refl, sym, ap, ap₂, ◌∙◌, subst}
use mathlib.Core.List.{List, ◌++◌}
use Prim.Native.Nat.{ℕ, ◌+◌, ◌-◌, ◌≤◌}
use native.Mathlib.Nat.{zero-add}
use native.Mathlib.Omega.{arith}
use lib.ListN.{length, get_or}
use lib.Seq.{get_or-append-add}
use Rattle.rules.specs.Actions.{Answer, answered, refused, if_answered}
use Rattle.rules.specs.Program.{Limits}
use Rattle.rules.specs.Bound.{bound}
use Rattle.rules.specs.Machine.{start, run}
use Rattle.rules.specs.Steps.{Exact, Counted}
use Rattle.rules.proofs.Exactness.Loop.{at-start}
use Rattle.rules.proofs.Exactness.Theorem.{exact}
use Rattle.rules.proofs.Exactness.Counted.{counted}
use Rattle.program.specs.View as P
use Rattle.chains.specs.Chains.{ChainsFilled}
use Rattle.program.specs.declared.Counts.{Counts}
use Rattle.program.proofs.Tables.{tab_ext}
use Rattle.uses.specs.Users.{words, Uses}
use Rattle.state.specs.declared.Sizes.{Sizes}
use Rattle.state.specs.declared.Regs.{Regs}
use Rattle.state.specs.Acted.{Acted, On}
use Rattle.state.specs.View.{Attrs, state_view, StateReady}
use Rattle.answer.specs.Layout.{starts_at, users_at, answer_length}
use Rattle.machine.specs.Analysed.{sizes_of, MachineSized, Users, Suited, MachineFits}
use Rattle.machine.proofs.Storing.{start-few}
use Rattle.memory.specs.Layout.{instructions_most}
use Rattle.state.specs.Layout.{stamps_at}
use Rattle.state.specs.declared.State as S
use Rattle.state.proofs.Methods.{ready_at}
use Rattle.sctp.specs.starts.Starts.{Started}
use Rattle.run.specs.Runs.{StampsFresh, Reaching}
use Rattle.settled.specs.Reads.{whole}
use Rattle.settled.proofs.Stamps.{whole_tables, whole_long}
use Rattle.sctp.specs.Sctp.{tables_of, Given, SctpChained, SctpAside, SctpOutcome, Ends, SctpLeft, Analyses}

-- ---- the start, then the run

-- the state after the start is reached
pub started-reaching : {s p : List ℕ} {c : Counts} {z : Sizes} {m : List ℕ} {r : Acted} {q : Regs} → Started s p c z m r → r ≡ On q → Reaching s p c z m q
started-reaching {s} {p} {c} {z} {m} {r} {q} d e =
    let d1 = rw e at d in
    record {
      at = λ L S v f.
          let b = sym (d1.is L S v f) in
          record { from = state_view z v m q; starts = b; there = (at-start L S.room.classes (P.program_view s p c) S.finished (state_view z v m q) b).there };
    }

-- no instruction is stamped
pub begun_fresh : {z : Sizes} {m : List ℕ} (s : S.State) (t : List ℕ) → length t ≡ instructions_most → s.sizes ≡ z → ChainsFilled 0 z.insns 0 m t → StampsFresh z (whole s t) s.regs
begun_fresh {z} {m} s t long e f =
    let l = s.ready.held.len in
    record {
      long = whole_long s t long;
      ready = subst (λ (m : List ℕ). StateReady z m s.regs) (sym (whole_tables s t)) (ready_at s e);
      none = λ i h.
          let p : length s.words.now + i ≡ stamps_at + i = omega arith in
          ap (λ (j : ℕ). get_or (s.words.now ++ t) j 0) (sym p) ∙ get_or-append-add s.words.now t i 0 ∙ ap (λ (j : ℕ). get_or t j 0) (sym (zero-add i)) ∙ f.here i h;
    }

-- ---- the users

pub sized-self : (c : Counts) → MachineSized c (sizes_of c)
sized-self c = record { functions = refl; classes = refl; blocks = refl; insns = refl }

-- users whose places stay
pub users-kept : {p : List ℕ} {c : Counts} {u u' : List ℕ} → c.insns ≤ instructions_most → length u' ≡ length u → SctpAside u u' → Users p c u → Users p c u'
users-kept {p} {c} {u} {u'} few len a g = record {
  long = omega (arith, g.long);
  begins = at 0 (omega arith) ∙ g.begins;
  rises = λ j h. let x = at j (omega arith) in let y = at (j + 1) (omega arith) in omega (arith, g.rises j h);
  total = let x = at c.insns (omega arith) in omega (arith, g.total);
  part = λ s j h.
      let f = start-few p c u g (sizes_of c) (sized-self c) j h in
      ap₂ (λ (x y : ℕ). words u' (users_at + x) (y - x)) (at j (omega arith)) (at (j + 1) (omega arith))
      ∙ tab_ext (λ q. get_or u' (users_at + get_or u (starts_at + j) 0 + q) 0) (λ q. get_or u (users_at + get_or u (starts_at + j) 0 + q) 0)
      (get_or u (starts_at + (j + 1)) 0 - get_or u (starts_at + j) 0)
      (λ q l. a.same (users_at + get_or u (starts_at + j) 0 + q) (omega (arith, f.1)))
      ∙ g.part s j h;
}
  where
    at : (j : ℕ) → j ≤ instructions_most → get_or u' (starts_at + j) 0 ≡ get_or u (starts_at + j) 0
    at j h = a.same (starts_at + j) (omega arith)

pub users-laid : {p : List ℕ} {c : Counts} {u u' : List ℕ} → length u ≡ answer_length → Uses p c starts_at users_at u u' → Users p c u'
users-laid {p} {c} {u} {u'} len g = record { long = omega (arith, g.len_same); begins = g.begins; rises = g.rises; total = g.total; part = g.part }

-- ---- the whole

module _ {s p : List ℕ} {c : Counts} {z : Sizes} {u t : List ℕ} (g : Given s p c z u t) where
  pub analysed_whole : {p' u₁ u' m' : List ℕ} {r : Acted} → SctpChained c p p' → Uses (tables_of p') c starts_at users_at u u₁ → length u' ≡ length u₁
      → Ends s (tables_of p') c z u₁ u' m' r
      → Analyses s (tables_of p) c u u' m' r
  analysed_whole {p'} {u₁} {u'} {m'} {r} h d len f =
      let few = g.ready.insns in
      let k : Users (tables_of p') c u' = users-kept few len f.aside (users-laid g.answer d) in
      record {
        outcome = subst (λ (t : List ℕ). SctpOutcome s t c (sizes_of c) m' r) h.tables (subst (λ (y : Sizes). SctpOutcome s (tables_of p') c y m' r) g.sizes f.outcome);
        left = subst (λ (t : List ℕ). SctpLeft t c u u') h.tables (record {
          users = k;
          others = λ j l a b.
              let t : get_or u' (starts_at + c.insns) 0 ≡ get_or u₁ (starts_at + c.insns) 0 = f.aside.same (starts_at + c.insns) (omega arith) in
              f.aside.same j l ∙ d.others j a (λ x y. b x (omega arith));
          clear = f.aside.clear;
        });
      }

-- ---- demand 3: what is answered is at rest and exact, and its count is the number of steps taken and within the bound

after : {A B : Type 0} (a : Answer A) (k : A → Answer B) {y : B} → answered y ≡ if_answered a k → (x : A) × (a ≡ answered x) × (k x ≡ answered y)
after (answered x) k e = (x, refl, sym e)
after (refused n) k e = absurd (let z : ◌≡◌ {A = ℕ} 0 1 = cc in omega arith)

pub exactly : {s p : List ℕ} {c : Counts} {u u' m' : List ℕ} {q : Regs} → Analyses s p c u u' m' (On q) → (L : Limits) (S : Suited s p c L) (v : Attrs) → MachineFits s p c (P.program_view s p c) v
    → Exact (P.program_view s p c) (state_view (sizes_of c) v m' q)
exactly {s} {p} {c} {u} {u'} {m'} {q} d L S v f =
    let a = after (start L (P.program_view s p c)) (run L (P.program_view s p c) (bound (P.program_view s p c))) (d.outcome.is L S v f) in
    exact L S.room.classes (P.program_view s p c) S.finished a.0 (state_view (sizes_of c) v m' q) a.1 a.2

pub stepwise : {s p : List ℕ} {c : Counts} {u u' m' : List ℕ} {q : Regs} → Analyses s p c u u' m' (On q) → (L : Limits) (S : Suited s p c L) (v : Attrs) → MachineFits s p c (P.program_view s p c) v
    → Counted L (P.program_view s p c) (state_view (sizes_of c) v m' q)
stepwise {s} {p} {c} {u} {u'} {m'} {q} d L S v f =
    let a = after (start L (P.program_view s p c)) (run L (P.program_view s p c) (bound (P.program_view s p c))) (d.outcome.is L S v f) in
    counted L S.room.classes (P.program_view s p c) S.finished a.0 (state_view (sizes_of c) v m' q) a.1 a.2
