-- An attribute's place in a class, and its kind there. Assumes nothing.
use mathlib.Core.Option.{none, some}
use mathlib.Core.Path.{◌≡◌, sym, ap, ◌∙◌}
use mathlib.Core.List.{List, []}
use Prim.Native.Nat.{ℕ, ◌<◌}
use native.Mathlib.Omega.{arith}
use lib.ListN.{length, get_or}
use Rattle.std.specs.Prelude.{Option, Some, None, Err}
use Rattle.refusals.specs.declared.Refusal.TheVariants.{UnknownMember}
use Rattle.kinds.specs.declared.Kind.{Kind}
use Rattle.kinds.specs.declared.Kind.TheVariants.{Empty}
use Rattle.kinds.specs.Union.{Joined, union_of}
use Rattle.rules.specs.Actions.{refused, lift}
use Rattle.rules.specs.Values.{to_answer}
use Rattle.rules.specs.Lists.{same}
use Rattle.rules.specs.Program as P
use Rattle.rules.specs.Program.{Limits, Program, class, ivar_named}
use Rattle.rules.specs.Machine.{State, get_ivar}
use Rattle.rules.proofs.Exactness.Sums.{places-∈}
use Rattle.rules.proofs.Exactness.Promise.{first_in}
use Rattle.program.specs.declared.Counts.{Counts}
use Rattle.program.specs.declared.Name.{Name}
use Rattle.program.specs.Rows.{name_in}
use Rattle.program.specs.Rows as Rows
use Rattle.program.specs.View as Prog
use Rattle.program.proofs.Tables.{tab-length}
use Rattle.memory.specs.Layout.{ivars_most}
use Rattle.lookups.specs.Look.{ivar_found, ivar_row}
use Rattle.lookups.proofs.Rows.{ivars_are}
use Rattle.state.specs.declared.Sizes.{Sizes}
use Rattle.state.specs.View.{Attrs, ivars_of, state_view}
use Rattle.machine.specs.opnds.Reads.{StateReads}
use Rattle.machine.specs.receivers.Receivers.{StateMatches}
use Rattle.machine.specs.Analysed.{MachineFits}
use Rattle.attributes.specs.Attributes.{ProgramIs}

pub program-is : {s p : List ℕ} {c : Counts} (P : Program) (v : Attrs) → MachineFits s p c P v → ProgramIs s p c P v
program-is P v f = record { program = f.is; attrs = λ k _. f.attrs k }

module _ (s m : List ℕ) (c : Counts) (x : ℕ) (n : Name) {r : Option ℕ} (f : ivar_found r ≡ ivar_named (Prog.program_view s m c) x (name_in s n)) where
  placed : {a : ℕ} → r ≡ Some a → ivar_named (Prog.program_view s m c) x (name_in s n) ≡ some a
  placed e = sym f ∙ ap ivar_found e

  inside : {a : ℕ} → r ≡ Some a → a < length (class (Prog.program_view s m c) x).ivars
  unfolding ivar_named
  inside {a} e = (places-∈ [] (λ (y : P.Name). same y (name_in s n)) (class (Prog.program_view s m c) x).ivars a (first_in _ (placed e))).0

  pub at_low : {z : Sizes} {a : ℕ} → StateMatches z m c → x < z.classes → r ≡ Some a → a < 64
  at_low {z} {a} y lt e =
      let k = y.classes in
      let g : x < c.classes = omega arith in
      let i = ap length (ivars_are s m c x g) in
      let t = tab-length (ivar_row s m x) (Rows.ivars_of m x) in
      let b = y.ready.ivars x g in
      let l = inside e in
      omega arith

  module _ {p : Program} {v : Attrs} (h : ProgramIs s m c p v) where
    pub at_place : {a : ℕ} → r ≡ Some a → ivar_named p x (name_in s n) ≡ some a
    at_place e = ap (λ (y : Program). ivar_named y x (name_in s n)) h.program ∙ placed e

    pub at_counted : {z : Sizes} {a : ℕ} → StateMatches z m c → x < z.classes → r ≡ Some a → a < v.count x
    at_counted y lt e = let k = y.classes in let t = h.attrs x (omega arith) in let l = inside e in omega arith

    pub no_place : r ≡ None → ivar_named p x (name_in s n) ≡ none
    no_place e = ap (λ (y : Program). ivar_named y x (name_in s n)) h.program ∙ sym f ∙ ap ivar_found e

-- the place that a look-up found is one of the class's row
pub ivar_there : (s : List ℕ) {m : List ℕ} {c : Counts} {x : ℕ} (n : Name) {r : Option ℕ} {z : Sizes} {a : ℕ} → ivar_found r ≡ ivar_named (Prog.program_view s m c) x (name_in s n)
    → StateMatches z m c → x < z.classes → r ≡ Some a → (x < z.classes) × (a < ivars_most)
ivar_there s {m} {c} {x} n f y lt e = (lt, at_low s m c x n f y lt e)

-- ---- read_one

get_some : (L : Limits) (p : Program) (n : P.Name) (k : Kind) (x a : ℕ) (s : State) → ivar_named p x n ≡ some a
    → get_ivar L p n k x s ≡ lift (to_answer (union_of k (get_or (get_or s.ivar_kinds x []) a Empty))) s
unfolding get_ivar
get_some L p n k x a s e = rw e

pub get_none : (L : Limits) (p : Program) (n : P.Name) (k : Kind) (x : ℕ) (s : State) → ivar_named p x n ≡ none → get_ivar L p n k x s ≡ refused 15
unfolding get_ivar
get_none L p n k x s e = rw e

module _ (z : Sizes) (w s m : List ℕ) (c : Counts) (n : Name) (k : Kind) (x : ℕ) {r : Option ℕ} (f : ivar_found r ≡ ivar_named (Prog.program_view s m c) x (name_in s n)) where
  pub got : {a : ℕ} {j : Kind} {u : Joined} → StateMatches z m c → x < z.classes → r ≡ Some a
      → ((v : Attrs) → a < v.count x → j ≡ get_or (get_or (ivars_of z v w) x []) a Empty) → u ≡ union_of k j
      → StateReads z (ProgramIs s m c) (λ L p. get_ivar L p (name_in s n) k x) w u
  got {a} y lt e ej eu = record {
    is = λ L p v h q.
        ap (λ (i : Joined). lift (to_answer i) (state_view z v w q)) (eu ∙ ap (union_of k) (ej v (at_counted s m c x n f h y lt e)))
        ∙ sym (get_some L p (name_in s n) k x a (state_view z v w q) (at_place s m c x n f h e));
  }

  pub got_none : r ≡ None → StateReads z (ProgramIs s m c) (λ L p. get_ivar L p (name_in s n) k x) w (Err UnknownMember)
  got_none e = record { is = λ L p v h q. sym (get_none L p (name_in s n) k x (state_view z v w q) (no_place s m c x n f h e)) }
