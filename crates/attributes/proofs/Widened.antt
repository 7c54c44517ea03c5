-- An attribute is widened, in one class and in a receiver's. Assumes nothing.
use mathlib.Core.Bool.{Bool as 𝔹, true, false}
use mathlib.Core.Option.{none, some}
use mathlib.Core.Path.{◌≡◌, refl, sym, ap, ◌∙◌}
use mathlib.Core.List.{List, []}
use Prim.Native.Nat.{ℕ, ◌<◌}
use lib.ListN.{get_or}
use Rattle.std.specs.Prelude.{Result, Ok, Err}
use Rattle.kinds.specs.declared.Kind.{Kind}
use Rattle.kinds.specs.declared.Kind.TheVariants.{Empty}
use Rattle.kinds.specs.Kinds.{same_kind}
use Rattle.kinds.specs.Union.{Joined, union_of}
use Rattle.ids.specs.Sets.{members_of}
use Rattle.rules.specs.Actions.{answered, refused, ◌>>=◌, the, each}
use Rattle.rules.specs.Program as P
use Rattle.rules.specs.Program.{Limits, Program, ivar_named}
use Rattle.rules.specs.Machine.{State, Acts, kind_of, set_ivar_kind, set_ivar}
use Rattle.program.specs.declared.Counts.{Counts}
use Rattle.program.specs.declared.Name.{Name}
use Rattle.program.specs.declared.Opnd.{Opnd}
use Rattle.program.specs.Rows.{name_in, opnd_of}
use Rattle.program.specs.View as Prog
use Rattle.std.proofs.Common.{Option, Some, None}
use Rattle.lookups.specs.Look.{ivar_found}
use Rattle.state.specs.declared.State as S
use Rattle.state.specs.View.{Attrs, kinds_of, ivars_of}
use Rattle.state.specs.Methods.{view, Put, Did}
use Rattle.state.proofs.Methods.{along_start, along_put, along_last, along_end, along_refused}
use Rattle.refusals.specs.declared.Refusal.TheVariants.{UnknownMember}
use Rattle.machine.specs.opnds.Reads.{kind_in}
use Rattle.machine.proofs.opnds.Given.{kind_of_lem}
use Rattle.refusals.specs.declared.Refusal.{Refusal}
use Rattle.refusals.specs.Refusals.{number_of as question_of}
use Rattle.machine.specs.receivers.Receivers.{StateMatches, Receives}
use Rattle.machine.proofs.receivers.Walk.{did-met}
use Rattle.attributes.specs.Attributes.{ProgramIs, set_ivars, wake_reads}
use Rattle.attributes.proofs.Found.{at_place, at_counted, no_place}

set-none : (L : Limits) (p : Program) (n : P.Name) (k : Kind) (c : ℕ) (s : State) → ivar_named p c n ≡ none → set_ivar L p n k c s ≡ refused 15
unfolding set_ivar
set-none L p n k c s e = rw e

module _ (L : Limits) (p : Program) (n : P.Name) (k : Kind) (c a : ℕ) (s : State) (f : ivar_named p c n ≡ some a) where
  abbrev old : Kind
  old = get_or (get_or s.ivar_kinds c []) a Empty

  set_no : (x : Refusal) → union_of old k ≡ Err x → set_ivar L p n k c s ≡ refused (question_of x)
  unfolding set_ivar
  set_no x e = rw (f, e)

  set-old : (u : Kind) → union_of old k ≡ Ok u → same_kind u old ≡ true → set_ivar L p n k c s ≡ answered (tt, s)
  unfolding set_ivar
  set-old u e t = rw (f, e, t)

  set_new : (u : Kind) → union_of old k ≡ Ok u → same_kind u old ≡ false → set_ivar L p n k c s ≡ wake_reads L p c n (set_ivar_kind c a u s)
  unfolding set_ivar wake_reads
  set_new u e t = rw (f, e, t)

module _ (s pm : List ℕ) (pc : Counts) (st : S.State) (n : Name) (k : Kind) (x : ℕ) {r : Option ℕ}
    (f : ivar_found r ≡ ivar_named (Prog.program_view s pm pc) x (name_in s n)) where
  pub widen_none : r ≡ None → Did (ProgramIs s pm pc) (λ L p. set_ivar L p (name_in s n) k x) st st (Err UnknownMember)
  widen_none e = along_refused (along_start st) UnknownMember (λ L room p v h. set-none L p (name_in s n) k x (view v st) (no_place s pm pc x n f h e))

  -- o: the old kind as it was read; j: its union with k, as it was answered
  module _ (y : StateMatches st.sizes pm pc) (lt : x < st.sizes.classes) {a : ℕ} (e : r ≡ Some a) {o : Kind} {j : Joined}
      (g : (v : Attrs) → a < v.count x → o ≡ get_or (get_or (ivars_of st.sizes v st.words.now) x []) a Empty) (u : j ≡ union_of o k) where
    module _ {p : Program} {v : Attrs} (h : ProgramIs s pm pc p v) where
      was : o ≡ get_or (get_or (ivars_of st.sizes v st.words.now) x []) a Empty
      was = g v (at_counted s pm pc x n f h y lt e)

      joined : {i : Joined} → j ≡ i → union_of (get_or (get_or (ivars_of st.sizes v st.words.now) x []) a Empty) k ≡ i
      joined i = ap (λ (b : Kind). union_of b k) (sym was) ∙ sym u ∙ i

      told : (w : Kind) {t : 𝔹} → same_kind w o ≡ t → same_kind w (get_or (get_or (ivars_of st.sizes v st.words.now) x []) a Empty) ≡ t
      told w t = ap (same_kind w) (sym was) ∙ t

    pub widen_refused : {t : Refusal} → j ≡ Err t → Did (ProgramIs s pm pc) (λ L p. set_ivar L p (name_in s n) k x) st st (Err t)
    widen_refused {t} i = along_refused (along_start st) t (λ L room p v h. set_no L p (name_in s n) k x a (view v st) (at_place s pm pc x n f h e) t (joined h i))

    module _ {w : Kind} (i : j ≡ Ok w) where
      pub widen_same : same_kind w o ≡ true → Did (ProgramIs s pm pc) (λ L p. set_ivar L p (name_in s n) k x) st st (Ok tt)
      widen_same t = along_end (along_start st) (λ L room p v h. set-old L p (name_in s n) k x a (view v st) (at_place s pm pc x n f h e) w (joined h i) (told h w t))

      pub widen_new : {st' su : S.State} (d : Result (Unit {0}) Refusal) → same_kind w o ≡ false → Put (set_ivar_kind x a w) st st'
          → Did (ProgramIs s pm pc) (λ L p. wake_reads L p x (name_in s n)) st' su d → Did (ProgramIs s pm pc) (λ L p. set_ivar L p (name_in s n) k x) st su d
      widen_new d t put did =
          along_last
          (along_put (along_start st) (λ L p. wake_reads L p x (name_in s n)) put
          (λ L room p v h. set_new L p (name_in s n) k x a (view v st) (at_place s pm pc x n f h e) w (joined h i) (told h w t)))
          d did (λ p v h. h) (λ L room p v h. refl)

-- ---- set_ivar

module _ (s pm : List ℕ) (pc : Counts) (st : S.State) (n : Name) (o v : Opnd) {r : Result ℕ Refusal} (d : Receives st.sizes st.words.now o r) where
  abbrev widens : Limits → Program → List ℕ → Acts (Unit {0})
  widens L p cs = the (λ s. kind_of s (opnd_of v)) >>= λ k. each cs (set_ivar L p (name_in s n) k)

  pub set-met : {k : Kind} {c : ℕ} {su : S.State} (a : Result (Unit {0}) Refusal) → k ≡ kind_in (kinds_of st.sizes st.words.now) (opnd_of v) → r ≡ Ok c
      → Did (ProgramIs s pm pc) (λ L p. each (members_of c) (set_ivar L p (name_in s n) k)) st su a
      → Did (ProgramIs s pm pc) (λ L p. set_ivars L p (name_in s n) (opnd_of o) (opnd_of v)) st su a
  set-met {k} {c} a ek e g =
      did-met st o d (ProgramIs s pm pc) widens a e
      (along_last (along_start st) a g (λ p u h. h)
      (λ L room p u h. ap (λ (y : Kind). each (members_of c) (set_ivar L p (name_in s n) y) (view u st)) (kind_of_lem (view u st) (opnd_of v) ∙ sym ek)))
