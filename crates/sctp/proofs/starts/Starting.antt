-- The ways through the start. Assumes nothing.
use mathlib.Core.Bool.{Bool as 𝔹, true, false}
use mathlib.Core.Path.{◌≡◌, refl, sym, ap, ap₂, ◌∙◌}
use mathlib.Core.List.{List}
use Prim.Native.Nat.{ℕ, ◌≤◌, ◌<◌}
use native.Mathlib.Omega.{arith}
use borrow.Author.Tests.{eq-eqb, ne_eqb}
use lib.Dec.{eqb}
use lib.ListN.{length}
use Rattle.kinds.specs.declared.Kind.{Kind}
use Rattle.rules.specs.Actions.{Answer, answered, refused, choose, if_answered}
use Rattle.rules.specs.Program as R
use Rattle.rules.specs.Program.{Limits, Program, entry, main_function}
use Rattle.rules.specs.Machine.{State, state_of, start, first_kinds_from, go_live, blank}
use Rattle.rules.proofs.Exactness.Promise.{main_in, entry_in}
use Rattle.program.specs.View as P
use Rattle.program.specs.View.{ReadsFun}
use Rattle.program.specs.declared.Counts.{Counts}
use Rattle.program.specs.declared.Function.{Function}
use Rattle.program.proofs.Viewing.{functions-length, classes-length, blocks-length}
use Rattle.constructors.specs.Walks.{WalkInside}
use Rattle.constructors.proofs.Promise.{inside_of}
use Rattle.state.specs.declared.Sizes.{Sizes}
use Rattle.state.specs.declared.Regs.{Regs}
use Rattle.state.specs.Acted.{Acted, On, Refused}
use Rattle.state.specs.View.{StateCleared, no_entries}
use Rattle.state.specs.Changes.{ReadyAfter, StateDid}
use Rattle.machine.specs.blocks.Blocks.{HasCode, CodeIs}
use Rattle.machine.proofs.blocks.Indexed.{has_code, code_is}
use Rattle.std.specs.Prelude.{Result, Ok, Err, ⊤}
use Rattle.refusals.specs.Refusals.{number_of}
use Rattle.refusals.specs.declared.Refusal.{Refusal}
use Rattle.constructors.specs.firsts.Firsts.{Entries, outcome, all_kinds_at, FirstsAre}
use Rattle.constructors.proofs.firsts.Promise.{entries_of}
use Rattle.machine.specs.Analysed.{Indexed, Suited}
use Rattle.memory.specs.Layout.{blocks_room}
use Rattle.state.specs.Layout.{ivar_kinds_at, ivar_bits_at}
use Rattle.sctp.specs.starts.Starts.{Mains, BegunIf, Started}
use Rattle.sctp.proofs.starts.Filled.{filled_view}

-- ---- the rules' start by its tests

module _ (L : Limits) (p : Program) where
  start_by : (b : 𝔹) (a : Answer (List (List Kind))) → eqb (length p.functions) 0 ≡ b → first_kinds_from L p 0 (length p.classes) ≡ a
      → start L p ≡ choose b (λ _. refused 12) (λ _. if_answered a (λ l. state_of L p (go_live L p (entry p (main_function p)) (blank L p l))))
  unfolding start
  start_by b a e f = ap₂ (λ (x : 𝔹) (y : Answer (List (List Kind))). choose x (λ _. refused 12) (λ _. if_answered y (λ l. state_of L p (go_live L p (entry p (main_function p)) (blank L p l))))) e f

begun : (z : Sizes) (w : List ℕ) (r : Acted) → ReadyAfter z no_entries w r → BegunIf z w r
begun z w (On q) h = record { ready = h.ready; count = h.count }
begun z w (Refused n) h = tt

-- ---- the main entry

module _ {s p : List ℕ} {c : Counts} {L : Limits} (a : Suited s p c L) where
  pub main-below : {f : ℕ} → 0 < c.functions → f ≡ main_function (P.program_view s p c) → f < c.functions
  main-below h e = let l = functions-length s p c.functions in rw e (let m = main_in (P.program_view s p c) (omega arith) in omega arith)

  pub main-entered : {f : ℕ} {row : Function} → 0 < c.functions → f ≡ main_function (P.program_view s p c) → ReadsFun p c f row → Mains s p c row.entry.0
  main-entered {f} {row} h e g =
      let l = functions-length s p c.functions in
      let b = blocks-length p c.blocks in
      let i : row.entry.0 ≡ entry (P.program_view s p c) (main_function (P.program_view s p c)) = sym (ap (λ (y : R.Function). y.entry) (g.is s)) ∙ ap (entry (P.program_view s p c)) e in
      let m = entry_in a.finished (main_function (P.program_view s p c)) (main_in (P.program_view s p c) (omega arith)) in
      record { is = i; inside = omega arith }

module _ {s p : List ℕ} {c : Counts} {x : List ℕ} {z : Sizes} (a : Indexed s p c x z) where
  -- ---- what the calls rely on

  pub jumps_inside : WalkInside p c
  jumps_inside = inside_of s p c a.suited.finished

  pub entries-inside : Entries p c
  entries-inside = entries_of s p c a.suited.finished

  few : z.blocks ≤ blocks_room
  few = omega (arith, a.sized.blocks, a.ready.blocks)

  pub code-held : HasCode z x
  code-held = has_code z p c x a.index a.sized.insns few

  -- ---- the ways

  module _ (L : Limits) where
    some-functions : (c.functions ≡ 0 → ⊥) → eqb (length (P.program_view s p c).functions) 0 ≡ false
    some-functions h = let l = functions-length s p c.functions in ne_eqb (length (P.program_view s p c).functions) 0 (λ q. h (sym l ∙ q))

    all-classes : {m w : List ℕ} {e : Result ⊤ Refusal} → FirstsAre s p c ivar_kinds_at ivar_bits_at m w e
        → first_kinds_from L (P.program_view s p c) 0 (length (P.program_view s p c).classes) ≡ outcome e (all_kinds_at p c ivar_kinds_at ivar_bits_at w)
    all-classes f = ap (first_kinds_from L (P.program_view s p c) 0) (classes-length s p c.classes) ∙ sym (f.is L)

  pub start_none : {m : List ℕ} → c.functions ≡ 0 → Started s p c z m (Refused 12)
  start_none h = record {
    is = λ L S v f. let l = functions-length s p c.functions in sym (start_by L (P.program_view s p c) true _ (eq-eqb _ 0 (l ∙ h)) refl);
    ok = tt;
  }

  pub start-refused : {m w : List ℕ} {e : Refusal} → (c.functions ≡ 0 → ⊥) → FirstsAre s p c ivar_kinds_at ivar_bits_at m w (Err e) → Started s p c z w (Refused (number_of e))
  start-refused {m} {w} {e} h f = record {
    is = λ L S v _. sym (start_by L (P.program_view s p c) false (refused (number_of e)) (some-functions L h) (all-classes L f));
    ok = tt;
  }

  pub start-live : {m w : List ℕ} {u : ⊤} {b : ℕ} {q : Regs} {w' : List ℕ} {r : Acted} → StateCleared z m → (c.functions ≡ 0 → ⊥)
      → FirstsAre s p c ivar_kinds_at ivar_bits_at m w (Ok u) → Mains s p c b → q ≡ no_entries
      → StateDid z (CodeIs z x) (λ L P. go_live L P b) w q w' r → Started s p c z w' r
  start-live {m} {w} {u} {b} {q} {w'} {r} g h f i j d =
      let d' = rw j at d in
      record {
        is = λ L S v t.
            ap (state_of L (P.program_view s p c)) (d'.is L S.room.worklist (P.program_view s p c) v (code_is z p c x a.index a.sized.insns few s v)
            ∙ ap₂ (λ (y : ℕ) (st : State). go_live L (P.program_view s p c) y st) i.is (filled_view s p c z a.sized a.ready m w g f.only L v t))
            ∙ sym (start_by L (P.program_view s p c) false (answered (all_kinds_at p c ivar_kinds_at ivar_bits_at w)) (some-functions L h)
            (all-classes L f));
        ok = begun z w' r d'.ok;
      }
