-- The rules of a choice and of a Return. Assumes nothing.
use mathlib.Core.Bool.{Bool as 𝔹, true, false, not}
use mathlib.Core.Path.{◌≡◌, refl, sym, ap, ◌∙◌}
use Prim.Native.Nat.{ℕ}
use Rattle.std.specs.Prelude.{Result, Ok, Err}
use Rattle.refusals.specs.declared.Refusal.{Refusal}
use Rattle.kinds.specs.declared.Kind.{Kind}
use Rattle.kinds.specs.Kinds.{is_empty}
use Rattle.kinds.specs.Rules.{admits}
use Rattle.rules.specs.Actions.{answered, unless, ◌>>◌}
use Rattle.rules.specs.Program as P
use Rattle.rules.specs.Program.{Limits, Program, IfTrue, Return, function_of}
use Rattle.rules.specs.Machine as R
use Rattle.rules.specs.Machine.{push_block, leave}
use Rattle.program.specs.declared.Opnd.{Opnd}
use Rattle.program.specs.Rows.{opnd_of}
use Rattle.state.specs.declared.State.{State}
use Rattle.state.specs.View.{kinds_of}
use Rattle.state.specs.Changes.{Every, wake_callers}
use Rattle.state.specs.Methods.{view, Did}
use Rattle.state.proofs.Methods.{along_start, along_step, along_stop, along_last, along_end}
use Rattle.machine.specs.opnds.Reads.{kind_in, FunctionIs}
use Rattle.machine.proofs.opnds.Given.{kind_of_lem}

-- ---- a choice

-- a block waits where a test says so
unfoldable pub push_block_if : Limits → Program → 𝔹 → ℕ → R.Acts (Unit {0})
push_block_if L p b i = unless (not b) (push_block L p i)

if_yes : (L : Limits) (p : Program) (i : ℕ) (s : R.State) → push_block_if L p true i s ≡ push_block L p i s
unfolding push_block_if
if_yes L p i s = refl

if_no : (L : Limits) (p : Program) (i : ℕ) (s : R.State) → push_block_if L p false i s ≡ answered (tt, s)
unfolding push_block_if
if_no L p i s = refl

module _ (s : State) (b : 𝔹) (i : ℕ) where
  pub block_pushed : {t : State} (r : Result (Unit {0}) Refusal) → b ≡ true → Did Every (λ L p. push_block L p i) s t r → Did Every (λ L p. push_block_if L p b i) s t r
  block_pushed r e d = rw e (along_last (along_start s) r d (λ p v h. h) (λ L room p v h. if_yes L p i (view v s)))

  pub block_passed : b ≡ false → Did Every (λ L p. push_block_if L p b i) s s (Ok tt)
  block_passed e = rw e (along_end (along_start s) (λ L room p v h. if_no L p i (view v s)))

choice_is : (L : Limits) (p : Program) (i t e : ℕ) (v : P.Opnd) (s : R.State)
    → leave L p i (IfTrue v t e) s ≡ (push_block_if L p (admits true (kind_in s.kinds v)) t >> push_block_if L p (admits false (kind_in s.kinds v)) e) s
unfolding leave push_block_if
choice_is L p i t e v s = rw (kind_of_lem s v)

module _ (s : State) (o : Opnd) (t e : ℕ) {k : Kind} {a b : 𝔹} (ek : k ≡ kind_in (kinds_of s.sizes s.words.now) (opnd_of o)) (ea : a ≡ admits true k) (eb : b ≡ admits false k) where
  chosen : (i : ℕ) (L : Limits) (p : Program) (v : _) → leave L p i (IfTrue (opnd_of o) t e) (view v s) ≡ (push_block_if L p a t >> push_block_if L p b e) (view v s)
  chosen i L p v = choice_is L p i t e (opnd_of o) (view v s) ∙ rw (ea, eb, ek) refl

  pub choice_both : {u x : State} {y : Result (Unit {0}) Refusal} {n : Unit {0}} (r : Result (Unit {0}) Refusal) → Did Every (λ L p. push_block_if L p a t) s u y → y ≡ Ok n
      → Did Every (λ L p. push_block_if L p b e) u x r → (i : ℕ) → Did Every (λ L p. leave L p i (IfTrue (opnd_of o) t e)) s x r
  choice_both r d1 h d2 i =
      along_last (along_step (along_start s) {left' = λ L p. push_block_if L p b e} d1 h (λ p v g. g) (λ L room p v g. chosen i L p v)) r d2 (λ p v g. g) (λ L room p v g. refl)

  pub choice_stop : {u : State} {y : Result (Unit {0}) Refusal} {n : Refusal} → Did Every (λ L p. push_block_if L p a t) s u y → y ≡ Err n
      → (i : ℕ) → Did Every (λ L p. leave L p i (IfTrue (opnd_of o) t e)) s u (Err n)
  choice_stop d1 h i = along_stop (along_start s) (λ L p. push_block_if L p b e) d1 h (λ p v g. g) (λ L room p v g. chosen i L p v)

-- ---- a Return

return_none : (L : Limits) (p : Program) (i : ℕ) (v : P.Opnd) (s : R.State) → is_empty (kind_in s.kinds v) ≡ true → leave L p i (Return v) s ≡ answered (tt, s)
unfolding leave
return_none L p i v s e = rw (kind_of_lem s v, e)

return_some : (L : Limits) (p : Program) (i : ℕ) (v : P.Opnd) (s : R.State) → is_empty (kind_in s.kinds v) ≡ false
    → leave L p i (Return v) s ≡ wake_callers L p (function_of p i) (kind_in s.kinds v) s
unfolding leave wake_callers
return_some L p i v s e = rw (kind_of_lem s v, e)

module _ (s : State) (f : ℕ) (o : Opnd) {k : Kind} {b : 𝔹} (ek : k ≡ kind_in (kinds_of s.sizes s.words.now) (opnd_of o)) (eb : b ≡ is_empty k) where
  pub return_nothing : b ≡ true → (i : ℕ) → Did (FunctionIs i f) (λ L p. leave L p i (Return (opnd_of o))) s s (Ok tt)
  return_nothing h i = along_end (along_start s) (λ L room p v g. return_none L p i (opnd_of o) (view v s) (ap is_empty (sym ek) ∙ sym eb ∙ h))

  pub return_kind : {t : State} (r : Result (Unit {0}) Refusal) → b ≡ false → Did Every (λ L p. wake_callers L p f k) s t r
      → (i : ℕ) → Did (FunctionIs i f) (λ L p. leave L p i (Return (opnd_of o))) s t r
  return_kind r h d i =
      along_last (along_start s) r d (λ p v g. tt)
      (λ L room p v g. return_some L p i (opnd_of o) (view v s) (ap is_empty (sym ek) ∙ sym eb ∙ h) ∙ rw (ek, g.is) refl)
