-- What stood before an `ok_or`, and what a `?` hands on. Assumes nothing.
use mathlib.Core.Path.{◌≡◌, refl}
use Rattle.std.specs.Prelude.{Option, Some, None, Result, Ok, Err, IsErrAnd}
use Rattle.std.specs.Option.{ok_or}

module _ {A E : Type 0} where
  pub there : (o : Option A) (e : E) {x : A} → Ok x ≡ ok_or o e → o ≡ Some x
  there (Some y) e p = cc
  there None e p = cc

  pub missing : (o : Option A) {e d : E} → Err d ≡ ok_or o e → (o ≡ None) × (d ≡ e)
  missing (Some y) p = cc
  missing None p = (refl, cc)

  pub failed : {e : E} (r : Result A E) → IsErrAnd r (λ (d : E). d ≡ e) → r ≡ Err e
  failed (Ok x) h = absurd h
  failed (Err d) h = cc
