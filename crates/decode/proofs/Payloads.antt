-- A kind that a legal frame tells has the byte and the payload of the frame. Assumes nothing.
use mathlib.Core.Bool.{Bool as 𝔹, true, false, not, ◌&&◌, ◌||◌}
use mathlib.Core.Path.{◌≡◌, refl}
use Prim.Native.Nat.{ℕ, zero, suc, ◌%◌, ◌^◌, ◌<◌}
use native.Mathlib.Nat.{mod-eq_of_lt}
use native.Mathlib.Omega.{arith}
use lib.Dec.{eqb, ltb}
use lib.ListN.{get_or}
use borrow.Author.Tests.{ltb-true}
use mir.Syntax.{w64}
use mir.ValLaws.{of_z-to_z}
use Rattle.kinds.specs.Kinds.{tag_of, payload_of, kind_from}
use Rattle.rules.proofs.Wellformed.Tests.{and-true}
use Rattle.rules.specs.Values.{function_below}
use Rattle.memory.specs.Layout.{functions_most}
use Rattle.decode.specs.Lines.{payload_limits, allowed}
use Rattle.decode.proofs.Lines.{bit_again}

-- 0 is all that is below 1
only_zero : (x : ℕ) → ltb x 1 ≡ true → 0 ≡ x
only_zero x h = let l = ltb-true x 1 h in omega arith

told : (t x : ℕ) → ltb x (get_or payload_limits t 0) ≡ true → x < 2 ^ 64 → (tag_of (kind_from t x) ≡ t) × (payload_of (kind_from t x) ≡ x)
unfolding kind_from
told zero x a h = (refl, only_zero x a)
told (suc zero) x a h = (refl, only_zero x a)
told (suc (suc zero)) x a h = (refl, of_z-to_z w64 x (record { fits = h }))
told (suc (suc (suc zero))) x a h = (refl, bit_again x (ltb-true x 2 a))
told (suc (suc (suc (suc zero)))) x a h = let l = ltb-true x _ a in (refl, mod-eq_of_lt (omega arith))
told (suc (suc (suc (suc (suc zero))))) x a h = let l = ltb-true x _ a in (refl, mod-eq_of_lt (omega arith))
told (suc (suc (suc (suc (suc (suc zero)))))) x a h = (refl, only_zero x a)
told (suc (suc (suc (suc (suc (suc (suc zero))))))) x a h = (refl, only_zero x a)
told (suc (suc (suc (suc (suc (suc (suc (suc zero)))))))) x a h = (refl, refl)
told (suc (suc (suc (suc (suc (suc (suc (suc (suc zero))))))))) x a h = (refl, only_zero x a)
told (suc (suc (suc (suc (suc (suc (suc (suc (suc (suc t)))))))))) x a h = absurd (let l = ltb-true x 0 a in omega arith)

pub kind_back : (t x : ℕ) → allowed t x ≡ true → x < 2 ^ 64 → (tag_of (kind_from t x) ≡ t) × (payload_of (kind_from t x) ≡ x)
kind_back t x a h = told t x (and-true (ltb x (get_or payload_limits t 0)) _ a).0 h

-- whether the function that such a kind names is below the total, asked of its byte and payload
names : (functions t x : ℕ) → ltb x (get_or payload_limits t 0) ≡ true → function_below functions (kind_from t x) ≡ not (eqb t 4) || ltb x functions
unfolding kind_from
names functions zero x a = refl
names functions (suc zero) x a = refl
names functions (suc (suc zero)) x a = refl
names functions (suc (suc (suc zero))) x a = refl
names functions (suc (suc (suc (suc zero)))) x a =
    let l = ltb-true x functions_most a in
    let e : x % 2 ^ 32 ≡ x = mod-eq_of_lt (omega arith) in
    rw e (last (ltb x functions))
  where
    last : (b : 𝔹) → b && true ≡ b
    last true = refl
    last false = refl
names functions (suc (suc (suc (suc (suc zero))))) x a = refl
names functions (suc (suc (suc (suc (suc (suc zero)))))) x a = refl
names functions (suc (suc (suc (suc (suc (suc (suc zero))))))) x a = refl
names functions (suc (suc (suc (suc (suc (suc (suc (suc zero)))))))) x a = refl
names functions (suc (suc (suc (suc (suc (suc (suc (suc (suc zero))))))))) x a = refl
names functions (suc (suc (suc (suc (suc (suc (suc (suc (suc (suc t)))))))))) x a = absurd (let l = ltb-true x 0 a in omega arith)

pub names_told : (functions t x : ℕ) → allowed t x ≡ true → function_below functions (kind_from t x) ≡ not (eqb t 4) || ltb x functions
names_told functions t x a = names functions t x (and-true (ltb x (get_or payload_limits t 0)) _ a).0
