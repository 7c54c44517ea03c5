-- The exported numbers are those of the calls. Assumes nothing.
use mathlib.Core.Path.{◌≡◌, refl, sym, ap}
use mathlib.Core.List.{List}
use Prim.Native.Nat.{ℕ, ◌+◌}
use Rattle.std.specs.Prelude.{Result, Ok, Err}
use Rattle.refusals.specs.declared.Refusal.{Refusal}
use Rattle.refusals.specs.Refusals.{number_of as number}
use Rattle.call.specs.Call.{Lent, CallLeft, number_of, left}
use Rattle.decode.specs.declared.Loaded.{Loaded}
use Rattle.decode.specs.declared.Loaded.TheVariants as L
use Rattle.decode.specs.declared.Unread.{Unread}
use Rattle.decode.specs.Load.{Outcome, told, number_of as number_unread}
use Rattle.dinqosa.specs.Exported.{byte_of, Gives, number_of as number_told, Reads}

gives : {x : CallLeft} {m : Lent} (r : Result (Unit {0}) Refusal) → x ≡ left (number_of r) m → Gives x (byte_of (number_of r)) m
gives r e = record { byte = sym (ap (λ (y : CallLeft). byte_of y.number) e); memory = sym (ap (λ (y : CallLeft). y.lent) e) }

pub gives_answer : {x : CallLeft} {m : Lent} {r : Result (Unit {0}) Refusal} {u : Unit {0}} → r ≡ Ok u → x ≡ left (number_of r) m → Gives x 0 m
gives_answer {r = r} f e = let g = gives r e in rw f at g

pub gives_refusal : {x : CallLeft} {m : Lent} {r : Result (Unit {0}) Refusal} {q : Refusal} {n : ℕ} → r ≡ Err q → n ≡ number q → x ≡ left (number_of r) m → Gives x n m
gives_refusal {r = r} f i e = let g = gives r e in rw i (rw f at g)

-- ---- a reading

reads : {x : Outcome × List ℕ} {m : List ℕ} (t : Outcome) → x ≡ (t, m) → Reads x (number_told t) m
reads t e = rw e (record { number = refl; memory = refl })

pub reads_answer : {x : Outcome × List ℕ} {m : List ℕ} {l : Loaded} → l ≡ L.Answer → x ≡ (told l, m) → Reads x 0 m
reads_answer {l = l} f e = let g = reads (told l) e in rw f at g

pub reads_refusal : {x : Outcome × List ℕ} {m : List ℕ} {l : Loaded} {n : ℕ} → l ≡ L.Refusal n → x ≡ (told l, m) → Reads x (256 + n) m
reads_refusal {l = l} f e = let g = reads (told l) e in rw f at g

pub reads_nothing : {x : Outcome × List ℕ} {m : List ℕ} {l : Loaded} {u : Unread} {n : ℕ} → l ≡ L.Unread u → n ≡ number_unread u → x ≡ (told l, m) → Reads x n m
reads_nothing {l = l} f i e = let g = reads (told l) e in rw i (rw f at g)
