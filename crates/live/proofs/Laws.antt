-- The script that was read, and texts put one behind the other. Assumes nothing.
use Rattle.std.proofs.Common.{◌≡◌, ℕ, ◌+◌, ◌≤◌, ◌<◌, List, ◌++◌, Option, None, Some, IfSome, ◌⊎◌, inl, inr, arith, length, take, sym, ap, ◌∙◌, append-nil, length-append, length-take-le, take_all}
use Rattle.std.specs.Io.KnownBytes.{Appends, Consumes, IsAtEnd}
use borrow.Author.Tests.{lt-leb}
use Rattle.rules.specs.Program.{limits}
use Rattle.rules.specs.Frames.{analyze, live}
use Rattle.rules.proofs.Wellformed.Tests.{lt_or_le}
use Rattle.rules.proofs.Demand.{long-refused}
use Rattle.streams.specs.Moved.{taken_of}
use Rattle.printing.specs.Sent.{number_in, SentTells}
use Rattle.live.specs.declared.Ran.{Ran}
use Rattle.refusals.specs.declared.Refusal.{Refusal}
use Rattle.refusals.specs.Refusals.{number_of}
use Rattle.live.specs.Questions.{line_of}

-- ---- the script

-- a buffer that is full has a script that is too long
pub full-refused : (d : List ℕ) {n : ℕ} → length d ≡ limits.script + 1 → n ≡ length d → number_in (analyze limits (take n d)) ≡ Some 1
full-refused d {n} e f =
    let l : take n d ≡ d = take_all n d (omega arith) in
    rw (l, long-refused limits d (lt-leb (length d) limits.script (omega arith)))

-- two scripts that are both too long have the same answer
long_alike : (s t : List ℕ) → limits.script < length s → limits.script < length t → analyze limits s ≡ analyze limits t
long_alike s t h k = long-refused limits s (lt-leb (length s) limits.script h) ∙ sym (long-refused limits t (lt-leb (length t) limits.script k))

-- what was read of an input that is known has its answer: it is all of the input, or both are too long
input_answer : (input d : List ℕ) (rest : Option (List ℕ)) (n : ℕ) → length d ≡ limits.script + 1 → n ≤ length d → Consumes (Some input) rest (take n d)
    → (n < length d → IsAtEnd rest) → analyze limits (take n d) ≡ analyze limits input
input_answer input d None n l h e end = absurd e
input_answer input d (Some r) n l h e end = go (lt_or_le n (length d))
  where
    long : length (take n d) ≡ n
    long = length-take-le n d h

    go : (n < length d) ⊎ (length d ≤ n) → analyze limits (take n d) ≡ analyze limits input
    go (inr f) = long_alike (take n d) input (omega (arith, long, l, f)) (rw (e, length-append) (omega (arith, long, l, f)))
    go (inl f) = ap (analyze limits) (sym (e ∙ ap (λ x. take n d ++ x) (end f) ∙ append-nil (take n d)))

pub printed : (old rest a b : Option (List ℕ)) (d : List ℕ) (r : Ran) → length d ≡ limits.script + 1 → r.read ≤ length d
    → Consumes old rest (take r.read d) → (r.read < length d → IsAtEnd rest) → SentTells (number_in (analyze limits (take r.read d))) (live (take r.read d)) r.told
    → Appends a b (take (taken_of (live (take r.read d)) r.told) (live (take r.read d)))
    → IfSome old
    (λ input. SentTells (number_in (analyze limits input)) (live input) r.told × Appends a b (take (taken_of (live input) r.told) (live input)))
unfolding live
printed None rest a b d r l h e end g k = tt
printed (Some input) rest a b d r l h e end g k =
    let q = input_answer input d rest r.read l h e end in
    (rw (← q) g, rw (← q) k)

-- ---- the line of a refusal

pub line_is : {t : List ℕ} {e x : Refusal} → e ≡ x → t ≡ line_of (number_of x) → t ≡ line_of (number_of e)
line_is e f = rw e f
