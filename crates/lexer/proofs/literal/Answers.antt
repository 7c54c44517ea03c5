-- `lexer::literal` meets its contract. Assumes nothing.
use Rattle.std.proofs.Common.{◌∙◌, w64, arith}
use Rattle.std.proofs.lemmas.Int.{to_z-of_z}
use Rattle.lexer.proofs.Runs.{literal-more, tens_large, sum_large, literal-done}
use Rattle.lexer.proofs.literal.Goals as goal

pub returns-in_err-checked_mul : goal.returns-in_err-checked_mul
returns-in_err-checked_mul c = c.from_residual.ensures ∙ tens_large c.loop-digit.invariant c.loop-digit-test.true c.in_err-checked_mul.ensures

pub returns-in_err-value : goal.returns-in_err-value
returns-in_err-value c =
    let tens = rw (← c.in_ok-checked_mul.ensures.1) at c.in_ok-checked_mul.ensures.0 in
    let no_sum = simp (to_z-of_z w64 _ tens, to_z-of_z w64 c.from.result (record { sfits = c.from.type_inv })) at c.in_err-value.ensures in
    c.from_residual-in_err-value.ensures
    ∙ sum_large c.loop-digit.invariant c.loop-digit-test.true c.in_ok-checked_mul.ensures.1 (omega arith) c.from.ensures no_sum

pub loop-digit-preserved : goal.loop-digit-preserved
loop-digit-preserved c =
    let tens = rw (← c.in_ok-checked_mul.ensures.1) at c.in_ok-checked_mul.ensures.0 in
    let sum = simp (to_z-of_z w64 _ tens, to_z-of_z w64 c.from.result (record { sfits = c.from.type_inv })) at c.in_ok-value.ensures in
    simp (to_z-of_z w64 _ (rw (← sum.1) at sum.0))
    (literal-more c.loop-digit.invariant c.loop-digit-test.true c.in_ok-checked_mul.ensures.1 (omega arith) c.from.ensures sum)

pub returns : goal.returns
returns c = literal-done c.loop-digit.invariant c.loop-digit-test.false
