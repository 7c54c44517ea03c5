-- `decode::number` meets its contract. Assumes nothing.
use Rattle.std.proofs.Common.{rules}
use native.Mathlib.Omega.{arith}
use Rattle.decode.proofs.Lines.{digit-back}
use Rattle.decode.proofs.Digits.{numbering_start, numbering_more, numbering_bad, numbering_short, numbering_done, small_64}
use Rattle.decode.proofs.number.Goals as goal

pub loop-i-init : goal.loop-i-init
loop-i-init c = numbering_start _ _ _ c.requires.0

pub returns-in_err-c : goal.returns-in_err-c
returns-in_err-c c = search (rules, numbering_short)

pub returns-in_err-n : goal.returns-in_err-n
returns-in_err-n c = search (rules, numbering_bad)

pub overflow_mul-n : goal.overflow_mul-n
overflow_mul-n c = let s = small_64 c.loop-i.n c.loop-i.i c.loop-i.invariant.small (omega (arith, c.loop-i-test.true, c.requires.1)) in record { fits = omega (arith, s) }

pub overflow_add-n : goal.overflow_add-n
overflow_add-n c =
    let s = small_64 c.loop-i.n c.loop-i.i c.loop-i.invariant.small (omega (arith, c.loop-i-test.true, c.requires.1)) in
    let d = digit-back c.in_ok-c.field-0.now c.in_ok-n.field-0 (search rules) in
    let z = d.1 in
    record { fits = omega (arith, s, z) }

pub loop-i-preserved : goal.loop-i-preserved
loop-i-preserved c = numbering_more c.loop-i.invariant c.loop-i-test.true (search rules) (search rules)

pub returns : goal.returns
returns c = search (rules, numbering_done)
