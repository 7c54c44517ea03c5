-- `decode::line_at` meets its contract. Assumes nothing.
use Rattle.std.proofs.Common.{rules}
use Rattle.decode.proofs.LineParts.{line_no_byte, line_no_sort, line_no_numbers, line_cut, line_no_end, line_illegal, line_is}
use Rattle.decode.proofs.line_at.Goals as goal

pub returns-in_err-byte : goal.returns-in_err-byte
returns-in_err-byte c = search (rules, line_no_byte)

pub returns-in_err-sort : goal.returns-in_err-sort
returns-in_err-sort c = search (rules, line_no_sort)

pub returns-in_err-end : goal.returns-in_err-end
returns-in_err-end c = search (rules, line_no_numbers)

pub returns-in_err-get : goal.returns-in_err-get
returns-in_err-get c = search (rules, line_cut)

pub returns-then-branch-ne10 : goal.returns-then-branch-ne10
returns-then-branch-ne10 c = search (rules, line_no_end)

pub returns-in_err-frame : goal.returns-in_err-frame
returns-in_err-frame c = search (rules, line_illegal)

pub returns : goal.returns
returns c = search (rules, line_is)
