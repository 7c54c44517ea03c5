-- What falls at each call in the cycle `expression`, and what its loops keep.
use Prim.Native.Nat.{◌*◌, ◌+◌, ◌-◌}
use Rattle.expressions.proofs.Standing.{ArgsStand, SuffixStand}
use lib.ListN.{length}
use Rattle.expressions.proofs.+expression.Given as goal

abbrev pub decreases-parse_arg : goal.decreases-parse_arg
decreases-parse_arg l = 8 * l.depth + 2

abbrev pub decreases-parse_args : goal.decreases-parse_args
decreases-parse_args l = 8 * l.depth + 3

abbrev pub decreases-parse_call : goal.decreases-parse_call
decreases-parse_call l = 8 * l.depth + 4

abbrev pub decreases-parse_expr : goal.decreases-parse_expr
decreases-parse_expr l = 8 * l.depth + 1

abbrev pub decreases-parse_from : goal.decreases-parse_from
decreases-parse_from l = 8 * l.depth

abbrev pub decreases-parse_group : goal.decreases-parse_group
decreases-parse_group l = 8 * l.depth + 2

abbrev pub decreases-parse_ivar : goal.decreases-parse_ivar
decreases-parse_ivar l = 8 * l.depth + 2

abbrev pub decreases-parse_member : goal.decreases-parse_member
decreases-parse_member l = 8 * l.depth + 4

abbrev pub decreases-parse_name : goal.decreases-parse_name
decreases-parse_name l = 8 * l.depth + 2

abbrev pub decreases-parse_primary : goal.decreases-parse_primary
decreases-parse_primary l = 8 * l.depth + 3

abbrev pub decreases-parse_right : goal.decreases-parse_right
decreases-parse_right l = 8 * l.depth + 2

abbrev pub decreases-parse_suffix : goal.decreases-parse_suffix
decreases-parse_suffix l = 8 * l.depth + 5

abbrev pub decreases-parse_suffixes : goal.decreases-parse_suffixes
decreases-parse_suffixes l = 8 * l.depth + 6

abbrev pub invariant-parse_args-loop : goal.invariant-parse_args-loop
invariant-parse_args-loop l = ArgsStand l.depth l.initial.p l.p

abbrev pub decreases-parse_args-loop : goal.decreases-parse_args-loop
decreases-parse_args-loop l = length l.initial.p.script.now - l.p.at

abbrev pub invariant-parse_suffixes-loop-w : goal.invariant-parse_suffixes-loop-w
invariant-parse_suffixes-loop-w l = SuffixStand l.prec l.depth l.initial.p l.initial.left l.p l.left

abbrev pub decreases-parse_suffixes-loop-w : goal.decreases-parse_suffixes-loop-w
decreases-parse_suffixes-loop-w l = length l.initial.p.script.now - l.p.at
