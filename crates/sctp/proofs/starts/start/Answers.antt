-- `sctp::starts::start` meets its contract. Assumes nothing.
use Rattle.std.specs.Prelude.{Err, ◌≡◌}
use mathlib.Core.Path.{refl}
use borrow.Author.Rules.{rules}
use Rattle.sctp.proofs.starts.Starting.{jumps_inside, entries-inside, code-held, start_none, start-refused, start-live}
use Rattle.sctp.proofs.starts.start.Goals as goal

pub returns-then-code-eq0 : goal.returns-then-code-eq0
returns-then-code-eq0 c = (record { words = refl; sizes = refl }, start_none c.requires.indexed c.if-code-eq0.true)

pub invariant_of-flow : goal.invariant_of-flow
invariant_of-flow c = record { inside = jumps_inside c.requires.indexed }

pub all_first_kinds-requires-clause-entries : goal.all_first_kinds-requires-clause-entries
all_first_kinds-requires-clause-entries c = entries-inside c.requires.indexed

pub returns-in_err-all_first_kinds : goal.returns-in_err-all_first_kinds
returns-in_err-all_first_kinds c =
    let e : c.from_residual.result ≡ Err c.in_err-all_first_kinds.field-0.0 = search rules in
    rw e
    (record { words = refl; sizes = refl }, start-refused c.requires.indexed c.if-code-eq0.false (rw c.in_err-all_first_kinds.was at c.all_first_kinds.ensures))

pub go_live-requires-clause-has_code : goal.go_live-requires-clause-has_code
go_live-requires-clause-has_code c = code-held c.requires.indexed

pub returns : goal.returns
returns c = (
  record { words = c.go_live.ensures.lent.words; sizes = c.go_live.ensures.lent.sizes },
  start-live c.requires.indexed c.requires.state_cleared c.if-code-eq0.false (rw c.in_ok-all_first_kinds.was at c.all_first_kinds.ensures) c.main_entry-b.ensures
      c.no_entries-state.ensures c.go_live.ensures.did,
)
