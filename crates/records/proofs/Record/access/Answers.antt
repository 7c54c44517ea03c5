-- `records::Record::access` meets its contract. Assumes nothing.
use mathlib.Core.Path.{refl}
use Rattle.records.proofs.Sorts.{sorted_row, neither}
use Rattle.records.proofs.Record.access.Goals as goal

pub returns-in-GetIvar : goal.returns-in-GetIvar
returns-in-GetIvar c = sorted_row c.args.self c.row.ensures c.in-GetIvar.is

pub returns-in-SetIvar : goal.returns-in-SetIvar
returns-in-SetIvar c = sorted_row c.args.self c.row.ensures c.in-SetIvar.is

pub returns-in_default : goal.returns-in_default
returns-in_default c = neither c.args.self.tag c.row.result.op (sorted_row c.args.self c.row.ensures refl) (λ n e. c.in_default.not-GetIvar n e) (λ n e. c.in_default.not-SetIvar n e)
