-- What the loop of `functions::params::push_params` keeps.
use mathlib.Core.Path.{◌≡◌}
use Rattle.cursor.specs.Parsers.{ParserKept, cursor_of}
use Rattle.functions.proofs.params.Laws.{Binding}
use Rattle.functions.proofs.params.push_params.Given as goal

abbrev pub invariant-loop-k : goal.invariant-loop-k
invariant-loop-k l =
    (Binding l.initial.p.program.limits l.initial.p.program.words.now l.initial.p.scratch.now (cursor_of l.initial.p) l.k l.p.program.words.now l.p.scratch.now (cursor_of l.p)
    × ParserKept l.initial.p l.p)
    × (l.k-end ≡ l.initial.p.args)
