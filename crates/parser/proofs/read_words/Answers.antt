-- `parser::read_words` meets its contract. Assumes nothing.
use Rattle.std.proofs.Common.{rules}
use Rattle.parser.proofs.Readers.{read_all}
use Rattle.parser.proofs.read_words.Goals as goal

pub returns-clause-reads : goal.returns-clause-reads
returns-clause-reads c =
    let e = c.start-p.ensures in
    read_all c.start-p.result c.args.limits _ e.script e.limits c.requires.script_in_limits c.requires.script_le_script_most e.starts e.cursor _ c.parse_program-r.ensures
    c.map.result c.map.ensures.cases (λ x r q. search rules)
