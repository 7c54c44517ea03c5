-- `flows::calls::Callers::of` meets its contract. Assumes nothing.
use Rattle.flows.proofs.Rows.{word_start}
use Rattle.flows.proofs.calls.Callers.of.Goals as goal

pub returns : goal.returns
returns c = word_start _ c.args.f.0 0 c.caller_word.ensures
