-- `flows::calls::Callers::next` meets its contract. Assumes nothing.
use mathlib.Core.Path.{◌∙◌}
use native.Mathlib.Omega.{arith}
use Rattle.flows.proofs.Rows.{word_next, words_end}
use Rattle.flows.proofs.calls.CallersIterator.next.Goals as goal

pub returns-then-self-word-clause-steps : goal.returns-then-self-word-clause-steps
returns-then-self-word-clause-steps c =
    let d = c.loop-left.invariant.1 ∙ words_end c.args.self.now.state.now.sizes c.args.self.now.state.now.words.now c.args.self.now.f.0
    c.loop-left.word c.args.self.now.within
    (omega arith) (omega arith) in
    (d, d)

pub loop-left-preserved : goal.loop-left-preserved
loop-left-preserved c = (omega arith, c.loop-left.invariant.1 ∙ word_next _ c.args.self.now.f.0 c.loop-left.word (omega arith) c.caller_word-left.ensures)
