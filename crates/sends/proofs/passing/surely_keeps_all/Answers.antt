-- `sends::passing::surely_keeps_all` meets its contract. Assumes nothing.
use borrow.Author.Rules.{rules}
use Rattle.chains.proofs.Remaining.{left_callable, left_each}
use Rattle.sends.specs.passing.Passing.{Keeps}
use Rattle.sends.proofs.passing.Passes.{params_within, kept_all}
use Rattle.sends.proofs.passing.surely_keeps_all.Goals as goal

pub all-requires-clause-callable : goal.all-requires-clause-callable
all-requires-clause-callable c =
    left_callable c.new-params.result (params_within c.requires.has_params (λ l d. c.new-params.ensures l (rw c.index.ensures d))) (λ x q r. search rules) (λ x h. search rules)

pub returns : goal.returns
returns c =
    λ e. kept_all c.args.state.now.sizes c.args.state.now.words.now c.requires.has_params (λ l d. c.new-params.ensures l (rw c.index.ensures d))
    (left_each (Keeps c.args.program.now.words.now c.args.program.now.counts c.args.state.now.sizes c.args.state.now.words.now c.args.i.0)
    c.new-params.result c.all.new.self (λ x q k. search rules) c.all.result c.all.ensures.ran e)
