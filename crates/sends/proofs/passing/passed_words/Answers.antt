-- `sends::passing::passed_words` meets its contract. Assumes nothing.
use Rattle.sends.proofs.passing.Passes.{argument-inside, kind-passed}
use Rattle.sends.proofs.passing.passed_words.Goals as goal

pub opnd_words-requires-clause-operand_inside : goal.opnd_words-requires-clause-operand_inside
opnd_words-requires-clause-operand_inside c = argument-inside _ c.requires.caller c.argument_at-at.ensures.is

pub returns : goal.returns
returns c =
    kind-passed c.args.state.now.words.now c.args.i.0 c.place_of-n.ensures c.argument_at-at.ensures.is c.opnd_words.ensures
