-- What the loop of `chains::chain` keeps.
use Rattle.chains.specs.Chains.{place_of}
use Rattle.chains.proofs.Laws.{Chaining}
use Rattle.chains.proofs.chain.Given as goal

abbrev pub invariant-loop-i : goal.invariant-loop-i
invariant-loop-i l = Chaining l.program.words.now l.program.counts.insns (place_of l.sort) l.initial.scratch l.scratch l.i
