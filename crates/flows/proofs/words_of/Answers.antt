-- `flows::words_of` meets its contract. Assumes nothing.
use Rattle.flows.proofs.Standing.{words_inside}
use Rattle.flows.proofs.words_of.Goals as goal

pub insn_words-requires : goal.insn_words-requires
insn_words-requires c = rw c.number_in.ensures (record { i_lt_insns = search words_inside })
