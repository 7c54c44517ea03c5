-- `settled::touched` meets its contract. Assumes nothing.
use borrow.Author.Tests.{ne_eqb}
use Rattle.settled.proofs.Stamps.{touched_none, touched_read}
use Rattle.settled.proofs.touched.Goals as goal

pub returns-then-words-at-eq-GET_IVAR : goal.returns-then-words-at-eq-GET_IVAR
returns-then-words-at-eq-GET_IVAR c =
    touched_read c.args.words.now c.args.state.now.words.now c.insn_words.ensures (rw c.index.ensures at c.if-words-at-eq-GET_IVAR.true) c.covers.ensures

pub returns-else-words-at-eq-GET_IVAR : goal.returns-else-words-at-eq-GET_IVAR
returns-else-words-at-eq-GET_IVAR c =
    rw (ne_eqb _ _ c.if-words-at-eq-GET_IVAR.false) (touched_none c.args.words.now c.args.state.now.words.now (rw c.index.ensures at c.if-words-at-eq-GET_IVAR.false))
