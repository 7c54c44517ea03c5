-- `uses::Cells::link` meets its contract. Assumes nothing.
use Rattle.uses.proofs.Linking.{link_old, link_new}
use Rattle.uses.proofs.Cells.link.Goals as goal

pub returns-then-eq : goal.returns-then-eq
returns-then-eq c = link_old _ _ _ _ c.user.ensures c.eq.ensures c.if-eq.true

pub returns : goal.returns
returns c =
    link_new _ _ _ _ c.user.ensures c.eq.ensures c.if-eq.false c.args.self.now.long c.requires.some_free
    c.args.self.now.few c.requires.i_lt_instructions_most.1
