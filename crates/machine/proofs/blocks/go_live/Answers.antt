-- `machine::blocks::go_live` meets its contract. Assumes nothing.
use Rattle.machine.proofs.blocks.Live.{live-old, live-new}
use Rattle.machine.proofs.blocks.go_live.Goals as goal

pub returns-then-is_live : goal.returns-then-is_live
returns-then-is_live c = live-old c.args.state.now c.args.chains.now c.args.b.0 c.is_live.ensures c.if-is_live.true

pub returns : goal.returns
returns c = live-new c.args.state.now c.args.chains.now c.args.b.0 c.is_live.ensures c.push_code.result c.if-is_live.false c.set_live.ensures c.push_code.ensures
