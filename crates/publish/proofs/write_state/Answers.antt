-- `publish::write_state` meets its contract. Assumes nothing.
use Rattle.std.proofs.Common.{rules}
use Rattle.kinds.specs.Kinds.{tag_of, payload_of}
use Rattle.publish.proofs.Tables.{lives-length, live_word, mapped-length, kind_word, callers-length, caller_word, state_written}
use Rattle.publish.proofs.write_state.Goals as goal

pub returns : goal.returns
returns c =
    let z = c.args.state.now.sizes in
    let m = c.args.state.now.words.now in
    state_written z m c.args.count c.args.answer.now c.write_totals.ensures
    (c.write_each.ensures _ (record { len = lives-length z m; each = λ b w h p. search (rules, live_word) }))
    (c.write_each-2.ensures _ (record { len = mapped-length z m tag_of; each = λ i w h p. search (rules, kind_word) }))
    (c.write_each-3.ensures _ (record { len = mapped-length z m payload_of; each = λ i w h p. search (rules, kind_word) }))
    (c.write_each-4.ensures _ (record { len = callers-length z m; each = λ j w h p. search (rules, caller_word) }))
