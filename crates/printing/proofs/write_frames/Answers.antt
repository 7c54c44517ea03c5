-- `printing::write_frames` meets its contract. Assumes nothing.
use Rattle.std.proofs.Common.{rules, ◌∙◌, ap}
use Rattle.printing.proofs.Laws.{sending_more, sending_cut, sending_appends_all}
use Rattle.printing.proofs.write_frames.Goals as goal

pub returns-in_err-map_err-clause-appends : goal.returns-in_err-map_err-clause-appends
returns-in_err-map_err-clause-appends g c =
    let k = c.loop-frames.invariant in
    let p = c.fill-len.ensures.piece in
    sending_cut k.0 (rw k.1 at p) (search rules) _ _ _ c.write-written.result c.from_residual.result (search rules) c.write-written.ensures.short k.2 c.write-written.ensures.appends

pub loop-frames-preserved : goal.loop-frames-preserved
loop-frames-preserved g c =
    let k = c.loop-frames.invariant in
    let p = c.fill-len.ensures.piece in (
      sending_more k.0 (rw k.1 at p) (search rules) (search rules),
      ap (λ b. b.words.now) c.fill-len.ensures.answer ∙ k.1,
      sending_appends_all k.0 (rw k.1 at p) (search rules) _ _ _ k.2 (search rules),
    )
