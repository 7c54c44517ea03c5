-- `reread::load` meets its contract. Assumes nothing.
use Rattle.std.proofs.Common.{rules, ap, ◌∙◌}
use Rattle.memory.specs.Memory.{zeros}
use Rattle.reread.proofs.Laws.{filled_is, loaded_last, loaded_illegal, feeding_more}
use Rattle.reread.proofs.load.Goals as goal

pub returns-then-end-lt65536 : goal.returns-then-end-lt65536
returns-then-end-lt65536 g c =
    let v = c.loop.invariant in
    let r = c.in_ok-read.ensures.taken in
    loaded_last v _ _ _ c.in_ok-read.read r.0 (filled_is _ _ _ _ _ (search rules) (search rules)) (r.1 (search rules)) (c.read_last.ensures v.at v.reached)

pub returns-in_default : goal.returns-in_default
returns-in_default g c =
    let v = c.loop.invariant in
    let r = c.in_ok-read.ensures.taken in
    loaded_illegal v _ _ _ c.in_ok-read.read r.0 (filled_is _ _ _ _ _ (search rules) (search rules)) (search rules)
    (c.in_default.ensures v.at v.reached) c.give_up.ensures.0 (c.give_up.ensures.1 ∙ ap zeros (search rules))

pub loop-preserved : goal.loop-preserved
loop-preserved g c =
    let v = c.loop.invariant in
    let r = c.in_ok-read.ensures.taken in
    feeding_more v _ _ _ c.in_ok-read.read r.0 (filled_is _ _ _ _ _ (search rules) (search rules)) (search rules) (c.in-Some.ensures v.at v.reached)
    (search rules) c.copy_within.ensures.after (search rules)
