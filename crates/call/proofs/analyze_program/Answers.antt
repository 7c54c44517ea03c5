-- `call::analyze_program` meets its contract. Assumes nothing.
use mathlib.Core.Path.{ap, ◌∙◌}
use native.Mathlib.Omega.{arith}
use borrow.Author.Rules.{rules}
use Rattle.state.specs.Acted.{acted_of}
use Rattle.state.specs.declared.Sizes.{Sizes}
use Rattle.call.proofs.Laws.{given, program-refused, program-answered, blocks-few}
use Rattle.call.proofs.analyze_program.Goals as goal

pub sctp-requires : goal.sctp-requires
sctp-requires c = given _ _ _ _ c.args.state.now _ c.requires.parsed c.requires.parts_fresh c.sizes.ensures
    (omega (arith, c.split_at_mut-words.ensures.back_len, c.requires.parts_fresh.state))

pub returns-in_err-sctp : goal.returns-in_err-sctp
returns-in_err-sctp c =
    program-refused _ _ _ _ _ _ c.requires.parsed c.sctp.ensures.1 c.sctp.new.users (ap (acted_of _) c.in_err-sctp.was) (search rules)

pub write_state-requires : goal.write_state-requires
write_state-requires c =
    let z = ap (λ (x : Sizes). x.blocks) (c.tables.ensures.1 ∙ c.sctp.ensures.0.sizes ∙ c.sizes.ensures) in
    record {
      answer_len = (
        c.sctp.auto.users ∙ c.requires.parts_fresh.answer.len,
        omega (arith, z, blocks-few _ _ _ _ _ _ c.requires.parsed c.sctp.ensures.1 (ap (acted_of _) c.in_ok-sctp.was)),
      );
    }

pub returns : goal.returns
returns c =
    program-answered _ _ _ _ _ _ c.requires.parsed c.sctp.ensures.1 (ap (acted_of _) c.in_ok-sctp.was) tt c.requires.parts_fresh c.sctp.auto.users
    (c.tables.ensures.1 ∙ c.sctp.ensures.0.sizes ∙ c.sizes.ensures) (rw c.tables.ensures.0 at c.write_state.ensures)
