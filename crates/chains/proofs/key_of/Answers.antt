-- `chains::key_of` meets its contract. Assumes nothing.
use mathlib.Core.Path.{ap, ◌∙◌}
use Rattle.std.specs.Prelude.{Some}
use Rattle.chains.proofs.Laws.{key_code, key_params, key_read, key_no_return}
use Rattle.chains.proofs.key_of.Goals as goal

pub returns-in-Code : goal.returns-in-Code
returns-in-Code c = ap Some c.index.ensures ∙ key_code _ _ c.insn-row.ensures.row c.in-Code.is

pub returns-in-Params : goal.returns-in-Params
returns-in-Params c = c.then_some.ensures ∙ rw c.index-in-Params.ensures (key_params _ _ c.insn-row.ensures.row c.in-Params.is c.is_param.ensures)

pub returns-then-is_return : goal.returns-then-is_return
returns-then-is_return c =
    ap Some c.index-then-is_return.ensures
    ∙ key_read _ _ c.insn-row.ensures.row c.in-Returns.is c.function_of.ensures c.insn-row.ensures.inside c.is_return.ensures c.if-is_return.true

pub returns-else-is_return : goal.returns-else-is_return
returns-else-is_return c = key_no_return _ _ c.insn-row.ensures.row c.in-Returns.is c.is_return.ensures c.if-is_return.false
