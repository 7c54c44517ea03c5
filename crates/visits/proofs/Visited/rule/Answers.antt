-- `visits::Visited::rule` meets its contract. Assumes nothing.
use mathlib.Core.Path.{◌≡◌, refl, ap, ◌∙◌}
use Rattle.std.specs.Prelude.{Err}
use borrow.Author.Rules.{rules}
use Rattle.state.specs.Acted.{acted_of}
use Rattle.state.proofs.Methods.{lent_same}
use Rattle.visits.specs.Visits.{kind_of}
use Rattle.visits.proofs.Given.{visiting, op-at, jump_below, callers-known, function-below, self-below, new-below}
use Rattle.visits.proofs.Ruling.{none_given}
use Rattle.visits.proofs.Ways as W
use Rattle.visits.proofs.Visited.rule.Goals as goal

-- ---- Jump

pub push_block-requires : goal.push_block-requires
push_block-requires c = let g = visiting c.args.self.now c.requires in record { b_lt_blocks = jump_below g (op-at g c.in-Jump.is) }

pub returns-in-Jump : goal.returns-in-Jump
returns-in-Jump c =
    let g = visiting c.args.self.now c.requires in
    record { lent = c.push_block.ensures.lent; rules = W.jump_way g (op-at g c.in-Jump.is) c.push_block.ensures.did (ap (kind_of _) c.nothing.ensures ∙ none_given _ c.push_block.result) }

-- ---- IfTrue

pub choose-requires-clause-operand_inside : goal.choose-requires-clause-operand_inside
choose-requires-clause-operand_inside c = (W.choice_needs (visiting c.args.self.now c.requires) c.operand.result c.in-IfTrue.is c.operand.ensures).0

pub choose-requires-clause-t_lt_blocks : goal.choose-requires-clause-t_lt_blocks
choose-requires-clause-t_lt_blocks c = (W.choice_needs (visiting c.args.self.now c.requires) c.operand.result c.in-IfTrue.is c.operand.ensures).1

pub returns-in-IfTrue : goal.returns-in-IfTrue
returns-in-IfTrue c = record {
  lent = (c.choose.ensures 0).lent;
  rules = W.choice_way (visiting c.args.self.now c.requires) c.operand.result c.in-IfTrue.is c.operand.ensures (λ n. (c.choose.ensures n).did)
      (ap (kind_of _) c.nothing-in-IfTrue.ensures ∙ none_given _ c.choose.result);
}

-- ---- Return

pub give_back-requires-clause-operand_inside : goal.give_back-requires-clause-operand_inside
give_back-requires-clause-operand_inside c =
    (W.return_needs (visiting c.args.self.now c.requires) c.operand-in-Return.result c.in-Return.is c.operand-in-Return.ensures c.function-f.ensures).0

pub give_back-requires-clause-f_lt_functions : goal.give_back-requires-clause-f_lt_functions
give_back-requires-clause-f_lt_functions c = function-below (visiting c.args.self.now c.requires) c.function-f.ensures

pub returns-in-Return : goal.returns-in-Return
returns-in-Return c = record {
  lent = (c.give_back.ensures 0).lent;
  rules = W.return_way (visiting c.args.self.now c.requires) c.operand-in-Return.result c.in-Return.is c.operand-in-Return.ensures c.function-f.ensures
      (λ n. (c.give_back.ensures n).did) (ap (kind_of _) c.nothing-in-Return.ensures ∙ none_given _ c.give_back.result);
}

-- ---- SendStatic

pub send_static-requires-clause-calling : goal.send_static-requires-clause-calling
send_static-requires-clause-calling c = (W.call_needs (visiting c.args.self.now c.requires) c.in-SendStatic.is).0

pub send_static-requires-clause-f_lt_functions : goal.send_static-requires-clause-f_lt_functions
send_static-requires-clause-f_lt_functions c = (W.call_needs (visiting c.args.self.now c.requires) c.in-SendStatic.is).1

pub returns-in_err-send_static-in-SendStatic : goal.returns-in_err-send_static-in-SendStatic
returns-in_err-send_static-in-SendStatic c =
    let e : c.from_residual.result ≡ Err c.in_err-send_static-in-SendStatic.field-0.0 = search rules in
    rw e (record {
      lent = (c.send_static.ensures c.args.self.now.code.now.program.script.now).lent;
      rules = W.call-stop (visiting c.args.self.now c.requires) c.in-SendStatic.is (λ t. (c.send_static.ensures t).did) (ap (acted_of _) c.in_err-send_static-in-SendStatic.was);
    })

pub call_kind-requires-clause-backs : goal.call_kind-requires-clause-backs
call_kind-requires-clause-backs c = rw (c.tables.ensures.1, (c.send_static.ensures c.args.self.now.code.now.program.script.now).lent.sizes) (W.call_backs (visiting c.args.self.now c.requires))

pub call_kind-requires-clause-i_lt_insns : goal.call_kind-requires-clause-i_lt_insns
call_kind-requires-clause-i_lt_insns c =
    let g = visiting c.args.self.now c.requires in rw (c.tables.ensures.1, (c.send_static.ensures c.args.self.now.code.now.program.script.now).lent.sizes) (g.below, W.call-room g c.in-SendStatic.is)

pub returns-in_ok-send_static-in-SendStatic : goal.returns-in_ok-send_static-in-SendStatic
returns-in_ok-send_static-in-SendStatic c =
    let l = c.send_static.ensures c.args.self.now.code.now.program.script.now in
    record {
      lent = l.lent;
      rules = W.call_way (visiting c.args.self.now c.requires) c.in-SendStatic.is (λ t. (c.send_static.ensures t).did) (ap (acted_of _) c.in_ok-send_static-in-SendStatic.was)
          (rw (c.tables.ensures.0, c.tables.ensures.1, l.lent.sizes) at c.call_kind.ensures) refl;
    }

-- ---- SendDynamic

pub send_dynamic-requires-clause-calling : goal.send_dynamic-requires-clause-calling
send_dynamic-requires-clause-calling c =
    (W.send-needs (visiting c.args.self.now c.requires) c.operand-in-SendDynamic.result c.in-SendDynamic.is c.operand-in-SendDynamic.ensures c.listed_in-args.ensures).0

pub send_dynamic-requires-clause-operand_inside : goal.send_dynamic-requires-clause-operand_inside
send_dynamic-requires-clause-operand_inside c =
    (W.send-needs (visiting c.args.self.now c.requires) c.operand-in-SendDynamic.result c.in-SendDynamic.is c.operand-in-SendDynamic.ensures c.listed_in-args.ensures).1

pub returns-in_err-send_dynamic-in-SendDynamic : goal.returns-in_err-send_dynamic-in-SendDynamic
returns-in_err-send_dynamic-in-SendDynamic c =
    let e : c.from_residual-in_err-send_dynamic-in-SendDynamic.result ≡ Err c.in_err-send_dynamic-in-SendDynamic.field-0.0 = search rules in
    rw e (record {
      lent = c.send_dynamic.ensures.lent;
      rules = W.send-stop (visiting c.args.self.now c.requires) c.operand-in-SendDynamic.result c.in-SendDynamic.is c.operand-in-SendDynamic.ensures c.listed_in-args.ensures
          c.send_dynamic.ensures.did (ap (acted_of _) c.in_err-send_dynamic-in-SendDynamic.was);
    })

pub call_kind-requires-in-SendDynamic-clause-backs : goal.call_kind-requires-in-SendDynamic-clause-backs
call_kind-requires-in-SendDynamic-clause-backs c = rw (c.tables-in-SendDynamic.ensures.1, c.send_dynamic.ensures.lent.sizes) (W.call_backs (visiting c.args.self.now c.requires))

pub returns-in_ok-send_dynamic-in-SendDynamic : goal.returns-in_ok-send_dynamic-in-SendDynamic
returns-in_ok-send_dynamic-in-SendDynamic c = record {
  lent = c.send_dynamic.ensures.lent;
  rules = W.send_way (visiting c.args.self.now c.requires) c.operand-in-SendDynamic.result c.in-SendDynamic.is c.operand-in-SendDynamic.ensures c.listed_in-args.ensures
      c.send_dynamic.ensures.did (ap (acted_of _) c.in_ok-send_dynamic-in-SendDynamic.was)
      (rw (c.tables-in-SendDynamic.ensures.0, c.tables-in-SendDynamic.ensures.1, c.send_dynamic.ensures.lent.sizes) at c.call_kind-in-SendDynamic.ensures) refl;
}

-- ---- Compute

pub compute-requires : goal.compute-requires
compute-requires c =
    rw c.tables-in-Compute.ensures.1 (W.compute_needs (visiting c.args.self.now c.requires) c.operand-in-Compute.result c.operand-in-Compute-2.result c.operand-in-Compute.ensures
    c.operand-in-Compute-2.ensures c.in-Compute.is)

pub returns-in-Compute : goal.returns-in-Compute
returns-in-Compute c = record {
  lent = lent_same c.args.state.now;
  rules = W.compute_way (visiting c.args.self.now c.requires) c.operand-in-Compute.result c.operand-in-Compute-2.result c.operand-in-Compute.ensures c.operand-in-Compute-2.ensures c.in-Compute.is
      (rw (c.tables-in-Compute.ensures.0, c.tables-in-Compute.ensures.1) at c.compute.ensures) refl;
}

-- ---- Phi

pub phi-requires-clause-operand_inside : goal.phi-requires-clause-operand_inside
phi-requires-clause-operand_inside c =
    rw c.tables-in-Phi.ensures.1 (W.phi-needs (visiting c.args.self.now c.requires) c.operand-in-Phi.result c.operand-in-Phi-2.result c.operand-in-Phi.ensures
    c.operand-in-Phi-2.ensures c.in-Phi.is).0

pub phi-requires-clause-b_lt_blocks : goal.phi-requires-clause-b_lt_blocks
phi-requires-clause-b_lt_blocks c =
    rw c.tables-in-Phi.ensures.1 (W.phi-needs (visiting c.args.self.now c.requires) c.operand-in-Phi.result c.operand-in-Phi-2.result c.operand-in-Phi.ensures
    c.operand-in-Phi-2.ensures c.in-Phi.is).1

pub returns-in-Phi : goal.returns-in-Phi
returns-in-Phi c = record {
  lent = lent_same c.args.state.now;
  rules = W.phi_way (visiting c.args.self.now c.requires) c.operand-in-Phi.result c.operand-in-Phi-2.result c.operand-in-Phi.ensures c.operand-in-Phi-2.ensures c.in-Phi.is
      (rw (c.tables-in-Phi.ensures.0, c.tables-in-Phi.ensures.1) at c.phi.ensures) refl;
}

-- ---- Param

pub param-requires-clause-flows_known : goal.param-requires-clause-flows_known
param-requires-clause-flows_known c = rw (c.tables-in-Param.ensures.0, c.tables-in-Param.ensures.1) (callers-known (visiting c.args.self.now c.requires))

pub param-requires-clause-f_lt_functions : goal.param-requires-clause-f_lt_functions
param-requires-clause-f_lt_functions c = rw c.tables-in-Param.ensures.1 (function-below (visiting c.args.self.now c.requires) c.function.ensures)

pub returns-in-Param : goal.returns-in-Param
returns-in-Param c = record {
  lent = lent_same c.args.state.now;
  rules = W.param_way (visiting c.args.self.now c.requires) c.in-Param.is c.function.ensures (rw (c.tables-in-Param.ensures.0, c.tables-in-Param.ensures.1) at c.param.ensures) refl;
}

-- ---- SelfParam and New

pub object-requires : goal.object-requires
object-requires c = let g = visiting c.args.self.now c.requires in self-below g (op-at g c.in-SelfParam.is)

pub returns-in-SelfParam : goal.returns-in-SelfParam
returns-in-SelfParam c = record { lent = lent_same c.args.state.now; rules = W.self_way (visiting c.args.self.now c.requires) c.in-SelfParam.is c.object.ensures }

pub object-requires-in-New : goal.object-requires-in-New
object-requires-in-New c = let g = visiting c.args.self.now c.requires in new-below g (op-at g c.in-New.is)

pub returns-in-New : goal.returns-in-New
returns-in-New c = record { lent = lent_same c.args.state.now; rules = W.new_way (visiting c.args.self.now c.requires) c.in-New.is c.object-in-New.ensures }

-- ---- GetIvar

pub mark_reads-requires-clause-operand_inside : goal.mark_reads-requires-clause-operand_inside
mark_reads-requires-clause-operand_inside c = (W.get_needs (visiting c.args.self.now c.requires) c.operand-o.result c.in-GetIvar.is c.operand-o.ensures).0

pub mark_reads-requires-clause-receiver_within : goal.mark_reads-requires-clause-receiver_within
mark_reads-requires-clause-receiver_within c = (W.get_needs (visiting c.args.self.now c.requires) c.operand-o.result c.in-GetIvar.is c.operand-o.ensures).1

pub returns-in_err-mark_reads-in-GetIvar : goal.returns-in_err-mark_reads-in-GetIvar
returns-in_err-mark_reads-in-GetIvar c =
    let e : c.from_residual-in_err-mark_reads-in-GetIvar.result ≡ Err c.in_err-mark_reads-in-GetIvar.field-0.0 = search rules in
    rw e (record {
      lent = c.mark_reads.ensures.lent;
      rules = W.get_stop (visiting c.args.self.now c.requires) c.operand-o.result c.in-GetIvar.is c.operand-o.ensures c.mark_reads.ensures.did
          (ap (acted_of _) c.in_err-mark_reads-in-GetIvar.was);
    })

pub read_ivar-requires-clause-operand_inside : goal.read_ivar-requires-clause-operand_inside
read_ivar-requires-clause-operand_inside c =
    rw (c.tables-in-GetIvar.ensures.1, c.mark_reads.ensures.lent.sizes) (W.get_needs (visiting c.args.self.now c.requires) c.operand-o.result c.in-GetIvar.is c.operand-o.ensures).0

pub read_ivar-requires-clause-receiver_within : goal.read_ivar-requires-clause-receiver_within
read_ivar-requires-clause-receiver_within c =
    rw (c.tables-in-GetIvar.ensures.0, c.tables-in-GetIvar.ensures.1, c.mark_reads.ensures.lent.sizes) (W.get_within (visiting c.args.self.now c.requires) c.operand-o.result c.in-GetIvar.is
    c.operand-o.ensures c.mark_reads.ensures.did (ap (acted_of _) c.in_ok-mark_reads-in-GetIvar.was))

pub returns-in_ok-mark_reads-in-GetIvar : goal.returns-in_ok-mark_reads-in-GetIvar
returns-in_ok-mark_reads-in-GetIvar c = record {
  lent = c.mark_reads.ensures.lent;
  rules = W.get_way (visiting c.args.self.now c.requires) c.operand-o.result c.in-GetIvar.is c.operand-o.ensures c.mark_reads.ensures.did
      (ap (acted_of _) c.in_ok-mark_reads-in-GetIvar.was)
      (rw (c.tables-in-GetIvar.ensures.0, c.tables-in-GetIvar.ensures.1, c.mark_reads.ensures.lent.sizes) at c.read_ivar.ensures) refl;
}

-- ---- SetIvar

pub set_ivar-requires-clause-operand_inside : goal.set_ivar-requires-clause-operand_inside
set_ivar-requires-clause-operand_inside c =
    (W.set-needs (visiting c.args.self.now c.requires) c.operand-o-in-SetIvar.result c.operand-v.result c.operand-o-in-SetIvar.ensures c.operand-v.ensures c.in-SetIvar.is).0

pub set_ivar-requires-clause-receiver_within : goal.set_ivar-requires-clause-receiver_within
set_ivar-requires-clause-receiver_within c =
    (W.set-needs (visiting c.args.self.now c.requires) c.operand-o-in-SetIvar.result c.operand-v.result c.operand-o-in-SetIvar.ensures c.operand-v.ensures c.in-SetIvar.is).1

pub returns-in-SetIvar : goal.returns-in-SetIvar
returns-in-SetIvar c = record {
  lent = c.set_ivar.ensures.lent;
  rules = W.set_way (visiting c.args.self.now c.requires) c.operand-o-in-SetIvar.result c.operand-v.result c.operand-o-in-SetIvar.ensures c.operand-v.ensures c.in-SetIvar.is
      c.set_ivar.ensures.did (ap (kind_of _) c.nothing-in-SetIvar.ensures ∙ none_given _ c.set_ivar.result);
}
