-- `functions::params::push_param` meets its contract. Assumes nothing.
use mathlib.Core.Path.{refl, ap, ◌∙◌}
use native.Mathlib.Omega.{arith}
use Rattle.cursor.specs.Parsers.{parsed_in}
use Rattle.lexer.proofs.Tried.{failed}
use Rattle.functions.proofs.params.Laws.{param_no, param_yes, param-vars}
use Rattle.functions.proofs.params.push_param.Goals as goal

pub returns-in_err-v : goal.returns-in_err-v
returns-in_err-v c =
    rw (failed _ c.from_residual.ensures.1)
    (record {
      kept = c.push.ensures.kept.kept;
      pushes = rw c.push.ensures.kept.scratch (param_no c.args.p.now.program.limits c.args.k
          {x = parsed_in c.push.new.self c.push.result} c.push.ensures.adds (ap (parsed_in c.push.new.self) c.in_err-v.was));
    })

pub set_var-requires-clause-variables_size_in_bounds : goal.set_var-requires-clause-variables_size_in_bounds
set_var-requires-clause-variables_size_in_bounds c =
    let e = param-vars c.args.p.now.program.limits c.args.k {x = parsed_in c.push.new.self c.push.result} c.push.ensures.adds (ap (parsed_in c.push.new.self) c.in_ok-v.was) in
    rw (e, c.push.ensures.kept.scratch) (omega (arith, c.requires.scratch), omega (arith, c.requires.vars))

pub overflow_add-p : goal.overflow_add-p
overflow_add-p c =
    let e = param-vars c.args.p.now.program.limits c.args.k {x = parsed_in c.push.new.self c.push.result} c.push.ensures.adds (ap (parsed_in c.push.new.self) c.in_ok-v.was) in
    omega (arith, e, c.requires.vars)

pub returns : goal.returns
returns c =
    let k = c.push.ensures.kept in
    record {
      kept = record {
        script = k.kept.script;
        limits = k.kept.limits;
        words_loan = k.kept.words_loan;
        scratch_loan = k.kept.scratch_loan;
        words_room = k.kept.words_room;
        scratch_room = c.set_var.auto.scratch ∙ k.kept.scratch_room;
      };
      pushes =
          param_yes c.args.p.now.program.limits c.args.k {x = parsed_in c.push.new.self c.push.result} c.push.ensures.adds (ap (parsed_in c.push.new.self) c.in_ok-v.was)
          (rw k.scratch at c.set_var.ensures) refl;
    }
