-- `statements::join_vars` meets its contract. Assumes nothing.
use mathlib.Core.Path.{refl, ap}
use Rattle.cursor.specs.Cursor.{count_cur}
use Rattle.cursor.specs.Parsers.{cursor_of}
use Rattle.statements.specs.declared.Before.{Before}
use Rattle.statements.specs.Shape.{block_cur, vars_cur}
use Rattle.lexer.proofs.Tried.{failed}
use Rattle.statements.proofs.Paths.{place_vars, place_aside, vars_no, vars-on}
use Rattle.statements.proofs.join_vars.Goals as goal

pub returns-in_err-p-clause-joins : goal.returns-in_err-p-clause-joins
returns-in_err-p-clause-joins c = λ c₀ e i.
    rw (failed _ c.from_residual.ensures.1)
    (record {
      joins =
          vars_no c.requires.reading i c.args.p.now.program.limits c.args.q c.requires.at_lt_blocks
          (rw (place_vars c₀ e, place_aside c₀ e) at c.join_arms.ensures.did) c.in_err-p.was refl;
    })

pub returns-clause-joins : goal.returns-clause-joins
returns-clause-joins c = λ c₀ e i.
    record {
      joins =
          vars-on c.requires.reading i c.args.p.now.program.limits c.args.q c.requires.at_lt_blocks
          (rw (place_vars c₀ e, place_aside c₀ e) at c.join_arms.ensures.did) c.in_ok-p.was
          (ap (λ (z : Before). block_cur c.args.q.at (vars_cur c.in_ok-p.field-0 z.aside (count_cur c.join_arms.new.draft.counts (cursor_of c.args.p.now)))) e);
    }
