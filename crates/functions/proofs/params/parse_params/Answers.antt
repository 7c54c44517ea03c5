-- `functions::params::parse_params` meets its contract. Assumes nothing.
use mathlib.Core.Path.{refl}
use Rattle.lexer.proofs.Tried.{failed}
use Rattle.cursor.specs.Parsers.{cursor_of}
use Rattle.functions.proofs.params.parse_params.Goals as goal

pub returns-in_err-k : goal.returns-in_err-k
returns-in_err-k c =
    rw (failed _ c.from_residual.ensures.1)
    (record {
      kept = record { script = refl; limits = refl; words_loan = refl; scratch_loan = refl; words_room = refl; scratch_room = c.parse_names.auto.scratch };
      program = refl;
      named = c.in_err-k.ensures (cursor_of c.args.p.now) refl c.requires;
    })

pub returns : goal.returns
returns c =
    record {
      kept = record { script = refl; limits = refl; words_loan = refl; scratch_loan = refl; words_room = refl; scratch_room = c.parse_names.auto.scratch };
      program = refl;
      named = c.in_ok-k.ensures (cursor_of c.args.p.now) refl c.requires;
    }
