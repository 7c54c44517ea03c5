-- `statements::end_block` meets its contract. Assumes nothing.
use Rattle.cursor.specs.Parsers.{cursor_of}
use Rattle.statements.proofs.Paths.{ends_shut, ends_open}
use Rattle.cursor.proofs.Kept.{adds_none}
use Rattle.statements.proofs.end_block.Goals as goal

pub returns-then-is_terminated : goal.returns-then-is_terminated
returns-then-is_terminated c =
    record {
      kept = adds_none _;
      ends =
          ends_shut c.args.p.now.program.limits c.args.op c.args.g _ (cursor_of c.args.p.now) c.args.p.now.program.ready
          (rw (c.program_so_far-program.ensures.words, c.program_so_far-program.ensures.counts) at c.is_terminated.ensures) c.if-is_terminated.true;
    }

pub returns : goal.returns
returns c =
    record {
      kept = c.add_end.ensures.kept;
      ends =
          ends_open c.args.p.now.program.limits c.args.op c.args.g _ (cursor_of c.args.p.now) c.args.p.now.program.ready
          (rw (c.program_so_far-program.ensures.words, c.program_so_far-program.ensures.counts) at c.is_terminated.ensures) c.if-is_terminated.false c.add_end.ensures.adds;
    }
