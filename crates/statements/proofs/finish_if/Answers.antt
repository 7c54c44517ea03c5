-- `statements::finish_if` meets its contract. Assumes nothing.
use Rattle.lexer.proofs.Tried.{failed}
use Rattle.statements.proofs.Readers.{bare_no, bare_reads, bare_within, bare_join, bare_sorted, bare_no2, bare_rests, bare_yes}
use Rattle.statements.proofs.finish_if.Goals as goal

pub returns-in_err-add_end-clause-did : goal.returns-in_err-add_end-clause-did
returns-in_err-add_end-clause-did c = λ c₀ a. rw (failed _ c.from_residual.ensures.1) (bare_no c.args.p.now c.args.q c.requires.reading a c.add_end.ensures c.in_err-add_end.was)

pub join_vars-requires-clause-reading : goal.join_vars-requires-clause-reading
join_vars-requires-clause-reading c = bare_reads c.args.p.now c.args.q c.requires.reading c.requires.arm.arm c.add_end.ensures c.in_ok-add_end.was

pub join_vars-requires-clause-within : goal.join_vars-requires-clause-within
join_vars-requires-clause-within c = bare_within c.args.p.now c.args.q c.requires.reading c.requires.arm.arm c.add_end.ensures c.in_ok-add_end.was

pub join_vars-requires-clause-at_lt_blocks : goal.join_vars-requires-clause-at_lt_blocks
join_vars-requires-clause-at_lt_blocks c = bare_join c.args.p.now c.args.q c.requires.reading c.requires.arm.arm c.add_end.ensures c.in_ok-add_end.was

pub join_vars-requires-clause-sorted : goal.join_vars-requires-clause-sorted
join_vars-requires-clause-sorted c = bare_sorted c.args.p.now c.args.q c.requires.reading c.requires.arm.arm c.add_end.ensures c.in_ok-add_end.was

pub returns-in_err-join_vars-clause-did : goal.returns-in_err-join_vars-clause-did
returns-in_err-join_vars-clause-did c = λ c₀ a. rw (failed _ c.from_residual-in_err-join_vars.ensures.1)
    (bare_no2 c.args.p.now c.args.q c.requires.reading a c.add_end.ensures c.in_ok-add_end.was c.join_vars.ensures.kept c.join_vars.ensures.joins
    c.in_err-join_vars.was)

pub join_value-requires : goal.join_value-requires
join_value-requires c = bare_rests c.args.p.now c.args.q c.requires.reading c.requires.arm.arm c.add_end.ensures c.in_ok-add_end.was
    c.join_vars.ensures.kept c.join_vars.ensures.joins c.in_ok-join_vars.was

pub returns-clause-did : goal.returns-clause-did
returns-clause-did c = λ c₀ a. bare_yes c.args.p.now c.args.q c.requires.reading a c.add_end.ensures c.in_ok-add_end.was c.join_vars.ensures.kept
    c.join_vars.ensures.joins c.in_ok-join_vars.was _ c.join_value.ensures
