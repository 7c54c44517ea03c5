-- The cycle `statement` of `statements` meets its contracts. Assumes nothing.
use mathlib.Core.Path.{◌≡◌, refl, ap, ◌∙◌}
use native.Mathlib.Omega.{arith}
use Rattle.std.specs.Prelude.{Ok}
use Rattle.std.proofs.Common.{rules}
use Rattle.lexer.specs.declared.Token.TheVariants as T
use Rattle.cursor.specs.Parsers.{cursor_of, matched_if, matched_in}
use Rattle.lexer.proofs.Tried.{failed}
use Rattle.cursor.proofs.Kept.{kept_none, after_none, after_placed, after_kept, did_of, finish}
use Rattle.expressions.proofs.Readers.{value_no, value_then, done_no, done_then, gives}
use Rattle.statements.proofs.Cycle.{else_bare, going_start, state_deep, state_expr, state_if, state_return}
use Rattle.statements.proofs.Readers.{as_arm, jumped, else_none, else_no, else_reads, else_no2, else_inside, else_join, else_sorted, else_yes}
use Rattle.statements.proofs.Readers.{if_no, if_no2, if_no3, if_no4, if_rests, if_arm, if_yes, going_none, going_ends, going_reads, going_no, going_on}
use Rattle.statements.proofs.Standing.{finish_from}
use Rattle.statements.proofs.+statement.Goals as goal

pub parse_block-returns-in_err-v : goal.parse_block-returns-in_err-v
parse_block-returns-in_err-v t c =
    rw (failed _ c.from_residual.ensures.1) (as_arm _ _ (value_no _ _ c.parse_statements.ensures c.in_err-v.was))

pub parse_block-returns-in_err-end_block : goal.parse_block-returns-in_err-end_block
parse_block-returns-in_err-end_block t c =
    rw (failed _ c.from_residual-in_err-end_block.ensures.1) (as_arm _ _
    (value_then _ _ c.parse_statements.ensures c.in_ok-v.was (λ h. done_no _ _ (jumped _ c.end_block.ensures h) c.in_err-end_block.was)))

pub parse_block-returns : goal.parse_block-returns
parse_block-returns t c =
    as_arm _ _ (value_then _ _ c.parse_statements.ensures c.in_ok-v.was (λ h. done_then _ _ (jumped _ c.end_block.ensures h) c.in_ok-end_block.was (gives _)))

pub parse_else-returns-in_err-match_token-clause-did : goal.parse_else-returns-in_err-match_token-clause-did
parse_else-returns-in_err-match_token-clause-did t c =
    λ c₀ a. rw (failed _ c.from_residual.ensures.1) (else_none c.args.p.now c.args.q c.args.depth c.requires.reading a c.match_token.ensures c.in_err-match_token.was)

pub parse_else-returns-in_err-b-clause-did : goal.parse_else-returns-in_err-b-clause-did
parse_else-returns-in_err-b-clause-did t c =
    λ c₀ a. rw (failed _ c.from_residual-in_err-b.ensures.1) (else_no c.args.p.now c.args.q c.args.depth c.requires.reading a c.match_token.ensures
    (c.in_ok-match_token.was ∙ ap Ok c.if-branch.true) c.open_else.ensures.kept c.open_else.ensures.opens c.in_err-b.was)

pub parse_else-parse_block-requires : goal.parse_else-parse_block-requires
parse_else-parse_block-requires t c = (
  omega (arith, c.decreases),
  else_reads c.args.p.now c.args.q c.args.depth c.requires.reading c.requires.arm.arm c.match_token.ensures
      (c.in_ok-match_token.was ∙ ap Ok c.if-branch.true) c.open_else.ensures.kept c.open_else.ensures.opens c.in_ok-b.was,
)

pub parse_else-returns-in_err-y-clause-did : goal.parse_else-returns-in_err-y-clause-did
parse_else-returns-in_err-y-clause-did t c =
    λ c₀ a. rw (failed _ c.from_residual-in_err-y.ensures.1) (else_no2 c.args.p.now c.args.q c.args.depth c.requires.reading a c.match_token.ensures
    (c.in_ok-match_token.was ∙ ap Ok c.if-branch.true) c.open_else.ensures.kept c.open_else.ensures.opens c.in_ok-b.was _ c.parse_block.ensures
    c.in_err-y.was)

pub parse_else-finish_else-requires-clause-within : goal.parse_else-finish_else-requires-clause-within
parse_else-finish_else-requires-clause-within t c =
    record {
      from = c.requires.arm.from;
      place = c.requires.arm.arm.place;
      inside = else_inside c.args.p.now c.args.q c.args.depth c.requires.reading c.requires.arm.arm c.match_token.ensures
          (c.in_ok-match_token.was ∙ ap Ok c.if-branch.true) c.open_else.ensures.kept c.open_else.ensures.opens c.in_ok-b.was _ c.parse_block.ensures
          c.in_ok-y.was;
    }

pub parse_else-finish_else-requires-clause-join_lt_blocks : goal.parse_else-finish_else-requires-clause-join_lt_blocks
parse_else-finish_else-requires-clause-join_lt_blocks t c =
    else_join c.args.p.now c.args.q c.args.depth c.requires.reading c.requires.arm.arm c.match_token.ensures
    (c.in_ok-match_token.was ∙ ap Ok c.if-branch.true) c.open_else.ensures.kept c.open_else.ensures.opens c.in_ok-b.was _ c.parse_block.ensures
    c.in_ok-y.was

pub parse_else-finish_else-requires-clause-sorted : goal.parse_else-finish_else-requires-clause-sorted
parse_else-finish_else-requires-clause-sorted t c =
    else_sorted c.args.p.now c.args.q c.args.depth c.requires.reading c.requires.arm.arm c.match_token.ensures
    (c.in_ok-match_token.was ∙ ap Ok c.if-branch.true) c.open_else.ensures.kept c.open_else.ensures.opens c.in_ok-b.was _ c.parse_block.ensures
    c.in_ok-y.was

pub parse_else-returns-then-branch-clause-did : goal.parse_else-returns-then-branch-clause-did
parse_else-returns-then-branch-clause-did t c =
    λ c₀ a. else_yes c.args.p.now c.args.q c.args.depth c.requires.reading a c.match_token.ensures
    (c.in_ok-match_token.was ∙ ap Ok c.if-branch.true) c.open_else.ensures.kept c.open_else.ensures.opens c.in_ok-b.was _ c.parse_block.ensures
    c.in_ok-y.was _ c.finish_else.ensures.kept c.finish_else.ensures.finishes

pub parse_else-returns-clause-did : goal.parse_else-returns-clause-did
parse_else-returns-clause-did t c = λ c₀ a.
    let a1 = after_placed (after_none c.args.p.now) c.match_token.ensures.same in
    let e = ap (matched_in c.match_token.new.self) c.in_ok-match_token.was ∙ ap (matched_if c.match_token.new.self) c.if-branch.false in
    let z = c.match_token.ensures.stays (c.in_ok-match_token.was ∙ ap Ok c.if-branch.false) in
    let d = rw z at c.finish_if.ensures.did in
    finish_from (after_kept a1 c.finish_if.ensures.kept)
    (else_bare c.args.p.now.program.limits c.args.depth c.args.q c.requires.reading a c.match_token.ensures.matches e (d c₀ a).did)

pub parse_if-returns-in_err-cond : goal.parse_if-returns-in_err-cond
parse_if-returns-in_err-cond t c =
    rw (failed _ c.from_residual.ensures.1) (if_no c.args.p.now c.args.depth _ c.parse_expr.ensures c.in_err-cond.was)

pub parse_if-returns-in_err-first : goal.parse_if-returns-in_err-first
parse_if-returns-in_err-first t c =
    rw (failed _ c.from_residual-in_err-first.ensures.1) (if_no2 c.args.p.now c.args.depth _ c.parse_expr.ensures c.in_ok-cond.was c.new_block.ensures c.in_err-first.was)

pub parse_if-returns-in_err-join : goal.parse_if-returns-in_err-join
parse_if-returns-in_err-join t c =
    rw (failed _ c.from_residual-in_err-join.ensures.1) (if_no3 c.args.p.now c.args.depth _ c.parse_expr.ensures c.in_ok-cond.was c.new_block.ensures
    c.in_ok-first.was c.new_block-2.ensures c.in_err-join.was)

pub parse_if-returns-in_err-value : goal.parse_if-returns-in_err-value
parse_if-returns-in_err-value t c =
    rw (failed _ c.from_residual-in_err-value.ensures.1) (if_no4 c.args.p.now c.args.depth _ c.parse_expr.ensures c.in_ok-cond.was c.new_block.ensures
    c.in_ok-first.was c.new_block-2.ensures c.in_ok-join.was _ c.parse_block.ensures c.in_err-value.was)

pub parse_if-parse_else-requires : goal.parse_if-parse_else-requires
parse_if-parse_else-requires t c = (
  omega (arith, c.decreases),
  (
    if_rests c.args.p.now c.args.depth _ c.parse_expr.ensures c.in_ok-cond.was c.new_block.ensures c.in_ok-first.was c.new_block-2.ensures
        c.in_ok-join.was _ c.parse_block.ensures c.in_ok-value.was,
    record {
      from = cursor_of c.parse_expr.new.p;
      arm = if_arm c.args.p.now c.args.depth _ c.parse_expr.ensures c.in_ok-cond.was c.new_block.ensures c.in_ok-first.was
          c.new_block-2.ensures c.in_ok-join.was _ c.parse_block.ensures c.in_ok-value.was;
    },
  ),
)

pub parse_if-returns : goal.parse_if-returns
parse_if-returns t c =
    if_yes c.args.p.now c.args.depth _ c.parse_expr.ensures c.in_ok-cond.was c.new_block.ensures c.in_ok-first.was c.new_block-2.ensures
    c.in_ok-join.was _ c.parse_block.ensures c.in_ok-value.was _ c.parse_else.ensures.kept c.parse_else.ensures.did

pub parse_statement-returns-then-eq : goal.parse_statement-returns-then-eq
parse_statement-returns-then-eq t c =
    let k : c.args.x.token ≡ T.Return = search rules in
    let a1 = after_placed (after_none c.args.p.now) {at = c.args.x.next} refl in
    finish (after_kept a1 c.parse_return.ensures.kept) (state_return c.args.p.now.program.limits c.requires.reading c.requires.sees c.args.depth k refl (did_of a1 c.parse_return.ensures))

pub parse_statement-returns-then-depth-eq0 : goal.parse_statement-returns-then-depth-eq0
parse_statement-returns-then-depth-eq0 t c =
    let no : c.args.x.token ≡ T.Return → ⊥ = search rules in
    let k : c.args.x.token ≡ T.If = search rules in
    finish (after_none c.args.p.now) (state_deep c.args.p.now.program.limits c.requires.reading c.requires.sees c.args.depth no k c.if-depth-eq0.true)

pub parse_statement-returns-then-eq-2 : goal.parse_statement-returns-then-eq-2
parse_statement-returns-then-eq-2 t c =
    let no : c.args.x.token ≡ T.Return → ⊥ = search rules in
    let k : c.args.x.token ≡ T.If = search rules in
    let a1 = after_placed (after_none c.args.p.now) {at = c.args.x.next} refl in
    finish (after_kept a1 c.parse_if.ensures.kept) (state_if c.args.p.now.program.limits c.requires.reading c.requires.sees c.args.depth no k c.if-depth-eq0.false refl (did_of a1 c.parse_if.ensures))

pub parse_statement-returns : goal.parse_statement-returns
parse_statement-returns t c =
    let no : c.args.x.token ≡ T.Return → ⊥ = search rules in
    let no2 : c.args.x.token ≡ T.If → ⊥ = search rules in
    finish (after_kept (after_none c.args.p.now) c.parse_from.ensures.kept) (state_expr c.args.p.now.program.limits c.requires.reading c.requires.sees c.args.depth no no2 c.parse_from.ensures.did)

pub parse_statements-loop-x-init : goal.parse_statements-loop-x-init
parse_statements-loop-x-init t c =
    record { kept = kept_none _; going = going_start c.args.p.now.program.limits _ c.args.arm c.args.depth _ _ _ c.requires }

pub parse_statements-returns-in_err-x : goal.parse_statements-returns-in_err-x
parse_statements-returns-in_err-x t c =
    rw (failed _ c.from_residual.ensures.1) (going_none c.loop-x.invariant c.word_ahead.ensures c.in_err-x.was)

pub parse_statements-parse_statement-requires : goal.parse_statements-parse_statement-requires
parse_statements-parse_statement-requires t c =
    (omega (arith, c.decreases), going_reads c.loop-x.invariant c.word_ahead.ensures (c.in_ok-x.was ∙ ap Ok c.in-Some.is))

pub parse_statements-returns-in_err-v : goal.parse_statements-returns-in_err-v
parse_statements-returns-in_err-v t c =
    rw (failed _ c.from_residual-in_err-v.ensures.1) (going_no c.loop-x.invariant c.word_ahead.ensures (c.in_ok-x.was ∙ ap Ok c.in-Some.is) _ c.parse_statement.ensures c.in_err-v.was)

pub parse_statements-loop-x-preserved : goal.parse_statements-loop-x-preserved
parse_statements-loop-x-preserved t c =
    going_on c.loop-x.invariant c.word_ahead.ensures (c.in_ok-x.was ∙ ap Ok c.in-Some.is) _ c.parse_statement.ensures c.in_ok-v.was

pub parse_statements-returns : goal.parse_statements-returns
parse_statements-returns t c =
    going_ends c.loop-x.invariant c.word_ahead.ensures (c.in_ok-x.was ∙ ap Ok c.in_default.is)
