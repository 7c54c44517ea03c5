-- `functions::params::parse_names` meets its contract. Assumes nothing.
use mathlib.Core.Path.{ap, ◌∙◌}
use native.Mathlib.Omega.{arith}
use Rattle.std.specs.Prelude.{Ok}
use Rattle.std.proofs.Common.{rules}
use Rattle.lexer.proofs.Tried.{failed}
use Rattle.functions.proofs.params.Heads.{names_start, names_none, names_close, names_bad, name-on, names_stop, names_last, comma_on, names_on}
use Rattle.functions.proofs.params.parse_names.Goals as goal

pub loop-n-init : goal.loop-n-init
loop-n-init c = names_start _ _ _ c.requires.at_bound

pub returns-in_err-read_word : goal.returns-in_err-read_word
returns-in_err-read_word c =
    rw (failed _ c.from_residual.ensures.1) (names_none c.loop-n.invariant c.read_word.ensures c.in_err-read_word.was)

pub returns-in_err-n : goal.returns-in_err-n
returns-in_err-n c =
    rw (failed _ c.from_residual-in_err-n.ensures.1) (names_bad c.loop-n.invariant c.read_word.ensures c.in_ok-read_word.was (search rules) c.expect_ident.ensures c.in_err-n.was)

pub push_name-requires-clause-k_bound : goal.push_name-requires-clause-k_bound
push_name-requires-clause-k_bound c =
    let i = c.loop-n.invariant in
    let h = name-on i c.read_word.ensures c.in_ok-read_word.was (search rules) c.expect_ident.ensures c.in_ok-n.was in
    omega (arith, i.on, h.0, h.1, c.requires.script_bound)

pub overflow_add-k : goal.overflow_add-k
overflow_add-k c = let i = c.loop-n.invariant in omega (arith, i.on, i.inside, c.requires.script_bound)

pub returns-in_err-after : goal.returns-in_err-after
returns-in_err-after c =
    rw (failed _ c.from_residual-in_err-after.ensures.1)
    (names_stop c.loop-n.invariant c.read_word.ensures c.in_ok-read_word.was (search rules) c.expect_ident.ensures c.in_ok-n.was c.push_name.ensures c.match_token.ensures
    c.in_err-after.was)

pub returns-in_default : goal.returns-in_default
returns-in_default c =
    names_last c.loop-n.invariant c.read_word.ensures c.in_ok-read_word.was (search rules) c.expect_ident.ensures c.in_ok-n.was c.push_name.ensures c.match_token.ensures
    (c.in_ok-after.was ∙ ap Ok c.in_default.is)

pub loop-n-smaller : goal.loop-n-smaller
loop-n-smaller c =
    let i = c.loop-n.invariant in
    let h = name-on i c.read_word.ensures c.in_ok-read_word.was (search rules) c.expect_ident.ensures c.in_ok-n.was in
    let l =
    comma_on i c.read_word.ensures c.in_ok-read_word.was (search rules) c.expect_ident.ensures c.in_ok-n.was c.push_name.ensures c.match_token.ensures
    (c.in_ok-after.was ∙ ap Ok c.in-Some.is) in
    omega (arith, h.0, h.1, l)

pub loop-n-preserved : goal.loop-n-preserved
loop-n-preserved c =
    names_on c.loop-n.invariant c.read_word.ensures c.in_ok-read_word.was (search rules) c.expect_ident.ensures c.in_ok-n.was c.push_name.ensures c.match_token.ensures
    (c.in_ok-after.was ∙ ap Ok c.in-Some.is)

pub returns : goal.returns
returns c = names_close c.loop-n.invariant c.read_word.ensures c.in_ok-read_word.was (search rules)
