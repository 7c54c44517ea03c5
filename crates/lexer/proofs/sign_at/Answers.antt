-- `lexer::sign_at` meets its contract. Assumes nothing.
use Rattle.std.proofs.Common.{◌≡◌, ◌+◌, drop, sym, ◌∙◌, rules, arith}
use Rattle.rules.specs.Words.{digit, run}
use Rattle.lexer.proofs.Lexes.{glance_end, glance_letter, glance_digit, glance_over, glance_sign, glance_none}
use Rattle.lexer.proofs.sign_at.Goals as goal

pub returns-in_default : goal.returns-in_default
returns-in_default c = glance_end _ _ _ c.skip_blank-start.ensures c.in_default.ensures.lookup.3

pub returns-then-is_letter : goal.returns-then-is_letter
returns-then-is_letter c =
    glance_letter _ _ _ c.skip_blank-start.ensures c.in-Some.ensures.lookup.3.0 (c.in-Some.ensures.lookup.3.1 0)
    (sym c.is_letter.ensures ∙ c.if-is_letter.true)

pub overflow_sub-next : goal.overflow_sub-next
overflow_sub-next c =
    let ends : c.behind-next.result ≡ c.skip_blank-start.result + run digit (drop c.skip_blank-start.result c.args.script.now) = search rules in
    omega arith

pub returns-then-is_digit : goal.returns-then-is_digit
returns-then-is_digit c =
    let ends : c.behind-next.result ≡ c.skip_blank-start.result + run digit (drop c.skip_blank-start.result c.args.script.now) = search rules in
    glance_digit _ _ _ c.skip_blank-start.ensures c.in-Some.ensures.lookup.3.0 (c.in-Some.ensures.lookup.3.1 0)
    (sym c.is_letter.ensures ∙ c.if-is_letter.false) (sym c.is_digit.ensures ∙ c.if-is_digit.true) ends c.bytes_at.ensures c.literal.ensures
    c.is_none.ensures c.if-is_none.false

pub returns-then-is_none : goal.returns-then-is_none
returns-then-is_none c =
    let ends : c.behind-next.result ≡ c.skip_blank-start.result + run digit (drop c.skip_blank-start.result c.args.script.now) = search rules in
    glance_over _ _ _ c.skip_blank-start.ensures c.in-Some.ensures.lookup.3.0 (c.in-Some.ensures.lookup.3.1 0)
    (sym c.is_letter.ensures ∙ c.if-is_letter.false) (sym c.is_digit.ensures ∙ c.if-is_digit.true) ends c.bytes_at.ensures c.literal.ensures
    c.is_none.ensures c.if-is_none.true

pub returns-then-is_sign : goal.returns-then-is_sign
returns-then-is_sign c =
    glance_sign _ _ _ c.skip_blank-start.ensures c.in-Some.ensures.lookup.3.0 (c.in-Some.ensures.lookup.3.1 0)
    (sym c.is_letter.ensures ∙ c.if-is_letter.false) (sym c.is_digit.ensures ∙ c.if-is_digit.false) (sym c.is_sign.ensures ∙ c.if-is_sign.true)

pub returns : goal.returns
returns c =
    glance_none _ _ _ c.skip_blank-start.ensures c.in-Some.ensures.lookup.3.0 (c.in-Some.ensures.lookup.3.1 0)
    (sym c.is_letter.ensures ∙ c.if-is_letter.false) (sym c.is_digit.ensures ∙ c.if-is_digit.false) (sym c.is_sign.ensures ∙ c.if-is_sign.false)
