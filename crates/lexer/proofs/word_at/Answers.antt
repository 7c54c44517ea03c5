-- `lexer::word_at` meets its contract. Assumes nothing.
use Rattle.std.proofs.Common.{◌≡◌, ◌+◌, drop, sym, ◌∙◌, w64, rules, arith}
use Rattle.std.proofs.lemmas.Int.{to_z-of_z}
use Rattle.rules.specs.Words.{in_word, digit, run}
use Rattle.lexer.proofs.Lexes.{in_i64, word_end, word-letter, word-digit, word_over, word-sign, word_none}
use Rattle.lexer.proofs.Tried.{failed, there, missing}
use Rattle.lexer.proofs.word_at.Goals as goal

pub returns-in_default : goal.returns-in_default
returns-in_default c = word_end _ _ _ c.skip_blank-start.ensures c.in_default.ensures.lookup.3

pub overflow_sub-len : goal.overflow_sub-len
overflow_sub-len c =
    let ends : c.behind-next.result ≡ c.skip_blank-start.result + run in_word (drop c.skip_blank-start.result c.args.script.now) = search rules in
    omega arith

pub returns-then-is_letter : goal.returns-then-is_letter
returns-then-is_letter c =
    let ends : c.behind-next.result ≡ c.skip_blank-start.result + run in_word (drop c.skip_blank-start.result c.args.script.now) = search rules in
    word-letter _ _ _ c.skip_blank-start.ensures c.in-Some.ensures.lookup.3.0 (c.in-Some.ensures.lookup.3.1 0)
    (sym c.is_letter.ensures ∙ c.if-is_letter.true) ends c.bytes_at.ensures c.kept_token-token.ensures

pub overflow_sub-len-then-is_digit : goal.overflow_sub-len-then-is_digit
overflow_sub-len-then-is_digit c =
    let ends : c.behind-next-then-is_digit.result ≡ c.skip_blank-start.result + run digit (drop c.skip_blank-start.result c.args.script.now) = search rules in
    omega arith

pub returns-then-is_digit : goal.returns-then-is_digit
returns-then-is_digit c =
    let ends : c.behind-next-then-is_digit.result ≡ c.skip_blank-start.result + run digit (drop c.skip_blank-start.result c.args.script.now) = search rules in
    let found = there _ _ c.in_ok-value.ensures.value in
    simp (to_z-of_z w64 _ (in_i64 _ c.literal.ensures found))
    (word-digit _ _ _ c.skip_blank-start.ensures c.in-Some.ensures.lookup.3.0 (c.in-Some.ensures.lookup.3.1 0)
    (sym c.is_letter.ensures ∙ c.if-is_letter.false)
    (sym c.is_digit.ensures ∙ c.if-is_digit.true) ends c.bytes_at-then-is_digit.ensures c.literal.ensures found)

pub returns-in_err-value : goal.returns-in_err-value
returns-in_err-value c =
    let ends : c.behind-next-then-is_digit.result ≡ c.skip_blank-start.result + run digit (drop c.skip_blank-start.result c.args.script.now) = search rules in
    rw (failed _ c.from_residual.ensures.1, (missing _ c.in_err-value.ensures.value).1)
    (word_over _ _ _ c.skip_blank-start.ensures c.in-Some.ensures.lookup.3.0 (c.in-Some.ensures.lookup.3.1 0)
    (sym c.is_letter.ensures ∙ c.if-is_letter.false)
    (sym c.is_digit.ensures ∙ c.if-is_digit.true) ends c.bytes_at-then-is_digit.ensures c.literal.ensures
    (missing _ c.in_err-value.ensures.value).0)

pub returns-then-is_sign : goal.returns-then-is_sign
returns-then-is_sign c =
    word-sign _ _ _ c.skip_blank-start.ensures c.in-Some.ensures.lookup.3.0 (c.in-Some.ensures.lookup.3.1 0)
    (sym c.is_letter.ensures ∙ c.if-is_letter.false) (sym c.is_digit.ensures ∙ c.if-is_digit.false) (sym c.is_sign.ensures ∙ c.if-is_sign.true)

pub returns : goal.returns
returns c =
    word_none _ _ _ c.skip_blank-start.ensures c.in-Some.ensures.lookup.3.0 (c.in-Some.ensures.lookup.3.1 0)
    (sym c.is_letter.ensures ∙ c.if-is_letter.false) (sym c.is_digit.ensures ∙ c.if-is_digit.false) (sym c.is_sign.ensures ∙ c.if-is_sign.false)
