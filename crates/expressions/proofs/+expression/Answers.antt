-- The cycle `expression` of `expressions` meets its contracts. Assumes nothing.
use mathlib.Core.Path.{◌≡◌, refl, ap, ◌∙◌}
use Rattle.std.specs.Prelude.{true, false, Ok, Err}
use Rattle.std.proofs.Common.{w64, rules, arith}
use Rattle.std.proofs.lemmas.Int.{to_z-of_z}
use Rattle.rules.specs.Reading.{parse_expr}
use Rattle.lexer.specs.declared.Token.TheVariants as T
use Rattle.cursor.specs.Steps.{operator_of}
use Rattle.cursor.specs.Parsers.{parsed_in, ident_in, matched_in}
use Rattle.lexer.proofs.Tried.{failed}
use Rattle.cursor.proofs.Kept.{kept_none, after_none, after_placed, after_kept, after_scratch, did_of, idents_of, matches_of, finish}
use Rattle.cursor.proofs.Wording.{spelt_open, spelt_equals, spelt_close}
use Rattle.expressions.proofs.Standing.{finish_arg, arg_turn}
use Rattle.expressions.proofs.Turns.{arg_close, arg_no1, arg_none, args-start, suffix_ends, suffix_none}
use Rattle.expressions.proofs.Turns.{suffix_none_ahead, suffixes_start}
use Rattle.expressions.proofs.Ways.{Suffix, suffix_of, operating, suffix_open, suffix_dot, suffix_other, expr_deep}
use Rattle.expressions.proofs.Ways.{name_set, primary_group, primary_ivar, primary_name, literal_held, primary_number}
use Rattle.expressions.proofs.Readers.{first_no, value_no, value_then, args_no, args_then, done_no, done_then, expected, gives, adds, sends, name_no, sign_no, sign_not, sign_then}
use Rattle.expressions.proofs.Readers.{as_expr, unseen, as_group, as_ivar, as_name, as_call, as_member, as_right, call_goes, member_goes, operator_goes}
use Rattle.expressions.proofs.Readers.{args_stop, args_on, args_open, args_shut, suffixes_stop, suffixes_on}
use Rattle.expressions.proofs.+expression.Goals as goal

pub parse_arg-returns-in_err-x : goal.parse_arg-returns-in_err-x
parse_arg-returns-in_err-x t c =
    rw (failed _ c.from_residual.ensures.1)
    (finish_arg (after_none c.args.p.now) (arg_none _ _ (parse_expr _ _ c.args.depth) c.peek.ensures c.in_err-x.was))

pub parse_arg-returns-then-eq : goal.parse_arg-returns-then-eq
parse_arg-returns-then-eq t c =
    let e : c.in_ok-x.x.token ≡ T.Sign 41 = search rules in
    finish_arg (after_none c.args.p.now) (arg_close _ _ (parse_expr _ _ c.args.depth) c.in_ok-x.ensures refl c.requires.reading e)

pub parse_arg-returns-in_err-v : goal.parse_arg-returns-in_err-v
parse_arg-returns-in_err-v t c =
    let no : c.in_ok-x.x.token ≡ T.Sign 41 → ⊥ = search rules in
    rw (failed _ c.from_residual-in_err-v.ensures.1)
    (finish_arg (after_kept (after_none c.args.p.now) c.parse_from.ensures.kept)
    (arg_no1 _ _ (parse_expr _ _ c.args.depth) c.in_ok-x.ensures refl c.requires.reading no
    {p = parsed_in c.parse_from.new.p c.parse_from.result} c.parse_from.ensures.did (ap (parsed_in c.parse_from.new.p) c.in_err-v.was)))

pub parse_arg-returns : goal.parse_arg-returns
parse_arg-returns t c =
    let no : c.in_ok-x.x.token ≡ T.Sign 41 → ⊥ = search rules in
    let a1 = after_kept (after_none c.args.p.now) c.parse_from.ensures.kept in
    let a2 = after_scratch a1 c.push_arg.ensures.kept c.push_arg.ensures.program in
    finish_arg (after_placed a2 c.match_token.ensures.same)
    (arg_turn _ _ (parse_expr _ _ c.args.depth) c.in_ok-x.ensures c.requires.reading no (parsed_in c.parse_from.new.p c.parse_from.result) c.parse_from.ensures.did c.requires.args_bound
    (ap (parsed_in c.parse_from.new.p) c.in_ok-v.was) c.push_arg.new.self c.match_token.new.self c.push_arg.ensures.stacks c.match_token.result
    (matches_of a2 c.match_token.ensures) c.match_token.ensures.stays)

pub parse_args-loop-init : goal.parse_args-loop-init
parse_args-loop-init t c =
    record { kept = kept_none _; inv = args-start _ _ _ c.requires.reading c.requires.args_bound }

pub parse_args-returns-in_err-parse_arg : goal.parse_args-returns-in_err-parse_arg
parse_args-returns-in_err-parse_arg t c =
    rw (failed _ c.from_residual.ensures.1) (args_stop c.loop.invariant c.parse_arg.ensures c.in_err-parse_arg.was)

pub parse_args-loop-preserved : goal.parse_args-loop-preserved
parse_args-loop-preserved t c =
    args_on c.loop.invariant c.parse_arg.ensures (c.in_ok-parse_arg.was ∙ ap Ok c.if-branch.true)

pub parse_args-returns-in_err-expect : goal.parse_args-returns-in_err-expect
parse_args-returns-in_err-expect t c =
    rw (failed _ c.from_residual-in_err-expect.ensures.1) (args_open c.loop.invariant c.parse_arg.ensures (c.in_ok-parse_arg.was ∙ ap Ok c.if-branch.false) c.expect.ensures c.in_err-expect.was)

pub parse_args-returns : goal.parse_args-returns
parse_args-returns t c =
    args_shut c.loop.invariant c.parse_arg.ensures (c.in_ok-parse_arg.was ∙ ap Ok c.if-branch.false) c.expect.ensures c.in_ok-expect.was

pub parse_call-returns-in_err-n : goal.parse_call-returns-in_err-n
parse_call-returns-in_err-n t c =
    rw (failed _ c.from_residual.ensures.1) (as_call _ _ (args_no c.parse_args.ensures _ c.in_err-n.was))

pub parse_call-returns : goal.parse_call-returns
parse_call-returns t c =
    as_call _ _ (args_then c.parse_args.ensures _ c.in_ok-n.was (adds c.bare_call.ensures.kept (c.bare_call.ensures.adds _)))

pub parse_expr-returns-then-depth-eq0 : goal.parse_expr-returns-then-depth-eq0
parse_expr-returns-then-depth-eq0 t c =
    record { kept = kept_none _; did = expr_deep _ _ _ _ c.if-depth-eq0.true }

pub parse_expr-returns-in_err-x : goal.parse_expr-returns-in_err-x
parse_expr-returns-in_err-x t c =
    rw (failed _ c.from_residual.ensures.1) (as_expr _ _ c.if-depth-eq0.false (first_no _ (unseen _ c.peek.ensures c.in_err-x.was)))

pub parse_from-returns-then-depth-lt1 : goal.parse_from-returns-then-depth-lt1
parse_from-returns-then-depth-lt1 t c =
    record { kept = kept_none _; did = expr_deep _ _ _ _ (omega (arith, c.if-depth-lt1.true)) }

pub parse_from-returns-in_err-v : goal.parse_from-returns-in_err-v
parse_from-returns-in_err-v t c =
    rw (failed _ c.from_residual.ensures.1) (as_expr _ _ (λ z. omega (arith, c.if-depth-lt1.false, z)) (value_no _ _ c.parse_primary.ensures c.in_err-v.was))

pub parse_from-returns : goal.parse_from-returns
parse_from-returns t c =
    as_expr _ _ (λ z. omega (arith, c.if-depth-lt1.false, z)) (value_then _ _ c.parse_primary.ensures c.in_ok-v.was (λ h. c.parse_suffixes.ensures))

pub parse_group-returns-in_err-v : goal.parse_group-returns-in_err-v
parse_group-returns-in_err-v t c =
    rw (failed _ c.from_residual.ensures.1) (as_group _ (value_no _ _ c.parse_expr.ensures c.in_err-v.was))

pub parse_group-returns-in_err-expect : goal.parse_group-returns-in_err-expect
parse_group-returns-in_err-expect t c =
    rw (failed _ c.from_residual-in_err-expect.ensures.1) (as_group _
    (value_then _ _ c.parse_expr.ensures c.in_ok-v.was (λ h. done_no _ _ (expected _ spelt_close c.expect.ensures h) c.in_err-expect.was)))

pub parse_group-returns : goal.parse_group-returns
parse_group-returns t c =
    as_group _ (value_then _ _ c.parse_expr.ensures c.in_ok-v.was (λ h. done_then _ _ (expected _ spelt_close c.expect.ensures h) c.in_ok-expect.was (gives _)))

pub parse_ivar-returns-in_err-n : goal.parse_ivar-returns-in_err-n
parse_ivar-returns-in_err-n t c =
    rw (failed _ c.from_residual.ensures.1) (as_ivar _ (name_no c.requires c.expect_ident.ensures _ c.in_err-n.was))

pub parse_ivar-returns-in_err-match_token : goal.parse_ivar-returns-in_err-match_token
parse_ivar-returns-in_err-match_token t c =
    rw (failed _ c.from_residual-in_err-match_token.ensures.1) (as_ivar _ (sign_no c.requires c.expect_ident.ensures c.in_ok-n.was c.match_token.ensures _ spelt_equals c.in_err-match_token.was))

pub parse_ivar-returns-in_err-v : goal.parse_ivar-returns-in_err-v
parse_ivar-returns-in_err-v t c =
    rw (failed _ c.from_residual-in_err-v.ensures.1) (as_ivar _ (sign_then c.requires c.expect_ident.ensures c.in_ok-n.was c.match_token.ensures _
    spelt_equals
    (c.in_ok-match_token.was ∙ ap Ok c.if-branch.true) (value_no _ _ c.parse_expr.ensures c.in_err-v.was)))

pub parse_ivar-returns-then-branch : goal.parse_ivar-returns-then-branch
parse_ivar-returns-then-branch t c =
    as_ivar _ (sign_then c.requires c.expect_ident.ensures c.in_ok-n.was c.match_token.ensures _ spelt_equals
    (c.in_ok-match_token.was ∙ ap Ok c.if-branch.true)
    (value_then _ _ c.parse_expr.ensures c.in_ok-v.was (adds c.set_ivar.ensures.kept (c.set_ivar.ensures.adds _ _))))

pub parse_ivar-returns : goal.parse_ivar-returns
parse_ivar-returns t c =
    as_ivar _ (sign_not c.requires c.expect_ident.ensures c.in_ok-n.was c.match_token.ensures _ spelt_equals
    (c.in_ok-match_token.was ∙ ap Ok c.if-branch.false) (adds c.get_ivar.ensures.kept (c.get_ivar.ensures.adds _ _)))

pub parse_name-returns-in_err-n : goal.parse_name-returns-in_err-n
parse_name-returns-in_err-n t c =
    rw (failed _ c.from_residual.ensures.1) (as_name _ (name_no c.requires.reading (c.take_name.ensures c.requires.sees) _ c.in_err-n.was))

pub parse_name-returns-in_err-sets : goal.parse_name-returns-in_err-sets
parse_name-returns-in_err-sets t c =
    let no : c.match_token-sets.result ≡ Err c.in_err-sets.field-0.0 = grind arith in
    rw (failed _ c.from_residual-in_err-sets.ensures.1) (as_name _
    (sign_no c.requires.reading (c.take_name.ensures c.requires.sees) c.in_ok-n.was c.match_token-sets.ensures _ spelt_equals no))

pub parse_name-returns-in_err-v : goal.parse_name-returns-in_err-v
parse_name-returns-in_err-v t c =
    let yes : c.match_token-sets.result ≡ Ok true = grind arith in
    rw (failed _ c.from_residual-in_err-v.ensures.1) (as_name _ (sign_then c.requires.reading
    (c.take_name.ensures c.requires.sees) c.in_ok-n.was c.match_token-sets.ensures _ spelt_equals yes
    (value_no _ _ c.parse_expr.ensures c.in_err-v.was)))

pub parse_name-returns-then-branch : goal.parse_name-returns-then-branch
parse_name-returns-then-branch t c =
    let yes : c.match_token-sets.result ≡ Ok true = grind arith in
    let i = c.take_name.ensures c.requires.sees in
    let a1 = after_placed (after_none c.args.p.now) i.same in
    let a2 = after_placed a1 c.match_token-sets.ensures.same in
    let a3 = after_kept a2 c.parse_expr.ensures.kept in
    finish (after_scratch a3 c.assign.ensures.kept c.assign.ensures.program)
    (name_set _ _ (parse_expr _ _ c.args.depth) c.requires.reading (idents_of (after_none c.args.p.now) i) (ap (ident_in c.take_name.new.self) c.in_ok-n.was)
    (matches_of a1 c.match_token-sets.ensures) (ap (matched_in c.match_token-sets.new.self) yes)
    {p = parsed_in c.parse_expr.new.p c.parse_expr.result} (did_of a2 c.parse_expr.ensures) (ap (parsed_in c.parse_expr.new.p) c.in_ok-v.was)
    (rw a3.kept.script at c.assign.ensures.assigns))

pub parse_name-returns : goal.parse_name-returns
parse_name-returns t c =
    let no : c.match_token-sets.result ≡ Ok false = grind arith in
    as_name _ (sign_not c.requires.reading (c.take_name.ensures c.requires.sees) c.in_ok-n.was c.match_token-sets.ensures _ spelt_equals
    no (λ h. c.name_value.ensures))

pub parse_member-returns-in_err-n : goal.parse_member-returns-in_err-n
parse_member-returns-in_err-n t c =
    rw (failed _ c.from_residual.ensures.1) (as_member _ _ (name_no c.requires c.expect_ident.ensures _ c.in_err-n.was))

pub parse_member-returns-in_err-match_token : goal.parse_member-returns-in_err-match_token
parse_member-returns-in_err-match_token t c =
    rw (failed _ c.from_residual-in_err-match_token.ensures.1) (as_member _ _ (sign_no c.requires c.expect_ident.ensures c.in_ok-n.was c.match_token.ensures _ spelt_open c.in_err-match_token.was))

pub parse_member-returns-in_err-k : goal.parse_member-returns-in_err-k
parse_member-returns-in_err-k t c =
    rw (failed _ c.from_residual-in_err-k.ensures.1) (as_member _ _ (sign_then c.requires c.expect_ident.ensures c.in_ok-n.was c.match_token.ensures _
    spelt_open
    (c.in_ok-match_token.was ∙ ap Ok c.if-branch.true) (args_no c.parse_args.ensures _ c.in_err-k.was)))

pub parse_member-returns-then-branch : goal.parse_member-returns-then-branch
parse_member-returns-then-branch t c =
    as_member _ _ (sign_then c.requires c.expect_ident.ensures c.in_ok-n.was c.match_token.ensures _ spelt_open
    (c.in_ok-match_token.was ∙ ap Ok c.if-branch.true) (args_then c.parse_args.ensures _ c.in_ok-k.was (λ h. sends _ _ _ _ c.send.ensures.did)))

pub parse_member-returns : goal.parse_member-returns
parse_member-returns t c =
    as_member _ _ (sign_not c.requires c.expect_ident.ensures c.in_ok-n.was c.match_token.ensures _ spelt_open
    (c.in_ok-match_token.was ∙ ap Ok c.if-branch.false) (adds c.read_attr.ensures.kept (c.read_attr.ensures.adds _)))

pub parse_primary-returns-in-Number : goal.parse_primary-returns-in-Number
parse_primary-returns-in-Number t c =
    finish (after_placed (after_none c.args.p.now) {at = c.args.x.next} refl)
    (primary_number _ _ (parse_expr _ _ c.args.depth) c.requires.sees refl c.requires.reading c.in-Number.is refl
    (simp (to_z-of_z w64 _ (literal_held c.requires.sees c.in-Number.is)) at c.number.ensures))

pub parse_primary-returns-then-eq : goal.parse_primary-returns-then-eq
parse_primary-returns-then-eq t c =
    let k : c.args.x.token ≡ T.Sign 40 = search rules in
    let a1 = after_placed (after_none c.args.p.now) {at = c.args.x.next} refl in
    finish (after_kept a1 c.parse_group.ensures.kept) (primary_group _ _
    (parse_expr _ _ c.args.depth) c.requires.sees refl c.requires.reading c.in_default.not-Number k refl (did_of a1 c.parse_group.ensures))

pub parse_primary-returns-then-eq-2 : goal.parse_primary-returns-then-eq-2
parse_primary-returns-then-eq-2 t c =
    let no : c.args.x.token ≡ T.Sign 40 → ⊥ = search rules in
    let k : c.args.x.token ≡ T.Sign 64 = search rules in
    let a1 = after_placed (after_none c.args.p.now) {at = c.args.x.next} refl in
    finish (after_kept a1 c.parse_ivar.ensures.kept) (primary_ivar _ _
    (parse_expr _ _ c.args.depth) c.requires.sees refl c.requires.reading c.in_default.not-Number no k refl (did_of a1 c.parse_ivar.ensures))

pub parse_primary-returns : goal.parse_primary-returns
parse_primary-returns t c =
    let no : c.args.x.token ≡ T.Sign 40 → ⊥ = search rules in
    let no2 : c.args.x.token ≡ T.Sign 64 → ⊥ = search rules in
    finish (after_kept (after_none c.args.p.now) c.parse_name.ensures.kept)
    (primary_name _ _
    (parse_expr _ _ c.args.depth) c.requires.sees refl c.requires.reading c.in_default.not-Number no no2 c.parse_name.ensures.did)

pub parse_right-returns-in_err-w : goal.parse_right-returns-in_err-w
parse_right-returns-in_err-w t c =
    rw (failed _ c.from_residual.ensures.1) (as_right _ _ _ _ (value_no _ _ c.parse_expr.ensures c.in_err-w.was))

pub parse_right-returns : goal.parse_right-returns
parse_right-returns t c =
    as_right _ _ _ _ (value_then _ _ c.parse_expr.ensures c.in_ok-w.was (adds c.push.ensures.kept (c.push.ensures.adds _ _)))

pub parse_suffix-returns-in_err-k : goal.parse_suffix-returns-in_err-k
parse_suffix-returns-in_err-k t c =
    rw (failed _ c.from_residual.ensures.1)
    (record { kept = kept_none _; did = suffix_none _ _ (parse_expr _ _ c.args.depth) _ c.args.v c.glance.ensures c.in_err-k.was; stays = λ z. refl })

pub parse_suffix-returns-in_default : goal.parse_suffix-returns-in_default
parse_suffix-returns-in_default t c =
    record { kept = kept_none _; did = suffix_none_ahead _ _ (parse_expr _ _ c.args.depth) _ c.args.v c.glance.ensures (c.in_ok-k.was ∙ ap Ok c.in_default.is) c.requires; stays = λ z. refl }

pub parse_suffix-returns-in_err-w-in-40 : goal.parse_suffix-returns-in_err-w-in-40
parse_suffix-returns-in_err-w-in-40 t c =
    let leads : Suffix.Call ≡ suffix_of c.in-Some.k c.args.prec = search suffix_open in
    rw (failed _ c.from_residual-in_err-w-in-40.ensures.1) (call_goes _ _ c.requires c.glance.ensures (c.in_ok-k.was ∙ ap Ok c.in-Some.is) _ leads c.parse_call.ensures _ c.in_err-w-in-40.was)

pub parse_suffix-returns-in_ok-w-in-40 : goal.parse_suffix-returns-in_ok-w-in-40
parse_suffix-returns-in_ok-w-in-40 t c =
    let leads : Suffix.Call ≡ suffix_of c.in-Some.k c.args.prec = search suffix_open in
    call_goes _ _ c.requires c.glance.ensures (c.in_ok-k.was ∙ ap Ok c.in-Some.is) _ leads c.parse_call.ensures _ c.in_ok-w-in-40.was

pub parse_suffix-returns-in_err-w-in-46 : goal.parse_suffix-returns-in_err-w-in-46
parse_suffix-returns-in_err-w-in-46 t c =
    let leads : Suffix.Member ≡ suffix_of c.in-Some.k c.args.prec = search suffix_dot in
    rw (failed _ c.from_residual-in_err-w-in-46.ensures.1) (member_goes _ _ c.requires c.glance.ensures (c.in_ok-k.was ∙ ap Ok c.in-Some.is) _ leads c.parse_member.ensures _ c.in_err-w-in-46.was)

pub parse_suffix-returns-in_ok-w-in-46 : goal.parse_suffix-returns-in_ok-w-in-46
parse_suffix-returns-in_ok-w-in-46 t c =
    let leads : Suffix.Member ≡ suffix_of c.in-Some.k c.args.prec = search suffix_dot in
    member_goes _ _ c.requires c.glance.ensures (c.in_ok-k.was ∙ ap Ok c.in-Some.is) _ leads c.parse_member.ensures _ c.in_ok-w-in-46.was

pub parse_suffix-returns-in_default-operator_of : goal.parse_suffix-returns-in_default-operator_of
parse_suffix-returns-in_default-operator_of t c =
    let leads : operating (operator_of c.in-Some.k c.args.prec) ≡ suffix_of c.in-Some.k c.args.prec = search suffix_other in
    record {
      kept = kept_none _;
      did = suffix_ends _ _ (parse_expr _ _ c.args.depth) _ c.args.v c.glance.ensures
          (c.in_ok-k.was ∙ ap Ok c.in-Some.is) c.requires (ap operating c.operator_of.ensures ∙ leads) (ap operating c.in_default-operator_of.is);
      stays = λ z. refl;
    }

pub parse_suffix-returns-in_err-w-in_default-k : goal.parse_suffix-returns-in_err-w-in_default-k
parse_suffix-returns-in_err-w-in_default-k t c =
    let leads : operating (operator_of c.in-Some.k c.args.prec) ≡ suffix_of c.in-Some.k c.args.prec = search suffix_other in
    rw (failed _ c.from_residual-in_err-w-in_default-k.ensures.1) (operator_goes _ _ c.requires c.glance.ensures
    (c.in_ok-k.was ∙ ap Ok c.in-Some.is) _
    (ap operating c.operator_of.ensures ∙ leads) c.in-Some-operator_of.is c.parse_right.ensures _ c.in_err-w-in_default-k.was)

pub parse_suffix-returns-in_ok-w-in_default-k : goal.parse_suffix-returns-in_ok-w-in_default-k
parse_suffix-returns-in_ok-w-in_default-k t c =
    let leads : operating (operator_of c.in-Some.k c.args.prec) ≡ suffix_of c.in-Some.k c.args.prec = search suffix_other in
    operator_goes _ _ c.requires c.glance.ensures (c.in_ok-k.was ∙ ap Ok c.in-Some.is) _
    (ap operating c.operator_of.ensures ∙ leads) c.in-Some-operator_of.is c.parse_right.ensures _ c.in_ok-w-in_default-k.was

pub parse_suffixes-loop-w-init : goal.parse_suffixes-loop-w-init
parse_suffixes-loop-w-init t c =
    record { kept = kept_none _; inv = suffixes_start _ _ _ _ c.args.v c.requires }

pub parse_suffixes-returns-in_err-w : goal.parse_suffixes-returns-in_err-w
parse_suffixes-returns-in_err-w t c =
    rw (failed _ c.from_residual.ensures.1) (suffixes_stop c.loop-w.invariant c.parse_suffix.ensures c.in_err-w.was)

pub parse_suffixes-loop-w-preserved : goal.parse_suffixes-loop-w-preserved
parse_suffixes-loop-w-preserved t c =
    suffixes_on c.loop-w.invariant c.parse_suffix.ensures (c.in_ok-w.was ∙ ap Ok c.in-Some.is)
