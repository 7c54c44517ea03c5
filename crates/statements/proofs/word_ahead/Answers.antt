-- `statements::word_ahead` meets its contract. Assumes nothing.
use mathlib.Core.Path.{◌≡◌, refl}
use Rattle.std.proofs.Common.{rules}
use Rattle.lexer.specs.declared.Token.TheVariants as T
use Rattle.lexer.proofs.Tried.{failed}
use Rattle.statements.proofs.Paths.{halts-none, halts_end, halts_else, halts-not, halts-on}
use Rattle.statements.proofs.word_ahead.Goals as goal
use Rattle.statements.proofs.word_ahead.Goals.{else-arm-via-then-arm+else-eq-2, else-arm-via-else-arm}

pub returns-in_err-x : goal.returns-in_err-x
returns-in_err-x c =
    rw (failed _ c.from_residual.ensures.1) (halts-none c.peek.ensures c.args.arm c.in_err-x.was)

pub returns-then-eq : goal.returns-then-eq
returns-then-eq c =
    let e : c.in_ok-x.x.token ≡ T.End = search rules in
    halts_end c.in_ok-x.ensures refl c.args.arm e

pub returns-then-eq-2 : goal.returns-then-eq-2
returns-then-eq-2 c =
    let no : c.in_ok-x.x.token ≡ T.End → ⊥ = search rules in
    let e : c.in_ok-x.x.token ≡ T.Else = search rules in
    halts_else c.in_ok-x.ensures refl no c.if-arm.true e

pub returns : goal.returns
returns c =
    let no : c.in_ok-x.x.token ≡ T.End → ⊥ = search rules in
    elim c.else-arm.branch [
      | else-arm-via-then-arm+else-eq-2 w ↦
          let no2 : c.in_ok-x.x.token ≡ T.Else → ⊥ = search rules in
          halts-not c.in_ok-x.ensures refl no w.if-arm.true no2
      | else-arm-via-else-arm w ↦ halts-on c.in_ok-x.ensures refl no w.if-arm.false
    ]
