-- `cursor::terms::name_value` meets its contract. Assumes nothing.
use mathlib.Core.Path.{◌≡◌, refl, ap}
use native.Mathlib.Omega.{arith}
use Rattle.std.specs.Prelude.{Ok, Err}
use Rattle.refusals.specs.declared.Refusal.TheVariants.{UnboundName}
use Rattle.cursor.specs.Promises.{parsed_at}
use Rattle.cursor.proofs.terms.Terms.{value-fixed, value_fun, value-class, value-last}
use Rattle.cursor.proofs.terms.name_value.Goals as goal

pub returns-in-Some : goal.returns-in-Some
returns-in-Some c = λ d x v k h. value-fixed _ _ _ d c.args.n h c.in-Some.ensures.fixed refl c.in-Some.ensures.value

pub returns-in-Some-function_named : goal.returns-in-Some-function_named
returns-in-Some-function_named c = λ d x v k h.
    value_fun _ _ _ d c.args.n h c.in_default.ensures.fixed refl (rw k c.in-Some-function_named.ensures) refl

pub returns-in-Some-class_named : goal.returns-in-Some-class_named
returns-in-Some-class_named c = λ d x v k h.
    value-class _ _ _ d c.args.n h c.in_default.ensures.fixed refl (rw k c.in_default-function_named.ensures) refl
    (rw (k, x) c.in-Some-class_named.ensures) refl

pub returns : goal.returns
returns c = λ d x v k h.
    value-last _ _ _ d c.args.n h c.in_default.ensures.fixed refl (rw k c.in_default-function_named.ensures) refl
    (rw (k, x) c.in_default-class_named.ensures) refl c.get_var-found.result (rw v c.get_var-found.ensures) {p = parsed_at d c.ok_or.result}
    (λ o e. let there : c.ok_or.result ≡ Ok o = grind arith in ap (parsed_at d) there)
    (λ e. let none : c.ok_or.result ≡ Err UnboundName = grind arith in ap (parsed_at d) none)
