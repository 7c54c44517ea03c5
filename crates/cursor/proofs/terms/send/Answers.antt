-- `cursor::terms::send` meets its contract. Assumes nothing.
use mathlib.Core.Path.{◌≡◌}
use mathlib.Core.Option.{Option, none, some}
use Prim.Native.Nat.{ℕ}
use Rattle.std.proofs.Common.{rules}
use Rattle.rules.specs.Values.{class_in}
use Rattle.rules.specs.Reading.{constant_of}
use Rattle.program.specs.Rows.{opnd_of}
use Rattle.cursor.proofs.terms.Terms.{send-new, send-other, send_dynamic}
use Rattle.cursor.proofs.terms.send.Goals as goal

pub returns-then-same_bytes-clause-did : goal.returns-then-same_bytes-clause-did
returns-then-same_bytes-clause-did c = λ E w d e f h.
    let x : ◌≡◌ {A = Option ℕ} (some c.in-Const-Class.class.0) (constant_of class_in (opnd_of c.args.v)) = search rules in
    send-new _ _ _ w d c.args.v c.args.n _ x (rw c.of.ensures at c.same_bytes.ensures) c.if-same_bytes.true
    (λ F. c.create_instance.ensures.did F w d e f h) E

pub returns-else-same_bytes-clause-did : goal.returns-else-same_bytes-clause-did
returns-else-same_bytes-clause-did c = λ E w d e f h.
    let x : ◌≡◌ {A = Option ℕ} (some c.in-Const-Class.class.0) (constant_of class_in (opnd_of c.args.v)) = search rules in
    send-other _ _ _ w d c.args.v c.args.n _ x (rw c.of.ensures at c.same_bytes.ensures) c.if-same_bytes.false E

pub returns-in_default-clause-did : goal.returns-in_default-clause-did
returns-in_default-clause-did c = λ E w d e f h.
    let x : ◌≡◌ {A = Option ℕ} none (constant_of class_in (opnd_of c.args.v)) = search rules in
    send_dynamic _ _ _ w d c.args.v c.args.n _ h x (c.push_call.ensures.adds _ w d e f) E
