-- `cursor::bare_call` meets its contract. Assumes nothing.
use mathlib.Core.Path.{◌≡◌}
use mathlib.Core.Option.{Option, none}
use Prim.Native.Nat.{ℕ}
use Rattle.std.proofs.Common.{rules}
use Rattle.rules.specs.Values.{function_in}
use Rattle.rules.specs.Reading.{constant_of}
use Rattle.kinds.specs.declared.Kind.{Kind}
use Rattle.program.specs.Rows.{opnd_of}
use Rattle.program.specs.declared.Opnd.TheVariants.{Const}
use Rattle.cursor.proofs.Leaves.{bare_yes, bare_no}
use Rattle.cursor.proofs.bare_call.Goals as goal

pub returns-in-Const-Fun-clause-adds : goal.returns-in-Const-Fun-clause-adds
returns-in-Const-Fun-clause-adds c = λ s w d e f.
    let x : c.args.v ≡ Const (Kind.Fun c.in-Const-Fun.f) = search rules in
    bare_yes s w _ _ d c.args.draft.now.limits c.args.v _ _ c.in-Const-Fun.f x (c.push_call.ensures.adds s w d e f)

pub returns-in_default-clause-adds : goal.returns-in_default-clause-adds
returns-in_default-clause-adds c = λ s w d e f.
    let x : ◌≡◌ {A = Option ℕ} none (constant_of function_in (opnd_of c.args.v)) = search rules in
    bare_no s w _ _ d c.args.draft.now.limits c.args.v _ x

pub returns-in_default-2-clause-adds : goal.returns-in_default-2-clause-adds
returns-in_default-2-clause-adds c = λ s w d e f.
    let x : ◌≡◌ {A = Option ℕ} none (constant_of function_in (opnd_of c.args.v)) = search rules in
    bare_no s w _ _ d c.args.draft.now.limits c.args.v _ x
