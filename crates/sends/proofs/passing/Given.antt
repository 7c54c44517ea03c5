-- What the functions rely on follows from a finished program and its index. Assumes nothing.
use mathlib.Core.Bool.{true}
use mathlib.Core.Path.{◌≡◌, refl, subst, sym, ap, ◌∙◌}
use mathlib.Core.List.{List, map}
use Prim.Native.Nat.{ℕ, ◌+◌, ◌*◌, ◌<◌}
use native.Mathlib.Omega.{arith}
use lib.ListN.{length, get_or}
use Rattle.kinds.specs.declared.Kind.TheVariants.{Empty}
use Rattle.rules.specs.Lists.{has}
use Rattle.rules.specs.Program as P
use Rattle.rules.specs.Program.{Limits, about, op_of, entry, parameters}
use Rattle.rules.specs.Finished.{Finished}
use Rattle.program.specs.declared.Counts.{Counts}
use Rattle.program.specs.declared.Row.{Row}
use Rattle.program.specs.Rows.{opnd_of, opnds_in, listed_in}
use Rattle.program.specs.View.{program_view, ProgramReady, ReadsInsn}
use Rattle.program.proofs.Areas.{given-length}
use Rattle.program.proofs.Committing.{listed-is}
use Rattle.program.proofs.Viewing.{instructions-length}
use Rattle.state.specs.declared.Sizes.{Sizes}
use Rattle.state.specs.View.{Attrs}
use Rattle.chains.specs.Chains.{ChainIs, Index}
use Rattle.flows.specs.Tally.{FitsAt}
use Rattle.flows.proofs.Sounds.{listed-fits}
use Rattle.memory.specs.Layout.{blocks_room}
use Rattle.program.specs.Layout.{opnds_at}
use Rattle.sends.specs.passing.Passing.{HasParams, Caller, PassIn}

module _ (L : Limits) (s m : List ℕ) (c : Counts) (z : Sizes) (i : ℕ) where
  pub caller_of : ProgramReady m c → Finished L (program_view s m c) → z.insns ≡ c.insns → i < c.insns → has (about (op_of (program_view s m c) i)).callee ≡ true → Caller m c z i
  caller_of r g e lt h = record {
    script = s;
    ready = r;
    sizes = e;
    below = lt;
    call = h;
    listed = λ k.
        subst (λ (n : ℕ). FitsAt n (get_or (about (op_of (program_view s m c) i)).listed k (P.Const Empty))) (instructions-length s m c.insns ∙ sym e) (listed-fits L (program_view s m c) g i k);
  }

module _ (s m : List ℕ) (c : Counts) (z : Sizes) (x : List ℕ) (f e : ℕ) (g : Index m c x) (r : ProgramReady m c) (same : z.insns ≡ c.insns) (below : f < c.functions)
    (entered : entry (program_view s m c) f ≡ e) (few : e < blocks_room) where
  params-held : ChainIs x z.insns 1 e (parameters (program_view s m c) f)
  params-held =
      subst (λ (n : ℕ). ChainIs x n 1 e (parameters (program_view s m c) f)) (sym same)
      (subst (λ (b : ℕ). ChainIs x c.insns 1 b (parameters (program_view s m c) f)) entered (g.params s f below (let a = entered in omega arith)))

  pub has-params : HasParams z.insns x e
  has-params = record { long = g.len; below = few; few = let a = r.insns in omega arith; list = parameters (program_view s m c) f; held = params-held }

  pub pass_in : (i : ℕ) (v : Attrs) → has (about (op_of (program_view s m c) i)).callee ≡ true → PassIn m c z x i f e (program_view s m c) v
  pass_in i v h = record { call = record { script = s; program = refl; call = h }; params = params-held }

-- how many arguments instruction i has, by its row
pub args_are : (s m : List ℕ) (c : Counts) (i : ℕ) {x : Row} {k : ℕ} → ReadsInsn m c i x → k ≡ listed_in x.op x.count → length (about (op_of (program_view s m c) i)).listed ≡ k
args_are s m c i {x} d e =
    let l = map opnd_of (opnds_in m (opnds_at + 2 * x.first) x.count) in
    ap (λ (y : P.Instruction). length (about y.op).listed) (d.is s) ∙ listed-is s x.op l ∙ ap (listed_in x.op) (given-length m (opnds_at + 2 * x.first) x.count) ∙ sym e
