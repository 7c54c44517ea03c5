-- `lookups::push_ivar` meets its contract. Assumes nothing.
use Rattle.std.proofs.Common.{◌≡◌, ◌<◌, ◌∙◌, List, ℕ, ap, arith}
use Rattle.memory.specs.Layout.{ivars_most}
use Rattle.program.specs.Rows.{ivars_of}
use Rattle.program.proofs.Room.{small_of}
use Rattle.lookups.proofs.Ivars.{ivar_taken, ivar_full, ivar_done, ivar_ready}
use Rattle.lookups.proofs.push_ivar.Goals as goal

pub invariant_of-draft : goal.invariant_of-draft
invariant_of-draft c =
    let counted : c.ivars_of-j.result ≡ ivars_of c.args.draft.now.words.now c.args.k.0 = c.ivars_of-j.ensures ∙ ap (λ (m : List ℕ). ivars_of m c.args.k.0) c.program-program.ensures.words in
    let few : ivars_of c.args.draft.now.words.now c.args.k.0 < ivars_most = omega (arith, c.if-draft-j.false, (small_of c.args.draft.now.limits).ivars) in
    record { ready = ivar_ready c.args.n c.args.draft.now.ready c.requires few (rw counted at c.put_ivar.ensures) }

pub returns-then-is_some-clause-declares : goal.returns-then-is_some-clause-declares
returns-then-is_some-clause-declares c = search ivar_taken

pub returns-then-draft-j-clause-declares : goal.returns-then-draft-j-clause-declares
returns-then-draft-j-clause-declares c = search ivar_full

pub returns-clause-declares : goal.returns-clause-declares
returns-clause-declares c = search (ivar_done, small_of)
