-- An answer memory with the uses and the final state in it is the image of the analysis's record. Assumes nothing.
use mathlib.Core.Path.{◌≡◌, sym, ap, ◌∙◌}
use mathlib.Core.List.{List}
use Prim.Native.Nat.{ℕ}
use lib.ListN.{length, get_or}
use Rattle.rules.specs.Lists.{concat}
use Rattle.memory.specs.Memory.{Blank, over}
use Rattle.program.specs.View.{program_view, ProgramReady}
use Rattle.program.specs.declared.Counts.{Counts}
use Rattle.machine.specs.Analysed.{Users}
use Rattle.state.specs.declared.Sizes.{Sizes}
use Rattle.state.specs.declared.Regs.{Regs}
use Rattle.state.specs.View.{Attrs, kinds_of, state_view}
use Rattle.state.proofs.Tables.{called-length}
use Rattle.answer.specs.Layout.{answer_length, starts_at, users_at}
use Rattle.answer.specs.Record.{Legal, users_from, answer_record}
use Rattle.answer.specs.Image.{starts_from, image_of}
use Rattle.answer.proofs.Publish.{published}
use Rattle.publish.specs.Final.{caller_words, with_state}
use Rattle.publish.proofs.Tables.{live-length, kinds-length}
use Rattle.publish.proofs.Uses.{Outside, uses_written}

module _ (s m : List ℕ) (c : Counts) (z : Sizes) (v : Attrs) (w : List ℕ) (q : Regs) (ready : ProgramReady m c) (sizes : z.insns ≡ c.insns)
    (ok : Legal (answer_record (program_view s m c) (state_view z v w q))) where
  pub image_written : {a₀ a₁ a₂ : List ℕ} → Blank a₀ answer_length → length a₁ ≡ length a₀ → Users m c a₁ → ((k : ℕ) → Outside c a₁ k → get_or a₁ k 0 ≡ get_or a₀ k 0) → a₂ ≡ with_state z w q.count a₁
      → a₂ ≡ image_of (answer_record (program_view s m c) (state_view z v w q))
  unfolding with_state caller_words
  image_written {a₀} {a₁} {a₂} b l u o e =
      let p = program_view s m c in
      let r = answer_record p (state_view z v w q) in
      let n : c.insns ≡ length (kinds_of z w) = sym (kinds-length z w ∙ sizes) in
      let e₁ : a₁ ≡ over users_at (concat r.users) (over starts_at (starts_from 0 r.users) a₀) =
      uses_written s m c a₀ a₁ ready b.len l u o ∙ ap (λ (k : ℕ). over users_at (concat (users_from p 0 k)) (over starts_at (starts_from 0 (users_from p 0 k)) a₀)) n in
      published r ok a₀ b e₁ (e ∙ rw (called-length z w, live-length z w, kinds-length z w))
