-- `printing::write_answer` meets its contract. Assumes nothing.
use Rattle.std.proofs.Common.{ℕ, rules}
use lib.ListN.{length-replicate}
use Rattle.answer.specs.Layout.{answer_length}
use Rattle.chains.specs.Layout.{program_length}
use Rattle.state.specs.Layout.{state_length}
use Rattle.printing.proofs.Laws.{answer_told, refusal_told, answer_appended, refusal_appended}
use Rattle.printing.proofs.write_answer.Goals as goal

pub returns-in-Ok-clause-tells : goal.returns-in-Ok-clause-tells
returns-in-Ok-clause-tells g c =
    answer_told _ _ _ _ _ (length-replicate {A = ℕ} answer_length 0) (length-replicate {A = ℕ} program_length 0) (length-replicate {A = ℕ} state_length 0)
    c.analyze.ensures _ _ c.tell.ensures (search rules) (search rules) c.write_frames.ensures.sends

pub returns-in-Ok-clause-appends : goal.returns-in-Ok-clause-appends
returns-in-Ok-clause-appends g c =
    answer_appended _ _ _ _ _ (length-replicate {A = ℕ} answer_length 0) (length-replicate {A = ℕ} program_length 0) (length-replicate {A = ℕ} state_length 0)
    c.analyze.ensures _ _ _ _ c.tell.ensures (search rules) (search rules) c.write_frames.ensures.appends

pub returns-in-Err-clause-tells : goal.returns-in-Err-clause-tells
returns-in-Err-clause-tells g c =
    refusal_told _ _ _ _ _ (length-replicate {A = ℕ} answer_length 0) (length-replicate {A = ℕ} program_length 0) (length-replicate {A = ℕ} state_length 0)
    c.analyze.ensures _ _ c.tell-in-Err.ensures c.in-Err.is c.write_refusal.ensures.sends

pub returns-in-Err-clause-appends : goal.returns-in-Err-clause-appends
returns-in-Err-clause-appends g c =
    refusal_appended _ _ _ _ _ (length-replicate {A = ℕ} answer_length 0) (length-replicate {A = ℕ} program_length 0) (length-replicate {A = ℕ} state_length 0)
    c.analyze.ensures _ _ _ _ c.tell-in-Err.ensures c.in-Err.is c.write_refusal.ensures.appends
