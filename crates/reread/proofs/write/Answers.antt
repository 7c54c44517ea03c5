-- `reread::write` meets its contract. Assumes nothing.
use Rattle.reread.proofs.Laws.{answer_again, refusal_again, unread_again}
use Rattle.reread.proofs.write.Goals as goal

pub returns-in-Answer-clause-sends : goal.returns-in-Answer-clause-sends
returns-in-Answer-clause-sends g c = λ t h. rw (← answer_again t (rw c.in-Answer.is at h)) c.write_frames.ensures.sends

pub returns-in-Answer-clause-appends : goal.returns-in-Answer-clause-appends
returns-in-Answer-clause-appends g c = λ t h. rw (← answer_again t (rw c.in-Answer.is at h)) c.write_frames.ensures.appends

pub returns-in-Refusal-clause-sends : goal.returns-in-Refusal-clause-sends
returns-in-Refusal-clause-sends g c = λ t h. rw (← refusal_again t c.in-Refusal.n (rw c.in-Refusal.is at h)) c.write_number.ensures.sends

pub returns-in-Refusal-clause-appends : goal.returns-in-Refusal-clause-appends
returns-in-Refusal-clause-appends g c = λ t h. rw (← refusal_again t c.in-Refusal.n (rw c.in-Refusal.is at h)) c.write_number.ensures.appends

pub returns-in-Unread-clause-sends : goal.returns-in-Unread-clause-sends
returns-in-Unread-clause-sends g c = λ t h. rw (← unread_again t _ (rw c.in-Unread.is at h), ← c.from.ensures) c.write_number-in-Unread.ensures.sends

pub returns-in-Unread-clause-appends : goal.returns-in-Unread-clause-appends
returns-in-Unread-clause-appends g c = λ t h. rw (← unread_again t _ (rw c.in-Unread.is at h), ← c.from.ensures) c.write_number-in-Unread.ensures.appends
