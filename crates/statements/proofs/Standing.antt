-- The readers' steps over parsers, and what the loop of statements keeps. Assumes nothing.
use mathlib.Core.Bool.{Bool as 𝔹}
use mathlib.Core.Path.{◌≡◌, refl}
use mathlib.Core.List.{List}
use Prim.Native.Nat.{ℕ}
use lib.ListN.{length}
use Rattle.std.specs.Prelude.{Result, Ok, Err}
use Rattle.ids.specs.declared.BlockId.{BlockId}
use Rattle.ids.specs.declared.InsnId.{InsnId}
use Rattle.refusals.specs.declared.Refusal.{Refusal}
use Rattle.rules.specs.Program as P
use Rattle.rules.specs.Reading.{Reads}
use Rattle.program.specs.Rows.{given}
use Rattle.program.specs.View as View
use Rattle.program.specs.Drafts.{DraftKept}
use Rattle.program.specs.declared.Given.{Given}
use Rattle.program.specs.declared.bounds.Limits.{Limits}
use Rattle.program.specs.declared.Op.{Op}
use Rattle.program.specs.declared.Opnd.{Opnd}
use Rattle.program.specs.declared.writer.Draft.{Draft}
use Rattle.phis.specs.declared.Blocks.{Blocks}
use Rattle.cursor.specs.Cursor.{Cursor}
use Rattle.cursor.specs.Promises.{Out}
use Rattle.cursor.specs.Parsers.{cursor_of, ParserKept, AddsKept, moved_in, parsed_in}
use Rattle.cursor.specs.outcomes.Parsed.{Parsed}
use Rattle.cursor.specs.declared.Parser.{Parser}
use Rattle.cursor.proofs.Kept.{After, after_same}
use Rattle.statements.specs.declared.Branch.{Branch}
use Rattle.statements.specs.outcomes.Opened.{Opened}
use Rattle.statements.specs.outcomes.Stops.{Stops}
use Rattle.statements.specs.Shape.{opened_in, Opens, AddsEnd, OpensElse, JoinsArms, FinishesElse, DidFrom, Halts}
use Rattle.statements.specs.Shape.{ParserOpens, ParserAddsEnd, ParserDidFrom, ParserOpensElse, ParserJoinsArms, ParserFinishesElse}
use Rattle.statements.proofs.Paths.{new-on, new_no, end_on, end_no}
use Rattle.statements.proofs.Cycle.{Going}

-- statements were read from p on, up to q, and came to v
pub record StatementsStand (arm : 𝔹) (depth : ℕ) (p q : Parser) (v : Opnd) : Type 0 where
  pub kept : ParserKept p q
  pub going : Going p.program.limits p.script.now arm depth p.program.words.now p.scratch.now (cursor_of p) q.program.words.now q.scratch.now (cursor_of q) v

-- ---- where only the program grows

module _ (p : Parser) (d : Draft) (k : DraftKept p.program d) where
  pub draft_kept : AddsKept p (record p { program = d })
  draft_kept = record { kept = record { script = refl; limits = k.limits; words_loan = k.loan; scratch_loan = refl; words_room = k.room; scratch_room = refl }; scratch = refl }

  pub opens_block : (r : Result BlockId Refusal)
      → View.ProgramDid (View.next_block (View.limits_of p.program.limits)) View.unchanged p.program.counts.blocks (View.more_blocks p.program.counts)
      p.program.words.now p.program.counts d.words.now (View.block_of d.counts r)
      → ParserOpens p (record p { program = d }) r
  opens_block (Ok b) g = record { kept = draft_kept; opens = new-on p.program.limits _ (cursor_of p) d.counts g refl refl }
  opens_block (Err e) g = record { kept = draft_kept; opens = new_no p.program.limits _ (cursor_of p) d.counts g refl refl }

  module _ (b : BlockId) (op : Op) (v : Given) {r : Result InsnId Refusal}
      (g : View.ProgramDid (View.pushing_of (View.limits_of p.program.limits) b.0 op (given v)) View.unchanged p.program.counts.insns
      (View.more_insns op (length (given v)) p.program.counts) p.program.words.now p.program.counts d.words.now (View.insn_of d.counts r)) where
    pub end_added : {i : InsnId} → r ≡ Ok i → ParserAddsEnd b op v p (record p { program = d }) (Ok tt)
    end_added e = record { kept = draft_kept; adds = end_on p.program.limits b op v _ (cursor_of p) d.counts g e refl }

    pub end_refused : {e : Refusal} → r ≡ Err e → ParserAddsEnd b op v p (record p { program = d }) (Err e)
    end_refused e = record { kept = draft_kept; adds = end_no p.program.limits b op v _ (cursor_of p) d.counts g e refl }

-- ---- what a later parser did, in the words of an earlier one

opens_moved : {l : Limits} {s m w : List ℕ} {c₀ c : Cursor} {q : Branch} {m1 w1 m2 w2 : List ℕ} {r : Opened} → m2 ≡ m1 → w2 ≡ w1
    → OpensElse l s m w c₀ c q m1 w1 r → OpensElse l s m w c₀ c q m2 w2 r
opens_moved e f d = rw (e, f) d

arms_moved : {l : Limits} {s m w : List ℕ} {c₀ c : Cursor} {q : Branch} {b : BlockId} {y : Opnd} {m1 w1 m2 w2 : List ℕ} {r : Parsed} → m2 ≡ m1 → w2 ≡ w1
    → FinishesElse l s m w c₀ c q b y m1 w1 r → FinishesElse l s m w c₀ c q b y m2 w2 r
arms_moved e f d = rw (e, f) d

module _ {p p1 : Parser} {m w : List ℕ} (a : After p p1 m w) where
  pub after_block : (b : BlockId) → After p (record p1 { block = b }) m w
  after_block b = after_same a refl refl refl

  pub opens_of : {p2 : Parser} {r : Result BlockId Refusal} → ParserOpens p1 p2 r → Opens p.program.limits m (cursor_of p1) p2.program.words.now (opened_in p2 r)
  opens_of d = rw (a.kept.limits, a.words) at d.opens

  pub adds_of : {b : BlockId} {op : Op} {g : Given} {p2 : Parser} {r : Result (Unit {0}) Refusal} → ParserAddsEnd b op g p1 p2 r
      → AddsEnd p.program.limits b op g m (cursor_of p1) p2.program.words.now (moved_in p2 r)
  adds_of d = rw (a.kept.limits, a.words) at d.adds

  pub else_of : {c₀ : Cursor} {q : Branch} {p2 : Parser} {r : Result BlockId Refusal} → ParserOpensElse c₀ q p1 p2 r
      → OpensElse p.program.limits p.script.now m w c₀ (cursor_of p1) q p2.program.words.now p2.scratch.now (opened_in p2 r)
  else_of d = rw (a.kept.limits, a.kept.script, a.words, a.scratch) at d.opens

  pub joins_of : {c₀ : Cursor} {q : Blocks} {p2 : Parser} {r : Result (Unit {0}) Refusal} → ParserJoinsArms c₀ q p1 p2 r
      → JoinsArms p.program.limits p.script.now m w c₀ (cursor_of p1) q p2.program.words.now p2.scratch.now (moved_in p2 r)
  joins_of d = rw (a.kept.limits, a.kept.script, a.words, a.scratch) at d.joins

  pub finishes_of : {c₀ : Cursor} {q : Branch} {b : BlockId} {y : Opnd} {p2 : Parser} {r : Result Opnd Refusal} → ParserFinishesElse c₀ q b y p1 p2 r
      → FinishesElse p.program.limits p.script.now m w c₀ (cursor_of p1) q b y p2.program.words.now p2.scratch.now (parsed_in p2 r)
  finishes_of d = rw (a.kept.limits, a.kept.script, a.words, a.scratch) at d.finishes

  pub from_of : {A : Type 0} {f : P.Limits → List ℕ → Reads A} {k : ℕ} {c₀ : Cursor} {p2 : Parser} {o : Out A} → ParserDidFrom f k c₀ p1 p2 o
      → DidFrom (f (View.limits_of p.program.limits) p.script.now) k p.script.now m w c₀ (cursor_of p1) p2.program.words.now p2.scratch.now o
  from_of d = rw (a.kept.limits, a.kept.script, a.words, a.scratch) at d.did

  pub halts_of : {arm : 𝔹} {c : Cursor} {r : Stops} → Halts p1.script.now arm c r → Halts p.script.now arm c r
  halts_of d = rw a.kept.script at d

  -- the end of a reader of p, inside an `if` from c₀ on
  pub finish_from : {A : Type 0} {f : P.Limits → List ℕ → Reads A} {k : ℕ} {c₀ : Cursor} {o : Out A}
      → DidFrom (f (View.limits_of p.program.limits) p.script.now) k p.script.now p.program.words.now p.scratch.now c₀ (cursor_of p) m w o → ParserDidFrom f k c₀ p p1 o
  finish_from d = record { did = rw (a.words, a.scratch) d }

  pub finish_opens : {c₀ : Cursor} {q : Branch} {r : Result BlockId Refusal}
      → OpensElse p.program.limits p.script.now p.program.words.now p.scratch.now c₀ (cursor_of p) q m w (opened_in p1 r) → ParserOpensElse c₀ q p p1 r
  finish_opens d = record { opens = opens_moved a.words a.scratch d }

  pub finish_arms : {c₀ : Cursor} {q : Branch} {b : BlockId} {y : Opnd} {r : Result Opnd Refusal}
      → FinishesElse p.program.limits p.script.now p.program.words.now p.scratch.now c₀ (cursor_of p) q b y m w (parsed_in p1 r) → ParserFinishesElse c₀ q b y p p1 r
  finish_arms d = record { finishes = arms_moved a.words a.scratch d }
