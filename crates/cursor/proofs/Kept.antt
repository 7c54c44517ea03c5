-- Parsers: what stays of one over its steps, and a step in the words of an earlier parser. Assumes nothing.
use mathlib.Core.Path.{◌≡◌, refl, ap, ◌∙◌}
use mathlib.Core.List.{List}
use lib.ListN.{length}
use mathlib.Core.Bool.{Bool}
use Rattle.std.specs.Prelude.{Result}
use Rattle.refusals.specs.declared.Refusal.{Refusal}
use Rattle.lexer.specs.declared.Token.{Token}
use Rattle.program.specs.declared.Name.{Name}
use Rattle.program.specs.declared.writer.Draft.{Draft}
use Prim.Native.Nat.{ℕ}
use Rattle.rules.specs.Program as P
use Rattle.rules.specs.Reading.{Reads}
use Rattle.program.specs.View.{limits_of}
use Rattle.cursor.specs.Cursor.{In}
use Rattle.cursor.specs.Promises.{Out, CursorDid, Idents, Expects, CursorMatches}
use Rattle.cursor.specs.Parsers.{cursor_of, Reading, ParserKept, AddsKept, placed, ident_in, moved_in, matched_in, ParserIdents, ParserExpects, ParserMatches, ParserDid}
use Rattle.cursor.specs.declared.Parser.{Parser}

pub kept_none : (p : Parser) → ParserKept p p
kept_none p = record { script = refl; limits = refl; words_loan = refl; scratch_loan = refl; words_room = refl; scratch_room = refl }

pub adds_none : (p : Parser) → AddsKept p p
adds_none p = record { kept = kept_none p; scratch = refl }

pub kept_trans : {p p1 p2 : Parser} → ParserKept p p1 → ParserKept p1 p2 → ParserKept p p2
kept_trans a b =
    record {
      script = b.script ∙ a.script;
      limits = b.limits ∙ a.limits;
      words_loan = b.words_loan ∙ a.words_loan;
      scratch_loan = b.scratch_loan ∙ a.scratch_loan;
      words_room = b.words_room ∙ a.words_room;
      scratch_room = b.scratch_room ∙ a.scratch_room;
    }

-- where script, program and scratch memory are the same
pub kept_same : {p p1 p2 : Parser} → ParserKept p p1 → p2.script ≡ p1.script → p2.program ≡ p1.program → p2.scratch ≡ p1.scratch → ParserKept p p2
kept_same k a b e =
    record {
      script = a ∙ k.script;
      limits = ap (λ (d : Draft). d.limits) b ∙ k.limits;
      words_loan = ap (λ (d : Draft). d.words.ghost_name) b ∙ k.words_loan;
      scratch_loan = ap (λ z. z.ghost_name) e ∙ k.scratch_loan;
      words_room = ap (λ (d : Draft). length d.words.now) b ∙ k.words_room;
      scratch_room = ap (λ z. length z.now) e ∙ k.scratch_room;
    }

pub kept_placed : {p p' : Parser} {at : ℕ} → p' ≡ placed at p → ParserKept p p'
kept_placed e =
    record {
      script = ap (λ (q : Parser). q.script) e;
      limits = ap (λ (q : Parser). q.program.limits) e;
      words_loan = ap (λ (q : Parser). q.program.words.ghost_name) e;
      scratch_loan = ap (λ (q : Parser). q.scratch.ghost_name) e;
      words_room = ap (λ (q : Parser). length q.program.words.now) e;
      scratch_room = ap (λ (q : Parser). length q.scratch.now) e;
    }

-- whatever a reader gives, a refusal too, both memories are as long as before
pub rooms_kept : {A : Type 0} {f : P.Limits → List ℕ → Reads A} {j : ℕ} {p p' : Parser} {o : Out A} → ParserDid f j p p' o
    → (length p'.program.words.now ≡ length p.program.words.now) × (length p'.scratch.now ≡ length p.scratch.now)
rooms_kept d = (d.kept.words_room, d.kept.scratch_room)

-- a step that leaves scratch memory alone
pub passed : {A : Type 0} {f : P.Limits → List ℕ → Reads A} {j : ℕ} {p p' : Parser} {o : Out A} → ParserKept p p' → p'.scratch.now ≡ p.scratch.now
    → CursorDid (f (limits_of p.program.limits) p.script.now) j p.script.now p.program.words.now p.scratch.now (cursor_of p) p'.program.words.now p.scratch.now o
    → ParserDid f j p p' o
passed k e d = record { kept = k; did = rw e d }

-- ---- a parser some steps after p, whose memories hold m and w

pub record After (p p1 : Parser) (m w : List ℕ) : Type 0 where
  pub kept : ParserKept p p1
  pub words : p1.program.words.now ≡ m
  pub scratch : p1.scratch.now ≡ w

pub after_none : (p : Parser) → After p p p.program.words.now p.scratch.now
after_none p = record { kept = kept_none p; words = refl; scratch = refl }

module _ {p p1 : Parser} {m w : List ℕ} (a : After p p1 m w) where
  pub after_placed : {p2 : Parser} {at : ℕ} → p2 ≡ placed at p1 → After p p2 m w
  after_placed e =
      record {
        kept = kept_trans a.kept (kept_placed e);
        words = ap (λ (q : Parser). q.program.words.now) e ∙ a.words;
        scratch = ap (λ (q : Parser). q.scratch.now) e ∙ a.scratch;
      }

  pub after_same : {p2 : Parser} → p2.script ≡ p1.script → p2.program ≡ p1.program → p2.scratch ≡ p1.scratch → After p p2 m w
  after_same e f g =
      record { kept = kept_same a.kept e f g; words = ap (λ (d : Draft). d.words.now) f ∙ a.words; scratch = ap (λ z. z.now) g ∙ a.scratch }

  pub after_kept : {p2 : Parser} → ParserKept p1 p2 → After p p2 p2.program.words.now p2.scratch.now
  after_kept k = record { kept = kept_trans a.kept k; words = refl; scratch = refl }

  pub after_adds : {p2 : Parser} → AddsKept p1 p2 → After p p2 p2.program.words.now w
  after_adds k = record { kept = kept_trans a.kept k.kept; words = refl; scratch = k.scratch ∙ a.scratch }

  -- where only scratch memory changes
  pub after_scratch : {p2 : Parser} → ParserKept p1 p2 → p2.program ≡ p1.program → After p p2 m p2.scratch.now
  after_scratch k e = record { kept = kept_trans a.kept k; words = ap (λ (d : Draft). d.words.now) e ∙ a.words; scratch = refl }

  pub did_of : {A : Type 0} {f : P.Limits → List ℕ → Reads A} {j : ℕ} {p2 : Parser} {o : Out A} → ParserDid f j p1 p2 o
      → CursorDid (f (limits_of p.program.limits) p.script.now) j p.script.now m w (cursor_of p1) p2.program.words.now p2.scratch.now o
  did_of d = rw (a.kept.limits, a.kept.script, a.words, a.scratch) at d.did

  pub idents_of : {p2 : Parser} {r : Result Name Refusal} → ParserIdents p1 p2 r → Idents p.script.now (cursor_of p1) (ident_in p2 r)
  idents_of d = rw a.kept.script at d.idents

  pub matches_of : {k : Token} {p2 : Parser} {r : Result Bool Refusal} → ParserMatches k p1 p2 r → CursorMatches p.script.now k (cursor_of p1) (matched_in p2 r)
  matches_of d = rw a.kept.script at d.matches

  pub expects_of : {k : Token} {p2 : Parser} {r : Result (Unit {0}) Refusal} → ParserExpects k p1 p2 r → Expects p.script.now k (cursor_of p1) (moved_in p2 r)
  expects_of d = rw a.kept.script at d.expects

  pub reading_of : In p.script.now m w (cursor_of p1) → Reading p1
  reading_of h = rw (a.kept.script, a.words, a.scratch) h

  -- the end of a reader of p
  pub finish : {A : Type 0} {f : P.Limits → List ℕ → Reads A} {j : ℕ} {o : Out A}
      → CursorDid (f (limits_of p.program.limits) p.script.now) j p.script.now p.program.words.now p.scratch.now (cursor_of p) m w o → ParserDid f j p p1 o
  finish d = record { kept = a.kept; did = rw (a.words, a.scratch) d }
