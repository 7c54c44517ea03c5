-- Reading what was written gives it back, and what is read and written again is the same text. Assumes nothing.
use mathlib.Core.Bool.{Bool as 𝔹, true, false, true≢false}
use mathlib.Core.Logic.{◌⊎◌, inl, inr, ◌↔◌}
use mathlib.Core.Path.{◌≡◌, refl, sym, ap, ◌∙◌, subst}
use mathlib.Core.List.{List, [], ◌∷◌, append-nil}
use Prim.Native.Nat.{ℕ}
use native.Mathlib.Omega.{arith}
use lib.ListN.{length}
use Rattle.std.specs.Prelude.{Option, Some, None}
use Rattle.rules.specs.Actions.{Answer, answered, refused, if_answered}
use Rattle.rules.specs.Lists.{all}
use Rattle.rules.proofs.Wellformed.Laws.{answered-not-refused, answered_inj, refused_inj}
use Rattle.rules.specs.Frames.{refusal_frame}
use Rattle.frames.specs.declared.Frame.{Frame}
use Rattle.frames.specs.declared.Frame.TheVariants as F
use Rattle.decode.specs.Lines.{frames_in, lines_in, legal_line}
use Rattle.decode.specs.Stored.{Stored, answer, refusal, write, legal_stored, nothing, read_rest, told_record, or_refused, read_from, read_text}
use Rattle.decode.proofs.Lines.{None-Some, LegalFrames, text_all, text-there, text-back}
use Rattle.decode.proofs.Split.{lines_told}
use Rattle.decode.proofs.Begun.{begun_frames}
use Rattle.decode.proofs.Frames.{Tells, of_answer, of_lone, frames_back, frames_there}
use Rattle.decode.proofs.Records.{parts, legal_parts, record_begun, record_sound, record_told, record_again, told_parts, frames_again, frames_legal, record_lines}

stored_frames : Stored → List Frame
stored_frames (answer r) = begun_frames (record_begun r)
stored_frames (refusal n) = F.Refusal n ∷ []

stored-text : (s : Stored) → text_all (stored_frames s) ≡ write s
unfolding stored_frames
stored-text (answer r) = record_lines r
stored-text (refusal n) = append-nil (refusal_frame n)

stored-legal_numbers : (s : Stored) → legal_stored s ≡ true → LegalFrames (stored_frames s)
unfolding stored_frames
stored-legal_numbers (answer r) h = frames_legal (record_begun r) (record_sound r (parts r h)) (record_told r)
stored-legal_numbers (refusal n) h = (h, tt)

stored-read : (s : Stored) → legal_stored s ≡ true → read_rest nothing (stored_frames s) ≡ Some s
unfolding stored_frames
stored-read (answer r) h = let p = parts r h in frames_there (record_begun r) (record_sound r p) (record_told r) ∙ ap (λ x. Some (answer x)) (record_again r p)
stored-read (refusal n) h = refl

-- each legal record survives being written and read
pub read_written : (s : Stored) → legal_stored s ≡ true → read_text (write s) ≡ answered s
unfolding read_from frames_in
read_written s h =
    let e : frames_in (write s) ≡ Some (stored_frames s) = rw (stored-text s) at (text-there (length (text_all (stored_frames s))) (stored_frames s) (stored-legal_numbers s h) (omega arith)) in
    rw (e, stored-read s h) refl

-- ---- what is read

not_answered : {A B : Type 0} {n : ℕ} {x : A} → refused n ≡ answered x → B
not_answered e = absurd (answered-not-refused (sym e))

-- the frames of a text that is read
loads : (o : Option (List Frame)) (s : Stored) → if_answered (or_refused 21 o) (λ fs. or_refused 22 (read_rest nothing fs)) ≡ answered s
    → (fs : List Frame) × (o ≡ Some fs) × (read_rest nothing fs ≡ Some s)
loads None s e = not_answered e
loads (Some fs) s e = (fs, refl, go (read_rest nothing fs) e)
  where
    go : (o : Option Stored) → or_refused 22 o ≡ answered s → o ≡ Some s
    go None q = not_answered q
    go (Some u) q = ap Some (answered_inj q)

told-stored : (fs : List Frame) (s : Stored) → LegalFrames fs → Tells fs s → (legal_stored s ≡ true) × (stored_frames s ≡ fs)
unfolding stored_frames
told-stored fs s l (of_answer c h a e q) =
    subst (λ (z : Stored). (legal_stored z ≡ true) × (stored_frames z ≡ fs)) (sym e) (legal_parts (told_record c) (told_parts c h a), frames_again c h a ∙ q)
told-stored fs s l (of_lone n e q) =
    subst (λ (z : Stored). (legal_stored z ≡ true) × (stored_frames z ≡ fs)) (sym e) ((subst LegalFrames q l).0, sym q)

-- the texts that are read are those of the legal stored answers, each of its own
pub read_iff : (t : List ℕ) (s : Stored) → (read_text t ≡ answered s) ↔ ((legal_stored s ≡ true) × (write s ≡ t))
unfolding read_from frames_in
read_iff t s = (there, λ x. subst (λ (z : List ℕ). read_text z ≡ answered s) x.1 (read_written s x.0))
  where
    there : read_text t ≡ answered s → (legal_stored s ≡ true) × (write s ≡ t)
    there h =
        let a = loads (frames_in t) s h in
        let b = text-back (length t) t a.0 a.1 in
        let c = told-stored a.0 s b.1 (frames_back a.0 s b.1 a.2) in
        (c.0, sym (stored-text s) ∙ ap text_all c.1 ∙ b.0)

-- writing what was read yields the same lines
pub written_read : (t : List ℕ) (s : Stored) → read_text t ≡ answered s → write s ≡ t
written_read t s h = ((read_iff t s).0 h).1

-- and what was read is legal
pub read_legal : (t : List ℕ) (s : Stored) → read_text t ≡ answered s → legal_stored s ≡ true
read_legal t s h = ((read_iff t s).0 h).0

-- ---- what is refused

-- there is no third refusal
pub only_two : (t : List ℕ) (n : ℕ) → read_text t ≡ refused n → (n ≡ 21) ⊎ (n ≡ 22)
unfolding read_from
only_two t n = go (frames_in t)
  where
    last : (o : Option Stored) → or_refused 22 o ≡ refused n → (n ≡ 21) ⊎ (n ≡ 22)
    last None e = inr (sym (refused_inj e))
    last (Some s) e = not_answered (sym e)

    go : (o : Option (List Frame)) → if_answered (or_refused 21 o) (λ fs. or_refused 22 (read_rest nothing fs)) ≡ refused n → (n ≡ 21) ⊎ (n ≡ 22)
    go None e = inl (sym (refused_inj e))
    go (Some fs) e = last (read_rest nothing fs) e

-- 21 just where some line is no legal frame ended by byte 10: so it wins over every 22
pub asked_21 : (t : List ℕ) → (read_text t ≡ refused 21) ↔ (all legal_line (lines_in t) ≡ false)
unfolding read_from
asked_21 t = (go (frames_in t) refl (all legal_line (lines_in t)) refl, back (frames_in t) refl)
  where
    not_21 : {B : Type 0} (o : Option Stored) → or_refused 22 o ≡ refused 21 → B
    not_21 None e = absurd (let z : ◌≡◌ {A = ℕ} 22 21 = refused_inj e in omega arith)
    not_21 (Some s) e = not_answered (sym e)

    go : (o : Option (List Frame)) → frames_in t ≡ o → (b : 𝔹) → all legal_line (lines_in t) ≡ b → if_answered (or_refused 21 o) (λ fs. or_refused 22 (read_rest nothing fs)) ≡ refused 21 → b ≡ false
    go None e false q h = refl
    go None e true q h = let z = (lines_told t).0 q in None-Some (sym e ∙ z.1)
    go (Some fs) e b q h = not_21 (read_rest nothing fs) h

    back : (o : Option (List Frame)) → frames_in t ≡ o → all legal_line (lines_in t) ≡ false → if_answered (or_refused 21 o) (λ fs. or_refused 22 (read_rest nothing fs)) ≡ refused 21
    back None e h = refl
    back (Some fs) e h = absurd (true≢false (sym ((lines_told t).1 (fs, e)) ∙ h))

-- 22 where all lines are legal frames, and yet they are those of no legal stored answer
pub asked_22 : (t : List ℕ) → (read_text t ≡ refused 22) ↔ ((all legal_line (lines_in t) ≡ true) × ((s : Stored) → legal_stored s ≡ true → write s ≡ t → ⊥))
asked_22 t = (there, λ x. back (read_text t) refl x)
  where
    there : read_text t ≡ refused 22 → (all legal_line (lines_in t) ≡ true) × ((s : Stored) → legal_stored s ≡ true → write s ≡ t → ⊥)
    there h = (go (all legal_line (lines_in t)) refl, λ s l w. not_answered (sym h ∙ (read_iff t s).1 (l, w)))
      where
        go : (b : 𝔹) → all legal_line (lines_in t) ≡ b → b ≡ true
        go true q = refl
        go false q = absurd (let z : ◌≡◌ {A = ℕ} 22 21 = refused_inj (sym h ∙ (asked_21 t).1 q) in omega arith)

    back : (a : Answer Stored) → read_text t ≡ a → (all legal_line (lines_in t) ≡ true) × ((s : Stored) → legal_stored s ≡ true → write s ≡ t → ⊥) → a ≡ refused 22
    back (answered s) e x = let z = (read_iff t s).0 e in absurd (x.1 s z.0 z.1)
    back (refused n) e x = go (only_two t n e)
      where
        go : (n ≡ 21) ⊎ (n ≡ 22) → ◌≡◌ {A = Answer Stored} (refused n) (refused 22)
        go (inl q) = absurd (true≢false (sym x.0 ∙ (asked_21 t).0 (e ∙ ap refused q)))
        go (inr q) = ap refused q
