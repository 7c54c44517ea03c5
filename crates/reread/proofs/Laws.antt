-- A text that is read in pieces, and what is written for it. Assumes nothing.
use Rattle.std.proofs.Common.{◌≡◌, ℕ, ◌+◌, ◌-◌, ◌≤◌, ◌<◌, List, [], ◌++◌, Option, None, Some, Result, Ok, Err, IfSome, refl, sym, ap, ◌∙◌, arith, append_assoc, append-nil}
use lib.ListN.{length, take, drop, length-drop}
use Rattle.std.specs.Io.KnownBytes.{Appends, Consumes, IsAtEnd, Keeps}
use Rattle.std.proofs.KnownBytes.{Consumes-nil, Consumes-trans, Consumes-whole}
use lib.Seq.{take_at, drop_at, take-add, take_all, paste, take-paste, length-take-le, take-append-le}
use borrow.Rule.Slice.PartMut.{put_mid}
use Rattle.rules.specs.Actions.{Answer, answered, refused}
use Rattle.rules.specs.Frames.{refusal_frame}
use Rattle.memory.specs.Memory.{zeros}
use Rattle.answer.specs.Layout.{answer_length}
use Rattle.answer.specs.Image.{image_of}
use Rattle.frames.specs.declared.NextFrame.TheVariants.{Totals}
use Rattle.frames.specs.Text.{rest_of, line_most}
use Rattle.frames.proofs.Written.{image_text}
use Rattle.decode.specs.declared.Loaded.{Loaded}
use Rattle.decode.specs.declared.Loaded.TheVariants as L
use Rattle.decode.specs.declared.Decoder.{Decoder}
use Rattle.decode.specs.declared.Decoder.TheVariants as D
use Rattle.decode.specs.declared.Unread.TheVariants as U
use Rattle.decode.specs.Stored.{Stored, answer, refusal, Progress, nothing, read_from, read_text}
use Rattle.decode.specs.Taking.{Reached, Underway, TakenTo, IllegalIn}
use Rattle.decode.specs.Load.{Outcome, an_answer, a_refusal, not_read, told, held}
use Rattle.decode.proofs.Image.{read_image}
use Rattle.streams.specs.declared.Unwritten.{Unwritten}
use Rattle.streams.specs.Moved.{taken_of}
use Rattle.printing.specs.Sent.{Sends}
use Rattle.reread.specs.declared.NoInput.{NoInput}
use Rattle.reread.specs.declared.Stop.{Stop}
use Rattle.reread.specs.declared.Stop.TheVariants as S
use Rattle.reread.specs.Rereads.{lines_of, again, Loads, Rereads}

-- ---- reading

-- at its loop's head: of the text that was read, the last bytes, so many as are kept, stand at the buffer's start
pub record Feeding (known now : Option (List ℕ)) (r : Decoder) (m b : List ℕ) (kept : ℕ) : Type 0 where
  pub underway : Underway r m
  pub few : kept < line_most
  pub at : Option Progress
  pub reached : Reached at r m
  pub text : List ℕ
  pub fed : Consumes known now text
  pub is : (rest : List ℕ) → read_text (text ++ rest) ≡ read_from at (take kept b ++ rest)

pub feeding_start : (known : Option (List ℕ)) (m b : List ℕ) → m ≡ zeros answer_length → length m ≡ answer_length → Feeding known known D.Nothing m b 0
feeding_start known m b e l =
    let z : Reached (Some nothing) D.Nothing m = (refl, e) in
    record { underway = record { len = l; at = Some nothing; is = z }; few = omega arith; at = Some nothing; reached = z; text = []; fed = Consumes-nil known; is = λ rest. refl }

-- bytes that came stand behind those that were kept
pub filled_is : (b d : List ℕ) (kept w n : ℕ) → kept ≤ length b → n ≤ length d → take (kept + n) (put_mid kept w b d) ≡ take kept b ++ take n d
filled_is b d kept w n h k =
    let u = take kept b in
    let t = drop w (drop kept b) in
    let l : length u ≡ kept = length-take-le kept b h in
    take-add kept n (u ++ (d ++ t)) ∙ rw (take_at u (d ++ t) kept l, drop_at u (d ++ t) kept l, take-append-le n d t k) refl

module _ {known now : Option (List ℕ)} {r : Decoder} {m b : List ℕ} {kept : ℕ} (g : Feeding known now r m b kept)
    (now' : Option (List ℕ)) (d B : List ℕ) (n : ℕ) (c : Consumes now now' (take n d)) (filled : take (kept + n) B ≡ take kept b ++ take n d) where
  -- the text with the bytes that came
  abbrev more : List ℕ
  more = g.text ++ take n d

  fed_more : Consumes known now' more
  fed_more = Consumes-trans known now now' g.text (take n d) g.fed c

  more_is : (rest : List ℕ) → read_text (more ++ rest) ≡ read_from g.at (take (kept + n) B ++ rest)
  more_is rest =
      ap read_text (append_assoc g.text (take n d) rest) ∙ g.is (take n d ++ rest)
      ∙ ap (read_from g.at) (sym (append_assoc (take kept b) (take n d) rest)) ∙ ap (λ (z : List ℕ). read_from g.at (z ++ rest)) (sym filled)

  -- at the end of the input
  pub loaded_last : IsAtEnd now' → {l : Loaded} {m' : List ℕ} → held (read_from g.at (take (kept + n) B)) ≡ (told l, m') → Loads known l m'
  loaded_last end {l} {m'} h =
      let e : read_text more ≡ read_from g.at (take (kept + n) B) =
      ap read_text (sym (append-nil more)) ∙ more_is [] ∙ ap (read_from g.at) (append-nil (take (kept + n) B)) in
      record {
        text = more;
        all = Consumes-whole known now' more (λ (input : List ℕ). read_text input ≡ read_text more) fed_more end refl;
        is = ap held e ∙ h;
      }

  -- where the buffer is full
  module _ (full : length B ≤ kept + n) where
    full_is : (rest : List ℕ) → read_text (more ++ rest) ≡ read_from g.at (B ++ rest)
    full_is rest = more_is rest ∙ ap (λ (z : List ℕ). read_from g.at (z ++ rest)) (take_all (kept + n) B full)

    -- and a line is illegal, whatever follows
    pub loaded_illegal : IllegalIn g.at B → {l : Loaded} {m' : List ℕ} → l ≡ L.Unread U.IllegalLine → m' ≡ zeros answer_length → Loads known l m'
    loaded_illegal bad {l} {m'} f z =
        let here : read_text more ≡ refused 21 = ap read_text (sym (append-nil more)) ∙ full_is [] ∙ bad [] in
        record { text = more; all = go known now' fed_more here; is = rw (here, f, z) refl }
      where
        go : (k n' : Option (List ℕ)) → Consumes k n' more → read_text more ≡ refused 21 → IfSome k (λ input. read_text input ≡ read_text more)
        go None n' q h = tt
        go (Some input) None q h = absurd q
        go (Some input) (Some rest) q h = ap read_text q ∙ full_is rest ∙ bad rest ∙ sym h

    -- or what is left of it stands at the buffer's start
    pub feeding_more : {r' : Decoder} {e : ℕ} {m' b' : List ℕ} → TakenTo g.at B r' e m' → length m' ≡ answer_length → b' ≡ paste B 0 (drop e B) (length B - e)
        → kept + n ≤ length B → Feeding known now' r' m' b' (kept + n - e)
    feeding_more {r'} {e} {m'} {b'} t l p q =
        let k : kept + n ≡ length B = omega arith in
        let s : take (length B - e) b' ≡ drop e B = rw p (first B (drop e B) (length B - e) (length-drop e B)) in
        record {
          underway = record { len = l; at = t.at; is = t.reached };
          few = omega (arith, t.few);
          at = t.at;
          reached = t.reached;
          text = more;
          fed = fed_more;
          is = λ rest. full_is rest ∙ t.goes_on rest ∙ rw (k, s) refl;
        }
      where
        first : (x s : List ℕ) (j : ℕ) → length s ≡ j → take j (paste x 0 s j) ≡ s
        first x s j e =
            let z : 0 + j ≡ j = omega arith in
            ap (λ (k : ℕ). take k (paste x 0 s j)) (sym z) ∙ take-paste x 0 s j (omega arith) (omega arith) ∙ take_all j s (omega arith)

-- ---- writing

pub answer_again : (t : List ℕ) {m : List ℕ} → held (read_text t) ≡ (an_answer, m) → rest_of m Totals ≡ again t
unfolding again
answer_again t {m} h = go (read_text t) refl h
  where
    go : (a : Answer Stored) → read_text t ≡ a → held a ≡ (an_answer, m) → rest_of m Totals ≡ lines_of a
    go (answered (answer r)) e h =
        let q : image_of r ≡ m = ap (λ (x : Outcome × List ℕ). x.1) h in
        rw (← q) (image_text r (read_image t r e))
    go (answered (refusal n)) e h = absurd (ne (ap (λ (x : Outcome × List ℕ). x.0) h))
      where
        ne : {n : ℕ} → a_refusal n ≡ an_answer → ⊥
        ne e = cc
    go (refused n) e h = absurd (ne (ap (λ (x : Outcome × List ℕ). x.0) h))
      where
        ne : {n : ℕ} → not_read n ≡ an_answer → ⊥
        ne e = cc

pub refusal_again : (t : List ℕ) {m : List ℕ} (n : ℕ) → held (read_text t) ≡ (a_refusal n, m) → refusal_frame n ≡ again t
unfolding again
refusal_again t {m} n h = go (read_text t) h
  where
    go : (a : Answer Stored) → held a ≡ (a_refusal n, m) → refusal_frame n ≡ lines_of a
    go (answered (answer r)) h = absurd (ne (ap (λ (x : Outcome × List ℕ). x.0) h))
      where
        ne : an_answer ≡ a_refusal n → ⊥
        ne e = cc
    go (answered (refusal k)) h = let z : k ≡ n = same (ap (λ (x : Outcome × List ℕ). x.0) h) in rw z refl
      where
        same : {k : ℕ} → a_refusal k ≡ a_refusal n → k ≡ n
        same e = cc
    go (refused k) h = absurd (ne (ap (λ (x : Outcome × List ℕ). x.0) h))
      where
        ne : {k : ℕ} → not_read k ≡ a_refusal n → ⊥
        ne e = cc

pub unread_again : (t : List ℕ) {m : List ℕ} (n : ℕ) → held (read_text t) ≡ (not_read n, m) → refusal_frame n ≡ again t
unfolding again
unread_again t {m} n h = go (read_text t) h
  where
    go : (a : Answer Stored) → held a ≡ (not_read n, m) → refusal_frame n ≡ lines_of a
    go (answered (answer r)) h = absurd (ne (ap (λ (x : Outcome × List ℕ). x.0) h))
      where
        ne : an_answer ≡ not_read n → ⊥
        ne e = cc
    go (answered (refusal k)) h = absurd (ne (ap (λ (x : Outcome × List ℕ). x.0) h))
      where
        ne : {k : ℕ} → a_refusal k ≡ not_read n → ⊥
        ne e = cc
    go (refused k) h = let z : k ≡ n = same (ap (λ (x : Outcome × List ℕ). x.0) h) in rw z refl
      where
        same : {k : ℕ} → not_read k ≡ not_read n → k ≡ n
        same e = cc

-- nothing was written
pub kept_all : (known old new : Option (List ℕ)) {r : Result ℕ Stop} (e : NoInput) → r ≡ Err (S.Input e) → Keeps old new → IfSome known (λ input. Rereads input old new r)
kept_all None old new e q k = tt
kept_all (Some input) old new e q k = rw q k

module _ (known old new : Option (List ℕ)) {l : Loaded} {m : List ℕ} (g : Loads known l m) where
  -- a start was written
  pub written_start : {r : Result ℕ Stop} {w : Result ℕ Unwritten} (e : Unwritten) → r ≡ Err (S.Output e) → w ≡ Err e → ((t : List ℕ) → held (read_text t) ≡ (told l, m) → Sends (again t) w)
      → ((t : List ℕ) → held (read_text t) ≡ (told l, m) → Appends old new (take (taken_of (again t) w) (again t)))
      → IfSome known (λ input. Rereads input old new r)
  unfolding again
  written_start {r} {w} e q f s a = go known g.all
    where
      go : (k : Option (List ℕ)) → IfSome k (λ input. read_text input ≡ read_text g.text) → IfSome k (λ input. Rereads input old new r)
      go None h = tt
      go (Some input) h =
          let i : held (read_text input) ≡ (told l, m) = ap held h ∙ g.is in
          rw q (rw f at s input i, rw f at a input i)

  -- or all
  pub written_all : {w : Result ℕ Unwritten} (n : ℕ) → w ≡ Ok n → ((t : List ℕ) → held (read_text t) ≡ (told l, m) → Sends (again t) w)
      → ((t : List ℕ) → held (read_text t) ≡ (told l, m) → Appends old new (take (taken_of (again t) w) (again t)))
      → IfSome known (λ input. Rereads input old new (Ok n))
  unfolding again
  written_all {w} n f s a = go known g.all
    where
      go : (k : Option (List ℕ)) → IfSome k (λ input. read_text input ≡ read_text g.text) → IfSome k (λ input. Rereads input old new (Ok n))
      go None h = tt
      go (Some input) h =
          let i : held (read_text input) ≡ (told l, m) = ap held h ∙ g.is in
          let z : take (length (again input)) (again input) ≡ again input = take_all (length (again input)) (again input) (omega arith) in
          (rw f at s input i, rw (← z) (rw f at a input i))
