-- Pieces handed over one behind the other are all the frames, and these are the rules' frames of the script. Assumes nothing.
use Rattle.std.proofs.Common.{true, ◌≡◌, ℕ, ◌+◌, ◌*◌, ◌≤◌, ◌<◌, List, ◌++◌, Option, None, Some, Result, Ok, Err, arith, length, take, drop, sym, ap, ◌∙◌, subst, refl, le_refl}
use Rattle.std.specs.Prelude.{MatchResult, IsErrAnd, IfErr}
use Rattle.std.specs.Io.KnownBytes.{Appends}
use Rattle.std.proofs.KnownBytes.{Appends-trans}
use lib.ListN.{length-append}
use lib.Seq.{drop-drop, drop_at, take-add, take-append-le, take-take}
use Rattle.frames.specs.declared.NextFrame.{NextFrame}
use Rattle.frames.specs.declared.NextFrame.TheVariants.{Totals}
use Rattle.frames.specs.Text.{rest_of, rest_at, left_of, left_at, Piece}
use Rattle.streams.specs.declared.Unwritten.{Unwritten}
use Rattle.streams.specs.Moved.{taken_of}
use Rattle.std.proofs.Math.Option.{none, some}
use lib.Seq.{take_all}
use borrow.Author.Tests.{le-leb}
use Rattle.rules.specs.Actions.{Answer, answered, refused}
use Rattle.rules.specs.Program.{limits}
use Rattle.rules.specs.Frames.{Analysis, analyze, frames, refusal_frame, live}
use Rattle.answer.specs.Layout.{answer_length}
use Rattle.answer.proofs.Answered.{answer-published}
use Rattle.frames.proofs.Written.{image_frames}
use Rattle.refusals.specs.declared.Refusal.{Refusal}
use Rattle.refusals.specs.Refusals.{number_of as number-is}
use Rattle.call.specs.Call.{number_of, CallLeft, lent, left, long_enough, after}
use Rattle.call.proofs.Facts as Facts
use Rattle.call.proofs.Written.{refusal_frame_lem}
use Rattle.state.specs.Layout.{state_length}
use Rattle.chains.specs.Layout.{program_length}
use Rattle.printing.specs.declared.Told.{Told}
use Rattle.printing.specs.Sent.{Sends, number_in, number_told, SentTells, told_of}

-- ---- the loop of `write_frames`: what was handed over, with what is left, is all

pub record Sending (a out : List ℕ) (c : Option NextFrame) (done : ℕ) : Type 0 where
  pub rest : drop done (rest_of a Totals) ≡ rest_at a c
  pub all : done + length (rest_at a c) ≡ length (rest_of a Totals)
  pub few : done + 65536 * left_at c ≤ 65536 * left_of Totals
  pub room : length out ≡ 65536

module _ {a out : List ℕ} {c : Option NextFrame} {done : ℕ} (g : Sending a out c done) where
  module _ {c' : Option NextFrame} {n : ℕ} {out' : List ℕ} (p : Piece a c out c' n out') (l : length out' ≡ length out) where
    piece-all : n + length (rest_at a c') ≡ length (rest_at a c)
    piece-all = omega (arith, ap length p.text, length-append (take n out') (rest_at a c'), p.count)

    pub sending_less : (n ≡ 0 → ⊥) → left_at c' < left_at c
    sending_less h = go c p
      where
        go : (c : Option NextFrame) → Piece a c out c' n out' → left_at c' < left_at c
        go (Some x) q = q.onward
        go None q = absurd (h (omega (arith, ap length q.text, length-append (take n out') (rest_at a c'), q.count)))

    pub sending_more : (n ≡ 0 → ⊥) → Sending a out' c' (done + n)
    sending_more h =
        record {
          rest = sym (drop-drop n done (rest_of a Totals)) ∙ ap (drop n) (g.rest ∙ p.text) ∙ drop_at (take n out') (rest_at a c') n (sym p.count);
          all = omega (arith, piece-all, g.all);
          few = omega (arith, g.few, g.room, l, p.fits, sending_less h);
          room = l ∙ g.room;
        }

    -- a piece that was cut
    pub sending_part : {k : ℕ} → k < n → done + k < length (rest_of a Totals)
    sending_part h = omega (arith, piece-all, g.all)

    -- no more is left
    pub sending_all : (n ≡ 0 → c' ≡ None) → n ≡ 0 → done ≡ length (rest_of a Totals)
    sending_all f e = let z : length (rest_at a c') ≡ 0 = rw (f e) in omega (arith, piece-all, g.all)

    -- what the output holds, where it is known
    pub sending_appends : (x y z : Option (List ℕ)) (k : ℕ) → k ≤ n → Appends x y (take done (rest_of a Totals)) → Appends y z (take k (take n out'))
        → Appends x z (take (done + k) (rest_of a Totals))
    sending_appends x y z k h q r =
        let T = rest_of a Totals in
        let e : take k (drop done T) ≡ take k (take n out') =
        ap (take k) (g.rest ∙ p.text) ∙ take-append-le k (take n out') (rest_at a c') (omega (arith, h, p.count)) in
        subst (Appends x z) (sym (take-add done k T)) (Appends-trans x y z _ _ q (rw (← e) at r))

    -- where writing the piece failed, with what the whole then answers
    pub sending_cut : {V : Type 0} (x y z : Option (List ℕ)) (w : Result V Unwritten) (r : Result ℕ Unwritten)
        → MatchResult w (λ v. ⊥) (λ e. IsErrAnd r (λ d. d.taken ≡ done + e.taken)) → IfErr w (λ e. e.taken < length (take n out'))
        → Appends x y (take done (rest_of a Totals)) → Appends y z (take (taken_of (take n out') w) (take n out'))
        → Appends x z (take (taken_of (rest_of a Totals) r) (rest_of a Totals))
    sending_cut x y z (Ok v) r m s q d = absurd m
    sending_cut x y z (Err e) (Ok v) m s q d = absurd m
    sending_cut x y z (Err e) (Err f) m s q d =
        subst (λ j. Appends x z (take j (rest_of a Totals))) (sym m) (sending_appends x y z e.taken (omega (arith, s, p.count)) q d)

    -- and where all of the piece was taken
    pub sending_appends_all : (x y z : Option (List ℕ)) → Appends x y (take done (rest_of a Totals)) → Appends y z (take (length (take n out')) (take n out'))
        → Appends x z (take (done + n) (rest_of a Totals))
    sending_appends_all x y z q r = sending_appends x y z n (le_refl n) q (subst (λ m. Appends y z (take m (take n out'))) (sym p.count) r)

-- ---- where what the output holds is known

-- a piece of which no less was taken was taken whole
pub all_taken : {n len : ℕ} → n ≤ len → len ≤ n → n ≡ len
all_taken h k = omega (arith, h, k)

-- the text T of which `done` bytes were taken, and R is left; a piece at the start of u, and N behind it
module _ (T R N u : List ℕ) (done len : ℕ) (e : drop done T ≡ R) (f : R ≡ take len u ++ N) (g : len ≡ length (take len u)) where
  pub handed_left : drop (done + len) T ≡ N
  handed_left = sym (drop-drop len done T) ∙ ap (drop len) (e ∙ f) ∙ drop_at (take len u) N len (sym g)

  pub handed_more : (a b c : Option (List ℕ)) (taken : ℕ) → taken ≤ len → Appends a b (take done T) → Appends b c (take taken u) → Appends a c (take (done + taken) T)
  handed_more a b c taken h p q =
      let k : take taken (drop done T) ≡ take taken u =
      ap (take taken) (e ∙ f) ∙ take-append-le taken (take len u) N (omega (arith, h, g)) ∙ take-take taken len u h in
      subst (Appends a c) (sym (take-add done taken T)) (Appends-trans a b c _ _ p (rw (← k) at q))

-- ---- the frames of a script

told_tells : (o : Option Refusal) (t : List ℕ) (r : Result ℕ Unwritten) → Sends t r → SentTells (number_told o) t (told_of o r)
told_tells o t (Ok n) h = (refl, h)
told_tells o t (Err e) h = h

told_taken : (o : Option Refusal) (t : List ℕ) (r : Result ℕ Unwritten) → taken_of t (told_of o r) ≡ taken_of t r
told_taken o t (Ok n) = refl
told_taken o t (Err e) = refl

-- parts of the published lengths, whatever they hold
module _ (s a p w : List ℕ) {a' p' w' : List ℕ} (x : Result (Unit {0}) Refusal) (la : length a ≡ answer_length) (lp : length p ≡ program_length) (lw : length w ≡ state_length)
    (e : after s (lent a p w) ≡ left (number_of x) (lent a' p' w')) where
  long : long_enough (lent a p w) ≡ true
  long = rw (le-leb answer_length (length a) (omega arith), le-leb program_length (length p) (omega arith), le-leb state_length (length w) (omega arith))

  number : (after s (lent a p w)).number ≡ number_of x
  number = ap (λ (l : CallLeft). l.number) e

  -- the rules' number
  rules-none : x ≡ Ok tt → number_in (analyze limits s) ≡ None
  rules-none q = go (analyze limits s) (sym (Facts.number_is s (lent a p w) long) ∙ number ∙ ap number_of q)
    where
      go : (y : Answer Analysis) → Facts.number_in s (lent a p w) y ≡ none → number_in y ≡ None
      go (answered y) h = refl
      go (refused m) h = let z : ◌≡◌ {A = ℕ} 0 1 = cc in absurd (omega arith)

  rules-some : {n : Refusal} → x ≡ Err n → number_in (analyze limits s) ≡ Some (number-is n)
  rules-some {n} q = go (analyze limits s) (sym (Facts.number_is s (lent a p w) long) ∙ number ∙ ap number_of q)
    where
      go : (y : Answer Analysis) → Facts.number_in s (lent a p w) y ≡ some (number-is n) → number_in y ≡ Some (number-is n)
      go (answered y) h = let z : ◌≡◌ {A = ℕ} 0 1 = cc in absurd (omega arith)
      go (refused m) h = let z : m ≡ number-is n = cc in rw z

  -- what the call left, or the refusal, is written as the rules' frames
  answer_text : x ≡ Ok tt → length a' ≡ answer_length → rest_of a' Totals ≡ live s
  unfolding live
  answer_text q l =
      let z = Facts.answered_exactly s (lent a p w) (number ∙ ap number_of q) in
      let u = answer-published s z.0 z.1.is in
      let i : analyze limits s ≡ answered z.0 = z.1.is in
      let h : a' ≡ take answer_length (after s (lent a p w)).lent.answer =
      sym (take_all answer_length a' (omega arith)) ∙ sym (ap (λ (l : CallLeft). take answer_length l.lent.answer) e) in
      let f : rest_of a' Totals ≡ frames z.0.program z.0.state =
      ap (λ (m : List ℕ). rest_of m Totals) (h ∙ z.1.held) ∙ image_frames z.0.program z.0.state u.shaped u.legal in
      rw i f

  refusal_text : {n : Refusal} → x ≡ Err n → refusal_frame (number-is n) ≡ live s
  refusal_text {n} q = refusal_frame_lem s (lent a p w) (number-is n) long (number ∙ ap number_of q)

  -- an answer's frames were written, or a refusal's: m tells it, and the output holds as many bytes
  module _ (m : Result Told Unwritten) (r : Result ℕ Unwritten) where
    pub answer_told : m ≡ told_of None r → x ≡ Ok tt → length a' ≡ answer_length → Sends (rest_of a' Totals) r → SentTells (number_in (analyze limits s)) (live s) m
    answer_told e q l g = rw (e, rules-none q, ← answer_text q l) (told_tells None (rest_of a' Totals) r g)

    pub refusal_told : {n : Refusal} → m ≡ told_of (Some n) r → x ≡ Err n → Sends (refusal_frame (number-is n)) r → SentTells (number_in (analyze limits s)) (live s) m
    refusal_told {n} e q g = rw (e, rules-some q, ← refusal_text q) (told_tells (Some n) (refusal_frame (number-is n)) r g)

    module _ (b c : Option (List ℕ)) where
      pub answer_appended : m ≡ told_of None r → x ≡ Ok tt → length a' ≡ answer_length → Appends b c (take (taken_of (rest_of a' Totals) r) (rest_of a' Totals))
          → Appends b c (take (taken_of (live s) m) (live s))
      answer_appended f q l g = rw (f, told_taken None (live s) r, ← answer_text q l) g

      pub refusal_appended : {n : Refusal} → m ≡ told_of (Some n) r → x ≡ Err n → Appends b c (take (taken_of (refusal_frame (number-is n)) r) (refusal_frame (number-is n)))
          → Appends b c (take (taken_of (live s) m) (live s))
      refusal_appended {n} f q g = rw (f, told_taken (Some n) (live s) r, ← refusal_text q) g

  -- a start of what was written is as long a start of the rules' frames
  module _ (b c : Option (List ℕ)) (k : ℕ) where
    pub answer_appends : x ≡ Ok tt → length a' ≡ answer_length → Appends b c (take k (rest_of a' Totals)) → Appends b c (take k (live s))
    answer_appends q l g = rw (← answer_text q l) g

    pub refusal_appends : {n : Refusal} → x ≡ Err n → Appends b c (take k (refusal_frame (number-is n))) → Appends b c (take k (live s))
    refusal_appends q g = rw (← refusal_text q) g
