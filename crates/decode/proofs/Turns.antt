-- The code's turns from frame to frame and from piece to piece. Assumes nothing.
use mathlib.Core.Bool.{true, ◌&&◌, ◌||◌}
use mathlib.Core.Path.{◌≡◌, refl, sym, ap, ◌∙◌}
use mathlib.Core.List.{List, [], ◌∷◌, ◌++◌, append_assoc, append-nil}
use mathlib.Core.Logic.{◌⊎◌, inl, inr}
use Prim.Native.Nat.{ℕ, zero, suc, ◌+◌, ◌-◌, ◌*◌, ◌^◌, ◌≤◌, ◌<◌}
use native.Mathlib.Nat.{mul-le-mul_right}
use native.Mathlib.Omega.{arith}
use lib.Dec.{eqb, ltb}
use lib.ListN.{length, take, drop, length-append, length-drop, take-append-drop, drop_of_length-le}
use lib.Seq.{take_at, take-append-le}
use borrow.Author.Tests.{eq-eqb, lt-ltb, le-leb, lt-leb}
use Rattle.std.specs.Prelude.{Option, Some, None}
use Rattle.rules.specs.Sorts.{Sort, of_totals, of_block, of_kind, of_use, of_caller, of_refusal}
use Rattle.memory.specs.Memory.{zeros, Blank, over}
use Rattle.memory.proofs.Laws.{zeros-length}
use Rattle.memory.specs.Layout.{functions_most}
use Rattle.answer.specs.Layout.{answer_length}
use Rattle.answer.specs.Image.{image_of}
use Rattle.frames.specs.declared.Frame.{Frame}
use Rattle.frames.specs.declared.Frame.TheVariants as F
use Rattle.frames.specs.declared.Totals.{Totals}
use Rattle.frames.specs.Text.{sort_of, frame_text, line_most}
use Rattle.decode.specs.declared.Partial.{Partial}
use Rattle.decode.specs.declared.Decoder.{Decoder}
use Rattle.decode.specs.declared.Decoder.TheVariants as D
use Rattle.decode.specs.Lines.{if_some, frame_in}
use Rattle.decode.specs.Stored.{Begun, Progress, nothing, begun, told_all, told_record, with_frame, read_frame, read_from, read_text}
use Rattle.decode.specs.Standing.{legal_frame, At, Climbs, Under, begun_image}
use Rattle.decode.specs.Taking.{Stands, Reached, Underway, TakenTo, IllegalIn}
use Rattle.decode.specs.Load.{Outcome, an_answer, not_read, held, loaded}
use Rattle.decode.proofs.Lines.{None-Some, frame-there, frame-back}
use Rattle.decode.proofs.Places.{line_size, text_size}
use Rattle.decode.proofs.Begun.{only_totals, totals_sound}
use Rattle.decode.proofs.Records.{TotalsWithin, totals-within}
use Rattle.decode.proofs.Tables.{totals_stored, image_begun}
use Rattle.decode.proofs.Resume.{frame_shorter, read_done, read_bad, read_next}

-- ---- the first frame

abbrev pub first_partial : Totals → Partial
first_partial t = record { totals = t; live = 0; kinds = 0; uses = 0; row = 0; user = 0; calls = 0; function = 0; caller = 0 }

above_first : (p : ℕ × ℕ) → true ≡ ltb 0 p.0 || (eqb 0 p.0 && true)
above_first (zero, n) = refl
above_first (suc k, n) = rw (lt-ltb 0 (suc k) (omega arith)) refl

pub first_taken : (t : Totals) {m m' : List ℕ} → legal_frame (F.Totals t) ≡ true → Blank m answer_length → m' ≡ over 0 (t.functions ∷ t.blocks ∷ t.instructions ∷ t.count ∷ []) m
    → (x : Begun) × (Some (begun (only_totals t)) ≡ Some (begun x)) × Stands x (first_partial t) m'
first_taken t {m} {m'} h b e =
    let w = totals-within t h in (
      only_totals t,
      refl,
      record {
        sound = totals_sound t h;
        totals = refl;
        live = refl;
        kinds = refl;
        uses = refl;
        firsts = tt;
        above = above_first;
        calls = refl;
        calls_above = λ p. refl;
        row = omega arith;
        is = e ∙ sym (totals_stored t m w.functions b);
      },
    )

-- ---- a frame behind others

pub totals_in : {x : Begun} {s : Partial} {m : List ℕ} → Stands x s m → TotalsWithin s.totals
totals_in {x} {s} {m} h = let w : TotalsWithin x.totals = totals-within x.totals h.sound.totals in rw (h.totals) at w

-- totals and a refusal stand alone
pub told_alone : {f : Frame} → ((t : Totals) × (f ≡ F.Totals t)) ⊎ ((n : ℕ) × (f ≡ F.Refusal n)) → (x : Begun) → with_frame x f ≡ None
unfolding with_frame
told_alone (inl (t, e)) x = rw e refl
told_alone (inr (n, e)) x = rw e refl

-- pairs that rise below two totals are no more than there are such pairs
climb_few : (F I a n : ℕ) (l : List (ℕ × ℕ)) → n ≤ I → a * I + n ≤ F * I → Climbs a n l → Under F I l → length l + (a * I + n) ≤ F * I
climb_few F I a n [] le lt c u = omega arith
climb_few F I a n (p ∷ l) le lt c u =
    let top : suc p.0 * I ≤ F * I = mul-le-mul_right I u.0.0 in
    let ih = climb_few F I p.0 (suc p.1) l u.0.1 (omega (arith, top)) c.1 u.1 in
    let low = from c.0 in
    omega (arith, ih, low)
  where
    from : At a n p → a * I + n ≤ p.0 * I + p.1
    from (inl h) = let q : suc a * I ≤ p.0 * I = mul-le-mul_right I h in omega (arith, q)
    from (inr h) = rw (h.0) (omega (arith, h.1))

pub calls_few : {x : Begun} {s : Partial} {m : List ℕ} → Stands x s m → s.calls < 2 ^ 32
calls_few {x} {s} {m} h =
    let w = totals-within x.totals h.sound.totals in
    let c = climb_few x.totals.functions x.totals.instructions 0 0 x.calls (omega arith) (omega arith) h.sound.calls_rise h.sound.calls_under in
    let p : x.totals.functions * x.totals.instructions ≤ functions_most * x.totals.instructions = mul-le-mul_right x.totals.instructions w.functions in
    omega (arith, c, p, h.calls, w.instructions)

-- ---- the end

module _ {b : Begun} {s : Partial} {m m' : List ℕ} (h : Stands b s m) where
  pub whole_answer : (p : Option Progress) → p ≡ Some (begun b) → s.live ≡ s.totals.blocks → s.kinds ≡ s.totals.instructions → m' ≡ begun_image s.totals.instructions b
      → held (read_from p []) ≡ (an_answer, m')
  whole_answer p e l k i =
      let f : length b.live ≡ b.totals.blocks = rw (h.totals) (h.live ∙ l) in
      let g : length b.kinds ≡ b.totals.instructions = rw (h.totals) (h.kinds ∙ k) in
      let all : told_all b ≡ true = rw (eq-eqb (length b.live) b.totals.blocks f, eq-eqb (length b.kinds) b.totals.instructions g) refl in
      let im : m' ≡ image_of (told_record b) = i ∙ ap (λ (t : Totals). begun_image t.instructions b) (sym h.totals) ∙ image_begun b h.sound all in
      rw (read_done p, e, all, im) refl

-- ---- lines

pub frame_legal : (l : List ℕ) (f : Frame) (x : List ℕ) → frame_in l ≡ Some (f, x) → legal_frame f ≡ true
frame_legal l f x e = (frame-back l (f, x) e).1

-- a legal line stays one, whatever follows
pub frame_before : (l : List ℕ) (f : Frame) (x rest : List ℕ) → frame_in l ≡ Some (f, x) → frame_in (l ++ rest) ≡ Some (f, x ++ rest)
frame_before l f x rest e =
    let b = frame-back l (f, x) e in
    rw (← b.0, append_assoc (frame_text f) x rest) (frame-there f (x ++ rest) b.1)

size_few : (s : Sort) → line_size s ≤ line_most
size_few of_totals = omega arith
size_few of_block = omega arith
size_few of_kind = omega arith
size_few of_use = omega arith
size_few of_caller = omega arith
size_few of_refusal = omega arith

-- and where enough of a line stands, what follows doesn't make it legal
pub frame_cut : (l rest : List ℕ) → line_most ≤ length l → frame_in l ≡ None → frame_in (l ++ rest) ≡ None
frame_cut l rest le n = go (frame_in (l ++ rest)) refl
  where
    go : (o : Option (Frame × List ℕ)) → frame_in (l ++ rest) ≡ o → frame_in (l ++ rest) ≡ None
    go None e = e
    go (Some (f, x)) e =
        let b = frame-back (l ++ rest) (f, x) e in
        let t = frame_text f in
        let k = length t in
        let few = size_few (sort_of f) in
        let s : k ≤ length l = omega (arith, text_size f, few) in
        let u : take k l ≡ t = sym (take-append-le k l rest s) ∙ ap (take k) (sym b.0) ∙ take_at t x k refl in
        let w : l ≡ t ++ drop k l = sym (take-append-drop k l) ∙ ap (λ (z : List ℕ). z ++ drop k l) u in
        None-Some (sym n ∙ ap frame_in w ∙ frame-there f (drop k l) b.1)

-- behind a line the text goes on
pub frame_on : (t : List ℕ) (n e : ℕ) (f : Frame) → n ≤ length t → e ≤ length t → frame_in (drop n t) ≡ Some (f, drop e t) → n < e
frame_on t n e f p q h =
    let s = frame_shorter (drop n t) f (drop e t) h in
    let a = length-drop n t in
    let b = length-drop e t in
    omega (arith, s, a, b)

-- the reading of the piece t has come to its place n
pub record Gone (p : Option Progress) (t : List ℕ) (r : Decoder) (n : ℕ) (m : List ℕ) : Type 0 where
  pub at : Option Progress
  pub reached : Reached at r m
  pub goes_on : (rest : List ℕ) → read_from p (t ++ rest) ≡ read_from at (drop n t ++ rest)

-- at the loop's head, for all that the reading may have come to
pub record Going (r₀ : Decoder) (m₀ t : List ℕ) (r : Decoder) (n : ℕ) (m : List ℕ) : Type 0 where
  pub len : length m ≡ answer_length
  pub in_range : n ≤ length t
  pub underway : Underway r m
  pub gone : (p : Option Progress) → Reached p r₀ m₀ → Gone p t r n m

pub going_start : {r : Decoder} {m : List ℕ} (t : List ℕ) → Underway r m → Going r m t r 0 m
going_start t h = record { len = h.len; in_range = omega arith; underway = h; gone = λ p g. record { at = p; reached = g; goes_on = λ rest. refl } }

module _ {r₀ : Decoder} {m₀ t : List ℕ} {r : Decoder} {n : ℕ} {m : List ℕ} (g : Going r₀ m₀ t r n m) where
  pub going_more : {f : Frame} {e : ℕ} {r' : Decoder} {m' : List ℕ} → frame_in (drop n t) ≡ Some (f, drop e t) → e ≤ length t → length m' ≡ answer_length
      → ((q : Option Progress) → Reached q r m → Reached (if_some q (λ z. read_frame z f)) r' m') → Going r₀ m₀ t r' e m'
  going_more {f} {e} {r'} {m'} h le len took = record {
    len = len;
    in_range = le;
    underway = record { len = len; at = if_some g.underway.at (λ z. read_frame z f); is = took g.underway.at g.underway.is };
    gone = λ p k. let s = g.gone p k in
        record {
          at = if_some s.at (λ z. read_frame z f);
          reached = took s.at s.reached;
          goes_on = λ rest. s.goes_on rest ∙ read_next s.at (drop n t ++ rest) f (drop e t ++ rest) (frame_before (drop n t) f (drop e t) rest h);
        };
  }

  pub going_done : frame_in (drop n t) ≡ None → length t - n < line_most → (p : Option Progress) → Reached p r₀ m₀ → TakenTo p t r n m
  going_done h few p k =
      let s = g.gone p k in
      record { at = s.at; reached = s.reached; goes_on = s.goes_on; in_range = g.in_range; stops = h; few = few }

  pub going_bad : frame_in (drop n t) ≡ None → line_most ≤ length t - n → (p : Option Progress) → Reached p r₀ m₀ → IllegalIn p t
  going_bad h le p k rest =
      let s = g.gone p k in
      let l : line_most ≤ length (drop n t) = rw (length-drop n t) le in
      s.goes_on rest ∙ read_bad s.at (drop n t ++ rest) (omega (arith, l, length-append (drop n t) rest)) (frame_cut (drop n t) rest l h)

-- ---- the last piece

pub last_illegal : (p : Option Progress) (t : List ℕ) → IllegalIn p t → {m : List ℕ} → m ≡ zeros answer_length → held (read_from p t) ≡ (not_read 21, m)
last_illegal p t h e = rw (← append-nil t) (rw (h [], e) refl)

module _ {p : Option Progress} {t : List ℕ} {r : Decoder} {n : ℕ} {m : List ℕ} (g : TakenTo p t r n m) where
  rest_is : read_from p t ≡ read_from g.at (drop n t)
  rest_is = ap (read_from p) (sym (append-nil t)) ∙ g.goes_on [] ∙ ap (read_from g.at) (append-nil (drop n t))

  pub last_cut : n < length t → {m' : List ℕ} → m' ≡ zeros answer_length → held (read_from p t) ≡ (not_read 21, m')
  last_cut lt e = rw (rest_is, read_bad g.at (drop n t) (omega (arith, length-drop n t)) g.stops, e) refl

  pub last_done : length t ≤ n → read_from p t ≡ read_from g.at []
  last_done le = rest_is ∙ rw (drop_of_length-le t le) refl

-- ---- the whole call

pub too_short : (t a : List ℕ) → length a < answer_length → loaded t a ≡ (not_read 2, a)
unfolding loaded
too_short t a h = rw (lt-leb answer_length (length a) h) refl

pub long_enough : (t a : List ℕ) {x : Outcome} {m : List ℕ} → answer_length ≤ length a → held (read_text t) ≡ (x, m) → loaded t a ≡ (x, m ++ drop answer_length a)
unfolding loaded
long_enough t a h e = rw (le-leb answer_length (length a) h, e) refl

pub cleared : {m : List ℕ} {k : ℕ} → m ≡ zeros k → k ≡ answer_length → Reached (Some nothing) D.Nothing m
cleared e l = (refl, e ∙ ap zeros l)

pub cleared_underway : {m : List ℕ} {k : ℕ} → m ≡ zeros k → k ≡ answer_length → Underway D.Nothing m
cleared_underway {m} {k} e l = record { len = ap length e ∙ zeros-length k ∙ l; at = Some nothing; is = cleared e l }
