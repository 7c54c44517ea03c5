-- What each way through the functions that write a line shows. Assumes nothing.
use mathlib.Core.Path.{◌≡◌, refl, sym, ap, ◌∙◌}
use mathlib.Core.List.{List, [], ◌∷◌, ◌++◌, append_assoc, append-nil}
use Prim.Native.Nat.{ℕ, zero, suc, ◌+◌, ◌-◌, ◌*◌, ◌/◌, ◌%◌, ◌≤◌, ◌<◌}
use native.Mathlib.Nat.{not-suc-le-zero, le_of_suc-le-suc}
use native.Mathlib.Numerals.{add-one}
use native.Mathlib.Omega.{arith}
use lib.ListN.{length, get_or, set, take, drop, length-set, length-append, length-drop}
use lib.Seq.{take_all, take_at, drop_at, drop-cons, drop-drop, set_at, set_split, length-take-le}
use borrow.Rule.Slice.PartMut.{mid_of, put_mid, mid_len, same_len_mid}
use Rattle.rules.specs.Lists.{concat, sum}
use Rattle.rules.specs.Sorts.{Sort, of_totals, of_block, of_kind, of_use, of_caller, of_refusal, sort_byte, widths}
use Rattle.rules.specs.Frames.{digit_of, digits, field, fields, frame_line}
use Rattle.frames.specs.Text.{line_most, Wrote}

-- ---- digits

pub digits-front : (k n : ℕ) (l : List ℕ) → digits k n l ≡ digits k n [] ++ l
digits-front zero n l = refl
digits-front (suc k) n l = digits-front k (n / 16) (digit_of (n % 16) ∷ l) ∙ rw (digits-front k (n / 16) (digit_of (n % 16) ∷ []), append_assoc)

pub digits-length : (k n : ℕ) → length (digits k n []) ≡ k
digits-length zero n = refl
digits-length (suc k) n = rw (digits-front k (n / 16) (digit_of (n % 16) ∷ []), length-append, digits-length k (n / 16)) (omega arith)

-- ---- put

-- at its loop's head: the digits that are left, and those that stand, are all
pub record Putting (n : ℕ) (d out : List ℕ) (rest left : ℕ) : Type 0 where
  pub in_range : left ≤ length d
  pub len_same : length out ≡ length d
  pub is : digits left rest [] ++ drop left out ≡ digits (length d) n []

module _ {n : ℕ} {d out : List ℕ} {rest left : ℕ} (g : Putting n d out rest left) where
  pub putting_more : {x : ℕ} → x ≡ digit_of (rest % 16) → 0 < left → Putting n d (set out (left - 1) x) (rest / 16) (left - 1)
  putting_more {x} e h =
      let m = left - 1 in
      let t = digits m (rest / 16) [] in
      let s : left ≡ suc m = omega arith in
      let lt : m < length out = omega (arith, g.in_range, g.len_same) in
      let f : digits left rest [] ≡ t ++ x ∷ [] =
      ap (λ (z : ℕ). digits z rest []) s ∙ rw e (digits-front m (rest / 16) (digit_of (rest % 16) ∷ [])) in
      let q : drop m (set out m x) ≡ x ∷ drop (suc m) out =
      rw (set_split out m x lt) (drop_at (take m out) (x ∷ drop (suc m) out) m (length-take-le m out (omega arith))) in
      let r : drop left out ≡ drop (suc m) out = ap (λ (z : ℕ). drop z out) s in
      record {
        in_range = omega (arith, g.in_range);
        len_same = length-set out m x ∙ g.len_same;
        is = rw (q, ← r) (sym (append_assoc t (x ∷ []) (drop left out)) ∙ rw (← f) g.is);
      }

-- ---- write_line

-- numbers, each behind its width in bytes
abbrev pub fields_of : List (ℕ × ℕ) → List (List ℕ)
fields_of [] = []
fields_of (p ∷ ps) = field p.0 p.1 ∷ fields_of ps

-- the bytes that their line takes
abbrev pub room_for : List (ℕ × ℕ) → ℕ
room_for [] = 1
room_for (p ∷ ps) = 2 * p.0 + room_for ps

abbrev pub both : List ℕ → List ℕ → List (ℕ × ℕ)
both [] ns = []
both (w ∷ ws) [] = []
both (w ∷ ws) (n ∷ ns) = (w, n) ∷ both ws ns

both-fields : (ws ns : List ℕ) → fields_of (both ws ns) ≡ fields ws ns
both-fields [] ns = refl
both-fields (w ∷ ws) [] = refl
both-fields (w ∷ ws) (n ∷ ns) = ap (λ (l : List (List ℕ)). field w n ∷ l) (both-fields ws ns)

both-length : (ws ns : List ℕ) → length ns ≡ length ws → length (both ws ns) ≡ length ws
both-length [] ns e = refl
both-length (w ∷ ws) [] e = absurd (omega arith)
both-length (w ∷ ws) (n ∷ ns) e = ap suc (both-length ws ns (omega arith))

both_at : (ws ns : List ℕ) (k : ℕ) (d : ℕ × ℕ) → k < length ws → length ns ≡ length ws → get_or (both ws ns) k d ≡ (get_or ws k 0, get_or ns k 0)
both_at [] ns k d h e = absurd (not-suc-le-zero h)
both_at (w ∷ ws) [] k d h e = absurd (omega arith)
both_at (w ∷ ws) (n ∷ ns) zero d h e = refl
both_at (w ∷ ws) (n ∷ ns) (suc k) d h e = both_at ws ns k d (le_of_suc-le-suc h) (omega arith)

both-room : (ws ns : List ℕ) → length ns ≡ length ws → room_for (both ws ns) ≡ 2 * sum (λ w. w) ws + 1
both-room [] ns e = refl
both-room (w ∷ ws) [] e = absurd (omega arith)
both-room (w ∷ ws) (n ∷ ns) e = omega (arith, both-room ws ns (omega arith))

-- the byte of a sort, and its numbers
abbrev pub parts : Sort → List ℕ → List (ℕ × ℕ)
parts s ns = (1, sort_byte s) ∷ both (widths s) ns

widths_few : (s : Sort) → 2 * sum (λ w. w) (widths s) + 3 ≤ line_most
widths_few of_totals = omega arith
widths_few of_block = omega arith
widths_few of_kind = omega arith
widths_few of_use = omega arith
widths_few of_caller = omega arith
widths_few of_refusal = omega arith

fields_more : (ps : List (ℕ × ℕ)) (i : ℕ) (p : ℕ × ℕ) → i < length ps
    → concat (fields_of (take (suc i) ps)) ≡ concat (fields_of (take i ps)) ++ field (get_or ps i p).0 (get_or ps i p).1
fields_more [] i p h = absurd (not-suc-le-zero h)
fields_more (q ∷ ps) zero p h = append-nil (field q.0 q.1)
fields_more (q ∷ ps) (suc i) p h =
    ap (λ (z : List ℕ). field q.0 q.1 ++ z) (fields_more ps i p (le_of_suc-le-suc h))
    ∙ sym (append_assoc (field q.0 q.1) (concat (fields_of (take i ps))) (field (get_or ps i p).0 (get_or ps i p).1))

room-pos : (ps : List (ℕ × ℕ)) → 0 < room_for ps
room-pos [] = omega arith
room-pos (p ∷ ps) = omega (arith, room-pos ps)

-- at its loop's head the first i numbers are written
pub record Writing (ps : List (ℕ × ℕ)) (d out : List ℕ) (i at : ℕ) : Type 0 where
  pub in_range : i ≤ length ps
  pub room : at + room_for (drop i ps) ≤ length d
  pub before_end : at < length d
  pub len_same : length out ≡ length d
  pub text : length (concat (fields_of (take i ps))) ≡ at
  pub is : out ≡ concat (fields_of (take i ps)) ++ drop at d

module _ {ps : List (ℕ × ℕ)} {d out : List ℕ} {i at : ℕ} (g : Writing ps d out i at) where
  -- the room that the number i takes
  writing_room : (p : ℕ × ℕ) → i < length ps → at + (2 * (get_or ps i p).0 + room_for (drop (i + 1) ps)) ≤ length d
  writing_room p lt = rw (add-one) (rw (drop-cons ps i p lt) at g.room)

  writing_fits : (p : ℕ × ℕ) → i < length ps → at + 2 * (get_or ps i p).0 ≤ length out
  writing_fits p lt = omega (arith, writing_room p lt, g.len_same)

  writing_more : (p : ℕ × ℕ) {e : ℕ} {u : List ℕ} → e ≡ at + 2 * (get_or ps i p).0 → u ≡ digits (length (mid_of at (e - at) out)) (get_or ps i p).1 []
      → i < length ps → Writing ps d (put_mid at (e - at) out u) (i + 1) e
  writing_more p {e} {u} is q lt =
      let w = (get_or ps i p).0 in
      let n = (get_or ps i p).1 in
      let t = concat (fields_of (take i ps)) in
      let k = e - at in
      let two : k ≡ w + w = omega arith in
      let z : at + k ≡ e = omega arith in
      let m : length (mid_of at k out) ≡ k = mid_len at e out (omega (arith, writing_fits p lt)) in
      let r : u ≡ field w n = q ∙ ap (λ (x : ℕ). digits x n []) (m ∙ two) in
      let l : length (field w n) ≡ k = digits-length (w + w) n ∙ sym two in
      let f : concat (fields_of (take (i + 1) ps)) ≡ t ++ field w n = rw add-one (fields_more ps i p lt) in
      let a : take at out ≡ t = rw g.is (take_at t (drop at d) at g.text) in
      let b : drop at out ≡ drop at d = rw g.is (drop_at t (drop at d) at g.text) in
      let c : drop k (drop at out) ≡ drop e d = ap (drop k) b ∙ drop-drop k at d ∙ ap (λ (x : ℕ). drop x d) z in
      let o : put_mid at k out u ≡ (t ++ field w n) ++ drop e d = rw (a, c, r) (sym (append_assoc t (field w n) (drop e d))) in
      record {
        in_range = omega arith;
        room = omega (arith, writing_room p lt);
        before_end = omega (arith, writing_room p lt, room-pos (drop (i + 1) ps));
        len_same = same_len_mid at k out u (rw (r, l, m)) ∙ g.len_same;
        text = rw (f, length-append, l, g.text) z;
        is = rw f o;
      }

  writing_done : length ps ≤ i → Wrote (concat (fields_of ps) ++ 10 ∷ []) d (at + 1) (set out at 10)
  writing_done le =
      let x : take i ps ≡ ps = take_all i ps le in
      let t = concat (fields_of ps) in
      let l : length t ≡ at = rw x at g.text in
      let o : out ≡ t ++ drop at d = rw x at g.is in
      let s : length (t ++ 10 ∷ []) ≡ at + 1 = rw length-append (omega arith) in
      let h : at + 1 ≤ length (set out at 10) = rw length-set (omega (arith, g.len_same, g.before_end)) in
      record {
        is = rw (s, o, add-one, drop-cons d at 0 g.before_end, append_assoc t (10 ∷ []) (drop (suc at) d))
            (set_at t (get_or d at 0) (drop (suc at) d) 10 at l);
        len = sym s;
        fits = h;
        count = sym (length-take-le (at + 1) (set out at 10) h);
      }

-- at its loop's head: the byte of the sort and the first k numbers are written
pub record Lining (s : Sort) (ns d out : List ℕ) (k at : ℕ) : Type 0 where
  pub many : length ns ≡ length (widths s)
  pub writing : Writing (parts s ns) d out (suc k) at

pub lining_start : (s : Sort) (ns d : List ℕ) {n : ℕ} {u : List ℕ} → length ns ≡ length (widths s) → line_most ≤ length d → n ≡ sort_byte s
    → u ≡ digits (length (take 2 d)) n [] → Lining s ns d (u ++ drop 2 d) 0 2
lining_start s ns d {n} {u} e h q g =
    let two : length (take 2 d) ≡ 2 = length-take-le 2 d (omega arith) in
    let f : u ≡ field 1 (sort_byte s) = g ∙ rw (two, q) refl in
    let room = both-room (widths s) ns e in
    let few = widths_few s in
    let l : length (field 1 (sort_byte s)) ≡ 2 = digits-length 2 (sort_byte s) in
    let a : concat (field 1 (sort_byte s) ∷ []) ≡ field 1 (sort_byte s) = append-nil (field 1 (sort_byte s)) in
    record {
      many = e;
      writing = record {
        in_range = omega arith;
        room = omega (arith, room, few);
        before_end = omega arith;
        len_same = rw f (length-append (field 1 (sort_byte s)) (drop 2 d) ∙ omega (arith, l, length-drop 2 d));
        text = ap length a ∙ l;
        is = ap (λ (z : List ℕ). z ++ drop 2 d) (f ∙ sym a);
      };
    }

module _ {s : Sort} {ns d out : List ℕ} {k at : ℕ} (g : Lining s ns d out k at) (lt : k < length ns) where
  pub lining_width : k < length (widths s)
  lining_width = omega (arith, g.many)

  part : get_or (parts s ns) (suc k) (0, 0) ≡ (get_or (widths s) k 0, get_or ns k 0)
  part = both_at (widths s) ns k (0, 0) lining_width g.many

  within : suc k < length (parts s ns)
  within = omega (arith, both-length (widths s) ns g.many, g.many)

  pub lining_fits : at + 2 * get_or (widths s) k 0 ≤ length out
  lining_fits = omega (arith, writing_fits g.writing (0, 0) within, ap (λ (p : ℕ × ℕ). p.0) part)

  pub lining_more : {e : ℕ} {u : List ℕ} → e ≡ at + 2 * get_or (widths s) k 0 → u ≡ digits (length (mid_of at (e - at) out)) (get_or ns k 0) []
      → Lining s ns d (put_mid at (e - at) out u) (k + 1) e
  lining_more {e} {u} q w =
      let a : (get_or (parts s ns) (suc k) (0, 0)).0 ≡ get_or (widths s) k 0 = ap (λ (p : ℕ × ℕ). p.0) part in
      let b : (get_or (parts s ns) (suc k) (0, 0)).1 ≡ get_or ns k 0 = ap (λ (p : ℕ × ℕ). p.1) part in
      let y : suc (k + 1) ≡ suc k + 1 = omega arith in
      record {
        many = g.many;
        writing = rw y (writing_more g.writing (0, 0) (omega (arith, a)) (w ∙ ap (λ (n : ℕ). digits (length (mid_of at (e - at) out)) n []) (sym b)) within);
      }

pub lining_done : {s : Sort} {ns d out : List ℕ} {k at : ℕ} → Lining s ns d out k at → length ns ≤ k → Wrote (frame_line s ns) d (at + 1) (set out at 10)
unfolding frame_line
lining_done {s} {ns} {d} {out} {k} {at} g le =
    rw (← both-fields (widths s) ns) (writing_done g.writing (omega (arith, both-length (widths s) ns g.many, g.many)))

pub lining_end : {s : Sort} {ns d out : List ℕ} {k at : ℕ} → Lining s ns d out k at → at < length out
lining_end g = omega (arith, g.writing.before_end, g.writing.len_same)
