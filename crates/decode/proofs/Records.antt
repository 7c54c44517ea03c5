-- A legal record and what its frames tell. Assumes nothing.
use mathlib.Core.Bool.{Bool as 𝔹, true, false, ◌&&◌}
use mathlib.Core.Logic.{inr}
use mathlib.Core.Path.{◌≡◌, refl, sym, ap, ap₂, ◌∙◌, subst}
use mathlib.Core.List.{List, [], ◌∷◌, ◌++◌, map, append_assoc}
use Prim.Native.Nat.{ℕ, suc, ◌+◌, ◌^◌, ◌≤◌, ◌<◌}
use native.Mathlib.Omega.{arith}
use lib.Dec.{eqb, leb, ltb, lit<}
use native.Mathlib.Decide.{dec_lt}
use lib.ListN.{length, get_or, length-map, get_or-eq_default}
use lib.Signed.{mag}
use mir.Syntax.{w64}
use Rattle.std.proofs.Math.Facts.{Fits-of_z}
use borrow.Author.Tests.{eqb-true, eq-eqb, ltb-true, lt-ltb, leb-true, le-leb}
use Rattle.kinds.specs.declared.Kind.{Kind}
use Rattle.kinds.specs.declared.Kind.TheVariants.{Empty, Nil, Num, Truth, Fun, Class, Int, Bool, Objects, Any}
use Rattle.kinds.specs.Kinds.{bit_of, tag_of, payload_of, fits_of}
use Rattle.rules.specs.Values.{function_below}
use Rattle.rules.specs.Lists.{concat, places, all}
use Rattle.rules.specs.Sorts.{Sort, of_use, of_caller}
use Rattle.rules.specs.Frames.{each_at, pairs, frame_line, totals_frame, block_frame, kind_frame, use_frames, caller_frames}
use Rattle.rules.proofs.Wellformed.Tests.{and-true, true-and, and3_true}
use Rattle.memory.specs.Layout.{functions_most, blocks_most, instructions_most, uses_most}
use Rattle.answer.specs.Record.{Record}
use Rattle.answer.specs.Image.{listed}
use Rattle.frames.specs.declared.Frame.{Frame}
use Rattle.frames.specs.declared.Frame.TheVariants as F
use Rattle.frames.specs.declared.Totals.{Totals}
use Rattle.frames.specs.Text.{frame_text, record_text}
use Rattle.answer.proofs.Laws.{bit_small}
use Rattle.decode.specs.Lines.{payload_limits, allowed, legal_numbers}
use Rattle.decode.specs.Stored.{rising, legal_kind, legal_record, Begun, told_all, pair_row, bit_row, told_record}
use Rattle.decode.specs.Standing.{Each, Sound, legal_frame}
use Rattle.decode.proofs.Lines.{each-append, LegalFrames, text_all}
use Rattle.decode.proofs.Pairs.{
  Rises,
  Below,
  rising-rises,
  rises-rising,
  listed_same,
  listed-length,
  listed-each,
  places_rise,
  places-bit_row,
  bit_row-places,
  row_pairs,
  pairs_of,
  pairs_back,
  rows-pairs,
  pairs-climb,
  pairs-under,
  pairs-length,
  pair_row-rises,
  pair_row-all_below,
  listed-map,
}
use Rattle.decode.proofs.Begun.{in_turn, of_live, of_kind_at, of_use_at, of_call_at, begun_frames, told_is}

-- ---- lists

pub each_of : {A : Type 0} (f : A → 𝔹) (l : List A) → all f l ≡ true → Each (λ x. f x ≡ true) l
each_of f [] h = tt
each_of f (x ∷ l) h = let z = and-true (f x) (all f l) h in (z.0, each_of f l z.1)

pub all_of : {A : Type 0} (f : A → 𝔹) (l : List A) → Each (λ x. f x ≡ true) l → all f l ≡ true
all_of f [] h = refl
all_of f (x ∷ l) h = true-and h.0 (all_of f l h.1)

pub each_change : {A : Type 0} (P Q : A → Type 0) (l : List A) → ((x : A) → P x → Q x) → Each P l → Each Q l
each_change P Q [] g h = tt
each_change P Q (x ∷ l) g h = (g x h.0, each_change P Q l g h.1)

each_map : {A B : Type 0} (P : B → Type 0) (f : A → B) (l : List A) → Each (λ x. P (f x)) l → Each P (map f l)
each_map P f [] h = tt
each_map P f (x ∷ l) h = (h.0, each_map P f l h.1)

-- ---- what a legal record is

pub record Parts (r : Record) : Type 0 where
  pub functions : length r.callers ≤ functions_most
  pub blocks : length r.live ≤ blocks_most
  pub instructions : length r.kinds ≤ instructions_most
  pub count : r.count < 2 ^ 64
  pub kinds : Each (λ k. legal_kind (length r.callers) k ≡ true) r.kinds
  pub lists : length r.users ≡ length r.kinds
  pub users : Each (λ l. Rises 0 l × Below (length r.kinds) l) r.users
  pub uses : length (concat r.users) ≤ uses_most
  pub rows : Each (λ row. length row ≡ length r.kinds) r.callers

pub parts : (r : Record) → legal_record r ≡ true → Parts r
unfolding legal_record
parts r h =
    let a1 = leb (length r.callers) functions_most in
    let a2 = leb (length r.live) blocks_most in
    let a3 = leb (length r.kinds) instructions_most in
    let a4 = ltb r.count (2 ^ 64) in
    let a5 = all (legal_kind (length r.callers)) r.kinds in
    let a6 = eqb (length r.users) (length r.kinds) in
    let a7 = all (rising 0 (length r.kinds)) r.users in
    let a8 = leb (length (concat r.users)) uses_most in
    let a9 = all (λ row. eqb (length row) (length r.kinds)) r.callers in
    let z9 = and-true (a1 && a2 && a3 && a4 && a5 && a6 && a7 && a8) a9 h in
    let z8 = and-true (a1 && a2 && a3 && a4 && a5 && a6 && a7) a8 z9.0 in
    let z7 = and-true (a1 && a2 && a3 && a4 && a5 && a6) a7 z8.0 in
    let z6 = and-true (a1 && a2 && a3 && a4 && a5) a6 z7.0 in
    let z5 = and-true (a1 && a2 && a3 && a4) a5 z6.0 in
    let z4 = and-true (a1 && a2 && a3) a4 z5.0 in
    let z3 = and3_true a1 a2 a3 z4.0 in
    record {
      functions = leb-true (length r.callers) functions_most z3.0;
      blocks = leb-true (length r.live) blocks_most z3.1;
      instructions = leb-true (length r.kinds) instructions_most z3.2;
      count = ltb-true r.count (2 ^ 64) z4.1;
      kinds = each_of (legal_kind (length r.callers)) r.kinds z5.1;
      lists = eqb-true (length r.users) (length r.kinds) z6.1;
      users = each_change (λ l. rising 0 (length r.kinds) l ≡ true) (λ l. Rises 0 l × Below (length r.kinds) l) r.users
          (λ l e. rising-rises 0 (length r.kinds) l e) (each_of (rising 0 (length r.kinds)) r.users z7.1);
      uses = leb-true (length (concat r.users)) uses_most z8.1;
      rows = each_change (λ row. eqb (length row) (length r.kinds) ≡ true) (λ row. length row ≡ length r.kinds) r.callers
          (λ row e. eqb-true (length row) (length r.kinds) e) (each_of (λ row. eqb (length row) (length r.kinds)) r.callers z9.1);
    }

pub legal_parts : (r : Record) → Parts r → legal_record r ≡ true
unfolding legal_record
legal_parts r p =
    let N = length r.kinds in
    true-and
    (true-and
    (true-and
    (true-and
    (true-and
    (true-and
    (true-and (true-and (le-leb (length r.callers) functions_most p.functions) (le-leb (length r.live) blocks_most p.blocks)) (le-leb N instructions_most p.instructions))
    (lt-ltb r.count (2 ^ 64) p.count))
    (all_of (legal_kind (length r.callers)) r.kinds p.kinds))
    (eq-eqb (length r.users) N p.lists))
    (all_of (rising 0 N) r.users (each_change (λ l. Rises 0 l × Below N l) (λ l. rising 0 N l ≡ true) r.users (λ l h. rises-rising 0 N l h.0 h.1) p.users)))
    (le-leb (length (concat r.users)) uses_most p.uses))
    (all_of (λ row. eqb (length row) N) r.callers (each_change (λ row. length row ≡ N) (λ row. eqb (length row) N ≡ true) r.callers (λ row h. eq-eqb (length row) N h) p.rows))

-- the totals of a legal frame
pub record TotalsWithin (t : Totals) : Type 0 where
  pub functions : t.functions ≤ functions_most
  pub blocks : t.blocks ≤ blocks_most
  pub instructions : t.instructions ≤ instructions_most
  pub count : t.count < 2 ^ 64

pub totals-within : (t : Totals) → legal_frame (F.Totals t) ≡ true → TotalsWithin t
unfolding legal_numbers
totals-within t h =
    let a = and-true (ltb t.functions (functions_most + 1)) _ (and-true _ true h).0 in
    let b = and-true (ltb t.blocks (blocks_most + 1)) _ a.1 in
    let c = and-true (ltb t.instructions (instructions_most + 1)) _ b.1 in
    let d = and-true (ltb t.count (2 ^ 64)) true c.1 in
    let x = ltb-true t.functions (functions_most + 1) a.0 in
    let y = ltb-true t.blocks (blocks_most + 1) b.0 in
    let z = ltb-true t.instructions (instructions_most + 1) c.0 in
    record { functions = omega arith; blocks = omega arith; instructions = omega arith; count = ltb-true t.count (2 ^ 64) d.0 }

within-totals : (t : Totals) → TotalsWithin t → legal_frame (F.Totals t) ≡ true
unfolding legal_numbers
within-totals t h =
    let x = h.functions in
    let y = h.blocks in
    let z = h.instructions in
    rw (
      lt-ltb t.functions (functions_most + 1) (omega arith),
      lt-ltb t.blocks (blocks_most + 1) (omega arith),
      lt-ltb t.instructions (instructions_most + 1) (omega arith),
      lt-ltb t.count (2 ^ 64) h.count,
    )
    refl

-- ---- a record's frames

-- the numbers at which rows of bits are set
abbrev set_places : List (List 𝔹) → List (List ℕ)
set_places rows = map (λ row. places (λ b. b) row) rows

abbrev pub record_begun : Record → Begun
record_begun r = record {
  totals = record { functions = length r.callers; blocks = length r.live; instructions = length r.kinds; count = r.count };
  live = r.live;
  kinds = r.kinds;
  uses = pairs_of 0 r.users;
  calls = pairs_of 0 (set_places r.callers);
}

pub record_told : (r : Record) → told_all (record_begun r) ≡ true
record_told r = rw (eq-eqb (length r.live) (length r.live) refl, eq-eqb (length r.kinds) (length r.kinds) refl) refl

pub record_sound : (r : Record) → Parts r → Sound (record_begun r)
record_sound r p =
    let N = length r.kinds in
    let F = length r.callers in
    let rise = each_change (λ row. length row ≡ N) (λ row. Rises 0 (places (λ b. b) row) × Below N (places (λ b. b) row)) r.callers (λ row e. row_places row e) p.rows in
    record {
      totals = within-totals (record_begun r).totals (record { functions = p.functions; blocks = p.blocks; instructions = p.instructions; count = p.count });
      live_few = omega arith;
      kinds_few = omega arith;
      kinds_late = inr refl;
      pairs_late = inr (record_told r);
      kinds = p.kinds;
      uses_rise = pairs-climb 0 r.users (each_change (λ l. Rises 0 l × Below N l) (λ l. Rises 0 l) r.users (λ l h. h.0) p.users);
      uses_under = pairs-under N N 0 r.users (omega (arith, p.lists)) (each_change (λ l. Rises 0 l × Below N l) (λ l. Below N l) r.users (λ l h. h.1) p.users);
      uses_few = rw (pairs-length 0 r.users) p.uses;
      calls_rise = pairs-climb 0 (set_places r.callers)
          (each_map (λ l. Rises 0 l) (λ row. places (λ b. b) row) r.callers
          (each_change (λ row. Rises 0 (places (λ b. b) row) × Below N (places (λ b. b) row)) (λ row. Rises 0 (places (λ b. b) row)) r.callers
          (λ row h. h.0) rise));
      calls_under = pairs-under F N 0 (set_places r.callers) (omega (arith, length-map r.callers (λ row. places (λ b. b) row)))
          (each_map (λ l. Below N l) (λ row. places (λ b. b) row) r.callers
          (each_change (λ row. Rises 0 (places (λ b. b) row) × Below N (places (λ b. b) row)) (λ row. Below N (places (λ b. b) row)) r.callers
          (λ row h. h.1) rise));
    }
  where
    row_places : (row : List 𝔹) → length row ≡ length r.kinds → Rises 0 (places (λ b. b) row) × Below (length r.kinds) (places (λ b. b) row)
    row_places row e = let z = places_rise (λ b. b) row in (z.0, subst (λ (n : ℕ). Below n (places (λ b. b) row)) e z.1)

-- it is told again
bits_rows : (n : ℕ) (rows : List (List 𝔹)) → Each (λ row. length row ≡ n) rows → map (bit_row n) (set_places rows) ≡ rows
bits_rows n [] h = refl
bits_rows n (row ∷ rows) h = ap₂ (λ (x : List 𝔹) (l : List (List 𝔹)). x ∷ l) (rw (← h.0) (bit_row-places row)) (bits_rows n rows h.1)

pub record_again : (r : Record) → Parts r → told_record (record_begun r) ≡ r
unfolding told_record
record_again r p =
    let N = length r.kinds in
    let F = length r.callers in
    let u : listed (λ i. pair_row i (pairs_of 0 r.users)) 0 N ≡ r.users = rw (← p.lists) (rows-pairs 0 r.users) in
    let m : length (set_places r.callers) ≡ F = length-map r.callers (λ row. places (λ b. b) row) in
    let k : listed (λ f. pair_row f (pairs_of 0 (set_places r.callers))) 0 F ≡ set_places r.callers = rw m at (rows-pairs 0 (set_places r.callers)) in
    let c : listed (λ f. bit_row N (pair_row f (pairs_of 0 (set_places r.callers)))) 0 F ≡ r.callers =
    sym (listed-map (bit_row N) (λ f. pair_row f (pairs_of 0 (set_places r.callers))) 0 F) ∙ ap (map (bit_row N)) k ∙ bits_rows N r.callers p.rows in
    rw (u, c) refl

-- ---- a record that was told

pub told_parts : (c : Begun) → Sound c → told_all c ≡ true → Parts (told_record c)
unfolding told_record
told_parts c h all =
    let T = c.totals in
    let N = T.instructions in
    let e = told_is c all in
    let w = totals-within T h.totals in
    let rows = λ (f : ℕ). bit_row N (pair_row f c.calls) in
    let users = λ (i : ℕ). pair_row i c.uses in
    let fl : length (listed rows 0 T.functions) ≡ T.functions = listed-length rows 0 T.functions in
    let ul : length (listed users 0 N) ≡ N = listed-length users 0 N in
    record {
      functions = rw fl w.functions;
      blocks = rw (e.0) w.blocks;
      instructions = rw (e.1) w.instructions;
      count = w.count;
      kinds = rw fl h.kinds;
      lists = ul ∙ sym e.1;
      users = rw (e.1) (listed-each users (λ l. Rises 0 l × Below N l) 0 N (λ k p q. (pair_row-rises k c.uses h.uses_rise, pair_row-all_below N N k c.uses h.uses_under)));
      uses = rw (← pairs-length 0 (listed users 0 N), pairs_back N c.uses h.uses_rise (each_change (λ p. (p.0 < N) × (p.1 < N)) (λ p. p.0 < N) c.uses (λ p x. x.0) h.uses_under)) h.uses_few;
      rows = rw (e.1) (listed-each rows (λ row. length row ≡ N) 0 T.functions (λ f p q. listed-length (λ k. Rattle.rules.specs.Lists.any (eqb k) (pair_row f c.calls)) 0 N));
    }

-- and its frames are those that told it
pub frames_again : (c : Begun) → Sound c → told_all c ≡ true → begun_frames (record_begun (told_record c)) ≡ begun_frames c
unfolding told_record
frames_again c h all =
    let T = c.totals in
    let N = T.instructions in
    let e = told_is c all in
    let rows = λ (f : ℕ). bit_row N (pair_row f c.calls) in
    let fl : length (listed rows 0 T.functions) ≡ T.functions = listed-length rows 0 T.functions in
    let us : pairs_of 0 (listed (λ i. pair_row i c.uses) 0 N) ≡ c.uses = pairs_back N c.uses h.uses_rise (each_change (λ p. (p.0 < N) × (p.1 < N)) (λ p. p.0 < N) c.uses (λ p x. x.0) h.uses_under) in
    let sp : set_places (listed rows 0 T.functions) ≡ listed (λ f. pair_row f c.calls) 0 T.functions =
    listed-map (λ row. places (λ b. b) row) rows 0 T.functions
    ∙ listed_same (λ f. places (λ b. b) (rows f)) (λ f. pair_row f c.calls) 0 T.functions
    (λ k p q. places-bit_row N (pair_row k c.calls) (pair_row-rises k c.calls h.calls_rise) (pair_row-all_below T.functions N k c.calls h.calls_under)) in
    let cs : pairs_of 0 (set_places (listed rows 0 T.functions)) ≡ c.calls =
    ap (pairs_of 0) sp ∙ pairs_back T.functions c.calls h.calls_rise (each_change (λ p. (p.0 < T.functions) × (p.1 < N)) (λ p. p.0 < T.functions) c.calls (λ p x. x.0) h.calls_under) in
    rw (us, cs, fl, e.0, e.1) refl

-- ---- they are legal frames

tag_small : (t x : ℕ) → allowed t x ≡ true → t < 10
tag_small t x h = go (dec_lt t 10)
  where
    go : Dec (t < 10) → t < 10
    go (yes lt) = lt
    go (no ge) =
        let e : get_or payload_limits t 0 ≡ 0 = get_or-eq_default payload_limits 0 (omega arith) in
        let l : x < 0 = ltb-true x 0 (rw (← e) ((and-true (ltb x (get_or payload_limits t 0)) _ h).0)) in
        absurd (omega arith)

pub payload_small : (k : Kind) → fits_of k ≡ true → payload_of k < 2 ^ 64
payload_small Empty e = lit< tt
payload_small Nil e = lit< tt
payload_small (Num n) e = (Fits-of_z {w = w64} {z = n} (record { sfits = ltb-true (mag n) (2 ^ 63) e })).fits
payload_small (Truth true) e = lit< tt
payload_small (Truth false) e = lit< tt
payload_small (Fun f) e = let h = ltb-true f.0 (2 ^ 32) e in omega arith
payload_small (Class c) e = let h = ltb-true c.0 (2 ^ 32) e in omega arith
payload_small Int e = lit< tt
payload_small Bool e = lit< tt
payload_small (Objects s) e = ltb-true s (2 ^ 64) e
payload_small Any e = lit< tt

turn-each : {A : Type 0} (f : ℕ → A → Frame) (P : A → Type 0) (top : ℕ) → ((k : ℕ) (x : A) → k < top → P x → legal_frame (f k x) ≡ true)
    → (k : ℕ) (l : List A) → k + length l ≤ top → Each P l → LegalFrames (in_turn f k l)
turn-each f P top h k [] le g = tt
turn-each f P top h k (x ∷ l) le g = (h k x (omega arith) g.0, turn-each f P top h (suc k) l (omega arith) g.1)

each_any : {A : Type 0} (l : List A) → Each (λ x. Unit {0}) l
each_any [] = tt
each_any (x ∷ l) = (tt, each_any l)

live_frame_legal : (k : ℕ) (t : 𝔹) → k < blocks_most → legal_frame (of_live k t) ≡ true
unfolding legal_numbers
live_frame_legal k t lt = rw (lt-ltb k blocks_most lt, lt-ltb (bit_of t) 2 (bit_small t)) refl

kind_frame_legal : (functions k : ℕ) (x : Kind) → k < instructions_most → legal_kind functions x ≡ true → legal_frame (of_kind_at k x) ≡ true
unfolding legal_numbers
kind_frame_legal functions k x lt h =
    let a = and3_true (fits_of x) (allowed (tag_of x) (payload_of x)) (function_below functions x) h in
    rw (lt-ltb k instructions_most lt, lt-ltb (tag_of x) 10 (tag_small (tag_of x) (payload_of x) a.1), lt-ltb (payload_of x) (2 ^ 64) (payload_small x a.0), a.1) refl

use_frame_legal : (k : ℕ) (p : ℕ × ℕ) → p.0 < instructions_most → p.1 < instructions_most → legal_frame (of_use_at k p) ≡ true
unfolding legal_numbers
use_frame_legal k p l m = rw (lt-ltb p.0 instructions_most l, lt-ltb p.1 instructions_most m) refl

call_frame_legal : (k : ℕ) (p : ℕ × ℕ) → p.0 < functions_most → p.1 < instructions_most → legal_frame (of_call_at k p) ≡ true
unfolding legal_numbers
call_frame_legal k p l m = rw (lt-ltb p.0 functions_most l, lt-ltb p.1 instructions_most m) refl

pub frames_legal : (c : Begun) → Sound c → told_all c ≡ true → LegalFrames (begun_frames c)
frames_legal c h all =
    let T = c.totals in
    let N = T.instructions in
    let e = told_is c all in
    let w = totals-within T h.totals in
    let f = w.functions in
    let b = w.blocks in
    let n = w.instructions in
    let L = turn-each of_live (λ t. Unit {0}) blocks_most (λ k t lt u. live_frame_legal k t lt) 0 c.live (omega (arith, e.0)) (each_any c.live) in
    let K = turn-each of_kind_at (λ x. legal_kind T.functions x ≡ true) instructions_most (λ k x lt g. kind_frame_legal T.functions k x lt g) 0 c.kinds (omega (arith, e.1)) h.kinds in
    let U = turn-each of_use_at (λ p. (p.0 < N) × (p.1 < N)) (length c.uses) (λ k p lt g. use_frame_legal k p (omega (arith, g.0)) (omega (arith, g.1))) 0 c.uses (omega arith) h.uses_under in
    let C = turn-each of_call_at (λ p. (p.0 < T.functions) × (p.1 < N)) (length c.calls)
    (λ k p lt g. call_frame_legal k p (omega (arith, g.0)) (omega (arith, g.1))) 0 c.calls (omega arith) h.calls_under in
    let P = λ (f : Frame). legal_frame f ≡ true in
    (h.totals, each-append P (in_turn of_live 0 c.live) _ L (each-append P (in_turn of_kind_at 0 c.kinds) _ K (each-append P (in_turn of_use_at 0 c.uses) (in_turn of_call_at 0 c.calls) U C)))

-- ---- and their lines are the record's

text-append : (fs gs : List Frame) → text_all (fs ++ gs) ≡ text_all fs ++ text_all gs
text-append [] gs = refl
text-append (f ∷ fs) gs = ap (λ (z : List ℕ). frame_text f ++ z) (text-append fs gs) ∙ sym (append_assoc (frame_text f) (text_all fs) (text_all gs))

turn-text : {A : Type 0} (f : ℕ → A → Frame) (g : ℕ → A → List ℕ) → ((k : ℕ) (x : A) → frame_text (f k x) ≡ g k x) → (k : ℕ) (l : List A) → text_all (in_turn f k l) ≡ each_at g k l
turn-text f g h k [] = refl
turn-text f g h k (x ∷ l) = ap₂ ◌++◌ (h k x) (turn-text f g h (suc k) l)

module _ (s : Sort) where
  pair_lines : List (ℕ × ℕ) → List ℕ
  pair_lines [] = []
  pair_lines (p ∷ l) = frame_line s (p.0 ∷ p.1 ∷ []) ++ pair_lines l

  row-lines : (k : ℕ) (l : List ℕ) (m : List (ℕ × ℕ)) → pair_lines (row_pairs k l ++ m) ≡ pairs s k l ++ pair_lines m
  unfolding pair_lines
  row-lines k [] m = refl
  row-lines k (x ∷ l) m =
      ap (λ (z : List ℕ). frame_line s (k ∷ x ∷ []) ++ z) (row-lines k l m) ∙ sym (append_assoc (frame_line s (k ∷ x ∷ [])) (pairs s k l) (pair_lines m))

  rows-lines : (k : ℕ) (ls : List (List ℕ)) → pair_lines (pairs_of k ls) ≡ each_at (pairs s) k ls
  unfolding pair_lines
  rows-lines k [] = refl
  rows-lines k (l ∷ ls) = row-lines k l (pairs_of (suc k) ls) ∙ ap (λ (z : List ℕ). pairs s k l ++ z) (rows-lines (suc k) ls)

  turn-lines : (f : ℕ → ℕ × ℕ → Frame) → ((j : ℕ) (p : ℕ × ℕ) → frame_text (f j p) ≡ frame_line s (p.0 ∷ p.1 ∷ [])) → (j : ℕ) (l : List (ℕ × ℕ)) → text_all (in_turn f j l) ≡ pair_lines l
  unfolding pair_lines
  turn-lines f h j [] = refl
  turn-lines f h j (p ∷ l) = ap₂ ◌++◌ (h j p) (turn-lines f h (suc j) l)

callers-lines : (k : ℕ) (rows : List (List 𝔹)) → each_at (pairs of_caller) k (set_places rows) ≡ each_at caller_frames k rows
callers-lines k [] = refl
callers-lines k (row ∷ rows) = ap (λ (z : List ℕ). caller_frames k row ++ z) (callers-lines (suc k) rows)

pub record_lines : (r : Record) → text_all (begun_frames (record_begun r)) ≡ record_text r
unfolding record_text
record_lines r =
    let B = in_turn of_live 0 r.live in
    let K = in_turn of_kind_at 0 r.kinds in
    let U = in_turn of_use_at 0 (pairs_of 0 r.users) in
    let C = in_turn of_call_at 0 (pairs_of 0 (set_places r.callers)) in
    let T = totals_frame (length r.callers) (length r.live) (length r.kinds) r.count in
    let b : text_all B ≡ each_at block_frame 0 r.live = turn-text of_live block_frame (λ k x. refl) 0 r.live in
    let k : text_all K ≡ each_at kind_frame 0 r.kinds = turn-text of_kind_at kind_frame (λ k x. refl) 0 r.kinds in
    let u : text_all U ≡ each_at use_frames 0 r.users = turn-lines of_use of_use_at (λ j p. refl) 0 (pairs_of 0 r.users) ∙ rows-lines of_use 0 r.users in
    let c : text_all C ≡ each_at caller_frames 0 r.callers =
    turn-lines of_caller of_call_at (λ j p. refl) 0 (pairs_of 0 (set_places r.callers)) ∙ rows-lines of_caller 0 (set_places r.callers) ∙ callers-lines 0 r.callers in
    let e : text_all (B ++ (K ++ (U ++ C))) ≡ text_all B ++ (text_all K ++ (text_all U ++ text_all C)) =
    text-append B (K ++ (U ++ C)) ∙ ap (λ (z : List ℕ). text_all B ++ z) (text-append K (U ++ C) ∙ ap (λ (z : List ℕ). text_all K ++ z) (text-append U C)) in
    ap (λ (z : List ℕ). T ++ z) (e ∙ ap₂ ◌++◌ b (ap₂ ◌++◌ k (ap₂ ◌++◌ u c)))
    ∙ five T (each_at block_frame 0 r.live) (each_at kind_frame 0 r.kinds) (each_at use_frames 0 r.users) (each_at caller_frames 0 r.callers)
  where
    five : (a b c d e : List ℕ) → a ++ (b ++ (c ++ (d ++ e))) ≡ a ++ b ++ c ++ d ++ e
    five a b c d e = sym (append_assoc a b (c ++ (d ++ e))) ∙ sym (append_assoc (a ++ b) c (d ++ e)) ∙ sym (append_assoc ((a ++ b) ++ c) d e)
