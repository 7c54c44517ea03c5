-- What frames give, and what gives them. Assumes nothing.
use mathlib.Core.Bool.{Bool as 𝔹, true}
use mathlib.Core.Path.{◌≡◌, refl, sym, ap, ◌∙◌, subst}
use mathlib.Core.List.{List, [], ◌∷◌, ◌++◌, append_assoc, append-nil}
use Prim.Native.Nat.{ℕ, suc, ◌≤◌, ◌<◌}
use native.Mathlib.Omega.{arith}
use lib.ListN.{length, length-append}
use borrow.Author.Tests.{eq-eqb, lt-ltb}
use Rattle.std.specs.Prelude.{Option, Some, None, option_map}
use Rattle.kinds.specs.declared.Kind.{Kind}
use Rattle.kinds.specs.Kinds.{tag_of, payload_of, kind_from, fits_of}
use Rattle.kinds.proofs.Same.{kept}
use Rattle.rules.specs.Values.{function_below}
use Rattle.rules.proofs.Wellformed.Tests.{and3_true}
use Rattle.memory.specs.Layout.{uses_most}
use Rattle.frames.specs.declared.Frame.{Frame}
use Rattle.frames.specs.declared.Frame.TheVariants as F
use Rattle.frames.specs.declared.Totals.{Totals}
use Rattle.decode.specs.Lines.{if_some, only_if, allowed}
use Rattle.decode.specs.Stored.{Stored, answer, refusal, legal_kind, Begun, nothing, begun, told_all, with_frame, told_record, read_rest}
use Rattle.decode.specs.Standing.{Climbs, Each, Sound, Under}
use Rattle.decode.proofs.Lines.{Some-same, None-Some, kept_only, LegalFrames}
use Rattle.decode.proofs.Pairs.{climbs_follows, after_each}
use Rattle.decode.proofs.Begun.{in_turn, of_live, of_kind_at, of_use_at, of_call_at, begun_frames, told_is, with_more, only_totals, totals_sound}

-- ---- from frames

-- an answer that came of one that was begun, and its frames
record Came (b : Begun) (fs : List Frame) (s : Stored) : Type 0 where
  c : Begun
  sound : Sound c
  all : told_all c ≡ true
  is : s ≡ answer (told_record c)
  frames : begun_frames c ≡ begun_frames b ++ fs

rest-back : (fs : List Frame) (b : Begun) (s : Stored) → Sound b → LegalFrames fs → read_rest (begun b) fs ≡ Some s → Came b fs s
rest-back [] b s h l e =
    let z = kept_only (told_all b) (answer (told_record b)) e in
    record { c = b; sound = h; all = z.0; is = sym z.1; frames = sym (append-nil (begun_frames b)) }
rest-back (f ∷ fs) b s h l e = go (with_frame b f) refl e (λ c g q. rest-back fs c s g l.1 q)
  where
    go : (o : Option Begun) → with_frame b f ≡ o → if_some (option_map begun o) (λ q. read_rest q fs) ≡ Some s
        → ((c : Begun) → Sound c → read_rest (begun c) fs ≡ Some s → Came c fs s) → Came b (f ∷ fs) s
    go None q r k = None-Some r
    go (Some c) q r k =
        let m = with_more b c f l.0 h q in
        let x = k c m.sound r in
        record { c = x.c; sound = x.sound; all = x.all; is = x.is; frames = x.frames ∙ ap (λ (z : List Frame). z ++ fs) m.frames ∙ append_assoc (begun_frames b) (f ∷ []) fs }

-- what legal frames that are read tell
pub data Tells (fs : List Frame) (s : Stored) : Type 0 where
  of_answer : (c : Begun) → Sound c → told_all c ≡ true → s ≡ answer (told_record c) → begun_frames c ≡ fs → Tells fs s
  of_lone : (n : ℕ) → s ≡ refusal n → fs ≡ F.Refusal n ∷ [] → Tells fs s

pub frames_back : (fs : List Frame) (s : Stored) → LegalFrames fs → read_rest nothing fs ≡ Some s → Tells fs s
frames_back [] s l e = None-Some e
frames_back (F.Totals t ∷ fs) s l e =
    let x = rest-back fs (only_totals t) s (totals_sound t l.0) l.1 e in
    of_answer x.c x.sound x.all x.is x.frames
frames_back (F.Block i t ∷ fs) s l e = None-Some e
frames_back (F.Kind i t p ∷ fs) s l e = None-Some e
frames_back (F.Use i u ∷ fs) s l e = None-Some e
frames_back (F.Caller f i ∷ fs) s l e = None-Some e
frames_back (F.Refusal n ∷ []) s l e = of_lone n (sym (Some-same e)) refl
frames_back (F.Refusal n ∷ f ∷ fs) s l e = None-Some e

-- ---- to frames

module _ {A : Type 0} (f : ℕ → A → Frame) (state : List A → Begun) (P : List A → Type 0)
    (step : (l : List A) (x : A) (m : List A) → P (l ++ x ∷ m) → with_frame (state l) (f (length l) x) ≡ Some (state (l ++ x ∷ []))) where
  turn-there : (m l : List A) (fs : List Frame) → P (l ++ m) → read_rest (begun (state l)) (in_turn f (length l) m ++ fs) ≡ read_rest (begun (state (l ++ m))) fs
  turn-there [] l fs h = rw (append-nil l) refl
  turn-there (x ∷ m) l fs h =
      let a : (l ++ x ∷ []) ++ m ≡ l ++ x ∷ m = append_assoc l (x ∷ []) m in
      let n : length (l ++ x ∷ []) ≡ suc (length l) = rw length-append (omega arith) in
      let r = turn-there m (l ++ x ∷ []) fs (subst P (sym a) h) in
      rw (step l x m h) (subst (λ (k : ℕ). read_rest (begun (state (l ++ x ∷ []))) (in_turn f k m ++ fs) ≡ read_rest (begun (state (l ++ x ∷ m))) fs) n
      (subst (λ (z : List A). read_rest (begun (state (l ++ x ∷ []))) (in_turn f (length (l ++ x ∷ [])) m ++ fs) ≡ read_rest (begun (state z)) fs) a r))

shorter : {A : Type 0} (l : List A) (x : A) (m : List A) (n : ℕ) → length (l ++ x ∷ m) ≤ n → length l < n
shorter l x m n h = omega (arith, length-append l (x ∷ m))

module _ (c : Begun) (h : Sound c) (all : told_all c ≡ true) where
  abbrev T : Totals
  T = c.totals

  is : (length c.live ≡ T.blocks) × (length c.kinds ≡ T.instructions)
  is = told_is c all

  abbrev lives : List 𝔹 → Begun
  lives l = record { totals = T; live = l; kinds = []; uses = []; calls = [] }

  abbrev kinds : List Kind → Begun
  kinds l = record { totals = T; live = c.live; kinds = l; uses = []; calls = [] }

  abbrev uses : List (ℕ × ℕ) → Begun
  uses l = record { totals = T; live = c.live; kinds = c.kinds; uses = l; calls = [] }

  abbrev calls : List (ℕ × ℕ) → Begun
  calls l = record { totals = T; live = c.live; kinds = c.kinds; uses = c.uses; calls = l }

  live-step : (l : List 𝔹) (x : 𝔹) (m : List 𝔹) → length (l ++ x ∷ m) ≤ T.blocks → with_frame (lives l) (of_live (length l) x) ≡ Some (lives (l ++ x ∷ []))
  unfolding with_frame
  live-step l x m p = rw (eq-eqb (length l) (length l) refl, lt-ltb (length l) T.blocks (shorter l x m T.blocks p)) refl

  abbrev GoodKinds : List Kind → Type 0
  GoodKinds l = (length l ≤ T.instructions) × Each (λ k. legal_kind T.functions k ≡ true) l

  kind-step : (l : List Kind) (x : Kind) (m : List Kind) → GoodKinds (l ++ x ∷ m) → with_frame (kinds l) (of_kind_at (length l) x) ≡ Some (kinds (l ++ x ∷ []))
  unfolding with_frame
  kind-step l x m p =
      let g = (after_each (λ k. legal_kind T.functions k ≡ true) l (x ∷ m) p.1).0 in
      let a = and3_true (fits_of x) (allowed (tag_of x) (payload_of x)) (function_below T.functions x) g in
      let k : kind_from (tag_of x) (payload_of x) ≡ x = kept x a.0 in
      rw (k, eq-eqb (length c.live) T.blocks is.0, eq-eqb (length l) (length l) refl, lt-ltb (length l) T.instructions (shorter l x m T.instructions p.0), a.2) refl

  abbrev GoodUses : List (ℕ × ℕ) → Type 0
  GoodUses l = Climbs 0 0 l × Under T.instructions T.instructions l × (length l ≤ uses_most)

  use-step : (l : List (ℕ × ℕ)) (x : ℕ × ℕ) (m : List (ℕ × ℕ)) → GoodUses (l ++ x ∷ m) → with_frame (uses l) (of_use_at (length l) x) ≡ Some (uses (l ++ x ∷ []))
  unfolding with_frame
  use-step l x m p =
      let u = (after_each (λ q. (q.0 < T.instructions) × (q.1 < T.instructions)) l (x ∷ m) p.1).0 in
      rw (
        eq-eqb (length c.live) T.blocks is.0,
        eq-eqb (length c.kinds) T.instructions is.1,
        climbs_follows 0 0 l x m p.0,
        lt-ltb x.0 T.instructions u.0,
        lt-ltb x.1 T.instructions u.1,
        lt-ltb (length l) uses_most (shorter l x m uses_most p.2),
      )
      refl

  abbrev GoodCalls : List (ℕ × ℕ) → Type 0
  GoodCalls l = Climbs 0 0 l × Under T.functions T.instructions l

  call-step : (l : List (ℕ × ℕ)) (x : ℕ × ℕ) (m : List (ℕ × ℕ)) → GoodCalls (l ++ x ∷ m) → with_frame (calls l) (of_call_at (length l) x) ≡ Some (calls (l ++ x ∷ []))
  unfolding with_frame
  call-step l x m p =
      let u = (after_each (λ q. (q.0 < T.functions) × (q.1 < T.instructions)) l (x ∷ m) p.1).0 in
      rw (
        eq-eqb (length c.live) T.blocks is.0,
        eq-eqb (length c.kinds) T.instructions is.1,
        climbs_follows 0 0 l x m p.0,
        lt-ltb x.0 T.functions u.0,
        lt-ltb x.1 T.instructions u.1,
      )
      refl

  -- an answer is read from its frames
  pub frames_there : read_rest nothing (begun_frames c) ≡ Some (answer (told_record c))
  frames_there =
      let U = in_turn of_use_at 0 c.uses in
      let C = in_turn of_call_at 0 c.calls in
      let K = in_turn of_kind_at 0 c.kinds in
      let e : in_turn of_call_at 0 c.calls ++ [] ≡ C = append-nil C in
      turn-there of_live lives (λ l. length l ≤ T.blocks) live-step c.live [] (K ++ (U ++ C)) (omega (arith, is.0))
      ∙ turn-there of_kind_at kinds GoodKinds kind-step c.kinds [] (U ++ C) (omega (arith, is.1), h.kinds)
      ∙ turn-there of_use_at uses GoodUses use-step c.uses [] C (h.uses_rise, h.uses_under, h.uses_few)
      ∙ ap (read_rest (begun (calls []))) (sym e)
      ∙ turn-there of_call_at calls GoodCalls call-step c.calls [] [] (h.calls_rise, h.calls_under)
      ∙ ap (λ (t : 𝔹). only_if t (answer (told_record c))) all
