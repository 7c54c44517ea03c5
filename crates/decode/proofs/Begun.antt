-- An answer of which frames were read: what holds of it, and how one more frame goes on. Assumes nothing.
use mathlib.Core.Bool.{Bool as 𝔹, true, ◌&&◌}
use mathlib.Core.Logic.{◌⊎◌, inl, inr}
use mathlib.Core.Path.{◌≡◌, refl, sym, ap, ◌∙◌, subst}
use mathlib.Core.List.{List, [], ◌∷◌, ◌++◌, append_assoc, append-nil}
use Prim.Native.Nat.{ℕ, suc, ◌+◌, ◌^◌, ◌<◌}
use native.Mathlib.Omega.{arith}
use lib.Dec.{eqb, ltb}
use lib.ListN.{length, length-append}
use borrow.Author.Tests.{eqb-true, ltb-true}
use Rattle.std.specs.Prelude.{Some}
use Rattle.kinds.specs.declared.Kind.{Kind}
use Rattle.kinds.specs.Kinds.{tag_of, payload_of, kind_from}
use Rattle.kinds.proofs.Same.{from-fits}
use Rattle.rules.specs.Values.{function_below}
use Rattle.rules.specs.Sorts.{of_kind}
use Rattle.rules.proofs.Wellformed.Tests.{and-true, true-and}
use Rattle.memory.specs.Layout.{instructions_most, uses_most}
use Rattle.frames.specs.declared.Frame.{Frame}
use Rattle.frames.specs.declared.Frame.TheVariants as F
use Rattle.frames.specs.declared.Totals.{Totals}
use Rattle.decode.specs.Lines.{number_limits, allowed, all_below, legal_numbers}
use Rattle.decode.specs.Stored.{legal_kind, Begun, pair_follows, told_all, with_frame}
use Rattle.decode.specs.Standing.{Sound, legal_frame}
use Rattle.decode.proofs.Lines.{None-Some, kept_only, each-append}
use Rattle.decode.proofs.Payloads.{kind_back}
use Rattle.decode.proofs.Pairs.{climbs-more}

-- ---- its frames

module _ {A : Type 0} (f : ℕ → A → Frame) where
  abbrev pub in_turn : ℕ → List A → List Frame
  in_turn k [] = []
  in_turn k (x ∷ l) = f k x ∷ in_turn (suc k) l

  pub turn_more : (k : ℕ) (l : List A) (x : A) → in_turn k (l ++ x ∷ []) ≡ in_turn k l ++ f (k + length l) x ∷ []
  turn_more k [] x = let e : k + 0 ≡ k = omega arith in rw e refl
  turn_more k (y ∷ l) x = let e : k + suc (length l) ≡ suc k + length l = omega arith in rw e (ap (λ (z : List Frame). f k y ∷ z) (turn_more (suc k) l x))

abbrev pub of_live : ℕ → 𝔹 → Frame
of_live b t = F.Block (record { 0 = b }) t

abbrev pub of_kind_at : ℕ → Kind → Frame
of_kind_at i k = F.Kind (record { 0 = i }) (tag_of k) (payload_of k)

abbrev pub of_use_at : ℕ → ℕ × ℕ → Frame
of_use_at j p = F.Use (record { 0 = p.0 }) (record { 0 = p.1 })

abbrev pub of_call_at : ℕ → ℕ × ℕ → Frame
of_call_at j p = F.Caller (record { 0 = p.0 }) (record { 0 = p.1 })

abbrev pub begun_frames : Begun → List Frame
begun_frames b = F.Totals b.totals ∷ (in_turn of_live 0 b.live ++ (in_turn of_kind_at 0 b.kinds ++ (in_turn of_use_at 0 b.uses ++ in_turn of_call_at 0 b.calls)))

-- ---- what holds of it

pub told_is : (b : Begun) → told_all b ≡ true → (length b.live ≡ b.totals.blocks) × (length b.kinds ≡ b.totals.instructions)
told_is b h = let z = and-true (eqb (length b.live) b.totals.blocks) (eqb (length b.kinds) b.totals.instructions) h in
    (eqb-true (length b.live) b.totals.blocks z.0, eqb-true (length b.kinds) b.totals.instructions z.1)

-- the numbers of a legal frame of a kind
pub kind_numbers : (i t p : ℕ) → legal_numbers of_kind (i ∷ t ∷ p ∷ []) ≡ true → (i < instructions_most) × (allowed t p ≡ true) × (p < 2 ^ 64)
unfolding legal_numbers
kind_numbers i t p h =
    let a = and-true (all_below (i ∷ t ∷ p ∷ []) (number_limits of_kind)) (allowed t p) h in
    let b = and-true (ltb i instructions_most) (all_below (t ∷ p ∷ []) (10 ∷ 2 ^ 64 ∷ [])) a.0 in
    let c = and-true (ltb t 10) (all_below (p ∷ []) (2 ^ 64 ∷ [])) b.1 in
    (ltb-true i instructions_most b.0, a.1, ltb-true p (2 ^ 64) (and-true (ltb p (2 ^ 64)) true c.1).0)

-- and its kind, if that names no function that there isn't
pub kind_legal : (functions i t p : ℕ) → legal_numbers of_kind (i ∷ t ∷ p ∷ []) ≡ true → function_below functions (kind_from t p) ≡ true
    → (legal_kind functions (kind_from t p) ≡ true) × (tag_of (kind_from t p) ≡ t) × (payload_of (kind_from t p) ≡ p)
kind_legal functions i t p h n =
    let a = kind_numbers i t p h in
    let k = kind_back t p a.1 a.2 in
    (true-and (true-and (from-fits t p a.2) (rw (k.0, k.1) a.1)) n, k.0, k.1)

-- ---- one more frame

-- an answer with a frame more: what holds goes on, and the frame stands behind the others
pub record More (b : Begun) (f : Frame) (c : Begun) : Type 0 where
  pub sound : Sound c
  pub frames : begun_frames c ≡ begun_frames b ++ f ∷ []

module _ {A : Type 0} where
  end_two : (a b x : List A) → a ++ ((b ++ x) ++ []) ≡ (a ++ (b ++ [])) ++ x
  end_two a b x = ap (λ (z : List A). a ++ z) (append-nil (b ++ x)) ∙ sym (append_assoc a b x) ∙ ap (λ (z : List A). (a ++ z) ++ x) (sym (append-nil b))

  end_last : (a b c x : List A) → a ++ (b ++ (c ++ x)) ≡ (a ++ (b ++ c)) ++ x
  end_last a b c x = ap (λ (z : List A). a ++ z) (sym (append_assoc b c x)) ∙ sym (append_assoc a (b ++ c) x)

  end_three : (a b c x : List A) → a ++ (b ++ ((c ++ x) ++ [])) ≡ (a ++ (b ++ (c ++ []))) ++ x
  end_three a b c x = ap (λ (z : List A). a ++ (b ++ z)) (append-nil (c ++ x)) ∙ end_last a b c x ∙ ap (λ (z : List A). (a ++ (b ++ z)) ++ x) (sym (append-nil c))

  end_four : (a b c d x : List A) → a ++ (b ++ (c ++ (d ++ x))) ≡ (a ++ (b ++ (c ++ d))) ++ x
  end_four a b c d x = ap (λ (z : List A). a ++ z) (end_last b c d x) ∙ sym (append_assoc a (b ++ (c ++ d)) x)

no_pairs : (b : Begun) → Sound b → (told_all b ≡ true → ⊥) → (b.uses ≡ []) × (b.calls ≡ [])
no_pairs b h n = go h.pairs_late
  where
    go : ((b.uses ≡ []) × (b.calls ≡ [])) ⊎ (told_all b ≡ true) → (b.uses ≡ []) × (b.calls ≡ [])
    go (inl e) = e
    go (inr e) = absurd (n e)

no_kinds : (b : Begun) → Sound b → length b.live < b.totals.blocks → b.kinds ≡ []
no_kinds b h lt = go h.kinds_late
  where
    go : (b.kinds ≡ []) ⊎ (length b.live ≡ b.totals.blocks) → b.kinds ≡ []
    go (inl e) = e
    go (inr e) = absurd (omega arith)

pub with_live : (b : Begun) (t : 𝔹) → Sound b → length b.live < b.totals.blocks → More b (of_live (length b.live) t) (record b { live = b.live ++ t ∷ [] })
with_live b t h lt =
    let k = no_kinds b h lt in
    let p = no_pairs b h (λ e. omega (arith, (told_is b e).0)) in
    let z : 0 + length b.live ≡ length b.live = omega arith in
    record {
      sound = record {
        totals = h.totals;
        live_few = rw length-append (omega arith);
        kinds_few = h.kinds_few;
        kinds_late = inl k;
        pairs_late = inl p;
        kinds = h.kinds;
        uses_rise = h.uses_rise;
        uses_under = h.uses_under;
        uses_few = h.uses_few;
        calls_rise = h.calls_rise;
        calls_under = h.calls_under;
      };
      frames = rw (k, p.0, p.1)
          (ap (λ (l : List Frame). F.Totals b.totals ∷ l)
          (append-nil (in_turn of_live 0 (b.live ++ t ∷ []))
          ∙ turn_more of_live 0 b.live t
          ∙ rw z (ap (λ (l : List Frame). l ++ of_live (length b.live) t ∷ []) (sym (append-nil (in_turn of_live 0 b.live))))));
    }

pub with_kind : (b : Begun) (k : Kind) → Sound b → length b.live ≡ b.totals.blocks → length b.kinds < b.totals.instructions → legal_kind b.totals.functions k ≡ true
    → More b (of_kind_at (length b.kinds) k) (record b { kinds = b.kinds ++ k ∷ [] })
with_kind b k h e lt g =
    let p = no_pairs b h (λ q. omega (arith, (told_is b q).1)) in
    let z : 0 + length b.kinds ≡ length b.kinds = omega arith in
    let s : in_turn of_kind_at 0 (b.kinds ++ k ∷ []) ≡ in_turn of_kind_at 0 b.kinds ++ of_kind_at (length b.kinds) k ∷ [] = turn_more of_kind_at 0 b.kinds k ∙ rw z refl in
    record {
      sound = record {
        totals = h.totals;
        live_few = h.live_few;
        kinds_few = rw length-append (omega arith);
        kinds_late = inr e;
        pairs_late = inl p;
        kinds = each-append (λ x. legal_kind b.totals.functions x ≡ true) b.kinds (k ∷ []) h.kinds (g, tt);
        uses_rise = h.uses_rise;
        uses_under = h.uses_under;
        uses_few = h.uses_few;
        calls_rise = h.calls_rise;
        calls_under = h.calls_under;
      };
      frames = rw (p.0, p.1, s) (ap (λ (l : List Frame). F.Totals b.totals ∷ l) (end_two (in_turn of_live 0 b.live) (in_turn of_kind_at 0 b.kinds) (of_kind_at (length b.kinds) k ∷ [])));
    }

pub with_use : (b : Begun) (p : ℕ × ℕ) → Sound b → told_all b ≡ true → b.calls ≡ [] → pair_follows b.uses p ≡ true → p.0 < b.totals.instructions → p.1 < b.totals.instructions
    → length b.uses < uses_most → More b (of_use_at 0 p) (record b { uses = b.uses ++ p ∷ [] })
with_use b p h e n f l m few =
    record {
      sound = record {
        totals = h.totals;
        live_few = h.live_few;
        kinds_few = h.kinds_few;
        kinds_late = h.kinds_late;
        pairs_late = inr e;
        kinds = h.kinds;
        uses_rise = climbs-more b.uses p h.uses_rise f;
        uses_under = each-append (λ q. (q.0 < b.totals.instructions) × (q.1 < b.totals.instructions)) b.uses (p ∷ []) h.uses_under ((l, m), tt);
        uses_few = rw length-append (omega arith);
        calls_rise = h.calls_rise;
        calls_under = h.calls_under;
      };
      frames = rw (n, turn_more of_use_at 0 b.uses p)
          (ap (λ (l : List Frame). F.Totals b.totals ∷ l) (end_three (in_turn of_live 0 b.live) (in_turn of_kind_at 0 b.kinds) (in_turn of_use_at 0 b.uses) (of_use_at 0 p ∷ [])));
    }

pub with_call : (b : Begun) (p : ℕ × ℕ) → Sound b → told_all b ≡ true → pair_follows b.calls p ≡ true → p.0 < b.totals.functions → p.1 < b.totals.instructions
    → More b (of_call_at 0 p) (record b { calls = b.calls ++ p ∷ [] })
with_call b p h e f l m =
    record {
      sound = record {
        totals = h.totals;
        live_few = h.live_few;
        kinds_few = h.kinds_few;
        kinds_late = h.kinds_late;
        pairs_late = inr e;
        kinds = h.kinds;
        uses_rise = h.uses_rise;
        uses_under = h.uses_under;
        uses_few = h.uses_few;
        calls_rise = climbs-more b.calls p h.calls_rise f;
        calls_under = each-append (λ q. (q.0 < b.totals.functions) × (q.1 < b.totals.instructions)) b.calls (p ∷ []) h.calls_under ((l, m), tt);
      };
      frames = rw (turn_more of_call_at 0 b.calls p)
          (ap (λ (l : List Frame). F.Totals b.totals ∷ l)
          (end_four (in_turn of_live 0 b.live) (in_turn of_kind_at 0 b.kinds) (in_turn of_use_at 0 b.uses) (in_turn of_call_at 0 b.calls) (of_call_at 0 p ∷ [])));
    }

-- what a frame that may be next gives
more_case : (b c d : Begun) (f g : Frame) → f ≡ g → d ≡ c → More b f d → More b g c
more_case b c d f g e q m = subst (λ (x : Begun). More b g x) q (subst (λ (x : Frame). More b x d) e m)

pub with_more : (b c : Begun) (f : Frame) → legal_frame f ≡ true → Sound b → with_frame b f ≡ Some c → More b f c
unfolding with_frame
with_more b c (F.Totals t) l h e = None-Some e
with_more b c (F.Refusal n) l h e = None-Some e
with_more b c (F.Block i t) l h e =
    let z = kept_only (eqb i.0 (length b.live) && ltb i.0 b.totals.blocks) (record b { live = b.live ++ t ∷ [] }) e in
    let y = and-true (eqb i.0 (length b.live)) (ltb i.0 b.totals.blocks) z.0 in
    let p = eqb-true i.0 (length b.live) y.0 in
    let q = ltb-true i.0 b.totals.blocks y.1 in
    more_case b c (record b { live = b.live ++ t ∷ [] }) (of_live (length b.live) t) (F.Block i t) (ap (λ (n : ℕ). of_live n t) (sym p)) z.1 (with_live b t h (omega arith))
with_more b c (F.Kind i t x) l h e =
    let k = kind_from t x in
    let A = eqb (length b.live) b.totals.blocks in
    let B = eqb i.0 (length b.kinds) in
    let C = ltb i.0 b.totals.instructions in
    let z = kept_only (A && B && C && function_below b.totals.functions k) (record b { kinds = b.kinds ++ k ∷ [] }) e in
    let y = and-true (A && B && C) (function_below b.totals.functions k) z.0 in
    let w = and-true (A && B) C y.0 in
    let v = and-true A B w.0 in
    let p = eqb-true i.0 (length b.kinds) v.1 in
    let q = ltb-true i.0 b.totals.instructions w.1 in
    let g = kind_legal b.totals.functions i.0 t x l y.1 in
    more_case b c (record b { kinds = b.kinds ++ k ∷ [] }) (of_kind_at (length b.kinds) k) (F.Kind i t x)
    (rw (← p, g.1, g.2) refl) z.1 (with_kind b k h (eqb-true (length b.live) b.totals.blocks v.0) (omega arith) g.0)
with_more b c (F.Use i u) l h e =
    let A = told_all b in
    let B = eqb (length b.calls) 0 in
    let C = pair_follows b.uses (i.0, u.0) in
    let D = ltb i.0 b.totals.instructions in
    let E = ltb u.0 b.totals.instructions in
    let G = ltb (length b.uses) uses_most in
    let z = kept_only (A && B && C && D && E && G) (record b { uses = b.uses ++ (i.0, u.0) ∷ [] }) e in
    let y = and-true (A && B && C && D && E) G z.0 in
    let x = and-true (A && B && C && D) E y.0 in
    let w = and-true (A && B && C) D x.0 in
    let v = and-true (A && B) C w.0 in
    let t = and-true A B v.0 in
    more_case b c (record b { uses = b.uses ++ (i.0, u.0) ∷ [] }) (of_use_at 0 (i.0, u.0)) (F.Use i u) refl z.1
    (with_use b (i.0, u.0) h t.0 (none b.calls (eqb-true (length b.calls) 0 t.1)) v.1 (ltb-true i.0 b.totals.instructions w.1)
    (ltb-true u.0 b.totals.instructions x.1) (ltb-true (length b.uses) uses_most y.1))
  where
    none : {A : Type 0} (l : List A) → length l ≡ 0 → l ≡ []
    none [] q = refl
    none (x ∷ l) q = absurd (omega arith)
with_more b c (F.Caller f i) l h e =
    let A = told_all b in
    let C = pair_follows b.calls (f.0, i.0) in
    let D = ltb f.0 b.totals.functions in
    let E = ltb i.0 b.totals.instructions in
    let z = kept_only (A && C && D && E) (record b { calls = b.calls ++ (f.0, i.0) ∷ [] }) e in
    let x = and-true (A && C && D) E z.0 in
    let w = and-true (A && C) D x.0 in
    let v = and-true A C w.0 in
    more_case b c (record b { calls = b.calls ++ (f.0, i.0) ∷ [] }) (of_call_at 0 (f.0, i.0)) (F.Caller f i) refl z.1
    (with_call b (f.0, i.0) h v.0 v.1 (ltb-true f.0 b.totals.functions w.1) (ltb-true i.0 b.totals.instructions x.1))

-- an answer of which the totals were read
abbrev pub only_totals : Totals → Begun
only_totals t = record { totals = t; live = []; kinds = []; uses = []; calls = [] }

pub totals_sound : (t : Totals) → legal_frame (F.Totals t) ≡ true → Sound (only_totals t)
totals_sound t h = record {
  totals = h;
  live_few = omega arith;
  kinds_few = omega arith;
  kinds_late = inl refl;
  pairs_late = inl (refl, refl);
  kinds = tt;
  uses_rise = tt;
  uses_under = tt;
  uses_few = omega arith;
  calls_rise = tt;
  calls_under = tt;
}
