-- A frame that the code takes. Assumes nothing.
use mathlib.Core.Bool.{Bool as 𝔹, true, false, not, ◌&&◌, ◌||◌}
use mathlib.Core.Path.{◌≡◌, refl, sym, ap, ap₂, ◌∙◌}
use mathlib.Core.List.{List, [], ◌∷◌, ◌++◌}
use Prim.Native.Nat.{ℕ, suc, ◌+◌, ◌*◌, ◌/◌, ◌%◌, ◌^◌, ◌≤◌, ◌<◌}
use native.Mathlib.Decide.{dec_lt}
use native.Mathlib.Omega.{arith}
use native.Mathlib.Nat.{mod-eq_of_lt}
use mathlib.Core.Logic.{◌⊎◌, inl, inr}
use lib.Dec.{eqb, ltb}
use lib.ListN.{length, get_or, set, length-append}
use borrow.Author.Tests.{eq-eqb, ne_eqb, lt-ltb, eqb-true, ltb-true}
use Rattle.std.specs.Prelude.{Some, None}
use Rattle.ids.specs.declared.BlockId.{BlockId}
use Rattle.ids.specs.declared.InsnId.{InsnId}
use Rattle.ids.specs.declared.FunId.{FunId}
use Rattle.rules.specs.Values.{function_below}
use Rattle.kinds.specs.Kinds.{bit_of, kind_from}
use Rattle.rules.proofs.Wellformed.Tests.{and-true, or_true_lem}
use Rattle.answer.specs.Layout.{live_at, tags_at, payloads_at, starts_at, users_at, callers_at}
use Rattle.memory.specs.Layout.{instructions_most, uses_most, row_words}
use Rattle.frames.specs.declared.Frame.TheVariants as F
use Rattle.decode.specs.declared.Partial.{Partial}
use Rattle.decode.specs.Lines.{only_if}
use Rattle.kinds.specs.declared.Kind.{Kind}
use Rattle.frames.specs.declared.Totals.{Totals}
use Rattle.decode.specs.Stored.{Begun, pair_before, pair_follows, told_all, next_block, next_kind, next_use, next_caller, with_frame}
use Rattle.decode.specs.Standing.{legal_frame, begun_image}
use Rattle.decode.specs.Taking.{Stands}
use Rattle.decode.proofs.Payloads.{names_told}
use Rattle.decode.proofs.Begun.{with_live, with_kind, with_use, with_call, told_is, kind_legal, kind_numbers}
use Rattle.decode.proofs.Rows.{firsts_to, fresh}
use Rattle.decode.proofs.Resume.{follows_last}
use Rattle.decode.proofs.Records.{totals-within, each_change}
use Rattle.decode.proofs.Tables.{Roomy, begun_roomy, live_stored, kind_stored, start_stored, use_stored, call_stored, call_fits}

module _ {x : Begun} {s : Partial} {m : List ℕ} (h : Stands x s m) (b : BlockId) (t : 𝔹) where
  pub block_taken : {i v : ℕ} → i ≡ b.0 → v ≡ bit_of t → i ≡ s.live → i < s.totals.blocks
      → (y : Begun) × (with_frame x (F.Block b t) ≡ Some y) × Stands y (record s { live = s.live + 1 }) (set m (live_at + i) v)
  unfolding with_frame
  block_taken {i} {v} u w' e' lt' =
      let e : b.0 ≡ s.live = sym u ∙ e' in
      let lt : b.0 < s.totals.blocks = omega (arith, u) in
      let y : Begun = record x { live = x.live ++ t ∷ [] } in
      let q : b.0 ≡ length x.live = e ∙ sym h.live in
      let l : b.0 < x.totals.blocks = rw (h.totals) lt in
      let w = (totals-within x.totals h.sound.totals).blocks in
      let g = live_stored s.row x (begun_roomy s.row x h.sound h.row) t (omega (arith, w)) in (
        y,
        rw (eq-eqb b.0 (length x.live) q, lt-ltb b.0 x.totals.blocks l) refl,
        record {
          sound = (with_live x t h.sound (omega arith)).sound;
          totals = h.totals;
          live = length-append x.live (t ∷ []) ∙ omega (arith, h.live);
          kinds = h.kinds;
          uses = h.uses;
          firsts = h.firsts;
          above = h.above;
          calls = h.calls;
          calls_above = h.calls_above;
          row = h.row;
          is = ap (λ (k : ℕ). set m (live_at + k) v) (u ∙ q) ∙ ap (set m (live_at + length x.live)) w' ∙ ap (λ (z : List ℕ). set z (live_at + length x.live) (bit_of t)) h.is ∙ sym g;
        },
      )

  pub block_missed : (b.0 ≡ s.live → b.0 < s.totals.blocks → ⊥) → with_frame x (F.Block b t) ≡ None
  unfolding with_frame
  block_missed n = go (next_block x b.0) refl
    where
      go : (z : 𝔹) → next_block x b.0 ≡ z → only_if z (record x { live = x.live ++ t ∷ [] }) ≡ None
      go false e = refl
      go true e =
          let a = and-true (eqb b.0 (length x.live)) (ltb b.0 x.totals.blocks) e in
          absurd (n (eqb-true b.0 (length x.live) a.0 ∙ h.live) (rw (← h.totals) (ltb-true b.0 x.totals.blocks a.1)))

module _ {x : Begun} {s : Partial} {m : List ℕ} (h : Stands x s m) (i : InsnId) (t p : ℕ) (legal : legal_frame (F.Kind i t p) ≡ true) where
  named : (t ≡ 4 → p < s.totals.functions) → function_below x.totals.functions (kind_from t p) ≡ true
  named n =
      let k = kind_numbers i.0 t p legal in
      names_told x.totals.functions t p k.1 ∙ go (eqb t 4) refl
    where
      go : (b : 𝔹) → eqb t 4 ≡ b → not b || ltb p x.totals.functions ≡ true
      go false e = refl
      go true e = let l = n (eqb-true t 4 e) in rw (lt-ltb p x.totals.functions (rw (h.totals) l)) refl

  pub kind_taken : {j : ℕ} → j ≡ i.0 → s.live ≡ s.totals.blocks → j ≡ s.kinds → j < s.totals.instructions → (t ≡ 4 → p < s.totals.functions)
      → (y : Begun) × (with_frame x (F.Kind i t p) ≡ Some y)
      × Stands y (record s { kinds = s.kinds + 1 }) (set (set m (tags_at + j) t) (payloads_at + j) p)
  unfolding with_frame
  kind_taken {j} u full e lt n =
      let k = kind_from t p in
      let y : Begun = record x { kinds = x.kinds ++ k ∷ [] } in
      let q : i.0 ≡ length x.kinds = sym u ∙ e ∙ sym h.kinds in
      let l : i.0 < x.totals.instructions = rw (h.totals) (omega (arith, u)) in
      let f : length x.live ≡ x.totals.blocks = rw (h.totals) (h.live ∙ full) in
      let nm = named n in
      let g = kind_legal x.totals.functions i.0 t p legal nm in
      let w = (totals-within x.totals h.sound.totals).instructions in
      let st = kind_stored s.row x (begun_roomy s.row x h.sound h.row) k (omega arith) in (
        y,
        rw (eq-eqb (length x.live) x.totals.blocks f, eq-eqb i.0 (length x.kinds) q, lt-ltb i.0 x.totals.instructions l, nm) refl,
        record {
          sound = (with_kind x k h.sound f (omega arith) g.0).sound;
          totals = h.totals;
          live = h.live;
          kinds = length-append x.kinds (k ∷ []) ∙ omega (arith, h.kinds);
          uses = h.uses;
          firsts = h.firsts;
          above = h.above;
          calls = h.calls;
          calls_above = h.calls_above;
          row = h.row;
          is = ap (λ (z : ℕ). set (set m (tags_at + z) t) (payloads_at + z) p) (u ∙ q)
              ∙ ap (λ (z : List ℕ). set (set z (tags_at + length x.kinds) t) (payloads_at + length x.kinds) p) h.is
              ∙ ap₂ (λ (a c : ℕ). set (set (begun_image s.row x) (tags_at + length x.kinds) a) (payloads_at + length x.kinds) c) (sym g.1) (sym g.2)
              ∙ sym st;
        },
      )

pub starts_more : {x : Begun} {s : Partial} {m a : List ℕ} {k : ℕ} → Stands x s m → s.row ≤ k → k + 1 ≤ instructions_most → a ≡ begun_image k x
    → set a (starts_at + k + 1) s.uses ≡ begun_image (k + 1) x
starts_more {x} {s} {m} {a} {k} h le room e =
    let r = begun_roomy s.row x h.sound h.row in
    let q : Roomy k x = record { functions = r.functions; instructions = r.instructions; live = r.live; kinds = r.kinds; starts = omega arith; uses = r.uses } in
    let f = each_change (λ p. p.0 < suc s.row) (λ p. p.0 < suc k) x.uses (λ p l. omega (arith, l)) h.firsts in
    let z : starts_at + k + 1 ≡ starts_at + suc k = omega arith in
    let y : k + 1 ≡ suc k = omega arith in
    rw (z, y) (ap₂ (λ (l : List ℕ) (n : ℕ). set l (starts_at + suc k) n) e (sym h.uses) ∙ sym (start_stored k x q (omega arith) f))

module _ {x : Begun} {s : Partial} {m : List ℕ} (h : Stands x s m) (i : InsnId) (t p : ℕ) (legal : legal_frame (F.Kind i t p) ≡ true) where
  pub kind_missed : (s.live ≡ s.totals.blocks → i.0 ≡ s.kinds → i.0 < s.totals.instructions → (t ≡ 4 → p < s.totals.functions) → ⊥) → with_frame x (F.Kind i t p) ≡ None
  unfolding with_frame
  kind_missed n = go (next_kind x i.0 k) refl
    where
      k : Kind
      k = kind_from t p

      go : (z : 𝔹) → next_kind x i.0 k ≡ z → only_if z (record x { kinds = x.kinds ++ k ∷ [] }) ≡ None
      go false e = refl
      go true e =
          let A = eqb (length x.live) x.totals.blocks in
          let B = eqb i.0 (length x.kinds) in
          let C = ltb i.0 x.totals.instructions in
          let y = and-true (A && B && C) (function_below x.totals.functions k) e in
          let w = and-true (A && B) C y.0 in
          let v = and-true A B w.0 in
          let l : i.0 < s.totals.instructions = rw (← h.totals) (ltb-true i.0 x.totals.instructions w.1) in
          let f : s.live ≡ s.totals.blocks = sym h.live ∙ eqb-true (length x.live) x.totals.blocks v.0 ∙ ap (λ (z : Totals). z.blocks) h.totals in
          absurd (n f (eqb-true i.0 (length x.kinds) v.1 ∙ h.kinds) l (λ q. name q y.1))
        where
          name : t ≡ 4 → function_below x.totals.functions (kind_from t p) ≡ true → p < s.totals.functions
          name q z =
              let g = kind_numbers i.0 t p legal in
              let a : not (eqb t 4) || ltb p x.totals.functions ≡ true = sym (names_told x.totals.functions t p g.1) ∙ z in
              let b : ltb p x.totals.functions ≡ true = rw (eq-eqb t 4 q) at a in
              rw (← h.totals) (ltb-true p x.totals.functions b)

module _ {x : Begun} {s : Partial} {m : List ℕ} (h : Stands x s m) (i u : InsnId) where
  abbrev higher : 𝔹
  higher = ltb s.row i.0 || (eqb s.row i.0 && (eqb s.uses 0 || ltb s.user u.0))

  pub user_taken : {j v : ℕ} {a : List ℕ} → j ≡ i.0 → v ≡ u.0 → s.live ≡ s.totals.blocks → s.kinds ≡ s.totals.instructions → s.calls ≡ 0 → higher ≡ true
      → j < s.totals.instructions → v < s.totals.instructions → s.uses < uses_most → a ≡ begun_image j x
      → (y : Begun) × (with_frame x (F.Use i u) ≡ Some y) × Stands y (record s { uses = s.uses + 1; row = j; user = v }) (set a (users_at + s.uses) v)
  unfolding with_frame
  user_taken {j} {v} {a} ej ev full kinds none high lj lv room image =
      let p : ℕ × ℕ = (i.0, u.0) in
      let y : Begun = record x { uses = x.uses ++ p ∷ [] } in
      let f : length x.live ≡ x.totals.blocks = rw (h.totals) (h.live ∙ full) in
      let k : length x.kinds ≡ x.totals.instructions = rw (h.totals) (h.kinds ∙ kinds) in
      let c : length x.calls ≡ 0 = h.calls ∙ none in
      let follows : pair_follows x.uses p ≡ true = h.above p ∙ high in
      let li : i.0 < x.totals.instructions = rw (h.totals) (omega (arith, ej)) in
      let lu : u.0 < x.totals.instructions = rw (h.totals) (omega (arith, ev)) in
      let all : told_all x ≡ true = rw (eq-eqb (length x.live) x.totals.blocks f, eq-eqb (length x.kinds) x.totals.instructions k) refl in
      let sound = (with_use x p h.sound all (empty x.calls c) follows li lu (omega (arith, h.uses))).sound in
      let r = begun_roomy i.0 x h.sound (omega (arith, li)) in
      let st = use_stored i.0 x r p refl (omega (arith, h.uses)) in (
        y,
        rw (
          eq-eqb (length x.live) x.totals.blocks f,
          eq-eqb (length x.kinds) x.totals.instructions k,
          eq-eqb (length x.calls) 0 c,
          follows,
          lt-ltb i.0 x.totals.instructions li,
          lt-ltb u.0 x.totals.instructions lu,
          lt-ltb (length x.uses) uses_most (omega (arith, h.uses)),
        )
            refl,
        record {
          sound = sound;
          totals = h.totals;
          live = h.live;
          kinds = h.kinds;
          uses = length-append x.uses (p ∷ []) ∙ omega (arith, h.uses);
          firsts = rw ej (firsts_to 0 0 x.uses p sound.uses_rise).1;
          above = λ q. follows_last x.uses p q ∙ rw (ej, ev, ne_eqb (s.uses + 1) 0 (λ z. omega arith)) refl;
          calls = h.calls;
          calls_above = h.calls_above;
          row = rw (ej) (omega (arith, li));
          is = rw (ej, ev) (ap (λ (z : ℕ). set a (users_at + z) u.0) (sym h.uses) ∙ ap (λ (l : List ℕ). set l (users_at + length x.uses) u.0) (image ∙ ap (λ (z : ℕ). begun_image z x) ej) ∙ sym st);
        },
      )
    where
      empty : {A : Type 0} (l : List A) → length l ≡ 0 → l ≡ []
      empty [] e = refl
      empty (z ∷ l) e = absurd (omega arith)

  pub user_missed : (s.live ≡ s.totals.blocks → s.kinds ≡ s.totals.instructions → s.calls ≡ 0 → higher ≡ true → i.0 < s.totals.instructions → u.0 < s.totals.instructions → s.uses < uses_most → ⊥)
      → with_frame x (F.Use i u) ≡ None
  unfolding with_frame
  user_missed n = go (next_use x (i.0, u.0)) refl
    where
      go : (z : 𝔹) → next_use x (i.0, u.0) ≡ z → only_if z (record x { uses = x.uses ++ (i.0, u.0) ∷ [] }) ≡ None
      go false e = refl
      go true e =
          let A = told_all x in
          let B = eqb (length x.calls) 0 in
          let C = pair_follows x.uses (i.0, u.0) in
          let D = ltb i.0 x.totals.instructions in
          let E = ltb u.0 x.totals.instructions in
          let G = ltb (length x.uses) uses_most in
          let z5 = and-true (A && B && C && D && E) G e in
          let z4 = and-true (A && B && C && D) E z5.0 in
          let z3 = and-true (A && B && C) D z4.0 in
          let z2 = and-true (A && B) C z3.0 in
          let z1 = and-true A B z2.0 in
          let all = told_is x z1.0 in
          let l = ltb-true (length x.uses) uses_most z5.1 in
          absurd (n (sym h.live ∙ all.0 ∙ ap (λ (z : Totals). z.blocks) h.totals) (sym h.kinds ∙ all.1 ∙ ap (λ (z : Totals). z.instructions) h.totals)
          (sym h.calls ∙ eqb-true (length x.calls) 0 z1.1) (sym (h.above (i.0, u.0)) ∙ z2.1)
          (rw (← h.totals) (ltb-true i.0 x.totals.instructions z3.1)) (rw (← h.totals) (ltb-true u.0 x.totals.instructions z4.1)) (omega (arith, h.uses)))

  pub higher_true : s.row ≤ i.0 → (i.0 ≡ s.row → (s.uses ≡ 0 → ⊥) → s.user < u.0) → higher ≡ true
  higher_true le lt = go (dec_lt s.row i.0)
    where
      or : (b : 𝔹) → b || true ≡ true
      or true = refl
      or false = refl

      at_once : i.0 ≡ s.row → Dec (0 < s.uses) → eqb s.uses 0 || ltb s.user u.0 ≡ true
      at_once e (yes z) = rw (lt-ltb s.user u.0 (lt e (λ y. omega arith))) (or (eqb s.uses 0))
      at_once e (no z) = rw (eq-eqb s.uses 0 (omega arith)) refl

      go : Dec (s.row < i.0) → higher ≡ true
      go (yes q) = rw (lt-ltb s.row i.0 q) refl
      go (no q) = rw (eq-eqb s.row i.0 (omega arith), at_once (omega arith) (dec_lt 0 s.uses)) (or (ltb s.row i.0))

  pub higher_back : higher ≡ true → (s.row ≤ i.0) × (i.0 ≡ s.row → (s.uses ≡ 0 → ⊥) → s.user < u.0)
  higher_back h = go (or_true_lem (ltb s.row i.0) (eqb s.row i.0 && (eqb s.uses 0 || ltb s.user u.0)) h)
    where
      go : (ltb s.row i.0 ≡ true) ⊎ (eqb s.row i.0 && (eqb s.uses 0 || ltb s.user u.0) ≡ true) → (s.row ≤ i.0) × (i.0 ≡ s.row → (s.uses ≡ 0 → ⊥) → s.user < u.0)
      go (inl e) = let l = ltb-true s.row i.0 e in (omega arith, λ q n. absurd (omega arith))
      go (inr e) =
          let z = and-true (eqb s.row i.0) (eqb s.uses 0 || ltb s.user u.0) e in
          let q = eqb-true s.row i.0 z.0 in
          (omega arith, λ y n. last n (or_true_lem (eqb s.uses 0) (ltb s.user u.0) z.1))
        where
          last : (s.uses ≡ 0 → ⊥) → (eqb s.uses 0 ≡ true) ⊎ (ltb s.user u.0 ≡ true) → s.user < u.0
          last n (inl e) = absurd (n (eqb-true s.uses 0 e))
          last n (inr e) = ltb-true s.user u.0 e

module _ {x : Begun} {s : Partial} {m : List ℕ} (h : Stands x s m) (g : FunId) (i : InsnId) where
  abbrev later : 𝔹
  later = eqb s.calls 0 || pair_before (s.function, s.caller) (g.0, i.0)

  pub caller_taken : {f j w at : ℕ} → f ≡ g.0 → j ≡ i.0 → s.live ≡ s.totals.blocks → s.kinds ≡ s.totals.instructions → later ≡ true
      → f < s.totals.functions → j < s.totals.instructions → at ≡ callers_at + (f * row_words + j / 64) → w ≡ (get_or m at 0 + 2 ^ (j % 64)) % 2 ^ 64
      → (y : Begun) × (with_frame x (F.Caller g i) ≡ Some y) × Stands y (record s { calls = s.calls + 1; function = f; caller = j }) (set m at w)
  unfolding with_frame
  caller_taken {f} {j} {w} {at} ef ej full kinds late lf lj place word =
      let p : ℕ × ℕ = (g.0, i.0) in
      let y : Begun = record x { calls = x.calls ++ p ∷ [] } in
      let b : length x.live ≡ x.totals.blocks = rw (h.totals) (h.live ∙ full) in
      let k : length x.kinds ≡ x.totals.instructions = rw (h.totals) (h.kinds ∙ kinds) in
      let follows : pair_follows x.calls p ≡ true = h.calls_above p ∙ late in
      let lg : g.0 < x.totals.functions = rw (h.totals) (omega (arith, ef)) in
      let li : i.0 < x.totals.instructions = rw (h.totals) (omega (arith, ej)) in
      let all : told_all x ≡ true = rw (eq-eqb (length x.live) x.totals.blocks b, eq-eqb (length x.kinds) x.totals.instructions k) refl in
      let sound = (with_call x p h.sound all follows lg li).sound in
      let r = begun_roomy s.row x h.sound h.row in
      let new = fresh x.calls p sound.calls_rise in
      let st = call_stored s.row x r p lg li new in
      let fits = call_fits s.row x r p lg li new in
      let q : at ≡ callers_at + (g.0 * row_words + i.0 / 64) = place ∙ ap₂ (λ (u v : ℕ). callers_at + (u * row_words + v / 64)) ef ej in
      let old : get_or m at 0 ≡ get_or (begun_image s.row x) (callers_at + (g.0 * row_words + i.0 / 64)) 0 = ap₂ (λ (l : List ℕ) (n : ℕ). get_or l n 0) h.is q in
      let v : w ≡ get_or (begun_image s.row x) (callers_at + (g.0 * row_words + i.0 / 64)) 0 + 2 ^ (i.0 % 64) =
      word ∙ ap₂ (λ (u n : ℕ). (u + 2 ^ (n % 64)) % 2 ^ 64) old ej ∙ mod-eq_of_lt fits in (
        y,
        rw (
          eq-eqb (length x.live) x.totals.blocks b,
          eq-eqb (length x.kinds) x.totals.instructions k,
          follows,
          lt-ltb g.0 x.totals.functions lg,
          lt-ltb i.0 x.totals.instructions li,
        )
            refl,
        record {
          sound = sound;
          totals = h.totals;
          live = h.live;
          kinds = h.kinds;
          uses = h.uses;
          firsts = h.firsts;
          above = h.above;
          calls = length-append x.calls (p ∷ []) ∙ omega (arith, h.calls);
          calls_above = λ z. follows_last x.calls p z ∙ rw (ef, ej, ne_eqb (s.calls + 1) 0 (λ e. omega arith)) refl;
          row = h.row;
          is = ap₂ (λ (l : List ℕ) (n : ℕ). set l n w) h.is q ∙ ap (set (begun_image s.row x) (callers_at + (g.0 * row_words + i.0 / 64))) v ∙ sym st;
        },
      )

  pub caller_missed : (s.live ≡ s.totals.blocks → s.kinds ≡ s.totals.instructions → later ≡ true → g.0 < s.totals.functions → i.0 < s.totals.instructions → ⊥)
      → with_frame x (F.Caller g i) ≡ None
  unfolding with_frame
  caller_missed n = go (next_caller x (g.0, i.0)) refl
    where
      go : (z : 𝔹) → next_caller x (g.0, i.0) ≡ z → only_if z (record x { calls = x.calls ++ (g.0, i.0) ∷ [] }) ≡ None
      go false e = refl
      go true e =
          let A = told_all x in
          let C = pair_follows x.calls (g.0, i.0) in
          let D = ltb g.0 x.totals.functions in
          let E = ltb i.0 x.totals.instructions in
          let z4 = and-true (A && C && D) E e in
          let z3 = and-true (A && C) D z4.0 in
          let z2 = and-true A C z3.0 in
          let all = told_is x z2.0 in
          absurd (n (sym h.live ∙ all.0 ∙ ap (λ (z : Totals). z.blocks) h.totals) (sym h.kinds ∙ all.1 ∙ ap (λ (z : Totals). z.instructions) h.totals)
          (sym (h.calls_above (g.0, i.0)) ∙ z2.1) (rw (← h.totals) (ltb-true g.0 x.totals.functions z3.1)) (rw (← h.totals) (ltb-true i.0 x.totals.instructions z4.1)))

  pub later_true : ((s.calls ≡ 0 → ⊥) → (s.function ≤ g.0) × (g.0 ≡ s.function → s.caller < i.0)) → later ≡ true
  later_true f = go (dec_lt 0 s.calls)
    where
      or : (b : 𝔹) → b || true ≡ true
      or true = refl
      or false = refl

      above : Dec (s.function < g.0) → (s.function ≤ g.0) × (g.0 ≡ s.function → s.caller < i.0) → pair_before (s.function, s.caller) (g.0, i.0) ≡ true
      above (yes q) v = rw (lt-ltb s.function g.0 q) refl
      above (no q) v =
          let e : g.0 ≡ s.function = omega (arith, v.0) in
          rw (eq-eqb s.function g.0 (sym e), lt-ltb s.caller i.0 (v.1 e)) (or (ltb s.function g.0))

      go : Dec (0 < s.calls) → later ≡ true
      go (yes z) = rw (above (dec_lt s.function g.0) (f (λ e. omega arith))) (or (eqb s.calls 0))
      go (no z) = rw (eq-eqb s.calls 0 (omega arith)) refl

  pub later_back : later ≡ true → (s.calls ≡ 0 → ⊥) → (s.function ≤ g.0) × (g.0 ≡ s.function → s.caller < i.0)
  later_back l n = go (or_true_lem (eqb s.calls 0) (pair_before (s.function, s.caller) (g.0, i.0)) l)
    where
      rest : (ltb s.function g.0 ≡ true) ⊎ (eqb s.function g.0 && ltb s.caller i.0 ≡ true) → (s.function ≤ g.0) × (g.0 ≡ s.function → s.caller < i.0)
      rest (inl e) = let q = ltb-true s.function g.0 e in (omega arith, λ z. absurd (omega arith))
      rest (inr e) =
          let z = and-true (eqb s.function g.0) (ltb s.caller i.0) e in
          let q = eqb-true s.function g.0 z.0 in
          (omega arith, λ y. ltb-true s.caller i.0 z.1)

      go : (eqb s.calls 0 ≡ true) ⊎ (pair_before (s.function, s.caller) (g.0, i.0) ≡ true) → (s.function ≤ g.0) × (g.0 ≡ s.function → s.caller < i.0)
      go (inl e) = absurd (n (eqb-true s.calls 0 e))
      go (inr e) = rest (or_true_lem (ltb s.function g.0) (eqb s.function g.0 && ltb s.caller i.0) e)
