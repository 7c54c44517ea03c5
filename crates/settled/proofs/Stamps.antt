-- The stamps behind the tables: one is set, and the loop of unsettle. Assumes nothing.
use mathlib.Core.Bool.{Bool as 𝔹, true, false, not, false≢true}
use mathlib.Core.Logic.{◌⊎◌, inl, inr}
use mathlib.Core.Path.{◌≡◌, refl, sym, ap, ◌∙◌, subst}
use mathlib.Core.List.{List, ◌++◌}
use Prim.Native.Nat.{ℕ, ◌+◌, ◌-◌, ◌*◌, ◌<◌}
use native.Mathlib.Omega.{arith}
use borrow.Author.Tests.{eqb-true, eqb-false, not-false}
use lib.Dec.{eqb}
use lib.ListN.{length, get_or, set, take, length-set, length-append}
use lib.Seq.{length-take-le, get_or-take, get_or-set_same, get_or-set_other, ext_get_or}
use Rattle.kinds.specs.declared.Kind.{Kind}
use Rattle.kinds.specs.declared.Kind.TheVariants.{Empty}
use Rattle.idle.specs.Settled.{Covered}
use Rattle.records.specs.Records.{record_at}
use Rattle.state.specs.declared.Sizes.{Sizes}
use Rattle.state.specs.declared.State.{State}
use Rattle.std.proofs.Math.Seq.{take-append_seam}
use Rattle.std.proofs.lemmas.List.{set-append_right}
use Rattle.state.specs.View.{kinds_of}
use Rattle.memory.specs.Layout.{instructions_most}
use Rattle.program.specs.Layout.{insns_at, insn_words}
use Rattle.state.specs.Layout.{state_length, stamps_at}
use Rattle.settled.specs.Reads.{tables_of, stamp_of, whole, Touched, Unsettled}

pub tables-long : (m : List ℕ) → length m ≡ state_length → length (tables_of m) ≡ stamps_at
tables-long m h = length-take-le stamps_at m (omega arith)

pub same_or : (k i : ℕ) → (k ≡ i) ⊎ (k ≡ i → ⊥)
same_or k i = go (eqb k i) refl
  where
    go : (b : 𝔹) → eqb k i ≡ b → (k ≡ i) ⊎ (k ≡ i → ⊥)
    go true h = inl (eqb-true k i h)
    go false h = inr (eqb-false k i h)

-- ---- a stamp was set

module _ (m : List ℕ) (i e : ℕ) (long : length m ≡ state_length) where
  pub put-long : length (set m (stamps_at + i) e) ≡ state_length
  put-long = length-set m (stamps_at + i) e ∙ long

  pub put-tables : tables_of (set m (stamps_at + i) e) ≡ tables_of m
  put-tables = ext_get_or 0 (tables_of (set m (stamps_at + i) e)) (tables_of m) (tables-long (set m (stamps_at + i) e) put-long ∙ sym (tables-long m long))
      (λ k h. let l = tables-long (set m (stamps_at + i) e) put-long in
      get_or-take stamps_at (set m (stamps_at + i) e) k 0 (omega arith) ∙ get_or-set_other m (stamps_at + i) k e 0 (λ q. omega arith)
      ∙ sym (get_or-take stamps_at m k 0 (omega arith)))

  pub put-here : i < instructions_most → stamp_of (set m (stamps_at + i) e) i ≡ e
  put-here h = get_or-set_same m (stamps_at + i) e 0 (omega arith)

  pub put_other : (k : ℕ) → (k ≡ i → ⊥) → stamp_of (set m (stamps_at + i) e) k ≡ stamp_of m k
  put_other k h = get_or-set_other m (stamps_at + i) (stamps_at + k) e 0 (λ q. h (omega arith))

-- ---- which reads a setting touches

tag_word : (p : List ℕ) (j : ℕ) → (record_at p j).tag ≡ get_or p (insns_at + insn_words * j) 0
unfolding record_at
tag_word p j = refl

module _ (p : List ℕ) {z : Sizes} (m : List ℕ) {j : ℕ} {k : Kind} where
  pub touched_none : (get_or p (insns_at + insn_words * j) 0 ≡ 13 → ⊥) → Touched p z m j k false
  touched_none h = record { read = λ e. absurd (false≢true e); covers = λ _ e. absurd (h (sym (tag_word p j) ∙ e)) }

  pub touched_read : {a : Kind} → a ≡ get_or (kinds_of z m) j Empty → get_or p (insns_at + insn_words * j) 0 ≡ 13 → {t : 𝔹} → (t ≡ true → Covered a k) → Touched p z m j k (not t)
  touched_read o e {t} f = record { read = λ _. tag_word p j ∙ e; covers = λ n _. subst (λ (a : Kind). Covered a k) o (f (not-false t n)) }

-- ---- tables and stamps that are lent apart

module _ (s : State) where
  pub whole_tables : (t : List ℕ) → tables_of (whole s t) ≡ s.words.now
  whole_tables t = subst (λ (n : ℕ). take n (s.words.now ++ t) ≡ s.words.now) s.ready.held.len (take-append_seam s.words.now t)

  pub whole_long : (t : List ℕ) → length t ≡ instructions_most → length (whole s t) ≡ state_length
  whole_long t h = let l = s.ready.held.len in length-append s.words.now t ∙ omega arith

  pub whole_set : (t : List ℕ) (j x : ℕ) → whole s (set t j x) ≡ set (whole s t) (stamps_at + j) x
  whole_set t j x =
      let e : j ≡ stamps_at + j - stamps_at = omega arith in
      ap (λ (i : ℕ). s.words.now ++ set t i x) e ∙ sym (set-append_right s.words.now t stamps_at (stamps_at + j) x s.ready.held.len (omega arith))

  pub whole_touched : {p : List ℕ} {j : ℕ} {k : Kind} {b : 𝔹} (t : List ℕ) → Touched p s.sizes s.words.now j k b → Touched p s.sizes (tables_of (whole s t)) j k b
  whole_touched {p} {j} {k} {b} t h = subst (λ (m : List ℕ). Touched p s.sizes m j k b) (sym (whole_tables t)) h

-- ---- unsettle, at its loop's head

pub unsettled_start : {p : List ℕ} {z : Sizes} {k : Kind} {m : List ℕ} → Unsettled p z k 0 m m
unsettled_start = record { long = refl; tables = refl; stamps = λ j. inl refl; reads = λ j h. absurd (omega arith) }

module _ {p : List ℕ} {z : Sizes} {k : Kind} {n : ℕ} {m w : List ℕ} (U : Unsettled p z k n m w) where
  pub unsettled_keep : {t : 𝔹} {w' : List ℕ} → Touched p z (tables_of w) n k t → t ≡ false → w' ≡ w → Unsettled p z k (n + 1) m w'
  unsettled_keep {t} T f e = subst (Unsettled p z k (n + 1) m) (sym e) (record { long = U.long; tables = U.tables; stamps = U.stamps; reads = λ j h r. go j h r (same_or j n) })
    where
      go : (j : ℕ) → j < n + 1 → (record_at p j).tag ≡ 13 → (j ≡ n) ⊎ (j ≡ n → ⊥) → (stamp_of w j ≡ 0) ⊎ Covered (get_or (kinds_of z (tables_of m)) j Empty) k
      go j h r (inl a) =
          inr
          (subst (λ (l : List ℕ). Covered (get_or (kinds_of z l) j Empty) k) U.tables
          (subst (λ (i : ℕ). Covered (get_or (kinds_of z (tables_of w)) i Empty) k) (sym a)
          (T.covers f (subst (λ (i : ℕ). (record_at p i).tag ≡ 13) a r))))
      go j h r (inr a) = U.reads j (omega arith) r

  pub unsettled_put : {t : 𝔹} {w' : List ℕ} → length m ≡ state_length → n < instructions_most → Touched p z (tables_of w) n k t → t ≡ true → w' ≡ set w (stamps_at + n) 0 → Unsettled p z k (n + 1) m w'
  unsettled_put {t} long few T f e = subst (Unsettled p z k (n + 1) m) (sym e) (record {
    long = length-set w (stamps_at + n) 0 ∙ U.long;
    tables = put-tables w n 0 (U.long ∙ long) ∙ U.tables;
    stamps = λ j. all j (same_or j n) (U.stamps j);
    reads = λ j h r. go j h r (same_or j n);
  })
    where
      zero-here : (j : ℕ) → j ≡ n → stamp_of (set w (stamps_at + n) 0) j ≡ 0
      zero-here j a = ap (stamp_of (set w (stamps_at + n) 0)) a ∙ put-here w n 0 (U.long ∙ long) few

      all : (j : ℕ) → (j ≡ n) ⊎ (j ≡ n → ⊥) → (stamp_of w j ≡ stamp_of m j) ⊎ ((stamp_of w j ≡ 0) × ((record_at p j).tag ≡ 13))
          → (stamp_of (set w (stamps_at + n) 0) j ≡ stamp_of m j) ⊎ ((stamp_of (set w (stamps_at + n) 0) j ≡ 0) × ((record_at p j).tag ≡ 13))
      all j (inl a) s = inr (zero-here j a, ap (λ (i : ℕ). (record_at p i).tag) a ∙ T.read f)
      all j (inr a) (inl s) = inl (put_other w n 0 (U.long ∙ long) j a ∙ s)
      all j (inr a) (inr s) = inr (put_other w n 0 (U.long ∙ long) j a ∙ s.0, s.1)

      go : (j : ℕ) → j < n + 1 → (record_at p j).tag ≡ 13 → (j ≡ n) ⊎ (j ≡ n → ⊥) → (stamp_of (set w (stamps_at + n) 0) j ≡ 0) ⊎ Covered (get_or (kinds_of z (tables_of m)) j Empty) k
      go j h r (inl a) = inl (zero-here j a)
      go j h r (inr a) = other (U.reads j (omega arith) r)
        where
          other : (stamp_of w j ≡ 0) ⊎ Covered (get_or (kinds_of z (tables_of m)) j Empty) k → (stamp_of (set w (stamps_at + n) 0) j ≡ 0) ⊎ Covered (get_or (kinds_of z (tables_of m)) j Empty) k
          other (inl s) = inl (put_other w n 0 (U.long ∙ long) j a ∙ s)
          other (inr s) = inr s
