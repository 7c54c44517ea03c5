-- Parts of the lent memories that are cleared, laid or used as work memory. Assumes nothing.
use mathlib.Core.Path.{◌≡◌, sym, ap, ◌∙◌}
use mathlib.Core.List.{List, [], ◌++◌, append-nil}
use Prim.Native.Nat.{ℕ, ◌+◌, ◌-◌, ◌*◌, ◌≤◌, ◌<◌}
use native.Mathlib.Nat.{zero-add}
use native.Mathlib.Decide.{dec_lt}
use borrow.Author.Rules.{rules}
use Rattle.std.proofs.lemmas.List.{places}
use Rattle.std.proofs.lemmas.Slice.{overwrites}
use native.Mathlib.Omega.{arith}
use lib.ListN.{replicate, length, get_or, take, drop, length-drop, drop_of_length-le, get_or-append}
use lib.Seq.{length-take-le, get_or-append-add, get_or-take, ext_get_or, take_at}
use borrow.Rule.Slice.PartMut.{put_mid, post_of}
use Rattle.program.specs.declared.Counts.{Counts}
use Rattle.chains.specs.Chains.{Index, ChainsFilled, Carried}
use Rattle.memory.specs.Memory.{zeros}
use Rattle.memory.proofs.Laws.{zeros-at}
use Rattle.state.specs.declared.Sizes.{Sizes}
use Rattle.state.specs.Acted.{Acted}
use Rattle.state.specs.View.{StateHeld, StateCleared}
use Rattle.answer.specs.Layout.{callers_at, answer_length}
use Rattle.memory.specs.Layout.{row_words}
use Rattle.program.specs.Layout.{program_size}
use Rattle.chains.specs.Layout.{chains_size, program_length}
use Rattle.state.specs.Layout.{live_blocks_at, called_at, reads_at, state_size}
use Rattle.sctp.specs.starts.Starts.{Started}
use Rattle.sctp.specs.Sctp.{tables_of, SctpChained, SctpAside, StartsAside}

-- ---- the index: w is what was built in the first words of the work memory

module _ (m w : List ℕ) (lm : chains_size ≤ length m) (lw : length w ≡ length (take chains_size m)) where
  built_length : length w ≡ chains_size
  built_length = let l = length-take-le chains_size m lm in omega arith

  built : take chains_size (w ++ drop chains_size m) ≡ w
  built = take_at w (drop chains_size m) chains_size built_length

  pub built_taken : length (take chains_size (w ++ drop chains_size m)) ≡ chains_size
  built_taken = ap length built ∙ built_length

  pub index-laid : (c : Counts) (p p' : List ℕ) → length p ≡ program_length → Index (tables_of p) c w → Carried c program_size (take chains_size (w ++ drop chains_size m)) p p' → SctpChained c p p'
  index-laid c p p' lp i e =
      let l = length-take-le program_size p (omega arith) in
      let l' = length-take-le program_size p' (omega (arith, e.only.len_same)) in
      record {
        tables = ext_get_or 0 (take program_size p') (take program_size p) (l' ∙ sym l)
            (λ k h. get_or-take program_size p' k 0 (omega arith) ∙ e.only.others k (λ a b. omega arith) ∙ sym (get_or-take program_size p k 0 (omega arith)));
        index = e.index (tables_of p) (rw built i);
      }

-- ---- a part behind place a, put back

module _ (a : ℕ) (xs : List ℕ) (h : a ≤ length xs) where
  pub put_same : (k : ℕ) (ys : List ℕ) (j : ℕ) → j < a → get_or (put_mid a k xs ys) j 0 ≡ get_or xs j 0
  put_same k ys j l = get_or-append (take a xs) (ys ++ post_of a k xs) 0 j (let n = length-take-le a xs h in omega arith) ∙ get_or-take a xs j 0 l

  pub put-clear : (k n j : ℕ) → length xs ≤ a + k → a ≤ j → get_or (put_mid a k xs (zeros n)) j 0 ≡ 0
  put-clear k n j g l =
      let len = length-take-le a xs h in
      let e : length (take a xs) + (j - a) ≡ j = omega arith in
      let o : post_of a k xs ≡ [] = drop_of_length-le (drop a xs) {i = k} (let d = length-drop a xs in omega arith) in
      ap (λ (i : ℕ). get_or (put_mid a k xs (zeros n)) i 0) (sym e) ∙ get_or-append-add (take a xs) (zeros n ++ post_of a k xs) (j - a) 0
      ∙ ap (λ (y : List ℕ). get_or y (j - a) 0) (ap (λ (y : List ℕ). zeros n ++ y) o ∙ append-nil (zeros n)) ∙ zeros-at n (j - a)

-- ---- what the start finds clear

module _ (a n : ℕ) (w : List ℕ) (h : a + n ≤ length w) where
  abbrev put : List ℕ
  put = put_mid a n w (replicate n 0)

  put-length : length put ≡ length w
  put-length = let x = length-take-le a w (omega arith) in let y = length-drop a w in search (rules, places, overwrites)

  put-here : (j : ℕ) → j < n → get_or put (a + j) 0 ≡ 0
  put-here j g = search (rules, places, overwrites)

  put-behind : (j : ℕ) → a + n ≤ j → get_or put j 0 ≡ get_or w j 0
  put-behind j g = search (rules, places, overwrites)

  put-others : (j : ℕ) → (a ≤ j → j < a + n → ⊥) → get_or put j 0 ≡ get_or w j 0
  put-others j g = go (dec_lt j a) (dec_lt j (a + n))
    where
      go : Dec (j < a) → Dec (j < a + n) → get_or put j 0 ≡ get_or w j 0
      go (yes l) d = put_same a w (omega arith) n (replicate n 0) j l
      go (no l) (yes k) = absurd (g (omega arith) k)
      go (no l) (no k) = put-behind j (omega arith)

-- the n words from a on
pub filled : (a n k : ℕ) (w ys : List ℕ) → a + n ≤ length w → k ≡ n → ys ≡ replicate (length (take k (drop a w))) 0 → ChainsFilled a n 0 w (put_mid a k w ys)
filled a n k w ys h e f =
    let l : length (take k (drop a w)) ≡ n = rw e (length-take-le n (drop a w) (let d = length-drop a w in omega arith)) in
    let g : ys ≡ replicate n 0 = f ∙ ap (λ (m : ℕ). replicate m 0) l in
    rw (e, g) (record { only = record { len_same = put-length a n w h; others = put-others a n w h }; here = put-here a n w h })

pub tables_cleared : {z : Sizes} {m m₁ m₂ m₃ m₄ : List ℕ} → StateHeld z m → ChainsFilled 0 z.insns 0 m m₁
    → ChainsFilled live_blocks_at z.blocks 0 m₁ m₂ → ChainsFilled called_at (row_words * z.functions) 0 m₂ m₃
    → ChainsFilled reads_at (row_words * z.classes) 0 m₃ m₄ → StateCleared z m₄
tables_cleared {z} {m} {m₁} {m₂} {m₃} {m₄} h w x y r =
    let len : length m₄ ≡ state_size = r.only.len_same ∙ y.only.len_same ∙ x.only.len_same ∙ w.only.len_same ∙ h.len in
    record {
      held = record { len = len; functions = h.functions; classes = h.classes; blocks = h.blocks; insns = h.insns };
      kinds = λ i l.
          let few = h.insns in
          r.only.others i (λ a b. omega arith) ∙ y.only.others i (λ a b. omega arith) ∙ x.only.others i (λ a b. omega arith)
          ∙ ap (λ (j : ℕ). get_or m₁ j 0) (sym (zero-add i)) ∙ w.here i l;
      live = λ i l. let few = h.blocks in r.only.others (live_blocks_at + i) (λ a b. omega arith) ∙ y.only.others (live_blocks_at + i) (λ a b. omega arith) ∙ x.here i l;
      called = λ j l. let few = h.functions in r.only.others (called_at + j) (λ a b. omega arith) ∙ y.here j (omega arith);
      reads = λ j l. r.here j (omega arith);
    }

-- ---- the answer's callers

pub callers_cleared : (u ys : List ℕ) (n : ℕ) → length u ≡ answer_length → ys ≡ zeros n → SctpAside u (put_mid callers_at (length u - callers_at) u ys)
callers_cleared u ys n len e = rw e (record {
  same = λ k h. put_same callers_at u (omega arith) (length u - callers_at) (zeros n) k h;
  clear = λ k h. put-clear callers_at u (omega arith) (length u - callers_at) n k (omega arith) h;
})

pub callers_used : {s p : List ℕ} {c : Counts} {z : Sizes} {m : List ℕ} {r : Acted} (u ys : List ℕ) → length u ≡ answer_length → Started s p c z m r
    → StartsAside s p c z u (put_mid callers_at (length u - callers_at) u ys) m r
callers_used u ys len d = record { started = d; same = λ k h. put_same callers_at u (omega arith) (length u - callers_at) ys k h }
