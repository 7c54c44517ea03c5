-- The input is read piece by piece. Assumes nothing.
use Rattle.std.proofs.Common.{◌≡◌, ℕ, ◌+◌, ◌-◌, ◌≤◌, List, ◌++◌, Option, arith, length, take, drop, sym, ap, ◌∙◌, subst, le_refl, length-take-le}
use Rattle.std.proofs.lemmas.List.{take_rest}
use Rattle.std.proofs.lemmas.Slice.{take-put_mid_below}
use Rattle.std.specs.Io.KnownBytes.{Appends, Consumes, Keeps}
use Rattle.std.proofs.KnownBytes.{Appends-trans, Consumes-trans, Consumes-kept}
use borrow.Rule.Slice.PartMut.{mid_of, put_mid, post_of, same_len_mid, mid_len}
use lib.Seq.{take-add, take-append-le, take-append-add}

-- at the loop's head
pub record Reading (d₀ d : List ℕ) (done : ℕ) : Type 0 where
  pub in_range : done ≤ length d
  pub len_same : length d ≡ length d₀

-- the rest of the buffer was lent, and came back with n bytes
pub reading_more : (u : List ℕ) {d d₀ : List ℕ} {done n : ℕ} → Reading d₀ d done → length u ≡ length (mid_of done (length d - done) d) → n ≤ length u
    → Reading d₀ (put_mid done (length d - done) d u) (done + n)
reading_more u {d} {d₀} {done} g e h =
    let l = same_len_mid done (length d - done) d u e in
    record { in_range = omega (arith, l, e, h, mid_len done (length d) d (omega arith), g.in_range); len_same = l ∙ g.len_same }

-- ---- where the bytes are known

take_mid : (a k n : ℕ) (d u : List ℕ) → a ≤ length d → n ≤ length u → take (a + n) (put_mid a k d u) ≡ take a d ++ take n u
take_mid a k n d u h l =
    let e : length (take a d) ≡ a = length-take-le a d h in
    let f = take-append-add (take a d) (u ++ post_of a k d) n in
    rw e at f ∙ ap (λ x. take a d ++ x) (take-append-le n u (post_of a k d) l)

-- the pieces that were read, one behind the other
pub taken_more : (a b c : Option (List ℕ)) (done k n : ℕ) (d u : List ℕ) → done ≤ length d → n ≤ length u → Consumes a b (take done d) → Consumes b c (take n u)
    → Consumes a c (take (done + n) (put_mid done k d u))
taken_more a b c done k n d u h l p q = subst (Consumes _ _) (sym (take_mid done k n d u h l)) (Consumes-trans _ _ _ _ _ p q)

-- the bytes in front of a piece that was tried and not read
pub taken_kept : (a b c : Option (List ℕ)) (done k : ℕ) (d u : List ℕ) → done ≤ length d → Consumes a b (take done d) → Keeps b c
    → Consumes a c (take done (put_mid done k d u))
taken_kept a b c done k d u h p q = subst (Consumes _ _) (sym (take-put_mid_below _ _ _ _ _ (le_refl _) h)) (Consumes-kept _ _ _ _ p q)

-- the pieces that were written
pub written_more : (a b c : Option (List ℕ)) (done n : ℕ) (bytes : List ℕ) → Appends a b (take done bytes)
    → Appends b c (take n (take (length bytes - done) (drop done bytes))) → Appends a c (take (done + n) bytes)
written_more a b c done n bytes p q =
    let e : take (length bytes - done) (drop done bytes) ≡ drop done bytes = take_rest bytes done in
    subst (Appends a c) (sym (take-add done n bytes)) (Appends-trans a b c _ _ p (rw e at q))
