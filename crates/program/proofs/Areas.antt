-- Stores in an area of memory. Assumes nothing.
use mathlib.Core.Path.{◌≡◌, refl, sym, ap, ap₂, ◌∙◌}
use mathlib.Core.List.{List, [], ◌∷◌, ◌++◌, map}
use Prim.Native.Nat.{ℕ, ◌+◌, ◌*◌, ◌≤◌, ◌<◌}
use native.Mathlib.Omega.{arith}
use lib.ListN.{length, get_or, set, length-set, length-append, length-map}
use lib.Seq.{get_or-set_same, get_or-set_other}
use Rattle.program.specs.Tab.{tab}
use Rattle.program.specs.Rows.{opnd_from, opnd_at, opnds_in, opnd_of}
use Rattle.program.specs.View.{ProgramOnly, Puts}
use Rattle.program.specs.declared.Opnd.{Opnd}
use Rattle.program.proofs.Tables.{tab_ext, tab-add, tab-length}

module _ {lo hi : ℕ} where
  pub only_none : (m : List ℕ) → ProgramOnly lo hi m m
  only_none m = record { len_same = refl; below = λ k h. refl; above = λ k h. refl }

  pub only_set : {m m' : List ℕ} (k v : ℕ) → ProgramOnly lo hi m m' → lo ≤ k → k < hi → ProgramOnly lo hi m (set m' k v)
  only_set {m' = m'} k v o l h =
      record {
        len_same = length-set m' k v ∙ o.len_same;
        below = λ j p. get_or-set_other m' k j v 0 (λ e. omega arith) ∙ o.below j p;
        above = λ j p. get_or-set_other m' k j v 0 (λ e. omega arith) ∙ o.above j p;
      }

  pub only_then : {m m' m'' : List ℕ} → ProgramOnly lo hi m m' → ProgramOnly lo hi m' m'' → ProgramOnly lo hi m m''
  only_then o p =
      record {
        len_same = p.len_same ∙ o.len_same;
        below = λ k h. p.below k h ∙ o.below k h;
        above = λ k h. p.above k h ∙ o.above k h;
      }

  pub only-wide : (lo' hi' : ℕ) {m m' : List ℕ} → ProgramOnly lo hi m m' → lo' ≤ lo → hi ≤ hi' → ProgramOnly lo' hi' m m'
  only-wide lo' hi' o l h =
      record { len_same = o.len_same; below = λ k p. o.below k (omega arith); above = λ k p. o.above k (omega arith) }

-- what stands outside stays
abbrev pub Same : ℕ → ℕ → List ℕ → List ℕ → Type 0
Same a e m m' = (k : ℕ) → a ≤ k → k < e → get_or m' k 0 ≡ get_or m k 0

module _ {lo hi : ℕ} {m m' : List ℕ} (o : ProgramOnly lo hi m m') (a e : ℕ) where
  pub same-below : e ≤ lo → Same a e m m'
  same-below h k p q = o.below k (omega arith)

  pub same_above : hi ≤ a → Same a e m m'
  same_above h k p q = o.above k (omega arith)

-- ---- operands

pub opnds-same : (m m' : List ℕ) (at n : ℕ) → Same at (at + 2 * n) m m' → opnds_in m' at n ≡ opnds_in m at n
unfolding opnds_in
opnds-same m m' at n h =
    tab_ext (λ j. opnd_at m' (at + 2 * j)) (λ j. opnd_at m (at + 2 * j)) n
    (λ j p. ap₂ opnd_from (h (at + 2 * j) (omega arith) (omega arith)) (h (at + 2 * j + 1) (omega arith) (omega arith)))

pub opnds-add : (m : List ℕ) (at n k : ℕ) → opnds_in m at (n + k) ≡ opnds_in m at n ++ opnds_in m (at + 2 * n) k
unfolding opnds_in
opnds-add m at n k =
    tab-add (λ j. opnd_at m (at + 2 * j)) n k
    ∙ ap (λ (l : List Opnd). tab (λ j. opnd_at m (at + 2 * j)) n ++ l)
    (tab_ext (λ j. opnd_at m (at + 2 * (n + j))) (λ j. opnd_at m (at + 2 * n + 2 * j)) k
    (λ j p. ap (opnd_at m) (omega arith)))

pub opnds_one : (m : List ℕ) (at : ℕ) → opnds_in m at 1 ≡ opnd_at m at ∷ []
unfolding opnds_in tab
opnds_one m at = let e : at + 2 * 0 ≡ at = omega arith in ap (λ (k : ℕ). opnd_at m k ∷ []) e

pub opnds-length : (m : List ℕ) (at n : ℕ) → length (opnds_in m at n) ≡ n
unfolding opnds_in
opnds-length m at n = tab-length (λ j. opnd_at m (at + 2 * j)) n

pub given-length : (m : List ℕ) (at n : ℕ) → length (map opnd_of (opnds_in m at n)) ≡ n
given-length m at n = length-map (opnds_in m at n) opnd_of ∙ opnds-length m at n

pub puts_none : (at : ℕ) (m : List ℕ) → Puts at [] m m
unfolding opnds_in tab
puts_none at m = record { only = only_none m; here = refl }

-- the words of one operand
pub puts_one : (m : List ℕ) (at t x : ℕ) {o : Opnd} → opnd_from t x ≡ o → at + 1 < length m → Puts at (o ∷ []) m (set (set m at t) (at + 1) x)
puts_one m at t x e h =
    record {
      only = only_set (at + 1) x (only_set at t (only_none m) (omega arith) (omega arith)) (omega arith) (omega arith);
      here =
          opnds_one (set (set m at t) (at + 1) x) at
          ∙ ap (λ (v : Opnd). v ∷ [])
          (ap₂ opnd_from (get_or-set_other (set m at t) (at + 1) at x 0 (λ z. omega arith) ∙ get_or-set_same m at t 0 (omega arith))
          (get_or-set_same (set m at t) (at + 1) x 0 (omega (arith, length-set m at t)))
          ∙ e);
    }

-- further operands behind the first
pub puts_then : {at k : ℕ} {os ps : List Opnd} {m m1 m2 : List ℕ} → Puts at os m m1 → k ≡ at + 2 * length os → Puts k ps m1 m2 → Puts at (os ++ ps) m m2
puts_then {at = at} {k = k} {os = os} {ps = ps} {m1 = m1} {m2 = m2} p e q =
    let total = length-append os ps in
    let more : Puts (at + 2 * length os) ps m1 m2 = rw e at q in
    record {
      only =
          only_then (only-wide at (at + 2 * length (os ++ ps)) p.only (omega arith) (omega arith))
          (only-wide at (at + 2 * length (os ++ ps)) more.only (omega arith) (omega arith));
      here =
          rw (total, opnds-add m2 at (length os) (length ps))
          (ap₂ {C = List Opnd} (λ a b. a ++ b)
          (opnds-same m1 m2 at (length os) (same-below more.only at (at + 2 * length os) (omega arith)) ∙ p.here)
          more.here);
    }

-- ---- operands copied

pub record Copying (args : List ℕ) (n at : ℕ) (m₀ m : List ℕ) (i : ℕ) : Type 0 where
  pub high : i ≤ n
  pub puts : Puts at (opnds_in args 0 i) m₀ m
  pub len_same : length m ≡ length m₀

pub copy_start : (args : List ℕ) (n at : ℕ) (m : List ℕ) → Copying args n at m m 0
unfolding opnds_in tab
copy_start args n at m = record { high = omega arith; puts = puts_none at m; len_same = refl }

module _ {args : List ℕ} {n at : ℕ} {m₀ m : List ℕ} {i : ℕ} (g : Copying args n at m₀ m i) where
  pub copy_more : i < n → at + 2 * n ≤ length m₀
      → Copying args n at m₀ (set (set m (at + 2 * i) (get_or args (2 * i) 0)) (at + 2 * i + 1) (get_or args (2 * i + 1) 0)) (i + 1)
  copy_more h long =
      let same = g.len_same in
      let z : 0 + 2 * i ≡ 2 * i = omega arith in
      let one = puts_one m (at + 2 * i) (get_or args (2 * i) 0) (get_or args (2 * i + 1) 0) {o = opnd_at args (0 + 2 * i)} (rw z refl) (omega arith) in
      let all = puts_then g.puts (ap (λ (k : ℕ). at + 2 * k) (sym (opnds-length args 0 i))) one in
      record {
        high = omega arith;
        puts = rw (opnds-add args 0 i 1, opnds_one args (0 + 2 * i)) all;
        len_same = all.only.len_same;
      }

  pub copy_done : n ≤ i → Puts at (opnds_in args 0 n) m₀ m
  copy_done h = let e : i ≡ n = omega (arith, g.high) in rw e at g.puts
