-- What a chain has left, from the memory that holds it. Assumes nothing.
use mathlib.Core.Path.{◌≡◌, refl, sym, ap, ◌∙◌, subst}
use mathlib.Core.List.{List, [], ◌∷◌, map}
use Prim.Native.Nat.{ℕ, zero, suc, ◌+◌, ◌-◌, ◌*◌, ◌^◌, ◌≤◌, ◌<◌}
use native.Mathlib.Omega.{arith}
use lib.ListN.{length, get_or, take, drop, length-take, length-drop}
use Rattle.std.proofs.lemmas.List.Edits.{get_or-between}
use denote.Param.Members.{Mut}
use mathlib.Core.Bool.{Bool, true}
use Rattle.std.proofs.lemmas.Iterator.{cases_from_all}
use Rattle.std.specs.Fn.{Called}
use Rattle.std.specs.Bool.{MatchBool}
use Rattle.std.specs.List.{AllWithin, HoldsAt}
use Rattle.std.specs.Iterator.{Drains, YieldsFirstBy, ChecksAll, CallableAtEachTurn}
use Rattle.std.proofs.lemmas.Iterator.Adapters.{serves_from_places}
use Rattle.std.proofs.lemmas.Iterator.Consumers.{YieldsList-from_first}
use Rattle.ids.specs.declared.InsnId.{InsnId}
use Rattle.memory.specs.Layout.{instructions_most, blocks_room}
use Rattle.chains.specs.Layout.{sort_words, chains_size}
use Rattle.chains.specs.Chains.{ChainsChained, Chained, at, self, link_in, cells_from, ChainIs}
use Rattle.chains.specs.Left.{left}
use Rattle.chains.specs.declared.cells.Chain.{Chain}
use Rattle.chains.proofs.Lists.{chained_same, chained_here, cells_is, cells_none, cells_more, cells_held}

module _ (w : List ℕ) (n p k : ℕ) (few : n ≤ instructions_most) (low : p < 3) (room : chains_size ≤ length w) where
  abbrev links : List ℕ
  links = take (sort_words * p + blocks_room + n - (sort_words * p + blocks_room)) (drop (sort_words * p + blocks_room) w)

  abbrev head : ℕ
  head = get_or w (sort_words * p + k) 0

  many : length links ≡ n
  many = simp (length-take, length-drop) (omega arith)

  in_links : (l : List ℕ) → ChainIs w n p k l → ChainsChained self (link_in links) (length links) 0 head l
  in_links l d =
      rw many
      (chained_same self (at w (sort_words * p + blocks_room)) self (link_in links) n 0 0 head l (omega arith)
      (λ i g h. (refl, get_or-between w _ _ i 0 (omega arith))) d)

  pub left_is : (l : List ℕ) → ChainIs w n p k l → cells_from (link_in links) (length links) (length links - head) head ≡ l
  left_is l d = cells_is (link_in links) (length links) (length links - head) head head l (chained_here self (link_in links) (length links) 0 head l (in_links l d)) (omega arith)

  pub left_held : (l : List ℕ) → ChainIs w n p k l → Chained links head
  left_held l d = rw (left_is l d) (chained_here self (link_in links) (length links) 0 head l (in_links l d))

-- a chain that has come to its end, and one that goes on with its next instruction
pub nothing_left : (c : Chain) → length c.links.now ≤ c.at → left c ≡ []
nothing_left c h = cells_none (link_in c.links.now) (length c.links.now) (length c.links.now - c.at) c.at h

module _ (c : Chain) (h : c.at < length c.links.now) {next : ℕ} (e : next ≡ link_in c.links.now c.at) where
  pub next_left : left c ≡ c.at ∷ cells_from (link_in c.links.now) (length c.links.now) (length c.links.now - next) next
  next_left = rw e (cells_more (link_in c.links.now) (length c.links.now) c.at h c.held)

  pub next_held : Chained c.links.now next
  next_held = rw e (cells_held (link_in c.links.now) (length c.links.now) c.at h c.held)

-- the numbers of a list are below n
abbrev pub Within : ℕ → List ℕ → Type 0
Within n [] = Unit {0}
Within n (x ∷ l) = (x < n) × Within n l

chained_within : (link : ℕ → ℕ) (n k h : ℕ) (l : List ℕ) → ChainsChained self link n k h l → Within n l
unfolding ChainsChained
chained_within link n k h [] d = tt
chained_within link n k h (x ∷ l) d = (omega (arith, d.1, d.2), chained_within link n (suc h) (link h) l d.3)

-- the numbers of a chain are below the count
pub chain_within : (w : List ℕ) (n p k : ℕ) (l : List ℕ) → ChainIs w n p k l → Within n l
chain_within w n p k l d = chained_within (at w (sort_words * p + blocks_room)) n 0 (get_or w (sort_words * p + k) 0) l d

pub within_at : (n : ℕ) (l : List ℕ) (j d : ℕ) → Within n l → j < length l → get_or l j d < n
within_at n [] j d w h = absurd (omega arith)
within_at n (x ∷ l) zero d w h = w.0
within_at n (x ∷ l) (suc j) d w h = within_at n l j d w.1 (omega (arith, h))

chained_long : (link : ℕ → ℕ) (n k h : ℕ) (l : List ℕ) → ChainsChained self link n k h l → length l ≤ n - k
unfolding ChainsChained
chained_long link n k h [] d = omega arith
chained_long link n k h (x ∷ l) d = omega (arith, d.0, d.1, chained_long link n (suc h) (link h) l d.3)

-- what calls of `next` gave until there was nothing left
pub drained : (c : Chain) (xs : List InsnId) → Drains (YieldsFirstBy (λ (i : InsnId). i.0) left) c xs → map (λ (i : InsnId). i.0) xs ≡ left c
drained c [] d = sym (ap left d.1.1 ∙ d.1.2.0)
drained c (x ∷ xs) d = ap (λ l. x.0 ∷ l) (drained d.1.1.0 xs (d.0, (d.1.0, d.1.1.2, d.1.2))) ∙ sym d.1.1.1

-- what is left is so short that it can be counted
pub left_fits : (c : Chain) → 0 + length (left c) < 2 ^ 64
left_fits c = let f = c.few in omega (arith, chained_long (link_in c.links.now) (length c.links.now) c.at c.at (left c) c.held)

-- P holds of each number of a list
abbrev pub Each : (ℕ → Type 0) → List ℕ → Type 0
Each P [] = Unit {0}
Each P (x ∷ l) = P x × Each P l

-- a closure may be called at each instruction that is left
pub left_callable : {F : Type 0} {R : F → InsnId → F → Type 0} {Q : F → InsnId → Type 0} {f : F} (c : Chain) {n : ℕ} → Within n (left c)
    → ((x : InsnId) (q : F) → R f x q → q ≡ f) → ((x : InsnId) → x.0 < n → Q f x) → CallableAtEachTurn (YieldsFirstBy (λ (i : InsnId). i.0) left) R Q c f
left_callable c {n} w keeps may =
    serves_from_places (YieldsList-from_first (λ (i : InsnId). i.0) left (left c) refl) keeps
    (λ x k h e. may x (let g = within_at n (left c) k x.0 w h in omega (arith, e)))

each_of : (P : ℕ → Type 0) (l : List ℕ) → AllWithin P l 0 (length l) → Each P l
each_of P [] a = tt
each_of P (x ∷ l) a = (a 0 x (omega arith) (omega arith), each_of P l (λ k d g h. a (suc k) d (omega arith) (omega (arith, h))))

-- what holds of each instruction that was left, where a closure that leaves itself as it is answered true at all of them
pub left_each : {F : Type 0} {g : Mut F (InsnId × Unit {0}) Bool} {f : F} (P : ℕ → Type 0) (c u : Chain) → ((x : InsnId) (q : F) → Called g f (x, tt) true q → (q ≡ f) × P x.0)
    → (r : Bool) → ChecksAll (YieldsFirstBy (λ (i : InsnId). i.0) left) g c f r u → r ≡ true → Each P (left c)
left_each {f = f} P c u keeps r ran e =
    each_of P (left c)
    (subst (λ b. MatchBool b (AllWithin P (left c) 0 (length (left c))) ((k : ℕ) × (k < length (left c)) × HoldsAt (λ _. Unit {0}) (left c) k)) e
    (cases_from_all {v = λ (i : InsnId). i.0} {all = left c} u f r P (λ _. Unit {0}) ran (YieldsList-from_first (λ (i : InsnId). i.0) left (left c) refl) keeps (λ x q k. tt)))
