-- What each way through the functions shows, on plain values. Assumes nothing.
use Prim.Native.Nat.{ℕ, zero, suc, ◌+◌, ◌-◌, ◌*◌, ◌/◌, ◌≤◌, ◌<◌}
use mathlib.Core.Path.{◌≡◌, refl, sym, ap, subst, ◌∙◌}
use mathlib.Core.Bool.{Bool, true, false, cond}
use mathlib.Core.List.{List, [], ◌∷◌, ◌++◌}
use native.Mathlib.Decide.{ℕ_discrete, dec_lt}
use native.Mathlib.Numerals.{add-one}
use native.Mathlib.Omega.{arith}
use lib.ListN.{length, get_or, set, replicate, length-set}
use lib.Seq.{get_or-set_same, get_or-set_other}
use Rattle.std.proofs.Common.{Bor}
use Rattle.std.specs.Slice.{IsItemAt}
use Rattle.std.specs.List.{CopiedTo, SameBelow, SameFrom}
use Rattle.kinds.specs.Kinds.{kind_from}
use Rattle.rules.specs.Lists.{same, precedes}
use Rattle.rules.specs.Actions.{answered}
use Rattle.rules.specs.Program.{Limits, Name, Opnd}
use Rattle.rules.specs.Reading.{Env, Parser, lookup, bind, nil}
use Rattle.rules.specs.Lists.{or_else}
use Rattle.lexer.specs.Names.{name}
use Rattle.lexer.proofs.Texts.{same_eq}
use Rattle.memory.specs.Layout.{script_most}
use Rattle.variables.specs.Layout.{bindings_most, entries_most, variables_size, tag_room}
use Rattle.variables.specs.Scopes.{Above, Sorted, over, env_of, join_rows}
use Rattle.std.specs.Ordering.{nat_cmp}
use Rattle.std.specs.Cmp.Lexicographic.{slice_cmp}
use Rattle.lexer.proofs.Names.{precedes-is, same-is}
use Rattle.variables.proofs.scopes.Order as Order
use Rattle.variables.proofs.scopes.Order.{impossible, same_self, below_differ, below-same, stands}
use Rattle.variables.proofs.scopes.Sorted.{above_trans, lookup-here, lookup-on}
use Rattle.variables.proofs.scopes.Made.{env_sorted, lookup-env}
use Rattle.variables.proofs.scopes.Joins.{rows-done, rows_left, rows_right, rows_both}
use Rattle.variables.proofs.scopes.Rows.{RowBelow, below_trans, sorted_below, sorted_rest, bind-at, bind_between}
use Rattle.variables.specs.Memory.{start_in, length_in, tag_in, name_in, opnd_from, Entry, entry_of, entry, put, binding_in, made, vars, row, Kept}
use Rattle.std.specs.Prelude.{Some, None, Ok, Err, unwrap_or}
use Rattle.std.specs.declared.cmp.Ordering.{Ordering}
use Rattle.std.specs.declared.cmp.Ordering.TheVariants.{Less, Equal, Greater}
use Rattle.std.specs.declared.option.Option.{Option}
use Rattle.std.specs.declared.result.Result.{Result}
use Rattle.variables.specs.Promises.{
  Packed,
  Tagged,
  VariableBinds,
  BindsAgain,
  IsAt,
  VariableFinds,
  Values,
  Stands,
  BothAside,
  VariableStands,
  Belongs,
  Sought,
  Lifted,
  Inserts,
  VariablesTurned,
  latest,
}
use Rattle.variables.specs.Promises.{VariablesBlank, Noted, Fills, Since, Notes, Full, NotesRow, VariableJoins}
use Rattle.variables.specs.declared.Rows.{Rows}
use Rattle.variables.specs.declared.operands.Stored.{Stored}
use Rattle.variables.proofs.Entries.{put-length, put_this, kept-all, kept_trans, kept-part, kept_put, made_kept, row_move, row_kept, row_split, row_first, cut}

-- ---- names

pub retagged : (w t : ℕ) → t < tag_room → Tagged w t (w / tag_room * tag_room + t)
unfolding name_in
retagged w t h =
    let a : start_in (w / tag_room * tag_room + t) ≡ start_in w = omega arith in
    let b : length_in (w / tag_room * tag_room + t) ≡ length_in w = omega arith in
    record { name = λ s. rw (a, b); tag = omega arith }

pub named-is : (s : List ℕ) (w : ℕ) {a k : ℕ} {x : Name} → a ≡ start_in w → k ≡ length_in w → x ≡ name s a k → x ≡ name_in s w
unfolding name_in
named-is s w p q h = rw (← p, ← q) h

pub order-is : (v w : Name) (r : Ordering) → r ≡ slice_cmp nat_cmp v w → Stands v w r
order-is v w Less e = sym (precedes-is v w Less e)
order-is v w Equal e = same_eq v w (sym (same-is v w Equal e))
order-is v w Greater e = by (stands v w)
  where
    by : Order.OrderStands v w → precedes w v ≡ true
    by (Order.before c d h i) = impossible c (sym (precedes-is v w Greater e))
    by (Order.equal c d h) = impossible h (sym (same-is v w Greater e))
    by (Order.behind c d h i) = d

-- ---- bindings

module _ (m : List ℕ) (n w x : ℕ) (h : (variables_size ≤ length m) × (n < bindings_most)) where
  put-old : Kept 0 n m (put m n w x)
  put-old = kept_put 0 n m n w x (omega arith) (omega arith) (λ j c d z. omega arith)

  put-vars : (s : List ℕ) → vars s (put m n w x) (n + 1) ≡ bind (name_in s w) (opnd_from (tag_in w) x) (vars s m n)
  unfolding made over
  put-vars s =
      let z : 0 + n ≡ n = omega arith in
      rw (add-one, z, put_this m n w x h.0 (omega arith), made_kept s m (put m n w x) 0 n 0 n put-old (omega arith) (omega arith))

  put-aside : Kept bindings_most entries_most m (put m n w x)
  put-aside = kept_put bindings_most entries_most m n w x (omega arith) (omega arith) (λ j c d z. omega arith)

pub binds : (m : List ℕ) (n a k t x : ℕ) {m' : List ℕ} {w : ℕ} → (variables_size ≤ length m) × (n < bindings_most) → Packed a k t w → m' ≡ put m n w x → VariableBinds n a k t x m m'
unfolding name_in
binds m n a k t x {m'} {w} h p e = rw e (record {
  len_same = put-length m n w x;
  is = λ s. rw (p.start, p.length, p.tag) at (put-vars m n w x h s);
  old = put-old m n w x h;
  aside = put-aside m n w x h;
})

pub binds_again : (m : List ℕ) (n w t x : ℕ) {m' : List ℕ} {v : ℕ} → (variables_size ≤ length m) × (n < bindings_most) → Tagged w t v → m' ≡ put m n v x
    → BindsAgain n w t x m m'
binds_again m n w t x {m'} {v} h p e =
    rw e (record {
      len_same = put-length m n v x;
      is = λ s. rw (p.name s, p.tag) at (put-vars m n v x h s);
      old = put-old m n v x h;
      aside = put-aside m n v x h;
    })

pub operand_is : (m : List ℕ) (i : ℕ) {t : ℕ} {p : t < tag_room} → (t ≡ tag_in (get_or m i 0)) × (t < tag_room) → IsAt m i (record { tag = t; bits = get_or m (entries_most + i) 0; small = p })
unfolding entry
operand_is m i h = record { tag = h.0; bits = refl }

-- ---- find, at its loop's head: a lookup in the bindings not yet seen is one in all

pub record Finding (s m : List ℕ) (n : ℕ) (k : Name) (i : ℕ) : Type 0 where
  pub high : i ≤ n
  pub same : lookup k (made s m 0 i) ≡ lookup k (made s m 0 n)

pub find_start : (s m : List ℕ) (n : ℕ) (k : Name) → Finding s m n k n
find_start s m n k = record { high = omega arith; same = refl }

module _ {s m : List ℕ} {n : ℕ} {k : Name} {i : ℕ} (g : Finding s m n k i) where
  made-last : 0 < i → made s m 0 i ≡ binding_in s (entry m (i - 1)) ∷ made s m 0 (i - 1)
  unfolding made
  made-last h = go i h
    where
      go : (j : ℕ) → 0 < j → made s m 0 j ≡ binding_in s (entry m (j - 1)) ∷ made s m 0 (j - 1)
      go zero h = absurd (omega arith)
      go (suc j) h = let e : suc j - 1 ≡ j = omega arith in let z : 0 + j ≡ j = omega arith in rw (e, z)

  pub find_none : i ≤ 0 → VariableFinds s m n k None
  unfolding made
  find_none h = record { is = (let e : i ≡ 0 = omega arith in rw e at g.same) ∙ sym (lookup-env k (made s m 0 n)) }

  pub find_hit : {x : Name} {r : Bool} {o : Stored} → 0 < i → x ≡ name_in s (get_or m (i - 1) 0) → r ≡ same x k → r ≡ true → IsAt m (i - 1) o → VariableFinds s m n k (Some o)
  unfolding entry
  find_hit {x} {r} {o} h p q f u =
      let b = binding_in s (entry m (i - 1)) in
      let e : r ≡ same b.0 k = rw p at q in
      record {
        is = rw (u.tag, u.bits) (sym (lookup-here k b (made s m 0 (i - 1)) (same_eq b.0 k (sym e ∙ f))) ∙ (ap (lookup k) (sym (made-last h)) ∙ (g.same ∙ sym (lookup-env k (made s m 0 n)))));
      }

  pub find_more : {x : Name} {r : Bool} → 0 < i → x ≡ name_in s (get_or m (i - 1) 0) → r ≡ same x k → r ≡ false → Finding s m n k (i - 1)
  unfolding entry
  find_more {x} {r} h p q f =
      let b = binding_in s (entry m (i - 1)) in
      let e : r ≡ same b.0 k = rw p at q in
      record { high = omega (arith, g.high); same = sym (lookup-on k b (made s m 0 (i - 1)) (sym e ∙ f)) ∙ (ap (lookup k) (sym (made-last h)) ∙ g.same) }

-- ---- value

-- the operand nil, as it is stored
abbrev pub nil-stored : 1 < tag_room → Stored
nil-stored p = record { tag = 1; bits = 0; small = p }

module _ (s m : List ℕ) (n w : ℕ) where
  pub value_found : {o : Stored} → VariableFinds s m n (name_in s w) (Some o) → Values s m n w o
  value_found {o} g = record { is = ap (λ z. or_else z nil) g.is }

  pub value-nil : (p : 1 < tag_room) → VariableFinds s m n (name_in s w) None → Values s m n w (nil-stored p)
  unfolding opnd_from kind_from
  value-nil p g = record { is = ap (λ z. or_else z nil) g.is }

  value-either : (p : 1 < tag_room) (r : Option Stored) → VariableFinds s m n (name_in s w) r → Values s m n w (unwrap_or r (nil-stored p))
  value-either p (Some o) g = value_found g
  value-either p None g = value-nil p g

  pub value_is : {x : Name} {r : Option Stored} {o : Stored} (p : 1 < tag_room) → x ≡ name_in s w → VariableFinds s m n x r → o ≡ unwrap_or r (nil-stored p) → Values s m n w o
  value_is {r = r} p e g h = rw h (value-either p r (rw e at g))

-- ---- names of a row

module _ (s m : List ℕ) where
  -- the name at a row's head is below the rest
  rest-above : (lo n : ℕ) → Sorted (row s m lo n) → 0 < n → Above (name_in s (entry m lo).word) (row s m (lo + 1) (n - 1))
  rest-above lo n t h = (let t' : Sorted (binding_in s (entry m lo) ∷ row s m (lo + 1) (n - 1)) = rw (row_first s m lo n h) at t in t').0

  -- a name below the first of a row is below all of it
  above-row : (w lo n : ℕ) → Sorted (row s m lo n) → 0 < n → precedes (name_in s w) (name_in s (get_or m lo 0)) ≡ true → Above (name_in s w) (row s m lo n)
  unfolding entry
  above-row w lo n t h p = rw (row_first s m lo n h) (p, above_trans (name_in s w) (name_in s (get_or m lo 0)) (row s m (lo + 1) (n - 1)) p (rest-above lo n t h))

  sorted_from : (lo n j : ℕ) → j ≤ n → Sorted (row s m lo n) → Sorted (row s m (lo + j) (n - j))
  sorted_from lo n j h t = sorted_rest (row s m lo j) _ (rw (cut s m lo n j h) at t)

  above_at : (k : Name) (lo n p : ℕ) → Above k (row s m lo n) → lo ≤ p → p < lo + n → precedes k (name_in s (entry m p).word) ≡ true
  unfolding row
  above_at k lo zero p a l h = absurd (omega arith)
  above_at k lo (suc n) p a l h = elim (ℕ_discrete p lo) [
    | yes e ↦ rw e a.0
    | no e ↦ above_at k (lo + 1) n p a.1 (omega arith) (omega arith)
  ]

  below_at : (k : Name) (lo n p : ℕ) → RowBelow (row s m lo n) k → lo ≤ p → p < lo + n → precedes (name_in s (entry m p).word) k ≡ true
  unfolding row
  below_at k lo zero p a l h = absurd (omega arith)
  below_at k lo (suc n) p a l h = elim (ℕ_discrete p lo) [
    | yes e ↦ rw e a.0
    | no e ↦ below_at k (lo + 1) n p a.1 (omega arith) (omega arith)
  ]

  -- an earlier entry has a lower name
  rising : (lo n p q : ℕ) → Sorted (row s m lo n) → lo ≤ p → p < q → q < lo + n → precedes (name_in s (entry m p).word) (name_in s (entry m q).word) ≡ true
  rising lo n p q t a b c =
      let e : lo + (p - lo) ≡ p = omega arith in
      let t' : Sorted (row s m p (n - (p - lo))) = rw e at (sorted_from lo n (p - lo) (omega arith) t) in
      above_at (name_in s (entry m p).word) (p + 1) (n - (p - lo) - 1) q (rest-above p (n - (p - lo)) t' (omega arith)) (omega arith) (omega arith)

-- ---- seek, at its loop's head: the name is below all from b on, and above the one before a

pub record Seeking (s m : List ℕ) (lo n w a b : ℕ) : Type 0 where
  pub low : a ≤ b
  pub high : b ≤ n
  pub below : Above (name_in s w) (row s m (lo + b) (n - b))
  pub above : 0 < a → precedes (name_in s (entry m (lo + (a - 1))).word) (name_in s w) ≡ true

pub seek_start : (s m : List ℕ) (lo n w : ℕ) → Seeking s m lo n w 0 n
unfolding row
seek_start s m lo n w = record { low = omega arith; high = omega arith; below = (let e : n - n ≡ 0 = omega arith in rw e tt); above = λ z. absurd (omega arith) }

module _ {s m : List ℕ} {lo n w a b : ℕ} (g : Seeking s m lo n w a b) where
  module _ {j : ℕ} (h : (a ≤ j) × (j < b)) {x : Name} {r : Ordering} (p : x ≡ name_in s w) (q : Stands x (name_in s (get_or m (lo + j) 0)) r) where
    pub seek_down : Sorted (row s m lo n) → r ≡ Less → Seeking s m lo n w a j
    seek_down t f = record {
      low = h.0;
      high = omega (arith, g.high);
      below = above-row s m w (lo + j) (n - j) (sorted_from s m lo n j (omega (arith, g.high)) t) (omega (arith, g.high)) (rw p at (rw f at q));
      above = g.above;
    }

    pub seek_at : r ≡ Equal → VariableStands s m lo n w j
    unfolding entry
    seek_at f = record { inside = omega (arith, g.high); is = sym (rw p at (rw f at q)) }

    pub seek_up : r ≡ Greater → Seeking s m lo n w (j + 1) b
    unfolding entry
    seek_up f = record {
      low = omega arith;
      high = g.high;
      below = g.below;
      above = λ z. let d : (j + 1) - 1 ≡ j = omega arith in rw d (rw p at (rw f at q));
    }

-- ---- lift: both columns are copied up by one

module _ (at k : ℕ) (m m₁ m' : List ℕ) (room : (variables_size ≤ length m) × (at + k < entries_most)) where
  pub lifts : length m₁ ≡ length m → length m' ≡ length m₁
      → CopiedTo m m₁ at (at + 1) ((at + k) - at) × (SameBelow m m₁ (at + 1) × SameFrom m m₁ ((at + 1) + ((at + k) - at)))
      → CopiedTo m₁ m' (entries_most + at) ((entries_most + at) + 1) (((entries_most + at) + k) - (entries_most + at))
      × (SameBelow m₁ m' ((entries_most + at) + 1) × SameFrom m₁ m' (((entries_most + at) + 1) + (((entries_most + at) + k) - (entries_most + at))))
      → Lifted at k m m'
  unfolding entry
  lifts len len' c d = record {
    len_same = len' ∙ len;
    moved = λ i h.
        let p : at + ((at + 1 + i) - (at + 1)) ≡ at + i = omega arith in
        let q : (entries_most + at) + ((entries_most + (at + 1 + i)) - ((entries_most + at) + 1)) ≡ entries_most + (at + i) = omega arith in
        let a : get_or m' (at + 1 + i) 0 ≡ get_or m (at + i) 0 = d.1.0 (at + 1 + i) 0 (omega arith) ∙ rw p at (c.0 (at + 1 + i) 0 (omega arith) (omega arith)) in
        let b : get_or m' (entries_most + (at + 1 + i)) 0 ≡ get_or m (entries_most + (at + i)) 0
        = rw q at (d.0 (entries_most + (at + 1 + i)) 0 (omega arith) (omega arith)) ∙ c.1.1 (entries_most + (at + i)) 0 (omega arith) in
        rw (a, b);
    low = record {
      same = λ i l h.
          let a : get_or m' i 0 ≡ get_or m i 0 = d.1.0 i 0 (omega arith) ∙ c.1.0 i 0 (omega arith) in
          let b : get_or m' (entries_most + i) 0 ≡ get_or m (entries_most + i) 0 = d.1.0 (entries_most + i) 0 (omega arith) ∙ c.1.1 (entries_most + i) 0 (omega arith) in
          rw (a, b);
      beyond = λ i h. d.1.1 i 0 (omega arith) ∙ c.1.1 i 0 (omega arith);
    };
    high = record {
      same = λ i l h.
          let a : get_or m' i 0 ≡ get_or m i 0 = d.1.0 i 0 (omega arith) ∙ c.1.1 i 0 (omega arith) in
          let b : get_or m' (entries_most + i) 0 ≡ get_or m (entries_most + i) 0 = d.1.1 (entries_most + i) 0 (omega arith) ∙ c.1.1 (entries_most + i) 0 (omega arith) in
          rw (a, b);
      beyond = λ i h. d.1.1 i 0 (omega arith) ∙ c.1.1 i 0 (omega arith);
    };
  }

-- ---- insert

below_append : (e : Env) (y : Name × Opnd) (k : Name) → RowBelow e k → precedes y.0 k ≡ true → RowBelow (e ++ y ∷ []) k
below_append [] y k b p = (p, tt)
below_append (x ∷ e) y k b p = (b.0, below_append e y k b.1 p)

-- a row around its entry j
around : (s m : List ℕ) (lo n j : ℕ) → j < n → row s m lo n ≡ row s m lo j ++ binding_in s (entry m (lo + j)) ∷ row s m (lo + j + 1) (n - j - 1)
around s m lo n j h =
    let e : n ≡ j + (n - j) = omega arith in
    ap (row s m lo) e ∙ (row_split s m lo j (n - j) ∙ ap (λ l. row s m lo j ++ l) (row_first s m (lo + j) (n - j) (omega arith)))

below_row : (s m : List ℕ) (lo n w i : ℕ) → Sorted (row s m lo n) → Belongs s m lo n w i → RowBelow (row s m lo i) (name_in s w)
unfolding row
below_row s m lo n w zero sorted g = tt
below_row s m lo n w (suc i) sorted g =
    let h : suc i - 1 ≡ i = omega arith in
    let y = binding_in s (entry m (lo + i)) in
    let t : Sorted (row s m lo i ++ y ∷ row s m (lo + i + 1) (n - i - 1)) = rw (around s m lo n i g.inside) at sorted in
    let up : precedes y.0 (name_in s w) ≡ true = rw h at (g.above (omega arith)) in
    let z : suc i ≡ i + 1 = omega arith in
    subst (λ l. RowBelow l (name_in s w)) (sym (ap (row s m lo) z ∙ row_split s m lo i 1))
    (below_append (row s m lo i) y (name_in s w) (below_trans (row s m lo i) y.0 (name_in s w) (sorted_below (row s m lo i) y (row s m (lo + i + 1) (n - i - 1)) t) up) up)

module _ (s : List ℕ) (lo n w x : ℕ) (m : List ℕ) (room : (variables_size ≤ length m) × (lo + n < entries_most)) (sorted : Sorted (row s m lo n)) where
  pub insert_at : {r : Result ℕ ℕ} (j : ℕ) (m' : List ℕ) → Sought s m lo n w r → r ≡ Ok j → m' ≡ put m (lo + j) w x → Inserts s lo n w x m m' n
  insert_at j m' sought o e =
      let g : VariableStands s m lo n w j = rw o at sought in
      let in_row : j < n = g.inside in
      let p = put m (lo + j) w x in
      let front : row s p lo j ≡ row s m lo j
      = row_kept s m p lo j 0 (lo + j) (kept_put 0 (lo + j) m (lo + j) w x (omega arith) (omega arith) (λ i a b z. omega arith)) (omega arith) (omega arith) in
      let back : row s p (lo + j + 1) (n - j - 1) ≡ row s m (lo + j + 1) (n - j - 1)
      = row_kept s m p (lo + j + 1) (n - j - 1) (lo + j + 1) entries_most
      (kept_put (lo + j + 1) entries_most m (lo + j) w x (omega arith) (omega arith) (λ i a b z. omega arith)) (omega arith) (omega arith) in
      let this : entry p (lo + j) ≡ entry_of w x = put_this m (lo + j) w x room.0 (omega arith) in
      let whole = around s m lo n j in_row in
      let t : Sorted (row s m lo j ++ binding_in s (entry m (lo + j)) ∷ row s m (lo + j + 1) (n - j - 1)) = rw whole at sorted in
      rw e (record {
        len_same = put-length m (lo + j) w x;
        is = around s p lo n j in_row ∙ (rw (front, back, this)
            (sym (bind-at (name_in s w) (opnd_from (tag_in w) x) (row s m lo j) (binding_in s (entry m (lo + j))) (row s m (lo + j + 1) (n - j - 1)) t g.is))
            ∙ ap (bind (name_in s w) (opnd_from (tag_in w) x)) (sym whole));
        more = omega arith;
        low = kept_put 0 lo m (lo + j) w x (omega arith) (omega arith) (λ i a b z. omega arith);
      })

  pub insert_new : {r : Result ℕ ℕ} (i : ℕ) (m1 m' : List ℕ) → Sought s m lo n w r → r ≡ Err i → Lifted (lo + i) (n - i) m m1 → m' ≡ put m1 (lo + i) w x
      → Inserts s lo n w x m m' (n + 1)
  insert_new i m1 m' sought o l e =
      let g : Belongs s m lo n w i = rw o at sought in
      let in_row : i ≤ n = g.inside in
      let len1 : length m1 ≡ length m = l.len_same in
      let p = put m1 (lo + i) w x in
      let front : row s p lo i ≡ row s m lo i
      = row_kept s m1 p lo i 0 (lo + i) (kept_put 0 (lo + i) m1 (lo + i) w x (omega arith) (omega arith) (λ j a b z. omega arith)) (omega arith) (omega arith)
      ∙ row_kept s m m1 lo i 0 (lo + i) l.low (omega arith) (omega arith) in
      let back : row s p (lo + i + 1) (n - i) ≡ row s m (lo + i) (n - i)
      = row_kept s m1 p (lo + i + 1) (n - i) (lo + i + 1) entries_most
      (kept_put (lo + i + 1) entries_most m1 (lo + i) w x (omega arith) (omega arith) (λ j a b z. omega arith)) (omega arith) (omega arith)
      ∙ row_move s m m1 (lo + i) (lo + i + 1) (n - i) l.moved in
      let this : entry p (lo + i) ≡ entry_of w x = put_this m1 (lo + i) w x (omega arith) (omega arith) in
      let whole = cut s m lo n i in_row in
      let rest : (n + 1) - i - 1 ≡ n - i = omega arith in
      rw e (record {
        len_same = put-length m1 (lo + i) w x ∙ len1;
        is = around s p lo (n + 1) i (omega arith) ∙ (rw (front, rest, back, this)
            (sym (bind_between (name_in s w) (opnd_from (tag_in w) x) (row s m lo i) (row s m (lo + i) (n - i)) (below_row s m lo n w i sorted g) g.below))
            ∙ ap (bind (name_in s w) (opnd_from (tag_in w) x)) (sym whole));
        more = omega arith;
        low = kept_trans (kept-part 0 (lo + i) 0 lo m m1 (omega arith) (omega arith) l.low) (kept_put 0 lo m1 (lo + i) w x (omega arith) (omega arith) (λ j a b z. omega arith));
      })

-- ---- set_aside, at its loop's head: the row is what the first i bindings come to

pub record Leaving (s : List ℕ) (mark k to : ℕ) (m₀ : List ℕ) (i n : ℕ) (m : List ℕ) : Type 0 where
  pub high : i ≤ k
  pub less : n ≤ i
  pub len_same : length m ≡ length m₀
  pub is : row s m to n ≡ env_of (made s m₀ mark i)
  pub low : Kept 0 to m₀ m

pub leave-start : (s : List ℕ) (mark k to : ℕ) (m : List ℕ) → Leaving s mark k to m 0 0 m
unfolding row made over
leave-start s mark k to m = record { high = omega arith; less = omega arith; len_same = refl; is = refl; low = kept-all 0 to m }

module _ {s : List ℕ} {mark k to : ℕ} {m₀ : List ℕ} {i n : ℕ} {m : List ℕ} (g : Leaving s mark k to m₀ i n m) where
  pub leave_sorted : Sorted (row s m to n)
  leave_sorted = rw g.is (env_sorted (made s m₀ mark i))

  pub leave-more : {n' : ℕ} {m' : List ℕ} → (mark + k ≤ to) × (to + k ≤ script_most) → i < k
      → Inserts s to n (get_or m (mark + i) 0) (get_or m (entries_most + (mark + i)) 0) m m' n' → Leaving s mark k to m₀ (i + 1) n' m'
  unfolding made entry over
  leave-more {n'} {m'} c h f =
      let q : entry m (mark + i) ≡ entry m₀ (mark + i) = g.low.same (mark + i) (omega arith) (omega arith) in
      record {
        high = omega arith;
        less = omega (arith, g.less, f.more);
        len_same = f.len_same ∙ g.len_same;
        is = rw add-one (f.is ∙ (ap (bind (name_in s (entry m (mark + i)).word) (opnd_from (tag_in (entry m (mark + i)).word) (entry m (mark + i)).payload)) g.is
            ∙ ap (λ (z : Entry). bind (name_in s z.word) (opnd_from (tag_in z.word) z.payload) (env_of (made s m₀ mark i))) q));
        low = kept_trans g.low f.low;
      }

-- ---- notes

module _ (s m : List ℕ) (k : Name) where
  -- a lookup in all bindings is one in those up to the latest, which has the name
  record Latest (n i : ℕ) : Type 0 where
    pub finding : Finding s m n k i
    pub same : 0 < i → same (name_in s (get_or m (i - 1) 0)) k ≡ true

  latest-is : (n : ℕ) → Latest n (latest s m k n)
  unfolding latest made entry
  latest-is zero = record { finding = find_start s m 0 k; same = λ h. absurd (omega arith) }
  latest-is (suc n) = by (same (name_in s (get_or m n 0)) k) refl (latest-is n)
    where
      by : (t : Bool) → same (name_in s (get_or m n 0)) k ≡ t → Latest n (latest s m k n) → Latest (suc n) (cond t (suc n) (latest s m k n))
      by true e g = record { finding = find_start s m (suc n) k; same = λ h. let d : suc n - 1 ≡ n = omega arith in rw d e }
      by false e g =
          let z : 0 + n ≡ n = omega arith in
          record {
            finding = record { high = omega (arith, g.finding.high); same = g.finding.same ∙ sym (rw z (lookup-on k (binding_in s (entry m n)) (made s m 0 n) e)) };
            same = g.same;
          }

-- the latest binding of a name is not before any of that name
latest-least : (s m : List ℕ) (k : Name) (n i : ℕ) → i < n → same (name_in s (get_or m i 0)) k ≡ true → i < latest s m k n
unfolding latest entry
latest-least s m k zero i l e = absurd (omega arith)
latest-least s m k (suc n) i l e = by (same (name_in s (get_or m n 0)) k) refl (latest-least s m k n i)
  where
    by : (t : Bool) → same (name_in s (get_or m n 0)) k ≡ t → (i < n → same (name_in s (get_or m i 0)) k ≡ true → i < latest s m k n) → i < cond t (suc n) (latest s m k n)
    by true f h = omega arith
    by false f h = elim (ℕ_discrete i n) [
      | yes z ↦ impossible (rw z at e) f
      | no z ↦ h (omega arith) e
    ]

latest-kept : (s m m' : List ℕ) (k : Name) (n : ℕ) → Kept 0 n m m' → latest s m' k n ≡ latest s m k n
unfolding latest
latest-kept s m m' k zero h = refl
latest-kept s m m' k (suc n) h = rw (h.same n (omega arith) (omega arith), latest-kept s m m' k n (kept-part 0 (suc n) 0 n m m' (omega arith) (omega arith) h))

-- what is noted for a row holds of a part of it, and where the bindings and the row stay
pub noted-part : {s m : List ℕ} {base lo n : ℕ} {g : List ℕ} (x : ℕ) → x ≤ n → Noted s m base lo n g → Noted s m base (lo + x) (n - x) g
noted-part x h f = record { is = λ p a b. f.is p (omega arith) (omega arith) }

pub noted-kept : {s m : List ℕ} {base lo n : ℕ} {g : List ℕ} (m' : List ℕ) → Kept 0 base m m' → Kept bindings_most entries_most m m' → bindings_most ≤ lo
    → lo + n ≤ entries_most → Noted s m base lo n g → Noted s m' base lo n g
noted-kept {s} {m} {base} m' old aside a b f = record {
  is = λ p c d e. rw (aside.same p (omega arith) (omega arith), latest-kept s m m' (name_in s (entry m p).word) base old) (f.is p c d e);
}

pub zeros-blank : (n : ℕ) → VariablesBlank (replicate n 0)
zeros-blank n = record { is = at n }
  where
    at : (n i : ℕ) → ◌≡◌ {A = ℕ} (get_or (replicate n 0) i 0) 0
    at zero i = refl
    at (suc n) zero = refl
    at (suc n) (suc i) = at n i

pub noted-blank : {g : List ℕ} (s m : List ℕ) (lo n : ℕ) → VariablesBlank g → Noted s m 0 lo n g
unfolding latest
noted-blank s m lo n f = record { is = λ p a b c. f.is (p - bindings_most) }

fills-none : (lo n : ℕ) (g : List ℕ) → Fills lo n g g
fills-none lo n g = record { len_same = refl; more = λ i e. e; before = λ p a b. refl; behind = λ p a. refl }

abbrev name-at : List ℕ → List ℕ → ℕ → Name
name-at s m p = name_in s (entry m p).word

module _ (s m : List ℕ) (lo n i : ℕ) (g : List ℕ) (room : (bindings_most ≤ length g) × (i < entries_most)) (low : bindings_most ≤ lo) (inside : lo + n ≤ entries_most)
    (sorted : Sorted (row s m lo n)) (r : Result ℕ ℕ) (u : Sought s m lo n (get_or m i 0) r) where
  -- an entry whose name binding i has not
  other : (base p : ℕ) → Since s m base (i + 1) lo n g → lo ≤ p → p < lo + n → same (name_in s (get_or m i 0)) (name-at s m p) ≡ false → i < latest s m (name-at s m p) base
      → get_or g (p - bindings_most) 0 ≡ latest s m (name-at s m p) base
  other base p f a b e l = elim (ℕ_discrete (latest s m (name-at s m p) base) (i + 1)) [
    | yes z ↦ (let d : latest s m (name-at s m p) base - 1 ≡ i = omega arith in impossible (rw d at ((latest-is s m (name-at s m p) base).same (omega arith))) e)
    | no z ↦ f.noted p a b (omega arith)
  ]

  pub note_new : {j : ℕ} → r ≡ Err j → Notes s m i lo n g g
  note_new {j} o =
      let w = get_or m i 0 in
      let bl : Belongs s m lo n (get_or m i 0) j = rw o at u in
      let j-in : j ≤ n = bl.inside in
      record {
        fills = fills-none lo n g;
        is = λ base l f. record {
          noted = λ p a b h. other base p f a b (elim (dec_lt p (lo + j)) [
            | yes y ↦ below_differ (name-at s m p) (name_in s w) (below_at s m (name_in s w) lo j p (below_row s m lo n w j sorted bl) a y)
            | no y ↦ below-same (name_in s w) (name-at s m p) (above_at s m (name_in s w) (lo + j) (n - j) p bl.below (omega arith) (omega arith))
          ]) h;
          blank = λ p a b h. f.blank p a b (omega arith);
        };
      }

  module _ {j : ℕ} (o : r ≡ Ok j) where
    found : VariableStands s m lo n (get_or m i 0) j
    found = rw o at u

    at_in : j < n
    at_in = found.inside

    this : (base : ℕ) → i < base → i < latest s m (name-at s m (lo + j)) base
    this base l = latest-least s m (name-at s m (lo + j)) base i l (rw found.is (same_self (name_in s (get_or m i 0))))

    apart : (p : ℕ) → lo ≤ p → p < lo + n → (p ≡ lo + j → ⊥) → same (name_in s (get_or m i 0)) (name-at s m p) ≡ false
    apart p a b z = rw (← found.is) (elim (dec_lt p (lo + j)) [
      | yes y ↦ below_differ (name-at s m p) (name-at s m (lo + j)) (rising s m lo n p (lo + j) sorted a y (omega (arith, at_in)))
      | no y ↦ below-same (name-at s m (lo + j)) (name-at s m p) (rising s m lo n (lo + j) p sorted (omega arith) (omega arith) b)
    ])

    place_of : (lo + j) - bindings_most ≡ lo - bindings_most + j
    place_of = omega arith

    pub note_other : (get_or g (lo - bindings_most + j) 0 ≡ 0 → ⊥) → Notes s m i lo n g g
    note_other v = record {
      fills = fills-none lo n g;
      is = λ base l f. record {
        noted = λ p a b h. elim (ℕ_discrete p (lo + j)) [
          | yes z ↦ elim (dec_lt (i + 1) (latest s m (name-at s m p) base)) [
            | yes y ↦ f.noted p a b y
            | no y ↦ (let d : p - bindings_most ≡ lo - bindings_most + j = omega arith in absurd (v (rw d at (f.blank p a b (omega arith)))))
          ]
          | no z ↦ other base p f a b (apart p a b z) h
        ];
        blank = λ p a b h. f.blank p a b (omega arith);
      };
    }

    module _ {g' : List ℕ} (v : get_or g (lo - bindings_most + j) 0 ≡ 0) (e : g' ≡ set g (lo - bindings_most + j) (i + 1)) where
      set_here : get_or g' (lo - bindings_most + j) 0 ≡ i + 1
      set_here = rw e (get_or-set_same g (lo - bindings_most + j) (i + 1) 0 (omega (arith, at_in)))

      set_there : (q : ℕ) → (q ≡ lo - bindings_most + j → ⊥) → get_or g' q 0 ≡ get_or g q 0
      set_there q z = rw e (get_or-set_other g (lo - bindings_most + j) q (i + 1) 0 z)

      -- no later binding has the name
      alone : (base : ℕ) → i < base → Since s m base (i + 1) lo n g → latest s m (name-at s m (lo + j)) base ≡ i + 1
      alone base l f = elim (dec_lt (i + 1) (latest s m (name-at s m (lo + j)) base)) [
        | yes y ↦ absurd (omega (arith, v, rw place_of at (f.noted (lo + j) (omega arith) (omega (arith, at_in)) y)))
        | no y ↦ omega (arith, this base l)
      ]

      pub note_first : Notes s m i lo n g g'
      note_first = record {
        fills = record {
          len_same = rw e (length-set g (lo - bindings_most + j) (i + 1));
          more = λ q z. elim (ℕ_discrete q (lo - bindings_most + j)) [
            | yes y ↦ rw y v
            | no y ↦ sym (set_there q y) ∙ z
          ];
          before = λ p a b. set_there (p - bindings_most) (λ y. omega arith);
          behind = λ p a. set_there (p - bindings_most) (λ y. omega (arith, at_in));
        };
        is = λ base l f. record {
          noted = λ p a b h. elim (ℕ_discrete p (lo + j)) [
            | yes z ↦ rw (z, place_of) (set_here ∙ sym (alone base l f))
            | no z ↦ set_there (p - bindings_most) (λ y. z (omega arith)) ∙ other base p f a b (apart p a b z) h
          ];
          blank = λ p a b h. elim (ℕ_discrete p (lo + j)) [
            | yes z ↦ absurd (omega (arith, this base l, rw z at h))
            | no z ↦ set_there (p - bindings_most) (λ y. z (omega arith)) ∙ f.blank p a b (omega arith)
          ];
        };
      }

-- note_row, at its loop's head: the bindings from i on are noted, and the first u entries have notes
pub record Noting (s m : List ℕ) (base lo n : ℕ) (g₀ : List ℕ) (i u : ℕ) (g : List ℕ) : Type 0 where
  pub high : i ≤ base
  pub up : u ≤ n
  pub full : Full lo u g
  pub fills : Fills lo n g₀ g
  pub is : Since s m base i lo n g

pub noting_start : {s m g : List ℕ} {lo n : ℕ} (base : ℕ) → bindings_most ≤ lo → lo + n ≤ entries_most → bindings_most ≤ length g → Noted s m 0 lo n g → Noting s m base lo n g base 0 g
unfolding latest
noting_start {s} {m} {g} {lo} {n} base low inside room f = record {
  high = omega arith;
  up = omega arith;
  full = record { is = λ p a b. absurd (omega arith) };
  fills = fills-none lo n g;
  is = record {
    noted = λ p a b h. absurd (omega (arith, (latest-is s m (name_in s (entry m p).word) base).finding.high));
    blank = λ p a b h. f.is p a b (omega arith);
  };
}

module _ {s m : List ℕ} {base lo n hi k : ℕ} {g g1 : List ℕ} (low : bindings_most ≤ lo) (inside : hi + k ≤ entries_most) (apart : lo + n ≤ hi)
    (blank : VariablesBlank g) (f : NotesRow s m base lo n g g1) where
  pub note_second : Noted s m 0 hi k g1
  unfolding latest
  note_second = record { is = λ p a b c. f.fills.behind p (omega arith) ∙ blank.is (p - bindings_most) }

-- ---- value_at

-- what `get` lends at a place that there is
pub item-is : (g : List ℕ) (q : ℕ) (x : Bor ℕ) → IsItemAt g q (Some x) → (q < length g) × (x.now ≡ get_or g q 0)
item-is g q x f = (f.3.0, f.4 (omega arith) 0)

module _ {s m : List ℕ} {n p : ℕ} {g : List ℕ} (f : Noted s m n p 1 g) (h : p - bindings_most < length g) {i : ℕ} (e : i ≡ get_or g (p - bindings_most) 0) where
  noted-is : i ≡ latest s m (name_in s (entry m p).word) n
  noted-is = e ∙ f.is p (omega arith) (omega arith) h

  noted-latest : Latest s m (name_in s (entry m p).word) n i
  noted-latest = rw (noted-is) (latest-is s m (name_in s (entry m p).word) n)

  pub noted-low : n ≤ entries_most → i - 1 < entries_most
  noted-low h = omega (arith, noted-latest.finding.high)

  pub value_none : (b : 1 < tag_room) → i ≡ 0 → Values s m n (entry m p).word (nil-stored b)
  value_none b z = value-nil s m n (entry m p).word b (find_none noted-latest.finding (omega arith))

  pub value-noted : {o : Stored} → (i ≡ 0 → ⊥) → IsAt m (i - 1) o → Values s m n (entry m p).word o
  value-noted z u = value_found s m n (entry m p).word (find_hit noted-latest.finding (omega arith) refl refl (noted-latest.same (omega arith)) u)

pub value_looked : {s : List ℕ} {n : ℕ} {o : Stored} (m : List ℕ) (p : ℕ) → Values s m n (get_or m p 0) o → Values s m n (entry m p).word o
unfolding entry
value_looked m p f = f

-- ---- turn

module _ (s m : List ℕ) (lo n hi k : ℕ) (sorted : Sorted (row s m lo n) × Sorted (row s m hi k)) where
  pub turn_right-only : n ≡ 0 → (k ≡ 0 → ⊥) → VariablesTurned s m lo n hi k (Some Greater)
  unfolding row
  turn_right-only p q = (omega arith, rw p tt)

  pub turn_left-only : (n ≡ 0 → ⊥) → k ≡ 0 → VariablesTurned s m lo n hi k (Some Less)
  unfolding row
  turn_left-only p q = (omega arith, rw q tt)

  module _ (p : n ≡ 0 → ⊥) (q : k ≡ 0 → ⊥) where
    pub turn_both : {x : Name} (r : Ordering) → x ≡ name_in s (get_or m lo 0) → Stands x (name_in s (get_or m hi 0)) r → VariablesTurned s m lo n hi k (Some r)
    unfolding entry
    turn_both r z e = by r (rw z at e)
      where
        by : (r : Ordering) → Stands (name_in s (get_or m lo 0)) (name_in s (get_or m hi 0)) r → VariablesTurned s m lo n hi k (Some r)
        by Less e = (omega arith, above-row s m (get_or m lo 0) hi k sorted.1 (omega arith) e)
        by Equal e = (omega arith, (omega arith, e))
        by Greater e = (omega arith, above-row s m (get_or m hi 0) lo n sorted.0 (omega arith) e)

-- ---- next_join

pub both_sorted : {s m : List ℕ} (x : Rows) → BothAside s m x → Sorted (row s m x.left.lo x.left.len) × Sorted (row s m x.right.lo x.right.len)
both_sorted x a = (a.left.lies.sorted, a.right.lies.sorted)

module _ (s m : List ℕ) where
  abbrev first : ℕ → Name × Opnd
  first i = binding_in s (entry m i)

  stay : (lo n : ℕ) → row s m (lo + 0) (n - 0) ≡ row s m lo n
  stay lo n = let a : lo + 0 ≡ lo = omega arith in let b : n - 0 ≡ n = omega arith in rw (a, b)

module _ (s m : List ℕ) (base lo n hi k : ℕ) (sorted : Sorted (row s m lo n) × Sorted (row s m hi k)) where
  pub next-left : {o v : Stored} → VariablesTurned s m lo n hi k (Some Less) → IsAt m lo o → Values s m base (entry m lo).word v
      → VariableJoins s m base lo n hi k (record { word = get_or m lo 0; left = o; right = v; lefts = 1; rights = 0 })
  unfolding entry
  next-left {o} {v} f u w =
      let h : 0 < n = f.0 in
      record {
        lefts = h;
        rights = omega arith;
        some = omega arith;
        is = λ L b c st.
            rw (row_first s m lo n h, stay s m hi k, u.tag, u.bits, w.is)
            (rows_left L b c (vars s m base) (first s m lo) (row s m (lo + 1) (n - 1)) (row s m hi k) st (rest-above s m lo n sorted.0 h) f.1);
      }

  pub next-right : {o v : Stored} → VariablesTurned s m lo n hi k (Some Greater) → Values s m base (entry m hi).word v → IsAt m hi o
      → VariableJoins s m base lo n hi k (record { word = get_or m hi 0; left = v; right = o; lefts = 0; rights = 1 })
  unfolding entry
  next-right {o} {v} f w u =
      let h : 0 < k = f.0 in
      record {
        lefts = omega arith;
        rights = h;
        some = omega arith;
        is = λ L b c st.
            rw (row_first s m hi k h, stay s m lo n, u.tag, u.bits, w.is)
            (rows_right L b c (vars s m base) (first s m hi) (row s m lo n) (row s m (hi + 1) (k - 1)) st f.1 (rest-above s m hi k sorted.1 h));
      }

  pub next_both : {o v : Stored} → VariablesTurned s m lo n hi k (Some Equal) → IsAt m lo o → IsAt m hi v
      → VariableJoins s m base lo n hi k (record { word = get_or m lo 0; left = o; right = v; lefts = 1; rights = 1 })
  unfolding entry
  next_both {o} {v} f u w =
      let h : 0 < n = f.0 in
      let h' : 0 < k = f.1.0 in
      record {
        lefts = h;
        rights = h';
        some = omega arith;
        is = λ L b c st.
            rw (row_first s m lo n h, row_first s m hi k h', u.tag, u.bits, w.tag, w.bits)
            (rows_both L b c (vars s m base) (first s m lo) (first s m hi) (row s m (lo + 1) (n - 1)) (row s m (hi + 1) (k - 1)) st f.1.1
            (rest-above s m lo n sorted.0 h) (rw f.1.1 (rest-above s m hi k sorted.1 h')));
      }

  pub next-done : VariablesTurned s m lo n hi k None → (L : Limits) (b c : ℕ) (st : Parser) → join_rows L b c (vars s m base) (row s m lo n) (row s m hi k) st ≡ answered (tt, st)
  unfolding row
  next-done f L b c st = rw (f.0, f.1) (rows-done L b c (vars s m base) st)
