-- What a block sets, and what all blocks surely set. Assumes nothing.
use mathlib.Core.Bool.{Bool as 𝔹, true, false, not, ◌&&◌, ◌||◌}
use mathlib.Core.Option.{Option, none, some}
use mathlib.Core.Path.{◌≡◌, refl, sym, ap, ap₂, ◌∙◌, subst}
use mathlib.Core.List.{List, [], ◌∷◌, ◌++◌, map}
use Prim.Native.Nat.{ℕ, zero, suc, ◌+◌, ◌-◌, ◌*◌, ◌≤◌, ◌<◌}
use native.Mathlib.Omega.{arith}
use borrow.Author.Tests.{lt-ltb}
use lib.Bits.{bit_and, bit_or}
use lib.ListN.{length, get_or, set, length-set}
use lib.Seq.{get_or-set_same, get_or-set_other}
use Rattle.std.specs.Prelude as R
use Rattle.refusals.specs.declared.Refusal.{Refusal}
use Rattle.refusals.specs.declared.Refusal.TheVariants.{UndeclaredAttribute}
use Rattle.rules.specs.Lists.{any, all, same, has, to_list, concat}
use Rattle.rules.specs.Program as P
use Rattle.rules.specs.Program.{Program, about, op_of, code, ivar_named, returned_by}
use Rattle.rules.specs.Constructors.{end_of, sets_of, set_before, flow, initialized, declared}
use Rattle.program.specs.Rows.{insn_at, instruction_at, op_in, opnd_of, opnds_in, name_in, ivars_of}
use Rattle.program.specs.View.{program_view}
use Rattle.program.specs.declared.Counts.{Counts}
use Rattle.program.specs.declared.Name.{Name}
use Rattle.program.specs.declared.Row.{Row}
use Rattle.program.specs.declared.Op.{Op}
use Rattle.program.specs.declared.Op.TheVariants as O
use Rattle.program.proofs.Reading.{instruction-is}
use Rattle.chains.proofs.Remaining.{Within}
use Rattle.program.specs.Layout.{opnds_at}
use Rattle.constructors.specs.Layout.{order_at, outs_at, walk_size}
use Rattle.constructors.specs.declared.Ends.{Ends}
use Rattle.constructors.specs.Walks.{returning, Ended, out_of}
use Rattle.constructors.specs.Flows.{holds, done_from, or_false, Before, ivar_in, NamedIs, all_declared, SetsIs, SureIs}
use Rattle.constructors.proofs.Meeting.{holds-and, holds_or, holds-none, holds-full, full}

-- ---- the names that instructions set

abbrev set_in : List ℕ → Op → List (List ℕ)
set_in s (O.Jump b) = []
set_in s (O.IfTrue b e) = []
set_in s O.Return = []
set_in s (O.SendStatic f) = []
set_in s (O.SendDynamic n) = []
set_in s (O.Compute o) = []
set_in s (O.Phi b e) = []
set_in s (O.Param n) = []
set_in s (O.SelfParam c) = []
set_in s (O.New c) = []
set_in s (O.GetIvar n) = []
set_in s (O.SetIvar n) = name_in s n ∷ []

sets-is : (s : List ℕ) (o : Op) (l : List P.Opnd) → to_list (about (op_in s o l)).sets ≡ set_in s o
sets-is s (O.Jump b) l = refl
sets-is s (O.IfTrue b e) l = refl
sets-is s O.Return l = refl
sets-is s (O.SendStatic f) l = refl
sets-is s (O.SendDynamic n) l = refl
sets-is s (O.Compute o) l = refl
sets-is s (O.Phi b e) l = refl
sets-is s (O.Param n) l = refl
sets-is s (O.SelfParam c) l = refl
sets-is s (O.New c) l = refl
sets-is s (O.GetIvar n) l = refl
sets-is s (O.SetIvar n) l = refl

abbrev names_of : Program → List ℕ → List (List ℕ)
names_of p l = concat (map (λ i. to_list (about (op_of p i)).sets) l)

or_assoc : (a b c : 𝔹) → ((a || b) || c) ≡ (a || (b || c))
or_assoc true b c = refl
or_assoc false b c = refl

module _ (s m : List ℕ) (c : Counts) where
  names_at : (h : ℕ) (l : List ℕ) {r : Row} → h < c.insns → r ≡ insn_at m h → names_of (program_view s m c) (h ∷ l) ≡ set_in s r.op ++ names_of (program_view s m c) l
  unfolding instruction_at
  names_at h l {r} g e =
      ap (λ x. x ++ names_of (program_view s m c) l)
      (ap (λ (x : P.Instruction). to_list (about x.op).sets) (instruction-is s m c h g)
      ∙ (sets-is s (insn_at m h).op (map opnd_of (opnds_in m (opnds_at + 2 * (insn_at m h).first) (insn_at m h).count))
      ∙ sym (ap (λ (x : Row). set_in s x.op) e)))

-- what a question's answer says of its option
pub ok_some : (o : R.Option ℕ) (e : Refusal) {x : ℕ} → R.Ok x ≡ R.ok_or o e → o ≡ R.Some x
ok_some R.None e q = absurd (let w : ◌≡◌ {A = ℕ} 0 1 = cc in omega arith)
ok_some (R.Some y) e {x} q = let w : x ≡ y = cc in ap R.Some (sym w)

-- the instructions of block b that are left, and the attributes that those before them set
pub record Setting (s m : List ℕ) (c : Counts) (k b bits : ℕ) (rest : List ℕ) : Type 0 where
  pub within : Within c.insns rest
  pub sets : (a : ℕ) → a < ivars_of m k → (holds a bits || any (same (ivar_in s m k a)) (names_of (program_view s m c) rest)) ≡ any (same (ivar_in s m k a)) (sets_of (program_view s m c) b)
  pub asked : all_declared s m c k (names_of (program_view s m c) rest) ≡ all_declared s m c k (sets_of (program_view s m c) b)

pub set-start : (s m : List ℕ) (c : Counts) (k b : ℕ) {l : List ℕ} → Within c.insns (code (program_view s m c) b) → l ≡ code (program_view s m c) b → Setting s m c k b 0 l
unfolding sets_of
set-start s m c k b {l} w e =
    record {
      within = subst (λ (l : List ℕ). Within c.insns l) (sym e) w;
      sets = λ a h. ap (λ t. t || any (same (ivar_in s m k a)) (names_of (program_view s m c) l)) (holds-none a) ∙ ap (λ y. any (same (ivar_in s m k a)) (names_of (program_view s m c) y)) e;
      asked = ap (λ y. all_declared s m c k (names_of (program_view s m c) y)) e;
    }

module _ {s m : List ℕ} {c : Counts} {k b bits : ℕ} {left : List ℕ} (z : Setting s m c k b bits left) where
  module _ {h : ℕ} {rest : List ℕ} (more : left ≡ h ∷ rest) where
    pub set-below : h < c.insns
    set-below = (subst (λ (l : List ℕ). Within c.insns l) more z.within).0

    onward : Within c.insns rest
    onward = (subst (λ (l : List ℕ). Within c.insns l) more z.within).1

    module _ {r : Row} (re : r ≡ insn_at m h) where
      opened : names_of (program_view s m c) left ≡ set_in s r.op ++ names_of (program_view s m c) rest
      opened = ap (names_of (program_view s m c)) more ∙ names_at s m c h rest set-below re

      module _ {n : Name} {p : R.Option ℕ} (d : NamedIs s m c k n p) (q : r.op ≡ O.SetIvar n) where
        o : names_of (program_view s m c) left ≡ name_in s n ∷ names_of (program_view s m c) rest
        o = opened ∙ ap (λ y. set_in s y ++ names_of (program_view s m c) rest) q

        pub set_more : {x : ℕ} → ivars_of m k ≤ 64 → p ≡ R.Some x → Setting s m c k b (bit_or bits x) rest
        set_more {x} few f =
            record {
              within = onward;
              sets = λ a l.
                  let here : holds a x ≡ same (ivar_in s m k a) (name_in s n) =
                  sym (ap (λ y. holds a (R.unwrap_or y 0)) f) ∙ (d.places a (omega arith) ∙ ap (λ y. y && same (ivar_in s m k a) (name_in s n)) (lt-ltb a (ivars_of m k) l)) in
                  ap (λ y. y || any (same (ivar_in s m k a)) (names_of (program_view s m c) rest)) (holds_or a bits x ∙ ap (λ y. holds a bits || y) here)
                  ∙ (or_assoc (holds a bits) (same (ivar_in s m k a) (name_in s n)) (any (same (ivar_in s m k a)) (names_of (program_view s m c) rest))
                  ∙ (sym (ap (λ (y : List (List ℕ)). holds a bits || any (same (ivar_in s m k a)) y) o) ∙ z.sets a l));
              asked = sym (ap (all_declared s m c k) o ∙ ap (λ y. y && all_declared s m c k (names_of (program_view s m c) rest)) (d.declared ∙ ap R.is_some f)) ∙ z.asked;
            }

        -- an attribute of that name isn't declared
        pub set_stop : p ≡ R.None → SetsIs s m c k b (R.Err UndeclaredAttribute)
        set_stop f =
            record {
              asked = sym (sym (ap (all_declared s m c k) o ∙ ap (λ y. y && all_declared s m c k (names_of (program_view s m c) rest)) (d.declared ∙ ap R.is_some f)) ∙ z.asked);
              bits = λ y e. absurd (let w : ◌≡◌ {A = ℕ} 0 1 = cc in omega arith);
              refuses = λ e q. let w : UndeclaredAttribute ≡ e = cc in sym w;
            }

-- ---- all blocks

abbrev at_end : Program → ℕ × 𝔹 → 𝔹
at_end p x = not (has (returned_by (end_of p x.0))) || x.1

done-same : (w w' : List ℕ) (a q f : ℕ) → ((j : ℕ) → q ≤ j → j < q + f → (get_or w' (order_at + j) 0 ≡ get_or w (order_at + j) 0) × (get_or w' (outs_at + j) 0 ≡ get_or w (outs_at + j) 0))
    → done_from w' a q f ≡ done_from w a q f
unfolding done_from
done-same w w' a q zero e = refl
done-same w w' a q (suc f) e =
    let y = e q (omega arith) (omega arith) in
    ap₂ {C = List (ℕ × 𝔹)} (λ u l. u ∷ l) (ap₂ {C = ℕ × 𝔹} (λ u v. (u, holds a v)) y.0 y.1) (done-same w w' a (suc q) f (λ j g h. e j (omega arith) (omega arith)))

pub record Passing (s m : List ℕ) (c : Counts) (k n : ℕ) (w₀ w : List ℕ) (res i : ℕ) : Type 0 where
  pub len_same : length w ≡ length w₀
  pub high : i ≤ n
  pub order : (j : ℕ) → j < n → get_or w (order_at + j) 0 ≡ get_or w₀ (order_at + j) 0
  pub flows : (a : ℕ) → a < ivars_of m k → flow (program_view s m c) (ivar_in s m k a) (out_of w₀ i) (done_from w a i (n - i)) ≡ flow (program_view s m c) (ivar_in s m k a) (out_of w₀ n) []
  pub ends : (a : ℕ) → a < ivars_of m k → all (at_end (program_view s m c)) (done_from w a i (n - i)) ≡ holds a res
  pub asked : declared (program_view s m c) k (out_of w₀ i) ≡ declared (program_view s m c) k (out_of w₀ n)

pub pass-start : (s m : List ℕ) (c : Counts) (k n : ℕ) (w : List ℕ) → ivars_of m k ≤ 64 → Passing s m c k n w w full n
unfolding done_from
pass-start s m c k n w few =
    let e : n - n ≡ 0 = omega arith in
    record {
      len_same = refl;
      high = omega arith;
      order = λ j h. refl;
      flows = λ a l. ap (λ f. flow (program_view s m c) (ivar_in s m k a) (out_of w n) (done_from w a n f)) e;
      ends = λ a l. ap (λ f. all (at_end (program_view s m c)) (done_from w a n f)) e ∙ sym (holds-full a (omega arith));
      asked = refl;
    }

or_is : (o : Option 𝔹) → (elim o [ none ↦ false | some t ↦ t ]) ≡ or_false o
or_is none = refl
or_is (some t) = refl

out_suc : (w : List ℕ) (n : ℕ) → out_of w (suc n) ≡ get_or w (order_at + n) 0 ∷ out_of w n
unfolding out_of
out_suc w n = refl

flow_cons : (p : Program) (nm : List ℕ) (b : ℕ) (l : List ℕ) (done : List (ℕ × 𝔹)) → flow p nm (b ∷ l) done ≡ flow p nm l ((b, (any (same nm) (sets_of p b) || or_false (set_before p b done))) ∷ done)
unfolding flow
flow_cons p nm b l done = ap (λ t. flow p nm l ((b, (any (same nm) (sets_of p b) || t)) ∷ done)) (or_is (set_before p b done))

declared_cons : (s m : List ℕ) (c : Counts) (k b : ℕ) (l : List ℕ)
    → declared (program_view s m c) k (b ∷ l) ≡ (all_declared s m c k (sets_of (program_view s m c) b) && declared (program_view s m c) k l)
unfolding declared
declared_cons s m c k b l = refl

module _ {s m : List ℕ} {c : Counts} {k n : ℕ} {w₀ w : List ℕ} {res i : ℕ} (z : Passing s m c k n w₀ w res i) where
  pub pass-done : i ≤ 0 → SureIs s m c k (out_of w₀ n) (R.Ok res)
  unfolding initialized flow declared out_of
  pass-done h =
      let e : i ≡ 0 = omega arith in
      let f : n - 0 ≡ n = omega arith in
      record {
        asked = sym (sym (ap (λ j. declared (program_view s m c) k (out_of w₀ j)) e) ∙ z.asked);
        bits = λ o q a l.
            let y : res ≡ o = cc in
            ap (holds a) (sym y)
            ∙ (sym (z.ends a l)
            ∙ ap (all (at_end (program_view s m c))) (sym (ap (λ j. flow (program_view s m c) (ivar_in s m k a) (out_of w₀ j) (done_from w a i (n - i))) e) ∙ z.flows a l));
        refuses = λ e q. absurd (let w : ◌≡◌ {A = ℕ} 0 1 = cc in omega arith);
      }

  module _ (h : 0 < i) where
    abbrev d : ℕ
    d = get_or w (order_at + (i - 1)) 0

    taken : out_of w₀ i ≡ get_or w (order_at + (i - 1)) 0 ∷ out_of w₀ (i - 1)
    taken =
        let e : i ≡ suc (i - 1) = omega arith in
        ap (out_of w₀) e ∙ (out_suc w₀ (i - 1) ∙ ap (λ y. y ∷ out_of w₀ (i - 1)) (sym (z.order (i - 1) (omega (arith, z.high)))))

    asks : (all_declared s m c k (sets_of (program_view s m c) (get_or w (order_at + (i - 1)) 0))
        && declared (program_view s m c) k (out_of w₀ (i - 1)))
        ≡ declared (program_view s m c) k (out_of w₀ n)
    asks = sym (declared_cons s m c k (get_or w (order_at + (i - 1)) 0) (out_of w₀ (i - 1))) ∙ (sym (ap (declared (program_view s m c) k) taken) ∙ z.asked)

    pub pass-stop : {e : Refusal} → SetsIs s m c k (get_or w (order_at + (i - 1)) 0) (R.Err e) → SureIs s m c k (out_of w₀ n) (R.Err e)
    pass-stop y =
        record {
          asked = sym (sym (ap (λ x. x && declared (program_view s m c) k (out_of w₀ (i - 1))) y.asked) ∙ asks);
          bits = λ o e. absurd (let v : ◌≡◌ {A = ℕ} 0 1 = cc in omega arith);
          refuses = y.refuses;
        }

    module _ {o ins : ℕ} {r : Ends} {back : 𝔹} (few : n ≤ order_at) (ivs : ivars_of m k ≤ 64) (long : walk_size ≤ length w₀)
        (y : SetsIs s m c k (get_or w (order_at + (i - 1)) 0) (R.Ok o)) (bf : Before m c w n (i - 1 + 1) (get_or w (order_at + (i - 1)) 0) ins)
        (en : Ended m c (get_or w (order_at + (i - 1)) 0) r) (bk : back ≡ returning r) where
      abbrev out : ℕ
      out = bit_or o ins

      abbrev w' : List ℕ
      w' = set w (outs_at + (i - 1)) (bit_or o ins)

      kept-order : (j : ℕ) → j < n → get_or w' (order_at + j) 0 ≡ get_or w (order_at + j) 0
      kept-order j l = get_or-set_other w (outs_at + (i - 1)) (order_at + j) (bit_or o ins) 0 (λ x. omega arith)

      done_on : (a : ℕ) → done_from w' a (i - 1) (n - (i - 1)) ≡ (get_or w (order_at + (i - 1)) 0, holds a (bit_or o ins)) ∷ done_from w a i (n - i)
      unfolding done_from
      done_on a =
          let e : n - (i - 1) ≡ suc (n - i) = omega (arith, z.high) in
          let f : suc (i - 1) ≡ i = omega arith in
          ap (done_from w' a (i - 1)) e
          ∙ ap₂ {C = List (ℕ × 𝔹)} (λ u l. u ∷ l)
          (ap₂ {C = ℕ × 𝔹} (λ u v. (u, holds a v)) (kept-order (i - 1) (omega (arith, z.high))) (get_or-set_same w (outs_at + (i - 1)) (bit_or o ins) 0 (omega (arith, z.len_same, z.high))))
          (ap (λ u. done_from w' a u (n - i)) f
          ∙ done-same w w' a i (n - i) (λ j g l. (kept-order j (omega (arith, z.high)), get_or-set_other w (outs_at + (i - 1)) (outs_at + j) (bit_or o ins) 0 (λ x. omega arith))))

      flag : (a : ℕ) → a < ivars_of m k
          → holds a (bit_or o ins) ≡ (any (same (ivar_in s m k a)) (sets_of (program_view s m c) (get_or w (order_at + (i - 1)) 0))
          || or_false (set_before (program_view s m c) (get_or w (order_at + (i - 1)) 0) (done_from w a i (n - i))))
      flag a l =
          let e : i - 1 + 1 ≡ i = omega arith in
          holds_or a o ins
          ∙ ap₂ {C = 𝔹} (λ u v. u || v) (y.bits o refl a l)
          (bf.is s a (omega arith) ∙ ap (λ u. or_false (set_before (program_view s m c) (get_or w (order_at + (i - 1)) 0) (done_from w a u (n - u)))) e)

      flows_on : (a : ℕ) → a < ivars_of m k
          → flow (program_view s m c) (ivar_in s m k a) (out_of w₀ (i - 1)) (done_from w' a (i - 1) (n - (i - 1))) ≡ flow (program_view s m c) (ivar_in s m k a) (out_of w₀ n) []
      flows_on a l =
          ap (flow (program_view s m c) (ivar_in s m k a) (out_of w₀ (i - 1))) (done_on a ∙ ap (λ u. (get_or w (order_at + (i - 1)) 0, u) ∷ done_from w a i (n - i)) (flag a l))
          ∙ (sym (flow_cons (program_view s m c) (ivar_in s m k a) (get_or w (order_at + (i - 1)) 0) (out_of w₀ (i - 1)) (done_from w a i (n - i)))
          ∙ (sym (ap (λ u. flow (program_view s m c) (ivar_in s m k a) u (done_from w a i (n - i))) taken) ∙ z.flows a l))

      asked-on : declared (program_view s m c) k (out_of w₀ (i - 1)) ≡ declared (program_view s m c) k (out_of w₀ n)
      asked-on = sym (ap (λ x. x && declared (program_view s m c) k (out_of w₀ (i - 1))) y.asked) ∙ asks

      ends_on : (a : ℕ) → all (at_end (program_view s m c)) (done_from w' a (i - 1) (n - (i - 1)))
          ≡ ((not back || holds a (bit_or o ins)) && all (at_end (program_view s m c)) (done_from w a i (n - i)))
      ends_on a =
          ap (all (at_end (program_view s m c))) (done_on a)
          ∙ ap (λ u. (not u || holds a (bit_or o ins)) && all (at_end (program_view s m c)) (done_from w a i (n - i))) (en.leaves s ∙ sym bk)

      abbrev Next : ℕ → Type 0
      Next v = Passing s m c k n w₀ w' v (i - 1)

      next : (v : ℕ) → ((a : ℕ) → a < ivars_of m k → all (at_end (program_view s m c)) (done_from w' a (i - 1) (n - (i - 1))) ≡ holds a v) → Passing s m c k n w₀ w' v (i - 1)
      next v e =
          record {
            len_same = length-set w (outs_at + (i - 1)) (bit_or o ins) ∙ z.len_same;
            high = omega (arith, z.high);
            order = λ j l. kept-order j l ∙ z.order j l;
            flows = flows_on;
            ends = e;
            asked = asked-on;
          }

      pub pass_on : back ≡ false → Passing s m c k n w₀ (set w (outs_at + (i - 1)) (bit_or o ins)) res (i - 1)
      pass_on f = next res (λ a l. ends_on a ∙ (ap (λ u. (not u || holds a (bit_or o ins)) && all (at_end (program_view s m c)) (done_from w a i (n - i))) f ∙ z.ends a l))

      pub pass_back : back ≡ true → Passing s m c k n w₀ (set w (outs_at + (i - 1)) (bit_or o ins)) (bit_and (bit_or o ins) res) (i - 1)
      pass_back f =
          next (bit_and (bit_or o ins) res)
          (λ a l.
          ends_on a
          ∙ (ap (λ u. (not u || holds a (bit_or o ins)) && all (at_end (program_view s m c)) (done_from w a i (n - i))) f
          ∙ (ap (λ u. holds a (bit_or o ins) && u) (z.ends a l) ∙ sym (holds-and a (bit_or o ins) res))))
