-- The ways through a call. Assumes nothing.
use mathlib.Core.Bool.{Bool as 𝔹, true, false, not, ◌&&◌}
use mathlib.Core.Option.{none, some}
use mathlib.Core.Path.{◌≡◌, refl, sym, ap, subst, ◌∙◌}
use mathlib.Core.List.{List, []}
use Prim.Native.Nat.{ℕ, ◌<◌, ◌^◌}
use native.Mathlib.Omega.{arith}
use lib.ListN.{length}
use Rattle.ids.specs.declared.ClassId.{ClassId}
use Rattle.ids.specs.declared.FunId.{FunId}
use Rattle.ids.proofs.Members.{members_below}
use Rattle.rules.specs.Actions.{Answer, refused, if_answered, ◌>>◌, ask}
use Rattle.rules.specs.Lists.{same, has, is_just}
use Rattle.rules.specs.Program as P
use Rattle.rules.specs.Program.{Limits, Program, about, op_of, function, entry, parameters, method_named}
use Rattle.rules.specs.Machine.{State, Acts, marked, add_call, pass_arguments}
use Rattle.rules.proofs.Exactness.Sums.{places-∈}
use Rattle.rules.proofs.Exactness.Promise.{first_in}
use Rattle.program.specs.declared.Counts.{Counts}
use Rattle.program.specs.declared.Function.{Function}
use Rattle.program.specs.Rows.{owner_in}
use Rattle.program.specs.View.{ReadsFun}
use Rattle.program.specs.View as Prog
use Rattle.program.proofs.Viewing.{functions-length}
use Rattle.std.specs.Prelude.{Option, Some, None, Result, Ok, Err}
use Rattle.refusals.specs.declared.Refusal.{Refusal}
use Rattle.refusals.specs.declared.Refusal.TheVariants.{NeedsReceiver}
use Rattle.lookups.specs.Look.{fun_found}
use Rattle.state.specs.declared.Sizes.{Sizes}
use Rattle.state.specs.declared.State as S
use Rattle.state.specs.View.{Attrs, called_of, state_view}
use Rattle.state.specs.Methods.{view, Did}
use Rattle.state.proofs.Methods.{Along, along_start, along_step, along_stop, along_last, along_end, along_refused, lent_same, did_fits}
use Rattle.chains.specs.Chains.{ChainIs}
use Rattle.memory.specs.Layout.{blocks_room}
use Rattle.sends.specs.calls.Calls.{CallIs}
use Rattle.sends.proofs.calls.Adding.{old-is}
use Rattle.sends.specs.passing.Passing.{HasParams, PassIn, PassIdle}
use Rattle.sends.proofs.passing.Given.{has-params, pass_in}
use Rattle.machine.proofs.receivers.Walk.{Walking}
use Rattle.sends.specs.Sends.{call_to, call_static, send_to, Calling, CallsIn}

-- ---- a function in memory

module _ {z : Sizes} {m : List ℕ} {c : Counts} {x : List ℕ} {i : ℕ} (h : Calling z m c x i) {f : ℕ} (lt : f < c.functions) {r : Function} (d : ReadsFun m c f r) where
  entered : (s : List ℕ) → entry (Prog.program_view s m c) f ≡ r.entry.0
  entered s = ap (λ (y : P.Function). y.entry) (d.is s)

  inside : r.entry.0 < c.blocks
  inside = rw d.row (h.entries f lt)

  low : r.entry.0 < blocks_room
  low = let a = inside in let b = h.caller.ready.blocks in omega arith

  pub params_there : HasParams z.insns x r.entry.0
  params_there = has-params [] m c z x f r.entry.0 h.index h.caller.ready h.caller.sizes lt (entered []) low

  passes : (s : List ℕ) {k : ℕ} {p : Program} {v : Attrs} → CallsIn s m c i k p v → PassIn m c z x i f r.entry.0 p v
  passes s {k} {p} {v} g =
      subst (λ (y : Program). PassIn m c z x i f r.entry.0 y v) (sym g.program)
      (pass_in s m c z x f r.entry.0 h.index h.caller.ready h.caller.sizes lt (entered s) low i v g.call)

  module _ {n k : ℕ} (e : (l : List ℕ) → ChainIs x z.insns 1 r.entry.0 l → length l ≡ n) where
    calls : (s : List ℕ) {p : Program} {v : Attrs} → CallsIn s m c i k p v → CallIs i f r.entry.0 n k p v
    calls s {p} {v} g = record {
      entered = ap (λ (y : Program). entry y f) g.program ∙ entered s;
      params = e (parameters p f) (passes s g).params;
      args = ap (λ (y : Program). length (about (op_of y i)).listed) g.program ∙ g.args;
    }

    pub call-entered : {t u : S.State} {a : Result (Unit {0}) Refusal} → Did (CallIs i f r.entry.0 n k) (λ L p. add_call L p i f) t u a
        → (s : List ℕ) → Did (CallsIn s m c i k) (λ L p. add_call L p i f) t u a
    call-entered g s = did_fits g (λ p v b. calls s b)

  pub args-passed : {t u : S.State} {a : Result (Unit {0}) Refusal} → ((y : ℕ) → Did (PassIn m c z x i y r.entry.0) (λ L p. pass_arguments L p i y) t u a)
      → (s : List ℕ) (k : ℕ) → Did (CallsIn s m c i k) (λ L p. pass_arguments L p i f) t u a
  args-passed g s k = did_fits (g f) (λ p v b. passes s b)

  pub args-idle : {w : List ℕ} → ((y : ℕ) → PassIdle z (PassIn m c z x i y r.entry.0) (λ L p. pass_arguments L p i y) w)
      → (s : List ℕ) (k : ℕ) → PassIdle z (CallsIn s m c i k) (λ L p. pass_arguments L p i f) w
  args-idle g s k = record { is = λ q y. let d = (g f).is q y in record { is = λ L room p v b. d.is L room p v (passes s b); ok = d.ok } }

-- ---- one call

-- what a call asks of the state, it may ask of what an action left too
pub calling_kept : {fits : List ℕ → Program → Attrs → Type 0} {f : Limits → Program → Acts (Unit {0})} {t u : S.State} {a : Result (Unit {0}) Refusal} {m x : List ℕ} {c : Counts} {i : ℕ}
    → ((s : List ℕ) → Did (fits s) f t u a) → Calling t.sizes m c x i → Calling u.sizes m c x i
calling_kept d h = rw ((d []).lent.sizes) h

module _ (m : List ℕ) (c : Counts) (i k f : ℕ) {t u : S.State} {a : Result (Unit {0}) Refusal} (d : (s : List ℕ) → Did (CallsIn s m c i k) (λ L p. add_call L p i f) t u a) where
  pub to_both : {y : Unit {0}} {w : S.State} (r : Result (Unit {0}) Refusal) → a ≡ Ok y → ((s : List ℕ) (n : ℕ) → Did (CallsIn s m c i n) (λ L p. pass_arguments L p i f) u w r)
      → (s : List ℕ) → Did (CallsIn s m c i k) (λ L p. call_to L p i f) t w r
  to_both r e g s =
      along_last (along_step (along_start t) {left' = λ L p. pass_arguments L p i f} (d s) e (λ p v h. h) (λ L room p v h. refl)) r (g s k) (λ p v h. h) (λ L room p v h. refl)

  pub to_stop : {n : Refusal} → a ≡ Err n → (s : List ℕ) → Did (CallsIn s m c i k) (λ L p. call_to L p i f) t u (Err n)
  to_stop e s = along_stop (along_start t) (λ L p. pass_arguments L p i f) (d s) e (λ p v h. h) (λ L room p v h. refl)

  -- question 17
  asked-yes : (p : Program) (g : Acts (Unit {0})) (s : State) → has (function p f).class ≡ false → (ask 17 (not (has (function p f).class)) >> g) s ≡ g s
  asked-yes p g s e = rw e

  asked_no : (p : Program) (g : Acts (Unit {0})) (s : State) → has (function p f).class ≡ true → (ask 17 (not (has (function p f).class)) >> g) s ≡ refused 17
  asked_no p g s e = rw e

  abbrev asking : Limits → Program → Acts (Unit {0})
  asking L p = ask 17 (not (has (function p f).class)) >> pass_arguments L p i f

  module _ {r : Function} (y : ReadsFun m c f r) {o : Option ClassId} (eo : o ≡ r.class) where
    owned : (s : List ℕ) {p : Program} {v : Attrs} → CallsIn s m c i k p v → has (function p f).class ≡ has (owner_in o)
    owned s h = ap (λ (t : Program). has (function t f).class) h.program ∙ ap (λ (t : P.Function). has t.class) (y.is s) ∙ ap (λ (t : Option ClassId). has (owner_in t)) (sym eo)

    entered-then : {x : Unit {0}} → a ≡ Ok x → (s : List ℕ) → Along (CallsIn s m c i k) asking (λ L p. call_static L p i f) t u
    entered-then e s = along_step (along_start t) (d s) e (λ p v h. h) (λ L room p v h. refl)

    pub static_both : {x : Unit {0}} {w : S.State} (b : Result (Unit {0}) Refusal) → a ≡ Ok x → o ≡ None
        → ((s : List ℕ) (n : ℕ) → Did (CallsIn s m c i n) (λ L p. pass_arguments L p i f) u w b)
        → (s : List ℕ) → Did (CallsIn s m c i k) (λ L p. call_static L p i f) t w b
    static_both b e n g s =
        along_last (entered-then e s) b (g s k) (λ p v h. h)
        (λ L room p v h. asked-yes p (pass_arguments L p i f) (view v u) (owned s h ∙ ap (λ (t : Option ClassId). has (owner_in t)) n))

    pub static_method : {x : Unit {0}} {z : ClassId} → a ≡ Ok x → o ≡ Some z → (s : List ℕ) → Did (CallsIn s m c i k) (λ L p. call_static L p i f) t u (Err NeedsReceiver)
    static_method e n s =
        along_refused (entered-then e s) NeedsReceiver
        (λ L room p v h. asked_no p (pass_arguments L p i f) (view v u) (owned s h ∙ ap (λ (t : Option ClassId). has (owner_in t)) n))

  pub static_stop : {n : Refusal} → a ≡ Err n → (s : List ℕ) → Did (CallsIn s m c i k) (λ L p. call_static L p i f) t u (Err n)
  static_stop e s = along_stop (along_start t) asking (d s) e (λ p v h. h) (λ L room p v h. refl)

-- ---- a call that changes nothing

pub idle_did : {s : S.State} {fits : Program → Attrs → Type 0} {f : Limits → Program → Acts (Unit {0})} → PassIdle s.sizes fits f s.words.now → Did fits f s s (Ok tt)
idle_did {s} h = record { lent = lent_same s; did = h.is s.regs s.ready }

pub caller-known : {m : List ℕ} {c : Counts} (i f : ℕ) (t : S.State) {b : 𝔹} → b ≡ marked (called_of t.sizes t.words.now) f i → b ≡ true
    → (k : ℕ) (s : List ℕ) → Did (CallsIn s m c i k) (λ L p. add_call L p i f) t t (Ok tt)
caller-known i f t e y k s = along_end (along_start t) (λ L room p v g. old-is L p i f (view v t) (sym e ∙ y))

pub call-idle : {m : List ℕ} {c : Counts} (i f : ℕ) {z : Sizes} {w : List ℕ} {b : 𝔹} → b ≡ marked (called_of z w) f i → b ≡ true
    → {x : List ℕ} → Calling z m c x i → f < c.functions → {r : Function} → ReadsFun m c f r
    → ((j : ℕ) → PassIdle z (PassIn m c z x i j r.entry.0) (λ L p. pass_arguments L p i j) w)
    → (s : List ℕ) (k : ℕ) → PassIdle z (CallsIn s m c i k) (λ L p. call_to L p i f) w
call-idle i f {z} {w} e y h lt d g s k = record {
  is = λ q r.
      let n = (args-idle h lt d g s k).is q r in
      record {
        is = λ L room p v u.
            n.is L room p v u
            ∙ ap (λ (a : Answer (Unit {0} × State)). if_answered a (λ x. pass_arguments L p i f x.1)) (sym (old-is L p i f (state_view z v w q) (sym e ∙ y)));
        ok = n.ok;
      };
}

-- ---- one class

module _ (s m : List ℕ) (c : Counts) (k : ℕ) (n : P.Name) {r : Option FunId} (e : fun_found r ≡ method_named (Prog.program_view s m c) k n) where
  method_at : {f : FunId} → r ≡ Some f → method_named (Prog.program_view s m c) k n ≡ some f.0
  method_at h = sym e ∙ ap fun_found h

  pub method_below : {f : FunId} → r ≡ Some f → f.0 < c.functions
  unfolding method_named
  method_below {f} h =
      let a = places-∈ (record { name = []; class = none; entry = 0 }) (λ (y : P.Function). is_just y.class k && same y.name n)
      (Prog.program_view s m c).functions f.0 (first_in _ (method_at h)) in
      let b = functions-length s m c.functions in
      omega (arith, a.0)

  pub one_found : {i j : ℕ} {f : FunId} {t u : S.State} (a : Result (Unit {0}) Refusal) → r ≡ Some f → ((y : List ℕ) → Did (CallsIn y m c i j) (λ L p. call_to L p i f.0) t u a)
      → Did (CallsIn s m c i j) (λ L p. send_to L p i n k) t u a
  one_found {t = t} a h d =
      along_last (along_start t) a (d s) (λ p v g. g)
      (λ L room p v g. let e : method_named p k n ≡ some _ = ap (λ (y : Program). method_named y k n) g.program ∙ method_at h in rw e)

-- every set is one of classes below 64
pub walking_any : {s : ℕ} → s < 2 ^ 64 → Walking 64 s
walking_any {s} h = record { fits = h; below = record { below = λ c y. members_below 64 s c h y } }
