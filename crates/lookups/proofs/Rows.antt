-- Tests of rows, and what a search over them finds, in the rules' words. Assumes nothing.
use mathlib.Core.Bool.{Bool, true, false, not}
use mathlib.Core.Path.{◌≡◌, refl, sym, ap, subst, ◌∙◌}
use mathlib.Core.Option as M
use mathlib.Core.List.{List}
use Prim.Native.Nat.{ℕ, ◌+◌, ◌*◌, ◌<◌, min}
use native.Mathlib.Omega.{arith}
use lib.Dec.{eqb}
use lib.ListN.{get_or, take}
use Rattle.std.proofs.Common.{Option, Some, None, is_some, unwrap_or, IfSome}
use Rattle.std.proofs.lemmas.List.{take_min}
use Rattle.kinds.specs.Kinds.{bit_of}
use Rattle.ids.specs.declared.ClassId.{ClassId}
use Rattle.ids.specs.declared.FunId.{FunId}
use Rattle.ids.proofs.Bits.{Either, yes, no, either}
use Rattle.rules.specs.Lists.{same, is_just, or_else, places, first, final, bytes, has}
use Rattle.rules.specs.Program as P
use Rattle.rules.specs.Program.{terminated, function_named, method_named, ivar_named, main_function}
use Rattle.rules.specs.Reading.{class_named}
use Rattle.rules.proofs.Exactness.Promise.{and_right}
use Rattle.program.specs.Tab.{tab}
use Rattle.program.specs.Rows.{name_in, owner_in, owner_from, fun_at, class_at, ivars_of, flag_at}
use Rattle.program.specs.View.{program_view, functions_of, classes_of, OwnsFrom, ProgramReady, ReadsFun}
use Rattle.program.specs.declared.Counts.{Counts}
use Rattle.program.specs.declared.Name.{Name}
use Rattle.program.specs.declared.Function.{Function}
use Rattle.program.proofs.Tables.{tab-at, tab-take}
use Rattle.program.proofs.Viewing.{classes-length}
use Rattle.program.specs.Layout.{blocks_at, functions_at, ivars_at, function_words, ivar_row_words}
use Rattle.lookups.specs.Look.{name_at, fun_row, ivar_row, is_fun, is_method, is_main, is_class, is_ivar, LookKnown, Constructs, LookTells, fun_found, ivar_found}
use Rattle.lexer.proofs.Texts.{same_eq}

-- ---- tests

module _ (s m n : List ℕ) where
  pub is_fun_lem : (i : ℕ) {r : Bool} → r ≡ same (name_in s (name_at m (functions_at + function_words * i))) n → r ≡ is_fun n (fun_row s m i)
  unfolding is_fun fun_row fun_at
  is_fun_lem i e = e

  pub is_ivar_lem : (k j : ℕ) {r : Bool} → r ≡ same (name_in s (name_at m (ivars_at + ivar_row_words * k + 2 * j))) n → r ≡ is_ivar n (ivar_row s m k j)
  unfolding is_ivar ivar_row
  is_ivar_lem k j e = e

  module _ (i k : ℕ) {o : Bool} (e : o ≡ is_just (owner_in (owner_from (get_or m (functions_at + function_words * i + 2) 0))) k) where
    pub method_here : {r : Bool} → o ≡ true → r ≡ same (name_in s (name_at m (functions_at + function_words * i))) n → r ≡ is_method k n (fun_row s m i)
    unfolding is_method fun_row fun_at
    method_here t w = rw (sym e ∙ t) w

    pub method_else : o ≡ false → o ≡ is_method k n (fun_row s m i)
    unfolding is_method fun_row fun_at
    method_else t = rw (sym e ∙ t) t

module _ (s m : List ℕ) {c : Counts} (i : ℕ) {f : Function} (e : ReadsFun m c i f) where
  -- a method that passes has the name
  pub method_name : (n : List ℕ) (k : ℕ) → is_method k n (fun_row s m i) ≡ true → name_in s f.name ≡ n
  unfolding is_method fun_row
  method_name n k t = rw e.row (same_eq (name_in s (fun_at m i).name) n (and_right (is_just (owner_in (fun_at m i).class) k) (same (name_in s (fun_at m i).name) n) t))

  -- a `main` outside of classes
  pub main_is : {r b : Bool} → r ≡ is_fun (bytes "main") (fun_row s m i) → r ≡ true → is_some f.class ≡ not b → b ≡ is_main (fun_row s m i)
  unfolding is_main is_fun fun_row
  main_is {r} {b} q t p = let w : same (name_in s f.name) (bytes "main") ≡ true = rw e.row (sym q ∙ t) in rw (← e.row, w) (go f.class b p)
    where
      go : (k : Option ClassId) (b : Bool) → is_some k ≡ not b → b ≡ not (has (owner_in k))
      go (Some x) true p = p
      go (Some x) false p = refl
      go None true p = refl
      go None false p = p

pub main_other : (s m : List ℕ) (i : ℕ) {r : Bool} → r ≡ is_fun (bytes "main") (fun_row s m i) → r ≡ false → r ≡ is_main (fun_row s m i)
unfolding is_main is_fun
main_other s m i q t = rw (← q, t)

-- ---- functions

module _ (s m : List ℕ) (c : Counts) where
  pub fun_is_found : {w n : List ℕ} {x : M.Option ℕ} → w ≡ n → x ≡ final (places (is_fun w) (tab (fun_row s m) c.functions)) → x ≡ function_named (program_view s m c) n
  unfolding function_named functions_of is_fun fun_row
  fun_is_found e g = g ∙ ap (λ (w : List ℕ). final (places (is_fun w) (tab (fun_row s m) c.functions))) e

  pub main_is_found : (r : Option ℕ) → ivar_found r ≡ final (places is_main (tab (fun_row s m) c.functions)) → unwrap_or r 0 ≡ main_function (program_view s m c)
  unfolding main_function functions_of is_main fun_row
  main_is_found (Some i) g = ap (λ (x : M.Option ℕ). or_else x 0) g
  main_is_found None g = ap (λ (x : M.Option ℕ). or_else x 0) g

  pub method_is_found : (k : ℕ) (n : List ℕ) {x : M.Option ℕ} → x ≡ first (places (is_method k n) (tab (fun_row s m) c.functions)) → x ≡ method_named (program_view s m c) k n
  unfolding method_named functions_of is_method fun_row
  method_is_found k n g = g

  -- a method that has the constructor's name
  pub constructs_some : (k : ℕ) {r : Option FunId} {f : FunId} {x : Function} → fun_found r ≡ method_named (program_view s m c) k (bytes "initialize")
      → IfSome r (λ f. (f.0 < c.functions) × (is_method k (bytes "initialize") (fun_row s m f.0) ≡ true)) → r ≡ Some f → ReadsFun m c f.0 x → Constructs s m c k (Some (f, x.name))
  constructs_some k {r} {f} is here e x =
      let h = subst (λ (q : Option FunId). IfSome q (λ f. (f.0 < c.functions) × (is_method k (bytes "initialize") (fun_row s m f.0) ≡ true))) e here in
      record { is = sym (ap fun_found e) ∙ is; named = method_name s m f.0 x (bytes "initialize") k h.1 }

-- no method of a class stands below its first function
pub methods_from : (s : List ℕ) {m : List ℕ} {l k i : ℕ} (n : List ℕ) → OwnsFrom m l k i → (j : ℕ) → j < i → is_method k n (fun_row s m j) ≡ false
unfolding is_method fun_row
methods_from s {m} {l} {k} {i} n o j h = go (either (is_just (owner_in (fun_at m j).class) k))
  where
    go : Either (is_just (owner_in (fun_at m j).class) k) → is_method k n (fun_row s m j) ≡ false
    go (yes e) = absurd (omega (arith, o.owned j (omega (arith, o.high)) e))
    go (no e) = rw e

-- ---- classes

module _ (s m : List ℕ) (c : Counts) (k : Option ClassId) (n : Name) {most : ℕ} (e : most ≡ min (or_else (owner_in k) c.classes) c.classes) where
  pub class_is_found : {w : List ℕ} (r : Option ClassId) → w ≡ name_in s n → owner_in r ≡ final (places (is_class w) (tab (class_at s m) most)) → LookKnown s m c k n r
  unfolding class_named classes_of is_class
  class_is_found {w} r q x =
      record {
        is = λ p.
            let len = classes-length s m c.classes in
            let all = or_else (owner_in k) c.classes in
            x
            ∙ ap (λ (w : List ℕ). final (places (is_class w) (tab (class_at s m) most))) q
            ∙ ap (λ (j : ℕ). final (places (is_class (name_in s n)) (tab (class_at s m) j))) e
            ∙ ap (λ (l : List P.Class). final (places (is_class (name_in s n)) l))
            (sym
            (ap (λ (j : ℕ). take (or_else (owner_in k) j) (classes_of s m c.classes)) len
            ∙ sym (take_min all (classes_of s m c.classes)) ∙ ap (λ (j : ℕ). take (min all j) (classes_of s m c.classes)) len
            ∙ tab-take (class_at s m) c.classes (min all c.classes) (omega arith)));
      }

-- ---- attributes

pub class-is : (s m : List ℕ) (c : Counts) (k : ℕ) → k < c.classes → P.class (program_view s m c) k ≡ class_at s m k
unfolding classes_of
class-is s m c k h = tab-at (class_at s m) c.classes k P.built_in h

pub ivars_are : (s m : List ℕ) (c : Counts) (k : ℕ) → k < c.classes → (P.class (program_view s m c) k).ivars ≡ tab (ivar_row s m k) (ivars_of m k)
unfolding class_at ivar_row
ivars_are s m c k h = ap (λ (x : P.Class). x.ivars) (class-is s m c k h)

pub ivar_is_found : (s m : List ℕ) (c : Counts) (k : ℕ) {w n : List ℕ} {x : M.Option ℕ} → k < c.classes → w ≡ n
    → x ≡ first (places (is_ivar w) (tab (ivar_row s m k) (ivars_of m k))) → x ≡ ivar_named (program_view s m c) k n
unfolding ivar_named is_ivar
ivar_is_found s m c k {w} {n} h e g =
    g ∙ ap (λ (w : List ℕ). first (places (is_ivar w) (tab (ivar_row s m k) (ivars_of m k)))) e
    ∙ ap (λ (l : List (List ℕ)). first (places (is_ivar n) l)) (sym (ivars_are s m c k h))

-- ---- blocks

pub tells_is : {m : List ℕ} {c : Counts} (b : ℕ) → ProgramReady m c → b < c.blocks → LookTells m c b (not (eqb (get_or m (blocks_at + 2 * b + 1) 0) 0))
tells_is {m = m} {c = c} b r h = record { is = λ s. go (terminated (program_view s m c) b) (r.flags s b h) }
  where
    go : (t : Bool) → flag_at m b ≡ bit_of t → not (eqb (flag_at m b) 0) ≡ t
    go true e = rw e
    go false e = rw e
