-- One turn of the reader of names. Assumes nothing.
use mathlib.Core.Path.{◌≡◌, refl, sym, ap, ◌∙◌}
use mathlib.Core.List.{List}
use Prim.Native.Nat.{ℕ, ◌+◌, ◌*◌, ◌≤◌, ◌<◌}
use native.Mathlib.Omega.{arith}
use lib.ListN.{length}
use Rattle.std.specs.Prelude.{Option, Some, None, Result, Ok, Err}
use Rattle.refusals.specs.declared.Refusal.{Refusal}
use Rattle.lexer.specs.Lexed.{Lexes}
use Rattle.lexer.specs.declared.Token.TheVariants as T
use Rattle.lexer.specs.declared.Word.{Word}
use Rattle.program.specs.declared.Name.{Name}
use Rattle.cursor.specs.Cursor.{Cursor, move_cur, stack_cur}
use Rattle.cursor.specs.Promises.{Sees, ident_at, matched_at, NameAt, MatchAt}
use Rattle.cursor.proofs.Laws.{ident_on}
use Rattle.functions.specs.params.Promises.{PutsName, Head, ParamsAt}
use Rattle.functions.proofs.params.Laws.{Naming, naming_start, naming_none, naming_close, naming_bad, naming_stop, naming_last, naming_on}

-- some cursor that stands there
abbrev pub standing : ℕ → Cursor
standing at =
    record {
      at = at;
      counts = record { functions = 0; classes = 0; blocks = 0; insns = 0; opnds = 0; listed = 0 };
      class = None;
      receiver = None;
      block = record { 0 = 0 };
      vars = 0;
      aside = 0;
      args = 0;
    }

-- the cursor at another place, where k names wait
abbrev pub stood : ℕ → ℕ → Cursor → Cursor
stood k at c = stack_cur k (move_cur at c)

-- what stands at each turn: k names wait, and the next word is at next
pub record NamesStand (s w₀ : List ℕ) (at : ℕ) (w : List ℕ) (k next : ℕ) : Type 0 where
  pub on : at + 2 * k ≤ next
  pub inside : next ≤ length s
  pub long : length w ≡ length w₀
  pub naming : (c : Cursor) → c.at ≡ at → Head s w₀ c → Naming s w₀ c w (stood k next c)

pub names_start : (s w : List ℕ) (at : ℕ) → at ≤ length s → NamesStand s w at w 0 at
names_start s w at l =
    record {
      on = omega arith;
      inside = l;
      long = refl;
      naming = λ c e h.
          let q : stack_cur 0 (move_cur at c) ≡ c = ap (λ n. stack_cur n (move_cur at c)) (sym h.args) ∙ ap (λ j. stack_cur c.args (move_cur j c)) (sym e) in
          rw q (naming_start s w c h);
    }

module _ {s w₀ : List ℕ} {at : ℕ} {w : List ℕ} {k next : ℕ} (i : NamesStand s w₀ at w k next) {r : Result Word Refusal} (v : Lexes s next r) where
  seen : (c : Cursor) → Sees s (stood k next c) r
  seen c = record { lexes = v }

  pub names_none : {e : Refusal} → r ≡ Err e → ParamsAt s at w₀ w (Err e)
  names_none f = λ c e h. naming_none (i.naming c e h) (seen c) f

  module _ {x : Word} (f : r ≡ Ok x) where
    pub names_close : x.token ≡ T.Sign 41 → ParamsAt s at w₀ w (Ok (k, next))
    names_close z = λ c e h. naming_close (i.naming c e h) (seen c) f z

    module _ (z : x.token ≡ T.Sign 41 → ⊥) {u : Result (Name × ℕ) Refusal} (d : NameAt s next u) where
      pub names_bad : {e : Refusal} → u ≡ Err e → ParamsAt s at w₀ w (Err e)
      names_bad g = λ c e h. naming_bad (i.naming c e h) (seen c) f z (d (stood k next c) refl) (ap (ident_at (stood k next c)) g)

      module _ {n : Name} {j : ℕ} (g : u ≡ Ok (n, j)) where
        pub name-on : (next + 1 ≤ j) × (j ≤ length s)
        name-on =
            let h = (ident_on (d (standing next) refl) (ap (ident_at (standing next)) g)).1 in
            (h.0, h.1 i.inside)

        module _ {w' : List ℕ} (b : (c : Cursor) → PutsName w (stack_cur k c) n w' (stack_cur (k + 1) c)) {t : Result (Option ℕ) Refusal} (m : MatchAt s (T.Sign 44) j t) where
          pub names_stop : {e : Refusal} → t ≡ Err e → ParamsAt s at w₀ w' (Err e)
          names_stop o = λ c e h.
              naming_stop (i.naming c e h) (seen c) f z (d (stood k next c) refl) (ap (ident_at (stood k next c)) g) (b (move_cur j c))
              (m (stood (k + 1) j c) refl) (ap (matched_at (stood (k + 1) j c)) o)

          pub names_last : t ≡ Ok None → ParamsAt s at w₀ w' (Ok (k + 1, j))
          names_last o = λ c e h.
              naming_last (i.naming c e h) (seen c) f z (d (stood k next c) refl) (ap (ident_at (stood k next c)) g) (b (move_cur j c))
              (m (stood (k + 1) j c) refl) (ap (matched_at (stood (k + 1) j c)) o)

          pub comma_on : {l : ℕ} → t ≡ Ok (Some l) → j < l
          comma_on {l} o = (m (standing j) refl).further (move_cur l (standing j)) (ap (matched_at (standing j)) o)

          pub names_on : {l : ℕ} → t ≡ Ok (Some l) → NamesStand s w₀ at w' (k + 1) l
          names_on {l} o =
              let q = rw o at ((m (standing j) refl).takes.ok) in
              record {
                on = omega (arith, i.on, name-on.0, comma_on o);
                inside = q.1.1 name-on.1;
                long = (b (standing j)).long ∙ i.long;
                naming = λ c e h.
                    naming_on (i.naming c e h) (seen c) f z (d (stood k next c) refl) (ap (ident_at (stood k next c)) g) (b (move_cur j c))
                    (m (stood (k + 1) j c) refl) (ap (matched_at (stood (k + 1) j c)) o);
              }
