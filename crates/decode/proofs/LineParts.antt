-- The line at a place of a text, part by part. Assumes nothing.
use mathlib.Core.Path.{◌≡◌, refl, ◌∙◌}
use mathlib.Core.List.{List}
use Prim.Native.Nat.{ℕ, suc, ◌+◌, ◌≤◌, ◌<◌}
use native.Mathlib.Omega.{arith}
use lib.ListN.{length, get_or, drop, drop_of_length-le}
use borrow.Author.Tests.{eq-eqb, ne_eqb}
use Rattle.std.specs.Prelude.{Option, Some, None, option_map}
use Rattle.rules.specs.Sorts.{Sort, widths}
use Rattle.frames.specs.Table.{sort_from}
use Rattle.frames.specs.declared.Frame.{Frame}
use Rattle.decode.specs.Lines.{if_some, digits_in, numbers_in, end_in, legal_from, behind_byte, frame_in}
use Rattle.decode.proofs.Places.{end_here}

module _ (t : List ℕ) (at : ℕ) where
  pub line_no_byte : digits_in 2 0 (drop at t) ≡ None → frame_in (drop at t) ≡ None
  unfolding frame_in
  line_no_byte h = rw h refl

  module _ (b : ℕ) (h : digits_in 2 0 (drop at t) ≡ Some (b, drop (at + 2) t)) where
    pub line_no_sort : None ≡ sort_from b → frame_in (drop at t) ≡ None
    unfolding frame_in
    line_no_sort e = rw (h, ← e) refl

    module _ (s : Sort) (hs : Some s ≡ sort_from b) where
      behind : frame_in (drop at t) ≡ behind_byte s (drop (at + 2) t)
      unfolding frame_in
      behind = rw (h, ← hs) refl

      pub line_no_numbers : numbers_in (widths s) (drop (at + 2) t) ≡ None → frame_in (drop at t) ≡ None
      unfolding behind_byte
      line_no_numbers e = behind ∙ rw e refl

      module _ (ns : List ℕ) (e : ℕ) (hn : numbers_in (widths s) (drop (at + 2) t) ≡ Some (ns, drop e t)) where
        at_end : frame_in (drop at t) ≡ if_some (end_in (drop e t)) (λ rest. option_map (λ f. (f, rest)) (legal_from s ns))
        unfolding behind_byte
        at_end = behind ∙ rw hn refl

        pub line_cut : length t ≤ e → frame_in (drop at t) ≡ None
        line_cut le = at_end ∙ rw (drop_of_length-le t le) refl

        pub line_no_end : e < length t → (get_or t e 0 ≡ 10 → ⊥) → frame_in (drop at t) ≡ None
        line_no_end lt n = at_end ∙ rw (end_here t e lt, ne_eqb (get_or t e 0) 10 n) refl

        ended : e < length t → get_or t e 0 ≡ 10 → frame_in (drop at t) ≡ if_some (legal_from s ns) (λ f. Some (f, drop (e + 1) t))
        ended lt q =
            let z : suc e ≡ e + 1 = omega arith in
            at_end ∙ rw (end_here t e lt, eq-eqb (get_or t e 0) 10 q, z) (same (legal_from s ns))
          where
            same : (o : Option Frame) → option_map {U = Frame × List ℕ} (λ f. (f, drop (e + 1) t)) o ≡ if_some o (λ f. Some (f, drop (e + 1) t))
            same None = refl
            same (Some f) = refl

        pub line_illegal : e < length t → get_or t e 0 ≡ 10 → legal_from s ns ≡ None → frame_in (drop at t) ≡ None
        line_illegal lt q g = ended lt q ∙ rw g refl

        pub line_is : {f : Frame} → e < length t → get_or t e 0 ≡ 10 → legal_from s ns ≡ Some f → frame_in (drop at t) ≡ Some (f, drop (e + 1) t)
        line_is lt q g = ended lt q ∙ rw g refl
