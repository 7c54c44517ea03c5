-- A record that was read is one that the answer memory holds. Assumes nothing.
use mathlib.Core.Bool.{true}
use mathlib.Core.Path.{◌≡◌}
use mathlib.Core.List.{List, [], ◌∷◌}
use Prim.Native.Nat.{ℕ, zero, suc, ◌<◌}
use native.Mathlib.Nat.{not-suc-le-zero, le_of_suc-le-suc}
use lib.ListN.{length, get_or}
use Rattle.kinds.specs.declared.Kind.TheVariants.{Empty}
use Rattle.kinds.specs.Kinds.{tag_of, payload_of, fits_of}
use Rattle.rules.specs.Actions.{answered}
use Rattle.rules.specs.Lists.{concat}
use Rattle.rules.specs.Values.{function_below}
use Rattle.rules.proofs.Wellformed.Tests.{and3_true}
use Rattle.answer.specs.Record.{Record, Legal}
use Rattle.decode.specs.Lines.{allowed}
use Rattle.decode.specs.Stored.{answer, legal_kind, legal_record, read_text}
use Rattle.decode.specs.Standing.{Each}
use Rattle.decode.proofs.Lines.{each-append}
use Rattle.decode.proofs.Pairs.{Rises, Below}
use Rattle.decode.proofs.Records.{parts}
use Rattle.decode.proofs.Theorem.{read_legal}

get_each : {A : Type 0} (P : A → Type 0) (l : List A) (d : A) (i : ℕ) → Each P l → i < length l → P (get_or l i d)
get_each P [] d i h lt = absurd (not-suc-le-zero lt)
get_each P (x ∷ l) d zero h lt = h.0
get_each P (x ∷ l) d (suc i) h lt = get_each P l d i h.1 (le_of_suc-le-suc lt)

below_all : (top : ℕ) (ls : List (List ℕ)) → Each (λ l. Rises 0 l × Below top l) ls → Below top (concat ls)
below_all top [] h = tt
below_all top (l ∷ ls) h = each-append (λ x. x < top) l (concat ls) h.0.1 (below_all top ls h.1)

pub legal_image : (r : Record) → legal_record r ≡ true → Legal r
legal_image r h =
    let p = parts r h in
    let N = length r.kinds in
    record {
      functions = p.functions;
      blocks = p.blocks;
      instructions = p.instructions;
      lists = p.lists;
      uses = p.uses;
      numbers = λ j lt. get_each (λ x. x < N) (concat r.users) 0 j (below_all N r.users p.users) lt;
      rows = λ f lt. get_each (λ row. length row ≡ N) r.callers [] f p.rows lt;
      fits = λ i lt. (and3_true (fits_of (get_or r.kinds i Empty)) (allowed (tag_of (get_or r.kinds i Empty)) (payload_of (get_or r.kinds i Empty)))
          (function_below (length r.callers) (get_or r.kinds i Empty)) (get_each (λ k. legal_kind (length r.callers) k ≡ true) r.kinds Empty i p.kinds lt)).0;
    }

pub read_image : (t : List ℕ) (r : Record) → read_text t ≡ answered (answer r) → Legal r
read_image t r e = legal_image r (read_legal t (answer r) e)
