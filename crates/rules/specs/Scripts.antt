-- 01's starred scripts, scripts of order 2 and 01's listing, evaluated under the rules. Assumes nothing.
use Rattle.std.specs.Prelude.{Bool as 𝔹, true, false, not, ◌&&◌, ◌||◌, ◌≡◌, refl, List, [], ◌∷◌, ℕ, eqb, pos, get_or}
use Prim.Native.String.{String, ◌++◌}
use Rattle.kinds.specs.declared.Kind.{Kind}
use Rattle.kinds.specs.declared.Kind.TheVariants.{Empty, Num, Int, Any}
use Rattle.kinds.specs.Kinds.{same_kind}
use Rattle.rules.specs.Actions.{Answer, answered, refused}
use Rattle.rules.specs.Lists.{bytes, all}
use Rattle.rules.specs.Values.{object}
use Rattle.rules.specs.Program.{limits}
use Rattle.rules.specs.Frames.{Analysis, analyze, live}
use Rattle.rules.specs.Opened.{opened}

-- what 01 says of a script, and orders 1 and 2 of 02
pub data Says : Type 0 where
  refusal : ℕ → Says
  accepted : Says
  live_are : List 𝔹 → Says
  kind-is : ℕ → Kind → Says
  count-is : ℕ → Says

abbrev pub same_truths : List 𝔹 → List 𝔹 → 𝔹
same_truths [] [] = true
same_truths [] (y ∷ m) = false
same_truths (x ∷ l) [] = false
same_truths (x ∷ l) (y ∷ m) = ((x && y) || (not x && not y)) && same_truths l m

abbrev pub holds : Answer Analysis → Says → 𝔹
holds (answered a) (refusal n) = false
holds (refused m) (refusal n) = eqb n m
holds (answered a) accepted = true
holds (refused m) accepted = false
holds (answered a) (live_are l) = same_truths a.state.live l
holds (refused m) (live_are l) = false
holds (answered a) (kind-is i k) = same_kind (get_or a.state.kinds i Empty) k
holds (refused m) (kind-is i k) = false
holds (answered a) (count-is n) = eqb a.state.count n
holds (refused m) (count-is n) = false

-- a bare expression as the body of `main`
abbrev pub body : String → String
body t = "def main() " ++ t ++ " end"

abbrev pub starred : List (String × List Says)
starred =
    ("", refusal 12 ∷ [])
    ∷ ("class A", refusal 12 ∷ [])
    ∷ ("def main() if 1 < 2 return 3 else return 4 end end", live_are (true ∷ true ∷ false ∷ false ∷ []) ∷ count-is 6 ∷ [])
    ∷ ("def f(a) a+1 end def main() f(2) end", kind-is 3 (Num (pos 3)) ∷ count-is 11 ∷ [])
    ∷ ("class A def m() 1 end end", count-is 2 ∷ kind-is 0 (object 4) ∷ [])
    ∷ (body "9223372036854775807+1", kind-is 0 Int ∷ [])
    ∷ (body "9223372036854775808", refusal 4 ∷ [])
    ∷ (body "1+nil", kind-is 0 Any ∷ [])
    ∷ (body "1-1", kind-is 0 (Num (pos 0)) ∷ [])
    ∷ (body "if false 1-1 end", accepted ∷ [])
    ∷ ("def main() x1 end", refusal 6 ∷ [])
    ∷ ("def f(a) a end def main() f(1,) end", accepted ∷ [])
    ∷ []

-- order 2 of 02: a digit goes on in a word (`x2` is a name that isn't bound, no x and a 2) and starts none (`1a2` is 1, then a2)
abbrev pub numbered : List (String × List Says)
numbered =
    (body "x=1 x2", refusal 6 ∷ [])
    ∷ ("def f(a2) 1a2 end def main() f(3) end", kind-is 2 (Num (pos 3)) ∷ [])
    ∷ []

abbrev pub told : List (String × List Says) → 𝔹
told l = all (λ (x : String × List Says). all (holds (analyze limits (bytes x.0))) x.1) l

-- all that is said of the starred scripts holds
pub starred-told : told starred ≡ true
unfolding opened
starred-told = refl

-- all that is said of names with digits holds
pub numbered-told : told numbered ≡ true
unfolding opened
numbered-told = refl

-- 01's listing
pub listing : live (bytes "def main() return 1+2 end")
    ≡ bytes "01010100020000000000000003\n020001\n030000020000000000000003\n030001000000000000000000\n0400000001\n"
unfolding opened
listing = refl
