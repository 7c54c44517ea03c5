-- 01's traps: for each a script whose answer it would change, with what the stored frames have of it, evaluated under the rules; and `New`, of which 01 has no
-- script. Assumes nothing.
use Rattle.std.specs.Prelude.{true, false, ◌≡◌, refl, List, [], ◌∷◌, pos}
use Prim.Native.String.{String}
use Rattle.kinds.specs.declared.Kind.TheVariants.{Nil, Num, Any}
use Rattle.rules.specs.Values.{object}
use Rattle.rules.specs.Opened.{opened}
use Rattle.rules.specs.Scripts.{Says, live_are, kind-is, count-is, body, told}

-- the New (4) is an object of its class, its constructor is called with the argument, and the value is the New: the attribute read of it (6) is what was set
abbrev pub made : List (String × List Says)
made = ("class A attr_accessor :x def initialize(v) @x=v end end def main() A.new(3).x end", kind-is 4 (object 4) ∷ kind-is 6 (Num (pos 3)) ∷ []) ∷ []

pub made_told : told made ≡ true
unfolding opened
made_told = refl

-- grouping `1+2+3` left; dropping repeats from a list; nil as false; waking a join; a setting yielding its value
abbrev pub traps : List (String × List Says)
traps =
    (body "9223372036854775807+1+nil", kind-is 0 Any ∷ [])
    ∷ ("def k(y) k(y) k(0) y end def main() k(1) k(1) end", count-is 20 ∷ [])
    ∷ (body "if nil 1 else 2 end", live_are (true ∷ true ∷ true ∷ true ∷ []) ∷ [])
    ∷ (body "if 1 if 1 end 0 end", kind-is 4 Nil ∷ count-is 13 ∷ [])
    ∷ ("class A attr_accessor :x def m() x=@x=4 if x 1 else 2 end end end def main() A.new().m() end", live_are (true ∷ false ∷ false ∷ false ∷ true ∷ []) ∷ [])
    ∷ []

pub traps-told : told traps ≡ true
unfolding opened
traps-told = refl
