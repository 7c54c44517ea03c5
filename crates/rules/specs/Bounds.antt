-- The bound of seven scripts, worked out by hand from 01's formula:
-- T = N + h·E + S·R·(1 + h) + G·V·h with h = C + 2, and the bound is 3·T·(1 + P) + S-as-F. Assumes nothing.
use Rattle.std.specs.Prelude.{Bool as 𝔹, false, List, [], ◌∷◌, ℕ, eqb}
use Prim.Native.String.{String}
use Rattle.rules.specs.Actions.{Answer, answered, refused}
use Rattle.rules.specs.Lists.{bytes, all}
use Rattle.rules.specs.Program.{Program, limits}
use Rattle.rules.specs.Reading.{parse_program}
use Rattle.rules.specs.Bound.{bound}

abbrev pub worked : List (String × ℕ)
worked =
    -- 01's listing: Add, Return. N 2, E 1, R 1, F 1, h 6. T = 2 + 6·1 = 8; 3·8
    ("def main() return 1+2 end", 24)
    -- a user that has an operand twice counts once: Add, Add, Return. N 3, E 2, R 1, F 1, h 6. T = 3 + 6·2 = 15; 3·15
    ∷ ("def main() x = 1+2 x+x end", 45)
    -- LessThan, Return, IfTrue, Return, Return. N 5, E 1, R 3, F 1, h 6; no call, so the returns add nothing. T = 5 + 6·1 = 11; 3·11
    ∷ ("def main() if 1 < 2 return 3 else return 4 end end", 33)
    -- Param, Return, IfTrue, Return, Return; bare call, Return. N 7, E 2, S 1, R 4, P 1, F 2, h 6. T = 7 + 6·2 + 1·4·7 = 47; 3·47·2 + 1·2
    ∷ ("def f(a) if a return 1 else return 2 end end def main() f(2) end", 284)
    -- SelfParam, two GetIvars, Add, Return. N 5, E 5, R 1, G 2, V 3, F 1, h 7. T = 5 + 7·5 + 2·3·7 = 82; 3·82
    ∷ ("class A attr_accessor :x attr_accessor :y attr_accessor :z def m() @x + @y end end", 246)
    -- SelfParam, Param, Return; SelfParam, two Params, Return; New, two sends, Return. N 11, E 5, S 2, R 3, P 3, F 3, h 7.
    -- T = 11 + 7·5 + 2·3·8 = 94; 3·94·4 + 2·3
    ∷ ("class A def initialize(v) v end def m(w, u) w end end def main() A.new(1).m(2, 3) end", 1134)
    -- all at once: SelfParam, Param, SetIvar, Return; SelfParam, Param, GetIvar, Add, Return; Param, send, Return; New, send, bare call, Return.
    -- N 16, E 12, S 3, R 4, G 1, V 1, P 3, F 4, h 7. T = 16 + 7·12 + 3·4·8 + 1·1·7 = 203; 3·203·4 + 3·4
    ∷ ("class A attr_accessor :x def initialize(v) @x = v end def m(w) @x + w end end def f(o) o.m(1) end def main() f(A.new(2)) end", 2448)
    ∷ []

-- the script is read, and its program's bound is n
abbrev pub bound_is : ℕ → Answer Program → 𝔹
bound_is n (answered p) = eqb (bound p) n
bound_is n (refused m) = false

abbrev pub agrees : List (String × ℕ) → 𝔹
agrees l = all (λ (x : String × ℕ). bound_is x.1 (parse_program limits (bytes x.0))) l
