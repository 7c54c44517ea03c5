-- The rules of calls, in the parts that the code does one after the other. Assumes nothing.
use mathlib.Core.Bool.{not}
use mathlib.Core.Path.{◌≡◌, refl, sym}
use mathlib.Core.List.{List}
use Prim.Native.Nat.{ℕ}
use Rattle.kinds.specs.declared.Kind.{Kind}
use Rattle.rules.specs.Actions.{Answer, answered, refused, if_answered, ◌>>=◌, ◌>>◌, the, ask}
use Rattle.rules.specs.Lists.{has}
use Rattle.rules.specs.Program as P
use Rattle.rules.specs.Program.{Limits, Program, Name, Send, Static, Dynamic, function}
use Rattle.rules.specs.Machine.{State, Acts, classes_of, add_call, pass_arguments, flows_back, join_all, rule}
use Rattle.sends.specs.Sends.{call_static, send_all}

then_then : (a b : Acts (Unit {0})) (c : Acts Kind) (s : State) → (a >> b >> c) s ≡ (a >> (b >> c)) s
then_then a b c s = go (a s)
  where
    go : (x : Answer (Unit {0} × State)) → if_answered (if_answered x (λ r. b r.1)) (λ r. c r.1) ≡ if_answered x (λ r. if_answered (b r.1) (λ q. c q.1))
    go (answered r) = refl
    go (refused n) = refl

pub static_rule : (L : Limits) (p : Program) (i f : ℕ) (l : List P.Opnd) (s : State)
    → rule L p i (Send (Static f) l) s ≡ (call_static L p i f >> (the (λ t. flows_back L p t i) >>= join_all)) s
unfolding rule
static_rule L p i f l s = go (add_call L p i f s)
  where
    go : (x : Answer (Unit {0} × State))
        → if_answered x (λ r. (ask 17 (not (has (function p f).class)) >> (pass_arguments L p i f >> (the (λ t. flows_back L p t i) >>= join_all))) r.1)
        ≡ if_answered (if_answered x (λ r. (ask 17 (not (has (function p f).class)) >> pass_arguments L p i f) r.1)) (λ r. (the (λ t. flows_back L p t i) >>= join_all) r.1)
    go (answered r) = sym (then_then (ask 17 (not (has (function p f).class))) (pass_arguments L p i f) (the (λ t. flows_back L p t i) >>= join_all) r.1)
    go (refused n) = refl

pub dynamic_rule : (L : Limits) (p : Program) (i : ℕ) (r : P.Opnd) (n : Name) (l : List P.Opnd) (s : State)
    → rule L p i (Send (Dynamic r n) l) s ≡ (send_all L p i n r >> (the (λ t. flows_back L p t i) >>= join_all)) s
unfolding rule
dynamic_rule L p i r n l s = go (classes_of r s) refl
  where
    go : (x : Answer (List ℕ × State)) → classes_of r s ≡ x → rule L p i (Send (Dynamic r n) l) s ≡ (send_all L p i n r >> (the (λ t. flows_back L p t i) >>= join_all)) s
    go (answered a) e = rw e
    go (refused k) e = rw e
