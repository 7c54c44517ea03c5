-- The rules' `if`, part by part. Assumes nothing.
use mathlib.Core.Bool.{Bool as 𝔹, true, false}
use mathlib.Core.Path.{◌≡◌, refl, ◌∙◌}
use mathlib.Core.List.{List}
use Prim.Native.Nat.{ℕ}
use Rattle.rules.specs.Actions.{Answer, answered, refused, if_answered, choose}
use Rattle.rules.specs.Program.{Limits, Opnd, Ends, Jump, IfTrue}
use Rattle.rules.specs.Reading.{Env, Parser, Reads, with_env, with_block, nil, all_keys, push_insn, new_block, phi, join_vars, expect, match_token, parse_statements, end_block, parse_block, parse_if}
use Rattle.statements.specs.Acts.{add_end, stops_at, parse_arm, open_else, join_arms, join_value, finish_if, finish_else, parse_else, if_of}

pub then_same : {A B : Type 0} (a : Answer A) (f g : A → Answer B) → ((x : A) → f x ≡ g x) → if_answered a f ≡ if_answered a g
then_same (answered x) f g h = h x
then_same (refused n) f g h = refl

either_same : {A : Type 0} (b : 𝔹) (f g h k : Unit {0} → Answer A) → f tt ≡ h tt → g tt ≡ k tt → choose b f g ≡ choose b h k
either_same true f g h k p q = p
either_same false f g h k p q = q

module _ (L : Limits) (s : List ℕ) where
  -- an arm, then what is done with its last block and its value
  block_arm : {A : Type 0} (S : Reads Opnd) (b j : ℕ) (r : Parser) (K : (ℕ × Opnd) × Parser → Answer A)
      → if_answered (parse_block L s S b j r) K ≡ if_answered (parse_arm L s S j (with_block b r)) (λ p. K ((p.1.block, p.0), p.1))
  unfolding parse_block parse_arm
  block_arm {A} S b j r K = go (parse_statements L s (stops_at true) S (with_block b r))
    where
      end : (v : Opnd) (a : Answer (Unit {0} × Parser))
          → if_answered (if_answered a (λ q. answered ((q.1.block, v), q.1))) K
          ≡ if_answered {A = Opnd × Parser} (if_answered a (λ q. answered (v, q.1))) (λ p. K ((p.1.block, p.0), p.1))
      end v (answered q) = refl
      end v (refused n) = refl

      go : (a : Answer (Opnd × Parser))
          → if_answered (if_answered a (λ p. if_answered (end_block L s (Jump j) p.1) (λ q. answered ((q.1.block, p.0), q.1)))) K
          ≡ if_answered {A = Opnd × Parser} (if_answered a (λ p. if_answered (end_block L s (Jump j) p.1) (λ q. answered (p.0, q.1)))) (λ p. K ((p.1.block, p.0), p.1))
      go (answered p) = end p.0 (end_block L s (Jump j) p.1)
      go (refused n) = refl

  join-end : (join : ℕ) (old : Env) (b : ℕ) (l : Env) (c : ℕ) (e : Env) (v : ℕ) (x : Opnd) (u : ℕ) (y : Opnd) (r : Parser)
      → if_answered (join_vars L b l c e (all_keys l e) (with_env old (with_block join r))) (λ p. if_answered (expect s "end" p.1) (λ q. phi L v x u y q.1))
      ≡ if_answered (join_arms L s join old b l c e r) (λ p. join_value L s v x u y p.1)
  unfolding join_arms join_value
  join-end join old b l c e v x u y r = refl

  module _ (S : Reads Opnd) (before : ℕ) (old : Env) (v : Opnd) (then₀ join last : ℕ) (x : Opnd) (l : Env) where
    abbrev joined : ℕ → (ℕ × Opnd) × Parser → Answer (Opnd × Parser)
    joined e u =
        if_answered (join_vars L then₀ l e u.1.env (all_keys l u.1.env) (with_env old (with_block join u.1)))
        (λ p. if_answered (expect s "end" p.1) (λ q. phi L last x u.0.0 u.0.1 q.1))

    abbrev behind : ℕ × Parser → Answer (Opnd × Parser)
    behind n = if_answered (parse_arm L s S join n.1) (λ u. finish_else L s old join then₀ l last x n.0 u.0 u.1)

    pushed : (e : ℕ) (a : Answer (ℕ × Parser))
        → if_answered a (λ i. if_answered (parse_block L s S e join (with_env old i.1)) (joined e))
        ≡ if_answered {A = ℕ × Parser} (if_answered {A = Unit {0} × Parser} (if_answered a (λ i. answered (tt, i.1))) (λ i. answered (e, with_block e (with_env old i.1)))) behind
    unfolding finish_else
    pushed e (answered i) =
        block_arm S e join (with_env old i.1) (joined e)
        ∙ then_same (parse_arm L s S join (with_block e (with_env old i.1))) (λ p. joined e ((p.1.block, p.0), p.1)) (λ u. finish_else L s old join then₀ l last x e u.0 u.1)
        (λ p. join-end join old then₀ l e p.1.env last x p.1.block p.0 p.1)
    pushed e (refused n) = refl

    opened : (a : Answer (ℕ × Parser))
        → if_answered a (λ n. if_answered (push_insn L before (Ends (IfTrue v then₀ n.0)) n.1) (λ i. if_answered (parse_block L s S n.0 join (with_env old i.1)) (joined n.0)))
        ≡ if_answered {A = ℕ × Parser} (if_answered a (λ n. if_answered {A = Unit {0} × Parser} (if_answered (push_insn L before (Ends (IfTrue v then₀ n.0)) n.1) (λ i. answered (tt, i.1)))
        (λ i. answered (n.0, with_block n.0 (with_env old i.1))))) behind
    opened (answered n) = pushed n.0 (push_insn L before (Ends (IfTrue v then₀ n.0)) n.1)
    opened (refused n) = refl

    else_is : (r : Parser)
        → if_answered (new_block L r) (λ n. if_answered (push_insn L before (Ends (IfTrue v then₀ n.0)) n.1) (λ i. if_answered (parse_block L s S n.0 join (with_env old i.1)) (joined n.0)))
        ≡ if_answered (open_else L s before old v then₀ r) behind
    unfolding open_else add_end
    else_is r = opened (new_block L r)

    bare : (a : Answer (ℕ × Parser))
        → if_answered a
        (λ i. if_answered (join_vars L before old then₀ l (all_keys old l) (with_env old (with_block join i.1))) (λ p. if_answered (expect s "end" p.1) (λ q. phi L before nil last x q.1)))
        ≡ if_answered {A = Unit {0} × Parser} (if_answered a (λ i. answered (tt, i.1))) (λ i. if_answered (join_arms L s join old before old then₀ l i.1) (λ p. join_value L s before nil last x p.1))
    bare (answered i) = join-end join old before old then₀ l before nil last x i.1
    bare (refused n) = refl

    bare_is : (r : Parser)
        → if_answered (push_insn L before (Ends (IfTrue v then₀ join)) r) (λ i. if_answered (join_vars L before old then₀ l (all_keys old l) (with_env old (with_block join i.1))) (λ p.
        if_answered (expect s "end" p.1) (λ q. phi L before nil last x q.1)))
        ≡ finish_if L s before old v then₀ join last x l r
    unfolding finish_if add_end
    bare_is r = bare (push_insn L before (Ends (IfTrue v then₀ join)) r)

  pub if_is : (E : ℕ → Reads Opnd) (S : Reads Opnd) (r : Parser) → parse_if L s E S r ≡ if_of L s E S r
  unfolding parse_if if_of parse_else
  if_is E S r =
      then_same (E 0 r) _ _ (λ v. then_same (new_block L v.1) _ _ (λ t. then_same (new_block L t.1) _ _ (λ j.
      block_arm S t.0 j.0 j.1 _
      ∙ then_same (parse_arm L s S j.0 (with_block t.0 j.1)) _ _ (λ u. then_same (match_token s "else" u.1) _ _ (λ e.
      either_same e.0 _ _ _ _
      (else_is S v.1.block v.1.env v.0 t.0 j.0 u.1.block u.0 u.1.env e.1)
      (bare_is S v.1.block v.1.env v.0 t.0 j.0 u.1.block u.0 u.1.env e.1))))))
