-- The rules' function, part by part. Assumes nothing.
use mathlib.Core.Bool.{false}
use mathlib.Core.Path.{◌≡◌, refl}
use mathlib.Core.List.{List, []}
use mathlib.Core.Option.{none}
use Prim.Native.Nat.{ℕ}
use Rattle.rules.specs.Actions.{Answer, answered, refused, if_answered, loop}
use Rattle.rules.specs.Program as P
use Rattle.rules.specs.Reading.{Parser, with_env, with_self, expect, expect_ident, push_self, push_params, parse_param, turns, parse_statements, parse_statement, end_block, new_fun, parse_fun}
use Rattle.statements.specs.Acts.{stops_at}
use Rattle.statements.proofs.Ifs.{then_same}
use Rattle.functions.specs.Bodies.{head_of, body_of, fun_of}

module _ (L : P.Limits) (s : List ℕ) where
  -- what follows the head, without and with the function's number
  abbrev rest : Parser → Answer (Unit {0} × Parser)
  rest p =
      if_answered {B = Unit {0} × Parser} (parse_statements L s (stops_at false) (parse_statement L s L.depth) p) (λ v.
      if_answered {B = Unit {0} × Parser} (end_block L s (P.Return v.0) v.1) (λ d. if_answered {B = Unit {0} × Parser} (expect s "end" d.1) (λ e. answered (tt, with_self none e.1))))

  abbrev rest_with : ℕ → Parser → Answer (ℕ × Parser)
  rest_with f p =
      if_answered {B = ℕ × Parser} (parse_statements L s (stops_at false) (parse_statement L s L.depth) p) (λ v.
      if_answered {B = ℕ × Parser} (end_block L s (P.Return v.0) v.1) (λ d. if_answered {B = ℕ × Parser} (expect s "end" d.1) (λ e. answered (f, with_self none e.1))))

  abbrev numbered : ℕ → Answer (Unit {0} × Parser) → Answer (ℕ × Parser)
  numbered f a = if_answered {B = ℕ × Parser} a (λ z. answered (f, z.1))

  rest-same : (f : ℕ) (p : Parser) → rest_with f p ≡ numbered f (rest p)
  rest-same f p = one (parse_statements L s (stops_at false) (parse_statement L s L.depth) p)
    where
      three : (a : Answer (Unit {0} × Parser)) → if_answered {B = ℕ × Parser} a (λ e. answered (f, with_self none e.1))
          ≡ numbered f (if_answered {B = Unit {0} × Parser} a (λ e. answered (tt, with_self none e.1)))
      three (answered e) = refl
      three (refused n) = refl

      two : (a : Answer (Unit {0} × Parser)) → if_answered {B = ℕ × Parser} a (λ d. if_answered {B = ℕ × Parser} (expect s "end" d.1) (λ e. answered (f, with_self none e.1)))
          ≡ numbered f (if_answered {B = Unit {0} × Parser} a (λ d. if_answered {B = Unit {0} × Parser} (expect s "end" d.1) (λ e. answered (tt, with_self none e.1))))
      two (answered d) = three (expect s "end" d.1)
      two (refused n) = refl

      one : (a : Answer (P.Opnd × Parser))
          → if_answered {B = ℕ × Parser} a (λ v. if_answered {B = ℕ × Parser} (end_block L s (P.Return v.0) v.1)
          (λ d. if_answered {B = ℕ × Parser} (expect s "end" d.1) (λ e. answered (f, with_self none e.1))))
          ≡ numbered f (if_answered {B = Unit {0} × Parser} a (λ v. if_answered {B = Unit {0} × Parser} (end_block L s (P.Return v.0) v.1)
          (λ d. if_answered {B = Unit {0} × Parser} (expect s "end" d.1) (λ e. answered (tt, with_self none e.1)))))
      one (answered v) = two (end_block L s (P.Return v.0) v.1)
      one (refused n) = refl

  body_same : (f : ℕ) (l : List P.Name) (r : Parser)
      → if_answered {B = ℕ × Parser} (push_self L s r.class (with_env [] r)) (λ a. if_answered {B = ℕ × Parser} (push_params L s 0 l a.1) (λ b. rest_with f b.1))
      ≡ numbered f (body_of L s l r)
  unfolding body_of head_of
  body_same f l r = one (push_self L s r.class (with_env [] r))
    where
      two : (a : Answer (Unit {0} × Parser)) → if_answered {B = ℕ × Parser} a (λ b. rest_with f b.1) ≡ numbered f (if_answered {B = Unit {0} × Parser} a (λ b. rest b.1))
      two (answered b) = rest-same f b.1
      two (refused n) = refl

      one : (a : Answer (Unit {0} × Parser))
          → if_answered {B = ℕ × Parser} a (λ a. if_answered {B = ℕ × Parser} (push_params L s 0 l a.1) (λ b. rest_with f b.1))
          ≡ numbered f (if_answered {A = Unit {0} × Parser} {B = Unit {0} × Parser} (if_answered {B = Unit {0} × Parser} a (λ a. push_params L s 0 l a.1)) (λ b. rest b.1))
      one (answered a) = two (push_params L s 0 l a.1)
      one (refused n) = refl

  pub fun_is : (r : Parser) → parse_fun L s r ≡ fun_of L s r
  unfolding parse_fun fun_of
  fun_is r =
      then_same (expect_ident s r) _ _ (λ n. then_same (new_fun L n.0 n.1) _ _ (λ f. then_same (expect s "(" f.1) _ _ (λ o.
      then_same (loop (parse_param L s) (turns s) [] o.1) _ _ (λ l. then_same (expect s ")" l.1) _ _ (λ c. body_same f.0 l.0 c.1)))))
