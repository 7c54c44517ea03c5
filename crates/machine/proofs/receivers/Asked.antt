-- Question 14. Assumes nothing.
use mathlib.Core.Option.{some, none}
use mathlib.Core.Path.{◌≡◌, refl, sym, ap, ◌∙◌}
use mathlib.Core.List.{List}
use Prim.Native.Nat.{ℕ}
use Rattle.ids.specs.Sets.{members_of}
use Rattle.kinds.specs.declared.Kind.{Kind}
use Rattle.kinds.specs.declared.Kind.TheVariants.{Empty, Nil, Num, Truth, Fun, Class, Int, Bool, Objects, Any}
use Rattle.rules.specs.Actions.{answered, refused}
use Rattle.rules.specs.Values.{classes_in}
use Rattle.rules.specs.Program as P
use Rattle.rules.specs.Machine.{State, classes_of}
use Rattle.program.specs.declared.Opnd.{Opnd}
use Rattle.program.specs.Rows.{opnd_of}
use Rattle.state.specs.declared.Sizes.{Sizes}
use Rattle.state.specs.View.{kinds_of, state_view}
use Rattle.machine.specs.opnds.Reads.{kind_in}
use Rattle.machine.proofs.opnds.Given.{kind_of_lem}
use Rattle.std.specs.Prelude.{Ok, Err}
use Rattle.refusals.specs.declared.Refusal.TheVariants.{NotAnObject}
use Rattle.machine.specs.receivers.Receivers.{Receives}

pub asked-yes : (o : P.Opnd) (s : State) (c : ℕ) → classes_in (kind_in s.kinds o) ≡ some c → classes_of o s ≡ answered (members_of c, s)
unfolding classes_of
asked-yes o s c e = let g = ap classes_in (kind_of_lem s o) ∙ e in rw g

pub asked_no : (o : P.Opnd) (s : State) → classes_in (kind_in s.kinds o) ≡ none → classes_of o s ≡ refused 14
unfolding classes_of
asked_no o s e = let g = ap classes_in (kind_of_lem s o) ∙ e in rw g

module _ (z : Sizes) (m : List ℕ) (o : Opnd) {k : Kind} (ek : k ≡ kind_in (kinds_of z m) (opnd_of o)) where
  pub is_object : (c : ℕ) → k ≡ Objects c → Receives z m o (Ok c)
  is_object c h = record { is = λ v q. sym (asked-yes (opnd_of o) (state_view z v m q) c (ap classes_in (sym ek ∙ h))) }

  pub is_other : classes_in k ≡ none → Receives z m o (Err NotAnObject)
  is_other h = record { is = λ v q. sym (asked_no (opnd_of o) (state_view z v m q) (ap classes_in (sym ek) ∙ h)) }

pub of_other : (k : Kind) → ((c : ℕ) → k ≡ Objects c → ⊥) → classes_in k ≡ none
of_other Empty h = refl
of_other Nil h = refl
of_other (Num n) h = refl
of_other (Truth t) h = refl
of_other (Fun f) h = refl
of_other (Class c) h = refl
of_other Int h = refl
of_other Bool h = refl
of_other (Objects s) h = absurd (h s refl)
of_other Any h = refl
