-- A receiver's classes are the program's where its kind is one that can arise. Assumes nothing.
use mathlib.Core.Option.{some}
use mathlib.Core.Path.{◌≡◌, subst}
use mathlib.Core.List.{List}
use Prim.Native.Nat.{ℕ, ◌^◌, ◌<◌}
use native.Mathlib.Omega.{arith}
use Rattle.ids.proofs.Members.{members_below}
use Rattle.kinds.specs.declared.Kind.{Kind}
use Rattle.kinds.specs.declared.Kind.TheVariants.{Empty, Nil, Num, Truth, Fun, Class, Int, Bool, Objects, Any}
use Rattle.kinds.specs.Heights.{Good}
use Rattle.rules.specs.Values.{classes_in}
use Rattle.program.specs.declared.Opnd.{Opnd}
use Rattle.program.specs.Rows.{opnd_of}
use Rattle.state.specs.declared.Sizes.{Sizes}
use Rattle.state.specs.View.{kinds_of}
use Rattle.machine.specs.opnds.Reads.{kind_in}
use Rattle.machine.specs.receivers.Receivers.{ClassesBelow, ReceiverWithin}

good-below : (n : ℕ) (k : Kind) → Good n k → (s : ℕ) → classes_in k ≡ some s → ClassesBelow n s
good-below n Empty g s e = absurd (let y : ◌≡◌ {A = ℕ} 0 1 = cc in omega arith)
good-below n Nil g s e = absurd (let y : ◌≡◌ {A = ℕ} 0 1 = cc in omega arith)
good-below n (Num i) g s e = absurd (let y : ◌≡◌ {A = ℕ} 0 1 = cc in omega arith)
good-below n (Truth t) g s e = absurd (let y : ◌≡◌ {A = ℕ} 0 1 = cc in omega arith)
good-below n (Fun f) g s e = absurd (let y : ◌≡◌ {A = ℕ} 0 1 = cc in omega arith)
good-below n (Class c) g s e = absurd (let y : ◌≡◌ {A = ℕ} 0 1 = cc in omega arith)
good-below n Int g s e = absurd (let y : ◌≡◌ {A = ℕ} 0 1 = cc in omega arith)
good-below n Bool g s e = absurd (let y : ◌≡◌ {A = ℕ} 0 1 = cc in omega arith)
good-below n (Objects t) g s e = let q : t ≡ s = cc in record { below = λ c m. members_below n s c (subst (λ (x : ℕ). x < 2 ^ n) q g.below) m }
good-below n Any g s e = absurd (let y : ◌≡◌ {A = ℕ} 0 1 = cc in omega arith)

pub within-good : (z : Sizes) (m : List ℕ) (o : Opnd) → Good z.classes (kind_in (kinds_of z m) (opnd_of o)) → ReceiverWithin z m o
within-good z m o g = record { classes = good-below z.classes (kind_in (kinds_of z m) (opnd_of o)) g }

-- a change that leaves the kinds leaves this
pub within-kept : {z : Sizes} {m w : List ℕ} {o : Opnd} → kinds_of z w ≡ kinds_of z m → ReceiverWithin z m o → ReceiverWithin z w o
within-kept {z} {m} {w} {o} e h = record { classes = λ s g. h.classes s (subst (λ (ks : List Kind). classes_in (kind_in ks (opnd_of o)) ≡ some s) e g) }
