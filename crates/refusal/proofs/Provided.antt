-- What is given under a test has passed it.
use Rattle.std.proofs.Common.{◌≡◌, Bool, true, false, refl}
use Rattle.refusal.specs.Refusals.{Answer, Refusal, given, provided}

pub passed : {A : Type 0} (t : Bool) (c : Refusal) (a : Answer A) (x : A) → given x ≡ provided t c a → (t ≡ true) × (given x ≡ a)
passed true c a x e = (refl, e)
passed false c a x e = cc

pub same_given : {A : Type 0} (x y : A) → given x ≡ given y → x ≡ y
same_given x y e = cc
