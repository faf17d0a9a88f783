-- What is known of a value that is known.
use Rattle.std.proofs.Common.{◌≡◌, subst, Option, Some}
use Rattle.std.specs.Prelude.{IfSome}

pub if_some : {A : Type 0} (P : A → Type 0) (o : Option A) (x : A) → IfSome o P → o ≡ Some x → P x
if_some P o x holds is = subst (λ (q : Option _). IfSome q P) is holds
