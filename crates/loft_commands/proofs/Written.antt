-- What was appended, as a text of which something holds.
use Rattle.std.proofs.Common.{◌≡◌, ℕ, List, [], ◌++◌, take, drop, inl, inr, refl, sym, ◌∙◌, ap, subst, Option, Some, Result, Ok, Err, append-nil}
use Rattle.std.specs.Prelude.{OnOk, OnErr}
use Rattle.std.proofs.lemmas.List.{take-append-drop}
use Rattle.loft_base.specs.Outside.{appended, GrowsByPrefix}
use Rattle.loft_commands.specs.Written.{AppendsSome, IsPrefix, HasNoRoom}

-- what was appended is a text of which P holds
pub appends : {old new : Option (List ℕ)} {P : List ℕ → Type 0} (text : List ℕ) → new ≡ appended old text → P text → AppendsSome old new P
appends {old = old} {P = P} text grew holds = λ written known. (text, grew ∙ ap (λ (o : Option (List ℕ)). appended o text) known, holds)

-- what was appended is a prefix of a text of which P holds
pub begun : {old new : Option (List ℕ)} (P : List ℕ → Type 0) (text : List ℕ) → GrowsByPrefix old new text → P text → AppendsSome old new (IsPrefix P)
begun P text (n, grew) holds = λ written known.
    (take n text, grew ∙ ap (λ (o : Option (List ℕ)). appended o (take n text)) known, inr (drop n text, subst P (sym (take-append-drop n text)) holds))

-- nothing was appended
pub not_begun : {old new : Option (List ℕ)} (P : List ℕ → Type 0) → new ≡ old → AppendsSome old new (IsPrefix P)
not_begun P same = λ written known. ([], same ∙ (known ∙ ap (λ (w : List ℕ). Some w) (sym (append-nil written))), inl refl)

-- what P says, Q says too
pub part_of : {old new : Option (List ℕ)} (P Q : List ℕ → Type 0) → ((text : List ℕ) → P text → Q text) → AppendsSome old new (IsPrefix P) → AppendsSome old new (IsPrefix Q)
part_of P Q f part = λ written known. let (text, grew, is) = part written known in (text, grew, go text is)
  where
    go : (text : List ℕ) → IsPrefix P text → IsPrefix Q text
    go text (inl none) = inl none
    go text (inr (rest, holds)) = inr (rest, f (text ++ rest) holds)

-- the same of a whole text
pub whole_of : {old new : Option (List ℕ)} (P Q : List ℕ → Type 0) → ((text : List ℕ) → P text → Q text) → AppendsSome old new P → AppendsSome old new Q
whole_of P Q f whole = λ written known. let (text, grew, is) = whole written known in (text, grew, f text is)

-- the same of a text for which there is no room
pub room_of : {room : ℕ} (P Q : List ℕ → Type 0) → ((text : List ℕ) → P text → Q text) → HasNoRoom room P → HasNoRoom room Q
room_of P Q f (text, is, longer) = (text, f text is, longer)

-- from where nothing was appended
pub from_same : {old mid new : Option (List ℕ)} (P : List ℕ → Type 0) → mid ≡ old → AppendsSome mid new P → AppendsSome old new P
from_same {new = new} P same grows = subst (λ (o : Option (List ℕ)). AppendsSome o new P) same grows

pub on_ok : {A E P Q : Type 0} (r : Result A E) → OnOk r P → (P → Q) → OnOk r Q
on_ok (Ok x) p f = f p
on_ok (Err e) p f = tt

pub on_err : {A E P Q : Type 0} (r : Result A E) → OnErr r P → (P → Q) → OnErr r Q
on_err (Ok x) p f = tt
on_err (Err e) p f = f p

pub err_holds : {A E P : Type 0} (r : Result A E) → P → OnErr r P
err_holds (Ok x) p = tt
err_holds (Err e) p = p

same_found : {A : Type 0} {o : Option A} {a b : A} → Some a ≡ o → o ≡ Some b → a ≡ b
same_found p q = cc

-- what holds of what was found holds of each that it is
pub of_found : {A : Type 0} {o : Option A} {a b : A} (Q : A → Type 0) → Some a ≡ o → o ≡ Some b → Q a → Q b
of_found Q p q holds = subst Q (same_found p q) holds
