-- Bytes that a writer takes one after the other.
use Rattle.std.proofs.Common.{◌≡◌, ℕ, List, [], ◌++◌, length, take, drop, Option, Some, None, sym, ap, ◌∙◌, append_assoc, append-nil, subst}
use Rattle.std.proofs.Math.Seq.{take-append_seam}
use Rattle.std.proofs.lemmas.List.{take-append-drop}
use Rattle.std.specs.Io.KnownBytes.{Appends, Keeps}
use Rattle.std.proofs.KnownBytes.{Appends-trans}
use Rattle.loft_base.specs.Streams.{AppendsPrefix}

-- what is kept grows by nothing
pub Appends-keeps : (a b : Option (List ℕ)) → Keeps a b → Appends a b []
Appends-keeps None b kept = tt
Appends-keeps (Some xs) None kept = kept
Appends-keeps (Some xs) (Some ys) kept = kept ∙ sym (append-nil xs)

-- of a piece all but this rest is taken
pub record Taken (old now : Option (List ℕ)) (rest piece : List ℕ) : Type 0 where
  pub done : List ℕ
  pub appends : Appends old now done
  pub all : piece ≡ done ++ rest

-- the next bytes of the rest are taken
pub Taken-more : {a b c : Option (List ℕ)} {rest left piece : List ℕ} (n : ℕ) → left ≡ drop n rest → Taken a b rest piece → Appends b c (take n rest) → Taken a c left piece
Taken-more {a = a} {b = b} {c = c} {rest = rest} n is taken next = record {
  done = taken.done ++ take n rest;
  appends = Appends-trans a b c taken.done (take n rest) taken.appends next;
  all = taken.all ∙ ap (λ x. taken.done ++ x) (sym (take-append-drop n rest)) ∙ sym (append_assoc taken.done (take n rest) (drop n rest)) ∙ ap (λ x. (taken.done ++ take n rest) ++ x) (sym is);
}

-- the rest isn't taken
pub Taken-stops : (a b c : Option (List ℕ)) (rest piece : List ℕ) → Taken a b rest piece → Keeps b c → AppendsPrefix a c piece
Taken-stops a b c rest piece taken kept =
    let first : take (length taken.done) piece ≡ taken.done = ap (take (length taken.done)) taken.all ∙ take-append_seam taken.done rest in
    (length taken.done, subst (Appends a c) (sym first) (subst (Appends a c) (append-nil taken.done) (Appends-trans a b c taken.done [] taken.appends (Appends-keeps b c kept))))
