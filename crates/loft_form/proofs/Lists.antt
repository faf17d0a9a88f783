-- Lists, as a loop reads them.
use Rattle.std.proofs.Common.{◌≡◌, ℕ, ◌<◌, true, false, List, [], ◌∷◌, ◌++◌, Ok, Err, refl, sym, ◌∙◌, ap, append_assoc}
use Rattle.std.proofs.lemmas.List.{append-nil}
use Rattle.loft_form.specs.declared.stop.Stop.{Stop}
use Rattle.loft_form.specs.declared.stop.Stop.TheVariants as stop
use Rattle.loft_form.specs.Form.{Language, Form, many, Grammar, Limits, State, next_begins}
use Rattle.loft_form.specs.Reading.{Place, Read, ◌>>=◌, with_first, read, done, Fails}
use Rattle.loft_form.proofs.Progress.{least, many_more, many_done}

abbrev pub with_front : {L : Language} {A : Type 0} → List A → Read L (List A) → Read L (List A)
with_front xs (Ok y) = Ok (xs ++ y.0, y.1)
with_front xs (Err e) = Err e

regroup : {L : Language} {A : Type 0} (xs : List A) (x : A) (found : Read L (List A)) → with_front xs (with_first x found) ≡ with_front (xs ++ x ∷ []) found
regroup xs x (Ok y) = ap (λ zs. Ok (zs, y.1)) (simp append_assoc)
regroup xs x (Err e) = refl

module _ {L : Language} (G : Grammar L) (lim : Limits L) {a : Type 0} (n : ℕ) (f : Form L a) (xs : List a) (ss : List L.Symbol) (c : State L) (total : Read L (List a)) (so_far : with_front xs (read G lim n (many f) ss c) ≡ total) where
  pub list_more : (x : a) (p : Place L) → 0 < least f → next_begins f ss ≡ true → read G lim n f ss c ≡ Ok (x, p) → with_front (xs ++ x ∷ []) (read G lim n (many f) p.rest p.state) ≡ total
  list_more x p h b e =
      let one : read G lim n (many f) ss c ≡ with_first x (read G lim n (many f) p.rest p.state) = many_more G lim n f ss c h b ∙ ap (λ r. r >>= λ y. with_first y.0 (read G lim n (many f) y.1.rest y.1.state)) e in
      sym (regroup xs x (read G lim n (many f) p.rest p.state)) ∙ ap (with_front xs) (sym one) ∙ so_far

  pub list_fails : (e : Stop) → 0 < least f → next_begins f ss ≡ true → Fails e (read G lim n f ss c) → Fails e total
  list_fails stop.NoMemory h b r = tt
  list_fails (stop.Fault d) h b r =
      let one : read G lim n (many f) ss c ≡ Err d = many_more G lim n f ss c h b ∙ ap (λ r. r >>= λ y. with_first y.0 (read G lim n (many f) y.1.rest y.1.state)) r in
      sym so_far ∙ ap (with_front xs) one

  pub list_done : 0 < least f → next_begins f ss ≡ false → total ≡ done xs ss c
  list_done h b = sym so_far ∙ ap (with_front xs) (many_done G lim n f ss c h b) ∙ ap (λ zs. done zs ss c) (append-nil xs)
