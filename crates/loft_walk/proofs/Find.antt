-- A stop that is looked for with one more piece of work after it.
use Rattle.std.proofs.Common.{◌≡◌, ℕ, ◌-◌, ℤ, List, [], ◌∷◌, ◌++◌, sym, ap, ◌∙◌, length, take, drop, arith, Option, Some, None, length-append, length-drop, get_or, suc, ◌+◌, ◌<◌, add-one, Bor, subst}
use Rattle.std.proofs.Math.Seq.{drop-cons, take-append_seam, take-length}
use Rattle.loft_tree.specs.declared.named.NamedStmt.{NamedStmt}
use Rattle.loft_tree.specs.Resolved.{Step}
use Rattle.loft_sense.specs.Tree.{Work, body_then, after_step, after_body, stop_at_step, stop_at, first_some}
use Rattle.loft_walk.specs.declared.work.Piece.{Piece}
use Rattle.loft_walk.specs.Pieces.{body_from, step_from, piece_before, work_of, IsFound}
use Rattle.loft_walk.proofs.Onto.{work_of-push}

-- f looks for the stop before the work that is left
module _ (stop : Option Step) (f : List Work → Option (List Work)) (old pushed new : List Piece) (p : Piece) (is_pushed : pushed ≡ old ++ p ∷ []) where
  pushed_same : f (work_of pushed) ≡ f (piece_before p (work_of old))
  pushed_same = ap f (ap work_of is_pushed ∙ work_of-push old p)

  pub found_pushed : (o : Option (Bor NamedStmt)) (s : Bor NamedStmt) → o ≡ Some s → IsFound o stop (f (work_of pushed)) pushed new
      → (stop ≡ Some (step_from s.now)) × (f (piece_before p (work_of old)) ≡ Some (work_of new))
  found_pushed None s e h = absurd cc
  found_pushed (Some t) s e h =
      let same = ap (λ (x : Option (Bor NamedStmt)). x) e in
      subst (λ (x : Option (Bor NamedStmt)). IsFound x stop (f (piece_before p (work_of old))) pushed new) e (h.0, sym pushed_same ∙ h.1)

  pub none_pushed : (o : Option (Bor NamedStmt)) → o ≡ None → IsFound o stop (f (work_of pushed)) pushed new → (popped : List Piece) (n : ℕ) → n ≡ length new → popped ≡ take (n - 1) new
      → (stop ≡ None) × (f (piece_before p (work_of old)) ≡ None) × (popped ≡ old)
  none_pushed (Some s) e h popped n l t = absurd cc
  none_pushed None e h popped n l t = (h.0, sym pushed_same ∙ h.1, t ∙ (ap (take (n - 1)) (h.2 ∙ is_pushed) ∙ front))
    where
      front : take (n - 1) (old ++ p ∷ []) ≡ old
      front = let e : n - 1 ≡ length old = omega (arith, l, ap length h.2, ap length is_pushed, length-append old (p ∷ [])) in ap (λ (m : ℕ). take m (old ++ p ∷ [])) e ∙ take-append_seam old (p ∷ [])

-- the slice from j on
tail_is : (b : List NamedStmt) (j : ℕ) → take (length b - j) (drop j b) ≡ drop j b
tail_is b j = ap (λ (n : ℕ). take n (drop j b)) (sym (length-drop j b)) ∙ take-length (drop j b)

-- the statement at i, and the slice after it
module _ (b : List NamedStmt) (i : ℕ) (s : NamedStmt) (within : i < length b) (is : s ≡ get_or b i s) (k : ℕ) (counts : List ℤ) (w : List Work) where
  cut : drop i b ≡ s ∷ drop (i + 1) b
  cut = drop-cons b i s within ∙ (ap (λ (x : NamedStmt). x ∷ drop (suc i) b) (sym is) ∙ ap (λ (n : ℕ). s ∷ drop n b) (sym (add-one i)))

  stop_from : stop_at (body_from (drop i b)) k ≡ first_some (stop_at_step (step_from s) k) (stop_at (body_from (drop (i + 1) b)) k)
  stop_from = ap (λ (l : List NamedStmt). stop_at (body_from l) k) cut

  work_from : after_body (body_from (drop i b)) k counts w ≡ first_some (after_step (step_from s) k counts (body_then (body_from (take (length b - (i + 1)) (drop (i + 1) b))) w)) (after_body (body_from (drop (i + 1) b)) k counts w)
  work_from =
      ap (λ (l : List NamedStmt). after_body (body_from l) k counts w) cut
      ∙ ap (λ (l : List NamedStmt). first_some (after_step (step_from s) k counts (body_then (body_from l) w)) (after_body (body_from (drop (i + 1) b)) k counts w)) (sym (tail_is b (i + 1)))

  -- the stop is in the statement
  pub stop_here : (x : Step) → stop_at_step (step_from s) k ≡ Some x → stop_at (body_from (drop i b)) k ≡ Some x
  stop_here x e = stop_from ∙ ap (λ (o : Option Step). first_some o (stop_at (body_from (drop (i + 1) b)) k)) e

  pub work_here : (v : List Work) → after_step (step_from s) k counts (body_then (body_from (take (length b - (i + 1)) (drop (i + 1) b))) w) ≡ Some v → after_body (body_from (drop i b)) k counts w ≡ Some v
  work_here v e = work_from ∙ ap (λ (o : Option (List Work)). first_some o (after_body (body_from (drop (i + 1) b)) k counts w)) e

  -- the stop isn't in the statement
  pub stop_later : stop_at_step (step_from s) k ≡ None → stop_at (body_from (drop i b)) k ≡ stop_at (body_from (drop (i + 1) b)) k
  stop_later e = stop_from ∙ ap (λ (o : Option Step). first_some o (stop_at (body_from (drop (i + 1) b)) k)) e

  pub work_later : after_step (step_from s) k counts (body_then (body_from (take (length b - (i + 1)) (drop (i + 1) b))) w) ≡ None → after_body (body_from (drop i b)) k counts w ≡ after_body (body_from (drop (i + 1) b)) k counts w
  work_later e = work_from ∙ ap (λ (o : Option (List Work)). first_some o (after_body (body_from (drop (i + 1) b)) k counts w)) e
