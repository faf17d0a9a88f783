-- Whether a body breaks a rule of pairs doesn't depend on which modules leave.
use Rattle.std.proofs.Common.{◌≡◌, ℕ, ◌+◌, ◌-◌, Bool, true, false, List, [], ◌∷◌, ◌++◌, drop, Option, Some, None, refl, sym, ap, ◌∙◌}
use Rattle.std.specs.Prelude.{if◌then◌else◌}
use Rattle.std.specs.Str.{bytes_eq}
use Rattle.loft_base.specs.declared.ids.ModuleId.{ModuleId}
use Rattle.loft_tree.specs.NamedTree.{NamedStatements, Do, Hold, Run, If, While, Repeat, Done, Then}
use Rattle.loft_tree.specs.Resolved.{pause_of}
use Rattle.loft_locks.specs.Locks.{is_away}
use Rattle.loft_locks.specs.Outline.{Outline, Nothing, Takes, Gives, Goes, Within, goes_if, run_part, outline, is_first, closes_at, pair_fault}
use Rattle.loft_lock_forms.specs.Marks.{Use, TakeOf, GiveOf, Mark, use_at}

-- an outline without what leaves
abbrev stays : Outline → Outline
stays Nothing = Nothing
stays (Takes l rest) = Takes l (stays rest)
stays (Gives l rest) = Gives l (stays rest)
stays (Goes rest) = stays rest
stays (Within first second rest) = Within (stays first) (stays second) (stays rest)

same_closes : (later : ℕ) (l : List ℕ) (o : Outline) → closes_at later l o ≡ closes_at later l (stays o)
same_closes later l Nothing = refl
same_closes later l (Takes k rest) = same_closes (if bytes_eq l k then later + 1 else later) l rest
same_closes later l (Gives k rest) =
    let a = same_closes (later - 1) l rest in
    let b = same_closes later l rest in
    rw (a, b) refl
same_closes later l (Goes rest) = same_closes later l rest
same_closes later l (Within first second rest) = same_closes later l rest

same_fault : (outer own : List (List ℕ)) (o : Outline) → pair_fault outer own o ≡ pair_fault outer own (stays o)
same_fault outer own Nothing = refl
same_fault outer own (Takes l rest) =
    let a = same_closes 0 l rest in
    let b = same_fault outer (l ∷ own) rest in
    rw (a, b) refl
same_fault outer own (Gives l rest) = ap (λ x. if is_first l own then x else Some l) (same_fault outer (drop 1 own) rest)
same_fault outer own (Goes rest) = same_fault outer own rest
same_fault outer own (Within first second rest) =
    let a = same_fault (own ++ outer) [] first in
    let b = same_fault (own ++ outer) [] second in
    let c = same_fault outer own rest in
    rw (a, b, c) refl

goes_same : (a : Bool) (o : Outline) → stays (goes_if a o) ≡ stays o
goes_same true o = refl
goes_same false o = refl

run_same : (a b : Bool) (u : Option Use) (o p : Outline) → stays o ≡ stays p → stays (run_part a u o) ≡ stays (run_part b u p)
run_same a b None o p e = goes_same a o ∙ e ∙ sym (goes_same b p)
run_same a b (Some (TakeOf l)) o p e = goes_same a (Takes l o) ∙ ap (λ q. Takes l q) e ∙ sym (goes_same b (Takes l p))
run_same a b (Some (GiveOf l)) o p e = ap (λ q. Gives l q) (goes_same a o ∙ e ∙ sym (goes_same b p))

within_same : (x y : Outline) (u v : Outline) (o p : Outline) → x ≡ y → u ≡ v → o ≡ p → Within x u o ≡ Within y v p
within_same x y u v o p a b c = rw (a, b, c) refl

module _ (marks : List Mark) (away other : ModuleId → Bool) where
  outlines_same : (b : NamedStatements) → stays (outline marks away b) ≡ stays (outline marks other b)
  outlines_same Done = refl
  outlines_same (Then (Do at action) b) = outlines_same b
  outlines_same (Then (Hold at stop pause) b) =
      let leaves = is_away (pause_of pause) in
      goes_same leaves (outline marks away b) ∙ outlines_same b ∙ sym (goes_same leaves (outline marks other b))
  outlines_same (Then (Run at stop called m arguments) b) = run_same (away m) (other m) (use_at marks called) (outline marks away b) (outline marks other b) (outlines_same b)
  outlines_same (Then (If at test x y) b) = within_same _ _ _ _ _ _ (outlines_same x) (outlines_same y) (outlines_same b)
  outlines_same (Then (While at test x) b) = within_same _ _ _ _ _ _ (outlines_same x) refl (outlines_same b)
  outlines_same (Then (Repeat at count x) b) = within_same _ _ _ _ _ _ (outlines_same x) refl (outlines_same b)

  pub pairs_alone : (outer own : List (List ℕ)) (b : NamedStatements) → pair_fault outer own (outline marks away b) ≡ pair_fault outer own (outline marks other b)
  pairs_alone outer own b = same_fault outer own (outline marks away b) ∙ ap (λ o. pair_fault outer own o) (outlines_same b) ∙ sym (same_fault outer own (outline marks other b))
