-- The passes of an instant are the runs of the next thread that can go, in a circle.
use Rattle.std.proofs.Common.{◌≡◌, Bool, true, false, List, [], ◌∷◌, ◌++◌, refl, sym, ◌∙◌, ap, append_assoc, append-nil}
use Rattle.std.specs.Prelude.{if◌then◌else◌, ◌||◌}
use Rattle.loft_sense.specs.Machine.{Prog}
use Rattle.loft_sense.specs.Around.{Around}
use Rattle.loft_sense.specs.Run.{Outcome}
use Rattle.loft_sense.specs.Passes.{Runner, Walk, is_ready, run_of, runners_after, around_after, walked, pass, passes}
use Rattle.loft_sense.proofs.PassLemmas.{passes_goes, passes_stops}

or_true : (a b : Bool) → (a || (true || b)) ≡ true
or_true true b = refl
or_true false b = refl

module _ (x : Prog) where
  -- what follows a walk that is a pass
  abbrev pub onward : Walk → Walk
  onward w = if w.ran then passes x w.runners w.around else w

  -- the passes, where one is under way: it has these threads behind it, and those before it
  abbrev pub going : Bool → List Runner → List Runner → Around → Walk
  going ran front rest around = onward (walked front ran (pass x rest around))

  skips_one : (ran : Bool) (front : List Runner) (r : Runner) (rs : List Runner) (around : Around) (can : Bool) (v : Walk)
      → can ≡ false → onward (walked front ran (if can then v else walked (r ∷ []) false (pass x rs around))) ≡ going ran (front ++ r ∷ []) rs around
  skips_one ran front r rs around true v unable = absurd cc
  skips_one ran front r rs around false v unable =
      ap (λ (l : List Runner). onward (record { runners = l; around = (pass x rs around).around; ran = ran || (pass x rs around).ran }))
      (sym (append_assoc front (r ∷ []) (pass x rs around).runners))

  -- a thread that can't go is passed by
  pub skips : (ran : Bool) (front : List Runner) (r : Runner) (rs : List Runner) (around : Around) → is_ready r around ≡ false → going ran front (r ∷ rs) around ≡ going ran (front ++ r ∷ []) rs around
  skips ran front r rs around unable =
      skips_one ran front r rs around (is_ready r around) (walked (runners_after r (run_of x r.thread around r.left)) true (pass x rs (around_after (run_of x r.thread around r.left)))) unable

  runs_one : (ran : Bool) (front : List Runner) (r : Runner) (rs : List Runner) (around : Around) (can : Bool) (o : Outcome) (v : Walk)
      → can ≡ true → onward (walked front ran (if can then walked (runners_after r o) true (pass x rs (around_after o)) else v)) ≡ going true (front ++ runners_after r o) rs (around_after o)
  runs_one ran front r rs around false o v able = absurd cc
  runs_one ran front r rs around true o v able =
      let w = pass x rs (around_after o) in
      ap (λ (b : Bool). onward (record { runners = front ++ (runners_after r o ++ w.runners); around = w.around; ran = b })) (or_true ran w.ran)
      ∙ ap (λ (l : List Runner). onward (record { runners = l; around = w.around; ran = true })) (sym (append_assoc front (runners_after r o) w.runners))

  -- a thread that can go runs
  pub runs : (ran : Bool) (front : List Runner) (r : Runner) (rs : List Runner) (around : Around) → is_ready r around ≡ true
      → going ran front (r ∷ rs) around ≡ going true (front ++ runners_after r (run_of x r.thread around r.left)) rs (around_after (run_of x r.thread around r.left))
  runs ran front r rs around able = runs_one ran front r rs around (is_ready r around) (run_of x r.thread around r.left) (walked (r ∷ []) false (pass x rs around)) able

  -- a pass that has run nobody is the last
  pub stops : (front : List Runner) (around : Around) → going false front [] around ≡ record { runners = front; around = around; ran = false }
  stops front around = ap (λ (l : List Runner). onward (record { runners = l; around = around; ran = false })) (append-nil front)

  begins_one : (rs : List Runner) (around : Around) (ran : Bool) → (pass x rs around).ran ≡ ran
      → passes x rs around ≡ (if ran then passes x (pass x rs around).runners (pass x rs around).around else pass x rs around)
  begins_one rs around true h = passes_goes x rs around h
  begins_one rs around false h = passes_stops x rs around h

  -- at the beginning nobody is behind
  pub begins : (rs : List Runner) (around : Around) → passes x rs around ≡ going false [] rs around
  begins rs around = begins_one rs around (pass x rs around).ran refl

  -- a pass that has run somebody is followed by another
  pub wraps : (front : List Runner) (around : Around) → going true front [] around ≡ going false [] front around
  wraps front around = ap (λ (l : List Runner). passes x l around) (append-nil front) ∙ begins front around
