use Rattle.std.proofs.Common.{List, Option, None, ℕ, get_or, ap, ◌∙◌, ◌≡◌, false, true, Some, subst, map}
use Rattle.std.specs.Prelude.{not}
use Rattle.std.specs.List.{list_any}
use Rattle.loft_orders.specs.declared.thread.Wait.{Wait}
use Rattle.loft_sense.specs.Rest.{waits_for_ever}
use Rattle.loft_waits.specs.Told.{is_alone, ends_alone}
use Rattle.loft_ready.specs.Entered.{wait_of}
use Rattle.loft_line.specs.Line.{runners_in}
use Rattle.loft_line.proofs.RestLemmas.{all_rest_is}
use Rattle.loft_line.proofs.line.Line.rests.Goals as goal

pub returns : goal.returns
returns c =
    let l = c.args.self.now in
    let quiet : (i : ℕ) (w : Wait) → get_or (map wait_of (runners_in l)) i None ≡ Some w → ends_alone w ≡ false → waits_for_ever w l.waits.ended ≡ true =
    subst (λ (ws : List (Option Wait)). (i : ℕ) (w : Wait) → get_or ws i None ≡ Some w → ends_alone w ≡ false → waits_for_ever w l.waits.ended ≡ true) c.requires.line.waits c.requires.quiet in
    ap not (c.any_alone.ensures ∙ ap (list_any is_alone) c.requires.line.waits) ∙ all_rest_is (runners_in l) l.waits.ended quiet
