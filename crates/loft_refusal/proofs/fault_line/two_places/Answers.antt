use Rattle.std.proofs.Common.{◌≡◌, ◌++◌, arith}
use Rattle.std.specs.Fmt.{decimal}
use Rattle.std.proofs.lemmas.Grind.{common_steps}
use Rattle.loft_refusal.specs.Refusals.{place_text}
use Rattle.loft_refusal.proofs.Lines.{is_made, two_placed}
use Rattle.loft_refusal.proofs.fault_line.two_places.Goals as goal

pub returns : goal.returns
returns c = is_made c.done.result (λ line. line.items) _ _ _ c.done.ensures.whole c.done.ensures.text (λ whole.
    let start : c.into_bytes.result.items ≡ c.args.what.now ++ decimal c.args.at = grind (arith, common_steps) in
    let both = c.put.ensures.before whole in
    two_placed c.args.what.now (decimal c.args.at) c.args.first.0.now (place_text c.args.schedulers.now c.args.first.1) c.args.second.0.now (place_text c.args.schedulers.now c.args.second.1) _ _ _ _
    start (c.put_place.ensures.text (c.put_place-2.ensures.before both)) (c.put_place-2.ensures.text both) (c.put.ensures.text whole))
