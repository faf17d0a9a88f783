use Rattle.std.proofs.Common.{◌∙◌, ap, map}
use Rattle.std.specs.Prelude.{None}
use Rattle.std.specs.List.{flat_map}
use Rattle.loft_tree.specs.View.{head_of, source_of}
use Rattle.loft_listing_names.specs.Least.{least_of}
use Rattle.loft_listing_names.specs.Wrong.{declaration_misplaced, heads_in}
use Rattle.loft_listing_names.proofs.LeastOf.{least_or_none}
use Rattle.loft_listing_names.proofs.first.first_misplaced.Goals as goal

pub returns : goal.returns
returns c =
    let p = source_of c.args.items.now in
    least_or_none (flat_map (declaration_misplaced c.args.table.now (heads_in p)) p) c.note_items.new.least
    (c.note_items.ensures
    ∙ ap (λ heads. least_of None (flat_map (declaration_misplaced c.args.table.now heads) p)) (ap (map (λ h. head_of h.now)) c.deref.ensures.value ∙ c.in_ok-heads.ensures))
