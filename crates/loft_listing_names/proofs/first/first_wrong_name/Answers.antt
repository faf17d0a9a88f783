use Rattle.std.proofs.Common.{rules, ◌≡◌}
use Rattle.std.specs.Option.{option_map}
use Rattle.loft_tree.specs.View.{source_of}
use Rattle.loft_scopes.specs.Faults.{faults, place_of}
use Rattle.loft_listing_names.proofs.LeastOf.{first_line}
use Rattle.loft_listing_names.proofs.first.first_wrong_name.Goals as goal

pub returns-clause-least : goal.returns-clause-least
returns-clause-least c =
    let line : c.map.result ≡ option_map place_of c.in_ok-table.fault = search rules in
    first_line (faults (source_of c.args.items.now)) c.in_ok-table.fault c.map.result line c.in_ok-table.ensures.fault
