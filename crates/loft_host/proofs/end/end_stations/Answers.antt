use Rattle.std.proofs.Common.{[], ◌∷◌, ◌++◌, List, map, sym, ap, ◌∙◌}
use Rattle.std.proofs.lemmas.List.{map-append}
use Rattle.loft_orders.specs.declared.note.InstantNote.{InstantNote}
use Rattle.loft_station.specs.Stations.{StationView}
use Rattle.loft_host.specs.Gathered.{station_own}
use Rattle.loft_host.proofs.EndLemmas.{gathered_push}
use Rattle.loft_host.proofs.end.end_stations.Goals as goal

pub loop-station-preserved : goal.loop-station-preserved
loop-station-preserved g c =
    let v : StationView = c.in-Some.station in
    let vs : List StationView = c.loop-station.yielded in
    let e = c.end_station-pass.ensures in
    let i = c.loop-station.invariant in
    record {
      giver = gathered_push c.args.b.now c.args.c.now c.args.giver.knows.given [] c.loop-station.giver v.seat.pass.knows c.end_station-pass.result.0 station_own vs v i.giver e.own e.joined;
      notes = c.in_ok-push.ensures.ok ∙ ap (λ (l : List (List InstantNote)). l ++ c.end_station-pass.result.1 ∷ []) i.notes ∙ ap (λ (m : List InstantNote). map (λ (v : StationView). v.notes) vs ++ m ∷ []) e.notes
          ∙ sym (map-append (λ (v : StationView). v.notes) vs (v ∷ []));
    }
