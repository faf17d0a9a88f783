use Rattle.std.proofs.Common.{rules, ◌≡◌, ◌∙◌, ◌++◌, ◌∷◌, [], List, map, sym, ap, length}
use Rattle.std.proofs.lemmas.Iterator.Adapters.{YieldsList-from_vec}
use Rattle.std.proofs.lemmas.Iterator.Consumers.{YieldsList-end}
use Rattle.std.specs.Vec.Iter.{into_iter_items, into_iter_len}
use Rattle.std.proofs.lemmas.List.{map-append, map-id}
use Rattle.loft_orders.specs.declared.note.InstantNote.{InstantNote}
use Rattle.loft_orders.specs.declared.note.FinalState.{FinalState}
use Rattle.loft_world.specs.Replay.{stand_of}
use Rattle.loft_course.specs.Course.{Stand}
use Rattle.loft_course.proofs.station.finish_all.Goals as goal

pub returns-clause-notes : goal.returns-clause-notes
returns-clause-notes g c =
    let all : c.loop-station.yielded ≡ c.args.stations.items =
    let items : into_iter_items c.into_iter-station-iterator.result ≡ c.args.stations.items = search rules in
    let many : into_iter_len c.into_iter-station-iterator.result ≡ length c.args.stations.items = search rules in
    sym (map-id c.loop-station.yielded) ∙ (YieldsList-end (YieldsList-from_vec {s = c.into_iter-station-iterator.result} c.args.stations.items items many) c.loop-station.yielded c.loop-station.station-iterator c.loop-station.yielded_by c.next.result c.next.new.self c.in-None.is c.next.ensures.steps).0 in
    c.loop-station.invariant.told ∙ ap (map (λ (s : Stand). s.notes)) all

pub returns-clause-finals : goal.returns-clause-finals
returns-clause-finals g c =
    let all : c.loop-station.yielded ≡ c.args.stations.items =
    let items : into_iter_items c.into_iter-station-iterator.result ≡ c.args.stations.items = search rules in
    let many : into_iter_len c.into_iter-station-iterator.result ≡ length c.args.stations.items = search rules in
    sym (map-id c.loop-station.yielded) ∙ (YieldsList-end (YieldsList-from_vec {s = c.into_iter-station-iterator.result} c.args.stations.items items many) c.loop-station.yielded c.loop-station.station-iterator c.loop-station.yielded_by c.next.result c.next.new.self c.in-None.is c.next.ensures.steps).0 in
    c.loop-station.invariant.stands ∙ ap (map (λ (s : Stand). stand_of s.machine)) all

pub loop-station-preserved : goal.loop-station-preserved
loop-station-preserved g c =
    let station = c.in-Some.station in
    record {
      told = c.in_ok-finish_onto.ensures.notes
          ∙ (ap (λ (l : List (List InstantNote)). l ++ station.notes ∷ []) c.loop-station.invariant.told
          ∙ sym (map-append (λ (s : Stand). s.notes) c.loop-station.yielded (station ∷ [])));
      stands = c.in_ok-finish_onto.ensures.finals
          ∙ (ap (λ (l : List FinalState). l ++ stand_of station.machine ∷ []) c.loop-station.invariant.stands
          ∙ sym (map-append (λ (s : Stand). stand_of s.machine) c.loop-station.yielded (station ∷ [])));
    }
