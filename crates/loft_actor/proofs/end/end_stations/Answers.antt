use Rattle.std.proofs.Common.{[], ◌∷◌, ◌++◌, List, map, sym, ap, ◌∙◌, subst}
use Rattle.std.proofs.lemmas.List.{map-append}
use Rattle.loft_code.specs.View.{automata_of}
use Rattle.loft_orders.specs.declared.note.InstantNote.{InstantNote}
use Rattle.loft_sense.specs.Machine.{Code}
use Rattle.loft_station.specs.Stations.{StationView}
use Rattle.loft_actor.specs.Engines.{Shown, shown}
use Rattle.loft_actor.specs.Members.{Joins, Member, station_member}
use Rattle.loft_actor.proofs.JoinLemmas.{joins_more, pushed}
use Rattle.loft_actor.proofs.end.end_stations.Goals as goal

pub loop-station-preserved : goal.loop-station-preserved
loop-station-preserved g c =
    let t = g.E.Engine in
    let b = c.args.b.now in
    let x = c.args.c.now in
    let v : StationView = c.in-Some.station in
    let vs : List StationView = c.loop-station.yielded in
    let e = c.end_station-pass.ensures in
    let i = c.loop-station.invariant in
    let of_view : StationView → Shown = λ v. shown (Code (automata_of x)) v.scheduler v.limits v.machine v.failed in
    record {
      giver = subst (λ (ms : List Member). Joins b c.args.giver ms c.end_station-pass.result.0) (sym (map-append station_member vs (v ∷ [])))
          (joins_more b x c.args.giver (map station_member vs) c.loop-station.giver (station_member v) c.end_station-pass.result.0 i.giver e.seat e.joined);
      engines = pushed (λ e. shown (t.program e) (t.scheduler e) (t.limits e) (t.machine e) (t.has_failed e)) of_view c.loop-station.engines c.push.new.self c.end_station-pass.result.1 vs v c.in_ok-push.ensures.ok i.engines e.engine;
      notes = c.in_ok-push-2.ensures.ok ∙ ap (λ (l : List (List InstantNote)). l ++ c.end_station-pass.result.2 ∷ []) i.notes ∙ ap (λ (m : List InstantNote). map (λ (v : StationView). v.notes) vs ++ m ∷ []) e.notes
          ∙ sym (map-append (λ (v : StationView). v.notes) vs (v ∷ []));
    }
