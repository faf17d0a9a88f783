use Rattle.loft_phase.proofs.AloneLemmas.{stay_alone, ready_alone, works_of}
use Rattle.loft_phase.proofs.alone.goes_on_alone.Goals as goal

pub returns-then-is_refused_at-clause-stations : goal.returns-then-is_refused_at-clause-stations
returns-then-is_refused_at-clause-stations g c = stay_alone c.args.b.now c.args.c.now c.args.k c.args.stations.now c.station_goes_on.new.stations c.requires.ready c.station_goes_on.ensures

pub returns-clause-stations : goal.returns-clause-stations
returns-clause-stations g c = stay_alone c.args.b.now c.args.c.now c.args.k c.args.stations.now c.station_goes_on.new.stations c.requires.ready c.station_goes_on.ensures

pub returns-clause-ready : goal.returns-clause-ready
returns-clause-ready g c = ready_alone c.args.b.now c.args.c.now c.args.k c.args.stations.now c.station_goes_on.new.stations c.requires.ready c.station_goes_on.ensures (works_of c.args.k c.station_goes_on.new.stations c.is_refused_at.result c.is_refused_at.ensures c.if-is_refused_at.false)
