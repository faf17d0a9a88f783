use Rattle.std.proofs.Common.{◌∙◌, false, ap}
use Rattle.loft_code.specs.View.{automata_of}
use Rattle.loft_engine.specs.CodeEngine.{code_of, scheduler_of, limits_of, machine_of, has_failed}
use Rattle.loft_sense.specs.Heads.{scheduler}
use Rattle.loft_sense.specs.Machine.{Prog, Code, empty}
use Rattle.loft_host.proofs.EngineLemmas.{shown_is}
use Rattle.loft_host.proofs.begin.station_of.Goals as goal

pub station_of-requires-clause-engine : goal.station_of-requires-clause-engine
station_of-requires-clause-engine c =
    let e = c.in_ok-engine.engine in
    let X : Prog = Code (automata_of c.args.c.now) in
    let k = c.args.k in
    let new = c.in_ok-engine.ensures in
    shown_is (code_of e) X (scheduler_of e) (scheduler k) (limits_of e) c.args.l (machine_of e) (empty X (scheduler k)) (has_failed e) false new.program new.scheduler new.limits
    (new.machine ∙ ap (λ (y : Prog). empty y (scheduler k)) new.program) new.works
