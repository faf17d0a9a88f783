use Rattle.std.proofs.Common.{◌∙◌, ap, map}
use Rattle.loft_code.specs.View.{automata_of}
use Rattle.loft_engine.specs.CodeEngine.{code_of, scheduler_of, limits_of, machine_of, has_failed}
use Rattle.loft_sense.specs.Machine.{Prog, Code}
use Rattle.loft_world.specs.Replay.{stand_of}
use Rattle.loft_actor.specs.Engines.{shown}
use Rattle.loft_run.proofs.RunLemmas.{stands_are}
use Rattle.loft_run.proofs.run.run_whole.Goals as goal

pub returns : goal.returns
returns g c =
    let x : Prog = Code (automata_of c.args.c.now) in
    let o = c.args.options.now in
    let w = c.in_ok-world.world in
    let run = c.in_ok-world.ensures.run in
    record {
      heads = run.heads;
      history = (c.legal_histories_are_made.ensures x o w.history run.callers).0 run.legal;
      ended = run.ended;
      replay = record {
        told = c.in_ok-world.ensures.notes;
        stands = c.in_ok-finals.ensures ∙ ap (map (λ e. stand_of (machine_of e))) c.as_slice.ensures ∙ stands_are (λ e. shown (code_of e) (scheduler_of e) (limits_of e) (machine_of e) (has_failed e)) x o.limits w.history c.in_ok-world.engines c.in_ok-world.ensures.engines;
      };
    }
