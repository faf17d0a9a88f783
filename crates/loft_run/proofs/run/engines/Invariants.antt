use Rattle.std.proofs.Common.{◌≡◌, map}
use Rattle.std.specs.List.{range_with_len}
use Rattle.loft_code.specs.View.{automata_of}
use Rattle.loft_engine.specs.CodeEngine.{code_of, scheduler_of, limits_of, machine_of, has_failed}
use Rattle.loft_sense.specs.Machine.{Code}
use Rattle.loft_actor.specs.Engines.{shown, new_engine}
use Rattle.loft_run.proofs.run.engines.Given as goal

-- the engines so far
abbrev pub invariant-schedulers : goal.invariant-schedulers
invariant-schedulers l =
    map (λ e. shown (code_of e) (scheduler_of e) (limits_of e) (machine_of e) (has_failed e)) l.engines
    ≡ map (new_engine (Code (automata_of l.c)) l.options.limits) (range_with_len 0 l.k)
