use Rattle.std.proofs.Common.{◌≡◌, ◌∙◌, ◌++◌, ◌∷◌, [], ℕ, false, List, map, sym, ap}
use Rattle.std.specs.List.{range_with_len}
use Rattle.std.proofs.lemmas.List.{map-append}
use Rattle.std.proofs.lemmas.List.FromFn.{map-range_with_len_more}
use Rattle.loft_base.specs.declared.options.Limits.{Limits}
use Rattle.loft_code.specs.View.{automata_of}
use Rattle.loft_engine.specs.CodeEngine.{code_of, scheduler_of, limits_of, machine_of, has_failed}
use Rattle.loft_engine.specs.declared.engine.CodeEngine.{CodeEngine}
use Rattle.loft_sense.specs.Machine.{Prog, Code, empty}
use Rattle.loft_sense.specs.Heads.{scheduler}
use Rattle.loft_actor.specs.Engines.{Shown, shown, new_engine}
use Rattle.loft_run.proofs.RunLemmas.{shown_is, from_none}
use Rattle.loft_run.proofs.run.engines.Goals as goal

pub schedulers-preserved : goal.schedulers-preserved
schedulers-preserved c =
    let x : Prog = Code (automata_of c.args.c.now) in
    let l : Limits = c.args.options.now.limits in
    let k : ℕ = c.schedulers.k in
    let e : CodeEngine = c.in_ok-engine.engine in
    let of : CodeEngine → Shown = λ e. shown (code_of e) (scheduler_of e) (limits_of e) (machine_of e) (has_failed e) in
    let new = c.in_ok-engine.ensures in
    let is : of e ≡ new_engine x l k =
    shown_is (code_of e) x (scheduler_of e) (scheduler k) (limits_of e) l (machine_of e) (empty x (scheduler k)) (has_failed e) false new.program new.scheduler new.limits
    (new.machine ∙ ap (λ (y : Prog). empty y (scheduler k)) new.program) new.works in
    ap (map of) c.in_ok-push.ensures.ok ∙ map-append of c.schedulers.engines (e ∷ [])
    ∙ ap (λ (t : List Shown). t ++ of e ∷ []) c.schedulers.invariant
    ∙ ap (λ (t : Shown). map (new_engine x l) (range_with_len 0 k) ++ t ∷ []) is
    ∙ sym (map-range_with_len_more (new_engine x l) 0 k k (from_none k))
