use Rattle.std.proofs.Common.{◌≡◌, suc, refl, ap, sym, ◌∙◌, arith}
use Rattle.std.specs.Prelude.{map}
use Rattle.loft_code.specs.View.{automata_of}
use Rattle.loft_sense.specs.Around.{Around}
use Rattle.loft_sense.specs.Code.{code}
use Rattle.loft_sense.specs.Run.{go_on}
use Rattle.loft_effect.specs.View.{beside_of, steps_left}
use Rattle.loft_step.specs.Frames.{actives}
use Rattle.loft_step.specs.Kept.{settled}
use Rattle.loft_step.proofs.Kept.{all_settled, settled_back, settled_actives, actives-push, kept-pop}
use Rattle.loft_step.proofs.Going.{beside_with, starts_empty, starts_on}
use Rattle.loft_step.proofs.thread.rouse.Goals as goal

pub returns-in_default-clause-none : goal.returns-in_default-clause-none
returns-in_default-clause-none g c =
    let a = automata_of c.args.code.now in
    let b' = beside_with c.args.beside.now c.count.new.around in
    let less : steps_left c.args.beside.now.around ≡ suc (steps_left c.count.new.around) = omega (arith, c.count.ensures.made, c.count.ensures.bound, c.requires) in
    let back = settled_back c.args.frames.now c.settle_all.new.frames (c.settle_all.ensures ∙ ap (map settled) c.as_mut_slice.ensures.value) in
    λ there. starts_empty a (steps_left c.args.beside.now.around) (steps_left c.count.new.around) (beside_of c.args.beside.now) (beside_of b') c.args.wait.now (actives a c.args.frames.now) less
    (ap (λ (x : Around). record (beside_of c.args.beside.now) { around = x }) c.count.ensures.same)
    (sym (settled_actives a c.args.frames.now) ∙ ap (actives a) (sym back ∙ c.in_default.ensures.none refl))

pub wake-top-requires : goal.wake-top-requires
wake-top-requires g c =
    let back = settled_back c.args.frames.now c.settle_all.new.frames (c.settle_all.ensures ∙ ap (map settled) c.as_mut_slice.ensures.value) in
    (kept-pop (map settled c.args.frames.now) c.pop.new.self c.in-Some.frame (sym back ∙ c.in-Some.ensures.items) (all_settled c.args.frames.now)).1

pub returns-clause-kept : goal.returns-clause-kept
returns-clause-kept g c =
    let back = settled_back c.args.frames.now c.settle_all.new.frames (c.settle_all.ensures ∙ ap (map settled) c.as_mut_slice.ensures.value) in
    (kept-pop (map settled c.args.frames.now) c.pop.new.self c.in-Some.frame (sym back ∙ c.in-Some.ensures.items) (all_settled c.args.frames.now)).0

pub returns-clause-some : goal.returns-clause-some
returns-clause-some g c =
    let a = automata_of c.args.code.now in
    let b' = beside_with c.args.beside.now c.count.new.around in
    let less : steps_left c.args.beside.now.around ≡ suc (steps_left c.count.new.around) = omega (arith, c.count.ensures.made, c.count.ensures.bound, c.requires) in
    let back = settled_back c.args.frames.now c.settle_all.new.frames (c.settle_all.ensures ∙ ap (map settled) c.as_mut_slice.ensures.value) in
    starts_on a c.heads.result.now c.args.wait.now c.args.beside.now b' c.answer.new.beside c.wake-top.result.0 c.answer.new.self c.in-Some.frame c.wake-top.result.1 (actives a c.pop.new.self) c.heads.ensures less
    (ap (λ (x : Around). record (beside_of c.args.beside.now) { around = x }) c.count.ensures.same) c.answer.ensures.pace c.wake-top.ensures.frame c.wake-top.ensures.target c.answer.ensures.same_at c.answer.ensures.answered
    ∙ ap (go_on (code a) (steps_left c.args.beside.now.around) c.args.wait.now (beside_of c.args.beside.now))
    (sym (actives-push a c.pop.new.self c.in-Some.frame) ∙ (ap (actives a) (sym c.in-Some.ensures.items ∙ back) ∙ settled_actives a c.args.frames.now))
