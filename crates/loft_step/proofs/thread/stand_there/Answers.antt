use Rattle.std.proofs.Common.{ℤ, ap, ◌∙◌, rules, to_z, of_z}
use Rattle.std.specs.Int.{w64}
use Rattle.std.specs.Prelude.{FitsSigned}
use Rattle.std.proofs.lemmas.Int.{to_z-of_z}
use Rattle.loft_effect.proofs.Runs.{thread_with}
use Rattle.loft_step.proofs.Kept.{stood}
use Rattle.loft_step.proofs.thread.stand_there.Goals as goal

pub returns : goal.returns
returns c = λ a.
    let code : FitsSigned w64 c.args.beside.now.code = search rules in
    let mask : FitsSigned w64 c.args.beside.now.mask = search rules in
    ap (λ (n : ℤ). thread_with c.args.beside.now.id n (to_z w64 (of_z w64 c.args.beside.now.mask)) c.args.wait c.push.new.self) (to_z-of_z w64 c.args.beside.now.code code)
    ∙ (ap (λ (n : ℤ). thread_with c.args.beside.now.id c.args.beside.now.code n c.args.wait c.push.new.self) (to_z-of_z w64 c.args.beside.now.mask mask)
    ∙ ap (thread_with c.args.beside.now.id c.args.beside.now.code c.args.beside.now.mask c.args.wait) (stood a c.args.t.now.frames c.push.new.self c.args.top c.keep.result c.requires (c.keep.ensures a) c.in_ok-push.ensures.ok))
