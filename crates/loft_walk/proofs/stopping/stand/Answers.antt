use Rattle.std.proofs.Common.{ℤ, ap, ◌∙◌, rules, to_z, of_z}
use Rattle.std.specs.Int.{w64}
use Rattle.std.specs.Prelude.{FitsSigned}
use Rattle.std.proofs.lemmas.Int.{to_z-of_z}
use Rattle.loft_sense.specs.Tree.{tree}
use Rattle.loft_effect.proofs.Runs.{thread_with}
use Rattle.loft_walk.proofs.Frames.{frames_kept}
use Rattle.loft_walk.proofs.stopping.stand.Goals as goal

pub returns-clause-thread : goal.returns-clause-thread
returns-clause-thread c = λ p.
    let code : FitsSigned w64 c.args.beside.code = search rules in
    let mask : FitsSigned w64 c.args.beside.mask = search rules in
    let frames = c.from_vec-frames.result in
    ap (λ (n : ℤ). thread_with c.args.beside.id n (to_z w64 (of_z w64 c.args.beside.mask)) c.args.wait frames) (to_z-of_z w64 c.args.beside.code code)
    ∙ (ap (λ (n : ℤ). thread_with c.args.beside.id c.args.beside.code n c.args.wait frames) (to_z-of_z w64 c.args.beside.mask mask)
    ∙ ap (thread_with c.args.beside.id c.args.beside.code c.args.beside.mask c.args.wait) (c.from_vec-frames.ensures ∙ (c.in_ok-keep_all.ensures p ∙ frames_kept (tree p) c.args.running.items)))
