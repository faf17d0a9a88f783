use Rattle.std.proofs.Common.{◌∙◌}
use Rattle.loft_passes.specs.View.{walk_of}
use Rattle.loft_passes.proofs.PassLemmas.{next_pass, fewer_passes}
use Rattle.loft_passes.proofs.pass.WalkAllPasses.make.Goals as goal

pub passes-smaller : goal.passes-smaller
passes-smaller g c =
    fewer_passes (g.I.Interpreter.program c.args.interpreter.now) (walk_of c.passes.runners.items c.passes.around c.passes.ran)
    (walk_of c.pass.new.runners.items c.pass.new.around c.in_ok-ran.ran) c.passes-test.true c.in_ok-ran.ensures

pub passes-preserved : goal.passes-preserved
passes-preserved g c =
    next_pass (g.I.Interpreter.program c.args.interpreter.now) (walk_of c.passes.runners.items c.passes.around c.passes.ran)
    (walk_of c.pass.new.runners.items c.pass.new.around c.in_ok-ran.ran) c.passes-test.true c.in_ok-ran.ensures ∙ c.passes.invariant
