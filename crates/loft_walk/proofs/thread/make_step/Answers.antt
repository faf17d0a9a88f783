use Rattle.std.proofs.Common.{refl, ◌∙◌, arith}
use Rattle.loft_tree.specs.ProgramView.{program_of}
use Rattle.loft_tree.specs.Resolved.{resolved_of}
use Rattle.loft_effect.specs.View.{beside_of}
use Rattle.loft_walk.proofs.Going.{step_goes, step_enters, step_holds, step_leaves}
use Rattle.loft_walk.proofs.thread.make_step.Goals as goal

pub returns-in-GoOn-clause-steps : goal.returns-in-GoOn-clause-steps
returns-in-GoOn-clause-steps c = step_goes c.args.program.now.heads (resolved_of (program_of c.args.program.now)).bodies c.args.running.now.items c.len-innermost.result (c.len-innermost.ensures ∙ c.args.running.now.ok.0) (omega (arith, c.requires, c.len-innermost.ensures)) c.index_mut-top.result.now c.step.new.self c.index_mut-top.ensures.value c.args.task c.in_ok-step.step c.args.beside.now c.step.new.beside c.in_ok-step.ensures.steps c.in-GoOn.is

pub returns-in_ok-push-in-Enter-clause-steps : goal.returns-in_ok-push-in-Enter-clause-steps
returns-in_ok-push-in-Enter-clause-steps c = step_enters c.args.program.now.heads (resolved_of (program_of c.args.program.now)).bodies c.args.running.now.items c.len-innermost.result (c.len-innermost.ensures ∙ c.args.running.now.ok.0) (omega (arith, c.requires, c.len-innermost.ensures)) c.index_mut-top.result.now c.step.new.self c.index_mut-top.ensures.value c.args.task c.in_ok-step.step c.args.beside.now c.step.new.beside c.in_ok-step.ensures.steps c.in-Enter.module c.in-Enter.arguments c.in_ok-frame-in-Enter.frame c.push.new.self.items c.in-Enter.is (omega (arith, c.if-len-ge-MAX_FRAMES.false, c.len.ensures, c.len-innermost.ensures)) (c.in_ok-frame-in-Enter.ensures (beside_of c.step.new.beside) refl) c.in_ok-push-in-Enter.ensures.items

pub returns-in-Hold-clause-steps : goal.returns-in-Hold-clause-steps
returns-in-Hold-clause-steps c = step_holds c.args.program.now.heads (resolved_of (program_of c.args.program.now)).bodies c.args.running.now.items c.len-innermost.result (c.len-innermost.ensures ∙ c.args.running.now.ok.0) (omega (arith, c.requires, c.len-innermost.ensures)) c.index_mut-top.result.now c.step.new.self c.index_mut-top.ensures.value c.args.task c.in_ok-step.step c.args.beside.now c.step.new.beside c.in_ok-step.ensures.steps c.in-Hold.wait c.in-Hold.is

pub returns-in-Leave-clause-steps : goal.returns-in-Leave-clause-steps
returns-in-Leave-clause-steps c = step_leaves c.args.program.now.heads (resolved_of (program_of c.args.program.now)).bodies c.args.running.now.items c.len-innermost.result (c.len-innermost.ensures ∙ c.args.running.now.ok.0) (omega (arith, c.requires, c.len-innermost.ensures)) c.index_mut-top.result.now c.step.new.self c.index_mut-top.ensures.value c.args.task c.in_ok-step.step c.args.beside.now c.step.new.beside c.in_ok-step.ensures.steps c.in-Leave.to c.in-Leave.is
