use Rattle.loft_tree.proofs.NamedTrees.{named_if, named_repeat, named_run}
use Rattle.loft_walk.proofs.running.Running.begin_statement.Goals as goal

pub returns-in-Run-clause-steps : goal.returns-in-Run-clause-steps
returns-in-Run-clause-steps c = rw (c.in-Run.is, named_run, ← c.as_slice.ensures.value) c.begin_run.ensures.steps

pub returns-in-If-clause-steps : goal.returns-in-If-clause-steps
returns-in-If-clause-steps c = rw (c.in-If.is, named_if, ← c.as_slice-in-If.ensures.value, ← c.as_slice-in-If-2.ensures.value) c.begin_if.ensures.steps

pub returns-in-Repeat-clause-steps : goal.returns-in-Repeat-clause-steps
returns-in-Repeat-clause-steps c = rw (c.in-Repeat.is, named_repeat, ← c.as_slice-in-Repeat.ensures.value) c.begin_repeat.ensures.steps
