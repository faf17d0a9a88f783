use Rattle.loft_tree.specs.NamedView.{term_of, value_of}
use Rattle.loft_tree.specs.Resolved.{exp_of, exp_if, target_of}
use Rattle.loft_standing.proofs.wait.pause_agrees.Goals as goal

pub returns-in-Cooperate : goal.returns-in-Cooperate
returns-in-Cooperate c = rw (c.in-Cooperate.is) (c.cooperate_agrees.ensures (exp_if (value_of c.in-Cooperate.instants)))

pub returns-in-Get : goal.returns-in-Get
returns-in-Get c = rw (c.in-Get.is) (c.get_agrees.ensures (exp_of (term_of c.in-Get.index)) (target_of c.in-Get.target))

pub returns-in-Join : goal.returns-in-Join
returns-in-Join c = rw (c.in-Join.is) (c.join_agrees.ensures (exp_of (term_of c.in-Join.thread)))
