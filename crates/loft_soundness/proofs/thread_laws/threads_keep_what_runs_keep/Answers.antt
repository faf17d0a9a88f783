use Rattle.loft_soundness.proofs.ThreadLaws.{everywhere}
use Rattle.loft_soundness.proofs.thread_laws.threads_keep_what_runs_keep.Goals as goal

pub returns-clause-linked : goal.returns-clause-linked
returns-clause-linked g c = λ x o es k. (everywhere x g.C.ThreadClaim.holds g.C.ThreadClaim.grants o es k).linked

pub returns-clause-waiting : goal.returns-clause-waiting
returns-clause-waiting g c = λ x o es k. (everywhere x g.C.ThreadClaim.holds g.C.ThreadClaim.grants o es k).waits

pub returns-clause-batches : goal.returns-clause-batches
returns-clause-batches g c = λ x o es k. (everywhere x g.C.ThreadClaim.holds g.C.ThreadClaim.grants o es k).batches

pub returns-clause-jobs : goal.returns-clause-jobs
returns-clause-jobs g c = λ x o es k. (everywhere x g.C.ThreadClaim.holds g.C.ThreadClaim.grants o es k).jobs

pub returns-clause-hands : goal.returns-clause-hands
returns-clause-hands g c = λ x o es k. (everywhere x g.C.ThreadClaim.holds g.C.ThreadClaim.grants o es k).hands

pub returns-clause-posts : goal.returns-clause-posts
returns-clause-posts g c = λ x o es k. (everywhere x g.C.ThreadClaim.holds g.C.ThreadClaim.grants o es k).posts

pub returns-clause-sent : goal.returns-clause-sent
returns-clause-sent g c = λ x o es k. (everywhere x g.C.ThreadClaim.holds g.C.ThreadClaim.grants o es k).sent
