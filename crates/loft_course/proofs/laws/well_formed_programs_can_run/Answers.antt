use Rattle.std.proofs.Common.{◌≤◌, length, subst}
use Rattle.loft_tree.specs.Resolved.{Resolved}
use Rattle.loft_tree.specs.declared.limits.TheConstants.{MAX_SCHEDULERS, MAX_CLIENTS}
use Rattle.loft_sense.specs.Machine.{Prog, Tree, Code, heads}
use Rattle.loft_soundness.specs.WellFormed.{IsWellFormed}
use Rattle.loft_course.proofs.laws.well_formed_programs_can_run.Goals as goal

-- a well-formed program declares no more than a program may
few : (x : Prog) → IsWellFormed x → (length (heads x).schedulers ≤ MAX_SCHEDULERS) × (length (heads x).clients ≤ MAX_CLIENTS)
few (Tree p) well = (
  subst (λ (q : Resolved). length q.heads.schedulers ≤ MAX_SCHEDULERS) well.same well.names.heads.within.few_schedulers,
  subst (λ (q : Resolved). length q.heads.clients ≤ MAX_CLIENTS) well.same well.names.heads.within.few_clients,
)
few (Code c) well = (well.limits.heads.within.few_schedulers, well.limits.heads.within.few_clients)

pub returns : goal.returns
returns c = λ x o well some. record {
  waiting = λ choices es made. c.waiting_orders_fit.ensures.waiting x well o es (c.made_histories_are_legal.ensures.legal x o choices es made);
  blocks = λ choices es made k d below.
      c.blocks_keep_their_thread.ensures x well _ o.limits.block
      (c.waiting_orders_fit.ensures.jobs x well o es (c.made_histories_are_legal.ensures.legal x o choices es made) k d below);
  clients = c.waiting_orders_fit.ensures.for_one x well;
  few_schedulers = (few x well).0;
  few_clients = (few x well).1;
  few_workers = some;
}
