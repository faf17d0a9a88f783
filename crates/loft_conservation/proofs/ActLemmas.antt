-- What acts that fit send goes to declared schedulers.
use Rattle.std.proofs.Common.{ℕ, List, [], ◌∷◌}
use Rattle.loft_tree.specs.declared.heads.Heads.{Heads}
use Rattle.loft_tree.specs.declared.heads.Place.{Place}
use Rattle.loft_tree.specs.Fits.{Each}
use Rattle.loft_orders.specs.declared.note.Act.{Act}
use Rattle.loft_orders.specs.declared.note.Act.TheVariants as act
use Rattle.loft_orders.specs.declared.order.Order.{Order}
use Rattle.loft_orders.specs.declared.order.Order.TheVariants as order
use Rattle.loft_orders.specs.declared.order.To.{To}
use Rattle.loft_orders.specs.declared.order.To.TheVariants as to
use Rattle.loft_orders.specs.declared.thread.Thread.{Thread}
use Rattle.loft_sense.specs.Machine.{Prog, heads}
use Rattle.loft_sense.specs.Around.{Around}
use Rattle.loft_sense.specs.Run.{Outcome, Held, Left, Ended}
use Rattle.loft_sense.specs.Passes.{run_of, around_after}
use Rattle.loft_sense.specs.Instant.{sent_by}
use Rattle.loft_soundness.specs.WellFormed.{IsWellFormed}
use Rattle.loft_soundness.specs.Points.{OutFits, ActFits, AroundFits}
use Rattle.loft_soundness.proofs.StandLemmas.{run_leaves}
use Rattle.loft_conservation.specs.Instants.{IsSentWell, SentWell}
use Rattle.loft_soundness.specs.Points.{LeavesStanding}
use Rattle.loft_sense.specs.Stands.{Stands}
use Rattle.loft_sense.specs.Fits.{ThreadNames}

out_well : (h : Heads) (there : To) (o : Order) → OutFits h there o → IsSentWell h o there
out_well h (to.Sched s) (order.Create t m args) f = f.1.0
out_well h (to.Sched s) (order.Arrive t) f = absurd f
out_well h (to.Sched s) (order.Stop t) f = tt
out_well h (to.Sched s) (order.Suspend t) f = tt
out_well h (to.Sched s) (order.Resume t) f = tt
out_well h (to.Sched s) (order.Broadcast event value) f = tt
out_well h (to.Sched s) (order.Ended t end) f = tt
out_well h (to.Others s) o f = absurd f
out_well h to.All o f = absurd f
out_well h to.Workers o f = absurd f

pub acts_well : (h : Heads) (at : Place) (acts : List Act) → Each (ActFits h) acts → Each (SentWell h) (sent_by at acts)
acts_well h at [] f = tt
acts_well h at (act.Print t line ∷ acts) f = acts_well h at acts f.1
acts_well h at (act.Gen t event value ∷ acts) f = acts_well h at acts f.1
acts_well h at (act.Out t sent ∷ acts) f = (out_well h sent.to sent.order f.0, acts_well h at acts f.1)
acts_well h at (act.End t end ∷ acts) f = (tt, acts_well h at acts f.1)

-- what stands around a thread after a run
outcome_acts : (x : Prog) (place : Place) (o : Outcome) → LeavesStanding x place o → Each (ActFits (heads x)) (around_after o).acts
outcome_acts x place (Held t around left) f = f.2.acts
outcome_acts x place (Left t there around left) f = f.3.acts
outcome_acts x place (Ended end around left) f = f.1.acts

pub run_sends_well : (x : Prog) → IsWellFormed x → (t : Thread) (place : Place) (around : Around) (n : ℕ) → Stands x t place → ThreadNames (heads x) t → AroundFits (heads x) place around
    → Each (SentWell (heads x)) (sent_by place (around_after (run_of x t around n)).acts)
run_sends_well x well t place around n stands names fits =
    let o = run_of x t around n in
    acts_well (heads x) place (around_after o).acts (outcome_acts x place o (run_leaves x well t place around n stands names fits))
