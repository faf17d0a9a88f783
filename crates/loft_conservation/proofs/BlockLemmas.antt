-- A thread that runs unlinked is linked again or ends, and its last order tells so.
use Rattle.std.proofs.Common.{◌≡◌, ℕ, true, false, List, [], ◌∷◌, ◌++◌, reverse, Option, Some, None, slice_get, refl, sym, subst, ap, ◌∙◌}
use Rattle.std.specs.Prelude.{◌≢◌}
use Rattle.loft_base.specs.declared.ids.ThreadId.{ThreadId}
use Rattle.loft_base.specs.declared.ids.Value.{Value}
use Rattle.loft_tree.specs.declared.heads.Place.TheVariants.{Unlinked}
use Rattle.loft_tree.specs.declared.heads.Signature.{Signature}
use Rattle.loft_tree.specs.Fits.{Each}
use Rattle.loft_tree.specs.Resolved.{Pause, Cooperate, Await, Get, Join, Link, Unlink, Halt}
use Rattle.loft_orders.specs.declared.note.Act.{Act}
use Rattle.loft_orders.specs.declared.note.Act.TheVariants as act
use Rattle.loft_orders.specs.declared.order.End.{End}
use Rattle.loft_orders.specs.declared.order.Order.{Order}
use Rattle.loft_orders.specs.declared.order.Order.TheVariants as order
use Rattle.loft_orders.specs.declared.order.Sent.{Sent}
use Rattle.loft_orders.specs.declared.order.To.{To}
use Rattle.loft_orders.specs.declared.thread.Frame.{Frame}
use Rattle.loft_orders.specs.declared.thread.Thread.{Thread}
use Rattle.loft_orders.specs.declared.thread.Wait.{Wait}
use Rattle.loft_orders.specs.declared.thread.Wait.TheVariants as wait
use Rattle.loft_sense.specs.Machine.{Prog, heads}
use Rattle.loft_sense.specs.Around.{Around}
use Rattle.loft_sense.specs.Apply.{tell_end}
use Rattle.loft_sense.specs.Async.{alone, block_sent, async}
use Rattle.loft_history.specs.History.{ends_block}
use Rattle.loft_sense.specs.Instant.{sent_by}
use Rattle.loft_sense.specs.Passes.{run_of}
use Rattle.loft_sense.specs.Run.{Outcome, Held, Left, Ended}
use Rattle.loft_sense.specs.Stands.{StopKind, Begins, Pauses, Calls, WaitAgrees, ValuesAgree, FramesStand, Stands}
use Rattle.loft_soundness.specs.WellFormed.{IsWellFormed}
use Rattle.loft_soundness.specs.Points.{LeavesStanding}
use Rattle.loft_soundness.specs.Machines.{ThreadFits}
use Rattle.loft_soundness.proofs.StandLemmas.{run_leaves}
use Rattle.loft_soundness.proofs.InstantLemmas.{alone_fits}
use Rattle.loft_conservation.specs.Adds.{IsPlain, Adds, AddsEnd, RunAdds}
use Rattle.loft_conservation.specs.Blocks.{EndsAtLast}
use Rattle.loft_conservation.proofs.CountLemmas.{sent_by-append, plain_sent}
use Rattle.loft_conservation.proofs.RunAdds.{run_adds}
use Rattle.loft_conservation.proofs.PauseLemmas.{HoldsLinked, KindLinked, stops_linked}

-- ---- no stop holds a thread that is unlinked

head_of : (o : Option Signature) (vs : List Value) → ValuesAgree o vs → (head : Signature) × (o ≡ Some head)
head_of None vs e = absurd e
head_of (Some head) vs e = (head, refl)

pause_waits : (pause : Pause) (w : Wait) → w ≢ wait.New → HoldsLinked pause Unlinked → WaitAgrees (Pauses pause) w → ⊥
pause_waits (Cooperate instants) w new linked agrees = linked refl
pause_waits (Await events limit) w new linked agrees = linked refl
pause_waits (Get event index target) w new linked agrees = linked refl
pause_waits (Join thread limit) w new linked agrees = linked refl
pause_waits (Link s) w new linked agrees = new agrees
pause_waits Unlink w new linked agrees = new agrees
pause_waits Halt w new linked agrees = linked refl

kind_waits : (kind : StopKind) (w : Wait) → w ≢ wait.New → KindLinked kind Unlinked → WaitAgrees kind w → ⊥
kind_waits Begins w new linked agrees = new agrees
kind_waits (Pauses pause) w new linked agrees = pause_waits pause w new linked agrees
kind_waits (Calls m) w new linked agrees = agrees

module _ (x : Prog) (well : IsWellFormed x) where
  frames_wait : (w : Wait) (fs : List Frame) → w ≢ wait.New → FramesStand x w Unlinked fs → ⊥
  frames_wait w [] new stand = stand
  frames_wait w (f ∷ fs) new stand =
      let at = stand.0.0 in
      let head = head_of (slice_get (heads x).modules f.module.0) f.values stand.0.1.values in
      let linked = stops_linked x well f.module head.0 head.1 f.stop at stand.0.1.stop in
      kind_waits at.kind w new (subst (KindLinked at.kind) stand.0.3 linked) stand.0.2

  pub never_held : (t : Thread) → t.wait ≢ wait.New → Stands x t Unlinked → ⊥
  never_held t new stands = frames_wait t.wait (reverse t.frames) new stands.frames

-- ---- the last order of a block

plain_goes_on : (o : Order) → IsPlain o → ends_block o ≡ false
plain_goes_on (order.Create t m args) f = refl
plain_goes_on (order.Arrive t) f = absurd f
plain_goes_on (order.Stop t) f = refl
plain_goes_on (order.Suspend t) f = refl
plain_goes_on (order.Resume t) f = refl
plain_goes_on (order.Broadcast event value) f = refl
plain_goes_on (order.Ended t end) f = absurd f

ends_after : (ms : List Sent) (last : Sent) → Each (λ (m : Sent). IsPlain m.order) ms → ends_block last.order ≡ true → EndsAtLast (ms ++ last ∷ [])
ends_after [] last f e = e
ends_after (m ∷ []) last f e = (plain_goes_on m.order f.0, e)
ends_after (m ∷ n ∷ ms) last f e = (plain_goes_on m.order f.0, ends_after (n ∷ ms) last f.1 e)

-- what was added to nothing
acts_added : (x : Prog) (b : Around) → (p : Adds (alone x) b) → b.acts ≡ p.more
acts_added x b p = p.is

left_ends : (x : Prog) (t : Thread) (to : To) (b : Around) → Adds (alone x) b → EndsAtLast (sent_by Unlinked b.acts ++ record { to = to; order = order.Arrive t } ∷ [])
left_ends x t to b p =
    subst (λ (acts : List Act). EndsAtLast (sent_by Unlinked acts ++ record { to = to; order = order.Arrive t } ∷ [])) (sym (acts_added x b p))
    (ends_after (sent_by Unlinked p.more) (record { to = to; order = order.Arrive t }) (plain_sent Unlinked p.more p.plain) refl)

ended_ends : (x : Prog) (t : ThreadId) (end : End) (b : Around) → AddsEnd t end (alone x) b → EndsAtLast (sent_by Unlinked b.acts)
ended_ends x t end b p =
    let acts : b.acts ≡ p.adds.more ++ act.End t end ∷ [] = p.is ∙ ap (λ (acts : List Act). acts ++ act.End t end ∷ []) (acts_added x p.last p.adds) in
    let sent : sent_by Unlinked b.acts ≡ sent_by Unlinked p.adds.more ++ tell_end Unlinked t end ∷ [] = ap (sent_by Unlinked) acts ∙ sent_by-append Unlinked p.adds.more (act.End t end ∷ []) in
    subst EndsAtLast (sym sent) (ends_after (sent_by Unlinked p.adds.more) (tell_end Unlinked t end) (plain_sent Unlinked p.adds.more p.adds.plain) refl)

outcome_ends : (x : Prog) → IsWellFormed x → (t : ThreadId) (o : Outcome) → RunAdds t (alone x) o → LeavesStanding x Unlinked o → EndsAtLast (block_sent o)
outcome_ends x well t (Held u b left) p f = absurd (never_held x well u p.1 f.0)
outcome_ends x well t (Left u to b left) p f = left_ends x u to b p.1
outcome_ends x well t (Ended end b left) p f = ended_ends x t end b p

pub block_ends : (x : Prog) → IsWellFormed x → (t : Thread) (block : ℕ) → ThreadFits x Unlinked t → EndsAtLast (async x t block)
block_ends x well t block f = outcome_ends x well t.id (run_of x t (alone x) block) (run_adds x t (alone x) block) (run_leaves x well t Unlinked (alone x) block f.0 f.1 (alone_fits x))
