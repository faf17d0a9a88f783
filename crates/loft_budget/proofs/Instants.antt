-- In an instant no thread with a bound ends with Over, and all threads keep what they need for that.
use Rattle.std.proofs.Common.{◌≡◌, ◌⊎◌, inl, inr, ℕ, ◌≤◌, Bool, true, false, cond, List, [], ◌∷◌, ◌++◌, map, filter, length, Option, Some, None, refl, sym, ap, ◌∙◌, subst, arith}
use Rattle.std.specs.Prelude.{not, is_some, nat_lt, if◌then◌else◌}
use Rattle.std.proofs.lemmas.Bool.{and_parts}
use Rattle.loft_base.specs.declared.ids.SchedId.{SchedId}
use Rattle.loft_base.specs.declared.ids.ModuleId.{ModuleId}
use Rattle.loft_base.specs.declared.ids.ThreadId.{ThreadId}
use Rattle.loft_base.specs.declared.ids.Value.{Value}
use Rattle.loft_tree.specs.declared.heads.Heads.{Heads}
use Rattle.loft_tree.specs.declared.heads.Place.{Place}
use Rattle.loft_tree.specs.declared.heads.Place.TheVariants.{Sched}
use Rattle.loft_tree.specs.Fits.{Each}
use Rattle.loft_tree.specs.Resolved.{Resolved}
use Rattle.loft_base.specs.declared.options.Limits.{Limits}
use Rattle.loft_sense.specs.declared.limits.TheConstants.{MAX_LINKED}
use Rattle.loft_orders.specs.declared.note.Act.{Act}
use Rattle.loft_orders.specs.declared.note.Act.TheVariants as act
use Rattle.loft_orders.specs.declared.note.Standing.{Standing}
use Rattle.loft_orders.specs.declared.order.End.{End}
use Rattle.loft_orders.specs.declared.order.End.TheVariants as end
use Rattle.loft_orders.specs.declared.order.Order.{Order}
use Rattle.loft_orders.specs.declared.order.Order.TheVariants as order
use Rattle.loft_orders.specs.declared.order.Sent.{Sent}
use Rattle.loft_orders.specs.declared.order.To.{To}
use Rattle.loft_orders.specs.declared.thread.Thread.{Thread}
use Rattle.loft_orders.specs.declared.thread.Wait.TheVariants as wait
use Rattle.loft_sense.specs.Machine.{Tree, Mach}
use Rattle.loft_sense.specs.Around.{Around}
use Rattle.loft_sense.specs.CanGo.{same_thread, count_of, is_over, can_go}
use Rattle.loft_sense.specs.Run.{Outcome, Held, Left, Ended}
use Rattle.loft_sense.specs.Tree.{body_then, body_at}
use Rattle.loft_sense.specs.Passes.{Runner, run_of, is_ready, runners_after, around_after, passes}
use Rattle.loft_sense.specs.Apply.{Applied, new_thread, with_last, is_linked, without_first, suspend, tell_end, apply_order, apply_orders, unapplied, apply}
use Rattle.loft_sense.specs.Instant.{runner_of, around_of, closed_wait, closed, stays, leaver, leavers, sent_by, instant}
use Rattle.loft_soundness.specs.Numbered.{IsNumbered}
use Rattle.loft_soundness.specs.Left.{begins}
use Rattle.loft_soundness.proofs.ListLemmas.{each_append}
use Rattle.loft_conservation.specs.Adds.{IsPlain, IsPlainAct, Adds, RunAdds}
use Rattle.loft_conservation.proofs.RunAdds.{run_adds}
use Rattle.loft_budget.specs.declared.steps.Steps.{Steps}
use Rattle.loft_budget.specs.Steps.{only_through, followed, body_steps}
use Rattle.loft_budget.specs.Bounds.{bound_of, steps_within, outermost, HasNoBound, IsAmong, OverBy, ActOverBy}
use Rattle.loft_budget.proofs.Order.{Less, less_trans, one_more_less, nothing_last, within_less, within_more}
use Rattle.loft_budget.proofs.WorkSteps.{work_steps, before_steps, before_fine}
use Rattle.loft_budget.proofs.Runs.{Rests, HeldWell}
use Rattle.loft_budget.proofs.Table.{is_table, bound_holds}
use Rattle.loft_budget.proofs.Modules.{KeepsOutermost, run_keeps_outermost}
use Rattle.loft_budget.proofs.EffectEnds.{IsNoOver}
use Rattle.loft_budget.proofs.Threads.{If as IfBounded, Goes as GoesWithin, Safe as SafeWithin, Holds as HoldsWithin, OutcomeIs as OutcomeWithin, run_is, no_bound, Known as KnownBy, Linked as LinkedBy, EndIs as EndBy, CarryIs as CarryBy, OrderIs as OrderBy, SentIs as SentBy, ActEndIs as ActEndBy, MachIs}
use Rattle.loft_sense.specs.Moments.{Moment, IsKeptByRuns}
use Rattle.loft_sense.proofs.MomentLemmas.{kept_by_passes}
use Rattle.loft_soundness.proofs.CarryLemmas.{each_parted}

-- E: what is known of a thread by its id and its outermost module, as it is made
module _ (p : Resolved) (limits : Limits) (E : ThreadId → Option ModuleId → Type 0) where
  -- what is kept and claimed, of this program, these limits and this E
  abbrev If : Thread → (ℕ → ℕ → Type 0) → Type 0
  If t P = IfBounded p limits t P

  abbrev Goes : Thread → Type 0
  Goes t = GoesWithin p limits t

  abbrev Safe : Thread → Type 0
  Safe t = SafeWithin p limits t

  abbrev Holds : Thread → ℕ → Type 0
  Holds t left = HoldsWithin p limits t left

  abbrev Known : Thread → Type 0
  Known t = KnownBy p limits E t

  abbrev Linked : Standing → Type 0
  Linked s = LinkedBy p limits E s

  abbrev EndIs : ThreadId → End → Type 0
  EndIs t end = EndBy p limits E t end

  abbrev CarryIs : Order → Type 0
  CarryIs o = CarryBy p limits E o

  abbrev OrderIs : Order → Type 0
  OrderIs o = OrderBy p limits E o

  abbrev SentIs : Sent → Type 0
  SentIs m = SentBy p limits E m

  abbrev ActEndIs : Act → Type 0
  ActEndIs a = ActEndBy p limits E a

  abbrev OutcomeIs : Thread → Outcome → Type 0
  OutcomeIs r o = OutcomeWithin p limits r o

  module _ (numbered : IsNumbered p) where
    -- ---- passes

    module _ (linked : List Standing) where
      -- it was one of these as the passes began
      abbrev From : Thread → Type 0
      From t = (s : Standing) × IsAmong s linked × (s.thread.id ≡ t.id) × (outermost s.thread.frames ≡ outermost t.frames)

      abbrev Going : Option To → Thread → ℕ → Type 0
      Going None t left = Holds t left
      Going (Some to) t left = Goes t

      abbrev RunnerIs : Runner → Type 0
      RunnerIs r = Going r.leaving r.thread r.left × From r.thread

      -- orders of acts carry nobody
      abbrev ActIs : Act → Type 0
      ActIs (act.Print t line) = Unit {0}
      ActIs (act.Gen t event value) = Unit {0}
      ActIs (act.Out t sent) = SentIs sent
      ActIs (act.End t end) = OverBy p limits linked t end

      record MomentIs (m : Moment) : Type 0 where
        pub runners : Each RunnerIs m.runners
        pub acts : Each ActIs m.around.acts

      plain_order : (o : Order) → IsPlain o → CarryIs o
      plain_order (order.Create t m args) f = tt
      plain_order (order.Arrive t) f = absurd f
      plain_order (order.Stop t) f = tt
      plain_order (order.Suspend t) f = tt
      plain_order (order.Resume t) f = tt
      plain_order (order.Broadcast event value) f = tt
      plain_order (order.Ended t end) f = absurd f

      plain_act : (a : Act) → IsPlainAct a → ActIs a
      plain_act (act.Print t line) f = tt
      plain_act (act.Gen t event value) f = tt
      plain_act (act.Out t sent) f = plain_order sent.order f
      plain_act (act.End t end) f = absurd f

      plain_acts : (acts : List Act) → Each IsPlainAct acts → Each ActIs acts
      plain_acts [] f = tt
      plain_acts (a ∷ acts) f = (plain_act a f.0, plain_acts acts f.1)

      added : (a b : Around) → Adds a b → Each ActIs a.acts → Each ActIs b.acts
      added a b f g = subst (Each ActIs) (sym f.is) (each_append ActIs a.acts f.more g (plain_acts f.more f.plain))

      -- a thread that ends with Over has no such bound
      over_by : (t : Thread) (end : End) → From t → If t (λ k n. IsNoOver end) → OverBy p limits linked t.id end
      over_by t end.Done from h = tt
      over_by t end.Stopped from h = tt
      over_by t end.Full from h = tt
      over_by t (end.Div at) from h = tt
      over_by t (end.Deep at) from h = tt
      over_by t (end.Over at) from h =
          let none : HasNoBound p limits (outermost from.0.thread.frames) = λ m e bound. no_bound p limits numbered t m (sym from.3 ∙ e) (λ k v f g b i. h k m v f g b i) bound in
          (from.0, from.1, from.2, none)
      over_by t (end.Flood at) from h = tt

      from_on : (t u : Thread) → u.id ≡ t.id → outermost u.frames ≡ outermost t.frames → From t → From u
      from_on t u id same from = (from.0, from.1, from.2 ∙ sym id, from.3 ∙ sym same)

      ran_is : (r : Runner) (around : Around) (o : Outcome) → r.leaving ≡ None → OutcomeIs r.thread o → KeepsOutermost (outermost r.thread.frames) o → RunAdds r.thread.id around o → From r.thread → Each ActIs around.acts
          → Each RunnerIs (runners_after r o) × Each ActIs (around_after o).acts
      ran_is r around (Held t b left) none is same adds from acts =
          (((subst (λ (leaving : Option To). Going leaving t left) (sym none) is, from_on r.thread t adds.0 same from), tt), added around b adds.2 acts)
      ran_is r around (Left t to b left) none is same adds from acts = (((is, from_on r.thread t adds.0 same from), tt), added around b adds.1 acts)
      ran_is r around (Ended end b left) none is same adds from acts =
          (tt, subst (Each ActIs) (sym adds.is) (each_append ActIs adds.last.acts (act.End r.thread.id end ∷ []) (added around adds.last adds.adds acts) (over_by r.thread end from is, tt)))

      stays_here : (leaving : Option To) → not (is_some leaving) ≡ true → leaving ≡ None
      stays_here None e = refl
      stays_here (Some to) e = absurd cc

      ready_run : (r : Runner) (around : Around) → RunnerIs r → Each ActIs around.acts → is_ready r around ≡ true
          → let o = run_of (Tree p) r.thread around r.left in Each RunnerIs (runners_after r o) × Each ActIs (around_after o).acts
      ready_run r around f a e =
          let parts = and_parts (not (is_some r.leaving)) (can_go r.thread.wait r.suspended around.board around.known) e in
          let none = stays_here r.leaving parts.0 in
          let over = (and_parts (not r.suspended) (is_over r.thread.wait (count_of around.board) around.known) parts.1).1 in
          let holds : Holds r.thread r.left = subst (λ (leaving : Option To). Going leaving r.thread r.left) none f.0 in
          ran_is r around (run_of (Tree p) r.thread around r.left) none (run_is p limits numbered r.thread around r.left over holds)
          (run_keeps_outermost (Tree p) r.thread around r.left) (run_adds (Tree p) r.thread around r.left) f.1 a

      moments_are : IsKeptByRuns (Tree p) MomentIs
      moments_are front r rest around ready f =
          let so = each_parted RunnerIs front r rest f.runners in
          let ran = ready_run r around so.1.0 f.acts ready in
          record {
            runners = each_append RunnerIs front (runners_after r (run_of (Tree p) r.thread around r.left) ++ rest) so.0 (each_append RunnerIs (runners_after r (run_of (Tree p) r.thread around r.left)) rest ran.0 so.1.1);
            acts = ran.1;
          }

      -- ---- as the passes begin

      begins_so : (t : Thread) → Safe t → Holds t limits.budget
      begins_so t h = λ k m v e f g b. by k (bound_of v) g (h k m v e f g b)
        where
          by : (k n : ℕ) → n ≤ limits.budget → (t.wait ≡ wait.Halt) ⊎ Rests p (steps_within p k) n t → HeldWell p (steps_within p k) n t limits.budget
          by k n g (inl e) = inl e
          by k n g (inr r) = inr (r, inr (within_more n limits.budget n _ g r.0))

      begin_are : (ss : List Standing) → ((s : Standing) → IsAmong s ss → IsAmong s linked) → Each Linked ss → Each RunnerIs (map (runner_of limits.budget) ss)
      begin_are [] h f = tt
      begin_are (s ∷ ss) h f = ((begins_so s.thread f.0.0, (s, h s (inl refl), refl, refl)), begin_are ss (λ q among. h q (inr among)) f.1)

      -- ---- the close

      held_safe : (t : Thread) (left : ℕ) → Holds t left → Safe t
      held_safe t left h = λ k m v e f g b. by k (bound_of v) (h k m v e f g b)
        where
          by : (k n : ℕ) → HeldWell p (steps_within p k) n t left → (t.wait ≡ wait.Halt) ⊎ Rests p (steps_within p k) n t
          by k n (inl e) = inl e
          by k n (inr r) = inr r.0

      closed_safe : (t : Thread) → Safe t → Safe (record t { wait = closed_wait t.wait })
      closed_safe t h = λ k m v e f g b. by k (bound_of v) (h k m v e f g b)
        where
          by : (k n : ℕ) → (t.wait ≡ wait.Halt) ⊎ Rests p (steps_within p k) n t → (closed_wait t.wait ≡ wait.Halt) ⊎ Rests p (steps_within p k) n t
          by k n (inl e) = inl (ap closed_wait e)
          by k n (inr r) = inr r

      closed_one : (suspended : Bool) (t : Thread) → Safe t × Known t → Safe (if suspended then t else record t { wait = closed_wait t.wait }) × Known (if suspended then t else record t { wait = closed_wait t.wait })
      closed_one true t f = f
      closed_one false t f = (closed_safe t f.0, f.1)

      -- what was known of the threads as the passes began
      module _ (known : Each Linked linked) where
        among_known : (s : Standing) (ss : List Standing) → Each Linked ss → IsAmong s ss → Known s.thread
        among_known s [] f among = absurd among
        among_known s (q ∷ qs) f (inl e) = subst (λ (r : Standing). Known r.thread) (sym e) f.0.1
        among_known s (q ∷ qs) f (inr among) = among_known s qs f.1 among

        from_known : (t : Thread) → From t → Known t
        from_known t from =
            subst (λ (o : Option ModuleId). E t.id o) from.3 (subst (λ (u : ThreadId). E u (outermost from.0.thread.frames)) from.2 (among_known from.0 linked known from.1))

        stay_one : (r : Runner) (leaving : Option To) (rest : List Runner) → Going leaving r.thread r.left → From r.thread → Each Linked (map closed rest) → Each Linked (map closed (cond (not (is_some leaving)) (r ∷ rest) rest))
        stay_one r None rest f from g = (closed_one r.suspended r.thread (held_safe r.thread r.left f, from_known r.thread from), g)
        stay_one r (Some to) rest f from g = g

        linked_closed : (rs : List Runner) → Each RunnerIs rs → Each Linked (map closed (filter stays rs))
        linked_closed [] f = tt
        linked_closed (r ∷ rs) f = stay_one r r.leaving (filter stays rs) f.0.0 f.0.1 (linked_closed rs f.1)

        leaver_one : (t : Thread) (leaving : Option To) (left : ℕ) → Going leaving t left → From t → Each SentIs (leaver t leaving)
        leaver_one t None left f from = tt
        leaver_one t (Some to) left f from = ((f, from_known t from), tt)

        leavers_are : (rs : List Runner) → Each RunnerIs rs → Each SentIs (leavers rs)
        leavers_are [] f = tt
        leavers_are (r ∷ rs) f = each_append SentIs (leaver r.thread r.leaving) (leavers rs) (leaver_one r.thread r.leaving r.left f.0.0 f.0.1) (leavers_are rs f.1)

        end_is : (t : ThreadId) (end : End) → OverBy p limits linked t end → EndIs t end
        end_is t end.Done f = tt
        end_is t end.Stopped f = tt
        end_is t end.Full f = tt
        end_is t (end.Div at) f = tt
        end_is t (end.Deep at) f = tt
        end_is t (end.Over at) f =
            (outermost f.0.thread.frames, subst (λ (u : ThreadId). E u (outermost f.0.thread.frames)) f.2 (among_known f.0 linked known f.1), f.3)
        end_is t (end.Flood at) f = tt

        act_end : (a : Act) → ActIs a → ActEndIs a
        act_end (act.Print t line) f = tt
        act_end (act.Gen t event value) f = tt
        act_end (act.Out t sent) f = tt
        act_end (act.End t end) f = end_is t end f

        acts_end : (acts : List Act) → Each ActIs acts → Each ActEndIs acts
        acts_end [] f = tt
        acts_end (a ∷ acts) f = (act_end a f.0, acts_end acts f.1)

        acts_sent : (place : Place) (acts : List Act) → Each ActIs acts → Each SentIs (sent_by place acts)
        acts_sent place [] f = tt
        acts_sent place (act.Print t line ∷ acts) f = acts_sent place acts f.1
        acts_sent place (act.Gen t event value ∷ acts) f = acts_sent place acts f.1
        acts_sent place (act.Out t sent ∷ acts) f = (f.0, acts_sent place acts f.1)
        acts_sent place (act.End t end ∷ acts) f = (end_is t end f.0, acts_sent place acts f.1)

      act_over : (a : Act) → ActIs a → ActOverBy p limits linked a
      act_over (act.Print t line) f = tt
      act_over (act.Gen t event value) f = tt
      act_over (act.Out t sent) f = tt
      act_over (act.End t end) f = f

      acts_over : (acts : List Act) → Each ActIs acts → Each (ActOverBy p limits linked) acts
      acts_over [] f = tt
      acts_over (a ∷ acts) f = (act_over a f.0, acts_over acts f.1)

    -- ---- the batch

    new_rests : (k : ℕ) (h : Heads) (t : ThreadId) (m : ModuleId) (args : List Value) (v : Steps) → steps_within p k m ≡ Some v → Rests p (steps_within p k) (bound_of v) (new_thread h t m args)
    new_rests k h t m args v e =
        let of = steps_within p k in
        let table = is_table p numbered k in
        let own = body_then (body_at p m) [] in
        let body : Less (work_steps of own) v = subst (Less (work_steps of own)) (table.steps m v e) (less_trans _ _ _ (before_steps of (body_at p m) []) (nothing_last (body_steps of (body_at p m)))) in
        let all : Less (followed (work_steps of own) (only_through 0)) v = less_trans _ _ _ (nothing_last (work_steps of own)) body in
        let same : bound_of v ≤ bound_of v = omega arith in
        (within_less (bound_of v) (bound_of v) _ _ (one_more_less _ _ all) (bound_holds v (bound_of v) same), ((before_fine of (body_at p m) [] (table.fine m v e) tt, begins, refl), tt))

    new_safe : (h : Heads) (t : ThreadId) (m : ModuleId) (args : List Value) → Safe (new_thread h t m args)
    new_safe h t m args = λ k q v e f g b. let same : m ≡ q = cc in inr (new_rests k h t m args v (subst (λ (o : ModuleId). steps_within p k o ≡ Some v) (sym same) f))

    arrived_safe : (t : Thread) → Goes t → Safe t
    arrived_safe t h = λ k m v e f g b. inr (h k m v e f g b)

    record AppliedIs (a : Applied) : Type 0 where
      linked : Each Linked a.linked
      sent : Each SentIs a.sent

    unlinked_one : (b : Bool) (q : Standing) (rest others : List Standing) → Linked q → Each Linked rest → Each Linked others → Each Linked (if b then rest else q ∷ others)
    unlinked_one true q rest others f g h = g
    unlinked_one false q rest others f g h = (f, h)

    unlink_keeps : (t : ThreadId) (ss : List Standing) → Each Linked ss → Each Linked (without_first t ss)
    unlink_keeps t [] f = tt
    unlink_keeps t (q ∷ ss) f = unlinked_one (same_thread t q.thread.id) q ss (without_first t ss) f.0 f.1 (unlink_keeps t ss f.1)

    suspended_one : (b suspended : Bool) (q : Standing) (rest others : List Standing) → Linked q → Each Linked rest → Each Linked others
        → Each Linked (if b then record q { suspended = suspended } ∷ rest else q ∷ others)
    suspended_one true suspended q rest others f g h = (f, g)
    suspended_one false suspended q rest others f g h = (f, h)

    suspend_keeps : (t : ThreadId) (suspended : Bool) (ss : List Standing) → Each Linked ss → Each Linked (suspend t suspended ss)
    suspend_keeps t suspended [] f = tt
    suspend_keeps t suspended (q ∷ ss) f = suspended_one (same_thread t q.thread.id) suspended q ss (suspend t suspended ss) f.0 f.1 (suspend_keeps t suspended ss f.1)

    applied_one : (b : Bool) (v w : Applied) → AppliedIs v → AppliedIs w → AppliedIs (if b then v else w)
    applied_one true v w f g = f
    applied_one false v w f g = g

    link_is : (t : Thread) (a : Applied) → AppliedIs a → Safe t × Known t → Each Linked (with_last t a.linked)
    link_is t a f g = each_append Linked a.linked (record { thread = t; suspended = false } ∷ []) f.linked (g, tt)

    ended_is : (s : SchedId) (t : ThreadId) (end : End) (a : Applied) → AppliedIs a → EndIs t end → Each SentIs (a.sent ++ tell_end (Sched s) t end ∷ [])
    ended_is s t end a f is = each_append SentIs a.sent (tell_end (Sched s) t end ∷ []) f.sent (is, tt)

    order_applied : (h : Heads) (s : SchedId) (a : Applied) (o : Order) → AppliedIs a → OrderIs o → AppliedIs (apply_order h s a o)
    order_applied h s a (order.Create t m args) f g =
        applied_one (nat_lt (length a.linked) MAX_LINKED) _ _ (record { linked = link_is (new_thread h t m args) a f (new_safe h t m args, g.1); sent = f.sent }) (record { linked = f.linked; sent = ended_is s t end.Full a f tt })
    order_applied h s a (order.Arrive t) f g = record { linked = link_is t a f (arrived_safe t g.0.0, g.0.1); sent = f.sent }
    order_applied h s a (order.Stop t) f g =
        applied_one (is_linked t a.linked) _ _ (record { linked = unlink_keeps t a.linked f.linked; sent = ended_is s t end.Stopped a f tt }) (record { linked = f.linked; sent = f.sent })
    order_applied h s a (order.Suspend t) f g =
        applied_one (is_linked t a.linked) _ _ (record { linked = suspend_keeps t true a.linked f.linked; sent = f.sent }) (record { linked = f.linked; sent = f.sent })
    order_applied h s a (order.Resume t) f g =
        applied_one (is_linked t a.linked) _ _ (record { linked = suspend_keeps t false a.linked f.linked; sent = f.sent }) (record { linked = f.linked; sent = f.sent })
    order_applied h s a (order.Broadcast e v) f g = record { linked = f.linked; sent = f.sent }
    order_applied h s a (order.Ended t end) f g = record { linked = f.linked; sent = f.sent }

    orders_applied : (h : Heads) (s : SchedId) (a : Applied) (os : List Order) → AppliedIs a → Each OrderIs os → AppliedIs (apply_orders h s a os)
    orders_applied h s a [] f g = f
    orders_applied h s a (o ∷ os) f g = orders_applied h s (apply_order h s a o) os (order_applied h s a o f g.0) g.1

    -- ---- instants

    -- the machine after an instant, what it sends and what it did
    pub record InstantIs (m : Mach) (batch : List Order) : Type 0 where
      pub machine : MachIs p limits E (instant (Tree p) limits m batch).machine
      pub sent : Each SentIs (instant (Tree p) limits m batch).note.sent
      pub over : Each (ActOverBy p limits (apply (Tree p) m batch).linked) (instant (Tree p) limits m batch).note.acts
      pub ends : Each ActEndIs (instant (Tree p) limits m batch).note.acts

    pub instant_is : (m : Mach) (batch : List Order) → MachIs p limits E m → Each OrderIs batch → InstantIs m batch
    unfolding instant
    instant_is m batch f g =
        let a = apply (Tree p) m batch in
        let applied = orders_applied p.heads m.s (unapplied p.heads m) batch (record { linked = f; sent = tt }) g in
        let rs = map (runner_of limits.budget) a.linked in
        let last = passes (Tree p) rs (around_of m a) in
        let w = kept_by_passes (Tree p) (MomentIs a.linked) (moments_are a.linked) rs (around_of m a) (record { runners = begin_are a.linked a.linked (λ s among. among) applied.linked; acts = tt }) in
        record {
          machine = linked_closed a.linked applied.linked last.runners w.runners;
          sent =
              each_append SentIs a.sent (sent_by (Sched m.s) last.around.acts ++ leavers last.runners) applied.sent
              (each_append SentIs (sent_by (Sched m.s) last.around.acts) (leavers last.runners) (acts_sent a.linked applied.linked (Sched m.s) last.around.acts w.acts) (leavers_are a.linked applied.linked last.runners w.runners));
          over = acts_over a.linked last.around.acts w.acts;
          ends = acts_end a.linked applied.linked last.around.acts w.acts;
        }
