-- In the block of an unlinked thread with a bound it doesn't end with Over, and what it sends keeps what threads need.
use Rattle.std.proofs.Common.{◌≡◌, ℕ, List, [], ◌∷◌, ◌++◌, Option, refl, sym, ap, ◌∙◌, subst}
use Rattle.loft_base.specs.declared.ids.ModuleId.{ModuleId}
use Rattle.loft_base.specs.declared.ids.ThreadId.{ThreadId}
use Rattle.loft_tree.specs.declared.heads.Place.TheVariants.{Unlinked}
use Rattle.loft_tree.specs.Fits.{Each}
use Rattle.loft_tree.specs.Resolved.{Resolved}
use Rattle.loft_base.specs.declared.options.Limits.{Limits}
use Rattle.loft_orders.specs.declared.note.Act.{Act}
use Rattle.loft_orders.specs.declared.note.Act.TheVariants as act
use Rattle.loft_orders.specs.declared.order.End.{End}
use Rattle.loft_orders.specs.declared.order.End.TheVariants as end
use Rattle.loft_orders.specs.declared.order.Order.{Order}
use Rattle.loft_orders.specs.declared.order.Order.TheVariants as order
use Rattle.loft_orders.specs.declared.order.Sent.{Sent}
use Rattle.loft_orders.specs.declared.thread.Thread.{Thread}
use Rattle.loft_sense.specs.Machine.{Tree}
use Rattle.loft_sense.specs.Around.{Around}
use Rattle.loft_sense.specs.Run.{Outcome, Held, Left, Ended}
use Rattle.loft_sense.specs.Passes.{run_of}
use Rattle.loft_sense.specs.Instant.{sent_by}
use Rattle.loft_sense.specs.Async.{alone, block_sent, async}
use Rattle.loft_soundness.specs.Numbered.{IsNumbered}
use Rattle.loft_soundness.proofs.ListLemmas.{each_append}
use Rattle.loft_conservation.specs.Adds.{IsPlain, IsPlainAct, RunAdds}
use Rattle.loft_conservation.proofs.RunAdds.{run_adds}
use Rattle.loft_budget.specs.Bounds.{bound_of, steps_within, outermost, HasNoBound, OverOf, OrderOverOf}
use Rattle.loft_budget.proofs.Order.{within_more}
use Rattle.loft_budget.proofs.Runs.{run_goes_well}
use Rattle.loft_budget.proofs.Table.{is_table}
use Rattle.loft_budget.proofs.Modules.{KeepsOutermost, run_keeps_outermost}
use Rattle.loft_budget.proofs.EffectEnds.{IsNoOver}
use Rattle.loft_budget.proofs.Threads.{If as IfBounded, Goes as GoesWithin, OutcomeIs as OutcomeWithin, outcome_is, no_bound, Known as KnownBy, EndIs as EndBy, CarryIs as CarryBy, SentIs as SentBy}

-- E: what is known of a thread by its id and its outermost module, as it is made
module _ (p : Resolved) (limits : Limits) (E : ThreadId → Option ModuleId → Type 0) where
  -- what is kept and claimed, of this program, these limits and this E
  abbrev If : Thread → (ℕ → ℕ → Type 0) → Type 0
  If t P = IfBounded p limits t P

  abbrev Goes : Thread → Type 0
  Goes t = GoesWithin p limits t

  abbrev Known : Thread → Type 0
  Known t = KnownBy p limits E t

  abbrev EndIs : ThreadId → End → Type 0
  EndIs t end = EndBy p limits E t end

  abbrev CarryIs : Order → Type 0
  CarryIs o = CarryBy p limits E o

  abbrev SentIs : Sent → Type 0
  SentIs m = SentBy p limits E m

  abbrev OutcomeIs : Thread → Outcome → Type 0
  OutcomeIs r o = OutcomeWithin p limits r o

  module _ (numbered : IsNumbered p) where
    -- what an order of a block carries, and of whom it tells
    abbrev pub BlockIs : Thread → Sent → Type 0
    BlockIs t sent = SentIs sent × OrderOverOf p limits t sent.order

    plain_sent : (t : Thread) (o : Order) → IsPlain o → CarryIs o × OrderOverOf p limits t o
    plain_sent t (order.Create u m args) f = (tt, tt)
    plain_sent t (order.Arrive u) f = absurd f
    plain_sent t (order.Stop u) f = (tt, tt)
    plain_sent t (order.Suspend u) f = (tt, tt)
    plain_sent t (order.Resume u) f = (tt, tt)
    plain_sent t (order.Broadcast event value) f = (tt, tt)
    plain_sent t (order.Ended u end) f = absurd f

    block_plain : (t : Thread) (acts others : List Act) → Each IsPlainAct acts → Each (BlockIs t) (sent_by Unlinked others) → Each (BlockIs t) (sent_by Unlinked (acts ++ others))
    block_plain t [] others f g = g
    block_plain t (act.Print u line ∷ acts) others f g = block_plain t acts others f.1 g
    block_plain t (act.Gen u event value ∷ acts) others f g = block_plain t acts others f.1 g
    block_plain t (act.Out u sent ∷ acts) others f g = (plain_sent t sent.order f.0, block_plain t acts others f.1 g)
    block_plain t (act.End u end ∷ acts) others f g = absurd f.0

    block_all : (t : Thread) (acts : List Act) → Each IsPlainAct acts → Each (BlockIs t) (sent_by Unlinked acts)
    block_all t [] f = tt
    block_all t (act.Print u line ∷ acts) f = block_all t acts f.1
    block_all t (act.Gen u event value ∷ acts) f = block_all t acts f.1
    block_all t (act.Out u sent ∷ acts) f = (plain_sent t sent.order f.0, block_all t acts f.1)
    block_all t (act.End u end ∷ acts) f = absurd f.0

    -- the end of a thread alone
    end_over : (t : Thread) (end : End) → Known t → If t (λ k n. IsNoOver end) → EndIs t.id end × OverOf p limits t t.id end
    end_over t end.Done known h = (tt, tt)
    end_over t end.Stopped known h = (tt, tt)
    end_over t end.Full known h = (tt, tt)
    end_over t (end.Div at) known h = (tt, tt)
    end_over t (end.Deep at) known h = (tt, tt)
    end_over t (end.Over at) known h =
        let none : HasNoBound p limits (outermost t.frames) = λ m e bound. no_bound p limits numbered t m e (λ k v f g b i. h k m v f g b i) bound in
        ((outermost t.frames, known, none), (refl, none))
    end_over t (end.Flood at) known h = (tt, tt)

    block_outcome : (t : Thread) (a : Around) (o : Outcome) → a.acts ≡ [] → Known t → KeepsOutermost (outermost t.frames) o → OutcomeIs t o → RunAdds t.id a o → Each (BlockIs t) (block_sent o)
    block_outcome t a (Held u b left) none known same is adds =
        subst (λ (acts : List Act). Each (BlockIs t) (sent_by Unlinked acts)) (sym (adds.2.is ∙ ap (λ (acts : List Act). acts ++ adds.2.more) none)) (block_all t adds.2.more adds.2.plain)
    block_outcome t a (Left u to b left) none known same is adds =
        each_append (BlockIs t) (sent_by Unlinked b.acts) _
        (subst (λ (acts : List Act). Each (BlockIs t) (sent_by Unlinked acts)) (sym (adds.1.is ∙ ap (λ (acts : List Act). acts ++ adds.1.more) none)) (block_all t adds.1.more adds.1.plain))
        (((is, subst (λ (i : ThreadId). E i (outermost u.frames)) (sym adds.0) (subst (λ (o : Option ModuleId). E t.id o) (sym same) known)), tt), tt)
    block_outcome t a (Ended end b left) none known same is adds =
        let more = adds.adds.more in
        let acts : b.acts ≡ more ++ act.End t.id end ∷ [] = adds.is ∙ ap (λ (l : List Act). l ++ act.End t.id end ∷ []) (adds.adds.is ∙ ap (λ (l : List Act). l ++ more) none) in
        subst (λ (l : List Act). Each (BlockIs t) (sent_by Unlinked l)) (sym acts) (block_plain t more (act.End t.id end ∷ []) adds.adds.plain (end_over t end known is, tt))

    alone_goes : (t : Thread) → Goes t → OutcomeIs t (run_of (Tree p) t (alone (Tree p)) limits.block)
    alone_goes t h =
        outcome_is p limits t (run_of (Tree p) t (alone (Tree p)) limits.block) (run_keeps_outermost (Tree p) t (alone (Tree p)) limits.block)
        (λ k m v e f g b.
        let rests = h k m v e f g b in
        run_goes_well p (steps_within p k) (bound_of v) (is_table p numbered k) numbered t (alone (Tree p)) limits.block rests (within_more (bound_of v) limits.block (bound_of v) _ b rests.0))

    pub block_is : (t : Thread) → Goes t × Known t → Each (BlockIs t) (async (Tree p) t limits.block)
    block_is t h =
        block_outcome t (alone (Tree p)) (run_of (Tree p) t (alone (Tree p)) limits.block) refl h.1 (run_keeps_outermost (Tree p) t (alone (Tree p)) limits.block) (alone_goes t h.0) (run_adds (Tree p) t (alone (Tree p)) limits.block)
