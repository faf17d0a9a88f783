-- An unlinked block keeps its thread, and makes nobody.
use Rattle.std.proofs.Common.{◌≡◌, ℕ, List, [], ◌∷◌, ◌++◌, refl, sym, subst, ap, ◌∙◌, arith}
use Rattle.loft_base.specs.declared.ids.Maker.TheVariants.{Source}
use Rattle.loft_base.specs.declared.ids.ThreadId.{ThreadId}
use Rattle.loft_tree.specs.declared.heads.Heads.{Heads}
use Rattle.loft_tree.specs.declared.heads.Place.TheVariants.{Unlinked}
use Rattle.loft_tree.specs.Fits.{Each}
use Rattle.loft_orders.specs.declared.note.Act.{Act}
use Rattle.loft_orders.specs.declared.note.Act.TheVariants as act
use Rattle.loft_orders.specs.declared.order.End.{End}
use Rattle.loft_orders.specs.declared.order.Order.{Order}
use Rattle.loft_orders.specs.declared.order.Order.TheVariants as order
use Rattle.loft_orders.specs.declared.order.Sent.{Sent}
use Rattle.loft_orders.specs.declared.order.To.{To}
use Rattle.loft_orders.specs.declared.order.To.TheVariants as to
use Rattle.loft_orders.specs.declared.thread.Thread.{Thread}
use Rattle.loft_sense.specs.Machine.{Prog, heads}
use Rattle.loft_sense.specs.Around.{Around}
use Rattle.loft_sense.specs.Apply.{tell_end}
use Rattle.loft_sense.specs.Async.{alone, block_sent, async}
use Rattle.loft_sense.specs.Instant.{sent_by}
use Rattle.loft_sense.specs.Passes.{run_of, around_after}
use Rattle.loft_sense.specs.Run.{Outcome, Held, Left, Ended}
use Rattle.loft_soundness.specs.WellFormed.{IsWellFormed}
use Rattle.loft_soundness.specs.Points.{LeavesStanding}
use Rattle.loft_soundness.specs.Machines.{ThreadFits}
use Rattle.loft_soundness.proofs.StandLemmas.{run_leaves}
use Rattle.loft_soundness.proofs.InstantLemmas.{alone_fits}
use Rattle.loft_conservation.specs.Counts.{one, makes, made_in, among_made}
use Rattle.loft_conservation.specs.Adds.{IsPlain, IsWay, LeavesBy, Adds, AddsEnd, RunAdds}
use Rattle.loft_conservation.specs.Blocks.{IsExit, IsQuiet, IsBlock}
use Rattle.loft_conservation.proofs.CountLemmas.{sent_by-append, plain_sent, none_made}
use Rattle.loft_conservation.proofs.ThreadLemmas.{same_self}
use Rattle.loft_conservation.proofs.RunAdds.{run_adds}
use Rattle.loft_conservation.proofs.WayLemmas.{run_leaves_by, run_makes_at}
use Rattle.loft_conservation.proofs.BlockLemmas.{never_held}

-- ---- orders that make, carry and end nobody

quiet : (o : Order) → IsPlain o → ((t : ThreadId) → makes t o ≡ 0) → IsQuiet o
quiet (order.Create u m args) f none = let e = none u in let is = ap one (same_self u) in absurd (omega (arith, e, is))
quiet (order.Arrive u) f none = absurd f
quiet (order.Stop u) f none = tt
quiet (order.Suspend u) f none = tt
quiet (order.Resume u) f none = tt
quiet (order.Broadcast event value) f none = tt
quiet (order.Ended u end) f none = absurd f

block_of : (h : Heads) (t : ThreadId) (ms : List Sent) (last : Sent) → Each (λ (m : Sent). IsPlain m.order) ms → ((u : ThreadId) → made_in u ms ≡ 0) → IsExit h t last.order last.to → IsBlock h t (ms ++ last ∷ [])
block_of h t [] last f none exit = exit
block_of h t (m ∷ []) last f none exit = (quiet m.order f.0 (λ u. let e = none u in omega (arith, e)), exit)
block_of h t (m ∷ n ∷ ms) last f none exit = (quiet m.order f.0 (λ u. let e = none u in omega (arith, e)), block_of h t (n ∷ ms) last f.1 (λ u. let e = none u in omega (arith, e)) exit)

-- nobody is made where as many are made as before
none_in : (x : Prog) (b : Around) (p : Adds (alone x) b) → b.made ≡ 0 → (t : ThreadId) → made_in t (sent_by Unlinked p.more) ≡ 0
none_in x b p none t = p.fresh t ∙ ap (λ (n : ℕ). among_made t Source 0 n) none ∙ none_made t Source 0

-- ---- how a block ends

arrives : (h : Heads) (t : ThreadId) (u : Thread) (there : To) → IsWay h Unlinked there → u.id ≡ t → IsExit h t (order.Arrive u) there
arrives h t u (to.Sched s) way e = (way, e)
arrives h t u (to.Others s) way e = absurd way
arrives h t u to.All way e = absurd way
arrives h t u to.Workers way e = way refl

left_block : (x : Prog) (t : ThreadId) (u : Thread) (there : To) (b : Around) → Adds (alone x) b → b.made ≡ 0 → IsExit (heads x) t (order.Arrive u) there
    → IsBlock (heads x) t (sent_by Unlinked b.acts ++ record { to = there; order = order.Arrive u } ∷ [])
left_block x t u there b p none exit =
    subst (λ (acts : List Act). IsBlock (heads x) t (sent_by Unlinked acts ++ record { to = there; order = order.Arrive u } ∷ [])) (sym p.is)
    (block_of (heads x) t (sent_by Unlinked p.more) (record { to = there; order = order.Arrive u }) (plain_sent Unlinked p.more p.plain) (none_in x b p none) exit)

ended_block : (x : Prog) (t : ThreadId) (end : End) (b : Around) → AddsEnd t end (alone x) b → b.made ≡ 0 → IsBlock (heads x) t (sent_by Unlinked b.acts)
ended_block x t end b p none =
    let acts : b.acts ≡ p.adds.more ++ act.End t end ∷ [] = p.is ∙ ap (λ (acts : List Act). acts ++ act.End t end ∷ []) p.adds.is in
    let sent : sent_by Unlinked b.acts ≡ sent_by Unlinked p.adds.more ++ tell_end Unlinked t end ∷ [] = ap (sent_by Unlinked) acts ∙ sent_by-append Unlinked p.adds.more (act.End t end ∷ []) in
    subst (IsBlock (heads x) t) (sym sent)
    (block_of (heads x) t (sent_by Unlinked p.adds.more) (tell_end Unlinked t end) (plain_sent Unlinked p.adds.more p.adds.plain) (none_in x p.last p.adds (sym p.made ∙ none)) refl)

outcome_block : (x : Prog) → IsWellFormed x → (t : ThreadId) (o : Outcome) → RunAdds t (alone x) o → LeavesBy (heads x) Unlinked o → LeavesStanding x Unlinked o → (around_after o).made ≡ 0
    → IsBlock (heads x) t (block_sent o)
outcome_block x well t (Held u b left) p way f none = absurd (never_held x well u p.1 f.0)
outcome_block x well t (Left u there b left) p way f none = left_block x t u there b p.1 none (arrives (heads x) t u there way p.0)
outcome_block x well t (Ended end b left) p way f none = ended_block x t end b p none

pub is_block : (x : Prog) → IsWellFormed x → (t : Thread) (block : ℕ) → ThreadFits x Unlinked t → IsBlock (heads x) t.id (async x t block)
is_block x well t block f =
    outcome_block x well t.id (run_of x t (alone x) block) (run_adds x t (alone x) block) (run_leaves_by x well t Unlinked (alone x) block f.0 f.1 (alone_fits x))
    (run_leaves x well t Unlinked (alone x) block f.0 f.1 (alone_fits x)) (run_makes_at x well t Unlinked (alone x) block f.0 f.1 (alone_fits x))
