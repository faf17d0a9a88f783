-- An actor's own list goes on exactly by its next entry.
use Rattle.std.proofs.Common.{◌≡◌, ℕ, ◌==◌, ◌≤◌, ◌<◌, Bool, true, false, ◌||◌, List, [], ◌∷◌, ◌++◌, length, refl, sym, ◌∙◌, ap, subst}
use Rattle.std.specs.Prelude.{◌↔◌, ◌&&◌, not, nat_lt, drop, if◌then◌else◌, IsTrue, All}
use Rattle.std.specs.List.{AllByRecursion}
use Rattle.std.proofs.lemmas.Bool.{ltb-true, ltb-false}
use Rattle.std.proofs.lemmas.List.Elements.{recursion_from_All}
use Rattle.loft_base.specs.declared.ids.SchedId.{SchedId}
use Rattle.loft_orders.specs.declared.thread.Thread.{Thread}
use Rattle.loft_orders.specs.declared.order.Order.{Order}
use Rattle.loft_orders.specs.declared.order.Sent.{Sent}
use Rattle.loft_orders.specs.declared.entry.Actor.{Actor}
use Rattle.loft_orders.specs.declared.entry.Actor.TheVariants as actor
use Rattle.loft_orders.specs.declared.entry.Entry.{Entry}
use Rattle.loft_orders.specs.declared.entry.Entry.TheVariants.{Take, Give, Pick, Post, Client}
use Rattle.loft_base.specs.declared.options.RunOptions.{RunOptions}
use Rattle.loft_sense.specs.Heads.{same_scheduler}
use Rattle.loft_sense.specs.Machine.{Prog, heads}
use Rattle.loft_sense.specs.Instant.{Replayed}
use Rattle.loft_sense.specs.Async.{async}
use Rattle.loft_history.specs.Clients.{made_by, outside_of}
use Rattle.loft_history.specs.History.{in_instant, is_open, unposted_after, unposted, unsent_after, unsent, has_turn, sent_last}
use Rattle.loft_history.specs.Legal.{actor_of, same_actor, of, IsFirst, TakeTurns, IsDue, Works, Gives, IsCallersOrder, FitsOne, IsCall, Calls, IsFaithful, IsNextOf}
use Rattle.loft_history.proofs.AtEachLemmas.{at_each-append, at_each_before}
use Rattle.loft_history.proofs.OwnLemmas.{replayed_own, creates_own}

-- ---- a scheduler's list

-- an entry of these turns comes next
turns_taken : (b : Bool) (s q : SchedId) (batch : List Order) (es l k : List Entry) (was : Bool)
    → ((now : Bool) → TakeTurns now l → TakeTurns (in_instant s now es) k → TakeTurns now (l ++ k))
    → TakeTurns was (if b then Take q batch ∷ l else l) → TakeTurns (in_instant s (b || was) es) k → TakeTurns was ((if b then Take q batch ∷ l else l) ++ k)
turns_taken true s q batch es l k true on turns next = absurd turns
turns_taken true s q batch es l k false on turns next = on true turns next
turns_taken false s q batch es l k was on turns next = on was turns next

turns_given : (b : Bool) (s q : SchedId) (sent : List Sent) (es l k : List Entry) (was : Bool)
    → ((now : Bool) → TakeTurns now l → TakeTurns (in_instant s now es) k → TakeTurns now (l ++ k))
    → TakeTurns was (if b then Give q sent ∷ l else l) → TakeTurns (in_instant s (not b && was) es) k → TakeTurns was ((if b then Give q sent ∷ l else l) ++ k)
turns_given true s q sent es l k true on turns next = on false turns next
turns_given true s q sent es l k false on turns next = absurd turns
turns_given false s q sent es l k was on turns next = on was turns next

turns-append : (s : SchedId) (h k : List Entry) (was : Bool) → TakeTurns was (of (actor.Sched s) h) → TakeTurns (in_instant s was h) k → TakeTurns was (of (actor.Sched s) h ++ k)
turns-append s [] k was turns next = next
turns-append s (Take q batch ∷ es) k was turns next = turns_taken (same_scheduler s q) s q batch es (of (actor.Sched s) es) k was (turns-append s es k) turns next
turns-append s (Give q sent ∷ es) k was turns next = turns_given (same_scheduler s q) s q sent es (of (actor.Sched s) es) k was (turns-append s es k) turns next
turns-append s (Pick w job ∷ es) k was turns next = turns-append s es k was turns next
turns-append s (Post w sent ∷ es) k was turns next = turns-append s es k was turns next
turns-append s (Client c sent ∷ es) k was turns next = turns-append s es k was turns next

-- what comes next in a scheduler's own list goes on in turns
turns_left_taken : (b : Bool) (s q : SchedId) (batch : List Order) (es l k : List Entry) (was : Bool)
    → ((now : Bool) → TakeTurns now (l ++ k) → TakeTurns (in_instant s now es) k)
    → TakeTurns was ((if b then Take q batch ∷ l else l) ++ k) → TakeTurns (in_instant s (b || was) es) k
turns_left_taken true s q batch es l k true on turns = absurd turns
turns_left_taken true s q batch es l k false on turns = on true turns
turns_left_taken false s q batch es l k was on turns = on was turns

turns_left_given : (b : Bool) (s q : SchedId) (sent : List Sent) (es l k : List Entry) (was : Bool)
    → ((now : Bool) → TakeTurns now (l ++ k) → TakeTurns (in_instant s now es) k)
    → TakeTurns was ((if b then Give q sent ∷ l else l) ++ k) → TakeTurns (in_instant s (not b && was) es) k
turns_left_given true s q sent es l k true on turns = on false turns
turns_left_given true s q sent es l k false on turns = absurd turns
turns_left_given false s q sent es l k was on turns = on was turns

turns_left : (s : SchedId) (h k : List Entry) (was : Bool) → TakeTurns was (of (actor.Sched s) h ++ k) → TakeTurns (in_instant s was h) k
turns_left s [] k was turns = turns
turns_left s (Take q batch ∷ es) k was turns = turns_left_taken (same_scheduler s q) s q batch es (of (actor.Sched s) es) k was (turns_left s es k) turns
turns_left s (Give q sent ∷ es) k was turns = turns_left_given (same_scheduler s q) s q sent es (of (actor.Sched s) es) k was (turns_left s es k) turns
turns_left s (Pick w job ∷ es) k was turns = turns_left s es k was turns
turns_left s (Post w sent ∷ es) k was turns = turns_left s es k was turns
turns_left s (Client c sent ∷ es) k was turns = turns_left s es k was turns

turns_before : (l k : List Entry) (was : Bool) → TakeTurns was (l ++ k) → TakeTurns was l
turns_before [] k was turns = tt
turns_before (Take s batch ∷ l) k false turns = turns_before l k true turns
turns_before (Take s batch ∷ l) k true turns = absurd turns
turns_before (Give s sent ∷ l) k false turns = absurd turns
turns_before (Give s sent ∷ l) k true turns = turns_before l k false turns
turns_before (Pick w job ∷ l) k false turns = absurd turns
turns_before (Pick w job ∷ l) k true turns = absurd turns
turns_before (Post w sent ∷ l) k false turns = absurd turns
turns_before (Post w sent ∷ l) k true turns = absurd turns
turns_before (Client c sent ∷ l) k false turns = absurd turns
turns_before (Client c sent ∷ l) k true turns = absurd turns

shut_before : (s : SchedId) (batch : List Order) (was : Bool) → TakeTurns was (Take s batch ∷ []) → was ≡ false
shut_before s batch true turns = absurd turns
shut_before s batch false turns = refl

open_before : (s : SchedId) (sent : List Sent) (was : Bool) → TakeTurns was (Give s sent ∷ []) → was ≡ true
open_before s sent true turns = refl
open_before s sent false turns = absurd turns

-- what has to hold of an entry that comes next in a scheduler's own list
record CanFollow (x : Prog) (o : RunOptions) (s : SchedId) (h : List Entry) (e : Entry) : Type 0 where
  pub turn : TakeTurns (is_open s h) (e ∷ [])
  pub due : IsDue x o s (of (actor.Sched s) h) e

next_follows : (x : Prog) (o : RunOptions) (s : SchedId) (h : List Entry) (e : Entry) → IsNextOf x o (actor.Sched s) h e → CanFollow x o s h e
next_follows x o s h (Take q batch) next = record {
  turn = subst (λ (b : Bool). TakeTurns b (Take q batch ∷ [])) (sym next.0) tt;
  due = ap (λ (r : Replayed). has_turn x o.limits r.machine batch) (replayed_own x o.limits s h) ∙ next.1;
}
next_follows x o s h (Give q sent) next = record {
  turn = subst (λ (b : Bool). TakeTurns b (Give q sent ∷ [])) (sym next.0) tt;
  due = next.1 ∙ ap (λ (r : Replayed). sent_last r.notes) (sym (replayed_own x o.limits s h));
}
next_follows x o s h (Pick w job) next = absurd next
next_follows x o s h (Post w sent) next = absurd next
next_follows x o s h (Client c sent) next = absurd next

follows_next : (x : Prog) (o : RunOptions) (s : SchedId) (h : List Entry) (e : Entry) → CanFollow x o s h e → IsNextOf x o (actor.Sched s) h e
follows_next x o s h (Take q batch) f =
    (shut_before q batch (is_open s h) f.turn, ap (λ (r : Replayed). has_turn x o.limits r.machine batch) (sym (replayed_own x o.limits s h)) ∙ f.due)
follows_next x o s h (Give q sent) f = (open_before q sent (is_open s h) f.turn, f.due ∙ ap (λ (r : Replayed). sent_last r.notes) (replayed_own x o.limits s h))
follows_next x o s h (Pick w job) f = absurd f.due
follows_next x o s h (Post w sent) f = absurd f.due
follows_next x o s h (Client c sent) f = absurd f.due

-- ---- a worker's list

works_picked : (x : Prog) (o : RunOptions) (v : ℕ) (job : Thread) (l k : List Entry) (after : List Sent → Type 0) (own : Bool) (left : List Sent)
    → ((now : List Sent) → Works x o now l → after now → Works x o now (l ++ k))
    → Works x o left (if own then Pick v job ∷ l else l) → after (if own then async x job o.limits.block else left) → Works x o left ((if own then Pick v job ∷ l else l) ++ k)
works_picked x o v job l k after true [] on works next = on (async x job o.limits.block) works next
works_picked x o v job l k after true (m ∷ left) on works next = absurd works
works_picked x o v job l k after false left on works next = on left works next

works_posted : (x : Prog) (o : RunOptions) (v : ℕ) (sent : Sent) (l k : List Entry) (after : List Sent → Type 0) (own : Bool) (left : List Sent)
    → ((now : List Sent) → Works x o now l → after now → Works x o now (l ++ k))
    → Works x o left (if own then Post v sent ∷ l else l) → after (if own then drop 1 left else left) → Works x o left ((if own then Post v sent ∷ l else l) ++ k)
works_posted x o v sent l k after true [] on works next = absurd works
works_posted x o v sent l k after true (m ∷ left) on works next = (works.0, on left works.1 next)
works_posted x o v sent l k after false left on works next = on left works next

works-append : (x : Prog) (o : RunOptions) (w : ℕ) (h k : List Entry) (left : List Sent) → Works x o left (of (actor.Worker w) h) → Works x o (unposted_after x o w left h) k → Works x o left (of (actor.Worker w) h ++ k)
works-append x o w [] k left works next = next
works-append x o w (Take q batch ∷ es) k left works next = works-append x o w es k left works next
works-append x o w (Give q sent ∷ es) k left works next = works-append x o w es k left works next
works-append x o w (Client c sent ∷ es) k left works next = works-append x o w es k left works next
works-append x o w (Pick v job ∷ es) k left works next =
    works_picked x o v job (of (actor.Worker w) es) k (λ now. Works x o (unposted_after x o w now es) k) (w == v) left (works-append x o w es k) works next
works-append x o w (Post v sent ∷ es) k left works next =
    works_posted x o v sent (of (actor.Worker w) es) k (λ now. Works x o (unposted_after x o w now es) k) (w == v) left (works-append x o w es k) works next

-- what comes next in a worker's own list goes on with what is left
works_left_picked : (x : Prog) (o : RunOptions) (v : ℕ) (job : Thread) (l k : List Entry) (after : List Sent → Type 0) (own : Bool) (left : List Sent)
    → ((now : List Sent) → Works x o now (l ++ k) → after now)
    → Works x o left ((if own then Pick v job ∷ l else l) ++ k) → after (if own then async x job o.limits.block else left)
works_left_picked x o v job l k after true [] on works = on (async x job o.limits.block) works
works_left_picked x o v job l k after true (m ∷ left) on works = absurd works
works_left_picked x o v job l k after false left on works = on left works

works_left_posted : (x : Prog) (o : RunOptions) (v : ℕ) (sent : Sent) (l k : List Entry) (after : List Sent → Type 0) (own : Bool) (left : List Sent)
    → ((now : List Sent) → Works x o now (l ++ k) → after now)
    → Works x o left ((if own then Post v sent ∷ l else l) ++ k) → after (if own then drop 1 left else left)
works_left_posted x o v sent l k after true [] on works = absurd works
works_left_posted x o v sent l k after true (m ∷ left) on works = on left works.1
works_left_posted x o v sent l k after false left on works = on left works

pub works_left : (x : Prog) (o : RunOptions) (w : ℕ) (h k : List Entry) (left : List Sent) → Works x o left (of (actor.Worker w) h ++ k) → Works x o (unposted_after x o w left h) k
works_left x o w [] k left works = works
works_left x o w (Take q batch ∷ es) k left works = works_left x o w es k left works
works_left x o w (Give q sent ∷ es) k left works = works_left x o w es k left works
works_left x o w (Client c sent ∷ es) k left works = works_left x o w es k left works
works_left x o w (Pick v job ∷ es) k left works =
    works_left_picked x o v job (of (actor.Worker w) es) k (λ now. Works x o (unposted_after x o w now es) k) (w == v) left (works_left x o w es k) works
works_left x o w (Post v sent ∷ es) k left works =
    works_left_posted x o v sent (of (actor.Worker w) es) k (λ now. Works x o (unposted_after x o w now es) k) (w == v) left (works_left x o w es k) works

works_before : (x : Prog) (o : RunOptions) (l k : List Entry) (left : List Sent) → Works x o left (l ++ k) → Works x o left l
works_before x o [] k left works = tt
works_before x o (Take s batch ∷ l) k [] works = absurd works
works_before x o (Take s batch ∷ l) k (m ∷ left) works = absurd works
works_before x o (Give s sent ∷ l) k [] works = absurd works
works_before x o (Give s sent ∷ l) k (m ∷ left) works = absurd works
works_before x o (Pick w job ∷ l) k [] works = works_before x o l k (async x job o.limits.block) works
works_before x o (Pick w job ∷ l) k (m ∷ left) works = absurd works
works_before x o (Post w sent ∷ l) k [] works = absurd works
works_before x o (Post w sent ∷ l) k (m ∷ left) works = (works.0, works_before x o l k left works.1)
works_before x o (Client c sent ∷ l) k [] works = absurd works
works_before x o (Client c sent ∷ l) k (m ∷ left) works = absurd works

-- what a worker does next, by what is left
abbrev WorksOn : List Sent → Entry → Type 0
WorksOn left (Pick w job) = left ≡ []
WorksOn left (Post w sent) = IsFirst sent left
WorksOn left e = ⊥

works_on : (x : Prog) (o : RunOptions) (left : List Sent) (e : Entry) → Works x o left (e ∷ []) → WorksOn left e
works_on x o [] (Take s batch) works = works
works_on x o (m ∷ left) (Take s batch) works = works
works_on x o [] (Give s sent) works = works
works_on x o (m ∷ left) (Give s sent) works = works
works_on x o [] (Pick w job) works = refl
works_on x o (m ∷ left) (Pick w job) works = absurd works
works_on x o [] (Post w sent) works = works
works_on x o (m ∷ left) (Post w sent) works = works.0
works_on x o [] (Client c sent) works = works
works_on x o (m ∷ left) (Client c sent) works = works

on_works : (x : Prog) (o : RunOptions) (left : List Sent) (e : Entry) → WorksOn left e → Works x o left (e ∷ [])
on_works x o left (Take s batch) next = absurd next
on_works x o left (Give s sent) next = absurd next
on_works x o [] (Pick w job) next = tt
on_works x o (m ∷ left) (Pick w job) next = absurd cc
on_works x o [] (Post w sent) next = next
on_works x o (m ∷ left) (Post w sent) next = (next, tt)
on_works x o left (Client c sent) next = absurd next

next_works : (x : Prog) (o : RunOptions) (w : ℕ) (h : List Entry) (e : Entry) → IsNextOf x o (actor.Worker w) h e → WorksOn (unposted x o w h) e
next_works x o w h (Take s batch) next = next
next_works x o w h (Give s sent) next = next
next_works x o w h (Pick v job) next = next
next_works x o w h (Post v sent) next = next
next_works x o w h (Client c sent) next = next

works_next : (x : Prog) (o : RunOptions) (w : ℕ) (h : List Entry) (e : Entry) → WorksOn (unposted x o w h) e → IsNextOf x o (actor.Worker w) h e
works_next x o w h (Take s batch) next = next
works_next x o w h (Give s sent) next = next
works_next x o w h (Pick v job) next = next
works_next x o w h (Post v sent) next = next
works_next x o w h (Client c sent) next = next

-- ---- a client's list

gives_given : (d : ℕ) (sent : Sent) (l k : List Entry) (after : List Sent → Type 0) (own : Bool) (left : List Sent)
    → ((now : List Sent) → Gives now l → after now → Gives now (l ++ k))
    → Gives left (if own then Client d sent ∷ l else l) → after (if own then drop 1 left else left) → Gives left ((if own then Client d sent ∷ l else l) ++ k)
gives_given d sent l k after true [] on gives next = absurd gives
gives_given d sent l k after true (m ∷ left) on gives next = (gives.0, on left gives.1 next)
gives_given d sent l k after false left on gives next = on left gives next

gives-append : (c : ℕ) (h k : List Entry) (left : List Sent) → Gives left (of (actor.Client c) h) → Gives (unsent_after c left h) k → Gives left (of (actor.Client c) h ++ k)
gives-append c [] k left gives next = next
gives-append c (Take q batch ∷ es) k left gives next = gives-append c es k left gives next
gives-append c (Give q sent ∷ es) k left gives next = gives-append c es k left gives next
gives-append c (Pick w job ∷ es) k left gives next = gives-append c es k left gives next
gives-append c (Post w sent ∷ es) k left gives next = gives-append c es k left gives next
gives-append c (Client d sent ∷ es) k left gives next =
    gives_given d sent (of (actor.Client c) es) k (λ now. Gives (unsent_after c now es) k) (c == d) left (gives-append c es k) gives next

gives_left_given : (d : ℕ) (sent : Sent) (l k : List Entry) (after : List Sent → Type 0) (own : Bool) (left : List Sent)
    → ((now : List Sent) → Gives now (l ++ k) → after now)
    → Gives left ((if own then Client d sent ∷ l else l) ++ k) → after (if own then drop 1 left else left)
gives_left_given d sent l k after true [] on gives = absurd gives
gives_left_given d sent l k after true (m ∷ left) on gives = on left gives.1
gives_left_given d sent l k after false left on gives = on left gives

pub gives_left : (c : ℕ) (h k : List Entry) (left : List Sent) → Gives left (of (actor.Client c) h ++ k) → Gives (unsent_after c left h) k
gives_left c [] k left gives = gives
gives_left c (Take q batch ∷ es) k left gives = gives_left c es k left gives
gives_left c (Give q sent ∷ es) k left gives = gives_left c es k left gives
gives_left c (Pick w job ∷ es) k left gives = gives_left c es k left gives
gives_left c (Post w sent ∷ es) k left gives = gives_left c es k left gives
gives_left c (Client d sent ∷ es) k left gives =
    gives_left_given d sent (of (actor.Client c) es) k (λ now. Gives (unsent_after c now es) k) (c == d) left (gives_left c es k) gives

gives_before : (l k : List Entry) (left : List Sent) → Gives left (l ++ k) → Gives left l
gives_before [] k left gives = tt
gives_before (Take s batch ∷ l) k [] gives = absurd gives
gives_before (Take s batch ∷ l) k (m ∷ left) gives = absurd gives
gives_before (Give s sent ∷ l) k [] gives = absurd gives
gives_before (Give s sent ∷ l) k (m ∷ left) gives = absurd gives
gives_before (Pick w job ∷ l) k [] gives = absurd gives
gives_before (Pick w job ∷ l) k (m ∷ left) gives = absurd gives
gives_before (Post w sent ∷ l) k [] gives = absurd gives
gives_before (Post w sent ∷ l) k (m ∷ left) gives = absurd gives
gives_before (Client c sent ∷ l) k [] gives = absurd gives
gives_before (Client c sent ∷ l) k (m ∷ left) gives = (gives.0, gives_before l k left gives.1)

-- what a client of the source gives next, by what is left
abbrev GivesOn : List Sent → Entry → Type 0
GivesOn left (Client c sent) = IsFirst sent left
GivesOn left e = ⊥

gives_on : (left : List Sent) (e : Entry) → Gives left (e ∷ []) → GivesOn left e
gives_on [] (Take s batch) gives = gives
gives_on (m ∷ left) (Take s batch) gives = gives
gives_on [] (Give s sent) gives = gives
gives_on (m ∷ left) (Give s sent) gives = gives
gives_on [] (Pick w job) gives = gives
gives_on (m ∷ left) (Pick w job) gives = gives
gives_on [] (Post w sent) gives = gives
gives_on (m ∷ left) (Post w sent) gives = gives
gives_on [] (Client c sent) gives = gives
gives_on (m ∷ left) (Client c sent) gives = gives.0

on_gives : (left : List Sent) (c : ℕ) (sent : Sent) → IsFirst sent left → Gives left (Client c sent ∷ [])
on_gives [] c sent next = next
on_gives (m ∷ left) c sent next = (next, tt)

-- a caller's next order, by its own entries and by the whole history
call_own : (x : Prog) (c : ℕ) (h : List Entry) (sent : Sent) → IsCall x c h sent → IsCall x c (of (actor.Client c) h) sent
call_own x c h sent call = subst (λ (k : ℕ). IsCallersOrder (made_by c k) sent.order × FitsOne x sent.to sent.order) (sym (creates_own c h)) call

pub call_whole : (x : Prog) (c : ℕ) (h : List Entry) (sent : Sent) → IsCall x c (of (actor.Client c) h) sent → IsCall x c h sent
call_whole x c h sent call = subst (λ (k : ℕ). IsCallersOrder (made_by c k) sent.order × FitsOne x sent.to sent.order) (creates_own c h) call

-- it is one of the source, or it isn't
either_client : {Q : Type 0} (x : Prog) (c : ℕ) (declared : Bool) → nat_lt c (length (heads x).clients) ≡ declared → (c < length (heads x).clients → Q) → (length (heads x).clients ≤ c → Q) → Q
either_client x c true is source caller = source (ltb-true c (length (heads x).clients) is)
either_client x c false is source caller = caller (ltb-false c (length (heads x).clients) is)

-- what comes next in a client's own list is an order of its
client_next : (x : Prog) (o : RunOptions) (c : ℕ) (h : List Entry) (e : Entry) → (c < length (heads x).clients → GivesOn (unsent (heads x) c h) e) → (length (heads x).clients ≤ c → Calls x c (of (actor.Client c) h) e) → IsNextOf x o (actor.Client c) h e
client_next x o c h (Take s batch) source caller = either_client x c (nat_lt c (length (heads x).clients)) refl source caller
client_next x o c h (Give s sent) source caller = either_client x c (nat_lt c (length (heads x).clients)) refl source caller
client_next x o c h (Pick w job) source caller = either_client x c (nat_lt c (length (heads x).clients)) refl source caller
client_next x o c h (Post w sent) source caller = either_client x c (nat_lt c (length (heads x).clients)) refl source caller
client_next x o c h (Client d sent) source caller = record { source = source; caller = λ beyond. call_whole x c h sent (caller beyond) }

next_gives : (x : Prog) (o : RunOptions) (c : ℕ) (h : List Entry) (e : Entry) → IsNextOf x o (actor.Client c) h e → c < length (heads x).clients → Gives (unsent (heads x) c h) (e ∷ [])
next_gives x o c h (Take s batch) next declared = absurd next
next_gives x o c h (Give s sent) next declared = absurd next
next_gives x o c h (Pick w job) next declared = absurd next
next_gives x o c h (Post w sent) next declared = absurd next
next_gives x o c h (Client d sent) next declared = on_gives (unsent (heads x) c h) d sent (next.source declared)

next_calls : (x : Prog) (o : RunOptions) (c : ℕ) (h : List Entry) (e : Entry) → IsNextOf x o (actor.Client c) h e → length (heads x).clients ≤ c → Calls x c (of (actor.Client c) h) e
next_calls x o c h (Take s batch) next beyond = absurd next
next_calls x o c h (Give s sent) next beyond = absurd next
next_calls x o c h (Pick w job) next beyond = absurd next
next_calls x o c h (Post w sent) next beyond = absurd next
next_calls x o c h (Client d sent) next beyond = call_own x c h sent (next.caller beyond)

-- ---- one entry more

pub grows : (x : Prog) (o : RunOptions) (a : Actor) (h : List Entry) (e : Entry) → IsFaithful x o a (of a h) → IsNextOf x o a h e → IsFaithful x o a (of a h ++ e ∷ [])
grows x o (actor.Sched s) h e own next =
    let f : CanFollow x o s h e = next_follows x o s h e next in
    record {
      turns = turns-append s h (e ∷ []) false own.turns f.turn;
      due = at_each-append (IsDue x o s) (of (actor.Sched s) h) e own.due f.due;
    }
grows x o (actor.Worker w) h e own next = works-append x o w h (e ∷ []) [] own (on_works x o (unposted x o w h) e (next_works x o w h e next))
grows x o (actor.Client c) h e own next = record {
  source = λ declared. gives-append c h (e ∷ []) (outside_of (heads x) c) (own.source declared) (next_gives x o c h e next declared);
  caller = λ beyond. at_each-append (Calls x c) (of (actor.Client c) h) e (own.caller beyond) (next_calls x o c h e next beyond);
}

pub own_before : (x : Prog) (o : RunOptions) (a : Actor) (l k : List Entry) → IsFaithful x o a (l ++ k) → IsFaithful x o a l
own_before x o (actor.Sched s) l k f = record { turns = turns_before l k false f.turns; due = at_each_before (IsDue x o s) l k f.due }
own_before x o (actor.Worker w) l k f = works_before x o l k [] f
own_before x o (actor.Client c) l k f = record {
  source = λ declared. gives_before l k (outside_of (heads x) c) (f.source declared);
  caller = λ beyond. at_each_before (Calls x c) l k (f.caller beyond);
}

pub next_own : (x : Prog) (o : RunOptions) (a : Actor) (h : List Entry) (e : Entry) → IsFaithful x o a (of a h ++ e ∷ []) → IsNextOf x o a h e
next_own x o (actor.Sched s) h e f = follows_next x o s h e (record { turn = turns_left s h (e ∷ []) false f.turns; due = f.due (of (actor.Sched s) h) e [] refl })
next_own x o (actor.Worker w) h e f = works_next x o w h e (works_on x o (unposted x o w h) e (works_left x o w h (e ∷ []) [] f))
next_own x o (actor.Client c) h e f =
    client_next x o c h e (λ declared. gives_on (unsent (heads x) c h) e (gives_left c h (e ∷ []) (outside_of (heads x) c) (f.source declared)))
    (λ beyond. f.caller beyond (of (actor.Client c) h) e [] refl)

-- ---- as the law says it

pub grows_in_history : (x : Prog) (o : RunOptions) (a : Actor) (h : List Entry) (e : Entry) → IsFaithful x o a (of a h ++ e ∷ []) ↔ IsFaithful x o a (of a h) × IsNextOf x o a h e
grows_in_history x o a h e = (λ f. (own_before x o a (of a h) (e ∷ []) f, next_own x o a h e f), λ both. grows x o a h e both.0 both.1)

-- an actor's own entries are all of a list of them
own_all : (a : Actor) (own : List Entry) → AllByRecursion (λ (d : Entry). IsTrue (same_actor a (actor_of d))) own → of a own ≡ own
own_all a [] all = refl
own_all a (e ∷ own) all = kept (same_actor a (actor_of e)) all.0 (own_all a own all.1)
  where
    kept : (b : Bool) → b ≡ true → of a own ≡ own → (if b then e ∷ of a own else of a own) ≡ e ∷ own
    kept true is same = ap (λ (l : List Entry). e ∷ l) same
    kept false is same = absurd cc

pub own_grows : (x : Prog) (o : RunOptions) (a : Actor) (own : List Entry) (e : Entry) → All (λ (d : Entry). IsTrue (same_actor a (actor_of d))) own
    → IsFaithful x o a (own ++ e ∷ []) ↔ IsFaithful x o a own × IsNextOf x o a own e
own_grows x o a own e all =
    subst (λ (l : List Entry). IsFaithful x o a (l ++ e ∷ []) ↔ IsFaithful x o a l × IsNextOf x o a own e)
    (own_all a own (recursion_from_All (λ (d : Entry). IsTrue (same_actor a (actor_of d))) own all)) (grows_in_history x o a own e)
