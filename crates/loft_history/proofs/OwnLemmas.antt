-- What has become of an actor is told by its own entries.
use Rattle.std.proofs.Common.{◌≡◌, ℕ, ◌+◌, suc, ◌==◌, Bool, true, false, ◌||◌, List, [], ◌∷◌, length, refl, sym, ap, ◌∙◌}
use Rattle.std.proofs.Math.Seq.{drop-nil}
use Rattle.std.specs.List.{fold}
use Rattle.std.specs.Prelude.{◌&&◌, not, drop, if◌then◌else◌}
use Rattle.loft_base.specs.declared.ids.SchedId.{SchedId}
use Rattle.loft_tree.specs.declared.heads.Heads.{Heads}
use Rattle.loft_orders.specs.declared.entry.Actor.{Actor}
use Rattle.loft_orders.specs.declared.entry.Actor.TheVariants as actor
use Rattle.loft_orders.specs.declared.entry.Entry.{Entry}
use Rattle.loft_orders.specs.declared.entry.Entry.TheVariants.{Take, Give, Pick, Post, Client}
use Rattle.loft_base.specs.declared.options.RunOptions.{RunOptions}
use Rattle.loft_orders.specs.declared.order.Sent.{Sent}
use Rattle.loft_sense.specs.Heads.{same_scheduler}
use Rattle.loft_base.specs.declared.options.Limits.{Limits}
use Rattle.loft_orders.specs.declared.order.Order.{Order}
use Rattle.loft_sense.specs.Machine.{Prog}
use Rattle.loft_sense.specs.Instant.{replay}
use Rattle.loft_sense.specs.Async.{async}
use Rattle.loft_history.specs.Clients.{outside_of}
use Rattle.loft_history.specs.History.{log, instant_step, is_open, unposted_step, unposted, ends_block, busy_step, is_busy, is_create, creates_step, creates, unsent_step, unsent_after, unsent, replayed}
use Rattle.loft_history.specs.Legal.{actor_of, same_actor, of}

-- a scheduler's log is that of its own entries
pub log_own : (s : SchedId) (h : List Entry) → log s (of (actor.Sched s) h) ≡ log s h
log_own s [] = refl
log_own s (Take q batch ∷ es) = taken (same_scheduler s q) refl (log_own s es)
  where
    taken : (b : Bool) → same_scheduler s q ≡ b → log s (of (actor.Sched s) es) ≡ log s es
        → log s (if b then Take q batch ∷ of (actor.Sched s) es else of (actor.Sched s) es) ≡ (if b then batch ∷ log s es else log s es)
    taken true is e = ap (λ (c : Bool). if c then batch ∷ log s (of (actor.Sched s) es) else log s (of (actor.Sched s) es)) is ∙ ap (λ (l : List (List Order)). batch ∷ l) e
    taken false is e = e
log_own s (Give q sent ∷ es) = given (same_scheduler s q) (log_own s es)
  where
    given : (b : Bool) → log s (of (actor.Sched s) es) ≡ log s es → log s (if b then Give q sent ∷ of (actor.Sched s) es else of (actor.Sched s) es) ≡ log s es
    given true e = e
    given false e = e
log_own s (Pick w job ∷ es) = log_own s es
log_own s (Post w sent ∷ es) = log_own s es
log_own s (Client c sent ∷ es) = log_own s es

pub replayed_own : (x : Prog) (limits : Limits) (s : SchedId) (h : List Entry) → replayed x limits s (of (actor.Sched s) h) ≡ replayed x limits s h
replayed_own x limits s h = ap (replay x limits s) (log_own s h)

-- A fold whose step passes over the entries of others is that over the actor's own entries.
fold_own : {S : Type 0} (step : S → Entry → S) (a : Actor) → ((was : S) (e : Entry) → same_actor a (actor_of e) ≡ false → step was e ≡ was) → (was : S) (es : List Entry)
    → fold step was (of a es) ≡ fold step was es
fold_own step a passes was [] = refl
fold_own {S = S} step a passes was (e ∷ es) = by (same_actor a (actor_of e)) refl (λ now. fold_own step a passes now es)
  where
    by : (own : Bool) → same_actor a (actor_of e) ≡ own → ((now : S) → fold step now (of a es) ≡ fold step now es)
        → fold step was (if own then e ∷ of a es else of a es) ≡ fold step (step was e) es
    by true is on = on (step was e)
    by false is on = on was ∙ ap (λ (now : S). fold step now es) (sym (passes was e is))

instant_passes : (s : SchedId) (was : Bool) (e : Entry) → same_actor (actor.Sched s) (actor_of e) ≡ false → instant_step s was e ≡ was
instant_passes s was (Take q batch) other = ap (λ (b : Bool). b || was) other
instant_passes s was (Give q sent) other = ap (λ (b : Bool). not b && was) other
instant_passes s was (Pick w job) other = refl
instant_passes s was (Post w sent) other = refl
instant_passes s was (Client c sent) other = refl

left_passes : (x : Prog) (o : RunOptions) (w : ℕ) (was : List Sent) (e : Entry) → same_actor (actor.Worker w) (actor_of e) ≡ false → unposted_step x o w was e ≡ was
left_passes x o w was (Take q batch) other = refl
left_passes x o w was (Give q sent) other = refl
left_passes x o w was (Pick v job) other = ap (λ (b : Bool). if b then async x job o.limits.block else was) other
left_passes x o w was (Post v sent) other = ap (λ (b : Bool). if b then drop 1 was else was) other
left_passes x o w was (Client c sent) other = refl

hand_passes : (w : ℕ) (was : Bool) (e : Entry) → same_actor (actor.Worker w) (actor_of e) ≡ false → busy_step w was e ≡ was
hand_passes w was (Take q batch) other = refl
hand_passes w was (Give q sent) other = refl
hand_passes w was (Pick v job) other = ap (λ (b : Bool). b || was) other
hand_passes w was (Post v sent) other = ap (λ (b : Bool). if b then not (ends_block sent.order) else was) other
hand_passes w was (Client c sent) other = refl

unsent_passes : (c : ℕ) (was : List Sent) (e : Entry) → same_actor (actor.Client c) (actor_of e) ≡ false → unsent_step c was e ≡ was
unsent_passes c was (Take q batch) other = refl
unsent_passes c was (Give q sent) other = refl
unsent_passes c was (Pick w job) other = refl
unsent_passes c was (Post w sent) other = refl
unsent_passes c was (Client d sent) other = ap (λ (b : Bool). if b then drop 1 was else was) other

creates_passes : (c was : ℕ) (e : Entry) → same_actor (actor.Client c) (actor_of e) ≡ false → creates_step c was e ≡ was
creates_passes c was (Take q batch) other = refl
creates_passes c was (Give q sent) other = refl
creates_passes c was (Pick w job) other = refl
creates_passes c was (Post w sent) other = refl
creates_passes c was (Client d sent) other = ap (λ (b : Bool). if b && is_create sent.order then was + 1 else was) other

-- ---- what own entries tell

pub open_own : (s : SchedId) (es : List Entry) → is_open s (of (actor.Sched s) es) ≡ is_open s es
open_own s es = fold_own (instant_step s) (actor.Sched s) (instant_passes s) false es

pub left_own : (x : Prog) (o : RunOptions) (w : ℕ) (es : List Entry) → unposted x o w (of (actor.Worker w) es) ≡ unposted x o w es
left_own x o w es = fold_own (unposted_step x o w) (actor.Worker w) (left_passes x o w) [] es

pub creates_own : (c : ℕ) (es : List Entry) → creates c (of (actor.Client c) es) ≡ creates c es
creates_own c es = fold_own (creates_step c) (actor.Client c) (creates_passes c) 0 es

pub unsent_own : (h : Heads) (c : ℕ) (es : List Entry) → unsent h c (of (actor.Client c) es) ≡ unsent h c es
unsent_own h c es = fold_own (unsent_step c) (actor.Client c) (unsent_passes c) (outside_of h c) es

-- ---- as the law says it

pub scheduler_own : (s : SchedId) (es : List Entry) → (log s (of (actor.Sched s) es) ≡ log s es) × (is_open s (of (actor.Sched s) es) ≡ is_open s es)
scheduler_own s es = (log_own s es, open_own s es)

pub worker_own : (x : Prog) (o : RunOptions) (w : ℕ) (es : List Entry) → (unposted x o w (of (actor.Worker w) es) ≡ unposted x o w es) × (is_busy w (of (actor.Worker w) es) ≡ is_busy w es)
worker_own x o w es = (left_own x o w es, fold_own (busy_step w) (actor.Worker w) (hand_passes w) false es)

pub client_own : (h : Heads) (c : ℕ) (es : List Entry) → (creates c (of (actor.Client c) es) ≡ creates c es) × (unsent h c (of (actor.Client c) es) ≡ unsent h c es)
client_own h c es = (creates_own c es, unsent_own h c es)

drop_more : {A : Type 0} (n : ℕ) (xs : List A) → drop n (drop 1 xs) ≡ drop (suc n) xs
drop_more n [] = drop-nil n
drop_more n (x ∷ xs) = refl

-- as many are given as the client has entries
given_after : (c : ℕ) (es : List Entry) (was : List Sent) → unsent_after c was es ≡ drop (length (of (actor.Client c) es)) was
given_after c [] was = refl
given_after c (Take q batch ∷ es) was = given_after c es was
given_after c (Give q sent ∷ es) was = given_after c es was
given_after c (Pick w job ∷ es) was = given_after c es was
given_after c (Post w sent ∷ es) was = given_after c es was
given_after c (Client d sent ∷ es) was = by (c == d) (λ now. given_after c es now)
  where
    by : (own : Bool) → ((now : List Sent) → unsent_after c now es ≡ drop (length (of (actor.Client c) es)) now)
        → unsent_after c (if own then drop 1 was else was) es ≡ drop (length (if own then Client d sent ∷ of (actor.Client c) es else of (actor.Client c) es)) was
    by true on = on (drop 1 was) ∙ drop_more (length (of (actor.Client c) es)) was
    by false on = on was

pub given : (h : Heads) (c : ℕ) (es : List Entry) → unsent h c es ≡ drop (length (of (actor.Client c) es)) (outside_of h c)
given h c es = given_after c es (outside_of h c)
