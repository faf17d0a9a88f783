-- Each thread that was sent to the workers is in one pick, or waits.
use Rattle.std.proofs.Common.{◌≡◌, ◌⊎◌, inl, inr, ℕ, List, [], ◌∷◌, ◌++◌, refl, sym, ap, ◌∙◌, subst, append_assoc, append-nil}
use Rattle.std.specs.Prelude.{drop}
use Rattle.std.proofs.lemmas.Grind.{flat_map-append}
use Rattle.std.proofs.lemmas.List.Sums.{fold_push}
use Rattle.loft_tree.specs.declared.heads.Heads.{Heads}
use Rattle.loft_orders.specs.declared.entry.Entry.{Entry}
use Rattle.loft_orders.specs.declared.entry.Entry.TheVariants.{Take, Give, Pick, Post, Client}
use Rattle.loft_orders.specs.declared.order.Order.{Order}
use Rattle.loft_orders.specs.declared.order.Order.TheVariants as order
use Rattle.loft_orders.specs.declared.order.Sent.{Sent}
use Rattle.loft_orders.specs.declared.order.To.{To}
use Rattle.loft_orders.specs.declared.order.To.TheVariants as to
use Rattle.loft_orders.specs.declared.thread.Thread.{Thread}
use Rattle.loft_history.specs.History.{sends, sent_in, job_before, jobs_sent, jobs_step, jobs}
use Rattle.loft_history.specs.Legal.{IsFirst, TakesDue, IsRouted}
use Rattle.loft_history_laws.specs.Batches.{picks, picked_in, InPicks, InPick, StillWaits, InFirstPick}
use Rattle.loft_history_laws.proofs.WalkLemmas.{walk, sent_more}

job_before-append : (to : To) (order : Order) (xs ys : List Thread) → job_before to order (xs ++ ys) ≡ job_before to order xs ++ ys
job_before-append (to.Sched s) order xs ys = refl
job_before-append (to.Others s) order xs ys = refl
job_before-append to.All order xs ys = refl
job_before-append to.Workers (order.Create t m arguments) xs ys = refl
job_before-append to.Workers (order.Arrive t) xs ys = refl
job_before-append to.Workers (order.Stop t) xs ys = refl
job_before-append to.Workers (order.Suspend t) xs ys = refl
job_before-append to.Workers (order.Resume t) xs ys = refl
job_before-append to.Workers (order.Broadcast e v) xs ys = refl
job_before-append to.Workers (order.Ended t end) xs ys = refl

jobs_sent-append : (xs ys : List Sent) → jobs_sent (xs ++ ys) ≡ jobs_sent xs ++ jobs_sent ys
jobs_sent-append [] ys = refl
jobs_sent-append (m ∷ xs) ys = ap (job_before m.to m.order) (jobs_sent-append xs ys) ∙ job_before-append m.to m.order (jobs_sent xs) (jobs_sent ys)

-- ---- all picks

first_of : (t : Thread) (ts : List Thread) → IsFirst t ts → ts ≡ t ∷ drop 1 ts
first_of t [] first = absurd first
first_of t (u ∷ us) first = ap (λ (v : Thread). v ∷ us) (sym first)

-- a pick moves the first from those that wait to those that were picked
moved : (ps ts all : List Thread) (job : Thread) → IsFirst job ts → ps ++ ts ≡ all → (ps ++ job ∷ []) ++ drop 1 ts ≡ all
moved ps ts all job first e = append_assoc ps (job ∷ []) (drop 1 ts) ∙ ap (λ (l : List Thread). ps ++ l) (sym (first_of job ts first)) ∙ e

-- nothing is sent
still : (ps ts : List Thread) (ms : List Sent) → ps ++ ts ≡ jobs_sent ms → (ps ++ []) ++ ts ≡ jobs_sent (ms ++ [])
still ps ts ms e = ap (λ (l : List Thread). l ++ ts) (append-nil ps) ∙ e ∙ ap jobs_sent (sym (append-nil ms))

sending : (ps ts : List Thread) (ms new : List Sent) → ps ++ ts ≡ jobs_sent ms → (ps ++ []) ++ (ts ++ jobs_sent new) ≡ jobs_sent (ms ++ new)
sending ps ts ms new e =
    ap (λ (l : List Thread). l ++ (ts ++ jobs_sent new)) (append-nil ps) ∙ sym (append_assoc ps ts (jobs_sent new))
    ∙ ap (λ (l : List Thread). l ++ jobs_sent new) e ∙ sym (jobs_sent-append ms new)

one_step : (h : Heads) (es : List Entry) (e : Entry) (ps : List Thread) (ms : List Sent) → TakesDue h es e → ps ++ jobs es ≡ jobs_sent ms → (ps ++ picks e) ++ jobs_step (jobs es) e ≡ jobs_sent (ms ++ sends e)
one_step h es (Take q batch) ps ms is e = still ps (jobs es) ms e
one_step h es (Give q sent) ps ms is e = sending ps (jobs es) ms sent e
one_step h es (Pick w job) ps ms is e = moved ps (jobs es) (jobs_sent (ms ++ [])) job is (e ∙ ap jobs_sent (sym (append-nil ms)))
one_step h es (Post w sent) ps ms is e = sending ps (jobs es) ms (sent ∷ []) e
one_step h es (Client c sent) ps ms is e = sending ps (jobs es) ms (sent ∷ []) e

picked_more : (es : List Entry) (e : Entry) → picked_in (es ++ e ∷ []) ≡ picked_in es ++ picks e
picked_more es e = flat_map-append picks es (e ∷ []) ∙ ap (λ (l : List Thread). picked_in es ++ l) (append-nil (picks e))

-- the threads that were picked and those that wait are all that were sent to the workers, in order
pub in_picks : (h : Heads) (es : List Entry) → IsRouted h es → InPicks es
in_picks h es routed =
    walk InPicks (TakesDue h) refl
    (λ before e so_far is.
    ap (λ (l : List Thread). l ++ jobs (before ++ e ∷ [])) (picked_more before e)
    ∙ ap (λ (l : List Thread). (picked_in before ++ picks e) ++ l) (fold_push jobs_step [] before e)
    ∙ one_step h before e (picked_in before) (sent_in before) is so_far
    ∙ ap jobs_sent (sym (sent_more before e)))
    es routed

-- ---- the pick of one thread

-- what stands after these entries takes the thread, or leaves it
abbrev Fate : List Entry → List Thread → Thread → List Entry → Type 0
Fate past ahead t after = InPick ahead t after ⊎ StillWaits (past ++ after) ahead t after

-- an entry that picks nobody comes before what stands after it
later : (past : List Entry) (e : Entry) (after : List Entry) (ahead : List Thread) (t : Thread) → ((l : List Entry) → picked_in (e ∷ l) ≡ picked_in l) → Fate (past ++ e ∷ []) ahead t after → Fate past ahead t (e ∷ after)
later past e after ahead t none (inl in_pick) = inl (record {
  until = e ∷ in_pick.until;
  worker = in_pick.worker;
  rest = in_pick.rest;
  splits = ap (λ (l : List Entry). e ∷ l) in_pick.splits;
  first = none in_pick.until ∙ in_pick.first;
})
later past e after ahead t none (inr waits) = inr (record {
  front = waits.front;
  back = waits.back;
  picked = ap (λ (l : List Thread). l ++ waits.front) (none after) ∙ waits.picked;
  is = ap jobs (sym (append_assoc past (e ∷ []) after)) ∙ waits.is;
})

-- one that picks the first of those ahead of it
one_less : (past : List Entry) (w : ℕ) (job : Thread) (after : List Entry) (u : Thread) (ahead : List Thread) (t : Thread) → job ≡ u → Fate (past ++ Pick w job ∷ []) ahead t after
    → Fate past (u ∷ ahead) t (Pick w job ∷ after)
one_less past w job after u ahead t same (inl in_pick) = inl (record {
  until = Pick w job ∷ in_pick.until;
  worker = in_pick.worker;
  rest = in_pick.rest;
  splits = ap (λ (l : List Entry). Pick w job ∷ l) in_pick.splits;
  first = ap (λ (l : List Thread). job ∷ l) in_pick.first ∙ ap (λ (v : Thread). v ∷ ahead) same;
})
one_less past w job after u ahead t same (inr waits) = inr (record {
  front = waits.front;
  back = waits.back;
  picked = ap (λ (l : List Thread). job ∷ l) waits.picked ∙ ap (λ (v : Thread). v ∷ ahead) same;
  is = ap jobs (sym (append_assoc past (Pick w job ∷ []) after)) ∙ waits.is;
})

-- each entry from here on takes what is due
abbrev RoutedOn : Heads → List Entry → List Entry → Type 0
RoutedOn h past after = (b : List Entry) (f : Entry) (r : List Entry) → past ++ after ≡ b ++ f ∷ r → TakesDue h b f

on : (h : Heads) (past : List Entry) (e : Entry) (after : List Entry) → RoutedOn h past (e ∷ after) → RoutedOn h (past ++ e ∷ []) after
on h past e after routed b f r same = routed b f r (sym (append_assoc past (e ∷ []) after) ∙ same)

more_jobs : (past : List Entry) (e : Entry) (ahead : List Thread) (t : Thread) (back new : List Thread) → jobs past ≡ ahead ++ t ∷ back → jobs_step (jobs past) e ≡ jobs past ++ new
    → jobs (past ++ e ∷ []) ≡ ahead ++ t ∷ (back ++ new)
more_jobs past e ahead t back new there adds = fold_push jobs_step [] past e ∙ (adds ∙ (ap (λ (l : List Thread). l ++ new) there ∙ append_assoc ahead (t ∷ back) new))

fate : (h : Heads) (past after : List Entry) (ahead : List Thread) (t : Thread) (back : List Thread) → RoutedOn h past after → jobs past ≡ ahead ++ t ∷ back → Fate past ahead t after
fate h past [] ahead t back routed there = inr (record { front = ahead; back = back; picked = refl; is = ap jobs (append-nil past) ∙ there })
fate h past (Take q batch ∷ after) ahead t back routed there =
    let e : Entry = Take q batch in
    later past e after ahead t (λ l. refl) (fate h (past ++ e ∷ []) after ahead t back (on h past e after routed) (fold_push jobs_step [] past e ∙ there))
fate h past (Give q sent ∷ after) ahead t back routed there =
    let e : Entry = Give q sent in
    later past e after ahead t (λ l. refl) (fate h (past ++ e ∷ []) after ahead t (back ++ jobs_sent sent) (on h past e after routed) (more_jobs past e ahead t back (jobs_sent sent) there refl))
fate h past (Pick w job ∷ after) ahead t back routed there =
    by ahead (subst (IsFirst job) there (routed past (Pick w job) after refl)) there
    (λ rest shorter. fate h (past ++ Pick w job ∷ []) after rest t back (on h past (Pick w job) after routed) (fold_push jobs_step [] past (Pick w job) ∙ shorter))
  where
    by : (ahead : List Thread) → IsFirst job (ahead ++ t ∷ back) → jobs past ≡ ahead ++ t ∷ back
        → ((rest : List Thread) → drop 1 (jobs past) ≡ rest ++ t ∷ back → Fate (past ++ Pick w job ∷ []) rest t after) → Fate past ahead t (Pick w job ∷ after)
    by [] first there go = inl (record { until = []; worker = w; rest = after; splits = ap (λ (u : Thread). Pick w u ∷ after) first; first = refl })
    by (u ∷ rest) first there go = one_less past w job after u rest t first (go rest (ap (λ (l : List Thread). drop 1 l) there))
fate h past (Post w sent ∷ after) ahead t back routed there =
    let e : Entry = Post w sent in
    later past e after ahead t (λ l. refl) (fate h (past ++ e ∷ []) after ahead t (back ++ jobs_sent (sent ∷ [])) (on h past e after routed) (more_jobs past e ahead t back (jobs_sent (sent ∷ [])) there refl))
fate h past (Client c sent ∷ after) ahead t back routed there =
    let e : Entry = Client c sent in
    later past e after ahead t (λ l. refl) (fate h (past ++ e ∷ []) after ahead t (back ++ jobs_sent (sent ∷ [])) (on h past e after routed) (more_jobs past e ahead t back (jobs_sent (sent ∷ [])) there refl))

none_inside : {Q : Type 0} (earlier : List Thread) (t : Thread) (back : List Thread) → [] ≡ earlier ++ t ∷ back → Q
none_inside [] t back q = absurd cc
none_inside (u ∷ earlier) t back q = absurd cc

-- an entry that sends threads to the workers puts them after those that wait
sends_jobs : (waits : List Thread) (e : Entry) (earlier : List Thread) (t : Thread) (back : List Thread) → jobs_sent (sends e) ≡ earlier ++ t ∷ back → jobs_step waits e ≡ (waits ++ earlier) ++ t ∷ back
sends_jobs waits (Take q batch) earlier t back is = none_inside earlier t back is
sends_jobs waits (Give q sent) earlier t back is = ap (λ (l : List Thread). waits ++ l) is ∙ sym (append_assoc waits earlier (t ∷ back))
sends_jobs waits (Pick w job) earlier t back is = none_inside earlier t back is
sends_jobs waits (Post w sent) earlier t back is = ap (λ (l : List Thread). waits ++ l) is ∙ sym (append_assoc waits earlier (t ∷ back))
sends_jobs waits (Client c sent) earlier t back is = ap (λ (l : List Thread). waits ++ l) is ∙ sym (append_assoc waits earlier (t ∷ back))

pub in_first_pick : (h : Heads) (es : List Entry) → IsRouted h es → InFirstPick es
in_first_pick h es routed before e after earlier t back same is =
    by (fate h (before ++ e ∷ []) after (jobs before ++ earlier) t back
    (λ b f r eq. routed b f r (same ∙ (sym (append_assoc before (e ∷ []) after) ∙ eq)))
    (fold_push jobs_step [] before e ∙ sends_jobs (jobs before) e earlier t back is))
  where
    by : Fate (before ++ e ∷ []) (jobs before ++ earlier) t after → InPick (jobs before ++ earlier) t after ⊎ StillWaits es (jobs before ++ earlier) t after
    by (inl in_pick) = inl in_pick
    by (inr waits) = inr (record {
      front = waits.front;
      back = waits.back;
      picked = waits.picked;
      is = ap jobs (same ∙ sym (append_assoc before (e ∷ []) after)) ∙ waits.is;
    })
