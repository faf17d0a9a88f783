-- What a run of a thread leaves around it follows on what it found.
use Rattle.std.proofs.Common.{◌≡◌, ℕ, zero, suc, ◌+◌, ◌≤◌, Bool, true, false, List, [], ◌∷◌, ◌++◌, Option, Some, None, length, refl, sym, subst, ap, ◌∙◌, arith, zero-add}
use Rattle.std.specs.Prelude.{ℤ, pos, int_le, ◌<ℤ◌, if◌then◌else◌, nat_lt, slice_set}
use Rattle.std.specs.List.{count_by}
use Rattle.std.proofs.lemmas.List.Sums.{sum_by-append}
use Rattle.std.proofs.lemmas.List.{append-nil, length-set}
use Rattle.std.proofs.lemmas.Grind.{common_steps}
use Rattle.loft_base.specs.declared.ids.EventId.{EventId}
use Rattle.loft_base.specs.declared.ids.ModuleId.{ModuleId}
use Rattle.loft_base.specs.declared.ids.ThreadId.{ThreadId}
use Rattle.loft_base.specs.declared.ids.Value.{Value}
use Rattle.loft_board.specs.Board.{values as event_values, generate}
use Rattle.loft_tree.specs.declared.heads.Heads.{Heads}
use Rattle.loft_tree.specs.Resolved.{Target, ToSlot, ToShared, Action, Assign, Make, PrintText, PrintValue, Generate, ControlThread, Broadcast, Pause, Cooperate, Await, Get, Join, Link, Unlink, Halt}
use Rattle.loft_orders.specs.declared.thread.Thread.{Thread}
use Rattle.loft_orders.specs.declared.thread.Wait.{Wait}
use Rattle.loft_orders.specs.declared.thread.Wait.TheVariants as wait
use Rattle.loft_orders.specs.declared.note.Act.{Act}
use Rattle.loft_orders.specs.declared.note.Act.TheVariants as act
use Rattle.loft_orders.specs.declared.order.At.{At}
use Rattle.loft_orders.specs.declared.order.End.{End}
use Rattle.loft_orders.specs.declared.order.End.TheVariants.{Over, Flood}
use Rattle.loft_sense.specs.declared.limits.TheConstants.{MAX_FRAMES}
use Rattle.loft_orders.specs.declared.order.Order.TheVariants as order
use Rattle.loft_sense.specs.Machine.{Prog, Tree, Code, heads}
use Rattle.loft_sense.specs.Around.{Around, Beside, with_act, entered}
use Rattle.loft_sense.specs.Eval.{eval, eval_all, eval_if, number_of, number_if, thread_or}
use Rattle.loft_sense.specs.CanGo.{has_any, is_index, is_known}
use Rattle.loft_sense.specs.Statements.{Effect, GoesOn, Waits, Leaves, Dies, Now, if_value, goes_on, most_entries, code_ok, one_made, is_up, hold, set_if, with_code, target_of, did, begun, answered}
use Rattle.loft_sense.specs.LawWords.{is_entry, Tells}
use Rattle.loft_sense.specs.WaitCodes.{IsPending}
use Rattle.loft_sense.specs.Run.{Next, Finish, Stuck, Acts, Advances, Tests, Counts, Holds, Runs, Control, Active, Outcome, Held, Left, Ended, ends, live, effect_on, test_on, count_on, run_on, begun_frame, stopped, step, step_on, no_step, going, go_on, go, here, beside, actives_of}
use Rattle.loft_sense.specs.Tree.{tree}
use Rattle.loft_sense.specs.Code.{code}
use Rattle.loft_sense.specs.Passes.{Runner, run_of, around_after, pass, passes}
use Rattle.loft_sense.specs.Moments.{Moment, IsKeptByRuns}
use Rattle.loft_sense.proofs.MomentLemmas.{kept_by_pass, kept_by_passes}
use Rattle.loft_sense.proofs.TellLemmas.{told_twice, told_nothing, IsQuiet, told_quiet}

-- what b is after some statements that found a
pub record Follows (a b : Around) : Type 0 where
  pub place : b.place ≡ a.place
  pub events : length b.board ≡ length a.board
  pub shared : length b.shared ≡ length a.shared
  pub few : a.entries ≤ most_entries a.place → b.entries ≤ most_entries b.place
  pub made : b.made + a.entries ≤ a.made + b.entries
  pub acts : count_by is_entry b.acts + a.entries ≡ count_by is_entry a.acts + b.entries
  pub tells : Tells a b

-- ---- one thing at a time

pub same : (a : Around) → Follows a a
same a = record { place = refl; events = refl; shared = refl; few = λ h. h; made = omega arith; acts = refl; tells = told_nothing a }

pub chained : (a b c : Around) → Follows a b → Follows b c → Follows a c
chained a b c p q = record {
  place = q.place ∙ p.place;
  events = q.events ∙ p.events;
  shared = q.shared ∙ p.shared;
  few = λ h. q.few (p.few h);
  made = let e = p.made in let f = q.made in omega (arith, e, f);
  acts = let e = p.acts in let f = q.acts in omega (arith, e, f);
  tells = told_twice a b c p.tells q.tells;
}

-- one more act
count_more : (acts : List Act) (one : Act) → count_by is_entry (acts ++ one ∷ []) ≡ count_by is_entry acts + (if is_entry one then 1 else 0)
count_more acts one = sum_by-append (λ (a : Act). if is_entry a then 1 else 0) acts (one ∷ []) ∙ ap (λ (n : ℕ). count_by is_entry acts + n) (zero-add _)

set_shared : (a : Around) (k : ℕ) (v : ℤ) → Follows a (record a { shared = slice_set a.shared k v })
set_shared a k v = record {
  place = refl;
  events = refl;
  shared = length-set a.shared k v;
  few = λ h. h;
  made = omega arith;
  acts = refl;
  tells = record { more = []; acts = sym (append-nil _); board = refl; known = sym (append-nil _) };
}

ended : (a : Around) (t : ThreadId) (end : End) → Follows a (with_act (act.End t end) (record a { known = a.known ++ t ∷ [] }))
ended a t end = record {
  place = refl;
  events = refl;
  shared = refl;
  few = λ h. h;
  made = omega arith;
  acts = let e = count_more a.acts (act.End t end) in omega (arith, e);
  tells = record { more = act.End t end ∷ []; acts = refl; board = refl; known = refl };
}

-- there is room for one more entry
abbrev HasRoom : Around → Type 0
HasRoom a = nat_lt a.entries (most_entries a.place) ≡ true

one_entry : (n most : ℕ) → nat_lt n most ≡ true → n + 1 ≤ most
one_entry n most room = grind (arith, common_steps)

few_more : (a : Around) → HasRoom a → a.entries + 1 ≤ most_entries a.place
few_more a room = one_entry a.entries (most_entries a.place) room

acts_more : (a : Around) (one : Act) → is_entry one ≡ true → count_by is_entry (a.acts ++ one ∷ []) + a.entries ≡ count_by is_entry a.acts + (a.entries + 1)
acts_more a one is =
    let acts = count_more a.acts one ∙ ap (λ (b : Bool). count_by is_entry a.acts + (if b then 1 else 0)) is in
    omega (arith, acts)

entry : (a : Around) (one : Act) → IsQuiet one → HasRoom a → Follows a (entered one a)
entry a one q room =
    let few = few_more a room in
    record { place = refl; events = refl; shared = refl; few = λ h. few; made = omega arith; acts = acts_more a one q.entry; tells = told_quiet a (entered one a) one q refl refl refl }

entry_made : (a : Around) (one : Act) → IsQuiet one → HasRoom a → Follows a (one_made (entered one a))
entry_made a one q room =
    let few = few_more a room in
    record { place = refl; events = refl; shared = refl; few = λ h. few; made = omega arith; acts = acts_more a one q.entry; tells = told_quiet a (one_made (entered one a)) one q refl refl refl }

entry_event : (a : Around) (t : ThreadId) (event : EventId) (v : Option ℤ) → HasRoom a → Follows a (entered (act.Gen t event v) (record a { board = generate event v a.board }))
entry_event a t event v room =
    let few = few_more a room in
    record {
      place = refl;
      events = length-set a.board event.0 _;
      shared = refl;
      few = λ h. few;
      made = omega arith;
      acts = acts_more a (act.Gen t event v) refl;
      tells = record { more = act.Gen t event v ∷ []; acts = refl; board = refl; known = sym (append-nil _) };
    }

-- ---- statements

abbrev IsNoOver : End → Type 0
IsNoOver end = (at : At) → end ≡ Over at → ⊥

-- what a statement does to what it found around it
abbrev EffectIs : Around → Effect → Type 0
EffectIs a (GoesOn now) = Follows a now.beside.around
EffectIs a (Waits w) = IsPending w
EffectIs a (Leaves to) = Unit {0}
EffectIs a (Dies end) = IsNoOver end

by_value : {A : Type 0} (a : Around) (v : Option A) (at : At) (act_on : A → Effect) → ((w : A) → EffectIs a (act_on w)) → EffectIs a (if_value v at act_on)
by_value a None at act_on h = λ p e. cc
by_value a (Some v) at act_on h = h v

by_room : (a : Around) (room : Bool) (effect : Effect) (at : At) → (room ≡ true → EffectIs a effect) → EffectIs a (if room then effect else Dies (Flood at))
by_room a true effect at h = h refl
by_room a false effect at h = λ p e. cc

by_hold : (a : Around) (is_there up : Bool) (there late waits : Effect) → EffectIs a there → EffectIs a late → (up ≡ false → EffectIs a waits) → EffectIs a (hold is_there up there late waits)
by_hold a true up there late waits p q r = p
by_hold a false true there late waits p q r = q
by_hold a false false there late waits p q r = r refl

set_follows : (h : Heads) (target : Option Target) (v : Value) (values : List Value) (b : Beside) → Follows b.around (set_if h target v values b).beside.around
set_follows h None v values b = same b.around
set_follows h (Some (ToSlot k)) v values b = same b.around
set_follows h (Some (ToShared x)) v values b = set_shared b.around _ _

did_is : (h : Heads) (action : Action) (at : At) (values : List Value) (b : Beside) → EffectIs b.around (did h action at values b)
did_is h (Assign target e) at values b = by_value b.around (eval h values b e) at _ (λ v. set_follows h (Some target) v values b)
did_is h (Make target s m arguments) at values b =
    by_value b.around (eval_all h values b arguments) at _ (λ args.
    by_room b.around (nat_lt b.around.entries (most_entries b.around.place)) _ at (λ room.
    chained b.around _ _ (entry_made b.around _ (record { entry = refl; no_event = refl; no_end = refl }) room) (set_follows h target _ values _)))
did_is h (PrintText line e) at values b =
    by_value b.around (eval_if h values b e) at _ (λ v.
    by_room b.around (nat_lt b.around.entries (most_entries b.around.place)) _ at (entry b.around _ (record { entry = refl; no_event = refl; no_end = refl })))
did_is h (PrintValue e) at values b =
    by_value b.around (eval h values b e) at _ (λ v.
    by_room b.around (nat_lt b.around.entries (most_entries b.around.place)) _ at (entry b.around _ (record { entry = refl; no_event = refl; no_end = refl })))
did_is h (Generate event e) at values b =
    by_value b.around (eval_if h values b e) at _ (λ v.
    by_room b.around (nat_lt b.around.entries (most_entries b.around.place)) _ at (entry_event b.around b.id event (number_if v)))
did_is h (ControlThread control e s) at values b =
    by_value b.around (eval h values b e) at _ (λ v.
    by_room b.around (nat_lt b.around.entries (most_entries b.around.place)) _ at (entry b.around _ (record { entry = refl; no_event = refl; no_end = refl })))
did_is h (Broadcast event e) at values b =
    by_value b.around (eval_if h values b e) at _ (λ v.
    by_room b.around (nat_lt b.around.entries (most_entries b.around.place)) _ at (entry b.around _ (record { entry = refl; no_event = refl; no_end = refl })))

above : (n : ℤ) → int_le n (pos 0) ≡ false → pos 0 <ℤ n
above n h = grind (arith, common_steps)

abbrev IsAbove : Option ℤ → Type 0
IsAbove None = Unit {0}
IsAbove (Some n) = pos 0 <ℤ n

-- a number that isn't up has an instant left
some_left : (left : Option ℤ) → is_up left ≡ false → (n : ℤ) → left ≡ Some n → pos 0 <ℤ n
some_left None h n e = absurd cc
some_left (Some k) h n e = subst (λ (o : Option ℤ). IsAbove o) e (above k h)

-- a wait for so many instants, where there are some
coop_pending : (n : ℤ) → is_up (Some n) ≡ false → IsPending (wait.Coop n)
coop_pending n h = record { unmarked = λ e. cc; instants = some_left (Some n) h }

begun_up : (values : List Value) (b : Beside) (n : ℤ) (up : Bool) → is_up (Some n) ≡ up → EffectIs b.around (if up then goes_on values b else Waits (wait.Coop n))
begun_up values b n true e = same b.around
begun_up values b n false e = coop_pending n e

begun_get : (values : List Value) (a : Around) (is_there : Bool) (now : Now) (event : EventId) (i : ℤ) → Follows a now.beside.around → EffectIs a (if is_there then GoesOn now else Waits (wait.Index event i))
begun_get values a true now event i p = p
begun_get values a false now event i p = record { unmarked = λ e. cc; instants = λ n e. absurd cc }

begun_is : (h : Heads) (pause : Pause) (at : At) (values : List Value) (b : Beside) → EffectIs b.around (begun h pause at values b)
begun_is h (Cooperate None) at values b = coop_pending (pos 1) refl
begun_is h (Cooperate (Some e)) at values b = by_value b.around (eval h values b e) at _ (λ v. begun_up values b (number_of v) _ refl)
begun_is h (Await events limit) at values b =
    by_value b.around (eval_if h values b limit) at _ (λ v.
    by_hold b.around (has_any events b.around.board) (is_up (number_if v)) _ _ _ (same b.around) (same b.around) (λ up. record { unmarked = λ e. cc; instants = some_left (number_if v) up }))
begun_is h (Get event index target) at values b =
    by_value b.around (eval h values b index) at _ (λ i.
    begun_get values b.around (is_index (number_of i) (length (event_values event b.around.board))) _ event (number_of i) (set_follows h (Some target) _ values (with_code code_ok b)))
begun_is h (Join thread limit) at values b =
    by_value b.around (eval h values b thread) at _ (λ t.
    by_value b.around (eval_if h values b limit) at _ (λ v.
    by_hold b.around (is_known (thread_or b.id t) b.around.known) (is_up (number_if v)) _ _ _ (same b.around) (same b.around) (λ up. record { unmarked = λ e. cc; instants = some_left (number_if v) up })))
begun_is h (Link s) at values b = tt
begun_is h Unlink at values b = tt
begun_is h Halt at values b = record { unmarked = λ e. cc; instants = λ n e. absurd cc }

answered_follows : (h : Heads) (pause : Option Pause) (w : Wait) (values : List Value) (b : Beside) → Follows b.around (answered h pause w values b).beside.around
answered_follows h pause wait.New values b = same b.around
answered_follows h pause (wait.Coop left) values b = same b.around
answered_follows h pause (wait.Events events left) values b = same b.around
answered_follows h pause (wait.Index event i) values b = set_follows h (target_of pause) _ values (with_code code_ok b)
answered_follows h pause wait.Next values b = same b.around
answered_follows h pause (wait.Join thread left) values b = same b.around
answered_follows h pause wait.Halt values b = same b.around

-- ---- runs

-- how a run of a thread ends that found this around it
abbrev pub OutcomeIs : Around → Outcome → Type 0
OutcomeIs a (Held t b left) = Follows a b × IsPending t.wait
OutcomeIs a (Left t to b left) = Follows a b × (t.wait ≡ wait.New)
OutcomeIs a (Ended end b left) = Follows a b × ((at : At) → end ≡ Over at → left ≡ 0)

later : (a b : Around) (o : Outcome) → Follows a b → OutcomeIs b o → OutcomeIs a o
later a b (Held t c left) p q = (chained a b c p q.0, q.1)
later a b (Left t to c left) p q = (chained a b c p q.0, q.1)
later a b (Ended end c left) p q = (chained a b c p q.0, q.1)

-- each way to go on
abbrev GoesSo : {A : Type 0} → (Beside → List (Active A) → Outcome) → Type 0
GoesSo on = (b : Beside) (rs : List (Active _)) → OutcomeIs b.around (on b rs)

ends_so : (end : End) (b : Beside) (left : ℕ) → IsNoOver end → OutcomeIs b.around (ends end b left)
ends_so end b left never = (ended b.around b.id _, λ at e. absurd (never at e))

effect_so : {A : Type 0} (c : Control A) (left : ℕ) (on : Beside → List (Active A) → Outcome) → GoesSo on → (effect : Effect) (p : A) (r : Active A) (rs : List (Active A)) (b : Beside) → EffectIs b.around effect → OutcomeIs b.around (effect_on c left on effect p r rs b)
effect_so c left on h (GoesOn now) p r rs b e = later b.around now.beside.around (on now.beside (record r { values = now.values; at = p } ∷ rs)) e (h _ _)
effect_so c left on h (Waits w) p r rs b e = (same b.around, e)
effect_so c left on h (Leaves to) p r rs b e = (same b.around, refl)
effect_so c left on h (Dies end) p r rs b e = ends_so end b left e

test_so : {A : Type 0} (left : ℕ) (on : Beside → List (Active A) → Outcome) → GoesSo on → (v : Option Value) (p q : A) (r : Active A) (rs : List (Active A)) (b : Beside) → OutcomeIs b.around (test_on left on v p q r rs b)
test_so left on h None p q r rs b = ends_so _ b left (λ at e. cc)
test_so left on h (Some v) p q r rs b = h b _

count_so : {A : Type 0} (left : ℕ) (on : Beside → List (Active A) → Outcome) → GoesSo on → (v : Option Value) (f : ℤ → A) (r : Active A) (rs : List (Active A)) (b : Beside) → OutcomeIs b.around (count_on left on v f r rs b)
count_so left on h None f r rs b = ends_so _ b left (λ at e. cc)
count_so left on h (Some v) f r rs b = h b (record r { at = f (number_of v) } ∷ rs)

run_chosen : (a : Around) (room : Bool) (v w : Outcome) → OutcomeIs a v → OutcomeIs a w → OutcomeIs a (if room then v else w)
run_chosen a true v w p q = p
run_chosen a false v w p q = q

run_so : {A : Type 0} (c : Control A) (left : ℕ) (on : Beside → List (Active A) → Outcome) → GoesSo on → (arguments : Option (List Value)) (m : ModuleId) (r : Active A) (rs : List (Active A)) (b : Beside) → OutcomeIs b.around (run_on c left on arguments m r rs b)
run_so c left on h None m r rs b = ends_so _ b left (λ at e. cc)
run_so c left on h (Some arguments) m r rs b =
    run_chosen b.around (nat_lt (length (r ∷ rs)) MAX_FRAMES) (on b (begun_frame c m arguments b ∷ r ∷ rs)) _ (h b (begun_frame c m arguments b ∷ r ∷ rs)) (ends_so _ b left (λ at e. cc))

step_so : {A : Type 0} (c : Control A) (left : ℕ) (on : Beside → List (Active A) → Outcome) → GoesSo on → (next : Next A) (r : Active A) (rs : List (Active A)) (b : Beside) → OutcomeIs b.around (step c left on next r rs b)
step_so c left on h Finish r rs b = h b rs
step_so c left on h Stuck r rs b = h b rs
step_so c left on h (Acts action p) r rs b = effect_so c left on h (did c.heads action (here r) r.values b) p r rs b (did_is c.heads action (here r) r.values b)
step_so c left on h (Advances p) r rs b = h b (record r { at = p } ∷ rs)
step_so c left on h (Tests test p q) r rs b = test_so left on h (eval c.heads r.values b test) p q r rs b
step_so c left on h (Counts count f) r rs b = count_so left on h (eval c.heads r.values b count) f r rs b
step_so c left on h (Holds k pause p) r rs b = effect_so c left on h (begun c.heads pause (here (stopped r k p)) r.values b) p (stopped r k p) rs b (begun_is c.heads pause (here (stopped r k p)) r.values b)
step_so c left on h (Runs k m arguments p) r rs b = run_so c left on h (eval_all c.heads r.values b arguments) m (stopped r k p) rs b

no_step_so : {A : Type 0} → GoesSo {A = A} no_step
no_step_so b [] = ends_so _ b 0 (λ at e. cc)
no_step_so b (r ∷ rs) = (ended b.around b.id _, λ at e. refl)

on_so : {A : Type 0} (c : Control A) (left : ℕ) (on : Beside → List (Active A) → Outcome) → GoesSo on → GoesSo (step_on c left on)
on_so c left on h b [] = ends_so _ b (suc left) (λ at e. cc)
on_so c left on h b (r ∷ rs) = step_so c left on h (c.next r.module r.at) r rs b

going_so : {A : Type 0} (c : Control A) (n : ℕ) → GoesSo (going c n)
going_so c zero b rs = no_step_so b (live c rs)
going_so c (suc left) b rs = on_so c left (going c left) (going_so c left) b (live c rs)

go_on_so : {A : Type 0} (c : Control A) (n : ℕ) (w : Wait) → GoesSo (go_on c n w)
go_on_so c zero w b rs = no_step_so b rs
go_on_so c (suc left) w b [] = going_so c left b []
go_on_so c (suc left) w b (r ∷ rs) =
    let now = answered c.heads (c.pause r.module r.stop) w r.values b in
    later b.around now.beside.around _ (answered_follows c.heads (c.pause r.module r.stop) w r.values b) (going_so c left now.beside (record r { values = now.values } ∷ rs))

-- a run of a thread of the program
pub run_is : (x : Prog) (t : Thread) (around : Around) (n : ℕ) → OutcomeIs around (run_of x t around n)
unfolding go
run_is (Tree p) t around n = go_on_so (tree p) n t.wait (beside t around) (actives_of (tree p) t)
run_is (Code c) t around n = go_on_so (code c) n t.wait (beside t around) (actives_of (code c) t)

outcome_follows : (a : Around) (o : Outcome) → OutcomeIs a o → Follows a (around_after o)
outcome_follows a (Held t b left) p = p.0
outcome_follows a (Left t to b left) p = p.0
outcome_follows a (Ended end b left) p = p.0

pub run_follows : (x : Prog) (t : Thread) (around : Around) (n : ℕ) → Follows around (around_after (run_of x t around n))
run_follows x t around n = outcome_follows around (run_of x t around n) (run_is x t around n)

-- ---- passes

-- it follows on what was there at first
abbrev FollowsOn : Around → Moment → Type 0
FollowsOn a m = Follows a m.around

follows_on : (x : Prog) (a : Around) → IsKeptByRuns x (FollowsOn a)
follows_on x a front r rest around ready p = chained a around _ p (run_follows x r.thread around r.left)

pub pass_follows : (x : Prog) (rs : List Runner) (around : Around) → Follows around (pass x rs around).around
pass_follows x rs around = kept_by_pass x (FollowsOn around) (follows_on x around) rs around (same around)

pub passes_follow : (x : Prog) (rs : List Runner) (around : Around) → Follows around (passes x rs around).around
passes_follow x rs around = kept_by_passes x (FollowsOn around) (follows_on x around) rs around (same around)
