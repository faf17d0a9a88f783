-- What a statement that fits does to values that fit, and to what stands beside them.
use Rattle.std.proofs.Common.{◌≡◌, inr, ℕ, Bool, true, false, List, [], ◌∷◌, ◌++◌, length, Option, Some, None, slice_get, refl, sym, ap, ◌∙◌, subst, arith}
use Rattle.std.specs.Prelude.{ℤ, pos, negsuc, ◌≤ℤ◌, if◌then◌else◌, nat_lt}
use Rattle.std.proofs.lemmas.List.{length-set}
use Rattle.std.proofs.lemmas.Int.{ints}
use Rattle.loft_base.specs.declared.ids.EventId.{EventId}
use Rattle.loft_base.specs.declared.ids.ModuleId.{ModuleId}
use Rattle.loft_base.specs.declared.ids.SchedId.{SchedId}
use Rattle.loft_base.specs.declared.ids.ThreadId.{ThreadId}
use Rattle.loft_base.specs.declared.ids.Value.{Value}
use Rattle.loft_base.specs.declared.ids.Value.TheVariants as value
use Rattle.loft_tree.specs.declared.kinds.Kind.{Kind}
use Rattle.loft_tree.specs.declared.kinds.Kind.TheVariants.{Int, Thread}
use Rattle.loft_tree.specs.declared.heads.Place.{Place}
use Rattle.loft_tree.specs.declared.heads.Place.TheVariants.{Sched, Unlinked}
use Rattle.loft_tree.specs.declared.heads.Signature.{Signature}
use Rattle.loft_tree.specs.declared.heads.Heads.{Heads}
use Rattle.loft_tree.specs.Fits.{Each, IfThere}
use Rattle.loft_tree.specs.HeadsFit.{kinds_of, TakesIn}
use Rattle.loft_tree.specs.NamedFits.{IsPlace, IsScheduler}
use Rattle.loft_tree.specs.Resolved.{Exp, Target, ToSlot, ToShared, Action, Assign, Make, PrintText, PrintValue, Generate, ControlThread, Broadcast, Pause, Cooperate, Await, Get, Join, Link, Unlink, Halt}
use Rattle.loft_board.specs.Board.{values as event_values, value_list}
use Rattle.loft_orders.specs.declared.thread.Wait.{Wait}
use Rattle.loft_orders.specs.declared.thread.Wait.TheVariants as wait
use Rattle.loft_orders.specs.declared.order.At.{At}
use Rattle.loft_orders.specs.declared.order.End.TheVariants.{Flood}
use Rattle.loft_orders.specs.declared.note.Act.{Act}
use Rattle.loft_orders.specs.declared.note.Act.TheVariants as act
use Rattle.loft_orders.specs.declared.order.Order.TheVariants as order
use Rattle.loft_orders.specs.declared.order.To.{To}
use Rattle.loft_tree.specs.declared.kinds.Control.{Control}
use Rattle.loft_tree.specs.declared.kinds.Control.TheVariants as control
use Rattle.loft_orders.specs.Text.{value_text}
use Rattle.loft_orders.specs.declared.order.To.TheVariants as to
use Rattle.loft_sense.specs.Heads.{home, rank}
use Rattle.loft_sense.specs.Around.{Around, Beside}
use Rattle.loft_sense.specs.Eval.{number_of, thread_or, eval, eval_all, eval_if, number_if}
use Rattle.loft_sense.specs.CanGo.{has_any, is_index, is_known}
use Rattle.loft_sense.specs.Statements.{Now, Effect, GoesOn, Waits, Leaves, Dies, goes_on, set, set_if, if_value, most_entries, if_room, maker_at, new_id, order_of, text_if, did, with_code, is_up, hold, gotten, begun, target_of, answered}
use Rattle.loft_sense.specs.Stands.{begin_of, begin_or_unlinked, place_after, LeftAgrees, PauseAgrees}
use Rattle.loft_sense.specs.Fits.{IsMaker, IsThread, IsValue, WaitNames, IsPoint, EndNames}
use Rattle.loft_soundness.specs.WorkFits.{TargetHasKind, ActionFits, PauseFits}
use Rattle.loft_soundness.specs.Points.{SentOrderFits, ActFits, ValueFits, ValuesFit, BesideFits}
use Rattle.loft_soundness.proofs.ListLemmas.{each_append}
use Rattle.loft_soundness.proofs.ValueLemmas.{values_agree, values_name, values_set, LimitFits, eval_fits, eval_all_fits, eval_if_fits}

-- ---- effects

-- The effect of a statement that is begun at place, and after which the thread is at after. Waits and Leaves say what its waits
-- and leaves are.
module _ (h : Heads) (slots : List Kind) (place : Place) (count : ℕ) (after : Place) (IsWait : Wait → Type 0) (IsLeave : To → Type 0) where
  abbrev pub EffectFits : Effect → Type 0
  EffectFits (GoesOn n) = ValuesFit h slots n.values × BesideFits h place count n.beside × (after ≡ place)
  EffectFits (Waits w) = IsWait w × WaitNames h w × (after ≡ place)
  EffectFits (Leaves t) = IsLeave t
  EffectFits (Dies end) = EndNames h end

  value_then : {A : Type 0} (P : A → Type 0) (o : Option A) (at : At) (f : A → Effect) → IsPoint h at → IfThere P o → ((v : A) → P v → EffectFits (f v)) → EffectFits (if_value o at f)
  value_then P None at f point there on = point
  value_then P (Some v) at f point there on = on v there

  room_then : (b : Beside) (at : At) (effect : Effect) → IsPoint h at → EffectFits effect → EffectFits (if_room b at effect)
  room_then b at effect point fit = by (nat_lt b.around.entries (most_entries b.around.place))
    where
      by : (room : Bool) → EffectFits (if room then effect else Dies (Flood at))
      by true = fit
      by false = point

  hold_then : (is_there up : Bool) (there late waits : Effect) → EffectFits there → EffectFits late → (up ≡ false → EffectFits waits) → EffectFits (hold is_there up there late waits)
  hold_then true up there late waits f g k = f
  hold_then false true there late waits f g k = g
  hold_then false false there late waits f g k = k refl

-- what stands around has changed in what nothing asks of it
beside_fits : (h : Heads) (place : Place) (count : ℕ) (a b : Beside) → BesideFits h place count a → b.id ≡ a.id → b.around.place ≡ a.around.place → b.around.shared ≡ a.around.shared → length b.around.board ≡ length a.around.board → Each (ActFits h) b.around.acts → BesideFits h place count b
beside_fits h place count a b fit id p s n acts = record {
  id = subst (IsThread h) (sym id) fit.id;
  around = record { acts = acts; declared = fit.around.declared; there = p ∙ fit.around.there; board = n ∙ fit.around.board };
  shared = ap (λ (l : List ℤ). length l) s ∙ fit.shared;
}

abbrev pub NowFits : Heads → List Kind → Place → ℕ → Now → Type 0
NowFits h slots place count n = ValuesFit h slots n.values × BesideFits h place count n.beside

module _ (h : Heads) (slots : List Kind) (place : Place) (count : ℕ) where
  set_fits : (kind : Kind) (t : Target) (v : Value) (values : List Value) (b : Beside) → TargetHasKind h slots place kind t → ValueFits h kind v → ValuesFit h slots values → BesideFits h place count b
      → NowFits h slots place count (set h t v values b)
  set_fits kind (ToSlot k) v values b has new fit beside = (values_set h slots values k kind v fit has new, beside)
  set_fits kind (ToShared x) v values b has new fit beside = (
    fit,
    record {
      id = beside.id;
      around = record { acts = beside.around.acts; declared = beside.around.declared; there = beside.around.there; board = beside.around.board };
      shared = length-set b.around.shared (rank h x) (number_of v) ∙ beside.shared;
    },
  )

  set_if_fits : (kind : Kind) (t : Option Target) (v : Value) (values : List Value) (b : Beside) → IfThere (TargetHasKind h slots place kind) t → ValueFits h kind v → ValuesFit h slots values → BesideFits h place count b
      → NowFits h slots place count (set_if h t v values b)
  set_if_fits kind None v values b has new fit beside = (fit, beside)
  set_if_fits kind (Some t) v values b has new fit beside = set_fits kind t v values b has new fit beside

maker_is : (h : Heads) (p : Place) → IsPlace h p → IsMaker h (maker_at p)
maker_is h (Sched s) is = is
maker_is h Unlinked is = tt

thread_is : (h : Heads) (t : ThreadId) (v : Value) → IsThread h t → IsValue h v → IsThread h (thread_or t v)
thread_is h t (value.Int n) is fit = is
thread_is h t (value.Thread u) is fit = fit

control_fits : (h : Heads) (s : SchedId) (control : Control) (t : ThreadId) → IsThread h t → SentOrderFits h s (order_of control t)
control_fits h s control.Stop t is = is
control_fits h s control.Suspend t is = is
control_fits h s control.Resume t is = is

module _ (h : Heads) (slots : List Kind) (place : Place) (count : ℕ) (at : At) (values : List Value) (b : Beside) (point : IsPoint h at) (fit : ValuesFit h slots values) (beside : BesideFits h place count b) where
  abbrev DidFit : Effect → Type 0
  DidFit e = EffectFits h slots place count place (λ w. ⊥) (λ t. ⊥) e

  goes_then : (n : Now) → NowFits h slots place count n → DidFit (GoesOn n)
  goes_then n f = (f.0, f.1, refl)

  entry_then : (d : Beside) → BesideFits h place count d → DidFit (if_room b at (goes_on values d))
  entry_then d f = room_then h slots place count place (λ w. ⊥) (λ t. ⊥) b at (goes_on values d) point (fit, f, refl)

  with_value : {A : Type 0} (P : A → Type 0) (o : Option A) (f : A → Effect) → IfThere P o → ((v : A) → P v → DidFit (f v)) → DidFit (if_value o at f)
  with_value P o f there on = value_then h slots place count place (λ w. ⊥) (λ t. ⊥) P o at f point there on

  new_is : IsThread h (new_id b.around)
  new_is = maker_is h b.around.place (subst (IsPlace h) (sym beside.around.there) beside.around.declared)

  -- one more act, and nothing else is changed that is asked of it
  one_act : (a : Act) → ActFits h a → Each (ActFits h) (b.around.acts ++ a ∷ [])
  one_act a f = each_append (ActFits h) b.around.acts (a ∷ []) beside.around.acts (f, tt)

  same : (d : Beside) (a : Act) → ActFits h a → d.id ≡ b.id → d.around.place ≡ b.around.place → d.around.shared ≡ b.around.shared → length d.around.board ≡ length b.around.board → d.around.acts ≡ b.around.acts ++ a ∷ [] → BesideFits h place count d
  same d a f id p s n e = beside_fits h place count b d beside id p s n (subst (Each (ActFits h)) (sym e) (one_act a f))

  create_fits : (s : SchedId) (m : ModuleId) (head : Signature) (vs : List Value) → IsScheduler h s → begin_of h m ≡ Sched s → slice_get h.modules m.0 ≡ Some head → ValuesFit h (kinds_of head.parameters) vs
      → SentOrderFits h s (order.Create (new_id b.around) m vs)
  create_fits s m head vs declared begins at is =
      let takes : TakesIn s (Some head) vs = (sym (ap begin_or_unlinked at) ∙ begins, values_agree h (kinds_of head.parameters) vs is) in
      (new_is, (declared, subst (λ o. TakesIn s o vs) (sym at) takes), values_name h (kinds_of head.parameters) vs is)

  any_there : {A : Type 0} (o : Option A) → IfThere (λ v. Unit {0}) o
  any_there None = tt
  any_there (Some v) = tt

  -- whatever the value is, where there is one
  any_value : {A : Type 0} (o : Option A) (f : A → Effect) → ((v : A) → DidFit (f v)) → DidFit (if_value o at f)
  any_value o f on = with_value (λ v. Unit {0}) o f (any_there o) (λ v is. on v)

  pub did_fits : (action : Action) → ActionFits h slots place action → DidFit (did h action at values b)
  did_fits (Assign t e) f =
      with_value (ValueFits h f.0) (eval h values b e) (λ v. GoesOn (set h t v values b)) (eval_fits h slots place values b fit beside.id e f.0 f.2)
      (λ v is. goes_then (set h t v values b) (set_fits h slots place count f.0 t v values b f.1 is fit beside))
  did_fits (Make t s m arguments) f =
      with_value (ValuesFit h (kinds_of f.4.0.parameters)) (eval_all h values b arguments) _ (eval_all_fits h slots place values b fit beside.id (kinds_of f.4.0.parameters) arguments f.4.2)
      (λ vs is. room_then h slots place count place (λ w. ⊥) (λ t. ⊥) b at _ point
      (goes_then (set_if h t (value.Thread (new_id b.around)) values _) (set_if_fits h slots place count Thread t (value.Thread (new_id b.around)) values _ f.1 (refl, new_is) fit
      (same _ (act.Out b.id (record { to = to.Sched s; order = order.Create (new_id b.around) m vs })) (create_fits s m f.4.0 vs f.2 f.3 f.4.1 is) refl refl refl refl refl))))
  did_fits (PrintText line e) f = any_value (eval_if h values b e) _ (λ v. entry_then _ (same _ (act.Print b.id (line ++ text_if h v)) tt refl refl refl refl refl))
  did_fits (PrintValue e) f = any_value (eval h values b e) _ (λ v. entry_then _ (same _ (act.Print b.id (value_text h v)) tt refl refl refl refl refl))
  did_fits (Generate event e) f =
      any_value (eval_if h values b e) _
      (λ v. entry_then _ (same _ (act.Gen b.id event (number_if v)) tt refl refl refl (length-set b.around.board event.0 (Some (event_values event b.around.board ++ value_list (number_if v)))) refl))
  did_fits (ControlThread control e s) f =
      with_value (ValueFits h Thread) (eval h values b e) _ (eval_fits h slots place values b fit beside.id e Thread f.0)
      (λ v is. entry_then _ (same _ (act.Out b.id (record { to = to.Sched s; order = order_of control (thread_or b.id v) }))
      (control_fits h s control (thread_or b.id v) (thread_is h b.id v beside.id is.1)) refl refl refl refl refl))
  did_fits (Broadcast event e) f =
      any_value (eval_if h values b e) _
      (λ v. entry_then _ (same _ (act.Out b.id (record { to = to.Sched (home h event); order = order.Broadcast event (number_if v) })) (record { declared = f.0; there = refl }) refl refl refl refl refl))

-- ---- stops

-- where a thread that leaves is after its stop
abbrev pub LeadsTo : To → Place → Type 0
LeadsTo (to.Sched s) q = q ≡ Sched s
LeadsTo (to.Others s) q = ⊥
LeadsTo to.All q = ⊥
LeadsTo to.Workers q = q ≡ Unlinked

not_up : (n : ℤ) → is_up (Some n) ≡ false → pos 0 ≤ℤ n
not_up (pos n) e = omega (arith, ints)
not_up (negsuc n) e = absurd cc

left_agrees : (h : Heads) (limit : Option Exp) (v : Option Value) → LimitFits h limit v → is_up (number_if v) ≡ false → LeftAgrees limit (number_if v)
left_agrees h None None fit up = tt
left_agrees h None (Some v) fit up = absurd fit
left_agrees h (Some e) None fit up = absurd fit
left_agrees h (Some e) (Some v) fit up = not_up (number_of v) up

-- a wait that the stop gives
abbrev pub IsWaitOf : Pause → Wait → Type 0
IsWaitOf pause w = PauseAgrees pause w

-- it leaves for where it is after the stop
abbrev pub IsLeaveOf : Pause → Place → To → Type 0
IsLeaveOf pause place t = LeadsTo t (place_after pause place) × PauseAgrees pause wait.New

module _ (h : Heads) (slots : List Kind) (place : Place) (count : ℕ) (values : List Value) (b : Beside) (fit : ValuesFit h slots values) (beside : BesideFits h place count b) where
  -- only the code and the mask are others
  ended : (d : Beside) → d.id ≡ b.id → d.around ≡ b.around → BesideFits h place count d
  ended d i e = beside_fits h place count b d beside i (ap (λ (a : Around). a.place) e) (ap (λ (a : Around). a.shared) e) (ap (λ (a : Around). length a.board) e) (subst (λ (a : Around). Each (ActFits h) a.acts) (sym e) beside.around.acts)

  gotten_fits : (t : Option Target) (event : EventId) (i : ℤ) → IfThere (TargetHasKind h slots place Int) t → NowFits h slots place count (gotten h t event i values b)
  gotten_fits t event i has = set_if_fits h slots place count Int t _ values (with_code _ b) has (refl, tt) fit (ended (with_code _ b) refl refl)

  -- a wait that ends
  pub answered_fits : (pause : Option Pause) (w : Wait) → IfThere (TargetHasKind h slots place Int) (target_of pause) → NowFits h slots place count (answered h pause w values b)
  answered_fits pause wait.New has = (fit, beside)
  answered_fits pause (wait.Coop left) has = (fit, beside)
  answered_fits pause (wait.Events events left) has = (fit, ended _ refl refl)
  answered_fits pause (wait.Index event i) has = gotten_fits (target_of pause) event i has
  answered_fits pause wait.Next has = (fit, ended _ refl refl)
  answered_fits pause (wait.Join t left) has = (fit, ended _ refl refl)
  answered_fits pause wait.Halt has = (fit, beside)

module _ (h : Heads) (slots : List Kind) (place : Place) (count : ℕ) (at : At) (values : List Value) (b : Beside) (point : IsPoint h at) (fit : ValuesFit h slots values) (beside : BesideFits h place count b) where
  abbrev pub BegunFit : Pause → Effect → Type 0
  BegunFit pause e = EffectFits h slots place count (place_after pause place) (IsWaitOf pause) (IsLeaveOf pause place) e

  with_begun : {A : Type 0} (pause : Pause) (P : A → Type 0) (o : Option A) (f : A → Effect) → IfThere P o → ((v : A) → P v → BegunFit pause (f v)) → BegunFit pause (if_value o at f)
  with_begun pause P o f there on = value_then h slots place count (place_after pause place) (IsWaitOf pause) (IsLeaveOf pause place) P o at f point there on

  hold_begun : (pause : Pause) (is_there up : Bool) (there late waits : Effect) → BegunFit pause there → BegunFit pause late → (up ≡ false → BegunFit pause waits) → BegunFit pause (hold is_there up there late waits)
  hold_begun pause is_there up there late waits f g k =
      hold_then h slots place count (place_after pause place) (IsWaitOf pause) (IsLeaveOf pause place) is_there up there late waits f g k

  cooperates : (instants : Option Exp) (n : ℤ) (up : Bool) → is_up (Some n) ≡ up → BegunFit (Cooperate instants) (if up then goes_on values b else Waits (wait.Coop n))
  cooperates instants n true e = (fit, beside, refl)
  cooperates instants n false e = ((n, refl, not_up n e), tt, refl)

  gets : (event : EventId) (index : Exp) (t : Target) (i : ℤ) (is_there : Bool) → TargetHasKind h slots place Int t
      → BegunFit (Get event index t) (if is_there then GoesOn (gotten h (Some t) event i values b) else Waits (wait.Index event i))
  gets event index t i true has = let g = gotten_fits h slots place count values b fit beside (Some t) event i has in (g.0, g.1, refl)
  gets event index t i false has = (inr (i, refl), tt, refl)

  pub begun_fits : (pause : Pause) → PauseFits h slots place pause → BegunFit pause (begun h pause at values b)
  begun_fits (Cooperate None) f = ((pos 1, refl, not_up (pos 1) refl), tt, refl)
  begun_fits (Cooperate (Some e)) f =
      with_begun (Cooperate (Some e)) (ValueFits h Int) (eval h values b e) _ (eval_fits h slots place values b fit beside.id e Int f.1)
      (λ v is. cooperates (Some e) (number_of v) (is_up (Some (number_of v))) refl)
  begun_fits (Await events limit) f =
      with_begun (Await events limit) (LimitFits h limit) (eval_if h values b limit) _ (eval_if_fits h slots place values b fit beside.id limit f.1)
      (λ v is. hold_begun (Await events limit) (has_any events b.around.board) (is_up (number_if v)) _ _ (Waits (wait.Events events (number_if v)))
      (fit, ended h slots place count values b fit beside _ refl refl, refl) (fit, ended h slots place count values b fit beside _ refl refl, refl) (λ up. ((number_if v, refl, left_agrees h limit v is up), tt, refl)))
  begun_fits (Get event index t) f =
      with_begun (Get event index t) (ValueFits h Int) (eval h values b index) _ (eval_fits h slots place values b fit beside.id index Int f.1)
      (λ i is. gets event index t (number_of i) (is_index (number_of i) (length (event_values event b.around.board))) f.2)
  begun_fits (Join thread limit) f =
      with_begun (Join thread limit) (ValueFits h Thread) (eval h values b thread) _ (eval_fits h slots place values b fit beside.id thread Thread f.1)
      (λ t is. with_begun (Join thread limit) (LimitFits h limit) (eval_if h values b limit) _ (eval_if_fits h slots place values b fit beside.id limit f.2)
      (λ v lim. hold_begun (Join thread limit) (is_known (thread_or b.id t) b.around.known) (is_up (number_if v)) _ _ (Waits (wait.Join (thread_or b.id t) (number_if v)))
      (fit, ended h slots place count values b fit beside _ refl refl, refl) (fit, ended h slots place count values b fit beside _ refl refl, refl)
      (λ up. ((thread_or b.id t, number_if v, refl, left_agrees h limit v lim up), thread_is h b.id t beside.id is.1, refl))))
  begun_fits (Link s) f = (refl, refl)
  begun_fits Unlink f = (refl, refl)
  begun_fits Halt f = (refl, tt, refl)
