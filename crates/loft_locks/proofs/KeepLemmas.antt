-- What a statement outside the modules of a lock leaves of the lock's variable, and what it sends.
use Rattle.std.proofs.Common.{◌≡◌, ℕ, ◌+◌, Bool, true, false, List, [], ◌∷◌, ◌++◌, reverse, length, Option, Some, None, refl, sym, ap, ◌∙◌, subst}
use Rattle.std.specs.Prelude.{ℤ, pos, if◌then◌else◌, nat_lt}
use Rattle.loft_base.specs.declared.ids.EventId.{EventId}
use Rattle.loft_base.specs.declared.ids.Value.{Value}
use Rattle.loft_tree.specs.declared.kinds.Kind.{Kind}
use Rattle.loft_tree.specs.declared.kinds.Kind.TheVariants.{Int, Thread}
use Rattle.loft_tree.specs.declared.kinds.Control.{Control}
use Rattle.loft_tree.specs.declared.kinds.Control.TheVariants as control
use Rattle.loft_base.specs.declared.ids.ThreadId.{ThreadId}
use Rattle.loft_tree.specs.declared.heads.Place.{Place}
use Rattle.loft_tree.specs.declared.heads.Place.TheVariants.{Sched}
use Rattle.loft_tree.specs.Fits.{Each, IfThere}
use Rattle.loft_tree.specs.Resolved.{Target, ToSlot, ToShared, Action, Assign, Make, PrintText, PrintValue, Generate, ControlThread, Broadcast, Pause, Cooperate, Await, Get, Join, Link, Unlink, Halt, Resolved}
use Rattle.loft_board.specs.Board.{values as event_values}
use Rattle.loft_orders.specs.declared.thread.Frame.{Frame}
use Rattle.loft_orders.specs.declared.thread.Thread.{Thread as ThreadAt}
use Rattle.loft_orders.specs.declared.thread.Wait.{Wait}
use Rattle.loft_orders.specs.declared.thread.Wait.TheVariants as wait
use Rattle.loft_orders.specs.declared.order.At.{At}
use Rattle.loft_orders.specs.declared.order.End.TheVariants.{Flood}
use Rattle.loft_orders.specs.declared.order.Order.{Order}
use Rattle.loft_orders.specs.declared.order.Order.TheVariants as order
use Rattle.loft_orders.specs.declared.order.To.TheVariants as to
use Rattle.loft_orders.specs.declared.note.Act.{Act}
use Rattle.loft_orders.specs.declared.note.Act.TheVariants as act
use Rattle.loft_sense.specs.Heads.{home, rank}
use Rattle.loft_sense.specs.Around.{Around, Beside}
use Rattle.loft_sense.specs.Eval.{number_of, thread_or, eval, eval_all, eval_if, number_if}
use Rattle.loft_sense.specs.CanGo.{has_any, is_index, is_known}
use Rattle.loft_orders.specs.Text.{value_text}
use Rattle.loft_sense.specs.Statements.{Effect, GoesOn, Waits, Leaves, Dies, set, set_if, if_value, most_entries, if_room, new_id, order_of, text_if, did, with_code, is_up, hold, gotten, begun, target_of, answered}
use Rattle.loft_sense.specs.Stands.{place_after}
use Rattle.loft_soundness.specs.WorkFits.{TargetHasKind, ActionFits, PauseFits}
use Rattle.loft_soundness.proofs.ListLemmas.{each_append}
use Rattle.loft_locks.specs.Locks.{Lock, Gives, Other, call_of, inside_at, IsAway, TargetKeeps, ActionKeeps, PauseKeeps, IsExpanded}
use Rattle.loft_locks.specs.LocksHold.{one, held_in}
use Rattle.loft_locks.proofs.ShareLemmas.{set_apart, rank_apart}

-- ---- threads

-- how many of these frames stand inside a pair
abbrev pub depth : Resolved → Lock → List Frame → ℕ
depth p l [] = 0
depth p l (f ∷ fs) = one (inside_at p l f.module f.stop) + depth p l fs

-- Frames of a thread, innermost first: the outermost is of no module of the lock, and none stands in the one that gives it back.
abbrev pub IsBegun : Lock → List Frame → Type 0
IsBegun l [] = Unit {0}
IsBegun l (f ∷ []) = call_of l f.module ≡ Other
IsBegun l (f ∷ g ∷ fs) = call_of l f.module ≡ Gives → ⊥

abbrev pub ThreadBegun : Lock → ThreadAt → Type 0
ThreadBegun l t = IsBegun l (reverse t.frames)

-- such a thread that isn't inside
abbrev pub IsOutside : Resolved → Lock → ThreadAt → Type 0
IsOutside p l t = ThreadBegun l t × (depth p l t.frames ≡ 0)

-- ---- what is sent

-- an order that makes no thread in a module of the lock, and carries none that is inside
abbrev pub OrderRuns : Resolved → Lock → Order → Type 0
OrderRuns p l (order.Create t m args) = call_of l m ≡ Other
OrderRuns p l (order.Arrive t) = IsOutside p l t
OrderRuns p l (order.Stop t) = Unit {0}
OrderRuns p l (order.Suspend t) = Unit {0}
OrderRuns p l (order.Resume t) = Unit {0}
OrderRuns p l (order.Broadcast event value) = Unit {0}
OrderRuns p l (order.Ended t end) = Unit {0}

abbrev pub ActRuns : Resolved → Lock → Act → Type 0
ActRuns p l (act.Print t line) = Unit {0}
ActRuns p l (act.Gen t event value) = Unit {0}
ActRuns p l (act.Out t sent) = OrderRuns p l sent.order
ActRuns p l (act.End t end) = Unit {0}

module _ (p : Resolved) (l : Lock) where
  abbrev pub held_at : Around → Option ℤ
  held_at around = held_in p.heads l around.shared

  -- d leaves the variable of the lock as b had it, where b stands at its scheduler, and sends no more than it may
  pub record Keeps (place : Place) (b d : Beside) : Type 0 where
    pub held : place ≡ Sched l.at → held_at d.around ≡ held_at b.around
    pub acts : Each (ActRuns p l) b.around.acts → Each (ActRuns p l) d.around.acts

  pub same : (place : Place) (b d : Beside) → d.around.shared ≡ b.around.shared → d.around.acts ≡ b.around.acts → Keeps place b d
  same place b d e f = record { held = λ there. ap (λ (xs : List ℤ). held_in p.heads l xs) e; acts = λ g. subst (Each (ActRuns p l)) (sym f) g }

  pub chained : (place : Place) (a b d : Beside) → Keeps place a b → Keeps place b d → Keeps place a d
  chained place a b d f g = record { held = λ there. g.held there ∙ f.held there; acts = λ h. g.acts (f.acts h) }

  one_act : (place : Place) (b d : Beside) (one : Act) → ActRuns p l one → d.around.shared ≡ b.around.shared → d.around.acts ≡ b.around.acts ++ one ∷ [] → Keeps place b d
  one_act place b d one f e g = record {
    held = λ there. ap (λ (xs : List ℤ). held_in p.heads l xs) e;
    acts = λ h. subst (Each (ActRuns p l)) (sym g) (each_append (ActRuns p l) b.around.acts (one ∷ []) h (f, tt));
  }

  control_runs : (c : Control) (t : ThreadId) → OrderRuns p l (order_of c t)
  control_runs control.Stop t = tt
  control_runs control.Suspend t = tt
  control_runs control.Resume t = tt

  -- what becomes of a thread that is at `after` after the statement; Stops and Goes say when it waits and leaves
  module _ (place after : Place) (Stops Goes : Type 0) (b : Beside) where
    abbrev pub EffectKeeps : Effect → Type 0
    EffectKeeps (GoesOn now) = Keeps place b now.beside × (after ≡ place)
    EffectKeeps (Waits w) = Stops
    EffectKeeps (Leaves t) = Goes
    EffectKeeps (Dies end) = Unit {0}

    value_then : {A : Type 0} (o : Option A) (at : At) (f : A → Effect) → ((v : A) → EffectKeeps (f v)) → EffectKeeps (if_value o at f)
    value_then None at f on = tt
    value_then (Some v) at f on = on v

    room_then : (at : At) (effect : Effect) → EffectKeeps effect → EffectKeeps (if_room b at effect)
    room_then at effect fit = by (nat_lt b.around.entries (most_entries b.around.place))
      where
        by : (room : Bool) → EffectKeeps (if room then effect else Dies (Flood at))
        by true = fit
        by false = tt

    either_then : (c : Bool) (x y : Effect) → EffectKeeps x → EffectKeeps y → EffectKeeps (if c then x else y)
    either_then true x y f g = f
    either_then false x y f g = g

    hold_then : (is_there up : Bool) (there late waits : Effect) → EffectKeeps there → EffectKeeps late → EffectKeeps waits → EffectKeeps (hold is_there up there late waits)
    hold_then true up there late waits f g k = f
    hold_then false true there late waits f g k = g
    hold_then false false there late waits f g k = k

module _ (p : Resolved) (l : Lock) (is : IsExpanded p l) where
  same_place : {s q : _} → Sched s ≡ Sched q → s ≡ q
  same_place e = cc

  -- ---- variables that are set

  set_keeps : (slots : List Kind) (place : Place) (kind : Kind) (t : Target) (v : Value) (values : List Value) (b : Beside) → TargetKeeps l t → TargetHasKind p.heads slots place kind t
      → Keeps p l place b (set p.heads t v values b).beside
  set_keeps slots place kind (ToSlot k) v values b keeps has = same p l place b b refl refl
  set_keeps slots place kind (ToShared x) v values b keeps has = record {
    held = λ there.
        let head = has.0.0 in
        let at : head.scheduler ≡ l.at = same_place (has.0.2 ∙ there) in
        set_apart b.around.shared (rank p.heads x) (rank p.heads l.held) (number_of v)
        (λ e. rank_apart p.heads l.at x l.held head is.variable has.0.1 at is.declared is.there keeps e);
    acts = λ g. g;
  }

  set_if_keeps : (slots : List Kind) (place : Place) (kind : Kind) (t : Option Target) (v : Value) (values : List Value) (b : Beside) → IfThere (TargetKeeps l) t → IfThere (TargetHasKind p.heads slots place kind) t
      → Keeps p l place b (set_if p.heads t v values b).beside
  set_if_keeps slots place kind None v values b keeps has = same p l place b b refl refl
  set_if_keeps slots place kind (Some t) v values b keeps has = set_keeps slots place kind t v values b keeps has

  -- ---- statements

  pub did_keeps : (slots : List Kind) (place : Place) (at : At) (values : List Value) (b : Beside) (action : Action) → ActionKeeps l action → ActionFits p.heads slots place action
      → EffectKeeps p l place place ⊥ ⊥ b (did p.heads action at values b)
  did_keeps slots place at values b (Assign target e) keeps fits =
      value_then p l place place ⊥ ⊥ b (eval p.heads values b e) at _ (λ v. (set_keeps slots place fits.0 target v values b keeps fits.1, refl))
  did_keeps slots place at values b (Make target s m arguments) keeps fits =
      value_then p l place place ⊥ ⊥ b (eval_all p.heads values b arguments) at _ (λ args.
      room_then p l place place ⊥ ⊥ b at _ (
        chained p l place b _ _ (one_act p l place b _ (act.Out b.id (record { to = to.Sched s; order = order.Create (new_id b.around) m args })) keeps.1 refl refl)
            (set_if_keeps slots place Thread target _ values _ keeps.0 fits.1),
        refl,
      ))
  did_keeps slots place at values b (PrintText line e) keeps fits =
      value_then p l place place ⊥ ⊥ b (eval_if p.heads values b e) at _ (λ v.
      room_then p l place place ⊥ ⊥ b at _ (one_act p l place b _ (act.Print b.id (line ++ text_if p.heads v)) tt refl refl, refl))
  did_keeps slots place at values b (PrintValue e) keeps fits =
      value_then p l place place ⊥ ⊥ b (eval p.heads values b e) at _ (λ v.
      room_then p l place place ⊥ ⊥ b at _ (one_act p l place b _ (act.Print b.id (value_text p.heads v)) tt refl refl, refl))
  did_keeps slots place at values b (Generate event e) keeps fits =
      value_then p l place place ⊥ ⊥ b (eval_if p.heads values b e) at _ (λ v.
      room_then p l place place ⊥ ⊥ b at _ (one_act p l place b _ (act.Gen b.id event (number_if v)) tt refl refl, refl))
  did_keeps slots place at values b (ControlThread c e s) keeps fits =
      value_then p l place place ⊥ ⊥ b (eval p.heads values b e) at _ (λ v.
      room_then p l place place ⊥ ⊥ b at _
      (one_act p l place b _ (act.Out b.id (record { to = to.Sched s; order = order_of c (thread_or b.id v) })) (control_runs p l c (thread_or b.id v)) refl refl, refl))
  did_keeps slots place at values b (Broadcast event e) keeps fits =
      value_then p l place place ⊥ ⊥ b (eval_if p.heads values b e) at _ (λ v.
      room_then p l place place ⊥ ⊥ b at _
      (one_act p l place b _ (act.Out b.id (record { to = to.Sched (home p.heads event); order = order.Broadcast event (number_if v) })) tt refl refl, refl))

  gotten_keeps : (slots : List Kind) (place : Place) (t : Option Target) (event : EventId) (i : ℤ) (values : List Value) (b : Beside) → IfThere (TargetKeeps l) t → IfThere (TargetHasKind p.heads slots place Int) t
      → Keeps p l place b (gotten p.heads t event i values b).beside
  gotten_keeps slots place t event i values b keeps has =
      chained p l place b (with_code (pos 0) b) _ (same p l place b (with_code (pos 0) b) refl refl) (set_if_keeps slots place Int t _ values (with_code (pos 0) b) keeps has)

  pub begun_keeps : (slots : List Kind) (place : Place) (at : At) (values : List Value) (b : Beside) (pause : Pause) → PauseKeeps l pause → PauseFits p.heads slots place pause
      → EffectKeeps p l place (place_after pause place) (Unit {0}) (IsAway pause) b (begun p.heads pause at values b)
  begun_keeps slots place at values b (Cooperate None) keeps fits = tt
  begun_keeps slots place at values b (Cooperate (Some e)) keeps fits =
      value_then p l place place (Unit {0}) (false ≡ true) b (eval p.heads values b e) at _ (λ v.
      either_then p l place place (Unit {0}) (false ≡ true) b (is_up (Some (number_of v))) _ _ (same p l place b b refl refl, refl) tt)
  begun_keeps slots place at values b (Await events limit) keeps fits =
      value_then p l place place (Unit {0}) (false ≡ true) b (eval_if p.heads values b limit) at _ (λ v.
      hold_then p l place place (Unit {0}) (false ≡ true) b (has_any events b.around.board) (is_up (number_if v)) _ _ _ (same p l place b _ refl refl, refl) (same p l place b _ refl refl, refl) tt)
  begun_keeps slots place at values b (Get event index target) keeps fits =
      value_then p l place place (Unit {0}) (false ≡ true) b (eval p.heads values b index) at _ (λ i.
      either_then p l place place (Unit {0}) (false ≡ true) b (is_index (number_of i) (length (event_values event b.around.board))) _ _
      (gotten_keeps slots place (Some target) event (number_of i) values b keeps fits.2, refl) tt)
  begun_keeps slots place at values b (Join thread limit) keeps fits =
      value_then p l place place (Unit {0}) (false ≡ true) b (eval p.heads values b thread) at _ (λ t.
      value_then p l place place (Unit {0}) (false ≡ true) b (eval_if p.heads values b limit) at _ (λ v.
      hold_then p l place place (Unit {0}) (false ≡ true) b (is_known (thread_or b.id t) b.around.known) (is_up (number_if v)) _ _ _ (same p l place b _ refl refl, refl) (same p l place b _ refl refl, refl) tt))
  begun_keeps slots place at values b (Link s) keeps fits = refl
  begun_keeps slots place at values b Unlink keeps fits = refl
  begun_keeps slots place at values b Halt keeps fits = tt

  -- a wait that ends
  pub answered_keeps : (slots : List Kind) (place : Place) (values : List Value) (b : Beside) (o : Option Pause) (w : Wait) → IfThere (TargetKeeps l) (target_of o) → IfThere (TargetHasKind p.heads slots place Int) (target_of o)
      → Keeps p l place b (answered p.heads o w values b).beside
  answered_keeps slots place values b o wait.New keeps has = same p l place b b refl refl
  answered_keeps slots place values b o (wait.Coop left) keeps has = same p l place b b refl refl
  answered_keeps slots place values b o (wait.Events events left) keeps has = same p l place b _ refl refl
  answered_keeps slots place values b o (wait.Index event i) keeps has = gotten_keeps slots place (target_of o) event i values b keeps has
  answered_keeps slots place values b o wait.Next keeps has = same p l place b _ refl refl
  answered_keeps slots place values b o (wait.Join thread left) keeps has = same p l place b _ refl refl
  answered_keeps slots place values b o wait.Halt keeps has = same p l place b b refl refl
