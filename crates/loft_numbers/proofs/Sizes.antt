-- The stops and the size of a body, which numbers keep; it has no more stops than statements.
use Rattle.std.proofs.Common.{◌≡◌, ℕ, ◌+◌, List, refl, sym, subst, ◌≤◌, arith}
use Rattle.loft_tree.specs.Source.{Statement, Assign, AssignCreate, Create, PrintText, PrintValue, Cooperate, Generate, Await, Select, Get, Join, ControlThread, Broadcast, Link, Unlink, Run, Halt, If, While, Repeat, Statements, Done, Then}
use Rattle.loft_tree.specs.Fits.{size, size_of}
use Rattle.loft_numbers.specs.Numbers.{stops_in, body_stops}
use Rattle.loft_numbers.specs.Numbers as numbers
use Rattle.loft_scopes.specs.declared.scope.Scope.{Scope}
use Rattle.loft_scopes.specs.Scopes.{Declared}
use Rattle.loft_tree.specs.Stops as named

mutual
  stops_in-le : (s : Statement) → stops_in s ≤ size_of s
  stops_in-le (Assign target value) = omega arith
  stops_in-le (AssignCreate target at creation) = omega arith
  stops_in-le (Create at creation) = omega arith
  stops_in-le (PrintText at line value) = omega arith
  stops_in-le (PrintValue at value) = omega arith
  stops_in-le (Cooperate at instants) = omega arith
  stops_in-le (Generate at event value) = omega arith
  stops_in-le (Await at event limit) = omega arith
  stops_in-le (Select at events limit) = omega arith
  stops_in-le (Get at event index target) = omega arith
  stops_in-le (Join at thread limit) = omega arith
  stops_in-le (ControlThread at control thread scheduler) = omega arith
  stops_in-le (Broadcast at event value) = omega arith
  stops_in-le (Link at scheduler) = omega arith
  stops_in-le (Unlink at) = omega arith
  stops_in-le (Run at called arguments) = omega arith
  stops_in-le (Halt at) = omega arith
  stops_in-le (If at test first second) = omega (arith, body_stops-le first, body_stops-le second)
  stops_in-le (While at test body) = omega (arith, body_stops-le body)
  stops_in-le (Repeat at count body) = omega (arith, body_stops-le body)

  pub body_stops-le : (ss : Statements) → body_stops ss ≤ size ss
  body_stops-le Done = omega arith
  body_stops-le (Then first rest) = omega (arith, stops_in-le first, body_stops-le rest)

-- a statement with numbers has as many stops
mutual
  stops_kept : (ds : List Declared) (scope : Scope) (s : Statement) (k : ℕ) → named.stops_in (numbers.statement_of ds scope s k) ≡ stops_in s
  stops_kept ds scope (Assign target value) k = refl
  stops_kept ds scope (AssignCreate target at creation) k = refl
  stops_kept ds scope (Create at creation) k = refl
  stops_kept ds scope (PrintText at line value) k = refl
  stops_kept ds scope (PrintValue at value) k = refl
  stops_kept ds scope (Cooperate at instants) k = refl
  stops_kept ds scope (Generate at event value) k = refl
  stops_kept ds scope (Await at event limit) k = refl
  stops_kept ds scope (Select at events limit) k = refl
  stops_kept ds scope (Get at event index target) k = refl
  stops_kept ds scope (Join at thread limit) k = refl
  stops_kept ds scope (ControlThread at control thread scheduler) k = refl
  stops_kept ds scope (Broadcast at event value) k = refl
  stops_kept ds scope (Link at scheduler) k = refl
  stops_kept ds scope (Unlink at) k = refl
  stops_kept ds scope (Run at called arguments) k = refl
  stops_kept ds scope (Halt at) k = refl
  stops_kept ds scope (If at test first second) k = omega (arith, body_kept ds scope first k, body_kept ds scope second (k + body_stops first))
  stops_kept ds scope (While at test body) k = body_kept ds scope body k
  stops_kept ds scope (Repeat at count body) k = body_kept ds scope body k

  pub body_kept : (ds : List Declared) (scope : Scope) (ss : Statements) (k : ℕ) → named.body_stops (numbers.body_of ds scope ss k) ≡ body_stops ss
  body_kept ds scope Done k = refl
  body_kept ds scope (Then first rest) k = omega (arith, stops_kept ds scope first k, body_kept ds scope rest (k + stops_in first))

-- and as many statements in it
mutual
  size_of_kept : (ds : List Declared) (scope : Scope) (s : Statement) (k : ℕ) → named.size_of (numbers.statement_of ds scope s k) ≡ size_of s
  size_of_kept ds scope (Assign target value) k = refl
  size_of_kept ds scope (AssignCreate target at creation) k = refl
  size_of_kept ds scope (Create at creation) k = refl
  size_of_kept ds scope (PrintText at line value) k = refl
  size_of_kept ds scope (PrintValue at value) k = refl
  size_of_kept ds scope (Cooperate at instants) k = refl
  size_of_kept ds scope (Generate at event value) k = refl
  size_of_kept ds scope (Await at event limit) k = refl
  size_of_kept ds scope (Select at events limit) k = refl
  size_of_kept ds scope (Get at event index target) k = refl
  size_of_kept ds scope (Join at thread limit) k = refl
  size_of_kept ds scope (ControlThread at control thread scheduler) k = refl
  size_of_kept ds scope (Broadcast at event value) k = refl
  size_of_kept ds scope (Link at scheduler) k = refl
  size_of_kept ds scope (Unlink at) k = refl
  size_of_kept ds scope (Run at called arguments) k = refl
  size_of_kept ds scope (Halt at) k = refl
  size_of_kept ds scope (If at test first second) k = omega (arith, size_kept ds scope first k, size_kept ds scope second (k + body_stops first))
  size_of_kept ds scope (While at test body) k = omega (arith, size_kept ds scope body k)
  size_of_kept ds scope (Repeat at count body) k = omega (arith, size_kept ds scope body k)

  pub size_kept : (ds : List Declared) (scope : Scope) (ss : Statements) (k : ℕ) → named.size (numbers.body_of ds scope ss k) ≡ size ss
  size_kept ds scope Done k = refl
  size_kept ds scope (Then first rest) k = omega (arith, size_of_kept ds scope first k, size_kept ds scope rest (k + stops_in first))

-- its stops are numbered in text order
mutual
  is_numbered : (ds : List Declared) (scope : Scope) (s : Statement) (k : ℕ) → named.IsNumbered (numbers.statement_of ds scope s k) k
  is_numbered ds scope (Assign target value) k = tt
  is_numbered ds scope (AssignCreate target at creation) k = tt
  is_numbered ds scope (Create at creation) k = tt
  is_numbered ds scope (PrintText at line value) k = tt
  is_numbered ds scope (PrintValue at value) k = tt
  is_numbered ds scope (Cooperate at instants) k = refl
  is_numbered ds scope (Generate at event value) k = tt
  is_numbered ds scope (Await at event limit) k = refl
  is_numbered ds scope (Select at events limit) k = refl
  is_numbered ds scope (Get at event index target) k = refl
  is_numbered ds scope (Join at thread limit) k = refl
  is_numbered ds scope (ControlThread at control thread scheduler) k = tt
  is_numbered ds scope (Broadcast at event value) k = tt
  is_numbered ds scope (Link at scheduler) k = refl
  is_numbered ds scope (Unlink at) k = refl
  is_numbered ds scope (Run at called arguments) k = refl
  is_numbered ds scope (Halt at) k = refl
  is_numbered ds scope (If at test first second) k =
      (are_numbered ds scope first k, subst (λ (n : ℕ). named.AreNumbered (numbers.body_of ds scope second (k + body_stops first)) (k + n)) (sym (body_kept ds scope first k)) (are_numbered ds scope second (k + body_stops first)))
  is_numbered ds scope (While at test body) k = are_numbered ds scope body k
  is_numbered ds scope (Repeat at count body) k = are_numbered ds scope body k

  pub are_numbered : (ds : List Declared) (scope : Scope) (ss : Statements) (k : ℕ) → named.AreNumbered (numbers.body_of ds scope ss k) k
  are_numbered ds scope Done k = tt
  are_numbered ds scope (Then first rest) k =
      (is_numbered ds scope first k, subst (λ (n : ℕ). named.AreNumbered (numbers.body_of ds scope rest (k + stops_in first)) (k + n)) (sym (stops_kept ds scope first k)) (are_numbered ds scope rest (k + stops_in first)))
