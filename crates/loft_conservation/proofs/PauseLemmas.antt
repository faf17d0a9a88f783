-- A thread that a stop holds is linked: each stop but `link` and `unlink` stands where a thread is linked to a scheduler.
use Rattle.std.proofs.Common.{◌≡◌, ◌==◌, ℕ, zero, suc, ◌+◌, Bool, true, false, cond, List, [], ◌∷◌, map, Option, Some, None, slice_get, refl, sym, subst, ap, ◌∙◌, arith}
use Rattle.std.specs.Prelude.{◌≢◌, ◌||◌, not, unwrap_or}
use Rattle.std.specs.Option.{option_and_then}
use Rattle.std.proofs.lemmas.Option.{slice_get_within}
use Rattle.loft_base.specs.declared.ids.ModuleId.{ModuleId}
use Rattle.loft_tree.specs.declared.heads.Place.{Place}
use Rattle.loft_tree.specs.declared.heads.Place.TheVariants.{Sched, Unlinked}
use Rattle.loft_tree.specs.declared.heads.Signature.{Signature}
use Rattle.loft_tree.specs.declared.heads.Heads.{Heads}
use Rattle.loft_tree.specs.Fits.{Each}
use Rattle.loft_tree.specs.NamedTree as tree
use Rattle.loft_tree.specs.NamedTree.{NamedPause, NamedStatement, NamedStatements, NamedModule, NamedProgram}
use Rattle.loft_tree.specs.NamedFits.{BodiesHold, NamedFits}
use Rattle.loft_tree.specs.Resolved.{Empty, Pause, Cooperate, Await, Get, Join, Link, Unlink, Halt, Resolved, pause_of, step_of, body_of, resolved_of}
use Rattle.loft_place.specs.Links.{AllowedAt, linked_pause, GoesThrough, Goes, IsPlaced}
use Rattle.loft_place.proofs.Declared.{module_goes}
use Rattle.loft_code.specs.Operations as op
use Rattle.loft_code.specs.Operations.{Operation, Line, Automata, way, goes_on_at}
use Rattle.loft_code.specs.Places.{is_linked, linked_only, left_by_pause, place_left}
use Rattle.loft_code.specs.Leads.{IsModule as IsCodeModule, IsReached, Passes}
use Rattle.loft_code.proofs.Leading.{valid_passes, leads_on}
use Rattle.loft_sense.specs.Machine.{Prog, Tree, Code, heads}
use Rattle.loft_sense.specs.Code.{lines_at, stop_from}
use Rattle.loft_sense.specs.Tree.{body_at, first_some}
use Rattle.loft_sense.specs.Stands.{StopKind, Begins, Pauses, Calls, StopAt, begin_of, begin_or_unlinked, place_after, leads_step, leads, stop_in_step, stop_in, tree_stop, kind_of, stop_before, stop_at_line, code_stop, program_stop}
use Rattle.loft_soundness.specs.WellFormed.{IsWellFormed, IsValidCode}
use Rattle.loft_soundness.proofs.FitLemmas.{end_same, left_same}
use Rattle.loft_soundness.proofs.ListLemmas.{within_some}
use Rattle.loft_soundness.proofs.OperationFits.{tested}

-- ---- stops

-- a thread is linked after this stop, where it goes on in its place
abbrev pub HoldsLinked : Pause → Place → Type 0
HoldsLinked (Cooperate instants) q = q ≢ Unlinked
HoldsLinked (Await events limit) q = q ≢ Unlinked
HoldsLinked (Get event index target) q = q ≢ Unlinked
HoldsLinked (Join thread limit) q = q ≢ Unlinked
HoldsLinked (Link s) q = Unit {0}
HoldsLinked Unlink q = Unit {0}
HoldsLinked Halt q = q ≢ Unlinked

abbrev pub KindLinked : StopKind → Place → Type 0
KindLinked Begins q = Unit {0}
KindLinked (Pauses pause) q = HoldsLinked pause q
KindLinked (Calls m) q = Unit {0}

abbrev pub StopLinked : StopAt → Type 0
StopLinked at = KindLinked at.kind at.after

-- ---- trees

-- the stop that is found, where each that may be found is so
found_one : (b : Bool) (a at : StopAt) → StopLinked a → cond b (Some a) None ≡ Some at → StopLinked at
found_one true a at f e = let same : a ≡ at = cc in subst StopLinked same f
found_one false a at f e = absurd cc

found_first : (a b : Option StopAt) (at : StopAt) → (a ≡ Some at → StopLinked at) → (b ≡ Some at → StopLinked at) → first_some a b ≡ Some at → StopLinked at
found_first None b at f g e = g e
found_first (Some a) b at f g e = f e

hold_linked : (pause : NamedPause) (at : ℕ) (p : Place) → AllowedAt p (linked_pause at pause) → HoldsLinked (pause_of pause) (place_after (pause_of pause) p)
hold_linked (tree.Cooperate instants) at p allowed = allowed
hold_linked (tree.Await events limit) at p allowed = allowed
hold_linked (tree.Get event index target) at p allowed = allowed
hold_linked (tree.Join thread limit) at p allowed = allowed
hold_linked (tree.Link s) at p allowed = tt
hold_linked tree.Unlink at p allowed = tt
hold_linked tree.Halt at p allowed = allowed

module _ (h : Heads) where
  mutual
    leads_through : (s : NamedStatement) (p q : Place) → GoesThrough h p s q → leads_step h (step_of s) p ≡ q
    leads_through (tree.Do at action) p q goes = sym goes.1
    leads_through (tree.Hold at stop pause) p q goes = left_same pause p ∙ sym goes.1
    leads_through (tree.Run at stop called m arguments) p q goes = sym (end_same (slice_get h.modules m.0)) ∙ sym goes.1
    leads_through (tree.If at test a b) p q goes = leads_along a p q goes.1
    leads_through (tree.While at test a) p q goes = sym goes.2
    leads_through (tree.Repeat at count a) p q goes = sym goes.2

    leads_along : (b : NamedStatements) (p q : Place) → Goes h p b q → leads h (body_of b) p ≡ q
    leads_along tree.Done p q goes = sym goes
    leads_along (tree.Then s rest) p q goes = ap (λ r. leads h (body_of rest) r) (leads_through s p goes.0 goes.1) ∙ leads_along rest goes.0 q goes.2

  -- each stop of a statement, and of a body
  mutual
    step_linked : (s : NamedStatement) (p q : Place) → GoesThrough h p s q → (k depth : ℕ) (at : StopAt) → stop_in_step h (step_of s) k depth p ≡ Some at → StopLinked at
    step_linked (tree.Do o action) p q goes k depth at is = absurd cc
    step_linked (tree.Hold o stop pause) p q goes k depth at is = found_one (stop == k) _ at (hold_linked pause o p goes.0.allowed) is
    step_linked (tree.Run o stop called m arguments) p q goes k depth at is = found_one (stop == k) _ at tt is
    step_linked (tree.If o test a b) p q goes k depth at is =
        found_first (stop_in h (body_of a) k depth p) (stop_in h (body_of b) k depth p) at (body_linked a p q goes.1 k depth at) (body_linked b p q goes.2 k depth at) is
    step_linked (tree.While o test a) p q goes k depth at is = body_linked a p p goes.1 k depth at is
    step_linked (tree.Repeat o count a) p q goes k depth at is = body_linked a p p goes.1 k (depth + 1) at is

    body_linked : (b : NamedStatements) (p q : Place) → Goes h p b q → (k depth : ℕ) (at : StopAt) → stop_in h (body_of b) k depth p ≡ Some at → StopLinked at
    body_linked tree.Done p q goes k depth at is = absurd cc
    body_linked (tree.Then s rest) p q goes k depth at is =
        found_first (stop_in_step h (step_of s) k depth p) (stop_in h (body_of rest) k depth (leads_step h (step_of s) p)) at
        (step_linked s p goes.0 goes.1 k depth at)
        (λ e. body_linked rest goes.0 q goes.2 k depth at (subst (λ r. stop_in h (body_of rest) k depth r ≡ Some at) (leads_through s p goes.0 goes.1) e)) is

-- the body of a module that is declared
module_body : (h : Heads) (ms : List Signature) (xs : List NamedModule) (k : ℕ) (head : Signature) → BodiesHold h ms xs → slice_get ms k ≡ Some head
    → (x : NamedModule) × (slice_get xs k ≡ Some x) × (unwrap_or (slice_get (map (λ m. body_of m.body) xs) k) Empty ≡ body_of x.body)
module_body h [] [] k head hold at = absurd cc
module_body h [] (x ∷ xs) k head hold at = absurd hold
module_body h (m ∷ ms) [] k head hold at = absurd hold
module_body h (m ∷ ms) (x ∷ xs) zero head hold at = (x, refl, refl)
module_body h (m ∷ ms) (x ∷ xs) (suc k) head hold at = module_body h ms xs k head hold.1 at

named_linked : (n : NamedProgram) → NamedFits n → IsPlaced n → (m : ModuleId) (head : Signature) → slice_get n.heads.modules m.0 ≡ Some head
    → (k : ℕ) (at : StopAt) → tree_stop (resolved_of n) m k ≡ Some at → StopLinked at
named_linked n fits placed m head there zero at is = let same : record { kind = Begins; depth = 0; after = begin_of n.heads m } ≡ at = cc in subst StopLinked same tt
named_linked n fits placed m head there (suc k) at is =
    let x = module_body n.heads n.heads.modules n.modules m.0 head fits.bodies there in
    let goes = module_goes n m head x.0 fits placed (record { head = there; body = x.1 }) in
    let begins : begin_of n.heads m ≡ head.begin = ap begin_or_unlinked there in
    body_linked n.heads x.0.body head.begin head.end goes (suc k) 0 at
    (sym (ap (λ b. stop_in n.heads b (suc k) 0 head.begin) x.2) ∙ sym (ap (λ p. stop_in n.heads (body_at (resolved_of n) m) (suc k) 0 p) begins) ∙ is)

-- ---- code

linked_is : (here : Place) (pause : Bool) → (is_linked here || not pause) ≡ true → pause ≡ true → here ≢ Unlinked
linked_is (Sched s) pause is e = λ same. absurd cc
linked_is Unlinked pause is e = let same : not pause ≡ false = ap not e in absurd cc

pause_linked : (here : Place) (k : ℕ) (pause : Pause) → (is_linked here || not (linked_only (op.Hold k pause))) ≡ true → HoldsLinked pause (left_by_pause here pause)
pause_linked here k (Cooperate instants) is = linked_is here true is refl
pause_linked here k (Await events limit) is = linked_is here true is refl
pause_linked here k (Get event index target) is = linked_is here true is refl
pause_linked here k (Join thread limit) is = linked_is here true is refl
pause_linked here k (Link s) is = tt
pause_linked here k Unlink is = tt
pause_linked here k Halt is = linked_is here true is refl

module _ (c : Automata) (is : IsValidCode c) (m : ModuleId) (head : Signature) (declared : slice_get c.heads.modules m.0 ≡ Some head) where
  abbrev lines : List Line
  lines = lines_at c m

  module_is : IsCodeModule c m head lines
  module_is =
      let within = slice_get_within c.heads.modules m.0 head declared in
      let code = within_some c.modules m.0 (omega (arith, within, is.limits.all_modules)) in
      record { declared = declared; code = code.1 ∙ ap (λ (ls : List Line). Some ls) (sym (ap (λ (o : Option (List Line)). unwrap_or o []) code.1)) }

  passes : (p : ℕ) (l : Line) → slice_get lines p ≡ Some l → Passes c.heads head lines p l
  passes p l at = valid_passes c m head lines p l is.valid module_is at

  same_some : (a b : Line) → Some a ≡ Some b → a ≡ b
  same_some a b e = cc

  -- an operation that is a stop of this kind, and the one after it
  line_linked : (p : ℕ) (l n : Line) (kind : StopKind) → slice_get lines p ≡ Some l → kind_of l.operation ≡ Some kind → slice_get lines (p + 1) ≡ Some n → KindLinked kind n.place
  line_linked p l n kind at is_kind next = by l.operation refl is_kind
    where
      by : (o : Operation) → l.operation ≡ o → kind_of o ≡ Some kind → KindLinked kind n.place
      by (op.Do action) e f = absurd cc
      by (op.Hold k pause) e f =
          let test = tested c.heads head lines p l (passes p l at) in
          let linked : HoldsLinked pause (left_by_pause l.place pause) = pause_linked l.place k pause (ap (λ o. is_linked l.place || not (linked_only o)) (sym e) ∙ test.linked) in
          let goes = leads_on c.heads head lines p l at (passes p l at) in
          let reached : IsReached lines (left_by_pause l.place pause) (way (p + 1) l.depth) = (subst (λ o. Each (IsReached lines (place_left c.heads l.place o)) (goes_on_at o p l.depth)) e goes).0 in
          let place : left_by_pause l.place pause ≡ n.place = sym reached.place ∙ ap (λ (y : Line). y.place) (same_some reached.next n (sym reached.at ∙ next)) in
          let same : Pauses pause ≡ kind = cc in
          subst (λ y. KindLinked y n.place) same (subst (HoldsLinked pause) place linked)
      by (op.Call k called arguments) e f = let same : Calls called ≡ kind = cc in subst (λ y. KindLinked y n.place) same tt
      by (op.Branch t test) e f = absurd cc
      by op.Enter e f = absurd cc
      by (op.Count count) e f = absurd cc
      by (op.Turn t) e f = absurd cc
      by (op.Jump t) e f = absurd cc
      by op.End e f = absurd cc

  stop_linked : (o : Option ℕ) (at : StopAt) → stop_at_line lines o ≡ Some at → StopLinked at
  stop_linked None at e = absurd cc
  stop_linked (Some p) at e = by (slice_get lines p) (slice_get lines (p + 1)) refl refl e
    where
      by_kind : (l : Line) (kind : Option StopKind) (b : Option Line) → slice_get lines p ≡ Some l → kind_of l.operation ≡ kind → slice_get lines (p + 1) ≡ b → stop_before kind b ≡ Some at → StopLinked at
      by_kind l None b there kind next e = absurd cc
      by_kind l (Some kind) None there kinds next e = absurd cc
      by_kind l (Some kind) (Some n) there kinds next e =
          let same : record { kind = kind; depth = n.depth; after = n.place } ≡ at = cc in
          subst StopLinked same (line_linked p l n kind there kinds next)

      by : (a b : Option Line) → slice_get lines p ≡ a → slice_get lines (p + 1) ≡ b → stop_before (option_and_then (λ (l : Line). kind_of l.operation) a) b ≡ Some at → StopLinked at
      by None b there next e = absurd cc
      by (Some l) b there next e = by_kind l (kind_of l.operation) b there refl next e

  begin_linked : (o : Option Line) (at : StopAt) → stop_before (Some Begins) o ≡ Some at → StopLinked at
  begin_linked None at e = absurd cc
  begin_linked (Some l) at e = let same : record { kind = Begins; depth = l.depth; after = l.place } ≡ at = cc in subst StopLinked same tt

  code_linked : (k : ℕ) (at : StopAt) → code_stop c m k ≡ Some at → StopLinked at
  code_linked zero at e = begin_linked (slice_get lines 0) at e
  code_linked (suc k) at e = stop_linked (stop_from 0 lines (suc k)) at e

-- ---- well-formed programs

pub stops_linked : (x : Prog) → IsWellFormed x → (m : ModuleId) (head : Signature) → slice_get (heads x).modules m.0 ≡ Some head → (k : ℕ) (at : StopAt) → program_stop x m k ≡ Some at → StopLinked at
stops_linked (Tree p) is m head there k at e =
    let n = is.source in
    named_linked n is.names is.links m head (subst (λ (q : Resolved). slice_get q.heads.modules m.0 ≡ Some head) (sym is.same) there) k at
    (subst (λ (q : Resolved). tree_stop q m k ≡ Some at) (sym is.same) e)
stops_linked (Code c) is m head there k at e = code_linked c is m head there k at e
