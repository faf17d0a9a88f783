-- Valid code leads on: at each point of a module there is an operation that fits, and it leads to points.
use Rattle.std.proofs.Common.{◌≡◌, ℕ, zero, suc, ◌+◌, ◌-◌, ◌≤◌, true, List, [], ◌∷◌, length, reverse, Option, Some, None, slice_get, refl, sym, ap, ◌∙◌, subst, arith}
use Rattle.std.specs.Prelude.{ℤ, pos, negsuc, unwrap_or}
use Rattle.std.specs.Option.{option_and_then}
use Rattle.std.proofs.lemmas.List.{length-reverse}
use Rattle.std.proofs.lemmas.Option.{slice_get_within}
use Rattle.loft_base.specs.declared.ids.ModuleId.{ModuleId}
use Rattle.loft_tree.specs.declared.heads.Place.{Place}
use Rattle.loft_tree.specs.declared.heads.Signature.{Signature}
use Rattle.loft_tree.specs.Fits.{Each}
use Rattle.loft_tree.specs.NamedFits.{slots_of}
use Rattle.loft_tree.specs.Resolved.{Pause, Cooperate, Await, Get, Join, Link, Unlink, Halt}
use Rattle.loft_code.specs.Operations.{Operation, Do, Hold, Call, Branch, Enter, Count, Turn, Jump, End, Line, Automata, way, goes_on_at, is_turn, stop_of}
use Rattle.loft_code.specs.Places as places
use Rattle.loft_code.specs.Places.{left_by_pause, place_left}
use Rattle.loft_code.specs.Leads.{IsModule, IsReached, BeginsWell, Passes as PassesTests}
use Rattle.loft_code.proofs.Leading.{valid_passes, leads_on, begins_well, ends_well, turn_counts, small_stop}
use Rattle.loft_sense.specs.Machine.{Code}
use Rattle.loft_sense.specs.Code.{Point, point, lines_at, jump_of, landing, next_operation, next_line, next_point, stop_from, after_or_past, pause_of_operation, pause_at, pause_in}
use Rattle.loft_sense.specs.Run.{Next}
use Rattle.loft_sense.specs.Stands.{StopKind, Begins, Pauses, Calls, StopAt, begin_of, begin_or_unlinked, end_of, end_or_unlinked, place_after, kind_of, stop_before, stop_at_line, code_stop}
use Rattle.loft_soundness.specs.WellFormed.{IsValidCode}
use Rattle.loft_soundness.specs.WorkFits.{NextFits}
use Rattle.loft_soundness.specs.Points.{LandsOn}
use Rattle.loft_soundness.proofs.ListLemmas.{within_some}
use Rattle.loft_soundness.proofs.LeadsToPoints.{the_stop, begin_stop, KindFits, target_fits, IsPauseOf, LeadsAt, IsAfter, LeadsToPoints}
use Rattle.loft_soundness.proofs.OperationFits.{IsTested, action_fits, pause_fits, run_fits, test_fits, count_fits, tested}
use Rattle.loft_soundness.proofs.LandingLemmas.{IsLanded, lands, found}

-- ---- where an operation leaves a thread

pause_leaves : (here : Place) (pause : Pause) → left_by_pause here pause ≡ place_after pause here
pause_leaves here (Cooperate instants) = refl
pause_leaves here (Await events limit) = refl
pause_leaves here (Get event index target) = refl
pause_leaves here (Join thread limit) = refl
pause_leaves here (Link s) = refl
pause_leaves here Unlink = refl
pause_leaves here Halt = refl

end_is : (o : Option Signature) → places.end_of o ≡ end_or_unlinked o
end_is None = refl
end_is (Some m) = refl

same_some : (a b : Line) → Some a ≡ Some b → a ≡ b
same_some a b e = cc

-- an operation at a place with so many counts
abbrev line_at : Place → ℕ → Operation → Line
line_at here depth o = record { place = here; depth = depth; operation = o }

line_of : (lines : List Line) (here : Place) (depth p : ℕ) → (r : IsReached lines here (way p depth)) → slice_get lines p ≡ Some (line_at here depth r.next.operation)
line_of lines here depth p r =
    r.at ∙ ap (λ (q : Place). Some (line_at q r.next.depth r.next.operation)) r.place ∙ ap (λ (d : ℕ). Some (line_at here d r.next.operation)) r.depth

moved : (lines : List Line) (p q : Place) (depth k : ℕ) → p ≡ q → IsReached lines p (way k depth) → IsReached lines q (way k depth)
moved lines p q depth k e r = subst (λ here. IsReached lines here (way k depth)) e r

-- ---- stops

-- a stop of this kind, after which there is an operation
stop_there : (lines : List Line) (p : ℕ) (l : Line) (kind : StopKind) (q : Place) (depth : ℕ) → slice_get lines p ≡ Some l → kind_of l.operation ≡ Some kind
    → IsReached lines q (way (p + 1) depth) → stop_at_line lines (Some p) ≡ Some (the_stop kind depth q)
stop_there lines p l kind q depth at is r =
    ap (λ (o : Option Line). stop_before (option_and_then (λ (l : Line). kind_of l.operation) o) (slice_get lines (p + 1))) at
    ∙ ap (λ (o : Option StopKind). stop_before o (slice_get lines (p + 1))) is
    ∙ ap (stop_before (Some kind)) (line_of lines q depth (p + 1) r)

-- what a stop waits for is found under its number
kind_pauses : (o : Operation) (kind : StopKind) → kind_of o ≡ Some kind → IsPauseOf kind (pause_of_operation o)
kind_pauses (Do action) kind e = absurd cc
kind_pauses (Hold k pause) kind e = let same : Pauses pause ≡ kind = cc in subst (λ q. IsPauseOf q (Some pause)) same refl
kind_pauses (Call k m arguments) kind e = let same : Calls m ≡ kind = cc in subst (λ q. IsPauseOf q None) same tt
kind_pauses (Branch t test) kind e = absurd cc
kind_pauses Enter kind e = absurd cc
kind_pauses (Count count) kind e = absurd cc
kind_pauses (Turn t) kind e = absurd cc
kind_pauses (Jump t) kind e = absurd cc
kind_pauses End kind e = absurd cc

-- an operation that is a stop, and the one after it
pub record IsStopAt (lines : List Line) (p : ℕ) (at : StopAt) : Type 0 where
  pub line : Line
  pub there : slice_get lines p ≡ Some line
  pub kind : kind_of line.operation ≡ Some at.kind
  pub next : IsReached lines at.after (way (p + 1) at.depth)

stop_parts : (lines : List Line) (p : ℕ) (at : StopAt) → stop_at_line lines (Some p) ≡ Some at → IsStopAt lines p at
stop_parts lines p at e = by (slice_get lines p) (slice_get lines (p + 1)) refl refl e
  where
    by_kind : (l : Line) (kind : Option StopKind) (b : Option Line) → slice_get lines p ≡ Some l → kind_of l.operation ≡ kind → slice_get lines (p + 1) ≡ b → stop_before kind b ≡ Some at → IsStopAt lines p at
    by_kind l None b there is next e = absurd cc
    by_kind l (Some kind) None there is next e = absurd cc
    by_kind l (Some kind) (Some n) there is next e =
        let same : record { kind = kind; depth = n.depth; after = n.place } ≡ at = cc in
        let here : IsStopAt lines p (record { kind = kind; depth = n.depth; after = n.place }) = record { line = l; there = there; kind = is; next = record { next = n; at = next; place = refl; depth = refl } } in
        subst (IsStopAt lines p) same here

    by : (a b : Option Line) → slice_get lines p ≡ a → slice_get lines (p + 1) ≡ b → stop_before (option_and_then (λ (l : Line). kind_of l.operation) a) b ≡ Some at → IsStopAt lines p at
    by None b there next e = absurd cc
    by (Some l) b there next e = by_kind l (kind_of l.operation) b there refl next e

stop_waits : (lines : List Line) (o : Option ℕ) (at : StopAt) → stop_at_line lines o ≡ Some at → IsPauseOf at.kind (pause_at lines o)
stop_waits lines None at e = absurd cc
stop_waits lines (Some p) at e =
    let stop = stop_parts lines p at e in
    subst (IsPauseOf at.kind) (sym (ap (option_and_then (λ (l : Line). pause_of_operation l.operation)) stop.there)) (kind_pauses stop.line.operation at.kind stop.kind)

begin_waits : (o : Option Line) (at : StopAt) → stop_before (Some Begins) o ≡ Some at → IsPauseOf at.kind None
begin_waits None at e = absurd cc
begin_waits (Some l) at e =
    let same : record { kind = Begins; depth = l.depth; after = l.place } ≡ at = cc in
    subst (λ (a : StopAt). IsPauseOf a.kind None) same tt

pub code_pauses : (c : Automata) (m : ModuleId) (k : ℕ) (at : StopAt) → code_stop c m k ≡ Some at → IsPauseOf at.kind (pause_in (lines_at c m) k)
code_pauses c m zero at e = begin_waits (slice_get (lines_at c m) 0) at e
code_pauses c m (suc k) at e = stop_waits (lines_at c m) (stop_from 0 (lines_at c m) (suc k)) at e

-- ---- valid code

module _ (c : Automata) (is : IsValidCode c) where
  -- a module that is declared has operations
  module_is : (m : ModuleId) (head : Signature) → slice_get c.heads.modules m.0 ≡ Some head → IsModule c m head (lines_at c m)
  module_is m head declared =
      let within = slice_get_within c.heads.modules m.0 head declared in
      let code = within_some c.modules m.0 (omega (arith, within, is.limits.all_modules)) in
      record { declared = declared; code = code.1 ∙ ap (λ (ls : List Line). Some ls) (sym (ap (λ (o : Option (List Line)). unwrap_or o []) code.1)) }

  module _ (m : ModuleId) (head : Signature) (declared : slice_get c.heads.modules m.0 ≡ Some head) where
    abbrev lines : List Line
    lines = lines_at c m

    passes : (p : ℕ) (l : Line) → slice_get lines p ≡ Some l → PassesTests c.heads head lines p l
    passes p l at = valid_passes c m head lines p l is.valid (module_is m head declared) at

    goes : (p : ℕ) (l : Line) → slice_get lines p ≡ Some l → Each (IsReached lines (place_left c.heads l.place l.operation)) (goes_on_at l.operation p l.depth)
    goes p l at = leads_on c.heads head lines p l at (passes p l at)

    fits : (p : ℕ) (l : Line) → slice_get lines p ≡ Some l → IsTested c.heads (slots_of head) l.place l.operation
    fits p l at = tested c.heads head lines p l (passes p l at)

    -- ---- what comes next

    abbrev Leads : Place → Next Point → Type 0
    Leads here next = NextFits c.heads (slots_of head) here next × LeadsAt (Code c) m head here next

    -- a stop is that of its number
    stop_known : (p k : ℕ) (l : Line) (kind : StopKind) (q : Place) (counts : List ℤ) → slice_get lines p ≡ Some l → stop_of l.operation ≡ Some k → kind_of l.operation ≡ Some kind
        → IsReached lines q (way (p + 1) (length counts)) → code_stop c m k ≡ Some (the_stop kind (length (reverse counts)) q)
    stop_known p zero l kind q counts at number kinds r = let one : 1 ≤ zero = (small_stop c.heads head lines p zero l number (passes p l at)).0 in absurd (omega (arith, one))
    stop_known p (suc k) l kind q counts at number kinds r =
        ap (stop_at_line lines) (found c is.valid m head lines (module_is m head declared) p (suc k) l at number)
        ∙ stop_there lines p l kind q (length counts) at kinds r
        ∙ ap (λ (d : ℕ). Some (the_stop kind d q)) (sym (length-reverse counts))

    turn_leads : (p t : ℕ) (here : Place) (counts : List ℤ) → slice_get lines p ≡ Some (line_at here (length counts) (Turn t)) → Leads here (next_operation (Turn t) p counts)
    turn_leads p t here [] at =
        let one : 1 ≤ 0 = turn_counts c.heads head lines p t (line_at here 0 (Turn t)) refl (passes p (line_at here 0 (Turn t)) at) in
        absurd (omega (arith, one))
    turn_leads p t here (pos zero ∷ ns) at =
        let fewer : length (pos zero ∷ ns) - 1 ≡ length ns = omega arith in
        (tt, subst (λ d. IsReached lines here (way t d)) fewer (goes p (line_at here (length (pos zero ∷ ns)) (Turn t)) at).1.0)
    turn_leads p t here (pos (suc n) ∷ ns) at = (tt, (goes p (line_at here (length (pos (suc n) ∷ ns)) (Turn t)) at).0)
    turn_leads p t here (negsuc n ∷ ns) at =
        let fewer : length (negsuc n ∷ ns) - 1 ≡ length ns = omega arith in
        (tt, subst (λ d. IsReached lines here (way t d)) fewer (goes p (line_at here (length (negsuc n ∷ ns)) (Turn t)) at).1.0)

    operation_leads : (p : ℕ) (here : Place) (counts : List ℤ) (o : Operation) → slice_get lines p ≡ Some (line_at here (length counts) o) → jump_of o ≡ None
        → Leads here (next_operation o p counts)
    operation_leads p here counts (Do action) at no_jump =
        let l = line_at here (length counts) (Do action) in
        (action_fits c.heads (slots_of head) here action (fits p l at), (goes p l at).0)
    operation_leads p here counts (Hold k pause) at no_jump =
        let l = line_at here (length counts) (Hold k pause) in
        let next = moved lines (left_by_pause here pause) (place_after pause here) (length counts) (p + 1) (pause_leaves here pause) (goes p l at).0 in
        (pause_fits c.heads (slots_of head) here k pause (fits p l at), (stop_known p k l (Pauses pause) (place_after pause here) counts at refl refl next, next))
    operation_leads p here counts (Call k called arguments) at no_jump =
        let l = line_at here (length counts) (Call k called arguments) in
        let next = moved lines (places.end_of (slice_get c.heads.modules called.0)) (end_of c.heads called) (length counts) (p + 1) (end_is (slice_get c.heads.modules called.0)) (goes p l at).0 in
        (run_fits c.heads (slots_of head) here k called arguments (fits p l at), (stop_known p k l (Calls called) (end_of c.heads called) counts at refl refl next, next))
    operation_leads p here counts (Branch t test) at no_jump =
        let l = line_at here (length counts) (Branch t test) in
        let both = goes p l at in
        (test_fits c.heads (slots_of head) here t test (fits p l at), (both.0, both.1.0))
    operation_leads p here counts Enter at no_jump = (tt, (goes p (line_at here (length counts) Enter) at).0)
    operation_leads p here counts (Count count) at no_jump =
        let l = line_at here (length counts) (Count count) in (
          count_fits c.heads (slots_of head) here count (fits p l at),
          λ n.
              let more : length counts + 1 ≡ length (n ∷ counts) = omega arith in
              subst (λ d. IsReached lines here (way (p + 1) d)) more (goes p l at).0,
        )
    operation_leads p here counts (Turn t) at no_jump = turn_leads p t here counts at
    operation_leads p here counts (Jump t) at no_jump = absurd cc
    operation_leads p here counts End at no_jump = (tt, (ends_well c.heads head lines p (line_at here (length counts) End) refl (passes p (line_at here (length counts) End) at)).place)

    -- the jumps at a point lead to an operation
    landed : (p : Point) (here : Place) → IsReached lines here (way p.op (length p.counts)) → IsLanded lines here (length p.counts) (landing lines p.op)
    landed p here r =
        let past : length lines ≤ length lines + p.op = omega arith in
        lands c is.valid m head lines (module_is m head declared) (length lines) p.op here (length p.counts) past r

    point_leads : (p : Point) (here : Place) → IsReached lines here (way p.op (length p.counts)) → Leads here (next_point lines p)
    point_leads p here r =
        let q = landing lines p.op in
        let land = landed p here r in
        let o = land.reached.next.operation in
        let at = line_of lines here (length p.counts) q land.reached in
        subst (λ (l : Option Line). Leads here (next_line l q p.counts)) (sym at) (operation_leads q here p.counts o at land.is_no_jump)

    -- ---- where a thread goes on

    begin_leads : BeginsWell head lines
    begin_leads = begins_well c m head lines is.valid (module_is m head declared)

    begin_is : head.begin ≡ begin_of c.heads m
    begin_is = sym (ap begin_or_unlinked declared)

    first_reached : IsReached lines (begin_of c.heads m) (way 0 0)
    first_reached = record { next = begin_leads.first; at = begin_leads.at; place = begin_leads.place ∙ begin_is; depth = begin_leads.depth }

    begins_there : code_stop c m 0 ≡ Some (begin_stop c.heads m)
    begins_there = ap (stop_before (Some Begins)) (line_of lines (begin_of c.heads m) 0 0 first_reached)

    start_leads : IsAfter (Code c) m head (begin_stop c.heads m) (point 0 [])
    start_leads = record { there = first_reached; counts = refl; kind = tt }

    kind_fits : (p d : ℕ) (here : Place) (o : Operation) (kind : StopKind) → kind_of o ≡ Some kind → slice_get lines p ≡ Some (line_at here d o) → (q : Place) (e : ℕ)
        → IsReached lines q (way (p + 1) e) → KindFits c.heads (slots_of head) kind q
    kind_fits p d here (Do action) kind is at q e next = absurd cc
    kind_fits p d here (Hold k pause) kind is at q e next =
        let l = line_at here d (Hold k pause) in
        let same : Pauses pause ≡ kind = cc in
        let r = (goes p l at).0 in
        let place : place_after pause here ≡ q = sym (pause_leaves here pause) ∙ sym r.place ∙ ap (λ (l : Line). l.place) (same_some r.next next.next (sym r.at ∙ next.at)) ∙ next.place in
        subst (λ k. KindFits c.heads (slots_of head) k q) same
        (subst (KindFits c.heads (slots_of head) (Pauses pause)) place (target_fits c.heads (slots_of head) pause here (pause_fits c.heads (slots_of head) here k pause (fits p l at))))
    kind_fits p d here (Call k called arguments) kind is at q e next =
        let same : Calls called ≡ kind = cc in
        let r = (goes p (line_at here d (Call k called arguments)) at).0 in
        let place : q ≡ end_of c.heads called =
        sym next.place ∙ ap (λ (l : Line). l.place) (same_some next.next r.next (sym next.at ∙ r.at)) ∙ r.place ∙ end_is (slice_get c.heads.modules called.0) in
        subst (λ k. KindFits c.heads (slots_of head) k q) same place
    kind_fits p d here (Branch t test) kind is at q e next = absurd cc
    kind_fits p d here Enter kind is at q e next = absurd cc
    kind_fits p d here (Count count) kind is at q e next = absurd cc
    kind_fits p d here (Turn t) kind is at q e next = absurd cc
    kind_fits p d here (Jump t) kind is at q e next = absurd cc
    kind_fits p d here End kind is at q e next = absurd cc

    after_stop : (o : Option ℕ) (counts : List ℤ) (at : StopAt) → stop_at_line lines o ≡ Some at → length counts ≡ at.depth
        → IsAfter (Code c) m head at (point (after_or_past o lines) (reverse counts))
    after_stop None counts at e few = absurd cc
    after_stop (Some p) counts at e few =
        let stop = stop_parts lines p at e in
        let l = stop.line in
        let depth : at.depth ≡ length (reverse counts) = sym few ∙ sym (length-reverse counts) in
        record {
          there = subst (λ d. IsReached lines at.after (way (p + 1) d)) depth stop.next;
          counts = length-reverse (reverse counts) ∙ length-reverse counts ∙ few;
          kind = kind_fits p l.depth l.place l.operation at.kind stop.kind stop.there at.after at.depth stop.next;
        }

    -- ---- a `turn` has a count

    turn_has : (p d : ℕ) (here : Place) (o : Operation) → slice_get lines p ≡ Some (line_at here d o) → is_turn o ≡ true → 1 ≤ d
    turn_has p d here (Do action) at e = absurd cc
    turn_has p d here (Hold k pause) at e = absurd cc
    turn_has p d here (Call k called arguments) at e = absurd cc
    turn_has p d here (Branch t test) at e = absurd cc
    turn_has p d here Enter at e = absurd cc
    turn_has p d here (Count count) at e = absurd cc
    turn_has p d here (Turn t) at e = turn_counts c.heads head lines p t (line_at here d (Turn t)) refl (passes p (line_at here d (Turn t)) at)
    turn_has p d here (Jump t) at e = absurd cc
    turn_has p d here End at e = absurd cc

    pub lands_on : (p : Point) (here : Place) → IsReached lines here (way p.op (length p.counts)) → LandsOn lines here p
    lands_on p here r =
        let land = landed p here r in
        let q = land.reached in
        record {
          line = q.next;
          there = q.at;
          place = q.place;
          depth = q.depth;
          is_no_jump = land.is_no_jump;
          turn_counts = turn_has (landing lines p.op) (length p.counts) here q.next.operation (line_of lines here (length p.counts) (landing lines p.op) q);
        }

  pub code_leads : LeadsToPoints (Code c)
  code_leads = record {
    next = λ m head p here declared r. point_leads m head declared p here r;
    begins = λ m head declared. begins_there m head declared;
    starts = λ m head declared. start_leads m head declared;
    resumes = λ m head k counts at declared e few. after_stop m head declared (stop_from 0 (lines_at c m) (suc k)) counts at e few;
  }
