-- A source with the declarations of a lock is an expanded program, where its pairs stand.
use Rattle.std.proofs.Common.{◌≡◌, ℕ, ◌+◌, ◌==◌, Bool, true, false, List, [], ◌∷◌, ◌++◌, length, Option, Some, None, refl, sym, ap, ◌∙◌, subst, arith}
use Rattle.std.specs.Prelude.{slice_get, pos, if◌then◌else◌, unwrap_or}
use Rattle.std.specs.List.{Contains}
use Rattle.std.proofs.lemmas.List.{map-append, length-map}
use Rattle.std.proofs.lemmas.Bool.{eq-eqb}
use Rattle.loft_base.specs.declared.ids.ModuleId.{ModuleId}
use Rattle.loft_tree.specs.declared.heads.Place.TheVariants.{Sched}
use Rattle.loft_tree.specs.declared.heads.SharedHead.{SharedHead}
use Rattle.loft_tree.specs.declared.heads.Signature.{Signature}
use Rattle.loft_tree.specs.declared.heads.Heads.{Heads}
use Rattle.loft_tree.specs.Fits.{Each}
use Rattle.loft_tree.specs.Source.{Ident, Source}
use Rattle.loft_tree.specs.NamedTree.{NamedModule}
use Rattle.loft_tree.specs.Resolved as res
use Rattle.loft_tree.specs.Resolved.{Resolved, resolved_of, Empty}
use Rattle.loft_sense.specs.Tree.{body_at}
use Rattle.loft_sense.specs.Stands.{begin_of, end_of, begin_or_unlinked, end_or_unlinked}
use Rattle.loft_scopes.specs.declared.counts.DeclarationCounts.{DeclarationCounts}
use Rattle.loft_scopes.specs.declared.scope.Scope.{Scope}
use Rattle.loft_scopes.specs.declared.scope.Scope.TheVariants.{Everywhere, Within}
use Rattle.loft_scopes.specs.Scopes.{AnEvent, AShared, AModule, Declared, everywhere, none_yet, declared_from, declared, meaning}
use Rattle.loft_numbers.specs.Numbers as num
use Rattle.loft_numbers.specs.Numbers.{number_or_0, holder_of, number_of, scheduler_of, variable_term, held_by, signature_of, modules_in, heads_of, numbered}
use Rattle.loft_scopes.specs.Faults.{NamesFit}
use Rattle.loft_names.specs.HeadOf.{HasHead}
use Rattle.loft_names.specs.NamesHold.{UsesAgree, NamesHold}
use Rattle.loft_names.proofs.HeadsLists.{follows_head, follows_tail, each-append, contains_at}
use Rattle.loft_names.proofs.HeadsNumbers.{HasRest, has_all, each_declared_has}
use Rattle.loft_names.proofs.HoldsPrograms.{fits_holds}
use Rattle.loft_locks.specs.Locks.{Lock, Takes, Gives, Other, call_of, lock_body, unlock_body, BodyPairs, IsExpanded}
use Rattle.loft_locks.specs.Marked.{BodyKeeps}
use Rattle.loft_lock_sources.specs.SourceLocks.{LockNames, name_at, takes_statements, gives_statements, head_at, lock_declarations, DeclarationKeeps, HasLock, name_of, lock_in, LockStands}
use Rattle.loft_lock_sources.proofs.NameLemmas.{everywhere_seen, meant_is, means_it}
use Rattle.loft_lock_sources.proofs.SplitLemmas.{counts, contains_right, declared_split, rest_has, uses_rest, modules_split, modules_count, get_there, get_next, OfSome, get_apart}
use Rattle.loft_lock_sources.proofs.KeepNames.{HasNumbers, map_bodies, bodies_keep, OuterKeeps, outer_keeps, starts_keep, clients_keep}

-- the declarations before the lock's, its own, and those after
module _ (n : LockNames) (at : ℕ → ℕ) (front back : Source) (hold : NamesHold (front ++ (lock_declarations n at ++ back))) where
  abbrev whole : Source
  whole = front ++ (lock_declarations n at ++ back)

  abbrev ds : List Declared
  ds = declared whole

  abbrev h : Heads
  h = heads_of ds whole

  abbrev p : Resolved
  p = resolved_of (numbered whole)

  abbrev k : DeclarationCounts
  k = counts none_yet front

  -- ---- what is declared

  abbrev held_declared : Declared
  held_declared = everywhere (name_at n at 13 n.held) AShared k.shared

  abbrev free_declared : Declared
  free_declared = everywhere (name_at n at 15 n.free) AnEvent k.events

  abbrev takes_declared : Declared
  takes_declared = everywhere (name_at n at 17 n.takes) (AModule []) k.modules

  abbrev gives_declared : Declared
  gives_declared = everywhere (name_at n at 19 n.gives) (AModule []) (k.modules + 1)

  in_whole : (d : Declared) → Contains (declared_from k (lock_declarations n at ++ back)) d → Contains ds d
  in_whole d c = subst (λ (l : List Declared). Contains l d) (sym (declared_split none_yet front (lock_declarations n at ++ back))) (contains_right (declared_from none_yet front) (declared_from k (lock_declarations n at ++ back)) d c)

  held_there : Contains ds held_declared
  held_there = in_whole held_declared (contains_at (declared_from k (lock_declarations n at ++ back)) 0 held_declared refl)

  free_there : Contains ds free_declared
  free_there = in_whole free_declared (contains_at (declared_from k (lock_declarations n at ++ back)) 1 free_declared refl)

  takes_there : Contains ds takes_declared
  takes_there = in_whole takes_declared (contains_at (declared_from k (lock_declarations n at ++ back)) 2 takes_declared refl)

  gives_there : Contains ds gives_declared
  gives_there = in_whole gives_declared (contains_at (declared_from k (lock_declarations n at ++ back)) 3 gives_declared refl)

  held_means : (scope : Scope) (name : Ident) → n.held ≡ name.text → meaning ds scope name ≡ Some held_declared
  held_means scope name e = means_it ds hold.apart held_declared held_there refl scope name e

  free_means : (scope : Scope) (name : Ident) → n.free ≡ name.text → meaning ds scope name ≡ Some free_declared
  free_means scope name e = means_it ds hold.apart free_declared free_there refl scope name e

  pub takes_means : (scope : Scope) (name : Ident) → n.takes ≡ name.text → meaning ds scope name ≡ Some takes_declared
  takes_means scope name e = means_it ds hold.apart takes_declared takes_there refl scope name e

  pub gives_means : (scope : Scope) (name : Ident) → n.gives ≡ name.text → meaning ds scope name ≡ Some gives_declared
  gives_means scope name e = means_it ds hold.apart gives_declared gives_there refl scope name e

  uses_later : UsesAgree ds k.modules (lock_declarations n at ++ back)
  uses_later = (uses_rest ds none_yet front (lock_declarations n at ++ back) hold.uses).1

  -- the scheduler's name means one scheduler everywhere
  at_means : (scope : Scope) (name : Ident) → n.at ≡ name.text → number_of ds scope name ≡ number_of ds Everywhere (name_of n.at)
  at_means scope name e =
      let m = uses_later.0 in
      let d = m.declaration in
      let is = meant_is ds Everywhere (name_at n at 14 n.at) d m.means in
      let all = everywhere_seen d.scope is.2 in
      let here = means_it ds hold.apart d is.0 all scope name (is.1 ∙ e) in
      let there = means_it ds hold.apart d is.0 all Everywhere (name_of n.at) is.1 in
      ap number_or_0 here ∙ sym (ap number_or_0 there)

  -- ---- heads

  has_rest : HasRest h ds k (lock_declarations n at ++ back)
  has_rest = rest_has h ds none_yet front (lock_declarations n at ++ back) (has_all ds whole)

  abbrev variable : SharedHead
  variable = record { name = n.held; scheduler = scheduler_of ds Everywhere (name_at n at 14 n.at); value = pos 0 }

  shared_is : slice_get h.shared k.shared ≡ Some variable
  shared_is = follows_head _ _ _ _ has_rest.shared

  abbrev taker : Signature
  taker = signature_of ds k.modules (head_at n at 17 n.takes 18) []

  abbrev giver : Signature
  giver = signature_of ds (k.modules + 1) (head_at n at 19 n.gives 20) []

  taker_is : slice_get h.modules k.modules ≡ Some taker
  taker_is = follows_head _ _ _ _ has_rest.modules

  giver_is : slice_get h.modules (k.modules + 1) ≡ Some giver
  giver_is = follows_head _ _ _ _ (follows_tail _ _ _ _ has_rest.modules)

  -- the lock by its numbers
  abbrev lock : Lock
  lock = record {
    at = scheduler_of ds Everywhere (name_of n.at);
    held = record { 0 = k.shared };
    free = record { 0 = k.events };
    takes = record { 0 = k.modules };
    gives = record { 0 = k.modules + 1 };
  }

  has_numbers : HasNumbers h lock n
  has_numbers = record { variable = variable; declared = shared_is; named = refl; taker = taker; takes = taker_is; takes_named = refl; giver = giver; gives = giver_is; gives_named = refl }

  -- ---- bodies

  abbrev taker_body : res.Body
  taker_body = res.body_of (num.body_of ds (Within k.modules) (takes_statements n at) 0)

  abbrev giver_body : res.Body
  giver_body = res.body_of (num.body_of ds (Within (k.modules + 1)) (gives_statements n at) 0)

  abbrev front_bodies : List res.Body
  front_bodies = map_bodies (modules_in ds 0 front)

  abbrev back_bodies : List res.Body
  back_bodies = map_bodies (modules_in ds (k.modules + 1 + 1) back)

  bodies_are : p.bodies ≡ front_bodies ++ taker_body ∷ giver_body ∷ back_bodies
  bodies_are =
      ap map_bodies (modules_split ds none_yet front (lock_declarations n at ++ back))
      ∙ map-append (λ (m : NamedModule). res.body_of m.body) (modules_in ds 0 front) (modules_in ds k.modules (lock_declarations n at ++ back))

  front_length : length front_bodies ≡ k.modules
  front_length =
      let a = length-map (modules_in ds 0 front) (λ (m : NamedModule). res.body_of m.body) in
      let b = modules_count ds none_yet front in
      omega (arith, a, b)

  taker_slot : slice_get p.bodies k.modules ≡ Some taker_body
  taker_slot =
      ap (λ (l : List res.Body). slice_get l k.modules) bodies_are
      ∙ (ap (slice_get (front_bodies ++ taker_body ∷ giver_body ∷ back_bodies)) (sym front_length) ∙ get_there front_bodies taker_body (giver_body ∷ back_bodies))

  giver_slot : slice_get p.bodies (k.modules + 1) ≡ Some giver_body
  giver_slot =
      ap (λ (l : List res.Body). slice_get l (k.modules + 1)) bodies_are
      ∙ (ap (λ j. slice_get (front_bodies ++ taker_body ∷ giver_body ∷ back_bodies) (j + 1)) (sym front_length) ∙ get_next front_bodies taker_body giver_body back_bodies)

  -- the two bodies, by what the names in them mean
  takes_by : Option Declared → Option Declared → res.Body
  takes_by o q =
      res.Then (res.Loop (res.exp_of (variable_term ds (Within k.modules) (at 1) (holder_of o)))
      (res.Then (res.Hold 1 (res.Await (record { 0 = number_or_0 q } ∷ []) None))
      (res.Then (res.Choose (res.exp_of (variable_term ds (Within k.modules) (at 5) (holder_of o))) (res.Then (res.Hold 2 (res.Cooperate None)) res.Empty) res.Empty) res.Empty)))
      (res.Then (res.Do (res.Assign (res.target_of (held_by ds (Within k.modules) (at 7) (holder_of o))) (res.Number (pos 1)))) res.Empty)

  gives_by : Option Declared → Option Declared → res.Body
  gives_by o q =
      res.Then (res.Do (res.Assign (res.target_of (held_by ds (Within (k.modules + 1)) (at 9) (holder_of o))) (res.Number (pos 0))))
      (res.Then (res.Do (res.Generate (record { 0 = number_or_0 q }) None)) res.Empty)

  taker_body_is : taker_body ≡ lock_body lock
  unfolding takes_by
  taker_body_is =
      ap (λ o. takes_by o (meaning ds (Within k.modules) (name_at n at 3 n.free))) (held_means (Within k.modules) (name_at n at 1 n.held) refl)
      ∙ ap (takes_by (Some held_declared)) (free_means (Within k.modules) (name_at n at 3 n.free) refl)

  giver_body_is : giver_body ≡ unlock_body lock
  unfolding gives_by
  giver_body_is =
      ap (λ o. gives_by o (meaning ds (Within (k.modules + 1)) (name_at n at 12 n.free))) (held_means (Within (k.modules + 1)) (name_at n at 9 n.held) refl)
      ∙ ap (gives_by (Some held_declared)) (free_means (Within (k.modules + 1)) (name_at n at 12 n.free) refl)

  -- ---- places

  at_place : (scope : Scope) (j : ℕ) → Sched (scheduler_of ds scope (name_at n at j n.at)) ≡ Sched lock.at
  at_place scope j = ap (λ (i : ℕ). Sched (record { 0 = i })) (at_means scope (name_at n at j n.at) refl)

  taker_begin : begin_of h lock.takes ≡ Sched lock.at
  taker_begin = ap begin_or_unlinked taker_is ∙ at_place (Within k.modules) 18

  taker_end : end_of h lock.takes ≡ Sched lock.at
  taker_end = ap end_or_unlinked taker_is ∙ at_place (Within k.modules) 18

  giver_begin : begin_of h lock.gives ≡ Sched lock.at
  giver_begin = ap begin_or_unlinked giver_is ∙ at_place (Within (k.modules + 1)) 20

  giver_end : end_of h lock.gives ≡ Sched lock.at
  giver_end = ap end_or_unlinked giver_is ∙ at_place (Within (k.modules + 1)) 20

  -- ---- what keeps away

  each_has : Each (HasHead h) ds
  each_has = each_declared_has whole

  apart_of : (m : ModuleId) → call_of lock m ≡ Other → (m.0 ≡ k.modules → ⊥) × (m.0 ≡ k.modules + 1 → ⊥)
  apart_of m e = by (m.0 == k.modules) (m.0 == k.modules + 1) refl refl e
    where
      by : (a b : Bool) → (m.0 == k.modules) ≡ a → (m.0 == k.modules + 1) ≡ b → (if a then Takes else (if b then Gives else Other)) ≡ Other → (m.0 ≡ k.modules → ⊥) × (m.0 ≡ k.modules + 1 → ⊥)
      by true b x y e = absurd cc
      by false true x y e = absurd cc
      by false false x y e = (λ is. let yes = eq-eqb m.0 k.modules is in cc, λ is. let yes = eq-eqb m.0 (k.modules + 1) is in cc)

  or_empty : (o : Option res.Body) → OfSome (λ (b : res.Body). BodyKeeps lock b) o → BodyKeeps lock (unwrap_or o Empty)
  or_empty None f = tt
  or_empty (Some b) f = f

  module _ (keep_front : Each (DeclarationKeeps n) front) (keep_back : Each (DeclarationKeeps n) back) where
    keeps_all : (m : ModuleId) → call_of lock m ≡ Other → BodyKeeps lock (body_at p m)
    keeps_all m e =
        let off = apart_of m e in
        let f = bodies_keep h ds each_has lock n has_numbers 0 front (uses_rest ds none_yet front (lock_declarations n at ++ back) hold.uses).0 keep_front in
        let g = bodies_keep h ds each_has lock n has_numbers (k.modules + 1 + 1) back uses_later.1.1.1.1 keep_back in
        or_empty (slice_get p.bodies m.0)
        (subst (λ (l : List res.Body). OfSome (λ (b : res.Body). BodyKeeps lock b) (slice_get l m.0)) (sym bodies_are)
        (get_apart (λ (b : res.Body). BodyKeeps lock b) front_bodies taker_body giver_body back_bodies m.0 f g (λ is. off.0 (is ∙ front_length)) (λ is. off.1 (is ∙ ap (λ j. j + 1) front_length))))

    outer_all : Each (OuterKeeps h ds each_has lock n has_numbers) whole
    outer_all =
        each-append (OuterKeeps h ds each_has lock n has_numbers) front (lock_declarations n at ++ back) (outer_keeps h ds each_has lock n has_numbers front keep_front)
        (tt, (tt, (tt, (tt, outer_keeps h ds each_has lock n has_numbers back keep_back))))

    expands : ((m : ModuleId) → call_of lock m ≡ Other → BodyPairs p lock false false (body_at p m)) → IsExpanded p lock
    expands pairs = record {
      variable = variable;
      declared = shared_is;
      there = refl;
      begins = refl;
      takes = taker_slot ∙ ap (λ b. Some b) taker_body_is;
      gives = giver_slot ∙ ap (λ b. Some b) giver_body_is;
      takes_there = (taker_begin, taker_end);
      gives_there = (giver_begin, giver_end);
      others = pairs;
      starts = starts_keep h ds each_has lock n has_numbers 0 whole hold.uses outer_all;
      clients = clients_keep h ds each_has lock n has_numbers 0 whole hold.uses outer_all;
    }

    -- as its names say it
    same_lock : lock ≡ lock_in whole n
    same_lock =
        let a = ap number_or_0 (held_means Everywhere (name_of n.held) refl) in
        let b = ap number_or_0 (free_means Everywhere (name_of n.free) refl) in
        let c = ap number_or_0 (takes_means Everywhere (name_of n.takes) refl) in
        let d = ap number_or_0 (gives_means Everywhere (name_of n.gives) refl) in
        sym (ap (λ i. of_numbers i (number_of ds Everywhere (name_of n.free)) (number_of ds Everywhere (name_of n.takes)) (number_of ds Everywhere (name_of n.gives))) a
        ∙ (ap (λ i. of_numbers k.shared i (number_of ds Everywhere (name_of n.takes)) (number_of ds Everywhere (name_of n.gives))) b
        ∙ (ap (λ i. of_numbers k.shared k.events i (number_of ds Everywhere (name_of n.gives))) c ∙ ap (λ i. of_numbers k.shared k.events k.modules i) d)))
      where
        of_numbers : ℕ → ℕ → ℕ → ℕ → Lock
        of_numbers a b c d = record { at = scheduler_of ds Everywhere (name_of n.at); held = record { 0 = a }; free = record { 0 = b }; takes = record { 0 = c }; gives = record { 0 = d } }

    lock_stands : LockStands whole n
    lock_stands =
        subst (λ (l : Lock). (((m : ModuleId) → call_of l m ≡ Other → BodyPairs p l false false (body_at p m)) → IsExpanded p l) × ((m : ModuleId) → call_of l m ≡ Other → BodyKeeps l (body_at p m)))
        same_lock (expands, keeps_all)

-- as the law says it
pub locks_stand : (s : Source) (n : LockNames) → NamesFit s → HasLock s n → LockStands s n
locks_stand s n fit has =
    subst (λ (t : Source). LockStands t n) (sym has.parts)
    (lock_stands n has.at has.before has.after (subst NamesHold has.parts (fits_holds s fit)) has.keep_before has.keep_after)

-- the numbers of the lock are those of heads with its names
pub numbers_stand : (s : Source) (n : LockNames) → NamesFit s → HasLock s n → HasNumbers (heads_of (declared s) s) (lock_in s n) n
numbers_stand s n fit has =
    let hold = subst NamesHold has.parts (fits_holds s fit) in
    subst (λ (t : Source). HasNumbers (heads_of (declared t) t) (lock_in t n) n) (sym has.parts)
    (subst (λ (l : Lock). HasNumbers (h n has.at has.before has.after hold) l n) (same_lock n has.at has.before has.after hold has.keep_before has.keep_after) (has_numbers n has.at has.before has.after hold))

-- what its two modules do
abbrev pub HasBodies : Source → LockNames → Type 0
HasBodies s n =
    let q = resolved_of (numbered s) in
    let l = lock_in s n in
    (slice_get q.bodies l.takes.0 ≡ Some (lock_body l)) × (slice_get q.bodies l.gives.0 ≡ Some (unlock_body l))

pub bodies_stand : (s : Source) (n : LockNames) → NamesFit s → HasLock s n → HasBodies s n
bodies_stand s n fit has =
    let hold = subst NamesHold has.parts (fits_holds s fit) in
    let w = whole n has.at has.before has.after hold in
    let here : (slice_get (resolved_of (numbered w)).bodies (lock n has.at has.before has.after hold).takes.0 ≡ Some (lock_body (lock n has.at has.before has.after hold)))
    × (slice_get (resolved_of (numbered w)).bodies (lock n has.at has.before has.after hold).gives.0 ≡ Some (unlock_body (lock n has.at has.before has.after hold))) =
    (taker_slot n has.at has.before has.after hold ∙ ap (λ b. Some b) (taker_body_is n has.at has.before has.after hold), giver_slot n has.at has.before has.after hold ∙ ap (λ b. Some b) (giver_body_is n has.at has.before has.after hold)) in
    subst (λ (t : Source). HasBodies t n) (sym has.parts)
    (subst (λ (l : Lock). (slice_get (resolved_of (numbered w)).bodies l.takes.0 ≡ Some (lock_body l)) × (slice_get (resolved_of (numbered w)).bodies l.gives.0 ≡ Some (unlock_body l)))
    (same_lock n has.at has.before has.after hold has.keep_before has.keep_after) here)
