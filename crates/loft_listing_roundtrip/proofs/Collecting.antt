-- Code is its parts, put together again.
use Rattle.std.proofs.Common.{◌≡◌, ℕ, ◌+◌, ◌<◌, ◌≤◌, zero, suc, List, [], ◌∷◌, ◌++◌, length, Option, Some, refl, sym, subst, ap, ◌∙◌, arith}
use Rattle.std.specs.Prelude.{slice_get, drop, unwrap_or}
use Rattle.loft_tree.specs.declared.heads.EventHead.{EventHead}
use Rattle.loft_tree.specs.declared.heads.SharedHead.{SharedHead}
use Rattle.loft_tree.specs.declared.heads.Signature.{Signature}
use Rattle.loft_tree.specs.declared.heads.Start.{Start}
use Rattle.loft_tree.specs.declared.heads.Client.{Client}
use Rattle.loft_tree.specs.declared.heads.HeadItem.{HeadItem}
use Rattle.loft_tree.specs.declared.heads.HeadItem.TheVariants as item
use Rattle.loft_tree.specs.declared.heads.Heads.{Heads}
use Rattle.loft_tree.specs.NamedFits.{Tally, AreCounted, no_items, tally_of}
use Rattle.loft_scopes.specs.declared.counts.DeclarationCounts.{DeclarationCounts}
use Rattle.loft_code.specs.Fits.{RawFits}
use Rattle.loft_code.specs.Operations.{Line, Automata}
use Rattle.loft_listing.specs.Lines.{operations_of}
use Rattle.loft_listing_roundtrip.proofs.Parts.{Part, SchedulerPart, EventPart, SharedPart, ModulePart, StartPart, ClientPart, schedulers_in, events_in, shared_in, modules_in, lines_in, starts_in, clients_in, items_from, part_if, parts_at, parts_of, together}

-- ---- lists

-- what is at an index stands before what follows it
drop_at : {A : Type 0} (xs : List A) (k : ℕ) (x : A) → slice_get xs k ≡ Some x → drop k xs ≡ x ∷ drop (k + 1) xs
drop_at [] k x is = absurd cc
drop_at (y ∷ ys) zero x is = let same : y ≡ x = cc in ap (λ z. z ∷ ys) same
drop_at (y ∷ ys) (suc k) x is = let e : suc (k + 1) ≡ suc k + 1 = omega arith in drop_at ys k x is ∙ ap (λ n. x ∷ drop n (y ∷ ys)) e

drop_all : {A : Type 0} (xs : List A) → drop (length xs) xs ≡ []
drop_all [] = refl
drop_all (x ∷ xs) = drop_all xs

there_is : {A : Type 0} (xs : List A) (k : ℕ) → k < length xs → (x : A) × (slice_get xs k ≡ Some x)
there_is [] k h = absurd (omega arith)
there_is (x ∷ xs) zero h = (x, refl)
there_is (x ∷ xs) (suc k) h = there_is xs k (omega arith)

-- ---- numbers of declarations

-- as many of each sort or fewer
record AreWithin (n all : Tally) : Type 0 where
  schedulers : n.schedulers ≤ all.schedulers
  events : n.events ≤ all.events
  shared : n.shared ≤ all.shared
  modules : n.modules ≤ all.modules
  starts : n.starts ≤ all.starts
  clients : n.clients ≤ all.clients

all_within : (n all : Tally) → n ≡ all → AreWithin n all
all_within n all same =
    let itself : AreWithin all all = record { schedulers = omega arith; events = omega arith; shared = omega arith; modules = omega arith; starts = omega arith; clients = omega arith } in
    subst (λ (k : Tally). AreWithin k all) (sym same) itself

are_within : (n : Tally) (is : List HeadItem) (all : Tally) → AreCounted n is all → AreWithin n all
are_within n [] all counted = all_within n all counted
are_within n (item.Scheduler s ∷ is) all counted =
    let rest = are_within (record n { schedulers = n.schedulers + 1 }) is all counted.1 in
    record { schedulers = omega (arith, rest.schedulers); events = rest.events; shared = rest.shared; modules = rest.modules; starts = rest.starts; clients = rest.clients }
are_within n (item.Event e ∷ is) all counted =
    let rest = are_within (record n { events = n.events + 1 }) is all counted.1 in
    record { schedulers = rest.schedulers; events = omega (arith, rest.events); shared = rest.shared; modules = rest.modules; starts = rest.starts; clients = rest.clients }
are_within n (item.Shared x ∷ is) all counted =
    let rest = are_within (record n { shared = n.shared + 1 }) is all counted.1 in
    record { schedulers = rest.schedulers; events = rest.events; shared = omega (arith, rest.shared); modules = rest.modules; starts = rest.starts; clients = rest.clients }
are_within n (item.Module m ∷ is) all counted =
    let rest = are_within (record n { modules = n.modules + 1 }) is all counted.1 in
    record { schedulers = rest.schedulers; events = rest.events; shared = rest.shared; modules = omega (arith, rest.modules); starts = rest.starts; clients = rest.clients }
are_within n (item.Start t ∷ is) all counted =
    let rest = are_within (record n { starts = n.starts + 1 }) is all counted.1 in
    record { schedulers = rest.schedulers; events = rest.events; shared = rest.shared; modules = rest.modules; starts = omega (arith, rest.starts); clients = rest.clients }
are_within n (item.Client c ∷ is) all counted =
    let rest = are_within (record n { clients = n.clients + 1 }) is all counted.1 in
    record { schedulers = rest.schedulers; events = rest.events; shared = rest.shared; modules = rest.modules; starts = rest.starts; clients = omega (arith, rest.clients) }

-- ---- what the parts are after so many

abbrev sofar_of : Tally → DeclarationCounts
sofar_of n = record { schedulers = n.schedulers; events = n.events; shared = n.shared; modules = n.modules; starts = n.starts; clients = n.clients }

-- the parts are what is left of the code after so many, and these items
record Collects (h : Heads) (modules : List (List Line)) (n : Tally) (is : List HeadItem) (ps : List Part) : Type 0 where
  schedulers : schedulers_in ps ≡ drop n.schedulers h.schedulers
  events : events_in ps ≡ drop n.events h.events
  shared : shared_in ps ≡ drop n.shared h.shared
  heads : modules_in ps ≡ drop n.modules h.modules
  lines : lines_in ps ≡ drop n.modules modules
  starts : starts_in ps ≡ drop n.starts h.starts
  clients : clients_in ps ≡ drop n.clients h.clients
  items : items_from (sofar_of n) ps ≡ is

-- what stands first, and what follows it
first_and : {A : Type 0} (x : A) (xs all : List A) (k : ℕ) → slice_get all k ≡ Some x → xs ≡ drop (k + 1) all → x ∷ xs ≡ drop k all
first_and x xs all k is rest = ap (λ ys. x ∷ ys) rest ∙ sym (drop_at all k x is)

none_left : (h : Heads) (modules : List (List Line)) (n : Tally) → length modules ≡ length h.modules → n ≡ tally_of h → Collects h modules n [] []
none_left h modules n many same = subst (λ (k : Tally). Collects h modules k [] []) (sym same) (record {
  schedulers = sym (drop_all h.schedulers);
  events = sym (drop_all h.events);
  shared = sym (drop_all h.shared);
  heads = sym (drop_all h.modules);
  lines = sym (drop_all modules) ∙ ap (λ k. drop k modules) many;
  starts = sym (drop_all h.starts);
  clients = sym (drop_all h.clients);
  items = refl;
})

operations_there : (modules : List (List Line)) (m : ℕ) (lines : List Line) → slice_get modules m ≡ Some lines → operations_of modules m ≡ lines
operations_there modules m lines is = ap (λ (o : Option (List Line)). unwrap_or o []) is

collects : (h : Heads) (modules : List (List Line)) → length modules ≡ length h.modules → (n : Tally) (is : List HeadItem) → AreCounted n is (tally_of h) → Collects h modules n is (parts_at h modules is)
collects h modules many n [] counted = none_left h modules n many counted
collects h modules many n (item.Scheduler s ∷ is) counted =
    let rest = collects h modules many (record n { schedulers = n.schedulers + 1 }) is counted.1 in
    let within = are_within (record n { schedulers = n.schedulers + 1 }) is (tally_of h) counted.1 in
    let x = there_is h.schedulers n.schedulers (omega (arith, within.schedulers)) in
    let at : slice_get h.schedulers s.0 ≡ Some x.0 = ap (slice_get h.schedulers) counted.0 ∙ x.1 in
    subst (λ (o : Option (List ℕ)). Collects h modules n (item.Scheduler s ∷ is) (part_if SchedulerPart o ++ parts_at h modules is)) (sym at) (record {
      schedulers = first_and x.0 (schedulers_in (parts_at h modules is)) h.schedulers n.schedulers x.1 rest.schedulers;
      events = rest.events;
      shared = rest.shared;
      heads = rest.heads;
      lines = rest.lines;
      starts = rest.starts;
      clients = rest.clients;
      items = (λ i. item.Scheduler (record { 0 = sym counted.0 i }) ∷ rest.items i);
    })
collects h modules many n (item.Event e ∷ is) counted =
    let rest = collects h modules many (record n { events = n.events + 1 }) is counted.1 in
    let within = are_within (record n { events = n.events + 1 }) is (tally_of h) counted.1 in
    let x = there_is h.events n.events (omega (arith, within.events)) in
    let at : slice_get h.events e.0 ≡ Some x.0 = ap (slice_get h.events) counted.0 ∙ x.1 in
    subst (λ (o : Option EventHead). Collects h modules n (item.Event e ∷ is) (part_if EventPart o ++ parts_at h modules is)) (sym at) (record {
      schedulers = rest.schedulers;
      events = first_and x.0 (events_in (parts_at h modules is)) h.events n.events x.1 rest.events;
      shared = rest.shared;
      heads = rest.heads;
      lines = rest.lines;
      starts = rest.starts;
      clients = rest.clients;
      items = (λ i. item.Event (record { 0 = sym counted.0 i }) ∷ rest.items i);
    })
collects h modules many n (item.Shared y ∷ is) counted =
    let rest = collects h modules many (record n { shared = n.shared + 1 }) is counted.1 in
    let within = are_within (record n { shared = n.shared + 1 }) is (tally_of h) counted.1 in
    let x = there_is h.shared n.shared (omega (arith, within.shared)) in
    let at : slice_get h.shared y.0 ≡ Some x.0 = ap (slice_get h.shared) counted.0 ∙ x.1 in
    subst (λ (o : Option SharedHead). Collects h modules n (item.Shared y ∷ is) (part_if SharedPart o ++ parts_at h modules is)) (sym at) (record {
      schedulers = rest.schedulers;
      events = rest.events;
      shared = first_and x.0 (shared_in (parts_at h modules is)) h.shared n.shared x.1 rest.shared;
      heads = rest.heads;
      lines = rest.lines;
      starts = rest.starts;
      clients = rest.clients;
      items = (λ i. item.Shared (record { 0 = sym counted.0 i }) ∷ rest.items i);
    })
collects h modules many n (item.Module m ∷ is) counted =
    let rest = collects h modules many (record n { modules = n.modules + 1 }) is counted.1 in
    let within = are_within (record n { modules = n.modules + 1 }) is (tally_of h) counted.1 in
    let x = there_is h.modules n.modules (omega (arith, within.modules)) in
    let lines = there_is modules n.modules (omega (arith, within.modules, many)) in
    let at : slice_get h.modules m.0 ≡ Some x.0 = ap (slice_get h.modules) counted.0 ∙ x.1 in
    let has : operations_of modules m.0 ≡ lines.0 = operations_there modules m.0 lines.0 (ap (slice_get modules) counted.0 ∙ lines.1) in
    subst (λ (o : Option Signature). Collects h modules n (item.Module m ∷ is) (part_if (λ y. ModulePart y (operations_of modules m.0)) o ++ parts_at h modules is)) (sym at) (record {
      schedulers = rest.schedulers;
      events = rest.events;
      shared = rest.shared;
      heads = first_and x.0 (modules_in (parts_at h modules is)) h.modules n.modules x.1 rest.heads;
      lines = ap (λ ls. ls ∷ lines_in (parts_at h modules is)) has ∙ first_and lines.0 (lines_in (parts_at h modules is)) modules n.modules lines.1 rest.lines;
      starts = rest.starts;
      clients = rest.clients;
      items = (λ i. item.Module (record { 0 = sym counted.0 i }) ∷ rest.items i);
    })
collects h modules many n (item.Start t ∷ is) counted =
    let rest = collects h modules many (record n { starts = n.starts + 1 }) is counted.1 in
    let within = are_within (record n { starts = n.starts + 1 }) is (tally_of h) counted.1 in
    let x = there_is h.starts n.starts (omega (arith, within.starts)) in
    let at : slice_get h.starts t ≡ Some x.0 = ap (slice_get h.starts) counted.0 ∙ x.1 in
    subst (λ (o : Option Start). Collects h modules n (item.Start t ∷ is) (part_if StartPart o ++ parts_at h modules is)) (sym at) (record {
      schedulers = rest.schedulers;
      events = rest.events;
      shared = rest.shared;
      heads = rest.heads;
      lines = rest.lines;
      starts = first_and x.0 (starts_in (parts_at h modules is)) h.starts n.starts x.1 rest.starts;
      clients = rest.clients;
      items = (λ i. item.Start (sym counted.0 i) ∷ rest.items i);
    })
collects h modules many n (item.Client c ∷ is) counted =
    let rest = collects h modules many (record n { clients = n.clients + 1 }) is counted.1 in
    let within = are_within (record n { clients = n.clients + 1 }) is (tally_of h) counted.1 in
    let x = there_is h.clients n.clients (omega (arith, within.clients)) in
    let at : slice_get h.clients c ≡ Some x.0 = ap (slice_get h.clients) counted.0 ∙ x.1 in
    subst (λ (o : Option Client). Collects h modules n (item.Client c ∷ is) (part_if ClientPart o ++ parts_at h modules is)) (sym at) (record {
      schedulers = rest.schedulers;
      events = rest.events;
      shared = rest.shared;
      heads = rest.heads;
      lines = rest.lines;
      starts = rest.starts;
      clients = first_and x.0 (clients_in (parts_at h modules is)) h.clients n.clients x.1 rest.clients;
      items = (λ i. item.Client (sym counted.0 i) ∷ rest.items i);
    })

pub put_together : (c : Automata) → RawFits c → together (parts_of c) ≡ c
put_together c fits =
    let all = collects c.heads c.modules fits.all_modules no_items c.heads.items fits.heads.within.items in
    (λ i. record {
      heads = record {
        schedulers = all.schedulers i;
        events = all.events i;
        shared = all.shared i;
        modules = all.heads i;
        starts = all.starts i;
        clients = all.clients i;
        items = all.items i;
      };
      modules = all.lines i;
    })
