-- How many heads of each sort there are, and their order.
use Rattle.std.proofs.Common.{◌≡◌, ℕ, ◌+◌, suc, Bool, true, false, cond, List, [], ◌∷◌, length, refl, ap, arith}
use Rattle.std.specs.List.{count_by}
use Rattle.std.proofs.lemmas.List.Sums.{sum_by-cons}
use Rattle.loft_tree.specs.Source.{Named, Scheduler, Event, Shared, Module, Start, Outside, Source}
use Rattle.loft_tree.specs.Fits.{is_scheduler, is_event, is_shared, is_module, is_start, is_outside}
use Rattle.loft_tree.specs.NamedFits.{Tally, AreCounted, no_items, tally_of}
use Rattle.loft_scopes.specs.declared.counts.DeclarationCounts.{DeclarationCounts}
use Rattle.loft_scopes.specs.Scopes.{Declared, after, none_yet}
use Rattle.loft_numbers.specs.Numbers.{schedulers_in, events_in, shared_in, slots_of, signatures_in, starts_in, clients_in, items_in, heads_of}

-- one that passes a test counts, one that doesn't counts nothing
counts : {A : Type 0} (test : A → Bool) (x : A) (xs : List A) (n : ℕ) → test x ≡ true → n ≡ count_by test xs → suc n ≡ count_by test (x ∷ xs)
counts test x xs n passes e = let of : Bool → ℕ = λ b. cond b 1 0 in let one : of (test x) ≡ of true = ap of passes in
    let step : count_by test (x ∷ xs) ≡ of (test x) + count_by test xs = sum_by-cons (λ y. cond (test y) 1 0) x xs in omega (arith, one, step, e)

counts_not : {A : Type 0} (test : A → Bool) (x : A) (xs : List A) (n : ℕ) → test x ≡ false → n ≡ count_by test xs → n ≡ count_by test (x ∷ xs)
counts_not test x xs n fails e = let of : Bool → ℕ = λ b. cond b 1 0 in let none : of (test x) ≡ of false = ap of fails in
    let step : count_by test (x ∷ xs) ≡ of (test x) + count_by test xs = sum_by-cons (λ y. cond (test y) 1 0) x xs in omega (arith, none, step, e)

pub schedulers-length : (p : Source) → length (schedulers_in p) ≡ count_by is_scheduler p
schedulers-length [] = refl
schedulers-length (Scheduler name ∷ rest) = counts is_scheduler (Scheduler name) rest _ refl (schedulers-length rest)
schedulers-length (d ∷ rest) = counts_not is_scheduler d rest _ refl (schedulers-length rest)

pub slots-length : (vs : List Named) → length (slots_of vs) ≡ length vs
slots-length [] = refl
slots-length (v ∷ vs) = ap suc (slots-length vs)

module _ (ds : List Declared) where
  pub events-length : (p : Source) → length (events_in ds p) ≡ count_by is_event p
  events-length [] = refl
  events-length (Event name scheduler ∷ rest) = counts is_event (Event name scheduler) rest _ refl (events-length rest)
  events-length (d ∷ rest) = counts_not is_event d rest _ refl (events-length rest)

  pub shared-length : (p : Source) → length (shared_in ds p) ≡ count_by is_shared p
  shared-length [] = refl
  shared-length (Shared name scheduler value ∷ rest) = counts is_shared (Shared name scheduler value) rest _ refl (shared-length rest)
  shared-length (d ∷ rest) = counts_not is_shared d rest _ refl (shared-length rest)

  pub modules-length : (m : ℕ) (p : Source) → length (signatures_in ds m p) ≡ count_by is_module p
  modules-length m [] = refl
  modules-length m (Module head locals body ∷ rest) = counts is_module (Module head locals body) rest _ refl (modules-length (m + 1) rest)
  modules-length m (d ∷ rest) = counts_not is_module d rest _ refl (modules-length m rest)

  pub starts-length : (p : Source) → length (starts_in ds p) ≡ count_by is_start p
  starts-length [] = refl
  starts-length (Start scheduler called arguments name ∷ rest) = counts is_start (Start scheduler called arguments name) rest _ refl (starts-length rest)
  starts-length (d ∷ rest) = counts_not is_start d rest _ refl (starts-length rest)

  pub clients-length : (p : Source) → length (clients_in ds p) ≡ count_by is_outside p
  clients-length [] = refl
  clients-length (Outside name orders ∷ rest) = counts is_outside (Outside name orders) rest _ refl (clients-length rest)
  clients-length (d ∷ rest) = counts_not is_outside d rest _ refl (clients-length rest)

  -- ---- the order

  tally : DeclarationCounts → Tally
  tally n = record { schedulers = n.schedulers; events = n.events; shared = n.shared; modules = n.modules; starts = n.starts; clients = n.clients }

  -- these heads follow, and make so many in all
  record MakesAll (n : DeclarationCounts) (rest : Source) (all : Tally) : Type 0 where
    schedulers : n.schedulers + length (schedulers_in rest) ≡ all.schedulers
    events : n.events + length (events_in ds rest) ≡ all.events
    shared : n.shared + length (shared_in ds rest) ≡ all.shared
    modules : n.modules + length (signatures_in ds n.modules rest) ≡ all.modules
    starts : n.starts + length (starts_in ds rest) ≡ all.starts
    clients : n.clients + length (clients_in ds rest) ≡ all.clients

  counted : (n : DeclarationCounts) (rest : Source) (all : Tally) → MakesAll n rest all → AreCounted (tally n) (items_in n rest) all
  unfolding tally
  counted n [] all m = λ i. record {
    schedulers = (let e : n.schedulers ≡ all.schedulers = omega (arith, m.schedulers) in e) i;
    events = (let e : n.events ≡ all.events = omega (arith, m.events) in e) i;
    shared = (let e : n.shared ≡ all.shared = omega (arith, m.shared) in e) i;
    modules = (let e : n.modules ≡ all.modules = omega (arith, m.modules) in e) i;
    starts = (let e : n.starts ≡ all.starts = omega (arith, m.starts) in e) i;
    clients = (let e : n.clients ≡ all.clients = omega (arith, m.clients) in e) i;
  }
  counted n (Scheduler name ∷ rest) all m = (refl, counted (after n (Scheduler name)) rest all (record { schedulers = omega (arith, m.schedulers); events = m.events; shared = m.shared; modules = m.modules; starts = m.starts; clients = m.clients }))
  counted n (Event name scheduler ∷ rest) all m = (refl, counted (after n (Event name scheduler)) rest all (record { schedulers = m.schedulers; events = omega (arith, m.events); shared = m.shared; modules = m.modules; starts = m.starts; clients = m.clients }))
  counted n (Shared name scheduler value ∷ rest) all m = (refl, counted (after n (Shared name scheduler value)) rest all (record { schedulers = m.schedulers; events = m.events; shared = omega (arith, m.shared); modules = m.modules; starts = m.starts; clients = m.clients }))
  counted n (Module head locals body ∷ rest) all m = (refl, counted (after n (Module head locals body)) rest all (record { schedulers = m.schedulers; events = m.events; shared = m.shared; modules = omega (arith, m.modules); starts = m.starts; clients = m.clients }))
  counted n (Start s c arguments name ∷ rest) all m = (refl, counted (after n (Start s c arguments name)) rest all (record { schedulers = m.schedulers; events = m.events; shared = m.shared; modules = m.modules; starts = omega (arith, m.starts); clients = m.clients }))
  counted n (Outside name orders ∷ rest) all m = (refl, counted (after n (Outside name orders)) rest all (record { schedulers = m.schedulers; events = m.events; shared = m.shared; modules = m.modules; starts = m.starts; clients = omega (arith, m.clients) }))

  pub items_counted : (p : Source) → AreCounted no_items (items_in none_yet p) (tally_of (heads_of ds p))
  unfolding tally
  items_counted p = counted none_yet p (tally_of (heads_of ds p)) (record {
    schedulers = omega arith;
    events = omega arith;
    shared = omega arith;
    modules = omega arith;
    starts = omega arith;
    clients = omega arith;
  })
