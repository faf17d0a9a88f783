-- The declarations of a program that fits are few enough to be numbered.
use Rattle.std.proofs.Common.{◌≡◌, ℕ, ◌+◌, ◌<◌, ◌≤◌, ◌^◌, cond, zero, suc, List, [], ◌∷◌, length, get_or, ◌-◌, subst, sym, refl, arith}
use Rattle.std.specs.List.{count_by}
use Rattle.std.proofs.lemmas.List.Sums.{sum_by-cons}
use Rattle.std.proofs.lemmas.List.{length-map}
use Rattle.loft_tree.specs.declared.program.Item.{Item}
use Rattle.loft_tree.specs.Source.{Declaration, Scheduler, Event, Shared, Module, Start, Outside, Source}
use Rattle.loft_tree.specs.View.{declaration_of, source_of}
use Rattle.loft_tree.specs.Fits.{Each, DeclarationFits, SourceFits, is_scheduler, is_event, is_shared, is_module, is_start, is_outside}
use Rattle.loft_scopes.specs.Scopes.{DeclarationCounts, after, none_yet}
use Rattle.loft_scopes.specs.Counts.{HasRoom}

-- each declaration of a program that fits
pub item_fits : (xs : List Item) (i : ℕ) (x : Item) → i < length xs → x ≡ get_or xs i x → Each DeclarationFits (source_of xs) → DeclarationFits (declaration_of x)
item_fits [] i x lt is fits = absurd (omega arith)
item_fits (y ∷ ys) zero x lt is fits = subst (λ (one : Item). DeclarationFits (declaration_of one)) (sym is) fits.0
item_fits (y ∷ ys) (suc i) x lt is fits = item_fits ys i x (omega arith) is fits.1

-- each declaration is of one sort
sorted : (d : Declaration) → cond (is_scheduler d) 1 0 + (cond (is_event d) 1 0 + (cond (is_shared d) 1 0 + (cond (is_module d) 1 0 + (cond (is_start d) 1 0 + cond (is_outside d) 1 0)))) ≡ 1
sorted (Scheduler name) = refl
sorted (Event name scheduler) = refl
sorted (Shared name scheduler value) = refl
sorted (Module head locals body) = refl
sorted (Start scheduler called arguments name) = refl
sorted (Outside name orders) = refl

counted : (p : Source) → count_by is_scheduler p + (count_by is_event p + (count_by is_shared p + (count_by is_module p + (count_by is_start p + count_by is_outside p)))) ≡ length p
counted [] = refl
counted (d ∷ ds) =
    omega (
      arith,
      counted ds,
      sorted d,
      sum_by-cons (λ x. cond (is_scheduler x) 1 0) d ds,
      sum_by-cons (λ x. cond (is_event x) 1 0) d ds,
      sum_by-cons (λ x. cond (is_shared x) 1 0) d ds,
      sum_by-cons (λ x. cond (is_module x) 1 0) d ds,
      sum_by-cons (λ x. cond (is_start x) 1 0) d ds,
      sum_by-cons (λ x. cond (is_outside x) 1 0) d ds,
    )

pub few_items : (items : List Item) → SourceFits (source_of items) → length items < 2 ^ 32
few_items items fits =
    let p : Source = source_of items in
    omega (arith, length-map items declaration_of, counted p, fits.schedulers, fits.events, fits.shared, fits.modules, fits.starts, fits.clients)

pub first_room : (n : DeclarationCounts) (items : List Item) → n ≡ none_yet → SourceFits (source_of items) → HasRoom n (length items - 0)
first_room n items is fits =
    let p : Source = source_of items in
    let long : length p ≡ length items = length-map items declaration_of in
    let few : length p ≤ 5000 = omega (arith, counted p, fits.schedulers, fits.events, fits.shared, fits.modules, fits.starts, fits.clients) in
    subst (λ (m : DeclarationCounts). HasRoom m (length items - 0)) (sym is)
    (record { schedulers = omega arith; events = omega arith; shared = omega arith; modules = omega arith; starts = omega arith; clients = omega arith })

-- room for one less is left
pub room_left : (n : DeclarationCounts) (d : Declaration) (all i : ℕ) → i < all → HasRoom n (all - i) → HasRoom (after n d) (all - (i + 1))
room_left n (Scheduler name) all i lt r = record { schedulers = omega arith; events = omega arith; shared = omega arith; modules = omega arith; starts = omega arith; clients = omega arith }
room_left n (Event name scheduler) all i lt r = record { schedulers = omega arith; events = omega arith; shared = omega arith; modules = omega arith; starts = omega arith; clients = omega arith }
room_left n (Shared name scheduler value) all i lt r = record { schedulers = omega arith; events = omega arith; shared = omega arith; modules = omega arith; starts = omega arith; clients = omega arith }
room_left n (Module head locals body) all i lt r = record { schedulers = omega arith; events = omega arith; shared = omega arith; modules = omega arith; starts = omega arith; clients = omega arith }
room_left n (Start scheduler called arguments name) all i lt r = record { schedulers = omega arith; events = omega arith; shared = omega arith; modules = omega arith; starts = omega arith; clients = omega arith }
room_left n (Outside name orders) all i lt r = record { schedulers = omega arith; events = omega arith; shared = omega arith; modules = omega arith; starts = omega arith; clients = omega arith }
