-- One event generated after another.
use Rattle.std.proofs.Common.{◌≡◌, ◌<◌, ◌≤◌, ◌⊎◌, ◌==◌, ℤ, List, [], ◌∷◌, ◌++◌, length, Option, None, IsTrue, if◌then◌else◌, refl, ◌∙◌, sym, ap, arith, append_assoc, inl, inr, unwrap_or}
use Rattle.std.proofs.lemmas.Grind.{common_steps}
use Rattle.std.proofs.lemmas.Bool.{cases_eq, cases_lt}
use Rattle.std.proofs.lemmas.List.{get_or-set_same, get_or-set_other, append-nil, get_or_past, length-set}
use Rattle.loft_base.specs.declared.ids.EventId.{EventId}
use Rattle.loft_board.specs.Board.{Board, has, values, value_list, generate, generate_all, values_for}

-- generating an event adds its value to it, and to no other
one_more : (e f : EventId) (v : Option ℤ) (board : Board) → e.0 < length board → values e (generate f v board) ≡ values e board ++ (if f.0 == e.0 then value_list v else [])
one_more e f v board within = grind (arith, common_steps, cases_eq e.0 f.0, get_or-set_same, get_or-set_other, append-nil)

-- a present event stays present as one more is generated
stays_once : (e f : EventId) (v : Option ℤ) (board : Board) → IsTrue (has e board) → IsTrue (has e (generate f v board))
stays_once e f v board present = grind (arith, common_steps, cases_eq e.0 f.0, get_or-set_same, get_or-set_other, get_or_past)

pub stays : (events : List (EventId × Option ℤ)) (e : EventId) (board : Board) → IsTrue (has e board) → IsTrue (has e (generate_all events board))
stays [] e board present = present
stays (g ∷ gs) e board present = stays gs e (generate g.0 g.1 board) (stays_once e g.0 g.1 board present)

pub in_order : (events : List (EventId × Option ℤ)) (e : EventId) (board : Board) → e.0 < length board → values e (generate_all events board) ≡ values e board ++ values_for e events
in_order [] e board within = sym (append-nil _)
in_order (g ∷ gs) e board within =
    let still : e.0 < length (generate g.0 g.1 board) = rw length-set within in
    in_order gs e (generate g.0 g.1 board) still ∙ (ap (λ xs. xs ++ values_for e gs) (one_more e g.0 g.1 board within) ∙ append_assoc (values e board) _ _)

-- an event that the board doesn't have has no values
none_past : (e : EventId) (board : Board) → length board ≤ e.0 → values e board ≡ []
none_past e board past = ap (λ o. unwrap_or o []) (get_or_past board e.0 None past)

pub prefix : (events : List (EventId × Option ℤ)) (e : EventId) (board : Board) → (more : List ℤ) × (values e (generate_all events board) ≡ values e board ++ more)
prefix events e board = by (cases_lt e.0 (length board))
  where
    by : (e.0 < length board) ⊎ (length board ≤ e.0) → (more : List ℤ) × (values e (generate_all events board) ≡ values e board ++ more)
    by (inl within) = (values_for e events, in_order events e board within)
    by (inr past) = (values e (generate_all events board), rw (none_past e board past) refl)
