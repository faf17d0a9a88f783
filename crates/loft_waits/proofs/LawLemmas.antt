-- What the waits are told of a board.
use Rattle.std.proofs.Common.{◌≡◌, ℕ, zero, suc, ◌<◌, Bool, false, List, [], ◌∷◌, ◌++◌, set, refl, sym, ◌∙◌, ap, Option, Some, None, option_map, length, get_or, get_or-set_same}
use Rattle.std.specs.Prelude.{ℤ, ◌||◌, is_some, unwrap_or}
use Rattle.std.proofs.lemmas.List.{map-set}
use Rattle.loft_base.specs.declared.ids.EventId.{EventId}
use Rattle.loft_base.specs.declared.ids.ThreadId.{ThreadId}
use Rattle.loft_board.specs.Board.{Board, no_events, values, value_list, generate}
use Rattle.loft_orders.specs.declared.thread.Wait.{Wait}
use Rattle.loft_orders.specs.declared.thread.Wait.TheVariants.{New, Coop, Events, Index, Next, Join, Halt}
use Rattle.loft_sense.specs.CanGo.{is_over, is_any_counted, is_index, ran_out, count_of, can_go}
use Rattle.loft_waits.specs.Told.{Told, Counts, count_in, no_counts, counts_of, wait_at, is_ready, ready_at}

counts_at : (board : Board) (i : ℕ) → get_or (counts_of board) i None ≡ option_map length (get_or board i None)
counts_at [] i = refl
counts_at (b ∷ board) zero = refl
counts_at (b ∷ board) (suc i) = counts_at board i

any_same : (es : List EventId) (f g : EventId → Option ℕ) → ((e : EventId) → f e ≡ g e) → is_any_counted es f ≡ is_any_counted es g
any_same [] f g h = refl
any_same (e ∷ es) f g h = ap (λ (c : Option ℕ). is_some c || is_any_counted es f) (h e) ∙ ap (λ (b : Bool). is_some (g e) || b) (any_same es f g h)

over_same : (w : Wait) (f g : EventId → Option ℕ) (known : List ThreadId) → ((e : EventId) → f e ≡ g e) → is_over w f known ≡ is_over w g known
over_same New f g known h = refl
over_same (Coop left) f g known h = refl
over_same (Events es left) f g known h = ap (λ (b : Bool). ran_out left || b) (any_same es f g h)
over_same (Index event at) f g known h = ap (λ (c : Option ℕ). is_index at (unwrap_or c 0)) (h event)
over_same Next f g known h = refl
over_same (Join thread left) f g known h = refl
over_same Halt f g known h = refl

pub ready_is : (told : Told) (board : Board) (p : ℕ) (w : Wait) → told.counts ≡ counts_of board → wait_at told p ≡ Some w → ready_at told p ≡ can_go w false board told.ended
ready_is told board p w counts at =
    ap (is_ready told.counts told.ended) at ∙ ap (λ (c : Counts). is_over w (count_in c) told.ended) counts ∙ over_same w (count_in (counts_of board)) (count_of board) told.ended (λ e. counts_at board e.0)

pub counts_none : (n : ℕ) → counts_of (no_events n) ≡ no_counts n
counts_none zero = refl
counts_none (suc n) = ap (λ (c : Counts). None ∷ c) (counts_none n)

pub counts_generate : (e : EventId) (v : Option ℤ) (board : Board) → e.0 < length board → counts_of (generate e v board) ≡ set (counts_of board) e.0 (Some (length (values e (generate e v board))))
counts_generate e v board lt =
    let now : List ℤ = values e board ++ value_list v in
    map-set (option_map length) board e.0 (Some now)
    ∙ ap (λ (o : Option (List ℤ)). set (counts_of board) e.0 (Some (length (unwrap_or o [])))) (sym (get_or-set_same board e.0 (Some now) None lt))
