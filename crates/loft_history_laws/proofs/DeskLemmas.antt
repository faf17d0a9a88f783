-- Desks of schedulers and hands of workers, as a history grows.
use Rattle.std.proofs.Common.{◌≡◌, ℕ, Bool, true, false, List, [], ◌∷◌, ◌++◌, refl}
use Rattle.std.specs.Prelude.{◌||◌, ◌&&◌, not, if◌then◌else◌}
use Rattle.std.proofs.lemmas.List.Sums.{fold_push}
use Rattle.loft_base.specs.declared.ids.SchedId.{SchedId}
use Rattle.loft_orders.specs.declared.entry.Entry.{Entry}
use Rattle.loft_orders.specs.declared.entry.Entry.TheVariants.{Take, Give, Pick, Post, Client}
use Rattle.loft_sense.specs.Heads.{same_scheduler}
use Rattle.loft_history.specs.History.{in_instant, is_open, jobs_after, jobs, jobs_step}
use Rattle.loft_history_laws.specs.Places.{Desk, desk_step, desk_after, desk, hand_step, hand_after, hand_of, IsOneIf}

pub desk_more : (s : SchedId) (es : List Entry) (e : Entry) → desk s (es ++ e ∷ []) ≡ desk_after s (desk s es) (e ∷ [])
desk_more s es e = fold_push (desk_step s) (record { given = []; hand = [] }) es e

pub hand_more : (w : ℕ) (es : List Entry) (e : Entry) → hand_of w (es ++ e ∷ []) ≡ hand_after w (hand_of w es) (e ∷ [])
hand_more w es e = fold_push (hand_step w) [] es e

pub jobs_more : (es : List Entry) (e : Entry) → jobs (es ++ e ∷ []) ≡ jobs_after (jobs es) (e ∷ [])
jobs_more es e = fold_push jobs_step [] es e

-- ---- one batch is in hand where the scheduler's last entry is a take

open_step : (s : SchedId) (was : Bool) (d : Desk) (e : Entry) → IsOneIf was d.hand → IsOneIf (in_instant s was (e ∷ [])) (desk_after s d (e ∷ [])).hand
open_step s was d (Take q batch) f = by (same_scheduler s q)
  where
    by : (b : Bool) → IsOneIf (b || was) (if b then record { given = d.given; hand = batch ∷ [] } else d).hand
    by true = (batch, refl)
    by false = f
open_step s was d (Give q sent) f = by (same_scheduler s q)
  where
    by : (b : Bool) → IsOneIf (not b && was) (if b then record { given = d.given ++ d.hand; hand = [] } else d).hand
    by true = refl
    by false = f
open_step s was d (Pick w job) f = f
open_step s was d (Post w sent) f = f
open_step s was d (Client c sent) f = f

open_on : (s : SchedId) (was : Bool) (d : Desk) (es : List Entry) → IsOneIf was d.hand → IsOneIf (in_instant s was es) (desk_after s d es).hand
open_on s was d [] f = f
open_on s was d (Take q batch ∷ es) f = open_on s (same_scheduler s q || was) (if same_scheduler s q then record { given = d.given; hand = batch ∷ [] } else d) es (open_step s was d (Take q batch) f)
open_on s was d (Give q sent ∷ es) f = open_on s (not (same_scheduler s q) && was) (if same_scheduler s q then record { given = d.given ++ d.hand; hand = [] } else d) es (open_step s was d (Give q sent) f)
open_on s was d (Pick w job ∷ es) f = open_on s was d es f
open_on s was d (Post w sent ∷ es) f = open_on s was d es f
open_on s was d (Client c sent ∷ es) f = open_on s was d es f

pub open_hand : (s : SchedId) (es : List Entry) → IsOneIf (is_open s es) (desk s es).hand
open_hand s es = open_on s false (record { given = []; hand = [] }) es refl
