-- A scheduler in memory stays ready for its next instant.
use Rattle.std.proofs.Common.{◌≡◌, ℕ, false, List, sym, ap, ◌∙◌, subst, arith, length, Option, Some, None}
use Rattle.loft_base.specs.declared.ids.SchedId.{SchedId}
use Rattle.loft_board.specs.Board.{Board, no_events}
use Rattle.loft_base.specs.declared.options.Limits.{Limits}
use Rattle.loft_orders.specs.declared.order.Order.{Order}
use Rattle.loft_sense.specs.Machine.{Prog, heads, Mach}
use Rattle.loft_sense.specs.Apply.{Applied, apply}
use Rattle.loft_sense.specs.Around.{Around}
use Rattle.loft_sense.specs.Passes.{Runner, Walk, passes}
use Rattle.loft_sense.specs.Rest.{is_spent}
use Rattle.loft_sense.specs.Instant.{instant}
use Rattle.loft_sense.proofs.InstantLemmas.{applied_events, instant_creates, instant_number}
use Rattle.loft_sense.proofs.AroundLemmas.{passes_follow}
use Rattle.loft_sense.proofs.TallyLemmas.{unspent_number}
use Rattle.loft_instant.specs.declared.instant.State.{State}
use Rattle.loft_instant.specs.States.{machine_with, machine_of, IsReady}

-- a batch keeps the board's length
pub applied_board : (x : Prog) (m : Mach) (batch : List Order) (a : Applied) (events : ℕ) → a ≡ apply x m batch → events ≡ length (heads x).events → length a.board ≡ events
applied_board x m batch a events is all = ap (λ (b : Applied). length b.board) is ∙ (applied_events x m batch ∙ sym all)

-- the passes keep it too
pub board_stays : (x : Prog) (rs : List Runner) (around : Around) (w : Walk) (events : ℕ) (reset : Board) → w ≡ passes x rs around → length around.board ≡ events → reset ≡ no_events (length w.around.board) → reset ≡ no_events events
board_stays x rs around w events reset is there emptied =
    emptied ∙ ap no_events (ap (λ (v : Walk). length v.around.board) is ∙ ((passes_follow x rs around).events ∙ there))

abbrev IfThere : {A : Type 0} → (A → Type 0) → Option A → Type 0
IfThere P None = Unit {0}
IfThere P (Some x) = P x

pub some_same : {A : Type 0} (P : A → Type 0) (x y : A) → Some x ≡ Some y → P x → P y
some_same P x y e p = subst (IfThere P) e p

pub unspent_there : (x : Prog) (limits : Limits) (s : SchedId) (o : Option State) (e : State) → o ≡ Some e → is_spent x limits (machine_of s o) ≡ false → is_spent x limits (machine_with s e) ≡ false
unspent_there x limits s o e there unspent = sym (ap (λ (p : Option State). is_spent x limits (machine_of s p)) there) ∙ unspent

pub stays_ready : (x : Prog) (limits : Limits) (events : ℕ) (s : SchedId) (old new : State) (orders : List Order) → IsReady events limits.instants old → is_spent x limits (machine_with s old) ≡ false
    → machine_with s new ≡ (instant x limits (machine_with s old) orders).machine → new.board ≡ no_events events → IsReady events limits.instants new
stays_ready x limits events s old new orders ready unspent machine board =
    let made = ap (λ (m : Mach). m.made) machine in
    let number = ap (λ (m : Mach). m.tally.number) machine ∙ instant_number x limits (machine_with s old) orders in
    let creates = instant_creates x limits (machine_with s old) orders in
    let few = ready.few_made in
    let below = unspent_number x limits (machine_with s old) unspent in
    record {
      no_event = board;
      few_made = omega (arith, made, number, creates, few);
      few_instants = omega (arith, number, below);
    }
