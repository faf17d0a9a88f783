use Rattle.std.proofs.Common.{◌≡◌, Bool, Option, List, Some, None, ap, sym, ◌∙◌, set}
use Rattle.std.specs.Prelude.{not, ◌&&◌, false, if◌then◌else◌}
use Rattle.std.proofs.lemmas.List.{set-get_or}
use Rattle.loft_orders.specs.declared.thread.Wait.{Wait}
use Rattle.loft_orders.specs.declared.thread.Wait.TheVariants.{Halt}
use Rattle.loft_passes.specs.View.{is_held}
use Rattle.loft_ready.specs.Entered.{wait_of}
use Rattle.loft_line.specs.Line.{with_wait, without_wait}
use Rattle.loft_line.proofs.ListLemmas.{read_there}
use Rattle.loft_line.proofs.slots.enter.Goals as goal

pub returns-else-is_awake-clause-told : goal.returns-else-is_awake-clause-told
returns-else-is_awake-clause-told c = λ r h.
    let x = c.index_mut-runner.result.now in
    let same : x ≡ r = read_there c.args.slots.now.items c.args.pos x r c.requires.within c.index_mut-runner.ensures.value h in
    let asleep : (is_held x.stop && not x.suspended) ≡ false = sym c.is_awake.ensures ∙ c.if-is_awake.false in
    let none : wait_of r ≡ None = ap wait_of (sym same) ∙ ap (λ (b : Bool). if b then Some x.thread.wait else None) asleep in
    let ws = c.args.waits.now.waits in
    let stays : set ws c.args.pos (wait_of r) ≡ ws = ap (set ws c.args.pos) (none ∙ sym c.requires.free) ∙ set-get_or ws c.args.pos None in
    ap (λ (l : List (Option Wait)). record c.args.waits.now { waits = l }) (sym stays)

pub returns-else-is_awake-clause-slots : goal.returns-else-is_awake-clause-slots
returns-else-is_awake-clause-slots c = λ r h.
    let x = c.index_mut-runner.result.now in
    let same : x ≡ r = read_there c.args.slots.now.items c.args.pos x r c.requires.within c.index_mut-runner.ensures.value h in
    let asleep : (is_held x.stop && not x.suspended) ≡ false = sym c.is_awake.ensures ∙ c.if-is_awake.false in
    let is : without_wait r ≡ r = ap without_wait (sym same) ∙ ap (λ (b : Bool). if b then with_wait (Some Halt) x else x) asleep ∙ same in
    ap (set c.args.slots.now.items c.args.pos) (same ∙ sym is)
