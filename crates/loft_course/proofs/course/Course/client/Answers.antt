use Rattle.std.proofs.Common.{◌≡◌, ◌∙◌, ℕ, ◌+◌, ◌<◌, ◌≤◌, sym, ap, subst, length, true, false, Some, None, slice_get}
use Rattle.std.specs.Prelude.{drop}
use Rattle.loft_sense.specs.Machine.{heads}
use Rattle.loft_history.specs.History.{ClientBy, creates}
use Rattle.loft_history.specs.Clients.{orders_of}
use Rattle.loft_course.specs.Course.{Course, IsRun, gave, orders_left, Moves}
use Rattle.loft_course.proofs.ClientsRun.{no_client, no_order, events_declared, order_now, goes_to_one, is_for_clients, gave_there, given_by, ordered, so_many_given}
use Rattle.loft_course.proofs.course.Course.client.Goals as goal

pub returns-then-at-len-clause-moves : goal.returns-then-at-len-clause-moves
returns-then-at-len-clause-moves g c =
    let x = g.X.Setting.program in
    let o = g.X.Setting.options in
    let run : IsRun x o (record { world = c.self.inside.world; stations = c.self.inside.stations.items; workers = c.self.inside.workers.items; given = c.self.inside.given.items }) = subst (IsRun x o) (sym c.self.view_is) c.requires.run in
    let beyond : length c.self.inside.given.items ≤ c.args.c = subst (λ (n : ℕ). n ≤ c.args.c) (c.len.ensures ∙ c.self.inside.given.ok.0) c.if-at-len.true in
    no_client x o c.args.self.now.world.history c.args.c (subst (λ (n : ℕ). n ≤ c.args.c) (so_many_given x o _ run) beyond)

pub next_order-requires : goal.next_order-requires
next_order-requires g c =
    let x = g.X.Setting.program in
    let o = g.X.Setting.options in
    let h = c.self.inside.world.history in
    let run : IsRun x o (record { world = c.self.inside.world; stations = c.self.inside.stations.items; workers = c.self.inside.workers.items; given = c.self.inside.given.items }) = subst (IsRun x o) (sym c.self.view_is) c.requires.run in
    let there : c.args.c < length c.self.inside.given.items = subst (λ (n : ℕ). c.args.c < n) (c.len.ensures ∙ c.self.inside.given.ok.0) c.if-at-len.false in
    let is : c.index-given.result.now ≡ gave h c.args.c = c.index-given.ensures ∙ gave_there x o _ c.args.c c.index-given.result.now run (subst (λ (n : ℕ). c.args.c < n) (so_many_given x o _ run) there) in
    record { events = events_declared x o _ c.args.c c.index-given.result.now c.args.heads.now run c.requires.can c.requires.heads is }

pub returns-in_default-clause-moves : goal.returns-in_default-clause-moves
returns-in_default-clause-moves g c =
    let x = g.X.Setting.program in
    let o = g.X.Setting.options in
    let h = c.self.inside.world.history in
    let run : IsRun x o (record { world = c.self.inside.world; stations = c.self.inside.stations.items; workers = c.self.inside.workers.items; given = c.self.inside.given.items }) = subst (IsRun x o) (sym c.self.view_is) c.requires.run in
    let there : c.args.c < length c.self.inside.given.items = subst (λ (n : ℕ). c.args.c < n) (c.len.ensures ∙ c.self.inside.given.ok.0) c.if-at-len.false in
    let is : c.index-given.result.now ≡ gave h c.args.c = c.index-given.ensures ∙ gave_there x o _ c.args.c c.index-given.result.now run (subst (λ (n : ℕ). c.args.c < n) (so_many_given x o _ run) there) in
    let first : slice_get (orders_left x c.args.c h (gave h c.args.c)) 0 ≡ None =
    order_now x h c.args.c c.index-given.result.now c.creates-creates.result c.args.heads.now c.requires.heads c.creates-creates.ensures is ∙ (sym c.in_ok-sent.ensures.order ∙ c.in_default.is) in
    subst (λ (q : Course). Moves x o q.world.history (ClientBy c.args.c) false q.world.history) c.self.view_is (no_order x o _ c.args.c run first)

pub client-gave-requires-clause-one : goal.client-gave-requires-clause-one
client-gave-requires-clause-one g c =
    let x = g.X.Setting.program in
    let o = g.X.Setting.options in
    let h = c.self.inside.world.history in
    let run : IsRun x o (record { world = c.self.inside.world; stations = c.self.inside.stations.items; workers = c.self.inside.workers.items; given = c.self.inside.given.items }) = subst (IsRun x o) (sym c.self.view_is) c.requires.run in
    let there : c.args.c < length c.self.inside.given.items = subst (λ (n : ℕ). c.args.c < n) (c.len.ensures ∙ c.self.inside.given.ok.0) c.if-at-len.false in
    let is : c.index-given.result.now ≡ gave h c.args.c = c.index-given.ensures ∙ gave_there x o _ c.args.c c.index-given.result.now run (subst (λ (n : ℕ). c.args.c < n) (so_many_given x o _ run) there) in
    let first : slice_get (orders_left x c.args.c h (gave h c.args.c)) 0 ≡ Some c.in-Some.sent =
    order_now x h c.args.c c.index-given.result.now c.creates-creates.result c.args.heads.now c.requires.heads c.creates-creates.ensures is ∙ (sym c.in_ok-sent.ensures.order ∙ c.in-Some.is) in
    goes_to_one x o _ c.args.c c.in-Some.sent run c.requires.can first

pub client-gave-requires-clause-kind : goal.client-gave-requires-clause-kind
client-gave-requires-clause-kind g c =
    let x = g.X.Setting.program in
    let o = g.X.Setting.options in
    let h = c.self.inside.world.history in
    let run : IsRun x o (record { world = c.self.inside.world; stations = c.self.inside.stations.items; workers = c.self.inside.workers.items; given = c.self.inside.given.items }) = subst (IsRun x o) (sym c.self.view_is) c.requires.run in
    let there : c.args.c < length c.self.inside.given.items = subst (λ (n : ℕ). c.args.c < n) (c.len.ensures ∙ c.self.inside.given.ok.0) c.if-at-len.false in
    let is : c.index-given.result.now ≡ gave h c.args.c = c.index-given.ensures ∙ gave_there x o _ c.args.c c.index-given.result.now run (subst (λ (n : ℕ). c.args.c < n) (so_many_given x o _ run) there) in
    let first : slice_get (orders_left x c.args.c h (gave h c.args.c)) 0 ≡ Some c.in-Some.sent =
    order_now x h c.args.c c.index-given.result.now c.creates-creates.result c.args.heads.now c.requires.heads c.creates-creates.ensures is ∙ (sym c.in_ok-sent.ensures.order ∙ c.in-Some.is) in
    is_for_clients (heads x) c.args.c (creates c.args.c h) (drop (gave h c.args.c) (orders_of (heads x) c.args.c)) c.in-Some.sent first

pub returns-clause-run : goal.returns-clause-run
returns-clause-run g c =
    let x = g.X.Setting.program in
    let o = g.X.Setting.options in
    let h = c.self.inside.world.history in
    let run : IsRun x o (record { world = c.self.inside.world; stations = c.self.inside.stations.items; workers = c.self.inside.workers.items; given = c.self.inside.given.items }) = subst (IsRun x o) (sym c.self.view_is) c.requires.run in
    let there : c.args.c < length c.self.inside.given.items = subst (λ (n : ℕ). c.args.c < n) (c.len.ensures ∙ c.self.inside.given.ok.0) c.if-at-len.false in
    let is : c.index-given.result.now ≡ gave h c.args.c = c.index-given.ensures ∙ gave_there x o _ c.args.c c.index-given.result.now run (subst (λ (n : ℕ). c.args.c < n) (so_many_given x o _ run) there) in
    let first : slice_get (orders_left x c.args.c h (gave h c.args.c)) 0 ≡ Some c.in-Some.sent =
    order_now x h c.args.c c.index-given.result.now c.creates-creates.result c.args.heads.now c.requires.heads c.creates-creates.ensures is ∙ (sym c.in_ok-sent.ensures.order ∙ c.in-Some.is) in
    ordered x o _ c.args.c c.in-Some.sent c.client-gave.new.self (c.index-given.result.now + 1) run first c.in_ok-gave.ensures.ok (ap (λ (n : ℕ). n + 1) is)

pub returns-clause-moves : goal.returns-clause-moves
returns-clause-moves g c =
    let x = g.X.Setting.program in
    let o = g.X.Setting.options in
    let h = c.self.inside.world.history in
    let run : IsRun x o (record { world = c.self.inside.world; stations = c.self.inside.stations.items; workers = c.self.inside.workers.items; given = c.self.inside.given.items }) = subst (IsRun x o) (sym c.self.view_is) c.requires.run in
    let there : c.args.c < length c.self.inside.given.items = subst (λ (n : ℕ). c.args.c < n) (c.len.ensures ∙ c.self.inside.given.ok.0) c.if-at-len.false in
    let is : c.index-given.result.now ≡ gave h c.args.c = c.index-given.ensures ∙ gave_there x o _ c.args.c c.index-given.result.now run (subst (λ (n : ℕ). c.args.c < n) (so_many_given x o _ run) there) in
    let first : slice_get (orders_left x c.args.c h (gave h c.args.c)) 0 ≡ Some c.in-Some.sent =
    order_now x h c.args.c c.index-given.result.now c.creates-creates.result c.args.heads.now c.requires.heads c.creates-creates.ensures is ∙ (sym c.in_ok-sent.ensures.order ∙ c.in-Some.is) in
    subst (λ (q : Course). Moves x o q.world.history (ClientBy c.args.c) true c.client-gave.new.self.history) c.self.view_is
    (given_by x o _ c.args.c c.in-Some.sent c.client-gave.new.self run first c.in_ok-gave.ensures.ok)
