use Rattle.std.proofs.Common.{◌≡◌, ◌<◌, List, Option, None, ap, sym, subst, ◌∙◌, set, length, get_or, option_map, arith}
use Rattle.std.proofs.lemmas.List.Elements.{All-set}
use Rattle.loft_orders.specs.declared.thread.Wait.{Wait}
use Rattle.loft_waits.specs.declared.entry.Entry.{Entry}
use Rattle.loft_waits.specs.Told.{Told, is_alone, wait_at}
use Rattle.loft_waits.specs.Aged.{waits_of, wait_now, IsBefore, IsEntryBefore, count_alone, one_if}
use Rattle.loft_waits.proofs.AgedLemmas.{waits_leave, wait_there, length_waits, before_there}
use Rattle.loft_waits.proofs.AloneLemmas.{count_set, count_here, alone_now}
use Rattle.loft_waits.proofs.plain.Plain.take.Goals as goal

pub one_less-self-inside-requires : goal.one_less-self-inside-requires
one_less-self-inside-requires c =
    let w = c.self.inside in
    let p = c.args.pos in
    let ws = waits_of w.clock w.slots.items in
    let within : p < length ws = subst (λ (t : Told). p < length t.waits) (sym c.self.view_is) c.requires.within in
    let long = length_waits w.clock w.slots.items in
    let e = c.replace-entry.result in
    let here : option_map (wait_now w.clock) e ≡ get_or ws p None = wait_there w.clock w.slots.items p e c.index_mut.result.now (omega (arith, within, long)) c.replace-entry.ensures.value c.index_mut.ensures.value in
    let same : one_if c.is_alone.result ≡ one_if (is_alone (get_or ws p None)) = ap one_if (c.is_alone.ensures ∙ sym (alone_now w.clock e) ∙ ap is_alone here) in
    let one = count_here ws p within in
    let was = c.self.invariant.alone_is in
    omega (arith, same, one, was)

pub returns-clause-told : goal.returns-clause-told
returns-clause-told c =
    let w = c.self.inside in
    let p = c.args.pos in
    let told : List (Option Wait) → Told = λ ws. record { waits = ws; counts = w.counts.items; ended = w.ended; closes = w.clock } in
    let left : waits_of w.clock (set w.slots.items p c.replace-entry.new.dest) ≡ set (waits_of w.clock w.slots.items) p None =
    ap (λ (e : Option Entry). waits_of w.clock (set w.slots.items p e)) c.replace-entry.ensures.after ∙ waits_leave w.clock w.slots.items p in
    ap told left ∙ ap (λ (t : Told). record t { waits = set t.waits p None }) c.self.view_is

pub returns-clause-wait : goal.returns-clause-wait
returns-clause-wait c =
    let w = c.self.inside in
    let p = c.args.pos in
    let within : p < length (waits_of w.clock w.slots.items) = subst (λ (t : Told). p < length t.waits) (sym c.self.view_is) c.requires.within in
    let long = length_waits w.clock w.slots.items in
    let e = c.replace-entry.result in
    ap (λ (t : Told). option_map (wait_now t.closes) e) (sym c.self.view_is)
    ∙ wait_there w.clock w.slots.items p e c.index_mut.result.now (omega (arith, within, long)) c.replace-entry.ensures.value c.index_mut.ensures.value
    ∙ ap (λ (t : Told). wait_at t p) c.self.view_is

pub returns-clause-before : goal.returns-clause-before
returns-clause-before c =
    let w = c.self.inside in
    let p = c.args.pos in
    let within : p < length (waits_of w.clock w.slots.items) = subst (λ (t : Told). p < length t.waits) (sym c.self.view_is) c.requires.within in
    let long = length_waits w.clock w.slots.items in
    subst (λ (t : Told). IsEntryBefore t.closes c.replace-entry.result) c.self.view_is
    (before_there w.clock w.slots.items p c.replace-entry.result c.index_mut.result.now c.self.invariant.before (omega (arith, within, long)) c.replace-entry.ensures.value c.index_mut.ensures.value)

pub invariant_of-self : goal.invariant_of-self
invariant_of-self c =
    let w = c.self.inside in
    let p = c.args.pos in
    let ws = waits_of w.clock w.slots.items in
    let within : p < length ws = subst (λ (t : Told). p < length t.waits) (sym c.self.view_is) c.requires.within in
    let long = length_waits w.clock w.slots.items in
    let e = c.replace-entry.result in
    let here : option_map (wait_now w.clock) e ≡ get_or ws p None = wait_there w.clock w.slots.items p e c.index_mut.result.now (omega (arith, within, long)) c.replace-entry.ensures.value c.index_mut.ensures.value in
    let same : one_if c.is_alone.result ≡ one_if (is_alone (get_or ws p None)) = ap one_if (c.is_alone.ensures ∙ sym (alone_now w.clock e) ∙ ap is_alone here) in
    let counted = count_set ws p None within in
    let left : waits_of w.clock (set w.slots.items p c.replace-entry.new.dest) ≡ set ws p None =
    ap (λ (e : Option Entry). waits_of w.clock (set w.slots.items p e)) c.replace-entry.ensures.after ∙ waits_leave w.clock w.slots.items p in
    let now : count_alone (waits_of w.clock (set w.slots.items p c.replace-entry.new.dest)) ≡ count_alone (set ws p None) = ap count_alone left in
    let was = c.self.invariant.alone_is in
    let less = c.one_less-self-inside.ensures in
    record {
      before = subst (λ (x : Option Entry). IsBefore w.clock (set w.slots.items p x)) (sym c.replace-entry.ensures.after) (All-set (IsEntryBefore w.clock) w.slots.items p None tt c.self.invariant.before);
      alone_is = omega (arith, same, counted, now, was, less);
    }
