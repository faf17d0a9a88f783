use Rattle.std.proofs.Common.{Bool, true, false, ◌≡◌, ◌<◌, ◌≤◌, List, Option, Some, None, ap, sym, subst, ◌∙◌, set, length, get_or, arith, rules}
use Rattle.loft_orders.specs.declared.thread.Wait.{Wait}
use Rattle.loft_waits.specs.declared.entry.Entry.{Entry}
use Rattle.loft_waits.specs.Told.{Told, is_alone, ends_alone, wait_at}
use Rattle.loft_waits.specs.Aged.{waits_of, count_alone, one_if}
use Rattle.loft_waits.proofs.AgedLemmas.{waits_enter, length_waits}
use Rattle.loft_waits.proofs.AloneLemmas.{count_set, free_fewer}
use Rattle.loft_waits.proofs.plain.Plain.put.Goals as goal

most_one : (b : Bool) → one_if b ≤ 1
most_one true = omega arith
most_one false = omega arith

pub one_more-self-inside-requires : goal.one_more-self-inside-requires
one_more-self-inside-requires c =
    let w = c.self.inside in
    let p = c.args.pos in
    let within : p < length (waits_of w.clock w.slots.items) = subst (λ (t : Told). p < length t.waits) (sym c.self.view_is) c.requires.within in
    let free : get_or (waits_of w.clock w.slots.items) p None ≡ None = subst (λ (t : Told). wait_at t p ≡ None) (sym c.self.view_is) c.requires.free in
    let fewer = free_fewer (waits_of w.clock w.slots.items) p within free in
    let long = length_waits w.clock w.slots.items in
    let few : length w.slots.items < 18446744073709551616 = search rules in
    let is = c.self.invariant.alone_is in
    let one = most_one c.ends_alone.result in
    omega (arith, fewer, long, few, is, one)

pub returns : goal.returns
returns c =
    let w = c.self.inside in
    let p = c.args.pos in
    let told : List (Option Wait) → Told = λ ws. record { waits = ws; counts = w.counts.items; ended = w.ended; closes = w.clock } in
    let entered : waits_of w.clock (set w.slots.items p c.replace.new.dest) ≡ set (waits_of w.clock w.slots.items) p (Some c.args.wait) =
    ap (λ (e : Option Entry). waits_of w.clock (set w.slots.items p e)) c.replace.ensures.after ∙ waits_enter w.clock w.slots.items p c.args.wait in
    ap told entered ∙ ap (λ (t : Told). record t { waits = set t.waits p (Some c.args.wait) }) c.self.view_is

pub invariant_of-self : goal.invariant_of-self
invariant_of-self c =
    let w = c.self.inside in
    let p = c.args.pos in
    let ws = waits_of w.clock w.slots.items in
    let within : p < length ws = subst (λ (t : Told). p < length t.waits) (sym c.self.view_is) c.requires.within in
    let free : get_or ws p None ≡ None = subst (λ (t : Told). wait_at t p ≡ None) (sym c.self.view_is) c.requires.free in
    let none : one_if (is_alone (get_or ws p None)) ≡ 0 = ap (λ (o : Option Wait). one_if (is_alone o)) free in
    let counted = count_set ws p (Some c.args.wait) within in
    let entered : waits_of w.clock (set w.slots.items p c.replace.new.dest) ≡ set ws p (Some c.args.wait) =
    ap (λ (e : Option Entry). waits_of w.clock (set w.slots.items p e)) c.replace.ensures.after ∙ waits_enter w.clock w.slots.items p c.args.wait in
    let now : count_alone (waits_of w.clock (set w.slots.items p c.replace.new.dest)) ≡ count_alone (set ws p (Some c.args.wait)) = ap count_alone entered in
    let was = c.self.invariant.alone_is in
    let more = c.one_more-self-inside.ensures in
    let one : one_if c.ends_alone.result ≡ one_if (ends_alone c.args.wait) = ap one_if c.ends_alone.ensures in
    record {
      before = search rules;
      alone_is = omega (arith, none, counted, now, was, more, one);
    }
