use Rattle.std.proofs.Common.{◌≡◌, ◌<◌, ap, sym, ◌∙◌, arith, refl, length}
use Rattle.std.specs.Prelude.{slice_get}
use Rattle.std.proofs.lemmas.Option.{slice_get_read, slice_get_within}
use mathlib.Core.Logic.{dite}
use native.Mathlib.Decide.{ℕ_discrete}
use Rattle.loft_line.specs.Line.{is_named}
use Rattle.loft_line.proofs.ListLemmas.{read_there}
use Rattle.loft_line.proofs.slots.search.Goals as goal

pub returns-then-is_named : goal.returns-then-is_named
returns-then-is_named c =
    let rs = c.args.slots.now in
    let r = c.index-slots-pos.result in
    record {
      runner = r;
      there = slice_get_read rs (length rs) c.loop-pos.pos r refl c.loop-pos-test.true c.index-slots-pos.is;
      named = sym c.is_named.ensures ∙ c.if-is_named.true;
      first = c.loop-pos.invariant;
    }

pub loop-pos-preserved : goal.loop-pos-preserved
loop-pos-preserved c = λ i r lt h.
    let rs = c.args.slots.now in
    let p = c.loop-pos.pos in
    let x = c.index-slots-pos.result in
    dite (ℕ_discrete i p)
    (λ same.
    let is : x ≡ r = read_there rs p x r c.loop-pos-test.true c.index-slots-pos.is (ap (slice_get rs) (sym same) ∙ h) in
    ap (is_named c.args.thread) (sym is) ∙ sym c.is_named.ensures ∙ c.if-is_named.false)
    (λ apart. c.loop-pos.invariant i r (omega (arith, lt, apart)) h)

pub returns : goal.returns
returns c = λ i r h.
    let inside : i < length c.args.slots.now = slice_get_within c.args.slots.now i r h in
    let over = c.loop-pos-test.false in
    c.loop-pos.invariant i r (omega (arith, inside, over)) h
