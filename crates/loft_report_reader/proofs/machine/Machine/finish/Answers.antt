use Rattle.std.proofs.Common.{◌≡◌, true, false, reverse, sym, ap, ◌∙◌}
use Rattle.loft_report_reader.specs.Machine.{machine_of, may_end}
use Rattle.loft_report_reader.proofs.Ending.{closes_some, closes_none}
use Rattle.loft_report_reader.proofs.machine.Machine.finish.Goals as goal

pub returns-then-may_end : goal.returns-then-may_end
returns-then-may_end c =
    let m = machine_of c.args.self in
    let e : may_end m.at.parts m.word ≡ true =
    ap (λ ps. may_end ps m.word) c.as_slice.ensures ∙ ap (λ w. may_end (reverse c.as_slice.result.now) w) (sym c.as_slice-2.ensures) ∙ sym (c.if-may_end.ensures) in
    λ _. closes_some m.at.parts m.at.told m.word e

pub returns : goal.returns
returns c =
    let m = machine_of c.args.self in
    let e : may_end m.at.parts m.word ≡ false =
    ap (λ ps. may_end ps m.word) c.as_slice.ensures ∙ ap (λ w. may_end (reverse c.as_slice.result.now) w) (sym c.as_slice-2.ensures) ∙ sym (c.if-may_end.ensures) in
    λ b. closes_none m.at.parts m.at.told m.word b e
