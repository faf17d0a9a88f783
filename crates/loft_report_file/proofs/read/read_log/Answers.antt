use Rattle.std.proofs.Common.{rules, arith, inr, ◌≡◌, false, length, List, ℕ, Ok, Option, IfSome, sym, ap, subst, ◌∙◌}
use Rattle.std.proofs.Math.Nat.{le_trans}
use Rattle.loft_base.specs.Walk.{count_of}
use Rattle.loft_report_reader.specs.Answer.{HasRead}
use Rattle.loft_report_reader.specs.declared.error.LogError.TheVariants.{TooLong}
use Rattle.loft_report_file.proofs.Reading.{fed_more, known_map, at_end, never_long}
use Rattle.loft_report_file.proofs.read.read_log.Goals as goal

pub loop-walk-preserved : goal.loop-walk-preserved
loop-walk-preserved g c =
    let before = c.loop-walk.invariant in
    let part = c.in_ok-advance.ensures in
    record {
      asked = rw part.same_names before.asked;
      place = inr (sym part.ended);
      within = search rules;
      room = search rules;
      read = search rules;
      fed = fed_more c.loop-walk.reader c.feed-answer.new.self (count_of c.loop-walk.walk) (count_of c.advance.new.self) c.part.result.now before.fed c.feed-answer.ensures.read (omega (arith, part.counted, ap length c.part.ensures));
      never_falls = le_trans before.never_falls part.never_falls;
      no_fault = λ sure. part.no_fault (rw before.same_sure sure) ∙ before.no_fault sure;
      same_contents = part.same_contents ∙ before.same_contents;
      same_names = part.same_names ∙ before.same_names;
      same_sure = part.same_sure ∙ before.same_sure;
      same_refused = part.same_refused ∙ before.same_refused;
    }

pub returns-in-Ok-clause-verdict : goal.returns-in-Ok-clause-verdict
returns-in-Ok-clause-verdict g c =
    let over : c.advance.result ≡ Ok false = search rules in
    let read = at_end _ c.loop-walk.walk c.loop-walk.reader c.loop-walk.invariant.read (c.advance.ensures.end over) in
    known_map _ (subst (λ (known : List ℕ → Option (List ℕ)). IfSome (known c.args.name.now) (HasRead c.loop-walk.reader)) c.loop-walk.invariant.same_contents read) c.in-Ok.ensures.verdict

pub returns-in-Ok-clause-report : goal.returns-in-Ok-clause-report
returns-in-Ok-clause-report g c =
    let over : c.advance.result ≡ Ok false = search rules in
    let read = at_end _ c.loop-walk.walk c.loop-walk.reader c.loop-walk.invariant.read (c.advance.ensures.end over) in
    known_map _ (subst (λ (known : List ℕ → Option (List ℕ)). IfSome (known c.args.name.now) (HasRead c.loop-walk.reader)) c.loop-walk.invariant.same_contents read) c.in-Ok.ensures.report

pub returns-in-Ok-clause-stop : goal.returns-in-Ok-clause-stop
returns-in-Ok-clause-stop g c =
    let over : c.advance.result ≡ Ok false = search rules in
    let read = at_end _ c.loop-walk.walk c.loop-walk.reader c.loop-walk.invariant.read (c.advance.ensures.end over) in
    known_map _ (subst (λ (known : List ℕ → Option (List ℕ)). IfSome (known c.args.name.now) (HasRead c.loop-walk.reader)) c.loop-walk.invariant.same_contents read) c.in-Ok.ensures.stop

pub returns-clause-verdict : goal.returns-clause-verdict
returns-clause-verdict g c =
    let over : c.advance.result ≡ Ok false = search rules in
    let read = at_end _ c.loop-walk.walk c.loop-walk.reader c.loop-walk.invariant.read (c.advance.ensures.end over) in
    known_map _ (subst (λ (known : List ℕ → Option (List ℕ)). IfSome (known c.args.name.now) (HasRead c.loop-walk.reader)) c.loop-walk.invariant.same_contents read) c.in-Err.ensures.verdict

pub returns-clause-report : goal.returns-clause-report
returns-clause-report g c =
    let over : c.advance.result ≡ Ok false = search rules in
    let read = at_end _ c.loop-walk.walk c.loop-walk.reader c.loop-walk.invariant.read (c.advance.ensures.end over) in
    known_map _ (subst (λ (known : List ℕ → Option (List ℕ)). IfSome (known c.args.name.now) (HasRead c.loop-walk.reader)) c.loop-walk.invariant.same_contents read) c.in-Err.ensures.report

pub returns-clause-stop : goal.returns-clause-stop
returns-clause-stop g c =
    let over : c.advance.result ≡ Ok false = search rules in
    let read = at_end _ c.loop-walk.walk c.loop-walk.reader c.loop-walk.invariant.read (c.advance.ensures.end over) in
    known_map _ (subst (λ (known : List ℕ → Option (List ℕ)). IfSome (known c.args.name.now) (HasRead c.loop-walk.reader)) c.loop-walk.invariant.same_contents read) c.in-Err.ensures.stop

pub returns-clause-past_limit : goal.returns-clause-past_limit
returns-clause-past_limit g c = λ is. absurd (
    let e : c.in-Err.e ≡ TooLong = cc in
    never_long c.loop-walk.reader _ c.in-Err.e c.loop-walk.invariant.fed c.loop-walk.invariant.within c.in-Err.ensures.verdict e
    )
