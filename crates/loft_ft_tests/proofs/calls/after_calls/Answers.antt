use Rattle.std.proofs.Common.{ap, ◌∙◌}
use Rattle.loft_baton.specs.declared.knows.Knows.{Knows}
use Rattle.loft_baton.specs.PassValue.{PassValue}
use Rattle.loft_ft.specs.Calls.{IsEvent}
use Rattle.loft_ft.proofs.CallLemmas.{for_code}
use Rattle.loft_ft_tests.proofs.calls.after_calls.Goals as goal

pub call_each-stamps-requires-clause-event : goal.call_each-stamps-requires-clause-event
call_each-stamps-requires-clause-event g c =
    for_code (λ y. IsEvent y.heads (record { 0 = 0 })) c.split-pass.result.knows.code c.args.code.now
    (ap (λ (t : PassValue). t.knows.code) c.split-pass.ensures.new ∙ ap (λ (k : Knows). k.code) c.in_ok-baton.ensures.knows)
    (c.events_have_schedulers.ensures (record { 0 = 0 }) c.requires.event)
