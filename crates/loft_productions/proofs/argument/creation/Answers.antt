use Rattle.loft_lex.specs.declared.sign.Sign.TheVariants as s
use Rattle.loft_form.specs.Form.{◌▹◌}
use Rattle.loft_grammar.specs.Symbols.{name, sign}
use Rattle.loft_grammar.specs.Expressions.{arguments}
use Rattle.loft_grammar.specs.Statements.{creation}
use Rattle.loft_productions.proofs.Taking.{in_turn, meaning}
use Rattle.loft_productions.proofs.argument.creation.Goals as goal

pub returns : goal.returns
unfolding creation
returns g c =
    let lim = g.L.Limited.limits in
    let n = c.args.deeper in
    let first = c.args.at.now in
    let second = c.name-scheduler.new.at in
    let third = c.sign.new.at in
    let fourth = c.name-called.new.at in
    let last = c.arguments-arguments.new.at in
    meaning lim n (λ x. record { scheduler = x.0; called = x.1.1.0; arguments = x.1.1.1 }) (name ▹ sign s.Dot ▹ name ▹ arguments) first last _
    (in_turn lim n name (sign s.Dot ▹ name ▹ arguments) first second last _ _ c.name-scheduler.ensures
    (in_turn lim n (sign s.Dot) (name ▹ arguments) second third last _ _ c.sign.ensures.takes
    (in_turn lim n name arguments third fourth last _ _ c.name-called.ensures c.arguments-arguments.ensures)))
