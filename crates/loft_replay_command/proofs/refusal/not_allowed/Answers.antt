use Rattle.std.proofs.Common.{ℕ, List, [], ◌∷◌, ◌++◌, sym, ap, ◌∙◌, append_assoc}
use Rattle.std.specs.Prelude.{codes}
use Rattle.std.specs.Fmt.{decimal}
use Rattle.loft_replay_command.proofs.refusal.not_allowed.Goals as goal

pub returns : goal.returns
returns c =
    let what = c.args.what.now in
    let number = decimal c.args.number in
    c.in_ok-format.ensures.ok ∙ (ap (λ (t : List ℕ). what ++ t) (sym (append_assoc number (codes " not allowed") (10 ∷ []))) ∙ sym (append_assoc what (number ++ codes " not allowed") (10 ∷ [])))
