use Rattle.std.proofs.Common.{◌≡◌, ◌∙◌, ap, List, Some}
use Rattle.loft_base.specs.declared.ids.Value.{Value}
use Rattle.loft_order_lines.proofs.Texts.{value_some, value_lacks, comma_outside}
use Rattle.loft_order_lines.proofs.PartLemmas.{never_none, one_found}
use Rattle.loft_order_lines.proofs.order.arguments_of.Goals as goal

pub read_list-requires-clause-apart : goal.read_list-requires-clause-apart
read_list-requires-clause-apart c v p = (value_some c.args.heads.now c.requires v p, value_lacks 44 comma_outside c.args.heads.now c.requires v p)

pub returns-in_err-values-clause-read : goal.returns-in_err-values-clause-read
returns-in_err-values-clause-read c w args has is = absurd (never_none c.read_list.result args (c.read_list.ensures.read w args has is) c.in_err-values.was)

pub returns-in-Ok-clause-read : goal.returns-in-Ok-clause-read
returns-in-Ok-clause-read c w args has is =
    let found = one_found c.read_list.result c.in_ok-values.values args (c.read_list.ensures.read w args has is) c.in_ok-values.was in
    let shared : c.in-Ok.args ≡ c.in_ok-values.values = c.in-Ok.ensures ∙ c.as_slice.ensures in
    ap (λ (values : List Value). Some values) (shared ∙ found)
