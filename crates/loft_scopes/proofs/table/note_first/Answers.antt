use Rattle.std.proofs.Common.{◌∙◌, sym, ap, cond, Some}
use Rattle.std.specs.Prelude.{is_some}
use Rattle.loft_scopes.proofs.Keys.{get_sought, noted, reach_eq}
use Rattle.std.specs.Str.{bytes_eq}
use Rattle.std.proofs.Common.{◌&&◌}
use Rattle.loft_scopes.proofs.table.note_first.Goals as goal

pub returns-in_ok-insert : goal.returns-in_ok-insert
returns-in_ok-insert c =
    noted c.args.firsts.now c.insert.new.self c.args.key c.args.position
    (ap is_some (sym (get_sought c.args.firsts.now c.args.key)) ∙ sym c.contains_key.ensures ∙ c.if-not-contains_key.true)
    (λ q. sym (get_sought c.insert.new.self q) ∙ c.in_ok-insert.ensures.updates.0 q ∙ (λ i. cond (reach_eq c.args.key.0 q.0 i && bytes_eq c.args.key.1.now q.1.now) (Some c.args.position) (get_sought c.args.firsts.now q i)))
