use Rattle.std.proofs.Common.{sym, subst}
use Rattle.loft_tree.specs.Source.{Module}
use Rattle.loft_tree.specs.View.{head_of, body_of}
use Rattle.loft_form.specs.Form.{◌▹◌, many, fresh}
use Rattle.loft_grammar.specs.declared.counts.Counted.TheVariants as count
use Rattle.loft_grammar.specs.Items.{module_item, head, local}
use Rattle.loft_grammar.specs.Limits.{limits, nesting}
use Rattle.loft_grammar.specs.Readers.{Takes}
use Rattle.loft_grammar.specs.View.{symbols_at, state_at, variables_of}
use Rattle.loft_productions.specs.Ends.{body_end}
use Rattle.loft_productions.proofs.Flat.{flat_head, flat_locals}
use Rattle.loft_productions.proofs.Taking.{in_turn, meaning}
use Rattle.loft_productions.proofs.item.module_item.Goals as goal

pub returns : goal.returns
unfolding module_item
returns c =
    let first = c.args.at.now in
    let second = c.head-head.new.at in
    let third = c.locals-locals.new.at in
    let last = c.body_end-body.new.at in
    let h = subst (λ r. Takes first second (head_of c.head-head.result) r) (sym (flat_head (symbols_at first.cursor) (state_at first.cursor))) c.head-head.ensures in
    let l = subst (λ r. Takes second third (variables_of c.locals-locals.result) r) (sym (flat_locals (symbols_at second.cursor) (state_at second.cursor))) c.locals-locals.ensures in
    meaning limits nesting (λ x. Module x.0 x.1.0 (body_of x.1.1.0)) (head ▹ fresh count.Local (many local) ▹ body_end) first last _
    (in_turn limits nesting head (fresh count.Local (many local) ▹ body_end) first second last _ _ h
    (in_turn limits nesting (fresh count.Local (many local)) body_end second third last _ _ l c.body_end-body.ensures))
