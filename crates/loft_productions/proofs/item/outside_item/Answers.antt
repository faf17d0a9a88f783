use Rattle.std.proofs.Common.{sym, subst}
use Rattle.loft_lex.specs.declared.word.Word.TheVariants as w
use Rattle.loft_lex.specs.declared.sign.Sign.TheVariants as s
use Rattle.loft_tree.specs.Source.{Outside}
use Rattle.loft_form.specs.Form.{◌▹◌, many, fresh}
use Rattle.loft_grammar.specs.declared.counts.Counted.TheVariants as count
use Rattle.loft_grammar.specs.Symbols.{name, sign, first_word}
use Rattle.loft_grammar.specs.Items.{outside_item, order}
use Rattle.loft_grammar.specs.Limits.{limits, nesting}
use Rattle.loft_grammar.specs.Readers.{Takes}
use Rattle.loft_grammar.specs.View.{symbols_at, state_at, orders_of}
use Rattle.loft_productions.proofs.Flat.{flat_orders}
use Rattle.loft_productions.proofs.Taking.{in_turn, meaning}
use Rattle.loft_productions.proofs.item.outside_item.Goals as goal

pub returns : goal.returns
unfolding outside_item
returns c =
    let first = c.args.at.now in
    let second = c.first_word.new.at in
    let third = c.name-name.new.at in
    let fourth = c.sign.new.at in
    let fifth = c.orders-orders.new.at in
    let last = c.sign-2.new.at in
    let o = subst (λ r. Takes fourth fifth (orders_of c.orders-orders.result) r) (sym (flat_orders (symbols_at fourth.cursor) (state_at fourth.cursor))) c.orders-orders.ensures in
    let end = sign s.CloseBrace in
    let all = fresh count.Order (many order) ▹ end in
    let braced = sign s.OpenBrace ▹ all in
    let named = name ▹ braced in
    let word = first_word count.Client w.Outside in
    meaning limits nesting (λ x. Outside x.1.0 x.1.1.1.0) (word ▹ named) first last _
    (in_turn limits nesting word named first second last _ _ c.first_word.ensures
    (in_turn limits nesting name braced second third last _ _ c.name-name.ensures
    (in_turn limits nesting (sign s.OpenBrace) all third fourth last _ _ c.sign.ensures.takes
    (in_turn limits nesting (fresh count.Order (many order)) end fourth fifth last _ _ o c.sign-2.ensures.takes))))
