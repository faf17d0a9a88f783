use Rattle.std.proofs.Common.{◌∙◌, sym, ap, arith, List}
use Rattle.loft_lex.specs.declared.token.Token.{Token}
use Rattle.loft_lock_forms.specs.Whole.{whole}
use Rattle.loft_lock_forms.proofs.Steps.{at_front, rises_on, said_is, as_many}
use Rattle.loft_lock_forms.proofs.rewriting.rewrite.Goals as goal

pub split_at-requires : goal.split_at-requires
split_at-requires c = omega (arith, c.loop-index.invariant.within, as_many c.args.text.now c.args.symbols.now c.args.tokens.now c.requires.symbols)

pub loop-index-preserved : goal.loop-index-preserved
loop-index-preserved c =
    let i = c.loop-index.index in
    let src = c.args.text.now in
    let tokens = c.args.tokens.now in
    let less = c.loop-index-test.true in
    record {
      within = omega (arith, c.loop-index-test.true);
      read = rw c.go.ensures.at (c.requires.fits i _ less).within;
      rising = rw c.go.ensures.at (rises_on c.loop-index.writer.at tokens i _ less c.loop-index.invariant.rising);
      all = λ w. c.go.ensures.whole w _ (said_is src c.args.symbols.now tokens i _ less c.requires.symbols _ c.split_at.ensures.back)
          ∙ (ap (λ (ts : List Token). whole src c.loop-index.writer ts) (sym (at_front tokens i _ less)) ∙ c.loop-index.invariant.all (c.go.ensures.before w));
    }
