use Rattle.std.proofs.Common.{◌≡◌, ◌∙◌, ap, subst, List, ℕ, length, arith}
use Rattle.loft_tree.specs.View.{source_of}
use Rattle.loft_grammar.specs.Texts.{Reads}
use Rattle.loft_refusal.proofs.Known.{if_some}
use Rattle.loft_refusal.proofs.source.read_program.Goals as goal

pub returns-clause-program : goal.returns-clause-program
returns-clause-program g c = λ contents known.
    let text = c.as_slice.result.now in
    let same : c.in_ok-text.text.items ≡ contents = if_some (λ file. c.in_ok-text.text.items ≡ file) (g.F.Files.contents c.args.files.now c.args.name.now) contents c.in_ok-text.ensures.whole known in
    let now : text ≡ contents = c.as_slice.ensures.value ∙ same in
    record {
      short = omega (arith, c.as_slice.ensures.len, c.in_ok-text.ensures.within, ap length now);
      reads = subst (λ (t : List ℕ). Reads t (source_of c.in_ok-parse.field-0)) now c.in_ok-parse.ensures.ok;
    }
