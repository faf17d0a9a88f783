use Rattle.std.proofs.Common.{◌≡◌, length, refl, ap, ◌∙◌}
use Rattle.std.proofs.lemmas.Option.{slice_get_read}
use Rattle.loft_code.specs.View.{operation_of}
use Rattle.loft_compile.specs.Targets.{with_target}
use Rattle.loft_compile.proofs.WriteLemmas.{target_set}
use Rattle.loft_compile.proofs.compiler.Writer.set_target.Goals as goal

pub returns-clause-lines : goal.returns-clause-lines
returns-clause-lines c =
    let lines = c.args.self.now.lines.items in
    let l = c.index_mut.result.now in
    let is : operation_of c.set_target.new.op ≡ with_target (length lines) (operation_of l.op) = c.set_target.ensures ∙ ap (λ n. with_target n (operation_of l.op)) (c.len-next.ensures ∙ c.args.self.now.lines.ok.0) in
    target_set lines c.args.number (length lines) l c.set_target.new.op (slice_get_read lines (length lines) c.args.number l refl c.requires c.index_mut.ensures.value) is
