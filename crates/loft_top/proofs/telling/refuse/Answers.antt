use Rattle.std.proofs.Common.{ℕ, ◌++◌, ◌∷◌, [], List, ◌∙◌, ap, sym, subst}
use Rattle.loft_base.specs.Writing.{are_lines, are_lines-end}
use Rattle.loft_refusal.specs.Refusals.{line_of}
use Rattle.loft_top.specs.declared.status.Status.{Status}
use Rattle.loft_top.specs.declared.status.Status.TheVariants as status
use Rattle.loft_top.specs.Status.{status_of_write}
use Rattle.loft_top.specs.Telling.{TellsTo}
use Rattle.loft_top.proofs.TellLemmas.{told_text, untold}
use Rattle.loft_top.proofs.telling.refuse.Goals as goal

pub write_lines-requires : goal.write_lines-requires
write_lines-requires g c = ap are_lines (c.as_slice.ensures.value ∙ c.in-Ok.ensures) ∙ are_lines-end (line_of c.args.refusal.now)

pub returns-in-Ok : goal.returns-in-Ok
returns-in-Ok g c =
    subst (λ (end : Status). TellsTo g.S.Sink.written g.S.Sink.faults g.S.Sink.room g.S.Sink.by_lines c.args.sink.now c.write_lines.new.sink status.Source end (line_of c.args.refusal.now ++ 10 ∷ [])) (sym c.status_of.ensures)
    (subst (λ (text : List ℕ). TellsTo g.S.Sink.written g.S.Sink.faults g.S.Sink.room g.S.Sink.by_lines c.args.sink.now c.write_lines.new.sink status.Source (status_of_write status.Source c.write_lines.result) text) (c.as_slice.ensures.value ∙ c.in-Ok.ensures)
    (told_text status.Source (λ e. cc) (λ e. cc) c.write_lines.result c.write_lines.ensures))

pub returns-in-Err : goal.returns-in-Err
returns-in-Err g c = untold status.Source (λ e. cc) (g.S.Sink.written c.args.sink.now) (g.S.Sink.faults c.args.sink.now) (g.S.Sink.room c.args.sink.now) (g.S.Sink.by_lines c.args.sink.now) (line_of c.args.refusal.now ++ 10 ∷ [])
