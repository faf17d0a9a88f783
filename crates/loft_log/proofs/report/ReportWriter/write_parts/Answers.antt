use Rattle.std.proofs.Common.{◌≡◌, ◌++◌, [], ◌∷◌, map, Err, refl, codes}
use Rattle.std.proofs.lemmas.Result.{err_from_is_err_and}
use Rattle.loft_base.proofs.WritesLemmas.{begins, goes_on, fails, closes, rest_is}
use Rattle.loft_history.specs.History.{choice_of}
use Rattle.loft_history.specs.Report.{head_lines, left_part, schedulers_from}
use Rattle.loft_log.specs.WorldReport.{world_blocks, world_left}
use Rattle.loft_log.proofs.LineLemmas.{text_of-append}
use Rattle.loft_log.proofs.report.ReportWriter.write_parts.Goals as goal

pub returns-in_err-write_head : goal.returns-in_err-write_head
returns-in_err-write_head g c =
    let p = err_from_is_err_and c.from_residual.result c.from_residual.ensures.1 in
    let is : c.from_residual.result ≡ Err c.in_err-write_head.field-0.0 = rw (p.1, p.2) refl in
    fails _ is c.in_err-write_head.ensures (rest_is (text_of-append (head_lines c.args.self.now.heads.now c.args.options.now (map choice_of c.args.world.now.history)) (world_blocks c.args.self.now.heads.now c.args.world.now.history (schedulers_from 0 c.args.self.now.heads.now.schedulers) c.args.notes.now.of c.args.finals.now.of ++ (left_part (world_left c.args.self.now.heads.now c.args.world.now.history) ++ codes "end" ∷ []))) (begins _ _ _ _ _))

pub returns-in_err-write_blocks : goal.returns-in_err-write_blocks
returns-in_err-write_blocks g c =
    let p = err_from_is_err_and c.from_residual-in_err-write_blocks.result c.from_residual-in_err-write_blocks.ensures.1 in
    let is : c.from_residual-in_err-write_blocks.result ≡ Err c.in_err-write_blocks.field-0.0 = rw (p.1, p.2) refl in
    fails _ is (rw (c.as_slice.ensures, c.as_slice-2.ensures) at c.in_err-write_blocks.ensures) (rest_is (text_of-append (world_blocks c.args.self.now.heads.now c.args.world.now.history (schedulers_from 0 c.args.self.now.heads.now.schedulers) c.args.notes.now.of c.args.finals.now.of) (left_part (world_left c.args.self.now.heads.now c.args.world.now.history) ++ codes "end" ∷ [])) (goes_on _ c.in_ok-write_head.ensures (rest_is (text_of-append (head_lines c.args.self.now.heads.now c.args.options.now (map choice_of c.args.world.now.history)) (world_blocks c.args.self.now.heads.now c.args.world.now.history (schedulers_from 0 c.args.self.now.heads.now.schedulers) c.args.notes.now.of c.args.finals.now.of ++ (left_part (world_left c.args.self.now.heads.now c.args.world.now.history) ++ codes "end" ∷ []))) (begins _ _ _ _ _))))

pub returns-in_err-write_left : goal.returns-in_err-write_left
returns-in_err-write_left g c =
    let p = err_from_is_err_and c.from_residual-in_err-write_left.result c.from_residual-in_err-write_left.ensures.1 in
    let is : c.from_residual-in_err-write_left.result ≡ Err c.in_err-write_left.field-0.0 = rw (p.1, p.2) refl in
    fails _ is c.in_err-write_left.ensures (rest_is (text_of-append (left_part (world_left c.args.self.now.heads.now c.args.world.now.history)) (codes "end" ∷ [])) (goes_on _ (rw (c.as_slice.ensures, c.as_slice-2.ensures) at c.in_ok-write_blocks.ensures) (rest_is (text_of-append (world_blocks c.args.self.now.heads.now c.args.world.now.history (schedulers_from 0 c.args.self.now.heads.now.schedulers) c.args.notes.now.of c.args.finals.now.of) (left_part (world_left c.args.self.now.heads.now c.args.world.now.history) ++ codes "end" ∷ [])) (goes_on _ c.in_ok-write_head.ensures (rest_is (text_of-append (head_lines c.args.self.now.heads.now c.args.options.now (map choice_of c.args.world.now.history)) (world_blocks c.args.self.now.heads.now c.args.world.now.history (schedulers_from 0 c.args.self.now.heads.now.schedulers) c.args.notes.now.of c.args.finals.now.of ++ (left_part (world_left c.args.self.now.heads.now c.args.world.now.history) ++ codes "end" ∷ []))) (begins _ _ _ _ _))))))

pub returns : goal.returns
returns g c = closes c.write_text.ensures (goes_on _ c.in_ok-write_left.ensures (rest_is (text_of-append (left_part (world_left c.args.self.now.heads.now c.args.world.now.history)) (codes "end" ∷ [])) (goes_on _ (rw (c.as_slice.ensures, c.as_slice-2.ensures) at c.in_ok-write_blocks.ensures) (rest_is (text_of-append (world_blocks c.args.self.now.heads.now c.args.world.now.history (schedulers_from 0 c.args.self.now.heads.now.schedulers) c.args.notes.now.of c.args.finals.now.of) (left_part (world_left c.args.self.now.heads.now c.args.world.now.history) ++ codes "end" ∷ [])) (goes_on _ c.in_ok-write_head.ensures (rest_is (text_of-append (head_lines c.args.self.now.heads.now c.args.options.now (map choice_of c.args.world.now.history)) (world_blocks c.args.self.now.heads.now c.args.world.now.history (schedulers_from 0 c.args.self.now.heads.now.schedulers) c.args.notes.now.of c.args.finals.now.of ++ (left_part (world_left c.args.self.now.heads.now c.args.world.now.history) ++ codes "end" ∷ []))) (begins _ _ _ _ _)))))))
