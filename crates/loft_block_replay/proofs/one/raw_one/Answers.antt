use Rattle.std.proofs.Common.{◌<◌, ℕ, List, length, sym, ap, subst, ◌∙◌}
use Rattle.loft_tree.specs.declared.heads.Heads.{Heads}
use Rattle.loft_orders.specs.Text.{name_at, scheduler_name}
use Rattle.loft_sense.specs.Machine.{heads}
use Rattle.loft_report_reader.specs.Answer.{report_in}
use Rattle.loft_standing.specs.Stops.{tree_of}
use Rattle.loft_block_replay.proofs.AnswerLemmas.{named_at, none_named, all_blocks, missing_cause, missing_exact}
use Rattle.loft_block_replay.proofs.one.raw_one.Goals as goal

pub returns-in-None-clause-cause : goal.returns-in-None-clause-cause
returns-in-None-clause-cause c =
    let x = tree_of c.args.p.now in
    let r = report_in c.args.r.now in
    let below : c.args.s.0 < length c.as_slice.result.now = subst (λ (ns : List (List ℕ)). c.args.s.0 < length ns) (sym (c.as_slice.ensures ∙ ap (λ (h : Heads). h.schedulers) c.heads.ensures)) c.requires in
    let name = c.as_slice-2.ensures ∙ named_at c.as_slice.result.now c.args.s.0 c.index-as_slice-s.result below c.index-as_slice-s.is
    ∙ ap (λ (ns : List (List ℕ)). name_at ns c.args.s.0) (c.as_slice.ensures ∙ ap (λ (h : Heads). h.schedulers) c.heads.ensures) in
    let none = none_named c.as_slice-2.result.now (scheduler_name (heads x) c.args.s) c.as_slice-blocks.result.now r.blocks c.block_named.result c.block_named.ensures.first name c.as_slice-blocks.ensures c.in-None.is in
    let at = all_blocks r c.as_slice-blocks.result.now c.offset_after.result c.as_slice-blocks.ensures c.offset_after.ensures in
    missing_cause x r c.args.s none c.offset_after.result at

pub returns-in-None-clause-exact : goal.returns-in-None-clause-exact
returns-in-None-clause-exact c answer is =
    let x = tree_of c.args.p.now in
    let r = report_in c.args.r.now in
    let below : c.args.s.0 < length c.as_slice.result.now = subst (λ (ns : List (List ℕ)). c.args.s.0 < length ns) (sym (c.as_slice.ensures ∙ ap (λ (h : Heads). h.schedulers) c.heads.ensures)) c.requires in
    let name = c.as_slice-2.ensures ∙ named_at c.as_slice.result.now c.args.s.0 c.index-as_slice-s.result below c.index-as_slice-s.is
    ∙ ap (λ (ns : List (List ℕ)). name_at ns c.args.s.0) (c.as_slice.ensures ∙ ap (λ (h : Heads). h.schedulers) c.heads.ensures) in
    let none = none_named c.as_slice-2.result.now (scheduler_name (heads x) c.args.s) c.as_slice-blocks.result.now r.blocks c.block_named.result c.block_named.ensures.first name c.as_slice-blocks.ensures c.in-None.is in
    let at = all_blocks r c.as_slice-blocks.result.now c.offset_after.result c.as_slice-blocks.ensures c.offset_after.ensures in
    missing_exact x r c.args.s none c.offset_after.result at answer is
