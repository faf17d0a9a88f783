use Rattle.loft_order_lines.proofs.Texts.{number_some, number_lacks, value_some, value_lacks, comma_outside}
use Rattle.loft_order_lines.proofs.PartLemmas.{frame_parts, same_frame, never_none, one_found}
use Rattle.loft_order_lines.proofs.thread.frame_of.Goals as goal

pub returns-in_err-module-clause-read : goal.returns-in_err-module-clause-read
returns-in_err-module-clause-read c w f has same =
    let p = frame_parts c.args.heads.now c.requires f has c.args.bytes.now c.cut_at.result.0.now c.cut_at-2.result.0.now c.cut_at-3.result.0.now c.cut_at-5.result.0.now c.cut_at.result.1.now c.cut_at-2.result.1.now c.cut_at-3.result.1.now c.cut_at-4.result.1.now c.cut_at-5.result.1.now c.cut_at-4.result.0.now c.cut_at.ensures c.cut_at-2.ensures c.cut_at-3.ensures c.cut_at-4.ensures c.cut_at-5.ensures same in
    absurd (never_none c.module_named.result f.module (c.module_named.ensures.read f.module has.declared p.module_is) c.in_err-module.was)

pub returns-in_err-stop-clause-read : goal.returns-in_err-stop-clause-read
returns-in_err-stop-clause-read c w f has same =
    let p = frame_parts c.args.heads.now c.requires f has c.args.bytes.now c.cut_at.result.0.now c.cut_at-2.result.0.now c.cut_at-3.result.0.now c.cut_at-5.result.0.now c.cut_at.result.1.now c.cut_at-2.result.1.now c.cut_at-3.result.1.now c.cut_at-4.result.1.now c.cut_at-5.result.1.now c.cut_at-4.result.0.now c.cut_at.ensures c.cut_at-2.ensures c.cut_at-3.ensures c.cut_at-4.ensures c.cut_at-5.ensures same in
    absurd (never_none c.stop_of.result f.stop (c.stop_of.ensures.read f.stop has.stop p.stop_is) c.in_err-stop.was)

pub read_list-requires-clause-apart : goal.read_list-requires-clause-apart
read_list-requires-clause-apart c n p = (number_some n p, number_lacks 44 comma_outside n p)

pub returns-in_err-counts-clause-read : goal.returns-in_err-counts-clause-read
returns-in_err-counts-clause-read c w f has same =
    let p = frame_parts c.args.heads.now c.requires f has c.args.bytes.now c.cut_at.result.0.now c.cut_at-2.result.0.now c.cut_at-3.result.0.now c.cut_at-5.result.0.now c.cut_at.result.1.now c.cut_at-2.result.1.now c.cut_at-3.result.1.now c.cut_at-4.result.1.now c.cut_at-5.result.1.now c.cut_at-4.result.0.now c.cut_at.ensures c.cut_at-2.ensures c.cut_at-3.ensures c.cut_at-4.ensures c.cut_at-5.ensures same in
    absurd (never_none c.read_list.result f.counts (c.read_list.ensures.read w f.counts has.counts p.counts_are) c.in_err-counts.was)

pub read_list-requires-2-clause-apart : goal.read_list-requires-2-clause-apart
read_list-requires-2-clause-apart c v p = (value_some c.args.heads.now c.requires v p, value_lacks 44 comma_outside c.args.heads.now c.requires v p)

pub returns-in_err-values-clause-read : goal.returns-in_err-values-clause-read
returns-in_err-values-clause-read c w f has same =
    let p = frame_parts c.args.heads.now c.requires f has c.args.bytes.now c.cut_at.result.0.now c.cut_at-2.result.0.now c.cut_at-3.result.0.now c.cut_at-5.result.0.now c.cut_at.result.1.now c.cut_at-2.result.1.now c.cut_at-3.result.1.now c.cut_at-4.result.1.now c.cut_at-5.result.1.now c.cut_at-4.result.0.now c.cut_at.ensures c.cut_at-2.ensures c.cut_at-3.ensures c.cut_at-4.ensures c.cut_at-5.ensures same in
    absurd (never_none c.read_list-2.result f.values (c.read_list-2.ensures.read w f.values has.values p.values_are) c.in_err-values.was)

pub returns-clause-read : goal.returns-clause-read
returns-clause-read c w f has same =
    let p = frame_parts c.args.heads.now c.requires f has c.args.bytes.now c.cut_at.result.0.now c.cut_at-2.result.0.now c.cut_at-3.result.0.now c.cut_at-5.result.0.now c.cut_at.result.1.now c.cut_at-2.result.1.now c.cut_at-3.result.1.now c.cut_at-4.result.1.now c.cut_at-5.result.1.now c.cut_at-4.result.0.now c.cut_at.ensures c.cut_at-2.ensures c.cut_at-3.ensures c.cut_at-4.ensures c.cut_at-5.ensures same in
    same_frame f c.in_ok-module.module c.in_ok-stop.stop c.in_ok-counts.counts c.in_ok-values.values
    (one_found c.module_named.result c.in_ok-module.module f.module (c.module_named.ensures.read f.module has.declared p.module_is) c.in_ok-module.was)
    (one_found c.stop_of.result c.in_ok-stop.stop f.stop (c.stop_of.ensures.read f.stop has.stop p.stop_is) c.in_ok-stop.was)
    (one_found c.read_list.result c.in_ok-counts.counts f.counts (c.read_list.ensures.read (c.read_list-2.ensures.before w) f.counts has.counts p.counts_are) c.in_ok-counts.was)
    (one_found c.read_list-2.result c.in_ok-values.values f.values (c.read_list-2.ensures.read w f.values has.values p.values_are) c.in_ok-values.was)
