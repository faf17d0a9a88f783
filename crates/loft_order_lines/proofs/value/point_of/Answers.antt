use Rattle.loft_order_lines.proofs.PartLemmas.{point_parts, same_point, never_none, one_found}
use Rattle.loft_order_lines.proofs.value.point_of.Goals as goal

pub returns-in_err-module-clause-read : goal.returns-in_err-module-clause-read
returns-in_err-module-clause-read c at has same =
    let p = point_parts c.args.heads.now c.requires at has c.args.bytes.now c.cut_at.result.0.now c.cut_at.result.1.now c.cut_at.ensures same in
    absurd (never_none c.module_named.result at.module (c.module_named.ensures.read at.module has.declared p.0) c.in_err-module.was)

pub returns-in_err-stop-clause-read : goal.returns-in_err-stop-clause-read
returns-in_err-stop-clause-read c at has same =
    let p = point_parts c.args.heads.now c.requires at has c.args.bytes.now c.cut_at.result.0.now c.cut_at.result.1.now c.cut_at.ensures same in
    absurd (never_none c.stop_of.result at.stop (c.stop_of.ensures.read at.stop has.stop p.1) c.in_err-stop.was)

pub returns-clause-read : goal.returns-clause-read
returns-clause-read c at has same =
    let p = point_parts c.args.heads.now c.requires at has c.args.bytes.now c.cut_at.result.0.now c.cut_at.result.1.now c.cut_at.ensures same in
    same_point at c.in_ok-module.module c.in_ok-stop.stop
    (one_found c.module_named.result c.in_ok-module.module at.module (c.module_named.ensures.read at.module has.declared p.0) c.in_ok-module.was)
    (one_found c.stop_of.result c.in_ok-stop.stop at.stop (c.stop_of.ensures.read at.stop has.stop p.1) c.in_ok-stop.was)
