use Rattle.std.proofs.Common.{sym}
use Rattle.loft_orders.specs.declared.thread.Wait.TheVariants as wait
use Rattle.loft_order_lines.proofs.Numbers.{bits_same}
use Rattle.loft_order_lines.proofs.Texts.{frame_some, frame_lacks_blank}
use Rattle.loft_order_lines.proofs.PartLemmas.{thread_parts, same_thread, never_none, one_found}
use Rattle.loft_order_lines.proofs.thread.thread_of.Goals as goal

pub returns-in_err-id-clause-read : goal.returns-in_err-id-clause-read
returns-in_err-id-clause-read c w t has same =
    let p = thread_parts c.args.heads.now c.requires t has c.args.bytes.now c.cut_at.result.0.now c.cut_at-2.result.0.now c.cut_at-3.result.0.now c.cut_at-4.result.0.now c.cut_at-4.result.1.now c.cut_at.result.1.now c.cut_at-2.result.1.now c.cut_at-3.result.1.now c.cut_at.ensures c.cut_at-2.ensures c.cut_at-3.ensures c.cut_at-4.ensures same in
    absurd (never_none c.id_of.result t.id (c.id_of.ensures.read t.id has.id p.id_is) c.in_err-id.was)

pub returns-in_err-code-clause-read : goal.returns-in_err-code-clause-read
returns-in_err-code-clause-read c w t has same =
    let p = thread_parts c.args.heads.now c.requires t has c.args.bytes.now c.cut_at.result.0.now c.cut_at-2.result.0.now c.cut_at-3.result.0.now c.cut_at-4.result.0.now c.cut_at-4.result.1.now c.cut_at.result.1.now c.cut_at-2.result.1.now c.cut_at-3.result.1.now c.cut_at.ensures c.cut_at-2.ensures c.cut_at-3.ensures c.cut_at-4.ensures same in
    absurd (never_none c.integer_of.result t.code (c.integer_of.ensures.read t.code has.code p.code_is) c.in_err-code.was)

pub returns-in_err-mask-clause-read : goal.returns-in_err-mask-clause-read
returns-in_err-mask-clause-read c w t has same =
    let p = thread_parts c.args.heads.now c.requires t has c.args.bytes.now c.cut_at.result.0.now c.cut_at-2.result.0.now c.cut_at-3.result.0.now c.cut_at-4.result.0.now c.cut_at-4.result.1.now c.cut_at.result.1.now c.cut_at-2.result.1.now c.cut_at-3.result.1.now c.cut_at.ensures c.cut_at-2.ensures c.cut_at-3.ensures c.cut_at-4.ensures same in
    absurd (never_none c.integer_of-2.result t.mask (c.integer_of-2.ensures.read t.mask has.mask p.mask_is) c.in_err-mask.was)

pub read_list-requires-clause-apart : goal.read_list-requires-clause-apart
read_list-requires-clause-apart c f p = (frame_some c.args.heads.now f, frame_lacks_blank c.args.heads.now c.requires f p)

pub returns-in_err-frames-clause-read : goal.returns-in_err-frames-clause-read
returns-in_err-frames-clause-read c w t has same =
    let p = thread_parts c.args.heads.now c.requires t has c.args.bytes.now c.cut_at.result.0.now c.cut_at-2.result.0.now c.cut_at-3.result.0.now c.cut_at-4.result.0.now c.cut_at-4.result.1.now c.cut_at.result.1.now c.cut_at-2.result.1.now c.cut_at-3.result.1.now c.cut_at.ensures c.cut_at-2.ensures c.cut_at-3.ensures c.cut_at-4.ensures same in
    absurd (never_none c.read_list.result t.frames (c.read_list.ensures.read w t.frames has.frames p.frames_are) c.in_err-frames.was)

pub returns-clause-read : goal.returns-clause-read
returns-clause-read c w t has same =
    let p = thread_parts c.args.heads.now c.requires t has c.args.bytes.now c.cut_at.result.0.now c.cut_at-2.result.0.now c.cut_at-3.result.0.now c.cut_at-4.result.0.now c.cut_at-4.result.1.now c.cut_at.result.1.now c.cut_at-2.result.1.now c.cut_at-3.result.1.now c.cut_at.ensures c.cut_at-2.ensures c.cut_at-3.ensures c.cut_at-4.ensures same in
    same_thread t c.in_ok-id.id _ _ wait.New c.in_ok-frames.frames
    (one_found c.id_of.result c.in_ok-id.id t.id (c.id_of.ensures.read t.id has.id p.id_is) c.in_ok-id.was)
    (bits_same c.in_ok-code.code t.code has.code (one_found c.integer_of.result c.in_ok-code.code t.code (c.integer_of.ensures.read t.code has.code p.code_is) c.in_ok-code.was))
    (bits_same c.in_ok-mask.mask t.mask has.mask (one_found c.integer_of-2.result c.in_ok-mask.mask t.mask (c.integer_of-2.ensures.read t.mask has.mask p.mask_is) c.in_ok-mask.was))
    (sym has.wait)
    (one_found c.read_list.result c.in_ok-frames.frames t.frames (c.read_list.ensures.read w t.frames has.frames p.frames_are) c.in_ok-frames.was)
