use Rattle.loft_order_lines.proofs.PartLemmas.{id_parts, same_id, never_none, one_found}
use Rattle.loft_order_lines.proofs.value.id_of.Goals as goal

pub returns-in_err-maker-clause-read : goal.returns-in_err-maker-clause-read
returns-in_err-maker-clause-read c t has same =
    let p = id_parts c.args.heads.now c.requires t has c.args.bytes.now c.cut_at.result.0.now c.cut_at.result.1.now c.cut_at.ensures same in
    absurd (never_none c.maker_named.result t.maker (c.maker_named.ensures.read t.maker has.maker p.0) c.in_err-maker.was)

pub returns-in_err-seq-clause-read : goal.returns-in_err-seq-clause-read
returns-in_err-seq-clause-read c t has same =
    let p = id_parts c.args.heads.now c.requires t has c.args.bytes.now c.cut_at.result.0.now c.cut_at.result.1.now c.cut_at.ensures same in
    absurd (never_none c.number_of.result t.seq (c.number_of.ensures.read t.seq has.seq p.1) c.in_err-seq.was)

pub returns-clause-read : goal.returns-clause-read
returns-clause-read c t has same =
    let p = id_parts c.args.heads.now c.requires t has c.args.bytes.now c.cut_at.result.0.now c.cut_at.result.1.now c.cut_at.ensures same in
    same_id t c.in_ok-maker.maker c.in_ok-seq.seq
    (one_found c.maker_named.result c.in_ok-maker.maker t.maker (c.maker_named.ensures.read t.maker has.maker p.0) c.in_ok-maker.was)
    (one_found c.number_of.result c.in_ok-seq.seq t.seq (c.number_of.ensures.read t.seq has.seq p.1) c.in_ok-seq.was)
