use Rattle.std.proofs.Common.{arith}
use Rattle.loft_line.proofs.RoomLemmas.{not_moved}
use Rattle.loft_line.proofs.line.Line.move_down.Goals as goal

pub returns : goal.returns
returns c =
    let order = c.requires.order in
    let over = c.if-to-pos.false in
    not_moved c.args.self.now c.args.to c.args.pos c.requires.idle (omega (arith, order, over))
