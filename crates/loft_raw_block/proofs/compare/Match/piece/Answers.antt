use Rattle.loft_raw_block.proofs.CompareLemmas.{piece_goes, piece_skips}
use Rattle.loft_raw_block.proofs.compare.Match.piece.Goals as goal

pub returns-then-self : goal.returns-then-self
returns-then-self c text front m = piece_goes text front c.args.piece.now c.args.self.now.left.now c.same_front-count.result c.args.self.now.is_same c.if-self.true c.same_front-count.ensures m

pub returns-else-self : goal.returns-else-self
returns-else-self c text front m = piece_skips text front c.args.piece.now c.args.self.now.left.now c.args.self.now.is_same c.if-self.false m
