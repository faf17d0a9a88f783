use Rattle.std.proofs.Math.Bridge.{le_prop}
use Rattle.std.proofs.Common.{◌≤◌, ◌++◌, length-append, arith}
use Rattle.std.proofs.Math.Logic.{∥∥₁_map, ∥∥₁_elim}
use Rattle.loft_report_shape.specs.Report.{longest}
use Rattle.loft_report_reader.proofs.Pieces.{read_size, read_short, has_read_error, error_cause, cause_more, fed_ok}
use Rattle.loft_report_reader.proofs.log.LogReader.feed.Goals as goal

pub returns-in-Some-clause-read : goal.returns-in-Some-clause-read
returns-in-Some-clause-read c = λ text h. has_read_error c.args.self.now c.in-Some.e text c.args.piece.now c.in-Some.is h

pub returns-in-Some-clause-cause : goal.returns-in-Some-clause-cause
returns-in-Some-clause-cause c = λ text h. cause_more c.in-Some.e text c.args.piece.now (error_cause c.args.self.now c.in-Some.e text c.in-Some.is h)

pub fail-requires : goal.fail-requires
fail-requires c =
    let s = c.args.self.now in
    ∥∥₁_map s.read (λ p. let size = read_size s.error s.machine s.length s.feeds p.0 c.in_default.is p.1 in (p.0 ++ c.args.piece.now, omega (arith, size, length-append p.0 c.args.piece.now, c.if-piece-saturating_sub.true, c.saturating_sub.ensures)))

pub take-requires-clause-room : goal.take-requires-clause-room
take-requires-clause-room c =
    let s = c.args.self.now in
    let short : s.length ≤ longest = ∥∥₁_elim s.read le_prop (λ p. read_short s.error s.machine s.length s.feeds p.0 c.in_default.is p.1) in
    omega (arith, short, c.if-piece-saturating_sub.false, c.saturating_sub.ensures)

pub returns-clause-goes_on : goal.returns-clause-goes_on
returns-clause-goes_on c = fed_ok c.take.result c.args.self.now c.take.new.self c.args.piece.now c.take.ensures.answer c.take.ensures.read
