use Rattle.std.proofs.Common.{rules, ◌≤◌, ◌++◌, length, take, length-take, arith}
use Rattle.std.proofs.Math.Logic.{∥∥₁_map}
use Rattle.loft_report_reader.proofs.Pieces.{feeds_least, read_more, read_line}
use Rattle.loft_report_reader.proofs.log.LogReader.take.Goals as goal

pub invariant_of-self-in-Ok-Some : goal.invariant_of-self-in-Ok-Some
invariant_of-self-in-Ok-Some c =
    let s = c.args.self.now in
    let piece = c.args.piece.now in
    let n = c.in-Ok-Some.n in
    let within : n ≤ length piece = search rules in
    record {
      read = ∥∥₁_map s.read (λ p. (
        p.0 ++ piece,
        read_line s.error s.machine c.read.new.self s.length s.feeds c.saturating_add-line.result c.saturating_add-byte.result n p.0 piece c.in-Ok-Some.field-0 c.requires.open_still c.in-Ok-Some.field-0-is p.1 c.in-Ok-Some.ensures.read
            (λ few. omega (arith, few, c.saturating_add-line.ensures, c.saturating_add-feeds_before.ensures, c.feeds.ensures, feeds_least (take n piece), length-take n piece, c.requires.room))
            (λ few. omega (arith, few, c.saturating_add-byte.ensures, within, c.requires.room)),
      ));
    }

pub returns-in-Ok-Some-clause-read : goal.returns-in-Ok-Some-clause-read
returns-in-Ok-Some-clause-read c = λ text h.
    let s = c.args.self.now in
    let piece = c.args.piece.now in
    let n = c.in-Ok-Some.n in
    let within : n ≤ length piece = search rules in
    read_line s.error s.machine c.read.new.self s.length s.feeds c.saturating_add-line.result c.saturating_add-byte.result n text piece c.in-Ok-Some.field-0 c.requires.open_still c.in-Ok-Some.field-0-is h c.in-Ok-Some.ensures.read
    (λ few. omega (arith, few, c.saturating_add-line.ensures, c.saturating_add-feeds_before.ensures, c.feeds.ensures, feeds_least (take n piece), length-take n piece, c.requires.room))
    (λ few. omega (arith, few, c.saturating_add-byte.ensures, within, c.requires.room))

pub invariant_of-self-in-Ok-None : goal.invariant_of-self-in-Ok-None
invariant_of-self-in-Ok-None c =
    let s = c.args.self.now in
    let piece = c.args.piece.now in
    record {
      read = ∥∥₁_map s.read (λ p. (
        p.0 ++ piece,
        read_more s.error s.machine c.read.new.self s.length s.feeds c.saturating_add-self.result c.saturating_add-self-in-Ok-None.result p.0 piece c.in-Ok-None.field-0 c.requires.open_still c.in-Ok-None.field-0-is c.requires.room p.1 c.in-Ok-None.ensures.read
            (omega (arith, c.saturating_add-self.ensures, c.requires.room))
            (λ few. omega (arith, few, c.saturating_add-self-in-Ok-None.ensures, c.feeds-in-Ok-None.ensures, feeds_least piece, c.requires.room)),
      ));
    }

pub returns-in-Ok-None-clause-read : goal.returns-in-Ok-None-clause-read
returns-in-Ok-None-clause-read c = λ text h.
    let s = c.args.self.now in
    let piece = c.args.piece.now in
    read_more s.error s.machine c.read.new.self s.length s.feeds c.saturating_add-self.result c.saturating_add-self-in-Ok-None.result text piece c.in-Ok-None.field-0 c.requires.open_still c.in-Ok-None.field-0-is c.requires.room h c.in-Ok-None.ensures.read
    (omega (arith, c.saturating_add-self.ensures, c.requires.room))
    (λ few. omega (arith, few, c.saturating_add-self-in-Ok-None.ensures, c.feeds-in-Ok-None.ensures, feeds_least piece, c.requires.room))
