use Rattle.std.proofs.Common.{◌≡◌, ◌-◌, ◌≤◌, IsTrue, IfSome}
use Rattle.loft_base.specs.Outside.{IsNextPlace}
use Rattle.loft_report_shape.specs.Report.{longest}
use Rattle.loft_base.specs.Walk.{count_of, room_of}
use Rattle.loft_report_file.specs.declared.read.TheConstants.{PART}
use Rattle.loft_report_file.proofs.Reading.{IsReadOn, IsFed}
use Rattle.loft_report_file.proofs.read.read_log.Given as goal

abbrev pub invariant-loop-walk : goal.invariant-loop-walk
invariant-loop-walk g l = record {
  asked : IsTrue (g.F.Files.may_ask l.files l.name);
  place : IsNextPlace (count_of l.walk) (g.F.Files.place l.files);
  within : count_of l.walk ≤ longest;
  room : room_of l.walk ≡ PART;
  read : IfSome (g.F.Files.contents l.files l.name) (IsReadOn l.walk l.reader);
  fed : IsFed l.reader (count_of l.walk);
  never_falls : g.F.Files.faults l.initial.files ≤ g.F.Files.faults l.files;
  no_fault : IsTrue (g.F.Files.never_fails l.initial.files l.name) → g.F.Files.faults l.files ≡ g.F.Files.faults l.initial.files;
  same_contents : g.F.Files.contents l.files ≡ g.F.Files.contents l.initial.files;
  same_names : g.F.Files.may_ask l.files ≡ g.F.Files.may_ask l.initial.files;
  same_sure : g.F.Files.never_fails l.files ≡ g.F.Files.never_fails l.initial.files;
  same_refused : g.F.Files.always_fails l.files ≡ g.F.Files.always_fails l.initial.files;
}

abbrev pub decreases-loop-walk : goal.decreases-loop-walk
decreases-loop-walk g l = longest - count_of l.walk
