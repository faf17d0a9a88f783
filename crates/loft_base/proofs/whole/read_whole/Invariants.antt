use Rattle.std.proofs.Common.{◌≡◌, ◌-◌, ◌≤◌, vec_len, IfSome, IsTrue}
use Rattle.loft_base.specs.declared.whole.TheConstants.{PART}
use Rattle.loft_base.specs.Outside.{IsNextPlace}
use Rattle.loft_base.specs.Walk.{count_of, room_of}
use Rattle.loft_base.proofs.Reading.{IsFront}
use Rattle.loft_base.proofs.whole.read_whole.Given as goal

abbrev pub invariant-loop-whole : goal.invariant-loop-whole
invariant-loop-whole g l = record {
  asked : IsTrue (g.F.Files.may_ask l.files l.name);
  place : IsNextPlace (count_of l.walk) (g.F.Files.place l.files);
  within : count_of l.walk ≤ l.limit;
  room : room_of l.walk ≡ PART;
  read : vec_len l.whole ≡ count_of l.walk;
  whole : IfSome (g.F.Files.contents l.files l.name) (IsFront l.whole.items l.walk);
  never_falls : g.F.Files.faults l.initial.files ≤ g.F.Files.faults l.files;
  no_fault : IsTrue (g.F.Files.never_fails l.initial.files l.name) → g.F.Files.faults l.files ≡ g.F.Files.faults l.initial.files;
  same_contents : g.F.Files.contents l.files ≡ g.F.Files.contents l.initial.files;
  same_names : g.F.Files.may_ask l.files ≡ g.F.Files.may_ask l.initial.files;
  same_sure : g.F.Files.never_fails l.files ≡ g.F.Files.never_fails l.initial.files;
  same_refused : g.F.Files.always_fails l.files ≡ g.F.Files.always_fails l.initial.files;
}

abbrev pub decreases-loop-whole : goal.decreases-loop-whole
decreases-loop-whole g l = l.limit - count_of l.walk
