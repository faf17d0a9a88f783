use Rattle.std.proofs.Common.{◌≡◌, take}
use Rattle.std.specs.List.{list_all}
use Rattle.loft_spelling.specs.Sets.{is_printed}
use Rattle.loft_report_reader.proofs.text_there.all_printed.Given as goal

abbrev pub invariant-loop-b : goal.invariant-loop-b
invariant-loop-b l = l.all ≡ list_all is_printed (take l.b-index l.bytes)
