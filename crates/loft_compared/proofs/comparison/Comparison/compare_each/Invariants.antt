use Rattle.std.specs.Prelude.{◌≡◌, true}
use Rattle.loft_compared.proofs.Comparing.{Puts}
use Rattle.loft_compared.proofs.comparison.Comparison.compare_each.Given as goal

-- the bytes so far were gone over
abbrev pub invariant-loop-b : goal.invariant-loop-b
invariant-loop-b g l = record {
  puts : Puts l.fn.self.written l.fn.bytes l.b-index l.self;
  stays : l.fn.self.stopped ≡ true → l.self.stopped ≡ true;
}
