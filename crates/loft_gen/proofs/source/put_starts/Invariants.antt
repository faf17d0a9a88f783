use Rattle.std.proofs.Common.{true, ◌≡◌, ◌+◌, ◌-◌, ◌++◌}
use Rattle.loft_gen.specs.Generated.{starts_text}
use Rattle.loft_gen.proofs.source.put_starts.Given as goal

-- the starts that are left come after
abbrev pub invariant-starts : goal.invariant-starts
invariant-starts l = record {
  whole : l.out.is_whole ≡ true → l.initial.out.is_whole ≡ true;
  text : l.out.is_whole ≡ true → l.initial.out.text.items ++ starts_text 1 l.threads ≡ l.out.text.items ++ starts_text (l.made + 1) (l.threads - l.made);
}
