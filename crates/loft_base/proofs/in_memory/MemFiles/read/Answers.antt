use Rattle.std.proofs.Common.{rules, inl}
use Rattle.loft_base.proofs.in_memory.MemFiles.read.Goals as goal

pub returns-then-contains-clause-only_then : goal.returns-then-contains-clause-only_then
returns-then-contains-clause-only_then c = λ _. inl (search rules)
