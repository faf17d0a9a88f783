use Rattle.std.proofs.Common.{◌≡◌, ◌≤◌, ◌-◌, [], drop, length, true}
use Rattle.loft_lex.specs.Tokens.{Rising}
use Rattle.loft_lock_forms.specs.Whole.{whole, whole_of}
use Rattle.loft_lock_forms.proofs.rewriting.rewrite.Given as goal

-- what is written so far and what is to come is all
abbrev pub invariant-loop-index : goal.invariant-loop-index
invariant-loop-index l = record {
  within : l.index ≤ length l.tokens;
  read : l.writer.at ≤ length l.text;
  rising : Rising l.writer.at (drop l.index l.tokens);
  all : l.writer.out.is_whole ≡ true → whole l.text l.writer (drop l.index l.tokens) ≡ whole_of l.text [] [] 0 0 l.tokens;
}

abbrev pub decreases-loop-index : goal.decreases-loop-index
decreases-loop-index l = length l.tokens - l.index
