-- What is declared where names and kinds are correct, with a scheduler or without (docs/LANGUAGE.md, "Limits").
use Rattle.loft_tree.specs.declared.heads.Heads.{Heads}
use Rattle.loft_tree.specs.NamedFits.{HeadsWithinLimits, NamesDiffer}

-- what is declared keeps the limits of the language, and its names differ
pub record HeadsKept (h : Heads) : Type 0 where
  pub within : HeadsWithinLimits h
  pub names : NamesDiffer h
