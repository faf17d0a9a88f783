-- What the file of a command says.
use Rattle.loft_tree.specs.Source.{Source}
use Rattle.loft_code.specs.Operations.{Automata}

pub data Input : Type 0 where
  -- a source
  ASource : (p : Source) → Input
  -- a listing, of this code
  AListing : (c : Automata) → Input
  -- a text with locks, which stands for this program
  AnExpansion : (p : Source) → Input
