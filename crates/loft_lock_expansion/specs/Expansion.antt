-- Which program a text with locks stands for (docs/LOCKS.md, "What is refused").
use Rattle.std.specs.Prelude.{◌≡◌, ℕ, ◌≤◌, ◌↔◌, Bool, true, false, List, [], length, Option, None, Ok}
use Rattle.loft_base.specs.declared.ids.ModuleId.{ModuleId}
use Rattle.loft_lex.specs.declared.token.Token.{Token}
use Rattle.loft_lex.specs.declared.TheConstants.{MAX_TEXT_LEN}
use Rattle.loft_lex.specs.Cut.{Cut}
use Rattle.loft_tree.specs.Source.{Source}
use Rattle.loft_tree.specs.NamedTree.{NamedModule}
use Rattle.loft_grammar.specs.Texts.{Reads}
use Rattle.loft_scopes.specs.Faults.{NamesFit}
use Rattle.loft_numbers.specs.Numbers.{numbered}
use Rattle.loft_place.specs.Links.{IsPlaced}
use Rattle.loft_locks.specs.Locks.{Leaves}
use Rattle.loft_locks.specs.Outline.{outline, pair_fault, leave_fault}
use Rattle.loft_lock_forms.specs.Marks.{Mark}
use Rattle.loft_lock_forms.specs.Rewriting.{all_say, written, forms}
use Rattle.loft_lock_rewriting.specs.Told.{program_of}
use Rattle.loft_lock_forms.specs.Marks.{text_marks}
use Rattle.loft_lock_expansion.specs.Checks.{first_fault}
use Rattle.loft_lock_forms.specs.Names.{long_name, reserved_name}

-- ---- pairs

-- the first module that breaks a rule of pairs, and the lock of its first statement that does; which modules leave is no matter
abbrev pub first_unpaired : List Mark → List NamedModule → Option (ModuleId × List ℕ)
first_unpaired marks ms = first_fault (λ (m : NamedModule). pair_fault [] [] (outline marks (λ i. false) m.body)) 0 ms

-- the first module that leaves a pair, and the lock of the outermost pair around its first statement that does
abbrev pub first_leaving : List Mark → (ModuleId → Bool) → List NamedModule → Option (ModuleId × List ℕ)
first_leaving marks away ms = first_fault (λ (m : NamedModule). leave_fault [] [] (outline marks away m.body)) 0 ms

-- this tells which modules of the program leave
abbrev pub TellsLeaving : Source → (ModuleId → Bool) → Type 0
TellsLeaving s away = (m : ModuleId) → (away m ≡ true) ↔ Leaves (program_of s) m

-- ---- one step after the other

-- the text is cut into these tokens, and neither it nor what is written for it is too long
pub record IsWritten (text : List ℕ) (ts : List Token) : Type 0 where
  pub fits : length text ≤ MAX_TEXT_LEN
  pub cut : Cut text (Ok ts)
  pub written_fits : length (written text 0 0 ts) ≤ MAX_TEXT_LEN

-- no name of a lock is long, and no token names what a form declares
pub record IsRewritten (text : List ℕ) (ts : List Token) : Type 0 where
  pub writes : IsWritten text ts
  pub short : long_name text 0 ts ≡ None
  pub free : reserved_name text (forms 0 (all_say text ts)) ts ≡ None

-- the written text is that of the program, whose names are correct
pub record IsNamed (text : List ℕ) (ts : List Token) (s : Source) : Type 0 where
  pub rewritten : IsRewritten text ts
  pub reads : Reads (written text 0 0 ts) s
  pub names : NamesFit s

-- its links and its pairs are correct too
pub record IsPaired (text : List ℕ) (ts : List Token) (s : Source) : Type 0 where
  pub named : IsNamed text ts s
  pub placed : IsPlaced (numbered s)
  pub paired : first_unpaired (text_marks text ts) (numbered s).modules ≡ None

-- The text with locks stands for the program: no reason to refuse it applies.
pub record IsExpansion (text : List ℕ) (s : Source) : Type 0 where
  pub tokens : List Token
  pub pairs : IsPaired text tokens s
  pub away : ModuleId → Bool
  pub leaving : TellsLeaving s away
  pub stays : first_leaving (text_marks text tokens) away (numbered s).modules ≡ None
