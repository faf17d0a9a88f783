-- What is promised of the locks of a text (docs/LOCKS.md, "What a lock promises").
use Rattle.std.specs.Prelude.{◌≡◌, ℕ, List, Ok}
use Rattle.loft_base.specs.declared.ids.SchedId.{SchedId}
use Rattle.loft_base.specs.declared.options.RunOptions.{RunOptions}
use Rattle.loft_lex.specs.declared.token.Token.{Token}
use Rattle.loft_lex.specs.Cut.{Cut}
use Rattle.loft_tree.specs.Fits.{Each}
use Rattle.loft_tree.specs.NamedFits.{IsScheduler}
use Rattle.loft_tree.specs.Source.{Source}
use Rattle.loft_orders.specs.declared.entry.Entry.{Entry}
use Rattle.loft_sense.specs.Machine.{Tree, Code}
use Rattle.loft_history.specs.History.{replayed}
use Rattle.loft_history.specs.Legal.{IsLegal, HasNoCallers}
use Rattle.loft_translation.specs.Compiled.{compiled}
use Rattle.loft_lock_forms.specs.Rewriting.{all_say, forms}
use Rattle.loft_lock_rewriting.specs.Told.{program_of}
use Rattle.loft_lock_expansion.specs.Kept.{FormKept}

-- Each lock that the text declares is kept in each legal history without callers of the program, and of its compiled code,
-- where each scheduler has the same machines.
pub record KeepsLocks (text : List ℕ) (s : Source) : Type 0 where
  pub tokens : List Token
  pub cut : Cut text (Ok tokens)
  pub tree : (o : RunOptions) (es : List Entry) → IsLegal (Tree (program_of s)) o es → HasNoCallers (program_of s).heads es → Each (FormKept s o es) (forms 0 (all_say text tokens))
  pub code : (o : RunOptions) (es : List Entry) → IsLegal (Code (compiled (program_of s))) o es → HasNoCallers (program_of s).heads es → Each (FormKept s o es) (forms 0 (all_say text tokens))
  pub machines : (o : RunOptions) (es : List Entry) → IsLegal (Code (compiled (program_of s))) o es → (a : SchedId) → IsScheduler (program_of s).heads a
      → replayed (Tree (program_of s)) o.limits a es ≡ replayed (Code (compiled (program_of s))) o.limits a es
