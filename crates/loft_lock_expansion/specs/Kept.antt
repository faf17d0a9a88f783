-- What is promised of the program that a text with locks stands for (docs/LOCKS.md, "What a lock promises").
use Rattle.std.specs.Prelude.{ℕ, List}
use Rattle.loft_tree.specs.Source.{Source}
use Rattle.loft_orders.specs.declared.entry.Entry.{Entry}
use Rattle.loft_base.specs.declared.options.RunOptions.{RunOptions}
use Rattle.loft_locks.specs.LocksHold.{LockKept}
use Rattle.loft_lock_forms.specs.Rewriting.{LockForm, Declares, TakesIt, GivesIt, all_say, forms}
use Rattle.loft_lock_rewriting.specs.Told.{lock_by, program_of}
use Rattle.loft_lock_expansion.specs.Expansion.{IsExpansion}

-- the forms of the text
abbrev pub forms_of : (text : List ℕ) (s : Source) → IsExpansion text s → List LockForm
forms_of text s e = forms 0 (all_say text e.tokens)

-- the lock that the form declares is kept in this history
abbrev pub FormKept : Source → RunOptions → List Entry → LockForm → Type 0
FormKept s o es (Declares l a) = LockKept (program_of s) (lock_by s l a) o es
FormKept s o es (TakesIt l) = Unit {0}
FormKept s o es (GivesIt l) = Unit {0}
