-- Programs with locks, and bodies whose `run`s are told by the forms (docs/LOCKS.md, "Pairs").
use Rattle.std.specs.Prelude.{ℕ, List}
use Rattle.loft_tree.specs.Fits.{Each}
use Rattle.loft_tree.specs.Source.{Source}
use Rattle.loft_tree.specs.NamedTree.{NamedModule}
use Rattle.loft_tree.specs.Resolved.{Resolved, resolved_of}
use Rattle.loft_numbers.specs.Numbers.{numbered}
use Rattle.loft_locks.specs.Locks.{Lock}
use Rattle.loft_lock_forms.specs.Marks.{Mark}
use Rattle.loft_locks.specs.Marked.{BodyMarked}
use Rattle.loft_lock_sources.specs.SourceLocks.{lock_in}
use Rattle.loft_lock_rewriting.specs.Locked.{lock_names}

-- a lock of the program
abbrev pub lock_by : Source → List ℕ → List ℕ → Lock
lock_by s l a = lock_in s (lock_names l a)

-- the program with numbers
abbrev pub program_of : Source → Resolved
program_of s = resolved_of (numbered s)

-- the `run`s of the modules of this lock are those that stand in place of its forms
abbrev pub IsTold : Source → List Mark → List ℕ → List ℕ → Type 0
IsTold s marks l a = Each (λ (m : NamedModule). BodyMarked (lock_by s l a) l marks m.body) (numbered s).modules
