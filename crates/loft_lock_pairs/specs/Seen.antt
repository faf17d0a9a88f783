-- What is found in memory, as plain values.
use Rattle.std.specs.Prelude.{ℕ, List, Option, None}
use Rattle.std.specs.Option.{option_map}
use Rattle.std.specs.Borrow.{Bor}
use Rattle.loft_base.specs.declared.ids.ModuleId.{ModuleId}
use Rattle.loft_tree.specs.NamedTree.{NamedStatement, Do, Hold, Run, If, While, Repeat}
use Rattle.loft_lock_forms.specs.Marks.{Use, Mark, use_at}

-- the name of a lock, where there is one
abbrev pub lock_seen : Option (Bor (List ℕ)) → Option (List ℕ)
lock_seen o = option_map (λ l. l.now) o

-- a module and the name of a lock, where there is one
abbrev pub fault_seen : Option (ModuleId × Bor (List ℕ)) → Option (ModuleId × List ℕ)
fault_seen o = option_map (λ f. (f.0, f.1.now)) o

-- what a statement stands for, where it stands in place of a form
abbrev pub form_of : List Mark → NamedStatement → Option Use
form_of marks (Do at action) = None
form_of marks (Hold at stop pause) = None
form_of marks (Run at stop called m arguments) = use_at marks called
form_of marks (If at test first second) = None
form_of marks (While at test body) = None
form_of marks (Repeat at count body) = None
