-- Texts with a reserved name and with a long one (docs/LOCKS.md, "What is refused").
use Rattle.std.specs.Prelude.{ℕ, List, ◌++◌, Option, None, Ok, Err, codes, replicate}
use Rattle.loft_lex.specs.Tokens.{Found}
use Rattle.loft_lock_forms.specs.Rewriting.{all_say, forms}
use Rattle.loft_lock_forms.specs.Names.{long_name, reserved_name}

abbrev pub long_in : List ℕ → Found → Option ℕ
long_in text (Ok ts) = long_name text 0 ts
long_in text (Err e) = None

abbrev pub reserved_in : List ℕ → Found → Option ℕ
reserved_in text (Ok ts) = reserved_name text (forms 0 (all_say text ts)) ts
reserved_in text (Err e) = None

-- a variable with the name of a lock's own, and a lock whose name is that of another's module
abbrev pub own_variable : List ℕ
own_variable = codes "scheduler A;shared held_l in A = 0;lock l in A;"

abbrev pub own_module : List ℕ
own_module = codes "scheduler A;lock a in A;lock lock_a in A;"

-- a lock whose name has 58 bytes
abbrev pub long : List ℕ
long = codes "scheduler A;lock l;lock " ++ (replicate 58 108 ++ codes " in A;")
