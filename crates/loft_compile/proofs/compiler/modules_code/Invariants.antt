use Rattle.std.proofs.Common.{◌≡◌, ◌++◌, map, drop}
use Rattle.loft_tree.specs.ProgramView.{module_of}
use Rattle.loft_tree.specs.Resolved.{body_of}
use Rattle.loft_code.specs.View.{lines_of}
use Rattle.loft_translation.specs.Compiled.{modules_from}
use Rattle.loft_compile.proofs.compiler.modules_code.Given as goal

-- the code of the modules that are left makes that of all whole
abbrev pub invariant-loop-number : goal.invariant-loop-number
invariant-loop-number l =
    modules_from l.heads 0 (map (λ m. body_of m.body) (map module_of l.modules))
    ≡ map lines_of l.code.items ++ modules_from l.heads l.number (map (λ m. body_of m.body) (map module_of (drop l.number l.modules)))
