-- What a program with numbers in memory is as a plain value.
use Rattle.std.specs.Prelude.{map}
use Rattle.loft_tree.specs.declared.named.Module.{Module}
use Rattle.loft_tree.specs.declared.named.NamedProgram.{NamedProgram as ProgramInMemory}
use Rattle.loft_tree.specs.NamedTree.{NamedModule, NamedProgram}
use Rattle.loft_tree.specs.NamedView.{statements_of}

abbrev pub module_of : Module → NamedModule
module_of m = record { at = m.at; body = statements_of m.body.items }

abbrev pub program_of : ProgramInMemory → NamedProgram
program_of n = record { heads = n.heads; modules = map module_of n.modules.items; links = n.links.items }
