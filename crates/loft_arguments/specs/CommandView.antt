-- A command in memory, as a plain value.
use Rattle.std.specs.Prelude.{Option}
use Rattle.std.specs.Option.{option_map, option_copied}
use Rattle.loft_arguments.specs.declared.command.Command.{Command as CommandInMemory}
use Rattle.loft_arguments.specs.declared.command.Command.TheVariants as command
use Rattle.loft_arguments.specs.declared.command.FileCommand.{FileCommand as FileCommandInMemory}
use Rattle.loft_arguments.specs.declared.command.FileCommand.TheVariants as file_command
use Rattle.loft_arguments.specs.Command.{FileCommand, Run, Exec, Show, Check, Compile, Bound, Expand, Command, OfFile, Replay, Gen, GenRun}

abbrev pub file_command_of : FileCommandInMemory → FileCommand
file_command_of (file_command.Run file options) = Run file.now options
file_command_of (file_command.Exec file options) = Exec file.now options
file_command_of (file_command.Show file) = Show file.now
file_command_of (file_command.Check file) = Check file.now
file_command_of (file_command.Compile file) = Compile file.now
file_command_of (file_command.Bound file) = Bound file.now
file_command_of (file_command.Expand file) = Expand file.now

abbrev pub command_of : CommandInMemory → Command
command_of (command.OfFile c) = OfFile (file_command_of c)
command_of (command.Replay source report only) = Replay source.now report.now (option_copied only)
command_of (command.Gen number) = Gen number
command_of (command.GenRun number) = GenRun number

abbrev pub file_meant : Option FileCommandInMemory → Option FileCommand
file_meant c = option_map file_command_of c

abbrev pub meant : Option CommandInMemory → Option Command
meant c = option_map command_of c
