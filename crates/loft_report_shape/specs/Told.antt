-- What is told of a report as it is read.
use Rattle.std.specs.Prelude.{ℕ, ◌==◌, List, [], ◌∷◌, ◌++◌, Option, Some, if◌then◌else◌}
use Rattle.loft_base.specs.declared.options.RunOptions.{RunOptions}
use Rattle.loft_spelling.specs.Sets.{value_of}
use Rattle.loft_report_shape.specs.Last.{on_last}
use Rattle.loft_report_shape.specs.Word.{word_of}
use Rattle.loft_report_shape.specs.declared.word.Word.{Word}
use Rattle.loft_report_shape.specs.declared.word.Word.TheVariants as word
use Rattle.loft_report_shape.specs.declared.part.NumberKind.{NumberKind}
use Rattle.loft_report_shape.specs.declared.part.NumberKind.TheVariants as number
use Rattle.loft_report_shape.specs.declared.part.NameRole.{NameRole}
use Rattle.loft_report_shape.specs.declared.part.NameRole.TheVariants as role
use Rattle.loft_report_shape.specs.declared.part.Section.{Section}
use Rattle.loft_report_shape.specs.declared.part.Section.TheVariants as section
use Rattle.loft_report_shape.specs.declared.part.Part.{Part}
use Rattle.loft_report_shape.specs.declared.part.Part.TheVariants as part
use Rattle.loft_report_shape.specs.declared.raw.Choice.{Choice}
use Rattle.loft_report_shape.specs.declared.raw.Choice.TheVariants as choice
use Rattle.loft_report_shape.specs.declared.raw.RawBlock.{RawBlock}

-- a report: its options, its choices, a block for each scheduler, and the lines of its left-over part from `left L` on
pub record Report : Type 0 where
  pub options : RunOptions
  pub choices : List Choice
  pub blocks : List RawBlock
  pub left : List ℕ

-- what was told so far, and where further bytes are kept
pub record Told : Type 0 where
  pub report : Report
  pub section : Section

abbrev pub nothing_told : Told
nothing_told = record {
  report = record { options = record { limits = record { instants = 0; budget = 0; block = 0 }; workers = 0 }; choices = []; blocks = []; left = [] };
  section = section.Told;
}

abbrev pub in_last_block : (RawBlock → RawBlock) → Report → Report
in_last_block f r = record r { blocks = on_last f r.blocks }

-- these bytes are kept in a section
abbrev pub kept : Section → List ℕ → Report → Report
kept section.Told w r = r
kept section.Instant w r = in_last_block (λ b. record b { instants = on_last (λ lines. lines ++ w) b.instants }) r
kept section.Final w r = in_last_block (λ b. record b { last = b.last ++ w }) r
kept section.Left w r = record r { left = r.left ++ w }

abbrev pub keeps : List ℕ → Told → Told
keeps w t = record t { report = kept t.section w t.report }

-- a line begins an instant, a final state, a block or the left-over part; or it stands in the section that it finds
abbrev pub enters : Option Word → Told → Told
enters (Some word.Scheduler) t = record t { section = section.Told }
enters (Some word.Instant) t = record { report = in_last_block (λ b. record b { instants = b.instants ++ [] ∷ [] }) t.report; section = section.Instant }
enters (Some word.State) t = record t { section = section.Final }
enters (Some word.Left) t = record t { section = section.Left }
enters w t = t

abbrev pub chosen : Choice → Report → Report
chosen c r = record r { choices = r.choices ++ c ∷ [] }

-- what a number tells
abbrev pub number_told : NumberKind → ℕ → Report → Report
number_told number.Instants n r = record r { options = record r.options { limits = record r.options.limits { instants = n } } }
number_told number.Budget n r = record r { options = record r.options { limits = record r.options.limits { budget = n } } }
number_told number.Block n r = record r { options = record r.options { limits = record r.options.limits { block = n } } }
number_told number.Workers n r = record r { options = record r.options { workers = n } }
number_told number.Pick n r = chosen (choice.Pick n) r
number_told number.Post n r = chosen (choice.Post n) r
number_told kind n r = r

-- what a name tells
abbrev pub name_told : NameRole → List ℕ → Report → Report
name_told role.Take w r = chosen (choice.Take w) r
name_told role.Give w r = chosen (choice.Give w) r
name_told role.Client w r = chosen (choice.Client w) r
name_told role.Block w r = record r { blocks = r.blocks ++ (record { name = w; instants = []; last = [] }) ∷ [] }
name_told role.Other w r = r

abbrev pub tells : Report → Told → Told
tells r t = record t { report = r }

-- A spelling of a part tells this. Its bytes are kept but for those of the lines whose meaning is.
abbrev pub note : Part → List ℕ → Told → Told
note (part.Number n) w t = keeps w (tells (number_told n (value_of w) t.report) t)
note (part.Name r) w t = keeps w (tells (name_told r w t.report) t)
note (part.Choices n) w t = keeps w (enters (word_of w) t)
note (part.Lines s) w t = keeps w (enters (word_of w) t)
note (part.States n) w t = keeps w (enters (word_of w) t)
note (part.Left n) w t = if n == 0 then t else keeps w t
note part.Close w t = t
note p w t = keeps w t
