-- What a draft tells.
use Rattle.loft_report_shape.specs.Told.{Report, Told}
use Rattle.loft_report_draft.specs.declared.draft.Draft.{Draft}

abbrev pub report_of : Draft → Report
report_of d = record { options = d.options; choices = d.choices; blocks = d.blocks; left = d.left }

abbrev pub told_of : Draft → Told
told_of d = record { report = report_of d; section = d.section }
