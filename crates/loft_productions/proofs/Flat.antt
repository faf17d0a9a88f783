-- What stands outside bodies opens no nesting, and so is read alike wherever it stands.
use Rattle.std.proofs.Common.{◌≡◌, List, refl}
use Rattle.loft_lex.specs.Symbol.{Symbol}
use Rattle.loft_form.specs.Form.{many, fresh, State}
use Rattle.loft_form.specs.Reading.{read}
use Rattle.loft_form.proofs.NoNesting.{read_flat}
use Rattle.loft_grammar.specs.declared.counts.Counted.TheVariants as count
use Rattle.loft_grammar.specs.Language.{Language}
use Rattle.loft_grammar.specs.Symbols.{Form}
use Rattle.loft_grammar.specs.Statements.{rules}
use Rattle.loft_grammar.specs.Items.{negative, signed, parameter, parameters, local, place, ending, head, outer_argument, outer_arguments, create_order, control_order, value_after_comma, broadcast_order, order}
use Rattle.loft_grammar.specs.Limits.{limits, nesting}

-- where all nestings may still be opened, and where none may
abbrev IsFlat : {A : Type 0} → Form A → Type 0
IsFlat f = (ss : List Symbol) (c : State Language) → read rules limits nesting f ss c ≡ read rules limits 0 f ss c

pub flat_signed : IsFlat signed
unfolding signed negative
flat_signed ss c = read_flat rules limits nesting 0 signed refl ss c

pub flat_head : IsFlat head
unfolding head parameters parameter place ending
flat_head ss c = read_flat rules limits nesting 0 head refl ss c

pub flat_locals : IsFlat (fresh count.Local (many local))
unfolding local
flat_locals ss c = read_flat rules limits nesting 0 (fresh count.Local (many local)) refl ss c

pub flat_arguments : IsFlat outer_arguments
unfolding outer_arguments outer_argument signed negative
flat_arguments ss c = read_flat rules limits nesting 0 outer_arguments refl ss c

pub flat_orders : IsFlat (fresh count.Order (many order))
unfolding order create_order control_order broadcast_order value_after_comma outer_arguments outer_argument signed negative
flat_orders ss c = read_flat rules limits nesting 0 (fresh count.Order (many order)) refl ss c

pub flat_local : IsFlat local
unfolding local
flat_local ss c = read_flat rules limits nesting 0 local refl ss c

pub flat_order : IsFlat order
unfolding order create_order control_order broadcast_order value_after_comma outer_arguments outer_argument signed negative
flat_order ss c = read_flat rules limits nesting 0 order refl ss c
