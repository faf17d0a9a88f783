use Rattle.std.proofs.Common.{◌≡◌, ◌∙◌, Some, None}
use Rattle.std.specs.Fmt.{decimal}
use Rattle.loft_lex.specs.declared.TheConstants.{MAX_OFFSET}
use Rattle.loft_tree.specs.View.{place_name_of}
use Rattle.loft_show.specs.Places.{bare_place}
use Rattle.loft_listing_line.specs.Instructions.{bare_instruction, instruction_text}
use Rattle.loft_listing_line.specs.Rows.{Operation, bare_line, line_text}
use Rattle.loft_listing_line.specs.RowsFit.{ListingLineFits}
use Rattle.loft_listing_line.specs.RowView.{deed_of}
use Rattle.loft_listing_line.proofs.Columns.{by_operation, columns_short, operation_columns, place_bytes, place_without, same_length}
use Rattle.loft_listing_line.proofs.Finding.{none_found, some_found}
use Rattle.loft_listing_line.proofs.operation.operation.Goals as goal

pub returns-in_default-clause-found : goal.returns-in_default-clause-found
returns-in_default-clause-found c x of same short =
    by_operation (λ l. ListingLineFits l → c.args.line.now ≡ line_text l → None ≡ Some (bare_line l)) x of.0
    (λ number p depth i fits is.
    absurd (c.in_default.ensures.found number depth (place_bytes p) (instruction_text i) fits.0 fits.2 (place_without p fits.1) (is ∙ operation_columns number depth p i))) of.1 same

pub returns-in_default-2-clause-found : goal.returns-in_default-2-clause-found
returns-in_default-2-clause-found c x of same short =
    by_operation (λ l. ListingLineFits l → c.args.line.now ≡ line_text l → None ≡ Some (bare_line l)) x of.0
    (λ number p depth i fits is.
    let whole = is ∙ operation_columns number depth p i in
    let parts = c.in-Some.ensures.found number depth (place_bytes p) (instruction_text i) fits.0 fits.2 (place_without p fits.1) whole in
    let lengths = columns_short MAX_OFFSET c.args.line.now (decimal number) (place_bytes p) (decimal depth) (instruction_text i) whole short in
    let found = c.in_ok-place.ensures.found p fits.1 parts.1 (same_length MAX_OFFSET c.in-Some.columns.place.now (place_bytes p) parts.1 lengths.0) in
    absurd (none_found place_name_of bare_place c.in_ok-place.field-0 p c.in_default-2.is found)) of.1 same

pub returns-in_default-3-clause-found : goal.returns-in_default-3-clause-found
returns-in_default-3-clause-found c x of same short =
    by_operation (λ l. ListingLineFits l → c.args.line.now ≡ line_text l → None ≡ Some (bare_line l)) x of.0
    (λ number p depth i fits is.
    let whole = is ∙ operation_columns number depth p i in
    let parts = c.in-Some.ensures.found number depth (place_bytes p) (instruction_text i) fits.0 fits.2 (place_without p fits.1) whole in
    let lengths = columns_short MAX_OFFSET c.args.line.now (decimal number) (place_bytes p) (decimal depth) (instruction_text i) whole short in
    let found = c.in_ok-deed.ensures.found i fits.3 parts.3 (same_length MAX_OFFSET c.in-Some.columns.deed.now (instruction_text i) parts.3 lengths.1) in
    absurd (none_found deed_of bare_instruction c.in_ok-deed.field-0 i c.in_default-3.is found)) of.1 same

pub returns-clause-found : goal.returns-clause-found
returns-clause-found c x of same short =
    by_operation (λ l. ListingLineFits l → c.args.line.now ≡ line_text l → Some (Operation c.in-Some.columns.number (bare_place (place_name_of c.in-Some-2.place)) c.in-Some.columns.depth (bare_instruction (deed_of c.in-Some-3.deed))) ≡ Some (bare_line l)) x of.0
    (λ number p depth i fits is.
    let whole = is ∙ operation_columns number depth p i in
    let parts = c.in-Some.ensures.found number depth (place_bytes p) (instruction_text i) fits.0 fits.2 (place_without p fits.1) whole in
    let lengths = columns_short MAX_OFFSET c.args.line.now (decimal number) (place_bytes p) (decimal depth) (instruction_text i) whole short in
    let place = c.in_ok-place.ensures.found p fits.1 parts.1 (same_length MAX_OFFSET c.in-Some.columns.place.now (place_bytes p) parts.1 lengths.0) in
    let deed = c.in_ok-deed.ensures.found i fits.3 parts.3 (same_length MAX_OFFSET c.in-Some.columns.deed.now (instruction_text i) parts.3 lengths.1) in
    let same_place = some_found place_name_of bare_place c.in_ok-place.field-0 c.in-Some-2.place p c.in-Some-2.is place in
    let same_deed = some_found deed_of bare_instruction c.in_ok-deed.field-0 c.in-Some-3.deed i c.in-Some-3.is deed in
    let n = parts.0 in
    let d = parts.2 in
    cc) of.1 same
