use Rattle.std.proofs.Common.{refl, sym, subst}
use Rattle.loft_listing_line.specs.Rows.{line_text}
use Rattle.loft_listing_line.specs.RowView.{row_of}
use Rattle.loft_listing_line.proofs.Feeds.{line_ends_at_feed}
use Rattle.loft_listing_draft.specs.declared.take.Taken.{Taken}
use Rattle.loft_listing_draft.specs.Held.{Takes}
use Rattle.loft_listing_draft.specs.Lined.{line_at}
use Rattle.loft_listing_draft.proofs.TakenLines.{IsFirst, line_short, row_goes, row_stays, found_row, found_none, found_says}
use Rattle.loft_listing_draft.proofs.read.take_line.Goals as goal

pub returns-in_default : goal.returns-in_default
returns-in_default c = (refl, λ s l after holds stands may. c.in_default.ensures.only (line_text l) after (line_ends_at_feed l stands.fits) stands.written)

pub returns-in_default-2 : goal.returns-in_default-2
returns-in_default-2 c = (
  refl,
  λ s l after holds stands may.
      (let parts = c.in-Some.ensures.only (line_text l) after (line_ends_at_feed l stands.fits) stands.written in
      found_none c.in_ok-row.field-0 l c.in_default-2.is (c.in_ok-row.ensures.only l (record { fits = stands.fits; written = parts.0 }) (line_short c.args.text.now c.in-Some.written.now c.in-Some.after.now c.requires.short c.in-Some.ensures.cut.1))),
)

pub returns-in-Ok-More : goal.returns-in-Ok-More
returns-in-Ok-More c =
    let row = c.in-Some-2.row in
    let written = c.in-Some.written.now in
    let after = c.in-Some.after.now in
    let first : IsFirst c.args.text.now written after row = record {
      feed = c.in-Some.ensures.cut.0;
      whole = c.in-Some.ensures.cut.1;
      cut = c.in-Some.ensures.only;
      says = found_says c.in_ok-row.field-0 row written c.in-Some-2.is c.in_ok-row.ensures.read;
      only = λ l is. found_row c.in_ok-row.field-0 row l c.in-Some-2.is (c.in_ok-row.ensures.only l is (line_short c.args.text.now c.in-Some.written.now c.in-Some.after.now c.requires.short c.in-Some.ensures.cut.1));
    } in
    let P : Taken → Type 0 = λ t. Takes c.args.sofar c.args.at (line_at c.args.at (row_of row)) t in
    (line_at c.args.at (row_of row), row_goes c.args.sofar c.in-Ok-More.more c.args.at c.args.text.now written after row first (subst P c.in-Ok-More.field-0-is (subst P (sym c.in-Ok-More.ensures.same) (c.take-taken.ensures.taken c.in-Ok-More.ensures.whole))))

pub returns-in-Ok-Stop : goal.returns-in-Ok-Stop
returns-in-Ok-Stop c =
    let row = c.in-Some-2.row in
    let written = c.in-Some.written.now in
    let after = c.in-Some.after.now in
    let first : IsFirst c.args.text.now written after row = record {
      feed = c.in-Some.ensures.cut.0;
      whole = c.in-Some.ensures.cut.1;
      cut = c.in-Some.ensures.only;
      says = found_says c.in_ok-row.field-0 row written c.in-Some-2.is c.in_ok-row.ensures.read;
      only = λ l is. found_row c.in_ok-row.field-0 row l c.in-Some-2.is (c.in_ok-row.ensures.only l is (line_short c.args.text.now c.in-Some.written.now c.in-Some.after.now c.requires.short c.in-Some.ensures.cut.1));
    } in
    let P : Taken → Type 0 = λ t. Takes c.args.sofar c.args.at (line_at c.args.at (row_of row)) t in
    let stays = subst P c.in-Ok-Stop.field-0-is (subst P (sym c.in-Ok-Stop.ensures.same) (c.take-taken.ensures.taken c.in-Ok-Stop.ensures.whole)) in
    (stays.0, row_stays c.args.sofar c.args.at c.args.text.now written after row first stays.1)
