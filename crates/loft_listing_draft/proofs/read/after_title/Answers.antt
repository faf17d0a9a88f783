use lib.Pointwise.{pointwise}
use Rattle.std.proofs.Common.{◌≡◌, ℕ, true, eqb, List, subst}
use Rattle.loft_listing_line.specs.Rows.{Title, line_text}
use Rattle.loft_listing_line.proofs.Feeds.{line_ends_at_feed}
use Rattle.loft_listing_draft.proofs.read.after_title.Goals as goal

pub returns-in_err-line-clause-only : goal.returns-in_err-line-clause-only
returns-in_err-line-clause-only c rest is = absurd (c.in_err-line.ensures.only (line_text Title) rest (line_ends_at_feed Title tt) is)

pub returns-else-eq-clause-only : goal.returns-else-eq-clause-only
returns-else-eq-clause-only c rest is =
    let parts = c.in_ok-line.ensures.only (line_text Title) rest (line_ends_at_feed Title tt) is in
    let P : List ℕ → Type 0 = λ t. c.eq.result ≡ pointwise eqb t (line_text Title) in
    let same : c.eq.result ≡ true = subst P parts.0 c.eq.ensures in
    cc
