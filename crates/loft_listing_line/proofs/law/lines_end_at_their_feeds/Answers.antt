-- The law is proved in the lemmas on feeds.
use Rattle.loft_listing_line.proofs.Feeds.{line_ends_at_feed}
use Rattle.loft_listing_line.proofs.law.lines_end_at_their_feeds.Goals as goal

pub returns : goal.returns
returns c = line_ends_at_feed
