-- A text that is taken line by line: what its lines so far say, and where it stops.
use Rattle.std.proofs.Common.{◌≡◌, ◌≢◌, ℕ, ◌⊎◌, inl, inr, List, [], ◌∷◌, ◌++◌, length, refl, sym, ap, subst, ◌∙◌, append-nil, append_assoc, length-append, arith, lit≤, lit<}
use Rattle.std.specs.List.{flat_map, Contains}
use Rattle.std.proofs.lemmas.List.{append_cancel_left}
use Rattle.std.proofs.lemmas.Grind.{flat_map-append}
use Rattle.loft_tree.specs.Fits.{Each}
use Rattle.loft_listing_line.specs.Rows.{ListingLine, Title, line_text}
use Rattle.loft_listing_line.proofs.Feeds.{line_ends_at_feed}
use Rattle.loft_listing_draft.specs.Drafts.{Draft, DraftFits, IsListing, draft_lines, item_lines, lines_text}
use Rattle.loft_listing_line.specs.RowsFit.{ListingLineFits}
use Rattle.loft_listing_draft.specs.Held.{StandsAt}
use Rattle.loft_listing_draft.specs.Stops.{IsBegun, StopsAt, closings}
use Rattle.loft_listing_draft.specs.Taking.{Begun, Nothing, InModule, InClient, MayStand, with_line, closed, closing}
use Rattle.loft_listing_draft.specs.Lined.{line_at}
use Rattle.loft_listing_draft.proofs.Lists.{each_right}
use Rattle.loft_listing_draft.proofs.Growing.{said, says, closed_says, fits_more}
use Rattle.loft_listing_draft.proofs.Walking.{start, so_far, AllStand, with_lines, with_lines-append, stands_next, walks, after_lines, lined_at}

pub lines_text_end : (ls : List ListingLine) (l : ListingLine) → lines_text (ls ++ l ∷ []) ≡ lines_text ls ++ line_text l
lines_text_end ls l = flat_map-append line_text ls (l ∷ []) ∙ ap (λ t. lines_text ls ++ t) (append-nil (line_text l))

-- the text of a line isn't empty
pub line_there : (l : ListingLine) → ListingLineFits l → (after : List ℕ) → line_text l ++ after ≡ [] → ⊥
line_there l fits after none =
    let (before, ends, plain) = line_ends_at_feed l fits in
    let long : length (line_text l ++ after) ≡ 0 = ap length none in
    let last : length (line_text l) ≡ length (before ++ 10 ∷ []) = ap length ends in
    absurd (omega (arith, length-append (line_text l) after, length-append before (10 ∷ [])))

-- the lines after the first one of a text are these, with which a listing within the limits begins, and this rest
pub record Begins (text : List ℕ) (ks : List ListingLine) (back : List ℕ) : Type 0 where
  pub draft : Draft
  pub further : List ListingLine
  pub fits : DraftFits draft
  pub lines : flat_map item_lines draft ≡ ks ++ further
  pub written : text ≡ lines_text ks ++ back

-- one of the two goes on from the other
abbrev pub Agree : List ListingLine → List ListingLine → Type 0
Agree ls ks = ((more : List ListingLine) × (ks ≡ ls ++ more)) ⊎ ((more : List ListingLine) × (ls ≡ ks ++ more))

-- the lines after the first one of a text, and what they leave of it
pub record Follows (text : List ℕ) (ls : List ListingLine) (rest : List ℕ) : Type 0 where
  pub written : text ≡ lines_text ls ++ rest
  pub fits : DraftFits (closed (with_lines start ls))
  pub said : said (with_lines start ls) ≡ Title ∷ ls
  pub only : (d : Draft) → IsListing (line_text Title ++ text) d → (more : List ListingLine) × (flat_map item_lines d ≡ ls ++ more)
  pub agrees : (ks : List ListingLine) (back : List ℕ) → Begins text ks back → Agree ls ks

-- ---- at first

pub none_fits : DraftFits []
none_fits = record {
  source = record { each = tt; schedulers = lit≤ tt; events = lit≤ tt; shared = lit≤ tt; modules = lit≤ tt; starts = lit≤ tt; clients = lit≤ tt };
  items = tt;
  lines = (tt, tt);
  lined = refl;
}

pub at_first : (text : List ℕ) → Follows text [] text
at_first text = record { written = refl; fits = none_fits; said = refl; only = λ d is. (flat_map item_lines d, refl); agrees = λ ks back is. inl (ks, refl) }

-- ---- what comes next in a listing

-- the next line of a listing stands there
next_stands : (text : List ℕ) (ls : List ListingLine) (rest : List ℕ) (d : Draft) (l : ListingLine) (more : List ListingLine) → Follows text ls rest
    → IsListing (line_text Title ++ text) d → flat_map item_lines d ≡ ls ++ l ∷ more → StandsAt (after_lines ls) rest (lines_text more) l
next_stands text ls rest d l more follows is lines =
    let each = subst (Each ListingLineFits) lines is.fits.lines.1 in
    let own : text ≡ lines_text (flat_map item_lines d) = append_cancel_left (line_text Title) text (lines_text (flat_map item_lines d)) is.written in
    let split : lines_text ls ++ rest ≡ lines_text ls ++ (line_text l ++ lines_text more) =
    sym follows.written ∙ own ∙ ap lines_text lines ∙ flat_map-append line_text ls (l ∷ more) in
    record {
      fits = (each_right ListingLineFits ls (l ∷ more) each).0;
      lined = lined_at d ls l more is.fits lines;
      written = append_cancel_left (lines_text ls) rest (line_text l ++ lines_text more) split;
    }

-- the text of lines, one of them apart
pub lines_apart : (ls : List ListingLine) (l : ListingLine) (more : List ListingLine) (back : List ℕ)
    → lines_text (ls ++ l ∷ more) ++ back ≡ lines_text ls ++ (line_text l ++ (lines_text more ++ back))
lines_apart ls l more back =
    ap (λ t. t ++ back) (flat_map-append line_text ls (l ∷ more)) ∙ append_assoc (lines_text ls) (line_text l ++ lines_text more) back
    ∙ ap (λ t. lines_text ls ++ t) (append_assoc (line_text l) (lines_text more) back)

pub begun_lines : (text : List ℕ) (ls ks : List ListingLine) (back : List ℕ) (l : ListingLine) (more : List ListingLine) → (is : Begins text ks back) → ks ≡ ls ++ l ∷ more
    → flat_map item_lines is.draft ≡ ls ++ l ∷ (more ++ is.further)
begun_lines text ls ks back l more is split = is.lines ∙ ap (λ xs. xs ++ is.further) split ∙ append_assoc ls (l ∷ more) is.further

-- the next line of a beginning stands there
pub begun_next : (text : List ℕ) (ls : List ListingLine) (rest : List ℕ) (ks : List ListingLine) (back : List ℕ) (l : ListingLine) (more : List ListingLine)
    → Follows text ls rest → Begins text ks back → ks ≡ ls ++ l ∷ more → StandsAt (after_lines ls) rest (lines_text more ++ back) l
begun_next text ls rest ks back l more follows is split =
    let lines = begun_lines text ls ks back l more is split in
    let each = subst (Each ListingLineFits) lines is.fits.lines.1 in
    let apart : lines_text ls ++ rest ≡ lines_text ls ++ (line_text l ++ (lines_text more ++ back)) =
    sym follows.written ∙ is.written ∙ ap (λ xs. lines_text xs ++ back) split ∙ lines_apart ls l more back in
    record {
      fits = (each_right ListingLineFits ls (l ∷ (more ++ is.further)) each).0;
      lined = lined_at is.draft ls l (more ++ is.further) is.fits lines;
      written = append_cancel_left (lines_text ls) rest (line_text l ++ (lines_text more ++ back)) apart;
    }

-- a listing that goes on with a line goes on as it may
pub may_next : (ls : List ListingLine) (d : Draft) (l : ListingLine) (more : List ListingLine) → DraftFits d → flat_map item_lines d ≡ ls ++ l ∷ more → MayStand (with_lines start ls) l
may_next ls d l more fits lines = stands_next start ls l more (subst (AllStand start) lines (walks d fits).stands)

-- a listing that has no further line leaves nothing
nothing_left : (text : List ℕ) (ls : List ListingLine) (rest : List ℕ) (d : Draft) → Follows text ls rest → IsListing (line_text Title ++ text) d → flat_map item_lines d ≡ ls → rest ≡ []
nothing_left text ls rest d follows is lines =
    let own : text ≡ lines_text (flat_map item_lines d) = append_cancel_left (line_text Title) text (lines_text (flat_map item_lines d)) is.written in
    append_cancel_left (lines_text ls) rest [] (sym follows.written ∙ own ∙ ap lines_text lines ∙ sym (append-nil (lines_text ls)))

-- ---- one line more

only_line : (text : List ℕ) (ls : List ListingLine) (rest after : List ℕ) (l : ListingLine) → Follows text ls rest → StandsAt (after_lines ls) rest after l
    → ((k : ListingLine) (back : List ℕ) → StandsAt (after_lines ls) rest back k → (k ≡ l) × (back ≡ after))
    → (d : Draft) → IsListing (line_text Title ++ text) d → (all : List ListingLine) → flat_map item_lines d ≡ ls ++ all
    → (more : List ListingLine) × (flat_map item_lines d ≡ (ls ++ l ∷ []) ++ more)
only_line text ls rest after l follows stands only d is [] lines =
    absurd (line_there l stands.fits after (sym stands.written ∙ nothing_left text ls rest d follows is (lines ∙ append-nil ls)))
only_line text ls rest after l follows stands only d is (k ∷ more) lines =
    let same = only k (lines_text more) (next_stands text ls rest d k more follows is lines) in
    (more, lines ∙ ap (λ x. ls ++ x ∷ more) same.0 ∙ sym (append_assoc ls (l ∷ []) more))

agree_more : (text : List ℕ) (ls : List ListingLine) (rest after : List ℕ) (l : ListingLine) → Follows text ls rest
    → ((k : ListingLine) (back : List ℕ) → StandsAt (after_lines ls) rest back k → (k ≡ l) × (back ≡ after))
    → (ks : List ListingLine) (back : List ℕ) → Begins text ks back → Agree ls ks → Agree (ls ++ l ∷ []) ks
agree_more text ls rest after l follows only ks back is (inl ([], same)) = inr (l ∷ [], ap (λ xs. xs ++ l ∷ []) (sym (same ∙ append-nil ls)))
agree_more text ls rest after l follows only ks back is (inl (k ∷ more, split)) =
    let next = only k (lines_text more ++ back) (begun_next text ls rest ks back k more follows is split) in
    inl (more, split ∙ ap (λ x. ls ++ x ∷ more) next.0 ∙ sym (append_assoc ls (l ∷ []) more))
agree_more text ls rest after l follows only ks back is (inr (more, split)) = inr (more ++ l ∷ [], ap (λ xs. xs ++ l ∷ []) split ∙ append_assoc ks more (l ∷ []))

pub one_more : (text : List ℕ) (ls : List ListingLine) (rest after : List ℕ) (l : ListingLine) → Follows text ls rest → StandsAt (after_lines ls) rest after l
    → ((k : ListingLine) (back : List ℕ) → StandsAt (after_lines ls) rest back k → (k ≡ l) × (back ≡ after))
    → MayStand (with_lines start ls) l → Follows text (ls ++ l ∷ []) after
one_more text ls rest after l follows stands only may =
    let s = with_lines start ls in
    let further : with_line s l ≡ with_lines start (ls ++ l ∷ []) = sym (with_lines-append start ls (l ∷ [])) in
    let here : after_lines ls ≡ length (lines_text (said s)) = ap (λ xs. length (lines_text xs)) (sym follows.said) in
    let grown = fits_more s l follows.fits may stands.fits (subst (λ n. line_at n l ≡ l) here stands.lined) in
    record {
      written = follows.written ∙ ap (λ t. lines_text ls ++ t) stands.written ∙ sym (append_assoc (lines_text ls) (line_text l) after) ∙ ap (λ t. t ++ after) (sym (lines_text_end ls l));
      fits = subst (λ t. DraftFits (closed t)) further grown;
      said = ap said (sym further) ∙ says s l stands.fits may ∙ ap (λ xs. xs ++ l ∷ []) follows.said;
      only = λ d is. (let (all, lines) = follows.only d is in only_line text ls rest after l follows stands only d is all lines);
      agrees = λ ks back is. agree_more text ls rest after l follows only ks back is (follows.agrees ks back is);
    }

-- ---- the end

-- no line may stand next
abbrev pub Stuck : List ListingLine → List ℕ → Type 0
Stuck ls rest = (l : ListingLine) (after : List ℕ) → StandsAt (after_lines ls) rest after l → MayStand (with_lines start ls) l → ⊥

closes_so : (b : Begun) → Contains closings (closing b)
closes_so Nothing = (0, lit< tt, refl)
closes_so (InModule h ls os) = (1, lit< tt, refl)
closes_so (InClient n xs) = (2, lit< tt, refl)

open_left : (b : Begun) (rest : List ℕ) → (b ≡ Nothing → rest ≡ [] → ⊥) → (rest ≢ []) ⊎ (closing b ≢ [])
open_left Nothing rest other = inl (λ e. other refl e)
open_left (InModule h ls os) rest other = inr (λ e. cc)
open_left (InClient n xs) rest other = inr (λ e. cc)

pub closed_lines : (text : List ℕ) (ls : List ListingLine) (rest : List ℕ) → Follows text ls rest
    → draft_lines (closed (with_lines start ls)) ≡ (Title ∷ ls) ++ closing (with_lines start ls).begun
closed_lines text ls rest follows =
    let s = with_lines start ls in closed_says s.done s.begun ∙ ap (λ xs. xs ++ closing s.begun) follows.said

titled : (text : List ℕ) (ls : List ListingLine) (rest : List ℕ) → Follows text ls rest → line_text Title ++ text ≡ lines_text (Title ∷ ls) ++ rest
titled text ls rest follows = ap (λ t. line_text Title ++ t) follows.written ∙ sym (append_assoc (line_text Title) (lines_text ls) rest)

-- nothing is open and nothing is left: the text is a listing
pub ends_whole : (text : List ℕ) (ls : List ListingLine) (rest : List ℕ) → Follows text ls rest → (with_lines start ls).begun ≡ Nothing → rest ≡ []
    → IsListing (line_text Title ++ text) (closed (with_lines start ls))
ends_whole text ls rest follows none left =
    let lines : draft_lines (closed (with_lines start ls)) ≡ Title ∷ ls = closed_lines text ls rest follows ∙ ap (λ b. (Title ∷ ls) ++ closing b) none ∙ append-nil (Title ∷ ls) in
    record {
      fits = follows.fits;
      written = titled text ls rest follows ∙ ap (λ t. lines_text (Title ∷ ls) ++ t) left ∙ append-nil (lines_text (Title ∷ ls)) ∙ ap lines_text (sym lines);
    }

never_begun : (text : List ℕ) (ls : List ListingLine) (rest after : List ℕ) (l : ListingLine) → Stuck ls rest → IsBegun ((Title ∷ ls) ++ l ∷ []) → rest ≢ line_text l ++ after
never_begun text ls rest after l stuck (d, more, fits, lines) is =
    let tail : flat_map item_lines d ≡ (ls ++ l ∷ []) ++ more = cc in
    let split : flat_map item_lines d ≡ ls ++ l ∷ more = tail ∙ append_assoc ls (l ∷ []) more in
    let kept = (each_right ListingLineFits ls (l ∷ more) (subst (Each ListingLineFits) split fits.lines.1)).0 in
    stuck l after (record { fits = kept; lined = lined_at d ls l more fits split; written = is }) (may_next ls d l more fits split)

-- no line may stand next, and something is open or left: the text stops there
pub ends_stop : (text : List ℕ) (ls : List ListingLine) (rest : List ℕ) (n : ℕ) → Follows text ls rest → Stuck ls rest → n ≡ after_lines ls
    → ((with_lines start ls).begun ≡ Nothing → rest ≡ [] → ⊥) → StopsAt (line_text Title ++ text) (closed (with_lines start ls)) n
ends_stop text ls rest n follows stuck here other =
    let b = (with_lines start ls).begun in (
      Title ∷ ls,
      closing b,
      rest,
      record {
        written = titled text ls rest follows;
        fits = follows.fits;
        said = closed_lines text ls rest follows;
        closes = closes_so b;
        unfinished = open_left b rest other;
        stops = λ l after begun is. never_begun text ls rest after l stuck begun is;
      },
      here,
    )

ends_at : (text : List ℕ) (ls : List ListingLine) (rest : List ℕ) (d : Draft) → Follows text ls rest → Stuck ls rest → IsListing (line_text Title ++ text) d
    → (all : List ListingLine) → flat_map item_lines d ≡ ls ++ all → (rest ≡ []) × (with_lines start ls ≡ so_far d Nothing)
ends_at text ls rest d follows stuck is [] lines =
    let same = lines ∙ append-nil ls in (nothing_left text ls rest d follows is same, ap (with_lines start) (sym same) ∙ (walks d is.fits).comes)
ends_at text ls rest d follows stuck is (k ∷ more) lines =
    absurd (stuck k (lines_text more) (next_stands text ls rest d k more follows is lines) (may_next ls d k more is.fits lines))

-- no line may stand next, and the text is a listing: all of it was taken
pub ends_only : (text : List ℕ) (ls : List ListingLine) (rest : List ℕ) (d : Draft) → Follows text ls rest → Stuck ls rest → IsListing (line_text Title ++ text) d
    → (rest ≡ []) × (with_lines start ls ≡ so_far d Nothing)
ends_only text ls rest d follows stuck is = let (all, lines) = follows.only d is in ends_at text ls rest d follows stuck is all lines

-- ---- a text that doesn't begin as a listing

never_title : (text after : List ℕ) (l : ListingLine) → ((rest : List ℕ) → text ≡ line_text Title ++ rest → ⊥) → IsBegun (l ∷ []) → text ≢ line_text l ++ after
never_title text after l never (d, more, fits, lines) is =
    let first : l ≡ Title = cc in never after (is ∙ ap (λ k. line_text k ++ after) first)

pub stops_first : (text : List ℕ) → ((rest : List ℕ) → text ≡ line_text Title ++ rest → ⊥) → StopsAt text [] 0
stops_first text never = (
  [],
  Title ∷ [],
  text,
  record {
    written = refl;
    fits = none_fits;
    said = refl;
    closes = (3, lit< tt, refl);
    unfinished = inr (λ e. cc);
    stops = λ l after begun is. never_title text after l never begun is;
  },
  refl,
)

pub never_listing : (text : List ℕ) (d : Draft) → ((rest : List ℕ) → text ≡ line_text Title ++ rest → ⊥) → IsListing text d → ⊥
never_listing text d never is = never (lines_text (flat_map item_lines d)) is.written
