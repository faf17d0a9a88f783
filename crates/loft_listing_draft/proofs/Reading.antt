-- What is held in memory while a text is taken line by line.
use Rattle.std.proofs.Common.{◌≡◌, ℕ, ◌+◌, ◌≤◌, List, [], ◌∷◌, ◌++◌, length, Option, Some, None, IfSome, Result, Ok, Err, IfOk, refl, sym, ap, subst, ◌∙◌, append_assoc, length-append, arith}
use Rattle.loft_listing_line.specs.Rows.{ListingLine, Title, line_text}
use Rattle.loft_base.specs.declared.errors.NoMemory.{NoMemory}
use Rattle.loft_listing_draft.specs.declared.draft.TheConstants.{MAX_LISTING_LEN}
use Rattle.loft_listing_draft.specs.declared.draft.Draft.{Draft as DraftInMemory}
use Rattle.loft_listing_draft.specs.declared.draft.Drafted.{Drafted}
use Rattle.loft_listing_draft.specs.declared.sofar.SoFar.{SoFar as SoFarInMemory}
use Rattle.loft_listing_draft.specs.Drafts.{Draft, IsListing, lines_text}
use Rattle.loft_listing_draft.specs.Held.{Holds, GoesOn, StandsAt, EndsAt}
use Rattle.loft_listing_draft.specs.InMemory.{IsInMemory}
use Rattle.loft_listing_draft.specs.Stops.{StopsAt}
use Rattle.loft_listing_draft.specs.Taking.{Begun, Nothing, SoFar, MayStand, with_line, closed}
use Rattle.loft_listing_draft.proofs.Walking.{start, after_lines, with_lines, with_lines-append}
use Rattle.loft_listing_draft.proofs.Following.{Follows, Stuck, at_first, lines_text_end, one_more, ends_whole, ends_stop, ends_only}
use Rattle.loft_listing_draft.proofs.Stopping.{stops_so}

-- the lines that were taken of a text, and what stands at this offset
pub record Reading (text : List ℕ) (m : SoFarInMemory) (rest : List ℕ) (at : ℕ) : Type 0 where
  pub lines : List ListingLine
  pub follows : Follows text lines rest
  pub holds : Holds m at (with_lines start lines)
  pub here : at ≡ after_lines lines

pub begins : (text : List ℕ) (m : SoFarInMemory) (at : ℕ) → ((at : ℕ) → Holds m at start) → at ≡ after_lines [] → Reading text m text at
begins text m at holds here = record { lines = []; follows = at_first text; holds = holds at; here = here }

-- the offset and what is left are as long as the text
pub left_over : (text : List ℕ) (m : SoFarInMemory) (rest : List ℕ) (at : ℕ) → Reading text m rest at → at + length rest ≡ length (line_text Title) + length text
left_over text m rest at reading =
    omega (arith, reading.here, ap length reading.follows.written, length-append (lines_text reading.lines) rest, length-append (line_text Title) (lines_text reading.lines))

pub left_short : (text : List ℕ) (m : SoFarInMemory) (rest : List ℕ) (at : ℕ) → Reading text m rest at → length text ≤ MAX_LISTING_LEN → length rest ≤ MAX_LISTING_LEN
left_short text m rest at reading short = omega (arith, ap length reading.follows.written, length-append (lines_text reading.lines) rest, short)

-- after a line more, which is as long as the texts differ
pub goes_on : (text : List ℕ) (m more : SoFarInMemory) (rest after : List ℕ) (at later : ℕ) → Reading text m rest at → (l : ListingLine) → GoesOn m at rest more after l
    → later + length after ≡ at + length rest → Reading text more after later
goes_on text m more rest after at later reading l on same =
    let ls = reading.lines in
    let takes = on.takes (with_lines start ls) reading.holds in
    let stands : (k : ListingLine) (back : List ℕ) → StandsAt (after_lines ls) rest back k → StandsAt at rest back k = λ k back is. subst (λ n. StandsAt n rest back k) (sym reading.here) is in
    let next : at + length (line_text l) ≡ later = omega (arith, same, ap length on.stands.written, length-append (line_text l) after) in
    let longer : after_lines (ls ++ l ∷ []) ≡ after_lines ls + length (line_text l) =
    ap (λ t. length (line_text Title ++ t)) (lines_text_end ls l) ∙ ap length (sym (append_assoc (line_text Title) (lines_text ls) (line_text l))) ∙ length-append (lines_text (Title ∷ ls)) (line_text l) in
    record {
      lines = ls ++ l ∷ [];
      follows = one_more text ls rest after l reading.follows (subst (λ n. StandsAt n rest after l) reading.here on.stands) (λ k back is. on.only k back (stands k back is)) takes.0;
      holds = subst (Holds more later) (sym (with_lines-append start ls (l ∷ []))) (subst (λ n. Holds more n (with_line (with_lines start ls) l)) next takes.1);
      here = omega (arith, next, reading.here, longer);
    }

-- no line goes on
pub record Stopped (m : SoFarInMemory) (rest : List ℕ) (at : ℕ) : Type 0 where
  pub never : (s : SoFar) (l : ListingLine) (after : List ℕ) → Holds m at s → StandsAt at rest after l → MayStand s l → ⊥

stuck : (text : List ℕ) (m : SoFarInMemory) (rest : List ℕ) (at : ℕ) → (reading : Reading text m rest at) → Stopped m rest at → Stuck reading.lines rest
stuck text m rest at reading stopped l after stands may =
    stopped.never (with_lines start reading.lines) l after reading.holds (subst (λ n. StandsAt n rest after l) (sym reading.here) stands) may

pub stopped : (m same : SoFarInMemory) (rest : List ℕ) (at : ℕ) → same ≡ m
    → ((s : SoFar) (l : ListingLine) (after : List ℕ) → Holds m at s → StandsAt at rest after l → MayStand s l → ⊥) → Stopped same rest at
stopped m same rest at is never = record { never = λ s l after holds stands may. never s l after (subst (λ n. Holds n at s) is holds) stands may }

pub reads_same : (text : List ℕ) (m same : SoFarInMemory) (rest : List ℕ) (at : ℕ) → same ≡ m → Reading text m rest at → Reading text same rest at
reads_same text m same rest at is reading = subst (λ n. Reading text n rest at) (sym is) reading

-- what comes of the end
abbrev pub Finishes : SoFarInMemory → List ℕ → ℕ → DraftInMemory → Option ℕ → Type 0
Finishes m rest at d stop = (s : SoFar) → Holds m at s → IsInMemory d (closed s) × EndsAt s.begun rest at stop

-- of what is answered, where memory doesn't run out
pub finished : (m : SoFarInMemory) (rest : List ℕ) (at : ℕ) (P : Drafted → Type 0) (result : Result Drafted NoMemory)
    → ((s : SoFar) → Holds m at s → IfOk result (λ r. IsInMemory r.draft (closed s) × EndsAt s.begun rest at r.stop))
    → ((r : Drafted) → Finishes m rest at r.draft r.stop → P r) → IfOk result P
finished m rest at P (Ok r) finishes so = so r finishes
finished m rest at P (Err e) finishes so = tt

pub whole : (text : List ℕ) (m : SoFarInMemory) (rest : List ℕ) (at : ℕ) (d : DraftInMemory) (stop : Option ℕ) → Reading text m rest at → Finishes m rest at d stop
    → stop ≡ None → (e : Draft) × IsListing (line_text Title ++ text) e × IsInMemory d e
whole text m rest at d stop reading finishes none =
    let s = with_lines start reading.lines in
    let ends = finishes s reading.holds in
    let at = subst (EndsAt s.begun rest at) none ends.1 in
    (closed s, ends_whole text reading.lines rest reading.follows at.0 at.1, ends.0)

pub stops : (text : List ℕ) (m : SoFarInMemory) (rest : List ℕ) (at : ℕ) (d : DraftInMemory) (stop : Option ℕ) → Reading text m rest at → Stopped m rest at → Finishes m rest at d stop
    → IfSome stop (λ n. (e : Draft) × StopsAt (line_text Title ++ text) e n × IsInMemory d e)
stops text m rest at d None reading stopped finishes = tt
stops text m rest at d (Some n) reading stopped finishes =
    let s = with_lines start reading.lines in
    let ends = finishes s reading.holds in
    (closed s, ends_stop text reading.lines rest n reading.follows (stuck text m rest at reading stopped) (ends.1.0 ∙ reading.here) ends.1.1, ends.0)

none_stops : (b : Begun) (rest : List ℕ) (at : ℕ) (stop : Option ℕ) → EndsAt b rest at stop → b ≡ Nothing → rest ≡ [] → stop ≡ None
none_stops b rest at None ends none left = refl
none_stops b rest at (Some n) ends none left = absurd (ends.1 none left)

pub only : (text : List ℕ) (m : SoFarInMemory) (rest : List ℕ) (at : ℕ) (d : DraftInMemory) (stop : Option ℕ) → Reading text m rest at → Stopped m rest at → Finishes m rest at d stop
    → (e : Draft) → IsListing (line_text Title ++ text) e → (stop ≡ None) × IsInMemory d e
only text m rest at d stop reading stopped finishes e is =
    let s = with_lines start reading.lines in
    let ends = finishes s reading.holds in
    let all = ends_only text reading.lines rest e reading.follows (stuck text m rest at reading stopped) is in
    (none_stops s.begun rest at stop ends.1 (ap (λ t. t.begun) all.1) all.0, subst (λ t. IsInMemory d (closed t)) all.1 ends.0)

some_stop : (b : Begun) (rest : List ℕ) (at : ℕ) (stop : Option ℕ) (n : ℕ) → EndsAt b rest at stop → at ≡ n → (b ≡ Nothing → rest ≡ [] → ⊥) → stop ≡ Some n
some_stop b rest at None n ends is other = absurd (other ends.0 ends.1)
some_stop b rest at (Some k) n ends is other = ap Some (ends.0 ∙ is)

pub only_stops : (text : List ℕ) (m : SoFarInMemory) (rest : List ℕ) (at : ℕ) (d : DraftInMemory) (stop : Option ℕ) → Reading text m rest at → Stopped m rest at → Finishes m rest at d stop
    → (e : Draft) (n : ℕ) → StopsAt (line_text Title ++ text) e n → (stop ≡ Some n) × IsInMemory d e
only_stops text m rest at d stop reading stopped finishes e n there =
    let s = with_lines start reading.lines in
    let ends = finishes s reading.holds in
    let so = stops_so text reading.lines rest e n reading.follows (stuck text m rest at reading stopped) there in
    (some_stop s.begun rest at stop n ends.1 (reading.here ∙ sym so.here) so.other, subst (IsInMemory d) so.draft ends.0)
