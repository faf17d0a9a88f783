-- Where a text stops, and what it says there, is one number and one draft.
use Rattle.std.proofs.Common.{◌≡◌, ◌≢◌, ℕ, zero, suc, ◌⊎◌, inl, inr, List, [], ◌∷◌, ◌++◌, length, refl, sym, ap, subst, ◌∙◌, append-nil, append_assoc, arith}
use Rattle.std.specs.List.{flat_map, Contains}
use Rattle.std.proofs.lemmas.List.{append_cancel_left}
use Rattle.loft_listing_line.specs.Rows.{ListingLine, Title, End, Close, line_text}
use Rattle.loft_listing_draft.specs.Drafts.{Draft, item_lines, lines_text}
use Rattle.loft_listing_draft.specs.Stops.{IsBegun, StopsAfter, StopsAt, closings}
use Rattle.loft_listing_draft.specs.Taking.{Begun, Nothing, InModule, InClient, SoFar, closed, closing}
use Rattle.loft_listing_draft.proofs.Walking.{start, so_far, AllStand, with_lines, with_lines-append, stands_after, walks, after_lines}
use Rattle.loft_listing_draft.proofs.Following.{Begins, Agree, Follows, Stuck, none_fits, lines_apart, begun_lines, begun_next, may_next, closed_lines}

-- ---- the lines before the stop

-- a listing begins with the lines that were taken, and so with some of them
taken_begun : (text : List ℕ) (ls : List ListingLine) (rest : List ℕ) (ks : List ListingLine) (l : ListingLine) (more : List ListingLine)
    → Follows text ls rest → ls ≡ ks ++ l ∷ more → IsBegun ((Title ∷ ks) ++ l ∷ [])
taken_begun text ls rest ks l more follows split =
    let s = with_lines start ls in (
      closed s,
      more ++ closing s.begun,
      follows.fits,
      closed_lines text ls rest follows ∙ ap (λ xs. Title ∷ (xs ++ closing s.begun)) split
          ∙ ap (λ xs. Title ∷ xs) (append_assoc ks (l ∷ more) (closing s.begun) ∙ sym (append_assoc ks (l ∷ []) (more ++ closing s.begun))),
    )

same_lines : (text : List ℕ) (ls : List ListingLine) (rest : List ℕ) (ks : List ListingLine) (back : List ℕ) → Follows text ls rest → Stuck ls rest → Begins text ks back
    → ((l : ListingLine) (after : List ℕ) → IsBegun ((Title ∷ ks) ++ l ∷ []) → back ≢ line_text l ++ after) → Agree ls ks → ks ≡ ls
same_lines text ls rest ks back follows stuck is never (inl ([], same)) = same ∙ append-nil ls
same_lines text ls rest ks back follows stuck is never (inl (l ∷ more, split)) =
    absurd (stuck l (lines_text more ++ back) (begun_next text ls rest ks back l more follows is split) (may_next ls is.draft l (more ++ is.further) is.fits (begun_lines text ls ks back l more is split)))
same_lines text ls rest ks back follows stuck is never (inr ([], same)) = sym (same ∙ append-nil ks)
same_lines text ls rest ks back follows stuck is never (inr (l ∷ more, split)) =
    let apart : lines_text ks ++ back ≡ lines_text ks ++ (line_text l ++ (lines_text more ++ rest)) =
    sym is.written ∙ follows.written ∙ ap (λ xs. lines_text xs ++ rest) split ∙ lines_apart ks l more rest in
    absurd (never l (lines_text more ++ rest) (taken_begun text ls rest ks l more follows split) (append_cancel_left (lines_text ks) back (line_text l ++ (lines_text more ++ rest)) apart))

-- ---- what closes

-- what holds of each of the lines that close
one_closing : (P : List ListingLine → Type 0) → P [] → P (End ∷ []) → P (Close ∷ []) → P (Title ∷ []) → (xs : List ListingLine) → Contains closings xs → P xs
one_closing P none ended client title xs (zero, few, is) = subst P is none
one_closing P none ended client title xs (suc zero, few, is) = subst P is ended
one_closing P none ended client title xs (suc (suc zero), few, is) = subst P is client
one_closing P none ended client title xs (suc (suc (suc zero)), few, is) = subst P is title
one_closing P none ended client title xs (suc (suc (suc (suc k))), few, is) = absurd (omega (arith, few))

-- these lines close what is open, and then this draft is said
abbrev Closing : SoFar → Draft → List ListingLine → Type 0
Closing s d xs = AllStand s xs → with_lines s xs ≡ so_far d Nothing → (closed s ≡ d) × (closing s.begun ≡ xs)

closes_none : (s : SoFar) (d : Draft) → Closing s d []
closes_none s d all comes = (ap closed comes, ap (λ t. closing t.begun) comes)

closes_module : (done : Draft) (b : Begun) (d : Draft) → Closing (so_far done b) d (End ∷ [])
closes_module done Nothing d all comes = absurd all.0
closes_module done (InModule h ls os) d all comes = (ap (λ t. t.done) comes, refl)
closes_module done (InClient n xs) d all comes = absurd all.0

closes_client : (done : Draft) (b : Begun) (d : Draft) → Closing (so_far done b) d (Close ∷ [])
closes_client done Nothing d all comes = absurd all.0
closes_client done (InModule h ls os) d all comes = absurd all.0
closes_client done (InClient n xs) d all comes = (ap (λ t. t.done) comes, refl)

closes_never : (done : Draft) (b : Begun) (d : Draft) → Closing (so_far done b) d (Title ∷ [])
closes_never done Nothing d all comes = absurd all.0
closes_never done (InModule h ls os) d all comes = absurd all.0
closes_never done (InClient n xs) d all comes = absurd all.0

closes_as : (s : SoFar) (d : Draft) (xs : List ListingLine) → Contains closings xs → Closing s d xs
closes_as s d xs there = one_closing (Closing s d) (closes_none s d) (closes_module s.done s.begun d) (closes_client s.done s.begun d) (closes_never s.done s.begun d) xs there

never_whole : (b : Begun) (xs : List ListingLine) (back rest : List ℕ) → closing b ≡ xs → back ≡ rest → (back ≢ []) ⊎ (xs ≢ []) → b ≡ Nothing → rest ≡ [] → ⊥
never_whole b xs back rest closes left (inl other) none over = other (left ∙ over)
never_whole b xs back rest closes left (inr other) none over = other (sym closes ∙ ap closing none)

-- ---- the stop

-- a text whose lines are taken as far as they stand says this draft before offset n
pub record StopsSo (ls : List ListingLine) (rest : List ℕ) (d : Draft) (n : ℕ) : Type 0 where
  pub draft : closed (with_lines start ls) ≡ d
  pub here : n ≡ after_lines ls
  pub other : (with_lines start ls).begun ≡ Nothing → rest ≡ [] → ⊥

stops_there : (text : List ℕ) (ls : List ListingLine) (rest : List ℕ) (d : Draft) (n : ℕ) (ks cl : List ListingLine) (back : List ℕ) → Follows text ls rest → Stuck ls rest
    → StopsAfter (line_text Title ++ text) d (Title ∷ ks) cl back → n ≡ after_lines ks → StopsSo ls rest d n
stops_there text ls rest d n ks cl back follows stuck at is =
    let lines : flat_map item_lines d ≡ ks ++ cl = cc (at.said) in
    let own = append_cancel_left (line_text Title) text (lines_text ks ++ back) (at.written ∙ append_assoc (line_text Title) (lines_text ks) back) in
    let begun : Begins text ks back = record { draft = d; further = cl; fits = at.fits; lines = lines; written = own } in
    let same = same_lines text ls rest ks back follows stuck begun at.stops (follows.agrees ks back begun) in
    let left = append_cancel_left (lines_text ls) back rest (ap (λ xs. lines_text xs ++ back) (sym same) ∙ sym own ∙ follows.written) in
    let all : flat_map item_lines d ≡ ls ++ cl = lines ∙ ap (λ xs. xs ++ cl) same in
    let walk = walks d at.fits in
    let comes = sym (with_lines-append start ls cl) ∙ ap (with_lines start) (sym all) ∙ walk.comes in
    let closes = closes_as (with_lines start ls) d cl at.closes (stands_after start ls cl (subst (AllStand start) all walk.stands)) comes in
    record {
      draft = closes.0;
      here = is ∙ ap after_lines same;
      other = never_whole (with_lines start ls).begun cl back rest closes.1 left at.unfinished;
    }

pub stops_so : (text : List ℕ) (ls : List ListingLine) (rest : List ℕ) (d : Draft) (n : ℕ) → Follows text ls rest → Stuck ls rest
    → StopsAt (line_text Title ++ text) d n → StopsSo ls rest d n
stops_so text ls rest d n follows stuck ([], cl, back, at, is) = absurd (at.stops Title text ([], [], none_fits, refl) (sym at.written))
stops_so text ls rest d n follows stuck (k ∷ ks, cl, back, at, is) =
    let first : k ≡ Title = cc (at.said) in
    let P : ListingLine → Type 0 = λ x. StopsAfter (line_text Title ++ text) d (x ∷ ks) cl back in
    stops_there text ls rest d n ks cl back follows stuck (subst P first at) (is ∙ ap (λ x. length (lines_text (x ∷ ks))) first)

-- ---- a text that doesn't begin as a listing

no_lines : (d : Draft) (xs : List ListingLine) → Contains closings xs → Title ∷ flat_map item_lines d ≡ xs → flat_map item_lines d ≡ []
no_lines d xs there =
    let P : List ListingLine → Type 0 = λ ys. Title ∷ flat_map item_lines d ≡ ys → flat_map item_lines d ≡ [] in
    one_closing P (λ e. absurd cc) (λ e. absurd cc) (λ e. absurd cc) (λ e. cc) xs there

pub first_stop : (text : List ℕ) (d : Draft) (n : ℕ) → ((rest : List ℕ) → text ≡ line_text Title ++ rest → ⊥) → StopsAt text d n → (d ≡ []) × (n ≡ 0)
first_stop text d n never ([], cl, back, at, is) =
    let none = no_lines d cl at.closes at.said in
    let comes : start ≡ so_far d Nothing = ap (with_lines start) (sym none) ∙ (walks d at.fits).comes in
    (sym (ap (λ t. t.done) comes), is)
first_stop text d n never (k ∷ ks, cl, back, at, is) =
    let first : k ≡ Title = cc (at.said) in
    absurd (never (lines_text ks ++ back) (at.written ∙ append_assoc (line_text k) (lines_text ks) back ∙ ap (λ x. line_text x ++ (lines_text ks ++ back)) first))
