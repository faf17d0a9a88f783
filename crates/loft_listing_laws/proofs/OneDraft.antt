-- A text says at most one draft, or stops at one offset, and never both.
use Rattle.std.proofs.Common.{◌≡◌, ℕ, zero, suc, inl, inr, List, [], ◌∷◌, ◌++◌, length, refl, sym, subst, ap, ◌∙◌, append-nil, append_assoc, arith}
use Rattle.std.specs.Prelude.{◌≢◌}
use Rattle.std.specs.List.{Contains, flat_map}
use Rattle.loft_tree.specs.Fits.{Each}
use Rattle.loft_tree.specs.Source.{Source}
use Rattle.loft_listing_line.specs.Rows.{Close, End, ListingLine, Title, line_text}
use Rattle.loft_listing_draft.specs.Drafts.{Draft, DraftFits, IsListing, draft_lines, item_lines, lines_text, source_of}
use Rattle.loft_listing_line.specs.RowsFit.{ListingLineFits}
use Rattle.loft_listing_draft.specs.Lined.{line_at}
use Rattle.loft_listing_draft.specs.Stops.{IsBegun, StopsAt, closings}
use Rattle.loft_listing_draft.specs.Taking.{Begun, InClient, InModule, MayFollow, Nothing, SoFar, closing}
use Rattle.loft_listing_draft.proofs.Following.{line_there}
use Rattle.loft_listing_draft.proofs.Offsets.{same_lined}
use Rattle.loft_listing_draft.proofs.Walking.{AllStand, lined_at, so_far, stands_next, start, walks, with_lines}
use Rattle.loft_listing_laws.proofs.OneLine.{one_next}

-- ---- lines of a draft

-- lines have the offsets at which they stand
placed : (d : Draft) → DraftFits d → (p : List ListingLine) (l : ListingLine) (more : List ListingLine) → draft_lines d ≡ p ++ l ∷ more → line_at (length (lines_text p)) l ≡ l
placed d fits [] l more is = let e : Title ≡ l = cc in subst (λ (x : ListingLine). line_at 0 x ≡ x) e refl
placed d fits (x ∷ p) l more is =
    let first : Title ≡ x = cc in
    let rest : flat_map item_lines d ≡ p ++ l ∷ more = cc in
    subst (λ (y : ListingLine). line_at (length (lines_text (y ∷ p))) l ≡ l) first (lined_at d p l more fits rest)

each_at : {A : Type 0} (P : A → Type 0) (xs : List A) (x : A) (ys : List A) → Each P (xs ++ x ∷ ys) → P x
each_at P [] x ys all = all.0
each_at P (y ∷ xs) x ys all = each_at P xs x ys all.1

fits_at : (d : Draft) → DraftFits d → (p : List ListingLine) (l : ListingLine) (more : List ListingLine) → draft_lines d ≡ p ++ l ∷ more → ListingLineFits l
fits_at d fits p l more is = each_at ListingLineFits p l more (subst (Each ListingLineFits) is fits.lines)

-- two drafts go on with one line where their texts do
one_at : (d e : Draft) → DraftFits d → DraftFits e → (p : List ListingLine) (l k : ListingLine) (ls ks : List ListingLine) (a b : List ℕ)
    → draft_lines d ≡ p ++ l ∷ ls → draft_lines e ≡ p ++ k ∷ ks → line_text l ++ a ≡ line_text k ++ b → (l ≡ k) × (a ≡ b)
one_at d e fits fit p l k ls ks a b is also same =
    let first = fits_at d fits p l ls is in
    let second = fits_at e fit p k ks also in
    let next = one_next l k a b first second same in
    (sym (placed d fits p l ls is) ∙ same_lined (length (lines_text p)) l k first second next.0 ∙ placed e fit p k ks also, next.1)

-- one line more that both have
further : (p : List ListingLine) (l : ListingLine) (ls all : List ListingLine) → all ≡ p ++ l ∷ ls → all ≡ (p ++ l ∷ []) ++ ls
further p l ls all is = is ∙ sym (append_assoc p (l ∷ []) ls)

-- lines tell the draft
lines_tell : (d e : Draft) → DraftFits d → DraftFits e → draft_lines d ≡ draft_lines e → d ≡ e
lines_tell d e fits fit same =
    let rest : flat_map item_lines d ≡ flat_map item_lines e = cc in
    ap (λ (s : SoFar). s.done) (sym (walks d fits).comes ∙ ap (with_lines start) rest ∙ (walks e fit).comes)

-- ---- prefixes

-- No draft goes on with the next line of the text.
abbrev NoneNext : List ListingLine → List ℕ → Type 0
NoneNext lines rest = (l : ListingLine) (after : List ℕ) → IsBegun (lines ++ l ∷ []) → rest ≢ line_text l ++ after

-- a text that two drafts begin stops for both after the same lines
same_lines : (d e : Draft) → DraftFits d → DraftFits e → (lines others p l1 l2 c1 c2 : List ListingLine) (rest more : List ℕ)
    → lines ≡ p ++ l1 → others ≡ p ++ l2 → draft_lines d ≡ p ++ (l1 ++ c1) → draft_lines e ≡ p ++ (l2 ++ c2) → lines_text l1 ++ rest ≡ lines_text l2 ++ more
    → NoneNext lines rest → NoneNext others more → l1 ≡ l2
same_lines d e fits fit lines others p [] [] c1 c2 rest more one other is also same stops never = refl
same_lines d e fits fit lines others p [] (k ∷ ks) c1 c2 rest more one other is also same stops never =
    let begun : draft_lines e ≡ (lines ++ k ∷ []) ++ (ks ++ c2) = further p k (ks ++ c2) (draft_lines e) also ∙ ap (λ (q : List ListingLine). (q ++ k ∷ []) ++ (ks ++ c2)) (sym (append-nil p) ∙ sym one) in
    absurd (stops k (lines_text ks ++ more) (e, ks ++ c2, fit, begun) (same ∙ append_assoc (line_text k) (lines_text ks) more))
same_lines d e fits fit lines others p (l ∷ ls) [] c1 c2 rest more one other is also same stops never =
    let begun : draft_lines d ≡ (others ++ l ∷ []) ++ (ls ++ c1) = further p l (ls ++ c1) (draft_lines d) is ∙ ap (λ (q : List ListingLine). (q ++ l ∷ []) ++ (ls ++ c1)) (sym (append-nil p) ∙ sym other) in
    absurd (never l (lines_text ls ++ rest) (d, ls ++ c1, fits, begun) (sym same ∙ append_assoc (line_text l) (lines_text ls) rest))
same_lines d e fits fit lines others p (l ∷ ls) (k ∷ ks) c1 c2 rest more one other is also same stops never =
    let texts : line_text l ++ (lines_text ls ++ rest) ≡ line_text k ++ (lines_text ks ++ more) = sym (append_assoc (line_text l) (lines_text ls) rest) ∙ same ∙ append_assoc (line_text k) (lines_text ks) more in
    let here = one_at d e fits fit p l k (ls ++ c1) (ks ++ c2) (lines_text ls ++ rest) (lines_text ks ++ more) is also texts in
    let first : k ≡ l = sym here.0 in
    let onward = same_lines d e fits fit lines others (p ++ l ∷ []) ls ks c1 c2 rest more
    (further p l ls lines one) (further p l ks others (other ∙ ap (λ (x : ListingLine). p ++ x ∷ ks) first))
    (further p l (ls ++ c1) (draft_lines d) is) (further p l (ks ++ c2) (draft_lines e) (also ∙ ap (λ (x : ListingLine). p ++ x ∷ (ks ++ c2)) first))
    here.1 stops never in
    (λ i. here.0 i ∷ onward i)

-- ---- what closes a draft

end_stands : (q : Source) (b : Begun) → MayFollow q b End → End ∷ [] ≡ closing b
end_stands q Nothing may = absurd may
end_stands q (InModule head locals os) may = refl
end_stands q (InClient name orders) may = absurd may

close_stands : (q : Source) (b : Begun) → MayFollow q b Close → Close ∷ [] ≡ closing b
close_stands q Nothing may = absurd may
close_stands q (InModule head locals os) may = absurd may
close_stands q (InClient name orders) may = refl

title_stands : (q : Source) (b : Begun) → MayFollow q b Title → ⊥
title_stands q Nothing may = may
title_stands q (InModule head locals os) may = may
title_stands q (InClient name orders) may = may

-- what closes is one of four
by_closing : (P : List ListingLine → Type 0) (c : List ListingLine) → Contains closings c → P [] → P (End ∷ []) → P (Close ∷ []) → P (Title ∷ []) → P c
by_closing P c (zero, less, is) nothing end close title = subst P is nothing
by_closing P c (suc zero, less, is) nothing end close title = subst P is end
by_closing P c (suc (suc zero), less, is) nothing end close title = subst P is close
by_closing P c (suc (suc (suc zero)), less, is) nothing end close title = subst P is title
by_closing P c (suc (suc (suc (suc k))), less, is) nothing end close title = absurd (omega arith)

-- after these lines and the first one a draft is closed so
closes_as : (d : Draft) → DraftFits d → (p c : List ListingLine) → Contains closings c → flat_map item_lines d ≡ p ++ c → c ≡ closing (with_lines start p).begun
closes_as d fits p c there is =
    by_closing (λ x. flat_map item_lines d ≡ p ++ x → x ≡ closing (with_lines start p).begun) c there
    (λ whole. let comes : with_lines start p ≡ so_far d Nothing = ap (with_lines start) (sym (append-nil p) ∙ sym whole) ∙ (walks d fits).comes in ap (λ (s : SoFar). closing s.begun) (sym comes))
    (λ whole. end_stands (source_of (with_lines start p).done) (with_lines start p).begun (stands_next start p End [] (subst (AllStand start) whole (walks d fits).stands)))
    (λ whole. close_stands (source_of (with_lines start p).done) (with_lines start p).begun (stands_next start p Close [] (subst (AllStand start) whole (walks d fits).stands)))
    (λ whole. absurd (title_stands (source_of (with_lines start p).done) (with_lines start p).begun (stands_next start p Title [] (subst (AllStand start) whole (walks d fits).stands))))
    is

-- what closes a draft with no line before it is the first line
closes_first : (d : Draft) (c : List ListingLine) → Contains closings c → draft_lines d ≡ c → c ≡ Title ∷ []
closes_first d c there is = by_closing (λ x. draft_lines d ≡ x → x ≡ Title ∷ []) c there (λ whole. absurd cc) (λ whole. absurd cc) (λ whole. absurd cc) (λ whole. refl) is

one_closing : (d e : Draft) → DraftFits d → DraftFits e → (lines c1 c2 : List ListingLine) → Contains closings c1 → Contains closings c2 → draft_lines d ≡ lines ++ c1 → draft_lines e ≡ lines ++ c2 → c1 ≡ c2
one_closing d e fits fit [] c1 c2 there other is also = closes_first d c1 there is ∙ sym (closes_first e c2 other also)
one_closing d e fits fit (x ∷ p) c1 c2 there other is also =
    let first : flat_map item_lines d ≡ p ++ c1 = cc in
    let second : flat_map item_lines e ≡ p ++ c2 = cc in
    closes_as d fits p c1 there first ∙ sym (closes_as e fit p c2 other second)

-- ---- the laws

-- nothing goes on where no text is left
never_more : (lines : List ListingLine) → NoneNext lines []
never_more lines l after (d, more, fits, is) none = line_there l (fits_at d fits lines l more (is ∙ append_assoc lines (l ∷ []) more)) after (sym none)

pub one_draft : (text : List ℕ) (d e : Draft) → IsListing text d → IsListing text e → d ≡ e
one_draft text d e one other =
    let texts : lines_text (draft_lines d) ++ [] ≡ lines_text (draft_lines e) ++ [] = ap (λ (t : List ℕ). t ++ []) (sym one.written ∙ other.written) in
    lines_tell d e one.fits other.fits
    (same_lines d e one.fits other.fits (draft_lines d) (draft_lines e) [] (draft_lines d) (draft_lines e) [] [] [] [] refl refl (sym (append-nil (draft_lines d))) (sym (append-nil (draft_lines e)))
    texts (never_more (draft_lines d)) (never_more (draft_lines e)))

-- what follows is what follows
left_cancel : (t a b : List ℕ) → t ++ a ≡ t ++ b → a ≡ b
left_cancel [] a b same = same
left_cancel (x ∷ t) a b same = let rest : t ++ a ≡ t ++ b = cc in left_cancel t a b rest

pub one_stop : (text : List ℕ) (d e : Draft) (m n : ℕ) → StopsAt text d m → StopsAt text e n → (d ≡ e) × (m ≡ n)
one_stop text d e m n (lines, c1, rest, one, number) (others, c2, more, other, also) =
    let same : lines ≡ others = same_lines d e one.fits other.fits lines others [] lines others c1 c2 rest more refl refl one.said other.said (sym one.written ∙ other.written) one.stops other.stops in
    let said : draft_lines e ≡ lines ++ c2 = other.said ∙ ap (λ (ls : List ListingLine). ls ++ c2) (sym same) in
    let closed : c1 ≡ c2 = one_closing d e one.fits other.fits lines c1 c2 one.closes other.closes one.said said in
    (lines_tell d e one.fits other.fits (one.said ∙ ap (λ (c : List ListingLine). lines ++ c) closed ∙ sym said), number ∙ ap (λ (ls : List ListingLine). length (lines_text ls)) same ∙ sym also)

-- a draft with all its lines isn't closed further
never_closed : (d e : Draft) → DraftFits d → DraftFits e → (c : List ListingLine) → Contains closings c → draft_lines e ≡ draft_lines d ++ c → c ≡ []
never_closed d e fits fit c there is =
    let rest : flat_map item_lines e ≡ flat_map item_lines d ++ c = cc in
    closes_as e fit (flat_map item_lines d) c there rest ∙ ap (λ (s : SoFar). closing s.begun) (walks d fits).comes

pub never_both : (text : List ℕ) (d e : Draft) (n : ℕ) → IsListing text d → StopsAt text e n → ⊥
never_both text d e n one (others, c, more, other, number) =
    let texts : lines_text (draft_lines d) ++ [] ≡ lines_text others ++ more = append-nil (lines_text (draft_lines d)) ∙ sym one.written ∙ other.written in
    let same : draft_lines d ≡ others = same_lines d e one.fits other.fits (draft_lines d) others [] (draft_lines d) others [] c [] more refl refl (sym (append-nil (draft_lines d))) other.said texts (never_more (draft_lines d)) other.stops in
    let left : [] ≡ more = left_cancel (lines_text (draft_lines d)) [] more (texts ∙ ap (λ (ls : List ListingLine). lines_text ls ++ more) (sym same)) in
    let said : draft_lines e ≡ draft_lines d ++ c = other.said ∙ ap (λ (ls : List ListingLine). ls ++ c) (sym same) in
    elim other.unfinished [
      | inl some ↦ some (sym left)
      | inr open' ↦ open' (never_closed d e one.fits other.fits c other.closes said)
    ]
