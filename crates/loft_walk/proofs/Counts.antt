-- The counts of the work that is left, from the outside in.
use Rattle.std.proofs.Common.{◌≡◌, ℕ, ℤ, List, [], ◌∷◌, ◌++◌, refl, sym, ap, ◌∙◌, take, length, ◌<◌, ◌+◌, get_or, append-nil}
use Rattle.std.specs.Prelude.{reverse}
use Rattle.std.proofs.lemmas.List.{reverse-append, take_more}
use Rattle.loft_tree.specs.Resolved.{Body, Empty, Then}
use Rattle.loft_sense.specs.Tree.{Work, body_then, counts_in}
use Rattle.loft_walk.specs.declared.work.Piece.{Piece}
use Rattle.loft_walk.specs.declared.work.Piece.TheVariants.{Rest, Again, Turns}
use Rattle.loft_walk.specs.Pieces.{body_from, piece_before, work_of}
use Rattle.loft_walk.proofs.Onto.{work_of-push}

counts_before : (b : Body) (w : List Work) → counts_in (body_then b w) ≡ counts_in w
counts_before Empty w = refl
counts_before (Then s b) w = counts_before b w

-- the count of a piece, if it has one
abbrev pub counts_of_piece : Piece → List ℤ
counts_of_piece (Rest b) = []
counts_of_piece (Again e x) = []
counts_of_piece (Turns n x) = n ∷ []

counts_piece : (p : Piece) (w : List Work) → counts_in (piece_before p w) ≡ counts_of_piece p ++ counts_in w
counts_piece (Rest b) w = counts_before (body_from b.now) w
counts_piece (Again e x) w = refl
counts_piece (Turns n x) w = refl

reverse_counts : (p : Piece) (ns : List ℤ) → reverse (counts_of_piece p ++ ns) ≡ reverse ns ++ counts_of_piece p
reverse_counts (Rest b) ns = sym (append-nil (reverse ns))
reverse_counts (Again e x) ns = sym (append-nil (reverse ns))
reverse_counts (Turns n x) ns = reverse-append (n ∷ []) ns

counts-push : (ps : List Piece) (p : Piece) → reverse (counts_in (work_of (ps ++ p ∷ []))) ≡ reverse (counts_in (work_of ps)) ++ counts_of_piece p
counts-push ps p = ap (λ (w : List Work). reverse (counts_in w)) (work_of-push ps p) ∙ (ap reverse (counts_piece p (work_of ps)) ∙ reverse_counts p (counts_in (work_of ps)))

-- one piece more
pub counts_step : (ps : List Piece) (i : ℕ) (p q : Piece) (cs new : List ℤ) → i < length ps → p ≡ get_or ps i p → cs ≡ reverse (counts_in (work_of (take i ps))) → p ≡ q → new ≡ cs ++ counts_of_piece q → new ≡ reverse (counts_in (work_of (take (i + 1) ps)))
counts_step ps i p q cs new lt is h e n =
    n ∙ (ap (λ (x : Piece). cs ++ counts_of_piece x) (sym e) ∙ (ap (λ (x : List ℤ). x ++ counts_of_piece p) h ∙ (sym (counts-push (take i ps) p) ∙ (ap (λ (x : Piece). reverse (counts_in (work_of (take i ps ++ x ∷ [])))) is ∙ ap (λ (x : List Piece). reverse (counts_in (work_of x))) (sym (take_more ps i p lt))))))
