-- Work in pieces.
use Rattle.std.proofs.Common.{◌≡◌, ℕ, ◌-◌, ◌<◌, List, [], ◌∷◌, ◌++◌, refl, sym, ap, length, take, get_or, ◌∙◌, Bor, arith}
use Rattle.std.proofs.Math.ListN.{set}
use Rattle.loft_tree.specs.declared.named.NamedStmt.{NamedStmt}
use Rattle.loft_sense.specs.Tree.{Work, Begin, body_then}
use Rattle.loft_walk.specs.declared.work.Piece.{Piece}
use Rattle.loft_walk.specs.declared.work.Piece.TheVariants.{Rest}
use Rattle.loft_walk.specs.Pieces.{body_from, step_from, piece_before, work_onto, work_of}
use Rattle.loft_walk.proofs.Lasts.{last_is, last_set}

pub work_onto-push : (ps : List Piece) (p : Piece) (w : List Work) → work_onto (ps ++ p ∷ []) w ≡ piece_before p (work_onto ps w)
work_onto-push [] p w = refl
work_onto-push (q ∷ ps) p w = work_onto-push ps p (piece_before q w)

pub work_of-push : (ps : List Piece) (p : Piece) → work_of (ps ++ p ∷ []) ≡ piece_before p (work_of ps)
work_of-push ps p = work_onto-push ps p []

nothing_before : (b : List NamedStmt) (w : List Work) → length b ≡ 0 → body_then (body_from b) w ≡ w
nothing_before [] w e = refl
nothing_before (s ∷ b) w e = absurd (omega arith)

pub work_of-push_empty : (ps : List Piece) (b : Bor (List NamedStmt)) → length b.now ≡ 0 → work_of (ps ++ Rest b ∷ []) ≡ work_of ps
work_of-push_empty ps b e = work_of-push ps (Rest b) ∙ nothing_before b.now (work_of ps) e

-- the first statement is taken off the last piece
pub work_of-begin : (ps : List Piece) (n : ℕ) → n ≡ length ps → 0 < n → (p : Piece) (b rest : Bor (List NamedStmt)) (s : NamedStmt) → p ≡ get_or ps (n - 1) p → p ≡ Rest b → b.now ≡ s ∷ rest.now
    → work_of ps ≡ Begin (step_from s) ∷ work_of (set ps (n - 1) (Rest rest))
work_of-begin ps n counted some p b rest s is is_rest cut =
    ap work_of (last_is ps n counted some p is)
    ∙ (work_of-push (take (n - 1) ps) p
    ∙ (ap (λ (q : Piece). piece_before q (work_of (take (n - 1) ps))) is_rest
    ∙ (ap (λ (l : List NamedStmt). body_then (body_from l) (work_of (take (n - 1) ps))) cut
    ∙ ap (λ (w : List Work). Begin (step_from s) ∷ w) (sym (ap work_of (last_set ps n counted some (Rest rest)) ∙ work_of-push (take (n - 1) ps) (Rest rest))))))

-- for the functions that add pieces
pub ruleset onto = (work_of-push, work_of-push_empty)
