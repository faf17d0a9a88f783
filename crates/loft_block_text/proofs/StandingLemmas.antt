-- The text of a final state, in its parts.
use Rattle.std.proofs.Common.{◌≡◌, ℕ, ℤ, List, [], ◌∷◌, ◌++◌, length, map, codes, ap, ◌∙◌, append_assoc}
use Rattle.std.specs.Fmt.{decimal}
use Rattle.std.proofs.lemmas.Grind.{flat_map-append}
use Rattle.loft_base.specs.declared.ids.SchedId.{SchedId}
use Rattle.loft_tree.specs.declared.heads.Heads.{Heads}
use Rattle.loft_orders.specs.declared.note.Standing.{Standing}
use Rattle.loft_orders.specs.Lines.{text_of}
use Rattle.loft_sense.specs.Heads.{shared_of}
use Rattle.loft_history.specs.Report.{standing_line, shared_lines, final_lines}

text_of-append : (a b : List (List ℕ)) → text_of (a ++ b) ≡ text_of a ++ text_of b
text_of-append a b = flat_map-append (λ line. line ++ 10 ∷ []) a b

-- the parts of a final state
pub final_parts : (h : Heads) (s : SchedId) (linked : List Standing) (shared : List ℤ)
    → text_of (final_lines h s linked shared) ≡ codes "state " ++ (decimal (length linked) ++ (10 ∷ [] ++ (text_of (map (standing_line h) linked) ++ text_of (shared_lines h (shared_of h s) shared))))
final_parts h s linked shared =
    let standings = map (standing_line h) linked in
    let values = shared_lines h (shared_of h s) shared in
    append_assoc (codes "state " ++ decimal (length linked)) (10 ∷ []) (text_of (standings ++ values))
    ∙ append_assoc (codes "state ") (decimal (length linked)) (10 ∷ [] ++ text_of (standings ++ values))
    ∙ ap (λ t. codes "state " ++ (decimal (length linked) ++ (10 ∷ [] ++ t))) (text_of-append standings values)
