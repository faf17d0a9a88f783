-- The parts of an instant's text, one after the other.
use Rattle.std.proofs.Common.{◌≡◌, ℕ, ◌≤◌, List, [], ◌∷◌, ◌++◌, length, drop, min, map, refl, ap, ◌∙◌, arith, codes, append_assoc}
use Rattle.std.specs.Fmt.{decimal}
use Rattle.std.proofs.lemmas.Grind.{flat_map-append}
use Rattle.std.proofs.lemmas.List.{length-drop}
use Rattle.loft_tree.specs.declared.heads.Heads.{Heads}
use Rattle.loft_orders.specs.declared.order.Order.{Order}
use Rattle.loft_orders.specs.declared.order.Mark.{Mark}
use Rattle.loft_orders.specs.declared.note.Ended.{Ended}
use Rattle.loft_orders.specs.declared.note.InstantNote.{InstantNote}
use Rattle.loft_orders.specs.Lines.{text_of, batch_lines, act_line, leave_lines, at_line, shared_line, instant_lines}

pub text_of-append : (a b : List (List ℕ)) → text_of (a ++ b) ≡ text_of a ++ text_of b
text_of-append a b = flat_map-append (λ line. line ++ 10 ∷ []) a b

batch-none : (h : Heads) (stopped : List Ended) (k : ℕ) (os : List Order) (ms : List Mark) → min (length os) (length ms) ≡ 0 → batch_lines h stopped k os ms ≡ []
batch-none h stopped k [] ms none = refl
batch-none h stopped k (o ∷ os) [] none = refl
batch-none h stopped k (o ∷ os) (m ∷ ms) none = absurd (omega arith)

-- after the last order that has a mark nothing is left
pub batch-end : (h : Heads) (stopped : List Ended) (os : List Order) (ms : List Mark) (k : ℕ) → min (length os) (length ms) ≤ k → text_of (batch_lines h stopped k (drop k os) (drop k ms)) ≡ []
batch-end h stopped os ms k past = ap text_of (batch-none h stopped k (drop k os) (drop k ms) (omega (arith, length-drop k os, length-drop k ms)))

-- the parts of an instant
pub instant_parts : (h : Heads) (batch : List Order) (n : InstantNote)
    → text_of (instant_lines h batch n) ≡ codes "instant " ++ (decimal n.number ++ (10 ∷ [] ++ (text_of (batch_lines h n.stopped 0 batch n.marks) ++ (text_of (map (act_line h) n.acts) ++ (text_of (leave_lines h n.sent) ++ (text_of (map (at_line h) n.stands) ++ text_of (map (λ c. shared_line h c.shared c.value) n.changed)))))))
instant_parts h batch n =
    let acts = map (act_line h) n.acts in
    let leavers = leave_lines h n.sent in
    let stands = map (at_line h) n.stands in
    let changed = map (λ c. shared_line h c.shared c.value) n.changed in
    let orders = batch_lines h n.stopped 0 batch n.marks in
    let rest = acts ++ (leavers ++ (stands ++ changed)) in
    let head = codes "instant " ++ decimal n.number in
    append_assoc head (10 ∷ []) (text_of (orders ++ rest))
    ∙ append_assoc (codes "instant ") (decimal n.number) (10 ∷ [] ++ text_of (orders ++ rest))
    ∙ ap (λ t. codes "instant " ++ (decimal n.number ++ (10 ∷ [] ++ t)))
    (text_of-append orders rest
    ∙ ap (λ t. text_of orders ++ t) (text_of-append acts (leavers ++ (stands ++ changed))
    ∙ ap (λ t. text_of acts ++ t) (text_of-append leavers (stands ++ changed)
    ∙ ap (λ t. text_of leavers ++ t) (text_of-append stands changed))))
