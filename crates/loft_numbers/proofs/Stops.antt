-- Statements with numbers, one after the other.
use Rattle.std.proofs.Common.{◌≡◌, ℕ, ◌+◌, ◌<◌, List, [], ◌∷◌, ◌++◌, length, get_or, drop, drop-cons, add-one, map, refl, sym, ap, ◌∙◌, arith}
use Rattle.std.proofs.lemmas.List.{map-append}
use Rattle.loft_tree.specs.declared.statement.Stmt.{Stmt}
use Rattle.loft_tree.specs.declared.named.NamedStmt.{NamedStmt}
use Rattle.loft_tree.specs.View.{statement_of, statements_of}
use Rattle.loft_tree.specs.NamedView as view
use Rattle.loft_tree.specs.NamedTree as n
use Rattle.loft_scopes.specs.declared.scope.Scope.{Scope}
use Rattle.loft_scopes.specs.Scopes.{Declared}
use Rattle.loft_numbers.specs.Numbers as numbers
use Rattle.loft_numbers.specs.Numbers.{stops_in, body_stops}

-- statements before a body
abbrev pub put_before : List n.NamedStatement → n.NamedStatements → n.NamedStatements
put_before [] rest = rest
put_before (s ∷ ss) rest = n.Then s (put_before ss rest)

put_before-append : (ss : List n.NamedStatement) (s : n.NamedStatement) (rest : n.NamedStatements) → put_before (ss ++ s ∷ []) rest ≡ put_before ss (n.Then s rest)
put_before-append [] s rest = refl
put_before-append (t ∷ ss) s rest = ap (n.Then t) (put_before-append ss s rest)

put_before-Done : (ss : List n.NamedStatement) → put_before ss n.Done ≡ view.body_of ss
put_before-Done [] = refl
put_before-Done (s ∷ ss) = ap (n.Then s) (put_before-Done ss)

split : (ss : List Stmt) (i : ℕ) (s : Stmt) → i < length ss → s ≡ get_or ss i s → drop i ss ≡ s ∷ drop (i + 1) ss
split ss i s lt is = drop-cons ss i s lt ∙ rw (← is, add-one) refl

-- the stops of the next statement and of those after it
stops_split : (ss : List Stmt) (i : ℕ) (s : Stmt) → i < length ss → s ≡ get_or ss i s → body_stops (statements_of (drop i ss)) ≡ stops_in (statement_of s) + body_stops (statements_of (drop (i + 1) ss))
stops_split ss i s lt is = ap (λ xs. body_stops (statements_of xs)) (split ss i s lt is)

-- its stops are counted
pub stops_left : (ss : List Stmt) (all so_far later i : ℕ) (s : Stmt) → i < length ss → s ≡ get_or ss i s → so_far + body_stops (statements_of (drop i ss)) ≡ all
    → later ≡ so_far + stops_in (statement_of s) → later + body_stops (statements_of (drop (i + 1) ss)) ≡ all
stops_left ss all so_far later i s lt is left counted = omega (arith, left, counted, stops_split ss i s lt is)

-- one more is done
pub one_more : (ds : List Declared) (scope : Scope) (ss : List Stmt) (all : n.NamedStatements) (so_far later i : ℕ) (done more : List NamedStmt) (s : Stmt) (t : NamedStmt) → i < length ss → s ≡ get_or ss i s
    → put_before (map view.statement_of done) (numbers.body_of ds scope (statements_of (drop i ss)) so_far) ≡ all → view.statement_of t ≡ numbers.statement_of ds scope (statement_of s) so_far
    → later ≡ so_far + stops_in (statement_of s) → more ≡ done ++ t ∷ [] → put_before (map view.statement_of more) (numbers.body_of ds scope (statements_of (drop (i + 1) ss)) later) ≡ all
one_more ds scope ss all so_far later i done more s t lt is before same counted grown =
    let rest : List Stmt = drop (i + 1) ss in
    (λ j. put_before (map view.statement_of (grown j)) (numbers.body_of ds scope (statements_of rest) (counted j)))
    ∙ ap (λ xs. put_before xs (numbers.body_of ds scope (statements_of rest) (so_far + stops_in (statement_of s)))) (map-append view.statement_of done (t ∷ []))
    ∙ put_before-append (map view.statement_of done) (view.statement_of t) (numbers.body_of ds scope (statements_of rest) (so_far + stops_in (statement_of s)))
    ∙ ap (λ x. put_before (map view.statement_of done) (n.Then x (numbers.body_of ds scope (statements_of rest) (so_far + stops_in (statement_of s))))) same
    ∙ ap (λ xs. put_before (map view.statement_of done) (numbers.body_of ds scope (statements_of xs) so_far)) (sym (split ss i s lt is))
    ∙ before

-- all are done
pub all_done : (ds : List Declared) (scope : Scope) (all : n.NamedStatements) (so_far : ℕ) (done : List NamedStmt) (rest : List Stmt) → rest ≡ []
    → put_before (map view.statement_of done) (numbers.body_of ds scope (statements_of rest) so_far) ≡ all → view.statements_of done ≡ all
all_done ds scope all so_far done rest none before = sym (put_before-Done (map view.statement_of done)) ∙ ap (λ xs. put_before (map view.statement_of done) (numbers.body_of ds scope (statements_of xs) so_far)) (sym none) ∙ before
