-- The passes of callers, from `split` to `close`.
use Rattle.std.proofs.Common.{◌≡◌, ℕ, ◌≤◌, true, List, [], ◌∷◌, ◌++◌, length, sym, ap, ◌∙◌, subst, Some}
use Rattle.std.specs.List.{All}
use Rattle.std.proofs.lemmas.List.Elements.{All-nil, All-cons}
use Rattle.atomic_table.specs.Seated.{TableId}
use Rattle.loft_code.specs.declared.raw.CodeProgram.{CodeProgram}
use Rattle.loft_orders.specs.declared.entry.Actor.{Actor}
use Rattle.loft_orders.specs.declared.entry.Actor.TheVariants.{Client}
use Rattle.loft_orders.specs.declared.entry.Entry.{Entry}
use Rattle.loft_baton.specs.declared.knows.Own.{Own}
use Rattle.loft_baton.specs.declared.knows.Knows.{Knows}
use Rattle.loft_baton.specs.PassValue.{PassValue}
use Rattle.loft_baton.specs.Knowing.{IsIdle, has, own_of, begun, gave, newcomer, joined}
use Rattle.loft_ft.specs.Calls.{HasCaller, number_in, entries_in}
use Rattle.loft_ft.proofs.CallLemmas.{code_there, for_code, own_is}
use Rattle.loft_ft_tests.specs.Passes.{IsOfCaller}

-- the pass of a new caller
pub new_of_caller : (b : TableId) (x : CodeProgram) (n : ℕ) (v : Knows) (q : PassValue) → IsIdle v → v.code ≡ Some x → length x.heads.clients ≤ n → q.baton ≡ b → q.knows ≡ newcomer v (Client n) → IsOfCaller b n q
new_of_caller b x n v q idle code beyond baton k =
    let own : q.knows.own ≡ own_of (Client n) [] ∷ [] = ap (λ (w : Knows). w.own) k in
    record {
      may = record {
        baton = baton;
        idle = (ap (λ (w : Knows). w.stage) k ∙ idle.0, ap (λ (w : Knows). w.holds) k ∙ idle.1);
        caller = for_code (λ y. HasCaller q.knows.own y.heads) q.knows.code x (ap (λ (w : Knows). w.code) k ∙ code) (subst (λ (l : List Own). HasCaller l x.heads) (sym own) beyond);
      };
      caller = ap number_in own;
    }

-- its one actor is the caller
pub own_of_caller : (b : TableId) (n : ℕ) (p : PassValue) → IsOfCaller b n p → p.knows.own ≡ own_of (Client n) (entries_in p.knows.own) ∷ []
own_of_caller b n p is =
    let there = code_there (λ y. HasCaller p.knows.own y.heads) p.knows.code is.may.caller in
    own_is p.knows.own there.0.heads there.2 ∙ ap (λ (k : ℕ). own_of (Client k) (entries_in p.knows.own) ∷ []) is.caller

-- the giving pass with the passes of two callers has each actor that was given out
pub whole_two : (x : CodeProgram) (m0 m1 m2 p q u v : Knows) (xs ys : List Entry) → m0 ≡ begun (Some x) → m1 ≡ gave m0 (Client 1) → m2 ≡ gave m1 (Client 2) → p.own ≡ own_of (Client 1) xs ∷ [] → q.own ≡ own_of (Client 2) ys ∷ []
    → u ≡ joined m2 p → v ≡ joined u q → All (λ a. has v.own a ≡ true) v.given
whole_two x m0 m1 m2 p q u v xs ys zero one two mine other first second =
    let main : v ≡ joined (joined (gave (gave (begun (Some x)) (Client 1)) (Client 2)) p) q =
    second ∙ ap (λ (k : Knows). joined k q) first ∙ ap (λ (k : Knows). joined (joined k p) q) (two ∙ ap (λ (k : Knows). gave k (Client 2)) (one ∙ ap (λ (k : Knows). gave k (Client 1)) zero)) in
    let own : v.own ≡ own_of (Client 1) xs ∷ own_of (Client 2) ys ∷ [] = ap (λ (k : Knows). k.own) main ∙ ap (λ (l : List Own). l ++ q.own) mine ∙ ap (λ (l : List Own). own_of (Client 1) xs ∷ l) other in
    let given : v.given ≡ Client 1 ∷ Client 2 ∷ [] = ap (λ (k : Knows). k.given) main in
    let Has : Actor → Type 0 = λ a. has v.own a ≡ true in
    subst (All Has) (sym given) (All-cons Has (Client 1) (Client 2 ∷ []) (ap (λ (l : List Own). has l (Client 1)) own) (All-cons Has (Client 2) [] (ap (λ (l : List Own). has l (Client 2)) own) (All-nil Has)))
