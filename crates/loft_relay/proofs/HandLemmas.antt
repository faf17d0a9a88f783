-- Clients with their passes, in a list.
use Rattle.std.proofs.Common.{◌≡◌, ℕ, ◌<◌, ◌==◌, suc, true, false, ◌||◌, List, [], ◌∷◌, ◌++◌, length, take, drop, length-take, drop_of_length-le, take_all, refl, sym, ap, ◌∙◌, subst, append_assoc, append-nil, arith, IsTrue, Option}
use Rattle.std.specs.List.{All}
use Rattle.std.specs.Prelude.{slice_index_or}
use Rattle.std.proofs.lemmas.List.Elements.{All-head, All-tail, All-nil, All-cons}
use Rattle.std.proofs.lemmas.List.Folds.{list_any_at}
use Rattle.std.proofs.lemmas.List.{get_or_default, get_or-take}
use Rattle.atomic_table.specs.Seated.{TableId}
use Rattle.loft_code.specs.declared.raw.CodeProgram.{CodeProgram}
use Rattle.loft_orders.specs.declared.entry.Actor.{Actor}
use Rattle.loft_orders.specs.declared.entry.Actor.TheVariants as actor
use Rattle.loft_orders.specs.declared.order.Sent.{Sent}
use Rattle.loft_history.specs.Legal.{same_actor}
use Rattle.loft_history.proofs.LegalLemmas.{same_actor_self}
use Rattle.loft_baton.specs.declared.knows.Own.{Own}
use Rattle.loft_baton.specs.Knowing.{among, has, own_of}
use Rattle.loft_relay.specs.declared.many.Hand.{Hand}
use Rattle.loft_relay.specs.Gives.{entries_of, IsOrderFor}
use Rattle.loft_relay.specs.Hands.{IsReady, MayGive, IsDone, AreApart, actors_of, clients_of, owns_of, owns_in}

pub owns_in-append : (xs ys : List Hand) → owns_in (xs ++ ys) ≡ owns_in xs ++ owns_in ys
owns_in-append [] ys = refl
owns_in-append (x ∷ xs) ys = ap (λ l. x.pass.knows.own ++ l) (owns_in-append xs ys) ∙ sym (append_assoc x.pass.knows.own (owns_in xs) (owns_in ys))

pub owns_in_done : (b : TableId) (sents : List Sent) (hands : List Hand) → All (λ h. IsDone b sents h) hands → owns_in hands ≡ owns_of sents (clients_of hands)
owns_in_done b sents [] all = refl
owns_in_done b sents (h ∷ hands) all =
    let P : Hand → Type 0 = λ h. IsDone b sents h in
    ap (λ l. l ++ owns_in hands) (All-head P h hands all).own ∙ ap (λ l. own_of (actor.Client h.client) (entries_of h.client sents) ∷ l) (owns_in_done b sents hands (All-tail P h hands all))

among_clients : (clients : List ℕ) (c : ℕ) → All (λ d. (c == d) ≡ false) clients → among (actors_of clients) (actor.Client c) ≡ false
among_clients [] c all = refl
among_clients (d ∷ clients) c all =
    let P : ℕ → Type 0 = λ d. (c == d) ≡ false in
    ap (λ t. t || among (actors_of clients) (actor.Client c)) (All-head P d clients all) ∙ among_clients clients c (All-tail P d clients all)

-- no client stands before its own index
pub apart_before : (clients : List ℕ) (i d : ℕ) → AreApart clients → i < length clients → among (actors_of (take i clients)) (actor.Client (slice_index_or clients i d)) ≡ false
apart_before clients i d apart lt =
    among_clients (take i clients) (slice_index_or clients i d)
    (λ k e l.
    let a : k < i = omega (arith, length-take {A = ℕ}) in
    let b : k < length clients = omega arith in
    let was : slice_index_or (take i clients) k e ≡ slice_index_or clients k d = get_or-take i clients k e a ∙ get_or_default clients k e d b in
    ap (λ y. slice_index_or clients i d == y) was ∙ apart k i d a lt)

pub all_among_itself : (actors : List Actor) → All (λ a. among actors a ≡ true) actors
all_among_itself actors = λ k d l. list_any_at (λ b. same_actor (slice_index_or actors k d) b) actors k d l (same_actor_self (slice_index_or actors k d))

pub has_owns : (sents : List Sent) (clients : List ℕ) (a : Actor) → has (owns_of sents clients) a ≡ among (actors_of clients) a
has_owns sents [] a = refl
has_owns sents (c ∷ clients) a = ap (λ b. same_actor a (actor.Client c) || b) (has_owns sents clients a)

pub all_owns : (P : Own → Type 0) (sents : List Sent) (clients : List ℕ) → All P (owns_of sents clients) → All (λ c. P (own_of (actor.Client c) (entries_of c sents))) clients
all_owns P sents [] all = All-nil (λ c. P (own_of (actor.Client c) (entries_of c sents)))
all_owns P sents (c ∷ clients) all =
    let o = own_of (actor.Client c) (entries_of c sents) in
    All-cons (λ c. P (own_of (actor.Client c) (entries_of c sents))) c clients (All-head P o (owns_of sents clients) all) (all_owns P sents clients (All-tail P o (owns_of sents clients) all))

pub clients_same : (xs ys : List Hand) → length ys ≡ length xs → ((i : ℕ) (d : Hand) → i < length xs → (slice_index_or ys i d).client ≡ (slice_index_or xs i d).client) → clients_of ys ≡ clients_of xs
clients_same [] [] len each = refl
clients_same [] (y ∷ ys) len each = absurd (omega arith)
clients_same (x ∷ xs) [] len each = absurd (omega arith)
clients_same (x ∷ xs) (y ∷ ys) len each =
    let first : y.client ≡ x.client = each 0 x (omega arith) in
    let others : clients_of ys ≡ clients_of xs = clients_same xs ys (omega arith) (λ i d l. each (suc i) d (omega arith)) in
    λ k. first k ∷ others k

pub put_back : (n : ℕ) (new items : List Hand) → length new ≡ length items → n ≡ length items → take n (new ++ drop (length new) items) ≡ new
put_back n new items len is =
    let none : drop (length new) items ≡ [] = drop_of_length-le items {i = length new} (omega arith) in
    ap (λ l. take n (new ++ l)) none ∙ ap (λ l. take n l) (append-nil new) ∙ take_all n new (omega arith)

-- what the giving pass has, where each client is done
pub owns_are : (b : TableId) (sents : List Sent) (hands before : List Hand) (clients : List ℕ) (own : List Own)
    → own ≡ owns_in hands → All (λ h. IsTrue h.done → IsDone b sents h) hands → All (λ h. IsTrue h.done) hands
    → clients_of hands ≡ clients_of before → clients_of before ≡ clients → own ≡ owns_of sents clients
owns_are b sents hands before clients own is may did kept first =
    let done : All (IsDone b sents) hands = λ k d l. may k d l (did k d l) in
    is ∙ owns_in_done b sents hands done ∙ ap (owns_of sents) (kept ∙ first)

-- who is ready may give what is an order for the code
pub may_give : (b : TableId) (x : Option CodeProgram) (sents : List Sent) (hands : List Hand) → All (IsReady b x) hands → All (IsOrderFor x) sents → All (MayGive b sents) hands
may_give b x sents hands ready orders = λ k d l. record { given = (ready k d l).given; orders = subst (λ y. All (IsOrderFor y) sents) (sym (ready k d l).code) orders }
