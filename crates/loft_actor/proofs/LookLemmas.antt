-- The look at the world between two phases.
use Rattle.std.proofs.Common.{◌≡◌, ◌⊎◌, inl, inr, ℕ, zero, suc, ◌+◌, ◌<◌, ◌≤◌, arith, List, [], ◌∷◌, length, drop, slice_index_or, refl, sym, ap, ◌∙◌, subst, append-nil, true, Option, Some, None, slice_get}
use Rattle.std.specs.List.{All}
use Rattle.std.specs.Option.{option_map_or}
use Rattle.std.proofs.lemmas.List.{drop_all}
use Rattle.std.proofs.lemmas.List.Elements.{All-nil}
use Rattle.atomic_table.specs.Seated.{TableId}
use Rattle.loft_tree.specs.declared.heads.Client.{Client}
use Rattle.loft_tree.specs.declared.heads.ClientOrder.{ClientOrder}
use Rattle.loft_tree.specs.declared.heads.Heads.{Heads}
use Rattle.loft_code.specs.View.{automata_of}
use Rattle.loft_code.specs.declared.raw.CodeProgram.{CodeProgram}
use Rattle.loft_orders.specs.declared.entry.Entry.{Entry}
use Rattle.loft_sense.specs.Machine.{Code}
use Rattle.loft_history.specs.Clients.{orders_from, orders_of}
use Rattle.loft_history.specs.History.{sent_in}
use Rattle.loft_history.specs.Legal.{actor_of}
use Rattle.loft_soundness.specs.Machines.{SentFits}
use Rattle.loft_world.specs.State.{State}
use Rattle.loft_baton.specs.declared.knows.Knows.{Knows}
use Rattle.loft_baton.specs.PassValue.{PassValue}
use Rattle.loft_baton.specs.Knowing.{has, added, holding, Follows, Adds}
use Rattle.loft_station.specs.declared.outsider.Outsider.{Outsider}
use Rattle.loft_station.specs.Outsiders.{IsReady, HasGivenAll}
use Rattle.loft_station.proofs.OutsiderLemmas.{all_given}

-- ---- which scheduler has a turn to make

before_or_at : (i k : ℕ) → i < k + 1 → (i < k) ⊎ (i ≡ k)
before_or_at zero zero lt = inr refl
before_or_at zero (suc k) lt = inl (omega arith)
before_or_at (suc i) zero lt = absurd (omega arith)
before_or_at (suc i) (suc k) lt = more (before_or_at i k (omega arith))
  where
    more : (i < k) ⊎ (i ≡ k) → (suc i < suc k) ⊎ (suc i ≡ suc k)
    more (inl l) = inl (omega arith)
    more (inr e) = inr (ap suc e)

-- the element at an index, whatever is said for one that isn't there
pub either : {A : Type 0} (xs : List A) (k : ℕ) (d e : A) → k < length xs → slice_index_or xs k d ≡ slice_index_or xs k e
either [] k d e lt = absurd (omega arith)
either (x ∷ xs) zero d e lt = refl
either (x ∷ xs) (suc k) d e lt = either xs k d e (omega arith)

-- what holds from one index on does so with one more
pub since_more : {A : Type 0} (P : A → Type 0) (xs : List A) (from k : ℕ) → ((i : ℕ) (d : A) → from ≤ i → i < k → P (slice_index_or xs i d)) → ((d : A) → P (slice_index_or xs k d))
    → (i : ℕ) (d : A) → from ≤ i → i < k + 1 → P (slice_index_or xs i d)
since_more {A} P xs from k since here i d le lt = one (before_or_at i k lt)
  where
    one : (i < k) ⊎ (i ≡ k) → P (slice_index_or xs i d)
    one (inl less) = since i d le less
    one (inr is) = subst (λ (j : ℕ). P (slice_index_or xs j d)) (sym is) (here d)

-- ---- a client that has given all its orders

orders_are : (h : Heads) (c : ℕ) (d : Client) → slice_get h.clients c ≡ Some d → orders_of h c ≡ d.orders
orders_are h c d is = ap (λ (o : Option Client). option_map_or (λ e. e.orders) o []) is

pub counted_all : (b : TableId) (x : CodeProgram) (v : Outsider) (h : Heads) (d : Client) (n : ℕ) → IsReady b x v → h ≡ x.heads → slice_get h.clients v.client ≡ Some d → n ≡ length d.orders → n ≤ v.given → HasGivenAll x v
counted_all b x v h d n ready same found count le =
    let orders : orders_of h v.client ≡ d.orders = orders_are h v.client d found in
    let none : drop v.given (orders_of h v.client) ≡ [] = drop_all v.given (orders_of h v.client) (omega (arith, count, ap length orders)) in
    all_given b x v h None ready same (ap (λ (l : List ClientOrder). slice_get (orders_from h v.client v.creates l) 0) (sym none)) refl

-- ---- the world goes back as it was

-- nothing was added
pub adds_none : (u : Knows) (mid : PassValue) (p : PassValue) (taken left : State) → p.knows ≡ u → mid ≡ record p { knows = holding p.knows taken.history } → Follows u taken → left ≡ taken → Adds mid.knows left
adds_none u mid p taken left was is follows same =
    let h : List Entry = taken.history in
    let k : mid.knows ≡ holding u h = ap (λ (t : PassValue). t.knows) is ∙ ap (λ (w : Knows). holding w h) was in
    let none : added (holding u h) left.history ≡ [] = ap (λ (w : State). drop (length h) w.history) same ∙ drop_all (length h) h (omega arith) in
    let adds : Adds (holding u h) left = record {
      seen = ([], append-nil h ∙ ap (λ (w : State). w.history) (sym same));
      own = subst (All (λ e. has u.own (actor_of e) ≡ true)) (sym none) (All-nil (λ e. has u.own (actor_of e) ≡ true));
      heads = λ y known. ap (λ (w : State). w.heads) same ∙ (follows.code y known).heads;
      fits = λ y known. subst (λ (l : List Entry). All (SentFits (Code (automata_of y))) (sent_in l)) (sym none) (All-nil (SentFits (Code (automata_of y))));
    } in
    subst (λ (w : Knows). Adds w left) (sym k) adds
