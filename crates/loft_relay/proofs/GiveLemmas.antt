-- What an order of a client means to a pass, and what three passes have in one.
use Rattle.std.proofs.Common.{◌≡◌, ℕ, ℤ, ◌<◌, length, ◌||◌, Bool, true, false, List, [], ◌∷◌, ◌++◌, refl, sym, ap, ◌∙◌, subst, append-nil, Result, Ok, Err, OnOk, OnErr, Option, Some, None}
use Rattle.std.specs.List.{All}
use Rattle.std.proofs.lemmas.List.Elements.{All-nil, All-cons, All-head, All-tail}
use Rattle.std.proofs.lemmas.List.Prefix.{front_rest}
use Rattle.loft_code.specs.View.{automata_of}
use Rattle.loft_code.specs.declared.raw.CodeProgram.{CodeProgram}
use Rattle.loft_orders.specs.declared.entry.Actor.{Actor}
use Rattle.loft_orders.specs.declared.entry.Actor.TheVariants as actor
use Rattle.loft_orders.specs.declared.entry.Entry.{Entry}
use Rattle.loft_orders.specs.declared.entry.Entry.TheVariants as entry
use Rattle.loft_base.specs.declared.ids.EventId.{EventId}
use Rattle.loft_base.specs.declared.ids.SchedId.{SchedId}
use Rattle.loft_tree.specs.NamedFits.{IsScheduler}
use Rattle.loft_sense.specs.Heads.{home}
use Rattle.loft_history.proofs.HistoryLemmas.{is_same}
use Rattle.loft_history.proofs.LegalLemmas.{same_actor_self}
use Rattle.loft_orders.specs.declared.order.Order.TheVariants as order
use Rattle.loft_orders.specs.declared.order.To.TheVariants as to
use Rattle.loft_orders.specs.declared.order.Sent.{Sent}
use Rattle.loft_base.specs.declared.options.RunOptions.{RunOptions}
use Rattle.loft_sense.specs.Machine.{Code, heads}
use Rattle.loft_history.specs.History.{sent_in}
use Rattle.loft_history.specs.Legal.{actor_of, same_actor, of, IsRouted, IsDeclared, IsFaithful, IsLegal}
use Rattle.loft_soundness.specs.Machines.{SentFits}
use Rattle.loft_world.specs.State.{State, with_entry}
use Rattle.loft_baton.specs.declared.knows.Own.{Own}
use Rattle.loft_baton.specs.declared.knows.Knows.{Knows}
use Rattle.loft_baton.specs.Knowing.{has, added, Adds, Follows, begun, gave, own_of, own_with, holding, joined}
use Rattle.loft_relay.specs.Gives.{entries_of, IsOrder, IsOrderFor}
use Rattle.loft_baton.proofs.LawLemmas.{closed_legal}

-- the order is one for each code that the pass knows
pub order_for : (code : Option CodeProgram) (m : Sent) → IsOrderFor code m → (x : CodeProgram) × (code ≡ Some x) × IsOrder x m
order_for None m never = absurd never
order_for (Some x) m is = (x, refl, is)

pub same_code : (x y : CodeProgram) (code : Option CodeProgram) → code ≡ Some x → code ≡ Some y → x ≡ y
same_code x y code one other = ap (λ o. elim o as (λ _. CodeProgram) [ None ↦ x | Some z ↦ z ]) (sym one ∙ other)

-- a pass that holds the world knows what it was told as it took it
pub heads_are : (u v : Knows) (w taken : State) → v ≡ holding u taken.history → Follows u taken → w.heads ≡ taken.heads → (x : CodeProgram) → v.code ≡ Some x → w.heads ≡ x.heads
heads_are u v w taken held follows same x is = same ∙ (follows.code x (sym (ap (λ (k : Knows). k.code) held) ∙ is)).heads

pub adds_one : (v : Knows) (w : State) (e : Entry) → w.history ≡ v.seen ++ e ∷ [] → ((x : CodeProgram) → v.code ≡ Some x → w.heads ≡ x.heads) → ((x : CodeProgram) → v.code ≡ Some x → All (SentFits (Code (automata_of x))) (sent_in (e ∷ []))) → has v.own (actor_of e) ≡ true → Adds v w
adds_one v w e is heads fits own =
    let P : Entry → Type 0 = λ e. has v.own (actor_of e) ≡ true in
    let new : added v w.history ≡ e ∷ [] = front_rest w.history v.seen (e ∷ []) is in
    record {
      seen = (e ∷ [], sym is);
      own = subst (All P) (sym new) (All-cons P e [] own (All-nil P));
      heads = heads;
      fits = λ x k. subst (λ l. All (SentFits (Code (automata_of x))) (sent_in l)) (sym new) (fits x k);
    }

pub adds_none : (v : Knows) (w : State) → w.history ≡ v.seen → ((x : CodeProgram) → v.code ≡ Some x → w.heads ≡ x.heads) → Adds v w
adds_none v w is heads =
    let P : Entry → Type 0 = λ e. has v.own (actor_of e) ≡ true in
    let new : added v w.history ≡ [] = front_rest w.history v.seen [] (is ∙ sym (append-nil v.seen)) in
    record {
      seen = ([], append-nil v.seen ∙ sym is);
      own = subst (All P) (sym new) (All-nil P);
      heads = heads;
      fits = λ x k. subst (λ l. All (SentFits (Code (automata_of x))) (sent_in l)) (sym new) (All-nil (SentFits (Code (automata_of x))));
    }

-- the order of a client was added, or nothing was
pub adds_either : {A E : Type 0} (r : Result A E) (u v : Knows) (old taken w : State) (c : ℕ) (m : Sent)
    → v ≡ holding u taken.history → Follows u taken → old ≡ taken
    → OnOk r (w ≡ with_entry old (entry.Client c m)) → OnErr r (w ≡ old)
    → IsOrderFor u.code m → has u.own (actor.Client c) ≡ true → Adds v w
adds_either (Ok a) u v old taken w c m held follows was ok err order own =
    let seen : v.seen ≡ taken.history = ap (λ (k : Knows). k.seen) held in
    let now : w ≡ with_entry taken (entry.Client c m) = ok ∙ ap (λ (s : State). with_entry s (entry.Client c m)) was in
    let known = order_for u.code m order in
    let code : v.code ≡ u.code = ap (λ (k : Knows). k.code) held in
    adds_one v w (entry.Client c m) (ap (λ (s : State). s.history) now ∙ ap (λ l. l ++ entry.Client c m ∷ []) (sym seen))
    (heads_are u v w taken held follows (ap (λ (s : State). s.heads) now))
    (λ x is.
    let Fit : Sent → Type 0 = SentFits (Code (automata_of x)) in
    All-cons Fit m [] (subst (λ y. SentFits (Code (automata_of y)) m) (same_code known.0 x u.code known.1 (sym code ∙ is)) known.2.fits) (All-nil Fit))
    (ap (λ (k : Knows). has k.own (actor.Client c)) held ∙ own)
adds_either (Err a) u v old taken w c m held follows was ok err order own =
    let seen : v.seen ≡ taken.history = ap (λ (k : Knows). k.seen) held in
    let now : w ≡ taken = err ∙ was in
    adds_none v w (ap (λ (s : State). s.history) now ∙ sym seen) (heads_are u v w taken held follows (ap (λ (s : State). s.heads) now))

pub own_with-nil : (own : List Own) → own_with [] own ≡ own
own_with-nil [] = refl
own_with-nil (o ∷ own) = λ i. record { actor = o.actor; entries = append-nil o.entries i } ∷ own_with-nil own i

-- what the pass knows of its actors then
pub own_at_ok : (u v : Knows) (taken w : State) (e : Entry) (own : List Own) → v ≡ holding u taken.history → w ≡ with_entry taken e → own ≡ own_with (added v w.history) v.own → own ≡ own_with (e ∷ []) u.own
own_at_ok u v taken w e own held now is =
    let seen : v.seen ≡ taken.history = ap (λ (k : Knows). k.seen) held in
    let new : added v w.history ≡ e ∷ [] = front_rest w.history v.seen (e ∷ []) (ap (λ (s : State). s.history) now ∙ ap (λ l. l ++ e ∷ []) (sym seen)) in
    is ∙ ap (λ l. own_with l v.own) new ∙ ap (λ (k : Knows). own_with (e ∷ []) k.own) held

pub own_at_err : (u v : Knows) (taken w : State) (own : List Own) → v ≡ holding u taken.history → w ≡ taken → own ≡ own_with (added v w.history) v.own → own ≡ u.own
own_at_err u v taken w own held now is =
    let seen : v.seen ≡ taken.history = ap (λ (k : Knows). k.seen) held in
    let new : added v w.history ≡ [] = front_rest w.history v.seen [] (ap (λ (s : State). s.history) now ∙ sym seen ∙ sym (append-nil v.seen)) in
    is ∙ ap (λ l. own_with l v.own) new ∙ own_with-nil v.own ∙ ap (λ (k : Knows). k.own) held

pub ok_own : {A E : Type 0} (r : Result A E) (u v : Knows) (old taken w : State) (e : Entry) (own : List Own) → v ≡ holding u taken.history → old ≡ taken → OnOk r (w ≡ with_entry old e) → own ≡ own_with (added v w.history) v.own → OnOk r (own ≡ own_with (e ∷ []) u.own)
ok_own (Ok a) u v old taken w e own held was ok is = own_at_ok u v taken w e own held (ok ∙ ap (λ (s : State). with_entry s e) was) is
ok_own (Err a) u v old taken w e own held was ok is = ok

pub err_own : {A E : Type 0} (r : Result A E) (u v : Knows) (old taken w : State) (own : List Own) → v ≡ holding u taken.history → old ≡ taken → OnErr r (w ≡ old) → own ≡ own_with (added v w.history) v.own → OnErr r (own ≡ u.own)
err_own (Ok a) u v old taken w own held was err is = err
err_own (Err a) u v old taken w own held was err is = own_at_err u v taken w own held (err ∙ was) is

-- orders for the code are orders for what a pass knows as its code
pub orders_for : (x : CodeProgram) (code : Option CodeProgram) (sents : List Sent) → code ≡ Some x → All (IsOrder x) sents → All (IsOrderFor code) sents
orders_for x code sents is all = subst (λ o. All (IsOrderFor o) sents) (sym is) all

-- ---- three passes in one

pub own_of_three : (m p q u v : Knows) (a b : Own) → m.own ≡ [] → p.own ≡ a ∷ [] → q.own ≡ b ∷ [] → u ≡ joined m p → v ≡ joined u q → v.own ≡ a ∷ b ∷ []
own_of_three m p q u v a b none one other first second =
    ap (λ (k : Knows). k.own) second ∙ ap (λ (k : Knows). k.own ++ q.own) first
    ∙ ap (λ l. (l ++ p.own) ++ q.own) none ∙ ap (λ l. l ++ q.own) one ∙ ap (λ l. a ∷ l) other

-- the giving pass of two clients, with the passes of both
main_of : (x : CodeProgram) (a b : Actor) (m0 m1 m2 p q u v : Knows) → m0 ≡ begun (Some x) → m1 ≡ gave m0 a → m2 ≡ gave m1 b → u ≡ joined m2 p → v ≡ joined u q → v ≡ joined (joined (gave (gave (begun (Some x)) a) b) p) q
main_of x a b m0 m1 m2 p q u v zero one two first second =
    second ∙ ap (λ (k : Knows). joined k q) first ∙ ap (λ (k : Knows). joined (joined k p) q) (two ∙ ap (λ (k : Knows). gave k b) (one ∙ ap (λ (k : Knows). gave k a) zero))

pub code_of_two : (x : CodeProgram) (a b : Actor) (m0 m1 m2 p q u v : Knows) → m0 ≡ begun (Some x) → m1 ≡ gave m0 a → m2 ≡ gave m1 b → u ≡ joined m2 p → v ≡ joined u q → v.code ≡ Some x
code_of_two x a b m0 m1 m2 p q u v zero one two first second = ap (λ (k : Knows). k.code) (main_of x a b m0 m1 m2 p q u v zero one two first second)

-- the pass has both clients, and no other actor was given out
pub whole_two : (x : CodeProgram) (a b : Actor) (m0 m1 m2 p q u v : Knows) (xs ys : List Entry) → m0 ≡ begun (Some x) → m1 ≡ gave m0 a → m2 ≡ gave m1 b → u ≡ joined m2 p → v ≡ joined u q
    → p.own ≡ own_of a xs ∷ [] → q.own ≡ own_of b ys ∷ [] → All (λ c. has v.own c ≡ true) v.given
whole_two x a b m0 m1 m2 p q u v xs ys zero one two first second mine other =
    let own : v.own ≡ own_of a xs ∷ own_of b ys ∷ [] =
    own_of_three m2 p q u v (own_of a xs) (own_of b ys) (ap (λ (k : Knows). k.own) (two ∙ ap (λ (k : Knows). gave k b) (one ∙ ap (λ (k : Knows). gave k a) zero))) mine other first second in
    let given : v.given ≡ a ∷ b ∷ [] = ap (λ (k : Knows). k.given) (main_of x a b m0 m1 m2 p q u v zero one two first second) in
    let Has : Actor → Type 0 = λ c. has v.own c ≡ true in
    let one_has : Has a = ap (λ l. has l a) own ∙ ap (λ t. t || (same_actor a b || false)) (same_actor_self a) in
    let other_has : Has b = ap (λ l. has l b) own ∙ ap (λ t. same_actor b a || (t || false)) (same_actor_self b) ∙ or_true (same_actor b a) in
    subst (All Has) (sym given) (All-cons Has a (b ∷ []) one_has (All-cons Has b [] other_has (All-nil Has)))
  where
    or_true : (t : Bool) → (t || true) ≡ true
    or_true true = refl
    or_true false = refl

or_false : (b c : Bool) → (b || (c || false)) ≡ true → (b || c) ≡ true
or_false true c e = e
or_false false true e = e
or_false false false e = e

pub has_two : (a b e : Actor) (xs ys : List Entry) → has (record { actor = a; entries = xs } ∷ record { actor = b; entries = ys } ∷ []) e ≡ true → (same_actor e a || same_actor e b) ≡ true
has_two a b e xs ys h = or_false (same_actor e a) (same_actor e b) h

pub of_two : (h : List Entry) (a b : Own) (own : List Own) → own ≡ a ∷ b ∷ [] → All (λ o. of o.actor h ≡ o.entries) own → (of a.actor h ≡ a.entries) × (of b.actor h ≡ b.entries)
of_two h a b own is all =
    let P : Own → Type 0 = λ o. of o.actor h ≡ o.entries in
    let both : All P (a ∷ b ∷ []) = subst (All P) is all in
    (All-head P a (b ∷ []) both, All-head P b [] (All-tail P a (b ∷ []) both))

-- ---- broadcasts

pub broadcast_is_order : (x : CodeProgram) (e : EventId) (v : Option ℤ) (s : SchedId) → e.0 < length x.heads.events → home x.heads e ≡ s → IsScheduler x.heads s → IsOrder x (record { to = to.Sched s; order = order.Broadcast e v })
broadcast_is_order x e v s declared there is = record {
  one = is;
  kind = tt;
  fits = λ q known addressed. record { declared = declared; there = there ∙ sym (is_same q s addressed) };
}

-- ---- two clients

-- what two clients have given is legal, where each gave what it has to give
pub legal_two : (x : CodeProgram) (o : RunOptions) (v : Knows) (w : State) (a b : ℕ) (xs ys : List Sent)
    → v.own ≡ own_of (actor.Client a) (entries_of a xs) ∷ own_of (actor.Client b) (entries_of b ys) ∷ []
    → Follows v w → All (λ e. has v.own (actor_of e) ≡ true) w.history → IsRouted w.heads w.history → v.code ≡ Some x
    → IsFaithful (Code (automata_of x)) o (actor.Client a) (entries_of a xs) → IsFaithful (Code (automata_of x)) o (actor.Client b) (entries_of b ys)
    → IsLegal (Code (automata_of x)) o w.history
legal_two x o v w a b xs ys is follows only routed code one other =
    let Is : Own → Type 0 = λ p. IsDeclared (heads (Code (automata_of x))) o p.actor × IsFaithful (Code (automata_of x)) o p.actor p.entries in
    let first : Own = own_of (actor.Client a) (entries_of a xs) in
    let second : Own = own_of (actor.Client b) (entries_of b ys) in
    let both : All Is (first ∷ second ∷ []) = All-cons Is first (second ∷ []) (tt, one) (All-cons Is second [] (tt, other) (All-nil Is)) in
    closed_legal x o v w follows only routed code (subst (All Is) (sym is) both)
