-- What stays of calls, up to the end.
use Rattle.std.proofs.Common.{◌≡◌, ℕ, ◌+◌, ◌-◌, ◌<◌, ◌≤◌, arith, List, [], ◌∷◌, ◌++◌, length, map, refl, sym, ap, ◌∙◌, subst, Some}
use Rattle.std.specs.Prelude.{slice_index_or}
use Rattle.std.specs.List.{All, Contains}
use mathlib.Core.List.{IsPrefix}
use Rattle.std.proofs.lemmas.List.{length-append}
use Rattle.std.proofs.lemmas.List.Elements.{All-nil, All-cons, All-head, All-tail, All-push, All-weaker, All-contains_itself}
use Rattle.std.proofs.lemmas.List.Quantifiers.{all_pairs_push}
use Rattle.std.proofs.lemmas.Option.{slice_get_within, slice_get-get_or, get_or_from_slice_get}
use Rattle.std.proofs.lemmas.List.{get_or_append_left, get_or-append-add}
use Rattle.loft_tree.specs.declared.heads.Heads.{Heads}
use Rattle.loft_orders.specs.declared.entry.Actor.TheVariants.{Client}
use Rattle.loft_orders.specs.declared.entry.Entry.{Entry}
use Rattle.loft_history.specs.Legal.{of}
use Rattle.loft_world.specs.State.{State}
use Rattle.loft_baton.specs.declared.knows.Own.{Own}
use Rattle.loft_baton.specs.declared.knows.Knows.{Knows}
use Rattle.loft_baton.specs.PassValue.{PassValue}
use Rattle.loft_baton.specs.Knowing.{own_of, Follows, joined}
use Rattle.loft_ft.specs.Calls.{HasCaller, caller_of, entries_of}
use Rattle.loft_ft.specs.Receipts.{StandsAt, Accepted, Refused, Stamped, HasGiven, Keeps}
use Rattle.loft_ft.proofs.CallLemmas.{own_is}

-- ---- positions

-- an entry stays at its position as a history goes on
pub stands_on : (n : ℕ) (e : Entry) (s h : List Entry) → IsPrefix s h → StandsAt n e s → StandsAt n e h
stands_on n e s h p at =
    let within : n - 1 < length s = slice_get_within s (n - 1) e at.1 in
    let more : length s ≤ length h = let len : length s + length p.0 ≡ length h = sym (length-append s p.0) ∙ ap length p.1 in omega (arith, len) in (
      at.0,
      slice_get-get_or h (n - 1) e (omega (arith, within, more))
          ∙ ap Some (ap (λ (l : List Entry). slice_index_or l (n - 1) e) (sym p.1) ∙ get_or_append_left s p.0 e (n - 1) within ∙ get_or_from_slice_get s (n - 1) e e at.1),
    )

pub stands_below : (n : ℕ) (e : Entry) (h : List Entry) → StandsAt n e h → n ≤ length h
stands_below n e h at = let within : n - 1 < length h = slice_get_within h (n - 1) e at.1 in omega (arith, within, at.0)

stand_on : (calls : List Stamped) (s h : List Entry) → IsPrefix s h → All (λ r. StandsAt r.0 r.1 s) calls → All (λ r. StandsAt r.0 r.1 h) calls
stand_on calls s h p all = All-weaker (λ (r : Stamped). StandsAt r.0 r.1 s) (λ (r : Stamped). StandsAt r.0 r.1 h) (λ r at. stands_on r.0 r.1 s h p at) calls all

-- ---- calls

map_push : (calls : List Stamped) (r : Stamped) → map (λ (q : Stamped). q.1) (calls ++ r ∷ []) ≡ map (λ (q : Stamped). q.1) calls ++ r.1 ∷ []
map_push [] r = refl
map_push (q ∷ calls) r = ap (λ (l : List Entry). q.1 ∷ l) (map_push calls r)

pub given_none : (v : Knows) → entries_of v ≡ [] → HasGiven [] v
given_none v none = record { own = none; stand = All-nil (λ (r : Stamped). StandsAt r.0 r.1 v.seen); rise = λ i j d lt in_range. absurd (omega (arith, lt, in_range)) }

pub given_more : (calls : List Stamped) (e : Entry) (stamp : ℕ) (old new : PassValue) → HasGiven calls old.knows → Accepted e stamp old new → HasGiven (calls ++ (stamp, e) ∷ []) new.knows
given_more calls e stamp old new given now =
    let seen : new.knows.seen ≡ old.knows.seen ++ (now.others ++ e ∷ []) = ap (λ (t : PassValue). t.knows.seen) now.pass in
    let own : entries_of new.knows ≡ entries_of old.knows ++ e ∷ [] = ap (λ (t : PassValue). entries_of t.knows) now.pass in
    let on : All (λ r. StandsAt r.0 r.1 new.knows.seen) calls = stand_on calls old.knows.seen new.knows.seen (now.others ++ e ∷ [], sym seen) given.stand in
    record {
      own = own ∙ ap (λ (l : List Entry). l ++ e ∷ []) given.own ∙ sym (map_push calls (stamp, e));
      stand = All-push (λ (r : Stamped). StandsAt r.0 r.1 new.knows.seen) calls (stamp, e) on now.stands;
      rise = all_pairs_push (λ (q r : Stamped). q.0 < r.0) calls (stamp, e) given.rise (All-weaker (λ (r : Stamped). StandsAt r.0 r.1 old.knows.seen) (λ (r : Stamped). r.0 < stamp) (λ r at. let below = stands_below r.0 r.1 old.knows.seen at in let later = now.later in omega (arith, below, later)) calls given.stand);
    }

pub given_kept : (calls : List Stamped) (old new : PassValue) → HasGiven calls old.knows → Refused old new → HasGiven calls new.knows
given_kept calls old new given now = record {
  own = ap (λ (t : PassValue). entries_of t.knows) now.pass ∙ given.own;
  stand = stand_on calls old.knows.seen new.knows.seen (now.others, sym (ap (λ (t : PassValue). t.knows.seen) now.pass)) given.stand;
  rise = given.rise;
}

-- ---- joining

contains_left : {A : Type 0} (xs ys : List A) (a : A) → Contains xs a → Contains (xs ++ ys) a
contains_left xs ys a here = (here.0, (let lt = here.1 in let len = length-append xs ys in omega (arith, lt, len)), get_or_append_left xs ys a here.0 here.1 ∙ here.2)

contains_right : {A : Type 0} (xs ys : List A) (a : A) → Contains ys a → Contains (xs ++ ys) a
contains_right xs ys a here = (length xs + here.0, (let lt = here.1 in let len = length-append xs ys in omega (arith, lt, len)), get_or-append-add xs ys here.0 a ∙ here.2)

all_left : {A : Type 0} (P : A → Type 0) (xs ys : List A) → All P (xs ++ ys) → All P xs
all_left P [] ys all = All-nil P
all_left P (x ∷ xs) ys all = All-cons P x xs (All-head P x (xs ++ ys) all) (all_left P xs ys (All-tail P x (xs ++ ys) all))

all_right : {A : Type 0} (P : A → Type 0) (xs ys : List A) → All P (xs ++ ys) → All P ys
all_right P [] ys all = all
all_right P (x ∷ xs) ys all = all_right P xs ys (All-tail P x (xs ++ ys) all)

pub keeps_itself : (v : Knows) → Keeps v v
keeps_itself v = record { seen = λ h p all. p; olds = λ k d lt h p all. all k d lt; own = All-contains_itself v.own }

module _ (v w : Knows) (h : List Entry) (all : All (λ (t : List Entry). IsPrefix t h) (v.seen ∷ w.seen ∷ v.olds ++ w.olds)) where
  abbrev P : List Entry → Type 0
  P t = IsPrefix t h

  rest : All P (v.olds ++ w.olds)
  rest = All-tail P w.seen (v.olds ++ w.olds) (All-tail P v.seen (w.seen ∷ v.olds ++ w.olds) all)

  first_seen : P v.seen
  first_seen = All-head P v.seen (w.seen ∷ v.olds ++ w.olds) all

  second_seen : P w.seen
  second_seen = All-head P w.seen (v.olds ++ w.olds) (All-tail P v.seen (w.seen ∷ v.olds ++ w.olds) all)

  first_olds : All P v.olds
  first_olds = all_left P v.olds w.olds rest

  second_olds : All P w.olds
  second_olds = all_right P v.olds w.olds rest

pub keeps_first : (v w : Knows) → Keeps (joined v w) v
keeps_first v w = record {
  seen = λ h p all. first_seen v w h all;
  olds = λ i d lt h p all. first_olds v w h all i d lt;
  own = All-weaker (Contains v.own) (Contains (v.own ++ w.own)) (λ (o : Own) here. contains_left v.own w.own o here) v.own (All-contains_itself v.own);
}

pub keeps_second : (v w : Knows) → Keeps (joined v w) w
keeps_second v w = record {
  seen = λ h p all. second_seen v w h all;
  olds = λ i d lt h p all. second_olds v w h all i d lt;
  own = All-weaker (Contains w.own) (Contains (v.own ++ w.own)) (λ (o : Own) here. contains_right v.own w.own o here) w.own (All-contains_itself w.own);
}

pub keeps_on : (t u v : Knows) → Keeps t u → Keeps u v → Keeps t v
keeps_on t u v first second = record {
  seen = λ h p all. second.seen h (first.seen h p all) (λ i d lt. first.olds i d lt h p all);
  olds = λ k e few h p all. second.olds k e few h (first.seen h p all) (λ i d lt. first.olds i d lt h p all);
  own = All-weaker (Contains u.own) (Contains t.own) (λ (o : Own) here. subst (Contains t.own) here.2 (first.own here.0 o here.1)) v.own second.own;
}

-- ---- the end

pub own_at_close : (calls : List Stamped) (u v : Knows) (w : State) (h : Heads) → HasCaller v.own h → HasGiven calls v → Keeps u v → Follows u w → of (Client (caller_of v)) w.history ≡ map (λ (r : Stamped). r.1) calls
own_at_close calls u v w h caller given keeps follows =
    let o : Own = own_of (Client (caller_of v)) (entries_of v) in
    let here : Contains u.own o = All-head (Contains u.own) o [] (subst (All (Contains u.own)) (own_is v.own h caller) keeps.own) in
    let P : Own → Type 0 = λ p. of p.actor w.history ≡ p.entries in
    let there : P o = subst P here.2 (follows.own here.0 o here.1) in
    there ∙ given.own

pub stand_at_close : (calls : List Stamped) (u v : Knows) (w : State) → HasGiven calls v → Keeps u v → Follows u w → All (λ r. StandsAt r.0 r.1 w.history) calls
stand_at_close calls u v w given keeps follows = stand_on calls v.seen w.history (keeps.seen w.history follows.seen follows.olds) given.stand
