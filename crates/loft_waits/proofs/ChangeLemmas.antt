-- Whom an event, an end and a close can change.
use Rattle.std.proofs.Common.{◌≡◌, ℕ, zero, suc, ◌+◌, ◌<◌, ◌≤◌, ◌==◌, Bool, true, false, List, [], ◌∷◌, ◌++◌, map, set, refl, sym, ◌∙◌, ap, subst, arith, Option, Some, None, option_map, eq-eqb, ne_eqb, length, get_or, get_or-set_same, get_or-set_other}
use Rattle.std.proofs.Common.{◌⊎◌, inl, inr}
use Rattle.std.specs.Prelude.{◌≢◌, ◌||◌, ◌&&◌, ℤ, pos, negsuc, nat_lt, is_some, unwrap_or, cond}
use Rattle.std.specs.List.{list_any}
use Rattle.std.proofs.lemmas.Bool.{ltb-true, ltb-false}
use mathlib.Core.Logic.{dite}
use native.Mathlib.Decide.{ℕ_discrete}
use Rattle.loft_waits.specs.declared.places.Places.{Places}
use Rattle.loft_base.specs.declared.ids.EventId.{EventId}
use Rattle.loft_base.specs.declared.ids.ThreadId.{ThreadId}
use Rattle.loft_orders.specs.declared.thread.Wait.{Wait}
use Rattle.loft_orders.specs.declared.thread.Wait.TheVariants.{New, Coop, Events, Index, Next, Join, Halt}
use Rattle.loft_sense.specs.CanGo.{is_any_counted, ran_out, is_index, is_known, same_thread}
use Rattle.loft_sense.specs.Instant.{lowered, closed_wait}
use Rattle.loft_waits.specs.declared.key.Key.TheVariants.{Close}
use Rattle.loft_waits.specs.Told.{Counts, count_in, no_counts, is_ready}
use Rattle.loft_waits.specs.Places.{names_event, names_value, names_thread, number_of, ends_in, is_listed, IsListed}
use Rattle.loft_ended.proofs.KeyLemmas.{known_more}

-- ---- an event

-- a number that one count has and the other hasn't
pub data NewValue (had count n : ℕ) : Type 0 where
  more : had ≤ n → n < count → NewValue had count n
  fewer : count ≤ n → n < had → NewValue had count n

-- what has to hold of a wait where telling that event e has so many values can change whether it is over
abbrev pub EventChange : Counts → ℕ → ℕ → Option Wait → Type 0
EventChange counts e count w = ((get_or counts e None ≡ None) × (names_event e w ≡ true)) ⊎ ((n : ℕ) × (names_value e n w ≡ true) × NewValue (unwrap_or (get_or counts e None) 0) count n)

count_apart : (counts : Counts) (e : ℕ) (o : Option ℕ) (x : EventId) → x.0 ≢ e → count_in (set counts e o) x ≡ count_in counts x
count_apart counts e o x apart = get_or-set_other counts e x.0 o None apart

count_same : (counts : Counts) (e : ℕ) (o : Option ℕ) (x : EventId) → e < length counts → x.0 ≡ e → count_in (set counts e o) x ≡ o
count_same counts e o x lt same = ap (λ (k : ℕ). get_or (set counts e o) k None) same ∙ get_or-set_same counts e o None lt

or_false : (a b : Bool) → (a || b) ≡ false → a ≡ false
or_false true b h = h
or_false false b h = refl

or_right : (a b : Bool) → (a || b) ≡ false → b ≡ false
or_right true b h = absurd cc
or_right false b h = h

any_apart : (counts : Counts) (e : ℕ) (o : Option ℕ) (es : List EventId) → list_any (λ x. e == x.0) es ≡ false → is_any_counted es (count_in (set counts e o)) ≡ is_any_counted es (count_in counts)
any_apart counts e o [] h = refl
any_apart counts e o (x ∷ es) h =
    ap (λ (c : Option ℕ). is_some c || is_any_counted es (count_in (set counts e o)))
    (count_apart counts e o x (λ same. refuse (e == x.0) (eq-eqb e x.0 (sym same)) (or_false (e == x.0) (list_any (λ x. e == x.0) es) h)))
    ∙ ap (λ (b : Bool). is_some (count_in counts x) || b) (any_apart counts e o es (or_right (e == x.0) (list_any (λ x. e == x.0) es) h))
  where
    refuse : (b : Bool) → b ≡ true → b ≡ false → ⊥
    refuse true t f = cc
    refuse false t f = cc

some_same : (counts : Counts) (e c d : ℕ) (x : EventId) → e < length counts → get_or counts e None ≡ Some d → is_some (count_in (set counts e (Some c)) x) ≡ is_some (count_in counts x)
some_same counts e c d x lt was =
    dite (ℕ_discrete x.0 e)
    (λ same. ap is_some (count_same counts e (Some c) x lt same) ∙ sym (ap is_some (ap (λ (k : ℕ). get_or counts k None) same ∙ was)))
    (λ apart. ap is_some (count_apart counts e (Some c) x apart))

any_present : (counts : Counts) (e c d : ℕ) (es : List EventId) → e < length counts → get_or counts e None ≡ Some d → is_any_counted es (count_in (set counts e (Some c))) ≡ is_any_counted es (count_in counts)
any_present counts e c d [] lt was = refl
any_present counts e c d (x ∷ es) lt was =
    ap (λ (b : Bool). b || is_any_counted es (count_in (set counts e (Some c)))) (some_same counts e c d x lt was)
    ∙ ap (λ (b : Bool). is_some (count_in counts x) || b) (any_present counts e c d es lt was)

events_change : (counts : Counts) (e c : ℕ) (es : List EventId) (named : Bool) (was : Option ℕ) → e < length counts → get_or counts e None ≡ was → list_any (λ x. e == x.0) es ≡ named
    → (is_any_counted es (count_in (set counts e (Some c))) ≡ is_any_counted es (count_in counts)) ⊎ ((get_or counts e None ≡ None) × (list_any (λ x. e == x.0) es ≡ true))
events_change counts e c es named (Some d) lt was h = inl (any_present counts e c d es lt was)
events_change counts e c es true None lt was h = inr (was, h)
events_change counts e c es false None lt was h = inl (any_apart counts e (Some c) es h)

index_change : (had count n : ℕ) (a b : Bool) → nat_lt n count ≡ a → nat_lt n had ≡ b → (nat_lt n count ≡ nat_lt n had) ⊎ NewValue had count n
index_change had count n true true h k = inl (h ∙ sym k)
index_change had count n false false h k = inl (h ∙ sym k)
index_change had count n true false h k = inr (more (ltb-false n had k) (ltb-true n count h))
index_change had count n false true h k = inr (fewer (ltb-false n count h) (ltb-true n had k))

named_value : (e n : ℕ) (x : EventId) → x.0 ≡ e → (e == x.0 && n == n) ≡ true
named_value e n x same = ap (λ (b : Bool). b && n == n) (eq-eqb e x.0 (sym same)) ∙ eq-eqb n n refl

value_change : (counts : Counts) (e c : ℕ) (x : EventId) (at : ℤ) → e < length counts → x.0 ≡ e
    → (is_index at (unwrap_or (count_in (set counts e (Some c)) x) 0) ≡ is_index at (unwrap_or (count_in counts x) 0)) ⊎ ((n : ℕ) × (names_value e n (Some (Index x at)) ≡ true) × NewValue (unwrap_or (get_or counts e None) 0) c n)
value_change counts e c x (negsuc n) lt same = inl refl
value_change counts e c x (pos n) lt same =
    let had : ℕ = unwrap_or (get_or counts e None) 0 in
    let now : count_in (set counts e (Some c)) x ≡ Some c = count_same counts e (Some c) x lt same in
    let was : unwrap_or (count_in counts x) 0 ≡ had = ap (λ (k : ℕ). unwrap_or (get_or counts k None) 0) same in
    split (index_change had c n (nat_lt n c) (nat_lt n had) refl refl) now was
  where
    split : (nat_lt n c ≡ nat_lt n (unwrap_or (get_or counts e None) 0)) ⊎ NewValue (unwrap_or (get_or counts e None) 0) c n → count_in (set counts e (Some c)) x ≡ Some c → unwrap_or (count_in counts x) 0 ≡ unwrap_or (get_or counts e None) 0
        → (is_index (pos n) (unwrap_or (count_in (set counts e (Some c)) x) 0) ≡ is_index (pos n) (unwrap_or (count_in counts x) 0)) ⊎ ((m : ℕ) × (names_value e m (Some (Index x (pos n))) ≡ true) × NewValue (unwrap_or (get_or counts e None) 0) c m)
    split (inl h) now was = inl (ap (λ (o : Option ℕ). nat_lt n (unwrap_or o 0)) now ∙ h ∙ sym (ap (nat_lt n) was))
    split (inr h) now was = inr (n, named_value e n x same, h)

-- an event is told
pub event_changes : (counts : Counts) (ended : List ThreadId) (e c : ℕ) (w : Option Wait) → e < length counts → (is_ready (set counts e (Some c)) ended w ≡ is_ready counts ended w) ⊎ EventChange counts e c w
event_changes counts ended e c None lt = inl refl
event_changes counts ended e c (Some New) lt = inl refl
event_changes counts ended e c (Some (Coop left)) lt = inl refl
event_changes counts ended e c (Some (Events es left)) lt = split (events_change counts e c es (list_any (λ x. e == x.0) es) (get_or counts e None) lt refl refl)
  where
    split : (is_any_counted es (count_in (set counts e (Some c))) ≡ is_any_counted es (count_in counts)) ⊎ ((get_or counts e None ≡ None) × (list_any (λ x. e == x.0) es ≡ true))
        → (is_ready (set counts e (Some c)) ended (Some (Events es left)) ≡ is_ready counts ended (Some (Events es left))) ⊎ EventChange counts e c (Some (Events es left))
    split (inl h) = inl (ap (λ (b : Bool). ran_out left || b) h)
    split (inr h) = inr (inl h)
event_changes counts ended e c (Some (Index x at)) lt =
    dite (ℕ_discrete x.0 e)
    (λ same. split (value_change counts e c x at lt same))
    (λ apart. inl (ap (λ (o : Option ℕ). is_index at (unwrap_or o 0)) (count_apart counts e (Some c) x apart)))
  where
    split : (is_index at (unwrap_or (count_in (set counts e (Some c)) x) 0) ≡ is_index at (unwrap_or (count_in counts x) 0)) ⊎ ((n : ℕ) × (names_value e n (Some (Index x at)) ≡ true) × NewValue (unwrap_or (get_or counts e None) 0) c n)
        → (is_ready (set counts e (Some c)) ended (Some (Index x at)) ≡ is_ready counts ended (Some (Index x at))) ⊎ EventChange counts e c (Some (Index x at))
    split (inl h) = inl h
    split (inr h) = inr (inr h)
event_changes counts ended e c (Some Next) lt = inl refl
event_changes counts ended e c (Some (Join thread left)) lt = inl refl
event_changes counts ended e c (Some Halt) lt = inl refl

-- ---- an end

join_change : (t x : ThreadId) (ended : List ThreadId) (out b : Bool) → same_thread t x ≡ b → ((out || is_known t (ended ++ x ∷ [])) ≡ (out || is_known t ended)) ⊎ (same_thread t x ≡ true)
join_change t x ended out true h = inr h
join_change t x ended out false h = inl (ap (λ (k : Bool). out || k) (known_more t x ended ∙ ap (λ (s : Bool). cond s true (is_known t ended)) h))

-- a thread has ended
pub end_changes : (counts : Counts) (ended : List ThreadId) (x : ThreadId) (w : Option Wait) → (is_ready counts (ended ++ x ∷ []) w ≡ is_ready counts ended w) ⊎ (names_thread x w ≡ true)
end_changes counts ended x None = inl refl
end_changes counts ended x (Some New) = inl refl
end_changes counts ended x (Some (Coop left)) = inl refl
end_changes counts ended x (Some (Events es left)) = inl refl
end_changes counts ended x (Some (Index e at)) = inl refl
end_changes counts ended x (Some Next) = inl refl
end_changes counts ended x (Some (Join thread left)) = join_change thread x ended (ran_out left) (same_thread thread x) refl
end_changes counts ended x (Some Halt) = inl refl

-- ---- a close

get_or_absent : (n i : ℕ) → get_or (no_counts n) i None ≡ None
get_or_absent zero i = refl
get_or_absent (suc n) zero = refl
get_or_absent (suc n) (suc i) = get_or_absent n i

none_present : (n : ℕ) (es : List EventId) → is_any_counted es (count_in (no_counts n)) ≡ false
none_present n [] = refl
none_present n (x ∷ es) = ap (λ (o : Option ℕ). is_some o || is_any_counted es (count_in (no_counts n))) (get_or_absent n x.0) ∙ none_present n es

number_change : (left : Option ℤ) → ran_out left ≡ false → (ran_out (option_map lowered left) ≡ false) ⊎ (number_of left ≡ Some 1)
number_change None h = inl refl
number_change (Some (pos zero)) h = absurd (refuse (0 == 0) (eq-eqb 0 0 refl) h)
  where
    refuse : (b : Bool) → b ≡ true → b ≡ false → ⊥
    refuse true t f = cc
    refuse false t f = cc
number_change (Some (pos (suc zero))) h = inr refl
number_change (Some (pos (suc (suc n)))) h = inl (ne_eqb (suc n) 0 (λ e. absurd (omega (arith, e))))
number_change (Some (negsuc n)) h = inl refl

with_rest : (left : Option ℤ) (now : Bool) → now ≡ false → (ran_out (option_map lowered left) ≡ false) ⊎ (number_of left ≡ Some 1) → ((ran_out (option_map lowered left) || now) ≡ false) ⊎ (number_of left ≡ Some 1)
with_rest left now none (inl h) = inl (ap (λ (b : Bool). b || now) h ∙ none)
with_rest left now none (inr h) = inr h

-- the instant closes where a thread can't go
pub close_changes : (counts : Counts) (n : ℕ) (ended : List ThreadId) (w : Option Wait) → is_ready counts ended w ≡ false → (is_ready (no_counts n) ended (option_map closed_wait w) ≡ false) ⊎ (ends_in w ≡ Some 1)
close_changes counts n ended None h = inl refl
close_changes counts n ended (Some New) h = absurd cc
close_changes counts n ended (Some (Coop left)) h = number_change (Some left) h
close_changes counts n ended (Some (Events es left)) h = with_rest left (is_any_counted es (count_in (no_counts n))) (none_present n es) (number_change left (or_false (ran_out left) (is_any_counted es (count_in counts)) h))
close_changes counts n ended (Some (Index x at)) h = inr refl
close_changes counts n ended (Some Next) h = absurd cc
close_changes counts n ended (Some (Join thread left)) h = with_rest left (is_known thread ended) (or_right (ran_out left) (is_known thread ended) h) (number_change left (or_false (ran_out left) (is_known thread ended) h))
close_changes counts n ended (Some Halt) h = inl refl

pub closed_at : (ws : List (Option Wait)) (i : ℕ) → get_or (map (option_map closed_wait) ws) i None ≡ option_map closed_wait (get_or ws i None)
closed_at [] i = refl
closed_at (w ∷ ws) zero = refl
closed_at (w ∷ ws) (suc i) = closed_at ws i

closed_events : (e : ℕ) (w : Option Wait) → names_event e (option_map closed_wait w) ≡ names_event e w
closed_events e None = refl
closed_events e (Some New) = refl
closed_events e (Some (Coop left)) = refl
closed_events e (Some (Events es left)) = refl
closed_events e (Some (Index x at)) = refl
closed_events e (Some Next) = refl
closed_events e (Some (Join thread left)) = refl
closed_events e (Some Halt) = refl

closed_values : (e n : ℕ) (w : Option Wait) → names_value e n (option_map closed_wait w) ≡ false
closed_values e n None = refl
closed_values e n (Some New) = refl
closed_values e n (Some (Coop left)) = refl
closed_values e n (Some (Events es left)) = refl
closed_values e n (Some (Index x at)) = refl
closed_values e n (Some Next) = refl
closed_values e n (Some (Join thread left)) = refl
closed_values e n (Some Halt) = refl

closed_ends : (t : ThreadId) (w : Option Wait) → names_thread t (option_map closed_wait w) ≡ names_thread t w
closed_ends t None = refl
closed_ends t (Some New) = refl
closed_ends t (Some (Coop left)) = refl
closed_ends t (Some (Events es left)) = refl
closed_ends t (Some (Index x at)) = refl
closed_ends t (Some Next) = refl
closed_ends t (Some (Join thread left)) = refl
closed_ends t (Some Halt) = refl

one_later : (left : Option ℤ) (n : ℕ) → number_of (option_map lowered left) ≡ Some (suc n) → number_of left ≡ Some (suc (suc n))
one_later None n h = absurd cc
one_later (Some (pos zero)) n h = absurd cc
one_later (Some (pos (suc m))) n h = ap (option_map (λ (k : ℕ). suc k)) h
one_later (Some (negsuc m)) n h = absurd cc

closed_later : (n : ℕ) (w : Option Wait) → ends_in (option_map closed_wait w) ≡ Some (suc n) → ends_in w ≡ Some (suc (suc n))
closed_later n None h = absurd cc
closed_later n (Some New) h = absurd cc
closed_later n (Some (Coop left)) h = one_later (Some left) n h
closed_later n (Some (Events es left)) h = one_later left n h
closed_later n (Some (Index x at)) h = absurd cc
closed_later n (Some Next) h = absurd cc
closed_later n (Some (Join thread left)) h = one_later left n h
closed_later n (Some Halt) h = absurd cc

-- who is listed is listed after the close
pub closed_listed : (places : Places) (clock i : ℕ) (w : Option Wait) → IsListed places clock i w → IsListed places (clock + 1) i (option_map closed_wait w)
closed_listed places clock i w s = record {
  events = λ e h. s.events e (sym (closed_events e w) ∙ h);
  values = λ e n h. absurd (refuse (names_value e n (option_map closed_wait w)) h (closed_values e n w));
  ends = λ t h. s.ends t (sym (closed_ends t w) ∙ h);
  later = λ n h.
      subst (λ (m : ℕ). is_listed places (Close m) i ≡ true) (let e : clock + suc (suc n) ≡ clock + 1 + suc n = omega arith in e) (s.later (suc n) (closed_later n w h));
}
  where
    refuse : (b : Bool) → b ≡ true → b ≡ false → ⊥
    refuse true t f = cc
    refuse false t f = cc
