-- What each call of the waits keeps.
use Rattle.std.proofs.Common.{take, ◌≡◌, ℕ, suc, ◌+◌, ◌<◌, ◌≤◌, ◌==◌, Bool, true, false, List, [], ◌∷◌, ◌++◌, map, set, refl, sym, ◌∙◌, ap, subst, arith, Option, Some, None, option_map, length, get_or, get_or-set_same, ◌⊎◌, inl, inr}
use Rattle.std.specs.Prelude.{◌≢◌, nat_lt, unwrap_or, MatchOption}
use Rattle.std.proofs.lemmas.Bool.{ltb-true, ltb-false}
use Rattle.std.proofs.lemmas.List.{length-map, length-take, get_or-take}
use Rattle.loft_waits.specs.declared.places.Places.{Places}
use Rattle.loft_base.specs.declared.ids.ThreadId.{ThreadId}
use Rattle.loft_orders.specs.declared.thread.Wait.{Wait}
use Rattle.loft_sense.specs.Instant.{closed_wait}
use Rattle.loft_waits.specs.declared.key.Key.TheVariants.{Event, Value, End, Close}
use Rattle.loft_waits.specs.Told.{Told, wait_at, is_ready, ready_at, closed, no_counts, NobodyIn, NobodyFrom}
use Rattle.loft_finder.specs.Keys.{id_key}
use Rattle.loft_waits.specs.Places.{IsListed, IsKept, KeepsOthers, SetsSome, SetsPlaced, SetsListed, KeepsBut, flag, names_thread, ends_in}
use Rattle.loft_waits.specs.Flags.{is_set}
use Rattle.loft_waits.proofs.FlagLemmas.{refuse}
use Rattle.loft_waits.proofs.KeptLemmas.{beyond, ready_beyond, listed_none, kept_set, kept_woken}
use Rattle.loft_waits.proofs.ChangeLemmas.{NewValue, EventChange, event_changes, end_changes, close_changes, closed_at, closed_listed}

-- a position has a wait
pub kept_put : (t u : Told) (ready : List ℕ) (old new : Places) (p : ℕ) (w : Option Wait) (byte : ℕ) → IsKept t ready old → p < length t.waits → KeepsOthers p old new → IsListed new t.closes p w → u ≡ record t { waits = set t.waits p w } → byte ≡ flag (ready_at u p)
    → IsKept u (set ready p byte) new
kept_put t u ready old new p w byte k lt keeps listed is here =
    let v : Told = record t { waits = set t.waits p w } in
    let at : ready_at v p ≡ is_ready t.counts t.ended w = ap (is_ready t.counts t.ended) (get_or-set_same t.waits p w None lt) in
    let byte_is : byte ≡ flag (is_ready t.counts t.ended w) = here ∙ ap (λ (x : Told). flag (ready_at x p)) is ∙ ap flag at in
    subst (λ (x : Told). IsKept x (set ready p byte) new) (sym is)
    (subst (λ (b : ℕ). IsKept v (set ready p b) new) (sym byte_is) (kept_set t ready old new p w k lt keeps listed))

-- nobody waits at a position
pub kept_take : (t u : Told) (ready : List ℕ) (old new : Places) (p : ℕ) → IsKept t ready old → p < length t.waits → KeepsOthers p old new → u ≡ record t { waits = set t.waits p None } → IsKept u (set ready p 0) new
kept_take t u ready old new p k lt keeps is =
    subst (λ (x : Told). IsKept x (set ready p 0) new) (sym is) (kept_set t ready old new p None k lt keeps (listed_none new t.closes p))

take_free : (ws : List (Option Wait)) (n i : ℕ) → ((j : ℕ) → n ≤ j → get_or ws j None ≡ None) → get_or (take n ws) i None ≡ get_or ws i None
take_free ws n i free = one (nat_lt i n) refl
  where
    one : (b : Bool) → nat_lt i n ≡ b → get_or (take n ws) i None ≡ get_or ws i None
    one true lt = get_or-take n ws i None (ltb-true i n lt)
    one false ge =
        let far : n ≤ i = ltb-false i n ge in
        let many = length-take n ws in
        beyond (take n ws) None i (omega (arith, far, many)) ∙ sym (free i far)

-- positions where nobody waits are taken away, with their flags
pub kept_less : (t u : Told) (ready left : List ℕ) (places : Places) (n : ℕ) → IsKept t ready places → ((i : ℕ) → n ≤ i → wait_at t i ≡ None) → u ≡ record t { waits = take n t.waits } → left ≡ take n ready → IsKept u left places
kept_less t u ready left places n k free is short =
    subst (λ (x : Told). IsKept x left places) (sym is)
    (subst (λ (l : List ℕ). IsKept (record t { waits = take n t.waits }) l places) (sym short)
    (record {
      few = k.few;
      many = let m = k.many in let a = length-take n t.waits in let b = length-take n ready in omega (arith, m, a, b);
      flags = λ i. flag_at i (nat_lt i n) refl;
      listed = λ i. subst (IsListed places t.closes i) (sym (take_free t.waits n i free)) (k.listed i);
    }))
  where
    is_flag : Option Wait → ℕ
    is_flag v = flag (is_ready t.counts t.ended v)

    flag_at : (i : ℕ) (b : Bool) → nat_lt i n ≡ b → get_or (take n ready) i 0 ≡ is_flag (get_or (take n t.waits) i None)
    flag_at i true lt = get_or-take n ready i 0 (ltb-true i n lt) ∙ k.flags i ∙ sym (ap is_flag (take_free t.waits n i free))
    flag_at i false ge =
        let far : n ≤ i = ltb-false i n ge in
        let many = length-take n ready in
        beyond (take n ready) 0 i (omega (arith, far, many)) ∙ sym (ap is_flag (take_free t.waits n i free ∙ free i far))

-- ---- an event

event_at : (t : Told) (new : List ℕ) (places : Places) (e c i : ℕ) → let u : Told = record t { counts = set t.counts e (Some c) } in IsListed places t.closes i (wait_at t i) → i < length t.waits
    → (get_or t.counts e None ≡ None → SetsPlaced u places.set (Event e) new) → ((n : ℕ) → unwrap_or (get_or t.counts e None) 0 ≤ n → n < c → SetsPlaced u places.set (Value e n) new) → ((n : ℕ) → c ≤ n → n < unwrap_or (get_or t.counts e None) 0 → SetsPlaced u places.set (Value e n) new)
    → (ready_at u i ≡ ready_at t i) ⊎ EventChange t.counts e c (wait_at t i) → (ready_at u i ≡ ready_at t i) ⊎ (get_or new i 0 ≡ flag (ready_at u i))
event_at t new places e c i s lt event more fewer (inl same) = inl same
event_at t new places e c i s lt event more fewer (inr (inl h)) = inr (event h.0 i lt (s.events e h.1))
event_at t new places e c i s lt event more fewer (inr (inr (n, named, NewValue.more a b))) = inr (more n a b i lt (s.values e n named))
event_at t new places e c i s lt event more fewer (inr (inr (n, named, NewValue.fewer a b))) = inr (fewer n a b i lt (s.values e n named))

pub kept_event : (t u : Told) (ready new : List ℕ) (places : Places) (e c : ℕ) (was : Option ℕ) → IsKept t ready places → e < length t.counts → was ≡ get_or t.counts e None → u ≡ record t { counts = set t.counts e (Some c) } → length new ≡ length ready
    → SetsSome u ready new → (was ≡ None → SetsPlaced u places.set (Event e) new) → ((n : ℕ) → unwrap_or was 0 ≤ n → n < c → SetsPlaced u places.set (Value e n) new) → ((n : ℕ) → c ≤ n → n < unwrap_or was 0 → SetsPlaced u places.set (Value e n) new)
    → IsKept u new places
kept_event t u ready new places e c was k lt had is many =
    subst (λ (x : Told). SetsSome x ready new → (was ≡ None → SetsPlaced x places.set (Event e) new) → ((n : ℕ) → unwrap_or was 0 ≤ n → n < c → SetsPlaced x places.set (Value e n) new) → ((n : ℕ) → c ≤ n → n < unwrap_or was 0 → SetsPlaced x places.set (Value e n) new) → IsKept x new places) (sym is)
    (subst (λ (o : Option ℕ). SetsSome v ready new → (o ≡ None → SetsPlaced v places.set (Event e) new) → ((n : ℕ) → unwrap_or o 0 ≤ n → n < c → SetsPlaced v places.set (Value e n) new) → ((n : ℕ) → c ≤ n → n < unwrap_or o 0 → SetsPlaced v places.set (Value e n) new) → IsKept v new places) (sym had)
    (λ some event more fewer. kept_woken t v ready new places places k refl k.few many some (λ i. at some event more fewer i (nat_lt i (length t.waits)) refl) k.listed))
  where
    v : Told
    v = record t { counts = set t.counts e (Some c) }

    at : SetsSome v ready new → (get_or t.counts e None ≡ None → SetsPlaced v places.set (Event e) new) → ((n : ℕ) → unwrap_or (get_or t.counts e None) 0 ≤ n → n < c → SetsPlaced v places.set (Value e n) new) → ((n : ℕ) → c ≤ n → n < unwrap_or (get_or t.counts e None) 0 → SetsPlaced v places.set (Value e n) new)
        → (i : ℕ) (within : Bool) → nat_lt i (length t.waits) ≡ within → (ready_at v i ≡ ready_at t i) ⊎ (get_or new i 0 ≡ flag (ready_at v i))
    at some event more fewer i true is = event_at t new places e c i (k.listed i) (ltb-true i (length t.waits) is) event more fewer (event_changes t.counts t.ended e c (wait_at t i) lt)
    at some event more fewer i false is = inl (ready_beyond v i (ltb-false i (length t.waits) is) ∙ sym (ready_beyond t i (ltb-false i (length t.waits) is)))

-- ---- an end

pub kept_end : (t u : Told) (ready new : List ℕ) (places : Places) (x : ThreadId) → IsKept t ready places → u ≡ record t { ended = t.ended ++ x ∷ [] } → length new ≡ length ready → SetsSome u ready new → SetsPlaced u places.set (End (id_key x)) new → IsKept u new places
kept_end t u ready new places x k is many =
    subst (λ (y : Told). SetsSome y ready new → SetsPlaced y places.set (End (id_key x)) new → IsKept y new places) (sym is)
    (λ some listed. kept_woken t v ready new places places k refl k.few many some (λ i. at listed i (nat_lt i (length t.waits)) refl) k.listed)
  where
    v : Told
    v = record t { ended = t.ended ++ x ∷ [] }

    one : SetsPlaced v places.set (End (id_key x)) new → (i : ℕ) → i < length t.waits → (ready_at v i ≡ ready_at t i) ⊎ (names_thread x (wait_at t i) ≡ true) → (ready_at v i ≡ ready_at t i) ⊎ (get_or new i 0 ≡ flag (ready_at v i))
    one listed i lt (inl same) = inl same
    one listed i lt (inr named) = inr (listed i lt ((k.listed i).ends x named))

    at : SetsPlaced v places.set (End (id_key x)) new → (i : ℕ) (within : Bool) → nat_lt i (length t.waits) ≡ within → (ready_at v i ≡ ready_at t i) ⊎ (get_or new i 0 ≡ flag (ready_at v i))
    at listed i true is = one listed i (ltb-true i (length t.waits) is) (end_changes t.counts t.ended x (wait_at t i))
    at listed i false is = inl (ready_beyond v i (ltb-false i (length t.waits) is) ∙ sym (ready_beyond t i (ltb-false i (length t.waits) is)))

-- ---- a close

close_later : (n m : ℕ) → Close (n + suc m) ≢ Close n
close_later n m same = let e : n + suc m ≡ n = cc same in absurd (omega (arith, e))

-- nobody has to be listed under a close that has come
forgotten : (places after : Places) (clock i : ℕ) (w : Option Wait) → KeepsBut (Close clock) places after → IsListed places clock i w → IsListed after clock i w
forgotten places after clock i w keeps s = record {
  events = λ e h. keeps (Event e) i (λ same. cc same) (s.events e h);
  values = λ e n h. keeps (Value e n) i (λ same. cc same) (s.values e n h);
  ends = λ t h. keeps (End (id_key t)) i (λ same. cc same) (s.ends t h);
  later = λ n h. keeps (Close (clock + suc n)) i (close_later clock n) (s.later n h);
}

pub kept_close : (t u : Told) (ready new : List ℕ) (places after : Places) → IsKept t ready places → t.closes + 1 < 9223372036854775808 → NobodyFrom t 0 → u ≡ closed t → length new ≡ length ready → SetsSome u ready new → SetsListed u places (Close (t.closes + 1)) new
    → KeepsBut (Close (t.closes + 1)) places after → IsKept u new after
kept_close t u ready new places after k few nobody is many =
    subst (λ (y : Told). SetsSome y ready new → SetsListed y places (Close (t.closes + 1)) new → KeepsBut (Close (t.closes + 1)) places after → IsKept y new after) (sym is)
    (λ some listed keeps.
    kept_woken t (closed t) ready new places after k (length-map t.waits (option_map closed_wait)) few many some (λ i. at listed i (nat_lt i (length t.waits)) refl)
    (λ i. forgotten places after (t.closes + 1) i (wait_at (closed t) i) keeps (subst (IsListed places (t.closes + 1) i) (sym (closed_at t.waits i)) (closed_listed places t.closes i (wait_at t i) (k.listed i)))))
  where
    same_many : length (map (option_map closed_wait) t.waits) ≡ length t.waits
    same_many = length-map t.waits (option_map closed_wait)

    one : SetsListed (closed t) places (Close (t.closes + 1)) new → (i : ℕ) → i < length t.waits → (is_ready (no_counts (length t.counts)) t.ended (option_map closed_wait (wait_at t i)) ≡ false) ⊎ (ends_in (wait_at t i) ≡ Some 1)
        → (ready_at (closed t) i ≡ ready_at t i) ⊎ (get_or new i 0 ≡ flag (ready_at (closed t) i))
    one listed i lt (inl h) = inl (ap (is_ready (no_counts (length t.counts)) t.ended) (closed_at t.waits i) ∙ h ∙ sym (nobody i (omega arith)))
    one listed i lt (inr ends) = inr (listed i (subst (λ (n : ℕ). i < n) (sym same_many) lt) ((k.listed i).later 0 ends))

    at : SetsListed (closed t) places (Close (t.closes + 1)) new → (i : ℕ) (within : Bool) → nat_lt i (length t.waits) ≡ within → (ready_at (closed t) i ≡ ready_at t i) ⊎ (get_or new i 0 ≡ flag (ready_at (closed t) i))
    at listed i true is = one listed i (ltb-true i (length t.waits) is) (close_changes t.counts (length t.counts) t.ended (wait_at t i) (nobody i (omega arith)))
    at listed i false is =
        let far : length t.waits ≤ i = ltb-false i (length t.waits) is in
        inl (ready_beyond (closed t) i (let e = same_many in omega (arith, e, far)) ∙ sym (ready_beyond t i far))

-- ---- the next one

byte_is : (t : Told) (ready : List ℕ) (places : Places) → IsKept t ready places → (i : ℕ) → (get_or ready i 0 == 1) ≡ ready_at t i
byte_is t ready places k i = ap (λ (n : ℕ). n == 1) (k.flags i) ∙ one (ready_at t i)
  where
    one : (b : Bool) → (flag b == 1) ≡ b
    one true = refl
    one false = refl

-- the first flag that is set from there on is that of the first thread that can go
pub first_at : (t : Told) (ready : List ℕ) (places : Places) → IsKept t ready places → (from : ℕ) (r : Option ℕ)
    → MatchOption r ((i : ℕ) → from ≤ i → is_set ready i ≡ false) (λ q. (from ≤ q) × (q < length ready) × (is_set ready q ≡ true) × ((i : ℕ) → from ≤ i → i < q → is_set ready i ≡ false))
    → MatchOption r (NobodyFrom t from) (λ q. (from ≤ q) × (q < length t.waits) × (ready_at t q ≡ true) × NobodyIn t from q)
first_at t ready places k from None none = λ i le. sym (byte_is t ready places k i) ∙ none i le
first_at t ready places k from (Some q) first = (first.0, within (nat_lt q (length t.waits)) refl, can_go, λ i le lt. sym (byte_is t ready places k i) ∙ first.3 i le lt)
  where
    can_go : ready_at t q ≡ true
    can_go = sym (byte_is t ready places k q) ∙ first.2

    within : (b : Bool) → nat_lt q (length t.waits) ≡ b → q < length t.waits
    within true lt = ltb-true q (length t.waits) lt
    within false ge = absurd (refuse (ready_at t q) can_go (ready_beyond t q (ltb-false q (length t.waits) ge)))
