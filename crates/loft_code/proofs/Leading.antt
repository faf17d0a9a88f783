-- Valid code leads on: what its tests say of each operation.
use Rattle.std.proofs.Common.{◌≡◌, ◌==◌, ℕ, ◌+◌, ◌<◌, ◌≤◌, nat_lt, nat_le, ◌⊎◌, inl, inr, IsTrue, Bool, true, false, not, ◌&&◌, ◌||◌, List, [], ◌∷◌, length, Option, Some, None, slice_get, if◌then◌else◌, refl, sym, ap, subst, ◌∙◌, arith, zero, suc, take, cond, count_by, is_some}
use Rattle.std.proofs.lemmas.Option.{slice_get_within, slice_get_cases}
use Rattle.std.proofs.lemmas.Bool.{or_parts, eqb-true, eqb-false, ltb-true, leb-false, cases_lt}
use Rattle.std.proofs.lemmas.List.Sums.{sum_by-take-le}
use Rattle.loft_base.specs.declared.ids.SchedId.{SchedId}
use Rattle.loft_base.specs.declared.ids.ModuleId.{ModuleId}
use Rattle.loft_tree.specs.declared.heads.Place.{Place}
use Rattle.loft_tree.specs.declared.heads.Place.TheVariants.{Sched, Unlinked}
use Rattle.loft_tree.specs.declared.heads.Signature.{Signature}
use Rattle.loft_tree.specs.declared.heads.Heads.{Heads}
use Rattle.loft_tree.specs.NamedFits.{slots_of}
use Rattle.loft_tree.specs.Fits.{Each}
use Rattle.loft_code.specs.declared.ways.Way.{Way}
use Rattle.loft_code.specs.declared.error.CodeError.{CodeError}
use Rattle.loft_code.specs.Operations.{Operation, Do, Hold, Call, Branch, Enter, Count, Turn, Jump, End, Line, Automata, goes_on_at, is_last, is_end, is_turn, stop_of}
use Rattle.loft_code.specs.Names.{has_bad_name}
use Rattle.loft_code.specs.Places.{same_place, is_elsewhere, leads_elsewhere, place_left, has_bad_place}
use Rattle.loft_code.specs.Kinds.{has_bad_kind}
use Rattle.loft_code.specs.Valid.{is_stop, test_in, leads_out, jumps_out, has_bad_stop, is_wrong_stop, stops_before, has_depth, leads_off, has_bad_count, line_error, error_in, module_error, error_at, Valid}
use Rattle.loft_code.specs.Leads.{IsModule, IsReached, LeadsOn, BeginsWell, EndsWell, Passes}
use Rattle.loft_code.proofs.Checked.{few_stops, stops_next, some_from_test}

-- ---- an operation of valid code passes the six tests

not_this : (b : Bool) (e : CodeError) (o : Option CodeError) → (if b then Some e else o) ≡ None → (b ≡ false) × (o ≡ None)
not_this true e o none = absurd cc
not_this false e o none = (refl, none)

pub passes : (h : Heads) (m : ModuleId) (signature : Signature) (lines : List Line) (p : ℕ) (l : Line) → line_error h m signature lines p l ≡ None → Passes h signature lines p l
passes h m signature lines p l none =
    let jump = not_this (jumps_out lines p l.operation) _ _ none in
    let name = not_this (has_bad_name h (slots_of signature) l) _ _ jump.1 in
    let stop = not_this (has_bad_stop lines p l.operation) _ _ name.1 in
    let place = not_this (has_bad_place h signature lines p l) _ _ stop.1 in
    let count = not_this (has_bad_count lines p l) _ _ place.1 in
    let kind = not_this (has_bad_kind h (slots_of signature) l) _ _ count.1 in
    record { jump = jump.0; name = name.0; stop = stop.0; place = place.0; count = count.0; kind = kind.0 }

error_there : (c : Automata) (m : ModuleId) (signature : Signature) (lines : List Line) (p : ℕ) (l : Line) → IsModule c m signature lines → slice_get lines p ≡ Some l
    → line_error c.heads m signature lines p l ≡ error_at c m p
error_there c m signature lines p l is at =
    ap (error_in c.heads m signature lines p) (sym at)
    ∙ ap (λ (ls : Option (List Line)). module_error c.heads m (Some signature) ls p) (sym is.code)
    ∙ ap (λ (s : Option Signature). module_error c.heads m s (slice_get c.modules m.0) p) (sym is.declared)

pub valid_passes : (c : Automata) (m : ModuleId) (signature : Signature) (lines : List Line) (p : ℕ) (l : Line) → Valid c → IsModule c m signature lines → slice_get lines p ≡ Some l
    → Passes c.heads signature lines p l
valid_passes c m signature lines p l valid is at = passes c.heads m signature lines p l (error_there c m signature lines p l is at ∙ valid m p)

-- ---- it goes on at operations that are there

not_false : (b : Bool) → not b ≡ false → b ≡ true
not_false true is = refl
not_false false is = absurd cc

same_scheduler : (s t : SchedId) → (s.0 == t.0) ≡ true → Sched s ≡ Sched t
same_scheduler s t is = ap (λ k. Sched (record { 0 = k })) (eqb-true s.0 t.0 is)

same_is : (p q : Place) → same_place p q ≡ true → p ≡ q
same_is (Sched s) (Sched t) is = same_scheduler s t is
same_is (Sched s) Unlinked is = absurd cc
same_is Unlinked (Sched t) is = absurd cc
same_is Unlinked Unlinked is = refl

module _ (lines : List Line) where
  abbrev IsThere : Way → Type 0
  IsThere w = w.at < length lines

  reached : (there : Place) (w : Way) (l : Line) → slice_get lines w.at ≡ Some l → is_elsewhere there (Some l) ≡ false → not (has_depth w.depth (Some l)) ≡ false → IsReached lines there w
  reached there w l at place depth = record {
    next = l;
    at = at;
    place = sym (same_is there l.place (not_false _ place));
    depth = sym (eqb-true w.depth l.depth (not_false _ depth));
  }

  reaches : (there : Place) (w : Way) → IsThere w → is_elsewhere there (slice_get lines w.at) ≡ false → not (has_depth w.depth (slice_get lines w.at)) ≡ false → IsReached lines there w
  reaches there w lt place depth = elim (slice_get_cases lines w.at).1 [
    | inl found ↦ reached there w found.0 found.2
        (subst (λ (o : Option Line). is_elsewhere there o ≡ false) found.2 place)
        (subst (λ (o : Option Line). not (has_depth w.depth o) ≡ false) found.2 depth)
    | inr past ↦ absurd (omega (arith, lt, past.0))
  ]

  pub all_reached : (there : Place) (ws : List Way) → Each IsThere ws → leads_elsewhere lines there ws ≡ false → leads_off lines ws ≡ false → Each (IsReached lines there) ws
  all_reached there [] are places depths = tt
  all_reached there (w ∷ ws) are places depths =
      let place = or_parts _ _ places in
      let depth = or_parts _ _ depths in
      (reaches there w are.0 place.0 depth.0, all_reached there ws are.1 place.1 depth.1)

  -- the next operation is there, but after the last one
  next_there : (p : ℕ) → p < length lines → ((p + 1 == length lines) && true) ≡ false → p + 1 < length lines
  next_there p lt last = let differ : p + 1 ≡ length lines → ⊥ = eqb-false (p + 1) (length lines) (and_true _ last) in omega (arith, lt, differ)
    where
      and_true : (b : Bool) → (b && true) ≡ false → b ≡ false
      and_true true is = absurd cc
      and_true false is = refl

  target_there : (t : ℕ) (more : Bool) → (not (nat_lt t (length lines)) || more) ≡ false → t < length lines
  target_there t more out = ltb-true t (length lines) (not_false _ (or_parts _ _ out).0)

  -- an operation that isn't a last one goes on at the next
  goes_next : (o : Operation) (p : ℕ) → p < length lines → is_last o ≡ false → jumps_out lines p o ≡ false → p + 1 < length lines
  goes_next o p lt goes out =
      let last = (or_parts (leads_out lines p o) ((p + 1 == length lines) && not (is_last o)) out).1 in
      next_there p lt (subst (λ (b : Bool). ((p + 1 == length lines) && not b) ≡ false) goes last)

  leads_in : (o : Operation) (p : ℕ) → jumps_out lines p o ≡ false → leads_out lines p o ≡ false
  leads_in o p out = (or_parts (leads_out lines p o) ((p + 1 == length lines) && not (is_last o)) out).0

  ways_there : (o : Operation) (p d : ℕ) → p < length lines → jumps_out lines p o ≡ false → Each IsThere (goes_on_at o p d)
  ways_there (Do action) p d lt out = (goes_next (Do action) p lt refl out, tt)
  ways_there (Hold k pause) p d lt out = (goes_next (Hold k pause) p lt refl out, tt)
  ways_there (Call k m arguments) p d lt out = (goes_next (Call k m arguments) p lt refl out, tt)
  ways_there (Branch t test) p d lt out = (goes_next (Branch t test) p lt refl out, (target_there t _ (leads_in (Branch t test) p out), tt))
  ways_there Enter p d lt out = (goes_next Enter p lt refl out, tt)
  ways_there (Count e) p d lt out = (goes_next (Count e) p lt refl out, tt)
  ways_there (Turn t) p d lt out = (goes_next (Turn t) p lt refl out, (target_there t _ (leads_in (Turn t) p out), tt))
  ways_there (Jump t) p d lt out = (target_there t _ (leads_in (Jump t) p out), tt)
  ways_there End p d lt out = tt

pub leads_on : (h : Heads) (signature : Signature) (lines : List Line) (p : ℕ) (l : Line) → slice_get lines p ≡ Some l → Passes h signature lines p l → LeadsOn h lines p l
leads_on h signature lines p l at good =
    let places = or_parts _ _ good.place in
    let counts = or_parts _ _ (or_parts _ _ (or_parts _ _ good.count).0).0 in
    all_reached lines (place_left h l.place l.operation) (goes_on_at l.operation p l.depth)
    (ways_there lines l.operation p l.depth (slice_get_within lines p l at) good.jump) places.1 counts.1

-- ---- prefixes

take-take : (xs : List Line) (n m : ℕ) → n ≤ m → take n (take m xs) ≡ take n xs
take-take xs zero m le = refl
take-take xs (suc n) zero le = absurd (omega (arith, le))
take-take [] (suc n) (suc m) le = refl
take-take (x ∷ xs) (suc n) (suc m) le = ap (λ (ys : List Line). x ∷ ys) (take-take xs n m (omega (arith, le)))

-- ---- where modules begin and end

and_false : (b : Bool) → (true && b) ≡ false → b ≡ false
and_false b is = is

zero_is : (n : ℕ) → not (n == 0) ≡ false → n ≡ 0
zero_is n is = eqb-true n 0 (not_false _ is)

module _ (h : Heads) (signature : Signature) (lines : List Line) where
  begins_at_first : (l : Line) → slice_get lines 0 ≡ Some l → Passes h signature lines 0 l → BeginsWell signature lines
  begins_at_first l at good =
      let places = or_parts _ _ (or_parts _ _ good.place).0 in
      let counts = or_parts _ _ (or_parts _ _ (or_parts _ _ good.count).0).0 in
      record {
        first = l;
        at = at;
        place = sym (same_is signature.begin l.place (not_false _ (or_parts _ _ places.0).1));
        depth = zero_is l.depth counts.0;
      }

  pub ends_well : (p : ℕ) (l : Line) → is_end l.operation ≡ true → Passes h signature lines p l → EndsWell signature l
  ends_well p l end good =
      let places = or_parts _ _ (or_parts _ _ good.place).0 in
      let counts = or_parts _ _ (or_parts _ _ (or_parts _ _ good.count).0).0 in
      record {
        place = sym (same_is signature.end l.place (not_false _ (subst (λ (b : Bool). (b && not (same_place signature.end l.place)) ≡ false) end places.1)));
        depth = zero_is l.depth (at_end (p == 0) (is_end l.operation) (not (l.depth == 0)) end counts.0);
      }
    where
      at_end : (a b c : Bool) → b ≡ true → ((a || b) && c) ≡ false → c ≡ false
      at_end true b c is none = none
      at_end false b c is none = subst (λ (x : Bool). (x && c) ≡ false) is none

  pub turn_counts : (p t : ℕ) (l : Line) → l.operation ≡ Turn t → Passes h signature lines p l → 1 ≤ l.depth
  turn_counts p t l is good =
      some_from_test l.depth (subst (λ (o : Operation). (is_turn o && (l.depth == 0)) ≡ false) is (or_parts _ _ (or_parts _ _ good.count).0).1)

  -- ---- jumps

  later_or_test : (p t : ℕ) (back test : Bool) → nat_le t p ≡ back → (back && not test) ≡ false → (p < t) ⊎ IsTrue test
  later_or_test p t true true is none = inr refl
  later_or_test p t true false is none = absurd cc
  later_or_test p t false test is none = inl (leb-false t p is)

  pub jump_leads : (p t : ℕ) (l : Line) → l.operation ≡ Jump t → Passes h signature lines p l → (p < t) ⊎ IsTrue (test_in (slice_get lines t))
  jump_leads p t l is good =
      let out : leads_out lines p (Jump t) ≡ false = subst (λ (o : Operation). leads_out lines p o ≡ false) is (or_parts _ _ good.jump).0 in
      later_or_test p t (nat_le t p) (test_in (slice_get lines t)) refl (or_parts _ _ out).1

  -- ---- stops

  pub stop_number : (p k : ℕ) (l : Line) → stop_of l.operation ≡ Some k → Passes h signature lines p l → k ≡ stops_before lines p + 1
  stop_number p k l is good = eqb-true k (stops_before lines p + 1) (not_false _ (subst (λ (o : Option ℕ). is_wrong_stop o (stops_before lines p) ≡ false) is good.stop))

  pub small_stop : (p k : ℕ) (l : Line) → stop_of l.operation ≡ Some k → Passes h signature lines p l → (1 ≤ k) × (k ≤ p + 1)
  small_stop p k l is good =
      let number = stop_number p k l is good in
      (omega (arith, number), omega (arith, number, few_stops lines p))

  -- the stop of an operation counts from then on
  more_stops : (p q k : ℕ) (l : Line) → slice_get lines p ≡ Some l → stop_of l.operation ≡ Some k → p < q → stops_before lines p + 1 ≤ stops_before lines q
  more_stops p q k l at is lt =
      let counted : ◌≡◌ {A = ℕ} (if is_stop l then 1 else 0) 1 = ap (λ (o : Option ℕ). if is_some o then 1 else 0) is in
      let within : stops_before (take q lines) (p + 1) ≤ count_by is_stop (take q lines) = sum_by-take-le (λ x. cond (is_stop x) 1 0) (take q lines) (p + 1) in
      let same : stops_before (take q lines) (p + 1) ≡ stops_before lines (p + 1) = ap (count_by is_stop) (take-take lines (p + 1) q (omega (arith, lt))) in
      omega (arith, stops_next lines p l at, counted, within, same)

  pub one_stop : (p q k : ℕ) (l n : Line) → slice_get lines p ≡ Some l → slice_get lines q ≡ Some n → stop_of l.operation ≡ Some k → stop_of n.operation ≡ Some k
      → Passes h signature lines p l → Passes h signature lines q n → p ≡ q
  one_stop p q k l n at also is other good well =
      let first = stop_number p k l is good in
      let second = stop_number q k n other well in
      elim (cases_lt p q) [
        | inl lt ↦ absurd (omega (arith, more_stops p q k l at is lt, first, second))
        | inr ge ↦ elim (cases_lt q p) [
          | inl less ↦ absurd (omega (arith, more_stops q p k n also other less, first, second))
          | inr le ↦ omega (arith, ge, le)
        ]
      ]

empty_fails : (c : Automata) (m : ModuleId) (signature : Signature) → IsModule c m signature [] → error_at c m 0 ≡ None → ⊥
empty_fails c m signature is none =
    let here : module_error c.heads m (Some signature) (Some []) 0 ≡ None =
    ap (λ (ls : Option (List Line)). module_error c.heads m (Some signature) ls 0) (sym is.code)
    ∙ ap (λ (s : Option Signature). module_error c.heads m s (slice_get c.modules m.0) 0) (sym is.declared) ∙ none in
    absurd cc

pub begins_well : (c : Automata) (m : ModuleId) (signature : Signature) (lines : List Line) → Valid c → IsModule c m signature lines → BeginsWell signature lines
begins_well c m signature [] valid is = absurd (empty_fails c m signature is (valid m 0))
begins_well c m signature (l ∷ ls) valid is =
    begins_at_first c.heads signature (l ∷ ls) l refl (valid_passes c m signature (l ∷ ls) 0 l valid is refl)
