-- The code of a placed program whose names are correct is valid.
use Rattle.std.proofs.Common.{◌≡◌, ◌⊎◌, inl, inr, ℕ, ◌+◌, ◌<◌, ◌==◌, Bool, true, false, IsTrue, List, [], ◌∷◌, length, Option, Some, None, slice_get, refl, sym, ap, ◌∙◌, subst, arith}
use Rattle.std.specs.Prelude.{not, ◌&&◌, ◌||◌, nat_lt, nat_le, if◌then◌else◌}
use Rattle.std.proofs.lemmas.Bool.{or_from, and_left, and_right, not_from_true, eq-eqb, lt-ltb, lt-leb, ne_eqb, cases_eq, cases_Bool}
use Rattle.std.proofs.lemmas.Option.{slice_get_within}
use Rattle.loft_base.specs.declared.ids.ModuleId.{ModuleId}
use Rattle.loft_tree.specs.declared.heads.Place.{Place}
use Rattle.loft_tree.specs.declared.heads.Signature.{Signature}
use Rattle.loft_tree.specs.declared.heads.Heads.{Heads}
use Rattle.loft_tree.specs.Fits.{Each}
use Rattle.loft_tree.specs.NamedFits.{slots_of}
use Rattle.loft_tree.specs.Resolved.{Body}
use Rattle.loft_code.specs.declared.error.CodeError.{CodeError}
use Rattle.loft_code.specs.declared.ways.Way.{Way}
use Rattle.loft_code.specs.Operations.{Operation, Do, Hold, Call, Branch, Enter, Count, Turn, Jump, End, Line, goes_on_at, is_end, is_last}
use Rattle.loft_code.specs.Names.{has_place}
use Rattle.loft_code.specs.Places.{same_place, place_left, is_elsewhere, leads_elsewhere, has_bad_place}
use Rattle.loft_code.specs.Valid.{test_in, leads_out, jumps_out, has_depth, leads_off, has_bad_count, line_error, error_in, errors_in}
use Rattle.loft_code.specs.Leads.{IsReached}
use Rattle.loft_sense.specs.Stands.{leads}
use Rattle.loft_translation.specs.Compiled.{line, body_lines}
use Rattle.loft_translation.proofs.OperandLemmas.{same_place_from}
use Rattle.loft_translation.proofs.StepLemmas.{each_at, BodyPasses}
use Rattle.loft_translation.proofs.LineLemmas.{LinePasses, each_append, body_lines_pass, end_passes}
use Rattle.loft_translation.proofs.OrderLemmas.{InOrder, body_in_order, with_end, right_at}
use Rattle.loft_translation.proofs.FlowLemmas.{Reached, IsForward, Flows, AllFlow, flow_at, body_and_end, module_begins, module_flows}

-- ---- where one line leads

module _ (lines : List Line) where
  -- there is an operation of this number
  there_within : (there : Place) (w : Way) → IsReached lines there w → w.at < length lines
  there_within there w reached = slice_get_within lines w.at reached.next reached.at

  in_lines : (there : Place) (w : Way) → IsReached lines there w → not (nat_lt w.at (length lines)) ≡ false
  in_lines there w reached = not_from_true _ (lt-ltb w.at (length lines) (there_within there w reached))

  -- a target is there, and not before the operation
  later_in : (there : Place) (w : Way) (p : ℕ) → IsReached lines there w → p < w.at → (not (nat_lt w.at (length lines)) || nat_le w.at p) ≡ false
  later_in there w p reached later = or_from _ _ (in_lines there w reached) (lt-leb w.at p later)

  jump_in : (there : Place) (w : Way) (p : ℕ) → IsReached lines there w → (p < w.at) ⊎ IsTrue (test_in (slice_get lines w.at))
      → (not (nat_lt w.at (length lines)) || (nat_le w.at p && not (test_in (slice_get lines w.at)))) ≡ false
  jump_in there w p reached (inl later) = or_from _ _ (in_lines there w reached) (and_left _ _ (lt-leb w.at p later))
  jump_in there w p reached (inr test) = or_from _ _ (in_lines there w reached) (and_right _ _ (not_from_true _ test))

  targets_in : (there : Place) (p d : ℕ) (o : Operation) → Each (IsReached lines there) (goes_on_at o p d) → IsForward lines p o → leads_out lines p o ≡ false
  targets_in there p d (Do action) reached forward = refl
  targets_in there p d (Hold k pause) reached forward = refl
  targets_in there p d (Call k m arguments) reached forward = refl
  targets_in there p d (Branch t test) reached forward = later_in there _ p reached.1.0 forward
  targets_in there p d Enter reached forward = refl
  targets_in there p d (Count count) reached forward = refl
  targets_in there p d (Turn t) reached forward = later_in there _ p reached.1.0 forward
  targets_in there p d (Jump t) reached forward = jump_in there _ p reached.0 forward
  targets_in there p d End reached forward = refl

  -- the next operation is there, so this one isn't the last
  not_last : (there : Place) (p d : ℕ) (more : Bool) → IsReached lines there (record { at = p + 1; depth = d }) → ((p + 1 == length lines) && more) ≡ false
  not_last there p d more reached =
      let within : p + 1 < length lines = there_within there _ reached in
      and_left _ _ (ne_eqb (p + 1) (length lines) (λ e. omega (arith, e, within)))

  goes_on : (there : Place) (p d : ℕ) (o : Operation) → Each (IsReached lines there) (goes_on_at o p d) → ((p + 1 == length lines) && not (is_last o)) ≡ false
  goes_on there p d (Do action) reached = not_last there p d _ reached.0
  goes_on there p d (Hold k pause) reached = not_last there p d _ reached.0
  goes_on there p d (Call k m arguments) reached = not_last there p d _ reached.0
  goes_on there p d (Branch t test) reached = not_last there p d _ reached.0
  goes_on there p d Enter reached = not_last there p d _ reached.0
  goes_on there p d (Count count) reached = not_last there p (d + 1) _ reached.0
  goes_on there p d (Turn t) reached = not_last there p d _ reached.0
  goes_on there p d (Jump t) reached = and_right _ _ refl
  goes_on there p d End reached = and_right _ _ refl

  jumps_in : (there : Place) (p d : ℕ) (o : Operation) → Each (IsReached lines there) (goes_on_at o p d) → IsForward lines p o → jumps_out lines p o ≡ false
  jumps_in there p d o reached forward = or_from _ _ (targets_in there p d o reached forward) (goes_on there p d o reached)

  -- all that it leads to is at its place
  right_place : (there : Place) (w : Way) → IsReached lines there w → is_elsewhere there (slice_get lines w.at) ≡ false
  right_place there w reached = ap (is_elsewhere there) reached.at ∙ not_from_true _ (same_place_from there reached.next.place (sym reached.place))

  right_places : (there : Place) (ws : List Way) → Each (IsReached lines there) ws → leads_elsewhere lines there ws ≡ false
  right_places there [] reached = refl
  right_places there (w ∷ ws) reached = or_from _ _ (right_place there w reached.0) (right_places there ws reached.1)

  -- and at its depth
  right_depth : (there : Place) (w : Way) → IsReached lines there w → not (has_depth w.depth (slice_get lines w.at)) ≡ false
  right_depth there w reached =
      not_from_true _ (ap (has_depth w.depth) reached.at ∙ eq-eqb w.depth reached.next.depth (sym reached.depth))

  right_depths : (there : Place) (ws : List Way) → Each (IsReached lines there) ws → leads_off lines ws ≡ false
  right_depths there [] reached = refl
  right_depths there (w ∷ ws) reached = or_from _ _ (right_depth there w reached.0) (right_depths there ws reached.1)

-- ---- all tests of one line

-- where a test answers no
no_error : (e : CodeError) (b : Bool) (o : Option CodeError) → b ≡ false → o ≡ None → (if b then Some e else o) ≡ None
no_error e true o is none = absurd cc
no_error e false o is none = none

-- what holds of operation 0 and what of an `end`
first_or : (p : ℕ) (wrong : Bool) → (p ≡ 0 → wrong ≡ false) → ((p == 0) && wrong) ≡ false
first_or p wrong right = elim (cases_eq p 0) [
  | inl is ↦ and_right _ _ (right is)
  | inr other ↦ and_left _ _ (ne_eqb p 0 other)
]

end_or : (b wrong : Bool) → (b ≡ true → wrong ≡ false) → (b && wrong) ≡ false
end_or true wrong right = right refl
end_or false wrong right = refl

either_or : (p : ℕ) (b wrong : Bool) → (p ≡ 0 → wrong ≡ false) → (b ≡ true → wrong ≡ false) → (((p == 0) || b) && wrong) ≡ false
either_or p b wrong first last = elim (cases_Bool wrong) [
  | inl is ↦ and_left _ _ (or_from _ _ (ne_eqb p 0 (λ e. clash is (first e))) (no_end b (λ e. clash is (last e))))
  | inr is ↦ and_right _ _ is
]
  where
    clash : wrong ≡ true → wrong ≡ false → ⊥
    clash e f = absurd cc

    no_end : (c : Bool) → (c ≡ true → ⊥) → c ≡ false
    no_end true never = absurd (never refl)
    no_end false never = refl

module _ (h : Heads) (signature : Signature) (lines : List Line) where
  -- a module begins at operation 0
  record Begins (p : ℕ) (l : Line) : Type 0 where
    pub place : p ≡ 0 → not (same_place signature.begin l.place) ≡ false
    pub depth : p ≡ 0 → not (l.depth == 0) ≡ false

  begins : (p : ℕ) (l : Line) → Reached lines signature.begin 0 0 → slice_get lines p ≡ Some l → Begins p l
  begins p l first at = record {
    place = λ e. let same : first.next ≡ l = this e in not_from_true _ (same_place_from signature.begin l.place (sym first.place ∙ ap (λ (x : Line). x.place) same));
    depth = λ e. let same : first.next ≡ l = this e in not_from_true _ (eq-eqb l.depth 0 (sym (ap (λ (x : Line). x.depth) same) ∙ first.depth));
  }
    where
      this : p ≡ 0 → first.next ≡ l
      this e = let there : slice_get lines 0 ≡ Some l = subst (λ n. slice_get lines n ≡ Some l) e at in let is : slice_get lines 0 ≡ Some first.next = first.at in cc

  no_line_error : (m : ModuleId) (p : ℕ) (l : Line) → LinePasses h signature l → Flows h lines p l → InOrder 0 lines → Begins p l → slice_get lines p ≡ Some l
      → line_error h m signature lines p l ≡ None
  no_line_error m p l alone flows order first at =
      let there = place_left h l.place l.operation in
      let jump = jumps_in lines there p l.depth l.operation flows.ways flows.forward in
      let place : has_bad_place h signature lines p l ≡ false =
      or_from _ _ (or_from _ _ (or_from _ _ alone.allowed (first_or p _ first.place))
      (end_or (is_end l.operation) _ (λ e. not_from_true _ (same_place_from signature.end l.place (sym (alone.ends e).place)))))
      (right_places lines there (goes_on_at l.operation p l.depth) flows.ways) in
      let count : has_bad_count lines p l ≡ false =
      or_from _ _ (or_from _ _ (or_from _ _
      (either_or p (is_end l.operation) _ first.depth (λ e. not_from_true _ (eq-eqb l.depth 0 (alone.ends e).depth)))
      (right_depths lines there (goes_on_at l.operation p l.depth) flows.ways)) alone.turns) alone.few in
      no_error _ _ _ jump (no_error _ _ _ alone.name (no_error _ _ _ (right_at lines p l order at) (no_error _ _ _ place (no_error _ _ _ count (no_error _ _ _ alone.kind refl)))))

  -- ---- all lines of a module

  no_error_at : (m : ModuleId) (p : ℕ) (o : Option Line) → slice_get lines p ≡ o → Each (LinePasses h signature) lines → AllFlow h lines 0 lines → InOrder 0 lines
      → Reached lines signature.begin 0 0 → error_in h m signature lines p o ≡ None
  no_error_at m p None at alone flow order first = not_empty lines refl
    where
      not_empty : (ls : List Line) → ls ≡ lines → error_in h m signature ls p None ≡ None
      not_empty [] is = let within : 0 < length lines = slice_get_within lines 0 first.next first.at in absurd (omega (arith, within, ap length is))
      not_empty (l ∷ ls) is = refl
  no_error_at m p (Some l) at alone flow order first =
      let zero_more : 0 + p ≡ p = omega arith in
      let flows = subst (λ n. Flows h lines n l) zero_more (flow_at h lines 0 lines p l flow at) in
      no_line_error m p l (each_at (LinePasses h signature) lines p l alone at) flows order (begins p l first at) at

-- the code of a body that passes, and leads to where its module ends
pub module_valid : (h : Heads) (m : ModuleId) (signature : Signature) (b : Body) → BodyPasses h (slots_of signature) b 0 0 signature.begin → has_place h signature.begin ≡ true
    → leads h b signature.begin ≡ signature.end → has_place h signature.end ≡ true
    → (p : ℕ) → errors_in h m signature (body_and_end h b signature.begin) p ≡ None
module_valid h m signature b passes begin ends end p =
    let lines = body_and_end h b signature.begin in
    let x = body_lines h b 0 0 signature.begin in
    let there = leads h b signature.begin in
    let last = end_passes h signature there (ap (has_place h) ends ∙ end) ends in
    let alone = each_append (LinePasses h signature) x (line there 0 End ∷ []) (body_lines_pass h signature b 0 0 0 signature.begin (omega arith) begin passes) (last, tt) in
    let order = with_end x there (body_in_order h (slots_of signature) b 0 0 0 signature.begin passes) in
    no_error_at h signature lines m p (slice_get lines p) refl alone (module_flows h b signature.begin (slots_of signature) passes) order (module_begins h b signature.begin)
