-- Expressions with the names of code keep the limits of a source.
use Rattle.std.proofs.Common.{◌≡◌, ◌≤◌, true, List, [], ◌∷◌, ◌++◌, Option, Some, None, map, refl, sym, subst, ap}
use Rattle.std.proofs.lemmas.Bool.{and_parts, ltb-true}
use Rattle.std.proofs.lemmas.Option.{slice_get_within}
use Rattle.loft_base.specs.declared.ids.EventId.{EventId}
use Rattle.loft_tree.specs.declared.heads.Signature.{Signature}
use Rattle.loft_tree.specs.declared.heads.Heads.{Heads}
use Rattle.loft_tree.specs.declared.limits.TheConstants.{MAX_OPERANDS}
use Rattle.loft_tree.specs.Fits.{Each, EventNameFits, ExpressionFits, IfThere, NameFits, WordsFit}
use Rattle.loft_tree.specs.Levels as levels
use Rattle.loft_tree.specs.Levels.{Shape, Signed, Joined, shape_nesting, shape_operands}
use Rattle.loft_tree.specs.NamedFits.{SignatureHolds, SlotHolds, slots_of}
use Rattle.loft_tree.specs.Resolved as r
use Rattle.loft_tree.specs.Resolved.{Exp, Target}
use Rattle.loft_names.proofs.HeadsLists.{each-append}
use Rattle.loft_grammar.specs.Limits.{nesting}
use Rattle.loft_code.specs.Fits.{ExpFits, HeadsKeep, NumbersFit, shape_of}
use Rattle.loft_code.specs.Names.{exp_has, exps_have, has_events, target_has, value_has}
use Rattle.loft_listing.specs.Called.{called_event, called_expression, called_target, called_value}
use Rattle.loft_listing_roundtrip.proofs.Called.{slot_there}
use Rattle.loft_listing_roundtrip.proofs.DeclarationsFit.{event_fits, name_there, shared_fits}

-- what stands in the module with this signature
module _ (h : Heads) (keeps : HeadsKeep h) (m : Signature) (holds : SignatureHolds h m) where
  pub target_fits : (t : Target) → target_has h (slots_of m) t ≡ true → NameFits (called_target h m t)
  target_fits (r.ToSlot slot) has =
      let v = slot_there m.parameters m.locals slot has in
      name_there (λ x. x.name) SlotHolds (λ x is. is) (m.parameters ++ m.locals) slot (each-append SlotHolds m.parameters m.locals holds.parameters holds.locals) (slice_get_within (m.parameters ++ m.locals) slot v.0 v.1)
  target_fits (r.ToShared x) has = shared_fits h keeps x (ltb-true _ _ has)

  words_fit : (e : Exp) → exp_has h (slots_of m) e ≡ true → NumbersFit e → WordsFit (called_expression h m e)
  words_fit (r.Number value) has fits = fits
  words_fit (r.Slot slot) has fits = target_fits (r.ToSlot slot) has
  words_fit (r.Shared x) has fits = target_fits (r.ToShared x) has
  words_fit (r.Special builtin) has fits = tt
  words_fit (r.Unary operator operand) has fits = words_fit operand has fits
  words_fit (r.Binary operator left right) has fits = let parts = and_parts _ _ has in (words_fit left parts.0 fits.0, words_fit right parts.1 fits.1)

  shape_kept : (e : Exp) → levels.shape_of (called_expression h m e) ≡ shape_of e
  shape_kept (r.Number value) = refl
  shape_kept (r.Slot slot) = refl
  shape_kept (r.Shared x) = refl
  shape_kept (r.Special builtin) = refl
  shape_kept (r.Unary operator operand) = ap Signed (shape_kept operand)
  shape_kept (r.Binary operator left right) = (λ i. Joined operator (shape_kept left i) (shape_kept right i))

  pub expression_fits : (e : Exp) → exp_has h (slots_of m) e ≡ true → ExpFits e → ExpressionFits nesting (called_expression h m e)
  expression_fits e has fits = record {
    words = words_fit e has fits.numbers;
    nests = subst (λ (s : Shape). shape_nesting s ≤ nesting) (sym (shape_kept e)) fits.nests;
    few = subst (λ (s : Shape). shape_operands s ≤ MAX_OPERANDS) (sym (shape_kept e)) fits.few;
  }

  pub value_fits : (e : Option Exp) → value_has h (slots_of m) e ≡ true → IfThere ExpFits e → IfThere (ExpressionFits nesting) (called_value h m e)
  value_fits None has fits = tt
  value_fits (Some e) has fits = expression_fits e has fits

  pub values_fit : (es : List Exp) → exps_have h (slots_of m) es ≡ true → Each ExpFits es → Each (ExpressionFits nesting) (map (called_expression h m) es)
  values_fit [] has fit = tt
  values_fit (e ∷ es) has fit = let parts = and_parts _ _ has in (expression_fits e parts.0 fit.0, values_fit es parts.1 fit.1)

  pub events_fit : (es : List EventId) → has_events h es ≡ true → Each EventNameFits (map (called_event h) es)
  events_fit [] has = tt
  events_fit (e ∷ es) has = let parts = and_parts _ _ has in (event_fits h keeps e (ltb-true _ _ parts.0), events_fit es parts.1)
