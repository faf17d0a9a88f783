-- What a form stands for, without places, is made of its parts without places.
use Rattle.std.proofs.Common.{◌≡◌, ℕ, Bool, true, false, if◌then◌else◌, List, [], ◌∷◌, map, Option, Some, None, refl, ap, inl, inr, ◌⊎◌}
use Rattle.std.specs.Option.{option_map}
use Rattle.loft_lex.specs.Symbol.{Symbol}
use Rattle.loft_tree.specs.declared.kinds.BinaryOperator.{BinaryOperator}
use Rattle.loft_tree.specs.Source.{Expression, Binary, Creation, Statement, Then, PlaceName, InScheduler, Unlinked, Ident}
use Rattle.loft_tree.specs.View.{body_of}
use Rattle.loft_tree.specs.Fits.{same_place}
use Rattle.loft_grammar.specs.Language.{Rule, Meaning, Bracketed, Signed, Conditional, Looped}
use Rattle.loft_grammar.specs.Expressions.{chain, comparison_of, list_of}
use Rattle.loft_grammar.specs.Statements.{assignment_of, print_of, else_of}
use Rattle.loft_grammar.specs.Items.{end_of}
use Rattle.loft_show.specs.Places.{bare_name, bare_expression, bare_value, bare_creation, bare_statement, bare_body, bare_place}

abbrev pub bare_symbol : Symbol → Symbol
bare_symbol s = record { at = 0; what = s.what }

abbrev pub bare_rule : (r : Rule) → Meaning r → Meaning r
bare_rule Bracketed e = bare_expression e
bare_rule Signed e = bare_expression e
bare_rule Conditional x = (bare_expression x.0, (map bare_statement x.1.0, option_map (map bare_statement) x.1.1))
bare_rule Looped x = (bare_expression x.0, map bare_statement x.1)

abbrev pub bare_operation : BinaryOperator × Expression → BinaryOperator × Expression
bare_operation x = (x.0, bare_expression x.1)

pub bare_chain : (e : Expression) (xs : List (BinaryOperator × Expression)) → chain (bare_expression e) (map bare_operation xs) ≡ bare_expression (chain e xs)
bare_chain e [] = refl
bare_chain e (x ∷ xs) = bare_chain (Binary x.0 e x.1) xs

pub bare_comparison : (e : Expression) (x : Option (BinaryOperator × Expression)) → comparison_of (bare_expression e) (option_map bare_operation x) ≡ bare_expression (comparison_of e x)
bare_comparison e None = refl
bare_comparison e (Some x) = refl

pub bare_list : {A : Type 0} (h : A → A) (x : Option (A × List A)) → list_of (option_map (λ y. (h y.0, map h y.1)) x) ≡ map h (list_of x)
bare_list h None = refl
bare_list h (Some x) = refl

pub bare_body_of : (xs : List Statement) → body_of (map bare_statement xs) ≡ bare_body (body_of xs)
bare_body_of [] = refl
bare_body_of (x ∷ xs) = ap (Then (bare_statement x)) (bare_body_of xs)

pub bare_else_of : (x : Option (List Statement)) → else_of (option_map (map bare_statement) x) ≡ bare_body (else_of x)
bare_else_of None = refl
bare_else_of (Some xs) = bare_body_of xs

-- a choice of two kinds of values, without places
abbrev pub bare_either : {A B : Type 0} → (A → A) → (B → B) → A ⊎ B → A ⊎ B
bare_either h k (inl x) = inl (h x)
bare_either h k (inr x) = inr (k x)

pub bare_assignment : (target : Ident) (x : (ℕ × Creation) ⊎ Expression) → assignment_of (bare_name target) (bare_either (λ y. (0, bare_creation y.1)) bare_expression x) ≡ bare_statement (assignment_of target x)
bare_assignment target (inl x) = refl
bare_assignment target (inr e) = refl

pub bare_print : (at : ℕ) (x : (List ℕ × Option Expression) ⊎ Expression) → print_of 0 (bare_either (λ y. (y.0, bare_value y.1)) bare_expression x) ≡ bare_statement (print_of at x)
bare_print at (inl x) = refl
bare_print at (inr e) = refl

pub option_map-id : {A : Type 0} (x : Option A) → option_map (λ (y : A). y) x ≡ x
option_map-id None = refl
option_map-id (Some y) = refl

pub kept_end : (same : Bool) (end : PlaceName) → (if same then None else Some (bare_place end)) ≡ option_map bare_place (if same then None else Some end)
kept_end true end = refl
kept_end false end = refl

pub bare_end : (begin : PlaceName) (end : Option PlaceName) → end_of (bare_place begin) (option_map bare_place end) ≡ option_map bare_place (end_of begin end)
bare_end begin None = refl
bare_end (InScheduler m) (Some (InScheduler n)) = kept_end (same_place (InScheduler m) (InScheduler n)) (InScheduler n)
bare_end (InScheduler m) (Some Unlinked) = refl
bare_end Unlinked (Some (InScheduler n)) = refl
bare_end Unlinked (Some Unlinked) = refl
