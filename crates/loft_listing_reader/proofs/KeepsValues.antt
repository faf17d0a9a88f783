-- Expressions keep their limits with numbers in place of names.
use Rattle.std.proofs.Common.{◌≡◌, ℕ, ◌≤◌, List, [], ◌∷◌, Option, Some, None, refl, sym, subst, ap}
use Rattle.loft_tree.specs.declared.limits.TheConstants.{MAX_NESTING, MAX_OPERANDS}
use Rattle.loft_tree.specs.Source.{Expression, Number, Variable, Special, Unary, Binary}
use Rattle.loft_tree.specs.Fits.{Each, IfThere, WordsFit, ExpressionFits}
use Rattle.loft_tree.specs.Levels as levels
use Rattle.loft_tree.specs.Levels.{Shape, Operand, Signed, Joined, shape_nesting, shape_operands}
use Rattle.loft_tree.specs.Resolved.{exp_of, exp_if, exps_of}
use Rattle.loft_scopes.specs.Scopes.{Declared, meaning}
use Rattle.loft_scopes.specs.declared.scope.Scope.{Scope}
use Rattle.loft_numbers.specs.Numbers.{Holder, InShared, InSlot, holder_of, term_of, terms_of, value_of, variable_term}
use Rattle.loft_grammar.specs.Limits.{nesting}
use Rattle.loft_code.specs.Fits.{shape_of, NumbersFit, ExpFits}

-- the declarations of a listing, and where its names are used
module _ (ds : List Declared) (scope : Scope) where
  variable_shape : (at : ℕ) (holder : Holder) → shape_of (exp_of (variable_term ds scope at holder)) ≡ Operand
  variable_shape at (InShared shared) = refl
  variable_shape at (InSlot slot) = refl

  -- the operators of an expression stand in one another as before
  shape_kept : (e : Expression) → shape_of (exp_of (term_of ds scope e)) ≡ levels.shape_of e
  shape_kept (Number at value) = refl
  shape_kept (Variable name) = variable_shape name.at (holder_of (meaning ds scope name))
  shape_kept (Special at builtin) = refl
  shape_kept (Unary at operator operand) = ap Signed (shape_kept operand)
  shape_kept (Binary operator left right) = (λ i. Joined operator (shape_kept left i) (shape_kept right i))

  variable_numbers : (at : ℕ) (holder : Holder) → NumbersFit (exp_of (variable_term ds scope at holder))
  variable_numbers at (InShared shared) = tt
  variable_numbers at (InSlot slot) = tt

  numbers_kept : (e : Expression) → WordsFit e → NumbersFit (exp_of (term_of ds scope e))
  numbers_kept (Number at value) fits = fits
  numbers_kept (Variable name) fits = variable_numbers name.at (holder_of (meaning ds scope name))
  numbers_kept (Special at builtin) fits = tt
  numbers_kept (Unary at operator operand) fits = numbers_kept operand fits
  numbers_kept (Binary operator left right) fits = (numbers_kept left fits.0, numbers_kept right fits.1)

  pub exp_keeps : (e : Expression) → ExpressionFits nesting e → ExpFits (exp_of (term_of ds scope e))
  exp_keeps e fits = record {
    numbers = numbers_kept e fits.words;
    nests = subst (λ (s : Shape). shape_nesting s ≤ MAX_NESTING) (sym (shape_kept e)) fits.nests;
    few = subst (λ (s : Shape). shape_operands s ≤ MAX_OPERANDS) (sym (shape_kept e)) fits.few;
  }

  pub value_keeps : (e : Option Expression) → IfThere (ExpressionFits nesting) e → IfThere ExpFits (exp_if (value_of ds scope e))
  value_keeps None fits = tt
  value_keeps (Some e) fits = exp_keeps e fits

  pub values_keep : (es : List Expression) → Each (ExpressionFits nesting) es → Each ExpFits (exps_of (terms_of ds scope es))
  values_keep [] fits = tt
  values_keep (e ∷ es) fits = (exp_keeps e fits.0, values_keep es fits.1)
