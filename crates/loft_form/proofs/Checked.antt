-- What a grammar has to show of itself, and of the form that whole lists of symbols are to be of.
use Rattle.std.proofs.Common.{◌≡◌, true, false}
use Rattle.loft_form.specs.Form.{Language, Form, Grammar}
use Rattle.loft_form.proofs.Disjoint.{Known, Fair, clear}
use Rattle.loft_form.proofs.Guarded.{guarded}

-- The next symbol always tells how a form goes on, and each rule inside stands after a symbol that opens a nesting.
-- Each test computes, so `refl` shows it.
pub record Checked {L : Language} {a : Type 0} (G : Grammar L) (R : Known L) (f : Form L a) : Type 0 where
  pub fair : Fair G R
  pub rules_guarded : (r : L.Rule) → guarded false (G r) ≡ true
  pub form_clear : clear R f ≡ true
  pub form_guarded : guarded false f ≡ true
