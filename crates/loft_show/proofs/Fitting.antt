-- What keeps the limits keeps them part by part.
use Rattle.std.proofs.Common.{◌≡◌, ℕ, ◌<◌, zero, suc, List, [], ◌∷◌, length, get_or, sym, subst, arith}
use Rattle.loft_tree.specs.declared.statement.Stmt.{Stmt}
use Rattle.loft_tree.specs.declared.program.Item.{Item}
use Rattle.loft_tree.specs.Fits.{Each, StatementFits, StatementsFit, DeclarationFits}
use Rattle.loft_tree.specs.Source.{Declaration, Scheduler, Event, Shared, Module, Start, Outside}
use Rattle.loft_tree.specs.View.{statement_of, statements_of, declaration_of, source_of}
use Rattle.loft_show.specs.PartReads.{BodyFits}

-- each statement of a body that fits
pub statement_fits : (ss : List Stmt) (n i : ℕ) (s : Stmt) → i < length ss → s ≡ get_or ss i s → StatementsFit (statements_of ss) n → StatementFits (statement_of s) n
statement_fits [] n i s lt is fits = absurd (omega arith)
statement_fits (x ∷ xs) n zero s lt is fits = subst (λ (t : Stmt). StatementFits (statement_of t) n) (sym is) fits.0
statement_fits (x ∷ xs) n (suc i) s lt is fits = statement_fits xs n i s (omega arith) is fits.1

body_fits : (d : Declaration) → DeclarationFits d → BodyFits d
body_fits (Scheduler n) fits = tt
body_fits (Event n scheduler) fits = tt
body_fits (Shared n scheduler value) fits = tt
body_fits (Module head locals body) fits = fits.statements
body_fits (Start scheduler called arguments n) fits = tt
body_fits (Outside n orders) fits = tt

-- the body of each declaration of a program that fits
pub item_fits : (xs : List Item) (i : ℕ) (x : Item) → i < length xs → x ≡ get_or xs i x → Each DeclarationFits (source_of xs) → BodyFits (declaration_of x)
item_fits [] i x lt is fits = absurd (omega arith)
item_fits (y ∷ ys) zero x lt is fits = subst (λ (one : Item). BodyFits (declaration_of one)) (sym is) (body_fits (declaration_of y) fits.0)
item_fits (y ∷ ys) (suc i) x lt is fits = item_fits ys i x (omega arith) is fits.1
