-- Chains of operators, as a loop reads them.
use Rattle.std.proofs.Common.{◌≡◌, ℕ, ◌<◌, true, false, List, Ok, Err, refl, sym, ◌∙◌, ap, arith}
use Rattle.loft_lex.specs.Symbol.{Symbol}
use Rattle.loft_tree.specs.declared.kinds.BinaryOperator.{BinaryOperator}
use Rattle.loft_tree.specs.Source.{Expression, Binary}
use Rattle.loft_form.specs.declared.stop.Stop.{Stop}
use Rattle.loft_form.specs.declared.stop.Stop.TheVariants as stop
use Rattle.loft_form.specs.Form.{many, Limits, State, next_begins}
use Rattle.loft_form.specs.Reading.{Place, Read, ◌>>=◌, with_first, read, done, Fails}
use Rattle.loft_form.proofs.Progress.{least, many_more, many_done}
use Rattle.loft_grammar.specs.Language.{Language}
use Rattle.loft_grammar.specs.Symbols.{Form}
use Rattle.loft_grammar.specs.Expressions.{chain}
use Rattle.loft_grammar.specs.Statements.{rules}
use Rattle.loft_grammar.specs.Levels.{operator_at, operation_at}
use Rattle.loft_grammar.specs.declared.operator.Level.{Level}
use Rattle.loft_grammar.specs.declared.operator.Level.TheVariants.{Product, Sum, Conjunction, Disjunction}

-- what was read of the chain, and then what is left of it
abbrev pub finish : Expression → Read Language (List (BinaryOperator × Expression)) → Read Language Expression
finish t found = found >>= λ y. Ok (chain t y.0, y.1)

regroup : (t u : Expression) (o : BinaryOperator) (found : Read Language (List (BinaryOperator × Expression))) → finish t (with_first (o, u) found) ≡ finish (Binary o t u) found
regroup t u o (Ok y) = refl
regroup t u o (Err e) = refl

module _ (lim : Limits Language) (n : ℕ) (f : Form (BinaryOperator × Expression)) (t : Expression) (ss : List Symbol) (c : State Language) (total : Read Language Expression) (so_far : finish t (read rules lim n (many f) ss c) ≡ total) where
  pub chain_more : (x : BinaryOperator × Expression) (p : Place Language) → 0 < least f → next_begins f ss ≡ true → read rules lim n f ss c ≡ Ok (x, p) → finish (Binary x.0 t x.1) (read rules lim n (many f) p.rest p.state) ≡ total
  chain_more x p h b e =
      let one : read rules lim n (many f) ss c ≡ with_first x (read rules lim n (many f) p.rest p.state) = many_more rules lim n f ss c h b ∙ ap (λ r. r >>= λ y. with_first y.0 (read rules lim n (many f) y.1.rest y.1.state)) e in
      sym (regroup t x.1 x.0 (read rules lim n (many f) p.rest p.state)) ∙ ap (finish t) (sym one) ∙ so_far

  pub chain_fails : (e : Stop) → 0 < least f → next_begins f ss ≡ true → Fails e (read rules lim n f ss c) → Fails e total
  chain_fails stop.NoMemory h b r = tt
  chain_fails (stop.Fault d) h b r =
      let one : read rules lim n (many f) ss c ≡ Err d = many_more rules lim n f ss c h b ∙ ap (λ r. r >>= λ y. with_first y.0 (read rules lim n (many f) y.1.rest y.1.state)) r in
      sym so_far ∙ ap (finish t) one

  pub chain_done : 0 < least f → next_begins f ss ≡ false → total ≡ done t ss c
  chain_done h b = sym so_far ∙ ap (finish t) (many_done rules lim n f ss c h b)

-- an operator opens no nesting
pub flat_operator : (lim : Limits Language) (n : ℕ) (level : Level) (ss : List Symbol) (c : State Language) → read rules lim n (operator_at level) ss c ≡ read rules lim 0 (operator_at level) ss c
flat_operator lim n Product ss c = refl
flat_operator lim n Sum ss c = refl
flat_operator lim n Conjunction ss c = refl
flat_operator lim n Disjunction ss c = refl

-- an operation has a symbol
pub least_operation : (level : Level) → 0 < least (operation_at level)
least_operation Product = omega arith
least_operation Sum = omega arith
least_operation Conjunction = omega arith
least_operation Disjunction = omega arith
