-- A rule that stands inside is read with one nesting fewer.
use Rattle.std.proofs.Common.{◌≡◌, ℕ, ◌-◌, ◌<◌, List}
use Rattle.loft_lex.specs.Symbol.{Symbol}
use Rattle.loft_form.specs.Form.{Limits, State}
use Rattle.loft_form.specs.Reading.{read, rule_at}
use Rattle.loft_form.proofs.Nesting.{inside_is as inside_any}
use Rattle.loft_grammar.specs.Language.{Language, Rule}
use Rattle.loft_grammar.specs.Statements.{rules}

pub inside_is : (lim : Limits Language) (n : ℕ) (r : Rule) (ss : List Symbol) (c : State Language) → 0 < n → rule_at rules lim n r ss c ≡ read rules lim (n - 1) (rules r) ss c
inside_is lim n r ss c h = inside_any rules lim n r ss c h
