-- What is spelled keeps the limits.
use Rattle.std.proofs.Common.{◌≡◌, ℕ, ◌≤◌, true, List, Ok, refl}
use Rattle.loft_lex.specs.declared.token.Token.{Token}
use Rattle.loft_lex.specs.Symbol.{Symbol, symbols}
use Rattle.loft_lex.specs.Tokens.{tokens}
use Rattle.loft_tree.specs.Source.{Source}
use Rattle.loft_tree.specs.Fits.{Each, DeclarationFits, SourceFits}
use Rattle.loft_grammar.specs.Counts.{most}
use Rattle.loft_grammar.specs.Items.{program}
use Rattle.loft_grammar.specs.Limits.{limits, beginning}
use Rattle.loft_grammar.specs.Texts.{SpellsProgram}
use Rattle.loft_grammar.specs.declared.counts.Counted.{Counted}
use Rattle.loft_grammar.specs.declared.counts.Counted.TheVariants.{Scheduler, Event, Shared, Module, Start, Client}
use Rattle.loft_productions.proofs.fits.Counting.{none_within}
use Rattle.loft_productions.proofs.fits.Forms.{settles}
use Rattle.loft_productions.proofs.fits.Items.{item_fits, schedulers_count, events_count, shared_variables_count, modules_count, starts_count, clients_count, program_counts}
use Rattle.loft_productions.proofs.fits.Parts.{Gives, Weighs, limited, gives_many, few_of}
use Rattle.loft_productions.proofs.fits.Rules.{program_rules}
use Rattle.loft_productions.proofs.fits.Symbols.{symbols_fit}

program_fits : Gives limits 32 program (Each DeclarationFits)
unfolding program
program_fits = gives_many item_fits

program_settles : settles true program ≡ true
unfolding program_rules
program_settles = refl

-- no declaration is one too many
few : (ss : List Symbol) (p : Source) (w : Counted) (m : Source → ℕ) → Weighs limits 32 w program m → SpellsProgram ss p → m p ≤ most w
few ss p w m counts h = few_of (limited w) true counts program_settles ss beginning p h.0 (λ e. refl) (none_within limits) h.1

-- The program that a text spells keeps the limits.
pub spelled_fits : (text : List ℕ) (ts : List Token) → tokens text ≡ Ok ts → (p : Source) → SpellsProgram (symbols text ts) p → SourceFits p
spelled_fits text ts found p h = record {
  each = program_fits.of (symbols text ts) beginning p h.0 (symbols_fit text ts found) (none_within limits) h.1;
  schedulers = few (symbols text ts) p Scheduler _ (program_counts _ schedulers_count) h;
  events = few (symbols text ts) p Event _ (program_counts _ events_count) h;
  shared = few (symbols text ts) p Shared _ (program_counts _ shared_variables_count) h;
  modules = few (symbols text ts) p Module _ (program_counts _ modules_count) h;
  starts = few (symbols text ts) p Start _ (program_counts _ starts_count) h;
  clients = few (symbols text ts) p Client _ (program_counts _ clients_count) h;
}
