-- What is taken isn't refused.
use Rattle.std.proofs.Common.{◌≡◌, ℕ, List, inl, inr, subst, arith, Ok, Err}
use Rattle.loft_tree.specs.Source.{Source}
use Rattle.loft_tree.specs.NamedTree.{NamedProgram}
use Rattle.loft_scopes.specs.declared.error.NameError.{NameError}
use Rattle.loft_scopes.specs.Faults.{NameFault, NamesFit}
use Rattle.loft_numbers.specs.Numbers.{numbered}
use Rattle.loft_place.specs.declared.error.PlaceError.{PlaceError}
use Rattle.loft_place.specs.Links.{IsPlaced, PlaceFault}
use Rattle.loft_parse.specs.declared.error.ParseError.{ParseError}
use Rattle.loft_grammar.specs.Texts.{Reads}
use Rattle.loft_parse.specs.Faults.{SourceFault}
use Rattle.loft_code.specs.declared.error.CodeError.{CodeError}
use Rattle.loft_code.specs.Operations.{Automata}
use Rattle.loft_code.specs.Valid.{Valid, CodeFault}
use Rattle.loft_listing_reader.specs.declared.error.ListError.{ListError}
use Rattle.loft_listing_reader.specs.Lists.{Lists, LineFault}
use Rattle.loft_lock_expansion.specs.Expansion.{IsExpansion}
use Rattle.loft_lock_expansion.specs.Refusals.{IsRefused, Refusal as LocksRefusal}
use Rattle.loft_refusal.specs.declared.refusal.Refusal.{Refusal}
use Rattle.loft_refusal.specs.declared.refusal.Refusal.TheVariants as refusal
use Rattle.loft_arguments.specs.Command.{FileCommand, Run, Exec, Show, Check, Compile, Bound, Expand}
use Rattle.loft_refusal.specs.Input.{Input, ASource, AListing, AnExpansion}
use Rattle.loft_refusal.specs.Refusals.{IsTextOf, IsSourceOf, IsListingOf, Well, IsCause}
use Rattle.loft_commands.specs.Asks.{Asks, Takes, asks_source, asks_well, asks_listing, asks_locks}

-- a text, names, links, a listing and its code, and a text with locks have one answer
pub record Decided : Type 0 where
  pub one : (text : List ℕ) (p q : Source) → Reads text p → Reads text q → p ≡ q
  pub texts : (text : List ℕ) (p : Source) (e : ParseError) → Reads text p → SourceFault text e → ⊥
  pub names : (p : Source) (e : NameError) → NamesFit p → NameFault p e → ⊥
  pub links : (n : NamedProgram) (e : PlaceError) → IsPlaced n → PlaceFault n e → ⊥
  pub codes : (text : List ℕ) (a c : Automata) → Lists text a → Lists text c → a ≡ c
  pub lines : (text : List ℕ) (c : Automata) (n : ℕ) → Lists text c → LineFault text n → ⊥
  pub valid : (c : Automata) (e : CodeError) → Valid c → CodeFault c e → ⊥
  pub locks : (text : List ℕ) (p : Source) (r : LocksRefusal) → IsExpansion text p → IsRefused text r → ⊥

-- what comes to a program isn't refused
pub never_both : {A E : Type 0} (a : A) (e : E) → Ok a ≡ Err e → ⊥
never_both a e same = cc

-- ---- sources

same_program : (d : Decided) (contents : List ℕ) (p q : Source) → IsSourceOf contents p → IsSourceOf contents q → p ≡ q
same_program d contents p q a b = d.one contents p q a.reads b.reads

-- a text that is read has no fault, names that are correct aren't refused, nor are links
read_text : (d : Decided) (contents : List ℕ) (p : Source) (e : ParseError) → IsSourceOf contents p → IsCause contents (refusal.Text e) → ⊥
read_text d contents p e text (inl long) = let short = text.short in omega (arith, long.0)
read_text d contents p e text (inr fault) = d.texts contents p e text.reads fault.1

well_named : (d : Decided) (contents : List ℕ) (p : Source) (e : NameError) → IsSourceOf contents p → Well p → IsCause contents (refusal.Names e) → ⊥
well_named d contents p e text well (ASource q, other, fault) =
    d.names q e (subst NamesFit (same_program d contents p q text other) well.names) fault
well_named d contents p e text well (AListing c, other, fault) = absurd fault
well_named d contents p e text well (AnExpansion q, other, fault) = absurd fault

well_linked : (d : Decided) (contents : List ℕ) (p : Source) (e : PlaceError) (schedulers : List (List ℕ)) → IsSourceOf contents p → Well p → IsCause contents (refusal.Links e schedulers) → ⊥
well_linked d contents p e schedulers text well (ASource q, other, (fit, fault, names)) =
    d.links (numbered q) e (subst (λ (x : Source). IsPlaced (numbered x)) (same_program d contents p q text other) well.links) fault
well_linked d contents p e schedulers text well (AListing c, other, fault) = absurd fault
well_linked d contents p e schedulers text well (AnExpansion q, other, fault) = absurd fault

-- a source whose names and links are correct, and one that is only shown
pub well_taken : (d : Decided) (contents : List ℕ) (p : Source) (r : Refusal) → IsSourceOf contents p → Well p → asks_well r → IsCause contents r → ⊥
well_taken d contents p (refusal.Text e) text well asks cause = read_text d contents p e text cause
well_taken d contents p (refusal.Names e) text well asks cause = well_named d contents p e text well cause
well_taken d contents p (refusal.Links e schedulers) text well asks cause = well_linked d contents p e schedulers text well cause
well_taken d contents p (refusal.Listing e) text well asks cause = absurd asks
well_taken d contents p (refusal.Code e modules) text well asks cause = absurd asks
well_taken d contents p (refusal.Locks e names) text well asks cause = absurd asks

pub any_taken : (d : Decided) (contents : List ℕ) (p : Source) (r : Refusal) → IsSourceOf contents p → asks_source r → IsCause contents r → ⊥
any_taken d contents p (refusal.Text e) text asks cause = read_text d contents p e text cause
any_taken d contents p (refusal.Names e) text asks cause = absurd asks
any_taken d contents p (refusal.Links e schedulers) text asks cause = absurd asks
any_taken d contents p (refusal.Listing e) text asks cause = absurd asks
any_taken d contents p (refusal.Code e modules) text asks cause = absurd asks
any_taken d contents p (refusal.Locks e names) text asks cause = absurd asks

-- ---- listings

same_code : (d : Decided) (contents : List ℕ) (a c : Automata) → IsListingOf contents a → IsListingOf contents c → a ≡ c
same_code d contents a c one other = d.codes contents a c one.lists other.lists

-- a text that is a listing has no fault
read_listing : (d : Decided) (contents : List ℕ) (c : Automata) (e : ListError) → IsListingOf contents c → IsCause contents (refusal.Listing e) → ⊥
read_listing d contents c e text (inl long) = let short = text.short in omega (arith, long.0)
read_listing d contents c e text (inr (n, short, fault, is)) = d.lines contents c n text.lists fault

-- a listing of valid code
pub valid_taken : (d : Decided) (contents : List ℕ) (c : Automata) (r : Refusal) → IsListingOf contents c → Valid c → asks_listing r → IsCause contents r → ⊥
valid_taken d contents c (refusal.Text e) text valid asks cause = absurd asks
valid_taken d contents c (refusal.Names e) text valid asks cause = absurd asks
valid_taken d contents c (refusal.Links e schedulers) text valid asks cause = absurd asks
valid_taken d contents c (refusal.Listing e) text valid asks cause = read_listing d contents c e text cause
valid_taken d contents c (refusal.Code e modules) text valid asks (ASource p, other, refused) = absurd refused
valid_taken d contents c (refusal.Code e modules) text valid asks (AListing a, other, refused) =
    d.valid a e (subst Valid (same_code d contents c a text other) valid) refused.0
valid_taken d contents c (refusal.Code e modules) text valid asks (AnExpansion p, other, refused) = absurd refused
valid_taken d contents c (refusal.Locks e names) text valid asks cause = absurd asks

-- ---- texts with locks

-- one that stands for a program isn't refused
pub expansion_taken : (d : Decided) (contents : List ℕ) (p : Source) (r : Refusal) → IsExpansion contents p → asks_locks r → IsCause contents r → ⊥
expansion_taken d contents p (refusal.Text e) stands asks cause = absurd asks
expansion_taken d contents p (refusal.Names e) stands asks cause = absurd asks
expansion_taken d contents p (refusal.Links e schedulers) stands asks cause = absurd asks
expansion_taken d contents p (refusal.Listing e) stands asks cause = absurd asks
expansion_taken d contents p (refusal.Code e modules) stands asks cause = absurd asks
expansion_taken d contents p (refusal.Locks e names) stands asks ((r, is, refused), named) = d.locks contents p r stands refused

-- ---- commands

pub taken_not_refused : (d : Decided) (c : FileCommand) (contents : List ℕ) (x : Input) (r : Refusal) → IsTextOf contents x → Takes c x → Asks c r → IsCause contents r → ⊥
taken_not_refused d (Run file o) contents (ASource p) r text takes asks cause = well_taken d contents p r text takes asks cause
taken_not_refused d (Run file o) contents (AListing a) r text takes asks cause = absurd takes
taken_not_refused d (Run file o) contents (AnExpansion p) r text takes asks cause = absurd takes
taken_not_refused d (Exec file o) contents (ASource p) r text takes asks cause = absurd takes
taken_not_refused d (Exec file o) contents (AListing a) r text takes asks cause = valid_taken d contents a r text takes asks cause
taken_not_refused d (Exec file o) contents (AnExpansion p) r text takes asks cause = absurd takes
taken_not_refused d (Show file) contents (ASource p) r text takes asks cause = any_taken d contents p r text asks cause
taken_not_refused d (Show file) contents (AListing a) r text takes asks cause = absurd takes
taken_not_refused d (Show file) contents (AnExpansion p) r text takes asks cause = absurd takes
taken_not_refused d (Check file) contents (ASource p) r text takes asks cause = well_taken d contents p r text takes asks cause
taken_not_refused d (Check file) contents (AListing a) r text takes asks cause = absurd takes
taken_not_refused d (Check file) contents (AnExpansion p) r text takes asks cause = absurd takes
taken_not_refused d (Compile file) contents (ASource p) r text takes asks cause = well_taken d contents p r text takes asks cause
taken_not_refused d (Compile file) contents (AListing a) r text takes asks cause = absurd takes
taken_not_refused d (Compile file) contents (AnExpansion p) r text takes asks cause = absurd takes
taken_not_refused d (Bound file) contents (ASource p) r text takes asks cause = well_taken d contents p r text takes asks cause
taken_not_refused d (Bound file) contents (AListing a) r text takes asks cause = absurd takes
taken_not_refused d (Bound file) contents (AnExpansion p) r text takes asks cause = absurd takes
taken_not_refused d (Expand file) contents (ASource p) r text takes asks cause = absurd takes
taken_not_refused d (Expand file) contents (AListing a) r text takes asks cause = absurd takes
taken_not_refused d (Expand file) contents (AnExpansion p) r text takes asks cause = expansion_taken d contents p r text asks cause
