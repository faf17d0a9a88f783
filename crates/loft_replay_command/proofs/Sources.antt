-- A source is one whose names and links are correct, or is refused for one reason.
use Rattle.std.proofs.Common.{◌≡◌, ℕ, List, inl, inr, sym, ap, subst, ◌∙◌, arith}
use Rattle.loft_tree.specs.Source.{Source}
use Rattle.loft_tree.specs.NamedTree.{NamedProgram}
use Rattle.loft_scopes.specs.declared.error.NameError.{NameError}
use Rattle.loft_scopes.specs.Faults.{NameFault, NamesFit}
use Rattle.loft_numbers.specs.Numbers.{numbered}
use Rattle.loft_place.specs.declared.error.PlaceError.{PlaceError}
use Rattle.loft_place.specs.Links.{IsPlaced, PlaceFault}
use Rattle.loft_parse.specs.declared.error.ParseError.{ParseError}
use Rattle.loft_grammar.specs.Texts.{Reads}
use Rattle.loft_parse.specs.Faults.{SourceFault}
use Rattle.loft_refusal.specs.declared.refusal.Refusal.{Refusal}
use Rattle.loft_refusal.specs.declared.refusal.Refusal.TheVariants as refusal
use Rattle.loft_refusal.specs.declared.refusal.Stopped.{Stopped}
use Rattle.loft_refusal.specs.declared.refusal.Stopped.TheVariants as stopped
use Rattle.loft_refusal.specs.Input.{ASource, AListing, AnExpansion}
use Rattle.loft_refusal.specs.Refusals.{IsSourceOf, Well, ContentsFault, IsCause}
use Rattle.loft_refusal.specs.Found.{IsFault, IsUnfit}
use Rattle.loft_commands.specs.Asks.{asks_well}
use Rattle.loft_replay_command.specs.Replay.{IsWellSourceOf}
use Rattle.loft_replay_command.specs.Stops.{stop_of_source}
use Rattle.loft_replay_command.specs.Finding.{IsUnsound}

-- what is known of all texts, names and links: each has one answer
pub record Laws : Type 0 where
  pub one : (text : List ℕ) (p q : Source) → Reads text p → Reads text q → p ≡ q
  pub text : (text : List ℕ) (p : Source) (e : ParseError) → Reads text p → SourceFault text e → ⊥
  pub text_fault : (text : List ℕ) (d e : ParseError) → SourceFault text d → SourceFault text e → d ≡ e
  pub names : (p : Source) (e : NameError) → NamesFit p → NameFault p e → ⊥
  pub name_fault : (p : Source) (d e : NameError) → NameFault p d → NameFault p e → d ≡ e
  pub links : (n : NamedProgram) → IsPlaced n → (e : PlaceError) → PlaceFault n e → ⊥
  pub link_fault : (n : NamedProgram) (d e : PlaceError) → PlaceFault n d → PlaceFault n e → d ≡ e

-- why a source is refused, without what is no source
abbrev Reason : List ℕ → Refusal → Type 0
Reason contents (refusal.Text e) = ContentsFault contents e
Reason contents (refusal.Names e) = (p : Source) × IsSourceOf contents p × NameFault p e
Reason contents (refusal.Links e schedulers) = (p : Source) × IsSourceOf contents p × NamesFit p × PlaceFault (numbered p) e × (schedulers ≡ (numbered p).heads.schedulers)
Reason contents (refusal.Listing e) = ⊥
Reason contents (refusal.Code e modules) = ⊥
Reason contents (refusal.Locks e names) = ⊥

reason : (contents : List ℕ) (r : Refusal) → asks_well r → IsCause contents r → Reason contents r
reason contents (refusal.Text e) asks cause = cause
reason contents (refusal.Names e) asks (ASource p, text, fault) = (p, text, fault)
reason contents (refusal.Names e) asks (AListing c, text, fault) = absurd fault
reason contents (refusal.Names e) asks (AnExpansion p, text, fault) = absurd fault
reason contents (refusal.Links e schedulers) asks (ASource p, text, (fit, fault, names)) = (p, text, fit, fault, names)
reason contents (refusal.Links e schedulers) asks (AListing c, text, fault) = absurd fault
reason contents (refusal.Links e schedulers) asks (AnExpansion p, text, fault) = absurd fault
reason contents (refusal.Listing e) asks cause = absurd asks
reason contents (refusal.Code e modules) asks cause = absurd asks
reason contents (refusal.Locks e names) asks cause = absurd asks

pub same_source : (laws : Laws) (contents : List ℕ) (p q : Source) → IsSourceOf contents p → IsSourceOf contents q → p ≡ q
same_source laws contents p q a b = laws.one contents p q a.reads b.reads

text_is_read : (laws : Laws) (contents : List ℕ) (p : Source) (e : ParseError) → IsSourceOf contents p → ContentsFault contents e → ⊥
text_is_read laws contents p e text (inl long) = let short = text.short in omega (arith, long.0, short)
text_is_read laws contents p e text (inr fault) = laws.text contents p e text.reads fault.1

one_text_fault : (laws : Laws) (contents : List ℕ) (d e : ParseError) → ContentsFault contents d → ContentsFault contents e → d ≡ e
one_text_fault laws contents d e (inl a) (inl b) = a.1 ∙ sym b.1
one_text_fault laws contents d e (inl a) (inr b) = absurd (omega (arith, a.0, b.0))
one_text_fault laws contents d e (inr a) (inl b) = absurd (omega (arith, a.0, b.0))
one_text_fault laws contents d e (inr a) (inr b) = laws.text_fault contents d e a.1 b.1

well_reason : (laws : Laws) (contents : List ℕ) (p : Source) (r : Refusal) → IsSourceOf contents p → Well p → Reason contents r → ⊥
well_reason laws contents p (refusal.Text e) text well fault = text_is_read laws contents p e text fault
well_reason laws contents p (refusal.Names e) text well (q, other, fault) = laws.names q e (subst NamesFit (same_source laws contents p q text other) well.names) fault
well_reason laws contents p (refusal.Links e schedulers) text well (q, other, fit, fault, names) =
    laws.links (numbered q) (subst (λ (s : Source). IsPlaced (numbered s)) (same_source laws contents p q text other) well.links) e fault
well_reason laws contents p (refusal.Listing e) text well fault = fault
well_reason laws contents p (refusal.Code e modules) text well fault = fault
well_reason laws contents p (refusal.Locks e names) text well fault = fault

-- a source whose names and links are correct isn't refused
pub well_refused : (laws : Laws) (contents : List ℕ) (p : Source) (r : Refusal) → IsWellSourceOf contents p → asks_well r → IsCause contents r → ⊥
well_refused laws contents p r well asks cause = well_reason laws contents p r well.0 well.1 (reason contents r asks cause)

named_fit : (laws : Laws) (contents : List ℕ) (p q : Source) (e : NameError) → IsSourceOf contents p → NameFault p e → IsSourceOf contents q → NamesFit q → ⊥
named_fit laws contents p q e a fault b fit = laws.names p e (subst NamesFit (same_source laws contents q p b a) fit) fault

one_reason : (laws : Laws) (contents : List ℕ) (r q : Refusal) → Reason contents r → Reason contents q → q ≡ r
one_reason laws contents (refusal.Text d) (refusal.Text e) a b = ap (λ (i : ParseError). refusal.Text i) (one_text_fault laws contents e d b a)
one_reason laws contents (refusal.Text d) (refusal.Names e) a (q, text, fault) = absurd (text_is_read laws contents q d text a)
one_reason laws contents (refusal.Text d) (refusal.Links e schedulers) a (q, text, fit, fault, names) = absurd (text_is_read laws contents q d text a)
one_reason laws contents (refusal.Names d) (refusal.Text e) (p, text, fault) b = absurd (text_is_read laws contents p e text b)
one_reason laws contents (refusal.Names d) (refusal.Names e) (p, text, fault) (q, other, also) =
    ap (λ (i : NameError). refusal.Names i) (laws.name_fault p e d (subst (λ (s : Source). NameFault s e) (same_source laws contents q p other text) also) fault)
one_reason laws contents (refusal.Names d) (refusal.Links e schedulers) (p, text, fault) (q, other, fit, also, names) = absurd (named_fit laws contents p q d text fault other fit)
one_reason laws contents (refusal.Links d schedulers) (refusal.Text e) (p, text, fit, fault, names) b = absurd (text_is_read laws contents p e text b)
one_reason laws contents (refusal.Links d schedulers) (refusal.Names e) (p, text, fit, fault, names) (q, other, also) = absurd (named_fit laws contents q p e other also text fit)
one_reason laws contents (refusal.Links d schedulers) (refusal.Links e others) (p, text, fit, fault, names) (q, other, fits, also, named) =
    let same = same_source laws contents q p other text in
    let faults : e ≡ d = laws.link_fault (numbered p) e d (subst (λ (s : Source). PlaceFault (numbered s) e) same also) fault in
    let lists : others ≡ schedulers = named ∙ (ap (λ (s : Source). (numbered s).heads.schedulers) same ∙ sym names) in
    ap (λ (i : PlaceError). refusal.Links i others) faults ∙ ap (λ (n : List (List ℕ)). refusal.Links d n) lists
one_reason laws contents r (refusal.Listing e) a b = absurd b
one_reason laws contents r (refusal.Code e modules) a b = absurd b
one_reason laws contents r (refusal.Locks e names) a b = absurd b
one_reason laws contents (refusal.Listing e) q a b = absurd a
one_reason laws contents (refusal.Code e modules) q a b = absurd a
one_reason laws contents (refusal.Locks e names) q a b = absurd a

-- a source is refused for one reason
pub one_refusal : (laws : Laws) (contents : List ℕ) (r q : Refusal) → asks_well r → IsCause contents r → asks_well q → IsCause contents q → q ≡ r
one_refusal laws contents r q asks cause also other = one_reason laws contents r q (reason contents r asks cause) (reason contents q also other)

-- ---- what the reading and the placing answer

pub unread : (contents : List ℕ) (e : Stopped) → IsFault contents e → IsUnsound contents (stop_of_source e)
unread contents (stopped.Refused (refusal.Text e)) fault = (tt, fault)
unread contents (stopped.Refused (refusal.Names e)) fault = absurd fault
unread contents (stopped.Refused (refusal.Links e schedulers)) fault = absurd fault
unread contents (stopped.Refused (refusal.Listing e)) fault = absurd fault
unread contents (stopped.Refused (refusal.Code e modules)) fault = absurd fault
unread contents (stopped.Refused (refusal.Locks e names)) fault = absurd fault
unread contents stopped.FileFault fault = tt
unread contents stopped.SinkFault fault = fault
unread contents stopped.NoMemory fault = tt

pub unplaced : (contents : List ℕ) (p : Source) (e : Stopped) → IsSourceOf contents p → IsUnfit p e → IsUnsound contents (stop_of_source e)
unplaced contents p (stopped.Refused (refusal.Text e)) text fault = absurd fault
unplaced contents p (stopped.Refused (refusal.Names e)) text fault = (tt, (ASource p, text, fault))
unplaced contents p (stopped.Refused (refusal.Links e schedulers)) text fault = (tt, (ASource p, text, fault))
unplaced contents p (stopped.Refused (refusal.Listing e)) text fault = absurd fault
unplaced contents p (stopped.Refused (refusal.Code e modules)) text fault = absurd fault
unplaced contents p (stopped.Refused (refusal.Locks e names)) text fault = absurd fault
unplaced contents p stopped.FileFault text fault = tt
unplaced contents p stopped.SinkFault text fault = fault
unplaced contents p stopped.NoMemory text fault = tt
