-- The text of a listing is what is written of its code.
use Rattle.std.proofs.Common.{◌≡◌, ℕ, List, [], ◌∷◌, ◌++◌, map, refl, sym, subst, ap, ◌∙◌}
use Rattle.std.specs.List.{flat_map}
use Rattle.loft_tree.specs.declared.kinds.Kind.{Kind}
use Rattle.loft_tree.specs.declared.heads.Heads.{Heads}
use Rattle.loft_tree.specs.Fits.{Each}
use Rattle.loft_tree.specs.Source.{AName, ANumber, Argument, BroadcastThere, ControlThere, CreateThere, Order, Outside, Source, Start}
use Rattle.loft_scopes.specs.Scopes.{Declared, declared, none_yet}
use Rattle.loft_scopes.specs.declared.scope.Scope.TheVariants.{Everywhere}
use Rattle.loft_names.specs.HeadOf.{HasHead}
use Rattle.loft_scopes.specs.Modules.{next_module}
use Rattle.loft_scopes.specs.Faults.{faults, place_of, twice_from, uses_from}
use Rattle.loft_names.specs.NamesHold.{OrderAgrees, OuterAgree, UsesAgree}
use Rattle.loft_numbers.specs.Numbers.{arguments_of, client_orders, clients_in, events_in, heads_of, schedulers_in, shared_in, signatures_in, starts_in}
use Rattle.loft_names.proofs.HeadsLists.{follows_all}
use Rattle.loft_names.proofs.HeadsMeaning.{none_left, none_right}
use Rattle.loft_names.proofs.HeadsNumbers.{each_declared_has}
use Rattle.loft_names.proofs.HoldsPrograms.{uses_agree}
use Rattle.loft_code.specs.Fits.{RawFits}
use Rattle.loft_code.specs.Operations.{Automata}
use Rattle.loft_listing_line.specs.Rows.{ListingLine, Title, bare_line, line_text}
use Rattle.loft_listing_line.specs.RowsFit.{ListingLineFits}
use Rattle.loft_listing_line.proofs.Bare.{same_line}
use Rattle.loft_listing_draft.specs.Drafts.{Draft, DraftFits, draft_lines, source_of}
use Rattle.loft_listing_names.specs.Wrong.{declaration_misplaced, heads_in, modules_wrong, wrong_offsets}
use Rattle.loft_listing_reader.specs.Lists.{Lists}
use Rattle.loft_listing_reader.specs.Numbered.{modules_from, numbered}
use Rattle.loft_listing_reader.proofs.KeepsCode.{numbered_keeps}
use Rattle.loft_listing.specs.Lines.{listing_lines}
use Rattle.loft_listing.specs.Listing.{listing_text}
use Rattle.loft_listing_roundtrip.specs.ThreadsNamed.{ArgumentNamed, ClientNamed, OrderNamed, StartNamed, ThreadsNamed}
use Rattle.loft_listing_roundtrip.proofs.ListingBack.{lines_read}
use Rattle.loft_listing_roundtrip.proofs.NamesBack.{start_named}

none_mapped : {A B : Type 0} (f : A → B) (xs : List A) → map f xs ≡ [] → xs ≡ []
none_mapped f [] none = refl
none_mapped f (x ∷ xs) none = absurd cc

-- a draft without wrong names uses names as they have to be, and its operations have right names
right_uses : (d : Draft) → wrong_offsets d ≡ [] → UsesAgree (declared (source_of d)) 0 (source_of d) × (modules_wrong (declared (source_of d)) 0 d ≡ [])
right_uses d right =
    let p : Source = source_of d in
    let ds : List Declared = declared p in
    let none : faults p ≡ [] = none_mapped place_of (faults p) (none_left (map place_of (faults p)) _ right) in
    let others = none_right (map place_of (faults p)) (flat_map (declaration_misplaced ds (heads_in p)) p ++ modules_wrong ds 0 d) right in
    (uses_agree ds 0 p (none_right (twice_from [] ds) (uses_from ds 0 p) none), none_right (flat_map (declaration_misplaced ds (heads_in p)) p) (modules_wrong ds 0 d) others)

-- the lines of the code are those of the draft, without offsets
lines_same : (d : Draft) → DraftFits d → wrong_offsets d ≡ [] → listing_lines (numbered d) ≡ map bare_line (draft_lines d)
lines_same d fits right =
    let p : Source = source_of d in
    let ds : List Declared = declared p in
    let h : Heads = heads_of ds p in
    let uses = right_uses d right in
    ap (λ ls. Title ∷ ls) (lines_read h (modules_from ds 0 d) ds (each_declared_has p) none_yet d (record {
      schedulers = follows_all (schedulers_in p);
      events = follows_all (events_in ds p);
      shared = follows_all (shared_in ds p);
      heads = follows_all (signatures_in ds 0 p);
      starts = follows_all (starts_in ds p);
      clients = follows_all (clients_in ds p);
      lines = follows_all (modules_from ds 0 d);
    }) uses.0 fits.source.each fits.lines.1 uses.1)

-- without offsets lines have the same texts
texts_back : (ls : List ListingLine) → Each ListingLineFits ls → flat_map line_text (map bare_line ls) ≡ flat_map line_text ls
texts_back [] fit = refl
texts_back (l ∷ ls) fit = (λ i. same_line l fit.0 i ++ texts_back ls fit.1 i)

same_texts : (d : Draft) → DraftFits d → wrong_offsets d ≡ [] → listing_text (numbered d) ≡ flat_map line_text (draft_lines d)
same_texts d fits right = ap (flat_map line_text) (lines_same d fits right) ∙ texts_back (draft_lines d) fits.lines

pub text_is_written : (text : List ℕ) (c : Automata) → Lists text c → text ≡ listing_text c
text_is_written text c (d, lists) = lists.said.written ∙ sym (same_texts d lists.said.fits lists.right) ∙ ap listing_text (sym lists.numbers)

-- ---- what the code of a listing keeps

pub keeps_limits : (text : List ℕ) (c : Automata) → Lists text c → RawFits c
keeps_limits text c (d, lists) = subst RawFits (sym lists.numbers) (numbered_keeps d lists.said.fits lists.right)

module _ (ds : List Declared) (h : Heads) (each : Each (HasHead h) ds) where
  arguments_named : (kinds : List Kind) (args : List Argument) → OuterAgree ds Everywhere kinds args → Each (ArgumentNamed h) (arguments_of ds Everywhere args)
  arguments_named [] [] agree = tt
  arguments_named [] (a ∷ args) agree = absurd agree
  arguments_named (kind ∷ kinds) [] agree = absurd agree
  arguments_named (kind ∷ kinds) (ANumber at value ∷ args) agree = (tt, arguments_named kinds args agree.1)
  arguments_named (kind ∷ kinds) (AName name ∷ args) agree = ((name.text, start_named ds h each Everywhere name agree.0.0), arguments_named kinds args agree.1)

  orders_named : (xs : List Order) → Each (OrderAgrees ds Everywhere) xs → Each (OrderNamed h) (client_orders ds Everywhere xs)
  orders_named [] agree = tt
  orders_named (CreateThere scheduler called arguments ∷ xs) agree = (arguments_named agree.0.1 arguments agree.0.3, orders_named xs agree.1)
  orders_named (ControlThere control thread scheduler ∷ xs) agree = ((thread.text, start_named ds h each Everywhere thread agree.0.0), orders_named xs agree.1)
  orders_named (BroadcastThere event value ∷ xs) agree = (tt, orders_named xs agree.1)

  starts_named : (m : ℕ) (p : Source) → UsesAgree ds m p → Each (StartNamed h) (starts_in ds p)
  starts_named m [] agree = tt
  starts_named m (Start scheduler called arguments name ∷ p) agree = (arguments_named agree.0.1 arguments agree.0.3, starts_named m p agree.1)
  starts_named m (d ∷ p) agree = starts_named (next_module m d) p agree.1

  clients_named : (m : ℕ) (p : Source) → UsesAgree ds m p → Each (ClientNamed h) (clients_in ds p)
  clients_named m [] agree = tt
  clients_named m (Outside name orders ∷ p) agree = (orders_named orders agree.0, clients_named m p agree.1)
  clients_named m (d ∷ p) agree = clients_named (next_module m d) p agree.1

-- the threads that a source without faults names have names
pub names_threads : (p : Source) → UsesAgree (declared p) 0 p → ThreadsNamed (heads_of (declared p) p)
names_threads p uses = record {
  starts = starts_named (declared p) (heads_of (declared p) p) (each_declared_has p) 0 p uses;
  clients = clients_named (declared p) (heads_of (declared p) p) (each_declared_has p) 0 p uses;
}

pub threads_are_named : (text : List ℕ) (c : Automata) → Lists text c → ThreadsNamed c.heads
threads_are_named text c (d, lists) = subst (λ (x : Automata). ThreadsNamed x.heads) (sym lists.numbers) (names_threads (source_of d) (right_uses d lists.right).0)
