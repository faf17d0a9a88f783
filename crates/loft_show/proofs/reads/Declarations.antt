-- The symbols of the canonical lines of a program spell it.
use Rattle.std.proofs.Common.{◌≡◌, ℕ, ◌+◌, ◌<◌, ◌≤◌, ℤ, Bool, if◌then◌else◌, List, [], ◌∷◌, ◌++◌, length, map, Option, Some, None, refl, sym, ap, ◌∙◌, arith}
use Rattle.std.specs.List.{count_by}
use Rattle.std.proofs.lemmas.List.{append-nil}
use Rattle.std.proofs.lemmas.List.Sums.{sum_by-cons}
use Rattle.std.specs.Option.{option_map}
use Rattle.loft_lex.specs.declared.word.Word.TheVariants as w
use Rattle.loft_lex.specs.declared.sign.Sign.TheVariants as s
use Rattle.loft_tree.specs.Source.{Ident, Statements, Named, PlaceName, InScheduler, Unlinked, ModuleHead, Argument, Order, Declaration, Scheduler, Event, Shared, Module, Start, Outside, Source}
use Rattle.loft_tree.specs.Fits.{Each, SignedFits, CallFits, OrderFits, EndFits, ModuleFits, DeclarationFits, SourceFits, size, is_scheduler, is_event, is_shared, is_module, is_start, is_outside}
use Rattle.loft_form.specs.Form.{many, maybe}
use Rattle.loft_form.specs.Reading.{paid}
use Rattle.loft_grammar.specs.declared.counts.Counted.{Counted}
use Rattle.loft_grammar.specs.declared.counts.Counted.TheVariants as count
use Rattle.loft_grammar.specs.declared.counts.Counts.{Counts}
use Rattle.loft_grammar.specs.Counts.{most, number, put, none as nothing}
use Rattle.loft_grammar.specs.Items.{end_of, head, module_item, scheduler_item, event_item, shared_item, start_item, outside_item, alias, item, program}
use Rattle.loft_grammar.specs.Limits.{limits}
use Rattle.loft_grammar.specs.Texts.{SpellsProgram}
use Rattle.loft_show.specs.Canon.{Piece, line, word_line, space, tight, spaced, word, sign, name, led_by, signed_pieces, name_pieces, call_pieces, head_line, local_lines, body_lines, end_line, order_lines, declaration_lines, source_lines}
use Rattle.loft_show.specs.Places.{bare_name, bare_named, bare_place, bare_body, bare_head, bare_declaration, without_places}
use Rattle.loft_show.proofs.reads.Spelling as spelling
use Rattle.loft_show.proofs.reads.Spelling.{syms, line_pieces, Is, spelled_as, valued_as}
use Rattle.loft_show.proofs.reads.Parts.{After, Part, ◌then◌, some, none, built, grouped, joined, word_is, sign_is, name_is}
use Rattle.loft_show.proofs.reads.Statements.{semicolon}
use Rattle.loft_show.proofs.reads.Bodies.{pieces_joined, body_of-list, body_is}
use Rattle.loft_show.proofs.reads.Items.{signed_is, parameters_are, locals_are, place_is, ending_is, call_is, followed, SameItems, orders_are}

-- what a declaration counts as
abbrev pub what_of : Declaration → Counted
what_of (Scheduler name) = count.Scheduler
what_of (Event name scheduler) = count.Event
what_of (Shared name scheduler value) = count.Shared
what_of (Module h locals ss) = count.Module
what_of (Start scheduler called arguments name) = count.Start
what_of (Outside name orders) = count.Client

-- one more of these
abbrev pub one_more_of : Declaration → Counts → Counts
one_more_of x c = put (what_of x) (number (what_of x) c + 1) c

-- the lines of a declaration spell it
abbrev pub DeclarationIs : Declaration → Type 0
DeclarationIs x = (c : Counts) → number (what_of x) c < most (what_of x) → (d : Counts) × SameItems (one_more_of x c) d × Is limits 32 item (syms (line_pieces (declaration_lines x))) (paid c) (bare_declaration x) (paid d)

same_after : {k : ℕ} {c d : Counts} → After k c d → SameItems c d
same_after {k} {c} {d} p = record { schedulers = p.schedulers; events = p.events; shared = p.shared; modules = p.modules; starts = p.starts; clients = p.clients }

-- the pieces of one line
on_line : {c d : Counts} {x : Declaration} (ps : List Piece) → Is limits 32 item (syms ps) (paid c) x (paid d) → Is limits 32 item (syms (ps ++ [])) (paid c) x (paid d)
on_line ps p = spelled_as (sym (ap syms (append-nil ps))) p

scheduler_is : (x : Ident) → DeclarationIs (Scheduler x)
unfolding item scheduler_item
scheduler_is x c few =
    let (d, after, whole) = followed (spelling.first_word_is c count.Scheduler w.Scheduler few) (name_is {gap = space} x then semicolon) in
    (d, same_after after, spelling.left (spelling.built whole))

event_is : (x scheduler : Ident) → DeclarationIs (Event x scheduler)
unfolding item event_item
event_is x scheduler c few =
    let (d, after, whole) = followed (spelling.first_word_is c count.Event w.Event few) (name_is {gap = space} x then word_is {gap = space} w.In then name_is {gap = space} scheduler then semicolon) in
    (d, same_after after, spelling.right (spelling.left (spelling.built whole)))

shared_is : (x scheduler : Ident) (value : ℤ) → SignedFits value → DeclarationIs (Shared x scheduler value)
unfolding item shared_item
shared_is x scheduler value fits c few =
    let (d, after, whole) = followed (spelling.first_word_is c count.Shared w.Shared few) (name_is {gap = space} x then word_is {gap = space} w.In then name_is {gap = space} scheduler then sign_is {gap = space} s.Equals then signed_is value space fits then semicolon) in
    (d, same_after after, on_line (word_line 0 w.Shared (spaced (name x) ∷ spaced (word w.In) ∷ spaced (name scheduler) ∷ spaced (sign s.Equals) ∷ signed_pieces value space)).pieces (spelling.right (spelling.right (spelling.left (spelling.built whole)))))

-- ---- modules

end_kept : (begin : PlaceName) (end : Option PlaceName) → EndFits begin end → end_of (bare_place begin) (option_map bare_place end) ≡ option_map bare_place end
end_kept begin None fits = refl
end_kept (InScheduler m) (Some (InScheduler n)) fits = rw fits.1 refl
end_kept (InScheduler m) (Some Unlinked) fits = refl
end_kept Unlinked (Some (InScheduler n)) fits = refl
end_kept Unlinked (Some Unlinked) fits = absurd (let h = fits.1 in cc)

pub head_is : (h : ModuleHead) → length h.parameters ≤ 8 → EndFits h.begin h.end → (c : Counts) → c.modules < 256 → (d : Counts) × After 0 (put count.Module (c.modules + 1) c) d × Is limits 32 head (syms (head_line h).pieces) (paid c) (bare_head h) (paid d)
unfolding head
head_is h few_parameters end c few =
    let (d, after, whole) = followed (spelling.first_word_is c count.Module w.Module few) (name_is {gap = space} h.name then parameters_are h.parameters few_parameters then word_is {gap = space} w.In then place_is h.begin space then ending_is h.end) in
    (d, after, valued_as (λ i. record { name = bare_name h.name; parameters = map bare_named h.parameters; begin = bare_place h.begin; end = end_kept h.begin h.end end i }) (spelling.built whole))

module_same : (k : ℕ) (c d e g : Counts) → After 0 (put count.Module (c.modules + 1) c) d → After 0 (put count.Local 0 d) e → After k (put count.Statement 0 e) g → SameItems (put count.Module (c.modules + 1) c) g
module_same k c d e g p q r = omega arith

module_pieces : (h : ModuleHead) (locals : List Named) (ss : Statements) → syms (line_pieces (declaration_lines (Module h locals ss))) ≡ syms (head_line h).pieces ++ (syms (line_pieces (local_lines locals)) ++ (syms (line_pieces (body_lines ss 2)) ++ (syms (line_pieces (end_line 0 ∷ [])))))
module_pieces h locals ss =
    joined (head_line h).pieces (line_pieces (local_lines locals ++ (body_lines ss 2 ++ end_line 0 ∷ [])))
    ∙ ap (λ ts. syms (head_line h).pieces ++ ts) (ap syms (pieces_joined (local_lines locals) (body_lines ss 2 ++ end_line 0 ∷ [])) ∙ joined (line_pieces (local_lines locals)) (line_pieces (body_lines ss 2 ++ end_line 0 ∷ []))
    ∙ ap (λ ts. syms (line_pieces (local_lines locals)) ++ ts) (ap syms (pieces_joined (body_lines ss 2) (end_line 0 ∷ [])) ∙ joined (line_pieces (body_lines ss 2)) (line_pieces (end_line 0 ∷ []))))

module_is : (h : ModuleHead) (locals : List Named) (ss : Statements) → ModuleFits h locals ss → DeclarationIs (Module h locals ss)
unfolding item module_item
module_is h locals ss fits c few =
    let (d, after, first) = head_is h fits.few_parameters fits.end c few in
    let (e, again, second) = locals_are 32 locals (put count.Local 0 d) (omega (arith, fits.few_locals)) in
    let (g, last, third) = (body_is ss 32 2 fits.statements).at (put count.Statement 0 e) (omega (arith, fits.few_statements)) in (
      g,
      module_same (size ss) c d e g after again last,
      spelled_as (sym (module_pieces h locals ss)) (valued_as (ap (Module (bare_head h) (map bare_named locals)) (body_of-list (bare_body ss)))
          (spelling.right (spelling.right (spelling.right (spelling.left (spelling.built (spelling.◌then◌ first (spelling.◌then◌ (spelling.afresh second) (spelling.◌then◌ (spelling.afresh third) (spelling.word_is g w.End)))))))))),
    )

-- ---- starts and clients

alias_is : (x : Option Ident) → Part limits 32 (maybe alias) (led_by name_pieces (spaced (word w.As) ∷ []) x) (option_map bare_name x)
unfolding alias
alias_is None = none
alias_is (Some x) = some (built (word_is w.As then name_is x))

start_is : (scheduler called : Ident) (arguments : List Argument) (x : Option Ident) → CallFits scheduler called arguments → DeclarationIs (Start scheduler called arguments x)
unfolding item start_item
start_is scheduler called arguments x fits c few =
    let ps = call_pieces scheduler called arguments in
    let qs = led_by name_pieces (spaced (word w.As) ∷ []) x in
    let (d, after, whole) = followed (spelling.first_word_is c count.Start w.Start few) (grouped ps qs (tight (sign s.Semicolon) ∷ []) (call_is scheduler called arguments fits (alias_is x then semicolon))) in
    (d, same_after after, on_line (word_line 0 w.Start (ps ++ qs)).pieces (spelling.right (spelling.right (spelling.right (spelling.right (spelling.left (spelling.built whole)))))))

outside_same : (c d : Counts) → SameItems (put count.Order 0 (put count.Client (c.clients + 1) c)) d → SameItems (put count.Client (c.clients + 1) c) d
outside_same c d p = omega arith

outside_is : (x : Ident) (orders : List Order) → Each OrderFits orders → length orders ≤ 1024 → DeclarationIs (Outside x orders)
unfolding item outside_item
outside_is x orders all short c few =
    let m = put count.Client (c.clients + 1) c in
    let (d, same, list) = orders_are 32 orders all (put count.Order 0 m) (omega arith) in
    let brace = line 0 (tight (sign s.CloseBrace) ∷ []) ∷ [] in (
      d,
      outside_same c d same,
      spelled_as (ap (λ ts. syms (tight (word w.Outside) ∷ spaced (name x) ∷ spaced (sign s.OpenBrace) ∷ []) ++ ts) (sym (ap syms (pieces_joined (order_lines orders) brace) ∙ joined (line_pieces (order_lines orders)) (line_pieces brace))))
          (spelling.right (spelling.right (spelling.right (spelling.right (spelling.right (spelling.built (spelling.◌then◌ (spelling.first_word_is c count.Client w.Outside few) (spelling.◌then◌ (spelling.name_is m x) (spelling.◌then◌ (spelling.sign_is m s.OpenBrace) (spelling.◌then◌ (spelling.afresh list) (spelling.sign_is d s.CloseBrace))))))))))),
    )

pub declaration_is : (x : Declaration) → DeclarationFits x → DeclarationIs x
declaration_is (Scheduler x) fits = scheduler_is x
declaration_is (Event x scheduler) fits = event_is x scheduler
declaration_is (Shared x scheduler value) fits = shared_is x scheduler value fits.2
declaration_is (Module h locals ss) fits = module_is h locals ss fits
declaration_is (Start scheduler called arguments x) fits = start_is scheduler called arguments x fits.0
declaration_is (Outside x orders) fits = outside_is x orders fits.1 fits.2

-- ---- programs

-- so many declarations may follow
record Room (p : Source) (c : Counts) : Type 0 where
  schedulers : c.schedulers + count_by is_scheduler p ≤ 16
  events : c.events + count_by is_event p ≤ 256
  shared : c.shared + count_by is_shared p ≤ 256
  modules : c.modules + count_by is_module p ≤ 256
  starts : c.starts + count_by is_start p ≤ 4096
  clients : c.clients + count_by is_outside p ≤ 16

counts_first : (test : Declaration → Bool) (x : Declaration) (p : Source) → count_by test (x ∷ p) ≡ (if test x then 1 else 0) + count_by test p
counts_first test x p = sum_by-cons (λ y. if test y then 1 else 0) x p

room_first : (x : Declaration) (p : Source) (c : Counts) → Room (x ∷ p) c → number (what_of x) c < most (what_of x)
room_first (Scheduler x) p c room = (let few = room.schedulers in omega (arith, counts_first))
room_first (Event x scheduler) p c room = (let few = room.events in omega (arith, counts_first))
room_first (Shared x scheduler value) p c room = (let few = room.shared in omega (arith, counts_first))
room_first (Module h locals ss) p c room = (let few = room.modules in omega (arith, counts_first))
room_first (Start scheduler called arguments x) p c room = (let few = room.starts in omega (arith, counts_first))
room_first (Outside x orders) p c room = (let few = room.clients in omega (arith, counts_first))

room_after : (x : Declaration) (p : Source) (c d : Counts) → Room (x ∷ p) c → SameItems (one_more_of x c) d → Room p d
room_after (Scheduler x) p c d room same = omega (arith, counts_first)
room_after (Event x scheduler) p c d room same = omega (arith, counts_first)
room_after (Shared x scheduler value) p c d room same = omega (arith, counts_first)
room_after (Module h locals ss) p c d room same = omega (arith, counts_first)
room_after (Start scheduler called arguments x) p c d room same = omega (arith, counts_first)
room_after (Outside x orders) p c d room same = omega (arith, counts_first)

declarations_are : (p : Source) → Each DeclarationFits p → (c : Counts) → Room p c → (d : Counts) × Is limits 32 (many item) (syms (line_pieces (source_lines p))) (paid c) (without_places p) (paid d)
declarations_are [] all c room = (c, spelling.nothing_more)
declarations_are (x ∷ p) all c room =
    let (d, same, first) = declaration_is x all.0 c (room_first x p c room) in
    let (e, others) = declarations_are p all.1 d (room_after x p c d room same) in
    (e, spelled_as (sym (ap syms (pieces_joined (declaration_lines x) (source_lines p)) ∙ joined (line_pieces (declaration_lines x)) (line_pieces (source_lines p)))) (spelling.one_more first others))

-- the symbols of the canonical lines, without places, spell the program without places
pub source_is : (p : Source) → SourceFits p → SpellsProgram (syms (line_pieces (source_lines p))) (without_places p)
unfolding program
source_is p fits =
    let room : Room p nothing = record { schedulers = omega (arith, fits.schedulers); events = omega (arith, fits.events); shared = omega (arith, fits.shared); modules = omega (arith, fits.modules); starts = omega (arith, fits.starts); clients = omega (arith, fits.clients) } in
    let (d, whole) = declarations_are p fits.each nothing room in
    (paid d, whole.spells)
