-- The canonical lines of a program are kept apart in their pieces.
use Rattle.std.proofs.Common.{ℕ, ◌+◌, ◌≤◌, Bool, true, false, ℤ, pos, negsuc, List, [], ◌∷◌, ◌++◌, length, Option, Some, None, refl, arith, inl, inr}
use Rattle.std.proofs.lemmas.Int.{ints}
use Rattle.loft_lex.specs.declared.word.Word.{Word}
use Rattle.loft_lex.specs.declared.word.Word.TheVariants as w
use Rattle.loft_lex.specs.declared.sign.Sign.TheVariants as s
use Rattle.loft_lex.specs.Symbol.{Numeral, Quoted}
use Rattle.loft_tree.specs.Source.{Ident, EventName, Expression, Creation, Statement, Assign, AssignCreate, Create, PrintText, PrintValue, Cooperate, Generate, Await, Select, Get, Join, ControlThread, Broadcast, Link, Unlink, Run, Halt, If, While, Repeat, Statements, Done, Then, Named, PlaceName, InScheduler, Unlinked, ModuleHead, Argument, ANumber, AName, Order, CreateThere, ControlThere, BroadcastThere, Declaration, Scheduler, Event, Shared, Module, Start, Outside, Source}
use Rattle.loft_tree.specs.Fits.{Each, IfThere, NameFits, EventNameFits, NumberFits, SignedFits, ExpressionFits, StatementFits, StatementsFit, PlaceFits, EndFits, ArgumentFits, CallFits, OrderFits, DeclarationFits}
use Rattle.loft_show.specs.Canon.{Piece, line, space, tight, spaced, word, sign, name, ended, expression_pieces, signed_pieces, bracketed_pieces, creation_pieces, name_pieces, event_pieces, control_word, test_line, end_line, statement_lines, body_lines, else_lines, kind_word, named_pieces, place_pieces, head_line, local_lines, argument_pieces, call_pieces, order_line, order_lines, declaration_lines, source_lines}
use Rattle.loft_show.proofs.reads.Lexes.{LineFits}
use Rattle.loft_show.proofs.reads.Kept.{Flows, Kept, ◌then◌, loose, none, at_gap, space_blank, spaced_is, tight_is, tight_sign, expression_kept, further_kept, brackets_kept, led_kept, arguments_kept, name_kept, word_kept, called_kept, comma_kept, for_kept, instants_kept, value_kept, line_kept, ended_kept, word_line_kept}

-- all of two lists
both_lists : {A : Type 0} (P : A → Type 0) (xs ys : List A) → Each P xs → Each P ys → Each P (xs ++ ys)
both_lists P [] ys p q = q
both_lists P (x ∷ xs) ys p q = (p.0, both_lists P xs ys p.1 q)

-- ---- statements

pub creation_kept : (n : ℕ) (x : Creation) → NameFits x.scheduler → NameFits x.called → Each (ExpressionFits n) x.arguments → Flows false true (creation_pieces x)
creation_kept n x there runs each = called_kept x.scheduler x.called (bracketed_pieces expression_pieces x.arguments) there runs (arguments_kept n x.arguments each)

events_kept : (xs : List EventName) → Each EventNameFits xs → Each (λ x. Kept (event_pieces x)) xs
events_kept [] all = tt
events_kept (x ∷ xs) all = ((λ gap blank. at_gap gap (name x.name) blank all.0 refl), events_kept xs all.1)

-- " = " after a target, and what stands after it
pub assigned_kept : {b : Bool} {ps : List Piece} (target : Ident) → NameFits target → Flows false b ps → Flows true true (tight (name target) ∷ spaced (sign s.Equals) ∷ ended ps)
assigned_kept target fits p = tight_is (name target) fits refl then loose true (spaced_is (sign s.Equals) tt) then ended_kept p

test_kept : (n k : ℕ) (before : Word) (e : Expression) (after : Word) → ExpressionFits n e → LineFits (test_line k before e after)
test_kept n k before e after fits =
    line_kept (tight_is (word before) tt refl then spaced_is (sign s.Open) tt then expression_kept e fits.words [] tt then loose true (tight_sign s.Close refl) then word_kept after)

pub select_kept : (n k : ℕ) (at : ℕ) (events : List EventName) (e : Option Expression) → Each EventNameFits events → 2 ≤ length events → IfThere (ExpressionFits n) e → Each LineFits (statement_lines (Select at events e) k)
select_kept n k at [] e each several fits = absurd (omega arith)
select_kept n k at (x ∷ xs) e each several fits = (word_line_kept k w.Select (name_kept x.name each.0 then further_kept event_pieces xs (events_kept xs each.1) then for_kept n e fits), tt)

end_kept : (k : ℕ) → LineFits (end_line k)
end_kept k = line_kept (tight_is (word w.End) tt refl)

-- the lines of a statement, of a body and of an `else`
mutual
  pub statement_kept : (x : Statement) (n k : ℕ) → StatementFits x n → Each LineFits (statement_lines x k)
  statement_kept (Assign target value) n k fits = (line_kept (assigned_kept target fits.0 (value_kept n value fits.1)), tt)
  statement_kept (AssignCreate target at creation) n k fits = (line_kept (assigned_kept target fits.0 (word_kept w.Create then creation_kept n creation fits.1.scheduler fits.1.called fits.1.arguments.each)), tt)
  statement_kept (Create at creation) n k fits = (word_line_kept k w.Create (creation_kept n creation fits.scheduler fits.called fits.arguments.each), tt)
  statement_kept (PrintText at text value) n k fits = (word_line_kept k w.Print (spaced_is (Quoted text) fits.0 then comma_kept n value fits.1), tt)
  statement_kept (PrintValue at value) n k fits = (word_line_kept k w.Print (value_kept n value fits), tt)
  statement_kept (Cooperate at instants) n k fits = (word_line_kept k w.Cooperate (instants_kept n instants fits), tt)
  statement_kept (Generate at event value) n k fits = (word_line_kept k w.Generate (name_kept event.name fits.0 then comma_kept n value fits.1), tt)
  statement_kept (Await at event limit) n k fits = (word_line_kept k w.Await (name_kept event.name fits.0 then for_kept n limit fits.1), tt)
  statement_kept (Select at events limit) n k fits = select_kept n k at events limit fits.0.each fits.0.several fits.1
  statement_kept (Get at event index target) n k fits = (word_line_kept k w.Get (name_kept event.name fits.0 then word_kept w.At then value_kept n index fits.1 then word_kept w.Into then name_kept target fits.2), tt)
  statement_kept (Join at thread limit) n k fits = (word_line_kept k w.Join (value_kept n thread fits.0 then for_kept n limit fits.1), tt)
  statement_kept (ControlThread at control thread scheduler) n k fits = (word_line_kept k (control_word control) (value_kept n thread fits.0 then word_kept w.In then name_kept scheduler fits.1), tt)
  statement_kept (Broadcast at event value) n k fits = (word_line_kept k w.Broadcast (name_kept event.name fits.0 then comma_kept n value fits.1), tt)
  statement_kept (Link at scheduler) n k fits = (word_line_kept k w.Link (name_kept scheduler fits), tt)
  statement_kept (Unlink at) n k fits = (word_line_kept k w.Unlink none, tt)
  statement_kept (Run at called arguments) n k fits = (word_line_kept k w.Run (name_kept called fits.0 then arguments_kept n arguments fits.1.each), tt)
  statement_kept (Halt at) n k fits = (word_line_kept k w.Halt none, tt)
  statement_kept (If at test first second) n k (m, up, fits, p, q) =
      (test_kept m k w.If test w.Then fits, both_lists LineFits (body_lines first (k + 2)) (else_lines second k ++ end_line k ∷ []) (body_kept first m (k + 2) p) (both_lists LineFits (else_lines second k) (end_line k ∷ []) (else_kept second m k q) (end_kept k, tt)))
  statement_kept (While at test ss) n k (m, up, fits, p) = (test_kept m k w.While test w.Do fits, both_lists LineFits (body_lines ss (k + 2)) (end_line k ∷ []) (body_kept ss m (k + 2) p) (end_kept k, tt))
  statement_kept (Repeat at count ss) n k (m, up, fits, p) = (test_kept m k w.Repeat count w.Do fits, both_lists LineFits (body_lines ss (k + 2)) (end_line k ∷ []) (body_kept ss m (k + 2) p) (end_kept k, tt))

  body_kept : (ss : Statements) (n k : ℕ) → StatementsFit ss n → Each LineFits (body_lines ss k)
  body_kept Done n k fits = tt
  body_kept (Then first rest) n k fits = both_lists LineFits (statement_lines first k) (body_lines rest k) (statement_kept first n k fits.0) (body_kept rest n k fits.1)

  else_kept : (ss : Statements) (n k : ℕ) → StatementsFit ss n → Each LineFits (else_lines ss k)
  else_kept Done n k fits = tt
  else_kept (Then first rest) n k fits =
      (line_kept (tight_is (word w.Else) tt refl), both_lists LineFits (statement_lines first (k + 2)) (body_lines rest (k + 2)) (statement_kept first n (k + 2) fits.0) (body_kept rest n (k + 2) fits.1))

-- ---- items

number_fits : (k : ℕ) → SignedFits (pos k) → NumberFits (pos k)
number_fits k (m, small, inl e) = (m, small, e)
number_fits k (m, small, inr e) = (k, omega (arith, ints), refl)

minus_fits : (k : ℕ) → SignedFits (negsuc k) → NumberFits (pos (k + 1))
minus_fits k (m, small, inl e) = absurd cc
minus_fits k (m, small, inr e) = (k + 1, omega (arith, ints), refl)

signed_kept : (value : ℤ) → SignedFits value → Kept (signed_pieces value)
signed_kept (pos k) fits gap blank = at_gap gap (Numeral (pos k)) blank (number_fits k fits) refl
signed_kept (negsuc k) fits gap blank = at_gap gap (sign s.Minus) blank tt refl then tight_is (Numeral (pos (k + 1))) (minus_fits k fits) refl

pub named_kept : (v : Named) → NameFits v.name → Kept (named_pieces v)
named_kept v fits gap blank = at_gap gap (word (kind_word v.kind)) blank tt refl then name_kept v.name fits

all_named_kept : (vs : List Named) → Each (λ v. NameFits v.name) vs → Each (λ v. Kept (named_pieces v)) vs
all_named_kept [] all = tt
all_named_kept (v ∷ vs) all = (named_kept v all.0, all_named_kept vs all.1)

place_kept : (x : PlaceName) → PlaceFits x → Kept (place_pieces x)
place_kept (InScheduler x) fits gap blank = at_gap gap (name x) blank fits refl
place_kept Unlinked fits gap blank = at_gap gap (word w.Unlinked) blank tt refl

ending_kept : (begin : PlaceName) (end : Option PlaceName) → EndFits begin end → IfThere (λ x. Kept (place_pieces x)) end
ending_kept begin None fits = tt
ending_kept begin (Some end) fits = place_kept end fits.0

pub head_kept : (h : ModuleHead) → NameFits h.name → Each (λ v. NameFits v.name) h.parameters → PlaceFits h.begin → EndFits h.begin h.end → LineFits (head_line h)
head_kept h called parameters begin end =
    line_kept (tight_is (word w.Module) tt refl then name_kept h.name called then loose true (brackets_kept named_pieces h.parameters (all_named_kept h.parameters parameters)) then word_kept w.In
    then place_kept h.begin begin space space_blank then led_kept place_pieces (spaced (word w.To) ∷ []) h.end (word_kept w.To) (ending_kept h.begin h.end end))

locals_kept : (vs : List Named) → Each (λ v. NameFits v.name) vs → Each LineFits (local_lines vs)
locals_kept [] all = tt
locals_kept (v ∷ vs) all = (line_kept (tight_is (word w.Local) tt refl then ended_kept (named_kept v all.0 space space_blank)), locals_kept vs all.1)

argument_kept : (x : Argument) → ArgumentFits x → Kept (argument_pieces x)
argument_kept (ANumber at value) fits gap blank = signed_kept value fits gap blank
argument_kept (AName x) fits gap blank = at_gap gap (name x) blank fits refl

outer_arguments_kept : (xs : List Argument) → Each ArgumentFits xs → Each (λ x. Kept (argument_pieces x)) xs
outer_arguments_kept [] all = tt
outer_arguments_kept (x ∷ xs) all = (argument_kept x all.0, outer_arguments_kept xs all.1)

call_kept : (scheduler called : Ident) (xs : List Argument) → CallFits scheduler called xs → Flows false true (call_pieces scheduler called xs)
call_kept scheduler called xs fits = called_kept scheduler called (bracketed_pieces argument_pieces xs) fits.there fits.runs (brackets_kept argument_pieces xs (outer_arguments_kept xs fits.each))

if_signed_kept : (x : Option ℤ) → IfThere SignedFits x → IfThere (λ y. Kept (signed_pieces y)) x
if_signed_kept None fits = tt
if_signed_kept (Some x) fits = signed_kept x fits

pub order_kept : (x : Order) → OrderFits x → LineFits (order_line x)
order_kept (CreateThere scheduler called arguments) fits = word_line_kept 2 w.Create (call_kept scheduler called arguments fits)
order_kept (ControlThere control thread scheduler) fits = word_line_kept 2 (control_word control) (name_kept thread fits.0 then word_kept w.In then name_kept scheduler fits.1)
order_kept (BroadcastThere event value) fits = word_line_kept 2 w.Broadcast (name_kept event.name fits.0 then led_kept signed_pieces (tight (sign s.Comma) ∷ []) value (loose true (tight_sign s.Comma refl)) (if_signed_kept value fits.1))

orders_kept : (xs : List Order) → Each OrderFits xs → Each LineFits (order_lines xs)
orders_kept [] all = tt
orders_kept (x ∷ xs) all = (order_kept x all.0, orders_kept xs all.1)

alias_kept : (x : Option Ident) → IfThere NameFits x → IfThere (λ y. Kept (name_pieces y)) x
alias_kept None fits = tt
alias_kept (Some x) fits = λ gap blank. at_gap gap (name x) blank fits refl

pub declaration_kept : (x : Declaration) → DeclarationFits x → Each LineFits (declaration_lines x)
declaration_kept (Scheduler x) fits = (word_line_kept 0 w.Scheduler (name_kept x fits), tt)
declaration_kept (Event x scheduler) fits = (word_line_kept 0 w.Event (name_kept x fits.0 then word_kept w.In then name_kept scheduler fits.1), tt)
declaration_kept (Shared x scheduler value) fits =
    (word_line_kept 0 w.Shared (name_kept x fits.0 then word_kept w.In then name_kept scheduler fits.1 then loose true (spaced_is (sign s.Equals) tt) then signed_kept value fits.2 space space_blank), tt)
declaration_kept (Module h locals ss) fits =
    (head_kept h fits.name fits.parameters fits.begin fits.end, both_lists LineFits (local_lines locals) (body_lines ss 2 ++ end_line 0 ∷ []) (locals_kept locals fits.each_local) (both_lists LineFits (body_lines ss 2) (end_line 0 ∷ []) (body_kept ss 32 2 fits.statements) (end_kept 0, tt)))
declaration_kept (Start scheduler called arguments x) fits =
    (word_line_kept 0 w.Start (loose true (call_kept scheduler called arguments fits.0) then led_kept name_pieces (spaced (word w.As) ∷ []) x (word_kept w.As) (alias_kept x fits.1)), tt)
declaration_kept (Outside x orders) fits = (
  line_kept (tight_is (word w.Outside) tt refl then name_kept x fits.0 then spaced_is (sign s.OpenBrace) tt),
  both_lists LineFits (order_lines orders) (line 0 (tight (sign s.CloseBrace) ∷ []) ∷ []) (orders_kept orders fits.1) (line_kept (tight_is (sign s.CloseBrace) tt refl), tt),
)

pub source_kept : (p : Source) → Each DeclarationFits p → Each LineFits (source_lines p)
source_kept [] all = tt
source_kept (x ∷ p) all = both_lists LineFits (declaration_lines x) (source_lines p) (declaration_kept x all.0) (source_kept p all.1)
