-- Lines end at their only line feed.
use Rattle.std.proofs.Common.{◌≡◌, ℕ, ℤ, pos, negsuc, ◌+◌, inl, inr, Bool, true, false, ◌&&◌, List, [], ◌∷◌, ◌++◌, Option, Some, None, codes, refl, sym, ap, subst, ◌∙◌, append_assoc, arith}
use Rattle.std.proofs.lemmas.Int.{ints}
use Rattle.std.specs.Prelude.{replicate, nat_le, length, is_some}
use Rattle.std.specs.List.{list_all}
use Rattle.std.specs.Fmt.{decimal}
use Rattle.loft_lex.specs.declared.sign.Sign.{Sign}
use Rattle.loft_lex.specs.declared.sign.Sign.TheVariants as s
use Rattle.loft_lex.specs.declared.word.Word.{Word}
use Rattle.loft_lex.specs.declared.word.Word.TheVariants as w
use Rattle.loft_lex.specs.Bytes.{is_letter, is_name_byte, is_text_byte, begins}
use Rattle.loft_lex.specs.Fits.{is_text}
use Rattle.loft_lex.specs.Sign.{spelling as sign_spelling}
use Rattle.loft_lex.specs.Word.{spelling as word_spelling}
use Rattle.loft_lex.specs.Symbol.{Numeral, Quoted}
use Rattle.loft_lex.proofs.Runs.{left_of, right_of}
use Rattle.loft_lex.proofs.Spelled.{word_like_name}
use Rattle.loft_lex.proofs.Words.{word_of-spelling}
use Rattle.loft_tree.specs.Source as src
use Rattle.loft_tree.specs.Source.{Ident, Expression, Number, Variable, Special, Unary, Binary, Creation, Statement, Assign, AssignCreate, Create, PrintText, PrintValue, Cooperate, Generate, Await, Select, Get, Join, ControlThread, Broadcast, Link, Unlink, Run, Halt, If, While, Repeat, Named, PlaceName, InScheduler, Unlinked, ModuleHead, Argument, ANumber, AName, Declaration, Scheduler, Event, Shared, Module, Start, Outside}
use Rattle.loft_tree.specs.Fits.{Each, IfThere, NameFits, EventNameFits, NumberFits, SignedFits, WordsFit, ExpressionFits, PlaceFits, EndFits, ArgumentFits, CallFits, OrderFits, DeclarationFits}
use Rattle.loft_tree.specs.Levels.{left_bracketed, right_bracketed, sign_bracketed}
use Rattle.loft_grammar.specs.Limits.{nesting}
use Rattle.loft_grammar.specs.PartsFit.{LineCreationFits, LineFits, NamedFits, HeadFits}
use Rattle.loft_show.specs.Canon.{Piece, spelled, held, tight, spaced, sign, word, name, unary_sign, binary_sign, builtin_word, space, signed_pieces, expression_pieces, ended, line, lines_text, pieces_text, control_word, kind_word, word_line, creation_pieces, comma_part, for_part, led_by, further_pieces, list_pieces, event_pieces, name_pieces, named_pieces, place_pieces, argument_pieces, call_pieces, bracketed_pieces}
use Rattle.loft_show.specs.PartReads.{IsOneLine}
use Rattle.loft_listing_line.specs.Cuts.{IsWithout}
use Rattle.loft_listing_line.specs.Feeds.{EndsAtItsFeed}
use Rattle.loft_listing_line.specs.Instructions.{Instruction, Do, Stop, Branch, Enter, Count, Turn, Jump, End as EndOf, statement_text, instruction_text, feed}
use Rattle.loft_listing_line.specs.Rows.{ListingLine, Title, Item, Head, Local, Operation, End, Client, Order, Close, place_text, line_text}
use Rattle.loft_listing_line.specs.RowsFit.{IsSmall, IsOneLineItem, InstructionFits, ListingLineFits}
use Rattle.loft_listing_line.proofs.Without.{both_without, class_without, decimal_without, name_without}
use Rattle.loft_listing_line.proofs.Bare.{action_line, stop_line}

abbrev Plain : List ℕ → Type 0
Plain text = IsWithout 10 text

-- ---- pieces without a line feed

abbrev PlainPieces : List Piece → Type 0
PlainPieces [] = Unit {0}
PlainPieces (p ∷ ps) = Plain p.gap × Plain (spelled p.what) × PlainPieces ps

plain_text : (ps : List Piece) → PlainPieces ps → Plain (pieces_text ps)
plain_text [] plain = refl
plain_text (p ∷ ps) plain = both_without 10 p.gap (spelled p.what ++ pieces_text ps) plain.0 (both_without 10 (spelled p.what) (pieces_text ps) plain.1 (plain_text ps plain.2))

joined : (ps qs : List Piece) → PlainPieces ps → PlainPieces qs → PlainPieces (ps ++ qs)
joined [] qs first rest = rest
joined (p ∷ ps) qs first rest = (first.0, first.1, joined ps qs first.2 rest)

word_plain : (v : Word) → Plain (word_spelling v)
word_plain v =
    let like = word_like_name (word_spelling v) (ap is_some (word_of-spelling v)) in
    let rest = right_of (begins is_letter (word_spelling v)) (list_all is_name_byte (word_spelling v) && nat_le (length (word_spelling v)) 64) like in
    class_without is_name_byte 10 (word_spelling v) refl (left_of (list_all is_name_byte (word_spelling v)) (nat_le (length (word_spelling v)) 64) rest)

sign_plain : (v : Sign) → Plain (sign_spelling v)
sign_plain s.Semicolon = refl
sign_plain s.Comma = refl
sign_plain s.Dot = refl
sign_plain s.Open = refl
sign_plain s.Close = refl
sign_plain s.OpenBrace = refl
sign_plain s.CloseBrace = refl
sign_plain s.Equals = refl
sign_plain s.Plus = refl
sign_plain s.Minus = refl
sign_plain s.Star = refl
sign_plain s.Slash = refl
sign_plain s.Percent = refl
sign_plain s.Not = refl
sign_plain s.Same = refl
sign_plain s.Differs = refl
sign_plain s.Less = refl
sign_plain s.LessOrSame = refl
sign_plain s.Greater = refl
sign_plain s.GreaterOrSame = refl
sign_plain s.And = refl
sign_plain s.Or = refl

number_plain : (value : ℤ) → NumberFits value → Plain (spelled (Numeral value))
number_plain value (n, small, is) = subst (λ v. Plain (spelled (Numeral v))) (sym is) (decimal_without 10 n small refl)

quoted_plain : (bytes : List ℕ) → is_text bytes ≡ true → Plain (spelled (Quoted bytes))
quoted_plain bytes fits =
    let inside = class_without is_text_byte 10 bytes refl (left_of (list_all is_text_byte bytes) (nat_le (length bytes) 120) fits) in
    both_without 10 (codes "\"") (bytes ++ codes "\"") refl (both_without 10 bytes (codes "\"") inside refl)

name_plain : (n : Ident) → NameFits n → Plain (spelled (name n))
name_plain n fits = name_without 10 n.text refl fits

-- ---- expressions

held_plain : (t : Bool) (inner : List ℕ → List Piece) (gap : List ℕ) → Plain gap → ((g : List ℕ) → Plain g → PlainPieces (inner g)) → PlainPieces (held t inner gap)
held_plain true inner gap before inside = (before, refl, joined (inner []) (tight (sign s.Close) ∷ []) (inside [] refl) (refl, refl, tt))
held_plain false inner gap before inside = inside gap before

expression_plain : (e : Expression) → WordsFit e → (gap : List ℕ) → Plain gap → PlainPieces (expression_pieces e gap)
expression_plain (Number at value) fits gap before = (before, number_plain value fits, tt)
expression_plain (Variable n) fits gap before = (before, name_plain n fits, tt)
expression_plain (Special at builtin) fits gap before = (before, word_plain (builtin_word builtin), tt)
expression_plain (Unary at operator e) fits gap before =
    (before, sign_plain (unary_sign operator), held_plain (sign_bracketed e) (expression_pieces e) [] refl (λ g plain. expression_plain e fits g plain))
expression_plain (Binary operator left right) fits gap before =
    joined (held (left_bracketed operator left) (expression_pieces left) gap) (spaced (sign (binary_sign operator)) ∷ held (right_bracketed operator right) (expression_pieces right) space)
    (held_plain (left_bracketed operator left) (expression_pieces left) gap before (λ g plain. expression_plain left fits.0 g plain))
    (refl, sign_plain (binary_sign operator), held_plain (right_bracketed operator right) (expression_pieces right) space refl (λ g plain. expression_plain right fits.1 g plain))

value_plain : (e : Expression) → ExpressionFits nesting e → (gap : List ℕ) → Plain gap → PlainPieces (expression_pieces e gap)
value_plain e fits gap before = expression_plain e fits.words gap before

signed_plain : (value : ℤ) → SignedFits value → (gap : List ℕ) → Plain gap → PlainPieces (signed_pieces value gap)
signed_plain (pos k) (m, small, inl e) gap before = (before, number_plain (pos k) (m, small, e), tt)
signed_plain (pos k) (m, small, inr e) gap before = (before, number_plain (pos k) (k, omega (arith, ints), refl), tt)
signed_plain (negsuc k) (m, small, inl e) gap before = absurd cc
signed_plain (negsuc k) (m, small, inr e) gap before = (before, refl, (refl, number_plain (pos (k + 1)) (k + 1, omega (arith, ints), refl), tt))

-- ---- lists

module _ {A : Type 0} (one : A → List ℕ → List Piece) (Ok : A → Type 0) (plain : (x : A) → Ok x → (gap : List ℕ) → Plain gap → PlainPieces (one x gap)) where
  further_plain : (xs : List A) → Each Ok xs → PlainPieces (further_pieces one xs)
  further_plain [] all = tt
  further_plain (x ∷ xs) all = (refl, refl, joined (one x space) (further_pieces one xs) (plain x all.0 space refl) (further_plain xs all.1))

  list_plain : (xs : List A) → Each Ok xs → PlainPieces (list_pieces one xs)
  list_plain [] all = tt
  list_plain (x ∷ xs) all = joined (one x []) (further_pieces one xs) (plain x all.0 [] refl) (further_plain xs all.1)

  bracketed_plain : (xs : List A) → Each Ok xs → PlainPieces (bracketed_pieces one xs)
  bracketed_plain xs all = (refl, refl, joined (list_pieces one xs) (tight (sign s.Close) ∷ []) (list_plain xs all) (refl, refl, tt))

  led_plain : (ps : List Piece) (x : Option A) → PlainPieces ps → IfThere Ok x → PlainPieces (led_by one ps x)
  led_plain ps None before there = tt
  led_plain ps (Some x) before there = joined ps (one x space) before (plain x there space refl)

-- ---- statements

values_plain : (es : List Expression) → Each (ExpressionFits nesting) es → PlainPieces (bracketed_pieces expression_pieces es)
values_plain es all = bracketed_plain expression_pieces (ExpressionFits nesting) value_plain es all

if_value : (ps : List Piece) (e : Option Expression) → PlainPieces ps → IfThere (ExpressionFits nesting) e → PlainPieces (led_by expression_pieces ps e)
if_value ps e before there = led_plain expression_pieces (ExpressionFits nesting) value_plain ps e before there

comma_plain : (e : Option Expression) → IfThere (ExpressionFits nesting) e → PlainPieces (comma_part e)
comma_plain e there = if_value (tight (sign s.Comma) ∷ []) e (refl, refl, tt) there

for_plain : (e : Option Expression) → IfThere (ExpressionFits nesting) e → PlainPieces (for_part e)
for_plain e there = if_value (spaced (word w.For) ∷ []) e (refl, refl, tt) there

creation_plain : (x : Creation) → LineCreationFits x → PlainPieces (creation_pieces x)
creation_plain x fits = (refl, name_plain x.scheduler fits.0, (refl, refl, (refl, name_plain x.called fits.1, values_plain x.arguments fits.2)))

ended_plain : (ps : List Piece) → PlainPieces ps → PlainPieces (ended ps)
ended_plain ps plain = joined ps (tight (sign s.Semicolon) ∷ []) plain (refl, refl, tt)

line_ends : (n : ℕ) (ps : List Piece) → Plain (replicate n 32) → PlainPieces ps → EndsAtItsFeed (lines_text (line n ps ∷ []))
line_ends n ps before plain =
    (replicate n 32 ++ pieces_text ps, sym (append_assoc (replicate n 32) (pieces_text ps) feed), both_without 10 (replicate n 32) (pieces_text ps) before (plain_text ps plain))

word_ends : (n : ℕ) (v : Word) (ps : List Piece) → Plain (replicate n 32) → PlainPieces ps → EndsAtItsFeed (lines_text (word_line n v ps ∷ []))
word_ends n v ps before plain = line_ends n (tight (word v) ∷ ended ps) before (refl, word_plain v, ended_plain ps plain)

assign_ends : (target : Ident) (ps : List Piece) → NameFits target → PlainPieces ps → EndsAtItsFeed (lines_text (line 0 (tight (name target) ∷ spaced (sign s.Equals) ∷ ps) ∷ []))
assign_ends target ps fits plain = line_ends 0 (tight (name target) ∷ spaced (sign s.Equals) ∷ ps) refl (refl, name_plain target fits, (refl, refl, plain))

statement_ends : (x : Statement) → IsOneLine x → LineFits x → EndsAtItsFeed (statement_text x)
statement_ends (Assign target value) one fits =
    assign_ends target (ended (expression_pieces value space)) fits.0 (ended_plain (expression_pieces value space) (value_plain value fits.1 space refl))
statement_ends (AssignCreate target at creation) one fits =
    assign_ends target (spaced (word w.Create) ∷ ended (creation_pieces creation)) fits.0 (refl, refl, ended_plain (creation_pieces creation) (creation_plain creation fits.1))
statement_ends (Create at creation) one fits = word_ends 0 w.Create (creation_pieces creation) refl (creation_plain creation fits)
statement_ends (PrintText at text value) one fits =
    word_ends 0 w.Print (spaced (Quoted text) ∷ comma_part value) refl (refl, quoted_plain text fits.0, comma_plain value fits.1)
statement_ends (PrintValue at value) one fits = word_ends 0 w.Print (expression_pieces value space) refl (value_plain value fits space refl)
statement_ends (Cooperate at instants) one fits = word_ends 0 w.Cooperate (led_by expression_pieces [] instants) refl (if_value [] instants tt fits)
statement_ends (Generate at event value) one fits =
    word_ends 0 w.Generate (spaced (name event.name) ∷ comma_part value) refl (refl, name_plain event.name fits.0, comma_plain value fits.1)
statement_ends (Await at event limit) one fits =
    word_ends 0 w.Await (spaced (name event.name) ∷ for_part limit) refl (refl, name_plain event.name fits.0, for_plain limit fits.1)
statement_ends (Select at [] limit) one fits = word_ends 0 w.Select (for_part limit) refl (for_plain limit fits.2)
statement_ends (Select at (event ∷ events) limit) one fits =
    word_ends 0 w.Select (spaced (name event.name) ∷ (further_pieces event_pieces events ++ for_part limit)) refl (
      refl,
      name_plain event.name fits.0.0,
      joined (further_pieces event_pieces events) (for_part limit)
          (further_plain event_pieces EventNameFits (λ x ok gap before. (before, name_plain x.name ok, tt)) events fits.0.1) (for_plain limit fits.2),
    )
statement_ends (Get at event index target) one fits =
    word_ends 0 w.Get (spaced (name event.name) ∷ spaced (word w.At) ∷ (expression_pieces index space ++ spaced (word w.Into) ∷ spaced (name target) ∷ [])) refl (
      refl,
      name_plain event.name fits.0,
      (
        refl,
        refl,
        joined (expression_pieces index space) (spaced (word w.Into) ∷ spaced (name target) ∷ [])
            (value_plain index fits.1 space refl) (refl, refl, (refl, name_plain target fits.2, tt)),
      ),
    )
statement_ends (Join at thread limit) one fits =
    word_ends 0 w.Join (expression_pieces thread space ++ for_part limit) refl (joined (expression_pieces thread space) (for_part limit) (value_plain thread fits.0 space refl) (for_plain limit fits.1))
statement_ends (ControlThread at control thread scheduler) one fits =
    word_ends 0 (control_word control) (expression_pieces thread space ++ spaced (word w.In) ∷ spaced (name scheduler) ∷ []) refl
    (joined (expression_pieces thread space) (spaced (word w.In) ∷ spaced (name scheduler) ∷ []) (value_plain thread fits.0 space refl) (refl, refl, (refl, name_plain scheduler fits.1, tt)))
statement_ends (Broadcast at event value) one fits =
    word_ends 0 w.Broadcast (spaced (name event.name) ∷ comma_part value) refl (refl, name_plain event.name fits.0, comma_plain value fits.1)
statement_ends (Link at scheduler) one fits = word_ends 0 w.Link (spaced (name scheduler) ∷ []) refl (refl, name_plain scheduler fits, tt)
statement_ends (Unlink at) one fits = word_ends 0 w.Unlink [] refl tt
statement_ends (Run at called arguments) one fits =
    word_ends 0 w.Run (spaced (name called) ∷ bracketed_pieces expression_pieces arguments) refl (refl, name_plain called fits.0, values_plain arguments fits.1)
statement_ends (Halt at) one fits = word_ends 0 w.Halt [] refl tt
statement_ends (If at test first second) one fits = absurd one
statement_ends (While at test body) one fits = absurd one
statement_ends (Repeat at count body) one fits = absurd one

-- ---- declarations, heads and orders

argument_plain : (x : Argument) → ArgumentFits x → (gap : List ℕ) → Plain gap → PlainPieces (argument_pieces x gap)
argument_plain (ANumber at value) fits gap before = signed_plain value fits gap before
argument_plain (AName n) fits gap before = (before, name_plain n fits, tt)

call_plain : (scheduler called : Ident) (xs : List Argument) → CallFits scheduler called xs → PlainPieces (call_pieces scheduler called xs)
call_plain scheduler called xs fits =
    (refl, name_plain scheduler fits.there, (refl, refl, (refl, name_plain called fits.runs, bracketed_plain argument_pieces ArgumentFits argument_plain xs fits.each)))

item_ends : (d : Declaration) → IsOneLineItem d → DeclarationFits d → EndsAtItsFeed (line_text (Item d))
item_ends (Scheduler n) one fits = word_ends 0 w.Scheduler (spaced (name n) ∷ []) refl (refl, name_plain n fits, tt)
item_ends (Event n scheduler) one fits =
    word_ends 0 w.Event (spaced (name n) ∷ spaced (word w.In) ∷ spaced (name scheduler) ∷ []) refl (refl, name_plain n fits.0, (refl, refl, (refl, name_plain scheduler fits.1, tt)))
item_ends (Shared n scheduler value) one fits =
    word_ends 0 w.Shared (spaced (name n) ∷ spaced (word w.In) ∷ spaced (name scheduler) ∷ spaced (sign s.Equals) ∷ signed_pieces value space) refl
    (refl, name_plain n fits.0, (refl, refl, (refl, name_plain scheduler fits.1, (refl, refl, signed_plain value fits.2 space refl))))
item_ends (Module head' locals body) one fits = absurd one
item_ends (Start scheduler called arguments n) one fits =
    word_ends 0 w.Start (call_pieces scheduler called arguments ++ led_by name_pieces (spaced (word w.As) ∷ []) n) refl
    (joined (call_pieces scheduler called arguments) (led_by name_pieces (spaced (word w.As) ∷ []) n) (call_plain scheduler called arguments fits.0)
    (led_plain name_pieces NameFits (λ x ok gap before. (before, name_plain x ok, tt)) (spaced (word w.As) ∷ []) n (refl, refl, tt) fits.1))
item_ends (Outside n orders) one fits = absurd one

named_plain : (v : Named) → NamedFits v → (gap : List ℕ) → Plain gap → PlainPieces (named_pieces v gap)
named_plain v fits gap before = (before, word_plain (kind_word v.kind), (refl, name_plain v.name fits, tt))

place_plain : (p : PlaceName) → PlaceFits p → (gap : List ℕ) → Plain gap → PlainPieces (place_pieces p gap)
place_plain (InScheduler n) fits gap before = (before, name_plain n fits, tt)
place_plain Unlinked fits gap before = (before, refl, tt)

end_plain : (begin : PlaceName) (end : Option PlaceName) → EndFits begin end → IfThere PlaceFits end
end_plain begin None fits = tt
end_plain begin (Some p) fits = fits.0

head_ends : (h : ModuleHead) → HeadFits h → EndsAtItsFeed (line_text (Head h))
head_ends h fits =
    let last : List Piece = led_by place_pieces (spaced (word w.To) ∷ []) h.end in
    line_ends 0 (tight (word w.Module) ∷ spaced (name h.name) ∷ (bracketed_pieces named_pieces h.parameters ++ spaced (word w.In) ∷ (place_pieces h.begin space ++ last))) refl (
      refl,
      refl,
      (
        refl,
        name_plain h.name fits.name,
        joined (bracketed_pieces named_pieces h.parameters) (spaced (word w.In) ∷ (place_pieces h.begin space ++ last))
            (bracketed_plain named_pieces NamedFits named_plain h.parameters fits.parameters) (
              refl,
              refl,
              joined (place_pieces h.begin space) last (place_plain h.begin fits.begin space refl)
                  (led_plain place_pieces PlaceFits place_plain (spaced (word w.To) ∷ []) h.end (refl, refl, tt) (end_plain h.begin h.end fits.end)),
            ),
      ),
    )

order_ends : (x : src.Order) → OrderFits x → EndsAtItsFeed (line_text (Order x))
order_ends (src.CreateThere scheduler called arguments) fits = word_ends 2 w.Create (call_pieces scheduler called arguments) refl (call_plain scheduler called arguments fits)
order_ends (src.ControlThere control thread scheduler) fits =
    word_ends 2 (control_word control) (spaced (name thread) ∷ spaced (word w.In) ∷ spaced (name scheduler) ∷ []) refl
    (refl, name_plain thread fits.0, (refl, refl, (refl, name_plain scheduler fits.1, tt)))
order_ends (src.BroadcastThere event value) fits =
    word_ends 2 w.Broadcast (spaced (name event.name) ∷ led_by signed_pieces (tight (sign s.Comma) ∷ []) value) refl
    (refl, name_plain event.name fits.0, led_plain signed_pieces SignedFits signed_plain (tight (sign s.Comma) ∷ []) value (refl, refl, tt) fits.1)

-- ---- operations

after_ends : (before text : List ℕ) → Plain before → EndsAtItsFeed text → EndsAtItsFeed (before ++ text)
after_ends before text plain (front, whole, rest) =
    (before ++ front, ap (λ t. before ++ t) whole ∙ sym (append_assoc before front feed), both_without 10 before front plain rest)

number_ends : (n : ℕ) (text : List ℕ) → IsSmall n → EndsAtItsFeed text → EndsAtItsFeed (decimal n ++ text)
number_ends n text small ends = after_ends (decimal n) text (decimal_without 10 n small refl) ends

feed_ends : EndsAtItsFeed feed
feed_ends = ([], refl, refl)

value_ends : (e : Expression) → ExpressionFits nesting e → EndsAtItsFeed (pieces_text (expression_pieces e space) ++ feed)
value_ends e fits = (pieces_text (expression_pieces e space), refl, plain_text (expression_pieces e space) (value_plain e fits space refl))

instruction_ends : (i : Instruction) → InstructionFits i → EndsAtItsFeed (instruction_text i)
instruction_ends (Do x) fits = statement_ends x (action_line x fits) fits.1
instruction_ends (Stop k x) fits =
    after_ends (codes "@") (decimal k ++ (space ++ statement_text x)) refl
    (number_ends k (space ++ statement_text x) fits.0 (after_ends space (statement_text x) refl (statement_ends x (stop_line x fits.1) fits.1.1)))
instruction_ends (Branch t test) fits =
    after_ends (codes "branch ") (decimal t ++ (pieces_text (expression_pieces test space) ++ feed)) refl
    (number_ends t (pieces_text (expression_pieces test space) ++ feed) fits.0 (value_ends test fits.1))
instruction_ends Enter fits = (codes "enter", refl, refl)
instruction_ends (Count count) fits = after_ends (codes "count") (pieces_text (expression_pieces count space) ++ feed) refl (value_ends count fits)
instruction_ends (Turn t) fits = after_ends (codes "turn ") (decimal t ++ feed) refl (number_ends t feed fits feed_ends)
instruction_ends (Jump t) fits = after_ends (codes "jump ") (decimal t ++ feed) refl (number_ends t feed fits feed_ends)
instruction_ends EndOf fits = (codes "end", refl, refl)

pub line_ends_at_feed : (l : ListingLine) → ListingLineFits l → EndsAtItsFeed (line_text l)
line_ends_at_feed Title fits = (codes "loft-listing 1", refl, refl)
line_ends_at_feed (Item d) fits = item_ends d fits.0 fits.1
line_ends_at_feed (Head h) fits = head_ends h fits
line_ends_at_feed (Local v) fits = word_ends 0 w.Local (named_pieces v space) refl (named_plain v fits space refl)
line_ends_at_feed (Operation number p depth i) fits =
    number_ends number (place_text p ++ (space ++ (decimal depth ++ (space ++ instruction_text i)))) fits.0
    (after_ends (place_text p) (space ++ (decimal depth ++ (space ++ instruction_text i))) (plain_text (place_pieces p space) (place_plain p fits.1 space refl))
    (after_ends space (decimal depth ++ (space ++ instruction_text i)) refl
    (number_ends depth (space ++ instruction_text i) fits.2 (after_ends space (instruction_text i) refl (instruction_ends i fits.3)))))
line_ends_at_feed End fits = (codes "end", refl, refl)
line_ends_at_feed (Client n) fits =
    line_ends 0 (tight (word w.Outside) ∷ spaced (name n) ∷ spaced (sign s.OpenBrace) ∷ []) refl (refl, refl, (refl, name_plain n fits, (refl, refl, tt)))
line_ends_at_feed (Order x) fits = order_ends x fits
line_ends_at_feed Close fits = (codes "}", refl, refl)
