-- The symbols of canonical statements spell them.
use Rattle.std.proofs.Common.{◌≡◌, ℕ, ◌+◌, ◌<◌, ◌≤◌, List, [], ◌∷◌, ◌++◌, length, map, Option, Some, None, refl, sym, subst, arith}
use Rattle.std.proofs.lemmas.List.{append-nil}
use Rattle.loft_lex.specs.declared.word.Word.{Word}
use Rattle.loft_lex.specs.declared.word.Word.TheVariants as w
use Rattle.loft_lex.specs.declared.sign.Sign.TheVariants as s
use Rattle.loft_lex.specs.Symbol.{Symbol, Named as NamedWhat, Keyword, Mark}
use Rattle.loft_tree.specs.declared.kinds.Control.{Control}
use Rattle.loft_tree.specs.declared.kinds.Control.TheVariants as c
use Rattle.loft_tree.specs.Source.{Ident, EventName, Expression, Creation, Statement, Assign, AssignCreate, Create, PrintText, PrintValue, Cooperate, Generate, Await, Select, Get, Join, ControlThread, Broadcast, Link, Unlink, Run, Halt}
use Rattle.loft_tree.specs.Fits.{Each, IfThere, ExpressionFits, size_of}
use Rattle.loft_form.specs.Form.{Limits, ◌▹◌, ◌∣◌, maybe, many, counted, fresh, made}
use Rattle.loft_form.specs.Reading.{paid}
use Rattle.loft_grammar.specs.Language.{Language}
use Rattle.loft_grammar.specs.declared.counts.Counted.TheVariants as count
use Rattle.loft_grammar.specs.declared.counts.Counts.{Counts}
use Rattle.loft_grammar.specs.Counts.{put}
use Rattle.loft_grammar.specs.Statements
use Rattle.loft_grammar.specs.Symbols
use Rattle.loft_grammar.specs.Symbols.{Form}
use Rattle.loft_grammar.specs.Expressions.{further, whole}
use Rattle.loft_grammar.specs.Statements.{begins_with, opens_with, creation, after_comma, time_limit, assigned, assignment, printed, print, create, cooperate, generate, await_event, choice, choices, select, get, join, control, broadcast, link, unlink, run, halt, value_statement, event_statement, thread_statement, moving_statement, statement}
use Rattle.loft_show.specs.Canon.{Piece, piece, space, tight, spaced, word, sign, name, expression_pieces, event_pieces, further_pieces, creation_pieces, control_word, comma_part, for_part, led_by, statement_lines}
use Rattle.loft_show.specs.Places.{bare_name, bare_event, bare_value, bare_creation, bare_statement}
use Rattle.loft_show.proofs.reads.Spelling as spelling
use Rattle.loft_show.proofs.reads.Spelling.{bare, syms, line_pieces, AtMost, fewer, one_below, Loose, below_most, Is, spelled_as}
use Rattle.loft_show.proofs.reads.Parts.{After, after_then, Part, joined, ◌then◌, left, right, some, none, built, grouped, word_is, sign_is, word_place_is, name_is, event_is, text_is, whole_is, Passed, arguments_are, CountsOne, further_are, inner_choice}

-- ---- parts of statements

comma_is : {lim : Limits Language} → Loose lim → {n : ℕ} (e : Option Expression) → IfThere (ExpressionFits n) e → Part lim n (maybe after_comma) (comma_part e) (bare_value e)
unfolding after_comma
comma_is loose None fits = none
comma_is loose (Some e) fits = some (built (sign_is s.Comma then whole_is loose e space fits))

for_is : {lim : Limits Language} → Loose lim → {n : ℕ} (e : Option Expression) → IfThere (ExpressionFits n) e → Part lim n (maybe time_limit) (for_part e) (bare_value e)
unfolding time_limit
for_is loose None fits = none
for_is loose (Some e) fits = some (built (word_is w.For then whole_is loose e space fits))

creation_is : {lim : Limits Language} → Loose lim → {n : ℕ} (x : Creation) → Passed lim n x.arguments → Part lim n creation (creation_pieces x) (bare_creation x)
unfolding creation
creation_is loose x fits = built (name_is x.scheduler then sign_is s.Dot then name_is x.called then arguments_are loose x.arguments fits)

pub semicolon : {lim : Limits Language} {n : ℕ} → Part lim n (Symbols.sign s.Semicolon) (tight (sign s.Semicolon) ∷ []) tt
semicolon = sign_is s.Semicolon

-- ---- what counts k statements

pub record Several (lim : Limits Language) (k n : ℕ) {A : Type 0} (f : Form A) (ps : List Piece) (x : A) : Type 0 where
  pub at : (c : Counts) → c.statements + k ≤ 4096 → (d : Counts) × After k c d × Is lim n f (syms ps) (paid c) x (paid d)

-- no more statements
pub of_part : {lim : Limits Language} {n : ℕ} {A : Type 0} {f : Form A} {ps : List Piece} {x : A} → Part lim n f ps x → Several lim 0 n f ps x
of_part p = record { at = λ c few. p.at c }

-- one after the other
pub also : {lim : Limits Language} {n : ℕ} {A B : Type 0} {f : Form A} {g : Form B} {ps qs : List Piece} {x : A} {y : B} {j k : ℕ} (i : ℕ) → i ≡ j + k → Several lim j n f ps x → Several lim k n g qs y → Several lim i n (f ▹ g) (ps ++ qs) (x, y)
also {ps} {qs} {j} {k} i sum p q = record {
  at = λ c few. (
      let (d, after, first) = p.at c (omega arith) in
      let (e, again, second) = q.at d (omega (arith, after.statements)) in
      (e, after_then j k i c d e after again sum, spelled_as (sym (joined ps qs)) (spelling.◌then◌ first second)));
}

infixr 25 ◌before◌
pub ◌before◌ : {lim : Limits Language} {k n : ℕ} {A B : Type 0} {f : Form A} {g : Form B} {ps qs : List Piece} {x : A} {y : B} → Several lim k n f ps x → Part lim n g qs y → Several lim k n (f ▹ g) (ps ++ qs) (x, y)
◌before◌ {k} p q = also k (omega arith) p (of_part q)

module _ {lim : Limits Language} {k n : ℕ} {A : Type 0} {f : Form A} {ps : List Piece} {x : A} where
  pub first_of : {g : Form A} → Several lim k n f ps x → Several lim k n (f ∣ g) ps x
  first_of p = record { at = λ c few. (let (d, after, first) = p.at c few in (d, after, spelling.left first)) }

  pub second_of : {g : Form A} → Several lim k n f ps x → Several lim k n (g ∣ f) ps x
  second_of p = record { at = λ c few. (let (d, after, first) = p.at c few in (d, after, spelling.right first)) }

  pub making : {B : Type 0} {h : A → B} → Several lim k n f ps x → Several lim k n (made h f) ps (h x)
  making p = record { at = λ c few. (let (d, after, first) = p.at c few in (d, after, spelling.built first)) }

-- the word that begins a statement
pub begun : {lim : Limits Language} → Loose lim → {n : ℕ} {gap : List ℕ} (v : Word) → Several lim 1 n (begins_with v) (piece gap (Keyword v) ∷ []) 0
begun loose v = record { at = λ c few. (put count.Statement (c.statements + 1) c, omega arith, spelling.first_word_is c count.Statement v (below_most loose count.Statement c.statements (omega arith))) }

-- the same where the statement opens a nesting
pub opened : {lim : Limits Language} → Loose lim → {n : ℕ} {gap : List ℕ} (v : Word) → 0 < n → Several lim 1 n (opens_with v) (piece gap (Keyword v) ∷ []) 0
opened loose v deep = record { at = λ c few. (put count.Statement (c.statements + 1) c, omega arith, spelling.opening_word_is c count.Statement v deep (below_most loose count.Statement c.statements (omega arith))) }

-- the name that begins an assignment
target_is : {lim : Limits Language} → Loose lim → {n : ℕ} {gap : List ℕ} (x : Ident) → Several lim 1 n (counted count.Statement Symbols.name) (piece gap (NamedWhat x.text) ∷ []) (bare_name x)
target_is loose x = record { at = λ c few. (put count.Statement (c.statements + 1) c, omega arith, spelling.counted_name_is c count.Statement x (below_most loose count.Statement c.statements (omega arith))) }

-- ---- statements without bodies

abbrev pub StatementIs : Limits Language → ℕ → Statement → ℕ → Type 0
StatementIs lim n x k = Several lim (size_of x) n statement (line_pieces (statement_lines x k)) (bare_statement x)

-- the pieces of one line
on_line : {lim : Limits Language} {n : ℕ} {x : Statement} {ps : List Piece} → Several lim 1 n statement ps x → Several lim 1 n statement (ps ++ []) x
on_line {lim} {n} {x} {ps} p = subst (λ qs. Several lim 1 n statement qs x) (sym (append-nil ps)) p

pub assign_is : {lim : Limits Language} → Loose lim → (n k : ℕ) (target : Ident) (e : Expression) → ExpressionFits n e → StatementIs lim n (Assign target e) k
unfolding statement value_statement assignment assigned
assign_is loose n k target e fits = on_line (first_of (first_of (making (target_is loose target before sign_is s.Equals then right (built (whole_is loose e space fits)) then semicolon))))

pub assign_create_is : {lim : Limits Language} → Loose lim → (n k : ℕ) (target : Ident) (at : ℕ) (x : Creation) → Passed lim n x.arguments → StatementIs lim n (AssignCreate target at x) k
unfolding statement value_statement assignment assigned
assign_create_is loose n k target at x fits = on_line (first_of (first_of (making (target_is loose target before sign_is s.Equals then left (built (word_place_is w.Create then creation_is loose x fits)) then semicolon))))

pub create_is : {lim : Limits Language} → Loose lim → (n k at : ℕ) (x : Creation) → Passed lim n x.arguments → StatementIs lim n (Create at x) k
unfolding statement value_statement create
create_is loose n k at x fits = on_line (first_of (second_of (second_of (making (begun loose w.Create before creation_is loose x fits then semicolon)))))

pub print_text_is : {lim : Limits Language} → Loose lim → (n k at : ℕ) (text : List ℕ) (e : Option Expression) → IfThere (ExpressionFits n) e → StatementIs lim n (PrintText at text e) k
unfolding statement value_statement print printed
print_text_is loose n k at text e fits = on_line (first_of (second_of (first_of (making (begun loose w.Print before left (built (text_is text then comma_is loose e fits)) then semicolon)))))

pub print_value_is : {lim : Limits Language} → Loose lim → (n k at : ℕ) (e : Expression) → ExpressionFits n e → StatementIs lim n (PrintValue at e) k
unfolding statement value_statement print printed
print_value_is loose n k at e fits = on_line (first_of (second_of (first_of (making (begun loose w.Print before right (built (whole_is loose e space fits)) then semicolon)))))

pub generate_is : {lim : Limits Language} → Loose lim → (n k at : ℕ) (event : EventName) (e : Option Expression) → IfThere (ExpressionFits n) e → StatementIs lim n (Generate at event e) k
unfolding statement event_statement generate
generate_is loose n k at event e fits = on_line (second_of (first_of (first_of (making (begun loose w.Generate before event_is event then comma_is loose e fits then semicolon)))))

pub await_is : {lim : Limits Language} → Loose lim → (n k at : ℕ) (event : EventName) (e : Option Expression) → IfThere (ExpressionFits n) e → StatementIs lim n (Await at event e) k
unfolding statement event_statement await_event
await_is loose n k at event e fits = on_line (second_of (first_of (second_of (first_of (making (begun loose w.Await before event_is event then for_is loose e fits then semicolon))))))

choice_counts : {lim : Limits Language} (n : ℕ) (x : EventName) → CountsOne lim count.Choice n choice event_pieces bare_event x
unfolding choice
choice_counts n x gap = record { at = λ c few. (put count.Choice (c.choices + 1) c, omega arith, refl, spelling.counted_event_is c count.Choice x few) }

choices_count : (lim : Limits Language) (n : ℕ) (xs : List EventName) → Each (CountsOne lim count.Choice n choice event_pieces bare_event) xs
choices_count lim n [] = tt
choices_count lim n (x ∷ xs) = (choice_counts n x, choices_count lim n xs)

-- a name, a comma, a name and the others
choices_spelled : {lim : Limits Language} {n : ℕ} {xs ys zs : List Symbol} {x y : EventName} {others : List EventName} {c d e g : Counts} → Is lim n choice xs (paid c) x (paid d) → Is lim n choice ys (paid d) y (paid e) → Is lim n (many (further choice)) zs (paid e) others (paid g)
    → Is lim n choices (xs ++ ((bare (Mark s.Comma) ∷ ys) ++ zs)) (paid c) (x ∷ y ∷ others) (paid g)
unfolding choices
choices_spelled {d} p q r = spelling.built (spelling.◌then◌ p (spelling.◌then◌ (spelling.built (spelling.◌then◌ (spelling.sign_is d s.Comma) q)) r))

choices_are : {lim : Limits Language} {n : ℕ} (x y : EventName) (zs : List EventName) → AtMost (lim.most count.Choice) (length zs + 2) → Part lim n (fresh count.Choice choices) (spaced (name x.name) ∷ further_pieces event_pieces (y ∷ zs)) (bare_event x ∷ bare_event y ∷ map bare_event zs)
choices_are {lim} {n} x y zs few = record {
  at = λ c. (
      let limit = lim.most count.Choice in
      let (d, after, one, first) = (choice_counts n x space).at (put count.Choice 0 c) (one_below limit 0 (length zs + 2) (omega arith) few) in
      let (e, again, two, second) = (choice_counts n y space).at d (one_below limit d.choices (length zs + 2) (omega (arith, one)) few) in
      let (g, last, others) = further_are lim count.Choice n choice event_pieces bare_event zs (choices_count lim n zs) e (fewer limit (e.choices + length zs) (length zs + 2) (omega (arith, one, two)) few) in
      (g, after_then 0 0 0 c d g (inner_choice.stays c d after) (after_then 0 0 0 d e g again last (omega arith)) (omega arith), spelling.afresh {d = paid g} (choices_spelled first second others)));
}

pub select_is : {lim : Limits Language} → Loose lim → (n k at : ℕ) (events : List EventName) (e : Option Expression) → 2 ≤ length events → AtMost (lim.most count.Choice) (length events) → IfThere (ExpressionFits n) e → StatementIs lim n (Select at events e) k
unfolding statement event_statement select
select_is loose n k at [] e several few fits = absurd (omega arith)
select_is loose n k at (x ∷ []) e several few fits = absurd (omega arith)
select_is {lim} loose n k at (x ∷ y ∷ zs) e several few fits =
    let all = fewer (lim.most count.Choice) (length zs + 2) (length (x ∷ y ∷ zs)) (omega arith) few in
    on_line (second_of (first_of (second_of (second_of (first_of (making (begun loose w.Select before grouped (spaced (name x.name) ∷ further_pieces event_pieces (y ∷ zs)) (for_part e) (tight (sign s.Semicolon) ∷ []) (choices_are x y zs all then for_is loose e fits then semicolon))))))))

pub get_is : {lim : Limits Language} → Loose lim → (n k at : ℕ) (event : EventName) (e : Expression) (target : Ident) → ExpressionFits n e → StatementIs lim n (Get at event e target) k
unfolding statement event_statement get
get_is loose n k at event e target fits =
    on_line (second_of (first_of (second_of (second_of (second_of (first_of (making (begun loose w.Get before event_is event then word_is w.At then
    grouped (expression_pieces e space) (spaced (word w.Into) ∷ spaced (name target) ∷ []) (tight (sign s.Semicolon) ∷ []) (whole_is loose e space fits then word_is w.Into then name_is target then semicolon)))))))))

pub broadcast_is : {lim : Limits Language} → Loose lim → (n k at : ℕ) (event : EventName) (e : Option Expression) → IfThere (ExpressionFits n) e → StatementIs lim n (Broadcast at event e) k
unfolding statement event_statement broadcast
broadcast_is loose n k at event e fits = on_line (second_of (first_of (second_of (second_of (second_of (second_of (making (begun loose w.Broadcast before event_is event then comma_is loose e fits then semicolon))))))))

pub cooperate_is : {lim : Limits Language} → Loose lim → (n k at : ℕ) (e : Option Expression) → IfThere (ExpressionFits n) e → StatementIs lim n (Cooperate at e) k
unfolding statement thread_statement cooperate
cooperate_is {lim} loose n k at e fits = on_line (second_of (second_of (first_of (first_of (making (begun loose w.Cooperate before instants_is e fits then semicolon))))))
  where
    instants_is : (e : Option Expression) → IfThere (ExpressionFits n) e → Part lim n (maybe whole) (led_by expression_pieces [] e) (bare_value e)
    instants_is None fits = none
    instants_is (Some e) fits = some (whole_is loose e space fits)

pub join_is : {lim : Limits Language} → Loose lim → (n k at : ℕ) (e : Expression) (limit : Option Expression) → ExpressionFits n e → IfThere (ExpressionFits n) limit → StatementIs lim n (Join at e limit) k
unfolding statement thread_statement join
join_is loose n k at e limit fits limited =
    on_line (second_of (second_of (first_of (second_of (first_of (making (begun loose w.Join before grouped (expression_pieces e space) (for_part limit) (tight (sign s.Semicolon) ∷ []) (whole_is loose e space fits then for_is loose limit limited then semicolon))))))))

controlled : {lim : Limits Language} → Loose lim → {n : ℕ} (x : Control) → Several lim 1 n (Statements.control_word count.Statement) (tight (word (control_word x)) ∷ []) (0, x)
controlled loose c.Stop = first_of (making (begun loose w.Stop))
controlled loose c.Suspend = second_of (first_of (making (begun loose w.Suspend)))
controlled loose c.Resume = second_of (second_of (making (begun loose w.Resume)))

pub control_is : {lim : Limits Language} → Loose lim → (n k at : ℕ) (x : Control) (e : Expression) (scheduler : Ident) → ExpressionFits n e → StatementIs lim n (ControlThread at x e scheduler) k
unfolding statement thread_statement control
control_is loose n k at x e scheduler fits =
    on_line (second_of (second_of (first_of (second_of (second_of (first_of (making (controlled loose x before
    grouped (expression_pieces e space) (spaced (word w.In) ∷ spaced (name scheduler) ∷ []) (tight (sign s.Semicolon) ∷ []) (whole_is loose e space fits then word_is w.In then name_is scheduler then semicolon)))))))))

pub run_is : {lim : Limits Language} → Loose lim → (n k at : ℕ) (called : Ident) (es : List Expression) → Passed lim n es → StatementIs lim n (Run at called es) k
unfolding statement thread_statement run
run_is loose n k at called es fits = on_line (second_of (second_of (first_of (second_of (second_of (second_of (first_of (making (begun loose w.Run before name_is called then arguments_are loose es fits then semicolon)))))))))

pub halt_is : {lim : Limits Language} → Loose lim → (n k at : ℕ) → StatementIs lim n (Halt at) k
unfolding statement thread_statement halt
halt_is loose n k at = on_line (second_of (second_of (first_of (second_of (second_of (second_of (second_of (making (begun loose w.Halt before semicolon)))))))))

pub link_is : {lim : Limits Language} → Loose lim → (n k at : ℕ) (scheduler : Ident) → StatementIs lim n (Link at scheduler) k
unfolding statement moving_statement link
link_is loose n k at scheduler = on_line (second_of (second_of (second_of (first_of (making (begun loose w.Link before name_is scheduler then semicolon))))))

pub unlink_is : {lim : Limits Language} → Loose lim → (n k at : ℕ) → StatementIs lim n (Unlink at) k
unfolding statement moving_statement unlink
unlink_is loose n k at = on_line (second_of (second_of (second_of (second_of (first_of (making (begun loose w.Unlink before semicolon)))))))
