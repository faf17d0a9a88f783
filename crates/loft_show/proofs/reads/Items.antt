-- The symbols of the canonical lines of items spell them.
use Rattle.std.proofs.Common.{◌≡◌, ℕ, ◌+◌, ◌<◌, ◌≤◌, ℤ, pos, negsuc, List, [], ◌∷◌, ◌++◌, length, map, Option, Some, None, refl, sym, ap, ◌∙◌, arith, inl, inr}
use Rattle.std.specs.Prelude.{◌-ℤ◌, FitsSigned}
use Rattle.std.specs.Int.{w64}
use Rattle.std.specs.Option.{option_map}
use Rattle.std.proofs.lemmas.Int.{ints, int_wrap_fits}
use Rattle.loft_base.specs.Arithmetic.{wrapped}
use Rattle.loft_lex.specs.declared.word.Word.{Word}
use Rattle.loft_lex.specs.declared.word.Word.TheVariants as w
use Rattle.loft_lex.specs.declared.sign.Sign.TheVariants as s
use Rattle.loft_lex.specs.Symbol.{Symbol, Keyword}
use Rattle.loft_tree.specs.declared.kinds.Kind.{Kind}
use Rattle.loft_tree.specs.declared.kinds.Kind.TheVariants as k
use Rattle.loft_tree.specs.declared.kinds.Control.{Control}
use Rattle.loft_tree.specs.declared.kinds.Control.TheVariants as c
use Rattle.loft_tree.specs.Source.{Ident, Named, PlaceName, InScheduler, Unlinked, Argument, ANumber, AName, Order, CreateThere, ControlThere, BroadcastThere}
use Rattle.loft_tree.specs.Fits.{Each, IfThere, SignedFits, ArgumentFits, CallFits, OrderFits}
use Rattle.loft_form.specs.Form.{◌▹◌, maybe, many, counted, State}
use Rattle.loft_form.specs.Spells.{Adds, owing}
use Rattle.loft_form.specs.Reading.{paid}
use Rattle.loft_grammar.specs.declared.counts.Counted.{Counted}
use Rattle.loft_grammar.specs.declared.counts.Counted.TheVariants as count
use Rattle.loft_grammar.specs.declared.counts.Counts.{Counts}
use Rattle.loft_grammar.specs.Counts.{most, number, put}
use Rattle.loft_grammar.specs.Language.{Language}
use Rattle.loft_grammar.specs.Limits.{limits}
use Rattle.loft_grammar.specs.Statements
use Rattle.loft_grammar.specs.Symbols
use Rattle.loft_grammar.specs.Symbols.{Form}
use Rattle.loft_grammar.specs.Items.{negative, signed, kind, parameter, parameters, local, place, ending, outer_argument, outer_arguments, value_after_comma, order, create_order, control_order, broadcast_order}
use Rattle.loft_show.specs.Canon.{Piece, space, tight, spaced, word, sign, kind_word, signed_pieces, named_pieces, place_pieces, bracketed_pieces, led_by, argument_pieces, call_pieces, control_word, local_lines, order_line, order_lines}
use Rattle.loft_show.specs.Places.{bare_name, bare_named, bare_place, bare_argument, bare_order}
use Rattle.loft_show.proofs.reads.Spelling as spelling
use Rattle.loft_show.proofs.reads.Spelling.{bare, syms, line_pieces, Is, spelled_as}
use Rattle.loft_show.proofs.reads.Parts.{After, after_none, Part, joined, ◌then◌, left, right, some, none, built, word_is, sign_is, name_is, event_is, CountsOne, in_brackets_are, inner_parameter, inner_argument}
use Rattle.loft_show.proofs.reads.Statements.{semicolon}

-- ---- numbers with a sign

minus_fits : (n : ℕ) → SignedFits (negsuc n) → FitsSigned w64 (negsuc n)
minus_fits n (m, few, inl e) = absurd cc
minus_fits n (m, few, inr e) = omega (arith, ints)

minus_is : (n : ℕ) → SignedFits (negsuc n) → wrapped (pos 0 -ℤ pos (n + 1)) ≡ negsuc n
minus_is n fits = let same : pos 0 -ℤ pos (n + 1) ≡ negsuc n = omega (arith, ints) in ap wrapped same ∙ int_wrap_fits w64 (negsuc n) (minus_fits n fits)

-- a number with its sign, whose first symbol pays what is due
signed_paid : (n : ℕ) (c : State Language) (m : Counts) → Adds limits c.due c.counts m → (value : ℤ) (gap : List ℕ) → SignedFits value → Is limits n signed (syms (signed_pieces value gap)) c (0, value) (paid m)
unfolding signed negative
signed_paid n c m adds (pos k) gap fits = spelling.left (spelling.numeral_paid c m adds (pos k))
signed_paid n c m adds (negsuc k) gap fits =
    spelling.valued_as (ap (λ (z : ℤ). (let x : ℕ × ℤ = (0, z) in x)) (minus_is k fits))
    (spelling.right (spelling.built (spelling.◌then◌ (spelling.minus_paid c m adds s.Minus) (spelling.numeral_paid (paid m) m refl (pos (k + 1))))))

pub signed_is : {n : ℕ} (value : ℤ) (gap : List ℕ) → SignedFits value → Part limits n signed (signed_pieces value gap) (0, value)
signed_is {n} value gap fits = record { at = λ c. (c, after_none c, signed_paid n (paid c) c refl value gap fits) }

-- ---- parameters and local variables

-- a word that counts as one more, and a kind that does
counted_word_is : {n : ℕ} (c : Counts) (what : Counted) (v : Word) → number what c < most what → Is limits n (counted what (Symbols.word v)) (bare (Keyword v) ∷ []) (paid c) tt (paid (put what (number what c + 1) c))
counted_word_is c what v few = spelling.counting_it (spelling.word_paid (owing what (paid c)) (put what (number what c + 1) c) (few, refl) v)

counted_kind_is : {n : ℕ} (c : Counts) (what : Counted) (x : Kind) → number what c < most what → Is limits n (kind (Some what)) (bare (Keyword (kind_word x)) ∷ []) (paid c) x (paid (put what (number what c + 1) c))
counted_kind_is c what k.Int few = spelling.left (spelling.built (counted_word_is c what w.Int few))
counted_kind_is c what k.Thread few = spelling.right (spelling.built (counted_word_is c what w.Thread few))

kind_is : {n : ℕ} (c : Counts) (x : Kind) → Is limits n (kind None) (bare (Keyword (kind_word x)) ∷ []) (paid c) x (paid c)
kind_is c k.Int = spelling.left (spelling.built (spelling.word_is c w.Int))
kind_is c k.Thread = spelling.right (spelling.built (spelling.word_is c w.Thread))

parameter_counts : (n : ℕ) (v : Named) → CountsOne limits count.Parameter n parameter named_pieces bare_named v
unfolding parameter
parameter_counts n v gap = record {
  at = λ c few. (
      let d = put count.Parameter (c.parameters + 1) c in
      (d, omega arith, refl, spelling.built (spelling.◌then◌ (counted_kind_is c count.Parameter v.kind few) (spelling.name_is d v.name))));
}

parameters_count : (n : ℕ) (vs : List Named) → Each (CountsOne limits count.Parameter n parameter named_pieces bare_named) vs
parameters_count n [] = tt
parameters_count n (v ∷ vs) = (parameter_counts n v, parameters_count n vs)

-- the parameters of a module in brackets
pub parameters_are : {n : ℕ} (vs : List Named) → length vs ≤ 8 → Part limits n parameters (bracketed_pieces named_pieces vs) (map bare_named vs)
unfolding parameters
parameters_are {n} vs few = in_brackets_are limits count.Parameter n parameter named_pieces bare_named inner_parameter vs (parameters_count n vs) few

pub local_is : (n : ℕ) (v : Named) (c : Counts) → c.locals < 32 → Is limits n local (syms (line_pieces (local_lines (v ∷ [])))) (paid c) (bare_named v) (paid (put count.Local (c.locals + 1) c))
unfolding local
local_is n v c few =
    let d = put count.Local (c.locals + 1) c in
    spelling.built (spelling.◌then◌ (spelling.first_word_is c count.Local w.Local few) (spelling.◌then◌ (kind_is d v.kind) (spelling.◌then◌ (spelling.name_is d v.name) (spelling.sign_is d s.Semicolon))))

-- local variables, a line each
pub locals_are : (n : ℕ) (vs : List Named) (c : Counts) → c.locals + length vs ≤ 32 → (d : Counts) × After 0 c d × Is limits n (many local) (syms (line_pieces (local_lines vs))) (paid c) (map bare_named vs) (paid d)
locals_are n [] c few = (c, after_none c, spelling.nothing_more)
locals_are n (v ∷ vs) c few =
    let d = put count.Local (c.locals + 1) c in
    let (e, after, others) = locals_are n vs d (omega arith) in
    (e, omega arith, spelling.one_more (local_is n v c (omega arith)) others)

-- ---- places and arguments

pub place_is : {n : ℕ} (x : PlaceName) (gap : List ℕ) → Part limits n place (place_pieces x gap) (bare_place x)
unfolding place
place_is (InScheduler x) gap = left (built (name_is x))
place_is Unlinked gap = right (built (word_is w.Unlinked))

pub ending_is : {n : ℕ} (x : Option PlaceName) → Part limits n (maybe ending) (led_by place_pieces (spaced (word w.To) ∷ []) x) (option_map bare_place x)
unfolding ending
ending_is None = none
ending_is (Some x) = some (built (word_is w.To then place_is x space))

outer_argument_counts : (n : ℕ) (x : Argument) → ArgumentFits x → CountsOne limits count.Argument n outer_argument argument_pieces bare_argument x
unfolding outer_argument
outer_argument_counts n (ANumber at value) fits gap = record {
  at = λ c few. (
      let m = put count.Argument (c.arguments + 1) c in
      (m, omega arith, refl, spelling.counting_it (spelling.left (spelling.built (signed_paid n (owing count.Argument (paid c)) m (few, refl) value gap fits)))));
}
outer_argument_counts n (AName x) fits gap = record {
  at = λ c few. (
      let m = put count.Argument (c.arguments + 1) c in
      (m, omega arith, refl, spelling.counting_it (spelling.right (spelling.built (spelling.name_paid (owing count.Argument (paid c)) m (few, refl) x)))));
}

outer_arguments_count : (n : ℕ) (xs : List Argument) → Each ArgumentFits xs → Each (CountsOne limits count.Argument n outer_argument argument_pieces bare_argument) xs
outer_arguments_count n [] all = tt
outer_arguments_count n (x ∷ xs) all = (outer_argument_counts n x all.0, outer_arguments_count n xs all.1)

-- "S.m(A, B)", and what stands after it
pub call_is : {n : ℕ} {B : Type 0} {f : Form B} {ps : List Piece} {y : B} (scheduler called : Ident) (xs : List Argument) → CallFits scheduler called xs → Part limits n f ps y
    → Part limits n (Symbols.name ▹ Symbols.sign s.Dot ▹ Symbols.name ▹ outer_arguments ▹ f) (call_pieces scheduler called xs ++ ps) (bare_name scheduler, (tt, (bare_name called, (map bare_argument xs, y))))
unfolding outer_arguments
call_is {n} scheduler called xs fits p =
    name_is scheduler then sign_is s.Dot then name_is called then in_brackets_are limits count.Argument n outer_argument argument_pieces bare_argument inner_argument xs (outer_arguments_count n xs fits.each) fits.few then p

-- ---- orders

control_word_is : (n : ℕ) (x : Control) (what : Counted) (c : Counts) → number what c < most what → Is limits n (Statements.control_word what) (bare (Keyword (control_word x)) ∷ []) (paid c) (0, x) (paid (put what (number what c + 1) c))
control_word_is n c.Stop what c few = spelling.left (spelling.built (spelling.first_word_is c what w.Stop few))
control_word_is n c.Suspend what c few = spelling.right (spelling.left (spelling.built (spelling.first_word_is c what w.Suspend few)))
control_word_is n c.Resume what c few = spelling.right (spelling.right (spelling.built (spelling.first_word_is c what w.Resume few)))

value_is : {n : ℕ} (x : Option ℤ) → IfThere SignedFits x → Part limits n (maybe value_after_comma) (led_by signed_pieces (tight (sign s.Comma) ∷ []) x) x
unfolding value_after_comma
value_is None fits = none
value_is (Some x) fits = some (built (sign_is s.Comma then signed_is x space fits))

-- the order is one more
abbrev pub OrderIs : ℕ → Order → Type 0
OrderIs n x = (c : Counts) → c.orders < 1024 → (d : Counts) × After 0 (put count.Order (c.orders + 1) c) d × Is limits n order (syms (order_line x).pieces) (paid c) (bare_order x) (paid d)

-- a part after a first symbol
pub followed : {n : ℕ} {A B : Type 0} {f : Form A} {g : Form B} {x : A} {y : B} {first : Symbol} {ps : List Piece} {c m : Counts} → Is limits n f (first ∷ []) (paid c) x (paid m) → Part limits n g ps y
    → (d : Counts) × After 0 m d × Is limits n (f ▹ g) (first ∷ syms ps) (paid c) (x, y) (paid d)
followed {m} p q = let (d, after, others) = q.at m in (d, after, spelling.◌then◌ p others)

pub order_is : (n : ℕ) (x : Order) → OrderFits x → OrderIs n x
unfolding order create_order control_order broadcast_order
order_is n (CreateThere scheduler called arguments) fits c few =
    let (d, after, whole) = followed (spelling.first_word_is c count.Order w.Create few) (call_is scheduler called arguments fits semicolon) in
    (d, after, spelling.left (spelling.built whole))
order_is n (ControlThere control thread scheduler) fits c few =
    let (d, after, whole) = followed (control_word_is n control count.Order c few) (name_is {gap = space} thread then word_is {gap = space} w.In then name_is {gap = space} scheduler then semicolon) in
    (d, after, spelling.right (spelling.left (spelling.built whole)))
order_is n (BroadcastThere event value) fits c few =
    let (d, after, whole) = followed (spelling.first_word_is c count.Order w.Broadcast few) (event_is {gap = space} event then value_is value fits.1 then semicolon) in
    (d, after, spelling.right (spelling.right (spelling.built whole)))

-- as many as before of all that a program declares
pub record SameItems (c d : Counts) : Type 0 where
  pub schedulers : d.schedulers ≡ c.schedulers
  pub events : d.events ≡ c.events
  pub shared : d.shared ≡ c.shared
  pub modules : d.modules ≡ c.modules
  pub starts : d.starts ≡ c.starts
  pub clients : d.clients ≡ c.clients

same_then : (c m d : Counts) → After 0 (put count.Order (c.orders + 1) c) m → SameItems m d → SameItems c d
same_then c m d p q = omega arith

-- orders, a line each
pub orders_are : (n : ℕ) (xs : List Order) → Each OrderFits xs → (c : Counts) → c.orders + length xs ≤ 1024 → (d : Counts) × SameItems c d × Is limits n (many order) (syms (line_pieces (order_lines xs))) (paid c) (map bare_order xs) (paid d)
orders_are n [] all c few = (c, omega arith, spelling.nothing_more)
orders_are n (x ∷ xs) all c few =
    let (d, after, first) = order_is n x all.0 c (omega arith) in
    let (e, same, others) = orders_are n xs all.1 d (let one = after.orders in omega arith) in
    (e, same_then c d e after same, spelled_as (sym (joined (order_line x).pieces (line_pieces (order_lines xs)))) (spelling.one_more first others))
