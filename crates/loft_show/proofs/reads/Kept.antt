-- The pieces of canonical lines are kept apart.
use Rattle.std.proofs.Common.{◌≡◌, ℕ, Bool, true, false, List, [], ◌∷◌, ◌++◌, Option, Some, None, refl, sym, subst, append_assoc, arith, lit<, inl, inr}
use Rattle.std.proofs.lemmas.List.{append-nil}
use Rattle.loft_lex.specs.declared.word.Word.{Word}
use Rattle.loft_lex.specs.declared.word.Word.TheVariants as w
use Rattle.loft_lex.specs.declared.sign.Sign.{Sign}
use Rattle.loft_lex.specs.declared.sign.Sign.TheVariants as s
use Rattle.loft_lex.specs.Symbol.{What, Named as NamedWhat, Keyword, Numeral, Quoted, Mark, Unreadable}
use Rattle.loft_tree.specs.declared.kinds.UnaryOperator.{UnaryOperator}
use Rattle.loft_tree.specs.declared.kinds.UnaryOperator.TheVariants as u
use Rattle.loft_tree.specs.Levels.{left_bracketed, right_bracketed, sign_bracketed}
use Rattle.loft_tree.specs.Source.{Ident, Expression, Number, Variable, Special, Unary, Binary}
use Rattle.loft_tree.specs.Fits.{Each, IfThere, NameFits, WordsFit, ExpressionFits}
use Rattle.loft_show.specs.Canon.{Piece, Line, piece, space, tight, spaced, word, sign, name, ended, word_line, builtin_word, unary_sign, binary_sign, held, expression_pieces, further_pieces, list_pieces, bracketed_pieces, led_by, comma_part, for_part}
use Rattle.loft_show.proofs.reads.Written.{WhatFits, is_mark, is_soft}
use Rattle.loft_show.proofs.reads.Lexes.{Blank, Apart, LineFits}

-- what may follow a sign, where `after` is true, or anything
abbrev pub Follows : Bool → List Piece → Type 0
Follows true ps = (v : Sign) → Apart (Mark v) ps
Follows false ps = (prev : What) → Apart prev ps

-- The pieces are kept apart: after a sign, where `after` is true, or after anything; and they end in a sign, where
-- `sign` is true.
pub record Flows (after ends : Bool) (ps : List Piece) : Type 0 where
  pub go : (rest : List Piece) → Follows ends rest → Follows after (ps ++ rest)

-- what may follow anything may follow a sign
weaker : (ends : Bool) (ps : List Piece) → Follows false ps → Follows ends ps
weaker true ps h = λ v. h (Mark v)
weaker false ps h = h

stronger : (after : Bool) (ps : List Piece) → Follows after ps → Follows true ps
stronger true ps h = h
stronger false ps h = λ v. h (Mark v)

infixr 30 ◌then◌
pub ◌then◌ : {a b c : Bool} {ps qs : List Piece} → Flows a b ps → Flows b c qs → Flows a c (ps ++ qs)
◌then◌ {a} {ps} {qs} p q = record { go = λ rest h. subst (Follows a) (sym (append_assoc ps qs rest)) (p.go (qs ++ rest) (q.go rest h)) }

-- what follows may follow anything
pub loose : {a : Bool} (b : Bool) {ps : List Piece} → Flows a b ps → Flows a false ps
loose b p = record { go = λ rest h. p.go rest (weaker b rest h) }

-- a sign stands before
pub after_sign : {a b : Bool} {ps : List Piece} → Flows a b ps → Flows true b ps
after_sign {a} {ps} p = record { go = λ rest h. stronger a (ps ++ rest) (p.go rest h) }

pub none : {a : Bool} → Flows a a []
none = record { go = λ rest h. h }

-- ---- single pieces

-- without a blank before it a piece stands after a sign
abbrev pub needs_sign : List ℕ → Bool
needs_sign [] = true
needs_sign (b ∷ gap) = false

apart_after : (x : What) (rest : List Piece) → Follows (is_mark x) rest → Apart x rest
apart_after (NamedWhat bytes) rest h = h (NamedWhat bytes)
apart_after (Keyword v) rest h = h (Keyword v)
apart_after (Numeral value) rest h = h (Numeral value)
apart_after (Quoted bytes) rest h = h (Quoted bytes)
apart_after (Mark v) rest h = h v
apart_after Unreadable rest h = h Unreadable

pub at_gap : (gap : List ℕ) (x : What) → Blank gap → WhatFits x → is_soft x ≡ true → Flows (needs_sign gap) (is_mark x) (piece gap x ∷ [])
at_gap [] x blank fits soft = record { go = λ rest h. λ v. (tt, fits, inr (soft, inl refl), apart_after x rest h) }
at_gap (b ∷ gap) x blank fits soft = record { go = λ rest h. λ prev. (blank, fits, inl (omega arith), apart_after x rest h) }

pub space_blank : Blank space
space_blank = (refl, tt)

pub spaced_is : (x : What) → WhatFits x → Flows false (is_mark x) (spaced x ∷ [])
spaced_is x fits = record { go = λ rest h. λ prev. (space_blank, fits, inl (lit< tt), apart_after x rest h) }

pub tight_is : (x : What) → WhatFits x → is_soft x ≡ true → Flows true (is_mark x) (tight x ∷ [])
tight_is x fits soft = at_gap [] x tt fits soft

-- a sign may stand after anything
pub tight_sign : (v : Sign) → is_soft (Mark v) ≡ true → Flows false true (tight (sign v) ∷ [])
tight_sign v soft = record { go = λ rest h. λ prev. (tt, tt, inr (soft, inr refl), h v) }

-- ---- expressions

-- the pieces after any gap are kept apart
abbrev pub Kept : (List ℕ → List Piece) → Type 0
Kept one = (gap : List ℕ) → Blank gap → Flows (needs_sign gap) false (one gap)

held_kept : (brackets : Bool) (one : List ℕ → List Piece) → Kept one → Kept (held brackets one)
held_kept false one kept gap blank = kept gap blank
held_kept true one kept gap blank = at_gap gap (sign s.Open) blank tt refl then kept [] tt then loose true (tight_sign s.Close refl)

unary_soft : (op : UnaryOperator) → is_soft (sign (unary_sign op)) ≡ true
unary_soft u.Minus = refl
unary_soft u.Not = refl

pub expression_kept : (e : Expression) → WordsFit e → Kept (expression_pieces e)
expression_kept (Number at value) fits gap blank = at_gap gap (Numeral value) blank fits refl
expression_kept (Variable x) fits gap blank = at_gap gap (name x) blank fits refl
expression_kept (Special at x) fits gap blank = at_gap gap (word (builtin_word x)) blank tt refl
expression_kept (Unary at op e) fits gap blank = at_gap gap (sign (unary_sign op)) blank tt (unary_soft op) then held_kept (sign_bracketed e) (expression_pieces e) (expression_kept e fits) [] tt
expression_kept (Binary op l r) fits gap blank =
    held_kept (left_bracketed op l) (expression_pieces l) (expression_kept l fits.0) gap blank then loose true (spaced_is (sign (binary_sign op)) tt) then held_kept (right_bracketed op r) (expression_pieces r) (expression_kept r fits.1) space space_blank

-- ---- lists

module _ {A : Type 0} (one : A → List ℕ → List Piece) where
  pub further_kept : (xs : List A) → Each (λ x. Kept (one x)) xs → Flows false false (further_pieces one xs)
  further_kept [] all = none
  further_kept (x ∷ xs) all = loose true (tight_sign s.Comma refl) then all.0 space space_blank then further_kept xs all.1

  list_kept : (xs : List A) → Each (λ x. Kept (one x)) xs → Flows true false (list_pieces one xs)
  list_kept [] all = loose true none
  list_kept (x ∷ xs) all = all.0 [] tt then further_kept xs all.1

  pub brackets_kept : (xs : List A) → Each (λ x. Kept (one x)) xs → Flows false true (bracketed_pieces one xs)
  brackets_kept xs all = tight_sign s.Open refl then list_kept xs all then tight_sign s.Close refl

  pub led_kept : (ps : List Piece) (x : Option A) → Flows false false ps → IfThere (λ y. Kept (one y)) x → Flows false false (led_by one ps x)
  led_kept ps None p kept = none
  led_kept ps (Some x) p kept = p then kept space space_blank

expressions_kept : (n : ℕ) (es : List Expression) → Each (ExpressionFits n) es → Each (λ e. Kept (expression_pieces e)) es
expressions_kept n [] all = tt
expressions_kept n (e ∷ es) all = (expression_kept e all.0.words, expressions_kept n es all.1)

pub arguments_kept : (n : ℕ) (es : List Expression) → Each (ExpressionFits n) es → Flows false true (bracketed_pieces expression_pieces es)
arguments_kept n es each = brackets_kept expression_pieces es (expressions_kept n es each)

pub name_kept : (x : Ident) → NameFits x → Flows false false (spaced (name x) ∷ [])
name_kept x fits = spaced_is (name x) fits

pub word_kept : (v : Word) → Flows false false (spaced (word v) ∷ [])
word_kept v = spaced_is (word v) tt

-- "S.m", and what stands in brackets after it
pub called_kept : (scheduler called : Ident) (ps : List Piece) → NameFits scheduler → NameFits called → Flows false true ps → Flows false true (spaced (name scheduler) ∷ tight (sign s.Dot) ∷ tight (name called) ∷ ps)
called_kept scheduler called ps there runs p = name_kept scheduler there then tight_sign s.Dot refl then tight_is (name called) runs refl then p

if_kept : (n : ℕ) (e : Option Expression) → IfThere (ExpressionFits n) e → IfThere (λ x. Kept (expression_pieces x)) e
if_kept n None fits = tt
if_kept n (Some e) fits = expression_kept e fits.words

pub comma_kept : (n : ℕ) (e : Option Expression) → IfThere (ExpressionFits n) e → Flows false false (comma_part e)
comma_kept n e fits = led_kept expression_pieces (tight (sign s.Comma) ∷ []) e (loose true (tight_sign s.Comma refl)) (if_kept n e fits)

pub for_kept : (n : ℕ) (e : Option Expression) → IfThere (ExpressionFits n) e → Flows false false (for_part e)
for_kept n e fits = led_kept expression_pieces (spaced (word w.For) ∷ []) e (word_kept w.For) (if_kept n e fits)

pub instants_kept : (n : ℕ) (e : Option Expression) → IfThere (ExpressionFits n) e → Flows false false (led_by expression_pieces [] e)
instants_kept n e fits = led_kept expression_pieces [] e none (if_kept n e fits)

pub value_kept : (n : ℕ) (e : Expression) → ExpressionFits n e → Flows false false (expression_pieces e space)
value_kept n e fits = expression_kept e fits.words space space_blank

-- ---- lines

follows_nothing : (ends : Bool) → Follows ends []
follows_nothing true = λ v. tt
follows_nothing false = λ prev. tt

pub line_kept : {l : Line} {b : Bool} → Flows true b l.pieces → LineFits l
line_kept {l} {b} p = record { apart = subst (Apart (Mark s.Semicolon)) (append-nil l.pieces) (p.go [] (follows_nothing b) s.Semicolon) }

-- ";" after the pieces
pub ended_kept : {a b : Bool} {ps : List Piece} → Flows a b ps → Flows a true (ended ps)
ended_kept {b} p = loose b p then tight_sign s.Semicolon refl

-- the line of a word, what follows, and ";"
pub word_line_kept : {b : Bool} (n : ℕ) (v : Word) {ps : List Piece} → Flows false b ps → LineFits (word_line n v ps)
word_line_kept n v p = line_kept (tight_is (word v) tt refl then ended_kept p)
