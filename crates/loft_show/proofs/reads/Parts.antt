-- Parts of statements and items, which count none of these themselves.
use Rattle.std.proofs.Common.{◌≡◌, ℕ, ◌+◌, List, [], ◌∷◌, ◌++◌, length, map, Some, None, refl, sym, ap, subst, append_assoc, arith}
use Rattle.std.proofs.lemmas.List.{map-append}
use Rattle.loft_lex.specs.declared.word.Word.{Word}
use Rattle.loft_lex.specs.declared.sign.Sign.{Sign}
use Rattle.loft_lex.specs.declared.sign.Sign.TheVariants as s
use Rattle.loft_lex.specs.Symbol.{Symbol, Named as NamedWhat, Keyword, Quoted, Mark}
use Rattle.loft_tree.specs.Source.{Ident, EventName, Expression}
use Rattle.loft_tree.specs.Levels.{level, operands}
use Rattle.loft_tree.specs.Fits.{Each, ExpressionFits}
use Rattle.loft_form.specs.Form.{Limits, ◌▹◌, ◌∣◌, maybe, many, made, State}
use Rattle.loft_form.specs.Spells.{Below, Adds, owing, from_zero}
use Rattle.loft_form.specs.Reading.{paid}
use Rattle.loft_grammar.specs.declared.counts.Counted.{Counted}
use Rattle.loft_grammar.specs.declared.counts.Counted.TheVariants as count
use Rattle.loft_grammar.specs.declared.counts.Counts.{Counts}
use Rattle.loft_grammar.specs.Counts.{number, put}
use Rattle.loft_grammar.specs.Language.{Language}
use Rattle.loft_grammar.specs.Symbols.{Form, word, sign, word_place, sign_place, name, text}
use Rattle.loft_grammar.specs.Expressions.{whole, argument, arguments, further, listed, in_brackets}
use Rattle.loft_grammar.specs.Statements.{event_name}
use Rattle.loft_show.specs.Canon.{Piece, piece, space, tight, sign as sign_piece, expression_pieces, further_pieces, list_pieces, bracketed_pieces}
use Rattle.loft_show.specs.Places.{bare_name, bare_event, bare_expression}
use Rattle.loft_show.proofs.reads.Spelling as spelling
use Rattle.loft_show.proofs.reads.Spelling.{bare, syms, AtMost, fewer, one_below, Loose, Is, spelled_as}
use Rattle.loft_show.proofs.reads.Expressions.{more, lower, expression_is}

-- there are k more statements, and as many of all that stands outside them
pub record After (k : ℕ) (c d : Counts) : Type 0 where
  pub schedulers : d.schedulers ≡ c.schedulers
  pub events : d.events ≡ c.events
  pub shared : d.shared ≡ c.shared
  pub modules : d.modules ≡ c.modules
  pub starts : d.starts ≡ c.starts
  pub clients : d.clients ≡ c.clients
  pub orders : d.orders ≡ c.orders
  pub statements : d.statements ≡ c.statements + k

pub after_then : (j k i : ℕ) (c d e : Counts) → After j c d → After k d e → i ≡ j + k → After i c e
after_then j k i c d e p q h = omega arith

pub after_none : (c : Counts) → After 0 c c
after_none c = omega arith

-- the pieces spell the value, whatever was counted
pub record Part (lim : Limits Language) (n : ℕ) {A : Type 0} (f : Form A) (ps : List Piece) (x : A) : Type 0 where
  pub at : (c : Counts) → (d : Counts) × After 0 c d × Is lim n f (syms ps) (paid c) x (paid d)

-- the symbols of pieces, one list after the other
pub joined : (ps qs : List Piece) → syms (ps ++ qs) ≡ syms ps ++ syms qs
joined ps qs = map-append (λ (p : Piece). bare p.what) ps qs

-- each form is spelled by the pieces of its parts
infixr 30 ◌then◌
pub ◌then◌ : {lim : Limits Language} {n : ℕ} {A B : Type 0} {f : Form A} {g : Form B} {ps qs : List Piece} {x : A} {y : B} → Part lim n f ps x → Part lim n g qs y → Part lim n (f ▹ g) (ps ++ qs) (x, y)
◌then◌ {ps} {qs} p q = record {
  at = λ c. (
      let (d, after, first) = p.at c in
      let (e, again, second) = q.at d in
      (e, after_then 0 0 0 c d e after again (omega arith), spelled_as (sym (joined ps qs)) (spelling.◌then◌ first second)));
}

module _ {lim : Limits Language} {n : ℕ} {A : Type 0} {f : Form A} {ps : List Piece} {x : A} where
  pub left : {g : Form A} → Part lim n f ps x → Part lim n (f ∣ g) ps x
  left p = record { at = λ c. (let (d, after, first) = p.at c in (d, after, spelling.left first)) }

  pub right : {g : Form A} → Part lim n f ps x → Part lim n (g ∣ f) ps x
  right p = record { at = λ c. (let (d, after, first) = p.at c in (d, after, spelling.right first)) }

  pub some : Part lim n f ps x → Part lim n (maybe f) ps (Some x)
  some p = record { at = λ c. (let (d, after, first) = p.at c in (d, after, spelling.some first)) }

  pub built : {B : Type 0} {h : A → B} → Part lim n f ps x → Part lim n (made h f) ps (h x)
  built p = record { at = λ c. (let (d, after, first) = p.at c in (d, after, spelling.built first)) }

pub none : {lim : Limits Language} {n : ℕ} {A : Type 0} {f : Form A} → Part lim n (maybe f) [] None
none = record { at = λ c. (c, after_none c, spelling.none) }

-- the same pieces in other groups
pub grouped : {lim : Limits Language} {n : ℕ} {A : Type 0} {f : Form A} {x : A} (ps qs rs : List Piece) → Part lim n f (ps ++ (qs ++ rs)) x → Part lim n f ((ps ++ qs) ++ rs) x
grouped {lim} {n} {A} {f} {x} ps qs rs p = subst (λ ts. Part lim n f ts x) (sym (append_assoc ps qs rs)) p

-- ---- single pieces

module _ {lim : Limits Language} {n : ℕ} {gap : List ℕ} where
  -- each spells itself, whatever blanks stand before it
  pub word_is : (v : Word) → Part lim n (word v) (piece gap (Keyword v) ∷ []) tt
  word_is v = record { at = λ c. (c, after_none c, spelling.word_is c v) }

  pub sign_is : (v : Sign) → Part lim n (sign v) (piece gap (Mark v) ∷ []) tt
  sign_is v = record { at = λ c. (c, after_none c, spelling.sign_is c v) }

  pub word_place_is : (v : Word) → Part lim n (word_place v) (piece gap (Keyword v) ∷ []) 0
  word_place_is v = record { at = λ c. (c, after_none c, spelling.word_place_is c v) }

  pub sign_place_is : (v : Sign) → Part lim n (sign_place v) (piece gap (Mark v) ∷ []) 0
  sign_place_is v = record { at = λ c. (c, after_none c, spelling.sign_place_is c v) }

  pub name_is : (x : Ident) → Part lim n name (piece gap (NamedWhat x.text) ∷ []) (bare_name x)
  name_is x = record { at = λ c. (c, after_none c, spelling.name_is c x) }

  pub event_is : (x : EventName) → Part lim n event_name (piece gap (NamedWhat x.name.text) ∷ []) (bare_event x)
  event_is x = built (name_is x.name)

  pub text_is : (bytes : List ℕ) → Part lim n text (piece gap (Quoted bytes) ∷ []) bytes
  text_is bytes = record { at = λ c. (c, after_none c, spelling.text_is c bytes) }

-- an expression that is no part of another
expression_counted : {lim : Limits Language} → Loose lim → (n : ℕ) (e : Expression) (gap : List ℕ) (c : State Language) (m : Counts) → Adds lim c.due (put count.Operand 0 c.counts) m → m.operands ≡ 0 → ExpressionFits n e → Is lim n whole (syms (expression_pieces e gap)) c (bare_expression e) (paid (more m (operands e)))
unfolding whole
expression_counted loose n e gap c m adds none fits =
    spelling.afresh (lower (level e) 0 (omega arith) (expression_is e n gap (from_zero count.Operand c) m adds fits.nests (loose.allows count.Operand (m.operands + operands e) (omega (arith, none, fits.few)))))

pub whole_is : {lim : Limits Language} → Loose lim → {n : ℕ} (e : Expression) (gap : List ℕ) → ExpressionFits n e → Part lim n whole (expression_pieces e gap) (bare_expression e)
whole_is loose {n} e gap fits = record { at = λ c. (more (put count.Operand 0 c) (operands e), omega arith, expression_counted loose n e gap (paid c) (put count.Operand 0 c) refl refl fits) }

-- ---- lists

-- the same as Part, of what counts as one more w
pub record Counting (lim : Limits Language) (w : Counted) (n : ℕ) {A : Type 0} (f : Form A) (ps : List Piece) (x : A) : Type 0 where
  pub at : (c : Counts) → Below (lim.most w) (number w c) → (d : Counts) × After 0 c d × (number w d ≡ number w c + 1) × Is lim n f (syms ps) (paid c) x (paid d)

-- what is counted from 0 stands inside statements and items
pub record Inner (w : Counted) : Type 0 where
  pub from_none : (c : Counts) → number w (put w 0 c) ≡ 0
  pub stays : (c d : Counts) → After 0 (put w 0 c) d → After 0 c d

-- arguments, choices and parameters are
pub inner_argument : Inner count.Argument
inner_argument = record { from_none = λ c. refl; stays = λ c d h. omega arith }

pub inner_choice : Inner count.Choice
inner_choice = record { from_none = λ c. refl; stays = λ c d h. omega arith }

pub inner_parameter : Inner count.Parameter
inner_parameter = record { from_none = λ c. refl; stays = λ c d h. omega arith }

module _ (lim : Limits Language) (w : Counted) (n : ℕ) {A : Type 0} (f : Form A) (one : A → List ℕ → List Piece) (h : A → A) where
  -- the pieces of this one spell it and count it
  abbrev pub CountsOne : A → Type 0
  CountsOne x = (gap : List ℕ) → Counting lim w n f (one x gap) (h x)

  -- those after commas, and the whole list
  pub further_are : (xs : List A) → Each CountsOne xs → (c : Counts) → AtMost (lim.most w) (number w c + length xs)
      → (d : Counts) × After 0 c d × Is lim n (many (further f)) (syms (further_pieces one xs)) (paid c) (map h xs) (paid d)
  further_are [] all c few = (c, after_none c, spelling.nothing_more)
  further_are (x ∷ xs) all c few =
      let (d, after, counts, first) = (all.0 space).at c (one_below (lim.most w) (number w c) (number w c + length (x ∷ xs)) (omega arith) few) in
      let (e, again, others) = further_are xs all.1 d (fewer (lim.most w) (number w d + length xs) (number w c + length (x ∷ xs)) (omega (arith, counts)) few) in
      (e, after_then 0 0 0 c d e after again (omega arith), spelled_as (sym (joined (tight (sign_piece s.Comma) ∷ one x space) (further_pieces one xs))) (spelling.one_more (spelling.built (spelling.◌then◌ (spelling.sign_is c s.Comma) first)) others))

  listed_are : (xs : List A) → Each CountsOne xs → (c : Counts) → AtMost (lim.most w) (number w c + length xs)
      → (d : Counts) × After 0 c d × Is lim n (listed f) (syms (list_pieces one xs)) (paid c) (map h xs) (paid d)
  listed_are [] all c few = (c, after_none c, spelling.built spelling.none)
  listed_are (x ∷ xs) all c few =
      let (d, after, counts, first) = (all.0 []).at c (one_below (lim.most w) (number w c) (number w c + length (x ∷ xs)) (omega arith) few) in
      let (e, again, others) = further_are xs all.1 d (fewer (lim.most w) (number w d + length xs) (number w c + length (x ∷ xs)) (omega (arith, counts)) few) in
      (e, after_then 0 0 0 c d e after again (omega arith), spelled_as (sym (joined (one x []) (further_pieces one xs))) (spelling.built (spelling.some (spelling.◌then◌ first others))))

  -- a list in brackets, whose length is counted from 0
  pub in_brackets_are : Inner w → (xs : List A) → Each CountsOne xs → AtMost (lim.most w) (length xs) → Part lim n (in_brackets w f) (bracketed_pieces one xs) (map h xs)
  in_brackets_are inner xs all few = record {
    at = λ c. (
        let (d, after, list) = listed_are xs all (put w 0 c) (fewer (lim.most w) (number w (put w 0 c) + length xs) (length xs) (omega (arith, inner.from_none c)) few) in (
          d,
          inner.stays c d after,
          spelled_as (sym (ap (λ (ss : List Symbol). bare (Mark s.Open) ∷ ss) (joined (list_pieces one xs) (tight (sign_piece s.Close) ∷ []))))
              (spelling.built (spelling.◌then◌ (spelling.sign_is c s.Open) (spelling.◌then◌ (spelling.afresh list) (spelling.sign_is d s.Close)))),
        ));
  }

-- an argument, which is an expression
argument_counts : {lim : Limits Language} → Loose lim → {n : ℕ} (e : Expression) → ExpressionFits n e → CountsOne lim count.Argument n argument expression_pieces bare_expression e
unfolding argument
argument_counts loose {n} e fits gap = record {
  at = λ c few. (
      let m = put count.Argument (c.arguments + 1) (put count.Operand 0 c) in
      (more m (operands e), omega arith, refl, spelling.counting_it (expression_counted loose n e gap (owing count.Argument (paid c)) m (few, refl) refl fits)));
}

arguments_count : {lim : Limits Language} → Loose lim → (n : ℕ) (es : List Expression) → Each (ExpressionFits n) es → Each (CountsOne lim count.Argument n argument expression_pieces bare_expression) es
arguments_count loose n [] all = tt
arguments_count loose n (e ∷ es) all = (argument_counts loose e all.0, arguments_count loose n es all.1)

-- expressions that may be the arguments of a call
pub record Passed (lim : Limits Language) (n : ℕ) (es : List Expression) : Type 0 where
  pub each : Each (ExpressionFits n) es
  pub few : AtMost (lim.most count.Argument) (length es)

-- the arguments of a call in brackets
pub arguments_are : {lim : Limits Language} → Loose lim → {n : ℕ} (es : List Expression) → Passed lim n es → Part lim n arguments (bracketed_pieces expression_pieces es) (map bare_expression es)
unfolding arguments
arguments_are {lim} loose {n} es passed = in_brackets_are lim count.Argument n argument expression_pieces bare_expression inner_argument es (arguments_count loose n es passed.each) passed.few
