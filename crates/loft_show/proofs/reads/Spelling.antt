-- What forms are spelled by, put together from what their parts are spelled by.
use Rattle.std.proofs.Common.{◌≡◌, ℕ, zero, suc, ◌+◌, ◌-◌, ◌<◌, ◌≤◌, Bool, true, false, ◌==◌, ℤ, List, [], ◌∷◌, ◌++◌, map, Option, Some, None, refl, ap, subst, arith, inl, inr, eq-eqb}
use Rattle.std.proofs.Math.Dec.{eqb-suc-zero}
use Rattle.loft_lex.specs.declared.word.Word.{Word}
use Rattle.loft_lex.specs.declared.sign.Sign.{Sign}
use Rattle.loft_lex.specs.Symbol.{Symbol, What, Named as NamedWhat, Keyword, Numeral, Quoted, Mark}
use Rattle.loft_form.specs.Form.{Limits, leaf, ◌▹◌, ◌∣◌, maybe, many, inside, counted, fresh, made, State}
use Rattle.loft_form.specs.Spells.{Below, Adds, owing, from_zero, Spells, SpellsRule}
use Rattle.loft_form.specs.Reading.{paid}
use Rattle.loft_grammar.specs.declared.counts.Counted.{Counted}
use Rattle.loft_grammar.specs.declared.counts.Counted.TheVariants.{Scheduler, Event, Shared, Module, Start, Client, Order, Parameter, Local, Statement, Operand, Argument, Choice}
use Rattle.loft_grammar.specs.declared.counts.Counts.{Counts}
use Rattle.loft_grammar.specs.Counts.{most, number, put}
use Rattle.loft_grammar.specs.Language.{Language, Kind, kind_of, word_number, sign_number, Rule, Meaning}
use Rattle.loft_grammar.specs.Symbols.{Form, word, sign, word_place, sign_place, opening_word, opening_sign, name, text, numeral, first_word}
use Rattle.loft_grammar.specs.Statements.{rules, event_name}
use Rattle.loft_tree.specs.Source.{Ident, EventName}
use Rattle.loft_grammar.specs.Limits.{limits, line_limits}
use Rattle.loft_show.specs.Canon.{Piece, Line}
use Rattle.loft_show.specs.Places.{bare_name, bare_event}

-- a symbol without a place
abbrev pub bare : What → Symbol
bare what = record { at = 0; what = what }

-- the symbols of pieces, without places
abbrev pub syms : List Piece → List Symbol
syms ps = map (λ p. bare p.what) ps

-- the pieces of all lines
abbrev pub line_pieces : List Line → List Piece
line_pieces [] = []
line_pieces (l ∷ ls) = l.pieces ++ line_pieces ls

-- the symbols spell the value by the form, where n nestings may be opened
pub record Is (lim : Limits Language) (n : ℕ) {A : Type 0} (f : Form A) (ss : List Symbol) (c : State Language) (x : A) (d : State Language) : Type 0 where
  pub spells : Spells lim n (SpellsRule rules lim n) f ss c x d

-- each form is spelled by what its parts are spelled by
infixr 30 ◌then◌
pub ◌then◌ : {lim : Limits Language} {n : ℕ} {A B : Type 0} {f : Form A} {g : Form B} {xs ys : List Symbol} {c m d : State Language} {x : A} {y : B} → Is lim n f xs c x m → Is lim n g ys m y d → Is lim n (f ▹ g) (xs ++ ys) c (x, y) d
◌then◌ {xs} {ys} {m} p q = record { spells = (xs, ys, m, refl, p.spells, q.spells) }

pub left : {lim : Limits Language} {n : ℕ} {A : Type 0} {f g : Form A} {ss : List Symbol} {c d : State Language} {x : A} → Is lim n f ss c x d → Is lim n (f ∣ g) ss c x d
left p = record { spells = inl p.spells }

pub right : {lim : Limits Language} {n : ℕ} {A : Type 0} {f g : Form A} {ss : List Symbol} {c d : State Language} {x : A} → Is lim n g ss c x d → Is lim n (f ∣ g) ss c x d
right p = record { spells = inr p.spells }

pub some : {lim : Limits Language} {n : ℕ} {A : Type 0} {f : Form A} {ss : List Symbol} {c d : State Language} {x : A} → Is lim n f ss c x d → Is lim n (maybe f) ss c (Some x) d
some p = record { spells = p.spells }

pub none : {lim : Limits Language} {n : ℕ} {A : Type 0} {f : Form A} {c : State Language} → Is lim n (maybe f) [] c None c
none = record { spells = (refl, refl) }

pub nothing_more : {lim : Limits Language} {n : ℕ} {A : Type 0} {f : Form A} {c : State Language} → Is lim n (many f) [] c [] c
nothing_more = record { spells = (refl, refl) }

pub one_more : {lim : Limits Language} {n : ℕ} {A : Type 0} {f : Form A} {ss ts : List Symbol} {c m d : State Language} {x : A} {xs : List A} → Is lim n f ss c x m → Is lim n (many f) ts m xs d → Is lim n (many f) (ss ++ ts) c (x ∷ xs) d
one_more {ss} {ts} {m} p q = record { spells = (ss, ts, m, refl, p.spells, q.spells) }

pub counting_it : {lim : Limits Language} {n : ℕ} {A : Type 0} {w : Counted} {f : Form A} {ss : List Symbol} {c d : State Language} {x : A} → Is lim n f ss (owing w c) x d → Is lim n (counted w f) ss c x d
counting_it p = record { spells = p.spells }

pub afresh : {lim : Limits Language} {n : ℕ} {A : Type 0} {w : Counted} {f : Form A} {ss : List Symbol} {c d : State Language} {x : A} → Is lim n f ss (from_zero w c) x d → Is lim n (fresh w f) ss c x d
afresh p = record { spells = p.spells }

pub built : {lim : Limits Language} {n : ℕ} {A B : Type 0} {h : A → B} {f : Form A} {ss : List Symbol} {c d : State Language} {x : A} → Is lim n f ss c x d → Is lim n (made h f) ss c (h x) d
built {x} p = record { spells = (x, refl, p.spells) }

-- a rule inside, one nesting deeper
pub within : {lim : Limits Language} (n : ℕ) (r : Rule) (ss : List Symbol) (c : State Language) (x : Meaning r) (d : State Language) → 0 < n → Is lim (n - 1) (rules r) ss c x d → Is lim n (inside r) ss c x d
within zero r ss c x d h p = absurd (omega arith)
within {lim} (suc n) r ss c x d h p = let e : suc n - 1 ≡ n = omega arith in let q : Is lim n (rules r) ss c x d = (rw e at p) in record { spells = q.spells }

-- the same symbols, written otherwise
pub spelled_as : {lim : Limits Language} {n : ℕ} {A : Type 0} {f : Form A} {ss ts : List Symbol} {c d : State Language} {x : A} → ss ≡ ts → Is lim n f ss c x d → Is lim n f ts c x d
spelled_as {lim} {n} {A} {f} {c} {d} {x} e p = subst (λ t. Is lim n f t c x d) e p

-- the same value, written otherwise
pub valued_as : {lim : Limits Language} {n : ℕ} {A : Type 0} {f : Form A} {ss : List Symbol} {c d : State Language} {x y : A} → x ≡ y → Is lim n f ss c x d → Is lim n f ss c y d
valued_as {lim} {n} {A} {f} {ss} {c} {d} e p = subst (λ y. Is lim n f ss c y d) e p

-- ---- limits

-- n is at most the limit, if there is one
abbrev pub AtMost : Option ℕ → ℕ → Type 0
AtMost None n = Unit {0}
AtMost (Some limit) n = n ≤ limit

-- where there may be n, there may be fewer
pub fewer : (limit : Option ℕ) (m n : ℕ) → m ≤ n → AtMost limit n → AtMost limit m
fewer None m n less few = tt
fewer (Some limit) m n less few = omega arith

-- and before the last of them there may be one more
pub one_below : (limit : Option ℕ) (m n : ℕ) → m < n → AtMost limit n → Below limit m
one_below None m n less few = tt
one_below (Some limit) m n less few = omega arith

-- all of these limits are those of a source, or there is none
pub record Loose (lim : Limits Language) : Type 0 where
  pub allows : (w : Counted) (k : ℕ) → k ≤ most w → AtMost (lim.most w) k

pub below_most : {lim : Limits Language} → Loose lim → (w : Counted) (k : ℕ) → k < most w → Below (lim.most w) k
below_most {lim} loose w k less = one_below (lim.most w) k (k + 1) (omega arith) (loose.allows w (k + 1) (omega arith))

-- those of a source are, and those of a line
pub strict : Loose limits
strict = record { allows = λ w k few. few }

line_allows : (w : Counted) (k : ℕ) → k ≤ most w → AtMost (line_limits.most w) k
line_allows Scheduler k few = few
line_allows Event k few = few
line_allows Shared k few = few
line_allows Module k few = few
line_allows Start k few = few
line_allows Client k few = few
line_allows Order k few = few
line_allows Parameter k few = few
line_allows Local k few = few
line_allows Statement k few = tt
line_allows Operand k few = few
line_allows Argument k few = tt
line_allows Choice k few = tt

pub line_loose : Loose line_limits
line_loose = record { allows = line_allows }

-- ---- single symbols

not_none : (n : ℕ) → 0 < n → (n == 0) ≡ false
not_none zero h = absurd (omega arith)
not_none (suc n) h = eqb-suc-zero n

-- a symbol that counts as all that is due
pub symbol : {lim : Limits Language} {n : ℕ} {A : Type 0} {test : Kind → Bool} {value : Symbol → A} (what : What) (c : State Language) (m : Counts) → test (kind_of what) ≡ true → Adds lim c.due c.counts m → Is lim n (leaf test value false) (bare what ∷ []) c (value (bare what)) (paid m)
symbol what c m passes adds = record { spells = (bare what, refl, passes, refl, refl, (adds, refl)) }

-- the same of one that opens a nesting
pub opener : {lim : Limits Language} {n : ℕ} {A : Type 0} {test : Kind → Bool} {value : Symbol → A} (what : What) (c : State Language) (m : Counts) → 0 < n → test (kind_of what) ≡ true → Adds lim c.due c.counts m → Is lim n (leaf test value true) (bare what ∷ []) c (value (bare what)) (paid m)
opener {n} what c m deep passes adds = record { spells = (bare what, refl, passes, refl, not_none n deep, (adds, refl)) }

same_word : (v : Word) → (word_number v == word_number v) ≡ true
same_word v = eq-eqb (word_number v) (word_number v) refl

same_sign : (v : Sign) → (sign_number v == sign_number v) ≡ true
same_sign v = eq-eqb (sign_number v) (sign_number v) refl

-- one more counts, besides what is due
pub adds_more : (lim : Limits Language) (ws : List Counted) (w : Counted) (c m : Counts) → Adds lim ws c m → Below (lim.most w) (number w m) → Adds lim (ws ++ w ∷ []) c (put w (number w m + 1) m)
adds_more lim [] w c m h few = (subst (λ k. Below (lim.most w) (number w k)) h few, ap (λ (k : Counts). put w (number w k + 1) k) h)
adds_more lim (v ∷ ws) w c m h few = (h.0, adds_more lim ws w (put v (number v c + 1) c) m h.1 few)

module _ {lim : Limits Language} {n : ℕ} (c : State Language) (m : Counts) (adds : Adds lim c.due c.counts m) where
  -- words, signs, names and numbers that pay what is due
  pub word_paid : (v : Word) → Is lim n (word v) (bare (Keyword v) ∷ []) c tt (paid m)
  word_paid v = symbol (Keyword v) c m (same_word v) adds

  pub minus_paid : (v : Sign) → Is lim n (sign_place v) (bare (Mark v) ∷ []) c 0 (paid m)
  minus_paid v = symbol (Mark v) c m (same_sign v) adds

  pub name_paid : (x : Ident) → Is lim n name (bare (NamedWhat x.text) ∷ []) c (bare_name x) (paid m)
  name_paid x = symbol (NamedWhat x.text) c m refl adds

  pub numeral_paid : (value : ℤ) → Is lim n numeral (bare (Numeral value) ∷ []) c (0, value) (paid m)
  numeral_paid value = symbol (Numeral value) c m refl adds

module _ {lim : Limits Language} {n : ℕ} (c : Counts) where
  -- words, signs, names and texts where nothing is due, and those that count as one more w
  pub word_is : (v : Word) → Is lim n (word v) (bare (Keyword v) ∷ []) (paid c) tt (paid c)
  word_is v = symbol (Keyword v) (paid c) c (same_word v) refl

  pub sign_is : (v : Sign) → Is lim n (sign v) (bare (Mark v) ∷ []) (paid c) tt (paid c)
  sign_is v = symbol (Mark v) (paid c) c (same_sign v) refl

  pub word_place_is : (v : Word) → Is lim n (word_place v) (bare (Keyword v) ∷ []) (paid c) 0 (paid c)
  word_place_is v = symbol (Keyword v) (paid c) c (same_word v) refl

  pub sign_place_is : (v : Sign) → Is lim n (sign_place v) (bare (Mark v) ∷ []) (paid c) 0 (paid c)
  sign_place_is v = symbol (Mark v) (paid c) c (same_sign v) refl

  pub name_is : (x : Ident) → Is lim n name (bare (NamedWhat x.text) ∷ []) (paid c) (bare_name x) (paid c)
  name_is x = symbol (NamedWhat x.text) (paid c) c refl refl

  pub text_is : (bytes : List ℕ) → Is lim n text (bare (Quoted bytes) ∷ []) (paid c) bytes (paid c)
  text_is bytes = symbol (Quoted bytes) (paid c) c refl refl

  pub first_word_is : (w : Counted) (v : Word) → Below (lim.most w) (number w c) → Is lim n (first_word w v) (bare (Keyword v) ∷ []) (paid c) 0 (paid (put w (number w c + 1) c))
  first_word_is w v few = counting_it (symbol (Keyword v) (owing w (paid c)) (put w (number w c + 1) c) (same_word v) (few, refl))

  pub opening_word_is : (w : Counted) (v : Word) → 0 < n → Below (lim.most w) (number w c) → Is lim n (counted w (opening_word v)) (bare (Keyword v) ∷ []) (paid c) 0 (paid (put w (number w c + 1) c))
  opening_word_is w v deep few = counting_it (opener (Keyword v) (owing w (paid c)) (put w (number w c + 1) c) deep (same_word v) (few, refl))

  pub counted_name_is : (w : Counted) (x : Ident) → Below (lim.most w) (number w c) → Is lim n (counted w name) (bare (NamedWhat x.text) ∷ []) (paid c) (bare_name x) (paid (put w (number w c + 1) c))
  counted_name_is w x few = counting_it (symbol (NamedWhat x.text) (owing w (paid c)) (put w (number w c + 1) c) refl (few, refl))

  pub counted_event_is : (w : Counted) (x : EventName) → Below (lim.most w) (number w c) → Is lim n (counted w event_name) (bare (NamedWhat x.name.text) ∷ []) (paid c) (bare_event x) (paid (put w (number w c + 1) c))
  counted_event_is w x few = counting_it (built (symbol (NamedWhat x.name.text) (owing w (paid c)) (put w (number w c + 1) c) refl (few, refl)))

-- a sign that opens a nesting, where something may be due
pub opening_sign_is : {lim : Limits Language} {n : ℕ} (c : State Language) (m : Counts) (v : Sign) → 0 < n → Adds lim c.due c.counts m → Is lim n (opening_sign v) (bare (Mark v) ∷ []) c 0 (paid m)
opening_sign_is c m v deep adds = opener (Mark v) c m deep (same_sign v) adds
