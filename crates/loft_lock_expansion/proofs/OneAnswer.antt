-- A text stands for one program or is refused for one reason, and never both.
use Rattle.std.proofs.Common.{◌≡◌, ℕ, ◌<◌, ◌≤◌, Bool, true, false, inl, inr, List, length, Option, Some, None, Result, Ok, Err, refl, sym, ap, subst, ◌∙◌, arith}
use Rattle.std.specs.Prelude.{◌⊎◌}
use Rattle.std.proofs.lemmas.Bool.{cases_lt}
use Rattle.std.proofs.Math.Path.{fun_ext}
use Rattle.loft_base.specs.declared.ids.ModuleId.{ModuleId}
use Rattle.loft_lex.specs.declared.token.Token.{Token}
use Rattle.loft_lex.specs.declared.token.LexError.{LexError}
use Rattle.loft_lex.specs.declared.TheConstants.{MAX_TEXT_LEN}
use Rattle.loft_lex.specs.Cut.{Cut}
use Rattle.loft_lex.proofs.Readings.{complete}
use Rattle.loft_tree.specs.Source.{Source}
use Rattle.loft_parse.specs.declared.error.ParseError.{ParseError}
use Rattle.loft_parse.specs.Faults.{SourceFault}
use Rattle.loft_parse.proofs.TextLaws as text_laws
use Rattle.loft_grammar.specs.Texts.{Reads}
use Rattle.loft_scopes.specs.Faults.{NameFault, NamesFit}
use Rattle.loft_names.proofs.Decided as name_laws
use Rattle.loft_numbers.specs.Numbers.{numbered}
use Rattle.loft_place.specs.Links.{IsPlaced, PlaceFault}
use Rattle.loft_place.proofs.Decided.{placed_excludes, one_place_fault}
use Rattle.loft_lock_forms.specs.Rewriting.{all_say, written, forms}
use Rattle.loft_lock_forms.specs.Marks.{text_marks}
use Rattle.loft_lock_forms.specs.Names.{long_name, reserved_name}
use Rattle.loft_lock_expansion.specs.Expansion.{first_unpaired, first_leaving, TellsLeaving, IsWritten, IsRewritten, IsNamed, IsPaired}
use Rattle.loft_lock_expansion.specs.Refusals.{Refusal, TooLong, Lex, LongName, Reserved, Parse, Names, Place, Pair, Leaves, Comes}

-- ---- a question that is asked after others

-- it has a fault, of which the answer is made, or it has none and the rest decides
abbrev Asked : {X A : Type 0} → (X → Type 0) → (X → A) → Type 0 → (A → Type 0) → A → Type 0
Asked {X} Fault error Passes Rest a = ((x : X) × Fault x × (a ≡ error x)) ⊎ (Passes × Rest a)

asked_one : {X A : Type 0} (Fault : X → Type 0) (error : X → A) (Passes : Type 0) (Rest : A → Type 0) → ((x y : X) → Fault x → Fault y → x ≡ y) → (Passes → (x : X) → Fault x → ⊥) → (a b : A) → (Rest a → Rest b → a ≡ b)
    → Asked Fault error Passes Rest a → Asked Fault error Passes Rest b → a ≡ b
asked_one Fault error Passes Rest one never a b rest (inl (x, f, e)) (inl (y, g, d)) = e ∙ ap error (one x y f g) ∙ sym d
asked_one Fault error Passes Rest one never a b rest (inl (x, f, e)) (inr (p, q)) = absurd (never p x f)
asked_one Fault error Passes Rest one never a b rest (inr (p, q)) (inl (y, g, d)) = absurd (never p y g)
asked_one Fault error Passes Rest one never a b rest (inr (p, q)) (inr (r, s)) = rest q s

-- whether a function finds a fault
found_one : {X : Type 0} (o : Option X) (x y : X) → o ≡ Some x → o ≡ Some y → x ≡ y
found_one o x y e f = let same : Some x ≡ Some y = sym e ∙ f in cc

found_never : {X : Type 0} (o : Option X) → o ≡ None → (x : X) → o ≡ Some x → ⊥
found_never o e x f = let same : None ≡ Some x = sym e ∙ f in cc

unit_one : (x y : Unit {0}) → x ≡ y
unit_one x y = refl

-- ---- the questions, from the last to the first

abbrev Answer : Type 0
Answer = Result Source Refusal

module _ (text : List ℕ) (ts : List Token) (s : Source) where
  abbrev AsksLeaving : (ModuleId → Bool) → Answer → Type 0
  AsksLeaving away a = Asked (λ (x : ModuleId × List ℕ). first_leaving (text_marks text ts) away (numbered s).modules ≡ Some x) (λ x. Err (Leaves x.0 x.1)) (first_leaving (text_marks text ts) away (numbered s).modules ≡ None) (λ (b : Answer). b ≡ Ok s) a

  abbrev Left : Answer → Type 0
  Left a = (away : (ModuleId → Bool)) × TellsLeaving s away × AsksLeaving away a

  same_bool : (a b : Bool) → (a ≡ true → b ≡ true) → (b ≡ true → a ≡ true) → a ≡ b
  same_bool true b f g = sym (f refl)
  same_bool false true f g = g refl
  same_bool false false f g = refl

  same_away : (away other : ModuleId → Bool) → TellsLeaving s away → TellsLeaving s other → away ≡ other
  same_away away other t u = fun_ext (λ m. same_bool (away m) (other m) (λ e. (u m).1 ((t m).0 e)) (λ e. (t m).1 ((u m).0 e)))

  leaving_one : (away : ModuleId → Bool) (a b : Answer) → AsksLeaving away a → AsksLeaving away b → a ≡ b
  leaving_one away a b = asked_one _ _ _ (λ (c : Answer). c ≡ Ok s) (found_one (first_leaving (text_marks text ts) away (numbered s).modules)) (found_never (first_leaving (text_marks text ts) away (numbered s).modules)) a b (λ e f. e ∙ sym f)

  left_one : (a b : Answer) → Left a → Left b → a ≡ b
  left_one a b (away, t, p) (other, u, q) = leaving_one other a b (subst (λ (w : ModuleId → Bool). AsksLeaving w a) (same_away away other t u) p) q

  abbrev AsksPairs : Answer → Type 0
  AsksPairs a = Asked (λ (x : ModuleId × List ℕ). first_unpaired (text_marks text ts) (numbered s).modules ≡ Some x) (λ x. Err (Pair x.0 x.1)) (first_unpaired (text_marks text ts) (numbered s).modules ≡ None) Left a

  pairs_one : (a b : Answer) → AsksPairs a → AsksPairs b → a ≡ b
  pairs_one a b = asked_one _ _ _ Left (found_one (first_unpaired (text_marks text ts) (numbered s).modules)) (found_never (first_unpaired (text_marks text ts) (numbered s).modules)) a b (left_one a b)

  abbrev AsksLinks : Answer → Type 0
  AsksLinks a = Asked (PlaceFault (numbered s)) (λ e. Err (Place e)) (IsPlaced (numbered s)) AsksPairs a

  links_one : (a b : Answer) → AsksLinks a → AsksLinks b → a ≡ b
  links_one a b = asked_one _ _ _ AsksPairs (one_place_fault (numbered s)) (λ placed e. placed_excludes (numbered s) e placed) a b (pairs_one a b)

  abbrev AsksNames : Answer → Type 0
  AsksNames a = Asked (NameFault s) (λ e. Err (Names e)) (NamesFit s) AsksLinks a

  names_one : (a b : Answer) → AsksNames a → AsksNames b → a ≡ b
  names_one a b = asked_one _ _ _ AsksLinks (name_laws.one_fault s) (λ fit e. name_laws.never_both s e fit) a b (links_one a b)

module _ (text : List ℕ) (ts : List Token) where
  abbrev out : List ℕ
  out = written text 0 0 ts

  abbrev Read : Answer → Type 0
  Read a = (s : Source) × Reads out s × AsksNames text ts s a

  abbrev AsksGrammar : Answer → Type 0
  AsksGrammar a = ((e : ParseError) × SourceFault out e × (a ≡ Err (Parse e))) ⊎ Read a

  grammar_one : (a b : Answer) → AsksGrammar a → AsksGrammar b → a ≡ b
  grammar_one a b (inl (e, f, is)) (inl (d, g, it)) = is ∙ ap (λ x. Err (Parse x)) (text_laws.one_fault out e d f g) ∙ sym it
  grammar_one a b (inl (e, f, is)) (inr (s, r, q)) = absurd (text_laws.never_both out s e r f)
  grammar_one a b (inr (s, r, q)) (inl (e, f, is)) = absurd (text_laws.never_both out s e r f)
  grammar_one a b (inr (s, r, p)) (inr (t, u, q)) = names_one text ts t a b (subst (λ (x : Source). AsksNames text ts x a) (text_laws.one_program out s t r u) p) q

  abbrev AsksReserved : Answer → Type 0
  AsksReserved a = Asked (λ (x : ℕ). reserved_name text (forms 0 (all_say text ts)) ts ≡ Some x) (λ x. Err (Reserved x)) (reserved_name text (forms 0 (all_say text ts)) ts ≡ None) AsksGrammar a

  abbrev AsksLong : Answer → Type 0
  AsksLong a = Asked (λ (x : ℕ). long_name text 0 ts ≡ Some x) (λ x. Err (LongName x)) (long_name text 0 ts ≡ None) AsksReserved a

  abbrev AsksWritten : Answer → Type 0
  AsksWritten a = Asked (λ (x : Unit {0}). MAX_TEXT_LEN < length out) (λ x. Err TooLong) (length out ≤ MAX_TEXT_LEN) AsksLong a

  reserved_one : (a b : Answer) → AsksReserved a → AsksReserved b → a ≡ b
  reserved_one a b = asked_one _ _ _ AsksGrammar (found_one (reserved_name text (forms 0 (all_say text ts)) ts)) (found_never (reserved_name text (forms 0 (all_say text ts)) ts)) a b (grammar_one a b)

  long_one : (a b : Answer) → AsksLong a → AsksLong b → a ≡ b
  long_one a b = asked_one _ _ _ AsksReserved (found_one (long_name text 0 ts)) (found_never (long_name text 0 ts)) a b (reserved_one a b)

  written_one : (a b : Answer) → AsksWritten a → AsksWritten b → a ≡ b
  written_one a b = asked_one _ _ _ AsksLong (λ x y f g. unit_one x y) (λ fits x long. omega (arith, fits, long)) a b (long_one a b)

module _ (text : List ℕ) where
  abbrev AsksCut : Answer → Type 0
  AsksCut a = ((e : LexError) × Cut text (Err e) × (a ≡ Err (Lex e))) ⊎ ((ts : List Token) × Cut text (Ok ts) × AsksWritten text ts a)

  cut_one : (a b : Answer) → AsksCut a → AsksCut b → a ≡ b
  cut_one a b (inl (e, c, is)) (inl (f, d, it)) =
      let same : Err e ≡ Err f = sym (complete c) ∙ complete d in
      let fault : e ≡ f = cc in
      is ∙ ap (λ x. Err (Lex x)) fault ∙ sym it
  cut_one a b (inl (e, c, is)) (inr (ts, d, q)) = let same : Err e ≡ Ok ts = sym (complete c) ∙ complete d in absurd cc
  cut_one a b (inr (ts, d, q)) (inl (e, c, is)) = let same : Err e ≡ Ok ts = sym (complete c) ∙ complete d in absurd cc
  cut_one a b (inr (ts, c, p)) (inr (us, d, q)) =
      let same : Ok ts ≡ Ok us = sym (complete c) ∙ complete d in
      let tokens : ts ≡ us = cc in
      written_one text us a b (subst (λ (l : List Token). AsksWritten text l a) tokens p) q

  abbrev Asks : Answer → Type 0
  Asks a = Asked (λ (x : Unit {0}). MAX_TEXT_LEN < length text) (λ x. Err TooLong) (length text ≤ MAX_TEXT_LEN) AsksCut a

  asks_one : (a b : Answer) → Asks a → Asks b → a ≡ b
  asks_one a b = asked_one _ _ _ AsksCut (λ x y f g. unit_one x y) (λ fits x long. omega (arith, fits, long)) a b (cut_one a b)

  -- ---- what a text comes to answers them all

  past_written : (ts : List Token) (a : Answer) → IsWritten text ts → AsksLong text ts a → Asks a
  past_written ts a w q = inr (w.fits, inr (ts, w.cut, inr (w.written_fits, q)))

  past_rewritten : (ts : List Token) (a : Answer) → IsRewritten text ts → AsksGrammar text ts a → Asks a
  past_rewritten ts a r q = past_written ts a r.writes (inr (r.short, inr (r.free, q)))

  past_named : (ts : List Token) (s : Source) (a : Answer) → IsNamed text ts s → AsksLinks text ts s a → Asks a
  past_named ts s a n q = past_rewritten ts a n.rewritten (inr (s, n.reads, inr (n.names, q)))

  past_paired : (ts : List Token) (s : Source) (a : Answer) → IsPaired text ts s → Left text ts s a → Asks a
  past_paired ts s a p q = past_named ts s a p.named (inr (p.placed, inr (p.paired, q)))

  too_long : (ts : List Token) → Cut text (Ok ts) → MAX_TEXT_LEN < length (written text 0 0 ts) → (MAX_TEXT_LEN < length text) ⊎ (length text ≤ MAX_TEXT_LEN) → Asks (Err TooLong)
  too_long ts c long (inl most) = inl (tt, most, refl)
  too_long ts c long (inr fits) = inr (fits, inr (ts, c, inl (tt, long, refl)))

  asks : (a : Answer) → Comes text a → Asks a
  asks (Ok s) e = past_paired e.tokens s (Ok s) e.pairs (e.away, e.leaving, inr (e.stays, refl))
  asks (Err TooLong) (inl long) = inl (tt, long, refl)
  asks (Err TooLong) (inr (ts, c, long)) = too_long ts c long (cases_lt MAX_TEXT_LEN (length text))
  asks (Err (Lex e)) (fits, c) = inr (fits, inl (e, c, refl))
  asks (Err (LongName k)) (ts, w, e) = past_written ts (Err (LongName k)) w (inl (k, e, refl))
  asks (Err (Reserved k)) (ts, w, short, e) = past_written ts (Err (Reserved k)) w (inr (short, inl (k, e, refl)))
  asks (Err (Parse e)) (ts, r, f) = past_rewritten ts (Err (Parse e)) r (inl (e, f, refl))
  asks (Err (Names e)) (ts, s, r, reads, f) = past_rewritten ts (Err (Names e)) r (inr (s, reads, inl (e, f, refl)))
  asks (Err (Place e)) (ts, s, n, f) = past_named ts s (Err (Place e)) n (inl (e, f, refl))
  asks (Err (Pair m l)) (ts, s, n, placed, f) = past_named ts s (Err (Pair m l)) n (inr (placed, inl ((m, l), f, refl)))
  asks (Err (Leaves m l)) (ts, s, away, p, t, f) = past_paired ts s (Err (Leaves m l)) p (away, t, inl ((m, l), f, refl))

  pub one_answer : (a b : Answer) → Comes text a → Comes text b → a ≡ b
  one_answer a b p q = asks_one a b (asks a p) (asks b q)
