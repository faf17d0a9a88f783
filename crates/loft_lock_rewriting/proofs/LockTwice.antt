-- A lock that a text declares twice is refused with the names.
use Rattle.std.proofs.Common.{◌≡◌, ℕ, zero, suc, Bool, true, false, List, [], ◌∷◌, ◌++◌, length, length-append, ℤ, map, Option, Some, None, Ok, inl, inr, refl, sym, ap, subst, ◌∙◌, append_assoc, arith}
use Rattle.std.specs.Prelude.{◌⊎◌, slice_get, pos}
use Rattle.std.specs.Str.{bytes_eq}
use Rattle.std.proofs.lemmas.Slice.Eq.{bytes_eq-Decides}
use Rattle.std.proofs.lemmas.Bool.{false≢true}
use Rattle.loft_tree.specs.Fits.{Each}
use Rattle.loft_tree.specs.Source.{Ident, Shared, Source}
use Rattle.loft_lex.specs.declared.word.Word.TheVariants as word
use Rattle.loft_lex.specs.Symbol.{What, Symbol}
use Rattle.loft_form.specs.Form.{State}
use Rattle.loft_form.specs.Spells.{SpellsEach, SpellsRule}
use Rattle.loft_grammar.specs.Language.{Language, AWord}
use Rattle.loft_grammar.specs.Limits.{limits, nesting, beginning}
use Rattle.loft_grammar.specs.Statements.{rules}
use Rattle.loft_grammar.specs.Items.{item, program}
use Rattle.loft_grammar.specs.Texts.{SpellsProgram, Reads}
use Rattle.loft_scopes.specs.Faults.{NamesFit}
use Rattle.loft_scopes.specs.Scopes.{Declared, declared_from, declared_by, none_yet, after, everywhere, seen_together}
use Rattle.loft_scopes.specs.declared.scope.Scope.TheVariants.{Everywhere}
use Rattle.loft_names.specs.NamesHold.{NamesApart}
use Rattle.loft_names.proofs.HoldsPrograms.{fits_holds}
use Rattle.loft_lock_sources.specs.SourceLocks.{LockNames, name_at, HasLock}
use Rattle.loft_lock_sources.proofs.SplitLemmas.{counts, declared_split, get_there}
use Rattle.loft_lock_symbols.specs.LockSymbols.{shared_first, shared_rest, event_symbols, takes_symbols, gives_symbols, lock_symbols}
use Rattle.loft_lock_symbols.proofs.Avoids.{cuts}
use Rattle.loft_lock_symbols.proofs.Unlimited.{none_due}
use Rattle.loft_lock_symbols.proofs.Pieces.{SpellsItem, items_pay, first_shared}
use Rattle.loft_lock_symbols.proofs.SpelledLocks.{item_tail}
use Rattle.loft_lock_forms.specs.Rewriting.{LockForm, Declares, TakesIt, GivesIt, more_of, form_at, form_says, with_form, all_say, written, rewritten, forms, IsShort}
use Rattle.loft_lock_rewriting.specs.Locked.{lock_names, DeclaresOther, IsDeclared, HasForm}
use Rattle.loft_lock_rewriting.proofs.LockSplit.{what_in, cleave, as_lock, said_symbols, has_lock, beyond_as}
use Rattle.loft_lock_rewriting.proofs.Rewritten.{rewritten_says}
use Rattle.loft_lex.specs.Symbol.{symbols}
use Rattle.loft_lex.specs.declared.token.Token.{Token}
use Rattle.loft_lex.specs.Cut.{Cut}
use Rattle.loft_lex.proofs.Readings.{complete}

-- ---- where a form stands

record Stands (f : LockForm) (gs : List LockForm) (ws : List What) : Type 0 where
  front : List What
  rest : List What
  parts : ws ≡ front ++ form_says f (rewritten (more_of f) rest)
  others : forms (more_of f) rest ≡ gs

beyond_form : (g f : LockForm) (gs : List LockForm) (ws : List What) → Stands f gs ws → Stands f gs (form_says g ws)
beyond_form g f gs ws s = record { front = form_says g s.front; rest = s.rest; parts = ap (form_says g) s.parts ∙ through g; others = s.others }
  where
    through : (g : LockForm) → form_says g (s.front ++ form_says f (rewritten (more_of f) s.rest)) ≡ form_says g s.front ++ form_says f (rewritten (more_of f) s.rest)
    through (Declares k b) = refl
    through (TakesIt k) = refl
    through (GivesIt k) = refl

module _ (f : LockForm) (gs : List LockForm) where
  stands_first : (g : LockForm) (skip : ℕ) (xs : List What) (fs : List LockForm) → skip ≡ more_of g → g ∷ forms skip xs ≡ fs ++ f ∷ gs
      → ((hs : List LockForm) → forms skip xs ≡ hs ++ f ∷ gs → Stands f gs (rewritten skip xs)) → Stands f gs (form_says g (rewritten skip xs))
  stands_first g skip xs [] m e rest =
      let same : g ≡ f = cc in
      let others : forms skip xs ≡ gs = cc in
      let skips : skip ≡ more_of f = m ∙ ap more_of same in
      record {
        front = [];
        rest = xs;
        parts = ap (λ (h : LockForm). form_says h (rewritten skip xs)) same ∙ ap (λ (k : ℕ). form_says f (rewritten k xs)) skips;
        others = ap (λ (k : ℕ). forms k xs) (sym skips) ∙ others;
      }
  stands_first g skip xs (h ∷ hs) m e rest =
      let others : forms skip xs ≡ hs ++ f ∷ gs = cc in
      beyond_form g f gs _ (rest hs others)

  stands_by : (o : Option LockForm) (x : What) (xs : List What) (fs : List LockForm) → with_form o (forms 0 xs) (λ g. g ∷ forms (more_of g) xs) ≡ fs ++ f ∷ gs
      → ((skip : ℕ) (hs : List LockForm) → forms skip xs ≡ hs ++ f ∷ gs → Stands f gs (rewritten skip xs)) → Stands f gs (with_form o (x ∷ rewritten 0 xs) (λ g. form_says g (rewritten (more_of g) xs)))
  stands_by None x xs fs e rest = let s = rest 0 fs e in record { front = x ∷ s.front; rest = s.rest; parts = ap (λ (ws : List What). x ∷ ws) s.parts; others = s.others }
  stands_by (Some g) x xs fs e rest = stands_first g (more_of g) xs fs refl e (rest (more_of g))

  nowhere : (fs : List LockForm) → [] ≡ fs ++ f ∷ gs → ⊥
  nowhere [] e = cc
  nowhere (h ∷ hs) e = cc

  stands : (xs : List What) (skip : ℕ) (fs : List LockForm) → forms skip xs ≡ fs ++ f ∷ gs → Stands f gs (rewritten skip xs)
  stands [] skip fs e = absurd (nowhere fs e)
  stands (x ∷ xs) zero fs e = stands_by (form_at x xs) x xs fs e (λ skip hs. stands xs skip hs)
  stands (x ∷ xs) (suc skip) fs e = stands xs skip fs e

-- ---- two variables with one name

twice_apart : (xs ys zs : List Declared) (d e : Declared) → NamesApart (xs ++ d ∷ (ys ++ e ∷ zs)) → d.scope ≡ Everywhere → d.name.text ≡ e.name.text → ⊥
twice_apart xs ys zs d e apart everywhere same =
    let whole = xs ++ d ∷ (ys ++ e ∷ zs) in
    let shape : whole ≡ (xs ++ d ∷ ys) ++ e ∷ zs = sym (append_assoc xs (d ∷ ys) (e ∷ zs)) in
    let later : slice_get whole (length (xs ++ d ∷ ys)) ≡ Some e = ap (λ (l : List Declared). slice_get l (length (xs ++ d ∷ ys))) shape ∙ get_there (xs ++ d ∷ ys) e zs in
    let at : length xs ≡ length (xs ++ d ∷ ys) = apart (length xs) (length (xs ++ d ∷ ys)) d e (get_there xs d (ys ++ e ∷ zs)) later (subst (λ t. seen_together t e.scope ≡ true) (sym everywhere) refl) same in
    omega (arith, at, length-append xs (d ∷ ys))

two_shared : (xs ys zs : Source) (x y x' y' : Ident) (v v' : ℤ) → NamesFit (xs ++ Shared x y v ∷ (ys ++ Shared x' y' v' ∷ zs)) → x.text ≡ x'.text → ⊥
two_shared xs ys zs x y x' y' v v' fit same =
    let apart = (fits_holds _ fit).apart in
    let n = counts none_yet xs in
    let m = counts (after n (Shared x y v)) ys in
    let one = declared_split none_yet xs (Shared x y v ∷ (ys ++ Shared x' y' v' ∷ zs)) in
    let two = declared_split (after n (Shared x y v)) ys (Shared x' y' v' ∷ zs) in
    twice_apart (declared_from none_yet xs) (declared_from (after n (Shared x y v)) ys) (declared_from (after m (Shared x' y' v')) zs) _ _
    (subst NamesApart (one ∙ ap (λ (l : List Declared). declared_from none_yet xs ++ (declared_by n (Shared x y v) ++ l)) two) apart) refl same

-- ---- the symbols of two

record CutFirst (n : LockNames) (at : ℕ → ℕ) (front : List Symbol) (s : Source) : Type 0 where
  before : Source
  others : Source
  state : State Language
  spelled : SpellsEach SpellsItem front beginning before state
  parts : s ≡ before ++ Shared (name_at n at 13 n.held) (name_at n at 14 n.at) (pos 0) ∷ others

cut_first : (n : LockNames) (at other : ℕ → ℕ) (front back ss : List Symbol) (s : Source) (d : State Language) → ss ≡ front ++ shared_first n at other ∷ (shared_rest n at other ++ back) → SpellsEach SpellsItem ss beginning s d → CutFirst n at front s
cut_first n at other front back ss s d e p =
    let cut = cuts Language SpellsItem (AWord word.Shared) item_tail ss front (shared_first n at other) (shared_rest n at other ++ back) beginning s d refl e p in
    let due = none_due limits nesting (SpellsRule rules limits nesting) item items_pay front beginning cut.before cut.state refl cut.front in
    let one = first_shared n at other back cut.state cut.after d due cut.back in
    record {
      before = cut.before;
      others = one.others;
      state = cut.state;
      spelled = cut.front;
      parts = cut.parts ∙ ap (λ (l : Source). cut.before ++ l) one.parts;
    }

before_as : (xs ys zs : Source) → xs ≡ ys → xs ++ zs ≡ ys ++ zs
before_as xs ys zs e = ap (λ (l : Source). l ++ zs) e

fit_as : (s t : Source) → s ≡ t → NamesFit s → NamesFit t
fit_as s t e fit = subst NamesFit e fit

two_cut : (n m : LockNames) (at other at' other' : ℕ → ℕ) (left mid pre post ss : List Symbol) (s : Source) (d : State Language) → n.held ≡ m.held
    → pre ≡ left ++ shared_first n at other ∷ (shared_rest n at other ++ mid) → ss ≡ pre ++ shared_first m at' other' ∷ (shared_rest m at' other' ++ post)
    → SpellsEach SpellsItem ss beginning s d → NamesFit s → ⊥
two_cut n m at other at' other' left mid pre post ss s d same first second p fit =
    let two = cut_first m at' other' pre post ss s d second p in
    let one = cut_first n at other left mid pre two.before two.state first two.spelled in
    let x = Shared (name_at n at 13 n.held) (name_at n at 14 n.at) (pos 0) in
    let y = Shared (name_at m at' 13 m.held) (name_at m at' 14 m.at) (pos 0) in
    let whole : s ≡ one.before ++ x ∷ (one.others ++ y ∷ two.others) = two.parts ∙ before_as two.before (one.before ++ x ∷ one.others) (y ∷ two.others) one.parts ∙ append_assoc one.before (x ∷ one.others) (y ∷ two.others) in
    two_shared one.before one.others two.others (name_at n at 13 n.held) (name_at n at 14 n.at) (name_at m at' 13 m.held) (name_at m at' 14 m.at) (pos 0) (pos 0) (fit_as s (one.before ++ x ∷ (one.others ++ y ∷ two.others)) whole fit) same

in_front : (f : LockForm) (ws front xs ys : List What) → ws ≡ front ++ form_says f xs → xs ≡ ys → ws ≡ front ++ form_says f ys
in_front f ws front xs ys e d = e ∙ ap (λ (t : List What). front ++ form_says f t) d

-- the text declares the lock twice
module _ (l a b : List ℕ) (ws : List What) (fs ms ks : List LockForm) (are : forms 0 ws ≡ fs ++ Declares l a ∷ (ms ++ Declares l b ∷ ks))
    (ss : List Symbol) (s : Source) (says : map what_in ss ≡ rewritten 0 ws) (p : SpellsProgram ss s) (fit : NamesFit s) where
  no_two : ⊥
  unfolding program
  no_two =
      let one = stands (Declares l a) (ms ++ Declares l b ∷ ks) ws 0 fs are in
      let two = stands (Declares l b) ks one.rest 4 ms one.others in
      let end = form_says (Declares l b) (rewritten 4 two.rest) in
      let whole : rewritten 0 ws ≡ (one.front ++ form_says (Declares l a) two.front) ++ end =
      in_front (Declares l a) (rewritten 0 ws) one.front (rewritten 4 one.rest) (two.front ++ end) one.parts two.parts ∙ sym (append_assoc one.front (form_says (Declares l a) two.front) end) in
      let outer = cleave l a (one.front ++ form_says (Declares l a) two.front) ss end (says ∙ whole) in
      let inner = cleave l a one.front outer.left (form_says (Declares l a) two.front) outer.left_says in
      let x = as_lock l a inner.right two.front inner.right_says in
      let y = as_lock l b outer.right (rewritten 4 two.rest) outer.right_says in
      let n = lock_names l a in
      let m = lock_names l b in
      two_cut n m x.at x.other y.at y.other inner.left
      (event_symbols n x.at x.other ++ (takes_symbols n x.at x.other ++ (gives_symbols n x.at x.other ++ x.back)))
      outer.left
      (event_symbols m y.at y.other ++ (takes_symbols m y.at y.other ++ (gives_symbols m y.at y.other ++ y.back)))
      ss s p.0 refl (inner.are ∙ beyond_as inner.left inner.right (lock_symbols n x.at x.other x.back) x.are)
      (outer.are ∙ beyond_as outer.left outer.right (lock_symbols m y.at y.other y.back) y.are) p.1 fit

-- ---- so it's declared once

record Again (l : List ℕ) (fs : List LockForm) : Type 0 where
  at : List ℕ
  before : List LockForm
  after : List LockForm
  are : fs ≡ before ++ Declares l at ∷ after

one_more : (l : List ℕ) (f : LockForm) (fs : List LockForm) → Again l fs → Again l (f ∷ fs)
one_more l f fs g = record { at = g.at; before = f ∷ g.before; after = g.after; are = ap (λ (hs : List LockForm). f ∷ hs) g.are }

others_or : (l : List ℕ) (fs : List LockForm) → Each (DeclaresOther l) fs ⊎ Again l fs
others_or l [] = inl tt
others_or l (f ∷ fs) = by f (others_or l fs)
  where
    by_test : (k a : List ℕ) (t : Bool) → bytes_eq k l ≡ t → Each (DeclaresOther l) fs ⊎ Again l fs → Each (DeclaresOther l) (Declares k a ∷ fs) ⊎ Again l (Declares k a ∷ fs)
    by_test k a true e rest = let same = (bytes_eq-Decides k l).0 e in inr (record { at = a; before = []; after = fs; are = ap (λ (t : List ℕ). Declares t a ∷ fs) same })
    by_test k a false e (inl each) = inl ((λ same. false≢true (sym e ∙ (bytes_eq-Decides k l).1 same)), each)
    by_test k a false e (inr again) = inr (one_more l (Declares k a) fs again)

    by : (f : LockForm) → Each (DeclaresOther l) fs ⊎ Again l fs → Each (DeclaresOther l) (f ∷ fs) ⊎ Again l (f ∷ fs)
    by (Declares k a) rest = by_test k a (bytes_eq k l) refl rest
    by (TakesIt k) (inl each) = inl (tt, each)
    by (TakesIt k) (inr again) = inr (one_more l (TakesIt k) fs again)
    by (GivesIt k) (inl each) = inl (tt, each)
    by (GivesIt k) (inr again) = inr (one_more l (GivesIt k) fs again)

module _ (l a : List ℕ) (ws : List What) (ss : List Symbol) (s : Source) (says : map what_in ss ≡ rewritten 0 ws) (p : SpellsProgram ss s) (fit : NamesFit s) where
  once : (before after : List LockForm) → forms 0 ws ≡ before ++ Declares l a ∷ after → Each (DeclaresOther l) before × Each (DeclaresOther l) after
  once before after are = (first (others_or l before), second (others_or l after))
    where
      first : Each (DeclaresOther l) before ⊎ Again l before → Each (DeclaresOther l) before
      first (inl each) = each
      first (inr g) = absurd (no_two l g.at a ws g.before g.after after (are ∙ ap (λ (fs : List LockForm). fs ++ Declares l a ∷ after) g.are ∙ append_assoc g.before (Declares l g.at ∷ g.after) (Declares l a ∷ after)) ss s says p fit)

      second : Each (DeclaresOther l) after ⊎ Again l after → Each (DeclaresOther l) after
      second (inl each) = each
      second (inr g) = absurd (no_two l a g.at ws before g.before g.after (are ∙ ap (λ (fs : List LockForm). before ++ Declares l a ∷ fs) g.are) ss s says p fit)

  has_form : IsDeclared ws l a → HasForm ws l a
  has_form d =
      let o = once d.before d.after d.are in
      record { before = d.before; after = d.after; are = d.are; once_before = o.0; once_after = o.1; reserved = d.reserved }

-- what the symbols of the new text say
module _ (text : List ℕ) (ts : List Token) (s : Source) (c : Cut text (Ok ts)) (short : Each IsShort (forms 0 (all_say text ts))) (reads : Reads (written text 0 0 ts) s) where
  new_says : map what_in (symbols (written text 0 0 ts) reads.0) ≡ rewritten 0 (all_say text ts)
  new_says =
      let out = written text 0 0 ts in
      let said = rewritten_says text ts c short in
      let same : Ok said.tokens ≡ Ok reads.0 = sym (complete said.cut) ∙ complete reads.1 in
      let tokens : said.tokens ≡ reads.0 = cc in
      said_symbols out reads.0 ∙ ap (all_say out) (sym tokens) ∙ said.all

  -- a lock is declared once
  pub declared_once : (l a : List ℕ) (before after : List LockForm) → NamesFit s → forms 0 (all_say text ts) ≡ before ++ Declares l a ∷ after → Each (DeclaresOther l) before × Each (DeclaresOther l) after
  declared_once l a before after fit are = once l a (all_say text ts) (symbols (written text 0 0 ts) reads.0) s new_says reads.2 fit before after are

  -- a text's lock is the program's
  text_has_lock : (l a : List ℕ) → NamesFit s → IsDeclared (all_say text ts) l a → HasLock s (lock_names l a)
  text_has_lock l a fit d =
      let ss = symbols (written text 0 0 ts) reads.0 in
      has_lock l a ss (all_say text ts) s reads.2 new_says (has_form l a (all_say text ts) ss s new_says reads.2 fit d)

pub texts_have_locks : (text : List ℕ) (ts : List Token) (s : Source) (l a : List ℕ) → Cut text (Ok ts) → Each IsShort (forms 0 (all_say text ts)) → IsDeclared (all_say text ts) l a → Reads (written text 0 0 ts) s → NamesFit s → HasLock s (lock_names l a)
texts_have_locks text ts s l a c short d reads fit = text_has_lock text ts s c short reads l a fit d
