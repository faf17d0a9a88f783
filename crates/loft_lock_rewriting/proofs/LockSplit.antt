-- The rewritten tokens have the symbols of each lock.
use Rattle.std.proofs.Common.{◌≡◌, ℕ, zero, suc, Bool, true, false, List, [], ◌∷◌, ◌++◌, ◌==◌, drop, map, get_or, Option, Some, None, refl, sym, ap, subst, ◌∙◌}
use Rattle.std.specs.Prelude.{◌≢◌}
use Rattle.std.proofs.lemmas.Bool.{false≢true}
use Rattle.loft_tree.specs.Fits.{Each}
use Rattle.loft_lex.specs.declared.word.Word.{Word}
use Rattle.loft_lex.specs.declared.word.Word.TheVariants as word
use Rattle.loft_lex.specs.declared.sign.Sign.TheVariants as sign
use Rattle.loft_lex.specs.Symbol.{What, Named, Keyword, Numeral, Quoted, Mark, Unreadable, Symbol, symbols}
use Rattle.loft_lex.specs.declared.token.Token.{Token}
use Rattle.loft_tree.specs.Source.{Source}
use Rattle.loft_grammar.specs.Texts.{SpellsProgram}
use Rattle.loft_lock_symbols.proofs.SpelledLocks.{symbols_have_lock}
use Rattle.loft_grammar.specs.Language.{is_sign, kind_of}
use Rattle.loft_lock_sources.specs.SourceLocks.{LockNames, HasLock}
use Rattle.loft_lock_symbols.specs.LockSymbols.{lock_symbols, WhatKeeps, KeepAway}
use Rattle.loft_lock_forms.specs.Rewriting.{LockForm, Declares, TakesIt, GivesIt, more_of, held_name, free_name, takes_name, gives_name, form_at, form_says, with_form, all_say, rewritten, forms}
use Rattle.loft_lock_rewriting.specs.Locked.{lock_names, IsOther, SaysOther, DeclaresOther, HasForm}
use Rattle.loft_lock_rewriting.proofs.FormText.{FormHas}
use Rattle.loft_lock_rewriting.proofs.FormLemmas.{NameHas, form_fits}

abbrev pub what_in : Symbol → What
what_in s = s.what

abbrev at_in : Symbol → ℕ
at_in s = s.at

pub beyond_as : (xs ys zs : List Symbol) → ys ≡ zs → xs ++ ys ≡ xs ++ zs
beyond_as xs ys zs e = ap (λ (us : List Symbol). xs ++ us) e

-- ---- what is said keeps away

module _ (n : LockNames) where
  abbrev pub KeepSays : Bool → List What → Type 0
  KeepSays dot [] = Unit {0}
  KeepSays dot (x ∷ xs) = WhatKeeps n dot x × KeepSays (is_sign sign.Dot (kind_of x)) xs

  pub keep_away : (dot : Bool) (ss : List Symbol) → KeepSays dot (map what_in ss) → KeepAway n dot ss
  keep_away dot [] h = tt
  keep_away dot (s ∷ ss) h = (h.0, keep_away (is_sign sign.Dot (kind_of s.what)) ss h.1)

  word_keeps : (dot : Bool) (v : Word) → WhatKeeps n dot (Keyword v)
  word_keeps true v = tt
  word_keeps false v = tt

has_other : (l : List ℕ) (x : What) → SaysOther l x → NameHas (IsOther l) x
has_other l (Named text) h = h
has_other l (Keyword v) h = tt
has_other l (Numeral v) h = tt
has_other l (Quoted text) h = tt
has_other l (Mark v) h = tt
has_other l Unreadable h = tt

have_others : (l : List ℕ) (xs : List What) → Each (SaysOther l) xs → Each (NameHas (IsOther l)) xs
have_others l [] h = tt
have_others l (x ∷ xs) h = (has_other l x h.0, have_others l xs h.1)

abbrev first_h : List ℕ → Bool
first_h [] = false
first_h (b ∷ bs) = b == 104

module _ (l a : List ℕ) where
  abbrev pub n : LockNames
  n = lock_names l a

  what_keeps : (dot : Bool) (x : What) → SaysOther l x → WhatKeeps n dot x
  what_keeps true (Named text) h = h
  what_keeps false (Named text) h = h.0
  what_keeps true (Keyword v) h = tt
  what_keeps false (Keyword v) h = tt
  what_keeps true (Numeral v) h = tt
  what_keeps false (Numeral v) h = tt
  what_keeps true (Quoted text) h = tt
  what_keeps false (Quoted text) h = tt
  what_keeps true (Mark v) h = tt
  what_keeps false (Mark v) h = tt
  what_keeps true Unreadable h = tt
  what_keeps false Unreadable h = tt

  form_keeps : (f : LockForm) (xs : List What) (dot : Bool) → FormHas (IsOther l) f → DeclaresOther l f → KeepSays n false xs → KeepSays n dot (form_says f xs)
  form_keeps (Declares k b) xs dot h differs rest =
      let held : held_name k ≢ held_name l = (λ e. differs (ap (drop 5) e)) in
      let free : free_name k ≢ held_name l = (λ e. false≢true (ap first_h e)) in
      let takes : takes_name k ≢ held_name l = (λ e. false≢true (ap first_h e)) in
      let gives : gives_name k ≢ held_name l = (λ e. false≢true (ap first_h e)) in
      let first = word_keeps n dot word.Shared in (
        first,
        (
          held,
          (
            tt,
            (
              h.1.0,
              (
                tt,
                (
                  tt,
                  (
                    tt,
                    (
                      tt,
                      (
                        free,
                        (
                          tt,
                          (
                            h.1.0,
                            (
                              tt,
                              (
                                tt,
                                (
                                  takes,
                                  (
                                    tt,
                                    (
                                      tt,
                                      (
                                        tt,
                                        (
                                          h.1.0,
                                          (
                                            tt,
                                            (
                                              tt,
                                              (
                                                held,
                                                (
                                                  tt,
                                                  (
                                                    tt,
                                                    (
                                                      tt,
                                                      (
                                                        free,
                                                        (
                                                          tt,
                                                          (
                                                            tt,
                                                            (
                                                              tt,
                                                              (
                                                                held,
                                                                (
                                                                  tt,
                                                                  (
                                                                    tt,
                                                                    (
                                                                      tt,
                                                                      (
                                                                        tt,
                                                                        (
                                                                          tt,
                                                                          (
                                                                            tt,
                                                                            (
                                                                              held,
                                                                              (
                                                                                tt,
                                                                                (
                                                                                  tt,
                                                                                  (
                                                                                    tt,
                                                                                    (
                                                                                      tt,
                                                                                      (
                                                                                        tt,
                                                                                        (
                                                                                          gives,
                                                                                          (tt, (tt, (tt, (h.1.0, (held, (tt, (tt, (tt, (tt, (free, (tt, (tt, rest)))))))))))),
                                                                                        ),
                                                                                      ),
                                                                                    ),
                                                                                  ),
                                                                                ),
                                                                              ),
                                                                            ),
                                                                          ),
                                                                        ),
                                                                      ),
                                                                    ),
                                                                  ),
                                                                ),
                                                              ),
                                                            ),
                                                          ),
                                                        ),
                                                      ),
                                                    ),
                                                  ),
                                                ),
                                              ),
                                            ),
                                          ),
                                        ),
                                      ),
                                    ),
                                  ),
                                ),
                              ),
                            ),
                          ),
                        ),
                      ),
                    ),
                  ),
                ),
              ),
            ),
          ),
        ),
      )
  form_keeps (TakesIt k) xs dot h differs rest =
      let takes : takes_name k ≢ held_name l = (λ e. false≢true (ap first_h e)) in
      (word_keeps n dot word.Run, (takes, (tt, (tt, (tt, rest)))))
  form_keeps (GivesIt k) xs dot h differs rest =
      let gives : gives_name k ≢ held_name l = (λ e. false≢true (ap first_h e)) in
      (word_keeps n dot word.Run, (gives, (tt, (tt, (tt, rest)))))

  -- by the form that begins here
  keeps_by : (o : Option LockForm) (x : What) (xs : List What) (dot : Bool) → form_at x xs ≡ o → SaysOther l x → Each (SaysOther l) xs
      → Each (DeclaresOther l) (with_form o (forms 0 xs) (λ f. f ∷ forms (more_of f) xs))
      → ((skip : ℕ) (d : Bool) → Each (DeclaresOther l) (forms skip xs) → KeepSays n d (rewritten skip xs))
      → KeepSays n dot (with_form o (x ∷ rewritten 0 xs) (λ f. form_says f (rewritten (more_of f) xs)))
  keeps_by None x xs dot e h each others rest = (what_keeps dot x h, rest 0 _ others)
  keeps_by (Some f) x xs dot e h each others rest = form_keeps f _ dot (form_fits (IsOther l) x xs f e (has_other l x h) (have_others l xs each)) others.0 (rest (more_of f) false others.1)

  keeps : (xs : List What) (skip : ℕ) (dot : Bool) → Each (SaysOther l) xs → Each (DeclaresOther l) (forms skip xs) → KeepSays n dot (rewritten skip xs)
  keeps [] skip dot each others = tt
  keeps (x ∷ xs) zero dot each others = keeps_by (form_at x xs) x xs dot refl each.0 each.1 others (λ skip d more. keeps xs skip d each.1 more)
  keeps (x ∷ xs) (suc skip) dot each others = keeps xs skip dot each.1 others

  -- ---- where the form stands

  record Split (dot : Bool) (ws : List What) : Type 0 where
    front : List What
    back : List What
    parts : ws ≡ front ++ form_says (Declares l a) back
    keep_front : KeepSays n dot front
    keep_back : KeepSays n false back

  one_after : (f : LockForm) (dot : Bool) (ws : List What) → FormHas (IsOther l) f → DeclaresOther l f → Split false ws → Split dot (form_says f ws)
  one_after f dot ws h differs s = record {
    front = form_says f s.front;
    back = s.back;
    parts = ap (form_says f) s.parts ∙ through f;
    keep_front = form_keeps f s.front dot h differs s.keep_front;
    keep_back = s.keep_back;
  }
    where
      through : (g : LockForm) → form_says g (s.front ++ form_says (Declares l a) s.back) ≡ form_says g s.front ++ form_says (Declares l a) s.back
      through (Declares k b) = refl
      through (TakesIt k) = refl
      through (GivesIt k) = refl

  here : (f : LockForm) (dot : Bool) (skip : ℕ) (xs : List What) (gs fs : List LockForm) → f ∷ forms skip xs ≡ fs ++ Declares l a ∷ gs → skip ≡ more_of f → FormHas (IsOther l) f
      → Each (SaysOther l) xs → Each (DeclaresOther l) fs → Each (DeclaresOther l) gs
      → ((hs : List LockForm) → forms skip xs ≡ hs ++ Declares l a ∷ gs → Each (DeclaresOther l) hs → Split false (rewritten skip xs))
      → Split dot (form_says f (rewritten skip xs))
  here f dot skip xs gs [] e m h each before after rest =
      let same : f ≡ Declares l a = cc in
      let others : forms skip xs ≡ gs = cc in
      record {
        front = [];
        back = rewritten skip xs;
        parts = ap (λ (g : LockForm). form_says g (rewritten skip xs)) same;
        keep_front = tt;
        keep_back = keeps xs skip false each (subst (Each (DeclaresOther l)) (sym others) after);
      }
  here f dot skip xs gs (g ∷ fs) e m h each before after rest =
      let same : g ≡ f = cc in
      let others : forms skip xs ≡ fs ++ Declares l a ∷ gs = cc in
      one_after f dot _ h (subst (DeclaresOther l) same before.0) (rest fs others before.1)

  split_by : (o : Option LockForm) (x : What) (xs : List What) (dot : Bool) (fs gs : List LockForm) → form_at x xs ≡ o → SaysOther l x → Each (SaysOther l) xs
      → with_form o (forms 0 xs) (λ f. f ∷ forms (more_of f) xs) ≡ fs ++ Declares l a ∷ gs → Each (DeclaresOther l) fs → Each (DeclaresOther l) gs
      → ((skip : ℕ) (d : Bool) (hs : List LockForm) → forms skip xs ≡ hs ++ Declares l a ∷ gs → Each (DeclaresOther l) hs → Split d (rewritten skip xs))
      → Split dot (with_form o (x ∷ rewritten 0 xs) (λ f. form_says f (rewritten (more_of f) xs)))
  split_by None x xs dot fs gs e h each are before after rest =
      let s = rest 0 (is_sign sign.Dot (kind_of x)) fs are before in
      record { front = x ∷ s.front; back = s.back; parts = ap (λ (ws : List What). x ∷ ws) s.parts; keep_front = (what_keeps dot x h, s.keep_front); keep_back = s.keep_back }
  split_by (Some f) x xs dot fs gs e h each are before after rest =
      here f dot (more_of f) xs gs fs are refl (form_fits (IsOther l) x xs f e (has_other l x h) (have_others l xs each)) each before after (λ hs. rest (more_of f) false hs)

  no_form : (fs gs : List LockForm) → [] ≡ fs ++ Declares l a ∷ gs → ⊥
  no_form [] gs e = cc
  no_form (f ∷ fs) gs e = cc

  split : (xs : List What) (skip : ℕ) (dot : Bool) (fs gs : List LockForm) → Each (SaysOther l) xs → forms skip xs ≡ fs ++ Declares l a ∷ gs → Each (DeclaresOther l) fs → Each (DeclaresOther l) gs → Split dot (rewritten skip xs)
  split [] skip dot fs gs each are before after = absurd (no_form fs gs are)
  split (x ∷ xs) zero dot fs gs each are before after = split_by (form_at x xs) x xs dot fs gs refl each.0 each.1 are before after (λ skip d hs e b. split xs skip d hs gs each.1 e b after)
  split (x ∷ xs) (suc skip) dot fs gs each are before after = split xs skip dot fs gs each.1 are before after

  -- ---- symbols

  -- what is said, at these offsets
  abbrev put_at : (ℕ → ℕ) → List What → List Symbol
  put_at off [] = []
  put_at off (x ∷ xs) = record { at = off 0; what = x } ∷ put_at (λ k. off (suc k)) xs

  abbrev later : ℕ → (ℕ → ℕ) → ℕ → ℕ
  later zero off = off
  later (suc i) off = later i (λ k. off (suc k))

  put_says : (xs : List What) (off : ℕ → ℕ) → map what_in (put_at off xs) ≡ xs
  put_says [] off = refl
  put_says (x ∷ xs) off = ap (λ (ys : List What). x ∷ ys) (put_says xs (λ k. off (suc k)))

  same_put : (ss : List Symbol) (off : ℕ → ℕ) → ((k : ℕ) → off k ≡ get_or (map at_in ss) k 0) → ss ≡ put_at off (map what_in ss)
  same_put [] off e = refl
  same_put (s ∷ ss) off e =
      let others = same_put ss (λ k. off (suc k)) (λ k. e (suc k)) in
      let here : s ≡ record { at = off 0; what = s.what } = ap (λ (i : ℕ). record { at = i; what = s.what }) (sym (e 0)) in
      cc

  abbrev at_list : List ℕ
  at_list = 18 ∷ 20 ∷ 23 ∷ 24 ∷ 26 ∷ 28 ∷ 31 ∷ 35 ∷ 37 ∷ 46 ∷ 48 ∷ 50 ∷ 51 ∷ 1 ∷ 3 ∷ 8 ∷ 10 ∷ 13 ∷ 17 ∷ 41 ∷ 45 ∷ []

  abbrev other_list : List ℕ
  other_list = 0 ∷ 2 ∷ 4 ∷ 5 ∷ 6 ∷ 7 ∷ 9 ∷ 11 ∷ 12 ∷ 14 ∷ 15 ∷ 16 ∷ 19 ∷ 21 ∷ 22 ∷ 25 ∷ 27 ∷ 29 ∷ 30 ∷ 32 ∷ 33 ∷ 34 ∷ 36 ∷ 38 ∷ 39 ∷ 40 ∷ 42 ∷ 43 ∷ 44 ∷ 47 ∷ 49 ∷ 52 ∷ 53 ∷ []

  lock_put : (off : ℕ → ℕ) (back : List What) → put_at off (form_says (Declares l a) back) ≡ lock_symbols n (λ k. off (get_or at_list k 0)) (λ k. off (get_or other_list k 0)) (put_at (later 54 off) back)
  lock_put off back = refl

  pub record Cloven (ss : List Symbol) (xs ys : List What) : Type 0 where
    pub left : List Symbol
    pub right : List Symbol
    pub are : ss ≡ left ++ right
    pub left_says : map what_in left ≡ xs
    pub right_says : map what_in right ≡ ys

  pub cleave : (xs : List What) (ss : List Symbol) (ys : List What) → map what_in ss ≡ xs ++ ys → Cloven ss xs ys
  cleave [] ss ys e = record { left = []; right = ss; are = refl; left_says = refl; right_says = e }
  cleave (x ∷ xs) [] ys e = absurd cc
  cleave (x ∷ xs) (s ∷ ss) ys e =
      let first : s.what ≡ x = cc in
      let others : map what_in ss ≡ xs ++ ys = cc in
      let c = cleave xs ss ys others in
      let f = c.left_says in
      record { left = s ∷ c.left; right = c.right; are = ap (λ (us : List Symbol). s ∷ us) c.are; left_says = cc; right_says = c.right_says }

  -- symbols that say what the form becomes are those of the lock
  pub record AsLock (ss : List Symbol) (ws : List What) : Type 0 where
    pub at : ℕ → ℕ
    pub other : ℕ → ℕ
    pub back : List Symbol
    pub are : ss ≡ lock_symbols n at other back
    pub says : map what_in back ≡ ws

  pub as_lock : (ss : List Symbol) (ws : List What) → map what_in ss ≡ form_says (Declares l a) ws → AsLock ss ws
  as_lock ss ws e =
      let off : ℕ → ℕ = λ k. get_or (map at_in ss) k 0 in
      record {
        at = λ k. off (get_or at_list k 0);
        other = λ k. off (get_or other_list k 0);
        back = put_at (later 54 off) ws;
        are = same_put ss off (λ k. refl) ∙ ap (put_at off) e ∙ lock_put off ws;
        says = put_says ws (later 54 off);
      }

  spelled_as : (us vs : List Symbol) (s : Source) → us ≡ vs → SpellsProgram us s → SpellsProgram vs s
  spelled_as us vs s e p = subst (λ (l : List Symbol). SpellsProgram l s) e p

  kept_as : (ss : List Symbol) (ws : List What) → map what_in ss ≡ ws → KeepSays n false ws → KeepAway n false ss
  kept_as ss ws e h = keep_away n false ss (subst (KeepSays n false) (sym e) h)

  pub has_lock : (ss : List Symbol) (ws : List What) (s : Source) → SpellsProgram ss s → map what_in ss ≡ rewritten 0 ws → HasForm ws l a → HasLock s n
  has_lock ss ws s p e h =
      let parts = split ws 0 false h.before h.after h.reserved h.are h.once_before h.once_after in
      let c = cleave parts.front ss (form_says (Declares l a) parts.back) (e ∙ parts.parts) in
      let k = as_lock c.right parts.back c.right_says in
      let whole : ss ≡ c.left ++ lock_symbols n k.at k.other k.back = c.are ∙ beyond_as c.left c.right (lock_symbols n k.at k.other k.back) k.are in
      symbols_have_lock n k.at k.other c.left k.back s
      (spelled_as ss (c.left ++ lock_symbols n k.at k.other k.back) s whole p)
      (kept_as c.left parts.front c.left_says parts.keep_front)
      (kept_as k.back parts.back k.says parts.keep_back)

pub said_symbols : (text : List ℕ) (ts : List Token) → map what_in (symbols text ts) ≡ all_say text ts
said_symbols text [] = refl
said_symbols text (t ∷ ts) = let e = said_symbols text ts in cc
