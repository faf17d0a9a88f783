-- A program that is spelled with the symbols of a lock has its declarations.
use Rattle.std.proofs.Common.{◌≡◌, ℕ, false, List, ◌∷◌, ◌++◌, refl, ap, ◌∙◌}
use Rattle.loft_lex.specs.declared.word.Word.TheVariants as word
use Rattle.loft_lex.specs.Symbol.{Symbol}
use Rattle.loft_tree.specs.Source.{Declaration, Source}
use Rattle.loft_form.specs.Form.{State}
use Rattle.loft_form.specs.Spells.{SpellsEach, SpellsRule}
use Rattle.loft_grammar.specs.Language.{Language, AWord}
use Rattle.loft_grammar.specs.Limits.{limits, nesting, beginning}
use Rattle.loft_grammar.specs.Statements.{rules}
use Rattle.loft_grammar.specs.Items.{item, program}
use Rattle.loft_grammar.specs.Texts.{SpellsProgram}
use Rattle.loft_lock_sources.specs.SourceLocks.{LockNames, lock_declarations, HasLock}
use Rattle.loft_lock_symbols.specs.LockSymbols.{shared_first, shared_rest, event_symbols, takes_symbols, gives_symbols, lock_symbols, KeepAway}
use Rattle.loft_lock_symbols.proofs.Avoids.{HasNone, tail_of, spelled_tail, rule_avoids, cuts}
use Rattle.loft_lock_symbols.proofs.Unlimited.{none_due}
use Rattle.loft_lock_symbols.proofs.Pieces.{SpellsItem, items_pay, items_avoid, rules_avoid, first_shared, first_event, first_takes, first_gives}
use Rattle.loft_lock_symbols.proofs.AwayLemmas.{items_keep, rule_keeps}

pub item_tail : (ss : List Symbol) (c : State Language) (x : Declaration) (d : State Language) → SpellsItem ss c x d → HasNone Language (AWord word.Shared) (tail_of ss)
item_tail = spelled_tail limits nesting (SpellsRule rules limits nesting) (AWord word.Shared) (rule_avoids rules limits (AWord word.Shared) rules_avoid nesting) item items_avoid

four_parts : (u v w x : Declaration) (o p q r t : Source) → o ≡ u ∷ p → p ≡ v ∷ q → q ≡ w ∷ r → r ≡ x ∷ t → o ≡ u ∷ v ∷ w ∷ x ∷ t
four_parts u v w x o p q r t a b c d = a ∙ ap (λ (l : Source). u ∷ l) (b ∙ ap (λ (l : Source). v ∷ l) (c ∙ ap (λ (l : Source). w ∷ l) d))

in_whole : (s before after parts : Source) → s ≡ before ++ after → after ≡ parts → s ≡ before ++ parts
in_whole s before after parts a b = a ∙ ap (λ (l : Source). before ++ l) b

module _ (n : LockNames) (at other : ℕ → ℕ) (front back : List Symbol) (s : Source) (d : State Language) (p : SpellsEach SpellsItem (front ++ lock_symbols n at other back) beginning s d)
    (keep_front : KeepAway n false front) (keep_back : KeepAway n false back) where
  has_lock : HasLock s n
  has_lock =
      let cut = cuts Language SpellsItem (AWord word.Shared) item_tail (front ++ lock_symbols n at other back) front (shared_first n at other) (shared_rest n at other ++ (event_symbols n at other ++ (takes_symbols n at other ++ (gives_symbols n at other ++ back)))) beginning s d refl refl p in
      let due = none_due limits nesting (SpellsRule rules limits nesting) item items_pay front beginning cut.before cut.state refl cut.front in
      let one = first_shared n at other (event_symbols n at other ++ (takes_symbols n at other ++ (gives_symbols n at other ++ back))) cut.state cut.after d due cut.back in
      let two = first_event n at other (takes_symbols n at other ++ (gives_symbols n at other ++ back)) one.state one.others d one.nothing one.spelled in
      let three = first_takes n at other (gives_symbols n at other ++ back) two.state two.others d two.nothing two.spelled in
      let four = first_gives n at other back three.state three.others d three.nothing three.spelled in
      let after = four_parts _ _ _ _ cut.after one.others two.others three.others four.others one.parts two.parts three.parts four.parts in
      record {
        before = cut.before;
        after = four.others;
        at = at;
        parts = in_whole s cut.before cut.after (lock_declarations n at ++ four.others) cut.parts after;
        keep_before = items_keep n limits nesting (SpellsRule rules limits nesting) (rule_keeps n limits nesting) front beginning cut.before cut.state cut.front (false, keep_front);
        keep_after = items_keep n limits nesting (SpellsRule rules limits nesting) (rule_keeps n limits nesting) back four.state four.others d four.spelled (false, keep_back);
      }

pub symbols_have_lock : (n : LockNames) (at other : ℕ → ℕ) (front back : List Symbol) (s : Source) → SpellsProgram (front ++ lock_symbols n at other back) s → KeepAway n false front → KeepAway n false back → HasLock s n
unfolding program
symbols_have_lock n at other front back s p keep_front keep_back = has_lock n at other front back s p.0 p.1 keep_front keep_back
