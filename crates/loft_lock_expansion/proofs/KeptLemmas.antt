-- Each lock of the program that a text stands for is kept.
use Rattle.std.proofs.Common.{◌≡◌, ℕ, zero, suc, Bool, true, false, List, [], ◌∷◌, ◌++◌, map, None, slice_get, refl, sym, subst, ◌∙◌, append_assoc}
use Rattle.std.specs.Prelude.{unwrap_or}
use Rattle.loft_base.specs.declared.ids.ModuleId.{ModuleId}
use Rattle.loft_base.specs.declared.options.RunOptions.{RunOptions}
use Rattle.loft_tree.specs.Fits.{Each}
use Rattle.loft_tree.specs.Source.{Source}
use Rattle.loft_tree.specs.NamedTree.{NamedModule}
use Rattle.loft_tree.specs.NamedFits.{NamedFits}
use Rattle.loft_tree.specs.Resolved.{Resolved, body_of, Empty}
use Rattle.loft_lex.proofs.Readings.{complete}
use Rattle.loft_productions.proofs.fits.SpelledFits.{spelled_fits}
use Rattle.loft_names.proofs.NumberedFits.{numbered_fits}
use Rattle.loft_orders.specs.declared.entry.Entry.{Entry}
use Rattle.loft_sense.specs.Machine.{Tree}
use Rattle.loft_history.specs.Legal.{IsLegal, HasNoCallers}
use Rattle.loft_soundness.specs.WellFormed.{IsPlacedTree}
use Rattle.loft_numbers.specs.Numbers.{numbered}
use Rattle.loft_locks.specs.Locks.{Lock, Leaves, BodyPairs}
use Rattle.loft_locks.specs.LocksHold.{LockKept}
use Rattle.loft_locks.specs.Outline.{outline, pair_fault, leave_fault}
use Rattle.loft_lock_forms.specs.Marks.{Mark}
use Rattle.loft_locks.specs.Marked.{BodyKeeps, BodyMarked}
use Rattle.loft_locks.proofs.RefusalLemmas.{pairs_stand}
use Rattle.loft_locks.proofs.LockHistory.{locks_kept}
use Rattle.loft_lock_sources.proofs.LockLemmas.{locks_stand}
use Rattle.loft_lock_forms.specs.Rewriting.{LockForm, Declares, TakesIt, GivesIt, all_say, written, forms, IsShort}
use Rattle.loft_lock_rewriting.specs.Locked.{lock_names, IsDeclared}
use Rattle.loft_lock_forms.specs.Marks.{text_marks}
use Rattle.loft_lock_rewriting.specs.Told.{lock_by, program_of}
use Rattle.loft_lock_rewriting.proofs.LockTwice.{texts_have_locks}
use Rattle.loft_lock_rewriting.proofs.MarkLemmas.{marks_tell}
use Rattle.loft_lock_forms.specs.Names.{reserved_name}
use Rattle.loft_lock_expansion.specs.Expansion.{IsExpansion}
use Rattle.loft_lock_expansion.specs.Kept.{forms_of, FormKept}
use Rattle.loft_lock_expansion.proofs.CheckLemmas.{short_forms, reserved_for, no_faults}
use Rattle.loft_lock_expansion.proofs.PairsAlone.{pairs_alone}

-- ---- lists

each_at : {A : Type 0} (P : A → Type 0) (front xs : List A) → ((before : List A) (x : A) (after : List A) → front ++ xs ≡ before ++ x ∷ after → P x) → Each P xs
each_at P front [] f = tt
each_at P front (x ∷ xs) f = (f front x xs refl, each_at P (front ++ x ∷ []) xs (λ before y after e. f before y after (sym (append_assoc front (x ∷ []) xs) ∙ e)))

-- what holds of an element wherever it stands
each_of : {A : Type 0} (P : A → Type 0) (xs : List A) → ((before : List A) (x : A) (after : List A) → xs ≡ before ++ x ∷ after → P x) → Each P xs
each_of P xs f = each_at P [] xs f

-- ---- the pairs of a lock

unpaired_as : (marks : List Mark) (away : ModuleId → Bool) (ms : List NamedModule) → Each (λ (m : NamedModule). pair_fault [] [] (outline marks (λ i. false) m.body) ≡ None) ms
    → Each (λ (m : NamedModule). pair_fault [] [] (outline marks away m.body) ≡ None) ms
unpaired_as marks away [] f = tt
unpaired_as marks away (m ∷ ms) f = (pairs_alone marks away (λ i. false) [] [] m.body ∙ f.0, unpaired_as marks away ms f.1)

module _ (p : Resolved) (l : Lock) (name : List ℕ) (marks : List Mark) (away : ModuleId → Bool) (leaving : (m : ModuleId) → Leaves p m → away m ≡ true) where
  module_pairs : (ms : List NamedModule) (i : ℕ) → Each (λ (m : NamedModule). pair_fault [] [] (outline marks away m.body) ≡ None) ms → Each (λ (m : NamedModule). leave_fault [] [] (outline marks away m.body) ≡ None) ms
      → Each (λ (m : NamedModule). BodyMarked l name marks m.body) ms → BodyKeeps l (unwrap_or (slice_get (map (λ (m : NamedModule). body_of m.body) ms) i) Empty) → BodyPairs p l false false (unwrap_or (slice_get (map (λ (m : NamedModule). body_of m.body) ms) i) Empty)
  module_pairs [] i a b c keeps = refl
  module_pairs (m ∷ ms) zero a b c keeps = pairs_stand p l name marks away leaving m.body a.0 b.0 keeps c.0
  module_pairs (m ∷ ms) (suc i) a b c keeps = module_pairs ms i a.1 b.1 c.1 keeps

-- ---- the program

pub program_fits : (text : List ℕ) (s : Source) → IsExpansion text s → NamedFits (numbered s)
program_fits text s e = let named = e.pairs.named in numbered_fits s (spelled_fits (written text 0 0 e.tokens) named.reads.0 (complete named.reads.1) s named.reads.2) named.names

pub program_placed : (text : List ℕ) (s : Source) → IsExpansion text s → IsPlacedTree (program_of s)
program_placed text s e = record { source = numbered s; names = program_fits text s e; links = e.pairs.placed; same = refl }

module _ (text : List ℕ) (s : Source) (e : IsExpansion text s) where
  short : Each IsShort (forms 0 (all_say text e.tokens))
  short = short_forms text 0 e.tokens e.pairs.named.rewritten.short

  declared_here : (l a : List ℕ) (before after : List LockForm) → forms_of text s e ≡ before ++ Declares l a ∷ after → IsDeclared (all_say text e.tokens) l a
  declared_here l a before after at = record {
    before = before;
    after = after;
    are = at;
    reserved = reserved_for text e.tokens before l a after (subst (λ (fs : List LockForm). reserved_name text fs e.tokens ≡ None) at e.pairs.named.rewritten.free);
  }

  kept_here : (l a : List ℕ) (before after : List LockForm) → forms_of text s e ≡ before ++ Declares l a ∷ after → (o : RunOptions) (es : List Entry) → IsLegal (Tree (program_of s)) o es → HasNoCallers (program_of s).heads es
      → LockKept (program_of s) (lock_by s l a) o es
  kept_here l a before after at o es legal none =
      let named = e.pairs.named in
      let p = program_of s in
      let k = lock_by s l a in
      let marks = text_marks text e.tokens in
      let ms = (numbered s).modules in
      let leaving : (m : ModuleId) → Leaves p m → e.away m ≡ true = λ m leaves. (e.leaving m).1 leaves in
      let declared = declared_here l a before after at in
      let has = texts_have_locks text e.tokens s l a named.rewritten.writes.cut short declared named.reads named.names in
      let told = marks_tell text e.tokens s l a named.rewritten.writes.cut short declared named.reads named.names in
      let pairs = unpaired_as marks e.away ms (no_faults (λ (m : NamedModule). pair_fault [] [] (outline marks (λ i. false) m.body)) 0 ms e.pairs.paired) in
      let leaves = no_faults (λ (m : NamedModule). leave_fault [] [] (outline marks e.away m.body)) 0 ms e.stays in
      let stands = locks_stand s (lock_names l a) named.names has in
      let expanded = stands.0 (λ m other. module_pairs p k l marks e.away leaving ms m.0 pairs leaves told (stands.1 m other)) in
      locks_kept p k (program_placed text s e) expanded o es legal none

  pub expansion_kept : (o : RunOptions) (es : List Entry) → IsLegal (Tree (program_of s)) o es → HasNoCallers (program_of s).heads es → Each (FormKept s o es) (forms_of text s e)
  expansion_kept o es legal none = each_of (FormKept s o es) (forms_of text s e) by
    where
      by : (before : List LockForm) (f : LockForm) (after : List LockForm) → forms_of text s e ≡ before ++ f ∷ after → FormKept s o es f
      by before (Declares l a) after at = kept_here l a before after at o es legal none
      by before (TakesIt l) after at = tt
      by before (GivesIt l) after at = tt
