-- What the steps say together of a text with locks.
use Rattle.std.proofs.Common.{◌≡◌, ℕ, ◌≤◌, List, length, None, refl, sym, subst, Result, Err}
use Rattle.std.specs.Prelude.{IfSome, IfErr}
use Rattle.loft_base.specs.declared.ids.SchedId.{SchedId}
use Rattle.loft_base.specs.declared.options.RunOptions.{RunOptions}
use Rattle.loft_lex.specs.declared.TheConstants.{MAX_TEXT_LEN}
use Rattle.loft_tree.specs.Fits.{Each}
use Rattle.loft_tree.specs.NamedFits.{IsScheduler}
use Rattle.loft_tree.specs.Source.{Source}
use Rattle.loft_orders.specs.declared.entry.Entry.{Entry}
use Rattle.loft_sense.specs.Machine.{Tree, Code}
use Rattle.loft_history.specs.History.{replayed}
use Rattle.loft_history.specs.Legal.{IsLegal, HasNoCallers}
use Rattle.loft_translation.specs.Compiled.{compiled}
use Rattle.loft_grammar.specs.Texts.{Reads}
use Rattle.loft_scopes.specs.Faults.{NamesFit}
use Rattle.loft_numbers.specs.Numbers.{numbered}
use Rattle.loft_lock_forms.specs.Rewriting.{written}
use Rattle.loft_lock_forms.specs.Marks.{Mark, AreRising, text_marks}
use Rattle.loft_lock_forms.specs.Seen.{marks_seen}
use Rattle.loft_lock_forms.specs.declared.rewriting.Written.{Written}
use Rattle.loft_lock_rewriting.specs.Told.{program_of}
use Rattle.loft_lock_expansion.specs.Expansion.{IsNamed, IsExpansion, first_unpaired, first_leaving}
use Rattle.loft_lock_expansion.specs.Refusals.{IsRefused}
use Rattle.loft_lock_expansion.specs.Kept.{forms_of, FormKept}
use Rattle.loft_mutex.specs.declared.error.MutexError.{MutexError}
use Rattle.loft_mutex.specs.declared.error.MutexError.TheVariants as error
use Rattle.loft_mutex.specs.Refusing.{refusal_of, IsReadFor, AreNamesFor}
use Rattle.loft_mutex.specs.Kept.{KeepsLocks}
use Rattle.loft_mutex.specs.Stages.{IsWrittenFor, IsChecked, IsCheckFault}
use Rattle.loft_mutex.proofs.MarksRise.{marks_rise}

-- what holds of an error holds of a result that is it
pub err_has : {A E : Type 0} (P : E → Type 0) (r : Result A E) (e : E) → r ≡ Err e → P e → IfErr r P
err_has P r e is holds = subst (λ (q : Result _ _). IfErr q P) (sym is) holds

-- ---- what is written

pub written_short : (text : List ℕ) (w : Written) → IsWrittenFor text w → length w.text.items ≤ MAX_TEXT_LEN
written_short text w made = subst (λ (t : List ℕ). length t ≤ MAX_TEXT_LEN) (sym made.says) made.rewritten.writes.written_fits

pub written_rises : (text : List ℕ) (w : Written) → IsWrittenFor text w → AreRising 0 (marks_seen w.marks.items)
written_rises text w made = subst (λ (ms : List Mark). AreRising 0 ms) (sym made.marks) (marks_rise text 0 0 0 made.tokens)

-- ---- its checks

pub expansion_of : (text : List ℕ) (w : Written) (p : Source) → ((t : List ℕ) (a b : Source) → Reads t a → Reads t b → a ≡ b)
    → IsWrittenFor text w → IsChecked w.text.items (marks_seen w.marks.items) → Reads w.text.items p → IsExpansion text p
expansion_of text w p one made checked reads =
    subst (λ (s : Source). IsExpansion text s) (one w.text.items checked.source p checked.reads reads) (record {
      tokens = made.tokens;
      pairs = record {
        named = record { rewritten = made.rewritten; reads = subst (λ (t : List ℕ). Reads t checked.source) made.says checked.reads; names = checked.names };
        placed = checked.placed;
        paired = subst (λ (ms : List Mark). first_unpaired ms (numbered checked.source).modules ≡ None) made.marks checked.paired;
      };
      away = checked.stays.away;
      leaving = checked.stays.tells checked.source refl;
      stays = subst (λ (ms : List Mark). first_leaving ms checked.stays.away (numbered checked.source).modules ≡ None) made.marks checked.stays.stays;
    })

module _ (text : List ℕ) (w : Written) (names : List (List ℕ)) (made : IsWrittenFor text w) where
  moved : (e : MutexError) → IsCheckFault w.text.items (marks_seen w.marks.items) names e → IsCheckFault (written text 0 0 made.tokens) (text_marks text made.tokens) names e
  moved e f = subst (λ (ms : List Mark). IsCheckFault (written text 0 0 made.tokens) ms names e) made.marks (subst (λ (t : List ℕ). IsCheckFault t (marks_seen w.marks.items) names e) made.says f)

  named_in : (s : Source) → Reads (written text 0 0 made.tokens) s → NamesFit s → IsNamed text made.tokens s
  named_in s reads fit = record { rewritten = made.rewritten; reads = reads; names = fit }

  refused : (e : MutexError) → IsCheckFault (written text 0 0 made.tokens) (text_marks text made.tokens) names e → IfSome (refusal_of e) (IsRefused text)
  refused (error.Parse e) f = (made.tokens, made.rewritten, f)
  refused (error.Names e) (s, reads, f) = (made.tokens, s, made.rewritten, reads, f)
  refused (error.Place e) (s, reads, fit, f, same) = (made.tokens, s, named_in s reads fit, f)
  refused (error.Pair m lock) (s, reads, fit, placed, f, same) = (made.tokens, s, named_in s reads fit, placed, f)
  refused (error.Leaves m lock) (s, reads, fit, placed, paired, left, same) =
      (made.tokens, s, left.away, record { named = named_in s reads fit; placed = placed; paired = paired }, left.tells s refl, left.leaves)
  refused error.NoMemory f = tt
  refused error.TooLong f = absurd f
  refused (error.Lex e) f = absurd f
  refused (error.LongLock at) f = absurd f
  refused (error.Reserved at) f = absurd f

  read_for : (s : Source) → Reads (written text 0 0 made.tokens) s → IsReadFor text s
  read_for s reads = record { tokens = made.tokens; cut = made.rewritten.writes.cut; reads = reads }

  told : (e : MutexError) → IsCheckFault (written text 0 0 made.tokens) (text_marks text made.tokens) names e → AreNamesFor text names e
  told (error.Place e) (s, reads, fit, f, same) = (s, read_for s reads, same)
  told (error.Pair m lock) (s, reads, fit, placed, f, same) = (s, read_for s reads, same)
  told (error.Leaves m lock) (s, reads, fit, placed, paired, left, same) = (s, read_for s reads, same)
  told (error.Parse e) f = tt
  told (error.Names e) f = tt
  told error.NoMemory f = tt
  told error.TooLong f = tt
  told (error.Lex e) f = tt
  told (error.LongLock at) f = tt
  told (error.Reserved at) f = tt

  pub check_refused : (e : MutexError) → IsCheckFault w.text.items (marks_seen w.marks.items) names e → IfSome (refusal_of e) (IsRefused text)
  check_refused e f = refused e (moved e f)

  pub check_named : (e : MutexError) → IsCheckFault w.text.items (marks_seen w.marks.items) names e → AreNamesFor text names e
  check_named e f = told e (moved e f)

-- ---- locks

-- what the laws of expansions say of one
module _ (text : List ℕ) (s : Source) (e : IsExpansion text s) where
  abbrev pub KeptByTree : Type 0
  KeptByTree = (o : RunOptions) (es : List Entry) → IsLegal (Tree (program_of s)) o es → HasNoCallers (program_of s).heads es → Each (FormKept s o es) (forms_of text s e)

  abbrev pub KeptByCode : Type 0
  KeptByCode = (o : RunOptions) (es : List Entry) → IsLegal (Code (compiled (program_of s))) o es → HasNoCallers (program_of s).heads es → Each (FormKept s o es) (forms_of text s e)

  abbrev pub HasSameMachines : Type 0
  HasSameMachines = (o : RunOptions) (es : List Entry) → IsLegal (Code (compiled (program_of s))) o es → (a : SchedId) → IsScheduler (program_of s).heads a
      → replayed (Tree (program_of s)) o.limits a es ≡ replayed (Code (compiled (program_of s))) o.limits a es

  pub locks_kept : KeptByTree → KeptByCode → HasSameMachines → KeepsLocks text s
  locks_kept tree code machines = record { tokens = e.tokens; cut = e.pairs.named.rewritten.writes.cut; tree = tree; code = code; machines = machines }
