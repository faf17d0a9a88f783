-- Each lock of the code of such a program is kept.
use Rattle.std.proofs.Common.{◌≡◌, ℕ, List}
use Rattle.loft_base.specs.declared.ids.SchedId.{SchedId}
use Rattle.loft_base.specs.declared.options.RunOptions.{RunOptions}
use Rattle.loft_tree.specs.Fits.{Each}
use Rattle.loft_tree.specs.Source.{Source}
use Rattle.loft_orders.specs.declared.entry.Entry.{Entry}
use Rattle.loft_tree.specs.NamedFits.{IsScheduler}
use Rattle.loft_sense.specs.Machine.{Tree, Code}
use Rattle.loft_history.specs.History.{replayed}
use Rattle.loft_history.specs.Legal.{IsLegal, HasNoCallers}
use Rattle.loft_numbers.specs.Numbers.{numbered}
use Rattle.loft_translation.specs.Compiled.{compiled}
use Rattle.loft_soundness.proofs.HistoryAlike.{replays_same}
use Rattle.loft_translation.proofs.SameHistories.{code_alike, code_legal}
use Rattle.loft_lock_rewriting.specs.Told.{program_of}
use Rattle.loft_lock_expansion.specs.Expansion.{IsExpansion}
use Rattle.loft_lock_expansion.specs.Kept.{forms_of, FormKept}
use Rattle.loft_lock_expansion.proofs.KeptLemmas.{program_fits, program_placed, expansion_kept}

pub code_kept : (text : List ℕ) (s : Source) (e : IsExpansion text s) (o : RunOptions) (es : List Entry) → IsLegal (Code (compiled (program_of s))) o es → HasNoCallers (program_of s).heads es
    → Each (FormKept s o es) (forms_of text s e)
code_kept text s e o es legal none = expansion_kept text s e o es ((code_legal (numbered s) (program_fits text s e) e.pairs.placed o es).1 legal) none

-- its schedulers have the same machines and notes
pub code_replayed : (text : List ℕ) (s : Source) → IsExpansion text s → (o : RunOptions) (es : List Entry) → IsLegal (Code (compiled (program_of s))) o es → (a : SchedId) → IsScheduler (program_of s).heads a
    → replayed (Tree (program_of s)) o.limits a es ≡ replayed (Code (compiled (program_of s))) o.limits a es
code_replayed text s e o es legal =
    let p = program_of s in
    let fits = program_fits text s e in
    replays_same (Tree p) (Code (compiled p)) (program_placed text s e) (code_alike (numbered s) fits e.pairs.placed) o es ((code_legal (numbered s) fits e.pairs.placed o es).1 legal)
