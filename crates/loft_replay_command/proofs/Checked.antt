-- What the check of a file comes to.
use Rattle.std.proofs.Common.{◌≡◌, ℕ, ◌<◌, List, length, Option, Some, None, Result, Ok, Err, IfErr, ap}
use Rattle.loft_base.specs.declared.ids.SchedId.{SchedId}
use Rattle.loft_sense.specs.Machine.{Prog}
use Rattle.loft_report_shape.specs.Report.{longest}
use Rattle.loft_report_reader.specs.declared.error.LogError.{LogError}
use Rattle.loft_report_reader.specs.declared.error.LogError.TheVariants as log
use Rattle.loft_report_file.specs.Answer.{FileAnswers, FileVerdict}
use Rattle.loft_report_file.specs.declared.error.ReportFileError.{ReportFileError}
use Rattle.loft_report_file.specs.declared.error.ReportFileError.TheVariants as file
use Rattle.loft_replay_error.specs.declared.error.ReplayError.{ReplayError}
use Rattle.loft_replay_error.specs.declared.error.ReplayError.TheVariants as error
use Rattle.loft_replay_command.specs.declared.refusal.LogRefusal.{LogRefusal}
use Rattle.loft_replay_command.specs.declared.refusal.LogRefusal.TheVariants.{NoReport, Entry, Instant, Byte}
use Rattle.loft_replay_command.specs.declared.refusal.ReplayStop.{ReplayStop}
use Rattle.loft_replay_command.specs.declared.refusal.ReplayStop.TheVariants as stop
use Rattle.loft_replay_command.specs.Replay.{IsNoReport, WholeComesTo, BlockComesTo}
use Rattle.loft_replay_command.specs.Stops.{stop_of_log, stop_of_file, stop_of_whole, stop_of_block}
use Rattle.loft_replay_command.specs.Finding.{CheckComesTo, Found, IsOfCheck, IsOfReport}
use Rattle.loft_replay_command.proofs.Reports.{Laws, told_is_report, one_reason, fault_reason}

-- ---- which stops there are

log_of_check : (e : LogError) → IsOfCheck (stop_of_log e)
log_of_check (log.Line n k) = tt
log_of_check (log.Ends k) = tt
log_of_check log.TooLong = tt
log_of_check log.NoMemory = tt

pub whole_of_check : (e : ReplayError) → IsOfCheck (stop_of_whole e)
whole_of_check (error.Log e) = log_of_check e
whole_of_check (error.NotAllowed n) = tt
whole_of_check (error.Differs k) = tt
whole_of_check error.NoMemory = tt

pub block_of_check : (e : ReplayError) → IsOfCheck (stop_of_block e)
block_of_check (error.Log e) = log_of_check e
block_of_check (error.NotAllowed n) = tt
block_of_check (error.Differs k) = tt
block_of_check error.NoMemory = tt

check_of_report : (e : ReplayStop) → IsOfCheck e → IsOfReport e
check_of_report (stop.Source r) is = is
check_of_report stop.UnknownScheduler is = is
check_of_report (stop.Log l) is = is
check_of_report stop.FileFault is = tt
check_of_report stop.SinkFault is = is
check_of_report stop.NoMemory is = is

pub checked_of_report : {A : Type 0} (result : Result A ReplayStop) → IfErr result IsOfCheck → IfErr result IsOfReport
checked_of_report (Ok a) is = tt
checked_of_report (Err e) is = check_of_report e is

pub file_of_report : (e : ReportFileError) → IsOfReport (stop_of_file e)
file_of_report file.Failed = tt
file_of_report (file.Log e) = check_of_report (stop_of_log e) (log_of_check e)

-- the check of a report that was read meets no fault of a file
pub check_no_fault : {A : Type 0} (result : Result A ReplayStop) → IfErr result IsOfCheck → result ≡ Err stop.FileFault → ⊥
check_no_fault (Ok a) is same = cc
check_no_fault (Err (stop.Source r)) is same = is
check_no_fault (Err stop.UnknownScheduler) is same = is
check_no_fault (Err (stop.Log l)) is same = cc
check_no_fault (Err stop.FileFault) is same = is
check_no_fault (Err stop.SinkFault) is same = is
check_no_fault (Err stop.NoMemory) is same = cc

-- ---- a file that isn't a report

-- nothing else comes of it
unread_whole : (laws : Laws) (x : Prog) (text : List ℕ) (e : LogError) → IsNoReport text e → (b : Result (List ℕ) LogRefusal) → WholeComesTo x text b → b ≡ Err (NoReport e)
unread_whole laws x text e isnt (Ok line) ((r, tells, is), same) = absurd (told_is_report laws text r e tells isnt)
unread_whole laws x text e isnt (Err (NoReport d)) other = ap (λ (i : LogError). Err (NoReport i)) (one_reason laws text e d isnt other)
unread_whole laws x text e isnt (Err (Entry n)) (r, tells, is) = absurd (told_is_report laws text r e tells isnt)
unread_whole laws x text e isnt (Err (Instant n)) never = absurd never
unread_whole laws x text e isnt (Err (Byte k)) (r, tells, is) = absurd (told_is_report laws text r e tells isnt)

unread_block : (laws : Laws) (x : Prog) (k : ℕ) (text : List ℕ) (e : LogError) → IsNoReport text e → (b : Result (List ℕ) LogRefusal) → BlockComesTo x k text b → b ≡ Err (NoReport e)
unread_block laws x k text e isnt (Ok bytes) h = absurd (told_is_report laws text h.report e (h.within, h.shape) isnt)
unread_block laws x k text e isnt (Err (NoReport d)) other = ap (λ (i : LogError). Err (NoReport i)) (one_reason laws text e d isnt other)
unread_block laws x k text e isnt (Err (Entry n)) never = absurd never
unread_block laws x k text e isnt (Err (Instant n)) h = absurd (told_is_report laws text h.report e (h.within, h.shape) isnt)
unread_block laws x k text e isnt (Err (Byte j)) h = absurd (told_is_report laws text h.report e (h.within, h.shape) isnt)

unread_only : (laws : Laws) (x : Prog) (only : Option SchedId) (text : List ℕ) (e : LogError) → IsNoReport text e → (b : Result (List ℕ) LogRefusal) → CheckComesTo x only text b → b ≡ Err (NoReport e)
unread_only laws x None text e isnt b is = unread_whole laws x text e isnt b is
unread_only laws x (Some s) text e isnt b is = unread_block laws x s.0 text e isnt b is

comes_unread : (x : Prog) (only : Option SchedId) (text : List ℕ) (e : LogError) → IsNoReport text e → CheckComesTo x only text (Err (NoReport e))
comes_unread x None text e isnt = isnt
comes_unread x (Some s) text e isnt = isnt

found_unread : (laws : Laws) (x : Prog) (only : Option SchedId) (text : List ℕ) (e : LogError) → IsNoReport text e → Found (CheckComesTo x only text) (Err (stop_of_log e))
found_unread laws x only text (log.Line n k) isnt = record { is = comes_unread x only text (log.Line n k) isnt; only = unread_only laws x only text (log.Line n k) isnt }
found_unread laws x only text (log.Ends k) isnt = record { is = comes_unread x only text (log.Ends k) isnt; only = unread_only laws x only text (log.Ends k) isnt }
found_unread laws x only text log.TooLong isnt = record { is = comes_unread x only text log.TooLong isnt; only = unread_only laws x only text log.TooLong isnt }
found_unread laws x only text log.NoMemory isnt = tt

pub file_unread : (laws : Laws) (x : Prog) (only : Option SchedId) (text : List ℕ) (e : ReportFileError) → FileVerdict text (Err e)
    → (longest < length text → FileAnswers (Err e) (Err log.TooLong)) → Found (CheckComesTo x only text) (Err (stop_of_file e))
file_unread laws x only text file.Failed verdict long = tt
file_unread laws x only text (file.Log (log.Line n k)) verdict long = found_unread laws x only text (log.Line n k) (fault_reason text (log.Line n k) verdict long (λ same. cc))
file_unread laws x only text (file.Log (log.Ends k)) verdict long = found_unread laws x only text (log.Ends k) (fault_reason text (log.Ends k) verdict long (λ same. cc))
file_unread laws x only text (file.Log log.TooLong) verdict long = found_unread laws x only text log.TooLong (fault_reason text log.TooLong verdict long (λ same. cc))
file_unread laws x only text (file.Log log.NoMemory) verdict long = tt
