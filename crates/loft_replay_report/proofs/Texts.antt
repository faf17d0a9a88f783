-- From the answer to a report to that of its text.
use Rattle.std.proofs.Common.{◌≡◌, ℕ, List, Ok, Err, sym, subst, ◌∙◌}
use Rattle.loft_orders.specs.declared.entry.Entry.{Entry}
use Rattle.loft_sense.specs.Machine.{Prog}
use Rattle.loft_history.specs.Report.{report}
use Rattle.loft_report_shape.specs.Told.{Report}
use Rattle.loft_report_shape.specs.Report.{Shape}
use Rattle.loft_report_shape.specs.Text.{text_of}
use Rattle.loft_report_reader.specs.Answer.{Answers}
use Rattle.loft_report_reader.specs.declared.error.LogError.{LogError}
use Rattle.loft_report_reader.specs.declared.error.LogError.TheVariants as log
use Rattle.loft_replay.specs.Whole.{IsWhole, IsNotAllowed}
use Rattle.loft_replay_error.specs.Difference.{DifferAt}
use Rattle.loft_replay_error.specs.Errors.{of_log}
use Rattle.loft_replay_error.specs.declared.error.ReplayError.{ReplayError}
use Rattle.loft_replay_error.specs.declared.error.ReplayError.TheVariants.{Log, NotAllowed, Differs, NoMemory}
use Rattle.loft_replay_report.specs.Replays.{IsReportOf, IsRefusal, Tells, IsReplayed, IsRefusalOf, IsAccepted, IsRefused}

-- ---- a text that isn't a report

-- a report is read, unless memory ran out
pub unread_accepted : (A : Type 0) (e : LogError) (r : Report) → Answers (Err e) (Ok r) → IsAccepted {A = A} (Err (of_log e))
unread_accepted A (log.Line n k) r same = absurd (let f : Ok r ≡ Err (log.Line n k) = same in cc)
unread_accepted A (log.Ends k) r same = absurd (let f : Ok r ≡ Err (log.Ends k) = same in cc)
unread_accepted A log.TooLong r same = absurd (let f : Ok r ≡ Err log.TooLong = same in cc)
unread_accepted A log.NoMemory r same = tt

pub unread_refused : (A : Type 0) (e : LogError) (r : Report) (error : ReplayError) → Answers (Err e) (Ok r) → IsRefused {A = A} (Err (of_log e)) error
unread_refused A (log.Line n k) r error same = absurd (let f : Ok r ≡ Err (log.Line n k) = same in cc)
unread_refused A (log.Ends k) r error same = absurd (let f : Ok r ≡ Err (log.Ends k) = same in cc)
unread_refused A log.TooLong r error same = absurd (let f : Ok r ≡ Err log.TooLong = same in cc)
unread_refused A log.NoMemory r error same = tt

-- ---- a text that is one

pub refusal_of_text : (x : Prog) (text : List ℕ) (r : Report) (e : ReplayError) → Tells text r → text ≡ text_of r → IsRefusal x (text_of r) r e → IsRefusalOf x text e
refusal_of_text x text r (Log e) tells same refusal = absurd refusal
refusal_of_text x text r (NotAllowed n) tells same refusal = (r, tells, refusal)
refusal_of_text x text r (Differs k) tells same (h, whole, d) = (r, tells, (h, whole, subst (λ (t : List ℕ). DifferAt t (report x r.options h) k) (sym same) d))
refusal_of_text x text r NoMemory tells same refusal = tt

pub replayed_text : (x : Prog) (text : List ℕ) (r : Report) (h : List Entry) → Tells text r → text ≡ text_of r → IsReportOf x (text_of r) r h → IsReplayed x text
replayed_text x text r h tells same is = (r, tells, (h, record { whole = is.whole; same = same ∙ is.same }))

-- texts are one report
abbrev pub OneReport : Type 0
OneReport = (text : List ℕ) (r s : Report) → Shape text r → Shape text s → r ≡ s

pub its_history : (x : Prog) (text : List ℕ) (r : Report) → OneReport → Tells text r → text ≡ text_of r → IsReplayed x text → (h : List Entry) × IsReportOf x (text_of r) r h
its_history x text r one tells same (q, told, (h, is)) =
    let e : q ≡ r = one text q r told.1 tells.1 in
    (h, subst (λ (t : List ℕ). IsReportOf x t r h) same (subst (λ (s : Report). IsReportOf x text s h) e is))

pub its_entry : (x : Prog) (text : List ℕ) (r q : Report) (n : ℕ) → OneReport → Tells text r → Tells text q → IsNotAllowed x q.options q.choices n → IsNotAllowed x r.options r.choices n
its_entry x text r q n one tells told refused = subst (λ (s : Report). IsNotAllowed x s.options s.choices n) (one text q r told.1 tells.1) refused

pub its_whole : (x : Prog) (text : List ℕ) (r q : Report) (h : List Entry) → OneReport → Tells text r → Tells text q → IsWhole x q.options q.choices h → IsWhole x r.options r.choices h
its_whole x text r q h one tells told whole = subst (λ (s : Report). IsWhole x s.options s.choices h) (one text q r told.1 tells.1) whole

pub its_difference : (x : Prog) (text : List ℕ) (r q : Report) (h : List Entry) (k : ℕ) → OneReport → Tells text r → text ≡ text_of r → Tells text q → DifferAt text (report x q.options h) k
    → DifferAt (text_of r) (report x r.options h) k
its_difference x text r q h k one tells same told d =
    subst (λ (t : List ℕ). DifferAt t (report x r.options h) k) same (subst (λ (s : Report). DifferAt text (report x s.options h) k) (one text q r told.1 tells.1) d)

-- ---- the same answer, with what is left or without it

pub same_accepted : (A B : Type 0) (e : ReplayError) → IsAccepted {A = A} (Err e) → IsAccepted {A = B} (Err e)
same_accepted A B (Log e) is = absurd is
same_accepted A B (NotAllowed n) is = absurd is
same_accepted A B (Differs k) is = absurd is
same_accepted A B NoMemory is = tt

pub same_refused : (A B : Type 0) (e error : ReplayError) → IsRefused {A = A} (Err e) error → IsRefused {A = B} (Err e) error
same_refused A B (Log e) error is = is
same_refused A B (NotAllowed n) error is = is
same_refused A B (Differs k) error is = is
same_refused A B NoMemory error is = tt
