-- Texts that aren't reports.
use Rattle.std.proofs.Common.{◌≡◌, ℕ, ◌+◌, ◌<◌, ◌≤◌, nat_lt, Bool, true, false, List, length, take, Err, refl, sym, ap, ◌∙◌, arith}
use Rattle.std.proofs.lemmas.Bool.{ltb-true, ltb-false}
use Rattle.loft_report_shape.specs.Told.{Report}
use Rattle.loft_report_shape.specs.Text.{text_of}
use Rattle.loft_report_shape.specs.Report.{Shape, StopsAt, feeds, longest}
use Rattle.loft_report_reader.specs.Answer.{Fault, Answers}
use Rattle.loft_report_reader.specs.declared.error.LogError.{LogError}
use Rattle.loft_report_reader.specs.declared.error.LogError.TheVariants as log
use Rattle.loft_replay_report.specs.Replays.{Tells}
use Rattle.loft_replay_command.specs.Replay.{IsNoReport}

-- what is known of all reports: each has one text, and a text is one report or stops to be one, at one place
pub record Laws : Type 0 where
  pub text : (text : List ℕ) (r : Report) → Shape text r → text ≡ text_of r
  pub report : (text : List ℕ) (r q : Report) → Shape text r → Shape text q → r ≡ q
  pub stop : (text : List ℕ) (k j : ℕ) → StopsAt text k → StopsAt text j → k ≡ j
  pub both : (text : List ℕ) (r : Report) (k : ℕ) → Shape text r → StopsAt text k → ⊥

-- a report is no text that isn't one
pub told_is_report : (laws : Laws) (text : List ℕ) (r : Report) (e : LogError) → Tells text r → IsNoReport text e → ⊥
told_is_report laws text r (log.Line n k) tells isnt = laws.both text r k tells.1 isnt.1.0
told_is_report laws text r (log.Ends k) tells isnt = laws.both text r k tells.1 isnt.1
told_is_report laws text r log.TooLong tells isnt = omega (arith, tells.0, isnt)
told_is_report laws text r log.NoMemory tells isnt = isnt

-- a text isn't a report for one reason
pub one_reason : (laws : Laws) (text : List ℕ) (d e : LogError) → IsNoReport text d → IsNoReport text e → e ≡ d
one_reason laws text (log.Line n k) (log.Line m j) d e =
    let same : j ≡ k = laws.stop text j k e.1.0 d.1.0 in
    let lines : m ≡ n = e.1.2 ∙ (ap (λ (i : ℕ). feeds (take i text) + 1) same ∙ sym d.1.2) in
    ap (λ (i : ℕ). log.Line i j) lines ∙ ap (λ (i : ℕ). log.Line n i) same
one_reason laws text (log.Line n k) (log.Ends j) d e = absurd (omega (arith, laws.stop text j k e.1 d.1.0, e.2, d.1.1))
one_reason laws text (log.Line n k) log.TooLong d e = absurd (omega (arith, d.0, e))
one_reason laws text (log.Line n k) log.NoMemory d e = absurd e
one_reason laws text (log.Ends k) (log.Line m j) d e = absurd (omega (arith, laws.stop text j k e.1.0 d.1, e.1.1, d.2))
one_reason laws text (log.Ends k) (log.Ends j) d e = ap (λ (i : ℕ). log.Ends i) (laws.stop text j k e.1 d.1)
one_reason laws text (log.Ends k) log.TooLong d e = absurd (omega (arith, d.0, e))
one_reason laws text (log.Ends k) log.NoMemory d e = absurd e
one_reason laws text log.TooLong (log.Line m j) d e = absurd (omega (arith, d, e.0))
one_reason laws text log.TooLong (log.Ends j) d e = absurd (omega (arith, d, e.0))
one_reason laws text log.TooLong log.TooLong d e = refl
one_reason laws text log.TooLong log.NoMemory d e = absurd e
one_reason laws text log.NoMemory e d f = absurd d

-- where a text isn't longer than 1 GiB
within : {P : Type 0} (text : List ℕ) → (longest < length text → ⊥) → (length text ≤ longest → P) → P
within {P = P} text never holds = by (nat_lt longest (length text)) refl
  where
    by : (long : Bool) → nat_lt longest (length text) ≡ long → P
    by true e = absurd (never (ltb-true longest (length text) e))
    by false e = holds (ltb-false longest (length text) e)

-- what the reading of a text answers is why it isn't a report
pub fault_reason : (text : List ℕ) (e : LogError) → Fault text e → (longest < length text → Answers (Err e) (Err log.TooLong)) → (e ≡ log.NoMemory → ⊥) → IsNoReport text e
fault_reason text (log.Line n k) fault long some = within text (λ l. let f : Err log.TooLong ≡ Err (log.Line n k) = long l in cc) (λ short. (short, fault))
fault_reason text (log.Ends k) fault long some = fault
fault_reason text log.TooLong fault long some = fault
fault_reason text log.NoMemory fault long some = absurd (some refl)
