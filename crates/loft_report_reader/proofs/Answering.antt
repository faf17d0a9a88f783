-- What an answer says of a whole text leaves one report, and one place.
use Rattle.std.proofs.Common.{◌≡◌, ℕ, ◌+◌, ◌≤◌, Bool, true, false, ◌==◌, List, length, take, Result, Ok, Err, refl, sym, ap, ◌∙◌, arith, if◌then◌else◌}
use Rattle.loft_report_shape.specs.Told.{Report}
use Rattle.loft_report_shape.specs.Report.{Shape, StopsAt, IsLine, feeds, longest}
use Rattle.loft_report_shape.proofs.Verdicts.{one_report, no_both, one_place}
use Rattle.loft_report_reader.specs.Log.{Cause, error_at}
use Rattle.loft_report_reader.specs.Answer.{Answers, Verdict, report_in}
use Rattle.loft_report_reader.specs.declared.raw.RawReport.{RawReport}
use Rattle.loft_report_reader.specs.declared.error.LogError.{LogError}
use Rattle.loft_report_reader.specs.declared.error.LogError.TheVariants.{Line, Ends, TooLong, NoMemory}

same_line : (text : List ℕ) (n k : ℕ) → IsLine text n k → error_at text k ≡ Line n k
same_line text n k h = go (k == length text) refl
  where
    go : (b : Bool) → (k == length text) ≡ b → (if b then Ends k else Line (feeds (take k text) + 1) k) ≡ Line n k
    go true e = absurd (let f : k ≡ length text = grind (arith, e) in omega (arith, f, h.1))
    go false e = ap (λ (m : ℕ). Line m k) (sym h.2)

same_end : (text : List ℕ) (k : ℕ) → k ≡ length text → error_at text k ≡ Ends k
same_end text k e = let f : (k == length text) ≡ true = grind (arith, e) in rw f refl

-- What a verdict says leaves one report
pub verdict_report : (text : List ℕ) (result : Result RawReport LogError) → Verdict text result → (r : Report) → length text ≤ longest → Shape text r → Answers result (Ok r)
verdict_report text (Ok x) v r short s = ap (λ (t : Report). Ok t) (one_report text r (report_in x) s v.1)
verdict_report text (Err (Line n k)) v r short s = absurd (no_both text r k s v.0)
verdict_report text (Err (Ends k)) v r short s = absurd (no_both text r k s v.1)
verdict_report text (Err TooLong) v r short s = absurd (omega (arith, v, short))
verdict_report text (Err NoMemory) v r short s = tt

-- and one place.
pub verdict_stop : (text : List ℕ) (result : Result RawReport LogError) → Verdict text result → (k : ℕ) → length text ≤ longest → StopsAt text k → Answers result (Err (error_at text k))
verdict_stop text (Ok x) v k short s = absurd (no_both text (report_in x) k v.1 s)
verdict_stop text (Err (Line n j)) v k short s = ap (λ (e : LogError). Err e) (ap (error_at text) (one_place text k j s v.0) ∙ same_line text n j v)
verdict_stop text (Err (Ends j)) v k short s = ap (λ (e : LogError). Err e) (ap (error_at text) (one_place text k j s v.1) ∙ same_end text j v.2)
verdict_stop text (Err TooLong) v k short s = absurd (omega (arith, v, short))
verdict_stop text (Err NoMemory) v k short s = tt

pub cause_verdict : (text : List ℕ) (e : LogError) → Cause e text → Verdict text (Err e)
cause_verdict text (Line n k) c = c
cause_verdict text (Ends k) c = absurd c
cause_verdict text TooLong c = c
cause_verdict text NoMemory c = tt
