-- What a reader answers at the text's end.
use Rattle.std.proofs.Common.{◌≤◌, ◌≡◌, ℕ, Bool, true, false, List, [], ◌∷◌, ◌++◌, length, Option, Some, None, Result, Ok, Err, refl, sym, ap, subst, ◌∙◌}
use Rattle.loft_spelling.specs.Reading.{State, later, step, enter, then_run, run, opening, ended, closed, or_end}
use Rattle.loft_spelling.specs.Parts.{Left, parts_whole, parts_next, parts_begun, script, takes}
use Rattle.loft_spelling.proofs.Bytewise.{answer_stops}
use Rattle.loft_report_draft.specs.Drafts.{report_of}
use Rattle.loft_report_shape.specs.Report.{grammar, beginning, Shape, StopsAt, longest}
use Rattle.loft_report_reader.specs.Machine.{machine_of, IsBottomed, bottomed, Closes}
use Rattle.loft_report_reader.specs.Log.{Reading, ReadUpTo}
use Rattle.loft_report_reader.specs.Answer.{HasRead, Verdict}
use Rattle.loft_report_draft.specs.declared.draft.Draft.{Draft}
use Rattle.loft_report_reader.specs.declared.log.LogReader.{LogReader}
use Rattle.loft_report_reader.specs.declared.error.LogError.{LogError}
use Rattle.loft_report_reader.specs.declared.error.LogError.TheVariants.{Ends}
use Rattle.loft_report_shape.proofs.Verdicts.{reads_well, run_all, answer_of, answer_shape}
use Rattle.loft_report_reader.proofs.Ending.{next_bottomed}
use Rattle.loft_report_reader.proofs.Answering.{cause_verdict}

abbrev Machine_state : Type 0
Machine_state = State (script grammar)

enter_bottomed : (at : Left grammar) (b : ℕ) (n : Machine_state) → bottomed at.parts ≡ true → (t : Bool) → parts_begun grammar at.parts at.told (b ∷ []) ≡ t → enter (script grammar) (takes grammar) at b ≡ Some n → bottomed n.at.parts ≡ true
enter_bottomed at b n h true e f =
    let g : Some (record { at = at; word = b ∷ [] }) ≡ Some n = rw e at f in
    let same : record { at = at; word = b ∷ [] } ≡ n = cc in
    subst (λ (m : Machine_state). bottomed m.at.parts ≡ true) same h
enter_bottomed at b n h false e f = absurd (let g : None ≡ Some n = rw e at f in cc)

step_bottomed : (m n : Machine_state) (b : ℕ) → bottomed m.at.parts ≡ true → (t : Bool) → parts_begun grammar m.at.parts m.at.told (m.word ++ b ∷ []) ≡ t → (w : Bool) → parts_whole grammar m.at.parts m.at.told m.word ≡ w
    → step (script grammar) (takes grammar) m b ≡ Some n → bottomed n.at.parts ≡ true
step_bottomed m n b h true e w f g =
    let k : Some (record { at = m.at; word = m.word ++ b ∷ [] }) ≡ Some n = rw e at g in
    let same : record { at = m.at; word = m.word ++ b ∷ [] } ≡ n = cc in
    subst (λ (s : Machine_state). bottomed s.at.parts ≡ true) same h
step_bottomed m n b h false e true f g =
    let k : enter (script grammar) (takes grammar) (parts_next grammar m.at.parts m.at.told m.word) b ≡ Some n = rw (e, f) at g in
    enter_bottomed (parts_next grammar m.at.parts m.at.told m.word) b n (next_bottomed m.at.parts m.at.told m.word h f) _ refl k
step_bottomed m n b h false e false f g = absurd (let k : None ≡ Some n = rw (e, f) at g in cc)

run_bottomed : (bs : List ℕ) (s m : Machine_state) → bottomed s.at.parts ≡ true → run (script grammar) (takes grammar) bs s ≡ Ok m → bottomed m.at.parts ≡ true
unfolding run
run_bottomed [] s m h e = let same : s ≡ m = cc in subst (λ (t : Machine_state). bottomed t.at.parts ≡ true) same h
run_bottomed (b ∷ bs) s m h e = go (λ n k f. run_bottomed bs n m k f) (step (script grammar) (takes grammar) s b) refl e
  where
    after : (r : Result Machine_state ℕ) → later r ≡ Ok m → r ≡ Ok m
    after (Ok n) f = f
    after (Err k) f = absurd cc

    go : ((n : Machine_state) → bottomed n.at.parts ≡ true → run (script grammar) (takes grammar) bs n ≡ Ok m → bottomed m.at.parts ≡ true)
        → (o : Option Machine_state) → step (script grammar) (takes grammar) s b ≡ o → then_run (script grammar) (takes grammar) o (run (script grammar) (takes grammar) bs) ≡ Ok m → bottomed m.at.parts ≡ true
    go ih None f g = absurd cc
    go ih (Some n) f g = ih n (step_bottomed s n b h _ refl _ refl f) (after (run (script grammar) (takes grammar) bs n) g)

pub read_bottomed : (text : List ℕ) (m : Machine_state) → run_all text ≡ Ok m → IsBottomed m.at.parts
unfolding bottomed
read_bottomed text m e = run_bottomed text (opening (script grammar) (takes grammar) beginning) m refl e

abbrev Ends_so : Option Draft → LogReader → Type 0
Ends_so o r = IsBottomed r.machine.parts → Closes o (ended (script grammar) (takes grammar) (machine_of r.machine))

pub finish_some : (r : LogReader) (x : Draft) → r.error ≡ None → Ends_so (Some x) r → (text : List ℕ) → HasRead r text → (length text ≤ longest) × Shape text (report_of x)
finish_some r x none closes text read =
    let h : Reading r.machine r.length r.feeds text = subst (λ o. ReadUpTo o r.machine r.length r.feeds text) none read in
    let c = closes (read_bottomed text (machine_of r.machine) h.state) in
    let e : answer_of text ≡ Ok c.0 = ap (closed (script grammar) (takes grammar) (length text)) h.state ∙ ap (or_end (script grammar) (takes grammar) (length text)) c.1 in
    let s = answer_shape text c.0 e in
    (h.within, (s.0, s.1, c.2 ∙ s.2))

pub finish_none : (r : LogReader) → r.error ≡ None → Ends_so None r → (text : List ℕ) → HasRead r text → Verdict text (Err (Ends r.length))
finish_none r none closes text read =
    let h : Reading r.machine r.length r.feeds text = subst (λ o. ReadUpTo o r.machine r.length r.feeds text) none read in
    let c = closes (read_bottomed text (machine_of r.machine) h.state) in
    let e : answer_of text ≡ Err (length text) = ap (closed (script grammar) (takes grammar) (length text)) h.state ∙ ap (or_end (script grammar) (takes grammar) (length text)) c in
    (h.within, subst (StopsAt text) (sym h.size_is) (answer_stops reads_well beginning refl text (length text) e), h.size_is)

pub finish_error : (r : LogReader) (e : LogError) → r.error ≡ Some e → (text : List ℕ) → HasRead r text → Verdict text (Err e)
finish_error r e kept text read = cause_verdict text e (subst (λ o. ReadUpTo o r.machine r.length r.feeds text) kept read)
