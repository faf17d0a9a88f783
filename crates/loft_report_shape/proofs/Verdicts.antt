-- A text is one report, or stops at one place.
use Rattle.std.proofs.Common.{◌≡◌, ℕ, ◌+◌, ◌<◌, List, ◌++◌, length, Result, Ok, Err, ◌⊎◌, inl, inr, refl, sym, ap, ◌∙◌}
use Rattle.loft_spelling.specs.Reading.{answer, run, opening, State}
use Rattle.loft_spelling.specs.Parts.{Left, script, takes}
use Rattle.loft_spelling.proofs.Tested.{Tested}
use Rattle.loft_spelling.proofs.Honest.{tested}
use Rattle.loft_spelling.proofs.Bytewise.{answered, answer_stops, stopped_answers, taken_answered, given_up, stopped_early, run_stopped}
use Rattle.loft_spelling.proofs.Clear.{taken_spelled}
use Rattle.loft_report_shape.specs.Told.{Report}
use Rattle.loft_report_shape.specs.Report.{grammar, beginning, Shape, StopsAt}
use Rattle.loft_report_shape.proofs.HonestSets.{honest}
use Rattle.loft_report_shape.proofs.ClearReport.{spelled_report}

pub reads_well : Tested (script grammar) (takes grammar)
reads_well = tested grammar (λ p told. honest p)

-- what a whole text is
abbrev pub answer_of : List ℕ → Result (Left grammar) ℕ
answer_of text = answer (script grammar) (takes grammar) beginning text

abbrev pub run_all : List ℕ → Result (State (script grammar)) ℕ
run_all text = run (script grammar) (takes grammar) text (opening (script grammar) (takes grammar) beginning)

pub answer_shape : (text : List ℕ) (last : Left grammar) → answer_of text ≡ Ok last → Shape text last.told.report
answer_shape text last e = (last, taken_spelled grammar beginning text last (answered reads_well beginning refl text last e), refl)

shape_answer : (text : List ℕ) (r : Report) → Shape text r → (last : Left grammar) × (answer_of text ≡ Ok last) × (r ≡ last.told.report)
shape_answer text r (last, s, e) = (last, taken_answered reads_well beginning refl text last (spelled_report text last s), e)

stop_answer : (text : List ℕ) (k : ℕ) → StopsAt text k → answer_of text ≡ Err k
stop_answer text k s = stopped_answers reads_well beginning refl text k s

-- a text is at most one report
pub one_report : (text : List ℕ) (r s : Report) → Shape text r → Shape text s → r ≡ s
one_report text r s a b =
    let x = shape_answer text r a in
    let y = shape_answer text s b in
    let e : Ok x.0 ≡ Ok y.0 = sym x.1 ∙ y.1 in
    let same : x.0 ≡ y.0 = cc in
    x.2 ∙ ap (λ (l : Left grammar). l.told.report) same ∙ sym y.2

-- it is never a report that stops
pub no_both : (text : List ℕ) (r : Report) (k : ℕ) → Shape text r → StopsAt text k → ⊥
no_both text r k a b = let x = shape_answer text r a in let e = sym x.1 ∙ stop_answer text k b in cc

-- it stops at one place
pub one_place : (text : List ℕ) (k j : ℕ) → StopsAt text k → StopsAt text j → k ≡ j
one_place text k j a b = let e = sym (stop_answer text k a) ∙ stop_answer text j b in cc

-- and is a report or stops
pub one_of_both : (text : List ℕ) → ((r : Report) × Shape text r) ⊎ ((k : ℕ) × StopsAt text k)
one_of_both text = go (answer_of text) refl
  where
    go : (a : Result (Left grammar) ℕ) → answer_of text ≡ a → ((r : Report) × Shape text r) ⊎ ((k : ℕ) × StopsAt text k)
    go (Ok last) e = inl (last.told.report, answer_shape text last e)
    go (Err k) e = inr (k, answer_stops reads_well beginning refl text k e)

pub stops_there : (text : List ℕ) (k : ℕ) → run_all text ≡ Err k → StopsAt text k × (k < length text)
stops_there text k e = let g = given_up (script grammar) (takes grammar) beginning text k e in (answer_stops reads_well beginning refl text k g.0, g.1)

pub there_stops : (text : List ℕ) (k : ℕ) → StopsAt text k → k < length text → run_all text ≡ Err k
there_stops text k s h = stopped_early (script grammar) (takes grammar) beginning text k (stopped_answers reads_well beginning refl text k s) h

-- a stop before the end depends on nothing that comes after it
pub stop_stays : (text more : List ℕ) (k : ℕ) → StopsAt text k → k < length text → StopsAt (text ++ more) k
stop_stays text more k s h = (stops_there (text ++ more) k (run_stopped (script grammar) (takes grammar) text more (opening (script grammar) (takes grammar) beginning) k (there_stops text k s h))).0
