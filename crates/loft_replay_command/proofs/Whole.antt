-- What the check of a whole report comes to.
use Rattle.std.proofs.Common.{◌≡◌, ℕ, List, Result, Ok, Err, ◌++◌, ◌∷◌, [], refl, sym, ap, ◌∙◌}
use Rattle.std.specs.Prelude.{codes}
use Rattle.loft_orders.specs.declared.entry.Entry.{Entry as HistoryEntry}
use Rattle.loft_sense.specs.Machine.{Prog}
use Rattle.loft_report_shape.specs.Told.{Report}
use Rattle.loft_report_shape.specs.Text.{text_of}
use Rattle.loft_replay_error.specs.declared.error.ReplayError.{ReplayError}
use Rattle.loft_replay_error.specs.declared.error.ReplayError.TheVariants as error
use Rattle.loft_replay_report.specs.Replays.{Tells, IsReportOf, IsRefusal, IsReplayed, IsRefusalOf, IsAccepted, IsRefused}
use Rattle.loft_replay_report.proofs.Judging.{Judged, judged_accepted, judged_not_allowed, judged_differs}
use Rattle.loft_replay_report.proofs.Texts.{refusal_of_text, replayed_text, its_history, its_entry, its_whole, its_difference}
use Rattle.loft_replay_command.specs.declared.refusal.LogRefusal.{LogRefusal}
use Rattle.loft_replay_command.specs.declared.refusal.LogRefusal.TheVariants.{NoReport, Entry, Instant, Byte}
use Rattle.loft_replay_command.specs.Replay.{WholeComesTo}
use Rattle.loft_replay_command.specs.Stops.{stop_of_whole}
use Rattle.loft_replay_command.specs.Finding.{Found}
use Rattle.loft_replay_command.proofs.Reports.{Laws, told_is_report}

-- ---- what is judged of the report leaves one thing to come to

abbrev Judgement : Type 0
Judgement = Result (Unit {0}) ReplayError

is_accepted : (laws : Laws) (x : Prog) (text : List ℕ) (r : Report) → Tells text r → (j : Judgement) → Judged x (text_of r) r j → IsReplayed x text → IsAccepted j
is_accepted laws x text r tells j judged replayed =
    let (h, is) = its_history x text r laws.report tells (laws.text text r tells.1) replayed in
    judged_accepted x (text_of r) r j judged h is

is_entry : (laws : Laws) (x : Prog) (text : List ℕ) (r : Report) → Tells text r → (j : Judgement) → Judged x (text_of r) r j → (n : ℕ) → IsRefusalOf x text (error.NotAllowed n) → IsRefused j (error.NotAllowed n)
is_entry laws x text r tells j judged n (q, told, refused) = judged_not_allowed x (text_of r) r j judged n (its_entry x text r q n laws.report tells told refused)

is_byte : (laws : Laws) (x : Prog) (text : List ℕ) (r : Report) → Tells text r → (j : Judgement) → Judged x (text_of r) r j → (k : ℕ) → IsRefusalOf x text (error.Differs k) → IsRefused j (error.Differs k)
is_byte laws x text r tells j judged k (q, told, (h, whole, d)) =
    judged_differs x (text_of r) r j judged h k (its_whole x text r q h laws.report tells told whole) (its_difference x text r q h k laws.report tells (laws.text text r tells.1) told d)

-- the judgement that an answer passes
abbrev judgement : Result (List ℕ) LogRefusal → Judgement
judgement (Ok line) = Ok tt
judgement (Err (NoReport e)) = Err error.NoMemory
judgement (Err (Entry n)) = Err (error.NotAllowed n)
judgement (Err (Instant n)) = Err error.NoMemory
judgement (Err (Byte k)) = Err (error.Differs k)

judged_of : (laws : Laws) (x : Prog) (text : List ℕ) (r : Report) → Tells text r → (a : Result (List ℕ) LogRefusal) → WholeComesTo x text a → Judged x (text_of r) r (judgement a)
judged_of laws x text r tells (Ok line) (replayed, is) = its_history x text r laws.report tells (laws.text text r tells.1) replayed
judged_of laws x text r tells (Err (NoReport e)) isnt = absurd (told_is_report laws text r e tells isnt)
judged_of laws x text r tells (Err (Entry n)) (q, told, refused) = its_entry x text r q n laws.report tells told refused
judged_of laws x text r tells (Err (Instant n)) never = absurd never
judged_of laws x text r tells (Err (Byte k)) (q, told, (h, whole, d)) =
    (h, its_whole x text r q h laws.report tells told whole, its_difference x text r q h k laws.report tells (laws.text text r tells.1) told d)

one_answer : (laws : Laws) (x : Prog) (text : List ℕ) (r : Report) → Tells text r → (a b : Result (List ℕ) LogRefusal) → WholeComesTo x text a → Judged x (text_of r) r (judgement a) → WholeComesTo x text b → b ≡ a
one_answer laws x text r tells (Ok line) (Ok other) (replayed, is) judged (also, same) = ap (λ (t : List ℕ). Ok t) (same ∙ sym is)
one_answer laws x text r tells (Ok line) (Err (NoReport e)) is judged isnt = absurd (told_is_report laws text r e tells isnt)
one_answer laws x text r tells (Ok line) (Err (Entry n)) is judged refused = absurd (is_entry laws x text r tells (Ok tt) judged n refused)
one_answer laws x text r tells (Ok line) (Err (Instant n)) is judged never = absurd never
one_answer laws x text r tells (Ok line) (Err (Byte k)) is judged refused = absurd (is_byte laws x text r tells (Ok tt) judged k refused)
one_answer laws x text r tells (Err (NoReport e)) b isnt judged other = absurd (told_is_report laws text r e tells isnt)
one_answer laws x text r tells (Err (Instant n)) b never judged other = absurd never
one_answer laws x text r tells (Err (Entry n)) (Ok other) is judged (also, same) = absurd (is_accepted laws x text r tells (Err (error.NotAllowed n)) judged also)
one_answer laws x text r tells (Err (Entry n)) (Err (NoReport e)) is judged isnt = absurd (told_is_report laws text r e tells isnt)
one_answer laws x text r tells (Err (Entry n)) (Err (Entry m)) is judged refused =
    let same : error.NotAllowed n ≡ error.NotAllowed m = is_entry laws x text r tells (Err (error.NotAllowed n)) judged m refused in
    let numbers : m ≡ n = cc in
    ap (λ (i : ℕ). Err (Entry i)) numbers
one_answer laws x text r tells (Err (Entry n)) (Err (Instant m)) is judged never = absurd never
one_answer laws x text r tells (Err (Entry n)) (Err (Byte k)) is judged refused =
    absurd (let same : error.NotAllowed n ≡ error.Differs k = is_byte laws x text r tells (Err (error.NotAllowed n)) judged k refused in cc)
one_answer laws x text r tells (Err (Byte k)) (Ok other) is judged (also, same) = absurd (is_accepted laws x text r tells (Err (error.Differs k)) judged also)
one_answer laws x text r tells (Err (Byte k)) (Err (NoReport e)) is judged isnt = absurd (told_is_report laws text r e tells isnt)
one_answer laws x text r tells (Err (Byte k)) (Err (Entry m)) is judged refused =
    absurd (let same : error.Differs k ≡ error.NotAllowed m = is_entry laws x text r tells (Err (error.Differs k)) judged m refused in cc)
one_answer laws x text r tells (Err (Byte k)) (Err (Instant m)) is judged never = absurd never
one_answer laws x text r tells (Err (Byte k)) (Err (Byte j)) is judged refused =
    let same : error.Differs k ≡ error.Differs j = is_byte laws x text r tells (Err (error.Differs k)) judged j refused in
    let bytes : j ≡ k = cc in
    ap (λ (i : ℕ). Err (Byte i)) bytes

whole_only : (laws : Laws) (x : Prog) (text : List ℕ) (r : Report) → Tells text r → (a b : Result (List ℕ) LogRefusal) → WholeComesTo x text a → WholeComesTo x text b → b ≡ a
whole_only laws x text r tells a b is other = one_answer laws x text r tells a b is (judged_of laws x text r tells a is) other

-- ---- answers of the replay

pub whole_right : (laws : Laws) (x : Prog) (text : List ℕ) (r : Report) (h : List HistoryEntry) → Tells text r → IsReportOf x (text_of r) r h → Found (WholeComesTo x text) (Ok (codes "ok" ++ 10 ∷ []))
whole_right laws x text r h tells is =
    let comes : WholeComesTo x text (Ok (codes "ok" ++ 10 ∷ [])) = (replayed_text x text r h tells (laws.text text r tells.1) is, refl) in
    record { is = comes; only = λ b other. whole_only laws x text r tells (Ok (codes "ok" ++ 10 ∷ [])) b comes other }

pub whole_wrong : (laws : Laws) (x : Prog) (text : List ℕ) (r : Report) (e : ReplayError) → Tells text r → IsRefusal x (text_of r) r e → Found (WholeComesTo x text) (Err (stop_of_whole e))
whole_wrong laws x text r (error.Log e) tells refusal = absurd refusal
whole_wrong laws x text r (error.NotAllowed n) tells refusal =
    let comes : WholeComesTo x text (Err (Entry n)) = refusal_of_text x text r (error.NotAllowed n) tells (laws.text text r tells.1) refusal in
    record { is = comes; only = λ b other. whole_only laws x text r tells (Err (Entry n)) b comes other }
whole_wrong laws x text r (error.Differs k) tells refusal =
    let comes : WholeComesTo x text (Err (Byte k)) = refusal_of_text x text r (error.Differs k) tells (laws.text text r tells.1) refusal in
    record { is = comes; only = λ b other. whole_only laws x text r tells (Err (Byte k)) b comes other }
whole_wrong laws x text r error.NoMemory tells refusal = tt
