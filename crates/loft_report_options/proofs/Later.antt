-- After the lines of the options nothing changes them.
use Rattle.std.proofs.Common.{◌≡◌, ℕ, ◌-◌, Bool, true, false, ◌==◌, List, [], ◌∷◌, ◌++◌, Option, None, Some, refl, ap, ◌∙◌, if◌then◌else◌}
use Rattle.std.specs.List.{list_all}
use Rattle.loft_spelling.specs.Sets.{value_of}
use Rattle.loft_spelling.specs.Parts.{Left}
use Rattle.loft_spelling.proofs.Sets.{and_both, both_and}
use Rattle.loft_report_shape.specs.Word.{word_of}
use Rattle.loft_report_shape.specs.Grammar.{after, after_maker, after_value, after_blocks, after_final, after_choice, after_line, after_order, after_wait, after_reason, after_number, frames, thread, feed, blank, other_name, begins_number, head_is}
use Rattle.loft_report_shape.specs.Told.{Report, Told, kept, enters, number_told, name_told, note}
use Rattle.loft_report_shape.specs.Report.{grammar}
use Rattle.loft_report_shape.specs.declared.word.Word.{Word}
use Rattle.loft_report_shape.specs.declared.word.Word.TheVariants as word
use Rattle.loft_report_shape.specs.declared.part.Part.{Part}
use Rattle.loft_report_shape.specs.declared.part.Part.TheVariants as part
use Rattle.loft_report_shape.specs.declared.part.NumberKind.{NumberKind}
use Rattle.loft_report_shape.specs.declared.part.NumberKind.TheVariants as number
use Rattle.loft_report_shape.specs.declared.part.NameRole.{NameRole}
use Rattle.loft_report_shape.specs.declared.part.NameRole.TheVariants as role
use Rattle.loft_report_shape.specs.declared.part.Section.{Section}
use Rattle.loft_report_shape.specs.declared.part.Section.TheVariants as section
use Rattle.loft_report_shape.specs.declared.part.Stage.{Stage}
use Rattle.loft_report_shape.proofs.Spelled.{Sp}

-- the number isn't an option
abbrev is_later : NumberKind → Bool
is_later number.Instants = false
is_later number.Budget = false
is_later number.Block = false
is_later number.Workers = false
is_later n = true

-- the part tells no option
abbrev pub later : Part → Bool
later (part.Number n) = is_later n
later p = true

abbrev AreLater : List Part → Type 0
AreLater ps = list_all later ps ≡ true

-- ---- what a spelling tells

kept_options : (s : Section) (w : List ℕ) (r : Report) → (kept s w r).options ≡ r.options
kept_options section.Told w r = refl
kept_options section.Instant w r = refl
kept_options section.Final w r = refl
kept_options section.Left w r = refl

enters_options : (o : Option Word) (t : Told) → (enters o t).report.options ≡ t.report.options
enters_options None t = refl
enters_options (Some word.Scheduler) t = refl
enters_options (Some word.Instant) t = refl
enters_options o t = refl

number_options : (n : NumberKind) (v : ℕ) (r : Report) → is_later n ≡ true → (number_told n v r).options ≡ r.options
number_options number.Instants v r e = absurd cc
number_options number.Budget v r e = absurd cc
number_options number.Block v r e = absurd cc
number_options number.Workers v r e = absurd cc
number_options n v r e = refl

name_options : (n : NameRole) (w : List ℕ) (r : Report) → (name_told n w r).options ≡ r.options
name_options role.Take w r = refl
name_options n w r = refl

if_options : (b : Bool) (t u : Told) → u.report.options ≡ t.report.options → (if b then t else u).report.options ≡ t.report.options
if_options true t u e = refl
if_options false t u e = e

entered_options : (w : List ℕ) (t : Told) → (kept (enters (word_of w) t).section w (enters (word_of w) t).report).options ≡ t.report.options
entered_options w t = kept_options (enters (word_of w) t).section w (enters (word_of w) t).report ∙ enters_options (word_of w) t

note_options : (p : Part) (w : List ℕ) (t : Told) → later p ≡ true → (note p w t).report.options ≡ t.report.options
note_options (part.Number n) w t e = kept_options t.section w (number_told n (value_of w) t.report) ∙ number_options n (value_of w) t.report e
note_options (part.Name r) w t e = kept_options t.section w (name_told r w t.report) ∙ name_options r w t.report
note_options (part.Choices n) w t e = entered_options w t
note_options (part.Lines s) w t e = entered_options w t
note_options (part.States n) w t e = entered_options w t
note_options (part.Left n) w t e = if_options (n == 0) t (record t { report = kept t.section w t.report }) (kept_options t.section w t.report)
note_options part.Close w t e = refl
note_options p w t e = kept_options t.section w t.report

-- ---- what comes after it

either : (b : Bool) (ps qs : List Part) → AreLater ps → AreLater qs → AreLater (if b then ps else qs)
either true ps qs p q = p
either false ps qs p q = q

both : (ps qs : List Part) → AreLater ps → AreLater qs → AreLater (ps ++ qs)
both [] qs p q = q
both (x ∷ ps) qs p q = let r = and_both (later x) (list_all later ps) p in both_and (later x) (list_all later (ps ++ qs)) r.0 (both ps qs r.1 q)

value_later : (w : List ℕ) → AreLater (after_value w)
value_later w = either (begins_number w) [] after_maker refl refl

number_later : (n : NumberKind) (w : List ℕ) → AreLater (after_number n w)
number_later number.History w = refl
number_later n w = refl

blocks_later : (o : Option Word) → AreLater (after_blocks o)
blocks_later None = refl
blocks_later (Some word.Scheduler) = refl
blocks_later o = refl

final_later : (o : Option Word) → AreLater (after_final o)
final_later None = refl
final_later (Some word.Shared) = refl
final_later (Some word.Scheduler) = refl
final_later o = refl

choice_later : (o : Option Word) (n : ℕ) → AreLater (after_choice o n)
choice_later None n = refl
choice_later (Some word.Take) n = refl
choice_later o n = refl

line_later : (s : Stage) (o : Option Word) → AreLater (after_line s o)
line_later s None = refl
line_later s (Some word.In) = refl
line_later s o = refl

order_later : (o : Option Word) → AreLater (after_order o)
order_later None = refl
order_later (Some word.Create) = refl
order_later o = refl

wait_later : (o : Option Word) → AreLater (after_wait o)
wait_later None = refl
wait_later (Some word.New) = refl
wait_later o = refl

reason_later : (o : Option Word) → AreLater (after_reason o)
reason_later None = refl
reason_later (Some word.Done) = refl
reason_later o = refl

after_later : (p : Part) (w : List ℕ) → AreLater (after p w)
after_later (part.Number n) w = number_later n w
after_later part.Value w = value_later w
after_later part.FirstValue w = either (head_is 41 w) [] (after_value w ++ part.MoreValues ∷ []) refl (both (after_value w) (part.MoreValues ∷ []) (value_later w) refl)
after_later part.MoreValues w = either (head_is 44 w) (part.Value ∷ part.MoreValues ∷ []) [] refl refl
after_later part.FirstCount w = either (head_is 93 w) [] (part.MoreCounts ∷ []) refl refl
after_later part.MoreCounts w = either (head_is 44 w) (part.Number number.Count ∷ part.MoreCounts ∷ []) [] refl refl
after_later part.MoreEvents w = either (head_is 44 w) (other_name ∷ part.MoreEvents ∷ []) [] refl refl
after_later part.Sent w = either (head_is 32 w) (part.Value ∷ feed ∷ []) [] refl refl
after_later part.MoreFrames w = either (head_is 32 w) frames [] refl refl
after_later part.Order w = order_later (word_of w)
after_later part.Wait w = wait_later (word_of w)
after_later part.Reason w = reason_later (word_of w)
after_later (part.Choices n) w = either (n == 0) (after_blocks (word_of w)) (after_choice (word_of w) (n - 1)) (blocks_later (word_of w)) (choice_later (word_of w) (n - 1))
after_later (part.Lines s) w = line_later s (word_of w)
after_later (part.States n) w = either (n == 0) (after_final (word_of w)) (blank ∷ thread ++ part.States (n - 1) ∷ []) (final_later (word_of w)) refl
after_later (part.Left n) w = either (n == 0) (part.Close ∷ []) (blank ∷ part.Order ∷ part.Left (n - 1) ∷ []) refl refl
after_later p w = refl

-- ---- all spellings

-- what parts that tell no option spell leaves the options as they are
pub later_options : (ws : List (List ℕ)) (ps : List Part) (t : Told) (text : List ℕ) (last : Left grammar) → list_all later ps ≡ true → Sp ws ps t text last → last.told.report.options ≡ t.report.options
later_options [] ps t text last k s = ap (λ (l : Left grammar). l.told.report.options) s.2
later_options (w ∷ ws) [] t text last k (rest, split, whole, s) = absurd cc
later_options (w ∷ ws) (p ∷ ps) t text last k (rest, split, whole, s) =
    let r = and_both (later p) (list_all later ps) k in
    later_options ws (after p w ++ ps) (note p w t) rest last (both (after p w) ps (after_later p w) r.1) s ∙ note_options p w t r.0
