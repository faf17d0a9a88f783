-- From what `replay` did to what the program promises of its answer.
use Rattle.std.proofs.Common.{◌≡◌, ℕ, ◌⊎◌, inl, inr, Bool, List, [], ◌∷◌, ◌++◌, refl, sym, subst, Option, Some, None, Ok, Err, IsTrue}
use Rattle.std.specs.Prelude.{option_and_then}
use Rattle.std.specs.Option.{option_map}
use Rattle.loft_base.specs.Outside.{appended, GrowsByPrefix}
use Rattle.loft_arguments.specs.Command.{Command, Replay}
use Rattle.loft_commands.specs.Written.{AppendsSome, IsPrefix, HasNoRoom}
use Rattle.loft_replay_command.specs.Refusals.{log_line}
use Rattle.loft_replay_command.specs.Replay.{IsSourceStop, ReplayComesTo}
use Rattle.loft_replay_command.specs.Command.{EndsBy, IsOfSource, IsSilent, Replays}
use Rattle.loft_replay_command.specs.declared.refusal.LogRefusal.{LogRefusal}
use Rattle.loft_replay_command.specs.declared.refusal.ReplayStop.{ReplayStop}
use Rattle.loft_replay_command.specs.declared.refusal.ReplayStop.TheVariants as stop
use Rattle.loft_top.specs.declared.status.Status.{Status}
use Rattle.loft_top.specs.declared.status.Status.TheVariants as status
use Rattle.loft_top.specs.Status.{IsRefusedStatus, IsLogRefused, IsAccepted}
use Rattle.loft_top.specs.Reports.{source_stop_line}
use Rattle.loft_top.specs.Answer.{IsAnswer, Refuses, RefusesLog, IsRefusal, IsLogRefusal, AreTaken, IsText, Answers}
use Rattle.loft_top.specs.Telling.{Tells}
use Rattle.loft_top.proofs.AnswerLemmas.{one, cut_answers, told_no_room}
use Rattle.loft_commands.proofs.Written.{appends, begun, part_of, room_of}

-- the contents of two files, where they are known
abbrev pub two : Option (List ℕ) → Option (List ℕ) → Option (List (List ℕ))
two source report = option_and_then (λ first. option_map (λ others. first ∷ others) (one report)) source

-- what holds of the contents of two files
of_two : (P : List (List ℕ) → Type 0) (source report : Option (List ℕ)) → ((s r : List ℕ) → source ≡ Some s → report ≡ Some r → P (s ∷ r ∷ []))
    → (contents : List (List ℕ)) → two source report ≡ Some contents → P contents
of_two P None report holds contents k = absurd cc
of_two P (Some s) None holds contents k = absurd cc
of_two P (Some s) (Some r) holds contents k =
    let same : s ∷ r ∷ [] ≡ contents = cc in
    subst P same (holds s r refl refl)

-- a source that is refused ends the command before its report, and nothing was written then
source_is_silent : (e : ReplayStop) → IsOfSource e → IsSilent e
source_is_silent (stop.Source r) of = tt
source_is_silent stop.UnknownScheduler of = tt
source_is_silent (stop.Log l) of = absurd of
source_is_silent stop.FileFault of = absurd of
source_is_silent stop.SinkFault of = absurd of
source_is_silent stop.NoMemory of = absurd of

no_report_refused : (old new : Option (List ℕ)) (e : ReplayStop) (l : LogRefusal) → IsOfSource e → EndsBy old new (Err (stop.Log l)) (Err e) → ⊥
no_report_refused old new (stop.Source r) l of (same, still) = absurd cc
no_report_refused old new stop.UnknownScheduler l of (same, still) = absurd cc
no_report_refused old new (stop.Log m) l of ends = of
no_report_refused old new stop.FileFault l of ends = of
no_report_refused old new stop.SinkFault l of ends = of
no_report_refused old new stop.NoMemory l of ends = of

no_text : (old new : Option (List ℕ)) (e : ReplayStop) (text : List ℕ) → IsOfSource e → EndsBy old new (Ok text) (Err e) → ⊥
no_text old new (stop.Source r) text of ends = ends
no_text old new stop.UnknownScheduler text of ends = ends
no_text old new (stop.Log m) text of ends = of
no_text old new stop.FileFault text of ends = of
no_text old new stop.SinkFault text of ends = of
no_text old new stop.NoMemory text of ends = of

-- a report that is refused has a source that isn't
no_source_refused : (old new only : Option (List ℕ)) (s : List ℕ) (e : ReplayStop) (l : LogRefusal) → IsSourceStop only s e → EndsBy old new (Err e) (Err (stop.Log l)) → ⊥
no_source_refused old new only s e l refused (same, still) = subst (λ (x : ReplayStop). IsSourceStop only s x) (sym same) refused

module _ (a b : List ℕ) (only source report : Option (List ℕ)) (before after : ℕ) where
  -- the command
  abbrev c : Command
  c = Replay a b only

  -- the answer is whole
  pub replay_done : {old new : Option (List ℕ)} {room left : ℕ} {lines still : Bool} → Replays only source report (Ok tt) old new room left lines still
      → Answers c (two source report) status.Done old new before after room lines still
  replay_done {old = old} {new = new} w = record {
    done = λ contents k e. of_two (λ all. AppendsSome old new (IsAnswer c all)) source report (λ s r t u. w.done s r t u refl) contents k;
    source = λ contents k e. absurd cc;
    log = λ contents k e. absurd cc;
    refused = λ contents line k x. of_two (λ all. Refuses c all line → IsRefusedStatus status.Done) source report (λ s r t u. λ (e, refused, is). w.source_ends s e t refused) contents k x;
    log_refused = λ contents line k x. of_two (λ all. RefusesLog c all line → IsLogRefused status.Done) source report
        (λ s r t u. λ (l, comes, is). w.ends s r (Err (stop.Log l)) t u comes) contents k x;
    accepted = λ contents k taken. tt;
    prefix = λ contents k e. absurd (elim e [ inl f ↦ cc | inr f ↦ cc ]);
    file_line = λ e. absurd cc;
    never_usage = λ e. cc;
    log_reads = λ e. tt;
    no_room = λ contents k e. absurd cc;
    by_lines = w.by_lines;
  }

  -- what the command wrote breaks off
  pub replay_broken : (end : Status) (old new : Option (List ℕ)) (room : ℕ) (lines still : Bool) → end ≡ status.SinkFault ⊎ end ≡ status.NoMemory
      → ((s r : List ℕ) → source ≡ Some s → report ≡ Some r → AppendsSome old new (IsPrefix (λ text. ReplayComesTo only s r (Ok text))))
      → ((s r : List ℕ) → source ≡ Some s → report ≡ Some r → end ≡ status.SinkFault → HasNoRoom room (λ text. ReplayComesTo only s r (Ok text)))
      → (IsTrue lines → IsTrue still) → Answers c (two source report) end old new before after room lines still
  replay_broken end old new room lines still is part no_room by_lines = cut_answers c (two source report) end old new before after room lines still is
      (of_two (λ all. AppendsSome old new (IsPrefix (IsText c all before after))) source report
      (λ s r t u. part_of (λ text. ReplayComesTo only s r (Ok text)) (IsText c (s ∷ r ∷ []) before after) (λ text holds. inl holds) (part s r t u)))
      (of_two (λ all. end ≡ status.SinkFault → HasNoRoom room (IsText c all before after)) source report
      (λ s r t u e. room_of (λ text. ReplayComesTo only s r (Ok text)) (IsText c (s ∷ r ∷ []) before after) (λ text holds. inl holds) (no_room s r t u e)))
      by_lines

  -- the line of a refusal of the source is written, or the sink fails, or the program is out of memory
  pub source_answers : {old mid : Option (List ℕ)} {room left : ℕ} {lines still : Bool} (e : ReplayStop) (end : Status) (new : Option (List ℕ)) (f g : ℕ) (last : Bool)
      → IsOfSource e → Replays only source report (Err e) old mid room left lines still
      → Tells status.Source end mid new f g left still last (source_stop_line e ++ 10 ∷ [])
      → end ≡ status.Source ⊎ (end ≡ status.SinkFault ⊎ end ≡ status.NoMemory)
      → Answers c (two source report) end old new before after room lines last
  source_answers {old = old} {mid = mid} e end new f g last of w told (inl is) =
      let quiet : mid ≡ old = w.silent e refl (source_is_silent e of) in
      record {
        done = λ contents k f. absurd cc;
        source = λ contents k f. of_two (λ all. AppendsSome old new (IsRefusal c all)) source report
            (λ s r t u. appends {P = IsRefusal c (s ∷ r ∷ [])} (source_stop_line e ++ 10 ∷ [])
            (subst (λ (o : Option (List ℕ)). new ≡ appended o (source_stop_line e ++ 10 ∷ [])) quiet (told.written is))
            (source_stop_line e, (e, w.source_refused s e t refl of, refl), refl)) contents k;
        log = λ contents k f. absurd cc;
        refused = λ contents line k x. subst IsRefusedStatus (sym is) tt;
        log_refused = λ contents line k x. of_two (λ all. RefusesLog c all line → IsLogRefused end) source report
            (λ s r t u. λ (l, comes, named). absurd (no_report_refused old mid e l of (w.ends s r (Err (stop.Log l)) t u comes))) contents k x;
        accepted = λ contents k taken. of_two (λ all. AreTaken c all → IsAccepted end) source report
            (λ s r t u. λ (text, comes). absurd (no_text old mid e text of (w.ends s r (Ok text) t u comes))) contents k taken;
        prefix = λ contents k f. absurd (elim f [ inl g ↦ cc | inr g ↦ cc ]);
        file_line = λ f. absurd cc;
        never_usage = λ f. cc;
        log_reads = λ f. tt;
        no_room = λ contents k f. absurd cc;
        by_lines = λ all. told.by_lines (w.by_lines all);
      }
  source_answers {old = old} {mid = mid} {room = room} {lines = lines} e end new f g last of w told (inr stops) =
      let line = source_stop_line e ++ 10 ∷ [] in
      cut_answers c (two source report) end old new before after room lines last stops
      (of_two (λ all. AppendsSome old new (IsPrefix (IsText c all before after))) source report
      (λ s r t u. begun (IsText c (s ∷ r ∷ []) before after) line
      (subst (λ (o : Option (List ℕ)). GrowsByPrefix o new line) (w.silent e refl (source_is_silent e of)) (told.cut stops))
      (inr (inl (source_stop_line e, (e, w.source_refused s e t refl of, refl), refl)))))
      (of_two (λ all. end ≡ status.SinkFault → HasNoRoom room (IsText c all before after)) source report
      (λ s r t u h. told_no_room (IsText c (s ∷ r ∷ []) before after) line (inr (inl (source_stop_line e, (e, w.source_refused s e t refl of, refl), refl)))
      (w.same_room e refl (source_is_silent e of)) told h))
      (λ all. told.by_lines (w.by_lines all))

  -- the line of a refusal of the report is written, or the sink fails, or the program is out of memory
  pub log_answers : {old mid : Option (List ℕ)} {room left : ℕ} {lines still : Bool} (l : LogRefusal) (end : Status) (new : Option (List ℕ)) (f g : ℕ) (last : Bool)
      → Replays only source report (Err (stop.Log l)) old mid room left lines still
      → Tells status.Log end mid new f g left still last (log_line l ++ 10 ∷ [])
      → end ≡ status.Log ⊎ (end ≡ status.SinkFault ⊎ end ≡ status.NoMemory)
      → Answers c (two source report) end old new before after room lines last
  log_answers {old = old} {mid = mid} l end new f g last w told (inl is) =
      let quiet : mid ≡ old = w.silent (stop.Log l) refl tt in
      record {
        done = λ contents k f. absurd cc;
        source = λ contents k f. absurd cc;
        log = λ contents k f. of_two (λ all. AppendsSome old new (IsLogRefusal c all)) source report
            (λ s r t u. appends {P = IsLogRefusal c (s ∷ r ∷ [])} (log_line l ++ 10 ∷ [])
            (subst (λ (o : Option (List ℕ)). new ≡ appended o (log_line l ++ 10 ∷ [])) quiet (told.written is))
            (log_line l, (l, w.report_refused s r l t u refl, refl), refl)) contents k;
        refused = λ contents line k x. of_two (λ all. Refuses c all line → IsRefusedStatus end) source report
            (λ s r t u. λ (e, refused, named). absurd (no_source_refused old mid only s e l refused (w.source_ends s e t refused))) contents k x;
        log_refused = λ contents line k x. subst IsLogRefused (sym is) tt;
        accepted = λ contents k taken. of_two (λ all. AreTaken c all → IsAccepted end) source report
            (λ s r t u. λ (text, comes). absurd (w.ends s r (Ok text) t u comes)) contents k taken;
        prefix = λ contents k f. absurd (elim f [ inl g ↦ cc | inr g ↦ cc ]);
        file_line = λ f. absurd cc;
        never_usage = λ f. cc;
        log_reads = λ f. tt;
        no_room = λ contents k f. absurd cc;
        by_lines = λ all. told.by_lines (w.by_lines all);
      }
  log_answers {old = old} {mid = mid} {room = room} {lines = lines} l end new f g last w told (inr stops) =
      let line = log_line l ++ 10 ∷ [] in
      cut_answers c (two source report) end old new before after room lines last stops
      (of_two (λ all. AppendsSome old new (IsPrefix (IsText c all before after))) source report
      (λ s r t u. begun (IsText c (s ∷ r ∷ []) before after) line
      (subst (λ (o : Option (List ℕ)). GrowsByPrefix o new line) (w.silent (stop.Log l) refl tt) (told.cut stops))
      (inr (inr (inl (log_line l, (l, w.report_refused s r l t u refl, refl), refl))))))
      (of_two (λ all. end ≡ status.SinkFault → HasNoRoom room (IsText c all before after)) source report
      (λ s r t u h. told_no_room (IsText c (s ∷ r ∷ []) before after) line (inr (inr (inl (log_line l, (l, w.report_refused s r l t u refl, refl), refl))))
      (w.same_room (stop.Log l) refl tt) told h))
      (λ all. told.by_lines (w.by_lines all))
