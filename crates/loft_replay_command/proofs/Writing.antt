-- From what was found to what the command promises.
use Rattle.std.proofs.Common.{◌≡◌, ℕ, ◌<◌, Bool, inl, inr, List, [], length, Option, Some, None, Result, Ok, Err, IsTrue, refl, sym, ap, subst, append-nil}
use Rattle.loft_base.specs.Outside.{appended, GrowsByPrefix}
use Rattle.loft_base.specs.declared.writing.WriteError.{WriteError}
use Rattle.loft_base.specs.declared.writing.WriteError.TheVariants as write
use Rattle.loft_commands.proofs.Written.{appends, begun, not_begun}
use Rattle.loft_replay_command.specs.declared.refusal.LogRefusal.{LogRefusal}
use Rattle.loft_replay_command.specs.declared.refusal.ReplayStop.{ReplayStop}
use Rattle.loft_replay_command.specs.declared.refusal.ReplayStop.TheVariants as stop
use Rattle.loft_replay_command.specs.Replay.{IsSourceStop, ReplayComesTo}
use Rattle.loft_replay_command.specs.Stops.{stop_of_write}
use Rattle.loft_replay_command.specs.Finding.{Shows, IsOutcome, IsOfThis, Finds}
use Rattle.loft_replay_command.specs.Command.{EndsBy, IsOfSource, IsSilent, Replays}

abbrev Contents : Type 0
Contents = Option (List ℕ)

abbrev Done : Type 0
Done = Result (Unit {0}) ReplayStop

same_stop : (d e : ReplayStop) (r : Done) → r ≡ Err d → r ≡ Err e → e ≡ d
same_stop d e r p q = cc

-- ---- nothing is written

stop_says : (only : Contents) (s : List ℕ) (e : ReplayStop) → IsOfThis only s (Err e) → IsOfSource e → IsSourceStop only s e
stop_says only s (stop.Source r) says of_source = says
stop_says only s stop.UnknownScheduler says of_source = says
stop_says only s (stop.Log l) says of_source = absurd of_source
stop_says only s stop.FileFault says of_source = absurd of_source
stop_says only s stop.SinkFault says of_source = absurd of_source
stop_says only s stop.NoMemory says of_source = absurd of_source

nothing : (old : Contents) → old ≡ appended old []
nothing None = refl
nothing (Some written) = ap (λ (w : List ℕ). Some w) (sym (append-nil written))

none_yet : (old : Contents) (text : List ℕ) → GrowsByPrefix old old text
none_yet old text = (0, nothing old)

-- a stop other than a failure is the one that is found
shown : (old : Contents) (e : ReplayStop) → (e ≡ stop.SinkFault → ⊥) → (outcome : Result (List ℕ) ReplayStop) → Shows (Err e) outcome → EndsBy old old outcome (Err e)
shown old (stop.Source r) some outcome shows = subst (λ (o : Result (List ℕ) ReplayStop). EndsBy old old o (Err (stop.Source r))) (sym shows) (refl, refl)
shown old stop.UnknownScheduler some outcome shows = subst (λ (o : Result (List ℕ) ReplayStop). EndsBy old old o (Err stop.UnknownScheduler)) (sym shows) (refl, refl)
shown old (stop.Log l) some outcome shows = subst (λ (o : Result (List ℕ) ReplayStop). EndsBy old old o (Err (stop.Log l))) (sym shows) (refl, refl)
shown old stop.FileFault some (Ok text) shows = refl
shown old stop.FileFault some (Err d) shows = refl
shown old stop.SinkFault some outcome shows = absurd (some refl)
shown old stop.NoMemory some (Ok text) shows = none_yet old text
shown old stop.NoMemory some (Err d) shows = refl

pub stopped_replays : (only source report old : Contents) (room : ℕ) (lines : Bool) (e : ReplayStop) → (e ≡ stop.SinkFault → ⊥) → Finds only source report (Err e)
    → Replays only source report (Err e) old old room room lines lines
stopped_replays only source report old room lines e some finds = record {
  done = λ s r k l is. absurd cc;
  source_refused = λ s d k is of_source. subst (λ (i : ReplayStop). IsOfSource i → IsSourceStop only s i) (same_stop d e (Err e) is refl) (stop_says only s e (finds.source_says s k)) of_source;
  report_refused = λ s r q k l is. let same : e ≡ stop.Log q = cc in subst (λ (i : ReplayStop). IsOutcome only s r (Err i)) same (finds.both_say s r k l);
  ends = λ s r outcome k l comes. shown old e some outcome (finds.no_other s r outcome k l comes);
  source_ends = λ s d k is. shown old e some (Err d) (finds.source_only s d k is);
  silent = λ d is quiet. refl;
  cut = λ s r k l is. not_begun (λ text. ReplayComesTo only s r (Ok text)) refl;
  no_room = λ s r k l is. absurd (some (same_stop stop.SinkFault e (Err e) is refl));
  same_room = λ d is quiet. refl;
  by_lines = λ all. all;
}

-- ---- something is written

pub written_replays : (only source report old new : Contents) (room left : ℕ) (lines still : Bool) (text : List ℕ) → Finds only source report (Ok text) → new ≡ appended old text
    → (IsTrue lines → IsTrue still) → Replays only source report (Ok tt) old new room left lines still
written_replays only source report old new room left lines still text finds grew by_lines = record {
  done = λ s r k l is. appends {P = λ written. ReplayComesTo only s r (Ok written)} text grew (finds.both_say s r k l);
  source_refused = λ s d k is of_source. absurd cc;
  report_refused = λ s r q k l is. absurd cc;
  ends = λ s r outcome k l comes. subst (λ (o : Result (List ℕ) ReplayStop). EndsBy old new o (Ok tt)) (sym (finds.no_other s r outcome k l comes)) grew;
  source_ends = λ s d k is. absurd (let same = finds.source_only s d k is in cc);
  silent = λ d is quiet. absurd cc;
  cut = λ s r k l is. absurd (elim is [ inl f ↦ cc | inr f ↦ cc ]);
  no_room = λ s r k l is. absurd cc;
  same_room = λ d is quiet. absurd cc;
  by_lines = by_lines;
}

-- it breaks off
cut_ends : (old new : Contents) (text : List ℕ) (w : WriteError) → GrowsByPrefix old new text → EndsBy old new (Ok text) (Err (stop_of_write w))
cut_ends old new text write.Sink part = part
cut_ends old new text write.NoMemory part = part

loud : (w : WriteError) → IsSilent (stop_of_write w) → ⊥
loud write.Sink is = is
loud write.NoMemory is = is

no_source : (w : WriteError) → IsOfSource (stop_of_write w) → ⊥
no_source write.Sink is = is
no_source write.NoMemory is = is

no_log : (w : WriteError) (q : LogRefusal) → stop_of_write w ≡ stop.Log q → ⊥
no_log write.Sink q is = cc
no_log write.NoMemory q is = cc

of_sink : (w : WriteError) → stop_of_write w ≡ stop.SinkFault → w ≡ write.Sink
of_sink write.Sink is = refl
of_sink write.NoMemory is = absurd cc

pub cut_replays : (only source report old new : Contents) (room left : ℕ) (lines still : Bool) (text : List ℕ) (w : WriteError) → Finds only source report (Ok text) → GrowsByPrefix old new text
    → (w ≡ write.Sink → room < length text) → (IsTrue lines → IsTrue still) → Replays only source report (Err (stop_of_write w)) old new room left lines still
cut_replays only source report old new room left lines still text w finds part blamed by_lines = record {
  done = λ s r k l is. absurd cc;
  source_refused = λ s d k is of_source. absurd (no_source w (subst IsOfSource (same_stop (stop_of_write w) d (Err (stop_of_write w)) refl is) of_source));
  report_refused = λ s r q k l is. absurd (no_log w q (same_stop (stop.Log q) (stop_of_write w) (Err (stop_of_write w)) is refl));
  ends = λ s r outcome k l comes. subst (λ (o : Result (List ℕ) ReplayStop). EndsBy old new o (Err (stop_of_write w))) (sym (finds.no_other s r outcome k l comes)) (cut_ends old new text w part);
  source_ends = λ s d k is. absurd (let same = finds.source_only s d k is in cc);
  silent = λ d is quiet. absurd (loud w (subst IsSilent (same_stop (stop_of_write w) d (Err (stop_of_write w)) refl is) quiet));
  cut = λ s r k l is. begun (λ written. ReplayComesTo only s r (Ok written)) text part (finds.both_say s r k l);
  no_room = λ s r k l is. (text, finds.both_say s r k l, blamed (of_sink w (same_stop stop.SinkFault (stop_of_write w) (Err (stop_of_write w)) is refl)));
  same_room = λ d is quiet. absurd (loud w (subst IsSilent (same_stop (stop_of_write w) d (Err (stop_of_write w)) refl is) quiet));
  by_lines = by_lines;
}
