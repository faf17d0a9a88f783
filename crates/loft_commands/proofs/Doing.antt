-- From what was done for what the contents say to what was done for the contents.
use Rattle.std.proofs.Common.{◌≡◌, ℕ, ◌⊎◌, Bool, inl, inr, List, refl, subst, Option, Some, Result, Ok, Err, IsTrue}
use Rattle.loft_base.specs.declared.writing.WriteError.{WriteError}
use Rattle.loft_base.specs.declared.writing.WriteError.TheVariants as write
use Rattle.loft_refusal.specs.declared.refusal.Refusal.{Refusal}
use Rattle.loft_refusal.specs.declared.refusal.Refusal.TheVariants as refusal
use Rattle.loft_refusal.specs.declared.refusal.Stopped.{Stopped}
use Rattle.loft_refusal.specs.declared.refusal.Stopped.TheVariants as stopped
use Rattle.loft_base.specs.declared.options.RunOptions.{RunOptions}
use Rattle.loft_arguments.specs.Command.{FileCommand, Run, Exec, Show, Check, Compile, Bound, Expand}
use Rattle.loft_refusal.specs.Input.{Input, ASource, AListing, AnExpansion}
use Rattle.loft_commands.specs.Written.{AppendsSome, IsPrefix, HasNoRoom}
use Rattle.loft_commands.specs.declared.code_run.RunError.{RunError}
use Rattle.loft_commands.specs.declared.code_run.RunError.TheVariants as run
use Rattle.loft_refusal.specs.Stops.{stop_of_write}
use Rattle.loft_commands.specs.RunStops.{stop_of_run, run_error_of_write}
use Rattle.loft_refusal.specs.Refusals.{IsTextOf, IsRefusedFor, IsCause}
use Rattle.loft_commands.specs.Asks.{Asks, Takes}
use Rattle.loft_commands.specs.Promise.{IsAnswerFor, IsFileAnswer}
use Rattle.loft_refusal.specs.Found.{IsFault, IsUnlisted, IsUnexpanded}
use Rattle.loft_commands.specs.Doing.{Does, Attempts}
use Rattle.loft_commands.proofs.Written.{not_begun, part_of, whole_of, room_of}

-- what is read is refused for, its text is refused for
cause_of : (contents : List ℕ) (x : Input) (r : Refusal) → IsTextOf contents x → IsRefusedFor x r → IsCause contents r
cause_of contents (ASource p) (refusal.Text e) text refused = absurd refused
cause_of contents (ASource p) (refusal.Names e) text refused = (ASource p, text, refused)
cause_of contents (ASource p) (refusal.Links e schedulers) text refused = (ASource p, text, refused)
cause_of contents (ASource p) (refusal.Listing e) text refused = absurd refused
cause_of contents (ASource p) (refusal.Code e modules) text refused = absurd refused
cause_of contents (ASource p) (refusal.Locks e names) text refused = absurd refused
cause_of contents (AListing c) (refusal.Text e) text refused = absurd refused
cause_of contents (AListing c) (refusal.Names e) text refused = absurd refused
cause_of contents (AListing c) (refusal.Links e schedulers) text refused = absurd refused
cause_of contents (AListing c) (refusal.Listing e) text refused = absurd refused
cause_of contents (AListing c) (refusal.Code e modules) text refused = (AListing c, text, refused)
cause_of contents (AListing c) (refusal.Locks e names) text refused = absurd refused
cause_of contents (AnExpansion p) r text refused = absurd refused

pub does_attempts : {c : FileCommand} {x : Input} {known : Option (List ℕ)} {result : Result (Unit {0}) Stopped} {old new : Option (List ℕ)} {room left : ℕ} {lines still : Bool}
    → ((contents : List ℕ) → known ≡ Some contents → IsTextOf contents x) → Does c x result old new room left lines still → Attempts c known result old new room left lines still
does_attempts {c = c} {x = x} {result = result} text does = record {
  takes = λ contents k ok. (x, text contents k, does.takes ok);
  written = λ contents k ok. whole_of (IsAnswerFor c x) (IsFileAnswer c contents) (λ answer holds. (x, text contents k, holds)) (does.written ok);
  refused = λ contents r k e. ((does.refused r e).0, cause_of contents x r (text contents k) (does.refused r e).1);
  silent = does.silent;
  no_file = λ e. absurd (does.no_file e);
  cut = λ contents k e. part_of (IsAnswerFor c x) (IsFileAnswer c contents) (λ answer holds. (x, text contents k, holds)) (does.cut e);
  no_room = λ contents k e. room_of (IsAnswerFor c x) (IsFileAnswer c contents) (λ answer holds. (x, text contents k, holds)) (does.no_room e);
  same_room = does.same_room;
  file_room = λ e. absurd (does.no_file e);
  by_lines = does.by_lines;
}

-- what stops a command before anything is written
stopped_attempts : (c : FileCommand) (known : Option (List ℕ)) (e : Stopped) (old : Option (List ℕ)) (room : ℕ) (lines : Bool)
    → ((contents : List ℕ) (r : Refusal) → known ≡ Some contents → e ≡ stopped.Refused r → Asks c r × IsCause contents r)
    → ((contents : List ℕ) → known ≡ Some contents → e ≡ stopped.SinkFault → ⊥) → Attempts c known (Err e) old old room room lines lines
stopped_attempts c known e old room lines cause no_sink = record {
  takes = λ contents k ok. absurd cc;
  written = λ contents k ok. absurd cc;
  refused = λ contents r k is. cause contents r k (at (Err e) refl (stopped.Refused r) is);
  silent = λ r is. refl;
  no_file = λ is. refl;
  cut = λ contents k is. not_begun (IsFileAnswer c contents) refl;
  no_room = λ contents k is. absurd (no_sink contents k (at (Err e) refl stopped.SinkFault is));
  same_room = λ r is. refl;
  file_room = λ is. refl;
  by_lines = λ all. all;
}
  where
    at : (r : Result (Unit {0}) Stopped) → r ≡ Err e → (s : Stopped) → r ≡ Err s → e ≡ s
    at r is s also = cc (is, also)

-- a command that takes sources
abbrev pub TakesSources : FileCommand → Type 0
TakesSources (Run file o) = Unit {0}
TakesSources (Exec file o) = ⊥
TakesSources (Show file) = Unit {0}
TakesSources (Check file) = Unit {0}
TakesSources (Compile file) = Unit {0}
TakesSources (Bound file) = Unit {0}
TakesSources (Expand file) = ⊥

asks_text : (c : FileCommand) (contents : List ℕ) (r : Refusal) → TakesSources c → IsFault contents (stopped.Refused r) → Asks c r × IsCause contents r
asks_text (Run file o) contents (refusal.Text e) is fault = (tt, fault)
asks_text (Exec file o) contents (refusal.Text e) is fault = absurd is
asks_text (Show file) contents (refusal.Text e) is fault = (tt, fault)
asks_text (Check file) contents (refusal.Text e) is fault = (tt, fault)
asks_text (Compile file) contents (refusal.Text e) is fault = (tt, fault)
asks_text (Bound file) contents (refusal.Text e) is fault = (tt, fault)
asks_text (Expand file) contents (refusal.Text e) is fault = absurd is
asks_text c contents (refusal.Names e) is fault = absurd fault
asks_text c contents (refusal.Links e schedulers) is fault = absurd fault
asks_text c contents (refusal.Listing e) is fault = absurd fault
asks_text c contents (refusal.Code e modules) is fault = absurd fault
asks_text c contents (refusal.Locks e names) is fault = absurd fault

-- there is no program in the file, and nothing was written
pub unread_attempts : (c : FileCommand) (known : Option (List ℕ)) (e : Stopped) (old : Option (List ℕ)) (room : ℕ) (lines : Bool) → TakesSources c
    → ((contents : List ℕ) → known ≡ Some contents → IsFault contents e) → Attempts c known (Err e) old old room room lines lines
unread_attempts c known e old room lines is fault = stopped_attempts c known e old room lines
    (λ contents r k same. asks_text c contents r is (subst (IsFault contents) same (fault contents k)))
    (λ contents k same. subst (IsFault contents) same (fault contents k))

asks_code : (file : List ℕ) (o : RunOptions) (contents : List ℕ) (r : Refusal) → IsUnlisted contents (stopped.Refused r) → Asks (Exec file o) r × IsCause contents r
asks_code file o contents (refusal.Text e) fault = absurd fault
asks_code file o contents (refusal.Names e) fault = absurd fault
asks_code file o contents (refusal.Links e schedulers) fault = absurd fault
asks_code file o contents (refusal.Listing e) fault = (tt, fault)
asks_code file o contents (refusal.Code e modules) (c, text, invalid) = (tt, (AListing c, text, invalid))
asks_code file o contents (refusal.Locks e names) fault = absurd fault

-- there is no valid listing in it
pub unlisted_attempts : (file : List ℕ) (o : RunOptions) (known : Option (List ℕ)) (e : Stopped) (old : Option (List ℕ)) (room : ℕ) (lines : Bool)
    → ((contents : List ℕ) → known ≡ Some contents → IsUnlisted contents e) → Attempts (Exec file o) known (Err e) old old room room lines lines
unlisted_attempts file o known e old room lines fault = stopped_attempts (Exec file o) known e old room lines
    (λ contents r k same. asks_code file o contents r (subst (IsUnlisted contents) same (fault contents k)))
    (λ contents k same. subst (IsUnlisted contents) same (fault contents k))

asks_expansion : (file : List ℕ) (contents : List ℕ) (r : Refusal) → IsUnexpanded contents (stopped.Refused r) → Asks (Expand file) r × IsCause contents r
asks_expansion file contents (refusal.Text e) fault = absurd fault
asks_expansion file contents (refusal.Names e) fault = absurd fault
asks_expansion file contents (refusal.Links e schedulers) fault = absurd fault
asks_expansion file contents (refusal.Listing e) fault = absurd fault
asks_expansion file contents (refusal.Code e modules) fault = absurd fault
asks_expansion file contents (refusal.Locks e names) fault = (tt, fault)

-- it is a text with locks that stands for no program
pub unexpanded_attempts : (file : List ℕ) (known : Option (List ℕ)) (e : Stopped) (old : Option (List ℕ)) (room : ℕ) (lines : Bool)
    → ((contents : List ℕ) → known ≡ Some contents → IsUnexpanded contents e) → Attempts (Expand file) known (Err e) old old room room lines lines
unexpanded_attempts file known e old room lines fault = stopped_attempts (Expand file) known e old room lines
    (λ contents r k same. asks_expansion file contents r (subst (IsUnexpanded contents) same (fault contents k)))
    (λ contents k same. subst (IsUnexpanded contents) same (fault contents k))

ok_is_no_stop : {P : Type 0} (result : Result (Unit {0}) Stopped) → result ≡ Ok tt → result ≡ Err stopped.SinkFault ⊎ result ≡ Err stopped.NoMemory → P
ok_is_no_stop result is (inl e) = absurd cc
ok_is_no_stop result is (inr e) = absurd cc

-- the answer was written
pub done_does : {c : FileCommand} {x : Input} {result : Result (Unit {0}) Stopped} {old new : Option (List ℕ)} {room left : ℕ} {lines still : Bool}
    → result ≡ Ok tt → Takes c x → AppendsSome old new (IsAnswerFor c x) → (IsTrue lines → IsTrue still) → Does c x result old new room left lines still
done_does {result = result} is takes whole by_lines = record {
  takes = λ ok. takes;
  written = λ ok. whole;
  refused = λ r e. absurd cc;
  silent = λ r e. absurd cc;
  no_file = λ e. cc;
  cut = λ e. ok_is_no_stop result is e;
  no_room = λ e. absurd cc;
  same_room = λ r e. absurd cc;
  by_lines = by_lines;
}

-- what was written of the answer breaks off
pub failed_does : {c : FileCommand} {x : Input} {result : Result (Unit {0}) Stopped} {old new : Option (List ℕ)} {room left : ℕ} {lines still : Bool}
    → result ≡ Err stopped.SinkFault ⊎ result ≡ Err stopped.NoMemory → AppendsSome old new (IsPrefix (IsAnswerFor c x))
    → (result ≡ Err stopped.SinkFault → HasNoRoom room (IsAnswerFor c x)) → (IsTrue lines → IsTrue still) → Does c x result old new room left lines still
failed_does (inl is) part no_room by_lines = record {
  takes = λ ok. absurd cc;
  written = λ ok. absurd cc;
  refused = λ r e. absurd cc;
  silent = λ r e. absurd cc;
  no_file = λ e. cc;
  cut = λ e. part;
  no_room = no_room;
  same_room = λ r e. absurd cc;
  by_lines = by_lines;
}
failed_does (inr is) part no_room by_lines = record {
  takes = λ ok. absurd cc;
  written = λ ok. absurd cc;
  refused = λ r e. absurd cc;
  silent = λ r e. absurd cc;
  no_file = λ e. cc;
  cut = λ e. part;
  no_room = no_room;
  same_room = λ r e. absurd cc;
  by_lines = by_lines;
}

-- memory ran out before anything was written
pub no_memory_does : {c : FileCommand} {x : Input} {old : Option (List ℕ)} {room : ℕ} {lines : Bool} (result : Result (Unit {0}) Stopped)
    → result ≡ Err stopped.NoMemory → Does c x result old old room room lines lines
no_memory_does {c = c} {x = x} result is = failed_does (inr is) (not_begun (IsAnswerFor c x) refl) (λ e. absurd cc) (λ t. t)

-- what stops a command whose text can't be written
pub write_stops : (w : WriteError) (result : Result (Unit {0}) Stopped) → result ≡ Err (stop_of_write w) → result ≡ Err stopped.SinkFault ⊎ result ≡ Err stopped.NoMemory
write_stops write.Sink result is = inl is
write_stops write.NoMemory result is = inr is

-- what stops a command whose run stops
pub run_stops : (e : RunError) (result : Result (Unit {0}) Stopped) → result ≡ Err (stop_of_run e) → result ≡ Err stopped.SinkFault ⊎ result ≡ Err stopped.NoMemory
run_stops run.Sink result is = inl is
run_stops run.NoMemory result is = inr is

-- the sink is blamed for what couldn't be written where it is blamed for the text
pub write_blamed : (w : WriteError) (result : Result (Unit {0}) Stopped) → result ≡ Err (stop_of_write w) → result ≡ Err stopped.SinkFault → w ≡ write.Sink
write_blamed write.Sink result is e = refl
write_blamed write.NoMemory result is e = absurd cc

-- and for a run where it is blamed for the report
pub run_blamed : (d : RunError) (result : Result (Unit {0}) Stopped) → result ≡ Err (stop_of_run d) → result ≡ Err stopped.SinkFault → d ≡ run.Sink
run_blamed run.Sink result is e = refl
run_blamed run.NoMemory result is e = absurd cc

pub report_blamed : (w : WriteError) (result : Result (Unit {0}) RunError) → result ≡ Err (run_error_of_write w) → result ≡ Err run.Sink → w ≡ write.Sink
report_blamed write.Sink result is e = refl
report_blamed write.NoMemory result is e = absurd cc
