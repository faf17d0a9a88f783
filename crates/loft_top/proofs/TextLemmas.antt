-- From how a text was written to what a command that reads no file promises of its answer.
use Rattle.std.proofs.Common.{◌≡◌, ℕ, ◌≤◌, arith, Bool, inl, inr, List, refl, sym, subst, Option, Result, Ok, Err, IsTrue}
use Rattle.loft_base.specs.Outside.{Rose}
use Rattle.loft_base.specs.declared.writing.WriteError.{WriteError}
use Rattle.loft_base.specs.declared.writing.WriteError.TheVariants as write
use Rattle.loft_arguments.specs.Command.{Command}
use Rattle.loft_commands.specs.Written.{AppendsSome, IsPrefix, HasNoRoom}
use Rattle.loft_gen_command.specs.Writes.{WritesOneOf}
use Rattle.loft_top.specs.declared.status.Status.TheVariants as status
use Rattle.loft_top.specs.Status.{status_of_write}
use Rattle.loft_top.specs.Answer.{IsAnswer, Refuses, RefusesLog, IsText, Answers}
use Rattle.loft_commands.proofs.Written.{appends, begun, not_begun}
use Rattle.loft_top.proofs.AnswerLemmas.{cut_answers}

-- the pieces of a text that was written are lines
pub still_lines : {P : List ℕ → Type 0} (result : Result (Unit {0}) WriteError) (old new : Option (List ℕ)) (f g p q : ℕ) (i j : Bool) → WritesOneOf P result old new f g p q i j → IsTrue i → IsTrue j
still_lines result old new f g p q i j (inl (text, holds, writes)) all = writes.by_lines all
still_lines result old new f g p q i j (inr (is, same, counts, lines)) all = subst IsTrue (sym lines) all

-- a command that refuses nothing, and answers each text of which P holds
module _ (c : Command) (P : List ℕ → Type 0) (answers : (contents : List (List ℕ)) (text : List ℕ) → P text → IsAnswer c contents text)
    (never : (contents : List (List ℕ)) (line : List ℕ) → Refuses c contents line → ⊥)
    (never_log : (contents : List (List ℕ)) (line : List ℕ) → RefusesLog c contents line → ⊥) where
  whole_answers : (known : Option (List (List ℕ))) (old new : Option (List ℕ)) (f g p q before after : ℕ) (i j : Bool) → WritesOneOf P (Ok tt) old new f g p q i j
      → Answers c known status.Done old new before after p i j
  whole_answers known old new f g p q before after i j (inl (text, holds, writes)) = record {
    done = λ contents k e. appends {P = IsAnswer c contents} text writes.ok (answers contents text holds);
    source = λ contents k e. absurd cc;
    log = λ contents k e. absurd cc;
    refused = λ contents line k r. absurd (never contents line r);
    log_refused = λ contents line k r. absurd (never_log contents line r);
    accepted = λ contents k taken. tt;
    prefix = λ contents k e. absurd (elim e [ inl f ↦ cc | inr f ↦ cc ]);
    file_line = λ e. absurd cc;
    never_usage = λ e. cc;
    log_reads = λ e. absurd cc;
    no_room = λ contents k e. absurd cc;
    by_lines = writes.by_lines;
  }
  whole_answers known old new f g p q before after i j (inr (is, same, counts, lines)) = absurd cc

  part_of_answer : (e : WriteError) (old new : Option (List ℕ)) (f g p q before after : ℕ) (i j : Bool) (contents : List (List ℕ)) → WritesOneOf P (Err e) old new f g p q i j
      → AppendsSome old new (IsPrefix (IsText c contents before after))
  part_of_answer e old new f g p q before after i j contents (inl (text, holds, writes)) = begun (IsText c contents before after) text writes.failed (inl (answers contents text holds))
  part_of_answer e old new f g p q before after i j contents (inr (is, same, counts, lines)) = not_begun (IsText c contents before after) same

  longer_answer : (old new : Option (List ℕ)) (f g p q before after : ℕ) (i j : Bool) (contents : List (List ℕ)) → WritesOneOf P (Err write.Sink) old new f g p q i j → HasNoRoom p (IsText c contents before after)
  longer_answer old new f g p q before after i j contents (inl (text, holds, writes)) = (text, inl (answers contents text holds), writes.blamed refl)
  longer_answer old new f g p q before after i j contents (inr (is, same, counts, lines)) = absurd cc

  pub text_answers : (known : Option (List (List ℕ))) (result : Result (Unit {0}) WriteError) (old new : Option (List ℕ)) (f g p q before after : ℕ) (i j : Bool) → WritesOneOf P result old new f g p q i j
      → Answers c known (status_of_write status.Done result) old new before after p i j
  text_answers known (Ok done) old new f g p q before after i j writes = whole_answers known old new f g p q before after i j writes
  text_answers known (Err write.Sink) old new f g p q before after i j writes =
      cut_answers c known status.SinkFault old new before after p i j (inl refl) (λ contents k. part_of_answer write.Sink old new f g p q before after i j contents writes)
      (λ contents k e. longer_answer old new f g p q before after i j contents writes) (still_lines (Err write.Sink) old new f g p q i j writes)
  text_answers known (Err write.NoMemory) old new f g p q before after i j writes =
      cut_answers c known status.NoMemory old new before after p i j (inr refl) (λ contents k. part_of_answer write.NoMemory old new f g p q before after i j contents writes)
      (λ contents k e. absurd cc) (still_lines (Err write.NoMemory) old new f g p q i j writes)

-- the sink is blamed only where it failed
pub sink_blamed : {P : List ℕ → Type 0} (result : Result (Unit {0}) WriteError) (old new : Option (List ℕ)) (before after room left : ℕ) (i j : Bool) → WritesOneOf P result old new before after room left i j
    → status_of_write status.Done result ≡ status.SinkFault → Rose before after
sink_blamed (Ok done) old new before after room left i j writes is = absurd cc
sink_blamed (Err write.Sink) old new before after room left i j (inl (text, holds, writes)) is = writes.cause refl
sink_blamed (Err write.Sink) old new before after room left i j (inr (no_memory, same, counts, lines)) is = absurd cc
sink_blamed (Err write.NoMemory) old new before after room left i j writes is = absurd cc

-- the count of its faults doesn't fall
pub never_fell : {P : List ℕ → Type 0} (result : Result (Unit {0}) WriteError) (old new : Option (List ℕ)) (before after room left : ℕ) (i j : Bool) → WritesOneOf P result old new before after room left i j
    → before ≤ after
never_fell result old new before after room left i j (inl (text, holds, writes)) = writes.never_falls
never_fell result old new before after room left i j (inr (no_memory, same, counts, lines)) = omega (arith, counts)

-- no file is
pub no_file_blamed : (result : Result (Unit {0}) WriteError) → status_of_write status.Done result ≡ status.FileFault → ⊥
no_file_blamed (Ok done) is = cc
no_file_blamed (Err write.Sink) is = cc
no_file_blamed (Err write.NoMemory) is = cc
