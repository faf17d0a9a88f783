-- From what a command of one file did to what it promises of its answer.
use Rattle.std.proofs.Common.{◌≡◌, ℕ, ◌<◌, ◌⊎◌, inl, inr, Bool, List, [], ◌∷◌, ◌++◌, length, refl, sym, subst, Option, Some, None, Ok, Err, codes, IsTrue}
use Rattle.std.specs.Prelude.{option_and_then}
use Rattle.loft_base.specs.Outside.{appended, GrowsByPrefix, Rose}
use Rattle.loft_top.specs.declared.status.Status.{Status}
use Rattle.loft_top.specs.declared.status.Status.TheVariants as status
use Rattle.loft_refusal.specs.declared.refusal.Refusal.{Refusal}
use Rattle.loft_refusal.specs.declared.refusal.Stopped.TheVariants as stopped
use Rattle.loft_arguments.specs.Command.{FileCommand, Command, OfFile}
use Rattle.loft_commands.specs.Written.{AppendsSome, IsLineOf, IsPrefix, HasNoRoom}
use Rattle.loft_refusal.specs.Refusals.{line_of}
use Rattle.loft_commands.specs.Promise.{IsFileAnswer}
use Rattle.loft_top.specs.Status.{IsRefusedStatus, IsLogRefused, IsAccepted}
use Rattle.loft_commands.specs.Doing.{Attempts}
use Rattle.loft_top.specs.Answer.{IsAnswer, Refuses, IsRefusal, AreTaken, IsText, Answers}
use Rattle.loft_top.specs.Telling.{Tells}
use Rattle.loft_top.proofs.Deciding.{Decided, taken_not_refused}
use Rattle.loft_commands.proofs.Written.{appends, begun, part_of, room_of}

-- the contents of one file, where they are known
abbrev pub one : Option (List ℕ) → Option (List (List ℕ))
one known = option_and_then (λ contents. Some (contents ∷ [])) known

-- what holds of the contents of one file
of_one : (P : List (List ℕ) → Type 0) (known : Option (List ℕ)) → ((contents : List ℕ) → known ≡ Some contents → P (contents ∷ []))
    → (contents : List (List ℕ)) → one known ≡ Some contents → P contents
of_one P None holds contents k = absurd cc
of_one P (Some file) holds contents k =
    let same : file ∷ [] ≡ contents = cc in
    subst P same (holds file refl)

-- the answer is whole
pub done_answers : {c : FileCommand} {known old new : Option (List ℕ)} {room left : ℕ} {lines still : Bool} (before after : ℕ) → Decided → Attempts c known (Ok tt) old new room left lines still
    → Answers (OfFile c) (one known) status.Done old new before after room lines still
done_answers {c = c} {known = known} {old = old} {new = new} before after d a = record {
  done = λ contents k e. of_one (λ all. AppendsSome old new (IsAnswer (OfFile c) all)) known (λ file t. a.written file t refl) contents k;
  source = λ contents k e. absurd cc;
  log = λ contents k e. absurd cc;
  refused = λ contents line k r. of_one (λ all. Refuses (OfFile c) all line → IsRefusedStatus status.Done) known
      (λ file t. λ (q, asks, cause, is). let (x, text, takes) = a.takes file t refl in absurd (taken_not_refused d c file x q text takes asks cause)) contents k r;
  log_refused = λ contents line k r. absurd r;
  accepted = λ contents k taken. tt;
  prefix = λ contents k e. absurd (elim e [ inl f ↦ cc | inr f ↦ cc ]);
  file_line = λ e. absurd cc;
  never_usage = λ e. cc;
  log_reads = λ e. absurd cc;
  no_room = λ contents k e. absurd cc;
  by_lines = a.by_lines;
}

-- the sink fails, or the program is out of memory
pub cut_answers : (c : Command) (known : Option (List (List ℕ))) (end : Status) (old new : Option (List ℕ)) (before after room : ℕ) (lines still : Bool) → end ≡ status.SinkFault ⊎ end ≡ status.NoMemory
    → ((contents : List (List ℕ)) → known ≡ Some contents → AppendsSome old new (IsPrefix (IsText c contents before after)))
    → ((contents : List (List ℕ)) → known ≡ Some contents → end ≡ status.SinkFault → HasNoRoom room (IsText c contents before after))
    → (IsTrue lines → IsTrue still) → Answers c known end old new before after room lines still
cut_answers c known end old new before after room lines still is part no_room by_lines = record {
  done = λ contents k e. absurd (elim is [ inl f ↦ cc | inr f ↦ cc ]);
  source = λ contents k e. absurd (elim is [ inl f ↦ cc | inr f ↦ cc ]);
  log = λ contents k e. absurd (elim is [ inl f ↦ cc | inr f ↦ cc ]);
  refused = λ contents line k r. elim is [ inl f ↦ subst IsRefusedStatus (sym f) tt | inr f ↦ subst IsRefusedStatus (sym f) tt ];
  log_refused = λ contents line k r. elim is [ inl f ↦ subst IsLogRefused (sym f) tt | inr f ↦ subst IsLogRefused (sym f) tt ];
  accepted = λ contents k taken. elim is [ inl f ↦ subst IsAccepted (sym f) tt | inr f ↦ subst IsAccepted (sym f) tt ];
  prefix = λ contents k e. part contents k;
  file_line = λ e. absurd (elim is [ inl f ↦ cc | inr f ↦ cc ]);
  never_usage = λ e. elim is [ inl f ↦ cc | inr f ↦ cc ];
  log_reads = λ e. absurd (elim is [ inl f ↦ cc | inr f ↦ cc ]);
  no_room = no_room;
  by_lines = by_lines;
}

-- what the command wrote breaks off
pub broken_answers : (c : FileCommand) (known : Option (List ℕ)) (end : Status) (old new : Option (List ℕ)) (before after room : ℕ) (lines still : Bool) → end ≡ status.SinkFault ⊎ end ≡ status.NoMemory
    → ((contents : List ℕ) → known ≡ Some contents → AppendsSome old new (IsPrefix (IsFileAnswer c contents)))
    → ((contents : List ℕ) → known ≡ Some contents → end ≡ status.SinkFault → HasNoRoom room (IsFileAnswer c contents))
    → (IsTrue lines → IsTrue still) → Answers (OfFile c) (one known) end old new before after room lines still
broken_answers c known end old new before after room lines still is part no_room by_lines = cut_answers (OfFile c) (one known) end old new before after room lines still is
    (of_one (λ all. AppendsSome old new (IsPrefix (IsText (OfFile c) all before after))) known
    (λ file t. part_of (IsFileAnswer c file) (IsText (OfFile c) (file ∷ []) before after) (λ text holds. inl holds) (part file t)))
    (of_one (λ all. end ≡ status.SinkFault → HasNoRoom room (IsText (OfFile c) all before after)) known
    (λ file t e. room_of (IsFileAnswer c file) (IsText (OfFile c) (file ∷ []) before after) (λ text holds. inl holds) (no_room file t e)))
    by_lines

-- a text of which P holds was told, and there was no room for it
pub told_no_room : {whole end : Status} {old new : Option (List ℕ)} {f g room left : ℕ} {lines still : Bool} (P : List ℕ → Type 0) (text : List ℕ) → P text → left ≡ room → Tells whole end old new f g left lines still text
    → end ≡ status.SinkFault → HasNoRoom room P
told_no_room P text holds same told e = (text, holds, subst (λ (n : ℕ). n < length text) same (told.no_room e))

-- the line of a failed file is written, or the sink fails
pub file_answers : (c : Command) (known : Option (List (List ℕ))) (end : Status) (old mid new : Option (List ℕ)) (before after f g room left : ℕ) (lines still last : Bool)
    → mid ≡ old → left ≡ room → (IsTrue lines → IsTrue still) → Rose before after
    → Tells status.FileFault end mid new f g left still last (codes "files: fault" ++ 10 ∷ [])
    → end ≡ status.FileFault ⊎ end ≡ status.SinkFault
    → Answers c known end old new before after room lines last
file_answers c known end old mid new before after f g room left lines still last same same_room by_lines rose told (inl e) = record {
  done = λ contents k f. absurd cc;
  source = λ contents k f. absurd cc;
  log = λ contents k f. absurd cc;
  refused = λ contents line k r. subst IsRefusedStatus (sym e) tt;
  log_refused = λ contents line k r. subst IsLogRefused (sym e) tt;
  accepted = λ contents k taken. subst IsAccepted (sym e) tt;
  prefix = λ contents k f. absurd (elim f [ inl g ↦ cc | inr g ↦ cc ]);
  file_line = λ f. appends {P = IsLineOf (codes "files: fault")} (codes "files: fault" ++ 10 ∷ []) (subst (λ (o : Option (List ℕ)). new ≡ appended o (codes "files: fault" ++ 10 ∷ [])) same (told.written e)) refl;
  never_usage = λ f. cc;
  log_reads = λ f. absurd cc;
  no_room = λ contents k f. absurd cc;
  by_lines = λ all. told.by_lines (by_lines all);
}
file_answers c known end old mid new before after f g room left lines still last same same_room by_lines rose told (inr e) =
    let line : List ℕ = codes "files: fault" ++ 10 ∷ [] in
    cut_answers c known end old new before after room lines last (inl e)
    (λ contents k. begun (IsText c contents before after) line
    (subst (λ (o : Option (List ℕ)). GrowsByPrefix o new line) same (told.cut (inl e))) (inr (inr (inr (refl, rose)))))
    (λ contents k f. told_no_room (IsText c contents before after) line (inr (inr (inr (refl, rose)))) same_room told f)
    (λ all. told.by_lines (by_lines all))

-- the line of a refusal is written, or the sink fails, or the program is out of memory
pub refused_answers : {c : FileCommand} {known old mid : Option (List ℕ)} {r : Refusal} {room left : ℕ} {lines still : Bool} (end : Status) (new : Option (List ℕ)) (before after f g : ℕ) (last : Bool)
    → Decided → Attempts c known (Err (stopped.Refused r)) old mid room left lines still
    → Tells status.Source end mid new f g left still last (line_of r ++ 10 ∷ [])
    → end ≡ status.Source ⊎ (end ≡ status.SinkFault ⊎ end ≡ status.NoMemory)
    → Answers (OfFile c) (one known) end old new before after room lines last
refused_answers {c = c} {known = known} {old = old} {mid = mid} {r = r} end new before after f g last d a told (inl e) =
    let quiet : mid ≡ old = a.silent r refl in
    record {
      done = λ contents k f. absurd cc;
      source = λ contents k f. of_one (λ all. AppendsSome old new (IsRefusal (OfFile c) all)) known
          (λ file t. appends {P = IsRefusal (OfFile c) (file ∷ [])} (line_of r ++ 10 ∷ [])
          (subst (λ (o : Option (List ℕ)). new ≡ appended o (line_of r ++ 10 ∷ [])) quiet (told.written e))
          (line_of r, (r, (a.refused file r t refl).0, (a.refused file r t refl).1, refl), refl)) contents k;
      log = λ contents k f. absurd cc;
      refused = λ contents line k x. subst IsRefusedStatus (sym e) tt;
      log_refused = λ contents line k x. absurd x;
      accepted = λ contents k taken. of_one (λ all. AreTaken (OfFile c) all → IsAccepted end) known
          (λ file t. λ (x, text, takes). let (asks, cause) = a.refused file r t refl in absurd (taken_not_refused d c file x r text takes asks cause)) contents k taken;
      prefix = λ contents k f. absurd (elim f [ inl g ↦ cc | inr g ↦ cc ]);
      file_line = λ f. absurd cc;
      never_usage = λ f. cc;
      log_reads = λ f. absurd cc;
      no_room = λ contents k f. absurd cc;
      by_lines = λ all. told.by_lines (a.by_lines all);
    }
refused_answers {c = c} {known = known} {old = old} {mid = mid} {r = r} {room = room} {lines = lines} end new before after f g last d a told (inr stops) =
    let line = line_of r ++ 10 ∷ [] in
    cut_answers (OfFile c) (one known) end old new before after room lines last stops
    (of_one (λ all. AppendsSome old new (IsPrefix (IsText (OfFile c) all before after))) known
    (λ file t. begun (IsText (OfFile c) (file ∷ []) before after) line
    (subst (λ (o : Option (List ℕ)). GrowsByPrefix o new line) (a.silent r refl) (told.cut stops))
    (inr (inl (line_of r, (r, (a.refused file r t refl).0, (a.refused file r t refl).1, refl), refl)))))
    (of_one (λ all. end ≡ status.SinkFault → HasNoRoom room (IsText (OfFile c) all before after)) known
    (λ file t e. told_no_room (IsText (OfFile c) (file ∷ []) before after) line (inr (inl (line_of r, (r, (a.refused file r t refl).0, (a.refused file r t refl).1, refl), refl))) (a.same_room r refl) told e))
    (λ all. told.by_lines (a.by_lines all))
