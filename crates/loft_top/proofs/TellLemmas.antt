-- From how a text was written to how the program ends.
use Rattle.std.proofs.Common.{◌≡◌, ◌≢◌, ℕ, ◌≤◌, Bool, true, false, ◌&&◌, IsTrue, List, length, inl, inr, refl, sym, ◌∙◌, subst, Option, Result, Ok, Err, arith}
use Rattle.std.proofs.Math.Nat.{lt_of_not-le}
use Rattle.loft_base.specs.Outside.{appended, GrowsByPrefix, Rose, is_line}
use Rattle.loft_base.specs.Writing.{Writes}
use Rattle.loft_base.specs.declared.writing.WriteError.{WriteError}
use Rattle.loft_base.specs.declared.writing.WriteError.TheVariants as write
use Rattle.loft_base.proofs.WritesLemmas.{appended-nil}
use Rattle.loft_top.specs.declared.status.Status.{Status}
use Rattle.loft_top.specs.declared.status.Status.TheVariants as status
use Rattle.loft_top.specs.Status.{status_of_write}
use Rattle.loft_top.specs.Telling.{Tells}

-- the text is written, or a prefix of it
pub told_text : (whole : Status) → whole ≢ status.SinkFault → whole ≢ status.NoMemory → {old new : Option (List ℕ)} {f g p q : ℕ} {i j : Bool} {text : List ℕ} (result : Result (Unit {0}) WriteError)
    → Writes result old new f g p q i j text → Tells whole (status_of_write whole result) old new f g p i j text
told_text whole sink memory (Ok done) w = record {
  ends = inl refl;
  written = λ e. w.ok;
  cut = λ e. absurd (elim e [ inl s ↦ sink s | inr s ↦ memory s ]);
  cause = λ e. absurd (sink e);
  never_falls = w.never_falls;
  no_room = λ e. absurd (sink e);
  by_lines = w.by_lines;
}
told_text whole sink memory (Err write.Sink) w = record {
  ends = inr (inl refl);
  written = λ e. absurd (sink (sym e));
  cut = λ e. w.failed;
  cause = λ e. w.cause refl;
  never_falls = w.never_falls;
  no_room = λ e. w.blamed refl;
  by_lines = w.by_lines;
}
told_text whole sink memory (Err write.NoMemory) w = record {
  ends = inr (inr refl);
  written = λ e. absurd (memory (sym e));
  cut = λ e. w.failed;
  cause = λ e. absurd cc;
  never_falls = w.never_falls;
  no_room = λ e. absurd cc;
  by_lines = w.by_lines;
}

-- it was out of memory before there was a text
pub untold : (whole : Status) → whole ≢ status.NoMemory → (old : Option (List ℕ)) (f room : ℕ) (lines : Bool) (text : List ℕ) → Tells whole status.NoMemory old old f f room lines lines text
untold whole memory old f room lines text = record {
  ends = inr (inr refl);
  written = λ e. absurd (memory (sym e));
  cut = λ e. (0, appended-nil old);
  cause = λ e. absurd cc;
  never_falls = omega arith;
  no_room = λ e. absurd cc;
  by_lines = λ all. all;
}

-- ---- one line

keeps_lines : (i j line : Bool) → j ≡ (i && line) → line ≡ true → IsTrue i → IsTrue j
keeps_lines true j line is one all = subst IsTrue (sym (is ∙ one)) all
keeps_lines false j line is one all = subst IsTrue (sym is) all

-- the line is written
pub told_line : (whole : Status) → whole ≢ status.SinkFault → whole ≢ status.NoMemory → {old new : Option (List ℕ)} {f g p : ℕ} {i j : Bool} {line : List ℕ}
    → new ≡ appended old line → f ≤ g → j ≡ (i && is_line line) → is_line line ≡ true → Tells whole whole old new f g p i j line
told_line whole sink memory {i = i} {j = j} {line = line} grew counts lines one = record {
  ends = inl refl;
  written = λ e. grew;
  cut = λ e. absurd (elim e [ inl s ↦ sink s | inr s ↦ memory s ]);
  cause = λ e. absurd (sink e);
  never_falls = counts;
  no_room = λ e. absurd (sink e);
  by_lines = keeps_lines i j (is_line line) lines one;
}

-- the sink fails
pub untold_line : (whole : Status) → whole ≢ status.SinkFault → {old new : Option (List ℕ)} {f g p : ℕ} {i j : Bool} {line : List ℕ}
    → GrowsByPrefix old new line → Rose f g → f ≤ g → (length line ≤ p → ⊥) → j ≡ i → Tells whole status.SinkFault old new f g p i j line
untold_line whole sink grew rose counts full lines = record {
  ends = inr (inl refl);
  written = λ e. absurd (sink (sym e));
  cut = λ e. grew;
  cause = λ e. rose;
  never_falls = counts;
  no_room = λ e. lt_of_not-le full;
  by_lines = λ all. subst IsTrue (sym lines) all;
}

-- ---- the end

-- no file is blamed
pub tells_no_file : {whole end : Status} {old new : Option (List ℕ)} {f g p : ℕ} {i j : Bool} {text : List ℕ} → whole ≢ status.FileFault → Tells whole end old new f g p i j text → end ≢ status.FileFault
tells_no_file {whole = whole} {end = end} other told e = elim told.ends [
  | inl is ↦ other (sym is ∙ e)
  | inr stops ↦ elim stops [ inl is ↦ cc | inr is ↦ cc ]
]
