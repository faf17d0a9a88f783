-- What a writer has in the end.
use Rattle.std.specs.Prelude.{ℕ, List, ◌++◌, length}
use Rattle.loft_lex.specs.declared.token.Token.{Token}
use Rattle.loft_lock_forms.specs.Rewriting.{written}
use Rattle.loft_lock_forms.specs.Marks.{Mark, marks}
use Rattle.loft_lock_forms.specs.Seen.{marks_seen}
use Rattle.loft_lock_forms.specs.declared.rewriting.Writer.{Writer}

-- a text and its marks
pub record Whole : Type 0 where
  pub text : List ℕ
  pub marks : List Mark

-- what is written so far, with what is to come of these tokens of the source
abbrev pub whole_of : List ℕ → List ℕ → List Mark → ℕ → ℕ → List Token → Whole
whole_of source out ms at skip ts = record { text = out ++ written source at skip ts; marks = ms ++ marks source (length out) at skip ts }

abbrev pub whole : List ℕ → Writer → List Token → Whole
whole source w ts = whole_of source w.out.text.items (marks_seen w.marks.items) w.at w.skip ts
