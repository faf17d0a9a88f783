-- A source with a lock, and what is written for it.
use Rattle.std.specs.Prelude.{ℕ, List, [], ◌∷◌, ◌++◌, Ok, Err, codes}
use Rattle.loft_lex.specs.Tokens.{Found, tokens}
use Rattle.loft_lock_forms.specs.Marks.{TakeOf, GiveOf, Mark}
use Rattle.loft_lock_forms.specs.Rewriting.{written}
use Rattle.loft_lock_forms.specs.Marks.{text_marks}

abbrev pub written_for : List ℕ → Found → List ℕ
written_for text (Ok ts) = written text 0 0 ts
written_for text (Err e) = []

-- the text in place of a text
abbrev pub expanded : List ℕ → List ℕ
expanded text = written_for text (tokens text)

-- the `run`s in it that stand in place of forms
abbrev pub marks_for : List ℕ → Found → List Mark
marks_for text (Ok ts) = text_marks text ts
marks_for text (Err e) = []

abbrev pub marked : List ℕ → List Mark
marked text = marks_for text (tokens text)

abbrev pub source : List ℕ
source = codes "scheduler A; lock l in A; module u(int k) in A lock l; print k; cooperate; print k; unlock l; end start A.u(1); start A.u(2);"

abbrev pub plain : List ℕ
plain =
    codes "scheduler A; shared held_l in A = 0; event free_l in A; module lock_l() in A while (held_l) do await free_l; if (held_l) then cooperate; end end held_l = 1; end module unlock_l() in A held_l = 0; generate free_l; end "
    ++ codes " module u(int k) in A run lock_l(); print k; cooperate; print k; run unlock_l(); end start A.u(1); start A.u(2);"

abbrev pub plain_marks : List Mark
plain_marks = record { at = 243; used = TakeOf (codes "l") } ∷ record { at = 286; used = GiveOf (codes "l") } ∷ []

-- a letter right after a form, and a comment in one
abbrev pub crowded : List ℕ
crowded = codes "lock l in A;lock k ; unlock // k\n k;x"

abbrev pub crowded_plain : List ℕ
crowded_plain =
    codes "shared held_l in A = 0; event free_l in A; module lock_l() in A while (held_l) do await free_l; if (held_l) then cooperate; end end held_l = 1; end module unlock_l() in A held_l = 0; generate free_l; end "
    ++ codes "run lock_k(); run unlock_k();x"
