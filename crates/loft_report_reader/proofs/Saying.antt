-- What is answered of a report, of a part of it.
use Rattle.std.proofs.Common.{◌≡◌, ℕ, List, Option, Result, Ok, Err, sym, ap, ◌∙◌}
use Rattle.std.specs.List.{find}
use Rattle.std.specs.Str.{bytes_eq}
use Rattle.loft_base.specs.declared.options.RunOptions.{RunOptions}
use Rattle.loft_report_shape.specs.Told.{Report}
use Rattle.loft_report_shape.specs.declared.raw.Choice.{Choice}
use Rattle.loft_report_shape.specs.declared.raw.RawBlock.{RawBlock}
use Rattle.loft_report_reader.specs.Answer.{Answers, Says}
use Rattle.loft_report_reader.specs.declared.error.LogError.{LogError}
use Rattle.loft_report_reader.specs.declared.error.LogError.TheVariants.{Line, Ends, TooLong, NoMemory}

-- the answer of a whole report, of a history and of a block
abbrev Whole : Type 0
Whole = Result Report LogError

abbrev History : Type 0
History = Result (RunOptions × List Choice) LogError

abbrev Found : Type 0
Found = Result (Option RawBlock) LogError

same_report : (r s : Report) → ◌≡◌ {A = Whole} (Ok r) (Ok s) → r ≡ s
same_report r s e = cc

pub says_history : (r s : Report) → ◌≡◌ {A = Whole} (Ok r) (Ok s) → ◌≡◌ {A = History} (Ok (r.options, r.choices)) (Ok (s.options, s.choices))
says_history r s e = ap (λ (t : Report). Ok (t.options, t.choices)) (same_report r s e)

pub says_block : (r s : Report) (name : List ℕ) (o : Option RawBlock) → ◌≡◌ {A = Whole} (Ok r) (Ok s) → o ≡ find (λ block. bytes_eq block.name name) s.blocks
    → ◌≡◌ {A = Found} (Ok (find (λ block. bytes_eq block.name name) r.blocks)) (Ok o)
says_block r s name o e f = ap (λ (t : Report). Ok (find (λ block. bytes_eq block.name name) t.blocks)) (same_report r s e) ∙ ap (λ (x : Option RawBlock). Ok x) (sym f)

pub says_fault : {A : Type 0} (e : LogError) (r : Report) (x : A) → Answers (Err e) (Ok r) → Says {A = A} (Err e) (Ok x)
says_fault (Line n k) r x h = absurd cc
says_fault (Ends k) r x h = absurd cc
says_fault TooLong r x h = absurd cc
says_fault NoMemory r x h = tt
