-- What is read of a file grows part by part.
use Rattle.std.proofs.Common.{◌≡◌, ℕ, ◌+◌, ◌≤◌, ◌<◌, List, [], ◌++◌, length, length-append, Option, Some, None, Err, IfSome, sym, subst, arith}
use Rattle.std.proofs.lemmas.List.{take_all}
use Rattle.loft_base.specs.Walk.{count_of, part_of, given, IsWithin, Grows}
use Rattle.loft_base.specs.declared.walk.FileWalk.{FileWalk}
use Rattle.loft_report_shape.specs.Report.{longest}
use Rattle.loft_report_reader.specs.Answer.{HasRead, Verdict}
use Rattle.loft_report_reader.specs.declared.log.LogReader.{LogReader}
use Rattle.loft_report_reader.specs.declared.error.LogError.{LogError}
use Rattle.loft_report_reader.specs.declared.error.LogError.TheVariants.{TooLong}

-- the reader was given what the walk gave so far of the file
pub record IsReadOn (walk : FileWalk) (reader : LogReader) (file : List ℕ) : Type 0 where
  pub within : IsWithin walk file
  pub read : HasRead reader (given walk file)

-- where the contents are known
pub known_map : (known : Option (List ℕ)) {P Q : List ℕ → Type 0} → IfSome known P → ((file : List ℕ) → P file → Q file) → IfSome known Q
known_map None p f = p
known_map (Some file) p f = f file p

-- one part more is fed
pub fed : (known : Option (List ℕ)) (old new : FileWalk) (r s : LogReader) → IfSome known (IsReadOn old r) → IfSome known (λ file. IsWithin old file → Grows file old new) → ((text : List ℕ) → HasRead r text → HasRead s (text ++ part_of new)) → IfSome known (IsReadOn new s)
fed None old new r s before grows feed = before
fed (Some file) old new r s before grows feed =
    let g = grows before.within in
    record { within = g.within; read = subst (HasRead s) (sym g.bytes) (feed (given old file) before.read) }

-- there is no further part
pub at_end : (known : Option (List ℕ)) (walk : FileWalk) (r : LogReader) → IfSome known (IsReadOn walk r) → IfSome known (λ file. length file ≤ count_of walk) → IfSome known (HasRead r)
at_end None walk r before all = before
at_end (Some file) walk r before all = subst (HasRead r) (take_all (count_of walk) file all) before.read

pub ended : (known : Option (List ℕ)) (walk : FileWalk) (r : LogReader) (place : ℕ) → IfSome known (IsReadOn walk r) → IfSome known (λ file. length file ≤ count_of walk) → place ≡ count_of walk → IfSome known (λ file. place ≡ length file)
ended None walk r place before all is = before
ended (Some file) walk r place before all is = omega (arith, before.within, all, is)

-- a file whose beginning passes the limit is longer
pub longer : (known : Option (List ℕ)) (old new : FileWalk) (r : LogReader) → IfSome known (IsReadOn old r) → IfSome known (λ file. IsWithin old file → Grows file old new) → longest < count_of new → IfSome known (λ file. longest < length file)
longer None old new r before grows past = before
longer (Some file) old new r before grows past = let g = grows before.within in omega (arith, g.within, past)

-- the reader was given so many bytes
pub record IsFed (reader : LogReader) (n : ℕ) : Type 0 where
  pub text : List ℕ
  pub read : HasRead reader text
  pub size : length text ≡ n

pub fed_nothing : (r : LogReader) (n : ℕ) → HasRead r [] → n ≡ 0 → IsFed r n
fed_nothing r n read e = record { text = []; read = read; size = sym e }

pub fed_more : (r s : LogReader) (n m : ℕ) (part : List ℕ) → IsFed r n → ((text : List ℕ) → HasRead r text → HasRead s (text ++ part)) → m ≡ n + length part → IsFed s m
fed_more r s n m part before feed e = record { text = before.text ++ part; read = feed before.text before.read; size = omega (arith, length-append before.text part, before.size, e) }

-- of so few bytes it doesn't answer that they are too many
pub never_long : (r : LogReader) (n : ℕ) (e : LogError) → IsFed r n → n ≤ longest → ((text : List ℕ) → HasRead r text → Verdict text (Err e)) → e ≡ TooLong → ⊥
never_long r n e before few verdict is = let h = subst (λ x. Verdict before.text (Err x)) is (verdict before.text before.read) in omega (arith, h, before.size, few)
