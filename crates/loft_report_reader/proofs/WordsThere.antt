-- Words that a text goes on with are found by their bytes.
use Rattle.std.proofs.Common.{◌≡◌, ℕ, ◌<◌, true, List, ◌++◌, codes, length, drop, arith, refl, sym, ap, subst, ◌∙◌}
use Rattle.std.proofs.lemmas.List.{take-append-drop}
use Rattle.loft_spelling.specs.Sets.{Set, is_prefix}
use Rattle.loft_spelling.proofs.Sets.{or_right}
use Rattle.loft_report_shape.specs.Sets.{names, set_of}
use Rattle.loft_report_shape.specs.declared.part.Part.TheVariants.{Lines, Maker, Wait}
use Rattle.loft_report_shape.specs.declared.part.Stage.{Stage}
use Rattle.loft_report_shape.specs.declared.part.Stage.TheVariants as stage
use Rattle.loft_report_reader.specs.Ahead.{BeginsWith, There, may_print, may_stand}

-- what holds of a word with whatever comes after it holds of a text that begins with it
begun_by : (w bytes : List ℕ) (s : Set) (n : ℕ) → BeginsWith w bytes → ((rest : List ℕ) → There s (w ++ rest) n) → There s bytes n
begun_by w bytes s n begins there =
    subst (λ t. There s t n) (ap (λ t. t ++ drop (length w) bytes) (sym begins) ∙ take-append-drop (length w) bytes) (there (drop (length w) bytes))

two : (rest : List ℕ) → 2 < length (codes "at " ++ rest)
two rest = omega arith

four : (rest : List ℕ) → 4 < length (codes "coop:" ++ rest)
four rest = omega arith

five : (rest : List ℕ) → 5 < length (codes "print " ++ rest)
five rest = omega arith

at_first : (s : Stage) → may_stand s ≡ true → (rest : List ℕ) → There (set_of (Lines s)) (codes "at " ++ rest) 2
unfolding is_prefix
at_first stage.Fresh e rest = absurd cc
at_first stage.Batch e rest = record { taken = record { within = omega arith; begun = refl; last = λ _. refl }; whole = refl; more = two rest }
at_first stage.Ordered e rest = record { taken = record { within = omega arith; begun = refl; last = λ _. refl }; whole = refl; more = two rest }
at_first stage.Acts e rest = record { taken = record { within = omega arith; begun = refl; last = λ _. refl }; whole = refl; more = two rest }
at_first stage.Leaving e rest = record { taken = record { within = omega arith; begun = refl; last = λ _. refl }; whole = refl; more = two rest }
at_first stage.Standing e rest = record { taken = record { within = omega arith; begun = refl; last = λ _. refl }; whole = refl; more = two rest }
at_first stage.Changed e rest = absurd cc

pub at_there : (s : Stage) (bytes : List ℕ) → may_stand s ≡ true → BeginsWith (codes "at ") bytes → There (set_of (Lines s)) bytes 2
at_there s bytes e begins = begun_by (codes "at ") bytes (set_of (Lines s)) 2 begins (at_first s e)

print_first : (s : Stage) → may_print s ≡ true → (rest : List ℕ) → There (set_of (Lines s)) (codes "print " ++ rest) 5
unfolding is_prefix
print_first stage.Fresh e rest = absurd cc
print_first stage.Batch e rest = record { taken = record { within = omega arith; begun = refl; last = λ _. refl }; whole = refl; more = five rest }
print_first stage.Ordered e rest = record { taken = record { within = omega arith; begun = refl; last = λ _. refl }; whole = refl; more = five rest }
print_first stage.Acts e rest = record { taken = record { within = omega arith; begun = refl; last = λ _. refl }; whole = refl; more = five rest }
print_first stage.Leaving e rest = absurd cc
print_first stage.Standing e rest = absurd cc
print_first stage.Changed e rest = absurd cc

pub print_there : (s : Stage) (bytes : List ℕ) → may_print s ≡ true → BeginsWith (codes "print ") bytes → There (set_of (Lines s)) bytes 5
print_there s bytes e begins = begun_by (codes "print ") bytes (set_of (Lines s)) 5 begins (print_first s e)

coop_first : (rest : List ℕ) → There (set_of Wait) (codes "coop:" ++ rest) 4
unfolding is_prefix
coop_first rest = record { taken = record { within = omega arith; begun = refl; last = λ _. refl }; whole = refl; more = four rest }

pub coop_there : (bytes : List ℕ) → BeginsWith (codes "coop:") bytes → There (set_of Wait) bytes 4
coop_there bytes begins = begun_by (codes "coop:") bytes (set_of Wait) 4 begins coop_first

await_first : (rest : List ℕ) → There (set_of Wait) (codes "await:" ++ rest) 5
unfolding is_prefix
await_first rest = record { taken = record { within = omega arith; begun = refl; last = λ _. refl }; whole = refl; more = omega arith }

pub await_there : (bytes : List ℕ) → BeginsWith (codes "await:") bytes → There (set_of Wait) bytes 5
await_there bytes begins = begun_by (codes "await:") bytes (set_of Wait) 5 begins await_first

start_first : (rest : List ℕ) → There (set_of Maker) (codes "start." ++ rest) 5
unfolding is_prefix
start_first rest = record { taken = record { within = omega arith; begun = refl; last = λ _. refl }; whole = or_right (names.whole (codes "start")) _ refl; more = omega arith }

pub start_there : (bytes : List ℕ) → BeginsWith (codes "start.") bytes → There (set_of Maker) bytes 5
start_there bytes begins = begun_by (codes "start.") bytes (set_of Maker) 5 begins start_first
