-- The text may end where only its last line feed stands.
use Rattle.std.proofs.Common.{◌≡◌, ℕ, Bool, true, false, List, [], ◌∷◌, ◌++◌, Some, None, ◌⊎◌, inl, inr, refl, sym, subst}
use Rattle.std.proofs.lemmas.List.{append-nil}
use Rattle.loft_spelling.specs.Parts.{Left, parts_whole, parts_over, parts_next, script, takes}
use Rattle.loft_spelling.specs.Reading.{State, ended}
use Rattle.loft_report_shape.specs.Sets.{set_of}
use Rattle.loft_report_shape.specs.Grammar.{after}
use Rattle.loft_report_shape.specs.Told.{Told, note}
use Rattle.loft_report_shape.specs.Report.{grammar}
use Rattle.loft_report_reader.specs.Machine.{bottomed, IsBottomed, may_end}
use Rattle.loft_report_shape.specs.declared.part.Part.{Part}
use Rattle.loft_report_shape.specs.declared.part.Part.TheVariants as part
use Rattle.loft_report_reader.proofs.Bottom.{Brings, brings}

abbrev state : List Part → Told → List ℕ → State (script grammar)
state ps told w = record { at = record { parts = ps; told = told }; word = w }

pub closes_some : (ps : List Part) (told : Told) (w : List ℕ) → may_end ps w ≡ true → (last : Left grammar) × (ended (script grammar) (takes grammar) (state ps told w) ≡ Some last) × (told.report ≡ last.told.report)
closes_some (part.Close ∷ []) told w e = (record { parts = []; told = note (part.Close) w told }, rw e refl, refl)
closes_some ps told w e = absurd cc

over_append : (xs ys : List Part) → parts_over grammar ys ≡ false → parts_over grammar (xs ++ ys) ≡ false
over_append [] ys e = e
over_append (x ∷ xs) ys e = refl

append_over : (xs : List Part) → parts_over grammar xs ≡ false → parts_over grammar (xs ++ []) ≡ false
append_over [] e = e
append_over (x ∷ xs) e = refl

-- an unended state: either no whole spelling, or more comes
not_ended : (p : Part) (ps : List Part) (told : Told) (w : List ℕ) → ((set_of p).whole w ≡ true → parts_over grammar (after p w ++ ps) ≡ false) → (b : Bool) → (set_of p).whole w ≡ b → ended (script grammar) (takes grammar) (state (p ∷ ps) told w) ≡ None
not_ended p ps told w h false e = rw e refl
not_ended p ps told w h true e = let more = h e in rw (e, more) refl

is_told : (p : Part) (w : List ℕ) → may_end (p ∷ []) w ≡ false → p ≡ part.Close → (set_of p).whole w ≡ true → ⊥
is_told p w refused e whole =
    let a : (set_of (part.Close)).whole w ≡ true = subst (λ q. (set_of q).whole w ≡ true) e whole in
    let b : (set_of (part.Close)).whole w ≡ false = subst (λ q. may_end (q ∷ []) w ≡ false) e refused in
    cc

pub closes_none : (ps : List Part) (told : Told) (w : List ℕ) → IsBottomed ps → may_end ps w ≡ false → ended (script grammar) (takes grammar) (state ps told w) ≡ None
unfolding bottomed
closes_none [] told w b e = refl
closes_none (p ∷ []) told w b e = not_ended p [] told w (λ whole. go whole (brings p w b whole)) _ refl
  where
    go : (set_of p).whole w ≡ true → (p ≡ part.Close) ⊎ Brings (after p w) → parts_over grammar (after p w ++ []) ≡ false
    go whole (inl f) = absurd (is_told p w e f whole)
    go whole (inr f) = append_over (after p w) f.0
closes_none (p ∷ q ∷ ps) told w b e = not_ended p (q ∷ ps) told w (λ _. over_append (after p w) (q ∷ ps) refl) _ refl

-- ---- what comes last stays such a part

bottomed_append : (xs : List Part) (q : Part) (ps : List Part) → bottomed (q ∷ ps) ≡ true → bottomed (xs ++ q ∷ ps) ≡ true
unfolding bottomed
bottomed_append [] q ps e = e
bottomed_append (x ∷ []) q ps e = e
bottomed_append (x ∷ y ∷ xs) q ps e = bottomed_append (y ∷ xs) q ps e

pub next_bottomed : (ps : List Part) (told : Told) (w : List ℕ) → bottomed ps ≡ true → parts_whole grammar ps told w ≡ true → bottomed (parts_next grammar ps told w).parts ≡ true
unfolding bottomed
next_bottomed [] told w b e = refl
next_bottomed (p ∷ []) told w b e = go (brings p w b e)
  where
    told_brings : (q : Part) → q ≡ part.Close → bottomed (after q w ++ []) ≡ true
    told_brings q f = subst (λ r. bottomed (after r w ++ []) ≡ true) (sym f) refl

    go : (p ≡ part.Close) ⊎ Brings (after p w) → bottomed (after p w ++ []) ≡ true
    go (inl f) = told_brings p f
    go (inr f) = rw (append-nil (after p w)) f.1
next_bottomed (p ∷ q ∷ ps) told w b e = bottomed_append (after p w) q ps b
