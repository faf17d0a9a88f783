-- Whatever parts are still to come, some bytes are spellings of them.
use Rattle.std.proofs.Common.{◌≡◌, ℕ, zero, suc, ◌-◌, true, false, ◌==◌, List, [], ◌∷◌, ◌++◌, codes, refl, sym, subst, arith}
use Rattle.loft_spelling.specs.Script.{IsSpelled}
use Rattle.loft_spelling.specs.Sets.{value_after, value_of}
use Rattle.loft_spelling.specs.Parts.{Left, script}
use Rattle.loft_report_shape.specs.Word.{spelling}
use Rattle.loft_report_shape.specs.Sets.{set_of, menu, line_words}
use Rattle.loft_report_shape.specs.Grammar.{after, thread, after_line, after_order, after_wait, after_reason}
use Rattle.loft_report_shape.specs.Told.{Told, note}
use Rattle.loft_report_shape.specs.Report.{grammar}
use Rattle.loft_report_shape.specs.declared.word.Word.TheVariants as word
use Rattle.loft_report_shape.specs.declared.part.Part.{Part}
use Rattle.loft_report_shape.specs.declared.part.Part.TheVariants as part
use Rattle.loft_report_shape.specs.declared.part.NumberKind.{NumberKind}
use Rattle.loft_report_shape.specs.declared.part.NumberKind.TheVariants as number
use Rattle.loft_report_shape.specs.declared.part.Stage.{Stage}
use Rattle.loft_report_shape.specs.declared.part.Stage.TheVariants as stage
use Rattle.loft_report_shape.proofs.HonestSets.{honest}
use Rattle.loft_report_shape.proofs.Names.{honest_names}
use Rattle.loft_report_shape.proofs.WordLemmas.{word_of-spelling}

abbrev pub Completed : List Part → Told → Type 0
Completed ps told = (more : List ℕ) × (last : Left grammar) × IsSpelled (script grammar) (record { parts = ps; told = told }) more last

-- whatever was told before
abbrev pub Completes : List Part → Type 0
Completes ps = (told : Told) → Completed ps told

none : Completes []
none told = ([], record { parts = []; told = told }, ([], (refl, refl, refl)))

-- one spelling more
spelled : (p : Part) (ps : List Part) (w : List ℕ) → (set_of p).whole w ≡ true → Completes (after p w ++ ps) → Completes (p ∷ ps)
spelled p ps w e c told = go (c (note p w told))
  where
    go : Completed (after p w ++ ps) (note p w told) → Completed (p ∷ ps) told
    go (more, last, (ws, s)) = (w ++ more, last, (w ∷ ws, (more, refl, e, s)))

-- a part that brings none, whatever its spelling
plain : (p : Part) → ((w : List ℕ) → after p w ≡ []) → (ps : List Part) → Completes ps → Completes (p ∷ ps)
plain p nothing ps c =
    let m = (honest p).sound [] (honest p).live in
    spelled p ps m.0 m.1 (subst (λ qs. Completes (qs ++ ps)) (sym (nothing m.0)) c)

sign : (b : ℕ) (ps : List Part) → Completes ps → Completes (part.Sign b ∷ ps)
sign b ps c = plain (part.Sign b) (λ w. refl) ps c

maker : (ps : List Part) → Completes ps → Completes (part.Maker ∷ ps)
maker ps c = plain part.Maker (λ w. refl) ps c

count : (ps : List Part) → Completes ps → Completes (part.Number number.Count ∷ ps)
count ps c = plain (part.Number number.Count) (λ w. refl) ps c

any : (ps : List Part) → Completes ps → Completes (part.Number number.Any ∷ ps)
any ps c = plain (part.Number number.Any) (λ w. refl) ps c

value : (ps : List Part) → Completes ps → Completes (part.Value ∷ ps)
unfolding value_after
value ps c = spelled part.Value ps (codes "0") refl c

first_value : (ps : List Part) → Completes ps → Completes (part.FirstValue ∷ ps)
first_value ps c = spelled part.FirstValue ps (codes ")") refl c

more_values : (ps : List Part) → Completes ps → Completes (part.MoreValues ∷ ps)
more_values ps c = spelled part.MoreValues ps (codes ")") refl c

first_count : (ps : List Part) → Completes ps → Completes (part.FirstCount ∷ ps)
first_count ps c = spelled part.FirstCount ps (codes "]") refl c

more_counts : (ps : List Part) → Completes ps → Completes (part.MoreCounts ∷ ps)
more_counts ps c = spelled part.MoreCounts ps (codes "]") refl c

more_events : (ps : List Part) → Completes ps → Completes (part.MoreEvents ∷ ps)
more_events ps c = spelled part.MoreEvents ps (codes " ") refl c

sent : (ps : List Part) → Completes ps → Completes (part.Sent ∷ ps)
sent ps c = spelled part.Sent ps (10 ∷ []) refl c

more_frames : (ps : List Part) → Completes ps → Completes (part.MoreFrames ∷ ps)
more_frames ps c = spelled part.MoreFrames ps (10 ∷ []) refl c

wait : (ps : List Part) → Completes ps → Completes (part.Wait ∷ ps)
wait ps c = spelled part.Wait ps (spelling word.New) refl (subst (λ o. Completes (after_wait o ++ ps)) (sym (word_of-spelling word.New)) (sign 32 ps c))

reason : (ps : List Part) → Completes ps → Completes (part.Reason ∷ ps)
reason ps c = spelled part.Reason ps (spelling word.Done) refl (subst (λ o. Completes (after_reason o ++ ps)) (sym (word_of-spelling word.Done)) (sign 10 ps c))

order : (ps : List Part) → Completes ps → Completes (part.Order ∷ ps)
order ps c = spelled part.Order ps (spelling word.Stop) refl
    (subst (λ o. Completes (after_order o ++ ps)) (sym (word_of-spelling word.Stop)) (sign 32 _ (maker _ (sign 46 _ (count _ (sign 10 ps c))))))

frames : (ps : List Part) → Completes ps → Completes (thread ++ ps)
frames ps c =
    maker _ (sign 46 _ (count _ (sign 32 _ (any _ (sign 32 _ (any _ (sign 32 _ (wait _
    (plain _ (λ w. refl) _ (sign 58 _ (plain _ (λ w. refl) _ (sign 91 _ (first_count _ (sign 40 _ (first_value _ (more_frames ps c))))))))))))))))

-- ---- counted lists

left : (k n : ℕ) → n ≡ k → (ps : List Part) → Completes ps → Completes (part.Left n ∷ ps)
left zero n e ps c =
    let z : (n == 0) ≡ true = grind (arith, e) in
    spelled (part.Left n) ps (spelling word.End) (rw z refl) (rw z (plain part.Close (λ w. refl) ps c))
left (suc k) n e ps c =
    let z : (n == 0) ≡ false = grind (arith, e) in
    let m = honest_names.sound [] honest_names.live in
    spelled (part.Left n) ps m.0 (rw z m.1) (rw z (sign 32 _ (order _ (left k (n - 1) (omega (arith, e)) ps c))))

number_left : (ps : List Part) → Completes ps → Completes (part.Number number.Left ∷ ps)
unfolding value_after
number_left ps c = spelled (part.Number number.Left) ps (codes "0") refl (sign 10 _ (left _ (value_of (codes "0")) refl ps c))

states : (k n : ℕ) → n ≡ k → (ps : List Part) → Completes ps → Completes (part.States n ∷ ps)
states zero n e ps c =
    let z : (n == 0) ≡ true = grind (arith, e) in
    let o = word_of-spelling word.Left in
    spelled (part.States n) ps (spelling word.Left) (rw z refl) (rw (z, o) (sign 32 _ (number_left ps c)))
states (suc k) n e ps c =
    let z : (n == 0) ≡ false = grind (arith, e) in
    spelled (part.States n) ps (spelling word.Linked) (rw z refl) (rw z (sign 32 _ (frames _ (states k (n - 1) (omega (arith, e)) ps c))))

number_states : (ps : List Part) → Completes ps → Completes (part.Number number.States ∷ ps)
unfolding value_after
number_states ps c = spelled (part.Number number.States) ps (codes "0") refl (sign 10 _ (states _ (value_of (codes "0")) refl ps c))

choices : (k n : ℕ) → n ≡ k → (ps : List Part) → Completes ps → Completes (part.Choices n ∷ ps)
choices zero n e ps c =
    let z : (n == 0) ≡ true = grind (arith, e) in
    let o = word_of-spelling word.Left in
    spelled (part.Choices n) ps (spelling word.Left) (rw z refl) (rw (z, o) (sign 32 _ (number_left ps c)))
choices (suc k) n e ps c =
    let z : (n == 0) ≡ false = grind (arith, e) in
    let o = word_of-spelling word.Pick in
    spelled (part.Choices n) ps (spelling word.Pick) (rw z refl) (rw (z, o) (sign 32 _ (plain (part.Number number.Pick) (λ w. refl) _ (sign 10 _ (choices k (n - 1) (omega (arith, e)) ps c)))))

number_history : (ps : List Part) → Completes ps → Completes (part.Number number.History ∷ ps)
unfolding value_after
number_history ps c = spelled (part.Number number.History) ps (codes "0") refl (sign 10 _ (choices _ (value_of (codes "0")) refl ps c))

state_in : (s : Stage) → (menu (line_words s)).whole (spelling word.State) ≡ true
state_in stage.Fresh = refl
state_in stage.Batch = refl
state_in stage.Ordered = refl
state_in stage.Acts = refl
state_in stage.Leaving = refl
state_in stage.Standing = refl
state_in stage.Changed = refl

lines : (s : Stage) (ps : List Part) → Completes ps → Completes (part.Lines s ∷ ps)
lines s ps c = spelled (part.Lines s) ps (spelling word.State) (state_in s) (subst (λ o. Completes (after_line s o ++ ps)) (sym (word_of-spelling word.State)) (sign 32 _ (number_states ps c)))

a_number : (n : NumberKind) (ps : List Part) → Completes ps → Completes (part.Number n ∷ ps)
a_number number.History ps c = number_history ps c
a_number number.States ps c = number_states ps c
a_number number.Left ps c = number_left ps c
a_number number.Instants ps c = plain (part.Number number.Instants) (λ w. refl) ps c
a_number number.Budget ps c = plain (part.Number number.Budget) (λ w. refl) ps c
a_number number.Block ps c = plain (part.Number number.Block) (λ w. refl) ps c
a_number number.Workers ps c = plain (part.Number number.Workers) (λ w. refl) ps c
a_number number.Pick ps c = plain (part.Number number.Pick) (λ w. refl) ps c
a_number number.Post ps c = plain (part.Number number.Post) (λ w. refl) ps c
a_number number.Stop ps c = plain (part.Number number.Stop) (λ w. refl) ps c
a_number number.Count ps c = count ps c
a_number number.Any ps c = any ps c

each : (p : Part) (ps : List Part) → Completes ps → Completes (p ∷ ps)
each (part.Fixed w) ps c = plain (part.Fixed w) (λ v. refl) ps c
each (part.Sign b) ps c = sign b ps c
each (part.Number n) ps c = a_number n ps c
each (part.Name r) ps c = plain (part.Name r) (λ w. refl) ps c
each part.Maker ps c = maker ps c
each part.Value ps c = value ps c
each part.FirstValue ps c = first_value ps c
each part.MoreValues ps c = more_values ps c
each part.FirstCount ps c = first_count ps c
each part.MoreCounts ps c = more_counts ps c
each part.Limit ps c = plain part.Limit (λ w. refl) ps c
each part.MoreEvents ps c = more_events ps c
each part.Sent ps c = sent ps c
each part.Goal ps c = plain part.Goal (λ w. refl) ps c
each part.Text ps c = plain part.Text (λ w. refl) ps c
each part.MoreFrames ps c = more_frames ps c
each part.Order ps c = order ps c
each part.Wait ps c = wait ps c
each part.Reason ps c = reason ps c
each (part.Choices n) ps c = choices n n refl ps c
each (part.Lines s) ps c = lines s ps c
each (part.States n) ps c = states n n refl ps c
each (part.Left n) ps c = left n n refl ps c
each part.Close ps c = plain part.Close (λ w. refl) ps c

pub completes : (ps : List Part) → Completes ps
completes [] = none
completes (p ∷ ps) = each p ps (completes ps)
