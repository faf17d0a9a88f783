-- What was taken of a spelling is a prefix of one.
use Rattle.std.proofs.Common.{◌≡◌, ℕ, Bool, true, false, List, [], ◌∷◌, ◌++◌, Option, Some, None, Result, Ok, Err, inl, inr, refl, subst}
use Rattle.loft_spelling.specs.Reading.{later, step, enter, then_run, run, opening}
use Rattle.loft_spelling.specs.Parts.{Left, parts_begun, parts_whole, parts_next, script, takes}
use Rattle.loft_report_shape.specs.Report.{grammar, beginning}
use Rattle.loft_report_shape.proofs.Verdicts.{run_all}
use Rattle.loft_report_reader.specs.Machine.{Machine_state, IsBegun}

enter_begun : (at : Left grammar) (b : ℕ) (n : Machine_state) (t : Bool) → parts_begun grammar at.parts at.told (b ∷ []) ≡ t → enter (script grammar) (takes grammar) at b ≡ Some n → IsBegun n
enter_begun at b n true e f =
    let g : Some (record { at = at; word = b ∷ [] }) ≡ Some n = rw e at f in
    let same : record { at = at; word = b ∷ [] } ≡ n = cc in
    subst IsBegun same (inr e)
enter_begun at b n false e f = absurd (let g : None ≡ Some n = rw e at f in cc)

step_begun : (m n : Machine_state) (b : ℕ) (t : Bool) → parts_begun grammar m.at.parts m.at.told (m.word ++ b ∷ []) ≡ t → (w : Bool) → parts_whole grammar m.at.parts m.at.told m.word ≡ w
    → step (script grammar) (takes grammar) m b ≡ Some n → IsBegun n
step_begun m n b true e w f g =
    let k : Some (record { at = m.at; word = m.word ++ b ∷ [] }) ≡ Some n = rw e at g in
    let same : record { at = m.at; word = m.word ++ b ∷ [] } ≡ n = cc in
    subst IsBegun same (inr e)
step_begun m n b false e true f g =
    let k : enter (script grammar) (takes grammar) (parts_next grammar m.at.parts m.at.told m.word) b ≡ Some n = rw (e, f) at g in
    enter_begun (parts_next grammar m.at.parts m.at.told m.word) b n _ refl k
step_begun m n b false e false f g = absurd (let k : None ≡ Some n = rw (e, f) at g in cc)

run_begun : (bs : List ℕ) (s m : Machine_state) → IsBegun s → run (script grammar) (takes grammar) bs s ≡ Ok m → IsBegun m
unfolding run
run_begun [] s m h e = let same : s ≡ m = cc in subst IsBegun same h
run_begun (b ∷ bs) s m h e = go (λ n k f. run_begun bs n m k f) (step (script grammar) (takes grammar) s b) refl e
  where
    after : (r : Result Machine_state ℕ) → later r ≡ Ok m → r ≡ Ok m
    after (Ok n) f = f
    after (Err k) f = absurd cc

    go : ((n : Machine_state) → IsBegun n → run (script grammar) (takes grammar) bs n ≡ Ok m → IsBegun m)
        → (o : Option Machine_state) → step (script grammar) (takes grammar) s b ≡ o → then_run (script grammar) (takes grammar) o (run (script grammar) (takes grammar) bs) ≡ Ok m → IsBegun m
    go ih None f g = absurd cc
    go ih (Some n) f g = ih n (step_begun s n b _ refl _ refl f) (after (run (script grammar) (takes grammar) bs n) g)

pub reads_begun : (text : List ℕ) (m : Machine_state) → run_all text ≡ Ok m → IsBegun m
reads_begun text m e = run_begun text (opening (script grammar) (takes grammar) beginning) m (inl refl) e
