-- A report with bytes after it is none.
use Rattle.std.proofs.Common.{◌≡◌, ℕ, ◌+◌, ◌<◌, ◌≤◌, Bool, true, false, List, [], ◌∷◌, ◌++◌, length, Option, Some, None, Result, Ok, Err, ◌⊎◌, inl, inr, refl, sym, ap, subst, ◌∙◌, arith}
use Rattle.std.proofs.Math.Dec.{leb}
use Rattle.std.proofs.lemmas.Bool.Decides.{leb_tells}
use Rattle.std.specs.Str.{bytes_eq}
use Rattle.loft_spelling.specs.Sets.{is_prefix}
use Rattle.loft_spelling.specs.Parts.{Left, script, takes}
use Rattle.loft_spelling.specs.Reading.{closed, ended, or_end, opening}
use Rattle.loft_spelling.proofs.Sets.{same_bytes, or_cases}
use Rattle.loft_spelling.proofs.Bytewise.{answer_stops, run_pieces, then_more}
use Rattle.loft_report_shape.specs.Sets.{set_of}
use Rattle.loft_report_shape.specs.Told.{Report, Told}
use Rattle.loft_report_shape.specs.Report.{grammar, beginning, Shape, StopsAt}
use Rattle.loft_report_shape.proofs.Verdicts.{reads_well, answer_of, run_all, no_both, one_of_both, stop_stays, stops_there}
use Rattle.loft_report_shape.specs.declared.part.Part.{Part}
use Rattle.loft_report_shape.specs.declared.part.Part.TheVariants as part
use Rattle.loft_report_reader.specs.Machine.{Machine_state, read_from, may_end}
use Rattle.loft_report_reader.proofs.Ending.{closes_none}
use Rattle.loft_report_reader.proofs.Finishing.{read_bottomed}
use Rattle.loft_report_reader.proofs.Spelling.{state, next_byte, run_over}
use Rattle.loft_report_prefixes.proofs.Prefixes.{within}

-- how a report is read
reads_to_end : (text : List ℕ) (r : Report) → Shape text r → (m : Machine_state) × (last : Left grammar) × (run_all text ≡ Ok m) × (ended (script grammar) (takes grammar) m ≡ Some last)
reads_to_end text r shape = go (run_all text) refl
  where
    stops : (k : ℕ) → answer_of text ≡ Err k → ⊥
    stops k e = no_both text r k shape (answer_stops reads_well beginning refl text k e)

    at_end : (m : Machine_state) → run_all text ≡ Ok m → (o : Option (Left grammar)) → ended (script grammar) (takes grammar) m ≡ o → (m : Machine_state) × (last : Left grammar) × (run_all text ≡ Ok m) × (ended (script grammar) (takes grammar) m ≡ Some last)
    at_end m e (Some last) f = (m, last, e, f)
    at_end m e None f = absurd (stops (length text) (ap (closed (script grammar) (takes grammar) (length text)) e ∙ ap (or_end (script grammar) (takes grammar) (length text)) f))

    go : (o : Result Machine_state ℕ) → run_all text ≡ o → (m : Machine_state) × (last : Left grammar) × (run_all text ≡ Ok m) × (ended (script grammar) (takes grammar) m ≡ Some last)
    go (Ok m) e = at_end m e _ refl
    go (Err k) e = absurd (stops k (ap (closed (script grammar) (takes grammar) (length text)) e))

-- after the last line feed nothing may come
shut : (ps : List Part) (told : Told) (w : List ℕ) (b : ℕ) (bs : List ℕ) → may_end ps w ≡ true → read_from (state ps told w) (b ∷ bs) ≡ Err 0
unfolding is_prefix
shut (part.Close ∷ []) told w b bs e =
    let is : 10 ∷ [] ≡ w = only (or_cases (bytes_eq (10 ∷ []) w) false e) in
    let full : (set_of part.Close).begun (w ++ b ∷ []) ≡ false = subst (λ v. (set_of part.Close).begun (v ++ b ∷ []) ≡ false) is refl in
    next_byte part.Close [] told w b bs full e ∙ run_over told [] (b ∷ bs) (omega arith)
  where
    only : (bytes_eq (10 ∷ []) w ≡ true) ⊎ (false ≡ true) → 10 ∷ [] ≡ w
    only (inl f) = same_bytes (10 ∷ []) w f
    only (inr f) = absurd cc
shut ps told w b bs e = absurd cc

may_end_there : (text : List ℕ) (m : Machine_state) (last : Left grammar) → run_all text ≡ Ok m → ended (script grammar) (takes grammar) m ≡ Some last → may_end m.at.parts m.word ≡ true
may_end_there text m last e f = go _ refl
  where
    go : (t : Bool) → may_end m.at.parts m.word ≡ t → may_end m.at.parts m.word ≡ true
    go true g = g
    go false g = absurd (let h = sym f ∙ closes_none m.at.parts m.at.told m.word (read_bottomed text m e) g in cc)

no_longer : (text more : List ℕ) (r s : Report) → Shape text r → Shape (text ++ more) s → 0 < length more → ⊥
no_longer text [] r s a b some = omega (arith, some)
no_longer text (c ∷ more) r s a b some = go (reads_to_end text r a)
  where
    go : (m : Machine_state) × (last : Left grammar) × (run_all text ≡ Ok m) × (ended (script grammar) (takes grammar) m ≡ Some last) → ⊥
    go (m, last, e, f) =
        let stop : read_from m (c ∷ more) ≡ Err 0 = shut m.at.parts m.at.told m.word c more (may_end_there text m last e f) in
        let both : run_all (text ++ c ∷ more) ≡ Err (length text + 0) =
        run_pieces (script grammar) (takes grammar) text (c ∷ more) (opening (script grammar) (takes grammar) beginning)
        ∙ ap (λ x. then_more (script grammar) (takes grammar) (length text) x (c ∷ more)) e ∙ later stop in
        no_both (text ++ c ∷ more) s (length text + 0) b (stops_there (text ++ c ∷ more) (length text + 0) both).0
      where
        later : read_from m (c ∷ more) ≡ Err 0 → then_more (script grammar) (takes grammar) (length text) (Ok m) (c ∷ more) ≡ Err (length text + 0)
        later g = rw g refl

pub proper : (text more : List ℕ) (r : Report) → Shape (text ++ more) r → 0 < length more → StopsAt text (length text)
proper text more r shape some = go (one_of_both text)
  where
    there : (k : ℕ) → StopsAt text k → ((leb (length text) k ≡ true) × (length text ≤ k)) ⊎ ((leb (length text) k ≡ false) × (k < length text)) → StopsAt text (length text)
    there k s (inl p) = let e : k ≡ length text = omega (arith, p.1, within text k s) in subst (StopsAt text) e s
    there k s (inr p) = absurd (no_both (text ++ more) r k shape (stop_stays text more k s p.1))

    go : ((r : Report) × Shape text r) ⊎ ((k : ℕ) × StopsAt text k) → StopsAt text (length text)
    go (inl (s, a)) = absurd (no_longer text more s r a shape some)
    go (inr (k, s)) = there k s (leb_tells (length text) k)
