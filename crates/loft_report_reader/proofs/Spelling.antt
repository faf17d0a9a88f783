-- Reading a whole spelling at once is reading it byte by byte.
use Rattle.std.proofs.Common.{◌≡◌, ℕ, suc, ◌+◌, ◌<◌, ◌≤◌, Bool, true, false, List, [], ◌∷◌, ◌++◌, length, get_or, take, drop, drop-cons, Result, Ok, Err, ◌⊎◌, inl, inr, refl, sym, ap, subst, ◌∙◌, append_assoc, length-append, arith}
use Rattle.std.proofs.Math.Dec.{leb}
use Rattle.std.proofs.Math.Seq.{take-suc, take-append-add}
use Rattle.std.proofs.lemmas.Bool.Decides.{leb_tells}
use Rattle.std.proofs.lemmas.List.{append-nil, take_all, take-append-le, take-append-drop, length-take}
use Rattle.loft_spelling.specs.Parts.{parts_begun, script, takes}
use Rattle.loft_spelling.specs.Reading.{later, step, enter, run}
use Rattle.loft_spelling.specs.Sets.{Set}
use Rattle.loft_spelling.proofs.Sets.{Honest}
use Rattle.loft_report_shape.specs.Sets.{set_of}
use Rattle.loft_report_shape.specs.Grammar.{after}
use Rattle.loft_report_shape.specs.Told.{Told, note}
use Rattle.loft_report_shape.specs.Report.{grammar}
use Rattle.loft_report_shape.proofs.HonestSets.{honest}
use Rattle.loft_report_shape.proofs.Verdicts.{reads_well}
use Rattle.loft_report_shape.specs.declared.part.Part.{Part}
use Rattle.loft_report_sets.specs.Taken.{Taken}
use Rattle.loft_report_reader.specs.Machine.{Machine_state, read_from, later_by}

abbrev pub state : List Part → Told → List ℕ → Machine_state
state ps told w = record { at = record { parts = ps; told = told }; word = w }

-- a prefix of a prefix
pub begun_front : (s : Set) → Honest s → (u v : List ℕ) → s.begun (u ++ v) ≡ true → s.begun u ≡ true
begun_front s h u v e = let m = h.sound (u ++ v) e in h.complete u (v ++ m.0) (subst (λ t. s.whole t ≡ true) (append_assoc u v m.0) m.1)

later_one : {A : Type 0} (n : ℕ) (r : Result A ℕ) → later (later_by n r) ≡ later_by (suc n) r
later_one n (Ok x) = refl
later_one n (Err k) = ap (λ (j : ℕ). Err j) (omega arith)

later_none : {A : Type 0} (r : Result A ℕ) → r ≡ later_by 0 r
later_none (Ok x) = refl
later_none (Err k) = ap (λ (j : ℕ). Err j) (omega arith)

-- one byte of a spelling
one_taken : (p : Part) (ps : List Part) (told : Told) (u : List ℕ) (b : ℕ) (bs : List ℕ) → (set_of p).begun (u ++ b ∷ []) ≡ true
    → read_from (state (p ∷ ps) told u) (b ∷ bs) ≡ later (read_from (state (p ∷ ps) told (u ++ b ∷ [])) bs)
unfolding run
one_taken p ps told u b bs e = rw e refl

-- the bytes of a spelling
pub run_word : (p : Part) (ps : List Part) (told : Told) (v u rest : List ℕ) → (set_of p).begun (u ++ v) ≡ true
    → read_from (state (p ∷ ps) told u) (v ++ rest) ≡ later_by (length v) (read_from (state (p ∷ ps) told (u ++ v)) rest)
run_word p ps told [] u rest e = subst (λ t. read_from (state (p ∷ ps) told u) rest ≡ later_by 0 (read_from (state (p ∷ ps) told t) rest)) (sym (append-nil u)) (later_none (read_from (state (p ∷ ps) told u) rest))
run_word p ps told (b ∷ v) u rest e =
    let same : (u ++ b ∷ []) ++ v ≡ u ++ b ∷ v = append_assoc u (b ∷ []) v in
    let f : (set_of p).begun ((u ++ b ∷ []) ++ v) ≡ true = subst (λ t. (set_of p).begun t ≡ true) (sym same) e in
    one_taken p ps told u b (v ++ rest) (begun_front (set_of p) (honest p) (u ++ b ∷ []) v f)
    ∙ ap later (run_word p ps told v (u ++ b ∷ []) rest f)
    ∙ later_one (length v) (read_from (state (p ∷ ps) told ((u ++ b ∷ []) ++ v)) rest)
    ∙ ap (λ t. later_by (suc (length v)) (read_from (state (p ∷ ps) told t) rest)) same

-- no byte of a spelling, which isn't whole
not_whole : (p : Part) (ps : List Part) (told : Told) (u : List ℕ) (b : ℕ) (bs : List ℕ) → (set_of p).begun (u ++ b ∷ []) ≡ false → (set_of p).whole u ≡ false
    → read_from (state (p ∷ ps) told u) (b ∷ bs) ≡ Err 0
unfolding run
not_whole p ps told u b bs e f = rw (e, f) refl

-- nothing may come
pub run_over : (told : Told) (u : List ℕ) (bytes : List ℕ) → 0 < length bytes → read_from (state [] told u) bytes ≡ Err 0
unfolding run
run_over told u [] some = absurd (omega (arith, some))
run_over told u (b ∷ bs) some = refl

-- the first byte of what comes next, at the parts of a place
enters : (qs : List Part) (told : Told) (b : ℕ) (t : Bool) → parts_begun grammar qs told (b ∷ []) ≡ t
    → enter (script grammar) (takes grammar) (record { parts = qs; told = told }) b ≡ step (script grammar) (takes grammar) (state qs told []) b
enters qs told b true e = rw e refl
enters qs told b false e = let f = reads_well.some (record { parts = qs; told = told }) in rw (e, f) refl

-- a byte after a whole spelling
pub next_byte : (p : Part) (ps : List Part) (told : Told) (u : List ℕ) (b : ℕ) (bs : List ℕ) → (set_of p).begun (u ++ b ∷ []) ≡ false → (set_of p).whole u ≡ true
    → read_from (state (p ∷ ps) told u) (b ∷ bs) ≡ read_from (state (after p u ++ ps) (note p u told) []) (b ∷ bs)
unfolding run
next_byte p ps told u b bs e f = rw (e, f, enters (after p u ++ ps) (note p u told) b _ refl) refl

-- ---- of bytes, of which the first n are taken

module _ (p : Part) (ps : List Part) (told : Told) (u bytes : List ℕ) (n : ℕ) (within : n ≤ length bytes) (begun : (set_of p).begun (u ++ take n bytes) ≡ true) where
  size : length (take n bytes) ≡ n
  size = omega (arith, length-take n bytes, within)

  taken_part : read_from (state (p ∷ ps) told u) bytes ≡ later_by n (read_from (state (p ∷ ps) told (u ++ take n bytes)) (drop n bytes))
  taken_part =
      ap (read_from (state (p ∷ ps) told u)) (sym (take-append-drop n bytes))
      ∙ run_word p ps told (take n bytes) u (drop n bytes) begun
      ∙ ap (λ k. later_by k (read_from (state (p ∷ ps) told (u ++ take n bytes)) (drop n bytes))) size

  pub all_taken : length bytes ≤ n → read_from (state (p ∷ ps) told u) bytes ≡ Ok (state (p ∷ ps) told (u ++ bytes))
  unfolding run
  all_taken all =
      let whole : take n bytes ≡ bytes = take_all n bytes all in
      ap (read_from (state (p ∷ ps) told u)) (sym (append-nil bytes))
      ∙ run_word p ps told bytes u [] (subst (λ t. (set_of p).begun (u ++ t) ≡ true) whole begun)

  refused_at : n < length bytes → (set_of p).begun (u ++ take (n + 1) bytes) ≡ false → (set_of p).begun ((u ++ take n bytes) ++ get_or bytes n 0 ∷ []) ≡ false
  refused_at h last =
      let e : n + 1 ≡ suc n = omega arith in
      let f : u ++ take (n + 1) bytes ≡ (u ++ take n bytes) ++ get_or bytes n 0 ∷ [] =
      ap (λ k. u ++ take k bytes) e ∙ ap (λ t. u ++ t) (take-suc bytes n 0 h) ∙ sym (append_assoc u (take n bytes) (get_or bytes n 0 ∷ [])) in
      subst (λ t. (set_of p).begun t ≡ false) f last

  pub then_stops : n < length bytes → (set_of p).begun (u ++ take (n + 1) bytes) ≡ false → (set_of p).whole (u ++ take n bytes) ≡ false → read_from (state (p ∷ ps) told u) bytes ≡ Err n
  then_stops h last isnt =
      taken_part
      ∙ ap (λ t. later_by n (read_from (state (p ∷ ps) told (u ++ take n bytes)) t)) (drop-cons bytes n 0 h)
      ∙ ap (later_by n) (not_whole p ps told (u ++ take n bytes) (get_or bytes n 0) (drop (suc n) bytes) (refused_at h last) isnt)
      ∙ ap (λ (k : ℕ). Err k) (omega arith)

  pub then_next : n < length bytes → (set_of p).begun (u ++ take (n + 1) bytes) ≡ false → (set_of p).whole (u ++ take n bytes) ≡ true
      → read_from (state (p ∷ ps) told u) bytes ≡ later_by n (read_from (state (after p (u ++ take n bytes) ++ ps) (note p (u ++ take n bytes) told) []) (drop n bytes))
  then_next h last whole =
      taken_part
      ∙ ap (λ t. later_by n (read_from (state (p ∷ ps) told (u ++ take n bytes)) t)) (drop-cons bytes n 0 h)
      ∙ ap (later_by n) (next_byte p ps told (u ++ take n bytes) (get_or bytes n 0) (drop (suc n) bytes) (refused_at h last) whole)
      ∙ ap (λ t. later_by n (read_from (state (after p (u ++ take n bytes) ++ ps) (note p (u ++ take n bytes) told) []) t)) (sym (drop-cons bytes n 0 h))

-- ---- where some bytes u were taken before, and n of both are

-- what is begun is taken whole
pub taken_past : (p : Part) (u bytes : List ℕ) (n : ℕ) → (set_of p).begun u ≡ true → Taken (set_of p) (u ++ bytes) n → length u ≤ n
taken_past p u bytes n begun t = go (leb_tells (length u) n)
  where
    go : ((leb (length u) n ≡ true) × (length u ≤ n)) ⊎ ((leb (length u) n ≡ false) × (n < length u)) → length u ≤ n
    go (inl h) = h.1
    go (inr h) = absurd (
        let e : take (n + 1) (u ++ bytes) ≡ take (n + 1) u = take-append-le (n + 1) u bytes (omega (arith, h.1)) in
        let f : (set_of p).begun (take (n + 1) u) ≡ true = begun_front (set_of p) (honest p) (take (n + 1) u) (drop (n + 1) u) (subst (λ v. (set_of p).begun v ≡ true) (sym (take-append-drop (n + 1) u)) begun) in
        let g : (set_of p).begun (take (n + 1) u) ≡ false = subst (λ v. (set_of p).begun v ≡ false) e (t.last (omega (arith, h.1, length-append u bytes))) in
        let clash : true ≡ false = sym f ∙ g in
        cc
        )

-- as many more as aren't of those
pub past : (u bytes : List ℕ) (n k : ℕ) → k ≡ n + length u → take k (u ++ bytes) ≡ u ++ take n bytes
past u bytes n k e = let f : k ≡ length u + n = omega (arith, e) in ap (λ j. take j (u ++ bytes)) f ∙ take-append-add u bytes n
