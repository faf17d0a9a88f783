-- What the code reads of a spelling is what is read byte by byte.
use Rattle.std.proofs.Common.{◌≡◌, ℕ, zero, suc, ◌+◌, ◌-◌, ◌<◌, ◌≤◌, true, false, List, [], ◌∷◌, ◌++◌, length, take, drop, Result, Ok, Err, inl, inr, refl, sym, ap, subst, ◌∙◌, length-append, arith}
use Rattle.std.proofs.lemmas.List.{drop-drop, drop_all}
use Rattle.loft_spelling.specs.Parts.{parts_begun}
use Rattle.loft_spelling.specs.Reading.{run}
use Rattle.loft_report_shape.specs.Sets.{set_of}
use Rattle.loft_report_shape.specs.Grammar.{after}
use Rattle.loft_report_shape.specs.Told.{Told, note}
use Rattle.loft_report_shape.specs.Report.{grammar}
use Rattle.loft_report_shape.proofs.HonestSets.{honest}
use Rattle.loft_report_shape.specs.declared.part.Part.{Part}
use Rattle.loft_report_sets.specs.Taken.{Taken}
use Rattle.loft_report_reader.specs.Machine.{Machine_state, IsBegun, read_from, later_by}
use Rattle.loft_report_reader.proofs.Spelling.{state, all_taken, then_stops, then_next, taken_past, past, run_over}

-- nothing may come
pub over : (ps : List Part) (told : Told) (w bytes : List ℕ) → ps ≡ [] → 0 < length bytes → read_from (state ps told w) bytes ≡ Err 0
over ps told w bytes e some = rw e (run_over told w bytes some)

module _ (parts : List Part) (p : Part) (ps : List Part) (is : parts ≡ p ∷ ps) (told : Told) where
  -- ---- nothing was taken of the spelling before

  module _ (w bytes : List ℕ) (none : w ≡ []) (n : ℕ) (t : Taken (set_of p) bytes n) where
    pub new_open : (qs : List Part) (v : List ℕ) → qs ≡ p ∷ ps → v ≡ w ++ bytes → n ≡ length bytes → read_from (state parts told w) bytes ≡ Ok (state qs told v)
    new_open qs v same more all = rw (is, same, more, none) (all_taken p ps told [] bytes n t.within t.begun (omega (arith, all)))

    pub new_stops : (n ≡ length bytes → ⊥) → (set_of p).whole (take n bytes) ≡ false → read_from (state parts told w) bytes ≡ Err n
    new_stops some isnt = let h : n < length bytes = omega (arith, some, t.within) in rw (is, none) (then_stops p ps told [] bytes n t.within t.begun h (t.last h) isnt)

    pub new_next : (qs : List Part) (next : Told) (v : List ℕ) → (n ≡ length bytes → ⊥) → (set_of p).whole (take n bytes) ≡ true → qs ≡ after p (take n bytes) ++ ps → next ≡ note p (take n bytes) told → v ≡ []
        → read_from (state parts told w) bytes ≡ later_by n (read_from (state qs next v) (drop n bytes))
    new_next qs next v some whole f g empty = let h : n < length bytes = omega (arith, some, t.within) in rw (is, none, f, g, empty) (then_next p ps told [] bytes n t.within t.begun h (t.last h) whole)

  -- ---- some bytes were taken of it

  begun_word : (w : List ℕ) → IsBegun (state parts told w) → (set_of p).begun w ≡ true
  begun_word w (inl e) = rw e (honest p).live
  begun_word w (inr e) = subst (λ qs. parts_begun grammar qs told w ≡ true) is e

  module _ (w bytes both : List ℕ) (are : both ≡ w ++ bytes) (n : ℕ) (t : Taken (set_of p) both n) (begun : IsBegun (state parts told w)) (more : ℕ) (is_more : more ≡ n - length w) where
    of_both : Taken (set_of p) (w ++ bytes) n
    of_both = subst (λ v. Taken (set_of p) v n) are t

    sum : n ≡ more + length w
    sum = omega (arith, is_more, taken_past p w bytes n (begun_word w begun) of_both)

    first : take n both ≡ w ++ take more bytes
    first = ap (take n) are ∙ past w bytes more n sum

    within : more ≤ length bytes
    within = omega (arith, sum, of_both.within, length-append w bytes)

    starts : (set_of p).begun (w ++ take more bytes) ≡ true
    starts = subst (λ v. (set_of p).begun v ≡ true) first t.begun

    inside : (n ≡ length both → ⊥) → more < length bytes
    inside some = omega (arith, some, ap length are, sum, of_both.within, length-append w bytes)

    refused : more < length bytes → (set_of p).begun (w ++ take (more + 1) bytes) ≡ false
    refused h = subst (λ v. (set_of p).begun v ≡ false) (past w bytes (more + 1) (n + 1) (omega (arith, sum))) (of_both.last (omega (arith, h, sum, length-append w bytes)))

    pub on_open : (qs : List Part) → qs ≡ p ∷ ps → n ≡ length both → read_from (state parts told w) bytes ≡ Ok (state qs told both)
    on_open qs same all =
        let h : length bytes ≤ more = omega (arith, all, ap length are, sum, length-append w bytes) in
        rw (is, same, are) (all_taken p ps told w bytes more within starts h)

    pub on_stops : (n ≡ length both → ⊥) → (set_of p).whole (take n both) ≡ false → read_from (state parts told w) bytes ≡ Err more
    on_stops some isnt =
        let h = inside some in
        rw is (then_stops p ps told w bytes more within starts h (refused h) (subst (λ v. (set_of p).whole v ≡ false) first isnt))

    pub on_next : (qs : List Part) (next : Told) (v : List ℕ) → (n ≡ length both → ⊥) → (set_of p).whole (take n both) ≡ true → qs ≡ after p (take n both) ++ ps → next ≡ note p (take n both) told → v ≡ []
        → read_from (state parts told w) bytes ≡ later_by more (read_from (state qs next v) (drop more bytes))
    on_next qs next v some whole f g empty =
        let h = inside some in
        let e = then_next p ps told w bytes more within starts h (refused h) (subst (λ x. (set_of p).whole x ≡ true) first whole) in
        rw (is, f, g, empty, first) e

-- a whole spelling has bytes
pub some_bytes : (p : Part) (bytes : List ℕ) (n : ℕ) → (set_of p).whole (take n bytes) ≡ true → 0 < n
some_bytes p bytes zero e = absurd (let f = sym (honest p).some ∙ e in cc)
some_bytes p bytes (suc n) e = omega arith

-- ---- one spelling after another

pub later_twice : {A : Type 0} (n m : ℕ) (r : Result A ℕ) → later_by n (later_by m r) ≡ later_by (n + m) r
later_twice n m (Ok x) = refl
later_twice n m (Err k) = ap (λ (j : ℕ). Err j) (omega arith)

pub later_nought : {A : Type 0} (r : Result A ℕ) → r ≡ later_by 0 r
later_nought (Ok x) = refl
later_nought (Err k) = ap (λ (j : ℕ). Err j) (omega arith)

-- a piece of which nothing was read yet
pub unread : (m : Machine_state) (piece : List ℕ) → read_from m piece ≡ later_by 0 (read_from m (drop 0 piece))
unread m piece = later_nought (read_from m piece)

module _ (old now : Machine_state) (piece : List ℕ) (at : ℕ) (so_far : read_from old piece ≡ later_by at (read_from now (drop at piece))) where
  pub then_whole : (new : Machine_state) (n : ℕ) → read_from now (drop at piece) ≡ later_by n (read_from new (drop n (drop at piece))) → read_from old piece ≡ later_by (at + n) (read_from new (drop (at + n) piece))
  then_whole new n e =
      so_far ∙ ap (later_by at) e ∙ later_twice at n (read_from new (drop n (drop at piece)))
      ∙ ap (λ bytes. later_by (at + n) (read_from new bytes)) (drop-drop n at piece)

  pub then_open : (new : Machine_state) → read_from now (drop at piece) ≡ Ok new → read_from old piece ≡ Ok new
  then_open new e = so_far ∙ ap (later_by at) e

  pub then_stop : (n : ℕ) → read_from now (drop at piece) ≡ Err n → read_from old piece ≡ Err (at + n)
  then_stop n e = so_far ∙ ap (later_by at) e

  pub at_end : length piece ≤ at → read_from old piece ≡ Ok now
  unfolding run
  at_end past = so_far ∙ ap (λ bytes. later_by at (read_from now bytes)) (drop_all at piece past)
