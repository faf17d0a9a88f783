-- The lines of a scheduler's shared variables, one after the other.
use Rattle.std.proofs.Common.{◌≡◌, ℕ, ◌+◌, ◌<◌, ◌≤◌, Bool, List, [], ◌∷◌, ◌++◌, length, drop, get_or, refl, sym, ap, ◌∙◌, if◌then◌else◌, codes, arith, ℤ, FitsSigned, w64, to_z, of_z, eq-eqb}
use Rattle.std.specs.Fmt.{signed_decimal}
use Rattle.std.proofs.lemmas.Bool.{ne_eqb}
use Rattle.std.proofs.lemmas.Int.{to_z-of_z}
use Rattle.std.proofs.lemmas.List.{drop_all}
use Rattle.std.proofs.lemmas.Option.{slice_get_read}
use Rattle.loft_base.specs.declared.ids.SchedId.{SchedId}
use Rattle.loft_base.specs.declared.ids.SharedId.{SharedId}
use Rattle.loft_tree.specs.declared.heads.SharedHead.{SharedHead}
use Rattle.loft_tree.specs.declared.heads.Heads.{Heads}
use Rattle.loft_sense.specs.Heads.{shared_from}
use Rattle.loft_orders.specs.Text.{space, name_or_none}
use Rattle.loft_orders.specs.Lines.{text_of}
use Rattle.loft_history.specs.Report.{shared_lines}
use Rattle.loft_value_text.specs.Appending.{Appends}
use Rattle.loft_instant_text.proofs.Appended.{Still}
use Rattle.loft_instant_text.proofs.Lists.{drop-at}

-- what was appended so far, with what is left, is all: one part more
pub still_more : {W K : Type 0} (is_whole : W → Bool) (kept : W → K) (extended : K → List ℕ → K) → ((k : K) (a b : List ℕ) → extended k (a ++ b) ≡ extended (extended k a) b)
    → (old now new : W) (left piece rest all : List ℕ) → left ≡ piece ++ rest → Still is_whole kept extended old now left all → Appends is_whole kept extended now new piece
    → Still is_whole kept extended old new rest all
still_more is_whole kept extended together old now new left piece rest all split still appends = λ whole.
    let here = appends whole in
    let before = still here.0 in
    (before.0, ap (λ k. extended k rest) here.1 ∙ sym (together (kept now) piece rest) ∙ ap (extended (kept now)) (sym split) ∙ before.1)

-- nothing is appended
pub still_same : {W K : Type 0} (is_whole : W → Bool) (kept : W → K) (extended : K → List ℕ → K) → (old now : W) (left rest all : List ℕ) → left ≡ rest
    → Still is_whole kept extended old now left all → Still is_whole kept extended old now rest all
still_same is_whole kept extended old now left rest all same still = λ whole. let before = still whole in (before.0, ap (extended (kept now)) (sym same) ∙ before.1)

-- the lines of these values, for the scheduler's variables from number k on
abbrev pub shared_after : Heads → SchedId → ℕ → List ℤ → List (List ℕ)
shared_after h s k values = shared_lines h (shared_from k s (drop k h.shared)) values

abbrev pub value_text : List ℕ → ℤ → List ℕ
value_text name v = codes "shared " ++ (name ++ (space ++ signed_decimal v))

-- another scheduler's variable has no line
pub shared-skipped : (h : Heads) (s : SchedId) (k : ℕ) (x : SharedHead) (values : List ℤ) → k < length h.shared → x ≡ get_or h.shared k x → (s.0 ≡ x.scheduler.0 → ⊥)
    → text_of (shared_after h s k values) ≡ text_of (shared_after h s (k + 1) values)
shared-skipped h s k x values below is elsewhere =
    ap (λ xs. text_of (shared_lines h (shared_from k s xs) values)) (drop-at h.shared k x below is)
    ∙ ap (λ b. text_of (shared_lines h (if b then record { 0 = k } ∷ shared_from (k + 1) s (drop (k + 1) h.shared) else shared_from (k + 1) s (drop (k + 1) h.shared)) values)) (ne_eqb s.0 x.scheduler.0 elsewhere)

-- the scheduler's variable at this index has the first value that is left
pub shared-written : (h : Heads) (s : SchedId) (k : ℕ) (x : SharedHead) (v : ℤ) (left rest : List ℤ) → k < length h.shared → x ≡ get_or h.shared k x → s.0 ≡ x.scheduler.0 → left ≡ v ∷ rest
    → text_of (shared_after h s k left) ≡ (value_text x.name v ++ 10 ∷ []) ++ text_of (shared_after h s (k + 1) rest)
shared-written h s k x v left rest below is here first =
    ap (λ values. text_of (shared_after h s k values)) first
    ∙ ap (λ xs. text_of (shared_lines h (shared_from k s xs) (v ∷ rest))) (drop-at h.shared k x below is)
    ∙ ap (λ b. text_of (shared_lines h (if b then record { 0 = k } ∷ shared_from (k + 1) s (drop (k + 1) h.shared) else shared_from (k + 1) s (drop (k + 1) h.shared)) (v ∷ rest))) (eq-eqb s.0 x.scheduler.0 here)
    ∙ ap (λ o. (value_text (name_or_none (λ (d : SharedHead). d.name) o) v ++ 10 ∷ []) ++ text_of (shared_after h s (k + 1) rest)) (slice_get_read h.shared (length h.shared) k x refl below is)

no-values : (h : Heads) (xs : List SharedId) → shared_lines h xs [] ≡ []
no-values h [] = refl
no-values h (x ∷ xs) = refl

no-value : (h : Heads) (xs : List SharedId) (values : List ℤ) → length values ≡ 0 → shared_lines h xs values ≡ []
no-value h xs [] none = no-values h xs
no-value h xs (v ∷ values) none = absurd (omega (arith, none))

-- without a further value nothing is left
pub shared-spent : (h : Heads) (s : SchedId) (k : ℕ) (values : List ℤ) → length values ≡ 0 → text_of (shared_after h s k values) ≡ []
shared-spent h s k values none = ap text_of (no-value h (shared_from k s (drop k h.shared)) values none)

-- after the last variable nothing is left
pub shared-end : (h : Heads) (s : SchedId) (k : ℕ) (values : List ℤ) → length h.shared ≤ k → text_of (shared_after h s k values) ≡ []
shared-end h s k values past = ap (λ xs. text_of (shared_lines h (shared_from k s xs) values)) (drop_all k h.shared past)

-- a line is that of a value, where its name is read from a list and its number from its bits
pub value_read : (v : ℤ) → FitsSigned w64 v → (read name : List ℕ) → read ≡ name → value_text read (to_z w64 (of_z w64 v)) ≡ value_text name v
value_read v fits read name same = ap (λ n. value_text n (to_z w64 (of_z w64 v))) same ∙ ap (value_text name) (to_z-of_z w64 v fits)
