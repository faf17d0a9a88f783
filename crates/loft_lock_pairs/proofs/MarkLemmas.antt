-- Marks whose offsets rise: half of them tell what a `run` stands for.
use Rattle.std.proofs.Common.{◌≡◌, ℕ, suc, ◌-◌, ◌<◌, ◌≤◌, ◌==◌, List, [], ◌∷◌, ◌++◌, length, get_or, take, drop, Option, Some, None, refl, ap, arith, subst, sym, ◌∙◌}
use Rattle.std.specs.Prelude.{if◌then◌else◌}
use Rattle.std.proofs.lemmas.Bool.{eq-eqb, ne_eqb}
use Rattle.std.proofs.lemmas.List.{map-append}
use Rattle.loft_lock_forms.specs.Marks.{Use, Mark, use_at, AreRising}
use Rattle.loft_lock_forms.specs.Seen.{use_seen, mark_seen, marks_seen}
use Rattle.loft_lock_forms.specs.declared.writing.Mark.{Mark as MarkInMemory}

-- ---- looking for one

pub lower : (ms : List Mark) (a b : ℕ) → a ≤ b → AreRising b ms → AreRising a ms
lower [] a b le r = tt
lower (m ∷ ms) a b le r = (omega (arith, le, r.0), r.1)

none_at : (ms : List Mark) (from k : ℕ) → AreRising from ms → k < from → use_at ms k ≡ None
none_at [] from k r less = refl
none_at (m ∷ ms) from k r less = rw (ne_eqb m.at k (λ e. omega (arith, less, r.0, e))) (none_at ms (suc m.at) k r.1 (omega (arith, less, r.0)))

pub front_rises : (xs ys : List Mark) (from : ℕ) → AreRising from (xs ++ ys) → AreRising from xs
front_rises [] ys from r = tt
front_rises (x ∷ xs) ys from r = (r.0, front_rises xs ys (suc x.at) r.1)

back_rises : (xs ys : List Mark) (from : ℕ) → AreRising from (xs ++ ys) → AreRising from ys
back_rises [] ys from r = r
back_rises (x ∷ xs) ys from r = lower ys from (suc x.at) (omega (arith, r.0)) (back_rises xs ys (suc x.at) r.1)

pub rest_rises : (xs ys : List Mark) (m : Mark) → AreRising 0 (xs ++ m ∷ ys) → AreRising 0 ys
rest_rises xs ys m r = lower ys 0 (suc m.at) (omega arith) (back_rises xs (m ∷ ys) 0 r).1

front_only : (xs ys : List Mark) (k : ℕ) → use_at ys k ≡ None → use_at (xs ++ ys) k ≡ use_at xs k
front_only [] ys k none = none
front_only (x ∷ xs) ys k none = ap (λ (o : Option Use). if x.at == k then Some x.used else o) (front_only xs ys k none)

here : (m : Mark) (ms : List Mark) (k : ℕ) → m.at ≡ k → use_at (m ∷ ms) k ≡ Some m.used
here m ms k e = rw (eq-eqb m.at k e) refl

past : (m : Mark) (ms : List Mark) (k : ℕ) → (m.at ≡ k → ⊥) → use_at (m ∷ ms) k ≡ use_at ms k
past m ms k other = rw (ne_eqb m.at k other) refl

take_whole : {X : Type 0} (xs : List X) → take (length xs) xs ≡ xs
take_whole [] = refl
take_whole (x ∷ xs) = ap (λ l. x ∷ l) (take_whole xs)

one_less : (n : ℕ) → suc n - 1 ≡ n
one_less n = omega arith

tail_is : {X : Type 0} (x : X) (xs : List X) → take (length (x ∷ xs) - 1) (drop 1 (x ∷ xs)) ≡ xs
tail_is x xs = ap (λ (n : ℕ). take n xs) (one_less (length xs)) ∙ take_whole xs

pub tail_shorter : {X : Type 0} (xs : List X) → 1 ≤ length xs → length (take (length xs - 1) (drop 1 xs)) < length xs
tail_shorter [] some = absurd (omega (arith, some))
tail_shorter (x ∷ xs) some = let same = ap (λ l. length l) (tail_is x xs) in omega (arith, same)

-- it is before the one in the middle
pub in_front : (xs ys : List Mark) (m : Mark) (k : ℕ) → AreRising 0 (xs ++ m ∷ ys) → k < m.at → use_at (xs ++ m ∷ ys) k ≡ use_at xs k
in_front xs ys m k r less =
    let back = back_rises xs (m ∷ ys) 0 r in
    front_only xs (m ∷ ys) k (none_at (m ∷ ys) m.at k (omega arith, back.1) less)

-- it isn't
pub not_in_front : (xs ys : List Mark) (m : Mark) (from k : ℕ) → AreRising from (xs ++ m ∷ ys) → m.at ≤ k → use_at (xs ++ m ∷ ys) k ≡ use_at (m ∷ ys) k
not_in_front [] ys m from k r le = refl
not_in_front (x ∷ xs) ys m from k r le =
    let back = back_rises xs (m ∷ ys) (suc x.at) r.1 in
    rw (ne_eqb x.at k (λ e. omega (arith, back.0, le, e))) (not_in_front xs ys m (suc x.at) k r.1 le)

-- ---- in memory

module _ (all front : List MarkInMemory) where
  tell_parts : (rest : List MarkInMemory) → all ≡ front ++ rest → marks_seen all ≡ marks_seen front ++ marks_seen rest
  tell_parts rest is = ap (λ (ms : List MarkInMemory). marks_seen ms) is ∙ map-append mark_seen front rest

  parts_rise : (rest : List MarkInMemory) → all ≡ front ++ rest → AreRising 0 (marks_seen all) → AreRising 0 (marks_seen front ++ marks_seen rest)
  parts_rise rest is r = subst (λ (ms : List Mark). AreRising 0 ms) (tell_parts rest is) r

  pub rising_front : (rest : List MarkInMemory) → all ≡ front ++ rest → AreRising 0 (marks_seen all) → AreRising 0 (marks_seen front)
  rising_front rest is r = front_rises (marks_seen front) (marks_seen rest) 0 (parts_rise rest is r)

  -- the middle one is that of the name
  pub told_middle : (rest : List MarkInMemory) (d : MarkInMemory) (k : ℕ) → all ≡ front ++ rest → 1 ≤ length rest → AreRising 0 (marks_seen all)
      → (get_or rest 0 d).at ≡ k → Some (use_seen (get_or rest 0 d).used) ≡ use_at (marks_seen all) k
  told_middle [] d k is some r e = absurd (omega (arith, some))
  told_middle (m ∷ back) d k is some r e =
      sym (ap (λ (ms : List Mark). use_at ms k) (tell_parts (m ∷ back) is)
      ∙ (not_in_front (marks_seen front) (marks_seen back) (mark_seen m) 0 k (parts_rise (m ∷ back) is r) (omega (arith, e))
      ∙ here (mark_seen m) (marks_seen back) k e))

  -- it is before that
  pub told_before : (rest : List MarkInMemory) (d : MarkInMemory) (k : ℕ) → all ≡ front ++ rest → 1 ≤ length rest → AreRising 0 (marks_seen all)
      → k < (get_or rest 0 d).at → use_at (marks_seen front) k ≡ use_at (marks_seen all) k
  told_before [] d k is some r less = absurd (omega (arith, some))
  told_before (m ∷ back) d k is some r less =
      sym (ap (λ (ms : List Mark). use_at ms k) (tell_parts (m ∷ back) is) ∙ in_front (marks_seen front) (marks_seen back) (mark_seen m) k (parts_rise (m ∷ back) is r) less)

  -- it is behind that
  pub told_behind : (rest : List MarkInMemory) (d : MarkInMemory) (k : ℕ) → all ≡ front ++ rest → 1 ≤ length rest → AreRising 0 (marks_seen all)
      → ((get_or rest 0 d).at ≡ k → ⊥) → (get_or rest 0 d).at ≤ k → use_at (marks_seen (take (length rest - 1) (drop 1 rest))) k ≡ use_at (marks_seen all) k
  told_behind [] d k is some r other le = absurd (omega (arith, some))
  told_behind (m ∷ back) d k is some r other le =
      sym (ap (λ (ms : List Mark). use_at ms k) (tell_parts (m ∷ back) is)
      ∙ (not_in_front (marks_seen front) (marks_seen back) (mark_seen m) 0 k (parts_rise (m ∷ back) is r) le
      ∙ (past (mark_seen m) (marks_seen back) k other ∙ ap (λ (ms : List MarkInMemory). use_at (marks_seen ms) k) (sym (tail_is m back)))))

  pub rising_behind : (rest : List MarkInMemory) → all ≡ front ++ rest → 1 ≤ length rest → AreRising 0 (marks_seen all) → AreRising 0 (marks_seen (take (length rest - 1) (drop 1 rest)))
  rising_behind [] is some r = absurd (omega (arith, some))
  rising_behind (m ∷ back) is some r =
      subst (λ (ms : List MarkInMemory). AreRising 0 (marks_seen ms)) (sym (tail_is m back)) (rest_rises (marks_seen front) (marks_seen back) (mark_seen m) (parts_rise (m ∷ back) is r))
