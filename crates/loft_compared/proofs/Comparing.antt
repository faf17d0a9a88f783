-- A comparison byte by byte.
use Rattle.std.proofs.Common.{◌≡◌, ℕ, suc, ◌+◌, ◌-◌, ◌<◌, ◌≤◌, ◌==◌, Bool, true, false, List, [], ◌∷◌, ◌++◌, length, get_or, inl, inr, refl, sym, ap, subst, ◌∙◌, arith}
use Rattle.std.specs.Prelude.{take, drop, None, Some}
use Rattle.std.proofs.lemmas.Bool.{eqb-true}
use Rattle.std.proofs.lemmas.List.{append-nil, append_assoc, take-append-drop, length-drop}
use Rattle.std.proofs.Math.Seq.{drop-cons, take-add, take-length}
use Rattle.loft_report_shape.specs.Grammar.{head_is}
use Rattle.loft_replay_error.specs.Difference.{IsDifference}
use Rattle.loft_compared.specs.Comparisons.{Compared, compared, is_stop, IsComparison, WasPut, IsOneMore, Follows}
use Rattle.loft_compared.specs.declared.found.Found.{Found}
use Rattle.loft_compared.specs.declared.found.Found.TheVariants as found
use Rattle.loft_compared.proofs.Differences.{ends_at, differs_at}

-- ---- one byte

-- the next byte of the text is this one
record Nears (text : List ℕ) (k b : ℕ) (more : List ℕ) : Type 0 where
  within : k + 1 ≤ length text
  left : more ≡ drop (k + 1) text
  taken : take (k + 1) text ≡ take k text ++ b ∷ []

nears : (text : List ℕ) (k b : ℕ) (more : List ℕ) → drop k text ≡ b ∷ more → Nears text k b more
nears text k b more left =
    let size : length (drop k text) ≡ suc (length more) = ap length left in
    let cut : length (drop k text) ≡ length text - k = length-drop k text in
    let there : k < length text = omega (arith, size, cut) in
    record {
      within = omega (arith, there);
      left = sym (drop_more k text b more there left);
      taken = take-add k 1 text ∙ ap (λ (l : List ℕ). take k text ++ take 1 l) left;
    }
  where
    drop_more : (n : ℕ) (l : List ℕ) (c : ℕ) (cs : List ℕ) → n < length l → drop n l ≡ c ∷ cs → drop (n + 1) l ≡ cs
    drop_more n l c cs within e =
        let f : get_or l n c ∷ drop (suc n) l ≡ c ∷ cs = sym (drop-cons l n c within) ∙ e in
        let one : n + 1 ≡ suc n = omega arith in
        ap (λ (m : ℕ). drop m l) one ∙ (let g = f in cc)

pub still_equal : (text : List ℕ) (k b : ℕ) (left more : List ℕ) → IsComparison text k left found.Equal → left ≡ b ∷ more
    → IsComparison text (k + 1) more found.Equal × (take (k + 1) text ++ [] ≡ (take k text ++ []) ++ b ∷ [])
still_equal text k b left more is next =
    let n = nears text k b more (sym is.after ∙ next) in (
      record { within = n.within; after = n.left },
      append-nil (take (k + 1) text) ∙ (n.taken ∙ ap (λ (l : List ℕ). l ++ b ∷ []) (sym (append-nil (take k text)))),
    )

not_head : (b own : ℕ) (more : List ℕ) → (own ≡ b → ⊥) → head_is b (own ∷ more) ≡ false
not_head b own more other = by (own == b) refl
  where
    by : (t : Bool) → (own == b) ≡ t → (own == b) ≡ false
    by false e = e
    by true e = absurd (other (eqb-true own b e))

pub other_found : (text : List ℕ) (k b own : ℕ) (left more after : List ℕ) → IsComparison text k left found.Equal → left ≡ own ∷ more → (own ≡ b → ⊥) → IsComparison text k after (found.Other b)
other_found text k b own left more after is next other = record { within = is.within; after = subst (λ (l : List ℕ). head_is b l ≡ false) (sym (sym is.after ∙ next)) (not_head b own more other) }

pub end_found : (text : List ℕ) (k b : ℕ) (left after : List ℕ) → IsComparison text k left found.Equal → left ≡ [] → IsComparison text k after (found.Other b)
end_found text k b left after is next = record { within = is.within; after = subst (λ (l : List ℕ). head_is b l ≡ false) (sym (sym is.after ∙ next)) refl }

-- a comparison that hasn't stopped has found nothing
pub nothing_found : (f : Found) → is_stop f ≡ false → f ≡ found.Equal
nothing_found found.Equal on = refl
nothing_found (found.Other b) on = absurd (let e : true ≡ false = on in cc)
nothing_found found.NoMemory on = absurd (let e : true ≡ false = on in cc)

-- the byte is that of the text
pub goes_on : (text : List ℕ) (k b : ℕ) (left more : List ℕ) (f : Found) → is_stop f ≡ false → IsComparison text k left f → left ≡ b ∷ more
    → IsComparison text (k + 1) more f × IsOneMore (compared text k f).written b (compared text (k + 1) f)
goes_on text k b left more f on is next =
    let e : f ≡ found.Equal = nothing_found f on in
    let s = still_equal text k b left more (subst (IsComparison text k left) e is) next in (
      subst (IsComparison text (k + 1) more) (sym e) s.0,
      subst (λ g. IsOneMore (compared text k g).written b (compared text (k + 1) g)) (sym e) (inl s.1),
    )

-- it is another one, or the text has ended
pub finds : (text : List ℕ) (k b own : ℕ) (left more after : List ℕ) (f : Found) → is_stop f ≡ false → IsComparison text k left f → left ≡ own ∷ more → (own ≡ b → ⊥)
    → IsComparison text k after (found.Other b) × IsOneMore (compared text k f).written b (compared text k (found.Other b))
finds text k b own left more after f on is next other =
    let e : f ≡ found.Equal = nothing_found f on in (
      other_found text k b own left more after (subst (IsComparison text k left) e is) next other,
      subst (λ g. IsOneMore (compared text k g).written b (compared text k (found.Other b))) (sym e) (inl (ap (λ (l : List ℕ). l ++ b ∷ []) (sym (append-nil (take k text))))),
    )

pub finds_end : (text : List ℕ) (k b : ℕ) (left after : List ℕ) (f : Found) → is_stop f ≡ false → IsComparison text k left f → left ≡ []
    → IsComparison text k after (found.Other b) × IsOneMore (compared text k f).written b (compared text k (found.Other b))
finds_end text k b left after f on is next =
    let e : f ≡ found.Equal = nothing_found f on in (
      end_found text k b left after (subst (IsComparison text k left) e is) next,
      subst (λ g. IsOneMore (compared text k g).written b (compared text k (found.Other b))) (sym e) (inl (ap (λ (l : List ℕ). l ++ b ∷ []) (sym (append-nil (take k text))))),
    )

-- ---- all bytes

-- so many of these bytes were gone over
pub record Puts (before bytes : List ℕ) (i : ℕ) (c : Compared) : Type 0 where
  pub count : ℕ
  pub written : c.written ≡ before ++ take count bytes
  pub all : c.stopped ≡ false → c.written ≡ before ++ take i bytes

pub nothing_put : (before bytes : List ℕ) (c : Compared) → c.written ≡ before → Puts before bytes 0 c
nothing_put before bytes c same = record { count = 0; written = same ∙ sym (append-nil before); all = λ _. same ∙ sym (append-nil before) }

pub all_put : (before bytes : List ℕ) (c : Compared) → Puts before bytes (length bytes) c → Follows before bytes c
all_put before bytes c p = record { count = p.count; written = p.written; all = λ on. p.all on ∙ ap (λ (l : List ℕ). before ++ l) (take-length bytes) }

pub stopped_put : (before bytes : List ℕ) (i : ℕ) (c : Compared) → c.stopped ≡ true → Puts before bytes i c → Follows before bytes c
stopped_put before bytes i c stopped p = record { count = p.count; written = p.written; all = λ on. absurd (let e : true ≡ false = sym stopped ∙ on in cc) }

pub one_more_put : (before bytes : List ℕ) (i b : ℕ) (c d : Compared) → c.stopped ≡ false → Puts before bytes i c → take (i + 1) bytes ≡ take i bytes ++ b ∷ [] → IsOneMore c.written b d → Puts before bytes (i + 1) d
one_more_put before bytes i b c d on p more (inl grows) =
    let w : d.written ≡ before ++ take (i + 1) bytes = grows ∙ ap (λ (l : List ℕ). l ++ b ∷ []) (p.all on) ∙ append_assoc before (take i bytes) (b ∷ []) ∙ ap (λ (l : List ℕ). before ++ l) (sym more) in
    record { count = i + 1; written = w; all = λ _. w }
one_more_put before bytes i b c d on p more (inr (stopped, same)) = record { count = i; written = same ∙ p.all on; all = λ goes. absurd (let e : true ≡ false = sym stopped ∙ goes in cc) }

-- ---- the end

pub none_differs : (text t : List ℕ) (k : ℕ) (left : List ℕ) → IsComparison text k left found.Equal → left ≡ [] → WasPut t (compared text k found.Equal) → IsDifference text t None
none_differs text t k left is over (inl same) = sym (take-append-drop k text) ∙ ap (λ (l : List ℕ). take k text ++ l) (sym is.after ∙ over) ∙ same
none_differs text t k left is over (inr (stopped, n, same)) = absurd (let e : false ≡ true = stopped in cc)

pub ends_early : (text t : List ℕ) (k b : ℕ) (left more : List ℕ) → IsComparison text k left found.Equal → left ≡ b ∷ more → WasPut t (compared text k found.Equal) → IsDifference text t (Some k)
ends_early text t k b left more is next (inl same) = ends_at text t k b more is.within (sym is.after ∙ next) (sym (append-nil (take k text)) ∙ same)
ends_early text t k b left more is next (inr (stopped, n, same)) = absurd (let e : false ≡ true = stopped in cc)

pub differs : (text t : List ℕ) (k b : ℕ) (left : List ℕ) → IsComparison text k left (found.Other b) → WasPut t (compared text k (found.Other b)) → IsDifference text t (Some k)
differs text t k b left is (inl same) = differs_at text t k b [] is.within is.after (sym same)
differs text t k b left is (inr (stopped, n, same)) =
    differs_at text t k b (drop n t) is.within is.after
    (sym (take-append-drop n t) ∙ ap (λ (l : List ℕ). l ++ drop n t) (sym same) ∙ append_assoc (take k text) (b ∷ []) (drop n t))
