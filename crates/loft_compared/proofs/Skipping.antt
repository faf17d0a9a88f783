-- All bytes of a line at once.
use Rattle.std.proofs.Common.{◌≡◌, ℕ, ◌+◌, ◌-◌, ◌≤◌, true, false, List, [], ◌++◌, length, refl, sym, ap, subst, ◌∙◌, Bor, Option, arith}
use Rattle.std.specs.Prelude.{take, drop, None, Some, MatchOption, IfSome}
use Rattle.std.specs.Str.{bytes_eq}
use Rattle.std.proofs.lemmas.Slice.Eq.{bytes_eq-Decides}
use Rattle.std.proofs.lemmas.List.{append-nil, append_assoc, take-append-drop, drop_all, drop-drop, drop_at, length-append, length-drop}
use Rattle.std.proofs.Math.Seq.{take-add, take-append_seam}
use Rattle.loft_compared.specs.Comparisons.{Compared, compared, IsComparison, Follows}
use Rattle.loft_compared.specs.declared.found.Found.{Found}
use Rattle.loft_compared.specs.declared.found.Found.TheVariants as found
use Rattle.loft_compared.proofs.Comparing.{nothing_found}

same_bytes : (v w : List ℕ) → bytes_eq v w ≡ true → v ≡ w
same_bytes v w e = (bytes_eq-Decides v w).0 e

-- the text is these bytes, and what comes after them
pub stripped : (text bytes : List ℕ) (o : Option (Bor (List ℕ)))
    → MatchOption o (bytes_eq (take (length bytes) text) bytes ≡ false) (λ x. (bytes_eq (take (length bytes) text) bytes ≡ true) × (x.now ≡ drop (length bytes) text) × (length x.now + length bytes ≡ length text))
    → IfSome o (λ more. text ≡ bytes ++ more.now)
stripped text bytes None m = tt
stripped text bytes (Some x) m =
    sym (take-append-drop (length bytes) text)
    ∙ (ap (λ (l : List ℕ). l ++ drop (length bytes) text) (same_bytes (take (length bytes) text) bytes m.0)
    ∙ ap (λ (l : List ℕ). bytes ++ l) (sym m.1))

-- where nothing of the line is left, the kept bytes are gone over
pub skipped : (at : ℕ) (line kept bytes more text : List ℕ) → length line ≤ at → kept ≡ bytes ++ more → (drop at line ++ kept) ++ text ≡ bytes ++ ((drop at line ++ more) ++ text)
skipped at line kept bytes more text over goes =
    let none : drop at line ≡ [] = drop_all at line over in
    ap (λ (l : List ℕ). (l ++ kept) ++ text) none
    ∙ (ap (λ (l : List ℕ). l ++ text) goes
    ∙ (append_assoc bytes more text
    ∙ sym (ap (λ (l : List ℕ). bytes ++ ((l ++ more) ++ text)) none)))

still_equal : (text : List ℕ) (k : ℕ) (bytes left more : List ℕ) → IsComparison text k left found.Equal → left ≡ bytes ++ more
    → IsComparison text (k + length bytes) more found.Equal × (take (k + length bytes) text ++ [] ≡ (take k text ++ []) ++ bytes)
still_equal text k bytes left more is next =
    let rest : drop k text ≡ bytes ++ more = sym is.after ∙ next in
    let size : length (drop k text) ≡ length bytes + length more = ap length rest ∙ length-append bytes more in
    let cut : length (drop k text) ≡ length text - k = length-drop k text in
    let begins : k ≤ length text = is.within in (
      record {
        within = omega (arith, size, cut, begins);
        after = sym (sym (drop-drop (length bytes) k text) ∙ (ap (drop (length bytes)) rest ∙ drop_at bytes more (length bytes) refl));
      },
      append-nil (take (k + length bytes) text)
          ∙ (take-add k (length bytes) text
          ∙ (ap (λ (l : List ℕ). take k text ++ take (length bytes) l) rest
          ∙ (ap (λ (l : List ℕ). take k text ++ l) (take-append_seam bytes more)
          ∙ ap (λ (l : List ℕ). l ++ bytes) (sym (append-nil (take k text)))))),
    )

-- the text goes on with these bytes
module _ (text : List ℕ) (k e : ℕ) (bytes left more : List ℕ) (f : Found) (v : Compared)
    (is_view : compared text k f ≡ v) (on : v.stopped ≡ false) (is : IsComparison text k left f) (next : left ≡ bytes ++ more) (same : e ≡ k + length bytes) where
  equal : f ≡ found.Equal
  equal = nothing_found f (ap (λ (c : Compared). c.stopped) is_view ∙ on)

  both : IsComparison text (k + length bytes) more found.Equal × (take (k + length bytes) text ++ [] ≡ (take k text ++ []) ++ bytes)
  both = still_equal text k bytes left more (subst (IsComparison text k left) equal is) next

  pub skips : IsComparison text e more f
  skips = subst (λ (n : ℕ). IsComparison text n more f) (sym same) (subst (IsComparison text (k + length bytes) more) (sym equal) both.0)

  pub skips_put : compared text e f ≡ record v { written = v.written ++ bytes }
  skips_put =
      subst (λ (c : Compared). compared text e f ≡ record c { written = c.written ++ bytes }) is_view
      (subst (λ (n : ℕ). compared text n f ≡ record (compared text k f) { written = (compared text k f).written ++ bytes }) (sym same)
      (subst (λ (g : Found). compared text (k + length bytes) g ≡ record (compared text k g) { written = (compared text k g).written ++ bytes }) (sym equal)
      (ap (λ (l : List ℕ). record (compared text k found.Equal) { written = l }) both.1)))

-- it is where it was
pub stays : (text : List ℕ) (k : ℕ) (left more : List ℕ) (f : Found) → IsComparison text k left f → more ≡ left → IsComparison text k more f
stays text k left more f is same = subst (λ (l : List ℕ). IsComparison text k l f) (sym same) is

-- all bytes were put
pub all_follow : (v : Compared) (bytes : List ℕ) (c : Compared) → c ≡ record v { written = v.written ++ bytes } → Follows v.written bytes c
all_follow v bytes c put =
    let same : c.written ≡ v.written ++ bytes = ap (λ (d : Compared). d.written) put in
    record { count = length bytes; written = same ∙ sym (ap (λ (l : List ℕ). v.written ++ l) (whole bytes)); all = λ _. same }
  where
    whole : (l : List ℕ) → take (length l) l ≡ l
    whole l = ap (take (length l)) (sym (append-nil l)) ∙ take-append_seam l []

-- none was, as the comparison had stopped
pub none_follows : (bytes : List ℕ) (c : Compared) → c.stopped ≡ true → Follows c.written bytes c
none_follows bytes c stopped = record { count = 0; written = sym (append-nil c.written); all = λ on. absurd (let e : true ≡ false = sym stopped ∙ on in cc) }

-- those that were put before are the same
pub same_follow : (v w : Compared) (bytes : List ℕ) (c : Compared) → w ≡ v → Follows w.written bytes c → Follows v.written bytes c
same_follow v w bytes c same follows = subst (λ (d : Compared). Follows d.written bytes c) same follows
