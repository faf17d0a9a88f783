-- The lines of the options.
use Rattle.std.proofs.Common.{◌≡◌, ℕ, ◌^◌, ◌<◌, ◌≤◌, true, false, not, ◌==◌, ◌&&◌, ◌||◌, nat_le, List, [], ◌∷◌, ◌++◌, refl, sym, subst, ap, ◌∙◌, arith}
use Rattle.std.proofs.lemmas.Bool.{leb-true}
use Rattle.std.proofs.lemmas.Fmt.{decimal_digit}
use Rattle.std.specs.Fmt.{decimal}
use Rattle.std.specs.List.{list_all}
use Rattle.loft_base.specs.Options.{AreInRange}
use Rattle.loft_spelling.specs.Sets.{is_digit, is_empty, value_of, is_number}
use Rattle.loft_spelling.specs.Parts.{Left}
use Rattle.loft_spelling.proofs.Sets.{and_both}
use Rattle.loft_report_shape.specs.Sets.{number_set}
use Rattle.loft_report_shape.specs.Grammar.{after, blank, feed, number_line}
use Rattle.loft_report_shape.specs.Told.{Report, Told, nothing_told, number_told}
use Rattle.loft_report_shape.specs.Report.{grammar, Shape}
use Rattle.loft_report_shape.specs.declared.word.Word.{Word}
use Rattle.loft_report_shape.specs.declared.word.Word.TheVariants as word
use Rattle.loft_report_shape.specs.declared.part.Part.{Part}
use Rattle.loft_report_shape.specs.declared.part.Part.TheVariants as part
use Rattle.loft_report_shape.specs.declared.part.NumberKind.{NumberKind}
use Rattle.loft_report_shape.specs.declared.part.NumberKind.TheVariants as number
use Rattle.loft_report_shape.proofs.Spelled.{Sp, top, number_is, one}
use Rattle.loft_report_options.proofs.Later.{later_options}

-- ---- a number that is not 0

not_nought : (m : ℕ) → is_number false m (decimal 0) ≡ true → ⊥
not_nought m e = absurd (let f : is_number false m (48 ∷ []) ≡ true = subst (λ (v : List ℕ). is_number false m v ≡ true) (decimal_digit 0 (omega arith)) e in cc)

at_least_one : (n : ℕ) → (n ≡ 0 → ⊥) → 1 ≤ n
at_least_one n e = omega (arith, e)

pub in_range : (m : ℕ) (w : List ℕ) → m < 2 ^ 64 → is_number false m w ≡ true → (1 ≤ value_of w) × (value_of w ≤ m)
in_range m [] small e = absurd cc
in_range m (b ∷ w) small e =
    let p = and_both (not (b == 48) || (false && is_empty w)) (list_all is_digit (b ∷ w) && nat_le (value_of (b ∷ w)) m) e in
    let q = and_both (list_all is_digit (b ∷ w)) (nat_le (value_of (b ∷ w)) m) p.1 in
    let written : b ∷ w ≡ decimal (value_of (b ∷ w)) = number_is false m (b ∷ w) small e in (
      at_least_one (value_of (b ∷ w)) (λ nought. not_nought m (subst (λ (v : List ℕ). is_number false m v ≡ true) (written ∙ ap (λ (n : ℕ). decimal n) nought) e)),
      leb-true (value_of (b ∷ w)) m q.1,
    )

-- ---- a line of a word and an option

record Option_line (n : NumberKind) (ps : List Part) (r : Report) (last : Left grammar) : Type 0 where
  word : List ℕ
  whole : (number_set n).whole word ≡ true
  ws : List (List ℕ)
  rest : List ℕ
  spells : Sp ws ps (top (number_told n (value_of word) r)) rest last

option_line : (x : Word) (n : NumberKind) → ((v : List ℕ) → after (part.Number n) v ≡ []) → (ps : List Part) (ws : List (List ℕ)) (r : Report) (text : List ℕ) (last : Left grammar)
    → Sp ws (part.Fixed x ∷ blank ∷ part.Number n ∷ feed ∷ ps) (top r) text last → Option_line n ps r last
option_line x n none ps ws r text last s =
    let a = one ws (part.Fixed x) (blank ∷ part.Number n ∷ feed ∷ ps) (top r) text last s in
    let b = one a.ws blank (part.Number n ∷ feed ∷ ps) (top r) a.rest last a.spells in
    let c = one b.ws (part.Number n) (feed ∷ ps) (top r) b.rest last b.spells in
    let next : Told = top (number_told n (value_of c.word) r) in
    let d = one c.ws feed ps next c.rest last (subst (λ qs. Sp c.ws (qs ++ feed ∷ ps) next c.rest last) (none c.word) c.spells) in
    record { word = c.word; whole = c.whole; ws = d.ws; rest = d.rest; spells = d.spells }

abbrev from_history : List Part
from_history = number_line word.History number.History

abbrev from_workers : List Part
from_workers = number_line word.Workers number.Workers ++ feed ∷ from_history

abbrev from_block : List Part
from_block = number_line word.Block number.Block ++ feed ∷ from_workers

abbrev from_budget : List Part
from_budget = number_line word.Budget number.Budget ++ feed ∷ from_block

abbrev from_instants : List Part
from_instants = number_line word.Instants number.Instants ++ feed ∷ from_budget

-- The options of a report are in their ranges.
pub options_in_range : (text : List ℕ) (r : Report) → Shape text r → AreInRange r.options
options_in_range text r (last, (ws, s), e) =
    let r0 = nothing_told.report in
    let a = one ws (part.Fixed word.Report) (feed ∷ from_instants) (top r0) text last s in
    let b = one a.ws feed from_instants (top r0) a.rest last a.spells in
    let i = option_line word.Instants number.Instants (λ v. refl) from_budget b.ws r0 b.rest last b.spells in
    let r1 = number_told number.Instants (value_of i.word) r0 in
    let j = option_line word.Budget number.Budget (λ v. refl) from_block i.ws r1 i.rest last i.spells in
    let r2 = number_told number.Budget (value_of j.word) r1 in
    let k = option_line word.Block number.Block (λ v. refl) from_workers j.ws r2 j.rest last j.spells in
    let r3 = number_told number.Block (value_of k.word) r2 in
    let l = option_line word.Workers number.Workers (λ v. refl) from_history k.ws r3 k.rest last k.spells in
    let r4 = number_told number.Workers (value_of l.word) r3 in
    let same : r4.options ≡ r.options = sym (ap (λ (q : Report). q.options) e ∙ later_options l.ws from_history (top r4) l.rest last refl l.spells) in
    subst AreInRange same (record {
      limits = record {
        instants = in_range 1000000 i.word (omega arith) i.whole;
        budget = in_range 1000000 j.word (omega arith) j.whole;
        block = in_range 100000000 k.word (omega arith) k.whole;
      };
      workers = in_range 16 l.word (omega arith) l.whole;
    })
