-- Which bytes aren't among those of ids, values and frames.
use Rattle.std.proofs.Common.{◌≡◌, ℕ, suc, ◌+◌, ◌<◌, ◌≤◌, ℤ, pos, negsuc, Bool, true, false, not, nat_le, ◌==◌, ◌&&◌, ◌||◌, ◌⊎◌, inl, inr, List, [], ◌∷◌, ◌++◌, length, refl, arith}
use Rattle.std.proofs.lemmas.List.{length-append}
use Rattle.std.proofs.lemmas.Fmt.{decimal_nonempty}
use Rattle.std.specs.Fmt.{decimal, signed_decimal}
use Rattle.std.specs.List.{list_all, flat_map}
use Rattle.loft_lex.specs.Bytes.{is_letter, is_name_byte, begins}
use Rattle.loft_spelling.specs.Sets.{is_digit}
use Rattle.loft_spelling.proofs.Sets.{both_and, and_both, or_right, or_cases}
use Rattle.std.proofs.lemmas.Bool.{leb-true}
use Rattle.loft_base.specs.declared.ids.ThreadId.{ThreadId}
use Rattle.loft_base.specs.declared.ids.ModuleId.{ModuleId}
use Rattle.loft_base.specs.declared.ids.Value.{Value}
use Rattle.loft_base.specs.declared.ids.Value.TheVariants as value
use Rattle.loft_tree.specs.Fits.{Each}
use Rattle.loft_tree.specs.declared.heads.Heads.{Heads}
use Rattle.loft_orders.specs.declared.thread.Frame.{Frame}
use Rattle.loft_orders.specs.Text.{separated_by, separated, maker_name, id_text, value_text, module_name, frame_text}
use Rattle.loft_order_lines.specs.Cut.{lacks, Lacks}
use Rattle.loft_order_lines.specs.Texts.{OwnNames, IdHasText, NumberHasText, ValueHasText, ModuleHasText, FrameHasText, begins_number}
use Rattle.loft_order_lines.proofs.Bytes.{lacks_append, lacks_class, lacks_decimal, decimal_digits}
use Rattle.loft_order_lines.proofs.NameLemmas.{name_bytes, module_is, maker_bytes, maker_begins}

-- a byte that is in no id and in no number
pub record IsOutside (c : ℕ) : Type 0 where
  pub name : is_name_byte c ≡ false
  pub digit : is_digit c ≡ false
  pub dot : not (46 == c) ≡ true
  pub minus : not (45 == c) ≡ true

pub blank_outside : IsOutside 32
blank_outside = record { name = refl; digit = refl; dot = refl; minus = refl }

pub comma_outside : IsOutside 44
comma_outside = record { name = refl; digit = refl; dot = refl; minus = refl }

pub bracket_outside : IsOutside 41
bracket_outside = record { name = refl; digit = refl; dot = refl; minus = refl }

pub square_outside : IsOutside 93
square_outside = record { name = refl; digit = refl; dot = refl; minus = refl }

-- ---- ids and values

pub maker_lacks : (c : ℕ) (h : Heads) → OwnNames h → (t : ThreadId) → IdHasText h t → is_name_byte c ≡ false → Lacks c (maker_name h t.maker)
maker_lacks c h own t p none = lacks_class is_name_byte c (maker_name h t.maker) none (maker_bytes h own t.maker p.maker)

pub module_lacks : (c : ℕ) (h : Heads) → OwnNames h → (m : ModuleId) → ModuleHasText h m → is_name_byte c ≡ false → Lacks c (module_name h m)
module_lacks c h own m p none = lacks_class is_name_byte c (module_name h m) none (name_bytes (module_name h m) (module_is h own m p))

pub id_lacks : (c : ℕ) → IsOutside c → (h : Heads) → OwnNames h → (t : ThreadId) → IdHasText h t → Lacks c (id_text h t)
id_lacks c out h own t p =
    lacks_append c (maker_name h t.maker) (46 ∷ decimal t.seq) (maker_lacks c h own t p out.name)
    (both_and (not (46 == c)) (lacks c (decimal t.seq)) out.dot (lacks_decimal c t.seq p.seq out.digit))

pub number_lacks : (c : ℕ) → IsOutside c → (z : ℤ) → NumberHasText z → Lacks c (signed_decimal z)
number_lacks c out (pos n) p = lacks_decimal c n (omega (arith, p)) out.digit
number_lacks c out (negsuc n) p = both_and (not (45 == c)) (lacks c (decimal (suc n))) out.minus (lacks_decimal c (suc n) (omega (arith, p)) out.digit)

pub value_lacks : (c : ℕ) → IsOutside c → (h : Heads) → OwnNames h → (v : Value) → ValueHasText h v → Lacks c (value_text h v)
value_lacks c out h own (value.Int n) p = number_lacks c out n p
value_lacks c out h own (value.Thread t) p = id_lacks c out h own t p

-- ---- texts that have bytes

pub begun_some : (class : ℕ → Bool) (bytes : List ℕ) → begins class bytes ≡ true → 0 < length bytes
begun_some class [] p = absurd cc
begun_some class (b ∷ bytes) p = omega arith

pub id_some : (h : Heads) → OwnNames h → (t : ThreadId) → IdHasText h t → 0 < length (id_text h t)
id_some h own t p =
    let long : length (id_text h t) ≡ length (maker_name h t.maker) + suc (length (decimal t.seq)) = length-append (maker_name h t.maker) (46 ∷ decimal t.seq) in
    omega (arith, long)

pub number_some : (z : ℤ) → NumberHasText z → 0 < length (signed_decimal z)
number_some (pos n) p = decimal_nonempty n (omega (arith, p))
number_some (negsuc n) p = omega arith

pub value_some : (h : Heads) → OwnNames h → (v : Value) → ValueHasText h v → 0 < length (value_text h v)
value_some h own (value.Int n) p = number_some n p
value_some h own (value.Thread t) p = id_some h own t p

-- ---- lists

-- a byte that isn't in the texts nor between them isn't in the list
pub list_lacks : {A : Type 0} (c d : ℕ) (text : A → List ℕ) (P : A → Type 0) → not (d == c) ≡ true → ((x : A) → P x → Lacks c (text x)) → (xs : List A) → Each P xs → Lacks c (separated_by (d ∷ []) text xs)
list_lacks c d text P other plain [] p = refl
list_lacks c d text P other plain (x ∷ xs) p = lacks_append c (text x) (flat_map (λ y. (d ∷ []) ++ text y) xs) (plain x p.0) (rest xs p.1)
  where
    rest : (ys : List _) → Each P ys → Lacks c (flat_map (λ y. (d ∷ []) ++ text y) ys)
    rest [] q = refl
    rest (y ∷ ys) q = both_and (not (d == c)) (lacks c (text y ++ flat_map (λ z. (d ∷ []) ++ text z) ys)) other (lacks_append c (text y) (flat_map (λ z. (d ∷ []) ++ text z) ys) (plain y q.0) (rest ys q.1))

pub values_lack : (c : ℕ) → IsOutside c → not (44 == c) ≡ true → (h : Heads) → OwnNames h → (vs : List Value) → Each (ValueHasText h) vs → Lacks c (separated (value_text h) vs)
values_lack c out other h own vs p = list_lacks c 44 (value_text h) (ValueHasText h) other (λ v q. value_lacks c out h own v q) vs p

pub counts_lack : (c : ℕ) → IsOutside c → not (44 == c) ≡ true → (ns : List ℤ) → Each NumberHasText ns → Lacks c (separated signed_decimal ns)
counts_lack c out other ns p = list_lacks c 44 signed_decimal NumberHasText other (λ n q. number_lacks c out n q) ns p

-- ---- frames

pub frame_lacks_blank : (h : Heads) → OwnNames h → (f : Frame) → FrameHasText h f → Lacks 32 (frame_text h f)
frame_lacks_blank h own f p =
    let values = lacks_append 32 (separated (value_text h) f.values) (41 ∷ []) (values_lack 32 blank_outside refl h own f.values p.values) refl in
    let counts = lacks_append 32 (separated signed_decimal f.counts) (93 ∷ 40 ∷ (separated (value_text h) f.values ++ 41 ∷ [])) (counts_lack 32 blank_outside refl f.counts p.counts) values in
    let stop = lacks_append 32 (decimal f.stop) (91 ∷ (separated signed_decimal f.counts ++ 93 ∷ 40 ∷ (separated (value_text h) f.values ++ 41 ∷ []))) (lacks_decimal 32 f.stop (omega (arith, p.stop)) refl) counts in
    lacks_append 32 (module_name h f.module) (58 ∷ (decimal f.stop ++ 91 ∷ (separated signed_decimal f.counts ++ 93 ∷ 40 ∷ (separated (value_text h) f.values ++ 41 ∷ [])))) (module_lacks 32 h own f.module p.declared refl) stop

pub frame_some : (h : Heads) (f : Frame) → 0 < length (frame_text h f)
frame_some h f =
    let long = length-append (module_name h f.module) (58 ∷ (decimal f.stop ++ 91 ∷ (separated signed_decimal f.counts ++ 93 ∷ 40 ∷ (separated (value_text h) f.values ++ 41 ∷ [])))) in
    omega (arith, long)

-- ---- how texts begin

digits_begin : (bs : List ℕ) → list_all is_digit bs ≡ true → 0 < length bs → begins_number bs ≡ true
digits_begin [] p some = absurd (omega (arith, some))
digits_begin (b ∷ bs) p some = or_right (b == 45) (nat_le 48 b && nat_le b 57) (and_both (is_digit b) (list_all is_digit bs) p).0

pub number_begins : (z : ℤ) → NumberHasText z → begins_number (signed_decimal z) ≡ true
number_begins (pos n) p = digits_begin (decimal n) (decimal_digits n (omega (arith, p))) (decimal_nonempty n (omega (arith, p)))
number_begins (negsuc n) p = refl

letter_large : (b : ℕ) → is_letter b ≡ true → 65 ≤ b
letter_large b p = go (or_cases ((nat_le 65 b && nat_le b 90) || (nat_le 97 b && nat_le b 122)) (b == 95) p)
  where
    two : ((nat_le 65 b && nat_le b 90) ≡ true) ⊎ ((nat_le 97 b && nat_le b 122) ≡ true) → 65 ≤ b
    two (inl e) = leb-true 65 b (and_both (nat_le 65 b) (nat_le b 90) e).0
    two (inr e) = let f = leb-true 97 b (and_both (nat_le 97 b) (nat_le b 122) e).0 in omega (arith, f)

    go : (((nat_le 65 b && nat_le b 90) || (nat_le 97 b && nat_le b 122)) ≡ true) ⊎ ((b == 95) ≡ true) → 65 ≤ b
    go (inl e) = two (or_cases (nat_le 65 b && nat_le b 90) (nat_le 97 b && nat_le b 122) e)
    go (inr e) = let same : b ≡ 95 = grind (arith, e) in omega (arith, same)

no_digit : (b : ℕ) → 65 ≤ b → (t : Bool) → (b == 45 || (nat_le 48 b && nat_le b 57)) ≡ t → t ≡ false
no_digit b large false e = refl
no_digit b large true e = absurd (go (or_cases (b == 45) (nat_le 48 b && nat_le b 57) e))
  where
    go : ((b == 45) ≡ true) ⊎ ((nat_le 48 b && nat_le b 57) ≡ true) → ⊥
    go (inl f) = let same : b ≡ 45 = grind (arith, f) in omega (arith, same, large)
    go (inr f) = let small = leb-true b 57 (and_both (nat_le 48 b) (nat_le b 57) f).1 in omega (arith, small, large)

letters_begin : (name rest : List ℕ) → begins is_letter name ≡ true → begins_number (name ++ rest) ≡ false
letters_begin [] rest p = absurd cc
letters_begin (b ∷ name) rest p = no_digit b (letter_large b p) (b == 45 || (nat_le 48 b && nat_le b 57)) refl

pub id_begins : (h : Heads) → OwnNames h → (t : ThreadId) → IdHasText h t → begins_number (id_text h t) ≡ false
id_begins h own t p = letters_begin (maker_name h t.maker) (46 ∷ decimal t.seq) (maker_begins h own t.maker p.maker)
