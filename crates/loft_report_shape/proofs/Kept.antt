-- What a kept spelling adds to the text of a report.
use Rattle.std.proofs.Common.{◌≡◌, ℕ, Bool, true, false, List, [], ◌∷◌, ◌++◌, append_assoc, refl, sym, ap, ◌∙◌, if◌then◌else◌}
use Rattle.std.proofs.lemmas.List.{append-nil}
use Rattle.std.proofs.lemmas.Grind.{flat_map-append}
use Rattle.std.specs.List.{list_all, flat_map}
use Rattle.loft_spelling.proofs.Sets.{and_both, both_and}
use Rattle.loft_report_shape.specs.Last.{on_last}
use Rattle.loft_report_shape.specs.Sets.{set_of, order_words, wait_words, reason_words}
use Rattle.loft_report_shape.specs.Grammar.{after, after_maker, after_order, after_wait, after_reason, frames, feed, other_name, begins_number, head_is}
use Rattle.loft_report_shape.specs.Told.{Report, Told, in_last_block, kept, keeps, note}
use Rattle.loft_report_shape.specs.Text.{line_of, head_text, block_text, body_text}
use Rattle.loft_report_shape.specs.declared.word.Word.TheVariants as word
use Rattle.loft_report_shape.specs.declared.raw.RawBlock.{RawBlock}
use Rattle.loft_report_shape.specs.declared.part.Part.{Part}
use Rattle.loft_report_shape.specs.declared.part.Part.TheVariants as part
use Rattle.loft_report_shape.specs.declared.part.NumberKind.{NumberKind}
use Rattle.loft_report_shape.specs.declared.part.NumberKind.TheVariants as number
use Rattle.loft_report_shape.specs.declared.part.NameRole.TheVariants as role
use Rattle.loft_report_shape.specs.declared.part.Section.{Section}
use Rattle.loft_report_shape.specs.declared.part.Section.TheVariants as section
use Rattle.loft_report_shape.proofs.Last.{on_last_push}
use Rattle.loft_report_shape.proofs.WordLemmas.{by_word}

-- ---- parts whose spellings are kept, and nothing else is told by them

abbrev pub plain_number : NumberKind → Bool
plain_number number.Stop = true
plain_number number.Count = true
plain_number number.Any = true
plain_number n = false

abbrev pub plain : Part → Bool
plain (part.Fixed w) = false
plain (part.Number n) = plain_number n
plain (part.Name role.Other) = true
plain (part.Name r) = false
plain (part.Choices n) = false
plain (part.Lines s) = false
plain (part.States n) = false
plain (part.Left n) = false
plain part.Close = false
plain p = true

pub plain_note : (p : Part) (w : List ℕ) (told : Told) → plain p ≡ true → note p w told ≡ keeps w told
plain_note (part.Number number.Stop) w told e = refl
plain_note (part.Number number.Count) w told e = refl
plain_note (part.Number number.Any) w told e = refl
plain_note (part.Number n) w told e = absurd cc
plain_note (part.Name role.Other) w told e = refl
plain_note (part.Name r) w told e = absurd cc
plain_note (part.Fixed x) w told e = absurd cc
plain_note (part.Choices n) w told e = absurd cc
plain_note (part.Lines s) w told e = absurd cc
plain_note (part.States n) w told e = absurd cc
plain_note (part.Left n) w told e = absurd cc
plain_note part.Close w told e = absurd cc
plain_note p w told e = refl

abbrev Plain : List Part → Type 0
Plain ps = list_all plain ps ≡ true

-- what a test chooses is plain where both are
either_plain : (b : Bool) (xs ys : List Part) → list_all plain xs ≡ true → list_all plain ys ≡ true → list_all plain (if b then xs else ys) ≡ true
either_plain true xs ys p q = p
either_plain false xs ys p q = q

pub plain_joined : (xs ys : List Part) → list_all plain xs ≡ true → list_all plain ys ≡ true → list_all plain (xs ++ ys) ≡ true
plain_joined [] ys p q = q
plain_joined (x ∷ xs) ys p q = let r = and_both (plain x) (list_all plain xs) p in both_and (plain x) (list_all plain (xs ++ ys)) r.0 (plain_joined xs ys r.1 q)

plain_value : (w : List ℕ) → list_all plain (if begins_number w then [] else after_maker) ≡ true
plain_value w = either_plain (begins_number w) [] after_maker refl refl

pub plain_after : (p : Part) (w : List ℕ) → plain p ≡ true → (set_of p).whole w ≡ true → list_all plain (after p w) ≡ true
plain_after (part.Number number.Stop) w e whole = refl
plain_after (part.Number number.Count) w e whole = refl
plain_after (part.Number number.Any) w e whole = refl
plain_after (part.Number n) w e whole = absurd cc
plain_after part.Value w e whole = plain_value w
plain_after part.FirstValue w e whole = either_plain (head_is 41 w) [] ((if begins_number w then [] else after_maker) ++ part.MoreValues ∷ []) refl (plain_joined (if begins_number w then [] else after_maker) (part.MoreValues ∷ []) (plain_value w) refl)
plain_after part.MoreValues w e whole = either_plain (head_is 44 w) (part.Value ∷ part.MoreValues ∷ []) [] refl refl
plain_after part.FirstCount w e whole = either_plain (head_is 93 w) [] (part.MoreCounts ∷ []) refl refl
plain_after part.MoreCounts w e whole = either_plain (head_is 44 w) (part.Number number.Count ∷ part.MoreCounts ∷ []) [] refl refl
plain_after part.MoreEvents w e whole = either_plain (head_is 44 w) (other_name ∷ part.MoreEvents ∷ []) [] refl refl
plain_after part.Sent w e whole = either_plain (head_is 32 w) (part.Value ∷ feed ∷ []) [] refl refl
plain_after part.MoreFrames w e whole = either_plain (head_is 32 w) frames [] refl refl
plain_after part.Order w e whole = by_word Plain after_order order_words (refl, (refl, (refl, (refl, (refl, (refl, (refl, tt))))))) w whole
plain_after part.Wait w e whole = by_word Plain after_wait wait_words (refl, (refl, (refl, (refl, (refl, (refl, (refl, tt))))))) w whole
plain_after part.Reason w e whole = by_word Plain after_reason reason_words (refl, (refl, (refl, (refl, (refl, (refl, (refl, tt))))))) w whole
plain_after (part.Choices n) w e whole = absurd cc
plain_after (part.Lines s) w e whole = absurd cc
plain_after (part.States n) w e whole = absurd cc
plain_after (part.Left n) w e whole = absurd cc
plain_after p w e whole = refl

-- ---- what stands open in a report

-- a block is open, and nothing is left over yet
pub record Open (r : Report) : Type 0 where
  pub before : List RawBlock
  pub block : RawBlock
  pub is : r.blocks ≡ before ++ block ∷ []
  pub none_left : r.left ≡ []

-- it has no final state yet
pub record Unfinished (r : Report) : Type 0 where
  pub open_block : Open r
  pub none_last : open_block.block.last ≡ []

-- it has an instant
pub record Inside (r : Report) : Type 0 where
  pub unfinished : Unfinished r
  pub instants : List (List ℕ)
  pub instant : List ℕ
  pub is : unfinished.open_block.block.instants ≡ instants ++ instant ∷ []

-- bytes that are kept in a section are the last ones of the report
abbrev pub Keeping : Section → Report → Type 0
Keeping section.Told r = ⊥
Keeping section.Instant r = Inside r
Keeping section.Final r = Open r
Keeping section.Left r = Unit {0}

pub record Kept (s : Section) (w : List ℕ) (r : Report) : Type 0 where
  pub keeping : Keeping s (kept s w r)
  pub body : body_text (kept s w r) ≡ body_text r ++ w
  pub head : head_text (kept s w r) ≡ head_text r

pub flat_push : {A : Type 0} (f : A → List ℕ) (xs : List A) (x : A) → flat_map f (xs ++ x ∷ []) ≡ flat_map f xs ++ f x
flat_push f xs x = flat_map-append f xs (x ∷ []) ∙ ap (λ (t : List ℕ). flat_map f xs ++ t) (append-nil (f x))

-- the last block grows at its end
grows : (f : RawBlock → RawBlock) (l : List ℕ) (r : Report) (o : Open r) → block_text (f o.block) ≡ block_text o.block ++ l
    → (on_last f r.blocks ≡ o.before ++ f o.block ∷ []) × (body_text (in_last_block f r) ≡ body_text r ++ l)
grows f l r o h =
    let e1 : on_last f r.blocks ≡ o.before ++ f o.block ∷ [] = ap (on_last f) o.is ∙ on_last_push f o.before o.block in
    let pre = flat_map block_text o.before in
    let now : flat_map block_text (on_last f r.blocks) ≡ pre ++ (block_text o.block ++ l) = ap (λ (bs : List RawBlock). flat_map block_text bs) e1 ∙ flat_push block_text o.before (f o.block) ∙ ap (λ (t : List ℕ). pre ++ t) h in
    let was : flat_map block_text r.blocks ≡ pre ++ block_text o.block = ap (λ (bs : List RawBlock). flat_map block_text bs) o.is ∙ flat_push block_text o.before o.block in (
      e1,
      regroup (flat_map block_text (on_last f r.blocks)) (flat_map block_text r.blocks) pre (block_text o.block) r.left l now was o.none_left,
    )
  where
    regroup : (a b pre x left l : List ℕ) → a ≡ pre ++ (x ++ l) → b ≡ pre ++ x → left ≡ [] → a ++ left ≡ (b ++ left) ++ l
    regroup a b pre x left l p q e = rw (p, q, e) (simp (append_assoc, append-nil {A = ℕ}) refl)

inner_grows : (n a c l : List ℕ) → c ≡ [] → n ++ ((a ++ l) ++ c) ≡ (n ++ (a ++ c)) ++ l
inner_grows n a c l e = rw e (simp (append_assoc, append-nil {A = ℕ}) refl)

last_grows : (n a c l : List ℕ) → n ++ (a ++ (c ++ l)) ≡ (n ++ (a ++ c)) ++ l
last_grows n a c l = simp append_assoc refl

abbrev all_of : List (List ℕ) → List ℕ
all_of instants = flat_map (λ instant. instant) instants

kept_instant : (w : List ℕ) (r : Report) → Inside r → Kept section.Instant w r
kept_instant w r i =
    let u = i.unfinished in
    let o = u.open_block in
    let add : List ℕ → List ℕ = λ lines. lines ++ w in
    let f : RawBlock → RawBlock = λ b. record b { instants = on_last add b.instants } in
    let e1 : on_last add o.block.instants ≡ i.instants ++ add i.instant ∷ [] = ap (on_last add) i.is ∙ on_last_push add i.instants i.instant in
    let e : all_of (on_last add o.block.instants) ≡ all_of o.block.instants ++ w =
    ap all_of e1 ∙ flat_push (λ instant. instant) i.instants (add i.instant) ∙ sym (append_assoc (all_of i.instants) i.instant w)
    ∙ ap (λ (t : List ℕ). t ++ w) (sym (ap all_of i.is ∙ flat_push (λ instant. instant) i.instants i.instant)) in
    let n = line_of word.Scheduler o.block.name in
    let g = grows f w r o (ap (λ (t : List ℕ). n ++ (t ++ o.block.last)) e ∙ inner_grows n (all_of o.block.instants) o.block.last w u.none_last) in
    record {
      keeping = record {
        unfinished = record { open_block = record { before = o.before; block = f o.block; is = g.0; none_left = o.none_left }; none_last = u.none_last };
        instants = i.instants;
        instant = add i.instant;
        is = e1;
      };
      body = g.1;
      head = refl;
    }

kept_final : (w : List ℕ) (r : Report) → Open r → Kept section.Final w r
kept_final w r o =
    let f : RawBlock → RawBlock = λ b. record b { last = b.last ++ w } in
    let g = grows f w r o (last_grows (line_of word.Scheduler o.block.name) (all_of o.block.instants) o.block.last w) in
    record { keeping = record { before = o.before; block = f o.block; is = g.0; none_left = o.none_left }; body = g.1; head = refl }

pub kept_law : (s : Section) (w : List ℕ) (r : Report) → Keeping s r → Kept s w r
kept_law section.Told w r k = absurd k
kept_law section.Instant w r i = kept_instant w r i
kept_law section.Final w r o = kept_final w r o
kept_law section.Left w r k = record { keeping = tt; body = sym (append_assoc (flat_map block_text r.blocks) r.left w); head = refl }

-- ---- an instant begins

abbrev pub begun : Report → Report
begun r = in_last_block (λ b. record b { instants = b.instants ++ [] ∷ [] }) r

pub record Begins (r : Report) : Type 0 where
  pub inside : Inside (begun r)
  pub body : body_text (begun r) ≡ body_text r
  pub head : head_text (begun r) ≡ head_text r

pub begin_law : (r : Report) → Unfinished r → Begins r
begin_law r u =
    let o = u.open_block in
    let f : RawBlock → RawBlock = λ b. record b { instants = b.instants ++ [] ∷ [] } in
    let e : all_of (o.block.instants ++ [] ∷ []) ≡ all_of o.block.instants ++ [] = flat_push (λ instant. instant) o.block.instants [] in
    let n = line_of word.Scheduler o.block.name in
    let g = grows f [] r o (ap (λ (t : List ℕ). n ++ (t ++ o.block.last)) e ∙ inner_grows n (all_of o.block.instants) o.block.last [] u.none_last) in
    record {
      inside = record { unfinished = record { open_block = record { before = o.before; block = f o.block; is = g.0; none_left = o.none_left }; none_last = u.none_last }; instants = o.block.instants; instant = []; is = refl };
      body = g.1 ∙ append-nil (body_text r);
      head = refl;
    }
