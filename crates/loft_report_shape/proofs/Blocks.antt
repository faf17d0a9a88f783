-- The text of the blocks and of the left-over part is the bytes that were kept of them.
use Rattle.std.proofs.Common.{◌≡◌, ℕ, zero, suc, ◌-◌, ◌<◌, Bool, true, false, ◌==◌, List, [], ◌∷◌, ◌++◌, length, append_assoc, Option, Some, refl, sym, ap, subst, ◌∙◌, arith, if◌then◌else◌}
use Rattle.std.proofs.lemmas.List.{append-nil}
use Rattle.std.specs.List.{list_all, flat_map}
use Rattle.loft_spelling.specs.Sets.{value_of}
use Rattle.loft_spelling.specs.Parts.{Left}
use Rattle.loft_spelling.proofs.Sets.{and_both}
use Rattle.loft_report_shape.specs.Word.{spelling, word_of}
use Rattle.loft_report_shape.specs.Sets.{menu, block_words, final_words, thread_words, batch_words, line_words, names}
use Rattle.loft_report_shape.specs.Grammar.{after, after_blocks, after_final, after_line, after_end, blank, blank_id, feed, other_name, shared, thread}
use Rattle.loft_report_shape.specs.Told.{Report, Told, kept, keeps, enters, note}
use Rattle.loft_report_shape.specs.Report.{grammar}
use Rattle.loft_report_shape.specs.Text.{line_of, head_text, block_text, body_text}
use Rattle.loft_report_shape.specs.declared.word.Word.{Word}
use Rattle.loft_report_shape.specs.declared.word.Word.TheVariants as word
use Rattle.loft_report_shape.specs.declared.raw.RawBlock.{RawBlock}
use Rattle.loft_report_shape.specs.declared.part.Part.{Part}
use Rattle.loft_report_shape.specs.declared.part.Part.TheVariants as part
use Rattle.loft_report_shape.specs.declared.part.NumberKind.TheVariants as number
use Rattle.loft_report_shape.specs.declared.part.NameRole.TheVariants as role
use Rattle.loft_report_shape.specs.declared.part.Section.{Section}
use Rattle.loft_report_shape.specs.declared.part.Section.TheVariants as section
use Rattle.loft_report_shape.specs.declared.part.Stage.{Stage}
use Rattle.loft_report_shape.specs.declared.part.Stage.TheVariants as stage
use Rattle.loft_report_shape.proofs.WordLemmas.{AllOf, each}
use Rattle.loft_report_shape.proofs.Batch.{to_batch}
use Rattle.loft_report_shape.proofs.Spelled.{Sp, top, only_bytes}
use Rattle.loft_report_shape.proofs.Kept.{plain, plain_note, plain_joined, plain_after, Open, Unfinished, Inside, Keeping, kept_law, begun, begin_law, flat_push}

-- the last line
abbrev pub ended_text : List ℕ
ended_text = spelling word.End ++ 10 ∷ []

-- the text is what is kept from here on, and the last line
pub record Remains (r : Report) (text : List ℕ) (last : Left grammar) : Type 0 where
  pub head : head_text last.told.report ≡ head_text r
  pub body : body_text r ++ text ≡ body_text last.told.report ++ ended_text

-- some bytes more in front
more : (r next : Report) (w text rest : List ℕ) (last : Left grammar) → text ≡ w ++ rest → body_text next ≡ body_text r ++ w → head_text next ≡ head_text r → Remains next rest last → Remains r text last
more r next w text rest last split body head m = record {
  head = m.head ∙ head;
  body = ap (λ (t : List ℕ). body_text r ++ t) split ∙ sym (append_assoc (body_text r) w rest) ∙ ap (λ (t : List ℕ). t ++ rest) (sym body) ∙ m.body;
}

-- the same text of the report so far
same : (r next : Report) (text : List ℕ) (last : Left grammar) → body_text next ≡ body_text r → head_text next ≡ head_text r → Remains next text last → Remains r text last
same r next text last body head m = record { head = m.head ∙ head; body = ap (λ (t : List ℕ). t ++ text) (sym body) ∙ m.body }

-- a part that comes last, while bytes are kept
data Spot : Type 0 where
  lines : Stage → Spot
  count : Spot
  states : ℕ → Spot
  left_count : Spot
  left : ℕ → Spot

abbrev spot_part : Spot → Part
spot_part (lines s) = part.Lines s
spot_part count = part.Number number.States
spot_part (states n) = part.States n
spot_part left_count = part.Number number.Left
spot_part (left n) = part.Left n

abbrev section_of : Spot → Section
section_of (lines s) = section.Instant
section_of count = section.Final
section_of (states n) = section.Final
section_of left_count = section.Left
section_of (left n) = section.Left

abbrev at : Spot → Report → Told
at q r = record { report = r; section = section_of q }

abbrev Law : ℕ → Type 0
Law f = (ws : List (List ℕ)) → length ws < f → (xs : List Part) (q : Spot) (r : Report) (text : List ℕ) (last : Left grammar)
    → list_all plain xs ≡ true → Keeping (section_of q) r → Sp ws (xs ++ spot_part q ∷ []) (at q r) text last → Remains r text last

-- a spelling was kept, and plain parts come before the last
onward : (f : ℕ) → Law f → (ws : List (List ℕ)) → length ws < f → (xs : List Part) (q : Spot) (r : Report) (w text rest : List ℕ) (last : Left grammar)
    → list_all plain xs ≡ true → Keeping (section_of q) r → text ≡ w ++ rest → Sp ws (xs ++ spot_part q ∷ []) (at q (kept (section_of q) w r)) rest last → Remains r text last
onward f ih ws few xs q r w text rest last plainly keeping split s =
    let k = kept_law (section_of q) w r keeping in
    more r (kept (section_of q) w r) w text rest last split k.body k.head (ih ws few xs q (kept (section_of q) w r) rest last plainly k.keeping s)

-- an instant begins with this line
instant_line : (f : ℕ) → Law f → (ws : List (List ℕ)) → length ws < f → (r : Report) (w text rest : List ℕ) (last : Left grammar) → Unfinished r → text ≡ w ++ rest
    → Sp ws (blank ∷ part.Number number.Count ∷ feed ∷ part.Lines stage.Batch ∷ []) (keeps w (record { report = begun r; section = section.Instant })) rest last → Remains r text last
instant_line f ih ws few r w text rest last u split s =
    let b = begin_law r u in
    same r (begun r) text last b.body b.head (onward f ih ws few (blank ∷ part.Number number.Count ∷ feed ∷ []) (lines stage.Batch) (begun r) w text rest last refl b.inside split s)

-- the final state begins
state_line : (f : ℕ) → Law f → (ws : List (List ℕ)) → length ws < f → (r : Report) (w text rest : List ℕ) (last : Left grammar) → Open r → text ≡ w ++ rest
    → Sp ws (blank ∷ part.Number number.States ∷ []) (keeps w (record { report = r; section = section.Final })) rest last → Remains r text last
state_line f ih ws few r w text rest last o split s = onward f ih ws few (blank ∷ []) count r w text rest last refl o split s

-- the block of a scheduler begins
fresh_line : (f : ℕ) → Law f → (ws : List (List ℕ)) → length ws < suc f → (r : Report) (text : List ℕ) (last : Left grammar) → Unfinished r → Sp ws (part.Lines stage.Fresh ∷ []) (top r) text last → Remains r text last
fresh_line f ih [] few r text last u s = absurd (let h = s.0 in cc)
fresh_line f ih (w ∷ ws) few r text last u (rest, split, whole, s) =
    let x = each Onward (line_words stage.Fresh) (
      (λ t. instant_line f ih ws (omega (arith, few)) r w text rest last u split t),
      (
        (λ t. state_line f ih ws (omega (arith, few)) r w text rest last u.open_block split t),
        tt,
      ),
    ) w whole in
    x.3 (subst (λ o. Sp ws (after_line stage.Fresh o ++ []) (keeps w (enters o (top r))) rest last) x.1 s)
  where
    Onward : Word → Type 0
    Onward x = Sp ws (after_line stage.Fresh (Some x) ++ []) (keeps w (enters (Some x) (top r))) rest last → Remains r text last

regroup_line : (x d rest : List ℕ) → x ++ 32 ∷ (d ++ 10 ∷ rest) ≡ (x ++ 32 ∷ (d ++ 10 ∷ [])) ++ rest
regroup_line x d rest = simp append_assoc refl

abbrev with_block : List ℕ → Report → Report
with_block name r = record r { blocks = r.blocks ++ (record { name = name; instants = []; last = [] }) ∷ [] }

block_added : (name : List ℕ) (r : Report) → r.left ≡ [] → body_text (with_block name r) ≡ body_text r ++ line_of word.Scheduler name
block_added name r none =
    let new : RawBlock = record { name = name; instants = []; last = [] } in
    let e : flat_map block_text (r.blocks ++ new ∷ []) ≡ flat_map block_text r.blocks ++ line_of word.Scheduler name = flat_push block_text r.blocks new ∙ ap (λ (t : List ℕ). flat_map block_text r.blocks ++ t) (append-nil (line_of word.Scheduler name)) in
    regroup (flat_map block_text (r.blocks ++ new ∷ [])) (flat_map block_text r.blocks) r.left (line_of word.Scheduler name) e none
  where
    regroup : (a b c l : List ℕ) → a ≡ b ++ l → c ≡ [] → a ++ c ≡ (b ++ c) ++ l
    regroup a b c l p e = rw (p, e) (simp (append_assoc, append-nil {A = ℕ}) refl)

scheduler_line : (f : ℕ) → Law f → (ws : List (List ℕ)) → length ws < suc f → (r : Report) (w text rest : List ℕ) (last : Left grammar) → r.left ≡ [] → text ≡ w ++ rest → spelling word.Scheduler ≡ w
    → Sp ws (blank ∷ part.Name role.Block ∷ feed ∷ part.Lines stage.Fresh ∷ []) (top r) rest last → Remains r text last
scheduler_line f ih [] few r w text rest last none split named s = absurd (let h = s.0 in cc)
scheduler_line f ih (a ∷ []) few r w text rest last none split named (r1, e1, h1, s1) = absurd (let h = s1.0 in cc)
scheduler_line f ih (a ∷ b ∷ []) few r w text rest last none split named (r1, e1, h1, (r2, e2, h2, s2)) = absurd (let h = s2.0 in cc)
scheduler_line f ih (a ∷ b ∷ c ∷ ws) few r w text rest last none split named (r1, e1, h1, (r2, e2, h2, (r3, e3, h3, s3))) =
    let next = with_block b r in
    let a1 : a ≡ 32 ∷ [] = only_bytes (32 ∷ []) a h1 in
    let c1 : c ≡ 10 ∷ [] = only_bytes (10 ∷ []) c h3 in
    let all : text ≡ spelling word.Scheduler ++ 32 ∷ (b ++ 10 ∷ r3) =
    split ∙ ap (λ (t : List ℕ). t ++ rest) (sym named) ∙ ap (λ (t : List ℕ). spelling word.Scheduler ++ t) (e1 ∙ ap (λ (t : List ℕ). t ++ r1) a1 ∙ ap (λ (t : List ℕ). 32 ∷ t) (e2 ∙ ap (λ (t : List ℕ). b ++ t) (e3 ∙ ap (λ (t : List ℕ). t ++ r3) c1))) in
    more r next (line_of word.Scheduler b) text r3 last (all ∙ regroup_line (spelling word.Scheduler) b r3) (block_added b r none) refl
    (fresh_line f ih ws (omega (arith, few)) next r3 last (record { open_block = record { before = r.blocks; block = record { name = b; instants = []; last = [] }; is = refl; none_left = none }; none_last = refl }) s3)

-- what follows a line of a block of this word
abbrev Follows : (ws : List (List ℕ)) (f : Option Word → List Part) (told : Told) (r : Report) (w text rest : List ℕ) (last : Left grammar) → Word → Type 0
Follows ws f told r w text rest last x = spelling x ≡ w → Sp ws (f (Some x) ++ []) (keeps w (enters (Some x) told)) rest last → Remains r text last

-- by the word that the line begins with
by_line : (ws : List (List ℕ)) (f : Option Word → List Part) (told : Told) (r : Report) (w text rest : List ℕ) (last : Left grammar) (words : List Word)
    → AllOf (Follows ws f told r w text rest last) words → (menu words).whole w ≡ true → Sp ws (f (word_of w) ++ []) (keeps w (enters (word_of w) told)) rest last → Remains r text last
by_line ws f told r w text rest last words all e s =
    let x = each (Follows ws f told r w text rest last) words all w e in
    x.3 x.2 (subst (λ o. Sp ws (f o ++ []) (keeps w (enters o told)) rest last) x.1 s)

-- a further block
scheduler_next : (f : ℕ) → Law f → (ws : List (List ℕ)) → length ws < f → (sec : Section) (r : Report) (w text rest : List ℕ) (last : Left grammar) → r.left ≡ [] → text ≡ w ++ rest
    → Follows ws after_blocks (record { report = r; section = sec }) r w text rest last word.Scheduler
scheduler_next f ih ws few sec r w text rest last none split named s = scheduler_line f ih ws (omega (arith, few)) r w text rest last none split named s

-- the left-over part
left_next : (f : ℕ) → Law f → (ws : List (List ℕ)) → length ws < f → (sec : Section) (r : Report) (w text rest : List ℕ) (last : Left grammar) → text ≡ w ++ rest
    → Follows ws after_blocks (record { report = r; section = sec }) r w text rest last word.Left
left_next f ih ws few sec r w text rest last split named s = onward f ih ws few (blank ∷ []) left_count r w text rest last refl tt split s

-- ---- each part that comes last

any_line : (f : ℕ) → Law f → (s : Stage) (ws : List (List ℕ)) → length ws < f → (r : Report) (w text rest : List ℕ) (last : Left grammar) → Inside r → text ≡ w ++ rest
    → AllOf (Follows ws (after_line s) (at (lines s) r) r w text rest last) batch_words
any_line f ih s ws few r w text rest last i split = (
  (λ e t. line (blank ∷ part.Order ∷ []) stage.Ordered refl t),
  (
    (λ e t. line (blank ∷ part.Order ∷ []) stage.Ordered refl t),
    (
      (λ e t. line (blank ∷ part.Order ∷ []) stage.Ordered refl t),
      (
        (λ e t. line (blank_id ++ blank ∷ part.Text ∷ []) stage.Acts refl t),
        (
          (λ e t. line (blank_id ++ blank ∷ other_name ∷ part.Sent ∷ []) stage.Acts refl t),
          (
            (λ e t. line (blank_id ++ blank ∷ other_name ∷ blank ∷ part.Order ∷ []) stage.Acts refl t),
            (
              (λ e t. line (blank_id ++ blank ∷ part.Reason ∷ []) (after_end s) refl t),
              (
                (λ e t. line (blank_id ++ blank ∷ part.Goal ∷ feed ∷ []) stage.Leaving refl t),
                (
                  (λ e t. line (blank ∷ thread) stage.Standing refl t),
                  (
                    (λ e t. line shared stage.Changed refl t),
                    (
                      (λ e t. instant_line f ih ws few r w text rest last i.unfinished split t),
                      (
                        (λ e t. state_line f ih ws few r w text rest last i.unfinished.open_block split t),
                        tt,
                      ),
                    ),
                  ),
                ),
              ),
            ),
          ),
        ),
      ),
    ),
  ),
)
  where
    line : (xs : List Part) (s : Stage) → list_all plain xs ≡ true → Sp ws (xs ++ part.Lines s ∷ []) (at (lines s) (kept section.Instant w r)) rest last → Remains r text last
    line xs s p t = onward f ih ws few xs (lines s) r w text rest last p i split t

-- a line of a final state whose threads were all there
final_line : (f : ℕ) → Law f → (n : ℕ) (ws : List (List ℕ)) → length ws < f → (r : Report) (w text rest : List ℕ) (last : Left grammar) → Open r → text ≡ w ++ rest
    → AllOf (Follows ws after_final (at (states n) r) r w text rest last) final_words
final_line f ih n ws few r w text rest last o split = (
  (λ e t. onward f ih ws few shared (states 0) r w text rest last refl o split t),
  (
    (λ e t. scheduler_next f ih ws few section.Final r w text rest last o.none_left split e t),
    (
      (λ e t. left_next f ih ws few section.Final r w text rest last split e t),
      tt,
    ),
  ),
)

thread_line : (f : ℕ) → Law f → (n m : ℕ) (ws : List (List ℕ)) → length ws < f → (r : Report) (w text rest : List ℕ) (last : Left grammar) → Open r → text ≡ w ++ rest
    → AllOf (Follows ws (λ o. blank ∷ thread ++ part.States m ∷ []) (at (states n) r) r w text rest last) thread_words
thread_line f ih n m ws few r w text rest last o split = (
  (λ e t. onward f ih ws few (blank ∷ thread) (states m) r w text rest last refl o split t),
  (
    (λ e t. onward f ih ws few (blank ∷ thread) (states m) r w text rest last refl o split t),
    tt,
  ),
)

-- the last line
end_line : (ws : List (List ℕ)) (r : Report) (w text rest : List ℕ) (last : Left grammar) → text ≡ w ++ rest → (menu (word.End ∷ [])).whole w ≡ true → Sp ws (part.Close ∷ []) (at (left 0) r) rest last → Remains r text last
end_line [] r w text rest last split e s = absurd (let h = s.0 in cc)
end_line (v ∷ []) r w text rest last split e (r1, e1, h1, s1) =
    let a : w ≡ spelling word.End = only_bytes (spelling word.End) w e in
    let b : v ≡ 10 ∷ [] = only_bytes (10 ∷ []) v h1 in
    let c : rest ≡ 10 ∷ [] = e1 ∙ ap (λ (t : List ℕ). v ++ t) s1.1 ∙ append-nil v ∙ b in
    let told : last.told ≡ at (left 0) r = ap (λ (l : Left grammar). l.told) s1.2 in
    let same_report : last.told.report ≡ r = ap (λ (t : Told). t.report) told in
    record {
      head = ap head_text same_report;
      body = ap (λ (t : List ℕ). body_text r ++ t) (split ∙ ap (λ (t : List ℕ). t ++ rest) a ∙ ap (λ (t : List ℕ). spelling word.End ++ t) c) ∙ ap (λ (q : Report). body_text q ++ ended_text) (sym same_report);
    }
end_line (v ∷ u ∷ ws) r w text rest last split e (r1, e1, h1, (r2, e2, h2, s2)) = absurd cc

law : (f : ℕ) → Law f
law zero ws few xs q r text last p k s = absurd (omega arith)
law (suc f) [] few [] q r text last p k s = absurd (let h = s.0 in cc)
law (suc f) [] few (x ∷ xs) q r text last p k s = absurd (let h = s.0 in cc)
law (suc f) (w ∷ ws) few (x ∷ xs) q r text last p k (rest, split, whole, s) =
    let b = and_both (plain x) (list_all plain xs) p in
    let t = note x w (at q r) in
    let s1 : Sp ws ((after x w ++ xs) ++ spot_part q ∷ []) t rest last = subst (λ ps. Sp ws ps t rest last) (sym (append_assoc (after x w) xs (spot_part q ∷ []))) s in
    let s2 : Sp ws ((after x w ++ xs) ++ spot_part q ∷ []) (keeps w (at q r)) rest last = subst (λ u. Sp ws ((after x w ++ xs) ++ spot_part q ∷ []) u rest last) (plain_note x w (at q r) b.0) s1 in
    onward f (law f) ws (omega (arith, few)) (after x w ++ xs) q r w text rest last (plain_joined (after x w) xs (plain_after x w b.0 whole) b.1) k split s2
law (suc f) (w ∷ ws) few [] (lines s) r text last p k (rest, split, whole, t) =
    by_line ws (after_line s) (at (lines s) r) r w text rest last batch_words (any_line f (law f) s ws (omega (arith, few)) r w text rest last k split) (to_batch s w whole) t
law (suc f) (w ∷ ws) few [] count r text last p k (rest, split, whole, t) =
    onward f (law f) ws (omega (arith, few)) (feed ∷ []) (states (value_of w)) r w text rest last refl k split t
law (suc f) (w ∷ ws) few [] (states n) r text last p k (rest, split, whole, t) = go (law f) (n == 0) whole t
  where
    go : Law f → (b : Bool) → (menu (if b then final_words else thread_words)).whole w ≡ true
        → Sp ws ((if b then after_final (word_of w) else (blank ∷ thread ++ part.States (n - 1) ∷ [])) ++ []) (keeps w (enters (word_of w) (at (states n) r))) rest last → Remains r text last
    go ih true h u = by_line ws after_final (at (states n) r) r w text rest last final_words (final_line f ih n ws (omega (arith, few)) r w text rest last k split) h u
    go ih false h u = by_line ws (λ o. blank ∷ thread ++ part.States (n - 1) ∷ []) (at (states n) r) r w text rest last thread_words (thread_line f ih n (n - 1) ws (omega (arith, few)) r w text rest last k split) h u
law (suc f) (w ∷ ws) few [] left_count r text last p k (rest, split, whole, t) =
    onward f (law f) ws (omega (arith, few)) (feed ∷ []) (left (value_of w)) r w text rest last refl tt split t
law (suc f) (w ∷ ws) few [] (left n) r text last p k (rest, split, whole, t) = go (law f) (n == 0) whole t
  where
    go : Law f → (b : Bool) → (if b then menu (word.End ∷ []) else names).whole w ≡ true
        → Sp ws ((if b then part.Close ∷ [] else (blank ∷ part.Order ∷ part.Left (n - 1) ∷ [])) ++ []) (if b then at (left n) r else keeps w (at (left n) r)) rest last → Remains r text last
    go ih true h u = end_line ws r w text rest last split h u
    go ih false h u = onward f ih ws (omega (arith, few)) (blank ∷ part.Order ∷ []) (left (n - 1)) r w text rest last refl tt split u

-- All that comes after the choices, where nothing is kept yet.
pub first_block : (ws : List (List ℕ)) (r : Report) (text : List ℕ) (last : Left grammar) → r.left ≡ [] → Sp ws (part.Choices 0 ∷ []) (top r) text last → Remains r text last
first_block [] r text last none s = absurd (let h = s.0 in cc)
first_block (w ∷ ws) r text last none (rest, split, whole, s) =
    by_line ws after_blocks (top r) r w text rest last block_words (
      (λ e t. scheduler_next (suc (length ws)) (law (suc (length ws))) ws (omega arith) section.Told r w text rest last none split e t),
      (
        (λ e t. left_next (suc (length ws)) (law (suc (length ws))) ws (omega arith) section.Told r w text rest last split e t),
        tt,
      ),
    )
    whole s
