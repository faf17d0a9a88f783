-- A report has one text.
use Rattle.std.proofs.Common.{◌≡◌, ℕ, zero, suc, ◌-◌, ◌^◌, ◌<◌, Bool, true, false, ◌==◌, List, [], ◌∷◌, ◌++◌, length, append_assoc, Some, refl, sym, ap, subst, ◌∙◌, arith, if◌then◌else◌}
use Rattle.std.proofs.lemmas.List.{append-nil}
use Rattle.std.specs.Fmt.{decimal}
use Rattle.std.specs.List.{flat_map}
use Rattle.loft_lex.specs.Bytes.{max_number}
use Rattle.loft_spelling.specs.Sets.{value_of, is_number}
use Rattle.loft_spelling.specs.Parts.{Left}
use Rattle.loft_report_shape.specs.Word.{spelling, word_of}
use Rattle.loft_report_shape.specs.Sets.{set_of, number_set, menu, block_words, choice_words}
use Rattle.loft_report_shape.specs.Grammar.{after, after_blocks, after_choice, blank, feed, number_line}
use Rattle.loft_report_shape.specs.Told.{Report, Told, nothing_told, chosen, keeps, enters, number_told, note}
use Rattle.loft_report_shape.specs.Report.{grammar, Shape}
use Rattle.loft_report_shape.specs.Text.{line_of, choice_text, head_text, body_text, text_of}
use Rattle.loft_report_shape.specs.declared.word.Word.{Word}
use Rattle.loft_report_shape.specs.declared.word.Word.TheVariants as word
use Rattle.loft_report_shape.specs.declared.raw.Choice.{Choice}
use Rattle.loft_report_shape.specs.declared.raw.Choice.TheVariants as choice
use Rattle.loft_report_shape.specs.declared.part.Part.{Part}
use Rattle.loft_report_shape.specs.declared.part.Part.TheVariants as part
use Rattle.loft_report_shape.specs.declared.part.NumberKind.{NumberKind}
use Rattle.loft_report_shape.specs.declared.part.NumberKind.TheVariants as number
use Rattle.loft_report_shape.specs.declared.part.NameRole.TheVariants as role
use Rattle.loft_report_shape.proofs.WordLemmas.{AllOf, each, by_word}
use Rattle.loft_report_shape.proofs.Spelled.{Sp, top, only_bytes, number_is, one}
use Rattle.loft_report_shape.proofs.Blocks.{ended_text, first_block}

-- ---- the choices

abbrev with_choices : List Choice → Report → Report
with_choices cs r = record r { choices = r.choices ++ cs }

record Chosen (n : ℕ) (r : Report) (text : List ℕ) (last : Left grammar) : Type 0 where
  items : List Choice
  many : length items ≡ n
  ws : List (List ℕ)
  rest : List ℕ
  split : text ≡ flat_map choice_text items ++ rest
  spells : Sp ws (part.Choices 0 ∷ []) (top (with_choices items r)) rest last

abbrev Choices_law : ℕ → Type 0
Choices_law n = (ws : List (List ℕ)) (r : Report) (text : List ℕ) (last : Left grammar) → Sp ws (part.Choices n ∷ []) (top r) text last → Chosen n r text last

not_nought : (n : ℕ) → (suc n == 0) ≡ true → ⊥
not_nought n e = let f : suc n ≡ 0 = grind (arith, e) in omega (arith, f)

one_less : (n : ℕ) → suc n - 1 ≡ n
one_less n = omega arith

regroup_line : (x d rest : List ℕ) → x ++ 32 ∷ (d ++ 10 ∷ rest) ≡ (x ++ 32 ∷ (d ++ 10 ∷ [])) ++ rest
regroup_line x d rest = simp append_assoc refl

-- a word, a blank, what it names, and the line's end
choice_line : (n : ℕ) (p : Part) (x : Word) (c : List ℕ → Choice) → ((v : List ℕ) (r : Report) → note p v (top r) ≡ top (chosen (c v) r)) → ((v : List ℕ) → after p v ≡ []) → ((v : List ℕ) → (set_of p).whole v ≡ true → choice_text (c v) ≡ line_of x v)
    → Choices_law n → (ws : List (List ℕ)) (r : Report) (text w rest : List ℕ) (last : Left grammar) → text ≡ w ++ rest → spelling x ≡ w
    → Sp ws (blank ∷ p ∷ feed ∷ part.Choices (suc n - 1) ∷ []) (top r) rest last → Chosen (suc n) r text last
choice_line n p x c noted none shown ih ws r text w rest last split same s =
    let qs : List Part = part.Choices (suc n - 1) ∷ [] in
    let a = one ws blank (p ∷ feed ∷ qs) (top r) rest last s in
    let b = one a.ws p (feed ∷ qs) (top r) a.rest last a.spells in
    let next = chosen (c b.word) r in
    let s1 : Sp b.ws (feed ∷ qs) (note p b.word (top r)) b.rest last = subst (λ ps. Sp b.ws (ps ++ feed ∷ qs) (note p b.word (top r)) b.rest last) (none b.word) b.spells in
    let s2 : Sp b.ws (feed ∷ qs) (top next) b.rest last = subst (λ t. Sp b.ws (feed ∷ qs) t b.rest last) (noted b.word r) s1 in
    let d = one b.ws feed qs (top next) b.rest last s2 in
    let s3 : Sp d.ws (part.Choices n ∷ []) (top next) d.rest last = subst (λ m. Sp d.ws (part.Choices m ∷ []) (top next) d.rest last) (one_less n) d.spells in
    let h = ih d.ws next d.rest last s3 in
    let a1 : a.word ≡ 32 ∷ [] = only_bytes (32 ∷ []) a.word a.whole in
    let d1 : d.word ≡ 10 ∷ [] = only_bytes (10 ∷ []) d.word d.whole in
    let e3 : b.rest ≡ 10 ∷ d.rest = d.split ∙ ap (λ (t : List ℕ). t ++ d.rest) d1 in
    let e2 : rest ≡ 32 ∷ (b.word ++ 10 ∷ d.rest) = a.split ∙ ap (λ (t : List ℕ). t ++ a.rest) a1 ∙ ap (λ (t : List ℕ). 32 ∷ t) (b.split ∙ ap (λ (t : List ℕ). b.word ++ t) e3) in
    let e1 : text ≡ line_of x b.word ++ d.rest = split ∙ ap (λ (t : List ℕ). t ++ rest) (sym same) ∙ ap (λ (t : List ℕ). spelling x ++ t) e2 ∙ regroup_line (spelling x) b.word d.rest in
    let e0 : text ≡ choice_text (c b.word) ++ d.rest = e1 ∙ ap (λ (t : List ℕ). t ++ d.rest) (sym (shown b.word b.whole)) in
    record {
      items = c b.word ∷ h.items;
      many = ap (λ (k : ℕ). suc k) h.many;
      ws = h.ws;
      rest = h.rest;
      split = e0 ∙ ap (λ (t : List ℕ). choice_text (c b.word) ++ t) h.split ∙ sym (append_assoc (choice_text (c b.word)) (flat_map choice_text h.items) h.rest);
      spells = subst (λ cs. Sp h.ws (part.Choices 0 ∷ []) (top (record r { choices = cs })) h.rest last) (append_assoc r.choices (c b.word ∷ []) h.items) h.spells;
    }

worker_shown : (x : Word) (v : List ℕ) → is_number true 15 v ≡ true → line_of x (decimal (value_of v)) ≡ line_of x v
worker_shown x v e = ap (line_of x) (sym (number_is true 15 v (omega arith) e))

choices_law : (n : ℕ) → Choices_law n
choices_law n [] r text last s = absurd (let h = s.0 in cc)
choices_law zero (w ∷ ws) r text last s = record { items = []; many = refl; ws = w ∷ ws; rest = text; split = refl; spells = subst (λ cs. Sp (w ∷ ws) (part.Choices 0 ∷ []) (top (record r { choices = cs })) text last) (sym (append-nil r.choices)) s }
choices_law (suc n) (w ∷ ws) r text last (rest, split, whole, s) = go (choices_law n) (suc n == 0) refl whole s
  where
    Picks : Word → Type 0
    Picks x = Sp ws (after_choice (Some x) (suc n - 1) ++ []) (top r) rest last → Chosen (suc n) r text last

    picks : Choices_law n → AllOf (λ x. spelling x ≡ w → Picks x) choice_words
    picks ih = (
      (λ same t. choice_line n (part.Name role.Take) word.Take (λ v. choice.Take v) (λ v u. refl) (λ v. refl) (λ v h. refl) ih ws r text w rest last split same t),
      (
        (λ same t. choice_line n (part.Name role.Give) word.Give (λ v. choice.Give v) (λ v u. refl) (λ v. refl) (λ v h. refl) ih ws r text w rest last split same t),
        (
          (λ same t. choice_line n (part.Number number.Pick) word.Pick (λ v. choice.Pick (value_of v)) (λ v u. refl) (λ v. refl) (worker_shown word.Pick) ih ws r text w rest last split same t),
          (
            (λ same t. choice_line n (part.Number number.Post) word.Post (λ v. choice.Post (value_of v)) (λ v u. refl) (λ v. refl) (worker_shown word.Post) ih ws r text w rest last split same t),
            (
              (λ same t. choice_line n (part.Name role.Client) word.Client (λ v. choice.Client v) (λ v u. refl) (λ v. refl) (λ v h. refl) ih ws r text w rest last split same t),
              tt,
            ),
          ),
        ),
      ),
    )

    -- no line of a choice changes where bytes are kept
    stays : AllOf (λ x. keeps w (enters (Some x) (top r)) ≡ top r) choice_words
    stays = (refl, (refl, (refl, (refl, (refl, tt)))))

    go : Choices_law n → (b : Bool) → (suc n == 0) ≡ b → (menu (if b then block_words else choice_words)).whole w ≡ true
        → Sp ws ((if b then after_blocks (word_of w) else after_choice (word_of w) (suc n - 1)) ++ []) (keeps w (enters (word_of w) (top r))) rest last → Chosen (suc n) r text last
    go ih true e f t = absurd (not_nought n e)
    go ih false e f t =
        let x = each (λ x. spelling x ≡ w → Picks x) choice_words (picks ih) w f in
        let told : keeps w (enters (word_of w) (top r)) ≡ top r = by_word (λ t. keeps w t ≡ top r) (λ o. enters o (top r)) choice_words stays w f in
        x.3 x.2 (subst (λ u. Sp ws (after_choice (Some x.0) (suc n - 1) ++ []) u rest last) told (subst (λ o. Sp ws (after_choice o (suc n - 1) ++ []) (keeps w (enters (word_of w) (top r))) rest last) x.1 t))

-- ---- the head

record Numbered (x : Word) (n : NumberKind) (tail : List ℕ → List Part) (r : Report) (text : List ℕ) (last : Left grammar) : Type 0 where
  word : List ℕ
  ws : List (List ℕ)
  rest : List ℕ
  split : text ≡ line_of x (decimal (value_of word)) ++ rest
  spells : Sp ws (tail word) (top (number_told n (value_of word) r)) rest last

-- a line with a number
numbered : (x : Word) (n : NumberKind) (nought : Bool) (m : ℕ) → m < 2 ^ 64 → ((w : List ℕ) → (number_set n).whole w ≡ true → is_number nought m w ≡ true) → (qs : List Part) (tail : List ℕ → List Part)
    → ((v : List ℕ) → after (part.Number n) v ++ qs ≡ feed ∷ tail v)
    → (ws : List (List ℕ)) (r : Report) (text : List ℕ) (last : Left grammar)
    → Sp ws (part.Fixed x ∷ blank ∷ part.Number n ∷ qs) (top r) text last → Numbered x n tail r text last
numbered x n nought m small is qs tail goes ws r text last s =
    let a = one ws (part.Fixed x) (blank ∷ part.Number n ∷ qs) (top r) text last s in
    let b = one a.ws blank (part.Number n ∷ qs) (top r) a.rest last a.spells in
    let c = one b.ws (part.Number n) qs (top r) b.rest last b.spells in
    let next : Told = top (number_told n (value_of c.word) r) in
    let d = one c.ws feed (tail c.word) next c.rest last (subst (λ ps. Sp c.ws ps next c.rest last) (goes c.word) c.spells) in
    let a1 : a.word ≡ spelling x = only_bytes (spelling x) a.word a.whole in
    let b1 : b.word ≡ 32 ∷ [] = only_bytes (32 ∷ []) b.word b.whole in
    let c1 : c.word ≡ decimal (value_of c.word) = number_is nought m c.word small (is c.word c.whole) in
    let d1 : d.word ≡ 10 ∷ [] = only_bytes (10 ∷ []) d.word d.whole in
    let e3 : c.rest ≡ 10 ∷ d.rest = d.split ∙ ap (λ (t : List ℕ). t ++ d.rest) d1 in
    let e2 : b.rest ≡ decimal (value_of c.word) ++ 10 ∷ d.rest = c.split ∙ ap (λ (t : List ℕ). t ++ c.rest) c1 ∙ ap (λ (t : List ℕ). decimal (value_of c.word) ++ t) e3 in
    let e1 : a.rest ≡ 32 ∷ (decimal (value_of c.word) ++ 10 ∷ d.rest) = b.split ∙ ap (λ (t : List ℕ). t ++ b.rest) b1 ∙ ap (λ (t : List ℕ). 32 ∷ t) e2 in
    let e0 : text ≡ spelling x ++ 32 ∷ (decimal (value_of c.word) ++ 10 ∷ d.rest) = a.split ∙ ap (λ (t : List ℕ). t ++ a.rest) a1 ∙ ap (λ (t : List ℕ). spelling x ++ t) e1 in
    record { word = c.word; ws = d.ws; rest = d.rest; split = e0 ∙ regroup_line (spelling x) (decimal (value_of c.word)) d.rest; spells = d.spells }

abbrev from_history : List Part
from_history = number_line word.History number.History

abbrev from_workers : List Part
from_workers = number_line word.Workers number.Workers ++ feed ∷ from_history

abbrev from_block : List Part
from_block = number_line word.Block number.Block ++ feed ∷ from_workers

abbrev from_budget : List Part
from_budget = number_line word.Budget number.Budget ++ feed ∷ from_block

abbrev from_instants : List Part
from_instants = number_line word.Instants number.Instants ++ feed ∷ from_budget

regroup_head : (a i b c w h s x : List ℕ) → (a ++ (i ++ (b ++ (c ++ (w ++ (h ++ s)))))) ++ x ≡ a ++ (i ++ (b ++ (c ++ (w ++ (h ++ (s ++ x))))))
regroup_head a i b c w h s x = simp append_assoc refl

-- The text of a report is this one.
pub one_text : (text : List ℕ) (r : Report) → Shape text r → text ≡ text_of r
one_text text r (last, (ws, s), e) =
    let r0 = nothing_told.report in
    let a = one ws (part.Fixed word.Report) (feed ∷ from_instants) (top r0) text last s in
    let b = one a.ws feed from_instants (top r0) a.rest last a.spells in
    let i = numbered word.Instants number.Instants false 1000000 (omega arith) (λ w k. k) (feed ∷ from_budget) (λ v. from_budget) (λ v. refl) b.ws r0 b.rest last b.spells in
    let r1 = number_told number.Instants (value_of i.word) r0 in
    let j = numbered word.Budget number.Budget false 1000000 (omega arith) (λ w k. k) (feed ∷ from_block) (λ v. from_block) (λ v. refl) i.ws r1 i.rest last i.spells in
    let r2 = number_told number.Budget (value_of j.word) r1 in
    let k = numbered word.Block number.Block false 100000000 (omega arith) (λ w k. k) (feed ∷ from_workers) (λ v. from_workers) (λ v. refl) j.ws r2 j.rest last j.spells in
    let r3 = number_told number.Block (value_of k.word) r2 in
    let l = numbered word.Workers number.Workers false 16 (omega arith) (λ w k. k) (feed ∷ from_history) (λ v. from_history) (λ v. refl) k.ws r3 k.rest last k.spells in
    let r4 = number_told number.Workers (value_of l.word) r3 in
    let m = numbered word.History number.History true max_number (omega arith) (λ w k. k) [] (λ v. part.Choices (value_of v) ∷ []) (λ v. refl) l.ws r4 l.rest last l.spells in
    let c = choices_law (value_of m.word) m.ws r4 m.rest last m.spells in
    let r5 = with_choices c.items r4 in
    let z = first_block c.ws r5 c.rest last refl c.spells in
    let whole : c.rest ≡ body_text last.told.report ++ ended_text = z.body in
    let l1 = line_of word.Instants (decimal (value_of i.word)) in
    let l2 = line_of word.Budget (decimal (value_of j.word)) in
    let l3 = line_of word.Block (decimal (value_of k.word)) in
    let l4 = line_of word.Workers (decimal (value_of l.word)) in
    let l5 = line_of word.History (decimal (length c.items)) in
    let cs = flat_map choice_text c.items in
    let end = body_text last.told.report ++ ended_text in
    let t5 : l.rest ≡ l5 ++ (cs ++ end) = m.split ∙ ap (λ (n : ℕ). line_of word.History (decimal n) ++ m.rest) (sym c.many) ∙ ap (λ (t : List ℕ). l5 ++ t) (c.split ∙ ap (λ (t : List ℕ). cs ++ t) whole) in
    let t2 : b.rest ≡ l1 ++ (l2 ++ (l3 ++ (l4 ++ (l5 ++ (cs ++ end))))) =
    i.split ∙ ap (λ (t : List ℕ). l1 ++ t) (j.split ∙ ap (λ (t : List ℕ). l2 ++ t) (k.split ∙ ap (λ (t : List ℕ). l3 ++ t) (l.split ∙ ap (λ (t : List ℕ). l4 ++ t) t5))) in
    let front : text ≡ (spelling word.Report ++ 10 ∷ []) ++ b.rest = first_line a.word b.word text a.rest b.rest a.split b.split a.whole b.whole in
    let shown : text ≡ head_text r5 ++ end =
    front ∙ ap (λ (t : List ℕ). (spelling word.Report ++ 10 ∷ []) ++ t) t2 ∙ sym (regroup_head (spelling word.Report ++ 10 ∷ []) l1 l2 l3 l4 l5 cs end) in
    shown ∙ ap (λ (t : List ℕ). t ++ end) (sym z.head) ∙ ap text_of (sym e)
  where
    first_line : (v w text r1 r2 : List ℕ) → text ≡ v ++ r1 → r1 ≡ w ++ r2 → (set_of (part.Fixed word.Report)).whole v ≡ true → (set_of feed).whole w ≡ true → text ≡ (spelling word.Report ++ 10 ∷ []) ++ r2
    first_line v w text r1 r2 p q f g =
        p ∙ ap (λ (t : List ℕ). t ++ r1) (only_bytes (spelling word.Report) v f) ∙ ap (λ (t : List ℕ). spelling word.Report ++ t) (q ∙ ap (λ (t : List ℕ). t ++ r2) (only_bytes (10 ∷ []) w g))
        ∙ sym (append_assoc (spelling word.Report) (10 ∷ []) r2)
