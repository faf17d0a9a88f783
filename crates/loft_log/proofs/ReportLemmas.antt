-- The parts of a report, one after the other.
use Rattle.std.proofs.Common.{◌≡◌, ℕ, ◌+◌, ◌-◌, ◌==◌, ◌<◌, Bool, true, false, List, [], ◌∷◌, ◌++◌, length, drop, get_or, min, ◌≤◌, map, Some, slice_get, sym, length-append, refl, ap, ◌∙◌, if◌then◌else◌, codes, arith, length-drop, ℤ, FitsSigned, w64, to_z, of_z, eq-eqb}
use Rattle.std.specs.Fmt.{signed_decimal}
use Rattle.std.proofs.lemmas.Grind.{common_steps}
use Rattle.std.proofs.lemmas.Bool.{ne_eqb}
use Rattle.std.proofs.lemmas.Int.{to_z-of_z}
use Rattle.std.proofs.lemmas.List.{drop_all, length-map}
use Rattle.std.proofs.lemmas.Option.{slice_get_read, slice_get_within, get_or_from_slice_get}
use Rattle.loft_base.specs.declared.ids.SchedId.{SchedId}
use Rattle.loft_base.specs.declared.ids.SharedId.{SharedId}
use Rattle.loft_tree.specs.declared.heads.SharedHead.{SharedHead}
use Rattle.loft_tree.specs.declared.heads.Heads.{Heads}
use Rattle.loft_orders.specs.declared.order.Order.{Order}
use Rattle.loft_orders.specs.declared.order.Order.TheVariants.{Arrive}
use Rattle.loft_orders.specs.declared.order.To.{To}
use Rattle.loft_orders.specs.declared.thread.Thread.{Thread}
use Rattle.loft_orders.specs.declared.order.Mark.{Mark}
use Rattle.loft_orders.specs.declared.order.Sent.{Sent}
use Rattle.loft_orders.specs.declared.note.Ended.{Ended}
use Rattle.loft_sense.specs.Heads.{scheduler, shared_from}
use Rattle.loft_history.specs.History.{choice_of, log, waiting}
use Rattle.loft_orders.specs.Text.{space, name_or_none, id_text, order_text}
use Rattle.loft_orders.specs.Lines.{text_of, end_line, mark_word, ends_at, batch_lines, leave_line, leave_lines, leave_place, instant_lines}
use Rattle.loft_history.specs.Report.{choice_line, instants_lines, shared_lines, left_line, schedulers_from}
use Rattle.loft_orders.specs.declared.entry.Entry.{Entry}
use Rattle.loft_orders.specs.declared.note.FinalState.{FinalState}
use Rattle.loft_orders.specs.declared.note.InstantNote.{InstantNote}
use Rattle.loft_history.proofs.HistoryLemmas.{log-append}
use Rattle.loft_log.specs.WorldReport.{world_block, world_blocks, left_of_each}
use Rattle.loft_log.proofs.LineLemmas.{text_of-append, text_of-one, drop-at}

ends_at-by : (h : Heads) (k : ℕ) (e : Ended) (es : List Ended) (here : Bool) → (if here then end_line h e.thread e.end ∷ ends_at h k es else ends_at h k es) ≡ (if here then end_line h e.thread e.end ∷ [] else []) ++ ends_at h k es
ends_at-by h k e es true = refl
ends_at-by h k e es false = refl

-- one end, and the others
pub text-ends_at : (h : Heads) (k : ℕ) (e : Ended) (es : List Ended) → text_of (ends_at h k (e ∷ es)) ≡ text_of (ends_at h k (e ∷ [])) ++ text_of (ends_at h k es)
text-ends_at h k e es = ap text_of (ends_at-by h k e es (e.index == k)) ∙ text_of-append (ends_at h k (e ∷ [])) (ends_at h k es)

-- the end that the order with this index made
pub end-written : (h : Heads) (k : ℕ) (e : Ended) → e.index ≡ k → text_of (ends_at h k (e ∷ [])) ≡ end_line h e.thread e.end ++ 10 ∷ []
end-written h k e is = ap (λ b. text_of (if b then end_line h e.thread e.end ∷ [] else [])) (eq-eqb e.index k is) ∙ text_of-one (end_line h e.thread e.end)

-- the thread that an order moves
pub leaver-written : (h : Heads) (to : To) (o : Order) (t read : Thread) → o ≡ Arrive t → read ≡ t → text_of (leave_line h to o) ≡ (codes "leave " ++ (id_text h read.id ++ (space ++ leave_place h to))) ++ 10 ∷ []
leaver-written h to o t read is same =
    ap (λ x. text_of (leave_line h to x)) is
    ∙ (text_of-one (codes "leave " ++ (id_text h t.id ++ (space ++ leave_place h to)))
    ∙ ap (λ r. (codes "leave " ++ (id_text h r.id ++ (space ++ leave_place h to))) ++ 10 ∷ []) (sym same))

-- the element at an index is the same, whatever stands for one past the end
same_at : {A : Type 0} (xs : List A) (i : ℕ) (d e : A) → i < length xs → get_or xs i d ≡ get_or xs i e
same_at xs i d e below = grind (arith, common_steps)

-- what is left of the ends begins with the one at this index
pub ends_at-from : (h : Heads) (k : ℕ) (es : List Ended) (i : ℕ) (d : Ended) → i < length es → text_of (ends_at h k (drop i es)) ≡ text_of (ends_at h k (get_or es i d ∷ [])) ++ text_of (ends_at h k (drop (i + 1) es))
ends_at-from h k es i d below =
    ap (λ xs. text_of (ends_at h k xs)) (drop-at es i (get_or es i d) below (same_at es i d (get_or es i d) below)) ∙ text-ends_at h k (get_or es i d) (drop (i + 1) es)

-- what is left of the orders that were sent begins with the one at this index
pub leave_lines-from : (h : Heads) (ms : List Sent) (i : ℕ) (m : Sent) → i < length ms → m ≡ get_or ms i m → text_of (leave_lines h (drop i ms)) ≡ text_of (leave_line h m.to m.order) ++ text_of (leave_lines h (drop (i + 1) ms))
leave_lines-from h ms i m below is = ap (λ xs. text_of (leave_lines h xs)) (drop-at ms i m below is) ∙ text_of-append (leave_line h m.to m.order) (leave_lines h (drop (i + 1) ms))

-- what is left of a history begins with the entry that is read at this position, which is counted from 1
pub entries-from : (es : List Entry) (i : ℕ) (e : Entry) → Some e ≡ slice_get es (i + 1 - 1) → drop i es ≡ e ∷ drop (i + 1) es
entries-from es i e is =
    let before : i + 1 - 1 ≡ i = omega arith in
    let read : slice_get es i ≡ Some e = sym (is ∙ ap (slice_get es) before) in
    drop-at es i e (slice_get_within es i e read) (sym (get_or_from_slice_get es i e e read))

-- what is left of the choices begins with that of the entry at this index
pub choices-from : (h : Heads) (es : List Entry) (i : ℕ) (e : Entry) → Some e ≡ slice_get es (i + 1 - 1) → text_of (map (choice_line h) (map choice_of (drop i es))) ≡ (choice_line h (choice_of e) ++ 10 ∷ []) ++ text_of (map (choice_line h) (map choice_of (drop (i + 1) es)))
choices-from h es i e is = ap (λ xs. text_of (map (choice_line h) (map choice_of xs))) (entries-from es i e is)

-- after the last entry no choice is left
pub choices-end : (h : Heads) (es : List Entry) (i : ℕ) → length es ≤ i → text_of (map (choice_line h) (map choice_of (drop i es))) ≡ []
choices-end h es i past = ap (λ xs. text_of (map (choice_line h) (map choice_of xs))) (drop_all i es past)

-- what is left of a scheduler's batches, where the entry at this index takes these
log-from : (s : SchedId) (es : List Entry) (i : ℕ) (e : Entry) (own : List (List Order)) → Some e ≡ slice_get es (i + 1 - 1) → log s (e ∷ []) ≡ own → log s (drop i es) ≡ own ++ log s (drop (i + 1) es)
log-from s es i e own is takes = ap (log s) (entries-from es i e is) ∙ log-append s (e ∷ []) (drop (i + 1) es) ∙ ap (λ batches. batches ++ log s (drop (i + 1) es)) takes

-- what is left of the instants begins with that of the batch at this index
pub instants-taken : (h : Heads) (s : SchedId) (es : List Entry) (i : ℕ) (e : Entry) (batch : List Order) (n : InstantNote) (left rest : List InstantNote) → Some e ≡ slice_get es (i + 1 - 1) → log s (e ∷ []) ≡ batch ∷ [] → left ≡ n ∷ rest
    → text_of (instants_lines h (log s (drop i es)) left) ≡ text_of (instant_lines h batch n) ++ text_of (instants_lines h (log s (drop (i + 1) es)) rest)
instants-taken h s es i e batch n left rest is takes first =
    ap (λ batches. text_of (instants_lines h batches left)) (log-from s es i e (batch ∷ []) is takes)
    ∙ ap (λ notes. text_of (instants_lines h (batch ∷ log s (drop (i + 1) es)) notes)) first
    ∙ text_of-append (instant_lines h batch n) (instants_lines h (log s (drop (i + 1) es)) rest)

-- an entry that takes no batch of the scheduler has no instant
pub instants-passed : (h : Heads) (s : SchedId) (es : List Entry) (i : ℕ) (e : Entry) (left : List InstantNote) → Some e ≡ slice_get es (i + 1 - 1) → log s (e ∷ []) ≡ []
    → text_of (instants_lines h (log s (drop i es)) left) ≡ text_of (instants_lines h (log s (drop (i + 1) es)) left)
instants-passed h s es i e left is takes = ap (λ batches. text_of (instants_lines h batches left)) (log-from s es i e [] is takes)

no-notes : (h : Heads) (batches : List (List Order)) (notes : List InstantNote) → length notes ≡ 0 → instants_lines h batches notes ≡ []
no-notes h [] notes none = refl
no-notes h (b ∷ bs) [] none = refl
no-notes h (b ∷ bs) (n ∷ ns) none = absurd (omega arith)

-- without a further note nothing is left
pub instants-spent : (h : Heads) (batches : List (List Order)) (notes : List InstantNote) → length notes ≡ 0 → text_of (instants_lines h batches notes) ≡ []
instants-spent h batches notes none = ap text_of (no-notes h batches notes none)

-- after the last entry no instant is left
pub instants-end : (h : Heads) (s : SchedId) (es : List Entry) (i : ℕ) (left : List InstantNote) → length es ≤ i → text_of (instants_lines h (log s (drop i es)) left) ≡ []
instants-end h s es i left past = ap (λ xs. text_of (instants_lines h (log s xs) left)) (drop_all i es past)

-- the blocks of the schedulers from number k on
abbrev pub blocks_after : Heads → List Entry → ℕ → List (List InstantNote) → List FinalState → List (List ℕ)
blocks_after h es k notes finals = world_blocks h es (schedulers_from k (drop k h.schedulers)) (drop k notes) (drop k finals)

blocks-from : (h : Heads) (es : List Entry) (k : ℕ) (notes : List (List InstantNote)) (finals : List FinalState) (n : List InstantNote) (last : FinalState) → k < length h.schedulers → k < length notes → k < length finals → n ≡ get_or notes k n → last ≡ get_or finals k last
    → text_of (blocks_after h es k notes finals) ≡ text_of (world_block h es (scheduler k) n last) ++ text_of (blocks_after h es (k + 1) notes finals)
blocks-from h es k notes finals n last declared noted stands is_note is_last =
    ap (λ names. text_of (world_blocks h es (schedulers_from k names) (drop k notes) (drop k finals))) (drop-at h.schedulers k (get_or h.schedulers k []) declared (same_at h.schedulers k [] (get_or h.schedulers k []) declared))
    ∙ ap (λ ns. text_of (world_blocks h es (scheduler k ∷ schedulers_from (k + 1) (drop (k + 1) h.schedulers)) ns (drop k finals))) (drop-at notes k n noted is_note)
    ∙ ap (λ fs. text_of (world_blocks h es (scheduler k ∷ schedulers_from (k + 1) (drop (k + 1) h.schedulers)) (n ∷ drop (k + 1) notes) fs)) (drop-at finals k last stands is_last)
    ∙ text_of-append (world_block h es (scheduler k) n last) (blocks_after h es (k + 1) notes finals)

-- what is left of the blocks begins with that of the scheduler with this number
pub blocks-written : (h : Heads) (es : List Entry) (k : ℕ) (notes : List (List InstantNote)) (finals : List FinalState) (s : SchedId) (n found : List InstantNote) (last : FinalState) → k < length h.schedulers → k < length notes → k < length finals → s ≡ scheduler k → n ≡ found → found ≡ get_or notes k found → last ≡ get_or finals k last
    → text_of (blocks_after h es k notes finals) ≡ text_of (world_block h es s n last) ++ text_of (blocks_after h es (k + 1) notes finals)
blocks-written h es k notes finals s n found last declared noted stands is_s is_n is_note is_last =
    let rest = text_of (blocks_after h es (k + 1) notes finals) in
    blocks-from h es k notes finals found last declared noted stands is_note is_last
    ∙ (ap (λ t. text_of (world_block h es t found last) ++ rest) (sym is_s)
    ∙ ap (λ m. text_of (world_block h es s m last) ++ rest) (sym is_n))

blocks-none : (h : Heads) (es : List Entry) (k : ℕ) (names : List (List ℕ)) (notes : List (List InstantNote)) (finals : List FinalState) → min (min (length names) (length notes)) (length finals) ≡ 0 → world_blocks h es (schedulers_from k names) notes finals ≡ []
blocks-none h es k [] notes finals none = refl
blocks-none h es k (name ∷ names) [] finals none = refl
blocks-none h es k (name ∷ names) (n ∷ ns) [] none = refl
blocks-none h es k (name ∷ names) (n ∷ ns) (last ∷ finals) none = absurd (omega arith)

-- after the last scheduler that has notes and a state nothing is left
pub blocks-end : (h : Heads) (es : List Entry) (k : ℕ) (notes : List (List InstantNote)) (finals : List FinalState) → min (min (length h.schedulers) (length notes)) (length finals) ≤ k → text_of (blocks_after h es k notes finals) ≡ []
blocks-end h es k notes finals past = ap text_of (blocks-none h es k (drop k h.schedulers) (drop k notes) (drop k finals) (omega (arith, length-drop k h.schedulers, length-drop k notes, length-drop k finals)))

-- what waits for the schedulers from number k on
abbrev pub left_after : Heads → List Entry → ℕ → List (List ℕ)
left_after h es k = left_of_each h es (schedulers_from k (drop k h.schedulers))

left-first : (h : Heads) (es : List Entry) (k : ℕ) → k < length h.schedulers → left_after h es k ≡ map (left_line h (scheduler k)) (waiting h (scheduler k) es) ++ left_after h es (k + 1)
left-first h es k declared = ap (λ names. left_of_each h es (schedulers_from k names)) (drop-at h.schedulers k (get_or h.schedulers k []) declared (same_at h.schedulers k [] (get_or h.schedulers k []) declared))

-- what is left over begins with what waits for the scheduler with this number
pub left-from : (h : Heads) (es : List Entry) (k : ℕ) → k < length h.schedulers → text_of (left_after h es k) ≡ text_of (map (left_line h (scheduler k)) (waiting h (scheduler k) es)) ++ text_of (left_after h es (k + 1))
left-from h es k declared = ap text_of (left-first h es k declared) ∙ text_of-append (map (left_line h (scheduler k)) (waiting h (scheduler k) es)) (left_after h es (k + 1))

-- so many orders are left over from the scheduler with this number on, where so many wait for it
pub left-counted : (h made : Heads) (es : List Entry) (k : ℕ) (s : SchedId) (n : ℕ) → k < length h.schedulers → made ≡ h → s ≡ scheduler k → n ≡ length (waiting made s es) → length (left_after h es k) ≡ n + length (left_after h es (k + 1))
left-counted h made es k s n declared same is_s waits =
    let count : n ≡ length (waiting h (scheduler k) es) = waits ∙ (ap (λ g. length (waiting g s es)) same ∙ ap (λ t. length (waiting h t es)) is_s) in
    omega (arith, count, ap length (left-first h es k declared), length-append (map (left_line h (scheduler k)) (waiting h (scheduler k) es)) (left_after h es (k + 1)), length-map (waiting h (scheduler k) es) (left_line h (scheduler k)))

left-none : (h : Heads) (es : List Entry) (k : ℕ) → length h.schedulers ≤ k → left_after h es k ≡ []
left-none h es k past = ap (λ names. left_of_each h es (schedulers_from k names)) (drop_all k h.schedulers past)

-- after the last scheduler nothing is left over
pub left-end : (h : Heads) (es : List Entry) (k : ℕ) → length h.schedulers ≤ k → text_of (left_after h es k) ≡ []
left-end h es k past = ap text_of (left-none h es k past)

pub left-counted-end : (h : Heads) (es : List Entry) (k : ℕ) → length h.schedulers ≤ k → length (left_after h es k) ≡ 0
left-counted-end h es k past = ap length (left-none h es k past)

-- what is left of the batch begins with the order at this index
pub batch-from : (h : Heads) (stopped : List Ended) (os : List Order) (ms : List Mark) (k : ℕ) (o : Order) (d : Mark) → k < length os → o ≡ get_or os k o → k < length ms → text_of (batch_lines h stopped k (drop k os) (drop k ms)) ≡ text_of ((mark_word (get_or ms k d) ++ order_text h o) ∷ ends_at h k stopped) ++ text_of (batch_lines h stopped (k + 1) (drop (k + 1) os) (drop (k + 1) ms))
batch-from h stopped os ms k o d in_orders is_order in_marks =
    ap (λ xs. text_of (batch_lines h stopped k xs (drop k ms))) (drop-at os k o in_orders is_order)
    ∙ ap (λ ys. text_of (batch_lines h stopped k (o ∷ drop (k + 1) os) ys)) (drop-at ms k (get_or ms k d) in_marks (same_at ms k d (get_or ms k d) in_marks))
    ∙ text_of-append ((mark_word (get_or ms k d) ++ order_text h o) ∷ ends_at h k stopped) (batch_lines h stopped (k + 1) (drop (k + 1) os) (drop (k + 1) ms))

-- the same, where the ends of this order stand in another list too
pub batch-written : (h : Heads) (stopped here : List Ended) (os : List Order) (ms : List Mark) (k : ℕ) (o : Order) (d : Mark) → k < length os → o ≡ get_or os k o → k < length ms → ends_at h k here ≡ ends_at h k stopped → text_of (batch_lines h stopped k (drop k os) (drop k ms)) ≡ text_of ((mark_word (get_or ms k d) ++ order_text h o) ∷ ends_at h k here) ++ text_of (batch_lines h stopped (k + 1) (drop (k + 1) os) (drop (k + 1) ms))
batch-written h stopped here os ms k o d in_orders is_order in_marks same =
    batch-from h stopped os ms k o d in_orders is_order in_marks
    ∙ ap (λ ends. text_of ((mark_word (get_or ms k d) ++ order_text h o) ∷ ends) ++ text_of (batch_lines h stopped (k + 1) (drop (k + 1) os) (drop (k + 1) ms))) (sym same)

batch-none : (h : Heads) (stopped : List Ended) (k : ℕ) (os : List Order) (ms : List Mark) → min (length os) (length ms) ≡ 0 → batch_lines h stopped k os ms ≡ []
batch-none h stopped k [] ms none = refl
batch-none h stopped k (o ∷ os) [] none = refl
batch-none h stopped k (o ∷ os) (m ∷ ms) none = absurd (omega arith)

-- after the last order that has a mark nothing is left
pub batch-end : (h : Heads) (stopped : List Ended) (os : List Order) (ms : List Mark) (k : ℕ) → min (length os) (length ms) ≤ k → text_of (batch_lines h stopped k (drop k os) (drop k ms)) ≡ []
batch-end h stopped os ms k past = ap text_of (batch-none h stopped k (drop k os) (drop k ms) (omega (arith, length-drop k os, length-drop k ms)))

-- the lines of these values, for the scheduler's variables from number k on
abbrev pub shared_after : Heads → SchedId → ℕ → List ℤ → List (List ℕ)
shared_after h s k values = shared_lines h (shared_from k s (drop k h.shared)) values

abbrev pub value_text : List ℕ → ℤ → List ℕ
value_text name v = codes "shared " ++ (name ++ (space ++ signed_decimal v))

-- a line is that of a value, where its name is read from a list and its number from its bits
pub value_line-read : {line name read : List ℕ} (v : ℤ) → FitsSigned w64 v → line ≡ value_text read (to_z w64 (of_z w64 v)) → read ≡ name → line ≡ value_text name v
value_line-read {name = name} v fits is same = is ∙ (ap (λ n. value_text n (to_z w64 (of_z w64 v))) same ∙ ap (value_text name) (to_z-of_z w64 v fits))

-- another scheduler's variable has no line
pub shared-skipped : (h : Heads) (s : SchedId) (k : ℕ) (x : SharedHead) (values : List ℤ) → k < length h.shared → x ≡ get_or h.shared k x → (s.0 ≡ x.scheduler.0 → ⊥)
    → text_of (shared_after h s k values) ≡ text_of (shared_after h s (k + 1) values)
shared-skipped h s k x values below is elsewhere =
    ap (λ xs. text_of (shared_lines h (shared_from k s xs) values)) (drop-at h.shared k x below is)
    ∙ ap (λ b. text_of (shared_lines h (if b then record { 0 = k } ∷ shared_from (k + 1) s (drop (k + 1) h.shared) else shared_from (k + 1) s (drop (k + 1) h.shared)) values)) (ne_eqb s.0 x.scheduler.0 elsewhere)

-- the scheduler's variable at this index has the first value that is left
pub shared-written : (h : Heads) (s : SchedId) (k : ℕ) (x : SharedHead) (v : ℤ) (left rest : List ℤ) → k < length h.shared → x ≡ get_or h.shared k x → s.0 ≡ x.scheduler.0 → left ≡ v ∷ rest
    → text_of (shared_after h s k left) ≡ (value_text x.name v ++ 10 ∷ []) ++ text_of (shared_after h s (k + 1) rest)
shared-written h s k x v left rest below is here first =
    ap (λ values. text_of (shared_after h s k values)) first
    ∙ ap (λ xs. text_of (shared_lines h (shared_from k s xs) (v ∷ rest))) (drop-at h.shared k x below is)
    ∙ ap (λ b. text_of (shared_lines h (if b then record { 0 = k } ∷ shared_from (k + 1) s (drop (k + 1) h.shared) else shared_from (k + 1) s (drop (k + 1) h.shared)) (v ∷ rest))) (eq-eqb s.0 x.scheduler.0 here)
    ∙ ap (λ o. (value_text (name_or_none (λ (d : SharedHead). d.name) o) v ++ 10 ∷ []) ++ text_of (shared_after h s (k + 1) rest)) (slice_get_read h.shared (length h.shared) k x refl below is)

no-values : (h : Heads) (xs : List SharedId) → shared_lines h xs [] ≡ []
no-values h [] = refl
no-values h (x ∷ xs) = refl

-- without a further value nothing is left
pub shared-spent : (h : Heads) (s : SchedId) (k : ℕ) → text_of (shared_after h s k []) ≡ []
shared-spent h s k = ap text_of (no-values h (shared_from k s (drop k h.shared)))

-- after the last variable nothing is left
pub shared-end : (h : Heads) (s : SchedId) (k : ℕ) (values : List ℤ) → length h.shared ≤ k → text_of (shared_after h s k values) ≡ []
shared-end h s k values past = ap (λ xs. text_of (shared_lines h (shared_from k s xs) values)) (drop_all k h.shared past)
