-- The report of a history (docs/REPORT.md, "The report").
use Rattle.std.specs.Prelude.{ℕ, ◌+◌, ℤ, Bool, true, false, List, [], ◌∷◌, ◌++◌, length, map, codes}
use Rattle.std.specs.List.{flat_map}
use Rattle.std.specs.Fmt.{decimal}
use Rattle.loft_base.specs.declared.ids.SchedId.{SchedId}
use Rattle.loft_base.specs.declared.ids.SharedId.{SharedId}
use Rattle.loft_tree.specs.declared.heads.Heads.{Heads}
use Rattle.loft_orders.specs.declared.order.Order.{Order}
use Rattle.loft_orders.specs.declared.note.Standing.{Standing}
use Rattle.loft_orders.specs.declared.note.InstantNote.{InstantNote}
use Rattle.loft_base.specs.declared.options.Limits.{Limits}
use Rattle.loft_base.specs.declared.options.RunOptions.{RunOptions}
use Rattle.loft_sense.specs.Machine.{Prog, heads}
use Rattle.loft_sense.specs.Instant.{Replayed}
use Rattle.loft_orders.specs.declared.entry.Entry.{Entry}
use Rattle.loft_sense.specs.Heads.{shared_of}
use Rattle.loft_history.specs.History.{Choice, TakeBy, GiveBy, PickBy, PostBy, ClientBy, choice_of, log, waiting, replayed}
use Rattle.loft_orders.specs.Text.{client_name, space, scheduler_name, thread_text, order_text}
use Rattle.loft_orders.specs.Lines.{text_of, scheduler_line, shared_line, instant_lines}

abbrev pub choice_line : Heads → Choice → List ℕ
choice_line h (TakeBy s) = codes "take " ++ scheduler_name h s
choice_line h (GiveBy s) = codes "give " ++ scheduler_name h s
choice_line h (PickBy w) = codes "pick " ++ decimal w
choice_line h (PostBy w) = codes "post " ++ decimal w
choice_line h (ClientBy c) = codes "client " ++ client_name h c

-- the options, and the choices of the history
abbrev pub head_lines : Heads → RunOptions → List Choice → List (List ℕ)
head_lines h o choices =
    codes "loft-report 1"
    ∷ (codes "instants " ++ decimal o.limits.instants)
    ∷ (codes "budget " ++ decimal o.limits.budget)
    ∷ (codes "block " ++ decimal o.limits.block)
    ∷ (codes "workers " ++ decimal o.workers)
    ∷ (codes "history " ++ decimal (length choices))
    ∷ map (choice_line h) choices

-- the instants of a scheduler, on its batches in order
abbrev pub instants_lines : Heads → List (List Order) → List InstantNote → List (List ℕ)
instants_lines h [] notes = []
instants_lines h (b ∷ bs) [] = []
instants_lines h (b ∷ bs) (n ∷ ns) = instant_lines h b n ++ instants_lines h bs ns

abbrev pub standing_word : Bool → List ℕ
standing_word true = codes "suspended "
standing_word false = codes "linked "

abbrev pub standing_line : Heads → Standing → List ℕ
standing_line h s = standing_word s.suspended ++ thread_text h s.thread

-- a scheduler's shared variables with their values
abbrev pub shared_lines : Heads → List SharedId → List ℤ → List (List ℕ)
shared_lines h [] values = []
shared_lines h (x ∷ xs) [] = []
shared_lines h (x ∷ xs) (v ∷ values) = shared_line h x v ∷ shared_lines h xs values

-- how a scheduler stands in the end
abbrev pub final_lines : Heads → SchedId → List Standing → List ℤ → List (List ℕ)
final_lines h s linked shared =
    (codes "state " ++ decimal (length linked))
    ∷ (map (standing_line h) linked ++ shared_lines h (shared_of h s) shared)

-- a scheduler's block up to its final state
abbrev pub begun_lines : Heads → SchedId → List (List Order) → List InstantNote → List (List ℕ)
begun_lines h s batches notes = scheduler_line h s ∷ instants_lines h batches notes

-- a scheduler's block, of its batches alone
abbrev pub block_lines : Heads → SchedId → List (List Order) → Replayed → List (List ℕ)
block_lines h s batches r = begun_lines h s batches r.notes ++ final_lines h s r.machine.linked r.machine.shared

abbrev pub scheduler_lines : Prog → Limits → List Entry → SchedId → List (List ℕ)
scheduler_lines x limits es s = block_lines (heads x) s (log s es) (replayed x limits s es)

-- what waits at a scheduler in the end
abbrev pub left_line : Heads → SchedId → Order → List ℕ
left_line h s o = scheduler_name h s ++ (space ++ order_text h o)

abbrev pub left_lines : Prog → List Entry → SchedId → List (List ℕ)
left_lines x es s = map (left_line (heads x) s) (waiting (heads x) s es)

-- the schedulers from number k on, in the order of their names
abbrev pub schedulers_from : {A : Type 0} → ℕ → List A → List SchedId
schedulers_from k [] = []
schedulers_from k (name ∷ names) = record { 0 = k } ∷ schedulers_from (k + 1) names

abbrev pub schedulers : Prog → List SchedId
schedulers x = schedulers_from 0 (heads x).schedulers

-- orders that are left over, after how many there are
abbrev pub left_part : List (List ℕ) → List (List ℕ)
left_part lines = (codes "left " ++ decimal (length lines)) ∷ lines

-- options and choices, a block for each scheduler, what is left over
unfoldable pub report_lines : Prog → RunOptions → List Entry → List (List ℕ)
report_lines x o es =
    head_lines (heads x) o (map choice_of es)
    ++ (flat_map (scheduler_lines x o.limits es) (schedulers x)
    ++ (left_part (flat_map (left_lines x es) (schedulers x))
    ++ codes "end" ∷ []))

abbrev pub report : Prog → RunOptions → List Entry → List ℕ
report x o es = text_of (report_lines x o es)
