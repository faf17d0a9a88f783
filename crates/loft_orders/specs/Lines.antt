-- The lines of an instant, by its batch and by what it did (docs/REPORT.md, "An instant").
use Rattle.std.specs.Prelude.{ℕ, ◌+◌, ◌==◌, ℤ, List, [], ◌∷◌, ◌++◌, map, codes, if◌then◌else◌}
use Rattle.std.specs.List.{flat_map}
use Rattle.std.specs.Fmt.{decimal, signed_decimal}
use Rattle.loft_base.specs.declared.ids.SchedId.{SchedId}
use Rattle.loft_base.specs.declared.ids.SharedId.{SharedId}
use Rattle.loft_base.specs.declared.ids.ThreadId.{ThreadId}
use Rattle.loft_tree.specs.declared.heads.Heads.{Heads}
use Rattle.loft_orders.specs.declared.thread.Thread.{Thread}
use Rattle.loft_orders.specs.declared.order.End.{End}
use Rattle.loft_orders.specs.declared.order.Order.{Order}
use Rattle.loft_orders.specs.declared.order.Order.TheVariants as order
use Rattle.loft_orders.specs.declared.order.Mark.{Mark}
use Rattle.loft_orders.specs.declared.order.Mark.TheVariants as mark
use Rattle.loft_orders.specs.declared.order.To.{To}
use Rattle.loft_orders.specs.declared.order.To.TheVariants as to
use Rattle.loft_orders.specs.declared.order.Sent.{Sent}
use Rattle.loft_orders.specs.declared.note.Act.{Act}
use Rattle.loft_orders.specs.declared.note.Act.TheVariants as act
use Rattle.loft_orders.specs.declared.note.Ended.{Ended}
use Rattle.loft_orders.specs.declared.note.InstantNote.{InstantNote}
use Rattle.loft_orders.specs.Text.{space, scheduler_name, event_name, shared_name, id_text, end_text, thread_text, order_text, sent_value}

-- lines, each with its line feed
abbrev pub text_of : List (List ℕ) → List ℕ
text_of lines = flat_map (λ line. line ++ 10 ∷ []) lines

abbrev pub end_line : Heads → ThreadId → End → List ℕ
end_line h t end = codes "end " ++ (id_text h t ++ (space ++ end_text h end))

abbrev pub mark_word : Mark → List ℕ
mark_word mark.Done = codes "in "
mark_word mark.Void = codes "void "
mark_word mark.Full = codes "full "

-- the ends that the order with index k made
abbrev pub ends_at : Heads → ℕ → List Ended → List (List ℕ)
ends_at h k [] = []
ends_at h k (e ∷ es) = if e.index == k then end_line h e.thread e.end ∷ ends_at h k es else ends_at h k es

-- the orders of a batch from index k on, with their marks
abbrev pub batch_lines : Heads → List Ended → ℕ → List Order → List Mark → List (List ℕ)
batch_lines h stopped k [] marks = []
batch_lines h stopped k (o ∷ os) [] = []
batch_lines h stopped k (o ∷ os) (m ∷ marks) = (mark_word m ++ order_text h o) ∷ ends_at h k stopped ++ batch_lines h stopped (k + 1) os marks

-- the name of the scheduler to which an order goes, and nothing where it goes elsewhere
abbrev pub receiver_name : Heads → To → List ℕ
receiver_name h (to.Sched s) = scheduler_name h s
receiver_name h there = []

-- where a thread goes that leaves: to a scheduler, or to the workers
abbrev pub leave_place : Heads → To → List ℕ
leave_place h (to.Sched s) = scheduler_name h s
leave_place h to.Workers = codes "unlinked"
leave_place h there = []

abbrev pub act_line : Heads → Act → List ℕ
act_line h (act.Print t line) = codes "print " ++ (id_text h t ++ (space ++ line))
act_line h (act.Gen t event value) = codes "gen " ++ (id_text h t ++ (space ++ (event_name h event ++ sent_value value)))
act_line h (act.Out t sent) = codes "out " ++ (id_text h t ++ (space ++ (receiver_name h sent.to ++ (space ++ order_text h sent.order))))
act_line h (act.End t end) = end_line h t end

-- a thread that leaves
abbrev pub leave_line : Heads → To → Order → List (List ℕ)
leave_line h to (order.Arrive t) = (codes "leave " ++ (id_text h t.id ++ (space ++ leave_place h to))) ∷ []
leave_line h to order = []

abbrev pub leave_lines : Heads → List Sent → List (List ℕ)
leave_lines h sents = flat_map (λ m. leave_line h m.to m.order) sents

abbrev pub at_line : Heads → Thread → List ℕ
at_line h t = codes "at " ++ thread_text h t

abbrev pub shared_line : Heads → SharedId → ℤ → List ℕ
shared_line h x value = codes "shared " ++ (shared_name h x ++ (space ++ signed_decimal value))

-- the first line of a scheduler's block
abbrev pub scheduler_line : Heads → SchedId → List ℕ
scheduler_line h s = codes "scheduler " ++ scheduler_name h s

-- an instant: its number, its batch, its acts, who left, who stands how, which shared variables changed
abbrev pub instant_lines : Heads → List Order → InstantNote → List (List ℕ)
instant_lines h batch note =
    (codes "instant " ++ decimal note.number)
    ∷ (batch_lines h note.stopped 0 batch note.marks
    ++ (map (act_line h) note.acts
    ++ (leave_lines h note.sent
    ++ (map (at_line h) note.stands
    ++ map (λ c. shared_line h c.shared c.value) note.changed))))
