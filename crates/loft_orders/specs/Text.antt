-- The texts of values, as a report prints them (docs/REPORT.md, "Texts of values").
use Rattle.std.specs.Prelude.{ℕ, ℤ, List, [], ◌∷◌, ◌++◌, codes, Option, Some, None, unwrap_or, slice_get}
use Rattle.std.specs.List.{flat_map}
use Rattle.std.specs.Fmt.{decimal, signed_decimal}
use Rattle.loft_base.specs.declared.ids.EventId.{EventId}
use Rattle.loft_base.specs.declared.ids.ModuleId.{ModuleId}
use Rattle.loft_base.specs.declared.ids.SchedId.{SchedId}
use Rattle.loft_base.specs.declared.ids.SharedId.{SharedId}
use Rattle.loft_base.specs.declared.ids.Maker.{Maker}
use Rattle.loft_base.specs.declared.ids.Maker.TheVariants as maker
use Rattle.loft_base.specs.declared.ids.ThreadId.{ThreadId}
use Rattle.loft_base.specs.declared.ids.Value.{Value}
use Rattle.loft_base.specs.declared.ids.Value.TheVariants.{Int, Thread as ThreadValue}
use Rattle.loft_tree.specs.declared.heads.EventHead.{EventHead}
use Rattle.loft_tree.specs.declared.heads.SharedHead.{SharedHead}
use Rattle.loft_tree.specs.declared.heads.Signature.{Signature}
use Rattle.loft_tree.specs.declared.heads.Client.{Client}
use Rattle.loft_tree.specs.declared.heads.Heads.{Heads}
use Rattle.loft_orders.specs.declared.thread.Wait.{Wait}
use Rattle.loft_orders.specs.declared.thread.Wait.TheVariants as wait
use Rattle.loft_orders.specs.declared.thread.Frame.{Frame}
use Rattle.loft_orders.specs.declared.thread.Thread.{Thread}
use Rattle.loft_orders.specs.declared.order.At.{At}
use Rattle.loft_orders.specs.declared.order.End.{End}
use Rattle.loft_orders.specs.declared.order.End.TheVariants as end
use Rattle.loft_orders.specs.declared.order.Order.{Order}
use Rattle.loft_orders.specs.declared.order.Order.TheVariants as order

abbrev pub comma : List ℕ
comma = 44 ∷ []

abbrev pub space : List ℕ
space = 32 ∷ []

abbrev pub colon : List ℕ
colon = 58 ∷ []

-- texts with this text between each two
abbrev pub separated_by : {A : Type 0} → List ℕ → (A → List ℕ) → List A → List ℕ
separated_by between text [] = []
separated_by between text (x ∷ xs) = text x ++ flat_map (λ y. between ++ text y) xs

-- texts with a comma between each two
abbrev pub separated : {A : Type 0} → (A → List ℕ) → List A → List ℕ
separated text xs = separated_by comma text xs

-- the name with this number, and nothing where there is none
abbrev pub name_at : List (List ℕ) → ℕ → List ℕ
name_at names n = unwrap_or (slice_get names n) []

abbrev pub scheduler_name : Heads → SchedId → List ℕ
scheduler_name h s = name_at h.schedulers s.0

-- the name of what is declared, and nothing where there is no such declaration
abbrev pub name_or_none : {A : Type 0} → (A → List ℕ) → Option A → List ℕ
name_or_none name None = []
name_or_none name (Some declared) = name declared

abbrev pub module_name : Heads → ModuleId → List ℕ
module_name h m = name_or_none (λ (d : Signature). d.name) (slice_get h.modules m.0)

abbrev pub event_name : Heads → EventId → List ℕ
event_name h e = name_or_none (λ (d : EventHead). d.name) (slice_get h.events e.0)

abbrev pub shared_name : Heads → SharedId → List ℕ
shared_name h x = name_or_none (λ (d : SharedHead). d.name) (slice_get h.shared x.0)

abbrev pub client_name : Heads → ℕ → List ℕ
client_name h c = name_or_none (λ (d : Client). d.name) (slice_get h.clients c)

-- A caller, whose number no client of the source has, has no name.
abbrev pub maker_name : Heads → Maker → List ℕ
maker_name h maker.Source = codes "start"
maker_name h (maker.Sched s) = name_at h.schedulers s
maker_name h (maker.Client c) = client_name h c

abbrev pub id_text : Heads → ThreadId → List ℕ
id_text h t = maker_name h t.maker ++ (codes "." ++ decimal t.seq)

abbrev pub value_text : Heads → Value → List ℕ
value_text h (Int n) = signed_decimal n
value_text h (ThreadValue t) = id_text h t

abbrev pub at_text : Heads → At → List ℕ
at_text h at = module_name h at.module ++ (colon ++ decimal at.stop)

abbrev pub end_text : Heads → End → List ℕ
end_text h end.Done = codes "done"
end_text h end.Stopped = codes "stopped"
end_text h end.Full = codes "full"
end_text h (end.Div at) = codes "div " ++ at_text h at
end_text h (end.Deep at) = codes "deep " ++ at_text h at
end_text h (end.Over at) = codes "over " ++ at_text h at
end_text h (end.Flood at) = codes "flood " ++ at_text h at

-- the instants that are left of a wait, or that it has no number
abbrev pub left_text : Option ℤ → List ℕ
left_text None = codes "-"
left_text (Some n) = signed_decimal n

-- a wait for an event, and for these others
abbrev pub events_word : List EventId → List ℕ
events_word [] = codes "await:"
events_word (e ∷ es) = codes "select:"

-- A wait for no event, and one for a value, have no spelling: no thread has one between two instants.
abbrev pub wait_text : Heads → Wait → List ℕ
wait_text h wait.New = codes "new"
wait_text h (wait.Coop left) = codes "coop:" ++ signed_decimal left
wait_text h (wait.Events [] left) = []
wait_text h (wait.Events (e ∷ es) left) = events_word es ++ (left_text left ++ (colon ++ separated (event_name h) (e ∷ es)))
wait_text h (wait.Index event at) = []
wait_text h wait.Next = codes "next"
wait_text h (wait.Join thread left) = codes "join:" ++ (left_text left ++ (colon ++ id_text h thread))
wait_text h wait.Halt = codes "halt"

abbrev pub frame_text : Heads → Frame → List ℕ
frame_text h f = module_name h f.module ++ (colon ++ (decimal f.stop ++ (codes "[" ++ (separated signed_decimal f.counts ++ (codes "](" ++ (separated (value_text h) f.values ++ codes ")"))))))

abbrev pub thread_text : Heads → Thread → List ℕ
thread_text h t = id_text h t.id ++ (space ++ (signed_decimal t.code ++ (space ++ (signed_decimal t.mask ++ (space ++ (wait_text h t.wait ++ (space ++ separated_by space (frame_text h) t.frames)))))))

-- a value after the name of an event, where there is one
abbrev pub sent_value : Option ℤ → List ℕ
sent_value None = []
sent_value (Some n) = space ++ signed_decimal n

abbrev pub order_text : Heads → Order → List ℕ
order_text h (order.Create t m args) = codes "create " ++ (id_text h t ++ (space ++ (module_name h m ++ (codes "(" ++ (separated (value_text h) args ++ codes ")")))))
order_text h (order.Arrive t) = codes "arrive " ++ thread_text h t
order_text h (order.Stop t) = codes "stop " ++ id_text h t
order_text h (order.Suspend t) = codes "suspend " ++ id_text h t
order_text h (order.Resume t) = codes "resume " ++ id_text h t
order_text h (order.Broadcast e value) = codes "broadcast " ++ (event_name h e ++ sent_value value)
order_text h (order.Ended t e) = codes "ended " ++ (id_text h t ++ (space ++ end_text h e))
