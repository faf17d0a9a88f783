-- The words of orders and of ends, and what comes after them (docs/REPORT.md, "Texts of values").
use Rattle.std.specs.Prelude.{ℕ, List, [], ◌++◌, codes, Option, Some, None}
use Rattle.loft_base.specs.declared.ids.ThreadId.{ThreadId}
use Rattle.loft_tree.specs.declared.heads.Heads.{Heads}
use Rattle.loft_orders.specs.declared.order.At.{At}
use Rattle.loft_report_shape.specs.declared.word.Word.{Word}
use Rattle.loft_report_shape.specs.declared.word.Word.TheVariants as word
use Rattle.loft_orders.specs.declared.order.End.{End}
use Rattle.loft_orders.specs.declared.order.End.TheVariants as end
use Rattle.loft_orders.specs.declared.order.Order.{Order}
use Rattle.loft_orders.specs.declared.order.Order.TheVariants as order
use Rattle.loft_orders.specs.declared.order.Mark.{Mark}
use Rattle.loft_orders.specs.declared.order.Mark.TheVariants as mark
use Rattle.loft_orders.specs.Text.{separated, space, id_text, value_text, module_name, event_name, sent_value, at_text, end_text, thread_text}

abbrev pub word_of_mark : Mark → Word
word_of_mark mark.Done = word.In
word_of_mark mark.Void = word.Void
word_of_mark mark.Full = word.Full

abbrev pub word_of_order : Order → Word
word_of_order (order.Create t m args) = word.Create
word_of_order (order.Arrive t) = word.Arrive
word_of_order (order.Stop t) = word.Stop
word_of_order (order.Suspend t) = word.Suspend
word_of_order (order.Resume t) = word.Resume
word_of_order (order.Broadcast e v) = word.Broadcast
word_of_order (order.Ended t e) = word.Ended

-- what comes after the word and a blank
abbrev pub rest_of_order : Heads → Order → List ℕ
rest_of_order h (order.Create t m args) = id_text h t ++ (space ++ (module_name h m ++ (codes "(" ++ (separated (value_text h) args ++ codes ")"))))
rest_of_order h (order.Arrive t) = thread_text h t
rest_of_order h (order.Stop t) = id_text h t
rest_of_order h (order.Suspend t) = id_text h t
rest_of_order h (order.Resume t) = id_text h t
rest_of_order h (order.Broadcast e v) = event_name h e ++ sent_value v
rest_of_order h (order.Ended t e) = id_text h t ++ (space ++ end_text h e)

abbrev pub word_of_end : End → Word
word_of_end end.Done = word.Done
word_of_end end.Stopped = word.Stopped
word_of_end end.Full = word.Full
word_of_end (end.Div at) = word.Div
word_of_end (end.Deep at) = word.Deep
word_of_end (end.Over at) = word.Over
word_of_end (end.Flood at) = word.Flood

-- the point after the word and a blank, where there is one
abbrev pub point_of_end : Heads → End → List ℕ
point_of_end h end.Done = []
point_of_end h end.Stopped = []
point_of_end h end.Full = []
point_of_end h (end.Div at) = at_text h at
point_of_end h (end.Deep at) = at_text h at
point_of_end h (end.Over at) = at_text h at
point_of_end h (end.Flood at) = at_text h at

-- the end itself, where it is one without a point
abbrev pub plain_of : End → Option End
plain_of end.Done = Some end.Done
plain_of end.Stopped = Some end.Stopped
plain_of end.Full = Some end.Full
plain_of (end.Div at) = None
plain_of (end.Deep at) = None
plain_of (end.Over at) = None
plain_of (end.Flood at) = None

-- the point of an end
abbrev pub point_in : End → Option At
point_in end.Done = None
point_in end.Stopped = None
point_in end.Full = None
point_in (end.Div at) = Some at
point_in (end.Deep at) = Some at
point_in (end.Over at) = Some at
point_in (end.Flood at) = Some at

-- the thread of an order that has nothing else
abbrev pub thread_in : Order → Option ThreadId
thread_in (order.Create t m args) = None
thread_in (order.Arrive t) = None
thread_in (order.Stop t) = Some t
thread_in (order.Suspend t) = Some t
thread_in (order.Resume t) = Some t
thread_in (order.Broadcast e v) = None
thread_in (order.Ended t e) = None
