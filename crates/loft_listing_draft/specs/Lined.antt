-- Lines of a listing whose names have the offset of their line.
use Rattle.std.specs.Prelude.{ℕ, ◌+◌, List, [], ◌∷◌, length, map}
use Rattle.std.specs.Option.{option_map}
use Rattle.loft_tree.specs.Source as src
use Rattle.loft_tree.specs.Source.{Ident, EventName, Named, PlaceName, InScheduler, Unlinked, ModuleHead, Argument, ANumber, AName, CreateThere, ControlThere, BroadcastThere, Declaration, Scheduler, Event, Shared, Module, Start, Outside}
use Rattle.loft_show.specs.Places.{bare_place}
use Rattle.loft_listing_line.specs.Instructions.{bare_instruction}
use Rattle.loft_listing_line.specs.Rows.{ListingLine, Title, Item, Head, Local, Operation, End, Client, Order, Close, line_text}

-- ---- parts of a line at this offset

abbrev pub name_at : ℕ → Ident → Ident
name_at at name = record { text = name.text; at = at }

abbrev pub event_at : ℕ → EventName → EventName
event_at at event = record { name = name_at at event.name }

abbrev pub variable_at : ℕ → Named → Named
variable_at at v = record { kind = v.kind; name = name_at at v.name }

abbrev pub place_at : ℕ → PlaceName → PlaceName
place_at at (InScheduler name) = InScheduler (name_at at name)
place_at at Unlinked = Unlinked

abbrev pub head_at : ℕ → ModuleHead → ModuleHead
head_at at h = record {
  name = name_at at h.name;
  parameters = map (variable_at at) h.parameters;
  begin = place_at at h.begin;
  end = option_map (place_at at) h.end;
}

abbrev pub argument_at : ℕ → Argument → Argument
argument_at at (ANumber other value) = ANumber at value
argument_at at (AName name) = AName (name_at at name)

abbrev pub order_at : ℕ → src.Order → src.Order
order_at at (CreateThere scheduler called arguments) = CreateThere (name_at at scheduler) (name_at at called) (map (argument_at at) arguments)
order_at at (ControlThere control thread scheduler) = ControlThere control (name_at at thread) (name_at at scheduler)
order_at at (BroadcastThere event value) = BroadcastThere (event_at at event) value

-- a declaration of one line
abbrev pub item_at : ℕ → Declaration → Declaration
item_at at (Scheduler name) = Scheduler (name_at at name)
item_at at (Event name scheduler) = Event (name_at at name) (name_at at scheduler)
item_at at (Shared name scheduler value) = Shared (name_at at name) (name_at at scheduler) value
item_at at (Module head locals body) = Module head locals body
item_at at (Start scheduler called arguments name) =
    Start (name_at at scheduler) (name_at at called) (map (argument_at at) arguments) (option_map (name_at at) name)
item_at at (Outside name orders) = Outside name orders

-- ---- lines

-- a line that stands at this offset; in operations names have the offset 0
abbrev pub line_at : ℕ → ListingLine → ListingLine
line_at at Title = Title
line_at at (Item d) = Item (item_at at d)
line_at at (Head h) = Head (head_at at h)
line_at at (Local v) = Local (variable_at at v)
line_at at (Operation number p depth i) = Operation number (bare_place p) depth (bare_instruction i)
line_at at End = End
line_at at (Client name) = Client (name_at at name)
line_at at (Order x) = Order (order_at at x)
line_at at Close = Close

-- lines one after the other, the first of which stands at this offset
abbrev pub lines_at : ℕ → List ListingLine → List ListingLine
lines_at at [] = []
lines_at at (l ∷ ls) = line_at at l ∷ lines_at (at + length (line_text l)) ls
