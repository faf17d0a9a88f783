-- A text that reads as a part of a source (docs/LANGUAGE.md, "Parts of a source").
use Rattle.std.specs.Prelude.{◌≡◌, ℕ, List}
use Rattle.loft_form.specs.Form.{Limits}
use Rattle.loft_grammar.specs.Language.{Language}
use Rattle.loft_grammar.specs.Symbols.{Form}
use Rattle.loft_grammar.specs.Texts.{SpellsPart}
use Rattle.loft_tree.specs.Fits.{StatementsFit}
use Rattle.loft_tree.specs.declared.limits.TheConstants.{MAX_NESTING}
use Rattle.loft_tree.specs.Source.{Statement, Assign, AssignCreate, Create, PrintText, PrintValue, Cooperate, Generate, Await, Select, Get, Join, ControlThread, Broadcast, Link, Unlink, Run, Halt, If, While, Repeat, Declaration, Scheduler, Event, Shared, Module, Start, Outside}

-- The text reads as this value, but for the offsets in it, which `bare` makes 0.
abbrev pub ReadsAs : {A : Type 0} → Limits Language → Form A → (A → A) → List ℕ → A → Type 0
ReadsAs {A} lim f bare text x = (y : A) × SpellsPart lim f text y × (bare y ≡ bare x)

-- a statement without bodies stands in one line
abbrev pub IsOneLine : Statement → Type 0
IsOneLine (Assign target value) = Unit {0}
IsOneLine (AssignCreate target at creation) = Unit {0}
IsOneLine (Create at creation) = Unit {0}
IsOneLine (PrintText at text value) = Unit {0}
IsOneLine (PrintValue at value) = Unit {0}
IsOneLine (Cooperate at instants) = Unit {0}
IsOneLine (Generate at event value) = Unit {0}
IsOneLine (Await at event limit) = Unit {0}
IsOneLine (Select at events limit) = Unit {0}
IsOneLine (Get at event index target) = Unit {0}
IsOneLine (Join at thread limit) = Unit {0}
IsOneLine (ControlThread at control thread scheduler) = Unit {0}
IsOneLine (Broadcast at event value) = Unit {0}
IsOneLine (Link at scheduler) = Unit {0}
IsOneLine (Unlink at) = Unit {0}
IsOneLine (Run at called arguments) = Unit {0}
IsOneLine (Halt at) = Unit {0}
IsOneLine (If at test first second) = ⊥
IsOneLine (While at test body) = ⊥
IsOneLine (Repeat at count body) = ⊥

-- the statements of a module are nested as deep as they may be, and no deeper
abbrev pub BodyFits : Declaration → Type 0
BodyFits (Scheduler n) = Unit {0}
BodyFits (Event n scheduler) = Unit {0}
BodyFits (Shared n scheduler value) = Unit {0}
BodyFits (Module head locals body) = StatementsFit body MAX_NESTING
BodyFits (Start scheduler called arguments n) = Unit {0}
BodyFits (Outside n orders) = Unit {0}
