-- Why contents are refused, and the line that says so (docs/COMMANDS.md, "Fault lines").
use Rattle.std.specs.Prelude.{◌≡◌, ℕ, ◌<◌, ◌≤◌, ◌⊎◌, List, [], ◌++◌, length, codes, slice_get, unwrap_or}
use Rattle.std.specs.Fmt.{decimal}
use Rattle.loft_base.specs.declared.ids.ModuleId.{ModuleId}
use Rattle.loft_lex.specs.declared.TheConstants.{MAX_TEXT_LEN}
use Rattle.loft_lex.specs.declared.token.LexError.{LexError}
use Rattle.loft_lex.specs.declared.token.LexError.TheVariants as lexical
use Rattle.loft_tree.specs.declared.heads.Place.{Place}
use Rattle.loft_tree.specs.declared.heads.Place.TheVariants as place
use Rattle.loft_tree.specs.Source.{Source}
use Rattle.loft_scopes.specs.declared.error.NameError.{NameError}
use Rattle.loft_scopes.specs.declared.error.NameError.TheVariants as name
use Rattle.loft_scopes.specs.Faults.{NameFault, NamesFit}
use Rattle.loft_numbers.specs.Numbers.{numbered}
use Rattle.loft_place.specs.declared.error.PlaceError.{PlaceError}
use Rattle.loft_place.specs.declared.error.PlaceError.TheVariants as links
use Rattle.loft_place.specs.Links.{IsPlaced, PlaceFault}
use Rattle.loft_parse.specs.declared.error.ParseError.{ParseError}
use Rattle.loft_parse.specs.declared.error.ParseError.TheVariants.{Lex, Expected, TooDeep, TooMany, TooLong, NoMemory}
use Rattle.loft_grammar.specs.Texts.{Reads}
use Rattle.loft_parse.specs.Faults.{SourceFault}
use Rattle.loft_code.specs.declared.error.OpAt.{OpAt}
use Rattle.loft_code.specs.declared.error.CodeError.{CodeError}
use Rattle.loft_code.specs.declared.error.CodeError.TheVariants as code
use Rattle.loft_code.specs.Operations.{Automata}
use Rattle.loft_code.specs.Valid.{CodeFault}
use Rattle.loft_listing_draft.specs.declared.draft.TheConstants.{MAX_LISTING_LEN}
use Rattle.loft_listing_reader.specs.declared.error.ListError.{ListError}
use Rattle.loft_listing_reader.specs.declared.error.ListError.TheVariants as list
use Rattle.loft_listing_reader.specs.Lists.{Lists, LineFault}
use Rattle.loft_lock_expansion.specs.Expansion.{IsExpansion}
use Rattle.loft_mutex.specs.declared.error.MutexError.{MutexError}
use Rattle.loft_mutex.specs.declared.error.MutexError.TheVariants as locks
use Rattle.loft_mutex.specs.Refusing.{IsErrorOf, AreNamesFor, module_names}
use Rattle.loft_refusal.specs.Input.{Input, ASource, AListing, AnExpansion}
use Rattle.loft_refusal.specs.declared.refusal.Refusal.{Refusal}
use Rattle.loft_refusal.specs.declared.refusal.Refusal.TheVariants as refusal

-- ---- lines

-- the line of a lexical fault; out of memory has none
abbrev pub lexical_line : LexError → List ℕ
lexical_line (lexical.BadByte at) = codes "source: bad byte at " ++ decimal at
lexical_line (lexical.OpenText at) = codes "source: open text at " ++ decimal at
lexical_line (lexical.LongName at) = codes "source: long name at " ++ decimal at
lexical_line (lexical.LongText at) = codes "source: long text at " ++ decimal at
lexical_line (lexical.BadNumber at) = codes "source: bad number at " ++ decimal at
lexical_line lexical.NoMemory = []

-- the line of a fault of a text; out of memory has none
abbrev pub text_line : ParseError → List ℕ
text_line (Lex e) = lexical_line e
text_line (Expected at) = codes "source: expected at " ++ decimal at
text_line (TooDeep at) = codes "source: too deep at " ++ decimal at
text_line (TooMany at limit) = codes "source: too many at " ++ (decimal at ++ (codes " (limit " ++ (decimal limit ++ codes ")")))
text_line TooLong = codes "source: too long"
text_line NoMemory = []

-- the line of a fault of names and kinds; out of memory has none
abbrev pub name_line : NameError → List ℕ
name_line name.NoScheduler = codes "source: no scheduler"
name_line (name.Unknown at) = codes "source: unknown name at " ++ decimal at
name_line (name.Twice at first) = codes "source: name at " ++ (decimal at ++ (codes " declared twice, first at " ++ decimal first))
name_line (name.Arity at) = codes "source: arity at " ++ decimal at
name_line (name.Kind at) = codes "source: kind at " ++ decimal at
name_line name.NoMemory = []

-- where a thread is linked; the schedulers have these names
abbrev pub place_text : List (List ℕ) → Place → List ℕ
place_text names (place.Sched s) = unwrap_or (slice_get names s.0) []
place_text names place.Unlinked = codes "unlinked"

-- a line of an offset in the text and two places of threads, each after its words
abbrev pub two_places : List (List ℕ) → List ℕ → ℕ → List ℕ → Place → List ℕ → Place → List ℕ
two_places names what at before first between second = what ++ (decimal at ++ (before ++ (place_text names first ++ (between ++ place_text names second))))

-- the line of a fault of links; the schedulers have these names; out of memory has none
abbrev pub link_line : List (List ℕ) → PlaceError → List ℕ
link_line names (links.NotHere at needs has) = two_places names (codes "source: not here at ") at (codes ", needs ") needs (codes ", has ") has
link_line names (links.Unlinked at) = codes "source: unlinked at " ++ decimal at
link_line names (links.Branches at left right) = two_places names (codes "source: branches at ") at (codes " end at ") left (codes " and ") right
link_line names (links.LoopEnds at start end) = two_places names (codes "source: loop at ") at (codes " begins at ") start (codes ", ends at ") end
link_line names (links.ModuleEnds at declared end) = two_places names (codes "source: module at ") at (codes " declares ") declared (codes ", ends at ") end
link_line names links.NoMemory = []

-- the line of a fault of a listing's lines; out of memory has none
abbrev pub listing_line : ListError → List ℕ
listing_line (list.Line n) = codes "listing: line " ++ decimal n
listing_line list.TooLong = codes "listing: too long"
listing_line list.NoMemory = []

-- an operation; the modules have these names
abbrev pub operation_line : List (List ℕ) → OpAt → List ℕ
operation_line names at = codes "listing: operation " ++ (decimal at.op ++ (codes " of " ++ unwrap_or (slice_get names at.«module».0) []))

-- the line of an error of code; the modules have these names; out of memory has none
abbrev pub code_line : List (List ℕ) → CodeError → List ℕ
code_line names (code.JumpOut at) = operation_line names at
code_line names (code.BadName at) = operation_line names at
code_line names (code.BadStop at) = operation_line names at
code_line names (code.BadPlace at) = operation_line names at
code_line names (code.BadCount at) = operation_line names at
code_line names (code.KindMismatch at) = operation_line names at
code_line names code.NoMemory = []

-- a line of a lock and a module, each after its words; the modules have these names
abbrev pub lock_in_module : List (List ℕ) → List ℕ → List ℕ → List ℕ → ModuleId → List ℕ
lock_in_module names front lock between m = front ++ (lock ++ (between ++ unwrap_or (slice_get names m.0) []))

-- the line of a text with locks that stands for no program; what it tells by number has these names; out of memory has none
abbrev pub lock_line : List (List ℕ) → MutexError → List ℕ
lock_line names locks.TooLong = codes "source: too long"
lock_line names (locks.Lex e) = lexical_line e
lock_line names (locks.LongLock at) = codes "locks: long name at " ++ decimal at
lock_line names (locks.Reserved at) = codes "locks: name at " ++ decimal at
lock_line names (locks.Parse e) = text_line e
lock_line names (locks.Names e) = name_line e
lock_line names (locks.Place e) = link_line names e
lock_line names (locks.Pair m lock) = lock_in_module names (codes "locks: pair of ") lock (codes " in ") m
lock_line names (locks.Leaves m lock) = lock_in_module names (codes "locks: ") lock (codes " left in ") m
lock_line names locks.NoMemory = []

-- the line of a refusal
abbrev pub line_of : Refusal → List ℕ
line_of (refusal.Text e) = text_line e
line_of (refusal.Names e) = name_line e
line_of (refusal.Links e schedulers) = link_line schedulers e
line_of (refusal.Listing e) = listing_line e
line_of (refusal.Code e modules) = code_line modules e
line_of (refusal.Locks e names) = lock_line names e

-- ---- causes

-- the names, kinds and links of a program are correct
pub record Well (p : Source) : Type 0 where
  pub names : NamesFit p
  pub links : IsPlaced (numbered p)

-- why a program is refused
abbrev pub IsUnwell : Source → Refusal → Type 0
IsUnwell p (refusal.Text e) = ⊥
IsUnwell p (refusal.Names e) = NameFault p e
IsUnwell p (refusal.Links e schedulers) = NamesFit p × PlaceFault (numbered p) e × (schedulers ≡ (numbered p).heads.schedulers)
IsUnwell p (refusal.Listing e) = ⊥
IsUnwell p (refusal.Code e modules) = ⊥
IsUnwell p (refusal.Locks e names) = ⊥

-- why code is refused
abbrev pub IsInvalid : Automata → Refusal → Type 0
IsInvalid c (refusal.Text e) = ⊥
IsInvalid c (refusal.Names e) = ⊥
IsInvalid c (refusal.Links e schedulers) = ⊥
IsInvalid c (refusal.Listing e) = ⊥
IsInvalid c (refusal.Code e modules) = CodeFault c e × (modules ≡ module_names c.heads)
IsInvalid c (refusal.Locks e names) = ⊥

-- why a program or code is refused
abbrev pub IsRefusedFor : Input → Refusal → Type 0
IsRefusedFor (ASource p) r = IsUnwell p r
IsRefusedFor (AListing c) r = IsInvalid c r
IsRefusedFor (AnExpansion p) r = ⊥

-- the fault of the contents: they are too long, or else the fault of their text
abbrev pub ContentsFault : List ℕ → ParseError → Type 0
ContentsFault contents e = ((MAX_TEXT_LEN < length contents) × (e ≡ TooLong)) ⊎ ((length contents ≤ MAX_TEXT_LEN) × SourceFault contents e)

-- the same of contents that are to be a listing: they are too long, or a line is wrong
abbrev pub ListingFault : List ℕ → ListError → Type 0
ListingFault contents e =
    ((MAX_LISTING_LEN < length contents) × (e ≡ list.TooLong))
    ⊎ ((n : ℕ) × (length contents ≤ MAX_LISTING_LEN) × LineFault contents n × (e ≡ list.Line n))

-- the contents are the text of the program
pub record IsSourceOf (contents : List ℕ) (p : Source) : Type 0 where
  pub short : length contents ≤ MAX_TEXT_LEN
  pub reads : Reads contents p

-- the contents are a listing of the code
pub record IsListingOf (contents : List ℕ) (c : Automata) : Type 0 where
  pub short : length contents ≤ MAX_LISTING_LEN
  pub lists : Lists contents c

-- the contents say this
abbrev pub IsTextOf : List ℕ → Input → Type 0
IsTextOf contents (ASource p) = IsSourceOf contents p
IsTextOf contents (AListing c) = IsListingOf contents c
IsTextOf contents (AnExpansion p) = IsExpansion contents p

-- why contents that are to be a text with locks stand for no program, and the names of what is told by number
abbrev pub LocksFault : List ℕ → MutexError → List (List ℕ) → Type 0
LocksFault contents e names = IsErrorOf contents e × AreNamesFor contents names e

-- what the contents say is refused for this
abbrev pub InputRefused : List ℕ → Refusal → Type 0
InputRefused contents r = (x : Input) × IsTextOf contents x × IsRefusedFor x r

-- why contents are refused: they say nothing of the kind, or what they say is refused
abbrev pub IsCause : List ℕ → Refusal → Type 0
IsCause contents (refusal.Text e) = ContentsFault contents e
IsCause contents (refusal.Names e) = InputRefused contents (refusal.Names e)
IsCause contents (refusal.Links e schedulers) = InputRefused contents (refusal.Links e schedulers)
IsCause contents (refusal.Listing e) = ListingFault contents e
IsCause contents (refusal.Code e modules) = InputRefused contents (refusal.Code e modules)
IsCause contents (refusal.Locks e names) = LocksFault contents e names
