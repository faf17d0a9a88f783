-- What a command writes is whole lines.
use Rattle.std.proofs.Common.{◌≡◌, ℕ, List, [], ◌∷◌, ◌++◌, true, refl, sym, ap, ◌∙◌, subst, append_assoc, codes, replicate}
use Rattle.std.specs.Fmt.{decimal}
use Rattle.loft_base.specs.Writing.{are_lines, are_lines-end}
use Rattle.loft_orders.specs.Lines.{text_of}
use Rattle.loft_tree.specs.Source.{Statement, Assign, AssignCreate, Create, PrintText, PrintValue, Cooperate, Generate, Await, Select, Get, Join, ControlThread, Broadcast, Link, Unlink, Run, Halt, If, While, Repeat, Source}
use Rattle.loft_code.specs.Operations.{Automata}
use Rattle.loft_show.specs.Canon.{Line, pieces_text, expression_pieces, lines_text, statement_lines, declaration_lines, source_lines, Canon, head_line, local_line, order_line, outside_line, brace_line, end_line, space}
use Rattle.loft_listing_line.specs.Instructions.{Instruction, Do, Stop, Branch, Enter, Count, Turn, Jump, End as EndOf, instruction_text, statement_text, value_text}
use Rattle.loft_listing_line.specs.Rows.{ListingLine, Title, Item, Head, Local, Operation, End, Client, Order, Close, line_text, place_text}
use Rattle.loft_listing.specs.Lines as listing
use Rattle.loft_listing.specs.Listing.{listing_text}
use Rattle.loft_tree.specs.NamedTree.{NamedProgram}
use Rattle.loft_bound.specs.BoundText.{verdict_lines, IsBoundText}
use Rattle.loft_base.proofs.WholeLines.{line_then, lines_of_each, EndsLine, is_ended, ended_after}

-- ---- lines

pub text_lines : (ls : List (List ℕ)) → are_lines (text_of ls) ≡ true
text_lines ls = lines_of_each (λ (l : List ℕ). l ++ 10 ∷ []) are_lines-end ls

pub bound_lines : (n : NamedProgram) (text : List ℕ) → IsBoundText n text → are_lines text ≡ true
bound_lines n text (vs, verdicts, is) = ap are_lines is ∙ text_lines (verdict_lines n.heads 0 vs)

-- ---- canonical texts

pub lines_text-lines : (ls : List Line) → are_lines (lines_text ls) ≡ true
lines_text-lines [] = refl
lines_text-lines (l ∷ ls) =
    let front = replicate l.indent 32 in
    let pieces = pieces_text l.pieces in
    ap are_lines (sym (append_assoc front pieces (10 ∷ lines_text ls))) ∙ line_then (front ++ pieces) (lines_text ls) (lines_text-lines ls)

pub canon_lines : (p : Source) → are_lines (Canon p) ≡ true
canon_lines p = lines_text-lines (source_lines p)

-- ---- listings

last_ends : (l : Line) (ls : List Line) → EndsLine (lines_text (l ∷ ls))
last_ends l [] = ended_after (replicate l.indent 32) (pieces_text l.pieces ++ 10 ∷ []) (pieces_text l.pieces, refl)
last_ends l (m ∷ ls) = ended_after (replicate l.indent 32) (pieces_text l.pieces ++ 10 ∷ lines_text (m ∷ ls))
    (ended_after (pieces_text l.pieces) (10 ∷ lines_text (m ∷ ls)) (ended_after (10 ∷ []) (lines_text (m ∷ ls)) (last_ends m ls)))

-- a statement has a line
first_line : (s : Statement) (n : ℕ) → (l : Line) × (ls : List Line) × (statement_lines s n ≡ l ∷ ls)
first_line (Assign target value) n = (_, _, refl)
first_line (AssignCreate target at creation) n = (_, _, refl)
first_line (Create at creation) n = (_, _, refl)
first_line (PrintText at text value) n = (_, _, refl)
first_line (PrintValue at value) n = (_, _, refl)
first_line (Cooperate at instants) n = (_, _, refl)
first_line (Generate at event value) n = (_, _, refl)
first_line (Await at event limit) n = (_, _, refl)
first_line (Select at [] limit) n = (_, _, refl)
first_line (Select at (event ∷ events) limit) n = (_, _, refl)
first_line (Get at event index target) n = (_, _, refl)
first_line (Join at thread limit) n = (_, _, refl)
first_line (ControlThread at control thread scheduler) n = (_, _, refl)
first_line (Broadcast at event value) n = (_, _, refl)
first_line (Link at scheduler) n = (_, _, refl)
first_line (Unlink at) n = (_, _, refl)
first_line (Run at called arguments) n = (_, _, refl)
first_line (Halt at) n = (_, _, refl)
first_line (If at test first second) n = (_, _, refl)
first_line (While at test body) n = (_, _, refl)
first_line (Repeat at count body) n = (_, _, refl)

statement_ends : (s : Statement) → EndsLine (statement_text s)
statement_ends s = let (l, ls, is) = first_line s 0 in subst (λ (lines : List Line). EndsLine (lines_text lines)) (sym is) (last_ends l ls)

-- a number and a blank before it
number_before : (n : ℕ) (text : List ℕ) → EndsLine text → EndsLine (decimal n ++ (space ++ text))
number_before n text ends = ended_after (decimal n) (space ++ text) (ended_after space text ends)

instruction_ends : (i : Instruction) → EndsLine (instruction_text i)
instruction_ends (Do s) = statement_ends s
instruction_ends (Stop k s) = ended_after (codes "@") (decimal k ++ (space ++ statement_text s)) (number_before k (statement_text s) (statement_ends s))
instruction_ends (Branch t test) =
    ended_after (codes "branch ") (decimal t ++ value_text test) (ended_after (decimal t) (value_text test) (pieces_text (expression_pieces test space), refl))
instruction_ends Enter = (codes "enter", refl)
instruction_ends (Count count) = ended_after (codes "count") (value_text count) (pieces_text (expression_pieces count space), refl)
instruction_ends (Turn t) = ended_after (codes "turn ") (decimal t ++ 10 ∷ []) (decimal t, refl)
instruction_ends (Jump t) = ended_after (codes "jump ") (decimal t ++ 10 ∷ []) (decimal t, refl)
instruction_ends EndOf = (codes "end", refl)

row_lines : (l : ListingLine) → are_lines (line_text l) ≡ true
row_lines Title = are_lines-end (codes "loft-listing 1")
row_lines (Item d) = lines_text-lines (declaration_lines d)
row_lines (Head h) = lines_text-lines (head_line h ∷ [])
row_lines (Local v) = lines_text-lines (local_line 0 v ∷ [])
row_lines (Operation number p depth i) =
    let depth_text = decimal depth ++ (space ++ instruction_text i) in
    is_ended (line_text (Operation number p depth i)) (ended_after (decimal number) (place_text p ++ (space ++ depth_text))
    (ended_after (place_text p) (space ++ depth_text) (ended_after space depth_text (number_before depth (instruction_text i) (instruction_ends i)))))
row_lines End = lines_text-lines (end_line 0 ∷ [])
row_lines (Client n) = lines_text-lines (outside_line n ∷ [])
row_lines (Order x) = lines_text-lines (order_line x ∷ [])
row_lines Close = lines_text-lines (brace_line ∷ [])

pub listing_lines : (c : Automata) → are_lines (listing_text c) ≡ true
listing_lines c = lines_of_each line_text row_lines (listing.listing_lines c)
