use Rattle.std.proofs.Common.{true, ◌≡◌, ◌++◌, ◌∷◌, ◌-◌, ◌≤◌, ◌<◌, ℕ, [], List, Option, ◌∙◌, ap, sym, refl, length, get_or, map, take, drop, drop-cons, append_assoc, append-nil, arith}
use Rattle.std.proofs.lemmas.Grind.{common_steps}
use Rattle.std.specs.Prelude.{replicate, codes}
use Rattle.loft_lex.specs.declared.word.Word.TheVariants as w
use Rattle.loft_tree.specs.Source.{EventName, Expression, Select}
use Rattle.loft_tree.specs.View.{event_name_of, value_of}
use Rattle.loft_tree.specs.declared.statement.EventName.{EventName as EventNameInMemory}
use Rattle.loft_show.specs.Canon.{Piece, for_part, event_pieces, further_pieces, lines_text, name, pieces_text, spaced, statement_lines, word_line}
use Rattle.loft_show.proofs.Texts.{further_pieces-map, pieces_text-append}
use Rattle.loft_show.proofs.simple.put_select.Goals as goal
use Rattle.loft_show.proofs.simple.put_select.Goals.{in_default, in-len1-up}

-- the events, as they stand after the word
choice_pieces : List EventName → List Piece
choice_pieces [] = []
choice_pieces (event ∷ events) = spaced (name event.name) ∷ further_pieces event_pieces events

select_lines : (n : ℕ) (events : List EventName) (limit : Option Expression)
    → statement_lines (Select 0 events limit) n ≡ word_line n w.Select (choice_pieces events ++ for_part limit) ∷ []
unfolding choice_pieces
select_lines n [] limit = refl
select_lines n (event ∷ events) limit = refl

-- the line of a `select` in its parts
select_text : (out : List ℕ) (n : ℕ) (events : List EventName) (limit : Option Expression)
    → (((out ++ (replicate n 32 ++ codes "select")) ++ pieces_text (choice_pieces events)) ++ pieces_text (for_part limit)) ++ 59 ∷ 10 ∷ []
    ≡ out ++ lines_text (statement_lines (Select 0 events limit) n)
select_text out n events limit =
    let parted : lines_text (word_line n w.Select (choice_pieces events ++ for_part limit) ∷ []) ≡ replicate n 32 ++ (codes "select" ++ (pieces_text (choice_pieces events) ++ (pieces_text (for_part limit) ++ 59 ∷ 10 ∷ []))) = grind (arith, common_steps, pieces_text-append) in
    simp append_assoc (ap (λ t. out ++ t) (sym (ap lines_text (select_lines n events limit) ∙ parted)))

-- its parts written one after the other
select_shown : (old begun chosen limited ended : List ℕ) (n : ℕ) (events : List EventName) (limit : Option Expression)
    → begun ≡ old ++ (replicate n 32 ++ codes "select") → chosen ≡ begun ++ pieces_text (choice_pieces events)
    → limited ≡ chosen ++ pieces_text (for_part limit) → ended ≡ limited ++ 59 ∷ 10 ∷ []
    → ended ≡ old ++ lines_text (statement_lines (Select 0 events limit) n)
select_shown old begun chosen limited ended n events limit begins chooses limits ends =
    ends ∙ rw (limits, chooses, begins) (select_text old n events limit)

-- there is no event
none_chosen : (out : List ℕ) (events : List EventNameInMemory) → length events < 1 → out ≡ out ++ pieces_text (choice_pieces (map event_name_of events))
unfolding choice_pieces
none_chosen out [] none = sym (append-nil out)
none_chosen out (event ∷ events) none = absurd (omega arith)

-- the first event, and those after it
some_chosen : (out : List ℕ) (events : List EventNameInMemory) (first : EventNameInMemory) → 1 ≤ length events → first ≡ get_or events 0 first
    → (out ++ (32 ∷ first.name.text)) ++ pieces_text (further_pieces (λ e. event_pieces (event_name_of e)) (take (length events - 1) (drop 1 events))) ≡ out ++ pieces_text (choice_pieces (map event_name_of events))
unfolding choice_pieces
some_chosen out events first some is =
    let rest_is : take (length events - 1) (drop 1 events) ≡ drop 1 events = grind (arith, common_steps) in
    let split : events ≡ first ∷ drop 1 events = drop-cons events 0 first some ∙ rw (← is) refl in
    append_assoc out _ _
    ∙ ap (λ es. out ++ (32 ∷ (first.name.text ++ pieces_text (further_pieces (λ e. event_pieces (event_name_of e)) es)))) rest_is
    ∙ ap (λ ps. out ++ (32 ∷ (first.name.text ++ pieces_text ps))) (sym (further_pieces-map event_pieces event_name_of (drop 1 events)))
    ∙ ap (λ es. out ++ pieces_text (choice_pieces (map event_name_of es))) (sym split)

-- what the branches leave
kept : (c : goal.After-end_statement) → c.if-events-lt1.out.is_whole ≡ true → c.begin_line.new.out.is_whole ≡ true
kept c = elim c.if-events-lt1.branch [
  | in_default w ↦ λ h. rw (← w.out-is) h
  | in-len1-up w ↦ λ h. w.put_name.ensures.before (w.put_further.ensures.before (rw (← w.out-is) h))
]

chosen : (c : goal.After-end_statement) → c.if-events-lt1.out.is_whole ≡ true → c.if-events-lt1.out.text.items ≡ c.begin_line.new.out.text.items ++ pieces_text (choice_pieces (map event_name_of c.args.events.now))
chosen c = elim c.if-events-lt1.branch [
  | in_default w ↦ λ h. rw w.out-is (none_chosen c.begin_line.new.out.text.items c.args.events.now w.in_default.len_below)
  | in-len1-up w ↦ λ h.
      let further : w.put_further.new.out.is_whole ≡ true = rw (← w.out-is) h in
      rw (w.out-is, w.put_further.ensures.text further, w.put_name.ensures.text (w.put_further.ensures.before further)) (some_chosen c.begin_line.new.out.text.items c.args.events.now w.first-item.result w.in-len1-up.len_at_least w.first-item.is)
]

pub returns-clause-text : goal.returns-clause-text
returns-clause-text c = λ ended.
    let limited = c.end_statement.ensures.before ended in
    let joined = c.put_limit_part.ensures.before limited in
    select_shown _ _ _ _ _ c.args.indent (map event_name_of c.args.events.now) (value_of c.args.limit.now) (c.begin_line.ensures.text (kept c joined)) (chosen c joined) (c.put_limit_part.ensures.text limited) (c.end_statement.ensures.text ended)
