-- What acts tell: what was done between two moments.
use Rattle.std.proofs.Common.{◌≡◌, true, List, [], ◌∷◌, ◌++◌, Option, refl, sym, subst, ap, ◌∙◌, append_assoc}
use Rattle.std.specs.Prelude.{ℤ}
use Rattle.std.proofs.lemmas.List.Sums.{fold-append}
use Rattle.std.proofs.lemmas.List.{append-nil}
use Rattle.loft_base.specs.declared.ids.EventId.{EventId}
use Rattle.loft_base.specs.declared.ids.ThreadId.{ThreadId}
use Rattle.loft_board.specs.Board.{Board, generate, generate_all}
use Rattle.loft_board.proofs.BoardLemmas.{stays, prefix}
use Rattle.loft_orders.specs.declared.note.Act.{Act}
use Rattle.loft_orders.specs.declared.note.Act.TheVariants as act
use Rattle.loft_sense.specs.Around.{Around}
use Rattle.loft_sense.specs.LawWords.{is_entry, generated_in, ended_in, Tells, KeepsEvents}

-- ---- boards

pub same_board : (board : Board) → KeepsEvents board board
same_board board = record { present = λ e h. h; values = λ e. ([], sym (append-nil _)) }

pub generated_board : (event : EventId) (v : Option ℤ) (board : Board) → KeepsEvents board (generate event v board)
generated_board event v board = record { present = λ e h. stays ((event, v) ∷ []) e board h; values = λ e. prefix ((event, v) ∷ []) e board }

-- what tells of a later moment keeps the events of the one before it
pub told_board : (a b : Around) → Tells a b → KeepsEvents a.board b.board
told_board a b p = subst (KeepsEvents a.board) (sym p.board) (record {
  present = λ e h. stays (generated_in p.more) e a.board h;
  values = λ e. prefix (generated_in p.more) e a.board;
})

-- ---- more acts

generated_in-append : (xs ys : List Act) → generated_in (xs ++ ys) ≡ generated_in xs ++ generated_in ys
generated_in-append [] ys = refl
generated_in-append (act.Print t line ∷ xs) ys = generated_in-append xs ys
generated_in-append (act.Gen t event v ∷ xs) ys = ap (λ (l : List (EventId × Option ℤ)). (event, v) ∷ l) (generated_in-append xs ys)
generated_in-append (act.Out t sent ∷ xs) ys = generated_in-append xs ys
generated_in-append (act.End t end ∷ xs) ys = generated_in-append xs ys

ended_in-append : (xs ys : List Act) → ended_in (xs ++ ys) ≡ ended_in xs ++ ended_in ys
ended_in-append [] ys = refl
ended_in-append (act.Print t line ∷ xs) ys = ended_in-append xs ys
ended_in-append (act.Gen t event v ∷ xs) ys = ended_in-append xs ys
ended_in-append (act.Out t sent ∷ xs) ys = ended_in-append xs ys
ended_in-append (act.End t end ∷ xs) ys = ap (λ (l : List ThreadId). t ∷ l) (ended_in-append xs ys)

-- more is told in two parts
told_board_twice : (xs ys : List Act) (a b c : Board) → b ≡ generate_all (generated_in xs) a → c ≡ generate_all (generated_in ys) b → c ≡ generate_all (generated_in (xs ++ ys)) a
told_board_twice xs ys a b c p q =
    q ∙ (ap (generate_all (generated_in ys)) p
    ∙ (sym (fold-append _ a (generated_in xs) (generated_in ys)) ∙ ap (λ (l : List (EventId × Option ℤ)). generate_all l a) (sym (generated_in-append xs ys))))

one_after : {A : Type 0} (xs ys a b c : List A) → b ≡ a ++ xs → c ≡ b ++ ys → c ≡ a ++ (xs ++ ys)
one_after xs ys a b c p q = q ∙ (ap (λ (l : List _). l ++ ys) p ∙ append_assoc a xs ys)

pub told_twice : (a b c : Around) → Tells a b → Tells b c → Tells a c
told_twice a b c p q = record {
  more = p.more ++ q.more;
  acts = one_after p.more q.more a.acts b.acts c.acts p.acts q.acts;
  board = told_board_twice p.more q.more a.board b.board c.board p.board q.board;
  known = one_after (ended_in p.more) (ended_in q.more) a.known b.known c.known p.known q.known ∙ ap (λ (l : List ThreadId). a.known ++ l) (sym (ended_in-append p.more q.more));
}

-- nothing was done
pub told_nothing : (a : Around) → Tells a a
told_nothing a = record { more = []; acts = sym (append-nil _); board = refl; known = sym (append-nil _) }

-- an entry that generates no event and is no end
pub record IsQuiet (one : Act) : Type 0 where
  pub entry : is_entry one ≡ true
  pub no_event : generated_in (one ∷ []) ≡ []
  pub no_end : ended_in (one ∷ []) ≡ []

pub told_quiet : (a b : Around) (one : Act) → IsQuiet one → b.acts ≡ a.acts ++ one ∷ [] → b.board ≡ a.board → b.known ≡ a.known → Tells a b
told_quiet a b one q acts board known = record {
  more = one ∷ [];
  acts = acts;
  board = board ∙ ap (λ (l : List (EventId × Option ℤ)). generate_all l a.board) (sym q.no_event);
  known = known ∙ (sym (append-nil _) ∙ ap (λ (l : List ThreadId). a.known ++ l) (sym q.no_end));
}
