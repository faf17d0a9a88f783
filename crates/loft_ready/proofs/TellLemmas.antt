-- What the waits are told of a board.
use Rattle.std.proofs.Common.{◌≡◌, ◌≢◌, ℕ, zero, suc, ◌+◌, ◌<◌, ◌≤◌, Bool, true, false, List, [], ◌∷◌, ◌++◌, refl, sym, ◌∙◌, ap, arith, Option, Some, None, length, get_or, set, option_map, ◌⊎◌, inl, inr}
use Rattle.std.specs.Prelude.{ℤ, ◌==◌, ◌||◌, is_some, unwrap_or}
use Rattle.std.proofs.lemmas.Bool.{eqb-true, eq-eqb, cases_lt}
use Rattle.std.proofs.lemmas.List.{get_or-set_same, get_or-set_other, get_or_past, length-set, ext_get_or, set_past}
use Rattle.std.proofs.lemmas.List.{length-map}
use Rattle.loft_base.specs.declared.ids.EventId.{EventId}
use Rattle.loft_board.specs.Board.{Board, values, generate, generate_all, value_list}
use Rattle.loft_orders.specs.declared.note.Act.{Act}
use Rattle.loft_orders.specs.declared.note.Act.TheVariants.{Print, Gen, Out, End}
use Rattle.loft_sense.specs.LawWords.{generated_in}
use Rattle.loft_waits.specs.Told.{Counts, counts_of}
use Rattle.loft_ready.specs.Telling.{told}

-- the event is one of those that were generated
abbrev is_among : ℕ → List (EventId × Option ℤ) → Bool
is_among e [] = false
is_among e (g ∷ gs) = (g.0.0 == e) || is_among e gs

abbrev at : Board → ℕ → Option (List ℤ)
at board e = get_or board e None

-- an event as it is after it is generated, and what is told of it
abbrev made : EventId × Option ℤ → Board → Option (List ℤ)
made g board = Some (values g.0 board ++ value_list g.1)

abbrev count : EventId × Option ℤ → Board → Option ℕ
count g board = Some (length (values g.0 board))

pub counts_at : (board : Board) (e : ℕ) → get_or (counts_of board) e None ≡ option_map length (get_or board e None)
counts_at [] e = refl
counts_at (b ∷ board) zero = refl
counts_at (b ∷ board) (suc e) = counts_at board e

pub present_count : (o : Option (List ℤ)) → is_some o ≡ true → Some (length (unwrap_or o [])) ≡ option_map length o
present_count None h = absurd cc
present_count (Some vs) h = refl

-- ---- the events of a whole board, one after the other

-- ---- the events that were generated

length_generated : (gs : List (EventId × Option ℤ)) (board : Board) → length (generate_all gs board) ≡ length board
length_generated [] board = refl
length_generated (g ∷ gs) board = length_generated gs (generate g.0 g.1 board) ∙ length-set board g.0.0 (Some (values g.0 board ++ value_list g.1))

or_left : (a b : Bool) → (a || b) ≡ false → a ≡ false
or_left true b h = absurd cc
or_left false b h = refl

or_right : (a b : Bool) → (a || b) ≡ false → b ≡ false
or_right true b h = absurd cc
or_right false b h = h

or_either : (a b : Bool) → (a || b) ≡ true → (a ≡ true) ⊎ (b ≡ true)
or_either true b h = inl refl
or_either false b h = inr h

or_more : (a b : Bool) → b ≡ true → (a || b) ≡ true
or_more true b h = refl
or_more false b h = h

differs : (a b : ℕ) → (a == b) ≡ false → b ≢ a
differs a b h same = refuse (a == b) h (eq-eqb a b (sym same))
  where
    refuse : (c : Bool) → c ≡ false → c ≡ true → ⊥
    refuse true f t = cc
    refuse false f t = cc

-- an event that isn't generated stays as it is
apart : (gs : List (EventId × Option ℤ)) (board : Board) (e : ℕ) → is_among e gs ≡ false → at (generate_all gs board) e ≡ at board e
apart [] board e h = refl
apart (g ∷ gs) board e h =
    apart gs (generate g.0 g.1 board) e (or_right (g.0.0 == e) (is_among e gs) h)
    ∙ get_or-set_other board g.0.0 e (Some (values g.0 board ++ value_list g.1)) None (differs g.0.0 e (or_left (g.0.0 == e) (is_among e gs) h))

-- one that is present stays so
stays : (gs : List (EventId × Option ℤ)) (board : Board) (e : ℕ) → is_some (at board e) ≡ true → is_some (at (generate_all gs board) e) ≡ true
stays [] board e h = h
stays (g ∷ gs) board e h = stays gs (generate g.0 g.1 board) e (once (g.0.0 == e) refl)
  where
    inside : (l : Board) (i : ℕ) → is_some (get_or l i None) ≡ true → i < length l
    inside [] i h = absurd cc
    inside (x ∷ l) zero h = omega arith
    inside (x ∷ l) (suc i) h = let lt = inside l i h in omega (arith, lt)

    once : (same : Bool) → (g.0.0 == e) ≡ same → is_some (at (set board g.0.0 (made g board)) e) ≡ true
    once true is =
        let eq : g.0.0 ≡ e = eqb-true g.0.0 e is in
        ap (λ (i : ℕ). is_some (at (set board i (made g board)) e)) eq ∙ ap is_some (get_or-set_same board e (made g board) None (inside board e h))
    once false is = ap is_some (get_or-set_other board g.0.0 e (made g board) None (differs g.0.0 e is)) ∙ h

-- one that is generated is present
present : (gs : List (EventId × Option ℤ)) (board : Board) (e : ℕ) → is_among e gs ≡ true → e < length board → is_some (at (generate_all gs board) e) ≡ true
present [] board e h within = absurd cc
present (g ∷ gs) board e h within =
    by (λ is. let long : length (set board g.0.0 (made g board)) ≡ length board = length-set board g.0.0 (made g board) in present gs (generate g.0 g.1 board) e is (omega (arith, long, within)))
    (or_either (g.0.0 == e) (is_among e gs) h)
  where
    by : (is_among e gs ≡ true → is_some (at (generate_all gs (generate g.0 g.1 board)) e) ≡ true) → ((g.0.0 == e) ≡ true) ⊎ (is_among e gs ≡ true)
        → is_some (at (generate_all gs (generate g.0 g.1 board)) e) ≡ true
    by later (inl is) =
        let eq : g.0.0 ≡ e = eqb-true g.0.0 e is in
        stays gs (generate g.0 g.1 board) e (ap (λ (i : ℕ). is_some (at (set board i (made g board)) e)) eq ∙ ap is_some (get_or-set_same board e (made g board) None within))
    by later (inr is) = later is

-- What is told so far of a board, where these events are left to tell.
record IsTelling (counts : Counts) (board : Board) (gs : List (EventId × Option ℤ)) : Type 0 where
  pub long : length counts ≡ length board
  pub others : (e : ℕ) → is_among e gs ≡ false → get_or counts e None ≡ option_map length (at board e)
  pub there : (e : ℕ) → is_among e gs ≡ true → e < length board → is_some (at board e) ≡ true

next_told : (counts : Counts) (board : Board) (g : EventId × Option ℤ) (gs : List (EventId × Option ℤ)) → IsTelling counts board (g ∷ gs) → IsTelling (set counts g.0.0 (Some (length (values g.0 board)))) board gs
next_told counts board g gs t = record {
  long = length-set counts g.0.0 (Some (length (values g.0 board))) ∙ t.long;
  others = λ e h. by e h (g.0.0 == e) refl (cases_lt e (length board));
  there = λ e h within. t.there e (or_more (g.0.0 == e) (is_among e gs) h) within;
}
  where
    by : (e : ℕ) → is_among e gs ≡ false → (same : Bool) → (g.0.0 == e) ≡ same → (e < length board) ⊎ (length board ≤ e) → get_or (set counts g.0.0 (count g board)) e None ≡ option_map length (at board e)
    by e h true is (inl within) =
        let eq : g.0.0 ≡ e = eqb-true g.0.0 e is in
        let long = t.long in
        let among : is_among e (g ∷ gs) ≡ true = ap (λ (b : Bool). b || is_among e gs) is in
        ap (λ (i : ℕ). get_or (set counts i (Some (length (unwrap_or (at board i) [])))) e None) eq
        ∙ get_or-set_same counts e (Some (length (unwrap_or (at board e) []))) None (omega (arith, long, within))
        ∙ present_count (at board e) (t.there e among within)
    by e h true is (inr past) =
        let long : length (set counts g.0.0 (count g board)) ≡ length counts = length-set counts g.0.0 (count g board) in
        let same = t.long in
        get_or_past (set counts g.0.0 (count g board)) e None (omega (arith, long, same, past))
        ∙ sym (ap (option_map length) (get_or_past board e None past))
    by e h false is w =
        let among : is_among e (g ∷ gs) ≡ false = ap (λ (b : Bool). b || is_among e gs) is ∙ h in
        get_or-set_other counts g.0.0 e (count g board) None (differs g.0.0 e is) ∙ t.others e among

all_told : (gs : List (EventId × Option ℤ)) (counts : Counts) (board : Board) → IsTelling counts board gs → told board gs counts ≡ counts_of board
all_told [] counts board t =
    ext_get_or None counts (counts_of board) (t.long ∙ sym (length-map board (option_map length))) (λ e within. t.others e refl ∙ sym (counts_at board e))
all_told (g ∷ gs) counts board t = all_told gs (set counts g.0.0 (Some (length (values g.0 board)))) board (next_told counts board g gs t)

-- who was told a board, and then of each event that was generated how many values it has on the board after that, was told that one
pub told_after : (gs : List (EventId × Option ℤ)) (before board : Board) → board ≡ generate_all gs before → told board gs (counts_of before) ≡ counts_of board
told_after gs before board is = all_told gs (counts_of before) board (record {
  long = length-map before (option_map length) ∙ sym (ap (λ (b : Board). length b) is ∙ length_generated gs before);
  others = λ e h. counts_at before e ∙ ap (option_map length) (sym (apart gs before e h) ∙ ap (λ (b : Board). at b e) (sym is));
  there = λ e h within.
      let long : length board ≡ length before = ap (λ (b : Board). length b) is ∙ length_generated gs before in
      ap (λ (b : Board). is_some (at b e)) is ∙ present gs before e h (omega (arith, long, within));
})

pub told_long : (gs : List (EventId × Option ℤ)) (before board : Board) (counts : Counts) → counts ≡ counts_of before → board ≡ generate_all gs before → length counts ≡ length board
told_long gs before board counts told is = ap (λ (c : Counts). length c) told ∙ length-map before (option_map length) ∙ sym (ap (λ (b : Board). length b) is ∙ length_generated gs before)

-- ---- for the functions that tell

pub told_step : (board : Board) (act : Act) (acts : List Act) (counts : Counts) → told board (generated_in (act ∷ acts)) counts ≡ told board (generated_in acts) (told board (generated_in (act ∷ [])) counts)
told_step board (Print t line) acts counts = refl
told_step board (Gen t event value) acts counts = refl
told_step board (Out t sent) acts counts = refl
told_step board (End t end) acts counts = refl

pub told_length : (gs : List (EventId × Option ℤ)) (board : Board) (counts : Counts) → length (told board gs counts) ≡ length counts
told_length [] board counts = refl
told_length (g ∷ gs) board counts = told_length gs board (set counts g.0.0 (Some (length (values g.0 board)))) ∙ length-set counts g.0.0 (Some (length (values g.0 board)))

pub set_beyond : (counts : Counts) (i : ℕ) (o : Option ℕ) → length counts ≤ i → set counts i o ≡ counts
set_beyond counts i o h = set_past counts i o h
