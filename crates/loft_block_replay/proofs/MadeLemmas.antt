-- The instants of a block, one after the other.
use Rattle.std.proofs.Common.{◌≡◌, ℕ, ℤ, zero, suc, ◌+◌, ◌<◌, ◌≤◌, true, Bool, false, not, ◌&&◌, List, [], ◌∷◌, ◌++◌, length, drop, get_or, drop-cons, inl, inr, refl, sym, ap, subst, ◌∙◌, append-nil, append_assoc, arith}
use Rattle.std.proofs.lemmas.Grind.{common_steps, flat_map-append}
use Rattle.std.proofs.lemmas.List.{drop_all}
use Rattle.loft_base.specs.declared.ids.SchedId.{SchedId}
use Rattle.loft_base.specs.declared.options.Limits.{Limits}
use Rattle.loft_tree.specs.declared.heads.Heads.{Heads}
use Rattle.loft_orders.specs.declared.note.Standing.{Standing}
use Rattle.loft_orders.specs.declared.order.Order.{Order}
use Rattle.loft_orders.specs.declared.note.InstantNote.{InstantNote}
use Rattle.loft_orders.specs.Lines.{text_of, scheduler_line, instant_lines}
use Rattle.loft_sense.specs.Machine.{Prog, heads, Mach, empty}
use Rattle.loft_sense.specs.Instant.{instant, Replayed, replay_on}
use Rattle.loft_history.specs.Report.{instants_lines, begun_lines, final_lines, block_lines}
use Rattle.loft_value_text.specs.declared.line.LineBuffer.{LineBuffer}
use Rattle.loft_value_text.specs.Buffer.{Adds}
use Rattle.loft_block_replay.specs.Block.{IsNext, Follow, FailsAt, block_bytes}
use Rattle.loft_block_replay.specs.Outcomes.{IsWhole}
use Rattle.loft_block_replay.specs.Made.{Turned, Made, AllMade, FailsFirstAt, machine_on, notes_on, text_on}
use Rattle.loft_block_replay.specs.Batch.{order_lines, AreGiven}
use Rattle.loft_history.specs.History.{has_turn}

drop-at : {A : Type 0} (xs : List A) (i : ℕ) (x : A) → i < length xs → x ≡ get_or xs i x → drop i xs ≡ x ∷ drop (i + 1) xs
drop-at xs i x below is = grind (arith, common_steps, drop-cons xs i x below)

text_of-append : (a b : List (List ℕ)) → text_of (a ++ b) ≡ text_of a ++ text_of b
text_of-append a b = flat_map-append (λ line. line ++ 10 ∷ []) a b

-- ---- one batch more

machine_more : (x : Prog) (limits : Limits) (m : Mach) (bs : List (List Order)) (b : List Order) → machine_on x limits m (bs ++ b ∷ []) ≡ (instant x limits (machine_on x limits m bs) b).machine
machine_more x limits m [] b = refl
machine_more x limits m (c ∷ bs) b = machine_more x limits (instant x limits m c).machine bs b

text_more : (x : Prog) (limits : Limits) (m : Mach) (bs : List (List Order)) (b : List Order)
    → text_on x limits m (bs ++ b ∷ []) ≡ text_on x limits m bs ++ text_of (instant_lines (heads x) b (instant x limits (machine_on x limits m bs) b).note)
text_more x limits m [] b = ap text_of (append-nil (instant_lines (heads x) b (instant x limits m b).note))
text_more x limits m (c ∷ bs) b =
    let n = (instant x limits m c).note in
    let next = (instant x limits m c).machine in
    let last = text_of (instant_lines (heads x) b (instant x limits (machine_on x limits next bs) b).note) in
    text_of-append (instant_lines (heads x) c n) (instants_lines (heads x) (bs ++ b ∷ []) (notes_on x limits next (bs ++ b ∷ [])))
    ∙ ap (λ t. text_of (instant_lines (heads x) c n) ++ t) (text_more x limits next bs b)
    ∙ sym (append_assoc (text_of (instant_lines (heads x) c n)) (text_on x limits next bs) last)
    ∙ ap (λ t. t ++ last) (sym (text_of-append (instant_lines (heads x) c n) (instants_lines (heads x) bs (notes_on x limits next bs))))

-- a replay is that
pub replayed_on : (x : Prog) (limits : Limits) (m : Mach) (notes : List InstantNote) (bs : List (List Order))
    → replay_on x limits (record { machine = m; notes = notes }) bs ≡ record { machine = machine_on x limits m bs; notes = notes ++ notes_on x limits m bs }
replayed_on x limits m notes [] = ap (λ (ns : List InstantNote). record { machine = m; notes = ns }) (sym (append-nil notes))
replayed_on x limits m notes (b ∷ bs) =
    let did = instant x limits m b in
    replayed_on x limits did.machine (notes ++ did.note ∷ []) bs
    ∙ ap (λ (ns : List InstantNote). record { machine = machine_on x limits did.machine bs; notes = ns }) (append_assoc notes (did.note ∷ []) (notes_on x limits did.machine bs))

-- ---- the instants so far

-- The first i instants were made, on these batches; what follows of the others from here on follows of all from the beginning,
-- and the other way round.
pub record SoFar (x : Prog) (limits : Limits) (s : SchedId) (m now : Mach) (texts : List (List ℕ)) (i : ℕ) (begun written : LineBuffer) : Type 0 where
  pub batches : List (List Order)
  pub leads : now ≡ machine_on x limits m batches
  pub text : Adds begun written (text_on x limits m batches)
  pub down : (cs : List (List Order)) → Follow x limits s now (drop i texts) cs → Follow x limits s m texts (batches ++ cs)
  pub up : (bs : List (List Order)) → Follow x limits s m texts bs → (cs : List (List Order)) × (bs ≡ batches ++ cs) × Follow x limits s now (drop i texts) cs
  pub fails_down : (n : ℕ) → FailsAt x limits s now (drop i texts) n → FailsAt x limits s m texts (i + n)
  pub fails_up : (n : ℕ) → FailsAt x limits s m texts n → (k : ℕ) × (n ≡ i + k) × FailsAt x limits s now (drop i texts) k

pub none_so_far : (x : Prog) (limits : Limits) (s : SchedId) (m : Mach) (texts : List (List ℕ)) (begun : LineBuffer) → SoFar x limits s m m texts 0 begun begun
none_so_far x limits s m texts begun = record {
  batches = [];
  leads = refl;
  text = λ whole. (whole, sym (append-nil begun.text.items));
  down = λ cs f. f;
  up = λ bs f. (bs, refl, f);
  fails_down = λ n f. let same : n ≡ 0 + n = omega arith in subst (FailsAt x limits s m texts) same f;
  fails_up = λ n f. (n, omega arith, f);
}

-- the batch of a next instant is the only one
next_follows : (x : Prog) (limits : Limits) (s : SchedId) (now after : Mach) (text : List ℕ) (texts : List (List ℕ)) (begun written : LineBuffer) → (made : Made x limits s now after text begun written)
    → (cs : List (List Order)) → Follow x limits s now (text ∷ texts) cs → (ds : List (List Order)) × (cs ≡ made.batch ∷ ds) × Follow x limits s after texts ds
next_follows x limits s now after text texts begun written made [] f = absurd f
next_follows x limits s now after text texts begun written made (c ∷ cs) f =
    let same : c ≡ made.batch = made.only c f.0 in
    let machine : (instant x limits now c).machine ≡ after = ap (λ (b : List Order). (instant x limits now b).machine) same ∙ sym made.leads in
    (cs, ap (λ (b : List Order). b ∷ cs) same, subst (λ (k : Mach). Follow x limits s k texts cs) machine f.1)

next_fails : (x : Prog) (limits : Limits) (s : SchedId) (now after : Mach) (text : List ℕ) (texts : List (List ℕ)) (begun written : LineBuffer) → (made : Made x limits s now after text begun written)
    → (n : ℕ) → FailsAt x limits s now (text ∷ texts) n → (k : ℕ) × (n ≡ k + 1) × FailsAt x limits s after texts k
next_fails x limits s now after text texts begun written made n (inl f) = absurd (f.1 made.batch made.next)
next_fails x limits s now after text texts begun written made n (inr (b, k, next, f, is)) =
    let same : b ≡ made.batch = made.only b next in
    let machine : (instant x limits now b).machine ≡ after = ap (λ (c : List Order). (instant x limits now c).machine) same ∙ sym made.leads in
    (k, is, subst (λ (j : Mach). FailsAt x limits s j texts k) machine f)

pub one_more : (x : Prog) (limits : Limits) (s : SchedId) (m now after : Mach) (texts : List (List ℕ)) (i : ℕ) (begun written longer : LineBuffer) (text : List ℕ)
    → SoFar x limits s m now texts i begun written → i < length texts → text ≡ get_or texts i text → Made x limits s now after text written longer → SoFar x limits s m after texts (i + 1) begun longer
one_more x limits s m now after texts i begun written longer text so below is made =
    let batch = made.batch in
    let here : drop i texts ≡ text ∷ drop (i + 1) texts = drop-at texts i text below is in
    record {
      batches = so.batches ++ batch ∷ [];
      leads = made.leads ∙ ap (λ (k : Mach). (instant x limits k batch).machine) so.leads ∙ sym (machine_more x limits m so.batches batch);
      text = λ whole.
          let second = made.adds whole in
          let first = so.text second.0 in
          let tail : text_of (instant_lines (heads x) batch (instant x limits now batch).note) ≡ text_of (instant_lines (heads x) batch (instant x limits (machine_on x limits m so.batches) batch).note) =
          ap (λ (k : Mach). text_of (instant_lines (heads x) batch (instant x limits k batch).note)) so.leads in (
            first.0,
            second.1 ∙ ap (λ t. t ++ text_of (instant_lines (heads x) batch (instant x limits now batch).note)) first.1
                ∙ append_assoc begun.text.items (text_on x limits m so.batches) (text_of (instant_lines (heads x) batch (instant x limits now batch).note))
                ∙ ap (λ t. begun.text.items ++ (text_on x limits m so.batches ++ t)) tail
                ∙ ap (λ t. begun.text.items ++ t) (sym (text_more x limits m so.batches batch)),
          );
      down = λ cs f.
          let g : Follow x limits s (instant x limits now batch).machine (drop (i + 1) texts) cs = subst (λ (k : Mach). Follow x limits s k (drop (i + 1) texts) cs) made.leads f in
          let all : Follow x limits s now (drop i texts) (batch ∷ cs) = subst (λ (l : List (List ℕ)). Follow x limits s now l (batch ∷ cs)) (sym here) (made.next, g) in
          subst (Follow x limits s m texts) (sym (append_assoc so.batches (batch ∷ []) cs)) (so.down (batch ∷ cs) all);
      up = λ bs f.
          let (cs, split, g) = so.up bs f in
          let (ds, first, rest) = next_follows x limits s now after text (drop (i + 1) texts) written longer made cs (subst (λ (l : List (List ℕ)). Follow x limits s now l cs) here g) in
          (ds, split ∙ ap (λ (l : List (List Order)). so.batches ++ l) first ∙ sym (append_assoc so.batches (batch ∷ []) ds), rest);
      fails_down = λ n f.
          let g : FailsAt x limits s (instant x limits now batch).machine (drop (i + 1) texts) n = subst (λ (k : Mach). FailsAt x limits s k (drop (i + 1) texts) n) made.leads f in
          let one : FailsAt x limits s now (text ∷ drop (i + 1) texts) (n + 1) = inr (batch, n, made.next, g, refl) in
          let sum : i + (n + 1) ≡ i + 1 + n = omega arith in
          subst (FailsAt x limits s m texts) sum (so.fails_down (n + 1) (subst (λ (l : List (List ℕ)). FailsAt x limits s now l (n + 1)) (sym here) one));
      fails_up = λ n f.
          let (k, at, g) = so.fails_up n f in
          let (j, after_it, rest) = next_fails x limits s now after text (drop (i + 1) texts) written longer made k (subst (λ (l : List (List ℕ)). FailsAt x limits s now l k) here g) in
          (j, omega (arith, at, after_it), rest);
    }

-- ---- the last one

no_more : (x : Prog) (limits : Limits) (s : SchedId) (m : Mach) (texts : List (List ℕ)) (cs : List (List Order)) → texts ≡ [] → Follow x limits s m texts cs → cs ≡ []
no_more x limits s m [] [] none f = refl
no_more x limits s m [] (c ∷ cs) none f = absurd f
no_more x limits s m (t ∷ texts) cs none f = absurd cc

none_fails : (x : Prog) (limits : Limits) (s : SchedId) (m : Mach) (texts : List (List ℕ)) (n : ℕ) → texts ≡ [] → FailsAt x limits s m texts n → ⊥
none_fails x limits s m [] n none f = f
none_fails x limits s m (t ∷ texts) n none f = absurd cc

pub all_made : (x : Prog) (limits : Limits) (s : SchedId) (m now : Mach) (texts : List (List ℕ)) (i : ℕ) (begun written : LineBuffer)
    → SoFar x limits s m now texts i begun written → length texts ≤ i → AllMade x limits s m now texts begun written
all_made x limits s m now texts i begun written so past =
    let none : drop i texts ≡ [] = drop_all i texts past in
    record {
      batches = so.batches;
      adds = so.text;
      follow = subst (Follow x limits s m texts) (append-nil so.batches) (so.down [] (subst (λ (l : List (List ℕ)). Follow x limits s now l []) (sym none) tt));
      only = λ bs f. let (cs, split, g) = so.up bs f in split ∙ ap (λ (l : List (List Order)). so.batches ++ l) (no_more x limits s now (drop i texts) cs none g) ∙ append-nil so.batches;
      none = λ n f. let (k, at, g) = so.fails_up n f in none_fails x limits s now (drop i texts) k none g;
      leads = so.leads;
    }

-- an instant that may not be made
never_follows : (x : Prog) (limits : Limits) (s : SchedId) (now : Mach) (text : List ℕ) (texts : List (List ℕ)) → ((b : List Order) → IsNext x limits s now text b → ⊥) → (cs : List (List Order)) → Follow x limits s now (text ∷ texts) cs → ⊥
never_follows x limits s now text texts never [] f = f
never_follows x limits s now text texts never (c ∷ cs) f = never c f.0

fails_here : (x : Prog) (limits : Limits) (s : SchedId) (now : Mach) (text : List ℕ) (texts : List (List ℕ)) → ((b : List Order) → IsNext x limits s now text b → ⊥) → (n : ℕ) → FailsAt x limits s now (text ∷ texts) n → n ≡ 1
fails_here x limits s now text texts never n (inl f) = f.0
fails_here x limits s now text texts never n (inr (b, k, next, f, is)) = absurd (never b next)

pub stops : (x : Prog) (limits : Limits) (s : SchedId) (m now : Mach) (texts : List (List ℕ)) (i : ℕ) (begun written : LineBuffer) (text : List ℕ)
    → SoFar x limits s m now texts i begun written → i < length texts → text ≡ get_or texts i text → ((b : List Order) → IsNext x limits s now text b → ⊥) → FailsFirstAt x limits s m texts (i + 1)
stops x limits s m now texts i begun written text so below is never =
    let here : drop i texts ≡ text ∷ drop (i + 1) texts = drop-at texts i text below is in
    let first : FailsAt x limits s now (text ∷ drop (i + 1) texts) 1 = inl (refl, never) in
    record {
      fails = so.fails_down 1 (subst (λ (l : List (List ℕ)). FailsAt x limits s now l 1) (sym here) first);
      only = λ n f. let (k, at, g) = so.fails_up n f in let one : k ≡ 1 = fails_here x limits s now text (drop (i + 1) texts) never k (subst (λ (l : List (List ℕ)). FailsAt x limits s now l k) here g) in omega (arith, at, one);
      never = λ bs f. let (cs, split, g) = so.up bs f in never_follows x limits s now text (drop (i + 1) texts) never cs (subst (λ (l : List (List ℕ)). Follow x limits s now l cs) here g);
    }

-- ---- turns

-- a scheduler that has a turn isn't spent
pub unspent : (spent idle : Bool) → (not spent && not idle) ≡ true → spent ≡ false
unspent false idle e = refl
unspent true idle e = absurd cc

-- the batch of a turn
pub made_turn : (x : Prog) (limits : Limits) (s : SchedId) (m after : Mach) (text : List ℕ) (batch : List Order) (begun written : LineBuffer) → AreGiven x s (order_lines text) batch
    → ((b : List Order) → AreGiven x s (order_lines text) b → b ≡ batch) → Turned x limits m after batch begun written → Made x limits s m after text begun written
made_turn x limits s m after text batch begun written given only t = record {
  batch = batch;
  next = record { given = given; turn = t.turn };
  only = λ b n. only b n.given;
  leads = t.leads;
  adds = t.text;
}

pub never_turns : (x : Prog) (limits : Limits) (s : SchedId) (m : Mach) (text : List ℕ) (batch : List Order) → ((b : List Order) → AreGiven x s (order_lines text) b → b ≡ batch) → has_turn x limits m batch ≡ false → (b : List Order) → IsNext x limits s m text b → ⊥
never_turns x limits s m text batch only no_turn b n =
    let same : b ≡ batch = only b n.given in
    let e : has_turn x limits m batch ≡ true = subst (λ (c : List Order). has_turn x limits m c ≡ true) same n.turn in
    let f : true ≡ false = sym e ∙ no_turn in
    cc

pub got_as : {A : Type 0} (xs : List A) (i : ℕ) (x y : A) → x ≡ get_or xs i x → y ≡ x → i < length xs → y ≡ get_or xs i y
got_as [] i x y is same below = absurd (omega (arith, below))
got_as (z ∷ xs) zero x y is same below = same ∙ is
got_as (z ∷ xs) (suc i) x y is same below = got_as xs i x y is same (omega (arith, below))

-- ---- the whole block

-- the text of a block of these batches, in its parts
pub block_parts : (x : Prog) (limits : Limits) (s : SchedId) (bs : List (List Order)) (last : Mach) → last ≡ machine_on x limits (empty x s) bs
    → block_bytes x limits s bs ≡ (scheduler_line (heads x) s ++ 10 ∷ []) ++ (text_on x limits (empty x s) bs ++ text_of (final_lines (heads x) s last.linked last.shared))
block_parts x limits s bs last is =
    let h = heads x in
    let instants = instants_lines h bs (notes_on x limits (empty x s) bs) in
    let end = final_lines h s last.linked last.shared in
    ap (λ (r : Replayed). text_of (block_lines h s bs r)) (replayed_on x limits (empty x s) [] bs)
    ∙ ap (λ (m : Mach). text_of (begun_lines h s bs (notes_on x limits (empty x s) bs) ++ final_lines h s m.linked m.shared)) (sym is)
    ∙ text_of-append (scheduler_line h s ∷ instants) end
    ∙ append_assoc (scheduler_line h s ++ 10 ∷ []) (text_of instants) (text_of end)

-- what was written is that block
pub whole_block : (x : Prog) (limits : Limits) (s : SchedId) (texts : List (List ℕ)) (last : Mach) (new begun made ended : LineBuffer) (bytes : List ℕ) → new.text.items ≡ [] → Adds new begun (scheduler_line (heads x) s ++ 10 ∷ [])
    → AllMade x limits s (empty x s) last texts begun made → Adds made ended (text_of (final_lines (heads x) s last.linked last.shared)) → ended.is_whole ≡ true → bytes ≡ ended.text.items → IsWhole x limits s texts bytes
whole_block x limits s texts last new begun made ended bytes none start all end whole same =
    let e = end whole in
    let d = all.adds e.0 in
    let a = start d.0 in
    let first = scheduler_line (heads x) s ++ 10 ∷ [] in
    let middle = text_on x limits (empty x s) all.batches in
    let rest = text_of (final_lines (heads x) s last.linked last.shared) in
    record {
      batches = all.batches;
      follow = all.follow;
      only = all.only;
      none = all.none;
      right = same ∙ e.1 ∙ ap (λ t. t ++ rest) d.1 ∙ ap (λ t. (t ++ middle) ++ rest) (a.1 ∙ ap (λ t. t ++ first) none)
          ∙ append_assoc first middle rest ∙ sym (block_parts x limits s all.batches last all.leads);
    }

-- ---- texts as they were written

-- the text of an instant, with what was at hand for its parts
pub turned_text : (old new : LineBuffer) (h g : Heads) (b d : List Order) (n k : InstantNote) → h ≡ g → b ≡ d → n ≡ k → Adds old new (text_of (instant_lines h b n)) → Adds old new (text_of (instant_lines g d k))
turned_text old new h g b d n k e f i a =
    subst (λ (m : InstantNote). Adds old new (text_of (instant_lines g d m))) i (subst (λ (c : List Order). Adds old new (text_of (instant_lines g c n))) f (subst (λ (j : Heads). Adds old new (text_of (instant_lines j b n))) e a))

pub final_text : (old new : LineBuffer) (h g : Heads) (s : SchedId) (linked linked_now : List Standing) (shared shared_now : List ℤ) → h ≡ g → linked ≡ linked_now → shared ≡ shared_now
    → Adds old new (text_of (final_lines h s linked shared)) → Adds old new (text_of (final_lines g s linked_now shared_now))
final_text old new h g s linked linked_now shared shared_now e f i a =
    subst (λ (v : List ℤ). Adds old new (text_of (final_lines g s linked_now v))) i (subst (λ (l : List Standing). Adds old new (text_of (final_lines g s l shared))) f (subst (λ (j : Heads). Adds old new (text_of (final_lines j s linked shared))) e a))

pub start_text : (old new : LineBuffer) (h g : Heads) (s : SchedId) → h ≡ g → Adds old new (scheduler_line h s ++ 10 ∷ []) → Adds old new (scheduler_line g s ++ 10 ∷ [])
start_text old new h g s e a = subst (λ (j : Heads). Adds old new (scheduler_line j s ++ 10 ∷ [])) e a
