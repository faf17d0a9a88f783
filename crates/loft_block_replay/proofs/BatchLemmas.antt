-- The lines of an instant, one after the other.
use Rattle.std.proofs.Common.{◌≡◌, ℕ, ◌==◌, Option, Some, None, Result, Ok, Err, IfOk, IfSome, IfNone, Bool, true, false, not, List, [], ◌∷◌, ◌++◌, length, filter, ◌⊎◌, inl, inr, if◌then◌else◌, refl, sym, ap, subst, ◌∙◌, append-nil, append_assoc, arith}
use Rattle.std.specs.Prelude.{All}
use Rattle.std.proofs.lemmas.List.Splits.{slice_split_at, slice_split_none}
use Rattle.std.proofs.lemmas.List.Elements.{All-from_recursion}
use Rattle.std.specs.List.{AllByRecursion}
use Rattle.loft_spelling.proofs.Sets.{and_both}
use Rattle.loft_base.specs.declared.ids.SchedId.{SchedId}
use Rattle.loft_orders.specs.declared.order.Order.{Order}
use Rattle.loft_sense.specs.Machine.{Prog, heads}
use Rattle.loft_sense.specs.Fits.{Fits}
use Rattle.loft_order_lines.specs.Cut.{lacks, Lacks, IsCut}
use Rattle.loft_order_lines.specs.Says.{Says}
use Rattle.loft_block_replay.specs.Batch.{lines_of, is_order_line, order_lines, AreGiven}
use Rattle.loft_block_replay.specs.Reading.{Read}

-- ---- the first line

not_true : (t : Bool) → not t ≡ true → t ≡ false
not_true false e = refl
not_true true e = absurd cc

no_feed : (line : List ℕ) → Lacks 10 line → All (λ b. (b == 10) ≡ false) line
no_feed line p = All-from_recursion (λ b. (b == 10) ≡ false) line (go line p)
  where
    go : (bytes : List ℕ) → Lacks 10 bytes → AllByRecursion (λ b. (b == 10) ≡ false) bytes
    go [] q = tt
    go (b ∷ bytes) q = let r = and_both (not (b == 10)) (lacks 10 bytes) q in (not_true (b == 10) r.0, go bytes r.1)

one_line : (l : List ℕ) (ls : List (List ℕ)) → filter is_order_line (l ∷ ls) ≡ filter is_order_line (l ∷ []) ++ filter is_order_line ls
one_line l ls = by (is_order_line l)
  where
    by : (t : Bool) → (if t then l ∷ filter is_order_line ls else filter is_order_line ls) ≡ (if t then l ∷ [] else []) ++ filter is_order_line ls
    by true = refl
    by false = refl

-- a text that has bytes begins with a line, and other lines come after it
pub lines_cut : (text line rest : List ℕ) → IsCut 10 text line rest → order_lines text ≡ filter is_order_line (line ∷ []) ++ order_lines rest
lines_cut text line rest cut = go cut.whole
  where
    go : (text ≡ line ++ 10 ∷ rest) ⊎ ((text ≡ line) × (rest ≡ [])) → order_lines text ≡ filter is_order_line (line ∷ []) ++ order_lines rest
    go (inl w) = ap order_lines w ∙ ap (filter is_order_line) (slice_split_at (λ b. b == 10) line 10 rest (no_feed line cut.lack) refl) ∙ one_line line (lines_of rest)
    go (inr w) =
        ap order_lines w.0 ∙ ap (filter is_order_line) (slice_split_none (λ b. b == 10) line (no_feed line cut.lack))
        ∙ sym (append-nil (filter is_order_line (line ∷ []))) ∙ ap (λ t. filter is_order_line (line ∷ []) ++ order_lines t) (sym w.1)

pub skipped : (line : List ℕ) → is_order_line line ≡ false → filter is_order_line (line ∷ []) ≡ []
skipped line e = ap (λ (t : Bool). if t then line ∷ [] else []) e

pub taken : (line : List ℕ) → is_order_line line ≡ true → filter is_order_line (line ∷ []) ≡ line ∷ []
taken line e = ap (λ (t : Bool). if t then line ∷ [] else []) e

-- ---- the orders so far

pub read_none : (x : Prog) (s : SchedId) (all : List (List ℕ)) → Read x s all all []
read_none x s all = record { down = λ os f. f; up = λ batch f. (batch, refl, f) }

pub read_skip : (x : Prog) (s : SchedId) (all left rest : List (List ℕ)) (orders : List Order) → left ≡ rest → Read x s all left orders → Read x s all rest orders
read_skip x s all left rest orders same r = subst (λ (l : List (List ℕ)). Read x s all l orders) same r

pub read_more : (x : Prog) (s : SchedId) (all left rest : List (List ℕ)) (orders : List Order) (line : List ℕ) (o : Order) → left ≡ line ∷ rest → Says (heads x) line o → Fits x s o
    → ((other : Order) → Says (heads x) line other → Fits x s other → other ≡ o) → Read x s all left orders → Read x s all rest (orders ++ o ∷ [])
read_more x s all left rest orders line o first says fits only r = record {
  down = λ os f. subst (AreGiven x s all) (sym (append_assoc orders (o ∷ []) os)) (r.down (o ∷ os) (subst (λ (l : List (List ℕ)). AreGiven x s l (o ∷ os)) (sym first) (says, fits, f)));
  up = λ batch f. let (os, split, g) = r.up batch f in go batch os split (subst (λ (l : List (List ℕ)). AreGiven x s l os) first g);
}
  where
    go : (batch os : List Order) → batch ≡ orders ++ os → AreGiven x s (line ∷ rest) os → (ps : List Order) × (batch ≡ (orders ++ o ∷ []) ++ ps) × AreGiven x s rest ps
    go batch [] split g = absurd g
    go batch (p ∷ ps) split g =
        let same : p ≡ o = only p g.0 g.1 in
        (ps, split ∙ ap (λ (q : Order). orders ++ q ∷ ps) same ∙ sym (append_assoc orders (o ∷ []) ps), g.2)

-- a line that says no order of which the scheduler may be given one
pub read_never : (x : Prog) (s : SchedId) (all left rest : List (List ℕ)) (orders : List Order) (line : List ℕ) → left ≡ line ∷ rest → ((o : Order) → Says (heads x) line o → Fits x s o → ⊥)
    → Read x s all left orders → (batch : List Order) → AreGiven x s all batch → ⊥
read_never x s all left rest orders line first never r batch f = let (os, split, g) = r.up batch f in go os (subst (λ (l : List (List ℕ)). AreGiven x s l os) first g)
  where
    go : (os : List Order) → AreGiven x s (line ∷ rest) os → ⊥
    go [] g = g
    go (o ∷ os) g = never o g.0 g.1

-- no line is left
pub read_given : (x : Prog) (s : SchedId) (all left : List (List ℕ)) (orders : List Order) → left ≡ [] → Read x s all left orders → AreGiven x s all orders
read_given x s all left orders none r = subst (AreGiven x s all) (append-nil orders) (r.down [] (subst (λ (l : List (List ℕ)). AreGiven x s l []) (sym none) tt))

pub read_only : (x : Prog) (s : SchedId) (all left : List (List ℕ)) (orders : List Order) → left ≡ [] → Read x s all left orders → (batch : List Order) → AreGiven x s all batch → batch ≡ orders
read_only x s all left orders none r batch f = let (os, split, g) = r.up batch f in split ∙ ap (λ (l : List Order). orders ++ l) (go os (subst (λ (l : List (List ℕ)). AreGiven x s l os) none g)) ∙ append-nil orders
  where
    go : (os : List Order) → AreGiven x s [] os → os ≡ []
    go [] g = refl
    go (o ∷ os) g = absurd g

pub no_lines : (text : List ℕ) → length text ≡ 0 → order_lines text ≡ []
no_lines [] none = refl
no_lines (b ∷ text) none = absurd (omega (arith, none))

-- what is given fits
pub given_fit : (x : Prog) (s : SchedId) (lines : List (List ℕ)) (batch : List Order) → AreGiven x s lines batch → All (Fits x s) batch
given_fit x s lines batch f = All-from_recursion (Fits x s) batch (go lines batch f)
  where
    go : (ls : List (List ℕ)) (os : List Order) → AreGiven x s ls os → AllByRecursion (Fits x s) os
    go [] [] g = tt
    go [] (o ∷ os) g = absurd g
    go (l ∷ ls) [] g = tt
    go (l ∷ ls) (o ∷ os) g = (g.1, go ls os g.2)

-- ---- one line

-- a line that is none of an order
pub line_skipped : (x : Prog) (s : SchedId) (line : List ℕ) (orders : List Order) → is_order_line line ≡ false → (all rest : List (List ℕ)) → Read x s all (filter is_order_line (line ∷ []) ++ rest) orders → Read x s all rest orders
line_skipped x s line orders other all rest r = read_skip x s all (filter is_order_line (line ∷ []) ++ rest) rest orders (ap (λ (ls : List (List ℕ)). ls ++ rest) (skipped line other)) r

-- a line of an order that is given
pub line_read : (x : Prog) (s : SchedId) (line : List ℕ) (orders longer : List Order) (o : Order) → is_order_line line ≡ true → Says (heads x) line o → Fits x s o
    → ((other : Order) → Says (heads x) line other → Fits x s other → other ≡ o) → longer ≡ orders ++ o ∷ []
    → (all rest : List (List ℕ)) → Read x s all (filter is_order_line (line ∷ []) ++ rest) orders → Read x s all rest longer
line_read x s line orders longer o is says fits only more all rest r =
    subst (Read x s all rest) (sym more) (read_more x s all (filter is_order_line (line ∷ []) ++ rest) rest orders line o (ap (λ (ls : List (List ℕ)). ls ++ rest) (taken line is)) says fits only r)

-- a line of an order that isn't
pub line_refused : (x : Prog) (s : SchedId) (line : List ℕ) (orders : List Order) → is_order_line line ≡ true → ((o : Order) → Says (heads x) line o → Fits x s o → ⊥)
    → (all rest : List (List ℕ)) → Read x s all (filter is_order_line (line ∷ []) ++ rest) orders → (batch : List Order) → AreGiven x s all batch → ⊥
line_refused x s line orders is never all rest r = read_never x s all (filter is_order_line (line ∷ []) ++ rest) rest orders line (ap (λ (ls : List (List ℕ)). ls ++ rest) (taken line is)) never r

-- what is found is the only one
pub only_found : {A : Type 0} {E : Type 0} (r : Result (Option A) E) (x y : A) → r ≡ Ok (Some x) → IfOk r (λ found. found ≡ Some y) → y ≡ x
only_found (Ok (Some z)) x y e f = let g : z ≡ x = cc in let h : z ≡ y = cc in sym h ∙ g
only_found (Ok None) x y e f = absurd cc
only_found (Err e1) x y e f = absurd cc

pub none_found : {A : Type 0} {E : Type 0} (r : Result (Option A) E) (y : A) → r ≡ Ok None → IfOk r (λ found. found ≡ Some y) → ⊥
none_found (Ok (Some z)) y e f = cc
none_found (Ok None) y e f = cc
none_found (Err e1) y e f = cc

-- what holds of what there is
pub some_of : {A : Type 0} (P : A → Type 0) (r : Option A) (x : A) → r ≡ Some x → IfSome r P → P x
some_of P (Some y) x e p = let same : y ≡ x = cc in subst P same p
some_of P None x e p = absurd cc

pub none_of : {A : Type 0} (W : Type 0) (r : Option A) → r ≡ None → IfNone r W → W
none_of W (Some y) e w = absurd cc
none_of W None e w = w

pub ok_map : {A E : Type 0} (P Q : A → Type 0) (r : Result A E) → IfOk r P → ((x : A) → P x → Q x) → IfOk r Q
ok_map P Q (Ok x) p map = map x p
ok_map P Q (Err e) p map = tt
