-- What a reader takes that keeps why it stopped: one part after another, lists, and chains of operators.
use Rattle.std.proofs.Common.{◌≡◌, ℕ, suc, ◌+◌, ◌<◌, ◌⊎◌, inl, inr, true, false, List, [], ◌∷◌, ◌++◌, length, map, Option, Some, None, Ok, Err, refl, sym, ◌∙◌, ap, subst, arith}
use Rattle.std.proofs.lemmas.List.{length-map, map_push}
use Rattle.loft_tree.specs.declared.kinds.BinaryOperator.{BinaryOperator}
use Rattle.loft_tree.specs.Source.{Expression, Binary}
use Rattle.loft_form.specs.declared.fault.Fault.{Fault}
use Rattle.loft_form.specs.declared.stop.Stop.{Stop}
use Rattle.loft_form.specs.declared.stop.Stop.TheVariants as stop
use Rattle.loft_form.specs.Form.{◌▹◌, many, made, Limits, next_begins}
use Rattle.loft_form.specs.Reading.{Place, Read, ◌>>=◌, read}
use Rattle.loft_form.proofs.Progress.{least, eaten}
use Rattle.loft_form.proofs.Lists.{list_more, list_fails, list_done}
use Rattle.loft_grammar.specs.declared.reader.Reader.{Reader}
use Rattle.loft_grammar.specs.Language.{Language}
use Rattle.loft_grammar.specs.Symbols.{Form}
use Rattle.loft_grammar.specs.Expressions.{list_of, further, listed}
use Rattle.loft_grammar.specs.Statements.{rules}
use Rattle.loft_grammar.specs.Readers.{Takes}
use Rattle.loft_grammar.specs.View.{reads, with_front, symbols_at, state_at, place_of}
use Rattle.loft_productions.proofs.Chains.{finish, chain_more, chain_fails, chain_done}

-- What is found from here on, with what was read before, is all; or all is the fault that stopped the reader.
abbrev pub Remains : {A : Type 0} → Reader → Reader → Read Language A → Read Language A → Type 0
Remains first at found total =
    (at.stopped ≡ None → (first.stopped ≡ None) × (found ≡ total))
    × ((f : Fault) → at.stopped ≡ Some (stop.Fault f) → (first.stopped ≡ Some (stop.Fault f)) ⊎ ((first.stopped ≡ None) × (total ≡ Err f)))

-- how often a loop may still go on
abbrev pub left_in : Option Stop → ℕ → ℕ
left_in None n = suc n
left_in (Some e) n = 0

abbrev pub left_to : Reader → ℕ
left_to at = left_in at.stopped (length at.cursor.symbols.now)

fewer : (o : Option Stop) (n m : ℕ) → (o ≡ None → n < m) → left_in o n < suc m
fewer None n m h = let k = h refl in omega arith
fewer (Some e) n m h = omega arith

-- the fault of a part that was begun
of_part : (o : Option Stop) (f : Fault) {P : Type 0} → o ≡ None → (o ≡ Some (stop.Fault f)) ⊎ ((o ≡ None) × P) → P
of_part o f going (inl e) = absurd (let g : None ≡ Some (stop.Fault f) = sym going ∙ e in cc)
of_part o f going (inr p) = p.1

module _ (lim : Limits Language) (n : ℕ) {a : Type 0} (f : Form a) (old mid new : Reader) (x : a) (going : old.stopped ≡ None) (some : 0 < least f) (takes : Takes old mid x (reads lim n f old.cursor)) (goes : new.stopped ≡ None → mid.stopped ≡ None) (same : new.cursor ≡ mid.cursor) where
  -- a part that is taken leaves less to read
  pub fewer_left : left_to new < left_to old
  fewer_left = rw (going, same) (fewer new.stopped (length mid.cursor.symbols.now) (length old.cursor.symbols.now)
      (λ h. simp length-map at (eaten rules lim n f (symbols_at old.cursor) (state_at old.cursor) x (place_of mid.cursor) some (takes.0 (goes h)).1)))

module _ (lim : Limits Language) (n : ℕ) {a : Type 0} (f : Form a) (xs : List a) (first old : Reader) (total : Read Language (List a)) (going : old.stopped ≡ None) (so_far : Remains first old (with_front xs (reads lim n (many f) old.cursor)) total) (some : 0 < least f) where
  pub more_listed : (x : a) (mid new : Reader) (ys : List a) → next_begins f (symbols_at old.cursor) ≡ true → Takes old mid x (reads lim n f old.cursor)
      → (new.stopped ≡ None → (mid.stopped ≡ None) × (ys ≡ xs ++ x ∷ [])) → ((g : Fault) → new.stopped ≡ Some (stop.Fault g) → mid.stopped ≡ Some (stop.Fault g)) → new.cursor ≡ mid.cursor
      → Remains first new (with_front ys (reads lim n (many f) new.cursor)) total
  more_listed x mid new ys begins takes pushed fails same = (
    (λ h. ((so_far.0 going).0, rw ((pushed h).1, same) (list_more rules lim n f xs (symbols_at old.cursor) (state_at old.cursor) total (so_far.0 going).1 x (place_of mid.cursor) some begins (takes.0 (pushed h).0).1))),
    (λ g h. inr ((so_far.0 going).0, list_fails rules lim n f xs (symbols_at old.cursor) (state_at old.cursor) total (so_far.0 going).1 (stop.Fault g) some begins (of_part old.stopped g going (takes.1 g (fails g h))))),
  )

-- an item more, as it is seen
pub appended : {X A : Type 0} (view : X → A) (xs ys : List X) (x : X) → ys ≡ xs ++ x ∷ [] → map view ys ≡ map view xs ++ view x ∷ []
appended view xs ys x e = ap (map view) e ∙ map_push view xs x

-- the first item
pub first_of : {X A : Type 0} (view : X → A) (xs ys : List X) (x : X) → xs ≡ [] → ys ≡ xs ++ x ∷ [] → map view ys ≡ [] ++ view x ∷ []
first_of view xs ys x e k = rw (k, e) refl

-- where the loop ends
pub all_listed : (lim : Limits Language) (n : ℕ) {a : Type 0} (f : Form a) (xs : List a) (first at : Reader) (total : Read Language (List a))
    → Remains first at (with_front xs (reads lim n (many f) at.cursor)) total → 0 < least f → (at.stopped ≡ None → next_begins f (symbols_at at.cursor) ≡ false)
    → Takes first at xs total
all_listed lim n f xs first at total so_far some ends = (
  (λ h. ((so_far.0 h).0, list_done rules lim n f xs (symbols_at at.cursor) (state_at at.cursor) total (so_far.0 h).1 some (ends h))),
  so_far.1,
)

module _ (lim : Limits Language) (n : ℕ) (f : Form (BinaryOperator × Expression)) (t : Expression) (first old : Reader) (total : Read Language Expression) (going : old.stopped ≡ None) (so_far : Remains first old (finish t (reads lim n (many f) old.cursor)) total) (some : 0 < least f) where
  pub more_chained : (x : BinaryOperator × Expression) (mid new : Reader) (u : Expression) → next_begins f (symbols_at old.cursor) ≡ true → Takes old mid x (reads lim n f old.cursor)
      → (new.stopped ≡ None → (mid.stopped ≡ None) × (u ≡ Binary x.0 t x.1)) → ((g : Fault) → new.stopped ≡ Some (stop.Fault g) → mid.stopped ≡ Some (stop.Fault g)) → new.cursor ≡ mid.cursor
      → Remains first new (finish u (reads lim n (many f) new.cursor)) total
  more_chained x mid new u begins takes bound fails same = (
    (λ h. ((so_far.0 going).0, rw ((bound h).1, same) (chain_more lim n f t (symbols_at old.cursor) (state_at old.cursor) total (so_far.0 going).1 x (place_of mid.cursor) some begins (takes.0 (bound h).0).1))),
    (λ g h. inr ((so_far.0 going).0, chain_fails lim n f t (symbols_at old.cursor) (state_at old.cursor) total (so_far.0 going).1 (stop.Fault g) some begins (of_part old.stopped g going (takes.1 g (fails g h))))),
  )

pub all_chained : (lim : Limits Language) (n : ℕ) (f : Form (BinaryOperator × Expression)) (t : Expression) (first at : Reader) (total : Read Language Expression)
    → Remains first at (finish t (reads lim n (many f) at.cursor)) total → 0 < least f → (at.stopped ≡ None → next_begins f (symbols_at at.cursor) ≡ false)
    → Takes first at t total
all_chained lim n f t first at total so_far some ends = (
  (λ h. ((so_far.0 h).0, chain_done lim n f t (symbols_at at.cursor) (state_at at.cursor) total (so_far.0 h).1 some (ends h))),
  so_far.1,
)

-- ---- one part after another

-- the second part is read where the first one ends
pub joined : {A B : Type 0} (old mid new : Reader) (x : A) (y : B) (r : Read Language A) (next : A × Place Language → Read Language B) → Takes old mid x r → Takes mid new y (next (x, place_of mid.cursor)) → Takes old new y (r >>= next)
joined old mid new x y r next t u = ((λ h. let m = u.0 h in let o = t.0 m.0 in (o.0, rw o.1 m.1)), (λ f h. each f (u.1 f h)))
  where
    begun : (f : Fault) → (old.stopped ≡ Some (stop.Fault f)) ⊎ ((old.stopped ≡ None) × (r ≡ Err f)) → (old.stopped ≡ Some (stop.Fault f)) ⊎ ((old.stopped ≡ None) × ((r >>= next) ≡ Err f))
    begun f (inl e) = inl e
    begun f (inr p) = inr (p.0, rw p.1 refl)

    each : (f : Fault) → (mid.stopped ≡ Some (stop.Fault f)) ⊎ ((mid.stopped ≡ None) × (next (x, place_of mid.cursor) ≡ Err f)) → (old.stopped ≡ Some (stop.Fault f)) ⊎ ((old.stopped ≡ None) × ((r >>= next) ≡ Err f))
    each f (inl e) = begun f (t.1 f e)
    each f (inr p) = let o = t.0 p.0 in inr (o.0, rw o.1 p.1)

-- a part before what is read
abbrev pub paired : {A B : Type 0} → A → Read Language B → Read Language (A × B)
paired x r = r >>= λ w. Ok ((x, w.0), w.1)

-- what was read stands for a value
abbrev pub meant : {A B : Type 0} → (A → B) → Read Language A → Read Language B
meant h r = r >>= λ w. Ok (h w.0, w.1)

-- the value of what is read, in a total function of it
mapped : {A B : Type 0} (old new : Reader) (x : A) (y : B) (r : Read Language A) (s : Read Language B) → (r ≡ Ok (x, place_of new.cursor) → s ≡ Ok (y, place_of new.cursor)) → ((e : Fault) → r ≡ Err e → s ≡ Err e)
    → Takes old new x r → Takes old new y s
mapped old new x y r s good bad t = ((λ k. let o = t.0 k in (o.0, good o.1)), (λ e k. each e (t.1 e k)))
  where
    each : (e : Fault) → (old.stopped ≡ Some (stop.Fault e)) ⊎ ((old.stopped ≡ None) × (r ≡ Err e)) → (old.stopped ≡ Some (stop.Fault e)) ⊎ ((old.stopped ≡ None) × (s ≡ Err e))
    each e (inl z) = inl z
    each e (inr p) = inr (p.0, bad e p.1)

-- what a form stands for
pub meaning : {A B : Type 0} (lim : Limits Language) (n : ℕ) (h : A → B) (f : Form A) (old new : Reader) (x : A)
    → Takes old new x (reads lim n f old.cursor) → Takes old new (h x) (reads lim n (made h f) old.cursor)
meaning lim n h f old new x t = mapped old new x (h x) (reads lim n f old.cursor) (meant h (reads lim n f old.cursor)) (λ k. ap (meant h) k) (λ e k. ap (meant h) k) t

-- one form and then another
pub in_turn : {A B : Type 0} (lim : Limits Language) (n : ℕ) (f : Form A) (g : Form B) (old mid new : Reader) (x : A) (y : B)
    → Takes old mid x (reads lim n f old.cursor) → Takes mid new y (reads lim n g mid.cursor) → Takes old new (x, y) (reads lim n (f ▹ g) old.cursor)
in_turn lim n f g old mid new x y t u =
    joined old mid new x (x, y) (reads lim n f old.cursor) (λ z. paired z.0 (read rules lim n g z.1.rest z.1.state)) t
    (mapped mid new y (x, y) (reads lim n g mid.cursor) (paired x (reads lim n g mid.cursor)) (λ k. ap (paired x) k) (λ e k. ap (paired x) k) u)

-- what is read was appended to a list before
pub pushed : {a B : Type 0} (mid next new : Reader) (xs ys : List a) (x : a) (z : B) (found : List a → Place Language → Read Language B)
    → (next.stopped ≡ None → (mid.stopped ≡ None) × (ys ≡ xs ++ x ∷ [])) → ((f : Fault) → next.stopped ≡ Some (stop.Fault f) → mid.stopped ≡ Some (stop.Fault f)) → next.cursor ≡ mid.cursor
    → Takes next new z (found ys (place_of next.cursor)) → Takes mid new z (found (xs ++ x ∷ []) (place_of mid.cursor))
pushed mid next new xs ys x z found item fault same u =
    ((λ h. let n = u.0 h in let m = item n.0 in (m.0, moved n.0 ∙ n.1)), (λ f h. each f (u.1 f h)))
  where
    moved : next.stopped ≡ None → found (xs ++ x ∷ []) (place_of mid.cursor) ≡ found ys (place_of next.cursor)
    moved h = rw ((item h).1, same) refl

    each : (f : Fault) → (next.stopped ≡ Some (stop.Fault f)) ⊎ ((next.stopped ≡ None) × (found ys (place_of next.cursor) ≡ Err f)) → (mid.stopped ≡ Some (stop.Fault f)) ⊎ ((mid.stopped ≡ None) × (found (xs ++ x ∷ []) (place_of mid.cursor) ≡ Err f))
    each f (inl e) = inl (fault f e)
    each f (inr p) = inr ((item p.0).0, moved p.0 ∙ p.1)

-- a first part, and then many
module _ {A : Type 0} (more : A × Place Language → Read Language (List A)) where
  many_after : (x : A) (m : Read Language (List A)) → meant list_of (meant (λ y. Some y) (paired x m)) ≡ with_front (x ∷ []) m
  many_after x (Ok y) = refl
  many_after x (Err e) = refl

  first_and_many : (r : Read Language A) → meant list_of (meant (λ y. Some y) (r >>= λ x. paired x.0 (more x))) ≡ (r >>= λ x. with_front (x.0 ∷ []) (more x))
  first_and_many (Ok x) = many_after x.0 (more x)
  first_and_many (Err e) = refl

-- a list that begins
pub listed_is : {A : Type 0} (lim : Limits Language) (n : ℕ) (f : Form A) (old mid next new : Reader) (x : A) (xs ys : List A) → next_begins f (symbols_at old.cursor) ≡ true
    → Takes old mid x (reads lim n f old.cursor)
    → (next.stopped ≡ None → (mid.stopped ≡ None) × (xs ≡ [] ++ x ∷ [])) → ((g : Fault) → next.stopped ≡ Some (stop.Fault g) → mid.stopped ≡ Some (stop.Fault g)) → next.cursor ≡ mid.cursor
    → Takes next new ys (with_front xs (reads lim n (many (further f)) next.cursor))
    → Takes old new ys (reads lim n (listed f) old.cursor)
listed_is {A} lim n f old mid next new x xs ys begins takes item fault same rest =
    let more : A × Place Language → Read Language (List A) = λ z. read rules lim n (many (further f)) z.1.rest z.1.state in
    let total : reads lim n (listed f) old.cursor ≡ (reads lim n f old.cursor >>= λ z. with_front (z.0 ∷ []) (more z)) = rw begins (first_and_many more (reads lim n f old.cursor)) in
    subst (λ r. Takes old new ys r) (sym total)
    (joined old mid new x ys (reads lim n f old.cursor) (λ z. with_front (z.0 ∷ []) (more z)) takes
    (pushed mid next new [] xs x ys (λ zs p. with_front zs (read rules lim n (many (further f)) p.rest p.state)) item fault same rest))

-- the items of a first part, a second one, and many
abbrev three_of : {A : Type 0} → A × (A × List A) → List A
three_of x = x.0 ∷ x.1.0 ∷ x.1.1

module _ {A : Type 0} (second : A × Place Language → Read Language A) (more : A × Place Language → Read Language (List A)) where
  many_after_two : (x y : A) (m : Read Language (List A)) → meant three_of (paired x (paired y m)) ≡ with_front ((x ∷ []) ++ y ∷ []) m
  many_after_two x y (Ok z) = refl
  many_after_two x y (Err e) = refl

  after_one : (x : A) (s : Read Language A) → meant three_of (paired x (s >>= λ y. paired y.0 (more y))) ≡ (s >>= λ y. with_front ((x ∷ []) ++ y.0 ∷ []) (more y))
  after_one x (Ok y) = many_after_two x y.0 (more y)
  after_one x (Err e) = refl

  two_and_many : (r : Read Language A) → meant three_of (r >>= λ x. paired x.0 (second x >>= λ y. paired y.0 (more y))) ≡ (r >>= λ x. second x >>= λ y. with_front ((x.0 ∷ []) ++ y.0 ∷ []) (more y))
  two_and_many (Ok x) = after_one x.0 (second x)
  two_and_many (Err e) = refl

pub two_listed : {A : Type 0} (lim : Limits Language) (n : ℕ) (f : Form A) (old a b c d new : Reader) (x y : A) (xs ys zs : List A)
    → Takes old a x (reads lim n f old.cursor)
    → (b.stopped ≡ None → (a.stopped ≡ None) × (xs ≡ [] ++ x ∷ [])) → ((g : Fault) → b.stopped ≡ Some (stop.Fault g) → a.stopped ≡ Some (stop.Fault g)) → b.cursor ≡ a.cursor
    → Takes b c y (reads lim n (further f) b.cursor)
    → (d.stopped ≡ None → (c.stopped ≡ None) × (ys ≡ xs ++ y ∷ [])) → ((g : Fault) → d.stopped ≡ Some (stop.Fault g) → c.stopped ≡ Some (stop.Fault g)) → d.cursor ≡ c.cursor
    → Takes d new zs (with_front ys (reads lim n (many (further f)) d.cursor))
    → Takes old new zs (reads lim n (made (λ x. x.0 ∷ x.1.0 ∷ x.1.1) (f ▹ further f ▹ many (further f))) old.cursor)
two_listed {A} lim n f old a b c d new x y xs ys zs first item fault same second item' fault' same' rest =
    let one : A × Place Language → Read Language A = λ z. read rules lim n (further f) z.1.rest z.1.state in
    let more : A × Place Language → Read Language (List A) = λ z. read rules lim n (many (further f)) z.1.rest z.1.state in
    let after : List A → Place Language → Read Language (List A) = λ ws p. read rules lim n (further f) p.rest p.state >>= λ w. with_front (ws ++ w.0 ∷ []) (more w) in
    subst (λ r. Takes old new zs r) (sym (two_and_many one more (reads lim n f old.cursor)))
    (joined old a new x zs (reads lim n f old.cursor) (λ z. after (z.0 ∷ []) z.1) first
    (pushed a b new [] xs x zs after item fault same
    (joined b c new y zs (reads lim n (further f) b.cursor) (λ w. with_front (xs ++ w.0 ∷ []) (more w)) second
    (pushed c d new xs ys y zs (λ ws p. with_front ws (read rules lim n (many (further f)) p.rest p.state)) item' fault' same' rest))))
