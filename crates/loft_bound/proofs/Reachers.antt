-- The modules that reach one, found over more and more others.
use Rattle.std.proofs.Common.{◌≡◌, ◌⊎◌, inl, inr, ℕ, zero, suc, ◌+◌, ◌≤◌, Bool, true, false, List, [], ◌∷◌, ◌++◌, map, length, Option, Some, None, slice_get, refl, sym, ap, ◌∙◌, subst, arith}
use Rattle.std.specs.Prelude.{◌||◌, is_some, unwrap_or, if◌then◌else◌}
use Rattle.std.proofs.lemmas.List.Sums.{sum_by-cons, count_by-le-length}
use Rattle.std.proofs.lemmas.Bool.{eqb-true, eq-eqb}
use Rattle.loft_base.specs.declared.ids.ModuleId.{ModuleId}
use Rattle.loft_tree.specs.Fits.{Each}
use Rattle.loft_tree.specs.NamedTree.{NamedStatements, NamedModule, NamedProgram}
use Rattle.loft_budget.specs.Verdicts.{RunAt, runs_in, statements_or_none, statements_at, RunsIt, Reaches, runs, on, FirstRun}
use Rattle.loft_body.specs.First.{mark_of, is_it, has_mark, first_marked}
use Rattle.loft_bound.specs.Found.{next_reaching, reaching_at, AllReaching, count_marks}
use Rattle.loft_bound.proofs.Rounds.{one_marked}

-- ---- marks grow

abbrev pub Grows : List Bool → List Bool → Type 0
Grows [] [] = Unit {0}
Grows [] (y ∷ ys) = ⊥
Grows (x ∷ xs) [] = ⊥
Grows (x ∷ xs) (y ∷ ys) = (x ≡ true → y ≡ true) × Grows xs ys

abbrev one : Bool → ℕ
one b = if b then 1 else 0

count_more : (b : Bool) (xs : List Bool) → count_marks (b ∷ xs) ≡ one b + count_marks xs
count_more b xs = sum_by-cons (λ (u : Bool). if u then 1 else 0) b xs

one_grows : (x y : Bool) → (x ≡ true → y ≡ true) → one x ≤ one y
one_grows false y f = omega arith
one_grows true true f = omega arith
one_grows true false f = let e = f refl in absurd cc

pub count_grows : (xs ys : List Bool) → Grows xs ys → count_marks xs ≤ count_marks ys
count_grows [] [] f = omega arith
count_grows [] (y ∷ ys) f = absurd f
count_grows (x ∷ xs) [] f = absurd f
count_grows (x ∷ xs) (y ∷ ys) f = omega (arith, count_more x xs, count_more y ys, one_grows x y f.0, count_grows xs ys f.1)

same_one : (x y : Bool) → (x ≡ true → y ≡ true) → one y ≤ one x → y ≡ x
same_one false false f g = refl
same_one false true f g = absurd (omega (arith, g))
same_one true y f g = f refl

pub same_count : (xs ys : List Bool) → Grows xs ys → count_marks ys ≤ count_marks xs → ys ≡ xs
same_count [] [] f g = refl
same_count [] (y ∷ ys) f g = absurd f
same_count (x ∷ xs) [] f g = absurd f
same_count (x ∷ xs) (y ∷ ys) f g =
    let less : count_marks ys ≤ count_marks xs = omega (arith, g, count_more x xs, count_more y ys, one_grows x y f.0) in
    let here : one y ≤ one x = omega (arith, g, count_more x xs, count_more y ys, count_grows xs ys f.1) in
    ap (λ (b : Bool). b ∷ ys) (same_one x y f.0 here) ∙ ap (λ (l : List Bool). x ∷ l) (same_count xs ys f.1 less)

-- ---- one depth more

abbrev More : (ModuleId → Bool) → (ModuleId → Bool) → Type 0
More f g = (m : ModuleId) → f m ≡ true → g m ≡ true

pub found_more : (f g : ModuleId → Bool) → More f g → (rs : List RunAt) → is_some (first_marked f rs) ≡ true → is_some (first_marked g rs) ≡ true
found_more f g more [] e = absurd cc
found_more f g more (r ∷ rs) e = by (f r.called) (g r.called) refl (more r.called) (found_more f g more rs) e
  where
    by : (b c : Bool) → f r.called ≡ b → (f r.called ≡ true → c ≡ true) → (is_some (first_marked f rs) ≡ true → is_some (first_marked g rs) ≡ true)
        → is_some (if b then Some r.at else first_marked f rs) ≡ true → is_some (if c then Some r.at else first_marked g rs) ≡ true
    by true true i h k e = refl
    by true false i h k e = let j = h i in absurd cc
    by false true i h k e = refl
    by false false i h k e = k e

marks_more : (m : ModuleId) (f g : List Bool) → More (mark_of f) (mark_of g) → More (has_mark f true (Some m)) (has_mark g true (Some m))
marks_more m f g more q e = by (mark_of f q) (mark_of g q) (is_it (Some m) q) refl (more q) e
  where
    by : (a b c : Bool) → mark_of f q ≡ a → (mark_of f q ≡ true → b ≡ true) → (a || c) ≡ true → (b || c) ≡ true
    by true b c i h e = ap (λ (u : Bool). u || c) (h i)
    by false true c i h e = refl
    by false false c i h e = e

next_more : (m : ModuleId) (f g : List Bool) (bs : List NamedStatements) → More (mark_of f) (mark_of g) → Grows (next_reaching m f bs) (next_reaching m g bs)
next_more m f g [] more = tt
next_more m f g (b ∷ bs) more = (found_more (has_mark f true (Some m)) (has_mark g true (Some m)) (marks_more m f g more) (runs_in b), next_more m f g bs more)

get_more : (xs ys : List Bool) → Grows xs ys → (k : ℕ) → unwrap_or (slice_get xs k) false ≡ true → unwrap_or (slice_get ys k) false ≡ true
get_more [] [] f k e = e
get_more [] (y ∷ ys) f k e = absurd f
get_more (x ∷ xs) [] f k e = absurd f
get_more (x ∷ xs) (y ∷ ys) f zero e = f.0 e
get_more (x ∷ xs) (y ∷ ys) f (suc k) e = get_more xs ys f.1 k e

nothing_more : (g : List Bool) → More (mark_of []) (mark_of g)
nothing_more g q e = absurd cc

pub marks_grow : (m : ModuleId) (bs : List NamedStatements) (k : ℕ) → Grows (reaching_at m bs (suc k)) (reaching_at m bs (suc (suc k)))
marks_grow m bs zero = next_more m [] (next_reaching m [] bs) bs (nothing_more (next_reaching m [] bs))
marks_grow m bs (suc k) =
    next_more m (reaching_at m bs (suc k)) (reaching_at m bs (suc (suc k))) bs (λ q e. get_more (reaching_at m bs (suc k)) (reaching_at m bs (suc (suc k))) (marks_grow m bs k) q.0 e)

pub stays_so : (m : ModuleId) (bs : List NamedStatements) (k : ℕ) (marks next : List Bool) → marks ≡ reaching_at m bs (suc k) → next ≡ next_reaching m marks bs → count_marks next ≤ count_marks marks → AllReaching m bs marks
stays_so m bs k marks next is e f =
    let grows : Grows marks (next_reaching m marks bs) = subst (λ (t : List Bool). Grows t (next_reaching m t bs)) (sym is) (marks_grow m bs k) in
    let fewer : count_marks (next_reaching m marks bs) ≤ count_marks marks = subst (λ (t : List Bool). count_marks t ≤ count_marks marks) e f in
    record { depth = suc k; is = is; stays = same_count marks (next_reaching m marks bs) grows fewer }

pub length_next : (m : ModuleId) (marks : List Bool) (bs : List NamedStatements) → length (next_reaching m marks bs) ≡ length bs
length_next m marks [] = refl
length_next m marks (b ∷ bs) = ap (λ (n : ℕ). suc n) (length_next m marks bs)

pub all_stay : (m : ModuleId) (bs : List NamedStatements) (k : ℕ) (marks : List Bool) → marks ≡ reaching_at m bs (suc k) → length bs ≤ count_marks marks → AllReaching m bs marks
all_stay m bs k marks is f =
    let most : count_marks (next_reaching m marks bs) ≤ length (next_reaching m marks bs) = count_by-le-length (λ (b : Bool). b) (next_reaching m marks bs) in
    let long : length (next_reaching m marks bs) ≡ length bs = length_next m marks bs in
    stays_so m bs k marks (next_reaching m marks bs) is refl (omega (arith, most, long, f))

-- ---- what is found

-- a `run` of a module that is so is found
pub there : (hit : ModuleId → Bool) (before : List RunAt) (r : RunAt) (after : List RunAt) → hit r.called ≡ true → is_some (first_marked hit (before ++ r ∷ after)) ≡ true
there hit [] r after e = ap (λ (b : Bool). is_some (if b then Some r.at else first_marked hit after)) e
there hit (b ∷ before) r after e = by (hit b.called) (there hit before r after e)
  where
    by : (c : Bool) → is_some (first_marked hit (before ++ r ∷ after)) ≡ true → is_some (if c then Some b.at else first_marked hit (before ++ r ∷ after)) ≡ true
    by true f = refl
    by false f = f

pub marked_or : (a b : Bool) → (a || b) ≡ true → (a ≡ true) ⊎ (b ≡ true)
marked_or true b e = inl refl
marked_or false b e = inr e

pub some_first : (o : Option ℕ) → is_some o ≡ true → (at : ℕ) × (o ≡ Some at)
some_first None e = absurd cc
some_first (Some at) e = (at, refl)

-- ---- they are those that reach it

module _ (n : NamedProgram) (m : ModuleId) where
  abbrev pub bodies : List NamedStatements
  bodies = map (λ (x : NamedModule). x.body) n.modules

  get_next : (marks : List Bool) (ms : List NamedModule) (k : ℕ)
      → unwrap_or (slice_get (next_reaching m marks (map (λ (x : NamedModule). x.body) ms)) k) false ≡ is_some (first_marked (has_mark marks true (Some m)) (runs_in (statements_or_none (slice_get ms k))))
  get_next marks [] k = refl
  get_next marks (x ∷ ms) zero = refl
  get_next marks (x ∷ ms) (suc k) = get_next marks ms k

  same_module : (q : ModuleId) → is_it (Some m) q ≡ true → q ≡ m
  same_module q e = let same : q.0 ≡ m.0 = eqb-true q.0 m.0 e in ap (λ (k : ℕ). record { 0 = k }) same

  -- each that is found reaches it
  sound : (k : ℕ) (q : ModuleId) → mark_of (reaching_at m bodies k) q ≡ true → Reaches n q m
  sound zero q e = absurd cc
  sound (suc k) q e = by (some_first _ (sym (get_next (reaching_at m bodies k) n.modules q.0) ∙ e)) (sound k)
    where
      hit : ModuleId → Bool
      hit = has_mark (reaching_at m bodies k) true (Some m)

      by : (at : ℕ) × (first_marked (has_mark (reaching_at m bodies k) true (Some m)) (runs_in (statements_at n q)) ≡ Some at) → ((r : ModuleId) → mark_of (reaching_at m bodies k) r ≡ true → Reaches n r m) → Reaches n q m
      by f rest = over (one_marked (has_mark (reaching_at m bodies k) true (Some m)) (runs_in (statements_at n q)) f.0 f.1)
        where
          over : FirstRun (λ (r : ModuleId). has_mark (reaching_at m bodies k) true (Some m) r ≡ true) (runs_in (statements_at n q)) f.0 → Reaches n q m
          over g = either (marked_or (mark_of (reaching_at m bodies k) g.run.called) (is_it (Some m) g.run.called) g.is)
            where
              either : (mark_of (reaching_at m bodies k) g.run.called ≡ true) ⊎ (is_it (Some m) g.run.called ≡ true) → Reaches n q m
              either (inl e) = on (g.before, g.run, g.after, g.splits, refl) (rest g.run.called e)
              either (inr e) = runs (g.before, g.run, g.after, g.splits, same_module g.run.called e)

  module _ (marks : List Bool) (all : AllReaching m bodies marks) where
    abbrev hit : ModuleId → Bool
    hit q = has_mark marks true (Some m) q

    hit_mark : (q : ModuleId) → mark_of marks q ≡ true → hit q ≡ true
    hit_mark q e = ap (λ (b : Bool). b || is_it (Some m) q) e

    or_it : (a b : Bool) → b ≡ true → (a || b) ≡ true
    or_it true b e = refl
    or_it false b e = e

    hit_self : (q : ModuleId) → q ≡ m → hit q ≡ true
    hit_self q e = or_it (mark_of marks q) (is_it (Some m) q) (eq-eqb q.0 m.0 (ap (λ (r : ModuleId). r.0) e))

    -- what runs one that is so is marked
    marked : (q : ModuleId) (r : ModuleId) → RunsIt n q r → hit r ≡ true → mark_of marks q ≡ true
    marked q r run e =
        let some : is_some (first_marked hit (runs_in (statements_at n q))) ≡ true =
        subst (λ (rs : List RunAt). is_some (first_marked hit rs) ≡ true) (sym run.3) (there hit run.0 run.1 run.2 (subst (λ (u : ModuleId). hit u ≡ true) (sym run.4) e)) in
        sym (ap (λ (l : List Bool). unwrap_or (slice_get l q.0) false) all.stays) ∙ get_next marks n.modules q.0 ∙ some

    -- each that reaches it is marked
    complete_to : {q t : ModuleId} → Reaches n q t → t ≡ m → mark_of marks q ≡ true
    complete_to {q} {t} (runs r) e = marked q t r (hit_self t e)
    complete_to {q} {t} (on {r = r} one rest) e = marked q r one (hit_mark r (complete_to rest e))

    pub complete : (q : ModuleId) → Reaches n q m → mark_of marks q ≡ true
    complete q r = complete_to r refl

    pub reaches : (q : ModuleId) → mark_of marks q ≡ true → Reaches n q m
    reaches q e = sound all.depth q (subst (λ (l : List Bool). mark_of l q ≡ true) all.is e)

    true_false : {b : Bool} → b ≡ true → b ≡ false → ⊥
    true_false e f = cc

    -- the first `run` of a module that reaches it
    pub first_recursive : (at : ℕ) → first_marked hit (runs_in (statements_at n m)) ≡ Some at → FirstRun (λ (q : ModuleId). Reaches n q m) (runs_in (statements_at n m)) at
    first_recursive at e = by (one_marked hit (runs_in (statements_at n m)) at e)
      where
        not_before : (rs : List RunAt) → Each (λ (r : RunAt). hit r.called ≡ true → ⊥) rs → Each (λ (r : RunAt). Reaches n r.called m → ⊥) rs
        not_before [] f = tt
        not_before (r ∷ rs) f = (λ reach. f.0 (hit_mark r.called (complete r.called reach)), not_before rs f.1)

        by : FirstRun (λ (q : ModuleId). hit q ≡ true) (runs_in (statements_at n m)) at → FirstRun (λ (q : ModuleId). Reaches n q m) (runs_in (statements_at n m)) at
        by f = record { before = f.before; run = f.run; after = f.after; splits = f.splits; none = not_before f.before f.none; is = it (marked_or (mark_of marks f.run.called) (is_it (Some m) f.run.called) f.is); there = f.there }
          where
            it : (mark_of marks f.run.called ≡ true) ⊎ (is_it (Some m) f.run.called ≡ true) → Reaches n f.run.called m
            it (inl g) = reaches f.run.called g
            it (inr g) = let same = same_module f.run.called g in subst (λ (u : ModuleId). Reaches n u m) (sym same) (runs (f.before, f.run, f.after, f.splits, same))

    -- where none is found, it doesn't reach itself
    pub not_recursive : first_marked hit (runs_in (statements_at n m)) ≡ None → Reaches n m m → ⊥
    not_recursive e r = true_false (complete m r) (sym (ap (λ (l : List Bool). unwrap_or (slice_get l m.0) false) all.stays) ∙ get_next marks n.modules m.0 ∙ ap (λ (o : Option ℕ). is_some o) e)
