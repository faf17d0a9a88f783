-- Tables grow until one stays.
use Rattle.std.proofs.Common.{◌≡◌, ℕ, zero, suc, ◌+◌, ◌≤◌, List, [], ◌∷◌, length, Option, Some, None, slice_get, refl, sym, ap, ◌∙◌, subst, arith}
use Rattle.std.specs.Prelude.{is_some, nat_le, if◌then◌else◌}
use Rattle.std.proofs.lemmas.List.Sums.{sum_by-cons, count_by-le-length}
use Rattle.loft_base.specs.declared.ids.ModuleId.{ModuleId}
use Rattle.loft_tree.specs.NamedTree.{NamedStatements}
use Rattle.loft_tree.specs.Resolved.{Body, body_of}
use Rattle.loft_budget.specs.declared.steps.Steps.{Steps}
use Rattle.loft_budget.specs.Bounds.{bound_of, most_bound, bounded_steps}
use Rattle.loft_body.specs.Capped.{or_none, entry}
use Rattle.loft_bound.specs.Found.{count, next_table, table_at, IsStable}
use Rattle.loft_budget.proofs.Table.{Asked, asked_if, bounded_by, body_same}

-- each that is there is there later, with the same steps
abbrev pub Grows : List (Option Steps) → List (Option Steps) → Type 0
Grows [] [] = Unit {0}
Grows [] (y ∷ ys) = ⊥
Grows (x ∷ xs) [] = ⊥
Grows (x ∷ xs) (y ∷ ys) = ((v : Steps) → x ≡ Some v → y ≡ Some v) × Grows xs ys

abbrev one : Option Steps → ℕ
one o = if is_some o then 1 else 0

count_more : (o : Option Steps) (xs : List (Option Steps)) → count (o ∷ xs) ≡ one o + count xs
count_more o xs = sum_by-cons (λ (u : Option Steps). if is_some u then 1 else 0) o xs

one_grows : (x y : Option Steps) → ((v : Steps) → x ≡ Some v → y ≡ Some v) → one x ≤ one y
one_grows None y f = omega arith
one_grows (Some v) None f = absurd (none_some (f v refl))
  where
    none_some : None ≡ Some v → ⊥
    none_some e = cc
one_grows (Some v) (Some u) f = omega arith

pub count_grows : (xs ys : List (Option Steps)) → Grows xs ys → count xs ≤ count ys
count_grows [] [] f = omega arith
count_grows [] (y ∷ ys) f = absurd f
count_grows (x ∷ xs) [] f = absurd f
count_grows (x ∷ xs) (y ∷ ys) f = omega (arith, count_more x xs, count_more y ys, one_grows x y f.0, count_grows xs ys f.1)

same_one : (x y : Option Steps) → ((v : Steps) → x ≡ Some v → y ≡ Some v) → one y ≤ one x → y ≡ x
same_one None None f g = refl
same_one None (Some u) f g = absurd (omega (arith, g))
same_one (Some v) y f g = f v refl

-- where there are no more, they are the same
pub same_count : (xs ys : List (Option Steps)) → Grows xs ys → count ys ≤ count xs → ys ≡ xs
same_count [] [] f g = refl
same_count [] (y ∷ ys) f g = absurd f
same_count (x ∷ xs) [] f g = absurd f
same_count (x ∷ xs) (y ∷ ys) f g =
    let less : count ys ≤ count xs = omega (arith, g, count_more x xs, count_more y ys, one_grows x y f.0) in
    let here : one y ≤ one x = omega (arith, g, count_more x xs, count_more y ys, count_grows xs ys f.1) in
    ap (λ (o : Option Steps). o ∷ ys) (same_one x y f.0 here) ∙ ap (λ (l : List (Option Steps)). x ∷ l) (same_count xs ys f.1 less)

-- ---- one depth more

asked_bounded : (of : ModuleId → Option Steps) (b : Body) (v : Steps) → bounded_steps of (Some b) ≡ Some v → Asked of b v
asked_bounded of b v e = asked_if of b v _ _ _ refl refl refl e

bounded_more : (f g : ModuleId → Option Steps) → ((m : ModuleId) (v : Steps) → f m ≡ Some v → g m ≡ Some v) → (b : Body) (v : Steps) → bounded_steps f (Some b) ≡ Some v → bounded_steps g (Some b) ≡ Some v
bounded_more f g more b v e =
    let a = asked_bounded f b v e in
    let same = body_same f g more b a.runs in
    bounded_by g b v (record { runs = same.1; loops = same.2 ∙ a.loops; small = ap (λ (x : Steps). nat_le (bound_of x) most_bound) same.0 ∙ a.small; is = same.0 ∙ a.is })

table_more : (f g : List (Option Steps)) (bs : List NamedStatements) → ((m : ModuleId) (v : Steps) → entry f m ≡ Some v → entry g m ≡ Some v) → Grows (next_table f bs) (next_table g bs)
table_more f g [] more = tt
table_more f g (b ∷ bs) more = (bounded_more (entry f) (entry g) more (body_of b), table_more f g bs more)

get_more : (xs ys : List (Option Steps)) → Grows xs ys → (k : ℕ) (v : Steps) → or_none (slice_get xs k) ≡ Some v → or_none (slice_get ys k) ≡ Some v
get_more [] [] f k v e = e
get_more [] (y ∷ ys) f k v e = absurd f
get_more (x ∷ xs) [] f k v e = absurd f
get_more (x ∷ xs) (y ∷ ys) f zero v e = f.0 v e
get_more (x ∷ xs) (y ∷ ys) f (suc k) v e = get_more xs ys f.1 k v e

nothing_more : (g : List (Option Steps)) (m : ModuleId) (v : Steps) → entry [] m ≡ Some v → entry g m ≡ Some v
nothing_more g m v e = absurd cc

-- each table from the first on grows into the next
pub tables_grow : (bs : List NamedStatements) (k : ℕ) → Grows (table_at bs (suc k)) (table_at bs (suc (suc k)))
tables_grow bs zero = table_more [] (next_table [] bs) bs (nothing_more (next_table [] bs))
tables_grow bs (suc k) =
    table_more (table_at bs (suc k)) (table_at bs (suc (suc k))) bs (λ m v e. get_more (table_at bs (suc k)) (table_at bs (suc (suc k))) (tables_grow bs k) m.0 v e)

-- where no more modules have a bound, the table stays
pub stays_so : (bs : List NamedStatements) (k : ℕ) (table next : List (Option Steps)) → table ≡ table_at bs (suc k) → next ≡ next_table table bs → count next ≤ count table → IsStable bs table
stays_so bs k table next is e f =
    let grows : Grows table (next_table table bs) = subst (λ (t : List (Option Steps)). Grows t (next_table t bs)) (sym is) (tables_grow bs k) in
    let fewer : count (next_table table bs) ≤ count table = subst (λ (t : List (Option Steps)). count t ≤ count table) e f in
    record { depth = suc k; is = is; stays = same_count table (next_table table bs) grows fewer }

length_next : (table : List (Option Steps)) (bs : List NamedStatements) → length (next_table table bs) ≡ length bs
length_next table [] = refl
length_next table (b ∷ bs) = ap (λ (n : ℕ). suc n) (length_next table bs)

-- all of them have a bound
pub all_stay : (bs : List NamedStatements) (k : ℕ) (table : List (Option Steps)) → table ≡ table_at bs (suc k) → length bs ≤ count table → IsStable bs table
all_stay bs k table is f =
    let most : count (next_table table bs) ≤ length (next_table table bs) = count_by-le-length (λ (o : Option Steps). is_some o) (next_table table bs) in
    let long : length (next_table table bs) ≡ length bs = length_next table bs in
    stays_so bs k table (next_table table bs) is refl (omega (arith, most, long, f))

pub more_than : (bs : List NamedStatements) (k : ℕ) (table next : List (Option Steps)) → table ≡ table_at bs (suc k) → next ≡ next_table table bs → count table ≤ count next
more_than bs k table next is e =
    let grows : Grows table (next_table table bs) = subst (λ (t : List (Option Steps)). Grows t (next_table t bs)) (sym is) (tables_grow bs k) in
    subst (λ (t : List (Option Steps)). count table ≤ count t) (sym e) (count_grows table (next_table table bs) grows)
