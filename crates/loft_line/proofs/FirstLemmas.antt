-- The first held thread with an id, among threads by position.
use Rattle.std.proofs.Common.{◌≡◌, ℕ, zero, suc, Bool, true, false, List, [], ◌∷◌, ◌++◌, refl, sym, ◌∙◌, ap, subst, arith, Option, Some, None, set}
use Rattle.std.specs.Prelude.{◌&&◌, ◌||◌, if◌then◌else◌, slice_get}
use Rattle.std.proofs.lemmas.List.Concat.{flat_map-cons}
use Rattle.loft_base.specs.declared.ids.ThreadId.{ThreadId}
use Rattle.loft_orders.specs.declared.note.Standing.{Standing}
use Rattle.loft_orders.specs.declared.thread.Wait.{Wait}
use Rattle.loft_sense.specs.Apply.{is_linked, without_first, suspend}
use Rattle.loft_sense.specs.CanGo.{same_thread}
use Rattle.loft_passes.specs.declared.runner.Runner.{Runner}
use Rattle.loft_passes.specs.View.{standing_of, is_held}
use Rattle.loft_line.specs.declared.line.Line.{Line}
use Rattle.loft_line.specs.Line.{runners_in, with_wait, with_waits, standing_if, standings_in, is_named, IsFirstAt, IsFirst}

-- ---- a wait tells nothing of a name

named_with : (t : ThreadId) (w : Option Wait) (r : Runner) → is_named t (with_wait w r) ≡ is_named t r
named_with t None r = refl
named_with t (Some w) r = refl

named_all : (t : ThreadId) (rs : List Runner) (ws : List (Option Wait)) (i : ℕ) (r : Runner) → slice_get (with_waits rs ws) i ≡ Some r → (q : Runner) × (slice_get rs i ≡ Some q) × (is_named t r ≡ is_named t q)
named_all t [] ws i r h = absurd cc
named_all t (x ∷ rs) [] i r h = (r, h, refl)
named_all t (x ∷ rs) (w ∷ ws) zero r h = let same : with_wait w x ≡ r = cc h in (x, refl, sym (ap (is_named t) same) ∙ named_with t w x)
named_all t (x ∷ rs) (w ∷ ws) (suc i) r h = named_all t rs ws i r h

with_at : (rs : List Runner) (ws : List (Option Wait)) (p : ℕ) (r : Runner) → slice_get rs p ≡ Some r → (q : Runner) × (slice_get (with_waits rs ws) p ≡ Some q) × ((t : ThreadId) → is_named t q ≡ is_named t r)
with_at [] ws p r h = absurd cc
with_at (x ∷ rs) [] p r h = (r, h, λ t. refl)
with_at (x ∷ rs) (w ∷ ws) zero r h = let same : x ≡ r = cc h in (with_wait w x, refl, λ t. named_with t w x ∙ ap (is_named t) same)
with_at (x ∷ rs) (w ∷ ws) (suc p) r h = with_at rs ws p r h

pub first_with : (o : Option ℕ) (t : ThreadId) (rs : List Runner) (ws : List (Option Wait)) → IsFirst o t rs → IsFirst o t (with_waits rs ws)
first_with None t rs ws f = λ i r h. let q = named_all t rs ws i r h in q.2 ∙ f i q.0 q.1
first_with (Some p) t rs ws f =
    let q = with_at rs ws p f.runner f.there in
    record {
      runner = q.0;
      there = q.1;
      named = q.2 t ∙ f.named;
      first = λ i r lt h. let v = named_all t rs ws i r h in v.2 ∙ f.first i v.0 lt v.1;
    }

-- ---- standings

all_cons : (r : Runner) (rs : List Runner) → standings_in (r ∷ rs) ≡ standing_if r ++ standings_in rs
all_cons r rs = flat_map-cons standing_if r rs

passed_linked : (t : ThreadId) (held : Bool) (r : Runner) (ss : List Standing) → (held && same_thread t r.thread.id) ≡ false → is_linked t ((if held then standing_of r ∷ [] else []) ++ ss) ≡ is_linked t ss
passed_linked t true r ss h = ap (λ (b : Bool). b || is_linked t ss) h
passed_linked t false r ss h = refl

passed_without : (t : ThreadId) (held : Bool) (r : Runner) (ss : List Standing) → (held && same_thread t r.thread.id) ≡ false
    → without_first t ((if held then standing_of r ∷ [] else []) ++ ss) ≡ (if held then standing_of r ∷ [] else []) ++ without_first t ss
passed_without t true r ss h = ap (λ (b : Bool). if b then ss else standing_of r ∷ without_first t ss) h
passed_without t false r ss h = refl

passed_suspend : (t : ThreadId) (b : Bool) (held : Bool) (r : Runner) (ss : List Standing) → (held && same_thread t r.thread.id) ≡ false
    → suspend t b ((if held then standing_of r ∷ [] else []) ++ ss) ≡ (if held then standing_of r ∷ [] else []) ++ suspend t b ss
passed_suspend t b true r ss h = ap (λ (c : Bool). if c then record (standing_of r) { suspended = b } ∷ ss else standing_of r ∷ suspend t b ss) h
passed_suspend t b false r ss h = refl

here_linked : (t : ThreadId) (held : Bool) (r : Runner) (ss : List Standing) → (held && same_thread t r.thread.id) ≡ true → is_linked t ((if held then standing_of r ∷ [] else []) ++ ss) ≡ true
here_linked t true r ss h = ap (λ (b : Bool). b || is_linked t ss) h
here_linked t false r ss h = absurd cc

here_without : (t : ThreadId) (held : Bool) (r : Runner) (ss : List Standing) → (held && same_thread t r.thread.id) ≡ true → without_first t ((if held then standing_of r ∷ [] else []) ++ ss) ≡ ss
here_without t true r ss h = ap (λ (b : Bool). if b then ss else standing_of r ∷ without_first t ss) h
here_without t false r ss h = absurd cc

here_suspend : (t : ThreadId) (b : Bool) (held : Bool) (r : Runner) (ss : List Standing) → (held && same_thread t r.thread.id) ≡ true
    → suspend t b ((if held then standing_of r ∷ [] else []) ++ ss) ≡ record (standing_of r) { suspended = b } ∷ ss
here_suspend t b true r ss h = ap (λ (c : Bool). if c then record (standing_of r) { suspended = b } ∷ ss else standing_of r ∷ suspend t b ss) h
here_suspend t b false r ss h = absurd cc

pub none_linked : (t : ThreadId) (rs : List Runner) → ((i : ℕ) (r : Runner) → slice_get rs i ≡ Some r → is_named t r ≡ false) → is_linked t (standings_in rs) ≡ false
none_linked t [] none = refl
none_linked t (r ∷ rs) none =
    ap (is_linked t) (all_cons r rs) ∙ passed_linked t (is_held r.stop) r (standings_in rs) (none 0 r refl) ∙ none_linked t rs (λ i q h. none (suc i) q h)

pub none_without : (t : ThreadId) (rs : List Runner) → ((i : ℕ) (r : Runner) → slice_get rs i ≡ Some r → is_named t r ≡ false) → without_first t (standings_in rs) ≡ standings_in rs
none_without t [] none = refl
none_without t (r ∷ rs) none =
    ap (without_first t) (all_cons r rs) ∙ passed_without t (is_held r.stop) r (standings_in rs) (none 0 r refl)
    ∙ ap (λ (ss : List Standing). standing_if r ++ ss) (none_without t rs (λ i q h. none (suc i) q h)) ∙ sym (all_cons r rs)

pub none_suspend : (t : ThreadId) (b : Bool) (rs : List Runner) → ((i : ℕ) (r : Runner) → slice_get rs i ≡ Some r → is_named t r ≡ false) → suspend t b (standings_in rs) ≡ standings_in rs
none_suspend t b [] none = refl
none_suspend t b (r ∷ rs) none =
    ap (suspend t b) (all_cons r rs) ∙ passed_suspend t b (is_held r.stop) r (standings_in rs) (none 0 r refl)
    ∙ ap (λ (ss : List Standing). standing_if r ++ ss) (none_suspend t b rs (λ i q h. none (suc i) q h)) ∙ sym (all_cons r rs)

pub first_linked : (t : ThreadId) (rs : List Runner) (p : ℕ) → IsFirstAt p t rs → is_linked t (standings_in rs) ≡ true
first_linked t [] p f = absurd (no p f.runner f.there)
  where
    no : (p : ℕ) (r : Runner) → slice_get [] p ≡ Some r → ⊥
    no p r h = cc
first_linked t (x ∷ rs) zero f =
    let same : x ≡ f.runner = cc (f.there) in
    ap (is_linked t) (all_cons x rs) ∙ here_linked t (is_held x.stop) x (standings_in rs) (ap (is_named t) same ∙ f.named)
first_linked t (x ∷ rs) (suc p) f =
    ap (is_linked t) (all_cons x rs) ∙ passed_linked t (is_held x.stop) x (standings_in rs) (f.first 0 x (omega arith) refl) ∙ first_linked t rs p (later f)
  where
    later : IsFirstAt (suc p) t (x ∷ rs) → IsFirstAt p t rs
    later f = record { runner = f.runner; there = f.there; named = f.named; first = λ i r lt h. f.first (suc i) r (omega (arith, lt)) h }

-- the first one is taken out, and something empty stands in its place
pub first_without : (t : ThreadId) (rs : List Runner) (p : ℕ) (hole : Runner) → IsFirstAt p t rs → standing_if hole ≡ [] → without_first t (standings_in rs) ≡ standings_in (set rs p hole)
first_without t [] p hole f empty = refl
first_without t (x ∷ rs) zero hole f empty =
    let same : x ≡ f.runner = cc (f.there) in
    ap (without_first t) (all_cons x rs) ∙ here_without t (is_held x.stop) x (standings_in rs) (ap (is_named t) same ∙ f.named)
    ∙ sym (all_cons hole rs ∙ ap (λ (ss : List Standing). ss ++ standings_in rs) empty)
first_without t (x ∷ rs) (suc p) hole f empty =
    ap (without_first t) (all_cons x rs) ∙ passed_without t (is_held x.stop) x (standings_in rs) (f.first 0 x (omega arith) refl)
    ∙ ap (λ (ss : List Standing). standing_if x ++ ss) (first_without t rs p hole (later f) empty) ∙ sym (all_cons x (set rs p hole))
  where
    later : IsFirstAt (suc p) t (x ∷ rs) → IsFirstAt p t rs
    later f = record { runner = f.runner; there = f.there; named = f.named; first = λ i r lt h. f.first (suc i) r (omega (arith, lt)) h }

pub first_suspend : (t : ThreadId) (b : Bool) (rs : List Runner) (p : ℕ) (now : Runner) → (f : IsFirstAt p t rs) → standing_if now ≡ record (standing_of f.runner) { suspended = b } ∷ [] → suspend t b (standings_in rs) ≡ standings_in (set rs p now)
first_suspend t b [] p now f is = refl
first_suspend t b (x ∷ rs) zero now f is =
    let same : x ≡ f.runner = cc (f.there) in
    ap (suspend t b) (all_cons x rs) ∙ here_suspend t b (is_held x.stop) x (standings_in rs) (ap (is_named t) same ∙ f.named)
    ∙ ap (λ (r : Runner). record (standing_of r) { suspended = b } ∷ standings_in rs) same
    ∙ sym (all_cons now rs ∙ ap (λ (ss : List Standing). ss ++ standings_in rs) is)
first_suspend t b (x ∷ rs) (suc p) now f is =
    ap (suspend t b) (all_cons x rs) ∙ passed_suspend t b (is_held x.stop) x (standings_in rs) (f.first 0 x (omega arith) refl)
    ∙ ap (λ (ss : List Standing). standing_if x ++ ss) (first_suspend t b rs p now (later f) is) ∙ sym (all_cons x (set rs p now))
  where
    later : IsFirstAt (suc p) t (x ∷ rs) → IsFirstAt p t rs
    later f = record { runner = f.runner; there = f.there; named = f.named; first = λ i r lt h. f.first (suc i) r (omega (arith, lt)) h }

-- what was found among the threads was found in the line
pub first_in : (o : Option ℕ) (t : ThreadId) (l : Line) (slots : List Runner) → slots ≡ l.slots.items → IsFirst o t slots → IsFirst o t (runners_in l)
first_in o t l slots is f = first_with o t l.slots.items l.waits.waits (subst (IsFirst o t) is f)
