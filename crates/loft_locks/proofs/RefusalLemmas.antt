-- A body in which no statement breaks a rule of pairs and none leaves one has the pairs of each lock.
use Rattle.std.proofs.Common.{◌≡◌, ℕ, Bool, true, false, List, [], ◌∷◌, ◌++◌, Option, Some, None, refl, sym, ap, ◌∙◌, subst}
use Rattle.std.specs.Prelude.{◌||◌, not, if◌then◌else◌}
use Rattle.std.specs.Str.{bytes_eq}
use Rattle.std.proofs.lemmas.Slice.Eq.{bytes_eq-Decides}
use Rattle.loft_base.specs.declared.ids.ModuleId.{ModuleId}
use Rattle.loft_tree.specs.NamedTree.{NamedStatements, Do, Hold, Run, If, While, Repeat, Done, Then}
use Rattle.loft_tree.specs.Resolved.{Pause, Resolved, pause_of, body_of}
use Rattle.loft_sense.specs.Tree.{first_some}
use Rattle.loft_locks.specs.Locks.{Lock, LockCall, Takes as TakesCall, Gives as GivesCall, Other, call_of, after_call, at_call, is_away, IsAway, Leaves, PauseStays, CallStays, CallPairs, BodyPairs}
use Rattle.loft_locks.specs.Outline.{Outline, Takes, Gives, goes_if, run_part, outline, has, closes, pair_fault, outermost, leave_fault}
use Rattle.loft_lock_forms.specs.Marks.{Use, TakeOf, GiveOf, Mark, use_at}
use Rattle.loft_locks.specs.Marked.{BodyKeeps, UseAgrees, BodyMarked}

-- ---- answers that are none

pub none_first : {A : Type 0} (a b : Option A) → first_some a b ≡ None → (a ≡ None) × (b ≡ None)
none_first None b e = (refl, e)
none_first (Some x) b e = absurd cc

pub not_chosen : {A : Type 0} (b : Bool) (x : A) (o : Option A) → (if b then Some x else o) ≡ None → (b ≡ false) × (o ≡ None)
not_chosen true x o e = absurd cc
not_chosen false x o e = (refl, e)

pub chosen : {A : Type 0} (b : Bool) (x : A) (o : Option A) → (if b then o else Some x) ≡ None → (b ≡ true) × (o ≡ None)
chosen true x o e = (refl, e)
chosen false x o e = absurd cc

pub or_parts : (a b : Bool) → (a || b) ≡ false → (a ≡ false) × (b ≡ false)
or_parts true b e = absurd cc
or_parts false b e = (refl, e)

pub not_false : (b : Bool) → not b ≡ false → b ≡ true
not_false true e = refl
not_false false e = absurd cc

-- ---- lists of locks

pub same_name : (k l : List ℕ) → bytes_eq k l ≡ true → k ≡ l
same_name k l e = (bytes_eq-Decides k l).0 e

pub name_same : (k l : List ℕ) → k ≡ l → bytes_eq k l ≡ true
name_same k l e = (bytes_eq-Decides k l).1 e

apart_false : (k l : List ℕ) → (k ≡ l → ⊥) → bytes_eq k l ≡ false
apart_false k l apart = by (bytes_eq k l) refl
  where
    by : (b : Bool) → bytes_eq k l ≡ b → b ≡ false
    by true e = absurd (apart (same_name k l e))
    by false e = refl

has_append : (l : List ℕ) (xs ys : List (List ℕ)) → has l (xs ++ ys) ≡ (has l xs || has l ys)
has_append l [] ys = refl
has_append l (x ∷ xs) ys = by (bytes_eq l x) (has_append l xs ys)
  where
    by : (b : Bool) → has l (xs ++ ys) ≡ (has l xs || has l ys) → (b || has l (xs ++ ys)) ≡ ((b || has l xs) || has l ys)
    by true e = refl
    by false e = e

-- the statements of another lock don't count
pub takes_other : (l k : List ℕ) (rest : Outline) → bytes_eq l k ≡ false → closes l (Takes k rest) ≡ closes l rest
takes_other l k rest e = rw e refl

pub gives_other : (l k : List ℕ) (rest : Outline) → bytes_eq l k ≡ false → closes l (Gives k rest) ≡ closes l rest
gives_other l k rest e = rw e refl

no_pairs : (pairs : List (List ℕ)) → outermost pairs ≡ None → pairs ≡ []
no_pairs [] e = refl
no_pairs (x ∷ []) e = absurd cc
no_pairs (x ∷ y ∷ ys) e = let none : y ∷ ys ≡ [] = no_pairs (y ∷ ys) e in absurd cc

-- ---- what leaves breaks no rule of pairs

goes_pairs : (outer own : List (List ℕ)) (leaves : Bool) (rest : Outline) → pair_fault outer own (goes_if leaves rest) ≡ pair_fault outer own rest
goes_pairs outer own true rest = refl
goes_pairs outer own false rest = refl

goes_closes : (l : List ℕ) (leaves : Bool) (rest : Outline) → closes l (goes_if leaves rest) ≡ closes l rest
goes_closes l true rest = refl
goes_closes l false rest = refl

goes_gives : (l k : List ℕ) (leaves : Bool) (rest : Outline) → closes l (Gives k (goes_if leaves rest)) ≡ closes l (Gives k rest)
goes_gives l k true rest = refl
goes_gives l k false rest = refl

-- it stands in no pair
goes_free : (outer own : List (List ℕ)) (leaves : Bool) (rest : Outline) → leave_fault outer own (goes_if leaves rest) ≡ None → (leave_fault outer own rest ≡ None) × (leaves ≡ true → own ++ outer ≡ [])
goes_free outer own true rest e = let parts = none_first (outermost (own ++ outer)) (leave_fault outer own rest) e in (parts.1, λ is. no_pairs (own ++ outer) parts.0)
goes_free outer own false rest e = (e, λ is. absurd cc)

pause_stays : (inside : Bool) (pause : Pause) → (IsAway pause → inside ≡ false) → PauseStays inside pause
pause_stays true pause free = λ is. let no = free is in absurd cc
pause_stays false pause free = tt

module _ (p : Resolved) (l : Lock) (name : List ℕ) (marks : List Mark) (away : ModuleId → Bool) (leaving : (m : ModuleId) → Leaves p m → away m ≡ true) where
  -- the lock stands in no pair of its own
  abbrev Once : List (List ℕ) → List (List ℕ) → Type 0
  Once [] outer = Unit {0}
  Once (k ∷ ks) outer = (name ≡ k → has name (ks ++ outer) ≡ false) × Once ks outer

  -- a pair of it that this body has begun ends in it
  abbrev Closing : List (List ℕ) → Outline → Type 0
  Closing own o = has name own ≡ true → closes name o ≡ true

  outer_false : (own outer : List (List ℕ)) → has name (own ++ outer) ≡ false → has name outer ≡ false
  outer_false own outer e = (or_parts (has name own) (has name outer) (sym (has_append name own outer) ∙ e)).1

  own_false : (own outer : List (List ℕ)) → has name (own ++ outer) ≡ false → has name own ≡ false
  own_false own outer e = (or_parts (has name own) (has name outer) (sym (has_append name own outer) ∙ e)).0

  none_has : (pairs : List (List ℕ)) → pairs ≡ [] → has name pairs ≡ false
  none_has pairs e = ap (has name) e

  -- ---- a `run`

  -- what it asks, and the pairs that have begun after it
  record RunOk (outer own : List (List ℕ)) (leaves : Bool) (call : LockCall) (rest : Outline) : Type 0 where
    begun : List (List ℕ)
    pairs : CallPairs (has name outer) (has name (own ++ outer)) call
    stays : leaves ≡ true → at_call call (has name (own ++ outer)) ≡ false
    after : after_call call (has name (own ++ outer)) ≡ has name (begun ++ outer)
    once : Once begun outer
    closing : Closing begun rest
    fault : pair_fault outer begun rest ≡ None
    left : leave_fault outer begun rest ≡ None

  -- a lock is taken
  take_ok : (outer own : List (List ℕ)) (leaves : Bool) (call : LockCall) (k : List ℕ) (rest : Outline) → UseAgrees name call (Some (TakeOf k)) → pair_fault outer own (Takes k rest) ≡ None → leave_fault outer (k ∷ own) rest ≡ None
      → (leaves ≡ true → own ++ outer ≡ []) → Once own outer → Closing own (Takes k rest) → RunOk outer own leaves call rest
  take_ok outer own leaves TakesCall k rest agree e f free once c =
      let same : k ≡ name = cc in
      let parts = not_chosen (has k (own ++ outer) || not (closes k rest)) k (pair_fault outer (k ∷ own) rest) e in
      let both = or_parts (has k (own ++ outer)) (not (closes k rest)) parts.0 in
      let none : has name (own ++ outer) ≡ false = subst (λ (n : List ℕ). has n (own ++ outer) ≡ false) same both.0 in
      let here = name_same name k (sym same) in
      record {
        begun = k ∷ own;
        pairs = (outer_false own outer none, none);
        stays = λ is. refl;
        after = sym (ap (λ b. b || has name (own ++ outer)) here);
        once = (λ is. none, once);
        closing = λ is. subst (λ (n : List ℕ). closes n rest ≡ true) same (not_false (closes k rest) both.1);
        fault = parts.1;
        left = f;
      }
  take_ok outer own leaves GivesCall k rest agree e f free once c = absurd cc
  take_ok outer own leaves Other k rest agree e f free once c =
      let off : name ≡ k → ⊥ = λ is. agree.0 (ap (λ (n : List ℕ). Some (TakeOf n)) (sym is)) in
      let no = apart_false name k off in
      let parts = not_chosen (has k (own ++ outer) || not (closes k rest)) k (pair_fault outer (k ∷ own) rest) e in
      record {
        begun = k ∷ own;
        pairs = tt;
        stays = λ is. none_has (own ++ outer) (free is);
        after = sym (ap (λ b. b || has name (own ++ outer)) no);
        once = (λ is. absurd (off is), once);
        closing = λ is. sym (takes_other name k rest no) ∙ c (sym (ap (λ b. b || has name own) no) ∙ is);
        fault = parts.1;
        left = f;
      }

  -- a lock is given back
  give_ok : (outer : List (List ℕ)) (j : List ℕ) (own : List (List ℕ)) (leaves : Bool) (call : LockCall) (k : List ℕ) (rest : Outline) → UseAgrees name call (Some (GiveOf k)) → bytes_eq k j ≡ true
      → pair_fault outer own rest ≡ None → leave_fault outer own rest ≡ None → (leaves ≡ true → own ++ outer ≡ []) → Once (j ∷ own) outer → Closing (j ∷ own) (Gives k rest) → RunOk outer (j ∷ own) leaves call rest
  give_ok outer j own leaves TakesCall k rest agree first e f free once c = absurd cc
  give_ok outer j own leaves GivesCall k rest agree first e f free once c =
      let same : k ≡ name = cc in
      let here : name ≡ j = sym same ∙ same_name k j first in
      let none = once.0 here in
      record {
        begun = own;
        pairs = (outer_false own outer none, ap (λ b. b || has name (own ++ outer)) (name_same name j here));
        stays = λ is. refl;
        after = sym none;
        once = once.1;
        closing = λ is. let no = own_false own outer none in absurd cc;
        fault = e;
        left = f;
      }
  give_ok outer j own leaves Other k rest agree first e f free once c =
      let off : name ≡ k → ⊥ = λ is. agree.1 (ap (λ (n : List ℕ). Some (GiveOf n)) (sym is)) in
      let no : bytes_eq name j ≡ false = apart_false name j (λ is. off (is ∙ sym (same_name k j first))) in
      let not_this = apart_false name k off in
      record {
        begun = own;
        pairs = tt;
        stays = λ is. ap (λ b. b || has name (own ++ outer)) no ∙ none_has (own ++ outer) (free is);
        after = ap (λ b. b || has name (own ++ outer)) no;
        once = once.1;
        closing = λ is. let more : has name (j ∷ own) ≡ true = ap (λ b. b || has name own) no ∙ is in sym (gives_other name k rest not_this) ∙ c more;
        fault = e;
        left = f;
      }

  run_ok : (outer own : List (List ℕ)) (leaves : Bool) (call : LockCall) (u : Option Use) (rest : Outline) → UseAgrees name call u → pair_fault outer own (run_part leaves u rest) ≡ None → leave_fault outer own (run_part leaves u rest) ≡ None → Once own outer
      → Closing own (run_part leaves u rest) → RunOk outer own leaves call rest
  run_ok outer own leaves TakesCall None rest agree e f once c = absurd cc
  run_ok outer own leaves GivesCall None rest agree e f once c = absurd cc
  run_ok outer own leaves Other None rest agree e f once c =
      let free = goes_free outer own leaves rest f in
      record {
        begun = own;
        pairs = tt;
        stays = λ is. none_has (own ++ outer) (free.1 is);
        after = refl;
        once = once;
        closing = λ is. sym (goes_closes name leaves rest) ∙ c is;
        fault = sym (goes_pairs outer own leaves rest) ∙ e;
        left = free.0;
      }
  run_ok outer own leaves call (Some (TakeOf k)) rest agree e f once c =
      let free = goes_free outer own leaves (Takes k rest) f in
      take_ok outer own leaves call k rest agree (sym (goes_pairs outer own leaves (Takes k rest)) ∙ e) free.0 free.1 once (λ is. sym (goes_closes name leaves (Takes k rest)) ∙ c is)
  run_ok outer [] leaves call (Some (GiveOf k)) rest agree e f once c = absurd cc
  run_ok outer (j ∷ own) leaves call (Some (GiveOf k)) rest agree e f once c =
      let parts = chosen (bytes_eq k j) k (pair_fault outer own (goes_if leaves rest)) e in
      let free = goes_free outer own leaves rest f in
      give_ok outer j own leaves call k rest agree parts.0 (sym (goes_pairs outer own leaves rest) ∙ parts.1) free.0 free.1 once (λ is. sym (goes_gives name k leaves rest) ∙ c is)

  -- ---- bodies

  call_stays : (inside : Bool) (m : ModuleId) → (away m ≡ true → inside ≡ false) → CallStays p inside m
  call_stays false m free = tt
  call_stays true m free = λ leaves. let no = free (leaving m leaves) in absurd cc

  ends : (own outer : List (List ℕ)) (b : Bool) → has name own ≡ b → (b ≡ true → false ≡ true) → has name (own ++ outer) ≡ has name outer
  ends own outer true e c = let no = c refl in absurd cc
  ends own outer false e c = has_append name own outer ∙ ap (λ b. b || has name outer) e

  pub body_pairs : (b : NamedStatements) (outer own : List (List ℕ)) → pair_fault outer own (outline marks away b) ≡ None → leave_fault outer own (outline marks away b) ≡ None → BodyKeeps l (body_of b) → BodyMarked l name marks b → Once own outer
      → Closing own (outline marks away b) → BodyPairs p l (has name outer) (has name (own ++ outer)) (body_of b)
  body_pairs Done outer own e f keeps marked once c = ends own outer (has name own) refl c
  body_pairs (Then (Do at action) b) outer own e f keeps marked once c = (keeps.0, body_pairs b outer own e f keeps.1 marked.1 once c)
  body_pairs (Then (Hold at stop pause) b) outer own e f keeps marked once c =
      let leaves = is_away (pause_of pause) in
      let rest = outline marks away b in
      let free = goes_free outer own leaves rest f in
      let here = has name (own ++ outer) in (
        (keeps.0, pause_stays here (pause_of pause) (λ is. none_has (own ++ outer) (free.1 is))),
        body_pairs b outer own (sym (goes_pairs outer own leaves rest) ∙ e) free.0 keeps.1 marked.1 once (λ is. sym (goes_closes name leaves rest) ∙ c is),
      )
  body_pairs (Then (Run at stop called m arguments) b) outer own e f keeps marked once c =
      let ok = run_ok outer own (away m) (call_of l m) (use_at marks called) (outline marks away b) marked.0 e f once c in (
        (ok.pairs, call_stays (at_call (call_of l m) (has name (own ++ outer))) m ok.stays),
        subst (λ inside. BodyPairs p l (has name outer) inside (body_of b)) (sym ok.after) (body_pairs b outer ok.begun ok.fault ok.left keeps.1 marked.1 ok.once ok.closing),
      )
  body_pairs (Then (If at test x y) b) outer own e f keeps marked once c =
      let pairs = own ++ outer in
      let a = none_first (pair_fault pairs [] (outline marks away x)) (first_some (pair_fault pairs [] (outline marks away y)) (pair_fault outer own (outline marks away b))) e in
      let a2 = none_first (pair_fault pairs [] (outline marks away y)) (pair_fault outer own (outline marks away b)) a.1 in
      let g = none_first (leave_fault pairs [] (outline marks away x)) (first_some (leave_fault pairs [] (outline marks away y)) (leave_fault outer own (outline marks away b))) f in
      let g2 = none_first (leave_fault pairs [] (outline marks away y)) (leave_fault outer own (outline marks away b)) g.1 in
      ((body_pairs x pairs [] a.0 g.0 keeps.0.0 marked.0.0 tt (λ is. absurd cc), body_pairs y pairs [] a2.0 g2.0 keeps.0.1 marked.0.1 tt (λ is. absurd cc)), body_pairs b outer own a2.1 g2.1 keeps.1 marked.1 once c)
  body_pairs (Then (While at test x) b) outer own e f keeps marked once c =
      let pairs = own ++ outer in
      let a = none_first (pair_fault pairs [] (outline marks away x)) (pair_fault outer own (outline marks away b)) e in
      let g = none_first (leave_fault pairs [] (outline marks away x)) (leave_fault outer own (outline marks away b)) f in
      (body_pairs x pairs [] a.0 g.0 keeps.0 marked.0 tt (λ is. absurd cc), body_pairs b outer own a.1 g.1 keeps.1 marked.1 once c)
  body_pairs (Then (Repeat at count x) b) outer own e f keeps marked once c =
      let pairs = own ++ outer in
      let a = none_first (pair_fault pairs [] (outline marks away x)) (pair_fault outer own (outline marks away b)) e in
      let g = none_first (leave_fault pairs [] (outline marks away x)) (leave_fault outer own (outline marks away b)) f in
      (body_pairs x pairs [] a.0 g.0 keeps.0 marked.0 tt (λ is. absurd cc), body_pairs b outer own a.1 g.1 keeps.1 marked.1 once c)

-- as the law says it
pub pairs_stand : (p : Resolved) (l : Lock) (name : List ℕ) (marks : List Mark) (away : ModuleId → Bool) → ((m : ModuleId) → Leaves p m → away m ≡ true)
    → (b : NamedStatements) → pair_fault [] [] (outline marks away b) ≡ None → leave_fault [] [] (outline marks away b) ≡ None → BodyKeeps l (body_of b) → BodyMarked l name marks b → BodyPairs p l false false (body_of b)
pairs_stand p l name marks away leaving b e f keeps marked = body_pairs p l name marks away leaving b [] [] e f keeps marked tt (λ is. absurd cc)
