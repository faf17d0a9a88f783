-- A history has ended where none of the choices of declared actors is allowed after it.
use Rattle.std.proofs.Common.{◌≡◌, ◌≢◌, ℕ, ◌+◌, ◌<◌, ◌≤◌, nat_lt, ◌==◌, Bool, true, false, not, ◌&&◌, List, [], ◌∷◌, ◌++◌, length, Option, None, Some, ◌⊎◌, inl, inr, refl, sym, ap, subst, ◌∙◌, arith, if◌then◌else◌, ◌↔◌}
use Rattle.std.specs.Prelude.{MatchOption, Ok}
use Rattle.std.proofs.lemmas.Bool.{lt-ltb, eqb-true, eqb-false}
use Rattle.loft_base.specs.Options.{HasWorkers}
use Rattle.loft_base.specs.declared.options.RunOptions.{RunOptions}
use Rattle.loft_orders.specs.declared.entry.Entry.{Entry}
use Rattle.loft_orders.specs.declared.entry.Entry.TheVariants.{Take, Give, Pick, Post, Client}
use Rattle.loft_orders.specs.declared.order.Sent.{Sent}
use Rattle.loft_sense.specs.Machine.{Prog, heads}
use Rattle.loft_history.specs.History.{Choice, waiting, jobs, unposted, unsent, replayed, has_turn, is_open, sent_last, entry_of_first, pick_of, entry_of, HasEnded}
use Rattle.loft_course.specs.Course.{Moves}
use Rattle.loft_report_shape.specs.declared.raw.Choice.{Choice as ByName}
use Rattle.loft_replay.specs.Named.{follows, IsRefused}
use Rattle.loft_replay.specs.Whole.{IsNotWhole, choice_at, HasTried, GoesOnOrEnded}
use Rattle.loft_replay.specs.declared.ended.Kind.TheVariants as kind
use Rattle.loft_replay.specs.declared.replay.FollowError.{FollowError}
use Rattle.loft_replay.specs.declared.replay.FollowError.TheVariants.{NotAllowed, NoMemory}

-- ---- one choice

-- a choice that made no entry isn't allowed
pub not_moved : (x : Prog) (o : RunOptions) (before after : List Entry) (c : Choice) → Moves x o before c false after → (after ≡ before) × (entry_of x o before c ≡ None)
not_moved x o before after c moves = by (entry_of x o before c) refl moves
  where
    by : (next : Option Entry) → entry_of x o before c ≡ next → MatchOption next ((false ≡ false) × (after ≡ before)) (λ e. (false ≡ true) × (after ≡ before ++ e ∷ [])) → (after ≡ before) × (entry_of x o before c ≡ None)
    by None is m = (m.1, is)
    by (Some e) is m = absurd (let f = m.0 in cc)

-- one that made an entry is
pub has_moved : (x : Prog) (o : RunOptions) (before after : List Entry) (c : Choice) → Moves x o before c true after → entry_of x o before c ≡ None → ⊥
has_moved x o before after c moves none = by (subst (λ (next : Option Entry). MatchOption next ((true ≡ false) × (after ≡ before)) (λ e. (true ≡ true) × (after ≡ before ++ e ∷ []))) none moves)
  where
    by : (true ≡ false) × (after ≡ before) → ⊥
    by m = absurd (let f = m.0 in cc)

-- what the law of ended histories says of one
abbrev pub EndsExactly : Prog → RunOptions → List Entry → Type 0
EndsExactly x o h = HasEnded x o h ↔ ((c : Choice) → entry_of x o h c ≡ None)

pub goes_on_by : (x : Prog) (o : RunOptions) (start now after : List Entry) (c : Choice) → EndsExactly x o start → now ≡ start → Moves x o now c true after → HasEnded x o start → ⊥
goes_on_by x o start now after c law same moves ended = has_moved x o now after c moves (ap (λ (h : List Entry). entry_of x o h c) same ∙ law.0 ended c)

-- ---- one choice after another

pub none_tried : (x : Prog) (o : RunOptions) (h : List Entry) (choice : ℕ → Choice) → HasTried x o h choice 0 false h
none_tried x o h choice = (refl, λ k below. absurd (omega (arith, below)))

up_to : (k n : ℕ) → k < n + 1 → (is : Bool) → k == n ≡ is → (k ≡ n) ⊎ (k < n)
up_to k n below true e = inl (eqb-true k n e)
up_to k n below false e = inr (by_order k n below (eqb-false k n e))
  where
    by_order : (k n : ℕ) → k < n + 1 → k ≢ n → k < n
    by_order k n below other = omega (arith, below, other)

pub one_more_tried : (x : Prog) (o : RunOptions) (start now after : List Entry) (choice : ℕ → Choice) (n : ℕ) → HasTried x o start choice n false now → Moves x o now (choice n) false after
    → HasTried x o start choice (n + 1) false after
one_more_tried x o start now after choice n tried moves =
    let one = not_moved x o now after (choice n) moves in
    (one.0 ∙ tried.0, λ k below. by one.1 k (up_to k n below (k == n) refl))
  where
    by : entry_of x o now (choice n) ≡ None → (k : ℕ) → (k ≡ n) ⊎ (k < n) → entry_of x o start (choice k) ≡ None
    by none k (inl same) = ap (λ (m : ℕ). entry_of x o start (choice m)) same ∙ (ap (λ (h : List Entry). entry_of x o h (choice n)) (sym tried.0) ∙ none)
    by none k (inr earlier) = tried.1 k earlier

-- ---- all of them

none_first : {A : Type 0} (make : A → Entry) (all : List A) → entry_of_first make all ≡ None → all ≡ []
none_first make [] e = refl
none_first make (a ∷ all) e = absurd cc

allowed : (declared : Bool) (next : Option Entry) → declared ≡ true → (if declared then next else None) ≡ None → next ≡ None
allowed true next d none = none
allowed false next d none = absurd cc

neither : (declared was turn : Bool) (a b : Entry) → declared ≡ true → (if declared && not was && turn then Some a else None) ≡ None → (if declared && was then Some b else None) ≡ None → not was && not turn ≡ true
neither true true turn a b d take give = absurd cc
neither true false true a b d take give = absurd cc
neither true false false a b d take give = refl
neither false was turn a b d take give = absurd cc

pub at_least_one : (n : ℕ) → 1 ≤ n → 0 < n
at_least_one n some = omega (arith, some)

-- after this history no choice of a declared actor is allowed
record NoneAllowed (x : Prog) (o : RunOptions) (h : List Entry) : Type 0 where
  clients : (k : ℕ) → k < length (heads x).clients → entry_of x o h (choice_at kind.Client k) ≡ None
  posts : (k : ℕ) → k < o.workers → entry_of x o h (choice_at kind.Post k) ≡ None
  picks : (k : ℕ) → k < o.workers → entry_of x o h (choice_at kind.Pick k) ≡ None
  takes : (k : ℕ) → k < length (heads x).schedulers → entry_of x o h (choice_at kind.Take k) ≡ None
  gives : (k : ℕ) → k < length (heads x).schedulers → entry_of x o h (choice_at kind.Give k) ≡ None

all_ended : (x : Prog) (o : RunOptions) (h : List Entry) → HasWorkers o → NoneAllowed x o h → HasEnded x o h
all_ended x o h some none = record {
  clients = λ c declared. none_first (Client c) (unsent (heads x) c h) (none.clients c declared);
  no_jobs = no_job (free 0 (at_least_one o.workers some.0)) (allowed (nat_lt 0 o.workers) (pick_of 0 (unposted x o 0 h) (jobs h)) (lt-ltb 0 o.workers (at_least_one o.workers some.0)) (none.picks 0 (at_least_one o.workers some.0)));
  workers = free;
  schedulers = λ s declared. neither (nat_lt s.0 (length (heads x).schedulers)) (is_open s h) (has_turn x o.limits (replayed x o.limits s h).machine (waiting (heads x) s h))
      (Take s (waiting (heads x) s h)) (Give s (sent_last (replayed x o.limits s h).notes)) (lt-ltb s.0 _ declared) (none.takes s.0 declared) (none.gives s.0 declared);
}
  where
    free : (w : ℕ) → w < o.workers → unposted x o w h ≡ []
    free w declared = none_first (Post w) (unposted x o w h) (allowed (nat_lt w o.workers) (entry_of_first (Post w) (unposted x o w h)) (lt-ltb w o.workers declared) (none.posts w declared))

    no_job : unposted x o 0 h ≡ [] → pick_of 0 (unposted x o 0 h) (jobs h) ≡ None → jobs h ≡ []
    no_job idle e = none_first (Pick 0) (jobs h) (sym (ap (λ (l : List Sent). pick_of 0 l (jobs h)) idle) ∙ e)

-- where none was allowed, of clients, of workers and of schedulers, the history has ended
pub tried_all : (x : Prog) (o : RunOptions) (h f g k l m : List Entry) → HasWorkers o
    → HasTried x o h (choice_at kind.Client) (length (heads x).clients) false f → HasTried x o f (choice_at kind.Post) o.workers false g → HasTried x o g (choice_at kind.Pick) o.workers false k
    → HasTried x o k (choice_at kind.Take) (length (heads x).schedulers) false l → HasTried x o l (choice_at kind.Give) (length (heads x).schedulers) false m
    → GoesOnOrEnded x o h false m
tried_all x o h f g k l m some clients posts picks takes gives =
    let e1 = clients.0 in
    let e2 = posts.0 ∙ e1 in
    let e3 = picks.0 ∙ e2 in
    let e4 = takes.0 ∙ e3 in (
      gives.0 ∙ e4,
      all_ended x o h some (record {
        clients = clients.1;
        posts = λ n below. moved f n kind.Post e1 (posts.1 n below);
        picks = λ n below. moved g n kind.Pick e2 (picks.1 n below);
        takes = λ n below. moved k n kind.Take e3 (takes.1 n below);
        gives = λ n below. moved l n kind.Give e4 (gives.1 n below);
      }),
    )
  where
    moved : (q : List Entry) (n : ℕ) (a : _) → q ≡ h → entry_of x o q (choice_at a n) ≡ None → entry_of x o h (choice_at a n) ≡ None
    moved q n a same none = ap (λ (p : List Entry). entry_of x o p (choice_at a n)) (sym same) ∙ none

-- a history that goes on after as many entries as before goes on
pub goes_on_later : (x : Prog) (o : RunOptions) (h g : List Entry) → g ≡ h → (HasEnded x o g → ⊥) → HasEnded x o h → ⊥
goes_on_later x o h g same on ended = on (subst (λ (p : List Entry). HasEnded x o p) (sym same) ended)

-- none was allowed, of as many as there are
pub none_of_all : (x : Prog) (o : RunOptions) (h g : List Entry) (choice : ℕ → Choice) (n m : ℕ) (went : Bool) → went ≡ false → n ≡ m → HasTried x o h choice n went g → HasTried x o h choice m false g
none_of_all x o h g choice n m true is same tried = absurd (let e : true ≡ false = is in cc)
none_of_all x o h g choice n m false is same tried = subst (λ (k : ℕ). HasTried x o h choice k false g) same tried

-- ---- refusals

pub refused_not_whole : (x : Prog) (o : RunOptions) (choices : List ByName) (e : FollowError) → IsRefused x o choices e → IsNotWhole x o choices e
refused_not_whole x o choices (NotAllowed entry) refused = inl refused
refused_not_whole x o choices NoMemory refused = tt

pub unfinished : (x : Prog) (o : RunOptions) (choices : List ByName) (h : List Entry) → follows x o choices ≡ Ok h → (HasEnded x o h → ⊥) → IsNotWhole x o choices (NotAllowed (length choices + 1))
unfinished x o choices h made goes_on = inr ((h, made, goes_on), refl)
