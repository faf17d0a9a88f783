-- Where the `run`s of a lock's modules are told by their names, they are told by their numbers.
use Rattle.std.proofs.Common.{◌≡◌, ℕ, ◌+◌, ◌==◌, Bool, true, false, List, [], ◌∷◌, Option, Some, refl, sym, ap, ◌∙◌, subst, arith}
use Rattle.std.specs.Prelude.{if◌then◌else◌}
use Rattle.std.specs.Str.{bytes_eq}
use Rattle.std.proofs.lemmas.Bool.{eq-eqb, eqb-true}
use Rattle.std.proofs.lemmas.Slice.Eq.{bytes_eq-Decides}
use Rattle.loft_base.specs.declared.ids.ModuleId.{ModuleId}
use Rattle.loft_tree.specs.Fits.{Each}
use Rattle.loft_tree.specs.Source as src
use Rattle.loft_tree.specs.Source.{Ident, Scheduler, Event, Shared, Module, Start, Outside, Source}
use Rattle.loft_tree.specs.NamedTree.{NamedModule}
use Rattle.loft_tree.specs.declared.kinds.Kind.{Kind}
use Rattle.loft_scopes.specs.declared.scope.Scope.{Scope}
use Rattle.loft_scopes.specs.declared.scope.Scope.TheVariants.{Everywhere, Within}
use Rattle.loft_scopes.specs.Scopes.{AModule, Declared, declared}
use Rattle.loft_scopes.specs.Faults.{NamesFit}
use Rattle.loft_numbers.specs.Numbers as num
use Rattle.loft_numbers.specs.Numbers.{number_or_0, module_of, stops_in, body_stops, modules_in, heads_of, numbered}
use Rattle.loft_names.specs.NamesHold.{MeansA, StatementAgrees, BodyAgrees, UsesAgree, NamesHold}
use Rattle.loft_names.proofs.HeadsNumbers.{each_declared_has}
use Rattle.loft_names.proofs.HoldsPrograms.{fits_holds}
use Rattle.loft_locks.specs.Locks.{Lock, LockCall, Takes, Gives, Other, call_of}
use Rattle.loft_lock_forms.specs.Marks.{Use, TakeOf, GiveOf, Mark, use_at}
use Rattle.loft_locks.specs.Marked.{UseAgrees, StatementMarked, BodyMarked}
use Rattle.loft_lock_sources.specs.SourceLocks.{LockNames, HasLock, name_of, lock_in}
use Rattle.loft_lock_sources.specs.Runs.{StatementRuns, StatementsRun, DeclarationRuns}
use Rattle.loft_lock_sources.proofs.KeepNames.{makes_other}
use Rattle.loft_lock_sources.proofs.LockLemmas.{takes_means, gives_means, numbers_stand}

-- a name in a `run` is that of a module of the lock exactly where the `run` stands in place of a form of it
abbrev pub TellsName : LockNames → List ℕ → List ℕ → Option Use → Type 0
TellsName n l text u = (text ≡ n.takes → u ≡ Some (TakeOf l)) × (text ≡ n.gives → u ≡ Some (GiveOf l)) × (u ≡ Some (TakeOf l) → text ≡ n.takes) × (u ≡ Some (GiveOf l) → text ≡ n.gives)

abbrev pub Tells : LockNames → List ℕ → List Mark → Ident → Type 0
Tells n l marks name = TellsName n l name.text (use_at marks name.at)

-- what the names of a lock's modules mean
record CallsMean (s : Source) (n : LockNames) : Type 0 where
  takes : (scope : Scope) (name : Ident) → n.takes ≡ name.text → module_of (declared s) scope name ≡ (lock_in s n).takes
  gives : (scope : Scope) (name : Ident) → n.gives ≡ name.text → module_of (declared s) scope name ≡ (lock_in s n).gives
  apart : (lock_in s n).takes.0 ≡ (lock_in s n).gives.0 → ⊥

calls_mean : (s : Source) (n : LockNames) → NamesFit s → HasLock s n → CallsMean s n
calls_mean s n fit has =
    let hold = subst NamesHold has.parts (fits_holds s fit) in
    let taken = takes_means n has.at has.before has.after hold in
    let given = gives_means n has.at has.before has.after hold in
    let takes_number = ap number_or_0 (taken Everywhere (name_of n.takes) refl) in
    let gives_number = ap number_or_0 (given Everywhere (name_of n.gives) refl) in
    subst (λ (t : Source). CallsMean t n) (sym has.parts) (record {
      takes = λ scope name e. ap (λ o. record { 0 = number_or_0 o }) (taken scope name e ∙ sym (taken Everywhere (name_of n.takes) refl));
      gives = λ scope name e. ap (λ o. record { 0 = number_or_0 o }) (given scope name e ∙ sym (given Everywhere (name_of n.gives) refl));
      apart = λ e. omega (arith, e, takes_number, gives_number);
    })

takes_call : (l : Lock) (m : ModuleId) → m ≡ l.takes → call_of l m ≡ Takes
takes_call l m e = ap (λ b. if b then Takes else (if m.0 == l.gives.0 then Gives else Other)) (eq-eqb m.0 l.takes.0 (ap (λ (i : ModuleId). i.0) e))

gives_call : (l : Lock) (m : ModuleId) → (l.takes.0 ≡ l.gives.0 → ⊥) → m ≡ l.gives → call_of l m ≡ Gives
gives_call l m apart e = by (m.0 == l.takes.0) refl
  where
    by : (b : Bool) → (m.0 == l.takes.0) ≡ b → (if b then Takes else (if m.0 == l.gives.0 then Gives else Other)) ≡ Gives
    by true is = absurd (apart (sym (eqb-true m.0 l.takes.0 is) ∙ ap (λ (i : ModuleId). i.0) e))
    by false is = ap (λ b. if b then Gives else Other) (eq-eqb m.0 l.gives.0 (ap (λ (i : ModuleId). i.0) e))

module _ (s : Source) (n : LockNames) (fit : NamesFit s) (has : HasLock s n) (name : List ℕ) (marks : List Mark) where
  abbrev ds : List Declared
  ds = declared s

  abbrev l : Lock
  l = lock_in s n

  other_text : (a b : List ℕ) → bytes_eq a b ≡ false → a ≡ b → ⊥
  other_text a b off e = let yes = (bytes_eq-Decides a b).1 e in cc

  run_told : (scope : Scope) (called : Ident) (kinds : List Kind) → MeansA ds scope (AModule kinds) called → Tells n name marks called → UseAgrees name (call_of l (module_of ds scope called)) (use_at marks called.at)
  run_told scope called kinds m told = by (bytes_eq called.text n.takes) (bytes_eq called.text n.gives) refl refl
    where
      mean : CallsMean s n
      mean = calls_mean s n fit has

      as_call : (c : LockCall) → call_of l (module_of ds scope called) ≡ c → UseAgrees name c (use_at marks called.at) → UseAgrees name (call_of l (module_of ds scope called)) (use_at marks called.at)
      as_call c e u = subst (λ (d : LockCall). UseAgrees name d (use_at marks called.at)) (sym e) u

      by : (a b : Bool) → bytes_eq called.text n.takes ≡ a → bytes_eq called.text n.gives ≡ b → UseAgrees name (call_of l (module_of ds scope called)) (use_at marks called.at)
      by true b e f =
          let is = (bytes_eq-Decides called.text n.takes).0 e in
          as_call Takes (takes_call l (module_of ds scope called) (mean.takes scope called (sym is))) (told.0 is)
      by false true e f =
          let is = (bytes_eq-Decides called.text n.gives).0 f in
          as_call Gives (gives_call l (module_of ds scope called) mean.apart (mean.gives scope called (sym is))) (told.1 is)
      by false false e f =
          let no = other_text called.text n.takes e in
          let not_given = other_text called.text n.gives f in
          as_call Other (makes_other (heads_of ds s) ds (each_declared_has s) l n (numbers_stand s n fit has) scope called kinds m (no, not_given)) (λ u. no (told.2 u), λ u. not_given (told.3 u))

  mutual
    statement_told : (scope : Scope) (x : src.Statement) (k : ℕ) → StatementAgrees ds scope x → StatementRuns (Tells n name marks) x → StatementMarked l name marks (num.statement_of ds scope x k)
    statement_told scope (src.Assign target value) k agrees runs = tt
    statement_told scope (src.AssignCreate target at creation) k agrees runs = tt
    statement_told scope (src.Create at creation) k agrees runs = tt
    statement_told scope (src.PrintText at line value) k agrees runs = tt
    statement_told scope (src.PrintValue at value) k agrees runs = tt
    statement_told scope (src.Cooperate at instants) k agrees runs = tt
    statement_told scope (src.Generate at event value) k agrees runs = tt
    statement_told scope (src.Await at event limit) k agrees runs = tt
    statement_told scope (src.Select at events limit) k agrees runs = tt
    statement_told scope (src.Get at event index target) k agrees runs = tt
    statement_told scope (src.Join at thread limit) k agrees runs = tt
    statement_told scope (src.ControlThread at control thread scheduler) k agrees runs = tt
    statement_told scope (src.Broadcast at event value) k agrees runs = tt
    statement_told scope (src.Link at scheduler) k agrees runs = tt
    statement_told scope (src.Unlink at) k agrees runs = tt
    statement_told scope (src.Run at called arguments) k agrees runs = run_told scope called agrees.0 agrees.1 runs
    statement_told scope (src.Halt at) k agrees runs = tt
    statement_told scope (src.If at test x y) k agrees runs = (body_told scope x k agrees.1 runs.0, body_told scope y (k + body_stops x) agrees.2 runs.1)
    statement_told scope (src.While at test x) k agrees runs = body_told scope x k agrees.1 runs
    statement_told scope (src.Repeat at count x) k agrees runs = body_told scope x k agrees.1 runs

    body_told : (scope : Scope) (b : src.Statements) (k : ℕ) → BodyAgrees ds scope b → StatementsRun (Tells n name marks) b → BodyMarked l name marks (num.body_of ds scope b k)
    body_told scope src.Done k agrees runs = tt
    body_told scope (src.Then x b) k agrees runs = (statement_told scope x k agrees.0 runs.0, body_told scope b (k + stops_in x) agrees.1 runs.1)

  modules_told : (m : ℕ) (t : Source) → UsesAgree ds m t → Each (DeclarationRuns (Tells n name marks)) t → Each (λ (x : NamedModule). BodyMarked l name marks x.body) (modules_in ds m t)
  modules_told m [] uses runs = tt
  modules_told m (Scheduler x ∷ t) uses runs = modules_told m t uses.1 runs.1
  modules_told m (Event x scheduler ∷ t) uses runs = modules_told m t uses.1 runs.1
  modules_told m (Shared x scheduler value ∷ t) uses runs = modules_told m t uses.1 runs.1
  modules_told m (Module head locals body ∷ t) uses runs = (body_told (Within m) body 0 uses.0.2 runs.0, modules_told (m + 1) t uses.1 runs.1)
  modules_told m (Start scheduler called arguments x ∷ t) uses runs = modules_told m t uses.1 runs.1
  modules_told m (Outside x orders ∷ t) uses runs = modules_told m t uses.1 runs.1

  pub runs_told : Each (DeclarationRuns (Tells n name marks)) s → Each (λ (x : NamedModule). BodyMarked l name marks x.body) (numbered s).modules
  runs_told runs = modules_told 0 s (fits_holds s fit).uses runs
