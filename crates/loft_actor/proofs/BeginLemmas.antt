-- Actors that are given out one after another.
use Rattle.std.proofs.Common.{◌≡◌, ℕ, suc, ◌+◌, ◌-◌, ◌<◌, ◌==◌, arith, Bool, false, ◌||◌, List, [], ◌∷◌, ◌++◌, length, map, take, drop, refl, sym, ap, ◌∙◌, subst, append_assoc, ne_eqb, Some}
use Rattle.std.specs.List.{All, range_with_len, remove}
use Rattle.std.proofs.lemmas.List.{map-append}
use Rattle.std.proofs.lemmas.List.Folds.{list_any-append}
use Rattle.std.proofs.lemmas.List.Elements.{All-head, All-tail}
use Rattle.atomic_table.specs.Seated.{TableId}
use Rattle.loft_base.specs.declared.ids.SchedId.{SchedId}
use Rattle.loft_base.specs.declared.options.Limits.{Limits}
use Rattle.loft_code.specs.View.{automata_of}
use Rattle.loft_code.specs.declared.raw.CodeProgram.{CodeProgram}
use Rattle.loft_orders.specs.declared.entry.Actor.{Actor}
use Rattle.loft_orders.specs.declared.entry.Actor.TheVariants.{Sched, Worker, Client}
use Rattle.loft_sense.specs.Heads.{scheduler}
use Rattle.loft_sense.specs.Machine.{Prog, Code, Mach}
use Rattle.loft_history.specs.Legal.{same_actor}
use Rattle.loft_baton.specs.declared.knows.Knows.{Knows}
use Rattle.loft_baton.specs.PassValue.{PassValue}
use Rattle.loft_baton.specs.Knowing.{among, gave, newcomer}
use Rattle.loft_seat.specs.Seats.{IsNewPass}
use Rattle.loft_station.specs.declared.worker.Worker as hand
use Rattle.loft_station.specs.declared.outsider.Outsider as outside
use Rattle.loft_station.specs.Stations.{StationView, IsReady as IsReadyStation}
use Rattle.loft_station.specs.Workers.{IsReady as IsReadyWorker}
use Rattle.loft_station.specs.Outsiders.{IsReady as IsReadyOutsider}
use Rattle.loft_tree.specs.NamedFits.{IsScheduler}
use Rattle.loft_actor.specs.Engines.{Shown, shown, new_engine}
use Rattle.loft_actor.specs.Members.{IsGiver, IsStationOf, IsWorkerOf, IsOutsiderOf, Member, station_member, worker_member, outsider_member, names_of}

-- ---- the giving pass

-- one more actor is given out
pub giver_more : (b : TableId) (x : CodeProgram) (given : List Actor) (p q : PassValue) (a : Actor) → IsGiver b x given p → q ≡ record p { knows = gave p.knows a } → IsGiver b x (given ++ a ∷ []) q
giver_more b x given p q a m is =
    let k : q.knows ≡ gave p.knows a = ap (λ (t : PassValue). t.knows) is in
    record {
      baton = ap (λ (t : PassValue). t.baton) is ∙ m.baton;
      idle = (ap (λ (v : Knows). v.stage) k ∙ m.idle.0, ap (λ (v : Knows). v.holds) k ∙ m.idle.1);
      code = ap (λ (v : Knows). v.code) k ∙ m.code;
      gives = ap (λ (v : Knows). v.gives) k ∙ m.gives;
      given_out = ap (λ (v : Knows). v.given) k ∙ ap (λ (l : List Actor). l ++ a ∷ []) m.given_out;
      own = ap (λ (v : Knows). v.own) k ∙ m.own;
    }

-- what the pass of a new actor is
pub record IsNewcomer (b : TableId) (x : CodeProgram) (a : Actor) (q : PassValue) : Type 0 where
  pub new : IsNewPass a q
  pub baton : q.baton ≡ b
  pub code : q.knows.code ≡ Some x

pub new_pass : (b : TableId) (x : CodeProgram) (given : List Actor) (p q : PassValue) (a : Actor) → IsGiver b x given p → q ≡ record p { knows = newcomer p.knows a } → IsNewcomer b x a q
new_pass b x given p q a m is =
    let k : q.knows ≡ newcomer p.knows a = ap (λ (t : PassValue). t.knows) is in
    record {
      new = record { idle = (ap (λ (v : Knows). v.stage) k ∙ m.idle.0, ap (λ (v : Knows). v.holds) k ∙ m.idle.1); own = ap (λ (v : Knows). v.own) k };
      baton = ap (λ (t : PassValue). t.baton) is ∙ m.baton;
      code = ap (λ (v : Knows). v.code) k ∙ m.code;
    }

-- a scheduler, a worker and a client with such a pass are ready, each at its index

pub station_ready : (b : TableId) (x : CodeProgram) (l : Limits) (k : ℕ) (q : PassValue) (v : StationView) (y : Prog) (s : SchedId) (j : Limits) (m : Mach) (f : Bool) → IsNewcomer b x (Sched (scheduler k)) q
    → shown y s j m f ≡ new_engine (Code (automata_of x)) l k → k < length x.heads.schedulers
    → ((z : CodeProgram) → q.knows.code ≡ Some z → IsScheduler z.heads s → IsReadyStation q.baton z v) → v.scheduler ≡ s → v.limits ≡ j → IsStationOf b x l k v
station_ready b x l k q v y s j m f n is lt ready here bounds =
    let number : s ≡ scheduler k = ap (λ (t : Shown). t.scheduler) is in
    record {
      ready = subst (λ (t : TableId). IsReadyStation t x v) n.baton (ready x n.code (subst (IsScheduler x.heads) (sym number) lt));
      scheduler = here ∙ number;
      limits = bounds ∙ ap (λ (t : Shown). t.limits) is;
    }

pub worker_ready : (b : TableId) (x : CodeProgram) (block k w : ℕ) (q : PassValue) (v : hand.Worker) → IsNewcomer b x (Worker w) q → w ≡ k → v.number ≡ w → v.block ≡ block
    → ((z : CodeProgram) → q.knows.code ≡ Some z → IsReadyWorker q.baton z v) → IsWorkerOf b x block k v
worker_ready b x block k w q v n at number steps ready = record {
  ready = subst (λ (t : TableId). IsReadyWorker t x v) n.baton (ready x n.code);
  number = number ∙ at;
  bound = steps;
}

pub outsider_ready : (b : TableId) (x : CodeProgram) (k c : ℕ) (q : PassValue) (v : outside.Outsider) → IsNewcomer b x (Client c) q → c ≡ k → v.client ≡ c → c < length x.heads.clients
    → ((z : CodeProgram) → q.knows.code ≡ Some z → c < length z.heads.clients → IsReadyOutsider q.baton z v) → IsOutsiderOf b x k v
outsider_ready b x k c q v n at number lt ready = record {
  ready = subst (λ (t : TableId). IsReadyOutsider t x v) n.baton (ready x n.code lt);
  client = number ∙ at;
}

-- ---- who was given out

pub names_push : {A : Type 0} (f : A → Member) (xs : List A) (x : A) → names_of (map f (xs ++ x ∷ [])) ≡ names_of (map f xs) ++ (f x).who ∷ []
names_push f xs x = ap names_of (map-append f xs (x ∷ [])) ∙ map-append (λ (m : Member). m.who) (map f xs) (f x ∷ [])

-- one more actor of a list is given out
pub given_more : (b : TableId) (x : CodeProgram) (given : List Actor) (p q : PassValue) (a : Actor) {A : Type 0} (f : A → Member) (vs more : List A) (v : A) → more ≡ vs ++ v ∷ [] → (f v).who ≡ a
    → IsGiver b x (given ++ names_of (map f vs)) p → q ≡ record p { knows = gave p.knows a } → IsGiver b x (given ++ names_of (map f more)) q
given_more b x given p q a {A} f vs more v is who m gives =
    let names : names_of (map f more) ≡ names_of (map f vs) ++ a ∷ [] = ap (λ (l : List A). names_of (map f l)) is ∙ names_push f vs v ∙ ap (λ (t : Actor). names_of (map f vs) ++ t ∷ []) who in
    subst (λ (l : List Actor). IsGiver b x l q) (append_assoc given (names_of (map f vs)) (a ∷ []) ∙ ap (λ (l : List Actor). given ++ l) (sym names)) (giver_more b x (given ++ names_of (map f vs)) p q a m gives)

apart : (k n : ℕ) → n < k → (k == n) ≡ false
apart k n lt = ne_eqb k n (λ e. absurd (omega arith))

pub fresh_scheduler : (vs : List StationView) (k : ℕ) → All (λ v. v.scheduler.0 < k) vs → among (names_of (map station_member vs)) (Sched (scheduler k)) ≡ false
fresh_scheduler [] k all = refl
fresh_scheduler (v ∷ vs) k all =
    let P : StationView → Type 0 = λ v. v.scheduler.0 < k in
    ap (λ (t : Bool). t || among (names_of (map station_member vs)) (Sched (scheduler k))) (apart k v.scheduler.0 (All-head P v vs all)) ∙ fresh_scheduler vs k (All-tail P v vs all)

pub fresh_worker : (vs : List hand.Worker) (k : ℕ) → All (λ v. v.number < k) vs → among (names_of (map worker_member vs)) (Worker k) ≡ false
fresh_worker [] k all = refl
fresh_worker (v ∷ vs) k all =
    let P : hand.Worker → Type 0 = λ v. v.number < k in
    ap (λ (t : Bool). t || among (names_of (map worker_member vs)) (Worker k)) (apart k v.number (All-head P v vs all)) ∙ fresh_worker vs k (All-tail P v vs all)

pub fresh_client : (vs : List outside.Outsider) (k : ℕ) → All (λ v. v.client < k) vs → among (names_of (map outsider_member vs)) (Client k) ≡ false
fresh_client [] k all = refl
fresh_client (v ∷ vs) k all =
    let P : outside.Outsider → Type 0 = λ v. v.client < k in
    ap (λ (t : Bool). t || among (names_of (map outsider_member vs)) (Client k)) (apart k v.client (All-head P v vs all)) ∙ fresh_client vs k (All-tail P v vs all)

pub no_worker : (vs : List StationView) (w : ℕ) → among (names_of (map station_member vs)) (Worker w) ≡ false
no_worker [] w = refl
no_worker (v ∷ vs) w = no_worker vs w

pub no_client : (vs : List StationView) (c : ℕ) → among (names_of (map station_member vs)) (Client c) ≡ false
no_client [] c = refl
no_client (v ∷ vs) c = no_client vs c

pub no_client_yet : (vs : List hand.Worker) (c : ℕ) → among (names_of (map worker_member vs)) (Client c) ≡ false
no_client_yet [] c = refl
no_client_yet (v ∷ vs) c = no_client_yet vs c

pub neither : (xs ys : List Actor) (a : Actor) → among xs a ≡ false → among ys a ≡ false → among (xs ++ ys) a ≡ false
neither xs ys a e f = list_any-append (λ b. same_actor a b) xs ys ∙ ap (λ (t : Bool). t || among ys a) e ∙ f

-- ---- the engines that are left

parted : {A : Type 0} (x y : A) (xs ys : List A) → x ∷ xs ≡ y ∷ ys → (x ≡ y) × (xs ≡ ys)
parted x y xs ys e = let first : x ≡ y = cc in let rest : xs ≡ ys = cc in (first, rest)

-- the first of those that are left is that of the first index that is left
pub one_less : {A B : Type 0} (f : A → B) (g : ℕ → B) (k n : ℕ) (old new : List A) (x : A) → k < n → old ≡ x ∷ new → map f old ≡ map g (range_with_len k (n - k))
    → (f x ≡ g k) × (map f new ≡ map g (range_with_len (k + 1) (n - (k + 1))))
one_less f g k n old new x lt is left =
    let m : ℕ = n - (k + 1) in
    let more : n - k ≡ suc m = omega arith in
    parted (f x) (g k) (map f new) (map g (range_with_len (k + 1) m)) (sym (ap (map f) is) ∙ left ∙ ap (λ (j : ℕ). map g (range_with_len k j)) more)

pub first_taken : {A : Type 0} (old new : List A) (x : A) → new ≡ remove old 0 → old ≡ take 0 old ++ x ∷ drop 1 old → old ≡ x ∷ new
first_taken [] new x is value = absurd (cc)
first_taken (y ∷ old) new x is value = value ∙ ap (λ l. x ∷ l) (sym is)
