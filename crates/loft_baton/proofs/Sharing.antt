-- Making a pass for one more actor and joining two passes keep the rule.
use Rattle.std.proofs.Common.{◌≡◌, ◌≢◌, ◌⊎◌, ℕ, ◌<◌, Bool, true, false, true≢false, cond, ◌||◌, eqb, List, [], ◌∷◌, ◌++◌, length, set, refl, sym, ap, ◌∙◌, subst, inl, inr, ⊎_elim, arith, eq-eqb, ne_eqb, length-append}
use Rattle.std.specs.List.{All}
use mathlib.Core.List.{IsPrefix}
use mathlib.Core.Option.{some, some-injective}
use mathlib.Core.Logic.{dite}
use native.Mathlib.Decide.{ℕ_discrete}
use lib.ListN.{get_elem?}
use Rattle.crossbeam_queue.specs.Fifo.{Forks, Merges}
use Rattle.crossbeam_queue.proofs.Lists.{at_set, at_last}
use Rattle.std.proofs.lemmas.List.Elements.{All-nil, All-cons, All-weaker, All-append}
use Rattle.loft_orders.specs.declared.entry.Actor.{Actor}
use Rattle.loft_orders.specs.declared.entry.Entry.{Entry}
use Rattle.loft_baton.specs.declared.knows.Own.{Own}
use Rattle.loft_baton.specs.declared.knows.Knows.{Knows}
use Rattle.loft_baton.specs.declared.knows.Stage.TheVariants.{Fresh, Live, Spent}
use Rattle.loft_history.specs.Legal.{actor_of, same_actor, of}
use Rattle.loft_baton.specs.Knowing.{among, has, spent, IsIdle, gave, newcomer, joined}
use Rattle.loft_baton.specs.Rule.{Facts, FitsOwn, FitsPass, There, Gives, Runs, Kept}
use Rattle.loft_baton.proofs.HistoryLemmas.{same-refl, same-true, off, both_ways, of_none, longer_is, among-push}
use Rattle.loft_baton.proofs.Numbers.{all_set, at_end, now_at, still, still_else, still_more}
use Rattle.loft_baton.proofs.Moves.{running}

-- a pass for one more actor

none_of : (f : Facts) (a : Actor) → among f.given a ≡ false → All (λ e. among f.given (actor_of e) ≡ true) f.state.history → of a f.state.history ≡ []
none_of f a new names =
    of_none a f.state.history
    (All-weaker (λ e. among f.given (actor_of e) ≡ true) (λ e. same_actor a (actor_of e) ≡ false)
    (λ e m. off (λ s. both_ways (subst (λ b. among f.given b ≡ true) (sym (same-true a (actor_of e) s)) m) new))
    f.state.history names)

or_true : (b : Bool) → (b || true) ≡ true
or_true true = refl
or_true false = refl

among-last : (given : List Actor) (a : Actor) → among (given ++ a ∷ []) a ≡ true
among-last [] a = ap (λ b. b || false) (same-refl a)
among-last (x ∷ xs) a = ap (λ b. same_actor a x || b) (among-last xs a) ∙ or_true (same_actor a x)

-- one that is given out after a was is a, or was given out before
among_either : (given : List Actor) (a b : Actor) → same_actor b a ≡ false → among (given ++ a ∷ []) b ≡ true → among given b ≡ true
among_either [] a b apart e = absurd (both_ways e (ap (λ t. t || false) apart))
among_either (x ∷ xs) a b apart e = either_way (same_actor b x) (among (xs ++ a ∷ []) b) (among xs b) (among_either xs a b apart) e
  where
    either_way : (p q r : Bool) → (q ≡ true → r ≡ true) → (p || q) ≡ true → (p || r) ≡ true
    either_way true q r then' h = h
    either_way false q r then' h = then' h

pub forks : (number : ℕ) (v : Knows) (a : Actor) → IsIdle v → v.gives ≡ true → among v.given a ≡ false → Forks Kept number v (gave v a) (newcomer v a)
forks number v a idle gives fresh_name items views kept at =
    let r = running items views number v idle.0 kept at in
    let f : Facts = r.0 in
    let runs : Runs f items views = r.1 in
    let p : FitsPass f number v = runs.passes number v at in
    let all : v.given ≡ f.given = (p.gives gives).1 in
    let new : among f.given a ≡ false = ap (λ l. among l a) (sym all) ∙ fresh_name in
    let w : Knows = gave v a in
    let u' : Knows = newcomer v a in
    let vs : List Knows = set views number w in
    let n : ℕ = length vs in
    let h : List Entry = f.state.history in
    let owner' : Actor → ℕ = λ b. cond (same_actor b a) n (f.owner b) in
    let given' : List Actor = f.given ++ a ∷ [] in
    let f' : Facts = record f { given = given'; owner = owner' } in
    let Was : ℕ → Own → Type 0 = FitsOwn h f.given f.owner in
    let Is : ℕ → Own → Type 0 = FitsOwn h given' owner' in
    let keeps : (j : ℕ) (own : List Own) → All (Was j) own → All (Is j) own = λ j own k.
    All-weaker (Was j) (Is j)
    (λ o x. record {
      entries = x.entries;
      owned = ap (λ b. cond b n (f.owner o.actor)) (off (λ s. both_ways (subst (λ b. among f.given b ≡ true) (same-true o.actor a s) x.was_given) new)) ∙ x.owned;
      was_given = among-push f.given a o.actor x.was_given;
    }) own k in
    let mine : FitsPass f' number w = record {
      begun = p.begun;
      code = p.code;
      holds = p.holds;
      gives = λ g. ((p.gives g).0, ap (λ l. l ++ a ∷ []) all);
      serves = λ _. inl gives;
      seen = p.seen;
      olds = p.olds;
      own = keeps number v.own p.own;
    } in
    let others : (j : ℕ) (u : Knows) → j ≢ number → get_elem? views j ≡ some u → FitsPass f' j u = λ j u apart e.
    let q : FitsPass f j u = runs.passes j u e in
    record {
      begun = q.begun;
      code = q.code;
      holds = q.holds;
      gives = λ g. absurd (apart (sym (q.gives g).0 ∙ (p.gives gives).0));
      serves = q.serves;
      seen = q.seen;
      olds = q.olds;
      own = keeps j u.own q.own;
    } in
    let theirs : FitsPass f' n u' = record {
      begun = p.begun;
      code = p.code;
      holds = λ k. absurd (both_ways k idle.1);
      gives = λ g. absurd (true≢false (sym g));
      serves = λ _. inr (omega arith);
      seen = p.seen;
      olds = All-nil (λ s. IsPrefix s h);
      own = All-cons (Is n) (record { actor = a; entries = [] }) []
          (record { entries = none_of f a new runs.names; owned = ap (λ b. cond b n (f.owner a)) (same-refl a); was_given = among-last f.given a })
          (All-nil (Is n));
    } in
    let runs' : Runs f' items (vs ++ u' ∷ []) = record {
      lies = runs.lies;
      of_code = runs.of_code;
      names = All-weaker (λ (e : Entry). among f.given (actor_of e) ≡ true) (λ (e : Entry). among given' (actor_of e) ≡ true) (λ e m. among-push f.given a (actor_of e) m) h runs.names;
      passes = λ j u e. ⊎_elim
          (λ (was : get_elem? vs j ≡ some u). all_set (FitsPass f') views number w others mine j u was)
          (λ (t : (j ≡ n) × (u' ≡ u)). subst (λ (y : ℕ × Knows). FitsPass f' y.0 y.1) (λ i. (sym t.0 i, t.1 i)) theirs)
          (at_end vs u' u j e);
      has_holder = λ k e. still_more (λ u. u.holds ≡ true) vs (u' ∷ []) k (still (λ u. u.holds ≡ true) views number v w k at (λ x. x) (runs.has_holder k e));
      has_giver = still_more Gives vs (u' ∷ []) f.giver (still Gives views number v w f.giver at (λ g. g) runs.has_giver);
      has_owner = λ b e.
          let Has : Knows → Type 0 = λ u. has u.own b ≡ true in
          elim (same_actor b a) as (λ (t : Bool). same_actor b a ≡ t → There (vs ++ u' ∷ []) (cond t n (f.owner b)) Has) [
            | true ↦ (λ is. (u', at_last vs u' n refl, ap (λ t. t || false) is))
            | false ↦ (λ is. still_more Has vs (u' ∷ []) (f.owner b) (still Has views number v w (f.owner b) at (λ x. x) (runs.has_owner b (among_either f.given a b is e))))
          ] refl;
    } in
    inr (f', runs')

-- two passes in one

-- what was the other's is this pass's
abbrev moved : ℕ → ℕ → ℕ → ℕ
moved other number n = cond (eqb n other) number n

moved_here : (other number n : ℕ) → n ≡ other → moved other number n ≡ number
moved_here other number n e = ap (λ b. cond b number n) (eq-eqb n other e)

moved_else : (other number n : ℕ) → n ≢ other → moved other number n ≡ n
moved_else other number n e = ap (λ b. cond b number n) (ne_eqb n other e)

joined_gives : (f : Facts) (number other : ℕ) (b c : Bool) (x y : List Actor) → other ≢ number → (b ≡ true → (f.giver ≡ number) × (x ≡ f.given)) → (c ≡ true → (f.giver ≡ other) × (y ≡ f.given)) → (b || c) ≡ true → (moved other number f.giver ≡ number) × (cond b x y ≡ f.given)
joined_gives f number other true c x y apart one two e = let h = one refl in (moved_else other number f.giver (λ s. apart (sym s ∙ h.0)) ∙ h.0, h.1)
joined_gives f number other false c x y apart one two e = let h = two e in (moved_here other number f.giver h.0, h.1)

or_left : (b c : Bool) → b ≡ true → (b || c) ≡ true
or_left true c e = refl
or_left false c e = absurd (true≢false (sym e))

or_right : (b c : Bool) → c ≡ true → (b || c) ≡ true
or_right true c e = refl
or_right false c e = e

has-append : (xs ys : List Own) (a : Actor) → has (xs ++ ys) a ≡ (has xs a || has ys a)
has-append [] ys a = refl
has-append (x ∷ xs) ys a = ap (λ b. same_actor a x.actor || b) (has-append xs ys a) ∙ regroup (same_actor a x.actor) (has xs a) (has ys a)
  where
    regroup : (p q r : Bool) → (p || (q || r)) ≡ ((p || q) || r)
    regroup true q r = refl
    regroup false q r = refl

joined_serves : (b c : Bool) (xs ys : List Own) → (b ≡ true) ⊎ (0 < length xs) → ((b || c) ≡ true) ⊎ (0 < length (xs ++ ys))
joined_serves b c xs ys = ⊎_elim (λ (g : b ≡ true). inl (or_left b c g)) (λ (k : 0 < length xs). inr (omega (arith, length-append xs ys)))

-- where the facts of a pass were: at this pass's number, at the other's, or elsewhere
then_there : (P : Knows → Type 0) (views : List Knows) (number : ℕ) (v w : Knows) (other : ℕ) (u gone : Knows) (n : ℕ) → other ≢ number → get_elem? views number ≡ some v → get_elem? views other ≡ some u → (P v → P w) → (P u → P w) → There views n P → There (set (set views number w) other gone) (moved other number n) P
then_there P views number v w other u gone n apart at was one two there =
    dite (ℕ_discrete n other)
    (λ same.
    let is : there.0 ≡ u = some-injective _ _ (sym there.1 ∙ ap (get_elem? views) same ∙ was) in
    let here : There (set views number w) number P = (w, now_at views number v w at, two (subst P is there.2)) in
    subst (λ k. There (set (set views number w) other gone) k P) (sym (moved_here other number n same)) (still_else P (set views number w) other gone number (λ s. apart (sym s)) here))
    (λ else'.
    subst (λ k. There (set (set views number w) other gone) k P) (sym (moved_else other number n else')) (still_else P (set views number w) other gone n else' (still P views number v w n at one there)))

pub merges : (number : ℕ) (v : Knows) (other : ℕ) (u : Knows) → IsIdle v → IsIdle u → Merges Kept number v other u (joined v u) spent
merges number v other u idle idle' items views kept at apart at' =
    let r = running items views number v idle.0 kept at in
    let f : Facts = r.0 in
    let runs : Runs f items views = r.1 in
    let w : Knows = joined v u in
    let was : get_elem? views other ≡ some u = ⊎_elim (λ (t : (other ≡ number) × (w ≡ u)). absurd (apart t.0)) (λ (t : (other ≢ number) × (get_elem? views other ≡ some u)). t.1) (at_set views number other w u at') in
    let p : FitsPass f number v = runs.passes number v at in
    let q : FitsPass f other u = runs.passes other u was in
    let h : List Entry = f.state.history in
    let owner' : Actor → ℕ = λ a. moved other number (f.owner a) in
    let f' : Facts = record f { giver = moved other number f.giver; owner = owner' } in
    let Was : ℕ → Own → Type 0 = FitsOwn h f.given f.owner in
    let Is : ℕ → Own → Type 0 = FitsOwn h f.given owner' in
    let stays : (j : ℕ) (own : List Own) → j ≢ other → All (Was j) own → All (Is j) own = λ j own else' k.
    All-weaker (Was j) (Is j) (λ o x. record { entries = x.entries; owned = moved_else other number (f.owner o.actor) (λ s. else' (sym x.owned ∙ s)) ∙ x.owned; was_given = x.was_given }) own k in
    let comes : All (Is number) u.own =
    All-weaker (Was other) (Is number) (λ o x. record { entries = x.entries; owned = moved_here other number (f.owner o.actor) x.owned; was_given = x.was_given }) u.own q.own in
    let Old : List Entry → Type 0 = λ s. IsPrefix s h in
    let mine : FitsPass f' number w = record {
      begun = p.begun;
      code = p.code;
      holds = λ k. absurd (both_ways k idle.1);
      gives = joined_gives f number other v.gives u.gives v.given u.given apart p.gives q.gives;
      serves = λ live. joined_serves v.gives u.gives v.own u.own (p.serves live);
      seen = longer_is Old v.seen u.seen p.seen q.seen;
      olds = All-cons Old v.seen (u.seen ∷ v.olds ++ u.olds) p.seen (All-cons Old u.seen (v.olds ++ u.olds) q.seen (All-append Old v.olds u.olds p.olds q.olds));
      own = All-append (Is number) v.own u.own (stays number v.own (λ s. apart (sym s)) p.own) comes;
    } in
    let Then : ℕ → Knows → Type 0 = λ j k. j ≢ other → FitsPass f' j k in
    let others : (j : ℕ) (k : Knows) → j ≢ number → get_elem? views j ≡ some k → Then j k = λ j k _ e else'.
    let t : FitsPass f j k = runs.passes j k e in
    record {
      begun = t.begun;
      code = t.code;
      holds = t.holds;
      gives = λ g. (moved_else other number f.giver (λ s. else' (sym (t.gives g).0 ∙ s)) ∙ (t.gives g).0, (t.gives g).1);
      serves = t.serves;
      seen = t.seen;
      olds = t.olds;
      own = stays j k.own else' t.own;
    } in
    let vs : List Knows = set views number w in
    let then' : (j : ℕ) (k : Knows) → get_elem? vs j ≡ some k → Then j k = all_set Then views number w others (λ _. mine) in
    let theirs : FitsPass f' other spent = record {
      begun = (λ (e : Spent ≡ Fresh). cc);
      code = (λ (e : Spent ≡ Live). absurd (cc));
      holds = λ e. absurd (true≢false (sym e));
      gives = λ e. absurd (true≢false (sym e));
      serves = (λ (e : Spent ≡ Live). absurd (cc));
      seen = (h, refl);
      olds = All-nil Old;
      own = All-nil (Is other);
    } in
    let runs' : Runs f' items (set vs other spent) = record {
      lies = runs.lies;
      of_code = runs.of_code;
      names = runs.names;
      passes = all_set (FitsPass f') vs other spent (λ j k else' e. then' j k e else') theirs;
      has_holder = λ n e.
          let there = runs.has_holder n e in
          let not_here : n ≢ other = λ s. both_ways (subst (λ (k : Knows). k.holds ≡ true) (some-injective _ _ (sym there.1 ∙ ap (get_elem? views) s ∙ was)) there.2) idle'.1 in
          still_else (λ k. k.holds ≡ true) vs other spent n not_here (still (λ k. k.holds ≡ true) views number v w n at (λ k. k) there);
      has_giver = then_there Gives views number v w other u spent f.giver apart at was (λ g. (g.0, or_left v.gives u.gives g.1)) (λ g. (idle.0, or_right v.gives u.gives g.1)) runs.has_giver;
      has_owner = λ a e.
          then_there (λ k. has k.own a ≡ true) views number v w other u spent (f.owner a) apart at was
          (λ k. has-append v.own u.own a ∙ or_left (has v.own a) (has u.own a) k) (λ k. has-append v.own u.own a ∙ or_right (has v.own a) (has u.own a) k) (runs.has_owner a e);
    } in
    inr (f', runs')
