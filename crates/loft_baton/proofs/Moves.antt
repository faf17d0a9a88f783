-- Putting the world in, taking it and giving it back keep the rule.
use Rattle.std.proofs.Common.{◌≡◌, ◌≢◌, ℕ, suc, ◌<◌, true, false, true≢false, ◌||◌, List, [], ◌∷◌, ◌++◌, length, set, refl, sym, ap, ◌∙◌, subst, inl, inr, ⊎_elim, append-nil}
use Rattle.std.specs.List.{All}
use mathlib.Core.List.{IsPrefix}
use mathlib.Core.Option.{Option, some, none, some-injective, some-ne-none}
use lib.ListN.{get_elem?}
use Rattle.crossbeam_queue.specs.Fifo.{Pushes, Pops, Learns}
use Rattle.std.proofs.lemmas.List.Elements.{All-nil, All-weaker, All-append, All-map}
use Rattle.loft_orders.specs.declared.entry.Actor.{Actor}
use Rattle.loft_orders.specs.declared.entry.Entry.{Entry}
use Rattle.loft_orders.specs.declared.order.Sent.{Sent}
use Rattle.loft_sense.specs.Machine.{Code}
use Rattle.std.specs.Prelude.{Some, unwrap_or}
use Rattle.loft_code.specs.View.{automata_of}
use Rattle.loft_history.specs.History.{sent_in}
use Rattle.loft_soundness.specs.Machines.{SentFits}
use Rattle.loft_code.specs.declared.raw.CodeProgram.{CodeProgram}
use Rattle.loft_baton.specs.declared.knows.Own.{Own}
use Rattle.loft_baton.specs.declared.knows.Knows.{Knows}
use Rattle.loft_baton.specs.declared.knows.Stage.TheVariants.{Fresh, Live}
use Rattle.loft_history.specs.Legal.{actor_of, same_actor, of}
use Rattle.loft_world.specs.State.{State, no_entries}
use Rattle.loft_baton.specs.OfCode.{IsOfCode}
use Rattle.loft_baton.specs.Knowing.{among, has, fresh, begun, IsIdle, IsHolding, holding, added, Adds, own_with, released, Follows}
use Rattle.loft_baton.specs.Rule.{Facts, FitsOwn, FitsPass, LiesAt, Gives, Runs, Kept}
use Rattle.loft_baton.proofs.HistoryLemmas.{same-true, off, of-append, of_none, sent_in-append, prefix_trans, prefix_refl, prefix_rest, all_has}
use Rattle.loft_baton.proofs.Numbers.{all_set, only, now_at, still}

-- a pass that is in use knows that the rule runs
pub running : (items : List State) (views : List Knows) (number : ℕ) (v : Knows) → v.stage ≡ Live → Kept items views → get_elem? views number ≡ some v → (f : Facts) × Runs f items views
running items views number v live kept at =
    ⊎_elim
    (λ (x : (items ≡ []) × (views ≡ fresh ∷ [])).
    let e = only number v (ap (λ l. get_elem? l number) (sym x.1) ∙ at) in
    let stages : Fresh ≡ Live = ap (λ (k : Knows). k.stage) e.0 ∙ live in
    absurd (cc))
    (λ x. x)
    kept

lies_in : (s : State) (holder : Option ℕ) (x : State) (items : List State) → LiesAt s holder (x ∷ items) → (holder ≡ none) × (x ≡ s) × (items ≡ [])
lies_in s none x items e = (refl, cc, cc)
lies_in s (some number) x items e = absurd (cc)

lies_out : (s : State) (holder : Option ℕ) (items : List State) (number : ℕ) → holder ≡ some number → LiesAt s holder items → items ≡ []
lies_out s none items number out e = absurd (some-ne-none number (sym out))
lies_out s (some p) items number out e = e

-- the first push

pub begins : (n number : ℕ) (c : CodeProgram) (x : State) → x ≡ no_entries c.heads → Pushes Kept n number fresh x (λ w. w ≡ begun (Some c))
begins n number c x empty items views room kept at =
    let f : Facts = record { state = x; code = c; given = []; giver = 0; holder = none; owner = λ _. 0 } in
    let w : Knows = begun (Some c) in
    let mine : FitsPass f 0 w = record {
      begun = (λ (e : Live ≡ Fresh). cc);
      code = λ _. refl;
      holds = λ e. absurd (true≢false (sym e));
      gives = λ _. (refl, refl);
      serves = λ _. inl refl;
      seen = (x.history, refl);
      olds = All-nil (λ s. IsPrefix s f.state.history);
      own = All-nil (FitsOwn f.state.history f.given f.owner 0);
    } in
    let passes : (j : ℕ) (u : Knows) → get_elem? (w ∷ []) j ≡ some u → FitsPass f j u = all_set (FitsPass f) (fresh ∷ []) 0 w (λ j u apart e. absurd (apart (only j u e).1)) mine in
    ⊎_elim
    (λ (k : (items ≡ []) × (views ≡ fresh ∷ [])).
    let here = (only number fresh (ap (λ l. get_elem? l number) (sym k.1) ∙ at)).1 in
    let after : set views number w ≡ w ∷ [] = ap (λ l. set l number w) k.1 ∙ ap (λ p. set (fresh ∷ []) p w) here in
    let runs : Runs f (items ++ x ∷ []) (set views number w) = record {
      lies = ap (λ l. l ++ x ∷ []) k.0;
      of_code = subst (IsOfCode c) (sym empty) (record { heads = refl; fits = All-nil (SentFits (Code (automata_of c))) });
      names = subst (All (λ (e : Entry). among f.given (actor_of e) ≡ true)) (sym (ap (λ (s : State). s.history) empty)) (All-nil (λ (e : Entry). among f.given (actor_of e) ≡ true));
      passes = λ j u e. passes j u (ap (λ l. get_elem? l j) (sym after) ∙ e);
      has_holder = λ p e. absurd (some-ne-none p (sym e));
      has_giver = (w, ap (λ l. get_elem? l 0) after, (refl, refl));
      has_owner = λ a e. absurd (true≢false (sym e));
    } in
    (w, inr (f, runs), refl))
    (λ (k : (f : Facts) × Runs f items views). absurd ((k.1.passes number fresh at).begun refl))
    kept

-- before the first push the queue is empty
pub untaken : (number : ℕ) → Learns Kept number fresh (λ items. items ≡ [])
untaken number items views kept at =
    ⊎_elim
    (λ (k : (items ≡ []) × (views ≡ fresh ∷ [])). k.0)
    (λ (k : (f : Facts) × Runs f items views). absurd ((k.1.passes number fresh at).begun refl))
    kept

-- a pop

follows : (f : Facts) (items : List State) (views : List Knows) (number : ℕ) (v : Knows) → v.stage ≡ Live → Runs f items views → FitsPass f number v → Follows v f.state
follows f items views number v live runs p = record {
  seen = p.seen;
  olds = p.olds;
  own = All-weaker (FitsOwn f.state.history f.given f.owner number) (λ o. of o.actor f.state.history ≡ o.entries) (λ o x. x.entries) v.own p.own;
  code = λ c is. subst (λ (c : CodeProgram). IsOfCode c f.state) (ap (λ o. unwrap_or o c) (sym (p.code live) ∙ is)) runs.of_code;
  given = λ g. subst (λ l. All (λ (e : Entry). among l (actor_of e) ≡ true) f.state.history) (sym (p.gives g).1) runs.names;
}

pub takes : (number : ℕ) (v : Knows) → IsIdle v → Pops Kept number v (λ x w. (w ≡ holding v x.history) × Follows v x)
takes number v idle x items views kept at =
    let r = running (x ∷ items) views number v idle.0 kept at in
    let f : Facts = r.0 in
    let runs : Runs f (x ∷ items) views = r.1 in
    let lies = lies_in f.state f.holder x items runs.lies in
    let p : FitsPass f number v = runs.passes number v at in
    let w : Knows = holding v x.history in
    let f' : Facts = record f { holder = some number } in
    let seen : x.history ≡ f.state.history = ap (λ (s : State). s.history) lies.1 in
    let mine : FitsPass f' number w = record {
      begun = p.begun;
      code = p.code;
      holds = λ _. (refl, seen);
      gives = p.gives;
      serves = p.serves;
      seen = prefix_refl x.history f.state.history seen;
      olds = p.olds;
      own = p.own;
    } in
    let others : (j : ℕ) (u : Knows) → j ≢ number → get_elem? views j ≡ some u → FitsPass f' j u = λ j u apart e.
    let q : FitsPass f j u = runs.passes j u e in
    record {
      begun = q.begun;
      code = q.code;
      holds = λ h. absurd (some-ne-none j (sym (q.holds h).0 ∙ lies.0));
      gives = q.gives;
      serves = q.serves;
      seen = q.seen;
      olds = q.olds;
      own = q.own;
    } in
    let runs' : Runs f' items (set views number w) = record {
      lies = lies.2;
      of_code = runs.of_code;
      names = runs.names;
      passes = all_set (FitsPass f') views number w others mine;
      has_holder = λ n e. (w, ap (get_elem? (set views number w)) (some-injective n number (sym e)) ∙ now_at views number v w at, refl);
      has_giver = still Gives views number v w f.giver at (λ g. g) runs.has_giver;
      has_owner = λ a e. still (λ u. has u.own a ≡ true) views number v w (f.owner a) at (λ h. h) (runs.has_owner a e);
    } in
    (w, inr (f', runs'), (refl, subst (Follows v) (sym lies.1) (follows f (x ∷ items) views number v idle.0 runs p)))

-- a push of the world that was held

pub empty : (number : ℕ) (v : Knows) → IsHolding v → Learns Kept number v (λ items. items ≡ [])
empty number v held items views kept at =
    let r = running items views number v held.0 kept at in
    lies_out r.0.state r.0.holder items number ((r.1.passes number v at).holds held.1).0 r.1.lies

-- of what a pass adds, nothing is of an actor that another pass has
added_else : (f : Facts) (number : ℕ) (v : Knows) (new : List Entry) (a : Actor) → All (λ o. f.owner o.actor ≡ number) v.own → All (λ e. has v.own (actor_of e) ≡ true) new → f.owner a ≢ number → of a new ≡ []
added_else f number v new a own may else' =
    of_none a new
    (All-weaker (λ e. has v.own (actor_of e) ≡ true) (λ e. same_actor a (actor_of e) ≡ false)
    (λ e m. off (λ s. else' (ap f.owner (same-true a (actor_of e) s) ∙ all_has (λ b. f.owner b ≡ number) v.own (actor_of e) own m)))
    new may)

has_with : (new : List Entry) (own : List Own) (a : Actor) → has (own_with new own) a ≡ has own a
has_with new [] a = refl
has_with new (o ∷ own) a = ap (λ b. same_actor a o.actor || b) (has_with new own a)

length_with : (new : List Entry) (own : List Own) → length (own_with new own) ≡ length own
length_with new [] = refl
length_with new (o ∷ own) = ap suc (length_with new own)

pub releases : (n number : ℕ) (v : Knows) (x : State) → IsHolding v → Adds v x → Pushes Kept n number v x (λ w. w ≡ released v x.history)
releases n number v x held adds items views room kept at =
    let r = running items views number v held.0 kept at in
    let f : Facts = r.0 in
    let runs : Runs f items views = r.1 in
    let p : FitsPass f number v = runs.passes number v at in
    let here = p.holds held.1 in
    let out : items ≡ [] = lies_out f.state f.holder items number here.0 runs.lies in
    let h : List Entry = f.state.history in
    let y : List Entry = x.history in
    let new : List Entry = added v y in
    let whole : h ++ new ≡ y = ap (λ l. l ++ new) (sym here.1) ∙ prefix_rest v.seen y adds.seen in
    let further : IsPrefix h y = (new, whole) in
    let parts : (a : Actor) → of a y ≡ of a h ++ of a new = λ a. ap (λ l. of a l) (sym whole) ∙ of-append a h new in
    let Was : ℕ → Own → Type 0 = FitsOwn h f.given f.owner in
    let Is : ℕ → Own → Type 0 = FitsOwn y f.given f.owner in
    let owned : All (λ o. f.owner o.actor ≡ number) v.own = All-weaker (Was number) (λ o. f.owner o.actor ≡ number) (λ o k. k.owned) v.own p.own in
    let given : All (λ o. among f.given o.actor ≡ true) v.own = All-weaker (Was number) (λ o. among f.given o.actor ≡ true) (λ o k. k.was_given) v.own p.own in
    let w : Knows = released v y in
    let f' : Facts = record f { state = x; holder = none } in
    let Named : Entry → Type 0 = λ e. among f.given (actor_of e) ≡ true in
    let Fit : Sent → Type 0 = SentFits (Code (automata_of f.code)) in
    let names : All Named y = subst (All Named) whole (All-append Named h new runs.names (All-weaker (λ e. has v.own (actor_of e) ≡ true) Named (λ e m. all_has (λ b. among f.given b ≡ true) v.own (actor_of e) given m) new adds.own)) in
    let With : Own → Own = λ o. record { actor = o.actor; entries = o.entries ++ of o.actor new } in
    let own' : All (Is number) (own_with new v.own) =
    All-map (Is number) With v.own
    (All-weaker (Was number) (λ o. Is number (With o)) (λ o k. record { entries = parts o.actor ∙ ap (λ l. l ++ of o.actor new) k.entries; owned = k.owned; was_given = k.was_given }) v.own p.own) in
    let olds : (l : List (List Entry)) → All (λ s. IsPrefix s h) l → All (λ s. IsPrefix s y) l = λ l. All-weaker (λ s. IsPrefix s h) (λ s. IsPrefix s y) (λ s k. prefix_trans s h y k further) l in
    let mine : FitsPass f' number w = record {
      begun = p.begun;
      code = p.code;
      holds = λ e. absurd (true≢false (sym e));
      gives = p.gives;
      serves = λ live. ⊎_elim (λ (g : v.gives ≡ true). inl g) (λ (k : 0 < length v.own). inr (subst (λ m. 0 < m) (sym (length_with new v.own)) k)) (p.serves live);
      seen = prefix_refl y y refl;
      olds = olds v.olds p.olds;
      own = own';
    } in
    let others : (j : ℕ) (u : Knows) → j ≢ number → get_elem? views j ≡ some u → FitsPass f' j u = λ j u apart e.
    let q : FitsPass f j u = runs.passes j u e in
    record {
      begun = q.begun;
      code = q.code;
      holds = λ k. absurd (apart (some-injective j number (sym (q.holds k).0 ∙ here.0)));
      gives = q.gives;
      serves = q.serves;
      seen = prefix_trans u.seen h y q.seen further;
      olds = olds u.olds q.olds;
      own = All-weaker (Was j) (Is j)
          (λ o k. record {
            entries = parts o.actor ∙ ap (λ l. of o.actor h ++ l) (added_else f number v new o.actor owned adds.own (λ s. apart (sym k.owned ∙ s))) ∙ append-nil (of o.actor h) ∙ k.entries;
            owned = k.owned;
            was_given = k.was_given;
          }) u.own q.own;
    } in
    let runs' : Runs f' (items ++ x ∷ []) (set views number w) = record {
      lies = ap (λ l. l ++ x ∷ []) out;
      of_code = record {
        heads = adds.heads f.code (p.code held.0);
        fits =
            subst (All Fit) (sym (ap sent_in (sym whole) ∙ sent_in-append h new)) (All-append Fit (sent_in h) (sent_in new) runs.of_code.fits (adds.fits f.code (p.code held.0)));
      };
      names = names;
      passes = all_set (FitsPass f') views number w others mine;
      has_holder = λ n e. absurd (some-ne-none n (sym e));
      has_giver = still Gives views number v w f.giver at (λ g. g) runs.has_giver;
      has_owner = λ a e. still (λ u. has u.own a ≡ true) views number v w (f.owner a) at (λ k. has_with new v.own a ∙ k) (runs.has_owner a e);
    } in
    (w, inr (f', runs'), refl)
