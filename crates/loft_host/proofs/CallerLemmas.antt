-- Callers before their first turn.
use Rattle.std.proofs.Common.{◌≡◌, ℕ, ◌+◌, ◌<◌, ◌≤◌, arith, Bool, false, ◌||◌, List, [], ◌∷◌, ◌++◌, map, length, refl, sym, ap, ◌∙◌, subst, append_assoc, ne_eqb}
use Rattle.std.specs.List.{All}
use Rattle.std.proofs.lemmas.List.{map-append}
use Rattle.std.proofs.lemmas.List.Elements.{All-head, All-tail}
use Rattle.atomic_table.specs.Seated.{TableId}
use Rattle.loft_base.specs.declared.options.RunOptions.{RunOptions}
use Rattle.loft_code.specs.View.{automata_of}
use Rattle.loft_code.specs.declared.raw.CodeProgram.{CodeProgram}
use Rattle.loft_orders.specs.declared.entry.Actor.{Actor}
use Rattle.loft_orders.specs.declared.entry.Actor.TheVariants.{Client}
use Rattle.loft_sense.specs.Machine.{Prog, Code}
use Rattle.loft_history.specs.Legal.{IsFaithful, IsFaithfulClient}
use Rattle.loft_baton.specs.declared.knows.Own.{Own}
use Rattle.loft_baton.specs.PassValue.{PassValue}
use Rattle.loft_baton.specs.Knowing.{among, own_of}
use Rattle.loft_ft.specs.Calls.{HasCaller, caller_of, number_in, entries_in}
use Rattle.loft_ft.proofs.CallLemmas.{for_code}
use Rattle.loft_actor.specs.Members.{IsGiver}
use Rattle.loft_actor.proofs.BeginLemmas.{IsNewcomer}
use Rattle.loft_host.specs.Callers.{IsCallerOf, caller_in, callers_in}

nothing_before : {A : Type 0} (before : List A) (e : A) (after : List A) → [] ≡ before ++ e ∷ after → ⊥
nothing_before [] e after is = cc
nothing_before (x ∷ before) e after is = cc

-- a caller that has given nothing has given nothing wrong
none_faithful : (x : Prog) (n : ℕ) → IsFaithfulClient x n []
none_faithful x n = record {
  source = λ lt. tt;
  caller = λ le before e after is. absurd (nothing_before before e after is);
}

-- the pass of a new caller
pub new_caller : (b : TableId) (x : CodeProgram) (n i : ℕ) (q : PassValue) → IsNewcomer b x (Client n) q → n ≡ length x.heads.clients + i → IsCallerOf b x i q
new_caller b x n i q new number =
    let own : q.knows.own ≡ own_of (Client n) [] ∷ [] = new.new.own in
    let beyond : length x.heads.clients ≤ n = omega arith in
    record {
      at_work = record {
        may = record {
          baton = new.baton;
          idle = new.new.idle;
          caller = for_code (λ y. HasCaller q.knows.own y.heads) q.knows.code x new.code (subst (λ (l : List Own). HasCaller l x.heads) (sym own) beyond);
        };
        code = new.code;
        faithful = for_code (λ y. (o : RunOptions) → IsFaithful (Code (automata_of y)) o (Client (caller_of q.knows)) (entries_in q.knows.own)) q.knows.code x new.code
            (λ o. subst (λ (l : List Own). IsFaithful (Code (automata_of x)) o (Client (number_in l)) (entries_in l)) (sym own) (none_faithful (Code (automata_of x)) n));
      };
      caller = ap number_in own ∙ number;
    }

pub callers_push : {A : Type 0} (f : A → PassValue) (ds : List A) (d : A) → callers_in (map f (ds ++ d ∷ [])) ≡ callers_in (map f ds) ++ caller_in (f d) ∷ []
callers_push f ds d = ap callers_in (map-append f ds (d ∷ [])) ∙ map-append caller_in (map f ds) (f d ∷ [])

-- one more caller is given out
pub caller_given : (b : TableId) (x : CodeProgram) (given : List Actor) (q : PassValue) (a : Actor) {A : Type 0} (f : A → PassValue) (ds more : List A) (d : A) → more ≡ ds ++ d ∷ [] → caller_in (f d) ≡ a
    → IsGiver b x ((given ++ callers_in (map f ds)) ++ a ∷ []) q → IsGiver b x (given ++ callers_in (map f more)) q
caller_given b x given q a {A} f ds more d is who m =
    let names : callers_in (map f more) ≡ callers_in (map f ds) ++ a ∷ [] = ap (λ (l : List A). callers_in (map f l)) is ∙ callers_push f ds d ∙ ap (λ (t : Actor). callers_in (map f ds) ++ t ∷ []) who in
    subst (λ (l : List Actor). IsGiver b x l q) (append_assoc given (callers_in (map f ds)) (a ∷ []) ∙ ap (λ (l : List Actor). given ++ l) (sym names)) m

-- no caller has a number that is larger than all of theirs
pub fresh_caller : {A : Type 0} (f : A → PassValue) (ds : List A) (n : ℕ) → All (λ d. caller_of (f d).knows < n) ds → among (callers_in (map f ds)) (Client n) ≡ false
fresh_caller f [] n all = refl
fresh_caller {A} f (d ∷ ds) n all =
    let P : A → Type 0 = λ d. caller_of (f d).knows < n in
    let lt : caller_of (f d).knows < n = All-head P d ds all in
    ap (λ (t : Bool). t || among (callers_in (map f ds)) (Client n)) (ne_eqb n (caller_of (f d).knows) (λ e. absurd (omega arith))) ∙ fresh_caller f ds n (All-tail P d ds all)
