use Rattle.std.proofs.Common.{◌+◌, ◌<◌, ℕ, sym, ap, ◌∙◌, subst, arith, map, [], ◌∷◌, ◌++◌, List, length, length-append}
use Rattle.std.proofs.lemmas.List.Edits.{length-remove}
use Rattle.loft_orders.specs.declared.entry.Actor.{Actor}
use Rattle.loft_orders.specs.declared.entry.Actor.TheVariants.{Client}
use Rattle.loft_baton.specs.Knowing.{among}
use Rattle.loft_actor.specs.Members.{AtIndex, IsGiver}
use Rattle.loft_actor.proofs.ListLemmas.{index_push}
use Rattle.loft_actor.proofs.BeginLemmas.{neither}
use Rattle.loft_host.specs.Callers.{IsCallerOf, callers_in}
use Rattle.loft_host.proofs.CallerLemmas.{fresh_caller, caller_given}
use Rattle.loft_host.proofs.begin.desks_of.Goals as goal

pub desk_of-desk-requires-clause-new : goal.desk_of-desk-requires-clause-new
desk_of-desk-requires-clause-new g c =
    let i = c.loop-k.invariant in
    let ds = c.loop-k.desks.items in
    let k : ℕ = c.loop-k.k in
    let n : ℕ = length c.args.c.now.heads.clients + k in
    let given : List Actor = c.args.giver.now.knows.given in
    ap (λ (l : List Actor). among l (Client n)) i.giver.given_out
    ∙ neither given (callers_in (map (λ d. d.pass) ds)) (Client n) (c.requires.new n (omega arith))
    (fresh_caller (λ d. d.pass) ds n (λ j d lt. let e = (i.callers j d lt).caller in omega (arith, e, i.many)))

pub loop-k-preserved : goal.loop-k-preserved
loop-k-preserved g c =
    let b = c.args.b.now in
    let x = c.args.c.now in
    let i = c.loop-k.invariant in
    let ds = c.loop-k.desks.items in
    let d = c.desk_of-desk.result in
    let k : ℕ = c.loop-k.k in
    let n : ℕ = length x.heads.clients + k in
    let given : List Actor = c.args.giver.now.knows.given in
    let is = c.in_ok-push.ensures.items in
    record {
      giver = caller_given b x given c.desk_of-desk.new.giver (Client n) (λ d. d.pass) ds c.push.new.self.items d is (ap Client c.desk_of-desk.ensures.caller.caller)
          (subst (λ (l : List Actor). IsGiver b x (l ++ Client n ∷ []) c.desk_of-desk.new.giver) i.giver.given_out c.desk_of-desk.ensures.giver);
      many = ap length is ∙ length-append ds (d ∷ []) ∙ ap (λ (j : ℕ). j + 1) i.many;
      left = let lt : 0 < length c.loop-k.left.items = omega (arith, i.left) in omega (arith, i.left, ap length c.remove-caller.ensures.items, length-remove c.loop-k.left.items 0 lt);
      callers = subst (AtIndex (λ j e. IsCallerOf b x j e.pass)) (sym is) (index_push (λ j e. IsCallerOf b x j e.pass) ds d i.callers (subst (λ (j : ℕ). IsCallerOf b x j d.pass) (sym i.many) c.desk_of-desk.ensures.caller));
    }
