use Rattle.std.proofs.Common.{[], ◌∷◌, ◌++◌, IsTrue, rules, sym, ap, ◌∙◌, append-nil}
use Rattle.std.proofs.lemmas.List.Elements.{All-push}
use Rattle.loft_baton.specs.PassValue.{PassValue}
use Rattle.loft_relay.specs.declared.many.Hand.{Hand}
use Rattle.loft_relay.specs.Hands.{owns_in}
use Rattle.loft_relay.proofs.HandLemmas.{owns_in-append}
use Rattle.loft_relay.proofs.many.join_all.Goals as goal

pub loop-hand-preserved : goal.loop-hand-preserved
loop-hand-preserved c =
    let j = c.join-main.ensures in
    let i = c.loop-hand.invariant in
    let h : Hand = c.in-Some.hand in
    record {
      whole = record { baton = ap (λ (t : PassValue). t.baton) j; idle = search rules; gives = search rules; given = search rules };
      own = ap (λ (t : PassValue). t.knows.own) j ∙ ap (λ l. l ++ h.pass.knows.own) i.own ∙ ap (λ l. owns_in c.loop-hand.yielded ++ l) (sym (append-nil h.pass.knows.own)) ∙ sym (owns_in-append c.loop-hand.yielded (h ∷ []));
      done = All-push (λ h. IsTrue h.done) c.loop-hand.yielded h i.done (search rules);
    }
