use Rattle.std.proofs.Common.{rules, ◌≡◌, ◌++◌, [], ◌∷◌, None, List, Option, sym, ap, ◌∙◌, option_map}
use Rattle.std.proofs.lemmas.List.{map-append}
use Rattle.loft_waits.specs.declared.entry.Entry.{Entry}
use Rattle.loft_waits.specs.Aged.{waits_of, wait_now, count_alone}
use Rattle.loft_waits.proofs.AloneLemmas.{count_more}
use Rattle.loft_waits.proofs.plain.Plain.grow.Goals as goal

pub invariant_of-self-2 : goal.invariant_of-self-2
invariant_of-self-2 c =
    let w = c.self.inside in
    let pushed : c.push.new.self.items ≡ w.slots.items ++ None ∷ [] = search rules in
    record {
      before = search rules;
      alone_is =
          c.self.invariant.alone_is
          ∙ sym (count_more (waits_of w.clock w.slots.items))
          ∙ ap count_alone (sym (map-append (option_map (wait_now w.clock)) w.slots.items (None ∷ [])))
          ∙ ap (λ (l : List (Option Entry)). count_alone (waits_of w.clock l)) (sym pushed);
    }
