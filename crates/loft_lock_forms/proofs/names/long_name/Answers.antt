use Rattle.std.proofs.Common.{◌∙◌, sym, ap, ℕ, List, Option, Some}
use Rattle.loft_lex.specs.Symbol.{Symbol}
use Rattle.loft_lock_forms.specs.Rewriting.{LockForm}
use Rattle.loft_lock_forms.specs.Seen.{is_long}
use Rattle.loft_lock_forms.proofs.NameLemmas.{first_long, long_is, long_first, long_end}
use Rattle.loft_lock_forms.proofs.names.long_name.Goals as goal

pub returns-then-is_long : goal.returns-then-is_long
returns-then-is_long c text ts e =
    let found = ap (λ (p : ℕ × Option LockForm). is_long p.1) (sym c.next-left.ensures) ∙ (sym c.is_long.ensures ∙ c.if-is_long.true) in
    ap (λ (n : ℕ). Some n) c.second_place.ensures
    ∙ (sym (long_first c.loop-rest.skip c.loop-rest.rest.now c.in-len1-up.len_at_least found)
    ∙ (c.loop-rest.invariant ∙ (ap (λ (ss : List Symbol). first_long 0 ss) e ∙ long_is text 0 ts)))

pub returns : goal.returns
returns c text ts e =
    sym (long_end c.loop-rest.skip c.loop-rest.rest.now c.in_default.len_below)
    ∙ (c.loop-rest.invariant ∙ (ap (λ (ss : List Symbol). first_long 0 ss) e ∙ long_is text 0 ts))
