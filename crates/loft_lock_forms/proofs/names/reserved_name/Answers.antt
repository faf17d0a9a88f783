use Rattle.std.proofs.Common.{◌∙◌, ap, List}
use Rattle.loft_lex.specs.Symbol.{Symbol, What}
use Rattle.loft_lock_forms.specs.Rewriting.{all_say, forms}
use Rattle.loft_lock_forms.specs.Seen.{whats, locks_of, first_one}
use Rattle.loft_lock_forms.proofs.NameLemmas.{whats_say, one_is}
use Rattle.loft_lock_forms.proofs.names.reserved_name.Goals as goal

pub returns : goal.returns
returns c text ts e =
    c.first_written.ensures
    ∙ (ap (λ (ss : List Symbol). first_one c.as_slice.result.now ss) e
    ∙ one_is c.as_slice.result.now (forms 0 (all_say text ts))
    (rw c.as_slice.ensures.value (c.in_ok-locks.ensures ∙ (ap (λ (ss : List Symbol). locks_of (forms 0 (whats ss))) e ∙ ap (λ (xs : List What). locks_of (forms 0 xs)) (whats_say text ts))))
    text ts)
