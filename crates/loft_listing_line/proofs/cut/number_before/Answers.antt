use Rattle.std.proofs.Common.{refl}
use Rattle.loft_listing_line.proofs.Without.{decimal_without}
use Rattle.loft_listing_line.proofs.cut.number_before.Goals as goal

pub returns-in_err-digits-clause-found : goal.returns-in_err-digits-clause-found
returns-in_err-digits-clause-found c n after small same =
    absurd (c.in_err-digits.ensures _ after (record { whole = same; first = decimal_without 32 n small refl }))

pub returns-in_err-number_in-clause-found : goal.returns-in_err-number_in-clause-found
returns-in_err-number_in-clause-found c n after small same =
    let digits = c.in_ok-digits.ensures _ after (record { whole = same; first = decimal_without 32 n small refl }) in
    let found = c.number_in.ensures.found n small digits.0 in
    let none = c.in_err-number_in.was in
    absurd cc

pub returns-clause-found : goal.returns-clause-found
returns-clause-found c n after small same =
    let digits = c.in_ok-digits.ensures _ after (record { whole = same; first = decimal_without 32 n small refl }) in
    let found = c.number_in.ensures.found n small digits.0 in
    let some = c.in_ok-number_in.was in
    (cc, digits.1)
