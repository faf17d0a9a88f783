use Rattle.std.proofs.Common.{refl, []}
use Rattle.loft_listing_line.proofs.Without.{decimal_without}
use Rattle.loft_listing_line.proofs.cut.number_at_end.Goals as goal

pub returns-in_err-digits-clause-found : goal.returns-in_err-digits-clause-found
returns-in_err-digits-clause-found c n before small cut =
    let rest = c.in_ok-rest.ensures before _ cut in
    absurd (c.in_err-digits.ensures _ [] (record { whole = rest.1; first = decimal_without 10 n small refl }))

pub returns-clause-found : goal.returns-clause-found
returns-clause-found c n before small cut =
    let rest = c.in_ok-rest.ensures before _ cut in
    let digits = c.in_ok-digits.ensures _ [] (record { whole = rest.1; first = decimal_without 10 n small refl }) in
    c.number_in.ensures.found n small digits.0
