use Rattle.std.proofs.Common.{sym, subst}
use Rattle.loft_compared.specs.Walks.{left_of}
use Rattle.loft_compared.specs.Comparisons.{Compared, IsComparison, WasPut, compared}
use Rattle.loft_compared.specs.declared.found.Found.{Found}
use Rattle.loft_compared.proofs.Comparing.{differs}
use Rattle.loft_compared.proofs.comparison.Comparison.finish.Goals as goal

pub returns-in-Other : goal.returns-in-Other
returns-in-Other g c = λ t put.
    let text = g.X.KnownText.text in
    let k = c.self.inside.equal in
    let left = left_of c.self.inside.rest in
    differs text t k c.in-Other.field-0 left (subst (λ (f : Found). IsComparison text k left f) c.in-Other.is c.self.invariant)
    (subst (λ (f : Found). WasPut t (compared text k f)) c.in-Other.is (subst (λ (v : Compared). WasPut t v) (sym c.self.view_is) put))
