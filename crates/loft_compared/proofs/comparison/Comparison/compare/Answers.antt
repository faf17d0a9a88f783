use Rattle.std.proofs.Common.{◌≡◌, ◌∙◌, ◌∷◌, [], ℕ, Option, false, sym, ap, subst}
use Rattle.std.specs.Prelude.{MatchOption}
use Rattle.loft_compared.specs.Walks.{left_of}
use Rattle.loft_compared.specs.Comparisons.{Compared, compared, is_stop, IsComparison, IsOneMore}
use Rattle.loft_compared.proofs.Comparing.{goes_on}
use Rattle.loft_compared.proofs.comparison.Comparison.compare.Goals as goal

pub invariant_of-self-in-Some : goal.invariant_of-self-in-Some
invariant_of-self-in-Some g c =
    let text = g.X.KnownText.text in
    let k = c.self.inside.equal in
    let b = c.args.b in
    let f = c.self.inside.found in
    let left = left_of c.self.inside.rest in
    let more = left_of c.next.new.self in
    let on : is_stop f ≡ false = ap (λ (v : Compared). v.stopped) c.self.view_is ∙ c.requires in
    let own : left ≡ c.in-Ok-Some.own ∷ more = subst (λ (o : Option ℕ). MatchOption o (left ≡ []) (λ byte. left ≡ byte ∷ more)) c.in-Ok-Some.field-0-is c.in-Ok-Some.ensures in
    let next : left ≡ b ∷ more = own ∙ ap (λ (n : ℕ). n ∷ more) c.if-own-b.false in
    subst (λ (n : ℕ). IsComparison text n more f) (sym c.in-Some.ensures.1) (goes_on text k b left more f on c.self.invariant next).0

pub returns-in-Some : goal.returns-in-Some
returns-in-Some g c =
    let text = g.X.KnownText.text in
    let k = c.self.inside.equal in
    let b = c.args.b in
    let f = c.self.inside.found in
    let left = left_of c.self.inside.rest in
    let more = left_of c.next.new.self in
    let on : is_stop f ≡ false = ap (λ (v : Compared). v.stopped) c.self.view_is ∙ c.requires in
    let own : left ≡ c.in-Ok-Some.own ∷ more = subst (λ (o : Option ℕ). MatchOption o (left ≡ []) (λ byte. left ≡ byte ∷ more)) c.in-Ok-Some.field-0-is c.in-Ok-Some.ensures in
    let next : left ≡ b ∷ more = own ∙ ap (λ (n : ℕ). n ∷ more) c.if-own-b.false in
    let one : IsOneMore (compared text k f).written b (compared text c.in-Some.equal f) =
    subst (λ (n : ℕ). IsOneMore (compared text k f).written b (compared text n f)) (sym c.in-Some.ensures.1) (goes_on text k b left more f on c.self.invariant next).1 in
    subst (λ (v : Compared). IsOneMore v.written b (compared text c.in-Some.equal f)) c.self.view_is one
