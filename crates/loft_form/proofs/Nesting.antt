-- A rule that stands inside is read with one nesting fewer.
use Rattle.std.proofs.Common.{◌≡◌, ℕ, zero, suc, ◌-◌, ◌<◌, List, refl, arith}
use Rattle.loft_form.specs.Form.{Language, Grammar, Limits, State}
use Rattle.loft_form.specs.Reading.{read, rule_at}

pub inside_is : {L : Language} (G : Grammar L) (lim : Limits L) (n : ℕ) (r : L.Rule) (ss : List L.Symbol) (c : State L) → 0 < n → rule_at G lim n r ss c ≡ read G lim (n - 1) (G r) ss c
unfolding rule_at
inside_is G lim zero r ss c h = absurd (omega arith)
inside_is G lim (suc n) r ss c h = let e : suc n - 1 ≡ n = omega arith in rw e refl
