use Rattle.std.proofs.Common.{◌≡◌, ◌+◌, ℕ, List, [], ◌∷◌, ◌++◌, length, length-append, sym, ap, subst, ◌∙◌, arith}
use Rattle.loft_tree.specs.ProgramView.{program_of}
use Rattle.loft_budget.specs.declared.verdict.Verdict.{Verdict}
use Rattle.loft_budget.specs.Verdicts.{IsVerdict, VerdictsFrom}
use Rattle.loft_bound.proofs.Answered.{one_more}
use Rattle.loft_bound.proofs.verdicts.verdicts_of.Goals as goal

pub loop-number-preserved : goal.loop-number-preserved
loop-number-preserved c =
    let n = program_of c.args.p.now in
    let vs = c.loop-number.verdicts in
    let v = c.in_ok-module_verdict.field-0 in
    let long = c.loop-number.invariant.0 in
    let items : c.push.new.self ≡ vs ++ v ∷ [] = c.in_ok-push.ensures.ok in
    let here : c.loop-number.number ≡ 0 + length vs = omega (arith, long) in
    let more : VerdictsFrom n 0 (vs ++ v ∷ []) = one_more n 0 vs v c.loop-number.invariant.1 (subst (λ (k : ℕ). IsVerdict n (record { 0 = k }) v) here c.in_ok-module_verdict.ensures) in
    let longer : length (vs ++ v ∷ []) ≡ length vs + 1 = length-append vs (v ∷ []) in
    (ap (λ (l : List Verdict). length l) items ∙ longer ∙ ap (λ (k : ℕ). k + 1) long, subst (VerdictsFrom n 0) (sym items) more)
