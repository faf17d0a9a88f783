-- The plan of the coming puts, where one of them is planned to fail.
use Rattle.std.proofs.Common.{◌≡◌, ℕ, ◌+◌, ◌-◌, ◌<◌, ◌≤◌, List, [], ◌++◌, length, drop, replicate, slice_set, Option, Some, None, ltb, true, false, arith, ap, sym, refl, ◌∙◌, length-drop}
use Rattle.std.proofs.Math.Seq.{drop-append-add}
use Rattle.std.proofs.lemmas.List.{drop-append-le, drop-set-add, drop-replicate, drop_all}
use Rattle.std.proofs.lemmas.Bool.Decides.{nat_tests}
use Rattle.loft_base.specs.MemSink.{reaching, planned_at}

-- the plan reaches as far, the plan of the puts that were made left out
drop-reaching_short : (plan : List (Option ℕ)) (made index : ℕ) → length plan ≤ made → drop made (plan ++ replicate (made + index + 1 - length plan) None) ≡ reaching (drop made plan) (index + 1)
drop-reaching_short plan made index short =
    let gone : drop made plan ≡ [] = drop_all made plan short in
    let at : made ≡ length plan + (made - length plan) = omega arith in
    let count : made + index + 1 - length plan - (made - length plan) ≡ index + 1 - 0 = omega arith in
    ap (λ n. drop n (plan ++ replicate (made + index + 1 - length plan) None)) at
    ∙ drop-append-add plan (replicate (made + index + 1 - length plan) None) (made - length plan)
    ∙ drop-replicate (made - length plan) (made + index + 1 - length plan) None
    ∙ ap (λ n. replicate n None) count
    ∙ sym (ap (λ l. reaching l (index + 1)) gone)

drop-reaching_long : (plan : List (Option ℕ)) (made index : ℕ) → made ≤ length plan → drop made (plan ++ replicate (made + index + 1 - length plan) None) ≡ reaching (drop made plan) (index + 1)
drop-reaching_long plan made index long =
    let count : made + index + 1 - length plan ≡ index + 1 - length (drop made plan) = omega (arith, length-drop made plan) in
    drop-append-le made plan (replicate (made + index + 1 - length plan) None) long
    ∙ ap (λ n. drop made plan ++ replicate n None) count

drop-reaching : (plan : List (Option ℕ)) (made index : ℕ) → drop made (plan ++ replicate (made + index + 1 - length plan) None) ≡ reaching (drop made plan) (index + 1)
drop-reaching plan made index =
    elim (ltb made (length plan)) as (λ b. ltb made (length plan) ≡ b → drop made (plan ++ replicate (made + index + 1 - length plan) None) ≡ reaching (drop made plan) (index + 1))
    [ true ↦ λ e. drop-reaching_long plan made index (grind (arith, nat_tests)) | false ↦ λ e. drop-reaching_short plan made index (grind (arith, nat_tests)) ] refl

drop-planned : (plan : List (Option ℕ)) (made index keep : ℕ) → drop made (slice_set (plan ++ replicate (made + index + 1 - length plan) None) (made + index) (Some keep)) ≡ planned_at (drop made plan) index keep
drop-planned plan made index keep =
    drop-set-add made (plan ++ replicate (made + index + 1 - length plan) None) index (Some keep)
    ∙ ap (λ l. slice_set l index (Some keep)) (drop-reaching plan made index)

-- the put of a number is planned to fail: after those that were made it has this index
pub planned_number : (plan : List (Option ℕ)) (made call index keep : ℕ) → made < call → call ≡ made + index + 1
    → drop made (slice_set (plan ++ replicate (call - length plan) None) (call - 1) (Some keep)) ≡ planned_at (drop made plan) index keep
planned_number plan made call index keep past is =
    let at : call - 1 ≡ made + index = omega arith in
    ap (λ n. drop made (slice_set (plan ++ replicate (n - length plan) None) (call - 1) (Some keep))) is
    ∙ ap (λ n. drop made (slice_set (plan ++ replicate (made + index + 1 - length plan) None) n (Some keep))) at
    ∙ drop-planned plan made index keep
