-- The bounds of verdicts are kept.
use Rattle.std.proofs.Common.{◌≡◌, ℕ, zero, suc, ◌+◌, ◌<◌, ◌≤◌, List, [], ◌∷◌, length, Some, slice_get, sym, subst, arith}
use Rattle.std.specs.Prelude.{All}
use Rattle.loft_base.specs.declared.ids.ModuleId.{ModuleId}
use Rattle.loft_base.specs.declared.ids.SchedId.{SchedId}
use Rattle.loft_base.specs.declared.ids.ThreadId.{ThreadId}
use Rattle.loft_tree.specs.NamedTree.{NamedProgram}
use Rattle.loft_tree.specs.NamedFits.{NamedFits}
use Rattle.loft_tree.specs.Resolved.{Resolved, resolved_of}
use Rattle.loft_base.specs.declared.options.Limits.{Limits}
use Rattle.loft_orders.specs.declared.order.Order.{Order}
use Rattle.loft_orders.specs.declared.order.Order.TheVariants as order
use Rattle.loft_orders.specs.declared.order.Sent.{Sent}
use Rattle.loft_history.specs.History.{starts_of}
use Rattle.loft_history.specs.History.{sent_in}
use Rattle.loft_soundness.proofs.ListLemmas.{each_map, all_of, each_of}
use Rattle.loft_soundness.proofs.NumberLemmas.{is_numbered}
use Rattle.loft_budget.specs.Bounds.{HasBound, MakesBounded}
use Rattle.loft_budget.specs.declared.verdict.Verdict.{Verdict}
use Rattle.loft_budget.specs.declared.verdict.Verdict.TheVariants.{Bound}
use Rattle.loft_budget.specs.Verdicts.{IsVerdict, VerdictsFrom, AreVerdicts}
use Rattle.loft_bound.specs.Kept.{MakesWith, KeepsBound, KeepBounds}
use Rattle.loft_budget.proofs.Verdicts.{bound_both}
use Rattle.loft_budget.proofs.OverLemmas.{sents_spared, notes_spared}

with_bound : (p : Resolved) (limits : Limits) (m : ModuleId) (b : ℕ) (t : ThreadId) → HasBound p m b → b ≤ limits.budget → b ≤ limits.block → (order : Order) → MakesWith m t order → MakesBounded p limits t order
with_bound p limits m b t has f g (order.Create u q args) h = λ e. (b, subst (λ (o : ModuleId). HasBound p o b) (sym (h e)) has, f, g)
with_bound p limits m b t has f g (order.Arrive u) h = tt
with_bound p limits m b t has f g (order.Stop u) h = tt
with_bound p limits m b t has f g (order.Suspend u) h = tt
with_bound p limits m b t has f g (order.Resume u) h = tt
with_bound p limits m b t has f g (order.Broadcast event value) h = tt
with_bound p limits m b t has f g (order.Ended u end) h = tt

keeps_bound : (n : NamedProgram) → NamedFits n → (m : ModuleId) (b : ℕ) → HasBound (resolved_of n) m b → KeepsBound (resolved_of n) m b
keeps_bound n fits m b has o es legal f g t starts sents =
    let p = resolved_of n in
    let bounded : (order : Order) → MakesWith m t order → MakesBounded p o.limits t order = with_bound p o.limits m b t has f g in
    let first : (s : SchedId) → All (MakesBounded p o.limits t) (starts_of p.heads s) = λ s.
    all_of (MakesBounded p o.limits t) (starts_of p.heads s) (each_map (MakesWith m t) (MakesBounded p o.limits t) (starts_of p.heads s) bounded (each_of (MakesWith m t) (starts_of p.heads s) (starts s))) in
    let later : All (λ (sent : Sent). MakesBounded p o.limits t sent.order) (sent_in es) =
    all_of (λ (sent : Sent). MakesBounded p o.limits t sent.order) (sent_in es)
    (each_map (λ (sent : Sent). MakesWith m t sent.order) (λ (sent : Sent). MakesBounded p o.limits t sent.order) (sent_in es) (λ sent. bounded sent.order) (each_of (λ (sent : Sent). MakesWith m t sent.order) (sent_in es) sents)) in
    (sents_spared p (is_numbered n fits) o es legal t first later, notes_spared p (is_numbered n fits) o es legal t first later)

verdict_at : (n : NamedProgram) (i : ℕ) (vs : List Verdict) (k : ℕ) (v : Verdict) → VerdictsFrom n i vs → slice_get vs k ≡ Some v → IsVerdict n (record { 0 = i + k }) v × (k < length vs)
verdict_at n i [] k v f e = absurd cc
verdict_at n i (u ∷ vs) zero v f e =
    let same : u ≡ v = cc in
    let here : i ≡ i + 0 = omega arith in
    (subst (λ (j : ℕ). IsVerdict n (record { 0 = j }) v) here (subst (IsVerdict n (record { 0 = i })) same f.0), omega arith)
verdict_at n i (u ∷ vs) (suc k) v f e =
    let rest = verdict_at n (i + 1) vs k v f.1 e in
    let less = rest.1 in
    let same : i + 1 + k ≡ i + suc k = omega arith in
    (subst (λ (j : ℕ). IsVerdict n (record { 0 = j }) v) same rest.0, omega (arith, less))

pub keep_bounds : (n : NamedProgram) → NamedFits n → (vs : List Verdict) → AreVerdicts n vs → KeepBounds (resolved_of n) vs
keep_bounds n fits vs are m b at =
    let one = verdict_at n 0 vs m.0 (Bound b) are.1 at in
    let less = one.1 in
    let long = are.0 in
    let there : m.0 < length n.modules = omega (arith, less, long) in
    let same : 0 + m.0 ≡ m.0 = omega arith in
    let verdict : IsVerdict n m (Bound b) = subst (λ (j : ℕ). IsVerdict n (record { 0 = j }) (Bound b)) same one.0 in
    keeps_bound n fits m b ((bound_both n m b there).0 verdict)
