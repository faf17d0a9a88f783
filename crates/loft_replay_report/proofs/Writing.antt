-- What was put into a comparison by a writer.
use Rattle.std.proofs.Common.{◌≡◌, ℕ, ◌<◌, Bool, true, false, List, [], ◌++◌, Some, Result, Ok, Err, inl, inr, refl, ap, subst, ◌∙◌, arith}
use Rattle.std.specs.Prelude.{take, OnOk, OnErr, IsErrOf}
use Rattle.loft_base.specs.Outside.{Rose, appended, GrowsByPrefix}
use Rattle.loft_base.specs.declared.writing.WriteError.{WriteError}
use Rattle.loft_base.specs.declared.writing.WriteError.TheVariants as write
use Rattle.loft_compared.specs.Comparisons.{Compared, faults_of, WasPut}

has_stopped : (stopped : Bool) → Rose 0 (faults_of stopped) → stopped ≡ true
has_stopped true rose = refl
has_stopped false rose = absurd (let f : 0 < 0 = rose (omega arith) in omega (arith, f))

-- all of a text was put, or a prefix with which the comparison has stopped, where memory was enough
pub was_put : (old new : Compared) (t : List ℕ) (result : Result (Unit {0}) WriteError) → old.written ≡ [] → old.stopped ≡ false
    → (result ≡ Err write.NoMemory → ⊥)
    → OnOk result (Some new.written ≡ appended (Some old.written) t)
    → OnErr result (GrowsByPrefix (Some old.written) (Some new.written) t)
    → (IsErrOf result write.Sink → Rose (faults_of old.stopped) (faults_of new.stopped))
    → WasPut t new
was_put old new t (Ok u) none fresh memory ok failed rose =
    inl (let e : Some new.written ≡ Some ([] ++ t) = ok ∙ ap (λ (w : List ℕ). Some (w ++ t)) none in cc)
was_put old new t (Err write.Sink) none fresh memory ok (n, failed) rose =
    inr (
      has_stopped new.stopped (subst (λ (b : Bool). Rose (faults_of b) (faults_of new.stopped)) fresh (rose refl)),
      n,
      (let e : Some new.written ≡ Some ([] ++ take n t) = failed ∙ ap (λ (w : List ℕ). Some (w ++ take n t)) none in cc),
    )
was_put old new t (Err write.NoMemory) none fresh memory ok failed rose = absurd (memory refl)
