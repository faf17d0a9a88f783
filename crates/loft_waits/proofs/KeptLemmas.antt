-- What keeps the flags and the lists right.
use Rattle.std.proofs.Common.{◌≡◌, ℕ, zero, suc, ◌+◌, ◌<◌, ◌≤◌, Bool, false, List, [], ◌∷◌, set, refl, sym, ◌∙◌, ap, subst, arith, Option, None, length, get_or, get_or-set_same, get_or-set_other, length-set}
use Rattle.std.proofs.Common.{◌⊎◌, inl, inr}
use Rattle.std.specs.Prelude.{◌≢◌}
use mathlib.Core.Logic.{dite}
use native.Mathlib.Decide.{ℕ_discrete}
use Rattle.loft_waits.specs.declared.places.Places.{Places}
use Rattle.loft_orders.specs.declared.thread.Wait.{Wait}
use Rattle.loft_waits.specs.declared.key.Key.TheVariants.{Event, Value, End, Close}
use Rattle.loft_waits.specs.Told.{Told, wait_at, is_ready, ready_at}
use Rattle.loft_finder.specs.Keys.{id_key}
use Rattle.loft_waits.specs.Places.{IsListed, IsKept, KeepsOthers, SetsSome, flag}

pub beyond : {X : Type 0} (xs : List X) (d : X) (i : ℕ) → length xs ≤ i → get_or xs i d ≡ d
beyond [] d i h = refl
beyond (x ∷ xs) d zero h = absurd (omega arith)
beyond (x ∷ xs) d (suc i) h = beyond xs d i (omega arith)

pub ready_beyond : (t : Told) (i : ℕ) → length t.waits ≤ i → ready_at t i ≡ false
ready_beyond t i h = ap (is_ready t.counts t.ended) (beyond t.waits None i h)

listed_keeps : (old new : Places) (p clock i : ℕ) (w : Option Wait) → i ≢ p → KeepsOthers p old new → IsListed old clock i w → IsListed new clock i w
listed_keeps old new p clock i w apart keeps s = record {
  events = λ e h. keeps (Event e) i apart (s.events e h);
  values = λ e n h. keeps (Value e n) i apart (s.values e n h);
  ends = λ t h. keeps (End (id_key t)) i apart (s.ends t h);
  later = λ n h. keeps (Close (clock + suc n)) i apart (s.later n h);
}

-- nobody stands nowhere
pub listed_none : (places : Places) (clock i : ℕ) → IsListed places clock i None
listed_none places clock i = record { events = λ e h. absurd cc; values = λ e n h. absurd cc; ends = λ t h. absurd cc; later = λ n h. absurd cc }

-- a position has another wait, and another flag with it
pub kept_set : (t : Told) (ready : List ℕ) (old new : Places) (p : ℕ) (w : Option Wait) → IsKept t ready old → p < length t.waits → KeepsOthers p old new → IsListed new t.closes p w
    → IsKept (record t { waits = set t.waits p w }) (set ready p (flag (is_ready t.counts t.ended w))) new
kept_set t ready old new p w k lt keeps listed =
    let f : ℕ = flag (is_ready t.counts t.ended w) in
    let is : Option Wait → ℕ = λ v. flag (is_ready t.counts t.ended v) in
    record {
      few = k.few;
      many = let a = length-set t.waits p w in let b = length-set ready p f in omega (arith, a, b, k.many);
      flags = λ i.
          dite (ℕ_discrete i p)
          (λ same.
          subst (λ (j : ℕ). get_or (set ready p f) j 0 ≡ is (get_or (set t.waits p w) j None)) (sym same)
          (get_or-set_same ready p f 0 (omega (arith, lt, k.many)) ∙ sym (ap is (get_or-set_same t.waits p w None lt))))
          (λ apart. get_or-set_other ready p i f 0 apart ∙ k.flags i ∙ sym (ap is (get_or-set_other t.waits p i w None apart)));
      listed = λ i.
          dite (ℕ_discrete i p)
          (λ same.
          subst (λ (j : ℕ). IsListed new t.closes j (get_or (set t.waits p w) j None)) (sym same)
          (subst (IsListed new t.closes p) (sym (get_or-set_same t.waits p w None lt)) listed))
          (λ apart. subst (IsListed new t.closes i) (sym (get_or-set_other t.waits p i w None apart)) (listed_keeps old new p t.closes i (wait_at t i) apart keeps (k.listed i)));
    }

flag_now : {old new was is : ℕ} → (new ≡ is) ⊎ (new ≡ old) → old ≡ was → (is ≡ was) ⊎ (new ≡ is) → new ≡ is
flag_now (inl e) so changes = e
flag_now (inr stays) so (inl same) = stays ∙ so ∙ sym same
flag_now (inr stays) so (inr e) = e

flag_if : {a b : Bool} {P : Type 0} → (a ≡ b) ⊎ P → (flag a ≡ flag b) ⊎ P
flag_if (inl e) = inl (ap flag e)
flag_if (inr p) = inr p

-- each flag is set anew or stays, and it stays only where nothing changes
pub kept_woken : (t u : Told) (ready new : List ℕ) (places after : Places) → IsKept t ready places → length u.waits ≡ length t.waits → u.closes < 9223372036854775808 → length new ≡ length ready → SetsSome u ready new
    → ((i : ℕ) → (ready_at u i ≡ ready_at t i) ⊎ (get_or new i 0 ≡ flag (ready_at u i))) → ((i : ℕ) → IsListed after u.closes i (wait_at u i)) → IsKept u new after
kept_woken t u ready new places after k same few many some changes listed = record {
  few = few;
  many = let a = k.many in omega (arith, a, same, many);
  flags = λ i. flag_now (some i) (k.flags i) (flag_if (changes i));
  listed = listed;
}
