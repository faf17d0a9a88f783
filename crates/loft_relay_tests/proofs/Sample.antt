-- What the small program of the tests declares keeps the limits of a listing.
use Rattle.std.proofs.Common.{◌≡◌, ◌⊎◌, inl, inr, ℕ, zero, suc, List, [], ◌∷◌, Some, slice_get, refl, sym, ap, subst, ◌∙◌, arith}
use Rattle.std.specs.Option.{option_map}
use Rattle.loft_lex.specs.Word.{word_of}
use Rattle.loft_tree.specs.declared.heads.EventHead.{EventHead}
use Rattle.loft_tree.specs.declared.heads.HeadItem.{HeadItem}
use Rattle.loft_tree.specs.declared.heads.HeadItem.TheVariants as item
use Rattle.loft_tree.specs.declared.heads.Heads.{Heads}
use Rattle.loft_tree.specs.NamedFits.{IsName, IsNamed, NamesDiffer}
use Rattle.loft_code.specs.Operations.{Automata}
use Rattle.loft_code.specs.Fits.{HeadsKeep, RawFits}

-- `event e in A`
abbrev event_head : EventHead
event_head = record { name = 101 ∷ []; scheduler = record { 0 = 0 } }

abbrev sample_heads : Heads
sample_heads = record { schedulers = (65 ∷ []) ∷ []; events = event_head ∷ []; shared = []; modules = []; starts = []; clients = []; items = item.Scheduler (record { 0 = 0 }) ∷ item.Event (record { 0 = 0 }) ∷ [] }

scheduler_named : (k : ℕ) (name : List ℕ) → slice_get ((65 ∷ []) ∷ []) k ≡ Some name → (k ≡ 0) × (name ≡ 65 ∷ [])
scheduler_named zero name named = (refl, cc)
scheduler_named (suc k) name named = absurd cc

event_named : (k : ℕ) (name : List ℕ) → option_map (λ (x : EventHead). x.name) (slice_get (event_head ∷ []) k) ≡ Some name → (k ≡ 0) × (name ≡ 101 ∷ [])
event_named zero name named = (refl, cc)
event_named (suc k) name named = absurd cc

-- the declarations that have this name
abbrev Which : HeadItem → List ℕ → Type 0
Which a name = ((a ≡ item.Scheduler (record { 0 = 0 })) × (name ≡ 65 ∷ [])) ⊎ ((a ≡ item.Event (record { 0 = 0 })) × (name ≡ 101 ∷ []))

which : (a : HeadItem) (name : List ℕ) → IsNamed sample_heads a name → Which a name
which (item.Scheduler s) name named = inl (ap (λ k. item.Scheduler (record { 0 = k })) (scheduler_named s.0 name named).0, (scheduler_named s.0 name named).1)
which (item.Event e) name named = inr (ap (λ k. item.Event (record { 0 = k })) (event_named e.0 name named).0, (event_named e.0 name named).1)
which (item.Shared x) name named = absurd cc
which (item.Module m) name named = absurd cc
which (item.Start t) name named = absurd cc
which (item.Client c) name named = absurd cc

-- the first letter of a name
abbrev first_of : List ℕ → ℕ
first_of [] = 0
first_of (k ∷ ks) = k

names_are_two : (name : List ℕ) → name ≡ 65 ∷ [] → name ≡ 101 ∷ [] → ⊥
names_are_two name one other = let same : 65 ≡ 101 = ap first_of (sym one ∙ other) in omega (arith, same)

one_each : (a b : HeadItem) (name : List ℕ) → Which a name → Which b name → a ≡ b
one_each a b name (inl (p, n)) (inl (q, m)) = p ∙ sym q
one_each a b name (inl (p, n)) (inr (q, m)) = absurd (names_are_two name n m)
one_each a b name (inr (p, n)) (inl (q, m)) = absurd (names_are_two name m n)
one_each a b name (inr (p, n)) (inr (q, m)) = p ∙ sym q

names_differ : NamesDiffer sample_heads
names_differ = record {
  declarations = λ a b name one other. one_each a b name (which a name one) (which b name other);
  slots = tt;
}

is_name_a : IsName (65 ∷ [])
unfolding word_of
is_name_a = refl

is_name_e : IsName (101 ∷ [])
unfolding word_of
is_name_e = refl

heads_keep : HeadsKeep sample_heads
heads_keep = record {
  within = record {
    schedulers = (is_name_a, tt);
    few_schedulers = omega arith;
    events = (record { name = is_name_e; scheduler = omega arith }, tt);
    few_events = omega arith;
    shared = tt;
    few_shared = omega arith;
    modules = tt;
    few_modules = omega arith;
    starts = tt;
    few_starts = omega arith;
    clients = tt;
    few_clients = omega arith;
    items = (refl, (refl, refl));
  };
  names = names_differ;
  starts_fit = tt;
  clients_fit = tt;
}

pub sample_fits : (c : Automata) → c.heads ≡ sample_heads → c.modules ≡ [] → RawFits c
sample_fits c heads modules =
    subst (λ h. RawFits (record { heads = h; modules = c.modules })) (sym heads)
    (subst (λ ms. RawFits (record { heads = sample_heads; modules = ms })) (sym modules)
    (record { heads = heads_keep; all_modules = refl; each = tt }))
