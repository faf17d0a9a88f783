-- The draft of code is a source within its limits, and without wrong names.
use Rattle.std.proofs.Common.{◌≡◌, ℕ, ◌+◌, ◌≤◌, suc, true, false, List, [], ◌∷◌, length, map, refl, sym, subst, ap, ◌∙◌, arith}
use Rattle.std.specs.List.{count_by}
use Rattle.std.proofs.lemmas.List.{length-map}
use Rattle.std.proofs.lemmas.List.Sums.{sum_by-cons}
use Rattle.std.specs.Prelude.{Bool, cond}
use Rattle.loft_tree.specs.declared.limits.TheConstants.{MAX_SCHEDULERS, MAX_EVENTS, MAX_SHARED, MAX_MODULES, MAX_STARTS, MAX_CLIENTS}
use Rattle.loft_tree.specs.declared.heads.Heads.{Heads}
use Rattle.loft_tree.specs.Source.{Declaration, Source}
use Rattle.loft_tree.specs.Fits.{DeclarationFits, Each, SourceFits, is_event, is_module, is_outside, is_scheduler, is_shared, is_start}
use Rattle.loft_scopes.specs.Scopes.{Declared, declared, none_yet}
use Rattle.loft_scopes.specs.Faults.{faults, place_of}
use Rattle.loft_names.proofs.HeadsLists.{follows_all}
use Rattle.loft_names.proofs.HoldsPrograms.{twice_none, uses_none}
use Rattle.loft_names.proofs.HoldsValues.{none_both}
use Rattle.loft_code.specs.Fits.{HeadsKeep}
use Rattle.loft_listing_draft.specs.Drafts.{Draft, ItemHolds, source_of}
use Rattle.loft_listing_names.specs.Wrong as wrong
use Rattle.loft_listing_names.specs.Wrong.{wrong_offsets}
use Rattle.loft_listing_roundtrip.proofs.Parts.{Part, SchedulerPart, EventPart, SharedPart, ModulePart, StartPart, ClientPart, schedulers_in, events_in, shared_in, modules_in, lines_in, starts_in, clients_in, heads_in}
use Rattle.loft_listing_roundtrip.proofs.Saying.{after_part, called_line, part_item, said}
use Rattle.loft_listing_roundtrip.proofs.HeadsSaid.{declared_in, each_has_head, head_is_declared}
use Rattle.loft_listing_roundtrip.proofs.OneMeaning.{Says}
use Rattle.loft_listing_roundtrip.proofs.Apart.{names_apart}
use Rattle.loft_listing_roundtrip.proofs.ModulesAgain.{AllPass, modules_right}
use Rattle.loft_listing_roundtrip.proofs.PartsHold.{PartKeeps}
use Rattle.loft_listing_roundtrip.proofs.UsesSaid.{uses_agree}
use Rattle.loft_listing_roundtrip.proofs.ThreadsPlaced.{heads_there, threads_placed}
use Rattle.loft_listing_roundtrip.proofs.DeclarationsFit.{declaration_fits}

-- ---- how many there are

module _ (h : Heads) where
  one_more : (test : Declaration → Bool) (at : ℕ) (p : Part) (ps : List Part) (n : ℕ) → test ((part_item h at p).declaration) ≡ true
      → count_by test (source_of (said h (after_part h at p) ps)) ≡ n → count_by test (source_of (said h at (p ∷ ps))) ≡ suc n
  one_more test at p ps n is same =
      let e : 1 + n ≡ suc n = omega arith in
      sum_by-cons (λ x. cond (test x) 1 0) ((part_item h at p).declaration) (source_of (said h (after_part h at p) ps)) ∙ (λ i. cond (is i) 1 0 + same i) ∙ e

  no_more : (test : Declaration → Bool) (at : ℕ) (p : Part) (ps : List Part) (n : ℕ) → test ((part_item h at p).declaration) ≡ false
      → count_by test (source_of (said h (after_part h at p) ps)) ≡ n → count_by test (source_of (said h at (p ∷ ps))) ≡ n
  no_more test at p ps n is same =
      let e : 0 + n ≡ n = omega arith in
      sum_by-cons (λ x. cond (test x) 1 0) ((part_item h at p).declaration) (source_of (said h (after_part h at p) ps)) ∙ (λ i. cond (is i) 1 0 + same i) ∙ e

  schedulers_counted : (at : ℕ) (ps : List Part) → count_by is_scheduler (source_of (said h at ps)) ≡ length (schedulers_in ps)
  schedulers_counted at [] = refl
  schedulers_counted at (SchedulerPart x ∷ ps) = one_more is_scheduler at (SchedulerPart x) ps _ refl (schedulers_counted (after_part h at (SchedulerPart x)) ps)
  schedulers_counted at (p ∷ ps) = no_more is_scheduler at p ps _ refl (schedulers_counted (after_part h at p) ps)

  events_counted : (at : ℕ) (ps : List Part) → count_by is_event (source_of (said h at ps)) ≡ length (events_in ps)
  events_counted at [] = refl
  events_counted at (EventPart x ∷ ps) = one_more is_event at (EventPart x) ps _ refl (events_counted (after_part h at (EventPart x)) ps)
  events_counted at (p ∷ ps) = no_more is_event at p ps _ refl (events_counted (after_part h at p) ps)

  shared_counted : (at : ℕ) (ps : List Part) → count_by is_shared (source_of (said h at ps)) ≡ length (shared_in ps)
  shared_counted at [] = refl
  shared_counted at (SharedPart x ∷ ps) = one_more is_shared at (SharedPart x) ps _ refl (shared_counted (after_part h at (SharedPart x)) ps)
  shared_counted at (p ∷ ps) = no_more is_shared at p ps _ refl (shared_counted (after_part h at p) ps)

  modules_counted : (at : ℕ) (ps : List Part) → count_by is_module (source_of (said h at ps)) ≡ length (modules_in ps)
  modules_counted at [] = refl
  modules_counted at (ModulePart x ls ∷ ps) = one_more is_module at (ModulePart x ls) ps _ refl (modules_counted (after_part h at (ModulePart x ls)) ps)
  modules_counted at (p ∷ ps) = no_more is_module at p ps _ refl (modules_counted (after_part h at p) ps)

  starts_counted : (at : ℕ) (ps : List Part) → count_by is_start (source_of (said h at ps)) ≡ length (starts_in ps)
  starts_counted at [] = refl
  starts_counted at (StartPart x ∷ ps) = one_more is_start at (StartPart x) ps _ refl (starts_counted (after_part h at (StartPart x)) ps)
  starts_counted at (p ∷ ps) = no_more is_start at p ps _ refl (starts_counted (after_part h at p) ps)

  clients_counted : (at : ℕ) (ps : List Part) → count_by is_outside (source_of (said h at ps)) ≡ length (clients_in ps)
  clients_counted at [] = refl
  clients_counted at (ClientPart x ∷ ps) = one_more is_outside at (ClientPart x) ps _ refl (clients_counted (after_part h at (ClientPart x)) ps)
  clients_counted at (p ∷ ps) = no_more is_outside at p ps _ refl (clients_counted (after_part h at p) ps)

  -- ---- limits

  each_fits : HeadsKeep h → (at : ℕ) (ps : List Part) → Each (PartKeeps h) ps → Each DeclarationFits (source_of (said h at ps))
  each_fits keeps at [] keep = tt
  each_fits keeps at (p ∷ ps) keep = (declaration_fits h keeps at p keep.0, each_fits keeps (after_part h at p) ps keep.1)

  pub items_hold : (at : ℕ) (ps : List Part) → Each (PartKeeps h) ps → Each ItemHolds (said h at ps)
  items_hold at [] keep = tt
  items_hold at (SchedulerPart x ∷ ps) keep = (refl, items_hold (after_part h at (SchedulerPart x)) ps keep.1)
  items_hold at (EventPart x ∷ ps) keep = (refl, items_hold (after_part h at (EventPart x)) ps keep.1)
  items_hold at (SharedPart x ∷ ps) keep = (refl, items_hold (after_part h at (SharedPart x)) ps keep.1)
  items_hold at (ModulePart x ls ∷ ps) keep = ((refl, (let many = length-map ls (called_line h x) in omega (arith, many, keep.0.1.few))), items_hold (after_part h at (ModulePart x ls)) ps keep.1)
  items_hold at (StartPart x ∷ ps) keep = (refl, items_hold (after_part h at (StartPart x)) ps keep.1)
  items_hold at (ClientPart x ∷ ps) keep = (refl, items_hold (after_part h at (ClientPart x)) ps keep.1)

pub source_fits : (at : ℕ) (ps : List Part) → HeadsKeep (heads_in ps) → Each (PartKeeps (heads_in ps)) ps → SourceFits (source_of (said (heads_in ps) at ps))
source_fits at ps keeps keep =
    let h : Heads = heads_in ps in
    record {
      each = each_fits h keeps at ps keep;
      schedulers = subst (λ (n : ℕ). n ≤ MAX_SCHEDULERS) (sym (schedulers_counted h at ps)) keeps.within.few_schedulers;
      events = subst (λ (n : ℕ). n ≤ MAX_EVENTS) (sym (events_counted h at ps)) keeps.within.few_events;
      shared = subst (λ (n : ℕ). n ≤ MAX_SHARED) (sym (shared_counted h at ps)) keeps.within.few_shared;
      modules = subst (λ (n : ℕ). n ≤ MAX_MODULES) (sym (modules_counted h at ps)) keeps.within.few_modules;
      starts = subst (λ (n : ℕ). n ≤ MAX_STARTS) (sym (starts_counted h at ps)) keeps.within.few_starts;
      clients = subst (λ (n : ℕ). n ≤ MAX_CLIENTS) (sym (clients_counted h at ps)) keeps.within.few_clients;
    }

-- ---- names

pub says : (at : ℕ) (ps : List Part) → HeadsKeep (heads_in ps) → Says (declared_in at ps) (heads_in ps)
says at ps keeps = record { differ = keeps.names; each = each_has_head at ps; there = head_is_declared at ps }

no_faults : (at : ℕ) (ps : List Part) → HeadsKeep (heads_in ps) → Each (PartKeeps (heads_in ps)) ps → faults (source_of (said (heads_in ps) at ps)) ≡ []
no_faults at ps keeps keep =
    let h : Heads = heads_in ps in
    let p : Source = source_of (said h at ps) in
    let ds : List Declared = declared p in
    none_both _ _ (twice_none [] ds (names_apart h keeps.names none_yet p (each_has_head at ps))) (uses_none ds 0 p (uses_agree ds h (says at ps keeps) 0 at ps keep))

pub none_wrong : (at : ℕ) (ps : List Part) → HeadsKeep (heads_in ps) → Each (PartKeeps (heads_in ps)) ps → AllPass (heads_in ps) (lines_in ps) → wrong_offsets (said (heads_in ps) at ps) ≡ []
none_wrong at ps keeps keep pass =
    let h : Heads = heads_in ps in
    let d : Draft = said h at ps in
    let p : Source = source_of d in
    let ds : List Declared = declared p in
    let say : Says ds h = says at ps keeps in
    none_both _ _ (ap (map place_of) (no_faults at ps keeps keep))
    (none_both _ _ (threads_placed ds h say (wrong.heads_in p) (λ k m is. heads_there h at ps k m is) at ps keep)
    (modules_right ds h say (lines_in ps) pass 0 at ps (follows_all h.modules) (follows_all (lines_in ps))))
