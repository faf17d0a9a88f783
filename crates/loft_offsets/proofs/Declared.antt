-- What a program declares, without the offsets of its names.
use Rattle.std.proofs.Common.{◌≡◌, ℕ, ◌+◌, Bool, true, false, cond, ◌&&◌, ◌||◌, List, [], ◌∷◌, ◌++◌, map, length, Option, Some, None, option_map, refl, sym, ap, ◌∙◌}
use Rattle.std.specs.List.{find, list_any}
use Rattle.std.proofs.lemmas.List.{map-append, length-map}
use Rattle.loft_tree.specs.declared.kinds.Kind.{Kind}
use Rattle.loft_tree.specs.Source.{Ident, Named, ModuleHead, Declaration, Scheduler, Event, Shared, Module, Start, Outside, Source}
use Rattle.loft_show.specs.Places.{bare_name, bare_named, bare_head, bare_declaration, without_places}
use Rattle.loft_scopes.specs.declared.scope.Scope.{Scope}
use Rattle.loft_scopes.specs.declared.scope.Scope.TheVariants.{Within}
use Rattle.loft_scopes.specs.declared.counts.DeclarationCounts.{DeclarationCounts}
use Rattle.loft_scopes.specs.Scopes.{AModule, AVariable, Declared, after, declared_by, declared_from, earlier, everywhere, is_seen, kinds_of, meaning, module_declared, same_name, seen_together, start_name, variables}
use Rattle.loft_scopes.specs.Faults.{declares_scheduler}
use Rattle.loft_scopes.specs.Modules.{next_module}

abbrev pub bare_declared : Declared → Declared
bare_declared d = record { name = bare_name d.name; scope = d.scope; sort = d.sort; number = d.number }

abbrev pub bares : List Declared → List Declared
bares ds = map bare_declared ds

-- ---- what declarations declare

kinds_bare : (vs : List Named) → kinds_of (map bare_named vs) ≡ kinds_of vs
kinds_bare [] = refl
kinds_bare (v ∷ vs) = ap (λ (ks : List Kind). v.kind ∷ ks) (kinds_bare vs)

variables_bare : (m number : ℕ) (vs : List Named) → variables m number (map bare_named vs) ≡ bares (variables m number vs)
variables_bare m number [] = refl
variables_bare m number (v ∷ vs) =
    ap (λ (ds : List Declared). record { name = bare_name v.name; scope = Within m; sort = AVariable v.kind; number = number } ∷ ds) (variables_bare m (number + 1) vs)

locals_bare : (m : ℕ) (ps locals : List Named) → variables m (length (map bare_named ps)) (map bare_named locals) ≡ bares (variables m (length ps) locals)
locals_bare m ps locals = ap (λ (k : ℕ). variables m k (map bare_named locals)) (length-map ps bare_named) ∙ variables_bare m (length ps) locals

module_bare : (m : ℕ) (head : ModuleHead) (locals : List Named) → module_declared m (bare_head head) (map bare_named locals) ≡ bares (module_declared m head locals)
module_bare m head locals =
    (λ i. everywhere (bare_name head.name) (AModule (kinds_bare head.parameters i)) m ∷ (variables_bare m 0 head.parameters i ++ locals_bare m head.parameters locals i))
    ∙ ap (λ (ds : List Declared). everywhere (bare_name head.name) (AModule (kinds_of head.parameters)) m ∷ ds)
    (sym (map-append bare_declared (variables m 0 head.parameters) (variables m (length head.parameters) locals)))

start_bare : (name : Option Ident) (n : ℕ) → start_name (option_map bare_name name) n ≡ bares (start_name name n)
start_bare None n = refl
start_bare (Some name) n = refl

by_bare : (n : DeclarationCounts) (d : Declaration) → declared_by n (bare_declaration d) ≡ bares (declared_by n d)
by_bare n (Scheduler name) = refl
by_bare n (Event name scheduler) = refl
by_bare n (Shared name scheduler value) = refl
by_bare n (Module head locals body) = module_bare n.modules head locals
by_bare n (Start scheduler called arguments name) = start_bare name n.starts
by_bare n (Outside name orders) = refl

pub after_bare : (n : DeclarationCounts) (d : Declaration) → after n (bare_declaration d) ≡ after n d
after_bare n (Scheduler name) = refl
after_bare n (Event name scheduler) = refl
after_bare n (Shared name scheduler value) = refl
after_bare n (Module head locals body) = refl
after_bare n (Start scheduler called arguments name) = refl
after_bare n (Outside name orders) = refl

pub next_bare : (n : ℕ) (d : Declaration) → next_module n (bare_declaration d) ≡ next_module n d
next_bare n (Scheduler name) = refl
next_bare n (Event name scheduler) = refl
next_bare n (Shared name scheduler value) = refl
next_bare n (Module head locals body) = refl
next_bare n (Start scheduler called arguments name) = refl
next_bare n (Outside name orders) = refl

pub declared_bare : (n : DeclarationCounts) (p : Source) → declared_from n (without_places p) ≡ bares (declared_from n p)
declared_bare n [] = refl
declared_bare n (d ∷ ds) =
    (λ i. by_bare n d i ++ declared_from (after_bare n d i) (without_places ds))
    ∙ ap (λ (es : List Declared). bares (declared_by n d) ++ es) (declared_bare (after n d) ds)
    ∙ sym (map-append bare_declared (declared_by n d) (declared_from (after n d) ds))

pub scheduler_bare : (ds : List Declared) → list_any declares_scheduler (bares ds) ≡ list_any declares_scheduler ds
scheduler_bare [] = refl
scheduler_bare (d ∷ ds) = ap (λ (b : Bool). declares_scheduler d || b) (scheduler_bare ds)

-- ---- what names mean

found_one : (c : Bool) (d : Declared) (o : Option Declared) → cond c (Some (bare_declared d)) (option_map bare_declared o) ≡ option_map bare_declared (cond c (Some d) o)
found_one true d o = refl
found_one false d o = refl

found : (test : Declared → Bool) (ds : List Declared) → find test (bares ds) ≡ option_map bare_declared (find (λ d. test (bare_declared d)) ds)
found test [] = refl
found test (d ∷ ds) =
    ap (λ (o : Option Declared). cond (test (bare_declared d)) (Some (bare_declared d)) o) (found test ds)
    ∙ found_one (test (bare_declared d)) d (find (λ x. test (bare_declared x)) ds)

pub meaning_bare : (ds : List Declared) (from : Scope) (name : Ident) → meaning (bares ds) from (bare_name name) ≡ option_map bare_declared (meaning ds from name)
meaning_bare ds from name = found (λ d. same_name (bare_name name) d && is_seen d.scope from) ds

pub earlier_bare : (before : List Declared) (d : Declared) → earlier (bares before) (bare_declared d) ≡ option_map bare_declared (earlier before d)
earlier_bare before d = found (λ other. same_name (bare_name d.name) other && seen_together d.scope other.scope) before
