-- Declarations entered one after the other.
use Rattle.std.proofs.Common.{◌≡◌, ℕ, ◌+◌, ◌<◌, List, [], ◌∷◌, ◌++◌, length, get_or, drop, drop-cons, add-one, Option, refl, sym, ap, subst, ◌∙◌, append_assoc, append-nil}
use Rattle.loft_tree.specs.declared.program.Item.{Item}
use Rattle.loft_tree.specs.Source.{ModuleHead, Named}
use Rattle.loft_tree.specs.View.{declaration_of, source_of}
use Rattle.loft_scopes.specs.declared.error.NameError.{NameError}
use Rattle.loft_scopes.specs.Scopes.{Declared, DeclarationCounts, AModule, after, everywhere, kinds_of, module_declared, declared_by, declared_from, earlier, variables}
use Rattle.loft_scopes.specs.Faults.{again, twice_from}
use Rattle.loft_scopes.specs.FirstFault.{least_of}
use Rattle.loft_scopes.specs.Tables.{Declares}
use Rattle.loft_scopes.proofs.First.{least_of-append}

pub twice_from-append : (before ds es : List Declared) → twice_from before (ds ++ es) ≡ twice_from before ds ++ twice_from (before ++ ds) es
twice_from-append before [] es = ap (λ b. twice_from b es) (sym (append-nil before))
twice_from-append before (d ∷ ds) es =
    ap (λ fs. again d (earlier before d) ++ fs) (twice_from-append (before ++ d ∷ []) ds es ∙ ap (λ b. twice_from (before ++ d ∷ []) ds ++ twice_from b es) (append_assoc before (d ∷ []) ds))
    ∙ sym (append_assoc (again d (earlier before d)) (twice_from (before ++ d ∷ []) ds) (twice_from (before ++ d ∷ ds) es))

-- of all that is to be declared, the rest remains
pub record Remains (old now : List Declared) (first so_far : Option NameError) (all rest : List Declared) : Type 0 where
  pub table : now ++ rest ≡ old ++ all
  pub faults : least_of so_far (twice_from now rest) ≡ least_of first (twice_from old all)

-- all remains
pub begins : (old : List Declared) (first : Option NameError) (all rest : List Declared) → rest ≡ all → Remains old old first first all rest
begins old first all rest is = record { table = ap (λ ds. old ++ ds) is; faults = ap (λ ds. least_of first (twice_from old ds)) is }

-- some of what remains is declared
pub goes_on : (old now next : List Declared) (first so_far later : Option NameError) (all ds rest : List Declared)
    → Remains old now first so_far all (ds ++ rest) → Declares now next so_far later ds → Remains old next first later all rest
goes_on old now next first so_far later all ds rest r d = record {
  table = ap (λ t. t ++ rest) d.table ∙ append_assoc now ds rest ∙ r.table;
  faults =
      (λ i. least_of (d.faults i) (twice_from (d.table i) rest))
      ∙ sym (least_of-append so_far (twice_from now ds) (twice_from (now ++ ds) rest))
      ∙ ap (least_of so_far) (sym (twice_from-append now ds rest)) ∙ r.faults;
}

-- nothing remains
pub ends : (old now : List Declared) (first so_far : Option NameError) (all rest : List Declared) → rest ≡ [] → Remains old now first so_far all rest → Declares old now first so_far all
ends old now first so_far all rest none r = record {
  table = sym (append-nil now) ∙ ap (λ ds. now ++ ds) (sym none) ∙ r.table;
  faults = ap (λ ds. least_of so_far (twice_from now ds)) (sym none) ∙ r.faults;
}

-- one after the other
pub joined : (old now next : List Declared) (first so_far later : Option NameError) (ds es : List Declared)
    → Declares old now first so_far ds → Declares now next so_far later es → Declares old next first later (ds ++ es)
joined old now next first so_far later ds es d e = record {
  table = e.table ∙ ap (λ t. t ++ es) d.table ∙ append_assoc old ds es;
  faults =
      e.faults ∙ (λ i. least_of (d.faults i) (twice_from (d.table i) es))
      ∙ sym (least_of-append first (twice_from old ds) (twice_from (old ++ ds) es)) ∙ ap (least_of first) (sym (twice_from-append old ds es));
}

-- the next declaration of those that are left
pub next_item : (n : DeclarationCounts) (items : List Item) (i : ℕ) (item : Item) → i < length items → item ≡ get_or items i item
    → declared_from n (source_of (drop i items)) ≡ declared_by n (declaration_of item) ++ declared_from (after n (declaration_of item)) (source_of (drop (i + 1) items))
next_item n items i item lt is =
    let split : drop i items ≡ item ∷ drop (i + 1) items = drop-cons items i item lt ∙ rw (← is, add-one) refl in
    ap (λ xs. declared_from n (source_of xs)) split

-- a module, then its parameters, then its local variables
pub module_joined : (t₀ t₁ t₂ t₃ : List Declared) (f₀ f₁ f₂ f₃ : Option NameError) (d : Declared) (number first_local : ℕ) (head : ModuleHead) (parameters locals : List Named)
    → parameters ≡ head.parameters → d ≡ everywhere head.name (AModule (kinds_of parameters)) number → first_local ≡ length parameters
    → Declares t₀ t₁ f₀ f₁ (d ∷ []) → Declares t₁ t₂ f₁ f₂ (variables number 0 parameters) → Declares t₂ t₃ f₂ f₃ (variables number first_local locals)
    → Declares t₀ t₃ f₀ f₃ (module_declared number head locals)
module_joined t₀ t₁ t₂ t₃ f₀ f₁ f₂ f₃ d number first_local head parameters locals same is many first second third =
    subst (λ (ps : List Named). Declares t₀ t₃ f₀ f₃ (everywhere head.name (AModule (kinds_of ps)) number ∷ (variables number 0 ps ++ variables number (length ps) locals))) same
    (joined t₀ t₁ t₃ f₀ f₁ f₃ (everywhere head.name (AModule (kinds_of parameters)) number ∷ []) (variables number 0 parameters ++ variables number (length parameters) locals)
    (subst (λ (e : Declared). Declares t₀ t₁ f₀ f₁ (e ∷ [])) is first)
    (joined t₁ t₂ t₃ f₁ f₂ f₃ (variables number 0 parameters) (variables number (length parameters) locals) second (subst (λ (n : ℕ). Declares t₂ t₃ f₂ f₃ (variables number n locals)) many third)))
