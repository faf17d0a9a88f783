-- A small program whose names and sizes are those of a listing.
use Rattle.std.proofs.Common.{◌≡◌, ℕ, zero, suc, List, [], ◌∷◌, Some, slice_get, refl, sym, ap, subst, ◌∙◌, arith}
use Rattle.std.specs.Option.{option_map}
use Rattle.loft_lex.specs.Word.{word_of}
use Rattle.loft_tree.specs.declared.heads.Place.TheVariants.{Unlinked}
use Rattle.loft_tree.specs.declared.heads.Signature.{Signature}
use Rattle.loft_tree.specs.declared.heads.HeadItem.{HeadItem}
use Rattle.loft_tree.specs.declared.heads.HeadItem.TheVariants as item
use Rattle.loft_tree.specs.declared.heads.Heads.{Heads}
use Rattle.loft_tree.specs.NamedFits.{IsName, IsNamed, NamesDiffer}
use Rattle.loft_code.specs.Operations.{Line, Automata}
use Rattle.loft_code.specs.Fits.{HeadsKeep, LinesFit, RawFits}

-- `module m() in unlinked`
abbrev module_head : Signature
module_head = record { name = 109 ∷ []; parameters = []; locals = []; begin = Unlinked; end = Unlinked }

abbrev sample_heads : Heads
sample_heads = record { schedulers = []; events = []; shared = []; modules = module_head ∷ []; starts = []; clients = []; items = item.Module (record { 0 = 0 }) ∷ [] }

first_named : (k : ℕ) (name : List ℕ) → option_map (λ (x : Signature). x.name) (slice_get (module_head ∷ []) k) ≡ Some name → k ≡ 0
first_named zero name named = refl
first_named (suc k) name named = absurd cc

-- what has a name is the module
who_is_named : (a : HeadItem) (name : List ℕ) → IsNamed sample_heads a name → a ≡ item.Module (record { 0 = 0 })
who_is_named (item.Scheduler s) name named = absurd cc
who_is_named (item.Event e) name named = absurd cc
who_is_named (item.Shared x) name named = absurd cc
who_is_named (item.Module m) name named = ap (λ k. item.Module (record { 0 = k })) (first_named m.0 name named)
who_is_named (item.Start t) name named = absurd cc
who_is_named (item.Client c) name named = absurd cc

names_differ : NamesDiffer sample_heads
names_differ = record {
  declarations = λ a b name one other. who_is_named a name one ∙ sym (who_is_named b name other);
  slots = (record { each_other = λ i j name one other. absurd cc; others = λ i a name one other. absurd cc }, tt);
}

is_name_m : IsName (109 ∷ [])
unfolding word_of
is_name_m = refl

heads_keep : HeadsKeep sample_heads
heads_keep = record {
  within = record {
    schedulers = tt;
    few_schedulers = omega arith;
    events = tt;
    few_events = omega arith;
    shared = tt;
    few_shared = omega arith;
    modules = (record { name = is_name_m; parameters = tt; few_parameters = omega arith; locals = tt; few_locals = omega arith; begin = tt; end = tt }, tt);
    few_modules = omega arith;
    starts = tt;
    few_starts = omega arith;
    clients = tt;
    few_clients = omega arith;
    items = (refl, refl);
  };
  names = names_differ;
  starts_fit = tt;
  clients_fit = tt;
}

pub sample_fits : (c : Automata) (lines : List Line) → c.heads ≡ sample_heads → c.modules ≡ lines ∷ [] → LinesFit lines → RawFits c
sample_fits c lines heads modules fit =
    subst (λ h. RawFits (record { heads = h; modules = c.modules })) (sym heads)
    (subst (λ ms. RawFits (record { heads = sample_heads; modules = ms })) (sym modules)
    (record { heads = heads_keep; all_modules = refl; each = (fit, tt) }))
