-- What is known of a draft that is read.
use Rattle.std.proofs.Common.{◌≡◌, ℕ, List, [], ◌∷◌, ◌++◌, map, Option, Some, None, inl, inr, refl, ap, subst, ◌∙◌}
use Rattle.std.specs.Prelude.{IfSome}
use Rattle.std.specs.List.{flat_map}
use Rattle.loft_tree.specs.Source.{Source}
use Rattle.loft_tree.specs.declared.heads.Heads.{Heads}
use Rattle.loft_scopes.specs.Faults.{faults, place_of}
use Rattle.loft_scopes.specs.Scopes.{Declared, declared}
use Rattle.loft_numbers.specs.Numbers.{heads_of}
use Rattle.loft_code.specs.Operations.{Automata}
use Rattle.loft_code.specs.View.{code_of, lines_of}
use Rattle.loft_code.specs.declared.raw.ModuleCode.{ModuleCode}
use Rattle.loft_listing_draft.specs.declared.draft.Draft.{Draft as DraftInMemory}
use Rattle.loft_listing_draft.specs.Drafts.{Draft, IsListing, source_of}
use Rattle.loft_listing_draft.specs.InMemory.{IsInMemory}
use Rattle.loft_listing_draft.specs.Stops.{StopsAt}
use Rattle.loft_listing_names.specs.Wrong.{declaration_misplaced, heads_in, modules_wrong, wrong_offsets, IsLeast}
use Rattle.loft_listing_reader.specs.AllWrong.{all_wrong, IsLeastOf}
use Rattle.loft_listing_reader.specs.Lists.{OffsetFault}
use Rattle.loft_listing_reader.specs.Numbered.{modules_from, numbered}
use Rattle.loft_listing_reader.proofs.Leasts.{least_one, least_same, none_least}

-- the offset of a stop
abbrev pub stop_offsets : Option ℕ → List ℕ
stop_offsets None = []
stop_offsets (Some stop) = stop ∷ []

pub stop_least : (stop : Option ℕ) → IsLeastOf stop (stop_offsets stop)
stop_least None = refl
stop_least (Some stop) = least_one stop

-- what is wrong in a draft that declares this
abbrev pub wrong_by : List Declared → Source → Draft → List ℕ
wrong_by ds p d = map place_of (faults p) ++ (flat_map (declaration_misplaced ds (heads_in p)) p ++ modules_wrong ds 0 d)

least_of_all : (stop wrong : Option ℕ) (d : Draft) → IsLeastOf wrong (stop_offsets stop ++ wrong_offsets d) → IsLeastOf wrong (all_wrong stop d)
least_of_all None wrong d least = least
least_of_all (Some stop) wrong d least = least

module _ (ds : List Declared) (p : Source) (d : Draft) (table : ds ≡ declared p) (said : p ≡ source_of d) where
  abbrev table_is : ds ≡ declared (source_of d)
  table_is = table ∙ ap declared said

  pub known_least : (stop wrong : Option ℕ) → IsLeastOf wrong (stop_offsets stop ++ wrong_by ds p d) → IsLeastOf wrong (all_wrong stop d)
  known_least stop wrong least =
      least_of_all stop wrong d
      (subst (λ q. IsLeastOf wrong (stop_offsets stop ++ wrong_by (declared (source_of d)) q d)) said
      (subst (λ (xs : List Declared). IsLeastOf wrong (stop_offsets stop ++ wrong_by xs p d)) table_is least))

  pub code_known : (h : Heads) (ms : List ModuleCode) → h ≡ heads_of ds p → map lines_of ms ≡ modules_from ds 0 d → code_of h ms ≡ numbered d
  code_known h ms heads modules =
      let heads_are : h ≡ heads_of (declared (source_of d)) (source_of d) = heads ∙ ap (λ (xs : List Declared). heads_of xs p) table_is ∙ ap (heads_of (declared (source_of d))) said in
      let modules_are : map lines_of ms ≡ modules_from (declared (source_of d)) 0 d = modules ∙ ap (λ (xs : List Declared). modules_from xs 0 d) table_is in
      ap (λ v. let a : Automata = record { heads = v; modules = map lines_of ms } in a) heads_are
      ∙ ap (λ v. let a : Automata = record { heads = heads_of (declared (source_of d)) (source_of d); modules = v } in a) modules_are

-- ---- a text that is read

-- where nothing is at fault, it is a listing without wrong lines
pub known_listing : (text : List ℕ) (m : DraftInMemory) (stop fault : Option ℕ)
    → (stop ≡ None → (d : Draft) × IsListing text d × IsInMemory m d) → IfSome stop (λ n. (d : Draft) × StopsAt text d n × IsInMemory m d)
    → ((d : Draft) → IsInMemory m d → IsLeastOf fault (all_wrong stop d)) → fault ≡ None
    → (d : Draft) × IsListing text d × IsInMemory m d × (wrong_offsets d ≡ [])
known_listing text m None fault whole stops least none =
    let (d, said, memory) = whole refl in
    (d, said, memory, subst (λ f. IsLeastOf f (wrong_offsets d)) none (least d memory))
known_listing text m (Some stop) fault whole stops least none =
    let (d, at, memory) = stops in
    let empty : stop ∷ wrong_offsets d ≡ [] = subst (λ f. IsLeastOf f (stop ∷ wrong_offsets d)) none (least d memory) in
    absurd (cc empty)

least_is : (fault : Option ℕ) (at : ℕ) (ns : List ℕ) → IsLeastOf fault ns → IsLeast at ns → fault ≡ Some at
least_is None at ns none least = absurd (none_least at ns none least)
least_is (Some found) at ns one least = ap Some (least_same found at ns one least)

-- a fault of the text is the one that is found
pub known_fault : (text : List ℕ) (m : DraftInMemory) (stop fault : Option ℕ)
    → ((d : Draft) → IsListing text d → (stop ≡ None) × IsInMemory m d) → ((d : Draft) (n : ℕ) → StopsAt text d n → (stop ≡ Some n) × IsInMemory m d)
    → ((d : Draft) → IsInMemory m d → IsLeastOf fault (all_wrong stop d)) → (at : ℕ) → OffsetFault text at → fault ≡ Some at
known_fault text m stop fault only only_stops least at (inl (d, said, first)) =
    let (ends, memory) = only d said in
    least_is fault at (wrong_offsets d) (subst (λ s. IsLeastOf fault (all_wrong s d)) ends (least d memory)) first
known_fault text m stop fault only only_stops least at (inr (d, n, stops, first)) =
    let (ends, memory) = only_stops d n stops in
    least_is fault at (n ∷ wrong_offsets d) (subst (λ s. IsLeastOf fault (all_wrong s d)) ends (least d memory)) first
