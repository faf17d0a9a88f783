use Rattle.std.proofs.Common.{◌≡◌, List, Some, Result, Ok, Err, inr, slice_get, map, refl, sym, ap, subst, ◌∙◌}
use Rattle.std.specs.Prelude.{◌≢◌, MatchResult}
use Rattle.std.specs.Option.{option_map}
use Rattle.std.proofs.lemmas.Option.{slice_get_read, slice_get-map}
use Rattle.loft_tree.specs.declared.heads.Signature.{Signature}
use Rattle.loft_tree.specs.declared.named.NamedStmt.{NamedStmt}
use Rattle.loft_tree.specs.NamedView.{statements_of}
use Rattle.loft_tree.specs.ProgramView.{module_of}
use Rattle.loft_tree.specs.declared.heads.Heads.{Heads}
use Rattle.loft_tree.specs.declared.heads.Place.{Place}
use Rattle.loft_tree.specs.NamedTree.{NamedModule}
use Rattle.loft_place.specs.declared.error.PlaceError.{PlaceError}
use Rattle.loft_place.specs.declared.error.PlaceError.TheVariants.{ModuleEnds}
use Rattle.loft_place.specs.Links.{Goes, ModuleGoes, ModuleFault}
use Rattle.loft_place.proofs.links.check_module.Goals as goal

-- a body that ends somewhere ends where its module declares, or that is its fault
ends_where : (h : Heads) (s : Signature) (m : NamedModule) (end : Place) (r : Result (Unit {0}) PlaceError) → Goes h s.begin m.body end
    → MatchResult r (λ _. s.end ≡ end) (λ e. (s.end ≢ end) × (e ≡ ModuleEnds m.at s.end end))
    → MatchResult r (λ _. ModuleGoes h (Some s) (Some m)) (ModuleFault h (Some s) (Some m))
ends_where h s m end (Ok done) goes is = subst (λ (q : Place). Goes h s.begin m.body q) (sym is) goes
ends_where h s m end (Err e) goes is = inr (end, goes, is.0, is.1)

pub returns : goal.returns
returns c =
    let h = c.args.heads.now in
    let k = c.args.module.0 in
    let signature = c.in-Some.signature.now in
    let found = c.in-Some-get.module.now in
    let declared : slice_get h.modules k ≡ Some signature =
    sym (ap (λ (l : List Signature). slice_get l k) c.as_slice.ensures)
    ∙ slice_get_read c.as_slice.result.now _ k signature refl c.in-Some.ensures.lookup.3.0 c.in-Some.ensures.lookup.1 in
    let there : slice_get (map module_of c.args.modules.now) k ≡ Some (module_of found) =
    slice_get-map module_of c.args.modules.now k
    ∙ ap (option_map module_of) (slice_get_read c.args.modules.now _ k found refl c.in-Some-get.ensures.lookup.3.0 c.in-Some-get.ensures.lookup.1) in
    rw (declared, there)
    (ends_where h signature (module_of found) c.in_ok-end.end c.check_end.result
    (subst (λ (l : List NamedStmt). Goes h signature.begin (statements_of l) c.in_ok-end.end) c.as_slice-2.ensures.value c.in_ok-end.ensures)
    c.check_end.ensures)
