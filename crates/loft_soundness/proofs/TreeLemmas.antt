-- A placed program leads on: the bodies of its modules fit, and the stops in them are those of the modules.
use Rattle.std.proofs.Common.{◌≡◌, ℕ, zero, suc, ◌≤◌, inl, List, [], length, Option, Some, None, slice_get, refl, sym, ap, ◌∙◌, subst, arith}
use Rattle.std.specs.Prelude.{ℤ, unwrap_or}
use Rattle.std.proofs.lemmas.List.{length-reverse}
use Rattle.loft_base.specs.declared.ids.ModuleId.{ModuleId}
use Rattle.loft_tree.specs.declared.heads.Place.{Place}
use Rattle.loft_tree.specs.declared.heads.Signature.{Signature}
use Rattle.loft_tree.specs.NamedTree.{NamedProgram}
use Rattle.loft_tree.specs.NamedFits.{NamedFits, slots_of}
use Rattle.loft_tree.specs.Resolved.{Body, resolved_of}
use Rattle.loft_place.specs.Links.{IsPlaced}
use Rattle.loft_sense.specs.Machine.{Prog, Tree}
use Rattle.loft_sense.specs.Run.{Next, Finish, Stuck, Acts, Advances, Tests, Counts, Holds, Runs}
use Rattle.loft_sense.specs.Tree.{Work, body_then, next_work, counts_in, after_body, body_at, after}
use Rattle.loft_sense.specs.Stands.{Pauses, Calls, StopAt, begin_of, end_of, begin_or_unlinked, place_after, leads, stop_in, tree_stop}
use Rattle.loft_soundness.specs.WorkFits.{NextFits, BodyFits}
use Rattle.loft_soundness.specs.WorkAgrees.{BodyAgrees}
use Rattle.loft_soundness.specs.Points.{WorkIsAt}
use Rattle.loft_soundness.proofs.NumberLemmas.{none_some, is_numbered}
use Rattle.loft_soundness.proofs.LeftLemmas.{counts_before}
use Rattle.loft_soundness.proofs.FitLemmas.{module_fits}
use Rattle.loft_soundness.proofs.LeadsToPoints.{the_stop, begin_stop, LeadsAt, IsAfter, LeadsToPoints}
use Rattle.loft_soundness.proofs.WorkLemmas.{fits_before, LeftFits, next_fits, agrees_before, NextAgrees, next_agrees, LeftAfter, AfterFits, after_body_fits}
use Rattle.loft_soundness.proofs.StopLemmas.{outside_body, body_agrees}

module _ (n : NamedProgram) (fits : NamedFits n) (placed : IsPlaced n) where
  abbrev program : Prog
  program = Tree (resolved_of n)

  module _ (m : ModuleId) (head : Signature) (declared : slice_get n.heads.modules m.0 ≡ Some head) where
    abbrev body : Body
    body = body_at (resolved_of n) m

    abbrev stops : ℕ → Option StopAt
    stops = tree_stop (resolved_of n) m

    -- ---- the body of a module

    begin_is : begin_of n.heads m ≡ head.begin
    begin_is = ap begin_or_unlinked declared

    -- from where it begins to where it ends
    fits_there : BodyFits n.heads (slots_of head) body (begin_of n.heads m)
    fits_there = subst (BodyFits n.heads (slots_of head) body) (sym begin_is) (module_fits n fits placed m head declared).fits

    ends_there : leads n.heads body (begin_of n.heads m) ≡ head.end
    ends_there = ap (λ p. leads n.heads body p) begin_is ∙ (module_fits n fits placed m head declared).ends

    is_part : (k : ℕ) (at : StopAt) → stop_in n.heads body k 0 (begin_of n.heads m) ≡ Some at → stops k ≡ Some at
    is_part zero at e =
        let first : 0 ≤ 0 = omega arith in
        absurd (none_some _ at (outside_body n.heads body 0 0 0 (begin_of n.heads m) (is_numbered n fits m) (inl first)) e)
    is_part (suc k) at e = e

    agrees_there : BodyAgrees n.heads stops body 0 (begin_of n.heads m)
    agrees_there = body_agrees n.heads stops body 0 0 (begin_of n.heads m) (is_numbered n fits m) is_part

    -- ---- what comes next

    leads_at : (next : Next (List Work)) (here : Place) → LeftFits n.heads (slots_of head) next here head.end → NextAgrees n.heads stops next here → LeadsAt program m head here next
    leads_at Finish here f g = f
    leads_at Stuck here f g = absurd f
    leads_at (Acts action w) here f g = record { fits = f; agrees = g }
    leads_at (Advances w) here f g = record { fits = f; agrees = g }
    leads_at (Tests test v w) here f g = (record { fits = f.0; agrees = g.0 }, record { fits = f.1; agrees = g.1 })
    leads_at (Counts count w) here f g = λ i. record { fits = f i; agrees = g i }
    leads_at (Holds k pause w) here f g = (
      g.0 ∙ ap (λ (d : ℕ). Some (the_stop (Pauses pause) d (place_after pause here))) (sym (length-reverse (counts_in w))),
      record { fits = f; agrees = g.1 },
    )
    leads_at (Runs k called arguments w) here f g = (
      g.0 ∙ ap (λ (d : ℕ). Some (the_stop (Calls called) d (end_of n.heads called))) (sym (length-reverse (counts_in w))),
      record { fits = f; agrees = g.1 },
    )

    next_leads : (w : List Work) (here : Place) → WorkIsAt (resolved_of n) m head w here
        → NextFits n.heads (slots_of head) here (next_work w) × LeadsAt program m head here (next_work w)
    next_leads w here f =
        let next = next_fits n.heads (slots_of head) w here head.end f.fits in
        (next.0, leads_at (next_work w) here next.1 (next_agrees n.heads stops (slots_of head) w here head.end f.fits f.agrees))

    -- ---- where a thread goes on

    start_leads : IsAfter program m head (begin_stop n.heads m) (body_then body [])
    start_leads = record {
      there = record {
        fits = fits_before n.heads (slots_of head) body [] (begin_of n.heads m) head.end fits_there ends_there;
        agrees = agrees_before n.heads stops body [] (begin_of n.heads m) agrees_there tt;
      };
      counts = length-reverse (counts_in (body_then body [])) ∙ ap (λ (l : List ℤ). length l) (counts_before body []);
      kind = tt;
    }

    of_left : (at : StopAt) (w : List Work) → LeftAfter n.heads stops (slots_of head) at head.end w → IsAfter program m head at w
    of_left at w f = record { there = record { fits = f.fits; agrees = f.agrees }; counts = length-reverse (counts_in w) ∙ f.counts; kind = f.kind }

    of_after : (at : StopAt) (o : Option (List Work)) (s : Option StopAt) → s ≡ Some at → AfterFits n.heads stops (slots_of head) head.end o s
        → IsAfter program m head at (unwrap_or o [])
    of_after at None None e f = absurd cc
    of_after at (Some w) (Some other) e f = let same : other ≡ at = cc in subst (λ a. IsAfter program m head a w) same (of_left other w f)
    of_after at None (Some other) e f = absurd f
    of_after at (Some w) None e f = absurd f

    resume_leads : (k : ℕ) (counts : List ℤ) (at : StopAt) → stops (suc k) ≡ Some at → IsAfter program m head at (after (resolved_of n) m (suc k) counts)
    resume_leads k counts at e =
        of_after at (after_body body (suc k) counts []) (stops (suc k)) e
        (after_body_fits n.heads stops (slots_of head) body (suc k) 0 counts [] (begin_of n.heads m) head.end refl fits_there agrees_there ends_there tt)

  pub tree_leads : LeadsToPoints program
  tree_leads = record {
    next = λ m head w here declared f. next_leads m head declared w here f;
    begins = λ m head declared. refl;
    starts = λ m head declared. start_leads m head declared;
    resumes = λ m head k counts at declared e few. resume_leads m head declared k counts at e;
  }
