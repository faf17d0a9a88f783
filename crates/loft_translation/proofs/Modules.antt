-- The code of a whole module: where it begins, and its stops.
use Rattle.std.proofs.Common.{◌≡◌, ℕ, zero, suc, ◌+◌, ◌<◌, inl, inr, List, [], ◌∷◌, ◌++◌, length, reverse, Option, Some, None, slice_get, refl, sym, ap, ◌∙◌, subst, arith, append_assoc, append-nil, length-append, add-zero, zero-add}
use Rattle.std.specs.Prelude.{◌⊎◌, ℤ, unwrap_or}
use Rattle.std.specs.Option.{option_map}
use Rattle.std.proofs.Math.Seq.{get_or-append_seam}
use Rattle.std.proofs.lemmas.Option.{slice_get-get_or}
use Rattle.loft_base.specs.declared.ids.ModuleId.{ModuleId}
use Rattle.loft_tree.specs.declared.heads.Place.{Place}
use Rattle.loft_tree.specs.declared.heads.Heads.{Heads}
use Rattle.loft_tree.specs.Resolved.{Empty, Step, Body, Resolved}
use Rattle.loft_code.specs.Operations.{Line}
use Rattle.loft_code.specs.Operations as op
use Rattle.loft_sense.specs.Tree.{Work, body_then, after_body, body_at, stop_at, pause_of_step}
use Rattle.loft_sense.specs.Code.{point, lines_at, stop_from, after_or_past, pause_at}
use Rattle.loft_sense.specs.Stands.{Begins, StopAt, begin_of, leads, stop_in, stop_before, stop_at_line, line_stop}
use Rattle.loft_translation.specs.Compiled.{line, body_lines, module_lines, modules_from, compiled}
use Rattle.loft_translation.specs.Whole.{BodyIsWhole}
use Rattle.loft_translation.proofs.Simulation.{HasAt, Between, front_of, back_of, reach_here, Does, StandsFor, stands_body}
use Rattle.loft_translation.proofs.Resume.{before_last, LineIs, body_line, Found, nowhere, found, found_at, found_body}

pub within_some : {A : Type 0} (xs : List A) (k : ℕ) → k < length xs → (x : A) × (slice_get xs k ≡ Some x)
within_some [] k within = absurd (omega arith)
within_some (x ∷ xs) zero within = (x, refl)
within_some (x ∷ xs) (suc k) within = within_some xs k (omega arith)

-- operations stand after others
has_all : (ls front : List Line) → HasAt (front ++ ls) (length front) ls
has_all [] front = tt
has_all (l ∷ ls) front =
    let within : length front < length (front ++ l ∷ ls) = omega (arith, length-append front (l ∷ ls)) in
    let one_more : length (front ++ l ∷ []) ≡ length front + 1 = omega (arith, length-append front (l ∷ [])) in
    let others = subst (λ ks. HasAt ks (length (front ++ l ∷ [])) ls) (append_assoc front (l ∷ []) ls) (has_all ls (front ++ l ∷ [])) in (
      slice_get-get_or (front ++ l ∷ ls) (length front) l within ∙ ap Some (get_or-append_seam front l ls l),
      subst (λ n. HasAt (front ++ l ∷ ls) n ls) one_more others,
    )

-- what is found of a stop in the code of a module, and where a frame with these counts goes on after it
module _ (lines : List Line) (h : Heads) (cs : List ℤ) where
  stop_found : {q : Option ℕ} {w : Option (List Work)} {at : Option StopAt} {s : Option Step} → Found lines h 0 cs [] q w at s → stop_at_line lines q ≡ at
  stop_found nowhere = refl
  stop_found (found is) = is.stop

  pause_found : {q : Option ℕ} {w : Option (List Work)} {at : Option StopAt} {s : Option Step} → Found lines h 0 cs [] q w at s → pause_at lines q ≡ pause_of_step s
  pause_found nowhere = refl
  pause_found (found is) = is.pause

  goes_found : {q : Option ℕ} {w : Option (List Work)} {at : Option StopAt} {s : Option Step} (here : StopAt) → Found lines h 0 cs [] q w at s → at ≡ Some here → length cs ≡ here.depth
      → StandsFor lines h (unwrap_or w []) (point (after_or_past q lines) (reverse cs))
  goes_found here nowhere e same = absurd cc
  goes_found here (found {q} {w} {at} {s} is) e same =
      let at_is : at ≡ here = cc in
      let depth : 0 + length cs ≡ at.depth = zero-add (length cs) ∙ same ∙ sym (ap (λ (a : StopAt). a.depth) at_is) in
      subst (λ ns. StandsFor lines h w (point (q + 1) ns)) (append-nil (reverse cs)) (is.goes depth)

-- the code of a module with this body that begins here
abbrev pub code_of : Heads → Body → Place → List Line
code_of h b here = body_lines h b 0 0 here ++ line (leads h b here) 0 op.End ∷ []

module _ (h : Heads) (b : Body) (here : Place) where
  -- its last operation
  abbrev last : ℕ
  last = 0 + length (body_lines h b 0 0 here)

  all : Between (code_of h b here) 0 (code_of h b here) (length (code_of h b here))
  all = record { has = has_all (code_of h b here) []; ends = zero-add (length (code_of h b here)) }

  body : Between (code_of h b here) 0 (body_lines h b 0 0 here) last
  body = front_of (code_of h b here) 0 (length (code_of h b here)) (body_lines h b 0 0 here) (line (leads h b here) 0 op.End ∷ []) all

  end_has : slice_get (code_of h b here) last ≡ Some (line (leads h b here) 0 op.End)
  end_has = (back_of (code_of h b here) 0 (length (code_of h b here)) (body_lines h b 0 0 here) (line (leads h b here) 0 op.End ∷ []) all).has.0

  end_does : Does (code_of h b here) h last []
  end_does = (last, reach_here (code_of h b here) last (line (leads h b here) 0 op.End) end_has refl, line (leads h b here) 0 op.End, end_has, refl)

  end_line : LineIs (code_of h b here) h last 0 (leads h b here)
  end_line = record { is = line (leads h b here) 0 op.End; at = end_has; depth = refl; place = refl }

  pub module_start : StandsFor (code_of h b here) h (body_then b []) (point 0 [])
  module_start = stands_body (code_of h b here) h b 0 0 last here [] [] refl body end_does

  pub module_begin : line_stop (code_of h b here) 0 ≡ Some (record { kind = Begins; depth = 0; after = here })
  module_begin =
      let first = body_line (code_of h b here) h b 0 0 last here body end_line in
      ap (stop_before (Some Begins)) first.at
      ∙ ap (λ n. Some (record { kind = Begins; depth = n; after = first.is.place })) first.depth
      ∙ ap (λ place. Some (record { kind = Begins; depth = 0; after = place })) first.place

  module _ (n : ℕ) (whole : BodyIsWhole h n b here) (k : ℕ) (cs : List ℤ) where
    module_found : Found (code_of h b here) h 0 cs [] (stop_from 0 (code_of h b here) k) (after_body b k cs []) (stop_in h b k 0 here) (stop_at b k)
    module_found =
        found_at (code_of h b here) h 0 cs refl
        (before_last 0 (body_lines h b 0 0 here) (line (leads h b here) 0 op.End) k refl)
        (found_body (code_of h b here) h n b k 0 0 last here cs [] whole body end_line end_does)

    pub module_stop : stop_at_line (code_of h b here) (stop_from 0 (code_of h b here) k) ≡ stop_in h b k 0 here
    module_stop = stop_found (code_of h b here) h cs module_found

    pub module_pause : pause_at (code_of h b here) (stop_from 0 (code_of h b here) k) ≡ pause_of_step (stop_at b k)
    module_pause = pause_found (code_of h b here) h cs module_found

    pub module_goes : (at : StopAt) → stop_in h b k 0 here ≡ Some at → length cs ≡ at.depth
        → StandsFor (code_of h b here) h (unwrap_or (after_body b k cs []) []) (point (after_or_past (stop_from 0 (code_of h b here) k) (code_of h b here)) (reverse cs))
    module_goes at e same = goes_found (code_of h b here) h cs at module_found e same

-- ---- modules by their numbers

modules_at : (h : Heads) (bs : List Body) (k i : ℕ) → slice_get (modules_from h k bs) i ≡ option_map (module_lines h (record { 0 = k + i })) (slice_get bs i)
modules_at h [] k i = refl
modules_at h (b ∷ bs) k zero = ap (λ n. Some (module_lines h (record { 0 = n }) b)) (sym (add-zero k))
modules_at h (b ∷ bs) k (suc i) =
    let e : k + 1 + i ≡ k + suc i = omega arith in
    modules_at h bs (k + 1) i ∙ ap (λ n. option_map (module_lines h (record { 0 = n })) (slice_get bs i)) e

module _ (p : Resolved) (m : ModuleId) where
  lines_by : lines_at (compiled p) m ≡ unwrap_or (option_map (module_lines p.heads m) (slice_get p.bodies m.0)) []
  lines_by =
      ap (λ o. unwrap_or o []) (modules_at p.heads p.bodies 0 m.0
      ∙ ap (λ n. option_map (module_lines p.heads (record { 0 = n })) (slice_get p.bodies m.0)) (zero-add m.0))

  pub lines_are : (b : Body) → slice_get p.bodies m.0 ≡ Some b → lines_at (compiled p) m ≡ code_of p.heads b (begin_of p.heads m)
  lines_are b e = lines_by ∙ ap (λ o. unwrap_or (option_map (module_lines p.heads m) o) []) e

  pub no_lines : slice_get p.bodies m.0 ≡ None → lines_at (compiled p) m ≡ []
  no_lines e = lines_by ∙ ap (λ o. unwrap_or (option_map (module_lines p.heads m) o) []) e

  pub body_is : (b : Body) → slice_get p.bodies m.0 ≡ Some b → body_at p m ≡ b
  body_is b e = ap (λ (o : Option Body). unwrap_or o Empty) e

  -- it has a body, or not
  pub body_or_not : ((b : Body) × (slice_get p.bodies m.0 ≡ Some b)) ⊎ (slice_get p.bodies m.0 ≡ None)
  body_or_not = by (slice_get p.bodies m.0) refl
    where
      by : (o : Option Body) → slice_get p.bodies m.0 ≡ o → ((b : Body) × (slice_get p.bodies m.0 ≡ Some b)) ⊎ (slice_get p.bodies m.0 ≡ None)
      by None e = inr e
      by (Some b) e = inl (b, e)
