-- Frames that are kept.
use Rattle.std.proofs.Common.{◌≡◌, ◌≢◌, ℕ, ℤ, zero, suc, List, [], ◌∷◌, ◌++◌, refl, sym, ap, ◌∙◌, get_or, set, length, ◌+◌, ◌<◌, add-one, arith, take, drop, Some}
use Rattle.std.specs.Prelude.{reverse, map}
use Rattle.std.specs.List.{AllByRecursion}
use Rattle.std.proofs.Math.Seq.{take-append_seam}
use Rattle.std.proofs.lemmas.List.{length-map, reverse-append, reverse-reverse}
use Rattle.std.proofs.lemmas.List.Elements.{All-map, All-pop, All-push, All-same, recursion_from_All}
use Rattle.loft_base.specs.declared.ids.ModuleId.{ModuleId}
use Rattle.loft_base.specs.Lists.{overwritten}
use Rattle.loft_base.specs.declared.ids.Value.{Value}
use Rattle.loft_code.specs.Operations.{Automata}
use Rattle.loft_orders.specs.declared.thread.Frame.{Frame}
use Rattle.loft_sense.specs.Code.{Point, point, code, lines_at}
use Rattle.loft_sense.specs.Run.{Active, active_of, frame_of, point_of}
use Rattle.loft_effect.proofs.Runs.{reverse-cons, reverse-map}
use Rattle.loft_step.specs.declared.running.Running.{Running}
use Rattle.loft_step.specs.Kept.{counts_kept, settled, IsKept, AreKept}
use Rattle.loft_step.specs.Lines.{op_after}
use Rattle.loft_step.specs.Frames.{active, actives, HasStopped}

abbrev pub frame : ModuleId → ℕ → List ℤ → List Value → Frame
frame m k counts values = record { «module» = m; stop = k; counts = counts; values = values }

abbrev pub going_at : ModuleId → ℕ → List Value → Point → Active Point
going_at m k values at = record { «module» = m; stop = k; values = values; at = at }

-- ---- counts of frames that have stood at no stop

kept_twice : (k : ℕ) (counts : List ℤ) → counts_kept k (counts_kept k counts) ≡ counts_kept k counts
kept_twice zero counts = refl
kept_twice (suc k) counts = refl

pub all_settled : (fs : List Frame) → AreKept (map settled fs)
all_settled fs = All-map IsKept settled fs (λ k d lt. kept_twice (get_or fs k d).stop (get_or fs k d).counts)

-- the first n frames without such counts
abbrev pub settled_to : ℕ → List Frame → List Frame
settled_to zero fs = fs
settled_to (suc n) [] = []
settled_to (suc n) (f ∷ fs) = settled f ∷ settled_to n fs

settled_next : (n : ℕ) (fs : List Frame) (f : Frame) → n < length fs → f ≡ get_or (settled_to n fs) n f → set (settled_to n fs) n (settled f) ≡ settled_to (suc n) fs
settled_next n [] f lt is = absurd (omega arith)
settled_next zero (g ∷ fs) f lt is = ap (λ (h : Frame). settled h ∷ fs) is
settled_next (suc n) (g ∷ fs) f lt is = ap (λ (gs : List Frame). settled g ∷ gs) (settled_next n fs f (omega arith) is)

-- one more
pub settled_more : (fs gs : List Frame) (n : ℕ) (f g : Frame) → gs ≡ settled_to n fs → n < length fs → f ≡ get_or gs n f → g ≡ settled f → set gs n g ≡ settled_to (n + 1) fs
settled_more fs gs n f g are lt is new =
    ap (λ (h : Frame). set gs n h) new
    ∙ (ap (λ (hs : List Frame). set hs n (settled f)) are
    ∙ (settled_next n fs f lt (is ∙ ap (λ (hs : List Frame). get_or hs n f) are)
    ∙ ap (λ (k : ℕ). settled_to k fs) (sym (add-one n))))

-- all of them
pub settled_whole : (fs : List Frame) → settled_to (length fs) fs ≡ map settled fs
settled_whole [] = refl
settled_whole (f ∷ fs) = ap (λ (gs : List Frame). settled f ∷ gs) (settled_whole fs)

-- written back
pub settled_back : (fs gs : List Frame) → gs ≡ map settled fs → overwritten fs gs ≡ map settled fs
settled_back fs gs is =
    let same : length fs ≡ length gs = sym (ap length is ∙ length-map fs settled) in
    ap (λ (n : ℕ). take n (gs ++ drop (length gs) fs)) same ∙ (take-append_seam gs (drop (length gs) fs) ∙ is)

-- the last one, and those before it
pub kept-pop : (fs gs : List Frame) (f : Frame) → fs ≡ gs ++ f ∷ [] → AreKept fs → AreKept gs × IsKept f
kept-pop fs gs f is are = All-pop IsKept fs gs (Some f) is are

pub kept-push : (fs gs : List Frame) (f : Frame) → gs ≡ fs ++ f ∷ [] → AreKept fs → IsKept f → AreKept gs
kept-push fs gs f is are one = All-same IsKept gs (fs ++ f ∷ []) is (All-push IsKept fs f are one)

module _ (c : Automata) where
  settled_point : (m : ModuleId) (k : ℕ) (counts : List ℤ) (values : List Value)
      → point_of (code c) (frame m k (counts_kept k counts) values) k ≡ point_of (code c) (frame m k counts values) k
  settled_point m zero counts values = refl
  settled_point m (suc k) counts values = refl

  settled_active : (f : Frame) → active_of (code c) (settled f) ≡ active_of (code c) f
  settled_active f = ap (going_at f.module f.stop f.values) (settled_point f.module f.stop f.counts f.values)

  map_settled : (fs : List Frame) → map (active_of (code c)) (map settled fs) ≡ map (active_of (code c)) fs
  map_settled [] = refl
  map_settled (f ∷ fs) =
      ap (λ (a : Active Point). a ∷ map (active_of (code c)) (map settled fs)) (settled_active f)
      ∙ ap (λ (l : List (Active Point)). active_of (code c) f ∷ l) (map_settled fs)

  -- without the counts of frames that have stood at no stop, frames go on as they do
  pub settled_actives : (fs : List Frame) → actives c (map settled fs) ≡ actives c fs
  settled_actives fs = ap (map (active_of (code c))) (reverse-map settled fs) ∙ map_settled (reverse fs)

  -- ---- frames that are kept as they were

  kept_at : (m : ModuleId) (k : ℕ) (counts : List ℤ) (values : List Value) → counts_kept k counts ≡ counts
      → frame_of (code c) (active_of (code c) (frame m k counts values)) ≡ frame m k counts values
  kept_at m zero counts values is = ap (λ (ns : List ℤ). frame m zero ns values) is
  kept_at m (suc k) counts values is = ap (λ (ns : List ℤ). frame m (suc k) ns values) (reverse-reverse counts)

  kept_by_recursion : (fs : List Frame) → AllByRecursion IsKept fs → map (frame_of (code c)) (map (active_of (code c)) fs) ≡ fs
  kept_by_recursion [] are = refl
  kept_by_recursion (f ∷ fs) are =
      ap (λ (g : Frame). g ∷ map (frame_of (code c)) (map (active_of (code c)) fs)) (kept_at f.module f.stop f.counts f.values are.0)
      ∙ ap (λ (gs : List Frame). f ∷ gs) (kept_by_recursion fs are.1)

  kept_frames : (fs : List Frame) → AreKept fs → map (frame_of (code c)) (actives c fs) ≡ reverse fs
  kept_frames fs are =
      sym (reverse-map (frame_of (code c)) (map (active_of (code c)) fs) ∙ ap (map (frame_of (code c))) (reverse-map (active_of (code c)) fs))
      ∙ ap reverse (kept_by_recursion fs (recursion_from_All IsKept fs are))

  -- one frame more
  pub actives-push : (fs : List Frame) (f : Frame) → actives c (fs ++ f ∷ []) ≡ active_of (code c) f ∷ actives c fs
  actives-push fs f = ap (map (active_of (code c))) (reverse-append fs (f ∷ []))

  -- the frames of a thread that stands
  pub stood : (outer new : List Frame) (top : Running) (f : Frame) → AreKept outer → f ≡ frame_of (code c) (active top) → new ≡ outer ++ f ∷ []
      → new ≡ reverse (map (frame_of (code c)) (active top ∷ actives c outer))
  stood outer new top f are is pushed =
      sym (reverse-cons (frame_of (code c) (active top)) (map (frame_of (code c)) (actives c outer))
      ∙ (ap (λ (l : List Frame). reverse l ++ frame_of (code c) (active top) ∷ []) (kept_frames outer are)
      ∙ (ap (λ (l : List Frame). l ++ frame_of (code c) (active top) ∷ []) (reverse-reverse outer)
      ∙ (ap (λ (g : Frame). outer ++ g ∷ []) (sym is) ∙ sym pushed))))

  -- ---- a frame that stands

  goes_on_at : (m : ModuleId) (k op : ℕ) (counts : List ℤ) (values : List Value) → k ≢ 0 → op_after (lines_at c m) k ≡ op
      → active_of (code c) (frame m k (reverse (reverse counts)) values) ≡ going_at m k values (point op (reverse counts))
  goes_on_at m zero op counts values some is = absurd (some refl)
  goes_on_at m (suc k) op counts values some is =
      ap (λ (n : ℕ). going_at m (suc k) values (point n (reverse (reverse (reverse counts))))) is
      ∙ ap (λ (ns : List ℤ). going_at m (suc k) values (point op ns)) (reverse-reverse (reverse counts))

  -- it goes on where it is, if it is kept
  pub goes_on_there : (r : Running) → HasStopped c r → active_of (code c) (frame_of (code c) (active r)) ≡ active r
  goes_on_there r stands = goes_on_at r.scope.at.module r.scope.at.stop r.op r.counts r.scope.values stands.stop stands.after

  kept_some : (k : ℕ) (counts : List ℤ) → k ≢ 0 → counts_kept k counts ≡ counts
  kept_some zero counts some = absurd (some refl)
  kept_some (suc k) counts some = refl

  pub stands_kept : (r : Running) → HasStopped c r → IsKept (frame_of (code c) (active r))
  stands_kept r stands = kept_some r.scope.at.stop (reverse (reverse r.counts)) stands.stop
