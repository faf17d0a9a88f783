-- A scheduler in the parts of a turn.
use Rattle.std.proofs.Common.{◌≡◌, Bool, false, List, [], ◌∷◌, ◌++◌, refl, sym, ◌∙◌, ap, subst}
use Rattle.loft_base.specs.declared.ids.SchedId.{SchedId}
use Rattle.loft_orders.specs.declared.entry.Entry.{Entry}
use Rattle.loft_orders.specs.declared.entry.Entry.TheVariants.{Take}
use Rattle.loft_base.specs.declared.options.Limits.{Limits}
use Rattle.loft_base.specs.declared.options.RunOptions.{RunOptions}
use Rattle.loft_orders.specs.declared.note.InstantNote.{InstantNote}
use Rattle.loft_orders.specs.declared.order.Order.{Order}
use Rattle.loft_sense.specs.Machine.{Prog, Mach}
use Rattle.loft_sense.specs.Instant.{instant}
use Rattle.loft_history.specs.History.{is_open}
use Rattle.loft_turn_parts.specs.Turns.{IsReplay}
use Rattle.loft_turn_parts.proofs.TurnLemmas.{opened, replay_taken}
use Rattle.loft_course.specs.declared.station.Stage.{Stage}
use Rattle.loft_course.specs.declared.station.Stage.TheVariants.{Between, Taken, Made}
use Rattle.loft_course.specs.Turning.{is_in_turn, settled}
use Rattle.loft_course.specs.Course.{Stand, stand_after}
use Rattle.loft_course.proofs.CourseLemmas.{same_stand}

between : (st : Stage) → is_in_turn st ≡ false → st ≡ Between
between Between e = refl
between (Taken batch) e = absurd cc
between Made e = absurd cc

-- a scheduler in no turn, which is where a history has brought it
pub record AtRest (x : Prog) (o : RunOptions) (s : SchedId) (h : List Entry) (p : Prog) (l : Limits) (q : SchedId) (f : Bool) (m : Mach) (ns : List InstantNote) : Type 0 where
  pub program : p ≡ x
  pub limits : l ≡ o.limits
  pub scheduler : q ≡ s
  pub works : f ≡ false
  pub replay : IsReplay x o.limits s h m ns
  pub shut : is_open s h ≡ false

-- as a station is seen
abbrev pub seen : Prog → Limits → SchedId → Bool → Mach → List InstantNote → Stage → Stand
seen p l q f m ns st = record { scheduler = q; failed = f; machine = (settled p l m ns st).machine; notes = (settled p l m ns st).notes; running = is_in_turn st }

pub at_rest : (x : Prog) (o : RunOptions) (s : SchedId) (h : List Entry) (p : Prog) (l : Limits) (q : SchedId) (f : Bool) (m : Mach) (ns : List InstantNote) (st : Stage)
    → p ≡ x → l ≡ o.limits → seen p l q f m ns st ≡ stand_after x o h s.0 → is_in_turn st ≡ false → AtRest x o s h p l q f m ns
at_rest x o s h p l q f m ns st program limits is rests =
    let stage = between st rests in
    record {
      program = program;
      limits = limits;
      scheduler = ap (λ (k : Stand). k.scheduler) is;
      works = ap (λ (k : Stand). k.failed) is;
      replay = record {
        machine = sym (ap (λ (k : Stage). (settled p l m ns k).machine) stage) ∙ ap (λ (k : Stand). k.machine) is;
        notes = sym (ap (λ (k : Stage). (settled p l m ns k).notes) stage) ∙ ap (λ (k : Stand). k.notes) is;
      };
      shut = sym (ap (λ (k : Stand). k.running) is) ∙ rests;
    }

-- the scheduler after a Take, with its instant still to be made
pub took_stands : (x : Prog) (o : RunOptions) (s : SchedId) (h g : List Entry) (p : Prog) (l : Limits) (q : SchedId) (f : Bool) (m : Mach) (ns : List InstantNote) (batch : List Order)
    → AtRest x o s h p l q f m ns → g ≡ h ++ Take s batch ∷ [] → seen p l q f m ns (Taken batch) ≡ stand_after x o g s.0
took_stands x o s h g p l q f m ns batch rest grows =
    let is = replay_taken x o.limits s h batch m ns rest.replay in
    subst (λ (k : List Entry). seen p l q f m ns (Taken batch) ≡ stand_after x o k s.0) (sym grows)
    (same_stand (seen p l q f m ns (Taken batch)) (stand_after x o (h ++ Take s batch ∷ []) s.0)
    rest.scheduler
    rest.works
    (ap (λ (k : Prog). (instant k l m batch).machine) rest.program ∙ (ap (λ (k : Limits). (instant x k m batch).machine) rest.limits ∙ is.machine))
    (ap (λ (k : Prog). ns ++ (instant k l m batch).note ∷ []) rest.program ∙ (ap (λ (k : Limits). ns ++ (instant x k m batch).note ∷ []) rest.limits ∙ is.notes))
    (sym (opened s h batch)))
