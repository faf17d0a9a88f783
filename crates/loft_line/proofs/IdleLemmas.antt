-- Lines in which nobody has run, after a thread was linked, stopped or suspended.
use Rattle.std.proofs.Common.{◌≡◌, ℕ, ◌+◌, ◌<◌, Bool, true, false, List, [], ◌∷◌, ◌++◌, refl, sym, ◌∙◌, ap, subst, arith, Option, Some, None, length, get_or, set, map}
use Rattle.std.specs.Prelude.{if◌then◌else◌, slice_get, slice_set}
use Rattle.std.proofs.lemmas.List.{map-set, length-set, length-append, map-append}
use Rattle.std.proofs.lemmas.Option.{slice_get_within}
use Rattle.loft_base.specs.declared.ids.ThreadId.{ThreadId}
use Rattle.loft_orders.specs.declared.note.Standing.{Standing}
use Rattle.loft_orders.specs.declared.thread.Wait.{Wait}
use Rattle.loft_sense.specs.Apply.{without_first, suspend}
use Rattle.loft_sense.specs.Instant.{runner_of}
use Rattle.loft_passes.specs.declared.runner.Runner.{Runner}
use Rattle.loft_passes.specs.View.{linked_of, standing_of, is_held}
use Rattle.loft_ready.specs.Entered.{wait_of}
use Rattle.loft_ready.proofs.EnterLemmas.{set_last}
use Rattle.loft_waits.specs.Told.{Told}
use Rattle.loft_finder.specs.declared.finder.Finder.{Finder}
use Rattle.loft_finder.specs.Finder.{may_stand, KeepsAll, KeepsOthers}
use Rattle.loft_line.specs.declared.line.Line.{Line}
use Rattle.loft_line.specs.Line.{with_wait, without_wait, with_waits, runners_in, standings_in, AreMarked, is_marked, count_present, AreNamed, IsIdle, KeepsTold, IsFirstAt, IsEmptied}
use Rattle.loft_line.proofs.ListLemmas.{there_is, there_set, left_there, changed_at, length_with, length_line, linked_last}
use Rattle.loft_line.proofs.LineLemmas.{marked_more, marked_now, present_more, unmarked_more, waits_at}
use Rattle.loft_line.proofs.NameLemmas.{named_hole, named_same, named_more, named_runners}
use Rattle.loft_line.proofs.FirstLemmas.{first_without, first_suspend}
use Rattle.loft_line.proofs.BatchLemmas.{begun_held, begun_standing, begun_rests, one_more, emptied, hole_standing, hole_rests, hole_waits, one_fewer, with_flag, flag_rests, flag_standing, same_held, first_held}

pub many_threads : (l : Line) → IsIdle l → length l.ran ≡ length (runners_in l)
many_threads l idle = idle.line.many ∙ sym (length_with l.slots.items l.waits.waits)

-- what has to be shown of a line that differs in its threads
pub record IsChanged (l new : Line) (rs : List Runner) (ran : List ℕ) : Type 0 where
  pub runners : runners_in new ≡ rs
  pub waits : new.waits.waits ≡ map wait_of rs
  pub many : length new.ran ≡ length new.slots.items
  pub ran_is : new.ran ≡ ran
  pub marked : AreMarked new.budget rs ran
  pub held : new.held ≡ count_present rs ran
  pub unmarked : (i : ℕ) → is_marked ran i ≡ false
  pub named : AreNamed new.finder rs

pub idle_now : (l new : Line) (rs : List Runner) (ran : List ℕ) → IsChanged l new rs ran → IsIdle new
idle_now l new rs ran c = record {
  line = record {
    waits = c.waits ∙ ap (map wait_of) (sym c.runners);
    many = c.many;
    marked = subst (λ (q : List Runner). AreMarked new.budget q new.ran) (sym c.runners) (subst (λ (b : List ℕ). AreMarked new.budget rs b) (sym c.ran_is) c.marked);
    held = c.held ∙ ap (count_present rs) (sym c.ran_is) ∙ ap (λ (q : List Runner). count_present q new.ran) (sym c.runners);
    named = subst (AreNamed new.finder) (sym c.runners) c.named;
  };
  unmarked = λ i. ap (λ (b : List ℕ). is_marked b i) c.ran_is ∙ c.unmarked i;
}

-- the same line, after a search
pub found_idle : (l : Line) (f : Finder) → IsIdle l → AreNamed f l.slots.items → IsIdle (record l { finder = f })
found_idle l f idle named = record {
  line = record {
    waits = idle.line.waits;
    many = idle.line.many;
    marked = idle.line.marked;
    held = idle.line.held;
    named = named_runners f l.slots.items l.waits.waits named;
  };
  unmarked = idle.unmarked;
}

-- ---- a thread is linked

begun_id : (n : Runner) (budget : ℕ) (s : Standing) → linked_of n ≡ runner_of budget s ∷ [] → n.thread.id ≡ s.thread.id
begun_id n budget s begun =
    let one : standing_of n ∷ [] ≡ s ∷ [] = sym (ap (λ (c : Bool). if c then standing_of n ∷ [] else []) (begun_held n budget s begun)) ∙ begun_standing n budget s begun in
    let is : standing_of n ≡ s = cc one in
    ap (λ (q : Standing). q.thread.id) is

module _ (l new : Line) (n : Runner) (s : Standing) (pos : ℕ) (s0 : List Runner) (t0 : Told) (idle : IsIdle l) (begun : linked_of n ≡ runner_of l.budget s ∷ []) (at : pos ≡ length l.slots.items)
    (pushed : s0 ≡ l.slots.items ++ n ∷ []) (grown : t0 ≡ record l.waits { waits = l.waits.waits ++ None ∷ [] })
    (told : (r : Runner) → slice_get s0 pos ≡ Some r → new.waits ≡ record t0 { waits = slice_set t0.waits pos (wait_of r) }) (back : (r : Runner) → slice_get s0 pos ≡ Some r → new.slots.items ≡ slice_set s0 pos (without_wait r))
    (ran : new.ran ≡ l.ran ++ 0 ∷ []) (held : new.held ≡ l.held + 1) (budget : new.budget ≡ l.budget)
    (keeps : KeepsAll l.finder new.finder) (stands : may_stand new.finder s.thread.id pos ≡ true) where
  long : length l.waits.waits ≡ length l.slots.items
  long = length_line l.slots.items l.waits.waits idle.line.waits

  last : slice_get s0 pos ≡ Some n
  last = ap (λ (x : List Runner). slice_get x pos) pushed ∙ ap (slice_get (l.slots.items ++ n ∷ [])) at ∙ Rattle.loft_line.proofs.ListLemmas.get_last l.slots.items n

  w0 : t0.waits ≡ l.waits.waits ++ None ∷ []
  w0 = ap (λ (t : Told). t.waits) grown

  w3 : new.waits.waits ≡ slice_set t0.waits pos (wait_of n)
  w3 = ap (λ (t : Told). t.waits) (told n last)

  pub linked_runners : runners_in new ≡ runners_in l ++ n ∷ []
  linked_runners = linked_last l.slots.items s0 new.slots.items l.waits.waits t0.waits new.waits.waits pos n long at pushed w0 back w3

  linked_waits : new.waits.waits ≡ map wait_of (runners_in l ++ n ∷ [])
  linked_waits =
      w3
      ∙ ap (λ (ws : List (Option Wait)). set ws pos (wait_of n)) w0
      ∙ set_last l.waits.waits pos None (wait_of n) (at ∙ sym long)
      ∙ ap (λ (ws : List (Option Wait)). ws ++ wait_of n ∷ []) idle.line.waits
      ∙ sym (map-append wait_of (runners_in l) (n ∷ []))

  linked_many : length new.ran ≡ length new.slots.items
  linked_many =
      ap (λ (b : List ℕ). length b) ran ∙ length-append l.ran (0 ∷ [])
      ∙ ap (λ (k : ℕ). k + 1) idle.line.many
      ∙ sym (length-append l.slots.items (n ∷ [])) ∙ sym (ap (λ (x : List Runner). length x) pushed) ∙ sym (length-set s0 pos (without_wait n)) ∙ sym (ap (λ (x : List Runner). length x) (back n last))

  pub linked_idle : IsIdle new
  linked_idle = idle_now l new (runners_in l ++ n ∷ []) (l.ran ++ 0 ∷ []) (record {
    runners = linked_runners;
    waits = linked_waits;
    many = linked_many;
    ran_is = ran;
    marked = subst (λ (b : ℕ). AreMarked b (runners_in l ++ n ∷ []) (l.ran ++ 0 ∷ [])) (sym budget) (marked_more l.budget (runners_in l) l.ran n (many_threads l idle) (begun_rests n l.budget s begun) idle.line.marked);
    held = held ∙ ap (λ (k : ℕ). k + 1) idle.line.held ∙ sym (present_more (runners_in l) l.ran n (many_threads l idle) (begun_held n l.budget s begun));
    unmarked = unmarked_more l.ran idle.unmarked;
    named = named_more l.finder new.finder (runners_in l) n keeps
        (ap (may_stand new.finder n.thread.id) (length_with l.slots.items l.waits.waits ∙ sym at) ∙ ap (λ (t : ThreadId). may_stand new.finder t pos) (begun_id n l.budget s begun) ∙ stands)
        idle.line.named;
  })

  pub linked_standings : standings_in (runners_in new) ≡ standings_in (runners_in l) ++ s ∷ []
  linked_standings = ap standings_in linked_runners ∙ one_more (runners_in l) n l.budget s begun

  pub linked_told : KeepsTold l new
  linked_told = record {
    told = told n last ∙ ap (λ (t : Told). record t { waits = slice_set t0.waits pos (wait_of n) }) grown ∙ ap (λ (ws : List (Option Wait)). record l.waits { waits = ws }) (sym w3);
    budget = budget;
  }

-- ---- a thread is stopped

module _ (l new : Line) (p : ℕ) (t : ThreadId) (s1 : List Runner) (idle : IsIdle l) (first : IsFirstAt p t (runners_in l))
    (left : (r : Runner) → slice_get l.slots.items p ≡ Some r → s1 ≡ slice_set l.slots.items p (with_wait (get_or l.waits.waits p None) r)) (told : new.waits ≡ record l.waits { waits = slice_set l.waits.waits p None })
    (e : IsEmptied p s1 new.slots.items) (ran : new.ran ≡ l.ran) (held : new.held + 1 ≡ l.held) (budget : new.budget ≡ l.budget)
    (f : Finder) (named : AreNamed f l.slots.items) (keeps : KeepsOthers p f new.finder) where
  within : p < length l.slots.items
  within = let i = slice_get_within (runners_in l) p first.runner first.there in let k = length_with l.slots.items l.waits.waits in omega (arith, i, k)

  stopped_runners : runners_in new ≡ set (runners_in l) p e.hole
  stopped_runners = emptied l.slots.items s1 new.slots.items l.waits.waits new.waits.waits p within (length_line l.slots.items l.waits.waits idle.line.waits) left (ap (λ (x : Told). x.waits) told) e

  stopped_waits : new.waits.waits ≡ map wait_of (set (runners_in l) p e.hole)
  stopped_waits =
      ap (λ (x : Told). x.waits) told
      ∙ ap (λ (ws : List (Option Wait)). set ws p None) idle.line.waits
      ∙ ap (set (map wait_of (runners_in l)) p) (sym (hole_waits e.hole e.gone))
      ∙ sym (map-set wait_of (runners_in l) p e.hole)

  stopped_many : length new.ran ≡ length new.slots.items
  stopped_many =
      let it = there_is l.slots.items p within in
      ap (λ (b : List ℕ). length b) ran ∙ idle.line.many
      ∙ sym (ap (λ (x : List Runner). length x) e.slots ∙ length-set s1 p e.hole ∙ ap (λ (x : List Runner). length x) (left it.0 it.1) ∙ length-set l.slots.items p (with_wait (get_or l.waits.waits p None) it.0))

  pub stopped_idle : IsIdle new
  stopped_idle = idle_now l new (set (runners_in l) p e.hole) l.ran (record {
    runners = stopped_runners;
    waits = stopped_waits;
    many = stopped_many;
    ran_is = ran;
    marked = subst (λ (b : ℕ). AreMarked b (set (runners_in l) p e.hole) l.ran) (sym budget) (marked_now l.budget (runners_in l) l.ran p e.hole (hole_rests l.budget e.hole e.gone e.nobody) idle.line.marked);
    held = let fewer = one_fewer (runners_in l) l.ran l.held p t e.hole (many_threads l idle) idle.line.held first (idle.unmarked p) e.gone in let h = held in omega (arith, fewer, h);
    unmarked = idle.unmarked;
    named = named_hole f new.finder (runners_in l) p e.hole keeps e.gone (named_runners f l.slots.items l.waits.waits named);
  })

  pub stopped_standings : standings_in (runners_in new) ≡ without_first t (standings_in (runners_in l))
  stopped_standings = ap standings_in stopped_runners ∙ sym (first_without t (runners_in l) p e.hole first (hole_standing e.hole e.gone))

  pub stopped_told : KeepsTold l new
  stopped_told = record {
    told = told ∙ ap (λ (ws : List (Option Wait)). record l.waits { waits = ws }) (sym (ap (λ (x : Told). x.waits) told));
    budget = budget;
  }

-- ---- a thread is suspended, or isn't any more

module _ (l new : Line) (p : ℕ) (t : ThreadId) (b : Bool) (s1 : List Runner) (t1 : Told) (x : Runner) (idle : IsIdle l) (first : IsFirstAt p t (runners_in l))
    (left : (r : Runner) → slice_get l.slots.items p ≡ Some r → s1 ≡ slice_set l.slots.items p (with_wait (get_or l.waits.waits p None) r)) (told1 : t1 ≡ record l.waits { waits = slice_set l.waits.waits p None })
    (there : slice_get s1 p ≡ Some x)
    (told : (r : Runner) → slice_get (set s1 p (with_flag b x)) p ≡ Some r → new.waits ≡ record t1 { waits = slice_set t1.waits p (wait_of r) })
    (back : (r : Runner) → slice_get (set s1 p (with_flag b x)) p ≡ Some r → new.slots.items ≡ slice_set (set s1 p (with_flag b x)) p (without_wait r))
    (ran : new.ran ≡ l.ran) (held : new.held ≡ l.held) (budget : new.budget ≡ l.budget) (named : AreNamed new.finder l.slots.items) where
  inside : p < length l.slots.items
  inside = let i = slice_get_within (runners_in l) p first.runner first.there in let k = length_with l.slots.items l.waits.waits in omega (arith, i, k)

  abbrev now : Runner
  now = with_flag b x

  here : slice_get (runners_in l) p ≡ Some x
  here = sym (left_there l.slots.items s1 l.waits.waits p inside left) ∙ there

  is_first : first.runner ≡ x
  is_first = let e : Some first.runner ≡ Some x = sym first.there ∙ here in cc e

  long1 : length s1 ≡ length l.slots.items
  long1 = let it = there_is l.slots.items p inside in ap (λ (q : List Runner). length q) (left it.0 it.1) ∙ length-set l.slots.items p (with_wait (get_or l.waits.waits p None) it.0)

  set_here : slice_get (set s1 p now) p ≡ Some now
  set_here = there_set s1 p now (let k = long1 in let i = inside in omega (arith, k, i))

  w1 : t1.waits ≡ slice_set l.waits.waits p None
  w1 = ap (λ (q : Told). q.waits) told1

  w4 : new.waits.waits ≡ slice_set t1.waits p (wait_of now)
  w4 = ap (λ (q : Told). q.waits) (told now set_here)

  flagged_runners : runners_in new ≡ slice_set (runners_in l) p now
  flagged_runners = changed_at l.slots.items s1 (set s1 p now) new.slots.items l.waits.waits t1.waits new.waits.waits p now inside (length_line l.slots.items l.waits.waits idle.line.waits) left w1 refl back w4

  flagged_many : length new.ran ≡ length new.slots.items
  flagged_many = ap (λ (q : List ℕ). length q) ran ∙ idle.line.many ∙ sym (ap (λ (q : List Runner). length q) (back now set_here) ∙ length-set (set s1 p now) p (without_wait now) ∙ length-set s1 p now ∙ long1)

  pub flagged_idle : IsIdle new
  flagged_idle = idle_now l new (set (runners_in l) p now) l.ran (record {
    runners = flagged_runners;
    waits = waits_at (runners_in l) (set (runners_in l) p now) l.waits.waits t1.waits new.waits.waits p now idle.line.waits w1 w4 refl;
    many = flagged_many;
    ran_is = ran;
    marked = subst (λ (k : ℕ). AreMarked k (set (runners_in l) p now) l.ran) (sym budget) (marked_now l.budget (runners_in l) l.ran p now (flag_rests x b l.budget (idle.line.marked p x here (idle.unmarked p))) idle.line.marked);
    held = held ∙ same_held (runners_in l) l.ran l.held p x b (many_threads l idle) idle.line.held here (idle.unmarked p);
    unmarked = idle.unmarked;
    named = named_same new.finder (runners_in l) p x now here (λ h. (h, refl)) (named_runners new.finder l.slots.items l.waits.waits named);
  })

  pub flagged_standings : standings_in (runners_in new) ≡ suspend t b (standings_in (runners_in l))
  flagged_standings =
      let is_held_now : is_held x.stop ≡ true = ap (λ (q : Runner). is_held q.stop) (sym is_first) ∙ first_held p t (runners_in l) first in
      ap standings_in flagged_runners
      ∙ sym (first_suspend t b (runners_in l) p now first (flag_standing x b is_held_now ∙ ap (λ (q : Runner). record (standing_of q) { suspended = b } ∷ []) (sym is_first)))

  pub flagged_told : KeepsTold l new
  flagged_told = record {
    told = told now set_here ∙ ap (λ (q : Told). record q { waits = slice_set t1.waits p (wait_of now) }) told1 ∙ ap (λ (ws : List (Option Wait)). record l.waits { waits = ws }) (sym w4);
    budget = budget;
  }

-- ---- events and ends are told

-- what was told besides the waits changes no thread
pub told_idle : (l : Line) (t : Told) → IsIdle l → t.waits ≡ l.waits.waits → IsIdle (record l { waits = t })
told_idle l t idle same =
    let runners : runners_in (record l { waits = t }) ≡ runners_in l = ap (with_waits l.slots.items) same in
    idle_now l (record l { waits = t }) (runners_in l) l.ran (record {
      runners = runners;
      waits = same ∙ idle.line.waits;
      many = idle.line.many;
      ran_is = refl;
      marked = idle.line.marked;
      held = idle.line.held;
      unmarked = idle.unmarked;
      named = idle.line.named;
    })

pub told_runners : (l : Line) (t : Told) → t.waits ≡ l.waits.waits → with_waits l.slots.items t.waits ≡ runners_in l
told_runners l t same = ap (with_waits l.slots.items) same
