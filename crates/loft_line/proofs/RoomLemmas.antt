-- Lines whose threads have moved together.
use Rattle.std.proofs.Common.{◌≡◌, ℕ, ◌+◌, ◌<◌, true, false, List, refl, sym, ◌∙◌, ap, subst, arith, Option, Some, None, length, get_or, set, map, take, get_or-set_other}
use Rattle.std.specs.Prelude.{slice_get, slice_set}
use Rattle.std.proofs.lemmas.List.{map-set, set-set, length-set, take-map}
use Rattle.std.proofs.lemmas.Option.{slice_get_within}
use Rattle.loft_orders.specs.declared.note.Standing.{Standing}
use Rattle.loft_orders.specs.declared.thread.Wait.{Wait}
use Rattle.loft_passes.specs.declared.runner.Runner.{Runner}
use Rattle.loft_passes.specs.View.{is_held}
use Rattle.loft_ready.specs.Entered.{wait_of}
use Rattle.loft_waits.specs.Told.{Told}
use Rattle.loft_finder.specs.declared.finder.Finder.{Finder}
use Rattle.loft_finder.specs.Finder.{may_stand, KeepsAll, KeepsOthers}
use Rattle.loft_line.specs.declared.line.Line.{Line}
use Rattle.loft_line.specs.Line.{with_wait, without_wait, with_waits, runners_in, standings_in, AreMarked, AreNamed, AreEmpty, AreFull, IsIdle, KeepsTold, HasMoved, IsPacked}
use Rattle.loft_line.proofs.ListLemmas.{there_is, there_set, set_there, with_there, with_set, left_there, kept_is, length_with, length_line, length_left}
use Rattle.loft_line.proofs.LineLemmas.{all_present, get_other, marked_now}
use Rattle.loft_line.proofs.NameLemmas.{named_moved}
use Rattle.loft_line.proofs.BatchLemmas.{hole_waits}
use Rattle.loft_line.proofs.IdleLemmas.{many_threads, idle_now}
use Rattle.loft_line.proofs.PackLemmas.{moved_standings, moved_full, moved_empty, more_empty, with_take, both_take, marked_taken, unmarked_taken, cut_standings, nobody_at, full_length, get_taken}

-- ---- a thread goes to an empty place before it

module _ (l new : Line) (to pos : ℕ) (h r : Runner) (s1 s2 : List Runner) (t1 : Told) (idle : IsIdle l) (order : to < pos) (there : slice_get (runners_in l) to ≡ Some h) (at : slice_get (runners_in l) pos ≡ Some r) (empty : AreEmpty to pos (runners_in l))
    (left : (x : Runner) → slice_get l.slots.items pos ≡ Some x → s1 ≡ slice_set l.slots.items pos (with_wait (get_or l.waits.waits pos None) x)) (told1 : t1 ≡ record l.waits { waits = slice_set l.waits.waits pos None })
    (exchanged : (a b : Runner) → slice_get s1 to ≡ Some a → slice_get s1 pos ≡ Some b → s2 ≡ slice_set (slice_set s1 pos a) to b)
    (told : (x : Runner) → slice_get s2 to ≡ Some x → new.waits ≡ record t1 { waits = slice_set t1.waits to (wait_of x) }) (back : (x : Runner) → slice_get s2 to ≡ Some x → new.slots.items ≡ slice_set s2 to (without_wait x))
    (ran : new.ran ≡ l.ran) (held : new.held ≡ l.held) (budget : new.budget ≡ l.budget)
    (mid : Finder) (adds : KeepsAll l.finder mid) (stands : may_stand mid r.thread.id to ≡ true) (keeps : KeepsOthers pos mid new.finder) where
  abbrev s0 : List Runner
  s0 = l.slots.items

  abbrev w0 : List (Option Wait)
  w0 = l.waits.waits

  within : pos < length s0
  within = let i = slice_get_within (runners_in l) pos r at in let k = length_with l.slots.items l.waits.waits in omega (arith, i, k)

  gone : is_held h.stop ≡ false
  gone = empty to h (omega arith) order there

  apart : to ≡ pos → ⊥
  apart = let o = order in λ e. omega (arith, e, o)

  -- nobody waits at the empty place
  free : get_or w0 to None ≡ None
  free = ap (λ (ws : List (Option Wait)). get_or ws to None) idle.line.waits ∙ nobody_at (runners_in l) to (λ q e. empty to q (omega arith) order e)

  hole_there : slice_get s0 to ≡ Some h
  hole_there =
      let it = there_is s0 to (let o = order in let w = within in omega (arith, o, w)) in
      let is : Some (with_wait (get_or w0 to None) it.0) ≡ Some h = sym (with_there l.slots.items l.waits.waits to it.0 it.1) ∙ there in
      it.1 ∙ ap (λ (w : Option Wait). Some (with_wait w it.0)) (sym free) ∙ is

  s1_is : s1 ≡ set s0 pos (with_wait (get_or w0 pos None) (there_is s0 pos within).0)
  s1_is = left (there_is s0 pos within).0 (there_is s0 pos within).1

  s2_is : s2 ≡ set (set s0 pos h) to r
  s2_is =
      exchanged h r
      (ap (λ (q : List Runner). slice_get q to) s1_is ∙ get_other s0 pos to (with_wait (get_or w0 pos None) (there_is s0 pos within).0) apart ∙ hole_there)
      (left_there l.slots.items s1 l.waits.waits pos within left ∙ at)
      ∙ ap (λ (q : List Runner). set (set q pos h) to r) s1_is
      ∙ ap (λ (q : List Runner). set q to r) (set-set s0 pos (with_wait (get_or w0 pos None) (there_is s0 pos within).0) h)

  long1 : length (set s0 pos h) ≡ length s0
  long1 = length-set s0 pos h

  r_there : slice_get s2 to ≡ Some r
  r_there = ap (λ (q : List Runner). slice_get q to) s2_is ∙ there_set (set s0 pos h) to r (let o = order in let w = within in let k = long1 in omega (arith, o, w, k))

  s3_is : new.slots.items ≡ set (set s0 pos h) to (without_wait r)
  s3_is = back r r_there ∙ ap (λ (q : List Runner). set q to (without_wait r)) s2_is ∙ set-set (set s0 pos h) to r (without_wait r)

  w3_is : new.waits.waits ≡ set (set w0 pos None) to (wait_of r)
  w3_is = ap (λ (t : Told). t.waits) (told r r_there) ∙ ap (λ (t : Told). set t.waits to (wait_of r)) told1

  long0 : length w0 ≡ length s0
  long0 = length_line l.slots.items l.waits.waits idle.line.waits

  moved_runners : runners_in new ≡ set (set (runners_in l) pos h) to r
  moved_runners =
      ap (λ (q : List Runner). with_waits q new.waits.waits) s3_is
      ∙ ap (with_waits (set (set s0 pos h) to (without_wait r))) w3_is
      ∙ with_set (set s0 pos h) (set w0 pos None) to (without_wait r) (wait_of r) (length-set w0 pos None ∙ long0 ∙ sym long1)
      ∙ ap (λ (q : Runner). set (with_waits (set s0 pos h) (set w0 pos None)) to q) (kept_is r)
      ∙ ap (λ (q : List Runner). set q to r) (with_set s0 w0 pos h None long0)

  moved_waits : new.waits.waits ≡ map wait_of (set (set (runners_in l) pos h) to r)
  moved_waits =
      w3_is
      ∙ ap (λ (ws : List (Option Wait)). set (set ws pos None) to (wait_of r)) idle.line.waits
      ∙ ap (λ (w : Option Wait). set (set (map wait_of (runners_in l)) pos w) to (wait_of r)) (sym (hole_waits h gone))
      ∙ ap (λ (ws : List (Option Wait)). set ws to (wait_of r)) (sym (map-set wait_of (runners_in l) pos h))
      ∙ sym (map-set wait_of (set (runners_in l) pos h) to r)

  moved_long : length new.slots.items ≡ length l.slots.items
  moved_long = ap (λ (q : List Runner). length q) s3_is ∙ length-set (set s0 pos h) to (without_wait r) ∙ long1

  lined : standings_in (set (set (runners_in l) pos h) to r) ≡ standings_in (runners_in l)
  lined = moved_standings (runners_in l) to pos h r (let o = order in omega (arith, o)) there at empty

  many_moved : length l.ran ≡ length (set (set (runners_in l) pos h) to r)
  many_moved = many_threads l idle ∙ sym (length-set (set (runners_in l) pos h) to r ∙ length-set (runners_in l) pos h)

  moved_idle : IsIdle new
  moved_idle = idle_now l new (set (set (runners_in l) pos h) to r) l.ran (record {
    runners = moved_runners;
    waits = moved_waits;
    many = ap (λ (b : List ℕ). length b) ran ∙ idle.line.many ∙ sym moved_long;
    ran_is = ran;
    marked = subst (λ (b : ℕ). AreMarked b (set (set (runners_in l) pos h) to r) l.ran) (sym budget)
        (marked_now l.budget (set (runners_in l) pos h) l.ran to r (idle.line.marked pos r at (idle.unmarked pos))
        (marked_now l.budget (runners_in l) l.ran pos h (idle.line.marked to h there (idle.unmarked to)) idle.line.marked));
    held = held ∙ idle.line.held ∙ all_present (runners_in l) l.ran (many_threads l idle) idle.unmarked
        ∙ ap (λ (s : List Standing). length s) (sym lined)
        ∙ sym (all_present (set (set (runners_in l) pos h) to r) l.ran many_moved idle.unmarked);
    unmarked = idle.unmarked;
    named = named_moved l.finder mid new.finder (runners_in l) to pos h r apart gone adds stands keeps idle.line.named;
  })

  moved_told : KeepsTold l new
  moved_told = record {
    told = told r r_there ∙ ap (λ (t : Told). record t { waits = slice_set t.waits to (wait_of r) }) told1 ∙ ap (λ (ws : List (Option Wait)). record l.waits { waits = ws }) (sym w3_is);
    budget = budget;
  }

  pub has_moved : HasMoved to pos l new
  has_moved = record {
    idle = moved_idle;
    told = moved_told;
    long = moved_long;
    runners = λ a b e f.
        let same : Some h ≡ Some a = sym there ∙ e in
        let also : Some r ≡ Some b = sym at ∙ f in
        let a_is : h ≡ a = cc same in
        let b_is : r ≡ b = cc also in
        moved_runners ∙ ap (λ (q : Runner). set (set (runners_in l) pos q) to r) a_is ∙ ap (set (set (runners_in l) pos a) to) b_is;
  }

-- what the calls of a move ask for
pub room_long : (l : Line) (to pos : ℕ) (s1 s2 : List Runner) → pos < length l.slots.items → to < pos → ((x : Runner) → slice_get l.slots.items pos ≡ Some x → s1 ≡ slice_set l.slots.items pos (with_wait (get_or l.waits.waits pos None) x))
    → ((a b : Runner) → slice_get s1 to ≡ Some a → slice_get s1 pos ≡ Some b → s2 ≡ slice_set (slice_set s1 pos a) to b) → length s2 ≡ length l.slots.items
room_long l to pos s1 s2 within order left exchanged =
    let long = length_left l.slots.items s1 l.waits.waits pos within left in
    let a = there_is s1 to (omega (arith, within, order, long)) in
    let b = there_is s1 pos (omega (arith, within, long)) in
    ap (λ (q : List Runner). length q) (exchanged a.0 b.0 a.1 b.1) ∙ length-set (set s1 pos a.0) to b.0 ∙ length-set s1 pos a.0 ∙ long

pub room_waits : (l : Line) (pos : ℕ) (t1 : Told) → IsIdle l → t1 ≡ record l.waits { waits = slice_set l.waits.waits pos None } → length t1.waits ≡ length l.slots.items
room_waits l pos t1 idle told1 = ap (λ (t : Told). length t.waits) told1 ∙ length-set l.waits.waits pos None ∙ length_line l.slots.items l.waits.waits idle.line.waits

pub room_free : (l : Line) (to pos : ℕ) (t1 : Told) → IsIdle l → to < pos → AreEmpty to pos (runners_in l) → t1 ≡ record l.waits { waits = slice_set l.waits.waits pos None } → get_or t1.waits to None ≡ None
room_free l to pos t1 idle order empty told1 =
    ap (λ (t : Told). get_or t.waits to None) told1
    ∙ get_or-set_other l.waits.waits pos to None None (λ e. omega (arith, e, order))
    ∙ ap (λ (ws : List (Option Wait)). get_or ws to None) idle.line.waits
    ∙ nobody_at (runners_in l) to (λ q e. empty to q (omega arith) order e)

-- where it stands at its place already
pub not_moved : (l : Line) (to pos : ℕ) → IsIdle l → to ≡ pos → HasMoved to pos l l
not_moved l to pos idle same = record {
  idle = idle;
  told = record { told = refl; budget = refl };
  long = refl;
  runners = λ h r there at.
      let both : Some h ≡ Some r = sym there ∙ ap (slice_get (runners_in l)) same ∙ at in
      let is : h ≡ r = cc both in
      sym (ap (λ (q : List Runner). set q to r) (ap (set (runners_in l) pos) is ∙ set_there (runners_in l) pos r at)
      ∙ set_there (runners_in l) to r (ap (slice_get (runners_in l)) same ∙ at));
}

-- ---- all threads, one after the other

keeps_both : (a b c : Line) → KeepsTold a b → KeepsTold b c → KeepsTold a c
keeps_both a b c first second = record {
  told = second.told ∙ ap (λ (t : Told). record t { waits = c.waits.waits }) first.told;
  budget = second.budget ∙ first.budget;
}

pub packed_first : (l : Line) → IsIdle l → IsPacked 0 0 l l
packed_first l idle = record {
  idle = idle;
  told = record { told = refl; budget = refl };
  long = refl;
  linked = refl;
  order = omega arith;
  full = λ i q below at. absurd (omega (arith, below));
  empty = λ i q from below at. absurd (omega (arith, below));
}

pub packed_next : (old l new : Line) (next pos : ℕ) (r : Runner) → IsPacked next pos old l → slice_get (runners_in l) pos ≡ Some r → is_held r.stop ≡ true → HasMoved next pos l new → IsPacked (next + 1) (pos + 1) old new
packed_next old l new next pos r p at held m =
    let order = p.order in
    let within = slice_get_within (runners_in l) pos r at in
    let it = there_is (runners_in l) next (omega (arith, order, within)) in
    let is = m.runners it.0 r it.1 at in
    record {
      idle = m.idle;
      told = keeps_both old l new p.told m.told;
      long = m.long ∙ p.long;
      linked = ap standings_in is ∙ moved_standings (runners_in l) next pos it.0 r order it.1 at p.empty ∙ p.linked;
      order = omega (arith, order);
      full = subst (AreFull (next + 1)) (sym is) (moved_full (runners_in l) next pos it.0 r order held p.full);
      empty = subst (AreEmpty (next + 1) (pos + 1)) (sym is) (moved_empty (runners_in l) next pos it.0 r it.1 p.empty);
    }

pub packed_skip : (old l : Line) (next pos : ℕ) (r : Runner) → IsPacked next pos old l → slice_get (runners_in l) pos ≡ Some r → is_held r.stop ≡ false → IsPacked next (pos + 1) old l
packed_skip old l next pos r p at gone =
    let order = p.order in
    record {
      idle = p.idle;
      told = p.told;
      long = p.long;
      linked = p.linked;
      order = omega (arith, order);
      full = p.full;
      empty = more_empty (runners_in l) next pos r at gone p.empty;
    }

-- ---- the first places are left

module _ (l new : Line) (n : ℕ) (idle : IsIdle l) (empty : AreEmpty n (length l.slots.items) (runners_in l)) (slots : new.slots.items ≡ take n l.slots.items) (told : new.waits ≡ record l.waits { waits = take n l.waits.waits })
    (ran : new.ran ≡ take n l.ran) (held : new.held ≡ l.held) (budget : new.budget ≡ l.budget) (finder : new.finder ≡ l.finder) where
  all_empty : AreEmpty n (length (runners_in l)) (runners_in l)
  all_empty = let k = length_with l.slots.items l.waits.waits in λ i q from below at. empty i q from (omega (arith, below, k)) at

  cut_waits : new.waits.waits ≡ take n l.waits.waits
  cut_waits = ap (λ (t : Told). t.waits) told

  pub cut_runners : runners_in new ≡ take n (runners_in l)
  cut_runners = ap (λ (q : List Runner). with_waits q new.waits.waits) slots ∙ ap (with_waits (take n l.slots.items)) cut_waits ∙ with_take n l.slots.items l.waits.waits

  pub cut_linked : standings_in (runners_in new) ≡ standings_in (runners_in l)
  cut_linked = ap standings_in cut_runners ∙ cut_standings n (runners_in l) all_empty

  pub cut_idle : IsIdle new
  cut_idle = idle_now l new (take n (runners_in l)) (take n l.ran) (record {
    runners = cut_runners;
    waits = cut_waits ∙ ap (λ (ws : List (Option Wait)). take n ws) idle.line.waits ∙ take-map wait_of n (runners_in l);
    many = ap (λ (b : List ℕ). length b) ran ∙ both_take n l.ran l.slots.items idle.line.many ∙ sym (ap (λ (q : List Runner). length q) slots);
    ran_is = ran;
    marked = subst (λ (b : ℕ). AreMarked b (take n (runners_in l)) (take n l.ran)) (sym budget) (marked_taken l.budget n (runners_in l) l.ran idle.unmarked idle.line.marked);
    held = held ∙ idle.line.held ∙ all_present (runners_in l) l.ran (many_threads l idle) idle.unmarked
        ∙ ap (λ (s : List Standing). length s) (sym (cut_standings n (runners_in l) all_empty))
        ∙ sym (all_present (take n (runners_in l)) (take n l.ran) (both_take n l.ran (runners_in l) (many_threads l idle)) (unmarked_taken n l.ran idle.unmarked));
    unmarked = unmarked_taken n l.ran idle.unmarked;
    named = subst (λ (f : Finder). AreNamed f (take n (runners_in l))) (sym finder) (λ i r at h. idle.line.named i r (get_taken n (runners_in l) i r at) h);
  })

  pub cut_told : KeepsTold l new
  cut_told = record { told = told ∙ ap (λ (ws : List (Option Wait)). record l.waits { waits = ws }) (sym cut_waits); budget = budget }

-- nobody waits from there on
pub free_from : (l : Line) (n : ℕ) → IsIdle l → AreEmpty n (length l.slots.items) (runners_in l) → Rattle.loft_waits.specs.Told.IsFreeFrom l.waits n
free_from l n idle empty = λ i from.
    let k = length_with l.slots.items l.waits.waits in
    ap (λ (ws : List (Option Wait)). get_or ws i None) idle.line.waits
    ∙ nobody_at (runners_in l) i (λ q at. empty i q from (let w = slice_get_within (runners_in l) i q at in omega (arith, w, k)) at)

-- all places are taken, once every thread has moved
pub packed_places : (old l new : Line) (next pos : ℕ) → IsPacked next pos old l → length new.slots.items ≡ next → standings_in (runners_in new) ≡ standings_in (runners_in l) → runners_in new ≡ take next (runners_in l) → length new.slots.items ≡ length (standings_in (runners_in new))
packed_places old l new next pos p long linked is =
    let k = length_with new.slots.items new.waits.waits in
    let full : AreFull (length (runners_in new)) (runners_in new) = λ i q below at. p.full i q (omega (arith, below, k, long)) (Rattle.loft_line.proofs.PackLemmas.get_taken next (runners_in l) i q (ap (λ (rs : List Runner). slice_get rs i) (sym is) ∙ at)) in
    sym (full_length (runners_in new) full ∙ k)
