-- What threads meet stands where it may.
use Rattle.std.proofs.Common.{◌≡◌, ℕ, zero, suc, inl, inr, List, [], ◌∷◌, ◌++◌, Option, Some, None, slice_get, refl, sym, ap, subst, ◌∙◌}
use Rattle.loft_base.specs.declared.ids.SchedId.{SchedId}
use Rattle.loft_base.specs.declared.ids.ModuleId.{ModuleId}
use Rattle.loft_base.specs.declared.ids.Value.{Value}
use Rattle.loft_tree.specs.declared.heads.Place.{Place}
use Rattle.loft_tree.specs.declared.heads.Place.TheVariants.{Sched}
use Rattle.loft_tree.specs.declared.heads.Signature.{Signature}
use Rattle.loft_tree.specs.declared.heads.Heads.{Heads}
use Rattle.loft_tree.specs.HeadsFit.{TakesIn, HeadsFit}
use Rattle.loft_tree.specs.NamedFits.{NamedFits}
use Rattle.loft_tree.specs.NamedTree.{NamedCreation, NamedStatement, Run, If, While, Repeat, NamedStatements, Done, Then, NamedModule, NamedProgram}
use Rattle.loft_place.specs.Links.{Need, AreMet, MayStand, GoesThrough, Goes, IsPlaced, begin_of, made_needs, creation_needs}
use Rattle.loft_place.specs.Reaches.{Times, MayLead, BodyLeads, MayMeetInside, MayMeet, IsModule, MeetsWithin, Makes, IsMadeOutside, BeginsWithin, statements_in}
use Rattle.loft_place.proofs.Declared.{module_goes, body_is_declared, start_fits, create_fits}

-- what leads back leads back however often
times_back : (One : Place → Place → Type 0) (n : ℕ) (p q : Place) → ((r : Place) → One p r → r ≡ p) → Times One n p q → q ≡ p
times_back One zero p q back there = there
times_back One (suc n) p q back there =
    times_back One n p q back (subst (λ (k : Place). Times One n k q) (back there.0 there.1) there.2)

-- whichever way is taken leads where the statement or the body goes
mutual
  leads_through : (s : NamedStatement) (h : Heads) (p q r : Place) → GoesThrough h p s q → MayLead h s p r → r ≡ q
  leads_through (If at test first second) h p q r goes (inl left) = leads first h p q r goes.1 left
  leads_through (If at test first second) h p q r goes (inr right) = leads second h p q r goes.2 right
  leads_through (While at test body) h p q r goes turns =
      times_back (BodyLeads h body) turns.0 p r (λ k once. leads body h p p k goes.1 once) turns.1 ∙ sym goes.2
  leads_through (Repeat at count body) h p q r goes turns =
      times_back (BodyLeads h body) turns.0 p r (λ k once. leads body h p p k goes.1 once) turns.1 ∙ sym goes.2
  leads_through s h p q r goes there = there ∙ sym goes.1

  leads : (body : NamedStatements) (h : Heads) (p q r : Place) → Goes h p body q → BodyLeads h body p r → r ≡ q
  leads Done h p q r goes there = there ∙ sym goes
  leads (Then first rest) h p q r goes there =
      leads rest h goes.0 q r goes.2
      (subst (λ (k : Place). BodyLeads h rest k r) (leads_through first h p goes.0 there.0 goes.1 there.1) there.2)

-- what a thread goes through may stand there
stands : (s : NamedStatement) (h : Heads) (p q : Place) → GoesThrough h p s q → MayStand h p s
stands (If at test first second) h p q goes = goes.0
stands (While at test body) h p q goes = goes.0
stands (Repeat at count body) h p q goes = goes.0
stands s h p q goes = goes.0

-- what is met in a body that goes somewhere may stand where it is met
mutual
  inside_stands : (x : NamedStatement) (h : Heads) (p q : Place) (s : NamedStatement) (r : Place) → GoesThrough h p x q → MayMeetInside h x p s r → MayStand h r s
  inside_stands (If at test first second) h p q s r goes (inl met) = met_stands first h p q s r goes.1 met
  inside_stands (If at test first second) h p q s r goes (inr met) = met_stands second h p q s r goes.2 met
  inside_stands (While at test body) h p q s r goes (n, k, turns, met) =
      let back = times_back (BodyLeads h body) n p k (λ t once. leads body h p p t goes.1 once) turns in
      met_stands body h p p s r goes.1 (subst (λ (t : Place). MayMeet h body t s r) back met)
  inside_stands (Repeat at count body) h p q s r goes (n, k, turns, met) =
      let back = times_back (BodyLeads h body) n p k (λ t once. leads body h p p t goes.1 once) turns in
      met_stands body h p p s r goes.1 (subst (λ (t : Place). MayMeet h body t s r) back met)
  inside_stands x h p q s r goes met = absurd met

  pub met_stands : (body : NamedStatements) (h : Heads) (p q : Place) (s : NamedStatement) (r : Place) → Goes h p body q → MayMeet h body p s r → MayStand h r s
  met_stands Done h p q s r goes met = absurd met
  met_stands (Then first rest) h p q s r goes (inl here) =
      subst (λ (k : Place). MayStand h k s) (sym here.1)
      (subst (λ (x : NamedStatement). MayStand h p x) (sym here.0) (stands first h p goes.0 goes.1))
  met_stands (Then first rest) h p q s r goes (inr (inl met)) = inside_stands first h p goes.0 s r goes.1 met
  met_stands (Then first rest) h p q s r goes (inr (inr (k, there, met))) =
      met_stands rest h goes.0 q s r goes.2
      (subst (λ (t : Place). MayMeet h rest t s r) (leads_through first h p goes.0 k goes.1 there) met)

-- ---- programs

after_met : (ms ns : List Need) → AreMet (ms ++ ns) → AreMet ns
after_met [] ns met = met
after_met (m ∷ ms) ns met = after_met ms ns met.1

-- what is met in a module may stand there
pub module_stands : (n : NamedProgram) (m : ModuleId) (signature : Signature) (x : NamedModule) (s : NamedStatement) (q : Place)
    → NamedFits n → IsPlaced n → IsModule n m signature x → MayMeet n.heads x.body signature.begin s q → MayStand n.heads q s
module_stands n m signature x s q fits placed is met =
    met_stands x.body n.heads signature.begin signature.end s q (module_goes n m signature x fits placed is) met

-- and a thread that comes to its end is linked where it declares
pub module_ends : (n : NamedProgram) (m : ModuleId) (signature : Signature) (x : NamedModule) (q : Place)
    → NamedFits n → IsPlaced n → IsModule n m signature x → BodyLeads n.heads x.body signature.begin q → q ≡ signature.end
module_ends n m signature x q fits placed is there =
    leads x.body n.heads signature.begin signature.end q (module_goes n m signature x fits placed is) there

-- a module that is begun where it begins
module_body_stands : (n : NamedProgram) (m : ModuleId) (p : Place) (s : NamedStatement) (q : Place) (body : Option NamedModule) → NamedFits n → IsPlaced n
    → body ≡ slice_get n.modules m.0 → begin_of (slice_get n.heads.modules m.0) ≡ p → MayMeet n.heads (statements_in body) p s q → MayStand n.heads q s
module_body_stands n m p s q None fits placed is begins met = absurd met
module_body_stands n m p s q (Some x) fits placed is begins met =
    let (signature, whole) = body_is_declared n m x fits (sym is) in
    let begin : signature.begin ≡ p = sym (ap begin_of whole.head) ∙ begins in
    module_stands n m signature x s q fits placed whole (subst (λ (k : Place). MayMeet n.heads x.body k s q) (sym begin) met)

within_stands : (depth : ℕ) (n : NamedProgram) (m : ModuleId) (p : Place) (s : NamedStatement) (q : Place) → NamedFits n → IsPlaced n
    → begin_of (slice_get n.heads.modules m.0) ≡ p → MeetsWithin n depth m p s q → MayStand n.heads q s
within_stands zero n m p s q fits placed begins met = module_body_stands n m p s q (slice_get n.modules m.0) fits placed refl begins met
within_stands (suc depth) n m p s q fits placed begins (at, stop, called, k, arguments, r, met, inside) =
    let run = module_body_stands n m p (Run at stop called k arguments) r (slice_get n.modules m.0) fits placed refl begins met in
    within_stands depth n k r s q fits placed run.met.0 inside

-- a statement that makes a thread names the scheduler where its module begins
made_right : (h : Heads) (p : Place) (s : NamedStatement) (creation : NamedCreation) → Makes s creation → MayStand h p s
    → begin_of (slice_get h.modules creation.«module».0) ≡ Sched creation.scheduler
made_right h p s creation (at, target, is) may =
    (after_met (made_needs h p target) (creation_needs h p creation) (subst (MayStand h p) is may).met).0

begins_there : (s : SchedId) (declared : Option Signature) (arguments : List Value) → TakesIn s declared arguments → begin_of declared ≡ Sched s
begins_there s None arguments takes = absurd takes
begins_there s (Some m) arguments takes = takes.0

-- what is made outside module bodies can begin in its scheduler
made_fits : (n : NamedProgram) (s : SchedId) (m : ModuleId) (arguments : List Value) → NamedFits n → IsPlaced n → IsMadeOutside n.heads s m arguments
    → HeadsFit n.heads s m arguments
made_fits n s m arguments fits placed (inl (number, t, at, there, of, with)) =
    subst (λ (k : SchedId). HeadsFit n.heads k m arguments) there
    (subst (λ (k : ModuleId). HeadsFit n.heads t.scheduler k arguments) of
    (subst (HeadsFit n.heads t.scheduler t.module) with (start_fits n number t fits placed at)))
made_fits n s m arguments fits placed (inr (client, c, at, number, ordered)) = create_fits n client c number s m arguments fits placed at ordered

-- each thread begins where its module begins
pub begins_right : (away : ℕ) (n : NamedProgram) (m : ModuleId) (p : Place) → NamedFits n → IsPlaced n → BeginsWithin n away m p
    → begin_of (slice_get n.heads.modules m.0) ≡ p
begins_right zero n m p fits placed (s, arguments, made, at) =
    begins_there s (slice_get n.heads.modules m.0) arguments (made_fits n s m arguments fits placed made).1 ∙ at
begins_right (suc away) n m p fits placed (maker, begin, begins, depth, s, q, met, creation, makes, is, at) =
    let may = within_stands depth n maker begin s q fits placed (begins_right away n maker begin fits placed begins) met in
    subst (λ (k : ModuleId). begin_of (slice_get n.heads.modules k.0) ≡ p) is (made_right n.heads q s creation makes may ∙ at)

-- whatever a thread of a program meets may stand there
pub thread_stands : (n : NamedProgram) (away : ℕ) (m : ModuleId) (p : Place) (depth : ℕ) (s : NamedStatement) (q : Place) → NamedFits n → IsPlaced n
    → BeginsWithin n away m p → MeetsWithin n depth m p s q → MayStand n.heads q s
thread_stands n away m p depth s q fits placed begins met =
    within_stands depth n m p s q fits placed (begins_right away n m p fits placed begins) met

pub ruleset reaching = (met_stands, module_ends, thread_stands, begins_right)
