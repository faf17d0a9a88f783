-- What the command found is what it comes to.
use Rattle.std.proofs.Common.{◌≡◌, ℕ, List, Option, Some, None, Result, Ok, Err, IfErr, refl, sym, ap, subst, ◌∙◌}
use Rattle.loft_base.specs.declared.ids.SchedId.{SchedId}
use Rattle.loft_tree.specs.declared.heads.Heads.{Heads}
use Rattle.loft_tree.specs.Source.{Source}
use Rattle.loft_sense.specs.Machine.{Prog, heads}
use Rattle.loft_refusal.specs.Refusals.{IsCause}
use Rattle.loft_refusal.specs.declared.refusal.Refusal.{Refusal}
use Rattle.loft_commands.specs.Asks.{asks_well}
use Rattle.loft_replay.specs.Named.{scheduler_named}
use Rattle.loft_replay_command.specs.declared.answer.Answer.{Answer}
use Rattle.loft_replay_command.specs.declared.refusal.LogRefusal.{LogRefusal}
use Rattle.loft_replay_command.specs.declared.refusal.ReplayStop.{ReplayStop}
use Rattle.loft_replay_command.specs.declared.refusal.ReplayStop.TheVariants as stop
use Rattle.loft_replay_command.specs.Replay.{IsWellSourceOf, program_tree, HasNoScheduler, IsSourceStop, ReportComesTo, ReplayComesTo, BlockComesTo}
use Rattle.loft_replay_command.specs.Finding.{seen, IsNamed, CheckComesTo, Found, IsOfReport, IsUnsound, Shows, IsOutcome, IsOfThis, Finds}
use Rattle.loft_replay_command.proofs.Sources.{Laws, same_source, well_refused, one_refusal}

-- ---- the name

one_number : (j k : ℕ) (o : Option ℕ) → o ≡ Some j → o ≡ Some k → j ≡ k
one_number j k o p q = cc

report_check : (x : Prog) (only : Option (List ℕ)) (s : Option SchedId) → IsNamed (heads x) only s → (r : List ℕ) (a : Result (List ℕ) LogRefusal) → ReportComesTo x only r a → CheckComesTo x s r a
report_check x None None named r a comes = comes
report_check x None (Some s) named r a comes = absurd named
report_check x (Some name) None named r a comes = absurd named
report_check x (Some name) (Some s) named r a (k, is, comes) = subst (λ (i : ℕ). BlockComesTo x i r a) (one_number k s.0 (scheduler_named (heads x) name) is named.0) comes

check_report : (x : Prog) (only : Option (List ℕ)) (s : Option SchedId) → IsNamed (heads x) only s → (r : List ℕ) (a : Result (List ℕ) LogRefusal) → CheckComesTo x s r a → ReportComesTo x only r a
check_report x None None named r a comes = comes
check_report x None (Some s) named r a comes = absurd named
check_report x (Some name) None named r a comes = absurd named
check_report x (Some name) (Some s) named r a comes = (s.0, named.0, comes)

-- a scheduler that is named is declared
named_declared : (h : Heads) (only : Option (List ℕ)) (s : Option SchedId) → IsNamed h only s → HasNoScheduler h only → ⊥
named_declared h None None named none = none
named_declared h None (Some s) named none = named
named_declared h (Some name) None named none = named
named_declared h (Some name) (Some s) named none = let p = named.0 in cc

-- a report comes to nothing by a scheduler that isn't declared
report_declared : (x : Prog) (only : Option (List ℕ)) (r : List ℕ) (a : Result (List ℕ) LogRefusal) → ReportComesTo x only r a → HasNoScheduler (heads x) only → ⊥
report_declared x None r a comes none = none
report_declared x (Some name) r a (k, is, comes) none = cc

-- ---- the source is refused

abbrev Contents : Type 0
Contents = Option (List ℕ)

same_contents : (o : Contents) (s t : List ℕ) → o ≡ Some s → o ≡ Some t → t ≡ s
same_contents o s t p q = cc

unsound_says : (only : Contents) (s : List ℕ) (e : ReplayStop) → IsUnsound s e → IsOfThis only s (Err e)
unsound_says only s (stop.Source r) is = is
unsound_says only s stop.UnknownScheduler is = absurd is
unsound_says only s (stop.Log l) is = tt
unsound_says only s stop.FileFault is = tt
unsound_says only s stop.SinkFault is = tt
unsound_says only s stop.NoMemory is = tt

unsound_outcome : (only : Contents) (s r : List ℕ) (e : ReplayStop) → IsUnsound s e → IsOutcome only s r (Err e)
unsound_outcome only s r (stop.Source q) is = is
unsound_outcome only s r stop.UnknownScheduler is = absurd is
unsound_outcome only s r (stop.Log l) is = absurd is
unsound_outcome only s r stop.FileFault is = tt
unsound_outcome only s r stop.SinkFault is = absurd is
unsound_outcome only s r stop.NoMemory is = tt

refused_stop : (laws : Laws) (only : Contents) (s : List ℕ) (q : Refusal) → asks_well q → IsCause s q → (e : ReplayStop) → IsSourceStop only s e → e ≡ stop.Source q
refused_stop laws only s q asks cause (stop.Source r) is = ap (λ (i : Refusal). stop.Source i) (one_refusal laws s q r asks cause is.0 is.1)
refused_stop laws only s q asks cause stop.UnknownScheduler (p, well, none) = absurd (well_refused laws s p q well asks cause)
refused_stop laws only s q asks cause (stop.Log l) is = absurd is
refused_stop laws only s q asks cause stop.FileFault is = absurd is
refused_stop laws only s q asks cause stop.SinkFault is = absurd is
refused_stop laws only s q asks cause stop.NoMemory is = absurd is

unsound_stop : (laws : Laws) (only : Contents) (s : List ℕ) (e : ReplayStop) → IsUnsound s e → (d : ReplayStop) → IsSourceStop only s d → Shows (Err e) (Err d)
unsound_stop laws only s (stop.Source q) is d other = ap (λ (i : ReplayStop). Err i) (refused_stop laws only s q is.0 is.1 d other)
unsound_stop laws only s stop.UnknownScheduler is d other = absurd is
unsound_stop laws only s (stop.Log l) is d other = absurd is
unsound_stop laws only s stop.FileFault is d other = tt
unsound_stop laws only s stop.SinkFault is d other = absurd is
unsound_stop laws only s stop.NoMemory is d other = tt

unsound_well : (laws : Laws) (s : List ℕ) (e : ReplayStop) → IsUnsound s e → (p : Source) → IsWellSourceOf s p → (outcome : Result (List ℕ) ReplayStop) → Shows (Err e) outcome
unsound_well laws s (stop.Source q) is p well outcome = absurd (well_refused laws s p q well is.0 is.1)
unsound_well laws s stop.UnknownScheduler is p well outcome = absurd is
unsound_well laws s (stop.Log l) is p well outcome = absurd is
unsound_well laws s stop.FileFault is p well outcome = tt
unsound_well laws s stop.SinkFault is p well outcome = absurd is
unsound_well laws s stop.NoMemory is p well outcome = tt

unsound_only : (laws : Laws) (only : Contents) (s r : List ℕ) (e : ReplayStop) → IsUnsound s e → (outcome : Result (List ℕ) ReplayStop) → ReplayComesTo only s r outcome → Shows (Err e) outcome
unsound_only laws only s r e is (Ok text) (p, well, comes) = unsound_well laws s e is p well (Ok text)
unsound_only laws only s r e is (Err (stop.Log l)) (p, well, comes) = unsound_well laws s e is p well (Err (stop.Log l))
unsound_only laws only s r e is (Err (stop.Source q)) comes = unsound_stop laws only s e is (stop.Source q) comes
unsound_only laws only s r e is (Err stop.UnknownScheduler) comes = unsound_stop laws only s e is stop.UnknownScheduler comes
unsound_only laws only s r e is (Err stop.FileFault) comes = absurd comes
unsound_only laws only s r e is (Err stop.SinkFault) comes = absurd comes
unsound_only laws only s r e is (Err stop.NoMemory) comes = absurd comes

pub unsound_finds : (laws : Laws) (only source report : Contents) (e : ReplayStop) → ((s : List ℕ) → source ≡ Some s → IsUnsound s e) → Finds only source report (Err e)
unsound_finds laws only source report e is = record {
  source_says = λ s k. unsound_says only s e (is s k);
  both_say = λ s r k l. unsound_outcome only s r e (is s k);
  source_only = λ s d k other. unsound_stop laws only s e (is s k) d other;
  no_other = λ s r outcome k l comes. unsound_only laws only s r e (is s k) outcome comes;
}

-- ---- the scheduler is unknown

-- the source is that of a program
abbrev pub IsRead : Contents → Prog → Type 0
IsRead source x = (s : List ℕ) → source ≡ Some s → (p : Source) × IsWellSourceOf s p × (x ≡ program_tree p)

unknown_stop : (laws : Laws) (only : Contents) (s : List ℕ) (p : Source) → IsWellSourceOf s p → (d : ReplayStop) → IsSourceStop only s d → d ≡ stop.UnknownScheduler
unknown_stop laws only s p well (stop.Source r) is = absurd (well_refused laws s p r well is.0 is.1)
unknown_stop laws only s p well stop.UnknownScheduler is = refl
unknown_stop laws only s p well (stop.Log l) is = absurd is
unknown_stop laws only s p well stop.FileFault is = absurd is
unknown_stop laws only s p well stop.SinkFault is = absurd is
unknown_stop laws only s p well stop.NoMemory is = absurd is

unknown_only : (laws : Laws) (only : Contents) (s r : List ℕ) (p : Source) → IsWellSourceOf s p → HasNoScheduler (heads (program_tree p)) only → (outcome : Result (List ℕ) ReplayStop) → ReplayComesTo only s r outcome → outcome ≡ Err stop.UnknownScheduler
unknown_only laws only s r p well none (Ok text) (q, also, comes) =
    absurd (report_declared (program_tree p) only r (Ok text) (subst (λ (i : Source). ReportComesTo (program_tree i) only r (Ok text)) (same_source laws s q p also.0 well.0) comes) none)
unknown_only laws only s r p well none (Err (stop.Log l)) (q, also, comes) =
    absurd (report_declared (program_tree p) only r (Err l) (subst (λ (i : Source). ReportComesTo (program_tree i) only r (Err l)) (same_source laws s q p also.0 well.0) comes) none)
unknown_only laws only s r p well none (Err (stop.Source q)) comes = ap (λ (i : ReplayStop). Err i) (unknown_stop laws only s p well (stop.Source q) comes)
unknown_only laws only s r p well none (Err stop.UnknownScheduler) comes = refl
unknown_only laws only s r p well none (Err stop.FileFault) comes = absurd comes
unknown_only laws only s r p well none (Err stop.SinkFault) comes = absurd comes
unknown_only laws only s r p well none (Err stop.NoMemory) comes = absurd comes

unknown_says : (only : Contents) (s : List ℕ) (x : Prog) (p : Source) → IsWellSourceOf s p → x ≡ program_tree p → HasNoScheduler (heads x) only → IsSourceStop only s stop.UnknownScheduler
unknown_says only s x p well same none = (p, well, subst (λ (y : Prog). HasNoScheduler (heads y) only) same none)

pub unknown_finds : (laws : Laws) (only source report : Contents) (x : Prog) → IsRead source x → HasNoScheduler (heads x) only → Finds only source report (Err stop.UnknownScheduler)
unknown_finds laws only source report x read none = record {
  source_says = λ s k. let (p, well, same) = read s k in unknown_says only s x p well same none;
  both_say = λ s r k l. let (p, well, same) = read s k in unknown_says only s x p well same none;
  source_only = λ s d k other. let (p, well, same) = read s k in ap (λ (i : ReplayStop). Err i) (unknown_stop laws only s p well d other);
  no_other = λ s r outcome k l comes. let (p, well, same) = read s k in unknown_only laws only s r p well (subst (λ (y : Prog). HasNoScheduler (heads y) only) same none) outcome comes;
}

-- ---- the report was checked

-- a source that is read and has the scheduler isn't refused
pub sound_stop : (laws : Laws) (only : Contents) (s : List ℕ) (x : Prog) (p : Source) (n : Option SchedId) → IsWellSourceOf s p → x ≡ program_tree p → IsNamed (heads x) only n → (d : ReplayStop) → IsSourceStop only s d → ⊥
sound_stop laws only s x p n well same named (stop.Source r) is = well_refused laws s p r well is.0 is.1
sound_stop laws only s x p n well same named stop.UnknownScheduler (q, also, none) =
    named_declared (heads x) only n named (subst (λ (y : Prog). HasNoScheduler (heads y) only) (ap program_tree (same_source laws s q p also.0 well.0) ∙ sym same) none)
sound_stop laws only s x p n well same named (stop.Log l) is = is
sound_stop laws only s x p n well same named stop.FileFault is = is
sound_stop laws only s x p n well same named stop.SinkFault is = is
sound_stop laws only s x p n well same named stop.NoMemory is = is

-- what the command comes to by this source is what its report comes to
its_report : (laws : Laws) (only : Contents) (s r : List ℕ) (x : Prog) (p q : Source) (n : Option SchedId) → IsWellSourceOf s p → x ≡ program_tree p → IsNamed (heads x) only n → IsWellSourceOf s q → (a : Result (List ℕ) LogRefusal) → ReportComesTo (program_tree q) only r a → CheckComesTo x n r a
its_report laws only s r x p q n well same named also a comes =
    report_check x only n named r a (subst (λ (y : Prog). ReportComesTo y only r a) (ap program_tree (same_source laws s q p also.0 well.0) ∙ sym same) comes)

its_check : (only : Contents) (r : List ℕ) (x : Prog) (p : Source) (n : Option SchedId) → x ≡ program_tree p → IsNamed (heads x) only n → (a : Result (List ℕ) LogRefusal) → CheckComesTo x n r a → ReportComesTo (program_tree p) only r a
its_check only r x p n same named a comes = subst (λ (y : Prog). ReportComesTo y only r a) same (check_report x only n named r a comes)

-- an answer to a report, as one to the command
abbrev outcome_of : Result (List ℕ) LogRefusal → Result (List ℕ) ReplayStop
outcome_of (Ok text) = Ok text
outcome_of (Err l) = Err (stop.Log l)

module _ (laws : Laws) (only : Contents) (s : List ℕ) (x : Prog) (p : Source) (n : Option SchedId) (well : IsWellSourceOf s p) (same : x ≡ program_tree p) (named : IsNamed (heads x) only n) where
  found_outcome : (r : List ℕ) (found : Result (List ℕ) ReplayStop) → Found (CheckComesTo x n r) found → IsOutcome only s r found
  found_outcome r (Ok text) is = (p, well, its_check only r x p n same named (Ok text) is.is)
  found_outcome r (Err (stop.Source q)) is = absurd is
  found_outcome r (Err stop.UnknownScheduler) is = absurd is
  found_outcome r (Err (stop.Log l)) is = (p, well, its_check only r x p n same named (Err l) is.is)
  found_outcome r (Err stop.FileFault) is = tt
  found_outcome r (Err stop.SinkFault) is = absurd is
  found_outcome r (Err stop.NoMemory) is = tt

  shows_check : (r : List ℕ) (found : Result (List ℕ) ReplayStop) → Found (CheckComesTo x n r) found → (a : Result (List ℕ) LogRefusal) → CheckComesTo x n r a → Shows found (outcome_of a)
  shows_check r (Ok text) is a comes = ap outcome_of (is.only a comes)
  shows_check r (Err (stop.Source q)) is a comes = absurd is
  shows_check r (Err stop.UnknownScheduler) is a comes = absurd is
  shows_check r (Err (stop.Log l)) is a comes = ap outcome_of (is.only a comes)
  shows_check r (Err stop.FileFault) is a comes = tt
  shows_check r (Err stop.SinkFault) is a comes = absurd is
  shows_check r (Err stop.NoMemory) is a comes = tt

  found_only : (r : List ℕ) (found : Result (List ℕ) ReplayStop) → Found (CheckComesTo x n r) found → (outcome : Result (List ℕ) ReplayStop) → ReplayComesTo only s r outcome → Shows found outcome
  found_only r found is (Ok text) (q, also, comes) = shows_check r found is (Ok text) (its_report laws only s r x p q n well same named also (Ok text) comes)
  found_only r found is (Err (stop.Log l)) (q, also, comes) = shows_check r found is (Err l) (its_report laws only s r x p q n well same named also (Err l) comes)
  found_only r found is (Err (stop.Source q)) comes = absurd (sound_stop laws only s x p n well same named (stop.Source q) comes)
  found_only r found is (Err stop.UnknownScheduler) comes = absurd (sound_stop laws only s x p n well same named stop.UnknownScheduler comes)
  found_only r found is (Err stop.FileFault) comes = absurd comes
  found_only r found is (Err stop.SinkFault) comes = absurd comes
  found_only r found is (Err stop.NoMemory) comes = absurd comes

report_says : (only : Contents) (s : List ℕ) (e : ReplayStop) → IsOfReport e → IsOfThis only s (Err e)
report_says only s (stop.Source q) is = absurd is
report_says only s stop.UnknownScheduler is = absurd is
report_says only s (stop.Log l) is = tt
report_says only s stop.FileFault is = tt
report_says only s stop.SinkFault is = tt
report_says only s stop.NoMemory is = tt

checked_says : (only : Contents) (s : List ℕ) (found : Result (List ℕ) ReplayStop) → ((e : ReplayStop) → found ≡ Err e → IsOfReport e) → IsOfThis only s found
checked_says only s (Ok text) is = tt
checked_says only s (Err e) is = report_says only s e (is e refl)

-- the report stops the command
pub seen_of_report : (result : Result Answer ReplayStop) → IfErr result IsOfReport → (e : ReplayStop) → seen result ≡ Err e → IsOfReport e
seen_of_report (Ok a) is e same = absurd cc
seen_of_report (Err d) is e same = let stops : d ≡ e = cc in subst IsOfReport stops is

pub checked_finds : (laws : Laws) (only source report : Contents) (x : Prog) (n : Option SchedId) (found : Result (List ℕ) ReplayStop) → IsRead source x → IsNamed (heads x) only n
    → ((r : List ℕ) → report ≡ Some r → Found (CheckComesTo x n r) found) → ((e : ReplayStop) → found ≡ Err e → IsOfReport e) → Finds only source report found
checked_finds laws only source report x n found read named is of_report = record {
  source_says = λ s k. checked_says only s found of_report;
  both_say = λ s r k l. let (p, well, same) = read s k in found_outcome laws only s x p n well same named r found (is r l);
  source_only = λ s d k other. let (p, well, same) = read s k in absurd (sound_stop laws only s x p n well same named d other);
  no_other = λ s r outcome k l comes. let (p, well, same) = read s k in found_only laws only s x p n well same named r found (is r l) outcome comes;
}
