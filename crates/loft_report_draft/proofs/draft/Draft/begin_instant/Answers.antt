use Rattle.std.proofs.Common.{[], ◌∷◌, ◌++◌, refl}
use Rattle.loft_report_draft.specs.Drafts.{report_of}
use Rattle.loft_report_draft.proofs.LastLemmas.{no_block}
use Rattle.loft_report_draft.proofs.draft.Draft.begin_instant.Goals as goal

pub returns-in-None-clause-report : goal.returns-in-None-clause-report
returns-in-None-clause-report c = λ _. no_block (λ b. record b { instants = b.instants ++ [] ∷ [] }) (report_of c.args.self.now) c.pop.new.self c.in-None.ensures.items (c.in-None.ensures.none refl)
