use Rattle.std.proofs.Common.{◌≡◌, List, [], ◌∷◌, ◌++◌, map, ap, ◌∙◌}
use Rattle.loft_code.specs.declared.raw.ModuleCode.{ModuleCode}
use Rattle.loft_code.specs.View.{lines_of}
use Rattle.loft_tests.proofs.Sample.{sample_fits}
use Rattle.loft_tests.proofs.code.calls.code.Goals as goal

pub new-requires : goal.new-requires
new-requires c =
    let one : c.push.new.self.items ≡ record { lines = c.args.lines } ∷ [] =
    c.in_ok-push.ensures.items ∙ ap (λ (ms : List ModuleCode). ms ++ record { lines = c.args.lines } ∷ []) c.new-modules.ensures.items in
    sample_fits _ (lines_of (record { lines = c.args.lines })) c.in_ok-heads.ensures (ap (map lines_of) one) c.requires
