use Rattle.std.proofs.Common.{◌≡◌, ◌++◌, ◌-◌, ◌+◌, length, replicate, rules, None, ap, arith, ◌∙◌, Some, drop, slice_set}
use Rattle.loft_base.specs.MemSink.{next_put}
use Rattle.loft_base.proofs.PlanLemmas.{planned_number}
use Rattle.loft_base.proofs.in_memory.MemSink.fail_at.Goals as goal

pub returns-clause-ok : goal.returns-clause-ok
returns-clause-ok c = λ past.
    let sink = c.args.self.now in
    let plan = sink.plan.items in
    let call : c.in-Ok.call ≡ c.args.call = search rules in
    let longer : c.extend_from_slice.new.self.items ≡ plan ++ replicate (c.args.call - length plan) None = search rules in
    let index : c.args.call ≡ sink.puts + (c.args.call - next_put sink) + 1 = omega arith in
    ap (λ n. drop sink.puts (slice_set c.extend_from_slice.new.self.items (n - 1) (Some c.args.keep))) call
    ∙ ap (λ l. drop sink.puts (slice_set l (c.args.call - 1) (Some c.args.keep))) longer
    ∙ planned_number plan sink.puts c.args.call (c.args.call - next_put sink) c.args.keep past index
