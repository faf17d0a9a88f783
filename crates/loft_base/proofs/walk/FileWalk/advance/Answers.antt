use Rattle.std.proofs.Common.{rules, length, take, ◌≡◌, ◌≤◌, refl, ap}
use Rattle.std.proofs.lemmas.List.{take_at}
use Rattle.loft_base.proofs.Walking.{grows}
use Rattle.loft_base.proofs.walk.FileWalk.advance.Goals as goal

pub returns-in-Ok-clause-grows : goal.returns-in-Ok-clause-grows
returns-in-Ok-clause-grows g c =
    let into = c.part.new.into in
    let fits : c.in-Ok.count ≤ length into = search rules in
    let len : length into ≡ c.args.self.now.buffer.len = search rules in
    grows _ c.args.self.now _ c.in-Ok.count into refl (ap (take c.in-Ok.count) (take_at into _ _ len)) fits c.in-Ok.ensures.bytes
