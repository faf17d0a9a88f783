use Rattle.std.proofs.Common.{sym, subst}
use Rattle.loft_world.specs.State.{State}
use Rattle.loft_ft.specs.Calls.{HasCaller, IsDeclared, caller_of}
use Rattle.loft_ft.proofs.CallLemmas.{code_there, of_code}
use Rattle.loft_ft.proofs.GiveLemmas.{Began, declared_there, adds_either, on_ok, on_next, on_err, ok_there, err_there, next_there, may_again, same_caller, same_code, still_faithful}
use Rattle.loft_ft.proofs.calls.give.Goals as goal

pub add-added-requires : goal.add-added-requires
add-added-requires g c =
    let old = c.args.p.now in
    let there = code_there (λ x. HasCaller old.knows.own x.heads) old.knows.code c.requires.pass.caller in
    let x = there.0 in
    let b : Began c.args.b.now x c.args.call old c.hold-held.new.p c.hold-held.result = record {
      baton = c.requires.pass.baton;
      idle = c.requires.pass.idle;
      code = there.1;
      caller = there.2;
      declared = of_code (λ y. IsDeclared c.args.call y.heads) old.knows.code x there.1 c.requires.declared;
      holds = c.hold-held.ensures.knows;
      follows = c.hold-held.ensures.follows;
    } in
    record { declared = subst (λ (s : State). IsDeclared c.args.call s.heads) (sym c.world.ensures.value) (declared_there c.args.b.now x c.args.call old c.hold-held.new.p c.hold-held.result b) }

pub release-requires-clause-adds : goal.release-requires-clause-adds
release-requires-clause-adds g c =
    let old = c.args.p.now in
    let there = code_there (λ x. HasCaller old.knows.own x.heads) old.knows.code c.requires.pass.caller in
    let x = there.0 in
    let b : Began c.args.b.now x c.args.call old c.hold-held.new.p c.hold-held.result = record {
      baton = c.requires.pass.baton;
      idle = c.requires.pass.idle;
      code = there.1;
      caller = there.2;
      declared = of_code (λ y. IsDeclared c.args.call y.heads) old.knows.code x there.1 c.requires.declared;
      holds = c.hold-held.ensures.knows;
      follows = c.hold-held.ensures.follows;
    } in
    adds_either c.args.b.now x c.args.call old c.hold-held.new.p c.hold-held.result b c.add-added.result c.add-added.new.world (ok_there c.add-added.result c.args.call c.caller-caller.result (caller_of old.knows) c.add-added.new.world c.world.result.now c.hold-held.result c.caller-caller.ensures c.world.ensures.value c.add-added.ensures.ok) (err_there c.add-added.result c.add-added.new.world c.world.result.now c.hold-held.result c.world.ensures.value c.add-added.ensures.err)

pub returns-clause-pass : goal.returns-clause-pass
returns-clause-pass g c =
    let old = c.args.p.now in
    let there = code_there (λ x. HasCaller old.knows.own x.heads) old.knows.code c.requires.pass.caller in
    let x = there.0 in
    let b : Began c.args.b.now x c.args.call old c.hold-held.new.p c.hold-held.result = record {
      baton = c.requires.pass.baton;
      idle = c.requires.pass.idle;
      code = there.1;
      caller = there.2;
      declared = of_code (λ y. IsDeclared c.args.call y.heads) old.knows.code x there.1 c.requires.declared;
      holds = c.hold-held.ensures.knows;
      follows = c.hold-held.ensures.follows;
    } in
    may_again c.args.b.now x c.args.call old c.hold-held.new.p c.hold-held.result b c.add-added.result c.add-added.new.world c.release.new.p (ok_there c.add-added.result c.args.call c.caller-caller.result (caller_of old.knows) c.add-added.new.world c.world.result.now c.hold-held.result c.caller-caller.ensures c.world.ensures.value c.add-added.ensures.ok) (err_there c.add-added.result c.add-added.new.world c.world.result.now c.hold-held.result c.world.ensures.value c.add-added.ensures.err) c.release.ensures.knows

pub returns-clause-code : goal.returns-clause-code
returns-clause-code g c =
    let old = c.args.p.now in
    let there = code_there (λ x. HasCaller old.knows.own x.heads) old.knows.code c.requires.pass.caller in
    let x = there.0 in
    let b : Began c.args.b.now x c.args.call old c.hold-held.new.p c.hold-held.result = record {
      baton = c.requires.pass.baton;
      idle = c.requires.pass.idle;
      code = there.1;
      caller = there.2;
      declared = of_code (λ y. IsDeclared c.args.call y.heads) old.knows.code x there.1 c.requires.declared;
      holds = c.hold-held.ensures.knows;
      follows = c.hold-held.ensures.follows;
    } in
    same_code c.args.b.now x c.args.call old c.hold-held.new.p c.hold-held.result b c.add-added.result c.add-added.new.world c.release.new.p (ok_there c.add-added.result c.args.call c.caller-caller.result (caller_of old.knows) c.add-added.new.world c.world.result.now c.hold-held.result c.caller-caller.ensures c.world.ensures.value c.add-added.ensures.ok) (err_there c.add-added.result c.add-added.new.world c.world.result.now c.hold-held.result c.world.ensures.value c.add-added.ensures.err) c.release.ensures.knows

pub returns-clause-caller : goal.returns-clause-caller
returns-clause-caller g c =
    let old = c.args.p.now in
    let there = code_there (λ x. HasCaller old.knows.own x.heads) old.knows.code c.requires.pass.caller in
    let x = there.0 in
    let b : Began c.args.b.now x c.args.call old c.hold-held.new.p c.hold-held.result = record {
      baton = c.requires.pass.baton;
      idle = c.requires.pass.idle;
      code = there.1;
      caller = there.2;
      declared = of_code (λ y. IsDeclared c.args.call y.heads) old.knows.code x there.1 c.requires.declared;
      holds = c.hold-held.ensures.knows;
      follows = c.hold-held.ensures.follows;
    } in
    same_caller c.args.b.now x c.args.call old c.hold-held.new.p c.hold-held.result b c.add-added.result c.add-added.new.world c.release.new.p (ok_there c.add-added.result c.args.call c.caller-caller.result (caller_of old.knows) c.add-added.new.world c.world.result.now c.hold-held.result c.caller-caller.ensures c.world.ensures.value c.add-added.ensures.ok) (err_there c.add-added.result c.add-added.new.world c.world.result.now c.hold-held.result c.world.ensures.value c.add-added.ensures.err) c.release.ensures.knows

pub returns-clause-faithful : goal.returns-clause-faithful
returns-clause-faithful g c =
    let old = c.args.p.now in
    let there = code_there (λ x. HasCaller old.knows.own x.heads) old.knows.code c.requires.pass.caller in
    let x = there.0 in
    let b : Began c.args.b.now x c.args.call old c.hold-held.new.p c.hold-held.result = record {
      baton = c.requires.pass.baton;
      idle = c.requires.pass.idle;
      code = there.1;
      caller = there.2;
      declared = of_code (λ y. IsDeclared c.args.call y.heads) old.knows.code x there.1 c.requires.declared;
      holds = c.hold-held.ensures.knows;
      follows = c.hold-held.ensures.follows;
    } in
    still_faithful c.args.b.now x c.args.call old c.hold-held.new.p c.hold-held.result b c.add-added.result c.add-added.new.world c.release.new.p (ok_there c.add-added.result c.args.call c.caller-caller.result (caller_of old.knows) c.add-added.new.world c.world.result.now c.hold-held.result c.caller-caller.ensures c.world.ensures.value c.add-added.ensures.ok) (err_there c.add-added.result c.add-added.new.world c.world.result.now c.hold-held.result c.world.ensures.value c.add-added.ensures.err) c.release.ensures.knows

pub returns-clause-ok : goal.returns-clause-ok
returns-clause-ok g c =
    let old = c.args.p.now in
    let there = code_there (λ x. HasCaller old.knows.own x.heads) old.knows.code c.requires.pass.caller in
    let x = there.0 in
    let b : Began c.args.b.now x c.args.call old c.hold-held.new.p c.hold-held.result = record {
      baton = c.requires.pass.baton;
      idle = c.requires.pass.idle;
      code = there.1;
      caller = there.2;
      declared = of_code (λ y. IsDeclared c.args.call y.heads) old.knows.code x there.1 c.requires.declared;
      holds = c.hold-held.ensures.knows;
      follows = c.hold-held.ensures.follows;
    } in
    on_ok c.args.b.now x c.args.call old c.hold-held.new.p c.hold-held.result b c.add-added.result c.add-added.new.world c.release.new.p (ok_there c.add-added.result c.args.call c.caller-caller.result (caller_of old.knows) c.add-added.new.world c.world.result.now c.hold-held.result c.caller-caller.ensures c.world.ensures.value c.add-added.ensures.ok) c.add-added.ensures.stamp c.release.ensures.knows

pub returns-clause-next : goal.returns-clause-next
returns-clause-next g c =
    let old = c.args.p.now in
    let there = code_there (λ x. HasCaller old.knows.own x.heads) old.knows.code c.requires.pass.caller in
    let x = there.0 in
    let b : Began c.args.b.now x c.args.call old c.hold-held.new.p c.hold-held.result = record {
      baton = c.requires.pass.baton;
      idle = c.requires.pass.idle;
      code = there.1;
      caller = there.2;
      declared = of_code (λ y. IsDeclared c.args.call y.heads) old.knows.code x there.1 c.requires.declared;
      holds = c.hold-held.ensures.knows;
      follows = c.hold-held.ensures.follows;
    } in
    on_next c.args.b.now x c.args.call old c.hold-held.new.p c.hold-held.result b c.add-added.result (next_there c.add-added.result c.caller-caller.result (caller_of old.knows) c.world.result.now c.hold-held.result c.caller-caller.ensures c.world.ensures.value c.add-added.ensures.next)

pub returns-clause-err : goal.returns-clause-err
returns-clause-err g c =
    let old = c.args.p.now in
    let there = code_there (λ x. HasCaller old.knows.own x.heads) old.knows.code c.requires.pass.caller in
    let x = there.0 in
    let b : Began c.args.b.now x c.args.call old c.hold-held.new.p c.hold-held.result = record {
      baton = c.requires.pass.baton;
      idle = c.requires.pass.idle;
      code = there.1;
      caller = there.2;
      declared = of_code (λ y. IsDeclared c.args.call y.heads) old.knows.code x there.1 c.requires.declared;
      holds = c.hold-held.ensures.knows;
      follows = c.hold-held.ensures.follows;
    } in
    on_err c.args.b.now x c.args.call old c.hold-held.new.p c.hold-held.result b c.add-added.result c.add-added.new.world c.release.new.p (err_there c.add-added.result c.add-added.new.world c.world.result.now c.hold-held.result c.world.ensures.value c.add-added.ensures.err) c.release.ensures.knows
