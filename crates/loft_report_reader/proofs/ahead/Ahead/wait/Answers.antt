use Rattle.std.proofs.Common.{◌≡◌, Some, refl}
use Rattle.loft_report_shape.specs.Word.{word_of}
use Rattle.loft_report_shape.specs.declared.word.Word.TheVariants as word
use Rattle.loft_report_reader.proofs.AheadLemmas.{then, goes_to, new_wait, next_wait, halt_wait, coop_wait, await_wait}
use Rattle.loft_report_reader.proofs.ahead.Ahead.wait.Goals as goal

pub returns-in-Some-New-clause-goes : goal.returns-in-Some-New-clause-goes
returns-in-Some-New-clause-goes c = λ fits ps.
    let a = c.word_soon.ensures in
    let b = c.in-Some-New.is in
    let d = c.in-Some-New.field-0-is in
    let e : word_of c.part-word.result.now ≡ Some word.New = cc in
    then (goes_to (new_wait c.part-word.result.now ps e) (c.part-word.ensures.goes (c.sign.ensures.before fits) (λ told. refl) ps)) (c.sign.ensures.goes fits ps)

pub returns-in-Some-Next-clause-goes : goal.returns-in-Some-Next-clause-goes
returns-in-Some-Next-clause-goes c = λ fits ps.
    let a = c.word_soon.ensures in
    let b = c.in-Some-Next.is in
    let d = c.in-Some-Next.field-0-is in
    let e : word_of c.part-word.result.now ≡ Some word.Next = cc in
    then (goes_to (next_wait c.part-word.result.now ps e) (c.part-word.ensures.goes (c.sign-in-Some-Next.ensures.before fits) (λ told. refl) ps)) (c.sign-in-Some-Next.ensures.goes fits ps)

pub returns-in-Some-Halt-clause-goes : goal.returns-in-Some-Halt-clause-goes
returns-in-Some-Halt-clause-goes c = λ fits ps.
    let a = c.word_soon.ensures in
    let b = c.in-Some-Halt.is in
    let d = c.in-Some-Halt.field-0-is in
    let e : word_of c.part-word.result.now ≡ Some word.Halt = cc in
    then (goes_to (halt_wait c.part-word.result.now ps e) (c.part-word.ensures.goes (c.sign-in-Some-Halt.ensures.before fits) (λ told. refl) ps)) (c.sign-in-Some-Halt.ensures.goes fits ps)

pub returns-in-Some-Coop-clause-goes : goal.returns-in-Some-Coop-clause-goes
returns-in-Some-Coop-clause-goes c = λ fits ps.
    let a = c.word_soon.ensures in
    let b = c.in-Some-Coop.is in
    let d = c.in-Some-Coop.field-0-is in
    let e : word_of c.part-word.result.now ≡ Some word.Coop = cc in
    let f3 = c.sign-in-Some-Coop-2.ensures.before fits in
    let f2 = c.plain.ensures.before f3 in
    let f1 = c.sign-in-Some-Coop.ensures.before f2 in
    then (goes_to (coop_wait c.part-word.result.now ps e) (c.part-word.ensures.goes f1 (λ told. refl) ps))
    (then (c.sign-in-Some-Coop.ensures.goes f2 _)
    (then (c.plain.ensures.goes f3 (λ w. (refl, λ told. refl)) _)
    (c.sign-in-Some-Coop-2.ensures.goes fits ps)))

pub returns-in-Some-Await-clause-goes : goal.returns-in-Some-Await-clause-goes
returns-in-Some-Await-clause-goes c = λ fits ps.
    let a = c.word_soon.ensures in
    let b = c.in-Some-Await.is in
    let d = c.in-Some-Await.field-0-is in
    let e : word_of c.part-word.result.now ≡ Some word.Await = cc in
    let f5 = c.sign-in-Some-Await-3.ensures.before fits in
    let f4 = c.plain-in-Some-Await-2.ensures.before f5 in
    let f3 = c.sign-in-Some-Await-2.ensures.before f4 in
    let f2 = c.plain-in-Some-Await.ensures.before f3 in
    let f1 = c.sign-in-Some-Await.ensures.before f2 in
    then (goes_to (await_wait c.part-word.result.now ps e) (c.part-word.ensures.goes f1 (λ told. refl) ps))
    (then (c.sign-in-Some-Await.ensures.goes f2 _)
    (then (c.plain-in-Some-Await.ensures.goes f3 (λ w. (refl, λ told. refl)) _)
    (then (c.sign-in-Some-Await-2.ensures.goes f4 _)
    (then (c.plain-in-Some-Await-2.ensures.goes f5 (λ w. (refl, λ told. refl)) _)
    (c.sign-in-Some-Await-3.ensures.goes fits ps)))))
