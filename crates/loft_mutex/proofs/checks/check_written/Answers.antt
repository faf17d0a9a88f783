use Rattle.std.proofs.Common.{length, ap, arith}
use Rattle.std.proofs.lemmas.List.{length-map}
use Rattle.loft_tree.specs.ProgramView.{module_of, program_of}
use Rattle.loft_mutex.proofs.CheckLemmas.{few_modules}
use Rattle.loft_mutex.proofs.checks.check_written.Goals as goal

pub check_paired-requires-clause-few : goal.check_paired-requires-clause-few
check_paired-requires-clause-few c =
    let p = c.in_ok-placed.placed in
    omega (arith, few_modules (program_of p) c.program-program.ensures.fits, length-map p.modules.items module_of, ap length c.as_slice-3.ensures.value, ap (λ q. length q.modules.items) c.program-program.ensures.program)

pub check_leaving-requires-clause-few : goal.check_leaving-requires-clause-few
check_leaving-requires-clause-few c =
    let p = c.in_ok-placed.placed in
    omega (arith, few_modules (program_of p) c.program-program.ensures.fits, length-map p.modules.items module_of, ap length c.as_slice-5.ensures.value, ap (λ q. length q.modules.items) c.program-program.ensures.program)
