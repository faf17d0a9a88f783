use Rattle.std.proofs.Common.{arith, ap, sym, subst, ◌∙◌, length}
use Rattle.std.proofs.lemmas.List.{length-map}
use Rattle.loft_tree.specs.ProgramView.{module_of, program_of}
use Rattle.loft_code.specs.Fits.{RawFits}
use Rattle.loft_code.specs.Valid.{Valid}
use Rattle.loft_code.specs.View.{automata_of}
use Rattle.loft_translation.proofs.ProgramLemmas.{few_modules}
use Rattle.loft_compile.proofs.WriteLemmas.{code_is}
use Rattle.loft_compile.proofs.compiler.compile.Goals as goal

pub modules_code-requires : goal.modules_code-requires
modules_code-requires c =
    let ms = c.program-program.result.now.modules.items in
    let few = few_modules (program_of c.args.p.now) c.program-program.ensures.fits in
    omega (arith, ap length c.as_slice.ensures.value, length-map ms module_of, few, ap (λ p. length (program_of p).modules) c.program-program.ensures.program)

pub new-requires : goal.new-requires
new-requires c =
    let same = code_is c.args.p.now _ c.in_ok-heads.heads c.in_ok-modules.modules.items _ c.program-program.ensures.program c.as_slice.ensures.value c.in_ok-heads.ensures c.in_ok-modules.ensures in
    subst RawFits (sym same) (c.compiled_code_is_valid.ensures.fits (program_of c.args.p.now) c.program-program.ensures.fits c.program-program.ensures.placed)

pub new-requires-2 : goal.new-requires-2
new-requires-2 c =
    let same = code_is c.args.p.now _ c.in_ok-heads.heads c.in_ok-modules.modules.items _ c.program-program.ensures.program c.as_slice.ensures.value c.in_ok-heads.ensures c.in_ok-modules.ensures in
    subst Valid (sym (ap automata_of c.new.ensures ∙ same)) (c.compiled_code_is_valid.ensures.valid (program_of c.args.p.now) c.program-program.ensures.fits c.program-program.ensures.placed)
