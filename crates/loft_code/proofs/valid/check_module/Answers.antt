use Rattle.std.proofs.Common.{◌≡◌, List, Some, slice_get, map, refl, sym, ap, subst, ◌∙◌}
use Rattle.std.proofs.lemmas.Option.{slice_get_read}
use Rattle.loft_tree.specs.declared.heads.Signature.{Signature}
use Rattle.loft_code.specs.View.{line_of, lines_of}
use Rattle.loft_code.specs.Fits.{AreFew}
use Rattle.loft_code.specs.Valid.{error_at}
use Rattle.loft_code.proofs.Checked.{code_at, each_at, module_is, same_answer}
use Rattle.loft_code.proofs.valid.check_module.Goals as goal

pub check_lines-requires : goal.check_lines-requires
check_lines-requires c =
    let at : slice_get (map lines_of c.args.modules.now) c.args.module.0 ≡ Some (lines_of c.in-Some-get.code.now) =
    code_at c.args.modules.now c.args.module.0 c.in-Some-get.code.now c.in-Some-get.ensures.lookup.3.0 c.in-Some-get.ensures.lookup.1 in
    subst AreFew (ap (map line_of) (sym c.as_slice-2.ensures.value)) (each_at AreFew (map lines_of c.args.modules.now) c.args.module.0 _ c.requires at)

pub returns : goal.returns
returns c =
    let at : slice_get (map lines_of c.args.modules.now) c.args.module.0 ≡ Some (lines_of c.in-Some-get.code.now) =
    code_at c.args.modules.now c.args.module.0 c.in-Some-get.code.now c.in-Some-get.ensures.lookup.3.0 c.in-Some-get.ensures.lookup.1 in
    let declared : slice_get c.args.heads.now.modules c.args.module.0 ≡ Some c.in-Some.signature.now =
    sym (ap (λ (ms : List Signature). slice_get ms c.args.module.0) c.as_slice.ensures)
    ∙ slice_get_read c.as_slice.result.now _ c.args.module.0 c.in-Some.signature.now refl c.in-Some.ensures.lookup.3.0 c.in-Some.ensures.lookup.1 in
    let lines : map line_of c.as_slice-2.result.now ≡ lines_of c.in-Some-get.code.now = ap (map line_of) c.as_slice-2.ensures.value in
    same_answer _ (error_at (record { heads = c.args.heads.now; modules = map lines_of c.args.modules.now }) c.args.module) c.check_lines.result
    (module_is (record { heads = c.args.heads.now; modules = map lines_of c.args.modules.now }) c.args.module c.in-Some.signature.now
    (map line_of c.as_slice-2.result.now) declared (at ∙ ap Some (sym lines))) c.check_lines.ensures
