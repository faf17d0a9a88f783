use Rattle.std.proofs.Common.{sym, subst, ap, Err}
use Rattle.loft_base.specs.declared.errors.FileError.{FileError}
use Rattle.loft_refusal.specs.Found.{IsUnexpanded}
use Rattle.loft_refusal.proofs.Known.{if_some}
use Rattle.loft_refusal.proofs.LocksLemmas.{file_fault}
use Rattle.loft_refusal.proofs.locks.expand_program.Goals as goal

pub returns-in-Err-clause-refused : goal.returns-in-Err-clause-refused
returns-in-Err-clause-refused g c = λ contents known.
    subst (IsUnexpanded contents) (sym c.stop_of.ensures)
    (file_fault contents c.in-Err.error (λ is. if_some _ (g.F.Files.contents c.args.files.now c.args.name.now) contents (c.in-Err.ensures.longer (ap (λ (e : FileError). Err e) is)) known))
