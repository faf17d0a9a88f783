use Rattle.std.proofs.Common.{◌∙◌, ap, subst, List, ℕ, Err}
use Rattle.std.specs.Prelude.{IfSome}
use Rattle.std.proofs.lemmas.Result.{err_from_is_err_and}
use Rattle.loft_tree.specs.View.{source_of}
use Rattle.loft_grammar.specs.Texts.{Reads}
use Rattle.loft_lock_expansion.specs.Expansion.{IsExpansion}
use Rattle.loft_lock_expansion.specs.Refusals.{IsRefused}
use Rattle.loft_mutex.specs.declared.error.MutexError.{MutexError}
use Rattle.loft_mutex.specs.Refusing.{refusal_of, AreNamesFor}
use Rattle.loft_mutex.proofs.ExpandLemmas.{err_has, written_rises, expansion_of, check_refused, check_named, locks_kept}
use Rattle.loft_mutex.proofs.expanding.expand_named.Goals as goal

pub returns-in_err-written-clause-named : goal.returns-in_err-written-clause-named
returns-in_err-written-clause-named c =
    let p = err_from_is_err_and c.from_residual.result c.from_residual.ensures.1 in
    err_has (AreNamesFor c.args.text.now c.args.names.now) c.from_residual.result c.in_err-written.field-0.0 (p.1 ∙ ap (λ (e : MutexError). Err e) p.2)
    (c.in_err-written.ensures.named c.args.names.now)

pub check_written-requires-clause-rising : goal.check_written-requires-clause-rising
check_written-requires-clause-rising c = written_rises c.args.text.now c.in_ok-written.written c.in_ok-written.ensures.written

pub returns-in_err-check_written-clause-refused : goal.returns-in_err-check_written-clause-refused
returns-in_err-check_written-clause-refused c =
    let p = err_from_is_err_and c.from_residual-in_err-check_written.result c.from_residual-in_err-check_written.ensures.1 in
    err_has (λ e. IfSome (refusal_of e) (IsRefused c.args.text.now)) c.from_residual-in_err-check_written.result c.in_err-check_written.field-0.0 (p.1 ∙ ap (λ (e : MutexError). Err e) p.2)
    (check_refused c.args.text.now c.in_ok-written.written c.check_written.new.names c.in_ok-written.ensures.written c.in_err-check_written.field-0.0 c.in_err-check_written.ensures.fault)

pub returns-in_err-check_written-clause-named : goal.returns-in_err-check_written-clause-named
returns-in_err-check_written-clause-named c =
    let p = err_from_is_err_and c.from_residual-in_err-check_written.result c.from_residual-in_err-check_written.ensures.1 in
    err_has (AreNamesFor c.args.text.now c.check_written.new.names) c.from_residual-in_err-check_written.result c.in_err-check_written.field-0.0 (p.1 ∙ ap (λ (e : MutexError). Err e) p.2)
    (check_named c.args.text.now c.in_ok-written.written c.check_written.new.names c.in_ok-written.ensures.written c.in_err-check_written.field-0.0 c.in_err-check_written.ensures.fault)

pub returns-in-Ok-clause-expansion : goal.returns-in-Ok-clause-expansion
returns-in-Ok-clause-expansion c =
    expansion_of c.args.text.now c.in_ok-written.written (source_of c.in-Ok.program) c.texts_are_decided.ensures.one c.in_ok-written.ensures.written c.in_ok-check_written.ensures.checked
    (subst (λ (t : List ℕ). Reads t (source_of c.in-Ok.program)) c.as_slice.ensures.value c.in-Ok.ensures.ok)

pub returns-in-Ok-clause-kept : goal.returns-in-Ok-clause-kept
returns-in-Ok-clause-kept c =
    let text = c.args.text.now in
    let s = source_of c.in-Ok.program in
    let e : IsExpansion text s = expansion_of text c.in_ok-written.written s c.texts_are_decided.ensures.one c.in_ok-written.ensures.written c.in_ok-check_written.ensures.checked
    (subst (λ (t : List ℕ). Reads t s) c.as_slice.ensures.value c.in-Ok.ensures.ok) in
    locks_kept text s e (c.expansions_keep_their_locks.ensures.tree text s e) (c.expansions_keep_their_locks.ensures.code text s e) (c.expansions_keep_their_locks.ensures.machines text s e)
