use Rattle.std.proofs.Common.{◌≡◌, true, false, sym, ap, subst, ◌∙◌}
use Rattle.loft_sense.specs.Machine.{Prog}
use Rattle.loft_sense.specs.Instant.{instant}
use Rattle.loft_history.specs.History.{has_turn}
use Rattle.loft_block_replay.proofs.MadeLemmas.{unspent, turned_text}
use Rattle.loft_block_replay.proofs.instants.take_turn.Goals as goal

pub take-requires-clause-unspent : goal.take-requires-clause-unspent
take-requires-clause-unspent g c works = unspent _ _ (sym c.has_turn-is_due.ensures ∙ c.if-not-is_due.false)

pub returns-then-not-is_due-clause-refused : goal.returns-then-not-is_due-clause-refused
returns-then-not-is_due-clause-refused g c off =
    subst (λ (x : Prog). has_turn x (g.E.Engine.limits c.args.engine.now) (g.E.Engine.machine c.args.engine.now) c.args.batch.now ≡ false) c.requires.program (sym c.has_turn-is_due.ensures ∙ c.if-not-is_due.true)

pub returns-clause-made : goal.returns-clause-made
returns-clause-made g c on =
    let limits = g.E.Engine.limits c.args.engine.now in
    let m = g.E.Engine.machine c.args.engine.now in
    let batch = c.args.batch.now in
    record {
      turn = subst (λ (x : Prog). has_turn x limits m batch ≡ true) c.requires.program (sym c.has_turn-is_due.ensures ∙ c.if-not-is_due.false);
      leads = c.in_ok-note.ensures.machine ∙ ap (λ (x : Prog). (instant x limits m batch).machine) c.requires.program;
      text = turned_text c.args.text.now c.push_instant.new.line c.heads.result.now c.args.p.now.heads c.as_slice.result.now batch c.in_ok-note.note _ c.heads.ensures c.as_slice.ensures
          (c.in_ok-note.ensures.note ∙ ap (λ (x : Prog). (instant x limits m batch).note) c.requires.program) c.push_instant.ensures;
    }
