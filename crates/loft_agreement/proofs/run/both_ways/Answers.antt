use Rattle.std.proofs.Common.{◌≡◌, ◌∙◌, ℕ, sym, ap}
use Rattle.loft_tree.specs.declared.heads.Place.{Place}
use Rattle.loft_tree.specs.declared.named.NamedProgram.{NamedProgram as InMemory}
use Rattle.loft_tree.specs.ProgramView.{program_of}
use Rattle.loft_tree.specs.Resolved.{resolved_of}
use Rattle.loft_code.specs.Operations.{Automata}
use Rattle.loft_code.specs.View.{automata_of}
use Rattle.loft_orders.specs.declared.thread.Thread.{Thread}
use Rattle.loft_sense.specs.Machine.{Tree, Code}
use Rattle.loft_sense.specs.Around.{Around}
use Rattle.loft_sense.specs.Run.{Outcome}
use Rattle.loft_sense.specs.Passes.{run_of}
use Rattle.loft_sense.specs.Stands.{Stands}
use Rattle.loft_effect.specs.View.{around_of, steps_left}
use Rattle.loft_translation.specs.Compiled.{compiled}
use Rattle.loft_translation.specs.Implements.{Implements}
use Rattle.loft_agreement.proofs.run.both_ways.Goals as goal

-- equal threads end alike in a program and in code that implements it
same_end : (n m : InMemory) (c : Automata) (t u : Thread) (place : Place) (a b : Around) (j k : ℕ) (x y : Outcome)
    → x ≡ run_of (Code c) u b k → y ≡ run_of (Tree (resolved_of (program_of m))) t a j → m ≡ n
    → c ≡ compiled (resolved_of (program_of n)) → Implements (compiled (resolved_of (program_of n))) (resolved_of (program_of n))
    → Stands (Tree (resolved_of (program_of n))) t place → u ≡ t → b ≡ a → k ≡ j → x ≡ y
same_end n m c t u place a b j k x y by_code by_tree program is_code does stands thread around left =
    let p = resolved_of (program_of n) in
    by_code
    ∙ ap (λ (d : Automata). run_of (Code d) u b k) is_code
    ∙ ap (λ (v : Thread). run_of (Code (compiled p)) v b k) thread
    ∙ ap (λ (e : Around). run_of (Code (compiled p)) t e k) around
    ∙ ap (λ (i : ℕ). run_of (Code (compiled p)) t a i) left
    ∙ does.goes t place stands a j
    ∙ sym (by_tree ∙ ap (λ (q : InMemory). run_of (Tree (resolved_of (program_of q))) t a j) program)

pub returns-clause-alike : goal.returns-clause-alike
returns-clause-alike g c =
    same_end c.args.placed.now c.program.result.now (automata_of c.args.code.now)
    c.args.walks.thread c.args.steps_through.thread c.args.walks.around.place
    (around_of c.args.walks.around) (around_of c.args.steps_through.around)
    (steps_left c.args.walks.around) (steps_left c.args.steps_through.around) _ _
    c.in_ok-by_code.ensures.gone c.in_ok-by_tree.ensures.gone c.program.ensures.program c.requires.compiled
    (c.compiled_code_implements.ensures.placed (program_of c.args.placed.now) c.program.ensures.fits c.program.ensures.placed)
    c.requires.stands c.requires.thread c.requires.around c.requires.left
