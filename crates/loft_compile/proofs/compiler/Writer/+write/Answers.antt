use Rattle.std.proofs.Common.{◌≡◌, ◌==◌, true, false, length, map, sym, ap, ◌∙◌, arith}
use Rattle.loft_tree.specs.declared.heads.Place.{Place}
use Rattle.loft_tree.specs.declared.heads.Heads.{Heads}
use Rattle.loft_tree.specs.NamedTree.{NamedStatement}
use Rattle.loft_tree.specs.NamedView.{term_of, statement_of, statements_of}
use Rattle.loft_tree.specs.Resolved.{Choose, Loop, Times, exp_of, step_of, body_of}
use Rattle.loft_tree.proofs.NamedTrees.{named_if, named_while, named_repeat}
use Rattle.loft_code.specs.View.{operation_of, line_of}
use Rattle.loft_sense.specs.Stands.{leads_step, leads}
use Rattle.loft_compile.specs.Targets.{lines_with_target}
use Rattle.loft_compile.proofs.WriteLemmas.{choose_written, choose_else_written, while_written, repeat_written, empty_body, some_body, long, longer}
use Rattle.loft_compile.proofs.compiler.Writer.+write.Goals as goal

-- where a statement leads, as its plain value tells
leads_as : (h : Heads) (here : Place) {s t : NamedStatement} → s ≡ t → leads_step h (step_of t) here ≡ leads_step h (step_of s) here
leads_as h here is = ap (λ s. leads_step h (step_of s) here) (sym is)

pub statement-returns-in_ok-go_back-in-While-clause-lines : goal.statement-returns-in_ok-go_back-in-While-clause-lines
statement-returns-in_ok-go_back-in-While-clause-lines t c =
    let is = ap step_of (ap statement_of c.in-While.is ∙ named_while c.in-While.at c.in-While.test c.in-While.body)
    ∙ ap (λ b. Loop (exp_of (term_of c.in-While.test)) (body_of (statements_of b))) (sym c.as_slice-in-While.ensures.value) in
    while_written c.args.heads.now c.args.here (step_of (statement_of c.args.s.now)) (map line_of c.args.self.now.lines.items) (length c.args.self.now.lines.items) c.args.depth (long _)
    (operation_of c.in_ok-first.first) _ _ _ _ _ _ _ c.in_ok-there-in-While.there _ _ _ is c.in_ok-there-in-While.ensures.place c.in_ok-first.ensures (ap exp_of c.in_ok-test-in-While.ensures)
    c.in_ok-put.ensures (c.len-again.ensures ∙ c.put.new.self.lines.ok.0 ∙ long _) c.in_ok-put-in-While.ensures (long _) c.in_ok-there-in-While.ensures.lines (long _) c.in_ok-go_back-in-While.ensures

pub statement-returns-in_ok-go_back-in-Repeat-clause-lines : goal.statement-returns-in_ok-go_back-in-Repeat-clause-lines
statement-returns-in_ok-go_back-in-Repeat-clause-lines t c =
    let is = ap step_of (ap statement_of c.in-Repeat.is ∙ named_repeat c.in-Repeat.at c.in-Repeat.count c.in-Repeat.body)
    ∙ ap (λ b. Times (exp_of (term_of c.in-Repeat.count)) (body_of (statements_of b))) (sym c.as_slice-in-Repeat.ensures.value) in
    repeat_written c.args.heads.now c.args.here (step_of (statement_of c.args.s.now)) (map line_of c.args.self.now.lines.items) (length c.args.self.now.lines.items) c.args.depth (long _)
    (operation_of c.in_ok-first.first) _ _ _ _ _ _ _ c.in_ok-there-in-Repeat.there _ _ is c.in_ok-there-in-Repeat.ensures.place c.in_ok-first.ensures
    c.in_ok-put.ensures (c.len-turn.ensures ∙ c.put.new.self.lines.ok.0 ∙ long _) c.in_ok-put-in-Repeat.ensures (long _) c.in_ok-there-in-Repeat.ensures.lines (long _) c.in_ok-go_back-in-Repeat.ensures

pub statement-returns-then-is_empty-clause-lines : goal.statement-returns-then-is_empty-clause-lines
statement-returns-then-is_empty-clause-lines t c =
    let is = ap step_of (ap statement_of c.in-If.is ∙ named_if c.in-If.at c.in-If.test c.in-If.first c.in-If.second)
    ∙ ap (λ b. Choose (exp_of (term_of c.in-If.test)) (body_of (statements_of b)) (body_of (statements_of c.in-If.second.items))) (sym c.as_slice.ensures.value) in
    let none : (length c.in-If.second.items == 0) ≡ true = ap (λ n. n == 0) (sym c.in-If.second.ok.0) ∙ sym c.is_empty.ensures ∙ c.if-is_empty.true in
    let begin : c.len-begin.result ≡ length c.args.self.now.lines.items = c.len-begin.ensures ∙ c.args.self.now.lines.ok.0 in
    choose_written c.args.heads.now c.args.here (step_of (statement_of c.args.s.now)) (map line_of c.args.self.now.lines.items) (length c.args.self.now.lines.items) c.args.depth (long _)
    (operation_of c.in_ok-first.first) _ _ _ _ _ _ _ _ is (empty_body _ none) c.in_ok-first.ensures
    c.in_ok-put.ensures (long _) c.in_ok-there-in-If.ensures.lines (long _)
    (c.set_target.ensures.lines ∙ ap (λ k. lines_with_target (map line_of c.body.new.self.lines.items) k (length c.body.new.self.lines.items)) begin)

pub statement-returns-in_ok-body-in-If-clause-lines : goal.statement-returns-in_ok-body-in-If-clause-lines
statement-returns-in_ok-body-in-If-clause-lines t c =
    let is = ap step_of (ap statement_of c.in-If.is ∙ named_if c.in-If.at c.in-If.test c.in-If.first c.in-If.second)
    ∙ ap (λ b. Choose (exp_of (term_of c.in-If.test)) (body_of (statements_of b)) (body_of (statements_of c.in-If.second.items))) (sym c.as_slice.ensures.value)
    ∙ ap (λ b. Choose (exp_of (term_of c.in-If.test)) (body_of (statements_of c.as_slice.result.now)) (body_of (statements_of b))) (sym c.as_slice-in-If.ensures.value) in
    let some : (length c.as_slice-in-If.result.now == 0) ≡ false =
    ap (λ ss. length ss == 0) c.as_slice-in-If.ensures.value ∙ ap (λ n. n == 0) (sym c.in-If.second.ok.0) ∙ sym c.is_empty.ensures ∙ c.if-is_empty.false in
    let y = some_body c.as_slice-in-If.result.now some in
    let begin : c.len-begin.result ≡ length c.args.self.now.lines.items = c.len-begin.ensures ∙ c.args.self.now.lines.ok.0 in
    choose_else_written c.args.heads.now c.args.here (step_of (statement_of c.args.s.now)) (map line_of c.args.self.now.lines.items) (length c.args.self.now.lines.items) c.args.depth (long _)
    (operation_of c.in_ok-first.first) _ _ _ _ _ _ _ _ _ _ _ c.in_ok-there-in-If.there _ _ _ y.0 y.1 is y.2 c.in_ok-there-in-If.ensures.place c.in_ok-first.ensures
    c.in_ok-put.ensures (long _) c.in_ok-there-in-If.ensures.lines (c.len-jump.ensures ∙ c.body.new.self.lines.ok.0 ∙ long _) c.in_ok-put-in-If.ensures (long _)
    (c.set_target-in-If.ensures.lines ∙ ap (λ k. lines_with_target (map line_of c.put-in-If.new.self.lines.items) k (length c.put-in-If.new.self.lines.items)) begin)
    (long _) c.in_ok-body-in-If.ensures.lines (long _) c.set_target-in-If-2.ensures.lines

pub statement-set_target-requires : goal.statement-set_target-requires
statement-set_target-requires t c =
    let added = longer c.args.self.now.lines.items c.put.new.self.lines.items _ c.in_ok-put.ensures in
    let written = longer c.put.new.self.lines.items c.body.new.self.lines.items _ c.in_ok-there-in-If.ensures.lines in
    omega (arith, c.len-begin.ensures, c.args.self.now.lines.ok.0, added, written)

pub statement-set_target-requires-in-If : goal.statement-set_target-requires-in-If
statement-set_target-requires-in-If t c =
    let added = longer c.args.self.now.lines.items c.put.new.self.lines.items _ c.in_ok-put.ensures in
    let written = longer c.put.new.self.lines.items c.body.new.self.lines.items _ c.in_ok-there-in-If.ensures.lines in
    let jumped = longer c.body.new.self.lines.items c.put-in-If.new.self.lines.items _ c.in_ok-put-in-If.ensures in
    omega (arith, c.len-begin.ensures, c.args.self.now.lines.ok.0, added, written, jumped)

pub statement-set_target-requires-in-If-2 : goal.statement-set_target-requires-in-If-2
statement-set_target-requires-in-If-2 t c =
    let added = longer c.body.new.self.lines.items c.put-in-If.new.self.lines.items _ c.in_ok-put-in-If.ensures in
    let written = longer c.set_target-in-If.new.self.lines.items c.body-in-If.new.self.lines.items _ c.in_ok-body-in-If.ensures.lines in
    omega (arith, c.len-jump.ensures, c.body.new.self.lines.ok.0, added, c.set_target-in-If.ensures.len, written)

pub statement-go_back-requires : goal.statement-go_back-requires
statement-go_back-requires t c =
    let added = longer c.put.new.self.lines.items c.put-in-While.new.self.lines.items _ c.in_ok-put-in-While.ensures in
    let written = longer c.put-in-While.new.self.lines.items c.body-in-While.new.self.lines.items _ c.in_ok-there-in-While.ensures.lines in
    omega (arith, c.len-again.ensures, c.put.new.self.lines.ok.0, added, written)

pub statement-go_back-requires-in-Repeat : goal.statement-go_back-requires-in-Repeat
statement-go_back-requires-in-Repeat t c =
    let added = longer c.put.new.self.lines.items c.put-in-Repeat.new.self.lines.items _ c.in_ok-put-in-Repeat.ensures in
    let written = longer c.put-in-Repeat.new.self.lines.items c.body-in-Repeat.new.self.lines.items _ c.in_ok-there-in-Repeat.ensures.lines in
    omega (arith, c.len-turn.ensures, c.put.new.self.lines.ok.0, added, written)

pub statement-overflow_add-depth : goal.statement-overflow_add-depth
statement-overflow_add-depth t c =
    let added = longer c.args.self.now.lines.items c.put.new.self.lines.items _ c.in_ok-put.ensures in
    omega (arith, c.requires, c.put.new.self.lines.ok.0, added)

pub statement-overflow_add-depth-in-Repeat : goal.statement-overflow_add-depth-in-Repeat
statement-overflow_add-depth-in-Repeat t c =
    let added = longer c.args.self.now.lines.items c.put.new.self.lines.items _ c.in_ok-put.ensures in
    omega (arith, c.requires, c.put.new.self.lines.ok.0, added)

pub statement-overflow_add-depth-in-Repeat-2 : goal.statement-overflow_add-depth-in-Repeat-2
statement-overflow_add-depth-in-Repeat-2 t c =
    let added = longer c.args.self.now.lines.items c.put.new.self.lines.items _ c.in_ok-put.ensures in
    omega (arith, c.requires, c.put.new.self.lines.ok.0, added)

pub statement-returns-in_ok-go_back-in-While-clause-place : goal.statement-returns-in_ok-go_back-in-While-clause-place
statement-returns-in_ok-go_back-in-While-clause-place t c =
    let is = ap statement_of c.in-While.is ∙ named_while c.in-While.at c.in-While.test c.in-While.body in
    leads_as c.args.heads.now c.args.here is

pub statement-returns-in_ok-go_back-in-Repeat-clause-place : goal.statement-returns-in_ok-go_back-in-Repeat-clause-place
statement-returns-in_ok-go_back-in-Repeat-clause-place t c =
    let is = ap statement_of c.in-Repeat.is ∙ named_repeat c.in-Repeat.at c.in-Repeat.count c.in-Repeat.body in
    leads_as c.args.heads.now c.args.here is

pub statement-returns-then-is_empty-clause-place : goal.statement-returns-then-is_empty-clause-place
statement-returns-then-is_empty-clause-place t c =
    let is = ap statement_of c.in-If.is ∙ named_if c.in-If.at c.in-If.test c.in-If.first c.in-If.second in
    c.in_ok-there-in-If.ensures.place ∙ ap (λ b. leads c.args.heads.now (body_of (statements_of b)) c.args.here) c.as_slice.ensures.value ∙ leads_as c.args.heads.now c.args.here is

pub statement-returns-in_ok-body-in-If-clause-place : goal.statement-returns-in_ok-body-in-If-clause-place
statement-returns-in_ok-body-in-If-clause-place t c =
    let is = ap statement_of c.in-If.is ∙ named_if c.in-If.at c.in-If.test c.in-If.first c.in-If.second in
    c.in_ok-there-in-If.ensures.place ∙ ap (λ b. leads c.args.heads.now (body_of (statements_of b)) c.args.here) c.as_slice.ensures.value ∙ leads_as c.args.heads.now c.args.here is
