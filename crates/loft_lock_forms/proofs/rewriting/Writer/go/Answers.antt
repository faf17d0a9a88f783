use Rattle.std.proofs.Common.{◌∙◌, sym, ap, arith, List}
use Rattle.std.specs.Option.{option_map}
use Rattle.loft_lex.specs.Symbol.{Symbol}
use Rattle.loft_lock_forms.specs.Seen.{form_seen, marks_seen, whats, first_form}
use Rattle.loft_lock_forms.proofs.Steps.{over_plain, over_begun}
use Rattle.loft_lock_forms.proofs.rewriting.Writer.go.Goals as goal

pub returns-in-None-clause-whole : goal.returns-in-None-clause-whole
returns-in-None-clause-whole c w ts e =
    over_plain c.args.text.now c.args.self.now.out.text.items c.put.new.self.text.items (marks_seen c.args.self.now.marks.items) c.args.self.now.at
    c.args.self.now.skip c.args.token ts (omega (arith, c.if-self-gt0.false))
    (ap (λ (ss : List Symbol). first_form (whats ss)) (sym e) ∙ (sym c.first_form.ensures ∙ ap (option_map form_seen) c.in-None.is))
    (c.put.ensures.text w)

pub returns-in-Some-clause-whole : goal.returns-in-Some-clause-whole
returns-in-Some-clause-whole c w ts e =
    over_begun c.args.text.now c.args.self.now.out.text.items c.put-in-Some.new.self.text.items c.replace.new.self.out.text.items
    (marks_seen c.args.self.now.marks.items) (marks_seen c.replace.new.self.marks.items) c.args.self.now.at c.args.self.now.skip c.replace.new.self.at c.replace.new.self.skip
    c.args.token ts (form_seen c.in-Some.form) (omega (arith, c.if-self-gt0.false)) c.replace.ensures.at c.replace.ensures.skip
    (ap (λ (ss : List Symbol). first_form (whats ss)) (sym e) ∙ (sym c.first_form.ensures ∙ ap (option_map form_seen) c.in-Some.is))
    (c.put-in-Some.ensures.text (c.replace.ensures.before w)) (c.replace.ensures.text w) (c.replace.ensures.marks w)
