use Rattle.std.proofs.Common.{◌≡◌, codes, rules, ap, ◌∙◌, Some}
use Rattle.std.specs.Option.{option_map}
use Rattle.loft_listing_line.specs.Instructions.{bare_instruction, instruction_text}
use Rattle.loft_listing_line.specs.RowsFit.{InstructionFits}
use Rattle.loft_listing_line.specs.RowView.{deed_of}
use Rattle.loft_listing_line.specs.declared.row.Deed.TheVariants as memory
use Rattle.loft_listing_line.proofs.Columns.{by_turn, by_jump, turn_cut, jump_cut}
use Rattle.loft_listing_line.proofs.deed.deed_in.Goals as goal

pub returns-in-Turn-clause-found : goal.returns-in-Turn-clause-found
returns-in-Turn-clause-found c x fits same short =
    by_turn (λ i. InstructionFits i → c.args.text.now ≡ instruction_text i → option_map (λ y. bare_instruction (deed_of y)) c.map-in-Turn.result ≡ Some (bare_instruction i)) x (c.in-Turn.ensures x fits same)
    (λ t ok is.
    let made : c.map-in-Turn.result ≡ option_map (λ n. memory.Turn n) c.number_at_end.result = search rules in
    let found = c.number_at_end.ensures.found t (codes "turn") ok (turn_cut c.args.text.now t is) in
    ap (option_map (λ y. bare_instruction (deed_of y))) (made ∙ ap (option_map (λ n. memory.Turn n)) found)) fits same

pub returns-in-Jump-clause-found : goal.returns-in-Jump-clause-found
returns-in-Jump-clause-found c x fits same short =
    by_jump (λ i. InstructionFits i → c.args.text.now ≡ instruction_text i → option_map (λ y. bare_instruction (deed_of y)) c.map-in-Jump.result ≡ Some (bare_instruction i)) x (c.in-Jump.ensures x fits same)
    (λ t ok is.
    let made : c.map-in-Jump.result ≡ option_map (λ n. memory.Jump n) c.number_at_end-in-Jump.result = search rules in
    let found = c.number_at_end-in-Jump.ensures.found t (codes "jump") ok (jump_cut c.args.text.now t is) in
    ap (option_map (λ y. bare_instruction (deed_of y))) (made ∙ ap (option_map (λ n. memory.Jump n)) found)) fits same
