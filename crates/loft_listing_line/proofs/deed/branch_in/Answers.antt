use Rattle.std.proofs.Common.{◌≡◌, ◌∷◌, ◌++◌, codes, subst, Some, None}
use Rattle.std.specs.Option.{option_map}
use Rattle.std.specs.Fmt.{decimal}
use Rattle.loft_lex.specs.declared.TheConstants.{MAX_OFFSET}
use Rattle.loft_tree.specs.View.{expression_of}
use Rattle.loft_show.specs.Places.{bare_expression}
use Rattle.loft_listing_line.specs.Instructions.{Branch, bare_instruction, instruction_text}
use Rattle.loft_listing_line.specs.RowsFit.{InstructionFits}
use Rattle.loft_listing_line.proofs.Columns.{branch_cut, by_branch, line_bytes, rest_short, number_cut}
use Rattle.loft_listing_line.proofs.deed.branch_in.Goals as goal

pub returns-in_default-clause-found : goal.returns-in_default-clause-found
returns-in_default-clause-found c x of same short =
    by_branch (λ i. InstructionFits i → c.args.text.now ≡ instruction_text i → None ≡ Some (bare_instruction i)) x of.0
    (λ t test fits is. absurd (c.in_default.ensures (codes "branch") (decimal t ++ 32 ∷ line_bytes test) (branch_cut c.args.text.now t test is))) of.1 same

pub returns-in_default-number_before-clause-found :
    goal.returns-in_default-number_before-clause-found
returns-in_default-number_before-clause-found c x of same short =
    by_branch (λ i. InstructionFits i → c.args.text.now ≡ instruction_text i → None ≡ Some (bare_instruction i)) x of.0
    (λ t test fits is.
    let parts = c.in-Some.ensures (codes "branch") (decimal t ++ 32 ∷ line_bytes test) (branch_cut c.args.text.now t test is) in
    absurd (c.in_default-number_before.ensures.found t (line_bytes test) fits.0 parts.1)) of.1 same

pub returns-in-Some-2-clause-found : goal.returns-in-Some-2-clause-found
returns-in-Some-2-clause-found c x of same short =
    by_branch (λ i. InstructionFits i → c.args.text.now ≡ instruction_text i → Some (Branch c.in-Some-number_before.target (bare_expression (expression_of c.in-Some-2.test))) ≡ Some (bare_instruction i)) x of.0
    (λ t test fits is.
    let cut = branch_cut c.args.text.now t test is in
    let parts = c.in-Some.ensures (codes "branch") (decimal t ++ 32 ∷ line_bytes test) cut in
    let shorter = rest_short MAX_OFFSET 32 c.args.text.now (codes "branch") (decimal t ++ 32 ∷ line_bytes test) c.in-Some.text.now cut parts.1 short in
    let columns = c.in-Some-number_before.ensures.found t (line_bytes test) fits.0 parts.1 in
    let shortest = rest_short MAX_OFFSET 32 c.in-Some.text.now (decimal t) (line_bytes test) c.in-Some-number_before.text.now (number_cut t c.in-Some.text.now (line_bytes test) fits.0 parts.1) columns.1 shorter in
    let found = c.in_ok-test.ensures.found test fits.1 columns.1 shortest in
    let value : option_map (λ y. bare_expression (expression_of y)) (Some c.in-Some-2.test) ≡ Some (bare_expression test) =
    subst (λ f. option_map (λ y. bare_expression (expression_of y)) f ≡ Some (bare_expression test)) c.in-Some-2.is found in
    let number = columns.0 in
    cc) of.1 same

pub returns-in-None-clause-found : goal.returns-in-None-clause-found
returns-in-None-clause-found c x of same short =
    by_branch (λ i. InstructionFits i → c.args.text.now ≡ instruction_text i → None ≡ Some (bare_instruction i)) x of.0
    (λ t test fits is.
    let cut = branch_cut c.args.text.now t test is in
    let parts = c.in-Some.ensures (codes "branch") (decimal t ++ 32 ∷ line_bytes test) cut in
    let shorter = rest_short MAX_OFFSET 32 c.args.text.now (codes "branch") (decimal t ++ 32 ∷ line_bytes test) c.in-Some.text.now cut parts.1 short in
    let columns = c.in-Some-number_before.ensures.found t (line_bytes test) fits.0 parts.1 in
    let shortest = rest_short MAX_OFFSET 32 c.in-Some.text.now (decimal t) (line_bytes test) c.in-Some-number_before.text.now (number_cut t c.in-Some.text.now (line_bytes test) fits.0 parts.1) columns.1 shorter in
    let found = c.in_ok-test.ensures.found test fits.1 columns.1 shortest in
    let value : option_map (λ y. bare_expression (expression_of y)) None ≡ Some (bare_expression test) =
    subst (λ f. option_map (λ y. bare_expression (expression_of y)) f ≡ Some (bare_expression test)) c.in-None.is found in
    absurd cc) of.1 same
