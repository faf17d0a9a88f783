use Rattle.std.proofs.Common.{◌∙◌, ◌++◌, ℕ, List}
use Rattle.std.specs.Prelude.{codes}
use Rattle.loft_lock_forms.proofs.Pieces.{more}
use Rattle.loft_lock_forms.proofs.writing.put_heads.Goals as goal

pub returns-clause-text : goal.returns-clause-text
returns-clause-text c w8 rest =
    let l = c.args.lock.now in
    let a = c.args.at.now in
    let w7 = c.put-8.ensures.before w8 in
    let w6 = c.put-7.ensures.before w7 in
    let w5 = c.put-6.ensures.before w6 in
    let w4 = c.put-5.ensures.before w5 in
    let w3 = c.put-4.ensures.before w4 in
    let w2 = c.put-3.ensures.before w3 in
    let w1 = c.put-2.ensures.before w2 in
    let r7 : List ℕ = a ++ rest in
    let r6 : List ℕ = (codes " in ") ++ r7 in
    let r5 : List ℕ = l ++ r6 in
    let r4 : List ℕ = (codes " = 0; event free_") ++ r5 in
    let r3 : List ℕ = a ++ r4 in
    let r2 : List ℕ = (codes " in ") ++ r3 in
    let r1 : List ℕ = l ++ r2 in
    more c.put-7.new.self.text.items a rest c.put-8.new.self.text.items (c.put-8.ensures.text w8)
    ∙ (more c.put-6.new.self.text.items (codes " in ") r7 c.put-7.new.self.text.items (c.put-7.ensures.text w7)
    ∙ (more c.put-5.new.self.text.items l r6 c.put-6.new.self.text.items (c.put-6.ensures.text w6)
    ∙ (more c.put-4.new.self.text.items (codes " = 0; event free_") r5 c.put-5.new.self.text.items (c.put-5.ensures.text w5)
    ∙ (more c.put-3.new.self.text.items a r4 c.put-4.new.self.text.items (c.put-4.ensures.text w4)
    ∙ (more c.put-2.new.self.text.items (codes " in ") r3 c.put-3.new.self.text.items (c.put-3.ensures.text w3)
    ∙ (more c.put.new.self.text.items l r2 c.put-2.new.self.text.items (c.put-2.ensures.text w2)
    ∙ (more c.args.out.now.text.items (codes "shared held_") r1 c.put.new.self.text.items (c.put.ensures.text w1))))))))
