use Rattle.std.proofs.Common.{◌∙◌, ◌++◌, ℕ, List}
use Rattle.std.specs.Prelude.{codes}
use Rattle.loft_lock_forms.proofs.Pieces.{more}
use Rattle.loft_lock_forms.proofs.writing.put_taker.Goals as goal

pub returns-clause-text : goal.returns-clause-text
returns-clause-text c w12 rest =
    let l = c.args.lock.now in
    let a = c.args.at.now in
    let w11 = c.put-12.ensures.before w12 in
    let w10 = c.put-11.ensures.before w11 in
    let w9 = c.put-10.ensures.before w10 in
    let w8 = c.put-9.ensures.before w9 in
    let w7 = c.put-8.ensures.before w8 in
    let w6 = c.put-7.ensures.before w7 in
    let w5 = c.put-6.ensures.before w6 in
    let w4 = c.put-5.ensures.before w5 in
    let w3 = c.put-4.ensures.before w4 in
    let w2 = c.put-3.ensures.before w3 in
    let w1 = c.put-2.ensures.before w2 in
    let r11 : List ℕ = l ++ rest in
    let r10 : List ℕ = (codes ") then cooperate; end end held_") ++ r11 in
    let r9 : List ℕ = l ++ r10 in
    let r8 : List ℕ = (codes "; if (held_") ++ r9 in
    let r7 : List ℕ = l ++ r8 in
    let r6 : List ℕ = (codes ") do await free_") ++ r7 in
    let r5 : List ℕ = l ++ r6 in
    let r4 : List ℕ = (codes " while (held_") ++ r5 in
    let r3 : List ℕ = a ++ r4 in
    let r2 : List ℕ = (codes "() in ") ++ r3 in
    let r1 : List ℕ = l ++ r2 in
    more c.put-11.new.self.text.items l rest c.put-12.new.self.text.items (c.put-12.ensures.text w12)
    ∙ (more c.put-10.new.self.text.items (codes ") then cooperate; end end held_") r11 c.put-11.new.self.text.items (c.put-11.ensures.text w11)
    ∙ (more c.put-9.new.self.text.items l r10 c.put-10.new.self.text.items (c.put-10.ensures.text w10)
    ∙ (more c.put-8.new.self.text.items (codes "; if (held_") r9 c.put-9.new.self.text.items (c.put-9.ensures.text w9)
    ∙ (more c.put-7.new.self.text.items l r8 c.put-8.new.self.text.items (c.put-8.ensures.text w8)
    ∙ (more c.put-6.new.self.text.items (codes ") do await free_") r7 c.put-7.new.self.text.items (c.put-7.ensures.text w7)
    ∙ (more c.put-5.new.self.text.items l r6 c.put-6.new.self.text.items (c.put-6.ensures.text w6)
    ∙ (more c.put-4.new.self.text.items (codes " while (held_") r5 c.put-5.new.self.text.items (c.put-5.ensures.text w5)
    ∙ (more c.put-3.new.self.text.items a r4 c.put-4.new.self.text.items (c.put-4.ensures.text w4)
    ∙ (more c.put-2.new.self.text.items (codes "() in ") r3 c.put-3.new.self.text.items (c.put-3.ensures.text w3)
    ∙ (more c.put.new.self.text.items l r2 c.put-2.new.self.text.items (c.put-2.ensures.text w2)
    ∙ (more c.args.out.now.text.items (codes "; module lock_") r1 c.put.new.self.text.items (c.put.ensures.text w1))))))))))))
