-- Lines as they are written: a body after an operation whose target is set once the body stands.
use Rattle.std.proofs.Common.{◌≡◌, ℕ, zero, suc, ◌+◌, ◌==◌, true, false, List, [], ◌∷◌, ◌++◌, length, map, Some, slice_get, refl, sym, ap, ◌∙◌, arith, append_assoc, length-append}
use Rattle.std.specs.Prelude.{slice_set}
use Rattle.std.proofs.lemmas.List.{length-map}
use Rattle.std.proofs.lemmas.Bool.{eqb-true}
use Rattle.loft_tree.specs.declared.heads.Place.{Place}
use Rattle.loft_tree.specs.declared.heads.Heads.{Heads}
use Rattle.loft_tree.specs.declared.named.NamedStmt.{NamedStmt}
use Rattle.loft_tree.specs.declared.named.Module.{Module}
use Rattle.loft_tree.specs.declared.named.NamedProgram.{NamedProgram as ProgramInMemory}
use Rattle.loft_tree.specs.NamedTree.{NamedModule}
use Rattle.loft_tree.specs.ProgramView.{module_of, program_of}
use Rattle.loft_tree.specs.NamedView.{statement_of, statements_of}
use Rattle.loft_tree.specs.Resolved.{step_of, body_of, resolved_of, Exp, Step, Choose, Loop, Times, Body, Empty, Then}
use Rattle.loft_code.specs.declared.op.Op.{Op}
use Rattle.loft_code.specs.declared.raw.CodeLine.{CodeLine}
use Rattle.loft_code.specs.declared.raw.ModuleCode.{ModuleCode}
use Rattle.loft_code.specs.Operations.{Operation, Line, Branch, Enter, Count, Turn, Jump}
use Rattle.loft_code.specs.View.{operation_of, line_of, lines_of, code_of}
use Rattle.loft_sense.specs.Stands.{leads}
use Rattle.loft_translation.specs.Compiled.{line, if_lines, else_lines, step_lines, body_lines, modules_from, compiled}
use Rattle.loft_compile.specs.Targets.{first_operation, with_target, line_with_target, lines_with_target}

target_seam : (a : List Line) (l : Line) (b : List Line) (n : ℕ) → lines_with_target (a ++ l ∷ b) (length a) n ≡ a ++ line_with_target n l ∷ b
target_seam [] l b n = refl
target_seam (x ∷ a) l b n = ap (λ (ls : List Line). x ∷ ls) (target_seam a l b n)

-- the operation of the line with the number k is set to another target
pub target_set : (ls : List CodeLine) (k n : ℕ) (l : CodeLine) (o : Op) → slice_get ls k ≡ Some l → operation_of o ≡ with_target n (operation_of l.op)
    → map line_of (slice_set ls k (record { place = l.place; depth = l.depth; op = o })) ≡ lines_with_target (map line_of ls) k n
target_set [] k n l o at is = absurd cc
target_set (x ∷ ls) zero n l o at is =
    let same : x ≡ l = cc in
    ap (λ (p : Operation). line l.place l.depth p ∷ map line_of ls) is ∙ ap (λ (y : CodeLine). line_with_target n (line_of y) ∷ map line_of ls) (sym same)
target_set (x ∷ ls) (suc k) n l o at is = ap (λ (ys : List Line). line_of x ∷ ys) (target_set ls k n l o at is)

-- lines after one more
after_one : (base c : List Line) (l : Line) (p q : ℕ) (code : ℕ → List Line) → p ≡ length base → c ≡ base ++ l ∷ [] → q ≡ length c → c ++ code q ≡ base ++ l ∷ code (p + 1)
after_one base c l p q code at e m =
    let next : q ≡ p + 1 = omega (arith, m, ap length e, length-append base (l ∷ []), at) in
    ap (λ x. x ++ code q) e ∙ append_assoc base (l ∷ []) (code q) ∙ ap (λ n. base ++ l ∷ code n) next

-- the line after the base is set to another target
target_after : (base c : List Line) (l : Line) (rest : List Line) (p n m : ℕ) → p ≡ length base → c ≡ base ++ l ∷ rest → n ≡ m → lines_with_target c p n ≡ base ++ line_with_target m l ∷ rest
target_after base c l rest p n m at e same =
    ap (λ x. lines_with_target x p n) e ∙ ap (λ k. lines_with_target (base ++ l ∷ rest) k n) at ∙ target_seam base l rest n ∙ ap (λ k. base ++ line_with_target k l ∷ rest) same

pub if_written : (base c1 c2 c3 : List Line) (p n1 n2 d : ℕ) (here : Place) (e : Exp) (code : ℕ → List Line)
    → p ≡ length base → c1 ≡ base ++ line here d (Branch 0 e) ∷ [] → n1 ≡ length c1 → c2 ≡ c1 ++ code n1 → n2 ≡ length c2 → c3 ≡ lines_with_target c2 p n2
    → c3 ≡ base ++ if_lines p d here e (code (p + 1))
if_written base c1 c2 c3 p n1 n2 d here e code at e1 m1 e2 m2 e3 =
    let x = code (p + 1) in
    let b = line here d (Branch 0 e) in
    let two : c2 ≡ base ++ b ∷ x = e2 ∙ after_one base c1 b p n1 code at e1 m1 in
    e3 ∙ target_after base c2 b x p n2 (p + 1 + length x) at two (omega (arith, m2, ap length two, length-append base (b ∷ x), at))

pub else_written : (base c1 c2 c3 c4 c5 c6 : List Line) (p n1 q n3 n4 n5 d : ℕ) (here there : Place) (e : Exp) (code other : ℕ → List Line)
    → p ≡ length base → c1 ≡ base ++ line here d (Branch 0 e) ∷ [] → n1 ≡ length c1 → c2 ≡ c1 ++ code n1 → q ≡ length c2 → c3 ≡ c2 ++ line there d (Jump 0) ∷ []
    → n3 ≡ length c3 → c4 ≡ lines_with_target c3 p n3 → n4 ≡ length c4 → c5 ≡ c4 ++ other n4 → n5 ≡ length c5 → c6 ≡ lines_with_target c5 q n5
    → c6 ≡ base ++ else_lines p d here there e (code (p + 1)) (other (p + 1 + length (code (p + 1)) + 1))
else_written base c1 c2 c3 c4 c5 c6 p n1 q n3 n4 n5 d here there e code other at e1 m1 e2 m2 e3 m3 e4 m4 e5 m5 e6 =
    let x = code (p + 1) in
    let t = p + 1 + length x + 1 in
    let y = other t in
    let b = line here d (Branch 0 e) in
    let branch = line here d (Branch t e) in
    let j = line there d (Jump 0) in
    let front = base ++ branch ∷ x in
    let two : c2 ≡ base ++ b ∷ x = e2 ∙ after_one base c1 b p n1 code at e1 m1 in
    let q_is : q ≡ p + 1 + length x = omega (arith, m2, ap length two, length-append base (b ∷ x), at) in
    let three : c3 ≡ base ++ b ∷ (x ++ j ∷ []) = e3 ∙ ap (λ c. c ++ j ∷ []) two ∙ append_assoc base (b ∷ x) (j ∷ []) in
    let n3_is : n3 ≡ t = omega (arith, m3, ap length e3, length-append c2 (j ∷ []), m2, q_is) in
    let four : c4 ≡ front ++ j ∷ [] = e4 ∙ target_after base c3 b (x ++ j ∷ []) p n3 t at three n3_is ∙ sym (append_assoc base (branch ∷ x) (j ∷ [])) in
    let at_front : q ≡ length front = omega (arith, q_is, length-append base (branch ∷ x), at) in
    let five : c5 ≡ front ++ j ∷ other (q + 1) = e5 ∙ after_one front c4 j q n4 other at_front four m4 in
    let next : q + 1 ≡ t = omega (arith, q_is) in
    let five_at : c5 ≡ front ++ j ∷ y = five ∙ ap (λ n. front ++ j ∷ other n) next in
    let n5_is : n5 ≡ t + length y = omega (arith, m5, ap length five_at, length-append front (j ∷ y), at_front, next) in
    e6 ∙ target_after front c5 j y q n5 (t + length y) at_front five_at n5_is ∙ append_assoc base (branch ∷ x) (line there d (Jump (t + length y)) ∷ y)

-- a test after one more operation, a body, and the jump back
loop_written : (base c0 c1 c2 c3 : List Line) (first test : Line) (p q n1 n2 d : ℕ) (there : Place) (code : ℕ → List Line)
    → p ≡ length base → c0 ≡ base ++ first ∷ [] → q ≡ length c0 → c1 ≡ c0 ++ test ∷ [] → n1 ≡ length c1 → c2 ≡ c1 ++ code n1
    → n2 ≡ length c2 → c3 ≡ lines_with_target (c2 ++ line there d (Jump q) ∷ []) q (n2 + 1)
    → c3 ≡ base ++ first ∷ (line_with_target (p + 1 + 1 + length (code (p + 1 + 1)) + 1) test ∷ (code (p + 1 + 1) ++ line there d (Jump (p + 1)) ∷ []))
loop_written base c0 c1 c2 c3 first test p q n1 n2 d there code at e0 m0 e1 m1 e2 m2 e3 =
    let x = code (p + 1 + 1) in
    let q_is : q ≡ p + 1 = omega (arith, m0, ap length e0, length-append base (first ∷ []), at) in
    let j = line there d (Jump q) in
    let next : q + 1 ≡ p + 1 + 1 = omega (arith, q_is) in
    let two : c2 ≡ c0 ++ test ∷ x = e2 ∙ after_one c0 c1 test q n1 code m0 e1 m1 ∙ ap (λ n. c0 ++ test ∷ code n) next in
    let three : c2 ++ j ∷ [] ≡ c0 ++ test ∷ (x ++ j ∷ []) = ap (λ c. c ++ j ∷ []) two ∙ append_assoc c0 (test ∷ x) (j ∷ []) in
    let past = p + 1 + 1 + length x + 1 in
    let n2_is : n2 + 1 ≡ past = omega (arith, m2, ap length two, length-append c0 (test ∷ x), m0, q_is) in
    e3 ∙ target_after c0 (c2 ++ j ∷ []) test (x ++ j ∷ []) q (n2 + 1) past m0 three n2_is ∙ ap (λ c. c ++ line_with_target past test ∷ (x ++ j ∷ [])) e0
    ∙ append_assoc base (first ∷ []) (line_with_target past test ∷ (x ++ j ∷ [])) ∙ ap (λ n. base ++ first ∷ (line_with_target past test ∷ (x ++ line there d (Jump n) ∷ []))) q_is

-- ---- the code of statements with bodies, as it is written

module _ (h : Heads) (here : Place) (s : Step) (base : List Line) (p d : ℕ) (at : p ≡ length base) where
  -- the first operation stands
  first_written : (c : List Line) (o : Operation) → o ≡ first_operation s → c ≡ base ++ line here d o ∷ [] → (t : Step) → s ≡ t → c ≡ base ++ line here d (first_operation t) ∷ []
  first_written c o is e t same = e ∙ ap (λ x. base ++ line here d x ∷ []) (is ∙ ap first_operation same)

  whole : (t : Step) (c : List Line) → s ≡ t → c ≡ base ++ step_lines h t p d here → c ≡ base ++ step_lines h s p d here
  whole t c same e = e ∙ ap (λ u. base ++ step_lines h u p d here) (sym same)

  pub choose_written : (o : Operation) (c1 c2 c3 : List Line) (n1 n2 : ℕ) (e : Exp) (x y : Body)
      → s ≡ Choose e x y → y ≡ Empty → o ≡ first_operation s → c1 ≡ base ++ line here d o ∷ [] → n1 ≡ length c1 → c2 ≡ c1 ++ body_lines h x n1 d here
      → n2 ≡ length c2 → c3 ≡ lines_with_target c2 p n2 → c3 ≡ base ++ step_lines h s p d here
  choose_written o c1 c2 c3 n1 n2 e x y is none first e1 m1 e2 m2 e3 =
      let same : s ≡ Choose e x Empty = is ∙ ap (λ b. Choose e x b) none in
      whole (Choose e x Empty) c3 same
      (if_written base c1 c2 c3 p n1 n2 d here e (λ n. body_lines h x n d here) at (first_written c1 o first e1 (Choose e x Empty) same) m1 e2 m2 e3)

  pub choose_else_written : (o : Operation) (c1 c2 c3 c4 c5 c6 : List Line) (n1 q n3 n4 n5 : ℕ) (there : Place) (e : Exp) (x y : Body) (z : Step) (rest : Body)
      → s ≡ Choose e x y → y ≡ Then z rest → there ≡ leads h x here → o ≡ first_operation s → c1 ≡ base ++ line here d o ∷ [] → n1 ≡ length c1 → c2 ≡ c1 ++ body_lines h x n1 d here
      → q ≡ length c2 → c3 ≡ c2 ++ line there d (Jump 0) ∷ [] → n3 ≡ length c3 → c4 ≡ lines_with_target c3 p n3 → n4 ≡ length c4 → c5 ≡ c4 ++ body_lines h y n4 d here
      → n5 ≡ length c5 → c6 ≡ lines_with_target c5 q n5 → c6 ≡ base ++ step_lines h s p d here
  choose_else_written o c1 c2 c3 c4 c5 c6 n1 q n3 n4 n5 there e x y z rest is some leads_there first e1 m1 e2 m2 e3 m3 e4 m4 e5 m5 e6 =
      let same : s ≡ Choose e x (Then z rest) = is ∙ ap (λ b. Choose e x b) some in
      let code = λ (n : ℕ). body_lines h x n d here in
      let other = λ (n : ℕ). body_lines h (Then z rest) n d here in
      let five : c5 ≡ c4 ++ body_lines h (Then z rest) n4 d here = e5 ∙ ap (λ b. c4 ++ body_lines h b n4 d here) some in
      let jump : c3 ≡ c2 ++ line (leads h x here) d (Jump 0) ∷ [] = e3 ∙ ap (λ r. c2 ++ line r d (Jump 0) ∷ []) leads_there in
      whole (Choose e x (Then z rest)) c6 same
      (else_written base c1 c2 c3 c4 c5 c6 p n1 q n3 n4 n5 d here (leads h x here) e code other at
      (first_written c1 o first e1 (Choose e x (Then z rest)) same) m1 e2 m2 jump m3 e4 m4 five m5 e6)

  pub while_written : (o : Operation) (c0 c1 c2 c3 : List Line) (q n1 n2 : ℕ) (there : Place) (e f : Exp) (x : Body)
      → s ≡ Loop e x → there ≡ leads h x here → o ≡ first_operation s → f ≡ e → c0 ≡ base ++ line here d o ∷ [] → q ≡ length c0 → c1 ≡ c0 ++ line here d (Branch 0 f) ∷ []
      → n1 ≡ length c1 → c2 ≡ c1 ++ body_lines h x n1 d here → n2 ≡ length c2 → c3 ≡ lines_with_target (c2 ++ line there d (Jump q) ∷ []) q (n2 + 1)
      → c3 ≡ base ++ step_lines h s p d here
  while_written o c0 c1 c2 c3 q n1 n2 there e f x is leads_there first copied e0 m0 e1 m1 e2 m2 e3 =
      let branch : c1 ≡ c0 ++ line here d (Branch 0 e) ∷ [] = e1 ∙ ap (λ g. c0 ++ line here d (Branch 0 g) ∷ []) copied in
      let back = e3 ∙ ap (λ r. lines_with_target (c2 ++ line r d (Jump q) ∷ []) q (n2 + 1)) leads_there in
      whole (Loop e x) c3 is
      (loop_written base c0 c1 c2 c3 (line here d Enter) (line here d (Branch 0 e)) p q n1 n2 d (leads h x here) (λ n. body_lines h x n d here)
      at (first_written c0 o first e0 (Loop e x) is) m0 branch m1 e2 m2 back)

  pub repeat_written : (o : Operation) (c0 c1 c2 c3 : List Line) (q n1 n2 : ℕ) (there : Place) (e : Exp) (x : Body)
      → s ≡ Times e x → there ≡ leads h x here → o ≡ first_operation s → c0 ≡ base ++ line here d o ∷ [] → q ≡ length c0 → c1 ≡ c0 ++ line here (d + 1) (Turn 0) ∷ []
      → n1 ≡ length c1 → c2 ≡ c1 ++ body_lines h x n1 (d + 1) here → n2 ≡ length c2 → c3 ≡ lines_with_target (c2 ++ line there (d + 1) (Jump q) ∷ []) q (n2 + 1)
      → c3 ≡ base ++ step_lines h s p d here
  repeat_written o c0 c1 c2 c3 q n1 n2 there e x is leads_there first e0 m0 e1 m1 e2 m2 e3 =
      let back = e3 ∙ ap (λ r. lines_with_target (c2 ++ line r (d + 1) (Jump q) ∷ []) q (n2 + 1)) leads_there in
      whole (Times e x) c3 is
      (loop_written base c0 c1 c2 c3 (line here d (Count e)) (line here (d + 1) (Turn 0)) p q n1 n2 (d + 1) (leads h x here) (λ n. body_lines h x n (d + 1) here)
      at (first_written c0 o first e0 (Times e x) is) m0 e1 m1 e2 m2 back)

-- ---- bodies in memory

pub empty_body : (ss : List NamedStmt) → (length ss == 0) ≡ true → body_of (statements_of ss) ≡ Empty
empty_body [] e = refl
empty_body (s ∷ ss) e = let none : length (s ∷ ss) ≡ 0 = eqb-true (length (s ∷ ss)) 0 e in absurd (omega (arith, none))

pub some_body : (ss : List NamedStmt) → (length ss == 0) ≡ false → (z : Step) × (rest : Body) × (body_of (statements_of ss) ≡ Then z rest)
some_body [] e = absurd cc
some_body (s ∷ ss) e = (step_of (statement_of s), body_of (statements_of ss), refl)

pub long : (ls : List CodeLine) → length ls ≡ length (map line_of ls)
long ls = sym (length-map ls line_of)

-- lines that are added after others
pub longer : (a b : List CodeLine) (x : List Line) → map line_of b ≡ map line_of a ++ x → length b ≡ length a + length x
longer a b x e = long b ∙ (ap length e ∙ (length-append (map line_of a) x ∙ ap (λ (n : ℕ). n + length x) (sym (long a))))

-- ---- programs in memory

pub code_is : (p q : ProgramInMemory) (heads : Heads) (code : List ModuleCode) (ms : List Module) → q ≡ p → ms ≡ q.modules.items → heads ≡ q.heads
    → map lines_of code ≡ modules_from q.heads 0 (map (λ (m : NamedModule). body_of m.body) (map module_of ms)) → code_of heads code ≡ compiled (resolved_of (program_of p))
code_is p q heads code ms same items declared lines =
    let with_heads : code_of heads code ≡ code_of q.heads code = ap (λ h. code_of h code) declared in
    let with_lines : code_of q.heads code ≡ compiled (resolved_of (program_of q)) =
    ap (λ ls. record { heads = q.heads; modules = ls }) (lines ∙ ap (λ xs. modules_from q.heads 0 (map (λ (m : NamedModule). body_of m.body) (map module_of xs))) items) in
    with_heads ∙ with_lines ∙ ap (λ (x : ProgramInMemory). compiled (resolved_of (program_of x))) same
