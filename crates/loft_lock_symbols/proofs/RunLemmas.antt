-- The `run`s of what is spelled are those of its symbols: each name after the word `run`.
use Rattle.std.proofs.Common.{◌≡◌, ℕ, zero, suc, Bool, true, false, inl, inr, List, [], ◌∷◌, ◌++◌, Option, Some, None, sym, ap, ◌∙◌, subst}
use Rattle.std.specs.Prelude.{◌⊎◌}
use Rattle.loft_lex.specs.declared.word.Word.TheVariants as word
use Rattle.loft_lex.specs.Symbol.{Symbol, What}
use Rattle.loft_tree.specs.Fits.{Each}
use Rattle.loft_tree.specs.Source.{Ident, Expression, Creation, Statement, Declaration, Source}
use Rattle.loft_tree.specs.View.{body_of}
use Rattle.loft_form.specs.Form.{maybe, Limits, State}
use Rattle.loft_form.specs.Spells.{Spelling, SpellsEach, Spells, SpellsRule}
use Rattle.loft_grammar.specs.Language.{Language, Rule, Bracketed, Signed, Conditional, Looped, Meaning, is_word, is_name, kind_of}
use Rattle.loft_grammar.specs.Symbols.{Form, ident_of}
use Rattle.loft_grammar.specs.Statements.{rules, assignment_of, assignment, print_of, print, create, cooperate, generate, await_event, select, get, join, control, broadcast, link, unlink, run, halt, else_of, conditional, while_loop, repeat, value_statement, event_statement, thread_statement, moving_statement, statement, body, otherwise, branches, turns}
use Rattle.loft_grammar.specs.Items.{module_item, scheduler_item, event_item, shared_item, start_item, outside_item, item, program}
use Rattle.loft_grammar.specs.Limits.{limits, nesting, beginning}
use Rattle.loft_grammar.specs.Texts.{SpellsProgram}
use Rattle.loft_lock_sources.specs.Runs.{StatementRuns, StatementsRun, DeclarationRuns}

-- the word `run`
abbrev pub says_run : What → Bool
says_run x = is_word word.Run (kind_of x)

abbrev pub is_run : Symbol → Bool
is_run s = says_run s.what

module _ (P : Ident → Type 0) where
  -- ---- symbols

  -- a name right after the word, where after tells that the symbol stands there
  abbrev pub SymbolRuns : Bool → Symbol → Type 0
  SymbolRuns after s = after ≡ true → is_name (kind_of s.what) ≡ true → P (ident_of s)

  abbrev pub RunIn : Bool → List Symbol → Type 0
  RunIn after [] = Unit {0}
  RunIn after (s ∷ ss) = SymbolRuns after s × RunIn (is_run s) ss

  run_left : (after : Bool) (xs ys : List Symbol) → RunIn after (xs ++ ys) → RunIn after xs
  run_left after [] ys f = tt
  run_left after (x ∷ xs) ys f = (f.0, run_left (is_run x) xs ys f.1)

  run_right : (after : Bool) (xs ys : List Symbol) → RunIn after (xs ++ ys) → (d : Bool) × RunIn d ys
  run_right after [] ys f = (after, f)
  run_right after (x ∷ xs) ys f = run_right (is_run x) xs ys f.1

  -- whatever stands before them
  abbrev Away : List Symbol → Type 0
  Away ss = (after : Bool) × RunIn after ss

  part_left : (ss xs ys : List Symbol) → ss ≡ xs ++ ys → Away ss → Away xs
  part_left ss xs ys e f = (f.0, run_left f.0 xs ys (subst (RunIn f.0) e f.1))

  part_right : (ss xs ys : List Symbol) → ss ≡ xs ++ ys → Away ss → Away ys
  part_right ss xs ys e f = run_right f.0 xs ys (subst (RunIn f.0) e f.1)

  name_after : (ss back : List Symbol) (a s : Symbol) (x : Ident) → ss ≡ a ∷ s ∷ back → is_run a ≡ true → is_name (kind_of s.what) ≡ true → x ≡ ident_of s → Away ss → P x
  name_after ss back a s x is runs named v f =
      let g = subst (RunIn f.0) is f.1 in
      subst P (sym v) (g.1.0 runs named)

  -- ---- what rules inside run

  abbrev BranchesRun : Expression × (List Statement × Option (List Statement)) → Type 0
  BranchesRun x = StatementsRun P (body_of x.1.0) × StatementsRun P (else_of x.1.1)

  abbrev RuleRuns : (r : Rule) → Meaning r → Type 0
  RuleRuns Bracketed x = Unit {0}
  RuleRuns Signed x = Unit {0}
  RuleRuns Conditional x = BranchesRun x
  RuleRuns Looped x = StatementsRun P (body_of x.1)

  print_runs : (at : ℕ) (x : (List ℕ × Option Expression) ⊎ Expression) → StatementRuns P (print_of at x)
  print_runs at (inl x) = tt
  print_runs at (inr e) = tt

  assign_runs : (target : Ident) (x : (ℕ × Creation) ⊎ Expression) → StatementRuns P (assignment_of target x)
  assign_runs target (inl x) = tt
  assign_runs target (inr e) = tt

  module _ (lim : Limits Language) (m : ℕ) (Inner : (r : Rule) → Spelling Language (Meaning r))
      (inner : (r : Rule) (ss : List Symbol) (c : State Language) (x : Meaning r) (d : State Language) → Inner r ss c x d → Away ss → RuleRuns r x) where
    abbrev Sp : {a : Type 0} → Form a → Spelling Language a
    Sp f = Spells lim m Inner f

    value_runs : (ss : List Symbol) (c : State Language) (x : Statement) (d : State Language) → Sp value_statement ss c x d → StatementRuns P x
    unfolding value_statement assignment print create
    value_runs ss c x d (inl (y, is, q)) = subst (StatementRuns P) (sym is) (assign_runs y.0 y.1.1.0)
    value_runs ss c x d (inr (inl (y, is, q))) = subst (StatementRuns P) (sym is) (print_runs y.0 y.1.0)
    value_runs ss c x d (inr (inr (y, is, q))) = subst (StatementRuns P) (sym is) tt

    event_runs : (ss : List Symbol) (c : State Language) (x : Statement) (d : State Language) → Sp event_statement ss c x d → StatementRuns P x
    unfolding event_statement generate await_event select get broadcast
    event_runs ss c x d (inl (y, is, q)) = subst (StatementRuns P) (sym is) tt
    event_runs ss c x d (inr (inl (y, is, q))) = subst (StatementRuns P) (sym is) tt
    event_runs ss c x d (inr (inr (inl (y, is, q)))) = subst (StatementRuns P) (sym is) tt
    event_runs ss c x d (inr (inr (inr (inl (y, is, q))))) = subst (StatementRuns P) (sym is) tt
    event_runs ss c x d (inr (inr (inr (inr (y, is, q))))) = subst (StatementRuns P) (sym is) tt

    thread_runs : (ss : List Symbol) (c : State Language) (x : Statement) (d : State Language) → Sp thread_statement ss c x d → Away ss → StatementRuns P x
    unfolding thread_statement cooperate join control run halt
    thread_runs ss c x d (inl (y, is, q)) away = subst (StatementRuns P) (sym is) tt
    thread_runs ss c x d (inr (inl (y, is, q))) away = subst (StatementRuns P) (sym is) tt
    thread_runs ss c x d (inr (inr (inl (y, is, q)))) away = subst (StatementRuns P) (sym is) tt
    thread_runs ss c x d (inr (inr (inr (inl (y, is, (f1, b1, m1, e1, (s1, i1, t1, v1, g1, j1), (f2, b2, m2, e2, (s2, i2, t2, v2, g2, j2), q))))))) away =
        let two : ss ≡ s1 ∷ s2 ∷ b2 = e1 ∙ (ap (λ l. l ++ b1) i1 ∙ ap (λ l. s1 ∷ l) (e2 ∙ ap (λ l. l ++ b2) i2)) in
        subst (StatementRuns P) (sym is) (name_after ss b2 s1 s2 y.1.0 two t1 t2 v2 away)
    thread_runs ss c x d (inr (inr (inr (inr (y, is, q))))) away = subst (StatementRuns P) (sym is) tt

    moving_runs : (ss : List Symbol) (c : State Language) (x : Statement) (d : State Language) → Sp moving_statement ss c x d → Away ss → StatementRuns P x
    unfolding moving_statement link unlink conditional while_loop repeat
    moving_runs ss c x d (inl (y, is, q)) away = subst (StatementRuns P) (sym is) tt
    moving_runs ss c x d (inr (inl (y, is, q))) away = subst (StatementRuns P) (sym is) tt
    moving_runs ss c x d (inr (inr (inl (y, is, (f1, b1, m1, e1, p1, (f2, b2, m2, e2, p2, q)))))) away =
        subst (StatementRuns P) (sym is) (inner Conditional f2 m1 y.1.0 m2 p2 (part_left b1 f2 b2 e2 (part_right ss f1 b1 e1 away)))
    moving_runs ss c x d (inr (inr (inr (inl (y, is, (f1, b1, m1, e1, p1, (f2, b2, m2, e2, p2, q))))))) away =
        subst (StatementRuns P) (sym is) (inner Looped f2 m1 y.1.0 m2 p2 (part_left b1 f2 b2 e2 (part_right ss f1 b1 e1 away)))
    moving_runs ss c x d (inr (inr (inr (inr (y, is, (f1, b1, m1, e1, p1, (f2, b2, m2, e2, p2, q))))))) away =
        subst (StatementRuns P) (sym is) (inner Looped f2 m1 y.1.0 m2 p2 (part_left b1 f2 b2 e2 (part_right ss f1 b1 e1 away)))

    statement_runs : (ss : List Symbol) (c : State Language) (x : Statement) (d : State Language) → Sp statement ss c x d → Away ss → StatementRuns P x
    unfolding statement
    statement_runs ss c x d (inl p) away = value_runs ss c x d p
    statement_runs ss c x d (inr (inl p)) away = event_runs ss c x d p
    statement_runs ss c x d (inr (inr (inl p))) away = thread_runs ss c x d p away
    statement_runs ss c x d (inr (inr (inr p))) away = moving_runs ss c x d p away

    statements_run : (ss : List Symbol) (c : State Language) (xs : List Statement) (d : State Language) → SpellsEach (Sp statement) ss c xs d → Away ss → StatementsRun P (body_of xs)
    statements_run ss c [] d p away = tt
    statements_run ss c (x ∷ xs) d (front, back, b, e, p, q) away =
        (statement_runs front c x b p (part_left ss front back e away), statements_run back b xs d q (part_right ss front back e away))

    body_runs : (ss : List Symbol) (c : State Language) (xs : List Statement) (d : State Language) → Sp body ss c xs d → Away ss → StatementsRun P (body_of xs)
    unfolding body
    body_runs ss c xs d p away = statements_run ss c xs d p away

    else_runs : (ss : List Symbol) (c : State Language) (x : List Statement) (d : State Language) → Sp otherwise ss c x d → Away ss → StatementsRun P (body_of x)
    unfolding otherwise
    else_runs ss c x d (y, is, (f1, b1, m1, e1, p1, q)) away = subst (λ (z : List Statement). StatementsRun P (body_of z)) (sym is) (body_runs b1 m1 y.1 d q (part_right ss f1 b1 e1 away))

    branches_run : (ss : List Symbol) (c : State Language) (x : Meaning Conditional) (d : State Language) → Sp branches ss c x d → Away ss → BranchesRun x
    unfolding branches
    branches_run ss c x d (y, is, (f1, b1, m1, e1, p1, (f2, b2, m2, e2, p2, (f3, b3, m3, e3, p3, q)))) away =
        let a2 = part_right b1 f2 b2 e2 (part_right ss f1 b1 e1 away) in
        subst BranchesRun (sym is) (body_runs f3 m2 y.1.1.0 m3 p3 (part_left b2 f3 b3 e3 a2), last y.1.1.1 q (part_right b2 f3 b3 e3 a2))
      where
        last : (o : Option (List Statement)) → Spells lim m Inner (maybe otherwise) b3 m3 o d → Away b3 → StatementsRun P (else_of o)
        last None q away = tt
        last (Some z) q away = else_runs b3 m3 z d q away

    turns_run : (ss : List Symbol) (c : State Language) (x : Meaning Looped) (d : State Language) → Sp turns ss c x d → Away ss → StatementsRun P (body_of x.1)
    unfolding turns
    turns_run ss c x d (y, is, (f1, b1, m1, e1, p1, (f2, b2, m2, e2, p2, q))) away =
        subst (λ (z : Meaning Looped). StatementsRun P (body_of z.1)) (sym is) (body_runs b2 m2 y.1.1 d q (part_right b1 f2 b2 e2 (part_right ss f1 b1 e1 away)))

    -- ---- declarations

    item_runs : (ss : List Symbol) (c : State Language) (x : Declaration) (d : State Language) → Sp item ss c x d → Away ss → DeclarationRuns P x
    unfolding item scheduler_item event_item shared_item module_item start_item outside_item
    item_runs ss c x d (inl (y, is, q)) away = subst (DeclarationRuns P) (sym is) tt
    item_runs ss c x d (inr (inl (y, is, q))) away = subst (DeclarationRuns P) (sym is) tt
    item_runs ss c x d (inr (inr (inl (y, is, q)))) away = subst (DeclarationRuns P) (sym is) tt
    item_runs ss c x d (inr (inr (inr (inl (y, is, (f1, b1, m1, e1, p1, (f2, b2, m2, e2, p2, (f3, b3, m3, e3, p3, q)))))))) away =
        let a2 = part_right b1 f2 b2 e2 (part_right ss f1 b1 e1 away) in
        subst (DeclarationRuns P) (sym is) (body_runs f3 _ y.1.1.0 m3 p3 (part_left b2 f3 b3 e3 a2))
    item_runs ss c x d (inr (inr (inr (inr (inl (y, is, q)))))) away = subst (DeclarationRuns P) (sym is) tt
    item_runs ss c x d (inr (inr (inr (inr (inr (y, is, q)))))) away = subst (DeclarationRuns P) (sym is) tt

    items_run : (ss : List Symbol) (c : State Language) (xs : Source) (d : State Language) → SpellsEach (Sp item) ss c xs d → Away ss → Each (DeclarationRuns P) xs
    items_run ss c [] d p away = tt
    items_run ss c (x ∷ xs) d (front, back, b, e, p, q) away =
        (item_runs front c x b p (part_left ss front back e away), items_run back b xs d q (part_right ss front back e away))

  rule_runs : (lim : Limits Language) (m : ℕ) (r : Rule) (ss : List Symbol) (c : State Language) (x : Meaning r) (d : State Language) → SpellsRule rules lim m r ss c x d → Away ss → RuleRuns r x
  rule_runs lim zero r ss c x d p away = absurd p
  rule_runs lim (suc m) Bracketed ss c x d p away = tt
  rule_runs lim (suc m) Signed ss c x d p away = tt
  rule_runs lim (suc m) Conditional ss c x d p away = branches_run lim m (SpellsRule rules lim m) (rule_runs lim m) ss c x d p away
  rule_runs lim (suc m) Looped ss c x d p away = turns_run lim m (SpellsRule rules lim m) (rule_runs lim m) ss c x d p away

  -- what holds of each name after `run` in the symbols of a program holds of each module that it runs
  pub program_runs : (ss : List Symbol) (s : Source) → SpellsProgram ss s → RunIn false ss → Each (DeclarationRuns P) s
  unfolding program
  program_runs ss s p f = items_run limits nesting (SpellsRule rules limits nesting) (rule_runs limits nesting) ss beginning s p.0 p.1 (false, f)
