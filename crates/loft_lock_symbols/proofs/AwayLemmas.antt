-- What is spelled by symbols that keep away from a lock keeps away from its names.
use Rattle.std.proofs.Common.{◌≡◌, ℕ, zero, suc, Bool, true, false, inl, inr, List, [], ◌∷◌, ◌++◌, Option, Some, None, sym, ap, ◌∙◌, subst}
use Rattle.std.specs.Prelude.{◌≢◌, ◌⊎◌}
use Rattle.loft_lex.specs.declared.sign.Sign.TheVariants as sign
use Rattle.loft_lex.specs.Symbol.{Symbol, What, Named, Keyword, Numeral, Quoted, Mark, Unreadable}
use Rattle.loft_tree.specs.Fits.{Each}
use Rattle.loft_tree.specs.Source.{Ident, Expression, Creation, Statement, Order, Declaration, Source}
use Rattle.loft_tree.specs.View.{body_of}
use Rattle.loft_form.specs.Form.{maybe, Limits, State}
use Rattle.loft_form.specs.Spells.{Spelling, SpellsEach, Spells, SpellsRule}
use Rattle.loft_grammar.specs.Language.{Language, Rule, Bracketed, Signed, Conditional, Looped, Meaning, is_sign, is_name, kind_of}
use Rattle.loft_grammar.specs.Symbols.{Form, bytes_of, ident_of}
use Rattle.loft_grammar.specs.Statements.{rules, creation, assigned, assignment_of, assignment, print_of, print, create, cooperate, generate, await_event, select, get, join, control, broadcast, link, unlink, run, halt, else_of, conditional, while_loop, repeat, value_statement, event_statement, thread_statement, moving_statement, statement, body, otherwise, branches, turns}
use Rattle.loft_grammar.specs.Items.{module_item, scheduler_item, event_item, shared_item, start_item, create_order, control_order, broadcast_order, order, outside_item, item}
use Rattle.loft_lock_sources.specs.SourceLocks.{LockNames, SetsOther, MakesOther, StatementKeeps, StatementsKeep, OrderMakesOther, DeclarationKeeps}
use Rattle.loft_lock_symbols.specs.LockSymbols.{WhatKeeps, is_dot, KeepAway}

module _ (n : LockNames) where
  -- ---- lists

  away_left : (dot : Bool) (xs ys : List Symbol) → KeepAway n dot (xs ++ ys) → KeepAway n dot xs
  away_left dot [] ys f = tt
  away_left dot (x ∷ xs) ys f = (f.0, away_left (is_dot n x) xs ys f.1)

  away_right : (dot : Bool) (xs ys : List Symbol) → KeepAway n dot (xs ++ ys) → (d : Bool) × KeepAway n d ys
  away_right dot [] ys f = (dot, f)
  away_right dot (x ∷ xs) ys f = away_right (is_dot n x) xs ys f.1

  -- the symbols keep away, whatever stands before them
  abbrev pub Away : List Symbol → Type 0
  Away ss = (dot : Bool) × KeepAway n dot ss

  part_left : (ss xs ys : List Symbol) → ss ≡ xs ++ ys → Away ss → Away xs
  part_left ss xs ys e f = (f.0, away_left f.0 xs ys (subst (KeepAway n f.0) e f.1))

  part_right : (ss xs ys : List Symbol) → ss ≡ xs ++ ys → Away ss → Away ys
  part_right ss xs ys e f = away_right f.0 xs ys (subst (KeepAway n f.0) e f.1)

  -- ---- single names

  set_by : (dot : Bool) (w : What) → is_name (kind_of w) ≡ true → WhatKeeps n dot w → bytes_of w ≢ n.held
  set_by true (Named text) e f = f.0
  set_by false (Named text) e f = f
  set_by dot (Keyword v) e f = absurd cc
  set_by dot (Numeral v) e f = absurd cc
  set_by dot (Quoted text) e f = absurd cc
  set_by dot (Mark v) e f = absurd cc
  set_by dot Unreadable e f = absurd cc

  made_by : (dot : Bool) (w : What) → dot ≡ true → is_name (kind_of w) ≡ true → WhatKeeps n dot w → (bytes_of w ≢ n.takes) × (bytes_of w ≢ n.gives)
  made_by true (Named text) d e f = (f.1, f.2)
  made_by false (Named text) d e f = absurd cc
  made_by dot (Keyword v) d e f = absurd cc
  made_by dot (Numeral v) d e f = absurd cc
  made_by dot (Quoted text) d e f = absurd cc
  made_by dot (Mark v) d e f = absurd cc
  made_by dot Unreadable d e f = absurd cc

  -- a name that the symbols are
  one_name : (ss : List Symbol) (s : Symbol) (x : Ident) → ss ≡ s ∷ [] → is_name (kind_of s.what) ≡ true → x ≡ ident_of s → Away ss → SetsOther n x
  one_name ss s x is named v f =
      let g = subst (KeepAway n f.0) is f.1 in
      subst (SetsOther n) (sym v) (set_by f.0 s.what named g.0)

  -- a name after a dot
  name_after : (ss back : List Symbol) (a s : Symbol) (x : Ident) → ss ≡ a ∷ s ∷ back → is_sign sign.Dot (kind_of a.what) ≡ true → is_name (kind_of s.what) ≡ true → x ≡ ident_of s → Away ss → MakesOther n x
  name_after ss back a s x is dot named v f =
      let g = subst (KeepAway n f.0) is f.1 in
      subst (MakesOther n) (sym v) (made_by (is_dot n a) s.what dot named g.1.0)

  -- ---- what rules inside keep

  abbrev BranchesKeep : Expression × (List Statement × Option (List Statement)) → Type 0
  BranchesKeep x = StatementsKeep n (body_of x.1.0) × StatementsKeep n (else_of x.1.1)

  abbrev RuleKeeps : (r : Rule) → Meaning r → Type 0
  RuleKeeps Bracketed x = Unit {0}
  RuleKeeps Signed x = Unit {0}
  RuleKeeps Conditional x = BranchesKeep x
  RuleKeeps Looped x = StatementsKeep n (body_of x.1)

  abbrev AssignedKeeps : (ℕ × Creation) ⊎ Expression → Type 0
  AssignedKeeps (inl x) = MakesOther n x.1.called
  AssignedKeeps (inr e) = Unit {0}

  print_keeps : (at : ℕ) (x : (List ℕ × Option Expression) ⊎ Expression) → StatementKeeps n (print_of at x)
  print_keeps at (inl x) = tt
  print_keeps at (inr e) = tt

  assign_keeps : (target : Ident) (x : (ℕ × Creation) ⊎ Expression) → SetsOther n target → AssignedKeeps x → StatementKeeps n (assignment_of target x)
  assign_keeps target (inl x) f g = (f, g)
  assign_keeps target (inr e) f g = f

  module _ (lim : Limits Language) (m : ℕ) (Inner : (r : Rule) → Spelling Language (Meaning r))
      (inner : (r : Rule) (ss : List Symbol) (c : State Language) (x : Meaning r) (d : State Language) → Inner r ss c x d → Away ss → RuleKeeps r x) where
    abbrev Sp : {a : Type 0} → Form a → Spelling Language a
    Sp f = Spells lim m Inner f

    creation_keeps : (ss : List Symbol) (c : State Language) (x : Creation) (d : State Language) → Sp creation ss c x d → Away ss → MakesOther n x.called
    unfolding creation
    creation_keeps ss c x d (y, is, (f1, b1, m1, e1, p1, (f2, b2, m2, e2, (s2, i2, t2, v2, g2, j2), (f3, b3, m3, e3, (s3, i3, t3, v3, g3, j3), q)))) away =
        let rest = part_right ss f1 b1 e1 away in
        let three : f3 ++ b3 ≡ s3 ∷ b3 = ap (λ l. l ++ b3) i3 in
        let two : b1 ≡ s2 ∷ s3 ∷ b3 = e2 ∙ (ap (λ l. l ++ b2) i2 ∙ ap (λ l. s2 ∷ l) (e3 ∙ three)) in
        subst (λ (z : Creation). MakesOther n z.called) (sym is) (name_after b1 b3 s2 s3 y.1.1.0 two t2 t3 v3 rest)

    assigned_keeps : (ss : List Symbol) (c : State Language) (x : (ℕ × Creation) ⊎ Expression) (d : State Language) → Sp assigned ss c x d → Away ss → AssignedKeeps x
    unfolding assigned
    assigned_keeps ss c x d (inl (y, is, (f1, b1, m1, e1, p1, q))) away = subst AssignedKeeps (sym is) (creation_keeps b1 m1 y.1 d q (part_right ss f1 b1 e1 away))
    assigned_keeps ss c x d (inr (y, is, q)) away = subst AssignedKeeps (sym is) tt

    value_keeps : (ss : List Symbol) (c : State Language) (x : Statement) (d : State Language) → Sp value_statement ss c x d → Away ss → StatementKeeps n x
    unfolding value_statement assignment print create
    value_keeps ss c x d (inl (y, is, (f1, b1, m1, e1, (s1, i1, t1, v1, g1, j1), (f2, b2, m2, e2, p2, (f3, b3, m3, e3, p3, q))))) away =
        let own = one_name f1 s1 y.0 i1 t1 v1 (part_left ss f1 b1 e1 away) in
        let value = assigned_keeps f3 m2 y.1.1.0 m3 p3 (part_left b2 f3 b3 e3 (part_right b1 f2 b2 e2 (part_right ss f1 b1 e1 away))) in
        subst (StatementKeeps n) (sym is) (assign_keeps y.0 y.1.1.0 own value)
    value_keeps ss c x d (inr (inl (y, is, q))) away = subst (StatementKeeps n) (sym is) (print_keeps y.0 y.1.0)
    value_keeps ss c x d (inr (inr (y, is, (f1, b1, m1, e1, p1, (f2, b2, m2, e2, p2, q))))) away =
        subst (StatementKeeps n) (sym is) (creation_keeps f2 m1 y.1.0 m2 p2 (part_left b1 f2 b2 e2 (part_right ss f1 b1 e1 away)))

    event_keeps : (ss : List Symbol) (c : State Language) (x : Statement) (d : State Language) → Sp event_statement ss c x d → Away ss → StatementKeeps n x
    unfolding event_statement generate await_event select get broadcast
    event_keeps ss c x d (inl (y, is, q)) away = subst (StatementKeeps n) (sym is) tt
    event_keeps ss c x d (inr (inl (y, is, q))) away = subst (StatementKeeps n) (sym is) tt
    event_keeps ss c x d (inr (inr (inl (y, is, q)))) away = subst (StatementKeeps n) (sym is) tt
    event_keeps ss c x d (inr (inr (inr (inl (y, is, (f1, b1, m1, e1, p1, (f2, b2, m2, e2, p2, (f3, b3, m3, e3, p3, (f4, b4, m4, e4, p4, (f5, b5, m5, e5, p5, (f6, b6, m6, e6, (s6, i6, t6, v6, g6, j6), q)))))))))))
        away =
        let a1 = part_right ss f1 b1 e1 away in
        let a2 = part_right b1 f2 b2 e2 a1 in
        let a3 = part_right b2 f3 b3 e3 a2 in
        let a4 = part_right b3 f4 b4 e4 a3 in
        let a5 = part_right b4 f5 b5 e5 a4 in
        subst (StatementKeeps n) (sym is) (one_name f6 s6 y.1.1.1.1.1.0 i6 t6 v6 (part_left b5 f6 b6 e6 a5))
    event_keeps ss c x d (inr (inr (inr (inr (y, is, q))))) away = subst (StatementKeeps n) (sym is) tt

    thread_keeps : (ss : List Symbol) (c : State Language) (x : Statement) (d : State Language) → Sp thread_statement ss c x d → StatementKeeps n x
    unfolding thread_statement cooperate join control run halt
    thread_keeps ss c x d (inl (y, is, q)) = subst (StatementKeeps n) (sym is) tt
    thread_keeps ss c x d (inr (inl (y, is, q))) = subst (StatementKeeps n) (sym is) tt
    thread_keeps ss c x d (inr (inr (inl (y, is, q)))) = subst (StatementKeeps n) (sym is) tt
    thread_keeps ss c x d (inr (inr (inr (inl (y, is, q))))) = subst (StatementKeeps n) (sym is) tt
    thread_keeps ss c x d (inr (inr (inr (inr (y, is, q))))) = subst (StatementKeeps n) (sym is) tt

    moving_keeps : (ss : List Symbol) (c : State Language) (x : Statement) (d : State Language) → Sp moving_statement ss c x d → Away ss → StatementKeeps n x
    unfolding moving_statement link unlink conditional while_loop repeat
    moving_keeps ss c x d (inl (y, is, q)) away = subst (StatementKeeps n) (sym is) tt
    moving_keeps ss c x d (inr (inl (y, is, q))) away = subst (StatementKeeps n) (sym is) tt
    moving_keeps ss c x d (inr (inr (inl (y, is, (f1, b1, m1, e1, p1, (f2, b2, m2, e2, p2, q)))))) away =
        subst (StatementKeeps n) (sym is) (inner Conditional f2 m1 y.1.0 m2 p2 (part_left b1 f2 b2 e2 (part_right ss f1 b1 e1 away)))
    moving_keeps ss c x d (inr (inr (inr (inl (y, is, (f1, b1, m1, e1, p1, (f2, b2, m2, e2, p2, q))))))) away =
        subst (StatementKeeps n) (sym is) (inner Looped f2 m1 y.1.0 m2 p2 (part_left b1 f2 b2 e2 (part_right ss f1 b1 e1 away)))
    moving_keeps ss c x d (inr (inr (inr (inr (y, is, (f1, b1, m1, e1, p1, (f2, b2, m2, e2, p2, q))))))) away =
        subst (StatementKeeps n) (sym is) (inner Looped f2 m1 y.1.0 m2 p2 (part_left b1 f2 b2 e2 (part_right ss f1 b1 e1 away)))

    statement_keeps : (ss : List Symbol) (c : State Language) (x : Statement) (d : State Language) → Sp statement ss c x d → Away ss → StatementKeeps n x
    unfolding statement
    statement_keeps ss c x d (inl p) away = value_keeps ss c x d p away
    statement_keeps ss c x d (inr (inl p)) away = event_keeps ss c x d p away
    statement_keeps ss c x d (inr (inr (inl p))) away = thread_keeps ss c x d p
    statement_keeps ss c x d (inr (inr (inr p))) away = moving_keeps ss c x d p away

    statements_keep : (ss : List Symbol) (c : State Language) (xs : List Statement) (d : State Language) → SpellsEach (Sp statement) ss c xs d → Away ss → StatementsKeep n (body_of xs)
    statements_keep ss c [] d p away = tt
    statements_keep ss c (x ∷ xs) d (front, back, b, e, p, q) away =
        (statement_keeps front c x b p (part_left ss front back e away), statements_keep back b xs d q (part_right ss front back e away))

    pub body_keeps : (ss : List Symbol) (c : State Language) (xs : List Statement) (d : State Language) → Sp body ss c xs d → Away ss → StatementsKeep n (body_of xs)
    unfolding body
    body_keeps ss c xs d p away = statements_keep ss c xs d p away

    else_keeps : (ss : List Symbol) (c : State Language) (x : List Statement) (d : State Language) → Sp otherwise ss c x d → Away ss → StatementsKeep n (body_of x)
    unfolding otherwise
    else_keeps ss c x d (y, is, (f1, b1, m1, e1, p1, q)) away = subst (λ (z : List Statement). StatementsKeep n (body_of z)) (sym is) (body_keeps b1 m1 y.1 d q (part_right ss f1 b1 e1 away))

    branches_keep : (ss : List Symbol) (c : State Language) (x : Meaning Conditional) (d : State Language) → Sp branches ss c x d → Away ss → BranchesKeep x
    unfolding branches
    branches_keep ss c x d (y, is, (f1, b1, m1, e1, p1, (f2, b2, m2, e2, p2, (f3, b3, m3, e3, p3, q)))) away =
        let a2 = part_right b1 f2 b2 e2 (part_right ss f1 b1 e1 away) in
        subst BranchesKeep (sym is) (body_keeps f3 m2 y.1.1.0 m3 p3 (part_left b2 f3 b3 e3 a2), last y.1.1.1 q (part_right b2 f3 b3 e3 a2))
      where
        last : (o : Option (List Statement)) → Spells lim m Inner (maybe otherwise) b3 m3 o d → Away b3 → StatementsKeep n (else_of o)
        last None q away = tt
        last (Some z) q away = else_keeps b3 m3 z d q away

    turns_keep : (ss : List Symbol) (c : State Language) (x : Meaning Looped) (d : State Language) → Sp turns ss c x d → Away ss → StatementsKeep n (body_of x.1)
    unfolding turns
    turns_keep ss c x d (y, is, (f1, b1, m1, e1, p1, (f2, b2, m2, e2, p2, q))) away =
        subst (λ (z : Meaning Looped). StatementsKeep n (body_of z.1)) (sym is) (body_keeps b2 m2 y.1.1 d q (part_right b1 f2 b2 e2 (part_right ss f1 b1 e1 away)))

    -- ---- declarations

    order_keeps : (ss : List Symbol) (c : State Language) (x : Order) (d : State Language) → Sp order ss c x d → Away ss → OrderMakesOther n x
    unfolding order create_order control_order broadcast_order
    order_keeps ss c x d (inl (y, is, (f1, b1, m1, e1, p1, (f2, b2, m2, e2, p2, (f3, b3, m3, e3, (s3, i3, t3, v3, g3, j3), (f4, b4, m4, e4, (s4, i4, t4, v4, g4, j4), q)))))) away =
        let a2 = part_right b1 f2 b2 e2 (part_right ss f1 b1 e1 away) in
        let two : b2 ≡ s3 ∷ s4 ∷ b4 = e3 ∙ (ap (λ l. l ++ b3) i3 ∙ ap (λ l. s3 ∷ l) (e4 ∙ ap (λ l. l ++ b4) i4)) in
        subst (OrderMakesOther n) (sym is) (name_after b2 b4 s3 s4 y.1.1.1.0 two t3 t4 v4 a2)
    order_keeps ss c x d (inr (inl (y, is, q))) away = subst (OrderMakesOther n) (sym is) tt
    order_keeps ss c x d (inr (inr (y, is, q))) away = subst (OrderMakesOther n) (sym is) tt

    orders_keep : (ss : List Symbol) (c : State Language) (xs : List Order) (d : State Language) → SpellsEach (Sp order) ss c xs d → Away ss → Each (OrderMakesOther n) xs
    orders_keep ss c [] d p away = tt
    orders_keep ss c (x ∷ xs) d (front, back, b, e, p, q) away =
        (order_keeps front c x b p (part_left ss front back e away), orders_keep back b xs d q (part_right ss front back e away))

    pub item_keeps : (ss : List Symbol) (c : State Language) (x : Declaration) (d : State Language) → Sp item ss c x d → Away ss → DeclarationKeeps n x
    unfolding item scheduler_item event_item shared_item module_item start_item outside_item
    item_keeps ss c x d (inl (y, is, q)) away = subst (DeclarationKeeps n) (sym is) tt
    item_keeps ss c x d (inr (inl (y, is, q))) away = subst (DeclarationKeeps n) (sym is) tt
    item_keeps ss c x d (inr (inr (inl (y, is, q)))) away = subst (DeclarationKeeps n) (sym is) tt
    item_keeps ss c x d (inr (inr (inr (inl (y, is, (f1, b1, m1, e1, p1, (f2, b2, m2, e2, p2, (f3, b3, m3, e3, p3, q)))))))) away =
        let a2 = part_right b1 f2 b2 e2 (part_right ss f1 b1 e1 away) in
        subst (DeclarationKeeps n) (sym is) (body_keeps f3 _ y.1.1.0 m3 p3 (part_left b2 f3 b3 e3 a2))
    item_keeps ss c x d (inr (inr (inr (inr (inl (y, is, (f1, b1, m1, e1, p1, (f2, b2, m2, e2, p2, (f3, b3, m3, e3, (s3, i3, t3, v3, g3, j3), (f4, b4, m4, e4, (s4, i4, t4, v4, g4, j4), q)))))))))) away =
        let a2 = part_right b1 f2 b2 e2 (part_right ss f1 b1 e1 away) in
        let two : b2 ≡ s3 ∷ s4 ∷ b4 = e3 ∙ (ap (λ l. l ++ b3) i3 ∙ ap (λ l. s3 ∷ l) (e4 ∙ ap (λ l. l ++ b4) i4)) in
        subst (DeclarationKeeps n) (sym is) (name_after b2 b4 s3 s4 y.1.1.1.0 two t3 t4 v4 a2)
    item_keeps ss c x d (inr (inr (inr (inr (inr (y, is, (f1, b1, m1, e1, p1, (f2, b2, m2, e2, p2, (f3, b3, m3, e3, p3, (f4, b4, m4, e4, p4, q)))))))))) away =
        let a3 = part_right b2 f3 b3 e3 (part_right b1 f2 b2 e2 (part_right ss f1 b1 e1 away)) in
        subst (DeclarationKeeps n) (sym is) (orders_keep f4 _ y.1.1.1.0 m4 p4 (part_left b3 f4 b4 e4 a3))

    pub items_keep : (ss : List Symbol) (c : State Language) (xs : Source) (d : State Language) → SpellsEach (Sp item) ss c xs d → Away ss → Each (DeclarationKeeps n) xs
    items_keep ss c [] d p away = tt
    items_keep ss c (x ∷ xs) d (front, back, b, e, p, q) away =
        (item_keeps front c x b p (part_left ss front back e away), items_keep back b xs d q (part_right ss front back e away))

  pub rule_keeps : (lim : Limits Language) (m : ℕ) (r : Rule) (ss : List Symbol) (c : State Language) (x : Meaning r) (d : State Language) → SpellsRule rules lim m r ss c x d → Away ss → RuleKeeps r x
  rule_keeps lim zero r ss c x d p away = absurd p
  rule_keeps lim (suc m) Bracketed ss c x d p away = tt
  rule_keeps lim (suc m) Signed ss c x d p away = tt
  rule_keeps lim (suc m) Conditional ss c x d p away = branches_keep lim m (SpellsRule rules lim m) (rule_keeps lim m) ss c x d p away
  rule_keeps lim (suc m) Looped ss c x d p away = turns_keep lim m (SpellsRule rules lim m) (rule_keeps lim m) ss c x d p away
