-- What the table's map has at its keys.
use Rattle.std.proofs.Common.{◌≡◌, ℕ, Bool, true, false, ◌&&◌, ◌||◌, ◌==◌, cond, refl, sym, ap, ◌∙◌, List, [], ◌∷◌, ◌++◌, length, get_or, Option, Some, None, ◌<◌, ◌≤◌, min, arith}
use Rattle.std.specs.Prelude.{is_some, IfSome, nat_lt, slice_get, find, position, unwrap_or, if◌then◌else◌}
use Rattle.std.specs.Option.{option_or, option_copied}
use Rattle.std.proofs.lemmas.Option.{slice_get_past, slice_get-get_or}
use Rattle.std.proofs.lemmas.List.Folds.{find_at}
use Rattle.std.specs.List.{position_or_len}
use Rattle.std.specs.Borrow.{Bor}
use Rattle.std.specs.Str.{bytes_eq}
use Rattle.std.proofs.lemmas.Bool.{and_parts, ltb-true, ltb-false}
use Rattle.std.proofs.lemmas.Slice.Eq.{bytes_eq-Decides}
use Rattle.std.proofs.lemmas.Grind.{common_steps}
use Rattle.indexmap.specs.IndexMap.{IndexMap, get, get_by}
use Rattle.loft_tree.specs.Source.{Ident}
use Rattle.loft_scopes.specs.Scopes.{Scope, Everywhere, Within, Declared, is_seen, seen_together, same_name, earlier, meaning}
use Rattle.loft_scopes.specs.declared.table.Reach.{Reach}
use Rattle.loft_scopes.specs.declared.table.Reach.TheVariants.{Anywhere, In}
use Rattle.loft_scopes.specs.contracts.table.ReachPartialEq.TheImpl as reach
use Rattle.loft_scopes.specs.Tables.{Key, same_key, same_reach, same_scope, is_reached, is_sought, IndexesFirsts, NotesFirst}
use Rattle.loft_scopes.proofs.Positions.{position-push, position_or_len-either, unwrap_or-position}

-- ---- names and scopes

eq_sym : (m n : ℕ) → (m == n) ≡ (n == m)
eq_sym m n = grind (arith, common_steps)

pub bytes_eq-sym : (xs ys : List ℕ) → bytes_eq xs ys ≡ bytes_eq ys xs
bytes_eq-sym [] [] = refl
bytes_eq-sym [] (y ∷ ys) = refl
bytes_eq-sym (x ∷ xs) [] = refl
bytes_eq-sym (x ∷ xs) (y ∷ ys) = ap (λ b. b && bytes_eq xs ys) (eq_sym x y) ∙ ap (λ b. (y == x) && b) (bytes_eq-sym xs ys)

same_scope-sym : (s t : Scope) → same_scope s t ≡ same_scope t s
same_scope-sym Everywhere Everywhere = refl
same_scope-sym Everywhere (Within n) = refl
same_scope-sym (Within m) Everywhere = refl
same_scope-sym (Within m) (Within n) = eq_sym m n

same_reach-sym : (r s : Reach) → same_reach r s ≡ same_reach s r
same_reach-sym Anywhere Anywhere = refl
same_reach-sym Anywhere (In t) = refl
same_reach-sym (In s) Anywhere = refl
same_reach-sym (In s) (In t) = same_scope-sym s t

same_key-sym : (q k : Key) → same_key q k ≡ same_key k q
same_key-sym q k = ap (λ b. b && bytes_eq q.1.now k.1.now) (same_reach-sym q.0 k.0) ∙ ap (λ b. same_reach k.0 q.0 && b) (bytes_eq-sym q.1.now k.1.now)

scope_is : (s t : Scope) → same_scope s t ≡ true → s ≡ t
scope_is Everywhere Everywhere e = refl
scope_is Everywhere (Within n) e = absurd cc
scope_is (Within m) Everywhere e = absurd cc
scope_is (Within m) (Within n) e = ap Within (grind (arith, common_steps))

reach_is : (r s : Reach) → same_reach r s ≡ true → r ≡ s
reach_is Anywhere Anywhere e = refl
reach_is Anywhere (In t) e = absurd cc
reach_is (In s) Anywhere e = absurd cc
reach_is (In s) (In t) e = ap In (scope_is s t e)

either_and : (a b c : Bool) → ((a && b) || (c && b)) ≡ (b && (a || c))
either_and true true c = refl
either_and true false true = refl
either_and true false false = refl
either_and false true true = refl
either_and false true false = refl
either_and false false true = refl
either_and false false false = refl

seen : (there from : Scope) → (same_scope Everywhere there || same_scope from there) ≡ is_seen there from
seen Everywhere from = refl
seen (Within m) Everywhere = refl
seen (Within m) (Within n) = eq_sym n m

-- what is seen from a scope is declared everywhere or there
pub sought_either : (from : Scope) (name : Ident) (d : Declared) → (is_sought (In Everywhere) name.text d || is_sought (In from) name.text d) ≡ (same_name name d && is_seen d.scope from)
sought_either from name d =
    either_and (same_scope Everywhere d.scope) (same_name name d) (same_scope from d.scope) ∙ ap (λ b. same_name name d && b) (seen d.scope from)

-- the element at an index, if there is one
pub got : {A : Type 0} (found : Option (Bor A)) (xs : List A) (i : ℕ) → is_some found ≡ nat_lt i (length xs) → IfSome found (λ x. x.now ≡ get_or xs i x.now)
    → option_copied found ≡ slice_get xs i
got None xs i e is = let past : length xs ≤ i = ltb-false i (length xs) (sym e) in sym (slice_get_past xs i past)
got (Some x) xs i e is = let lt : i < length xs = ltb-true i (length xs) (sym e) in sym (slice_get-get_or xs i x.now lt ∙ ap Some (sym is))

-- what a name means, by the indexes of the first declarations of it everywhere and where it is used
pub meaning_at : (ds : List Declared) (from : Scope) (name : Ident)
    → slice_get ds (min (position_or_len (is_sought (In Everywhere) name.text) ds) (position_or_len (is_sought (In from) name.text) ds)) ≡ meaning ds from name
meaning_at ds from name =
    ap (slice_get ds) (sym (position_or_len-either (is_sought (In Everywhere) name.text) (is_sought (In from) name.text) ds))
    ∙ sym (find_at (λ d. is_sought (In Everywhere) name.text d || is_sought (In from) name.text d) ds)
    ∙ (λ i. find (λ d. sought_either from name d i) ds)

-- what is declared anywhere can be seen together with what is seen everywhere
pub earlier_at : (ds : List Declared) (d : Declared) → d.scope ≡ Everywhere → slice_get ds (position_or_len (is_sought Anywhere d.name.text) ds) ≡ earlier ds d
earlier_at ds d is =
    sym (find_at (is_sought Anywhere d.name.text) ds)
    ∙ (λ i. find (λ other. and_true (same_name d.name other) i) ds)
    ∙ (λ i. find (λ other. same_name d.name other && seen_together (sym is i) other.scope) ds)
  where
    and_true : (b : Bool) → b ≡ (b && true)
    and_true true = refl
    and_true false = refl

-- ---- the map

pub reach_eq : (x y : Reach) → reach.ghosts.eq x y ≡ same_reach x y
reach_eq Anywhere Anywhere = refl
reach_eq Anywhere (In s) = refl
reach_eq (In s) Anywhere = refl
reach_eq (In Everywhere) (In Everywhere) = refl
reach_eq (In Everywhere) (In (Within n)) = refl
reach_eq (In (Within m)) (In Everywhere) = refl
reach_eq (In (Within m)) (In (Within n)) = refl

module _ {S : Type 0} (m : IndexMap Key ℕ S) where
  -- a look-up goes by `same_key`
  pub get_sought : (q : Key) → get_by (λ k. reach.ghosts.eq q.0 k.0 && bytes_eq q.1.now k.1.now) m ≡ get same_key m q
  get_sought q = λ i. get_by (λ (k : Key). reach_eq q.0 k.0 i && bytes_eq q.1.now k.1.now) m

  -- two keys that look for the same find the same
  get_same : (q k : Key) → same_key q k ≡ true → get same_key m q ≡ get same_key m k
  get_same q k e =
      let parts = and_parts (same_reach q.0 k.0) (bytes_eq q.1.now k.1.now) e in
      let reaches : q.0 ≡ k.0 = reach_is q.0 k.0 parts.0 in
      let names : q.1.now ≡ k.1.now = (bytes_eq-Decides q.1.now k.1.now).0 parts.1 in
      λ i. get_by (λ (x : Key). same_reach (reaches i) x.0 && bytes_eq (names i) x.1.now) m

  -- what the first is, by a look-up
  pub first_found : (ds : List Declared) (q : Key) (name : List ℕ) (found : Option ℕ) (n : ℕ)
      → found ≡ get_by (λ k. reach.ghosts.eq q.0 k.0 && bytes_eq q.1.now k.1.now) m → IndexesFirsts m ds → n ≡ length ds → q.1.now ≡ name
      → unwrap_or found n ≡ position_or_len (is_sought q.0 name) ds
  first_found ds q name found n at indexes long is =
      ap (λ o. unwrap_or o n) (at ∙ get_sought q ∙ indexes q) ∙ ap (λ k. unwrap_or (position (is_sought q.0 q.1.now) ds) k) long
      ∙ unwrap_or-position (is_sought q.0 q.1.now) ds ∙ ap (λ t. position_or_len (is_sought q.0 t) ds) is

  -- a key that has an index keeps it
  pub kept : (key : Key) (place : ℕ) → is_some (get same_key m key) ≡ true → NotesFirst m m key place
  kept key place there q =
      elim (same_key q key) as (λ b. same_key q key ≡ b → get same_key m q ≡ option_or (get same_key m q) (if b then Some place else None)) [
        | true ↦ λ e. at_some (get same_key m q) (ap is_some (get_same q key e) ∙ there)
        | false ↦ λ e. or_none (get same_key m q)
      ] refl
    where
      or_none : (o : Option ℕ) → o ≡ option_or o None
      or_none None = refl
      or_none (Some n) = refl

      at_some : (o : Option ℕ) → is_some o ≡ true → o ≡ option_or o (Some place)
      at_some None e = absurd cc
      at_some (Some n) e = refl

-- one that has none gets it
pub noted : {S : Type 0} (old new : IndexMap Key ℕ S) (key : Key) (place : ℕ) → is_some (get same_key old key) ≡ false
    → ((q : Key) → get same_key new q ≡ cond (same_key key q) (Some place) (get same_key old q)) → NotesFirst old new key place
noted old new key place missing updates q =
    elim (same_key q key) as (λ b. same_key q key ≡ b → get same_key new q ≡ option_or (get same_key old q) (if b then Some place else None)) [
      | true ↦ λ e. updates q ∙ ap (λ b. cond b (Some place) (get same_key old q)) (same_key-sym key q ∙ e)
          ∙ at_none (get same_key old q) (ap is_some (get_same old q key e) ∙ missing)
      | false ↦ λ e. updates q ∙ ap (λ b. cond b (Some place) (get same_key old q)) (same_key-sym key q ∙ e)
          ∙ or_none (get same_key old q)
    ] refl
  where
    or_none : (o : Option ℕ) → o ≡ option_or o None
    or_none None = refl
    or_none (Some n) = refl

    at_none : (o : Option ℕ) → is_some o ≡ false → Some place ≡ option_or o (Some place)
    at_none None e = refl
    at_none (Some n) e = absurd cc

-- both keys of a declaration noted: the map indexes it too
pub indexes_more : {S : Type 0} (m once twice : IndexMap Key ℕ S) (ds : List Declared) (d : Declared) (name : Bor (List ℕ))
    → name.now ≡ d.name.text → IndexesFirsts m ds
    → NotesFirst m once (Anywhere, name) (length ds) → NotesFirst once twice (In d.scope, name) (length ds)
    → IndexesFirsts twice (ds ++ d ∷ [])
indexes_more m once twice ds d name is indexes first second q =
    second q ∙ ap (λ o. option_or o (if same_key q (In d.scope, name) then Some (length ds) else None)) (first q)
    ∙ ap (λ o. option_or (option_or o (if same_key q (Anywhere, name) then Some (length ds) else None)) (if same_key q (In d.scope, name) then Some (length ds) else None)) (indexes q)
    ∙ ap (λ t. option_or (option_or (position (is_sought q.0 q.1.now) ds) (if same_reach q.0 Anywhere && bytes_eq q.1.now t then Some (length ds) else None)) (if same_reach q.0 (In d.scope) && bytes_eq q.1.now t then Some (length ds) else None)) is
    ∙ once_enough (position (is_sought q.0 q.1.now) ds) q.0 (bytes_eq q.1.now d.name.text)
    ∙ ap (λ b. option_or (position (is_sought q.0 q.1.now) ds) (if is_reached q.0 d.scope && b then Some (length ds) else None)) (bytes_eq-sym q.1.now d.name.text)
    ∙ sym (position-push (is_sought q.0 q.1.now) ds d)
  where
    once_enough : (o : Option ℕ) (r : Reach) (b : Bool)
        → option_or (option_or o (if same_reach r Anywhere && b then Some (length ds) else None)) (if same_reach r (In d.scope) && b then Some (length ds) else None)
        ≡ option_or o (if is_reached r d.scope && b then Some (length ds) else None)
    once_enough None Anywhere true = refl
    once_enough None Anywhere false = refl
    once_enough None (In s) b = refl
    once_enough (Some n) r b = refl
