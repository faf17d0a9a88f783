-- One choice after another.
use Rattle.std.proofs.Common.{◌≡◌, ℕ, ◌+◌, ◌<◌, take, get_or, append_assoc, List, [], ◌∷◌, ◌++◌, length, refl, sym, ◌∙◌, ap, subst, arith, true, false, Option, Some, None, Result, Ok, Err}
use Rattle.std.proofs.lemmas.List.{length-append, take_more, take-append-drop}
use Rattle.std.specs.Prelude.{MatchOption, drop}
use Rattle.loft_orders.specs.declared.entry.Entry.{Entry}
use Rattle.loft_base.specs.declared.options.RunOptions.{RunOptions}
use Rattle.loft_sense.specs.Machine.{Prog, heads}
use Rattle.loft_history.specs.History.{with_entry}
use Rattle.loft_report_shape.specs.declared.raw.Choice.{Choice}
use Rattle.loft_replay.specs.Named.{meant, entry_meant, follows_on, follows, MovesBy}

-- a history goes on after the choices that made it
goes_on : (x : Prog) (o : RunOptions) (cs ds : List Choice) (h g : List Entry) → follows_on x o cs h ≡ Ok g → follows_on x o (cs ++ ds) h ≡ follows_on x o ds g
goes_on x o [] ds h g e = ap (λ (r : Result (List Entry) ℕ). from r) e
  where
    from : Result (List Entry) ℕ → Result (List Entry) ℕ
    from (Ok k) = follows_on x o ds k
    from (Err n) = Err n
goes_on x o (c ∷ cs) ds h g e = one_more (entry_meant x o h (meant (heads x) c)) e (λ k f. goes_on x o cs ds k g f)
  where
    one_more : (next : Option Entry) → with_entry h next (follows_on x o cs) ≡ Ok g → ((k : List Entry) → follows_on x o cs k ≡ Ok g → follows_on x o (cs ++ ds) k ≡ follows_on x o ds g)
        → with_entry h next (follows_on x o (cs ++ ds)) ≡ follows_on x o ds g
    one_more None f then_on = cc
    one_more (Some entry) f then_on = then_on (h ++ entry ∷ []) f

-- the choices so far made this history, with an entry for each
pub record HasFollowed (x : Prog) (o : RunOptions) (cs : List Choice) (count : ℕ) (h : List Entry) : Type 0 where
  pub made : follows x o cs ≡ Ok h
  pub long : length h ≡ count

pub none_yet : (x : Prog) (o : RunOptions) → HasFollowed x o [] 0 []
none_yet x o = record { made = refl; long = refl }

-- one choice more
pub one_more : (x : Prog) (o : RunOptions) (cs : List Choice) (count : ℕ) (c : Choice) (h g : List Entry) → HasFollowed x o cs count h → MovesBy x o h (meant (heads x) c) true g
    → HasFollowed x o (cs ++ c ∷ []) (count + 1) g
one_more x o cs count c h g so_far moves = by (entry_meant x o h (meant (heads x) c)) refl moves
  where
    by : (next : Option Entry) → entry_meant x o h (meant (heads x) c) ≡ next → MatchOption next ((true ≡ false) × (g ≡ h)) (λ e. (true ≡ true) × (g ≡ h ++ e ∷ []))
        → HasFollowed x o (cs ++ c ∷ []) (count + 1) g
    by None is m = absurd (let f = m.0 in cc)
    by (Some e) is m = record {
      made = goes_on x o cs (c ∷ []) [] h so_far.made ∙ (ap (λ (next : Option Entry). with_entry h next (follows_on x o [])) is ∙ ap (λ (l : List Entry). Ok l) (sym m.1));
      long = let grown : length g ≡ length h + 1 = ap length m.1 ∙ length-append h (e ∷ []) in let before = so_far.long in omega (arith, grown, before);
    }

-- the choice after them isn't allowed
pub refused : (x : Prog) (o : RunOptions) (cs rest : List Choice) (count : ℕ) (c : Choice) (h g : List Entry) → HasFollowed x o cs count h → MovesBy x o h (meant (heads x) c) false g
    → follows x o (cs ++ c ∷ rest) ≡ Err (count + 1)
refused x o cs rest count c h g so_far moves = by (entry_meant x o h (meant (heads x) c)) refl moves
  where
    by : (next : Option Entry) → entry_meant x o h (meant (heads x) c) ≡ next → MatchOption next ((false ≡ false) × (g ≡ h)) (λ e. (false ≡ true) × (g ≡ h ++ e ∷ []))
        → follows x o (cs ++ c ∷ rest) ≡ Err (count + 1)
    by None is m =
        goes_on x o cs (c ∷ rest) [] h so_far.made
        ∙ (ap (λ (next : Option Entry). with_entry h next (follows_on x o rest)) is
        ∙ ap (λ (n : ℕ). Err (n + 1)) so_far.long)
    by (Some e) is m = absurd (let f = m.0 in cc)

-- ---- the list of choices, parted at one

-- the choices up to this one, and all of them
pub one_there : {A : Type 0} (items all : List A) (i : ℕ) (a : A) → items ≡ all → a ≡ get_or items i a → i < length items
    → (take (i + 1) all ≡ take i all ++ a ∷ []) × (take i all ++ a ∷ drop (i + 1) all ≡ all)
one_there {A} items all i a same is within =
    let there : i < length all = subst (λ (l : List A). i < length l) same within in
    let at : a ≡ get_or all i a = is ∙ ap (λ (l : List A). get_or l i a) same in
    let early : take (i + 1) all ≡ take i all ++ a ∷ [] = take_more all i a there ∙ ap (λ (b : A). take i all ++ b ∷ []) (sym at) in (
      early,
      sym (append_assoc (take i all) (a ∷ []) (drop (i + 1) all)) ∙ (ap (λ (l : List A). l ++ drop (i + 1) all) (sym early) ∙ take-append-drop (i + 1) all),
    )
