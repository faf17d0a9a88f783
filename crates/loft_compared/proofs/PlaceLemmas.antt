-- The pieces of a report, and what is still to come after each.
use Rattle.std.proofs.Common.{◌≡◌, ◌≢◌, ℕ, ◌≤◌, ◌<◌, ◌==◌, true, false, get_or, arith, List, [], ◌∷◌, ◌++◌, append_assoc, length, codes, refl, sym, ap, ◌∙◌}
use Rattle.std.specs.Fmt.{decimal}
use Rattle.std.specs.List.{flat_map}
use Rattle.loft_report_shape.specs.Word.{spelling}
use Rattle.loft_report_shape.specs.Told.{Report}
use Rattle.loft_report_shape.specs.Text.{line_of, choice_text, block_text, text_of}
use Rattle.loft_report_shape.specs.declared.raw.Choice.{Choice}
use Rattle.loft_report_shape.specs.declared.raw.Choice.TheVariants as choice
use Rattle.loft_report_shape.specs.declared.raw.RawBlock.{RawBlock}
use Rattle.loft_report_shape.specs.declared.word.Word.TheVariants as word
use Rattle.loft_compared.specs.Places.{options_text, joined, BeginsFilled}

regroup : (a i b c w h cs bl left end : List ℕ)
    → (a ++ (i ++ (b ++ (c ++ (w ++ h))))) ++ (cs ++ (bl ++ (left ++ end))) ≡ (a ++ (i ++ (b ++ (c ++ (w ++ (h ++ cs)))))) ++ ((bl ++ left) ++ end)
regroup a i b c w h cs bl left end = simp append_assoc refl

-- all is still to come
pub whole_text : (r : Report)
    → options_text r.options (length r.choices) ++ (flat_map choice_text r.choices ++ (flat_map block_text r.blocks ++ (r.left ++ (codes "end" ++ 10 ∷ [])))) ≡ text_of r
whole_text r =
    regroup (spelling word.Report ++ 10 ∷ []) (line_of word.Instants (decimal r.options.limits.instants)) (line_of word.Budget (decimal r.options.limits.budget))
    (line_of word.Block (decimal r.options.limits.block)) (line_of word.Workers (decimal r.options.workers)) (line_of word.History (decimal (length r.choices)))
    (flat_map choice_text r.choices) (flat_map block_text r.blocks) r.left (codes "end" ++ 10 ∷ [])

pub choice_first : (c : Choice) (cs : List Choice) (x : List ℕ) → flat_map choice_text (c ∷ cs) ++ x ≡ choice_text c ++ (flat_map choice_text cs ++ x)
choice_first c cs x = append_assoc (choice_text c) (flat_map choice_text cs) x

pub choice_some : (c : Choice) → choice_text c ≢ []
choice_some (choice.Take name) e = absurd cc
choice_some (choice.Give name) e = absurd cc
choice_some (choice.Pick n) e = absurd cc
choice_some (choice.Post n) e = absurd cc
choice_some (choice.Client name) e = absurd cc

pub instant_first : (i : List ℕ) (is : List (List ℕ)) (x : List ℕ) → joined (i ∷ is) ++ x ≡ i ++ (joined is ++ x)
instant_first i is x = append_assoc i (joined is) x

pub block_first : (b : RawBlock) (bs : List RawBlock) (x : List ℕ)
    → flat_map block_text (b ∷ bs) ++ x ≡ line_of word.Scheduler b.name ++ (joined b.instants ++ (b.last ++ (flat_map block_text bs ++ x)))
block_first b bs x = go (line_of word.Scheduler b.name) (joined b.instants) b.last (flat_map block_text bs) x
  where
    go : (n i l bl y : List ℕ) → ((n ++ (i ++ l)) ++ bl) ++ y ≡ n ++ (i ++ (l ++ (bl ++ y)))
    go n i l bl y = simp append_assoc refl

-- ---- texts of which the first isn't empty

not_empty : (t : List ℕ) → (length t == 0) ≡ false → t ≢ []
not_empty [] e same = absurd (let f : true ≡ false = e in cc)
not_empty (b ∷ t) e same = absurd cc

pub first_filled : (texts : List (List ℕ)) (d t : List ℕ) → t ≡ get_or texts 0 d → (length t == 0) ≡ false → BeginsFilled texts
first_filled [] d t is e = tt
first_filled (text ∷ texts) d t is e = not_empty text (ap (λ (l : List ℕ). length l == 0) (sym is) ∙ e)

none_filled : (texts : List (List ℕ)) → length texts < 1 → BeginsFilled texts
none_filled [] few = tt
none_filled (text ∷ texts) few = absurd (omega (arith, few))

pub its_first : (texts : List (List ℕ)) (d t : List ℕ) → BeginsFilled texts → 1 ≤ length texts → t ≡ get_or texts 0 d → t ≢ []
its_first [] d t filled some is same = absurd (omega (arith, some))
its_first (text ∷ texts) d t filled some is same = filled (sym is ∙ same)
