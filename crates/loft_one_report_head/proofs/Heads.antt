-- The lines of choices, as they are written and as they are read.
use Rattle.std.proofs.Common.{◌≡◌, List, [], ◌∷◌, ◌++◌, map, refl}
use Rattle.std.proofs.lemmas.List.{length-map}
use Rattle.std.specs.List.{flat_map}
use Rattle.loft_base.specs.declared.options.RunOptions.{RunOptions}
use Rattle.loft_tree.specs.declared.heads.Heads.{Heads}
use Rattle.loft_orders.specs.Lines.{text_of}
use Rattle.loft_history.specs.History.{Choice, TakeBy, GiveBy, PickBy, PostBy, ClientBy}
use Rattle.loft_history.specs.Report.{choice_line, head_lines}
use Rattle.loft_report_shape.specs.Told.{Report}
use Rattle.loft_report_shape.specs.Text.{choice_text, head_text}
use Rattle.loft_one_report_head.specs.Named.{named}

same_line : (h : Heads) (c : Choice) → choice_text (named h c) ≡ choice_line h c ++ 10 ∷ []
same_line h (TakeBy s) = refl
same_line h (GiveBy s) = refl
same_line h (PickBy w) = refl
same_line h (PostBy w) = refl
same_line h (ClientBy c) = refl

same_lines : (h : Heads) (cs : List Choice) → flat_map choice_text (map (named h) cs) ≡ text_of (map (choice_line h) cs)
same_lines h [] = refl
same_lines h (c ∷ cs) = rw (same_line h c, same_lines h cs) refl

pub one_head : (h : Heads) (o : RunOptions) (cs : List Choice) (r : Report) → r.options ≡ o → r.choices ≡ map (named h) cs → head_text r ≡ text_of (head_lines h o cs)
one_head h o cs r e f = rw (e, f, length-map cs (named h), same_lines h cs) refl
