-- No byte that may go on with a spelling may begin what comes after it.
use Rattle.std.proofs.Common.{◌≡◌, ℕ, ◌-◌, Bool, true, false, ◌==◌, List, [], ◌∷◌, ◌++◌, length, map, refl, sym, subst, ◌∙◌, arith, ◌⊎◌, inl, inr, if◌then◌else◌}
use Rattle.std.specs.List.{list_any}
use Rattle.loft_lex.specs.Bytes.{is_name_byte, max_number}
use Rattle.loft_spelling.specs.Sets.{is_prefix}
use Rattle.loft_spelling.specs.Script.{IsSpelled}
use Rattle.loft_spelling.specs.Stops.{IsTaken}
use Rattle.loft_spelling.specs.Parts.{Left, script}
use Rattle.loft_spelling.proofs.Clear.{Classes, Clear, chain, spelled_taken}
use Rattle.loft_report_shape.specs.Word.{spelling, word_of}
use Rattle.loft_report_shape.specs.Sets.{names, counts, integers, values, sign, signs, number_set, choice_words, block_words, final_words, thread_words, line_words, batch_words, order_words, wait_words, reason_words, menu, set_of}
use Rattle.loft_report_shape.specs.Grammar.{start, after, after_number, after_maker, after_blocks, after_final, after_choice, after_line, after_order, after_wait, after_reason, head_is, begins_number, frames, thread, blank, feed, other_name}
use Rattle.loft_report_shape.specs.Report.{grammar, beginning}
use Rattle.loft_report_shape.specs.declared.word.Word.TheVariants as word
use Rattle.loft_report_shape.specs.declared.part.Part.{Part}
use Rattle.loft_report_shape.specs.declared.part.Part.TheVariants as part
use Rattle.loft_report_shape.specs.declared.part.NumberKind.{NumberKind}
use Rattle.loft_report_shape.specs.declared.part.NumberKind.TheVariants as number
use Rattle.loft_report_shape.specs.declared.part.Stage.{Stage}
use Rattle.loft_report_shape.specs.declared.part.Stage.TheVariants as stage
use Rattle.loft_spelling.proofs.Sets.{Honest}
use Rattle.loft_report_shape.proofs.HonestSets.{honest}
use Rattle.loft_report_shape.proofs.WordLemmas.{by_word}
use Rattle.loft_report_shape.proofs.Batch.{to_batch}
use Rattle.loft_report_shape.proofs.ClearSets.{Tail, tail_numbers, tail_either, tail_names, tail_words, tail_integers, tail_makers, tail_values, shut_words, shut_line}

-- a whole spelling may go on
abbrev goes : Part → Bool
goes (part.Fixed w) = false
goes (part.Sign b) = false
goes part.MoreValues = false
goes part.MoreCounts = false
goes part.MoreEvents = false
goes part.Sent = false
goes part.Text = false
goes part.MoreFrames = false
goes part.Close = false
goes p = true

-- the part may begin with a byte of names
abbrev starts : Part → Bool
starts (part.Sign b) = is_name_byte b
starts part.MoreValues = false
starts part.MoreCounts = false
starts part.MoreEvents = false
starts part.Sent = false
starts part.MoreFrames = false
starts part.Close = false
starts p = true

-- what ends the part with all that it brings may go on
abbrev ends : Part → Bool
ends part.Order = false
ends part.Wait = false
ends part.Reason = false
ends p = goes p

abbrev classes : Classes grammar
classes = record { inner = is_name_byte; goes = goes; starts = starts; ends = ends }

-- ---- bytes after a whole spelling

tail_counts : Tail counts
tail_counts = tail_numbers true max_number

tail_number : (n : NumberKind) → Tail (number_set n)
tail_number number.Instants = tail_numbers false 1000000
tail_number number.Budget = tail_numbers false 1000000
tail_number number.Block = tail_numbers false 100000000
tail_number number.Workers = tail_numbers false 16
tail_number number.History = tail_counts
tail_number number.Pick = tail_numbers true 15
tail_number number.Post = tail_numbers true 15
tail_number number.Stop = tail_numbers true 4294967295
tail_number number.States = tail_counts
tail_number number.Left = tail_counts
tail_number number.Count = tail_counts
tail_number number.Any = tail_integers

tail_stage : (s : Stage) → Tail (menu (line_words s))
tail_stage stage.Fresh = tail_words (map spelling (line_words stage.Fresh)) refl
tail_stage stage.Batch = tail_words (map spelling (line_words stage.Batch)) refl
tail_stage stage.Ordered = tail_words (map spelling (line_words stage.Ordered)) refl
tail_stage stage.Acts = tail_words (map spelling (line_words stage.Acts)) refl
tail_stage stage.Leaving = tail_words (map spelling (line_words stage.Leaving)) refl
tail_stage stage.Standing = tail_words (map spelling (line_words stage.Standing)) refl
tail_stage stage.Changed = tail_words (map spelling (line_words stage.Changed)) refl

tail_choices : (b : Bool) → Tail (menu (if b then block_words else choice_words))
tail_choices true = tail_words (map spelling block_words) refl
tail_choices false = tail_words (map spelling choice_words) refl

tail_states : (b : Bool) → Tail (menu (if b then final_words else thread_words))
tail_states true = tail_words (map spelling final_words) refl
tail_states false = tail_words (map spelling thread_words) refl

tail_left : (b : Bool) → Tail (if b then menu (word.End ∷ []) else names)
tail_left true = tail_words (map spelling (word.End ∷ [])) refl
tail_left false = tail_names

tail_sign : (b : ℕ) → Tail (sign b)
tail_sign b = tail_words ((b ∷ []) ∷ []) refl

tail_part : (p : Part) → goes p ≡ true → Tail (set_of p)
tail_part (part.Fixed w) e = absurd cc
tail_part (part.Sign b) e = absurd cc
tail_part (part.Number n) e = tail_number n
tail_part (part.Name r) e = tail_names
tail_part part.Maker e = tail_makers
tail_part part.Value e = tail_values
tail_part part.FirstValue e = tail_either values (sign 41) tail_values (tail_sign 41)
tail_part part.MoreValues e = absurd cc
tail_part part.FirstCount e = tail_either counts (sign 93) tail_counts (tail_sign 93)
tail_part part.MoreCounts e = absurd cc
tail_part part.Limit e = tail_either integers (sign 45) tail_integers (tail_sign 45)
tail_part part.MoreEvents e = absurd cc
tail_part part.Sent e = absurd cc
tail_part part.Goal e = tail_either names (menu (word.Unlinked ∷ [])) tail_names (tail_words (map spelling (word.Unlinked ∷ [])) refl)
tail_part part.Text e = absurd cc
tail_part part.MoreFrames e = absurd cc
tail_part part.Order e = tail_words (map spelling order_words) refl
tail_part part.Wait e = tail_words (map spelling wait_words) refl
tail_part part.Reason e = tail_words (map spelling reason_words) refl
tail_part (part.Choices n) e = tail_choices (n == 0)
tail_part (part.Lines s) e = tail_stage s
tail_part (part.States n) e = tail_states (n == 0)
tail_part (part.Left n) e = tail_left (n == 0)
tail_part part.Close e = absurd cc

inside : (p : Part) (w : List ℕ) (b : ℕ) → goes p ≡ true → (set_of p).whole w ≡ true → (set_of p).begun (w ++ b ∷ []) ≡ true → is_name_byte b ≡ true
inside p [] b e whole begun = absurd (let h = sym (honest p).some ∙ whole in cc)
inside p (c ∷ w) b e whole begun = tail_part p e c w b begun

same_length : (w : List ℕ) → (length w == length w) ≡ true
same_length w = grind arith

shut_signs : (p : Part) (c d : ℕ) → set_of p ≡ signs c d → (w : List ℕ) (b : ℕ) → (signs c d).whole w ≡ true → (signs c d).begun (w ++ b ∷ []) ≡ true → ⊥
shut_signs p c d e w b f g = shut_words 1 ((c ∷ []) ∷ (d ∷ []) ∷ []) refl (subst (λ s. Honest s) e (honest p)) w b f g

shut : (p : Part) (w : List ℕ) (b : ℕ) → goes p ≡ false → (set_of p).whole w ≡ true → (set_of p).begun (w ++ b ∷ []) ≡ true → ⊥
shut (part.Fixed x) w b e f g = shut_words (length (spelling x)) (spelling x ∷ []) (rw (same_length (spelling x)) refl) (honest (part.Fixed x)) w b f g
shut (part.Sign c) w b e f g = shut_words 1 ((c ∷ []) ∷ []) refl (honest (part.Sign c)) w b f g
shut part.MoreValues w b e f g = shut_signs part.MoreValues 44 41 refl w b f g
shut part.MoreCounts w b e f g = shut_signs part.MoreCounts 44 93 refl w b f g
shut part.MoreEvents w b e f g = shut_signs part.MoreEvents 44 32 refl w b f g
shut part.Sent w b e f g = shut_signs part.Sent 32 10 refl w b f g
shut part.Text w b e f g = shut_line 256 w b f g
shut part.MoreFrames w b e f g = shut_signs part.MoreFrames 32 10 refl w b f g
shut part.Close w b e f g = shut_words 1 ((10 ∷ []) ∷ []) refl (honest part.Close) w b f g
shut p w b e f g = absurd cc

-- ---- first bytes

one_byte : (c b : ℕ) → list_any (is_prefix (b ∷ [])) ((c ∷ []) ∷ []) ≡ true → b ≡ c
unfolding is_prefix
one_byte c b e = grind (arith, e)

two_bytes : (c d b : ℕ) → list_any (is_prefix (b ∷ [])) ((c ∷ []) ∷ (d ∷ []) ∷ []) ≡ true → (b ≡ c) ⊎ (b ≡ d)
unfolding is_prefix
two_bytes c d b e = grind (arith, e)

no_name : (c b : ℕ) → is_name_byte c ≡ false → b ≡ c → is_name_byte b ≡ true → ⊥
no_name c b f same g = let h : is_name_byte c ≡ true = subst (λ x. is_name_byte x ≡ true) same g in let k : true ≡ false = sym h ∙ f in cc

no_names : (c d b : ℕ) → is_name_byte c ≡ false → is_name_byte d ≡ false → (signs c d).begun (b ∷ []) ≡ true → is_name_byte b ≡ true → ⊥
no_names c d b p q f g = go (two_bytes c d b f)
  where
    go : (b ≡ c) ⊎ (b ≡ d) → ⊥
    go (inl h) = no_name c b p h g
    go (inr h) = no_name d b q h g

outside : (p : Part) (b : ℕ) → starts p ≡ false → (set_of p).begun (b ∷ []) ≡ true → is_name_byte b ≡ true → ⊥
outside (part.Sign c) b e f g = no_name c b e (one_byte c b f) g
outside part.MoreValues b e f g = no_names 44 41 b refl refl f g
outside part.MoreCounts b e f g = no_names 44 93 b refl refl f g
outside part.MoreEvents b e f g = no_names 44 32 b refl refl f g
outside part.Sent b e f g = no_names 32 10 b refl refl f g
outside part.MoreFrames b e f g = no_names 32 10 b refl refl f g
outside part.Close b e f g = no_name 10 b refl (one_byte 10 b f) g
outside p b e f g = absurd cc

-- ---- what comes after what

abbrev Chained : Part → List Part → Type 0
Chained p ps = chain classes (goes p) ps (ends p) ≡ true

chain_number : (n : NumberKind) (w : List ℕ) → chain classes true (after_number n w) true ≡ true
chain_number number.History w = refl
chain_number number.States w = refl
chain_number number.Left w = refl
chain_number n w = refl

-- these parts may come after a spelling of a part that may go on, and the last of them may go on only where that is said
abbrev Runs : Bool → List Part → Type 0
Runs o ps = chain classes true ps o ≡ true

chained : (p : Part) (w : List ℕ) → (set_of p).whole w ≡ true → Chained p (after p w)
chained (part.Number n) w e = chain_number n w
chained part.Value w e = go (begins_number w)
  where
    go : (b : Bool) → Chained part.Value (if b then [] else after_maker)
    go true = refl
    go false = refl
chained part.FirstValue w e = go (head_is 41 w) (begins_number w)
  where
    go : (a b : Bool) → Chained part.FirstValue (if a then [] else ((if b then [] else after_maker) ++ part.MoreValues ∷ []))
    go true b = refl
    go false true = refl
    go false false = refl
chained part.MoreValues w e = go (head_is 44 w)
  where
    go : (b : Bool) → Chained part.MoreValues (if b then part.Value ∷ part.MoreValues ∷ [] else [])
    go true = refl
    go false = refl
chained part.FirstCount w e = go (head_is 93 w)
  where
    go : (b : Bool) → Chained part.FirstCount (if b then [] else part.MoreCounts ∷ [])
    go true = refl
    go false = refl
chained part.MoreCounts w e = go (head_is 44 w)
  where
    go : (b : Bool) → Chained part.MoreCounts (if b then part.Number number.Count ∷ part.MoreCounts ∷ [] else [])
    go true = refl
    go false = refl
chained part.MoreEvents w e = go (head_is 44 w)
  where
    go : (b : Bool) → Chained part.MoreEvents (if b then other_name ∷ part.MoreEvents ∷ [] else [])
    go true = refl
    go false = refl
chained part.Sent w e = go (head_is 32 w)
  where
    go : (b : Bool) → Chained part.Sent (if b then part.Value ∷ feed ∷ [] else [])
    go true = refl
    go false = refl
chained part.MoreFrames w e = go (head_is 32 w)
  where
    go : (b : Bool) → Chained part.MoreFrames (if b then frames else [])
    go true = refl
    go false = refl
chained part.Order w e = by_word (Runs false) after_order order_words (refl, (refl, (refl, (refl, (refl, (refl, (refl, tt))))))) w e
chained part.Wait w e = by_word (Runs false) after_wait wait_words (refl, (refl, (refl, (refl, (refl, (refl, (refl, tt))))))) w e
chained part.Reason w e = by_word (Runs false) after_reason reason_words (refl, (refl, (refl, (refl, (refl, (refl, (refl, tt))))))) w e
chained (part.Choices n) w e = go (n == 0) e
  where
    go : (b : Bool) → (menu (if b then block_words else choice_words)).whole w ≡ true → Runs true (if b then after_blocks (word_of w) else after_choice (word_of w) (n - 1))
    go true f = by_word (Runs true) after_blocks block_words (refl, (refl, tt)) w f
    go false f = by_word (Runs true) (λ o. after_choice o (n - 1)) choice_words (refl, (refl, (refl, (refl, (refl, tt))))) w f
chained (part.Lines s) w e = by_word (Runs true) (after_line s) batch_words (refl, (refl, (refl, (refl, (refl, (refl, (refl, (refl, (refl, (refl, (refl, (refl, tt)))))))))))) w (to_batch s w e)
chained (part.States n) w e = go (n == 0) e
  where
    go : (b : Bool) → (menu (if b then final_words else thread_words)).whole w ≡ true → Runs true (if b then after_final (word_of w) else (blank ∷ thread ++ part.States (n - 1) ∷ []))
    go true f = by_word (Runs true) after_final final_words (refl, (refl, (refl, tt))) w f
    go false f = refl
chained (part.Left n) w e = go (n == 0)
  where
    go : (b : Bool) → Chained (part.Left n) (if b then part.Close ∷ [] else (blank ∷ part.Order ∷ part.Left (n - 1) ∷ []))
    go true = refl
    go false = refl
chained p w e = refl

clear_grammar : Clear grammar classes
clear_grammar = record {
  shut = λ p told. shut p;
  inside = λ p told. inside p;
  outside = λ p told. outside p;
  chained = λ p told. chained p;
}

-- a text that the grammar spells is taken
pub spelled_report : (text : List ℕ) (last : Left grammar) → IsSpelled (script grammar) beginning text last → IsTaken (script grammar) beginning text last
spelled_report text last s = spelled_taken (λ p told. honest p) clear_grammar start refl beginning.told text last s
