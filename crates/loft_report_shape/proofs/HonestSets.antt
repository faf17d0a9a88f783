-- The test of each part's set tells exactly which bytes are a prefix of a spelling.
use Rattle.std.proofs.Common.{◌≡◌, ℕ, Bool, true, false, ◌==◌, List, [], ◌∷◌, map, codes, refl, arith, if◌then◌else◌}
use Rattle.std.specs.List.{list_any}
use Rattle.std.specs.Str.{bytes_eq}
use Rattle.loft_lex.specs.Bytes.{max_number}
use Rattle.loft_spelling.specs.Sets.{words, is_prefix}
use Rattle.loft_spelling.proofs.Sets.{Honest, honest_either, honest_words, honest_lines, honest_numbers, honest_signed}
use Rattle.loft_report_shape.specs.Word.{spelling}
use Rattle.loft_report_shape.specs.Sets.{names, makers, least, counts, integers, values, sign, signs, number_set, choice_words, block_words, final_words, thread_words, changed_words, standing_words, leaving_words, act_words, batch_words, line_words, order_words, wait_words, reason_words, menu, set_of}
use Rattle.loft_report_shape.specs.declared.word.Word.{Word}
use Rattle.loft_report_shape.specs.declared.word.Word.TheVariants as word
use Rattle.loft_report_shape.specs.declared.part.Part.{Part}
use Rattle.loft_report_shape.specs.declared.part.Part.TheVariants as part
use Rattle.loft_report_shape.specs.declared.part.NumberKind.{NumberKind}
use Rattle.loft_report_shape.specs.declared.part.NumberKind.TheVariants as number
use Rattle.loft_report_shape.specs.declared.part.Stage.{Stage}
use Rattle.loft_report_shape.specs.declared.part.Stage.TheVariants as stage
use Rattle.loft_report_shape.proofs.Names.{honest_names}

honest_menu : (ws : List Word) → list_any (λ one. bytes_eq one []) (map spelling ws) ≡ false → list_any (is_prefix []) (map spelling ws) ≡ true → Honest (menu ws)
honest_menu ws none one = honest_words (map spelling ws) none one

honest_sign : (b : ℕ) → Honest (sign b)
unfolding is_prefix
honest_sign b = honest_words ((b ∷ []) ∷ []) refl refl

honest_signs : (b c : ℕ) → Honest (signs b c)
unfolding is_prefix
honest_signs b c = honest_words ((b ∷ []) ∷ (c ∷ []) ∷ []) refl refl

honest_makers : Honest makers
unfolding is_prefix
honest_makers = honest_either names (words (codes "start" ∷ [])) honest_names (honest_words (codes "start" ∷ []) refl refl)

honest_counts : Honest counts
honest_counts = honest_numbers true max_number (omega arith)

honest_integers : Honest integers
honest_integers = honest_signed max_number least (omega arith) (omega arith)

honest_values : Honest values
honest_values = honest_either integers makers honest_integers honest_makers

honest_number : (n : NumberKind) → Honest (number_set n)
honest_number number.Instants = honest_numbers false 1000000 (omega arith)
honest_number number.Budget = honest_numbers false 1000000 (omega arith)
honest_number number.Block = honest_numbers false 100000000 (omega arith)
honest_number number.Workers = honest_numbers false 16 (omega arith)
honest_number number.History = honest_counts
honest_number number.Pick = honest_numbers true 15 (omega arith)
honest_number number.Post = honest_numbers true 15 (omega arith)
honest_number number.Stop = honest_numbers true 4294967295 (omega arith)
honest_number number.States = honest_counts
honest_number number.Left = honest_counts
honest_number number.Count = honest_counts
honest_number number.Any = honest_integers

honest_stage : (s : Stage) → Honest (menu (line_words s))
unfolding is_prefix
honest_stage stage.Fresh = honest_menu (word.Instant ∷ word.State ∷ []) refl refl
honest_stage stage.Batch = honest_menu batch_words refl refl
honest_stage stage.Ordered = honest_menu batch_words refl refl
honest_stage stage.Acts = honest_menu act_words refl refl
honest_stage stage.Leaving = honest_menu leaving_words refl refl
honest_stage stage.Standing = honest_menu standing_words refl refl
honest_stage stage.Changed = honest_menu changed_words refl refl

honest_choices : (b : Bool) → Honest (menu (if b then block_words else choice_words))
unfolding is_prefix
honest_choices true = honest_menu block_words refl refl
honest_choices false = honest_menu choice_words refl refl

honest_states : (b : Bool) → Honest (menu (if b then final_words else thread_words))
unfolding is_prefix
honest_states true = honest_menu final_words refl refl
honest_states false = honest_menu thread_words refl refl

honest_left : (b : Bool) → Honest (if b then menu (word.End ∷ []) else names)
unfolding is_prefix
honest_left true = honest_menu (word.End ∷ []) refl refl
honest_left false = honest_names

spelled_some : (w : Word) → list_any (λ one. bytes_eq one []) (spelling w ∷ []) ≡ false
spelled_some word.Report = refl
spelled_some word.Instants = refl
spelled_some word.Budget = refl
spelled_some word.Block = refl
spelled_some word.Workers = refl
spelled_some word.History = refl
spelled_some word.Take = refl
spelled_some word.Give = refl
spelled_some word.Pick = refl
spelled_some word.Post = refl
spelled_some word.Client = refl
spelled_some word.Scheduler = refl
spelled_some word.Instant = refl
spelled_some word.In = refl
spelled_some word.Void = refl
spelled_some word.Full = refl
spelled_some word.Print = refl
spelled_some word.Gen = refl
spelled_some word.Out = refl
spelled_some word.End = refl
spelled_some word.Leave = refl
spelled_some word.At = refl
spelled_some word.Shared = refl
spelled_some word.State = refl
spelled_some word.Linked = refl
spelled_some word.Suspended = refl
spelled_some word.Left = refl
spelled_some word.Create = refl
spelled_some word.Arrive = refl
spelled_some word.Stop = refl
spelled_some word.Suspend = refl
spelled_some word.Resume = refl
spelled_some word.Broadcast = refl
spelled_some word.Ended = refl
spelled_some word.New = refl
spelled_some word.Coop = refl
spelled_some word.Await = refl
spelled_some word.Select = refl
spelled_some word.Next = refl
spelled_some word.Join = refl
spelled_some word.Halt = refl
spelled_some word.Done = refl
spelled_some word.Stopped = refl
spelled_some word.Div = refl
spelled_some word.Deep = refl
spelled_some word.Over = refl
spelled_some word.Flood = refl
spelled_some word.Unlinked = refl

honest_fixed : (w : Word) → Honest (menu (w ∷ []))
unfolding is_prefix
honest_fixed w = honest_words (spelling w ∷ []) (spelled_some w) refl

honest_goal : Honest (set_of part.Goal)
unfolding is_prefix
honest_goal = honest_either names (menu (word.Unlinked ∷ [])) honest_names (honest_menu (word.Unlinked ∷ []) refl refl)

honest_order : Honest (menu order_words)
unfolding is_prefix
honest_order = honest_menu order_words refl refl

honest_wait : Honest (menu wait_words)
unfolding is_prefix
honest_wait = honest_menu wait_words refl refl

honest_reason : Honest (menu reason_words)
unfolding is_prefix
honest_reason = honest_menu reason_words refl refl

pub honest : (p : Part) → Honest (set_of p)
honest (part.Fixed w) = honest_fixed w
honest (part.Sign b) = honest_sign b
honest (part.Number n) = honest_number n
honest (part.Name r) = honest_names
honest part.Maker = honest_makers
honest part.Value = honest_values
honest part.FirstValue = honest_either values (sign 41) honest_values (honest_sign 41)
honest part.MoreValues = honest_signs 44 41
honest part.FirstCount = honest_either counts (sign 93) honest_counts (honest_sign 93)
honest part.MoreCounts = honest_signs 44 93
honest part.Limit = honest_either integers (sign 45) honest_integers (honest_sign 45)
honest part.MoreEvents = honest_signs 44 32
honest part.Sent = honest_signs 32 10
honest part.Goal = honest_goal
honest part.Text = honest_lines 256
honest part.MoreFrames = honest_signs 32 10
honest part.Order = honest_order
honest part.Wait = honest_wait
honest part.Reason = honest_reason
honest (part.Choices n) = honest_choices (n == 0)
honest (part.Lines s) = honest_stage s
honest (part.States n) = honest_states (n == 0)
honest (part.Left n) = honest_left (n == 0)
honest part.Close = honest_sign 10
