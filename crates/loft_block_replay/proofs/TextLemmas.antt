-- What the replay of a block of a text answers.
use Rattle.std.proofs.Common.{◌≡◌, ℕ, zero, suc, ◌+◌, ◌≤◌, min, List, [], ◌∷◌, ◌++◌, length, take, Some, Result, Ok, Err, slice_get, ◌⊎◌, inl, inr, refl, sym, ap, subst, ◌∙◌, length-append, arith}
use Rattle.std.proofs.lemmas.List.{take_all}
use Rattle.std.specs.List.{flat_map}
use Rattle.loft_base.specs.declared.ids.SchedId.{SchedId}
use Rattle.loft_sense.specs.Machine.{Prog}
use Rattle.loft_report_shape.specs.Word.{spelling}
use Rattle.loft_report_shape.specs.declared.word.Word.TheVariants as word
use Rattle.loft_report_shape.specs.declared.raw.RawBlock.{RawBlock}
use Rattle.loft_report_shape.specs.Told.{Report}
use Rattle.loft_report_shape.specs.Text.{head_text, block_text, body_text, text_of}
use Rattle.loft_report_shape.specs.Report.{Shape, longest}
use Rattle.loft_report_reader.specs.Answer.{Fault, Answers}
use Rattle.loft_report_reader.specs.declared.error.LogError.{LogError}
use Rattle.loft_report_reader.specs.declared.error.LogError.TheVariants as log
use Rattle.loft_replay_error.specs.Errors.{of_log}
use Rattle.loft_replay_error.specs.declared.error.ReplayError.{ReplayError}
use Rattle.loft_replay_error.specs.declared.error.ReplayError.TheVariants.{Log, NotAllowed, Differs, NoMemory}
use Rattle.loft_raw_block.proofs.CompareLemmas.{differ_within}
use Rattle.loft_raw_block.specs.Offsets.{last_place}
use Rattle.loft_block_replay.specs.Block.{block_bytes}
use Rattle.loft_block_replay.specs.Answer.{IsOther, IsMissing, IsAnswer, in_range, Gives, HasCause, HasAnswer, TextCause}

-- ---- places within the text

-- the blocks up to one of them are no longer than all
blocks_within : (bs : List RawBlock) (k : ℕ) (b : RawBlock) → slice_get bs k ≡ Some b → length (flat_map block_text (take k bs)) + length (block_text b) ≤ length (flat_map block_text bs)
blocks_within [] k b at = absurd cc
blocks_within (c ∷ bs) zero b at =
    let same : c ≡ b = cc in
    let long = length-append (block_text c) (flat_map block_text bs) in
    let e : length (block_text c) ≡ length (block_text b) = ap (λ (d : RawBlock). length (block_text d)) same in
    omega (arith, long, e)
blocks_within (c ∷ bs) (suc k) b at =
    let long = length-append (block_text c) (flat_map block_text bs) in
    let short = length-append (block_text c) (flat_map block_text (take k bs)) in
    omega (arith, long, short, blocks_within bs k b at)

text_long : (r : Report) → length (head_text r) + length (flat_map block_text r.blocks) ≤ length (text_of r)
text_long r =
    let a = length-append (head_text r) (body_text r ++ (spelling word.End ++ 10 ∷ [])) in
    let b = length-append (body_text r) (spelling word.End ++ 10 ∷ []) in
    let c = length-append (flat_map block_text r.blocks) r.left in
    omega (arith, a, b, c)

other_within : (x : Prog) (r : Report) (s : SchedId) (byte : ℕ) → IsOther x r s byte → byte ≤ length (text_of r)
other_within x r s byte is =
    let offset = length-append (head_text r) (flat_map block_text (take is.index r.blocks)) in
    let inside = differ_within (block_text is.block) (block_bytes x r.options.limits s is.batches) is.within is.differ in
    omega (arith, is.is, offset, inside, blocks_within r.blocks is.index is.block is.first.there, text_long r)

missing_within : (x : Prog) (r : Report) (s : SchedId) (byte : ℕ) → IsMissing x r s byte → byte ≤ length (text_of r)
missing_within x r s byte is =
    let offset = length-append (head_text r) (flat_map block_text (take (length r.blocks) r.blocks)) in
    let all : length (flat_map block_text (take (length r.blocks) r.blocks)) ≡ length (flat_map block_text r.blocks) = ap (λ (bs : List RawBlock). length (flat_map block_text bs)) (take_all (length r.blocks) r.blocks (omega arith)) in
    omega (arith, is.is, offset, all, text_long r)

small_enough : (n : ℕ) → n ≤ longest → min last_place n ≡ n
small_enough n small = omega (arith, small)

-- in a text of at most 1 GiB each place can be told
pub in_text : (x : Prog) (text : List ℕ) (r : Report) (s : SchedId) → ((t : List ℕ) (q : Report) → Shape t q → t ≡ text_of q) → length text ≤ longest → Shape text r → (answer : Result (List ℕ) ReplayError) → IsAnswer x r s answer → in_range answer ≡ answer
in_text x text r s one within shape (Ok bytes) is = refl
in_text x text r s one within shape (Err (NotAllowed n)) is = refl
in_text x text r s one within shape (Err (Differs byte)) is =
    let long : length text ≡ length (text_of r) = ap length (one text r shape) in
    ap (λ (n : ℕ). Err (Differs n)) (small_enough byte (omega (arith, long, within, bound is)))
  where
    bound : IsOther x r s byte ⊎ IsMissing x r s byte → byte ≤ length (text_of r)
    bound (inl p) = other_within x r s byte p
    bound (inr p) = missing_within x r s byte p
in_text x text r s one within shape (Err NoMemory) is = refl
in_text x text r s one within shape (Err (Log e)) is = refl

-- ---- a report was read

told_cause : (x : Prog) (text : List ℕ) (r : Report) (s : SchedId) → ((t : List ℕ) (q : Report) → Shape t q → t ≡ text_of q) → length text ≤ longest → Shape text r → (result answer : Result (List ℕ) ReplayError) → IsAnswer x r s answer → result ≡ in_range answer → HasAnswer x text s result
told_cause x text r s one within shape result answer is same =
    let e : answer ≡ result = sym (in_text x text r s one within shape answer is) ∙ sym same in
    record { report = r; within = within; shape = shape; is = subst (IsAnswer x r s) e is }

-- no report is answered by an error of reading
no_log : (x : Prog) (r : Report) (s : SchedId) (l : LogError) (a : Result (List ℕ) ReplayError) → IsAnswer x r s a → Err (Log l) ≡ in_range a → ⊥
no_log x r s l (Ok bytes) i e = cc
no_log x r s l (Err (NotAllowed n)) i e = cc
no_log x r s l (Err (Differs byte)) i e = cc
no_log x r s l (Err NoMemory) i e = i
no_log x r s l (Err (Log m)) i e = i

pub read_cause : (x : Prog) (text : List ℕ) (r : Report) (s : SchedId) → ((t : List ℕ) (q : Report) → Shape t q → t ≡ text_of q) → length text ≤ longest → Shape text r → (result : Result (List ℕ) ReplayError) → HasCause x r s result → TextCause x text s result
read_cause x text r s one within shape (Ok bytes) (answer, is, same) = told_cause x text r s one within shape (Ok bytes) answer is same
read_cause x text r s one within shape (Err (NotAllowed n)) (answer, is, same) = told_cause x text r s one within shape (Err (NotAllowed n)) answer is same
read_cause x text r s one within shape (Err (Differs byte)) (answer, is, same) = told_cause x text r s one within shape (Err (Differs byte)) answer is same
read_cause x text r s one within shape (Err NoMemory) cause = tt
read_cause x text r s one within shape (Err (Log log.NoMemory)) (answer, is, same) = no_log x r s log.NoMemory answer is same
read_cause x text r s one within shape (Err (Log (log.Line n k))) (answer, is, same) = absurd (no_log x r s (log.Line n k) answer is same)
read_cause x text r s one within shape (Err (Log (log.Ends k))) (answer, is, same) = absurd (no_log x r s (log.Ends k) answer is same)
read_cause x text r s one within shape (Err (Log log.TooLong)) (answer, is, same) = absurd (no_log x r s log.TooLong answer is same)

pub read_exact : (x : Prog) (text : List ℕ) (q r : Report) (s : SchedId) → ((t : List ℕ) (p : Report) → Shape t p → t ≡ text_of p) → length text ≤ longest → Shape text r → q ≡ r → (result : Result (List ℕ) ReplayError)
    → ((answer : Result (List ℕ) ReplayError) → IsAnswer x q s answer → Gives result (in_range answer)) → (answer : Result (List ℕ) ReplayError) → IsAnswer x r s answer → Gives result answer
read_exact x text q r s one within shape same result exact answer is =
    subst (Gives result) (in_text x text r s one within shape answer is) (exact answer (subst (λ (p : Report). IsAnswer x p s answer) (sym same) is))

-- ---- no report was read

pub fault_cause : (x : Prog) (text : List ℕ) (s : SchedId) (e : LogError) → Fault text e → TextCause x text s (Err (of_log e))
fault_cause x text s (log.Line n k) f = f
fault_cause x text s (log.Ends k) f = f
fault_cause x text s log.TooLong f = f
fault_cause x text s log.NoMemory f = tt

abbrev told : Result Report LogError → Result (List ℕ) ReplayError
told (Ok r) = Err NoMemory
told (Err l) = Err (Log l)

-- the error that is told of a text
pub fault_exact : (e f : LogError) → Answers (Err e) (Err f) → Gives (Err (of_log e)) (Err (Log f))
fault_exact (log.Line n k) f a = ap (λ (r : Result Report LogError). told r) (sym a)
fault_exact (log.Ends k) f a = ap (λ (r : Result Report LogError). told r) (sym a)
fault_exact log.TooLong f a = ap (λ (r : Result Report LogError). told r) (sym a)
fault_exact log.NoMemory f a = tt

-- where there is a report, only memory can be wanting
pub error_exact : (e : LogError) (r : Report) (answer : Result (List ℕ) ReplayError) → Answers (Err e) (Ok r) → Gives (Err (of_log e)) answer
error_exact (log.Line n k) r answer a = absurd cc
error_exact (log.Ends k) r answer a = absurd cc
error_exact log.TooLong r answer a = absurd cc
error_exact log.NoMemory r answer a = tt

pub ok_same : (a b : Report) (x : Result Report LogError) → x ≡ Ok a → x ≡ Ok b → b ≡ a
ok_same a b x e f = let g : Ok b ≡ x = sym f in let h : b ≡ a = cc in h
