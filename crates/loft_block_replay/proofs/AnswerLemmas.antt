-- What the replay of a block answers, and that nothing else is its answer.
use Rattle.std.proofs.Common.{◌≡◌, ℕ, zero, suc, ◌+◌, ◌<◌, ◌≤◌, min, List, [], ◌∷◌, ◌++◌, length, take, get_or, Option, Some, None, Result, Ok, Err, slice_get, ◌⊎◌, inl, inr, refl, sym, ap, subst, ◌∙◌, arith}
use Rattle.std.proofs.lemmas.List.{take_all}
use Rattle.std.specs.List.{flat_map, position}
use Rattle.std.specs.Str.{bytes_eq}
use Rattle.loft_base.specs.declared.ids.SchedId.{SchedId}
use Rattle.loft_base.specs.declared.options.Limits.{Limits}
use Rattle.loft_orders.specs.Text.{name_at}
use Rattle.loft_orders.specs.declared.order.Order.{Order}
use Rattle.loft_sense.specs.Machine.{Prog, empty}
use Rattle.loft_report_shape.specs.declared.raw.RawBlock.{RawBlock}
use Rattle.loft_report_shape.specs.Told.{Report}
use Rattle.loft_report_shape.specs.Text.{head_text, block_text}
use Rattle.loft_replay_error.specs.Difference.{DifferAt, IsDifference}
use Rattle.loft_replay_error.specs.declared.error.ReplayError.{ReplayError}
use Rattle.loft_replay_error.specs.declared.error.ReplayError.TheVariants.{Log, NotAllowed, Differs, NoMemory}
use Rattle.loft_raw_block.specs.Offsets.{last_place}
use Rattle.loft_block_replay.specs.Block.{Follow, FailsAt, block_bytes}
use Rattle.loft_block_replay.specs.Made.{FailsFirstAt}
use Rattle.loft_block_replay.specs.Outcomes.{IsWhole, Ends}
use Rattle.loft_block_replay.specs.declared.block.Outcome.{Outcome}
use Rattle.loft_block_replay.specs.declared.block.Outcome.TheVariants.{Whole, Stopped}
use Rattle.loft_block_replay.specs.Answer.{index_of_block, offset_of_block, IsFirstBlock, IsMissing, IsAnswer, in_range, Gives, HasCause}

-- ---- lists

pub got_some : {A : Type 0} (xs : List A) (i : ℕ) (x : A) → i < length xs → x ≡ get_or xs i x → slice_get xs i ≡ Some x
got_some [] i x below is = absurd (omega (arith, below))
got_some (y ∷ xs) zero x below is = ap (λ z. Some z) (sym is)
got_some (y ∷ xs) (suc i) x below is = got_some xs i x (omega (arith, below)) is

-- ---- one difference

shorter_take : (a : List ℕ) (j k : ℕ) → j ≤ k → take j (take k a) ≡ take j a
shorter_take [] zero zero small = refl
shorter_take [] zero (suc k) small = refl
shorter_take [] (suc j) zero small = absurd (omega (arith, small))
shorter_take [] (suc j) (suc k) small = refl
shorter_take (x ∷ a) zero k small = refl
shorter_take (x ∷ a) (suc j) zero small = absurd (omega (arith, small))
shorter_take (x ∷ a) (suc j) (suc k) small = ap (λ t. x ∷ t) (shorter_take a j k (omega (arith, small)))

never_before : (a b : List ℕ) (j k : ℕ) → DifferAt a b j → DifferAt a b k → j < k → ⊥
never_before a b j k d f below =
    d.1 (sym (shorter_take a (j + 1) k (omega (arith, below))) ∙ ap (take (j + 1)) f.0 ∙ shorter_take b (j + 1) k (omega (arith, below)))

three : (m n : ℕ) → (m < n) ⊎ ((m ≡ n) ⊎ (n < m))
three zero zero = inr (inl refl)
three zero (suc n) = inl (omega arith)
three (suc m) zero = inr (inr (omega arith))
three (suc m) (suc n) = step (three m n)
  where
    step : (m < n) ⊎ ((m ≡ n) ⊎ (n < m)) → (suc m < suc n) ⊎ ((suc m ≡ suc n) ⊎ (suc n < suc m))
    step (inl p) = inl (omega (arith, p))
    step (inr (inl p)) = inr (inl (ap suc p))
    step (inr (inr p)) = inr (inr (omega (arith, p)))

-- texts differ at one place
pub one_difference : (a b : List ℕ) (j k : ℕ) → DifferAt a b j → DifferAt a b k → j ≡ k
one_difference a b j k d f = go (three j k)
  where
    go : (j < k) ⊎ ((j ≡ k) ⊎ (k < j)) → j ≡ k
    go (inl p) = absurd (never_before a b j k d f p)
    go (inr (inl p)) = p
    go (inr (inr p)) = absurd (never_before a b k j f d p)

never_differ : (a b : List ℕ) (k : ℕ) → a ≡ b → DifferAt a b k → ⊥
never_differ a b k same d = d.1 (ap (take (k + 1)) same)

-- ---- the first block

module _ (x : Prog) (r : Report) (s : SchedId) (index : ℕ) (block : RawBlock) (first : index_of_block x s r.blocks ≡ Some index) (there : slice_get r.blocks index ≡ Some block) where
  this_block : IsFirstBlock x r s index block
  this_block = record { first = first; there = there }

  -- it is the only one
  only_block : (k : ℕ) (b : RawBlock) → IsFirstBlock x r s k b → (k ≡ index) × (b ≡ block)
  only_block k b f =
      let e : Some k ≡ Some index = sym f.first ∙ first in
      let same : k ≡ index = cc in
      let g : Some b ≡ Some block = sym f.there ∙ (ap (slice_get r.blocks) same ∙ there) in
      (same, (let h : b ≡ block = cc in h))

  only_follow : (k : ℕ) (b : RawBlock) (bs : List (List Order)) → IsFirstBlock x r s k b → Follow x r.options.limits s (empty x s) b.instants bs → Follow x r.options.limits s (empty x s) block.instants bs
  only_follow k b bs f follow = subst (λ (c : RawBlock). Follow x r.options.limits s (empty x s) c.instants bs) (only_block k b f).1 follow

  only_fails : (k : ℕ) (b : RawBlock) (n : ℕ) → IsFirstBlock x r s k b → FailsAt x r.options.limits s (empty x s) b.instants n → FailsAt x r.options.limits s (empty x s) block.instants n
  only_fails k b n f fails = subst (λ (c : RawBlock). FailsAt x r.options.limits s (empty x s) c.instants n) (only_block k b f).1 fails

  never_missing : (byte : ℕ) → IsMissing x r s byte → ⊥
  never_missing byte m = let e : Some index ≡ None = sym first ∙ m.none in cc

  -- ---- an instant isn't allowed

  pub stopped_cause : (n : ℕ) → FailsFirstAt x r.options.limits s (empty x s) block.instants n → HasCause x r s (Err (NotAllowed n))
  stopped_cause n stop = (Err (NotAllowed n), record { index = index; block = block; first = this_block; fails = stop.fails }, refl)

  pub stopped_exact : (n : ℕ) → FailsFirstAt x r.options.limits s (empty x s) block.instants n → (answer : Result (List ℕ) ReplayError) → IsAnswer x r s answer → Gives (Err (NotAllowed n)) (in_range answer)
  stopped_exact n stop (Ok bytes) is = absurd (stop.never is.batches (only_follow is.index is.block is.batches is.first is.follow))
  stopped_exact n stop (Err (NotAllowed m)) is = ap (λ (k : ℕ). Err (NotAllowed k)) (sym (stop.only m (only_fails is.index is.block m is.first is.fails)))
  stopped_exact n stop (Err (Differs byte)) (inl is) = absurd (stop.never is.batches (only_follow is.index is.block is.batches is.first is.follow))
  stopped_exact n stop (Err (Differs byte)) (inr is) = absurd (never_missing byte is)
  stopped_exact n stop (Err NoMemory) is = absurd is
  stopped_exact n stop (Err (Log e)) is = absurd is

  -- ---- the block is right

  pub right_cause : (bytes : List ℕ) → IsWhole x r.options.limits s block.instants bytes → block_text block ≡ bytes → HasCause x r s (Ok bytes)
  right_cause bytes w same = (Ok bytes, record { index = index; block = block; batches = w.batches; first = this_block; follow = w.follow; right = same ∙ w.right; same = sym same }, refl)

  -- another right block of these batches
  same_bytes : (bytes : List ℕ) → IsWhole x r.options.limits s block.instants bytes → (k : ℕ) (b : RawBlock) (bs : List (List Order)) → IsFirstBlock x r s k b → Follow x r.options.limits s (empty x s) b.instants bs
      → block_bytes x r.options.limits s bs ≡ bytes
  same_bytes bytes w k b bs f follow = ap (block_bytes x r.options.limits s) (w.only bs (only_follow k b bs f follow)) ∙ sym w.right

  pub right_exact : (bytes : List ℕ) → IsWhole x r.options.limits s block.instants bytes → block_text block ≡ bytes → (answer : Result (List ℕ) ReplayError) → IsAnswer x r s answer → Gives (Ok bytes) (in_range answer)
  right_exact bytes w same (Ok others) is =
      ap (λ (t : List ℕ). Ok t) (sym (is.same ∙ ap block_text (only_block is.index is.block is.first).1 ∙ same))
  right_exact bytes w same (Err (NotAllowed m)) is = absurd (w.none m (only_fails is.index is.block m is.first is.fails))
  right_exact bytes w same (Err (Differs byte)) (inl is) =
      absurd (never_differ (block_text is.block) (block_bytes x r.options.limits s is.batches) is.within (ap block_text (only_block is.index is.block is.first).1 ∙ same ∙ sym (same_bytes bytes w is.index is.block is.batches is.first is.follow)) is.differ)
  right_exact bytes w same (Err (Differs byte)) (inr is) = absurd (never_missing byte is)
  right_exact bytes w same (Err NoMemory) is = absurd is
  right_exact bytes w same (Err (Log e)) is = absurd is

  -- ---- the block differs

  pub other_cause : (bytes : List ℕ) (k place : ℕ) → IsWhole x r.options.limits s block.instants bytes → DifferAt (block_text block) bytes k → place ≡ min last_place (offset_of_block r index + k) → HasCause x r s (Err (Differs place))
  other_cause bytes k place w differ at =
      (Err (Differs (offset_of_block r index + k)), inl (record { index = index; block = block; batches = w.batches; within = k; first = this_block; follow = w.follow; differ = subst (λ (t : List ℕ). DifferAt (block_text block) t k) w.right differ; is = refl }), ap (λ (n : ℕ). Err (Differs n)) at)

  pub other_exact : (bytes : List ℕ) (k place : ℕ) → IsWhole x r.options.limits s block.instants bytes → DifferAt (block_text block) bytes k → place ≡ min last_place (offset_of_block r index + k)
      → (answer : Result (List ℕ) ReplayError) → IsAnswer x r s answer → Gives (Err (Differs place)) (in_range answer)
  other_exact bytes k place w differ at (Ok others) is =
      absurd (never_differ (block_text block) bytes k (sym (ap block_text (only_block is.index is.block is.first).1) ∙ is.right ∙ same_bytes bytes w is.index is.block is.batches is.first is.follow) differ)
  other_exact bytes k place w differ at (Err (NotAllowed m)) is = absurd (w.none m (only_fails is.index is.block m is.first is.fails))
  other_exact bytes k place w differ at (Err (Differs byte)) (inl is) =
      let one = only_block is.index is.block is.first in
      let d : DifferAt (block_text block) bytes is.within = subst (λ (t : List ℕ). DifferAt (block_text block) t is.within) (same_bytes bytes w is.index is.block is.batches is.first is.follow) (subst (λ (c : RawBlock). DifferAt (block_text c) (block_bytes x r.options.limits s is.batches) is.within) one.1 is.differ) in
      let same : is.within ≡ k = one_difference (block_text block) bytes is.within k d differ in
      let there_at : byte ≡ offset_of_block r index + k = is.is ∙ ap (λ (i : ℕ). offset_of_block r i + is.within) one.0 ∙ ap (λ (j : ℕ). offset_of_block r index + j) same in
      ap (λ (n : ℕ). Err (Differs n)) (at ∙ ap (min last_place) (sym there_at))
  other_exact bytes k place w differ at (Err (Differs byte)) (inr is) = absurd (never_missing byte is)
  other_exact bytes k place w differ at (Err NoMemory) is = absurd is
  other_exact bytes k place w differ at (Err (Log e)) is = absurd is

-- ---- there is no block

module _ (x : Prog) (r : Report) (s : SchedId) (none : index_of_block x s r.blocks ≡ None) where
  no_block : (k : ℕ) (b : RawBlock) → IsFirstBlock x r s k b → ⊥
  no_block k b f = let e : Some k ≡ None = sym f.first ∙ none in cc

  pub missing_cause : (place : ℕ) → place ≡ min last_place (offset_of_block r (length r.blocks)) → HasCause x r s (Err (Differs place))
  missing_cause place at = (Err (Differs (offset_of_block r (length r.blocks))), inr (record { none = none; is = refl }), ap (λ (n : ℕ). Err (Differs n)) at)

  pub missing_exact : (place : ℕ) → place ≡ min last_place (offset_of_block r (length r.blocks)) → (answer : Result (List ℕ) ReplayError) → IsAnswer x r s answer → Gives (Err (Differs place)) (in_range answer)
  missing_exact place at (Ok bytes) is = absurd (no_block is.index is.block is.first)
  missing_exact place at (Err (NotAllowed n)) is = absurd (no_block is.index is.block is.first)
  missing_exact place at (Err (Differs byte)) (inl is) = absurd (no_block is.index is.block is.first)
  missing_exact place at (Err (Differs byte)) (inr is) = ap (λ (n : ℕ). Err (Differs n)) (at ∙ ap (min last_place) (sym is.is))
  missing_exact place at (Err NoMemory) is = absurd is
  missing_exact place at (Err (Log e)) is = absurd is

-- ---- what the calls found

pub stopped_ends : (x : Prog) (limits : Limits) (s : SchedId) (texts read : List (List ℕ)) (o : Outcome) (n : ℕ) → read ≡ texts → o ≡ Stopped n → Ends x limits s read o → FailsFirstAt x limits s (empty x s) texts n
stopped_ends x limits s texts read o n same is ends =
    let e : Ends x limits s read (Stopped n) = subst (Ends x limits s read) is ends in
    subst (λ (t : List (List ℕ)). FailsFirstAt x limits s (empty x s) t n) same e

pub whole_ends : (x : Prog) (limits : Limits) (s : SchedId) (texts read : List (List ℕ)) (o : Outcome) (bytes : List ℕ) → read ≡ texts → o ≡ Whole bytes → Ends x limits s read o → IsWhole x limits s texts bytes
whole_ends x limits s texts read o bytes same is ends =
    let e : Ends x limits s read (Whole bytes) = subst (Ends x limits s read) is ends in
    subst (λ (t : List (List ℕ)). IsWhole x limits s t bytes) same e

pub difference_none : (a b : List ℕ) (r : Option ℕ) → r ≡ None → IsDifference a b r → a ≡ b
difference_none a b None e d = d
difference_none a b (Some k) e d = absurd cc

pub difference_some : (a b : List ℕ) (r : Option ℕ) (k : ℕ) → r ≡ Some k → IsDifference a b r → DifferAt a b k
difference_some a b None k e d = absurd cc
difference_some a b (Some j) k e d = let same : j ≡ k = cc in subst (DifferAt a b) same d

-- places that stop at the largest
pub capped : (offset k mid place : ℕ) → mid ≡ min last_place offset → place ≡ min (mid + k) last_place → place ≡ min last_place (offset + k)
capped offset k mid place e f = omega (arith, e, f)

pub named_at : (names : List (List ℕ)) (k : ℕ) (x : List ℕ) → k < length names → x ≡ get_or names k x → x ≡ name_at names k
named_at names k x below is = rw (got_some names k x below is) refl

pub none_named : (read name : List ℕ) (bs cs : List RawBlock) (r : Option ℕ) → r ≡ position (λ b. bytes_eq b.name read) bs → read ≡ name → bs ≡ cs → r ≡ None → position (λ b. bytes_eq b.name name) cs ≡ None
none_named read name bs cs r first same blocks none =
    sym (first ∙ ap (λ (n : List ℕ). position (λ b. bytes_eq b.name n) bs) same ∙ ap (λ (l : List RawBlock). position (λ b. bytes_eq b.name name) l) blocks) ∙ none

pub all_blocks : (r : Report) (bs : List RawBlock) (place : ℕ) → bs ≡ r.blocks → place ≡ min last_place (length (head_text r ++ flat_map block_text bs)) → place ≡ min last_place (offset_of_block r (length r.blocks))
all_blocks r bs place same at =
    at ∙ ap (λ (l : List RawBlock). min last_place (length (head_text r ++ flat_map block_text l))) (same ∙ sym (take_all (length r.blocks) r.blocks (omega arith)))
