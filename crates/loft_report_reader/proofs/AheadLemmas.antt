-- What is kept in several steps, and parts that are read one after another.
use Rattle.std.proofs.Common.{◌≡◌, ℕ, ◌-◌, true, false, Some, List, [], ◌∷◌, ◌++◌, length, take, drop, length-take, length-append, append_assoc, refl, sym, ap, subst, ◌∙◌, arith}
use Rattle.std.proofs.Math.Seq.{take-append_seam, drop-append_seam}
use Rattle.std.proofs.lemmas.List.{append-nil, take-append-drop}
use Rattle.loft_report_shape.specs.Last.{on_last}
use Rattle.loft_report_shape.specs.Sets.{set_of}
use Rattle.loft_report_shape.specs.Grammar.{after, after_value, begins_number, blank, colon, frames, head_is, id, other_name, thread}
use Rattle.loft_report_shape.specs.Told.{Report, Told, kept, keeps, note}
use Rattle.loft_report_shape.specs.declared.part.NumberKind.TheVariants as number
use Rattle.loft_report_shape.specs.declared.part.Part.{Part}
use Rattle.loft_report_shape.specs.declared.part.Part.TheVariants.{FirstValue, MoreValues, Value, FirstCount, MoreCounts, MoreFrames, Number, Sign, Wait, Limit, Lines, Text}
use Rattle.loft_report_shape.specs.Word.{word_of}
use Rattle.loft_report_shape.specs.declared.word.Word.TheVariants as word
use Rattle.loft_report_shape.specs.declared.part.Stage.{Stage}
use Rattle.loft_report_shape.specs.declared.part.Stage.TheVariants as stage
use Rattle.loft_report_shape.specs.declared.part.Section.{Section}
use Rattle.loft_report_shape.specs.declared.part.Section.TheVariants.{Told as InTold, Instant, Final, Left}
use Rattle.loft_report_shape.specs.declared.raw.RawBlock.{RawBlock}
use Rattle.loft_report_reader.specs.Machine.{read_from, later_by}
use Rattle.loft_report_reader.specs.Ahead.{There, before_parts, Goes, IsKept, IsPlain}
use Rattle.loft_report_reader.proofs.Spelled.{new_next, later_twice, later_nought}

-- ---- what is kept

last_twice : {A : Type 0} (f g h : A → A) → ((x : A) → g (f x) ≡ h x) → (xs : List A) → on_last g (on_last f xs) ≡ on_last h xs
unfolding on_last
last_twice f g h e [] = refl
last_twice f g h e (x ∷ []) = ap (λ y. y ∷ []) (e x)
last_twice f g h e (x ∷ y ∷ []) = ap (λ z. x ∷ z ∷ []) (e y)
last_twice f g h e (x ∷ y ∷ z ∷ zs) = ap (λ l. x ∷ l) (last_twice f g h e (y ∷ z ∷ zs))

last_same : {A : Type 0} (f : A → A) → ((x : A) → f x ≡ x) → (xs : List A) → on_last f xs ≡ xs
unfolding on_last
last_same f e [] = refl
last_same f e (x ∷ []) = ap (λ y. y ∷ []) (e x)
last_same f e (x ∷ y ∷ ys) = ap (λ l. x ∷ l) (last_same f e (y ∷ ys))

abbrev in_instant : List ℕ → RawBlock → RawBlock
in_instant w b = record b { instants = on_last (λ lines. lines ++ w) b.instants }

abbrev in_final : List ℕ → RawBlock → RawBlock
in_final w b = record b { last = b.last ++ w }

kept_twice : (s : Section) (u v : List ℕ) (r : Report) → kept s v (kept s u r) ≡ kept s (u ++ v) r
kept_twice InTold u v r = refl
kept_twice Instant u v r = ap (λ (bs : List RawBlock). record r { blocks = bs }) (last_twice (in_instant u) (in_instant v) (in_instant (u ++ v))
    (λ b. ap (λ (ls : List (List ℕ)). record b { instants = ls }) (last_twice (λ l. l ++ u) (λ l. l ++ v) (λ l. l ++ (u ++ v)) (λ l. append_assoc l u v) b.instants)) r.blocks)
kept_twice Final u v r = ap (λ (bs : List RawBlock). record r { blocks = bs }) (last_twice (in_final u) (in_final v) (in_final (u ++ v))
    (λ b. ap (λ (l : List ℕ). record b { last = l }) (append_assoc b.last u v)) r.blocks)
kept_twice Left u v r = ap (λ (l : List ℕ). record r { left = l }) (append_assoc r.left u v)

kept_nothing : (s : Section) (r : Report) → kept s [] r ≡ r
kept_nothing InTold r = refl
kept_nothing Instant r = ap (λ (bs : List RawBlock). record r { blocks = bs }) (last_same (in_instant [])
    (λ b. ap (λ (ls : List (List ℕ)). record b { instants = ls }) (last_same (λ l. l ++ []) append-nil b.instants)) r.blocks)
kept_nothing Final r = ap (λ (bs : List RawBlock). record r { blocks = bs }) (last_same (in_final []) (λ b. ap (λ (l : List ℕ). record b { last = l }) (append-nil b.last)) r.blocks)
kept_nothing Left r = ap (λ (l : List ℕ). record r { left = l }) (append-nil r.left)

keeps_twice : (u v : List ℕ) (told : Told) → keeps v (keeps u told) ≡ keeps (u ++ v) told
keeps_twice u v told = ap (λ (r : Report). record told { report = r }) (kept_twice told.section u v told.report)

keeps_nothing : (told : Told) → keeps [] told ≡ told
keeps_nothing told = ap (λ (r : Report). record told { report = r }) (kept_nothing told.section told.report)

-- ---- parts that are read

pub goes_there : (p : Part) (ps qs : List Part) (u v w : List ℕ) (n : ℕ) → There (set_of p) u n → v ≡ drop n u → w ≡ take n u → IsKept p w → qs ≡ after p w ++ ps → Goes (p ∷ ps) u qs v
goes_there p ps qs u v w n there rest is kept more = record {
  word = take n u;
  split = sym (take-append-drop n u) ∙ ap (λ t. take n u ++ t) (sym rest);
  read = λ told.
      let e = new_next (p ∷ ps) p ps refl told [] u refl n there.taken qs (keeps (take n u) told) [] (λ all. omega (arith, there.more, all)) there.whole
      (more ∙ ap (λ t. after p t ++ ps) is) (sym (subst (λ t. note p t told ≡ keeps t told) is (kept told))) refl in
      rw (size, rest) e;
}
  where
    size : length (take n u) ≡ n
    size = omega (arith, length-take n u, there.taken.within)

pub nothing : (ps : List Part) (u : List ℕ) → Goes ps u ps u
nothing ps u = record {
  word = [];
  split = refl;
  read = λ told. later_nought (read_from (before_parts ps told) u) ∙ ap (λ t. later_by 0 (read_from (before_parts ps t) u)) (sym (keeps_nothing told));
}

pub then : {ps : List Part} {u : List ℕ} {qs : List Part} {v : List ℕ} {rs : List Part} {x : List ℕ} → Goes ps u qs v → Goes qs v rs x → Goes ps u rs x
then {ps} {u} {qs} {v} {rs} {x} g h = record {
  word = g.word ++ h.word;
  split = g.split ∙ ap (λ t. g.word ++ t) h.split ∙ sym (append_assoc g.word h.word x);
  read = λ told.
      g.read told
      ∙ ap (later_by (length g.word)) (h.read (keeps g.word told))
      ∙ later_twice (length g.word) (length h.word) (read_from (before_parts rs (keeps h.word (keeps g.word told))) x)
      ∙ ap (λ k. later_by k (read_from (before_parts rs (keeps h.word (keeps g.word told))) x)) (sym (length-append g.word h.word))
      ∙ ap (λ t. later_by (length (g.word ++ h.word)) (read_from (before_parts rs t) x)) (keeps_twice g.word h.word told);
}

pub goes_to : {ps : List Part} {u : List ℕ} {qs : List Part} {v : List ℕ} {rs : List Part} → qs ≡ rs → Goes ps u qs v → Goes ps u rs v
goes_to {ps} {u} {qs} {v} {rs} e g = subst (λ (ts : List Part). Goes ps u ts v) e g

-- which parts come after a spelling

pub plain_after : (p : Part) (w : List ℕ) (ps : List Part) → IsPlain p → ps ≡ after p w ++ ps
plain_after p w ps plain = ap (λ (ts : List Part). ts ++ ps) (sym (plain w).0)

module _ (w : List ℕ) (ps : List Part) where
  pub no_value : true ≡ head_is 41 w → after FirstValue w ++ ps ≡ ps
  no_value e = rw (← e) refl

  pub some_value : false ≡ head_is 41 w → after FirstValue w ++ ps ≡ after_value w ++ MoreValues ∷ ps
  some_value e = rw (← e) (append_assoc (after_value w) (MoreValues ∷ []) ps)

  pub last_value : false ≡ head_is 44 w → after MoreValues w ++ ps ≡ ps
  last_value e = rw (← e) refl

  pub next_value : true ≡ head_is 44 w → after MoreValues w ++ ps ≡ Value ∷ MoreValues ∷ ps
  next_value e = rw (← e) refl

  pub no_count : true ≡ head_is 93 w → after FirstCount w ++ ps ≡ ps
  no_count e = rw (← e) refl

  pub some_count : false ≡ head_is 93 w → after FirstCount w ++ ps ≡ MoreCounts ∷ ps
  some_count e = rw (← e) refl

  pub last_count : false ≡ head_is 44 w → after MoreCounts w ++ ps ≡ ps
  last_count e = rw (← e) refl

  pub next_count : true ≡ head_is 44 w → after MoreCounts w ++ ps ≡ Number number.Count ∷ MoreCounts ∷ ps
  next_count e = rw (← e) refl

  pub last_frame : false ≡ head_is 32 w → after MoreFrames w ++ ps ≡ ps
  last_frame e = rw (← e) refl

  pub next_frame : true ≡ head_is 32 w → after MoreFrames w ++ ps ≡ frames ++ ps
  next_frame e = rw (← e) refl

  pub no_id : true ≡ begins_number w → after_value w ++ ps ≡ ps
  no_id e = rw (← e) refl

  pub some_id : false ≡ begins_number w → after_value w ++ ps ≡ Sign 46 ∷ Number number.Count ∷ ps
  some_id e = rw (← e) refl

pub from_parts : {ps : List Part} {u : List ℕ} {qs : List Part} {v : List ℕ} {os : List Part} → os ≡ ps → Goes ps u qs v → Goes os u qs v
from_parts {ps} {u} {qs} {v} {os} e g = subst (λ (ts : List Part). Goes ts u qs v) (sym e) g

module _ (w : List ℕ) (ps : List Part) where
  pub new_wait : word_of w ≡ Some word.New → after Wait w ++ ps ≡ blank ∷ ps
  new_wait e = rw e refl

  pub next_wait : word_of w ≡ Some word.Next → after Wait w ++ ps ≡ blank ∷ ps
  next_wait e = rw e refl

  pub halt_wait : word_of w ≡ Some word.Halt → after Wait w ++ ps ≡ blank ∷ ps
  halt_wait e = rw e refl

  pub coop_wait : word_of w ≡ Some word.Coop → after Wait w ++ ps ≡ colon ∷ Limit ∷ blank ∷ ps
  coop_wait e = rw e refl

  pub await_wait : word_of w ≡ Some word.Await → after Wait w ++ ps ≡ colon ∷ Limit ∷ colon ∷ other_name ∷ blank ∷ ps
  await_wait e = rw e refl

module _ (s : Stage) (w : List ℕ) where
  pub at_kept : word_of w ≡ Some word.At → IsKept (Lines s) w
  at_kept e = λ told. rw e refl

  pub print_kept : word_of w ≡ Some word.Print → IsKept (Lines s) w
  print_kept e = λ told. rw e refl

  pub at_parts : (ps : List Part) → word_of w ≡ Some word.At → after (Lines s) w ++ ps ≡ blank ∷ thread ++ Lines stage.Standing ∷ ps
  at_parts ps e = rw e refl

  pub print_parts : (ps : List Part) → word_of w ≡ Some word.Print → after (Lines s) w ++ ps ≡ blank ∷ id ++ blank ∷ Text ∷ Lines stage.Acts ∷ ps
  print_parts ps e = rw e refl

pub from_bytes : {ps : List Part} {u : List ℕ} {qs : List Part} {v : List ℕ} {t : List ℕ} → u ≡ t → Goes ps u qs v → Goes ps t qs v
from_bytes {ps} {u} {qs} {v} {t} e g = subst (λ (bytes : List ℕ). Goes ps bytes qs v) e g

-- as many bytes were read as there are fewer
module _ (ps : List Part) (u : List ℕ) (qs : List Part) (v : List ℕ) (goes : Goes ps u qs v) (n : ℕ) (is : n ≡ length u - length v) where
  size : n ≡ length goes.word
  size = omega (arith, is, ap length goes.split, length-append goes.word v)

  pub read_first : take n u ≡ goes.word
  read_first = ap (take n) goes.split ∙ ap (λ k. take k (goes.word ++ v)) size ∙ take-append_seam goes.word v

  pub read_rest : drop n u ≡ v
  read_rest = ap (drop n) goes.split ∙ ap (λ k. drop k (goes.word ++ v)) size ∙ drop-append_seam goes.word v

  pub reads_on : (told next : Told) → next ≡ keeps (take n u) told → read_from (before_parts ps told) u ≡ later_by n (read_from (before_parts qs next) (drop n u))
  reads_on told next e =
      goes.read told
      ∙ ap (λ k. later_by k (read_from (before_parts qs (keeps goes.word told)) v)) (sym size)
      ∙ ap (λ t. later_by n (read_from (before_parts qs (keeps t told)) v)) (sym read_first)
      ∙ ap (λ t. later_by n (read_from (before_parts qs t) v)) (sym e)
      ∙ ap (λ t. later_by n (read_from (before_parts qs next) t)) (sym read_rest)
