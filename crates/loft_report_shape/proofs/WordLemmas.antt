-- Which word the bytes spell.
use Rattle.std.proofs.Common.{◌≡◌, ℕ, true, List, [], ◌∷◌, map, Option, Some, ◌⊎◌, inl, inr, refl, sym, ap, subst, ◌∙◌}
use Rattle.std.proofs.lemmas.Slice.Eq.{bytes_eq-Decides}
use Rattle.std.specs.List.{list_any}
use Rattle.std.specs.Str.{bytes_eq}
use Rattle.loft_spelling.proofs.Sets.{or_cases}
use Rattle.loft_report_shape.specs.Word.{spelling, word_of}
use Rattle.loft_report_shape.specs.Sets.{menu}
use Rattle.loft_report_shape.specs.declared.word.Word.{Word}
use Rattle.loft_report_shape.specs.declared.word.Word.TheVariants as word

pub word_of-spelling : (w : Word) → word_of (spelling w) ≡ Some w
unfolding word_of
word_of-spelling word.Report = refl
word_of-spelling word.Instants = refl
word_of-spelling word.Budget = refl
word_of-spelling word.Block = refl
word_of-spelling word.Workers = refl
word_of-spelling word.History = refl
word_of-spelling word.Take = refl
word_of-spelling word.Give = refl
word_of-spelling word.Pick = refl
word_of-spelling word.Post = refl
word_of-spelling word.Client = refl
word_of-spelling word.Scheduler = refl
word_of-spelling word.Instant = refl
word_of-spelling word.In = refl
word_of-spelling word.Void = refl
word_of-spelling word.Full = refl
word_of-spelling word.Print = refl
word_of-spelling word.Gen = refl
word_of-spelling word.Out = refl
word_of-spelling word.End = refl
word_of-spelling word.Leave = refl
word_of-spelling word.At = refl
word_of-spelling word.Shared = refl
word_of-spelling word.State = refl
word_of-spelling word.Linked = refl
word_of-spelling word.Suspended = refl
word_of-spelling word.Left = refl
word_of-spelling word.Create = refl
word_of-spelling word.Arrive = refl
word_of-spelling word.Stop = refl
word_of-spelling word.Suspend = refl
word_of-spelling word.Resume = refl
word_of-spelling word.Broadcast = refl
word_of-spelling word.Ended = refl
word_of-spelling word.New = refl
word_of-spelling word.Coop = refl
word_of-spelling word.Await = refl
word_of-spelling word.Select = refl
word_of-spelling word.Next = refl
word_of-spelling word.Join = refl
word_of-spelling word.Halt = refl
word_of-spelling word.Done = refl
word_of-spelling word.Stopped = refl
word_of-spelling word.Div = refl
word_of-spelling word.Deep = refl
word_of-spelling word.Over = refl
word_of-spelling word.Flood = refl
word_of-spelling word.Unlinked = refl

-- what holds of each of these words
abbrev pub AllOf : (Word → Type 0) → List Word → Type 0
AllOf P [] = Unit {0}
AllOf P (x ∷ xs) = P x × AllOf P xs

-- A spelling of a menu is that of a word of it, so what holds of each word of the menu holds of the word.
pub each : (P : Word → Type 0) (ws : List Word) → AllOf P ws → (w : List ℕ) → (menu ws).whole w ≡ true → (x : Word) × (word_of w ≡ Some x) × (spelling x ≡ w) × P x
each P ws all w e = let found = first ws all e in (found.0, ap word_of (sym found.1) ∙ word_of-spelling found.0, found.1, found.2)
  where
    first : (vs : List Word) → AllOf P vs → list_any (λ one. bytes_eq one w) (map spelling vs) ≡ true → (x : Word) × (spelling x ≡ w) × P x
    first [] all f = absurd cc
    first (v ∷ vs) all f = go (first vs all.1) (or_cases (bytes_eq (spelling v) w) (list_any (λ one. bytes_eq one w) (map spelling vs)) f)
      where
        go : (list_any (λ one. bytes_eq one w) (map spelling vs) ≡ true → (x : Word) × (spelling x ≡ w) × P x) → (bytes_eq (spelling v) w ≡ true) ⊎ (list_any (λ one. bytes_eq one w) (map spelling vs) ≡ true) → (x : Word) × (spelling x ≡ w) × P x
        go ih (inl g) = (v, (bytes_eq-Decides (spelling v) w).0 g, all.0)
        go ih (inr g) = ih g

-- the same of what the word of the bytes tells
pub by_word : {A : Type 0} (Q : A → Type 0) (f : Option Word → A) (ws : List Word) → AllOf (λ x. Q (f (Some x))) ws → (w : List ℕ) → (menu ws).whole w ≡ true → Q (f (word_of w))
by_word Q f ws all w e = let x = each (λ x. Q (f (Some x))) ws all w e in subst (λ o. Q (f o)) (sym x.1) x.3
