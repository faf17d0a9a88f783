-- Values that are found by their texts.
use Rattle.std.specs.Prelude.{◌≡◌, ℕ, ◌≤◌, List, length, Option, Some, Result, IfOk}
use Rattle.std.specs.Option.{option_map}
use Rattle.loft_base.specs.declared.errors.NoMemory.{NoMemory}
use Rattle.loft_lex.specs.declared.TheConstants.{MAX_OFFSET}

-- Where the text is that of a fitting value, and isn't too long, that value is found, but for offsets, which `bare` makes 0.
abbrev pub Finds : {X A : Type 0} → (X → A) → (A → A) → (A → Type 0) → (A → List ℕ) → List ℕ → Result (Option X) NoMemory → Type 0
Finds {X} {A} of bare Fits text_of text result =
    (x : A) → Fits x → text ≡ text_of x → length text ≤ MAX_OFFSET → IfOk result (λ found. option_map (λ y. bare (of y)) found ≡ Some (bare x))
