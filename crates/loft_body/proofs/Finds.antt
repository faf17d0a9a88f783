-- What is found first in a list that is two.
use Rattle.std.proofs.Common.{◌≡◌, ℕ, Bool, true, false, List, [], ◌∷◌, ◌++◌, Option, Some, None, refl, sym, ◌∙◌}
use Rattle.std.specs.Prelude.{◌||◌, is_some, if◌then◌else◌}
use Rattle.loft_base.specs.declared.ids.ModuleId.{ModuleId}
use Rattle.loft_sense.specs.Tree.{first_some}
use Rattle.loft_budget.specs.Verdicts.{RunAt}
use Rattle.loft_body.specs.Capped.{capped}
use Rattle.loft_body.specs.First.{first_marked, first_of}

pub first_marked-append : (hit : ModuleId → Bool) (xs ys : List RunAt) → first_marked hit (xs ++ ys) ≡ first_some (first_marked hit xs) (first_marked hit ys)
first_marked-append hit [] ys = refl
first_marked-append hit (x ∷ xs) ys = by (hit x.called) (first_marked-append hit xs ys)
  where
    by : (b : Bool) → first_marked hit (xs ++ ys) ≡ first_some (first_marked hit xs) (first_marked hit ys)
        → (if b then Some x.at else first_marked hit (xs ++ ys)) ≡ first_some (if b then Some x.at else first_marked hit xs) (first_marked hit ys)
    by true e = refl
    by false e = e

pub first_of-append : (xs ys : List ℕ) → first_of (xs ++ ys) ≡ first_some (first_of xs) (first_of ys)
first_of-append [] ys = refl
first_of-append (x ∷ xs) ys = refl

-- the first is there, or isn't
pub first_here : (a b : Option ℕ) (at : ℕ) → a ≡ Some at → first_some a b ≡ Some at
first_here None b at e = absurd cc
first_here (Some x) b at e = e

pub not_first : (a b : Option ℕ) → a ≡ None → first_some a b ≡ b
not_first None b e = refl
not_first (Some x) b e = absurd cc

-- ---- as functions meet it

-- it is found in front
pub found : (hit : ModuleId → Bool) (xs ys : List RunAt) (o whole : Option ℕ) (at : ℕ) → o ≡ first_marked hit xs → o ≡ Some at → first_marked hit (xs ++ ys) ≡ whole → Some at ≡ whole
found hit xs ys o whole at e f g = sym (first_here (first_marked hit xs) (first_marked hit ys) at (sym e ∙ f)) ∙ sym (first_marked-append hit xs ys) ∙ g

-- it isn't, and the rest is left
pub passed : (hit : ModuleId → Bool) (xs ys : List RunAt) (o whole : Option ℕ) → o ≡ first_marked hit xs → o ≡ None → first_marked hit (xs ++ ys) ≡ whole → first_marked hit ys ≡ whole
passed hit xs ys o whole e f g = sym (not_first (first_marked hit xs) (first_marked hit ys) (sym e ∙ f)) ∙ sym (first_marked-append hit xs ys) ∙ g

pub found_word : (xs ys : List ℕ) (o whole : Option ℕ) (at : ℕ) → o ≡ first_of xs → o ≡ Some at → first_of (xs ++ ys) ≡ whole → Some at ≡ whole
found_word xs ys o whole at e f g = sym (first_here (first_of xs) (first_of ys) at (sym e ∙ f)) ∙ sym (first_of-append xs ys) ∙ g

pub passed_words : (xs ys : List ℕ) (o whole : Option ℕ) → o ≡ first_of xs → o ≡ None → first_of (xs ++ ys) ≡ whole → first_of ys ≡ whole
passed_words xs ys o whole e f g = sym (not_first (first_of xs) (first_of ys) (sym e ∙ f)) ∙ sym (first_of-append xs ys) ∙ g

-- ---- bare numbers, as they are counted

pub some_counts : (b : Bool) (o : Option ℕ) (n : ℕ) → capped o ≡ Some n → true ≡ (b || is_some o)
some_counts b None n e = absurd cc
some_counts true (Some m) n e = refl
some_counts false (Some m) n e = refl

pub none_counts : (b : Bool) (o : Option ℕ) → capped o ≡ None → b ≡ (b || is_some o)
none_counts true None e = refl
none_counts false None e = refl
none_counts b (Some m) e = absurd cc
