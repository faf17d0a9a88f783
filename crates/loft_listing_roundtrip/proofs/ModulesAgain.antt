-- The operations of the draft of code are those of the code, and their names are right.
use Rattle.std.proofs.Common.{◌≡◌, ℕ, ◌+◌, true, List, [], ◌∷◌, ◌++◌, length, Some, map, refl, ap, ◌∙◌}
use Rattle.std.specs.Prelude.{slice_get, if◌then◌else◌}
use Rattle.loft_tree.specs.declared.heads.Signature.{Signature}
use Rattle.loft_tree.specs.declared.heads.Heads.{Heads}
use Rattle.loft_tree.specs.Fits.{Each}
use Rattle.loft_scopes.specs.Scopes.{Declared}
use Rattle.loft_scopes.specs.declared.scope.Scope.{Scope}
use Rattle.loft_scopes.specs.declared.scope.Scope.TheVariants.{Within}
use Rattle.loft_names.proofs.HeadsLists.{Follows, follows_head, follows_tail}
use Rattle.loft_code.specs.Operations.{Line}
use Rattle.loft_listing_line.specs.Rows.{line_text}
use Rattle.loft_listing_draft.specs.Drafts.{DraftOperation, after_locals, operation_line, operations_at}
use Rattle.loft_listing_draft.specs.Lined.{head_at}
use Rattle.loft_listing.specs.Called.{called_head, called_variable}
use Rattle.loft_listing_names.specs.Named.{operation_names}
use Rattle.loft_listing_names.specs.Wrong.{modules_wrong, operations_wrong}
use Rattle.loft_listing_reader.specs.Numbered.{modules_from, numbered_line}
use Rattle.loft_listing_roundtrip.proofs.Parts.{Part, ModulePart, modules_in, lines_in}
use Rattle.loft_listing_roundtrip.proofs.Saying.{after_head, after_part, called_line, locals_from, said}
use Rattle.loft_listing_roundtrip.proofs.OneMeaning.{Says}
use Rattle.loft_listing_roundtrip.proofs.Passing.{LinePasses}
use Rattle.loft_listing_roundtrip.proofs.OperationsAgain.{line_again, line_named}

lines_again : (ds : List Declared) (h : Heads) → Says ds h → (k : ℕ) (m : Signature) → slice_get h.modules k ≡ Some m → (lines : List Line) → Each (LinePasses h m) lines
    → map (numbered_line ds (Within k)) (map (called_line h m) lines) ≡ lines
lines_again ds h says k m is [] pass = refl
lines_again ds h says k m is (l ∷ lines) pass = (λ i. line_again ds h says k m is l pass.0.named i ∷ lines_again ds h says k m is lines pass.1 i)

none_wrong : (ds : List Declared) (scope : Scope) (at number : ℕ) (os : List DraftOperation) → Each (λ o. operation_names ds scope o ≡ true) os → operations_wrong ds scope (operations_at at number os) ≡ []
none_wrong ds scope at number [] named = refl
none_wrong ds scope at number (o ∷ os) named =
    ap (λ b. (if b then [] else at ∷ []) ++ operations_wrong ds scope (operations_at (at + length (line_text (operation_line number o))) (number + 1) os)) named.0
    ∙ none_wrong ds scope (at + length (line_text (operation_line number o))) (number + 1) os named.1

lines_named : (ds : List Declared) (h : Heads) → Says ds h → (k : ℕ) (m : Signature) → slice_get h.modules k ≡ Some m → (lines : List Line) → Each (LinePasses h m) lines
    → Each (λ o. operation_names ds (Within k) o ≡ true) (map (called_line h m) lines)
lines_named ds h says k m is [] pass = tt
lines_named ds h says k m is (l ∷ lines) pass = (line_named ds h says k m is l pass.0.named, lines_named ds h says k m is lines pass.1)

-- the operations of each module pass
abbrev pub AllPass : Heads → List (List Line) → Type 0
AllPass h modules = (k : ℕ) (m : Signature) (lines : List Line) → slice_get h.modules k ≡ Some m → slice_get modules k ≡ Some lines → Each (LinePasses h m) lines

module _ (ds : List Declared) (h : Heads) (says : Says ds h) (modules : List (List Line)) (pass : AllPass h modules) where
  pub modules_again : (k at : ℕ) (ps : List Part) → Follows h.modules k (modules_in ps) → Follows modules k (lines_in ps) → modules_from ds k (said h at ps) ≡ lines_in ps
  modules_again k at [] heads lines = refl
  modules_again k at (ModulePart m ls ∷ ps) heads lines =
      let is = follows_head h.modules k m (modules_in ps) heads in
      let has = follows_head modules k ls (lines_in ps) lines in
      let rest = modules_again (k + 1) (after_part h at (ModulePart m ls)) ps (follows_tail h.modules k m (modules_in ps) heads) (follows_tail modules k ls (lines_in ps) lines) in
      (λ i. lines_again ds h says k m is ls (pass k m ls is has) i ∷ rest i)
  modules_again k at (p ∷ ps) heads lines = modules_again k (after_part h at p) ps heads lines

  pub modules_right : (k at : ℕ) (ps : List Part) → Follows h.modules k (modules_in ps) → Follows modules k (lines_in ps) → modules_wrong ds k (said h at ps) ≡ []
  modules_right k at [] heads lines = refl
  modules_right k at (ModulePart m ls ∷ ps) heads lines =
      let is = follows_head h.modules k m (modules_in ps) heads in
      let has = follows_head modules k ls (lines_in ps) lines in
      let rest = modules_right (k + 1) (after_part h at (ModulePart m ls)) ps (follows_tail h.modules k m (modules_in ps) heads) (follows_tail modules k ls (lines_in ps) lines) in
      let first : ℕ = after_locals (head_at at (called_head h m)) (locals_from (after_head h at m) (map called_variable m.locals)) in
      (λ i. none_wrong ds (Within k) first 0 (map (called_line h m) ls) (lines_named ds h says k m is ls (pass k m ls is has)) i ++ rest i)
  modules_right k at (p ∷ ps) heads lines = modules_right k (after_part h at p) ps heads lines
