-- What the errors of the checks say of the written text.
use Rattle.std.proofs.Common.{◌≡◌, ◌≢◌, ℕ, ◌≤◌, List, [], ◌∷◌, length, None, refl, ◌∙◌, subst, ap, arith, suc}
use Rattle.loft_tree.specs.Source.{Source}
use Rattle.loft_tree.specs.NamedTree.{NamedModule, NamedProgram}
use Rattle.loft_tree.specs.NamedFits.{NamedFits, BodiesHold}
use Rattle.loft_tree.specs.declared.heads.Heads.{Heads}
use Rattle.loft_tree.specs.declared.heads.Signature.{Signature}
use Rattle.loft_grammar.specs.Texts.{Reads}
use Rattle.loft_parse.specs.Faults.{IsFault}
use Rattle.loft_parse.specs.declared.error.ParseError.{ParseError}
use Rattle.loft_parse.specs.declared.error.ParseError.TheVariants as parse
use Rattle.loft_scopes.specs.Faults.{NameFault}
use Rattle.loft_scopes.specs.declared.error.NameError.{NameError}
use Rattle.loft_scopes.specs.declared.error.NameError.TheVariants as name
use Rattle.loft_numbers.specs.Numbers.{numbered}
use Rattle.loft_place.specs.Links.{IsPlaced, PlaceFault}
use Rattle.loft_place.specs.declared.error.PlaceError.{PlaceError}
use Rattle.loft_lock_forms.specs.Marks.{Mark}
use Rattle.loft_lock_expansion.specs.Expansion.{first_unpaired}
use Rattle.loft_mutex.specs.declared.error.MutexError.{MutexError}
use Rattle.loft_mutex.specs.declared.error.MutexError.TheVariants as error
use Rattle.loft_mutex.specs.Refusing.{module_names}
use Rattle.loft_mutex.specs.Stages.{of_parse, of_names, IsProgramOf, IsTextFault, IsPlaceFault, IsUnpaired, IsLeaving, Stays, IsChecked, IsCheckFault}

-- ---- the program

pub parse_fault : (text : List ℕ) (e : ParseError) → e ≢ parse.TooLong → IsFault text e → IsTextFault text (of_parse e)
parse_fault text (parse.Lex e) short f = f
parse_fault text (parse.Expected at) short f = f
parse_fault text (parse.TooDeep at) short f = f
parse_fault text (parse.TooMany at limit) short f = f
parse_fault text parse.TooLong short f = absurd (short refl)
parse_fault text parse.NoMemory short f = tt

pub names_fault : (text : List ℕ) (s : Source) (e : NameError) → Reads text s → (e ≢ name.NoMemory → NameFault s e) → IsTextFault text (of_names e)
names_fault text s name.NoMemory reads f = tt
names_fault text s name.NoScheduler reads f = (s, reads, f (λ h. cc))
names_fault text s (name.Unknown at) reads f = (s, reads, f (λ h. cc))
names_fault text s (name.Twice at first) reads f = (s, reads, f (λ h. cc))
names_fault text s (name.Arity at) reads f = (s, reads, f (λ h. cc))
names_fault text s (name.Kind at) reads f = (s, reads, f (λ h. cc))

same_many : (h : Heads) (ms : List Signature) (xs : List NamedModule) → BodiesHold h ms xs → length xs ≡ length ms
same_many h [] [] f = refl
same_many h [] (x ∷ xs) f = absurd f
same_many h (m ∷ ms) [] f = absurd f
same_many h (m ∷ ms) (x ∷ xs) f = ap (λ (n : ℕ). suc n) (same_many h ms xs f.1)

pub few_modules : (n : NamedProgram) → NamedFits n → length n.modules ≤ 256
few_modules n fits = omega (arith, fits.heads.within.few_modules, same_many n.heads n.heads.modules n.modules fits.bodies)

-- ---- its links

pub still_unread : (text : List ℕ) (names : List (List ℕ)) (e : MutexError) → IsTextFault text e → IsPlaceFault text names e
still_unread text names (error.Parse e) f = f
still_unread text names (error.Names e) f = f
still_unread text names error.NoMemory f = tt
still_unread text names error.TooLong f = absurd f
still_unread text names (error.Lex e) f = absurd f
still_unread text names (error.LongLock at) f = absurd f
still_unread text names (error.Reserved at) f = absurd f
still_unread text names (error.Place e) f = absurd f
still_unread text names (error.Pair m lock) f = absurd f
still_unread text names (error.Leaves m lock) f = absurd f

pub links_fault : (text : List ℕ) (names : List (List ℕ)) (n : NamedProgram) (e : PlaceError) → IsProgramOf text n → names ≡ n.heads.schedulers → PlaceFault n e → IsPlaceFault text names (error.Place e)
links_fault text names n e p same f =
    (p.source, p.reads, p.names, subst (λ (m : NamedProgram). PlaceFault m e) p.numbers f, same ∙ ap (λ (m : NamedProgram). m.heads.schedulers) p.numbers)

-- ---- all checks

pub still_unplaced : (text : List ℕ) (marks : List Mark) (names : List (List ℕ)) (e : MutexError) → IsPlaceFault text names e → IsCheckFault text marks names e
still_unplaced text marks names (error.Parse e) f = f
still_unplaced text marks names (error.Names e) f = f
still_unplaced text marks names (error.Place e) f = f
still_unplaced text marks names error.NoMemory f = tt
still_unplaced text marks names error.TooLong f = absurd f
still_unplaced text marks names (error.Lex e) f = absurd f
still_unplaced text marks names (error.LongLock at) f = absurd f
still_unplaced text marks names (error.Reserved at) f = absurd f
still_unplaced text marks names (error.Pair m lock) f = absurd f
still_unplaced text marks names (error.Leaves m lock) f = absurd f

module _ (text : List ℕ) (marks : List Mark) (names : List (List ℕ)) (n : NamedProgram) (p : IsProgramOf text n) (placed : IsPlaced n) where
  numbers_placed : IsPlaced (numbered p.source)
  numbers_placed = subst IsPlaced p.numbers placed

  names_are : names ≡ module_names n.heads → names ≡ module_names (numbered p.source).heads
  names_are same = same ∙ ap (λ (m : NamedProgram). module_names m.heads) p.numbers

  at_source : (P : List NamedModule → Type 0) → P n.modules → P (numbered p.source).modules
  at_source P holds = subst (λ (m : NamedProgram). P m.modules) p.numbers holds

  pub pairs_fault : (e : MutexError) → names ≡ module_names n.heads → IsUnpaired marks n.modules e → IsCheckFault text marks names e
  pairs_fault (error.Pair m lock) same f = (p.source, p.reads, p.names, numbers_placed, at_source (λ ms. IsUnpaired marks ms (error.Pair m lock)) f, names_are same)
  pairs_fault error.NoMemory same f = tt
  pairs_fault error.TooLong same f = absurd f
  pairs_fault (error.Lex e) same f = absurd f
  pairs_fault (error.LongLock at) same f = absurd f
  pairs_fault (error.Reserved at) same f = absurd f
  pairs_fault (error.Parse e) same f = absurd f
  pairs_fault (error.Names e) same f = absurd f
  pairs_fault (error.Place e) same f = absurd f
  pairs_fault (error.Leaves m lock) same f = absurd f

  pub leaving_fault : (e : MutexError) → names ≡ module_names n.heads → first_unpaired marks n.modules ≡ None → IsLeaving marks n.modules e → IsCheckFault text marks names e
  leaving_fault (error.Leaves m lock) same paired f =
      (p.source, p.reads, p.names, numbers_placed, at_source (λ ms. first_unpaired marks ms ≡ None) paired, at_source (λ ms. IsLeaving marks ms (error.Leaves m lock)) f, names_are same)
  leaving_fault error.NoMemory same paired f = tt
  leaving_fault error.TooLong same paired f = absurd f
  leaving_fault (error.Lex e) same paired f = absurd f
  leaving_fault (error.LongLock at) same paired f = absurd f
  leaving_fault (error.Reserved at) same paired f = absurd f
  leaving_fault (error.Parse e) same paired f = absurd f
  leaving_fault (error.Names e) same paired f = absurd f
  leaving_fault (error.Place e) same paired f = absurd f
  leaving_fault (error.Pair m lock) same paired f = absurd f

  pub is_checked : first_unpaired marks n.modules ≡ None → Stays marks n.modules → IsChecked text marks
  is_checked paired stays = record {
    source = p.source;
    reads = p.reads;
    names = p.names;
    placed = numbers_placed;
    paired = at_source (λ ms. first_unpaired marks ms ≡ None) paired;
    stays = at_source (λ ms. Stays marks ms) stays;
  }
