-- Each text stands for a program or is refused for a reason.
use Rattle.std.proofs.Common.{◌≡◌, ℕ, ◌<◌, ◌≤◌, Bool, inl, inr, List, length, Option, Some, None, Result, Ok, Err, refl}
use Rattle.std.specs.Prelude.{◌⊎◌}
use Rattle.std.proofs.lemmas.Bool.{cases_lt}
use Rattle.loft_base.specs.declared.ids.ModuleId.{ModuleId}
use Rattle.loft_lex.specs.declared.token.Token.{Token}
use Rattle.loft_lex.specs.declared.TheConstants.{MAX_TEXT_LEN}
use Rattle.loft_lex.specs.Tokens.{Found, tokens}
use Rattle.loft_lex.specs.Cut.{Cut}
use Rattle.loft_lex.proofs.Readings.{found_is_cut}
use Rattle.loft_tree.specs.Source.{Source}
use Rattle.loft_parse.specs.declared.error.ParseError.{ParseError}
use Rattle.loft_parse.specs.Faults.{SourceFault}
use Rattle.loft_parse.proofs.TextLaws.{program_or_fault}
use Rattle.loft_grammar.specs.Texts.{Reads}
use Rattle.loft_scopes.specs.declared.error.NameError.{NameError}
use Rattle.loft_scopes.specs.Faults.{NameFault, NamesFit}
use Rattle.loft_names.proofs.Decided.{some_answer as names_or_fault}
use Rattle.loft_numbers.specs.Numbers.{numbered}
use Rattle.loft_place.specs.declared.error.PlaceError.{PlaceError}
use Rattle.loft_place.specs.Links.{IsPlaced, PlaceFault}
use Rattle.loft_place.proofs.Answered.{placed_or_not}
use Rattle.loft_lock_forms.specs.Rewriting.{all_say, written, forms}
use Rattle.loft_lock_forms.specs.Marks.{text_marks}
use Rattle.loft_lock_rewriting.specs.Told.{program_of}
use Rattle.loft_lock_forms.specs.Names.{long_name, reserved_name}
use Rattle.loft_lock_expansion.specs.Expansion.{first_unpaired, first_leaving, TellsLeaving, IsWritten, IsRewritten, IsNamed, IsPaired}
use Rattle.loft_lock_expansion.specs.Refusals.{Refusal, TooLong, Lex, LongName, Reserved, Parse, Names, Place, Pair, Leaves, Comes}
use Rattle.loft_lock_expansion.proofs.Rounds.{leaving_told}

module _ (text : List ℕ) where
  abbrev Answered : Type 0
  Answered = (a : Result Source Refusal) × Comes text a

  module _ (ts : List Token) where
    module _ (s : Source) where
      stays_or_leaves : IsPaired text ts s → (away : ModuleId → Bool) → TellsLeaving s away → (o : Option (ModuleId × List ℕ)) → first_leaving (text_marks text ts) away (numbered s).modules ≡ o → Answered
      stays_or_leaves p away t None e = (Ok s, record { tokens = ts; pairs = p; away = away; leaving = t; stays = e })
      stays_or_leaves p away t (Some (m, l)) e = (Err (Leaves m l), (ts, s, away, p, t, e))

      paired_or_not : IsNamed text ts s → IsPlaced (numbered s) → (o : Option (ModuleId × List ℕ)) → first_unpaired (text_marks text ts) (numbered s).modules ≡ o → Answered
      paired_or_not n placed None e =
          let told = leaving_told (program_of s) in
          stays_or_leaves (record { named = n; placed = placed; paired = e }) told.0 told.1 (first_leaving (text_marks text ts) told.0 (numbered s).modules) refl
      paired_or_not n placed (Some (m, l)) e = (Err (Pair m l), (ts, s, n, placed, e))

      linked_or_not : IsNamed text ts s → IsPlaced (numbered s) ⊎ ((e : PlaceError) × PlaceFault (numbered s) e) → Answered
      linked_or_not n (inl placed) = paired_or_not n placed (first_unpaired (text_marks text ts) (numbered s).modules) refl
      linked_or_not n (inr (e, fault)) = (Err (Place e), (ts, s, n, fault))

      named_or_not : IsRewritten text ts → Reads (written text 0 0 ts) s → NamesFit s ⊎ ((e : NameError) × NameFault s e) → Answered
      named_or_not r reads (inl fit) = linked_or_not (record { rewritten = r; reads = reads; names = fit }) (placed_or_not (numbered s))
      named_or_not r reads (inr (e, fault)) = (Err (Names e), (ts, s, r, reads, fault))

    read_or_not : IsRewritten text ts → ((s : Source) × Reads (written text 0 0 ts) s) ⊎ ((e : ParseError) × SourceFault (written text 0 0 ts) e) → Answered
    read_or_not r (inl (s, reads)) = named_or_not s r reads (names_or_fault s)
    read_or_not r (inr (e, fault)) = (Err (Parse e), (ts, r, fault))

    free_or_not : IsWritten text ts → long_name text 0 ts ≡ None → (o : Option ℕ) → reserved_name text (forms 0 (all_say text ts)) ts ≡ o → Answered
    free_or_not w short None e = read_or_not (record { writes = w; short = short; free = e }) (program_or_fault (written text 0 0 ts))
    free_or_not w short (Some k) e = (Err (Reserved k), (ts, w, short, e))

    short_or_not : IsWritten text ts → (o : Option ℕ) → long_name text 0 ts ≡ o → Answered
    short_or_not w None e = free_or_not w e (reserved_name text (forms 0 (all_say text ts)) ts) refl
    short_or_not w (Some k) e = (Err (LongName k), (ts, w, e))

    written_or_not : length text ≤ MAX_TEXT_LEN → Cut text (Ok ts) → (MAX_TEXT_LEN < length (written text 0 0 ts)) ⊎ (length (written text 0 0 ts) ≤ MAX_TEXT_LEN) → Answered
    written_or_not fits c (inl long) = (Err TooLong, inr (ts, c, long))
    written_or_not fits c (inr small) = short_or_not (record { fits = fits; cut = c; written_fits = small }) (long_name text 0 ts) refl

  cut_or_not : length text ≤ MAX_TEXT_LEN → (found : Found) → tokens text ≡ found → Answered
  cut_or_not fits (Ok ts) e = written_or_not ts fits ((found_is_cut text (Ok ts)).0 e) (cases_lt MAX_TEXT_LEN (length (written text 0 0 ts)))
  cut_or_not fits (Err f) e = (Err (Lex f), (fits, (found_is_cut text (Err f)).0 e))

  fits_or_not : (MAX_TEXT_LEN < length text) ⊎ (length text ≤ MAX_TEXT_LEN) → Answered
  fits_or_not (inl long) = (Err TooLong, inl long)
  fits_or_not (inr fits) = cut_or_not fits (tokens text) refl

  pub some_answer : (a : Result Source Refusal) × Comes text a
  some_answer = fits_or_not (cases_lt MAX_TEXT_LEN (length text))
