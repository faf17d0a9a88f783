-- The order of arguments.
use Rattle.std.proofs.Common.{◌≡◌, ℕ, ◌≤◌, arith, length, Bool, true, false, List, [], ◌∷◌, ◌++◌, refl, sym, ◌∙◌, ap, Option, Some, None, ◌⊎◌, inl, inr, length-append}
use Rattle.std.specs.Prelude.{codes, ◌&&◌, if◌then◌else◌, option_and_then}
use Rattle.std.specs.Option.{option_map}
use Rattle.std.specs.List.{filter_map, cons_option, list_all}
use Rattle.std.specs.Str.{bytes_eq}
use Rattle.std.proofs.lemmas.List.Elements.{filter_map-append}
use Rattle.std.proofs.lemmas.List.Folds.{list_all-append}
use Rattle.loft_base.specs.declared.options.TheConstants.{MAX_INSTANTS, MAX_BUDGET, MAX_BLOCK, MAX_WORKERS}
use Rattle.loft_arguments.specs.declared.defaults.TheConstants.{DEFAULT_INSTANTS, DEFAULT_BUDGET, DEFAULT_BLOCK, DEFAULT_WORKERS}
use Rattle.loft_gen.specs.declared.source.TheConstants.{GENERATED_MAX}
use Rattle.loft_arguments.specs.Arguments.{Argument, plain_word, value_for, flag_for, is_among, has_only}
use Rattle.loft_arguments.specs.Command.{FileCommand, Run, Exec, Show, Check, Compile, Bound, Expand, Command, OfFile, Replay, only_file, of_two_files, only_number, number_of, value_of, flag_of, options_from, run_names, only_name, run_flag, taking, gen_with, gen, replay, file_command_named, command_named}
use Rattle.loft_arguments.specs.Changing.{MayChange}
use Rattle.loft_arguments.proofs.Commands.{not_one, not_one_number, no_number, no_value, no_flag}

-- the same words, or more than one on both sides
abbrev AreAlike : List (List ℕ) → List (List ℕ) → Type 0
AreAlike xs ys = (xs ≡ ys) ⊎ ((2 ≤ length xs) × (2 ≤ length ys))

two_values : (f : Argument → Option (List ℕ)) (before after : List Argument) (a b : Argument) (v w : List ℕ) → f a ≡ Some v → f b ≡ Some w
    → 2 ≤ length (filter_map f (before ++ (a ∷ b ∷ after)))
two_values f before after a b v w is other =
    let all : filter_map f (before ++ (a ∷ b ∷ after)) ≡ filter_map f before ++ (v ∷ w ∷ filter_map f after) =
    filter_map-append f before (a ∷ b ∷ after)
    ∙ ap (λ (o : Option (List ℕ)). filter_map f before ++ cons_option o (cons_option (f b) (filter_map f after))) is
    ∙ ap (λ (o : Option (List ℕ)). filter_map f before ++ (v ∷ cons_option o (filter_map f after))) other in
    omega (arith, ap (λ (l : List (List ℕ)). length l) all, length-append (filter_map f before) (v ∷ w ∷ filter_map f after))

alike : (f : Argument → Option (List ℕ)) (before after : List Argument) (a b : Argument)
    → AreAlike (filter_map f (before ++ (a ∷ b ∷ after))) (filter_map f (before ++ (b ∷ a ∷ after)))
alike f before after a b = go (f a) (f b) refl refl
  where
    go : (x y : Option (List ℕ)) → f a ≡ x → f b ≡ y → AreAlike (filter_map f (before ++ (a ∷ b ∷ after))) (filter_map f (before ++ (b ∷ a ∷ after)))
    go None y is other = inl (grind (arith, filter_map-append f before (a ∷ b ∷ after), filter_map-append f before (b ∷ a ∷ after)))
    go (Some v) None is other = inl (grind (arith, filter_map-append f before (a ∷ b ∷ after), filter_map-append f before (b ∷ a ∷ after)))
    go (Some v) (Some w) is other = inr (two_values f before after a b v w is other, two_values f before after b a w v other is)

same_number : (most default : ℕ) (xs ys : List (List ℕ)) → AreAlike xs ys → number_of most default xs ≡ number_of most default ys
same_number most default xs ys (inl same) = ap (λ (l : List (List ℕ)). number_of most default l) same
same_number most default xs ys (inr (many, much)) = no_number most default xs many ∙ sym (no_number most default ys much)

same_file : (xs ys : List (List ℕ)) → AreAlike xs ys → only_file xs ≡ only_file ys
same_file xs ys (inl same) = ap (λ (l : List (List ℕ)). only_file l) same
same_file xs ys (inr (many, much)) = not_one xs many ∙ sym (not_one ys much)

same_k : (xs ys : List (List ℕ)) → AreAlike xs ys → only_number GENERATED_MAX xs ≡ only_number GENERATED_MAX ys
same_k xs ys (inl same) = ap (λ (l : List (List ℕ)). only_number GENERATED_MAX l) same
same_k xs ys (inr (many, much)) = not_one_number GENERATED_MAX xs many ∙ sym (not_one_number GENERATED_MAX ys much)

same_flag : (xs ys : List (List ℕ)) → AreAlike xs ys → flag_of xs ≡ flag_of ys
same_flag xs ys (inl same) = ap (λ (l : List (List ℕ)). flag_of l) same
same_flag xs ys (inr (many, much)) = no_flag xs many ∙ sym (no_flag ys much)

same_value : (xs ys : List (List ℕ)) → AreAlike xs ys → value_of xs ≡ value_of ys
same_value xs ys (inl same) = ap (λ (l : List (List ℕ)). value_of l) same
same_value xs ys (inr (many, much)) = no_value xs many ∙ sym (no_value ys much)

-- where one of the two isn't found, what is found is the same
apart : (f : Argument → Option (List ℕ)) (before after : List Argument) (a b : Argument) → (f a ≡ None) ⊎ (f b ≡ None)
    → filter_map f (before ++ (a ∷ b ∷ after)) ≡ filter_map f (before ++ (b ∷ a ∷ after))
apart f before after a b (inl is) = grind (arith, filter_map-append f before (a ∷ b ∷ after), filter_map-append f before (b ∷ a ∷ after))
apart f before after a b (inr is) = grind (arith, filter_map-append f before (a ∷ b ∷ after), filter_map-append f before (b ∷ a ∷ after))

swapped : (a b c : Bool) → (a && (b && c)) ≡ (b && (a && c))
swapped true true c = refl
swapped true false c = refl
swapped false true c = refl
swapped false false c = refl

same_names : (options flags : List (List ℕ)) (before after : List Argument) (a b : Argument) → has_only options flags (before ++ (a ∷ b ∷ after)) ≡ has_only options flags (before ++ (b ∷ a ∷ after))
same_names options flags before after a b =
    list_all-append (is_among options flags) before (a ∷ b ∷ after)
    ∙ ap (λ (t : Bool). list_all (is_among options flags) before && t) (swapped (is_among options flags a) (is_among options flags b) (list_all (is_among options flags) after))
    ∙ sym (list_all-append (is_among options flags) before (b ∷ a ∷ after))

-- a command that reads one file is made of seven answers, that of a number of three, and a replay of three
file_made_alike : (F : Bool → Bool → Option (List ℕ) → Option ℕ → Option ℕ → Option ℕ → Option ℕ → Option FileCommand)
    (b c d e : Bool) (f g : Option (List ℕ)) (i j k l m n o p : Option ℕ) → b ≡ c → d ≡ e → f ≡ g → i ≡ j → k ≡ l → m ≡ n → o ≡ p
    → F b d f i k m o ≡ F c e g j l n p
file_made_alike F b c d e f g i j k l m n o p r s t u v w x = cc

gen_made_alike : (F : Bool → Option ℕ → Option Bool → Option Command) (b c : Bool) (i j : Option ℕ) (r s : Option Bool) → b ≡ c → i ≡ j → r ≡ s → F b i r ≡ F c j s
gen_made_alike F b c i j r s t u v = cc

replay_made_alike : (F : Bool → List (List ℕ) → Option (Option (List ℕ)) → Option Command) (b c : Bool) (i j : List (List ℕ)) (r s : Option (Option (List ℕ)))
    → b ≡ c → i ≡ j → r ≡ s → F b i r ≡ F c j s
replay_made_alike F b c i j r s t u v = cc

abbrev file_command_with : List ℕ → (known alone : Bool) (file : Option (List ℕ)) (instants budget block workers : Option ℕ) → Option FileCommand
file_command_with word known alone file instants budget block workers =
    if bytes_eq word (codes "run") then (if known then option_and_then (λ f. option_map (Run f) (options_from instants budget block workers)) file else None)
    else (if bytes_eq word (codes "exec") then (if known then option_and_then (λ f. option_map (Exec f) (options_from instants budget block workers)) file else None)
    else (if bytes_eq word (codes "show") then (if alone then option_map Show file else None)
    else (if bytes_eq word (codes "check") then (if alone then option_map Check file else None)
    else (if bytes_eq word (codes "compile") then (if alone then option_map Compile file else None)
    else (if bytes_eq word (codes "bound") then (if alone then option_map Bound file else None)
    else (if bytes_eq word (codes "expand") then (if alone then option_map Expand file else None) else None))))))

abbrev gen_with_all : (numbered : Bool) (number : Option ℕ) (run : Option Bool) → Option Command
gen_with_all numbered number run = if numbered then option_and_then (λ n. option_map (gen_with n) run) number else None

abbrev replay_with : (known : Bool) (words : List (List ℕ)) (only : Option (Option (List ℕ))) → Option Command
replay_with known words only = if known then of_two_files (λ source report. option_map (Replay source report) only) words else None

module _ (before after : List Argument) (a b : Argument) where
  same_file_command : (word : List ℕ) → file_command_named word (before ++ (a ∷ b ∷ after)) ≡ file_command_named word (before ++ (b ∷ a ∷ after))
  same_file_command word = file_made_alike (file_command_with word) _ _ _ _ _ _ _ _ _ _ _ _ _ _
      (same_names run_names [] before after a b)
      (same_names [] [] before after a b)
      (same_file _ _ (alike plain_word before after a b))
      (same_number MAX_INSTANTS DEFAULT_INSTANTS _ _ (alike (value_for (codes "--instants")) before after a b))
      (same_number MAX_BUDGET DEFAULT_BUDGET _ _ (alike (value_for (codes "--budget")) before after a b))
      (same_number MAX_BLOCK DEFAULT_BLOCK _ _ (alike (value_for (codes "--block")) before after a b))
      (same_number MAX_WORKERS DEFAULT_WORKERS _ _ (alike (value_for (codes "--workers")) before after a b))

  same_gen : taking [] run_flag (before ++ (a ∷ b ∷ after)) (gen (before ++ (a ∷ b ∷ after))) ≡ taking [] run_flag (before ++ (b ∷ a ∷ after)) (gen (before ++ (b ∷ a ∷ after)))
  same_gen = gen_made_alike gen_with_all _ _ _ _ _ _
      (same_names [] run_flag before after a b)
      (same_k _ _ (alike plain_word before after a b))
      (same_flag _ _ (alike (flag_for (codes "--run")) before after a b))

  same_replay : (plain_word a ≡ None) ⊎ (plain_word b ≡ None)
      → taking only_name [] (before ++ (a ∷ b ∷ after)) (replay (before ++ (a ∷ b ∷ after))) ≡ taking only_name [] (before ++ (b ∷ a ∷ after)) (replay (before ++ (b ∷ a ∷ after)))
  same_replay free = replay_made_alike replay_with _ _ _ _ _ _
      (same_names only_name [] before after a b)
      (apart plain_word before after a b free)
      (same_value _ _ (alike (value_for (codes "--only")) before after a b))

  pub neighbours : (word : List ℕ) → MayChange word a b → command_named word (before ++ (a ∷ b ∷ after)) ≡ command_named word (before ++ (b ∷ a ∷ after))
  neighbours word may = go (bytes_eq word (codes "gen")) (bytes_eq word (codes "replay")) may
    where
      go : (g r : Bool) → ((plain_word a ≡ None) ⊎ ((plain_word b ≡ None) ⊎ (r ≡ false)))
          → (if g then taking [] run_flag (before ++ (a ∷ b ∷ after)) (gen (before ++ (a ∷ b ∷ after)))
          else (if r then taking only_name [] (before ++ (a ∷ b ∷ after)) (replay (before ++ (a ∷ b ∷ after)))
          else option_map OfFile (file_command_named word (before ++ (a ∷ b ∷ after)))))
          ≡ (if g then taking [] run_flag (before ++ (b ∷ a ∷ after)) (gen (before ++ (b ∷ a ∷ after)))
          else (if r then taking only_name [] (before ++ (b ∷ a ∷ after)) (replay (before ++ (b ∷ a ∷ after)))
          else option_map OfFile (file_command_named word (before ++ (b ∷ a ∷ after)))))
      go true r may = same_gen
      go false true (inl is) = same_replay (inl is)
      go false true (inr (inl is)) = same_replay (inr is)
      go false true (inr (inr is)) = absurd cc
      go false false may = ap (λ (o : Option FileCommand). option_map OfFile o) (same_file_command word)
