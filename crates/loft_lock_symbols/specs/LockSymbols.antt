-- The symbols of the text that the first form of a lock becomes, and symbols that keep away from a lock (docs/LOCKS.md, "What a lock declares").
use Rattle.std.specs.Prelude.{◌≢◌, ℕ, pos, Bool, true, false, List, [], ◌∷◌, ◌++◌}
use Rattle.loft_lex.specs.declared.word.Word.{Word}
use Rattle.loft_lex.specs.declared.word.Word.TheVariants as w
use Rattle.loft_lex.specs.declared.sign.Sign.{Sign}
use Rattle.loft_lex.specs.declared.sign.Sign.TheVariants as s
use Rattle.loft_lex.specs.Symbol.{Symbol, What, Named, Keyword, Numeral, Quoted, Mark, Unreadable}
use Rattle.loft_grammar.specs.Language.{is_sign, kind_of}
use Rattle.loft_lock_sources.specs.SourceLocks.{LockNames}

-- whose names begin at the bytes that its declarations tell, and whose other symbols begin anywhere
module _ (n : LockNames) (at : ℕ → ℕ) (other : ℕ → ℕ) where
  abbrev named : ℕ → List ℕ → Symbol
  named k text = record { at = at k; what = Named text }

  abbrev word : ℕ → Word → Symbol
  word k v = record { at = at k; what = Keyword v }

  abbrev number : ℕ → ℕ → Symbol
  number k v = record { at = at k; what = Numeral (pos v) }

  abbrev free_word : ℕ → Word → Symbol
  free_word k v = record { at = other k; what = Keyword v }

  abbrev sign : ℕ → Sign → Symbol
  sign k v = record { at = other k; what = Mark v }

  abbrev free_number : ℕ → Symbol
  free_number k = record { at = other k; what = Numeral (pos 0) }

  -- `shared held_l in A = 0;`
  abbrev pub shared_first : Symbol
  shared_first = free_word 0 w.Shared

  abbrev pub shared_rest : List Symbol
  shared_rest = named 13 n.held ∷ free_word 1 w.In ∷ named 14 n.at ∷ sign 2 s.Equals ∷ free_number 3 ∷ sign 4 s.Semicolon ∷ []

  -- `event free_l in A;`
  abbrev pub event_symbols : List Symbol
  event_symbols = free_word 5 w.Event ∷ named 15 n.free ∷ free_word 6 w.In ∷ named 16 n.at ∷ sign 7 s.Semicolon ∷ []

  -- `module lock_l() in A while (held_l) do await free_l; if (held_l) then cooperate; end end held_l = 1; end`
  abbrev pub takes_symbols : List Symbol
  takes_symbols =
      free_word 8 w.Module ∷ named 17 n.takes ∷ sign 9 s.Open ∷ sign 10 s.Close ∷ free_word 11 w.In ∷ named 18 n.at
      ∷ word 0 w.While ∷ sign 12 s.Open ∷ named 1 n.held ∷ sign 13 s.Close ∷ free_word 14 w.Do
      ∷ word 2 w.Await ∷ named 3 n.free ∷ sign 15 s.Semicolon
      ∷ word 4 w.If ∷ sign 16 s.Open ∷ named 5 n.held ∷ sign 17 s.Close ∷ free_word 18 w.Then
      ∷ word 6 w.Cooperate ∷ sign 19 s.Semicolon ∷ free_word 20 w.End ∷ free_word 21 w.End
      ∷ named 7 n.held ∷ sign 22 s.Equals ∷ number 8 1 ∷ sign 23 s.Semicolon ∷ free_word 24 w.End ∷ []

  -- `module unlock_l() in A held_l = 0; generate free_l; end`
  abbrev pub gives_symbols : List Symbol
  gives_symbols =
      free_word 25 w.Module ∷ named 19 n.gives ∷ sign 26 s.Open ∷ sign 27 s.Close ∷ free_word 28 w.In ∷ named 20 n.at
      ∷ named 9 n.held ∷ sign 29 s.Equals ∷ number 10 0 ∷ sign 30 s.Semicolon
      ∷ word 11 w.Generate ∷ named 12 n.free ∷ sign 31 s.Semicolon ∷ free_word 32 w.End ∷ []

  -- all of them, and what comes after
  abbrev pub lock_symbols : List Symbol → List Symbol
  lock_symbols back = shared_first ∷ (shared_rest ++ (event_symbols ++ (takes_symbols ++ (gives_symbols ++ back))))

-- The variable of a lock isn't named at all, and its modules not after a dot, as threads are made.
module _ (n : LockNames) where
  abbrev pub WhatKeeps : Bool → What → Type 0
  WhatKeeps true (Named text) = (text ≢ n.held) × (text ≢ n.takes) × (text ≢ n.gives)
  WhatKeeps false (Named text) = text ≢ n.held
  WhatKeeps dot (Keyword v) = Unit {0}
  WhatKeeps dot (Numeral v) = Unit {0}
  WhatKeeps dot (Quoted text) = Unit {0}
  WhatKeeps dot (Mark v) = Unit {0}
  WhatKeeps dot Unreadable = Unit {0}

  abbrev pub is_dot : Symbol → Bool
  is_dot x = is_sign s.Dot (kind_of x.what)

  -- dot: the symbol before these is one
  abbrev pub KeepAway : Bool → List Symbol → Type 0
  KeepAway dot [] = Unit {0}
  KeepAway dot (x ∷ xs) = WhatKeeps dot x.what × KeepAway (is_dot x) xs
