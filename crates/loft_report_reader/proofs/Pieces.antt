-- What is read in pieces.
use Rattle.std.proofs.Common.{Option, ◌≡◌, ℕ, suc, ◌+◌, ◌<◌, ◌≤◌, Bool, true, false, ◌==◌, List, [], ◌∷◌, ◌++◌, length, length-append, take, OnOk, Some, None, Result, Ok, Err, ◌⊎◌, inl, inr, refl, sym, ap, subst, ◌∙◌, arith, if◌then◌else◌}
use Rattle.std.proofs.lemmas.List.{take-append-le}
use Rattle.std.proofs.Math.Seq.{take-append-add}
use Rattle.std.proofs.Math.Dec.{leb}
use Rattle.std.proofs.lemmas.Bool.Decides.{leb_tells}
use Rattle.loft_spelling.specs.Reading.{State, opening, run}
use Rattle.loft_spelling.specs.Parts.{script, takes}
use Rattle.loft_spelling.proofs.Bytewise.{run_pieces, run_stopped, then_more}
use Rattle.loft_report_shape.proofs.Verdicts.{run_all, stops_there, there_stops}
use Rattle.loft_report_shape.specs.Report.{grammar, beginning, StopsAt, GoesOn, IsLine, feeds, longest}
use Rattle.loft_report_reader.specs.Machine.{Machine_state, machine_of, read_from, IsBegun, IsRead}
use Rattle.loft_report_reader.proofs.Begun.{reads_begun}
use Rattle.loft_report_reader.specs.Log.{Cause, Reading, ReadUpTo}
use Rattle.loft_report_reader.specs.Answer.{HasRead, Keeps}
use Rattle.loft_report_reader.specs.declared.machine.Machine.{Machine}
use Rattle.loft_report_reader.specs.declared.log.LogReader.{LogReader}
use Rattle.loft_report_reader.specs.declared.error.LogError.{LogError}
use Rattle.loft_report_reader.specs.declared.error.LogError.TheVariants.{Line, Ends, TooLong, NoMemory}

pub never_stops : (text : List ℕ) (m : State (script grammar)) → run_all text ≡ Ok m → (k : ℕ) → StopsAt text k → length text ≤ k
never_stops text m e k s = go (leb_tells (length text) k)
  where
    go : ((leb (length text) k ≡ true) × (length text ≤ k)) ⊎ ((leb (length text) k ≡ false) × (k < length text)) → length text ≤ k
    go (inl p) = p.1
    go (inr p) = absurd (let f = sym e ∙ there_stops text k s p.1 in cc)

line_more : (text more : List ℕ) (n k : ℕ) → IsLine text n k → IsLine (text ++ more) n k
line_more text more n k h =
    let at = stops_there (text ++ more) k (run_stopped (script grammar) (takes grammar) text more (opening (script grammar) (takes grammar) beginning) k (there_stops text k h.0 h.1)) in
    (at.0, at.1, h.2 ∙ ap (λ (t : List ℕ). feeds t + 1) (sym (take-append-le k text more (omega (arith, h.1)))))

pub cause_more : (e : LogError) (text more : List ℕ) → Cause e text → Cause e (text ++ more)
cause_more (Line n k) text more h = line_more text more n k h
cause_more (Ends k) text more h = h
cause_more TooLong text more h = omega (arith, h, length-append text more)
cause_more NoMemory text more h = h

-- ---- one piece more

pub feeds_both : (text more : List ℕ) → feeds (text ++ more) ≡ feeds text + feeds more
unfolding feeds
feeds_both [] more = omega arith
feeds_both (c ∷ text) more = go (c == 10) (feeds_both text more)
  where
    go : (x : Bool) → feeds (text ++ more) ≡ feeds text + feeds more → (if x then feeds (text ++ more) + 1 else feeds (text ++ more)) ≡ (if x then feeds text + 1 else feeds text) + feeds more
    go true ih = omega (arith, ih)
    go false ih = ih

pub feeds_least : (text : List ℕ) → feeds text ≤ length text
unfolding feeds
feeds_least [] = omega arith
feeds_least (c ∷ text) = go (feeds_least text) (c == 10)
  where
    go : feeds text ≤ length text → (x : Bool) → (if x then feeds text + 1 else feeds text) ≤ suc (length text)
    go ih true = omega (arith, ih)
    go ih false = omega (arith, ih)

module _ (m n : Machine) (size lines : ℕ) (text piece : List ℕ) (h : Reading m size lines text) where
  begun : IsBegun (machine_of m)
  begun = reads_begun text (machine_of m) h.state

  -- what is read of the piece is read of the text with it
  of_both : run_all (text ++ piece) ≡ then_more (script grammar) (takes grammar) (length text) (Ok (machine_of m)) piece
  of_both = run_pieces (script grammar) (takes grammar) text piece (opening (script grammar) (takes grammar) beginning) ∙ ap (λ r. then_more (script grammar) (takes grammar) (length text) r piece) h.state

  -- the machine has read the piece
  pub reading_taken : size + length piece ≤ longest → (IsBegun (machine_of m) → read_from (machine_of m) piece ≡ Ok (machine_of n)) → (size' lines' : ℕ) → size' ≡ size + length piece → lines' ≡ lines + feeds piece
      → Reading n size' lines' (text ++ piece)
  reading_taken room e size' lines' grown fed = record {
    within = omega (arith, length-append text piece, h.size_is, room);
    size_is = omega (arith, length-append text piece, grown, h.size_is);
    lines_are = omega (arith, fed, h.lines_are, feeds_both text piece);
    state = of_both ∙ later_ok (length text) (read_from (machine_of m) piece) (e begun);
  }
    where
      later_ok : (k : ℕ) (r : Result Machine_state ℕ) → read_from (machine_of m) piece ≡ Ok (machine_of n) → then_more (script grammar) (takes grammar) k (Ok (machine_of m)) piece ≡ Ok (machine_of n)
      later_ok k r f = rw f refl

  -- the text stops inside the piece
  pub reading_stops : (k : ℕ) → (IsBegun (machine_of m) → read_from (machine_of m) piece ≡ Err k) → (line byte : ℕ) → line ≡ lines + feeds (take k piece) + 1 → byte ≡ size + k → IsLine (text ++ piece) line byte
  reading_stops k e line byte line_is byte_is =
      let f : run_all (text ++ piece) ≡ Err (length text + k) = of_both ∙ later_err (e begun) in
      let at = stops_there (text ++ piece) (length text + k) f in
      let same : byte ≡ length text + k = omega (arith, byte_is, h.size_is) in
      let front : feeds (take (length text + k) (text ++ piece)) ≡ feeds text + feeds (take k piece) = ap feeds (take-append-add text piece k) ∙ feeds_both text (take k piece) in
      subst (λ j. IsLine (text ++ piece) line j) (sym same) (at.0, at.1, omega (arith, front, line_is, h.lines_are))
    where
      later_err : read_from (machine_of m) piece ≡ Err k → then_more (script grammar) (takes grammar) (length text) (Ok (machine_of m)) piece ≡ Err (length text + k)
      later_err f = rw f refl

-- no error so far, and a piece more
pub read_more : (o : Option LogError) (m n : Machine) (size lines l f : ℕ) (text piece : List ℕ) (stop : Option ℕ) → o ≡ None → stop ≡ None → size + length piece ≤ longest → ReadUpTo o m size lines text
    → (IsBegun (machine_of m) → IsRead stop piece (machine_of m) (machine_of n))
    → l ≡ size + length piece → (lines ≤ longest → f ≡ lines + feeds piece)
    → ReadUpTo o n l f (text ++ piece)
read_more o m n size lines l f text piece stop none all room h e grown fed =
    let k : Reading m size lines text = subst (λ p. ReadUpTo p m size lines text) none h in
    let few : lines ≤ longest = omega (arith, k.lines_are, feeds_least text, k.within) in
    subst (λ p. ReadUpTo p n l f (text ++ piece)) (sym none)
    (reading_taken m n size lines text piece k room (subst (λ s. IsBegun (machine_of m) → IsRead s piece (machine_of m) (machine_of n)) all e) l f grown (fed few))

-- no error so far, and the text stops in the piece
pub read_line : (o : Option LogError) (m n : Machine) (size lines line byte j : ℕ) (text piece : List ℕ) (stop : Option ℕ) → o ≡ None → stop ≡ Some j → ReadUpTo o m size lines text
    → (IsBegun (machine_of m) → IsRead stop piece (machine_of m) (machine_of n))
    → (lines ≤ longest → line ≡ lines + feeds (take j piece) + 1) → (size ≤ longest → byte ≡ size + j) → IsLine (text ++ piece) line byte
read_line o m n size lines line byte j text piece stop none some h e line_is byte_is =
    let k : Reading m size lines text = subst (λ p. ReadUpTo p m size lines text) none h in
    let few : lines ≤ longest = omega (arith, k.lines_are, feeds_least text, k.within) in
    reading_stops m n size lines text piece k j (subst (λ s. IsBegun (machine_of m) → IsRead s piece (machine_of m) (machine_of n)) some e) line byte (line_is few) (byte_is (omega (arith, k.size_is, k.within)))

-- how long the text is, where there was no error
pub read_size : (o : Option LogError) (m : Machine) (size lines : ℕ) (text : List ℕ) → o ≡ None → ReadUpTo o m size lines text → size ≡ length text
read_size o m size lines text none h = let k : Reading m size lines text = subst (λ p. ReadUpTo p m size lines text) none h in k.size_is

pub read_short : (o : Option LogError) (m : Machine) (size lines : ℕ) (text : List ℕ) → o ≡ None → ReadUpTo o m size lines text → size ≤ longest
read_short o m size lines text none h = let k : Reading m size lines text = subst (λ p. ReadUpTo p m size lines text) none h in omega (arith, k.size_is, k.within)

-- an error says the same of what follows
pub has_read_error : (r : LogReader) (e : LogError) (text more : List ℕ) → r.error ≡ Some e → HasRead r text → HasRead r (text ++ more)
has_read_error r e text more kept h = subst (λ o. ReadUpTo o r.machine r.length r.feeds (text ++ more)) (sym kept) (cause_more e text more (subst (λ o. ReadUpTo o r.machine r.length r.feeds text) kept h))

pub error_cause : (r : LogReader) (e : LogError) (text : List ℕ) → r.error ≡ Some e → HasRead r text → Cause e text
error_cause r e text kept h = subst (λ o. ReadUpTo o r.machine r.length r.feeds text) kept h

-- nothing was read yet
pub read_nothing : (m : Machine) → machine_of m ≡ opening (script grammar) (takes grammar) beginning → Reading m 0 0 []
unfolding run feeds
read_nothing m e = record { within = omega arith; size_is = refl; lines_are = none; state = ap (λ (s : State (script grammar)). Ok s) (sym e) }
  where
    none : 0 ≡ feeds []
    none = refl

-- no error in a piece
pub feed_goes_on : (r : LogReader) (text : List ℕ) → r.error ≡ None → HasRead r text → (length text ≤ longest) × GoesOn text
feed_goes_on r text none read =
    let h : Reading r.machine r.length r.feeds text = subst (λ o. ReadUpTo o r.machine r.length r.feeds text) none read in
    (h.within, never_stops text (machine_of r.machine) h.state)

-- what a reader answers to a piece
pub fed_ok : (result : Result (Unit {0}) LogError) (old new : LogReader) (piece : List ℕ) → Keeps result new → ((text : List ℕ) → HasRead old text → HasRead new (text ++ piece))
    → OnOk result ((text : List ℕ) → HasRead old text → (length (text ++ piece) ≤ longest) × GoesOn (text ++ piece))
fed_ok (Ok x) old new piece keeps read = λ text h. feed_goes_on new (text ++ piece) keeps (read text h)
fed_ok (Err e) old new piece keeps read = tt
