-- What the grammar without limits says of a text, and the limits before its stop.
use Rattle.std.proofs.Common.{◌≡◌, ℕ, ◌<◌, ◌≤◌, List, length, Ok, refl, sym, ap, subst, ◌∙◌, arith, ◌⊎◌, inl, inr, ◌↔◌}
use Rattle.std.proofs.lemmas.List.{length-map}
use Rattle.loft_lex.specs.declared.token.Token.{Token}
use Rattle.loft_lex.specs.Symbol.{Symbol, symbol_of, symbols}
use Rattle.loft_lex.specs.Cut.{Cut}
use Rattle.loft_lex.proofs.Readings.{complete}
use Rattle.loft_tree.specs.Source.{Source}
use Rattle.loft_form.specs.declared.fault.Fault.{Fault}
use Rattle.loft_form.specs.declared.fault.Fault.TheVariants as fault
use Rattle.loft_form.specs.Faults.{unlimited, SpellsWhole, StopsWhole, IsFaultOf}
use Rattle.loft_form.proofs.FirstFault.{spelled_freed, fault_stops, stops_fault, deep_before, many_before, fault_within}
use Rattle.loft_form.proofs.Fuel.{enough, one_spelled, one_stop as one_expected, never_both as never_spelled}
use Rattle.loft_parse.specs.declared.error.ParseError.TheVariants.{Expected, TooDeep, TooMany}
use Rattle.loft_grammar.specs.Statements.{rules}
use Rattle.loft_grammar.specs.Items.{program}
use Rattle.loft_grammar.specs.Limits.{limits, nesting, beginning}
use Rattle.loft_parse.specs.Faults.{place, SourceFault}
use Rattle.loft_grammar.specs.Texts.{Reads}
use Rattle.loft_parse.specs.Unlimited.{ReadsUnlimited, StopsUnlimited}
use Rattle.loft_productions.proofs.Checked.{checked}
use Rattle.loft_parse.proofs.Offsets.{tokens_between, place_rises}

one_cut : (text : List ℕ) (ts us : List Token) → Cut text (Ok ts) → Cut text (Ok us) → ts ≡ us
one_cut text ts us found other = let both = sym (complete found) ∙ complete other in cc

-- ---- one answer

pub some : (text : List ℕ) (ts : List Token) → Cut text (Ok ts) → ((p : Source) × ReadsUnlimited text p) ⊎ ((at : ℕ) × StopsUnlimited text at)
some text ts found = go (enough checked (length (symbols text ts)) (symbols text ts) beginning (omega arith))
  where
    go : ((p : Source) × SpellsWhole rules unlimited (length (symbols text ts)) program (symbols text ts) beginning p)
        ⊎ ((left : ℕ) × StopsWhole rules unlimited (length (symbols text ts)) program (symbols text ts) beginning (fault.Expected left))
        → ((p : Source) × ReadsUnlimited text p) ⊎ ((at : ℕ) × StopsUnlimited text at)
    go (inl (p, spells)) = inl (p, (ts, length (symbols text ts), found, spells))
    go (inr (left, stops)) = inr (place (length text) ts left, (ts, length (symbols text ts), left, found, stops, refl))

pub one : (text : List ℕ) (p q : Source) → ReadsUnlimited text p → ReadsUnlimited text q → p ≡ q
one text p q (ts, n, found, spells) (us, m, cut, other) =
    one_spelled checked (symbols text ts) beginning n m p q spells
    (subst (λ vs. SpellsWhole rules unlimited m program (symbols text vs) beginning q) (one_cut text us ts cut found) other)

pub one_stop : (text : List ℕ) (at stop : ℕ) → StopsUnlimited text at → StopsUnlimited text stop → at ≡ stop
one_stop text at stop (ts, n, left, found, stops, is) (us, m, other_left, cut, other, other_is) =
    let same = one_cut text us ts cut found in
    let left_same = one_expected checked (symbols text ts) beginning n m left other_left stops
    (subst (λ vs. StopsWhole rules unlimited m program (symbols text vs) beginning (fault.Expected other_left)) same other) in
    is ∙ ap (place (length text) ts) left_same ∙ ap (λ vs. place (length text) vs other_left) (sym same) ∙ sym other_is

pub never_both : (text : List ℕ) (p : Source) (at : ℕ) → ReadsUnlimited text p → StopsUnlimited text at → ⊥
never_both text p at (ts, n, found, spells) (us, m, left, cut, stops, is) =
    never_spelled checked (symbols text ts) beginning n m left p spells
    (subst (λ vs. StopsWhole rules unlimited m program (symbols text vs) beginning (fault.Expected left)) (one_cut text us ts cut found) stops)

-- ---- with limits

pub within : (text : List ℕ) (p : Source) → Reads text p → ReadsUnlimited text p
within text p (ts, found, spells) = (ts, nesting, found, spelled_freed checked limits nesting (symbols text ts) beginning p spells)

pub expected : (text : List ℕ) (at : ℕ) → SourceFault text (Expected at) → StopsUnlimited text at
expected text at (inl (f, found, is)) = absurd cc
expected text at (inr (ts, fault.Expected left, found, is, same)) =
    let there = is.there in
    (ts, there.0, left, found, there.1, (let e : at ≡ place (length text) ts left = cc in e))
expected text at (inr (ts, fault.TooDeep left, found, is, same)) = absurd cc
expected text at (inr (ts, fault.TooMany left limit, found, is, same)) = absurd cc

-- a fault that has more symbols left than the stop stands before it
before_stop : (text : List ℕ) (ts : List Token) → Cut text (Ok ts) → (f : Fault) → IsFaultOf rules limits nesting program (symbols text ts) beginning f → (j k : ℕ) → k < j → j ≤ length (symbols text ts)
    → place (length text) ts j < place (length text) ts k
before_stop text ts found f is j k less short = place_rises (length text) 0 ts (tokens_between text ts (complete found)) k j less (omega (arith, length-map ts (symbol_of text)))

pub too_deep : (text : List ℕ) (at stop : ℕ) → SourceFault text (TooDeep at) → StopsUnlimited text stop → at < stop
too_deep text at stop (inl (f, found, is)) stops = absurd cc
too_deep text at stop (inr (ts, fault.Expected left, found, is, same)) stops = absurd cc
too_deep text at stop (inr (ts, fault.TooMany left limit, found, is, same)) stops = absurd cc
too_deep text at stop (inr (ts, fault.TooDeep left, found, is, same)) (us, m, k, cut, stops, stop_is) =
    let one_list = one_cut text us ts cut found in
    let stops_here = subst (λ vs. StopsWhole rules unlimited m program (symbols text vs) beginning (fault.Expected k)) one_list stops in
    let less = deep_before checked limits nesting (symbols text ts) beginning left k is.there (m, stops_here) in
    let at_is : at ≡ place (length text) ts left = cc in
    let stop_here : stop ≡ place (length text) ts k = stop_is ∙ ap (λ vs. place (length text) vs k) one_list in
    let rising = before_stop text ts found (fault.TooDeep left) is left k less (fault_within checked limits nesting (symbols text ts) beginning (fault.TooDeep left) is) in
    omega arith

pub too_many : (text : List ℕ) (at limit stop : ℕ) → SourceFault text (TooMany at limit) → StopsUnlimited text stop → at < stop
too_many text at limit stop (inl (f, found, is)) stops = absurd cc
too_many text at limit stop (inr (ts, fault.Expected left, found, is, same)) stops = absurd cc
too_many text at limit stop (inr (ts, fault.TooDeep left, found, is, same)) stops = absurd cc
too_many text at limit stop (inr (ts, fault.TooMany left most, found, is, same)) (us, m, k, cut, stops, stop_is) =
    let one_list = one_cut text us ts cut found in
    let stops_here = subst (λ vs. StopsWhole rules unlimited m program (symbols text vs) beginning (fault.Expected k)) one_list stops in
    let less = many_before checked limits nesting (symbols text ts) beginning left most k is.there (m, stops_here) in
    let at_is : at ≡ place (length text) ts left = cc in
    let stop_here : stop ≡ place (length text) ts k = stop_is ∙ ap (λ vs. place (length text) vs k) one_list in
    let rising = before_stop text ts found (fault.TooMany left most) is left k less (fault_within checked limits nesting (symbols text ts) beginning (fault.TooMany left most) is) in
    omega arith

pub at_once : (ss : List Symbol) (f : Fault) → IsFaultOf rules limits nesting program ss beginning f ↔ StopsWhole rules limits nesting program ss beginning f
at_once ss f = (fault_stops checked limits nesting ss beginning f, stops_fault checked limits nesting ss beginning f)
