-- A step over a token of a source, and what is written in the end.
use Rattle.std.proofs.Common.{◌≡◌, ◌∙◌, sym, ap, subst, arith, ℕ, suc, ◌+◌, ◌<◌, ◌++◌, List, [], ◌∷◌, drop, drop-cons, length, Option, Some, None}
use Rattle.std.specs.Prelude.{slice_range, slice_index_or}
use Rattle.std.proofs.lemmas.List.{append_assoc, length-append, append-nil, length-map, drop-map}
use Rattle.loft_lex.specs.declared.token.Token.{Token}
use Rattle.loft_lex.specs.Tokens.{Rising}
use Rattle.loft_lex.specs.declared.symbol.Symbol.{Symbol as SymbolInMemory}
use Rattle.loft_lex.specs.Seen.{symbol_seen}
use Rattle.loft_lex.specs.TextSymbols.{symbols_seen}
use Rattle.loft_lex.specs.Symbol.{symbol_of, symbols}
use Rattle.loft_lock_forms.specs.Rewriting.{LockForm, form_at, form_text, more_of, with_form, says, all_say, written}
use Rattle.loft_lock_forms.specs.Marks.{Mark, form_mark, marks}
use Rattle.loft_lock_forms.specs.Seen.{whats, first_form}
use Rattle.loft_lock_forms.specs.Whole.{Whole, whole_of}
use Rattle.loft_lock_forms.proofs.NameLemmas.{whats_say}

abbrev make : List ℕ → List Mark → Whole
make a m = record { text = a; marks = m }

both : (a b : List ℕ) (m n : List Mark) → a ≡ b → m ≡ n → make a m ≡ make b n
both a b m n p q i = record { text = p i; marks = q i }

-- the form that begins with the token, by what all tokens say
found : (src : List ℕ) (t : Token) (ts : List Token) (o : Option LockForm) → first_form (whats (symbols src (t ∷ ts))) ≡ o → form_at (says src t) (all_say src ts) ≡ o
found src t ts o e = sym (ap (form_at (says src t)) (whats_say src ts)) ∙ e

-- a token that begins no form
over_other : (src out next : List ℕ) (ms : List Mark) (at : ℕ) (t : Token) (ts : List Token) → first_form (whats (symbols src (t ∷ ts))) ≡ None
    → next ≡ out ++ slice_range src at t.to → whole_of src next ms t.to 0 ts ≡ whole_of src out ms at 0 (t ∷ ts)
over_other src out next ms at t ts e put =
    let none = sym (found src t ts None e) in
    let slice = slice_range src at t.to in
    let later = written src t.to 0 ts in
    both _ _ _ _
    (ap (λ (l : List ℕ). l ++ later) put ∙ (append_assoc out slice later
    ∙ ap (λ (o : Option LockForm). out ++ with_form o (slice ++ later) (λ f. slice_range src at t.from ++ form_text f (written src t.to (more_of f) ts))) none))
    (ap (λ (n : ℕ). ms ++ marks src n t.to 0 ts) (ap length put ∙ length-append out slice)
    ∙ ap (λ (o : Option LockForm). ms ++ with_form o (marks src (length out + length slice) t.to 0 ts)
    (λ f. form_mark f (length out + length (slice_range src at t.from)) (marks src (length out + length (slice_range src at t.from) + length (form_text f [])) t.to (more_of f) ts))) none)

-- a token that begins a form
over_first : (src out made next : List ℕ) (ms after : List Mark) (at : ℕ) (t : Token) (ts : List Token) (f : LockForm) → first_form (whats (symbols src (t ∷ ts))) ≡ Some f
    → made ≡ out ++ slice_range src at t.from
    → ((rest : List ℕ) → next ++ rest ≡ made ++ form_text f rest)
    → ((rest : List Mark) → after ++ rest ≡ ms ++ form_mark f (length made) rest)
    → whole_of src next after t.to (more_of f) ts ≡ whole_of src out ms at 0 (t ∷ ts)
over_first src out made next ms after at t ts f e put text told =
    let some = sym (found src t ts (Some f) e) in
    let slice = slice_range src at t.from in
    let later = written src t.to (more_of f) ts in
    let start : length made ≡ length out + length slice = ap length put ∙ length-append out slice in
    let end : length next ≡ length out + length slice + length (form_text f []) =
    ap length (sym (append-nil next)) ∙ (ap length (text []) ∙ (length-append made (form_text f []) ∙ ap (λ (n : ℕ). n + length (form_text f [])) start)) in
    both _ _ _ _
    (text later ∙ (ap (λ (l : List ℕ). l ++ form_text f later) put ∙ (append_assoc out slice (form_text f later)
    ∙ ap (λ (o : Option LockForm). out ++ with_form o (slice_range src at t.to ++ written src t.to 0 ts) (λ g. slice ++ form_text g (written src t.to (more_of g) ts))) some)))
    (told (marks src (length next) t.to (more_of f) ts)
    ∙ (ap (λ (n : ℕ). ms ++ form_mark f n (marks src (length next) t.to (more_of f) ts)) start
    ∙ (ap (λ (n : ℕ). ms ++ form_mark f (length out + length slice) (marks src n t.to (more_of f) ts)) end
    ∙ ap (λ (o : Option LockForm). ms ++ with_form o (marks src (length out + length (slice_range src at t.to)) t.to 0 ts)
    (λ g. form_mark g (length out + length slice) (marks src (length out + length slice + length (form_text g [])) t.to (more_of g) ts))) some)))

-- the same where it is known that no token belongs to a form before
pub over_plain : (src out next : List ℕ) (ms : List Mark) (at skip : ℕ) (t : Token) (ts : List Token) → skip ≡ 0 → first_form (whats (symbols src (t ∷ ts))) ≡ None
    → next ≡ out ++ slice_range src at t.to → whole_of src next ms t.to skip ts ≡ whole_of src out ms at skip (t ∷ ts)
over_plain src out next ms at skip t ts none e put =
    ap (λ (k : ℕ). whole_of src next ms t.to k ts) none
    ∙ (over_other src out next ms at t ts e put ∙ ap (λ (k : ℕ). whole_of src out ms at k (t ∷ ts)) (sym none))

pub over_begun : (src out made next : List ℕ) (ms after : List Mark) (at skip there left : ℕ) (t : Token) (ts : List Token) (f : LockForm) → skip ≡ 0
    → there ≡ t.to → left ≡ more_of f → first_form (whats (symbols src (t ∷ ts))) ≡ Some f → made ≡ out ++ slice_range src at t.from
    → ((rest : List ℕ) → next ++ rest ≡ made ++ form_text f rest)
    → ((rest : List Mark) → after ++ rest ≡ ms ++ form_mark f (length made) rest)
    → whole_of src next after there left ts ≡ whole_of src out ms at skip (t ∷ ts)
over_begun src out made next ms after at skip there left t ts f none to more e put text told =
    ap (λ (n : ℕ). whole_of src next after n left ts) to
    ∙ (ap (λ (k : ℕ). whole_of src next after t.to k ts) more
    ∙ (over_first src out made next ms after at t ts f e put text told ∙ ap (λ (k : ℕ). whole_of src out ms at k (t ∷ ts)) (sym none)))

-- ---- the token at an index

one_more : (i : ℕ) → suc i ≡ i + 1
one_more i = omega arith

pub at_front : (ts : List Token) (i : ℕ) (d : Token) → i < length ts → drop i ts ≡ slice_index_or ts i d ∷ drop (i + 1) ts
at_front ts i d less = drop-cons ts i d less ∙ ap (λ (k : ℕ). slice_index_or ts i d ∷ drop k ts) (one_more i)

pub rises_on : (at : ℕ) (ts : List Token) (i : ℕ) (d : Token) → i < length ts → Rising at (drop i ts) → Rising (slice_index_or ts i d).to (drop (i + 1) ts)
rises_on at ts i d less rises = (subst (λ (l : List Token). Rising at l) (at_front ts i d less) rises).2

pub said_is : (src : List ℕ) (ss : List SymbolInMemory) (ts : List Token) (i : ℕ) (d : Token) → i < length ts → symbols_seen ss ≡ symbols src ts
    → (said : List SymbolInMemory) → said ≡ drop i ss → symbols_seen said ≡ symbols src (slice_index_or ts i d ∷ drop (i + 1) ts)
said_is src ss ts i d less all said is =
    ap symbols_seen is ∙ (sym (drop-map symbol_seen i ss) ∙ (ap (drop i) all ∙ (drop-map (symbol_of src) i ts ∙ ap (symbols src) (at_front ts i d less))))

pub as_many : (src : List ℕ) (ss : List SymbolInMemory) (ts : List Token) → symbols_seen ss ≡ symbols src ts → length ss ≡ length ts
as_many src ss ts all = sym (length-map ss symbol_seen) ∙ (ap length all ∙ length-map ts (symbol_of src))
