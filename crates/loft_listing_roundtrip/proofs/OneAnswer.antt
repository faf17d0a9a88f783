-- A text is a listing of at most one code, or has one faulty line, and never both.
use Rattle.std.proofs.Common.{◌≡◌, ℕ, inl, inr, List, [], ◌∷◌, sym, subst, ap, ◌∙◌, arith}
use Rattle.std.specs.List.{Contains}
use Rattle.loft_code.specs.Operations.{Automata}
use Rattle.loft_listing_draft.specs.Drafts.{Draft}
use Rattle.loft_listing_laws.proofs.OneDraft.{never_both, one_draft, one_stop}
use Rattle.loft_listing_names.specs.Wrong.{IsLeast, wrong_offsets}
use Rattle.loft_listing_reader.specs.Lists.{LineFault, Lists, OffsetFault, line_number}
use Rattle.loft_listing_reader.specs.Numbered.{numbered}

one_least : (ns : List ℕ) (m n : ℕ) → IsLeast m ns → IsLeast n ns → m ≡ n
one_least ns m n one other =
    let first = one.least n other.there in
    let second = other.least m one.there in
    omega arith

none_there : (n : ℕ) → Contains [] n → ⊥
none_there n (k, less, is) = absurd (omega arith)

pub one_code : (text : List ℕ) (a c : Automata) → Lists text a → Lists text c → a ≡ c
one_code text a c (d, one) (e, other) = one.numbers ∙ ap numbered (one_draft text d e one.said other.said) ∙ sym other.numbers

one_offset : (text : List ℕ) (m n : ℕ) → OffsetFault text m → OffsetFault text n → m ≡ n
one_offset text m n (inl (d, said, least)) (inl (e, also, other)) =
    one_least (wrong_offsets e) m n (subst (λ (x : Draft). IsLeast m (wrong_offsets x)) (one_draft text d e said also) least) other
one_offset text m n (inl (d, said, least)) (inr (e, k, stops, other)) = absurd (never_both text d e k said stops)
one_offset text m n (inr (d, j, stops, least)) (inl (e, also, other)) = absurd (never_both text e d j also stops)
one_offset text m n (inr (d, j, stops, least)) (inr (e, k, also, other)) =
    let same = one_stop text d e j k stops also in
    one_least (k ∷ wrong_offsets e) m n (subst (λ (x : Draft). IsLeast m (k ∷ wrong_offsets x)) same.0 (subst (λ (x : ℕ). IsLeast m (x ∷ wrong_offsets d)) same.1 least)) other

pub one_fault : (text : List ℕ) (m n : ℕ) → LineFault text m → LineFault text n → m ≡ n
one_fault text m n (j, one, line) (k, other, also) = line ∙ ap (line_number text) (one_offset text j k one other) ∙ sym also

never_wrong : (text : List ℕ) (c : Automata) (n : ℕ) → Lists text c → OffsetFault text n → ⊥
never_wrong text c n (d, one) (inl (e, also, least)) =
    none_there n (subst (λ (ls : List ℕ). Contains ls n) one.right (subst (λ (x : Draft). Contains (wrong_offsets x) n) (sym (one_draft text d e one.said also)) least.there))
never_wrong text c n (d, one) (inr (e, k, stops, least)) = never_both text d e k one.said stops

pub never_faulty : (text : List ℕ) (c : Automata) (n : ℕ) → Lists text c → LineFault text n → ⊥
never_faulty text c n lists (k, one, line) = never_wrong text c k lists one
