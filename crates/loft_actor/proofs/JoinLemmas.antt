-- Passes that come together.
use Rattle.std.proofs.Common.{◌≡◌, Bool, true, cond, ◌||◌, List, [], ◌∷◌, ◌++◌, map, refl, sym, ap, ◌∙◌, subst, append-nil, append_assoc}
use Rattle.std.specs.List.{All}
use mathlib.Core.List.{IsPrefix}
use Rattle.std.proofs.lemmas.List.{map-append}
use Rattle.std.proofs.lemmas.List.Elements.{All-nil, All-cons, All-head, All-tail, All-append, All-weaker}
use Rattle.atomic_table.specs.Seated.{TableId}
use Rattle.loft_code.specs.declared.raw.CodeProgram.{CodeProgram}
use Rattle.loft_orders.specs.declared.entry.Actor.{Actor}
use Rattle.loft_orders.specs.declared.entry.Entry.{Entry}
use Rattle.loft_baton.specs.declared.knows.Own.{Own}
use Rattle.loft_baton.specs.declared.knows.Knows.{Knows}
use Rattle.loft_baton.specs.PassValue.{PassValue}
use Rattle.loft_baton.specs.Knowing.{joined, own_of}
use Rattle.loft_seat.specs.Seats.{entries_of, IsSeat}
use Rattle.loft_actor.specs.Members.{IsGiver, Member, owns_of, Remembers, Joins}
use Rattle.loft_actor.proofs.ListLemmas.{all_front}

owns_push : (ms : List Member) (m : Member) → owns_of (ms ++ m ∷ []) ≡ owns_of ms ++ own_of m.who (entries_of m.seat) ∷ []
owns_push ms m = map-append (λ (t : Member). own_of t.who (entries_of t.seat)) ms (m ∷ [])

-- one more pass is joined
pub joins_more : (b : TableId) (x : CodeProgram) (v : PassValue) (ms : List Member) (w : PassValue) (m : Member) (p : PassValue) → Joins b v ms w → IsSeat b x m.who (entries_of m.seat) m.seat
    → p ≡ record { baton = b; knows = joined w.knows m.seat.pass.knows } → Joins b v (ms ++ m ∷ []) p
joins_more b x v ms w m p j seat is =
    let u : Knows = m.seat.pass.knows in
    let to : PassValue = record { baton = b; knows = joined w.knows u } in
    let keeps : (s : List Entry) → Remembers w s → Remembers to s =
    λ s k h seen olds.
    let P : List Entry → Type 0 = λ l. IsPrefix l h in
    let rest : All P (w.knows.olds ++ u.olds) = All-tail P u.seen (w.knows.olds ++ u.olds) (All-tail P w.knows.seen (u.seen ∷ w.knows.olds ++ u.olds) olds) in
    k h (All-head P w.knows.seen (u.seen ∷ w.knows.olds ++ u.olds) olds) (all_front P w.knows.olds u.olds rest) in
    let here : Remembers to u.seen =
    λ h seen olds.
    let P : List Entry → Type 0 = λ l. IsPrefix l h in
    All-head P u.seen (w.knows.olds ++ u.olds) (All-tail P w.knows.seen (u.seen ∷ w.knows.olds ++ u.olds) olds) in
    let gives : to.knows.gives ≡ true = ap (λ (c : Bool). c || u.gives) j.gives in
    let S : PassValue → Member → Type 0 = λ q t. Remembers q t.seat.pass.knows.seen in
    let now : Joins b v (ms ++ m ∷ []) to = record {
      baton = refl;
      idle = j.idle;
      gives = gives;
      given = ap (λ (c : Bool). cond c w.knows.given u.given) j.gives ∙ j.given;
      code = j.code;
      own = ap (λ (l : List Own). l ++ u.own) j.own ∙ ap (λ (l : List Own). (v.knows.own ++ owns_of ms) ++ l) seat.own ∙ append_assoc v.knows.own (owns_of ms) (own_of m.who (entries_of m.seat) ∷ [])
          ∙ ap (λ (l : List Own). v.knows.own ++ l) (sym (owns_push ms m));
      keeps = λ s k. keeps s (j.keeps s k);
      seen = All-append (S to) ms (m ∷ []) (All-weaker (S w) (S to) (λ t k. keeps t.seat.pass.knows.seen k) ms j.seen) (All-cons (S to) m [] here (All-nil (S to)));
    } in
    subst (Joins b v (ms ++ m ∷ [])) (sym is) now

-- none is joined yet
pub joins_none : (b : TableId) (x : CodeProgram) (given : List Actor) (p : PassValue) → IsGiver b x given p → Joins b p [] p
joins_none b x given p m = record {
  baton = m.baton;
  idle = m.idle;
  gives = m.gives;
  given = refl;
  code = refl;
  own = sym (append-nil p.knows.own);
  keeps = λ s k. k;
  seen = All-nil (λ (t : Member). Remembers p t.seat.pass.knows.seen);
}

pub joins_again : (b : TableId) (u : PassValue) (ms : List Member) (v : PassValue) → Joins b u ms v → Joins b v [] v
joins_again b u ms v j = record {
  baton = j.baton;
  idle = j.idle;
  gives = j.gives;
  given = refl;
  code = refl;
  own = sym (append-nil v.knows.own);
  keeps = λ s k. k;
  seen = All-nil (λ (t : Member). Remembers v t.seat.pass.knows.seen);
}

-- these are joined, and then those
pub joins_then : (b : TableId) (u : PassValue) (ms : List Member) (v : PassValue) (ns : List Member) (w : PassValue) → Joins b u ms v → Joins b v ns w → Joins b u (ms ++ ns) w
joins_then b u ms v ns w j k =
    let S : PassValue → Member → Type 0 = λ q t. Remembers q t.seat.pass.knows.seen in
    record {
      baton = k.baton;
      idle = k.idle;
      gives = k.gives;
      given = k.given ∙ j.given;
      code = k.code ∙ j.code;
      own = k.own ∙ ap (λ (l : List Own). l ++ owns_of ns) j.own ∙ append_assoc u.knows.own (owns_of ms) (owns_of ns)
          ∙ ap (λ (l : List Own). u.knows.own ++ l) (sym (map-append (λ (t : Member). own_of t.who (entries_of t.seat)) ms ns));
      keeps = λ s h. k.keeps s (j.keeps s h);
      seen = All-append (S w) ms ns (All-weaker (S v) (S w) (λ t h. k.keeps t.seat.pass.knows.seen h) ms j.seen) k.seen;
    }

-- ---- one more element

-- what one list shows of its elements another shows of its own, with one more
pub pushed : {A B C : Type 0} (f : A → C) (g : B → C) (es more : List A) (e : A) (vs : List B) (v : B) → more ≡ es ++ e ∷ [] → map f es ≡ map g vs → f e ≡ g v → map f more ≡ map g (vs ++ v ∷ [])
pushed f g es more e vs v is were here =
    ap (map f) is ∙ map-append f es (e ∷ []) ∙ ap (λ l. l ++ f e ∷ []) were ∙ ap (λ y. map g vs ++ y ∷ []) here ∙ sym (map-append g vs (v ∷ []))
