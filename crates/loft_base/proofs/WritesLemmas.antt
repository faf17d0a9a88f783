-- Texts written one after the other.
use Rattle.std.proofs.Common.{◌≡◌, ℕ, Bool, ◌+◌, ◌≤◌, min, List, [], ◌++◌, length, take, subst, Option, Some, None, Result, Ok, Err, refl, sym, ap, ◌∙◌, append_assoc, append-nil, length-append, arith}
use Rattle.std.proofs.lemmas.Grind.{common_steps}
use Rattle.std.proofs.Math.Seq.{take-append-add}
use Rattle.loft_base.specs.Outside.{appended, appended-append}
use Rattle.loft_base.specs.declared.writing.WriteError.{WriteError}
use Rattle.loft_base.specs.declared.writing.WriteError.TheVariants.{NoMemory}
use Rattle.loft_base.specs.Writing.{Writes}

-- nothing is appended
pub appended-nil : (known : Option (List ℕ)) → known ≡ appended known []
appended-nil None = refl
appended-nil (Some written) = grind (arith, common_steps)

-- a prefix of a prefix
pub take-min : (n : ℕ) (t rest : List ℕ) → take (min n (length t)) (t ++ rest) ≡ take n t
take-min n t rest = grind (arith, common_steps)

-- a prefix that goes on after the first list
pub take-past : (n : ℕ) (t rest : List ℕ) → take (length t + n) (t ++ rest) ≡ t ++ take n rest
take-past n t rest = take-append-add t rest n

-- nothing is written
pub Writes-nothing : (known : Option (List ℕ)) (faults room : ℕ) (lines : Bool) → Writes (Ok tt) known known faults faults room room lines lines []
Writes-nothing known faults room lines = record {
  ok = appended-nil known;
  failed = tt;
  cause = λ e. absurd cc;
  never_falls = omega arith;
  blamed = λ e. absurd cc;
  no_fault = λ _. refl;
  room_left = omega arith;
  by_lines = λ known. known;
}

-- out of memory for what is to be written
pub Writes-no_memory : (known : Option (List ℕ)) (faults room : ℕ) (lines : Bool) (text : List ℕ) → Writes (Err NoMemory) known known faults faults room room lines lines text
Writes-no_memory known faults room lines text = record {
  ok = tt;
  failed = (0, appended-nil known);
  cause = λ e. absurd cc;
  never_falls = omega arith;
  blamed = λ e. absurd cc;
  no_fault = λ _. refl;
  room_left = tt;
  by_lines = λ known. known;
}

-- a text that breaks off, as the beginning of a longer one
pub Writes-stops : {e : WriteError} {old new : Option (List ℕ)} {f g p q : ℕ} {i j : Bool} {t : List ℕ} (rest : List ℕ) → Writes (Err e) old new f g p q i j t → Writes (Err e) old new f g p q i j (t ++ rest)
Writes-stops {old = old} {t = t} rest w = record {
  ok = tt;
  failed = (min w.failed.0 (length t), w.failed.1 ∙ ap (appended old) (sym (take-min w.failed.0 t rest)));
  cause = w.cause;
  never_falls = w.never_falls;
  blamed = λ e. omega (arith, w.blamed e, length-append t rest);
  no_fault = λ fits. w.no_fault (omega (arith, fits, length-append t rest));
  room_left = tt;
  by_lines = w.by_lines;
}

-- the room that is left after both texts
room_then : (p q n : ℕ) (t u : List ℕ) → p ≤ q + length t → q ≤ n + length u → p ≤ n + length (t ++ u)
room_then p q n t u first second = omega (arith, first, second, length-append t u)

-- a text and then another
pub Writes-then : {r : Result (Unit {0}) WriteError} {a b c : Option (List ℕ)} {f g h p q n : ℕ} {i j k : Bool} {t u : List ℕ} → Writes (Ok tt) a b f g p q i j t → Writes r b c g h q n j k u → Writes r a c f h p n i k (t ++ u)
Writes-then {r = Ok x} {a = a} {t = t} {u = u} first second = record {
  ok = second.ok ∙ ap (λ known. appended known u) first.ok ∙ appended-append a t u;
  failed = tt;
  cause = λ e. absurd cc;
  never_falls = omega arith;
  blamed = λ e. absurd cc;
  no_fault = λ fits. second.no_fault (omega (arith, fits, first.room_left, length-append t u)) ∙ first.no_fault (omega (arith, fits, length-append t u));
  room_left = room_then _ _ _ t u first.room_left second.room_left;
  by_lines = λ known. second.by_lines (first.by_lines known);
}
Writes-then {r = Err e} {a = a} {t = t} {u = u} first second = record {
  ok = tt;
  failed = (length t + second.failed.0, second.failed.1 ∙ ap (λ known. appended known (take second.failed.0 u)) first.ok ∙ appended-append a t (take second.failed.0 u) ∙ ap (appended a) (sym (take-past second.failed.0 t u)));
  cause = λ e below. omega (arith, second.cause e below);
  never_falls = omega arith;
  blamed = λ e. omega (arith, second.blamed e, first.room_left, length-append t u);
  no_fault = λ fits. second.no_fault (omega (arith, fits, first.room_left, length-append t u)) ∙ first.no_fault (omega (arith, fits, length-append t u));
  room_left = tt;
  by_lines = λ known. second.by_lines (first.by_lines known);
}

-- A text of which a prefix is written, and this rest isn't yet.
pub record Going (old now : Option (List ℕ)) (before here room left : ℕ) (lines still : Bool) (rest whole : List ℕ) : Type 0 where
  pub done : List ℕ
  pub writes : Writes (Ok tt) old now before here room left lines still done
  pub all : whole ≡ done ++ rest

-- nothing is written yet
pub begins : (known : Option (List ℕ)) (faults room : ℕ) (lines : Bool) (whole : List ℕ) → Going known known faults faults room room lines lines whole whole
begins known faults room lines whole = record { done = []; writes = Writes-nothing known faults room lines; all = refl }

-- the next part is written
pub goes_on : {a b c : Option (List ℕ)} {f g h p q n : ℕ} {i j k : Bool} {t whole : List ℕ} (rest : List ℕ) → Writes (Ok tt) b c g h q n j k t → Going a b f g p q i j (t ++ rest) whole → Going a c f h p n i k rest whole
goes_on {t = t} rest w go = record {
  done = go.done ++ t;
  writes = Writes-then go.writes w;
  all = go.all ∙ sym (append_assoc go.done t rest);
}

-- the rest in another form
pub rest_is : {a b : Option (List ℕ)} {f g p q : ℕ} {i j : Bool} {r rest whole : List ℕ} → r ≡ rest → Going a b f g p q i j r whole → Going a b f g p q i j rest whole
rest_is e go = record { done = go.done; writes = go.writes; all = go.all ∙ ap (λ x. go.done ++ x) e }

-- the next part breaks off
pub fails : {r : Result (Unit {0}) WriteError} {e : WriteError} {a b c : Option (List ℕ)} {f g h p q n : ℕ} {i j k : Bool} {t whole : List ℕ} (rest : List ℕ) → r ≡ Err e → Writes (Err e) b c g h q n j k t → Going a b f g p q i j (t ++ rest) whole → Writes r a c f h p n i k whole
fails {e = e} {a = a} {c = c} {f = f} {h = h} {p = p} {n = n} {i = i} {k = k} {t = t} {whole = whole} rest is w go =
    let P : List ℕ → Type 0 = λ text. Writes (Err e) a c f h p n i k text in
    let Q : Result (Unit {0}) WriteError → Type 0 = λ r. Writes r a c f h p n i k whole in
    subst Q (sym is) (subst P (sym go.all) (Writes-then go.writes (Writes-stops rest w)))

-- out of memory for the next part
pub lacks_memory : {r : Result (Unit {0}) WriteError} {a b : Option (List ℕ)} {f g p q : ℕ} {i j : Bool} {rest whole : List ℕ} → r ≡ Err NoMemory → Going a b f g p q i j rest whole → Writes r a b f g p q i j whole
lacks_memory {a = a} {b = b} {f = f} {g = g} {p = p} {q = q} {i = i} {j = j} {rest = rest} {whole = whole} is go =
    let P : List ℕ → Type 0 = λ text. Writes (Err NoMemory) a b f g p q i j text in
    let Q : Result (Unit {0}) WriteError → Type 0 = λ r. Writes r a b f g p q i j whole in
    subst Q (sym is) (subst P (sym go.all) (Writes-then go.writes (Writes-no_memory b g q j rest)))

-- the last part is written, or breaks off
pub closes : {r : Result (Unit {0}) WriteError} {a b c : Option (List ℕ)} {f g h p q n : ℕ} {i j k : Bool} {t whole : List ℕ} → Writes r b c g h q n j k t → Going a b f g p q i j t whole → Writes r a c f h p n i k whole
closes {r = r} {a = a} {c = c} {f = f} {h = h} {p = p} {n = n} {i = i} {k = k} w go =
    let P : List ℕ → Type 0 = λ text. Writes r a c f h p n i k text in
    subst P (sym go.all) (Writes-then go.writes w)

-- no part is left
pub ends_here : {a b : Option (List ℕ)} {f g p q : ℕ} {i j : Bool} {whole : List ℕ} → Going a b f g p q i j [] whole → Writes (Ok tt) a b f g p q i j whole
ends_here {a = a} {b = b} {f = f} {g = g} {p = p} {q = q} {i = i} {j = j} go =
    let P : List ℕ → Type 0 = λ text. Writes (Ok tt) a b f g p q i j text in
    subst P (sym (go.all ∙ append-nil go.done)) go.writes
