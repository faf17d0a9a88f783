-- Frames in memory, the last of which is the innermost.
use Rattle.std.proofs.Common.{◌≡◌, List, [], ◌∷◌, ◌++◌, sym, ap, ◌∙◌, length, drop, get_or, ◌<◌, append_assoc, arith}
use Rattle.std.specs.Prelude.{reverse, map}
use Rattle.std.proofs.lemmas.List.{reverse-append, reverse-reverse}
use Rattle.loft_sense.specs.Tree.{Work}
use Rattle.loft_sense.specs.Run.{Active, Control, frame_of}
use Rattle.loft_walk.specs.declared.running.Running.{Running}
use Rattle.loft_effect.proofs.Runs.{reverse-map}
use Rattle.loft_walk.specs.Frames.{active, actives}

pub actives-push : (rs : List Running) (r : Running) → actives (rs ++ r ∷ []) ≡ active r ∷ actives rs
actives-push rs r = ap (map active) (reverse-append rs (r ∷ []))

-- the frames of a thread that stands
pub frames_kept : (c : Control (List Work)) (rs : List Running) → map (frame_of c) (map active rs) ≡ reverse (map (frame_of c) (actives rs))
frames_kept c rs =
    sym (reverse-map (frame_of c) (actives rs)
    ∙ ap (map (frame_of c)) (reverse-map active (reverse rs) ∙ ap (map active) (reverse-reverse rs)))

-- the frames of a thread that goes on
pub actives_woken : {A : Type 0} (f : A → Active (List Work)) (fs : List A) (rs : List Running) → map active rs ≡ map f fs → actives rs ≡ map f (reverse fs)
actives_woken f fs rs e = sym (reverse-map active rs) ∙ (ap reverse e ∙ reverse-map f fs)

-- the first of a list is taken off
pub first_off : {A B C : Type 0} (f : B → C) (g : A → B) (xs rest : List A) (x : A) (done more : List C) (y : C) → 0 < length xs → rest ≡ drop 1 xs → x ≡ get_or xs 0 x → more ≡ done ++ y ∷ [] → y ≡ f (g x) → done ++ map f (map g xs) ≡ more ++ map f (map g rest)
first_off f g [] rest x done more y h d e m k = absurd (omega arith)
first_off f g (a ∷ xs) rest x done more y h d e m k =
    ap (λ b. done ++ (b ∷ map f (map g xs))) (ap (λ z. f (g z)) (sym e) ∙ sym k) ∙ (sym (append_assoc done (y ∷ []) (map f (map g xs))) ∙ (ap (λ l. l ++ map f (map g xs)) (sym m) ∙ ap (λ l. more ++ map f (map g l)) (sym d)))
