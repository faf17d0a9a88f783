-- The code of a placed program whose names are correct keeps the limits of a listing, and is valid.
use Rattle.std.proofs.Common.{◌≡◌, ℕ, zero, suc, ◌+◌, ◌≤◌, true, List, [], ◌∷◌, length, Option, Some, None, slice_get, refl, sym, ap, ◌∙◌, subst, arith}
use Rattle.std.specs.Option.{option_map}
use Rattle.std.proofs.lemmas.List.{length-map}
use Rattle.std.proofs.lemmas.Option.{slice_get-map}
use Rattle.loft_base.specs.declared.ids.ModuleId.{ModuleId}
use Rattle.loft_tree.specs.declared.limits.TheConstants.{MAX_MODULES, MAX_NESTING}
use Rattle.loft_tree.specs.declared.heads.Place.{Place}
use Rattle.loft_tree.specs.declared.heads.Signature.{Signature}
use Rattle.loft_tree.specs.declared.heads.ClientOrder.{ClientOrder}
use Rattle.loft_tree.specs.declared.heads.ClientOrder.TheVariants as order
use Rattle.loft_tree.specs.declared.heads.Client.{Client}
use Rattle.loft_tree.specs.declared.heads.Heads.{Heads}
use Rattle.loft_tree.specs.Fits.{Each}
use Rattle.loft_tree.specs.NamedTree.{NamedModule, NamedProgram}
use Rattle.loft_tree.specs.NamedFits.{slots_of, SignatureHolds, BodyHolds, BodiesHold, NamedFits}
use Rattle.loft_tree.specs.Resolved.{Body, body_of, resolved_of}
use Rattle.loft_place.specs.Links.{IsPlaced}
use Rattle.loft_place.specs.Reaches.{IsModule}
use Rattle.loft_place.proofs.Declared.{module_goes, body_is_declared, start_fits, create_fits}
use Rattle.loft_code.specs.declared.limits.TheConstants.{MAX_OPERATIONS}
use Rattle.loft_code.specs.Operations.{End, Line}
use Rattle.loft_code.specs.Names.{has_place}
use Rattle.loft_code.specs.Fits.{StartFits, ClientOrderFits, ClientFits, HeadsKeep, LineFits, LinesFit, RawFits}
use Rattle.loft_code.specs.Valid.{module_error, Valid}
use Rattle.loft_sense.specs.Stands.{begin_of, begin_or_unlinked, leads}
use Rattle.loft_translation.specs.Compiled.{line, body_lines, module_lines, modules_from, compiled}
use Rattle.loft_translation.proofs.StepLemmas.{place_declared, each_at, BodyPasses, body_passes}
use Rattle.loft_translation.proofs.LineLemmas.{LinePasses, each_append, body_lines_pass, end_passes}
use Rattle.loft_translation.proofs.FlowLemmas.{body_and_end}
use Rattle.loft_translation.proofs.SizeLemmas.{module_few}
use Rattle.loft_translation.proofs.ValidLemmas.{module_valid}

-- ---- lists

each_from : {A : Type 0} (P : A → Type 0) (xs : List A) → ((k : ℕ) (x : A) → slice_get xs k ≡ Some x → P x) → Each P xs
each_from P [] all = tt
each_from P (x ∷ xs) all = (all 0 x refl, each_from P xs (λ k y at. all (suc k) y at))

each_map : {A : Type 0} (P Q : A → Type 0) (xs : List A) → ((x : A) → P x → Q x) → Each P xs → Each Q xs
each_map P Q [] f all = tt
each_map P Q (x ∷ xs) f all = (f x all.0, each_map P Q xs f all.1)

-- ---- what a program declares

order_fits : (n : NamedProgram) (client : ℕ) (c : Client) (number : ℕ) (o : ClientOrder) → NamedFits n → IsPlaced n → slice_get n.heads.clients client ≡ Some c → slice_get c.orders number ≡ Some o
    → ClientOrderFits n.heads o
order_fits n client c number (order.Create scheduler m arguments) fits placed at ordered = create_fits n client c number scheduler m arguments fits placed at ordered
order_fits n client c number (order.Control control thread scheduler) fits placed at ordered = tt
order_fits n client c number (order.Broadcast event value) fits placed at ordered = tt

heads_keep : (n : NamedProgram) → NamedFits n → IsPlaced n → HeadsKeep n.heads
heads_keep n fits placed = record {
  within = fits.heads.within;
  names = fits.names;
  starts_fit = each_from (StartFits n.heads) n.heads.starts (λ k t at. start_fits n k t fits placed at);
  clients_fit = each_from (ClientFits n.heads) n.heads.clients
      (λ k c at. each_from (ClientOrderFits n.heads) c.orders (λ j o ordered. order_fits n k c j o fits placed at ordered));
}

-- ---- modules

-- the body of a module passes, and goes from where the module begins to where it ends
pub record ModulePasses (h : Heads) (signature : Signature) (b : Body) : Type 0 where
  pub passes : BodyPasses h (slots_of signature) b 0 0 signature.begin
  pub begin : has_place h signature.begin ≡ true
  pub ends : leads h b signature.begin ≡ signature.end
  pub end : has_place h signature.end ≡ true
  pub few : length (body_and_end h b signature.begin) ≤ MAX_OPERATIONS

-- the body of a module that is declared
module_body : (h : Heads) (ms : List Signature) (xs : List NamedModule) (k : ℕ) (signature : Signature) → BodiesHold h ms xs → slice_get ms k ≡ Some signature
    → (x : NamedModule) × (slice_get xs k ≡ Some x) × BodyHolds h signature x.body
module_body h [] [] k signature hold at = absurd cc
module_body h [] (x ∷ xs) k signature hold at = absurd hold
module_body h (m ∷ ms) [] k signature hold at = absurd hold
module_body h (m ∷ ms) (x ∷ xs) zero signature hold at = let same : m ≡ signature = cc in (x, refl, subst (λ s. BodyHolds h s x.body) same hold.0)
module_body h (m ∷ ms) (x ∷ xs) (suc k) signature hold at = module_body h ms xs k signature hold.1 at

same_length : (h : Heads) (ms : List Signature) (xs : List NamedModule) → BodiesHold h ms xs → length xs ≡ length ms
same_length h [] [] hold = refl
same_length h [] (x ∷ xs) hold = absurd hold
same_length h (m ∷ ms) [] hold = absurd hold
same_length h (m ∷ ms) (x ∷ xs) hold = ap suc (same_length h ms xs hold.1)

module_passes : (n : NamedProgram) (m : ModuleId) (signature : Signature) (x : NamedModule) → NamedFits n → IsPlaced n → IsModule n m signature x → BodyHolds n.heads signature x.body
    → ModulePasses n.heads signature (body_of x.body)
module_passes n m signature x fits placed is body =
    let goes = module_goes n m signature x fits placed is in
    let holds : SignatureHolds n.heads signature = each_at (SignatureHolds n.heads) n.heads.modules m.0 signature fits.heads.within.modules is.head in
    let begin = place_declared n.heads signature.begin holds.begin in
    let all = body_passes n.heads (slots_of signature) fits.heads.within.modules x.body MAX_NESTING 0 0 signature.begin signature.end (omega arith) body.statements goes body.stops begin in
    record { passes = all.0; begin = begin; ends = all.1; end = all.2; few = module_few n.heads x.body signature.begin body.few_statements }

-- its lines, where the module is declared
lines_by : (h : Heads) (m : ModuleId) (b : Body) (p : Place) → begin_of h m ≡ p → module_lines h m b ≡ body_and_end h b p
lines_by h m b p is = ap (body_and_end h b) is

lines_of_module : (h : Heads) (m : ModuleId) (signature : Signature) (b : Body) → slice_get h.modules m.0 ≡ Some signature → module_lines h m b ≡ body_and_end h b signature.begin
lines_of_module h m signature b at = lines_by h m b signature.begin (ap begin_or_unlinked at)

-- the lines of the module with a number
modules_at : (h : Heads) (k j : ℕ) (bs : List Body) → slice_get (modules_from h k bs) j ≡ option_map (λ b. module_lines h (record { 0 = k + j }) b) (slice_get bs j)
modules_at h k j [] = refl
modules_at h k zero (b ∷ bs) = let same : k ≡ k + 0 = omega arith in ap (λ i. Some (module_lines h (record { 0 = i }) b)) same
modules_at h k (suc j) (b ∷ bs) =
    let same : k + 1 + j ≡ k + suc j = omega arith in
    modules_at h (k + 1) j bs ∙ ap (λ i. option_map (λ c. module_lines h (record { 0 = i }) c) (slice_get bs j)) same

modules_long : (h : Heads) (k : ℕ) (bs : List Body) → length (modules_from h k bs) ≡ length bs
modules_long h k [] = refl
modules_long h k (b ∷ bs) = ap suc (modules_long h (k + 1) bs)

-- the lines of a module of a program
program_lines : (n : NamedProgram) (k : ℕ) (x : NamedModule) → slice_get n.modules k ≡ Some x
    → slice_get (modules_from n.heads 0 (resolved_of n).bodies) k ≡ Some (module_lines n.heads (record { 0 = k }) (body_of x.body))
program_lines n k x at =
    let same : 0 + k ≡ k = omega arith in
    let body : slice_get (resolved_of n).bodies k ≡ Some (body_of x.body) = slice_get-map (λ (m : NamedModule). body_of m.body) n.modules k ∙ ap (option_map (λ (m : NamedModule). body_of m.body)) at in
    modules_at n.heads 0 k (resolved_of n).bodies ∙ ap (option_map (λ b. module_lines n.heads (record { 0 = 0 + k }) b)) body
    ∙ ap (λ i. Some (module_lines n.heads (record { 0 = i }) (body_of x.body))) same

-- the same where the module is declared
declared_lines : (n : NamedProgram) (m : ModuleId) (signature : Signature) (x : NamedModule) → slice_get n.heads.modules m.0 ≡ Some signature → slice_get n.modules m.0 ≡ Some x
    → slice_get (modules_from n.heads 0 (resolved_of n).bodies) m.0 ≡ Some (body_and_end n.heads (body_of x.body) signature.begin)
declared_lines n m signature x declared at = program_lines n m.0 x at ∙ ap (λ (ls : List Line). Some ls) (lines_of_module n.heads m signature (body_of x.body) declared)

-- ---- limits

pub few_modules : (n : NamedProgram) → NamedFits n → length n.modules ≤ MAX_MODULES
few_modules n fits = omega (arith, same_length n.heads n.heads.modules n.modules fits.bodies, fits.heads.within.few_modules)

module_lines_fit : (h : Heads) (signature : Signature) (b : Body) → ModulePasses h signature b → LinesFit (body_and_end h b signature.begin)
module_lines_fit h signature b all =
    let x = body_lines h b 0 0 signature.begin in
    let there = leads h b signature.begin in
    let last = end_passes h signature there (ap (has_place h) all.ends ∙ all.end) all.ends in
    let alone = each_append (LinePasses h signature) x (line there 0 End ∷ []) (body_lines_pass h signature b 0 0 0 signature.begin (omega arith) all.begin all.passes) (last, tt) in
    record { each = each_map (LinePasses h signature) LineFits (body_and_end h b signature.begin) (λ l passes. passes.fits) alone; few = all.few }

-- the module with this number passes
declared_passes : (n : NamedProgram) (m : ModuleId) (signature : Signature) → NamedFits n → IsPlaced n → slice_get n.heads.modules m.0 ≡ Some signature
    → (x : NamedModule) × (slice_get n.modules m.0 ≡ Some x) × ModulePasses n.heads signature (body_of x.body)
declared_passes n m signature fits placed at =
    let body = module_body n.heads n.heads.modules n.modules m.0 signature fits.bodies at in
    (body.0, body.1, module_passes n m signature body.0 fits placed (record { head = at; body = body.1 }) body.2)

some_of_map : {A B : Type 0} (f : A → B) (o : Option A) (y : B) → option_map f o ≡ Some y → (x : A) × (o ≡ Some x)
some_of_map f None y is = absurd cc
some_of_map f (Some x) y is = (x, refl)

-- lines that are found twice fit as well
same_fit : (o : Option (List Line)) (xs ys : List Line) → o ≡ Some xs → o ≡ Some ys → LinesFit xs → LinesFit ys
same_fit o xs ys at also fit = let same : xs ≡ ys = cc in subst LinesFit same fit

each_fits : (n : NamedProgram) (k : ℕ) (lines : List Line) → NamedFits n → IsPlaced n → slice_get (modules_from n.heads 0 (resolved_of n).bodies) k ≡ Some lines → LinesFit lines
each_fits n k lines fits placed at =
    let body = some_of_map _ (slice_get (resolved_of n).bodies k) lines (sym (modules_at n.heads 0 k (resolved_of n).bodies) ∙ at) in
    let x = some_of_map (λ (m : NamedModule). body_of m.body) (slice_get n.modules k) body.0 (sym (slice_get-map (λ (m : NamedModule). body_of m.body) n.modules k) ∙ body.1) in
    let m : ModuleId = record { 0 = k } in
    let declared = body_is_declared n m x.0 fits x.1 in
    let all = declared_passes n m declared.0 fits placed declared.1.head in
    let these : slice_get (modules_from n.heads 0 (resolved_of n).bodies) k ≡ Some (body_and_end n.heads (body_of all.0.body) declared.0.begin) =
    declared_lines n m declared.0 all.0 declared.1.head all.1 in
    same_fit (slice_get (modules_from n.heads 0 (resolved_of n).bodies) k) (body_and_end n.heads (body_of all.0.body) declared.0.begin) lines these at
    (module_lines_fit n.heads declared.0 (body_of all.0.body) all.2)

pub code_fits : (n : NamedProgram) → NamedFits n → IsPlaced n → RawFits (compiled (resolved_of n))
code_fits n fits placed = record {
  heads = heads_keep n fits placed;
  all_modules = modules_long n.heads 0 (resolved_of n).bodies ∙ length-map n.modules (λ m. body_of m.body) ∙ same_length n.heads n.heads.modules n.modules fits.bodies;
  each = each_from LinesFit (modules_from n.heads 0 (resolved_of n).bodies) (λ k lines at. each_fits n k lines fits placed at);
}

-- ---- errors

no_module_error : (n : NamedProgram) (m : ModuleId) (p : ℕ) (o : Option Signature) → NamedFits n → IsPlaced n → slice_get n.heads.modules m.0 ≡ o
    → module_error n.heads m o (slice_get (modules_from n.heads 0 (resolved_of n).bodies) m.0) p ≡ None
no_module_error n m p None fits placed at = refl
no_module_error n m p (Some signature) fits placed at =
    let all = declared_passes n m signature fits placed at in
    ap (λ (ls : Option (List Line)). module_error n.heads m (Some signature) ls p) (declared_lines n m signature all.0 at all.1)
    ∙ module_valid n.heads m signature (body_of all.0.body) all.2.passes all.2.begin all.2.ends all.2.end p

pub code_valid : (n : NamedProgram) → NamedFits n → IsPlaced n → Valid (compiled (resolved_of n))
code_valid n fits placed m p = no_module_error n m p (slice_get n.heads.modules m.0) fits placed refl
