-- The parts of the texts of ids, points, frames, threads and orders, where they are cut.
use Rattle.std.proofs.Common.{◌≡◌, ℕ, ◌<◌, ◌==◌, ℤ, Bool, true, false, List, [], ◌∷◌, ◌++◌, length, codes, Option, Some, None, Result, Ok, Err, IfOk, refl, sym, ap, subst, ◌∙◌, append-nil, arith}
use Rattle.std.specs.Fmt.{decimal, signed_decimal}
use Rattle.loft_base.specs.declared.ids.Maker.{Maker}
use Rattle.loft_base.specs.declared.ids.EventId.{EventId}
use Rattle.loft_base.specs.declared.ids.ModuleId.{ModuleId}
use Rattle.loft_base.specs.declared.ids.ThreadId.{ThreadId}
use Rattle.loft_base.specs.declared.ids.Value.{Value}
use Rattle.loft_tree.specs.Fits.{IfThere}
use Rattle.loft_tree.specs.declared.heads.Heads.{Heads}
use Rattle.loft_orders.specs.declared.thread.Wait.{Wait}
use Rattle.loft_orders.specs.declared.thread.Frame.{Frame}
use Rattle.loft_orders.specs.declared.thread.Thread.{Thread}
use Rattle.loft_orders.specs.declared.order.At.{At}
use Rattle.loft_orders.specs.declared.order.End.{End}
use Rattle.loft_orders.specs.declared.order.Order.TheVariants as order
use Rattle.loft_orders.specs.Text.{separated, separated_by, space, maker_name, id_text, value_text, module_name, event_name, at_text, end_text, wait_text, frame_text, thread_text, sent_value}
use Rattle.loft_order_lines.specs.Cut.{Lacks, IsCut}
use Rattle.loft_order_lines.specs.Texts.{OwnNames, IdHasText, NumberHasText, EventHasText, PointHasText, FrameHasText, ThreadHasText, CreateHasText}
use Rattle.loft_order_lines.proofs.Bytes.{lacks_class, lacks_decimal}
use Rattle.loft_order_lines.proofs.Cuts.{cut_found, cut_none}
use Rattle.loft_order_lines.proofs.NameLemmas.{name_bytes, event_is}
use Rattle.loft_order_lines.proofs.Texts.{blank_outside, bracket_outside, square_outside, maker_lacks, module_lacks, id_lacks, number_lacks, number_some, values_lack, counts_lack}
use Rattle.loft_lex.specs.Bytes.{is_name_byte}

pub id_parts : (h : Heads) → OwnNames h → (t : ThreadId) → IdHasText h t → (bytes f r : List ℕ) → IsCut 46 bytes f r → bytes ≡ id_text h t → (f ≡ maker_name h t.maker) × (r ≡ decimal t.seq)
id_parts h own t p bytes f r cut e = cut_found 46 bytes f r (maker_name h t.maker) (decimal t.seq) cut (maker_lacks 46 h own t p refl) e

pub point_parts : (h : Heads) → OwnNames h → (at : At) → PointHasText h at → (bytes f r : List ℕ) → IsCut 58 bytes f r → bytes ≡ at_text h at → (f ≡ module_name h at.module) × (r ≡ decimal at.stop)
point_parts h own at p bytes f r cut e = cut_found 58 bytes f r (module_name h at.module) (decimal at.stop) cut (module_lacks 58 h own at.module p.declared refl) e

-- ---- values of several parts

abbrev pub id_with : Maker → ℕ → ThreadId
id_with m n = record { maker = m; seq = n }

abbrev pub point_with : ModuleId → ℕ → At
point_with m n = record { «module» = m; stop = n }

abbrev pub frame_with : ModuleId → ℕ → List ℤ → List Value → Frame
frame_with m s c v = record { «module» = m; stop = s; counts = c; values = v }

abbrev pub thread_with : ThreadId → ℤ → ℤ → Wait → List Frame → Thread
thread_with i c m w fs = record { id = i; code = c; mask = m; wait = w; frames = fs }

-- ---- frames

pub record FrameParts (h : Heads) (f : Frame) (m s c v : List ℕ) : Type 0 where
  pub module_is : m ≡ module_name h f.module
  pub stop_is : s ≡ decimal f.stop
  pub counts_are : c ≡ separated signed_decimal f.counts
  pub values_are : v ≡ separated (value_text h) f.values

pub frame_parts : (h : Heads) → OwnNames h → (f : Frame) → FrameHasText h f → (bytes m s c v r1 r2 r3 r4 r5 none : List ℕ) → IsCut 58 bytes m r1 → IsCut 91 r1 s r2 → IsCut 93 r2 c r3 → IsCut 40 r3 none r4 → IsCut 41 r4 v r5
    → bytes ≡ frame_text h f → FrameParts h f m s c v
frame_parts h own f p bytes m s c v r1 r2 r3 r4 r5 none cut1 cut2 cut3 cut4 cut5 e =
    let values = separated (value_text h) f.values in
    let counts = separated signed_decimal f.counts in
    let a = cut_found 58 bytes m r1 (module_name h f.module) (decimal f.stop ++ 91 ∷ (counts ++ 93 ∷ 40 ∷ (values ++ 41 ∷ []))) cut1 (module_lacks 58 h own f.module p.declared refl) e in
    let b = cut_found 91 r1 s r2 (decimal f.stop) (counts ++ 93 ∷ 40 ∷ (values ++ 41 ∷ [])) cut2 (lacks_decimal 91 f.stop (omega (arith, p.stop)) refl) a.1 in
    let d = cut_found 93 r2 c r3 counts (40 ∷ (values ++ 41 ∷ [])) cut3 (counts_lack 93 square_outside refl f.counts p.counts) b.1 in
    let g = cut_found 40 r3 none r4 [] (values ++ 41 ∷ []) cut4 refl d.1 in
    let k = cut_found 41 r4 v r5 values [] cut5 (values_lack 41 bracket_outside refl h own f.values p.values) g.1 in
    record { module_is = a.0; stop_is = b.0; counts_are = d.0; values_are = k.0 }

-- ---- threads

pub record ThreadParts (h : Heads) (t : Thread) (i c m fs : List ℕ) : Type 0 where
  pub id_is : i ≡ id_text h t.id
  pub code_is : c ≡ signed_decimal t.code
  pub mask_is : m ≡ signed_decimal t.mask
  pub frames_are : fs ≡ separated_by space (frame_text h) t.frames

pub thread_parts : (h : Heads) → OwnNames h → (t : Thread) → ThreadHasText h t → (bytes i c m w fs r1 r2 r3 : List ℕ) → IsCut 32 bytes i r1 → IsCut 32 r1 c r2 → IsCut 32 r2 m r3 → IsCut 32 r3 w fs
    → bytes ≡ thread_text h t → ThreadParts h t i c m fs
thread_parts h own t p bytes i c m w fs r1 r2 r3 cut1 cut2 cut3 cut4 e =
    let frames = separated_by space (frame_text h) t.frames in
    let new : wait_text h t.wait ≡ codes "new" = ap (wait_text h) p.wait in
    let whole : bytes ≡ id_text h t.id ++ 32 ∷ (signed_decimal t.code ++ 32 ∷ (signed_decimal t.mask ++ 32 ∷ (codes "new" ++ 32 ∷ frames))) =
    e ∙ ap (λ (n : List ℕ). id_text h t.id ++ 32 ∷ (signed_decimal t.code ++ 32 ∷ (signed_decimal t.mask ++ 32 ∷ (n ++ 32 ∷ frames)))) new in
    let a = cut_found 32 bytes i r1 (id_text h t.id) (signed_decimal t.code ++ 32 ∷ (signed_decimal t.mask ++ 32 ∷ (codes "new" ++ 32 ∷ frames))) cut1 (id_lacks 32 blank_outside h own t.id p.id) whole in
    let b = cut_found 32 r1 c r2 (signed_decimal t.code) (signed_decimal t.mask ++ 32 ∷ (codes "new" ++ 32 ∷ frames)) cut2 (number_lacks 32 blank_outside t.code p.code) a.1 in
    let d = cut_found 32 r2 m r3 (signed_decimal t.mask) (codes "new" ++ 32 ∷ frames) cut3 (number_lacks 32 blank_outside t.mask p.mask) b.1 in
    let g = cut_found 32 r3 w fs (codes "new") frames cut4 refl d.1 in
    record { id_is = a.0; code_is = b.0; mask_is = d.0; frames_are = g.1 }

-- ---- orders

pub record CreateParts (h : Heads) (t : ThreadId) (m : ModuleId) (args : List Value) (i n v : List ℕ) : Type 0 where
  pub id_is : i ≡ id_text h t
  pub module_is : n ≡ module_name h m
  pub args_are : v ≡ separated (value_text h) args

pub create_parts : (h : Heads) → OwnNames h → (t : ThreadId) (m : ModuleId) (args : List Value) → CreateHasText h t m args → (bytes i n v r1 r2 r3 : List ℕ) → IsCut 32 bytes i r1 → IsCut 40 r1 n r2 → IsCut 41 r2 v r3
    → bytes ≡ id_text h t ++ (space ++ (module_name h m ++ (codes "(" ++ (separated (value_text h) args ++ codes ")")))) → CreateParts h t m args i n v
create_parts h own t m args p bytes i n v r1 r2 r3 cut1 cut2 cut3 e =
    let values = separated (value_text h) args in
    let a = cut_found 32 bytes i r1 (id_text h t) (module_name h m ++ 40 ∷ (values ++ 41 ∷ [])) cut1 (id_lacks 32 blank_outside h own t p.id) e in
    let b = cut_found 40 r1 n r2 (module_name h m) (values ++ 41 ∷ []) cut2 (module_lacks 40 h own m p.declared refl) a.1 in
    let d = cut_found 41 r2 v r3 values [] cut3 (values_lack 41 bracket_outside refl h own args p.each) b.1 in
    record { id_is = a.0; module_is = b.0; args_are = d.0 }

event_lacks : (h : Heads) → OwnNames h → (e : EventId) → EventHasText h e → Lacks 32 (event_name h e)
event_lacks h own e p = lacks_class is_name_byte 32 (event_name h e) refl (name_bytes (event_name h e) (event_is h own e p))

pub plain_broadcast : (h : Heads) → OwnNames h → (e : EventId) → EventHasText h e → (bytes f r : List ℕ) → IsCut 32 bytes f r → bytes ≡ event_name h e ++ sent_value None → (f ≡ event_name h e) × (r ≡ [])
plain_broadcast h own e p bytes f r cut is =
    let name : bytes ≡ event_name h e = is ∙ append-nil (event_name h e) in
    let parts = cut_none 32 bytes f r cut (subst (Lacks 32) (sym name) (event_lacks h own e p)) in
    (parts.0 ∙ name, parts.1)

pub valued_broadcast : (h : Heads) → OwnNames h → (e : EventId) (n : ℤ) → EventHasText h e → (bytes f r : List ℕ) → IsCut 32 bytes f r → bytes ≡ event_name h e ++ sent_value (Some n) → (f ≡ event_name h e) × (r ≡ signed_decimal n)
valued_broadcast h own e n p bytes f r cut is = cut_found 32 bytes f r (event_name h e) (signed_decimal n) cut (event_lacks h own e p) is

-- with a value or without, the event comes first
pub broadcast_event : (h : Heads) → OwnNames h → (e : EventId) (v : Option ℤ) → EventHasText h e → (bytes f r : List ℕ) → IsCut 32 bytes f r → bytes ≡ event_name h e ++ sent_value v → f ≡ event_name h e
broadcast_event h own e None p bytes f r cut is = (plain_broadcast h own e p bytes f r cut is).0
broadcast_event h own e (Some n) p bytes f r cut is = (valued_broadcast h own e n p bytes f r cut is).0

-- nothing comes after the event: there is no value
pub broadcast_plain : (h : Heads) → OwnNames h → (e : EventId) (v : Option ℤ) → EventHasText h e → IfThere NumberHasText v → (bytes f r : List ℕ) → IsCut 32 bytes f r → bytes ≡ event_name h e ++ sent_value v → length r ≡ 0 → None ≡ v
broadcast_plain h own e None p q bytes f r cut is none = refl
broadcast_plain h own e (Some n) p q bytes f r cut is none =
    absurd (let long : length r ≡ length (signed_decimal n) = ap length (valued_broadcast h own e n p bytes f r cut is).1 in omega (arith, long, none, number_some n q))

-- something comes after it: the value
pub record SentValue (v : Option ℤ) (r : List ℕ) : Type 0 where
  pub number : ℤ
  pub is : v ≡ Some number
  pub has : NumberHasText number
  pub text : r ≡ signed_decimal number

pub broadcast_value : (h : Heads) → OwnNames h → (e : EventId) (v : Option ℤ) → EventHasText h e → IfThere NumberHasText v → (bytes f r : List ℕ) → IsCut 32 bytes f r → bytes ≡ event_name h e ++ sent_value v → 0 < length r → SentValue v r
broadcast_value h own e None p q bytes f r cut is some =
    absurd (let none : length r ≡ 0 = ap length (plain_broadcast h own e p bytes f r cut is).1 in omega (arith, none, some))
broadcast_value h own e (Some n) p q bytes f r cut is some = record { number = n; is = refl; has = q; text = (valued_broadcast h own e n p bytes f r cut is).1 }

pub ended_parts : (h : Heads) → OwnNames h → (t : ThreadId) (e : End) → IdHasText h t → (bytes f r : List ℕ) → IsCut 32 bytes f r → bytes ≡ id_text h t ++ (space ++ end_text h e) → (f ≡ id_text h t) × (r ≡ end_text h e)
ended_parts h own t e p bytes f r cut is = cut_found 32 bytes f r (id_text h t) (end_text h e) cut (id_lacks 32 blank_outside h own t p) is

-- ---- put together again

pub same_id : (t : ThreadId) (m : Maker) (n : ℕ) → m ≡ t.maker → n ≡ t.seq → Some (id_with m n) ≡ Some t
same_id t m n e f = ap (λ (k : Maker). Some (id_with k n)) e ∙ ap (λ (k : ℕ). Some (id_with t.maker k)) f

pub same_point : (at : At) (m : ModuleId) (n : ℕ) → m ≡ at.module → n ≡ at.stop → Some (point_with m n) ≡ Some at
same_point at m n e f = ap (λ (k : ModuleId). Some (point_with k n)) e ∙ ap (λ (k : ℕ). Some (point_with at.module k)) f

pub same_frame : (f : Frame) (m : ModuleId) (s : ℕ) (c : List ℤ) (v : List Value) → m ≡ f.module → s ≡ f.stop → c ≡ f.counts → v ≡ f.values → Some (frame_with m s c v) ≡ Some f
same_frame f m s c v a b d e =
    ap (λ (k : ModuleId). Some (frame_with k s c v)) a ∙ ap (λ (k : ℕ). Some (frame_with f.module k c v)) b
    ∙ ap (λ (k : List ℤ). Some (frame_with f.module f.stop k v)) d ∙ ap (λ (k : List Value). Some (frame_with f.module f.stop f.counts k)) e

pub same_thread : (t : Thread) (i : ThreadId) (c m : ℤ) (w : Wait) (fs : List Frame) → i ≡ t.id → c ≡ t.code → m ≡ t.mask → w ≡ t.wait → fs ≡ t.frames → Some (thread_with i c m w fs) ≡ Some t
same_thread t i c m w fs a b d e f =
    ap (λ (k : ThreadId). Some (thread_with k c m w fs)) a ∙ ap (λ (k : ℤ). Some (thread_with t.id k m w fs)) b ∙ ap (λ (k : ℤ). Some (thread_with t.id t.code k w fs)) d
    ∙ ap (λ (k : Wait). Some (thread_with t.id t.code t.mask k fs)) e ∙ ap (λ (k : List Frame). Some (thread_with t.id t.code t.mask t.wait k)) f

pub same_create : (t u : ThreadId) (m l : ModuleId) (args brgs : List Value) → t ≡ u → m ≡ l → args ≡ brgs → Some (order.Create t m args) ≡ Some (order.Create u l brgs)
same_create t u m l args brgs a b d =
    ap (λ (k : ThreadId). Some (order.Create k m args)) a ∙ ap (λ (k : ModuleId). Some (order.Create u k args)) b ∙ ap (λ (k : List Value). Some (order.Create u l k)) d

pub same_broadcast : (e d : EventId) (v w : Option ℤ) → e ≡ d → v ≡ w → Some (order.Broadcast e v) ≡ Some (order.Broadcast d w)
same_broadcast e d v w a b = ap (λ (k : EventId). Some (order.Broadcast k v)) a ∙ ap (λ (k : Option ℤ). Some (order.Broadcast d k)) b

pub same_ended : (t u : ThreadId) (n k0 : End) → t ≡ u → n ≡ k0 → Some (order.Ended t n) ≡ Some (order.Ended u k0)
same_ended t u n k0 a b = ap (λ (k : ThreadId). Some (order.Ended k n)) a ∙ ap (λ (k : End). Some (order.Ended u k)) b

-- what was found is what is there
pub one_found : {A : Type 0} (r : Option A) (x y : A) → r ≡ Some y → r ≡ Some x → x ≡ y
one_found r x y e f = let g : Some y ≡ Some x = sym e ∙ f in let k : y ≡ x = cc in sym k

pub never_none : {A : Type 0} (r : Option A) (y : A) → r ≡ Some y → r ≡ None → ⊥
never_none r y e f = let g : Some y ≡ None = sym e ∙ f in cc

-- bytes that the test calls empty
pub empty_is : (bs : List ℕ) (t : Bool) → t ≡ (length bs == 0) → t ≡ true → length bs ≡ 0
empty_is bs t e f = let g : (length bs == 0) ≡ true = sym e ∙ f in grind (arith, g)

pub some_is : (bs : List ℕ) (t : Bool) → t ≡ (length bs == 0) → t ≡ false → 0 < length bs
some_is bs t e f = let g : (length bs == 0) ≡ false = sym e ∙ f in grind (arith, g)

pub if_done : {A E : Type 0} (r : Result A E) (W : Type 0) (made there : A) → IfOk r (λ x. W) → IfOk r (λ all. all ≡ made) → (W → made ≡ there) → IfOk r (λ found. found ≡ there)
if_done (Ok x) W made there w same is = same ∙ is w
if_done (Err e) W made there w same is = tt
