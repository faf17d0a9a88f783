-- The words of orders, ends and marks, and what comes after them.
use Rattle.std.proofs.Common.{◌≡◌, ℕ, ℤ, List, [], ◌∷◌, ◌++◌, codes, Option, Some, None, refl, sym, ap, subst, ◌∙◌}
use Rattle.loft_base.specs.declared.ids.EventId.{EventId}
use Rattle.loft_base.specs.declared.ids.ModuleId.{ModuleId}
use Rattle.loft_base.specs.declared.ids.ThreadId.{ThreadId}
use Rattle.loft_base.specs.declared.ids.Value.{Value}
use Rattle.loft_tree.specs.declared.heads.Heads.{Heads}
use Rattle.loft_orders.specs.declared.order.At.{At}
use Rattle.loft_report_shape.specs.Word.{spelling, word_of}
use Rattle.loft_report_shape.specs.declared.word.Word.{Word}
use Rattle.loft_report_shape.specs.declared.word.Word.TheVariants as word
use Rattle.loft_orders.specs.declared.order.End.{End}
use Rattle.loft_orders.specs.declared.order.End.TheVariants as end
use Rattle.loft_orders.specs.declared.order.Order.{Order}
use Rattle.loft_orders.specs.declared.order.Order.TheVariants as order
use Rattle.loft_orders.specs.declared.order.Mark.{Mark}
use Rattle.loft_orders.specs.declared.order.Mark.TheVariants as mark
use Rattle.loft_orders.specs.Text.{end_text, order_text, id_text, at_text}
use Rattle.loft_orders.specs.Lines.{mark_word}
use Rattle.loft_order_lines.specs.Cut.{Lacks, IsCut}
use Rattle.loft_order_lines.specs.Words.{word_of_mark, word_of_order, rest_of_order, word_of_end, point_of_end, plain_of, point_in, thread_in}
use Rattle.loft_order_lines.specs.Texts.{IdHasText, PointHasText, EndHasText, OrderHasText}
use Rattle.loft_order_lines.proofs.Cuts.{cut_found, cut_none}

-- each of the words is read as itself, and has no blank
pub order_word : (o : Order) → word_of (spelling (word_of_order o)) ≡ Some (word_of_order o)
unfolding word_of
order_word (order.Create t m args) = refl
order_word (order.Arrive t) = refl
order_word (order.Stop t) = refl
order_word (order.Suspend t) = refl
order_word (order.Resume t) = refl
order_word (order.Broadcast e v) = refl
order_word (order.Ended t e) = refl

pub end_word : (e : End) → word_of (spelling (word_of_end e)) ≡ Some (word_of_end e)
unfolding word_of
end_word end.Done = refl
end_word end.Stopped = refl
end_word end.Full = refl
end_word (end.Div at) = refl
end_word (end.Deep at) = refl
end_word (end.Over at) = refl
end_word (end.Flood at) = refl

pub mark_spelled : (m : Mark) → word_of (spelling (word_of_mark m)) ≡ Some (word_of_mark m)
unfolding word_of
mark_spelled mark.Done = refl
mark_spelled mark.Void = refl
mark_spelled mark.Full = refl

-- ---- orders

order_split : (h : Heads) (o : Order) → order_text h o ≡ spelling (word_of_order o) ++ 32 ∷ rest_of_order h o
order_split h (order.Create t m args) = refl
order_split h (order.Arrive t) = refl
order_split h (order.Stop t) = refl
order_split h (order.Suspend t) = refl
order_split h (order.Resume t) = refl
order_split h (order.Broadcast e v) = refl
order_split h (order.Ended t e) = refl

order_lacks : (o : Order) → Lacks 32 (spelling (word_of_order o))
order_lacks (order.Create t m args) = refl
order_lacks (order.Arrive t) = refl
order_lacks (order.Stop t) = refl
order_lacks (order.Suspend t) = refl
order_lacks (order.Resume t) = refl
order_lacks (order.Broadcast e v) = refl
order_lacks (order.Ended t e) = refl

-- an order's text is cut after its word
pub order_cut : (h : Heads) (o : Order) (bytes f r : List ℕ) → IsCut 32 bytes f r → bytes ≡ order_text h o → (word_of f ≡ Some (word_of_order o)) × (r ≡ rest_of_order h o)
order_cut h o bytes f r cut e =
    let parts = cut_found 32 bytes f r (spelling (word_of_order o)) (rest_of_order h o) cut (order_lacks o) (e ∙ order_split h o) in
    (ap word_of parts.0 ∙ order_word o, parts.1)

-- ---- lines

mark_split : (m : Mark) (text : List ℕ) → mark_word m ++ text ≡ spelling (word_of_mark m) ++ 32 ∷ text
mark_split mark.Done text = refl
mark_split mark.Void text = refl
mark_split mark.Full text = refl

mark_lacks : (m : Mark) → Lacks 32 (spelling (word_of_mark m))
mark_lacks mark.Done = refl
mark_lacks mark.Void = refl
mark_lacks mark.Full = refl

-- a line is cut after its mark
pub line_cut : (m : Mark) (text bytes f r : List ℕ) → IsCut 32 bytes f r → bytes ≡ mark_word m ++ text → (f ≡ spelling (word_of_mark m)) × (r ≡ text)
line_cut m text bytes f r cut e = cut_found 32 bytes f r (spelling (word_of_mark m)) text cut (mark_lacks m) (e ∙ mark_split m text)

pub mark_is : (m : Mark) (w : Word) (bytes : List ℕ) → word_of bytes ≡ Some w → bytes ≡ spelling (word_of_mark m) → word_of_mark m ≡ w
mark_is m w bytes is e = let f : Some (word_of_mark m) ≡ Some w = sym (mark_spelled m) ∙ ap word_of (sym e) ∙ is in cc

-- ---- ends

-- an end without a point is its word
no_point : (word bytes f r : List ℕ) → IsCut 32 bytes f r → Lacks 32 word → bytes ≡ word → (f ≡ word) × (r ≡ [])
no_point word bytes f r cut lack e = let p = cut_none 32 bytes f r cut (subst (Lacks 32) (sym e) lack) in (p.0 ∙ e, p.1)

end_cut_cases : (h : Heads) (e : End) (bytes f r : List ℕ) → IsCut 32 bytes f r → bytes ≡ end_text h e → (f ≡ spelling (word_of_end e)) × (r ≡ point_of_end h e)
end_cut_cases h end.Done bytes f r cut e = no_point (codes "done") bytes f r cut refl e
end_cut_cases h end.Stopped bytes f r cut e = no_point (codes "stopped") bytes f r cut refl e
end_cut_cases h end.Full bytes f r cut e = no_point (codes "full") bytes f r cut refl e
end_cut_cases h (end.Div at) bytes f r cut e = cut_found 32 bytes f r (codes "div") (point_of_end h (end.Div at)) cut refl e
end_cut_cases h (end.Deep at) bytes f r cut e = cut_found 32 bytes f r (codes "deep") (point_of_end h (end.Deep at)) cut refl e
end_cut_cases h (end.Over at) bytes f r cut e = cut_found 32 bytes f r (codes "over") (point_of_end h (end.Over at)) cut refl e
end_cut_cases h (end.Flood at) bytes f r cut e = cut_found 32 bytes f r (codes "flood") (point_of_end h (end.Flood at)) cut refl e

-- an end's text is cut after its word
pub end_cut : (h : Heads) (e : End) (bytes f r : List ℕ) → IsCut 32 bytes f r → bytes ≡ end_text h e → (word_of f ≡ Some (word_of_end e)) × (r ≡ point_of_end h e)
end_cut h e bytes f r cut same = let parts = end_cut_cases h e bytes f r cut same in (ap word_of parts.0 ∙ end_word e, parts.1)

-- ---- which order, end or mark it is, by its word

-- the word that was found is the one that is there
pub arm : (u a x : Word) (found read : Option Word) → found ≡ read → read ≡ Some u → found ≡ Some x → x ≡ a → u ≡ a
arm u a x found read e f g h = let same : Some u ≡ Some x = sym f ∙ sym e ∙ g in let k : u ≡ x = cc in k ∙ h

pub create_only : (P : Order → Type 0) → ((t : ThreadId) (m : ModuleId) (args : List Value) → P (order.Create t m args)) → (o : Order) → word_of_order o ≡ word.Create → P o
create_only P is (order.Create t m args) e = is t m args
create_only P is (order.Arrive t) e = absurd cc
create_only P is (order.Stop t) e = absurd cc
create_only P is (order.Suspend t) e = absurd cc
create_only P is (order.Resume t) e = absurd cc
create_only P is (order.Broadcast b v) e = absurd cc
create_only P is (order.Ended t n) e = absurd cc

pub broadcast_only : (P : Order → Type 0) → ((e : EventId) (v : Option ℤ) → P (order.Broadcast e v)) → (o : Order) → word_of_order o ≡ word.Broadcast → P o
broadcast_only P is (order.Create t m args) e = absurd cc
broadcast_only P is (order.Arrive t) e = absurd cc
broadcast_only P is (order.Stop t) e = absurd cc
broadcast_only P is (order.Suspend t) e = absurd cc
broadcast_only P is (order.Resume t) e = absurd cc
broadcast_only P is (order.Broadcast b v) e = is b v
broadcast_only P is (order.Ended t n) e = absurd cc

pub ended_only : (P : Order → Type 0) → ((t : ThreadId) (e : End) → P (order.Ended t e)) → (o : Order) → word_of_order o ≡ word.Ended → P o
ended_only P is (order.Create t m args) e = absurd cc
ended_only P is (order.Arrive t) e = absurd cc
ended_only P is (order.Stop t) e = absurd cc
ended_only P is (order.Suspend t) e = absurd cc
ended_only P is (order.Resume t) e = absurd cc
ended_only P is (order.Broadcast b v) e = absurd cc
ended_only P is (order.Ended t n) e = is t n

-- an order of another word has a thread alone
pub record Control (h : Heads) (o : Order) : Type 0 where
  pub thread : ThreadId
  pub in_it : thread_in o ≡ Some thread
  pub rest : rest_of_order h o ≡ id_text h thread
  pub has : OrderHasText h o → IdHasText h thread

pub control_only : (h : Heads) (o : Order) → (word_of_order o ≡ word.Create → ⊥) → (word_of_order o ≡ word.Arrive → ⊥) → (word_of_order o ≡ word.Broadcast → ⊥) → (word_of_order o ≡ word.Ended → ⊥) → Control h o
control_only h (order.Create t m args) a b c d = absurd (a refl)
control_only h (order.Arrive t) a b c d = absurd (b refl)
control_only h (order.Stop t) a b c d = record { thread = t; in_it = refl; rest = refl; has = λ p. p }
control_only h (order.Suspend t) a b c d = record { thread = t; in_it = refl; rest = refl; has = λ p. p }
control_only h (order.Resume t) a b c d = record { thread = t; in_it = refl; rest = refl; has = λ p. p }
control_only h (order.Broadcast e v) a b c d = absurd (c refl)
control_only h (order.Ended t e) a b c d = absurd (d refl)

-- a plain end is itself
pub plain_same : (e k : End) → plain_of e ≡ Some k → k ≡ e
plain_same end.Done k is = let f : end.Done ≡ k = cc in sym f
plain_same end.Stopped k is = let f : end.Stopped ≡ k = cc in sym f
plain_same end.Full k is = let f : end.Full ≡ k = cc in sym f
plain_same (end.Div at) k is = absurd cc
plain_same (end.Deep at) k is = absurd cc
plain_same (end.Over at) k is = absurd cc
plain_same (end.Flood at) k is = absurd cc

-- another end has a point
pub record Fault (h : Heads) (e : End) : Type 0 where
  pub at : At
  pub in_it : point_in e ≡ Some at
  pub text : point_of_end h e ≡ at_text h at
  pub has : EndHasText h e → PointHasText h at

pub fault_only : (h : Heads) (e : End) → plain_of e ≡ None → Fault h e
fault_only h end.Done is = absurd cc
fault_only h end.Stopped is = absurd cc
fault_only h end.Full is = absurd cc
fault_only h (end.Div at) is = record { at = at; in_it = refl; text = refl; has = λ p. p }
fault_only h (end.Deep at) is = record { at = at; in_it = refl; text = refl; has = λ p. p }
fault_only h (end.Over at) is = record { at = at; in_it = refl; text = refl; has = λ p. p }
fault_only h (end.Flood at) is = record { at = at; in_it = refl; text = refl; has = λ p. p }

pub mark_done : (m : Mark) → word_of_mark m ≡ word.In → mark.Done ≡ m
mark_done mark.Done e = refl
mark_done mark.Void e = absurd cc
mark_done mark.Full e = absurd cc

pub mark_void : (m : Mark) → word_of_mark m ≡ word.Void → mark.Void ≡ m
mark_void mark.Done e = absurd cc
mark_void mark.Void e = refl
mark_void mark.Full e = absurd cc

pub mark_full : (m : Mark) → word_of_mark m ≡ word.Full → mark.Full ≡ m
mark_full mark.Done e = absurd cc
mark_full mark.Void e = absurd cc
mark_full mark.Full e = refl

pub no_mark : (m : Mark) → (word_of_mark m ≡ word.In → ⊥) → (word_of_mark m ≡ word.Void → ⊥) → (word_of_mark m ≡ word.Full → ⊥) → ⊥
no_mark mark.Done a b c = a refl
no_mark mark.Void a b c = b refl
no_mark mark.Full a b c = c refl
