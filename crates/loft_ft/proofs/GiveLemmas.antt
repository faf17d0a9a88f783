-- What one call means to its caller's pass.
use Rattle.std.proofs.Common.{◌≡◌, ◌⊎◌, inl, inr, ℕ, ◌+◌, ◌-◌, ◌<◌, ◌≤◌, arith, Bool, true, false, cond, ◌||◌, List, [], ◌∷◌, ◌++◌, length, refl, sym, ap, ap₂, ◌∙◌, subst, append_assoc, append-nil, Result, Ok, Err, IfOk, OnOk, OnErr, Option, Some, None}
use Rattle.std.specs.Prelude.{slice_get}
use Rattle.std.specs.List.{All}
use Rattle.std.proofs.lemmas.List.{length-append, append_cancel_left}
use Rattle.std.proofs.lemmas.List.Elements.{All-nil, All-cons, All-head, filter_passes}
use Rattle.std.proofs.lemmas.List.Prefix.{front_rest}
use Rattle.std.proofs.lemmas.Option.{slice_get-get_or}
use Rattle.std.proofs.Math.Seq.{get_or-append_seam}
use Rattle.atomic_table.specs.Seated.{TableId}
use Rattle.loft_base.specs.declared.options.RunOptions.{RunOptions}
use Rattle.loft_base.specs.declared.ids.SchedId.{SchedId}
use Rattle.loft_base.specs.declared.ids.ThreadId.{ThreadId}
use Rattle.loft_tree.specs.declared.heads.Heads.{Heads}
use Rattle.loft_code.specs.View.{automata_of}
use Rattle.loft_code.specs.declared.raw.CodeProgram.{CodeProgram}
use Rattle.loft_orders.specs.declared.entry.Actor.{Actor}
use Rattle.loft_orders.specs.declared.entry.Actor.TheVariants.{Client}
use Rattle.loft_orders.specs.declared.entry.Entry.{Entry}
use Rattle.loft_orders.specs.declared.entry.Entry.TheVariants as entry
use Rattle.loft_orders.specs.declared.order.Sent.{Sent}
use Rattle.loft_orders.specs.declared.order.To.TheVariants as to
use Rattle.loft_sense.specs.Machine.{Code}
use Rattle.loft_history.specs.Clients.{made_by}
use Rattle.loft_history.specs.History.{sent_in, creates}
use Rattle.loft_history.specs.Legal.{actor_of, same_actor, of, FitsOne, IsFaithful}
use Rattle.loft_history.proofs.GrowthLemmas.{own_grows}
use Rattle.loft_history.proofs.OwnLemmas.{creates_own}
use Rattle.loft_soundness.specs.Machines.{SentFits}
use Rattle.loft_soundness.proofs.OrderLemmas.{one_fits}
use Rattle.loft_world.specs.State.{State, with_entry}
use Rattle.loft_baton.specs.declared.knows.Own.{Own}
use Rattle.loft_baton.specs.declared.knows.Knows.{Knows}
use Rattle.loft_baton.specs.PassValue.{PassValue}
use Rattle.loft_baton.specs.Knowing.{IsIdle, has, added, Adds, own_of, own_with, holding, released, Follows}
use Rattle.loft_baton.proofs.HistoryLemmas.{same-refl, of-append}
use Rattle.loft_ft.specs.declared.call.Call.{Call}
use Rattle.loft_ft.specs.declared.receipt.Receipt.{Receipt}
use Rattle.loft_ft.specs.Calls.{HasCaller, IsFaithfulCaller, MayCall, IsDeclared, address, address_in, caller_of, entries_of, entry_by, next_thread, order_of, sent_of}
use Rattle.loft_ft.specs.Receipts.{StandsAt, seeing, adding, HasSeenOwn, Accepted, Refused}
use Rattle.loft_ft.proofs.CallLemmas.{of_code, for_code, own_is, number_beyond, callers_order, call_fits, address_known}

-- ---- lists

nothing_after : {A : Type 0} (xs ys : List A) → xs ++ ys ≡ xs → ys ≡ []
nothing_after xs ys e = append_cancel_left xs ys [] (e ∙ sym (append-nil xs))

nothing_behind : {A : Type 0} (xs ys : List A) → xs ++ ys ≡ [] → ys ≡ []
nothing_behind [] ys e = e
nothing_behind (x ∷ xs) ys e = cc

pub last_at : (h : List Entry) (e : Entry) (n : ℕ) → n ≡ length (h ++ e ∷ []) → StandsAt n e (h ++ e ∷ [])
last_at h e n is =
    let len : n ≡ length h + 1 = is ∙ length-append h (e ∷ []) in
    let at : n - 1 ≡ length h = omega (arith, len) in (
      omega (arith, len),
      ap (slice_get (h ++ e ∷ [])) at
          ∙ slice_get-get_or (h ++ e ∷ []) (length h) e (omega (arith, is, len))
          ∙ ap Some (get_or-append_seam h e [] e),
    )

pub added_is : (u : Knows) (h new : List Entry) → added (holding u h) (h ++ new) ≡ new
added_is u h new = front_rest (h ++ new) h new refl

pub own_with-nil : (own : List Own) → own_with [] own ≡ own
own_with-nil [] = refl
own_with-nil (o ∷ own) = λ i. record { actor = o.actor; entries = append-nil o.entries i } ∷ own_with-nil own i

-- ---- a call

-- what is known as the world was taken: the pass before, and the world as it was
pub record Began (id : TableId) (x : CodeProgram) (call : Call) (old mid : PassValue) (taken : State) : Type 0 where
  pub baton : old.baton ≡ id
  pub idle : IsIdle old.knows
  pub code : old.knows.code ≡ Some x
  pub caller : HasCaller old.knows.own x.heads
  pub declared : IsDeclared call x.heads
  pub holds : mid ≡ record old { knows = holding old.knows taken.history }
  pub follows : Follows old.knows taken

-- the entry of the call
abbrev pub entry_for : Call → Knows → Entry
entry_for call u = entry_by u (address_in u.code call) (order_of (next_thread u) call)

-- the entry that is added to the world
abbrev pub entry_in : Call → ℕ → State → Entry
entry_in call c w = entry.Client c (sent_of w.heads (made_by c (creates c w.history)) call)

-- what was done to the world as it was lent, and for the caller by its pass, was done to the world as it was taken, for the caller
pub ok_there : {A E : Type 0} (r : Result A E) (call : Call) (n c : ℕ) (w first taken : State) → n ≡ c → first ≡ taken → OnOk r (w ≡ with_entry first (entry_in call n first)) → OnOk r (w ≡ with_entry taken (entry_in call c taken))
ok_there (Ok r) call n c w first taken same was is = is ∙ ap₂ (λ (m : ℕ) (s : State). with_entry s (entry_in call m s)) same was
ok_there (Err r) call n c w first taken same was is = is

pub err_there : {A E : Type 0} (r : Result A E) (w first taken : State) → first ≡ taken → OnErr r (w ≡ first) → OnErr r (w ≡ taken)
err_there (Ok r) w first taken was is = is
err_there (Err r) w first taken was is = is ∙ was

pub next_there : {E : Type 0} (r : Result (Receipt × ThreadId) E) (n c : ℕ) (first taken : State) → n ≡ c → first ≡ taken → IfOk r (λ r. r.1 ≡ made_by n (creates n first.history)) → IfOk r (λ r. r.1 ≡ made_by c (creates c taken.history))
next_there (Ok r) n c first taken same was is = is ∙ ap₂ (λ (m : ℕ) (s : State). made_by m (creates m s.history)) same was
next_there (Err r) n c first taken same was is = is

module _ (id : TableId) (x : CodeProgram) (call : Call) (old mid : PassValue) (taken : State) (b : Began id x call old mid taken) where
  abbrev u : Knows
  u = old.knows

  abbrev c : ℕ
  c = caller_of u

  abbrev list : List Entry
  list = entries_of u

  abbrev a : Actor
  a = Client c

  abbrev e : Entry
  e = entry_for call u

  own : u.own ≡ own_of a list ∷ []
  own = own_is u.own x.heads b.caller

  heads_are : taken.heads ≡ x.heads
  heads_are = (b.follows.code x b.code).heads

  pub declared_there : IsDeclared call taken.heads
  declared_there = subst (IsDeclared call) (sym heads_are) b.declared

  of_taken : of a taken.history ≡ list
  of_taken = let P : Own → Type 0 = λ o. of o.actor taken.history ≡ o.entries in All-head P (own_of a list) [] (subst (All P) own b.follows.own)

  next_is : made_by c (creates c taken.history) ≡ next_thread u
  next_is = ap (made_by c) (sym (creates_own c taken.history) ∙ ap (creates c) of_taken)

  address_is : address taken.heads call ≡ address_in u.code call
  address_is = ap (λ (h : Heads). address h call) heads_are ∙ sym (address_known x call) ∙ ap (λ (o : Option CodeProgram). address_in o call) (sym b.code)

  pub entry_is : entry_in call c taken ≡ e
  entry_is = λ i. entry.Client c (record { to = to.Sched (address_is i); order = order_of (next_is i) call })

  mine : same_actor a (actor_of e) ≡ true
  mine = same-refl a

  of_mine : of a (e ∷ []) ≡ e ∷ []
  of_mine = ap (λ (t : Bool). cond t (e ∷ []) []) mine

  has_mine : has u.own (actor_of e) ≡ true
  has_mine = ap (λ (l : List Own). has l (actor_of e)) own ∙ ap (λ (t : Bool). t || false) (same-refl a)

  abbrev sent : Sent
  sent = record { to = to.Sched (address_in u.code call); order = order_of (next_thread u) call }

  fits_there : FitsOne (Code (automata_of x)) (to.Sched (address_in u.code call)) (order_of (next_thread u) call)
  fits_there =
      subst (λ (q : SchedId). FitsOne (Code (automata_of x)) (to.Sched q) (order_of (next_thread u) call)) (sym (address_known x call) ∙ ap (λ (o : Option CodeProgram). address_in o call) (sym b.code))
      (call_fits x c (creates c list) call b.declared)

  fits_one : SentFits (Code (automata_of x)) sent
  fits_one = one_fits (Code (automata_of x)) (to.Sched (address_in u.code call)) (order_of (next_thread u) call) fits_there

  -- the world that was changed by these entries
  abbrev pub with : List Entry → State
  with new = record taken { history = taken.history ++ new }

  adds : (new : List Entry) → All (λ d. has u.own (actor_of d) ≡ true) new → All (SentFits (Code (automata_of x))) (sent_in new) → Adds mid.knows (with new)
  adds new own_new fits =
      let is : added (holding u taken.history) (taken.history ++ new) ≡ new = added_is u taken.history new in
      let P : Entry → Type 0 = λ d. has u.own (actor_of d) ≡ true in
      subst (λ (k : Knows). Adds k (with new)) (sym (ap (λ (t : PassValue). t.knows) b.holds)) (record {
        seen = (new, refl);
        own = subst (All P) (sym is) own_new;
        heads = λ y known. (b.follows.code y known).heads;
        fits = λ y known. subst (λ (l : List Entry). All (SentFits (Code (automata_of y))) (sent_in l)) (sym is)
            (subst (λ (z : CodeProgram). All (SentFits (Code (automata_of z))) (sent_in new)) (ap (λ (o : Option CodeProgram). elim o as (λ _. CodeProgram) [ None ↦ x | Some z ↦ z ]) (sym b.code ∙ known)) fits);
      })

  adds_one : Adds mid.knows (with (e ∷ []))
  adds_one =
      let P : Entry → Type 0 = λ d. has u.own (actor_of d) ≡ true in
      let Fit : Sent → Type 0 = SentFits (Code (automata_of x)) in
      adds (e ∷ []) (All-cons P e [] has_mine (All-nil P)) (All-cons Fit sent [] fits_one (All-nil Fit))

  adds_none : Adds mid.knows (with [])
  adds_none = adds [] (All-nil (λ d. has u.own (actor_of d) ≡ true)) (All-nil (SentFits (Code (automata_of x))))

  with_none : taken ≡ with []
  with_none = λ i. record taken { history = sym (append-nil taken.history) i }

  with_one : (w : State) → w ≡ with_entry taken (entry_in call c taken) → w ≡ with (e ∷ [])
  with_one w is = is ∙ ap (with_entry taken) entry_is

  -- what may be given back
  pub adds_either : {A E : Type 0} (r : Result A E) (w : State) → OnOk r (w ≡ with_entry taken (entry_in call c taken)) → OnErr r (w ≡ taken) → Adds mid.knows w
  adds_either (Ok r) w ok err = subst (Adds mid.knows) (sym (with_one w ok)) adds_one
  adds_either (Err r) w ok err = subst (Adds mid.knows) (sym (err ∙ with_none)) adds_none

  -- ---- the pass after the call

  -- what others added since the pass looked last
  abbrev others : List Entry
  others = b.follows.seen.0

  seen_is : u.seen ++ others ≡ taken.history
  seen_is = b.follows.seen.1

  theirs : HasSeenOwn u → of a others ≡ []
  theirs (inl none) = nothing_behind (of a u.seen) (of a others) (sym (of-append a u.seen others) ∙ ap (of a) seen_is ∙ of_taken ∙ none)
  theirs (inr all) = nothing_after (of a u.seen) (of a others) (sym (of-append a u.seen others) ∙ ap (of a) seen_is ∙ of_taken ∙ sym all)

  after : (new : List Entry) (w : State) (final : PassValue) → w ≡ with new → final ≡ record mid { knows = released mid.knows w.history } → final ≡ record old { knows = released (holding u taken.history) (taken.history ++ new) }
  after new w final is end = end ∙ ap (λ (s : State). record mid { knows = released mid.knows s.history }) is ∙ ap (λ (t : PassValue). record t { knows = released t.knows (taken.history ++ new) }) b.holds

  own_one : own_with (added (holding u taken.history) (taken.history ++ e ∷ [])) u.own ≡ own_of a (list ++ e ∷ []) ∷ []
  own_one = ap (λ (l : List Entry). own_with l u.own) (added_is u taken.history (e ∷ [])) ∙ ap (own_with (e ∷ [])) own ∙ ap (λ (l : List Entry). own_of a (list ++ l) ∷ []) of_mine

  own_none : own_with (added (holding u taken.history) (taken.history ++ [])) u.own ≡ u.own
  own_none = ap (λ (l : List Entry). own_with l u.own) (added_is u taken.history []) ∙ own_with-nil u.own

  seen_one : taken.history ++ e ∷ [] ≡ u.seen ++ (others ++ e ∷ [])
  seen_one = ap (λ (l : List Entry). l ++ e ∷ []) (sym seen_is) ∙ append_assoc u.seen others (e ∷ [])

  seen_none : taken.history ++ [] ≡ u.seen ++ others
  seen_none = append-nil taken.history ∙ sym seen_is

  one_more : (w : State) (final : PassValue) → w ≡ with (e ∷ []) → final ≡ record mid { knows = released mid.knows w.history } → final ≡ record old { knows = adding e (seeing (others ++ e ∷ []) u) }
  one_more w final is end = after (e ∷ []) w final is end ∙ (λ i. record old { knows = record u { holds = sym b.idle.1 i; seen = seen_one i; own = own_one i } })

  none_more : (w : State) (final : PassValue) → w ≡ with [] → final ≡ record mid { knows = released mid.knows w.history } → final ≡ record old { knows = seeing others u }
  none_more w final is end = after [] w final is end ∙ (λ i. record old { knows = record u { holds = sym b.idle.1 i; seen = seen_none i; own = own_none i } })

  seen_own : of a (u.seen ++ (others ++ e ∷ [])) ≡ list ++ e ∷ []
  seen_own = ap (of a) (sym seen_one) ∙ of-append a taken.history (e ∷ []) ∙ ap₂ (λ (k l : List Entry). k ++ l) of_taken of_mine

  stays : (o : RunOptions) → IsFaithful (Code (automata_of x)) o a list → IsFaithful (Code (automata_of x)) o a (list ++ e ∷ [])
  stays o f =
      let all : All (λ d. same_actor a (actor_of d) ≡ true) list = subst (All (λ d. same_actor a (actor_of d) ≡ true)) of_taken (filter_passes (λ d. same_actor a (actor_of d)) taken.history) in
      (own_grows (Code (automata_of x)) o a list e all).1 (
        f,
        record {
          source = λ there. let far : length x.heads.clients ≤ c = number_beyond u.own x.heads b.caller in absurd (omega (arith, there, far));
          caller = λ far. (callers_order (next_thread u) call, fits_there);
        },
      )

  later : length u.seen < length (taken.history ++ e ∷ [])
  later =
      let more : length u.seen + length others ≡ length taken.history = sym (length-append u.seen others) ∙ ap length seen_is in
      let one : length (taken.history ++ e ∷ []) ≡ length taken.history + 1 = length-append taken.history (e ∷ []) in
      omega (arith, more, one)

  accepted : (w : State) (final : PassValue) (stamp : ℕ) → w ≡ with (e ∷ []) → final ≡ record mid { knows = released mid.knows w.history } → stamp ≡ length w.history → Accepted e stamp old final
  accepted w final stamp is end len =
      let new : final ≡ record old { knows = adding e (seeing (others ++ e ∷ []) u) } = one_more w final is end in
      let at : stamp ≡ length (taken.history ++ e ∷ []) = len ∙ ap (λ (s : State). length s.history) is in
      let seen : final.knows.seen ≡ taken.history ++ e ∷ [] = ap (λ (t : PassValue). t.knows.seen) new ∙ sym seen_one in
      record {
        others = others;
        pass = new;
        stands = subst (StandsAt stamp e) (sym seen) (last_at taken.history e stamp at);
        later = subst (λ (n : ℕ). length u.seen < n) (sym at) later;
        theirs = theirs;
        current = subst (λ (t : PassValue). HasSeenOwn t.knows) (sym new) (inr seen_own);
      }

  refused : (w : State) (final : PassValue) → w ≡ with [] → final ≡ record mid { knows = released mid.knows w.history } → Refused old final
  refused w final is end =
      let new : final ≡ record old { knows = seeing others u } = none_more w final is end in
      record {
        others = others;
        pass = new;
        theirs = theirs;
        current = subst (λ (t : PassValue). HasSeenOwn t.knows) (sym new) (inr (ap (of a) seen_is ∙ of_taken));
      }

  pub on_ok : {E : Type 0} (r : Result (Receipt × ThreadId) E) (w : State) (final : PassValue) → OnOk r (w ≡ with_entry taken (entry_in call c taken)) → IfOk r (λ r. r.0.stamp ≡ length w.history)
      → final ≡ record mid { knows = released mid.knows w.history } → IfOk r (λ r. Accepted e r.0.stamp old final)
  on_ok (Ok r) w final ok len end = accepted w final r.0.stamp (with_one w ok) end len
  on_ok (Err r) w final ok len end = tt

  pub on_next : {E : Type 0} (r : Result (Receipt × ThreadId) E) → IfOk r (λ r. r.1 ≡ made_by c (creates c taken.history)) → IfOk r (λ r. r.1 ≡ next_thread u)
  on_next (Ok r) is = is ∙ next_is
  on_next (Err r) is = tt

  pub on_err : {A E : Type 0} (r : Result A E) (w : State) (final : PassValue) → OnErr r (w ≡ taken) → final ≡ record mid { knows = released mid.knows w.history } → OnErr r (Refused old final)
  on_err (Ok r) w final err end = err
  on_err (Err r) w final err end = refused w final (err ∙ with_none) end

  -- the entry was added, or nothing was
  left : {A E : Type 0} (r : Result A E) (w : State) (final : PassValue) → OnOk r (w ≡ with_entry taken (entry_in call c taken)) → OnErr r (w ≡ taken) → final ≡ record mid { knows = released mid.knows w.history }
      → (final ≡ record old { knows = adding e (seeing (others ++ e ∷ []) u) }) ⊎ (final ≡ record old { knows = seeing others u })
  left (Ok r) w final ok err end = inl (one_more w final (with_one w ok) end)
  left (Err r) w final ok err end = inr (none_more w final (err ∙ with_none) end)

  -- the pass may call again
  pub may_again : {A E : Type 0} (r : Result A E) (w : State) (final : PassValue) → OnOk r (w ≡ with_entry taken (entry_in call c taken)) → OnErr r (w ≡ taken) → final ≡ record mid { knows = released mid.knows w.history }
      → MayCall id final
  may_again r w final ok err end = by (left r w final ok err end)
    where
      one : MayCall id (record old { knows = adding e (seeing (others ++ e ∷ []) u) })
      one = record { baton = b.baton; idle = b.idle; caller = for_code _ u.code x b.code (number_beyond u.own x.heads b.caller) }

      none : MayCall id (record old { knows = seeing others u })
      none = record { baton = b.baton; idle = b.idle; caller = for_code _ u.code x b.code b.caller }

      by : (final ≡ record old { knows = adding e (seeing (others ++ e ∷ []) u) }) ⊎ (final ≡ record old { knows = seeing others u }) → MayCall id final
      by (inl is) = subst (MayCall id) (sym is) one
      by (inr is) = subst (MayCall id) (sym is) none

  pub same_code : {A E : Type 0} (r : Result A E) (w : State) (final : PassValue) → OnOk r (w ≡ with_entry taken (entry_in call c taken)) → OnErr r (w ≡ taken) → final ≡ record mid { knows = released mid.knows w.history }
      → final.knows.code ≡ u.code
  same_code r w final ok err end = by (left r w final ok err end)
    where
      by : (final ≡ record old { knows = adding e (seeing (others ++ e ∷ []) u) }) ⊎ (final ≡ record old { knows = seeing others u }) → final.knows.code ≡ u.code
      by (inl is) = ap (λ (t : PassValue). t.knows.code) is
      by (inr is) = ap (λ (t : PassValue). t.knows.code) is

  pub same_caller : {A E : Type 0} (r : Result A E) (w : State) (final : PassValue) → OnOk r (w ≡ with_entry taken (entry_in call c taken)) → OnErr r (w ≡ taken) → final ≡ record mid { knows = released mid.knows w.history }
      → caller_of final.knows ≡ c
  same_caller r w final ok err end = by (left r w final ok err end)
    where
      by : (final ≡ record old { knows = adding e (seeing (others ++ e ∷ []) u) }) ⊎ (final ≡ record old { knows = seeing others u }) → caller_of final.knows ≡ c
      by (inl is) = ap (λ (t : PassValue). caller_of t.knows) is
      by (inr is) = ap (λ (t : PassValue). caller_of t.knows) is

  pub still_faithful : {A E : Type 0} (r : Result A E) (w : State) (final : PassValue) → OnOk r (w ≡ with_entry taken (entry_in call c taken)) → OnErr r (w ≡ taken) → final ≡ record mid { knows = released mid.knows w.history }
      → IsFaithfulCaller u → IsFaithfulCaller final.knows
  still_faithful r w final ok err end f = by (left r w final ok err end)
    where
      one : IsFaithfulCaller (adding e (seeing (others ++ e ∷ []) u))
      one = for_code _ u.code x b.code (λ o. stays o (of_code (λ y. (o : RunOptions) → IsFaithful (Code (automata_of y)) o a list) u.code x b.code f o))

      by : (final ≡ record old { knows = adding e (seeing (others ++ e ∷ []) u) }) ⊎ (final ≡ record old { knows = seeing others u }) → IsFaithfulCaller final.knows
      by (inl is) = subst (λ (t : PassValue). IsFaithfulCaller t.knows) (sym is) one
      by (inr is) = subst (λ (t : PassValue). IsFaithfulCaller t.knows) (sym is) f
