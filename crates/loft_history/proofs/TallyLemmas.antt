-- What a scheduler has used of its bounds is told by its block of the report.
use Rattle.std.proofs.Common.{◌≡◌, ℕ, suc, ◌+◌, cond, List, [], ◌∷◌, ◌++◌, length, filter, refl, sym, ap, ◌∙◌, subst, append_assoc, append-nil, arith}
use Rattle.std.specs.List.{flat_map}
use Rattle.std.proofs.lemmas.Grind.{flat_map-append}
use Rattle.std.proofs.lemmas.List.{length-append}
use Rattle.loft_base.specs.declared.ids.SchedId.{SchedId}
use Rattle.loft_tree.specs.declared.heads.Heads.{Heads}
use Rattle.loft_base.specs.declared.options.Limits.{Limits}
use Rattle.loft_orders.specs.declared.note.InstantNote.{InstantNote}
use Rattle.loft_orders.specs.declared.order.Order.{Order}
use Rattle.loft_orders.specs.declared.order.Order.TheVariants as order
use Rattle.loft_orders.specs.declared.order.Sent.{Sent}
use Rattle.loft_orders.specs.declared.order.To.{To}
use Rattle.loft_orders.specs.declared.order.To.TheVariants as to
use Rattle.loft_orders.specs.declared.thread.Thread.{Thread}
use Rattle.loft_sense.specs.Machine.{Prog, heads, empty}
use Rattle.loft_sense.specs.Tally.{capped, unlinks, unlinked_in, tally_after}
use Rattle.loft_sense.specs.Instant.{Replayed, instant, one_more, replay_on, replay}
use Rattle.loft_orders.specs.Lines.{text_of, instant_lines}
use Rattle.loft_sense.proofs.TallyLemmas.{capped_on, instant_tally}
use Rattle.loft_history.specs.History.{job_before, jobs_sent}
use Rattle.loft_history.specs.Report.{instants_lines, begun_lines}

-- ---- threads that go to the workers

job_counted : (t : To) (o : Order) (m : Sent) (rest : List Sent) (jobs : List Thread) → length rest ≡ length jobs → length (cond (unlinks t o) (m ∷ rest) rest) ≡ length (job_before t o jobs)
job_counted (to.Sched s) o m rest jobs e = e
job_counted (to.Others s) o m rest jobs e = e
job_counted to.All o m rest jobs e = e
job_counted to.Workers (order.Create t f args) m rest jobs e = e
job_counted to.Workers (order.Arrive t) m rest jobs e = ap suc e
job_counted to.Workers (order.Stop t) m rest jobs e = e
job_counted to.Workers (order.Suspend t) m rest jobs e = e
job_counted to.Workers (order.Resume t) m rest jobs e = e
job_counted to.Workers (order.Broadcast event value) m rest jobs e = e
job_counted to.Workers (order.Ended t end) m rest jobs e = e

pub jobs_counted : (ms : List Sent) → unlinked_in ms ≡ length (jobs_sent ms)
jobs_counted [] = refl
jobs_counted (m ∷ ms) = job_counted m.to m.order m (filter (λ (n : Sent). unlinks n.to n.order) ms) (jobs_sent ms) (jobs_counted ms)

job_on : (t : To) (o : Order) (jobs more : List Thread) → job_before t o (jobs ++ more) ≡ job_before t o jobs ++ more
job_on (to.Sched s) o jobs more = refl
job_on (to.Others s) o jobs more = refl
job_on to.All o jobs more = refl
job_on to.Workers (order.Create t f args) jobs more = refl
job_on to.Workers (order.Arrive t) jobs more = refl
job_on to.Workers (order.Stop t) jobs more = refl
job_on to.Workers (order.Suspend t) jobs more = refl
job_on to.Workers (order.Resume t) jobs more = refl
job_on to.Workers (order.Broadcast event value) jobs more = refl
job_on to.Workers (order.Ended t end) jobs more = refl

jobs_on : (ms more : List Sent) → jobs_sent (ms ++ more) ≡ jobs_sent ms ++ jobs_sent more
jobs_on [] more = refl
jobs_on (m ∷ ms) more = ap (job_before m.to m.order) (jobs_on ms more) ∙ job_on m.to m.order (jobs_sent ms) (jobs_sent more)

-- ---- lines

instants_on : (h : Heads) (done : List (List Order)) (notes : List InstantNote) (batch : List Order) (note : InstantNote) → length notes ≡ length done
    → instants_lines h (done ++ batch ∷ []) (notes ++ note ∷ []) ≡ instants_lines h done notes ++ instant_lines h batch note
instants_on h [] [] batch note e = append-nil (instant_lines h batch note)
instants_on h [] (n ∷ ns) batch note e = absurd (omega arith)
instants_on h (b ∷ bs) [] batch note e = absurd (omega arith)
instants_on h (b ∷ bs) (n ∷ ns) batch note e =
    ap (λ (l : List (List ℕ)). instant_lines h b n ++ l) (instants_on h bs ns batch note (omega (arith, e)))
    ∙ sym (append_assoc (instant_lines h b n) (instants_lines h bs ns) (instant_lines h batch note))

-- what this is the length of
text_length : (lines more : List (List ℕ)) → length (text_of (lines ++ more)) ≡ length (text_of lines) + length (text_of more)
text_length lines more = ap length (flat_map-append (λ (l : List ℕ). l ++ 10 ∷ []) lines more) ∙ length-append (text_of lines) (text_of more)

-- ---- instants

module _ (x : Prog) (limits : Limits) (s : SchedId) where
  -- after these batches
  pub record IsTold (done : List (List Order)) (r : Replayed) : Type 0 where
    pub notes : length r.notes ≡ length done
    pub number : r.machine.tally.number ≡ length done
    pub bytes : r.machine.tally.bytes ≡ capped (length (text_of (begun_lines (heads x) s done r.notes)))
    pub gone : r.machine.tally.gone ≡ capped (length (jobs_sent (flat_map (λ n. n.sent) r.notes)))

  bytes_on : (done : List (List Order)) (notes : List InstantNote) (batch : List Order) (note : InstantNote) (bytes : ℕ) → length notes ≡ length done → bytes ≡ capped (length (text_of (begun_lines (heads x) s done notes)))
      → capped (bytes + length (text_of (instant_lines (heads x) batch note))) ≡ capped (length (text_of (begun_lines (heads x) s (done ++ batch ∷ []) (notes ++ note ∷ []))))
  bytes_on done notes batch note bytes e is =
      let h = heads x in
      let more = length (text_of (instant_lines h batch note)) in
      ap (λ (n : ℕ). capped (n + more)) is
      ∙ (capped_on (length (text_of (begun_lines h s done notes))) more
      ∙ ap capped (sym (ap (λ (l : List (List ℕ)). length (text_of (begun_lines h s [] [] ++ l))) (instants_on h done notes batch note e)
      ∙ text_length (begun_lines h s done notes) (instant_lines h batch note))))

  gone_on : (notes : List InstantNote) (note : InstantNote) (gone : ℕ) → gone ≡ capped (length (jobs_sent (flat_map (λ n. n.sent) notes)))
      → capped (gone + unlinked_in note.sent) ≡ capped (length (jobs_sent (flat_map (λ n. n.sent) (notes ++ note ∷ []))))
  gone_on notes note gone is =
      let sent = flat_map (λ (n : InstantNote). n.sent) notes in
      let all : flat_map (λ (n : InstantNote). n.sent) (notes ++ note ∷ []) ≡ sent ++ note.sent =
      flat_map-append (λ (n : InstantNote). n.sent) notes (note ∷ []) ∙ ap (λ (l : List Sent). sent ++ l) (append-nil note.sent) in
      ap (λ (n : ℕ). capped (n + unlinked_in note.sent)) is
      ∙ (capped_on (length (jobs_sent sent)) (unlinked_in note.sent)
      ∙ ap capped (ap (λ (n : ℕ). length (jobs_sent sent) + n) (jobs_counted note.sent)
      ∙ sym (ap (λ (l : List Sent). length (jobs_sent l)) all ∙ ap length (jobs_on sent note.sent) ∙ length-append (jobs_sent sent) (jobs_sent note.sent))))

  one_told : (done : List (List Order)) (batch : List Order) (r : Replayed) → IsTold done r → IsTold (done ++ batch ∷ []) (one_more x limits r batch)
  unfolding tally_after
  one_told done batch r t =
      let did = instant x limits r.machine batch in
      let tally = instant_tally x limits r.machine batch in
      let longer = length-append done (batch ∷ []) in
      record {
        notes = length-append r.notes (did.note ∷ []) ∙ (ap (λ (n : ℕ). n + 1) t.notes ∙ sym longer);
        number = ap (λ q. q.number) tally ∙ (ap (λ (n : ℕ). n + 1) t.number ∙ sym longer);
        bytes = ap (λ q. q.bytes) tally ∙ bytes_on done r.notes batch did.note r.machine.tally.bytes t.notes t.bytes;
        gone = ap (λ q. q.gone) tally ∙ gone_on r.notes did.note r.machine.tally.gone t.gone;
      }

  all_told : (done batches : List (List Order)) (r : Replayed) → IsTold done r → IsTold (done ++ batches) (replay_on x limits r batches)
  all_told done [] r t = subst (λ (l : List (List Order)). IsTold l r) (sym (append-nil done)) t
  all_told done (batch ∷ batches) r t =
      subst (λ (l : List (List Order)). IsTold l (replay_on x limits (one_more x limits r batch) batches)) (append_assoc done (batch ∷ []) batches)
      (all_told (done ++ batch ∷ []) batches (one_more x limits r batch) (one_told done batch r t))

  pub is_told : (batches : List (List Order)) → IsTold batches (replay x limits s batches)
  is_told batches = all_told [] batches (record { machine = empty x s; notes = [] }) (record { notes = refl; number = refl; bytes = refl; gone = refl })
