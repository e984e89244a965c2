-- What demand 3 and document 01's section "A call, from its entry" say of a begin and the advances after it, once more, fact by fact, in the
-- words of Plain. Each theorem is read off `demand_3`: a statement that loses a fact, and its proof with it, fails here. Assumes nothing.
use Rattle.std.specs.Prelude.{Result, Ok, Err}
use Prim.Native.Nat.{ℕ, zero, suc, ◌+◌, ◌-◌, ◌/◌, ◌%◌, ◌≤◌, ◌<◌, min}
use native.Mathlib.Omega.{arith}
use mathlib.Core.Logic.{◌≢◌}
use mathlib.Core.Path.{◌≡◌, refl, sym, ap, ap₂, ◌∙◌, subst}
use mathlib.Core.Bool.{Bool, true, false, cond, not}
use mathlib.Core.List.{List, [], ◌∷◌, ◌++◌, map}
use lib.Dec.{T, T_not, eqb, eqb→eq}
use borrow.Author.Tests.{ne_eqb}
use lib.ListN.{length, get_or, drop}
use Rattle.fields.specs.Field.{bits_at, get_of, number}
use Rattle.calls.specs.Advances.{Advance, refused, buffer_after, saved_after, nobody, last, last_accepted, Came, over, full, waiting, LastCame, NoneRefused, RefusedUntouched, AllRefused, NoRun}
use Rattle.calls.specs.AlreadyCut.{already_cut, sizes, AsCut}
use Rattle.calls.specs.Bytes.{EndedAs, bytes_at, caller_bytes, read_places}
use Rattle.calls.specs.Calls.{Request, transaction}
use Rattle.calls.specs.Demand.{left, Kept, Demand3}
use Rattle.calls.specs.Events.{status_in, address_by, EventAt}
use Rattle.calls.specs.Outcomes.{refusal_number}
use Rattle.calls.specs.Pieces.{piece_of, cut_of, pieces_for, piece_at}
use Rattle.calls.specs.Refusals.{length_of, total, request_of, check_of, accepts}
use Rattle.calls.specs.Run.{Entry, words_of, Uncut, uncut_of, no_call, begun_of, put_out, taken_in}
use Rattle.calls.specs.Steps.{access_of, begin_of, ten_bit_header}
use Rattle.calls.specs.Next.{next_of}
use Rattle.calls.specs.declared.Next.TheVariants as next
use Rattle.calls.specs.declared.Call.{Call}
use Rattle.calls.specs.declared.Description.{Description}
use Rattle.calls.specs.declared.Outcome.{Outcome}
use Rattle.calls.specs.declared.Outcome.TheVariants.{Done, EventRead, EventWrite}
use Rattle.calls.specs.declared.Refusal.{Refusal}
use Rattle.registers.specs.declared.Register.{Register}
use Rattle.registers.specs.declared.Register.TheVariants.{Oar1, Isr}
use Rattle.calls.specs.declared.Report.TheVariants.{Over, Full, Waiting}
use Rattle.calls.specs.declared.SavedCall.{SavedCall}
use Rattle.calls.specs.declared.Step.TheVariants.{Ended}
use Rattle.calls.proofs.AlreadyCut.{long_cards}
use Rattle.calls.proofs.Demand.{demand_3}
use Rattle.calls.proofs.Every.{is_eq}
use Rattle.calls.proofs.Fit.{accepted_fit}
use Rattle.calls.proofs.Logic.{is_true, is_false}
use Rattle.calls.proofs.Plain.{Refuses, LeftAlone, Leads, accesses, entries, answers, gave, received, read_at, sent, numbered, is_transaction, is_sender, is_receiver, to_send, to_fill, to_keep, accesses_are, entries_are, answers_are, is_refused, not_refused, refuses, led, gave-is, received_is, reads_are, sent_is, transaction-is, sender-is, receiver-is, auto_sender, is_auto, is_manual_write, no_manual_write, event-is, last_word, fill_is, send-is, keep-is, padded}

begun_at : (c : Call) (d : Description) (ops : List ℕ) (n : ℕ) → check_of d ops n ≡ Ok c →
    (begun_of d ops n).saved ≡ begin_of (request_of c d ops n)
unfolding begun_of
begun_at c d ops n e = rw e

not_begun : (r : Refusal) (d : Description) (ops : List ℕ) (n : ℕ) → check_of d ops n ≡ Err r → (begun_of d ops n).saved ≡ no_call
unfolding begun_of
not_begun r d ops n e = rw e

-- ADDCODE 0x78 to 0x7B, and no other code, is a ten-bit header
header : (code : ℕ) → 0x78 ≤ code → code ≤ 0x7B → ten_bit_header code ≡ true
unfolding get_of bits_at
header code h g = (let e : code / 4 % 32 ≡ 30 = omega arith in rw e)

no_header : (code : ℕ) → (code / 4 % 32 ≢ 30) → ten_bit_header code ≡ false
unfolding get_of bits_at
no_header code n = ne_eqb (code / 4 % 32) 30 n

one_or_none : (x : ℕ) → x < 2 → x ≡ number (eqb x 1)
one_or_none zero h = refl
one_or_none (suc zero) h = refl
one_or_none (suc (suc x)) h = absurd (omega arith)

no_words : (ws : List ℕ) → length ws ≡ 0 → ws ≡ []
no_words [] h = refl
no_words (w ∷ ws) h = absurd (omega arith)

-- of each of them
abbrev pub Each : (Advance → Type 0) → List Advance → Type 0
Each P [] = Unit {0}
Each P (A ∷ As) = P A × Each P As

nobody_else : (Bs : List Advance) → Each Refuses Bs → last_accepted Bs ≡ nobody
nobody_else [] h = refl
nobody_else (B ∷ Bs) h = rw (nobody_else Bs h.1, is_true (refused B) (is_refused B h.0))

last-is : (before : List Advance) (A : Advance) (after : List Advance) → ¬ Refuses A → Each Refuses after →
    last_accepted (before ++ A ∷ after) ≡ last A
last-is [] A after n h = rw (nobody_else after h, is_false (refused A) (not_refused A n))
last-is (B ∷ before) A after n h = rw (last-is before A after n h)

left_alone : (before : List Advance) (A : Advance) (after : List Advance) (s₀ s : SavedCall) →
    RefusedUntouched (before ++ A ∷ after) s₀ → saved_after before s₀ ≡ s → Refuses A → LeftAlone A s
left_alone [] A after s₀ s h e r = let u = h.0 (is_refused A r) in (u.used, u.written, u.saved ∙ e, u.buffer, u.log)
left_alone (B ∷ before) A after s₀ s h e r = left_alone before A after B.result.saved s h.1 e r

-- Begin was accepted as the call c, with the description d, the operations ops and the buffer b; the advances As followed, and led to
-- the saved call s' and the buffer b'.
module _ (c : Call) (d : Description) (ops b : List ℕ) (As : List Advance) (s' : SavedCall) (b' : List ℕ)
    (begun : check_of d ops (length b) ≡ Ok c) (leads : Leads d ops As (begun_of d ops (length b)).saved b s' b') where
  abbrev pub q : Request
  q = request_of c d ops (length b)

  -- the uncut run, to as many accesses, over the answers used and any that follow
  abbrev pub run : List ℕ → Uncut
  run rest = uncut_of q (accesses As) (begun_of d ops (length b)).saved b (answers As ++ rest)

  abbrev pub log : List Entry
  log = (run []).log

  kept : Kept q b As
  kept = subst (λ (v : Result Call Refusal). Demand3 v d ops b As) begun (demand_3 d ops b As (led leads).follows)

  started : (begun_of d ops (length b)).saved ≡ begin_of q
  started = begun_at c d ops (length b) begun

  saved-is : saved_after As (begin_of q) ≡ s'
  saved-is = ap (saved_after As) (sym started) ∙ (led leads).saved

  buffer-is : buffer_after As b ≡ b'
  buffer-is = (led leads).buffer

  came_to : (rest : List ℕ) → run rest ≡ record { saved = s'; buffer = b'; log = kept.one_run.log }
  came_to rest =
      rw (← accesses_are As, ← answers_are As, started)
      (kept.one_run.run rest
      ∙ ap₂ (λ (s : SavedCall) (x : List ℕ). record { saved = s; buffer = x; log = kept.one_run.log }) saved-is buffer-is)

  log_is : (rest : List ℕ) → (run rest).log ≡ kept.one_run.log
  log_is rest = ap (λ (U : Uncut). U.log) (came_to rest)

  -- the joined entries are the run's, as many as there are, with one answer to each read
  pub entries_of_the_run : (rest : List ℕ) → words_of (run rest).log ≡ entries As
  entries_of_the_run rest = ap words_of (log_is rest) ∙ kept.one_run.words ∙ entries_are As

  pub as_many : (rest : List ℕ) → length (run rest).log ≡ accesses As
  as_many rest = ap length (log_is rest) ∙ kept.one_run.count ∙ accesses_are As

  pub answer_to_each_read : (rest : List ℕ) → gave (run rest).log ≡ answers As
  answer_to_each_read rest = ap gave (log_is rest) ∙ sym (gave-is kept.one_run.log) ∙ kept.one_run.answers ∙ answers_are As

  -- so are the buffer and the saved call
  pub buffer_of_the_run : (rest : List ℕ) → (run rest).buffer ≡ b'
  buffer_of_the_run rest = ap (λ (U : Uncut). U.buffer) (came_to rest)

  pub call_of_the_run : (rest : List ℕ) → (run rest).saved ≡ s'
  call_of_the_run rest = ap (λ (U : Uncut). U.saved) (came_to rest)

  -- more accesses and answers alter no ended call
  pub ended_stays : s'.step ≡ Ended → (m : ℕ) (rest : List ℕ) →
      uncut_of q (accesses As + m) (begun_of d ops (length b)).saved b (answers As ++ rest) ≡ run []
  ended_stays e m rest =
      rw (← accesses_are As, ← answers_are As, started)
      (kept.one_run.stays (rw (saved-is, e) tt) m rest ∙ sym (kept.one_run.run []))

  -- An advance with the begun description, the buffer's length included, is not refused.
  pub none_refused : (before : List Advance) (A : Advance) (after : List Advance) → As ≡ before ++ A ∷ after →
      A.words ≡ d → A.operations ≡ ops → length A.buffer ≡ length b → ¬ Refuses A
  none_refused before A after e w o n r =
      T_not (refused A) (go before (subst (NoneRefused d ops (length b)) e kept.one_run.accepted) w o n) (is_refused A r)
    where
      go : (before : List Advance) → NoneRefused d ops (length b) (before ++ A ∷ after) →
          A.words ≡ d → A.operations ≡ ops → length A.buffer ≡ length b → T (not (refused A))
      go [] h = h.0
      go (B ∷ before) h = go before h.1

  -- A refused advance uses no answer, writes nothing, and hands back the saved call that it got.
  pub refused_untouched : (before : List Advance) (A : Advance) (after : List Advance) (s : SavedCall) (x : List ℕ) → As ≡ before ++ A ∷ after →
      Leads d ops before (begun_of d ops (length b)).saved b s x → Refuses A → LeftAlone A s
  refused_untouched before A after s x e l r =
      left_alone before A after (begin_of q) s (subst (λ (Bs : List Advance). RefusedUntouched Bs (begin_of q)) e kept.one_run.untouched)
      (ap (saved_after before) (sym started) ∙ (led l).saved) r

  -- What the last accepted advance reports.
  module _ (before : List Advance) (A : Advance) (after : List Advance) (split : As ≡ before ++ A ∷ after)
      (accepted : ¬ Refuses A) (others : Each Refuses after) where
    came : Came q s' b' A
    came =
        subst (LastCame q s' b') (ap last_accepted split ∙ last-is before A after accepted others)
        (rw (saved-is, buffer-is) at kept.one_run.came)

    -- its outcome, where the run has ended, and only there
    pub over_when_ended : s'.step ≡ Ended → A.result.report ≡ Over s'.outcome
    over_when_ended e = go came
      where
        go : Came q s' b' A → A.result.report ≡ Over s'.outcome
        go (over h r) = r
        go (full h w r) = absurd (rw e at h)
        go (waiting k h w x u r) = absurd (rw e at h)

    pub ended_when_over : (o : Outcome) → A.result.report ≡ Over o → (s'.step ≡ Ended) × (s'.outcome ≡ o)
    ended_when_over o f = go came
      where
        go : Came q s' b' A → (s'.step ≡ Ended) × (s'.outcome ≡ o)
        go (over h r) = (is_eq s'.step Ended h, cc)
        go (full h w r) = let z : ◌≡◌ {A = ℕ} 0 1 = cc in absurd (omega arith)
        go (waiting k h w x u r) = let z : ◌≡◌ {A = ℕ} 0 1 = cc in absurd (omega arith)

    -- `full`, where the next access finds no place left
    pub no_place_when_full : A.result.report ≡ Full → (s'.step ≢ Ended) × (A.result.written ≡ length A.log / 2)
    no_place_when_full f = go came
      where
        go : Came q s' b' A → (s'.step ≢ Ended) × (A.result.written ≡ length A.log / 2)
        go (over h r) = let z : ◌≡◌ {A = ℕ} 0 1 = cc in absurd (omega arith)
        go (full h w r) = (λ e. rw e at h, w)
        go (waiting k h w x u r) = let z : ◌≡◌ {A = ℕ} 0 1 = cc in absurd (omega arith)

    -- `waiting`, where it is a read of the named register that has a place, and no answer left
    pub no_answer_when_waiting : (r : Register) → A.result.report ≡ Waiting r →
        (s'.step ≢ Ended) × (A.result.written < length A.log / 2) × (A.result.used ≡ length A.answers)
        × (next_of (access_of q b' s') ≡ next.Read r)
    no_answer_when_waiting r f = go came
      where
        go : Came q s' b' A →
            (s'.step ≢ Ended) × (A.result.written < length A.log / 2) × (A.result.used ≡ length A.answers)
            × (next_of (access_of q b' s') ≡ next.Read r)
        go (over h r) = let z : ◌≡◌ {A = ℕ} 0 1 = cc in absurd (omega arith)
        go (full h w r) = let z : ◌≡◌ {A = ℕ} 0 1 = cc in absurd (omega arith)
        go (waiting k h w x u g) = (λ e. rw e at h, w, u, cc)

  -- ---- bytes out

  fits : T (transaction c) → total ops ≡ length b
  fits = (accepted_fit c d ops (length b) begun).sum

  out-is : put_out kept.one_run.log ≡ sent log
  out-is = sent_is kept.one_run.log ∙ ap sent (sym (log_is []))

  send : caller_bytes q b ≡ to_send c ops b
  send = send-is q b refl fits

  ended_as : s'.step ≡ Ended → (n : ℕ) → s'.outcome ≡ Done n → EndedAs (Done n) (left q b As kept.one_run.log)
  ended_as e n o = record { ended = rw saved-is e; outcome = rw saved-is o }

  -- Byte i that is put out is the caller's byte i, and 0 where the caller has none.
  pub sent_in_order : (i : ℕ) → i < length (sent log) → get_or (sent log) i 0 ≡ get_or (to_send c ops b) i 0
  sent_in_order i h =
      ap (λ (l : List ℕ). get_or l i 0) (sym out-is ∙ kept.bytes_out.in_order)
      ∙ padded (length (put_out kept.one_run.log)) (caller_bytes q b) i (rw out-is h)
      ∙ ap (λ (l : List ℕ). get_or l i 0) send

  -- Only 10, 12, 26 and 28 put out more than the caller's bytes.
  pub sent_no_more : T (not (is_sender c)) → length (sent log) ≤ length (to_send c ops b)
  sent_no_more n = rw (← out-is, ← send) (kept.bytes_out.no_zeros (rw (sender-is c) n))

  -- A transaction that is done has put out all of them.
  pub sent_all : T (is_transaction c) → s'.step ≡ Ended → (n : ℕ) → s'.outcome ≡ Done n → sent log ≡ to_send c ops b
  sent_all t e n o = sym out-is ∙ kept.bytes_out.done (rw (transaction-is c) t) n (ended_as e n o) ∙ send

  -- ---- bytes in

  in_is : taken_in kept.one_run.log ≡ received log
  in_is = received_is kept.one_run.log ∙ ap received (sym (log_is []))

  pub same_length : length b' ≡ length b
  same_length = ap length (sym buffer-is) ∙ kept.bytes_in.same_length

  fill : bytes_at b (read_places q) ≡ to_fill c ops b
  fill = fill_is q b refl fits

  fill' : bytes_at (buffer_after As b) (read_places q) ≡ to_fill c ops b'
  fill' = ap (λ (x : List ℕ). bytes_at x (read_places q)) buffer-is ∙ fill_is q b' same_length fits

  -- What is to be filled holds the bytes received, in order, then what stood there.
  pub received_in_order : to_fill c ops b' ≡ received log ++ drop (length (received log)) (to_fill c ops b)
  received_in_order = sym fill' ∙ kept.bytes_in.in_order ∙ rw (in_is, fill)

  -- No other byte changes.
  pub others_kept : to_keep c ops b' ≡ to_keep c ops b
  others_kept = keep-is q b b' refl same_length fits (λ i h. rw (← buffer-is) (kept.bytes_in.others i h))

  -- A transaction that is done has filled all of them.
  pub received_all : T (is_transaction c) → s'.step ≡ Ended → (n : ℕ) → s'.outcome ≡ Done n → to_fill c ops b' ≡ received log
  received_all t e n o = sym fill' ∙ kept.bytes_in.done (rw (transaction-is c) t) n (ended_as e n o) ∙ in_is

  -- ---- what `done` counts: of 9, 11, 25 and 27 the bytes received
  pub count_received : T (is_receiver c) → s'.step ≡ Ended → (n : ℕ) → s'.outcome ≡ Done n → n ≡ length (received log)
  count_received t e n o = (kept.count n (ended_as e n o)).received (rw (receiver-is c) t) ∙ ap length in_is

  -- of 10, 12, 26 and 28 one less than was put out, but no more than the buffer has (document 02, R-6)
  sent_count : T (is_sender c) → s'.step ≡ Ended → (n : ℕ) → s'.outcome ≡ Done n → n ≡ min (length (sent log) - 1) (length b)
  sent_count t e n o =
      (kept.count n (ended_as e n o)).transmitted (rw (sender-is c) t)
      ∙ ap (λ (l : List ℕ). min (length l - 1) (length b)) out-is

  -- with nothing put out it is 0
  pub count_none : T (is_sender c) → sent log ≡ [] → s'.step ≡ Ended → (n : ℕ) → s'.outcome ≡ Done n → n ≡ 0
  count_none t z e n o = sent_count t e n o ∙ ap (λ (l : List ℕ). min (length l - 1) (length b)) z ∙ omega arith

  -- up to one byte past the buffer, each counts as soon as the next is put out
  pub count_sent : T (is_sender c) → (m : ℕ) → length (sent log) ≡ m + 1 → m ≤ length b → s'.step ≡ Ended → (n : ℕ) → s'.outcome ≡ Done n → n ≡ m
  count_sent t m z h e n o = omega (arith, sent_count t e n o)

  -- and however many zeros follow, the buffer's length is the most
  pub count_most : T (is_sender c) → length b < length (sent log) → s'.step ≡ Ended → (n : ℕ) → s'.outcome ≡ Done n → n ≡ length b
  count_most t h e n o = omega (arith, sent_count t e n o)

  -- ---- what the saved call carries of it, whether it has ended or not: 26 and 28 a number of their own ..
  carried_out : T (numbered (26 ∷ 28 ∷ []) c) → s'.out ≡ min (length (sent log)) (length b + 1)
  carried_out t =
      ap (λ (s : SavedCall). s.out) (sym saved-is) ∙ kept.carried.manual_write_holds (is_manual_write c t)
      ∙ ap (λ (l : List ℕ). min (length l) (length b + 1)) out-is

  pub carried_in_blocks : T (numbered (26 ∷ 28 ∷ []) c) → length (sent log) ≤ length b + 1 → s'.out ≡ length (sent log)
  carried_in_blocks t h = omega (arith, carried_out t)

  pub carried_held : T (numbered (26 ∷ 28 ∷ []) c) → length b < length (sent log) → s'.out ≡ length b + 1
  carried_held t h = omega (arith, carried_out t)

  -- .. 10 and 12 the byte number ..
  pub carried_at_once : T (numbered (10 ∷ 12 ∷ []) c) → s'.byte ≡ min (length (sent log)) (length b + 1)
  carried_at_once t =
      ap (λ (s : SavedCall). s.byte) (sym saved-is) ∙ kept.carried.automatic (rw (sender-is c) (auto_sender c t)) (is_auto c t)
      ∙ ap (λ (l : List ℕ). min (length l) (length b + 1)) out-is

  -- .. and no other call any
  pub carried_nowhere : T (not (numbered (26 ∷ 28 ∷ []) c)) → s'.out ≡ 0
  carried_nowhere n = ap (λ (s : SavedCall). s.out) (sym saved-is) ∙ kept.carried.none (no_manual_write c n)

  -- ---- what an event says, a read or a write at the address n (document 02, R-5), by RM0492's bits
  module _ (reads : Bool) (n : ℕ) (e : s'.step ≡ Ended) (o : s'.outcome ≡ cond reads (EventRead n) (EventWrite n)) where
    named : EventAt q log reads n
    named = rw (← log_is []) at (kept.events reads n (record { ended = rw saved-is e; outcome = rw saved-is o }))

    pub event_asked : T (numbered (8 ∷ 24 ∷ []) c)
    event_asked = event-is c named.asked

    -- its status word is the last that ISR gave, and there is one
    pub event_polled : read_at 0x18 log ≢ []
    unfolding get_of bits_at
    event_polled h = absurd (subst T (sym (rw (reads_are Isr log, h) at named.matched)) tt)

    module _ (before : List ℕ) (status : ℕ) (polls : read_at 0x18 log ≡ before ++ status ∷ []) where
      status-is : status_in log ≡ status
      status-is = rw (reads_are Isr log, polls) (last_word 0 before status)

      pub event_matched : status / 8 % 2 ≡ 1
      unfolding get_of bits_at
      event_matched = eqb→eq (status / 8 % 2) 1 (subst T (sym (rw status-is at named.matched)) tt)

      pub event_direction : status / 65536 % 2 ≡ number reads
      unfolding get_of bits_at
      event_direction = one_or_none (status / 65536 % 2) (omega arith) ∙ ap number (rw status-is at named.direction)

      own_words : length (read_at 0x08 log) ≡ cond (ten_bit_header (status / 131072 % 128)) 1 0
      unfolding get_of bits_at
      own_words = rw (reads_are Oar1 log, status-is) at named.own

      by_words : (ws : List ℕ) → read_at 0x08 log ≡ ws → n ≡ address_by status ws
      by_words ws h = rw (reads_are Oar1 log, status-is, h) at named.address

      -- OAR1 is read, once, for ADDCODE 0x78 to 0x7B, and for no other
      pub own_read : 0x78 ≤ status / 131072 % 128 → status / 131072 % 128 ≤ 0x7B → length (read_at 0x08 log) ≡ 1
      own_read h g = own_words ∙ rw (header (status / 131072 % 128) h g)

      pub own_unread_below : status / 131072 % 128 < 0x78 → read_at 0x08 log ≡ []
      own_unread_below h = no_words (read_at 0x08 log) (own_words ∙ rw (no_header (status / 131072 % 128) (λ k. omega arith)))

      pub own_unread_above : 0x7B < status / 131072 % 128 → read_at 0x08 log ≡ []
      own_unread_above h = no_words (read_at 0x08 log) (own_words ∙ rw (no_header (status / 131072 % 128) (λ k. omega arith)))

      -- the address is OA1 of what it gave if that has OA1MODE 1, and else ADDCODE
      pub address_is_own : (w : ℕ) (ws : List ℕ) → read_at 0x08 log ≡ w ∷ ws → w / 1024 % 2 ≡ 1 → n ≡ w % 1024
      unfolding get_of bits_at
      address_is_own w ws h m = by_words (w ∷ ws) h ∙ rw m (omega arith)

      pub address_is_code : (w : ℕ) (ws : List ℕ) → read_at 0x08 log ≡ w ∷ ws → w / 1024 % 2 ≡ 0 → n ≡ status / 131072 % 128
      unfolding get_of bits_at
      address_is_code w ws h m = by_words (w ∷ ws) h ∙ rw m

      pub address_is_code_alone : read_at 0x08 log ≡ [] → n ≡ status / 131072 % 128
      unfolding get_of bits_at
      address_is_code_alone h = by_words [] h

  -- ---- the access number, which is held at its end
  pub access_number : s'.accesses ≡ min (accesses As) 4294967295
  access_number = ap (λ (s : SavedCall). s.accesses) (sym saved-is) ∙ kept.accesses ∙ ap (λ (k : ℕ). min k 4294967295) (accesses_are As)

-- Begin was refused: so is every advance, and nothing is done.
module _ (r : Refusal) (d : Description) (ops b : List ℕ) (As : List Advance) (s' : SavedCall) (b' : List ℕ)
    (begun : check_of d ops (length b) ≡ Err r) (leads : Leads d ops As (begun_of d ops (length b)).saved b s' b') where
  no_run : NoRun b As
  no_run = subst (λ (v : Result Call Refusal). Demand3 v d ops b As) begun (demand_3 d ops b As (led leads).follows)

  not_started : (begun_of d ops (length b)).saved ≡ no_call
  not_started = not_begun r d ops (length b) begun

  pub number_0 : (begun_of d ops (length b)).saved.call ≡ 0
  number_0 = ap (λ (s : SavedCall). s.call) not_started

  pub all_refused : Each Refuses As
  all_refused = go As no_run.refused
    where
      go : (As : List Advance) → AllRefused As → Each Refuses As
      go [] h = tt
      go (A ∷ As) h = (refuses A h.0, go As h.1)

  pub all_untouched : (before : List Advance) (A : Advance) (after : List Advance) (s : SavedCall) (x : List ℕ) → As ≡ before ++ A ∷ after →
      Leads d ops before (begun_of d ops (length b)).saved b s x → Refuses A → LeftAlone A s
  all_untouched before A after s x e l h =
      left_alone before A after no_call s (subst (λ (Bs : List Advance). RefusedUntouched Bs no_call) e no_run.untouched)
      (ap (saved_after before) (sym not_started) ∙ (led l).saved) h

  pub nothing_done : (accesses As ≡ 0) × (entries As ≡ []) × (b' ≡ b)
  nothing_done = (sym (accesses_are As) ∙ no_run.made, sym (entries_are As) ∙ no_run.joined, sym (led leads).buffer ∙ no_run.buffer)

-- ---- document 02, R-1, once more: read off `long_cards`

-- a transaction's pieces and runs are those of the list already cut, which document 01 takes
module _ (c : Call) (d : Description) (ops : List ℕ) (n : ℕ) (t : T (is_transaction c)) where
  cut : AsCut (request_of c d ops n)
  cut = long_cards.as_cut (request_of c d ops n) (rw (transaction-is c) t)

  pub pieces_as_cut : pieces_for c ops n ≡ map piece_of (already_cut ops)
  pieces_as_cut = cut.pieces

  pub pieces_short : (i : ℕ) → (piece_at (pieces_for c ops n) i).size ≤ 255
  pieces_short = cut.short

  pub short_as_before : ((i : ℕ) → length_of (get_or ops i 0) ≤ 255) → pieces_for c ops n ≡ map piece_of ops
  short_as_before h = cut.as_before (go ops h)
    where
      go : (os : List ℕ) → ((i : ℕ) → length_of (get_or os i 0) ≤ 255) → (i : ℕ) → (piece_at (map piece_of os) i).size ≤ 255
      go [] h i = omega arith
      go (o ∷ os) h zero = h 0
      go (o ∷ os) h (suc i) = go os (λ j. h (suc j)) i

  pub cut_makes_up_the_buffer : total ops ≡ n → total (already_cut ops) ≡ n
  cut_makes_up_the_buffer e = cut.sum ∙ e

  pub begin_as_cut : begin_of (request_of c d ops n) ≡ begin_of (request_of c d (already_cut ops) n)
  begin_as_cut = cut.begin

  pub run_as_cut : (k : ℕ) (s : SavedCall) (b l : List ℕ) →
      uncut_of (request_of c d ops n) k s b l ≡ uncut_of (request_of c d (already_cut ops) n) k s b l
  run_as_cut = cut.run

  pub row_13_as_cut : (s : SavedCall) → accepts (request_of c d ops n) s ≡ accepts (request_of c d (already_cut ops) n) s
  row_13_as_cut = cut.row_13

-- Of an operation of m bytes: pieces of 255, and a last one of the rest; all go its way. Of no byte there is one, which is empty.
module _ (o m : ℕ) (is : length_of o ≡ m) where
  pub one_at_least : 1 ≤ length (cut_of (piece_of o))
  one_at_least = (long_cards.cuts o).some

  pub make_up_the_operation : sizes (cut_of (piece_of o)) ≡ m
  make_up_the_operation = (long_cards.cuts o).sum ∙ is

  pub go_its_way : (i : ℕ) → i < length (cut_of (piece_of o)) → (piece_at (cut_of (piece_of o)) i).reads ≡ (piece_of o).reads
  go_its_way = (long_cards.cuts o).reads

  pub full_but_the_last : (i : ℕ) → i + 1 < length (cut_of (piece_of o)) → (piece_at (cut_of (piece_of o)) i).size ≡ 255
  full_but_the_last = (long_cards.cuts o).full

  pub within_1_and_255 : m ≢ 0 → (i : ℕ) → i < length (cut_of (piece_of o)) →
      (1 ≤ (piece_at (cut_of (piece_of o)) i).size) × ((piece_at (cut_of (piece_of o)) i).size ≤ 255)
  within_1_and_255 z i h = ((long_cards.cuts o).at_least (λ e. z (sym is ∙ e)) i h, (long_cards.cuts o).at_most i)

-- nothing is refused as 9
pub never_9 : (d : Description) (ops : List ℕ) (n : ℕ) (r : Refusal) → check_of d ops n ≡ Err r → refusal_number r ≢ 9
never_9 d ops n r h = long_cards.no_nine r
