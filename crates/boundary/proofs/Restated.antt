-- What the contracts of the ten exported functions say, again and in other words. Nothing rests on this file: it is proved so
-- that a contract that loses a part is noticed. Assumes nothing.
use Rattle.std.specs.Prelude.{Result, Ok, Err, Option, Some, None}
use Prim.Native.Nat.{ℕ, ◌/◌, ◌%◌, ◌^◌, ◌*◌, ◌≤◌, ◌<◌}
use mathlib.Core.Path.{◌≡◌, refl, sym, ap, ◌∙◌}
use mathlib.Core.Bool.{Bool, true, false, not, ◌&&◌, ◌||◌}
use mathlib.Core.List.{List, [], ◌∷◌, ◌++◌}
use lib.Dec.{T, eqb, ltb, leb, ltb→lt, lt→ltb, lit<, leb-zero}
use lib.ListN.{length, get_or, drop}
use borrow.Author.Tests.{eq-eqb, lt-ltb, lt-leb}
use Rattle.words.proofs.Turns.{in_words, length_bytes}
use Rattle.calls.proofs.Every.{every_step}
use Rattle.calls.proofs.Joined.{within}
use Rattle.calls.proofs.Logic.{is_true, is_false}
use Rattle.calls.specs.Calls.{transaction, manual, receives, transmits}
use Rattle.calls.specs.Outcomes.{waiting_number, refused_number, refusal_number, outcome_number, report_number, awaited_of}
use Rattle.calls.specs.Refusals.{check_of, list_wrong, buffer_wrong}
use Rattle.calls.specs.Run.{Entry, words_of, no_call, Run}
use Rattle.calls.specs.Steps.{begin_of, step_number}
use Rattle.calls.specs.declared.Call.{Call}
use Rattle.calls.specs.declared.Next.{Next}
use Rattle.calls.specs.declared.Next.TheVariants as next
use Rattle.calls.specs.declared.Outcome.{Outcome}
use Rattle.calls.specs.declared.Outcome.TheVariants.{Done, Bus, Arbitration, Nack, Stopped, ExpectedWrite, ExpectedRead, EventRead, EventWrite, EventStop}
use Rattle.calls.specs.declared.Refusal.{Refusal}
use Rattle.calls.specs.declared.Report.{Report}
use Rattle.calls.specs.declared.Report.TheVariants.{Over, Full, Waiting, Refused}
use Rattle.calls.specs.declared.SavedCall.{SavedCall}
use Rattle.calls.specs.declared.Step.{Step}
use Rattle.driver.proofs.CameBack.{CameBack}
use Rattle.driver.specs.Next.{next_for}
use Rattle.fields.specs.Field.{place, get_of, put_of, with_bits}
use Rattle.page.proofs.Promised.{page_promises}
use Rattle.page.specs.Page.{lines_of, text_of, page_of, fault_from, fault_of, page_in}
use Rattle.page.specs.Promises.{EachKnown}
use Rattle.registers.specs.Map.{offset_of}
use Rattle.registers.specs.declared.Register.{Register}
use Rattle.saved.specs.Saved.{saved_length, saved_bytes, saved_in, written_to}
use Rattle.bands.proofs.Promised.{band_promises}
use Rattle.bands.specs.Bands.{accepted, loaded_of, timing_by, five_bands}
use Rattle.bands.specs.Promises.{Rule}
use Rattle.bands.specs.Table.{bands_in}
use Rattle.timing.specs.declared.Band.{Band}
use Rattle.timing.proofs.Round.{Within, packs, unpack_pack, pack_unpack}
use Rattle.timing.specs.Bands.{timing_of, band_of, in_band_of, equal_at, double_at}
use Rattle.timing.specs.Refusals.{timing_refusal_number as timingNumber}
use Rattle.timing.specs.Timingr.{timingr_word, pack_of, unpack_of}
use Rattle.timing.specs.declared.I2cTiming.{I2cTiming}
use Rattle.timing.specs.declared.TimingRefusal as timing-refusal
use Rattle.words.specs.Words.{Below, words_in, bytes_of}
use Rattle.boundary.specs.Abi.{AbiLeft}
use Rattle.boundary.specs.Calls.{description_of, operations_in, access_answer, numbers_of, answer_for}
use Rattle.boundary.specs.Demand.{BoundaryBegin, BoundaryAdvance, says_refused, answer_of, request_in}
use Rattle.boundary.specs.Page.{PageLeft, as_page_left, page_left}
use Rattle.boundary.specs.Timing.{TimingAnswer, packed_answer, timed_answer, timing_in, fields_of}
use Rattle.boundary.specs.declared.call.AccessAnswer.{AccessAnswer}
use Rattle.boundary.proofs.Demand.{run_in, said, stopped, saved_length_holds, written_here, begin_said, positive, BeginCall, beginning, AdvanceCall, advancing}
use Rattle.boundary.specs.contracts.huskerivory_abi as abi
use Rattle.boundary.proofs.huskerivory_abi.Reads as abi-reads
use Rattle.boundary.specs.contracts.huskerivory_load_bands as load
use Rattle.boundary.proofs.huskerivory_load_bands.Reads as load-reads
use Rattle.boundary.specs.contracts.huskerivory_timing_by_bands as by-bands
use Rattle.boundary.proofs.huskerivory_timing_by_bands.Reads as by-bands-reads
use Rattle.boundary.specs.contracts.huskerivory_next as next-access
use Rattle.boundary.proofs.huskerivory_next.Reads as next-reads
use Rattle.boundary.specs.contracts.huskerivory_page as page
use Rattle.boundary.proofs.huskerivory_page.Reads as page-reads
use Rattle.boundary.specs.contracts.huskerivory_pack as pack
use Rattle.boundary.proofs.huskerivory_pack.Reads as pack-reads
use Rattle.boundary.specs.contracts.huskerivory_timing as timing
use Rattle.boundary.proofs.huskerivory_timing.Reads as timing-reads
use Rattle.boundary.specs.contracts.huskerivory_unpack as unpack
use Rattle.boundary.proofs.huskerivory_unpack.Reads as unpack-reads

no_and : (a b : Bool) → b ≡ false → (a && b) ≡ false
no_and true b e = e
no_and false b e = refl

or_right : (a b : Bool) → T b → T (a || b)
or_right true b h = tt
or_right false b h = h

outcome_below : (o : Outcome) → outcome_number o < 13
outcome_below (Done n) = lit< tt
outcome_below Bus = lit< tt
outcome_below Arbitration = lit< tt
outcome_below Nack = lit< tt
outcome_below Stopped = lit< tt
outcome_below ExpectedWrite = lit< tt
outcome_below ExpectedRead = lit< tt
outcome_below (EventRead n) = lit< tt
outcome_below (EventWrite n) = lit< tt
outcome_below EventStop = lit< tt

report_below : (r : Report) → report_number r < 13
report_below (Over o) = outcome_below o
report_below Full = lit< tt
report_below (Waiting k) = lit< tt
report_below (Refused r) = lit< tt

-- ---- what a caller compares: the version and the sizes, and what each size is the size of
abbrev AbiCall : Type 0
AbiCall = CameBack abi.ended abi-reads.Post

module _ (C : AbiCall) where
  abbrev sizes : List ℕ
  sizes = (let (sizes, _) = C.left in sizes.now)

  same_sizes : sizes ≡ 64 ∷ 36 ∷ 32 ∷ 8 ∷ 64 ∷ 65535 ∷ 13 ∷ 46 ∷ []
  same_sizes = ap (λ (A : AbiLeft). A.sizes) C.contract

  abi_version : C.gave ≡ 3
  abi_version = ap (λ (A : AbiLeft). A.version) C.contract

  abi_saved : (s : SavedCall) → length (saved_bytes s) ≡ get_or sizes 1 0
  abi_saved s = saved_length_holds s ∙ rw same_sizes

  abi_answer : (r : Report) (used written : ℕ) → 8 * length (numbers_of (answer_for r used written)) ≡ get_or sizes 2 0
  abi_answer r used written = rw same_sizes

  abi_entry : (e : Entry) → length (bytes_of (words_of (e ∷ []))) ≡ get_or sizes 3 0
  abi_entry e = length_bytes (words_of (e ∷ [])) ∙ rw same_sizes

  abi_operations : (c : Call) (ops : List ℕ) (n : ℕ) → T (transaction c) → get_or sizes 4 0 < length ops → list_wrong c ops n ≡ true
  abi_operations c ops n t h = rw (is_true (transaction c) t, lt-ltb 64 (length ops) (rw same_sizes at h))

  abi_buffer : (c : Call) (n : ℕ) → get_or sizes 5 0 < n → T (buffer_wrong c n)
  abi_buffer c n h = or_right (((receives c || transmits c) && not (manual c)) && eqb n 0) (ltb 65535 n) (lt→ltb _ _ (rw same_sizes at h))

  abi_reports : (r : Report) → report_number r < get_or sizes 6 0
  abi_reports r = rw same_sizes (report_below r)

  abi_steps : (t : Step) → step_number t < get_or sizes 7 0
  abi_steps t = rw same_sizes (ltb→lt (step_number t) 46 (every_step (λ u. ltb (step_number u) 46) tt t))

-- ---- the timing: its word, or its refusal's number and no word
abbrev TimingCall : Type 0
TimingCall = CameBack timing.ended timing-reads.Post

abbrev timed : TimingCall → TimingAnswer
timed C = (let (_, (_, (timingr, _))) = C.left in record { refusal = C.gave; timingr = timingr.now })

timing_word : (C : TimingCall) (t : I2cTiming) → let (clock, (frequency, _)) = C.given in
    timing_of clock frequency ≡ Ok t → timed C ≡ record { refusal = 0; timingr = timingr_word t }
timing_word C t e = C.contract ∙ ap timed_answer e

timing_refused : (C : TimingCall) (why : timing-refusal.TimingRefusal) → let (clock, (frequency, _)) = C.given in
    timing_of clock frequency ≡ Err why → timed C ≡ record { refusal = timingNumber why; timingr = 0 }
timing_refused C why e = C.contract ∙ ap timed_answer e

timing_400_k_hz : (C : TimingCall) → let (clock, (frequency, _)) = C.given in
    clock ≡ 250000000 → frequency ≡ 400000 → timed C ≡ record { refusal = 0; timingr = 0x60FB1C39 }
unfolding timing_of band_of in_band_of equal_at double_at put_of with_bits
timing_400_k_hz C e f = C.contract ∙ rw (e, f)

-- ---- a board's own bands: 0 or 16 on loading, and a timing's word, or its refusal's number and no word
abbrev LoadCall : Type 0
LoadCall = CameBack load.ended load-reads.Post

module _ (C : LoadCall) where
  abbrev looked_at : List Band
  looked_at = (let (bytes, _) = C.given in bands_in bytes.now)

  bands_loaded : Rule looked_at → C.gave ≡ 0
  unfolding loaded_of
  bands_loaded R = C.contract ∙ rw (band_promises.accepts looked_at R)

  bands_not_loaded : accepted looked_at ≡ false → C.gave ≡ 16
  unfolding loaded_of
  bands_not_loaded e = C.contract ∙ rw e

abbrev BandsCall : Type 0
BandsCall = CameBack by-bands.ended by-bands-reads.Post

module _ (C : BandsCall) where
  abbrev lent_bands : List Band
  lent_bands = (let (bytes, _) = C.given in bands_in bytes.now)

  abbrev timed_by : TimingAnswer
  timed_by = (let (_, (_, (_, (timingr, _)))) = C.left in record { refusal = C.gave; timingr = timingr.now })

  bands_word : (t : I2cTiming) → let (_, (clock, (frequency, _))) = C.given in
      timing_by lent_bands clock frequency ≡ Ok t → timed_by ≡ record { refusal = 0; timingr = timingr_word t }
  bands_word t e = C.contract ∙ ap timed_answer e

  bands_refused : (why : timing-refusal.TimingRefusal) → let (_, (clock, (frequency, _))) = C.given in
      timing_by lent_bands clock frequency ≡ Err why → timed_by ≡ record { refusal = timingNumber why; timingr = 0 }
  bands_refused why e = C.contract ∙ ap timed_answer e

  -- with document 01's five bands, what `huskerivory_timing` gives
  bands_five : (D : TimingCall) → lent_bands ≡ five_bands → let (_, (clock, (frequency, _))) = C.given in let (clock', (frequency', _)) = D.given in
      clock ≡ clock' → frequency ≡ frequency' → frequency < 2 ^ 32 → timed_by ≡ timed D
  bands_five D b e f h =
      let (_, (clock, (frequency, _))) = C.given in
      let (clock', (frequency', _)) = D.given in
      C.contract
      ∙ ap (λ (bs : List Band). timed_answer (timing_by bs clock frequency)) b
      ∙ ap timed_answer (band_promises.five clock frequency h)
      ∙ ap (λ (c : ℕ). timed_answer (timing_of c frequency)) e
      ∙ ap (λ (g : ℕ). timed_answer (timing_of clock' g)) f
      ∙ sym D.contract

-- ---- packing and unpacking undo each other across the boundary, and a field of four bits takes no more than 15
abbrev PackCall : Type 0
PackCall = CameBack pack.ended pack-reads.Post

abbrev UnpackCall : Type 0
UnpackCall = CameBack unpack.ended unpack-reads.Post

abbrev fields : PackCall → List ℕ
fields P = (let (fields, _) = P.given in fields.now)

abbrev packed : PackCall → TimingAnswer
packed P = (let (_, (timingr, _)) = P.left in record { refusal = P.gave; timingr = timingr.now })

abbrev unpacked : UnpackCall → List ℕ
unpacked U = (let (_, (fields, _)) = U.left in fields.now)

module _ (P : PackCall) (presc scldel sdadel sclh scll : ℕ) (lent : fields P ≡ presc ∷ scldel ∷ sdadel ∷ sclh ∷ scll ∷ []) where
  abbrev t : I2cTiming
  t = record { presc = presc; scldel = scldel; sdadel = sdadel; sclh = sclh; scll = scll }

  of_fields : packed P ≡ packed_answer (pack_of t)
  of_fields = P.contract ∙ ap (λ (l : List ℕ). packed_answer (pack_of (timing_in l))) lent

  packed_unpacked : (U : UnpackCall) → presc < 16 → scldel < 16 → sdadel < 16 → sclh < 256 → scll < 256 → U.given.0 ≡ (packed P).timingr →
      ((packed P).refusal ≡ 0) × (unpacked U ≡ presc ∷ scldel ∷ sdadel ∷ sclh ∷ scll ∷ [])
  packed_unpacked U a b c d e f =
      let w : Within t = record { presc = a; scldel = b; sdadel = c; sclh = d; scll = e } in
      let said = of_fields ∙ ap packed_answer (packs t w) in
      let word : U.given.0 ≡ timingr_word t = f ∙ ap (λ (A : TimingAnswer). A.timingr) said in
      (ap (λ (A : TimingAnswer). A.refusal) said, U.contract ∙ rw word (ap fields_of (unpack_pack t w)))

  pack_wide : (15 < presc → packed P ≡ record { refusal = 7; timingr = 0 }) × (15 < scldel → packed P ≡ record { refusal = 7; timingr = 0 })
      × (15 < sdadel → packed P ≡ record { refusal = 7; timingr = 0 })
  unfolding pack_of
  pack_wide =
      let fits : Bool = leb presc 15 && (leb scldel 15 && leb sdadel 15) in
      let wide : fits ≡ false → packed P ≡ record { refusal = 7; timingr = 0 } = λ e. of_fields ∙ rw e in (
        λ h. wide (rw (lt-leb presc 15 h)),
        λ h. wide (no_and (leb presc 15) _ (rw (lt-leb scldel 15 h))),
        λ h. wide (no_and (leb presc 15) _ (no_and (leb scldel 15) _ (lt-leb sdadel 15 h))),
      )

unpacked_packed : (U : UnpackCall) (P : PackCall) → let w : ℕ = U.given.0 in
    w < 2 ^ 32 → get_of w (place 24 4) ≡ 0 → fields P ≡ unpacked U → packed P ≡ record { refusal = 0; timingr = w }
unpacked_packed U P a b e =
    let u : fields P ≡ fields_of (unpack_of (record { 0 = U.given.0 })) = e ∙ U.contract in
    P.contract ∙ ap (λ (l : List ℕ). packed_answer (pack_of (timing_in l))) u ∙ ap packed_answer (pack_unpack (record { 0 = U.given.0 }) a b)

-- ---- begin: 0 and the begun call's bytes, or a refusal's number and the bytes that no advance takes; a place of another length
-- is left as it was
module _ (B : BeginCall) where
  abbrev begin : BoundaryBegin
  begin = beginning B

  abbrev verdict : Result Call Refusal
  verdict = check_of (description_of begin.description) (operations_in begin.operations) (length begin.buffer)

  begin_accepted : (c : Call) → verdict ≡ Ok c → length begin.saved ≡ saved_length →
      (begin.refusal ≡ 0) × (begin.saved_left ≡ saved_bytes (begin_of (request_in begin c)))
  begin_accepted c e l =
      let s = begin_said begin (Ok c) e in
      (s.refusal ∙ rw (eq-eqb (length begin.saved) saved_length l), s.saved ∙ written_here begin.saved (begin_of (request_in begin c)) l)

  begin_refused : (r : Refusal) → verdict ≡ Err r → length begin.saved ≡ saved_length →
      (begin.refusal ≡ refusal_number r) × (begin.saved_left ≡ saved_bytes no_call)
  begin_refused r e l =
      let s = begin_said begin (Err r) e in
      (s.refusal, s.saved ∙ written_here begin.saved no_call l)

  begin_elsewhere : T (not (eqb (length begin.saved) saved_length)) → (begin.saved_left ≡ begin.saved) × (0 < begin.refusal)
  unfolding written_to
  begin_elsewhere h = go verdict refl
    where
      f : eqb (length begin.saved) saved_length ≡ false
      f = is_false (eqb (length begin.saved) saved_length) h

      go : (v : Result Call Refusal) → verdict ≡ v → (begin.saved_left ≡ begin.saved) × (0 < begin.refusal)
      go (Ok c) e = (let s = begin_said begin (Ok c) e in (s.saved ∙ rw f, rw (s.refusal, f) (lit< tt)))
      go (Err r) e = (let s = begin_said begin (Err r) e in (s.saved ∙ rw f, rw s.refusal (positive r)))

-- ---- one advance, whatever it was lent: it stays within its slices; a refused one uses nothing, writes nothing and leaves each
-- byte; a waiting one names the register that the next access reads, and no other names one
awaits_nothing : (r : Report) → T (not (eqb (report_number r) waiting_number)) → awaited_of r ≡ 0
awaits_nothing (Over o) h = refl
awaits_nothing Full h = refl
awaits_nothing (Waiting k) h = absurd h
awaits_nothing (Refused r) h = refl

module _ (C : AdvanceCall) where
  abbrev advance : BoundaryAdvance
  advance = advancing C

  abbrev R : Run
  R = run_in advance

  advance_within : ((answer_of advance).written ≤ length advance.log / 8) × ((answer_of advance).used ≤ length advance.answers / 4)
      × (length advance.buffer_left ≡ length advance.buffer)
  advance_within =
      let s = said advance in
      let w = within (description_of advance.description) (operations_in advance.operations) (length advance.log / 8)
      (saved_in advance.saved) advance.buffer (words_in advance.answers) in
      (rw s.written w.entries, rw (s.used, ← in_words advance.answers) w.used, ap length s.buffer ∙ w.buffer)

  advance_refused : advance.report ≡ refused_number →
      ((answer_of advance).used ≡ 0) × ((answer_of advance).written ≡ 0) × (advance.saved_left ≡ advance.saved)
      × (advance.buffer_left ≡ advance.buffer) × (advance.log_left ≡ advance.log)
  advance_refused e =
      let s = said advance in
      let h : T (says_refused advance) = rw e tt in
      let z = stopped advance h in (
        s.used ∙ z.used,
        s.written ∙ ap length z.entries,
        s.saved ∙ rw (is_true (says_refused advance) h),
        s.buffer ∙ z.buffer,
        s.log ∙ rw z.entries,
      )

  advance_awaits : (r : Register) → R.report ≡ Waiting r → (advance.report ≡ waiting_number) × ((answer_of advance).awaited ≡ offset_of r)
  advance_awaits r e = ((said advance).number ∙ rw e, (said advance).awaited ∙ rw e)

  advance_awaits_nothing : T (not (eqb advance.report waiting_number)) → (answer_of advance).awaited ≡ 0
  advance_awaits_nothing h =
      (said advance).awaited ∙ awaits_nothing R.report (rw (← (said advance).number) h)

  -- what was lent were bytes
  advance_lent : Below 256 advance.buffer × Below 256 advance.answers
  advance_lent = (advance.buffer_bytes, advance.answer_bytes)

-- ---- the next access: nothing, a read or a write with the register's offset, or a refusal's number
abbrev NextCall : Type 0
NextCall = CameBack next-access.ended next-reads.Post

module _ (N : NextCall) where
  abbrev says : Next → Type 0
  says x =
      let (description, (operations, (saved, (buffer, _)))) = N.given in
      next_for (description_of description.now) (operations_in operations.now) (saved_in saved.now) buffer.now ≡ x

  abbrev access : AccessAnswer
  access = (let (_, (_, (_, (_, (value, _))))) = N.left in record { kind = N.gave; value = value.now })

  next_over : says next.Over → access ≡ record { kind = 0; value = 0 }
  next_over e = N.contract ∙ ap access_answer e

  next_read : (r : Register) → says (next.Read r) → access ≡ record { kind = 1; value = offset_of r }
  next_read r e = N.contract ∙ ap access_answer e

  next_write : (r : Register) → says (next.Write r) → access ≡ record { kind = 2; value = offset_of r }
  next_write r e = N.contract ∙ ap access_answer e

  next_refused : (r : Refusal) → says (next.Refused r) → access ≡ record { kind = 3; value = refusal_number r }
  next_refused r e = N.contract ∙ ap access_answer e

-- ---- a service page: 0 with its length, and the page before what stood after it; or 15 with length 0, and every byte as it was
abbrev PageCall : Type 0
PageCall = CameBack page.ended page-reads.Post

no_entries : (lent : List ℕ) → page_left (page_in [] lent) ≡ as_page_left 0 0 lent
unfolding page_in fault_of fault_from words_in lines_of text_of
no_entries lent = rw (leb-zero (length lent))

module _ (C : PageCall) where
  abbrev log : List ℕ
  log = (let (log, _) = C.given in log.now)

  abbrev lent : List ℕ
  lent = (let (_, (page, _)) = C.given in page.now)

  abbrev page_left_holds : PageLeft
  page_left_holds = (let (_, (page, (length, _))) = C.left in as_page_left C.gave length.now page.now)

  abbrev page_text : List ℕ
  page_text = page_of (words_in log)

  page_laid : length log % 8 ≡ 0 → EachKnown (words_in log) → length page_text ≤ length lent →
      page_left_holds ≡ as_page_left 0 (length page_text) (page_text ++ drop (length page_text) lent)
  page_laid h k l = C.contract ∙ ap page_left (page_promises.accepted log lent h k l)

  page_refused : (length log % 8 ≡ 0 → EachKnown (words_in log) → length page_text ≤ length lent → ⊥) → page_left_holds ≡ as_page_left 15 0 lent
  page_refused n = C.contract ∙ go (page_in log lent).page refl
    where
      go : (p : Option ℕ) → (page_in log lent).page ≡ p → page_left (page_in log lent) ≡ as_page_left 15 0 lent
      go (Some k) e = absurd (let (h, l, m) = page_promises.only_then log lent k e in n h l m)
      go None e = rw (e, page_promises.unchanged log lent e)

  page_of_nothing : log ≡ [] → page_left_holds ≡ as_page_left 0 0 lent
  page_of_nothing e = C.contract ∙ ap (λ (l : List ℕ). page_left (page_in l lent)) e ∙ no_entries lent
