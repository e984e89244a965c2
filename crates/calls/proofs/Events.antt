-- An event says the address that stands in its log, for every order of flags: the way of an event is followed step by step, with
-- what was read of ISR and OAR1 by then. Assumes nothing.
use Prim.Native.Nat.{ℕ}
use mathlib.Core.Path.{subst⁻¹, ◌≡◌, refl, sym, ap, ap₂, ◌∙◌}
use mathlib.Core.Bool.{Bool, true, false, cond, not}
use mathlib.Core.List.{List, [], ◌∷◌, ◌++◌, append_assoc, append-nil}
use lib.Dec.{T, T_not, not_T, eqb}
use lib.ListN.{length}
use Rattle.fields.specs.Field.{get_of, flag_of}
use Rattle.registers.specs.Map.{offset_of}
use Rattle.registers.specs.Places.{ISR_TXE, ISR_ADDR, ISR_STOPF, ISR_BERR, ISR_ARLO, ISR_DIR, ISR_ADDCODE}
use Rattle.registers.specs.declared.Register.TheVariants.{Oar1, Isr}
use Rattle.calls.specs.Bytes.{EndedAs}
use Rattle.calls.specs.Calls.{Request, is_kind, manual}
use Rattle.calls.specs.Events.{reads_of, last_of, status_in, address_by, event_by, EventAt, Events}
use Rattle.calls.specs.Outcomes.{is_event_read, outcome_value, readdressed}
use Rattle.calls.specs.Pieces.{view_of}
use Rattle.calls.specs.Refusals.{accepts, has_pieces}
use Rattle.calls.specs.Run.{Entry, Uncut, uncut_of}
use Rattle.calls.specs.Steps.{access_at, access_of, effect_at, apply_of, noted, own_or, clear_step, event_of, address_found, find_address, address_event, event_in, ten_bit_header, begin_at, begin_of, same_step}
use Rattle.calls.specs.declared.Access.{Access}
use Rattle.calls.specs.declared.Call.{Call}
use Rattle.calls.specs.declared.Call.TheVariants.{WaitForEvent}
use Rattle.calls.specs.declared.Effect.{Effect}
use Rattle.calls.specs.declared.Effect.TheVariants.{Goes, Loads, Notes, Next, Enters, Fails, Ends}
use Rattle.calls.specs.declared.Modify.TheVariants.{SbcOff, ReloadClear, SbcOn, ReloadOn}
use Rattle.calls.specs.declared.Outcome.{Outcome}
use Rattle.calls.specs.declared.Outcome.TheVariants.{Done}
use Rattle.calls.specs.declared.SavedCall.{SavedCall}
use Rattle.calls.specs.declared.Step.{Step}
use Rattle.calls.specs.declared.Step.TheVariants.{Ended, Byte, Event, EventFlush, EventClear, Address, ModifyRead, ModifyWrite}
use Rattle.calls.specs.declared.View.{View}
use Rattle.calls.proofs.Logic.{only_use, by_test, is_true, is_false}
use Rattle.calls.proofs.Every.{is_eq}
use Rattle.calls.proofs.Fits.{in_event, is_event, edge_ok, from_event, Fits}
use Rattle.calls.proofs.Accepted.{accepted_after, accepted_begin}
use Rattle.calls.proofs.Along.{entry_of, made, read_log, Keeps, along}
use Rattle.calls.proofs.Bytes.{Taken, step_taken}
use Rattle.calls.proofs.Views.{noted_in, after_noted}

-- ---- A reader of the log: the last word of ISR, and the words of OAR1

record Words : Type 0 where
  status : ℕ
  own : List ℕ

abbrev note : Words → Entry → Words
note z e = record {
  status = cond (eqb e.code (offset_of Isr)) e.value z.status;
  own = cond (eqb e.code (offset_of Oar1)) (z.own ++ e.value ∷ []) z.own;
}

abbrev unread : Words
unread = record { status = 0; own = [] }

status_noted : (z : Words) (es : List Entry) → (read_log note z es).status ≡ last_of z.status (reads_of Isr es)
status_noted z [] = refl
status_noted z (e ∷ es) = status_noted (note z e) es ∙ go (eqb e.code (offset_of Isr))
  where
    go : (c : Bool) → last_of (cond c e.value z.status) (reads_of Isr es) ≡ last_of z.status (cond c (e.value ∷ []) [] ++ reads_of Isr es)
    go true = refl
    go false = refl

own_noted : (z : Words) (es : List Entry) → (read_log note z es).own ≡ z.own ++ reads_of Oar1 es
own_noted z [] = sym (append-nil z.own)
own_noted z (e ∷ es) = own_noted (note z e) es ∙ go (eqb e.code (offset_of Oar1))
  where
    go : (c : Bool) → cond c (z.own ++ e.value ∷ []) z.own ++ reads_of Oar1 es ≡ z.own ++ (cond c (e.value ∷ []) [] ++ reads_of Oar1 es)
    go true = append_assoc z.own (e.value ∷ []) (reads_of Oar1 es)
    go false = refl

-- ---- Where an event stands

-- the event that these words tell
abbrev told : Words → Outcome
told z = event_by (flag_of z.status ISR_DIR) (address_by z.status z.own)

abbrev code_in : Words → ℕ
code_in z = get_of z.status ISR_ADDCODE

-- addressed, and the address not looked for yet; and with the address found
record Matched (z : Words) (o : Outcome) : Type 0 where
  matched : T (flag_of z.status ISR_ADDR)
  own : z.own ≡ []
  event : o ≡ told z

record Found (z : Words) (o : Outcome) : Type 0 where
  matched : T (flag_of z.status ISR_ADDR)
  own : length z.own ≡ cond (ten_bit_header (code_in z)) 1 0
  event : o ≡ told z

-- at each step of an event, with the outcome that is on its way; at all other steps no event is
data Stands (c : Call) (z : Words) (o : Outcome) : Step → Type 0 where
  awaits : z.own ≡ [] → T (not (is_event o)) → Stands c z o Event
  flushes : Matched z o → Stands c z o EventFlush
  clears : T (not (manual c)) → Matched z o → Stands c z o EventClear
  sbc_off : Matched z o → Stands c z o (ModifyRead SbcOff)
  sbc_is_off : Matched z o → Stands c z o (ModifyWrite SbcOff)
  reload_off : Matched z o → Stands c z o (ModifyRead ReloadClear)
  reload_is_off : Matched z o → Stands c z o (ModifyWrite ReloadClear)
  looks : T (ten_bit_header (code_in z)) → Matched z o → Stands c z o Address
  cleared : T (manual c) → Found z o → Stands c z o EventClear
  sbc_on : Found z o → Stands c z o (ModifyRead SbcOn)
  sbc_is_on : Found z o → Stands c z o (ModifyWrite SbcOn)
  reload_on : Found z o → Stands c z o (ModifyRead ReloadOn)
  reload_is_on : Found z o → Stands c z o (ModifyWrite ReloadOn)
  ended : T (is_kind c WaitForEvent) → Found z o → Stands c z o Ended
  other : {t : Step} → T (not (in_event t)) → T (not (is_event o)) → Stands c z o t

-- ---- What the words say of the outcome

value_by : (reads : Bool) (n : ℕ) → outcome_value (event_by reads n) ≡ n
value_by true n = refl
value_by false n = refl

reads_by : (reads : Bool) (n : ℕ) → is_event_read (event_by reads n) ≡ reads
reads_by true n = refl
reads_by false n = refl

is_event_holds : (reads : Bool) (n : ℕ) → T (is_event (event_by reads n))
is_event_holds true n = tt
is_event_holds false n = tt

readdressed_by : (reads : Bool) (n m : ℕ) → readdressed (event_by reads n) m ≡ event_by reads m
readdressed_by true n m = refl
readdressed_by false n m = refl

code_is : (z : Words) (o : Outcome) → Matched z o → outcome_value o ≡ code_in z
code_is z o m = rw (m.event, m.own) (value_by (flag_of z.status ISR_DIR) (code_in z))

-- no header: what was matched is the address
found_by_code : (z : Words) (o : Outcome) → Matched z o → T (not (ten_bit_header (code_in z))) → Found z o
found_by_code z o m n =
    record { matched = m.matched; own = rw (m.own, is_false (ten_bit_header (code_in z)) n); event = m.event }

-- a header: OAR1's word w decides
found_by_own : (z : Words) (o : Outcome) (w : ℕ) → Matched z o → T (ten_bit_header (code_in z)) →
    Found (record { status = z.status; own = z.own ++ w ∷ [] }) (readdressed o (own_or (outcome_value o) w))
found_by_own z o w m h = record {
  matched = m.matched;
  own = rw (m.own, is_true (ten_bit_header (code_in z)) h);
  event = rw (code_is z o m, m.event, m.own) (readdressed_by (flag_of z.status ISR_DIR) (code_in z) (own_or (code_in z) w));
}

-- ---- The ways on

abbrev After : Call → Words → SavedCall → ℕ → Effect → Type 0
After c z s a n = Stands c z (apply_of s a n).outcome (apply_of s a n).step

module _ (c : Call) (z : Words) (s : SavedCall) (a : ℕ) where
  abbrev P : Effect → Type 0
  P n = After c z s a n

  over : (some : Bool) → Found z s.outcome → After c z s a (event_of c some s)
  over some f = search (by_test P, by_test (Stands c z (Done 0)), ended, other, tt) depth 16

  found : (some : Bool) → Found z s.outcome → After c z s a (address_found c some s)
  found some f = search (by_test P, over, cleared, sbc_on)

  finds : (some : Bool) → Matched z s.outcome → After c z s a (find_address c some s)
  finds some m =
      let e = code_is z s.outcome m in
      by_test P (ten_bit_header (outcome_value s.outcome))
      (λ h. looks (rw e at h) m)
      (λ n. found some (found_by_code z s.outcome m (rw e at n)))

  clear : (o : Outcome) → Matched z o → Stands c z o (clear_step c)
  clear o m = by_test (Stands c z o) (manual c) (λ _. sbc_off m) (λ n. clears n m)

  addressed : (o : Outcome) → Matched z o → After c z s a (address_event c a o)
  addressed o m = by_test P (flag_of a ISR_TXE) (λ _. clear o m) (λ _. flushes m)

-- the status word a of an event
matched_by : (z : Words) (a : ℕ) → z.own ≡ [] → T (flag_of a ISR_ADDR) →
    Matched (record { status = a; own = z.own }) (event_by (flag_of a ISR_DIR) (get_of a ISR_ADDCODE))
matched_by z a e m = record { matched = m; own = e; event = rw e }

event_read : (c : Call) (z : Words) (s : SavedCall) (a : ℕ) → z.own ≡ [] → T (not (is_event s.outcome)) →
    After c (record { status = a; own = z.own }) s a (event_in c a)
event_read c z s a e n =
    by_test P (flag_of a ISR_BERR) (λ _. other tt n) (λ _.
    by_test P (flag_of a ISR_ARLO) (λ _. other tt n) (λ _.
    by_test P (flag_of a ISR_ADDR)
    (λ m.
    let M = matched_by z a e m in
    by_test P (flag_of a ISR_DIR)
    (λ r. addressed c z' s a _ (rw (is_true (flag_of a ISR_DIR) r) at M))
    (λ w. addressed c z' s a _ (rw (is_false (flag_of a ISR_DIR) w) at M)))
    (λ _. by_test P (flag_of a ISR_STOPF) (λ _. other tt n) (λ _. awaits e n))))
  where
    z' : Words
    z' = record { status = a; own = z.own }

    P : Effect → Type 0
    P = After c z' s a

-- ---- Each access keeps it

-- a step outside an event leads to none of its steps, and to no event's outcome
outside : (t u : Step) → T (not (in_event t)) → T (edge_ok t u) → T (not (in_event u))
outside t u n e = not_T (in_event u) (λ y. T_not (in_event t) n (only_use (in_event u) (T (in_event t)) y (from_event t u e)))

away : (q : Request) (z : Words) (s : SavedCall) (a : ℕ) (t : Step) (n : Effect) →
    T (not (in_event t)) → T (not (is_event s.outcome)) → Fits q s t n → After q.call z s a n
away q z s a t (Goes u) i h f = other (outside t u i f.edge) h
away q z s a t (Loads u) i h f = other (outside t u i f.edge) h
away q z s a t (Notes o u) i h f = absurd (T_not (in_event t) i f.why.1)
away q z s a t (Next u) i h f = other f.why.3 h
away q z s a t (Enters u) i h f = absurd (T_not (in_event t) i f.why.0)
away q z s a t (Fails o) i h f = other tt f.why.1
away q z s a t (Ends o) i h f =
    other tt
    (not_T (is_event o) (λ y.
    let e : o ≡ s.outcome = only_use (is_event o) _ y f.why.1 in
    T_not (is_event s.outcome) h (rw e at y)))

-- what a step notes first, but ADDRESS, leaves the outcome
noted_outcome : (v : View) (s : SavedCall) (a : ℕ) (t : Step) → T (not (same_step t Address)) → (noted v s a t).outcome ≡ s.outcome
noted_outcome v s a t n =
    by_test P (same_step t Byte) (λ _. refl) (λ _. by_test P (same_step t Address) (λ y. absurd (T_not (same_step t Address) n y)) (λ _. refl))
  where
    P : SavedCall → Type 0
    P x = x.outcome ≡ s.outcome

not_address : (t : Step) → T (not (in_event t)) → T (not (same_step t Address))
not_address t n = not_T (same_step t Address) (λ y. rw (is_eq t Address y) at n)

module _ (q : Request) (z : Words) (s : SavedCall) (b : List ℕ) (a : ℕ) (v v' : View) where
  abbrev noted_at : Step → SavedCall
  noted_at t = noted v s a t

  abbrev effect : Step → Effect
  effect t = effect_at q.call q.words v' (noted_at t) a t

  abbrev access : Step → Access
  access t = access_at q.call q.words v b s t

  row : {t : Step} → Stands q.call z s.outcome t → T (made (access t)) → Fits q (noted_at t) t (effect t) →
      After q.call (note z (entry_of (access t) a)) (noted_at t) a (effect t)
  row (awaits e n) k f = event_read q.call z s a e n
  row (flushes m) k f = clear q.call z s a s.outcome m
  row (clears n m) k f =
      by_test (After q.call z s a) (manual q.call) (λ y. absurd (T_not (manual q.call) n y)) (λ _. finds q.call z s a v'.nonempty m)
  row (sbc_off m) k f = sbc_is_off m
  row (sbc_is_off m) k f = reload_off m
  row (reload_off m) k f = reload_is_off m
  row (reload_is_off m) k f = finds q.call z s a v'.nonempty m
  row (looks h m) k f = found q.call _ (noted_at Address) a v'.nonempty (found_by_own z s.outcome a m h)
  row (cleared y g) k f =
      by_test (After q.call z s a) (manual q.call) (λ _. over q.call z s a v'.nonempty g) (λ n. absurd (T_not (manual q.call) n y))
  row (sbc_on g) k f = sbc_is_on g
  row (sbc_is_on g) k f = reload_on g
  row (reload_on g) k f = reload_is_on g
  row (reload_is_on g) k f = over q.call z s a v'.nonempty g
  row (ended y g) k f = absurd k
  row (other {t = t} n h) k f =
      away q _ (noted_at t) a t (effect t) n (rw (noted_outcome v s a t (not_address t n)) h) f

record Standing (q : Request) (z : Words) (s : SavedCall) : Type 0 where
  accepted : T (accepts q s)
  stands : Stands q.call z s.outcome s.step

standing_keeps : (q : Request) → Keeps q Words note (λ z s b. Standing q z s)
unfolding access_of
standing_keeps q z s b a i h =
    let k : Taken q s a = step_taken q b s a i.accepted h in
    record {
      accepted = accepted_after q s a i.accepted;
      stands =
          subst⁻¹ (λ (x : SavedCall). Stands q.call (note z (entry_of (access_at q.call q.words (view_of q s) b s s.step) a)) x.outcome x.step)
          (after_noted q s a)
          (row q z s b a (view_of q s) (view_of q (noted_in q s a)) i.stands h k.fits);
    }

standing_begins : (q : Request) → Standing q unread (begin_of q)
unfolding begin_of
standing_begins q = record { accepted = accepted_begin q; stands = at_begin }
  where
    at_begin : Stands q.call unread (Done 0) (begin_at q.call (has_pieces q))
    at_begin = search (by_test (Stands q.call unread (Done 0)), awaits, other, tt) depth 16

-- ---- What it says of the uncut run

ended_so : (c : Call) (z : Words) (o : Outcome) → Stands c z o Ended → T (is_event o) → T (is_kind c WaitForEvent) × Found z o
ended_so c z o (ended k g) x = (k, g)
ended_so c z o (other n h) x = absurd (T_not (is_event o) h x)

pub events_named : (q : Request) (k : ℕ) (b l : List ℕ) → Events q (uncut_of q k (begin_of q) b l)
events_named q k b l = at_end
  where
    U : Uncut
    U = uncut_of q k (begin_of q) b l

    z : Words
    z = read_log note unread U.log

    stands : Stands q.call z U.saved.outcome U.saved.step
    stands = (along q Words note (λ z s b. Standing q z s) (standing_keeps q) k unread (begin_of q) b l (standing_begins q)).stands

    at_end : (reads : Bool) (n : ℕ) → EndedAs (event_by reads n) U → EventAt q U.log reads n
    at_end reads n e =
        let f = ended_so q.call z U.saved.outcome (rw e.ended at stands) (rw e.outcome (is_event_holds reads n)) in
        let o : event_by reads n ≡ told z = sym e.outcome ∙ f.1.event in
        let s : z.status ≡ status_in U.log = status_noted unread U.log in
        let w : z.own ≡ reads_of Oar1 U.log = own_noted unread U.log in
        record {
          asked = f.0;
          matched = ap (λ (x : ℕ). flag_of x ISR_ADDR) (sym s) ∙ is_true (flag_of z.status ISR_ADDR) f.1.matched;
          direction =
              ap (λ (x : ℕ). flag_of x ISR_DIR) (sym s) ∙ sym (reads_by (flag_of z.status ISR_DIR) (address_by z.status z.own))
              ∙ ap is_event_read (sym o) ∙ reads_by reads n;
          own = ap length (sym w) ∙ f.1.own ∙ ap (λ (x : ℕ). cond (ten_bit_header (get_of x ISR_ADDCODE)) 1 0) s;
          address =
              sym (value_by reads n) ∙ ap outcome_value o ∙ value_by (flag_of z.status ISR_DIR) (address_by z.status z.own) ∙ ap₂ address_by s w;
        }
