-- The words in which Restated says demand 3 again: a list of advances and what it did, what a log sent and received, which bytes are the
-- caller's. They share nothing with specs/Advances, Bytes and Demand but the record of an advance; that they mean the same is proved here.
-- Assumes nothing.
use Prim.Native.Nat.{ℕ, zero, suc, ◌+◌, ◌-◌, ◌*◌, ◌/◌, ◌%◌, ◌≤◌, ◌<◌}
use native.Mathlib.Omega.{arith}
use mathlib.Core.Path.{◌≡◌, refl, sym, ap, ap₂, ◌∙◌}
use mathlib.Core.Bool.{Bool, true, false, cond, not, ◌&&◌, ◌||◌, beq}
use mathlib.Core.List.{List, [], ◌∷◌, ◌++◌}
use lib.Dec.{T, eqb, ltb}
use lib.ListN.{length, get_or, take, drop, replicate, get_or-replicate}
use lib.Seq.{drop-drop, ext_get_or}
use Rattle.fields.specs.Field.{place, bit, get_of, flag_of}
use Rattle.registers.specs.Map.{offset_of}
use Rattle.registers.specs.declared.Register.{Register}
use Rattle.calls.specs.Advances.{Advance, Meets, is_refusal, refused, Follows, none, but, then, made, joined, given, buffer_after, saved_after, answers_in}
use Rattle.calls.specs.Bytes.{range, places_from, bytes_at, caller_bytes, read_places}
use Rattle.calls.specs.Calls.{Request, call_number, is_call, is_kind, transaction, manual, receives, transmits, manual_write}
use Rattle.calls.specs.AlreadyCut.{sizes}
use Rattle.calls.specs.Events.{reads_of, last_of}
use Rattle.calls.specs.Pieces.{Piece, piece_of, cut_of, list_pieces, pieces_for, pieces_of}
use Rattle.calls.specs.Refusals.{listed, total}
use Rattle.calls.specs.Run.{Entry, words_of, Run, run_of, as_final, is_nack_clear, put_out_from, put_out, taken_in}
use Rattle.calls.specs.declared.Call.{Call}
use Rattle.calls.specs.declared.Call.TheVariants.{WaitForEvent}
use Rattle.calls.specs.declared.Description.{Description}
use Rattle.calls.specs.declared.Refusal.{Refusal}
use Rattle.calls.specs.declared.Report.{Report}
use Rattle.calls.specs.declared.Report.TheVariants.{Over, Full, Waiting, Refused}
use Rattle.calls.specs.declared.SavedCall.{SavedCall}
use Rattle.calls.proofs.Cut.{two_each}
use Rattle.calls.proofs.Every.{all, every}
use Rattle.calls.proofs.Logic.{is_true, is_false, both, implies}
use Rattle.calls.proofs.Places.{sizes_cut, sizes_all, cut_places, places_append, rising_places, NotIn, not_in, not_in_cons, bytes_range, bytes_all}

-- ---- The advances

-- it was refused
abbrev pub Refuses : Advance → Type 0
Refuses A = (r : Refusal) × (A.result.report ≡ Refused r)

-- it used no answer, wrote nothing, and handed back the saved call s
abbrev pub LeftAlone : Advance → SavedCall → Type 0
LeftAlone A s =
    (A.result.used ≡ 0) × (A.result.written ≡ 0) × (A.result.saved ≡ s) × (A.buffer_left ≡ A.buffer) × (A.log_left ≡ A.log)

-- It gave what the definition of an advance gives for what it was lent: counts, saved call, report and buffer; its entries stand first in
-- the log, two words each, and the log's other words are as they were.
abbrev pub Defined : Advance → SavedCall → Type 0
Defined A s =
    let R : Run = run_of A.words A.operations (length A.log / 2) s A.buffer A.answers in
    (A.result ≡ record { used = R.used; written = length R.entries; saved = R.saved; report = R.report })
    × (A.buffer_left ≡ R.buffer)
    × (A.log_left ≡ words_of R.entries ++ drop (2 * length R.entries) A.log)

-- From the saved call s and the buffer b the advances lead to s' and b'. Each gets the saved call as the last one left it; an accepted
-- one the begun description and operations, and the buffer as the last accepted one left it; a refused one may get anything else.
pub data Leads (d : Description) (ops : List ℕ) : List Advance → SavedCall → List ℕ → SavedCall → List ℕ → Type 0 where
  stay : {s : SavedCall} {b : List ℕ} → Leads d ops [] s b s b
  aside : {A : Advance} {As : List Advance} {s s' : SavedCall} {b b' : List ℕ} →
      Defined A s → Refuses A → Leads d ops As A.result.saved b s' b' → Leads d ops (A ∷ As) s b s' b'
  on : {A : Advance} {As : List Advance} {s s' : SavedCall} {b b' : List ℕ} →
      Defined A s → A.words ≡ d → A.operations ≡ ops → A.buffer ≡ b → ¬ Refuses A →
      Leads d ops As A.result.saved A.buffer_left s' b' → Leads d ops (A ∷ As) s b s' b'

-- what they did together: the accesses made, the words of their entries, and the answers used
abbrev pub accesses : List Advance → ℕ
accesses [] = 0
accesses (A ∷ As) = A.result.written + accesses As

abbrev pub entries : List Advance → List ℕ
entries [] = []
entries (A ∷ As) = take (2 * A.result.written) A.log_left ++ entries As

abbrev pub answers : List Advance → List ℕ
answers [] = []
answers (A ∷ As) = take A.result.used A.answers ++ answers As

pub accesses_are : (As : List Advance) → made As ≡ accesses As
accesses_are [] = refl
accesses_are (A ∷ As) = ap (λ (n : ℕ). A.result.written + n) (accesses_are As)

pub entries_are : (As : List Advance) → joined As ≡ entries As
entries_are [] = refl
entries_are (A ∷ As) = ap (λ (l : List ℕ). take (2 * A.result.written) A.log_left ++ l) (entries_are As)

pub answers_are : (As : List Advance) → given As ≡ answers As
answers_are [] = refl
answers_are (A ∷ As) = ap (λ (l : List ℕ). take A.result.used A.answers ++ l) (answers_are As)

pub is_refused : (A : Advance) → Refuses A → T (refused A)
is_refused A h = rw h.1 tt

by_report : (A : Advance) (P : Report → Type 0) → ((x : Report) → A.result.report ≡ x → P x) → P A.result.report
by_report A P h = h A.result.report refl

pub not_refused : (A : Advance) → ¬ Refuses A → T (not (refused A))
not_refused A h = by_report A (λ x. T (not (is_refusal x))) go
  where
    go : (x : Report) → A.result.report ≡ x → T (not (is_refusal x))
    go (Over o) e = tt
    go Full e = tt
    go (Waiting k) e = tt
    go (Refused r) e = absurd (h (r, e))

pub refuses : (A : Advance) → T (refused A) → Refuses A
refuses A = by_report A (λ x. T (is_refusal x) → Refuses A) go
  where
    go : (x : Report) → A.result.report ≡ x → T (is_refusal x) → Refuses A
    go (Over o) e h = absurd h
    go Full e h = absurd h
    go (Waiting k) e h = absurd h
    go (Refused r) e h = (r, e)

meets : (A : Advance) (s : SavedCall) → Defined A s → Meets A s
meets A s h =
    let R : Run = run_of A.words A.operations (length A.log / 2) s A.buffer A.answers in
    let l = h.2 ∙ ap (λ (n : ℕ). words_of R.entries ++ drop n A.log) (sym (two_each R.entries)) in
    λ i. as_final (h.0 i) (h.1 i) (l i)

-- such a list is one that demand 3 speaks of, and comes to the same call and buffer
pub record Led (d : Description) (ops : List ℕ) (As : List Advance) (s : SavedCall) (b : List ℕ) (s' : SavedCall) (b' : List ℕ) : Type 0 where
  pub follows : Follows d ops As s b
  pub saved : saved_after As s ≡ s'
  pub buffer : buffer_after As b ≡ b'

pub led : {d : Description} {ops : List ℕ} {As : List Advance} {s s' : SavedCall} {b b' : List ℕ} →
    Leads d ops As s b s' b' → Led d ops As s b s' b'
led stay = record { follows = none; saved = refl; buffer = refl }
led (aside {A = A} {s = s} m r l) =
    let k = led l in
    let t : T (refused A) = is_refused A r in
    record { follows = but (meets A s m) t k.follows; saved = k.saved; buffer = rw (is_true (refused A) t) k.buffer }
led (on {A = A} {s = s} m e f g n l) =
    let k = led l in
    let t : T (not (refused A)) = not_refused A n in
    record { follows = then (meets A s m) e f g t k.follows; saved = k.saved; buffer = rw (is_false (refused A) t) k.buffer }

-- ---- The entries of a log

-- the values of those that pass a test
abbrev pub picked : (Entry → Bool) → (ℕ → ℕ) → List Entry → List ℕ
picked p f [] = []
picked p f (e ∷ es) = cond (p e) (f e.value ∷ picked p f es) (picked p f es)

-- what its reads gave, and the low eight bits of what RXDR gave
abbrev pub gave : List Entry → List ℕ
gave es = picked (λ e. ltb e.code 0x100) (λ v. v) es

abbrev pub received : List Entry → List ℕ
received es = picked (λ e. eqb e.code 0x24) (λ v. v % 256) es

-- what the register at an offset gave
abbrev pub read_at : ℕ → List Entry → List ℕ
read_at at es = picked (λ e. eqb e.code at) (λ v. v) es

-- What its writes put into TXDR, but for a flush, which comes two entries after ICR 0x10: each entry beside the one two before it.
abbrev pub sent_beside : List Entry → List Entry → List ℕ
sent_beside [] es = []
sent_beside (t ∷ ts) [] = []
sent_beside (t ∷ ts) (e ∷ es) =
    cond (eqb e.code 0x128 && not (eqb t.code 0x11C && eqb t.value 0x10)) (e.value ∷ sent_beside ts es) (sent_beside ts es)

abbrev pub no_entry : Entry
no_entry = record { code = 0; value = 0 }

abbrev pub sent : List Entry → List ℕ
sent es = sent_beside (no_entry ∷ no_entry ∷ es) es

one_more_holds : (c : Bool) (x : ℕ) (xs : List ℕ) → cond c (x ∷ []) [] ++ xs ≡ cond c (x ∷ xs) xs
one_more_holds true x xs = refl
one_more_holds false x xs = refl

pub gave-is : (es : List Entry) → answers_in es ≡ gave es
gave-is [] = refl
gave-is (e ∷ es) = rw (gave-is es) (one_more_holds (ltb e.code 0x100) e.value (gave es))

pub received_is : (es : List Entry) → taken_in es ≡ received es
received_is [] = refl
received_is (e ∷ es) = rw (received_is es) (one_more_holds (eqb e.code 0x24) (e.value % 256) (received es))

pub reads_are : (r : Register) (es : List Entry) → reads_of r es ≡ read_at (offset_of r) es
reads_are r [] = refl
reads_are r (e ∷ es) = rw (reads_are r es) (one_more_holds (eqb e.code (offset_of r)) e.value (read_at (offset_of r) es))

pub sent_is : (es : List Entry) → put_out es ≡ sent es
sent_is es = go no_entry no_entry es
  where
    go : (t u : Entry) (es : List Entry) → put_out_from (is_nack_clear t) (is_nack_clear u) es ≡ sent_beside (t ∷ u ∷ es) es
    go t u [] = refl
    go t u (e ∷ es) = rw (go u e es) (one_more_holds (eqb e.code 0x128 && not (is_nack_clear t)) e.value (sent_beside (u ∷ e ∷ es) es))

-- ---- The caller's bytes

-- by document 01's numbers
abbrev pub numbered : List ℕ → Call → Bool
numbered [] c = false
numbered (n ∷ ns) c = eqb (call_number c) n || numbered ns c

abbrev pub is_transaction : Call → Bool
is_transaction c = numbered (7 ∷ []) c

abbrev pub is_sender : Call → Bool
is_sender c = numbered (10 ∷ 26 ∷ 12 ∷ 28 ∷ []) c

abbrev pub is_receiver : Call → Bool
is_receiver c = numbered (9 ∷ 25 ∷ 11 ∷ 27 ∷ []) c

-- the bytes of the operations with bit 16 set (w is true), or of those without: operation after operation from the start of the buffer, each
-- with as many bytes as its low sixteen bits say
abbrev pub of_operations : Bool → List ℕ → List ℕ → List ℕ
of_operations w [] b = []
of_operations w (o ∷ os) b =
    let n : ℕ = get_of o (place 0 16) in
    cond (beq (flag_of o (bit 16)) w) (take n b) [] ++ of_operations w os (drop n b)

-- what the caller gives to be put out, what of a buffer is to be filled, and what else there is of it
abbrev pub to_send : Call → List ℕ → List ℕ → List ℕ
to_send c ops b = cond (is_transaction c) (of_operations false ops b) (cond (is_sender c) b [])

abbrev pub to_fill : Call → List ℕ → List ℕ → List ℕ
to_fill c ops b = cond (is_transaction c) (of_operations true ops b) (cond (is_receiver c) b [])

abbrev pub to_keep : Call → List ℕ → List ℕ → List ℕ
to_keep c ops b = cond (is_transaction c) (of_operations false ops b) (cond (is_receiver c) [] b)

or_4 : (a b c d : Bool) → (a || b) || (c || d) ≡ a || (b || (c || (d || false)))
or_4 true b c d = refl
or_4 false true c d = refl
or_4 false false true d = refl
or_4 false false false true = refl
or_4 false false false false = refl

or_1 : (a : Bool) → a ≡ a || false
or_1 true = refl
or_1 false = refl

pub transaction-is : (c : Call) → transaction c ≡ is_transaction c
unfolding is_call
transaction-is c = or_1 (eqb (call_number c) 7)

pub sender-is : (c : Call) → transmits c ≡ is_sender c
unfolding is_kind is_call
sender-is c = or_4 (eqb (call_number c) 10) (eqb (call_number c) 26) (eqb (call_number c) 12) (eqb (call_number c) 28)

pub receiver-is : (c : Call) → receives c ≡ is_receiver c
unfolding is_kind is_call
receiver-is c = or_4 (eqb (call_number c) 9) (eqb (call_number c) 25) (eqb (call_number c) 11) (eqb (call_number c) 27)

-- what a computed test finds of each call of the list holds of any
of_each : (f g : Call → Bool) → T (all (λ c. g c || not (f c)) listed) → (c : Call) → T (f c) → T (g c)
of_each f g t c h = implies (f c) (g c) (every (λ c. g c || not (f c)) t c) h

pub auto_sender : (c : Call) → T (numbered (10 ∷ 12 ∷ []) c) → T (is_sender c)
auto_sender = of_each (numbered (10 ∷ 12 ∷ [])) is_sender tt

pub is_auto : (c : Call) → T (numbered (10 ∷ 12 ∷ []) c) → T (not (manual c))
unfolding manual
is_auto = of_each (numbered (10 ∷ 12 ∷ [])) (λ c. not (manual c)) tt

pub event-is : (c : Call) → T (is_kind c WaitForEvent) → T (numbered (8 ∷ 24 ∷ []) c)
unfolding is_kind is_call
event-is = of_each (λ c. is_kind c WaitForEvent) (numbered (8 ∷ 24 ∷ [])) tt

pub is_manual_write : (c : Call) → T (numbered (26 ∷ 28 ∷ []) c) → T (manual_write c)
unfolding manual is_kind is_call
is_manual_write = of_each (numbered (26 ∷ 28 ∷ [])) manual_write tt

pub no_manual_write : (c : Call) → T (not (numbered (26 ∷ 28 ∷ []) c)) → T (not (manual_write c))
unfolding manual is_kind is_call
no_manual_write = of_each (λ c. not (numbered (26 ∷ 28 ∷ []) c)) (λ c. not (manual_write c)) tt

bytes_append : (b ks ls : List ℕ) → bytes_at b (ks ++ ls) ≡ bytes_at b ks ++ bytes_at b ls
bytes_append b [] ls = refl
bytes_append b (k ∷ ks) ls = ap {B = List ℕ} (λ l. get_or b k 0 ∷ l) (bytes_append b ks ls)

-- the bytes at the places of the operations, from a place on
at_operations : (w : Bool) (at : ℕ) (os b : List ℕ) → at + total os ≤ length b →
    bytes_at b (places_from w at (list_pieces os)) ≡ of_operations w os (drop at b)
at_operations w at [] b h = refl
at_operations w at (o ∷ os) b h =
    let n : ℕ = get_of o (place 0 16) in
    rw (
      places_append w at (cut_of (piece_of o)) (list_pieces os),
      cut_places w at (piece_of o),
      sizes_cut (piece_of o),
      bytes_append b (cond (beq (flag_of o (bit 16)) w) (range at n) []) (places_from w (at + n) (list_pieces os)),
      at_operations w (at + n) os b (omega arith),
      drop-drop n at b,
    )
    (ap (λ (l : List ℕ). l ++ of_operations w os (drop (at + n) b)) (go (beq (flag_of o (bit 16)) w)))
  where
    go : (x : Bool) → bytes_at b (cond x (range at (get_of o (place 0 16))) []) ≡ cond x (take (get_of o (place 0 16)) (drop at b)) []
    go true = bytes_range b at (get_of o (place 0 16)) (omega arith)
    go false = refl

of_transaction : (w : Bool) (q : Request) (b : List ℕ) → T (transaction q.call) → total q.operations ≡ length b →
    bytes_at b (places_from w 0 (pieces_of q)) ≡ of_operations w q.operations b
unfolding pieces_for
of_transaction w q b t e = rw (is_true (transaction q.call) t) (at_operations w 0 q.operations b (omega (arith, e)))

pub fill_is : (q : Request) (x : List ℕ) → length x ≡ q.size → (T (transaction q.call) → total q.operations ≡ q.size) →
    bytes_at x (read_places q) ≡ to_fill q.call q.operations x
fill_is q x z t =
    both (transaction q.call)
    (λ y. rw (← transaction-is q.call, is_true (transaction q.call) y) (of_transaction true q x y (t y ∙ sym z)))
    (λ n. rw (← transaction-is q.call, ← receiver-is q.call, is_false (transaction q.call) n) (go (receives q.call)))
  where
    go : (r : Bool) → bytes_at x (cond r (range 0 q.size) []) ≡ cond r x []
    go true = rw (← z) (bytes_all x)
    go false = refl

pub send-is : (q : Request) (b : List ℕ) → length b ≡ q.size → (T (transaction q.call) → total q.operations ≡ q.size) →
    caller_bytes q b ≡ to_send q.call q.operations b
send-is q b z t =
    both (transaction q.call)
    (λ y. rw (← transaction-is q.call, is_true (transaction q.call) y) (of_transaction false q b y (t y ∙ sym z)))
    (λ n. rw (← transaction-is q.call, ← sender-is q.call, is_false (transaction q.call) n))

-- two buffers that differ at read places only have the same bytes elsewhere
range_same : (b b' : List ℕ) (at n : ℕ) → ((i : ℕ) → at ≤ i → i < at + n → get_or b' i 0 ≡ get_or b i 0) → bytes_at b' (range at n) ≡ bytes_at b (range at n)
range_same b b' at zero h = refl
range_same b b' at (suc n) h =
    ap₂ ◌∷◌ (h at (omega arith) (omega arith)) (range_same b b' (at + 1) n (λ i x y. h i (omega arith) (omega arith)))

not_in_range : (i at n : ℕ) (ks : List ℕ) → at + n ≤ i → NotIn i ks → NotIn i (range at n ++ ks)
not_in_range i at zero ks h k = k
not_in_range i at (suc n) ks h k = not_in_cons i at (range (at + 1) n ++ ks) (omega arith) (not_in_range i (at + 1) n ks (omega arith) k)

kept_same : (b b' : List ℕ) (end at : ℕ) (ps : List Piece) → at + sizes ps ≤ end →
    ((i : ℕ) → at ≤ i → NotIn i (places_from true at ps) → get_or b' i 0 ≡ get_or b i 0) →
    bytes_at b' (places_from false at ps) ≡ bytes_at b (places_from false at ps)
kept_same b b' end at [] z h = refl
kept_same b b' end at (p ∷ ps) z h = go (kept_same b b' end (at + p.size) ps (omega arith)) p.reads h
  where
    go : (((i : ℕ) → at + p.size ≤ i → NotIn i (places_from true (at + p.size) ps) → get_or b' i 0 ≡ get_or b i 0) →
        bytes_at b' (places_from false (at + p.size) ps) ≡ bytes_at b (places_from false (at + p.size) ps)) →
        (r : Bool) →
        ((i : ℕ) → at ≤ i → NotIn i (cond (beq r true) (range at p.size) [] ++ places_from true (at + p.size) ps) → get_or b' i 0 ≡ get_or b i 0) →
        bytes_at b' (cond (beq r false) (range at p.size) [] ++ places_from false (at + p.size) ps)
        ≡ bytes_at b (cond (beq r false) (range at p.size) [] ++ places_from false (at + p.size) ps)
    go rest true h = rest (λ i x n. h i (omega arith) (not_in_range i at p.size (places_from true (at + p.size) ps) x n))
    go rest false h =
        rw (
          bytes_append b' (range at p.size) (places_from false (at + p.size) ps),
          bytes_append b (range at p.size) (places_from false (at + p.size) ps),
        )
        (ap₂ ◌++◌
        (range_same b b' at p.size (λ i x y. h i x
        (not_in i (at + p.size) end (places_from true (at + p.size) ps) y (rising_places end true (at + p.size) ps (omega arith)))))
        (rest (λ i x n. h i (omega arith) n)))

pub keep-is : (q : Request) (b b' : List ℕ) → length b ≡ q.size → length b' ≡ length b → (T (transaction q.call) → total q.operations ≡ q.size) →
    ((i : ℕ) → NotIn i (read_places q) → get_or b' i 0 ≡ get_or b i 0) →
    to_keep q.call q.operations b' ≡ to_keep q.call q.operations b
keep-is q b b' z e t h =
    both (transaction q.call)
    (λ y.
    let w : total q.operations ≡ length b = t y ∙ sym z in
    rw (← transaction-is q.call, is_true (transaction q.call) y)
    (sym (of_transaction false q b' y (w ∙ sym e))
    ∙ kept_same b b' q.size 0 (pieces_of q) (omega (arith, sizes_all q t))
    (λ i _ n. h i (rw (is_true (transaction q.call) y) n))
    ∙ of_transaction false q b y w))
    (λ n. rw (← transaction-is q.call, ← receiver-is q.call, is_false (transaction q.call) n)
    (go (receives q.call) (λ i k. h i (rw (is_false (transaction q.call) n) k))))
  where
    go : (r : Bool) → ((i : ℕ) → NotIn i (cond r (range 0 q.size) []) → get_or b' i 0 ≡ get_or b i 0) → cond r [] b' ≡ cond r [] b
    go true k = refl
    go false k = ext_get_or 0 b' b e (λ i _. k i tt)

-- the last of some words
pub last_word : (w : ℕ) (vs : List ℕ) (v : ℕ) → last_of w (vs ++ v ∷ []) ≡ v
last_word w [] v = refl
last_word w (u ∷ vs) v = last_word u vs v

-- bytes and then zeros, byte by byte
pub padded : (n : ℕ) (xs : List ℕ) (i : ℕ) → i < n → get_or (take n xs ++ replicate (n - length xs) 0) i 0 ≡ get_or xs i 0
padded zero xs i h = absurd (omega arith)
padded (suc n) [] i h = get_or-replicate (suc n - 0) i 0 0 (omega arith)
padded (suc n) (x ∷ xs) zero h = refl
padded (suc n) (x ∷ xs) (suc i) h = let e : suc n - suc (length xs) ≡ n - length xs = omega arith in rw e (padded n xs i (omega arith))
