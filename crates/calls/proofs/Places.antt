-- The places of a buffer that a list of pieces takes in or puts out, in order: those still ahead of byte j of piece i,
-- where they lie, and what storing there does. Assumes nothing.
use Prim.Native.Nat.{ℕ, zero, suc, ◌+◌, ◌-◌, ◌≤◌, ◌<◌, min}
use native.Mathlib.Numerals.{add-one}
use native.Mathlib.Omega.{arith}
use mathlib.Core.Logic.{◌≢◌}
use mathlib.Core.Path.{◌≡◌, refl, sym, ap, ap₂, ◌∙◌}
use mathlib.Core.Bool.{Bool, true, false, cond, not, ◌||◌, beq}
use mathlib.Core.List.{List, [], ◌∷◌, ◌++◌, append-nil, append_assoc}
use lib.Dec.{T, T_not, eqb, eqb→eq, eqb_refl, not_T}
use lib.ListN.{length, get_or, set, take, drop, length-set}
use lib.Seq.{get_or-set_other, get_or-set_same, drop-cons, take-length}
use Rattle.calls.specs.Bytes.{range, places_from, bytes_at}
use Rattle.calls.specs.Calls.{Request, transaction, manual, receives, transmits}
use Rattle.calls.specs.AlreadyCut.{sizes}
use Rattle.calls.specs.Pieces.{start_from, Piece, piece_of, blocks_of, cut_of, list_pieces, pieces_for, pieces_of, piece_at}
use Rattle.calls.specs.Refusals.{total, any_of}
use Rattle.calls.specs.declared.Call.{Call}
use Rattle.calls.specs.declared.SavedCall.{SavedCall}
use Rattle.calls.proofs.Logic.{nor_0, nor_1, by_test, both}
use Rattle.calls.proofs.Views.{size_in, place_in}

-- ---- The places ahead

abbrev pub ahead_from : Bool → ℕ → List Piece → ℕ → ℕ → List ℕ
ahead_from w at [] i j = []
ahead_from w at (p ∷ ps) zero j =
    cond (beq p.reads w) (range (at + j) (p.size - j)) [] ++ places_from w (at + p.size) ps
ahead_from w at (p ∷ ps) (suc i) j = ahead_from w (at + p.size) ps i j

cond_nil : (c : Bool) → cond {A = List ℕ} c [] [] ≡ []
cond_nil true = refl
cond_nil false = refl

-- at the very start all are ahead
pub ahead_all : (w : Bool) (at : ℕ) (ps : List Piece) → ahead_from w at ps 0 0 ≡ places_from w at ps
ahead_all w at [] = refl
ahead_all w at (p ∷ ps) =
    let e : at + 0 ≡ at = omega arith in
    let f : p.size - 0 ≡ p.size = omega arith in
    rw (e, f)

-- past the last piece none is
pub ahead_none : (w : Bool) (at : ℕ) (ps : List Piece) (i j : ℕ) → length ps ≤ i → ahead_from w at ps i j ≡ []
ahead_none w at [] i j h = refl
ahead_none w at (p ∷ ps) zero j h = absurd (omega arith)
ahead_none w at (p ∷ ps) (suc i) j h = ahead_none w (at + p.size) ps i j (omega arith)

-- past a piece's bytes come those of the next
pub ahead_next : (w : Bool) (at : ℕ) (ps : List Piece) (i j : ℕ) → (piece_at ps i).size ≤ j →
    ahead_from w at ps i j ≡ ahead_from w at ps (i + 1) 0
ahead_next w at ps i j h = rw add-one (go at ps i h)
  where
    go : (at : ℕ) (ps : List Piece) (i : ℕ) → (piece_at ps i).size ≤ j →
        ahead_from w at ps i j ≡ ahead_from w at ps (suc i) 0
    go at [] i h = refl
    go at (p ∷ ps) zero h =
        let e : p.size - j ≡ 0 = omega arith in
        rw (e, cond_nil, ahead_all w (at + p.size) ps)
    go at (p ∷ ps) (suc i) h = go (at + p.size) ps i h

-- a byte of a piece of the other direction changes nothing
pub ahead_other : (w : Bool) (at : ℕ) (ps : List Piece) (i j k : ℕ) → beq (piece_at ps i).reads w ≡ false →
    ahead_from w at ps i j ≡ ahead_from w at ps i k
ahead_other w at [] i j k h = refl
ahead_other w at (p ∷ ps) zero j k h = rw h
ahead_other w at (p ∷ ps) (suc i) j k h = ahead_other w (at + p.size) ps i j k h

-- a byte of a piece of this direction is the first of those ahead
pub ahead_this : (w : Bool) (at : ℕ) (ps : List Piece) (i j : ℕ) →
    beq (piece_at ps i).reads w ≡ true → j < (piece_at ps i).size →
    ahead_from w at ps i j ≡ (start_from at ps i + j) ∷ ahead_from w at ps i (j + 1)
ahead_this w at [] i j h l = absurd (omega arith)
ahead_this w at (p ∷ ps) zero j h l =
    let e : p.size - j ≡ suc (p.size - (j + 1)) = omega arith in
    let f : at + j + 1 ≡ at + (j + 1) = omega arith in
    rw (h, e, f)
ahead_this w at (p ∷ ps) (suc i) j h l = ahead_this w (at + p.size) ps i j h l

-- ---- Where they lie

place_inside : (at : ℕ) (ps : List Piece) (i j : ℕ) → j < (piece_at ps i).size → start_from at ps i + j < at + sizes ps
place_inside at [] i j h = absurd (omega arith)
place_inside at (p ∷ ps) zero j h = omega arith
place_inside at (p ∷ ps) (suc i) j h = omega (arith, place_inside (at + p.size) ps i j h)

sizes_blocks : (w : Bool) (f n : ℕ) → n ≤ f → sizes (blocks_of w f n) ≡ n
sizes_blocks w zero n h = omega arith
sizes_blocks w (suc f) zero h = refl
sizes_blocks w (suc f) (suc n) h = omega (arith, sizes_blocks w f (suc n - 255) (omega arith))

pub sizes_cut : (p : Piece) → sizes (cut_of p) ≡ p.size
sizes_cut p =
    by_test (λ ps. sizes ps ≡ p.size) (eqb p.size 0) (λ _. omega arith) (λ _. sizes_blocks p.reads p.size p.size (omega arith))

pub sizes_append : (ps rs : List Piece) → sizes (ps ++ rs) ≡ sizes ps + sizes rs
sizes_append [] rs = omega arith
sizes_append (p ∷ ps) rs = omega (arith, sizes_append ps rs)

pub sizes_list : (os : List ℕ) → sizes (list_pieces os) ≡ total os
sizes_list [] = refl
sizes_list (o ∷ os) =
    sizes_append (cut_of (piece_of o)) (list_pieces os) ∙ ap₂ ◌+◌ (sizes_cut (piece_of o)) (sizes_list os)

pub sizes_for : (c : Call) (ops : List ℕ) (n : ℕ) → (T (transaction c) → total ops ≡ n) → sizes (pieces_for c ops n) ≤ n
unfolding pieces_for
sizes_for c ops n h =
    by_test P (transaction c) (λ x. omega (arith, sizes_list ops, h x)) (λ _.
    by_test P (receives c || transmits c)
    (λ _. by_test P (manual c) (λ _. omega (arith, sizes_blocks (receives c) n n (omega arith))) (λ _. omega arith))
    (λ _. omega arith))
  where
    P : List Piece → Type 0
    P ps = sizes ps ≤ n

pub sizes_all : (q : Request) → (T (transaction q.call) → total q.operations ≡ q.size) → sizes (pieces_of q) ≤ q.size
sizes_all q h = sizes_for q.call q.operations q.size h

-- a byte that is there has its place in the buffer
pub byte_inside : (q : Request) (s : SavedCall) → (T (transaction q.call) → total q.operations ≡ q.size) →
    s.byte < size_in q s → place_in q s < q.size
byte_inside q s t h = omega (arith, place_inside 0 (pieces_of q) s.piece s.byte h, sizes_all q t)

-- they rise, from m on and below n
abbrev pub Rising : ℕ → ℕ → List ℕ → Type 0
Rising m n [] = Unit {0}
Rising m n (k ∷ ks) = (m ≤ k) × (k < n) × Rising (k + 1) n ks

rising_from : (m k n : ℕ) (ks : List ℕ) → m ≤ k → Rising k n ks → Rising m n ks
rising_from m k n [] h r = tt
rising_from m k n (x ∷ ks) h r = (omega (arith, r.0), r.1, r.2)

-- some places of a piece that ends at `end`, then those from there on
rising_piece : (m n end : ℕ) (c : Bool) (at size : ℕ) (ks : List ℕ) →
    m ≤ at → at + size ≤ end → end ≤ n → Rising end n ks → Rising m n (cond c (range at size) [] ++ ks)
rising_piece m n end false at size ks h g i r = rising_from m end n ks (omega arith) r
rising_piece m n end true at zero ks h g i r = rising_from m end n ks (omega arith) r
rising_piece m n end true at (suc size) ks h g i r =
    (h, omega arith, rising_piece (at + 1) n end true (at + 1) size ks (omega arith) (omega arith) i r)

pub rising_places : (n : ℕ) (w : Bool) (at : ℕ) (ps : List Piece) → at + sizes ps ≤ n → Rising at n (places_from w at ps)
rising_places n w at [] h = tt
rising_places n w at (p ∷ ps) h =
    rising_piece at n (at + p.size) (beq p.reads w) at p.size (places_from w (at + p.size) ps)
    (omega arith) (omega arith) (omega arith) (rising_places n w (at + p.size) ps (omega arith))

-- those of a call, within its buffer
pub rising_all : (q : Request) (w : Bool) (n : ℕ) →
    q.size ≡ n → (T (transaction q.call) → total q.operations ≡ q.size) → Rising 0 n (places_from w 0 (pieces_of q))
rising_all q w n z t = rising_places n w 0 (pieces_of q) (omega (arith, sizes_all q t))

-- what is ahead of the next byte lies past this one
rising_ahead : (n : ℕ) (w : Bool) (at : ℕ) (ps : List Piece) (i j : ℕ) → j < (piece_at ps i).size → at + sizes ps ≤ n →
    Rising (start_from at ps i + j + 1) n (ahead_from w at ps i (j + 1))
rising_ahead n w at [] i j h g = tt
rising_ahead n w at (p ∷ ps) zero j h g =
    rising_piece (at + j + 1) n (at + p.size) (beq p.reads w) (at + (j + 1)) (p.size - (j + 1))
    (places_from w (at + p.size) ps)
    (omega arith) (omega arith) (omega arith) (rising_places n w (at + p.size) ps (omega arith))
rising_ahead n w at (p ∷ ps) (suc i) j h g = rising_ahead n w (at + p.size) ps i j h (omega arith)

-- ---- Storing

-- the values vs put at the places ks, as far as both go
abbrev pub store_at : List ℕ → List ℕ → List ℕ → List ℕ
store_at b ks [] = b
store_at b [] (v ∷ vs) = b
store_at b (k ∷ ks) (v ∷ vs) = store_at (set b k v) ks vs

abbrev pub NotIn : ℕ → List ℕ → Type 0
NotIn i ks = T (not (any_of (eqb i) ks))

pub not_in_cons : (i k : ℕ) (ks : List ℕ) → i ≢ k → NotIn i ks → NotIn i (k ∷ ks)
not_in_cons i k ks h g = nor (eqb i k) (any_of (eqb i) ks) (not_T (eqb i k) (λ e. h (eqb→eq i k e))) g
  where
    nor : (x y : Bool) → T (not x) → T (not y) → T (not (x || y))
    nor true y h g = h
    nor false y h g = g

pub not_in : (i m n : ℕ) (ks : List ℕ) → i < m → Rising m n ks → NotIn i ks
not_in i m n [] h r = tt
not_in i m n (k ∷ ks) h r =
    not_in_cons i k ks (λ e. omega (arith, e, r.0)) (not_in i (k + 1) n ks (omega (arith, r.0)) r.2)

not_this : (i k : ℕ) (ks : List ℕ) → NotIn i (k ∷ ks) → i ≢ k
not_this i k ks h e = T_not (eqb i k) (nor_0 (eqb i k) (any_of (eqb i) ks) h) (rw e (eqb_refl k))

not_these : (i k : ℕ) (ks : List ℕ) → NotIn i (k ∷ ks) → NotIn i ks
not_these i k ks h = nor_1 (eqb i k) (any_of (eqb i) ks) h

bytes_other : (b : List ℕ) (i v : ℕ) (ks : List ℕ) → NotIn i ks → bytes_at (set b i v) ks ≡ bytes_at b ks
bytes_other b i v [] h = refl
bytes_other b i v (k ∷ ks) h =
    ap₂ ◌∷◌ (get_or-set_other b i k v 0 (λ e. not_this i k ks h (sym e))) (bytes_other b i v ks (not_these i k ks h))

-- a byte stored at its place changes none of those ahead
pub bytes_ahead : (b : List ℕ) (v : ℕ) (w : Bool) (ps : List Piece) (i j : ℕ) → j < (piece_at ps i).size →
    bytes_at (set b (start_from 0 ps i + j) v) (ahead_from w 0 ps i (j + 1)) ≡ bytes_at b (ahead_from w 0 ps i (j + 1))
bytes_ahead b v w ps i j h =
    let k : ℕ = start_from 0 ps i + j in
    let ks : List ℕ = ahead_from w 0 ps i (j + 1) in
    bytes_other b k v ks
    (not_in k (k + 1) (sizes ps) ks (omega arith) (rising_ahead (sizes ps) w 0 ps i j h (omega arith)))

pub store_length : (b ks vs : List ℕ) → length (store_at b ks vs) ≡ length b
store_length b ks [] = refl
store_length b [] (v ∷ vs) = refl
store_length b (k ∷ ks) (v ∷ vs) = store_length (set b k v) ks vs ∙ length-set b k v

pub store_other : (b ks vs : List ℕ) (i : ℕ) → NotIn i ks → get_or (store_at b ks vs) i 0 ≡ get_or b i 0
store_other b ks [] i h = refl
store_other b [] (v ∷ vs) i h = refl
store_other b (k ∷ ks) (v ∷ vs) i h =
    store_other (set b k v) ks vs i (not_these i k ks h) ∙ get_or-set_other b k i v 0 (not_this i k ks h)

-- the values stand there, then what stood there
pub store_there : (m : ℕ) (b ks vs : List ℕ) → Rising m (length b) ks → length vs ≤ length ks →
    bytes_at (store_at b ks vs) ks ≡ vs ++ drop (length vs) (bytes_at b ks)
store_there m b ks [] r l = refl
store_there m b [] (v ∷ vs) r l = absurd (omega arith)
store_there m b (k ∷ ks) (v ∷ vs) r l =
    let n : NotIn k ks = not_in k (k + 1) (length b) ks (omega arith) r.2 in
    ap₂ ◌∷◌ (store_other (set b k v) ks vs k n ∙ get_or-set_same b k v 0 r.1)
    (store_there (k + 1) (set b k v) ks vs (rw length-set r.2) (omega arith)
    ∙ ap (λ (l : List ℕ). vs ++ drop (length vs) l) (bytes_other b k v ks n))

-- ---- The places of a target transfer are its whole buffer

pub is_true : (c : Bool) → T c → c ≡ true
is_true true h = refl
is_true false h = absurd h

pub is_false : (c : Bool) → T (not c) → c ≡ false
is_false true h = absurd h
is_false false h = refl

pub transfer_pieces_holds : (q : Request) → T (not (transaction q.call)) → T (receives q.call || transmits q.call) →
    pieces_of q ≡
    cond (manual q.call) (blocks_of (receives q.call) q.size q.size) (record { size = q.size; reads = receives q.call } ∷ [])
unfolding pieces_for
transfer_pieces_holds q n x = rw (is_false (transaction q.call) n, is_true (receives q.call || transmits q.call) x)

no_pieces : (q : Request) → T (not (transaction q.call)) → T (not (receives q.call || transmits q.call)) → pieces_of q ≡ []
unfolding pieces_for
no_pieces q n x = rw (is_false (transaction q.call) n, is_false (receives q.call || transmits q.call) x)

range_append : (at m n : ℕ) → range at m ++ range (at + m) n ≡ range at (m + n)
range_append at zero n =
    let e : at + 0 ≡ at = omega arith in
    let f : 0 + n ≡ n = omega arith in
    rw (e, f)
range_append at (suc m) n =
    let e : at + suc m ≡ at + 1 + m = omega arith in
    let f : suc m + n ≡ suc (m + n) = omega arith in
    rw (e, f) (ap {B = List ℕ} (λ l. at ∷ l) (range_append (at + 1) m n))

block_places : (w u : Bool) (at f n : ℕ) → n ≤ f →
    places_from w at (blocks_of u f n) ≡ cond (beq u w) (range at n) []
block_places w u at zero zero h = sym (cond_nil (beq u w))
block_places w u at zero (suc n) h = absurd (omega arith)
block_places w u at (suc f) zero h = sym (cond_nil (beq u w))
block_places w u at (suc f) (suc n) h =
    let size : ℕ = min 255 (suc n) in
    let e : size + (suc n - 255) ≡ suc n = omega arith in
    rw (block_places w u (at + size) f (suc n - 255) (omega arith))
    (joined (beq u w) (range at size) (range (at + size) (suc n - 255))
    ∙ ap (λ (ks : List ℕ). cond (beq u w) ks []) (range_append at size (suc n - 255) ∙ ap (range at) e))
  where
    joined : (c : Bool) (ks ls : List ℕ) → cond c ks [] ++ cond c ls [] ≡ cond c (ks ++ ls) []
    joined true ks ls = refl
    joined false ks ls = refl

-- an operation's places are one range, however it is cut, and a list's are its operations' in turn
pub cut_places : (w : Bool) (at : ℕ) (p : Piece) → places_from w at (cut_of p) ≡ cond (beq p.reads w) (range at p.size) []
cut_places w at p =
    by_test (λ ps. places_from w at ps ≡ cond (beq p.reads w) (range at p.size) []) (eqb p.size 0)
    (λ _. append-nil _) (λ _. block_places w p.reads at p.size p.size (omega arith))

pub places_append : (w : Bool) (at : ℕ) (ps rs : List Piece) →
    places_from w at (ps ++ rs) ≡ places_from w at ps ++ places_from w (at + sizes ps) rs
places_append w at [] rs = let e : at + 0 ≡ at = omega arith in rw e
places_append w at (p ∷ ps) rs =
    let e : at + p.size + sizes ps ≡ at + (p.size + sizes ps) = omega arith in
    rw (places_append w (at + p.size) ps rs, e)
    (sym (append_assoc (cond (beq p.reads w) (range at p.size) []) (places_from w (at + p.size) ps) _))

pub transfer_places : (q : Request) (w : Bool) → T (not (transaction q.call)) →
    places_from w 0 (pieces_of q) ≡
    cond (receives q.call || transmits q.call) (cond (beq (receives q.call) w) (range 0 q.size) []) []
transfer_places q w n =
    both (receives q.call || transmits q.call)
    (λ x. rw (transfer_pieces_holds q n x, is_true (receives q.call || transmits q.call) x)
    (by_test (λ ps. places_from w 0 ps ≡ cond (beq (receives q.call) w) (range 0 q.size) []) (manual q.call)
    (λ _. block_places w (receives q.call) 0 q.size q.size (omega arith)) (λ _. append-nil _)))
    (λ x. rw (no_pieces q n x, is_false (receives q.call || transmits q.call) x))

-- and its bytes the buffer's
pub bytes_range : (b : List ℕ) (i n : ℕ) → i + n ≤ length b → bytes_at b (range i n) ≡ take n (drop i b)
bytes_range b i zero h = refl
bytes_range b i (suc n) h =
    let k : i < length b = omega arith in
    rw (drop-cons b i 0 k, add-one) (ap {B = List ℕ} (λ l. get_or b i 0 ∷ l) (bytes_range b (suc i) n (omega arith)))

pub bytes_all : (b : List ℕ) → bytes_at b (range 0 (length b)) ≡ b
bytes_all b = bytes_range b 0 (length b) (omega arith) ∙ take-length b
