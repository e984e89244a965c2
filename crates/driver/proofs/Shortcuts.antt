-- A quick turn is the general one, whatever the call. Assumes nothing.
use Rattle.std.specs.Prelude.{Ok}
use Prim.Native.Nat.{ℕ, ◌+◌, ◌-◌, ◌/◌, ◌%◌, ◌^◌, ◌<◌, ◌≤◌, min}
use native.Mathlib.Omega.{arith}
use borrow.Author.Tests.{lt-ltb, le-leb}
use mathlib.Core.Path.{◌≡◌, refl, sym, ap, ◌∙◌}
use mathlib.Core.Bool.{Bool, true, false, cond, ◌&&◌, ◌||◌}
use mathlib.Core.List.{List}
use lib.Dec.{T, eqb, ltb, leb, eqb→eq, ltb→lt, leb→le}
use lib.ListN.{length, get_or, set}
use Rattle.kinds.proofs.Branch.{holds}
use Rattle.fields.proofs.Laws.{get_within, and_l, and_r}
use Rattle.fields.specs.Field.{Place, inside, place, bit, get_of, bits_at, flag_of}
use Rattle.registers.specs.Map.{offset_of}
use Rattle.registers.specs.Places.{ISR_TXIS, ISR_RXNE, ISR_ADDR, ISR_NACKF, ISR_STOPF, ISR_TC, ISR_TCR, ISR_BERR, ISR_ARLO}
use Rattle.registers.specs.declared.Register.TheVariants.{Isr, Rxdr, Txdr}
use Rattle.calls.proofs.Every.{is_eq}
use Rattle.calls.proofs.Logic.{is_true}
use Rattle.calls.specs.Calls.{transaction}
use Rattle.calls.specs.Outcomes.{is_done}
use Rattle.calls.specs.Run.{byte_of}
use Rattle.calls.specs.Steps.{same_step, error_or, nack_or, stop_or, transfer_over, entry_step, awaited, wait_at, effect_at, byte_out, access_at, apply_of, counted, noted}
use Rattle.calls.specs.declared.Call.{Call}
use Rattle.calls.specs.declared.Description.{Description}
use Rattle.calls.specs.declared.Flag.{Flag}
use Rattle.calls.specs.declared.Flag.TheVariants.{Rxne, Txis, Tc, Tcr, Stopf, Never}
use Rattle.calls.specs.declared.SavedCall.{SavedCall}
use Rattle.calls.specs.declared.Step.{Step}
use Rattle.calls.specs.declared.Step.TheVariants.{Wait, Byte}
use Rattle.calls.specs.declared.Effect.TheVariants.{Goes, Next}
use Rattle.calls.specs.declared.View.{View}
use Rattle.driver.proofs.Loop.{goes}
use Rattle.driver.specs.Turn.{left, made, made_by, made_of, turned, turn_of, quickly, moved_by}

-- ---- The flags that a wait looks at stand in bits 1 to 9 of the status word.

abbrev flags : ℕ → ℕ
flags a = get_of a (place 1 9)

within : (i : ℕ) → i < 32 → inside (bit i) ≡ true
within i h = rw (lt-ltb i 32 h, le-leb 1 (32 - i) (omega arith))

bit_of : (k i : ℕ) → i < 32 → get_of k (bit i) ≡ k / 2 ^ i % 2
unfolding get_of bits_at
bit_of k i h = rw (within i h)

flag : (a k : ℕ) (p : Place) → flags a ≡ k → T (leb 1 p.at && leb p.at 9) →
    flag_of a (bit p.at) ≡ eqb (k / 2 ^ (p.at - 1) % 2) 1
flag a k p e h =
    let low : 1 ≤ p.at = leb→le _ _ (and_l (leb 1 p.at) _ h) in
    let high : p.at ≤ 9 = leb→le _ _ (and_r (leb 1 p.at) _ h) in
    let i : ℕ = p.at - 1 in
    let back : 1 + i ≡ p.at = omega arith in
    ap (λ (x : ℕ). eqb x 1)
    (ap (λ (x : ℕ). get_of a (bit x)) (sym back)
    ∙ sym (get_within a (place 1 9) (bit i) tt (rw (within i (omega arith)) tt) (rw (within (1 + i) (omega arith)) tt) (omega arith))
    ∙ ap (λ (x : ℕ). get_of x (bit i)) e
    ∙ bit_of k i (omega arith))

-- ---- What follows

module _ (c : Call) (v : View) (s : SavedCall) (a : ℕ) where
  -- none of them: whatever is awaited, the wait goes on
  module _ (e : flags a ≡ 0) where
    off : (p : Place) → T (leb 1 p.at && leb p.at 9) → flag_of a (bit p.at) ≡ eqb (0 / 2 ^ (p.at - 1) % 2) 1
    off p h = flag a 0 p e h

    idle_at : (f : Flag) → wait_at c v s a f ≡ Goes Wait
    idle_at Rxne = rw (off ISR_RXNE tt, off ISR_STOPF tt, off ISR_ADDR tt)
    idle_at Txis = rw (off ISR_NACKF tt, off ISR_TXIS tt)
    idle_at Tc = rw (off ISR_NACKF tt, off ISR_TC tt)
    idle_at Tcr = rw (off ISR_NACKF tt, off ISR_TCR tt)
    idle_at Stopf = rw (off ISR_NACKF tt, off ISR_STOPF tt)
    idle_at Never = never v.reads
      where
        never : (r : Bool) → cond r (stop_or c s a) (nack_or a (Goes Wait)) ≡ Goes Wait
        never true = rw (off ISR_STOPF tt, off ISR_ADDR tt)
        never false = rw (off ISR_NACKF tt)

    pub idle : (d : Description) → effect_at c d v s a Wait ≡ Goes Wait
    idle d = rw (off ISR_BERR tt, off ISR_ARLO tt) (idle_at (awaited c v s))

  -- just the awaited one, for a byte of the piece
  awaits_byte : is_done s.outcome ≡ true → s.byte < v.size → awaited c v s ≡ cond v.reads Rxne Txis
  awaits_byte o h = rw (o, lt-ltb s.byte v.size h, and_false (transaction c))
    where
      and_false : (b : Bool) → (b && false) ≡ false
      and_false true = refl
      and_false false = refl

  pub ready : (f : ℕ) → f ≡ flags a → (eqb f (cond v.reads 2 1) && (is_done s.outcome && ltb s.byte v.size)) ≡ true →
      (d : Description) → effect_at c d v s a Wait ≡ Goes Byte
  ready f e h d =
      let t = holds h in
      let u = and_r (eqb f (cond v.reads 2 1)) _ t in
      rw (awaits_byte (is_true _ (and_l (is_done s.outcome) _ u)) (ltb→lt _ _ (and_r (is_done s.outcome) _ u)))
      (go v.reads (sym e ∙ eqb→eq _ _ (and_l (eqb f (cond v.reads 2 1)) _ t)))
    where
      go : (r : Bool) → flags a ≡ cond r 2 1 → error_or a (wait_at c v s a (cond r Rxne Txis)) ≡ Goes Byte
      go true k = rw (flag a 2 ISR_BERR k tt, flag a 2 ISR_ARLO k tt, flag a 2 ISR_RXNE k tt)
      go false k = rw (flag a 1 ISR_BERR k tt, flag a 1 ISR_ARLO k tt, flag a 1 ISR_NACKF k tt, flag a 1 ISR_TXIS k tt)

  -- a byte that another one of the piece follows
  pub moved : (d : Description) → s.byte + 1 < v.size → effect_at c d v (counted v s) a Byte ≡ Goes Wait
  moved d h =
      rw (lt-ltb (min (s.byte + 1) (v.size + 1)) v.size (omega arith)) (go (transaction c))
    where
      go : (t : Bool) → cond (t || true) (Goes Wait) (cond v.last (transfer_over c (counted v s)) (Next (entry_step c))) ≡ Goes Wait
      go true = refl
      go false = refl

-- ---- The turns

module _ (c : Call) (d : Description) (v : View) (s : SavedCall) (b l : List ℕ) (u : ℕ) (log : List ℕ) (at : ℕ) where
  -- an entry in the log, and t next
  abbrev Turns : ℕ → ℕ → ℕ → ℕ → ℕ → Step → List ℕ → Type 0
  Turns code value u' j m t b' =
      left (Ok (turned u' (moved_by s (quickly u' j m t)))) b' (set (set log at code) (at + 1) value) ≡ turn_of c d v s b l u log at

  -- from the access of the step x, with its answer, and what follows
  turns : (code value u' a j m : ℕ) (t x : Step) (b' : List ℕ) → s.step ≡ x →
      left (Ok (made u' a)) b' (set (set log at code) (at + 1) value) ≡ made_by s b l u log at (access_at c d v b s x) →
      moved_by s (quickly u' j m t) ≡ apply_of (noted v s a x) a (effect_at c d v (noted v s a x) a x) → Turns code value u' j m t b'
  turns code value u' a j m t x b' e k n =
      goes c d v s b' _ (made_of c d v s b l u log at) (made u' a)
      (k ∙ ap (λ (y : Step). made_by s b l u log at (access_at c d v b s y)) (sym e)) _
      (n ∙ ap (λ (y : Step). apply_of (noted v s a y) a (effect_at c d v (noted v s a y) a y)) (sym e))

  pub waited : (t : Step) → same_step s.step Wait ≡ true → ltb u (length l) ≡ true → effect_at c d v s (get_or l u 0) Wait ≡ Goes t →
      Turns (offset_of Isr) (get_or l u 0) (u + 1) s.byte s.out t b
  waited t w h e =
      turns _ _ (u + 1) (get_or l u 0) _ _ _ Wait _ (is_eq s.step Wait (rw w tt)) (rw h) (ap (apply_of s (get_or l u 0)) (sym e))

  module _ (w : same_step s.step Byte ≡ true) (more : s.byte + 1 < v.size) where
    at_byte_holds : s.step ≡ Byte
    at_byte_holds = is_eq s.step Byte (rw w tt)

    next : (u' a : ℕ) →
        moved_by s (quickly u' (s.byte + 1) (min (s.out + 1) v.most) Wait) ≡ apply_of (counted v s) a (effect_at c d v (counted v s) a Byte)
    next u' a =
        let e : s.byte + 1 ≡ min (s.byte + 1) (v.size + 1) = omega arith in
        ap (λ (j : ℕ). moved_by s (quickly u' j (min (s.out + 1) v.most) Wait)) e ∙ ap (apply_of (counted v s) a) (sym (moved c v s a d more))

    pub taken : ltb u (length l) ≡ true → v.reads ≡ true →
        Turns (offset_of Rxdr) (get_or l u 0) (u + 1) (s.byte + 1) (min (s.out + 1) v.most) Wait (set b (v.start + s.byte) (byte_of (get_or l u 0)))
    taken h r = turns _ _ (u + 1) (get_or l u 0) _ _ _ Byte _ at_byte_holds (rw (r, h)) (next (u + 1) (get_or l u 0))

    pub put : v.reads ≡ false → Turns (offset_of Txdr + 0x100) (byte_out v b s) u (s.byte + 1) (min (s.out + 1) v.most) Wait b
    put r = turns _ _ u 0 _ _ _ Byte _ at_byte_holds (rw r) (next u 0)
