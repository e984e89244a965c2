-- Accepted saved calls stay accepted, whatever is answered: what row 13 asks holds where a call begins, and after each
-- of its accesses. Assumes nothing.
use Prim.Native.Nat.{ℕ, ◌+◌, ◌≤◌, ◌<◌, min, max}
use native.Mathlib.Omega.{arith}
use mathlib.Core.Path.{subst⁻¹, ◌≡◌}
use mathlib.Core.Bool.{not, ◌||◌}
use mathlib.Core.List.{List}
use lib.Dec.{T, T_not, eqb, ltb, leb, ltb→lt, lt→ltb, leb→le, le→leb, eqb_refl, nleb→lt}
use lib.ListN.{length}
use Rattle.fields.proofs.Laws.{and_l, and_r}
use Rattle.calls.specs.Calls.{Request, call_number, is_call, transaction, manual_write, receives, transmits}
use Rattle.calls.specs.Pieces.{Piece, pieces_for, pieces_of, most_of, view_of}
use Rattle.calls.specs.Steps.{apply_of, same_step, noted, after_of, start_at, begin_at, begin_of}
use Rattle.calls.specs.Refusals.{has_pieces, group_taken, takes, accepts}
use Rattle.calls.specs.declared.SavedCall.{SavedCall}
use Rattle.calls.specs.declared.Step.{Step}
use Rattle.calls.specs.declared.Step.TheVariants.{Ended, Byte, Address}
use Rattle.calls.specs.declared.Effect.{Effect}
use Rattle.calls.specs.declared.Effect.TheVariants.{Goes, Loads, Notes, Next, Enters, Fails, Ends}
use Rattle.calls.proofs.Logic.{only, only_yes, only_not, only_if, if_only, and_in, or_0, or_1, or_else, by_test, both}
pub use Rattle.calls.proofs.Every.{is_eq}
use Rattle.calls.proofs.Fits.{Fits, plain, fits}
use Rattle.calls.proofs.Views.{noted_keeps, apply_keeps, noted_in, then_in, after_noted, there_in, size_in}

-- the number of bytes put out that row 13 asks of a manual write
abbrev pub Held : Request → ℕ → Type 0
Held q m = only (manual_write q.call) (T (leb m (most_of q)))

-- what row 13 leaves of a saved call that has not ended
pub record Known (q : Request) (s : SavedCall) : Type 0 where
  pub taken : T (takes q s.step)
  pub piece : s.piece < max 1 (length (pieces_of q))
  pub byte : s.byte ≤ size_in q s + 1
  pub byte_there_holds : only (same_step s.step Byte) (T (there_in q s))
  pub out : Held q s.out

pub known : (q : Request) (s : SavedCall) → T (accepts q s) → T (not (same_step s.step Ended)) → Known q s
unfolding accepts
known q s h n =
    let r = or_else (same_step s.step Ended) _ (and_r (eqb s.call (call_number q.call)) _ h) n in
    search (and_l, and_r, ltb→lt, leb→le, only_if)

accept : (q : Request) (s : SavedCall) → T (eqb s.call (call_number q.call)) → Known q s → T (accepts q s)
unfolding accepts
accept q s c k = search (and_in, or_1, lt→ltb, le→leb, if_only) depth 10

accept_ended : (q : Request) (s : SavedCall) →
    T (eqb s.call (call_number q.call)) → T (same_step s.step Ended) → T (accepts q s)
unfolding accepts
accept_ended q s c e = search (and_in, or_0)

same_call : (q : Request) (s : SavedCall) → T (accepts q s) → T (eqb s.call (call_number q.call))
unfolding accepts
same_call q s h = and_l (eqb s.call (call_number q.call)) _ h

-- what a step notes leaves the piece, and the byte number within its bounds
pub record Noted (q : Request) (s : SavedCall) : Type 0 where
  pub piece : s.piece < max 1 (length (pieces_of q))
  pub byte : s.byte ≤ size_in q s + 1
  pub out : Held q s.out

-- what is held there is no more, and none at all is less
held : (q : Request) (m : ℕ) → Held q (min m (most_of q))
held q m = only_yes (manual_write q.call) (le→leb (min m (most_of q)) (most_of q) (omega arith))

none_out : (q : Request) → Held q 0
none_out q = only_yes (manual_write q.call) (le→leb 0 (most_of q) (omega arith))

pub notes_well : (q : Request) (s : SavedCall) (a : ℕ) (t : Step) → Known q s → Noted q (noted (view_of q s) s a t)
notes_well q s a t k =
    by_test (Noted q) (same_step t Byte) (λ _. search (arith, held)) (λ _.
    by_test (Noted q) (same_step t Address) (λ _. search) (λ _. search))

no_byte : (q : Request) (s : SavedCall) (u : Step) → T (plain u) → only (same_step u Byte) (T (there_in q s))
no_byte q s u p = search (only_not, and_l)

-- by cases on what follows, not on the steps
applied : (q : Request) (s : SavedCall) (a : ℕ) (t : Step) (n : Effect) →
    Noted q s → Fits q s t n → Known q (apply_of s a n)
applied q s a t (Goes u) k f = search
applied q s a t (Loads u) k f = search no_byte
applied q s a t (Notes o u) k f = search no_byte
applied q s a t (Next u) k f =
    let h : s.piece + 1 < length (pieces_of q) = nleb→lt _ _ f.why.1 in search (no_byte, arith)
applied q s a t (Enters u) k f = search (no_byte, none_out, arith)
applied q s a t (Fails o) k f = search tt
applied q s a t (Ends o) k f = search tt

-- an access leaves what row 13 asks, of a call that it ends too
pub known_after : (q : Request) (s : SavedCall) (a : ℕ) → T (not (same_step s.step Ended)) → Known q s → Known q (after_of q s a)
known_after q s a n k =
    let s' : SavedCall = noted_in q s a in
    let m : Noted q s' = notes_well q s a s.step k in
    subst⁻¹ (Known q) (after_noted q s a)
    (applied q s' a s.step (then_in q s a) m (fits q s' a s.step m.piece n k.taken))

call_after : (q : Request) (s : SavedCall) (a : ℕ) → (after_of q s a).call ≡ s.call
call_after q s a = rw (after_noted q s a, (apply_keeps (noted_in q s a) a (then_in q s a)).0) (noted_keeps (view_of q s) s a s.step).1

pub accepted_after : (q : Request) (s : SavedCall) (a : ℕ) → T (accepts q s) → T (accepts q (after_of q s a))
unfolding after_of
accepted_after q s a h =
    both (same_step s.step Ended)
    (λ e. let i = is_eq s.step Ended e in accept_ended q (after_of q s a) (rw i (same_call q s h)) (rw i tt))
    (λ n. accept q (after_of q s a) (rw (call_after q s a) (same_call q s h)) (known_after q s a n (known q s h n)))

-- a call with a piece moves bytes
some_target : (q : Request) → T (has_pieces q) → T (not (transaction q.call)) → T (receives q.call || transmits q.call)
unfolding pieces_for
some_target q h n =
    by_test P (transaction q.call) (λ x _. absurd (T_not (transaction q.call) n x)) (λ _.
    by_test P (receives q.call || transmits q.call) (λ y _. y) (λ _ h. absurd h)) h
  where
    P : List Piece → Type 0
    P ps = T (ltb 0 (length ps)) → T (receives q.call || transmits q.call)

-- what is asked of the step at which a call begins
record Begins (q : Request) (t : Step) : Type 0 where
  taken : T (takes q t)
  no_byte : T (not (same_step t Byte))

begins : (q : Request) → Begins q (begin_at q.call (has_pieces q))
unfolding group_taken is_call
begins q = search (by_test (Begins q), at, and_in, or_0, or_1, some_target) depth 16
  where
    at : (t : Step) → T (takes q t) → T (not (same_step t Byte)) → Begins q t
    at t h n = record { taken = h; no_byte = n }

pub accepted_begin : (q : Request) → T (accepts q (begin_of q))
unfolding begin_of
accepted_begin q =
    accept q (start_at q.call (begin_at q.call (has_pieces q))) (eqb_refl (call_number q.call))
    (record {
      taken = (begins q).taken;
      piece = omega arith;
      byte = omega arith;
      byte_there_holds = search (only_not, begins q);
      out = none_out q;
    })
