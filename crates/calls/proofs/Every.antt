-- A call and a step are known by their numbers, so what a computed test finds of each call of the list holds of any
-- call, and likewise of the steps. Assumes nothing.
use Rattle.std.specs.Prelude.{Option, Some}
use Prim.Native.Nat.{ℕ, zero, suc}
use mathlib.Core.Path.{◌≡◌, refl, sym, ap, subst, ◌∙◌}
use mathlib.Core.Bool.{Bool, true, not, ◌&&◌, ◌||◌}
use mathlib.Core.List.{List, [], ◌∷◌}
use lib.Dec.{T, eqb, eqb→eq}
use lib.ListN.{get_or}
use Rattle.fields.proofs.Laws.{and_l, and_r}
use Rattle.calls.specs.Calls.{Request, call_number, is_call, transaction}
use Rattle.calls.specs.Steps.{step_number, steps, same_step}
use Rattle.calls.specs.Refusals.{listed, lookup_in, lookup_of, Group, takes_group}
use Rattle.calls.specs.declared.Ack.TheVariants.{AutoAck, ManualAck}
use Rattle.calls.specs.declared.Call.{Call}
use Rattle.calls.specs.declared.Call.TheVariants.{New, TargetNew, ConfigureTargetAddresses, EnableTargetEvent, DisableTargetEvent, Reset, Transaction, WaitForEvent, Read, Write, WaitForTargetRead, WaitForTargetWrite, WaitForStop, AckTransfer, NackTransfer}
use Rattle.calls.specs.declared.Modify.{Modify}
use Rattle.calls.specs.declared.Modify.TheVariants.{PeOff, PeOn, Listen, NackSet, ReloadOff, SbcOff, ReloadClear, SbcOn, ReloadOn, NbytesSet}
use Rattle.calls.specs.declared.Step.{Step}
use Rattle.calls.specs.declared.Step.TheVariants.{Ended, Begin, StartStatus, StartControl, Wait, Byte, StopClear, BusClear, ArbitrationClear, NackClear, FlushTxis, FlushByte, FlushTxe, Flush, Timing, Own, Secondary, Enable, Delay1, Delay2, Disabled, Event, EventFlush, EventClear, Address, TransferClear, ModifyRead, ModifyWrite}
use Rattle.calls.proofs.Logic.{or_0, or_1, by_test, both, implies}

abbrev pub all : {A : Type 0} → (A → Bool) → List A → Bool
all f [] = true
all f (x ∷ xs) = f x && all f xs

-- ---- the calls: the listed one of a call's number is the call
pub found : (c : Call) → lookup_of (call_number c) ≡ Some c
unfolding lookup_of
found New = refl
found TargetNew = refl
found ConfigureTargetAddresses = refl
found EnableTargetEvent = refl
found DisableTargetEvent = refl
found Reset = refl
found Transaction = refl
found (WaitForEvent AutoAck) = refl
found (WaitForEvent ManualAck) = refl
found (Read AutoAck) = refl
found (Read ManualAck) = refl
found (Write AutoAck) = refl
found (Write ManualAck) = refl
found (WaitForTargetRead AutoAck) = refl
found (WaitForTargetRead ManualAck) = refl
found (WaitForTargetWrite AutoAck) = refl
found (WaitForTargetWrite ManualAck) = refl
found (WaitForStop AutoAck) = refl
found (WaitForStop ManualAck) = refl
found AckTransfer = refl
found NackTransfer = refl

pub by_number : (c e : Call) → T (eqb (call_number c) (call_number e)) → c ≡ e
by_number c e h = let n : call_number c ≡ call_number e = eqb→eq (call_number c) (call_number e) h in cc (found c, found e)

of_listed : (f : Call → Bool) (cs : List Call) (c : Call) →
    lookup_in cs (call_number c) ≡ Some c → T (all f cs) → T (f c)
of_listed f [] c e t = let z : f c ≡ true = cc in rw z tt
of_listed f (x ∷ xs) c e t =
    by_test (λ (l : Option Call). l ≡ Some c → T (f c)) (eqb (call_number c) (call_number x))
    (λ _ e. let z : x ≡ c = cc in rw z at (and_l (f x) (all f xs) t))
    (λ _ e. of_listed f xs c e (and_r (f x) (all f xs) t))
    e

pub every : (f : Call → Bool) → T (all f listed) → (c : Call) → T (f c)
unfolding lookup_of
every f t c = of_listed f listed c (found c) t

-- the request with another call
abbrev pub asks : Request → Call → Request
asks q c = record { call = c; words = q.words; operations = q.operations; size = q.size }

-- b follows from a whatever is called, so it does for the request
pub implied : (q : Request) (a b : Request → Bool) →
    T (all (λ c. b (asks q c) || not (a (asks q c))) listed) → T (a q) → T (b q)
implied q a b t h = implies (a q) (b q) (every (λ c. b (asks q c) || not (a (asks q c))) t q.call) h

-- what takes a step of a group is no transaction, unless a transaction takes that group
pub aside : (q : Request) (g : Group) → T (takes_group q g) → T (takes_group (asks q Transaction) g || not (transaction q.call))
unfolding is_call
aside q g h =
    both (transaction q.call)
    (λ x. let h' = subst (λ (c : Call). T (takes_group (asks q c) g)) (by_number q.call Transaction x) h in search or_0)
    (λ n. search or_1)

-- ---- the steps: each stands in the list at its number
abbrev step_at : ℕ → Step
step_at n = get_or steps n Ended

modify_back : (m : Modify) → (step_at (step_number (ModifyRead m)) ≡ ModifyRead m) × (step_at (step_number (ModifyWrite m)) ≡ ModifyWrite m)
modify_back PeOff = (refl, refl)
modify_back PeOn = (refl, refl)
modify_back Listen = (refl, refl)
modify_back NackSet = (refl, refl)
modify_back ReloadOff = (refl, refl)
modify_back SbcOff = (refl, refl)
modify_back ReloadClear = (refl, refl)
modify_back SbcOn = (refl, refl)
modify_back ReloadOn = (refl, refl)
modify_back NbytesSet = (refl, refl)

back : (t : Step) → step_at (step_number t) ≡ t
back Ended = refl
back Begin = refl
back StartStatus = refl
back StartControl = refl
back Wait = refl
back Byte = refl
back StopClear = refl
back BusClear = refl
back ArbitrationClear = refl
back NackClear = refl
back FlushTxis = refl
back FlushByte = refl
back FlushTxe = refl
back Flush = refl
back Timing = refl
back Own = refl
back Secondary = refl
back Enable = refl
back Delay1 = refl
back Delay2 = refl
back Disabled = refl
back Event = refl
back EventFlush = refl
back EventClear = refl
back Address = refl
back TransferClear = refl
back (ModifyRead m) = (modify_back m).0
back (ModifyWrite m) = (modify_back m).1

pub is_eq : (t u : Step) → T (same_step t u) → t ≡ u
is_eq t u h = sym (back t) ∙ ap step_at (eqb→eq (step_number t) (step_number u) h) ∙ back u

in_steps : (f : Step → Bool) (ts : List Step) (n : ℕ) → T (f Ended) → T (all f ts) → T (f (get_or ts n Ended))
in_steps f [] n e t = e
in_steps f (x ∷ xs) zero e t = and_l (f x) (all f xs) t
in_steps f (x ∷ xs) (suc n) e t = in_steps f xs n e (and_r (f x) (all f xs) t)

pub every_step : (f : Step → Bool) → T (all f steps) → (t : Step) → T (f t)
every_step f h t = rw (back t) at (in_steps f steps (step_number t) (and_l (f Ended) _ h) h)
