-- What `each` asks of a caller: nothing but what its types say, that what is lent lives long enough and that an array is no longer than arrays
-- are. Nothing rests on this file: a clause that asks for more fails here.
use borrow.Fn.World
use contract.BorrowLft.{◌⊑◌}
use contract.Lifetimes.{Lfts, lft_at}
use denote.Param.{number}
use Prim.Native.Nat.{ℕ, ◌*◌, ◌<◌}
use denote.RattleType.{RattleType}
use denote.Param.Laws.{Laws}
use mir.Syntax.{Dict, w64}
use mir.Val.{Fits}
use Rattle.input.specs.contracts.each as each
use Rattle.input.proofs.each.Reads as each-reads
use Rattle.input.specs.declared.Work.{Ghosts}

each_asks_nothing : (R W : RattleType) (n : ℕ) (f : Fits w64 n) (l : Laws W) (g : Ghosts W.Denot) (d : Dict) (κs : Lfts 5) (a : borrow.Fn.World.ArgsD (each.signature R W) κs) →
    lft_at 5 3 tt κs ⊑ (number n).lives → lft_at 5 4 tt κs ⊑ W.lives → n * 1 < 9223372036854775808 → each-reads.Asked n W f l g d κs a
each_asks_nothing R W n f l g d κs a x y z = record { 0 = x; 1 = record { 0 = y; 1 = z } }
