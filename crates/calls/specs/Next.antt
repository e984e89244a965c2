-- What of the next access is known before its word: the register, and whether it is read or written. Assumes nothing.
use Rattle.registers.specs.declared.Register.TheVariants.{Rxdr}
use Rattle.calls.specs.declared.Access.{Access}
use Rattle.calls.specs.declared.Access.TheVariants.{Read, Take, Write, Nothing}
use Rattle.calls.specs.declared.Next.{Next}
use Rattle.calls.specs.declared.Next.TheVariants as next

abbrev pub next_of : Access → Next
next_of (Read r) = next.Read r
next_of (Take i) = next.Read Rxdr
next_of (Write r w) = next.Write r
next_of Nothing = next.Over
