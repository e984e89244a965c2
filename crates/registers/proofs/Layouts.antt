-- Each register's fields lie within the word, and no two share a bit: one computed test a register. So a write to one field
-- leaves every other (`keeps` of the crate `fields`). Assumes nothing.
use lib.Dec.{T}
use Rattle.fields.specs.Field.{layout}
use Rattle.registers.specs.Fields.{places_of}
use Rattle.registers.specs.declared.Register.{Register}
use Rattle.registers.specs.declared.Register.TheVariants.{Cr1, Cr2, Oar1, Oar2, Timingr, Isr, Icr, Rxdr, Txdr}

pub layouts : (r : Register) → T (layout (places_of r))
layouts Cr1 = tt
layouts Cr2 = tt
layouts Oar1 = tt
layouts Oar2 = tt
layouts Timingr = tt
layouts Isr = tt
layouts Icr = tt
layouts Rxdr = tt
layouts Txdr = tt
