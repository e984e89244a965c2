-- The register map: offset and reset value of each register (RM0492, I2C register map). Assumes nothing.
use Rattle.std.specs.Prelude.{ℕ}
use Rattle.registers.specs.declared.Register.{Register}
use Rattle.registers.specs.declared.Register.TheVariants.{Cr1, Cr2, Oar1, Oar2, Timingr, Isr, Icr, Rxdr, Txdr}

abbrev pub offset_of : Register → ℕ
offset_of Cr1 = 0x00
offset_of Cr2 = 0x04
offset_of Oar1 = 0x08
offset_of Oar2 = 0x0C
offset_of Timingr = 0x10
offset_of Isr = 0x18
offset_of Icr = 0x1C
offset_of Rxdr = 0x24
offset_of Txdr = 0x28

-- Only ISR's is not 0: after a reset the transmit register is empty, so TXE is 1.
abbrev pub reset_of : Register → ℕ
reset_of Cr1 = 0
reset_of Cr2 = 0
reset_of Oar1 = 0
reset_of Oar2 = 0
reset_of Timingr = 0
reset_of Isr = 1
reset_of Icr = 0
reset_of Rxdr = 0
reset_of Txdr = 0
