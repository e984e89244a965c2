-- Each text is the name of its register, filled up.
use Rattle.page.proofs.entry.name.Goals as goal

pub returns-in-Cr1 : goal.returns-in-Cr1
returns-in-Cr1 c = rw c.in-Cr1.is

pub returns-in-Cr2 : goal.returns-in-Cr2
returns-in-Cr2 c = rw c.in-Cr2.is

pub returns-in-Oar1 : goal.returns-in-Oar1
returns-in-Oar1 c = rw c.in-Oar1.is

pub returns-in-Oar2 : goal.returns-in-Oar2
returns-in-Oar2 c = rw c.in-Oar2.is

pub returns-in-Timingr : goal.returns-in-Timingr
returns-in-Timingr c = rw c.in-Timingr.is

pub returns-in-Isr : goal.returns-in-Isr
returns-in-Isr c = rw c.in-Isr.is

pub returns-in-Icr : goal.returns-in-Icr
returns-in-Icr c = rw c.in-Icr.is

pub returns-in-Rxdr : goal.returns-in-Rxdr
returns-in-Rxdr c = rw c.in-Rxdr.is

pub returns-in-Txdr : goal.returns-in-Txdr
returns-in-Txdr c = rw c.in-Txdr.is
