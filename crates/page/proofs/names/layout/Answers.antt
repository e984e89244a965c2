-- The text of each register tells its fields, as antt computes.
use Rattle.numerals.specs.Numbers.{parsed_of, is_hex, number_of, digit_of}
use Rattle.numerals.specs.Words.{is_blank}
use Rattle.page.specs.Put.{fields_in}
use Rattle.page.proofs.names.layout.Goals as goal

pub returns-in-Cr1 : goal.returns-in-Cr1
unfolding fields_in parsed_of is_hex number_of digit_of is_blank
returns-in-Cr1 c = rw c.in-Cr1.is

pub returns-in-Cr2 : goal.returns-in-Cr2
unfolding fields_in parsed_of is_hex number_of digit_of is_blank
returns-in-Cr2 c = rw c.in-Cr2.is

pub returns-in-Oar1 : goal.returns-in-Oar1
unfolding fields_in parsed_of is_hex number_of digit_of is_blank
returns-in-Oar1 c = rw c.in-Oar1.is

pub returns-in-Oar2 : goal.returns-in-Oar2
unfolding fields_in parsed_of is_hex number_of digit_of is_blank
returns-in-Oar2 c = rw c.in-Oar2.is

pub returns-in-Timingr : goal.returns-in-Timingr
unfolding fields_in parsed_of is_hex number_of digit_of is_blank
returns-in-Timingr c = rw c.in-Timingr.is

pub returns-in-Isr : goal.returns-in-Isr
unfolding fields_in parsed_of is_hex number_of digit_of is_blank
returns-in-Isr c = rw c.in-Isr.is

pub returns-in-Icr : goal.returns-in-Icr
unfolding fields_in parsed_of is_hex number_of digit_of is_blank
returns-in-Icr c = rw c.in-Icr.is

pub returns-in-Rxdr : goal.returns-in-Rxdr
unfolding fields_in parsed_of is_hex number_of digit_of is_blank
returns-in-Rxdr c = rw c.in-Rxdr.is

pub returns-in-Txdr : goal.returns-in-Txdr
unfolding fields_in parsed_of is_hex number_of digit_of is_blank
returns-in-Txdr c = rw c.in-Txdr.is
