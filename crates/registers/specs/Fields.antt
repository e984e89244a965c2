-- Each register whole, as RM0492 writes it: its name, and its fields with their names from the top bit down. Assumes nothing.
use Prim.Native.String.{String}
use Rattle.std.specs.Prelude.{List, [], ◌∷◌, map}
use Rattle.fields.specs.Field.{Place}
use Rattle.registers.specs.Places.{CR1_STOPFACLR, CR1_ADDRACLR, CR1_FMP, CR1_PECEN, CR1_ALERTEN, CR1_SMBDEN, CR1_SMBHEN, CR1_GCEN, CR1_WUPEN, CR1_NOSTRETCH, CR1_SBC, CR1_RXDMAEN, CR1_TXDMAEN, CR1_ANFOFF, CR1_DNF, CR1_ERRIE, CR1_TCIE, CR1_STOPIE, CR1_NACKIE, CR1_ADDRIE, CR1_RXIE, CR1_TXIE, CR1_PE, CR2_PECBYTE, CR2_AUTOEND, CR2_RELOAD, CR2_NBYTES, CR2_NACK, CR2_STOP, CR2_START, CR2_HEAD10R, CR2_ADD10, CR2_RD_WRN, CR2_SADD, OAR1_OA1EN, OAR1_OA1MODE, OAR1_OA1, OAR2_OA2EN, OAR2_OA2MSK, OAR2_OA2, TIMINGR_PRESC, TIMINGR_SCLDEL, TIMINGR_SDADEL, TIMINGR_SCLH, TIMINGR_SCLL, ISR_ADDCODE, ISR_DIR, ISR_BUSY, ISR_ALERT, ISR_TIMEOUT, ISR_PECERR, ISR_OVR, ISR_ARLO, ISR_BERR, ISR_TCR, ISR_TC, ISR_STOPF, ISR_NACKF, ISR_ADDR, ISR_RXNE, ISR_TXIS, ISR_TXE, ICR_ALERTCF, ICR_TIMOUTCF, ICR_PECCF, ICR_OVRCF, ICR_ARLOCF, ICR_BERRCF, ICR_STOPCF, ICR_NACKCF, ICR_ADDRCF, RXDR_RXDATA, TXDR_TXDATA}
use Rattle.registers.specs.declared.Register.{Register}
use Rattle.registers.specs.declared.Register.TheVariants.{Cr1, Cr2, Oar1, Oar2, Timingr, Isr, Icr, Rxdr, Txdr}

abbrev pub registers : List Register
registers = Cr1 ∷ Cr2 ∷ Oar1 ∷ Oar2 ∷ Timingr ∷ Isr ∷ Icr ∷ Rxdr ∷ Txdr ∷ []

abbrev pub register_name : Register → String
register_name Cr1 = "CR1"
register_name Cr2 = "CR2"
register_name Oar1 = "OAR1"
register_name Oar2 = "OAR2"
register_name Timingr = "TIMINGR"
register_name Isr = "ISR"
register_name Icr = "ICR"
register_name Rxdr = "RXDR"
register_name Txdr = "TXDR"

pub record Field : Type 0 where
  pub name : String
  pub place : Place

abbrev pub field : String → Place → Field
field name place = record { name = name; place = place }

abbrev pub fields_of : Register → List Field
fields_of Cr1 =
    field "STOPFACLR" CR1_STOPFACLR ∷ field "ADDRACLR" CR1_ADDRACLR ∷ field "FMP" CR1_FMP ∷ field "PECEN" CR1_PECEN ∷ field "ALERTEN" CR1_ALERTEN ∷ field "SMBDEN" CR1_SMBDEN ∷ field "SMBHEN" CR1_SMBHEN ∷ field "GCEN" CR1_GCEN ∷ field "WUPEN" CR1_WUPEN ∷ field "NOSTRETCH" CR1_NOSTRETCH ∷ field "SBC" CR1_SBC ∷ field "RXDMAEN" CR1_RXDMAEN ∷ field "TXDMAEN" CR1_TXDMAEN ∷ field "ANFOFF" CR1_ANFOFF ∷ field "DNF" CR1_DNF ∷ field "ERRIE" CR1_ERRIE ∷ field "TCIE" CR1_TCIE ∷ field "STOPIE" CR1_STOPIE ∷ field "NACKIE" CR1_NACKIE ∷ field "ADDRIE" CR1_ADDRIE ∷ field "RXIE" CR1_RXIE ∷ field "TXIE" CR1_TXIE ∷ field "PE" CR1_PE ∷ []
fields_of Cr2 =
    field "PECBYTE" CR2_PECBYTE ∷ field "AUTOEND" CR2_AUTOEND ∷ field "RELOAD" CR2_RELOAD ∷ field "NBYTES" CR2_NBYTES ∷ field "NACK" CR2_NACK ∷ field "STOP" CR2_STOP ∷ field "START" CR2_START ∷ field "HEAD10R" CR2_HEAD10R ∷ field "ADD10" CR2_ADD10 ∷ field "RD_WRN" CR2_RD_WRN ∷ field "SADD" CR2_SADD ∷ []
fields_of Oar1 =
    field "OA1EN" OAR1_OA1EN ∷ field "OA1MODE" OAR1_OA1MODE ∷ field "OA1" OAR1_OA1 ∷ []
fields_of Oar2 =
    field "OA2EN" OAR2_OA2EN ∷ field "OA2MSK" OAR2_OA2MSK ∷ field "OA2" OAR2_OA2 ∷ []
fields_of Timingr =
    field "PRESC" TIMINGR_PRESC ∷ field "SCLDEL" TIMINGR_SCLDEL ∷ field "SDADEL" TIMINGR_SDADEL ∷ field "SCLH" TIMINGR_SCLH ∷ field "SCLL" TIMINGR_SCLL ∷ []
fields_of Isr =
    field "ADDCODE" ISR_ADDCODE ∷ field "DIR" ISR_DIR ∷ field "BUSY" ISR_BUSY ∷ field "ALERT" ISR_ALERT ∷ field "TIMEOUT" ISR_TIMEOUT ∷ field "PECERR" ISR_PECERR ∷ field "OVR" ISR_OVR ∷ field "ARLO" ISR_ARLO ∷ field "BERR" ISR_BERR ∷ field "TCR" ISR_TCR ∷ field "TC" ISR_TC ∷ field "STOPF" ISR_STOPF ∷ field "NACKF" ISR_NACKF ∷ field "ADDR" ISR_ADDR ∷ field "RXNE" ISR_RXNE ∷ field "TXIS" ISR_TXIS ∷ field "TXE" ISR_TXE ∷ []
fields_of Icr =
    field "ALERTCF" ICR_ALERTCF ∷ field "TIMOUTCF" ICR_TIMOUTCF ∷ field "PECCF" ICR_PECCF ∷ field "OVRCF" ICR_OVRCF ∷ field "ARLOCF" ICR_ARLOCF ∷ field "BERRCF" ICR_BERRCF ∷ field "STOPCF" ICR_STOPCF ∷ field "NACKCF" ICR_NACKCF ∷ field "ADDRCF" ICR_ADDRCF ∷ []
fields_of Rxdr =
    field "RXDATA" RXDR_RXDATA ∷ []
fields_of Txdr =
    field "TXDATA" TXDR_TXDATA ∷ []

abbrev pub places_of : Register → List Place
places_of r = map (λ (f : Field). f.place) (fields_of r)
