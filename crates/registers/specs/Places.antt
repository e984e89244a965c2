-- The fields of the nine I2C registers, each named once, by place: its lowest bit, and its width where that is not 1
-- (RM0492, I2C registers). Bits that are not listed belong to no field. Assumes nothing.
use Rattle.fields.specs.Field.{Place, place, bit}

-- CR1, control register 1
abbrev pub CR1_STOPFACLR : Place
CR1_STOPFACLR = bit 31

abbrev pub CR1_ADDRACLR : Place
CR1_ADDRACLR = bit 30

abbrev pub CR1_FMP : Place
CR1_FMP = bit 24

abbrev pub CR1_PECEN : Place
CR1_PECEN = bit 23

abbrev pub CR1_ALERTEN : Place
CR1_ALERTEN = bit 22

abbrev pub CR1_SMBDEN : Place
CR1_SMBDEN = bit 21

abbrev pub CR1_SMBHEN : Place
CR1_SMBHEN = bit 20

abbrev pub CR1_GCEN : Place
CR1_GCEN = bit 19

abbrev pub CR1_WUPEN : Place
CR1_WUPEN = bit 18

abbrev pub CR1_NOSTRETCH : Place
CR1_NOSTRETCH = bit 17

abbrev pub CR1_SBC : Place
CR1_SBC = bit 16

abbrev pub CR1_RXDMAEN : Place
CR1_RXDMAEN = bit 15

abbrev pub CR1_TXDMAEN : Place
CR1_TXDMAEN = bit 14

abbrev pub CR1_ANFOFF : Place
CR1_ANFOFF = bit 12

abbrev pub CR1_DNF : Place
CR1_DNF = place 8 4

abbrev pub CR1_ERRIE : Place
CR1_ERRIE = bit 7

abbrev pub CR1_TCIE : Place
CR1_TCIE = bit 6

abbrev pub CR1_STOPIE : Place
CR1_STOPIE = bit 5

abbrev pub CR1_NACKIE : Place
CR1_NACKIE = bit 4

abbrev pub CR1_ADDRIE : Place
CR1_ADDRIE = bit 3

abbrev pub CR1_RXIE : Place
CR1_RXIE = bit 2

abbrev pub CR1_TXIE : Place
CR1_TXIE = bit 1

abbrev pub CR1_PE : Place
CR1_PE = bit 0

-- CR2, control register 2
abbrev pub CR2_PECBYTE : Place
CR2_PECBYTE = bit 26

abbrev pub CR2_AUTOEND : Place
CR2_AUTOEND = bit 25

abbrev pub CR2_RELOAD : Place
CR2_RELOAD = bit 24

abbrev pub CR2_NBYTES : Place
CR2_NBYTES = place 16 8

abbrev pub CR2_NACK : Place
CR2_NACK = bit 15

abbrev pub CR2_STOP : Place
CR2_STOP = bit 14

abbrev pub CR2_START : Place
CR2_START = bit 13

abbrev pub CR2_HEAD10R : Place
CR2_HEAD10R = bit 12

abbrev pub CR2_ADD10 : Place
CR2_ADD10 = bit 11

abbrev pub CR2_RD_WRN : Place
CR2_RD_WRN = bit 10

abbrev pub CR2_SADD : Place
CR2_SADD = place 0 10

-- OAR1, own address 1 register
abbrev pub OAR1_OA1EN : Place
OAR1_OA1EN = bit 15

abbrev pub OAR1_OA1MODE : Place
OAR1_OA1MODE = bit 10

abbrev pub OAR1_OA1 : Place
OAR1_OA1 = place 0 10

-- OAR2, own address 2 register
abbrev pub OAR2_OA2EN : Place
OAR2_OA2EN = bit 15

abbrev pub OAR2_OA2MSK : Place
OAR2_OA2MSK = place 8 3

abbrev pub OAR2_OA2 : Place
OAR2_OA2 = place 1 7

-- TIMINGR, timing register
abbrev pub TIMINGR_PRESC : Place
TIMINGR_PRESC = place 28 4

abbrev pub TIMINGR_SCLDEL : Place
TIMINGR_SCLDEL = place 20 4

abbrev pub TIMINGR_SDADEL : Place
TIMINGR_SDADEL = place 16 4

abbrev pub TIMINGR_SCLH : Place
TIMINGR_SCLH = place 8 8

abbrev pub TIMINGR_SCLL : Place
TIMINGR_SCLL = place 0 8

-- ISR, interrupt and status register
abbrev pub ISR_ADDCODE : Place
ISR_ADDCODE = place 17 7

abbrev pub ISR_DIR : Place
ISR_DIR = bit 16

abbrev pub ISR_BUSY : Place
ISR_BUSY = bit 15

abbrev pub ISR_ALERT : Place
ISR_ALERT = bit 13

abbrev pub ISR_TIMEOUT : Place
ISR_TIMEOUT = bit 12

abbrev pub ISR_PECERR : Place
ISR_PECERR = bit 11

abbrev pub ISR_OVR : Place
ISR_OVR = bit 10

abbrev pub ISR_ARLO : Place
ISR_ARLO = bit 9

abbrev pub ISR_BERR : Place
ISR_BERR = bit 8

abbrev pub ISR_TCR : Place
ISR_TCR = bit 7

abbrev pub ISR_TC : Place
ISR_TC = bit 6

abbrev pub ISR_STOPF : Place
ISR_STOPF = bit 5

abbrev pub ISR_NACKF : Place
ISR_NACKF = bit 4

abbrev pub ISR_ADDR : Place
ISR_ADDR = bit 3

abbrev pub ISR_RXNE : Place
ISR_RXNE = bit 2

abbrev pub ISR_TXIS : Place
ISR_TXIS = bit 1

abbrev pub ISR_TXE : Place
ISR_TXE = bit 0

-- ICR, interrupt clear register
abbrev pub ICR_ALERTCF : Place
ICR_ALERTCF = bit 13

abbrev pub ICR_TIMOUTCF : Place
ICR_TIMOUTCF = bit 12

abbrev pub ICR_PECCF : Place
ICR_PECCF = bit 11

abbrev pub ICR_OVRCF : Place
ICR_OVRCF = bit 10

abbrev pub ICR_ARLOCF : Place
ICR_ARLOCF = bit 9

abbrev pub ICR_BERRCF : Place
ICR_BERRCF = bit 8

abbrev pub ICR_STOPCF : Place
ICR_STOPCF = bit 5

abbrev pub ICR_NACKCF : Place
ICR_NACKCF = bit 4

abbrev pub ICR_ADDRCF : Place
ICR_ADDRCF = bit 3

-- RXDR, receive data register
abbrev pub RXDR_RXDATA : Place
RXDR_RXDATA = place 0 8

-- TXDR, transmit data register
abbrev pub TXDR_TXDATA : Place
TXDR_TXDATA = place 0 8
