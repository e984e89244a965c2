-- Document 01's "Proved cases" as one computed table: the twelve of the crate `timing`, and the run of call 7 that the
-- section "Bench" prints. With them runs that pin the step tables, entry by entry; each row says which. They are the Rust's, as
-- `compare bench-text` prints them (of the first of `transfers` with document 01's outcome, of a board at 0x78 with document 02's address, of
-- `totals` with document 02's total: docs/DIFFERENCES.md). Assumes nothing.
use Rattle.std.specs.Prelude.{Option, Some, None}
use Prim.Native.Nat.{ℕ, suc, ◌+◌}
use mathlib.Core.Path.{◌≡◌, refl}
use mathlib.Core.List.{List, [], ◌∷◌, ◌++◌, map}
use lib.ListN.{length, replicate}
use Rattle.fields.specs.Field.{bits_at, with_bits, get_of, put_of}
use Rattle.timing.proofs.Cases.{Question, Answer, Case, ask, cases}
use Rattle.timing.specs.Bands.{timing_of, band_of, in_band_of, equal_at, double_at}
use Rattle.timing.specs.Timingr.{unpack_of}
use Rattle.calls.specs.Advances.{answers_in}
use Rattle.calls.specs.Calls.{is_call, is_kind, manual, config_of, with_mode, with_secondary, with_mask}
use Rattle.calls.specs.Pieces.{pieces_for}
use Rattle.calls.specs.Refusals.{lookup_of, verdict_of, check_of, group_taken, accepts}
use Rattle.calls.specs.Run.{Entry, Run, begun_of, advance_from, run_of}
use Rattle.calls.specs.Steps.{access_of, after_of, begin_of, fresh_at, saved_at}
use Rattle.calls.specs.Words.{cr2_of, timingr_of, oar1_of, oar2_of, alter_of}
use Rattle.calls.specs.declared.AddressMode.{AddressMode}
use Rattle.calls.specs.declared.AddressMode.TheVariants.{AddressMode7bit, AddressMode10bit}
use Rattle.calls.specs.declared.Description.{Description}
use Rattle.calls.specs.declared.Outcome.{Outcome}
use Rattle.calls.specs.declared.Outcome.TheVariants.{Done, Bus, Arbitration, Nack, Stopped, ExpectedWrite, ExpectedRead, EventRead, EventWrite, EventStop}
use Rattle.calls.specs.declared.Refusal.TheVariants.{SavedCall as BadSavedCall}
use Rattle.calls.specs.declared.Report.{Report}
use Rattle.calls.specs.declared.Report.TheVariants.{Over, Full, Refused}
use Rattle.calls.specs.declared.SavedCall.{SavedCall}
use Rattle.calls.specs.declared.Step.TheVariants.{Ended, Wait, Event}
use Rattle.calls.specs.declared.TargetConfig.{TargetConfig}

-- what the bench prints of a call: how it ended, the answers used, the accesses, the buffer
record Came : Type 0 where
  report : Report
  used : ℕ
  log : List Entry
  buffer : List ℕ

data Asked : Type 0 where
  word : Question → Asked
  run : Description → List ℕ → List ℕ → SavedCall → List ℕ → ℕ → Asked

data Answered : Type 0 where
  word : Answer → Answered
  run : Came → Answered

abbrev came : Run → Came
came R = record { report = R.report; used = R.used; log = R.entries; buffer = R.buffer }

-- a call is advanced with the operations, the buffer, the saved call, the answers and a number of log places
abbrev answer_to : Asked → Answered
answer_to (word x) = word (ask x)
answer_to (run d ops b s l places) = run (came (run_of d ops places s b l))

record Row : Type 0 where
  asked : Asked
  answered : Answered

abbrev from_timing : Case → Row
from_timing c = record { asked = word c.question; answered = word c.answer }

-- call n with its argument as in a bench file: the address of 7, the listen kind of 4 and 5
abbrev pub description : ℕ → ℕ → AddressMode → ℕ → Option TargetConfig → Description
description n argument mode timing config =
    record { call = n; address = argument; listen = argument; timing = record { 0 = timing }; config = config; mode = mode }

abbrev pub plain : ℕ → ℕ → Description
plain n argument = description n argument AddressMode7bit 0 None

-- accesses as the bench prints them
abbrev r : ℕ → ℕ → Entry
r at v = record { code = at; value = v }

abbrev w : ℕ → ℕ → Entry
w at v = record { code = at + 0x100; value = v }

-- A run with the operations and the buffer that it was lent, its end, its accesses, and the buffer after it: from the saved call s
-- on. Its answers are what the reads gave, and the log has one place to spare.
abbrev resumed : SavedCall → Description → List ℕ → List ℕ → Outcome → List Entry → List ℕ → Row
resumed s d ops b o log after =
    let l : List ℕ = answers_in log in
    record {
      asked = run d ops b s l (suc (length log));
      answered = run (record { report = Over o; used = length l; log = log; buffer = after });
    }

-- and from begin
abbrev ran : Description → List ℕ → List ℕ → Outcome → List Entry → List ℕ → Row
ran d ops b o log after = resumed (begun_of d ops (length b)).saved d ops b o log after

-- the first accesses alone: the log has no place more
abbrev starts : Description → List ℕ → List ℕ → List Entry → List ℕ → Row
starts d ops b log after =
    let l : List ℕ = answers_in log in
    record {
      asked = run d ops b (begun_of d ops (length b)).saved l (length log);
      answered = run (record { report = Full; used = length l; log = log; buffer = after });
    }

-- a saved call that row 13 refuses, with an answer and a place at hand
abbrev refused : SavedCall → Description → List ℕ → Row
refused s d b =
    record {
      asked = run d [] b s (0 ∷ []) 1;
      answered = run (record { report = Refused BadSavedCall; used = 0; log = []; buffer = b });
    }

abbrev transactions : List Row
transactions =
    -- document 01's run
    ran (plain 7 0x50) (2 ∷ []) (0x12 ∷ 0x34 ∷ []) (Done 0)
    (w 0x04 0x020220A0 ∷ r 0x18 1 ∷ r 0x04 0x020200A0 ∷ r 0x18 3 ∷ w 0x28 0x12 ∷ r 0x18 3 ∷ w 0x28 0x34
    ∷ r 0x18 0x21 ∷ w 0x1C 0x20 ∷ [])
    (0x12 ∷ 0x34 ∷ [])
    -- Ten bits: `start` has no HEAD10R; `reload` no START, SADD or ADD10; `repeat_start` has HEAD10R. The start wait reads ISR
    -- and CR2 again while START stands. TCR ends the first operation and not TC, TC the second and not TCR, STOPF the last. RXNE comes before
    -- STOPF.
    ∷ ran (description 7 0x2A5 AddressMode10bit 0 None) (1 ∷ 1 ∷ 0x10001 ∷ []) (0x12 ∷ 0x34 ∷ 0 ∷ []) (Done 0)
    (w 0x04 0x01012AA5 ∷ r 0x18 1 ∷ r 0x04 0x2000 ∷ r 0x18 1 ∷ r 0x04 0 ∷ r 0x18 3 ∷ w 0x28 0x12 ∷ r 0x18 0x40 ∷ r 0x18 0x80
    ∷ w 0x04 0x00010000 ∷ r 0x18 1 ∷ r 0x04 0 ∷ r 0x18 3 ∷ w 0x28 0x34 ∷ r 0x18 0x80 ∷ r 0x18 0x40
    ∷ w 0x04 0x02013EA5 ∷ r 0x18 1 ∷ r 0x04 0 ∷ r 0x18 0x24 ∷ r 0x24 0x5A ∷ r 0x18 0x40 ∷ r 0x18 0x20 ∷ w 0x1C 0x20 ∷ [])
    (0x12 ∷ 0x34 ∷ 0x5A ∷ [])
    -- seven bits: no HEAD10R in a repeated start
    ∷ ran (plain 7 0x50) (1 ∷ 0x10001 ∷ []) (0x12 ∷ 0 ∷ []) (Done 0)
    (w 0x04 0x000120A0 ∷ r 0x18 1 ∷ r 0x04 0 ∷ r 0x18 3 ∷ w 0x28 0x12 ∷ r 0x18 0x40
    ∷ w 0x04 0x020124A0 ∷ r 0x18 1 ∷ r 0x04 0 ∷ r 0x18 4 ∷ r 0x24 0x15A ∷ r 0x18 0x20 ∷ w 0x1C 0x20 ∷ [])
    (0x12 ∷ 0x5A ∷ [])
    -- BERR comes before ARLO and NACKF; the wait for STOPF after an error keeps it
    ∷ ran (plain 7 0x50) (1 ∷ []) (0x12 ∷ []) Bus
    (w 0x04 0x020120A0 ∷ r 0x18 0x310 ∷ w 0x1C 0x100 ∷ r 0x18 0x20 ∷ w 0x1C 0x20 ∷ [])
    (0x12 ∷ [])
    -- NACKF comes before TXIS; the flush writes TXDR where TXIS is set, and not ISR where TXE is 1; an error in the wait for STOPF comes before
    -- STOPF, and takes the place of the first
    ∷ ran (plain 7 0x50) (2 ∷ []) (0x12 ∷ 0x34 ∷ []) Arbitration
    (w 0x04 0x020220A0 ∷ r 0x18 1 ∷ r 0x04 0 ∷ r 0x18 0x13 ∷ w 0x1C 0x10 ∷ r 0x18 3 ∷ w 0x28 0 ∷ r 0x18 1
    ∷ r 0x18 0 ∷ r 0x18 0x220 ∷ w 0x1C 0x200 ∷ [])
    (0x12 ∷ 0x34 ∷ [])
    -- NACKF comes before STOPF; the flush writes no TXDR where TXIS is 0, and ISR where TXE is 0
    ∷ ran (plain 7 0x50) (1 ∷ []) (0x12 ∷ []) Nack
    (w 0x04 0x020120A0 ∷ r 0x18 1 ∷ r 0x04 0 ∷ r 0x18 3 ∷ w 0x28 0x12 ∷ r 0x18 0x31 ∷ w 0x1C 0x10 ∷ r 0x18 0 ∷ r 0x18 0 ∷ w 0x18 1
    ∷ r 0x18 0x20 ∷ w 0x1C 0x20 ∷ [])
    (0x12 ∷ [])
    -- a NACK in the wait for STOPF is the newer error
    ∷ ran (plain 7 0x50) (0x10001 ∷ []) (0 ∷ []) Nack
    (w 0x04 0x020124A0 ∷ r 0x18 0x101 ∷ w 0x1C 0x100 ∷ r 0x18 0x30 ∷ w 0x1C 0x10 ∷ r 0x18 1 ∷ r 0x18 1 ∷ [])
    (0 ∷ [])
    -- byte in: NACKF is not looked at, ADDR without RXNE gives stopped
    ∷ ran (plain 7 0x50) (0x10001 ∷ []) (0 ∷ []) Stopped
    (w 0x04 0x020124A0 ∷ r 0x18 1 ∷ r 0x04 0 ∷ r 0x18 0x10 ∷ r 0x18 8 ∷ r 0x18 1 ∷ r 0x18 0x21 ∷ w 0x1C 0x20 ∷ [])
    (0 ∷ [])
    ∷ []

-- Document 02, R-1: the beginning of each run and, from the last byte of a piece on, its end.
abbrev long : List Row
long =
    -- 256 bytes: 255 with RELOAD, then one with AUTOEND and no START, SADD or RD_WRN; TCR ends the first piece and TC does not
    starts (plain 7 0x50) (256 ∷ []) (replicate 256 0) (w 0x04 0x01FF20A0 ∷ r 0x18 1 ∷ r 0x04 0 ∷ r 0x18 2 ∷ w 0x28 0 ∷ []) (replicate 256 0)
    ∷ resumed (saved_at (fresh_at 7 Wait) Wait 0 254 0 0 (Done 0) 511) (plain 7 0x50) (256 ∷ []) (replicate 256 0) (Done 0)
    (r 0x18 2 ∷ w 0x28 0 ∷ r 0x18 0x40 ∷ r 0x18 0x80 ∷ w 0x04 0x02010000 ∷ r 0x18 1 ∷ r 0x04 0 ∷ r 0x18 2 ∷ w 0x28 0 ∷ r 0x18 0x20 ∷ w 0x1C 0x20 ∷ [])
    (replicate 256 0)
    -- ten bits, a write of 1 and a read of 256: HEAD10R stands where the read starts, and RD_WRN in both of its pieces
    ∷ starts (description 7 0x123 AddressMode10bit 0 None) (1 ∷ 0x10100 ∷ []) (replicate 257 0x11)
    (w 0x04 0x00012923 ∷ r 0x18 1 ∷ r 0x04 0 ∷ r 0x18 2 ∷ w 0x28 0x11 ∷ r 0x18 0x40 ∷ w 0x04 0x01FF3D23 ∷ r 0x18 1 ∷ r 0x04 0 ∷ r 0x18 4 ∷ r 0x24 0x22 ∷ [])
    (0x11 ∷ 0x22 ∷ replicate 255 0x11)
    ∷ resumed (saved_at (fresh_at 7 Wait) Wait 1 254 0 0 (Done 0) 517)
    (description 7 0x123 AddressMode10bit 0 None) (1 ∷ 0x10100 ∷ []) (replicate 257 0x11) (Done 0)
    (r 0x18 4 ∷ r 0x24 0x22 ∷ r 0x18 0x80 ∷ w 0x04 0x02010400 ∷ r 0x18 1 ∷ r 0x04 0 ∷ r 0x18 4 ∷ r 0x24 0x33 ∷ r 0x18 0x20 ∷ w 0x1C 0x20 ∷ [])
    (replicate 255 0x11 ++ 0x22 ∷ 0x33 ∷ [])
    -- one operation of no byte is an empty piece
    ∷ ran (plain 7 0x50) (0 ∷ []) [] (Done 0) (w 0x04 0x020020A0 ∷ r 0x18 1 ∷ r 0x04 0 ∷ r 0x18 0x20 ∷ w 0x1C 0x20 ∷ []) []
    ∷ []

abbrev events : List Row
events =
    -- ADDR comes before STOPF; AutoAck clears ADDR before it finds the address; ADDCODE 0x7B is a ten-bit header, and OA1 has ten bits
    ran (plain 8 0) [] [] (EventRead 0xA5) (r 0x18 0x00F70029 ∷ w 0x1C 8 ∷ r 0x08 0x84A5 ∷ []) []
    -- ADDCODE 0x7C is none; ManualAck and DIR 0: SBC off, RELOAD and NBYTES off, SBC on, RELOAD on
    ∷ ran (plain 24 0) [] [] (EventWrite 0x7C)
    (r 0x18 0x00F80009 ∷ r 0x00 0x10000 ∷ w 0x00 0 ∷ r 0x04 0xFFFFFFFF ∷ w 0x04 0xFE00FFFF
    ∷ r 0x00 0 ∷ w 0x00 0x10000 ∷ r 0x04 0 ∷ w 0x04 0x01000000 ∷ [])
    []
    -- ManualAck and DIR 1 with TXE 0: ISR 1, SBC off, RELOAD and NBYTES off, the address, ADDRCF
    ∷ ran (plain 24 0) [] [] (EventRead 0x2A5)
    (r 0x18 0x00F10028 ∷ w 0x18 1 ∷ r 0x00 0xFFFFFFFF ∷ w 0x00 0xFFFEFFFF ∷ r 0x04 0 ∷ w 0x04 0 ∷ r 0x08 0x6A5 ∷ w 0x1C 8 ∷ [])
    []
    -- document 02, R-5: ADDCODE 0x78 is the address of a board of seven bits, since OA1MODE is 0, though OA1EN is 1; with OA1MODE 1 OA1 is
    ∷ ran (plain 8 0) [] [] (EventWrite 0x78) (r 0x18 0x00F00009 ∷ w 0x1C 8 ∷ r 0x08 0x80F0 ∷ []) []
    ∷ ran (plain 8 0) [] [] (EventWrite 0x123) (r 0x18 0x00F00009 ∷ w 0x1C 8 ∷ r 0x08 0x8523 ∷ []) []
    ∷ ran (plain 24 0) [] [] (EventRead 0x78)
    (r 0x18 0x00F10009 ∷ r 0x00 0 ∷ w 0x00 0 ∷ r 0x04 0 ∷ w 0x04 0 ∷ r 0x08 0x80F0 ∷ w 0x1C 8 ∷ [])
    []
    -- OA1 is, though OA1EN is 0
    ∷ ran (plain 8 0) [] [] (EventRead 0x78) (r 0x18 0x00F70009 ∷ w 0x1C 8 ∷ r 0x08 0x0478 ∷ []) []
    -- an event of neither flag is awaited; a stop
    ∷ ran (plain 8 0) [] [] EventStop (r 0x18 0 ∷ r 0x18 0x10 ∷ r 0x18 0x21 ∷ w 0x1C 0x20 ∷ []) []
    -- events that do not fit 11, 12 and 13
    ∷ ran (plain 11 0) [] (0 ∷ []) ExpectedWrite (r 0x18 0x00430009 ∷ w 0x1C 8 ∷ []) (0 ∷ [])
    ∷ ran (plain 27 0) [] (0 ∷ []) Stopped (r 0x18 0x20 ∷ w 0x1C 0x20 ∷ []) (0 ∷ [])
    ∷ ran (plain 12 0) [] (1 ∷ []) ExpectedRead (r 0x18 0x00420009 ∷ w 0x1C 8 ∷ []) (1 ∷ [])
    ∷ ran (plain 12 0) [] (1 ∷ []) Stopped (r 0x18 0x20 ∷ w 0x1C 0x20 ∷ []) (1 ∷ [])
    ∷ ran (plain 13 0) [] [] ExpectedWrite (r 0x18 0x00430009 ∷ w 0x1C 8 ∷ []) []
    ∷ ran (plain 13 0) [] [] ExpectedRead (r 0x18 0x00420009 ∷ w 0x1C 8 ∷ []) []
    ∷ ran (plain 13 0) [] [] (Done 0) (r 0x18 0x21 ∷ w 0x1C 0x20 ∷ []) []
    ∷ []

abbrev transfers : List Row
transfers =
    -- not acknowledged at byte 0 of a block that is not the last: counts 0 after the whole flush
    ran (plain 26 0) [] (replicate 256 0x5A) (Done 0)
    (r 0x04 0 ∷ w 0x04 0x00FF0000 ∷ w 0x1C 8 ∷ r 0x18 0x11 ∷ w 0x1C 0x10 ∷ r 0x18 1 ∷ r 0x18 1 ∷ [])
    (replicate 256 0x5A)
    -- one byte, a filling zero, then NACK with TXIS: a flush, and the count is the length
    ∷ ran (plain 10 0) [] (0x5A ∷ []) (Done 1)
    (r 0x18 2 ∷ w 0x28 0x5A ∷ r 0x18 2 ∷ w 0x28 0 ∷ r 0x18 0x10 ∷ w 0x1C 0x10 ∷ r 0x18 2 ∷ w 0x28 0 ∷ r 0x18 0 ∷ w 0x18 1 ∷ [])
    (0x5A ∷ [])
    -- a manual write event at 0x21, then two bytes
    ∷ ran (plain 27 0) [] (0 ∷ 0 ∷ []) (Done 2)
    (r 0x18 0x00420009 ∷ r 0x00 0x10001 ∷ w 0x00 1 ∷ r 0x04 0x01FF0000 ∷ w 0x04 0 ∷ r 0x00 1 ∷ w 0x00 0x10001
    ∷ r 0x04 0 ∷ w 0x04 0x01000000 ∷ r 0x04 0x01000000 ∷ w 0x04 0x01020000 ∷ w 0x1C 8
    ∷ r 0x18 4 ∷ r 0x24 0x1A5 ∷ r 0x18 4 ∷ r 0x24 0x2B6 ∷ [])
    (0xA5 ∷ 0xB6 ∷ [])
    -- a read event at a ten-bit header, then a byte: one put out, none counted
    ∷ ran (plain 12 0) [] (0x5A ∷ []) (Done 0)
    (r 0x18 0x00F50009 ∷ w 0x1C 8 ∷ r 0x08 0x6A5 ∷ r 0x18 3 ∷ w 0x28 0x5A ∷ r 0x18 0x11 ∷ w 0x1C 0x10 ∷ r 0x18 1 ∷ r 0x18 1 ∷ [])
    (0x5A ∷ [])
    -- a manual read event: ADDRCF is cleared in the event, and again after NBYTES
    ∷ ran (plain 28 0) [] (0x5A ∷ []) (Done 1)
    (r 0x18 0x00430009 ∷ r 0x00 0x10001 ∷ w 0x00 1 ∷ r 0x04 0x01FF0000 ∷ w 0x04 0 ∷ w 0x1C 8 ∷ r 0x04 0 ∷ w 0x04 0x00010000 ∷ w 0x1C 8
    ∷ r 0x18 3 ∷ w 0x28 0x5A ∷ r 0x18 3 ∷ w 0x28 0 ∷ r 0x18 0x11 ∷ w 0x1C 0x10 ∷ r 0x18 1 ∷ r 0x18 1 ∷ [])
    (0x5A ∷ [])
    -- RXNE comes before STOPF and ADDR; a read that is stopped early sets NACK in CR2
    ∷ ran (plain 9 0) [] (0 ∷ 0 ∷ []) (Done 1)
    (r 0x18 0x2D ∷ r 0x24 0x15A ∷ r 0x18 8 ∷ r 0x04 0x04000000 ∷ w 0x04 0x04008000 ∷ [])
    (0x5A ∷ 0 ∷ [])
    -- so does one that is full, after an event with TXE 0
    ∷ ran (plain 11 0) [] (0 ∷ []) (Done 1)
    (r 0x18 0x00420008 ∷ w 0x18 1 ∷ w 0x1C 8 ∷ r 0x18 4 ∷ r 0x24 0x77 ∷ r 0x04 0 ∷ w 0x04 0x8000 ∷ [])
    (0x77 ∷ [])
    -- but not after an error
    ∷ ran (plain 9 0) [] (0 ∷ []) Arbitration (r 0x18 0x200 ∷ w 0x1C 0x200 ∷ []) (0 ∷ [])
    -- nor with ManualAck
    ∷ ran (plain 25 0) [] (0 ∷ 0 ∷ []) (Done 1)
    (r 0x04 0xFFFFFFFF ∷ w 0x04 0xFF02FFFF ∷ w 0x1C 8 ∷ r 0x18 4 ∷ r 0x24 0x77 ∷ r 0x18 0x20 ∷ [])
    (0x77 ∷ 0 ∷ [])
    -- two filling zeros: the count is capped at the length
    ∷ ran (plain 10 0) [] (0x5A ∷ []) (Done 1)
    (r 0x18 2 ∷ w 0x28 0x5A ∷ r 0x18 2 ∷ w 0x28 0 ∷ r 0x18 2 ∷ w 0x28 0 ∷ r 0x18 0x10 ∷ w 0x1C 0x10 ∷ r 0x18 0 ∷ r 0x18 1 ∷ [])
    (0x5A ∷ [])
    -- after 254 bytes of the first block, the end of a run of 523 accesses: NBYTES is set anew, ADDRCF is not cleared again, a zero follows
    -- the last byte
    ∷ resumed (saved_at (fresh_at 26 Wait) Wait 0 254 254 0 (Done 0) 511)
    (plain 26 0) [] (replicate 256 0x5A) (Done 256)
    (r 0x18 2 ∷ w 0x28 0x5A ∷ r 0x04 0x00FF0000 ∷ w 0x04 0x00010000 ∷ r 0x18 2 ∷ w 0x28 0x5A ∷ r 0x18 2 ∷ w 0x28 0
    ∷ r 0x18 0x10 ∷ w 0x1C 0x10 ∷ r 0x18 1 ∷ r 0x18 1 ∷ [])
    (replicate 256 0x5A)
    ∷ []

-- Document 02, R-6: what a manual write counts. The totals at a later block's byte 0 are not the Rust's, and a made-up saved call has no
-- counterpart there.
abbrev totals : List Row
totals =
    -- a NACK right after the first of two blocks: of 255 bytes put out one was not sent, whether the block that follows is the last one ..
    resumed (saved_at (fresh_at 26 Wait) Wait 0 254 254 0 (Done 0) 511) (plain 26 0) [] (replicate 256 0x5A) (Done 254)
    (r 0x18 2 ∷ w 0x28 0x5A ∷ r 0x04 0 ∷ w 0x04 0x00010000 ∷ r 0x18 0x11 ∷ w 0x1C 0x10 ∷ r 0x18 1 ∷ r 0x18 1 ∷ [])
    (replicate 256 0x5A)
    -- .. or not
    ∷ resumed (saved_at (fresh_at 26 Wait) Wait 0 254 254 0 (Done 0) 511) (plain 26 0) [] (replicate 511 0x5A) (Done 254)
    (r 0x18 2 ∷ w 0x28 0x5A ∷ r 0x04 0 ∷ w 0x04 0x00FF0000 ∷ r 0x18 0x11 ∷ w 0x1C 0x10 ∷ r 0x18 1 ∷ r 0x18 1 ∷ [])
    (replicate 511 0x5A)
    -- and after the second of three
    ∷ resumed (saved_at (fresh_at 26 Wait) Wait 1 254 509 0 (Done 0) 1023) (plain 26 0) [] (replicate 511 0x5A) (Done 509)
    (r 0x18 2 ∷ w 0x28 0x5A ∷ r 0x04 0 ∷ w 0x04 0x00010000 ∷ r 0x18 0x11 ∷ w 0x1C 0x10 ∷ r 0x18 1 ∷ r 0x18 1 ∷ [])
    (replicate 511 0x5A)
    -- a filling zero counts as put out, three of them no more than one
    ∷ ran (plain 26 0) [] (0x5A ∷ []) (Done 1)
    (r 0x04 0 ∷ w 0x04 0x00010000 ∷ w 0x1C 8 ∷ r 0x18 2 ∷ w 0x28 0x5A ∷ r 0x18 2 ∷ w 0x28 0 ∷ r 0x18 0x10 ∷ w 0x1C 0x10 ∷ r 0x18 0 ∷ r 0x18 1 ∷ [])
    (0x5A ∷ [])
    ∷ ran (plain 26 0) [] (0x5A ∷ []) (Done 1)
    (r 0x04 0 ∷ w 0x04 0x00010000 ∷ w 0x1C 8 ∷ r 0x18 2 ∷ w 0x28 0x5A ∷ r 0x18 2 ∷ w 0x28 0 ∷ r 0x18 2 ∷ w 0x28 0 ∷ r 0x18 2 ∷ w 0x28 0
    ∷ r 0x18 0x10 ∷ w 0x1C 0x10 ∷ r 0x18 0 ∷ r 0x18 1 ∷ [])
    (0x5A ∷ [])
    -- the byte of a flush does not
    ∷ ran (plain 26 0) [] (0x5A ∷ []) (Done 0)
    (r 0x04 0 ∷ w 0x04 0x00010000 ∷ w 0x1C 8 ∷ r 0x18 2 ∷ w 0x28 0x5A ∷ r 0x18 0x10 ∷ w 0x1C 0x10 ∷ r 0x18 2 ∷ w 0x28 0 ∷ r 0x18 1 ∷ [])
    (0x5A ∷ [])
    -- made-up saved calls: the total comes from the number that is carried, not from the byte
    ∷ resumed (saved_at (fresh_at 26 Wait) Wait 0 1 3 0 (Done 0) 0) (plain 26 0) [] (0x5A ∷ 0x5B ∷ []) (Done 2)
    (r 0x18 0x11 ∷ w 0x1C 0x10 ∷ r 0x18 1 ∷ r 0x18 1 ∷ [])
    (0x5A ∷ 0x5B ∷ [])
    -- 28 starts it at 0 with its transfer
    ∷ resumed (saved_at (fresh_at 28 Event) Event 0 0 3 0 (Done 0) 0) (plain 28 0) [] (0x5A ∷ 0x5B ∷ []) (Done 0)
    (r 0x18 0x00430009 ∷ r 0x00 0x10001 ∷ w 0x00 1 ∷ r 0x04 0x01FF0000 ∷ w 0x04 0 ∷ w 0x1C 8 ∷ r 0x04 0 ∷ w 0x04 0x00020000 ∷ w 0x1C 8
    ∷ r 0x18 0x11 ∷ w 0x1C 0x10 ∷ r 0x18 1 ∷ r 0x18 1 ∷ [])
    (0x5A ∷ 0x5B ∷ [])
    -- one more than the buffer's length + 1 is refused, in the event too
    ∷ refused (saved_at (fresh_at 26 Wait) Wait 0 1 4 0 (Done 0) 0) (plain 26 0) (0x5A ∷ 0x5B ∷ [])
    ∷ refused (saved_at (fresh_at 28 Event) Event 0 0 4 0 (Done 0) 0) (plain 28 0) (0x5A ∷ 0x5B ∷ [])
    -- unless the call has ended; and in other calls the number is not looked at
    ∷ resumed (saved_at (fresh_at 26 Ended) Ended 0 1 4 0 (Done 7) 0) (plain 26 0) [] (0x5A ∷ 0x5B ∷ []) (Done 7) [] (0x5A ∷ 0x5B ∷ [])
    ∷ resumed (saved_at (fresh_at 10 Wait) Wait 0 2 4 0 (Done 0) 0) (plain 10 0) [] (0x5A ∷ 0x5B ∷ []) (Done 1)
    (r 0x18 0x11 ∷ w 0x1C 0x10 ∷ r 0x18 1 ∷ r 0x18 1 ∷ [])
    (0x5A ∷ 0x5B ∷ [])
    ∷ resumed (saved_at (fresh_at 25 Wait) Wait 0 1 4 0 (Done 0) 0) (plain 25 0) [] (0x5A ∷ 0x5B ∷ []) (Done 2)
    (r 0x18 4 ∷ r 0x24 0x77 ∷ [])
    (0x5A ∷ 0x77 ∷ [])
    ∷ []

-- set up, listening, reset, and the ends of a manual transfer
abbrev controls : List Row
controls =
    -- CR1 is read twice, whatever it says, then until PE is 0
    ran (plain 6 0) [] [] (Done 0)
    (r 0x00 0xFFFFFFFF ∷ w 0x00 0xFFFFFFFE ∷ r 0x00 0 ∷ r 0x00 0 ∷ r 0x00 1 ∷ r 0x00 0 ∷ r 0x00 0x1000 ∷ w 0x00 0x1001 ∷ [])
    []
    -- call 1 writes CR1 anew, and TIMINGR without bits 24 to 27
    ∷ ran (description 1 0 AddressMode7bit 0x6FFB1C39 None) [] [] (Done 0)
    (r 0x00 0xFFFFFFFF ∷ w 0x00 0xFFFFFFFE ∷ w 0x10 0x60FB1C39 ∷ w 0x00 1 ∷ [])
    []
    -- and OAR1 before that, where it has a configuration
    ∷ ran (description 1 0 AddressMode7bit 0x60FB1C39 (Some (config_of 0x42))) [] [] (Done 0)
    (r 0x00 0xFFFFFFFF ∷ w 0x00 0xFFFFFFFE ∷ w 0x10 0x60FB1C39 ∷ w 0x08 0x84 ∷ w 0x00 1 ∷ [])
    []
    -- call 2 writes neither SCLL nor SCLH, and changes PE and ANFOFF alone
    ∷ ran (description 2 0 AddressMode7bit 0xFFFFFFFF (Some (with_mask 2 (with_secondary 0x21 (with_mode AddressMode10bit (config_of 0x2A5)))))) [] [] (Done 0)
    (r 0x00 0xFFFFFFFF ∷ w 0x00 0xFFFFFFFE ∷ w 0x10 0xF0FF0000 ∷ w 0x08 0x6A5 ∷ w 0x0C 0x342 ∷ r 0x00 0xFFFFFFFE ∷ w 0x00 0xFFFFEFFF ∷ [])
    []
    -- a secondary address without a mask
    ∷ ran (description 3 0 AddressMode7bit 0 (Some (with_secondary 0x21 (config_of 0x42)))) [] [] (Done 0) (w 0x08 0x84 ∷ w 0x0C 0x42 ∷ []) []
    -- 4 enables and 5 disables, kinds 0 to 2 in CR1, OAR1 and OAR2
    ∷ ran (plain 4 0) [] [] (Done 0) (r 0x00 0 ∷ w 0x00 0x00080000 ∷ []) []
    ∷ ran (plain 4 1) [] [] (Done 0) (r 0x08 0x84 ∷ w 0x08 0x8084 ∷ []) []
    ∷ ran (plain 5 2) [] [] (Done 0) (r 0x0C 0xFFFFFFFF ∷ w 0x0C 0xFFFF7FFF ∷ []) []
    -- 14 ends the transfer, 15 sets NACK before that
    ∷ ran (plain 14 0) [] [] (Done 0) (r 0x04 0xFFFFFFFF ∷ w 0x04 0xFEFFFFFF ∷ []) []
    ∷ ran (plain 15 0) [] [] (Done 0) (r 0x04 0 ∷ w 0x04 0x8000 ∷ r 0x04 0xFFFFFFFF ∷ w 0x04 0xFEFFFFFF ∷ []) []
    ∷ []

abbrev table : List Row
table = map from_timing cases ++ transactions ++ long ++ events ++ transfers ++ totals ++ controls

proved_cases : map (λ (r : Row). answer_to r.asked) table ≡ map (λ (r : Row). r.answered) table
unfolding timing_of band_of in_band_of equal_at double_at get_of bits_at put_of with_bits unpack_of is_call is_kind manual pieces_for lookup_of verdict_of check_of group_taken accepts begun_of advance_from run_of cr2_of timingr_of oar1_of oar2_of alter_of access_of after_of begin_of
proved_cases = refl
