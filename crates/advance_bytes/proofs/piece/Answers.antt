-- `advance_bytes::piece` meets its contract. Assumes nothing.
use Rattle.std.proofs.Common.{◌-◌, ◌*◌, ◌/◌, length}
use native.Mathlib.Omega.{arith}
use mathlib.Core.Path.{refl}
use lib.ListN.{take, drop, length-drop}
use Rattle.calls.proofs.Reached.{few, some_used, in_log, counted, added}
use Rattle.words.proofs.Turns.{in_words}
use Rattle.words.specs.Words.{words_in}
use Rattle.advance_bytes.specs.Pieces.{in_bytes}
use Rattle.advance_bytes.proofs.Pieces.{places_lent}
use Rattle.advance_bytes.proofs.piece.Goals as goal

pub overflow_mul-a : goal.overflow_mul-a
overflow_mul-a c =
    let a = c.args in
    record {
      fits =
          omega (
            arith,
            few a.d a.ops.now a.t a.buffer.now (drop a.t.used (words_in a.answers.now)) (take (2 * c.min-k.result) a.entries.now) c.advance-a.result _ _ c.advance-a.ensures,
            places_lent a.entries.now _ (length a.log.now / 8 - a.t.written) c.min-k.ensures,
            c.well_formed.1.1.1.1.1.1.1.0.0,
          );
    }

pub slice_bounds-encode_at-end : goal.slice_bounds-encode_at-end
slice_bounds-encode_at-end c =
    let a = c.args in
    in_log a.d a.ops.now a.t a.buffer.now (drop a.t.used (words_in a.answers.now)) (take (2 * c.min-k.result) a.entries.now) c.advance-a.result _ _ c.advance-a.ensures _ _ refl

pub slice_bounds-encode_at-end-2 : goal.slice_bounds-encode_at-end-2
slice_bounds-encode_at-end-2 c =
    let a = c.args in
    counted a.d a.ops.now a.t a.buffer.now (drop a.t.used (words_in a.answers.now)) (take (2 * c.min-k.result) a.entries.now) c.advance-a.result _ _ c.advance-a.ensures _ _ refl

pub overflow_add-result : goal.overflow_add-result
overflow_add-result c =
    let a = c.args in
    record {
      fits =
          omega (
            arith,
            some_used a.d a.ops.now a.t a.buffer.now (drop a.t.used (words_in a.answers.now)) (take (2 * c.min-k.result) a.entries.now) c.advance-a.result _ _ c.advance-a.ensures,
            length-drop a.t.used (words_in a.answers.now),
            in_words a.answers.now,
            c.requires.0,
            c.well_formed.1.1.1.1.0.0,
          );
    }

pub overflow_add-result-2 : goal.overflow_add-result-2
overflow_add-result-2 c =
    let a = c.args in
    record {
      fits =
          omega (
            arith,
            few a.d a.ops.now a.t a.buffer.now (drop a.t.used (words_in a.answers.now)) (take (2 * c.min-k.result) a.entries.now) c.advance-a.result _ _ c.advance-a.ensures,
            places_lent a.entries.now _ (length a.log.now / 8 - a.t.written) c.min-k.ensures,
            c.requires.1,
            c.well_formed.1.1.1.1.1.0.0,
          );
    }

pub returns : goal.returns
returns c =
    let a = c.args in
    added a.d a.ops.now a.t a.buffer.now (drop a.t.used (words_in a.answers.now)) (take (2 * c.min-k.result) a.entries.now) c.advance-a.result _ _ c.advance-a.ensures _ _ refl in_bytes a.log.now _ c.encode_at.ensures
    (words_in a.answers.now) _ refl (places_lent _ _ _ c.min-k.ensures)
