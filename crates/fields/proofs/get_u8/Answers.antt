-- `fields::get_u8` meets its contract: eight bits are below 256. Assumes nothing.
use Rattle.std.proofs.Common.{arith}
use lib.Pow.{pow_mono}
use Rattle.fields.specs.Field.{place}
use Rattle.fields.proofs.Laws.{get_lt}
use Rattle.fields.proofs.get_u8.Goals as goal

pub overflow_cast-result : goal.overflow_cast-result
overflow_cast-result c =
    omega (
      arith,
      c.get.ensures,
      get_lt c.args.word (place c.args.at c.min.result),
      pow_mono {i = c.min.result} {j = 8} (omega (arith, c.min.ensures)),
    )
