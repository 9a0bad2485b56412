-- `commands::encoding::store` meets its contract. Assumes nothing.
use mathlib.Core.Path.{ap}
use lib.ListN.{set}
use Rattle.commands.proofs.encoding.store.Goals as goal

pub returns : goal.returns
returns c =
    record {
      letter = ap (set c.args.letters.now c.args.letter_at) c.letter.ensures;
      arguments = c.store_arguments.ensures;
    }
