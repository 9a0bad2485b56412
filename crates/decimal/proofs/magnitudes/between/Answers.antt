-- `decimal::magnitudes::between` meets its contract: each side of the middle has its law, and a tie goes to the even one. Assumes nothing.
use mathlib.Core.Path.{ap, sym, ◌∙◌}
use Rattle.decimal_digits.proofs.Values.{ten-pos}
use Rattle.decimal_tie.specs.Weighing.{order_of}
use Rattle.decimal.proofs.Sided.{bits-less, bits-greater, bits-equal}
use Rattle.decimal.proofs.magnitudes.between.Goals as goal

pub returns-in-Less : goal.returns-in-Less
returns-in-Less c =
    record {
      bits = λ places e cell.
          bits-less _ _ _ _ (ten-pos _) cell (sym (c.side.ensures.order places e) ∙ ap order_of c.in-Less.is);
    }

pub returns-in-Greater : goal.returns-in-Greater
returns-in-Greater c =
    record {
      bits = λ places e cell.
          bits-greater _ _ _ _ (ten-pos _) cell (sym (c.side.ensures.order places e) ∙ ap order_of c.in-Greater.is);
    }

pub returns-in-Equal : goal.returns-in-Equal
returns-in-Equal c =
    record {
      bits = λ places e cell.
          bits-equal _ _ _ _ (ten-pos _) cell (sym (c.side.ensures.order places e) ∙ ap order_of c.in-Equal.is);
    }
