-- `station_lines::lines::put_kind` meets its contract. Assumes nothing.
use mathlib.Core.Path.{refl}
use native.Mathlib.Omega.{arith}
use Rattle.station_lines.proofs.Putting.{within-as}
use Rattle.station_lines.proofs.Fields.{kind-last}
use Rattle.station_lines.specs.Lines.{kind_name}
use Rattle.station_lines.proofs.lines.put_kind.Goals as goal

pub returns-then-kind-eq0 : goal.returns-then-kind-eq0
unfolding kind_name
returns-then-kind-eq0 c = rw c.if-kind-eq0.true (within-as 8 _ c.put_word.ensures refl (omega (arith, c.put_word.ensures.past)))

pub returns-then-kind-eq1 : goal.returns-then-kind-eq1
unfolding kind_name
returns-then-kind-eq1 c = rw c.if-kind-eq1.true (within-as 8 _ c.put_word-then-kind-eq1.ensures refl (omega (arith, c.put_word-then-kind-eq1.ensures.past)))

pub returns-then-kind-eq2 : goal.returns-then-kind-eq2
unfolding kind_name
returns-then-kind-eq2 c = rw c.if-kind-eq2.true (within-as 8 _ c.put_word-then-kind-eq2.ensures refl (omega (arith, c.put_word-then-kind-eq2.ensures.past)))

pub returns-then-kind-eq3 : goal.returns-then-kind-eq3
unfolding kind_name
returns-then-kind-eq3 c = rw c.if-kind-eq3.true (within-as 8 _ c.put_word-then-kind-eq3.ensures refl (omega (arith, c.put_word-then-kind-eq3.ensures.past)))

pub returns : goal.returns
returns c =
    within-as 8 _ c.put_word-2.ensures (kind-last _ c.if-kind-eq0.false c.if-kind-eq1.false c.if-kind-eq2.false c.if-kind-eq3.false)
    (omega (arith, c.put_word-2.ensures.past))
