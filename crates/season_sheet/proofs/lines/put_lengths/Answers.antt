-- `season_sheet::lines::put_lengths` meets its contract. Assumes nothing.
use mathlib.Core.Path.{refl, ◌∙◌}
use native.Mathlib.Omega.{arith}
use borrow.Author.Tests.{eq-eqb, ne_eqb}
use Rattle.station_lines.proofs.Putting.{put-length, within-as, within-then}
use Rattle.season_sheet.specs.Sheet.{lengths_of}
use Rattle.season_sheet.proofs.lines.put_lengths.Goals as goal

pub returns-then-read-eq0 : goal.returns-then-read-eq0
unfolding lengths_of
returns-then-read-eq0 c =
    rw (eq-eqb _ 0 c.if-read-eq0.true) (within-as 92 _ c.put_header.ensures.put refl (omega (arith, c.put_header.ensures.within)))

pub put_amount-past_shortest-requires : goal.put_amount-past_shortest-requires
put_amount-past_shortest-requires c = omega (arith, c.put_header-past_word.ensures.within)

pub put_amount-past_longest-requires : goal.put_amount-past_longest-requires
put_amount-past_longest-requires c = omega (arith, c.put_amount-past_shortest.ensures.within, c.put_header-past_word.ensures.within)

pub put_amount-requires : goal.put_amount-requires
put_amount-requires c =
    omega (arith, c.put_amount-past_longest.ensures.within, c.put_amount-past_shortest.ensures.within, c.put_header-past_word.ensures.within)

pub shape_of-out : goal.shape_of-out
shape_of-out c =
    put-length c.put_amount.ensures.put
    ∙ put-length c.put_amount-past_longest.ensures.put
    ∙ put-length c.put_amount-past_shortest.ensures.put
    ∙ put-length c.put_header-past_word.ensures.put

pub returns : goal.returns
unfolding lengths_of
returns c =
    let all = within-then c.put_header-past_word.ensures (within-then c.put_amount-past_shortest.ensures (within-then c.put_amount-past_longest.ensures c.put_amount.ensures)) in
    rw (ne_eqb _ 0 c.if-read-eq0.false) (within-as 92 _ all.put refl (omega (arith, all.within)))
