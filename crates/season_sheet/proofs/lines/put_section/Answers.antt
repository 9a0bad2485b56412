-- `season_sheet::lines::put_section` meets its contract. Assumes nothing.
use Prim.Native.Nat.{ℕ}
use mathlib.Core.Path.{ap, ◌∙◌}
use mathlib.Core.List.{◌++◌}
use native.Mathlib.Omega.{arith}
use Rattle.station_lines.specs.Lines.{header_line}
use Rattle.station_lines.proofs.Putting.{put_then, put-length, within-as}
use Rattle.season_sheet.specs.Sheet.{row_lines, section_of}
use Rattle.season_sheet.proofs.lines.put_section.Goals as goal

pub put_rows-requires : goal.put_rows-requires
put_rows-requires c =
    (c.requires.1, c.requires.2, c.requires.3, omega (arith, c.put_header-past_word.ensures.within, c.requires.0, c.requires.4))

pub shape_of-out : goal.shape_of-out
shape_of-out c = put-length c.put_rows.ensures.put ∙ put-length c.put_header-past_word.ensures.put

pub returns : goal.returns
unfolding section_of
returns c =
    within-as 1030 _ (put_then c.put_header-past_word.ensures.put c.put_rows.ensures.put)
    (ap (λ (n : ℕ). header_line c.args.word.now n ++ row_lines c.args.counts.now c.args.from c.args.many) c.used.ensures.0)
    (omega (arith, c.put_header-past_word.ensures.within, c.put_rows.ensures.within, c.requires.0))
