-- `station_listing::flights::print` meets its contract: each section has room after those before it. Assumes nothing.
use borrow.Author.Rules.{rules}
use Prim.Native.Nat.{ℕ}
use mathlib.Core.List.{List}
use native.Mathlib.Omega.{arith}
use lib.ListN.{drop}
use Rattle.svg.specs.Texts.{commands_of, offsets_of}
use Rattle.station_listing.proofs.Printing.{few-commands, listed-within, printed}
use Rattle.station_listing.proofs.flights.print.Goals as goal

-- ---- the answers
pub list-past_lines-requires : goal.list-past_lines-requires
list-past_lines-requires c =
    (few-commands c.requires.0, c.requires.0.short, omega (arith, c.put_header-past_commands.ensures.within))

pub put_header-past_segments-requires : goal.put_header-past_segments-requires
put_header-past_segments-requires c =
    omega (arith, listed-within (offsets_of ((drop c.args.start c.args.input.now))) (commands_of ((drop c.args.start c.args.input.now))) _ _ _ _ c.list-past_lines.ensures, c.put_header-past_commands.ensures.within)

pub put_segments-past_kinds-requires : goal.put_segments-past_kinds-requires
put_segments-past_kinds-requires c = (
  c.requires.1.tellable,
  omega (
    arith,
    listed-within (offsets_of ((drop c.args.start c.args.input.now))) (commands_of ((drop c.args.start c.args.input.now))) _ _ _ _
        c.list-past_lines.ensures,
    c.put_header-past_segments.ensures.within,
    c.put_header-past_commands.ensures.within,
  ),
)

pub put_header-past_stations-requires : goal.put_header-past_stations-requires
put_header-past_stations-requires c =
    omega (
      arith,
      listed-within (offsets_of ((drop c.args.start c.args.input.now))) (commands_of ((drop c.args.start c.args.input.now))) _ _ _ _
          c.list-past_lines.ensures,
      c.put_segments-past_kinds.ensures.within,
      c.put_header-past_segments.ensures.within,
      c.put_header-past_commands.ensures.within,
    )

pub put_stations-requires : goal.put_stations-requires
put_stations-requires c =
    let within = listed-within (offsets_of ((drop c.args.start c.args.input.now))) (commands_of ((drop c.args.start c.args.input.now))) _ _ _ _ c.list-past_lines.ensures in
    (c.requires.1, omega (arith, within, c.put_header-past_stations.ensures.within, c.put_segments-past_kinds.ensures.within, c.put_header-past_segments.ensures.within, c.put_header-past_commands.ensures.within))

pub returns : goal.returns
returns c =
    printed _ c.requires.0 c.put_header-past_commands.ensures c.list-past_lines.ensures c.put_header-past_segments.ensures c.put_segments-past_kinds.ensures c.put_header-past_stations.ensures
    c.put_stations.ensures
