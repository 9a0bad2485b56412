-- `path_storing::direct::lay_line` meets its contract: four fields, a kind, a running length and a command number, each in its buffer. Assumes nothing.
use mathlib.Core.Path.{ap}
use native.Mathlib.Omega.{arith}
use lib.Ieee.{binary32, add}
use Rattle.arc.specs.Lines.{line_length_of}
use Rattle.commands.proofs.Storing.{four-put}
use Rattle.path_storing.proofs.Judged.{kind_fits, length-fits, command-fits, line-fits, line-laid}
use Rattle.path_storing.proofs.direct.lay_line.Goals as goal

pub bounds-kinds-index : goal.bounds-kinds-index
bounds-kinds-index c = kind_fits c.requires.1

pub put_point-requires : goal.put_point-requires
put_point-requires c = omega (arith, line-fits c.requires.1)

pub put_point-requires-2 : goal.put_point-requires-2
put_point-requires-2 c = omega (arith, line-fits c.requires.1)

pub bounds-lengths-index : goal.bounds-lengths-index
bounds-lengths-index c = length-fits c.requires.1

pub bounds-commands-index : goal.bounds-commands-index
bounds-commands-index c = command-fits c.requires.1

pub returns : goal.returns
unfolding line_length_of
returns c =
    let put = four-put c.args.fields.now c.args.site.sizes.fields c.args.start.x c.args.start.y c.args.end.x c.args.end.y c.put_point.new.fields _ c.put_point.ensures c.put_point-2.ensures in
    line-laid put (ap (add binary32 _) c.distance.ensures) c.drawn.ensures c.grown.ensures
