-- What each value of `Marks` has. Definitions only.
use Rattle.std.specs.Prelude.{◌≤◌, length}
use Rattle.path_marks.specs.Marks.{Marked}
use Rattle.path_marks.specs.declared.marks.Marks.TheInside.{Inside}

-- marks of a path of at most 65,536 segments
pub record AreMarks (marks : Inside) : Type 0 where
  pub few : length marks.kinds.now ≤ 65536
  pub set : Marked marks.kinds.now marks.shift marks.fields.now marks.tables.now
