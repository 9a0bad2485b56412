-- What building a path gives to C. Definitions only.
use Rattle.std.specs.Prelude.{ℕ, ◌≡◌, cond, List}
use Rattle.answers.specs.Report.{short}
use Rattle.path_drawing.specs.Building.{Built}
use Rattle.path_stored.specs.Buffers.{Buffers}
use Rattle.path_storing.specs.Sites.{path_written}
use Rattle.path_build.specs.Answers.{answered, segments_written, numbers_written}
use Rattle.c_answer.specs.Given.{Given}

-- what is built is reported and stored, with the numbers of the commands that draw; with an answer that is too short nothing is built
pub record PathBuilt (built : Built) (drawers : List ℕ) (b : Buffers) (answer : List ℕ) (returned : ℕ) (b' : Buffers) (answer' : List ℕ) : Type 0 where
  pub reported : Given (answered built) answer returned answer'
  pub after : b' ≡ cond (short answer) b (path_written (segments_written built) (numbers_written built drawers) b)
