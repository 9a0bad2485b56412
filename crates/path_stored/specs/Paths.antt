-- The buffers of the code as the definitions have them. Definitions only.
use Rattle.std.specs.Prelude.{ℕ, List, T, get_or, Float}
use Rattle.std.specs.Float.{nan, binary32}
use Rattle.std.specs.Float.Ieee.{fits}
use Rattle.path_stored.specs.declared.path_buffers.PathBuffers.{PathBuffers}
use Rattle.path_stored.specs.Buffers.{Buffers, lent}

-- what they hold
abbrev pub held : PathBuffers → Buffers
held path = lent path.kinds path.fields path.tables path.lengths path.commands

-- each number is an f32 value
abbrev pub AreF32 : List Float → Type 0
AreF32 xs = (k : ℕ) → T (fits binary32 (get_or xs k nan))
