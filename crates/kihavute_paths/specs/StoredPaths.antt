-- What stored paths give to C. Definitions only.
use Rattle.std.specs.Prelude.{ℕ, cond, List, [], ◌∷◌, length, Float}
use Rattle.answers.specs.declared.refusals.Refusal.TheVariants.{BadPath}
use Rattle.answers.specs.Answers.{Answer, accepted, refused}
use Rattle.path_stored.specs.Buffers.{Buffers}
use Rattle.path_stored.specs.Stored.{is_stored}

-- the count of its segments, or 12
unfoldable pub check_given : Buffers → Answer
unfolding is_stored
check_given b = cond (is_stored b) (accepted (length b.kinds ∷ [])) (refused BadPath)
