-- What the check of a stored path gives, by its count of segments. Assumes nothing.
use Prim.Native.Nat.{ℕ}
use mathlib.Core.Path.{◌≡◌, refl}
use mathlib.Core.Bool.{Bool, true, false, cond}
use mathlib.Core.List.{[], ◌∷◌}
use lib.ListN.{length}
use Rattle.std.specs.Prelude.{Ok, Err}
use Rattle.answers.specs.declared.refusals.Refusal.TheVariants.{BadPath}
use Rattle.answers.specs.Answers.{accepted, refused}
use Rattle.path_stored.specs.Buffers.{Buffers}
use Rattle.path_stored.specs.Stored.{is_stored}
use Rattle.path_stored.specs.Queries.{counted_of}
use Rattle.c_answer.specs.Counts.{count_given}
use Rattle.kihavute_paths.specs.StoredPaths.{check_given}

pub check-counted : (b : Buffers) → count_given (counted_of b) ≡ check_given b
unfolding counted_of check_given
check-counted b = by (is_stored b)
  where
    by : (stored : Bool) → count_given (cond stored (Ok (length b.kinds)) (Err BadPath)) ≡ cond stored (accepted (length b.kinds ∷ [])) (refused BadPath)
    by true = refl
    by false = refl
