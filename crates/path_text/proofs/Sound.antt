-- What a text builds always passes the check of a stored path. Assumes nothing.
use Prim.Native.Nat.{ℕ}
use mathlib.Core.Path.{◌≡◌, sym, subst}
use mathlib.Core.List.{List}
use native.Mathlib.Omega.{arith}
use lib.Dec.{T}
use Rattle.path_segment.specs.declared.segments.PathSegment.{PathSegment}
use Rattle.path_stored.specs.Layout.{laid_wholly}
use Rattle.path_stored.specs.Stored.{is_stored}
use Rattle.svg.specs.Texts.{Outcome, commands_of}
use Rattle.svg.proofs.Texts.{commands-few}
use Rattle.path_drawing.specs.Building.{path}
use Rattle.path_build.specs.declared.room.Counts.{Counts}
use Rattle.path_build.proofs.Sound.{built-stored, roomed-path}
use Rattle.path_text.specs.Builds.{drawers_in, build_read_of, build_text_of}
use Rattle.path_text.proofs.Entering.{reads}

pub build-text-stored :
    (text : List ℕ) (lent : Counts) (list : List PathSegment) → build_text_of text lent ≡ path list
    → T (is_stored (laid_wholly list (drawers_in (commands_of text))))
build-text-stored text lent list e =
    let r = reads text (roomed-path lent (build_read_of text) list e) in
    subst (λ (x : Outcome). T (is_stored (laid_wholly list (drawers_in x)))) (sym r.is) (built-stored r.list list (omega (arith, r.short, commands-few text r.list r.is)) r.builds)
