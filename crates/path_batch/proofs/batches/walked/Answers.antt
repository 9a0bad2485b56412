-- `path_batch::batches::walked` meets its contract: the walk starts at the cursor or at a mark, and the marks stay marks of the path. Assumes nothing.
use Prim.Native.Nat.{ℕ}
use mathlib.Core.Path.{ap, ◌∙◌}
use mathlib.Core.List.{List}
use Rattle.path_place.specs.Cursors.{cursor_of}
use Rattle.path_batch.proofs.batches.walked.Goals as goal
use Rattle.path_batch.proofs.batches.walked.Goals.{then-is_step_on, else-is_step_on}

pub walk-requires : goal.walk-requires
walk-requires c =
    elim c.if-is_step_on.branch [
      | then-is_step_on w ↦ record { moving = rw (w.start-is, w.marks-is) c.requires.leap.move; known = rw w.marks-is c.requires.known }
      | else-is_step_on w ↦
          record { moving = rw (w.start-is, w.marks-is, w.start-start.ensures.marks) w.start-start.ensures.start; known = rw (w.marks-is, w.start-start.ensures.marks) c.requires.known }
    ]

pub returns-clause-marks : goal.returns-clause-marks
returns-clause-marks c =
    elim c.if-is_step_on.branch [
      | then-is_step_on w ↦ w.marks-is
      | else-is_step_on w ↦ w.marks-is ∙ w.start-start.ensures.marks
    ]

pub returns-clause-there : goal.returns-clause-there
returns-clause-there c =
    c.walk.ensures
    ∙ ap (λ (kinds : List ℕ). cursor_of kinds c.args.segment)
    (elim c.if-is_step_on.branch [
      | then-is_step_on w ↦ w.marks-is
      | else-is_step_on w ↦ w.marks-is ∙ w.start-start.ensures.marks
    ])
