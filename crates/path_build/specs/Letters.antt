-- One command of a list by its letter: how many numbers it takes, and what it draws. Definitions only.
use Rattle.std.specs.Prelude.{ℕ, cond, Option, Some, None, eqb}
use Rattle.commands.specs.declared.command.PathCommand.{PathCommand}
use Rattle.path_drawing.specs.Drawing.{draw_of}
use Rattle.path_drawing.specs.declared.pens.Pen.{Pen}
use Rattle.path_drawing.specs.declared.strokes.Drawn.{Drawn}

-- "2, 2, 4, 6, 7 or 0 numbers", for M, L, Q, C, A and Z
unfoldable pub stride_of : ℕ → ℕ
stride_of letter = cond (eqb letter 77) 2 (cond (eqb letter 76) 2 (cond (eqb letter 81) 4 (cond (eqb letter 67) 6 (cond (eqb letter 65) 7 0))))

-- a list that is stored has no bad command: that one leaves everything as it is
unfoldable pub drawn_at : Pen → Option PathCommand → Option Drawn
drawn_at pen (Some command) = draw_of pen command
drawn_at pen None = None
