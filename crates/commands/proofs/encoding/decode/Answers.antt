-- `commands::encoding::decode` meets its contract: each way out is a case of `command_of`, and the numbers from `at` on are those that `drop` leaves.
-- Assumes nothing.
use native.Mathlib.Omega.{arith}
use lib.ListN.{drop, length-drop}
use Rattle.commands.proofs.Decoding.{point-first, point-later, is_move, is-line, is-quad, is-cubic, is-arc, is-close, short-move, short-line, short-quad, short-cubic, short-arc, unknown}
use mathlib.Core.Path.{◌∙◌}
use Rattle.commands.proofs.encoding.decode.Goals as goal

pub returns-in-77 : goal.returns-in-77
returns-in-77 c = is_move _ (drop c.args.at c.args.numbers.now) _ (point-first c.args.numbers.now c.args.at c.point_at.ensures) c.in-77.is (simp length-drop (omega arith))

pub returns-in-76 : goal.returns-in-76
returns-in-76 c = is-line _ (drop c.args.at c.args.numbers.now) _ (point-first c.args.numbers.now c.args.at c.point_at-in-76.ensures) c.in-76.is (simp length-drop (omega arith))

pub returns-in-81 : goal.returns-in-81
returns-in-81 c =
    is-quad _ (drop c.args.at c.args.numbers.now) _ _
    (point-first c.args.numbers.now c.args.at c.point_at-in-81.ensures) (point-later c.args.numbers.now c.args.at 2 c.point_at-in-81-2.ensures)
    c.in-81.is (simp length-drop (omega arith))

pub returns-in-67 : goal.returns-in-67
returns-in-67 c =
    is-cubic _ (drop c.args.at c.args.numbers.now) _ _ _
    (point-first c.args.numbers.now c.args.at c.point_at-in-67.ensures) (point-later c.args.numbers.now c.args.at 2 c.point_at-in-67-2.ensures)
    (point-later c.args.numbers.now c.args.at 4 c.point_at-in-67-3.ensures)
    c.in-67.is (simp length-drop (omega arith))

pub returns-in-65 : goal.returns-in-65
returns-in-65 c = c.arc_at.ensures ∙ is-arc _ (drop c.args.at c.args.numbers.now) c.in-65.is (simp length-drop (omega arith))

pub returns-in-90 : goal.returns-in-90
returns-in-90 c = is-close _ _ c.in-90.is

pub returns-in_default : goal.returns-in_default
returns-in_default c = short-move _ (drop c.args.at c.args.numbers.now) c.in-77.is (simp length-drop (omega arith))

pub returns-in_default-2 : goal.returns-in_default-2
returns-in_default-2 c = short-line _ (drop c.args.at c.args.numbers.now) c.in-76.is (simp length-drop (omega arith))

pub returns-in_default-3 : goal.returns-in_default-3
returns-in_default-3 c = short-quad _ (drop c.args.at c.args.numbers.now) c.in-81.is (simp length-drop (omega arith))

pub returns-in_default-4 : goal.returns-in_default-4
returns-in_default-4 c = short-cubic _ (drop c.args.at c.args.numbers.now) c.in-67.is (simp length-drop (omega arith))

pub returns-in_default-5 : goal.returns-in_default-5
returns-in_default-5 c = short-arc _ (drop c.args.at c.args.numbers.now) c.in-65.is (simp length-drop (omega arith))

pub returns-in_default-6 : goal.returns-in_default-6
returns-in_default-6 c = unknown _ _ (λ e. omega arith) (λ e. omega arith) (λ e. omega arith) (λ e. omega arith) (λ e. omega arith) (λ e. omega arith)
