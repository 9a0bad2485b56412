-- `station_check::compare::first_wrong` meets its contract. The invariant: both texts have the same bytes up to i, and `line` is one more than the lines that end there, so that the first wrong
-- line of the whole is told by what follows (`passed`). Assumes nothing.
use Rattle.std.specs.Prelude.{Some}
use Prim.Native.Nat.{ℕ, zero, suc, ◌≤◌}
use mathlib.Core.Path.{◌≡◌, refl, sym, ap, ◌∙◌}
use mathlib.Core.Bool.{Bool, true, false, cond}
use mathlib.Core.List.{List}
use native.Mathlib.Omega.{arith}
use lib.Dec.{eqb}
use lib.ListN.{drop, get_or}
use Rattle.station_check.specs.Lines.{line_end, lines_of, first_wrong, wrong_of}
use Rattle.station_check.proofs.Bytes.{by_each_byte, by_bytes, passed, passed_first, passed_here, step_other, step-missing, step-extra, step-done, step_same}
use Rattle.station_check.proofs.compare.first_wrong.Goals as goal

-- what follows tells the answer
told : (wanted given : List ℕ) (i line n : ℕ) → by_each_byte wanted given ≡ passed line (by_each_byte (drop i wanted) (drop i given)) → by_each_byte (drop i wanted) (drop i given) ≡ n
    → wrong_of (passed line n) ≡ wrong_of (first_wrong (lines_of wanted) (lines_of given))
told wanted given i line n kept e = ap wrong_of (sym (by_bytes wanted given ∙ kept ∙ ap (passed line) e))

some_line : (line : ℕ) → 1 ≤ line → Some line ≡ wrong_of line
some_line zero h = absurd (omega arith)
some_line (suc n) h = refl

here : (wanted given : List ℕ) (i line : ℕ) → 1 ≤ line → by_each_byte wanted given ≡ passed line (by_each_byte (drop i wanted) (drop i given)) → by_each_byte (drop i wanted) (drop i given) ≡ 1
    → Some line ≡ wrong_of (first_wrong (lines_of wanted) (lines_of given))
here wanted given i line some kept e = some_line line some ∙ ap wrong_of (sym (passed_here line)) ∙ told wanted given i line 1 kept e

one_at_most : (b : Bool) → cond b 1 0 ≤ 1
one_at_most true = omega arith
one_at_most false = omega arith

pub loop-i-init : goal.loop-i-init
loop-i-init c = (omega arith, omega arith, sym (passed_first _))

pub returns-then-given-i : goal.returns-then-given-i
returns-then-given-i c = here c.args.wanted.now c.args.given.now c.loop-i.i c.loop-i.line c.loop-i.invariant.0 c.loop-i.invariant.2 (step-missing c.args.wanted.now c.args.given.now c.loop-i.i c.loop-i-test.true c.if-given-i.true)

pub returns-then-own-given : goal.returns-then-own-given
returns-then-own-given c =
    here c.args.wanted.now c.args.given.now c.loop-i.i c.loop-i.line c.loop-i.invariant.0 c.loop-i.invariant.2
    (step_other c.args.wanted.now c.args.given.now c.loop-i.i c.loop-i-test.true c.if-given-i.false c.if-own-given.true)

pub overflow_add-line : goal.overflow_add-line
overflow_add-line c =
    let most : c.line_end-line.result ≤ 1 = omega (arith, c.line_end-line.ensures, one_at_most (eqb (get_or c.args.wanted.now c.loop-i.i 0) line_end)) in
    record { fits = omega (arith, most, c.loop-i.invariant.1, c.loop-i-test.true) }

pub loop-i-preserved : goal.loop-i-preserved
loop-i-preserved c =
    let most : c.line_end-line.result ≤ 1 = omega (arith, c.line_end-line.ensures, one_at_most (eqb (get_or c.args.wanted.now c.loop-i.i 0) line_end)) in (
      omega (arith, c.loop-i.invariant.0),
      omega (arith, most, c.loop-i.invariant.1),
      c.loop-i.invariant.2
          ∙ step_same c.args.wanted.now c.args.given.now c.loop-i.i c.loop-i.line c.line_end-line.result c.loop-i-test.true c.if-given-i.false c.if-own-given.false c.line_end-line.ensures,
    )

pub returns-then-wanted-given : goal.returns-then-wanted-given
returns-then-wanted-given c =
    here c.args.wanted.now c.args.given.now c.loop-i.i c.loop-i.line c.loop-i.invariant.0 c.loop-i.invariant.2
    (step-extra c.args.wanted.now c.args.given.now c.loop-i.i c.loop-i-test.false (omega arith))

pub returns : goal.returns
returns c =
    told c.args.wanted.now c.args.given.now c.loop-i.i c.loop-i.line 0 c.loop-i.invariant.2
    (step-done c.args.wanted.now c.args.given.now c.loop-i.i c.loop-i-test.false (omega arith))
