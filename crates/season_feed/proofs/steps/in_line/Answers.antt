-- `season_feed::steps::in_line` meets its contract: by the byte and the digits before it. Assumes nothing.
use borrow.Author.Rules.{rules}
use native.Mathlib.Omega.{arith}
use Rattle.season_feed.proofs.Bytes.{no_digit, too_many, below-digits, above-digits, line-ends, digit, count_small}
use Rattle.season_feed.proofs.steps.in_line.Goals as goal

pub returns-then-digits-eq0 : goal.returns-then-digits-eq0
returns-then-digits-eq0 c = no_digit _ _ _ c.if-byte-eq10.true c.if-digits-eq0.true

pub returns-then-byte-eq10 : goal.returns-then-byte-eq10
returns-then-byte-eq10 c = line-ends _ _ _ c.if-byte-eq10.true c.if-digits-eq0.false

pub returns-then-digits-eq9 : goal.returns-then-digits-eq9
returns-then-digits-eq9 c = too_many _ _ _ c.if-byte-eq10.false c.if-digits-eq9.true

pub returns-then-byte-lt48 : goal.returns-then-byte-lt48
returns-then-byte-lt48 c = below-digits _ _ _ c.if-byte-eq10.false c.if-byte-lt48.true

pub returns-then-byte-gt57 : goal.returns-then-byte-gt57
returns-then-byte-gt57 c = above-digits _ _ _ c.if-byte-eq10.false c.if-byte-gt57.true

pub overflow_mul-result : goal.overflow_mul-result
overflow_mul-result c = omega (arith, count_small c.args.digits c.args.value c.requires.0 c.requires.1)

pub overflow_add-result-2 : goal.overflow_add-result-2
overflow_add-result-2 c = omega (arith, count_small c.args.digits c.args.value c.requires.0 c.requires.1)

pub returns : goal.returns
returns c =
    digit _ _ _ c.if-byte-eq10.false c.if-digits-eq9.false c.requires.0 c.if-byte-lt48.false c.if-byte-gt57.false c.requires.1
