-- `decimal_tie::scales::in_six_words` meets its contract: `TwoWords` has the two words, and each arm is a law of their place. Assumes nothing.
use native.Mathlib.Omega.{arith}
use Rattle.decimal_tie.proofs.Sixes.{TwoWords, two-words, six-0, six-1, six-2, six-3, six-4, six-5}
use Rattle.decimal_tie.proofs.scales.in_six_words.Goals as goal

pub overflow_sub-low-2 : goal.overflow_sub-low-2
overflow_sub-low-2 c = let k = (let known_here : TwoWords c.args.odd c.args.k = two-words c.args.odd c.args.k c.requires.0 in known_here) in omega (arith, k.back, k.under)

pub returns-in-0 : goal.returns-in-0
returns-in-0 c = let k = (let known_here : TwoWords c.args.odd c.args.k = two-words c.args.odd c.args.k c.requires.0 in known_here) in rw (k.back, k.kept) (six-0 c.args.odd c.args.k k c.in-0.is)

pub returns-in-1 : goal.returns-in-1
returns-in-1 c = let k = (let known_here : TwoWords c.args.odd c.args.k = two-words c.args.odd c.args.k c.requires.0 in known_here) in rw (k.back, k.kept) (six-1 c.args.odd c.args.k k c.in-1.is)

pub returns-in-2 : goal.returns-in-2
returns-in-2 c = let k = (let known_here : TwoWords c.args.odd c.args.k = two-words c.args.odd c.args.k c.requires.0 in known_here) in rw (k.back, k.kept) (six-2 c.args.odd c.args.k k c.in-2.is)

pub returns-in-3 : goal.returns-in-3
returns-in-3 c = let k = (let known_here : TwoWords c.args.odd c.args.k = two-words c.args.odd c.args.k c.requires.0 in known_here) in rw (k.back, k.kept) (six-3 c.args.odd c.args.k k c.in-3.is)

pub returns-in-4 : goal.returns-in-4
returns-in-4 c = let k = (let known_here : TwoWords c.args.odd c.args.k = two-words c.args.odd c.args.k c.requires.0 in known_here) in rw (k.back, k.kept) (six-4 c.args.odd c.args.k k c.in-4.is)

pub returns-in_default : goal.returns-in_default
returns-in_default c =
    let k = (let known_here : TwoWords c.args.odd c.args.k = two-words c.args.odd c.args.k c.requires.0 in known_here) in
    rw (k.back, k.kept) (six-5 c.args.odd c.args.k k c.requires.0 (omega (arith, c.requires.1)) c.requires.1)
