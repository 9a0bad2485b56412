-- `strict_argument::read_argument` meets its contract: each kind's reader does. Assumes nothing.
use Rattle.strict_argument.proofs.groups.read_argument.Goals as goal

pub returns-in-Coordinate : goal.returns-in-Coordinate
returns-in-Coordinate c = rw c.in-Coordinate.is c.read_number.ensures

pub returns-in-Pair : goal.returns-in-Pair
returns-in-Pair c = rw c.in-Pair.is c.pair.ensures

pub returns-in-TwoPairs : goal.returns-in-TwoPairs
returns-in-TwoPairs c = rw c.in-TwoPairs.is c.two_pairs.ensures

pub returns-in-ThreePairs : goal.returns-in-ThreePairs
returns-in-ThreePairs c = rw c.in-ThreePairs.is c.three_pairs.ensures

pub returns-in-Arc : goal.returns-in-Arc
returns-in-Arc c = rw c.in-Arc.is c.arc.ensures
