-- `kihavute_number` meets its contract: the text's length says which case holds, and what is given is the nearest value's. Assumes nothing.
use Rattle.c_answer.proofs.Giving.{given-same}
use Rattle.kihavute.proofs.NumberGiven.{text-long, text-fits, number-kept}
use Rattle.kihavute.proofs.decimals.kihavute_number.Goals as goal

pub returns-then-text-gt65536 : goal.returns-then-text-gt65536
returns-then-text-gt65536 c =
    let given = given-same _ _ (text-long c.args.text.now c.if-text-gt65536.true) c.refuse.ensures in
    record { given = given; number_kept_by = number-kept c.args.text.now given }

pub returns : goal.returns
returns c =
    let given = given-same _ _ (text-fits c.args.text.now c.if-text-gt65536.false) c.read.ensures in
    record { given = given; number_kept_by = number-kept c.args.text.now given }
