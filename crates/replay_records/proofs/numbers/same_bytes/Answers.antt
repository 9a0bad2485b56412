-- The chain answers for the pairs of a byte and its place in the text (`all_from_yields_List`), and those settle the definition. Assumes nothing.
use Rattle.std.proofs.Common.{◌+◌, ◌==◌, ◌∙◌, arith, rules, tests}
use Rattle.std.proofs.lemmas.Iterator.{YieldsList-from_slice, YieldsList-from_zip}
use Rattle.std.proofs.lemmas.Iterator.Search.{all_from_yields_List}
use Rattle.replay_records.proofs.Rows.{same_bytes-zip}
use Rattle.replay_records.proofs.numbers.same_bytes.Goals as goal

pub returns : goal.returns
returns c =
    all_from_yields_List (λ p. p.0 + c.args.by == p.1) c.all.new.self _ _ c.all.ensures.ran
    (YieldsList-from_zip (YieldsList-from_slice c.args.bytes.now cc) (YieldsList-from_slice _ c.zip.ensures.second.0)) (λ x b q k. search (rules, tests))
    ∙ same_bytes-zip c.args.by c.args.text.now c.args.bytes.now c.args.at _ (omega arith) (omega (arith, c.requires))
