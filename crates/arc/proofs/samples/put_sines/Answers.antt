-- Four runs of 8, each after those before it (`run-after`): the angles from its own on are still what they were. Assumes nothing.
use borrow.Author.Rules.{rules}
use native.Mathlib.Omega.{arith}
use mathlib.Core.Path.{refl}
use Rattle.trig_rule.specs.Steps.{sine_of, cosine_of}
use Rattle.arc.proofs.Rows.{replacing-start, replacing-row, run-after}
use Rattle.arc.proofs.samples.put_sines.Goals as goal

pub returns : goal.returns
returns c =
    let s1 = run-after sine_of c.args.x.now (replacing-start c.told-x) c.sin_cos_run.ensures.sines (λ j l. refl) (omega arith) in
    let c1 = run-after cosine_of c.args.x.now (replacing-start c.told-y) c.sin_cos_run.ensures.cosines (λ j l. refl) (omega arith) in
    let s2 = run-after sine_of c.args.x.now s1 c.sin_cos_run-2.ensures.sines s1.rest (omega arith) in
    let c2 = run-after cosine_of c.args.x.now c1 c.sin_cos_run-2.ensures.cosines s1.rest (omega arith) in
    let s3 = run-after sine_of c.args.x.now s2 c.sin_cos_run-3.ensures.sines s2.rest (omega arith) in
    let c3 = run-after cosine_of c.args.x.now c2 c.sin_cos_run-3.ensures.cosines s2.rest (omega arith) in
    let s4 = run-after sine_of c.args.x.now s3 c.sin_cos_run-4.ensures.sines s3.rest (omega arith) in
    let c4 = run-after cosine_of c.args.x.now c3 c.sin_cos_run-4.ensures.cosines s3.rest (omega arith) in
    record { sines = replacing-row s4 (omega arith); cosines = replacing-row c4 (omega arith) }
