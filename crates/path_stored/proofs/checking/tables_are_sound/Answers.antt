-- `path_stored::tables_are_sound` meets its contract. Assumes nothing.
use Rattle.path_stored.proofs.Testing.{sound_at, row-part, sound-next, sound-stop}
use Rattle.path_stored.specs.Stored.{tables_are_sound}
use native.Mathlib.Omega.{arith}
use mathlib.Core.Path.{◌≡◌, refl, sym, ◌∙◌}
use borrow.Author.Rules.{rules}
use Rattle.path_stored.proofs.checking.tables_are_sound.Goals as goal

pub loop-j-init : goal.loop-j-init
unfolding tables_are_sound
loop-j-init c = refl

pub loop-j-preserved : goal.loop-j-preserved
loop-j-preserved c =
    let judged : sound_at c.args.tables.now c.loop-j.j ≡ c.row_is_sound.result = sym (row-part c.args.tables.now c.loop-j.j (search rules)) ∙ sym c.row_is_sound.ensures in
    sound-next _ c.loop-j.j c.loop-j.invariant (judged ∙ c.if-not-row_is_sound.false)

pub returns-then-not-row_is_sound-clause-sound : goal.returns-then-not-row_is_sound-clause-sound
returns-then-not-row_is_sound-clause-sound c =
    let judged : sound_at c.args.tables.now c.loop-j.j ≡ c.row_is_sound.result = sym (row-part c.args.tables.now c.loop-j.j (search rules)) ∙ sym c.row_is_sound.ensures in
    sound-stop _ c.loop-j.j c.args.n c.loop-j-test.true c.loop-j.invariant (judged ∙ c.if-not-row_is_sound.true)

pub returns-clause-sound : goal.returns-clause-sound
returns-clause-sound c = let e : c.loop-j.j ≡ c.args.n = omega arith in sym (rw e at c.loop-j.invariant)
