-- How many numbers the shape between has; and what two planned shapes come to, with room for both or not. Assumes nothing.
use Rattle.std.proofs.Common.{ℕ, ◌≡◌, ◌*◌, ◌≤◌, ◌<◌, List, length, subst, Ok, Err}
use borrow.Author.Tests.{lt-ltb, le-ltb}
use lib.Ieee.{Float}
use Rattle.answers.specs.declared.refusals.Values.TheVariants.{Two}
use Rattle.answers.specs.declared.refusals.Refusal.TheVariants.{NoRoom}
use Rattle.answers.specs.Report.{written}
use Rattle.polyline.specs.Points.{rows_of}
use Rattle.polyline.specs.Judging.{judge_two_of}
use Rattle.polyline.proofs.Rows.{rows-length}
use Rattle.resample.specs.Planning.{plan_of, rows_by, need_of}
use Rattle.resample.specs.declared.spreading.Way.{Way}
use Rattle.resample.proofs.Plans.{need_is}
use Rattle.morph.specs.Shapes.{shared_of, between_at}
use Rattle.morph.specs.Morph.{shapes, refusal, plans_of, morph_of, Morph}

pub between_length : (from to : List Float) (along : Float) → length (rows_of (between_at from to along) (shared_of from to)) ≡ 2 * shared_of from to
between_length from to along = rows-length (between_at from to along) (shared_of from to)

-- two shapes that are fine, a count that is not too large, and what each shape is planned to be
pub record Planning (from to : List Float) (count : ℕ) (first second : Way) (a b : ℕ) : Type 0 where
  pub fine : judge_two_of from to ≡ Ok tt
  pub few : count ≤ 4096
  pub one_planned : plan_of from count ≡ Ok first
  pub other_planned : plan_of to count ≡ Ok second
  pub one_needs : a ≡ need_of first count
  pub other_needs : b ≡ need_of second count

pub planning : {from to : List Float} {count : ℕ} {first second : Way} {a b : ℕ} → judge_two_of from to ≡ Ok tt → count ≤ 4096 → plan_of from count ≡ Ok first
    → plan_of to count ≡ Ok second → a ≡ need_of first count → b ≡ need_of second count → Planning from to count first second a b
planning fine few p q n m = record { fine = fine; few = few; one_planned = p; other_planned = q; one_needs = n; other_needs = m }

module _ {from to : List Float} {count : ℕ} {first second : Way} {a b : ℕ} (p : Planning from to count first second a b) (one other : List Float) where
  short_first : length one < a → morph_of from to count (length one) (length other) ≡ refusal (NoRoom (Two a b))
  unfolding morph_of plans_of
  short_first h =
      rw (p.fine, le-ltb 4096 count p.few, p.one_planned, p.other_planned, need_is from count first, need_is to count second, ← p.one_needs, ← p.other_needs, lt-ltb (length one) a h)

  short_second : a ≤ length one → length other < b → morph_of from to count (length one) (length other) ≡ refusal (NoRoom (Two a b))
  unfolding morph_of plans_of
  short_second g h =
      rw (
        p.fine,
        le-ltb 4096 count p.few,
        p.one_planned,
        p.other_planned,
        need_is from count first,
        need_is to count second,
        ← p.one_needs,
        ← p.other_needs,
        le-ltb (length one) a g,
        lt-ltb (length other) b h,
      )

  whole : a ≤ length one → b ≤ length other → morph_of from to count (length one) (length other) ≡ shapes (rows_by from count first) (rows_by to count second)
  unfolding morph_of plans_of
  whole g h =
      rw (
        p.fine,
        le-ltb 4096 count p.few,
        p.one_planned,
        p.other_planned,
        need_is from count first,
        need_is to count second,
        ← p.one_needs,
        ← p.other_needs,
        le-ltb (length one) a g,
        le-ltb (length other) b h,
      )

  refuses : morph_of from to count (length one) (length other) ≡ refusal (NoRoom (Two a b)) → Morph from to count one other (Err (NoRoom (Two a b))) one other
  refuses e = record { answer = rw e; from_shape = rw e; to_shape = rw e }

  pub no_first : {same : ℕ} → count ≡ same → length one < a → Morph from to same one other (Err (NoRoom (Two a b))) one other
  no_first e h = subst (λ (k : ℕ). Morph from to k one other (Err (NoRoom (Two a b))) one other) e (refuses (short_first h))

  pub no_second : {same : ℕ} → count ≡ same → a ≤ length one → length other < b → Morph from to same one other (Err (NoRoom (Two a b))) one other
  no_second e g h = subst (λ (k : ℕ). Morph from to k one other (Err (NoRoom (Two a b))) one other) e (refuses (short_second g h))

  pub both_filled : {same : ℕ} {one' other' : List Float} → count ≡ same → a ≤ length one → b ≤ length other → one' ≡ written (rows_by from count first) one
      → other' ≡ written (rows_by to count second) other → Morph from to same one other (Ok (record { from = a; to = b })) one' other'
  both_filled {same} {one'} {other'} e g h f s =
      let filled = whole g h in
      subst (λ (k : ℕ). Morph from to k one other (Ok (record { from = a; to = b })) one' other') e
      (record { answer = rw (filled, need_is from count first, need_is to count second, ← p.one_needs, ← p.other_needs); from_shape = rw filled f; to_shape = rw filled s })
