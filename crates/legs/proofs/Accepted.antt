-- What an accepted call leaves to its caller: the legs of the path, as specs/Promises.antt promises them. Assumes nothing.
use Prim.Native.Nat.{ℕ, ◌/◌}
use mathlib.Core.Path.{◌≡◌, refl, sym, ap}
use mathlib.Core.Bool.{Bool, true, false, cond}
use mathlib.Core.List.{List, [], ◌∷◌}
use native.Mathlib.Omega.{arith}
use lib.Dec.{ltb}
use lib.Ieee.{Float}
use Rattle.std.specs.Prelude.{Ok}
use lib.ListN.{length, drop, get_or}
use Rattle.floats.specs.Floats.{bits_of}
use Rattle.answers.specs.Answers.{Answer, accepted}
use Rattle.answers.specs.Report.{written}
use Rattle.answers.specs.declared.refusals.Values.TheVariants.{One}
use Rattle.answers.specs.declared.refusals.Refusal.TheVariants.{BadPath, NoRoom, Range}
use Rattle.answers.proofs.Settled.{refused-not-accepted}
use Rattle.path_stored.specs.Buffers.{Buffers}
use Rattle.path_stored.specs.Stored.{is_stored}
use Rattle.flat.specs.declared.pieces.Tally.{Tally}
use Rattle.flat.specs.Nearness.{limit_of}
use Rattle.legs.specs.Paths.{path_legs, path_tally}
use Rattle.legs.specs.Legs.{is_distance, Outcome, flown, refusal, outcome_of, flag, answered, written_by, Legs}
use Rattle.legs.specs.Promises.{PathFlown}
use Rattle.legs.proofs.Promised.{path-flown}

module _ (b : Buffers) (distance : Float) (room : ℕ) where
  abbrev tally : Tally
  tally = path_tally (limit_of distance) b.kinds b.fields

  abbrev numbers : List Float
  numbers = path_legs (limit_of distance) b.kinds b.fields

  -- by the path, the distance and the room
  abbrev by : Bool → Bool → Bool → Outcome
  by s d r = cond s (cond d (cond r (refusal (NoRoom (One tally.legs))) (flown tally numbers)) (refusal (Range (bits_of distance)))) (refusal BadPath)

  -- a call that is accepted comes to the legs of the path
  pub accepted-flown : (values : List ℕ) → accepted values ≡ answered (outcome_of b distance room) → outcome_of b distance room ≡ flown tally numbers
  unfolding outcome_of
  accepted-flown values e = go (is_stored b) (is_distance distance) (ltb (room / 4) tally.legs) e
    where
      go : (s d r : Bool) → accepted values ≡ answered (by s d r) → by s d r ≡ flown tally numbers
      go true true false e = refl
      go true true true e = absurd (refused-not-accepted (NoRoom (One tally.legs)) values (sym e))
      go true false r e = absurd (refused-not-accepted (Range (bits_of distance)) values (sym e))
      go false d r e = absurd (refused-not-accepted BadPath values (sym e))

same_flag : (a b : Bool) → flag a ≡ flag b → a ≡ b
same_flag true true e = refl
same_flag false false e = refl
same_flag true false e = absurd (omega arith)
same_flag false true e = absurd (omega arith)

-- legs that were told, and numbers that were written, are those of the path
pub flown-path :
    (b : Buffers) (distance : Float) (before : List Float) {after : List Float} (n : ℕ) (far : Bool)
    → accepted (n ∷ flag far ∷ []) ≡ answered (outcome_of b distance (length before)) → after ≡ written (written_by (outcome_of b distance (length before))) before
    → PathFlown (limit_of distance) b.kinds b.fields after n far
flown-path b distance before {after} n far told wrote =
    let is = accepted-flown b distance (length before) (n ∷ flag far ∷ []) told in
    let t = tally b distance (length before) in
    let same : accepted (n ∷ flag far ∷ []) ≡ accepted (t.legs ∷ flag t.far ∷ []) = rw is at told in
    let count : n ≡ t.legs = ap (λ (a : Answer). get_or a.values 0 0) same in
    let flags : flag far ≡ flag t.far = ap (λ (a : Answer). get_or a.values 1 0) same in
    let out : after ≡ written (numbers b distance (length before)) before = rw is at wrote in
    rw (count, same_flag far t.far flags, out) (path-flown (limit_of distance) b.kinds b.fields (drop (length (numbers b distance (length before))) before))

pub legs-flown :
    {b : Buffers} {distance : Float} {before after : List Float} {n : ℕ} {far : Bool}
    → Legs b distance before (Ok (record { legs = n; far = far })) after → PathFlown (limit_of distance) b.kinds b.fields after n far
legs-flown {b} {distance} {before} {n = n} {far = far} p = flown-path b distance before n far p.answer p.output
