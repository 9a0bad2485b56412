-- What building answers, way by way, over what is built. Assumes nothing.
use Prim.Native.Nat.{ℕ}
use mathlib.Core.Path.{◌≡◌, refl, sym, ap, subst, ◌∙◌}
use mathlib.Core.Bool.{Bool, true, false, ◌||◌, cond, false≢true}
use mathlib.Core.List.{List}
use native.Mathlib.Omega.{arith}
use borrow.Author.Tests.{ltb-false}
use lib.Dec.{ltb}
use lib.ListN.{length}
use Rattle.std.specs.Prelude.{Result, Ok, Err}
use Rattle.answers.specs.Answers.{accepted}
use Rattle.answers.specs.declared.refusals.Values.TheVariants.{Five}
use Rattle.answers.specs.declared.refusals.Refusal.{Refusal}
use Rattle.answers.specs.declared.refusals.Refusal.TheVariants.{NoRoom}
use Rattle.path_segment.specs.declared.segments.PathSegment.{PathSegment}
use Rattle.path_stored.specs.Buffers.{Buffers}
use Rattle.path_stored.specs.Layout.{kinds_of, fields_of_all, tables_of_all, running_of, lengths_of_all}
use Rattle.path_drawing.specs.Building.{Built, path, refusal}
use Rattle.path_storing.proofs.Layouts.{lengths-count}
use Rattle.path_storing.specs.declared.sites.Sizes.{Sizes}
use Rattle.path_build.specs.Answers.{sizes_of, is_short, counts_of, values, roomed, Answers, needed_of, building_of, measure_of, Holding, Filled}
use Rattle.path_build.specs.Paths.{lent_of}
use Rattle.path_build.specs.declared.room.Counts.{Counts}

-- ---- the first pass's answer tells what is built

measured-refused : (reason : Refusal) (built : Built) → Err reason ≡ measure_of built → built ≡ refusal reason
unfolding measure_of
measured-refused reason (path list) e = cc
measured-refused reason (refusal other) e = let f : other ≡ reason = cc in ap refusal f

record Listed (sizes : Sizes) (built : Built) : Type 0 where
  list : List PathSegment
  is : built ≡ path list
  counts : counts_of list ≡ needed_of sizes

measured-list : (sizes : Sizes) (built : Built) → Ok sizes ≡ measure_of built → Listed sizes built
unfolding measure_of
measured-list sizes (path list) e =
    let f : sizes ≡ sizes_of (length (kinds_of list)) (length (fields_of_all list)) (length (tables_of_all list)) = cc in
    record { list = list; is = refl; counts = subst (λ (s : Sizes). counts_of list ≡ needed_of s) (sym f) (rw (lengths-count list)) }
measured-list sizes (refusal reason) e = cc

-- ---- no buffer is short

none-short : (a b c d e : Bool) → (((a || b) || c) || d) || e ≡ false → (a ≡ false) × (b ≡ false) × (c ≡ false) × (d ≡ false) × (e ≡ false)
none-short true b c d e h = absurd (false≢true (sym h))
none-short false true c d e h = absurd (false≢true (sym h))
none-short false false true d e h = absurd (false≢true (sym h))
none-short false false false true e h = absurd (false≢true (sym h))
none-short false false false false true h = absurd (false≢true (sym h))
none-short false false false false false h = (refl, refl, refl, refl, refl)

-- ---- the ways out

refuses : {drawers : List ℕ} {b : Buffers} (reason : Refusal) {whole : Built} → whole ≡ refusal reason → Answers whole drawers b (Err reason) b
unfolding kinds_of fields_of_all tables_of_all running_of lengths_of_all
refuses {drawers} {b} reason e = subst (λ (w : Built). Answers w drawers b (Err reason) b) (sym e) (record { answer = refl; after = refl })

-- another name of what is built
answers_at : {drawers : List ℕ} {b : Buffers} {whole other : Built} {r : Result Sizes Refusal} {b' : Buffers} → whole ≡ other → Answers other drawers b r b' → Answers whole drawers b r b'
answers_at {drawers} {b} {whole} {other} {r} {b'} e a = subst (λ (w : Built). Answers w drawers b r b') (sym e) a

module _ (b : Buffers) (built : Built) where
  -- nothing is built
  unbuilt : {drawers : List ℕ} {reason : Refusal} → Err reason ≡ measure_of built → Answers (roomed (lent_of b) built) drawers b (Err reason) b
  unbuilt {drawers} {reason} m = refuses reason (ap (roomed (lent_of b)) (measured-refused reason built m))

  module _ {sizes : Sizes} (m : Ok sizes ≡ measure_of built) where
    l : Listed sizes built
    l = measured-list sizes built m

    abbrev lacking : Refusal
    lacking = NoRoom (Five sizes.segments sizes.fields sizes.tables sizes.segments sizes.segments)

    roomed-is : (short : Bool) → is_short (needed_of sizes) (lent_of b) ≡ short → roomed (lent_of b) built ≡ cond short (refusal lacking) (path l.list)
    roomed-is short e =
        ap (roomed (lent_of b)) l.is
        ∙ ap (λ (c : Counts). cond (is_short c (lent_of b)) (refusal (NoRoom (Five c.kinds c.fields c.tables c.lengths c.commands))) (path l.list)) l.counts
        ∙ ap (λ (x : Bool). cond x (refusal lacking) (path l.list)) e

    -- it has no room
    ended-short : {drawers : List ℕ} {reason : Refusal} → building_of (Ok sizes) (lent_of b) ≡ Err reason → Answers (roomed (lent_of b) built) drawers b (Err reason) b
    ended-short {drawers} {reason} = by-room (is_short (needed_of sizes) (lent_of b)) refl
      where
        by-room : (short : Bool) → is_short (needed_of sizes) (lent_of b) ≡ short → cond short (Err lacking) (Ok sizes) ≡ Err reason → Answers (roomed (lent_of b) built) drawers b (Err reason) b
        by-room true g h =
            let i : lacking ≡ reason = cc in
            subst (λ (x : Refusal). Answers (roomed (lent_of b) built) drawers b (Err x) b) i (refuses lacking (roomed-is true g))
        by-room false g h = cc

    -- it has room: only that is answered with its counts
    module _ {own : Sizes} (e : building_of (Ok sizes) (lent_of b) ≡ Ok own) where
      room : (is_short (needed_of sizes) (lent_of b) ≡ false) × (sizes ≡ own)
      room = by (is_short (needed_of sizes) (lent_of b)) refl e
        where
          by : (short : Bool) → is_short (needed_of sizes) (lent_of b) ≡ short → cond short (Err lacking) (Ok sizes) ≡ Ok own → (is_short (needed_of sizes) (lent_of b) ≡ false) × (sizes ≡ own)
          by true g h = cc
          by false g h = (g, let f : sizes ≡ own = cc in f)

      has_room : Holding built b
      has_room =
          let n = none-short (ltb (length b.kinds) sizes.segments) (ltb (length b.fields) sizes.fields) (ltb (length b.tables) sizes.tables) (ltb (length b.lengths) sizes.segments)
          (ltb (length b.commands) sizes.segments) room.0 in
          let c = l.counts in
          subst (λ (x : Built). Holding x b) (sym l.is)
          (record {
            kinds_fit = omega (arith, ltb-false (length b.kinds) sizes.segments n.0, ap (λ (x : Counts). x.kinds) c);
            fields_all_fit = omega (arith, ltb-false (length b.fields) sizes.fields n.1, ap (λ (x : Counts). x.fields) c);
            tables_fit = omega (arith, ltb-false (length b.tables) sizes.tables n.2, ap (λ (x : Counts). x.tables) c);
            lengths_fit = omega (arith, ltb-false (length b.lengths) sizes.segments n.3, ap (λ (x : Counts). x.lengths) c);
            commands_fit = omega (arith, ltb-false (length b.commands) sizes.segments n.4, ap (λ (x : Counts). x.commands) c);
          })

      built-whole : {drawers : List ℕ} {b' : Buffers} → Filled built drawers b b' → Answers (roomed (lent_of b) built) drawers b (Ok own) b'
      built-whole {drawers} {b'} filled =
          subst (λ (s : Sizes). Answers (roomed (lent_of b) built) drawers b (Ok s) b') room.1
          (answers_at (roomed-is false room.0)
          (record { answer = ap (λ (x : Counts). accepted (values x)) (sym l.counts); after = subst (λ (x : Built). Filled x drawers b b') l.is filled }))

  -- ---- the ending: what `room` answers to a size, and what is then written

  module _ {size : Result Sizes Refusal} (m : size ≡ measure_of built) where
    pub ended-refused : {drawers : List ℕ} {reason : Refusal} → building_of size (lent_of b) ≡ Err reason → Answers (roomed (lent_of b) built) drawers b (Err reason) b
    ended-refused {drawers} {reason} = by_size size m
      where
        by_size : (x : Result Sizes Refusal) → x ≡ measure_of built → building_of x (lent_of b) ≡ Err reason → Answers (roomed (lent_of b) built) drawers b (Err reason) b
        by_size (Ok sizes) n e = ended-short n e
        by_size (Err own) n e =
            let f : own ≡ reason = cc in
            subst (λ (x : Refusal). Answers (roomed (lent_of b) built) drawers b (Err x) b) f (unbuilt n)

    module _ {own : Sizes} (e : building_of size (lent_of b) ≡ Ok own) where
      pub ended-holding : Holding built b
      ended-holding = by_size size m e
        where
          by_size : (x : Result Sizes Refusal) → x ≡ measure_of built → building_of x (lent_of b) ≡ Ok own → Holding built b
          by_size (Ok sizes) n h = has_room n h
          by_size (Err reason) n h = cc

      pub ended-built : {drawers : List ℕ} {b' : Buffers} → Filled built drawers b b' → Answers (roomed (lent_of b) built) drawers b (Ok own) b'
      ended-built {drawers} {b'} filled = by_size size m e
        where
          by_size : (x : Result Sizes Refusal) → x ≡ measure_of built → building_of x (lent_of b) ≡ Ok own → Answers (roomed (lent_of b) built) drawers b (Ok own) b'
          by_size (Ok sizes) n h = built-whole n h filled
          by_size (Err reason) n h = cc
