-- What is appended: an accepted call has room, and leaves a stored path of one segment more. Assumes nothing.
use Prim.Native.Nat.{ℕ, zero, suc, ◌+◌, ◌*◌, ◌≤◌, ◌<◌}
use mathlib.Core.Path.{◌≡◌, refl, sym, ap, ◌∙◌, subst}
use mathlib.Core.Bool.{Bool, true, false, false≢true, ◌&&◌, cond}
use mathlib.Core.List.{List, [], ◌∷◌, ◌++◌}
use native.Mathlib.Numerals.{add-one}
use native.Mathlib.Omega.{arith}
use lib.Dec.{T, ltb, leb, ltb→lt, leb→le, le→leb}
use lib.Ieee.{Float, nan, binary32, add, fits}
use lib.Ieee.Fits.{and_i, and_l, and_r}
use lib.Ieee.Scale.{finite}
use lib.ListN.{length, get_or, take, drop, set, length-set, length-append}
use lib.Seq.{sets, sets-eq, take_at, take-suc-set, get_or-take, length-take-le}
use Rattle.answers.specs.declared.refusals.Values.{Values}
use Rattle.std.specs.Prelude.{Result, Ok, Err}
use Rattle.answers.specs.declared.refusals.Refusal.{Refusal}
use Rattle.answers.specs.declared.refusals.Refusal.TheVariants.{NoRoom, RotationRange, NotFinite, BadPath, Range}
use Rattle.floats.specs.Floats.{zero_f}
use Rattle.table.specs.Spots as Spots
use Rattle.path_segment.specs.declared.segments.PathSegment.{PathSegment}
use Rattle.path_segment.specs.Segments.{kind_of, width_of, tables_of, fields_of, table_stored, length_for}
use Rattle.path_segment.proofs.Reading.{fields-width}
use Rattle.path_segment.proofs.Tables.{stored-size}
use Rattle.path_stored.specs.Buffers.{Buffers}
use Rattle.path_stored.specs.Layout.{extended}
use Rattle.path_stored.specs.Stored.{before, most_segments, last_number, is_stored, Stored}
use Rattle.path_stored.proofs.Rule.{stored-rule, rule-stored}
use Rattle.path_stored.proofs.Extending.{all_more, stored_more}
use Rattle.path_append.specs.Appending.{numbers_used, tables_used, first_of, in_use, number_before, may_follow, may_turn, grown_of, needs_of, has_room, fitting_of, appended_of, is_added, stored_at, afterwards, Append, Room}
use Rattle.path_append.proofs.InUse.{before-take, follow-used, follow-above}

-- ---- an accepted call passed every test
tests :
    (count : ℕ) (needs : Values) (u f t g r : Bool)
    → is_added
    (cond u
    (cond f
    (cond t (cond g (cond r (Ok needs) (Err (NoRoom needs))) (Err (NotFinite count))) (Err (RotationRange count)))
    (Err (Range (count + 1))))
    (Err BadPath))
    ≡ true
    → T u × T f × T t × T g × T r
tests count needs false f t g r e = absurd (false≢true e)
tests count needs true false t g r e = absurd (false≢true e)
tests count needs true true false g r e = absurd (false≢true e)
tests count needs true true true false r e = absurd (false≢true e)
tests count needs true true true true false e = absurd (false≢true e)
tests count needs true true true true true e = (tt, tt, tt, tt, tt)

module _ (b : Buffers) (count command : ℕ) (segment : PathSegment) where
  pub record Passed : Type 0 where
    pub follows : T (may_follow b count command)
    pub few : T (ltb count most_segments)
    pub fine : T (finite (grown_of b.lengths count segment))
    pub room : T (has_room b count segment)

  pub added-passed : is_added (appended_of b count command segment) ≡ true → Passed
  unfolding appended_of fitting_of
  added-passed e =
      let fine = finite (grown_of b.lengths count segment) in
      let t = tests count (needs_of b.kinds count segment) (may_follow b count command) (ltb count most_segments) (may_turn segment) fine (has_room b count segment) e in
      record { follows = t.0; few = t.1; fine = t.3; room = t.4 }

  pub passed-room : Passed → Room b count segment
  unfolding has_room
  passed-room p =
      let k = ltb count (length b.kinds) in
      let n = leb (numbers_used b.kinds count + width_of (kind_of segment)) (length b.fields) in
      let m = leb (tables_used b.kinds count + 33 * tables_of (kind_of segment)) (length b.tables) in
      let l = ltb count (length b.lengths) in
      let c = ltb count (length b.commands) in
      let knml = and_l (k && n && m && l) c p.room in
      let knm = and_l (k && n && m) l knml in
      let kn = and_l (k && n) m knm in
      record {
        few = ltb→lt count most_segments p.few;
        for_kind = ltb→lt count (length b.kinds) (and_l k n kn);
        for_numbers = leb→le _ (length b.fields) (and_r k n kn);
        for_table = leb→le _ (length b.tables) (and_r (k && n) m knm);
        for_length = ltb→lt count (length b.lengths) (and_r (k && n && m) l knml);
        for_command = ltb→lt count (length b.commands) (and_r (k && n && m && l) c p.room);
      }

-- ---- lists with something stored after their first places
take-sets : {A : Type 0} (l vs : List A) (i : ℕ) → i + length vs ≤ length l → take (i + length vs) (sets l i vs) ≡ take i l ++ vs
take-sets l vs i room =
    ap (take (i + length vs)) (sets-eq vs l i room)
    ∙ take_at (take i l ++ vs) (drop (i + length vs) l) (i + length vs) (length-append (take i l) vs ∙ ap (λ k. k + length vs) (length-take-le i l (omega arith)))

take-set : {A : Type 0} (l : List A) (v : A) (i : ℕ) → i < length l → take (i + 1) (set l i v) ≡ take i l ++ v ∷ []
take-set l v i inside = ap (λ k. take k (set l i v)) (add-one i) ∙ take-suc-set l i v inside

total-take : (lengths : List Float) (count : ℕ) → count ≤ length lengths → Spots.path_total (take count lengths) ≡ Spots.before lengths count
unfolding Spots.path_total Spots.before
total-take lengths count h = ap (λ k. get_or (zero_f ∷ take count lengths) k nan) (length-take-le count lengths h) ∙ same count
  where
    same : (count : ℕ) → get_or (zero_f ∷ take count lengths) count nan ≡ get_or (zero_f ∷ lengths) count nan
    same zero = refl
    same (suc c) = get_or-take (suc c) lengths c nan (omega arith)

last-take : (commands : List ℕ) (count : ℕ) → count ≤ length commands → last_number (take count commands) ≡ number_before commands count
last-take commands count h = ap (λ k. get_or (0 ∷ take count commands) k 0) (length-take-le count commands h) ∙ same count
  where
    same : (count : ℕ) → get_or (0 ∷ take count commands) count 0 ≡ get_or (0 ∷ commands) count 0
    same zero = refl
    same (suc c) = get_or-take (suc c) commands c 0 (omega arith)

-- what the segments have, with the kind of one more stored
used-more :
    (f : ℕ → ℕ) (kinds : List ℕ) (count kind : ℕ) → count < length kinds → before f (set kinds count kind) (count + 1) ≡ before f kinds count + f kind
used-more f kinds count kind inside =
    sym (before-take f (set kinds count kind) (count + 1))
    ∙ ap (λ l. before f l (count + 1)) (take-set kinds kind count inside)
    ∙ ap (before f (take count kinds ++ kind ∷ [])) (sym (length-append (take count kinds) (kind ∷ []) ∙ ap (λ k. k + 1) (length-take-le count kinds (omega arith))))
    ∙ all_more f (take count kinds) kind
    ∙ ap (λ k. k + f kind) (ap (before f (take count kinds)) (length-take-le count kinds (omega arith)) ∙ before-take f kinds count)

-- ---- the path with the segment is a stored path
module _ (b : Buffers) (count command : ℕ) (segment : PathSegment) (value : T (fits binary32 (Spots.before b.lengths count))) where
  abbrev path : Buffers
  path = first_of b count

  stored-then : Stored path → number_before b.commands count ≤ command → T (finite (grown_of b.lengths count segment)) → Room b count segment
      → T (is_stored (extended path segment command))
  unfolding grown_of
  stored-then s above fine room =
      let h = room.for_length in
      let k = room.for_kind in
      let few = room.few in
      let e = total-take b.lengths count (omega arith) in
      let size = length-take-le count b.kinds (omega arith) in
      let c = room.for_command in
      let last = last-take b.commands count (omega arith) in
      rule-stored (extended path segment command)
      (stored_more s (subst (λ x. T (fits binary32 x)) (sym e) value) segment (subst (λ x. T (finite (add binary32 x (length_for segment)))) (sym e) fine) (omega arith) (omega arith))

  -- what is stored is the path in use with the segment
  first_more : Room b count segment → first_of (stored_at b count command segment) (count + 1) ≡ extended path segment command
  unfolding grown_of
  first_more room =
      let h = room.for_length in
      let inside = room.for_kind in
      let for_numbers : numbers_used b.kinds count + length (fields_of segment) ≤ length b.fields = rw (fields-width segment) room.for_numbers in
      let for_table : tables_used b.kinds count + length (table_stored segment) ≤ length b.tables = rw (stored-size segment) room.for_table in
      let un : numbers_used (stored_at b count command segment).kinds (count + 1) ≡ numbers_used b.kinds count + length (fields_of segment) =
      used-more width_of b.kinds count (kind_of segment) inside ∙ ap (λ k. numbers_used b.kinds count + k) (sym (fields-width segment)) in
      let ut : tables_used (stored_at b count command segment).kinds (count + 1) ≡ tables_used b.kinds count + length (table_stored segment) =
      shares (before tables_of b.kinds count) (tables_of (kind_of segment)) _ _ (used-more tables_of b.kinds count (kind_of segment) inside) (stored-size segment) in
      let k = take-set b.kinds (kind_of segment) count inside in
      let n = take-sets b.fields (fields_of segment) (numbers_used b.kinds count) for_numbers in
      let t = take-sets b.tables (table_stored segment) (tables_used b.kinds count) for_table in
      let l = take-set b.lengths (grown_of b.lengths count segment) count h in
      let c = take-set b.commands command count room.for_command in
      rw (un, ut, k, n, t, l, c, total-take b.lengths count (omega arith))
    where
      shares : (a b x y : ℕ) → x ≡ a + b → y ≡ 33 * b → 33 * x ≡ 33 * a + y
      shares a b x y p q = omega arith

  pub append-stored : {r : Result Values Refusal} {b' : Buffers} → Append b count command segment r b' → is_added r ≡ true → T (in_use b' (count + 1))
  unfolding in_use
  append-stored {r} {b'} a added =
      let p = added-passed b count command segment (subst (λ x. is_added x ≡ true) a.answer added) in
      let room = passed-room b count command segment p in
      let s = stored-rule path (and_r (leb count (length b.kinds)) _ (follow-used b count command p.follows)) in
      let e : b' ≡ stored_at b count command segment = a.after ∙ ap (λ x. cond x (stored_at b count command segment) b) added in
      let long : length (set b.kinds count (kind_of segment)) ≡ length b.kinds = length-set b.kinds count (kind_of segment) in
      let inside = room.for_kind in
      rw e
      (and_i (leb (count + 1) (length (stored_at b count command segment).kinds)) _ (le→leb (count + 1) (length (stored_at b count command segment).kinds) (omega arith))
      (rw (first_more room) (stored-then s (follow-above b count command p.follows) p.fine room)))

-- ---- any two allowed results are equal
pub append-unique : {b : Buffers} {count command : ℕ} {segment : PathSegment} {r s : Result Values Refusal} {b₁ b₂ : Buffers} → Append b count command segment r b₁ → Append b count command segment s b₂
    → (r ≡ s) × (b₁ ≡ b₂)
append-unique {b} {count} {command} {segment} p q = let e = p.answer ∙ sym q.answer in (e, p.after ∙ ap (λ x. afterwards x b count command segment) e ∙ sym q.after)
