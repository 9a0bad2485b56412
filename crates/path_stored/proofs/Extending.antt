-- What is built always passes the check: one segment more on a stored path, then a list of them, whose command numbers do not fall. The path's total has to be a value of binary32, which
-- holds of what a slice of f32 has. Assumes nothing.
use Prim.Native.Nat.{ℕ, zero, suc, ◌+◌, ◌*◌, ◌≤◌, ◌<◌}
use mathlib.Core.Path.{◌≡◌, refl, sym, ap, ◌∙◌, subst}
use mathlib.Core.Bool.{Bool, true}
use mathlib.Core.List.{List, [], ◌∷◌, ◌++◌, append_assoc, append-nil}
use native.Mathlib.Omega.{arith}
use lib.Dec.{T, leb, le→leb, leb→le}
use lib.Ieee.{Float, nan, binary32, add, le, fits}
use lib.Ieee.Bits.{of_bits-fits}
use lib.Ieee.Fits.{and_i, and_l, and_r, add-fits}
use lib.Ieee.Scale.{finite}
use lib.ListN.{length, get_or, take, drop, length-append, length-drop, get_or-append}
use lib.Seq.{take-append-le, drop-append-le, drop-append_seam, take_at, get_or_at, get_or-append-add}
use Rattle.floats.specs.Floats.{zero_f}
use Rattle.floats.specs.Kinds.{nonneg}
use Rattle.floats.proofs.Between.{nonneg-from, finite-real}
use Rattle.floats.proofs.Bounds.{add-above, finite-parts}
use Rattle.floats.proofs.Constants.{zero_held}
use Rattle.floats.proofs.Fractions.{nonneg-real}
use Rattle.floats.proofs.Order.{not-lt→le}
use Rattle.math.specs.declared.points.Point.{Point}
use Rattle.table.specs.declared.tables.Table.{Table}
use Rattle.table.specs.Lookup.{at}
use Rattle.table.specs.Sound.{all_finite, climbs, lengths_are_sound, table_is_sound}
use Rattle.table.specs.Spots.{before, path_total}
use Rattle.table.proofs.Lengths.{table-sound, path-sound, total-nonneg}
use Rattle.table_samples.specs.Samples.{table_of}
use Rattle.table_samples.proofs.Made.{distance-not-below, made-sound}
use Rattle.arc.specs.Lines.{line_length_of}
use Rattle.path_segment.specs.declared.segments.PathSegment.{PathSegment}
use Rattle.path_segment.specs.declared.segments.PathSegment.TheVariants as Segment
use Rattle.path_segment.specs.Segments.{kind_of, width_of, tables_of, has_table, fields_of, table_at, table_numbers, table_for, table_stored, length_for}
use Rattle.path_segment.proofs.Reading.{fields-width}
use Rattle.path_segment.proofs.Tables.{made-size, stored-size}
use Rattle.path_stored.specs.Buffers.{Buffers}
use Rattle.path_stored.specs.Layout.{kinds_of, fields_of_all, tables_of_all, running_of, lengths_of_all, nothing, extended, extended_by, laid_wholly}
use Rattle.path_stored.specs.Stored.{most_segments, never_fall, last_number, is_stored, Stored}
use Rattle.path_stored.specs.Stored as Stored
use Rattle.path_stored.proofs.Testing.{sound_at}
use Rattle.path_stored.proofs.Rule.{ordered-each, ordered-all, rule-stored}

-- ---- one running length more

climbs-more : (from : Float) (xs : List Float) (y : Float) → T (climbs from xs) → T (le (at (from ∷ xs) (length xs)) y) → T (climbs from (xs ++ y ∷ []))
unfolding climbs
climbs-more from [] y t h = and_i (le from y) true h tt
climbs-more from (x ∷ xs) y t h = and_i (le from x) (climbs x (xs ++ y ∷ [])) (and_l (le from x) (climbs x xs) t) (climbs-more x xs y (and_r (le from x) (climbs x xs) t) h)

finite-more : (xs : List Float) (y : Float) → T (all_finite xs) → T (finite y) → T (all_finite (xs ++ y ∷ []))
unfolding all_finite
finite-more [] y t h = and_i (finite y) true h tt
finite-more (x ∷ xs) y t h = and_i (finite x) (all_finite (xs ++ y ∷ [])) (and_l (finite x) (all_finite xs) t) (finite-more xs y (and_r (finite x) (all_finite xs) t) h)

lengths-more : (xs : List Float) (y : Float) → T (lengths_are_sound xs) → T (finite y) → T (le (path_total xs) y) → T (lengths_are_sound (xs ++ y ∷ []))
unfolding lengths_are_sound path_total before
lengths-more xs y t f h =
    and_i (all_finite (xs ++ y ∷ [])) (climbs zero_f (xs ++ y ∷ [])) (finite-more xs y (and_l (all_finite xs) (climbs zero_f xs) t) f)
    (climbs-more zero_f xs y (and_r (all_finite xs) (climbs zero_f xs) t) h)

-- the last of them is the total
total-more : (xs : List Float) (y : Float) → path_total (xs ++ y ∷ []) ≡ y
unfolding path_total before
total-more xs y = go zero_f xs
  where
    go : (from : Float) (xs : List Float) → at (from ∷ (xs ++ y ∷ [])) (length (xs ++ y ∷ [])) ≡ y
    go from [] = refl
    go from (x ∷ xs) = go x xs

-- ---- one command number more

falls-more : (from : ℕ) (xs : List ℕ) (y : ℕ) → T (never_fall from xs) → get_or (from ∷ xs) (length xs) 0 ≤ y → T (never_fall from (xs ++ y ∷ []))
unfolding never_fall
falls-more from [] y t h = and_i (leb from y) true (le→leb from y h) tt
falls-more from (x ∷ xs) y t h = and_i (leb from x) (never_fall x (xs ++ y ∷ [])) (and_l (leb from x) (never_fall x xs) t) (falls-more x xs y (and_r (leb from x) (never_fall x xs) t) h)

last_more : (xs : List ℕ) (y : ℕ) → last_number (xs ++ y ∷ []) ≡ y
last_more xs y = go 0 xs
  where
    go : (from : ℕ) (xs : List ℕ) → get_or (from ∷ (xs ++ y ∷ [])) (length (xs ++ y ∷ [])) 0 ≡ y
    go from [] = refl
    go from (x ∷ xs) = go x xs

-- ---- a segment's table, where its length is finite

made_table : (formula : Float → Point) → T (finite (table_of formula).total) → T (table_is_sound (table_of formula).entries (table_of formula).total)
unfolding table_of
made_table formula h = made-sound formula 31 h

table-nonneg : (formula : Float → Point) → T (finite (table_of formula).total) → T (nonneg (table_of formula).total)
table-nonneg formula h = total-nonneg (table-sound (table_of formula).entries (table_of formula).total (made_table formula h))

line-nonneg : (a b : Point) → T (finite (line_length_of (record { start = a; end = b }))) → T (nonneg (line_length_of (record { start = a; end = b })))
unfolding line_length_of
line-nonneg a b h = nonneg-from zero_f _ zero_held.nn h (not-lt→le zero_f _ (nonneg-real zero_f zero_held.nn) (finite-real _ h) (distance-not-below a b))

length-nonneg : (segment : PathSegment) → T (finite (length_for segment)) → T (nonneg (length_for segment))
unfolding length_for
length-nonneg (Segment.Line line) h = line-nonneg line.start line.end h
length-nonneg (Segment.Quad start control end) h = table-nonneg _ h
length-nonneg (Segment.Cubic start control1 control2 end) h = table-nonneg _ h
length-nonneg (Segment.Arc shape) h = table-nonneg _ h
length-nonneg (Segment.Fallback shape) h = line-nonneg shape.start shape.end h

-- ---- tables in a row

table_kept : (xs ys : List Float) (place : ℕ) → place + 33 ≤ length xs → table_at (xs ++ ys) place ≡ table_at xs place
table_kept xs ys place room =
    let e : take 32 (drop place (xs ++ ys)) ≡ take 32 (drop place xs) =
    ap (take 32) (drop-append-le place xs ys (omega arith)) ∙ take-append-le 32 (drop place xs) ys (simp length-drop (omega arith)) in
    let t = get_or-append xs ys nan (place + 32) (omega arith) in
    cc

parts-settle : (table : Table) (entries : List Float) (total : Float) → entries ≡ table.entries → total ≡ table.total → ◌≡◌ {A = Table} (record { entries = entries; total = total }) table
parts-settle table entries total p q = rw (p, q)

table-new : (xs : List Float) (table : Table) (place : ℕ) → length table.entries ≡ 32 → place ≡ length xs → table_at (xs ++ table_numbers table) place ≡ table
table-new xs table place size e =
    parts-settle table _ _
    (ap (λ p. take 32 (drop p (xs ++ table_numbers table))) e ∙ ap (take 32) (drop-append_seam xs (table_numbers table)) ∙ take_at table.entries (table.total ∷ []) 32 size)
    (ap (λ p. get_or (xs ++ table_numbers table) (p + 32) nan) e ∙ get_or-append-add xs (table_numbers table) 32 nan ∙ get_or_at table.entries table.total [] nan 32 size)

soundly : Table → Bool
soundly table = table_is_sound table.entries table.total

-- one table more, of a finite total, is sound where the tables before it fill n times 33 places
table_more : (xs : List Float) (formula : Float → Point) (n : ℕ) → length xs ≡ 33 * n → T (finite (table_of formula).total) → T (sound_at (xs ++ table_numbers (table_of formula)) n)
unfolding soundly
table_more xs formula n size h = subst (λ t. T (soundly t)) (sym (table-new xs (table_of formula) (33 * n) (made-size formula) (sym size))) (made_table formula h)

-- the tables before stay sound
table_before : (xs ys : List Float) (n count : ℕ) → length xs ≡ 33 * count → n < count → T (sound_at xs n) → T (sound_at (xs ++ ys) n)
unfolding soundly
table_before xs ys n count size below t = subst (λ t. T (soundly t)) (sym (table_kept xs ys (33 * n) (omega arith))) t

only : (m n : ℕ) → m < n + 1 → n ≤ m → n ≡ m
only m n h g = omega arith

-- what a segment adds to the tables
module _ (xs : List Float) (count : ℕ) (size : length xs ≡ 33 * count) where
  added : (formula : Float → Point) (n : ℕ) → T (finite (table_of formula).total) → n < count + 1 → count ≤ n → T (sound_at (xs ++ table_numbers (table_of formula)) n)
  added formula n h below past = subst (λ m. T (sound_at (xs ++ table_numbers (table_of formula)) m)) (only n count below past) (table_more xs formula count size h)

  new-table : (segment : PathSegment) → T (finite (length_for segment)) → (n : ℕ) → n < count + tables_of (kind_of segment) → count ≤ n → T (sound_at (xs ++ table_stored segment) n)
  unfolding length_for tables_of has_table table_stored table_for
  new-table (Segment.Line line) h n below past = absurd (omega arith)
  new-table (Segment.Quad start control end) h n below past = added _ n h below past
  new-table (Segment.Cubic start control1 control2 end) h n below past = added _ n h below past
  new-table (Segment.Arc shape) h n below past = added _ n h below past
  new-table (Segment.Fallback shape) h n below past = absurd (omega arith)

-- ---- one segment more

pub kind-known : (segment : PathSegment) → kind_of segment < 5
kind-known (Segment.Line line) = omega arith
kind-known (Segment.Quad start control end) = omega arith
kind-known (Segment.Cubic start control1 control2 end) = omega arith
kind-known (Segment.Arc shape) = omega arith
kind-known (Segment.Fallback shape) = omega arith

-- what all have, and one more
pub all_more : (f : ℕ → ℕ) (kinds : List ℕ) (kind : ℕ) → Stored.before f (kinds ++ kind ∷ []) (length (kinds ++ kind ∷ [])) ≡ Stored.before f kinds (length kinds) + f kind
unfolding Stored.before
all_more f [] kind = omega arith
all_more f (k ∷ kinds) kind = let r = all_more f kinds kind in omega arith

known_more : (kinds : List ℕ) (kind : ℕ) → ((i : ℕ) → i < length kinds → get_or kinds i 0 < 5) → kind < 5 → (i : ℕ) → i < length (kinds ++ kind ∷ []) → get_or (kinds ++ kind ∷ []) i 0 < 5
known_more [] kind f h zero l = h
known_more [] kind f h (suc i) l = absurd (omega arith)
known_more (k ∷ kinds) kind f h zero l = f 0 (omega arith)
known_more (k ∷ kinds) kind f h (suc i) l = known_more kinds kind (λ j g. f (suc j) (omega arith)) h i (omega arith)

one_more : {A : Type 0} (xs : List A) (x : A) → length (xs ++ x ∷ []) ≡ length xs + 1
one_more xs x = length-append xs (x ∷ [])

-- the path's total with a segment more
abbrev pub total_with : Buffers → PathSegment → Float
total_with b segment = add binary32 (path_total b.lengths) (length_for segment)

module _ {b : Buffers} (stored : Stored b) (value : T (fits binary32 (path_total b.lengths))) (segment : PathSegment) (fine : T (finite (total_with b segment))) where
  own-finite : T (finite (length_for segment))
  own-finite = (finite-parts binary32 (path_total b.lengths) (length_for segment) fine).1

  rising-more : T (lengths_are_sound (b.lengths ++ total_with b segment ∷ []))
  rising-more =
      let total-nn = total-nonneg (path-sound b.lengths stored.rising) in
      lengths-more b.lengths (total_with b segment) stored.rising fine
      (add-above binary32 (path_total b.lengths) (length_for segment) (record { fit = value; nn = total-nn }) (length-nonneg segment own-finite))

  abbrev table_count : ℕ
  table_count = Stored.before tables_of b.kinds (length b.kinds)

  each_more : (n : ℕ) → n < Stored.before tables_of (b.kinds ++ kind_of segment ∷ []) (length (b.kinds ++ kind_of segment ∷ [])) → T (sound_at (b.tables ++ table_stored segment) n)
  each_more n l = go (native.Mathlib.Decide.dec_lt n table_count)
    where
      go : Dec (n < table_count) → T (sound_at (b.tables ++ table_stored segment) n)
      go (yes a) = table_before b.tables (table_stored segment) n table_count stored.counted a (stored.each n a)
      go (no a) = new-table b.tables table_count stored.counted segment own-finite n (subst (λ m. n < m) (all_more tables_of b.kinds (kind_of segment)) l) (omega arith)

  pub stored_more : length b.kinds < most_segments → {command : ℕ} → last_number b.commands ≤ command → Stored (extended b segment command)
  stored_more room {command} above = record {
    few = rw one_more (omega arith);
    known = known_more b.kinds (kind_of segment) stored.known (kind-known segment);
    numbers =
        length-append b.fields (fields_of segment)
        ∙ ap (λ n. n + length (fields_of segment)) stored.numbers
        ∙ ap (λ n. Stored.before width_of b.kinds (length b.kinds) + n) (fields-width segment)
        ∙ sym (all_more width_of b.kinds (kind_of segment));
    counted =
        length-append b.tables (table_stored segment)
        ∙ shares (length b.tables) (length (table_stored segment)) _ _ stored.counted (stored-size segment)
        ∙ ap (λ n. 33 * n) (sym (all_more tables_of b.kinds (kind_of segment)));
    each = each_more;
    one = one_more b.lengths (total_with b segment) ∙ ap (λ n. n + 1) stored.one ∙ sym (one_more b.kinds (kind_of segment));
    rising = rising-more;
    told = one_more b.commands command ∙ ap (λ n. n + 1) stored.told ∙ sym (one_more b.kinds (kind_of segment));
    ordered = ordered-each 0 (b.commands ++ command ∷ []) (falls-more 0 b.commands command (ordered-all 0 b.commands (omega arith) stored.ordered) above);
  }
    where
      shares : (a b m n : ℕ) → a ≡ 33 * m → b ≡ 33 * n → a + b ≡ 33 * (m + n)
      shares a b m n p q = omega arith

-- ---- a list of segments more

join : {A : Type 0} (xs ys zs : List A) → xs ++ ys ++ zs ≡ xs ++ (ys ++ zs)
join xs ys zs = append_assoc xs ys zs

-- one segment and then the others are all of them
extended-all : (b : Buffers) (segment : PathSegment) (segments : List PathSegment) (command : ℕ) (commands : List ℕ)
    → path_total (b.lengths ++ total_with b segment ∷ []) ≡ total_with b segment
    → extended_by (extended b segment command) segments commands ≡ extended_by b (segment ∷ segments) (command ∷ commands)
unfolding kinds_of fields_of_all tables_of_all running_of
extended-all b segment segments command commands e =
    rw (
      e,
      join b.kinds (kind_of segment ∷ []) (kinds_of segments),
      join b.fields (fields_of segment) (fields_of_all segments),
      join b.tables (table_stored segment) (tables_of_all segments),
      join b.lengths (total_with b segment ∷ []) (running_of (total_with b segment) segments),
      join b.commands (command ∷ []) commands,
    )

pub stored-list : (segments : List PathSegment) (commands : List ℕ) (b : Buffers) → Stored b → T (fits binary32 (path_total b.lengths)) → length b.kinds + length segments ≤ most_segments
    → T (all_finite (running_of (path_total b.lengths) segments)) → length commands ≡ length segments → T (never_fall (last_number b.commands) commands)
    → Stored (extended_by b segments commands)
unfolding kinds_of fields_of_all tables_of_all running_of all_finite never_fall
stored-list [] [] b stored value room fine one rise =
    rw (append-nil b.kinds, append-nil b.fields, append-nil b.tables, append-nil b.lengths, append-nil b.commands) stored
stored-list [] (command ∷ commands) b stored value room fine one rise = absurd (omega arith)
stored-list (segment ∷ segments) [] b stored value room fine one rise = absurd (omega arith)
stored-list (segment ∷ segments) (command ∷ commands) b stored value room fine one rise =
    let total = total_with b segment in
    let last = last_number b.commands in
    let above : last ≤ command = leb→le last command (and_l (leb last command) (never_fall command commands) rise) in
    let next = stored_more stored value segment (and_l (finite total) (all_finite (running_of total segments)) fine) (omega arith) above in
    let e : path_total (b.lengths ++ total ∷ []) ≡ total = total-more b.lengths total in
    let rest = stored-list segments commands (extended b segment command) next
    (subst (λ x. T (fits binary32 x)) (sym e) (add-fits binary32 (path_total b.lengths) (length_for segment)))
    (rw one_more (omega arith))
    (subst (λ x. T (all_finite (running_of x segments))) (sym e) (and_r (finite total) (all_finite (running_of total segments)) fine))
    (omega arith)
    (subst (λ n. T (never_fall n commands)) (sym (last_more b.commands command)) (and_r (leb last command) (never_fall command commands) rise)) in
    subst Stored (extended-all b segment segments command commands e) rest

-- ---- from nothing

pub nothing_stored : Stored nothing
unfolding lengths_are_sound all_finite climbs Stored.before
nothing_stored = record { few = omega arith; known = λ i h. absurd (omega arith); numbers = refl; counted = refl; each = λ n h. absurd (omega arith); one = refl; rising = tt; told = refl; ordered = λ i h. absurd (omega arith) }

zero-fits : T (fits binary32 (path_total []))
unfolding path_total before zero_f
zero-fits = of_bits-fits binary32 0

-- a list of segments with finite running lengths, and a command number for each that do not fall, is laid out as a stored path
pub laid_out : (segments : List PathSegment) (commands : List ℕ) → length segments ≤ most_segments → T (all_finite (lengths_of_all segments)) → length commands ≡ length segments
    → T (never_fall 0 commands) → T (is_stored (laid_wholly segments commands))
unfolding lengths_of_all
laid_out segments commands few fine one rise =
    rule-stored (laid_wholly segments commands) (unfold path_total before in stored-list segments commands nothing nothing_stored zero-fits (omega arith) fine one rise)
