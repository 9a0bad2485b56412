-- The test is the rule: it passes exactly where `Stored` holds. Assumes nothing.
use Prim.Native.Nat.{ℕ, zero, suc, ◌*◌, ◌≤◌, ◌<◌}
use mathlib.Core.Path.{◌≡◌, subst}
use mathlib.Core.Bool.{Bool, true, ◌&&◌}
use mathlib.Core.List.{List, [], ◌∷◌}
use native.Mathlib.Nat.{not-suc-le-zero, le_of_suc-le-suc, zero-lt-suc}
use native.Mathlib.Omega.{arith}
use lib.Dec.{T, leb, ltb, eqb, leb→le, le→leb, ltb→lt, lt→ltb, eqb→eq, eqb_refl}
use lib.Ieee.{Float}
use lib.Ieee.Fits.{and_i, and_l, and_r}
use lib.ListN.{length, get_or}
use Rattle.table.specs.Sound.{lengths_are_sound}
use Rattle.path_segment.specs.Segments.{width_of, tables_of}
use Rattle.path_stored.specs.Buffers.{Buffers}
use Rattle.path_stored.specs.Stored.{most_segments, before, are_known, tables_are_sound, never_fall, is_stored, Stored}
use Rattle.path_stored.proofs.Testing.{sound_at}

-- ---- kind by kind
known-each : (kinds : List ℕ) → T (are_known kinds) → (i : ℕ) → i < length kinds → get_or kinds i 0 < 5
unfolding are_known
known-each [] t i h = absurd (not-suc-le-zero h)
known-each (kind ∷ kinds) t zero h = ltb→lt kind 5 (and_l (ltb kind 5) (are_known kinds) t)
known-each (kind ∷ kinds) t (suc i) h = known-each kinds (and_r (ltb kind 5) (are_known kinds) t) i (le_of_suc-le-suc h)

known-all : (kinds : List ℕ) → ((i : ℕ) → i < length kinds → get_or kinds i 0 < 5) → T (are_known kinds)
unfolding are_known
known-all [] f = tt
known-all (kind ∷ kinds) f = and_i (ltb kind 5) (are_known kinds) (lt→ltb kind 5 (f 0 (zero-lt-suc (length kinds)))) (known-all kinds (λ i h. f (suc i) (omega arith)))

-- ---- table by table
pub sound-each : (tables : List Float) (n : ℕ) → T (tables_are_sound tables n) → (i : ℕ) → i < n → T (sound_at tables i)
unfolding tables_are_sound
sound-each tables zero t i h = absurd (not-suc-le-zero h)
sound-each tables (suc n) t i h = go (native.Mathlib.Decide.dec_lt i n) (sound-each tables n (and_l (tables_are_sound tables n) (sound_at tables n) t) i)
  where
    go : Dec (i < n) → (i < n → T (sound_at tables i)) → T (sound_at tables i)
    go (yes a) f = f a
    go (no a) f = subst (λ k. T (sound_at tables k)) (let z : n ≡ i = omega arith in z) (and_r (tables_are_sound tables n) (sound_at tables n) t)

pub sound-all : (tables : List Float) (n : ℕ) → ((i : ℕ) → i < n → T (sound_at tables i)) → T (tables_are_sound tables n)
unfolding tables_are_sound
sound-all tables zero f = tt
sound-all tables (suc n) f = and_i (tables_are_sound tables n) (sound_at tables n) (sound-all tables n (λ i h. f i (omega arith))) (f n (omega arith))

-- ---- command number by command number
abbrev Ordered : List ℕ → Type 0
Ordered commands = (i : ℕ) → suc i < length commands → get_or commands i 0 ≤ get_or commands (suc i) 0

pub ordered-each : (from : ℕ) (commands : List ℕ) → T (never_fall from commands) → Ordered commands
unfolding never_fall
ordered-each from [] t i h = absurd (omega arith)
ordered-each from (own ∷ []) t i h = absurd (omega arith)
ordered-each from (own ∷ (next ∷ rest)) t zero h = leb→le own next (and_l (leb own next) (never_fall next rest) (and_r (leb from own) (never_fall own (next ∷ rest)) t))
ordered-each from (own ∷ (next ∷ rest)) t (suc i) h = ordered-each own (next ∷ rest) (and_r (leb from own) (never_fall own (next ∷ rest)) t) i (omega arith)

pub ordered-all : (from : ℕ) (commands : List ℕ) → from ≤ get_or commands 0 from → Ordered commands → T (never_fall from commands)
unfolding never_fall
ordered-all from [] h f = tt
ordered-all from (own ∷ []) h f = and_i (leb from own) true (le→leb from own h) tt
ordered-all from (own ∷ (next ∷ rest)) h f = and_i (leb from own) (never_fall own (next ∷ rest)) (le→leb from own h) (ordered-all own (next ∷ rest) (f 0 (omega arith)) (λ i g. f (suc i) (omega arith)))

-- ---- the whole
equal : (m n : ℕ) → m ≡ n → T (eqb m n)
equal m n e = subst (λ k. T (eqb m k)) e (eqb_refl m)

module _ (a b c d e f g h i : Bool) where
  nine : T (a && b && c && d && e && f && g && h && i) → T a × T b × T c × T d × T e × T f × T g × T h × T i
  nine t =
      let t₈ = and_l (a && b && c && d && e && f && g && h) i t in
      let t₇ = and_l (a && b && c && d && e && f && g) h t₈ in
      let t₆ = and_l (a && b && c && d && e && f) g t₇ in
      let t₅ = and_l (a && b && c && d && e) f t₆ in
      let t₄ = and_l (a && b && c && d) e t₅ in
      let t₃ = and_l (a && b && c) d t₄ in
      let t₂ = and_l (a && b) c t₃ in (
        and_l a b t₂,
        and_r a b t₂,
        and_r (a && b) c t₃,
        and_r (a && b && c) d t₄,
        and_r (a && b && c && d) e t₅,
        and_r (a && b && c && d && e) f t₆,
        and_r (a && b && c && d && e && f) g t₇,
        and_r (a && b && c && d && e && f && g) h t₈,
        and_r (a && b && c && d && e && f && g && h) i t,
      )

  all-nine : T a → T b → T c → T d → T e → T f → T g → T h → T i → T (a && b && c && d && e && f && g && h && i)
  all-nine ta tb tc td te tf tg th ti =
      let t₃ = and_i (a && b) c (and_i a b ta tb) tc in
      let t₅ = and_i (a && b && c && d) e (and_i (a && b && c) d t₃ td) te in
      let t₇ = and_i (a && b && c && d && e && f) g (and_i (a && b && c && d && e) f t₅ tf) tg in
      and_i (a && b && c && d && e && f && g && h) i (and_i (a && b && c && d && e && f && g) h t₇ th) ti

module _ (b : Buffers) where
  abbrev count : ℕ
  count = length b.kinds

  pub stored-rule : T (is_stored b) → Stored b
  unfolding is_stored
  stored-rule t =
      let s = nine (leb count most_segments) (are_known b.kinds)
      (eqb (length b.fields) (before width_of b.kinds count)) (eqb (length b.tables) (33 * before tables_of b.kinds count))
      (tables_are_sound b.tables (before tables_of b.kinds count)) (eqb (length b.lengths) count) (lengths_are_sound b.lengths)
      (eqb (length b.commands) count) (never_fall 0 b.commands) t in
      record {
        few = leb→le count most_segments s.0;
        known = known-each b.kinds s.1;
        numbers = eqb→eq (length b.fields) (before width_of b.kinds count) s.2;
        counted = eqb→eq (length b.tables) (33 * before tables_of b.kinds count) s.3;
        each = sound-each b.tables (before tables_of b.kinds count) s.4;
        one = eqb→eq (length b.lengths) count s.5;
        rising = s.6;
        told = eqb→eq (length b.commands) count s.7;
        ordered = ordered-each 0 b.commands s.8;
      }

  pub rule-stored : Stored b → T (is_stored b)
  unfolding is_stored
  rule-stored s =
      all-nine (leb count most_segments) (are_known b.kinds)
      (eqb (length b.fields) (before width_of b.kinds count)) (eqb (length b.tables) (33 * before tables_of b.kinds count))
      (tables_are_sound b.tables (before tables_of b.kinds count)) (eqb (length b.lengths) count) (lengths_are_sound b.lengths)
      (eqb (length b.commands) count) (never_fall 0 b.commands)
      (le→leb count most_segments s.few)
      (known-all b.kinds s.known)
      (equal (length b.fields) (before width_of b.kinds count) s.numbers)
      (equal (length b.tables) (33 * before tables_of b.kinds count) s.counted)
      (sound-all b.tables (before tables_of b.kinds count) s.each)
      (equal (length b.lengths) count s.one)
      s.rising
      (equal (length b.commands) count s.told)
      (ordered-all 0 b.commands (omega arith) s.ordered)
