-- What is put after what is put is put together. Assumes nothing.
use Prim.Native.Nat.{ℕ, zero, suc, ◌+◌, ◌≤◌, ◌<◌}
use mathlib.Core.Path.{◌≡◌, refl, sym, ap, ◌∙◌}
use mathlib.Core.List.{List, [], ◌∷◌, ◌++◌}
use native.Mathlib.Omega.{arith}
use native.Mathlib.Numerals.{add-one}
use lib.ListN.{length, set, get_or, take, length-append}
use lib.Seq.{sets, length-sets, take-suc, take_all, length-take-le}
use Rattle.station_lines.specs.Put.{Put, PutWithin}

-- two runs of stores, one past the other, are one
sets-append : (xs ys l : List ℕ) (i : ℕ) → sets (sets l i xs) (i + length xs) ys ≡ sets l i (xs ++ ys)
sets-append [] ys l i = let z : i + 0 ≡ i = omega arith in ap (λ (k : ℕ). sets l k ys) z
sets-append (x ∷ xs) ys l i =
    let z : i + suc (length xs) ≡ suc i + length xs = omega arith in
    ap (λ (k : ℕ). sets (sets (set l i x) (suc i) xs) k ys) z ∙ sets-append xs ys (set l i x) (suc i)

-- past its end a list stays
set_past : (l : List ℕ) (i x : ℕ) → length l ≤ i → set l i x ≡ l
set_past [] i x h = refl
set_past (y ∷ l) zero x h = absurd (omega arith)
set_past (y ∷ l) (suc i) x h = ap (λ (m : List ℕ). y ∷ m) (set_past l i x (omega arith))

pub put-past : (byte at : ℕ) (before : List ℕ) → length before ≤ at → Put (byte ∷ []) at before before (at + 1)
put-past byte at before h = record { memory = sym (set_past before at byte h); past = refl }

pub put-none : (at : ℕ) (before : List ℕ) → Put [] at before before at
put-none at before = record { memory = refl; past = omega arith }

module _ {xs : List ℕ} {at : ℕ} {before after : List ℕ} {next : ℕ} (p : Put xs at before after next) where
  pub put-length : length after ≡ length before
  put-length = ap length p.memory ∙ length-sets before at xs

  pub put_same : (ys : List ℕ) → xs ≡ ys → Put ys at before after next
  put_same ys e = record { memory = p.memory ∙ ap (sets before at) e; past = p.past ∙ ap (λ (l : List ℕ). at + length l) e }

  pub put_then : {ys last : List ℕ} {end : ℕ} → Put ys next after last end → Put (xs ++ ys) at before last end
  put_then {ys} {last} {end} q =
      record {
        memory =
            q.memory
            ∙ ap (λ (k : ℕ). sets after k ys) p.past
            ∙ ap (λ (l : List ℕ). sets l (at + length xs) ys) p.memory
            ∙ sets-append xs ys before at;
        past = omega (arith, p.past, q.past, length-append xs ys);
      }

-- one more byte of a word
pub put_next :
    (word : List ℕ) (i at past : ℕ) (before now after : List ℕ) (next : ℕ)
    → i < length word
    → Put (take i word) at before now past
    → Put (get_or word i 0 ∷ []) past now after next
    → Put (take (i + 1) word) at before after next
put_next word i at past before now after next h p q =
    put_same (put_then p q) (take (i + 1) word) (sym (rw add-one (take-suc word i 0 h)))

-- a word that is put whole
pub put_all : {word : List ℕ} {i at past : ℕ} {before now : List ℕ} → i ≤ length word → length word ≤ i → Put (take i word) at before now past → Put word at before now past
put_all {word} {i} g h p = put_same p word (take_all i word h)

pub word_room :
    (word : List ℕ) (i at past : ℕ) (before now : List ℕ)
    → i < length word → Put (take i word) at before now past → at + length word ≤ 69632 → past < 69632
word_room word i at past before now h p fits =
    let l : length (take i word) ≡ i = length-take-le i word (omega arith) in
    omega (arith, p.past)

-- ---- with a bound

module _ {xs : List ℕ} {at : ℕ} {before after : List ℕ} {next : ℕ} where
  -- bytes under another name and another bound
  pub within-as : (most : ℕ) (ys : List ℕ) → Put xs at before after next → xs ≡ ys → next ≤ at + most → PutWithin most ys at before after next
  within-as most ys p e h = record { put = put_same p ys e; within = h }

  pub within-then :
      {m n : ℕ} {ys last : List ℕ} {end : ℕ} → PutWithin m xs at before after next → PutWithin n ys next after last end
      → PutWithin (m + n) (xs ++ ys) at before last end
  within-then p q = record { put = put_then p.put q.put; within = omega (arith, p.within, q.within) }

-- one byte
pub one_byte : {byte at : ℕ} {before after : List ℕ} {next : ℕ} → Put (byte ∷ []) at before after next → PutWithin 1 (byte ∷ []) at before after next
one_byte p = record { put = p; within = omega (arith, p.past) }

-- any two allowed results are equal
pub put-unique :
    (bytes : List ℕ) (at : ℕ) (before after other : List ℕ) (next end : ℕ)
    → Put bytes at before after next
    → Put bytes at before other end
    → (after ≡ other) × (next ≡ end)
put-unique bytes at before after other next end p q = (p.memory ∙ sym q.memory, p.past ∙ sym q.past)
