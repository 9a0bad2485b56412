-- Numbers that are stored run after run, and read entry by entry. Assumes nothing.
use Prim.Native.Nat.{ℕ, suc, ◌+◌, ◌≤◌, ◌<◌}
use mathlib.Core.Path.{◌≡◌, refl, sym, ap, ◌∙◌}
use mathlib.Core.List.{List, [], ◌∷◌, ◌++◌}
use native.Mathlib.Numerals.{add-one}
use native.Mathlib.Omega.{arith}
use lib.Ieee.{Float, nan}
use lib.ListN.{length, get_or, take, drop, set, length-take, length-drop}
use lib.Seq.{sets, take-suc, ext_get_or, get_or-take, get_or-drop, get_or-set_same, get_or-set_other, length-take-le, take_all}
use Rattle.commands.proofs.Storing.{then-put}
use Rattle.path_segment.specs.Segments.{width_of}

-- a kind that is known leaves room for its fields
pub room : (kind k at n : ℕ) → kind ≡ k → at + width_of kind ≤ n → at + width_of k ≤ n
room kind k at n e h = rw e at h

-- ---- storing one entry after the other
module _ (entries l : List Float) (at k : ℕ) where
  pub put_next : (l₁ : List Float) (v : Float) → k < length entries → l₁ ≡ sets l at (take k entries) → v ≡ get_or entries k nan → set l₁ (at + k) v ≡ sets l at (take (k + 1) entries)
  put_next l₁ v inside e f =
      then-put l at (take k entries) (v ∷ []) {j = at + k} e (ap (λ n. at + n) (sym (length-take-le k entries (omega arith)))) refl
      ∙ ap (sets l at) (ap (λ x. take k entries ++ x ∷ []) f ∙ sym (take-suc entries k nan inside) ∙ ap (λ n. take n entries) (sym (add-one k)))

  -- all entries, and one number past them
  pub put_last : (l₁ : List Float) (v w : Float) → length entries ≡ k → l₁ ≡ sets l at (take k entries) → v ≡ w → set l₁ (at + k) v ≡ sets l at (entries ++ w ∷ [])
  put_last l₁ v w size e f =
      then-put l at entries (v ∷ []) {j = at + k} (e ∙ ap (sets l at) (take_all k entries (omega arith))) (ap (λ n. at + n) (sym size)) refl
      ∙ ap (λ x. sets l at (entries ++ x ∷ [])) f

-- ---- a part that is copied entry by entry
module _ (l from : List Float) (at : ℕ) where
  abbrev pub Copied : ℕ → Type 0
  Copied n = (k : ℕ) → k < n → get_or l k nan ≡ get_or from (at + k) nan

  pub copied_all : (n : ℕ) → length l ≡ n → at + n ≤ length from → Copied n → l ≡ take n (drop at from)
  copied_all n size inside h =
      ext_get_or nan l (take n (drop at from)) (size ∙ sym (simp (length-take, length-drop) (omega arith)))
      (λ k u. let v : k < n = omega arith in h k v ∙ sym (get_or-take n (drop at from) k nan v ∙ get_or-drop at from k nan))

pub copied_more : (l from : List Float) (at i : ℕ) → i < length l → Copied l from at i → Copied (set l i (get_or from (at + i) nan)) from at (i + 1)
copied_more l from at i inside h k below = go (native.Mathlib.Decide.dec_lt k i)
  where
    go : Dec (k < i) → get_or (set l i (get_or from (at + i) nan)) k nan ≡ get_or from (at + k) nan
    go (yes a) = get_or-set_other l i k (get_or from (at + i) nan) nan (omega arith) ∙ h k a
    go (no a) = let z : k ≡ i = omega arith in rw z (get_or-set_same l i (get_or from (at + i) nan) nan inside)
