-- The letters of the commands: no two kinds share one, and each is a command's. Assumes nothing.
use Prim.Native.Nat.{ℕ, ◌<◌}
use mathlib.Core.Path.{◌≡◌, refl, sym, ap, ◌∙◌}
use mathlib.Core.Bool.{Bool, true, false, ◌||◌, or-false, or-true}
use mathlib.Core.List.{List, [], ◌∷◌, ◌++◌}
use mathlib.Core.Logic.{◌⊎◌, inl, inr, ⊎_elim}
use lib.Dec.{T, eqb}
use lib.ListN.{length, get_or}
use Rattle.scan.specs.Bytes.{among}
use Rattle.scan.proofs.ByteLaws.{apartb, withinb, clash, either-of}
use Rattle.scan.proofs.RunLaws.{stands-inside, stands-among}
use Rattle.strict_grammar.specs.Spans.{Byte}
use Rattle.strict_grammar.proofs.SpanLaws.{inside}
use Rattle.strict_argument.specs.declared.groups.Kind.{Kind}
use Rattle.strict_argument.specs.declared.groups.Kind.TheVariants.{Coordinate, Pair, TwoPairs, ThreePairs, Arc}
use Rattle.strict.specs.Commands.{move_letters, close_letters, letters_of, command_letters, LetterOf, LetterAt}
use Rattle.strict.specs.declared.commands.Letter.{Letter}
use Rattle.strict.specs.declared.commands.Letter.TheVariants.{Moves, Closes, Takes, Other}

-- the letters of two kinds have none in common
pub kinds-apart : (k m : Kind) → (k ≡ m) ⊎ T (apartb (letters_of k) (letters_of m))
unfolding among
kinds-apart Coordinate Coordinate = inl refl
kinds-apart Coordinate Pair = inr tt
kinds-apart Coordinate TwoPairs = inr tt
kinds-apart Coordinate ThreePairs = inr tt
kinds-apart Coordinate Arc = inr tt
kinds-apart Pair Coordinate = inr tt
kinds-apart Pair Pair = inl refl
kinds-apart Pair TwoPairs = inr tt
kinds-apart Pair ThreePairs = inr tt
kinds-apart Pair Arc = inr tt
kinds-apart TwoPairs Coordinate = inr tt
kinds-apart TwoPairs Pair = inr tt
kinds-apart TwoPairs TwoPairs = inl refl
kinds-apart TwoPairs ThreePairs = inr tt
kinds-apart TwoPairs Arc = inr tt
kinds-apart ThreePairs Coordinate = inr tt
kinds-apart ThreePairs Pair = inr tt
kinds-apart ThreePairs TwoPairs = inr tt
kinds-apart ThreePairs ThreePairs = inl refl
kinds-apart ThreePairs Arc = inr tt
kinds-apart Arc Coordinate = inr tt
kinds-apart Arc Pair = inr tt
kinds-apart Arc TwoPairs = inr tt
kinds-apart Arc ThreePairs = inr tt
kinds-apart Arc Arc = inl refl

pub close-apart : (k : Kind) → T (apartb close_letters (letters_of k))
unfolding among
close-apart Coordinate = tt
close-apart Pair = tt
close-apart TwoPairs = tt
close-apart ThreePairs = tt
close-apart Arc = tt

pub move-apart : (k : Kind) → T (apartb move_letters (letters_of k))
unfolding among
move-apart Coordinate = tt
move-apart Pair = tt
move-apart TwoPairs = tt
move-apart ThreePairs = tt
move-apart Arc = tt

-- the letters of a kind are a command's
pub kind-within : (k : Kind) → T (withinb (letters_of k) command_letters)
unfolding among
kind-within Coordinate = tt
kind-within Pair = tt
kind-within TwoPairs = tt
kind-within ThreePairs = tt
kind-within Arc = tt

-- a class of four bytes is two classes of two
pub halves :
    {text : List ℕ} {a b c d i j : ℕ} → Byte text (a ∷ b ∷ c ∷ d ∷ []) i j → Byte text (a ∷ b ∷ []) i j ⊎ Byte text (c ∷ d ∷ []) i j
unfolding among
halves {text} {a} {b} {c} {d} {i} {j} x =
    ⊎_elim first rest (either-of (eqb (get_or text i 0) a) _ (stands-among (a ∷ b ∷ c ∷ d ∷ []) text i x.there))
  where
    made : (class : List ℕ) → among (get_or text i 0) class ≡ true → Byte text class i j
    made class h = record { there = stands-inside class text i (inside x) ∙ h; next = x.next }

    first : eqb (get_or text i 0) a ≡ true → Byte text (a ∷ b ∷ []) i j ⊎ Byte text (c ∷ d ∷ []) i j
    first h = inl (made (a ∷ b ∷ []) (rw h refl))

    second : eqb (get_or text i 0) b ≡ true → Byte text (a ∷ b ∷ []) i j ⊎ Byte text (c ∷ d ∷ []) i j
    second h = inl (made (a ∷ b ∷ []) (rw h (or-true (eqb (get_or text i 0) a))))

    rest :
        (eqb (get_or text i 0) b || (eqb (get_or text i 0) c || (eqb (get_or text i 0) d || false))) ≡ true
        → Byte text (a ∷ b ∷ []) i j ⊎ Byte text (c ∷ d ∷ []) i j
    rest h = ⊎_elim second (λ g. inr (made (c ∷ d ∷ []) g)) (either-of (eqb (get_or text i 0) b) _ h)

-- ---- the code's tests

pub two_is : (b x y : ℕ) → (eqb b x || eqb b y) ≡ among b (x ∷ y ∷ [])
unfolding among
two_is b x y = ap (λ t. eqb b x || t) (sym (or-false (eqb b y)))

or-four : (p q r s : Bool) → (p || q || r || s) ≡ (p || (q || (r || (s || false))))
or-four true q r s = refl
or-four false true r s = refl
or-four false false true s = refl
or-four false false false true = refl
or-four false false false false = refl

pub four_is : (b x y z w : ℕ) → (eqb b x || eqb b y || eqb b z || eqb b w) ≡ among b (x ∷ y ∷ z ∷ w ∷ [])
unfolding among
four_is b x y z w = or-four (eqb b x) (eqb b y) (eqb b z) (eqb b w)

neither-of : (p q : Bool) → (p || q) ≡ false → (p ≡ false) × (q ≡ false)
neither-of true q e = absurd (clash refl e)
neither-of false q e = (refl, e)

among-neither : (b : ℕ) (l m : List ℕ) → among b l ≡ false → among b m ≡ false → among b (l ++ m) ≡ false
unfolding among
among-neither b [] m f g = g
among-neither b (x ∷ l) m f g =
    let p = neither-of (eqb b x) (among b l) f in
    rw p.0 (among-neither b l m p.1 g)

-- a byte that no test takes begins no command
pub no-letter-of :
    (b : ℕ) → among b move_letters ≡ false → among b close_letters ≡ false → among b (letters_of Pair) ≡ false
    → among b (letters_of Coordinate) ≡ false → among b (letters_of ThreePairs) ≡ false → among b (letters_of TwoPairs) ≡ false
    → among b (letters_of Arc) ≡ false → among b command_letters ≡ false
no-letter-of b move close pair coordinate three two arc =
    among-neither b move_letters _ move
    (among-neither b close_letters _ close
    (among-neither b (letters_of Coordinate) _ coordinate
    (among-neither b (letters_of Pair) _ pair
    (among-neither b (letters_of TwoPairs) _ two (among-neither b (letters_of ThreePairs) _ three arc)))))

-- what a byte of the text begins stands at its place
pub letter-stands : (text : List ℕ) (at : ℕ) → at < length text → (r : Letter) → LetterOf (get_or text at 0) r → LetterAt text at r
letter-stands text at h Moves e = stands-inside move_letters text at h ∙ e
letter-stands text at h Closes e = stands-inside close_letters text at h ∙ e
letter-stands text at h (Takes kind) e = stands-inside (letters_of kind) text at h ∙ e
letter-stands text at h Other e = stands-inside command_letters text at h ∙ e
