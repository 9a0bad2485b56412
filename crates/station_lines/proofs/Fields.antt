-- The fields of a line, joined as they are put. Assumes nothing.
use Prim.Native.Nat.{ℕ, ◌≤◌}
use mathlib.Core.Path.{◌≡◌, refl, sym, ap, ◌∙◌}
use mathlib.Core.Bool.{Bool}
use mathlib.Core.List.{List, [], ◌∷◌, ◌++◌, append_assoc, append-nil}
use native.Mathlib.Omega.{arith}
use lib.Ieee.{Float}
use lib.ListN.{get_or-eq_default}
use types.Run.{OneOf, miss}
use denote.Enum.Declared.{tag_of}
use Rattle.answers.specs.contracts.refusals.Refusal as R
use Rattle.answers.specs.Answers.{carried_of, listed}
use Rattle.answers.specs.declared.refusals.Refusal.{Refusal}
use Rattle.answers.specs.declared.refusals.Refusal.TheVariants.{TooLong, UnexpectedEnd, ExpectedNumber, InvalidNumber, ExpectedFlag, UnsupportedCommand, MissingMoveTo, NoRoom, BadList, RotationRange, NotFinite, BadPath, Range}
use Rattle.math.specs.declared.points.Point.{Point}
use Rattle.commands.specs.Stored.{flag_of}
use Rattle.commands.specs.declared.command.PathCommand.TheVariants.{MoveTo, LineTo, QuadTo, CubicTo, ArcTo, ClosePath}
use Rattle.station_lines.specs.Numbers.{bits_field, number_field}
use Rattle.station_lines.specs.Lines.{bits_fields, point_fields, argument_fields, value_fields, carried_fields, names, last_name, kind_name}

bits-append : (xs ys : List Float) → bits_fields xs ++ bits_fields ys ≡ bits_fields (xs ++ ys)
unfolding bits_fields
bits-append [] ys = refl
bits-append (x ∷ xs) ys = append_assoc (bits_field x) (bits_fields xs) (bits_fields ys) ∙ ap (λ (l : List ℕ). bits_field x ++ l) (bits-append xs ys)

pub point-fields : (p : Point) → bits_field p.x ++ bits_field p.y ≡ point_fields p
unfolding point_fields bits_fields
point-fields p = ap (λ (l : List ℕ). bits_field p.x ++ l) (sym (append-nil (bits_field p.y)))

pub move-fields : (end : Point) → point_fields end ≡ argument_fields (MoveTo end)
unfolding point_fields argument_fields
move-fields end = refl

pub line-fields : (end : Point) → point_fields end ≡ argument_fields (LineTo end)
unfolding point_fields argument_fields
line-fields end = refl

pub quad-fields : (control end : Point) → point_fields control ++ point_fields end ≡ argument_fields (QuadTo control end)
unfolding point_fields argument_fields
quad-fields control end = bits-append (control.x ∷ control.y ∷ []) (end.x ∷ end.y ∷ [])

pub cubic-fields : (control1 control2 end : Point) → argument_fields (QuadTo control1 control2) ++ point_fields end ≡ argument_fields (CubicTo control1 control2 end)
unfolding point_fields argument_fields
cubic-fields control1 control2 end = bits-append (control1.x ∷ control1.y ∷ control2.x ∷ control2.y ∷ []) (end.x ∷ end.y ∷ [])

pub arc-fields :
    (radii : Point) (rotation : Float) (large sweep : Bool) (end : Point)
    → point_fields radii ++ (bits_field rotation ++ (bits_field (flag_of large) ++ (bits_field (flag_of sweep) ++ point_fields end))) ≡ argument_fields (ArcTo radii rotation large sweep end)
unfolding point_fields argument_fields bits_fields
arc-fields radii rotation large sweep end = bits-append (radii.x ∷ radii.y ∷ []) (rotation ∷ flag_of large ∷ flag_of sweep ∷ end.x ∷ end.y ∷ [])

pub close-fields : [] ≡ argument_fields ClosePath
unfolding argument_fields bits_fields
close-fields = refl

-- ---- what a refusal carries

pub no-values : [] ≡ value_fields []
unfolding value_fields
no-values = refl

pub one_value : (a : ℕ) → number_field a ≡ value_fields (a ∷ [])
unfolding value_fields
one_value a = sym (append-nil (number_field a))

pub two-values : (a b : ℕ) → number_field a ++ number_field b ≡ value_fields (a ∷ b ∷ [])
unfolding value_fields
two-values a b = ap (λ (l : List ℕ). number_field a ++ l) (one_value b)

pub three-values : (a b c : ℕ) → number_field a ++ (number_field b ++ number_field c) ≡ value_fields (a ∷ b ∷ c ∷ [])
unfolding value_fields
three-values a b c = ap (λ (l : List ℕ). number_field a ++ l) (two-values b c)

pub four-values : (a b c d : ℕ) → number_field a ++ (number_field b ++ (number_field c ++ number_field d)) ≡ value_fields (a ∷ b ∷ c ∷ d ∷ [])
unfolding value_fields
four-values a b c d = ap (λ (l : List ℕ). number_field a ++ l) (three-values b c d)

pub five-values : (a b c d e : ℕ) → number_field a ++ (number_field b ++ (number_field c ++ (number_field d ++ number_field e))) ≡ value_fields (a ∷ b ∷ c ∷ d ∷ e ∷ [])
unfolding value_fields
five-values a b c d e = ap (λ (l : List ℕ). number_field a ++ l) (four-values b c d e)

-- the numbers of the cases of every refusal but that of a letter
abbrev others : List ℕ
others = 0 ∷ 1 ∷ 2 ∷ 3 ∷ 4 ∷ 6 ∷ 7 ∷ 8 ∷ 9 ∷ 10 ∷ 11 ∷ 12 ∷ []

pub carried_other : (refusal : Refusal) → OneOf others (tag_of R.the_type refusal) → value_fields (listed (carried_of refusal)) ≡ carried_fields refusal
unfolding carried_fields
carried_other (TooLong size) k = refl
carried_other (UnexpectedEnd at) k = refl
carried_other (ExpectedNumber at) k = refl
carried_other (InvalidNumber at) k = refl
carried_other (ExpectedFlag at) k = refl
carried_other (UnsupportedCommand letter at) k = absurd (miss others 5 tt k)
carried_other (MissingMoveTo at) k = refl
carried_other (NoRoom needs) k = refl
carried_other (BadList command) k = refl
carried_other (RotationRange segment) k = refl
carried_other (NotFinite number) k = refl
carried_other BadPath k = refl
carried_other (Range found) k = refl

-- ---- the name of a kind

pub kind-last : (kind : ℕ) → (kind ≡ 0 → ⊥) → (kind ≡ 1 → ⊥) → (kind ≡ 2 → ⊥) → (kind ≡ 3 → ⊥) → last_name ≡ kind_name kind
unfolding kind_name
kind-last kind a b c d = let h : 4 ≤ kind = omega arith in sym (get_or-eq_default names last_name {n = kind} h)
