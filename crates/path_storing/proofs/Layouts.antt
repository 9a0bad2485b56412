-- The four buffers of segments after others. Assumes nothing.
use Prim.Native.Nat.{suc}
use mathlib.Core.Path.{◌≡◌, refl, sym, ap, ◌∙◌}
use mathlib.Core.List.{List, [], ◌∷◌, ◌++◌, append_assoc}
use lib.Ieee.{Float}
use lib.ListN.{length}
use Rattle.floats.specs.Floats.{zero_f}
use Rattle.path_segment.specs.Segments.{kind_of, fields_of, table_stored}
use Rattle.path_segment.specs.declared.segments.PathSegment.{PathSegment}
use Rattle.path_stored.specs.Layout.{kinds_of, fields_of_all, tables_of_all, running_of, lengths_of_all}
use Rattle.path_drawing.specs.Building.{length_after}

pub kinds-append : (a b : List PathSegment) → kinds_of (a ++ b) ≡ kinds_of a ++ kinds_of b
unfolding kinds_of
kinds-append [] b = refl
kinds-append (x ∷ a) b = ap (λ l. kind_of x ∷ l) (kinds-append a b)

pub fields-append : (a b : List PathSegment) → fields_of_all (a ++ b) ≡ fields_of_all a ++ fields_of_all b
unfolding fields_of_all
fields-append [] b = refl
fields-append (x ∷ a) b = ap (λ l. fields_of x ++ l) (fields-append a b) ∙ sym (append_assoc (fields_of x) (fields_of_all a) (fields_of_all b))

pub tables-append : (a b : List PathSegment) → tables_of_all (a ++ b) ≡ tables_of_all a ++ tables_of_all b
unfolding tables_of_all
tables-append [] b = refl
tables-append (x ∷ a) b = ap (λ l. table_stored x ++ l) (tables-append a b) ∙ sym (append_assoc (table_stored x) (tables_of_all a) (tables_of_all b))

-- the running length after segments
unfoldable pub end_of : Float → List PathSegment → Float
end_of start [] = start
end_of start (x ∷ a) = end_of (length_after start x) a

pub end-append : (start : Float) (a b : List PathSegment) → end_of start (a ++ b) ≡ end_of (end_of start a) b
unfolding end_of
end-append start [] b = refl
end-append start (x ∷ a) b = end-append (length_after start x) a b

running-append : (start : Float) (a b : List PathSegment) → running_of start (a ++ b) ≡ running_of start a ++ running_of (end_of start a) b
unfolding running_of end_of
running-append start [] b = refl
running-append start (x ∷ a) b = ap (λ l. length_after start x ∷ l) (running-append (length_after start x) a b)

pub lengths-append : (a b : List PathSegment) → lengths_of_all (a ++ b) ≡ lengths_of_all a ++ running_of (end_of zero_f a) b
unfolding lengths_of_all
lengths-append a b = running-append zero_f a b

-- one running length each
pub running-count : (start : Float) (a : List PathSegment) → length (running_of start a) ≡ length (kinds_of a)
unfolding running_of kinds_of
running-count start [] = refl
running-count start (x ∷ a) = ap suc (running-count (length_after start x) a)

pub lengths-count : (a : List PathSegment) → length (lengths_of_all a) ≡ length (kinds_of a)
unfolding lengths_of_all
lengths-count a = running-count zero_f a
