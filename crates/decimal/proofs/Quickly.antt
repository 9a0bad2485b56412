-- A number without an exponent whose digits are below 2 ^ 53: one division rounds it. Assumes nothing.
use Prim.Native.Nat.{ℕ, ◌-◌, ◌^◌, ◌<◌}
use mathlib.Core.Path.{◌≡◌, refl, ap, sym, ◌∙◌}
use mathlib.Core.List.{List}
use mathlib.Core.Bool.{Bool, true, false, ◌&&◌, ◌||◌}
use native.Mathlib.Nat.{le_of_lt}
use native.Mathlib.Omega.{arith}
use lib.Dec.{eqb}
use lib.ListN.{get_or}
use lib.Ieee.{Float, binary32, round}
use Rattle.std.specs.Prelude.{Result, Ok}
use Rattle.scan.specs.Runs.{past_sign_of, past_point_of}
use Rattle.decimal_digits.specs.Leading.{Gathers, Fills}
use Rattle.decimal_digits.specs.declared.gathering.Leading.{Leading}
use Rattle.decimal_digits.specs.declared.gathering.Taken.{Taken}
use Rattle.decimal_digits.proofs.Taking.{gathers-on, gathers-none}
use Rattle.answers.specs.declared.refusals.Refusal.{Refusal}
use Rattle.decimal.specs.Decimal.{read_at, number_of, minus}
use Rattle.decimal.specs.Bits.{Settled, Quick}
use Rattle.decimal.specs.declared.numbers.Read.{Read}
use Rattle.decimal.proofs.Found.{Plain, p, scanned, held_plain, number-value}
use Rattle.decimal.proofs.Valued.{short-is, value-signed}

-- ---- tests

pub neither : (a b : Bool) → (a || b) ≡ false → (a ≡ false) × (b ≡ false)
neither true b e = let z : ◌≡◌ {A = ℕ} 0 1 = cc in absurd (omega arith)
neither false b e = (refl, e)

pub no_both : (a b : Bool) → a ≡ false → (a && b) ≡ false
no_both a b e = ap (λ (t : Bool). t && b) e

-- ---- digits that are taken are all of their run, where they are few

abbrev pub all-taken : Taken → Leading
all-taken r = record { at = r.at; w = r.w; dropped = 0 }

pub fills-all : (text : List ℕ) (from w : ℕ) (r : Taken) → Fills text from w r → r.w < 2 ^ 53 → Gathers text from w 0 (all-taken r)
fills-all text from w r f few = gathers-on text from w r.at r.w 0 _ f.takes (gathers-none text r.at r.w 0 (f.ended (omega (arith, few))) (omega arith))

-- ---- the number

module _ {text : List ℕ} (at : ℕ) {whole fraction : ℕ} {first all : Leading}
    (w-is : whole ≡ past_sign_of text at) (before : Gathers text whole 0 0 first) (f-is : fraction ≡ past_point_of text first.at) (after : Gathers text fraction first.w first.dropped all)
    (some : (eqb whole first.at && eqb fraction all.at) ≡ false) (end : Plain text all.at) (few : all.w < 2 ^ 53) where
  abbrev own : Bool
  own = eqb (get_or text at 0) minus

  pub quick-number : number_of text at ≡ Ok (read_at (round binary32 own all.w (10 ^ (all.at - fraction))) all.at)
  quick-number =
      let q = p at w-is before f-is after some end.x-is end.e-is in
      let h = held_plain at w-is before f-is after some end in
      sym (number-value text at q _ (scanned at w-is before f-is after some end.x-is end.e-is end.fine)
      (value-signed text q _ _ _ _ h _ own refl (short-is text q _ _ _ _ h (le_of_lt few) refl refl own)))

-- what is settled of it is its value
pub quick-read : {read : Result Read Refusal} (own : Bool) (n : ℕ) {w places end r : ℕ} {s : Bool} {out : List Float}
    → Settled w places s end r out → read ≡ Ok (read_at (round binary32 own w (10 ^ n)) end) → own ≡ s → n ≡ places → Quick read r out
quick-read own n {w} {places} {end} {r} {s} settled number same few =
    record {
      value = round binary32 s w (10 ^ places);
      stored = settled.stored;
      is = number ∙ ap (λ (b : Bool). Ok (read_at (round binary32 b w (10 ^ n)) end)) same
          ∙ ap (λ (k : ℕ). Ok (read_at (round binary32 s w (10 ^ k)) end)) few ∙ ap (λ (e : ℕ). Ok (read_at (round binary32 s w (10 ^ places)) e)) (sym settled.ends);
    }
