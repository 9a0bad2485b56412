-- The texts that convert to a number, by the public grammar of decimal floating-point text. It stands so in the documentation of the standard
-- library's reader, which also takes words for infinities and NaN; these hold letters that no number has:
--     Float ::= Sign? Number, Number ::= ( Digit+ | Digit+ '.' Digit* | Digit* '.' Digit+ ) Exp?, Exp ::= 'e' Sign? Digit+, e in either case
-- A text is what stands from one place up to another. No place that a scan finds is cited here. Definitions only.
use Rattle.std.specs.Prelude.{ℕ, ◌+◌, ◌≤◌, ◌≡◌, true, false, List, length, Ok}
use Rattle.scan.specs.Bytes.{digits, signs, points, exponent_marks}
use Rattle.scan.specs.Runs.{stands}
use Rattle.scan.specs.declared.numbers.Places.{Places}
use Rattle.strict_grammar.specs.Spans.{Span, Byte, ◌·◌, ◌∥◌, opt, star, plus}
use Rattle.decimal.specs.Decimal.{value_of, read_at, number_of}

module _ (text : List ℕ) where
  abbrev pub Digit : Span
  Digit = Byte text digits

  abbrev pub Sign : Span
  Sign = Byte text signs

  abbrev pub Point : Span
  Point = Byte text points

  -- "Digit+ | Digit+ '.' Digit* | Digit* '.' Digit+": digits, or digits with a point before, between or behind them, at least one in all
  unfoldable pub Mantissa : Span
  Mantissa = plus Digit ∥ plus Digit · Point · star Digit ∥ star Digit · Point · plus Digit

  -- "'e' Sign? Digit+"
  unfoldable pub Exponent : Span
  Exponent = Byte text exponent_marks · opt Sign · plus Digit

  -- "Sign? ( .. ) Exp?"
  unfoldable pub Converts : Span
  Converts = opt Sign · Mantissa · opt Exponent

-- The number that starts at a place and whose parts stand at these places: its text converts and has one value, and no longer text from
-- there converts.
pub record Converted (text : List ℕ) (at : ℕ) (p : Places) : Type 0 where
  pub starts : p.start ≡ at
  pub within : p.end ≤ length text
  pub converts : Converts text at p.end
  pub longest : (k : ℕ) → Converts text at k → k ≤ p.end
  pub value : number_of text at ≡ Ok (read_at (value_of text p) p.end)

-- "exponent without digit (offset of the e)": a number starts at a place, its digits, with a point or without, end right before an e at k, and
-- behind the e and a sign or none no digit stands
pub record BareExponent (text : List ℕ) (at k : ℕ) : Type 0 where
  pub whole : ℕ
  pub sign : opt (Sign text) at whole
  pub before : Mantissa text whole k
  pub mark : stands text k exponent_marks ≡ true
  pub behind : (j : ℕ) → opt (Sign text) (k + 1) j → stands text j digits ≡ false
