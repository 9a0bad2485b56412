-- `decimal_product::products::nearest` meets its contract: the leading digits, moved up, times the power's leading digits, bracket the number. Assumes nothing.
use mathlib.Core.Path.{◌≡◌, refl, ap, sym, ◌∙◌, subst}
use Prim.Native.Nat.{ℕ, ◌+◌, ◌-◌, ◌*◌, ◌/◌, ◌%◌, ◌^◌, ◌≤◌, ◌<◌}
use native.Mathlib.Omega.{arith}
use borrow.Author.Rules.{rules}
use lib.Count.{count_leading_zeros}
use Rattle.decimal_tens.proofs.Entries.{Leads, leads}
use Rattle.decimal_product.specs.Near.{High}
use Rattle.decimal_product.proofs.Leading.{Raised, raised, under-60, bracket}
use Rattle.decimal_product.proofs.products.nearest.Goals as goal

pub overflow_cast-moved : goal.overflow_cast-moved
overflow_cast-moved c = record { fits = omega (arith, ((let lifted_here : Raised c.args.w (count_leading_zeros 64 c.args.w) = raised c.args.w c.requires.0 c.ranges.w.fits in lifted_here)).few) }

pub overflow_shl-w : goal.overflow_shl-w
overflow_shl-w c = ((let lifted_here : Raised c.args.w (count_leading_zeros 64 c.args.w) = raised c.args.w c.requires.0 c.ranges.w.fits in lifted_here)).few

pub high-product-requires : goal.high-product-requires
high-product-requires c = ((let power_here : Leads c.args.place c.tens.result = subst (λ (p : ℕ). Leads c.args.place p) (sym c.tens.ensures) (leads c.args.place c.requires.1) in power_here)).small

pub overflow_cast-moved-2 : goal.overflow_cast-moved-2
overflow_cast-moved-2 c = record { fits = omega (arith, ((let lifted_here : Raised c.args.w (count_leading_zeros 64 c.args.w) = raised c.args.w c.requires.0 c.ranges.w.fits in lifted_here)).few) }

pub settle-requires : goal.settle-requires
settle-requires c =
    let l = (let lifted_here : Raised c.args.w (count_leading_zeros 64 c.args.w) = raised c.args.w c.requires.0 c.ranges.w.fits in lifted_here) in
    let p = (let power_here : Leads c.args.place c.tens.result = subst (λ (p : ℕ). Leads c.args.place p) (sym c.tens.ensures) (leads c.args.place c.requires.1) in power_here) in
    let m = (let multiplied_here : High (c.args.w * 2 ^ count_leading_zeros 64 c.args.w) c.tens.result c.high-product.result = subst (λ (x : ℕ). High x c.tens.result
    c.high-product.result) ((let lifted_here : Raised c.args.w (count_leading_zeros 64 c.args.w) = raised c.args.w c.requires.0 c.ranges.w.fits in lifted_here)).back c.high-product.ensures in multiplied_here) in
    (m.full l.full p.full, under-60 _ _ _ l.fits p.small m, l.few, c.requires.1)

pub returns : goal.returns
returns c =
    let l = (let lifted_here : Raised c.args.w (count_leading_zeros 64 c.args.w) = raised c.args.w c.requires.0 c.ranges.w.fits in lifted_here) in
    record {
      said = λ s num den D h. c.settle.ensures.said s num den D (bracket _ _ _ _ _ num den c.requires.0 D l ((let power_here : Leads c.args.place c.tens.result = subst
          (λ (p : ℕ). Leads c.args.place p) (sym c.tens.ensures) (leads c.args.place c.requires.1) in
          power_here)) ((let multiplied_here : High (c.args.w * 2 ^ count_leading_zeros 64 c.args.w) c.tens.result c.high-product.result = subst (λ (x : ℕ). High x
          c.tens.result c.high-product.result) ((let lifted_here : Raised c.args.w (count_leading_zeros 64 c.args.w) = raised c.args.w c.requires.0 c.ranges.w.fits in lifted_here)).back c.high-product.ensures in multiplied_here)) h);
    }
