-- `decimal_product::products::cut` meets its contract: `Parts` has the sizes of the product's parts, and each answer is a law of `Cutting`. Assumes nothing.
use mathlib.Core.Path.{◌≡◌, refl, subst}
use mathlib.Core.Logic.{◌⊎◌, inl, inr, ⊎_elim}
use Prim.Native.Nat.{ℕ, zero, suc, ◌≤◌}
use native.Mathlib.Omega.{arith}
use borrow.Author.Rules.{rules}
use Rattle.decimal_product.specs.Near.{Says}
use Rattle.decimal_product.specs.declared.products.Near.TheVariants.{Bits}
use Rattle.decimal_product.proofs.Cutting.{Parts, parts, cut_down, cut_up, cut-between}
use Rattle.decimal_product.proofs.products.cut.Goals as goal

either : (n : ℕ) → n ≤ 1 → (n ≡ 0) ⊎ (n ≡ 1)
either zero h = inl refl
either (suc zero) h = inr refl
either (suc (suc n)) h = absurd (omega arith)

pub overflow_sub-rest : goal.overflow_sub-rest
overflow_sub-rest c = let p = (let known_here : Parts c.args.product c.args.dropped = parts c.args.product c.args.dropped c.ranges.product.fits c.requires.0 c.requires.1 c.requires.3 in known_here) in omega (arith, p.back, p.under)

pub is_above-above-requires : goal.is_above-above-requires
is_above-above-requires c = let p = (let known_here : Parts c.args.product c.args.dropped = parts c.args.product c.args.dropped c.ranges.product.fits c.requires.0
    c.requires.1 c.requires.3 in known_here) in (omega (arith, p.back, p.rest_lt, p.twice, p.narrow), omega (arith, p.half, p.narrow))

pub overflow_add-rest : goal.overflow_add-rest
overflow_add-rest c = let p = (let known_here : Parts c.args.product c.args.dropped = parts c.args.product c.args.dropped c.ranges.product.fits c.requires.0 c.requires.1
    c.requires.3 in known_here) in record { fits = omega (arith, p.back, p.rest_lt, p.twice, p.narrow) }

pub is_above-reaches-requires : goal.is_above-reaches-requires
is_above-reaches-requires c = let p = (let known_here : Parts c.args.product c.args.dropped = parts c.args.product c.args.dropped c.ranges.product.fits c.requires.0
    c.requires.1 c.requires.3 in known_here) in (omega (arith, p.back, p.rest_lt, p.twice, p.narrow), omega (arith, p.half, p.narrow))

pub returns-then-above-reaches : goal.returns-then-above-reaches
returns-then-above-reaches c =
    let p = (let known_here : Parts c.args.product c.args.dropped = parts c.args.product c.args.dropped c.ranges.product.fits c.requires.0 c.requires.1 c.requires.3 in known_here) in
    record {
      said = λ s num den u g D G e B.
          cut-between c.args.product c.args.dropped c.args.k p c.requires.2 c.requires.4 s num den u g D G e B
          (omega (arith, c.if-above-reaches.true, c.is_above-above.ensures.1, c.is_above-reaches.ensures.0, p.back, p.half));
    }

pub overflow_add-result : goal.overflow_add-result
overflow_add-result c = record { fits = omega (arith, ((let known_here : Parts c.args.product c.args.dropped = parts c.args.product c.args.dropped c.ranges.product.fits c.requires.0 c.requires.1 c.requires.3 in known_here)).few) }

pub overflow_add-result-2 : goal.overflow_add-result-2
overflow_add-result-2 c = record {
  fits = omega (
    arith,
    ((let known_here : Parts c.args.product c.args.dropped = parts c.args.product c.args.dropped
        c.ranges.product.fits c.requires.0 c.requires.1 c.requires.3 in known_here)).few,
    c.is_above-above.ensures.0,
  );
}

-- neither or both reach above the half
pub returns : goal.returns
returns c =
    let p = (let known_here : Parts c.args.product c.args.dropped = parts c.args.product c.args.dropped c.ranges.product.fits c.requires.0 c.requires.1 c.requires.3 in known_here) in
    record {
      said = λ s num den u g D G e B.
          ⊎_elim
          (λ z. subst (λ (n : ℕ). Says (Bits n) s num den) (omega arith)
          (cut_down c.args.product c.args.dropped c.args.k p c.requires.2 c.requires.4 s num den u g D G e B
          (omega (arith, z, c.if-above-reaches.false, c.is_above-reaches.ensures.0, c.is_above-reaches.ensures.1, p.back, p.half))))
          (λ z. subst (λ (n : ℕ). Says (Bits n) s num den) (omega arith)
          (cut_up c.args.product c.args.dropped c.args.k p c.requires.2 c.requires.4 s num den u g D G e B
          (omega (arith, z, c.is_above-above.ensures.2, p.back, p.half))))
          (either _ c.is_above-above.ensures.0);
    }
