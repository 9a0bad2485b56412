-- The four sums of the test, from the sides that the code holds. Assumes nothing.
use mathlib.Core.Path.{◌≡◌, ap, ◌∙◌}
use Prim.Native.Nat.{ℕ, ◌+◌, ◌*◌}
use mathlib.Core.Bool.{Bool, cond}
use Rattle.atan2_rule.specs.Steps.{cosine_up, cosine_down, sine_up, sine_down, ahead, behind, along, against, passes_at}
use Rattle.atan2.specs.Sums.{SumsAt, judged_of}

module _ {R cu cd su sd : ℕ} (s : SumsAt R cu cd su sd) where
  sine-picked : (b : Bool) → cond b su sd ≡ cond b (sine_up R) (sine_down R)
  sine-picked b = ap (λ (n : ℕ). cond b n sd) s.sine-up ∙ ap (λ (n : ℕ). cond b (sine_up R) n) s.sine-down

  sine-other : (b : Bool) → cond b sd su ≡ cond b (sine_down R) (sine_up R)
  sine-other b = ap (λ (n : ℕ). cond b n su) s.sine-down ∙ ap (λ (n : ℕ). cond b (sine_down R) n) s.sine-up

  pub ahead-is : (u v : ℕ) (same : Bool) {p A : ℕ} → p ≡ cond same sd su → A ≡ u * cu + v * p → A ≡ ahead u v same R
  unfolding ahead
  ahead-is u v same {p} e f = f ∙ ap (λ (n : ℕ). u * n + v * p) s.cosine-up ∙ ap (λ (n : ℕ). u * cosine_up R + v * n) (e ∙ sine-other same)

  pub behind-is : (u v : ℕ) (same : Bool) {p A : ℕ} → p ≡ cond same su sd → A ≡ u * cd + v * p → A ≡ behind u v same R
  unfolding behind
  behind-is u v same {p} e f = f ∙ ap (λ (n : ℕ). u * n + v * p) s.cosine-down ∙ ap (λ (n : ℕ). u * cosine_down R + v * n) (e ∙ sine-picked same)

  -- the test on the sides is the definition's
  pub judged-is : (u v left flip : ℕ) → judged_of u v left flip cu cd su sd ≡ passes_at u v left flip R
  unfolding ahead behind along against
  judged-is u v left flip = rw (s.cosine-up, s.cosine-down, s.sine-up, s.sine-down)
