-- Commands by their letters: a letter, white space and a sequence of arguments; that each command has its letter and a byte; and what the
-- reader's answer says of the production. Assumes nothing.
use Prim.Native.Nat.{ℕ, ◌+◌, ◌<◌}
use mathlib.Core.Path.{◌≡◌, sym, subst}
use mathlib.Core.Bool.{Bool, true, false}
use mathlib.Core.List.{List}
use mathlib.Core.Logic.{◌⊎◌, inl, inr, ⊎_elim}
use native.Mathlib.Omega.{arith}
use lib.Dec.{T}
use Rattle.scan.specs.Bytes.{among, number_starts}
use Rattle.scan.specs.Runs.{stands}
use Rattle.scan.proofs.ByteLaws.{withinb, clash, either_way}
use Rattle.strict_grammar.specs.Spans.{Span, Byte, ◌·◌, star, longest, last, then}
use Rattle.strict_grammar.specs.Grammar.{white_of, wsp, moveto, moveto-argument-sequence, lineto, horizontal-lineto, vertical-lineto, curveto, smooth-curveto}
use Rattle.strict_grammar.specs.Grammar.{quadratic-bezier-curveto, smooth-quadratic-bezier-curveto, closepath, elliptical-arc, drawto-command}
use Rattle.strict_grammar.specs.Words.{Only, Past, Lacks, Goes, past_white_in}
use Rattle.strict_grammar.specs.declared.Edition.{Edition}
use Rattle.strict_grammar.proofs.SpanLaws.{standing, not_byte, not-both, other, wider, star-le, run-same, run-found}
use Rattle.strict_grammar.proofs.Separators.{number-apart}
use Rattle.std.specs.Prelude.{Option, Some, None}
use Rattle.strict_argument.specs.Reading.{argument_of}
use Rattle.strict_argument.specs.declared.groups.Kind.{Kind}
use Rattle.strict_argument.specs.declared.groups.Kind.TheVariants.{Coordinate, Pair, TwoPairs, ThreePairs, Arc}
use Rattle.strict_argument.proofs.Starts.{argument-starts, argument-grows}
use Rattle.strict.specs.Commands.{move_letters, close_letters, letters_of, command_letters, Reaches, Arguments, Item, Further, Command}
use Rattle.strict.proofs.Sequences.{to-star, of-star, items-le}
use Rattle.strict.proofs.Letters.{kinds-apart, close-apart, move-apart, kind-within, halves}

module _ (edition : Edition) (text : List ℕ) where
  not_white : (q : ℕ) → stands text q number_starts ≡ true → stands text q (white_of edition) ≡ false
  not_white q h = other {l = number_starts} (white_of edition) (number-apart edition) (standing number_starts q h)

  -- ---- white space and a sequence of arguments

  module _ (kind : Kind) (i m : ℕ) (found : m ≡ past_white_in edition text i) where
    the-white : longest (star (wsp edition text)) i m
    the-white = subst (λ (y : ℕ). longest (star (wsp edition text)) i y) (sym found) (run-found (white_of edition) text i)

    at-white : (x n : ℕ) → star (wsp edition text) i x → argument_of edition text kind x n → x ≡ m
    at-white x n w p = run-same the-white w (not_white x (argument-starts edition text kind x n p))

    pub arguments-missing : Lacks (argument_of edition text kind) m → Lacks (Arguments edition text kind) i
    arguments-missing h q (x, white, u) =
        let v = to-star u in
        h v.0 (subst (λ (a : ℕ). argument_of edition text kind a v.0) (at-white x v.0 white v.1) v.1)

    pub arguments-past : (j n : ℕ) → Only (argument_of edition text kind) m j → Further edition text kind j n → Past (Arguments edition text kind) (Goes edition text) i n
    arguments-past j n p t = ((m, the-white.0, of-star p.0 t.0), word)
      where
        word : (q : ℕ) → Arguments edition text kind i q → (q ≡ n) ⊎ Goes edition text q
        word q (x, w, u) =
            let v = to-star u in
            let y = p.1 v.0 (subst (λ (a : ℕ). argument_of edition text kind a v.0) (at-white x v.0 w v.1) v.1) in
            t.1 q (subst (λ (a : ℕ). star (Item edition text kind) a q) y v.2)

  arguments-grow : (kind : Kind) (i j : ℕ) → Arguments edition text kind i j → i < j
  arguments-grow kind i j (x, w, u) =
      let v = to-star u in
      let a = star-le w in
      let b = argument-grows edition text kind x v.0 v.1 in
      let c = items-le edition text kind v.0 j v.2 in
      omega arith

  -- ---- a letter, and then the rest

  module _ (class : List ℕ) (R : Span) (i : ℕ) where
    past-letter : (q : ℕ) → (Byte text class · R) i q → R (i + 1) q
    past-letter q (x, b, u) = subst (λ (y : ℕ). R y q) b.next u

    letter-taken : stands text i class ≡ true → (r : Option ℕ) → Reaches R (Goes edition text) (i + 1) r → Reaches (Byte text class · R) (Goes edition text) i r
    letter-taken h (Some end) w = ((i + 1, standing class i h, w.0), λ q v. w.1 q (past-letter q v))
    letter-taken h None w = λ q v. w q (past-letter q v)

    has-letter : T (withinb class command_letters) → (q : ℕ) → (Byte text class · R) i q → stands text i command_letters ≡ true
    has-letter t q v = (wider {m = command_letters} t v.1).there

  -- ---- the moveto, and the drawto-commands by kind

  -- a letter of a kind, and its arguments
  abbrev Drawn : Kind → Span
  Drawn kind = Byte text (letters_of kind) · Arguments edition text kind

  abbrev Moved : Span
  Moved = Byte text move_letters · Arguments edition text Pair

  -- a moveto's arguments are a sequence of pairs
  to-moveto : (i q : ℕ) → Moved i q → moveto edition text i q
  unfolding moveto moveto-argument-sequence
  to-moveto i q (x, b, (y, w, last p)) = (x, b, (y, w, inl p))
  to-moveto i q (x, b, (y, w, then {k = k} {m = m} p c u)) = (x, b, (y, w, inr (k, p, (m, c, u))))

  pub of-moveto : (i q : ℕ) → moveto edition text i q → Moved i q
  unfolding moveto moveto-argument-sequence
  of-moveto i q (x, b, (y, w, inl p)) = (x, b, (y, w, last p))
  of-moveto i q (x, b, (y, w, inr (k, p, (m, c, u)))) = (x, b, (y, w, then p c u))

  -- a drawto-command is a closepath, or a letter of a kind and its arguments
  pub by-letter : (i q : ℕ) → drawto-command edition text i q → Byte text close_letters i q ⊎ ((kind : Kind) × Drawn kind i q)
  unfolding drawto-command closepath lineto horizontal-lineto vertical-lineto curveto smooth-curveto quadratic-bezier-curveto smooth-quadratic-bezier-curveto elliptical-arc among
  by-letter i q (inl b) = inl b
  by-letter i q (inr (inl (x, b, u))) = inr (Pair, (x, wider tt b, u))
  by-letter i q (inr (inr (inl (x, b, u)))) = inr (Coordinate, (x, wider tt b, u))
  by-letter i q (inr (inr (inr (inl (x, b, u))))) = inr (Coordinate, (x, wider tt b, u))
  by-letter i q (inr (inr (inr (inr (inl (x, b, u)))))) = inr (ThreePairs, (x, b, u))
  by-letter i q (inr (inr (inr (inr (inr (inl (x, b, u))))))) = inr (TwoPairs, (x, wider tt b, u))
  by-letter i q (inr (inr (inr (inr (inr (inr (inl (x, b, u)))))))) = inr (TwoPairs, (x, wider tt b, u))
  by-letter i q (inr (inr (inr (inr (inr (inr (inr (inl (x, b, u))))))))) = inr (Pair, (x, wider tt b, u))
  by-letter i q (inr (inr (inr (inr (inr (inr (inr (inr (x, b, u))))))))) = inr (Arc, (x, b, u))

  of-kind : (kind : Kind) (i q : ℕ) → Drawn kind i q → drawto-command edition text i q
  unfolding drawto-command closepath lineto horizontal-lineto vertical-lineto curveto smooth-curveto quadratic-bezier-curveto smooth-quadratic-bezier-curveto elliptical-arc
  of-kind Coordinate i q (x, b, u) = ⊎_elim (λ a. inr (inr (inl (x, a, u)))) (λ a. inr (inr (inr (inl (x, a, u))))) (halves b)
  of-kind Pair i q (x, b, u) =
      ⊎_elim (λ a. inr (inl (x, a, u))) (λ a. inr (inr (inr (inr (inr (inr (inr (inl (x, a, u))))))))) (halves b)
  of-kind TwoPairs i q (x, b, u) =
      ⊎_elim (λ a. inr (inr (inr (inr (inr (inl (x, a, u))))))) (λ a. inr (inr (inr (inr (inr (inr (inl (x, a, u)))))))) (halves b)
  of-kind ThreePairs i q w = inr (inr (inr (inr (inl w))))
  of-kind Arc i q w = inr (inr (inr (inr (inr (inr (inr (inr w)))))))

  of-close : (i q : ℕ) → Byte text close_letters i q → drawto-command edition text i q
  unfolding drawto-command closepath
  of-close i q b = inl b

  -- ---- each command has its letter and a byte

  draw-letter : (i q : ℕ) → drawto-command edition text i q → stands text i command_letters ≡ true
  unfolding among
  draw-letter i q d =
      ⊎_elim (λ b. (wider {l = close_letters} {m = command_letters} tt b).there)
      (λ p. has-letter (letters_of p.0) (Arguments edition text p.0) i (kind-within p.0) q p.1) (by-letter i q d)

  move-letter : (i q : ℕ) → moveto edition text i q → stands text i command_letters ≡ true
  unfolding among
  move-letter i q w = has-letter move_letters (Arguments edition text Pair) i tt q (of-moveto i q w)

  pub command-letter : (begun : Bool) (i q : ℕ) → Command edition text begun i q → stands text i command_letters ≡ true
  command-letter true i q (inl w) = move-letter i q w
  command-letter true i q (inr w) = draw-letter i q w
  command-letter false i q w = move-letter i q w

  lettered-grows : (class : List ℕ) (kind : Kind) (i q : ℕ) → (Byte text class · Arguments edition text kind) i q → i < q
  lettered-grows class kind i q (x, b, u) = let y = b.next in let z = arguments-grow kind x q u in omega arith

  move-grows : (i q : ℕ) → moveto edition text i q → i < q
  move-grows i q w = lettered-grows move_letters Pair i q (of-moveto i q w)

  draw-grows : (i q : ℕ) → drawto-command edition text i q → i < q
  draw-grows i q d =
      ⊎_elim (λ b. let y = b.next in omega arith) (λ p. lettered-grows (letters_of p.0) p.0 i q p.1) (by-letter i q d)

  pub command-grows : (begun : Bool) (i q : ℕ) → Command edition text begun i q → i < q
  command-grows true i q (inl w) = move-grows i q w
  command-grows true i q (inr w) = draw-grows i q w
  command-grows false i q w = move-grows i q w

  -- ---- what the reader answers, by the letter

  module _ (i : ℕ) where
    -- M: a moveto and no other command
    module _ (h : stands text i move_letters ≡ true) where
      no-draw : Lacks (drawto-command edition text) i
      unfolding among
      no-draw q d =
          ⊎_elim (λ b. not-both {l = move_letters} {m = close_letters} tt (standing move_letters i h) b)
          (λ p. not-both (move-apart p.0) (standing move_letters i h) p.1.1) (by-letter i q d)

      moved : (begun : Bool) (q : ℕ) → Command edition text begun i q → Moved i q
      moved true q (inl w) = of-moveto i q w
      moved true q (inr d) = absurd (no-draw q d)
      moved false q w = of-moveto i q w

      of-moved : (begun : Bool) (q : ℕ) → Moved i q → Command edition text begun i q
      of-moved true q w = inl (to-moveto i q w)
      of-moved false q w = to-moveto i q w

      pub moves : (begun : Bool) (r : Option ℕ) → Reaches (Arguments edition text Pair) (Goes edition text) (i + 1) r → Reaches (Command edition text begun) (Goes edition text) i r
      moves begun r w = go r (letter-taken move_letters (Arguments edition text Pair) i h r w)
        where
          go : (r : Option ℕ) → Reaches Moved (Goes edition text) i r → Reaches (Command edition text begun) (Goes edition text) i r
          go (Some end) v = (of-moved begun end v.0, λ q c. v.1 q (moved begun q c))
          go None v = λ q c. v q (moved begun q c)

    -- another letter: no moveto
    no_move : stands text i move_letters ≡ false → Lacks (moveto edition text) i
    no_move h q w = not_byte h (of-moveto i q w).1

    drawn : stands text i move_letters ≡ false → (q : ℕ) → Command edition text true i q → drawto-command edition text i q
    drawn h q (inl w) = absurd (no_move h q w)
    drawn h q (inr d) = d

    close-no-move : stands text i close_letters ≡ true → stands text i move_letters ≡ false
    unfolding among
    close-no-move h = other {l = close_letters} move_letters tt (standing close_letters i h)

    -- Z: one byte
    pub closes : stands text i close_letters ≡ true → Past (Command edition text true) (Goes edition text) i (i + 1)
    closes h = (inr (of-close i (i + 1) (standing close_letters i h)), λ q c. word q (by-letter i q (drawn (close-no-move h) q c)))
      where
        word : (q : ℕ) → Byte text close_letters i q ⊎ ((kind : Kind) × Drawn kind i q) → (q ≡ i + 1) ⊎ Goes edition text q
        word q (inl b) = inl b.next
        word q (inr p) = absurd (not-both (close-apart p.0) (standing close_letters i h) p.1.1)

    pub closes-not-begun : stands text i close_letters ≡ true → Lacks (Command edition text false) i
    closes-not-begun h = no_move (close-no-move h)

    -- a letter that takes arguments
    module _ (kind : Kind) (h : stands text i (letters_of kind) ≡ true) where
      kind-no-move : stands text i move_letters ≡ false
      kind-no-move = ⊎_elim (λ g. absurd (not-both (move-apart kind) (standing move_letters i g) (standing (letters_of kind) i h))) (λ g. g) (either_way (stands text i move_letters))

      same_kind : (q : ℕ) → Byte text close_letters i q ⊎ ((other-kind : Kind) × Drawn other-kind i q) → Drawn kind i q
      same_kind q (inl b) = absurd (not-both (close-apart kind) b (standing (letters_of kind) i h))
      same_kind q (inr (m, v)) =
          ⊎_elim (λ z. subst (λ (y : Kind). Drawn y i q) (sym z) v) (λ t. absurd (not-both t (standing (letters_of kind) i h) v.1)) (kinds-apart kind m)

      pub takes : (r : Option ℕ) → Reaches (Arguments edition text kind) (Goes edition text) (i + 1) r → Reaches (Command edition text true) (Goes edition text) i r
      takes r w = go r (letter-taken (letters_of kind) (Arguments edition text kind) i h r w)
        where
          word : (q : ℕ) → Command edition text true i q → Drawn kind i q
          word q c = same_kind q (by-letter i q (drawn kind-no-move q c))

          go : (r : Option ℕ) → Reaches (Drawn kind) (Goes edition text) i r → Reaches (Command edition text true) (Goes edition text) i r
          go (Some end) v = (inr (of-kind kind i end v.0), λ q c. v.1 q (word q c))
          go None v = λ q c. v q (word q c)

      pub takes-not-begun : Lacks (Command edition text false) i
      takes-not-begun = no_move kind-no-move

    -- no letter of a command
    pub no-letter : (begun : Bool) → stands text i command_letters ≡ false → Lacks (Command edition text begun) i
    no-letter begun h = λ q c. clash (command-letter begun i q c) h
