-- Laws of words: numbers digit by digit.
use Rattle.std.proofs.Common.{◌≡◌, refl, ◌∙◌, ℕ, ◌+◌, ◌*◌, ◌<◌, ◌≤◌, cond, ◌&&◌, ltb, leb, List, length, get_or, drop, Some, None, add-one, drop-cons, arith}
use Rattle.std.proofs.Math.Seq.{drop-length}
use Rattle.std.proofs.lemmas.Bool.Decides.{nat_tests}
use Rattle.std.specs.Char.{digit_value}
use borrow.Author.Tests.{lt-ltb, le-ltb, le-leb, lt-leb}
use Rattle.cuts_request.specs.Words.{digit_of, digits_from}

-- ---- one digit

-- of a base up to 16 the same bytes are digits, and stand for the same
digit_same : (base byte : ℕ) → base ≤ 16 → digit_value byte < base → digit_value byte ≡ digit_of byte
digit_same base byte h g = grind (arith, nat_tests)

digit_none : (base byte : ℕ) → base ≤ 16 → base ≤ digit_value byte → base ≤ digit_of byte
digit_none base byte h g = grind (arith, nat_tests)

-- ---- the digit at i decides

-- past the last digit
pub digits_end : (base most value : ℕ) (text : List ℕ) (i : ℕ) → i ≡ length text → digits_from base most value (drop i text) ≡ Some value
unfolding digits_from
digits_end base most value text i e = rw (e, drop-length text)

digits_step : (base most value digit : ℕ) (text : List ℕ) (i : ℕ) → i < length text → digit ≡ digit_of (get_or text i 0)
    → digits_from base most value (drop i text)
    ≡ cond (ltb digit base && leb (value * base + digit) most) (digits_from base most (value * base + digit) (drop (i + 1) text)) None
unfolding digits_from
digits_step base most value digit text i inside e = rw (e, add-one i, drop-cons text i 0 inside)

module _ (base most value : ℕ) (text : List ℕ) (i : ℕ) (inside : i < length text) (small : base ≤ 16) where
  -- no digit of the base
  pub digits_bad : base ≤ digit_value (get_or text i 0) → digits_from base most value (drop i text) ≡ None
  digits_bad h =
      let digit = digit_of (get_or text i 0) in
      rw (le-ltb digit base (digit_none base (get_or text i 0) small h)) at (digits_step base most value digit text i inside refl)

  module _ (digit : ℕ) (is_digit : digit ≡ digit_value (get_or text i 0)) (below : digit < base) where
    passed : digits_from base most value (drop i text)
        ≡ cond (leb (value * base + digit) most) (digits_from base most (value * base + digit) (drop (i + 1) text)) None
    passed =
        rw (lt-ltb digit base below) at
        (digits_step base most value digit text i inside (is_digit ∙ digit_same base (get_or text i 0) small (omega arith)))

    -- one that makes the number too large
    pub digits_over : most < value * base + digit → digits_from base most value (drop i text) ≡ None
    digits_over h = rw (lt-leb (value * base + digit) most h) at passed

    -- one that fits
    pub digits_more : value * base + digit ≤ most
        → digits_from base most value (drop i text) ≡ digits_from base most (value * base + digit) (drop (i + 1) text)
    digits_more h = rw (le-leb (value * base + digit) most h) at passed

pub ruleset digits = (digits_end, digits_bad, digits_over, digits_more)
