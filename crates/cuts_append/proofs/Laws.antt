-- Laws of the first number at which a test fails, of cuts that are found alike, and of the curve.
use Rattle.std.proofs.Common.{◌≡◌, refl, sym, ap, ℕ, suc, zero, ◌+◌, ◌-◌, ◌<◌, ◌≤◌, max, Bool, true, false, Option, Some, None, unwrap_or, MatchOption, [], ◌∷◌, ◌++◌, ◌%◌, add-one, arith, ⊎_elim}
use Rattle.std.proofs.lemmas.Grind.{take-set_at}
use native.Mathlib.Nat.{eq-or-lt_of_le}
use Rattle.cuts_append.specs.Cutting.{first_not, Found, Absent, Whole, Otherwise, same_found, curve}

-- every number before r passes, and r does not, or is past the last
pub first_is : (test : ℕ → Bool) (n more r : ℕ) → n ≤ r → r ≤ n + more → ((k : ℕ) → n ≤ k → k < r → test k ≡ true) → (r < n + more → test r ≡ false)
    → first_not test n more ≡ r
unfolding first_not
first_is test n zero r h g before here = omega arith
first_is test n (suc more) r h g before here =
    ⊎_elim
    (λ e. let e' : r ≡ n = sym e in rw (← e', here (omega arith)) refl)
    (λ l. rw (before n (omega arith) l) (first_is test (n + 1) more r (omega arith) (omega arith) (λ k a b. before k (omega arith) b) (λ a. here (omega arith))))
    (eq-or-lt_of_le h)

-- what a search of the numbers from `first` to `last` finds: the first that fails, or none; `top` is the greater of these two
abbrev pub Finds : (ℕ → Type 0) → (ℕ → Type 0) → ℕ → ℕ → Option ℕ → Type 0
Finds Passes Fails first last found =
    MatchOption found ((k : ℕ) → first ≤ k → k < last → Passes k)
    (λ r. (first ≤ r) × (r < last) × Fails r × ((k : ℕ) → first ≤ k → k < r → Passes k))

module _ (test : ℕ → Bool) (first last top : ℕ) (is_top : top ≡ max first last) where
  pub first_found : (found : Option ℕ) → Finds (λ n. test n ≡ true) (λ n. test n ≡ false) first last found
      → unwrap_or found top ≡ first_not test first (last - first)
  first_found None h =
      sym (first_is test first (last - first) top (omega arith) (omega arith) (λ k a b. h k a (omega arith)) (λ g. absurd (omega arith)))
  first_found (Some r) h = sym (first_is test first (last - first) r h.0 (omega arith) h.3 (λ g. h.2))

-- ---- cuts that are found alike

found_same : (a b : Found) → a ≡ b → same_found a b ≡ true
found_same Absent b e = rw (← e)
found_same Whole b e = rw (← e)
found_same Otherwise b e = rw (← e)

found_other : (a b : Found) → (b ≡ a → ⊥) → same_found a b ≡ false
found_other Absent Absent h = absurd (h refl)
found_other Absent Whole h = refl
found_other Absent Otherwise h = refl
found_other Whole Absent h = refl
found_other Whole Whole h = absurd (h refl)
found_other Whole Otherwise h = refl
found_other Otherwise Absent h = refl
found_other Otherwise Whole h = refl
found_other Otherwise Otherwise h = absurd (h refl)

module _ (f : ℕ → Found) (first last top : ℕ) (is_top : top ≡ max first last) where
  run : (r : ℕ) → ((k : ℕ) → first ≤ k → k < r → f (k + 1) ≡ f first) → (k : ℕ) → first ≤ k → k ≤ r → f k ≡ f first
  run r passes zero h g = ap f (omega arith)
  run r passes (suc k) h g =
      ⊎_elim (λ e. ap f (sym e)) (λ l. rw add-one at (passes k (omega arith) (omega arith))) (eq-or-lt_of_le h)

  -- up to what is found all are found as the first is
  pub found_alike : (found : Option ℕ) → Finds (λ n. f (n + 1) ≡ f first) (λ n. f (n + 1) ≡ f first → ⊥) first last found
      → (k : ℕ) → first ≤ k → k ≤ unwrap_or found top → f k ≡ f first
  found_alike None h k a b = run top (λ k a b. h k a (omega arith)) k a b
  found_alike (Some r) h k a b = run r h.3 k a b

  -- and it is the last
  pub found_last : (found : Option ℕ) → Finds (λ n. f (n + 1) ≡ f first) (λ n. f (n + 1) ≡ f first → ⊥) first last found
      → unwrap_or found top ≡ first_not (λ n. same_found (f first) (f (n + 1))) first (last - first)
  found_last found h = first_found (λ n. same_found (f first) (f (n + 1))) first last top is_top found (go found h)
    where
      go : (found : Option ℕ) → Finds (λ n. f (n + 1) ≡ f first) (λ n. f (n + 1) ≡ f first → ⊥) first last found
          → Finds (λ n. same_found (f first) (f (n + 1)) ≡ true) (λ n. same_found (f first) (f (n + 1)) ≡ false) first last found
      go None h = λ k a b. found_same _ _ (sym (h k a b))
      go (Some r) h = (h.0, h.1, found_other _ _ h.2, λ k a b. found_same _ _ (sym (h.3 k a b)))

-- ---- the curve

pub curve_none : [] ≡ curve 0
unfolding curve
curve_none = refl

pub curve_more : (n : ℕ) → curve (n + 1) ≡ curve n ++ (n % 251 ∷ [])
unfolding curve
curve_more n = rw (add-one n)

pub ruleset curve_steps = (curve_none, curve_more, take-set_at)
