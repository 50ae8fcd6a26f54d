-- The free tail, by where it starts: before it every state is shut, from it on none is.
use mathlib.Core.Path.{◌≡◌, refl, sym, ap, ◌∙◌}
use mathlib.Core.Bool.{Bool, true, false, ◌&&◌, and-eq-true_iff, false≢true}
use mathlib.Core.List.{List, [], ◌∷◌}
use Prim.Native.Nat.{ℕ, zero, suc, ◌+◌, ◌-◌, ◌<◌, ◌≤◌, zero-le, suc-le-suc}
use native.Mathlib.Nat.{le_of_suc-le-suc, not-suc-le-zero}
use native.Mathlib.Omega.{arith}
use lib.ListN.{length, drop, length-drop}
use lib.Seq.{drop-drop}
use Rattle.flash.specs.Flash.{all_ones}
use Rattle.sector.specs.declared.EntryMapState.{EntryMapState}
use Rattle.opening_reading.specs.Reading.{is_empty, is_free_tail, shut, shut_before_tail}
use Rattle.opening_marks.specs.Marks.{shut_to}

-- the tail of a free tail is one
free_tail_tail : (s : EntryMapState) (states : List EntryMapState) (entry : List ℕ) (entries : List (List ℕ))
    → is_free_tail (s ∷ states) (entry ∷ entries) ≡ true → is_free_tail states entries ≡ true
free_tail_tail s states entry entries e =
    let both = (and-eq-true_iff (is_empty s) (all_ones entry && is_free_tail states entries)).0 e in
    ((and-eq-true_iff (all_ones entry) (is_free_tail states entries)).0 both.1).1

not_free : (free : Bool) → (free ≡ true → ⊥) → free ≡ false
not_free true h = absurd (h refl)
not_free false h = refl

-- no free tail starts before what is none
free_tail_false : (n : ℕ) (states : List EntryMapState) (entries : List (List ℕ)) → n < length states → n < length entries
    → is_free_tail (drop n states) (drop n entries) ≡ false → is_free_tail states entries ≡ false
free_tail_false zero states entries h g e = e
free_tail_false (suc n) [] entries h g e = absurd (not-suc-le-zero h)
free_tail_false (suc n) (s ∷ states) [] h g e = absurd (not-suc-le-zero g)
free_tail_false (suc n) (s ∷ states) (entry ∷ entries) h g e =
    not_free (is_free_tail (s ∷ states) (entry ∷ entries))
    (λ t. false≢true (sym (free_tail_false n states entries (le_of_suc-le-suc h) (le_of_suc-le-suc g) e) ∙ free_tail_tail s states entry entries t))

-- in a free tail nothing is shut
pub shut_free_tail : (states : List EntryMapState) (entries : List (List ℕ)) → is_free_tail states entries ≡ true
    → shut_before_tail states entries ≡ states
shut_free_tail [] entries e = refl
shut_free_tail (s ∷ states) [] e = refl
shut_free_tail (s ∷ states) (entry ∷ entries) e =
    rw e (ap (λ (rest : List EntryMapState). s ∷ rest) (shut_free_tail states entries (free_tail_tail s states entry entries e)))

-- the free tail starts at n
shut_before : (n : ℕ) (states : List EntryMapState) (entries : List (List ℕ)) → n ≤ length states → n ≤ length entries
    → ((i : ℕ) → i < n → is_free_tail (drop i states) (drop i entries) ≡ false) → is_free_tail (drop n states) (drop n entries) ≡ true
    → shut_before_tail states entries ≡ shut_to n states
shut_before zero states entries h g before free = shut_free_tail states entries free
shut_before (suc n) [] entries h g before free = absurd (not-suc-le-zero h)
shut_before (suc n) (s ∷ states) [] h g before free = absurd (not-suc-le-zero g)
shut_before (suc n) (s ∷ states) (entry ∷ entries) h g before free =
    rw (before zero (suc-le-suc zero-le))
    (ap (λ (rest : List EntryMapState). shut s ∷ rest)
    (shut_before n states entries (le_of_suc-le-suc h) (le_of_suc-le-suc g) (λ i l. before (suc i) (suc-le-suc l)) free))

-- all is free after n, and not from n on
pub shut_after : (n : ℕ) (states : List EntryMapState) (entries : List (List ℕ)) → n < length states → n < length entries
    → is_free_tail (drop n states) (drop n entries) ≡ false → is_free_tail (drop (suc n) states) (drop (suc n) entries) ≡ true
    → shut_before_tail states entries ≡ shut_to (suc n) states
shut_after n states entries h g taken free = shut_before (suc n) states entries h g before free
  where
    before : (i : ℕ) → i < suc n → is_free_tail (drop i states) (drop i entries) ≡ false
    before i l =
        let there : i + (n - i) ≡ n = omega arith in
        free_tail_false (n - i) (drop i states) (drop i entries)
        (rw (length-drop i states) (omega arith))
        (rw (length-drop i entries) (omega arith))
        (rw (drop-drop (n - i) i states, drop-drop (n - i) i entries, there) taken)
