-- Laws of the hash bound: entries to be passed are dropped, one turn of the walk, and how large it is.
use mathlib.Core.Path.{◌≡◌, refl, sym, ap, ◌∙◌}
use mathlib.Core.Bool.{Bool, true, false, cond, false≢true}
use mathlib.Core.List.{List, [], ◌∷◌}
use Prim.Native.Nat.{ℕ, zero, suc, ◌+◌, ◌≤◌, ◌<◌}
use native.Mathlib.Numerals.{add-one}
use native.Mathlib.Omega.{arith}
use lib.Dec.{eqb}
use lib.ListN.{length, get_or, drop}
use lib.Seq.{drop-cons, drop-drop}
use Rattle.sector.specs.declared.EntryMapState.{EntryMapState}
use Rattle.sector.specs.declared.EntryMapState.TheVariants.{Empty, Written, Erased, Illegal}
use Rattle.sector.specs.Layout.{namespace_of}
use Rattle.sector.specs.Map.{same_state}
use Rattle.call_hash_bound.specs.Bound.{passed_behind, count_of, bound_from}

-- ---- entries to be passed

bound_nil : (k : ℕ) (states : List EntryMapState) → bound_from k states [] ≡ 0
unfolding bound_from
bound_nil k [] = refl
bound_nil k (s ∷ states) = refl

-- k entries that are still to be passed are dropped
pub bound_drop : (k : ℕ) (states : List EntryMapState) (entries : List (List ℕ))
    → bound_from k states entries ≡ bound_from zero (drop k states) (drop k entries)
unfolding bound_from
bound_drop zero states entries = refl
bound_drop (suc k) [] entries = refl
bound_drop (suc k) (s ∷ states) [] = sym (bound_nil zero (drop k states))
bound_drop (suc k) (s ∷ states) (entry ∷ entries) = bound_drop k states entries

-- ---- one turn

other_cons : (s : EntryMapState) (states : List EntryMapState) (entry : List ℕ) (entries : List (List ℕ))
    → same_state Written s ≡ false → bound_from zero (s ∷ states) (entry ∷ entries) ≡ bound_from zero states entries
unfolding bound_from
other_cons Empty states entry entries h = refl
other_cons Written states entry entries h = absurd (false≢true (sym h))
other_cons Erased states entry entries h = refl
other_cons Illegal states entry entries h = refl

written_cons : (s : EntryMapState) (states : List EntryMapState) (entry : List ℕ) (entries : List (List ℕ))
    → same_state Written s ≡ true
    → bound_from zero (s ∷ states) (entry ∷ entries) ≡ count_of entry + bound_from (passed_behind entry entries) states entries
unfolding bound_from
written_cons Empty states entry entries h = absurd (false≢true h)
written_cons Written states entry entries h = refl
written_cons Erased states entry entries h = absurd (false≢true h)
written_cons Illegal states entry entries h = absurd (false≢true h)

module _ (states : List EntryMapState) (entries : List (List ℕ)) (i : ℕ) (in_states : i < length states) (in_entries : i < length entries) where
  -- an entry that is not Written is stepped over
  pub bound_other : same_state Written (get_or states i Empty) ≡ false
      → bound_from zero (drop i states) (drop i entries) ≡ bound_from zero (drop (i + 1) states) (drop (i + 1) entries)
  bound_other h =
      rw (add-one i, drop-cons states i Empty in_states, drop-cons entries i [] in_entries)
      (other_cons (get_or states i Empty) (drop (suc i) states) (get_or entries i []) (drop (suc i) entries) h)

  -- a Written one is counted, and its span is passed
  pub bound_written : same_state Written (get_or states i Empty) ≡ true
      → let entry = get_or entries i [] in
      let next = i + 1 + passed_behind entry (drop (i + 1) entries) in
      bound_from zero (drop i states) (drop i entries) ≡ count_of entry + bound_from zero (drop next states) (drop next entries)
  bound_written h =
      let entry = get_or entries i [] in
      let passed = passed_behind entry (drop (suc i) entries) in
      rw (add-one i, ← drop-drop passed (suc i) states, ← drop-drop passed (suc i) entries, drop-cons states i Empty in_states, drop-cons entries i [] in_entries)
      (written_cons (get_or states i Empty) (drop (suc i) states) entry (drop (suc i) entries) h
      ∙ ap (λ (n : ℕ). count_of entry + n) (bound_drop passed (drop (suc i) states) (drop (suc i) entries)))

-- ---- how large it is

pub count_of_le : (entry : List ℕ) → count_of entry ≤ 1
count_of_le entry = go (eqb (namespace_of entry) 0)
  where
    go : (b : Bool) → cond b 0 1 ≤ 1
    go true = omega arith
    go false = omega arith

-- no more than there are entries
pub bound_le : (k : ℕ) (states : List EntryMapState) (entries : List (List ℕ)) → bound_from k states entries ≤ length states
unfolding bound_from
bound_le k [] entries = omega arith
bound_le k (s ∷ states) [] = omega arith
bound_le (suc k) (s ∷ states) (entry ∷ entries) = omega (arith, bound_le k states entries)
bound_le zero (Written ∷ states) (entry ∷ entries) =
    omega (arith, count_of_le entry, bound_le (passed_behind entry entries) states entries)
bound_le zero (Empty ∷ states) (entry ∷ entries) = omega (arith, bound_le zero states entries)
bound_le zero (Erased ∷ states) (entry ∷ entries) = omega (arith, bound_le zero states entries)
bound_le zero (Illegal ∷ states) (entry ∷ entries) = omega (arith, bound_le zero states entries)
