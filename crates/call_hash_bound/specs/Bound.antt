-- Hash bound (01, 'Hash bound'): the walk from header to header over the states and the entries side by side.
use Rattle.std.specs.Prelude.{◌&&◌, cond, List, [], ◌∷◌, ℕ, zero, suc, ◌+◌, ◌-◌, eqb, leb, length}
use Rattle.sector.specs.declared.EntryMapState.{EntryMapState}
use Rattle.sector.specs.declared.EntryMapState.TheVariants.{Empty, Written, Erased, Illegal}
use Rattle.sector.specs.Layout.{namespace_of, span_of}
use Rattle.sector.specs.Map.{states_of}

-- entries to pass after a Written one: its span less 1 if that is at least 1 and fits, else none
abbrev pub passed_behind : List ℕ → List (List ℕ) → ℕ
passed_behind entry rest = cond (leb 1 (span_of entry) && leb (span_of entry - 1) (length rest)) (span_of entry - 1) 0

-- one if the namespace is not 0
abbrev pub count_of : List ℕ → ℕ
count_of entry = cond (eqb (namespace_of entry) 0) 0 1

-- k entries are still to be passed
unfoldable pub bound_from : ℕ → List EntryMapState → List (List ℕ) → ℕ
bound_from k [] entries = 0
bound_from k (s ∷ states) [] = 0
bound_from (suc k) (s ∷ states) (entry ∷ entries) = bound_from k states entries
bound_from zero (Written ∷ states) (entry ∷ entries) = count_of entry + bound_from (passed_behind entry entries) states entries
bound_from zero (Empty ∷ states) (entry ∷ entries) = bound_from zero states entries
bound_from zero (Erased ∷ states) (entry ∷ entries) = bound_from zero states entries
bound_from zero (Illegal ∷ states) (entry ∷ entries) = bound_from zero states entries

unfoldable pub hash_bound : List ℕ → List (List ℕ) → ℕ
hash_bound map entries = bound_from zero (states_of map) entries
