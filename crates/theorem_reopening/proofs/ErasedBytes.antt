-- The reading ignores the bytes of Erased entries: a purge, which zeroes such entries, changes neither what is kept nor what opening leaves.
--
-- In order: entries that differ at Erased places alone; the rules over both; the theorem; a closed front over both.
use mathlib.Core.Path.{◌≡◌, refl, ap}
use mathlib.Core.Bool.{Bool, true, false, false≢true, and-eq-true_iff}
use mathlib.Core.List.{List, [], ◌∷◌}
use Rattle.std.specs.Prelude.{Option, Some, None}
use Prim.Native.Nat.{ℕ, zero, suc}
use lib.ListN.{length, take}
use Rattle.sector.specs.declared.EntryMapState.{EntryMapState}
use Rattle.sector.specs.declared.EntryMapState.TheVariants.{Erased}
use Rattle.opening_reading.specs.declared.Reason.{Reason}
use Rattle.opening_reading.specs.declared.Reason.TheVariants.{CoveredNotUsable}
use Rattle.opening_reading.specs.Reading.{header_refusal, payload_refusal, is_usable, usable, kept_from, opened_states}
use Rattle.opening_reading.proofs.Verdicts.{States, Entries, Whole, Good, Spoiled}
use Rattle.theorem_reopening.proofs.Course.{Course, ends, meets_empty, meets_erased, meets_illegal, refuses_entry, refuses_item, keeps_item, erases_behind, keeps_behind, goes_further, course}
use Rattle.opening_reading.proofs.Midway.{is_erased, is_illegal, Midway, midway_alike, midway_kept}
use Rattle.theorem_reopening.proofs.Closed.{Closed, closed_nil, closed_erased, closed_header, closed_covered, good_closed}

-- ---- entries that differ at Erased places alone

pub data SameButErased : States → Entries → Entries → Type 0 where
  same_nil : SameButErased [] [] []
  same_erased : {states : States} {bytes entries : Entries} (other entry : List ℕ) → SameButErased states bytes entries
      → SameButErased (Erased ∷ states) (other ∷ bytes) (entry ∷ entries)
  same_cons : {states : States} {bytes entries : Entries} (s : EntryMapState) (entry : List ℕ) → SameButErased states bytes entries
      → SameButErased (s ∷ states) (entry ∷ bytes) (entry ∷ entries)

length_same : {states : States} {bytes entries : Entries} → SameButErased states bytes entries → length bytes ≡ length entries
length_same same_nil = refl
length_same (same_erased other entry d) = ap suc (length_same d)
length_same (same_cons s entry d) = ap suc (length_same d)

take_same : {states : States} {bytes entries : Entries} (k : ℕ) → usable k states ≡ true → SameButErased states bytes entries → take k bytes ≡ take k entries
take_same zero u d = refl
take_same (suc k) u same_nil = refl
take_same (suc k) u (same_erased other entry d) = cc
take_same (suc k) u (same_cons {states} s entry d) =
    ap (λ (entries : Entries). entry ∷ entries) (take_same k ((and-eq-true_iff (is_usable s) (usable k states)).0 u).1 d)

-- ---- the rules over both

whole_same : {entry : List ℕ} {k : ℕ} {states : States} {bytes entries : Entries} → SameButErased states bytes entries → usable k states ≡ true
    → Whole entry k entries → Whole entry k bytes
whole_same {k = k} d u w = record { header = rw (length_same d) w.header; span = w.span; payload = rw (take_same k u d) w.payload }

good_same : {entry : List ℕ} {k : ℕ} {states : States} {bytes entries : Entries} → SameButErased states bytes entries
    → Good entry k states entries → Good entry k states bytes
good_same d g = record { whole = whole_same d g.clear g.whole; clear = g.clear }

-- a refused item stays refused; where a covered entry is Erased the reason may be another
spoiled_same : {reason : Reason} {entry : List ℕ} {k : ℕ} {states : States} {bytes entries : Entries} → SameButErased states bytes entries
    → Spoiled reason entry k states entries → (other : Reason) × Spoiled other entry k states bytes
spoiled_same {reason} {entry} {k} {states} {bytes} {entries} d s = by (usable k states) refl (payload_refusal entry (take k bytes)) refl
  where
    header : header_refusal entry (length bytes) ≡ None
    header = rw (length_same d) s.header

    by : (clear : Bool) → usable k states ≡ clear → (payload : Option Reason) → payload_refusal entry (take k bytes) ≡ payload
        → (other : Reason) × Spoiled other entry k states bytes
    by true u p e = (reason, record { header = header; span = s.span; refused = rw (take_same k u d) s.refused })
    by false u None e = (CoveredNotUsable, record { header = header; span = s.span; refused = rw (e, u) })
    by false u (Some other) e = (other, record { header = header; span = s.span; refused = rw e })

-- ---- the theorem

midway_same : {k : ℕ} {mark : EntryMapState} {states : States} {bytes entries : Entries} → Course k mark states entries → SameButErased states bytes entries
    → Midway k k mark states states bytes entries
midway_same ends same_nil = Midway.ends
midway_same (meets_empty entry c) (same_cons _ _ d) = Midway.still_empty entry (midway_same c d)
midway_same (meets_erased entry c) (same_cons _ _ d) = Midway.shut_gone entry entry is_erased is_erased (midway_same c d)
midway_same (meets_erased entry c) (same_erased other _ d) = Midway.shut_gone other entry is_erased is_erased (midway_same c d)
midway_same (meets_illegal entry c) (same_cons _ _ d) = Midway.shut_gone entry entry is_illegal is_illegal (midway_same c d)
midway_same (refuses_entry entry e c) (same_cons _ _ d) = Midway.refuses_entry entry (length_same d) e (midway_same c d)
midway_same (refuses_item entry s c) (same_cons _ _ d) = Midway.refuses_item entry (spoiled_same d s).1 s (midway_same c d)
midway_same (keeps_item {k} entry g c) (same_cons _ _ d) = Midway.keeps_item entry (good_same d g) g (take_same k g.clear d) (midway_same c d)
midway_same (erases_behind s entry c) (same_cons _ _ d) = Midway.erases_behind s s entry entry (midway_same c d)
midway_same (erases_behind s entry c) (same_erased other _ d) = Midway.erases_behind Erased Erased other entry (midway_same c d)
midway_same (keeps_behind s entry u c) (same_cons _ _ d) = Midway.keeps_behind s s entry (midway_same c d)
midway_same (keeps_behind s entry u c) (same_erased other _ d) = absurd (false≢true u)
midway_same (goes_further c) d = Midway.goes_further (midway_same c d)

-- what opening leaves does not depend on the bytes of Erased entries
pub opened_states_same : {states : States} {bytes entries : Entries} → length states ≡ length entries → SameButErased states bytes entries
    → opened_states states bytes ≡ opened_states states entries
unfolding opened_states
opened_states_same {states} {bytes} {entries} l d = (midway_alike (midway_same (course states entries l) d)).left

-- nor do the items that it keeps
pub kept_from_same : {states : States} {bytes entries : Entries} (i : ℕ) → length states ≡ length entries → SameButErased states bytes entries
    → kept_from zero i states bytes ≡ kept_from zero i states entries
kept_from_same {states} {bytes} {entries} i l d = midway_kept i (midway_same (course states entries l) d)

-- ---- a closed front over both
pub closed_same : {k : ℕ} {front : States} {bytes entries : Entries} → Closed k front entries → SameButErased front bytes entries → Closed k front bytes
closed_same closed_nil same_nil = closed_nil
closed_same (closed_erased entry c) (same_cons _ _ d) = closed_erased entry (closed_same c d)
closed_same (closed_erased entry c) (same_erased other _ d) = closed_erased other (closed_same c d)
closed_same (closed_header entry w c) (same_cons _ _ d) = closed_header entry (whole_same d (good_closed w c).clear w) (closed_same c d)
closed_same (closed_covered entry c) (same_cons _ _ d) = closed_covered entry (closed_same c d)
