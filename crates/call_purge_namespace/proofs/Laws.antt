-- Laws of purge by namespace: the walk, and the entries that it marks, turn by turn.
use mathlib.Core.Path.{◌≡◌, sym}
use mathlib.Core.Bool.{Bool, false, cond}
use mathlib.Core.List.{List, [], ◌∷◌, ◌++◌, append_assoc}
use Prim.Native.Nat.{ℕ, zero, suc, ◌+◌, ◌-◌, ◌≤◌, ◌<◌}
use native.Mathlib.Numerals.{add-one}
use native.Mathlib.Omega.{arith}
use lib.ListN.{length, take, drop, get_or, set, replicate, drop_of_length-le}
use lib.Seq.{drop-cons, take-suc-set}
use Rattle.flash.specs.Flash.{units, run}
use Rattle.flash.proofs.Laws.{run_append}
use Rattle.sector.specs.declared.EntryMapState.TheVariants.{Empty}
use Rattle.sector.specs.Layout.{entries_per_page, entry_size, entry_address, entry_at, entries_of}
use Rattle.sector.specs.Map.{state_at, states_of}
use Rattle.sector.proofs.Laws.{length-entries_of, get_d_entries_of, length-states_of, get_d_states_of}
use Rattle.call_purge_namespace.specs.PurgeNamespace.{purged, passed, to_zero, zero_units}

-- a loop's turn: an entry zeroed where it is marked, and then those after it
pub run_marked : (marks : List Bool) (i : ℕ) (image : List ℕ) {after : List ℕ} → i < length marks
    → after ≡ run (cond (get_or marks i false) (units (entry_address i) (replicate entry_size 0)) []) image
    → run (zero_units (i + 1) (drop (i + 1) marks)) after ≡ run (zero_units i (drop i marks)) image
unfolding zero_units
run_marked marks i image inside zeroed =
    rw (zeroed, add-one i, drop-cons marks i false inside)
    (sym (run_append (cond (get_or marks i false) (units (entry_address i) (replicate entry_size 0)) []) (zero_units (suc i) (drop (suc i) marks)) image))

-- ---- the walk

module _ (namespace : ℕ) (map image : List ℕ) (i : ℕ) (long : length map ≡ 32) (inside : i < entries_per_page) where
  -- an entry after a header goes as the header did
  pub to_zero-passed : (k : ℕ) (zeroing : Bool) → 0 < k
      → to_zero namespace k zeroing (drop i (states_of map)) (drop i (entries_of image))
      ≡ zeroing ∷ to_zero namespace (k - 1) zeroing (drop (i + 1) (states_of map)) (drop (i + 1) (entries_of image))
  unfolding to_zero
  to_zero-passed zero zeroing h = absurd (omega arith)
  to_zero-passed (suc k) zeroing h =
      let states : i < length (states_of map) = rw (length-states_of map long) inside in
      let entries : i < length (entries_of image) = rw (length-entries_of image) inside in
      let less : suc k - 1 ≡ k = omega arith in
      rw (drop-cons (states_of map) i Empty states, drop-cons (entries_of image) i [] entries, add-one i, less)

  -- a header decides
  pub to_zero_header : (zeroing : Bool) {zeroed : Bool} {behind : ℕ}
      → zeroed ≡ purged namespace (state_at map i) (entry_at image i) → behind ≡ passed (state_at map i) (entry_at image i)
      → to_zero namespace 0 zeroing (drop i (states_of map)) (drop i (entries_of image))
      ≡ zeroed ∷ to_zero namespace behind zeroed (drop (i + 1) (states_of map)) (drop (i + 1) (entries_of image))
  unfolding to_zero
  to_zero_header zeroing z b =
      let states : i < length (states_of map) = rw (length-states_of map long) inside in
      let entries : i < length (entries_of image) = rw (length-entries_of image) inside in
      rw (
        drop-cons (states_of map) i Empty states,
        drop-cons (entries_of image) i [] entries,
        get_d_states_of map i long inside,
        get_d_entries_of image i inside,
        add-one i,
        z,
        b,
      )

-- past the last entry
pub to_zero_past : (namespace k : ℕ) (zeroing : Bool) (map : List ℕ) (entries : List (List ℕ)) (i : ℕ) → length map ≡ 32 → entries_per_page ≤ i
    → to_zero namespace k zeroing (drop i (states_of map)) entries ≡ []
unfolding to_zero
to_zero_past namespace k zeroing map entries i long h = rw (drop_of_length-le (states_of map) {i = i} (rw (length-states_of map long) h))

-- a loop's turn: one mark more is in its place
pub marks_next : (marks : List Bool) (i : ℕ) (mark : Bool) (behind : List Bool) {rest whole : List Bool} → i < length marks
    → take i marks ++ rest ≡ whole → rest ≡ mark ∷ behind → take (i + 1) (set marks i mark) ++ behind ≡ whole
marks_next marks i mark behind inside so_far here =
    rw (add-one i, take-suc-set marks i mark inside, append_assoc (take i marks) (mark ∷ []) behind, ← here) so_far
