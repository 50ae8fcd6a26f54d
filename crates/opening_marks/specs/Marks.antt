-- The marks that opening leaves after the walk (01, 'Opening'): a map by its states; the entries before the free tail shut, by where it
-- starts; the states after the first of two passes; the units in which two maps differ.
--
-- The passes are so that a cut during opening, opened again, gives what one whole opening gives: first the upper bit of every entry
-- that becomes Erased and is not the header of a refused payload item, then the new map. Only units that change are programmed.
use Rattle.std.specs.Prelude.{◌≡◌, Bool, ◌&&◌, not, cond, List, [], ◌∷◌, ◌++◌, map, ℕ, zero, suc, ◌+◌, ◌*◌, take, drop}
use Rattle.flash.specs.Flash.{Unit4, units}
use Rattle.sector.specs.declared.EntryMapState.{EntryMapState}
use Rattle.sector.specs.declared.EntryMapState.TheVariants.{Empty, Written, Erased, Illegal}
use Rattle.sector.specs.Layout.{entries_per_page, map_offset, field, same_bytes}
use Rattle.sector.specs.Map.{unpack, states_of, same_state}
use Rattle.opening_reading.specs.Reading.{shut}

-- ---- a map by its states

-- a map with these states, whose bits that belong to no entry are those of the map before
pub record HasStates (before : List ℕ) (states : List EntryMapState) (after : List ℕ) : Type 0 where
  pub states_are : states_of after ≡ states
  pub spare : drop entries_per_page (unpack after) ≡ drop entries_per_page (unpack before)

-- ---- before the free tail

-- the first n states, shut
abbrev pub shut_to : ℕ → List EntryMapState → List EntryMapState
shut_to n states = map shut (take n states) ++ drop n states

-- ---- the first pass

-- the upper bit cleared
abbrev pub upper_cleared : EntryMapState → EntryMapState
upper_cleared Empty = Illegal
upper_cleared Written = Erased
upper_cleared Erased = Erased
upper_cleared Illegal = Illegal

-- the states after the first pass, from those before opening, those that it leaves, and the refused headers
abbrev pub first_pass : List EntryMapState → List EntryMapState → List Bool → List EntryMapState
first_pass [] news headers = []
first_pass (s ∷ states) [] headers = s ∷ states
first_pass (s ∷ states) (new ∷ news) [] = s ∷ states
first_pass (s ∷ states) (new ∷ news) (header ∷ headers) =
    cond (same_state new Erased && not header) (upper_cleared s) s ∷ first_pass states news headers

-- ---- the units that change

-- unit j of a map, of which there are eight
abbrev pub map_unit : ℕ → List ℕ → List ℕ
map_unit j map = field (4 * j) 4 map

-- unit j of the second map, where the two differ in it
abbrev pub changed_unit : ℕ → List ℕ → List ℕ → List Unit4
changed_unit j old new = cond (same_bytes (map_unit j old) (map_unit j new)) [] (units (map_offset + 4 * j) (map_unit j new))

-- the units from j on, n of them, in which two maps differ, with the bytes of the second
unfoldable pub changed_units : ℕ → ℕ → List ℕ → List ℕ → List Unit4
changed_units j zero old new = []
changed_units j (suc n) old new = changed_unit j old new ++ changed_units (suc j) n old new
