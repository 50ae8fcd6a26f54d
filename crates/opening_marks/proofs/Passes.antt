-- The map's marks entry by entry, and its units one by one.
use mathlib.Core.Path.{◌≡◌, refl, sym, ap, ap₂, ◌∙◌}
use mathlib.Core.Bool.{Bool, true, false, ◌&&◌, not, cond}
use mathlib.Core.List.{List, [], ◌∷◌, ◌++◌, append-nil, append_assoc}
use Prim.Native.Nat.{ℕ, zero, suc, ◌+◌, ◌*◌, ◌<◌, ◌≤◌}
use native.Mathlib.Nat.{le_of_suc-le-suc, not-suc-le-zero, le_refl, add-zero}
use native.Mathlib.Numerals.{add-one}
use native.Mathlib.Omega.{arith}
use lib.ListN.{length, take, drop, get_or, length-append, length-take, take-append-drop, drop_of_length-le}
use lib.Seq.{take-suc, take_all, drop-drop, get_or-drop}
use Rattle.flash.specs.Flash.{Unit4, units}
use Rattle.flash.proofs.Laws.{Bytes, length-units_le}
use Rattle.sector.specs.declared.EntryMapState.{EntryMapState}
use Rattle.sector.specs.declared.EntryMapState.TheVariants.{Empty, Written, Erased, Illegal}
use Rattle.sector.specs.Layout.{entries_per_page, map_offset, same_bytes}
use Rattle.sector.specs.Map.{unpack, states_of, state_at, same_state, pack, mark_range}
use Rattle.sector.proofs.Laws.{length-states_of, get_d_states_of, length-mark_range}
use Rattle.sector.proofs.Marks.{both, take_marked, drop_marked, get_d_marked_same, states_of-mark_range, unpack-mark_range, bytes_mark_range, pack_unpack}
use Rattle.opening_reading.specs.Reading.{shut}
use Rattle.opening_marks.specs.Marks.{HasStates, upper_cleared, first_pass, map_unit, changed_unit, changed_units, shut_to}

-- ---- maps by their states

-- a map is its entries' states, and the two that belong to none
map_states : {map : List ℕ} → Bytes map → map ≡ pack (states_of map ++ drop entries_per_page (unpack map))
map_states {map} b = sym (pack_unpack b) ∙ ap pack (sym (take-append-drop entries_per_page (unpack map)))

pub has_states : {before after : List ℕ} {states : List EntryMapState} → Bytes after → HasStates before states after
    → after ≡ pack (states ++ drop entries_per_page (unpack before))
has_states b h = map_states b ∙ ap₂ (λ (front spare : List EntryMapState). pack (front ++ spare)) h.states_are h.spare

-- ---- units

-- one unit more
pub changed_more : (j n : ℕ) (old new : List ℕ) → changed_units j (suc n) old new ≡ changed_units j n old new ++ changed_unit (j + n) old new
unfolding changed_units
changed_more j zero old new = rw (add-zero j) (append-nil _)
changed_more j (suc n) old new =
    let shift : suc j + n ≡ j + suc n = omega arith in
    ap (λ (rest : List Unit4). changed_unit j old new ++ rest) (changed_more (suc j) n old new ∙ rw shift)
    ∙ sym (append_assoc (changed_unit j old new) (changed_units (suc j) n old new) (changed_unit (j + suc n) old new))

-- as many at most as are looked at
pub length_changed_le : (j n : ℕ) (old new : List ℕ) → length (changed_units j n old new) ≤ n
unfolding changed_units
length_changed_le j zero old new = le_refl 0
length_changed_le j (suc n) old new =
    omega (
      arith,
      length-append (changed_unit j old new) (changed_units (suc j) n old new),
      one (same_bytes (map_unit j old) (map_unit j new)),
      length_changed_le (suc j) n old new,
    )
  where
    one : (same : Bool) → length (cond same [] (units (map_offset + 4 * j) (map_unit j new))) ≤ 1
    one true = omega arith
    one false = omega (arith, length-units_le (map_offset + 4 * j) (map_unit j new), length-take 4 (drop (4 * j) new))

-- ---- entries

-- up to i a map has the states of the target, from i on those that it had, and the bits of no entry are as they were
pub record PassedTo (target : List EntryMapState) (map now : List ℕ) (i : ℕ) : Type 0 where
  pub marks : take i (states_of now) ≡ take i target
  pub left : drop i (states_of now) ≡ drop i (states_of map)
  pub spare : drop entries_per_page (unpack now) ≡ drop entries_per_page (unpack map)
  pub bytes : Bytes now
  pub whole : length now ≡ 32

pub passed_start : (target : List EntryMapState) (map : List ℕ) → length map ≡ 32 → Bytes map → PassedTo target map map 0
passed_start target map long b = record { marks = refl; left = refl; spare = refl; bytes = b; whole = long }

pub passed_end : {target : List EntryMapState} {map now : List ℕ} {i : ℕ} → PassedTo target map now i
    → states_of now ≡ take i target ++ drop i (states_of map)
passed_end {now = now} {i = i} to =
    sym (take-append-drop i (states_of now)) ∙ ap₂ (λ (front back : List EntryMapState). front ++ back) to.marks to.left

module _ (target : List EntryMapState) (map now : List ℕ) (i : ℕ) (long : length map ≡ 32) (inside : i < 126) (room : i < length target)
    (to : PassedTo target map now i) where
  -- at the index reached a map has the state that it had
  state_left : get_or (states_of now) i Empty ≡ state_at map i
  state_left =
      (rw add-zero at (sym (get_or-drop i (states_of now) 0 Empty))) ∙ ap (λ (states : List EntryMapState). get_or states 0 Empty) to.left
      ∙ (rw add-zero at (get_or-drop i (states_of map) 0 Empty)) ∙ get_d_states_of map i long inside

  passed_next : (next : List ℕ) → take i (states_of next) ≡ take i (states_of now) → get_or (states_of next) i Empty ≡ get_or target i Empty
      → drop (i + 1) (states_of next) ≡ drop (i + 1) (states_of now) → drop entries_per_page (unpack next) ≡ drop entries_per_page (unpack now)
      → Bytes next → length next ≡ 32 → PassedTo target map next (i + 1)
  passed_next next before at behind spare bytes whole =
      let fits : i < length (states_of next) = rw (length-states_of next whole) inside in
      record {
        marks =
            rw (add-one i, take-suc (states_of next) i Empty fits, take-suc target i Empty room)
            (ap₂ (λ (front : List EntryMapState) (s : EntryMapState). front ++ (s ∷ [])) (before ∙ to.marks) at);
        left =
            behind ∙ sym (drop-drop 1 i (states_of now)) ∙ ap (drop 1) to.left ∙ drop-drop 1 i (states_of map);
        spare = spare ∙ to.spare;
        bytes = bytes;
        whole = whole;
      }

  -- the entry stays
  passed_same : get_or target i Empty ≡ state_at map i → PassedTo target map now (i + 1)
  passed_same e = passed_next now refl (state_left ∙ sym e) refl refl to.bytes to.whole

  -- the entry is marked
  passed_mark : (s : EntryMapState) → get_or target i Empty ≡ both (state_at map i) s → PassedTo target map (mark_range s i 1 now) (i + 1)
  passed_mark s e =
      let states = states_of-mark_range s i 1 to.bytes in
      let fits : i < length (states_of now) = rw (length-states_of now to.whole) inside in
      passed_next (mark_range s i 1 now)
      (rw states (take_marked s i 1 (states_of now) i (le_refl i)))
      (rw (states, get_d_marked_same s i 1 (states_of now) i Empty (le_refl i) (omega arith) fits, state_left) (sym e))
      (rw states (drop_marked s i 1 (states_of now) (i + 1) (le_refl (i + 1))))
      (rw (unpack-mark_range s i 1 to.bytes) (drop_marked s i 1 (unpack now) 126 (omega arith)))
      (bytes_mark_range s i 1 to.bytes)
      (length-mark_range s i 1 now ∙ to.whole)

  -- either, by a test
  pub passed_where : (s : EntryMapState) (marks : Bool) → get_or target i Empty ≡ cond marks (both (state_at map i) s) (state_at map i)
      → PassedTo target map (cond marks (mark_range s i 1 now) now) (i + 1)
  passed_where s true e = passed_mark s e
  passed_where s false e = passed_same e

  pub passed_unless : (s : EntryMapState) (stays : Bool) → get_or target i Empty ≡ cond stays (state_at map i) (both (state_at map i) s)
      → PassedTo target map (cond stays now (mark_range s i 1 now)) (i + 1)
  passed_unless s true e = passed_same e
  passed_unless s false e = passed_mark s e

  -- so it is read from the map as it is
  pub state_there : state_at now i ≡ state_at map i
  state_there = sym (get_d_states_of now i to.whole inside) ∙ state_left

-- ---- before the free tail

shut_is : (s : EntryMapState) → shut s ≡ cond (same_state s Written) s (both s Erased)
shut_is Empty = refl
shut_is Written = refl
shut_is Erased = refl
shut_is Illegal = refl

get_d_shut_to : (n i : ℕ) (states : List EntryMapState) → i < n → n ≤ length states → get_or (shut_to n states) i Empty ≡ shut (get_or states i Empty)
get_d_shut_to zero i states h g = absurd (not-suc-le-zero h)
get_d_shut_to (suc n) i [] h g = absurd (not-suc-le-zero g)
get_d_shut_to (suc n) zero (s ∷ states) h g = refl
get_d_shut_to (suc n) (suc i) (s ∷ states) h g = get_d_shut_to n i states (le_of_suc-le-suc h) (le_of_suc-le-suc g)

length-shut_to : (n : ℕ) (states : List EntryMapState) → length (shut_to n states) ≡ length states
length-shut_to zero states = refl
length-shut_to (suc n) [] = refl
length-shut_to (suc n) (s ∷ states) = ap suc (length-shut_to n states)

shut_to_parts : (n : ℕ) (states : List EntryMapState) → take n (shut_to n states) ++ drop n states ≡ shut_to n states
shut_to_parts zero states = refl
shut_to_parts (suc n) [] = refl
shut_to_parts (suc n) (s ∷ states) = ap (λ (rest : List EntryMapState). shut s ∷ rest) (shut_to_parts n states)

pub shut_step : (end : ℕ) (map now : List ℕ) (i : ℕ) → length map ≡ 32 → i < end → end ≤ 126 → PassedTo (shut_to end (states_of map)) map now i
    → PassedTo (shut_to end (states_of map)) map (cond (same_state (state_at now i) Written) now (mark_range Erased i 1 now)) (i + 1)
shut_step end map now i long within fits to =
    let target = shut_to end (states_of map) in
    let inside : i < 126 = omega arith in
    let room : i < length target = rw (length-shut_to end (states_of map), length-states_of map long) inside in
    let at : get_or target i Empty ≡ shut (state_at map i) =
    get_d_shut_to end i (states_of map) within (rw (length-states_of map long) fits) ∙ ap shut (get_d_states_of map i long inside) in
    rw (state_there target map now i long inside room to)
    (passed_unless target map now i long inside room to Erased (same_state (state_at map i) Written) (at ∙ shut_is (state_at map i)))

pub shut_end : {end : ℕ} {map now : List ℕ} → PassedTo (shut_to end (states_of map)) map now end → HasStates map (shut_to end (states_of map)) now
shut_end {end} {map} to = record { states_are = passed_end to ∙ shut_to_parts end (states_of map); spare = to.spare }

-- ---- the first pass

upper_cleared_illegal : (s : EntryMapState) → upper_cleared s ≡ both s Illegal
upper_cleared_illegal Empty = refl
upper_cleared_illegal Written = refl
upper_cleared_illegal Erased = refl
upper_cleared_illegal Illegal = refl

length-first_pass : (states news : List EntryMapState) (heads : List Bool) → length (first_pass states news heads) ≡ length states
length-first_pass [] news heads = refl
length-first_pass (s ∷ states) [] heads = refl
length-first_pass (s ∷ states) (new ∷ news) [] = refl
length-first_pass (s ∷ states) (new ∷ news) (head ∷ heads) = ap suc (length-first_pass states news heads)

get_d_first_pass : (i : ℕ) (states news : List EntryMapState) (heads : List Bool) → i < length states → i < length news → i < length heads
    → get_or (first_pass states news heads) i Empty
    ≡ cond (same_state (get_or news i Empty) Erased && not (get_or heads i false)) (upper_cleared (get_or states i Empty)) (get_or states i Empty)
get_d_first_pass i [] news heads h g f = absurd (not-suc-le-zero h)
get_d_first_pass i (s ∷ states) [] heads h g f = absurd (not-suc-le-zero g)
get_d_first_pass i (s ∷ states) (new ∷ news) [] h g f = absurd (not-suc-le-zero f)
get_d_first_pass zero (s ∷ states) (new ∷ news) (head ∷ heads) h g f = refl
get_d_first_pass (suc i) (s ∷ states) (new ∷ news) (head ∷ heads) h g f =
    get_d_first_pass i states news heads (le_of_suc-le-suc h) (le_of_suc-le-suc g) (le_of_suc-le-suc f)

module _ (map opened : List ℕ) (heads : List Bool) (long : length map ≡ 32) (opened_long : length opened ≡ 32) (heads_long : length heads ≡ 126) where
  abbrev passed : List EntryMapState
  passed = first_pass (states_of map) (states_of opened) heads

  passed_long : length passed ≡ 126
  passed_long = length-first_pass (states_of map) (states_of opened) heads ∙ length-states_of map long

  pub first_step : (now : List ℕ) (i : ℕ) → i < 126 → PassedTo passed map now i
      → PassedTo passed map (cond (same_state (state_at opened i) Erased && not (get_or heads i false)) (mark_range Illegal i 1 now) now) (i + 1)
  first_step now i inside to =
      let clears = same_state (state_at opened i) Erased && not (get_or heads i false) in
      let at : get_or passed i Empty ≡ cond clears (upper_cleared (state_at map i)) (state_at map i) =
      get_d_first_pass i (states_of map) (states_of opened) heads (rw (length-states_of map long) inside) (rw (length-states_of opened opened_long) inside) (rw heads_long inside)
      ∙ rw (get_d_states_of map i long inside, get_d_states_of opened i opened_long inside) in
      passed_where passed map now i long inside (rw passed_long inside) to Illegal clears
      (at ∙ ap (λ (s : EntryMapState). cond clears s (state_at map i)) (upper_cleared_illegal (state_at map i)))

  pub first_end : {now : List ℕ} → PassedTo passed map now 126 → HasStates map passed now
  first_end to =
      let whole : length passed ≤ 126 = rw passed_long (le_refl 126) in
      let short : length (states_of map) ≤ 126 = rw (length-states_of map long) (le_refl 126) in
      record {
        states_are = passed_end to ∙ rw (take_all 126 passed whole, drop_of_length-le (states_of map) short) (append-nil passed);
        spare = to.spare;
      }
